-- An event has four bytes at most, whatever the packer keeps.
use Rattle.std.proofs.Common.{◌≡◌, ℕ, ◌+◌, ◌≤◌, List, [], ◌∷◌, ◌++◌, length, take, Bool, true, false, Option, Some, None, arith}
use Rattle.std.specs.Prelude.{option_to_list, ◌==◌, nat_lt, if◌then◌else◌}
use Rattle.std.specs.List.{concat}
use Rattle.std.proofs.lemmas.List.{length-take, append-nil}
use Rattle.midi_events.specs.declared.packing.Kind.{Kind}
use Rattle.midi_events.specs.declared.packing.Kind.TheVariants.{Data, Channel, SysExStart, Common, Undefined, TuneRequest, SysExEnd, RealTime}
use Rattle.midi_events.specs.Bytes.{kind, data_count, code_index}
use Rattle.midi_events.specs.Events.{packet}
use Rattle.midi_events.specs.Packing.{State, Idle, InSysEx, InMessage, event_at, event}

-- the bytes of one event, or of none
abbrev IsSmall : Option (List ℕ) → Type 0
IsSmall e = length (concat (option_to_list e)) ≤ 4

four : (bytes : List ℕ) → length (take 4 bytes ++ []) ≤ 4
four bytes = let e = append-nil (take 4 bytes) in let h = length-take 4 bytes in rw e (omega arith)

small-none : IsSmall None
small-none = omega arith

small-packet : (code : ℕ) (bytes : List ℕ) → IsSmall (Some (packet code bytes))
small-packet code bytes = four (code ∷ (bytes ++ 0 ∷ 0 ∷ []))

small-if : (b : Bool) (x y : Option (List ℕ)) → IsSmall x → IsSmall y → IsSmall (if b then x else y)
small-if true x y h k = h
small-if false x y h k = k

small_at : (k : Kind) (s : State) (byte : ℕ) → IsSmall (event_at k s byte)
small_at RealTime s byte = small-packet 15 (byte ∷ [])
small_at SysExStart s byte = small-none
small_at SysExEnd Idle byte = small-none
small_at SysExEnd (InSysEx kept) byte = small-packet (5 + length kept) (kept ++ byte ∷ [])
small_at SysExEnd (InMessage status kept) byte = small-none
small_at Undefined s byte = small-none
small_at TuneRequest s byte = small-packet 5 (byte ∷ [])
small_at Common s byte = small-none
small_at Channel s byte = small-none
small_at Data Idle byte = small-none
small_at Data (InSysEx kept) byte =
    small-if (length kept == 2) (Some (packet 4 (kept ++ byte ∷ []))) None (small-packet 4 (kept ++ byte ∷ [])) small-none
small_at Data (InMessage status kept) byte =
    let whole = status ∷ (kept ++ byte ∷ []) in
    small-if (nat_lt (length kept + 1) (data_count status)) None (Some (packet (code_index status) whole)) small-none (small-packet (code_index status) whole)

pub small : (s : State) (byte : ℕ) → length (concat (option_to_list (event s byte))) ≤ 4
small s byte = small_at (kind byte) s byte
