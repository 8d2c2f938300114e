-- Each event of the packer is one of the table of code indices.
use Rattle.std.proofs.Common.{◌≡◌, ℕ, ◌<◌, ◌+◌, ◌/◌, ◌%◌, ◌⊎◌, inl, inr, List, [], ◌∷◌, ◌++◌, get_or, Bool, true, false, Option, Some, None, refl, sym, subst, arith}
use Rattle.std.specs.Prelude.{All, IfSome, option_to_list, if◌then◌else◌}
use Rattle.std.proofs.lemmas.Bool.Decides.{nat_tests}
use Rattle.std.proofs.lemmas.List.Elements.{All-nil, All-cons}
use Rattle.midi_events.specs.declared.packing.Kind.{Kind}
use Rattle.midi_events.specs.declared.packing.Kind.TheVariants.{Data, Channel, SysExStart, Common, Undefined, TuneRequest, SysExEnd, RealTime}
use Rattle.midi_events.specs.Bytes.{kind, data_count, runs_on, code_index}
use Rattle.midi_events.specs.Events.{packet, carried_counts}
use Rattle.midi_events.specs.Packing.{State, Idle, InSysEx, InMessage, event_at, kept_after, event, after, packed}
use Rattle.midi_events.specs.Table.{index_of, IsTableEvent}
use Rattle.midi_events.proofs.ByteKinds.{count_cases, is_f7-kind, carried-channel}

-- the first byte of a piece of a SysEx
abbrev pub Opens : ℕ → Type 0
Opens a = (a < 128) ⊎ (a ≡ 240)

-- the status of a message with data
abbrev pub IsStatus : ℕ → Type 0
IsStatus status = (kind status ≡ Channel) ⊎ (kind status ≡ Common)

-- the states that a stream leads to, by what is kept
pub data Keeps : State → Type 0 where
  idle : Keeps Idle
  none : Keeps (InSysEx [])
  one : (a : ℕ) → Opens a → Keeps (InSysEx (a ∷ []))
  two : (a b : ℕ) → Opens a → b < 128 → Keeps (InSysEx (a ∷ b ∷ []))
  message : (status : ℕ) → IsStatus status → Keeps (InMessage status [])
  first : (status a : ℕ) → IsStatus status → data_count status ≡ 2 → Keeps (InMessage status (a ∷ []))

data_below : (byte : ℕ) → kind byte ≡ Data → byte < 128
data_below byte k = grind (arith, nat_tests)

start_is : (byte : ℕ) → kind byte ≡ SysExStart → byte ≡ 240
start_is byte k = grind (arith, nat_tests)

-- the code index, by what an event carries
index_open : (a b c : ℕ) → Opens a → b < 128 → c < 128 → index_of a b c ≡ 4
index_open a b c (inl h) k l = grind (arith, nat_tests)
index_open a b c (inr h) k l = grind (arith, nat_tests)

index_three : (a b : ℕ) → Opens a → b < 128 → index_of a b 247 ≡ 7
index_three a b (inl h) k = grind (arith, nat_tests)
index_three a b (inr h) k = grind (arith, nat_tests)

index_two : (a : ℕ) → Opens a → index_of a 247 0 ≡ 6
index_two a (inl h) = grind (arith, nat_tests)
index_two a (inr h) = grind (arith, nat_tests)

index_real_time : (byte : ℕ) → kind byte ≡ RealTime → index_of byte 0 0 ≡ 15
index_real_time byte k = grind (arith, nat_tests)

index_tune : (byte : ℕ) → kind byte ≡ TuneRequest → index_of byte 0 0 ≡ 5
index_tune byte k = grind (arith, nat_tests)

index_channel : (status b c : ℕ) → kind status ≡ Channel → code_index status ≡ index_of status b c
index_channel status b c k = grind (arith, nat_tests)

index_common : (status b c : ℕ) → kind status ≡ Common → code_index status ≡ index_of status b c
index_common status b c k = grind (arith, nat_tests)

index_status : (status b c : ℕ) → IsStatus status → code_index status ≡ index_of status b c
index_status status b c (inl k) = index_channel status b c k
index_status status b c (inr k) = index_common status b c k

code_channel : (status : ℕ) → kind status ≡ Channel → code_index status ≡ status / 16
code_channel status k = grind (arith, nat_tests)

-- what a message carries is as long as its code index says
carried_is : (status : ℕ) → IsStatus status → get_or carried_counts (code_index status % 16) 0 ≡ data_count status + 1
carried_is status (inl k) = rw (code_channel status k) (carried-channel status k)
carried_is status (inr k) = grind (arith, nat_tests)

-- a whole message
message_one : (status byte : ℕ) → IsStatus status → data_count status ≡ 1 → IsTableEvent (packet (code_index status) (status ∷ byte ∷ []))
message_one status byte k is_one = record {
  four = refl;
  index = index_status status byte 0 k;
  filled = rw (carried_is status k, is_one) refl;
}

message_two : (status a byte : ℕ) → IsStatus status → data_count status ≡ 2 → IsTableEvent (packet (code_index status) (status ∷ a ∷ byte ∷ []))
message_two status a byte k is_two = record {
  four = refl;
  index = index_status status a byte k;
  filled = rw (carried_is status k, is_two) refl;
}

-- the event at a byte
at_data : {s : State} → Keeps s → (byte : ℕ) → byte < 128 → IfSome (event_at Data s byte) IsTableEvent
at_data idle byte h = tt
at_data none byte h = tt
at_data (one a p) byte h = tt
at_data (two a b p q) byte h = record { four = refl; index = sym (index_open a b byte p q h); filled = refl }
at_data (message status k) byte h =
    elim (count_cases status) [
      | inl is_one ↦ rw is_one (message_one status byte k is_one)
      | inr is_two ↦ rw is_two tt
    ]
at_data (first status a k is_two) byte h = rw is_two (message_two status a byte k is_two)

at_end : {s : State} → Keeps s → IfSome (event_at SysExEnd s 247) IsTableEvent
at_end idle = tt
at_end none = record { four = refl; index = refl; filled = refl }
at_end (one a p) = record { four = refl; index = sym (index_two a p); filled = refl }
at_end (two a b p q) = record { four = refl; index = sym (index_three a b p q); filled = refl }
at_end (message status k) = tt
at_end (first status a k is_two) = tt

at_byte : {s : State} → Keeps s → (byte : ℕ) (k : Kind) → kind byte ≡ k → IfSome (event_at k s byte) IsTableEvent
at_byte r byte Data is_k = at_data r byte (data_below byte is_k)
at_byte r byte Channel is_k = tt
at_byte r byte SysExStart is_k = tt
at_byte r byte Common is_k = tt
at_byte r byte Undefined is_k = tt
at_byte r byte TuneRequest is_k = record { four = refl; index = sym (index_tune byte is_k); filled = refl }
at_byte {s} r byte SysExEnd is_k = subst (λ b. IfSome (event_at SysExEnd s b) IsTableEvent) (sym (is_f7-kind byte is_k)) (at_end r)
at_byte r byte RealTime is_k = record { four = refl; index = sym (index_real_time byte is_k); filled = refl }

-- what is kept behind a byte
whole_kept : (status : ℕ) → IsStatus status → (on : Bool) → Keeps (if on then InMessage status [] else Idle)
whole_kept status k true = message status k
whole_kept status k false = idle

kept_at_data : {s : State} → Keeps s → (byte : ℕ) → byte < 128 → Keeps (kept_after Data s byte)
kept_at_data idle byte h = idle
kept_at_data none byte h = one byte (inl h)
kept_at_data (one a p) byte h = two a byte p h
kept_at_data (two a b p q) byte h = none
kept_at_data (message status k) byte h =
    elim (count_cases status) [
      | inl is_one ↦ rw is_one (whole_kept status k (runs_on status))
      | inr is_two ↦ rw is_two (first status byte k is_two)
    ]
kept_at_data (first status a k is_two) byte h = rw is_two (whole_kept status k (runs_on status))

kept_at : {s : State} → Keeps s → (byte : ℕ) (k : Kind) → kind byte ≡ k → Keeps (kept_after k s byte)
kept_at r byte Data is_k = kept_at_data r byte (data_below byte is_k)
kept_at r byte Channel is_k = message byte (inl is_k)
kept_at r byte SysExStart is_k = one byte (inr (start_is byte is_k))
kept_at r byte Common is_k = message byte (inr is_k)
kept_at r byte Undefined is_k = idle
kept_at r byte TuneRequest is_k = idle
kept_at r byte SysExEnd is_k = idle
kept_at r byte RealTime is_k = r

one_more : (o : Option (List ℕ)) (later : List (List ℕ)) → IfSome o IsTableEvent → All IsTableEvent later → All IsTableEvent (option_to_list o ++ later)
one_more None later h k = k
one_more (Some e) later h k = All-cons IsTableEvent e later h k

pub all_of_the_table : (stream : List ℕ) {s : State} → Keeps s → All IsTableEvent (packed s stream)
all_of_the_table [] r = All-nil IsTableEvent
all_of_the_table (byte ∷ rest) {s} r =
    one_more (event s byte) (packed (after s byte) rest) (at_byte r byte (kind byte) refl) (all_of_the_table rest (kept_at r byte (kind byte) refl))

pub events_of_the_table : (stream : List ℕ) → All IsTableEvent (packed Idle stream)
events_of_the_table stream = all_of_the_table stream idle
