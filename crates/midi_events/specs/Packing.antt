-- The packer, by cases on what a byte is and what came before it.
use Rattle.std.specs.Prelude.{ℕ, ◌+◌, List, [], ◌∷◌, ◌++◌, length, Option, Some, None, option_to_list, ◌==◌, nat_lt, if◌then◌else◌}
use Rattle.midi_events.specs.declared.packing.Kind.{Kind}
use Rattle.midi_events.specs.declared.packing.Kind.TheVariants.{Data, Channel, SysExStart, Common, Undefined, TuneRequest, SysExEnd, RealTime}
use Rattle.midi_events.specs.Bytes.{kind, data_count, runs_on, code_index}
use Rattle.midi_events.specs.Events.{packet}

-- what the next data byte belongs to
pub data State : Type 0 where
  -- to nothing
  Idle : State
  -- to a SysEx, of which these bytes are kept since its last event
  InSysEx : (kept : List ℕ) → State
  -- to a message with this status, of which these data bytes are kept; none are right after a whole message, and the
  -- status is then the running status
  InMessage : (status : ℕ) (kept : List ℕ) → State

-- the event at a byte of this kind, if there is one
abbrev pub event_at : Kind → State → ℕ → Option (List ℕ)
event_at RealTime state byte = Some (packet 15 (byte ∷ []))
event_at SysExStart state byte = None
event_at SysExEnd Idle byte = None
event_at SysExEnd (InSysEx kept) byte = Some (packet (5 + length kept) (kept ++ byte ∷ []))
event_at SysExEnd (InMessage status kept) byte = None
event_at Undefined state byte = None
event_at TuneRequest state byte = Some (packet 5 (byte ∷ []))
event_at Common state byte = None
event_at Channel state byte = None
event_at Data Idle byte = None
event_at Data (InSysEx kept) byte = if length kept == 2 then Some (packet 4 (kept ++ byte ∷ [])) else None
event_at Data (InMessage status kept) byte =
    if nat_lt (length kept + 1) (data_count status) then None
    else Some (packet (code_index status) (status ∷ (kept ++ byte ∷ [])))

-- what the packer keeps after a byte of this kind
abbrev pub kept_after : Kind → State → ℕ → State
kept_after RealTime state byte = state
kept_after SysExStart state byte = InSysEx (byte ∷ [])
kept_after SysExEnd state byte = Idle
kept_after Undefined state byte = Idle
kept_after TuneRequest state byte = Idle
kept_after Common state byte = InMessage byte []
kept_after Channel state byte = InMessage byte []
kept_after Data Idle byte = Idle
kept_after Data (InSysEx kept) byte = if length kept == 2 then InSysEx [] else InSysEx (kept ++ byte ∷ [])
kept_after Data (InMessage status kept) byte =
    if nat_lt (length kept + 1) (data_count status) then InMessage status (kept ++ byte ∷ [])
    else if runs_on status then InMessage status []
    else Idle

abbrev pub event : State → ℕ → Option (List ℕ)
event state byte = event_at (kind byte) state byte

abbrev pub after : State → ℕ → State
after state byte = kept_after (kind byte) state byte

-- the events of a whole stream
abbrev pub packed : State → List ℕ → List (List ℕ)
packed state [] = []
packed state (byte ∷ rest) = option_to_list (event state byte) ++ packed (after state byte) rest

-- what the packer keeps behind a stream
abbrev pub after_all : State → List ℕ → State
after_all state [] = state
after_all state (byte ∷ rest) = after_all (after state byte) rest
