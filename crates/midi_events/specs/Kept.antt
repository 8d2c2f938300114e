-- What the packer's fields stand for.
use Rattle.std.specs.Prelude.{ℕ, List, [], ◌∷◌, option_to_list}
use Rattle.midi_events.specs.declared.packing.Kept.{Kept}
use Rattle.midi_events.specs.declared.packing.Kept.TheVariants.{Nothing as NoneKept, One, Two}
use Rattle.midi_events.specs.declared.packing.Unfinished.{Unfinished}
use Rattle.midi_events.specs.declared.packing.Unfinished.TheVariants.{Nothing, SysEx, Message}
use Rattle.midi_events.specs.Packing.{State, Idle, InSysEx, InMessage}

abbrev pub kept_bytes : Kept → List ℕ
kept_bytes NoneKept = []
kept_bytes (One a) = a ∷ []
kept_bytes (Two a b) = a ∷ b ∷ []

abbrev pub state_of : Unfinished → State
state_of Nothing = Idle
state_of (SysEx kept) = InSysEx (kept_bytes kept)
state_of (Message status first) = InMessage status (option_to_list first)
