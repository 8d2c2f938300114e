-- What stands between a device and what is seen of it, at every moment of a run.
use Rattle.std.proofs.Common.{◌≡◌, ◌<◌, ℕ, List, [], ◌∷◌, Bool, true, false, length, is_some, Option, Some, None}
use Rattle.usb_packet.specs.declared.bus.Toggle.{Toggle}
use Rattle.usb_packet.specs.declared.bus.Toggle.TheVariants.{D1}
use Rattle.device_machine.specs.declared.control.Stage.TheVariants.{Sent, Came}
use Rattle.device_machine.specs.declared.control.Side.{Side}
use Rattle.device_machine.specs.declared.control.Side.TheVariants.{Off, Wait, Loaded, Last, Armed, Stall, Finished}
use Rattle.device_machine.specs.Bus.{finished_stage, last_of}
use Rattle.device_machine.specs.Pipes.{Pipes}
use Rattle.device_owners.specs.Device.{Core, Transfer, Idle, Sending, Taking, Ending, Addressing, Foreign, new_address}
use Rattle.device_laws.specs.Seen.{Attention, Deaf, Waiting, Listening, Seen, asked_address}

abbrev pub Attends : Bool → Bool → Attention → Type 0
Attends false false Deaf = Unit {0}
Attends false true Deaf = ⊥
Attends true reset Deaf = ⊥
Attends false true Waiting = Unit {0}
Attends false false Waiting = ⊥
Attends true reset Waiting = ⊥
Attends true false Listening = Unit {0}
Attends true true Listening = ⊥
Attends false reset Listening = ⊥

-- where a note stands, endpoint 0 holds nothing
abbrev pub Quiet : {A : Type 0} → Option A → Side → Type 0
Quiet None side = Unit {0}
Quiet (Some pending) side = side ≡ Off

-- a transfer runs; one with data, for the host or for a class. The whole device runs no foreign one
abbrev pub Runs : Transfer → Type 0
Runs Idle = ⊥
Runs (Sending packets) = Unit {0}
Runs (Taking o setup) = Unit {0}
Runs Foreign = ⊥
Runs Ending = Unit {0}
Runs (Addressing n) = Unit {0}

abbrev pub Sends : Transfer → Type 0
Sends Idle = ⊥
Sends (Sending packets) = Unit {0}
Sends (Taking o setup) = Unit {0}
Sends Foreign = ⊥
Sends Ending = ⊥
Sends (Addressing n) = ⊥

abbrev pub Waits : Bool → Transfer → Type 0
Waits true transfer = Sends transfer
Waits false transfer = Runs transfer

-- what endpoint 0 holds goes with the transfer that runs
abbrev pub Underway : Transfer → Side → Type 0
Underway transfer Off = Unit {0}
Underway transfer Stall = Unit {0}
Underway transfer (Wait packet last) = Waits last transfer
Underway transfer (Loaded packet) = Runs transfer
Underway transfer (Last packet) = Sends transfer
Underway transfer Armed = Sends transfer
Underway transfer (Finished Sent) = Runs transfer
Underway transfer (Finished (Came packet)) = Sends transfer

abbrev pub Small : Transfer → Type 0
Small Idle = Unit {0}
Small (Sending packets) = Unit {0}
Small (Taking o setup) = Unit {0}
Small Foreign = ⊥
Small Ending = Unit {0}
Small (Addressing n) = n < 128

-- the transfer that runs is that of the last SETUP
abbrev pub Serves : Option (List ℕ) → Transfer → List ℕ → Type 0
Serves (Some bytes) transfer request = bytes ≡ request
Serves None Idle request = Unit {0}
Serves None (Sending packets) request = asked_address request ≡ None
Serves None (Taking o setup) request = asked_address request ≡ None
Serves None Foreign request = Unit {0}
Serves None Ending request = asked_address request ≡ None
Serves None (Addressing n) request = asked_address request ≡ Some n

abbrev pub Matches : List (List ℕ) → Option (List ℕ) → Transfer → List ℕ → Type 0
Matches [] pending transfer request = Serves pending transfer request
Matches (bytes ∷ more) pending transfer request = last_of (bytes ∷ more) ≡ Some request

-- after a SETUP, until a task took it, no packet was taken and the next toggle is DATA1
pub record IsFresh (taken : Bool) (toggle : Toggle) : Type 0 where
  pub untaken : taken ≡ false
  pub first : toggle ≡ D1

abbrev pub Fresh : List (List ℕ) → Option (List ℕ) → Bool → Toggle → Type 0
Fresh [] None taken toggle = Unit {0}
Fresh [] (Some bytes) taken toggle = IsFresh taken toggle
Fresh (bytes ∷ more) pending taken toggle = IsFresh taken toggle

pub record Facts (core : Core) (seen : Seen) : Type 0 where
  pub attends : Attends core.bus.awake core.bus.reset seen.attention
  pub address : core.bus.address ≡ seen.address
  pub bounded : seen.address < 128
  pub count : length core.bus.unserved ≡ seen.unserved
  pub noted : is_some core.request ≡ seen.noted
  pub due : new_address core.transfer (finished_stage core.bus.side) ≡ seen.due
  pub matches : Matches core.bus.unserved core.request core.transfer seen.request
  pub fresh : Fresh core.bus.unserved core.request core.bus.taken core.bus.toggle
  pub quiet : Quiet core.request core.bus.side
  pub settled : Quiet core.finished core.bus.side
  pub underway : Underway core.transfer core.bus.side
  pub small : Small core.transfer

-- the pipes have no part in it
pub facts_piped : (core : Core) (seen : Seen) (pipes : Pipes) → Facts core seen → Facts (record core { pipes = pipes }) seen
facts_piped core seen pipes h = record {
  attends = h.attends;
  address = h.address;
  bounded = h.bounded;
  count = h.count;
  noted = h.noted;
  due = h.due;
  matches = h.matches;
  fresh = h.fresh;
  quiet = h.quiet;
  settled = h.settled;
  underway = h.underway;
  small = h.small;
}
