-- What a class sees of each pipe, and that a call changes one pipe.
use Rattle.std.specs.Prelude.{◌≡◌, ℕ, List, [], ◌∷◌, Bool, true, false}
use Rattle.usb_packet.specs.declared.bus.Toggle.TheVariants.{D0}
use Rattle.device_pipe.specs.InPipe as inward
use Rattle.device_pipe.specs.InPipe.{InPipe, InPhase}
use Rattle.device_pipe.specs.OutPipe as out
use Rattle.device_pipe.specs.OutPipe.{OutPipe, OutPhase}
use Rattle.usb_pipe.specs.declared.phase.Phase.TheVariants as phase
use Rattle.usb_pipe.specs.Own.{Own, Sender, no_pipes, phase_at, held_at, room_at, taken_of, written, given, read, started, armed, halted_at, dropped_at}

-- an owner whose receiving pipe is so, and one whose two sending pipes are
abbrev pub receiving : OutPhase → Bool → Own
receiving p halted = record no_pipes { receives = record { capacity = 256; pipe = record { phase = p; halted = halted; toggle = D0; held = [] } } }

abbrev pub sends_so : InPhase → Bool → Sender
sends_so p halted = record { size = 64; capacity = 256; pipe = record { queue = []; phase = p; loaded = 0; toggle = D0; halted = halted } }

abbrev pub sending : InPhase → Bool → Own
sending p halted = record no_pipes { sends = sends_so p halted; notifies = sends_so p halted }

-- A pipe that waits for a packet is running, and so is one that holds a packet which no handler run has moved, or in whose place
-- one that was dropped still lies. A halt hides all of that (USB 2.0, 9.4.5). What isn't open is closed.
pub record PhasesSeen : Type 0 where
  pub rests : phase_at (receiving out.Rest false) 1 ≡ phase.Rest
  pub waits : phase_at (receiving out.Armed false) 1 ≡ phase.Running
  pub landed : (packet : List ℕ) → phase_at (receiving (out.Landed packet) false) 1 ≡ phase.Running
  pub dropped : phase_at (receiving out.Stale false) 1 ≡ phase.Running
  pub posted : phase_at (receiving out.Posted false) 1 ≡ phase.Posted
  pub closed : (over : Bool) → phase_at (receiving (out.Closed over) false) 1 ≡ phase.Closed
  pub halted : (p : OutPhase) → phase_at (receiving p true) 1 ≡ phase.Halted
  pub in_rests : (phase_at (sending inward.Rest false) 0 ≡ phase.Rest) × (phase_at (sending inward.Rest false) 2 ≡ phase.Rest)
  pub in_runs : (n : ℕ) (left : List (List ℕ)) → (phase_at (sending (inward.Running n left) false) 0 ≡ phase.Running) × (phase_at (sending (inward.Running n left) false) 2 ≡ phase.Running)
  pub in_posted : (n : ℕ) → (phase_at (sending (inward.Posted n) false) 0 ≡ phase.Posted) × (phase_at (sending (inward.Posted n) false) 2 ≡ phase.Posted)
  pub in_closed : (phase_at (sending inward.Closed false) 0 ≡ phase.Closed) × (phase_at (sending inward.Closed false) 2 ≡ phase.Closed)
  pub in_halted : (p : InPhase) → (phase_at (sending p true) 0 ≡ phase.Halted) × (phase_at (sending p true) 2 ≡ phase.Halted)
  pub none : (phase_at no_pipes 0 ≡ phase.Closed) × (phase_at no_pipes 1 ≡ phase.Closed) × (phase_at no_pipes 2 ≡ phase.Closed)
  pub none_held : (held_at no_pipes 0 ≡ 0) × (room_at no_pipes 0 ≡ 0) × (held_at no_pipes 1 ≡ 0) × (room_at no_pipes 1 ≡ 0)

-- A call on one pipe leaves the two others.
pub record CallsAreApart : Type 0 where
  pub first : (own : Own) (bytes : List ℕ) → ((written own 0 bytes).receives ≡ own.receives) × ((written own 0 bytes).notifies ≡ own.notifies)
  pub third : (own : Own) (bytes : List ℕ) → ((written own 2 bytes).receives ≡ own.receives) × ((written own 2 bytes).sends ≡ own.sends)
  pub first_started : (own : Own) → ((started own 0).receives ≡ own.receives) × ((started own 0).notifies ≡ own.notifies)
  pub third_started : (own : Own) → ((started own 2).receives ≡ own.receives) × ((started own 2).sends ≡ own.sends)
  pub second_read : (own : Own) (most : ℕ) → ((read own most).sends ≡ own.sends) × ((read own most).notifies ≡ own.notifies)
  pub second_armed : (own : Own) → ((armed own).sends ≡ own.sends) × ((armed own).notifies ≡ own.notifies)
  pub halts : (own : Own) → ((halted_at own 0).receives ≡ own.receives) × ((halted_at own 1).sends ≡ own.sends) × ((halted_at own 2).sends ≡ own.sends)
  pub drops : (own : Own) → ((dropped_at own 0).receives ≡ own.receives) × ((dropped_at own 1).sends ≡ own.sends) × ((dropped_at own 2).sends ≡ own.sends)

-- What a call does to its own: a transfer has the endpoint's size, bytes are queued and read in order, as many as have room.
pub record CallsWorked : Type 0 where
  pub written_is : (written (sending inward.Rest false) 0 (1 ∷ 2 ∷ [])).sends.pipe.queue ≡ 1 ∷ 2 ∷ []
  pub taken_is : taken_of (record no_pipes { sends = record (sends_so inward.Rest false) { capacity = 1 } }) 0 (1 ∷ 2 ∷ []) ≡ 1
  pub started_is : (started (record no_pipes { sends = record { size = 2; capacity = 8; pipe = record { queue = 1 ∷ 2 ∷ 3 ∷ []; phase = inward.Rest; loaded = 0; toggle = D0; halted = false } } }) 0).sends.pipe.phase
      ≡ inward.Running 3 ((1 ∷ 2 ∷ []) ∷ (3 ∷ []) ∷ [])
  pub given_is : given (record no_pipes { receives = record { capacity = 8; pipe = record { phase = out.Rest; halted = false; toggle = D0; held = 1 ∷ 2 ∷ 3 ∷ [] } } }) 2 ≡ 1 ∷ 2 ∷ []
  pub left_is : (read (record no_pipes { receives = record { capacity = 8; pipe = record { phase = out.Rest; halted = false; toggle = D0; held = 1 ∷ 2 ∷ 3 ∷ [] } } }) 2).receives.pipe.held ≡ 3 ∷ []
  pub armed_is : (armed (receiving out.Rest false)).receives.pipe.phase ≡ out.Armed
  pub halted_is : ((halted_at (receiving out.Rest false) 1).receives.pipe.halted ≡ true) × ((halted_at (sending inward.Rest false) 0).sends.pipe.halted ≡ true) × ((halted_at (sending inward.Rest false) 2).notifies.pipe.halted ≡ true)
