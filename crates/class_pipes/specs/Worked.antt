-- Pipes that were worked by hand after USB 2.0, 5.8.3 and 9.4.5.
use Rattle.std.specs.Prelude.{◌≡◌, ℕ, List, [], ◌∷◌, Bool, true, false, replicate}
use Rattle.usb_packet.specs.declared.bus.Toggle.TheVariants.{D0}
use Rattle.usb_packet.specs.declared.setup.Setup.{Setup}
use Rattle.device_pipe.specs.InPipe as inward
use Rattle.device_pipe.specs.InPipe.{InPhase}
use Rattle.device_pipe.specs.OutPipe as out
use Rattle.device_pipe.specs.OutPipe.{OutPhase}
use Rattle.usb_pipe.specs.Own.{Own, Sender, Receiver, no_pipes, no_sender}
use Rattle.class_pipes.specs.Pipes.{is_shut, with_armed, with_started}
use Rattle.class_pipes.specs.Requests.{is_request}

-- pipes in a session: two bytes or none queued for the host, and so many bytes held from it
abbrev pub sending : List ℕ → InPhase → Bool → Sender
sending queue phase halted =
    record { size = 64; capacity = 256; pipe = record { queue = queue; phase = phase; loaded = 0; toggle = D0; halted = halted } }

abbrev pub receiving : ℕ → OutPhase → Bool → Receiver
receiving held phase halted =
    record { capacity = 256; pipe = record { phase = phase; halted = halted; toggle = D0; held = replicate held 7 } }

abbrev pub session : Sender → Receiver → Own
session sends receives = record { sends = sends; receives = receives; notifies = no_sender }

abbrev pub idle : Sender
idle = sending [] inward.Rest false

abbrev pub empty : Receiver
empty = receiving 0 out.Rest false

abbrev pub Arms : Receiver → Receiver → Type 0
Arms old new = with_armed (session idle old) ≡ session idle new

abbrev pub Starts : Sender → Sender → Type 0
Starts old new = with_started (session old empty) 0 ≡ session new empty

abbrev pub two : InPhase → Bool → Sender
two phase halted = sending (1 ∷ 2 ∷ []) phase halted

abbrev pub under_way : InPhase
under_way = inward.Running 2 ((1 ∷ 2 ∷ []) ∷ [])

-- GET_STATUS of an interface (USB 2.0, 9.4.5), and the same from the host
abbrev pub status_of : ℕ → ℕ → Setup
status_of kind request = record { request_type = kind; request = request; value = 0; index = 1; length = 2 }

pub record WorkedPipes : Type 0 where
  pub room : Arms (receiving 192 out.Rest false) (receiving 192 out.Armed false)
  pub no_room : Arms (receiving 193 out.Rest false) (receiving 193 out.Rest false)
  pub out_halted : Arms (receiving 0 out.Rest true) (receiving 0 out.Rest true)
  pub out_posted : Arms (receiving 0 out.Posted false) (receiving 0 out.Posted false)
  pub starts : Starts (two inward.Rest false) (two under_way false)
  pub nothing : Starts idle idle
  pub runs : Starts (two under_way false) (two under_way false)
  pub posted : Starts (two (inward.Posted 2) false) (two (inward.Posted 2) false)
  pub halted : Starts (two inward.Rest true) (two inward.Rest true)
  pub both_open : is_shut (session idle empty) ≡ false
  pub one_open : is_shut (session idle (receiving 0 (out.Closed false) false)) ≡ true
  pub none_open : is_shut no_pipes ≡ true
  pub request : is_request 0x81 0 (status_of 0x81 0) ≡ true
  pub other_kind : is_request 0x81 0 (status_of 0x01 0) ≡ false
  pub other_request : is_request 0x81 0 (status_of 0x81 1) ≡ false
