-- Sequences that are worked out by hand from HID 1.11 and USB 2.0.
use Rattle.std.specs.Prelude.{◌≡◌, ℕ, List, [], ◌∷◌, Bool, true, false, replicate, Some}
use Rattle.usb_packet.specs.declared.bus.Toggle.TheVariants.{D0, D1}
use Rattle.usb_packet.specs.declared.setup.Setup.{Setup}
use Rattle.device_pipe.specs.InPipe as inward
use Rattle.device_pipe.specs.InPipe.{InPhase}
use Rattle.device_pipe.specs.OutPipe as out
use Rattle.device_pipe.specs.OutPipe.{OutPhase}
use Rattle.usb_pipe.specs.declared.decision.Decision.{Decision}
use Rattle.usb_pipe.specs.declared.decision.Decision.TheVariants as decision
use Rattle.usb_pipe.specs.declared.call.HidDeviceCall.{HidDeviceCall}
use Rattle.usb_pipe.specs.declared.call.HidDeviceCall.TheVariants.{Report, Take, Set, Idle}
use Rattle.usb_pipe.specs.declared.reply.Reply.{Reply}
use Rattle.usb_pipe.specs.declared.reply.Reply.TheVariants as reply
use Rattle.usb_pipe.specs.Own.{Own, Sender, Receiver, no_pipes, no_receiver, no_sender}
use Rattle.hid_items.specs.declared.ReportLen.{ReportLen}
use Rattle.hid_device_machine.specs.declared.reports.ReportType.TheVariants.{Output, Feature}
use Rattle.hid_device_machine.specs.Device.{Hid, first, anew, decided, after_setup, accepts, after_data, pipes_after_work, call_reply, after_call, pipes_after_call}
use Rattle.hid_device_machine.specs.Session.{Session, Event, Packet, Irq, Task, Asks, HaltsOut, ClearsOut, begun, after_all, came, taken, waiting}

-- the boot keyboard: an input report of 8 bytes and an output report of one, for its lights (HID 1.11, B.1 and E.6)
abbrev pub keyboard : Hid
keyboard = first (record { id = 0; input = 8; output = 1; feature = 0 } ∷ [])

-- a device with two ids: a mouse of three bytes, and keys of two with three lights and a feature of two bytes
abbrev pub both_lengths : List ReportLen
both_lengths = record { id = 1; input = 3; output = 0; feature = 0 } ∷ record { id = 2; input = 2; output = 3; feature = 2 } ∷ []

abbrev pub both : Hid
both = first both_lengths

-- The pipes of a device in a session, with the endpoints' 8 bytes and rings of 64.
abbrev pub sending : List ℕ → InPhase → Bool → Sender
sending queue phase halted =
    record { size = 8; capacity = 64; pipe = record { queue = queue; phase = phase; loaded = 0; toggle = D0; halted = halted } }

abbrev pub receiving : List ℕ → OutPhase → Bool → Receiver
receiving held phase halted = record { capacity = 64; pipe = record { phase = phase; halted = halted; toggle = D0; held = held } }

abbrev pub session : Sender → Receiver → Own
session sends receives = record { sends = sends; receives = receives; notifies = no_sender }

abbrev pub idle_sender : Sender
idle_sender = sending [] inward.Rest false

abbrev pub resting : Own
resting = session idle_sender (receiving [] out.Rest false)

-- The pipe that receives: what the work makes of it.
abbrev pub Arms : Receiver → Receiver → Type 0
Arms old new = pipes_after_work (session idle_sender old) ≡ session idle_sender new

pub record ArmsForAReport : Type 0 where
  pub empty : Arms (receiving [] out.Rest false) (receiving [] out.Armed false)
  -- one byte that is held keeps the next packet away
  pub holding : Arms (receiving (1 ∷ []) out.Rest false) (receiving (1 ∷ []) out.Rest false)
  pub halted : Arms (receiving [] out.Rest true) (receiving [] out.Rest true)
  pub posted : Arms (receiving [] out.Posted false) (receiving [] out.Posted false)
  -- a device without such a pipe has nothing to arm
  pub none : Arms no_receiver no_receiver

-- Calls in a session.
abbrev pub Does : Hid → Own → HidDeviceCall → Reply → Own → Type 0
Does hid old call r new = (call_reply hid old call ≡ r) × (pipes_after_call hid old call ≡ new)

abbrev pub report : List ℕ → HidDeviceCall
report bytes = Report (record { items = bytes })

-- the keys a and b are down (HID 1.11, B.1)
abbrev pub keys : List ℕ
keys = 0 ∷ 0 ∷ 4 ∷ 5 ∷ 0 ∷ 0 ∷ 0 ∷ 0 ∷ []

-- a report of these bytes is under way, in one packet
abbrev pub runs : List ℕ → ℕ → Own
runs bytes n = session (sending bytes (inward.Running n (bytes ∷ [])) false) (receiving [] out.Rest false)

-- it is so, and the pipe is halted, or its end waits to be told
abbrev pub in_phase : InPhase → Bool → Own
in_phase phase halted = session (sending [] phase halted) (receiving [] out.Rest false)

pub record Reports : Type 0 where
  pub done : Does keyboard resting (report keys) reply.Done (runs keys 8)
  pub busy : Does keyboard (runs keys 8) (report keys) reply.Busy (runs keys 8)
  pub posted : Does keyboard (in_phase (inward.Posted 8) false) (report keys) reply.Busy (in_phase (inward.Posted 8) false)
  pub halted : Does keyboard (in_phase inward.Rest true) (report keys) reply.Halted (in_phase inward.Rest true)
  -- the length is asked first
  pub short : Does keyboard (runs keys 8) (report (1 ∷ [])) reply.BadLength (runs keys 8)
  pub seven : Does keyboard resting (report (replicate 7 0)) reply.BadLength resting
  pub nine : Does keyboard resting (report (replicate 9 0)) reply.BadLength resting
  pub halted_short : Does keyboard (in_phase inward.Rest true) (report (1 ∷ [])) reply.BadLength (in_phase inward.Rest true)
  -- the byte of the id counts
  pub mouse : Does both resting (report (1 ∷ 0 ∷ 5 ∷ 6 ∷ [])) reply.Done (runs (1 ∷ 0 ∷ 5 ∷ 6 ∷ []) 4)
  pub keys_ : Does both resting (report (2 ∷ 7 ∷ 8 ∷ [])) reply.Done (runs (2 ∷ 7 ∷ 8 ∷ []) 3)
  pub without_id : Does both resting (report (1 ∷ 5 ∷ 6 ∷ [])) reply.BadLength resting
  pub of_the_other : Does both resting (report (2 ∷ 7 ∷ 8 ∷ 9 ∷ [])) reply.BadLength resting
  pub no_such_id : Does both resting (report (3 ∷ 7 ∷ 8 ∷ [])) reply.BadLength resting
  pub id_zero : Does both resting (report (0 ∷ 7 ∷ 8 ∷ [])) reply.BadLength resting
  pub nothing_described : Does (first []) resting (report (0 ∷ [])) reply.BadLength resting

abbrev pub holds : List ℕ → OutPhase → Bool → Own
holds bytes phase halted = session idle_sender (receiving bytes phase halted)

pub record Takes : Type 0 where
  pub taken : Does keyboard (holds (2 ∷ []) out.Rest false) Take (reply.Report (record { items = 2 ∷ [] })) (holds [] out.Rest false)
  pub posted : Does keyboard (holds (2 ∷ 3 ∷ []) out.Posted false) Take (reply.Report (record { items = 2 ∷ 3 ∷ [] })) (holds [] out.Posted false)
  pub halted : Does keyboard (holds (2 ∷ []) out.Rest true) Take (reply.Report (record { items = 2 ∷ [] })) (holds [] out.Rest true)
  pub nothing : Does keyboard (holds [] out.Rest false) Take reply.Nothing (holds [] out.Rest false)
  -- a packet that no handler run has moved can't be taken yet
  pub landed : Does keyboard (holds [] (out.Landed (2 ∷ [])) false) Take reply.Nothing (holds [] (out.Landed (2 ∷ [])) false)
  pub most : Does keyboard (holds (replicate 64 9) out.Rest false) Take (reply.Report (record { items = replicate 64 9 })) (holds [] out.Rest false)

pub record ClosedCalls : Type 0 where
  pub report_ : Does keyboard no_pipes (report keys) reply.Closed no_pipes
  pub short : Does keyboard no_pipes (report (1 ∷ [])) reply.Closed no_pipes
  pub take : Does keyboard no_pipes Take reply.Closed no_pipes
  pub set : Does keyboard no_pipes Set reply.Closed no_pipes
  pub idle : Does keyboard no_pipes Idle reply.Closed no_pipes

-- A session: packets of the host, handler runs, tasks and calls.
abbrev pub starts : Session
starts = begun both_lengths resting

abbrev pub takes : Event
takes = Asks Take

abbrev pub events : List Event
events =
    -- no task has armed the pipe: the packet is answered NAK
    Packet D0 (9 ∷ []) ∷ Task
    -- a report comes, and its packet once more, since the host lost the acknowledgement
    ∷ Packet D0 (1 ∷ 2 ∷ []) ∷ Irq ∷ Task ∷ Packet D0 (1 ∷ 2 ∷ []) ∷ takes ∷ takes
    -- an empty packet
    ∷ Task ∷ Packet D1 [] ∷ Irq ∷ Task ∷ takes
    -- one more report, which a halt doesn't lose, and which is still held at the end
    ∷ Packet D0 (3 ∷ []) ∷ HaltsOut ∷ Irq ∷ Task ∷ ClearsOut ∷ Task ∷ []

pub record Sessions : Type 0 where
  pub came_ : came starts events ≡ (1 ∷ 2 ∷ []) ∷ (3 ∷ []) ∷ []
  pub taken_ : taken starts events ≡ (1 ∷ 2 ∷ []) ∷ []
  pub waits : waiting (after_all starts events) ≡ (3 ∷ []) ∷ []

-- Requests: bmRequestType, bRequest, wValue, wIndex, wLength.
abbrev pub Asks_ : Hid → ℕ → ℕ → ℕ → ℕ → Decision → Hid → Type 0
Asks_ old kind request value length d new =
    let setup : Setup = record { request_type = kind; request = request; value = value; index = 2; length = length } in
    (decided old setup ≡ d) × (after_setup old setup ≡ new)

abbrev pub gives : List ℕ → Decision
gives bytes = decision.Data (record { items = bytes })

abbrev pub reported : Hid → List ℕ → Hid
reported hid bytes = after_call hid resting (report bytes)

-- SET_REPORT of the feature of id 2 with these bytes
abbrev pub set_feature : List ℕ → Hid
set_feature bytes =
    record both { last_set = Some (record { report_type = Feature; id = 2; bytes = record { items = bytes } }) }

pub record Requests : Type 0 where
  -- GET_REPORT (7.2.1) before a report, and after some
  pub zeros : Asks_ keyboard 0xa1 1 0x0100 8 (gives (replicate 8 0)) keyboard
  pub zeros_behind_id : Asks_ both 0xa1 1 0x0101 4 (gives (1 ∷ 0 ∷ 0 ∷ 0 ∷ [])) both
  pub zeros_of_feature : Asks_ both 0xa1 1 0x0302 3 (gives (2 ∷ 0 ∷ 0 ∷ [])) both
  pub told : Asks_ (reported keyboard keys) 0xa1 1 0x0100 8 (gives keys) (reported keyboard keys)
  -- the request's length cuts what is sent, and not what is decided
  pub short_get : Asks_ (reported keyboard keys) 0xa1 1 0x0100 2 (gives keys) (reported keyboard keys)
  pub second : Asks_ (reported (reported both (2 ∷ 7 ∷ 8 ∷ [])) (2 ∷ 9 ∷ 9 ∷ [])) 0xa1 1 0x0102 3 (gives (2 ∷ 9 ∷ 9 ∷ [])) (reported (reported both (2 ∷ 7 ∷ 8 ∷ [])) (2 ∷ 9 ∷ 9 ∷ []))
  pub each_id : Asks_ (reported (reported both (1 ∷ 4 ∷ 5 ∷ 6 ∷ [])) (2 ∷ 7 ∷ 8 ∷ [])) 0xa1 1 0x0101 4 (gives (1 ∷ 4 ∷ 5 ∷ 6 ∷ [])) (reported (reported both (1 ∷ 4 ∷ 5 ∷ 6 ∷ [])) (2 ∷ 7 ∷ 8 ∷ []))
  pub other_id : Asks_ (reported both (2 ∷ 7 ∷ 8 ∷ [])) 0xa1 1 0x0101 4 (gives (1 ∷ 0 ∷ 0 ∷ 0 ∷ [])) (reported both (2 ∷ 7 ∷ 8 ∷ []))
  -- an input report is no output report of that id
  pub other_type : Asks_ (reported both (2 ∷ 7 ∷ 8 ∷ [])) 0xa1 1 0x0202 4 (gives (2 ∷ 0 ∷ 0 ∷ 0 ∷ [])) (reported both (2 ∷ 7 ∷ 8 ∷ []))
  pub no_output : Asks_ both 0xa1 1 0x0201 4 decision.Stall both
  pub no_id : Asks_ both 0xa1 1 0x0103 4 decision.Stall both
  pub id_in_vain : Asks_ keyboard 0xa1 1 0x0101 8 decision.Stall keyboard
  pub no_type : Asks_ keyboard 0xa1 1 0x0000 8 decision.Stall keyboard
  pub type_four : Asks_ keyboard 0xa1 1 0x0400 8 decision.Stall keyboard
  -- SET_REPORT (7.2.2)
  pub lights : Asks_ keyboard 0x21 9 0x0200 1 (decision.Take 1) keyboard
  pub lights_of_two : Asks_ keyboard 0x21 9 0x0200 2 decision.Stall keyboard
  pub no_lights : Asks_ keyboard 0x21 9 0x0200 0 decision.Stall keyboard
  pub with_id : Asks_ both 0x21 9 0x0202 4 (decision.Take 4) both
  pub one_short : Asks_ both 0x21 9 0x0202 3 decision.Stall both
  pub feature : Asks_ both 0x21 9 0x0302 3 (decision.Take 3) both
  pub no_feature : Asks_ keyboard 0x21 9 0x0300 0 decision.Stall keyboard
  pub set_input : Asks_ keyboard 0x21 9 0x0100 8 decision.Stall keyboard
  pub feature_told : Asks_ (set_feature (2 ∷ 7 ∷ 9 ∷ [])) 0xa1 1 0x0302 3 (gives (2 ∷ 7 ∷ 9 ∷ [])) (set_feature (2 ∷ 7 ∷ 9 ∷ []))
  pub output_untold : Asks_ (set_feature (2 ∷ 7 ∷ 9 ∷ [])) 0xa1 1 0x0202 4 (gives (2 ∷ 0 ∷ 0 ∷ 0 ∷ [])) (set_feature (2 ∷ 7 ∷ 9 ∷ []))
  -- GET_IDLE and SET_IDLE (7.2.3 and 7.2.4): 500 milliseconds are 125 times 4
  pub first_idle : Asks_ keyboard 0xa1 2 0 1 (gives (0 ∷ [])) keyboard
  pub idle : Asks_ keyboard 0x21 0x0a 0x7d00 0 decision.Status (record keyboard { idle = 125 })
  pub idle_of_id : Asks_ both 0x21 0x0a 0x7d02 0 decision.Status (record both { idle = 125 })
  pub idle_told : Asks_ (record keyboard { idle = 125 }) 0xa1 2 0 1 (gives (125 ∷ [])) (record keyboard { idle = 125 })
  pub idle_with_data : Asks_ keyboard 0x21 0x0a 0x7d00 1 decision.Stall keyboard
  -- GET_PROTOCOL and SET_PROTOCOL (7.2.5 and 7.2.6)
  pub first_protocol : Asks_ keyboard 0xa1 3 0 1 (gives (1 ∷ [])) keyboard
  pub boot : Asks_ keyboard 0x21 0x0b 0 0 decision.Status (record keyboard { protocol = 0 })
  pub boot_told : Asks_ (record keyboard { protocol = 0 }) 0xa1 3 0 1 (gives (0 ∷ [])) (record keyboard { protocol = 0 })
  pub back : Asks_ (record keyboard { protocol = 0 }) 0x21 0x0b 1 0 decision.Status keyboard
  pub protocol_two : Asks_ keyboard 0x21 0x0b 2 0 decision.Stall keyboard
  pub protocol_high : Asks_ keyboard 0x21 0x0b 0x0100 0 decision.Stall keyboard
  pub protocol_with_data : Asks_ keyboard 0x21 0x0b 0 1 decision.Stall keyboard
  -- others, and these in the other direction or to the device
  pub code_four : Asks_ keyboard 0xa1 4 0 1 decision.Stall keyboard
  pub code_twelve : Asks_ keyboard 0x21 0x0c 0 0 decision.Stall keyboard
  pub set_as_get : Asks_ keyboard 0xa1 9 0x0200 1 decision.Stall keyboard
  pub get_as_set : Asks_ keyboard 0x21 1 0x0100 8 decision.Stall keyboard
  pub of_the_device : Asks_ keyboard 0xa0 1 0x0100 8 decision.Stall keyboard

-- The data of SET_REPORT, by wValue and wLength: whether it is taken, and what it leaves.
abbrev pub Sets : Hid → ℕ → ℕ → List ℕ → Bool → Hid → Type 0
Sets old value length bytes taken new =
    let setup : Setup = record { request_type = 0x21; request = 9; value = value; index = 2; length = length } in
    (accepts old setup bytes ≡ taken) × (after_data old setup bytes ≡ new)

-- two of the lights
abbrev pub lit : Hid
lit = record keyboard { last_set = Some (record { report_type = Output; id = 0; bytes = record { items = 3 ∷ [] } }) }

pub record Data : Type 0 where
  pub taken : Sets keyboard 0x0200 1 (3 ∷ []) true lit
  pub feature : Sets both 0x0302 3 (2 ∷ 7 ∷ 9 ∷ []) true (set_feature (2 ∷ 7 ∷ 9 ∷ []))
  -- the id is that of wValue, whatever the first byte is
  pub other_first : Sets both 0x0302 3 (1 ∷ 7 ∷ 9 ∷ []) true (set_feature (1 ∷ 7 ∷ 9 ∷ []))
  pub short : Sets both 0x0302 3 (2 ∷ 7 ∷ []) false both
  pub long : Sets keyboard 0x0200 1 (3 ∷ 0 ∷ []) false keyboard
  pub empty : Sets keyboard 0x0200 1 [] false keyboard

pub record Told : Type 0 where
  pub set : call_reply lit resting Set ≡ reply.SetReport 2 (record { items = 3 ∷ [] })
  pub feature : call_reply (set_feature (2 ∷ 7 ∷ 9 ∷ [])) resting Set ≡ reply.SetReport 3 (record { items = 2 ∷ 7 ∷ 9 ∷ [] })
  pub nothing_set : call_reply keyboard resting Set ≡ reply.Nothing
  pub idle : call_reply (record keyboard { idle = 125; protocol = 0 }) resting Idle ≡ reply.Idle 125 0
  pub first_idle : call_reply keyboard resting Idle ≡ reply.Idle 0 1
  -- nothing of a session is left for the next one
  pub anew_ : anew (record (reported lit keys) { idle = 125; protocol = 0 }) ≡ keyboard
  pub anew_with_ids : anew (reported (set_feature (2 ∷ 7 ∷ 9 ∷ [])) (1 ∷ 4 ∷ 5 ∷ 6 ∷ [])) ≡ both

pub record WorkedDevice : Type 0 where
  pub arms : ArmsForAReport
  pub reports : Reports
  pub takes : Takes
  pub closed : ClosedCalls
  pub sessions : Sessions
  pub requests : Requests
  pub sets : Data
  pub told : Told
