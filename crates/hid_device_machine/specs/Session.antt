-- A session of a keyboard or a mouse: all that can happen to it and to its two pipes while one stands, in any order.
use Rattle.std.specs.Prelude.{◌≤◌, ℕ, ⊤, List, [], ◌∷◌, ◌++◌, Bool, true, false, ◌==◌, ◌&&◌, length, if◌then◌else◌}
use Rattle.usb_packet.specs.declared.bus.Toggle.{Toggle}
use Rattle.usb_packet.specs.Toggles.{same_toggle}
use Rattle.usb_packet.specs.declared.setup.Setup.{Setup}
use Rattle.device_pipe.specs.InPipe as inward
use Rattle.device_pipe.specs.InPipe.{InPipe}
use Rattle.device_pipe.specs.OutPipe as out
use Rattle.device_pipe.specs.OutPipe.{OutPipe}
use Rattle.usb_pipe.specs.declared.call.HidDeviceCall.{HidDeviceCall}
use Rattle.usb_pipe.specs.declared.call.HidDeviceCall.TheVariants.{Report}
use Rattle.usb_pipe.specs.declared.reply.Reply.{Reply}
use Rattle.usb_pipe.specs.declared.reply.Reply.TheVariants as reply
use Rattle.usb_pipe.specs.Own.{Own}
use Rattle.hid_items.specs.declared.ReportLen.{ReportLen}
use Rattle.hid_device_machine.specs.Reports.{id_of}
use Rattle.hid_device_machine.specs.Device.{Hid, first, after_setup, after_data, pipes_after_work, call_reply, after_call, pipes_after_call}

pub record Session : Type 0 where
  pub hid : Hid
  pub own : Own

pub data Event : Type 0 where
  -- an undamaged packet comes from the host
  Packet : (toggle : Toggle) → (bytes : List ℕ) → Event
  -- a token asks for a packet, which the host acknowledges exactly where `ok`
  Token : (ok : Bool) → Event
  -- a handler run
  Irq : Event
  -- a task takes the notes of both pipes, and then the class works
  Task : Event
  Asks : (call : HidDeviceCall) → Event
  -- a request comes, and the data of one
  Requests : (setup : Setup) → Event
  Sends : (setup : Setup) → (bytes : List ℕ) → Event
  -- the endpoint of a pipe is halted, or its halt ends (USB 2.0, 9.4.5)
  HaltsIn : Event
  ClearsIn : Event
  HaltsOut : Event
  ClearsOut : Event

abbrev pub with_out : Session → OutPipe → Session
with_out s pipe = record s { own = record s.own { receives = record s.own.receives { pipe = pipe } } }

abbrev pub with_in : Session → InPipe → Session
with_in s pipe = record s { own = record s.own { sends = record s.own.sends { pipe = pipe } } }

abbrev pub in_of : Session → InPipe
in_of s = s.own.sends.pipe

abbrev pub out_of : Session → OutPipe
out_of s = s.own.receives.pipe

abbrev pub noted : Session → Session
noted s = with_in (with_out s (out.after_task (out_of s))) (inward.after_task (in_of s))

abbrev pub worked : Session → Session
worked s = record s { own = pipes_after_work s.own }

abbrev pub after : Session → Event → Session
after s (Packet toggle bytes) = with_out s (out.after_packet (out_of s) toggle bytes)
after s (Token ok) = with_in s (inward.after_token (in_of s) ok)
after s Irq = with_in (with_out s (out.after_irq (out_of s))) (inward.after_irq (in_of s))
after s Task = worked (noted s)
after s (Asks call) = record { hid = after_call s.hid s.own call; own = pipes_after_call s.hid s.own call }
after s (Requests setup) = record s { hid = after_setup s.hid setup }
after s (Sends setup bytes) = record s { hid = after_data s.hid setup bytes }
after s HaltsIn = with_in s (inward.halted_ (in_of s))
after s ClearsIn = with_in s (inward.cleared (in_of s))
after s HaltsOut = with_out s (out.halted_ (out_of s))
after s ClearsOut = with_out s (out.cleared (out_of s))

abbrev pub after_all : Session → List Event → Session
after_all s [] = s
after_all s (event ∷ events) = after_all (after s event) events

-- a session begins on pipes, with these lengths
abbrev pub begun : List ReportLen → Own → Session
begun lengths own = record {
  hid = first lengths;
  own = record own {
    sends = record own.sends { pipe = inward.opened };
    receives = record own.receives { pipe = out.opened own.receives.pipe };
  };
}

-- Reports from the host.

-- bytes as a report, where there are any
abbrev pub as_report : List ℕ → List (List ℕ)
as_report [] = []
as_report (byte ∷ bytes) = (byte ∷ bytes) ∷ []

-- a packet lands: it is acknowledged, and it isn't the one before once more (USB 2.0, 8.6.4)
abbrev pub lands : Session → Toggle → Bool
lands s toggle = out.is_ack (out.out_answer (out_of s)) && same_toggle toggle (out_of s).toggle

abbrev pub came_at : Session → Event → List (List ℕ)
came_at s (Packet toggle bytes) = if lands s toggle then as_report bytes else []
came_at s _ = []

-- the reports that came, in their order
abbrev pub came : Session → List Event → List (List ℕ)
came s [] = []
came s (event ∷ events) = came_at s event ++ came (after s event) events

-- a report that a reply has
abbrev pub report_in : Reply → List (List ℕ)
report_in (reply.Report bytes) = bytes.items ∷ []
report_in _ = []

abbrev pub taken_at : Session → Event → List (List ℕ)
taken_at s (Asks call) = report_in (call_reply s.hid s.own call)
taken_at s _ = []

-- the reports that calls gave, in their order
abbrev pub taken : Session → List Event → List (List ℕ)
taken s [] = []
taken s (event ∷ events) = taken_at s event ++ taken (after s event) events

-- the report that came and that no call has taken, if there is one
abbrev pub waiting : Session → List (List ℕ)
waiting s = as_report ((out_of s).held ++ out.landed (out_of s).phase)

-- each packet has a full-speed endpoint's size at most (USB 2.0, 5.7.3)
abbrev pub IsPacket : Event → Type 0
IsPacket (Packet toggle bytes) = length bytes ≤ 64
IsPacket _ = ⊤

abbrev pub ArePackets : List Event → Type 0
ArePackets [] = ⊤
ArePackets (event ∷ events) = IsPacket event × ArePackets events

-- Reports for the host.

-- a reply that says that a report started
abbrev pub is_done : Reply → Bool
is_done reply.Done = true
is_done _ = false

-- the input report of an id that a call starts
abbrev pub queued_by : ℕ → Session → HidDeviceCall → List (List ℕ)
queued_by id s (Report bytes) =
    if is_done (call_reply s.hid s.own (Report bytes)) && (id_of s.hid.rows bytes.items == id) then bytes.items ∷ [] else []
queued_by id s _ = []

abbrev pub queued_at : ℕ → Session → Event → List (List ℕ)
queued_at id s (Asks call) = queued_by id s call
queued_at id s _ = []

-- the input reports of an id that were started, in their order
abbrev pub queued : ℕ → Session → List Event → List (List ℕ)
queued id s [] = []
queued id s (event ∷ events) = queued_at id s event ++ queued id (after s event) events

-- the last of some, or what there was before them
abbrev pub last_or : List ℕ → List (List ℕ) → List ℕ
last_or before [] = before
last_or before (bytes ∷ more) = last_or bytes more
