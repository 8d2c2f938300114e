-- The keyboard or the mouse as one class of a device (HID 1.11). Where none is held, nothing is done and nothing is taken.
use Rattle.std.specs.Prelude.{List, ℕ, Bool, false}
use Rattle.usb_packet.specs.declared.setup.Setup.{Setup}
use Rattle.usb_pipe.specs.declared.decision.Decision.{Decision}
use Rattle.usb_pipe.specs.declared.decision.Decision.TheVariants as decision
use Rattle.usb_pipe.specs.declared.call.HidDeviceCall.{HidDeviceCall}
use Rattle.usb_pipe.specs.declared.reply.Reply.{Reply}
use Rattle.usb_pipe.specs.declared.reply.Reply.TheVariants as reply
use Rattle.usb_pipe.specs.Own.{Own}
use Rattle.usb_pipe.specs.Rules.{Rules}
use Rattle.device_line.specs.declared.call.DevCall.{DevCall}
use Rattle.device_line.specs.declared.call.DevCall.TheVariants as call
use Rattle.device_owners.specs.Calls.{Calls}
use Rattle.hid_device_machine.specs.Device as hid
use Rattle.device_world.specs.State.{State, Human}

-- with the device after something
abbrev pub with_device : State → (hid.Hid → hid.Hid) → State
with_device (Human device) f = Human (f device)
with_device s f = s

abbrev pub decides : State → Setup → Decision
decides (Human device) setup = hid.decided device setup
decides s setup = decision.Stall

abbrev pub accepts : State → Setup → List ℕ → Bool
accepts (Human device) setup bytes = hid.accepts device setup bytes
accepts s setup bytes = false

abbrev pub pipes_after_work : State → Own → Own
pipes_after_work (Human device) own = hid.pipes_after_work own
pipes_after_work s own = own

abbrev pub human_rules : Rules State
human_rules = record {
  after_opened = λ s. with_device s hid.anew;
  after_closed = λ s. with_device s hid.anew;
  decides = λ s setup. decides s setup;
  after_setup = λ s setup. with_device s (λ device. hid.after_setup device setup);
  accepts = λ s setup bytes. accepts s setup bytes;
  after_data = λ s setup bytes. with_device s (λ device. hid.after_data device setup bytes);
  after_came = λ s pipe. s;
  after_ended = λ s pipe bytes. s;
  after_cleared = λ s pipe. s;
  after_work = λ s own. s;
  pipes_after_work = λ s own. pipes_after_work s own;
}

-- Calls: its own, and those of others are closed.

abbrev pub human_reply : State → Own → HidDeviceCall → Reply
human_reply (Human device) own c = hid.call_reply device own c
human_reply s own c = reply.Closed

abbrev pub call_reply : State → Own → DevCall → Reply
call_reply s own (call.Hid c) = human_reply s own c
call_reply s own c = reply.Closed

abbrev pub after_call : State → Own → DevCall → State
after_call s own (call.Hid c) = with_device s (λ device. hid.after_call device own c)
after_call s own c = s

abbrev pub human_pipes : State → Own → HidDeviceCall → Own
human_pipes (Human device) own c = hid.pipes_after_call device own c
human_pipes s own c = own

abbrev pub pipes_after_call : State → Own → DevCall → Own
pipes_after_call s own (call.Hid c) = human_pipes s own c
pipes_after_call s own c = own

abbrev pub human_calls : Calls State
human_calls = record {
  reply = λ s own c. call_reply s own c;
  after_call = λ s own c. after_call s own c;
  pipes_after_call = λ s own c. pipes_after_call s own c;
}
