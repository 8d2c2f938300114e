-- The serial port as one class of a device (CDC PSTN 1.2). Where no serial port is held, nothing is done and nothing is taken.
use Rattle.std.specs.Prelude.{ℕ, List, Bool, false}
use Rattle.usb_packet.specs.declared.setup.Setup.{Setup}
use Rattle.usb_pipe.specs.declared.decision.Decision.{Decision}
use Rattle.usb_pipe.specs.declared.decision.Decision.TheVariants as decision
use Rattle.usb_pipe.specs.declared.call.CdcDeviceCall.{CdcDeviceCall}
use Rattle.usb_pipe.specs.declared.reply.Reply.{Reply}
use Rattle.usb_pipe.specs.declared.reply.Reply.TheVariants as reply
use Rattle.usb_pipe.specs.Own.{Own}
use Rattle.usb_pipe.specs.Rules.{Rules}
use Rattle.device_line.specs.declared.call.DevCall.{DevCall}
use Rattle.device_line.specs.declared.call.DevCall.TheVariants as call
use Rattle.device_owners.specs.Calls.{Calls}
use Rattle.cdc_device_machine.specs.Port as cdc
use Rattle.device_world.specs.State.{State, Serial}

-- the serial port with another state of its port
abbrev pub with_port : State → (cdc.Serial → cdc.Port) → State
with_port (Serial serial) f = Serial (record serial { port = f serial })
with_port s f = s

abbrev pub decides : State → Setup → Decision
decides (Serial serial) setup = cdc.decided serial.interface serial.port setup
decides s setup = decision.Stall

abbrev pub accepts : State → List ℕ → Bool
accepts (Serial serial) bytes = cdc.accepts bytes
accepts s bytes = false

abbrev pub pipes_after_work : State → Own → Own
pipes_after_work (Serial serial) own = cdc.pipes_after_work serial.port own
pipes_after_work s own = own

abbrev pub serial_rules : Rules State
serial_rules = record {
  after_opened = λ s. with_port s (λ serial. cdc.first);
  after_closed = λ s. with_port s (λ serial. cdc.first);
  decides = λ s setup. decides s setup;
  after_setup = λ s setup. with_port s (λ serial. cdc.after_setup serial.interface serial.port setup);
  accepts = λ s setup bytes. accepts s bytes;
  after_data = λ s setup bytes. with_port s (λ serial. cdc.after_data serial.port bytes);
  after_came = λ s pipe. s;
  after_ended = λ s pipe bytes. with_port s (λ serial. cdc.after_ended serial.port pipe bytes);
  after_cleared = λ s pipe. s;
  after_work = λ s own. with_port s (λ serial. cdc.after_work serial.port);
  pipes_after_work = λ s own. pipes_after_work s own;
}

-- Calls: its own, and those of others are closed.

abbrev pub serial_reply : State → Own → CdcDeviceCall → Reply
serial_reply (Serial serial) own c = cdc.call_reply serial.port own c
serial_reply s own c = reply.Closed

abbrev pub call_reply : State → Own → DevCall → Reply
call_reply s own (call.Cdc c) = serial_reply s own c
call_reply s own call.State = reply.Closed
call_reply s own (call.Hid c) = reply.Closed
call_reply s own (call.Msc c) = reply.Closed
call_reply s own (call.Midi c) = reply.Closed

abbrev pub serial_pipes : State → Own → CdcDeviceCall → Own
serial_pipes (Serial serial) own c = cdc.pipes_after_call serial.interface own c
serial_pipes s own c = own

abbrev pub pipes_after_call : State → Own → DevCall → Own
pipes_after_call s own (call.Cdc c) = serial_pipes s own c
pipes_after_call s own call.State = own
pipes_after_call s own (call.Hid c) = own
pipes_after_call s own (call.Msc c) = own
pipes_after_call s own (call.Midi c) = own

-- a call leaves the port as it is
abbrev pub serial_calls : Calls State
serial_calls = record {
  reply = λ s own c. call_reply s own c;
  after_call = λ s own c. s;
  pipes_after_call = λ s own c. pipes_after_call s own c;
}
