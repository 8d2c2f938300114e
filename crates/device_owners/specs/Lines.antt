-- The machine of each owner over the lines of a schedule: who owns a line, what part of the schedule an owner sees, and the answers.
use Rattle.std.specs.Prelude.{ℕ, ◌+◌, List, [], ◌∷◌, Bool, true, false, ◌==◌, ◌||◌, filter, Option, Some, None, if◌then◌else◌}
use Rattle.usb_packet.specs.declared.bus.Owner as declared
use Rattle.usb_packet.specs.declared.bus.Owner.TheVariants as owner
use Rattle.usb_packet.specs.declared.bus.BusEvent.{BusEvent}
use Rattle.usb_packet.specs.declared.bus.BusEvent.TheVariants as event
use Rattle.usb_packet.specs.declared.bus.BusAnswer.TheVariants.{Done}
use Rattle.usb_packet.specs.Setup.{fields_of}
use Rattle.usb_descriptor.specs.Set.{Set, is_core, same_owner, owner_of_endpoint}
use Rattle.usb_control.specs.Table.{owner_of as setup_owner}
use Rattle.usb_pipe.specs.declared.reply.Reply.{Reply}
use Rattle.usb_pipe.specs.declared.reply.Reply.TheVariants as reply
use Rattle.device_line.specs.declared.line.DevLine.{DevLine}
use Rattle.device_line.specs.declared.line.DevLine.TheVariants.{Bus, Irq, Task, Call}
use Rattle.device_line.specs.declared.call.DevCall.{DevCall}
use Rattle.device_line.specs.declared.call.DevCall.TheVariants.{State, Cdc, Hid, Msc, Midi}
use Rattle.device_line.specs.declared.line.Answer.{Answer}
use Rattle.device_line.specs.declared.line.Answer.TheVariants as answer
use Rattle.device_machine.specs.Bus.{bus_answer}
use Rattle.usb_pipe.specs.Classes.{class_at, with_class}
use Rattle.device_owners.specs.Knows.{knows_all, knows_own}
use Rattle.device_owners.specs.Ends.{own_pipes, with_own}
use Rattle.device_owners.specs.Device.{Device, World, Machinery, start, after_bus, after_irq, after_task}

-- the owner of a call: that of its class
abbrev pub call_owner : DevCall → declared.Owner
call_owner State = owner.Core
call_owner (Cdc call) = owner.Cdc
call_owner (Hid call) = owner.Hid
call_owner (Msc call) = owner.Msc
call_owner (Midi call) = owner.Midi

-- 1 where a session stands, else 0
abbrev pub in_session : Bool → ℕ
in_session true = 1
in_session false = 0

-- `state` tells the address and whether a session stands (USB 2.0, 9.1.1); a class answers its own calls
abbrev pub call_reply : {S : Type 0} → Machinery S → Device S → declared.Owner → DevCall → Reply
call_reply m d o call =
    if is_core o
    then reply.Core d.core.bus.address (in_session d.core.session)
    else (m.world.calls o).reply (class_at d.classes o) (own_pipes m.world.set o d.core.pipes) call

abbrev pub after_class_call : {S : Type 0} → Machinery S → Device S → declared.Owner → DevCall → Device S
after_class_call m d o call = record {
  core = record d.core { pipes = with_own m.world.set o d.core.pipes ((m.world.calls o).pipes_after_call (class_at d.classes o) (own_pipes m.world.set o d.core.pipes) call) };
  classes = with_class d.classes o ((m.world.calls o).after_call (class_at d.classes o) (own_pipes m.world.set o d.core.pipes) call);
}

abbrev pub after_call : {S : Type 0} → Machinery S → Device S → declared.Owner → DevCall → Device S
after_call m d o call = if is_core o then d else after_class_call m d o call

-- what a machine answers to a line: a bus event as the bus sees it, a handler run and a task run with `ok`
abbrev pub line_answer : {S : Type 0} → Machinery S → Device S → DevLine → Answer
line_answer m d (Bus e) = answer.Bus (bus_answer d.core.bus d.core.pipes e)
line_answer m d Irq = answer.Bus Done
line_answer m d Task = answer.Bus Done
line_answer m d (Call call) = answer.Reply (call_reply m d (call_owner call) call)

abbrev pub after_line : {S : Type 0} → Machinery S → Device S → DevLine → Device S
after_line m d (Bus e) = after_bus d e
after_line m d Irq = after_irq m d
after_line m d Task = after_task m d
after_line m d (Call call) = after_call m d (call_owner call) call

abbrev pub after_lines : {S : Type 0} → Machinery S → Device S → List DevLine → Device S
after_lines m d [] = d
after_lines m d (line ∷ lines) = after_lines m (after_line m d line) lines

-- the whole device, and the machine of one owner
abbrev pub whole : {S : Type 0} → World S → Machinery S
whole world = record { world = world; knows = knows_all }

abbrev pub own : {S : Type 0} → World S → declared.Owner → Machinery S
own world o = record { world = world; knows = knows_own o }

-- the state of either after lines
abbrev pub state_after : {S : Type 0} → Machinery S → List DevLine → Device S
state_after m lines = after_lines m (start m.world) lines

-- whether an owner sees a packet: on endpoint 0, or on an endpoint of its own. IN is bit 7 of an endpoint's address (9.6.6)
abbrev pub sees_packet : Set → declared.Owner → ℕ → ℕ → Bool
sees_packet set o ep address = (ep == 0) || same_owner o (owner_of_endpoint set.config address)

abbrev pub sees_event : Set → declared.Owner → BusEvent → Bool
sees_event set o event.Reset = true
sees_event set o (event.Setup addr bytes ok) = true
sees_event set o (event.Out addr ep toggle packet ok) = sees_packet set o ep ep
sees_event set o (event.In addr ep ok) = sees_packet set o ep (128 + ep)

-- whether a line is in an owner's part
abbrev pub sees : Set → declared.Owner → DevLine → Bool
sees set o (Bus e) = sees_event set o e
sees set o Irq = true
sees set o Task = true
sees set o (Call call) = same_owner o (call_owner call)

-- an owner's part of a schedule: without the packets on endpoints of other owners, and without their calls
abbrev pub part : Set → declared.Owner → List DevLine → List DevLine
part set o lines = filter (sees set o) lines

-- the owner of the last SETUP that a task takes, where `last` is that before: the owner of the interface or the endpoint that it
-- names, and else the core (9.3)
abbrev pub with_setup : Set → declared.Owner → Option (List ℕ) → declared.Owner
with_setup set last None = last
with_setup set last (Some bytes) = setup_owner set (fields_of bytes)

abbrev pub with_taken : {S : Type 0} → Machinery S → Device S → declared.Owner → DevLine → declared.Owner
with_taken m d last (Bus e) = last
with_taken m d last Irq = last
with_taken m d last Task = with_setup m.world.set last d.core.request
with_taken m d last (Call call) = last

abbrev pub taken_after : {S : Type 0} → Machinery S → Device S → declared.Owner → List DevLine → declared.Owner
taken_after m d last [] = last
taken_after m d last (line ∷ lines) = taken_after m (after_line m d line) (with_taken m d last line) lines

-- the owner of endpoint 0 after these lines, as a machine over them finds it: that of the last SETUP that a task took, and the core
-- before one
abbrev pub last_owner : {S : Type 0} → Machinery S → List DevLine → declared.Owner
last_owner m lines = taken_after m (start m.world) owner.Core lines

-- the core's machine over the core's part finds it
abbrev pub control_owner : {S : Type 0} → World S → List DevLine → declared.Owner
control_owner world before = last_owner (own world owner.Core) (part world.set owner.Core before)

abbrev pub packet_owner : {S : Type 0} → World S → List DevLine → ℕ → ℕ → declared.Owner
packet_owner world before ep address = if ep == 0 then control_owner world before else owner_of_endpoint world.set.config address

-- the owner of a line, after the lines before it
abbrev pub event_owner : {S : Type 0} → World S → List DevLine → BusEvent → declared.Owner
event_owner world before event.Reset = owner.Core
event_owner world before (event.Setup addr bytes ok) = owner.Core
event_owner world before (event.Out addr ep toggle packet ok) = packet_owner world before ep ep
event_owner world before (event.In addr ep ok) = packet_owner world before ep (128 + ep)

abbrev pub line_owner : {S : Type 0} → World S → List DevLine → DevLine → declared.Owner
line_owner world before (Bus e) = event_owner world before e
line_owner world before Irq = owner.Core
line_owner world before Task = owner.Core
line_owner world before (Call call) = call_owner call

-- what the machine of an owner answers to a line, over its part of the lines before
abbrev pub own_answer : {S : Type 0} → World S → declared.Owner → List DevLine → DevLine → Answer
own_answer world o before line = line_answer (own world o) (state_after (own world o) (part world.set o before)) line

-- the answer to a line after the lines before it: that of its owner's own machine over that owner's part alone
abbrev pub answer_to : {S : Type 0} → World S → List DevLine → DevLine → Answer
answer_to world before line = own_answer world (line_owner world before line) before line

-- what the whole device answers
abbrev pub whole_answer : {S : Type 0} → World S → List DevLine → DevLine → Answer
whole_answer world before line = line_answer (whole world) (state_after (whole world) before) line
