-- A transfer of a session is one report.
use Rattle.std.proofs.Common.{◌≡◌, ℕ, ◌-◌, ◌++◌, List, [], ◌∷◌, Bool, true, false, if◌then◌else◌, length, take, drop, refl, sym, ap, arith, true≢false}
use Rattle.std.specs.Prelude.{◌==◌, ◌&&◌}
use Rattle.std.proofs.lemmas.List.{take_all}
use Rattle.std.proofs.Math.Seq.{drop-length}
use Rattle.usb_packet.specs.declared.bus.BusAnswer.{BusAnswer}
use Rattle.usb_packet.specs.declared.bus.BusAnswer.TheVariants as answers
use Rattle.device_pipe.specs.InPipe.{InPipe, InPhase, Closed, Rest, Running, Posted, without_packet, after_answer, in_answer, after_token, served, phase_after_task, phase_started, beyond_transfer, at_rest}
use Rattle.usb_pipe.specs.declared.phase.Phase.{Phase}
use Rattle.usb_pipe.specs.declared.phase.Phase.TheVariants as phase
use Rattle.usb_pipe.specs.declared.call.HidDeviceCall.{HidDeviceCall}
use Rattle.usb_pipe.specs.declared.call.HidDeviceCall.TheVariants as call
use Rattle.usb_pipe.specs.Own.{Own, phase_at, in_phase, unless_halted, read, armed}
use Rattle.class_pipes.specs.Pipes.{is_rest, is_closed, may_arm}
use Rattle.hid_device_machine.specs.Reports.{is_input_report}
use Rattle.hid_device_machine.specs.Device.{Hid, pipes_after_call, is_shut, holds_report, with_report, starts_report}
use Rattle.hid_device_machine.specs.Session as session
use Rattle.hid_device_machine.specs.Session.{Session, Event, Packet, Token, Irq, Task, Asks, Requests, Sends, HaltsIn, ClearsIn, HaltsOut, ClearsOut, in_of, out_of, after, after_all, begun}
use Rattle.hid_device_machine.specs.Laws.{IsOneReport, ReportsGoAlone, ReportsStart}

abbrev GoesAlone : InPipe → Type 0
GoesAlone pipe = IsOneReport pipe.phase pipe.queue

packet_alone : (p : InPhase) (queue : List ℕ) → IsOneReport p queue → IsOneReport (without_packet p) queue
packet_alone (Running n (packet ∷ left)) queue h = h
packet_alone (Running n []) queue h = h
packet_alone Closed queue h = h
packet_alone Rest queue h = h
packet_alone (Posted n) queue h = h

answer_alone : (pipe : InPipe) (a : BusAnswer) → GoesAlone pipe → GoesAlone (after_answer pipe a)
answer_alone pipe (answers.Data toggle packet) h = packet_alone pipe.phase pipe.queue h
answer_alone pipe answers.Done h = h
answer_alone pipe answers.Ack h = h
answer_alone pipe answers.Nak h = h
answer_alone pipe answers.Stall h = h
answer_alone pipe answers.NoAnswer h = h

token_alone : (pipe : InPipe) (ok : Bool) → GoesAlone pipe → GoesAlone (after_token pipe ok)
token_alone pipe true h = answer_alone pipe (in_answer pipe) h
token_alone pipe false h = h

all_dropped : (n : ℕ) (queue : List ℕ) → n ≡ length queue → drop n queue ≡ []
all_dropped n queue e = rw e (drop-length queue)

irq_alone : (pipe : InPipe) (p : InPhase) → pipe.phase ≡ p → IsOneReport p pipe.queue → GoesAlone (served pipe p)
irq_alone pipe (Running n []) e h = all_dropped n pipe.queue h
irq_alone pipe (Running n (packet ∷ left)) e h = rw e h
irq_alone pipe Closed e h = rw e h
irq_alone pipe Rest e h = rw e h
irq_alone pipe (Posted n) e h = rw e h

task_alone : (p : InPhase) (queue : List ℕ) → IsOneReport p queue → IsOneReport (phase_after_task p) queue
task_alone (Posted n) queue h = h
task_alone Closed queue h = h
task_alone Rest queue h = h
task_alone (Running n left) queue h = h

clear_alone : (p : InPhase) (queue : List ℕ) → IsOneReport p queue → IsOneReport (at_rest p) (beyond_transfer p queue)
clear_alone (Running n left) queue h = all_dropped n queue h
clear_alone Closed queue h = h
clear_alone Rest queue h = h
clear_alone (Posted n) queue h = h

-- the bytes of a report that starts at rest are the whole queue
start_alone : (size : ℕ) (p : InPhase) (queue bytes : List ℕ) → p ≡ Rest → IsOneReport (phase_started size (queue ++ bytes) p) (queue ++ bytes)
start_alone size p queue bytes e = rw e refl

rests : (p : InPhase) (halted : Bool) → is_rest (unless_halted halted (in_phase p)) ≡ true → p ≡ Rest
rests p true e = elim (true≢false (sym e)) [ ]
rests Closed false e = elim (true≢false (sym e)) [ ]
rests Rest false e = refl
rests (Running n left) false e = elim (true≢false (sym e)) [ ]
rests (Posted n) false e = elim (true≢false (sym e)) [ ]

and-left : (a b : Bool) → a && b ≡ true → a ≡ true
and-left true b e = refl
and-left false b e = e

report_alone : (hid : Hid) (own : Own) (bytes : List ℕ) (b : Bool) → starts_report hid own bytes ≡ b → GoesAlone own.sends.pipe →
    GoesAlone (with_report hid own bytes).sends.pipe
report_alone hid own bytes true e h =
    let pipe = own.sends.pipe in
    let r = rests pipe.phase pipe.halted (and-left (is_rest (phase_at own 0)) (is_input_report hid.rows bytes) e) in
    rw e (start_alone own.sends.size pipe.phase pipe.queue (take (own.sends.capacity - length pipe.queue) bytes) r)
report_alone hid own bytes false e h = rw e h

abbrev own_if : Bool → Own → Own → Own
own_if b own other = if b then own else other

shut_alone : (b : Bool) (own other : Own) → GoesAlone own.sends.pipe → GoesAlone other.sends.pipe → GoesAlone (own_if b own other).sends.pipe
shut_alone true own other h k = h
shut_alone false own other h k = k

take_alone : (own : Own) (c : Bool) → GoesAlone own.sends.pipe → GoesAlone (if c then read own 64 else own).sends.pipe
take_alone own true h = h
take_alone own false h = h

call_alone : (hid : Hid) (own : Own) (c : HidDeviceCall) → GoesAlone own.sends.pipe → GoesAlone (pipes_after_call hid own c).sends.pipe
call_alone hid own (call.Report bytes) h =
    shut_alone (is_shut own) own (with_report hid own bytes.items) h (report_alone hid own bytes.items (starts_report hid own bytes.items) refl h)
call_alone hid own call.Take h = shut_alone (is_shut own) own _ h (take_alone own (holds_report own) h)
call_alone hid own call.Set h = shut_alone (is_shut own) own own h h
call_alone hid own call.Idle h = shut_alone (is_shut own) own own h h

work_alone : (own : Own) (b c : Bool) → GoesAlone own.sends.pipe → GoesAlone (if b then (if c then armed own else own) else own).sends.pipe
work_alone own true true h = h
work_alone own true false h = h
work_alone own false c h = h

event_alone : (s : Session) (e : Event) → GoesAlone (in_of s) → GoesAlone (in_of (after s e))
event_alone s (Packet toggle bytes) h = h
event_alone s (Token ok) h = token_alone (in_of s) ok h
event_alone s Irq h = irq_alone (in_of s) (in_of s).phase refl h
event_alone s Task h = work_alone (session.noted s).own (length (out_of s).held == 0) (may_arm (session.noted s).own) (task_alone (in_of s).phase (in_of s).queue h)
event_alone s (Asks c) h = call_alone s.hid s.own c h
event_alone s (Requests setup) h = h
event_alone s (Sends setup bytes) h = h
event_alone s HaltsIn h = h
event_alone s ClearsIn h = clear_alone (in_of s).phase (in_of s).queue h
event_alone s HaltsOut h = h
event_alone s ClearsOut h = h

all_alone : (s : Session) (events : List Event) → GoesAlone (in_of s) → GoesAlone (in_of (after_all s events))
all_alone s [] h = h
all_alone s (e ∷ events) h = all_alone (after s e) events (event_alone s e h)

pub reports_go_alone : ReportsGoAlone
reports_go_alone lengths own events = all_alone (begun lengths own) events refl

-- a report that starts
nothing_queued : (p : InPhase) (queue : List ℕ) → p ≡ Rest → IsOneReport p queue → queue ≡ []
nothing_queued Rest queue e h = h
nothing_queued Closed queue e h = h
nothing_queued (Posted n) queue e h = h
nothing_queued (Running n left) queue e h = absurd (grind arith)

open_at-rest : (p : Phase) → p ≡ phase.Rest → is_closed p ≡ false
open_at-rest p e = rw e refl

starts_at-rest : (p : Phase) (b : Bool) → p ≡ phase.Rest → b ≡ true → is_rest p && b ≡ true
starts_at-rest p b e f = rw (e, f) refl

pub reports_start : ReportsStart
reports_start lengths own events bytes fits is_one at_rest_ =
    let s = after_all (begun lengths own) events in
    let pipe = s.own.sends.pipe in
    let r = rests pipe.phase pipe.halted (ap is_rest at_rest_) in
    let none = nothing_queued pipe.phase pipe.queue r (all_alone (begun lengths own) events refl) in
    let shut = open_at-rest (phase_at s.own 0) at_rest_ in
    let starts = starts_at-rest (phase_at s.own 0) (is_input_report s.hid.rows bytes) at_rest_ is_one in
    let whole : take (s.own.sends.capacity - 0) bytes ≡ bytes = take_all (s.own.sends.capacity - 0) bytes (omega arith) in
    (rw (shut, starts, none, whole) refl, rw (shut, starts, r, none, whole) refl)
