-- What the receiving pipe holds in a session: one report at most.
use Rattle.std.proofs.Common.{◌≡◌, ◌≤◌, ℕ, ◌++◌, List, [], ◌∷◌, Bool, true, false, ◌&&◌, if◌then◌else◌, length, take, drop, refl, sym, ap, subst, ◌∙◌, arith, append_assoc, append-nil, true≢false}
use Rattle.std.specs.Prelude.{Option, Some, None, ◌==◌, not}
use Rattle.std.proofs.lemmas.List.{take_all}
use Rattle.std.proofs.Math.ListN.{drop_of_length-le}
use Rattle.std.proofs.lemmas.Bool.Decides.{nat_tests}
use Rattle.usb_packet.specs.Toggles.{flipped, same_toggle}
use Rattle.device_pipe.specs.OutPipe as out
use Rattle.device_pipe.specs.OutPipe.{OutPipe, OutPhase, Closed, Rest, Armed, Landed, Posted, Stale, landed, out_answer, is_ack, after_packet, phase_after_irq, after_irq, phase_after_task, after_task, phase_armed, leaves_packet}
use Rattle.device_pipe.proofs.Out.{nothing_landed, landed_irq, landed_task, landed_armed}
use Rattle.usb_pipe.specs.declared.phase.Phase.{Phase}
use Rattle.usb_pipe.specs.declared.phase.Phase.TheVariants as phase
use Rattle.usb_pipe.specs.declared.call.HidDeviceCall.{HidDeviceCall}
use Rattle.usb_pipe.specs.declared.call.HidDeviceCall.TheVariants as call
use Rattle.usb_pipe.specs.declared.reply.Reply.{Reply}
use Rattle.usb_pipe.specs.declared.reply.Reply.TheVariants as reply
use Rattle.usb_pipe.specs.Own.{Own, Receiver, phase_at, given, read, armed}
use Rattle.class_pipes.specs.Pipes.{is_closed, may_arm, with_armed, start_reply}
use Rattle.hid_device_machine.specs.declared.reports.SetReport.{SetReport}
use Rattle.hid_device_machine.specs.Reports.{is_input_report}
use Rattle.hid_device_machine.specs.Device.{Hid, pipes_after_work, call_reply, pipes_after_call, report_reply, set_reply, holds_report, is_shut, with_report, starts_report}
use Rattle.hid_device_machine.specs.Session as session
use Rattle.hid_device_machine.specs.Session.{Session, Event, Packet, Token, Irq, Task, Asks, Requests, Sends, HaltsIn, ClearsIn, HaltsOut, ClearsOut, out_of, after, after_all, begun, came, came_at, lands, taken, taken_at, waiting, as_report, report_in, IsPacket, ArePackets}
use Rattle.hid_device_machine.specs.Laws.{ReportsComeOnce}

-- what a pipe holds by its phase
abbrev pub IsOne : OutPhase → List ℕ → Type 0
IsOne (Closed over) held = held ≡ []
IsOne Rest held = length held ≤ 64
IsOne Armed held = held ≡ []
IsOne (Landed packet) held = (held ≡ []) × (length packet ≤ 64)
IsOne Posted held = length held ≤ 64
IsOne Stale held = held ≡ []

abbrev pub HasOne : OutPipe → Type 0
HasOne pipe = IsOne pipe.phase pipe.held

abbrev waits : OutPipe → List (List ℕ)
waits pipe = as_report (pipe.held ++ landed pipe.phase)

small : (held : List ℕ) → held ≡ [] → length held ≤ 64
small held h = grind arith

-- it holds no more than a packet
few : (p : OutPhase) (held : List ℕ) → IsOne p held → length held ≤ 64
few (Closed over) held h = small held h
few Rest held h = h
few Armed held h = small held h
few (Landed packet) held h = small held h.0
few Posted held h = h
few Stale held h = small held h

-- where it holds anything, nothing has landed
alone : (p : OutPhase) (byte : ℕ) (held : List ℕ) → IsOne p (byte ∷ held) → landed p ≡ []
alone (Closed over) byte held h = refl
alone Rest byte held h = refl
alone Armed byte held h = refl
alone (Landed packet) byte held h = let e = h.0 in grind arith
alone Posted byte held h = refl
alone Stale byte held h = refl

-- A packet.
armed_one : (p : OutPhase) (halted : Bool) (held : List ℕ) → is_ack (out.answer_at p halted) ≡ true → IsOne p held → held ≡ []
armed_one (Closed over) halted held e h = h
armed_one Rest true held e h = elim (true≢false (sym e)) [ ]
armed_one Rest false held e h = elim (true≢false (sym e)) [ ]
armed_one Armed halted held e h = h
armed_one (Landed packet) halted held e h = h.0
armed_one Posted true held e h = elim (true≢false (sym e)) [ ]
armed_one Posted false held e h = elim (true≢false (sym e)) [ ]
armed_one Stale halted held e h = h

packet_one : (b c : Bool) (pipe : OutPipe) (bytes : List ℕ) → (b ≡ true → pipe.held ≡ []) → HasOne pipe → length bytes ≤ 64 →
    HasOne (if b && c then record pipe { phase = Landed bytes; toggle = flipped pipe.toggle } else pipe)
packet_one true true pipe bytes f h n = (f refl, n)
packet_one true false pipe bytes f h n = h
packet_one false c pipe bytes f h n = h

packet_waits : (b c : Bool) (pipe : OutPipe) (bytes : List ℕ) → (b ≡ true → pipe.held ≡ []) → (b ≡ true → landed pipe.phase ≡ []) →
    waits pipe ++ (if b && c then as_report bytes else []) ≡ waits (if b && c then record pipe { phase = Landed bytes; toggle = flipped pipe.toggle } else pipe)
packet_waits true true pipe bytes f g = rw (f refl, g refl) refl
packet_waits true false pipe bytes f g = append-nil (waits pipe)
packet_waits false c pipe bytes f g = append-nil (waits pipe)

-- A handler run.
irq_one : (p : OutPhase) (held : List ℕ) → IsOne p held → IsOne (phase_after_irq p) (held ++ landed p)
irq_one (Closed over) held h = append-nil held ∙ h
irq_one Rest held h = rw (append-nil held) h
irq_one Armed held h = append-nil held ∙ h
irq_one (Landed packet) held h = rw h.0 h.1
irq_one Posted held h = rw (append-nil held) h
irq_one Stale held h = rw (append-nil held) (small held h)

irq_waits : (pipe : OutPipe) → waits pipe ≡ waits (after_irq pipe)
irq_waits pipe = ap as_report (sym (ap (λ l. (pipe.held ++ landed pipe.phase) ++ l) (landed_irq pipe.phase) ∙ append-nil (pipe.held ++ landed pipe.phase)))

-- A task.
task_one : (p : OutPhase) (held : List ℕ) → IsOne p held → IsOne (phase_after_task p) held
task_one (Closed over) held h = h
task_one Rest held h = h
task_one Armed held h = h
task_one (Landed packet) held h = h
task_one Posted held h = h
task_one Stale held h = h

task_waits : (pipe : OutPipe) → waits pipe ≡ waits (after_task pipe)
task_waits pipe = ap (λ l. as_report (pipe.held ++ l)) (sym (landed_task pipe.phase))

arm_one : (p : OutPhase) (halted : Bool) (held : List ℕ) → held ≡ [] → IsOne p held → IsOne (phase_armed p halted) held
arm_one (Closed over) halted held e h = h
arm_one Rest true held e h = h
arm_one Rest false held e h = e
arm_one Armed halted held e h = h
arm_one (Landed packet) halted held e h = h
arm_one Posted halted held e h = h
arm_one Stale halted held e h = h

nothing_held : (held : List ℕ) → (length held == 0) ≡ true → held ≡ []
nothing_held [] e = refl
nothing_held (byte ∷ held) e = grind (arith, nat_tests)

armed_one-if : (own : Own) (b : Bool) → own.receives.pipe.held ≡ [] → HasOne own.receives.pipe → HasOne (if b then armed own else own).receives.pipe
armed_one-if own true e h = arm_one own.receives.pipe.phase own.receives.pipe.halted own.receives.pipe.held e h
armed_one-if own false e h = h

armed_waits-if : (own : Own) (b : Bool) → waits own.receives.pipe ≡ waits (if b then armed own else own).receives.pipe
armed_waits-if own true = ap (λ l. as_report (own.receives.pipe.held ++ l)) (sym (landed_armed own.receives.pipe.phase own.receives.pipe.halted))
armed_waits-if own false = refl

work_one-by : (own : Own) (b : Bool) → (length own.receives.pipe.held == 0) ≡ b → HasOne own.receives.pipe → HasOne (if b then with_armed own else own).receives.pipe
work_one-by own true e h = armed_one-if own (may_arm own) (nothing_held own.receives.pipe.held e) h
work_one-by own false e h = h

work_one : (own : Own) → HasOne own.receives.pipe → HasOne (pipes_after_work own).receives.pipe
work_one own h = work_one-by own (length own.receives.pipe.held == 0) refl h

work_waits-by : (own : Own) (b : Bool) → waits own.receives.pipe ≡ waits (if b then with_armed own else own).receives.pipe
work_waits-by own true = armed_waits-if own (may_arm own)
work_waits-by own false = refl

work_waits : (own : Own) → waits own.receives.pipe ≡ waits (pipes_after_work own).receives.pipe
work_waits own = work_waits-by own (length own.receives.pipe.held == 0)

-- Calls: all but one leave the pipe and give no report.
no_report-start : (p : Phase) → report_in (start_reply p) ≡ []
no_report-start phase.Closed = refl
no_report-start phase.Rest = refl
no_report-start phase.Running = refl
no_report-start phase.Posted = refl
no_report-start phase.Halted = refl
no_report-start phase.Dead = refl
no_report-start phase.Clearing = refl

no_report-report : (b : Bool) (p : Phase) → report_in (if b then start_reply p else reply.BadLength) ≡ []
no_report-report true p = no_report-start p
no_report-report false p = refl

no_report-set : (report : Option SetReport) → report_in (set_reply report) ≡ []
no_report-set None = refl
no_report-set (Some report) = refl

abbrev shut_or : Bool → Reply → Reply
shut_or b r = if b then reply.Closed else r

no_report-shut : (b : Bool) (r : Reply) → report_in r ≡ [] → report_in (shut_or b r) ≡ []
no_report-shut true r h = refl
no_report-shut false r h = h

report-receives : (hid : Hid) (own : Own) (bytes : List ℕ) (b : Bool) → starts_report hid own bytes ≡ b → (with_report hid own bytes).receives ≡ own.receives
report-receives hid own bytes true e = rw e refl
report-receives hid own bytes false e = rw e refl

abbrev own_if : Bool → Own → Own → Own
own_if b own other = if b then own else other

receives-shut : (b : Bool) (own other : Own) → other.receives ≡ own.receives → (own_if b own other).receives ≡ own.receives
receives-shut true own other e = refl
receives-shut false own other e = e

-- a call that gives what is held
take_one : (p : OutPhase) (held : List ℕ) → IsOne p held → IsOne p (drop 64 held)
take_one p held h = let e : drop 64 held ≡ [] = drop_of_length-le held (few p held h) in rw e (none_one p held h)
  where
    none_one : (p : OutPhase) (held : List ℕ) → IsOne p held → IsOne p []
    none_one (Closed over) held h = refl
    none_one Rest held h = omega arith
    none_one Armed held h = refl
    none_one (Landed packet) held h = (refl, h.1)
    none_one Posted held h = omega arith
    none_one Stale held h = refl

take_waits : (pipe : OutPipe) → HasOne pipe → not (length pipe.held == 0) ≡ true →
    waits pipe ≡ (take 64 pipe.held ∷ []) ++ waits (record pipe { held = drop 64 pipe.held })
take_waits pipe h e = by pipe.phase pipe.held h e
  where
    by : (p : OutPhase) (held : List ℕ) → IsOne p held → not (length held == 0) ≡ true →
        as_report (held ++ landed p) ≡ (take 64 held ∷ []) ++ as_report (drop 64 held ++ landed p)
    by p [] h e = elim (true≢false (sym e)) [ ]
    by p (byte ∷ held) h e =
        rw (alone p byte held h, take_all 64 (byte ∷ held) (few p (byte ∷ held) h), drop_of_length-le (byte ∷ held) (few p (byte ∷ held) h), append-nil held) refl

take_one-by : (own : Own) (b c : Bool) → HasOne own.receives.pipe → HasOne (own_if b own (if c then read own 64 else own)).receives.pipe
take_one-by own true c h = h
take_one-by own false true h = take_one own.receives.pipe.phase own.receives.pipe.held h
take_one-by own false false h = h

take_waits-by : (own : Own) (b c : Bool) → HasOne own.receives.pipe → (c ≡ true → not (length own.receives.pipe.held == 0) ≡ true) →
    waits own.receives.pipe ≡ report_in (shut_or b (if c then reply.Report (record { items = given own 64 }) else reply.Nothing))
    ++ waits (own_if b own (if c then read own 64 else own)).receives.pipe
take_waits-by own true c h f = refl
take_waits-by own false true h f = take_waits own.receives.pipe h (f refl)
take_waits-by own false false h f = refl

and-right : (a b : Bool) → a && b ≡ true → b ≡ true
and-right true b e = e
and-right false b e = elim (true≢false (sym e)) [ ]

and-left : (a b : Bool) → a && b ≡ true → a ≡ true
and-left true b e = refl
and-left false b e = e

same_one : (r other : Receiver) → other ≡ r → HasOne r.pipe → HasOne other.pipe
same_one r other e h = let P : Receiver → Type 0 = λ x. HasOne x.pipe in subst P (sym e) h

same_waits : (r other : Receiver) (reports : List (List ℕ)) → other ≡ r → reports ≡ [] → waits r.pipe ≡ reports ++ waits other.pipe
same_waits r other reports e none = rw (e, none) refl

report_keeps : (hid : Hid) (own : Own) (bytes : List ℕ) → (own_if (is_shut own) own (with_report hid own bytes)).receives ≡ own.receives
report_keeps hid own bytes = receives-shut (is_shut own) own (with_report hid own bytes) (report-receives hid own bytes (starts_report hid own bytes) refl)

call_one : (hid : Hid) (own : Own) (c : HidDeviceCall) → HasOne own.receives.pipe → HasOne (pipes_after_call hid own c).receives.pipe
call_one hid own (call.Report bytes) h = same_one own.receives _ (report_keeps hid own bytes.items) h
call_one hid own call.Take h = take_one-by own (is_shut own) (holds_report own) h
call_one hid own call.Set h = same_one own.receives _ (receives-shut (is_shut own) own own refl) h
call_one hid own call.Idle h = same_one own.receives _ (receives-shut (is_shut own) own own refl) h

call_waits : (hid : Hid) (own : Own) (c : HidDeviceCall) → HasOne own.receives.pipe →
    waits own.receives.pipe ≡ report_in (call_reply hid own c) ++ waits (pipes_after_call hid own c).receives.pipe
call_waits hid own (call.Report bytes) h =
    same_waits own.receives _ _ (report_keeps hid own bytes.items)
    (no_report-shut (is_shut own) (report_reply hid own bytes.items) (no_report-report (is_input_report hid.rows bytes.items) (phase_at own 0)))
call_waits hid own call.Take h =
    take_waits-by own (is_shut own) (holds_report own) h (λ e. and-right (not (is_closed (phase_at own 1))) (not (length own.receives.pipe.held == 0)) e)
call_waits hid own call.Set h =
    same_waits own.receives _ _ (receives-shut (is_shut own) own own refl) (no_report-shut (is_shut own) (set_reply hid.last_set) (no_report-set hid.last_set))
call_waits hid own call.Idle h =
    same_waits own.receives _ _ (receives-shut (is_shut own) own own refl) (no_report-shut (is_shut own) (reply.Idle hid.idle hid.protocol) refl)

-- One thing that happens.
event_one : (s : Session) (e : Event) → HasOne (out_of s) → IsPacket e → HasOne (out_of (after s e))
event_one s (Packet toggle bytes) h n =
    packet_one (is_ack (out_answer (out_of s))) (same_toggle toggle (out_of s).toggle) (out_of s) bytes
    (λ e. armed_one (out_of s).phase (out_of s).halted (out_of s).held e h) h n
event_one s (Token ok) h n = h
event_one s Irq h n = irq_one (out_of s).phase (out_of s).held h
event_one s Task h n =
    work_one (session.noted s).own (task_one (out_of s).phase (out_of s).held h)
event_one s (Asks c) h n = call_one s.hid s.own c h
event_one s (Requests setup) h n = h
event_one s (Sends setup bytes) h n = h
event_one s HaltsIn h n = h
event_one s ClearsIn h n = h
event_one s HaltsOut h n = h
event_one s ClearsOut h n = h

event_waits : (s : Session) (e : Event) → HasOne (out_of s) → waiting s ++ came_at s e ≡ taken_at s e ++ waiting (after s e)
event_waits s (Packet toggle bytes) h =
    packet_waits (is_ack (out_answer (out_of s))) (same_toggle toggle (out_of s).toggle) (out_of s) bytes
    (λ e. armed_one (out_of s).phase (out_of s).halted (out_of s).held e h)
    (λ e. (nothing_landed (out_of s).phase (out_of s).halted e).0)
event_waits s (Token ok) h = append-nil (waiting s)
event_waits s Irq h = append-nil (waiting s) ∙ irq_waits (out_of s)
event_waits s Task h =
    append-nil (waiting s) ∙ task_waits (out_of s) ∙ work_waits (session.noted s).own
event_waits s (Asks c) h = append-nil (waiting s) ∙ call_waits s.hid s.own c h
event_waits s (Requests setup) h = append-nil (waiting s)
event_waits s (Sends setup bytes) h = append-nil (waiting s)
event_waits s HaltsIn h = append-nil (waiting s)
event_waits s ClearsIn h = append-nil (waiting s)
event_waits s HaltsOut h = append-nil (waiting s)
event_waits s ClearsOut h = append-nil (waiting s)

all_wait : (s : Session) (events : List Event) → HasOne (out_of s) → ArePackets events →
    waiting s ++ came s events ≡ taken s events ++ waiting (after_all s events)
all_wait s [] h n = append-nil (waiting s)
all_wait s (e ∷ events) h n =
    let next = after s e in
    sym (append_assoc (waiting s) (came_at s e) (came next events)) ∙
    ap (λ y. y ++ came next events) (event_waits s e h) ∙
    append_assoc (taken_at s e) (waiting next) (came next events) ∙
    ap (λ y. taken_at s e ++ y) (all_wait next events (event_one s e h n.0) n.1) ∙
    sym (append_assoc (taken_at s e) (taken next events) (waiting (after_all next events)))

opened_one : (b : Bool) → IsOne (if b then Stale else Rest) []
opened_one true = refl
opened_one false = omega arith

opened_waits : (b : Bool) → landed (if b then Stale else Rest) ≡ []
opened_waits true = refl
opened_waits false = refl

pub reports_come_once : ReportsComeOnce
reports_come_once lengths own events n =
    let s = begun lengths own in
    let stale = leaves_packet own.receives.pipe.phase in
    ap (λ l. as_report l ++ came s events) (sym (opened_waits stale)) ∙ all_wait s events (opened_one stale) n
