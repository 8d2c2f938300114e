-- What a pipe refuses, and what it drops.
use Rattle.std.proofs.Common.{◌≡◌, ℕ, List, [], ◌∷◌, Bool, true, false, ◌&&◌, if◌then◌else◌, refl, sym, ap, ◌∙◌, true≢false, All, subst, None, Option, Some}
use Rattle.std.proofs.lemmas.List.Elements.{All-head, All-tail}
use Rattle.usb_packet.specs.declared.bus.Toggle.{Toggle}
use Rattle.usb_packet.specs.declared.bus.Toggle.TheVariants.{D0, D1}
use Rattle.usb_packet.specs.declared.bus.BusAnswer.{BusAnswer}
use Rattle.usb_packet.specs.declared.bus.BusAnswer.TheVariants as answers
use Rattle.usb_packet.specs.Toggles.{flipped, same_toggle}
use Rattle.device_pipe.specs.OutPipe.{OutPipe, OutPhase, Closed, Rest, Armed, Landed, Posted, Stale, OutDeed, Irq, Task, Arms, Reads, Halts, OutEvent, Packet, Does, Clears, Drops, out_answer, answer_at, is_ack, after_packet, phase_after_irq, phase_after_task, phase_armed, after_deed, after_deeds, after_event, after_events, opened, leaves_packet, after_irq, armed, closed}
use Rattle.device_pipe.specs.InPipe as inward
use Rattle.device_pipe.specs.InPipe.{InPipe, InPhase, InDeed, InEvent, in_answer, after_answer, after_token}
use Rattle.device_pipe.specs.Laws.{IsOutOpen, IsInOpen, ClearsNoOut, ClearsNoIn, ArmsNothing, IsNoArming, ArmsAndHaltsNothing, IsNoArmingOrHalt, RunsNoHandler, IsNoIrq, is_data, IsNoInIrq, InRunsNoHandler, after_sessions}

and_false : (b : Bool) → (b && false) ≡ false
and_false true = refl
and_false false = refl

same_itself : (t : Toggle) → same_toggle t t ≡ true
same_itself D0 = refl
same_itself D1 = refl

pub same_flipped : (t : Toggle) → same_toggle t (flipped t) ≡ false
same_flipped D0 = refl
same_flipped D1 = refl

-- a packet that isn't acknowledged changes nothing
pub unacknowledged : (pipe : OutPipe) (toggle : Toggle) (packet : List ℕ) → is_ack (out_answer pipe) ≡ false → after_packet pipe toggle packet ≡ pipe
unacknowledged pipe toggle packet e =
    ap (λ b. if b && same_toggle toggle pipe.toggle then record pipe { phase = Landed packet; toggle = flipped pipe.toggle } else pipe) e

-- nor does one of the other toggle
pub other_toggle : (pipe : OutPipe) (toggle : Toggle) (packet : List ℕ) → same_toggle toggle pipe.toggle ≡ false → after_packet pipe toggle packet ≡ pipe
other_toggle pipe toggle packet e =
    ap (λ b. if is_ack (out_answer pipe) && b then record pipe { phase = Landed packet; toggle = flipped pipe.toggle } else pipe) e ∙
    ap (λ b. if b then record pipe { phase = Landed packet; toggle = flipped pipe.toggle } else pipe) (and_false (is_ack (out_answer pipe)))

-- one that is acknowledged with the pipe's toggle lands
pub lands : (pipe : OutPipe) (packet : List ℕ) → out_answer pipe ≡ answers.Ack → after_packet pipe pipe.toggle packet ≡ record pipe { phase = Landed packet; toggle = flipped pipe.toggle }
lands pipe packet e =
    ap (λ a. if is_ack a && same_toggle pipe.toggle pipe.toggle then record pipe { phase = Landed packet; toggle = flipped pipe.toggle } else pipe) e ∙
    ap (λ b. if b then record pipe { phase = Landed packet; toggle = flipped pipe.toggle } else pipe) (same_itself pipe.toggle)

-- the device's deeds leave the toggle
pub deed_toggle : (pipe : OutPipe) (d : OutDeed) → (after_deed pipe d).toggle ≡ pipe.toggle
deed_toggle pipe Irq = refl
deed_toggle pipe Task = refl
deed_toggle pipe Arms = refl
deed_toggle pipe (Reads n) = refl
deed_toggle pipe Halts = refl

deeds_toggle : (pipe : OutPipe) (deeds : List OutDeed) → (after_deeds pipe deeds).toggle ≡ pipe.toggle
deeds_toggle pipe [] = refl
deeds_toggle pipe (d ∷ deeds) = deeds_toggle (after_deed pipe d) deeds ∙ deed_toggle pipe d

pub held_once : (pipe : OutPipe) (packet : List ℕ) (deeds : List OutDeed) (again : List ℕ) → out_answer pipe ≡ answers.Ack →
    after_packet (after_deeds (after_packet pipe pipe.toggle packet) deeds) pipe.toggle again ≡ after_deeds (after_packet pipe pipe.toggle packet) deeds
held_once pipe packet deeds again e =
    let first = after_packet pipe pipe.toggle packet in
    let toggle : first.toggle ≡ flipped pipe.toggle = ap (λ (q : OutPipe). q.toggle) (lands pipe packet e) in
    other_toggle (after_deeds first deeds) pipe.toggle again (ap (λ t. same_toggle pipe.toggle t) (deeds_toggle first deeds ∙ toggle) ∙ same_flipped pipe.toggle)

pub acknowledges : (pipe : OutPipe) → pipe.phase ≡ Armed → pipe.halted ≡ false → out_answer pipe ≡ answers.Ack
acknowledges pipe ep eh = ap (λ p. answer_at p pipe.halted) ep ∙ ap (λ h. answer_at Armed h) eh

-- a token that gets no data changes nothing
quiet_answer : (pipe : InPipe) (answer : BusAnswer) → is_data answer ≡ false → after_answer pipe answer ≡ pipe
quiet_answer pipe (answers.Data toggle packet) e = elim (true≢false e) [ ]
quiet_answer pipe answers.Done e = refl
quiet_answer pipe answers.Ack e = refl
quiet_answer pipe answers.Nak e = refl
quiet_answer pipe answers.Stall e = refl
quiet_answer pipe answers.NoAnswer e = refl

pub unanswered : (pipe : InPipe) (ok : Bool) → is_data (in_answer pipe) ≡ false → after_token pipe ok ≡ pipe
unanswered pipe true e = quiet_answer pipe (in_answer pipe) e
unanswered pipe false e = refl

pub unheard : (pipe : InPipe) → after_token pipe false ≡ pipe
unheard pipe = refl

-- a halted OUT pipe
stalls : (phase : OutPhase) (halted : Bool) → halted ≡ true → IsOutOpen phase → answer_at phase halted ≡ answers.Stall
stalls (Closed over) halted e o = elim o [ ]
stalls Rest halted e o = ap (λ h. answer_at Rest h) e
stalls Armed halted e o = ap (λ h. answer_at Armed h) e
stalls (Landed packet) halted e o = ap (λ h. answer_at (Landed packet) h) e
stalls Posted halted e o = ap (λ h. answer_at Posted h) e
stalls Stale halted e o = ap (λ h. answer_at Stale h) e

irq_open : (phase : OutPhase) → IsOutOpen phase → IsOutOpen (phase_after_irq phase)
irq_open (Closed over) o = o
irq_open Rest o = o
irq_open Armed o = o
irq_open (Landed packet) o = o
irq_open Posted o = o
irq_open Stale o = o

task_open : (phase : OutPhase) → IsOutOpen phase → IsOutOpen (phase_after_task phase)
task_open (Closed over) o = o
task_open Rest o = o
task_open Armed o = o
task_open (Landed packet) o = o
task_open Posted o = o
task_open Stale o = o

armed_open : (phase : OutPhase) (halted : Bool) → IsOutOpen phase → IsOutOpen (phase_armed phase halted)
armed_open (Closed over) halted o = o
armed_open Rest true o = o
armed_open Rest false o = o
armed_open Armed halted o = o
armed_open (Landed packet) halted o = o
armed_open Posted halted o = o
armed_open Stale halted o = o

record IsStalled (pipe : OutPipe) : Type 0 where
  is_halted : pipe.halted ≡ true
  is_open : IsOutOpen pipe.phase

stalled_deed : (pipe : OutPipe) (d : OutDeed) → IsStalled pipe → IsStalled (after_deed pipe d)
stalled_deed pipe Irq i = record { is_halted = i.is_halted; is_open = irq_open pipe.phase i.is_open }
stalled_deed pipe Task i = record { is_halted = i.is_halted; is_open = task_open pipe.phase i.is_open }
stalled_deed pipe Arms i = record { is_halted = i.is_halted; is_open = armed_open pipe.phase pipe.halted i.is_open }
stalled_deed pipe (Reads n) i = record { is_halted = i.is_halted; is_open = i.is_open }
stalled_deed pipe Halts i = record { is_halted = refl; is_open = i.is_open }

stalled_event : (pipe : OutPipe) (e : OutEvent) → ClearsNoOut e → IsStalled pipe → IsStalled (after_event pipe e)
stalled_event pipe (Packet toggle bytes) c i =
    subst IsStalled (sym (unacknowledged pipe toggle bytes (ap is_ack (stalls pipe.phase pipe.halted i.is_halted i.is_open)))) i
stalled_event pipe (Does d) c i = stalled_deed pipe d i
stalled_event pipe Clears c i = elim c [ ]
stalled_event pipe Drops c i = record { is_halted = i.is_halted; is_open = i.is_open }

stalled_run : (pipe : OutPipe) (events : List OutEvent) → All ClearsNoOut events → IsStalled pipe → out_answer (after_events pipe events) ≡ answers.Stall
stalled_run pipe [] c i = stalls pipe.phase pipe.halted i.is_halted i.is_open
stalled_run pipe (e ∷ events) c i =
    stalled_run (after_event pipe e) events (All-tail ClearsNoOut e events c) (stalled_event pipe e (All-head ClearsNoOut e events c) i)

pub out_stalls : (pipe : OutPipe) (events : List OutEvent) → pipe.halted ≡ true → IsOutOpen pipe.phase → All ClearsNoOut events → out_answer (after_events pipe events) ≡ answers.Stall
out_stalls pipe events e o c = stalled_run pipe events c (record { is_halted = e; is_open = o })

-- a halted IN pipe
in_stall : (phase : InPhase) (halted : Bool) (other : BusAnswer) → halted ≡ true → IsInOpen phase →
    (if inward.is_closed phase then answers.NoAnswer else (if halted then answers.Stall else other)) ≡ answers.Stall
in_stall inward.Closed halted other e o = elim o [ ]
in_stall inward.Rest halted other e o = ap (λ h. if h then answers.Stall else other) e
in_stall (inward.Running n left) halted other e o = ap (λ h. if h then answers.Stall else other) e
in_stall (inward.Posted n) halted other e o = ap (λ h. if h then answers.Stall else other) e

in_stalls_at : (pipe : InPipe) → pipe.halted ≡ true → IsInOpen pipe.phase → in_answer pipe ≡ answers.Stall
in_stalls_at pipe e o = in_stall pipe.phase pipe.halted (inward.sent pipe.toggle (inward.next_packet pipe.phase pipe.loaded)) e o

record IsInStalled (pipe : InPipe) : Type 0 where
  is_halted : pipe.halted ≡ true
  is_open : IsInOpen pipe.phase

served_open : (pipe : InPipe) (phase : InPhase) → pipe.halted ≡ true → IsInOpen pipe.phase → IsInOpen phase → IsInStalled (inward.served pipe phase)
served_open pipe inward.Closed e o p = elim p [ ]
served_open pipe inward.Rest e o p = record { is_halted = e; is_open = o }
served_open pipe (inward.Running n []) e o p = record { is_halted = e; is_open = p }
served_open pipe (inward.Running n (x ∷ left)) e o p = record { is_halted = e; is_open = o }
served_open pipe (inward.Posted n) e o p = record { is_halted = e; is_open = o }

in_task_open : (phase : InPhase) → IsInOpen phase → IsInOpen (inward.phase_after_task phase)
in_task_open inward.Closed o = o
in_task_open inward.Rest o = o
in_task_open (inward.Running n left) o = o
in_task_open (inward.Posted n) o = o

in_started_open : (size : ℕ) (queue : List ℕ) (phase : InPhase) → IsInOpen phase → IsInOpen (inward.phase_started size queue phase)
in_started_open size queue inward.Closed o = o
in_started_open size queue inward.Rest o = o
in_started_open size queue (inward.Running n left) o = o
in_started_open size queue (inward.Posted n) o = o

in_rest_open : (phase : InPhase) → IsInOpen phase → IsInOpen (inward.at_rest phase)
in_rest_open inward.Closed o = o
in_rest_open inward.Rest o = o
in_rest_open (inward.Running n left) o = o
in_rest_open (inward.Posted n) o = o

in_stalled_deed : (size capacity : ℕ) (pipe : InPipe) (d : InDeed) → IsInStalled pipe → IsInStalled (inward.after_deed size capacity pipe d)
in_stalled_deed size capacity pipe inward.Irq i = served_open pipe pipe.phase i.is_halted i.is_open i.is_open
in_stalled_deed size capacity pipe inward.Task i = record { is_halted = i.is_halted; is_open = in_task_open pipe.phase i.is_open }
in_stalled_deed size capacity pipe inward.Starts i = record { is_halted = i.is_halted; is_open = in_started_open size pipe.queue pipe.phase i.is_open }
in_stalled_deed size capacity pipe (inward.Writes bytes) i = record { is_halted = i.is_halted; is_open = i.is_open }
in_stalled_deed size capacity pipe inward.Halts i = record { is_halted = refl; is_open = i.is_open }

in_stalled_event : (size capacity : ℕ) (pipe : InPipe) (e : InEvent) → ClearsNoIn e → IsInStalled pipe → IsInStalled (inward.after_event size capacity pipe e)
in_stalled_event size capacity pipe (inward.Token ok) c i =
    subst IsInStalled (sym (unanswered pipe ok (ap is_data (in_stalls_at pipe i.is_halted i.is_open)))) i
in_stalled_event size capacity pipe (inward.Does d) c i = in_stalled_deed size capacity pipe d i
in_stalled_event size capacity pipe inward.Clears c i = elim c [ ]
in_stalled_event size capacity pipe inward.Drops c i = record { is_halted = i.is_halted; is_open = in_rest_open pipe.phase i.is_open }

in_stalled_run : (size capacity : ℕ) (pipe : InPipe) (events : List InEvent) → All ClearsNoIn events → IsInStalled pipe →
    in_answer (inward.after_events size capacity pipe events) ≡ answers.Stall
in_stalled_run size capacity pipe [] c i = in_stalls_at pipe i.is_halted i.is_open
in_stalled_run size capacity pipe (e ∷ events) c i =
    in_stalled_run size capacity (inward.after_event size capacity pipe e) events (All-tail ClearsNoIn e events c)
    (in_stalled_event size capacity pipe e (All-head ClearsNoIn e events c) i)

pub in_stalls : (size : ℕ) (capacity : ℕ) (pipe : InPipe) (events : List InEvent) → pipe.halted ≡ true → IsInOpen pipe.phase → All ClearsNoIn events →
    in_answer (inward.after_events size capacity pipe events) ≡ answers.Stall
in_stalls size capacity pipe events e o c = in_stalled_run size capacity pipe events c (record { is_halted = e; is_open = o })

-- a halt halts
pub halt_stalls : (pipe : OutPipe) (events : List OutEvent) → IsOutOpen pipe.phase → All ClearsNoOut events → out_answer (after_events pipe (Does Halts ∷ events)) ≡ answers.Stall
halt_stalls pipe events o c = out_stalls (after_deed pipe Halts) events refl o c

pub in_halt_stalls : (size : ℕ) (capacity : ℕ) (pipe : InPipe) (events : List InEvent) → IsInOpen pipe.phase → All ClearsNoIn events →
    in_answer (inward.after_events size capacity pipe (inward.Does inward.Halts ∷ events)) ≡ answers.Stall
in_halt_stalls size capacity pipe events o c = in_stalls size capacity (inward.halted_ pipe) events refl o c

-- a pipe that isn't armed
abbrev IsIdle : OutPhase → Type 0
IsIdle Armed = ⊥
IsIdle (Closed over) = Unit {0}
IsIdle Rest = Unit {0}
IsIdle (Landed packet) = Unit {0}
IsIdle Posted = Unit {0}
IsIdle Stale = Unit {0}

idle_answer : (phase : OutPhase) (halted : Bool) → IsIdle phase → is_ack (answer_at phase halted) ≡ false
idle_answer (Closed over) halted i = refl
idle_answer Rest true i = refl
idle_answer Rest false i = refl
idle_answer Armed halted i = elim i [ ]
idle_answer (Landed packet) true i = refl
idle_answer (Landed packet) false i = refl
idle_answer Posted true i = refl
idle_answer Posted false i = refl
idle_answer Stale true i = refl
idle_answer Stale false i = refl

idle_irq : (phase : OutPhase) → IsIdle phase → IsIdle (phase_after_irq phase)
idle_irq (Closed over) i = tt
idle_irq Rest i = tt
idle_irq Armed i = elim i [ ]
idle_irq (Landed packet) i = tt
idle_irq Posted i = tt
idle_irq Stale i = tt

idle_task : (phase : OutPhase) → IsIdle phase → IsIdle (phase_after_task phase)
idle_task (Closed over) i = tt
idle_task Rest i = tt
idle_task Armed i = elim i [ ]
idle_task (Landed packet) i = tt
idle_task Posted i = tt
idle_task Stale i = tt

idle_deed : (pipe : OutPipe) (d : OutDeed) → IsNoArming d → IsIdle pipe.phase → IsIdle (after_deed pipe d).phase
idle_deed pipe Irq n i = idle_irq pipe.phase i
idle_deed pipe Task n i = idle_task pipe.phase i
idle_deed pipe Arms n i = elim n [ ]
idle_deed pipe (Reads k) n i = i
idle_deed pipe Halts n i = i

idle_event : (pipe : OutPipe) (e : OutEvent) → ArmsNothing e → IsIdle pipe.phase → IsIdle (after_event pipe e).phase
idle_event pipe (Packet toggle bytes) n i =
    subst (λ (q : OutPipe). IsIdle q.phase) (sym (unacknowledged pipe toggle bytes (idle_answer pipe.phase pipe.halted i))) i
idle_event pipe (Does d) n i = idle_deed pipe d n i
idle_event pipe Clears n i = i
idle_event pipe Drops n i = i

idle_run : (pipe : OutPipe) (events : List OutEvent) → All ArmsNothing events → IsIdle pipe.phase → is_ack (out_answer (after_events pipe events)) ≡ false
idle_run pipe [] n i = idle_answer pipe.phase pipe.halted i
idle_run pipe (e ∷ events) n i =
    idle_run (after_event pipe e) events (All-tail ArmsNothing e events n) (idle_event pipe e (All-head ArmsNothing e events n) i)

-- after a packet that landed, none is acknowledged until a task arms the pipe
pub none_taken : (pipe : OutPipe) (packet : List ℕ) (events : List OutEvent) → out_answer pipe ≡ answers.Ack → All ArmsNothing events →
    is_ack (out_answer (after_events (after_packet pipe pipe.toggle packet) events)) ≡ false
none_taken pipe packet events e n =
    idle_run (after_packet pipe pipe.toggle packet) events n (subst (λ (q : OutPipe). IsIdle q.phase) (sym (lands pipe packet e)) tt)

-- and where it isn't halted, each gets NAK
record IsWaiting (pipe : OutPipe) : Type 0 where
  unhalted : pipe.halted ≡ false
  idle : IsIdle pipe.phase
  is_open : IsOutOpen pipe.phase

nak_at : (phase : OutPhase) (halted : Bool) → halted ≡ false → IsIdle phase → IsOutOpen phase → answer_at phase halted ≡ answers.Nak
nak_at (Closed over) halted e i o = elim o [ ]
nak_at Rest halted e i o = ap (λ h. answer_at Rest h) e
nak_at Armed halted e i o = elim i [ ]
nak_at (Landed packet) halted e i o = ap (λ h. answer_at (Landed packet) h) e
nak_at Posted halted e i o = ap (λ h. answer_at Posted h) e
nak_at Stale halted e i o = ap (λ h. answer_at Stale h) e

waiting_deed : (pipe : OutPipe) (d : OutDeed) → IsNoArmingOrHalt d → IsWaiting pipe → IsWaiting (after_deed pipe d)
waiting_deed pipe Irq n i = record { unhalted = i.unhalted; idle = idle_irq pipe.phase i.idle; is_open = irq_open pipe.phase i.is_open }
waiting_deed pipe Task n i = record { unhalted = i.unhalted; idle = idle_task pipe.phase i.idle; is_open = task_open pipe.phase i.is_open }
waiting_deed pipe Arms n i = elim n [ ]
waiting_deed pipe (Reads k) n i = record { unhalted = i.unhalted; idle = i.idle; is_open = i.is_open }
waiting_deed pipe Halts n i = elim n [ ]

waiting_event : (pipe : OutPipe) (e : OutEvent) → ArmsAndHaltsNothing e → IsWaiting pipe → IsWaiting (after_event pipe e)
waiting_event pipe (Packet toggle bytes) n i = subst IsWaiting (sym (unacknowledged pipe toggle bytes (idle_answer pipe.phase pipe.halted i.idle))) i
waiting_event pipe (Does d) n i = waiting_deed pipe d n i
waiting_event pipe Clears n i = record { unhalted = refl; idle = i.idle; is_open = i.is_open }
waiting_event pipe Drops n i = record { unhalted = i.unhalted; idle = i.idle; is_open = i.is_open }

waiting_run : (pipe : OutPipe) (events : List OutEvent) → All ArmsAndHaltsNothing events → IsWaiting pipe → out_answer (after_events pipe events) ≡ answers.Nak
waiting_run pipe [] n i = nak_at pipe.phase pipe.halted i.unhalted i.idle i.is_open
waiting_run pipe (e ∷ events) n i =
    waiting_run (after_event pipe e) events (All-tail ArmsAndHaltsNothing e events n) (waiting_event pipe e (All-head ArmsAndHaltsNothing e events n) i)

unhalted_at : (phase : OutPhase) (halted : Bool) → answer_at phase halted ≡ answers.Ack → halted ≡ false
unhalted_at phase false e = refl
unhalted_at (Closed over) true e = elim (true≢false (sym (ap is_ack e))) [ ]
unhalted_at Rest true e = elim (true≢false (sym (ap is_ack e))) [ ]
unhalted_at Armed true e = elim (true≢false (sym (ap is_ack e))) [ ]
unhalted_at (Landed packet) true e = elim (true≢false (sym (ap is_ack e))) [ ]
unhalted_at Posted true e = elim (true≢false (sym (ap is_ack e))) [ ]
unhalted_at Stale true e = elim (true≢false (sym (ap is_ack e))) [ ]

pub naks : (pipe : OutPipe) (packet : List ℕ) (events : List OutEvent) → out_answer pipe ≡ answers.Ack → All ArmsAndHaltsNothing events →
    out_answer (after_events (after_packet pipe pipe.toggle packet) events) ≡ answers.Nak
naks pipe packet events e n =
    let at : IsWaiting (record pipe { phase = Landed packet; toggle = flipped pipe.toggle }) =
    record { unhalted = unhalted_at pipe.phase pipe.halted e; idle = tt; is_open = tt } in
    waiting_run (after_packet pipe pipe.toggle packet) events n (subst IsWaiting (sym (lands pipe packet e)) at)

-- a pipe opened over a packet that was dropped
stale_deed : (pipe : OutPipe) (d : OutDeed) → IsNoIrq d → pipe.phase ≡ Stale → (after_deed pipe d).phase ≡ Stale
stale_deed pipe Irq n e = elim n [ ]
stale_deed pipe Task n e = ap phase_after_task e
stale_deed pipe Arms n e = ap (λ p. phase_armed p pipe.halted) e
stale_deed pipe (Reads k) n e = e
stale_deed pipe Halts n e = e

stale_answer : (phase : OutPhase) (halted : Bool) → phase ≡ Stale → is_ack (answer_at phase halted) ≡ false
stale_answer phase true e = ap (λ p. is_ack (answer_at p true)) e
stale_answer phase false e = ap (λ p. is_ack (answer_at p false)) e

stale_event : (pipe : OutPipe) (s : OutEvent) → RunsNoHandler s → pipe.phase ≡ Stale → (after_event pipe s).phase ≡ Stale
stale_event pipe (Packet toggle bytes) n e = ap (λ (q : OutPipe). q.phase) (unacknowledged pipe toggle bytes (stale_answer pipe.phase pipe.halted e)) ∙ e
stale_event pipe (Does d) n e = stale_deed pipe d n e
stale_event pipe Clears n e = e
stale_event pipe Drops n e = e

stale_run : (pipe : OutPipe) (events : List OutEvent) → All RunsNoHandler events → pipe.phase ≡ Stale → is_ack (out_answer (after_events pipe events)) ≡ false
stale_run pipe [] n e = stale_answer pipe.phase pipe.halted e
stale_run pipe (s ∷ events) n e =
    stale_run (after_event pipe s) events (All-tail RunsNoHandler s events n) (stale_event pipe s (All-head RunsNoHandler s events n) e)

pub stale_refuses : (pipe : OutPipe) (events : List OutEvent) → leaves_packet pipe.phase ≡ true → All RunsNoHandler events →
    is_ack (out_answer (after_events (opened pipe) events)) ≡ false
stale_refuses pipe events e n = stale_run (opened pipe) events n (ap (λ b. if b then Stale else Rest) e)

serves_if : (b : Bool) → out_answer (after_events (record { phase = if b then Stale else Rest; halted = false; toggle = D0; held = [] }) (Does Irq ∷ Does Arms ∷ [])) ≡ answers.Ack
serves_if true = refl
serves_if false = refl

-- the handler run after it is opened ends that
pub serves : (pipe : OutPipe) → out_answer (after_events (opened pipe) (Does Irq ∷ Does Arms ∷ [])) ≡ answers.Ack
serves pipe = serves_if (leaves_packet pipe.phase)

stays_stale : (pipe : OutPipe) (events : List OutEvent) → All RunsNoHandler events → pipe.phase ≡ Stale → (after_events pipe events).phase ≡ Stale
stays_stale pipe [] n e = e
stays_stale pipe (s ∷ events) n e = stays_stale (after_event pipe s) events (All-tail RunsNoHandler s events n) (stale_event pipe s (All-head RunsNoHandler s events n) e)

-- in however many sessions
sessions_refuse : (pipe : OutPipe) (sessions : List (List OutEvent)) → All (All RunsNoHandler) sessions → pipe.phase ≡ Stale →
    is_ack (out_answer (after_sessions pipe sessions)) ≡ false
sessions_refuse pipe [] n e = stale_answer pipe.phase pipe.halted e
sessions_refuse pipe (events ∷ sessions) n e =
    let next = after_events (opened (closed pipe)) events in
    sessions_refuse next sessions (All-tail (All RunsNoHandler) events sessions n)
    (stays_stale (opened (closed pipe)) events (All-head (All RunsNoHandler) events sessions n) (ap (λ p. if leaves_packet p then Stale else Rest) e))

pub over_refuses : (pipe : OutPipe) (packet : List ℕ) (events : List OutEvent) (sessions : List (List OutEvent)) → pipe.phase ≡ Landed packet →
    All (All RunsNoHandler) (events ∷ sessions) → is_ack (out_answer (after_sessions pipe (events ∷ sessions))) ≡ false
over_refuses pipe packet events sessions e n =
    let next = after_events (opened (closed pipe)) events in
    sessions_refuse next sessions (All-tail (All RunsNoHandler) events sessions n)
    (stays_stale (opened (closed pipe)) events (All-head (All RunsNoHandler) events sessions n) (ap (λ p. if leaves_packet p then Stale else Rest) e))

rests_at : (phase : OutPhase) → leaves_packet (phase_after_irq phase) ≡ false
rests_at (Closed over) = refl
rests_at Rest = refl
rests_at Armed = refl
rests_at (Landed packet) = refl
rests_at Posted = refl
rests_at Stale = refl

pub rests : (pipe : OutPipe) → (opened (closed (after_irq pipe))).phase ≡ Rest
rests pipe = ap (λ b. if b then Stale else Rest) (rests_at pipe.phase)

still_armed : (phase : OutPhase) → phase_armed phase true ≡ phase
still_armed (Closed over) = refl
still_armed Rest = refl
still_armed Armed = refl
still_armed (Landed packet) = refl
still_armed Posted = refl
still_armed Stale = refl

-- a halted pipe isn't armed
pub halted_rests : (pipe : OutPipe) → pipe.halted ≡ true → armed pipe ≡ pipe
halted_rests pipe e = ap (λ p. record pipe { phase = p }) (ap (λ h. phase_armed pipe.phase h) e ∙ still_armed pipe.phase)

-- an IN pipe with nothing loaded
unloaded_next : (phase : InPhase) (loaded : ℕ) → loaded ≡ 0 → inward.next_packet phase loaded ≡ None
unloaded_next inward.Closed loaded e = refl
unloaded_next inward.Rest loaded e = refl
unloaded_next (inward.Posted n) loaded e = refl
unloaded_next (inward.Running n left) loaded e = ap (λ k. inward.next_packet (inward.Running n left) k) e

no_data_if : (b c : Bool) (t : Toggle) → is_data (if b then answers.NoAnswer else (if c then answers.Stall else inward.sent t None)) ≡ false
no_data_if true c t = refl
no_data_if false true t = refl
no_data_if false false t = refl

unloaded_answer : (pipe : InPipe) → pipe.loaded ≡ 0 → is_data (in_answer pipe) ≡ false
unloaded_answer pipe e =
    ap (λ o. is_data (if inward.is_closed pipe.phase then answers.NoAnswer else (if pipe.halted then answers.Stall else inward.sent pipe.toggle o))) (unloaded_next pipe.phase pipe.loaded e) ∙
    no_data_if (inward.is_closed pipe.phase) pipe.halted pipe.toggle

unloaded_deed : (size capacity : ℕ) (pipe : InPipe) (d : InDeed) → IsNoInIrq d → pipe.loaded ≡ 0 → (inward.after_deed size capacity pipe d).loaded ≡ 0
unloaded_deed size capacity pipe inward.Irq n e = elim n [ ]
unloaded_deed size capacity pipe inward.Task n e = e
unloaded_deed size capacity pipe inward.Starts n e = e
unloaded_deed size capacity pipe (inward.Writes bytes) n e = e
unloaded_deed size capacity pipe inward.Halts n e = e

unloaded_event : (size capacity : ℕ) (pipe : InPipe) (s : InEvent) → InRunsNoHandler s → pipe.loaded ≡ 0 → (inward.after_event size capacity pipe s).loaded ≡ 0
unloaded_event size capacity pipe (inward.Token ok) n e = ap (λ (q : InPipe). q.loaded) (unanswered pipe ok (unloaded_answer pipe e)) ∙ e
unloaded_event size capacity pipe (inward.Does d) n e = unloaded_deed size capacity pipe d n e
unloaded_event size capacity pipe inward.Clears n e = refl
unloaded_event size capacity pipe inward.Drops n e = refl

pub unloaded_sends_nothing : (size : ℕ) (capacity : ℕ) (pipe : InPipe) (events : List InEvent) → pipe.loaded ≡ 0 → All InRunsNoHandler events →
    is_data (in_answer (inward.after_events size capacity pipe events)) ≡ false
unloaded_sends_nothing size capacity pipe [] e n = unloaded_answer pipe e
unloaded_sends_nothing size capacity pipe (s ∷ events) e n =
    unloaded_sends_nothing size capacity (inward.after_event size capacity pipe s) events
    (unloaded_event size capacity pipe s (All-head InRunsNoHandler s events n) e) (All-tail InRunsNoHandler s events n)

pub clear_waits : (size : ℕ) (capacity : ℕ) (pipe : InPipe) (events : List InEvent) → All InRunsNoHandler events →
    is_data (in_answer (inward.after_events size capacity (inward.cleared pipe) events)) ≡ false
clear_waits size capacity pipe events n = unloaded_sends_nothing size capacity (inward.cleared pipe) events refl n

pub drop_waits : (size : ℕ) (capacity : ℕ) (pipe : InPipe) (events : List InEvent) → All InRunsNoHandler events →
    is_data (in_answer (inward.after_events size capacity (inward.dropped pipe) events)) ≡ false
drop_waits size capacity pipe events n = unloaded_sends_nothing size capacity (inward.dropped pipe) events refl n

-- an open pipe that isn't halted answers NAK where it takes no packet
naks_at : (phase : OutPhase) (halted : Bool) → IsOutOpen phase → halted ≡ false → is_ack (answer_at phase halted) ≡ false → answer_at phase halted ≡ answers.Nak
naks_at (Closed over) halted o e n = elim o [ ]
naks_at Rest halted o e n = ap (λ h. answer_at Rest h) e
naks_at Armed true o e n = elim (true≢false e) [ ]
naks_at Armed false o e n = elim (true≢false n) [ ]
naks_at (Landed packet) halted o e n = ap (λ h. answer_at (Landed packet) h) e
naks_at Posted halted o e n = ap (λ h. answer_at Posted h) e
naks_at Stale halted o e n = ap (λ h. answer_at Stale h) e

pub out_naks : (pipe : OutPipe) → IsOutOpen pipe.phase → pipe.halted ≡ false → is_ack (out_answer pipe) ≡ false → out_answer pipe ≡ answers.Nak
out_naks pipe o e n = naks_at pipe.phase pipe.halted o e n

sent_naks : (t : Toggle) (next : Option (List ℕ)) → is_data (inward.sent t next) ≡ false → inward.sent t next ≡ answers.Nak
sent_naks t None n = refl
sent_naks t (Some packet) n = elim (true≢false n) [ ]

in_naks_at : (phase : InPhase) (halted : Bool) (t : Toggle) (next : Option (List ℕ)) → IsInOpen phase → halted ≡ false →
    is_data (if inward.is_closed phase then answers.NoAnswer else (if halted then answers.Stall else inward.sent t next)) ≡ false →
    (if inward.is_closed phase then answers.NoAnswer else (if halted then answers.Stall else inward.sent t next)) ≡ answers.Nak
in_naks_at inward.Closed halted t next o e n = elim o [ ]
in_naks_at inward.Rest true t next o e n = elim (true≢false e) [ ]
in_naks_at inward.Rest false t next o e n = sent_naks t next n
in_naks_at (inward.Running k left) true t next o e n = elim (true≢false e) [ ]
in_naks_at (inward.Running k left) false t next o e n = sent_naks t next n
in_naks_at (inward.Posted k) true t next o e n = elim (true≢false e) [ ]
in_naks_at (inward.Posted k) false t next o e n = sent_naks t next n

-- and an IN pipe where it sends none
pub in_naks : (pipe : InPipe) → IsInOpen pipe.phase → pipe.halted ≡ false → is_data (in_answer pipe) ≡ false → in_answer pipe ≡ answers.Nak
in_naks pipe o e n = in_naks_at pipe.phase pipe.halted pipe.toggle (inward.next_packet pipe.phase pipe.loaded) o e n

-- a closed pipe stays so
abbrev IsShut : OutPhase → Type 0
IsShut (Closed over) = Unit {0}
IsShut Rest = ⊥
IsShut Armed = ⊥
IsShut (Landed packet) = ⊥
IsShut Posted = ⊥
IsShut Stale = ⊥

shut_answer : (phase : OutPhase) (halted : Bool) → IsShut phase → answer_at phase halted ≡ answers.NoAnswer
shut_answer (Closed over) halted i = refl
shut_answer Rest halted i = elim i [ ]
shut_answer Armed halted i = elim i [ ]
shut_answer (Landed packet) halted i = elim i [ ]
shut_answer Posted halted i = elim i [ ]
shut_answer Stale halted i = elim i [ ]

shut_irq : (phase : OutPhase) → IsShut phase → IsShut (phase_after_irq phase)
shut_irq (Closed over) i = tt
shut_irq Rest i = elim i [ ]
shut_irq Armed i = elim i [ ]
shut_irq (Landed packet) i = elim i [ ]
shut_irq Posted i = elim i [ ]
shut_irq Stale i = elim i [ ]

shut_task : (phase : OutPhase) → IsShut phase → IsShut (phase_after_task phase)
shut_task (Closed over) i = tt
shut_task Rest i = elim i [ ]
shut_task Armed i = elim i [ ]
shut_task (Landed packet) i = elim i [ ]
shut_task Posted i = elim i [ ]
shut_task Stale i = elim i [ ]

shut_armed : (phase : OutPhase) (halted : Bool) → IsShut phase → IsShut (phase_armed phase halted)
shut_armed (Closed over) halted i = tt
shut_armed Rest halted i = elim i [ ]
shut_armed Armed halted i = elim i [ ]
shut_armed (Landed packet) halted i = elim i [ ]
shut_armed Posted halted i = elim i [ ]
shut_armed Stale halted i = elim i [ ]

shut_deed : (pipe : OutPipe) (d : OutDeed) → IsShut pipe.phase → IsShut (after_deed pipe d).phase
shut_deed pipe Irq i = shut_irq pipe.phase i
shut_deed pipe Task i = shut_task pipe.phase i
shut_deed pipe Arms i = shut_armed pipe.phase pipe.halted i
shut_deed pipe (Reads n) i = i
shut_deed pipe Halts i = i

shut_event : (pipe : OutPipe) (e : OutEvent) → IsShut pipe.phase → IsShut (after_event pipe e).phase
shut_event pipe (Packet toggle bytes) i =
    subst (λ (q : OutPipe). IsShut q.phase) (sym (unacknowledged pipe toggle bytes (ap is_ack (shut_answer pipe.phase pipe.halted i)))) i
shut_event pipe (Does d) i = shut_deed pipe d i
shut_event pipe Clears i = i
shut_event pipe Drops i = i

shut_run : (pipe : OutPipe) (events : List OutEvent) → IsShut pipe.phase → out_answer (after_events pipe events) ≡ answers.NoAnswer
shut_run pipe [] i = shut_answer pipe.phase pipe.halted i
shut_run pipe (e ∷ events) i = shut_run (after_event pipe e) events (shut_event pipe e i)

pub silent : (pipe : OutPipe) (events : List OutEvent) → out_answer (after_events (closed pipe) events) ≡ answers.NoAnswer
silent pipe events = shut_run (closed pipe) events tt

in_silent_at : (pipe : InPipe) → pipe.phase ≡ inward.Closed → in_answer pipe ≡ answers.NoAnswer
in_silent_at pipe e = ap (λ p. if inward.is_closed p then answers.NoAnswer else (if pipe.halted then answers.Stall else inward.sent pipe.toggle (inward.next_packet pipe.phase pipe.loaded))) e

in_shut_deed : (size capacity : ℕ) (pipe : InPipe) (d : InDeed) → pipe.phase ≡ inward.Closed → (inward.after_deed size capacity pipe d).phase ≡ inward.Closed
in_shut_deed size capacity pipe inward.Irq e = ap (λ p. (inward.served pipe p).phase) e ∙ e
in_shut_deed size capacity pipe inward.Task e = ap inward.phase_after_task e
in_shut_deed size capacity pipe inward.Starts e = ap (λ p. inward.phase_started size pipe.queue p) e
in_shut_deed size capacity pipe (inward.Writes bytes) e = e
in_shut_deed size capacity pipe inward.Halts e = e

in_shut_event : (size capacity : ℕ) (pipe : InPipe) (s : InEvent) → pipe.phase ≡ inward.Closed → (inward.after_event size capacity pipe s).phase ≡ inward.Closed
in_shut_event size capacity pipe (inward.Token ok) e = ap (λ (q : InPipe). q.phase) (unanswered pipe ok (ap is_data (in_silent_at pipe e))) ∙ e
in_shut_event size capacity pipe (inward.Does d) e = in_shut_deed size capacity pipe d e
in_shut_event size capacity pipe inward.Clears e = ap inward.at_rest e
in_shut_event size capacity pipe inward.Drops e = ap inward.at_rest e

in_shut_run : (size capacity : ℕ) (pipe : InPipe) (events : List InEvent) → pipe.phase ≡ inward.Closed →
    in_answer (inward.after_events size capacity pipe events) ≡ answers.NoAnswer
in_shut_run size capacity pipe [] e = in_silent_at pipe e
in_shut_run size capacity pipe (s ∷ events) e = in_shut_run size capacity (inward.after_event size capacity pipe s) events (in_shut_event size capacity pipe s e)

pub in_silent : (size : ℕ) (capacity : ℕ) (events : List InEvent) → in_answer (inward.after_events size capacity inward.closed events) ≡ answers.NoAnswer
in_silent size capacity events = in_shut_run size capacity inward.closed events refl
