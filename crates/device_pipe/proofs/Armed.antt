-- A pipe that is armed stays so, and a packet that comes again is held once.
use Rattle.std.proofs.Common.{◌≡◌, ℕ, List, [], ◌∷◌, false, refl, sym, ap, ◌∙◌, All, subst}
use Rattle.std.proofs.lemmas.List.Elements.{All-head, All-tail}
use Rattle.usb_packet.specs.declared.bus.Toggle.{Toggle}
use Rattle.usb_packet.specs.declared.bus.BusAnswer.TheVariants as answers
use Rattle.usb_packet.specs.Toggles.{flipped, same_toggle}
use Rattle.device_pipe.specs.OutPipe.{OutPipe, Armed, Landed, OutDeed, Irq, Task, Arms, Reads, Halts, OutEvent, Packet, Does, Clears, Drops, out_answer, after_packet, phase_after_irq, phase_after_task, phase_armed, after_deed, after_event, after_events}
use Rattle.device_pipe.specs.Laws.{IsNoOutHalt, LeavesArmed, LeavesToggle}
use Rattle.device_pipe.proofs.Refused as refused
use Rattle.device_pipe.proofs.Refused.{other_toggle, lands, same_flipped, deed_toggle}

-- an armed pipe that isn't halted, with the next packet's toggle
record IsArmed (expected : Toggle) (pipe : OutPipe) : Type 0 where
  armed : pipe.phase ≡ Armed
  unhalted : pipe.halted ≡ false
  toggle : pipe.toggle ≡ expected

armed_deed : (expected : Toggle) (pipe : OutPipe) (d : OutDeed) → IsNoOutHalt d → IsArmed expected pipe → IsArmed expected (after_deed pipe d)
armed_deed expected pipe Irq n i = record { armed = ap phase_after_irq i.armed; unhalted = i.unhalted; toggle = i.toggle }
armed_deed expected pipe Task n i = record { armed = ap phase_after_task i.armed; unhalted = i.unhalted; toggle = i.toggle }
armed_deed expected pipe Arms n i = record { armed = ap (λ p. phase_armed p pipe.halted) i.armed; unhalted = i.unhalted; toggle = i.toggle }
armed_deed expected pipe (Reads k) n i = record { armed = i.armed; unhalted = i.unhalted; toggle = i.toggle }
armed_deed expected pipe Halts n i = elim n [ ]

armed_event : (expected : Toggle) (pipe : OutPipe) (e : OutEvent) → LeavesArmed expected e → IsArmed expected pipe → IsArmed expected (after_event pipe e)
armed_event expected pipe (Packet toggle bytes) n i =
    subst (IsArmed expected) (sym (other_toggle pipe toggle bytes (ap (same_toggle toggle) i.toggle ∙ n))) i
armed_event expected pipe (Does d) n i = armed_deed expected pipe d n i
armed_event expected pipe Clears n i = elim n [ ]
armed_event expected pipe Drops n i = record { armed = i.armed; unhalted = i.unhalted; toggle = i.toggle }

armed_run : (expected : Toggle) (pipe : OutPipe) (events : List OutEvent) → All (LeavesArmed expected) events → IsArmed expected pipe → IsArmed expected (after_events pipe events)
armed_run expected pipe [] n i = i
armed_run expected pipe (e ∷ events) n i =
    armed_run expected (after_event pipe e) events (All-tail (LeavesArmed expected) e events n)
    (armed_event expected pipe e (All-head (LeavesArmed expected) e events n) i)

after : (pipe : OutPipe) (events : List OutEvent) → pipe.phase ≡ Armed → pipe.halted ≡ false → All (LeavesArmed pipe.toggle) events →
    IsArmed pipe.toggle (after_events pipe events)
after pipe events a h n = armed_run pipe.toggle pipe events n (record { armed = a; unhalted = h; toggle = refl })

-- so it acknowledges
pub acknowledges : (pipe : OutPipe) (events : List OutEvent) → pipe.phase ≡ Armed → pipe.halted ≡ false → All (LeavesArmed pipe.toggle) events →
    out_answer (after_events pipe events) ≡ answers.Ack
acknowledges pipe events a h n = let i = after pipe events a h n in refused.acknowledges (after_events pipe events) i.armed i.unhalted

-- and takes a packet of its toggle
pub takes : (pipe : OutPipe) (events : List OutEvent) (packet : List ℕ) → pipe.phase ≡ Armed → pipe.halted ≡ false → All (LeavesArmed pipe.toggle) events →
    (after_packet (after_events pipe events) pipe.toggle packet).phase ≡ Landed packet
takes pipe events packet a h n =
    let i = after pipe events a h n in
    let next = after_events pipe events in
    ap (λ t. (after_packet next t packet).phase) (sym i.toggle) ∙
    ap (λ (q : OutPipe). q.phase) (lands next packet (refused.acknowledges next i.armed i.unhalted))

-- what leaves the toggle
toggle_event : (expected : Toggle) (pipe : OutPipe) (e : OutEvent) → LeavesToggle expected e → pipe.toggle ≡ expected → (after_event pipe e).toggle ≡ expected
toggle_event expected pipe (Packet toggle bytes) n e =
    ap (λ (q : OutPipe). q.toggle) (other_toggle pipe toggle bytes (ap (same_toggle toggle) e ∙ n)) ∙ e
toggle_event expected pipe (Does d) n e = deed_toggle pipe d ∙ e
toggle_event expected pipe Clears n e = elim n [ ]
toggle_event expected pipe Drops n e = e

toggle_run : (expected : Toggle) (pipe : OutPipe) (events : List OutEvent) → All (LeavesToggle expected) events → pipe.toggle ≡ expected → (after_events pipe events).toggle ≡ expected
toggle_run expected pipe [] n e = e
toggle_run expected pipe (s ∷ events) n e =
    toggle_run expected (after_event pipe s) events (All-tail (LeavesToggle expected) s events n)
    (toggle_event expected pipe s (All-head (LeavesToggle expected) s events n) e)

pub once_in_events : (pipe : OutPipe) (packet : List ℕ) (events : List OutEvent) (again : List ℕ) → out_answer pipe ≡ answers.Ack →
    All (LeavesToggle (flipped pipe.toggle)) events →
    after_packet (after_events (after_packet pipe pipe.toggle packet) events) pipe.toggle again ≡ after_events (after_packet pipe pipe.toggle packet) events
once_in_events pipe packet events again e n =
    let first = after_packet pipe pipe.toggle packet in
    let toggle : first.toggle ≡ flipped pipe.toggle = ap (λ (q : OutPipe). q.toggle) (lands pipe packet e) in
    other_toggle (after_events first events) pipe.toggle again
    (ap (λ t. same_toggle pipe.toggle t) (toggle_run (flipped pipe.toggle) first events n toggle) ∙ same_flipped pipe.toggle)
