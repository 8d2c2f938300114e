-- Bytes that an OUT pipe acknowledged are read, held or landed.
use Rattle.std.proofs.Common.{◌≡◌, ℕ, ◌++◌, List, [], ◌∷◌, Bool, true, false, ◌&&◌, if◌then◌else◌, take, drop, refl, sym, ap, ◌∙◌, append_assoc, append-nil, take-append-drop, All}
use Rattle.std.proofs.lemmas.List.Elements.{All-head, All-tail}
use Rattle.usb_packet.specs.Toggles.{flipped, same_toggle}
use Rattle.device_pipe.specs.OutPipe.{OutPipe, Landed, OutDeed, Irq, Task, Arms, Reads, Halts, OutEvent, Packet, Does, Clears, Drops, out_answer, is_ack, landed, after_deed, after_event, after_events}
use Rattle.device_pipe.specs.OutLink.{read_by}
use Rattle.device_pipe.specs.Laws.{took, took_by, read, read_at, DropsNothing}
use Rattle.device_pipe.proofs.Out.{nothing_landed, landed_irq, landed_task, landed_armed}

-- what lies at the device
abbrev at_device : OutPipe → List ℕ
at_device pipe = pipe.held ++ landed pipe.phase

packet_if : (b c : Bool) (pipe : OutPipe) (bytes : List ℕ) → (b ≡ true → landed pipe.phase ≡ []) →
    at_device pipe ++ (if b && c then bytes else []) ≡ at_device (if b && c then record pipe { phase = Landed bytes; toggle = flipped pipe.toggle } else pipe)
packet_if true true pipe bytes f = ap (λ l. pipe.held ++ l ++ bytes) (f refl) ∙ ap (λ h. h ++ bytes) (append-nil pipe.held)
packet_if true false pipe bytes f = append-nil (at_device pipe)
packet_if false c pipe bytes f = append-nil (at_device pipe)

deed_keeps : (pipe : OutPipe) (d : OutDeed) → at_device pipe ≡ read_by pipe d ++ at_device (after_deed pipe d)
deed_keeps pipe Irq = sym (ap (λ l. pipe.held ++ landed pipe.phase ++ l) (landed_irq pipe.phase) ∙ append-nil (at_device pipe))
deed_keeps pipe Task = sym (ap (λ l. pipe.held ++ l) (landed_task pipe.phase))
deed_keeps pipe Arms = sym (ap (λ l. pipe.held ++ l) (landed_armed pipe.phase pipe.halted))
deed_keeps pipe (Reads n) = sym (sym (append_assoc (take n pipe.held) (drop n pipe.held) (landed pipe.phase)) ∙ ap (λ h. h ++ landed pipe.phase) (take-append-drop n pipe.held))
deed_keeps pipe Halts = refl

event_keeps : (pipe : OutPipe) (e : OutEvent) → DropsNothing e → at_device pipe ++ took_by pipe e ≡ read_at pipe e ++ at_device (after_event pipe e)
event_keeps pipe (Packet toggle bytes) n = packet_if (is_ack (out_answer pipe)) (same_toggle toggle pipe.toggle) pipe bytes (λ e. (nothing_landed pipe.phase pipe.halted e).0)
event_keeps pipe (Does d) n = append-nil (at_device pipe) ∙ deed_keeps pipe d
event_keeps pipe Clears n = append-nil (at_device pipe)
event_keeps pipe Drops n = elim n [ ]

pub nothing_lost : (pipe : OutPipe) (events : List OutEvent) → All DropsNothing events →
    at_device pipe ++ took pipe events ≡ read pipe events ++ at_device (after_events pipe events)
nothing_lost pipe [] n = append-nil (at_device pipe)
nothing_lost pipe (e ∷ events) n =
    let next = after_event pipe e in
    sym (append_assoc (at_device pipe) (took_by pipe e) (took next events)) ∙
    ap (λ y. y ++ took next events) (event_keeps pipe e (All-head DropsNothing e events n)) ∙
    append_assoc (read_at pipe e) (at_device next) (took next events) ∙
    ap (λ y. read_at pipe e ++ y) (nothing_lost next events (All-tail DropsNothing e events n)) ∙
    sym (append_assoc (read_at pipe e) (read next events) (at_device (after_events next events)))
