-- A packet for the host is sent again until its acknowledgement comes.
use Rattle.std.proofs.Common.{◌≡◌, ℕ, zero, suc, List, [], ◌∷◌, Bool, true, false, if◌then◌else◌, sym, ap, true≢false, All}
use Rattle.std.proofs.lemmas.List.Elements.{All-head, All-tail}
use Rattle.usb_packet.specs.declared.bus.Toggle.{Toggle}
use Rattle.usb_packet.specs.declared.bus.BusAnswer.TheVariants as answers
use Rattle.device_pipe.specs.InPipe.{InPipe, InPhase, Closed, Rest, Running, Posted, InDeed, Irq, Task, Starts, Writes, Halts, InEvent, Token, Does, Clears, Drops, in_answer, after_deed, after_event, after_events}
use Rattle.device_pipe.specs.Laws.{IsUnheard, IsNoHalt, is_data}

abbrev pipe_of : List ℕ → InPhase → ℕ → Toggle → Bool → InPipe
pipe_of queue phase loaded toggle halted = record { queue = queue; phase = phase; loaded = loaded; toggle = toggle; halted = halted }

-- a pipe with nothing ready sends no data
no_data : (halted : Bool) (t : Toggle) (p : List ℕ) → (if halted then answers.Stall else answers.Nak) ≡ answers.Data t p → ⊥
no_data true t p e = true≢false (sym (ap is_data e))
no_data false t p e = true≢false (sym (ap is_data e))

irq : (queue : List ℕ) (phase : InPhase) (loaded : ℕ) (toggle : Toggle) (halted : Bool) (size capacity : ℕ) (t : Toggle) (p : List ℕ) →
    in_answer (pipe_of queue phase loaded toggle halted) ≡ answers.Data t p → in_answer (after_deed size capacity (pipe_of queue phase loaded toggle halted) Irq) ≡ answers.Data t p
irq queue Closed loaded toggle halted size capacity t p e = e
irq queue Rest loaded toggle halted size capacity t p e = e
irq queue (Posted n) loaded toggle halted size capacity t p e = e
irq queue (Running n []) zero toggle halted size capacity t p e = e
irq queue (Running n []) (suc k) toggle halted size capacity t p e = e
irq queue (Running n (q ∷ left)) zero toggle halted size capacity t p e = elim (no_data halted t p e) [ ]
irq queue (Running n (q ∷ left)) (suc k) toggle halted size capacity t p e = e

task : (queue : List ℕ) (phase : InPhase) (loaded : ℕ) (toggle : Toggle) (halted : Bool) (size capacity : ℕ) (t : Toggle) (p : List ℕ) →
    in_answer (pipe_of queue phase loaded toggle halted) ≡ answers.Data t p → in_answer (after_deed size capacity (pipe_of queue phase loaded toggle halted) Task) ≡ answers.Data t p
task queue Closed loaded toggle halted size capacity t p e = e
task queue Rest loaded toggle halted size capacity t p e = e
task queue (Posted n) loaded toggle halted size capacity t p e = e
task queue (Running n left) loaded toggle halted size capacity t p e = e

starts : (queue : List ℕ) (phase : InPhase) (loaded : ℕ) (toggle : Toggle) (halted : Bool) (size capacity : ℕ) (t : Toggle) (p : List ℕ) →
    in_answer (pipe_of queue phase loaded toggle halted) ≡ answers.Data t p → in_answer (after_deed size capacity (pipe_of queue phase loaded toggle halted) Starts) ≡ answers.Data t p
starts queue Closed loaded toggle halted size capacity t p e = e
starts queue Rest loaded toggle halted size capacity t p e = elim (no_data halted t p e) [ ]
starts queue (Posted n) loaded toggle halted size capacity t p e = e
starts queue (Running n left) loaded toggle halted size capacity t p e = e

deed : (size capacity : ℕ) (pipe : InPipe) (d : InDeed) (t : Toggle) (p : List ℕ) → IsNoHalt d → in_answer pipe ≡ answers.Data t p → in_answer (after_deed size capacity pipe d) ≡ answers.Data t p
deed size capacity pipe Irq t p u e = irq pipe.queue pipe.phase pipe.loaded pipe.toggle pipe.halted size capacity t p e
deed size capacity pipe Task t p u e = task pipe.queue pipe.phase pipe.loaded pipe.toggle pipe.halted size capacity t p e
deed size capacity pipe Starts t p u e = starts pipe.queue pipe.phase pipe.loaded pipe.toggle pipe.halted size capacity t p e
deed size capacity pipe (Writes bytes) t p u e = e
deed size capacity pipe Halts t p u e = elim u [ ]

event : (size capacity : ℕ) (pipe : InPipe) (s : InEvent) (t : Toggle) (p : List ℕ) → IsUnheard s → in_answer pipe ≡ answers.Data t p → in_answer (after_event size capacity pipe s) ≡ answers.Data t p
event size capacity pipe (Token true) t p u e = elim u [ ]
event size capacity pipe (Token false) t p u e = e
event size capacity pipe (Does d) t p u e = deed size capacity pipe d t p u e
event size capacity pipe Clears t p u e = elim u [ ]
event size capacity pipe Drops t p u e = elim u [ ]

pub again : (size : ℕ) (capacity : ℕ) (pipe : InPipe) (events : List InEvent) (t : Toggle) (p : List ℕ) → All IsUnheard events → in_answer pipe ≡ answers.Data t p →
    in_answer (after_events size capacity pipe events) ≡ answers.Data t p
again size capacity pipe [] t p u e = e
again size capacity pipe (s ∷ events) t p u e =
    again size capacity (after_event size capacity pipe s) events t p (All-tail IsUnheard s events u) (event size capacity pipe s t p (All-head IsUnheard s events u) e)
