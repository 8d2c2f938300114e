-- What an IN pipe keeps to.
use Rattle.std.proofs.Common.{◌≡◌, ℕ, zero, suc, ◌-◌, ◌≤◌, List, [], ◌∷◌, Bool, true, false, length, take, refl, arith, length-append, length-drop, length-take}
use Rattle.usb_packet.specs.declared.bus.Toggle.{Toggle}
use Rattle.device_pipe.specs.InPipe.{InPipe, InPhase, Closed, Rest, Running, Posted, InDeed, Irq, Task, Starts, Writes, Halts, InEvent, Token, Does, Clears, Drops, opened, at_rest, beyond_transfer, after_token, after_deed, after_event, after_events}
use Rattle.device_pipe.specs.Laws.{IsBounded, running}

abbrev pipe_of : List ℕ → InPhase → ℕ → Toggle → Bool → InPipe
pipe_of queue phase loaded toggle halted = record { queue = queue; phase = phase; loaded = loaded; toggle = toggle; halted = halted }

token : (capacity : ℕ) (queue : List ℕ) (phase : InPhase) (loaded : ℕ) (toggle : Toggle) (halted : Bool) (ok : Bool) → IsBounded capacity (pipe_of queue phase loaded toggle halted) → IsBounded capacity (after_token (pipe_of queue phase loaded toggle halted) ok)
token capacity queue phase loaded toggle halted false i = i
token capacity queue Closed loaded toggle halted true i = i
token capacity queue Rest loaded toggle true true i = i
token capacity queue Rest loaded toggle false true i = i
token capacity queue (Posted n) loaded toggle true true i = i
token capacity queue (Posted n) loaded toggle false true i = i
token capacity queue (Running n left) loaded toggle true true i = i
token capacity queue (Running n left) zero toggle false true i = i
token capacity queue (Running n []) (suc k) toggle false true i = i
token capacity queue (Running n (p ∷ left)) (suc k) toggle false true i =
    let ready = i.ready in let most = i.most in record { ready = omega (arith, ready); most = omega (arith, most); within = i.within; fits = i.fits }

irq : (capacity size : ℕ) (queue : List ℕ) (phase : InPhase) (loaded : ℕ) (toggle : Toggle) (halted : Bool) → IsBounded capacity (pipe_of queue phase loaded toggle halted) → IsBounded capacity (after_deed size capacity (pipe_of queue phase loaded toggle halted) Irq)
irq capacity size queue Closed loaded toggle halted i = i
irq capacity size queue Rest loaded toggle halted i = i
irq capacity size queue (Posted n) loaded toggle halted i = i
irq capacity size queue (Running n []) loaded toggle halted i =
    let fits = i.fits in record { ready = i.ready; most = i.most; within = omega arith; fits = grind (arith, length-drop n queue, fits) }
irq capacity size queue (Running n (p ∷ left)) zero toggle halted i = record { ready = omega arith; most = omega arith; within = i.within; fits = i.fits }
irq capacity size queue (Running n (p ∷ left)) (suc k) toggle halted i = i

task : (capacity size : ℕ) (queue : List ℕ) (phase : InPhase) (loaded : ℕ) (toggle : Toggle) (halted : Bool) → IsBounded capacity (pipe_of queue phase loaded toggle halted) → IsBounded capacity (after_deed size capacity (pipe_of queue phase loaded toggle halted) Task)
task capacity size queue Closed loaded toggle halted i = i
task capacity size queue Rest loaded toggle halted i = i
task capacity size queue (Running n left) loaded toggle halted i = i
task capacity size queue (Posted n) loaded toggle halted i = record { ready = i.ready; most = i.most; within = i.within; fits = i.fits }

starts : (capacity size : ℕ) (queue : List ℕ) (phase : InPhase) (loaded : ℕ) (toggle : Toggle) (halted : Bool) → IsBounded capacity (pipe_of queue phase loaded toggle halted) → IsBounded capacity (after_deed size capacity (pipe_of queue phase loaded toggle halted) Starts)
starts capacity size queue Closed loaded toggle halted i = i
starts capacity size queue Rest loaded toggle halted i =
    let ready = i.ready in record { ready = omega (arith, ready); most = i.most; within = omega arith; fits = i.fits }
starts capacity size queue (Running n left) loaded toggle halted i = i
starts capacity size queue (Posted n) loaded toggle halted i = i

deed : (capacity size : ℕ) (pipe : InPipe) (d : InDeed) → IsBounded capacity pipe → IsBounded capacity (after_deed size capacity pipe d)
deed capacity size pipe Irq i = irq capacity size pipe.queue pipe.phase pipe.loaded pipe.toggle pipe.halted i
deed capacity size pipe Task i = task capacity size pipe.queue pipe.phase pipe.loaded pipe.toggle pipe.halted i
deed capacity size pipe Starts i = starts capacity size pipe.queue pipe.phase pipe.loaded pipe.toggle pipe.halted i
deed capacity size pipe (Writes bytes) i =
    let w = take (capacity - length pipe.queue) bytes in
    let le = length-append pipe.queue w in let lw = length-take (capacity - length pipe.queue) bytes in let fits = i.fits in let within = i.within in
    record { ready = i.ready; most = i.most; within = omega (arith, within, le); fits = grind (arith, le, lw, fits) }
deed capacity size pipe Halts i = record { ready = i.ready; most = i.most; within = i.within; fits = i.fits }

at_rest_left : (phase : InPhase) → running (at_rest phase) ≡ 0
at_rest_left Closed = refl
at_rest_left Rest = refl
at_rest_left (Running n left) = refl
at_rest_left (Posted n) = refl

beyond_length : (phase : InPhase) (queue : List ℕ) → length (beyond_transfer phase queue) ≤ length queue
beyond_length Closed queue = omega arith
beyond_length Rest queue = omega arith
beyond_length (Running n left) queue = grind (arith, length-drop n queue)
beyond_length (Posted n) queue = omega arith

event : (capacity size : ℕ) (pipe : InPipe) (e : InEvent) → IsBounded capacity pipe → IsBounded capacity (after_event size capacity pipe e)
event capacity size pipe (Token ok) i = token capacity pipe.queue pipe.phase pipe.loaded pipe.toggle pipe.halted ok i
event capacity size pipe (Does d) i = deed capacity size pipe d i
event capacity size pipe Clears i =
    let none = at_rest_left pipe.phase in let less = beyond_length pipe.phase pipe.queue in let fits = i.fits in
    record { ready = omega arith; most = omega arith; within = omega (arith, none); fits = omega (arith, less, fits) }
event capacity size pipe Drops i =
    let none = at_rest_left pipe.phase in record { ready = omega arith; most = omega arith; within = omega (arith, none); fits = omega arith }

events_on : (capacity size : ℕ) (pipe : InPipe) (events : List InEvent) → IsBounded capacity pipe → IsBounded capacity (after_events size capacity pipe events)
events_on capacity size pipe [] i = i
events_on capacity size pipe (e ∷ events) i = events_on capacity size (after_event size capacity pipe e) events (event capacity size pipe e i)

pub bounded : (size : ℕ) (capacity : ℕ) (events : List InEvent) → IsBounded capacity (after_events size capacity opened events)
bounded size capacity events = events_on capacity size opened events (record { ready = omega arith; most = omega arith; within = omega arith; fits = omega arith })
