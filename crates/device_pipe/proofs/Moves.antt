-- A pipe that is served moves packets.
use Rattle.std.proofs.Common.{◌≡◌, ℕ, zero, suc, ◌≤◌, ◌++◌, List, [], ◌∷◌, Bool, true, false, if◌then◌else◌, nat_le, length, take, drop, min, get_or, Some, refl, ap, ◌∙◌, arith}
use Rattle.usb_packet.specs.declared.bus.Toggle.{Toggle}
use Rattle.usb_packet.specs.declared.bus.Toggle.TheVariants.{D0, D1}
use Rattle.usb_packet.specs.declared.bus.BusAnswer.TheVariants as answers
use Rattle.usb_packet.specs.Toggles.{flipped}
use Rattle.device_pipe.specs.OutPipe as out
use Rattle.device_pipe.specs.OutPipe.{OutPipe}
use Rattle.device_pipe.specs.InPipe.{InPipe, InPhase, Closed, Rest, Running, Posted, Token, Does, Clears, Irq, Starts, in_answer, ended, cut, cut_within, cleared, after_irq, after_events}
use Rattle.device_pipe.specs.Laws.{in_answers, rounds, IsInOpen}

-- one packet goes through an OUT pipe
pub out_cycle : (toggle : Toggle) (held packet : List ℕ) →
    out.after_events (record { phase = out.Rest; halted = false; toggle = toggle; held = held }) (out.Does out.Arms ∷ out.Packet toggle packet ∷ out.Does out.Irq ∷ out.Does out.Task ∷ []) ≡
    record { phase = out.Rest; halted = false; toggle = flipped toggle; held = held ++ packet }
out_cycle D0 held packet = refl
out_cycle D1 held packet = refl

none : 1 ≤ 0 → ⊥
none h = omega arith

none_left : (n : ℕ) → suc n ≤ 0 → ⊥
none_left n h = omega arith

abbrev pipe_of : List ℕ → ℕ → List (List ℕ) → ℕ → Toggle → InPipe
pipe_of queue n left loaded toggle = record { queue = queue; phase = Running n left; loaded = loaded; toggle = toggle; halted = false }

two_of : (n : ℕ) → min 2 (suc (suc n)) ≡ 2
two_of n = omega arith

-- a handler run loads two packets, or the last one
pub loads_two : (size : ℕ) (capacity : ℕ) (queue : List ℕ) (n : ℕ) (a : List ℕ) (b : List ℕ) (left : List (List ℕ)) (toggle : Toggle) →
    in_answers size capacity (pipe_of queue n (a ∷ b ∷ left) 0 toggle) (Does Irq ∷ Token true ∷ Token true ∷ Token true ∷ []) ≡
    answers.Data toggle a ∷ answers.Data (flipped toggle) b ∷ answers.Nak ∷ []
loads_two size capacity queue n a b left toggle =
    ap (λ k. in_answers size capacity (pipe_of queue n (a ∷ b ∷ left) k toggle) (Token true ∷ Token true ∷ Token true ∷ [])) (two_of (length left))

-- and none where it finds one loaded
pub keeps_pace : (size : ℕ) (capacity : ℕ) (queue : List ℕ) (n : ℕ) (a : List ℕ) (b : List ℕ) (left : List (List ℕ)) (toggle : Toggle) →
    in_answers size capacity (pipe_of queue n (a ∷ b ∷ left) 0 toggle) (Does Irq ∷ Token true ∷ Does Irq ∷ Token true ∷ Token true ∷ []) ≡
    answers.Data toggle a ∷ answers.Data (flipped toggle) b ∷ answers.Nak ∷ []
keeps_pace size capacity queue n a b left toggle =
    ap (λ k. in_answers size capacity (pipe_of queue n (a ∷ b ∷ left) k toggle) (Token true ∷ Does Irq ∷ Token true ∷ Token true ∷ [])) (two_of (length left))

pub loads_one : (size : ℕ) (capacity : ℕ) (queue : List ℕ) (n : ℕ) (a : List ℕ) (toggle : Toggle) →
    in_answers size capacity (pipe_of queue n (a ∷ []) 0 toggle) (Does Irq ∷ Token true ∷ Token true ∷ []) ≡ answers.Data toggle a ∷ answers.Nak ∷ []
loads_one size capacity queue n a toggle = refl

-- the first packet of a transfer
first_sent : (queue : List ℕ) (n : ℕ) (packets : List (List ℕ)) (toggle : Toggle) → 1 ≤ length packets →
    in_answer (after_irq (pipe_of queue n packets 0 toggle)) ≡ answers.Data toggle (get_or packets 0 [])
first_sent queue n [] toggle h = elim (none h) [ ]
first_sent queue n (a ∷ []) toggle h = refl
first_sent queue n (a ∷ b ∷ left) toggle h = ap (λ k. in_answer (pipe_of queue n (a ∷ b ∷ left) k toggle)) (two_of (length left))

one_if : (b : Bool) (bytes p : List ℕ) (ps : List (List ℕ)) → 1 ≤ length (if b then bytes ∷ [] else p ∷ ps)
one_if true bytes p ps = omega arith
one_if false bytes p ps = omega arith

one_within : (most size : ℕ) (bytes : List ℕ) → 1 ≤ length (cut_within most size bytes)
one_within zero size bytes = omega arith
one_within (suc most) size bytes = one_if (nat_le (length bytes) size) bytes (take size bytes) (cut_within most size (drop size bytes))

pub starts_sending : (size : ℕ) (capacity : ℕ) (queue : List ℕ) (toggle : Toggle) →
    in_answer (after_events size capacity (record { queue = queue; phase = Rest; loaded = 0; toggle = toggle; halted = false }) (Does Starts ∷ Does Irq ∷ [])) ≡
    answers.Data toggle (get_or (cut size queue) 0 [])
starts_sending size capacity queue toggle = first_sent queue (length queue) (cut size queue) toggle (one_within (length queue) size queue)

pub clears_sending : (size : ℕ) (capacity : ℕ) (queue : List ℕ) (n : ℕ) (left : List (List ℕ)) (loaded : ℕ) (toggle : Toggle) (halted : Bool) →
    in_answer (after_events size capacity (record { queue = queue; phase = Running n left; loaded = loaded; toggle = toggle; halted = halted }) (Clears ∷ Does Starts ∷ Does Irq ∷ [])) ≡
    answers.Data D0 (get_or (cut size (drop n queue)) 0 [])
clears_sending size capacity queue n left loaded toggle halted =
    first_sent (drop n queue) (length (drop n queue)) (cut size (drop n queue)) D0 (one_within (length (drop n queue)) size (drop n queue))

cleared_naks : (queue : List ℕ) (phase : InPhase) (loaded : ℕ) (toggle : Toggle) (halted : Bool) → IsInOpen phase →
    in_answer (cleared (record { queue = queue; phase = phase; loaded = loaded; toggle = toggle; halted = halted })) ≡ answers.Nak
cleared_naks queue Closed loaded toggle halted o = elim o [ ]
cleared_naks queue Rest loaded toggle halted o = refl
cleared_naks queue (Running n left) loaded toggle halted o = refl
cleared_naks queue (Posted n) loaded toggle halted o = refl

pub clear_naks : (pipe : InPipe) → IsInOpen pipe.phase → in_answer (cleared pipe) ≡ answers.Nak
clear_naks pipe o = cleared_naks pipe.queue pipe.phase pipe.loaded pipe.toggle pipe.halted o

-- a transfer that ended stays so until a task takes its note
stays_ended : (size capacity : ℕ) (queue : List ℕ) (n loaded : ℕ) (toggle : Toggle) (k : ℕ) →
    ended (after_events size capacity (record { queue = queue; phase = Posted n; loaded = loaded; toggle = toggle; halted = false }) (rounds k)) ≡ Some n
stays_ended size capacity queue n loaded toggle zero = refl
stays_ended size capacity queue n loaded toggle (suc k) = stays_ended size capacity queue n loaded toggle k

-- a transfer whose packets are acknowledged ends
pub ends : (size : ℕ) (capacity : ℕ) (queue : List ℕ) (n : ℕ) (left : List (List ℕ)) (toggle : Toggle) (k : ℕ) → length left ≤ k →
    ended (after_events size capacity (pipe_of queue n left 0 toggle) (rounds k)) ≡ Some n
ends size capacity queue n [] toggle zero h = refl
ends size capacity queue n [] toggle (suc k) h = stays_ended size capacity (drop n queue) n 0 toggle k
ends size capacity queue n (a ∷ left) toggle zero h = elim (none_left (length left) h) [ ]
ends size capacity queue n (a ∷ []) toggle (suc k) h = ends size capacity queue n [] (flipped toggle) k (omega arith)
ends size capacity queue n (a ∷ b ∷ left) toggle (suc k) h =
    ap (λ m. ended (after_events size capacity (pipe_of queue n (a ∷ b ∷ left) m toggle) (Token true ∷ Token true ∷ rounds k))) (two_of (length left)) ∙
    ends size capacity queue n left (flipped (flipped toggle)) k (omega (arith, h))
