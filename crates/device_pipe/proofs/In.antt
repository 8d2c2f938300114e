-- An IN pipe with the host at its other end: each packet is kept once and in order.
use Rattle.std.proofs.Common.{◌≡◌, ℕ, zero, suc, ◌+◌, ◌-◌, ◌≤◌, ◌++◌, List, [], ◌∷◌, Bool, true, false, if◌then◌else◌, length, take, drop, refl, sym, ap, subst, ◌∙◌, arith, append_assoc, append-nil, length-append, length-drop, length-take, true≢false}
use Rattle.std.specs.List.{concat}
use Rattle.std.proofs.lemmas.List.Folds.{concat-append}
use Rattle.std.proofs.lemmas.List.{drop-append-le}
use Rattle.std.proofs.Math.Seq.{drop-length}
use Rattle.usb_packet.specs.declared.bus.Toggle.{Toggle}
use Rattle.usb_packet.specs.declared.bus.Toggle.TheVariants.{D0, D1}
use Rattle.usb_packet.specs.declared.bus.BusAnswer.{BusAnswer}
use Rattle.usb_packet.specs.declared.bus.BusAnswer.TheVariants as answers
use Rattle.usb_packet.specs.Toggles.{same_toggle}
use Rattle.device_pipe.specs.InPipe.{InPhase, Closed, Rest, Running, Posted, InDeed, Irq, Task, Starts, Writes, Halts, after_answer, cut, beyond_transfer, load}
use Rattle.device_pipe.specs.Link.{Fate, Whole, DataLost, HandshakeLost, arrives, is_whole}
use Rattle.device_pipe.specs.InLink.{InLink, in_start, host_end, asked, InStep, Asks, Does, in_step, in_run}
use Rattle.device_pipe.specs.Laws.{IsKeptOnce, doubts, left_of, running, unlearned_bytes, is_data}
use Rattle.device_pipe.proofs.Cut.{joined}

abbrev link_of : List ℕ → InPhase → ℕ → Toggle → Bool → Toggle → List (List ℕ) → List ℕ → List (List ℕ) → ℕ → InLink
link_of queue phase loaded t halted h kept queued begun learned = record {
  pipe = record { queue = queue; phase = phase; loaded = loaded; toggle = t; halted = halted };
  toggle = h;
  kept = kept;
  queued = queued;
  begun = begun;
  learned = learned;
}

-- the host asks, and the pipe answers so
abbrev asked_as : BusAnswer → InLink → Fate → InLink
asked_as answer link fate =
    record (if arrives fate then host_end link answer else link) { pipe = if is_whole fate then after_answer link.pipe answer else link.pipe }

-- an answer without data changes nothing
quiet : (capacity : ℕ) (answer : BusAnswer) (fate : Fate) (link : InLink) → is_data answer ≡ false → IsKeptOnce capacity link → IsKeptOnce capacity (asked_as answer link fate)
quiet capacity (answers.Data toggle packet) fate link e i = elim (true≢false e) [ ]
quiet capacity answers.Done Whole link e i = i
quiet capacity answers.Done DataLost link e i = i
quiet capacity answers.Done HandshakeLost link e i = i
quiet capacity answers.Ack Whole link e i = i
quiet capacity answers.Ack DataLost link e i = i
quiet capacity answers.Ack HandshakeLost link e i = i
quiet capacity answers.Nak Whole link e i = i
quiet capacity answers.Nak DataLost link e i = i
quiet capacity answers.Nak HandshakeLost link e i = i
quiet capacity answers.Stall Whole link e i = i
quiet capacity answers.Stall DataLost link e i = i
quiet capacity answers.Stall HandshakeLost link e i = i
quiet capacity answers.NoAnswer Whole link e i = i
quiet capacity answers.NoAnswer DataLost link e i = i
quiet capacity answers.NoAnswer HandshakeLost link e i = i

-- a packet is sent
shows : (capacity : ℕ) (fate : Fate) (queue : List ℕ) (n : ℕ) (p : List ℕ) (left : List (List ℕ)) (k : ℕ) (t : Toggle) (halted : Bool) (h : Toggle) (kept : List (List ℕ)) (queued : List ℕ) (begun : List (List ℕ)) (learned : ℕ) →
    IsKeptOnce capacity (link_of queue (Running n (p ∷ left)) (suc k) t halted h kept queued begun learned) →
    IsKeptOnce capacity (asked_as (answers.Data t p) (link_of queue (Running n (p ∷ left)) (suc k) t halted h kept queued begun learned) fate)
shows capacity DataLost queue n p left k t halted h kept queued begun learned i = i
shows capacity HandshakeLost queue n p left k D0 halted D0 kept queued begun learned i = record {
  packets = append_assoc kept (p ∷ []) left ∙ i.packets;
  bytes = i.bytes;
  number = i.number;
  within = i.within;
  fits = i.fits;
  doubt = λ e. omega arith;
}
shows capacity Whole queue n p left k D0 halted D0 kept queued begun learned i = record {
  packets = append_assoc kept (p ∷ []) left ∙ i.packets;
  bytes = i.bytes;
  number = i.number;
  within = i.within;
  fits = i.fits;
  doubt = λ e. elim (true≢false e) [ ];
}
shows capacity HandshakeLost queue n p left k D1 halted D1 kept queued begun learned i = record {
  packets = append_assoc kept (p ∷ []) left ∙ i.packets;
  bytes = i.bytes;
  number = i.number;
  within = i.within;
  fits = i.fits;
  doubt = λ e. omega arith;
}
shows capacity Whole queue n p left k D1 halted D1 kept queued begun learned i = record {
  packets = append_assoc kept (p ∷ []) left ∙ i.packets;
  bytes = i.bytes;
  number = i.number;
  within = i.within;
  fits = i.fits;
  doubt = λ e. elim (true≢false e) [ ];
}
shows capacity HandshakeLost queue n p left k D0 halted D1 kept queued begun learned i = i
shows capacity Whole queue n p left k D0 halted D1 kept queued begun learned i = record {
  packets = i.packets;
  bytes = i.bytes;
  number = i.number;
  within = i.within;
  fits = i.fits;
  doubt = λ e. elim (true≢false e) [ ];
}
shows capacity HandshakeLost queue n p left k D1 halted D0 kept queued begun learned i = i
shows capacity Whole queue n p left k D1 halted D0 kept queued begun learned i = record {
  packets = i.packets;
  bytes = i.bytes;
  number = i.number;
  within = i.within;
  fits = i.fits;
  doubt = λ e. elim (true≢false e) [ ];
}

asks : (capacity : ℕ) (fate : Fate) (queue : List ℕ) (phase : InPhase) (loaded : ℕ) (t : Toggle) (halted : Bool) (h : Toggle) (kept : List (List ℕ)) (queued : List ℕ) (begun : List (List ℕ)) (learned : ℕ) →
    IsKeptOnce capacity (link_of queue phase loaded t halted h kept queued begun learned) →
    IsKeptOnce capacity (asked (link_of queue phase loaded t halted h kept queued begun learned) fate)
asks capacity fate queue Closed loaded t halted h kept queued begun learned i =
    quiet capacity answers.NoAnswer fate (link_of queue Closed loaded t halted h kept queued begun learned) refl i
asks capacity fate queue Rest loaded t true h kept queued begun learned i =
    quiet capacity answers.Stall fate (link_of queue Rest loaded t true h kept queued begun learned) refl i
asks capacity fate queue Rest loaded t false h kept queued begun learned i =
    quiet capacity answers.Nak fate (link_of queue Rest loaded t false h kept queued begun learned) refl i
asks capacity fate queue (Posted n) loaded t true h kept queued begun learned i =
    quiet capacity answers.Stall fate (link_of queue (Posted n) loaded t true h kept queued begun learned) refl i
asks capacity fate queue (Posted n) loaded t false h kept queued begun learned i =
    quiet capacity answers.Nak fate (link_of queue (Posted n) loaded t false h kept queued begun learned) refl i
asks capacity fate queue (Running n left) loaded t true h kept queued begun learned i =
    quiet capacity answers.Stall fate (link_of queue (Running n left) loaded t true h kept queued begun learned) refl i
asks capacity fate queue (Running n left) zero t false h kept queued begun learned i =
    quiet capacity answers.Nak fate (link_of queue (Running n left) zero t false h kept queued begun learned) refl i
asks capacity fate queue (Running n []) (suc k) t false h kept queued begun learned i =
    quiet capacity answers.Nak fate (link_of queue (Running n []) (suc k) t false h kept queued begun learned) refl i
asks capacity fate queue (Running n (p ∷ left)) (suc k) t false h kept queued begun learned i =
    shows capacity fate queue n p left k t false h kept queued begun learned i

-- the pipe after a deed that queues and starts nothing, and of which the class learns of so many bytes
does : (capacity more : ℕ) (link : InLink) (queue : List ℕ) (phase : InPhase) (loaded : ℕ) (halted : Bool) →
    left_of phase ≡ left_of link.pipe.phase → beyond_transfer phase queue ≡ beyond_transfer link.pipe.phase link.pipe.queue →
    more + unlearned_bytes phase + length queue ≡ unlearned_bytes link.pipe.phase + length link.pipe.queue → running phase ≤ length queue → length queue ≤ length link.pipe.queue →
    IsKeptOnce capacity link →
    IsKeptOnce capacity (record link {
      pipe = record link.pipe { queue = queue; phase = phase; loaded = loaded; halted = halted };
      queued = link.queued ++ [];
      begun = link.begun ++ [];
      learned = link.learned + more;
    })
does capacity more link queue phase loaded halted el eb en within less i = record {
  packets = ap (λ y. link.kept ++ drop (doubts link) y) el ∙ i.packets ∙ sym (append-nil link.begun);
  bytes = ap (λ y. concat y ++ beyond_transfer phase queue) (append-nil link.begun) ∙ ap (λ y. concat link.begun ++ y) eb ∙ i.bytes ∙ sym (append-nil link.queued);
  number = let e = i.number in let l = ap length (append-nil link.queued) in omega (arith, en, e, l);
  within = within;
  fits = let f = i.fits in omega (arith, less, f);
  doubt = λ e. subst (λ y. 1 ≤ length y) (sym el) (i.doubt e);
}

irq : (capacity size : ℕ) (queue : List ℕ) (phase : InPhase) (loaded : ℕ) (t : Toggle) (halted : Bool) (h : Toggle) (kept : List (List ℕ)) (queued : List ℕ) (begun : List (List ℕ)) (learned : ℕ) →
    IsKeptOnce capacity (link_of queue phase loaded t halted h kept queued begun learned) →
    IsKeptOnce capacity (in_step size capacity (link_of queue phase loaded t halted h kept queued begun learned) (Does Irq))
irq capacity size queue (Running n []) loaded t halted h kept queued begun learned i =
    let inside = i.within in
    does capacity 0 (link_of queue (Running n []) loaded t halted h kept queued begun learned) (drop n queue) (Posted n) loaded halted refl refl
    (grind (arith, length-drop n queue)) (omega arith) (grind (arith, length-drop n queue)) i
irq capacity size queue (Running n (p ∷ left)) loaded t halted h kept queued begun learned i =
    does capacity 0 (link_of queue (Running n (p ∷ left)) loaded t halted h kept queued begun learned) queue (Running n (p ∷ left)) (load loaded (p ∷ left)) halted refl refl
    (omega arith) i.within (omega arith) i
irq capacity size queue Closed loaded t halted h kept queued begun learned i =
    does capacity 0 (link_of queue Closed loaded t halted h kept queued begun learned) queue Closed loaded halted refl refl (omega arith) i.within (omega arith) i
irq capacity size queue Rest loaded t halted h kept queued begun learned i =
    does capacity 0 (link_of queue Rest loaded t halted h kept queued begun learned) queue Rest loaded halted refl refl (omega arith) i.within (omega arith) i
irq capacity size queue (Posted n) loaded t halted h kept queued begun learned i =
    does capacity 0 (link_of queue (Posted n) loaded t halted h kept queued begun learned) queue (Posted n) loaded halted refl refl (omega arith) i.within (omega arith) i

task : (capacity size : ℕ) (queue : List ℕ) (phase : InPhase) (loaded : ℕ) (t : Toggle) (halted : Bool) (h : Toggle) (kept : List (List ℕ)) (queued : List ℕ) (begun : List (List ℕ)) (learned : ℕ) →
    IsKeptOnce capacity (link_of queue phase loaded t halted h kept queued begun learned) →
    IsKeptOnce capacity (in_step size capacity (link_of queue phase loaded t halted h kept queued begun learned) (Does Task))
task capacity size queue (Posted n) loaded t halted h kept queued begun learned i =
    does capacity n (link_of queue (Posted n) loaded t halted h kept queued begun learned) queue Rest loaded halted refl refl (omega arith) (omega arith) (omega arith) i
task capacity size queue Closed loaded t halted h kept queued begun learned i =
    does capacity 0 (link_of queue Closed loaded t halted h kept queued begun learned) queue Closed loaded halted refl refl (omega arith) i.within (omega arith) i
task capacity size queue Rest loaded t halted h kept queued begun learned i =
    does capacity 0 (link_of queue Rest loaded t halted h kept queued begun learned) queue Rest loaded halted refl refl (omega arith) i.within (omega arith) i
task capacity size queue (Running n left) loaded t halted h kept queued begun learned i =
    does capacity 0 (link_of queue (Running n left) loaded t halted h kept queued begun learned) queue (Running n left) loaded halted refl refl (omega arith) i.within (omega arith) i

-- a transfer starts where no packet is in doubt
undoubted : (b : Bool) → (b ≡ false → 1 ≤ 0) → ◌≡◌ {A = ℕ} (if b then 0 else 1) 0
undoubted true f = refl
undoubted false f = let h = f refl in omega (arith, h)

starts_packets : (d : ℕ) (kept begun packets : List (List ℕ)) → d ≡ 0 → kept ++ drop d [] ≡ begun → kept ++ drop d packets ≡ begun ++ packets
starts_packets d kept begun packets e h =
    let left : kept ≡ begun = sym (append-nil kept) ∙ ap (λ k. kept ++ drop k []) (sym e) ∙ h in
    ap (λ k. kept ++ drop k packets) e ∙ ap (λ y. y ++ packets) left

starts_bytes : (size : ℕ) (begun : List (List ℕ)) (queue queued : List ℕ) → concat begun ++ queue ≡ queued → concat (begun ++ cut size queue) ++ drop (length queue) queue ≡ queued ++ []
starts_bytes size begun queue queued e =
    ap (λ y. concat (begun ++ cut size queue) ++ y) (drop-length queue) ∙ append-nil (concat (begun ++ cut size queue)) ∙ concat-append begun (cut size queue) ∙
    ap (λ y. concat begun ++ y) (joined size queue) ∙ e ∙ sym (append-nil queued)

starts : (capacity size : ℕ) (queue : List ℕ) (phase : InPhase) (loaded : ℕ) (t : Toggle) (halted : Bool) (h : Toggle) (kept : List (List ℕ)) (queued : List ℕ) (begun : List (List ℕ)) (learned : ℕ) →
    IsKeptOnce capacity (link_of queue phase loaded t halted h kept queued begun learned) →
    IsKeptOnce capacity (in_step size capacity (link_of queue phase loaded t halted h kept queued begun learned) (Does Starts))
starts capacity size queue Rest loaded t halted h kept queued begun learned i = record {
  packets = starts_packets (if same_toggle h t then 0 else 1) kept begun (cut size queue) (undoubted (same_toggle h t) i.doubt) i.packets;
  bytes = starts_bytes size begun queue queued i.bytes;
  number = let e = i.number in let l = ap length (append-nil queued) in omega (arith, e, l);
  within = omega arith;
  fits = i.fits;
  doubt = λ e. let none = i.doubt e in omega (arith, none);
}
starts capacity size queue Closed loaded t halted h kept queued begun learned i =
    does capacity 0 (link_of queue Closed loaded t halted h kept queued begun learned) queue Closed loaded halted refl refl (omega arith) i.within (omega arith) i
starts capacity size queue (Running n left) loaded t halted h kept queued begun learned i =
    does capacity 0 (link_of queue (Running n left) loaded t halted h kept queued begun learned) queue (Running n left) loaded halted refl refl (omega arith) i.within (omega arith) i
starts capacity size queue (Posted n) loaded t halted h kept queued begun learned i =
    does capacity 0 (link_of queue (Posted n) loaded t halted h kept queued begun learned) queue (Posted n) loaded halted refl refl (omega arith) i.within (omega arith) i

-- what is written stands behind the transfer that runs
written_behind : (phase : InPhase) (queue bytes : List ℕ) → running phase ≤ length queue → beyond_transfer phase (queue ++ bytes) ≡ beyond_transfer phase queue ++ bytes
written_behind (Running n left) queue bytes h = drop-append-le n queue bytes h
written_behind Closed queue bytes h = refl
written_behind Rest queue bytes h = refl
written_behind (Posted n) queue bytes h = refl

deeds : (capacity size : ℕ) (link : InLink) (deed : InDeed) → IsKeptOnce capacity link → IsKeptOnce capacity (in_step size capacity link (Does deed))
deeds capacity size link Irq i =
    let pipe = link.pipe in irq capacity size pipe.queue pipe.phase pipe.loaded pipe.toggle pipe.halted link.toggle link.kept link.queued link.begun link.learned i
deeds capacity size link Task i =
    let pipe = link.pipe in task capacity size pipe.queue pipe.phase pipe.loaded pipe.toggle pipe.halted link.toggle link.kept link.queued link.begun link.learned i
deeds capacity size link Starts i =
    let pipe = link.pipe in starts capacity size pipe.queue pipe.phase pipe.loaded pipe.toggle pipe.halted link.toggle link.kept link.queued link.begun link.learned i
deeds capacity size link (Writes bytes) i =
    let w = take (capacity - length link.pipe.queue) bytes in
    let le = length-append link.pipe.queue w in let lq = length-append link.queued w in let lw = length-take (capacity - length link.pipe.queue) bytes in
    let en = i.number in let ew = i.within in let ef = i.fits in
    record {
      packets = i.packets ∙ sym (append-nil link.begun);
      bytes = ap (λ y. concat y ++ beyond_transfer link.pipe.phase (link.pipe.queue ++ w)) (append-nil link.begun) ∙
          ap (λ y. concat link.begun ++ y) (written_behind link.pipe.phase link.pipe.queue w ew) ∙
          sym (append_assoc (concat link.begun) (beyond_transfer link.pipe.phase link.pipe.queue) w) ∙ ap (λ y. y ++ w) i.bytes;
      number = omega (arith, en, le, lq);
      within = omega (arith, ew, le);
      fits = grind (arith, le, lw, ef);
      doubt = i.doubt;
    }
deeds capacity size link Halts i =
    let pipe = link.pipe in does capacity 0 link pipe.queue pipe.phase pipe.loaded true refl refl (omega arith) i.within (omega arith) i

steps_on : (capacity size : ℕ) (link : InLink) (step : InStep) → IsKeptOnce capacity link → IsKeptOnce capacity (in_step size capacity link step)
steps_on capacity size link (Asks fate) i =
    let pipe = link.pipe in asks capacity fate pipe.queue pipe.phase pipe.loaded pipe.toggle pipe.halted link.toggle link.kept link.queued link.begun link.learned i
steps_on capacity size link (Does deed) i = deeds capacity size link deed i

runs_on : (capacity size : ℕ) (link : InLink) (steps : List InStep) → IsKeptOnce capacity link → IsKeptOnce capacity (in_run size capacity link steps)
runs_on capacity size link [] i = i
runs_on capacity size link (step ∷ steps) i = runs_on capacity size (in_step size capacity link step) steps (steps_on capacity size link step i)

pub kept_once : (size capacity : ℕ) (steps : List InStep) → IsKeptOnce capacity (in_run size capacity in_start steps)
kept_once size capacity steps = runs_on capacity size in_start steps (record { packets = refl; bytes = refl; number = refl; within = omega arith; fits = omega arith; doubt = λ e. elim (true≢false e) [ ] })
