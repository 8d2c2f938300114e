-- An OUT pipe with the host at its other end: each packet is taken once and in order.
use Rattle.std.proofs.Common.{◌≡◌, ℕ, ◌+◌, ◌++◌, List, [], ◌∷◌, Bool, true, false, ◌&&◌, if◌then◌else◌, length, take, drop, refl, sym, ap, ◌∙◌, arith, append_assoc, append-nil, length-append, take-append-drop, true≢false}
use Rattle.std.specs.List.{concat}
use Rattle.std.proofs.lemmas.List.Folds.{concat-append}
use Rattle.usb_packet.specs.declared.bus.Toggle.{Toggle}
use Rattle.usb_packet.specs.declared.bus.Toggle.TheVariants.{D0, D1}
use Rattle.usb_packet.specs.Toggles.{flipped, same_toggle}
use Rattle.device_pipe.specs.OutPipe.{OutPipe, OutPhase, Closed, Rest, Armed, Landed, Posted, Stale, OutDeed, Irq, Task, Arms, Reads, Halts, out_answer, answer_at, is_ack, landed, phase_after_irq, phase_after_task, came_at, phase_armed, leaves_packet}
use Rattle.device_pipe.specs.Link.{Fate, Whole, DataLost, HandshakeLost, arrives, is_whole}
use Rattle.device_pipe.specs.OutLink.{OutLink, out_start, transacted, OutStep, Sends, Does, out_step, out_run, moved_on}
use Rattle.device_pipe.specs.Laws.{IsTakenOnce, unlearned}

-- a pipe that acknowledges has nothing landed
pub nothing_landed : (phase : OutPhase) (halted : Bool) → is_ack (answer_at phase halted) ≡ true → (landed phase ≡ []) × (unlearned phase ≡ 0)
nothing_landed (Closed over) halted e = (refl, refl)
nothing_landed Rest halted e = (refl, refl)
nothing_landed Armed halted e = (refl, refl)
nothing_landed (Landed packet) true e = elim (true≢false (sym e)) [ ]
nothing_landed (Landed packet) false e = elim (true≢false (sym e)) [ ]
nothing_landed Posted true e = elim (true≢false (sym e)) [ ]
nothing_landed Posted false e = elim (true≢false (sym e)) [ ]
nothing_landed Stale halted e = (refl, refl)

-- joined, as each case needs it
lands : (xs l p : List ℕ) (m : List (List ℕ)) → l ≡ [] → xs ++ l ≡ concat (m ++ []) → xs ++ p ≡ concat (m ++ p ∷ [])
lands xs l p m el e =
    let whole : xs ≡ concat m = sym (append-nil xs) ∙ ap (λ y. xs ++ y) (sym el) ∙ e ∙ ap concat (append-nil m) in
    ap (λ y. y ++ p) whole ∙ ap (λ y. concat m ++ y) (sym (append-nil p)) ∙ sym (concat-append m (p ∷ []))

counts : (n u : ℕ) (p : List ℕ) (m : List (List ℕ)) → u ≡ 0 → n + u ≡ length (m ++ []) → n + 1 ≡ length (m ++ p ∷ [])
counts n u p m eu e = grind (arith, length-append m [], length-append m (p ∷ []))

ends : (xs : List ℕ) (m : List (List ℕ)) → xs ≡ concat m → xs ≡ concat (m ++ [])
ends xs m e = e ∙ ap concat (sym (append-nil m))

ends_at : (n : ℕ) (m : List (List ℕ)) → n ≡ length m → n ≡ length (m ++ [])
ends_at n m e = e ∙ ap length (sym (append-nil m))

abbrev link_of : OutPhase → Bool → Toggle → List ℕ → Toggle → List (List ℕ) → List (List ℕ) → List ℕ → ℕ → OutLink
link_of phase halted t held h packets moved read learned =
    record { pipe = record { phase = phase; halted = halted; toggle = t; held = held }; toggle = h; packets = packets; moved = moved; read = read; learned = learned }

-- a packet is sent to a pipe that acknowledges it where `b`
abbrev sent_to : Bool → OutLink → Fate → List ℕ → List (List ℕ) → OutLink
sent_to b link fate packet packets =
    record (if is_whole fate && b then moved_on link packet packets else link) {
      pipe = if arrives fate
          then (if b && same_toggle link.toggle link.pipe.toggle
          then record link.pipe { phase = Landed packet; toggle = flipped link.pipe.toggle }
          else link.pipe)
          else link.pipe;
    }

sends : (given : List (List ℕ)) (fate : Fate) (b : Bool) (phase : OutPhase) (halted : Bool) (t : Toggle) (held : List ℕ) (h : Toggle) (p : List ℕ) (ps moved : List (List ℕ)) (read : List ℕ) (learned : ℕ) →
    (b ≡ true → (landed phase ≡ []) × (unlearned phase ≡ 0)) → IsTakenOnce given (link_of phase halted t held h (p ∷ ps) moved read learned) →
    IsTakenOnce given (sent_to b (link_of phase halted t held h (p ∷ ps) moved read learned) fate p ps)
sends given DataLost b phase halted t held h p ps moved read learned f i = i
sends given Whole false phase halted t held h p ps moved read learned f i = i
sends given HandshakeLost false phase halted t held h p ps moved read learned f i = i
sends given Whole true phase halted D0 held D0 p ps moved read learned f i = record {
  all = append_assoc moved (p ∷ []) ps ∙ i.all;
  bytes = ends (read ++ held ++ p) (moved ++ p ∷ []) (lands (read ++ held) (landed phase) p moved (f refl).0 i.bytes);
  number = ends_at (learned + 1) (moved ++ p ∷ []) (counts learned (unlearned phase) p moved (f refl).1 i.number);
  doubt = λ e. elim (true≢false e) [ ];
}
sends given Whole true phase halted D1 held D1 p ps moved read learned f i = record {
  all = append_assoc moved (p ∷ []) ps ∙ i.all;
  bytes = ends (read ++ held ++ p) (moved ++ p ∷ []) (lands (read ++ held) (landed phase) p moved (f refl).0 i.bytes);
  number = ends_at (learned + 1) (moved ++ p ∷ []) (counts learned (unlearned phase) p moved (f refl).1 i.number);
  doubt = λ e. elim (true≢false e) [ ];
}
sends given Whole true phase halted D0 held D1 p ps moved read learned f i = record {
  all = append_assoc moved (p ∷ []) ps ∙ i.all;
  bytes = ends (read ++ held ++ landed phase) (moved ++ p ∷ []) i.bytes;
  number = ends_at (learned + unlearned phase) (moved ++ p ∷ []) i.number;
  doubt = λ e. elim (true≢false e) [ ];
}
sends given Whole true phase halted D1 held D0 p ps moved read learned f i = record {
  all = append_assoc moved (p ∷ []) ps ∙ i.all;
  bytes = ends (read ++ held ++ landed phase) (moved ++ p ∷ []) i.bytes;
  number = ends_at (learned + unlearned phase) (moved ++ p ∷ []) i.number;
  doubt = λ e. elim (true≢false e) [ ];
}
sends given HandshakeLost true phase halted D0 held D0 p ps moved read learned f i = record {
  all = i.all;
  bytes = lands (read ++ held) (landed phase) p moved (f refl).0 i.bytes;
  number = counts learned (unlearned phase) p moved (f refl).1 i.number;
  doubt = λ e. omega arith;
}
sends given HandshakeLost true phase halted D1 held D1 p ps moved read learned f i = record {
  all = i.all;
  bytes = lands (read ++ held) (landed phase) p moved (f refl).0 i.bytes;
  number = counts learned (unlearned phase) p moved (f refl).1 i.number;
  doubt = λ e. omega arith;
}
sends given HandshakeLost true phase halted D0 held D1 p ps moved read learned f i = i
sends given HandshakeLost true phase halted D1 held D0 p ps moved read learned f i = i

transacts : (given : List (List ℕ)) (link : OutLink) (fate : Fate) (packets : List (List ℕ)) → IsTakenOnce given (record link { packets = packets }) →
    IsTakenOnce given (transacted (record link { packets = packets }) fate packets)
transacts given link fate [] i = i
transacts given link fate (p ∷ ps) i =
    let pipe = link.pipe in
    sends given fate (is_ack (out_answer pipe)) pipe.phase pipe.halted pipe.toggle pipe.held link.toggle p ps link.moved link.read link.learned
    (nothing_landed pipe.phase pipe.halted) i

-- a deed of the device moves bytes on, and loses none
does : (given : List (List ℕ)) (link : OutLink) (phase : OutPhase) (halted : Bool) (held read : List ℕ) (learned : ℕ) →
    read ++ held ++ landed phase ≡ link.read ++ link.pipe.held ++ landed link.pipe.phase → learned + unlearned phase ≡ link.learned + unlearned link.pipe.phase →
    IsTakenOnce given link → IsTakenOnce given (record link { pipe = record link.pipe { phase = phase; halted = halted; held = held }; read = read; learned = learned })
does given link phase halted held read learned eb en i = record { all = i.all; bytes = eb ∙ i.bytes; number = en ∙ i.number; doubt = i.doubt }

pub landed_irq : (phase : OutPhase) → landed (phase_after_irq phase) ≡ []
landed_irq (Closed over) = refl
landed_irq Rest = refl
landed_irq Armed = refl
landed_irq (Landed packet) = refl
landed_irq Posted = refl
landed_irq Stale = refl

unlearned_irq : (phase : OutPhase) → unlearned (phase_after_irq phase) ≡ unlearned phase
unlearned_irq (Closed over) = refl
unlearned_irq Rest = refl
unlearned_irq Armed = refl
unlearned_irq (Landed packet) = refl
unlearned_irq Posted = refl
unlearned_irq Stale = refl

pub landed_task : (phase : OutPhase) → landed (phase_after_task phase) ≡ landed phase
landed_task (Closed over) = refl
landed_task Rest = refl
landed_task Armed = refl
landed_task (Landed packet) = refl
landed_task Posted = refl
landed_task Stale = refl

unlearned_task : (phase : OutPhase) → (if came_at phase then 1 else 0) + unlearned (phase_after_task phase) ≡ unlearned phase
unlearned_task (Closed over) = refl
unlearned_task Rest = refl
unlearned_task Armed = refl
unlearned_task (Landed packet) = refl
unlearned_task Posted = refl
unlearned_task Stale = refl

pub landed_armed : (phase : OutPhase) (halted : Bool) → landed (phase_armed phase halted) ≡ landed phase
landed_armed (Closed over) halted = refl
landed_armed Rest true = refl
landed_armed Rest false = refl
landed_armed Armed halted = refl
landed_armed (Landed packet) halted = refl
landed_armed Posted halted = refl
landed_armed Stale halted = refl

unlearned_armed : (phase : OutPhase) (halted : Bool) → unlearned (phase_armed phase halted) ≡ unlearned phase
unlearned_armed (Closed over) halted = refl
unlearned_armed Rest true = refl
unlearned_armed Rest false = refl
unlearned_armed Armed halted = refl
unlearned_armed (Landed packet) halted = refl
unlearned_armed Posted halted = refl
unlearned_armed Stale halted = refl

pub irq_bytes : (read held : List ℕ) (phase : OutPhase) → (read ++ []) ++ (held ++ landed phase) ++ landed (phase_after_irq phase) ≡ read ++ held ++ landed phase
irq_bytes read held phase = simp (append-nil, append_assoc, landed_irq phase) refl

reads_bytes : (n : ℕ) (read held l : List ℕ) → (read ++ take n held) ++ drop n held ++ l ≡ read ++ held ++ l
reads_bytes n read held l = ap (λ y. y ++ l) (append_assoc read (take n held) (drop n held) ∙ ap (λ y. read ++ y) (take-append-drop n held))

stays_bytes : (read held l k : List ℕ) → k ≡ l → (read ++ []) ++ held ++ k ≡ read ++ held ++ l
stays_bytes read held l k e = simp (append-nil, e) refl

deeds : (given : List (List ℕ)) (link : OutLink) (deed : OutDeed) → IsTakenOnce given link → IsTakenOnce given (out_step link (Does deed))
deeds given link Irq i =
    does given link (phase_after_irq link.pipe.phase) link.pipe.halted (link.pipe.held ++ landed link.pipe.phase) (link.read ++ []) (link.learned + 0)
    (irq_bytes link.read link.pipe.held link.pipe.phase) (grind (arith, unlearned_irq link.pipe.phase)) i
deeds given link Task i =
    let e = unlearned_task link.pipe.phase in
    does given link (phase_after_task link.pipe.phase) link.pipe.halted link.pipe.held (link.read ++ []) (link.learned + (if came_at link.pipe.phase then 1 else 0))
    (stays_bytes link.read link.pipe.held (landed link.pipe.phase) (landed (phase_after_task link.pipe.phase)) (landed_task link.pipe.phase)) (omega (arith, e)) i
deeds given link Arms i =
    let e = unlearned_armed link.pipe.phase link.pipe.halted in
    does given link (phase_armed link.pipe.phase link.pipe.halted) link.pipe.halted link.pipe.held (link.read ++ []) (link.learned + 0)
    (stays_bytes link.read link.pipe.held (landed link.pipe.phase) (landed (phase_armed link.pipe.phase link.pipe.halted)) (landed_armed link.pipe.phase link.pipe.halted)) (omega (arith, e)) i
deeds given link (Reads n) i =
    does given link link.pipe.phase link.pipe.halted (drop n link.pipe.held) (link.read ++ take n link.pipe.held) (link.learned + 0)
    (reads_bytes n link.read link.pipe.held (landed link.pipe.phase)) (omega arith) i
deeds given link Halts i =
    does given link link.pipe.phase true link.pipe.held (link.read ++ []) (link.learned + 0)
    (stays_bytes link.read link.pipe.held (landed link.pipe.phase) (landed link.pipe.phase) refl) (omega arith) i

steps_on : (given : List (List ℕ)) (link : OutLink) (step : OutStep) → IsTakenOnce given link → IsTakenOnce given (out_step link step)
steps_on given link (Sends fate) i = transacts given link fate link.packets i
steps_on given link (Does deed) i = deeds given link deed i

runs_on : (given : List (List ℕ)) (link : OutLink) (steps : List OutStep) → IsTakenOnce given link → IsTakenOnce given (out_run link steps)
runs_on given link [] i = i
runs_on given link (step ∷ steps) i = runs_on given (out_step link step) steps (steps_on given link step i)

opens : (given : List (List ℕ)) (b : Bool) → IsTakenOnce given (link_of (if b then Stale else Rest) false D0 [] D0 given [] [] 0)
opens given true = record { all = refl; bytes = refl; number = refl; doubt = λ e. elim (true≢false e) [ ] }
opens given false = record { all = refl; bytes = refl; number = refl; doubt = λ e. elim (true≢false e) [ ] }

pub taken_once : (pipe : OutPipe) (given : List (List ℕ)) (steps : List OutStep) → IsTakenOnce given (out_run (out_start pipe given) steps)
taken_once pipe given steps = runs_on given (out_start pipe given) steps (opens given (leaves_packet pipe.phase))
