-- An OUT pipe with the device at its other end: each packet is taken once and in order.
use Rattle.std.proofs.Common.{◌≡◌, ℕ, suc, ◌-◌, ◌++◌, List, [], ◌∷◌, Bool, true, false, length, take, drop, Option, Some, None, inl, inr, refl, sym, ap, ◌∙◌, append_assoc, append-nil, take-append-drop, true≢false, subst}
use Rattle.std.specs.Prelude.{nat_le, is_some, ⊤}
use Rattle.std.specs.List.{concat}
use Rattle.std.proofs.lemmas.Bool.{cases_Bool}
use Rattle.std.proofs.lemmas.List.Folds.{concat-append}
use Rattle.usb_packet.specs.declared.bus.Toggle.{Toggle}
use Rattle.usb_packet.specs.declared.bus.Toggle.TheVariants.{D0, D1}
use Rattle.usb_packet.specs.Toggles.{same_toggle}
use Rattle.device_pipe.specs.Link.{Fate, Whole, DataLost, HandshakeLost}
use Rattle.host_pipe.specs.Tries.{Went, Refused, Lost, most_tries}
use Rattle.host_pipe.specs.OutPipe.{OutPhase, Closed, Rest, Running, Landed, Posted, Halted, Dead, Clearing, Acknowledged, Stalled, Unheard, Irq, Task, Starts, Writes, Asks, out_sent}
use Rattle.host_pipe.specs.OutLink.{OutLink, Attitude, Takes, Waits, Stalls, transacted, OutStep, Sends, Does, out_start, out_step, out_run}
use Rattle.host_pipe.specs.Laws.{doubt_of, in_doubt, IsFront, IsSentOnce}

-- what is under way in each phase, and whether the toggles are the same
abbrev Has : OutPhase → Option (List ℕ) → Bool → Type 0
Has Closed under_way same = (under_way ≡ None) × (same ≡ true)
Has Rest under_way same = (under_way ≡ None) × (same ≡ true)
Has Running under_way same = is_some under_way ≡ true
Has (Landed Acknowledged) under_way same = (is_some under_way ≡ true) × (same ≡ false)
Has (Landed Stalled) under_way same = is_some under_way ≡ true
Has (Landed Unheard) under_way same = is_some under_way ≡ true
Has (Posted Went) under_way same = (under_way ≡ None) × (same ≡ true)
Has (Posted Refused) under_way same = is_some under_way ≡ true
Has (Posted Lost) under_way same = is_some under_way ≡ true
Has Halted under_way same = is_some under_way ≡ true
Has Dead under_way same = is_some under_way ≡ true
Has Clearing under_way same = (under_way ≡ None) × (same ≡ true)

abbrev FrontOf : Option (List ℕ) → List ℕ → Type 0
FrontOf None pending = ⊤
FrontOf (Some packet) pending = IsFront packet pending

record Sound (link : OutLink) : Type 0 where
  packets : link.taken ≡ link.gone ++ in_doubt link
  bytes : concat link.gone ++ link.pipe.pending ≡ link.written
  has : Has link.pipe.phase link.pipe.under_way (same_toggle link.pipe.toggle link.toggle)
  front : FrontOf link.pipe.under_way link.pipe.pending

abbrev link_of : OutPhase → Toggle → ℕ → List ℕ → Option (List ℕ) → Bool → Toggle → List (List ℕ) → List (List ℕ) → List ℕ → OutLink
link_of phase h tries pending under_way asked d taken gone written =
    record { pipe = record { phase = phase; toggle = h; tries = tries; pending = pending; under_way = under_way; asked = asked }; toggle = d; taken = taken; gone = gone; written = written }

-- What it says.

in_doubt_some : (phase : OutPhase) (under_way : Option (List ℕ)) (same : Bool) → Has phase under_way same → same ≡ false → is_some under_way ≡ true
in_doubt_some Closed under_way same h e = elim (true≢false (sym h.1 ∙ e)) [ ]
in_doubt_some Rest under_way same h e = elim (true≢false (sym h.1 ∙ e)) [ ]
in_doubt_some Running under_way same h e = h
in_doubt_some (Landed Acknowledged) under_way same h e = h.0
in_doubt_some (Landed Stalled) under_way same h e = h
in_doubt_some (Landed Unheard) under_way same h e = h
in_doubt_some (Posted Went) under_way same h e = elim (true≢false (sym h.1 ∙ e)) [ ]
in_doubt_some (Posted Refused) under_way same h e = h
in_doubt_some (Posted Lost) under_way same h e = h
in_doubt_some Halted under_way same h e = h
in_doubt_some Dead under_way same h e = h
in_doubt_some Clearing under_way same h e = elim (true≢false (sym h.1 ∙ e)) [ ]

front_way : (under_way : Option (List ℕ)) (pending packet : List ℕ) → FrontOf under_way pending → under_way ≡ Some packet → IsFront packet pending
front_way under_way pending packet front e = subst (λ (o : Option (List ℕ)). FrontOf o pending) e front

-- what the host took off, with the packet in doubt
taken_whole : (gone : List (List ℕ)) (same : Bool) (under_way : Option (List ℕ)) (pending written : List ℕ) → FrontOf under_way pending
    → concat gone ++ pending ≡ written → IsFront (concat (gone ++ doubt_of same under_way)) written
taken_whole gone true under_way pending written front e =
    record { rest = pending; whole = sym e ∙ ap (λ (x : List (List ℕ)). concat x ++ pending) (sym (append-nil gone)) }
taken_whole gone false None pending written front e =
    record { rest = pending; whole = sym e ∙ ap (λ (x : List (List ℕ)). concat x ++ pending) (sym (append-nil gone)) }
taken_whole gone false (Some packet) pending written front e = record {
  rest = front.rest;
  whole = sym e ∙ ap (λ (x : List ℕ). concat gone ++ x) front.whole ∙ sym (append_assoc (concat gone) packet front.rest)
      ∙ ap (λ (x : List ℕ). (concat gone ++ x) ++ front.rest) (sym (append-nil packet)) ∙ ap (λ (x : List ℕ). x ++ front.rest) (sym (concat-append gone (packet ∷ [])));
}

sent_once : (link : OutLink) → Sound link → IsSentOnce link
sent_once link s = record {
  packets = s.packets;
  bytes = s.bytes;
  doubt = λ e. in_doubt_some link.pipe.phase link.pipe.under_way (same_toggle link.pipe.toggle link.toggle) s.has e;
  front = λ packet e. front_way link.pipe.under_way link.pipe.pending packet s.front e;
  whole = subst (λ (x : List (List ℕ)). IsFront (concat x) link.written) (sym s.packets)
      (taken_whole link.gone (same_toggle link.pipe.toggle link.toggle) link.pipe.under_way link.pipe.pending link.written s.front s.bytes);
}

-- The bus.

-- the device takes the packet
took : (taken gone : List (List ℕ)) (packet : List ℕ) → taken ≡ gone ++ [] → taken ++ packet ∷ [] ≡ gone ++ packet ∷ []
took taken gone packet e = ap (λ (x : List (List ℕ)). x ++ packet ∷ []) (e ∙ append-nil gone)

sends : (fate : Fate) (attitude : Attitude) (h d : Toggle) (tries : ℕ) (pending p : List ℕ) (asked : Bool) (taken gone : List (List ℕ)) (written : List ℕ)
    → Sound (link_of Running h tries pending (Some p) asked d taken gone written)
    → Sound (transacted (link_of Running h tries pending (Some p) asked d taken gone written) fate attitude (Some p))
sends DataLost attitude h d tries pending p asked taken gone written s = record { packets = s.packets; bytes = s.bytes; has = refl; front = s.front }
sends Whole Waits h d tries pending p asked taken gone written s = record { packets = s.packets; bytes = s.bytes; has = refl; front = s.front }
sends Whole Stalls h d tries pending p asked taken gone written s = record { packets = s.packets; bytes = s.bytes; has = refl; front = s.front }
sends HandshakeLost Waits h d tries pending p asked taken gone written s = record { packets = s.packets; bytes = s.bytes; has = refl; front = s.front }
sends HandshakeLost Stalls h d tries pending p asked taken gone written s = record { packets = s.packets; bytes = s.bytes; has = refl; front = s.front }
sends Whole Takes D0 D0 tries pending p asked taken gone written s = record { packets = took taken gone p s.packets; bytes = s.bytes; has = (refl, refl); front = s.front }
sends Whole Takes D1 D1 tries pending p asked taken gone written s = record { packets = took taken gone p s.packets; bytes = s.bytes; has = (refl, refl); front = s.front }
sends Whole Takes D0 D1 tries pending p asked taken gone written s = record { packets = s.packets; bytes = s.bytes; has = (refl, refl); front = s.front }
sends Whole Takes D1 D0 tries pending p asked taken gone written s = record { packets = s.packets; bytes = s.bytes; has = (refl, refl); front = s.front }
sends HandshakeLost Takes D0 D0 tries pending p asked taken gone written s = record { packets = took taken gone p s.packets; bytes = s.bytes; has = refl; front = s.front }
sends HandshakeLost Takes D1 D1 tries pending p asked taken gone written s = record { packets = took taken gone p s.packets; bytes = s.bytes; has = refl; front = s.front }
sends HandshakeLost Takes D0 D1 tries pending p asked taken gone written s = record { packets = s.packets; bytes = s.bytes; has = refl; front = s.front }
sends HandshakeLost Takes D1 D0 tries pending p asked taken gone written s = record { packets = s.packets; bytes = s.bytes; has = refl; front = s.front }

turn : (fate : Fate) (attitude : Attitude) (phase : OutPhase) (h d : Toggle) (tries : ℕ) (pending : List ℕ) (under_way : Option (List ℕ)) (asked : Bool) (taken gone : List (List ℕ)) (written : List ℕ)
    → Sound (link_of phase h tries pending under_way asked d taken gone written)
    → Sound (transacted (link_of phase h tries pending under_way asked d taken gone written) fate attitude (out_sent (link_of phase h tries pending under_way asked d taken gone written).pipe))
turn fate attitude Running h d tries pending (Some p) asked taken gone written s = sends fate attitude h d tries pending p asked taken gone written s
turn fate attitude Running h d tries pending None asked taken gone written s = s
turn fate attitude Closed h d tries pending under_way asked taken gone written s = s
turn fate attitude Rest h d tries pending under_way asked taken gone written s = s
turn fate attitude (Landed result) h d tries pending under_way asked taken gone written s = s
turn fate attitude (Posted note) h d tries pending under_way asked taken gone written s = s
turn fate attitude Halted h d tries pending under_way asked taken gone written s = s
turn fate attitude Dead h d tries pending under_way asked taken gone written s = s
turn fate attitude Clearing h d tries pending under_way asked taken gone written s = s

-- Deeds.

-- nothing is taken off, and nothing is written
no_more : (link : OutLink) → Sound link → Sound (record link { gone = link.gone ++ []; written = link.written ++ [] })
no_more link s = record {
  packets = s.packets ∙ ap (λ (g : List (List ℕ)). g ++ in_doubt link) (sym (append-nil link.gone));
  bytes = ap (λ (g : List (List ℕ)). concat g ++ link.pipe.pending) (append-nil link.gone) ∙ s.bytes ∙ sym (append-nil link.written);
  has = s.has;
  front = s.front;
}

-- only the phase, the tries and the asking change
rephased : (link : OutLink) (phase : OutPhase) (tries : ℕ) (asked : Bool) → Sound link → Has phase link.pipe.under_way (same_toggle link.pipe.toggle link.toggle)
    → Sound (record link { pipe = record link.pipe { phase = phase; tries = tries; asked = asked } })
rephased link phase tries asked s has = record { packets = s.packets; bytes = s.bytes; has = has; front = s.front }

-- an acknowledged packet is taken off
dropped : (p rest : List ℕ) → drop (length p) (p ++ rest) ≡ rest
dropped [] rest = refl
dropped (byte ∷ p) rest = dropped p rest

taken_bytes : (gone : List (List ℕ)) (p pending written : List ℕ) → IsFront p pending → concat gone ++ pending ≡ written
    → concat (gone ++ p ∷ []) ++ drop (length p) pending ≡ written ++ []
taken_bytes gone p pending written front e =
    ap (λ (x : List ℕ). concat (gone ++ p ∷ []) ++ drop (length p) x) front.whole
    ∙ ap (λ (x : List ℕ). concat (gone ++ p ∷ []) ++ x) (dropped p front.rest)
    ∙ ap (λ (x : List ℕ). x ++ front.rest) (concat-append gone (p ∷ []))
    ∙ ap (λ (x : List ℕ). (concat gone ++ x) ++ front.rest) (append-nil p)
    ∙ append_assoc (concat gone) p front.rest
    ∙ ap (λ (x : List ℕ). concat gone ++ x) (sym front.whole)
    ∙ e
    ∙ sym (append-nil written)

takes_off : (h d : Toggle) (tries : ℕ) (pending : List ℕ) (under_way : Option (List ℕ)) (asked : Bool) (taken gone : List (List ℕ)) (written : List ℕ)
    → Sound (link_of (Landed Acknowledged) h tries pending under_way asked d taken gone written)
    → Sound (out_step 0 0 (link_of (Landed Acknowledged) h tries pending under_way asked d taken gone written) (Does Irq))
takes_off h d tries pending None asked taken gone written s = elim (true≢false (sym s.has.0)) [ ]
takes_off D0 D0 tries pending (Some p) asked taken gone written s = elim (true≢false s.has.1) [ ]
takes_off D1 D1 tries pending (Some p) asked taken gone written s = elim (true≢false s.has.1) [ ]
takes_off D0 D1 tries pending (Some p) asked taken gone written s =
    record { packets = s.packets ∙ sym (append-nil (gone ++ p ∷ [])); bytes = taken_bytes gone p pending written s.front s.bytes; has = (refl, refl); front = tt }
takes_off D1 D0 tries pending (Some p) asked taken gone written s =
    record { packets = s.packets ∙ sym (append-nil (gone ++ p ∷ [])); bytes = taken_bytes gone p pending written s.front s.bytes; has = (refl, refl); front = tt }

irq : (phase : OutPhase) (h d : Toggle) (tries : ℕ) (pending : List ℕ) (under_way : Option (List ℕ)) (asked : Bool) (taken gone : List (List ℕ)) (written : List ℕ)
    → Sound (link_of phase h tries pending under_way asked d taken gone written)
    → Sound (out_step 0 0 (link_of phase h tries pending under_way asked d taken gone written) (Does Irq))
irq (Landed Acknowledged) h d tries pending under_way asked taken gone written s = takes_off h d tries pending under_way asked taken gone written s
irq (Landed Stalled) h d tries pending under_way asked taken gone written s =
    no_more (link_of (Posted Refused) h tries pending under_way asked d taken gone written) (rephased (link_of (Landed Stalled) h tries pending under_way asked d taken gone written) (Posted Refused) tries asked s s.has)
irq (Landed Unheard) h d tries pending under_way asked taken gone written s = elim (cases_Bool (nat_le most_tries (suc tries))) [
  | inl over ↦ rw over (no_more (link_of (Posted Lost) h (suc tries) pending under_way asked d taken gone written) (rephased (link_of (Landed Unheard) h tries pending under_way asked d taken gone written) (Posted Lost) (suc tries) asked s s.has))
  | inr more ↦ rw more (no_more (link_of Running h (suc tries) pending under_way asked d taken gone written) (rephased (link_of (Landed Unheard) h tries pending under_way asked d taken gone written) Running (suc tries) asked s s.has))
]
irq Closed h d tries pending under_way asked taken gone written s = no_more (link_of Closed h tries pending under_way asked d taken gone written) s
irq Rest h d tries pending under_way asked taken gone written s = no_more (link_of Rest h tries pending under_way asked d taken gone written) s
irq Running h d tries pending under_way asked taken gone written s = no_more (link_of Running h tries pending under_way asked d taken gone written) s
irq (Posted note) h d tries pending under_way asked taken gone written s = no_more (link_of (Posted note) h tries pending under_way asked d taken gone written) s
irq Halted h d tries pending under_way asked taken gone written s = no_more (link_of Halted h tries pending under_way asked d taken gone written) s
irq Dead h d tries pending under_way asked taken gone written s = no_more (link_of Dead h tries pending under_way asked d taken gone written) s
irq Clearing h d tries pending under_way asked taken gone written s = no_more (link_of Clearing h tries pending under_way asked d taken gone written) s

task : (phase : OutPhase) (h d : Toggle) (tries : ℕ) (pending : List ℕ) (under_way : Option (List ℕ)) (asked : Bool) (taken gone : List (List ℕ)) (written : List ℕ)
    → Sound (link_of phase h tries pending under_way asked d taken gone written)
    → Sound (out_step 0 0 (link_of phase h tries pending under_way asked d taken gone written) (Does Task))
task (Posted Went) h d tries pending under_way asked taken gone written s =
    no_more (link_of Rest h tries pending under_way asked d taken gone written) (rephased (link_of (Posted Went) h tries pending under_way asked d taken gone written) Rest tries asked s s.has)
task (Posted Refused) h d tries pending under_way asked taken gone written s =
    no_more (link_of Halted h tries pending under_way asked d taken gone written) (rephased (link_of (Posted Refused) h tries pending under_way asked d taken gone written) Halted tries asked s s.has)
task (Posted Lost) h d tries pending under_way asked taken gone written s =
    no_more (link_of Dead h tries pending under_way asked d taken gone written) (rephased (link_of (Posted Lost) h tries pending under_way asked d taken gone written) Dead tries asked s s.has)
task (Landed result) h d tries pending under_way asked taken gone written s = no_more (link_of (Landed result) h tries pending under_way asked d taken gone written) s
task Closed h d tries pending under_way asked taken gone written s = no_more (link_of Closed h tries pending under_way asked d taken gone written) s
task Rest h d tries pending under_way asked taken gone written s = no_more (link_of Rest h tries pending under_way asked d taken gone written) s
task Running h d tries pending under_way asked taken gone written s = no_more (link_of Running h tries pending under_way asked d taken gone written) s
task Halted h d tries pending under_way asked taken gone written s = no_more (link_of Halted h tries pending under_way asked d taken gone written) s
task Dead h d tries pending under_way asked taken gone written s = no_more (link_of Dead h tries pending under_way asked d taken gone written) s
task Clearing h d tries pending under_way asked taken gone written s = no_more (link_of Clearing h tries pending under_way asked d taken gone written) s

-- a packet of what is pending starts
begins : (h d : Toggle) (tries : ℕ) (pending p : List ℕ) (under_way : Option (List ℕ)) (asked : Bool) (taken gone : List (List ℕ)) (written : List ℕ) → IsFront p pending
    → Sound (link_of Rest h tries pending under_way asked d taken gone written) → Sound (link_of Running h 0 pending (Some p) asked d taken gone written)
begins D0 D0 tries pending p under_way asked taken gone written front s = record { packets = s.packets; bytes = s.bytes; has = refl; front = front }
begins D1 D1 tries pending p under_way asked taken gone written front s = record { packets = s.packets; bytes = s.bytes; has = refl; front = front }
begins D0 D1 tries pending p under_way asked taken gone written front s = elim (true≢false (sym s.has.1)) [ ]
begins D1 D0 tries pending p under_way asked taken gone written front s = elim (true≢false (sym s.has.1)) [ ]

starts_rest : (size : ℕ) (h d : Toggle) (tries : ℕ) (pending : List ℕ) (under_way : Option (List ℕ)) (asked : Bool) (taken gone : List (List ℕ)) (written : List ℕ)
    → Sound (link_of Rest h tries pending under_way asked d taken gone written)
    → Sound (out_step size 0 (link_of Rest h tries pending under_way asked d taken gone written) (Does Starts))
starts_rest size h d tries [] under_way false taken gone written s = no_more (link_of Rest h tries [] under_way false d taken gone written) s
starts_rest size h d tries [] under_way true taken gone written s =
    no_more (link_of Running h 0 [] (Some []) true d taken gone written) (begins h d tries [] [] under_way true taken gone written (record { rest = []; whole = refl }) s)
starts_rest size h d tries (byte ∷ bytes) under_way asked taken gone written s =
    no_more (link_of Running h 0 (byte ∷ bytes) (Some (take size (byte ∷ bytes))) asked d taken gone written)
    (begins h d tries (byte ∷ bytes) (take size (byte ∷ bytes)) under_way asked taken gone written (record { rest = drop size (byte ∷ bytes); whole = sym (take-append-drop size (byte ∷ bytes)) }) s)

starts : (size : ℕ) (phase : OutPhase) (h d : Toggle) (tries : ℕ) (pending : List ℕ) (under_way : Option (List ℕ)) (asked : Bool) (taken gone : List (List ℕ)) (written : List ℕ)
    → Sound (link_of phase h tries pending under_way asked d taken gone written)
    → Sound (out_step size 0 (link_of phase h tries pending under_way asked d taken gone written) (Does Starts))
starts size Rest h d tries pending under_way asked taken gone written s = starts_rest size h d tries pending under_way asked taken gone written s
starts size Closed h d tries pending under_way asked taken gone written s = no_more (link_of Closed h tries pending under_way asked d taken gone written) s
starts size Running h d tries pending under_way asked taken gone written s = no_more (link_of Running h tries pending under_way asked d taken gone written) s
starts size (Landed result) h d tries pending under_way asked taken gone written s = no_more (link_of (Landed result) h tries pending under_way asked d taken gone written) s
starts size (Posted note) h d tries pending under_way asked taken gone written s = no_more (link_of (Posted note) h tries pending under_way asked d taken gone written) s
starts size Halted h d tries pending under_way asked taken gone written s = no_more (link_of Halted h tries pending under_way asked d taken gone written) s
starts size Dead h d tries pending under_way asked taken gone written s = no_more (link_of Dead h tries pending under_way asked d taken gone written) s
starts size Clearing h d tries pending under_way asked taken gone written s = no_more (link_of Clearing h tries pending under_way asked d taken gone written) s

-- more is pending
front_with : (under_way : Option (List ℕ)) (pending more : List ℕ) → FrontOf under_way pending → FrontOf under_way (pending ++ more)
front_with None pending more front = tt
front_with (Some p) pending more front = record { rest = front.rest ++ more; whole = ap (λ (x : List ℕ). x ++ more) front.whole ∙ append_assoc p front.rest more }

writes : (link : OutLink) (more : List ℕ) → Sound link
    → Sound (record link { pipe = record link.pipe { pending = link.pipe.pending ++ more }; gone = link.gone ++ []; written = link.written ++ more })
writes link more s = record {
  packets = s.packets ∙ ap (λ (g : List (List ℕ)). g ++ in_doubt link) (sym (append-nil link.gone));
  bytes = ap (λ (g : List (List ℕ)). concat g ++ (link.pipe.pending ++ more)) (append-nil link.gone)
      ∙ sym (append_assoc (concat link.gone) link.pipe.pending more)
      ∙ ap (λ (x : List ℕ). x ++ more) s.bytes;
  has = s.has;
  front = front_with link.pipe.under_way link.pipe.pending more s.front;
}

step : (size capacity : ℕ) (link : OutLink) (one : OutStep) → Sound link → Sound (out_step size capacity link one)
step size capacity link (Sends fate attitude) s =
    let p = link.pipe in turn fate attitude p.phase p.toggle link.toggle p.tries p.pending p.under_way p.asked link.taken link.gone link.written s
step size capacity link (Does Irq) s =
    let p = link.pipe in irq p.phase p.toggle link.toggle p.tries p.pending p.under_way p.asked link.taken link.gone link.written s
step size capacity link (Does Task) s =
    let p = link.pipe in task p.phase p.toggle link.toggle p.tries p.pending p.under_way p.asked link.taken link.gone link.written s
step size capacity link (Does Starts) s =
    let p = link.pipe in starts size p.phase p.toggle link.toggle p.tries p.pending p.under_way p.asked link.taken link.gone link.written s
step size capacity link (Does (Writes bytes)) s = writes link (take (capacity - length link.pipe.pending) bytes) s
step size capacity link (Does Asks) s = no_more (record link { pipe = record link.pipe { asked = true } }) (rephased link link.pipe.phase link.pipe.tries true s s.has)

run : (size capacity : ℕ) (link : OutLink) (steps : List OutStep) → Sound link → Sound (out_run size capacity link steps)
run size capacity link [] s = s
run size capacity link (one ∷ steps) s = run size capacity (out_step size capacity link one) steps (step size capacity link one s)

pub out_once : (size capacity : ℕ) (steps : List OutStep) → IsSentOnce (out_run size capacity out_start steps)
out_once size capacity steps =
    sent_once (out_run size capacity out_start steps) (run size capacity out_start steps (record { packets = refl; bytes = refl; has = (refl, refl); front = tt }))
