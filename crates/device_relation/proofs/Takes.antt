-- A handler run takes what lies in the receive FIFO, one after another: each is endpoint 0's, or moves the pipe of its endpoint.
use Rattle.std.proofs.Common.{◌≡◌, ◌≢◌, ℕ, zero, suc, ◌+◌, ◌<◌, ◌≤◌, List, [], ◌∷◌, ◌++◌, length, Bool, true, false, Some, None, refl, ap, sym, ◌∙◌, arith, subst, get_or-set_same, All}
use Rattle.std.proofs.lemmas.List.{set-get_or}
use Rattle.std.specs.Prelude.{◌==◌, slice_index, slice_index_or, slice_set, if◌then◌else◌}
use Rattle.std.proofs.lemmas.Bool.Decides.{nat_tests}
use Rattle.std.proofs.lemmas.List.Elements.{All-head, All-tail}
use Rattle.usb_packet.specs.declared.bus.Toggle.{Toggle}
use Rattle.usb_ring.specs.Ring.{Ring, appended}
use Rattle.dwc2_regs.specs.declared.access.TheConstants.{FS4}
use Rattle.dwc2_regs.specs.Register.{doepint}
use Rattle.dwc2_fifo.specs.Rx.{Rx}
use Rattle.device_table.specs.State.{Table, OutEnd, out_end, with_out, no_out_end, rx_depth}
use Rattle.device_table.specs.Write.{after_write}
use Rattle.device_arrivals.specs.Arrivals.{Arrival, Request, Packet, Landed, entries_of, landed_on, packets_at, arrivals_for, AreFew, IsArrival}
use Rattle.device_arrivals.proofs.Tells.{tells}
use Rattle.device_arrivals.proofs.Few.{few_behind}
use Rattle.device_rings.specs.Rings.{Rings, out_ring, with_out_ring, no_ring}
use Rattle.endpoint_relation.specs.declared.out_.OutEndpoint.{OutEndpoint}
use Rattle.endpoint_relation.specs.OutRelation.{OutStands, OutStandsFor, abstract_out, not_open}
use Rattle.endpoint_relation.specs.OutSteps.{moved, moved_end, moved_ring}
use Rattle.endpoint_relation.specs.OutLaws.{OutMoveKeeps}
use Rattle.device_pipe.specs.OutPipe as pipe
use Rattle.device_machine.specs.Pipes.{Pipes, OutSlot, out_slot, with_out_slot, out_slot_after_irq}
use Rattle.device_relation.specs.Software.{Software, Joint, out_kept, with_out_kept}
use Rattle.device_relation.specs.Relation.{IsPacket}
use Rattle.device_relation.specs.PipeRelation.{PipesStand, OutPipePart}
use Rattle.device_relation.proofs.Entries.{top_is}
use Rattle.device_relation.proofs.Pops.{rx_as, ended, taken_ring}
use Rattle.device_relation.proofs.Lifts.{OutChanges, out_changes}

-- what lies there of one endpoint
pub lies_are : (t : Table) (left : List ℕ) (arrivals : List Arrival) (n : ℕ) → All (IsArrival FS4.out_eps) arrivals → packets_at n (rx_as t left (entries_of arrivals)).rx.entries ≡ landed_on n arrivals
lies_are t left arrivals n all = (tells FS4.out_eps arrivals top_is all).packets n

same_number : (n : ℕ) → (n == n) ≡ true
same_number n = grind (arith, nat_tests)

other_number : (n m : ℕ) → n ≢ m → (suc n == suc m) ≡ false
other_number n m h = by_test (suc n == suc m) refl
  where
    same : (n m : ℕ) → (suc n == suc m) ≡ true → n ≡ m
    same n m e = grind (arith, nat_tests)

    by_test : (b : Bool) → (suc n == suc m) ≡ b → (suc n == suc m) ≡ false
    by_test true e = absurd (h (same n m e))
    by_test false e = e

-- its own packet is in front of the others, and another endpoint's is none of them
pub own_first : (m : ℕ) (toggle : Toggle) (bytes : List ℕ) (arrivals : List Arrival) → landed_on (suc m) (Packet (suc m) toggle bytes ∷ arrivals) ≡ record { toggle = toggle; bytes = bytes } ∷ landed_on (suc m) arrivals
own_first m toggle bytes arrivals = ap (λ b. if b then record { toggle = toggle; bytes = bytes } ∷ landed_on (suc m) arrivals else landed_on (suc m) arrivals) (same_number (suc m))

pub other_passes : (n m : ℕ) (toggle : Toggle) (bytes : List ℕ) (arrivals : List Arrival) → n ≢ m → landed_on (suc n) (Packet (suc m) toggle bytes ∷ arrivals) ≡ landed_on (suc n) arrivals
other_passes n m toggle bytes arrivals h = ap (λ b. if b then record { toggle = toggle; bytes = bytes } ∷ landed_on (suc n) arrivals else landed_on (suc n) arrivals) (other_number n m h)

-- the registers: XFRC is set and cleared
ended_outs : (t : Table) (m : ℕ) (arrivals : List Arrival) → m < length t.outs → (ended t (suc m) arrivals).outs ≡ slice_set t.outs m (moved_end (out_end t (suc m)))
ended_outs t m arrivals h =
    let first : OutEnd = record (out_end t (suc m)) { xfrc = true } in
    let written : OutEnd → OutEnd = λ end. (after_write (record t { out0 = end }) (doepint 0) 1).out0 in
    ap (λ end. slice_set (slice_set t.outs m first) m (written end)) (get_or-set_same t.outs m first no_out_end h)
    ∙ set_twice t.outs m first (written first)
  where
    set_twice : {A : Type 0} (xs : List A) (m : ℕ) (x y : A) → slice_set (slice_set xs m x) m y ≡ slice_set xs m y
    set_twice [] m x y = refl
    set_twice (z ∷ zs) zero x y = refl
    set_twice (z ∷ zs) (suc m) x y = ap (λ ys. z ∷ ys) (set_twice zs m x y)

taken_outs : (over : Bool) (r : Rings) (m : ℕ) (bytes : List ℕ) → (taken_ring over r (suc m) bytes).outs ≡ slice_set r.outs m (moved_ring over (out_ring r (suc m)) bytes)
taken_outs true r m bytes = sym (set-get_or r.outs m no_ring)
taken_outs false r m bytes = refl

taken_ins : (over : Bool) (r : Rings) (m : ℕ) (bytes : List ℕ) → (taken_ring over r (suc m) bytes).ins ≡ r.ins
taken_ins true r m bytes = refl
taken_ins false r m bytes = refl

-- the packet of an endpoint other than 0
pub pipe_moves : OutMoveKeeps → (t : Table) (s : Software) (r : Rings) (p : Pipes) (m : ℕ) (toggle : Toggle) (bytes : List ℕ) (arrivals : List Arrival) → m < 3 → length t.outs ≡ 3
    → All (IsArrival FS4.out_eps) (Packet (suc m) toggle bytes ∷ arrivals) → PipesStand FS4 (rx_as t [] (entries_of (Packet (suc m) toggle bytes ∷ arrivals))) s r p
    → PipesStand FS4 (ended t (suc m) arrivals) (with_out_kept s (suc m) (moved (out_kept s (suc m)))) (taken_ring (out_kept s (suc m)).over r (suc m) bytes)
    (with_out_slot p (suc m) (out_slot_after_irq (out_slot p (suc m))))
pipe_moves law t s r p m toggle bytes arrivals few count all ps =
    let now : Table = rx_as t [] (entries_of (Packet (suc m) toggle bytes ∷ arrivals)) in
    let kept : OutEndpoint = out_kept s (suc m) in
    let it : Landed = record { toggle = toggle; bytes = bytes } in
    let rest = All-tail (IsArrival FS4.out_eps) (Packet (suc m) toggle bytes) arrivals all in
    let lie : packets_at (suc m) now.rx.entries ≡ it ∷ landed_on (suc m) arrivals = lies_are t [] (Packet (suc m) toggle bytes ∷ arrivals) (suc m) all ∙ own_first m toggle bytes arrivals in
    let part : OutPipePart now s r p m = ps.outs m few in
    let stands : OutStands (suc m) (out_end now (suc m)) kept (it ∷ landed_on (suc m) arrivals) (out_ring r (suc m)) =
    subst (λ xs. OutStands (suc m) (out_end now (suc m)) kept xs (out_ring r (suc m))) lie part.stands in
    let is : pipe.OutPipe = pipe.after_irq (abstract_out (out_end now (suc m)) kept (it ∷ landed_on (suc m) arrivals) (out_ring r (suc m)).bytes) in
    let new : OutStandsFor (suc m) (moved_end (out_end t (suc m))) (moved kept) (landed_on (suc m) arrivals) (moved_ring kept.over (out_ring r (suc m)) bytes) is =
    law (suc m) (out_end now (suc m)) kept it (landed_on (suc m) arrivals) (out_ring r (suc m)) stands in
    out_changes now (ended t (suc m) arrivals) s (with_out_kept s (suc m) (moved kept)) r (taken_ring kept.over r (suc m) bytes) p (with_out_slot p (suc m) (out_slot_after_irq (out_slot p (suc m))))
    m (moved_end (out_end t (suc m))) (moved kept) (landed_on (suc m) arrivals) (moved_ring kept.over (out_ring r (suc m)) bytes) is few count
    (record {
      ends = ended_outs t m arrivals (subst (λ k. m < k) (sym count) few);
      in_ends = refl;
      lies = lies_are t [] arrivals (suc m) rest;
      other_lies = λ n h. lies_are t [] arrivals (suc n) rest ∙ sym (lies_are t [] (Packet (suc m) toggle bytes ∷ arrivals) (suc n) all ∙ other_passes n m toggle bytes arrivals h);
      kepts = refl;
      in_kepts = refl;
      rings = taken_outs kept.over r m bytes;
      in_rings = taken_ins kept.over r m bytes;
      slots = ap (λ x. slice_set p.outs m x) (ap out_slot_after_irq (part.slot ∙ ap (λ xs. record { endpoint = kept.endpoint; pipe = abstract_out (out_end now (suc m)) kept xs (out_ring r (suc m)).bytes }) lie));
      in_slots = refl;
    }) new ps
