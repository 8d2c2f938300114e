-- A step on one endpoint other than 0 leaves the others.
use Rattle.std.proofs.Common.{◌≡◌, ◌≢◌, ℕ, zero, suc, ◌<◌, ◌≤◌, List, [], ◌∷◌, length, Bool, true, false, refl, ap, sym, ◌∙◌, arith, subst, get_or-set_other, get_or-set_same, length-set}
use Rattle.std.specs.Prelude.{◌==◌, slice_index_or, slice_set}
use Rattle.std.proofs.lemmas.Bool.Decides.{nat_tests}
use Rattle.usb_ring.specs.Ring.{Ring}
use Rattle.dwc2_regs.specs.declared.access.TheConstants.{FS4}
use Rattle.device_table.specs.State.{Table, InEnd, OutEnd, no_out_end, in_end_of, in_end, out_end}
use Rattle.device_arrivals.specs.Arrivals.{Landed, packets_at}
use Rattle.device_rings.specs.Rings.{Rings, out_ring, in_ring, no_ring}
use Rattle.endpoint_relation.specs.declared.out_.OutEndpoint.{OutEndpoint}
use Rattle.endpoint_relation.specs.OutRelation.{OutStands, OutStandsFor, abstract_out, not_open}
use Rattle.endpoint_relation.specs.declared.in_.InEndpoint.{InEndpoint}
use Rattle.endpoint_relation.specs.InRelation.{InJoint, InStands, abstract_in, in_unused}
use Rattle.endpoint_relation.specs.InLaws.{InIs}
use Rattle.device_pipe.specs.OutPipe.{OutPipe}
use Rattle.device_pipe.specs.InPipe.{InPipe}
use Rattle.device_machine.specs.Pipes.{Pipes, OutSlot, InSlot, out_slot, in_slot, no_out_slot, no_in_slot}
use Rattle.device_relation.specs.Software.{Software, out_kept, in_kept}
use Rattle.device_relation.specs.PipeRelation.{PipesStand, OutPipePart, InPipePart, out_slot_of, in_slot_of, in_joint}

-- one endpoint, by what it consists of
pub record OutAre (t : Table) (s : Software) (r : Rings) (p : Pipes) (n : ℕ) (end : OutEnd) (kept : OutEndpoint) (lie : List Landed) (ring : Ring) (slot : OutSlot) : Type 0 where
  pub end_is : out_end t (suc n) ≡ end
  pub kept_is : out_kept s (suc n) ≡ kept
  pub lie_is : packets_at (suc n) t.rx.entries ≡ lie
  pub ring_is : out_ring r (suc n) ≡ ring
  pub slot_is : out_slot p (suc n) ≡ slot

abbrev out_at : ℕ → OutEnd → OutEndpoint → List Landed → Ring → OutSlot → Type 0
out_at n end kept lie ring slot =
    OutStands (suc n) end kept lie ring × (slot ≡ record { endpoint = kept.endpoint; pipe = abstract_out end kept lie ring.bytes })

out_of : (t : Table) (s : Software) (r : Rings) (p : Pipes) (n : ℕ) (end : OutEnd) (kept : OutEndpoint) (lie : List Landed) (ring : Ring) (slot : OutSlot)
    → OutAre t s r p n end kept lie ring slot → out_at n end kept lie ring slot → OutPipePart t s r p n
out_of t s r p n end kept lie ring slot a h =
    let all : out_at n (out_end t (suc n)) (out_kept s (suc n)) (packets_at (suc n) t.rx.entries) (out_ring r (suc n)) (out_slot p (suc n)) =
    subst (λ x. out_at n x (out_kept s (suc n)) (packets_at (suc n) t.rx.entries) (out_ring r (suc n)) (out_slot p (suc n))) (sym a.end_is)
    (subst (λ x. out_at n end x (packets_at (suc n) t.rx.entries) (out_ring r (suc n)) (out_slot p (suc n))) (sym a.kept_is)
    (subst (λ x. out_at n end kept x (out_ring r (suc n)) (out_slot p (suc n))) (sym a.lie_is)
    (subst (λ x. out_at n end kept lie x (out_slot p (suc n))) (sym a.ring_is)
    (subst (λ x. out_at n end kept lie ring x) (sym a.slot_is) h)))) in
    record { stands = all.0; slot = all.1 }

-- as it was before
pub out_stays : (t t' : Table) (s s' : Software) (r r' : Rings) (p p' : Pipes) (n : ℕ)
    → OutAre t' s' r' p' n (out_end t (suc n)) (out_kept s (suc n)) (packets_at (suc n) t.rx.entries) (out_ring r (suc n)) (out_slot p (suc n))
    → OutPipePart t s r p n → OutPipePart t' s' r' p' n
out_stays t t' s s' r r' p p' n a h =
    out_of t' s' r' p' n (out_end t (suc n)) (out_kept s (suc n)) (packets_at (suc n) t.rx.entries) (out_ring r (suc n)) (out_slot p (suc n)) a (h.stands, h.slot)

-- anew
pub out_anew : (t : Table) (s : Software) (r : Rings) (p : Pipes) (n : ℕ) (end : OutEnd) (kept : OutEndpoint) (lie : List Landed) (ring : Ring) (pipe : OutPipe)
    → OutAre t s r p n end kept lie ring (record { endpoint = kept.endpoint; pipe = pipe }) → OutStandsFor (suc n) end kept lie ring pipe → OutPipePart t s r p n
out_anew t s r p n end kept lie ring pipe a h =
    out_of t s r p n end kept lie ring (record { endpoint = kept.endpoint; pipe = pipe }) a
    (h.stands, ap (λ (x : OutPipe). record { endpoint = kept.endpoint; pipe = x }) (sym h.pipe))

pub record InAre (t : Table) (s : Software) (r : Rings) (p : Pipes) (n : ℕ) (j : InJoint) (slot : InSlot) : Type 0 where
  pub end_is : in_end t (suc n) ≡ j.end
  pub kept_is : in_kept s (suc n) ≡ j.software
  pub ring_is : (in_ring r (suc n)).bytes ≡ j.ring
  pub slot_is : in_slot p (suc n) ≡ slot

abbrev in_at : ℕ → InJoint → InSlot → Type 0
in_at n j slot = InStands (suc n) j × (slot ≡ record { endpoint = j.software.endpoint; pipe = abstract_in j })

in_of : (t : Table) (s : Software) (r : Rings) (p : Pipes) (n : ℕ) (j : InJoint) (slot : InSlot) → InAre t s r p n j slot → in_at n j slot → InPipePart t s r p n
in_of t s r p n j slot a h =
    let all : in_at n (in_joint t s r (suc n)) (in_slot p (suc n)) =
    subst (λ x. in_at n (record { end = x; software = in_kept s (suc n); ring = (in_ring r (suc n)).bytes }) (in_slot p (suc n))) (sym a.end_is)
    (subst (λ x. in_at n (record { end = j.end; software = x; ring = (in_ring r (suc n)).bytes }) (in_slot p (suc n))) (sym a.kept_is)
    (subst (λ x. in_at n (record { end = j.end; software = j.software; ring = x }) (in_slot p (suc n))) (sym a.ring_is)
    (subst (λ x. in_at n j x) (sym a.slot_is) h))) in
    record { stands = all.0; slot = all.1 }

pub in_stays : (t t' : Table) (s s' : Software) (r r' : Rings) (p p' : Pipes) (n : ℕ)
    → InAre t' s' r' p' n (in_joint t s r (suc n)) (in_slot p (suc n)) → InPipePart t s r p n → InPipePart t' s' r' p' n
in_stays t t' s s' r r' p p' n a h = in_of t' s' r' p' n (in_joint t s r (suc n)) (in_slot p (suc n)) a (h.stands, h.slot)

pub in_anew : (t : Table) (s : Software) (r : Rings) (p : Pipes) (n : ℕ) (j : InJoint) (pipe : InPipe)
    → InAre t s r p n j (record { endpoint = j.software.endpoint; pipe = pipe }) → InIs (suc n) j pipe → InPipePart t s r p n
in_anew t s r p n j pipe a h =
    in_of t s r p n j (record { endpoint = j.software.endpoint; pipe = pipe }) a
    (h.stands, ap (λ (x : InPipe). record { endpoint = j.software.endpoint; pipe = x }) (sym h.abstract))

-- One OUT endpoint changes, by its number less 1.

pub record OutChanges (t t' : Table) (s s' : Software) (r r' : Rings) (p p' : Pipes) (m : ℕ) (end : OutEnd) (kept : OutEndpoint) (lie : List Landed) (ring : Ring) (slot : OutSlot) : Type 0 where
  pub ends : t'.outs ≡ slice_set t.outs m end
  pub in_ends : t'.ins ≡ t.ins
  pub lies : packets_at (suc m) t'.rx.entries ≡ lie
  pub other_lies : (n : ℕ) → n ≢ m → packets_at (suc n) t'.rx.entries ≡ packets_at (suc n) t.rx.entries
  pub kepts : s'.outs ≡ slice_set s.outs m kept
  pub in_kepts : s'.ins ≡ s.ins
  pub rings : r'.outs ≡ slice_set r.outs m ring
  pub in_rings : r'.ins ≡ r.ins
  pub slots : p'.outs ≡ slice_set p.outs m slot
  pub in_slots : p'.ins ≡ p.ins

-- the test of numbers
pub is_same : (n m : ℕ) → (n == m) ≡ true → n ≡ m
is_same n m e = grind (arith, nat_tests)

pub not_same : (n m : ℕ) → (n == m) ≡ false → n ≢ m
not_same n m e = λ h. absurd (clash n m e h)
  where
    clash : (n m : ℕ) → (n == m) ≡ false → n ≡ m → ⊥
    clash n m e h = grind (arith, nat_tests)

pub far : (n m : ℕ) → m < 3 → 3 ≤ n → n ≢ m
far n m h k = λ e. absurd (clash n m h k e)
  where
    clash : (n m : ℕ) → m < 3 → 3 ≤ n → n ≡ m → ⊥
    clash n m h k e = omega (arith, h, k, e)

pub below_fifteen : (m : ℕ) → m < 3 → m < 15
below_fifteen m h = omega arith

same_ins : (t t' : Table) (s s' : Software) (r r' : Rings) (p p' : Pipes) → t'.ins ≡ t.ins → s'.ins ≡ s.ins → r'.ins ≡ r.ins → p'.ins ≡ p.ins → (n : ℕ) → InPipePart t s r p n → InPipePart t' s' r' p' n
same_ins t t' s s' r r' p p' a b c d n h =
    in_stays t t' s s' r r' p p' n (record {
      end_is = ap (λ xs. slice_index_or xs n (in_end_of 0)) a;
      kept_is = ap (λ xs. slice_index_or xs n in_unused) b;
      ring_is = ap (λ xs. (slice_index_or xs n no_ring).bytes) c;
      slot_is = ap (λ xs. slice_index_or xs n no_in_slot) d;
    }) h

same_outs : (t t' : Table) (s s' : Software) (r r' : Rings) (p p' : Pipes) → t'.outs ≡ t.outs → s'.outs ≡ s.outs → r'.outs ≡ r.outs → p'.outs ≡ p.outs
    → ((n : ℕ) → packets_at (suc n) t'.rx.entries ≡ packets_at (suc n) t.rx.entries) → (n : ℕ) → OutPipePart t s r p n → OutPipePart t' s' r' p' n
same_outs t t' s s' r r' p p' a b c d e n h =
    out_stays t t' s s' r r' p p' n (record {
      end_is = ap (λ xs. slice_index_or xs n no_out_end) a;
      kept_is = ap (λ xs. slice_index_or xs n (not_open false)) b;
      lie_is = e n;
      ring_is = ap (λ xs. slice_index_or xs n no_ring) c;
      slot_is = ap (λ xs. slice_index_or xs n no_out_slot) d;
    }) h

pub out_changes : (t t' : Table) (s s' : Software) (r r' : Rings) (p p' : Pipes) (m : ℕ) (end : OutEnd) (kept : OutEndpoint) (lie : List Landed) (ring : Ring) (pipe : OutPipe)
    → m < 3 → length t.outs ≡ 3 → OutChanges t t' s s' r r' p p' m end kept lie ring (record { endpoint = kept.endpoint; pipe = pipe })
    → OutStandsFor (suc m) end kept lie ring pipe → PipesStand FS4 t s r p → PipesStand FS4 t' s' r' p'
out_changes t t' s s' r r' p p' m end kept lie ring pipe few count c new ps = record {
  outs = λ n h. at n h (n == m) refl;
  ins = λ n h. same_ins t t' s s' r r' p p' c.in_ends c.in_kepts c.in_rings c.in_slots n (ps.ins n h);
  out_beyond = λ n h. ap (λ xs. slice_index_or xs n no_out_slot) c.slots ∙ get_or-set_other p.outs m n slot no_out_slot (far n m few h) ∙ ps.out_beyond n h;
  in_beyond = λ n h. ap (λ xs. slice_index_or xs n no_in_slot) c.in_slots ∙ ps.in_beyond n h;
  out_count = ap length c.slots ∙ length-set p.outs m slot ∙ ps.out_count;
  in_count = ap length c.in_slots ∙ ps.in_count;
  out_kepts = ap length c.kepts ∙ length-set s.outs m kept ∙ ps.out_kepts;
  in_kepts = ap length c.in_kepts ∙ ps.in_kepts;
  out_rings = ap length c.rings ∙ length-set r.outs m ring ∙ ps.out_rings;
  in_rings = ap length c.in_rings ∙ ps.in_rings;
}
  where
    slot : OutSlot
    slot = record { endpoint = kept.endpoint; pipe = pipe }

    within : {A : Type 0} (xs : List A) → length xs ≡ 3 → m < length xs
    within xs e = subst (λ k. m < k) (sym e) few

    within_all : {A : Type 0} (xs : List A) → length xs ≡ 15 → m < length xs
    within_all xs e = subst (λ k. m < k) (sym e) (below_fifteen m few)

    at : (n : ℕ) → n < 3 → (b : Bool) → (n == m) ≡ b → OutPipePart t' s' r' p' n
    at n h true e =
        subst (λ k. OutPipePart t' s' r' p' k) (sym (is_same n m e))
        (out_anew t' s' r' p' m end kept lie ring pipe (record {
          end_is = ap (λ xs. slice_index_or xs m no_out_end) c.ends ∙ get_or-set_same t.outs m end no_out_end (within t.outs count);
          kept_is = ap (λ xs. slice_index_or xs m (not_open false)) c.kepts ∙ get_or-set_same s.outs m kept (not_open false) (within s.outs ps.out_kepts);
          lie_is = c.lies;
          ring_is = ap (λ xs. slice_index_or xs m no_ring) c.rings ∙ get_or-set_same r.outs m ring no_ring (within r.outs ps.out_rings);
          slot_is = ap (λ xs. slice_index_or xs m no_out_slot) c.slots ∙ get_or-set_same p.outs m slot no_out_slot (within_all p.outs ps.out_count);
        }) new)
    at n h false e =
        let ne = not_same n m e in
        out_stays t t' s s' r r' p p' n (record {
          end_is = ap (λ xs. slice_index_or xs n no_out_end) c.ends ∙ get_or-set_other t.outs m n end no_out_end ne;
          kept_is = ap (λ xs. slice_index_or xs n (not_open false)) c.kepts ∙ get_or-set_other s.outs m n kept (not_open false) ne;
          lie_is = c.other_lies n ne;
          ring_is = ap (λ xs. slice_index_or xs n no_ring) c.rings ∙ get_or-set_other r.outs m n ring no_ring ne;
          slot_is = ap (λ xs. slice_index_or xs n no_out_slot) c.slots ∙ get_or-set_other p.outs m n slot no_out_slot ne;
        }) (ps.outs n h)

-- One IN endpoint changes.

pub record InChanges (t t' : Table) (s s' : Software) (r r' : Rings) (p p' : Pipes) (m : ℕ) (j : InJoint) (ring : Ring) (slot : InSlot) : Type 0 where
  pub ends : t'.ins ≡ slice_set t.ins m j.end
  pub out_ends : t'.outs ≡ t.outs
  pub lies : (n : ℕ) → packets_at (suc n) t'.rx.entries ≡ packets_at (suc n) t.rx.entries
  pub kepts : s'.ins ≡ slice_set s.ins m j.software
  pub out_kepts : s'.outs ≡ s.outs
  pub ring_is : ring.bytes ≡ j.ring
  pub rings : r'.ins ≡ slice_set r.ins m ring
  pub out_rings : r'.outs ≡ r.outs
  pub slots : p'.ins ≡ slice_set p.ins m slot
  pub out_slots : p'.outs ≡ p.outs

pub in_changes : (t t' : Table) (s s' : Software) (r r' : Rings) (p p' : Pipes) (m : ℕ) (j : InJoint) (ring : Ring) (pipe : InPipe)
    → m < 3 → length t.ins ≡ 3 → InChanges t t' s s' r r' p p' m j ring (record { endpoint = j.software.endpoint; pipe = pipe })
    → InIs (suc m) j pipe → PipesStand FS4 t s r p → PipesStand FS4 t' s' r' p'
in_changes t t' s s' r r' p p' m j ring pipe few count c new ps = record {
  outs = λ n h. same_outs t t' s s' r r' p p' c.out_ends c.out_kepts c.out_rings c.out_slots c.lies n (ps.outs n h);
  ins = λ n h. at n h (n == m) refl;
  out_beyond = λ n h. ap (λ xs. slice_index_or xs n no_out_slot) c.out_slots ∙ ps.out_beyond n h;
  in_beyond = λ n h. ap (λ xs. slice_index_or xs n no_in_slot) c.slots ∙ get_or-set_other p.ins m n slot no_in_slot (far n m few h) ∙ ps.in_beyond n h;
  out_count = ap length c.out_slots ∙ ps.out_count;
  in_count = ap length c.slots ∙ length-set p.ins m slot ∙ ps.in_count;
  out_kepts = ap length c.out_kepts ∙ ps.out_kepts;
  in_kepts = ap length c.kepts ∙ length-set s.ins m j.software ∙ ps.in_kepts;
  out_rings = ap length c.out_rings ∙ ps.out_rings;
  in_rings = ap length c.rings ∙ length-set r.ins m ring ∙ ps.in_rings;
}
  where
    slot : InSlot
    slot = record { endpoint = j.software.endpoint; pipe = pipe }

    within : {A : Type 0} (xs : List A) → length xs ≡ 3 → m < length xs
    within xs e = subst (λ k. m < k) (sym e) few

    within_all : {A : Type 0} (xs : List A) → length xs ≡ 15 → m < length xs
    within_all xs e = subst (λ k. m < k) (sym e) (below_fifteen m few)

    at : (n : ℕ) → n < 3 → (b : Bool) → (n == m) ≡ b → InPipePart t' s' r' p' n
    at n h true e =
        subst (λ k. InPipePart t' s' r' p' k) (sym (is_same n m e))
        (in_anew t' s' r' p' m j pipe (record {
          end_is = ap (λ xs. slice_index_or xs m (in_end_of 0)) c.ends ∙ get_or-set_same t.ins m j.end (in_end_of 0) (within t.ins count);
          kept_is = ap (λ xs. slice_index_or xs m in_unused) c.kepts ∙ get_or-set_same s.ins m j.software in_unused (within s.ins ps.in_kepts);
          ring_is = ap (λ xs. (slice_index_or xs m no_ring).bytes) c.rings ∙ ap (λ (x : Ring). x.bytes) (get_or-set_same r.ins m ring no_ring (within r.ins ps.in_rings)) ∙ c.ring_is;
          slot_is = ap (λ xs. slice_index_or xs m no_in_slot) c.slots ∙ get_or-set_same p.ins m slot no_in_slot (within_all p.ins ps.in_count);
        }) new)
    at n h false e =
        let ne = not_same n m e in
        in_stays t t' s s' r r' p p' n (record {
          end_is = ap (λ xs. slice_index_or xs n (in_end_of 0)) c.ends ∙ get_or-set_other t.ins m n j.end (in_end_of 0) ne;
          kept_is = ap (λ xs. slice_index_or xs n in_unused) c.kepts ∙ get_or-set_other s.ins m n j.software in_unused ne;
          ring_is = ap (λ xs. (slice_index_or xs n no_ring).bytes) c.rings ∙ ap (λ (x : Ring). x.bytes) (get_or-set_other r.ins m n ring no_ring ne);
          slot_is = ap (λ xs. slice_index_or xs n no_in_slot) c.slots ∙ get_or-set_other p.ins m n slot no_in_slot ne;
        }) (ps.ins n h)
