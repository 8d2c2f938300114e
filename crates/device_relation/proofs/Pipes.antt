-- The endpoints other than 0, where nothing of them changes.
use Rattle.std.proofs.Common.{◌≡◌, ◌<◌, ℕ, suc, List, length, false, refl, ap, sym, ◌∙◌, subst}
use Rattle.std.specs.Prelude.{slice_index_or}
use Rattle.dwc2_regs.specs.declared.access.TheConstants.{FS4}
use Rattle.device_table.specs.State.{Table, InEnd, OutEnd, no_out_end, in_end_of}
use Rattle.device_arrivals.specs.Arrivals.{Landed, packets_at}
use Rattle.device_rings.specs.Rings.{Rings, out_ring, in_ring}
use Rattle.endpoint_relation.specs.declared.out_.OutEndpoint.{OutEndpoint}
use Rattle.endpoint_relation.specs.OutRelation.{OutStands, abstract_out, not_open}
use Rattle.endpoint_relation.specs.declared.in_.InEndpoint.{InEndpoint}
use Rattle.endpoint_relation.specs.InRelation.{InJoint, InStands, abstract_in, in_unused}
use Rattle.device_machine.specs.Pipes.{Pipes, OutSlot, InSlot, out_slot, in_slot}
use Rattle.device_relation.specs.Software.{Software}
use Rattle.device_relation.specs.PipeRelation.{PipesStand, OutPipePart, InPipePart}

pub record SamePipes (old new : Table) (before after : Software) : Type 0 where
  pub outs : new.outs ≡ old.outs
  pub ins : new.ins ≡ old.ins
  pub out_kepts : after.outs ≡ before.outs
  pub in_kepts : after.ins ≡ before.ins
  pub lie : (n : ℕ) → packets_at (suc n) new.rx.entries ≡ packets_at (suc n) old.rx.entries

-- what ties one endpoint, by what it speaks of
abbrev out_tied : Rings → Pipes → ℕ → List OutEnd → List OutEndpoint → List Landed → Type 0
out_tied r p n outs kepts lies =
    OutStands (suc n) (slice_index_or outs n no_out_end) (slice_index_or kepts n (not_open false)) lies (out_ring r (suc n))
    × (out_slot p (suc n) ≡ record {
      endpoint = (slice_index_or kepts n (not_open false)).endpoint;
      pipe = abstract_out (slice_index_or outs n no_out_end) (slice_index_or kepts n (not_open false)) lies (out_ring r (suc n)).bytes;
    })

abbrev joint_at : Rings → ℕ → List InEnd → List InEndpoint → InJoint
joint_at r n ins kepts = record { end = slice_index_or ins n (in_end_of 0); software = slice_index_or kepts n in_unused; ring = (in_ring r (suc n)).bytes }

abbrev in_tied : Rings → Pipes → ℕ → List InEnd → List InEndpoint → Type 0
in_tied r p n ins kepts =
    InStands (suc n) (joint_at r n ins kepts)
    × (in_slot p (suc n) ≡ record { endpoint = (slice_index_or kepts n in_unused).endpoint; pipe = abstract_in (joint_at r n ins kepts) })

pub same_pipes : (t t' : Table) (s s' : Software) (r : Rings) (p : Pipes) → SamePipes t t' s s' → PipesStand FS4 t s r p → PipesStand FS4 t' s' r p
same_pipes t t' s s' r p h ps = record {
  outs = λ n few. out_same n few;
  ins = λ n few. in_same n few;
  out_beyond = ps.out_beyond;
  in_beyond = ps.in_beyond;
  out_count = ps.out_count;
  in_count = ps.in_count;
  out_kepts = ap (λ (xs : List OutEndpoint). length xs) h.out_kepts ∙ ps.out_kepts;
  in_kepts = ap (λ (xs : List InEndpoint). length xs) h.in_kepts ∙ ps.in_kepts;
  out_rings = ps.out_rings;
  in_rings = ps.in_rings;
}
  where
    out_same : (n : ℕ) → n < FS4.out_eps → OutPipePart t' s' r p n
    out_same n few =
        let old : out_tied r p n t.outs s.outs (packets_at (suc n) t.rx.entries) = ((ps.outs n few).stands, (ps.outs n few).slot) in
        let new : out_tied r p n t'.outs s'.outs (packets_at (suc n) t'.rx.entries) =
        subst (λ x. out_tied r p n x s'.outs (packets_at (suc n) t'.rx.entries)) (sym h.outs)
        (subst (λ x. out_tied r p n t.outs x (packets_at (suc n) t'.rx.entries)) (sym h.out_kepts)
        (subst (λ x. out_tied r p n t.outs s.outs x) (sym (h.lie n)) old)) in
        record { stands = new.0; slot = new.1 }

    in_same : (n : ℕ) → n < FS4.in_eps → InPipePart t' s' r p n
    in_same n few =
        let old : in_tied r p n t.ins s.ins = ((ps.ins n few).stands, (ps.ins n few).slot) in
        let new : in_tied r p n t'.ins s'.ins = subst (λ x. in_tied r p n x s'.ins) (sym h.ins) (subst (λ x. in_tied r p n t.ins x) (sym h.in_kepts) old) in
        record { stands = new.0; slot = new.1 }
