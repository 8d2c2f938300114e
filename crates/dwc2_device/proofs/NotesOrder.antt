-- Taking a note changes nothing of the order: the same packets are loaded.
use Rattle.std.proofs.Common.{◌≡◌, ◌≢◌, inl, inr, ℕ, zero, suc, refl, ap, sym, ◌∙◌, subst, arith}
use Rattle.std.specs.Prelude.{◌⊎◌}
use Rattle.device_table.specs.Bank.{Bank}
use Rattle.access_order.specs.Phase.{Kept, serving}
use Rattle.access_order.proofs.Phases.{either, loads_as}
use Rattle.endpoint_relation.specs.declared.in_.InState.{InState}
use Rattle.endpoint_relation.specs.declared.in_.InState.TheVariants.{Closed, Rest, Running, Posted}
use Rattle.endpoint_relation.specs.declared.in_.InEndpoint.{InEndpoint}
use Rattle.endpoint_relation.specs.declared.out_.OutEndpoint.{OutEndpoint}
use Rattle.endpoint_relation.specs.InSteps.{in_noted}
use Rattle.device_relation.specs.Software.{Software, Joint, in_kept, with_in_kept, with_out_kept}
use Rattle.device_relation.specs.Run.{run_note_out, run_note_in}
use Rattle.dwc2_device.specs.Driver.{Driver, joint}
use Rattle.dwc2_device.specs.Order.{loaded_if, is_loaded, loaded_in, loads, Goes}
use Rattle.dwc2_device.proofs.Ordered.{kept_is, still}
use Rattle.dwc2_device.proofs.InOrders.{loads_here, loads_there}

same_loaded : (state : InState) (n : ℕ) → loaded_if (in_noted state) n ≡ loaded_if state n
same_loaded Closed n = refl
same_loaded Rest n = refl
same_loaded Running zero = refl
same_loaded Running (suc n) = refl
same_loaded Posted n = refl

abbrev noted_in : Software → ℕ → InEndpoint
noted_in s n = record (in_kept s n) { state = in_noted (in_kept s n).state }

at_once : (s : Software) (n : ℕ) → loaded_in (with_in_kept s n (noted_in s n)).ins n ≡ loaded_in s.ins n
at_once s zero = refl
at_once s (suc n) =
    let same : is_loaded (noted_in s (suc n)) ≡ is_loaded (in_kept s (suc n)) = same_loaded (in_kept s (suc n)).state (in_kept s (suc n)).loaded in
    loads_here s (suc n) (noted_in s (suc n)) (omega arith) (λ h. same ∙ ap is_loaded h) ∙ same ∙ ap is_loaded (kept_is s (suc n))

noted_loads : (s : Software) (n m : ℕ) → loaded_in (with_in_kept s n (noted_in s n)).ins m ≡ loaded_in s.ins m
noted_loads s n m = by (either m n) where
  by : (m ≡ n) ⊎ (m ≢ n) → loaded_in (with_in_kept s n (noted_in s n)).ins m ≡ loaded_in s.ins m
  by (inl e) = subst (λ k. loaded_in (with_in_kept s n (noted_in s n)).ins k ≡ loaded_in s.ins k) (sym e) (at_once s n)
  by (inr apart) = loads_there s n (noted_in s n) m apart

pub in_noted_goes : (old new : Driver) (n : ℕ) → joint new ≡ run_note_in (joint old) n → new.bank ≡ old.bank → Goes (serving 0) (serving 0) old new
in_noted_goes old new n e bank start k =
    let same : new.software ≡ with_in_kept old.software n (noted_in old.software n) = ap (λ (j : Joint). j.software) e in
    loads_as 0 (loads old) (loads new) start new.bank.log (λ m _ _. ap (λ (s : Software). loaded_in s.ins m) same ∙ noted_loads old.software n m)
    (subst (λ (b : Bank). Kept start b.log (serving 0 (loads old))) (sym bank) k)

out_ins : (s : Software) (n : ℕ) (kept : OutEndpoint) → (with_out_kept s n kept).ins ≡ s.ins
out_ins s zero kept = refl
out_ins s (suc n) kept = refl

pub out_noted_goes : (old new : Driver) (n : ℕ) → joint new ≡ run_note_out (joint old) n → new.bank ≡ old.bank → Goes (serving 0) (serving 0) old new
out_noted_goes old new n e bank =
    still old new (serving 0) (ap (λ (j : Joint). j.software.ins) e ∙ out_ins old.software n _) (ap (λ (b : Bank). b.log) bank)
