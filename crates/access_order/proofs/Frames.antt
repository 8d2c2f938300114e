-- One endpoint's state is another one: the rest stays.
use Rattle.std.proofs.Common.{◌≡◌, ◌≢◌, ℕ, zero, suc, true, false, refl, ap, arith}
use Rattle.std.specs.Prelude.{◌==◌, if◌then◌else◌}
use Rattle.std.proofs.lemmas.Bool.Decides.{nat_tests}
use Rattle.access_order.specs.Order.{Order, InOrder, OutOrder, in_of, out_of, with_in, with_out}

same : (n : ℕ) → (n == n) ≡ true
same n = grind (arith, nat_tests)

others : (m n : ℕ) → suc m ≢ suc n → (m == n) ≡ false
others m n h = grind (arith, nat_tests)

pub in_same : (o : Order) (x : ℕ) (e : InOrder) → in_of (with_in o x e) x ≡ e
in_same o zero e = refl
in_same o (suc n) e = ap (λ b. if b then e else o.ins n) (same n)

pub in_other : (o : Order) (x m : ℕ) (e : InOrder) → m ≢ x → in_of (with_in o x e) m ≡ in_of o m
in_other o zero zero e h = absurd (h refl)
in_other o zero (suc m) e h = refl
in_other o (suc n) zero e h = refl
in_other o (suc n) (suc m) e h = ap (λ b. if b then e else o.ins m) (others m n h)

pub in_outs : (o : Order) (x m : ℕ) (e : InOrder) → out_of (with_in o x e) m ≡ out_of o m
in_outs o zero zero e = refl
in_outs o zero (suc m) e = refl
in_outs o (suc n) zero e = refl
in_outs o (suc n) (suc m) e = refl

pub out_same : (o : Order) (x : ℕ) (e : OutOrder) → out_of (with_out o x e) x ≡ e
out_same o zero e = refl
out_same o (suc n) e = ap (λ b. if b then e else o.outs n) (same n)

pub out_other : (o : Order) (x m : ℕ) (e : OutOrder) → m ≢ x → out_of (with_out o x e) m ≡ out_of o m
out_other o zero zero e h = absurd (h refl)
out_other o zero (suc m) e h = refl
out_other o (suc n) zero e h = refl
out_other o (suc n) (suc m) e h = ap (λ b. if b then e else o.outs m) (others m n h)

pub out_ins : (o : Order) (x m : ℕ) (e : OutOrder) → in_of (with_out o x e) m ≡ in_of o m
out_ins o zero zero e = refl
out_ins o zero (suc m) e = refl
out_ins o (suc n) zero e = refl
out_ins o (suc n) (suc m) e = refl

-- what is known of a reset
pub in_reset : (o : Order) (x : ℕ) (e : InOrder) → (with_in o x e).reset ≡ o.reset
in_reset o zero e = refl
in_reset o (suc n) e = refl

pub in_woken : (o : Order) (x : ℕ) (e : InOrder) → (with_in o x e).woken ≡ o.woken
in_woken o zero e = refl
in_woken o (suc n) e = refl

pub out_reset : (o : Order) (x : ℕ) (e : OutOrder) → (with_out o x e).reset ≡ o.reset
out_reset o zero e = refl
out_reset o (suc n) e = refl

pub out_woken : (o : Order) (x : ℕ) (e : OutOrder) → (with_out o x e).woken ≡ o.woken
out_woken o zero e = refl
out_woken o (suc n) e = refl
