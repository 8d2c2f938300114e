-- The offset of each numbered register names it, as computing tells for each of the twelve numbers.
use Rattle.std.proofs.Common.{◌≡◌, ℕ, zero, suc, ◌≤◌, refl, Some, arith}
use Rattle.dwc2_regs.specs.Register.{Register, offset_of, register_at, dieptxf, hcchar, hcint, hcintmsk, hctsiz, diepctl, diepint, dieptsiz, dtxfsts, doepctl, doepint, doeptsiz, fifo}

-- what holds of each number up to 11
up_to_11 : (P : ℕ → Type 0) → P 0 → P 1 → P 2 → P 3 → P 4 → P 5 → P 6 → P 7 → P 8 → P 9 → P 10 → P 11
    → (x : ℕ) → x ≤ 11 → P x
up_to_11 P p0 p1 p2 p3 p4 p5 p6 p7 p8 p9 p10 p11 zero h = p0
up_to_11 P p0 p1 p2 p3 p4 p5 p6 p7 p8 p9 p10 p11 (suc zero) h = p1
up_to_11 P p0 p1 p2 p3 p4 p5 p6 p7 p8 p9 p10 p11 (suc (suc zero)) h = p2
up_to_11 P p0 p1 p2 p3 p4 p5 p6 p7 p8 p9 p10 p11 (suc (suc (suc zero))) h = p3
up_to_11 P p0 p1 p2 p3 p4 p5 p6 p7 p8 p9 p10 p11 (suc (suc (suc (suc zero)))) h = p4
up_to_11 P p0 p1 p2 p3 p4 p5 p6 p7 p8 p9 p10 p11 (suc (suc (suc (suc (suc zero))))) h = p5
up_to_11 P p0 p1 p2 p3 p4 p5 p6 p7 p8 p9 p10 p11 (suc (suc (suc (suc (suc (suc zero)))))) h = p6
up_to_11 P p0 p1 p2 p3 p4 p5 p6 p7 p8 p9 p10 p11 (suc (suc (suc (suc (suc (suc (suc zero))))))) h = p7
up_to_11 P p0 p1 p2 p3 p4 p5 p6 p7 p8 p9 p10 p11 (suc (suc (suc (suc (suc (suc (suc (suc zero)))))))) h = p8
up_to_11 P p0 p1 p2 p3 p4 p5 p6 p7 p8 p9 p10 p11 (suc (suc (suc (suc (suc (suc (suc (suc (suc zero))))))))) h = p9
up_to_11 P p0 p1 p2 p3 p4 p5 p6 p7 p8 p9 p10 p11 (suc (suc (suc (suc (suc (suc (suc (suc (suc (suc zero)))))))))) h = p10
up_to_11 P p0 p1 p2 p3 p4 p5 p6 p7 p8 p9 p10 p11 (suc (suc (suc (suc (suc (suc (suc (suc (suc (suc (suc zero))))))))))) h = p11
up_to_11 P p0 p1 p2 p3 p4 p5 p6 p7 p8 p9 p10 p11 (suc (suc (suc (suc (suc (suc (suc (suc (suc (suc (suc (suc x)))))))))))) h = absurd (omega arith)

-- the register is the one at its offset
abbrev IsNamed : Register → Type 0
IsNamed r = register_at (offset_of r) ≡ Some r

pub dieptxf_named : (x : ℕ) → 1 ≤ x → x ≤ 11 → register_at (offset_of (dieptxf x)) ≡ Some (dieptxf x)
dieptxf_named x from to =
    up_to_11 (λ x. 1 ≤ x → IsNamed (dieptxf x)) (λ h. absurd (omega arith)) (λ h. refl) (λ h. refl) (λ h. refl) (λ h. refl) (λ h. refl) (λ h. refl) (λ h. refl) (λ h. refl) (λ h. refl) (λ h. refl) (λ h. refl) x to from

pub hcchar_named : (x : ℕ) → x ≤ 11 → register_at (offset_of (hcchar x)) ≡ Some (hcchar x)
hcchar_named = up_to_11 (λ x. IsNamed (hcchar x)) refl refl refl refl refl refl refl refl refl refl refl refl

pub hcint_named : (x : ℕ) → x ≤ 11 → register_at (offset_of (hcint x)) ≡ Some (hcint x)
hcint_named = up_to_11 (λ x. IsNamed (hcint x)) refl refl refl refl refl refl refl refl refl refl refl refl

pub hcintmsk_named : (x : ℕ) → x ≤ 11 → register_at (offset_of (hcintmsk x)) ≡ Some (hcintmsk x)
hcintmsk_named = up_to_11 (λ x. IsNamed (hcintmsk x)) refl refl refl refl refl refl refl refl refl refl refl refl

pub hctsiz_named : (x : ℕ) → x ≤ 11 → register_at (offset_of (hctsiz x)) ≡ Some (hctsiz x)
hctsiz_named = up_to_11 (λ x. IsNamed (hctsiz x)) refl refl refl refl refl refl refl refl refl refl refl refl

pub diepctl_named : (x : ℕ) → x ≤ 11 → register_at (offset_of (diepctl x)) ≡ Some (diepctl x)
diepctl_named = up_to_11 (λ x. IsNamed (diepctl x)) refl refl refl refl refl refl refl refl refl refl refl refl

pub diepint_named : (x : ℕ) → x ≤ 11 → register_at (offset_of (diepint x)) ≡ Some (diepint x)
diepint_named = up_to_11 (λ x. IsNamed (diepint x)) refl refl refl refl refl refl refl refl refl refl refl refl

pub dieptsiz_named : (x : ℕ) → x ≤ 11 → register_at (offset_of (dieptsiz x)) ≡ Some (dieptsiz x)
dieptsiz_named = up_to_11 (λ x. IsNamed (dieptsiz x)) refl refl refl refl refl refl refl refl refl refl refl refl

pub dtxfsts_named : (x : ℕ) → x ≤ 11 → register_at (offset_of (dtxfsts x)) ≡ Some (dtxfsts x)
dtxfsts_named = up_to_11 (λ x. IsNamed (dtxfsts x)) refl refl refl refl refl refl refl refl refl refl refl refl

pub doepctl_named : (x : ℕ) → x ≤ 11 → register_at (offset_of (doepctl x)) ≡ Some (doepctl x)
doepctl_named = up_to_11 (λ x. IsNamed (doepctl x)) refl refl refl refl refl refl refl refl refl refl refl refl

pub doepint_named : (x : ℕ) → x ≤ 11 → register_at (offset_of (doepint x)) ≡ Some (doepint x)
doepint_named = up_to_11 (λ x. IsNamed (doepint x)) refl refl refl refl refl refl refl refl refl refl refl refl

pub doeptsiz_named : (x : ℕ) → x ≤ 11 → register_at (offset_of (doeptsiz x)) ≡ Some (doeptsiz x)
doeptsiz_named = up_to_11 (λ x. IsNamed (doeptsiz x)) refl refl refl refl refl refl refl refl refl refl refl refl

pub fifo_named : (x : ℕ) → x ≤ 11 → register_at (offset_of (fifo x)) ≡ Some (fifo x)
fifo_named = up_to_11 (λ x. IsNamed (fifo x)) refl refl refl refl refl refl refl refl refl refl refl refl
