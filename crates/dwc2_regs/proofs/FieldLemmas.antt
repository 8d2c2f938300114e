-- What reading a field tells of a word that was written.
use Rattle.std.proofs.Common.{◌≡◌, ℕ, ◌+◌, ◌*◌, ◌/◌, ◌%◌, ◌-◌, ◌^◌, ◌<◌, ◌≤◌, inl, inr, sym, ◌∙◌, ap, subst, pow-add, pow_pos, mul_assoc, mul_comm, add_assoc, add-mul, one-mul, mul-le-mul_right, div-add-mod', mod-lt, arith}
use Rattle.std.proofs.Math.Nat.{mul-add-div_right, mul-add-mod_self_right, div-div-eq-div-mul}
use Rattle.std.proofs.lemmas.Nat.{div-mul-add, mod-mul-add, div_below}
use Rattle.dwc2_regs.specs.declared.bits.Field.{Field}
use Rattle.dwc2_regs.specs.Field.{field_of, with_field, IsApart}

-- a number of two digits
below : (v r l w : ℕ) → v < w → r < l → v * l + r < l * w
below v r l w hv hr =
    let up : (v + 1) * l ≤ w * l = mul-le-mul_right l (omega arith) in
    omega (arith, up, add-mul v 1 l, one-mul l, mul_comm w l)

-- the parts above, in and below the bits from l on, where w is 2 ^ the width
parts : (h v r l w : ℕ) → h * (l * w) + v * l + r ≡ (h * w + v) * l + r
parts h v r l w =
    ap (λ (x : ℕ). x + r)
    (ap (λ (x : ℕ). x + v * l) (ap (λ (x : ℕ). h * x) (mul_comm l w) ∙ sym (mul_assoc h w l)) ∙ sym (add-mul (h * w) v l))

with_field-parts : (word : ℕ) (field : Field) (v : ℕ)
    → with_field word field v
    ≡ (word / 2 ^ (field.low + field.width) * 2 ^ field.width + v) * 2 ^ field.low + word % 2 ^ field.low
with_field-parts word field v =
    let h = word / 2 ^ (field.low + field.width) in
    let l = 2 ^ field.low in
    let w = 2 ^ field.width in
    ap (λ (x : ℕ). h * x + v * l + word % l) (pow-add 2 field.low field.width) ∙ parts h v (word % l) l w

pub field_of-with_field : (word : ℕ) (field : Field) (v : ℕ) → v < 2 ^ field.width
    → field_of (with_field word field v) field ≡ v
field_of-with_field word field v fits =
    let h = word / 2 ^ (field.low + field.width) in
    let l = 2 ^ field.low in
    let w = 2 ^ field.width in
    ap (λ (x : ℕ). x / l % w) (with_field-parts word field v)
    ∙ ap (λ (x : ℕ). x % w) (div-mul-add (h * w + v) l (word % l) (mod-lt word (pow_pos field.low)))
    ∙ mod-mul-add h w v fits

-- the bits above and below a field are those of the word
above-with_field : (word : ℕ) (field : Field) (v : ℕ) → v < 2 ^ field.width
    → with_field word field v / 2 ^ (field.low + field.width) ≡ word / 2 ^ (field.low + field.width)
above-with_field word field v fits =
    let h = word / 2 ^ (field.low + field.width) in
    let l = 2 ^ field.low in
    let w = 2 ^ field.width in
    let c = 2 ^ (field.low + field.width) in
    let low : v * l + word % l < c =
    subst (λ (x : ℕ). v * l + word % l < x) (sym (pow-add 2 field.low field.width))
    (below v (word % l) l w fits (mod-lt word (pow_pos field.low))) in
    ap (λ (x : ℕ). x / c) (add_assoc (h * c) (v * l) (word % l)) ∙ div-mul-add h c (v * l + word % l) low

below-with_field : (word : ℕ) (field : Field) (v : ℕ) → with_field word field v % 2 ^ field.low ≡ word % 2 ^ field.low
below-with_field word field v =
    let h = word / 2 ^ (field.low + field.width) in
    let l = 2 ^ field.low in
    let w = 2 ^ field.width in
    ap (λ (x : ℕ). x % l) (with_field-parts word field v)
    ∙ mod-mul-add (h * w + v) l (word % l) (mod-lt word (pow_pos field.low))

-- a word after a write is still a word
pub with_field-fits : (word : ℕ) (field : Field) (v : ℕ) → word < 2 ^ 32 → field.low + field.width ≤ 32
    → v < 2 ^ field.width → with_field word field v < 2 ^ 32
with_field-fits word field v hw within fits =
    let k = field.low + field.width in
    let l = 2 ^ field.low in
    let w = 2 ^ field.width in
    let d = 2 ^ (32 - k) in
    let rest : 32 ≡ k + (32 - k) = omega arith in
    let whole : 2 ^ 32 ≡ 2 ^ k * d = ap (λ (x : ℕ). 2 ^ x) rest ∙ pow-add 2 k (32 - k) in
    let low : v * l + word % l < 2 ^ k =
    subst (λ (x : ℕ). v * l + word % l < x) (sym (pow-add 2 field.low field.width))
    (below v (word % l) l w fits (mod-lt word (pow_pos field.low))) in
    let high : word / 2 ^ k < d =
    div_below word (2 ^ k) d (pow_pos k) (subst (λ (x : ℕ). word < x) (whole ∙ mul_comm (2 ^ k) d) hw) in
    let fits_in : word / 2 ^ k * 2 ^ k + (v * l + word % l) < 2 ^ k * d = below (word / 2 ^ k) (v * l + word % l) (2 ^ k) d high low in
    subst (λ (x : ℕ). with_field word field v < x) (sym whole)
    (subst (λ (x : ℕ). x < 2 ^ k * d) (sym (add_assoc (word / 2 ^ k * 2 ^ k) (v * l) (word % l))) fits_in)

-- bits above k are those of the word without its first k bits
high_bits : (n : ℕ) (k : ℕ) (f : Field) → k ≤ f.low → field_of n f ≡ n / 2 ^ k / 2 ^ (f.low - k) % 2 ^ f.width
high_bits n k f h =
    let rest : f.low ≡ k + (f.low - k) = omega arith in
    let split : 2 ^ f.low ≡ 2 ^ k * 2 ^ (f.low - k) = ap (λ (x : ℕ). 2 ^ x) rest ∙ pow-add 2 k (f.low - k) in
    ap (λ (x : ℕ). n / x % 2 ^ f.width) split ∙ ap (λ (x : ℕ). x % 2 ^ f.width) (sym (div-div-eq-div-mul n (2 ^ k) (2 ^ (f.low - k))))

-- bits below k are those of the first k bits
low_bits_at : (n a b e : ℕ) → 0 < a → n / a % b ≡ n % (b * e * a) / a % b
low_bits_at n a b e ha =
    let m = n % (b * e * a) in
    let q = n / (b * e * a) in
    let split : n ≡ q * e * b * a + m = grind (arith, div-add-mod' n (b * e * a), mul_comm, mul_assoc) in
    ap (λ (x : ℕ). x / a % b) split
    ∙ ap (λ (x : ℕ). x % b) (mul-add-div_right {m = a} ha (q * e * b) m)
    ∙ mul-add-mod_self_right (q * e) b (m / a)

low_bits : (n k : ℕ) (f : Field) → f.low + f.width ≤ k → field_of n f ≡ field_of (n % 2 ^ k) f
low_bits n k f h =
    let a = 2 ^ f.low in
    let b = 2 ^ f.width in
    let e = 2 ^ (k - f.low - f.width) in
    let rest : k ≡ f.width + (k - f.low - f.width) + f.low = omega arith in
    let split : 2 ^ k ≡ b * e * a =
    ap (λ (x : ℕ). 2 ^ x) rest
    ∙ pow-add 2 (f.width + (k - f.low - f.width)) f.low
    ∙ ap (λ (x : ℕ). x * a) (pow-add 2 f.width (k - f.low - f.width)) in
    low_bits_at n a b e (pow_pos f.low) ∙ ap (λ (x : ℕ). n % x / a % b) (sym split)

pub field_of-with_field-apart : (word : ℕ) (field : Field) (v : ℕ) (other : Field) → v < 2 ^ field.width
    → IsApart field other → field_of (with_field word field v) other ≡ field_of word other
field_of-with_field-apart word field v other fits (inl above) =
    let k = field.low + field.width in
    high_bits (with_field word field v) k other above
    ∙ ap (λ (x : ℕ). x / 2 ^ (other.low - k) % 2 ^ other.width) (above-with_field word field v fits)
    ∙ sym (high_bits word k other above)
field_of-with_field-apart word field v other fits (inr under) =
    low_bits (with_field word field v) field.low other under
    ∙ ap (λ (x : ℕ). field_of x other) (below-with_field word field v)
    ∙ sym (low_bits word field.low other under)
