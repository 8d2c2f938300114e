-- A row of descriptors, one more at a time.
use Rattle.std.proofs.Common.{◌≡◌, ℕ, zero, suc, ◌+◌, ◌-◌, ◌<◌, List, [], ◌∷◌, ◌++◌, true, false, length, get_or, refl, ap, sym, ◌∙◌, arith, append_assoc, length-append}
use Rattle.std.proofs.lemmas.Bool.Decides.{nat_tests}
use Rattle.std.proofs.lemmas.List.Sums.{sum_by_push}
use Rattle.std.specs.Prelude.{sum_by}
use Rattle.descriptor_row.specs.declared.descriptor.Descriptor.{Descriptor}
use Rattle.descriptor_row.specs.Row.{size, descriptor_at, begins_at, row_from, row_of}

pub size_at : (config : List ℕ) (at : ℕ) → begins_at config at ≡ true → size (descriptor_at config at) ≡ get_or config at 0
size_at config at h = grind (arith, nat_tests)

pub row_step : (more at : ℕ) (config : List ℕ) → begins_at config at ≡ true
    → row_from (suc more) at config ≡ descriptor_at config at ∷ row_from more (at + get_or config at 0) config
row_step more at config h = rw h refl

pub row_stop : (more at : ℕ) (config : List ℕ) → begins_at config at ≡ false → row_from more at config ≡ []
row_stop zero at config h = refl
row_stop (suc more) at config h = rw h refl

pub row_more : (config : List ℕ) (items : List Descriptor) (at : ℕ) → begins_at config at ≡ true → length items < length config
    → row_of config ≡ items ++ row_from (length config - length items) at config
    → row_of config ≡ (items ++ descriptor_at config at ∷ []) ++ row_from (length config - length (items ++ descriptor_at config at ∷ [])) (at + get_or config at 0) config
row_more config items at h small before =
    let d = descriptor_at config at in
    let e : length config - length items ≡ suc (length config - length (items ++ d ∷ [])) = omega (arith, length-append items (d ∷ [])) in
    before
    ∙ ap (λ n. items ++ row_from n at config) e
    ∙ ap (λ ds. items ++ ds) (row_step (length config - length (items ++ d ∷ [])) at config h)
    ∙ sym (append_assoc items (d ∷ []) (row_from (length config - length (items ++ d ∷ [])) (at + get_or config at 0) config))

pub end_more : (config : List ℕ) (items : List Descriptor) (at : ℕ) → begins_at config at ≡ true → at ≡ 9 + sum_by size items
    → at + get_or config at 0 ≡ 9 + sum_by size (items ++ descriptor_at config at ∷ [])
end_more config items at h e =
    omega (arith, sum_by_push size items (descriptor_at config at), size_at config at h)
