-- Slots after bytes were written over some of them, slot by slot.
use Rattle.std.proofs.Common.{◌≡◌, ℕ, ◌+◌, ◌-◌, ◌<◌, ◌≤◌, ◌⊎◌, List, length, get_or, drop, inl, inr, ap, ◌∙◌, arith}
use Rattle.std.proofs.lemmas.List.{places, take_all, drop_all}
use Rattle.usb_ring.specs.Slots.{overwritten, overwritten_around}

module _ (slots bytes : List ℕ) (at : ℕ) (fits : at + length bytes ≤ length slots) where
  pub length-overwritten : length (overwritten slots at bytes) ≡ length slots
  length-overwritten = grind (arith, places, fits)

  pub get_or-overwritten_in : (i d : ℕ) → at ≤ i → i < at + length bytes → get_or (overwritten slots at bytes) i d ≡ get_or bytes (i - at) d
  get_or-overwritten_in i d from to = grind (arith, places, fits, from, to)

  pub get_or-overwritten_out : (i d : ℕ) → (i < at) ⊎ (at + length bytes ≤ i) → get_or (overwritten slots at bytes) i d ≡ get_or slots i d
  get_or-overwritten_out i d outside = elim outside [
    | inl before ↦ grind (arith, places, fits, before)
    | inr behind ↦ grind (arith, places, fits, behind)
  ]

-- where all have place before the end, nothing stands from the first slot on
pub all_before : (slots bytes : List ℕ) (at : ℕ) → length bytes ≤ length slots - at → overwritten_around slots at bytes ≡ overwritten slots at bytes
all_before slots bytes at few =
    ap (λ (front : List ℕ). overwritten (overwritten slots at front) 0 (drop (length slots - at) bytes)) (take_all (length slots - at) bytes few)
    ∙ ap (λ (back : List ℕ). overwritten (overwritten slots at bytes) 0 back) (drop_all (length slots - at) bytes few)
