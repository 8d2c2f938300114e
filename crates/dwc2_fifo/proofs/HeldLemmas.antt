-- The slots in use, slot by slot, and after one is written or some are given up.
use Rattle.std.proofs.Common.{◌≡◌, ◌≢◌, ℕ, ◌+◌, ◌-◌, ◌%◌, ◌<◌, ◌≤◌, ◌⊎◌, List, [], ◌∷◌, ◌++◌, length, get_or, drop, set, ap, sym, ◌∙◌, inl, inr, arith, length-append, length-drop, length-set, length-take-le, get_or-drop, get_or-take, get_or-set_same, get_or-set_other}
use Rattle.std.proofs.lemmas.List.{same_lists, get_or_append_left, get_or-append_right, length_push, get_or_push}
use Rattle.std.proofs.lemmas.Bool.{cases_lt}
use Rattle.dwc2_fifo.specs.declared.slots.Slot.{Slot}
use Rattle.dwc2_fifo.specs.Row.{held, IsRow}

-- a place less than twice the number of slots is a slot, or lies that much behind one
around : (place : ℕ) → place < 2048 → ((place < 1024) × (place % 1024 ≡ place)) ⊎ ((1024 ≤ place) × (place % 1024 ≡ place - 1024))
around place h = elim (cases_lt place 1024) [
  | inl low ↦ inl (low, omega arith)
  | inr high ↦ inr (high, omega arith)
]

module _ (slots : List Slot) (oldest n : ℕ) (row : IsRow slots oldest n) where
  pub length-held : length (held oldest n slots) ≡ n
  length-held = length-take-le n _ (simp (length-append, length-drop) (omega (arith, length-take-le oldest slots (omega (arith, row)), row)))

  -- slot i of those in use lies i behind the oldest, around the end
  pub get_or-held : (i : ℕ) (d : Slot) → i < n → get_or (held oldest n slots) i d ≡ get_or slots ((oldest + i) % 1024) d
  get_or-held i d within =
      let tail = length-drop oldest slots in
      get_or-take n _ i d within ∙ elim (around (oldest + i) (omega (arith, row))) [
        | inl before ↦ get_or_append_left _ _ d i (omega (arith, row, tail)) ∙ get_or-drop oldest slots i d ∙ ap (λ j. get_or slots j d) (sym before.1)
        | inr past ↦ get_or-append_right _ _ (1024 - oldest) i d (omega (arith, row, tail)) (omega (arith, row)) ∙ get_or-take oldest slots _ d (omega (arith, row)) ∙ ap (λ j. get_or slots j d) (omega (arith, row, past.1))
      ]

module _ (slots : List Slot) (oldest n : ℕ) (row : IsRow slots oldest n) where
  -- a slot written behind the last one in use stands at the end
  pub held_with_slot : (slot : Slot) → n < 1024 → held oldest (n + 1) (set slots ((oldest + n) % 1024) slot) ≡ held oldest n slots ++ slot ∷ []
  held_with_slot slot has_room =
      let end = (oldest + n) % 1024 in
      let written = set slots end slot in
      let row_after : IsRow written oldest (n + 1) = record { counted = length-set slots end slot ∙ row.counted; starts_inside = row.starts_inside; fits = omega (arith, row) } in
      let length_before = length-held slots oldest n row in
      let length_after = length-held written oldest (n + 1) row_after in
      same_lists _ _ (length_after ∙ sym (length_push (held oldest n slots) slot ∙ ap (λ k. k + 1) length_before)) (λ i d within. elim (cases_lt i n) [
        | inl kept ↦
            let other : (oldest + i) % 1024 ≢ end = omega (arith, row, kept, has_room) in
            get_or-held written oldest (n + 1) row_after i d (omega arith) ∙ get_or-set_other slots end _ slot d other ∙ sym (get_or_append_left _ _ d i (omega arith) ∙ get_or-held slots oldest n row i d kept)
        | inr last ↦
            let at_end : i ≡ n = omega arith in
            let inside : end < length slots = omega (arith, row) in
            get_or-held written oldest (n + 1) row_after i d (omega arith) ∙ ap (λ k. get_or written ((oldest + k) % 1024) d) at_end ∙ get_or-set_same slots end slot d inside ∙ sym (get_or_push (held oldest n slots) slot d i (length_before ∙ sym at_end))
      ])

  -- what is in use from m slots further on is what is in use without its first m
  pub held_from_later : (m : ℕ) → m ≤ n → held ((oldest + m) % 1024) (n - m) slots ≡ drop m (held oldest n slots)
  held_from_later m within_held =
      let later = (oldest + m) % 1024 in
      let row_after : IsRow slots later (n - m) = record { counted = row.counted; starts_inside = omega arith; fits = omega (arith, row) } in
      let length_before = length-held slots oldest n row in
      let length_after = length-held slots later (n - m) row_after in
      same_lists _ _ (length_after ∙ sym (length-drop m (held oldest n slots) ∙ ap (λ k. k - m) length_before)) (λ i d within.
      let same_slot : (later + i) % 1024 ≡ (oldest + (m + i)) % 1024 = omega (arith, row) in
      get_or-held slots later (n - m) row_after i d (omega arith) ∙ ap (λ j. get_or slots j d) same_slot ∙ sym (get_or-drop m (held oldest n slots) i d ∙ get_or-held slots oldest n row (m + i) d (omega arith)))
