-- What the row of slots holds, slot by slot, and after bytes are written or given up.
use Rattle.std.proofs.Common.{◌≡◌, ℕ, ◌+◌, ◌-◌, ◌<◌, ◌≤◌, ◌⊎◌, List, ◌++◌, length, get_or, take, drop, ap, sym, ◌∙◌, inl, inr, arith, length-append, length-drop, length-take-le, get_or-drop, get_or-take}
use Rattle.std.proofs.lemmas.List.{same_lists, get_or_append_left, get_or-append_right, take_all, take-take}
use Rattle.std.proofs.lemmas.Bool.{cases_lt}
use Rattle.std.proofs.lemmas.Bool.Decides.{nat_tests}
use Rattle.usb_ring.specs.Slots.{held, around, overwritten, overwritten_around, IsRow}
use Rattle.usb_ring.proofs.Overwrites.{length-overwritten, get_or-overwritten_in, get_or-overwritten_out}

-- a place less than twice the capacity is a slot, or lies that much behind one
around_cases : (place capacity : ℕ) → ((place < capacity) × (around place capacity ≡ place)) ⊎ ((capacity ≤ place) × (around place capacity ≡ place - capacity))
around_cases place capacity = elim (cases_lt place capacity) [
  | inl low ↦ inl (low, grind (arith, nat_tests))
  | inr high ↦ inr (high, grind (arith, nat_tests))
]

module _ (slots : List ℕ) (capacity oldest n : ℕ) (row : IsRow slots capacity oldest n) where
  pub length-held : length (held oldest n slots) ≡ n
  length-held = length-take-le n _ (simp (length-append, length-drop) (omega (arith, length-take-le oldest slots (omega (arith, row)), row)))

  -- byte i lies i slots behind the oldest, around the end
  pub get_or-held : (i d : ℕ) → i < n → get_or (held oldest n slots) i d ≡ get_or slots (around (oldest + i) capacity) d
  get_or-held i d within =
      let tail = length-drop oldest slots in
      get_or-take n _ i d within ∙ elim (around_cases (oldest + i) capacity) [
        | inl before ↦ get_or_append_left _ _ d i (omega (arith, row, tail)) ∙ get_or-drop oldest slots i d ∙ ap (λ j. get_or slots j d) (sym before.1)
        | inr past ↦ get_or-append_right _ _ (capacity - oldest) i d (omega (arith, row, tail)) (omega (arith, row)) ∙ get_or-take oldest slots _ d (omega (arith, row)) ∙ ap (λ j. get_or slots j d) (omega (arith, row, past.1))
      ]

module _ (slots : List ℕ) (capacity oldest n : ℕ) (row : IsRow slots capacity oldest n) where
  -- what is held from m slots further on is what is held without its first m bytes
  pub held_from_later : (m : ℕ) → m ≤ n → held (around (oldest + m) capacity) (n - m) slots ≡ drop m (held oldest n slots)
  held_from_later m within_held =
      let later = around (oldest + m) capacity in
      let later_cases = around_cases (oldest + m) capacity in
      let row_after : IsRow slots capacity later (n - m) = record { counted = row.counted; starts_inside = grind (arith, row, later_cases); fits = omega (arith, row); small = row.small } in
      let length_before = length-held slots capacity oldest n row in
      let length_after = length-held slots capacity later (n - m) row_after in
      same_lists _ _ (length_after ∙ sym (length-drop m (held oldest n slots) ∙ ap (λ k. k - m) length_before)) (λ i d within.
      let same_slot : around (later + i) capacity ≡ around (oldest + (m + i)) capacity = grind (arith, row, later_cases, around_cases (later + i) capacity, around_cases (oldest + (m + i)) capacity) in
      get_or-held slots capacity later (n - m) row_after i d (omega arith) ∙ ap (λ j. get_or slots j d) same_slot ∙ sym (get_or-drop m (held oldest n slots) i d ∙ get_or-held slots capacity oldest n row (m + i) d (omega arith)))

  -- so are the bytes of a part of them
  pub held_part : (m k : ℕ) → m + k ≤ n → held (around (oldest + m) capacity) k slots ≡ take k (drop m (held oldest n slots))
  held_part m k inside =
      let later = around (oldest + m) capacity in
      sym (ap (λ (bytes : List ℕ). take k bytes) (sym (held_from_later m (omega arith))) ∙ take-take k (n - m) (drop later slots ++ take later slots) (omega arith))

-- bytes written around the end, behind the last one held, stand behind those held
module _ (slots bytes : List ℕ) (capacity oldest n : ℕ) (row : IsRow slots capacity oldest n) (has_room : n + length bytes ≤ capacity) where
  abbrev end : ℕ
  end = around (oldest + n) capacity

  abbrev before_end : List ℕ
  before_end = take (length slots - end) bytes

  abbrev past_end : List ℕ
  past_end = drop (length slots - end) bytes

  abbrev one : List ℕ
  one = overwritten slots end before_end

  abbrev both : List ℕ
  both = overwritten_around slots end bytes

  end_cases : ((oldest + n < capacity) × (end ≡ oldest + n)) ⊎ ((capacity ≤ oldest + n) × (end ≡ oldest + n - capacity))
  end_cases = around_cases (oldest + n) capacity

  end_inside : end < capacity
  end_inside = grind (arith, row, end_cases)

  -- either all have place before the end, or the slots before it are filled
  lengths : ((length bytes ≤ capacity - end) × (length before_end ≡ length bytes) × (length past_end ≡ 0))
      ⊎ ((capacity - end < length bytes) × (length before_end ≡ capacity - end) × (length past_end ≡ length bytes - (capacity - end)))
  lengths =
      let counted = row.counted in
      let rest = length-drop (length slots - end) bytes in
      elim (cases_lt (capacity - end) (length bytes)) [
        | inl many ↦ inr (many, length-take-le (length slots - end) bytes (omega (arith, counted)) ∙ ap (λ c. c - end) counted, rest ∙ ap (λ c. length bytes - (c - end)) counted)
        | inr few ↦ inl (few, ap length (take_all (length slots - end) bytes (omega (arith, counted))), rest ∙ omega (arith, counted))
      ]

  fits_before : end + length before_end ≤ length slots
  fits_before = grind (arith, row, end_inside, lengths)

  length-one : length one ≡ length slots
  length-one = length-overwritten slots before_end end fits_before

  fits_past : 0 + length past_end ≤ length one
  fits_past = grind (arith, row, has_room, end_inside, lengths, length-one)

  pub row_after : IsRow both capacity oldest (n + length bytes)
  row_after = record {
    counted = length-overwritten one past_end 0 fits_past ∙ length-one ∙ row.counted;
    starts_inside = row.starts_inside;
    fits = has_room;
    small = row.small;
  }

  -- a slot that was in use is as it was
  kept_slot : (i d : ℕ) → i < n → get_or both (around (oldest + i) capacity) d ≡ get_or slots (around (oldest + i) capacity) d
  kept_slot i d kept =
      let place = around (oldest + i) capacity in
      let place_cases = around_cases (oldest + i) capacity in
      let past : 0 + length past_end ≤ place = grind (arith, row, has_room, kept, place_cases, end_cases, lengths) in
      get_or-overwritten_out one past_end 0 fits_past place d (inr past) ∙ elim (cases_lt place end) [
        | inl before ↦ get_or-overwritten_out slots before_end end fits_before place d (inl before)
        | inr behind ↦ get_or-overwritten_out slots before_end end fits_before place d (inr (grind (arith, row, has_room, kept, behind, place_cases, end_cases, lengths)))
      ]

  -- a slot behind them has the byte of its place
  new_slot : (i d : ℕ) → n ≤ i → i < n + length bytes → get_or both (around (oldest + i) capacity) d ≡ get_or bytes (i - n) d
  new_slot i d from to =
      let place = around (oldest + i) capacity in
      let place_cases = around_cases (oldest + i) capacity in
      let counted = row.counted in
      elim (cases_lt (i - n) (length before_end)) [
        | inl early ↦
            let at : place ≡ end + (i - n) = grind (arith, row, from, early, place_cases, end_cases, end_inside, lengths) in
            let past : 0 + length past_end ≤ place = grind (arith, row, has_room, at, end_cases, lengths) in
            get_or-overwritten_out one past_end 0 fits_past place d (inr past)
            ∙ get_or-overwritten_in slots before_end end fits_before place d (omega (arith, at)) (omega (arith, at, early))
            ∙ get_or-take (length slots - end) bytes (place - end) d (grind (arith, counted, at, early, lengths))
            ∙ ap (λ j. get_or bytes j d) (omega (arith, at))
        | inr late ↦
            let at : place ≡ (i - n) - (capacity - end) = grind (arith, row, has_room, from, to, late, place_cases, end_cases, end_inside, lengths) in
            let in_past : place < 0 + length past_end = grind (arith, from, to, late, at, lengths) in
            get_or-overwritten_in one past_end 0 fits_past place d (omega arith) in_past
            ∙ ap (λ j. get_or past_end j d) (omega arith)
            ∙ get_or-drop (length slots - end) bytes place d
            ∙ ap (λ j. get_or bytes j d) (grind (arith, counted, to, from, late, at, lengths))
      ]

  pub held_with_bytes : held oldest (n + length bytes) both ≡ held oldest n slots ++ bytes
  held_with_bytes =
      let length_before = length-held slots capacity oldest n row in
      let length_after = length-held both capacity oldest (n + length bytes) row_after in
      same_lists _ _ (length_after ∙ sym (length-append (held oldest n slots) bytes ∙ ap (λ m. m + length bytes) length_before)) (λ i d within.
      get_or-held both capacity oldest (n + length bytes) row_after i d (omega arith) ∙ elim (cases_lt i n) [
        | inl kept ↦ kept_slot i d kept ∙ sym (get_or_append_left _ _ d i (omega arith) ∙ get_or-held slots capacity oldest n row i d kept)
        | inr new ↦ new_slot i d new (omega arith) ∙ sym (get_or-append_right _ _ n i d length_before new)
      ])
