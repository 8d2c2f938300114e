-- How a row of slots holds a ring's bytes: from the oldest on, and past the last slot from the first on.
use Rattle.std.specs.Prelude.{◌≡◌, ℕ, ◌+◌, ◌-◌, ◌<◌, ◌≤◌, List, ◌++◌, length, take, drop, nat_lt, if◌then◌else◌}

-- the n bytes from slot `oldest` on, around the end
abbrev pub held : ℕ → ℕ → List ℕ → List ℕ
held oldest n slots = take n (drop oldest slots ++ take oldest slots)

-- a slot's number that is less than twice the number of slots, counted around the end
abbrev pub around : ℕ → ℕ → ℕ
around place capacity = if nat_lt place capacity then place else place - capacity

-- the slots with these bytes from slot `at` on
abbrev pub overwritten : List ℕ → ℕ → List ℕ → List ℕ
overwritten slots at bytes = take at slots ++ bytes ++ drop (at + length bytes) slots

-- the same around the end: the bytes that don't fit before it stand from the first slot on
abbrev pub overwritten_around : List ℕ → ℕ → List ℕ → List ℕ
overwritten_around slots at bytes =
    overwritten (overwritten slots at (take (length slots - at) bytes)) 0 (drop (length slots - at) bytes)

-- the slots are as many as the capacity, and the bytes held fit in them
pub record IsRow (slots : List ℕ) (capacity oldest len : ℕ) : Type 0 where
  pub counted : length slots ≡ capacity
  pub starts_inside : oldest < capacity
  pub fits : len ≤ capacity
  pub small : capacity ≤ 4096
