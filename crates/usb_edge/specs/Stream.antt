-- What is known of a source's and a sink's bytes, and of a count of faults.
use Rattle.std.specs.Prelude.{◌≡◌, ℕ, ◌+◌, ◌-◌, ◌^◌, ◌≤◌, List, [], ◌++◌, Option, Some, None, ⊤, min, max}

-- the last value of a count of faults, at which it stands still
abbrev pub last_count : ℕ
last_count = 2 ^ 64 - 1

-- a count rose, or stands at its last value
abbrev pub Rose : ℕ → ℕ → Type 0
Rose old new = min (old + 1) last_count ≤ new

-- a count after one more, which stands still at its last value
abbrev pub counted : ℕ → ℕ
counted n = max n (min (n + 1) last_count)

-- the bytes that a source had left, where it tells them, are these bytes and then those that it has left now
abbrev pub Reads : Option (List ℕ) → Option (List ℕ) → List ℕ → Type 0
Reads (Some old) (Some new) bytes = old ≡ bytes ++ new
Reads None None bytes = ⊤
Reads (Some old) None bytes = ⊥
Reads None (Some new) bytes = ⊥

-- the bytes that a sink has taken, where it tells them, are those from before and then these bytes
abbrev pub Takes : Option (List ℕ) → Option (List ℕ) → List ℕ → Type 0
Takes (Some old) (Some new) bytes = new ≡ old ++ bytes
Takes None None bytes = ⊤
Takes (Some old) None bytes = ⊥
Takes None (Some new) bytes = ⊥

-- nothing is left, where that is told
abbrev pub IsAtEnd : Option (List ℕ) → Type 0
IsAtEnd (Some left) = left ≡ []
IsAtEnd None = ⊤

-- a sink took the front of a text
pub record TakesFront (taken taken' : Option (List ℕ)) (text : List ℕ) : Type 0 where
  pub given : List ℕ
  pub more : List ℕ
  pub text_is : text ≡ given ++ more
  pub takes : Takes taken taken' given
