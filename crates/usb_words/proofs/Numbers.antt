-- Reading digits, where the number stands still once it is large.
use Rattle.std.proofs.Common.{◌≡◌, ℕ, Bool, true, false, Some, None, refl, ◌+◌, ◌-◌, ◌*◌, ◌<◌, ◌≤◌, List, [], ◌∷◌, min, ap, sym, ◌∙◌, arith, ◌⊎◌, inl, inr, length, drop, get_or}
use Rattle.std.proofs.lemmas.List.{drop_more}
use Rattle.std.proofs.lemmas.Bool.Decides.{nat_tests}
use Rattle.std.specs.Prelude.{◌==◌, ◌&&◌, not, nat_lt, nat_le}
use Rattle.std.specs.Char.{is_ascii_digit}
use Rattle.usb_words.specs.Field.{read_on, is_numeral, number_of}

-- more digits make no smaller number
read_on_grows : (digits : List ℕ) (n : ℕ) → n ≤ read_on n digits
read_on_grows [] n = omega arith
read_on_grows (d ∷ ds) n = omega (arith, read_on_grows ds (10 * n + (d - 48)))

small_or_large : (digits : List ℕ) (n cap low m : ℕ) → low ≤ cap → (m ≡ n) ⊎ ((m ≡ cap) × (cap ≤ n)) → min (read_on m digits) low ≡ min (read_on n digits) low
small_or_large digits n cap low m le (inl same) = ap (λ k. min (read_on k digits) low) same
small_or_large digits n cap low m le (inr large) = omega (arith, large.0, large.1, read_on_grows digits m, read_on_grows digits n)

read_on_capped : (digits : List ℕ) (n cap low : ℕ) → low ≤ cap → min (read_on (min n cap) digits) low ≡ min (read_on n digits) low
read_on_capped digits n cap low le = small_or_large digits n cap low (min n cap) le (grind arith)

pub read_on_step : (digits : List ℕ) (i n cap low : ℕ) → low ≤ cap → i < length digits
    → min (read_on (min (10 * n + (get_or digits i 0 - 48)) cap) (drop (i + 1) digits)) low ≡ min (read_on n (drop i digits)) low
read_on_step digits i n cap low le h =
    read_on_capped (drop (i + 1) digits) (10 * n + (get_or digits i 0 - 48)) cap low le
    ∙ ap (λ ds. min (read_on n ds) low) (sym (drop_more digits i 0 h))

-- one digit is a numeral
numeral_if : (digit zero : Bool) → (digit && true) && (true && not (zero && false)) ≡ digit
numeral_if true true = refl
numeral_if true false = refl
numeral_if false zero = refl

one_numeral : (d : ℕ) → is_numeral (d ∷ []) ≡ is_ascii_digit d
one_numeral d = numeral_if (is_ascii_digit d) (d == 48)

pub digit_number : (d most : ℕ) → is_ascii_digit d ≡ true → d - 48 ≤ most → number_of most (d ∷ []) ≡ Some (d - 48)
digit_number d most h le =
    let e : read_on 0 (d ∷ []) ≡ d - 48 = omega arith in
    let small : nat_le (read_on 0 (d ∷ [])) most ≡ true = rw e (grind (arith, nat_tests)) in
    rw (one_numeral d, h, small) (ap Some e)

pub great_digit : (d most : ℕ) → is_ascii_digit d ≡ true → most < d - 48 → number_of most (d ∷ []) ≡ None
great_digit d most h lt =
    let e : read_on 0 (d ∷ []) ≡ d - 48 = omega arith in
    let large : nat_le (read_on 0 (d ∷ [])) most ≡ false = rw e (grind (arith, nat_tests)) in
    rw (one_numeral d, h, large) refl

pub no_digit : (d most : ℕ) → is_ascii_digit d ≡ false → number_of most (d ∷ []) ≡ None
no_digit d most h = rw (one_numeral d, h) refl
