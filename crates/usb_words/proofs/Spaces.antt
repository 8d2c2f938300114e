-- The bytes before the first space.
use Rattle.std.proofs.Common.{◌≡◌, ℕ, ◌+◌, ◌<◌, ◌≤◌, List, [], ◌∷◌, zero, suc, Option, Some, None, Bool, true, false, eqb, length, drop, get_or, refl, ap, sym, ◌∙◌, arith}
use Rattle.std.specs.List.{position_or_len}
use Rattle.std.proofs.lemmas.List.{drop_more, drop_all}
use Rattle.std.proofs.lemmas.Bool.Decides.{nat_tests}
use Rattle.std.specs.Prelude.{position, nat_lt}
use Rattle.memchr.specs.Find.{IsFirstByte, is_byte}
use Rattle.usb_words.specs.Field.{is_space}

-- how many of the bytes from number `i` on stand before the first space
abbrev pub before : List ℕ → ℕ → ℕ
before xs i = position_or_len is_space (drop i xs)

other : (b : ℕ) → (b ≡ 32 → ⊥) → is_space b ≡ false
other b h = grind (arith, nat_tests)

same : (b : ℕ) → b ≡ 32 → is_space b ≡ true
same b h = grind (arith, nat_tests)

head_no : (b : ℕ) (xs : List ℕ) → is_space b ≡ false → position_or_len is_space (b ∷ xs) ≡ 1 + position_or_len is_space xs
head_no b xs h = rw h refl

head_yes : (b : ℕ) (xs : List ℕ) → is_space b ≡ true → position_or_len is_space (b ∷ xs) ≡ 0
head_yes b xs h = rw h refl

pub no_space : (xs : List ℕ) (i n : ℕ) → i + before xs i ≡ n → i < length xs → (get_or xs i 0 ≡ 32 → ⊥) → i + 1 + before xs (i + 1) ≡ n
no_space xs i n e lt h =
    let step : before xs i ≡ 1 + before xs (i + 1) =
    ap (position_or_len is_space) (drop_more xs i 0 lt) ∙ head_no (get_or xs i 0) (drop (i + 1) xs) (other (get_or xs i 0) h) in
    omega arith

pub a_space : (xs : List ℕ) (i n : ℕ) → i + before xs i ≡ n → i < length xs → get_or xs i 0 ≡ 32 → i ≡ n
a_space xs i n e lt h =
    let here : before xs i ≡ 0 =
    ap (position_or_len is_space) (drop_more xs i 0 lt) ∙ head_yes (get_or xs i 0) (drop (i + 1) xs) (same (get_or xs i 0) h) in
    omega arith

pub at_end : (xs : List ℕ) (i n : ℕ) → i + before xs i ≡ n → length xs ≤ i → i ≡ n
at_end xs i n e h =
    let none : before xs i ≡ 0 = ap (position_or_len is_space) (drop_all i xs h) in
    omega arith

-- the first byte that is a space has as many bytes before it
first_at : (xs : List ℕ) (n : ℕ) → n < length xs → ((k : ℕ) → k < n → get_or xs k 0 ≡ 32 → ⊥) → get_or xs n 0 ≡ 32 → position_or_len is_space xs ≡ n
first_at [] n lt never here = absurd (omega arith)
first_at (x ∷ xs) zero lt never here = head_yes x xs (same x here)
first_at (x ∷ xs) (suc n) lt never here =
    let one : position_or_len is_space (x ∷ xs) ≡ 1 + position_or_len is_space xs = head_no x xs (other x (never 0 (omega arith))) in
    let others : position_or_len is_space xs ≡ n = first_at xs n (omega arith) (λ k below e. never (suc k) (omega arith) e) here in
    omega arith

none_at : (xs : List ℕ) → ((k : ℕ) → k < length xs → get_or xs k 0 ≡ 32 → ⊥) → position_or_len is_space xs ≡ length xs
none_at [] never = refl
none_at (x ∷ xs) never =
    let one : position_or_len is_space (x ∷ xs) ≡ 1 + position_or_len is_space xs = head_no x xs (other x (never 0 (omega arith))) in
    let others : position_or_len is_space xs ≡ length xs = none_at xs (λ k below e. never (suc k) (omega arith) e) in
    omega arith

is_one : (b : ℕ) → b ≡ 32 → eqb b 32 ≡ true
is_one b h = grind (arith, nat_tests)

one_is : (b : ℕ) → eqb b 32 ≡ true → b ≡ 32
one_is b h = grind (arith, nat_tests)

some_place : (xs : List ℕ) (n : ℕ) → n < length xs → position_or_len is_space xs ≡ n → position is_space xs ≡ Some n
some_place xs n lt e =
    let below : nat_lt (position_or_len is_space xs) (length xs) ≡ true = grind (arith, nat_tests) in
    rw below (ap Some e)

no_place : (xs : List ℕ) → position_or_len is_space xs ≡ length xs → position is_space xs ≡ None
no_place xs e =
    let beyond : nat_lt (position_or_len is_space xs) (length xs) ≡ false = grind (arith, nat_tests) in
    rw beyond refl

pub space_found : (bytes : List ℕ) (r : Option ℕ) → IsFirstByte (is_byte 32) bytes r → r ≡ position is_space bytes
space_found bytes None h = sym (no_place bytes (none_at bytes (λ k lt e. h k (omega arith) lt (is_one (get_or bytes k 0) e))))
space_found bytes (Some n) h =
    sym (some_place bytes n h.0.high (first_at bytes n h.0.high (λ k below e. h.0.before k (omega arith) below (is_one (get_or bytes k 0) e)) (one_is (get_or bytes n 0) h.1)))
