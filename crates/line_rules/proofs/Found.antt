-- A word that keeps the rules of its field is read.
use Rattle.std.proofs.Common.{◌≡◌, ℕ, ◌+◌, ◌-◌, ◌*◌, ◌/◌, ◌%◌, ◌≤◌, List, [], ◌∷◌, Bool, true, false, not, ◌&&◌, ◌||◌, eqb, leb, cond, length, Option, Some, None, refl, arith, codes, le-leb, is_some}
use Rattle.std.specs.List.{list_all}
use Rattle.std.specs.Str.{bytes_eq}
use Rattle.std.proofs.lemmas.Bool.{leb-true}
use Rattle.std.proofs.lemmas.Bool.Decides.{nat_tests}
use Rattle.usb_words.specs.Field.{is_numeral, read_on, number_of, digit_value, pair_value, bytes_of_pairs, with_byte, bytes_in, bytes_word, number_word}
use Rattle.usb_words.proofs.Decimal.{and_true}
use Rattle.line_rules.specs.declared.rules.Field.{Field}
use Rattle.line_rules.specs.Rules.{rule_1, rule_2, has_words, by_word, after_name, fields_of, is_empty, is_number, is_hex_digit, is_pairs, is_bytes, all_keep, unless}
use Rattle.line_rules.proofs.Judged.{lowest_in}

-- one of two tests chose a value
pub either_some : {A : Type 0} (a b : Bool) (x y : A) → (a || b) ≡ true → (z : A) × (cond a (Some x) (cond b (Some y) None) ≡ Some z)
either_some true b x y h = (x, refl)
either_some false true x y h = (y, refl)
either_some false false x y h = absurd (cc)

pub number_found : (least most : ℕ) (word : List ℕ) → is_number least most word ≡ true → (n : ℕ) × (number_of most word ≡ Some n) × (least ≤ n) × (n ≤ most)
number_found least most word h =
    let a = and_true (is_numeral word) (leb least (read_on 0 word) && leb (read_on 0 word) most) h in
    let b = and_true (leb least (read_on 0 word)) (leb (read_on 0 word) most) a.1 in
    (read_on 0 word, rw (a.0, b.1) refl, leb-true _ _ b.0, leb-true _ _ b.1)

digit_found : (c : ℕ) → is_hex_digit c ≡ true → (n : ℕ) × (digit_value c ≡ Some n)
digit_found c h = either_some (leb 48 c && leb c 57) (leb 97 c && leb c 102) (c - 48) (c - 87) h

pair_joined : (c d x y : ℕ) (r : Option (List ℕ)) (bytes : List ℕ) → digit_value c ≡ Some x → digit_value d ≡ Some y → r ≡ Some bytes
    → with_byte (pair_value c d) r ≡ Some ((16 * x + y) ∷ bytes)
pair_joined c d x y r bytes ex ey er = rw (ex, ey, er) refl

pairs_found : (word : List ℕ) → list_all is_hex_digit word ≡ true → length word % 2 ≡ 0
    → (bytes : List ℕ) × (bytes_of_pairs word ≡ Some bytes) × (2 * length bytes ≡ length word)
pairs_found [] h even = ([], refl, refl)
pairs_found (c ∷ []) h even = absurd (omega (arith, even))
pairs_found (c ∷ d ∷ cs) h even =
    let a = and_true _ _ h in
    let b = and_true _ _ a.1 in
    let x = digit_found c a.0 in
    let y = digit_found d b.0 in
    let rest = pairs_found cs b.1 (omega (arith, even)) in
    ((16 * x.0 + y.0) ∷ rest.0, pair_joined c d x.0 y.0 (bytes_of_pairs cs) rest.0 x.1 y.1 rest.1, omega (arith, rest.2))

even_length : (n : ℕ) → eqb (n % 2) 0 ≡ true → n % 2 ≡ 0
even_length n h = grind (arith, nat_tests)

zero_only : (n : ℕ) → eqb n 0 ≡ true → n ≤ 0
zero_only n h = grind (arith, nat_tests)

-- what a HEX gives
abbrev pub Found : ℕ → ℕ → List ℕ → Type 0
Found least most word = (bytes : List ℕ) × (bytes_in most word ≡ Some bytes) × (least ≤ length bytes) × (length bytes ≤ most)

dash_or_found : (t : Bool) (least most c : ℕ) (cs : List ℕ) → bytes_eq (c ∷ cs) (codes "-") ≡ t
    → cond t (eqb least 0) (not (is_empty (c ∷ cs)) && (is_pairs (c ∷ cs) && (leb least (length (c ∷ cs) / 2) && leb (length (c ∷ cs) / 2) most))) ≡ true
    → Found least most (c ∷ cs)
dash_or_found true least most c cs e h = ([], rw e refl, zero_only least h, omega arith)
dash_or_found false least most c cs e h =
    let a = and_true _ _ h in
    let b = and_true _ _ a.0 in
    let d = and_true _ _ a.1 in
    let p = pairs_found (c ∷ cs) b.0 (even_length (length (c ∷ cs)) b.1) in
    let low : least ≤ length (c ∷ cs) / 2 = leb-true _ _ d.0 in
    let high : length (c ∷ cs) / 2 ≤ most = leb-true _ _ d.1 in
    let few : length p.0 ≤ most = omega (arith, p.2) in
    (p.0, rw (e, p.1, le-leb (length p.0) most few) refl, omega (arith, p.2), few)

pub bytes_found : (least most : ℕ) (word : List ℕ) → is_bytes least most word ≡ true → Found least most word
bytes_found least most [] h = absurd (cc)
bytes_found least most (c ∷ cs) h = dash_or_found (bytes_eq (c ∷ cs) (codes "-")) least most c cs refl h

-- the same of the last word
pub bytes_word_found : (least most : ℕ) (word : List ℕ) → is_bytes least most word ≡ true → (bytes : List ℕ) × (bytes_word least most (Some word) ≡ Some bytes)
bytes_word_found least most word h = let b = bytes_found least most word h in (b.0, rw (b.1, le-leb least (length b.0) b.2) refl)

pub number_word_found : (least most : ℕ) (word : List ℕ) → is_number least most word ≡ true → (n : ℕ) × (number_word least most (Some word) ≡ Some n)
number_word_found least most word h = let n = number_found least most word h in (n.0, rw (n.1, le-leb least n.0 n.2) refl)

-- the rules that were asked
unless_none : (holds : Bool) (rule : ℕ) (later : Option ℕ) → unless holds rule later ≡ None → (holds ≡ true) × (later ≡ None)
unless_none true rule later h = (refl, h)
unless_none false rule later h = absurd (cc)

pub record Keeps (row : Option (List Field)) (words : List (List ℕ)) : Type 0 where
  pub named : is_some row ≡ true
  pub shaped : has_words (by_word (fields_of row) (after_name words)) words ≡ true
  pub numbers : all_keep 5 (by_word (fields_of row) (after_name words)) (after_name words) ≡ true
  pub bytes : all_keep 6 (by_word (fields_of row) (after_name words)) (after_name words) ≡ true
  pub choices : all_keep 7 (by_word (fields_of row) (after_name words)) (after_name words) ≡ true

pub kept_of : (line : List ℕ) (row : Option (List Field)) (words : List (List ℕ)) → lowest_in line row words ≡ None → Keeps row words
kept_of line row words h =
    let fields = by_word (fields_of row) (after_name words) in
    let a = unless_none (rule_1 line) 1 _ h in
    let b = unless_none (rule_2 line) 2 _ a.1 in
    let c = unless_none (is_some row) 3 _ b.1 in
    let d = unless_none (has_words fields words) 4 _ c.1 in
    let e = unless_none (all_keep 5 fields (after_name words)) 5 _ d.1 in
    let f = unless_none (all_keep 6 fields (after_name words)) 6 _ e.1 in
    let g = unless_none (all_keep 7 fields (after_name words)) 7 _ f.1 in
    record { named = c.0; shaped = d.0; numbers = e.0; bytes = f.0; choices = g.0 }

eq_of : (m n : ℕ) → eqb m n ≡ true → m ≡ n
eq_of m n h = grind (arith, nat_tests)

counted : (fields : List Field) (words : List (List ℕ)) → has_words fields words ≡ true → length words ≡ 1 + length fields
counted fields words h =
    let a = and_true (eqb (length words) (1 + length fields)) (list_all (λ word. not (is_empty word)) words) h in
    eq_of (length words) (1 + length fields) a.0

-- the words after the name are as many as the fields
pub after : (fields : List Field) (name : List ℕ) (words : List (List ℕ)) → Keeps (Some fields) (name ∷ words) → length words ≡ length (by_word fields words)
after fields name words k = let e = counted (by_word fields words) (name ∷ words) k.shaped in omega (arith, e)

-- no word that is empty stands in front
pub no_name : (row : Option (List Field)) (words : List (List ℕ)) → Keeps row ([] ∷ words) → ⊥
no_name row words k = let a = and_true (eqb (length ([] ∷ words)) (1 + length (by_word (fields_of row) words))) (list_all (λ word. not (is_empty word)) ([] ∷ words)) k.shaped in let e = a.1 in cc
