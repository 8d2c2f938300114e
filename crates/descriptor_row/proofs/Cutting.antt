-- The row of a configuration is the only way in which its bytes are cut.
use Rattle.std.proofs.Common.{◌≡◌, ℕ, zero, suc, ◌+◌, ◌≤◌, List, [], ◌∷◌, ◌++◌, Bool, true, false, true≢false, length, take, drop, get_or, refl, ap, sym, subst, ◌∙◌, drop-drop, add-zero, inl, inr, arith, append_assoc}
use Rattle.std.proofs.lemmas.Bool.{cases_lt}
use Rattle.std.proofs.lemmas.Bool.Decides.{nat_tests}
use Rattle.std.proofs.lemmas.List.{length-append, length-drop, length-take, length-take-le, get_or-drop, get_or-take, get_or_past, take-append-drop}
use Rattle.std.proofs.Math.ListN.{get_or-append}
use Rattle.std.proofs.Math.Seq.{drop-append_seam}
use Rattle.std.proofs.lemmas.List.Sums.{sum_by-cons}
use Rattle.std.specs.Prelude.{sum_by}
use Rattle.descriptor_row.specs.declared.descriptor.Descriptor.{Descriptor}
use Rattle.descriptor_row.specs.Row.{size, byte_at, descriptor_at, begins_at, row_from, row_of, row_end}
use Rattle.descriptor_row.specs.Cut.{IsPiece, ArePieces, joined, HasNone, IsCut, head_of, descriptors_of, IsOnlyRow}
use Rattle.descriptor_row.proofs.Rows.{row_step, row_stop}

-- where a piece stands at a place, it is the descriptor there
byte_is : (config piece behind : List ℕ) (at k : ℕ) → drop at config ≡ piece ++ behind → get_or config at 0 ≡ length piece → byte_at config at k ≡ get_or piece k 0
byte_is config piece behind at k there long = elim (cases_lt k (length piece)) [
  | inl within ↦
      let moved : get_or config (at + k) 0 ≡ get_or piece k 0 =
      sym (get_or-drop at config k 0) ∙ ap (λ (xs : List ℕ). get_or xs k 0) there ∙ get_or-append piece behind 0 k within in
      grind (arith, nat_tests)
  | inr past ↦
      let none : get_or piece k 0 ≡ 0 = get_or_past piece k 0 past in
      grind (arith, nat_tests)
]

-- its length is its byte 0
length_is : (config piece behind : List ℕ) (at : ℕ) → drop at config ≡ piece ++ behind → IsPiece piece → get_or config at 0 ≡ length piece
length_is config piece behind at there (long, first) =
    ap (λ i. get_or config i 0) (sym (add-zero at))
    ∙ sym (get_or-drop at config 0 0) ∙ ap (λ (xs : List ℕ). get_or xs 0 0) there ∙ get_or-append piece behind 0 0 (omega arith) ∙ first

within : (config piece behind : List ℕ) (at : ℕ) → at ≤ length config → drop at config ≡ piece ++ behind → at + length piece + length behind ≡ length config
within config piece behind at h there =
    let l : length (drop at config) ≡ length piece + length behind = ap (λ (xs : List ℕ). length xs) there ∙ length-append piece behind in
    omega (arith, length-drop at config, l)

descriptor_is : (config piece behind : List ℕ) (at : ℕ) → drop at config ≡ piece ++ behind → IsPiece piece
    → descriptor_at config at ≡ record { at = at; head = head_of piece }
descriptor_is config piece behind at there h =
    let b : (k : ℕ) → byte_at config at k ≡ get_or piece k 0 = λ k. byte_is config piece behind at k there (length_is config piece behind at there h) in
    rw (b 0, b 1, b 2, b 3, b 4, b 5, b 6, b 7, b 8) refl

begins : (config piece behind : List ℕ) (at : ℕ) → at ≤ length config → drop at config ≡ piece ++ behind → IsPiece piece → begins_at config at ≡ true
begins config piece behind at h there p =
    let l = length_is config piece behind at there p in
    let w = within config piece behind at h there in
    grind (arith, nat_tests)

-- what is left of the bytes behind a piece
behind_it : (config piece behind : List ℕ) (at : ℕ) → drop at config ≡ piece ++ behind → drop (at + length piece) config ≡ behind
behind_it config piece behind at there =
    sym (drop-drop (length piece) at config) ∙ ap (λ (xs : List ℕ). drop (length piece) xs) there ∙ drop-append_seam piece behind

-- where a descriptor begins its bytes are a piece
front_piece : (config : List ℕ) (at : ℕ) → begins_at config at ≡ true → IsPiece (take (get_or config at 0) (drop at config))
front_piece config at h =
    let n = get_or config at 0 in
    let fits : n ≤ length (drop at config) = grind (arith, nat_tests, length-drop at config) in
    let l : length (take n (drop at config)) ≡ n = length-take-le n (drop at config) fits in
    let low : 2 ≤ n = grind (arith, nat_tests) in
    let f : get_or (take n (drop at config)) 0 0 ≡ get_or config at 0 =
    get_or-take n (drop at config) 0 0 (omega arith) ∙ get_or-drop at config 0 0 ∙ ap (λ i. get_or config i 0) (add-zero at) in
    (omega arith, f ∙ sym l)

ends : (config : List ℕ) (at : ℕ) (b : Bool) → begins_at config at ≡ b → HasNone (drop at config) → begins_at config at ≡ false
ends config at false e none = e
ends config at true e none =
    absurd (none (take (get_or config at 0) (drop at config)) (drop (get_or config at 0) (drop at config)) (sym (take-append-drop (get_or config at 0) (drop at config))) (front_piece config at e))

-- the row from a place is that of the pieces from there
row_is : (more at : ℕ) (config : List ℕ) (pieces : List (List ℕ)) (rest : List ℕ) → length config ≤ at + more → at ≤ length config
    → drop at config ≡ joined pieces ++ rest → ArePieces pieces → HasNone rest → row_from more at config ≡ descriptors_of at pieces
row_is more at config [] rest fuel low there whole none =
    let none_there : HasNone (drop at config) = λ piece behind is. none piece behind (sym there ∙ is) in
    row_stop more at config (ends config at (begins_at config at) refl none_there)
row_is zero at config (piece ∷ pieces) rest fuel low there (whole, wholes) none =
    let front : drop at config ≡ piece ++ (joined pieces ++ rest) = there ∙ append_assoc piece (joined pieces) rest in
    absurd (omega (arith, within config piece (joined pieces ++ rest) at low front, whole.0))
row_is (suc more) at config (piece ∷ pieces) rest fuel low there (whole, wholes) none =
    let behind = joined pieces ++ rest in
    let front : drop at config ≡ piece ++ behind = there ∙ append_assoc piece (joined pieces) rest in
    let l = length_is config piece behind at front whole in
    let w = within config piece behind at low front in
    row_step more at config (begins config piece behind at low front whole)
    ∙ ap (λ (d : Descriptor). d ∷ row_from more (at + get_or config at 0) config) (descriptor_is config piece behind at front whole)
    ∙ ap (λ n. record { at = at; head = head_of piece } ∷ row_from more (at + n) config) l
    ∙ ap (λ (ds : List Descriptor). record { at = at; head = head_of piece } ∷ ds)
    (row_is more (at + length piece) config pieces rest (omega (arith, whole.0)) (omega arith) (behind_it config piece behind at front) wholes none)

sizes : (at : ℕ) (pieces : List (List ℕ)) → ArePieces pieces → sum_by size (descriptors_of at pieces) ≡ length (joined pieces)
sizes at [] h = refl
sizes at (piece ∷ pieces) (whole, wholes) =
    let first : sum_by size (descriptors_of at (piece ∷ pieces)) ≡ get_or piece 0 0 + sum_by size (descriptors_of (at + length piece) pieces) =
    sum_by-cons size (record { at = at; head = head_of piece }) (descriptors_of (at + length piece) pieces) in
    omega (arith, first, whole.1, sizes (at + length piece) pieces wholes, length-append piece (joined pieces))

-- a way to cut, one piece after another
record CanCut (bytes : List ℕ) : Type 0 where
  pub pieces : List (List ℕ)
  pub rest : List ℕ
  pub is : IsCut bytes pieces rest

with_piece : (piece behind : List ℕ) → IsPiece piece → CanCut behind → CanCut (piece ++ behind)
with_piece piece behind p c = record {
  pieces = piece ∷ c.pieces;
  rest = c.rest;
  is = record {
    whole = (p, c.is.whole);
    join = ap (λ (xs : List ℕ). piece ++ xs) c.is.join ∙ sym (append_assoc piece (joined c.pieces) c.rest);
    none = c.is.none;
  };
}

no_begin : (bytes : List ℕ) → begins_at bytes 0 ≡ false → HasNone bytes
no_begin bytes h piece behind is p = absurd (true≢false (sym (begins bytes piece behind 0 (omega arith) is p) ∙ h))

can_cut : (more : ℕ) (bytes : List ℕ) (b : Bool) → length bytes ≤ more → begins_at bytes 0 ≡ b → CanCut bytes
can_cut more bytes false fuel h = record { pieces = []; rest = bytes; is = record { whole = tt; join = refl; none = no_begin bytes h } }
can_cut zero bytes true fuel h =
    let p : IsPiece (take (get_or bytes 0 0) bytes) = front_piece bytes 0 h in
    absurd (omega (arith, p.0, length-take (get_or bytes 0 0) bytes))
can_cut (suc more) bytes true fuel h =
    let n = get_or bytes 0 0 in
    let p : IsPiece (take n bytes) = front_piece bytes 0 h in
    let l : length (drop n bytes) ≤ more = omega (arith, length-drop n bytes, length-take n bytes, p.0) in
    subst CanCut (take-append-drop n bytes) (with_piece (take n bytes) (drop n bytes) p (can_cut more (drop n bytes) (begins_at (drop n bytes) 0) l refl))

pub only_row : (config : List ℕ) → 9 ≤ length config → IsOnlyRow config (row_of config) (row_end config)
only_row config h =
    let c = can_cut (length (drop 9 config)) (drop 9 config) (begins_at (drop 9 config) 0) (omega arith) refl in
    record {
      cut = (c.pieces, c.rest, c.is);
      only = λ pieces rest is.
          let row = row_is (length config) 9 config pieces rest (omega arith) h is.join is.whole is.none in
          (row, ap (λ (ds : List Descriptor). 9 + sum_by size ds) row ∙ ap (λ n. 9 + n) (sizes 9 pieces is.whole));
    }
