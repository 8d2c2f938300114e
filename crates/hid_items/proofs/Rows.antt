-- The rows of reports: which one an id has, and what a field adds.
use Rattle.std.proofs.Common.{◌≡◌, ℕ, zero, suc, ◌+◌, ◌≤◌, ◌<◌, ◌≢◌, ◌==◌, ◌||◌, Bool, true, false, not, List, [], ◌∷◌, ◌++◌, length, get_or, set, IsTrue, Some, None, is_some, refl, ap, sym, subst, ◌∙◌, arith}
use Rattle.std.specs.List.{list_any, refill}
use Rattle.std.proofs.lemmas.List.Quantifiers.{position-Some}
use Rattle.std.proofs.lemmas.Bool.{eqb-true, eqb-false}
use Rattle.std.proofs.lemmas.Grind.{common_steps}
use Rattle.hid_items.specs.declared.item.ReportKind.{ReportKind}
use Rattle.hid_items.specs.declared.item.ReportKind.TheVariants.{Input, Output, Feature}
use Rattle.hid_items.specs.declared.reports.Report.{Report}
use Rattle.hid_items.specs.Lengths.{DataField, bit_limit, refuses_field}
use Rattle.hid_items.specs.Reports.{bits_in, grown, new_row, added, ids_in, bits_among, is_small, all_small, place_in}

-- A test of the ids is that test of each row.
pub any_id : (p : ℕ → Bool) (rows : List Report) → list_any p (ids_in rows) ≡ list_any (λ (row : Report). p row.id) rows
any_id p [] = refl
any_id p (row ∷ rows) = ap (λ b. p row.id || b) (any_id p rows)

pub any_equal : (id : ℕ) (rows : List Report) → list_any (λ x. x == id) (ids_in rows) ≡ list_any (λ (row : Report). row.id == id) rows
any_equal id rows = any_id (λ x. x == id) rows

pub any_other : (rows : List Report) → list_any (λ x. not (x == 0)) (ids_in rows) ≡ list_any (λ (row : Report). not (row.id == 0)) rows
any_other rows = any_id (λ x. not (x == 0)) rows

-- The row at a place is the first one of an id.
abbrev IsRowOf : ℕ → List Report → ℕ → Type 0
IsRowOf id [] place = ⊥
IsRowOf id (row ∷ rows) zero = row.id ≡ id
IsRowOf id (row ∷ rows) (suc place) = (row.id ≢ id) × IsRowOf id rows place

row_of : (id : ℕ) (rows : List Report) (i : ℕ) (d : Report) → i < length rows → ((get_or rows i d).id == id) ≡ true →
    ((k : ℕ) → k < i → ((get_or rows k d).id == id) ≡ false) → IsRowOf id rows i
row_of id [] i d lt here before = absurd (omega arith)
row_of id (row ∷ rows) zero d lt here before = eqb-true row.id id here
row_of id (row ∷ rows) (suc i) d lt here before =
    (eqb-false row.id id (before 0 (omega arith)), row_of id rows i d (omega arith) here (λ k h. before (suc k) (omega arith)))

row_at : (id : ℕ) (rows : List Report) (i : ℕ) → Some i ≡ place_in id rows → IsRowOf id rows i
row_at id rows i e =
    let found = position-Some (λ (row : Report). row.id == id) rows i (new_row 0) (sym e) in
    row_of id rows i (new_row 0) found.0 found.1 found.2

-- The place of a row is in the list.
pub place_in-bound : (id : ℕ) (rows : List Report) (i : ℕ) → Some i ≡ place_in id rows → i < length rows
place_in-bound id rows i e = (position-Some (λ (row : Report). row.id == id) rows i (new_row 0) (sym e)).0

-- An id has a row where it is among the ids.
pub place_in-is_some : (id : ℕ) (rows : List Report) → is_some (place_in id rows) ≡ list_any (λ x. x == id) (ids_in rows)
place_in-is_some id [] = refl
place_in-is_some id (row ∷ rows) = grind (arith, common_steps, place_in-is_some id rows)

pub place_in-none : (id : ℕ) (rows : List Report) → None ≡ place_in id rows → list_any (λ x. x == id) (ids_in rows) ≡ false
place_in-none id rows e = sym (place_in-is_some id rows) ∙ ap is_some (sym e)

bits_of_row : (id : ℕ) (rows : List Report) (i : ℕ) (d : Report) (kind : ReportKind) → IsRowOf id rows i →
    bits_among id rows kind ≡ bits_in kind (get_or rows i d)
bits_of_row id [] i d kind h = absurd h
bits_of_row id (row ∷ rows) zero d kind h = grind arith
bits_of_row id (row ∷ rows) (suc i) d kind h = grind (arith, bits_of_row id rows i d kind h.1)

-- The bits of an id with a row are those of the row.
pub bits_at : (id : ℕ) (rows : List Report) (i : ℕ) (d : Report) (kind : ReportKind) → Some i ≡ place_in id rows →
    bits_among id rows kind ≡ bits_in kind (get_or rows i d)
bits_at id rows i d kind e = bits_of_row id rows i d kind (row_at id rows i e)

-- The bits of an id with no row are none.
pub bits_nowhere : (id : ℕ) (rows : List Report) (kind : ReportKind) → list_any (λ x. x == id) (ids_in rows) ≡ false →
    bits_among id rows kind ≡ 0
bits_nowhere id [] kind h = refl
bits_nowhere id (row ∷ rows) kind h = grind (arith, bits_nowhere id rows kind)

added_to_row : (f : DataField) (rows : List Report) (i : ℕ) (d : Report) → IsRowOf f.id rows i →
    added f rows ≡ set rows i (grown f.kind f.bits (get_or rows i d))
added_to_row f [] i d h = absurd h
added_to_row f (row ∷ rows) zero d h = grind arith
added_to_row f (row ∷ rows) (suc i) d h = grind (arith, added_to_row f rows i d h.1)

-- A field of an id with a row makes that row larger.
pub added_at : (f : DataField) (rows : List Report) (i : ℕ) (d : Report) → Some i ≡ place_in f.id rows →
    added f rows ≡ set rows i (grown f.kind f.bits (get_or rows i d))
added_at f rows i d e = added_to_row f rows i d (row_at f.id rows i e)

-- A field of an id with no row puts one at the end.
pub added_new : (f : DataField) (rows : List Report) → list_any (λ x. x == f.id) (ids_in rows) ≡ false →
    added f rows ≡ rows ++ grown f.kind f.bits (new_row f.id) ∷ []
added_new f [] h = refl
added_new f (row ∷ rows) h = grind (arith, common_steps, added_new f rows)

-- A row that grows to the limit at most is small.
pub grown_small : (kind : ReportKind) (bits : ℕ) (row : Report) → IsTrue (is_small row) → bits_in kind row + bits ≤ bit_limit → IsTrue (is_small (grown kind bits row))
grown_small Input bits row small fits = grind arith
grown_small Output bits row small fits = grind arith
grown_small Feature bits row small fits = grind arith

-- A row of small ones is small.
pub small_at : (rows : List Report) (i : ℕ) (d : Report) → i < length rows → IsTrue (all_small rows) → IsTrue (is_small (get_or rows i d))
small_at [] i d lt h = absurd (omega arith)
small_at (row ∷ rows) zero d lt h = grind arith
small_at (row ∷ rows) (suc i) d lt h = small_at rows i d (omega arith) (grind arith)

pub all_small-push : (rows : List Report) (row : Report) → IsTrue (all_small rows) → IsTrue (is_small row) → IsTrue (all_small (rows ++ row ∷ []))
all_small-push [] row h small = grind arith
all_small-push (r ∷ rows) row h small = grind (arith, all_small-push rows row)

-- The bits of a kind in a small row are at most the limit.
pub bits_in-le : (kind : ReportKind) (row : Report) → IsTrue (is_small row) → bits_in kind row ≤ bit_limit
bits_in-le Input row h = grind arith
bits_in-le Output row h = grind arith
bits_in-le Feature row h = grind arith

-- A field that is not refused has room for a row of its id.
pub room_for_row : (id : ℕ) (rows : List Report) → refuses_field id (ids_in rows) ≡ false → None ≡ place_in id rows → length rows < 8
room_for_row id rows allowed none = let absent : list_any (λ x. x == id) (ids_in rows) ≡ false = place_in-none id rows none in grind (arith, common_steps)

-- Rows that are written back as a slice with one of them changed.
pub refill-set : (rows slice : List Report) (i : ℕ) (row : Report) → slice ≡ rows → refill (length rows) rows (set slice i row) ≡ set rows i row
refill-set rows slice i row e = grind (arith, common_steps)

-- Rows stay small when a field is added that keeps its report within the limit.
pub all_small-added : (f : DataField) (rows : List Report) → IsTrue (all_small rows) →
    bits_among f.id rows f.kind + f.bits ≤ bit_limit → IsTrue (all_small (added f rows))
all_small-added f [] h fits = grind (arith, grown_small f.kind f.bits (new_row f.id))
all_small-added f (row ∷ rows) h fits = grind (arith, grown_small f.kind f.bits row, all_small-added f rows)

-- What `add` writes back to its rows, which it reads as `now`, is the rows with the field added.
pub stored : (f : DataField) (now rows read slice : List Report) (i : ℕ) (row : Report) →
    rows ≡ now → read ≡ rows → slice ≡ rows →
    Some i ≡ place_in f.id now → row ≡ grown f.kind f.bits (get_or read i (new_row 0)) →
    refill (length rows) rows (set slice i row) ≡ added f now
stored f now rows read slice i row e0 e1 e2 at is =
    rw (refill-set rows slice i row e2) (rw is (rw e1 (rw e0 (sym (added_at f now i (new_row 0) at)))))

pub stored-small : (f : DataField) (now rows read slice : List Report) (i : ℕ) (row : Report) →
    rows ≡ now → read ≡ rows → slice ≡ rows →
    Some i ≡ place_in f.id now → row ≡ grown f.kind f.bits (get_or read i (new_row 0)) →
    IsTrue (all_small rows) → bits_among f.id now f.kind + f.bits ≤ bit_limit →
    IsTrue (all_small (refill (length rows) rows (set slice i row)))
stored-small f now rows read slice i row e0 e1 e2 at is small fits =
    rw (stored f now rows read slice i row e0 e1 e2 at is)
    (all_small-added f now (let P : List Report → Type 0 = λ rs. IsTrue (all_small rs) in subst P e0 small) fits)

pub ruleset place_rules = (place_in-is_some, place_in-bound, place_in-none)

pub ruleset bits_rules = (place_in-bound, place_in-none, bits_at, bits_nowhere, small_at, bits_in-le)

pub ruleset add_rules = (place_in-bound, place_in-none, bits_at, bits_nowhere, added_at, added_new, small_at, grown_small, all_small-push, room_for_row)
