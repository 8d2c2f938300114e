-- The rows of ids: which one an id has, and what is put there.
use Rattle.std.proofs.Common.{◌≡◌, ℕ, zero, suc, ◌≤◌, ◌<◌, ◌≢◌, ◌==◌, ◌||◌, Bool, true, false, true≢false, is_some, List, [], ◌∷◌, length, get_or, set, take, Some, None, refl, ap, sym, ◌∙◌, arith}
use Rattle.std.specs.Prelude.{replicate}
use Rattle.std.specs.List.{list_any, refill}
use Rattle.std.specs.Option.{option_map}
use Rattle.std.proofs.lemmas.List.Quantifiers.{position-Some}
use Rattle.std.proofs.lemmas.Bool.{eqb-true, eqb-false}
use Rattle.std.proofs.lemmas.List.{take-replicate}
use Rattle.std.proofs.lemmas.Grind.{common_steps}
use Rattle.hid_device_machine.specs.declared.reports.ReportType.{ReportType}
use Rattle.hid_device_machine.specs.declared.reports.IdReports.{IdReports}
use Rattle.hid_device_machine.specs.Reports.{length_as, length_in, last_input, with_input}
use Rattle.hid_class.specs.Rows.{place_in}

-- The row at a place is the first one of an id.
abbrev IsRowOf : ℕ → List IdReports → ℕ → Type 0
IsRowOf id [] place = ⊥
IsRowOf id (row ∷ rows) zero = row.lengths.id ≡ id
IsRowOf id (row ∷ rows) (suc place) = (row.lengths.id ≢ id) × IsRowOf id rows place

row_of : (id : ℕ) (rows : List IdReports) (i : ℕ) (d : IdReports) → i < length rows → ((get_or rows i d).lengths.id == id) ≡ true →
    ((k : ℕ) → k < i → ((get_or rows k d).lengths.id == id) ≡ false) → IsRowOf id rows i
row_of id [] i d lt here before = absurd (omega arith)
row_of id (row ∷ rows) zero d lt here before = eqb-true row.lengths.id id here
row_of id (row ∷ rows) (suc i) d lt here before =
    (eqb-false row.lengths.id id (before 0 (omega arith)), row_of id rows i d (omega arith) here (λ k h. before (suc k) (omega arith)))

row_at : (id : ℕ) (rows : List IdReports) (i : ℕ) (d : IdReports) → Some i ≡ place_in id rows → IsRowOf id rows i
row_at id rows i d e =
    let found = position-Some (λ (row : IdReports). row.lengths.id == id) rows i d (sym e) in
    row_of id rows i d found.0 found.1 found.2

blank_row : IdReports
blank_row = record { lengths = record { id = 0; input = 0; output = 0; feature = 0 }; last_input = None }

-- The place of a row is in the list.
pub place_in-bound : (id : ℕ) (rows : List IdReports) (i : ℕ) → Some i ≡ place_in id rows → i < length rows
place_in-bound id rows i e = (position-Some (λ (row : IdReports). row.lengths.id == id) rows i blank_row (sym e)).0

length_of_row : (id : ℕ) (rows : List IdReports) (i : ℕ) (d : IdReports) (t : ReportType) → IsRowOf id rows i →
    length_in rows t id ≡ length_as t (get_or rows i d).lengths
length_of_row id [] i d t h = absurd h
length_of_row id (row ∷ rows) zero d t h = grind arith
length_of_row id (row ∷ rows) (suc i) d t h = grind (arith, length_of_row id rows i d t h.1)

-- The lengths of an id with a row are those of the row.
pub length_at : (id : ℕ) (rows : List IdReports) (i : ℕ) (d : IdReports) (t : ReportType) → Some i ≡ place_in id rows →
    length_in rows t id ≡ length_as t (get_or rows i d).lengths
length_at id rows i d t e = length_of_row id rows i d t (row_at id rows i d e)

input_of_row : (id : ℕ) (rows : List IdReports) (i : ℕ) (d : IdReports) → IsRowOf id rows i →
    last_input rows id ≡ option_map (λ r. r.items) (get_or rows i d).last_input
input_of_row id [] i d h = absurd h
input_of_row id (row ∷ rows) zero d h = grind arith
input_of_row id (row ∷ rows) (suc i) d h = grind (arith, input_of_row id rows i d h.1)

pub input_at : (id : ℕ) (rows : List IdReports) (i : ℕ) (d : IdReports) → Some i ≡ place_in id rows →
    last_input rows id ≡ option_map (λ r. r.items) (get_or rows i d).last_input
input_at id rows i d e = input_of_row id rows i d (row_at id rows i d e)

put_in_row : (id : ℕ) (bytes : List ℕ) (rows : List IdReports) (i : ℕ) (d : IdReports) → IsRowOf id rows i →
    with_input id bytes rows ≡ set rows i (record { lengths = (get_or rows i d).lengths; last_input = Some (record { items = bytes }) })
put_in_row id bytes [] i d h = absurd h
put_in_row id bytes (row ∷ rows) zero d h = grind arith
put_in_row id bytes (row ∷ rows) (suc i) d h = grind (arith, put_in_row id bytes rows i d h.1)

-- A report that is put into the row of its id leaves the row's lengths.
pub put_at : (id : ℕ) (bytes : List ℕ) (rows : List IdReports) (i : ℕ) (d : IdReports) → Some i ≡ place_in id rows →
    with_input id bytes rows ≡ set rows i (record { lengths = (get_or rows i d).lengths; last_input = Some (record { items = bytes }) })
put_at id bytes rows i d e = put_in_row id bytes rows i d (row_at id rows i d e)

or-false : (a b : Bool) → a || b ≡ false → (a ≡ false) × (b ≡ false)
or-false true b e = elim (true≢false e) [ ]
or-false false b e = (refl, e)

-- An id with no row has no reports, and nothing is put anywhere for it.
abbrev HasNoRow : ℕ → List IdReports → Type 0
HasNoRow id [] = Unit {0}
HasNoRow id (row ∷ rows) = (row.lengths.id ≢ id) × HasNoRow id rows

length_nowhere_of : (id : ℕ) (rows : List IdReports) (t : ReportType) → HasNoRow id rows → length_in rows t id ≡ 0
length_nowhere_of id [] t h = refl
length_nowhere_of id (row ∷ rows) t h = grind (arith, length_nowhere_of id rows t h.1)

input_nowhere_of : (id : ℕ) (rows : List IdReports) → HasNoRow id rows → last_input rows id ≡ None
input_nowhere_of id [] h = refl
input_nowhere_of id (row ∷ rows) h = grind (arith, input_nowhere_of id rows h.1)

put_nowhere_of : (id : ℕ) (bytes : List ℕ) (rows : List IdReports) → HasNoRow id rows → with_input id bytes rows ≡ rows
put_nowhere_of id bytes [] h = refl
put_nowhere_of id bytes (row ∷ rows) h = grind (arith, put_nowhere_of id bytes rows h.1)

place_is_some : (id : ℕ) (rows : List IdReports) → is_some (place_in id rows) ≡ list_any (λ (row : IdReports). row.lengths.id == id) rows
place_is_some id [] = refl
place_is_some id (row ∷ rows) = grind (arith, common_steps, place_is_some id rows)

no_row_of : (id : ℕ) (rows : List IdReports) → list_any (λ (row : IdReports). row.lengths.id == id) rows ≡ false → HasNoRow id rows
no_row_of id [] e = tt
no_row_of id (row ∷ rows) e =
    let parts = or-false (row.lengths.id == id) (list_any (λ (row : IdReports). row.lengths.id == id) rows) e in
    (eqb-false row.lengths.id id parts.0, no_row_of id rows parts.1)

no_row : (id : ℕ) (rows : List IdReports) → None ≡ place_in id rows → HasNoRow id rows
no_row id rows e = no_row_of id rows (sym (place_is_some id rows) ∙ ap is_some (sym e))

pub length_nowhere : (id : ℕ) (rows : List IdReports) (t : ReportType) → None ≡ place_in id rows → length_in rows t id ≡ 0
length_nowhere id rows t e = length_nowhere_of id rows t (no_row id rows e)

pub input_nowhere : (id : ℕ) (rows : List IdReports) → None ≡ place_in id rows → last_input rows id ≡ None
input_nowhere id rows e = input_nowhere_of id rows (no_row id rows e)

pub put_nowhere : (id : ℕ) (bytes : List ℕ) (rows : List IdReports) → None ≡ place_in id rows → with_input id bytes rows ≡ rows
put_nowhere id bytes rows e = put_nowhere_of id bytes rows (no_row id rows e)

-- Rows that are written back as a slice with one of them changed.
pub refill-set : (rows slice : List IdReports) (i : ℕ) (row : IdReports) → slice ≡ rows → refill (length rows) rows (set slice i row) ≡ set rows i row
refill-set rows slice i row e = grind (arith, common_steps)

pub take_zeros : (m n : ℕ) → m ≤ n → take {A = ℕ} m (replicate n 0) ≡ replicate m 0
take_zeros m n h = take-replicate m n 0 h

pub ruleset length_rules = (place_in-bound, length_at, length_nowhere)

pub ruleset input_rules = (place_in-bound, input_at, input_nowhere)

pub ruleset put_rules = (place_in-bound, put_at, put_nowhere, refill-set)
