-- The rows that a pass keeps are the sums over the fields so far.
use Rattle.std.proofs.Common.{◌≡◌, ℕ, ◌+◌, ◌*◌, ◌==◌, ◌&&◌, ◌||◌, Bool, true, false, not, cond, List, [], ◌∷◌, ◌++◌, map, filter, sum_by, Option, Some, None, Ok, refl, ap, sym, ◌∙◌, arith, append_assoc, append-nil, add-zero, inl, inr}
use Rattle.std.specs.List.{list_any}
use Rattle.std.proofs.lemmas.List.Elements.{filter-append}
use Rattle.std.proofs.lemmas.List.Sums.{sum_by-append}
use Rattle.std.proofs.lemmas.Bool.{eq-eqb}
use Rattle.std.proofs.lemmas.Bool.Decides.{eqb_tells}
use Rattle.hid_items.specs.declared.ItemFault.{ItemFault}
use Rattle.hid_items.specs.declared.ItemFault.TheVariants.{Nest}
use Rattle.hid_items.specs.declared.ReportLen.{ReportLen}
use Rattle.hid_items.specs.declared.item.Item.{Item}
use Rattle.hid_items.specs.declared.item.Item.TheVariants.{Field, Collection, EndCollection, ReportSize, ReportId, ReportCount, Push, Pop, Other}
use Rattle.hid_items.specs.declared.item.ReportKind.{ReportKind}
use Rattle.hid_items.specs.declared.item.ReportKind.TheVariants.{Input, Output, Feature}
use Rattle.hid_items.specs.declared.reports.Report.{Report}
use Rattle.hid_items.specs.Item.{Items, Has, Ends, Stops, items_of, meaning}
use Rattle.hid_items.specs.State.{State, start, after}
use Rattle.hid_items.specs.Lengths.{DataField, same_kind, field_of, fields_of, bits_of, with_id, ids_from, ids_of, lengths_by_id, fault_of, fault_if, first_fault, or_else, unless_fault, lengths_of, bytes_for}
use Rattle.hid_items.specs.Reports.{bits_in, grown, new_row, added, rows_after, ids_in, bits_among, length_in, fault_in, fault_or, pass}

-- The row of an id that some fields make up, and all rows.
abbrev row_of : List DataField → ℕ → Report
row_of fields id = record {
  id = id;
  input = bits_of Input id fields;
  output = bits_of Output id fields;
  feature = bits_of Feature id fields;
}

abbrev rows_of : List DataField → List Report
rows_of fields = map (row_of fields) (ids_of fields)

-- One more field at the end, for the ids and for the bits.
ids_from-snoc : (ids : List ℕ) (fields : List DataField) (f : DataField) →
    ids_from ids (fields ++ f ∷ []) ≡ with_id (ids_from ids fields) f.id
ids_from-snoc ids [] f = refl
ids_from-snoc ids (g ∷ fields) f = ids_from-snoc (with_id ids g.id) fields f

bits_of-snoc : (kind : ReportKind) (id : ℕ) (fields : List DataField) (f : DataField) →
    bits_of kind id (fields ++ f ∷ []) ≡ bits_of kind id fields + bits_of kind id (f ∷ [])
bits_of-snoc kind id fields f =
    let p : DataField → Bool = λ g. same_kind g.kind kind && (g.id == id) in
    ap (sum_by (λ (g : DataField). g.bits)) (filter-append p fields (f ∷ [])) ∙
    sum_by-append (λ (g : DataField). g.bits) (filter p fields) (filter p (f ∷ []))

-- A field alone has its bits in its own report, and none in others.
bits_alone : (kind : ReportKind) (f : DataField) (id : ℕ) → same_kind f.kind kind ≡ true → (f.id == id) ≡ true → bits_of kind id (f ∷ []) ≡ f.bits
bits_alone kind f id k i = grind arith

bits_of_kind : (kind : ReportKind) (f : DataField) (id : ℕ) → same_kind f.kind kind ≡ false → bits_of kind id (f ∷ []) ≡ 0
bits_of_kind kind f id k = grind arith

bits_of_id : (kind : ReportKind) (f : DataField) (id : ℕ) → (f.id == id) ≡ false → bits_of kind id (f ∷ []) ≡ 0
bits_of_id kind f id i = grind arith

more_bits : (kind : ReportKind) (id : ℕ) (fields : List DataField) (f : DataField) → same_kind f.kind kind ≡ true → (f.id == id) ≡ true →
    bits_of kind id (fields ++ f ∷ []) ≡ bits_of kind id fields + f.bits
more_bits kind id fields f k i = bits_of-snoc kind id fields f ∙ ap (λ n. bits_of kind id fields + n) (bits_alone kind f id k i)

same_bits_kind : (kind : ReportKind) (id : ℕ) (fields : List DataField) (f : DataField) → same_kind f.kind kind ≡ false →
    bits_of kind id (fields ++ f ∷ []) ≡ bits_of kind id fields
same_bits_kind kind id fields f k = bits_of-snoc kind id fields f ∙ (rw (bits_of_kind kind f id k) (add-zero (bits_of kind id fields)))

same_bits_id : (kind : ReportKind) (id : ℕ) (fields : List DataField) (f : DataField) → (f.id == id) ≡ false →
    bits_of kind id (fields ++ f ∷ []) ≡ bits_of kind id fields
same_bits_id kind id fields f i = bits_of-snoc kind id fields f ∙ (rw (bits_of_id kind f id i) (add-zero (bits_of kind id fields)))

same_row : (id a b c x y z : ℕ) → a ≡ x → b ≡ y → c ≡ z →
    let first : Report = record { id = id; input = a; output = b; feature = c } in
    let second : Report = record { id = id; input = x; output = y; feature = z } in first ≡ second
same_row id a b c x y z p q r = cc

row_same_at : (fields : List DataField) (kind : ReportKind) (id bits : ℕ) →
    let f : DataField = record { kind = kind; id = id; bits = bits } in
    row_of (fields ++ f ∷ []) id ≡ grown kind bits (row_of fields id)
row_same_at fields Input id bits =
    let f : DataField = record { kind = Input; id = id; bits = bits } in
    same_row id _ _ _ _ _ _ (more_bits Input id fields f refl (eq-eqb id id refl)) (same_bits_kind Output id fields f refl) (same_bits_kind Feature id fields f refl)
row_same_at fields Output id bits =
    let f : DataField = record { kind = Output; id = id; bits = bits } in
    same_row id _ _ _ _ _ _ (same_bits_kind Input id fields f refl) (more_bits Output id fields f refl (eq-eqb id id refl)) (same_bits_kind Feature id fields f refl)
row_same_at fields Feature id bits =
    let f : DataField = record { kind = Feature; id = id; bits = bits } in
    same_row id _ _ _ _ _ _ (same_bits_kind Input id fields f refl) (same_bits_kind Output id fields f refl) (more_bits Feature id fields f refl (eq-eqb id id refl))

row_same : (fields : List DataField) (f : DataField) → row_of (fields ++ f ∷ []) f.id ≡ grown f.kind f.bits (row_of fields f.id)
row_same fields f = row_same_at fields f.kind f.id f.bits

row_other : (fields : List DataField) (f : DataField) (id : ℕ) → (id == f.id) ≡ false → row_of (fields ++ f ∷ []) id ≡ row_of fields id
row_other fields f id ne =
    let apart : (f.id == id) ≡ false = grind arith in
    same_row id _ _ _ _ _ _ (same_bits_id Input id fields f apart) (same_bits_id Output id fields f apart) (same_bits_id Feature id fields f apart)

-- Which ids there are with one more.
pub any-with_id : (id : ℕ) (ids : List ℕ) (new : ℕ) → list_any (λ x. x == id) (with_id ids new) ≡ (list_any (λ x. x == id) ids || (new == id))
any-with_id id [] new = grind arith
any-with_id id (x ∷ ids) new = grind (arith, any-with_id id ids new)

-- An id that no field has given a place has no bits.
absent_before : (id : ℕ) (ids : List ℕ) (fields : List DataField) → list_any (λ x. x == id) (ids_from ids fields) ≡ false →
    list_any (λ x. x == id) ids ≡ false
absent_before id ids [] h = h
absent_before id ids (f ∷ fields) h = grind (arith, absent_before id (with_id ids f.id) fields h, any-with_id id ids f.id)

bits_of-cons_other : (kind : ReportKind) (id : ℕ) (f : DataField) (fields : List DataField) → (f.id == id) ≡ false →
    bits_of kind id (f ∷ fields) ≡ bits_of kind id fields
bits_of-cons_other kind id f fields other =
    let test : (same_kind f.kind kind && (f.id == id)) ≡ false = grind arith in
    ap (λ b. sum_by (λ (g : DataField). g.bits) (cond b (f ∷ filter (λ (g : DataField). same_kind g.kind kind && (g.id == id)) fields) (filter (λ (g : DataField). same_kind g.kind kind && (g.id == id)) fields))) test

no_bits : (kind : ReportKind) (id : ℕ) (ids : List ℕ) (fields : List DataField) → list_any (λ x. x == id) (ids_from ids fields) ≡ false →
    bits_of kind id fields ≡ 0
no_bits kind id ids [] h = refl
no_bits kind id ids (f ∷ fields) h =
    let absent : list_any (λ x. x == id) (with_id ids f.id) ≡ false = absent_before id (with_id ids f.id) fields h in
    let other : (f.id == id) ≡ false = grind (arith, any-with_id id ids f.id) in
    bits_of-cons_other kind id f fields other ∙ no_bits kind id (with_id ids f.id) fields h

-- No id stands twice in a list.
abbrev pub Distinct : List ℕ → Type 0
Distinct [] = Unit {0}
Distinct (x ∷ xs) = (list_any (λ y. y == x) xs ≡ false) × Distinct xs

pub distinct-with_id : (ids : List ℕ) (id : ℕ) → Distinct ids → Distinct (with_id ids id)
distinct-with_id [] id h = (refl, tt)
distinct-with_id (x ∷ ids) id h = elim (eqb_tells x id) [
  | inl same ↦ rw same.0 h
  | inr apart ↦ rw apart.0 (any-with_id x ids id ∙ (grind arith), distinct-with_id ids id h.1)
]

distinct-ids_from : (ids : List ℕ) (fields : List DataField) → Distinct ids → Distinct (ids_from ids fields)
distinct-ids_from ids [] h = h
distinct-ids_from ids (f ∷ fields) h = distinct-ids_from (with_id ids f.id) fields (distinct-with_id ids f.id h)

rows_apart : (fields : List DataField) (f : DataField) (ids : List ℕ) → list_any (λ x. x == f.id) ids ≡ false →
    map (row_of (fields ++ f ∷ [])) ids ≡ map (row_of fields) ids
rows_apart fields f [] h = refl
rows_apart fields f (x ∷ ids) h =
    let apart : (x == f.id) ≡ false = grind arith in
    let rest : list_any (λ x. x == f.id) ids ≡ false = grind arith in
    rw (row_other fields f x apart) (ap (λ rows. row_of fields x ∷ rows) (rows_apart fields f ids rest))

rows_with : (fields : List DataField) (f : DataField) (ids : List ℕ) → Distinct ids →
    (list_any (λ x. x == f.id) ids ≡ false → row_of fields f.id ≡ new_row f.id) →
    map (row_of (fields ++ f ∷ [])) (with_id ids f.id) ≡ added f (map (row_of fields) ids)
rows_with fields f [] distinct new = rw (row_same fields f) (rw (new refl) refl)
rows_with fields f (x ∷ ids) distinct new = elim (eqb_tells x f.id) [
  | inl same ↦
      let head : row_of (fields ++ f ∷ []) x ≡ grown f.kind f.bits (row_of fields x) = rw same.1 (row_same fields f) in
      let unlike : list_any (λ y. y == f.id) ids ≡ false = rw (← same.1) distinct.0 in
      let tail = rows_apart fields f ids unlike in
      rw same.0 (cc)
  | inr apart ↦
      let head = row_other fields f x apart.0 in
      let tail = rows_with fields f ids distinct.1 (λ absent. new (rw apart.0 absent)) in
      rw apart.0 (cc)
]

rows_of-snoc : (fields : List DataField) (f : DataField) → rows_of (fields ++ f ∷ []) ≡ added f (rows_of fields)
rows_of-snoc fields f =
    ap (map (row_of (fields ++ f ∷ []))) (ids_from-snoc [] fields f) ∙
    rows_with fields f (ids_of fields) (distinct-ids_from [] fields tt)
    (λ absent. same_row f.id _ _ _ _ _ _ (no_bits Input f.id [] fields absent) (no_bits Output f.id [] fields absent) (no_bits Feature f.id [] fields absent))

ids_of_rows : (fields : List DataField) (ids : List ℕ) → ids_in (map (row_of fields) ids) ≡ ids
ids_of_rows fields [] = refl
ids_of_rows fields (x ∷ ids) = ap (λ xs. x ∷ xs) (ids_of_rows fields ids)

bits_in-row_of : (kind : ReportKind) (fields : List DataField) (id : ℕ) → bits_in kind (row_of fields id) ≡ bits_of kind id fields
bits_in-row_of Input fields id = refl
bits_in-row_of Output fields id = refl
bits_in-row_of Feature fields id = refl

bits_of_rows : (fields : List DataField) (ids : List ℕ) (id : ℕ) (kind : ReportKind) →
    (list_any (λ x. x == id) ids ≡ false → bits_of kind id fields ≡ 0) →
    bits_among id (map (row_of fields) ids) kind ≡ bits_of kind id fields
bits_of_rows fields [] id kind none = sym (none refl)
bits_of_rows fields (x ∷ ids) id kind none = elim (eqb_tells x id) [
  | inl same ↦ rw same.0 (rw same.1 (bits_in-row_of kind fields id))
  | inr apart ↦ rw apart.0 (bits_of_rows fields ids id kind (λ absent. none (grind arith)))
]

lengths_in_rows : (fields : List DataField) (ids : List ℕ) → map length_in (map (row_of fields) ids) ≡ map (λ id. record {
  id = id;
  input = bytes_for (bits_of Input id fields);
  output = bytes_for (bits_of Output id fields);
  feature = bytes_for (bits_of Feature id fields);
}) ids
lengths_in_rows fields [] = refl
lengths_in_rows fields (x ∷ ids) = ap (λ ls. length_in (row_of fields x) ∷ ls) (lengths_in_rows fields ids)

-- The fault of an item by the rows is that by the fields.
same_fault : (s : State) (fields : List DataField) (place : ℕ) (item : Item) →
    fault_in s (rows_of fields) place item ≡ fault_of s (ids_of fields) (λ kind. bits_of kind s.globals.id fields) place item
same_fault s fields place (Field kind) =
    rw (ids_of_rows fields (ids_of fields), bits_of_rows fields (ids_of fields) s.globals.id kind (no_bits kind s.globals.id [] fields)) refl
same_fault s fields place (ReportId value) = rw (ids_of_rows fields (ids_of fields)) refl
same_fault s fields place Push = refl
same_fault s fields place Pop = refl
same_fault s fields place EndCollection = refl
same_fault s fields place Collection = refl
same_fault s fields place (ReportSize n) = refl
same_fault s fields place (ReportCount n) = refl
same_fault s fields place Other = refl

rows_behind : (s : State) (fields : List DataField) (item : Item) → rows_after s item (rows_of fields) ≡ rows_of (fields ++ field_of s item)
rows_behind s fields (Field kind) = sym (rows_of-snoc fields (record { kind = kind; id = s.globals.id; bits = s.globals.size * s.globals.count }))
rows_behind s fields (ReportId value) = ap rows_of (sym (append-nil fields))
rows_behind s fields Push = ap rows_of (sym (append-nil fields))
rows_behind s fields Pop = ap rows_of (sym (append-nil fields))
rows_behind s fields EndCollection = ap rows_of (sym (append-nil fields))
rows_behind s fields Collection = ap rows_of (sym (append-nil fields))
rows_behind s fields (ReportSize n) = ap rows_of (sym (append-nil fields))
rows_behind s fields (ReportCount n) = ap rows_of (sym (append-nil fields))
rows_behind s fields Other = ap rows_of (sym (append-nil fields))

fault_or-unless : (first later : Option ItemFault) (lengths : List ReportLen) →
    fault_or first (unless_fault later lengths) ≡ unless_fault (or_else first later) lengths
fault_or-unless None later lengths = refl
fault_or-unless (Some fault) later lengths = refl

fault_or-Ok : (fault : Option ItemFault) (lengths : List ReportLen) → fault_or fault (Ok lengths) ≡ unless_fault fault lengths
fault_or-Ok None lengths = refl
fault_or-Ok (Some fault) lengths = refl

-- A pass over the items that are left gives the first fault among them, or the lengths by all fields.
pass_is : (s : State) (before : List DataField) (items : Items) →
    pass s (rows_of before) items ≡ unless_fault (first_fault s before items) (lengths_by_id (before ++ fields_of s items))
pass_is s before (Has place prefix bytes rest) =
    let item = meaning prefix bytes in
    let fault = fault_of s (ids_of before) (λ kind. bits_of kind s.globals.id before) place item in
    rw (
      same_fault s before place item,
      rows_behind s before item,
      pass_is (after s item) (before ++ field_of s item) rest,
      append_assoc before (field_of s item) (fields_of (after s item) rest),
    )
    (fault_or-unless fault (first_fault (after s item) (before ++ field_of s item) rest)
    (lengths_by_id (before ++ (field_of s item ++ fields_of (after s item) rest))))
pass_is s before (Ends place) =
    rw (append-nil before, lengths_in_rows before (ids_of before))
    (fault_or-Ok (fault_if (not (s.open_collections == 0)) (Nest place)) (lengths_by_id before))
pass_is s before (Stops fault) = refl

pub lengths_of_pass : (bytes : List ℕ) → lengths_of bytes ≡ pass start [] (items_of bytes)
unfolding lengths_of
lengths_of_pass bytes = sym (pass_is start [] (items_of bytes))
