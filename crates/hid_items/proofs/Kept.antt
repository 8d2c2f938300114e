-- What holds of the rows of a pass, and so of every list of lengths.
use Rattle.std.proofs.Common.{◌≡◌, ◌≢◌, ℕ, zero, suc, ◌+◌, ◌*◌, ◌<◌, ◌≤◌, get_or, ◌==◌, ◌&&◌, not, Bool, true, false, List, [], ◌∷◌, length, map, IsTrue, nat_le, nat_lt, Option, Some, None, Result, Ok, Err, MatchResult, IfOk, refl, ap, sym, subst, ◌∙◌, arith, inl, inr}
use Rattle.std.specs.List.{list_any, list_all}
use Rattle.std.proofs.lemmas.Bool.{cases_Bool, eqb-false}
use Rattle.std.proofs.lemmas.Bool.Decides.{eqb_tells, nat_tests}
use Rattle.arrayvec.specs.ArrayVec.{ArrayVec}
use Rattle.hid_items.specs.declared.ItemFault.{ItemFault}
use Rattle.hid_items.specs.declared.ItemFault.TheVariants.{Nest, Ids, Size}
use Rattle.hid_items.specs.declared.ReportLen.{ReportLen}
use Rattle.hid_items.specs.declared.item.Item.{Item}
use Rattle.hid_items.specs.declared.item.Item.TheVariants.{Field, Collection, EndCollection, ReportSize, ReportId, ReportCount, Push, Pop, Other}
use Rattle.hid_items.specs.declared.item.ReportKind.{ReportKind}
use Rattle.hid_items.specs.declared.item.ReportKind.TheVariants.{Input, Output, Feature}
use Rattle.hid_items.specs.declared.reports.Report.{Report}
use Rattle.hid_items.specs.declared.state.Globals.{Globals}
use Rattle.hid_items.specs.Item.{Items, Has, Ends, Stops, items_of, items_from, meaning}
use Rattle.hid_items.specs.State.{State, start, after, popped}
use Rattle.hid_items.specs.Lengths.{DataField, with_id, id_bits, id_bytes, bytes_for, bit_limit, refuses_field, refuses_id, fault_if, or_else, lengths_of, FitsPacket, AreReportLengths}
use Rattle.hid_items.specs.Reports.{bits_in, grown, new_row, added, rows_after, ids_in, bits_among, length_in, fault_in, fault_or, pass}
use Rattle.hid_items.proofs.Fields.{Distinct, distinct-with_id, any-with_id, lengths_of_pass}

-- Each report of a row is within the limit with its id.
abbrev row_fits : Report → Bool
row_fits row = nat_le (id_bits row.id + row.input) bit_limit && nat_le (id_bits row.id + row.output) bit_limit && nat_le (id_bits row.id + row.feature) bit_limit

-- Below a state without a Report ID none was pushed that has one.
abbrev HasNoIdBelow : ℕ → List Globals → Type 0
HasNoIdBelow id [] = Unit {0}
HasNoIdBelow id (g ∷ gs) = (id ≡ 0 → g.id ≡ 0) × HasNoIdBelow g.id gs

record IsKept (s : State) (rows : List Report) : Type 0 where
  once : Distinct (ids_in rows)
  fits : IsTrue (list_all row_fits rows)
  alone : list_any (λ x. x == 0) (ids_in rows) ≡ true → (s.globals.id ≡ 0) × (ids_in rows ≡ 0 ∷ [])
  below : HasNoIdBelow s.globals.id s.pushed

grown-id : (kind : ReportKind) (bits : ℕ) (row : Report) → (grown kind bits row).id ≡ row.id
grown-id Input bits row = refl
grown-id Output bits row = refl
grown-id Feature bits row = refl

ids_in-added : (f : DataField) (rows : List Report) → ids_in (added f rows) ≡ with_id (ids_in rows) f.id
ids_in-added f [] = ap (λ id. id ∷ []) (grown-id f.kind f.bits (new_row f.id))
ids_in-added f (row ∷ rows) = elim (eqb_tells row.id f.id) [
  | inl same ↦ rw same.0 (ap (λ id. id ∷ ids_in rows) (grown-id f.kind f.bits row))
  | inr apart ↦ rw apart.0 (ap (λ ids. row.id ∷ ids) (ids_in-added f rows))
]

grown_fits : (kind : ReportKind) (bits : ℕ) (row : Report) → IsTrue (row_fits row) → id_bits row.id + bits_in kind row + bits ≤ bit_limit →
    IsTrue (row_fits (grown kind bits row))
grown_fits Input bits row small fits = grind arith
grown_fits Output bits row small fits = grind arith
grown_fits Feature bits row small fits = grind arith

new_fits : (id : ℕ) → IsTrue (row_fits (new_row id))
new_fits id = grind arith

added_fits : (f : DataField) (rows : List Report) → IsTrue (list_all row_fits rows) →
    id_bits f.id + bits_among f.id rows f.kind + f.bits ≤ bit_limit → IsTrue (list_all row_fits (added f rows))
added_fits f [] h fits = grind (arith, grown_fits f.kind f.bits (new_row f.id), new_fits f.id)
added_fits f (row ∷ rows) h fits = grind (arith, grown_fits f.kind f.bits row, added_fits f rows)

-- Ids of which none is 0 and none is another are none.
no_ids : (ids : List ℕ) → list_any (λ x. x == 0) ids ≡ false → list_any (λ x. not (x == 0)) ids ≡ false → ids ≡ []
no_ids [] none others = refl
no_ids (x ∷ ids) none others = grind arith

alone_with : (id : ℕ) (ids : List ℕ) → refuses_field id ids ≡ false →
    (list_any (λ x. x == 0) ids ≡ true → (id ≡ 0) × (ids ≡ 0 ∷ [])) →
    list_any (λ x. x == 0) (with_id ids id) ≡ true → (id ≡ 0) × (with_id ids id ≡ 0 ∷ [])
alone_with id ids allowed alone has_zero = elim (cases_Bool (list_any (λ x. x == 0) ids)) [
  | inl there ↦
      let only = alone there in
      (only.0, rw only.1 (rw only.0 refl))
  | inr absent ↦
      let is_zero : id ≡ 0 = grind (arith, any-with_id 0 ids id) in
      let no_others : list_any (λ x. not (x == 0)) ids ≡ false = grind arith in
      (is_zero, rw (no_ids ids absent no_others) (rw is_zero refl))
]

fault_if-None : (b : Bool) (fault : ItemFault) → fault_if b fault ≡ None → b ≡ false
fault_if-None true fault e = cc
fault_if-None false fault e = refl

or_else-None : (first later : Option ItemFault) → or_else first later ≡ None → (first ≡ None) × (later ≡ None)
or_else-None None later e = (refl, e)
or_else-None (Some fault) later e = cc

at_most : (m n : ℕ) → nat_lt m n ≡ false → n ≤ m
at_most m n h = grind (arith, nat_tests)

kept_field : (s : State) (rows : List Report) (place : ℕ) (kind : ReportKind) → IsKept s rows → fault_in s rows place (Field kind) ≡ None →
    IsKept s (rows_after s (Field kind) rows)
kept_field s rows place kind k none =
    let f : DataField = record { kind = kind; id = s.globals.id; bits = s.globals.size * s.globals.count } in
    let ids = ids_in-added f rows in
    let parts = or_else-None (fault_if (refuses_field s.globals.id (ids_in rows)) (Ids place))
    (fault_if (nat_lt bit_limit (id_bits s.globals.id + bits_among s.globals.id rows kind + s.globals.size * s.globals.count)) (Size place)) none in
    let allowed : refuses_field s.globals.id (ids_in rows) ≡ false = fault_if-None _ _ parts.0 in
    let within : id_bits s.globals.id + bits_among s.globals.id rows kind + s.globals.size * s.globals.count ≤ bit_limit = at_most _ _ (fault_if-None _ _ parts.1) in
    record {
      once = rw ids (distinct-with_id (ids_in rows) s.globals.id k.once);
      fits = added_fits f rows k.fits within;
      alone = rw ids (alone_with s.globals.id (ids_in rows) allowed k.alone);
      below = k.below;
    }

below_any : (id new : ℕ) (pushed : List Globals) → new ≢ 0 → HasNoIdBelow id pushed → HasNoIdBelow new pushed
below_any id new [] not_zero h = tt
below_any id new (g ∷ gs) not_zero h = (λ e. absurd (not_zero e), h.1)

kept_popped : (s : State) (rows : List Report) (pushed : List Globals) → IsKept s rows → HasNoIdBelow s.globals.id pushed → IsKept (popped s pushed) rows
kept_popped s rows [] k below = k
kept_popped s rows (g ∷ gs) k below = record {
  once = k.once;
  fits = k.fits;
  alone = λ has_zero. let only = k.alone has_zero in (below.0 only.0, only.1);
  below = below.1;
}

-- A pass without a fault keeps it.
kept : (s : State) (rows : List Report) (place : ℕ) (item : Item) → IsKept s rows → fault_in s rows place item ≡ None →
    IsKept (after s item) (rows_after s item rows)
kept s rows place (Field kind) k none = kept_field s rows place kind k none
kept s rows place (ReportId value) k none =
    let allowed : refuses_id value (ids_in rows) ≡ false = fault_if-None (refuses_id value (ids_in rows)) (Ids place) none in
    let not_zero : (value == 0) ≡ false = grind arith in
    let no_zero : list_any (λ x. x == 0) (ids_in rows) ≡ false = grind arith in
    record {
      once = k.once;
      fits = k.fits;
      alone = λ has_zero. cc;
      below = below_any s.globals.id value s.pushed (eqb-false value 0 not_zero) k.below;
    }
kept s rows place Push k none = record { once = k.once; fits = k.fits; alone = k.alone; below = (λ e. e, k.below) }
kept s rows place Pop k none = kept_popped s rows s.pushed k k.below
kept s rows place EndCollection k none = record { once = k.once; fits = k.fits; alone = k.alone; below = k.below }
kept s rows place Collection k none = record { once = k.once; fits = k.fits; alone = k.alone; below = k.below }
kept s rows place (ReportSize n) k none = record { once = k.once; fits = k.fits; alone = k.alone; below = k.below }
kept s rows place (ReportCount n) k none = record { once = k.once; fits = k.fits; alone = k.alone; below = k.below }
kept s rows place Other k none = k

-- An id that is not among those of rows is not that of a length.
apart_from : (id : ℕ) (rows : List Report) → list_any (λ x. x == id) (ids_in rows) ≡ false →
    (k : ℕ) (d : ReportLen) → k < length (map length_in rows) → id ≢ (get_or (map length_in rows) k d).id
apart_from id [] none k d lt e = absurd (omega arith)
apart_from id (row ∷ rows) none zero d lt e = grind arith
apart_from id (row ∷ rows) none (suc k) d lt e = apart_from id rows (grind arith) k d (omega arith) e

-- No id of the lengths comes twice.
once_of : (rows : List Report) → Distinct (ids_in rows) →
    (i j : ℕ) (d : ReportLen) → i < j → j < length (map length_in rows) →
    (get_or (map length_in rows) i d).id ≢ (get_or (map length_in rows) j d).id
once_of [] h i j d lt within = absurd (omega arith)
once_of (row ∷ rows) h zero zero d lt within = absurd (omega arith)
once_of (row ∷ rows) h zero (suc j) d lt within = apart_from row.id rows h.0 j d (omega arith)
once_of (row ∷ rows) h (suc i) zero d lt within = absurd (omega arith)
once_of (row ∷ rows) h (suc i) (suc j) d lt within = once_of rows h.1 i j d (omega arith) (omega arith)

zero_among : (rows : List Report) (k : ℕ) (d : ReportLen) → k < length (map length_in rows) →
    (get_or (map length_in rows) k d).id ≡ 0 → list_any (λ x. x == 0) (ids_in rows) ≡ true
zero_among [] k d lt e = absurd (omega arith)
zero_among (row ∷ rows) zero d lt e = grind arith
zero_among (row ∷ rows) (suc k) d lt e = let behind = zero_among rows k d (omega arith) e in grind arith

-- A length without an id is the only one.
alone_of : (rows : List Report) → (list_any (λ x. x == 0) (ids_in rows) ≡ true → ids_in rows ≡ 0 ∷ []) →
    (k : ℕ) (d : ReportLen) → k < length (map length_in rows) → (get_or (map length_in rows) k d).id ≡ 0 →
    map length_in rows ≡ get_or (map length_in rows) k d ∷ []
alone_of [] only k d lt e = absurd (omega arith)
alone_of (row ∷ []) only zero d lt e = refl
alone_of (row ∷ []) only (suc k) d lt e = absurd (omega arith)
alone_of (row ∷ other ∷ rows) only k d lt e =
    let one = ap length (only (zero_among (row ∷ other ∷ rows) k d lt e)) in
    absurd (omega arith)

one_fits : (id bits : ℕ) → nat_le (id_bits id + bits) bit_limit ≡ true → id_bytes id + bytes_for bits ≤ 64
one_fits id bits h = elim (eqb_tells id 0) [
  | inl same ↦ let e = same.0 in grind (arith, nat_tests)
  | inr apart ↦ let e = apart.0 in grind (arith, nat_tests)
]

row_parts : (a b c : Bool) → IsTrue (a && b && c) → (a ≡ true) × (b ≡ true) × (c ≡ true)
row_parts a b c h = (grind arith, grind arith, grind arith)

-- The lengths of a row fit a packet, and so do those of all rows.
row_packet : (row : Report) → IsTrue (row_fits row) → FitsPacket (length_in row)
row_packet row h =
    let parts = row_parts _ _ _ h in
    (one_fits row.id row.input parts.0, one_fits row.id row.output parts.1, one_fits row.id row.feature parts.2)

fits_of : (rows : List Report) → IsTrue (list_all row_fits rows) →
    (k : ℕ) (d : ReportLen) → k < length (map length_in rows) → FitsPacket (get_or (map length_in rows) k d)
fits_of [] h k d lt = absurd (omega arith)
fits_of (row ∷ rows) h zero d lt = row_packet row (grind arith)
fits_of (row ∷ rows) h (suc k) d lt = fits_of rows (grind arith) k d (omega arith)

good_lengths : (s : State) (rows : List Report) → IsKept s rows → AreReportLengths (map length_in rows)
good_lengths s rows k = record {
  each_id_once = once_of rows k.once;
  no_id_alone = alone_of rows (λ has_zero. (k.alone has_zero).1);
  each_fits = fits_of rows k.fits;
}

good_one : (s : State) (rows : List Report) (place : ℕ) (item : Item) (fault : Option ItemFault) {result : Result (List ReportLen) ItemFault} {lengths : List ReportLen} →
    fault_in s rows place item ≡ fault → IsKept s rows → fault_or fault result ≡ Ok lengths →
    (IsKept (after s item) (rows_after s item rows) → result ≡ Ok lengths → AreReportLengths lengths) → AreReportLengths lengths
good_one s rows place item None none k is behind = behind (kept s rows place item k none) is
good_one s rows place item (Some fault) none k is behind = cc

good_end : (s : State) (rows : List Report) (fault : Option ItemFault) (lengths : List ReportLen) → IsKept s rows →
    fault_or fault (Ok (map length_in rows)) ≡ Ok lengths → AreReportLengths lengths
good_end s rows None lengths k is = let same : map length_in rows ≡ lengths = cc in subst AreReportLengths same (good_lengths s rows k)
good_end s rows (Some fault) lengths k is = cc

good_pass : (s : State) (rows : List Report) (items : Items) (lengths : List ReportLen) → IsKept s rows → pass s rows items ≡ Ok lengths → AreReportLengths lengths
good_pass s rows (Has place prefix bytes rest) lengths k is =
    good_one s rows place (meaning prefix bytes) (fault_in s rows place (meaning prefix bytes)) refl k is
    (λ behind. good_pass (after s (meaning prefix bytes)) (rows_after s (meaning prefix bytes) rows) rest lengths behind)
good_pass s rows (Ends place) lengths k is = good_end s rows (fault_if (not (s.open_collections == 0)) (Nest place)) lengths k is
good_pass s rows (Stops fault) lengths k is = cc

lengths_of-good : (bytes : List ℕ) (lengths : List ReportLen) → lengths_of bytes ≡ Ok lengths → AreReportLengths lengths
lengths_of-good bytes lengths is =
    good_pass start [] (items_of bytes) lengths (record { once = tt; fits = refl; alone = λ none. cc; below = tt }) (sym (lengths_of_pass bytes) ∙ is)

-- The lengths at the end of a pass over a descriptor.
pub good_at_end : (bytes rest : List ℕ) (s : State) (rows : List Report) (place : ℕ) (result : Result (ArrayVec ReportLen) ItemFault) →
    lengths_of bytes ≡ pass s rows (items_from 0 place rest) → length rest ≡ 0 →
    MatchResult result (λ lengths. pass s rows (Ends place) ≡ Ok lengths.items) (λ fault. pass s rows (Ends place) ≡ Err fault) →
    IfOk result (λ lengths. AreReportLengths lengths.items)
good_at_end bytes [] s rows place (Ok lengths) so_far empty is = lengths_of-good bytes lengths.items (so_far ∙ is)
good_at_end bytes (b ∷ rest) s rows place (Ok lengths) so_far empty is = absurd (omega arith)
good_at_end bytes rest s rows place (Err fault) so_far empty is = tt
