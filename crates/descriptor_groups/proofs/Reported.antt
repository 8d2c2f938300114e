-- A report descriptor is right exactly where it is that of the first HID interface.
use Rattle.std.proofs.Common.{◌≡◌, ℕ, zero, suc, ◌+◌, ◌≤◌, List, [], ◌∷◌, Bool, true, false, true≢false, not, ◌||◌, eqb, length, Option, Some, None, refl, sym, subst, ap, ◌∙◌, arith, eq-eqb, inl, inr}
use Rattle.std.specs.Prelude.{find, position, nat_le, nat_lt, Result, Ok, Err}
use Rattle.std.specs.List.{list_any, list_all, prefix_len, AllByRecursion}
use Rattle.std.proofs.lemmas.Bool.{cases_Bool, or_parts, and_parts, and_from}
use Rattle.std.proofs.lemmas.Bool.Decides.{nat_tests}
use Rattle.hid_items.specs.declared.ReportLen.{ReportLen}
use Rattle.hid_items.specs.declared.ItemFault.{ItemFault}
use Rattle.hid_items.specs.Lengths.{lengths_of, id_bytes}
use Rattle.descriptor_row.specs.declared.descriptor.Descriptor.{Descriptor}
use Rattle.descriptor_row.specs.Row.{word}
use Rattle.descriptor_row.specs.Kinds.{following_place}
use Rattle.descriptor_groups.specs.Parts.{is_hid, is_hid_descriptor}
use Rattle.descriptor_groups.specs.Reports.{hid_descriptor, report_in, report_out, declares, carries, are_carried, all_carried, is_report, IsCarried, AreCarried, IsReportOf, ReportsJudged}

-- the length that a HID descriptor declares
abbrev Declared : Option Descriptor → ℕ → Type 0
Declared o n = (d : Descriptor) × (o ≡ Some d) × (word d 7 ≡ n)

declared_of : (o : Option Descriptor) (n : ℕ) → declares o n ≡ true → Declared o n
declared_of None n h = absurd (true≢false (sym h))
declared_of (Some d) n h = (d, refl, grind (arith, nat_tests))

declares_it : (o : Option Descriptor) (n : ℕ) → Declared o n → declares o n ≡ true
declares_it o n p = subst (λ x. declares x n ≡ true) (sym p.1) (eq-eqb (word p.0 7) n p.2)

-- without a HID interface there is no HID descriptor
none_is : (row : List Descriptor) → list_any is_hid row ≡ false → prefix_len (λ d. not (is_hid d)) row ≡ length row
none_is [] h = refl
none_is (d ∷ ds) h =
    let p = or_parts (is_hid d) (list_any is_hid ds) h in
    rw (p.0, none_is ds p.1) (omega arith)

not_below : (n : ℕ) → nat_lt n n ≡ false
not_below n = grind (arith, nat_tests)

no_place : (row : List Descriptor) → list_any is_hid row ≡ false → position is_hid row ≡ None
no_place row h = rw (none_is row h, not_below (length row)) refl

no_descriptor : (row : List Descriptor) → list_any is_hid row ≡ false → hid_descriptor row ≡ None
no_descriptor row h = ap (λ place. find is_hid_descriptor (following_place place row)) (no_place row h)

is_there : (row : List Descriptor) (n : ℕ) → declares (hid_descriptor row) n ≡ true → list_any is_hid row ≡ true
is_there row n h =
    elim (cases_Bool (list_any is_hid row)) [
      | inl e ↦ e
      | inr e ↦ absurd (true≢false (sym h ∙ ap (λ o. declares o n) (no_descriptor row e)))
    ]

-- a report that fits, with k bytes of its id
fits_in : (k bytes size : ℕ) → (eqb bytes 0 || nat_le (k + bytes) size) ≡ true → 1 ≤ bytes → k + bytes ≤ size
fits_in k zero size h one = absurd (omega (arith, one))
fits_in k (suc bytes) size h one = grind (arith, nat_tests)

in_fits : (k bytes size : ℕ) → (1 ≤ bytes → k + bytes ≤ size) → (eqb bytes 0 || nat_le (k + bytes) size) ≡ true
in_fits k zero size h = refl
in_fits k (suc bytes) size h = let q : k + suc bytes ≤ size = h (omega arith) in grind (arith, nat_tests)

carried_of : (o : Option Descriptor) (id bytes : ℕ) → carries o id bytes ≡ true → IsCarried o id bytes
carried_of None id bytes h = tt
carried_of (Some e) id bytes h = fits_in (id_bytes id) bytes (word e 4) h

carries_it : (o : Option Descriptor) (id bytes : ℕ) → IsCarried o id bytes → carries o id bytes ≡ true
carries_it None id bytes h = refl
carries_it (Some e) id bytes h = in_fits (id_bytes id) bytes (word e 4) h

each_of : (row : List Descriptor) (ls : List ReportLen) → list_all (are_carried row) ls ≡ true → AllByRecursion (AreCarried row) ls
each_of row [] h = tt
each_of row (l ∷ ls) h =
    let p = and_parts (are_carried row l) (list_all (are_carried row) ls) h in
    let q = and_parts (carries (report_in row) l.id l.input) (carries (report_out row) l.id l.output) p.0 in
    ((carried_of (report_in row) l.id l.input q.0, carried_of (report_out row) l.id l.output q.1), each_of row ls p.1)

each_is : (row : List Descriptor) (ls : List ReportLen) → AllByRecursion (AreCarried row) ls → list_all (are_carried row) ls ≡ true
each_is row [] h = refl
each_is row (l ∷ ls) h =
    and_from _ _
    (and_from _ _ (carries_it (report_in row) l.id l.input h.0.0) (carries_it (report_out row) l.id l.output h.0.1))
    (each_is row ls h.1)

abbrev Carried : List Descriptor → Result (List ReportLen) ItemFault → Type 0
Carried row r = (ls : List ReportLen) × (r ≡ Ok ls) × AllByRecursion (AreCarried row) ls

all_of : (row : List Descriptor) (r : Result (List ReportLen) ItemFault) → all_carried row r ≡ true → Carried row r
all_of row (Ok ls) h = (ls, refl, each_of row ls h)
all_of row (Err fault) h = absurd (true≢false (sym h))

all_is : (row : List Descriptor) (r : Result (List ReportLen) ItemFault) → Carried row r → all_carried row r ≡ true
all_is row r p = subst (λ x. all_carried row x ≡ true) (sym p.1) (each_is row p.0 p.2)

not_true : (b : Bool) → not b ≡ false → b ≡ true
not_true true h = refl
not_true false h = absurd (true≢false h)

right : (row : List Descriptor) (bytes : List ℕ) → is_report row bytes ≡ true → IsReportOf row bytes
right row bytes h =
    let p = and_parts (declares (hid_descriptor row) (length bytes)) (all_carried row (lengths_of bytes)) h in
    record {
      there = is_there row (length bytes) p.0;
      declared = declared_of (hid_descriptor row) (length bytes) p.0;
      carried = all_of row (lengths_of bytes) p.1;
    }

only : (row : List Descriptor) (bytes : List ℕ) → IsReportOf row bytes → is_report row bytes ≡ true
only row bytes r = and_from _ _ (declares_it (hid_descriptor row) (length bytes) r.declared) (all_is row (lengths_of bytes) r.carried)

pub reports_judged : ReportsJudged
reports_judged = record {
  missing = λ row. refl;
  right = λ row bytes h. right row bytes (not_true (is_report row bytes) h);
  only = λ row bytes r. ap not (only row bytes r);
}
