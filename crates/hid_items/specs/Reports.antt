-- What one pass over the items keeps in place of the fields: a row for each report, and its steps.
use Rattle.std.specs.Prelude.{◌≡◌, ℕ, ◌+◌, ◌*◌, ◌==◌, ◌&&◌, not, Bool, List, [], ◌∷◌, map, if◌then◌else◌, nat_le, Option, Some, None, Result, Ok, Err}
use Rattle.std.specs.List.{list_all, position}
use Rattle.hid_items.specs.declared.ItemFault.{ItemFault}
use Rattle.hid_items.specs.declared.ItemFault.TheVariants.{Nest}
use Rattle.hid_items.specs.declared.ReportLen.{ReportLen}
use Rattle.hid_items.specs.declared.item.Item.{Item}
use Rattle.hid_items.specs.declared.item.Item.TheVariants.{Field}
use Rattle.hid_items.specs.declared.item.ReportKind.{ReportKind}
use Rattle.hid_items.specs.declared.item.ReportKind.TheVariants.{Input, Output, Feature}
use Rattle.hid_items.specs.declared.reports.Report.{Report}
use Rattle.hid_items.specs.Item.{Items, Has, Ends, Stops, meaning}
use Rattle.hid_items.specs.State.{State, after}
use Rattle.hid_items.specs.Lengths.{DataField, bytes_for, fault_of, fault_if, bit_limit}

-- The bits of one kind in a row.
abbrev pub bits_in : ReportKind → Report → ℕ
bits_in Input row = row.input
bits_in Output row = row.output
bits_in Feature row = row.feature

-- A row with more bits of one kind.
abbrev pub grown : ReportKind → ℕ → Report → Report
grown Input bits row = record row { input = row.input + bits }
grown Output bits row = record row { output = row.output + bits }
grown Feature bits row = record row { feature = row.feature + bits }

-- A row with no bits yet.
abbrev pub new_row : ℕ → Report
new_row id = record { id = id; input = 0; output = 0; feature = 0 }

-- Rows with a field added to the row of its id, which is put at the end where there is none.
abbrev pub added : DataField → List Report → List Report
added f [] = grown f.kind f.bits (new_row f.id) ∷ []
added f (row ∷ rows) = if row.id == f.id then grown f.kind f.bits row ∷ rows else row ∷ added f rows

-- Rows behind an item.
abbrev pub rows_after : State → Item → List Report → List Report
rows_after s (Field kind) rows = added (record { kind = kind; id = s.globals.id; bits = s.globals.size * s.globals.count }) rows
rows_after s _ rows = rows

-- The ids of some rows.
abbrev pub ids_in : List Report → List ℕ
ids_in rows = map (λ (row : Report). row.id) rows

-- The bits of one kind that the report of an id has in some rows.
abbrev pub bits_among : ℕ → List Report → ReportKind → ℕ
bits_among id [] kind = 0
bits_among id (row ∷ rows) kind = if row.id == id then bits_in kind row else bits_among id rows kind

-- The place of the row of an id, if it has one.
abbrev pub place_in : ℕ → List Report → Option ℕ
place_in id rows = position (λ (row : Report). row.id == id) rows

-- No report of a row is over the limit.
abbrev pub is_small : Report → Bool
is_small row = nat_le row.input bit_limit && nat_le row.output bit_limit && nat_le row.feature bit_limit

abbrev pub all_small : List Report → Bool
all_small rows = list_all is_small rows

-- The length of a row.
abbrev pub length_in : Report → ReportLen
length_in row = record {
  id = row.id;
  input = bytes_for row.input;
  output = bytes_for row.output;
  feature = bytes_for row.feature;
}

-- The fault of an item by the rows in front of it.
abbrev pub fault_in : State → List Report → ℕ → Item → Option ItemFault
fault_in s rows place item = fault_of s (ids_in rows) (bits_among s.globals.id rows) place item

-- A fault, or else a result.
abbrev pub fault_or : Option ItemFault → Result (List ReportLen) ItemFault → Result (List ReportLen) ItemFault
fault_or (Some fault) result = Err fault
fault_or None result = result

-- The result of a pass over the items that are left, by the state and the rows in front of them.
abbrev pub pass : State → List Report → Items → Result (List ReportLen) ItemFault
pass s rows (Has place prefix bytes rest) =
    fault_or (fault_in s rows place (meaning prefix bytes))
    (pass (after s (meaning prefix bytes)) (rows_after s (meaning prefix bytes) rows) rest)
pass s rows (Ends place) = fault_or (fault_if (not (s.open_collections == 0)) (Nest place)) (Ok (map length_in rows))
pass s rows (Stops fault) = Err fault

-- A call tells a fault where there is one.
abbrev pub TellsFault : Result Unit ItemFault → Option ItemFault → Type 0
TellsFault (Ok _) fault = fault ≡ None
TellsFault (Err told) fault = fault ≡ Some told
