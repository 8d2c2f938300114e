-- The lengths of a descriptor's reports, as sums over its fields (HID 1.11, 6.2.2.5 and 6.2.2.7), and its
-- faults. The limits of 8 ids, 4 pushed states and 512 bits are this library's own.
use Rattle.std.specs.Prelude.{◌≡◌, ◌≢◌, ◌≤◌, All, ℕ, ◌+◌, ◌*◌, ◌/◌, ◌==◌, ◌&&◌, ◌||◌, not, Bool, true, false, List, [], ◌∷◌, ◌++◌, length, map, filter, sum_by, if◌then◌else◌, nat_lt, nat_le, Option, Some, None, Result, Ok, Err}
use Rattle.std.specs.List.{list_any, AllPairs}
use Rattle.hid_items.specs.declared.ItemFault.{ItemFault}
use Rattle.hid_items.specs.declared.ItemFault.TheVariants.{Stack, Nest, Ids, Size}
use Rattle.hid_items.specs.declared.ReportLen.{ReportLen}
use Rattle.hid_items.specs.declared.item.Item.{Item}
use Rattle.hid_items.specs.declared.item.Item.TheVariants.{Field, EndCollection, ReportId, Push, Pop}
use Rattle.hid_items.specs.declared.item.ReportKind.{ReportKind}
use Rattle.hid_items.specs.declared.item.ReportKind.TheVariants.{Input, Output, Feature}
use Rattle.hid_items.specs.Item.{Items, Has, Ends, Stops, items_of, meaning}
use Rattle.hid_items.specs.State.{State, start, after}

-- What an Input, Output or Feature adds to the report of the id in force.
pub record DataField : Type 0 where
  pub kind : ReportKind
  pub id : ℕ
  pub bits : ℕ

-- The field that an item adds, if it adds one: as many bits as Report Size times Report Count.
abbrev pub field_of : State → Item → List DataField
field_of s (Field kind) = record { kind = kind; id = s.globals.id; bits = s.globals.size * s.globals.count } ∷ []
field_of s _ = []

-- All fields of some items, in their order.
abbrev pub fields_of : State → Items → List DataField
fields_of s (Has place prefix bytes rest) =
    field_of s (meaning prefix bytes) ++ fields_of (after s (meaning prefix bytes)) rest
fields_of s (Ends place) = []
fields_of s (Stops fault) = []

-- Whether two kinds are one.
abbrev pub same_kind : ReportKind → ReportKind → Bool
same_kind Input Input = true
same_kind Output Output = true
same_kind Feature Feature = true
same_kind _ _ = false

-- The bits of a report: the sum over the fields of its kind and id.
abbrev pub bits_of : ReportKind → ℕ → List DataField → ℕ
bits_of kind id fields = sum_by (λ f. f.bits) (filter (λ f. same_kind f.kind kind && (f.id == id)) fields)

-- Some ids with one more at the end, unless it is there already.
abbrev pub with_id : List ℕ → ℕ → List ℕ
with_id [] id = id ∷ []
with_id (x ∷ xs) id = if x == id then x ∷ xs else x ∷ with_id xs id

-- Some ids, and then those of fields, in the order in which they first get one.
abbrev pub ids_from : List ℕ → List DataField → List ℕ
ids_from ids [] = ids
ids_from ids (f ∷ fs) = ids_from (with_id ids f.id) fs

-- The ids of some fields, in the order in which they first get one.
abbrev pub ids_of : List DataField → List ℕ
ids_of fields = ids_from [] fields

-- Bits in bytes, rounded up.
abbrev pub bytes_for : ℕ → ℕ
bytes_for bits = (bits + 7) / 8

-- The lengths of the reports that some fields make up.
abbrev pub lengths_by_id : List DataField → List ReportLen
lengths_by_id fields = map (λ id. record {
  id = id;
  input = bytes_for (bits_of Input id fields);
  output = bytes_for (bits_of Output id fields);
  feature = bytes_for (bits_of Feature id fields);
}) (ids_of fields)

-- A fault where a test says so.
abbrev pub fault_if : Bool → ItemFault → Option ItemFault
fault_if true fault = Some fault
fault_if false fault = None

-- The first fault of two.
abbrev pub or_else : Option ItemFault → Option ItemFault → Option ItemFault
or_else (Some fault) later = Some fault
or_else None later = later

-- How many ids a descriptor may have.
abbrev pub id_limit : ℕ
id_limit = 8

-- How many states may be pushed at one time.
abbrev pub push_limit : ℕ
push_limit = 4

-- How many bits a report may have, with its id.
abbrev pub bit_limit : ℕ
bit_limit = 512

-- The bits that a report's id takes in front of it.
abbrev pub id_bits : ℕ → ℕ
id_bits id = if id == 0 then 0 else 8

-- Whether a field may not have an id, by the ids that have fields already: it would be one too many, or
-- it is no id where others have one.
abbrev pub refuses_field : ℕ → List ℕ → Bool
refuses_field id ids =
    (not (list_any (λ x. x == id) ids) && nat_le id_limit (length ids))
    || ((id == 0) && list_any (λ x. not (x == 0)) ids)

-- Whether a Report ID may not have a value: it must be from 1 to 255, with no field before it that has none.
abbrev pub refuses_id : ℕ → List ℕ → Bool
refuses_id value ids = (value == 0) || nat_lt 255 value || list_any (λ x. x == 0) ids

-- The fault of an item at a place, by the state in front of it, the ids that have fields by then, and the
-- bits by then of the reports of the id in force. Where two stand the Ids come first.
abbrev pub fault_of : State → List ℕ → (ReportKind → ℕ) → ℕ → Item → Option ItemFault
fault_of s ids bits place (Field kind) =
    or_else (fault_if (refuses_field s.globals.id ids) (Ids place))
    (fault_if (nat_lt bit_limit (id_bits s.globals.id + bits kind + s.globals.size * s.globals.count)) (Size place))
fault_of s ids bits place (ReportId value) = fault_if (refuses_id value ids) (Ids place)
fault_of s ids bits place Push = fault_if (nat_le push_limit (length s.pushed)) (Stack place)
fault_of s ids bits place Pop = fault_if (length s.pushed == 0) (Stack place)
fault_of s ids bits place EndCollection = fault_if (s.open_collections == 0) (Nest place)
fault_of s ids bits place _ = None

-- The first fault of some items, by the state and the fields in front of them. At the end no collection
-- may be open.
abbrev pub first_fault : State → List DataField → Items → Option ItemFault
first_fault s before (Has place prefix bytes rest) =
    or_else (fault_of s (ids_of before) (λ kind. bits_of kind s.globals.id before) place (meaning prefix bytes))
    (first_fault (after s (meaning prefix bytes)) (before ++ field_of s (meaning prefix bytes)) rest)
first_fault s before (Ends place) = fault_if (not (s.open_collections == 0)) (Nest place)
first_fault s before (Stops fault) = Some fault

-- A fault, or else lengths.
abbrev pub unless_fault : Option ItemFault → List ReportLen → Result (List ReportLen) ItemFault
unless_fault None lengths = Ok lengths
unless_fault (Some fault) lengths = Err fault

-- The report lengths that items describe: the first fault, or else the lengths of the reports that all
-- fields make up.
abbrev pub lengths_among : Items → Result (List ReportLen) ItemFault
lengths_among items = unless_fault (first_fault start [] items) (lengths_by_id (fields_of start items))

-- The report lengths of a descriptor.
unfoldable pub lengths_of : List ℕ → Result (List ReportLen) ItemFault
lengths_of bytes = lengths_among (items_of bytes)

-- The bytes that a report's id takes in front of it.
abbrev pub id_bytes : ℕ → ℕ
id_bytes id = if id == 0 then 0 else 1

-- Each report of an id has at most 64 bytes with the id's own.
abbrev pub FitsPacket : ReportLen → Type 0
FitsPacket l = (id_bytes l.id + l.input ≤ 64) × (id_bytes l.id + l.output ≤ 64) × (id_bytes l.id + l.feature ≤ 64)

-- What holds of each list of lengths: no id comes twice, reports without an id stand alone, and each report
-- fits a packet of 64 bytes with the byte of its id.
pub record AreReportLengths (lengths : List ReportLen) : Type 0 where
  pub each_id_once : AllPairs (λ (l m : ReportLen). l.id ≢ m.id) lengths
  pub no_id_alone : All (λ (l : ReportLen). l.id ≡ 0 → lengths ≡ l ∷ []) lengths
  pub each_fits : All FitsPacket lengths
