-- The reports of a device by type and id: their lengths, and what was sent of each (HID 1.11, 6.2.2.7 and 7.2.1).
use Rattle.std.specs.Prelude.{ℕ, ◌+◌, List, [], ◌∷◌, ◌++◌, Bool, true, false, not, ◌==◌, ◌&&◌, nat_le, length, replicate, Option, Some, None, if◌then◌else◌}
use Rattle.std.specs.List.{list_any}
use Rattle.std.specs.Option.{option_map}
use Rattle.hid_items.specs.declared.ReportLen.{ReportLen}
use Rattle.hid_items.specs.Lengths.{id_bytes}
use Rattle.hid_device_machine.specs.declared.reports.ReportType.{ReportType}
use Rattle.hid_device_machine.specs.declared.reports.ReportType.TheVariants.{Input, Output, Feature}
use Rattle.hid_device_machine.specs.declared.reports.IdReports.{IdReports}
use Rattle.hid_device_machine.specs.declared.reports.SetReport.{SetReport}

-- the type of a number, which is the high byte of wValue (7.2.1)
abbrev pub type_of : ℕ → Option ReportType
type_of n = if n == 1 then Some Input else (if n == 2 then Some Output else (if n == 3 then Some Feature else None))

abbrev pub type_number : ReportType → ℕ
type_number Input = 1
type_number Output = 2
type_number Feature = 3

-- whether two types are one
abbrev pub same_type : ReportType → ReportType → Bool
same_type Input Input = true
same_type Output Output = true
same_type Feature Feature = true
same_type _ _ = false

-- whether a host may set reports of a type: it has no say in what comes in (7.2.2)
abbrev pub may_be_set : ReportType → Bool
may_be_set Input = false
may_be_set Output = true
may_be_set Feature = true

-- the length of the report of a type, without the byte of its id
abbrev pub length_as : ReportType → ReportLen → ℕ
length_as Input lengths = lengths.input
length_as Output lengths = lengths.output
length_as Feature lengths = lengths.feature

-- that of a type and an id, 0 where there is no such report
abbrev pub length_in : List IdReports → ReportType → ℕ → ℕ
length_in [] t id = 0
length_in (row ∷ rows) t id = if row.lengths.id == id then length_as t row.lengths else length_in rows t id

abbrev pub has_report : List IdReports → ReportType → ℕ → Bool
has_report rows t id = nat_le 1 (length_in rows t id)

-- its bytes on the wire, the one of its id among them (5.6)
abbrev pub wire_size : List IdReports → ReportType → ℕ → ℕ
wire_size rows t id = id_bytes id + length_in rows t id

-- what stands in front of a report: its id, where reports have ids (5.6)
abbrev pub id_prefix : ℕ → List ℕ
id_prefix id = if id == 0 then [] else id ∷ []

-- a report of zeros
abbrev pub blank : List IdReports → ReportType → ℕ → List ℕ
blank rows t id = id_prefix id ++ replicate (length_in rows t id) 0

-- whether reports begin with their ids (6.2.2.7)
abbrev pub has_ids : List IdReports → Bool
has_ids rows = list_any (λ (row : IdReports). not (row.lengths.id == 0)) rows

abbrev pub first_byte : List ℕ → ℕ
first_byte [] = 0
first_byte (byte ∷ bytes) = byte

-- the id of an input report, by its bytes
abbrev pub id_of : List IdReports → List ℕ → ℕ
id_of rows bytes = if has_ids rows then first_byte bytes else 0

-- whether bytes have exactly the length of the input report of their id
abbrev pub is_input_report : List IdReports → List ℕ → Bool
is_input_report rows bytes =
    has_report rows Input (id_of rows bytes) && (length bytes == wire_size rows Input (id_of rows bytes))

-- no input report of these lengths was queued yet
abbrev pub fresh : ReportLen → IdReports
fresh lengths = record { lengths = lengths; last_input = None }

-- the input report of an id that was queued last
abbrev pub last_input : List IdReports → ℕ → Option (List ℕ)
last_input [] id = None
last_input (row ∷ rows) id = if row.lengths.id == id then option_map (λ r. r.items) row.last_input else last_input rows id

-- an input report was queued
abbrev pub with_input : ℕ → List ℕ → List IdReports → List IdReports
with_input id bytes [] = []
with_input id bytes (row ∷ rows) =
    if row.lengths.id == id
    then record row { last_input = Some (record { items = bytes }) } ∷ rows
    else row ∷ with_input id bytes rows

-- what the last SET_REPORT gave, where it has this type and id
abbrev pub last_set_as : Option SetReport → ReportType → ℕ → Option (List ℕ)
last_set_as None t id = None
last_set_as (Some report) t id =
    if same_type report.report_type t && (report.id == id) then Some report.bytes.items else None

-- bytes, or those where there are none
abbrev pub or_else : Option (List ℕ) → List ℕ → List ℕ
or_else (Some bytes) others = bytes
or_else None others = others
