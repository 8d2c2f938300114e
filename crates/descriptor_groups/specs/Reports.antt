-- What the seventeenth rule of a set asks of its report descriptor (HID 1.11, 5.6, 6.2.1 and 6.2.2): it is given exactly where
-- there is a HID interface, it has the length that the HID descriptor declares, the lengths of its reports can be told, and
-- each input and output report fits the endpoint that carries it.
use Rattle.std.specs.Prelude.{◌≡◌, ℕ, ◌+◌, ◌≤◌, ⊤, List, Bool, true, false, not, ◌==◌, ◌&&◌, ◌||◌, nat_le, length, Option, Some, None, Result, Ok, Err, position, find}
use Rattle.std.specs.List.{list_any, list_all, AllByRecursion}
use Rattle.hid_items.specs.declared.ReportLen.{ReportLen}
use Rattle.hid_items.specs.declared.ItemFault.{ItemFault}
use Rattle.hid_items.specs.Lengths.{lengths_of, id_bytes}
use Rattle.descriptor_row.specs.declared.descriptor.Descriptor.{Descriptor}
use Rattle.descriptor_row.specs.Row.{word}
use Rattle.descriptor_row.specs.Kinds.{interrupt, is_in_of, is_out_of, following_place}
use Rattle.descriptor_groups.specs.Parts.{is_hid, is_hid_descriptor}

-- what stands behind the first HID interface, up to the next interface
abbrev pub hid_part : List Descriptor → List Descriptor
hid_part row = following_place (position is_hid row) row

-- its HID descriptor: the first of a report descriptor with 1 to 512 bytes (6.2.1)
abbrev pub hid_descriptor : List Descriptor → Option Descriptor
hid_descriptor row = find is_hid_descriptor (hid_part row)

-- its interrupt IN endpoint, and its interrupt OUT endpoint where it has one (4.4)
abbrev pub report_in : List Descriptor → Option Descriptor
report_in row = find (is_in_of interrupt) (hid_part row)

abbrev pub report_out : List Descriptor → Option Descriptor
report_out row = find (is_out_of interrupt) (hid_part row)

-- wDescriptorLength of a HID descriptor, in bytes 7 and 8 (6.2.1)
abbrev pub declares : Option Descriptor → ℕ → Bool
declares None n = false
declares (Some d) n = word d 7 == n

-- A report of so many bytes, with the byte of its id in front where it has one (5.6), is no longer than the endpoint's
-- wMaxPacketSize (USB 2.0, 9.6.6). A report of no bytes isn't there, and one without an endpoint goes over endpoint 0 (4.4).
abbrev pub carries : Option Descriptor → ℕ → ℕ → Bool
carries None id bytes = true
carries (Some e) id bytes = (bytes == 0) || nat_le (id_bytes id + bytes) (word e 4)

-- the input and the output report of an id
abbrev pub are_carried : List Descriptor → ReportLen → Bool
are_carried row l = carries (report_in row) l.id l.input && carries (report_out row) l.id l.output

-- those of all ids, where the lengths can be told
abbrev pub all_carried : List Descriptor → Result (List ReportLen) ItemFault → Bool
all_carried row (Ok lengths) = list_all (are_carried row) lengths
all_carried row (Err fault) = false

-- Without a HID interface no HID descriptor declares a length.
abbrev pub is_report : List Descriptor → List ℕ → Bool
is_report row bytes = declares (hid_descriptor row) (length bytes) && all_carried row (lengths_of bytes)

-- the seventeenth
abbrev pub has_wrong_report : List Descriptor → Option (List ℕ) → Bool
has_wrong_report row None = list_any is_hid row
has_wrong_report row (Some bytes) = not (is_report row bytes)

-- the same in numbers: a report that is there fits its endpoint
abbrev pub IsCarried : Option Descriptor → ℕ → ℕ → Type 0
IsCarried None id bytes = ⊤
IsCarried (Some e) id bytes = 1 ≤ bytes → id_bytes id + bytes ≤ word e 4

abbrev pub AreCarried : List Descriptor → ReportLen → Type 0
AreCarried row l = IsCarried (report_in row) l.id l.input × IsCarried (report_out row) l.id l.output

-- the report descriptor of a row's first HID interface
pub record IsReportOf (row : List Descriptor) (bytes : List ℕ) : Type 0 where
  pub there : list_any is_hid row ≡ true
  pub declared : (d : Descriptor) × (hid_descriptor row ≡ Some d) × (word d 7 ≡ length bytes)
  pub carried : (lengths : List ReportLen) × (lengths_of bytes ≡ Ok lengths) × AllByRecursion (AreCarried row) lengths

-- A set without a report descriptor is right exactly where there is no HID interface; one with it exactly where it is that of
-- the first HID interface.
pub record ReportsJudged : Type 0 where
  pub missing : (row : List Descriptor) → has_wrong_report row None ≡ list_any is_hid row
  pub right : (row : List Descriptor) (bytes : List ℕ) → has_wrong_report row (Some bytes) ≡ false → IsReportOf row bytes
  pub only : (row : List Descriptor) (bytes : List ℕ) → IsReportOf row bytes → has_wrong_report row (Some bytes) ≡ false
