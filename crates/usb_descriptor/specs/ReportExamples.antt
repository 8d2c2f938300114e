-- The verdict on sets with a HID interface, and their HID descriptors, worked by hand from HID 1.11, 6.2.1 and 6.2.2.
use Rattle.std.specs.Prelude.{◌≡◌, ℕ, List, [], ◌∷◌, true, false, Option, Some, None}
use Rattle.hid_items.specs.Worked.{keyboard}
use Rattle.descriptor_groups.specs.Examples.{data_first}
use Rattle.descriptor_groups.specs.ReportExamples.{keyboard_config, two_named, no_field, with_in, two_hids, field_of_id}
use Rattle.usb_descriptor.specs.declared.limits.EpLimits.{EpLimits}
use Rattle.usb_descriptor.specs.declared.limits.SetFault.{SetFault}
use Rattle.usb_descriptor.specs.Verdict.{verdict}
use Rattle.usb_descriptor.specs.Set.{hid_bytes}

-- a device descriptor (USB 2.0, 9.6.1)
abbrev pub device : List ℕ
device = 18 ∷ 1 ∷ 0 ∷ 2 ∷ 0 ∷ 0 ∷ 0 ∷ 64 ∷ 254 ∷ 202 ∷ 4 ∷ 64 ∷ 0 ∷ 1 ∷ 0 ∷ 0 ∷ 0 ∷ 1 ∷ []

-- three endpoints in each direction; report descriptors are known, or they aren't
abbrev pub known : EpLimits
known = record { in_top = 3; out_top = 3; report_known = true }

abbrev pub unknown : EpLimits
unknown = record { in_top = 3; out_top = 3; report_known = false }

-- a HID interface whose IN endpoint has 8 bytes, before mass storage with one endpoint; and HID without its endpoint
abbrev pub hid_and_half_storage : List ℕ
hid_and_half_storage =
    9 ∷ 2 ∷ 50 ∷ 0 ∷ 2 ∷ 1 ∷ 0 ∷ 128 ∷ 50
    ∷ 9 ∷ 4 ∷ 0 ∷ 0 ∷ 1 ∷ 3 ∷ 0 ∷ 0 ∷ 0
    ∷ 9 ∷ 33 ∷ 17 ∷ 1 ∷ 0 ∷ 1 ∷ 34 ∷ 4 ∷ 0
    ∷ 7 ∷ 5 ∷ 0x81 ∷ 3 ∷ 8 ∷ 0 ∷ 10
    ∷ 9 ∷ 4 ∷ 1 ∷ 0 ∷ 1 ∷ 8 ∷ 6 ∷ 80 ∷ 0
    ∷ 7 ∷ 5 ∷ 0x01 ∷ 2 ∷ 64 ∷ 0 ∷ 0 ∷ []

abbrev pub no_endpoint : List ℕ
no_endpoint =
    9 ∷ 2 ∷ 27 ∷ 0 ∷ 1 ∷ 1 ∷ 0 ∷ 128 ∷ 50
    ∷ 9 ∷ 4 ∷ 0 ∷ 0 ∷ 0 ∷ 3 ∷ 0 ∷ 0 ∷ 0
    ∷ 9 ∷ 33 ∷ 17 ∷ 1 ∷ 0 ∷ 1 ∷ 34 ∷ 4 ∷ 0 ∷ []

-- an alternate setting of class 03, which is passed over
abbrev pub hid_aside : List ℕ
hid_aside =
    9 ∷ 2 ∷ 27 ∷ 0 ∷ 1 ∷ 1 ∷ 0 ∷ 128 ∷ 50
    ∷ 9 ∷ 4 ∷ 0 ∷ 0 ∷ 0 ∷ 255 ∷ 0 ∷ 0 ∷ 0
    ∷ 9 ∷ 4 ∷ 0 ∷ 1 ∷ 0 ∷ 3 ∷ 0 ∷ 0 ∷ 0 ∷ []

-- the verdict on a configuration and a report descriptor
abbrev pub judged : List ℕ → Option (List ℕ) → EpLimits → Option SetFault
judged config report limits = verdict device config report limits

abbrev pub broken : ℕ → Option SetFault
broken rule = Some (record { rule = rule; at = 0 })

pub record ReportSetsWorked : Type 0 where
  pub keyboard_taken : judged keyboard_config (Some keyboard) known ≡ None
  pub two_named_taken : judged two_named (Some no_field) known ≡ None
  pub missing : judged two_named None known ≡ broken 17
  pub not_wanted : judged data_first (Some no_field) known ≡ broken 17
  pub other_length : judged (with_in 5) (Some no_field) known ≡ broken 17
  pub too_long : judged (with_in 8) (Some (field_of_id 0x81 8)) known ≡ broken 17
  pub passed_over : judged hid_aside None known ≡ None
  -- where report descriptors aren't known, nothing is asked of one
  pub unknown_missing : judged two_named None unknown ≡ None
  pub unknown_other : judged (with_in 5) (Some no_field) unknown ≡ None
  pub unknown_not_wanted : judged data_first (Some no_field) unknown ≡ None
  -- the lowest rule is told
  pub before_pairs : judged hid_and_half_storage None known ≡ broken 17
  pub pairs : judged hid_and_half_storage (Some no_field) known ≡ broken 18
  pub behind_groups : judged no_endpoint None known ≡ broken 16
  -- the HID descriptor is whole: 12 bytes where it names two descriptors
  pub two_named_bytes : hid_bytes two_named ≡ Some (12 ∷ 33 ∷ 17 ∷ 1 ∷ 0 ∷ 2 ∷ 34 ∷ 4 ∷ 0 ∷ 35 ∷ 4 ∷ 0 ∷ [])
  pub keyboard_bytes : hid_bytes keyboard_config ≡ Some (9 ∷ 33 ∷ 1 ∷ 1 ∷ 0 ∷ 1 ∷ 34 ∷ 63 ∷ 0 ∷ [])
  pub two_hids_bytes : hid_bytes two_hids ≡ Some (9 ∷ 33 ∷ 17 ∷ 1 ∷ 0 ∷ 1 ∷ 34 ∷ 6 ∷ 0 ∷ [])
  pub serial_bytes : hid_bytes data_first ≡ None
