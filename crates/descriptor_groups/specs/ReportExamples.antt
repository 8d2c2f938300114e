-- Configurations with a HID interface and report descriptors, worked by hand: the keyboard of HID 1.11, E.1 to E.6, and small
-- ones from 5.6, 6.2.1 and 6.2.2.
use Rattle.std.specs.Prelude.{◌≡◌, ℕ, ◌/◌, ◌%◌, List, [], ◌∷◌, Bool, true, false, Option, Some, None}
use Rattle.std.specs.Option.{option_map}
use Rattle.hid_items.specs.Worked.{keyboard}
use Rattle.descriptor_groups.specs.Reports.{hid_descriptor, has_wrong_report}
use Rattle.descriptor_groups.specs.Examples.{rest, data_first}

-- the keyboard: its configuration (E.2), interface (E.3), HID descriptor of 63 bytes of report descriptor (E.4) and endpoint
-- (E.5)
abbrev pub keyboard_config : List ℕ
keyboard_config =
    9 ∷ 2 ∷ 34 ∷ 0 ∷ 1 ∷ 1 ∷ 0 ∷ 0xa0 ∷ 50
    ∷ 9 ∷ 4 ∷ 0 ∷ 0 ∷ 1 ∷ 3 ∷ 1 ∷ 1 ∷ 0
    ∷ 9 ∷ 33 ∷ 1 ∷ 1 ∷ 0 ∷ 1 ∷ 34 ∷ 63 ∷ 0
    ∷ 7 ∷ 5 ∷ 0x81 ∷ 3 ∷ 8 ∷ 0 ∷ 10 ∷ []

-- a HID descriptor of 12 bytes, which names a report descriptor of 4 bytes and a physical one, type 23 (6.2.1)
abbrev pub two_named : List ℕ
two_named =
    9 ∷ 2 ∷ 37 ∷ 0 ∷ 1 ∷ 1 ∷ 0 ∷ 128 ∷ 50
    ∷ 9 ∷ 4 ∷ 0 ∷ 0 ∷ 1 ∷ 3 ∷ 0 ∷ 0 ∷ 0
    ∷ 12 ∷ 33 ∷ 17 ∷ 1 ∷ 0 ∷ 2 ∷ 34 ∷ 4 ∷ 0 ∷ 35 ∷ 4 ∷ 0
    ∷ 7 ∷ 5 ∷ 0x81 ∷ 3 ∷ 8 ∷ 0 ∷ 10 ∷ []

-- a field of no report: a Report Size of 8 bits and a Report Count of 1
abbrev pub no_field : List ℕ
no_field = 0x75 ∷ 8 ∷ 0x95 ∷ 1 ∷ []

-- a HID interface whose report descriptor has so many bytes, with interrupt endpoints of 8 bytes: IN alone, and both
abbrev pub with_in : ℕ → List ℕ
with_in declared =
    9 ∷ 2 ∷ 34 ∷ 0 ∷ 1 ∷ 1 ∷ 0 ∷ 128 ∷ 50
    ∷ 9 ∷ 4 ∷ 0 ∷ 0 ∷ 1 ∷ 3 ∷ 0 ∷ 0 ∷ 0
    ∷ 9 ∷ 33 ∷ 17 ∷ 1 ∷ 0 ∷ 1 ∷ 34 ∷ declared % 256 ∷ declared / 256
    ∷ 7 ∷ 5 ∷ 0x81 ∷ 3 ∷ 8 ∷ 0 ∷ 10 ∷ []

abbrev pub with_both : ℕ → List ℕ
with_both declared =
    9 ∷ 2 ∷ 41 ∷ 0 ∷ 1 ∷ 1 ∷ 0 ∷ 128 ∷ 50
    ∷ 9 ∷ 4 ∷ 0 ∷ 0 ∷ 2 ∷ 3 ∷ 0 ∷ 0 ∷ 0
    ∷ 9 ∷ 33 ∷ 17 ∷ 1 ∷ 0 ∷ 1 ∷ 34 ∷ declared % 256 ∷ declared / 256
    ∷ 7 ∷ 5 ∷ 0x81 ∷ 3 ∷ 16 ∷ 0 ∷ 10
    ∷ 7 ∷ 5 ∷ 0x01 ∷ 3 ∷ 8 ∷ 0 ∷ 10 ∷ []

-- two HID interfaces: the first has two HID descriptors, of a physical descriptor and of 6 bytes of report descriptor, the second one
-- of 8 bytes and an endpoint of 1 byte
abbrev pub two_hids : List ℕ
two_hids =
    9 ∷ 2 ∷ 68 ∷ 0 ∷ 2 ∷ 1 ∷ 0 ∷ 128 ∷ 50
    ∷ 9 ∷ 4 ∷ 0 ∷ 0 ∷ 1 ∷ 3 ∷ 0 ∷ 0 ∷ 0
    ∷ 9 ∷ 33 ∷ 17 ∷ 1 ∷ 0 ∷ 1 ∷ 35 ∷ 8 ∷ 0
    ∷ 9 ∷ 33 ∷ 17 ∷ 1 ∷ 0 ∷ 1 ∷ 34 ∷ 6 ∷ 0
    ∷ 7 ∷ 5 ∷ 0x81 ∷ 3 ∷ 8 ∷ 0 ∷ 10
    ∷ 9 ∷ 4 ∷ 1 ∷ 0 ∷ 1 ∷ 3 ∷ 0 ∷ 0 ∷ 0
    ∷ 9 ∷ 33 ∷ 17 ∷ 1 ∷ 0 ∷ 1 ∷ 34 ∷ 8 ∷ 0
    ∷ 7 ∷ 5 ∷ 0x82 ∷ 3 ∷ 1 ∷ 0 ∷ 10 ∷ []

-- a report descriptor of one field of so many bytes, by its main item: Input is 81, Output 91, Feature b1 (6.2.2.4); without
-- an id, and with the id 1
abbrev pub field : ℕ → ℕ → List ℕ
field item bytes = 0x75 ∷ 8 ∷ 0x95 ∷ bytes ∷ item ∷ 2 ∷ []

abbrev pub field_of_id : ℕ → ℕ → List ℕ
field_of_id item bytes = 0x85 ∷ 1 ∷ field item bytes

-- an id with 7 bytes of input, and another one with so many
abbrev pub two_ids : ℕ → List ℕ
two_ids bytes = 0x75 ∷ 8 ∷ 0x85 ∷ 1 ∷ 0x95 ∷ 7 ∷ 0x81 ∷ 2 ∷ 0x85 ∷ 2 ∷ 0x95 ∷ bytes ∷ 0x81 ∷ 2 ∷ []

abbrev pub is_wrong : List ℕ → Option (List ℕ) → Bool
is_wrong config report = has_wrong_report (rest config) report

-- the place of the HID descriptor that counts
abbrev pub hid_place : List ℕ → Option ℕ
hid_place config = option_map (λ d. d.at) (hid_descriptor (rest config))

pub record ReportsWorked : Type 0 where
  -- given exactly where there is a HID interface
  pub keyboard_given : is_wrong keyboard_config (Some keyboard) ≡ false
  pub keyboard_missing : is_wrong keyboard_config None ≡ true
  pub serial_alone : is_wrong data_first None ≡ false
  pub serial_with_one : is_wrong data_first (Some no_field) ≡ true
  -- the declared length, of the first HID descriptor of a report descriptor
  pub two_named_given : is_wrong two_named (Some no_field) ≡ false
  pub one_more_declared : is_wrong (with_in 5) (Some no_field) ≡ true
  pub one_fewer_declared : is_wrong (with_in 3) (Some no_field) ≡ true
  pub high_byte_declared : is_wrong (with_in 260) (Some no_field) ≡ true
  pub first_of_two : is_wrong two_hids (Some (field 0x81 8)) ≡ false
  pub second_of_two : is_wrong two_hids (Some (field_of_id 0x81 1)) ≡ true
  -- its lengths can be told: no item is cut short
  pub cut_short : is_wrong (with_in 5) (Some (0x75 ∷ 8 ∷ 0x95 ∷ 1 ∷ 0x81 ∷ [])) ≡ true
  -- input reports, without and with an id, at an endpoint of 8 bytes
  pub input_of_8 : is_wrong (with_in 6) (Some (field 0x81 8)) ≡ false
  pub input_of_9 : is_wrong (with_in 6) (Some (field 0x81 9)) ≡ true
  pub input_of_7_and_id : is_wrong (with_in 8) (Some (field_of_id 0x81 7)) ≡ false
  pub input_of_8_and_id : is_wrong (with_in 8) (Some (field_of_id 0x81 8)) ≡ true
  pub second_id : is_wrong (with_in 14) (Some (two_ids 8)) ≡ true
  pub both_ids : is_wrong (with_in 14) (Some (two_ids 7)) ≡ false
  -- output reports, at an OUT endpoint of 8 bytes beside an IN endpoint of 16, and where there is none
  pub output_of_8 : is_wrong (with_both 6) (Some (field 0x91 8)) ≡ false
  pub output_of_9 : is_wrong (with_both 6) (Some (field 0x91 9)) ≡ true
  pub output_of_8_and_id : is_wrong (with_both 8) (Some (field_of_id 0x91 8)) ≡ true
  pub input_of_16 : is_wrong (with_both 6) (Some (field 0x81 16)) ≡ false
  pub output_of_9_alone : is_wrong (with_in 6) (Some (field 0x91 9)) ≡ false
  -- feature reports go over endpoint 0
  pub feature_of_64 : is_wrong (with_both 6) (Some (field 0xb1 64)) ≡ false
  -- where the HID descriptor stands
  pub two_named_at : hid_place two_named ≡ Some 18
  pub two_hids_at : hid_place two_hids ≡ Some 27
  pub serial_at : hid_place data_first ≡ None
