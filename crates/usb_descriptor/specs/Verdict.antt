-- The eighteen rules in their order, and the first that a set breaks.
use Rattle.std.specs.Prelude.{ℕ, List, [], ◌∷◌, Bool, not, ◌==◌, ◌&&◌, ◌||◌, nat_le, length, slice_index, Option, Some, None, is_some, if◌then◌else◌, count_by}
use Rattle.usb_packet.specs.Setup.{word_at}
use Rattle.descriptor_row.specs.declared.descriptor.Descriptor.{Descriptor}
use Rattle.usb_descriptor.specs.declared.limits.EpLimits.{EpLimits}
use Rattle.usb_descriptor.specs.declared.limits.SetFault.{SetFault}
use Rattle.usb_descriptor.specs.declared.rule.Rule.{Rule}
use Rattle.usb_descriptor.specs.declared.rule.Rule.TheVariants as rule
use Rattle.descriptor_row.specs.Row.{row_of, row_end}
use Rattle.descriptor_row.specs.Kinds.{is_interface, left_of}
use Rattle.descriptor_groups.specs.Reports.{has_wrong_report}
use Rattle.usb_descriptor.specs.Rules.{first_broken}

-- the fault of a rule that is broken as a whole, with the place 0; of one that a descriptor breaks, with its place
abbrev pub fault_if : ℕ → Bool → Option SetFault
fault_if rule broken = if broken then Some (record { rule = rule; at = 0 }) else None

abbrev pub fault_at : ℕ → Option ℕ → Option SetFault
fault_at rule None = None
fault_at rule (Some place) = Some (record { rule = rule; at = place })

-- the one of the lower rule
abbrev pub earlier : Option SetFault → Option SetFault → Option SetFault
earlier None later = later
earlier (Some fault) later = Some fault

-- 1: the device descriptor has 18 bytes, says so, and has type 1. 2: endpoint 0 has packets of 64 bytes.
-- 3: there is a configuration (USB 2.0, 9.6.1)
abbrev pub device_fault : List ℕ → Option SetFault
device_fault device =
    earlier (fault_if 1 (not ((length device == 18) && ((slice_index device 0 == 18) && (slice_index device 1 == 1)))))
    (earlier (fault_if 2 (not (slice_index device 7 == 64)))
    (fault_if 3 (slice_index device 17 == 0)))

-- 4: the configuration has 9 to 512 bytes, and its descriptor 9 and type 2. 5: wTotalLength is its length.
-- 6: bConfigurationValue isn't 0 (9.6.3)
abbrev pub config_fault : List ℕ → Option SetFault
config_fault config =
    earlier (fault_if 4 (not (nat_le 9 (length config) && (nat_le (length config) 512 && ((slice_index config 0 == 9) && (slice_index config 1 == 2))))))
    (earlier (fault_if 5 (not (word_at config 2 == length config)))
    (fault_if 6 (slice_index config 5 == 0)))

-- 7: the configuration is descriptors to its end
abbrev pub row_fault : List ℕ → Option SetFault
row_fault config = if row_end config == length config then None else Some (record { rule = 7; at = row_end config })

-- 8 to 18, of the row of a configuration and what is left of it. 9: bNumInterfaces (9.6.3) is how many
-- there are, too. 17: the report descriptor isn't the one that the set is to have.
abbrev pub rule_fault : EpLimits → List Descriptor → List Descriptor → ℕ → Bool → Rule → Option SetFault
rule_fault limits row left claimed wrong_report rule.Sizes = fault_at 8 (first_broken limits rule.Sizes row)
rule_fault limits row left claimed wrong_report rule.Numbers = fault_if 9 (is_some (first_broken limits rule.Numbers left) || not (count_by is_interface left == claimed))
rule_fault limits row left claimed wrong_report rule.Counts = fault_at 10 (first_broken limits rule.Counts left)
rule_fault limits row left claimed wrong_report rule.Addresses = fault_at 11 (first_broken limits rule.Addresses left)
rule_fault limits row left claimed wrong_report rule.Packets = fault_at 12 (first_broken limits rule.Packets left)
rule_fault limits row left claimed wrong_report rule.Tops = fault_at 13 (first_broken limits rule.Tops left)
rule_fault limits row left claimed wrong_report rule.Spans = fault_at 14 (first_broken limits rule.Spans left)
rule_fault limits row left claimed wrong_report rule.Serial = fault_if 15 (is_some (first_broken limits rule.Serial left))
rule_fault limits row left claimed wrong_report rule.Hid = fault_if 16 (is_some (first_broken limits rule.Hid left))
rule_fault limits row left claimed wrong_report rule.Reports = fault_if 17 wrong_report
rule_fault limits row left claimed wrong_report rule.Pairs = fault_if 18 (is_some (first_broken limits rule.Pairs left))

-- where report descriptors are known, a set's is judged; where they aren't, nothing is asked of it
abbrev pub has_bad_report : EpLimits → List Descriptor → Option (List ℕ) → Bool
has_bad_report limits left report = limits.report_known && has_wrong_report left report

abbrev pub rules : List Rule
rules = rule.Sizes ∷ rule.Numbers ∷ rule.Counts ∷ rule.Addresses ∷ rule.Packets ∷ rule.Tops ∷ rule.Spans ∷ rule.Serial
    ∷ rule.Hid ∷ rule.Reports ∷ rule.Pairs ∷ []

-- the fault of the first of some rules that is broken
abbrev pub first_fault : (Rule → Option SetFault) → List Rule → Option SetFault
first_fault fault [] = None
first_fault fault (rule ∷ rest) = earlier (fault rule) (first_fault fault rest)

-- the fault of the lowest rule that a set breaks; none where it is accepted
abbrev pub verdict : List ℕ → List ℕ → Option (List ℕ) → EpLimits → Option SetFault
verdict device config report limits =
    earlier (device_fault device) (earlier (config_fault config) (earlier (row_fault config)
    (first_fault (rule_fault limits (row_of config) (left_of (row_of config)) (slice_index config 4)
    (has_bad_report limits (left_of (row_of config)) report)) rules)))
