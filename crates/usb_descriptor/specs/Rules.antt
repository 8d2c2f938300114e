-- What each rule from the eighth on forbids of one descriptor. It stands in a row: the descriptors before
-- it, and those after it. All but `has_wrong_size` speak of the row without its passed-over parts.
-- A code of a class, a subclass, a protocol or a descriptor type is written as the number that it is.
use Rattle.std.specs.Prelude.{ℕ, ◌+◌, ◌/◌, ◌%◌, List, [], ◌∷◌, ◌++◌, Bool, false, not, ◌==◌, ◌&&◌, ◌||◌, nat_lt, Option, Some, None, if◌then◌else◌, count_by}
use Rattle.std.specs.List.{list_any}
use Rattle.descriptor_row.specs.declared.descriptor.Descriptor.{Descriptor}
use Rattle.usb_descriptor.specs.declared.limits.EpLimits.{EpLimits}
use Rattle.usb_descriptor.specs.declared.rule.Rule.{Rule}
use Rattle.usb_descriptor.specs.declared.rule.Rule.TheVariants as rule
use Rattle.descriptor_row.specs.Row.{byte, size, word}
use Rattle.descriptor_row.specs.Kinds.{is_interface, is_endpoint, is_association, number, claimed, address, is_in, endpoint_number, transfer, bulk, following}
use Rattle.descriptor_groups.specs.Parts.{has_wrong_serial, has_wrong_hid, has_wrong_pair}

-- the eighth: an interface has 9 bytes (USB 2.0, 9.6.5), an endpoint 7 (9.6.6), or 9 as the audio class
-- writes it, an association 8
abbrev pub has_wrong_size : Descriptor → Bool
has_wrong_size d =
    if is_interface d then not (size d == 9)
    else (if is_endpoint d then not (size d == 7) && not (size d == 9)
    else is_association d && not (size d == 8))

-- the ninth: an interface's number is how many interfaces come before it (9.6.5)
abbrev pub has_wrong_number : List Descriptor → Descriptor → Bool
has_wrong_number before d = is_interface d && not (number d == count_by is_interface before)

-- the tenth: an endpoint comes after an interface, and after an interface as many as it says (9.6.5)
abbrev pub has_wrong_count : List Descriptor → Descriptor → List Descriptor → Bool
has_wrong_count before d after =
    if is_endpoint d then not (list_any is_interface before)
    else is_interface d && not (count_by is_endpoint (following after) == claimed d)

-- an endpoint of an address
abbrev pub is_endpoint_at : ℕ → Descriptor → Bool
is_endpoint_at a e = is_endpoint e && address e == a

-- the eleventh: bits 6 to 4 of an endpoint's address are 0, its number isn't, no endpoint before it has
-- its address, and it is bulk or interrupt (9.6.6)
abbrev pub has_wrong_address : List Descriptor → Descriptor → Bool
has_wrong_address before d =
    is_endpoint d && (not (address d / 16 % 8 == 0) || (endpoint_number d == 0
    || (list_any (is_endpoint_at (address d)) before || nat_lt (transfer d) bulk)))

-- the twelfth: packets of 64 bytes for bulk, of 1 to 64 for interrupt (5.7.3, 5.8.3)
abbrev pub has_wrong_packets : Descriptor → Bool
has_wrong_packets d =
    is_endpoint d && (if transfer d == bulk then not (word d 4 == 64) else (word d 4 == 0) || nat_lt 64 (word d 4))

-- the thirteenth: no number above the highest that the controller has in that direction
abbrev pub has_wrong_top : EpLimits → Descriptor → Bool
has_wrong_top limits d =
    is_endpoint d && (if is_in d then nat_lt limits.in_top (endpoint_number d) else nat_lt limits.out_top (endpoint_number d))

-- the fourteenth: an association (bFirstInterface, bInterfaceCount) has one interface or more, each of them there
abbrev pub has_wrong_span : List Descriptor → Descriptor → Bool
has_wrong_span row d =
    is_association d && ((byte d 3 == 0) || nat_lt (count_by is_interface row) (byte d 2 + byte d 3))

-- whether a descriptor breaks a rule; the seventeenth is one of the whole set, which no descriptor breaks by itself
abbrev pub breaks : EpLimits → Rule → List Descriptor → List Descriptor → Descriptor → List Descriptor → Bool
breaks limits rule.Sizes row before d after = has_wrong_size d
breaks limits rule.Numbers row before d after = has_wrong_number before d
breaks limits rule.Counts row before d after = has_wrong_count before d after
breaks limits rule.Addresses row before d after = has_wrong_address before d
breaks limits rule.Packets row before d after = has_wrong_packets d
breaks limits rule.Tops row before d after = has_wrong_top limits d
breaks limits rule.Spans row before d after = has_wrong_span row d
breaks limits rule.Serial row before d after = has_wrong_serial row before d after
breaks limits rule.Hid row before d after = has_wrong_hid before d after
breaks limits rule.Reports row before d after = false
breaks limits rule.Pairs row before d after = has_wrong_pair before d after

-- the place of the first descriptor of a row that breaks a rule
abbrev pub first_from : (List Descriptor → Descriptor → List Descriptor → Bool) → List Descriptor → List Descriptor → Option ℕ
first_from test before [] = None
first_from test before (d ∷ after) = if test before d after then Some d.at else first_from test (before ++ d ∷ []) after

abbrev pub first_broken : EpLimits → Rule → List Descriptor → Option ℕ
first_broken limits rule row = first_from (breaks limits rule row) [] row
