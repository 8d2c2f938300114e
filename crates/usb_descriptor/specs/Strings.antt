-- The strings of a set: USB 2.0, 9.6.7.
use Rattle.std.specs.Prelude.{ℕ, ◌+◌, ◌≤◌, List, [], ◌∷◌, Bool, ◌==◌, length, Option, Some, None, if◌then◌else◌, find}
use Rattle.std.specs.Option.{option_map}
use Rattle.usb_descriptor.specs.declared.strings.StringPart.{StringPart}
use Rattle.usb_descriptor.specs.declared.strings.StringDescriptor.{StringDescriptor}

-- indices go up from `least` on
abbrev pub Ascend : ℕ → List StringPart → Type 0
Ascend least [] = Unit {0}
Ascend least (part ∷ parts) = (least ≤ part.index) × Ascend (part.index + 1) parts

-- bLength, bDescriptorType and the text
abbrev pub string_descriptor : StringPart → StringDescriptor
string_descriptor part = record {
  index = part.index;
  bytes = record { items = (2 + length part.body.items) ∷ 3 ∷ part.body.items };
}

-- string 0, where there is a string: the codes of the languages, which is English (United States) alone
abbrev pub languages : List ℕ
languages = 4 ∷ 3 ∷ 9 ∷ 4 ∷ []

abbrev pub has_index : ℕ → StringDescriptor → Bool
has_index index s = s.index == index

-- the descriptor of a string
abbrev pub string_of : List StringDescriptor → ℕ → Option (List ℕ)
string_of strings index =
    if index == 0 then (if length strings == 0 then None else Some languages)
    else option_map (λ s. s.bytes.items) (find (has_index index) strings)
