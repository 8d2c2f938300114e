-- Which descriptors belong to an alternate setting 0: USB 2.0, 9.5 and 9.6.5. What stands behind an interface descriptor, up to
-- the next one, belongs to it.
use Rattle.std.specs.Prelude.{◌≡◌, ℕ, List, [], ◌∷◌, ◌++◌, reverse, Bool, true, ◌==◌, if◌then◌else◌, Option, Some, None, find, map}
use Rattle.descriptor_row.specs.declared.descriptor.Descriptor.{Descriptor}
use Rattle.descriptor_row.specs.Row.{row_of, row_end, whole_at}
use Rattle.descriptor_row.specs.Kinds.{is_interface, setting, left_of}

-- the last interface of some descriptors, if they have one
abbrev pub last_interface : List Descriptor → Option Descriptor
last_interface ds = find is_interface (reverse ds)

-- it has alternate setting 0, or there is none
abbrev pub is_default : Option Descriptor → Bool
is_default None = true
is_default (Some d) = setting d == 0

-- of the descriptors behind a front those that are kept: each is judged by the last interface up to it, itself included
abbrev pub kept_behind : List Descriptor → List Descriptor → List Descriptor
kept_behind front [] = []
kept_behind front (d ∷ ds) =
    if is_default (last_interface (front ++ d ∷ [])) then d ∷ kept_behind (front ++ d ∷ []) ds
    else kept_behind (front ++ d ∷ []) ds

-- a configuration of two interfaces, the first in two alternate settings with an endpoint each and in the second one with a
-- descriptor of its class too, worked out by hand from 9.6.3 to 9.6.6: its row, and what is left of it
abbrev pub two_settings : List ℕ
two_settings =
    9 ∷ 2 ∷ 53 ∷ 0 ∷ 2 ∷ 1 ∷ 0 ∷ 128 ∷ 50
    ∷ 9 ∷ 4 ∷ 0 ∷ 0 ∷ 1 ∷ 8 ∷ 6 ∷ 80 ∷ 0
    ∷ 7 ∷ 5 ∷ 129 ∷ 2 ∷ 64 ∷ 0 ∷ 0
    ∷ 9 ∷ 4 ∷ 0 ∷ 1 ∷ 1 ∷ 8 ∷ 6 ∷ 80 ∷ 0
    ∷ 3 ∷ 36 ∷ 5
    ∷ 7 ∷ 5 ∷ 2 ∷ 3 ∷ 8 ∷ 1 ∷ 4
    ∷ 9 ∷ 4 ∷ 1 ∷ 0 ∷ 0 ∷ 255 ∷ 0 ∷ 0 ∷ 0 ∷ []

abbrev pub places : List Descriptor → List ℕ
places ds = map (λ (d : Descriptor). d.at) ds

pub record WorkedRow : Type 0 where
  pub row : places (row_of two_settings) ≡ 9 ∷ 18 ∷ 25 ∷ 34 ∷ 37 ∷ 44 ∷ []
  pub end : row_end two_settings ≡ 53
  pub whole : whole_at two_settings 34 ≡ Some (3 ∷ 36 ∷ 5 ∷ [])
  pub cut_short : whole_at (9 ∷ 33 ∷ 17 ∷ []) 0 ≡ None
  pub behind : whole_at two_settings 53 ≡ None
  pub left : places (left_of (row_of two_settings)) ≡ 9 ∷ 18 ∷ 44 ∷ []
