-- A descriptor is kept by the last interface up to it.
use Rattle.std.proofs.Common.{◌≡◌, ℕ, List, [], ◌∷◌, ◌++◌, Bool, true, false, Option, Some, None, refl, ap, sym}
use Rattle.std.specs.Prelude.{find, ◌==◌, if◌then◌else◌}
use Rattle.std.proofs.lemmas.List.{reverse-append}
use Rattle.descriptor_row.specs.declared.descriptor.Descriptor.{Descriptor}
use Rattle.descriptor_row.specs.Kinds.{is_interface, setting, setting_at, left_after, left_of}
use Rattle.descriptor_row.specs.Left.{last_interface, is_default, kept_behind}

-- the setting of an interface, 0 where there is none
abbrev setting_of : Option Descriptor → ℕ
setting_of None = 0
setting_of (Some d) = setting d

last_more : (front : List Descriptor) (d : Descriptor) → last_interface (front ++ d ∷ []) ≡ (if is_interface d then Some d else last_interface front)
last_more front d = ap (λ (ds : List Descriptor). find is_interface ds) (reverse-append front (d ∷ []))

-- the setting behind a front and one descriptor more, by what the front ends in
setting_more : (front : List Descriptor) (d : Descriptor) (b : Bool) → is_interface d ≡ b
    → setting_at (setting_of (last_interface front)) d ≡ setting_of (last_interface (front ++ d ∷ []))
setting_more front d true e = rw (last_more front d, e) refl
setting_more front d false e = rw (last_more front d, e) refl

-- setting 0 is the default, or that of no interface
default_is : (o : Option Descriptor) → is_default o ≡ (setting_of o == 0)
default_is None = refl
default_is (Some d) = refl

kept_is : (front rest : List Descriptor) → left_after (setting_of (last_interface front)) rest ≡ kept_behind front rest
kept_is front [] = refl
kept_is front (d ∷ ds) =
    let s : setting_at (setting_of (last_interface front)) d ≡ setting_of (last_interface (front ++ d ∷ [])) = setting_more front d (is_interface d) refl in
    let k : left_after (setting_of (last_interface (front ++ d ∷ []))) ds ≡ kept_behind (front ++ d ∷ []) ds = kept_is (front ++ d ∷ []) ds in
    rw (s, k, sym (default_is (last_interface (front ++ d ∷ [])))) refl

pub left_is_kept : (row : List Descriptor) → left_of row ≡ kept_behind [] row
left_is_kept row = kept_is [] row
