-- A device without classes and without endpoints meets what the laws ask of a world.
use Rattle.std.proofs.Common.{◌≡◌, ℕ, Bool, true, false, eqb, refl, arith, sym, ◌∙◌}
use Rattle.std.specs.Prelude.{List, ◌&&◌, position}
use Rattle.std.specs.List.{IsDistinct, list_any}
use Rattle.descriptor_row.specs.declared.descriptor.Descriptor.{Descriptor}
use Rattle.descriptor_row.specs.Row.{row_of}
use Rattle.descriptor_row.specs.Kinds.{is_interface, left_of, following_place}
use Rattle.usb_descriptor.specs.declared.limits.EpLimits.{EpLimits}
use Rattle.usb_descriptor.specs.Set.{endpoints_of, has_endpoint, is_endpoint_at}
use Rattle.usb_descriptor.specs.Served.{AreServed}
use Rattle.device_laws.specs.World.{IsOfSet, bare}
use Rattle.device_laws.specs.Examples.{plain}

any_limits : EpLimits
any_limits = record { in_top = 15; out_top = 15; report_known = false }

plain_is_served : AreServed any_limits (endpoints_of plain.config)
unfolding IsDistinct
plain_is_served = record { distinct = tt; each = tt; few = omega arith }

-- its row, with interface 0 found or not, has no endpoint behind it
abbrev plain_row : List Descriptor
plain_row = left_of (row_of plain.config)

has_none_behind : (a : ℕ) (found : Bool) → list_any (is_endpoint_at a) (following_place (position (λ d. is_interface d && found) plain_row) plain_row) ≡ false
has_none_behind a true = refl
has_none_behind a false = refl

has_none : (n a : ℕ) → has_endpoint plain.config n a ≡ false
has_none n a = has_none_behind a (eqb 0 n)

pub plain_is_of_set : IsOfSet (bare plain)
plain_is_of_set = record {
  limits = any_limits;
  served = plain_is_served;
  grouped = λ n a h. let e : true ≡ false = sym h ∙ has_none n a in absurd (cc (e));
}
