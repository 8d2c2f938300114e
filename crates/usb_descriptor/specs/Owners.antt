-- To whom interfaces and endpoints belong. Owners are told apart: a class never passes for another, and the core for none.
use Rattle.std.specs.Prelude.{◌≡◌, ℕ, List, Bool, true, false, Option, Some, is_some, find}
use Rattle.std.specs.List.{list_any}
use Rattle.usb_packet.specs.declared.bus.Owner.{Owner}
use Rattle.usb_packet.specs.declared.bus.Owner.TheVariants.{Core}
use Rattle.descriptor_row.specs.Row.{row_of}
use Rattle.descriptor_row.specs.Kinds.{left_of}
use Rattle.descriptor_groups.specs.Groups.{owner_by, lead_by}
use Rattle.usb_descriptor.specs.declared.endpoint.Endpoint.{Endpoint}
use Rattle.usb_descriptor.specs.declared.endpoint.Interface.{Interface}
use Rattle.usb_descriptor.specs.Set.{Set, endpoints_by, interfaces_by, is_numbered, is_addressed, has_endpoint, interface_owner, endpoint_owner, owner_of_interface, owner_of_endpoint, is_core, same_owner, belongs}

pub record AreToldApart : Type 0 where
  pub same : (o : Owner) → same_owner o o ≡ true
  pub apart : (a b : Owner) → same_owner a b ≡ true → a ≡ b
  pub core : (o : Owner) → is_core o ≡ same_owner Core o

-- the endpoints of an interface have its owner
abbrev pub AreGrouped : Set → Type 0
AreGrouped set = (n a : ℕ) → has_endpoint set.config n a ≡ true → owner_of_endpoint set.config a ≡ owner_of_interface set.config n

-- the endpoints and the interfaces of a configuration, where a test says which classes are built
abbrev pub endpoints_with : (Owner → Bool) → List ℕ → List Endpoint
endpoints_with built config = endpoints_by (owner_by built (left_of (row_of config))) (left_of (row_of config))

abbrev pub interfaces_with : (Owner → Bool) → List ℕ → List Interface
interfaces_with built config = interfaces_by (owner_by built (left_of (row_of config))) (left_of (row_of config))

abbrev pub interface_owner_with : (Owner → Bool) → List ℕ → ℕ → Owner
interface_owner_with built config n = interface_owner (find (is_numbered n) (interfaces_with built config))

-- so it is whichever classes are built
abbrev pub AreAlwaysGrouped : Set → Type 0
AreAlwaysGrouped set =
    (built : Owner → Bool) (n a : ℕ) → has_endpoint set.config n a ≡ true
    → endpoint_owner (find (is_addressed a) (endpoints_with built set.config)) ≡ interface_owner_with built set.config n

-- the number of the interface that stands for a class
abbrev pub interface_with : (Owner → Bool) → List ℕ → Owner → Option ℕ
interface_with built config class = lead_by built (left_of (row_of config)) class

-- The interface that stands for a class is the class's own, and each class that has an interface has that one, whichever classes
-- are built.
pub record AreLed (set : Set) (built : Owner → Bool) : Type 0 where
  pub own : (class : Owner) (n : ℕ) → interface_with built set.config class ≡ Some n → interface_owner_with built set.config n ≡ class
  pub there : (class : Owner) → is_core class ≡ false → list_any (belongs class) (interfaces_with built set.config) ≡ true
      → is_some (interface_with built set.config class) ≡ true
