-- What a call that isn't handed the rings keeps.
use Rattle.std.specs.Prelude.{◌≡◌}
use Rattle.dwc2_regs.specs.declared.access.TheConstants.{FS4}
use Rattle.device_rings.specs.Rings.{Rings}
use Rattle.device_relation.specs.Software.{Joint}
use Rattle.device_relation.specs.PipeRelation.{IsSound}
use Rattle.device_relation.specs.Port.{Port, port_of}

-- for every contents of the rings with which controller and software agreed, they agree again, and are the device that the
-- call makes of the one that they were
abbrev pub Keeps : (Port → Port) → Joint → Joint → Type 0
Keeps f old new = (r : Rings) → IsSound FS4 old r → (IsSound FS4 new r) × (port_of new r ≡ f (port_of old r))
