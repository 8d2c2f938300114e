-- Sessions: what SET_CONFIGURATION opens (USB 2.0, 9.4.7).
use Rattle.std.specs.Prelude.{List, [], Bool, if◌then◌else◌}
use Rattle.usb_descriptor.specs.declared.endpoint.Endpoint.{Endpoint}
use Rattle.usb_descriptor.specs.Set.{Set, endpoints_of}

-- the endpoints that a new session opens; where none begins, all are closed
abbrev pub opened : Set → Bool → List Endpoint
opened set begins = if begins then endpoints_of set.config else []
