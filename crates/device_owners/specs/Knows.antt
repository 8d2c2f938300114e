-- Which owners a machine knows.
use Rattle.std.specs.Prelude.{Bool, ◌||◌, true}
use Rattle.usb_packet.specs.declared.bus.Owner.{Owner}
use Rattle.usb_descriptor.specs.Set.{is_core, same_owner}

-- the whole device knows all, and the machine of one owner that one and the core
abbrev pub knows_all : Owner → Bool
knows_all o = true

abbrev pub knows_own : Owner → Owner → Bool
knows_own own o = is_core o || same_owner own o
