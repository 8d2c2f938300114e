-- What the code's types stand for.
use Rattle.cdc_device_machine.specs.Coding.{Coding}
use Rattle.cdc_device.specs.declared.coding.LineCoding.{LineCoding}

abbrev pub view_of : LineCoding → Coding
view_of c = record { rate = c.rate; stop = c.stop; parity = c.parity; bits = c.bits }
