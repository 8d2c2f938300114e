-- Bytes are taken from the ring of the pipe.
use Rattle.std.proofs.Common.{◌∙◌, ap, length, drop}
use Rattle.device_relation.specs.Port.{port_of}
use Rattle.dwc2_device.specs.Driver.{joint}
use Rattle.device_rings.specs.Rings.{ring_at}
use Rattle.device_rings.specs.Capacities.{capacities_of}
use Rattle.device_rings.proofs.Capacities.{with_at}
use Rattle.usbd_core.proofs.Shows.{out_from, read_ends, given}
use Rattle.usbd_core.proofs.calls.read.Goals as goal

pub returns-clause-bytes : goal.returns-clause-bytes
returns-clause-bytes g c = given (joint c.args.port.now) c.args.rings.now c.args.number c.read.result c.args.buf.now c.read.new.buf c.requires.sound c.requires.receiver.to c.read.ensures.count c.read.ensures.copied

pub returns-clause-port : goal.returns-clause-port
returns-clause-port g c = (read_ends (joint c.args.port.now) c.args.rings.now c.read.new.self c.args.number (length c.args.buf.now) c.read.result c.requires.sound (out_from (port_of (joint c.args.port.now) c.args.rings.now).pipes c.args.number c.requires.open) c.requires.receiver.to c.read.ensures.count c.read.ensures.removed).port

pub returns-clause-sound : goal.returns-clause-sound
returns-clause-sound g c = (read_ends (joint c.args.port.now) c.args.rings.now c.read.new.self c.args.number (length c.args.buf.now) c.read.result c.requires.sound (out_from (port_of (joint c.args.port.now) c.args.rings.now).pipes c.args.number c.requires.open) c.requires.receiver.to c.read.ensures.count c.read.ensures.removed).sound

pub returns-clause-capacities : goal.returns-clause-capacities
returns-clause-capacities g c = ap capacities_of c.read.ensures.removed ∙ with_at c.args.rings.now c.args.number (drop c.read.result (ring_at c.args.rings.now c.args.number).bytes)
