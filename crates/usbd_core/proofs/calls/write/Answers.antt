-- Bytes are queued in the ring of the pipe.
use Rattle.std.proofs.Common.{◌∙◌, ◌+◌, ◌++◌, ap, take}
use Rattle.dwc2_device.specs.Driver.{joint}
use Rattle.device_rings.specs.Rings.{ring_at}
use Rattle.device_rings.specs.Capacities.{capacities_of}
use Rattle.device_rings.proofs.Capacities.{with_at}
use Rattle.usbd_core.proofs.Shows.{took, queued}
use Rattle.usbd_core.proofs.calls.write.Goals as goal

pub returns-clause-took : goal.returns-clause-took
returns-clause-took g c = took (joint c.args.port.now) c.args.rings.now c.args.number c.write.result c.args.bytes.now c.requires.sound c.requires.sender c.requires.open c.write.ensures.count

pub returns-clause-port : goal.returns-clause-port
returns-clause-port g c = (queued (joint c.args.port.now) c.args.rings.now c.write.new.self c.args.number c.write.result c.args.bytes.now c.requires.sound c.requires.sender c.requires.open c.below.ensures c.write.ensures.count c.write.ensures.written).port

pub returns-clause-sound : goal.returns-clause-sound
returns-clause-sound g c = (queued (joint c.args.port.now) c.args.rings.now c.write.new.self c.args.number c.write.result c.args.bytes.now c.requires.sound c.requires.sender c.requires.open c.below.ensures c.write.ensures.count c.write.ensures.written).sound

pub returns-clause-capacities : goal.returns-clause-capacities
returns-clause-capacities g c = ap capacities_of c.write.ensures.written ∙ with_at c.args.rings.now (128 + c.args.number) ((ring_at c.args.rings.now (128 + c.args.number)).bytes ++ take c.write.result c.args.bytes.now)
