use Rattle.usb_edge.proofs.DiskLaws.{writes, attaches, leaves}
use Rattle.usb_edge.proofs.laws.slots_are_apart.Goals as goal

pub returns-clause-writes : goal.returns-clause-writes
returns-clause-writes c = writes

pub returns-clause-attaches : goal.returns-clause-attaches
returns-clause-attaches c = attaches

pub returns-clause-leaves : goal.returns-clause-leaves
returns-clause-leaves c = leaves
