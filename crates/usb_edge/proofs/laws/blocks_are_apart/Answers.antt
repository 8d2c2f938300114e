use Rattle.usb_edge.proofs.DiskLaws.{whole, read, others, beside}
use Rattle.usb_edge.proofs.laws.blocks_are_apart.Goals as goal

pub returns-clause-whole : goal.returns-clause-whole
returns-clause-whole c = whole

pub returns-clause-written : goal.returns-clause-written
returns-clause-written c = read

pub returns-clause-others : goal.returns-clause-others
returns-clause-others c = others

pub returns-clause-beside : goal.returns-clause-beside
returns-clause-beside c = beside
