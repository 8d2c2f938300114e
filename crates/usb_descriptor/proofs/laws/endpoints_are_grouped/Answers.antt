use Rattle.descriptor_groups.specs.Groups.{is_built}
use Rattle.usb_descriptor.proofs.Grouped.{are_grouped}
use Rattle.usb_descriptor.proofs.laws.endpoints_are_grouped.Goals as goal

pub returns-clause-built : goal.returns-clause-built
returns-clause-built c = λ limits accepted. are_grouped c.args.set.now limits accepted is_built

pub returns-clause-always : goal.returns-clause-always
returns-clause-always c = are_grouped c.args.set.now
