use Rattle.usb_text.proofs.Events.{none_told}
use Rattle.usb_text.proofs.reading.read_bus.Goals as goal

pub returns-clause-none : goal.returns-clause-none
returns-clause-none c = none_told c.args.line.now c.event_of.result c.event_of.ensures
