use Rattle.usb_descriptor.specs.Set.{endpoints_of}
use Rattle.usb_compose.proofs.PlanLemmas.{tops, room}
use Rattle.usb_compose.proofs.plan.fifo_plan.Goals as goal

pub returns-clause-room : goal.returns-clause-room
returns-clause-room c accepted =
    room c.args.profile (endpoints_of c.args.set.now.config) c.requires (c.acceptance_serves.ensures (tops c.args.profile) accepted)
