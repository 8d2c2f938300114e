use Rattle.usb_descriptor.proofs.laws.endpoints_are_served.Goals as goal

pub returns : goal.returns
returns c = c.acceptance_serves.ensures c.args.limits c.requires
