-- The end of the packet is popped, and XFRC is cleared.
use Rattle.std.proofs.Common.{sym, subst}
use Rattle.dwc2_device.specs.Standing.{EndsAt}
use Rattle.dwc2_device.proofs.OutSteps.{clears_end}
use Rattle.dwc2_device.proofs.port.DevPort.end_packet.Goals as goal

pub returns-clause-order : goal.returns-clause-order
returns-clause-order g c start k =
    clears_end c.pop.new.self c.clear_out_interrupts.new.self _ c.args.number c.xfrc.result c.requires.known c.xfrc.ensures c.clear_out_interrupts.ensures.joint c.clear_out_interrupts.ensures.told start
    (c.pop.ensures.ends c.args.number (subst (EndsAt c.args.number) (sym c.pop.ensures.value) c.requires.ends) start k)
