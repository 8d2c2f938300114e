-- A status stage waits.
use Rattle.std.proofs.Common.{false, refl, sym, subst}
use Rattle.device_machine.specs.declared.control.Side.TheVariants.{Wait}
use Rattle.device_owners.specs.Device.{Ending}
use Rattle.dwc2_regs.specs.declared.access.TheConstants.{FS4}
use Rattle.device_relation.specs.Port.{Port, port_of}
use Rattle.dwc2_device.specs.Driver.{joint}
use Rattle.usbd_core.specs.Device.{Device, Fits, transfer_of}
use Rattle.usbd_core.specs.Task.{Needs}
use Rattle.usbd_core.proofs.Fits.{leaves_by, side_fits}
use Rattle.usbd_core.proofs.stack.DevStack.give_status.Goals as goal

pub returns-clause-leaves : goal.returns-clause-leaves
returns-clause-leaves g c =
    let s = c.self.inside in
    let needs = subst (Needs FS4 2) (sym c.self.view_is) c.requires.needs in
    let new : Device = record { set = s.set; port = c.start.new.port; rings = s.rings; state = s.state; finished = s.finished; request = s.request; transfer = Ending } in
    leaves_by _ c.args.self.now new 2 c.self.view_is c.start.ensures.sound
    (subst (λ (p : Port). Fits FS4 s.set p s.state Ending) (sym c.start.ensures.port)
    (side_fits s.set (port_of (joint s.port) s.rings) (Wait c.empty.result false) s.state (transfer_of s.transfer s.stage) Ending needs.0.1 refl tt))
    c.start.ensures.spends refl c.start.ensures.order refl
