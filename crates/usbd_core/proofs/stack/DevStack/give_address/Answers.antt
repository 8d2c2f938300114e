-- The status stage that brings an address waits.
use Rattle.std.proofs.Common.{refl, ap, sym, ◌∙◌, subst}
use Rattle.device_owners.specs.Device.{Addressing}
use Rattle.dwc2_regs.specs.declared.access.TheConstants.{FS4}
use Rattle.device_table.specs.Bank.{Bank}
use Rattle.device_relation.specs.Port.{Port, port_of, addressed}
use Rattle.dwc2_device.specs.Driver.{joint, Spends}
use Rattle.usbd_core.specs.Device.{Device, Fits, transfer_of}
use Rattle.usbd_core.specs.Task.{Needs}
use Rattle.usbd_core.proofs.Fits.{leaves_by, address_fits}
use Rattle.usbd_core.proofs.stack.DevStack.give_address.Goals as goal

pub returns-clause-leaves : goal.returns-clause-leaves
returns-clause-leaves g c =
    let s = c.self.inside in
    let a = c.args.address in
    let needs = subst (Needs FS4 2) (sym c.self.view_is) c.requires.needs in
    let new : Device = record { set = s.set; port = c.bring.new.port; rings = s.rings; state = s.state; finished = s.finished; request = s.request; transfer = Addressing a } in
    leaves_by _ c.args.self.now new 2 c.self.view_is c.bring.ensures.sound
    (subst (λ (p : Port). Fits FS4 s.set p s.state (Addressing a)) (sym (c.bring.ensures.port ∙ ap (λ (p : Port). addressed p a) c.start.ensures.port))
    (address_fits s.set (port_of (joint s.port) s.rings) c.empty.result a s.state (transfer_of s.transfer s.stage) needs.0.1))
    (subst (λ (b : Bank). Spends 2 s.port.bank b) (sym c.bring.ensures.bank) c.start.ensures.spends) refl
    (λ start k. c.bring.ensures.order start (c.start.ensures.order start k)) refl
