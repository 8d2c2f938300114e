-- XFRC is read.
use Rattle.std.proofs.Common.{◌∙◌, ap}
use Rattle.dwc2_regs.specs.declared.TheConstants.{DIEPINT_XFRC}
use Rattle.access_order.specs.Order.{is_set}
use Rattle.device_table.specs.Read.{value_of, read_value}
use Rattle.dwc2_device.proofs.InOrders.{found_goes, waits_goes}
use Rattle.dwc2_device.proofs.port.DevPort.find_in_ack.Goals as goal

pub returns-clause-found : goal.returns-clause-found
returns-clause-found g c h =
    let t = c.args.self.now.bank.table in
    let set = ap (λ register. is_set (value_of t register) DIEPINT_XFRC) c.diepint.ensures.named ∙ h in
    found_goes c.args.self.now c.read.new.self c.args.number c.diepint.result (read_value t c.diepint.result) c.requires.known c.diepint.ensures.value set
    c.read.ensures.joint c.read.ensures.told

pub returns-clause-none : goal.returns-clause-none
returns-clause-none g c =
    let t = c.args.self.now.bank.table in
    waits_goes c.args.self.now c.read.new.self c.args.number c.diepint.result (read_value t c.diepint.result) c.requires.known c.diepint.ensures.value c.read.ensures.joint c.read.ensures.told
