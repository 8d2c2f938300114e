-- The call keeps what holds of controller, software and rings.
use Rattle.std.proofs.Common.{◌-◌, refl, sym, ◌∙◌}
use Rattle.dwc2_device.specs.Driver.{joint}
use Rattle.dwc2_device.proofs.Sound.{IsOut, is_out, IsIn, is_in, open_at_out, open_at_in, open_out_keeps, open_in_keeps}
use Rattle.dwc2_device.proofs.InOrders.{none_closed}
use Rattle.dwc2_device.proofs.port.DevPort.open_ep.Goals as goal

pub returns-then-ep-lt-IN-clause-keeps : goal.returns-then-ep-lt-IN-clause-keeps
returns-then-ep-lt-IN-clause-keeps g c =
    let a = c.args.ep.now.addr in
    let j = joint c.args.self.now in
    let at : IsOut a = is_out a c.requires.numbered c.if-ep-lt-IN.true in
    open_out_keeps j (joint c.add_out.new.self) c.args.ep.now a refl at.from at.to c.requires.some c.requires.most
    (sym (open_at_out j.software a c.if-ep-lt-IN.true) ∙ c.requires.shut) c.add_out.ensures.joint

pub returns-else-ep-lt-IN-clause-keeps : goal.returns-else-ep-lt-IN-clause-keeps
returns-else-ep-lt-IN-clause-keeps g c =
    let a = c.args.ep.now.addr in
    let j = joint c.args.self.now in
    let high = c.if-ep-lt-IN.false in
    let at : IsIn a = is_in a c.requires.numbered high in
    open_in_keeps j (joint c.add_in.new.self) c.args.ep.now (a - 128) refl at.from at.to c.requires.some c.requires.most
    (sym (open_at_in j.software a high) ∙ c.requires.shut) c.add_in.ensures.joint

pub returns-else-ep-lt-IN-clause-order : goal.returns-else-ep-lt-IN-clause-order
returns-else-ep-lt-IN-clause-order g c =
    let a = c.args.ep.now.addr in
    let s = c.args.self.now.software in
    c.add_in.ensures.order (none_closed s (a - 128) (sym (open_at_in s a c.if-ep-lt-IN.false) ∙ c.requires.shut))
