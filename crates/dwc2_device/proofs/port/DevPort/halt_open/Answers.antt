-- The call keeps what holds of controller, software and rings.
use Rattle.std.proofs.Common.{◌-◌, refl, sym, ◌∙◌}
use Rattle.dwc2_device.specs.Driver.{joint}
use Rattle.dwc2_device.proofs.Sound.{IsOut, is_out, IsIn, is_in, open_at_out, open_at_in, halt_out_keeps, halt_in_keeps}
use Rattle.dwc2_device.proofs.port.DevPort.halt_open.Goals as goal

pub returns-then-addr-lt-IN-clause-keeps : goal.returns-then-addr-lt-IN-clause-keeps
returns-then-addr-lt-IN-clause-keeps g c =
    let a = c.args.addr in
    let j = joint c.args.self.now in
    let at : IsOut a = is_out a c.requires.numbered c.if-addr-lt-IN.true in
    halt_out_keeps j (joint c.halt_out.new.self) a at.from at.to (sym (open_at_out j.software a c.if-addr-lt-IN.true) ∙ c.requires.open_) c.halt_out.ensures.joint

pub returns-else-addr-lt-IN-clause-keeps : goal.returns-else-addr-lt-IN-clause-keeps
returns-else-addr-lt-IN-clause-keeps g c =
    let a = c.args.addr in
    let j = joint c.args.self.now in
    let high = c.if-addr-lt-IN.false in
    let at : IsIn a = is_in a c.requires.numbered high in
    halt_in_keeps j (joint c.halt_in.new.self) a (a - 128) refl at.from at.to (sym (open_at_in j.software a high) ∙ c.requires.open_) c.halt_in.ensures.joint
