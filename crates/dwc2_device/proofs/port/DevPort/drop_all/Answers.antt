-- Controller, software and rings agree after the call.
use Rattle.std.proofs.Common.{◌-◌, refl, sym, ◌∙◌}
use Rattle.dwc2_device.specs.Driver.{joint}
use Rattle.dwc2_device.proofs.Sound.{IsOut, is_out, IsIn, is_in, open_at_in, drop_out_ends, drop_in_ends}
use Rattle.dwc2_device.proofs.port.DevPort.drop_all.Goals as goal

pub returns-then-addr-lt-IN-clause-port : goal.returns-then-addr-lt-IN-clause-port
returns-then-addr-lt-IN-clause-port g c =
    let a = c.args.addr in
    let at : IsOut a = is_out a c.requires.numbered c.if-addr-lt-IN.true in
    (drop_out_ends (joint c.args.self.now) c.args.rings.now c.clear_out.new.self a c.requires.sound at.from at.to c.clear_out.ensures).port

pub returns-then-addr-lt-IN-clause-sound : goal.returns-then-addr-lt-IN-clause-sound
returns-then-addr-lt-IN-clause-sound g c =
    let a = c.args.addr in
    let at : IsOut a = is_out a c.requires.numbered c.if-addr-lt-IN.true in
    (drop_out_ends (joint c.args.self.now) c.args.rings.now c.clear_out.new.self a c.requires.sound at.from at.to c.clear_out.ensures).sound

pub returns-else-addr-lt-IN-clause-port : goal.returns-else-addr-lt-IN-clause-port
returns-else-addr-lt-IN-clause-port g c =
    let a = c.args.addr in
    let j = joint c.args.self.now in
    let high = c.if-addr-lt-IN.false in
    let at : IsIn a = is_in a c.requires.numbered high in
    (drop_in_ends j (joint c.drop_in.new.self) c.args.rings.now c.clear_in.new.self a (a - 128) c.requires.sound refl at.from at.to (sym (open_at_in j.software a high) ∙ c.requires.open_) c.drop_in.ensures.joint c.clear_in.ensures).port

pub returns-else-addr-lt-IN-clause-sound : goal.returns-else-addr-lt-IN-clause-sound
returns-else-addr-lt-IN-clause-sound g c =
    let a = c.args.addr in
    let j = joint c.args.self.now in
    let high = c.if-addr-lt-IN.false in
    let at : IsIn a = is_in a c.requires.numbered high in
    (drop_in_ends j (joint c.drop_in.new.self) c.args.rings.now c.clear_in.new.self a (a - 128) c.requires.sound refl at.from at.to (sym (open_at_in j.software a high) ∙ c.requires.open_) c.drop_in.ensures.joint c.clear_in.ensures).sound
