-- Controller, software and rings agree after the call.
use Rattle.device_rings.specs.Capacities.{capacities_of}
use Rattle.device_rings.proofs.Capacities.{with_in}
use Rattle.std.proofs.Common.{◌-◌, ◌≤◌, refl, sym, ap, ◌∙◌, arith}
use Rattle.dwc2_device.specs.Driver.{Driver, joint}
use Rattle.dwc2_device.specs.Writes.{clears_in}
use Rattle.dwc2_device.proofs.Sound.{IsOut, is_out, IsIn, is_in, open_at_out, open_at_in, in_stands, clear_out_ends, clear_in_ends}
use Rattle.dwc2_device.proofs.port.DevPort.clear_open.Goals as goal

pub returns-then-addr-lt-IN-clause-port : goal.returns-then-addr-lt-IN-clause-port
returns-then-addr-lt-IN-clause-port g c =
    let a = c.args.addr in
    let j = joint c.args.self.now in
    let at : IsOut a = is_out a c.requires.numbered c.if-addr-lt-IN.true in
    (clear_out_ends j (joint c.clear_out.new.self) c.args.rings.now a c.requires.sound at.from at.to (sym (open_at_out j.software a c.if-addr-lt-IN.true) ∙ c.requires.open_) c.clear_out.ensures.joint).port

pub returns-then-addr-lt-IN-clause-sound : goal.returns-then-addr-lt-IN-clause-sound
returns-then-addr-lt-IN-clause-sound g c =
    let a = c.args.addr in
    let j = joint c.args.self.now in
    let at : IsOut a = is_out a c.requires.numbered c.if-addr-lt-IN.true in
    (clear_out_ends j (joint c.clear_out.new.self) c.args.rings.now a c.requires.sound at.from at.to (sym (open_at_out j.software a c.if-addr-lt-IN.true) ∙ c.requires.open_) c.clear_out.ensures.joint).sound

pub returns-else-addr-lt-IN-clause-port : goal.returns-else-addr-lt-IN-clause-port
returns-else-addr-lt-IN-clause-port g c =
    let a = c.args.addr in
    let j = joint c.args.self.now in
    let high = c.if-addr-lt-IN.false in
    let at : IsIn a = is_in a c.requires.numbered high in
    (clear_in_ends j (joint c.clear_in.new.self) c.args.rings.now c.end_transfer.new.rings a (a - 128) c.requires.sound refl at.from at.to (sym (open_at_in j.software a high) ∙ c.requires.open_)
    (c.clear_in.ensures.joint ∙ ap (λ (d : Driver). clears_in (joint d) (a - 128)) c.end_transfer.ensures.same) c.end_transfer.ensures.rings).port

pub returns-else-addr-lt-IN-clause-sound : goal.returns-else-addr-lt-IN-clause-sound
returns-else-addr-lt-IN-clause-sound g c =
    let a = c.args.addr in
    let j = joint c.args.self.now in
    let high = c.if-addr-lt-IN.false in
    let at : IsIn a = is_in a c.requires.numbered high in
    (clear_in_ends j (joint c.clear_in.new.self) c.args.rings.now c.end_transfer.new.rings a (a - 128) c.requires.sound refl at.from at.to (sym (open_at_in j.software a high) ∙ c.requires.open_)
    (c.clear_in.ensures.joint ∙ ap (λ (d : Driver). clears_in (joint d) (a - 128)) c.end_transfer.ensures.same) c.end_transfer.ensures.rings).sound

pub end_transfer-requires-clause-stands : goal.end_transfer-requires-clause-stands
end_transfer-requires-clause-stands g c =
    let a = c.args.addr in
    let at : IsIn a = is_in a c.requires.numbered c.if-addr-lt-IN.false in
    let from : 1 ≤ a - 128 = omega (arith, at.from) in
    in_stands (joint c.args.self.now) c.args.rings.now (a - 128) c.requires.sound from at.to

pub returns-else-addr-lt-IN-clause-capacities : goal.returns-else-addr-lt-IN-clause-capacities
returns-else-addr-lt-IN-clause-capacities g c = ap capacities_of c.end_transfer.ensures.rings ∙ with_in c.args.rings.now (c.args.addr - 128) _
