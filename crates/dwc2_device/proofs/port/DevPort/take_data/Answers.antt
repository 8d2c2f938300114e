-- The end of the packet is still the next to be popped.
use Rattle.std.proofs.Common.{◌≡◌, ℕ, ap, sym, ◌∙◌, subst}
use Rattle.dwc2_fifo.specs.Words.{word_count}
use Rattle.device_relation.specs.Software.{Joint}
use Rattle.dwc2_device.specs.Standing.{EndsAt}
use Rattle.dwc2_device.proofs.Ends.{first_of, words_leave}
use Rattle.dwc2_device.proofs.port.DevPort.take_data.Goals as goal

pub end_packet-requires-clause-ends : goal.end_packet-requires-clause-ends
end_packet-requires-clause-ends g c =
    let t = c.args.self.now.bank.table in
    let same : first_of c.take_packet.new.self.bank.table ≡ first_of t = ap (λ (j : Joint). first_of j.table) c.take_packet.ensures.joint ∙ words_leave (word_count c.args.bytes) t in
    subst (λ (n : ℕ). EndsAt n (first_of c.take_packet.new.self.bank.table)) c.if-number-eq0.true (subst (EndsAt c.args.number) (sym same) c.requires.ends)
