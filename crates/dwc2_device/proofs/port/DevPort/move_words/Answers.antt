-- One word was moved.
use Rattle.std.proofs.Common.{◌≡◌, ℕ, min, ap, ◌∙◌, arith}
use Rattle.device_table.specs.State.{Table}
use Rattle.device_relation.specs.Software.{Joint}
use Rattle.dwc2_device.proofs.Moves.{Step, step}
use Rattle.dwc2_device.proofs.port.DevPort.move_words.Goals as goal

pub loop-left-preserved : goal.loop-left-preserved
loop-left-preserved g c =
    let t : Table = c.loop-left.self.bank.table in
    let left : ℕ = c.loop-left.left in
    let count : c.min-count.result ≡ min left 4 = c.min-count.ensures in
    let inv = c.loop-left.invariant in
    let s : Step c.loop-left.rings c.push_word.new.self c.args.number left c.min-count.result t c.read_fifo-word.new.self.bank.table =
    step c.loop-left.rings c.push_word.new.self c.args.number left c.min-count.result c.read_fifo-word.result t c.read_fifo-word.new.self.bank.table c.loop-left-test.true count
    c.read_fifo-word.ensures.value (ap (λ (j : Joint). j.table) c.read_fifo-word.ensures.joint) inv.2 c.push_word.ensures in (
      s.words ∙ inv.0,
      s.ring ∙ inv.1,
      s.room,
      ap (λ (j : Joint). j.software) c.read_fifo-word.ensures.joint ∙ inv.3,
      omega (arith, s.fewer, c.read_fifo-word.ensures.spends.0, inv.4),
      c.read_fifo-word.ensures.spends.1,
      λ start m. c.read_fifo-word.ensures.spends.2 start (inv.6 start m),
      λ start k. c.read_fifo-word.ensures.order start (inv.7 start k),
    )
