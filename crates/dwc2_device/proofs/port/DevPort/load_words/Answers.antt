-- One word was loaded.
use Rattle.std.proofs.Common.{◌≡◌, ℕ, ◌+◌, ◌-◌, ◌≤◌, List, length, min, ap, ◌∙◌, arith}
use Rattle.dwc2_fifo.specs.Words.{words_of}
use Rattle.device_table.specs.State.{Table}
use Rattle.device_rings.specs.Rings.{in_ring}
use Rattle.endpoint_relation.specs.InPackets.{bytes_at}
use Rattle.endpoint_relation.specs.InTable.{words_at}
use Rattle.device_relation.specs.Software.{Joint}
use Rattle.dwc2_device.proofs.Loaded.{word_loaded, fewer_words}
use Rattle.dwc2_device.proofs.port.DevPort.load_words.Goals as goal

pub loop-left-preserved : goal.loop-left-preserved
loop-left-preserved g c =
    let t : Table = c.loop-left.self.bank.table in
    let at : ℕ = c.loop-left.at in
    let left : ℕ = c.loop-left.left in
    let n : ℕ = c.min-count.result in
    let ring : List ℕ = (in_ring c.args.rings.now c.args.number).bytes in
    let inv = c.loop-left.invariant in
    let some = c.loop-left-test.true in
    let count : n ≡ min left 4 = c.min-count.ensures in
    let there : at + left ≤ length ring = omega (arith, inv.1, c.requires.there) in
    let fewer = fewer_words left n some count in (
      ap (λ (j : Joint). words_at c.args.number j.table (words_of (bytes_at ring (at + n) (left - n)))) c.write_fifo.ensures.joint
          ∙ word_loaded c.args.number t ring at left n c.peek_word.result some there count c.peek_word.ensures ∙ inv.0,
      omega (arith, inv.1, count),
      ap (λ (j : Joint). j.software) c.write_fifo.ensures.joint ∙ inv.2,
      omega (arith, fewer, c.write_fifo.ensures.spends.0, inv.3),
      c.write_fifo.ensures.spends.1,
      λ start m. c.write_fifo.ensures.spends.2 start (inv.5 start m),
      λ start k. c.write_fifo.ensures.order start (inv.6 start k),
    )
