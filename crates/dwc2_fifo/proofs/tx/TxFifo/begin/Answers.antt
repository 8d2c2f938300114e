-- nothing lies behind the whole packets
use Rattle.std.proofs.Common.{◌≤◌, ◌∙◌, ap, arith, length, take, length-take-le}
use Rattle.dwc2_fifo.specs.Tx.{Tx, space_of}
use Rattle.dwc2_fifo.specs.Cut.{bytes_under}
use Rattle.dwc2_fifo.proofs.CutLemmas.{words_taken-tx_of, begun_none, nothing_behind, words_begun_none}
use Rattle.dwc2_fifo.proofs.tx.TxFifo.begin.Goals as goal

pub invariant_of-self : goal.invariant_of-self
invariant_of-self c =
    let q = c.self.inside in
    let s = c.self.invariant in
    let i = s.is_cut in
    let row = take q.end q.bytes in
    let row_length = length-take-le q.end q.bytes (omega (arith, s.size, s.inside)) in
    let whole : bytes_under q.heads.items ≤ length row = omega (arith, row_length, i.total) in
    let same = ap (λ (tx : Tx). tx.unfinished) c.self.view_is in
    let none = begun_none q.heads.items q.begun row (same ∙ c.requires.finished) in
    let nothing = nothing_behind q.begun q.got none i.behind in
    let no_words = words_begun_none q.begun none in
    let taken = words_taken-tx_of q.heads.items q.begun row q.depth whole in
    let room = ap space_of c.self.view_is in
    record {
      size = s.size;
      inside = s.inside;
      is_cut = record { lengths = i.lengths; total = omega (arith, i, nothing); behind = (omega arith, c.requires.most, omega arith); counted = omega (arith, i, no_words, c.words.ensures.value); fits = omega (arith, i, no_words, taken, room, c.requires.place, c.words.ensures.value); most = i.most };
    }
