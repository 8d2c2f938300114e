-- both entries find room
use Rattle.std.proofs.Common.{ℕ, length, ap, ◌∙◌, arith}
use Rattle.dwc2_fifo.specs.Rx.{Entry, room_of}
use Rattle.dwc2_fifo.specs.Words.{words_of}
use Rattle.dwc2_fifo.proofs.WordsLemmas.{length-words_of}
use Rattle.host_table.specs.State.{Table}
use Rattle.dwc2_hostmodel.proofs.RoomLemmas.{room_of-pushed}
use Rattle.dwc2_hostmodel.proofs.controller.Controller.push_packet.Goals as goal

pub push_entry-requires-2 : goal.push_entry-requires-2
push_entry-requires-2 c =
    let one : Entry = record { status = c.status_word-status.result; words = words_of c.bytes-bytes.result.now } in
    let left = ap room_of c.push_entry.ensures.pushed ∙ room_of-pushed c.self.inside.rx one in
    let words = length-words_of c.bytes-bytes.result.now in
    let bytes = ap (length {A = ℕ}) c.bytes-bytes.ensures.value in
    let same = ap (λ (t : Table). room_of t.rx) c.self.view_is in
    omega arith
