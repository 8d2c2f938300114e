-- both entries find room, and none is one of a SETUP
use Rattle.std.proofs.Common.{ℕ, [], length, ap, ◌∙◌, arith}
use Rattle.dwc2_fifo.specs.Rx.{Entry, Rx, room_of, pushed}
use Rattle.dwc2_fifo.specs.Words.{words_of}
use Rattle.dwc2_fifo.proofs.WordsLemmas.{length-words_of}
use Rattle.device_table.specs.State.{Table}
use Rattle.dwc2_devmodel.specs.Setups.{setups_in}
use Rattle.dwc2_devmodel.proofs.SetupLemmas.{setups_in-two, setups_in-out, room_of-pushed}
use Rattle.dwc2_devmodel.proofs.controller.Controller.push_packet.Goals as goal

pub push_entry-requires-2 : goal.push_entry-requires-2
push_entry-requires-2 c =
    let one : Entry = record { status = c.status_word-status.result; words = words_of c.bytes-bytes.result.now } in
    let left = ap room_of c.push_entry.ensures.pushed ∙ room_of-pushed c.self.inside.rx one in
    let words = length-words_of c.bytes-bytes.result.now in
    let bytes = ap (length {A = ℕ}) c.bytes-bytes.ensures.value in
    let same = ap (λ (t : Table). room_of t.rx) c.self.view_is in
    omega arith

pub invariant_of-self : goal.invariant_of-self
invariant_of-self c =
    let one : Entry = record { status = c.status_word-status.result; words = words_of c.bytes-bytes.result.now } in
    let two : Entry = record { status = c.status_word.result; words = words_of [] } in
    let both = c.push_entry-2.ensures.pushed ∙ ap (λ (rx : Rx). pushed rx two) c.push_entry.ensures.pushed in
    let more = ap (λ (rx : Rx). setups_in rx.entries) both ∙ setups_in-two c.self.inside.rx one two in
    let bytes = ap (length {A = ℕ}) c.bytes-bytes.ensures.value in
    let size = c.bytes-bytes.ensures.size in
    let pair =
    setups_in-out one two c.args.ep (length c.bytes-bytes.result.now) c.pid_of.result c.args.toggle c.status_word-status.ensures c.status_word.ensures
    c.pid_of.ensures c.requires.number (omega arith) in
    let counted = c.self.invariant.0.counted in
    (record { counted = omega arith; depth_is = ap (λ (rx : Rx). rx.depth) both ∙ c.self.invariant.0.depth_is }, c.self.invariant.1, c.self.invariant.2)
