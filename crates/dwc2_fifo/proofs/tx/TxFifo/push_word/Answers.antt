-- the word's bytes go behind the others, and with the last of them the packet is whole
use Rattle.std.proofs.Common.{◌≤◌, ◌<◌, ◌-◌, ◌∙◌, ap, ap₂, sym, arith, ℕ, List, take, length-take-le, None}
use Rattle.dwc2_fifo.specs.declared.tx.Head.{Head}
use Rattle.dwc2_fifo.specs.Tx.{Tx, with_word}
use Rattle.dwc2_fifo.specs.Cut.{tx_of}
use Rattle.dwc2_fifo.proofs.CutLemmas.{room_for_word, IsCut-whole, IsCut-more, with_word-whole, with_word-more, some_behind}
use Rattle.dwc2_fifo.proofs.tx.TxFifo.push_word.Goals as goal

pub put_word-requires : goal.put_word-requires
put_word-requires c =
    let q = c.self.inside in
    let s = c.self.invariant in
    let room = (room_for_word q.heads.items q.begun c.in-Some.head q.got q.end q.used q.depth s.is_cut c.in-Some.is).0 in
    omega (arith, room, s.size)

pub push-requires : goal.push-requires
push-requires c =
    let q = c.self.inside in
    let room = room_for_word q.heads.items q.begun c.in-Some.head q.got q.end q.used q.depth c.self.invariant.is_cut c.in-Some.is in
    (omega arith, room.1)

pub invariant_of-self : goal.invariant_of-self
invariant_of-self c =
    let q = c.self.inside in
    let s = c.self.invariant in
    let few : c.in-Some.head.len - q.got ≤ 4 = omega (arith, c.if-head-self-le4.true) in
    let room = (room_for_word q.heads.items q.begun c.in-Some.head q.got q.end q.used q.depth s.is_cut c.in-Some.is).0 in
    let whole = IsCut-whole q.heads.items q.begun c.in-Some.head q.got q.end q.used q.depth s.is_cut c.in-Some.is few in
    rw c.push.ensures.items (record { size = c.put_word.auto.bytes ∙ s.size; inside = room; is_cut = whole })

pub invariant_of-self-else-head-self-le4 : goal.invariant_of-self-else-head-self-le4
invariant_of-self-else-head-self-le4 c =
    let q = c.self.inside in
    let s = c.self.invariant in
    let many : 4 < c.in-Some.head.len - q.got = omega (arith, c.if-head-self-le4.false) in
    let room = (room_for_word q.heads.items q.begun c.in-Some.head q.got q.end q.used q.depth s.is_cut c.in-Some.is).0 in
    let more = IsCut-more q.heads.items q.begun c.in-Some.head q.got q.end q.used q.depth s.is_cut c.in-Some.is many in
    record { size = c.put_word.auto.bytes ∙ s.size; inside = room; is_cut = more }

pub returns-then-head-self-le4 : goal.returns-then-head-self-le4
returns-then-head-self-le4 c =
    let q = c.self.inside in
    let s = c.self.invariant in
    let row = take q.end q.bytes in
    let few : c.in-Some.head.len - q.got ≤ 4 = omega (arith, c.if-head-self-le4.true) in
    let lacks = (some_behind q.begun c.in-Some.head q.got c.in-Some.is s.is_cut.behind).0 in
    let total = s.is_cut.total ∙ sym (length-take-le q.end q.bytes (omega (arith, s.size, s.inside))) in
    let Kept : List Head → List ℕ → Tx = λ heads bytes. tx_of heads None bytes q.depth in
    let With : Tx → Tx = λ tx. with_word tx c.args.word in
    ap₂ Kept c.push.ensures.items c.put_word.ensures
    ∙ with_word-whole q.heads.items q.begun c.in-Some.head q.got c.args.word q.depth row c.in-Some.is total lacks few
    ∙ ap With c.self.view_is

pub returns-else-head-self-le4 : goal.returns-else-head-self-le4
returns-else-head-self-le4 c =
    let q = c.self.inside in
    let s = c.self.invariant in
    let row = take q.end q.bytes in
    let many : 4 < c.in-Some.head.len - q.got = omega (arith, c.if-head-self-le4.false) in
    let total = s.is_cut.total ∙ sym (length-take-le q.end q.bytes (omega (arith, s.size, s.inside))) in
    let Kept : List ℕ → Tx = λ bytes. tx_of q.heads.items q.begun bytes q.depth in
    let With : Tx → Tx = λ tx. with_word tx c.args.word in
    ap Kept c.put_word.ensures
    ∙ with_word-more q.heads.items q.begun c.in-Some.head q.got c.args.word q.depth row c.in-Some.is total many
    ∙ ap With c.self.view_is
