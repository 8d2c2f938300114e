-- the packet goes from the heads, and its bytes from the row
use Rattle.std.proofs.Common.{◌≤◌, ◌+◌, ◌∙◌, ap, ap₂, sym, arith, ℕ, List, ◌++◌, length, take, drop, length-take-le}
use Rattle.dwc2_fifo.specs.declared.tx.Head.{Head}
use Rattle.dwc2_fifo.specs.Tx.{Tx, Tagged, without_first}
use Rattle.dwc2_fifo.specs.Cut.{bytes_under, tx_of, IsFirst, NoneHas}
use Rattle.dwc2_fifo.proofs.CutLemmas.{without_first-none}
use Rattle.dwc2_fifo.proofs.PlaceLemmas.{bytes_under-place, without_first-place, IsCut-place, words-place}
use Rattle.dwc2_fifo.proofs.tx.TxFifo.release.Goals as goal

pub remove_bytes-requires : goal.remove_bytes-requires
remove_bytes-requires c =
    let q = c.self.inside in
    let s = c.self.invariant in
    let f : IsFirst c.args.tag q.heads.items c.in-Some.place = rw c.as_slice.ensures.value at c.in-Some.ensures.found in
    let counts = (bytes_under-place c.args.tag q.heads.items c.in-Some.place f).0 in
    record { inside = omega (arith, counts, s.is_cut.total, c.room-freed.ensures.value); row = omega (arith, s.size, s.inside) }

pub overflow_sub-self : goal.overflow_sub-self
overflow_sub-self c =
    let q = c.self.inside in
    let f : IsFirst c.args.tag q.heads.items c.in-Some.place = rw c.as_slice.ensures.value at c.in-Some.ensures.found in
    let counts = (bytes_under-place c.args.tag q.heads.items c.in-Some.place f).0 in
    omega (arith, counts, c.self.invariant.is_cut.total, c.room-freed.ensures.value)

pub overflow_sub-self-in-Some : goal.overflow_sub-self-in-Some
overflow_sub-self-in-Some c =
    let q = c.self.inside in
    let f : IsFirst c.args.tag q.heads.items c.in-Some.place = rw c.as_slice.ensures.value at c.in-Some.ensures.found in
    let few = words-place c.args.tag q.heads.items q.begun c.in-Some.place q.got q.end q.used q.depth f c.self.invariant.is_cut in
    omega (arith, few, c.words.ensures.value)

pub invariant_of-self : goal.invariant_of-self
invariant_of-self c =
    let q = c.self.inside in
    let s = c.self.invariant in
    let f : IsFirst c.args.tag q.heads.items c.in-Some.place = rw c.as_slice.ensures.value at c.in-Some.ensures.found in
    let kept = IsCut-place c.args.tag q.heads.items q.begun c.in-Some.place q.got q.end q.used q.depth f s.is_cut in
    rw (c.remove.ensures.items, c.room-freed.ensures.value, c.words.ensures.value) (record { size = c.remove_bytes.auto.bytes ∙ s.size; inside = omega (arith, s.inside); is_cut = kept })

pub returns-in-Some : goal.returns-in-Some
returns-in-Some c =
    let q = c.self.inside in
    let s = c.self.invariant in
    let place = c.in-Some.place in
    let row = take q.end q.bytes in
    let f : IsFirst c.args.tag q.heads.items place = rw c.as_slice.ensures.value at c.in-Some.ensures.found in
    let row_length = length-take-le q.end q.bytes (omega (arith, s.size, s.inside)) in
    let whole : bytes_under q.heads.items ≤ length row = omega (arith, row_length, s.is_cut.total) in
    let Kept : List Head → List ℕ → Tx = λ heads bytes. tx_of heads q.begun bytes q.depth in
    let Rest : ℕ → List ℕ = λ n. take place.start row ++ drop (place.start + n) row in
    let Without : Tx → Tx = λ tx. record tx { packets = without_first c.args.tag tx.packets } in
    ap₂ Kept c.remove.ensures.items (c.remove_bytes.ensures ∙ ap Rest c.room-freed.ensures.value)
    ∙ without_first-place c.args.tag q.heads.items q.begun place row q.depth f whole
    ∙ ap Without c.self.view_is

pub returns-in_default : goal.returns-in_default
returns-in_default c =
    let q = c.self.inside in
    let row = take q.end q.bytes in
    let none : NoneHas c.args.tag q.heads.items = rw c.as_slice.ensures.value at c.in_default.ensures.none in
    let Without : Tx → Tx = λ tx. record tx { packets = without_first c.args.tag tx.packets } in
    let Same : List Tagged → Tx = λ packets. record (tx_of q.heads.items q.begun row q.depth) { packets = packets } in
    sym c.self.view_is ∙ ap Same (sym (without_first-none c.args.tag q.heads.items row none)) ∙ ap Without c.self.view_is
