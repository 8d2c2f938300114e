-- the packet's bytes are those from its place on
use Rattle.std.proofs.Common.{◌≤◌, ◌+◌, ◌∙◌, ap, sym, arith, ℕ, List, take, length-take-le, Option, Some}
use Rattle.dwc2_fifo.specs.Tx.{Tx, first_with}
use Rattle.dwc2_fifo.specs.Cut.{IsFirst, NoneHas}
use Rattle.dwc2_fifo.proofs.CutLemmas.{first_with-none}
use Rattle.dwc2_fifo.proofs.PlaceLemmas.{bytes_under-place, first_with-place, AreLengths-place}
use Rattle.dwc2_fifo.proofs.tx.TxFifo.front_packet.Goals as goal

pub packet_at-requires-clause-inside : goal.packet_at-requires-clause-inside
packet_at-requires-clause-inside c =
    let q = c.self.inside in
    let s = c.self.invariant in
    let place = c.in-Some.place in
    let f : IsFirst c.args.tag q.heads.items place = rw c.as_slice.ensures.value at c.in-Some.ensures.found in
    let counts = (bytes_under-place c.args.tag q.heads.items place f).0 in
    let row_length = length-take-le q.end q.bytes (omega (arith, s.size, s.inside)) in
    let within : place.start + place.head.len ≤ q.end = omega (arith, counts, s.is_cut.total) in
    omega (arith, within, row_length)

pub packet_at-requires-clause-most : goal.packet_at-requires-clause-most
packet_at-requires-clause-most c =
    let q = c.self.inside in
    let f : IsFirst c.args.tag q.heads.items c.in-Some.place = rw c.as_slice.ensures.value at c.in-Some.ensures.found in
    (AreLengths-place c.args.tag q.heads.items c.in-Some.place f c.self.invariant.is_cut.lengths).1

pub returns-in-Some : goal.returns-in-Some
returns-in-Some c =
    let q = c.self.inside in
    let f : IsFirst c.args.tag q.heads.items c.in-Some.place = rw c.as_slice.ensures.value at c.in-Some.ensures.found in
    let Taken : List ℕ → Option (List ℕ) = λ bytes. Some bytes in
    let First : Tx → Option (List ℕ) = λ tx. first_with c.args.tag tx.packets in
    ap Taken c.packet_at.ensures ∙ sym (first_with-place c.args.tag q.heads.items c.in-Some.place (take q.end q.bytes) f) ∙ ap First c.self.view_is

pub returns-in-None : goal.returns-in-None
returns-in-None c =
    let q = c.self.inside in
    let none : NoneHas c.args.tag q.heads.items = rw c.as_slice.ensures.value at c.in-None.ensures.none in
    let First : Tx → Option (List ℕ) = λ tx. first_with c.args.tag tx.packets in
    sym (first_with-none c.args.tag q.heads.items (take q.end q.bytes) none) ∙ ap First c.self.view_is
