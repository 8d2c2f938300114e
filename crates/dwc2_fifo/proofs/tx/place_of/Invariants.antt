-- none of the packets so far has the tag
use Rattle.std.proofs.Common.{◌≡◌, ◌≤◌, ◌*◌, take}
use Rattle.dwc2_fifo.specs.Cut.{NoneHas, bytes_under}
use Rattle.dwc2_fifo.proofs.tx.place_of.Given as goal

abbrev pub invariant-loop-index : goal.invariant-loop-index
invariant-loop-index l =
    record {
      before : NoneHas l.tag (take l.index l.heads);
      start_is : l.start ≡ bytes_under (take l.index l.heads);
      small : l.start ≤ 256 * l.index;
    }
