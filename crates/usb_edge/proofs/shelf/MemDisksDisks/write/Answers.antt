-- A block has the length of the one in whose place it is.
use Rattle.std.proofs.Common.{ap, ◌∙◌}
use Rattle.usb_edge.specs.Disk.{with_written}
use Rattle.usb_edge.specs.Memory.{Rack}
use Rattle.usb_edge.proofs.DiskLemmas.{same_sizes}
use Rattle.usb_edge.proofs.shelf.MemDisksDisks.write.Goals as goal

pub returns-clause-size : goal.returns-clause-size
returns-clause-size c =
    let same = ap (λ (r : Rack). r.shelf.disks) (c.self.view_is ∙ c.begin.ensures.after) in
    same_sizes c.args.slot c.args.lba c.args.block.now c.args.self.now.shelf.disks _
    (c.write_block.ensures.written ∙ ap (with_written c.args.slot c.args.lba c.args.block.now) same)
    c.told-block c.requires
