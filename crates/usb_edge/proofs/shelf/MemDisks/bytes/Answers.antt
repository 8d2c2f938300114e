-- The bytes of a name are the same whichever slot has its disk.
use Rattle.std.proofs.Common.{ap, ◌∙◌, List, None, option_map}
use Rattle.usb_edge.specs.Disk.{Held, disk_of, named}
use Rattle.usb_edge.specs.Memory.{Rack, slot_of, unattached}
use Rattle.usb_edge.specs.declared.slots.MemDisk.{MemDisk}
use Rattle.usb_edge.proofs.ShelfLemmas.{named_alike}
use Rattle.usb_edge.proofs.shelf.MemDisks.bytes.Goals as goal

pub returns : goal.returns
returns c =
    let name = c.args.name.now in
    c.bytes_of.ensures
    ∙ ap (λ (ds : List MemDisk). option_map (λ (h : Held). h.bytes) (disk_of name (unattached ds))) c.as_slice.ensures.value
    ∙ named_alike name (λ _. None) (slot_of c.self.inside.slots) c.self.inside.disks.items
    ∙ ap (λ (r : Rack). named name r.shelf) c.self.view_is
