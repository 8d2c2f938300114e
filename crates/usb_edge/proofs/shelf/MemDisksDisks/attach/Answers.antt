-- The slot has the disk of the name, and no other slot's disk is another one.
use Rattle.std.proofs.Common.{◌≡◌, subst, ap, ◌∙◌, ℕ, Option, Some, List, option_map, length}
use Rattle.usb_edge.specs.Disk.{bytes_in, disk_of, free_bytes, given, left}
use Rattle.usb_edge.specs.Memory.{Rack, shelved}
use Rattle.usb_edge.specs.declared.slots.MemDisk.{MemDisk}
use Rattle.usb_edge.proofs.DiskLemmas.{size_given, sizes_given}
use Rattle.usb_edge.proofs.shelf.MemDisksDisks.attach.Goals as goal

given_now : (c : goal.In-Some) → shelved c.attach_disk.new.slots c.self.inside.disks.items ≡ given c.args.slot c.args.name.now (left c.args.slot (shelved c.self.inside.slots c.self.inside.disks.items))
given_now c =
    subst (λ (ds : List MemDisk). shelved c.attach_disk.new.slots ds ≡ given c.args.slot c.args.name.now (left c.args.slot (shelved c.self.inside.slots ds))) c.deref.ensures.value c.in-Some.ensures.given

size_now : (c : goal.In-Some) → ◌≡◌ {A = Option ℕ} (Some c.in-Some.size) (option_map length (free_bytes (disk_of c.args.name.now (shelved c.self.inside.slots c.self.inside.disks.items))))
size_now c =
    subst (λ (ds : List MemDisk). ◌≡◌ {A = Option ℕ} (Some c.in-Some.size) (option_map length (free_bytes (disk_of c.args.name.now (shelved c.self.inside.slots ds))))) c.deref.ensures.value c.in-Some.ensures.size

pub returns-in-Some-clause-size : goal.returns-in-Some-clause-size
returns-in-Some-clause-size c =
    size_given c.args.slot c.in-Some.size c.args.name.now (shelved c.self.inside.slots c.self.inside.disks.items) (shelved c.attach_disk.new.slots c.self.inside.disks.items)
    (given_now c) (size_now c)

pub returns-in-Some-clause-others : goal.returns-in-Some-clause-others
returns-in-Some-clause-others c =
    λ other ne.
    sizes_given c.args.slot c.in-Some.size c.args.name.now (shelved c.self.inside.slots c.self.inside.disks.items) (shelved c.attach_disk.new.slots c.self.inside.disks.items) (given_now c) (size_now c) other ne
    ∙ ap (λ (r : Rack). option_map length (bytes_in other r.shelf.disks)) (c.self.view_is ∙ c.begin.ensures.after)
