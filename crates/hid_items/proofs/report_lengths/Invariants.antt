use Rattle.std.proofs.Common.{◌≡◌, ◌+◌, ◌≤◌, length}
use Rattle.hid_items.specs.Item.{items_from}
use Rattle.hid_items.specs.Lengths.{lengths_of}
use Rattle.hid_items.specs.Reports.{pass}
use Rattle.hid_items.proofs.report_lengths.Given as goal

abbrev pub invariant-loop-prefix : goal.invariant-loop-prefix
invariant-loop-prefix l =
    (lengths_of l.bytes ≡ pass l.pass.state l.pass.reports (items_from 0 l.place l.rest))
    × (l.place + length l.rest ≡ length l.bytes)
    × (l.pass.state.open_collections ≤ l.place)

abbrev pub decreases-loop-prefix : goal.decreases-loop-prefix
decreases-loop-prefix l = length l.rest
