use Rattle.std.proofs.Common.{lit<, sym, ◌∙◌}
use Rattle.descriptor_groups.specs.Groups.{owner_of_number}
use Rattle.usb_descriptor.proofs.Thirty.{room}
use Rattle.usb_descriptor.proofs.endpoint.endpoints_in.Goals as goal

pub push-requires : goal.push-requires
push-requires c = (
  lit< tt,
  room (owner_of_number c.args.row.now) c.loop-d.owner c.args.row.now c.loop-d.endpoints.items c.loop-d.d-index _ c.loop-d-test.true
      (sym c.is_endpoint.ensures ∙ c.if-is_endpoint.true) c.loop-d.invariant c.requires,
)
