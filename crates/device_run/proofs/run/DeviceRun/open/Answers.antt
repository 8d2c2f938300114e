use Rattle.std.proofs.Common.{ap, ◌∙◌, sym, subst}
use Rattle.usb_descriptor.specs.Set.{Set}
use Rattle.dwc2_regs.specs.declared.access.TheConstants.{FS4}
use Rattle.device_table.specs.Bank.{begun}
use Rattle.device_owners.specs.Isolation.{Isolates}
use Rattle.device_owners.proofs.Along.{isolates}
use Rattle.device_world.specs.World.{world_of}
use Rattle.usbd_core.specs.Device.{tops}
use Rattle.device_run.proofs.Lines.{begun_whole}
use Rattle.device_run.proofs.run.DeviceRun.open.Goals as goal

pub invariant_of-result : goal.invariant_of-result
invariant_of-result c = begun_whole c.in_ok-stack.stack c.begin.new.self c.in_ok-stack.ensures.whole (c.begin.ensures ∙ ap begun c.regs.ensures.value)

pub returns-clause-apart : goal.returns-clause-apart
returns-clause-apart c =
    subst (λ (s : Set). Isolates (world_of s c.args.blocks)) (sym c.in_ok-stack.ensures.set)
    (isolates (world_of c.args.set c.args.blocks) (tops FS4) (c.acceptance_serves.ensures (tops FS4) c.requires) (c.endpoints_are_grouped.ensures.built (tops FS4) c.requires))
