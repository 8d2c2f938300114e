use Rattle.std.proofs.Common.{ap, ◌∙◌, subst}
use Rattle.usb_packet.specs.declared.bus.BusAnswer.TheVariants.{Done}
use Rattle.device_line.specs.declared.line.DevLine.TheVariants.{Irq}
use Rattle.device_line.specs.declared.line.Answer.TheVariants.{Bus as TheBus}
use Rattle.device_table.specs.Bank.{begun}
use Rattle.device_run.specs.Run.{Run, Steps}
use Rattle.device_run.proofs.Lines.{run_of, begun_whole, irq_steps}
use Rattle.device_run.proofs.run.DeviceRun.irq.Goals as goal

pub irq-requires-clause-whole : goal.irq-requires-clause-whole
irq-requires-clause-whole c = begun_whole c.self.inside.stack c.begin.new.self c.self.invariant (c.begin.ensures ∙ ap begun c.regs.ensures.value)

pub returns : goal.returns
returns c =
    subst (λ (r : Run). Steps r (run_of c.irq.new.self c.irq.new.classes c.self.inside.blocks) Irq (TheBus Done)) c.self.view_is
    (irq_steps c.self.inside.stack c.irq.new.self c.self.inside.classes c.irq.new.classes c.self.inside.blocks c.begin.new.self (c.begin.ensures ∙ ap begun c.regs.ensures.value) c.self.invariant.still
    c.irq.ensures.set c.irq.ensures.seen c.irq.ensures.spends.2 c.irq.ensures.order c.trace_fits.ensures)
