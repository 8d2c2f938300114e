use Rattle.std.proofs.Common.{ap, ◌∙◌, subst}
use Rattle.usb_packet.specs.declared.bus.BusAnswer.TheVariants.{Done}
use Rattle.device_line.specs.declared.line.DevLine.TheVariants.{Task}
use Rattle.device_line.specs.declared.line.Answer.TheVariants.{Bus as TheBus}
use Rattle.device_table.specs.Bank.{begun}
use Rattle.device_run.specs.Run.{Run, Steps}
use Rattle.device_run.proofs.Lines.{run_of, begun_whole, task_steps}
use Rattle.device_run.proofs.run.DeviceRun.task.Goals as goal

pub task-requires-clause-whole : goal.task-requires-clause-whole
task-requires-clause-whole c = begun_whole c.self.inside.stack c.begin.new.self c.self.invariant (c.begin.ensures ∙ ap begun c.regs.ensures.value)

pub returns : goal.returns
returns c =
    subst (λ (r : Run). Steps r (run_of c.task.new.self c.task.new.classes c.self.inside.blocks) Task (TheBus Done)) c.self.view_is
    (task_steps c.self.inside.stack c.task.new.self c.self.inside.classes c.task.new.classes c.self.inside.blocks c.begin.new.self (c.begin.ensures ∙ ap begun c.regs.ensures.value) c.self.invariant.still
    c.task.ensures.set c.task.ensures.seen c.task.ensures.spends.2 c.task.ensures.order c.trace_fits.ensures)
