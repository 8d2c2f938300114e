-- The list of accesses begins anew, and all holds as before.
use Rattle.std.proofs.Common.{ap, ◌∙◌}
use Rattle.device_table.specs.Bank.{begun}
use Rattle.device_run.proofs.Lines.{begun_whole}
use Rattle.stack_tests.proofs.stack.task.Goals as goal

pub task-requires-clause-whole : goal.task-requires-clause-whole
task-requires-clause-whole c = begun_whole c.args.device.now.stack c.begin.new.self c.requires (c.begin.ensures ∙ ap begun c.regs.ensures.value)
