use Rattle.std.proofs.Common.{ap, ◌∙◌}
use Rattle.device_table.specs.Bank.{begun}
use Rattle.std.proofs.Common.{subst}
use Rattle.device_run.proofs.Lines.{begun_whole, run_of, with_bank, state_steps}
use Rattle.device_run.specs.Run.{Run, Steps}
use Rattle.device_line.specs.declared.call.DevCall.TheVariants.{State}
use Rattle.device_line.specs.declared.line.DevLine.TheVariants.{Call}
use Rattle.device_line.specs.declared.line.Answer.TheVariants.{Reply as TheReply}
use Rattle.usb_pipe.specs.declared.reply.Reply.TheVariants.{Core}
use Rattle.device_run.proofs.run.DeviceRun.state.Goals as goal

pub invariant_of-self : goal.invariant_of-self
invariant_of-self c = begun_whole c.self.inside.stack c.begin.new.self c.self.invariant (c.begin.ensures ∙ ap begun c.regs.ensures.value)

pub returns : goal.returns
returns c =
    let d = c.self.inside.stack in
    subst (λ (r : Run). Steps r (run_of (with_bank d c.begin.new.self) c.self.inside.classes c.self.inside.blocks) (Call State) (TheReply (Core c.state-state.result.addr c.from.result))) c.self.view_is
    (state_steps d c.self.inside.classes c.self.inside.blocks c.begin.new.self c.state-state.result c.from.result (c.begin.ensures ∙ ap begun c.regs.ensures.value) c.state-state.ensures c.from.ensures)
