use Rattle.std.proofs.Common.{ap, ◌∙◌, subst}
use Rattle.usb_pipe.specs.Said.{reply_with}
use Rattle.device_line.specs.declared.line.DevLine.TheVariants.{Call}
use Rattle.device_line.specs.declared.line.Answer.TheVariants.{Reply as TheReply}
use Rattle.device_table.specs.Bank.{begun}
use Rattle.device_run.specs.Run.{Run, Steps}
use Rattle.device_run.proofs.Lines.{run_of, begun_whole, call_steps}
use Rattle.device_run.proofs.run.DeviceRun.ask_class.Goals as goal

pub ask-said-requires-clause-whole : goal.ask-said-requires-clause-whole
ask-said-requires-clause-whole c = begun_whole c.self.inside.stack c.begin.new.self c.self.invariant (c.begin.ensures ∙ ap begun c.regs.ensures.value)

pub returns-clause-steps : goal.returns-clause-steps
returns-clause-steps c =
    let said = reply_with c.ask-said.result c.ask-said.new.bytes.items in
    subst (λ (r : Run). Steps r (run_of c.ask-said.new.stack c.ask-said.new.classes c.self.inside.blocks) (Call c.args.call.now) (TheReply said)) c.self.view_is
    (call_steps c.self.inside.stack c.ask-said.new.stack c.self.inside.classes c.ask-said.new.classes c.self.inside.blocks c.begin.new.self c.args.call.now said c.requires.class
    (c.begin.ensures ∙ ap begun c.regs.ensures.value) c.self.invariant.still
    (record { reply = c.ask-said.ensures.reply; pipes = c.ask-said.ensures.pipes; classes = c.ask-said.ensures.classes; beside = c.ask-said.ensures.beside }) c.trace_fits.ensures)
