use Rattle.std.proofs.Common.{ap, ◌∙◌, subst}
use Rattle.device_line.specs.declared.line.DevLine.TheVariants.{Bus}
use Rattle.device_line.specs.declared.line.Answer.TheVariants.{Bus as TheBus}
use Rattle.device_table.specs.Bank.{begun}
use Rattle.device_run.specs.Run.{Run, Steps}
use Rattle.device_run.proofs.Lines.{run_of, with_bank, bus_steps, event_whole}
use Rattle.device_run.proofs.run.DeviceRun.bus.Goals as goal

pub returns : goal.returns
returns c =
    let d = c.self.inside.stack in
    let e = c.args.event.now in
    subst (λ (r : Run). Steps r (run_of (with_bank d c.bus.new.self) c.self.inside.classes c.self.inside.blocks) (Bus e) (TheBus c.bus.result)) c.self.view_is
    (bus_steps d c.self.inside.classes c.self.inside.blocks c.begin.new.self c.bus.new.self e c.bus.result (c.bus_keeps.ensures d e c.self.invariant.agrees c.event_fits.ensures)
    (c.begin.ensures ∙ ap begun c.regs-controller.ensures.value) c.bus.ensures.answer c.bus.ensures.after)

pub invariant_of-self : goal.invariant_of-self
invariant_of-self c =
    let d = c.self.inside.stack in
    let e = c.args.event.now in
    event_whole d c.begin.new.self c.bus.new.self e (c.events_keep_whole.ensures d e c.self.invariant c.event_fits.ensures) (c.begin.ensures ∙ ap begun c.regs-controller.ensures.value) c.bus.ensures.after
