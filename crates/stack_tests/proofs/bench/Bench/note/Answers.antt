-- The law of notes.
use Rattle.std.proofs.Common.{ap, sym, ◌∙◌, subst}
use Rattle.dwc2_regs.specs.declared.access.TheConstants.{FS4}
use Rattle.device_table.specs.Bank.{Bank}
use Rattle.device_relation.specs.PipeRelation.{IsSound}
use Rattle.dwc2_device.specs.Driver.{joint}
use Rattle.stack_tests.proofs.bench.Bench.note.Goals as goal

pub invariant_of-self : goal.invariant_of-self
invariant_of-self c =
    let b = c.self.inside in
    let kept = c.notes_keep.ensures (joint b.port) b.rings c.self.invariant.0 in
    (subst (λ j. IsSound FS4 j b.rings) (sym c.next_note.ensures.after) kept.0, ap (λ (x : Bank). x.due) c.next_note.ensures.bank ∙ c.self.invariant.1)
