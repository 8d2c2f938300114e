-- the count is 0 exactly where no entry of a SETUP lies there
use Rattle.std.proofs.Common.{ℕ, Bool, ap, ◌∙◌, sym}
use Rattle.std.specs.Prelude.{not, ◌==◌}
use Rattle.device_table.specs.Write.{setup_lies}
use Rattle.dwc2_devmodel.proofs.SetupLemmas.{setup_in_counted}
use Rattle.dwc2_devmodel.proofs.controller.Controller.setup_lies.Goals as goal

pub returns : goal.returns
returns c =
    let Some_lie : ℕ → Bool = λ n. not (n == 0) in
    ap Some_lie c.self.invariant.0.counted ∙ sym (setup_in_counted c.self.inside.rx.entries) ∙ ap setup_lies c.self.view_is
