-- Some of many zeros.
use Rattle.std.proofs.Common.{ℕ, take, ap, ◌∙◌, arith}
use Rattle.std.specs.Prelude.{replicate}
use Rattle.hid_class.proofs.Rows.{take_zeros}
use Rattle.hid_class.proofs.reports.zeros.Goals as goal

pub returns-clause-zeros : goal.returns-clause-zeros
returns-clause-zeros c = ap (λ n. take {A = ℕ} n (replicate 255 0)) c.from.ensures ∙ take_zeros c.args.count 255 (omega (arith, c.ranges.count.fits))
