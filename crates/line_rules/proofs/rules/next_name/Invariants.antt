use Rattle.std.proofs.Common.{◌≡◌, length}
use Rattle.line_rules.specs.Rules.{first_of, after_first}
use Rattle.line_rules.proofs.rules.next_name.Given as goal

-- no word stood before what is left
abbrev pub invariant-loop-word : goal.invariant-loop-word
invariant-loop-word l = (first_of l.words ≡ first_of l.fn.words) × (after_first l.words ≡ after_first l.fn.words)

abbrev pub decreases-loop-word : goal.decreases-loop-word
decreases-loop-word l = length l.words
