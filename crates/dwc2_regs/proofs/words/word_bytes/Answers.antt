-- Each byte by its place, as the definition takes them one after another.
use Rattle.std.proofs.Common.{◌∙◌}
use Rattle.dwc2_regs.proofs.WordLemmas.{four_bytes}
use Rattle.dwc2_regs.proofs.words.word_bytes.Goals as goal

pub returns : goal.returns
returns c = c.to_le_bytes.ensures ∙ four_bytes c.args.word
