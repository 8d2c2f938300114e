-- The bytes that are kept are the first of the four.
use Rattle.std.proofs.Common.{◌∙◌, ap, take}
use Rattle.dwc2_regs.proofs.WordLemmas.{take-bytes_of}
use Rattle.dwc2_regs.proofs.words.unpack_word.Goals as goal

pub returns : goal.returns
returns c =
    let whole = c.from-bytes.ensures.0 ∙ c.word_bytes.ensures in
    c.truncate.ensures.items ∙ ap (take c.args.n) whole ∙ take-bytes_of c.args.n 4 c.args.word c.requires.within
