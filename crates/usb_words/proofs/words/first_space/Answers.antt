use Rattle.usb_words.proofs.Spaces.{space_found}
use Rattle.usb_words.proofs.words.first_space.Goals as goal

pub returns-then-line-ne32 : goal.returns-then-line-ne32
returns-then-line-ne32 c = space_found c.args.line.now c.memchr.result c.memchr.ensures
