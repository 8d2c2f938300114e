use Rattle.std.proofs.Common.{codes}
use Rattle.usbrun.proofs.Endings.{one_word}
use Rattle.usbrun.proofs.top.is_device.Goals as goal

pub returns-then-words-eq1 : goal.returns-then-words-eq1
returns-then-words-eq1 c = one_word c.args.words.now (codes "device") c.eq.result _ c.if-words-eq1.true c.eq.ensures
