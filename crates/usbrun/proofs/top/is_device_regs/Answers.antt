use Rattle.std.proofs.Common.{codes}
use Rattle.usbrun.proofs.Endings.{two_words}
use Rattle.usbrun.proofs.top.is_device_regs.Goals as goal

pub returns-then-named : goal.returns-then-named
returns-then-named c =
    two_words c.args.words.now (codes "device") (codes "--regs") c.eq-named.result c.eq-shown.result _ _ c.if-words-ne2.false c.eq-named.ensures
    c.eq-shown.ensures c.if-named.true
