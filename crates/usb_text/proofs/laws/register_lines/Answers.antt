use Rattle.register_text.proofs.Accesses.{access_told}
use Rattle.usb_text.proofs.Accesses.{access_is_plain}
use Rattle.usb_text.proofs.laws.register_lines.Goals as goal

pub returns-clause-told : goal.returns-clause-told
returns-clause-told c = access_told

pub returns-clause-plain : goal.returns-clause-plain
returns-clause-plain c = access_is_plain
