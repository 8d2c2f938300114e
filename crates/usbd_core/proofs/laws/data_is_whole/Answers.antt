use Rattle.usbd_core.proofs.Whole.{whole}
use Rattle.usbd_core.proofs.laws.data_is_whole.Goals as goal

pub returns : goal.returns
returns c = whole
