use Rattle.usbd_core.proofs.Wholes.{event_whole}
use Rattle.usbd_core.proofs.laws.events_keep_whole.Goals as goal

pub returns : goal.returns
returns c = event_whole
