-- The law.
use Rattle.dwc2_device.proofs.Noted.{notes_keep}
use Rattle.dwc2_device.proofs.notes.notes_keep.Goals as goal

pub returns : goal.returns
returns c = notes_keep
