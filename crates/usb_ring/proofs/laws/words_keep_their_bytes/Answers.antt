use Rattle.usb_ring.proofs.Words.{low_bytes-number_of}
use Rattle.usb_ring.proofs.laws.words_keep_their_bytes.Goals as goal

pub returns : goal.returns
returns c = low_bytes-number_of
