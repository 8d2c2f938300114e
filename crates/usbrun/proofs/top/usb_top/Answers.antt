use Rattle.usbrun.proofs.Exactly.{claims, counts_rise}
use Rattle.usbrun.proofs.top.usb_top.Goals as goal

pub returns-clause-claims : goal.returns-clause-claims
returns-clause-claims g c = claims c.run_words-status.result _ _ c.run_words-status.ensures.cause c.run_words-status.ensures.faults

pub returns-clause-sink : goal.returns-clause-sink
returns-clause-sink g c = (counts_rise c.run_words-status.result _ c.run_words-status.ensures.faults).0

pub returns-clause-traced : goal.returns-clause-traced
returns-clause-traced g c = (counts_rise c.run_words-status.result _ c.run_words-status.ensures.faults).1
