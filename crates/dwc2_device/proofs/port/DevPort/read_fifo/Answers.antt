-- A word of what was popped is read.
use Rattle.dwc2_device.proofs.OutSteps.{reads_word}
use Rattle.dwc2_device.proofs.port.DevPort.read_fifo.Goals as goal

pub returns-clause-order : goal.returns-clause-order
returns-clause-order g c = reads_word c.args.self.now c.read.new.self _ c.fifo_window.result _ c.fifo_window.ensures.value c.read.ensures.joint c.read.ensures.told
