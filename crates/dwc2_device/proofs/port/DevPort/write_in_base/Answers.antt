-- The word's bits that act say where the write leads.
use Rattle.std.proofs.Common.{◌+◌, false}
use Rattle.dwc2_device.proofs.ControlBits.{enables, answers, opens, stays}
use Rattle.dwc2_device.proofs.InOrders.{enable_goes, answer_goes, stays_goes}
use Rattle.dwc2_device.proofs.port.DevPort.write_in_base.Goals as goal

pub returns-clause-enables : goal.returns-clause-enables
returns-clause-enables g c e =
    let base = c.base_word.result in
    enable_goes c.args.self.now c.write_in_control.new.self c.args.number (base + c.args.acts) c.requires.known (enables base c.args.acts c.base_word.ensures.few e)
    c.write_in_control.ensures.joint c.write_in_control.ensures.told

pub returns-clause-answers : goal.returns-clause-answers
returns-clause-answers g c e =
    let base = c.base_word.result in
    answer_goes c.args.self.now c.write_in_control.new.self c.args.number (base + c.args.acts) c.requires.known (answers base c.args.acts c.base_word.ensures.few e)
    c.write_in_control.ensures.joint c.write_in_control.ensures.told

pub returns-clause-opens : goal.returns-clause-opens
returns-clause-opens g c e =
    let base = c.base_word.result in
    stays_goes c.args.self.now c.write_in_control.new.self c.args.number false (base + c.args.acts) c.requires.known (opens base c.args.acts c.base_word.ensures.few e)
    c.write_in_control.ensures.joint c.write_in_control.ensures.told

pub returns-clause-stays : goal.returns-clause-stays
returns-clause-stays g c b e =
    let base = c.base_word.result in
    stays_goes c.args.self.now c.write_in_control.new.self c.args.number b (base + c.args.acts) c.requires.known (stays b base c.args.acts c.base_word.ensures.few e)
    c.write_in_control.ensures.joint c.write_in_control.ensures.told
