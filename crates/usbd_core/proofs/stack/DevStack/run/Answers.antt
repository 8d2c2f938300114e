-- A handler run, with its notes taken.
use Rattle.usbd_core.proofs.Wholes.{irq_whole}
use Rattle.std.proofs.Common.{◌≡◌, ap, ◌∙◌, subst}
use Rattle.dwc2_regs.specs.declared.access.TheConstants.{FS4}
use Rattle.device_rings.specs.Rings.{Rings}
use Rattle.device_relation.specs.PipeRelation.{IsSound}
use Rattle.device_relation.specs.Port.{port_of, after_handler}
use Rattle.access_order.specs.Phase.{serving, over}
use Rattle.dwc2_device.specs.Driver.{Driver, joint}
use Rattle.dwc2_device.specs.Order.{Goes}
use Rattle.usbd_core.specs.Device.{Device, Agrees, port_in}
use Rattle.usbd_core.specs.Hears.{after_note}
use Rattle.usbd_core.proofs.Irq.{Heard, run_heard, with_both}
use Rattle.usbd_core.proofs.Ordered.{heard_on}
use Rattle.usbd_core.proofs.stack.DevStack.run.Goals as goal

-- the device that is seen at the start
from_view : (view old : Device) (d : Driver) (rings : Rings) (one two : Device) → view ≡ old → Agrees FS4 old → IsSound FS4 (joint d) rings → port_of (joint d) rings ≡ after_handler (port_in view)
    → one ≡ after_note (with_both view d rings) → two ≡ after_note one → Heard old two
from_view view old d rings one two v a st e first second =
    run_heard old d rings one two a st (e ∙ ap (λ (x : Device). after_handler (port_in x)) v) (first ∙ ap (λ (x : Device). after_note (with_both x d rings)) v) second

pub returns-clause-core : goal.returns-clause-core
returns-clause-core g c =
    (from_view _ c.args.self.now c.run_handler.new.self c.run_handler.new.rings c.hear.new.self c.hear-2.new.self c.self.view_is c.requires.whole.agrees c.run_handler.ensures.sound c.run_handler.ensures.port c.hear.ensures c.hear-2.ensures).core

order_on : (view old : Device) (d : Driver) (rings : Rings) (one two : Device) → view ≡ old → Goes (serving 0) over view.port d → one ≡ after_note (with_both view d rings) → two ≡ after_note one
    → Goes (serving 0) over old.port two.port
order_on view old d rings one two v run first second =
    subst (λ (x : Device). Goes (serving 0) over x.port two.port) v
    (heard_on (serving 0) view.port one two second (heard_on (serving 0) view.port (with_both view d rings) one first run))

pub returns-clause-order : goal.returns-clause-order
returns-clause-order g c =
    order_on _ c.args.self.now c.run_handler.new.self c.run_handler.new.rings c.hear.new.self c.hear-2.new.self c.self.view_is c.run_handler.ensures.order c.hear.ensures c.hear-2.ensures

pub returns-clause-whole : goal.returns-clause-whole
returns-clause-whole g c =
    let heard = from_view _ c.args.self.now c.run_handler.new.self c.run_handler.new.rings c.hear.new.self c.hear-2.new.self c.self.view_is c.requires.whole.agrees c.run_handler.ensures.sound c.run_handler.ensures.port c.hear.ensures c.hear-2.ensures in
    irq_whole _ c.args.self.now c.run_handler.new.self c.run_handler.new.rings c.hear.new.self c.hear-2.new.self c.self.view_is c.requires.whole heard.agrees heard.core
    c.hear.ensures c.hear-2.ensures c.run_handler.ensures.capacities c.run_handler.ensures.spends.1
