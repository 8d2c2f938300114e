use Rattle.std.proofs.Common.{sym, subst}
use Rattle.usb_descriptor.specs.Set.{Set, endpoints_of}
use Rattle.usb_descriptor.specs.Served.{AreServed}
use Rattle.usb_descriptor.specs.Owners.{AreGrouped}
use Rattle.device_laws.proofs.accepted_sets_have_laws.Goals as goal

pub returns : goal.returns
returns g c = λ limits accepted world same. record {
  limits = limits;
  served = subst (λ (set : Set). AreServed limits (endpoints_of set.config)) (sym same) (c.acceptance_serves.ensures limits accepted);
  grouped = subst AreGrouped (sym same) (c.endpoints_are_grouped.ensures.built limits accepted);
}
