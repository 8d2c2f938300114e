use Rattle.std.specs.Option.{option_map}
use Rattle.usb_descriptor.proofs.Faults.{verdict_kept}
use Rattle.usb_descriptor.proofs.set.read_set.Goals as goal

pub returns-clause-meets : goal.returns-clause-meets
returns-clause-meets c =
    let p = c.args.parts.now in
    verdict_kept p.device.now p.config.now c.bytes_of.result.items c.bytes_of-2.result.items (option_map (λ r. r.now) p.report)
    (option_map (λ r. r.items) c.report_of.result) c.args.limits c.bytes_of.ensures c.bytes_of-2.ensures c.report_of.ensures
    c.in_default.ensures.value
