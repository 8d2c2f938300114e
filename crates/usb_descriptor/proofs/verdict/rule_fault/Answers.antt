use Rattle.std.proofs.Common.{ap, ◌∙◌}
use Rattle.usb_descriptor.specs.Verdict.{fault_at}
use Rattle.usb_descriptor.proofs.verdict.rule_fault.Goals as goal

pub returns-in-Sizes : goal.returns-in-Sizes
returns-in-Sizes c = rw c.in-Sizes.is (c.fault_at.ensures ∙ ap (fault_at 8) (rw c.in-Sizes.is at c.first_broken.ensures))

pub returns-in-Counts : goal.returns-in-Counts
returns-in-Counts c = rw c.in-Counts.is (c.fault_at-in-Counts.ensures ∙ ap (fault_at 10) (rw c.in-Counts.is at c.first_broken-in-Counts.ensures))

pub returns-in-Addresses : goal.returns-in-Addresses
returns-in-Addresses c = rw c.in-Addresses.is (c.fault_at-in-Addresses.ensures ∙ ap (fault_at 11) (rw c.in-Addresses.is at c.first_broken-in-Addresses.ensures))

pub returns-in-Packets : goal.returns-in-Packets
returns-in-Packets c = rw c.in-Packets.is (c.fault_at-in-Packets.ensures ∙ ap (fault_at 12) (rw c.in-Packets.is at c.first_broken-in-Packets.ensures))

pub returns-in-Tops : goal.returns-in-Tops
returns-in-Tops c = rw c.in-Tops.is (c.fault_at-in-Tops.ensures ∙ ap (fault_at 13) (rw c.in-Tops.is at c.first_broken-in-Tops.ensures))

pub returns-in-Spans : goal.returns-in-Spans
returns-in-Spans c = rw c.in-Spans.is (c.fault_at-in-Spans.ensures ∙ ap (fault_at 14) (rw c.in-Spans.is at c.first_broken-in-Spans.ensures))
