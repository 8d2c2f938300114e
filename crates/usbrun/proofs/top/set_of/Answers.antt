use Rattle.usbrun.proofs.top.set_of.Goals as goal

pub returns-clause-refused : goal.returns-clause-refused
returns-clause-refused c = rw (c.as_slice.ensures.value, c.as_slice-2.ensures.value, c.report.ensures.value) at c.read_set.ensures.refused

pub returns-clause-accepted : goal.returns-clause-accepted
returns-clause-accepted c = rw (c.as_slice.ensures.value, c.as_slice-2.ensures.value, c.report.ensures.value) at c.read_set.ensures.accepted
