use Rattle.device_text.proofs.Traces.{text_left, trace_is_plain}
use Rattle.device_text.proofs.without_register_lines.Goals as goal

pub returns-clause-answers : goal.returns-clause-answers
returns-clause-answers c = text_left

pub returns-clause-plain : goal.returns-clause-plain
returns-clause-plain c = trace_is_plain
