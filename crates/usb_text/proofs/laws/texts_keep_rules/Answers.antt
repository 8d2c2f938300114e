use Rattle.usb_text.proofs.Lines.{kept_is_line}
use Rattle.usb_text.proofs.Broken.{schedule_text, head_line_text}
use Rattle.usb_text.proofs.laws.texts_keep_rules.Goals as goal

pub returns-clause-in_schedule : goal.returns-clause-in_schedule
returns-clause-in_schedule c = schedule_text

pub returns-clause-in_head : goal.returns-clause-in_head
returns-clause-in_head c = head_line_text

pub returns-clause-in_place : goal.returns-clause-in_place
returns-clause-in_place c = kept_is_line
