use Rattle.std.proofs.Common.{sym, ◌∙◌, inl, inr, refl}
use Rattle.usb_text.proofs.Plain.{head_is_short}
use Rattle.job_reader.proofs.Heads.{head_taken, head_refused, head_long}
use Rattle.job_reader.proofs.head.next_head.Goals as goal

pub returns-then-not-accepts-clause-head : goal.returns-then-not-accepts-clause-head
returns-then-not-accepts-clause-head g c =
    head_refused 8 _ c.in-Line.n _ _ _ _ _ _ c.in-Line.ensures.finds c.in-Line.ensures.next c.in-Line.ensures.ended
    (inr (refl, (c.in-Ok.line, c.in-Ok.ensures.found.1, sym c.line.ensures ∙ c.in-Ok.ensures.found.0, sym c.if-not-accepts.ensures)))

pub returns-else-not-accepts-clause-head : goal.returns-else-not-accepts-clause-head
returns-else-not-accepts-clause-head g c =
    head_taken c.in-Ok.line _ c.in-Line.n _ _ _ _ _ c.in-Line.ensures.finds c.in-Line.ensures.next
    (sym c.line.ensures ∙ c.in-Ok.ensures.found.0) c.in-Ok.ensures.found.1 (sym c.if-not-accepts.ensures)
    c.take.ensures.reader c.take.ensures.ended c.take.ensures.count c.take.ensures.lines (head_is_short c.in-Ok.line c.in-Ok.ensures.found.1)

pub returns-in-Err-clause-head : goal.returns-in-Err-clause-head
returns-in-Err-clause-head g c =
    head_refused c.in-Err.fault.rule _ c.in-Line.n _ _ _ _ _ _ c.in-Line.ensures.finds c.in-Line.ensures.next c.in-Line.ensures.ended
    (inl (rw c.line.ensures at c.in-Err.ensures.rule))

pub returns-in-LineTooLong-clause-head : goal.returns-in-LineTooLong-clause-head
returns-in-LineTooLong-clause-head g c = head_long _ _ _ _ _ _ _ c.in-LineTooLong.ensures.finds c.in-LineTooLong.ensures.next.0 c.in-LineTooLong.ensures.next.1
