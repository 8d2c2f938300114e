-- The text of the answers with one line more.
use Rattle.std.proofs.Common.{◌≡◌, List, [], ◌∷◌, ◌++◌, refl, ap, sym, ◌∙◌, append_assoc}
use Rattle.std.specs.List.{flat_map}
use Rattle.std.proofs.lemmas.List.{append-nil}
use Rattle.device_owners.specs.Device.{World}
use Rattle.device_owners.specs.Lines.{answer_to}
use Rattle.device_line.specs.declared.line.DevLine.{DevLine}
use Rattle.device_line.specs.declared.line.Answer.{Answer}
use Rattle.device_schedule.specs.Schedule.{answers}
use Rattle.device_text.specs.Answers.{answer_line, device_text}
use Rattle.device_schedule.proofs.Answers.{answers-more}

text-append : (xs ys : List Answer) → flat_map answer_line (xs ++ ys) ≡ flat_map answer_line xs ++ flat_map answer_line ys
text-append [] ys = refl
text-append (x ∷ xs) ys = ap (λ t. answer_line x ++ t) (text-append xs ys) ∙ sym (append_assoc (answer_line x) (flat_map answer_line xs) (flat_map answer_line ys))

-- one line more adds the line of its answer
pub device_text-more : {S : Type 0} (world : World S) (lines : List DevLine) (line : DevLine)
    → device_text world (lines ++ line ∷ []) ≡ device_text world lines ++ answer_line (answer_to world lines line)
device_text-more world lines line =
    ap (flat_map answer_line) (answers-more world lines line)
    ∙ text-append (answers world lines) (answer_to world lines line ∷ [])
    ∙ ap (λ t. device_text world lines ++ t) (append-nil (answer_line (answer_to world lines line)))
