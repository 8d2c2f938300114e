-- One line more: the answer to it, and the state behind it.
use Rattle.std.proofs.Common.{◌≡◌, List, [], ◌∷◌, ◌++◌, refl, ap, ◌∙◌, append_assoc}
use Rattle.std.proofs.lemmas.List.{append-nil}
use Rattle.device_line.specs.declared.line.DevLine.{DevLine}
use Rattle.device_owners.specs.Device.{Device, World, Machinery, start}
use Rattle.device_owners.specs.Lines.{answer_to, after_line, after_lines, state_after, whole}
use Rattle.device_schedule.specs.Schedule.{answers_after, answers}

after_lines-more : {S : Type 0} (m : Machinery S) (d : Device S) (lines : List DevLine) (line : DevLine)
    → after_lines m d (lines ++ line ∷ []) ≡ after_line m (after_lines m d lines) line
after_lines-more m d [] line = refl
after_lines-more m d (l ∷ ls) line = after_lines-more m (after_line m d l) ls line

-- the whole device after one line more
pub state_after-more : {S : Type 0} (world : World S) (lines : List DevLine) (line : DevLine)
    → state_after (whole world) (lines ++ line ∷ []) ≡ after_line (whole world) (state_after (whole world) lines) line
state_after-more world lines line = after_lines-more (whole world) (start world) lines line

answers_after-more : {S : Type 0} (world : World S) (before lines : List DevLine) (line : DevLine)
    → answers_after world before (lines ++ line ∷ []) ≡ answers_after world before lines ++ answer_to world (before ++ lines) line ∷ []
answers_after-more world before [] line = rw (append-nil before) refl
answers_after-more world before (l ∷ ls) line =
    ap (λ rest. answer_to world before l ∷ rest)
    (answers_after-more world (before ++ l ∷ []) ls line
    ∙ ap (λ b. answers_after world (before ++ l ∷ []) ls ++ answer_to world b line ∷ []) (append_assoc before (l ∷ []) ls))

-- one line more adds its answer
pub answers-more : {S : Type 0} (world : World S) (lines : List DevLine) (line : DevLine)
    → answers world (lines ++ line ∷ []) ≡ answers world lines ++ answer_to world lines line ∷ []
answers-more world lines line = answers_after-more world [] lines line
