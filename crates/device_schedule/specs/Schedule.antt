-- The answers to a device's schedule, line by line: each is that of its owner's own machine over that owner's part of the lines before.
use Rattle.std.specs.Prelude.{List, [], ◌∷◌, ◌++◌}
use Rattle.device_line.specs.declared.line.DevLine.{DevLine}
use Rattle.device_line.specs.declared.line.Answer.{Answer}
use Rattle.device_owners.specs.Device.{World}
use Rattle.device_owners.specs.Lines.{answer_to}

-- the answers to lines, after those before them
abbrev pub answers_after : {S : Type 0} → World S → List DevLine → List DevLine → List Answer
answers_after world before [] = []
answers_after world before (line ∷ lines) = answer_to world before line ∷ answers_after world (before ++ line ∷ []) lines

-- the answers to a whole schedule
abbrev pub answers : {S : Type 0} → World S → List DevLine → List Answer
answers world lines = answers_after world [] lines
