-- The text of a trace: the lines of accesses among those of the answers.
use Rattle.std.specs.Prelude.{ℕ, List, [], ◌∷◌, ◌++◌, map, filter, Bool, false, not, ◌==◌, ◌&&◌, ◌||◌, if◌then◌else◌}
use Rattle.std.specs.List.{flat_map, onto_first}
use Rattle.dwc2_regs.specs.declared.access.Access.{Access}
use Rattle.register_text.specs.declared.access.Side.TheVariants.{Plain}
use Rattle.register_text.specs.Access.{access_text}
use Rattle.usb_text.specs.Line.{answer_text, newline}
use Rattle.device_schedule.specs.Turns.{Turn}

-- a line for each access, and behind them that of the answer
abbrev pub register_text : Access → List ℕ
register_text access = access_text access Plain

abbrev pub turn_lines : Turn → List (List ℕ)
turn_lines turn = map register_text turn.accesses ++ answer_text turn.answer ∷ []

abbrev pub trace_lines : List Turn → List (List ℕ)
trace_lines turns = flat_map turn_lines turns

abbrev pub ended : List ℕ → List ℕ
ended line = line ++ newline ∷ []

abbrev pub trace_text : List Turn → List ℕ
trace_text turns = flat_map ended (trace_lines turns)

-- what one turn adds to it
abbrev pub turn_text : Turn → List ℕ
turn_text turn = flat_map ended (turn_lines turn)

-- whether a line tells an access: `r` or `w` is its first word
abbrev pub tells_access : List ℕ → Bool
tells_access (a ∷ b ∷ rest) = ((a == 114) || (a == 119)) && (b == 32)
tells_access (a ∷ []) = false
tells_access [] = false

-- The text without its register lines.

-- the lines of a text: each ends before its newline, and the last one where the text ends
abbrev pub text_lines : List ℕ → List (List ℕ)
text_lines [] = []
text_lines (b ∷ bs) = if b == newline then [] ∷ text_lines bs else onto_first b (text_lines bs)

-- those of its lines that tell no access, each with a newline behind it
abbrev pub without_registers : List ℕ → List ℕ
without_registers text = flat_map ended (filter (λ line. not (tells_access line)) (text_lines text))
