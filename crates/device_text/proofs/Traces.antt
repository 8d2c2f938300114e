-- A trace with one line more, and the lines of a trace.
use Rattle.std.proofs.Common.{◌≡◌, ℕ, List, [], ◌∷◌, ◌++◌, Bool, true, false, not, ◌&&◌, ◌||◌, eqb, map, filter, refl, ap, sym, ◌∙◌, append_assoc}
use Rattle.std.specs.List.{flat_map, list_all, onto_first}
use Rattle.std.proofs.lemmas.List.{append-nil}
use Rattle.dwc2_regs.specs.declared.access.TheConstants.{FS4}
use Rattle.dwc2_regs.specs.declared.access.Access.{Access}
use Rattle.device_table.specs.State.{Table, opened}
use Rattle.device_owners.specs.Device.{World}
use Rattle.device_owners.specs.Lines.{answer_to}
use Rattle.register_text.specs.declared.access.Side.TheVariants.{Plain}
use Rattle.device_line.specs.declared.line.DevLine.{DevLine}
use Rattle.device_line.specs.declared.line.Answer.{Answer}
use Rattle.usb_text.specs.Line.{answer_text, newline}
use Rattle.usb_text.specs.Plain.{is_plain}
use Rattle.usb_text.proofs.Accesses.{is_way, is_side, begins_an_access, answer_begins, access_is_plain}
use Rattle.usb_text.proofs.Replies.{answer_is_plain}
use Rattle.device_schedule.specs.Schedule.{answers}
use Rattle.device_text.specs.Answers.{answer_line, device_text}
use Rattle.device_schedule.specs.Turns.{Turn, IsTurn, after_turn, after_turns, AreTurns, IsTrace}
use Rattle.device_text.specs.Trace.{register_text, turn_lines, trace_lines, ended, trace_text, turn_text, tells_access, text_lines, without_registers}
use Rattle.device_schedule.proofs.Answers.{answers-more}
use Rattle.device_text.proofs.Closed.{both, plain_first, plain_rest}

map-more : {A B : Type 0} (f : A → B) (xs : List A) (x : A) → map f (xs ++ x ∷ []) ≡ map f xs ++ f x ∷ []
map-more f [] x = refl
map-more f (y ∷ ys) x = ap (λ t. f y ∷ t) (map-more f ys x)

flat-append : {A : Type 0} (f : A → List ℕ) (xs ys : List A) → flat_map f (xs ++ ys) ≡ flat_map f xs ++ flat_map f ys
flat-append f [] ys = refl
flat-append f (x ∷ xs) ys = ap (λ t. f x ++ t) (flat-append f xs ys) ∙ sym (append_assoc (f x) (flat_map f xs) (flat_map f ys))

-- one turn more

pub after_turns-more : (t : Table) (turns : List Turn) (turn : Turn)
    → after_turns t (turns ++ turn ∷ []) ≡ after_turn (after_turns t turns) turn.line turn.accesses
after_turns-more t [] turn = refl
after_turns-more t (u ∷ us) turn = after_turns-more (after_turn t u.line u.accesses) us turn

pub are_turns-more : (t : Table) (turns : List Turn) (turn : Turn) → AreTurns t turns
    → IsTurn (after_turns t turns) turn.line turn.accesses turn.answer → AreTurns t (turns ++ turn ∷ [])
are_turns-more t [] turn h k = (k, tt)
are_turns-more t (u ∷ us) turn h k = (h.0, are_turns-more (after_turn t u.line u.accesses) us turn h.1 k)

trace_lines-more : (turns : List Turn) (turn : Turn) → trace_lines (turns ++ turn ∷ []) ≡ trace_lines turns ++ turn_lines turn
trace_lines-more [] turn = append-nil (turn_lines turn)
trace_lines-more (u ∷ us) turn = ap (λ t. turn_lines u ++ t) (trace_lines-more us turn) ∙ sym (append_assoc (turn_lines u) (trace_lines us) (turn_lines turn))

pub trace_text-more : (turns : List Turn) (turn : Turn) → trace_text (turns ++ turn ∷ []) ≡ trace_text turns ++ turn_text turn
trace_text-more turns turn = ap (flat_map ended) (trace_lines-more turns turn) ∙ flat-append ended (trace_lines turns) (turn_lines turn)

-- a run that goes on by one line
pub trace-more : {S : Type 0} (world : World S) (lines : List DevLine) (turns : List Turn) (turn : Turn) → IsTrace world lines turns
    → turn.answer ≡ answer_to world lines turn.line → IsTurn (after_turns (opened FS4) turns) turn.line turn.accesses turn.answer
    → IsTrace world (lines ++ turn.line ∷ []) (turns ++ turn ∷ [])
trace-more world lines turns turn h answered k = record {
  lines = map-more (λ u. u.line) turns turn ∙ ap (λ t. t ++ turn.line ∷ []) h.lines;
  answers =
      map-more (λ u. u.answer) turns turn ∙ ap (λ t. t ++ turn.answer ∷ []) h.answers ∙ ap (λ a. answers world lines ++ a ∷ []) answered
      ∙ sym (answers-more world lines turn.line);
  run = are_turns-more (opened FS4) turns turn h.run k;
}

-- the accesses and then the answer

registers-ended : (accesses : List Access) → flat_map ended (map register_text accesses) ≡ flat_map (λ a. ended (register_text a)) accesses
registers-ended [] = refl
registers-ended (a ∷ more) = ap (λ t. ended (register_text a) ++ t) (registers-ended more)

pub turn_text-parts : (turn : Turn) → turn_text turn ≡ flat_map (λ a. ended (register_text a)) turn.accesses ++ answer_line turn.answer
turn_text-parts turn =
    flat-append ended (map register_text turn.accesses) (answer_text turn.answer ∷ [])
    ∙ ap (λ t. t ++ (answer_line turn.answer ++ [])) (registers-ended turn.accesses)
    ∙ ap (λ t. flat_map (λ a. ended (register_text a)) turn.accesses ++ t) (append-nil (answer_line turn.answer))

-- Without the lines of accesses those of the answers are left.

access_tells : (a : Access) → tells_access (register_text a) ≡ true
access_tells a = by_way a.write where
  by_way : (write : Bool) → tells_access (register_text (record a { write = write })) ≡ true
  by_way true = refl
  by_way false = refl

or_false : (a b : Bool) → (a || b) ≡ false → a ≡ false
or_false true b h = absurd (cc)
or_false false b h = refl

none_begins : (line : List ℕ) → begins_an_access line ≡ false → tells_access line ≡ false
none_begins [] h = refl
none_begins (a ∷ []) h = refl
none_begins (a ∷ b ∷ rest) h = or_false (is_way a && eqb b 32) (is_side a && is_way b) h

answer_tells : (a : Answer) → tells_access (answer_text a) ≡ false
answer_tells a = none_begins (answer_text a) (answer_begins a)

abbrev is_answer : List ℕ → Bool
is_answer line = not (tells_access line)

turn_left : (accesses : List Access) (a : Answer) (rest : List (List ℕ))
    → filter is_answer ((map register_text accesses ++ answer_text a ∷ []) ++ rest) ≡ answer_text a ∷ filter is_answer rest
turn_left [] a rest = rw (answer_tells a) refl
turn_left (x ∷ xs) a rest = rw (access_tells x) (turn_left xs a rest)

answers_left : (turns : List Turn) → filter is_answer (trace_lines turns) ≡ map answer_text (map (λ turn. turn.answer) turns)
answers_left [] = refl
answers_left (u ∷ us) = turn_left u.accesses u.answer (trace_lines us) ∙ ap (λ t. answer_text u.answer ∷ t) (answers_left us)

plain_registers : (accesses : List Access) (rest : List (List ℕ)) → list_all is_plain rest ≡ true → list_all is_plain (map register_text accesses ++ rest) ≡ true
plain_registers [] rest h = h
plain_registers (a ∷ more) rest h = rw (access_is_plain a Plain) (plain_registers more rest h)

pub trace_is_plain : (turns : List Turn) → list_all is_plain (trace_lines turns) ≡ true
trace_is_plain [] = refl
trace_is_plain (u ∷ us) =
    rw (append_assoc (map register_text u.accesses) (answer_text u.answer ∷ []) (trace_lines us))
    (plain_registers u.accesses (answer_text u.answer ∷ trace_lines us) (rw (answer_is_plain u.answer) (trace_is_plain us)))

-- and the same of the text

first_line : (line rest : List ℕ) → is_plain line ≡ true → text_lines (line ++ newline ∷ rest) ≡ line ∷ text_lines rest
first_line [] rest p = refl
first_line (b ∷ bs) rest p = rw (plain_first b bs p) (ap (onto_first b) (first_line bs rest (plain_rest b bs p)))

pub lines_again : (lines : List (List ℕ)) → list_all is_plain lines ≡ true → text_lines (flat_map ended lines) ≡ lines
lines_again [] p = refl
lines_again (line ∷ lines) p =
    let parts = both (is_plain line) (list_all is_plain lines) p in
    ap text_lines (append_assoc line (newline ∷ []) (flat_map ended lines)) ∙ first_line line (flat_map ended lines) parts.0
    ∙ ap (λ t. line ∷ t) (lines_again lines parts.1)

answers-ended : (answers : List Answer) → flat_map ended (map answer_text answers) ≡ flat_map answer_line answers
answers-ended [] = refl
answers-ended (a ∷ more) = ap (λ t. answer_line a ++ t) (answers-ended more)

pub text_left : (turns : List Turn) → without_registers (trace_text turns) ≡ flat_map answer_line (map (λ turn. turn.answer) turns)
text_left turns =
    ap (λ lines. flat_map ended (filter is_answer lines)) (lines_again (trace_lines turns) (trace_is_plain turns))
    ∙ ap (flat_map ended) (answers_left turns) ∙ answers-ended (map (λ turn. turn.answer) turns)

-- of a run it is the text of the answers to its schedule
pub run_left : {S : Type 0} (world : World S) (lines : List DevLine) (turns : List Turn) → IsTrace world lines turns → without_registers (trace_text turns) ≡ device_text world lines
run_left world lines turns h = text_left turns ∙ ap (flat_map answer_line) h.answers
