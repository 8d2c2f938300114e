-- The two texts of a run: what a line adds to them, and what waits of the output's.
use Rattle.std.specs.Prelude.{◌≡◌, ℕ, List, [], ◌++◌, map, Bool, true, false, Option}
use Rattle.std.specs.List.{flat_map}
use Rattle.dwc2_regs.specs.declared.access.Access.{Access}
use Rattle.usb_edge.specs.Stream.{Takes, TakesFront}
use Rattle.device_line.specs.declared.line.Answer.{Answer}
use Rattle.device_text.specs.Answers.{answer_line}
use Rattle.device_schedule.specs.Turns.{Turn}
use Rattle.device_text.specs.Trace.{register_text, ended, trace_text}
use Rattle.usbrun.specs.Stream.{Hands}
use Rattle.usbrun.specs.declared.texts.Texts.{Texts}

abbrev pub access_line : Access → List ℕ
access_line access = ended (register_text access)

abbrev pub access_lines : List Access → List ℕ
access_lines accesses = flat_map access_line accesses

-- what a line adds to the trace: a line for each of its accesses, and that of its answer
abbrev pub trace_part : List Access → Answer → List ℕ
trace_part accesses answer = access_lines accesses ++ answer_line answer

-- the register lines of a text: all where they are shown, else none
abbrev pub shown : Bool → List Access → List ℕ
shown true accesses = access_lines accesses
shown false accesses = []

-- and what a line adds to that output
abbrev pub out_part : Bool → List Access → Answer → List ℕ
out_part regs accesses answer = shown regs accesses ++ answer_line answer

abbrev pub added : Texts → List Access → Answer → Texts
added texts accesses answer = record texts { out = texts.out ++ out_part texts.regs accesses answer }

-- where the trace took the line's part; else the output gets nothing of the line
abbrev pub added_where : Bool → Texts → List Access → Answer → Texts
added_where true texts accesses answer = added texts accesses answer
added_where false texts accesses answer = texts

-- the output's text of lines and their answers: with register lines that of the trace, and else that of the answers
abbrev pub out_text : Bool → List Turn → List Answer → List ℕ
out_text true turns answers = trace_text turns
out_text false turns answers = flat_map answer_line answers

abbrev pub texts_of : Bool → List Turn → Texts
texts_of regs turns = record { regs = regs; out = out_text regs turns (map (λ turn. turn.answer) turns) }

-- the bytes that the two sinks took, where each tells them
pub record Took : Type 0 where
  pub out : Option (List ℕ)
  pub trace : Option (List ℕ)

abbrev pub both : Option (List ℕ) → Option (List ℕ) → Took
both taken traced = record { out = taken; trace = traced }

-- the trace's sink took a text, or where it failed the front of it
abbrev pub Hears : Bool → Option (List ℕ) → Option (List ℕ) → List ℕ → Type 0
Hears true traced traced' text = Takes traced traced' text
Hears false traced traced' text = TakesFront traced traced' text

-- the output's sink took the front of its text, and the rest waits
pub record HandsOut (taken taken' : Option (List ℕ)) (old new : Texts) : Type 0 where
  pub out : Hands taken taken' old.out new.out
  pub regs : new.regs ≡ old.regs
