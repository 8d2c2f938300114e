-- What the sinks took of the texts of a schedule.
use Rattle.std.specs.Prelude.{◌≡◌, ℕ, List, [], ◌++◌, map, Bool, true, Option, None}
use Rattle.usb_edge.specs.Stream.{Takes, TakesFront}
use Rattle.device_line.specs.declared.line.DevLine.{DevLine}
use Rattle.usb_text.specs.declared.head.HeadLine.{HeadLine}
use Rattle.access_order.specs.Order.{are_runs, unused}
use Rattle.device_schedule.specs.Schedule.{answers}
use Rattle.device_text.specs.Answers.{device_text}
use Rattle.device_schedule.specs.Turns.{Turn, IsTrace}
use Rattle.device_text.specs.Trace.{trace_text, without_registers}
use Rattle.device_text.specs.Outcome.{set_of}
use Rattle.device_world.specs.World.{world_of}
use Rattle.usbrun.specs.Texts.{out_text}

-- a run's source and sinks, before and after it
pub record Ways : Type 0 where
  -- the bytes that the source had and has left, where it tells them, and its count of faults
  pub left : Option (List ℕ)
  pub left' : Option (List ℕ)
  pub src_faults : ℕ
  pub src_faults' : ℕ
  -- the bytes that the output's sink took, where it tells them, and its count of faults
  pub taken : Option (List ℕ)
  pub taken' : Option (List ℕ)
  pub out_faults : ℕ
  pub out_faults' : ℕ
  -- the same of the trace's sink
  pub traced : Option (List ℕ)
  pub traced' : Option (List ℕ)
  pub trace_faults : ℕ
  pub trace_faults' : ℕ

abbrev pub ways : (left left' : Option (List ℕ)) (src_faults src_faults' : ℕ) (taken taken' : Option (List ℕ)) (out_faults out_faults' : ℕ)
    (traced traced' : Option (List ℕ)) (trace_faults trace_faults' : ℕ) → Ways
ways left left' src_faults src_faults' taken taken' out_faults out_faults' traced traced' trace_faults trace_faults' = record {
  left = left;
  left' = left';
  src_faults = src_faults;
  src_faults' = src_faults';
  taken = taken;
  taken' = taken';
  out_faults = out_faults;
  out_faults' = out_faults';
  traced = traced;
  traced' = traced';
  trace_faults = trace_faults;
  trace_faults' = trace_faults';
}

-- the accesses of these lines, one line after another from the opened state on, are in the order that is written after RM0090's programming model
abbrev pub AreInOrder : List Turn → Type 0
AreInOrder turns = are_runs unused (map (λ turn. turn.accesses) turns) ≡ true

-- Each sink took its text and nothing else: the trace's one that of the schedule's lines with their accesses and answers.
-- Of a sink that tells nothing its text is still one of a real trace.
pub record Writes (regs : Bool) (head : List HeadLine) (schedule : List DevLine) (w : Ways) : Type 0 where
  pub turns : List Turn
  pub is_trace : IsTrace (world_of (set_of head) None) schedule turns
  pub in_order : AreInOrder turns
  pub trace : Takes w.traced w.traced' (trace_text turns)
  -- without its register lines the trace's text is that of the answers
  pub told : without_registers (trace_text turns) ≡ device_text (world_of (set_of head) None) schedule
  pub out : Takes w.taken w.taken' (out_text regs turns (answers (world_of (set_of head) None) schedule))

-- Each took the front of its text, and the trace is never behind the output: of some of the first lines the trace has the
-- whole text, and the output has nothing that goes beyond theirs.
pub record WritesFront (regs : Bool) (head : List HeadLine) (schedule : List DevLine) (w : Ways) : Type 0 where
  pub turns : List Turn
  pub is_trace : IsTrace (world_of (set_of head) None) schedule turns
  pub in_order : AreInOrder turns
  pub trace : TakesFront w.traced w.traced' (trace_text turns)
  pub out : TakesFront w.taken w.taken' (out_text regs turns (answers (world_of (set_of head) None) schedule))
  -- those first lines, and the others
  pub done : List Turn
  pub rest : List Turn
  pub lines : turns ≡ done ++ rest
  pub more : List ℕ
  pub ahead : trace.given ≡ trace_text done ++ more
  pub waiting : List ℕ
  pub behind : out_text regs done (map (λ turn. turn.answer) done) ≡ out.given ++ waiting

-- neither took anything
abbrev pub WritesNothing : Ways → Type 0
WritesNothing w = Takes w.taken w.taken' [] × Takes w.traced w.traced' []
