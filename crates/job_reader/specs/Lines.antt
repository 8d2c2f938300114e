-- Lines that were found and taken, one after another.
use Rattle.std.specs.Prelude.{◌≡◌, ℕ, ◌+◌, ◌<◌, ◌≤◌, List, [], ◌∷◌, ◌++◌, true, false, length, take, drop, min, Option, ◌⊎◌}
use Rattle.usb_edge.specs.Stream.{Reads, Rose}
use Rattle.line_rules.specs.Rules.{most_line}
use Rattle.usb_text.specs.Line.{newline}
use Rattle.usb_text.specs.Plain.{is_plain}
use Rattle.device_text.specs.Job.{closed}
use Rattle.job_reader.specs.declared.lines.Lines.{Lines}
use Rattle.job_reader.specs.declared.lines.Next as declared
use Rattle.job_reader.specs.declared.lines.Next.TheVariants.{Line, Nothing, LineTooLong, ReadFault}

-- how many bytes a line of n bytes has with its newline, where that is there
abbrev pub size_of : ℕ → List ℕ → ℕ
size_of n bytes = min (n + 1) (length bytes)

-- the next line was looked for: what was read stands behind what had been read ahead
pub record Finds (left left' : Option (List ℕ)) (old new : Lines) : Type 0 where
  pub got : List ℕ
  pub reads : Reads left left' got
  pub joined : new.reader ≡ old.reader ++ got
  pub count : new.count ≡ old.count
  pub lines : new.lines ≡ old.lines
  pub stays : (old.ended ≡ true) → (got ≡ []) × (new.ended ≡ true)

-- a line of n bytes stands in front: its newline follows, or it is all that was left of a source without one
pub record IsLineAt (n : ℕ) (lines : Lines) : Type 0 where
  pub within : n ≤ length lines.reader
  pub plain : is_plain (take n lines.reader) ≡ true
  pub closing : List ℕ
  pub text : lines.reader ++ closing ≡ take n lines.reader ++ newline ∷ drop (n + 1) lines.reader
  pub closes : (closing ≡ []) ⊎ ((closing ≡ newline ∷ []) × (n ≡ length lines.reader) × (0 < n) × (lines.ended ≡ true))

-- no whole line stands in front and no line that is too long, and the source didn't end
abbrev pub IsCut : Lines → Type 0
IsCut lines = (lines.ended ≡ false) × (is_plain lines.reader ≡ true) × (length lines.reader ≤ most_line)

abbrev pub IsNext : declared.Next → Lines → ℕ → ℕ → Type 0
IsNext (Line n) lines faults faults' = IsLineAt n lines
IsNext Nothing lines faults faults' = (lines.reader ≡ []) × (lines.ended ≡ true)
IsNext LineTooLong lines faults faults' = (is_plain lines.reader ≡ true) × (most_line < length lines.reader)
IsNext ReadFault lines faults faults' = Rose faults faults' × IsCut lines

-- what stands for the newline that the last line of a source lacks. `before` is all that was read so far
abbrev pub Closes : List ℕ → List ℕ → Lines → Type 0
Closes closing before new = (closing ≡ []) ⊎ ((closing ≡ newline ∷ []) × (new.reader ≡ []) × (new.ended ≡ true) × (closed before ≡ before ++ newline ∷ []))

-- n lines were read and taken. `text` is theirs, with their newlines
pub record Gone (left left' : Option (List ℕ)) (old new : Lines) (text : List ℕ) (n : ℕ) : Type 0 where
  pub got : List ℕ
  pub reads : Reads left left' got
  pub closing : List ℕ
  pub closes : Closes closing (old.reader ++ got) new
  pub read : old.reader ++ (got ++ closing) ≡ text ++ new.reader
  pub count : new.count + length closing ≡ old.count + length text
  pub lines : new.lines ≡ old.lines + n
  pub stays : (old.ended ≡ true) → (got ≡ []) × (new.ended ≡ true)
