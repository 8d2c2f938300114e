-- The text of a job: its head, its schedule, and its end.
use Rattle.std.specs.Prelude.{◌≡◌, ℕ, ◌^◌, ◌≤◌, List, [], ◌∷◌, ◌++◌, length, Bool, true, false, ◌==◌, ◌&&◌, nat_lt, Option, Some, None, min, if◌then◌else◌, ⊤}
use Rattle.std.specs.List.{flat_map, AllByRecursion}
use Rattle.dwc2_regs.specs.declared.access.TheConstants.{FS4}
use Rattle.usb_descriptor.specs.declared.strings.StringPart.{StringPart}
use Rattle.usb_descriptor.specs.declared.limits.EpLimits.{EpLimits}
use Rattle.usb_descriptor.specs.declared.limits.SetFault.{SetFault}
use Rattle.usb_descriptor.specs.Verdict.{verdict}
use Rattle.device_line.specs.declared.line.DevLine.{DevLine}
use Rattle.usb_text.specs.declared.line.Line.TheVariants.{Device, End}
use Rattle.usb_text.specs.declared.head.HeadLine.{HeadLine}
use Rattle.usb_text.specs.declared.head.HeadLine.TheVariants as head
use Rattle.usb_text.specs.Line.{newline, line_text, IsDeviceLine}
use Rattle.usb_text.specs.Head.{head_text, IsHead}

-- what a head gives: the descriptors (USB 2.0, 9.6) and the strings by their indices
pub record Parts : Type 0 where
  pub device : List ℕ
  pub config : List ℕ
  pub strings : List StringPart
  pub report : Option (List ℕ)

-- before the first line
abbrev pub nothing : Parts
nothing = record { device = []; config = []; strings = []; report = None }

abbrev pub with_line : Parts → HeadLine → Parts
with_line parts (head.Device bytes) = record parts { device = bytes.items }
with_line parts (head.Config bytes) = record parts { config = bytes.items }
with_line parts (head.Text index body) = record parts { strings = parts.strings ++ record { index = index; body = body } ∷ [] }
with_line parts (head.Report bytes) = record parts { report = Some bytes.items }
with_line parts head.Begin = parts

abbrev pub parts_after : Parts → List HeadLine → Parts
parts_after parts [] = parts
parts_after parts (line ∷ lines) = parts_after (with_line parts line) lines

-- what the lines of a head give
abbrev pub parts_of : List HeadLine → Parts
parts_of lines = parts_after nothing lines

-- the last of some lines, where there is one
abbrev pub last_after : Option HeadLine → List HeadLine → Option HeadLine
last_after last [] = last
last_after last (line ∷ lines) = last_after (Some line) lines

-- whether a line is none that comes after the configuration: strings, the report descriptor, and the end
abbrev pub ends_descriptors : HeadLine → Bool
ends_descriptors (head.Device bytes) = false
ends_descriptors (head.Config bytes) = false
ends_descriptors (head.Text index body) = true
ends_descriptors (head.Report bytes) = true
ends_descriptors head.Begin = true

abbrev pub is_device : HeadLine → Bool
is_device (head.Device bytes) = true
is_device (head.Config bytes) = false
is_device (head.Text index body) = false
is_device (head.Report bytes) = false
is_device head.Begin = false

abbrev pub is_config : HeadLine → Bool
is_config (head.Device bytes) = false
is_config (head.Config bytes) = true
is_config (head.Text index body) = false
is_config (head.Report bytes) = false
is_config head.Begin = false

abbrev pub is_begin : HeadLine → Bool
is_begin (head.Device bytes) = false
is_begin (head.Config bytes) = false
is_begin (head.Text index body) = false
is_begin (head.Report bytes) = false
is_begin head.Begin = true

-- what may follow a string: one with a higher index, the report descriptor, and the end
abbrev pub follows_text : ℕ → HeadLine → Bool
follows_text index (head.Device bytes) = false
follows_text index (head.Config bytes) = false
follows_text index (head.Text next body) = nat_lt index next
follows_text index (head.Report bytes) = true
follows_text index head.Begin = true

-- The order of a head: the device descriptor, the configuration, strings by rising indices, at most one report
-- descriptor, and `begin`. Whether a line may come after this one, or come first.
abbrev pub follows : Option HeadLine → HeadLine → Bool
follows None line = is_device line
follows (Some (head.Device bytes)) line = is_config line
follows (Some (head.Config bytes)) line = ends_descriptors line
follows (Some (head.Text index body)) line = follows_text index line
follows (Some (head.Report bytes)) line = is_begin line
follows (Some head.Begin) line = false

-- the most strings that a head has
abbrev pub most_strings : ℕ
most_strings = 8

-- whether a line has its place after so many strings
abbrev pub has_room : ℕ → HeadLine → Bool
has_room strings (head.Device bytes) = true
has_room strings (head.Config bytes) = true
has_room strings (head.Text index body) = nat_lt strings most_strings
has_room strings (head.Report bytes) = true
has_room strings head.Begin = true

-- rule 8 of a line, after the lines before it: the head is in order, and nothing in it is repeated or missing
abbrev pub in_order : List HeadLine → HeadLine → Bool
in_order before line = follows (last_after None before) line && has_room (length (parts_of before).strings) line

-- the lines of a head so far, each in range and in its place
abbrev pub GoOn : List HeadLine → List HeadLine → Type 0
GoOn before [] = ⊤
GoOn before (line ∷ lines) = IsHead line × (in_order before line ≡ true) × GoOn (before ++ line ∷ []) lines

abbrev pub IsHeadSoFar : List HeadLine → Type 0
IsHeadSoFar lines = GoOn [] lines

abbrev pub ends_head : Option HeadLine → Bool
ends_head None = false
ends_head (Some line) = is_begin line

-- whether the head ended
abbrev pub is_whole : List HeadLine → Bool
is_whole lines = ends_head (last_after None lines)

-- the endpoints that the controller has of each direction, and whether report descriptors are judged
abbrev pub limits : EpLimits
limits = record { in_top = FS4.in_eps; out_top = FS4.out_eps; report_known = true }

-- the first rule of descriptor sets that a head's set breaks, where it breaks one
abbrev pub set_fault : List HeadLine → Option SetFault
set_fault lines = verdict (parts_of lines).device (parts_of lines).config (parts_of lines).report limits

-- a line with the newline that ends it
abbrev pub head_line : HeadLine → List ℕ
head_line line = head_text line ++ newline ∷ []

abbrev pub schedule_line : DevLine → List ℕ
schedule_line line = line_text (Device line) ++ newline ∷ []

abbrev pub head_lines : List HeadLine → List ℕ
head_lines lines = flat_map head_line lines

abbrev pub schedule_text : List DevLine → List ℕ
schedule_text lines = flat_map schedule_line lines

-- the line that ends a job
abbrev pub end_line : List ℕ
end_line = line_text End ++ newline ∷ []

-- The last line of a source may lack its newline: these bytes, with a newline behind them where they end
-- without one.
abbrev pub closed : List ℕ → List ℕ
closed [] = []
closed (b ∷ []) = if b == newline then b ∷ [] else b ∷ newline ∷ []
closed (b ∷ c ∷ cs) = b ∷ closed (c ∷ cs)

-- how many bytes of a source stand in a text in front of it, which may end with a newline that it lacks
abbrev pub given : List ℕ → List ℕ → ℕ
given input text = min (length text) (length input)

-- the most bytes that a job has, up to and with its line `end`
abbrev pub most_bytes : ℕ
most_bytes = 2 ^ 30

pub record Job : Type 0 where
  pub head : List HeadLine
  pub schedule : List DevLine

-- a job up to its last line
abbrev pub front_text : List HeadLine → List DevLine → List ℕ
front_text head schedule = head_lines head ++ schedule_text schedule

-- a whole head with an accepted set
pub record IsAccepted (head : List HeadLine) : Type 0 where
  pub lines : IsHeadSoFar head
  pub whole : is_whole head ≡ true
  pub set : set_fault head ≡ None

pub record IsJob (job : Job) : Type 0 where
  pub head : IsAccepted job.head
  pub schedule : AllByRecursion IsDeviceLine job.schedule

-- These bytes begin with the job's text: its lines, and `end` as a line of its own. What follows that line is no
-- matter.
pub record Spells (input : List ℕ) (job : Job) : Type 0 where
  pub tail : List ℕ
  pub text : closed input ≡ front_text job.head job.schedule ++ (end_line ++ tail)
  pub short : given input (front_text job.head job.schedule ++ end_line) ≤ most_bytes
  pub fits : IsJob job
