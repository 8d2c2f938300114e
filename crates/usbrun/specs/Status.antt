-- The program's statuses: their numbers, and the lines that tell them.
use Rattle.std.specs.Prelude.{◌≡◌, ℕ, List, [], ◌++◌, Option, ◌⊎◌, codes}
use Rattle.std.specs.Fmt.{decimal}
use Rattle.usb_edge.specs.Stream.{Takes, Rose}
use Rattle.usbrun.specs.declared.status.Status.{Status}
use Rattle.usbrun.specs.declared.status.Status.TheVariants.{Ok, Usage, BadJob, BadSet, ReadFault, WriteFault, NoMemory, Short, TooLong}

abbrev pub status_number : Status → ℕ
status_number Ok = 0
status_number Usage = 1
status_number (BadJob line rule) = 2
status_number (BadSet rule at) = 3
status_number ReadFault = 4
status_number WriteFault = 5
status_number NoMemory = 6
status_number (Short lines) = 9
status_number TooLong = 10

-- the line that tells a status, with its newline
abbrev pub status_line : Status → List ℕ
status_line Ok = []
status_line Usage = codes "usbrun: usage\n"
status_line (BadJob line rule) = codes "usbrun: line " ++ (decimal line ++ (codes " rule " ++ (decimal rule ++ codes "\n")))
status_line (BadSet rule at) = codes "usbrun: set rule " ++ (decimal rule ++ (codes " at " ++ (decimal at ++ codes "\n")))
status_line ReadFault = codes "usbrun: read fault\n"
status_line WriteFault = codes "usbrun: write fault\n"
status_line NoMemory = codes "usbrun: no memory\n"
status_line (Short lines) = codes "usbrun: job ends at line " ++ (decimal lines ++ codes "\n")
status_line TooLong = codes "usbrun: job too long\n"

-- the status was told: its whole line, or the front of it where the sink's count of faults rose
pub record Tells (status : Status) (taken taken' : Option (List ℕ)) (faults faults' : ℕ) : Type 0 where
  pub given : List ℕ
  pub more : List ℕ
  pub text : status_line status ≡ given ++ more
  pub takes : Takes taken taken' given
  pub whole : (more ≡ []) ⊎ Rose faults faults'
