-- What the program does, by how it ends.
use Rattle.std.specs.Prelude.{◌≡◌, ℕ, List, [], ◌∷◌, Bool, true, false, Option, Some, None, IfSome, codes, ◌⊎◌}
use Rattle.usb_edge.specs.Stream.{Rose, counted}
use Rattle.device_text.specs.Job.{Job, Spells}
use Rattle.device_text.specs.Outcome.{RefusesLine, RefusesSet, EndsShort, PassesLimit, Outcome, IsOutcome, EndsInHead}
use Rattle.device_text.specs.Outcome as outcome
use Rattle.usbrun.specs.Read.{Told, ToldBoth, ReadSoFar, Begins, HasHead}
use Rattle.usbrun.specs.Written.{Ways, Writes, WritesFront, WritesNothing}
use Rattle.usbrun.specs.declared.status.Status.{Status}
use Rattle.usbrun.specs.declared.status.Status.TheVariants as status

-- the words of the command: `device`, and then `--regs` where the output has the register lines too
abbrev pub IsCommand : List (List ℕ) → Bool → Type 0
IsCommand words false = words ≡ codes "device" ∷ []
IsCommand words true = words ≡ codes "device" ∷ codes "--regs" ∷ []

-- the command of the words, where they are one
abbrev pub IsCommandOf : List (List ℕ) → Option Bool → Type 0
IsCommandOf words (Some regs) = IsCommand words regs
IsCommandOf words None = (regs : Bool) → IsCommand words regs → ⊥

-- a count of faults of one of the two sinks rose
abbrev pub OneRose : Ways → Type 0
OneRose w = Rose w.out_faults w.out_faults' ⊎ Rose w.trace_faults w.trace_faults'

-- Why a run of the command ends as it does, and what the sinks took.
abbrev pub Ends : Status → Bool → Ways → Type 0
Ends status.Ok regs w = Told w.left (λ input. (job : Job) × Spells input job × Writes regs job.head job.schedule w)
Ends status.Usage regs w = ⊥
Ends (status.BadJob line rule) regs w = Told w.left (λ input. (r : RefusesLine input line rule) × Writes regs r.head r.schedule w)
Ends (status.BadSet rule at) regs w = Told w.left (λ input. RefusesSet input (record { rule = rule; at = at })) × WritesNothing w
Ends status.ReadFault regs w = Rose w.src_faults w.src_faults' × ToldBoth w.left w.left' (λ input rest. (b : ReadSoFar input rest) × Writes regs b.head b.schedule w)
Ends status.WriteFault regs w =
    OneRose w × Told w.left (λ input. (b : Begins input) × WritesFront regs b.head b.schedule w)
Ends status.NoMemory regs w = Told w.left HasHead × WritesNothing w
Ends (status.Short lines) regs w = Told w.left (λ input. (s : EndsShort input lines) × Writes regs s.head s.schedule w)
Ends status.TooLong regs w = Told w.left (λ input. (p : PassesLimit input) × Writes regs p.head p.schedule w)

-- the words are those of a command, and its run ends so
pub record RunEnds (s : Status) (words : List (List ℕ)) (w : Ways) : Type 0 where
  pub regs : Bool
  pub command : IsCommand words regs
  pub ends : Ends s regs w

-- they are those of none: nothing is read or written
pub record NoCommand (words : List (List ℕ)) (w : Ways) : Type 0 where
  pub none : IsCommandOf words None
  pub taken : w.taken' ≡ w.taken
  pub traced : w.traced' ≡ w.traced
  pub left : w.left' ≡ w.left
  pub faults : w.src_faults' ≡ w.src_faults

-- the program's words decide first
abbrev pub Cause : Status → List (List ℕ) → Ways → Type 0
Cause status.Ok words w = RunEnds status.Ok words w
Cause status.Usage words w = NoCommand words w
Cause (status.BadJob line rule) words w = RunEnds (status.BadJob line rule) words w
Cause (status.BadSet rule at) words w = RunEnds (status.BadSet rule at) words w
Cause status.ReadFault words w = RunEnds status.ReadFault words w
Cause status.WriteFault words w = RunEnds status.WriteFault words w
Cause status.NoMemory words w = RunEnds status.NoMemory words w
Cause (status.Short lines) words w = RunEnds (status.Short lines) words w
Cause status.TooLong words w = RunEnds status.TooLong words w

-- the status of a reading
abbrev pub outcome_status : Outcome → Status
outcome_status (outcome.Whole job) = status.Ok
outcome_status (outcome.BadLine line rule) = status.BadJob line rule
outcome_status (outcome.BadSet fault) = status.BadSet fault.rule fault.at
outcome_status (outcome.Short lines) = status.Short lines
outcome_status outcome.TooLong = status.TooLong

-- no count of faults rose
abbrev pub NoneRose : Ways → Type 0
NoneRose w = (Rose w.src_faults w.src_faults' → ⊥) × (Rose w.out_faults w.out_faults' → ⊥) × (Rose w.trace_faults w.trace_faults' → ⊥)

-- Where no count of faults rises, the program ends as its source's bytes are read, unless there is no memory: so a
-- refusal comes exactly where they have that outcome.
abbrev pub Exact : Status → List (List ℕ) → Ways → Type 0
Exact s words w = (regs : Bool) → IsCommand words regs → NoneRose w
    → IfSome w.left (λ input. (o : Outcome) → IsOutcome input o → (s ≡ outcome_status o) ⊎ (s ≡ status.NoMemory))

-- A job that is spelled whole is answered whole, unless there is no memory, and then nothing is written.
abbrev pub Completes : Status → List (List ℕ) → Ways → Type 0
Completes s words w = (regs : Bool) → IsCommand words regs → NoneRose w
    → IfSome w.left (λ input. (job : Job) → Spells input job
    → ((s ≡ status.Ok) × Writes regs job.head job.schedule w) ⊎ ((s ≡ status.NoMemory) × WritesNothing w))

-- A refusal of the head or of the set is exact where the source's count alone doesn't rise: whatever the sinks and the memory
-- are, it comes, and nothing is written.
abbrev pub Refuses : Status → List (List ℕ) → Ways → Type 0
Refuses s words w = (regs : Bool) → IsCommand words regs → (Rose w.src_faults w.src_faults' → ⊥)
    → IfSome w.left (λ input. (o : Outcome) → EndsInHead input o → (s ≡ outcome_status o) × WritesNothing w)

-- neither sink failed
abbrev pub NoFault : Ways → Type 0
NoFault w = (w.out_faults' ≡ w.out_faults) × (w.trace_faults' ≡ w.trace_faults)

-- One sink failed once, and the other not at all. A sink may fail at each call, so after a fault there was no call of either.
abbrev pub FailsOnce : Ways → Type 0
FailsOnce w =
    ((w.out_faults' ≡ counted w.out_faults) × (w.trace_faults' ≡ w.trace_faults))
    ⊎ ((w.out_faults' ≡ w.out_faults) × (w.trace_faults' ≡ counted w.trace_faults))

-- how often the sinks failed, by the status
abbrev pub Faults : Status → Ways → Type 0
Faults status.Ok w = NoFault w
Faults status.Usage w = NoFault w
Faults (status.BadJob line rule) w = NoFault w
Faults (status.BadSet rule at) w = NoFault w
Faults status.ReadFault w = NoFault w
Faults status.WriteFault w = FailsOnce w
Faults status.NoMemory w = NoFault w
Faults (status.Short lines) w = NoFault w
Faults status.TooLong w = NoFault w

-- all that is claimed of a call, by its status, its words, and its source and sinks
pub record Claims (s : Status) (words : List (List ℕ)) (w : Ways) : Type 0 where
  pub cause : Cause s words w
  pub exact : Exact s words w
  pub refuses : Refuses s words w
  pub complete : Completes s words w
  pub faults : Faults s w
