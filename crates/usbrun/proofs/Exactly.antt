-- From the cause of a status to when it comes: a reading has one outcome.
use Rattle.std.proofs.Common.{◌≡◌, ℕ, ◌≤◌, List, [], ◌∷◌, Bool, true, false, refl, ap, sym, ◌∙◌, subst, length, map, arith, Option, Some, None, IfSome, inl, inr, ◌⊎◌}
use Rattle.usb_edge.specs.Stream.{Takes, Rose, counted}
use Rattle.device_line.specs.declared.line.DevLine.{DevLine}
use Rattle.usb_text.specs.declared.head.HeadLine.{HeadLine}
use Rattle.device_world.specs.World.{world_of}
use Rattle.device_schedule.specs.Schedule.{answers}
use Rattle.device_schedule.specs.Turns.{Turn}
use Rattle.device_text.specs.Trace.{trace_text}
use Rattle.usbrun.specs.Texts.{out_text}
use Rattle.device_text.specs.Job.{Job, Spells, IsAccepted}
use Rattle.device_text.specs.Outcome.{Outcome, Whole, BadLine, BadSet, Short, TooLong, IsOutcome, EndsInHead, Front, set_of}
use Rattle.device_text.proofs.Outcomes.{one_outcome, in_head_is, not_in_head}
use Rattle.usbrun.specs.Written.{Ways, Writes, WritesNothing}
use Rattle.usbrun.specs.Top.{IsCommand, RunEnds, Ends, Cause, NoneRose, Exact, Refuses, Completes, NoFault, Faults, Claims, outcome_status}
use Rattle.usbrun.specs.declared.status.Status.{Status}
use Rattle.usbrun.specs.declared.status.Status.TheVariants as status

-- words are one command
one_command : (words : List (List ℕ)) (a b : Bool) → IsCommand words a → IsCommand words b → a ≡ b
one_command words true true h k = refl
one_command words true false h k = let no = ap length (sym h ∙ k) in absurd (omega (arith, no))
one_command words false true h k = let no = ap length (sym h ∙ k) in absurd (omega (arith, no))
one_command words false false h k = refl

-- what ran is that command
ran : (s : Status) (words : List (List ℕ)) (w : Ways) (regs : Bool) → IsCommand words regs → Cause s words w → Ends s regs w
ran s words w regs d c = by_status s c where
  ended : (s : Status) → RunEnds s words w → Ends s regs w
  ended s r = subst (λ (b : Bool). Ends s b w) (one_command words r.regs regs r.command d) r.ends

  by_status : (s : Status) → Cause s words w → Ends s regs w
  by_status status.Ok c = ended status.Ok c
  by_status status.Usage c = absurd (c.none regs d)
  by_status (status.BadJob line rule) c = ended (status.BadJob line rule) c
  by_status (status.BadSet rule at) c = ended (status.BadSet rule at) c
  by_status status.ReadFault c = ended status.ReadFault c
  by_status status.WriteFault c = ended status.WriteFault c
  by_status status.NoMemory c = ended status.NoMemory c
  by_status (status.Short lines) c = ended (status.Short lines) c
  by_status status.TooLong c = ended status.TooLong c

same : (input : List ℕ) (a o : Outcome) → IsOutcome input a → IsOutcome input o → outcome_status a ≡ outcome_status o
same input a o ha ho = ap outcome_status (one_outcome input a o ha ho)

none_of : (a b : Type 0) → (a → ⊥) → (b → ⊥) → a ⊎ b → ⊥
none_of a b f g (inl h) = f h
none_of a b f g (inr h) = g h

-- a run over a source that tells its bytes
abbrev over : Ways → List ℕ → Ways
over w input = record w { left = Some input }

told_exact : (s : Status) (w : Ways) (input : List ℕ) (regs : Bool) → NoneRose w → Ends s regs (over w input) → (o : Outcome) → IsOutcome input o
    → (s ≡ outcome_status o) ⊎ (s ≡ status.NoMemory)
told_exact status.Ok w input regs none e o h = inl (same input (Whole e.0) o e.1 h)
told_exact status.Usage w input regs none e o h = absurd e
told_exact (status.BadJob line rule) w input regs none e o h = inl (same input (BadLine line rule) o e.0 h)
told_exact (status.BadSet rule at) w input regs none e o h = inl (same input (BadSet (record { rule = rule; at = at })) o e.0 h)
told_exact status.ReadFault w input regs none e o h = absurd (none.0 e.0)
told_exact status.WriteFault w input regs none e o h = absurd (none_of _ _ none.1 none.2 e.0)
told_exact status.NoMemory w input regs none e o h = inr refl
told_exact (status.Short lines) w input regs none e o h = inl (same input (Short lines) o e.0 h)
told_exact status.TooLong w input regs none e o h = inl (same input TooLong o e.0 h)

exact : (s : Status) (words : List (List ℕ)) (w : Ways) → Cause s words w → Exact s words w
exact s words w c = λ regs d none. by_left regs none w.left (ran s words w regs d c) where
  by_left : (regs : Bool) → NoneRose w → (left : Option (List ℕ)) → Ends s regs (record w { left = left })
      → IfSome left (λ input. (o : Outcome) → IsOutcome input o → (s ≡ outcome_status o) ⊎ (s ≡ status.NoMemory))
  by_left regs none None e = tt
  by_left regs none (Some input) e = told_exact s w input regs none e

abbrev job_of : Job → Outcome → Job
job_of other (Whole job) = job
job_of other (BadLine line rule) = other
job_of other (BadSet fault) = other
job_of other (Short lines) = other
job_of other TooLong = other

told_completes : (s : Status) (w : Ways) (input : List ℕ) (regs : Bool) → NoneRose w → Ends s regs (over w input) → (job : Job) → Spells input job
    → ((s ≡ status.Ok) × Writes regs job.head job.schedule (over w input)) ⊎ ((s ≡ status.NoMemory) × WritesNothing w)
told_completes status.Ok w input regs none e job h =
    let one : e.0 ≡ job = ap (job_of job) (one_outcome input (Whole e.0) (Whole job) e.1 h) in
    inl (refl, subst (λ (j : Job). Writes regs j.head j.schedule (over w input)) one e.2)
told_completes status.Usage w input regs none e job h = absurd e
told_completes (status.BadJob line rule) w input regs none e job h =
    let no = same input (BadLine line rule) (Whole job) e.0 h in absurd (cc (no))
told_completes (status.BadSet rule at) w input regs none e job h =
    let no = same input (BadSet (record { rule = rule; at = at })) (Whole job) e.0 h in absurd (cc (no))
told_completes status.ReadFault w input regs none e job h = absurd (none.0 e.0)
told_completes status.WriteFault w input regs none e job h = absurd (none_of _ _ none.1 none.2 e.0)
told_completes status.NoMemory w input regs none e job h = inr (refl, e.1)
told_completes (status.Short lines) w input regs none e job h =
    let no = same input (Short lines) (Whole job) e.0 h in absurd (cc (no))
told_completes status.TooLong w input regs none e job h =
    let no = same input TooLong (Whole job) e.0 h in absurd (cc (no))

completes : (s : Status) (words : List (List ℕ)) (w : Ways) → Cause s words w → Completes s words w
completes s words w c = λ regs d none. by_left regs none w.left (ran s words w regs d c) where
  by_left : (regs : Bool) → NoneRose w → (left : Option (List ℕ)) → Ends s regs (record w { left = left })
      → IfSome left (λ input. (job : Job) → Spells input job
      → ((s ≡ status.Ok) × Writes regs job.head job.schedule (record w { left = left })) ⊎ ((s ≡ status.NoMemory) × WritesNothing w))
  by_left regs none None e = tt
  by_left regs none (Some input) e = told_completes s w input regs none e

-- Of a reading that ends in the head nothing is written.

no_turns : (turns : List Turn) → map (λ turn. turn.line) turns ≡ [] → turns ≡ []
no_turns [] e = refl
no_turns (t ∷ ts) e = absurd (cc (e))

writes_none : (regs : Bool) (head : List HeadLine) (schedule : List DevLine) (w : Ways) → schedule ≡ [] → Writes regs head schedule w → WritesNothing w
writes_none regs head schedule w none h =
    let turns = no_turns h.turns (h.is_trace.lines ∙ none) in (
      subst (Takes w.taken w.taken') (ap (λ (x : List Turn). out_text regs x (answers (world_of (set_of head) None) schedule)) turns
          ∙ ap (λ (x : List DevLine). out_text regs [] (answers (world_of (set_of head) None) x)) none ∙ nothing regs) h.out,
      subst (λ (x : List Turn). Takes w.traced w.traced' (trace_text x)) turns h.trace,
    ) where
      nothing : (b : Bool) → out_text b [] [] ≡ []
      nothing true = refl
      nothing false = refl

module _ (w : Ways) (input : List ℕ) (regs : Bool) (o : Outcome) (h : EndsInHead input o) where
  not_ended : (a : Outcome) → IsOutcome input a → a ≡ o → EndsInHead input a
  not_ended a ha e = subst (EndsInHead input) (sym e) h

  one : (a : Outcome) → IsOutcome input a → a ≡ o
  one a ha = one_outcome input a o ha (in_head_is input o h)

  none_read : (head : List HeadLine) (schedule : List DevLine) (rest : List ℕ) → Front input head schedule rest → (schedule ≡ []) ⊎ IsAccepted head → schedule ≡ []
  none_read head schedule rest f (inl e) = e
  none_read head schedule rest f (inr ok) = absurd (not_in_head input head schedule rest f ok o h)

  told_refuses : (s : Status) → (Rose w.src_faults w.src_faults' → ⊥) → Ends s regs (over w input) → (s ≡ outcome_status o) × WritesNothing w
  told_refuses status.Ok quiet e = absurd (not_ended (Whole e.0) e.1 (one (Whole e.0) e.1))
  told_refuses status.Usage quiet e = absurd e
  told_refuses (status.BadJob line rule) quiet e = (
    ap outcome_status (one (BadLine line rule) e.0),
    writes_none regs e.0.head e.0.schedule (over w input) (none_read e.0.head e.0.schedule _ e.0.front e.0.front.accepted) e.1,
  )
  told_refuses (status.BadSet rule at) quiet e = (ap outcome_status (one (BadSet (record { rule = rule; at = at })) e.0), e.1)
  told_refuses status.ReadFault quiet e = absurd (quiet e.0)
  told_refuses status.WriteFault quiet e = absurd (not_in_head input e.1.0.head e.1.0.schedule e.1.0.rest e.1.0.front e.1.0.accepted o h)
  told_refuses status.NoMemory quiet e = absurd (not_in_head input e.0.head [] e.0.rest e.0.front e.0.accepted o h)
  told_refuses (status.Short lines) quiet e = (
    ap outcome_status (one (Short lines) e.0),
    writes_none regs e.0.head e.0.schedule (over w input) (none_read e.0.head e.0.schedule _ e.0.front e.0.front.accepted) e.1,
  )
  told_refuses status.TooLong quiet e = absurd (not_ended TooLong e.0 (one TooLong e.0))

refuses : (s : Status) (words : List (List ℕ)) (w : Ways) → Cause s words w → Refuses s words w
refuses s words w c = λ regs d quiet. by_left regs quiet w.left (ran s words w regs d c) where
  by_left : (regs : Bool) → (Rose w.src_faults w.src_faults' → ⊥) → (left : Option (List ℕ)) → Ends s regs (record w { left = left })
      → IfSome left (λ input. (o : Outcome) → EndsInHead input o → (s ≡ outcome_status o) × WritesNothing w)
  by_left regs quiet None e = tt
  by_left regs quiet (Some input) e = λ o h. told_refuses w input regs o h s quiet e

pub claims : (s : Status) (words : List (List ℕ)) (w : Ways) → Cause s words w → Faults s w → Claims s words w
claims s words w c f = record { cause = c; exact = exact s words w c; refuses = refuses s words w c; complete = completes s words w c; faults = f }

-- counts of faults don't fall

one_more : (n m : ℕ) → m ≡ counted n → n ≤ m
one_more n m e = omega (arith, e)

same_count : (n m : ℕ) → m ≡ n → n ≤ m
same_count n m e = omega (arith, e)

no_fault : (w : Ways) → NoFault w → (w.out_faults ≤ w.out_faults') × (w.trace_faults ≤ w.trace_faults')
no_fault w f = (same_count w.out_faults w.out_faults' f.0, same_count w.trace_faults w.trace_faults' f.1)

pub counts_rise : (s : Status) (w : Ways) → Faults s w → (w.out_faults ≤ w.out_faults') × (w.trace_faults ≤ w.trace_faults')
counts_rise status.Ok w f = no_fault w f
counts_rise status.Usage w f = no_fault w f
counts_rise (status.BadJob line rule) w f = no_fault w f
counts_rise (status.BadSet rule at) w f = no_fault w f
counts_rise status.ReadFault w f = no_fault w f
counts_rise status.WriteFault w (inl f) = (one_more w.out_faults w.out_faults' f.0, same_count w.trace_faults w.trace_faults' f.1)
counts_rise status.WriteFault w (inr f) = (same_count w.out_faults w.out_faults' f.0, one_more w.trace_faults w.trace_faults' f.1)
counts_rise status.NoMemory w f = no_fault w f
counts_rise (status.Short lines) w f = no_fault w f
counts_rise status.TooLong w f = no_fault w f
