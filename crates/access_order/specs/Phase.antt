-- How far a device's driver is in a handler run or a task run, as its accesses tell it: what is known of each endpoint by its
-- number, where endpoints 0 to 3 are driven. `loads` says of each IN endpoint from 1 on whether packets are loaded there.
use Rattle.std.specs.Prelude.{◌≡◌, ◌≢◌, ◌≤◌, ◌<◌, ℕ, Bool, true, false, List}
use Rattle.dwc2_regs.specs.declared.access.Access.{Access}
use Rattle.access_order.specs.Order.{Order, InOrder, in_of, out_of, are_ordered, order_after, may_answer}

-- Where one IN endpoint is.
pub data InPhase : Type 0 where
  -- no packet was loaded in this run
  bare : InPhase
  -- the same, and packets of an earlier run are loaded there or not
  fresh : Bool → InPhase
  -- DIEPTSIZx is written, and it is enabled while it answers NAK; XFRC is known to be cleared or not
  sized : Bool → InPhase
  filling : Bool → InPhase
  -- CNAK was written to it
  answering : InPhase
  -- XFRC was read, or EPDIS written
  disabled : InPhase
  -- at the end of a run packets are loaded there or not
  fits : Bool → InPhase

pub data Phase : Type 0 where
  -- no reset was found, and no packet was loaded in this run on an endpoint from this number on
  serving : ℕ → (ℕ → Bool) → Phase
  -- XFRC of endpoint 0 was read, which answers with no packet now
  acked : (ℕ → Bool) → Phase
  -- the end of a transfer of that OUT endpoint was popped
  ended : ℕ → (ℕ → Bool) → Phase
  -- DOEPTSIZx of that OUT endpoint was written
  out_sized : ℕ → ℕ → (ℕ → Bool) → Phase
  -- the same of all but the IN endpoint of the second number, which is there
  at : ℕ → ℕ → InPhase → (ℕ → Bool) → Phase
  -- a reset was found; endpoints below that number are disabled; their interrupts are cleared
  found : Phase
  closing : ℕ → Phase
  clearing : ℕ → Phase
  -- the run is over
  over : (ℕ → Bool) → Phase

-- what is known of an IN endpoint between two runs, where packets are loaded and where none are
abbrev pub InFits : Bool → InOrder → Type 0
InFits true e = e.naks ≡ false
InFits false e = (e.enabled ≡ false) × (e.clear ≡ true)

abbrev pub IsCleared : Bool → InOrder → Type 0
IsCleared true e = e.clear ≡ true
IsCleared false e = Unit {0}

abbrev pub IsIn : InPhase → InOrder → Type 0
IsIn bare e = e.loaded ≡ false
IsIn (fresh loads) e = (e.loaded ≡ false) × InFits loads e
IsIn (sized clear) e = (e.loaded ≡ false) × (e.sized ≡ true) × IsCleared clear e
IsIn (filling clear) e = (e.loaded ≡ false) × (e.enabled ≡ true) × (e.naks ≡ true) × IsCleared clear e
IsIn answering e = e.naks ≡ false
IsIn disabled e = (e.loaded ≡ false) × (e.enabled ≡ false)
IsIn (fits loads) e = InFits loads e

-- No endpoint from 4 on is enabled.
pub record Beyond (o : Order) : Type 0 where
  pub ins : (m : ℕ) → 4 ≤ m → (in_of o m).enabled ≡ false
  pub outs : (m : ℕ) → 4 ≤ m → (out_of o m).enabled ≡ false

-- no end of a transfer was seen whose XFRC isn't cleared
abbrev pub NoneEnded : Order → Type 0
NoneEnded o = (m : ℕ) → m ≤ 3 → (out_of o m).ended ≡ false

-- no packet was loaded in this run from that endpoint on
abbrev pub NoneLoaded : ℕ → Order → Type 0
NoneLoaded k o = (m : ℕ) → k ≤ m → (in_of o m).loaded ≡ false

-- what holds of the IN endpoints from 1 on
abbrev pub AllFit : (ℕ → Bool) → Order → Type 0
AllFit loads o = (m : ℕ) → 1 ≤ m → m ≤ 3 → InFits (loads m) (in_of o m)

-- no reset is found or was served
pub record Runs (o : Order) : Type 0 where
  pub found : o.reset ≡ false
  pub woken : o.woken ≡ false
  pub beyond : Beyond o

pub record Serving (k : ℕ) (loads : ℕ → Bool) (o : Order) : Type 0 where
  pub runs : Runs o
  pub none : NoneLoaded k o
  pub ended : NoneEnded o
  pub fit : AllFit loads o

pub record Ended (n : ℕ) (loads : ℕ → Bool) (o : Order) : Type 0 where
  pub runs : Runs o
  pub none : NoneLoaded 0 o
  pub ended : (m : ℕ) → m ≤ 3 → m ≢ n → (out_of o m).ended ≡ false
  pub fit : AllFit loads o

pub record At (k x : ℕ) (phase : InPhase) (loads : ℕ → Bool) (o : Order) : Type 0 where
  pub runs : Runs o
  pub none : (m : ℕ) → k ≤ m → m ≢ x → (in_of o m).loaded ≡ false
  pub ended : NoneEnded o
  pub fit : (m : ℕ) → 1 ≤ m → m ≤ 3 → m ≢ x → InFits (loads m) (in_of o m)
  pub here : IsIn phase (in_of o x)

pub record Found (o : Order) : Type 0 where
  pub found : o.reset ≡ true
  pub woken : o.woken ≡ false
  pub none : NoneLoaded 0 o
  pub beyond : Beyond o

pub record Closing (k : ℕ) (o : Order) : Type 0 where
  pub found : Found o
  pub ins : (m : ℕ) → m < k → (in_of o m).enabled ≡ false
  pub outs : (m : ℕ) → m < k → (out_of o m).enabled ≡ false

pub record Clearing (k : ℕ) (o : Order) : Type 0 where
  pub closed : Closing 4 o
  pub ins : (m : ℕ) → m < k → (in_of o m).clear ≡ true
  pub outs : (m : ℕ) → m < k → (out_of o m).ended ≡ false

-- what holds from run to run
pub record Over (loads : ℕ → Bool) (o : Order) : Type 0 where
  pub found : o.reset ≡ false
  pub beyond : Beyond o
  pub ended : NoneEnded o
  pub fit : AllFit loads o

abbrev pub Is : Phase → Order → Type 0
Is (serving k loads) o = Serving k loads o
Is (acked loads) o = Serving 0 loads o × (may_answer o.in0 ≡ false)
Is (ended n loads) o = Ended n loads o
Is (out_sized n k loads) o = Serving k loads o × ((out_of o n).sized ≡ true)
Is (at k x phase loads) o = At k x phase loads o
Is found o = Found o
Is (closing k) o = Closing k o
Is (clearing k) o = Clearing k o
Is (over loads) o = Over loads o

-- a list of accesses from a state on is in order, and leaves the driver there
pub record Kept (start : Order) (log : List Access) (phase : Phase) : Type 0 where
  pub ordered : are_ordered start log ≡ true
  pub state : Is phase (order_after start log)

-- accesses that are in order go on in order
abbrev pub Keeps : Phase → Phase → List Access → List Access → Type 0
Keeps from to old new = (start : Order) → Kept start old from → Kept start new to
