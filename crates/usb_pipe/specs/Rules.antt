-- What one class of a device does, whatever its states are, at each thing that the core tells it, and in its work. It sees its own
-- state and its owner's pipes, and nothing else.
use Rattle.std.specs.Prelude.{ℕ, List, Bool, false}
use Rattle.usb_packet.specs.declared.setup.Setup.{Setup}
use Rattle.usb_pipe.specs.declared.decision.Decision.{Decision}
use Rattle.usb_pipe.specs.declared.decision.Decision.TheVariants as decision
use Rattle.usb_pipe.specs.Own.{Own}

pub record Rules (S : Type 0) : Type 0 where
  -- a session begins, and ends (USB 2.0, 9.4.7)
  pub after_opened : S → S
  pub after_closed : S → S
  -- a request to the class: what is done at it, and what it leaves
  pub decides : S → Setup → Decision
  pub after_setup : S → Setup → S
  -- the data of a request that takes some: whether it is taken, and what it leaves
  pub accepts : S → Setup → List ℕ → Bool
  pub after_data : S → Setup → List ℕ → S
  -- a packet came on a pipe, a transfer of so many bytes ended on one, one was cleared (9.4.5)
  pub after_came : S → ℕ → S
  pub after_ended : S → ℕ → ℕ → S
  pub after_cleared : S → ℕ → S
  -- the work of one task
  pub after_work : S → Own → S
  pub pipes_after_work : S → Own → Own

-- no class: requests are refused, and nothing changes
abbrev pub no_class : {S : Type 0} → Rules S
no_class = record {
  after_opened = λ s. s;
  after_closed = λ s. s;
  decides = λ s setup. decision.Stall;
  after_setup = λ s setup. s;
  accepts = λ s setup bytes. false;
  after_data = λ s setup bytes. s;
  after_came = λ s pipe. s;
  after_ended = λ s pipe bytes. s;
  after_cleared = λ s pipe. s;
  after_work = λ s own. s;
  pipes_after_work = λ s own. own;
}
