-- Whole runs of an IN endpoint in a session.
use Rattle.std.specs.Prelude.{◌≡◌, ℕ, suc, ◌-◌, ◌<◌, ◌≤◌, false, List, [], ◌∷◌, length, take, slice_index}
use Rattle.device_pipe.specs.InPipe as pipe
use Rattle.device_pipe.specs.InPipe.{InPipe, InDeed, InEvent, Token, Does, Clears, Drops, Irq, Task, Starts, Writes, Halts, after_events}
use Rattle.usb_descriptor.specs.declared.endpoint.Endpoint.{Endpoint}
use Rattle.usb_descriptor.specs.Set.{is_core}
use Rattle.endpoint_relation.specs.InRelation.{InJoint, InStands, IsOpened}
use Rattle.endpoint_relation.specs.InSteps.{token_answer, in_token, in_served, in_tasked, in_started, in_written, in_halted, in_cleared, in_dropped, in_opened}
use Rattle.endpoint_relation.specs.InLaws.{InIs, IsClosedIn}

-- `capacity` is the ring's
abbrev pub in_deed : ℕ → ℕ → InJoint → InDeed → InJoint
in_deed number capacity j Irq = in_served number j
in_deed number capacity j Task = in_tasked j
in_deed number capacity j Starts = in_started j
in_deed number capacity j (Writes bytes) = in_written (take (capacity - length j.ring) bytes) j
in_deed number capacity j Halts = in_halted number j

abbrev pub in_event : ℕ → ℕ → InJoint → InEvent → InJoint
in_event number capacity j (Token ok) = in_token number j ok
in_event number capacity j (Does deed) = in_deed number capacity j deed
in_event number capacity j Clears = in_cleared number j
in_event number capacity j Drops = in_dropped number j

abbrev pub in_events : ℕ → ℕ → InJoint → List InEvent → InJoint
in_events number capacity j [] = j
in_events number capacity j (event ∷ events) = in_events number capacity (in_event number capacity j event) events

-- a class writes bytes
abbrev pub DeedHasBytes : InDeed → Type 0
DeedHasBytes (Writes bytes) = (i : ℕ) → slice_index bytes i < 256
DeedHasBytes Irq = Unit {0}
DeedHasBytes Task = Unit {0}
DeedHasBytes Starts = Unit {0}
DeedHasBytes Halts = Unit {0}

abbrev pub HasBytes : InEvent → Type 0
HasBytes (Does deed) = DeedHasBytes deed
HasBytes (Token ok) = Unit {0}
HasBytes Clears = Unit {0}
HasBytes Drops = Unit {0}

abbrev pub AllHaveBytes : List InEvent → Type 0
AllHaveBytes [] = Unit {0}
AllHaveBytes (event ∷ events) = HasBytes event × AllHaveBytes events

-- whatever happened, the endpoint answers the next token as the pipe does to which the same happened
pub record RunKeeps (number capacity : ℕ) (j : InJoint) (p : InPipe) (size : ℕ) (events : List InEvent) : Type 0 where
  pub now : InIs number (in_events number capacity j events) (after_events size capacity p events)
  pub answer : token_answer number (in_events number capacity j events).end ≡ pipe.in_answer (after_events size capacity p events)

-- from the begin of a session on, on an endpoint of a class
abbrev pub InRuns : Type 0
InRuns =
    (n capacity : ℕ) (e : Endpoint) (j : InJoint) (events : List InEvent)
    → suc n ≤ 15 → IsOpened e → is_core e.owner ≡ false → IsClosedIn j → InStands (suc n) j → AllHaveBytes events
    → RunKeeps (suc n) capacity (in_opened (suc n) e j) pipe.opened e.size events
