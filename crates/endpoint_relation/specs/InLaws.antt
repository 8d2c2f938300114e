-- Each step is the pipe's, and endpoint, software and ring stand for the pipe again. An endpoint's number is 1 to 15.
use Rattle.std.specs.Prelude.{◌≡◌, ℕ, suc, ◌<◌, ◌≤◌, Bool, true, false, if◌then◌else◌, List, [], take, slice_index}
use Rattle.usb_packet.specs.declared.bus.BusAnswer.{BusAnswer}
use Rattle.usb_packet.specs.declared.bus.BusAnswer.TheVariants as answers
use Rattle.usb_descriptor.specs.declared.endpoint.Endpoint.{Endpoint}
use Rattle.usb_descriptor.specs.Set.{is_core}
use Rattle.device_table.specs.State.{in_end_of, tx_depth}
use Rattle.device_pipe.specs.InPipe as pipe
use Rattle.device_pipe.specs.InPipe.{InPipe, is_closed}
use Rattle.endpoint_relation.specs.InRelation.{InJoint, InStands, IsOpened, abstract_in, in_unused}
use Rattle.endpoint_relation.specs.InSteps.{token_answer, in_token, in_served, in_tasked, in_started, in_written, in_halted, in_cleared, in_dropped, in_opened, in_closed}

-- they are this pipe, and stand for it
pub record InIs (number : ℕ) (j : InJoint) (p : InPipe) : Type 0 where
  pub abstract : abstract_in j ≡ p
  pub stands : InStands number j

abbrev pub IsClass : InJoint → Type 0
IsClass j = is_core j.software.endpoint.owner ≡ false

abbrev pub IsOpenIn : InJoint → Type 0
IsOpenIn j = is_closed (abstract_in j).phase ≡ false

abbrev pub IsClosedIn : InJoint → Type 0
IsClosedIn j = is_closed (abstract_in j).phase ≡ true

-- an open endpoint of the core has no packets, and answers NAK
abbrev pub answer_for : Bool → InPipe → BusAnswer
answer_for true p = if is_closed p.phase then answers.NoAnswer else answers.Nak
answer_for false p = pipe.in_answer p

-- a token, where the device hears its address
pub record TokenKeeps (number : ℕ) (j : InJoint) (ok : Bool) : Type 0 where
  pub answer : token_answer number j.end ≡ answer_for (is_core j.software.endpoint.owner) (abstract_in j)
  pub next : InIs number (in_token number j ok) (pipe.after_token (abstract_in j) ok)

abbrev pub InTokens : Type 0
InTokens = (n : ℕ) (j : InJoint) (ok : Bool) → InStands (suc n) j → TokenKeeps (suc n) j ok

abbrev pub InServes : Type 0
InServes = (n : ℕ) (j : InJoint) → suc n ≤ 15 → InStands (suc n) j → InIs (suc n) (in_served (suc n) j) (pipe.after_irq (abstract_in j))

abbrev pub InTasks : Type 0
InTasks = (n : ℕ) (j : InJoint) → InStands (suc n) j → InIs (suc n) (in_tasked j) (pipe.after_task (abstract_in j))

-- a class starts what is queued
abbrev pub InStarts : Type 0
InStarts =
    (n : ℕ) (j : InJoint) → IsClass j → InStands (suc n) j
    → InIs (suc n) (in_started j) (pipe.started j.software.endpoint.size (abstract_in j))

-- it writes as many of the bytes as the ring has room for
abbrev pub InWrites : Type 0
InWrites =
    (n capacity : ℕ) (bytes : List ℕ) (j : InJoint) → ((i : ℕ) → slice_index bytes i < 256) → IsOpenIn j → InStands (suc n) j
    → InIs (suc n) (in_written (take (pipe.room capacity (abstract_in j)) bytes) j) (pipe.written capacity bytes (abstract_in j))

abbrev pub InHalts : Type 0
InHalts = (n : ℕ) (j : InJoint) → suc n ≤ 15 → IsOpenIn j → InStands (suc n) j → InIs (suc n) (in_halted (suc n) j) (pipe.halted_ (abstract_in j))

abbrev pub InClears : Type 0
InClears = (n : ℕ) (j : InJoint) → suc n ≤ 15 → IsOpenIn j → InStands (suc n) j → InIs (suc n) (in_cleared (suc n) j) (pipe.cleared (abstract_in j))

abbrev pub InDrops : Type 0
InDrops = (n : ℕ) (j : InJoint) → suc n ≤ 15 → IsOpenIn j → InStands (suc n) j → InIs (suc n) (in_dropped (suc n) j) (pipe.dropped (abstract_in j))

-- a session opens the endpoint, and ends, also by a reset that is served
abbrev pub InOpens : Type 0
InOpens =
    (n : ℕ) (e : Endpoint) (j : InJoint) → suc n ≤ 15 → IsOpened e → IsClosedIn j → InStands (suc n) j
    → InIs (suc n) (in_opened (suc n) e j) pipe.opened

abbrev pub InCloses : Type 0
InCloses = (n : ℕ) (j : InJoint) → InStands (suc n) j → InIs (suc n) (in_closed j) pipe.closed

-- at the start
abbrev pub InBegins : Type 0
InBegins = (n : ℕ) → InIs (suc n) (record { end = in_end_of tx_depth; software = in_unused; ring = [] }) pipe.closed
