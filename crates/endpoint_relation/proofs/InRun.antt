-- Whole runs of an IN endpoint.
use Rattle.std.proofs.Common.{◌≡◌, ℕ, zero, suc, ◌≤◌, List, [], ◌∷◌, Bool, true, false, refl, ap, ◌∙◌, subst}
use Rattle.std.specs.Prelude.{if◌then◌else◌}
use Rattle.usb_packet.specs.declared.bus.BusAnswer.{BusAnswer}
use Rattle.usb_packet.specs.declared.bus.BusAnswer.TheVariants as answers
use Rattle.usb_descriptor.specs.declared.endpoint.Endpoint.{Endpoint}
use Rattle.usb_descriptor.specs.Set.{is_core}
use Rattle.device_pipe.specs.InPipe as pipe
use Rattle.device_pipe.specs.InPipe.{InPipe, InPhase, InDeed, InEvent, Token, Does, Clears, Drops, Irq, Task, Starts, Writes, Halts, after_events, after_event, is_closed}
use Rattle.endpoint_relation.specs.declared.in_.InState.{InState}
use Rattle.endpoint_relation.specs.declared.in_.InState.TheVariants.{Closed, Rest, Running, Posted}
use Rattle.endpoint_relation.specs.declared.in_.InEndpoint.{InEndpoint}
use Rattle.endpoint_relation.specs.InRelation.{InJoint, InStands, IsOpened, abstract_in}
use Rattle.endpoint_relation.specs.InSteps.{in_run, in_next, in_goes_on, in_found, in_served_by, in_opened, shows_xfrc, software_started}
use Rattle.endpoint_relation.specs.InLaws.{InIs, IsClosedIn, answer_for}
use Rattle.endpoint_relation.specs.InRuns.{in_event, HasBytes, AllHaveBytes, RunKeeps}
use Rattle.endpoint_relation.proofs.InToken.{tokens}
use Rattle.endpoint_relation.proofs.InServe.{serves}
use Rattle.endpoint_relation.proofs.InCalls.{tasks, starts, clears, drops}
use Rattle.endpoint_relation.proofs.InOpen.{writes, halts, opens}

-- an open pipe stays open

open_sent : (phase : InPhase) → is_closed phase ≡ false → is_closed (pipe.without_packet phase) ≡ false
open_sent pipe.Closed h = h
open_sent pipe.Rest h = refl
open_sent (pipe.Running n []) h = refl
open_sent (pipe.Running n (packet ∷ left)) h = refl
open_sent (pipe.Posted n) h = refl

open_answered : (p : InPipe) (a : BusAnswer) → is_closed p.phase ≡ false → is_closed (pipe.after_answer p a).phase ≡ false
open_answered p (answers.Data toggle packet) h = open_sent p.phase h
open_answered p answers.Done h = h
open_answered p answers.Ack h = h
open_answered p answers.Nak h = h
open_answered p answers.Stall h = h
open_answered p answers.NoAnswer h = h

open_token : (p : InPipe) (ok : Bool) → is_closed p.phase ≡ false → is_closed (pipe.after_token p ok).phase ≡ false
open_token p true h = open_answered p (pipe.in_answer p) h
open_token p false h = h

open_served : (p : InPipe) (phase : InPhase) → is_closed p.phase ≡ false → is_closed (pipe.served p phase).phase ≡ false
open_served p pipe.Closed h = h
open_served p pipe.Rest h = h
open_served p (pipe.Running n []) h = refl
open_served p (pipe.Running n (packet ∷ left)) h = h
open_served p (pipe.Posted n) h = h

open_tasked : (phase : InPhase) → is_closed phase ≡ false → is_closed (pipe.phase_after_task phase) ≡ false
open_tasked pipe.Closed h = h
open_tasked pipe.Rest h = refl
open_tasked (pipe.Running n left) h = refl
open_tasked (pipe.Posted n) h = refl

open_started : (size : ℕ) (queue : List ℕ) (phase : InPhase) → is_closed phase ≡ false → is_closed (pipe.phase_started size queue phase) ≡ false
open_started size queue pipe.Closed h = h
open_started size queue pipe.Rest h = refl
open_started size queue (pipe.Running n left) h = refl
open_started size queue (pipe.Posted n) h = refl

open_rests : (phase : InPhase) → is_closed phase ≡ false → is_closed (pipe.at_rest phase) ≡ false
open_rests pipe.Closed h = h
open_rests pipe.Rest h = refl
open_rests (pipe.Running n left) h = refl
open_rests (pipe.Posted n) h = refl

open_after : (size capacity : ℕ) (p : InPipe) (event : InEvent) → is_closed p.phase ≡ false → is_closed (after_event size capacity p event).phase ≡ false
open_after size capacity p (Token ok) h = open_token p ok h
open_after size capacity p (Does Irq) h = open_served p p.phase h
open_after size capacity p (Does Task) h = open_tasked p.phase h
open_after size capacity p (Does Starts) h = open_started size p.queue p.phase h
open_after size capacity p (Does (Writes bytes)) h = h
open_after size capacity p (Does Halts) h = h
open_after size capacity p Clears h = open_rests p.phase h
open_after size capacity p Drops h = open_rests p.phase h

-- the endpoint stays the same

same_next : (number left : ℕ) (j : InJoint) → (in_goes_on left number j).software.endpoint ≡ j.software.endpoint
same_next number zero j = refl
same_next number (suc left) j = refl

same_if : (number : ℕ) (b : Bool) (j : InJoint) → (if b then in_next number (in_found j) else j).software.endpoint ≡ j.software.endpoint
same_if number true j = same_next number (in_found j).software.left (in_found j)
same_if number false j = refl

same_run : (number loaded : ℕ) (j : InJoint) → (in_run loaded number j).software.endpoint ≡ j.software.endpoint
same_run number zero j = same_next number j.software.left j
same_run number (suc loaded) j = same_if number (shows_xfrc number j.end) j

same_served : (number : ℕ) (state : InState) (j : InJoint) → (in_served_by state number j).software.endpoint ≡ j.software.endpoint
same_served number Closed j = refl
same_served number Rest j = refl
same_served number Running j = same_run number j.software.loaded j
same_served number Posted j = refl

same_started : (state : InState) (s : InEndpoint) (ring : List ℕ) → (software_started state s ring).endpoint ≡ s.endpoint
same_started Closed s ring = refl
same_started Rest s ring = refl
same_started Running s ring = refl
same_started Posted s ring = refl

same_endpoint : (number capacity : ℕ) (j : InJoint) (event : InEvent) → (in_event number capacity j event).software.endpoint ≡ j.software.endpoint
same_endpoint number capacity j (Token ok) = refl
same_endpoint number capacity j (Does Irq) = same_served number j.software.state j
same_endpoint number capacity j (Does Task) = refl
same_endpoint number capacity j (Does Starts) = same_started j.software.state j.software j.ring
same_endpoint number capacity j (Does (Writes bytes)) = refl
same_endpoint number capacity j (Does Halts) = refl
same_endpoint number capacity j Clears = refl
same_endpoint number capacity j Drops = refl

-- one event, and all

one_event : (n capacity size : ℕ) (j : InJoint) (event : InEvent) → suc n ≤ 15 → is_core j.software.endpoint.owner ≡ false → j.software.endpoint.size ≡ size → is_closed (abstract_in j).phase ≡ false → InStands (suc n) j → HasBytes event
    → InIs (suc n) (in_event (suc n) capacity j event) (after_event size capacity (abstract_in j) event)
one_event n capacity size j (Token ok) small class same op st h = (tokens n j ok st).next
one_event n capacity size j (Does Irq) small class same op st h = serves n j small st
one_event n capacity size j (Does Task) small class same op st h = tasks n j st
one_event n capacity size j (Does Starts) small class same op st h =
    subst (λ k. InIs (suc n) (in_event (suc n) capacity j (Does Starts)) (pipe.started k (abstract_in j))) same (starts n j class st)
one_event n capacity size j (Does (Writes bytes)) small class same op st h = writes n capacity bytes j h op st
one_event n capacity size j (Does Halts) small class same op st h = halts n j small op st
one_event n capacity size j Clears small class same op st h = clears n j small op st
one_event n capacity size j Drops small class same op st h = drops n j small op st

all_events : (n capacity size : ℕ) (j : InJoint) (p : InPipe) (events : List InEvent) → suc n ≤ 15 → is_core j.software.endpoint.owner ≡ false → j.software.endpoint.size ≡ size → is_closed p.phase ≡ false → InIs (suc n) j p → AllHaveBytes events
    → RunKeeps (suc n) capacity j p size events
all_events n capacity size j p [] small class same op is h = record {
  now = is;
  answer = (tokens n j true is.stands).answer ∙ ap (λ c. answer_for c (abstract_in j)) class ∙ ap pipe.in_answer is.abstract;
}
all_events n capacity size j p (event ∷ events) small class same op is h =
    let next = in_event (suc n) capacity j event in
    let endpoint : next.software.endpoint ≡ j.software.endpoint = same_endpoint (suc n) capacity j event in
    let open_now : is_closed (abstract_in j).phase ≡ false = ap (λ (x : InPipe). is_closed x.phase) is.abstract ∙ op in
    let one : InIs (suc n) next (after_event size capacity (abstract_in j) event) = one_event n capacity size j event small class same open_now is.stands h.0 in
    let now : InIs (suc n) next (after_event size capacity p event) = subst (λ x. InIs (suc n) next (after_event size capacity x event)) is.abstract one in
    let rest : RunKeeps (suc n) capacity next (after_event size capacity p event) size events =
    all_events n capacity size next (after_event size capacity p event) events small
    (ap (λ (e : Endpoint). is_core e.owner) endpoint ∙ class) (ap (λ (e : Endpoint). e.size) endpoint ∙ same)
    (open_after size capacity p event op) now h.1 in
    record { now = rest.now; answer = rest.answer }

pub runs : (n capacity : ℕ) (e : Endpoint) (j : InJoint) (events : List InEvent) → suc n ≤ 15 → IsOpened e → is_core e.owner ≡ false → IsClosedIn j → InStands (suc n) j → AllHaveBytes events
    → RunKeeps (suc n) capacity (in_opened (suc n) e j) pipe.opened e.size events
runs n capacity e j events small opened class closed st h =
    all_events n capacity e.size (in_opened (suc n) e j) pipe.opened events small class refl refl (opens n e j small opened closed st) h
