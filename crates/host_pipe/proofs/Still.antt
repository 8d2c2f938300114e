-- What a host's pipes keep to over whole runs: a packet that isn't acknowledged is sent again, and a pipe that is halted, dead or
-- being cleared sends nothing.
use Rattle.std.proofs.Common.{◌≡◌, ℕ, suc, ◌-◌, ◌++◌, List, [], ◌∷◌, Bool, true, false, length, take, drop, Option, Some, None, inl, inr, refl, sym, ap, ◌∙◌, All, subst}
use Rattle.std.specs.Prelude.{nat_le, is_some, ⊤}
use Rattle.std.proofs.lemmas.Bool.{cases_Bool, true≢false}
use Rattle.std.proofs.lemmas.List.Elements.{All-head, All-tail}
use Rattle.usb_packet.specs.declared.bus.Toggle.{Toggle}
use Rattle.usb_packet.specs.declared.bus.Toggle.TheVariants.{D0}
use Rattle.usb_packet.specs.declared.bus.BusAnswer.TheVariants as answers
use Rattle.host_pipe.specs.Tries.{Went, Refused, Lost, most_tries}
use Rattle.host_pipe.specs.OutPipe as out
use Rattle.host_pipe.specs.OutPipe.{OutPipe, OutPhase, OutEvent, sent_at, out_sent}
use Rattle.host_pipe.specs.InPipe as inward
use Rattle.host_pipe.specs.InPipe.{InPhase, InEvent, in_sent}
use Rattle.host_pipe.specs.Laws.{IsUnheard, IsItOrNothing, ClearsNoOut, EndsNoOut, ClearsNoIn, EndsNoIn}
use Rattle.host_pipe.specs.Steps.{out_pipe, in_pipe}

-- A packet that is under way.

-- the phases in which it is, but for that of an acknowledged one
abbrev Under : OutPhase → Type 0
Under out.Closed = ⊥
Under out.Rest = ⊥
Under out.Running = ⊤
Under (out.Landed out.Acknowledged) = ⊥
Under (out.Landed out.Stalled) = ⊤
Under (out.Landed out.Unheard) = ⊤
Under (out.Posted Went) = ⊥
Under (out.Posted Refused) = ⊤
Under (out.Posted Lost) = ⊤
Under out.Halted = ⊤
Under out.Dead = ⊤
Under out.Clearing = ⊥

record Goes (under_way : Option (List ℕ)) (toggle : Toggle) (pipe : OutPipe) : Type 0 where
  phase : Under pipe.phase
  same : pipe.under_way ≡ under_way
  toggled : pipe.toggle ≡ toggle

goes : (size capacity : ℕ) (event : OutEvent) (phase : OutPhase) (toggle : Toggle) (tries : ℕ) (pending : List ℕ) (under_way : Option (List ℕ)) (asked : Bool)
    → IsUnheard event → Under phase → Goes under_way toggle (out.after_event size capacity (out_pipe phase toggle tries pending under_way asked) event)
goes size capacity (out.Turn answers.Ack) phase toggle tries pending under_way asked unheard under = elim unheard [ ]
goes size capacity (out.Turn answers.Nak) out.Running toggle tries pending under_way asked unheard under = record { phase = tt; same = refl; toggled = refl }
goes size capacity (out.Turn answers.Nak) (out.Landed out.Stalled) toggle tries pending under_way asked unheard under = record { phase = tt; same = refl; toggled = refl }
goes size capacity (out.Turn answers.Nak) (out.Landed out.Unheard) toggle tries pending under_way asked unheard under = record { phase = tt; same = refl; toggled = refl }
goes size capacity (out.Turn answers.Nak) (out.Posted Refused) toggle tries pending under_way asked unheard under = record { phase = tt; same = refl; toggled = refl }
goes size capacity (out.Turn answers.Nak) (out.Posted Lost) toggle tries pending under_way asked unheard under = record { phase = tt; same = refl; toggled = refl }
goes size capacity (out.Turn answers.Nak) out.Halted toggle tries pending under_way asked unheard under = record { phase = tt; same = refl; toggled = refl }
goes size capacity (out.Turn answers.Nak) out.Dead toggle tries pending under_way asked unheard under = record { phase = tt; same = refl; toggled = refl }
goes size capacity (out.Turn answers.Nak) out.Closed toggle tries pending under_way asked unheard under = elim under [ ]
goes size capacity (out.Turn answers.Nak) out.Rest toggle tries pending under_way asked unheard under = elim under [ ]
goes size capacity (out.Turn answers.Nak) (out.Landed out.Acknowledged) toggle tries pending under_way asked unheard under = elim under [ ]
goes size capacity (out.Turn answers.Nak) (out.Posted Went) toggle tries pending under_way asked unheard under = elim under [ ]
goes size capacity (out.Turn answers.Nak) out.Clearing toggle tries pending under_way asked unheard under = elim under [ ]
goes size capacity (out.Turn answers.Stall) out.Running toggle tries pending under_way asked unheard under = record { phase = tt; same = refl; toggled = refl }
goes size capacity (out.Turn answers.Stall) (out.Landed out.Stalled) toggle tries pending under_way asked unheard under = record { phase = tt; same = refl; toggled = refl }
goes size capacity (out.Turn answers.Stall) (out.Landed out.Unheard) toggle tries pending under_way asked unheard under = record { phase = tt; same = refl; toggled = refl }
goes size capacity (out.Turn answers.Stall) (out.Posted Refused) toggle tries pending under_way asked unheard under = record { phase = tt; same = refl; toggled = refl }
goes size capacity (out.Turn answers.Stall) (out.Posted Lost) toggle tries pending under_way asked unheard under = record { phase = tt; same = refl; toggled = refl }
goes size capacity (out.Turn answers.Stall) out.Halted toggle tries pending under_way asked unheard under = record { phase = tt; same = refl; toggled = refl }
goes size capacity (out.Turn answers.Stall) out.Dead toggle tries pending under_way asked unheard under = record { phase = tt; same = refl; toggled = refl }
goes size capacity (out.Turn answers.Stall) out.Closed toggle tries pending under_way asked unheard under = elim under [ ]
goes size capacity (out.Turn answers.Stall) out.Rest toggle tries pending under_way asked unheard under = elim under [ ]
goes size capacity (out.Turn answers.Stall) (out.Landed out.Acknowledged) toggle tries pending under_way asked unheard under = elim under [ ]
goes size capacity (out.Turn answers.Stall) (out.Posted Went) toggle tries pending under_way asked unheard under = elim under [ ]
goes size capacity (out.Turn answers.Stall) out.Clearing toggle tries pending under_way asked unheard under = elim under [ ]
goes size capacity (out.Turn answers.NoAnswer) out.Running toggle tries pending under_way asked unheard under = record { phase = tt; same = refl; toggled = refl }
goes size capacity (out.Turn answers.NoAnswer) (out.Landed out.Stalled) toggle tries pending under_way asked unheard under = record { phase = tt; same = refl; toggled = refl }
goes size capacity (out.Turn answers.NoAnswer) (out.Landed out.Unheard) toggle tries pending under_way asked unheard under = record { phase = tt; same = refl; toggled = refl }
goes size capacity (out.Turn answers.NoAnswer) (out.Posted Refused) toggle tries pending under_way asked unheard under = record { phase = tt; same = refl; toggled = refl }
goes size capacity (out.Turn answers.NoAnswer) (out.Posted Lost) toggle tries pending under_way asked unheard under = record { phase = tt; same = refl; toggled = refl }
goes size capacity (out.Turn answers.NoAnswer) out.Halted toggle tries pending under_way asked unheard under = record { phase = tt; same = refl; toggled = refl }
goes size capacity (out.Turn answers.NoAnswer) out.Dead toggle tries pending under_way asked unheard under = record { phase = tt; same = refl; toggled = refl }
goes size capacity (out.Turn answers.NoAnswer) out.Closed toggle tries pending under_way asked unheard under = elim under [ ]
goes size capacity (out.Turn answers.NoAnswer) out.Rest toggle tries pending under_way asked unheard under = elim under [ ]
goes size capacity (out.Turn answers.NoAnswer) (out.Landed out.Acknowledged) toggle tries pending under_way asked unheard under = elim under [ ]
goes size capacity (out.Turn answers.NoAnswer) (out.Posted Went) toggle tries pending under_way asked unheard under = elim under [ ]
goes size capacity (out.Turn answers.NoAnswer) out.Clearing toggle tries pending under_way asked unheard under = elim under [ ]
goes size capacity (out.Turn answers.Done) out.Running toggle tries pending under_way asked unheard under = record { phase = tt; same = refl; toggled = refl }
goes size capacity (out.Turn answers.Done) (out.Landed out.Stalled) toggle tries pending under_way asked unheard under = record { phase = tt; same = refl; toggled = refl }
goes size capacity (out.Turn answers.Done) (out.Landed out.Unheard) toggle tries pending under_way asked unheard under = record { phase = tt; same = refl; toggled = refl }
goes size capacity (out.Turn answers.Done) (out.Posted Refused) toggle tries pending under_way asked unheard under = record { phase = tt; same = refl; toggled = refl }
goes size capacity (out.Turn answers.Done) (out.Posted Lost) toggle tries pending under_way asked unheard under = record { phase = tt; same = refl; toggled = refl }
goes size capacity (out.Turn answers.Done) out.Halted toggle tries pending under_way asked unheard under = record { phase = tt; same = refl; toggled = refl }
goes size capacity (out.Turn answers.Done) out.Dead toggle tries pending under_way asked unheard under = record { phase = tt; same = refl; toggled = refl }
goes size capacity (out.Turn answers.Done) out.Closed toggle tries pending under_way asked unheard under = elim under [ ]
goes size capacity (out.Turn answers.Done) out.Rest toggle tries pending under_way asked unheard under = elim under [ ]
goes size capacity (out.Turn answers.Done) (out.Landed out.Acknowledged) toggle tries pending under_way asked unheard under = elim under [ ]
goes size capacity (out.Turn answers.Done) (out.Posted Went) toggle tries pending under_way asked unheard under = elim under [ ]
goes size capacity (out.Turn answers.Done) out.Clearing toggle tries pending under_way asked unheard under = elim under [ ]
goes size capacity (out.Turn (answers.Data other packet)) out.Running toggle tries pending under_way asked unheard under = record { phase = tt; same = refl; toggled = refl }
goes size capacity (out.Turn (answers.Data other packet)) (out.Landed out.Stalled) toggle tries pending under_way asked unheard under = record { phase = tt; same = refl; toggled = refl }
goes size capacity (out.Turn (answers.Data other packet)) (out.Landed out.Unheard) toggle tries pending under_way asked unheard under = record { phase = tt; same = refl; toggled = refl }
goes size capacity (out.Turn (answers.Data other packet)) (out.Posted Refused) toggle tries pending under_way asked unheard under = record { phase = tt; same = refl; toggled = refl }
goes size capacity (out.Turn (answers.Data other packet)) (out.Posted Lost) toggle tries pending under_way asked unheard under = record { phase = tt; same = refl; toggled = refl }
goes size capacity (out.Turn (answers.Data other packet)) out.Halted toggle tries pending under_way asked unheard under = record { phase = tt; same = refl; toggled = refl }
goes size capacity (out.Turn (answers.Data other packet)) out.Dead toggle tries pending under_way asked unheard under = record { phase = tt; same = refl; toggled = refl }
goes size capacity (out.Turn (answers.Data other packet)) out.Closed toggle tries pending under_way asked unheard under = elim under [ ]
goes size capacity (out.Turn (answers.Data other packet)) out.Rest toggle tries pending under_way asked unheard under = elim under [ ]
goes size capacity (out.Turn (answers.Data other packet)) (out.Landed out.Acknowledged) toggle tries pending under_way asked unheard under = elim under [ ]
goes size capacity (out.Turn (answers.Data other packet)) (out.Posted Went) toggle tries pending under_way asked unheard under = elim under [ ]
goes size capacity (out.Turn (answers.Data other packet)) out.Clearing toggle tries pending under_way asked unheard under = elim under [ ]
goes size capacity (out.Does out.Irq) out.Running toggle tries pending under_way asked unheard under = record { phase = tt; same = refl; toggled = refl }
goes size capacity (out.Does out.Irq) (out.Landed out.Stalled) toggle tries pending under_way asked unheard under = record { phase = tt; same = refl; toggled = refl }
goes size capacity (out.Does out.Irq) (out.Landed out.Unheard) toggle tries pending under_way asked unheard under = elim (cases_Bool (nat_le most_tries (suc tries))) [
  | inl over ↦ rw over (record { phase = tt; same = refl; toggled = refl })
  | inr more ↦ rw more (record { phase = tt; same = refl; toggled = refl })
]
goes size capacity (out.Does out.Irq) (out.Posted Refused) toggle tries pending under_way asked unheard under = record { phase = tt; same = refl; toggled = refl }
goes size capacity (out.Does out.Irq) (out.Posted Lost) toggle tries pending under_way asked unheard under = record { phase = tt; same = refl; toggled = refl }
goes size capacity (out.Does out.Irq) out.Halted toggle tries pending under_way asked unheard under = record { phase = tt; same = refl; toggled = refl }
goes size capacity (out.Does out.Irq) out.Dead toggle tries pending under_way asked unheard under = record { phase = tt; same = refl; toggled = refl }
goes size capacity (out.Does out.Irq) out.Closed toggle tries pending under_way asked unheard under = elim under [ ]
goes size capacity (out.Does out.Irq) out.Rest toggle tries pending under_way asked unheard under = elim under [ ]
goes size capacity (out.Does out.Irq) (out.Landed out.Acknowledged) toggle tries pending under_way asked unheard under = elim under [ ]
goes size capacity (out.Does out.Irq) (out.Posted Went) toggle tries pending under_way asked unheard under = elim under [ ]
goes size capacity (out.Does out.Irq) out.Clearing toggle tries pending under_way asked unheard under = elim under [ ]
goes size capacity (out.Does out.Task) out.Running toggle tries pending under_way asked unheard under = record { phase = tt; same = refl; toggled = refl }
goes size capacity (out.Does out.Task) (out.Landed out.Stalled) toggle tries pending under_way asked unheard under = record { phase = tt; same = refl; toggled = refl }
goes size capacity (out.Does out.Task) (out.Landed out.Unheard) toggle tries pending under_way asked unheard under = record { phase = tt; same = refl; toggled = refl }
goes size capacity (out.Does out.Task) (out.Posted Refused) toggle tries pending under_way asked unheard under = record { phase = tt; same = refl; toggled = refl }
goes size capacity (out.Does out.Task) (out.Posted Lost) toggle tries pending under_way asked unheard under = record { phase = tt; same = refl; toggled = refl }
goes size capacity (out.Does out.Task) out.Halted toggle tries pending under_way asked unheard under = record { phase = tt; same = refl; toggled = refl }
goes size capacity (out.Does out.Task) out.Dead toggle tries pending under_way asked unheard under = record { phase = tt; same = refl; toggled = refl }
goes size capacity (out.Does out.Task) out.Closed toggle tries pending under_way asked unheard under = elim under [ ]
goes size capacity (out.Does out.Task) out.Rest toggle tries pending under_way asked unheard under = elim under [ ]
goes size capacity (out.Does out.Task) (out.Landed out.Acknowledged) toggle tries pending under_way asked unheard under = elim under [ ]
goes size capacity (out.Does out.Task) (out.Posted Went) toggle tries pending under_way asked unheard under = elim under [ ]
goes size capacity (out.Does out.Task) out.Clearing toggle tries pending under_way asked unheard under = elim under [ ]
goes size capacity (out.Does out.Starts) out.Running toggle tries pending under_way asked unheard under = record { phase = tt; same = refl; toggled = refl }
goes size capacity (out.Does out.Starts) (out.Landed out.Stalled) toggle tries pending under_way asked unheard under = record { phase = tt; same = refl; toggled = refl }
goes size capacity (out.Does out.Starts) (out.Landed out.Unheard) toggle tries pending under_way asked unheard under = record { phase = tt; same = refl; toggled = refl }
goes size capacity (out.Does out.Starts) (out.Posted Refused) toggle tries pending under_way asked unheard under = record { phase = tt; same = refl; toggled = refl }
goes size capacity (out.Does out.Starts) (out.Posted Lost) toggle tries pending under_way asked unheard under = record { phase = tt; same = refl; toggled = refl }
goes size capacity (out.Does out.Starts) out.Halted toggle tries pending under_way asked unheard under = record { phase = tt; same = refl; toggled = refl }
goes size capacity (out.Does out.Starts) out.Dead toggle tries pending under_way asked unheard under = record { phase = tt; same = refl; toggled = refl }
goes size capacity (out.Does out.Starts) out.Closed toggle tries pending under_way asked unheard under = elim under [ ]
goes size capacity (out.Does out.Starts) out.Rest toggle tries pending under_way asked unheard under = elim under [ ]
goes size capacity (out.Does out.Starts) (out.Landed out.Acknowledged) toggle tries pending under_way asked unheard under = elim under [ ]
goes size capacity (out.Does out.Starts) (out.Posted Went) toggle tries pending under_way asked unheard under = elim under [ ]
goes size capacity (out.Does out.Starts) out.Clearing toggle tries pending under_way asked unheard under = elim under [ ]
goes size capacity (out.Does (out.Writes bytes)) out.Running toggle tries pending under_way asked unheard under = record { phase = tt; same = refl; toggled = refl }
goes size capacity (out.Does (out.Writes bytes)) (out.Landed out.Stalled) toggle tries pending under_way asked unheard under = record { phase = tt; same = refl; toggled = refl }
goes size capacity (out.Does (out.Writes bytes)) (out.Landed out.Unheard) toggle tries pending under_way asked unheard under = record { phase = tt; same = refl; toggled = refl }
goes size capacity (out.Does (out.Writes bytes)) (out.Posted Refused) toggle tries pending under_way asked unheard under = record { phase = tt; same = refl; toggled = refl }
goes size capacity (out.Does (out.Writes bytes)) (out.Posted Lost) toggle tries pending under_way asked unheard under = record { phase = tt; same = refl; toggled = refl }
goes size capacity (out.Does (out.Writes bytes)) out.Halted toggle tries pending under_way asked unheard under = record { phase = tt; same = refl; toggled = refl }
goes size capacity (out.Does (out.Writes bytes)) out.Dead toggle tries pending under_way asked unheard under = record { phase = tt; same = refl; toggled = refl }
goes size capacity (out.Does (out.Writes bytes)) out.Closed toggle tries pending under_way asked unheard under = elim under [ ]
goes size capacity (out.Does (out.Writes bytes)) out.Rest toggle tries pending under_way asked unheard under = elim under [ ]
goes size capacity (out.Does (out.Writes bytes)) (out.Landed out.Acknowledged) toggle tries pending under_way asked unheard under = elim under [ ]
goes size capacity (out.Does (out.Writes bytes)) (out.Posted Went) toggle tries pending under_way asked unheard under = elim under [ ]
goes size capacity (out.Does (out.Writes bytes)) out.Clearing toggle tries pending under_way asked unheard under = elim under [ ]
goes size capacity (out.Does out.Asks) out.Running toggle tries pending under_way asked unheard under = record { phase = tt; same = refl; toggled = refl }
goes size capacity (out.Does out.Asks) (out.Landed out.Stalled) toggle tries pending under_way asked unheard under = record { phase = tt; same = refl; toggled = refl }
goes size capacity (out.Does out.Asks) (out.Landed out.Unheard) toggle tries pending under_way asked unheard under = record { phase = tt; same = refl; toggled = refl }
goes size capacity (out.Does out.Asks) (out.Posted Refused) toggle tries pending under_way asked unheard under = record { phase = tt; same = refl; toggled = refl }
goes size capacity (out.Does out.Asks) (out.Posted Lost) toggle tries pending under_way asked unheard under = record { phase = tt; same = refl; toggled = refl }
goes size capacity (out.Does out.Asks) out.Halted toggle tries pending under_way asked unheard under = record { phase = tt; same = refl; toggled = refl }
goes size capacity (out.Does out.Asks) out.Dead toggle tries pending under_way asked unheard under = record { phase = tt; same = refl; toggled = refl }
goes size capacity (out.Does out.Asks) out.Closed toggle tries pending under_way asked unheard under = elim under [ ]
goes size capacity (out.Does out.Asks) out.Rest toggle tries pending under_way asked unheard under = elim under [ ]
goes size capacity (out.Does out.Asks) (out.Landed out.Acknowledged) toggle tries pending under_way asked unheard under = elim under [ ]
goes size capacity (out.Does out.Asks) (out.Posted Went) toggle tries pending under_way asked unheard under = elim under [ ]
goes size capacity (out.Does out.Asks) out.Clearing toggle tries pending under_way asked unheard under = elim under [ ]
goes size capacity out.Clears phase toggle tries pending under_way asked unheard under = elim unheard [ ]
goes size capacity (out.ClearEnds passed) out.Running toggle tries pending under_way asked unheard under = record { phase = tt; same = refl; toggled = refl }
goes size capacity (out.ClearEnds passed) (out.Landed out.Stalled) toggle tries pending under_way asked unheard under = record { phase = tt; same = refl; toggled = refl }
goes size capacity (out.ClearEnds passed) (out.Landed out.Unheard) toggle tries pending under_way asked unheard under = record { phase = tt; same = refl; toggled = refl }
goes size capacity (out.ClearEnds passed) (out.Posted Refused) toggle tries pending under_way asked unheard under = record { phase = tt; same = refl; toggled = refl }
goes size capacity (out.ClearEnds passed) (out.Posted Lost) toggle tries pending under_way asked unheard under = record { phase = tt; same = refl; toggled = refl }
goes size capacity (out.ClearEnds passed) out.Halted toggle tries pending under_way asked unheard under = record { phase = tt; same = refl; toggled = refl }
goes size capacity (out.ClearEnds passed) out.Dead toggle tries pending under_way asked unheard under = record { phase = tt; same = refl; toggled = refl }
goes size capacity (out.ClearEnds passed) out.Closed toggle tries pending under_way asked unheard under = elim under [ ]
goes size capacity (out.ClearEnds passed) out.Rest toggle tries pending under_way asked unheard under = elim under [ ]
goes size capacity (out.ClearEnds passed) (out.Landed out.Acknowledged) toggle tries pending under_way asked unheard under = elim under [ ]
goes size capacity (out.ClearEnds passed) (out.Posted Went) toggle tries pending under_way asked unheard under = elim under [ ]
goes size capacity (out.ClearEnds passed) out.Clearing toggle tries pending under_way asked unheard under = elim under [ ]

goes_on : (size capacity : ℕ) (under_way : Option (List ℕ)) (toggle : Toggle) (pipe : OutPipe) (events : List OutEvent) → All IsUnheard events
    → Goes under_way toggle pipe → Goes under_way toggle (out.after_events size capacity pipe events)
goes_on size capacity under_way toggle pipe [] all g = g
goes_on size capacity under_way toggle pipe (event ∷ events) all g =
    let next = goes size capacity event pipe.phase pipe.toggle pipe.tries pipe.pending pipe.under_way pipe.asked (All-head IsUnheard event events all) g.phase in
    goes_on size capacity under_way toggle (out.after_event size capacity pipe event) events (All-tail IsUnheard event events all)
    (record { phase = next.phase; same = next.same ∙ g.same; toggled = next.toggled ∙ g.toggled })

-- what is sent is what is under way
sent_under : (phase : OutPhase) (under_way : Option (List ℕ)) (packet : List ℕ) → sent_at phase under_way ≡ Some packet → (under_way ≡ Some packet) × Under phase
sent_under out.Running under_way packet e = (e, tt)
sent_under out.Closed under_way packet e = elim (true≢false (sym (ap (λ (o : Option (List ℕ)). is_some o) e))) [ ]
sent_under out.Rest under_way packet e = elim (true≢false (sym (ap (λ (o : Option (List ℕ)). is_some o) e))) [ ]
sent_under (out.Landed result) under_way packet e = elim (true≢false (sym (ap (λ (o : Option (List ℕ)). is_some o) e))) [ ]
sent_under (out.Posted note) under_way packet e = elim (true≢false (sym (ap (λ (o : Option (List ℕ)). is_some o) e))) [ ]
sent_under out.Halted under_way packet e = elim (true≢false (sym (ap (λ (o : Option (List ℕ)). is_some o) e))) [ ]
sent_under out.Dead under_way packet e = elim (true≢false (sym (ap (λ (o : Option (List ℕ)). is_some o) e))) [ ]
sent_under out.Clearing under_way packet e = elim (true≢false (sym (ap (λ (o : Option (List ℕ)). is_some o) e))) [ ]

it_or_nothing : (phase : OutPhase) (packet : List ℕ) → IsItOrNothing packet (sent_at phase (Some packet))
it_or_nothing out.Running packet = refl
it_or_nothing out.Closed packet = tt
it_or_nothing out.Rest packet = tt
it_or_nothing (out.Landed result) packet = tt
it_or_nothing (out.Posted note) packet = tt
it_or_nothing out.Halted packet = tt
it_or_nothing out.Dead packet = tt
it_or_nothing out.Clearing packet = tt

went_on : (size capacity : ℕ) (pipe : OutPipe) (events : List OutEvent) (packet : List ℕ) → All IsUnheard events → out_sent pipe ≡ Some packet
    → Goes (Some packet) pipe.toggle (out.after_events size capacity pipe events)
went_on size capacity pipe events packet all e =
    let first = sent_under pipe.phase pipe.under_way packet e in
    goes_on size capacity (Some packet) pipe.toggle pipe events all (record { phase = first.1; same = first.0; toggled = refl })

pub again : (size capacity : ℕ) (pipe : OutPipe) (events : List OutEvent) (packet : List ℕ) → All IsUnheard events → out_sent pipe ≡ Some packet
    → IsItOrNothing packet (out_sent (out.after_events size capacity pipe events))
again size capacity pipe events packet all e =
    let g = went_on size capacity pipe events packet all e in
    let after = out.after_events size capacity pipe events in
    subst (λ (o : Option (List ℕ)). IsItOrNothing packet (sent_at after.phase o)) (sym g.same) (it_or_nothing after.phase packet)

pub kept : (size capacity : ℕ) (pipe : OutPipe) (events : List OutEvent) (packet : List ℕ) → All IsUnheard events → out_sent pipe ≡ Some packet
    → (out.after_events size capacity pipe events).under_way ≡ Some packet
kept size capacity pipe events packet all e = (went_on size capacity pipe events packet all e).same

pub toggle_kept : (size capacity : ℕ) (pipe : OutPipe) (events : List OutEvent) (packet : List ℕ) → All IsUnheard events → out_sent pipe ≡ Some packet
    → (out.after_events size capacity pipe events).toggle ≡ pipe.toggle
toggle_kept size capacity pipe events packet all e = (went_on size capacity pipe events packet all e).toggled

-- Pipes that send nothing.

pub clearing : (size capacity : ℕ) (events : List OutEvent) (toggle : Toggle) (tries : ℕ) (pending : List ℕ) (under_way : Option (List ℕ)) (asked : Bool) → All EndsNoOut events
    → out_sent (out.after_events size capacity (out_pipe out.Clearing toggle tries pending under_way asked) events) ≡ None
clearing size capacity [] toggle tries pending under_way asked all = refl
clearing size capacity (out.Turn reply ∷ events) toggle tries pending under_way asked all = clearing size capacity events toggle tries pending under_way asked (All-tail EndsNoOut (out.Turn reply) events all)
clearing size capacity (out.Does out.Irq ∷ events) toggle tries pending under_way asked all = clearing size capacity events toggle tries pending under_way asked (All-tail EndsNoOut (out.Does out.Irq) events all)
clearing size capacity (out.Does out.Task ∷ events) toggle tries pending under_way asked all = clearing size capacity events toggle tries pending under_way asked (All-tail EndsNoOut (out.Does out.Task) events all)
clearing size capacity (out.Does out.Starts ∷ events) toggle tries pending under_way asked all = clearing size capacity events toggle tries pending under_way asked (All-tail EndsNoOut (out.Does out.Starts) events all)
clearing size capacity (out.Does (out.Writes bytes) ∷ events) toggle tries pending under_way asked all = clearing size capacity events toggle tries (pending ++ take (capacity - length pending) bytes) under_way asked (All-tail EndsNoOut (out.Does (out.Writes bytes)) events all)
clearing size capacity (out.Does out.Asks ∷ events) toggle tries pending under_way asked all = clearing size capacity events toggle tries pending under_way true (All-tail EndsNoOut (out.Does out.Asks) events all)
clearing size capacity (out.Clears ∷ events) toggle tries pending under_way asked all = clearing size capacity events toggle tries pending under_way asked (All-tail EndsNoOut out.Clears events all)
clearing size capacity (out.ClearEnds passed ∷ events) toggle tries pending under_way asked all = elim (All-head EndsNoOut (out.ClearEnds passed) events all) [ ]

pub halted : (size capacity : ℕ) (events : List OutEvent) (toggle : Toggle) (tries : ℕ) (pending : List ℕ) (under_way : Option (List ℕ)) (asked : Bool) → All ClearsNoOut events
    → out_sent (out.after_events size capacity (out_pipe out.Halted toggle tries pending under_way asked) events) ≡ None
halted size capacity [] toggle tries pending under_way asked all = refl
halted size capacity (out.Turn reply ∷ events) toggle tries pending under_way asked all = halted size capacity events toggle tries pending under_way asked (All-tail ClearsNoOut (out.Turn reply) events all)
halted size capacity (out.Does out.Irq ∷ events) toggle tries pending under_way asked all = halted size capacity events toggle tries pending under_way asked (All-tail ClearsNoOut (out.Does out.Irq) events all)
halted size capacity (out.Does out.Task ∷ events) toggle tries pending under_way asked all = halted size capacity events toggle tries pending under_way asked (All-tail ClearsNoOut (out.Does out.Task) events all)
halted size capacity (out.Does out.Starts ∷ events) toggle tries pending under_way asked all = halted size capacity events toggle tries pending under_way asked (All-tail ClearsNoOut (out.Does out.Starts) events all)
halted size capacity (out.Does (out.Writes bytes) ∷ events) toggle tries pending under_way asked all = halted size capacity events toggle tries (pending ++ take (capacity - length pending) bytes) under_way asked (All-tail ClearsNoOut (out.Does (out.Writes bytes)) events all)
halted size capacity (out.Does out.Asks ∷ events) toggle tries pending under_way asked all = halted size capacity events toggle tries pending under_way true (All-tail ClearsNoOut (out.Does out.Asks) events all)
halted size capacity (out.ClearEnds passed ∷ events) toggle tries pending under_way asked all = halted size capacity events toggle tries pending under_way asked (All-tail ClearsNoOut (out.ClearEnds passed) events all)
halted size capacity (out.Clears ∷ events) toggle tries pending under_way asked all = elim (All-head ClearsNoOut out.Clears events all) [ ]

pub dead : (size capacity : ℕ) (events : List OutEvent) (toggle : Toggle) (tries : ℕ) (pending : List ℕ) (under_way : Option (List ℕ)) (asked : Bool) → All ClearsNoOut events
    → out_sent (out.after_events size capacity (out_pipe out.Dead toggle tries pending under_way asked) events) ≡ None
dead size capacity [] toggle tries pending under_way asked all = refl
dead size capacity (out.Turn reply ∷ events) toggle tries pending under_way asked all = dead size capacity events toggle tries pending under_way asked (All-tail ClearsNoOut (out.Turn reply) events all)
dead size capacity (out.Does out.Irq ∷ events) toggle tries pending under_way asked all = dead size capacity events toggle tries pending under_way asked (All-tail ClearsNoOut (out.Does out.Irq) events all)
dead size capacity (out.Does out.Task ∷ events) toggle tries pending under_way asked all = dead size capacity events toggle tries pending under_way asked (All-tail ClearsNoOut (out.Does out.Task) events all)
dead size capacity (out.Does out.Starts ∷ events) toggle tries pending under_way asked all = dead size capacity events toggle tries pending under_way asked (All-tail ClearsNoOut (out.Does out.Starts) events all)
dead size capacity (out.Does (out.Writes bytes) ∷ events) toggle tries pending under_way asked all = dead size capacity events toggle tries (pending ++ take (capacity - length pending) bytes) under_way asked (All-tail ClearsNoOut (out.Does (out.Writes bytes)) events all)
dead size capacity (out.Does out.Asks ∷ events) toggle tries pending under_way asked all = dead size capacity events toggle tries pending under_way true (All-tail ClearsNoOut (out.Does out.Asks) events all)
dead size capacity (out.ClearEnds passed ∷ events) toggle tries pending under_way asked all = dead size capacity events toggle tries pending under_way asked (All-tail ClearsNoOut (out.ClearEnds passed) events all)
dead size capacity (out.Clears ∷ events) toggle tries pending under_way asked all = elim (All-head ClearsNoOut out.Clears events all) [ ]

pub in_clearing : (size : ℕ) (events : List InEvent) (toggle : Toggle) (tries : ℕ) (held : List ℕ) → All EndsNoIn events
    → in_sent (inward.after_events size (in_pipe inward.Clearing toggle tries held) events) ≡ false
in_clearing size [] toggle tries held all = refl
in_clearing size (inward.Turn reply ∷ events) toggle tries held all = in_clearing size events toggle tries held (All-tail EndsNoIn (inward.Turn reply) events all)
in_clearing size (inward.Does inward.Irq ∷ events) toggle tries held all = in_clearing size events toggle tries held (All-tail EndsNoIn (inward.Does inward.Irq) events all)
in_clearing size (inward.Does inward.Task ∷ events) toggle tries held all = in_clearing size events toggle tries held (All-tail EndsNoIn (inward.Does inward.Task) events all)
in_clearing size (inward.Does inward.Starts ∷ events) toggle tries held all = in_clearing size events toggle tries held (All-tail EndsNoIn (inward.Does inward.Starts) events all)
in_clearing size (inward.Does (inward.Reads n) ∷ events) toggle tries held all = in_clearing size events toggle tries (drop n held) (All-tail EndsNoIn (inward.Does (inward.Reads n)) events all)
in_clearing size (inward.Clears ∷ events) toggle tries held all = in_clearing size events toggle tries held (All-tail EndsNoIn inward.Clears events all)
in_clearing size (inward.ClearEnds passed ∷ events) toggle tries held all = elim (All-head EndsNoIn (inward.ClearEnds passed) events all) [ ]

pub in_halted : (size : ℕ) (events : List InEvent) (toggle : Toggle) (tries : ℕ) (held : List ℕ) → All ClearsNoIn events
    → in_sent (inward.after_events size (in_pipe inward.Halted toggle tries held) events) ≡ false
in_halted size [] toggle tries held all = refl
in_halted size (inward.Turn reply ∷ events) toggle tries held all = in_halted size events toggle tries held (All-tail ClearsNoIn (inward.Turn reply) events all)
in_halted size (inward.Does inward.Irq ∷ events) toggle tries held all = in_halted size events toggle tries held (All-tail ClearsNoIn (inward.Does inward.Irq) events all)
in_halted size (inward.Does inward.Task ∷ events) toggle tries held all = in_halted size events toggle tries held (All-tail ClearsNoIn (inward.Does inward.Task) events all)
in_halted size (inward.Does inward.Starts ∷ events) toggle tries held all = in_halted size events toggle tries held (All-tail ClearsNoIn (inward.Does inward.Starts) events all)
in_halted size (inward.Does (inward.Reads n) ∷ events) toggle tries held all = in_halted size events toggle tries (drop n held) (All-tail ClearsNoIn (inward.Does (inward.Reads n)) events all)
in_halted size (inward.ClearEnds passed ∷ events) toggle tries held all = in_halted size events toggle tries held (All-tail ClearsNoIn (inward.ClearEnds passed) events all)
in_halted size (inward.Clears ∷ events) toggle tries held all = elim (All-head ClearsNoIn inward.Clears events all) [ ]

pub in_dead : (size : ℕ) (events : List InEvent) (toggle : Toggle) (tries : ℕ) (held : List ℕ) → All ClearsNoIn events
    → in_sent (inward.after_events size (in_pipe inward.Dead toggle tries held) events) ≡ false
in_dead size [] toggle tries held all = refl
in_dead size (inward.Turn reply ∷ events) toggle tries held all = in_dead size events toggle tries held (All-tail ClearsNoIn (inward.Turn reply) events all)
in_dead size (inward.Does inward.Irq ∷ events) toggle tries held all = in_dead size events toggle tries held (All-tail ClearsNoIn (inward.Does inward.Irq) events all)
in_dead size (inward.Does inward.Task ∷ events) toggle tries held all = in_dead size events toggle tries held (All-tail ClearsNoIn (inward.Does inward.Task) events all)
in_dead size (inward.Does inward.Starts ∷ events) toggle tries held all = in_dead size events toggle tries held (All-tail ClearsNoIn (inward.Does inward.Starts) events all)
in_dead size (inward.Does (inward.Reads n) ∷ events) toggle tries held all = in_dead size events toggle tries (drop n held) (All-tail ClearsNoIn (inward.Does (inward.Reads n)) events all)
in_dead size (inward.ClearEnds passed ∷ events) toggle tries held all = in_dead size events toggle tries held (All-tail ClearsNoIn (inward.ClearEnds passed) events all)
in_dead size (inward.Clears ∷ events) toggle tries held all = elim (All-head ClearsNoIn inward.Clears events all) [ ]

-- a closed pipe, whatever happens
closed_from : (size capacity : ℕ) (events : List OutEvent) (toggle : Toggle) (tries : ℕ) (pending : List ℕ) (under_way : Option (List ℕ)) (asked : Bool)
    → out_sent (out.after_events size capacity (out_pipe out.Closed toggle tries pending under_way asked) events) ≡ None
closed_from size capacity [] toggle tries pending under_way asked = refl
closed_from size capacity (out.Turn reply ∷ events) toggle tries pending under_way asked = closed_from size capacity events toggle tries pending under_way asked
closed_from size capacity (out.Does out.Irq ∷ events) toggle tries pending under_way asked = closed_from size capacity events toggle tries pending under_way asked
closed_from size capacity (out.Does out.Task ∷ events) toggle tries pending under_way asked = closed_from size capacity events toggle tries pending under_way asked
closed_from size capacity (out.Does out.Starts ∷ events) toggle tries pending under_way asked = closed_from size capacity events toggle tries pending under_way asked
closed_from size capacity (out.Does (out.Writes bytes) ∷ events) toggle tries pending under_way asked =
    closed_from size capacity events toggle tries (pending ++ take (capacity - length pending) bytes) under_way asked
closed_from size capacity (out.Does out.Asks ∷ events) toggle tries pending under_way asked = closed_from size capacity events toggle tries pending under_way true
closed_from size capacity (out.Clears ∷ events) toggle tries pending under_way asked = closed_from size capacity events toggle tries pending under_way asked
closed_from size capacity (out.ClearEnds passed ∷ events) toggle tries pending under_way asked = closed_from size capacity events toggle tries pending under_way asked

pub closed : (size capacity : ℕ) (events : List OutEvent) → out_sent (out.after_events size capacity out.closed events) ≡ None
closed size capacity events = closed_from size capacity events D0 0 [] None false

in_closed_from : (size : ℕ) (events : List InEvent) (toggle : Toggle) (tries : ℕ) (held : List ℕ)
    → in_sent (inward.after_events size (in_pipe inward.Closed toggle tries held) events) ≡ false
in_closed_from size [] toggle tries held = refl
in_closed_from size (inward.Turn reply ∷ events) toggle tries held = in_closed_from size events toggle tries held
in_closed_from size (inward.Does inward.Irq ∷ events) toggle tries held = in_closed_from size events toggle tries held
in_closed_from size (inward.Does inward.Task ∷ events) toggle tries held = in_closed_from size events toggle tries held
in_closed_from size (inward.Does inward.Starts ∷ events) toggle tries held = in_closed_from size events toggle tries held
in_closed_from size (inward.Does (inward.Reads n) ∷ events) toggle tries held = in_closed_from size events toggle tries (drop n held)
in_closed_from size (inward.Clears ∷ events) toggle tries held = in_closed_from size events toggle tries held
in_closed_from size (inward.ClearEnds passed ∷ events) toggle tries held = in_closed_from size events toggle tries held

pub in_closed : (size : ℕ) (events : List InEvent) → in_sent (inward.after_events size inward.closed events) ≡ false
in_closed size events = in_closed_from size events D0 0 []
