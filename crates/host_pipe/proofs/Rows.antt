-- A pipe dies of three tries in a row, and of no fewer.
use Rattle.std.proofs.Common.{◌≡◌, ℕ, suc, ◌<◌, ◌≤◌, List, [], ◌∷◌, Bool, true, false, length, Option, inl, inr, refl, ap, arith}
use Rattle.std.specs.Prelude.{nat_le, nat_lt}
use Rattle.std.proofs.lemmas.Bool.{cases_Bool, leb-true, leb-false}
use Rattle.usb_packet.specs.declared.bus.Toggle.{Toggle}
use Rattle.usb_packet.specs.declared.bus.BusAnswer.TheVariants as answers
use Rattle.usb_packet.specs.Toggles.{same_toggle}
use Rattle.host_pipe.specs.Tries.{Went, Refused, Lost, most_tries}
use Rattle.host_pipe.specs.OutPipe as out
use Rattle.host_pipe.specs.OutPipe.{OutPipe, OutPhase, OutEvent}
use Rattle.host_pipe.specs.InPipe as inward
use Rattle.host_pipe.specs.InPipe.{InPipe, InPhase, InEvent}
use Rattle.host_pipe.specs.Laws.{IsRow, row_by, out_row, IsInRow, in_row_by, in_row}
use Rattle.host_pipe.specs.Steps.{out_pipe, in_pipe}

one_more : (tries row : ℕ) → tries ≡ row → row < 3 → (suc tries ≡ suc row) × (suc row ≤ 3)
one_more tries row e h = (ap suc e, omega arith)

over : (tries row : ℕ) → 3 ≤ suc tries → suc tries ≡ row → row ≤ 3 → row ≡ 3
over tries row h e most = omega arith

more : (tries row : ℕ) → suc tries < 3 → suc tries ≡ row → (suc tries ≡ row) × (row < 3)
more tries row h e = (e, omega arith)

none : 0 < 3
none = omega arith

row_after : (size capacity : ℕ) (event : OutEvent) (phase : OutPhase) (toggle : Toggle) (tries : ℕ) (pending : List ℕ) (under_way : Option (List ℕ)) (asked : Bool) (row : ℕ) → IsRow phase tries row
    → (let new : OutPipe = out.after_event size capacity (out_pipe phase toggle tries pending under_way asked) event in IsRow new.phase new.tries (row_by phase row event))
row_after size capacity (out.Turn answers.Ack) out.Closed toggle tries pending under_way asked row h = h
row_after size capacity (out.Turn answers.Ack) out.Rest toggle tries pending under_way asked row h = h
row_after size capacity (out.Turn answers.Ack) out.Running toggle tries pending under_way asked row h = tt
row_after size capacity (out.Turn answers.Ack) (out.Landed out.Acknowledged) toggle tries pending under_way asked row h = h
row_after size capacity (out.Turn answers.Ack) (out.Landed out.Stalled) toggle tries pending under_way asked row h = h
row_after size capacity (out.Turn answers.Ack) (out.Landed out.Unheard) toggle tries pending under_way asked row h = h
row_after size capacity (out.Turn answers.Ack) (out.Posted note) toggle tries pending under_way asked row h = h
row_after size capacity (out.Turn answers.Ack) out.Halted toggle tries pending under_way asked row h = h
row_after size capacity (out.Turn answers.Ack) out.Dead toggle tries pending under_way asked row h = h
row_after size capacity (out.Turn answers.Ack) out.Clearing toggle tries pending under_way asked row h = h
row_after size capacity (out.Turn answers.Nak) out.Closed toggle tries pending under_way asked row h = h
row_after size capacity (out.Turn answers.Nak) out.Rest toggle tries pending under_way asked row h = h
row_after size capacity (out.Turn answers.Nak) out.Running toggle tries pending under_way asked row h = (refl, none)
row_after size capacity (out.Turn answers.Nak) (out.Landed out.Acknowledged) toggle tries pending under_way asked row h = h
row_after size capacity (out.Turn answers.Nak) (out.Landed out.Stalled) toggle tries pending under_way asked row h = h
row_after size capacity (out.Turn answers.Nak) (out.Landed out.Unheard) toggle tries pending under_way asked row h = h
row_after size capacity (out.Turn answers.Nak) (out.Posted note) toggle tries pending under_way asked row h = h
row_after size capacity (out.Turn answers.Nak) out.Halted toggle tries pending under_way asked row h = h
row_after size capacity (out.Turn answers.Nak) out.Dead toggle tries pending under_way asked row h = h
row_after size capacity (out.Turn answers.Nak) out.Clearing toggle tries pending under_way asked row h = h
row_after size capacity (out.Turn answers.Stall) out.Closed toggle tries pending under_way asked row h = h
row_after size capacity (out.Turn answers.Stall) out.Rest toggle tries pending under_way asked row h = h
row_after size capacity (out.Turn answers.Stall) out.Running toggle tries pending under_way asked row h = tt
row_after size capacity (out.Turn answers.Stall) (out.Landed out.Acknowledged) toggle tries pending under_way asked row h = h
row_after size capacity (out.Turn answers.Stall) (out.Landed out.Stalled) toggle tries pending under_way asked row h = h
row_after size capacity (out.Turn answers.Stall) (out.Landed out.Unheard) toggle tries pending under_way asked row h = h
row_after size capacity (out.Turn answers.Stall) (out.Posted note) toggle tries pending under_way asked row h = h
row_after size capacity (out.Turn answers.Stall) out.Halted toggle tries pending under_way asked row h = h
row_after size capacity (out.Turn answers.Stall) out.Dead toggle tries pending under_way asked row h = h
row_after size capacity (out.Turn answers.Stall) out.Clearing toggle tries pending under_way asked row h = h
row_after size capacity (out.Turn answers.NoAnswer) out.Closed toggle tries pending under_way asked row h = h
row_after size capacity (out.Turn answers.NoAnswer) out.Rest toggle tries pending under_way asked row h = h
row_after size capacity (out.Turn answers.NoAnswer) out.Running toggle tries pending under_way asked row h = one_more tries row h.0 h.1
row_after size capacity (out.Turn answers.NoAnswer) (out.Landed out.Acknowledged) toggle tries pending under_way asked row h = h
row_after size capacity (out.Turn answers.NoAnswer) (out.Landed out.Stalled) toggle tries pending under_way asked row h = h
row_after size capacity (out.Turn answers.NoAnswer) (out.Landed out.Unheard) toggle tries pending under_way asked row h = h
row_after size capacity (out.Turn answers.NoAnswer) (out.Posted note) toggle tries pending under_way asked row h = h
row_after size capacity (out.Turn answers.NoAnswer) out.Halted toggle tries pending under_way asked row h = h
row_after size capacity (out.Turn answers.NoAnswer) out.Dead toggle tries pending under_way asked row h = h
row_after size capacity (out.Turn answers.NoAnswer) out.Clearing toggle tries pending under_way asked row h = h
row_after size capacity (out.Turn answers.Done) out.Closed toggle tries pending under_way asked row h = h
row_after size capacity (out.Turn answers.Done) out.Rest toggle tries pending under_way asked row h = h
row_after size capacity (out.Turn answers.Done) out.Running toggle tries pending under_way asked row h = one_more tries row h.0 h.1
row_after size capacity (out.Turn answers.Done) (out.Landed out.Acknowledged) toggle tries pending under_way asked row h = h
row_after size capacity (out.Turn answers.Done) (out.Landed out.Stalled) toggle tries pending under_way asked row h = h
row_after size capacity (out.Turn answers.Done) (out.Landed out.Unheard) toggle tries pending under_way asked row h = h
row_after size capacity (out.Turn answers.Done) (out.Posted note) toggle tries pending under_way asked row h = h
row_after size capacity (out.Turn answers.Done) out.Halted toggle tries pending under_way asked row h = h
row_after size capacity (out.Turn answers.Done) out.Dead toggle tries pending under_way asked row h = h
row_after size capacity (out.Turn answers.Done) out.Clearing toggle tries pending under_way asked row h = h
row_after size capacity (out.Turn (answers.Data other packet)) out.Closed toggle tries pending under_way asked row h = h
row_after size capacity (out.Turn (answers.Data other packet)) out.Rest toggle tries pending under_way asked row h = h
row_after size capacity (out.Turn (answers.Data other packet)) out.Running toggle tries pending under_way asked row h = one_more tries row h.0 h.1
row_after size capacity (out.Turn (answers.Data other packet)) (out.Landed out.Acknowledged) toggle tries pending under_way asked row h = h
row_after size capacity (out.Turn (answers.Data other packet)) (out.Landed out.Stalled) toggle tries pending under_way asked row h = h
row_after size capacity (out.Turn (answers.Data other packet)) (out.Landed out.Unheard) toggle tries pending under_way asked row h = h
row_after size capacity (out.Turn (answers.Data other packet)) (out.Posted note) toggle tries pending under_way asked row h = h
row_after size capacity (out.Turn (answers.Data other packet)) out.Halted toggle tries pending under_way asked row h = h
row_after size capacity (out.Turn (answers.Data other packet)) out.Dead toggle tries pending under_way asked row h = h
row_after size capacity (out.Turn (answers.Data other packet)) out.Clearing toggle tries pending under_way asked row h = h
row_after size capacity (out.Does out.Irq) out.Closed toggle tries pending under_way asked row h = h
row_after size capacity (out.Does out.Irq) out.Rest toggle tries pending under_way asked row h = h
row_after size capacity (out.Does out.Irq) out.Running toggle tries pending under_way asked row h = h
row_after size capacity (out.Does out.Irq) (out.Landed out.Acknowledged) toggle tries pending under_way asked row h = tt
row_after size capacity (out.Does out.Irq) (out.Landed out.Stalled) toggle tries pending under_way asked row h = tt
row_after size capacity (out.Does out.Irq) (out.Landed out.Unheard) toggle tries pending under_way asked row h = elim (cases_Bool (nat_le most_tries (suc tries))) [
  | inl all ↦ rw all (over tries row (leb-true most_tries (suc tries) all) h.0 h.1)
  | inr fewer ↦ rw fewer (more tries row (leb-false most_tries (suc tries) fewer) h.0)
]
row_after size capacity (out.Does out.Irq) (out.Posted note) toggle tries pending under_way asked row h = h
row_after size capacity (out.Does out.Irq) out.Halted toggle tries pending under_way asked row h = h
row_after size capacity (out.Does out.Irq) out.Dead toggle tries pending under_way asked row h = h
row_after size capacity (out.Does out.Irq) out.Clearing toggle tries pending under_way asked row h = h
row_after size capacity (out.Does out.Task) out.Closed toggle tries pending under_way asked row h = h
row_after size capacity (out.Does out.Task) out.Rest toggle tries pending under_way asked row h = h
row_after size capacity (out.Does out.Task) out.Running toggle tries pending under_way asked row h = h
row_after size capacity (out.Does out.Task) (out.Landed out.Acknowledged) toggle tries pending under_way asked row h = h
row_after size capacity (out.Does out.Task) (out.Landed out.Stalled) toggle tries pending under_way asked row h = h
row_after size capacity (out.Does out.Task) (out.Landed out.Unheard) toggle tries pending under_way asked row h = h
row_after size capacity (out.Does out.Task) (out.Posted Went) toggle tries pending under_way asked row h = tt
row_after size capacity (out.Does out.Task) (out.Posted Refused) toggle tries pending under_way asked row h = tt
row_after size capacity (out.Does out.Task) (out.Posted Lost) toggle tries pending under_way asked row h = tt
row_after size capacity (out.Does out.Task) out.Halted toggle tries pending under_way asked row h = h
row_after size capacity (out.Does out.Task) out.Dead toggle tries pending under_way asked row h = h
row_after size capacity (out.Does out.Task) out.Clearing toggle tries pending under_way asked row h = h
row_after size capacity (out.Does out.Starts) out.Closed toggle tries pending under_way asked row h = h
row_after size capacity (out.Does out.Starts) out.Rest toggle tries [] under_way false row h = tt
row_after size capacity (out.Does out.Starts) out.Rest toggle tries [] under_way true row h = (refl, none)
row_after size capacity (out.Does out.Starts) out.Rest toggle tries (byte ∷ bytes) under_way asked row h = (refl, none)
row_after size capacity (out.Does out.Starts) out.Running toggle tries pending under_way asked row h = h
row_after size capacity (out.Does out.Starts) (out.Landed out.Acknowledged) toggle tries pending under_way asked row h = h
row_after size capacity (out.Does out.Starts) (out.Landed out.Stalled) toggle tries pending under_way asked row h = h
row_after size capacity (out.Does out.Starts) (out.Landed out.Unheard) toggle tries pending under_way asked row h = h
row_after size capacity (out.Does out.Starts) (out.Posted note) toggle tries pending under_way asked row h = h
row_after size capacity (out.Does out.Starts) out.Halted toggle tries pending under_way asked row h = h
row_after size capacity (out.Does out.Starts) out.Dead toggle tries pending under_way asked row h = h
row_after size capacity (out.Does out.Starts) out.Clearing toggle tries pending under_way asked row h = h
row_after size capacity (out.Does (out.Writes bytes)) out.Closed toggle tries pending under_way asked row h = h
row_after size capacity (out.Does (out.Writes bytes)) out.Rest toggle tries pending under_way asked row h = h
row_after size capacity (out.Does (out.Writes bytes)) out.Running toggle tries pending under_way asked row h = h
row_after size capacity (out.Does (out.Writes bytes)) (out.Landed out.Acknowledged) toggle tries pending under_way asked row h = h
row_after size capacity (out.Does (out.Writes bytes)) (out.Landed out.Stalled) toggle tries pending under_way asked row h = h
row_after size capacity (out.Does (out.Writes bytes)) (out.Landed out.Unheard) toggle tries pending under_way asked row h = h
row_after size capacity (out.Does (out.Writes bytes)) (out.Posted note) toggle tries pending under_way asked row h = h
row_after size capacity (out.Does (out.Writes bytes)) out.Halted toggle tries pending under_way asked row h = h
row_after size capacity (out.Does (out.Writes bytes)) out.Dead toggle tries pending under_way asked row h = h
row_after size capacity (out.Does (out.Writes bytes)) out.Clearing toggle tries pending under_way asked row h = h
row_after size capacity (out.Does out.Asks) out.Closed toggle tries pending under_way asked row h = h
row_after size capacity (out.Does out.Asks) out.Rest toggle tries pending under_way asked row h = h
row_after size capacity (out.Does out.Asks) out.Running toggle tries pending under_way asked row h = h
row_after size capacity (out.Does out.Asks) (out.Landed out.Acknowledged) toggle tries pending under_way asked row h = h
row_after size capacity (out.Does out.Asks) (out.Landed out.Stalled) toggle tries pending under_way asked row h = h
row_after size capacity (out.Does out.Asks) (out.Landed out.Unheard) toggle tries pending under_way asked row h = h
row_after size capacity (out.Does out.Asks) (out.Posted note) toggle tries pending under_way asked row h = h
row_after size capacity (out.Does out.Asks) out.Halted toggle tries pending under_way asked row h = h
row_after size capacity (out.Does out.Asks) out.Dead toggle tries pending under_way asked row h = h
row_after size capacity (out.Does out.Asks) out.Clearing toggle tries pending under_way asked row h = h
row_after size capacity out.Clears out.Closed toggle tries pending under_way asked row h = h
row_after size capacity out.Clears out.Rest toggle tries pending under_way asked row h = tt
row_after size capacity out.Clears out.Running toggle tries pending under_way asked row h = tt
row_after size capacity out.Clears (out.Landed out.Acknowledged) toggle tries pending under_way asked row h = tt
row_after size capacity out.Clears (out.Landed out.Stalled) toggle tries pending under_way asked row h = tt
row_after size capacity out.Clears (out.Landed out.Unheard) toggle tries pending under_way asked row h = tt
row_after size capacity out.Clears (out.Posted note) toggle tries pending under_way asked row h = tt
row_after size capacity out.Clears out.Halted toggle tries pending under_way asked row h = tt
row_after size capacity out.Clears out.Dead toggle tries pending under_way asked row h = tt
row_after size capacity out.Clears out.Clearing toggle tries pending under_way asked row h = h
row_after size capacity (out.ClearEnds passed) out.Closed toggle tries pending under_way asked row h = h
row_after size capacity (out.ClearEnds passed) out.Rest toggle tries pending under_way asked row h = h
row_after size capacity (out.ClearEnds passed) out.Running toggle tries pending under_way asked row h = h
row_after size capacity (out.ClearEnds passed) (out.Landed out.Acknowledged) toggle tries pending under_way asked row h = h
row_after size capacity (out.ClearEnds passed) (out.Landed out.Stalled) toggle tries pending under_way asked row h = h
row_after size capacity (out.ClearEnds passed) (out.Landed out.Unheard) toggle tries pending under_way asked row h = h
row_after size capacity (out.ClearEnds passed) (out.Posted note) toggle tries pending under_way asked row h = h
row_after size capacity (out.ClearEnds passed) out.Halted toggle tries pending under_way asked row h = h
row_after size capacity (out.ClearEnds passed) out.Dead toggle tries pending under_way asked row h = h
row_after size capacity (out.ClearEnds true) out.Clearing toggle tries pending under_way asked row h = tt
row_after size capacity (out.ClearEnds false) out.Clearing toggle tries pending under_way asked row h = tt

rows : (size capacity : ℕ) (events : List OutEvent) (pipe : OutPipe) (row : ℕ) → IsRow pipe.phase pipe.tries row
    → IsRow (out.after_events size capacity pipe events).phase (out.after_events size capacity pipe events).tries (out_row size capacity pipe row events)
rows size capacity [] pipe row h = h
rows size capacity (event ∷ events) pipe row h =
    rows size capacity events (out.after_event size capacity pipe event) (row_by pipe.phase row event)
    (row_after size capacity event pipe.phase pipe.toggle pipe.tries pipe.pending pipe.under_way pipe.asked row h)

pub out_rows : (size capacity : ℕ) (events : List OutEvent)
    → IsRow (out.after_events size capacity out.opened events).phase (out.after_events size capacity out.opened events).tries (out_row size capacity out.opened 0 events)
out_rows size capacity events = rows size capacity events out.opened 0 tt

in_row_after : (size : ℕ) (event : InEvent) (phase : InPhase) (toggle : Toggle) (tries : ℕ) (held : List ℕ) (row : ℕ) → IsInRow phase tries row
    → (let new : InPipe = inward.after_event size (in_pipe phase toggle tries held) event in IsInRow new.phase new.tries (in_row_by size phase row event))
in_row_after size (inward.Turn answers.Ack) inward.Closed toggle tries held row h = h
in_row_after size (inward.Turn answers.Ack) inward.Rest toggle tries held row h = h
in_row_after size (inward.Turn answers.Ack) inward.Running toggle tries held row h = one_more tries row h.0 h.1
in_row_after size (inward.Turn answers.Ack) (inward.Landed (inward.Came p)) toggle tries held row h = h
in_row_after size (inward.Turn answers.Ack) (inward.Landed inward.Stalled) toggle tries held row h = h
in_row_after size (inward.Turn answers.Ack) (inward.Landed inward.Unheard) toggle tries held row h = h
in_row_after size (inward.Turn answers.Ack) (inward.Posted note) toggle tries held row h = h
in_row_after size (inward.Turn answers.Ack) inward.Halted toggle tries held row h = h
in_row_after size (inward.Turn answers.Ack) inward.Dead toggle tries held row h = h
in_row_after size (inward.Turn answers.Ack) inward.Clearing toggle tries held row h = h
in_row_after size (inward.Turn answers.Nak) inward.Closed toggle tries held row h = h
in_row_after size (inward.Turn answers.Nak) inward.Rest toggle tries held row h = h
in_row_after size (inward.Turn answers.Nak) inward.Running toggle tries held row h = (refl, none)
in_row_after size (inward.Turn answers.Nak) (inward.Landed (inward.Came p)) toggle tries held row h = h
in_row_after size (inward.Turn answers.Nak) (inward.Landed inward.Stalled) toggle tries held row h = h
in_row_after size (inward.Turn answers.Nak) (inward.Landed inward.Unheard) toggle tries held row h = h
in_row_after size (inward.Turn answers.Nak) (inward.Posted note) toggle tries held row h = h
in_row_after size (inward.Turn answers.Nak) inward.Halted toggle tries held row h = h
in_row_after size (inward.Turn answers.Nak) inward.Dead toggle tries held row h = h
in_row_after size (inward.Turn answers.Nak) inward.Clearing toggle tries held row h = h
in_row_after size (inward.Turn answers.Stall) inward.Closed toggle tries held row h = h
in_row_after size (inward.Turn answers.Stall) inward.Rest toggle tries held row h = h
in_row_after size (inward.Turn answers.Stall) inward.Running toggle tries held row h = tt
in_row_after size (inward.Turn answers.Stall) (inward.Landed (inward.Came p)) toggle tries held row h = h
in_row_after size (inward.Turn answers.Stall) (inward.Landed inward.Stalled) toggle tries held row h = h
in_row_after size (inward.Turn answers.Stall) (inward.Landed inward.Unheard) toggle tries held row h = h
in_row_after size (inward.Turn answers.Stall) (inward.Posted note) toggle tries held row h = h
in_row_after size (inward.Turn answers.Stall) inward.Halted toggle tries held row h = h
in_row_after size (inward.Turn answers.Stall) inward.Dead toggle tries held row h = h
in_row_after size (inward.Turn answers.Stall) inward.Clearing toggle tries held row h = h
in_row_after size (inward.Turn answers.NoAnswer) inward.Closed toggle tries held row h = h
in_row_after size (inward.Turn answers.NoAnswer) inward.Rest toggle tries held row h = h
in_row_after size (inward.Turn answers.NoAnswer) inward.Running toggle tries held row h = one_more tries row h.0 h.1
in_row_after size (inward.Turn answers.NoAnswer) (inward.Landed (inward.Came p)) toggle tries held row h = h
in_row_after size (inward.Turn answers.NoAnswer) (inward.Landed inward.Stalled) toggle tries held row h = h
in_row_after size (inward.Turn answers.NoAnswer) (inward.Landed inward.Unheard) toggle tries held row h = h
in_row_after size (inward.Turn answers.NoAnswer) (inward.Posted note) toggle tries held row h = h
in_row_after size (inward.Turn answers.NoAnswer) inward.Halted toggle tries held row h = h
in_row_after size (inward.Turn answers.NoAnswer) inward.Dead toggle tries held row h = h
in_row_after size (inward.Turn answers.NoAnswer) inward.Clearing toggle tries held row h = h
in_row_after size (inward.Turn answers.Done) inward.Closed toggle tries held row h = h
in_row_after size (inward.Turn answers.Done) inward.Rest toggle tries held row h = h
in_row_after size (inward.Turn answers.Done) inward.Running toggle tries held row h = one_more tries row h.0 h.1
in_row_after size (inward.Turn answers.Done) (inward.Landed (inward.Came p)) toggle tries held row h = h
in_row_after size (inward.Turn answers.Done) (inward.Landed inward.Stalled) toggle tries held row h = h
in_row_after size (inward.Turn answers.Done) (inward.Landed inward.Unheard) toggle tries held row h = h
in_row_after size (inward.Turn answers.Done) (inward.Posted note) toggle tries held row h = h
in_row_after size (inward.Turn answers.Done) inward.Halted toggle tries held row h = h
in_row_after size (inward.Turn answers.Done) inward.Dead toggle tries held row h = h
in_row_after size (inward.Turn answers.Done) inward.Clearing toggle tries held row h = h
in_row_after size (inward.Turn (answers.Data other packet)) inward.Closed toggle tries held row h = h
in_row_after size (inward.Turn (answers.Data other packet)) inward.Rest toggle tries held row h = h
in_row_after size (inward.Turn (answers.Data other packet)) inward.Running toggle tries held row h = elim (cases_Bool (nat_lt size (length packet))) [
  | inl long ↦ rw long (one_more tries row h.0 h.1)
  | inr fits ↦ rw fits (elim (cases_Bool (same_toggle other toggle)) [
    | inl same ↦ rw same tt
    | inr differs ↦ rw differs (refl, none)
  ])
]
in_row_after size (inward.Turn (answers.Data other packet)) (inward.Landed (inward.Came p)) toggle tries held row h = h
in_row_after size (inward.Turn (answers.Data other packet)) (inward.Landed inward.Stalled) toggle tries held row h = h
in_row_after size (inward.Turn (answers.Data other packet)) (inward.Landed inward.Unheard) toggle tries held row h = h
in_row_after size (inward.Turn (answers.Data other packet)) (inward.Posted note) toggle tries held row h = h
in_row_after size (inward.Turn (answers.Data other packet)) inward.Halted toggle tries held row h = h
in_row_after size (inward.Turn (answers.Data other packet)) inward.Dead toggle tries held row h = h
in_row_after size (inward.Turn (answers.Data other packet)) inward.Clearing toggle tries held row h = h
in_row_after size (inward.Does inward.Irq) inward.Closed toggle tries held row h = h
in_row_after size (inward.Does inward.Irq) inward.Rest toggle tries held row h = h
in_row_after size (inward.Does inward.Irq) inward.Running toggle tries held row h = h
in_row_after size (inward.Does inward.Irq) (inward.Landed (inward.Came p)) toggle tries held row h = tt
in_row_after size (inward.Does inward.Irq) (inward.Landed inward.Stalled) toggle tries held row h = tt
in_row_after size (inward.Does inward.Irq) (inward.Landed inward.Unheard) toggle tries held row h = elim (cases_Bool (nat_le most_tries (suc tries))) [
  | inl all ↦ rw all (over tries row (leb-true most_tries (suc tries) all) h.0 h.1)
  | inr fewer ↦ rw fewer (more tries row (leb-false most_tries (suc tries) fewer) h.0)
]
in_row_after size (inward.Does inward.Irq) (inward.Posted note) toggle tries held row h = h
in_row_after size (inward.Does inward.Irq) inward.Halted toggle tries held row h = h
in_row_after size (inward.Does inward.Irq) inward.Dead toggle tries held row h = h
in_row_after size (inward.Does inward.Irq) inward.Clearing toggle tries held row h = h
in_row_after size (inward.Does inward.Task) inward.Closed toggle tries held row h = h
in_row_after size (inward.Does inward.Task) inward.Rest toggle tries held row h = h
in_row_after size (inward.Does inward.Task) inward.Running toggle tries held row h = h
in_row_after size (inward.Does inward.Task) (inward.Landed (inward.Came p)) toggle tries held row h = h
in_row_after size (inward.Does inward.Task) (inward.Landed inward.Stalled) toggle tries held row h = h
in_row_after size (inward.Does inward.Task) (inward.Landed inward.Unheard) toggle tries held row h = h
in_row_after size (inward.Does inward.Task) (inward.Posted Went) toggle tries held row h = tt
in_row_after size (inward.Does inward.Task) (inward.Posted Refused) toggle tries held row h = tt
in_row_after size (inward.Does inward.Task) (inward.Posted Lost) toggle tries held row h = tt
in_row_after size (inward.Does inward.Task) inward.Halted toggle tries held row h = h
in_row_after size (inward.Does inward.Task) inward.Dead toggle tries held row h = h
in_row_after size (inward.Does inward.Task) inward.Clearing toggle tries held row h = h
in_row_after size (inward.Does inward.Starts) inward.Closed toggle tries held row h = h
in_row_after size (inward.Does inward.Starts) inward.Rest toggle tries held row h = (refl, none)
in_row_after size (inward.Does inward.Starts) inward.Running toggle tries held row h = h
in_row_after size (inward.Does inward.Starts) (inward.Landed (inward.Came p)) toggle tries held row h = h
in_row_after size (inward.Does inward.Starts) (inward.Landed inward.Stalled) toggle tries held row h = h
in_row_after size (inward.Does inward.Starts) (inward.Landed inward.Unheard) toggle tries held row h = h
in_row_after size (inward.Does inward.Starts) (inward.Posted note) toggle tries held row h = h
in_row_after size (inward.Does inward.Starts) inward.Halted toggle tries held row h = h
in_row_after size (inward.Does inward.Starts) inward.Dead toggle tries held row h = h
in_row_after size (inward.Does inward.Starts) inward.Clearing toggle tries held row h = h
in_row_after size (inward.Does (inward.Reads n)) inward.Closed toggle tries held row h = h
in_row_after size (inward.Does (inward.Reads n)) inward.Rest toggle tries held row h = h
in_row_after size (inward.Does (inward.Reads n)) inward.Running toggle tries held row h = h
in_row_after size (inward.Does (inward.Reads n)) (inward.Landed (inward.Came p)) toggle tries held row h = h
in_row_after size (inward.Does (inward.Reads n)) (inward.Landed inward.Stalled) toggle tries held row h = h
in_row_after size (inward.Does (inward.Reads n)) (inward.Landed inward.Unheard) toggle tries held row h = h
in_row_after size (inward.Does (inward.Reads n)) (inward.Posted note) toggle tries held row h = h
in_row_after size (inward.Does (inward.Reads n)) inward.Halted toggle tries held row h = h
in_row_after size (inward.Does (inward.Reads n)) inward.Dead toggle tries held row h = h
in_row_after size (inward.Does (inward.Reads n)) inward.Clearing toggle tries held row h = h
in_row_after size inward.Clears inward.Closed toggle tries held row h = h
in_row_after size inward.Clears inward.Rest toggle tries held row h = tt
in_row_after size inward.Clears inward.Running toggle tries held row h = tt
in_row_after size inward.Clears (inward.Landed (inward.Came p)) toggle tries held row h = tt
in_row_after size inward.Clears (inward.Landed inward.Stalled) toggle tries held row h = tt
in_row_after size inward.Clears (inward.Landed inward.Unheard) toggle tries held row h = tt
in_row_after size inward.Clears (inward.Posted note) toggle tries held row h = tt
in_row_after size inward.Clears inward.Halted toggle tries held row h = tt
in_row_after size inward.Clears inward.Dead toggle tries held row h = tt
in_row_after size inward.Clears inward.Clearing toggle tries held row h = h
in_row_after size (inward.ClearEnds passed) inward.Closed toggle tries held row h = h
in_row_after size (inward.ClearEnds passed) inward.Rest toggle tries held row h = h
in_row_after size (inward.ClearEnds passed) inward.Running toggle tries held row h = h
in_row_after size (inward.ClearEnds passed) (inward.Landed (inward.Came p)) toggle tries held row h = h
in_row_after size (inward.ClearEnds passed) (inward.Landed inward.Stalled) toggle tries held row h = h
in_row_after size (inward.ClearEnds passed) (inward.Landed inward.Unheard) toggle tries held row h = h
in_row_after size (inward.ClearEnds passed) (inward.Posted note) toggle tries held row h = h
in_row_after size (inward.ClearEnds passed) inward.Halted toggle tries held row h = h
in_row_after size (inward.ClearEnds passed) inward.Dead toggle tries held row h = h
in_row_after size (inward.ClearEnds true) inward.Clearing toggle tries held row h = tt
in_row_after size (inward.ClearEnds false) inward.Clearing toggle tries held row h = tt

in_rows_from : (size : ℕ) (events : List InEvent) (pipe : InPipe) (row : ℕ) → IsInRow pipe.phase pipe.tries row
    → IsInRow (inward.after_events size pipe events).phase (inward.after_events size pipe events).tries (in_row size pipe row events)
in_rows_from size [] pipe row h = h
in_rows_from size (event ∷ events) pipe row h =
    in_rows_from size events (inward.after_event size pipe event) (in_row_by size pipe.phase row event)
    (in_row_after size event pipe.phase pipe.toggle pipe.tries pipe.held row h)

pub in_rows : (size : ℕ) (events : List InEvent)
    → IsInRow (inward.after_events size inward.opened events).phase (inward.after_events size inward.opened events).tries (in_row size inward.opened 0 events)
in_rows size events = in_rows_from size events inward.opened 0 tt
