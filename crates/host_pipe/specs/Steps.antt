-- Each step of a pipe by its phase: USB 2.0, 8.4.5, 8.6 and 9.4.5.
use Rattle.std.specs.Prelude.{◌≡◌, ◌≤◌, ◌<◌, ℕ, ◌++◌, List, [], ◌∷◌, Bool, true, false, length, take, Option, Some, None}
use Rattle.usb_packet.specs.declared.bus.Toggle.{Toggle}
use Rattle.usb_packet.specs.declared.bus.Toggle.TheVariants.{D0}
use Rattle.usb_packet.specs.declared.bus.BusAnswer.{BusAnswer}
use Rattle.usb_packet.specs.declared.bus.BusAnswer.TheVariants as answers
use Rattle.usb_packet.specs.Toggles.{flipped}
use Rattle.host_pipe.specs.Tries.{Note, Went, Refused, Lost}
use Rattle.host_pipe.specs.OutPipe as out
use Rattle.host_pipe.specs.OutPipe.{OutPipe, OutPhase, out_sent}
use Rattle.host_pipe.specs.InPipe as inward
use Rattle.host_pipe.specs.InPipe.{InPipe, InPhase, in_sent}
use Rattle.host_pipe.specs.Laws.{silence, in_silence}

-- OUT.

abbrev pub out_pipe : OutPhase → Toggle → ℕ → List ℕ → Option (List ℕ) → Bool → OutPipe
out_pipe phase toggle tries pending under_way asked =
    record { phase = phase; toggle = toggle; tries = tries; pending = pending; under_way = under_way; asked = asked }

-- a step does this to a pipe in each phase but one
pub record OutUnmoved (step : OutPipe → OutPipe) (toggle : Toggle) (tries : ℕ) (pending : List ℕ) (under_way : Option (List ℕ)) (asked : Bool) (note : Note) : Type 0 where
  pub closed : step (out_pipe out.Closed toggle tries pending under_way asked) ≡ out_pipe out.Closed toggle tries pending under_way asked
  pub posted : step (out_pipe (out.Posted note) toggle tries pending under_way asked) ≡ out_pipe (out.Posted note) toggle tries pending under_way asked
  pub halted : step (out_pipe out.Halted toggle tries pending under_way asked) ≡ out_pipe out.Halted toggle tries pending under_way asked
  pub dead : step (out_pipe out.Dead toggle tries pending under_way asked) ≡ out_pipe out.Dead toggle tries pending under_way asked
  pub clearing : step (out_pipe out.Clearing toggle tries pending under_way asked) ≡ out_pipe out.Clearing toggle tries pending under_way asked

-- a start sends the first pending bytes, as many as the endpoint's size allows; where none is pending, the empty packet that was
-- asked for. It begins a row of tries, and no other phase starts
pub record OutStarts (size : ℕ) (toggle : Toggle) (tries : ℕ) (byte : ℕ) (bytes : List ℕ) (under_way : Option (List ℕ)) (asked : Bool) (note : Note) (result : out.OutResult) : Type 0 where
  pub first : out.started size (out_pipe out.Rest toggle tries (byte ∷ bytes) None asked)
      ≡ out_pipe out.Running toggle 0 (byte ∷ bytes) (Some (take size (byte ∷ bytes))) asked
  pub empty : out.started size (out_pipe out.Rest toggle tries [] None true) ≡ out_pipe out.Running toggle 0 [] (Some []) true
  pub nothing : out.started size (out_pipe out.Rest toggle tries [] None false) ≡ out_pipe out.Rest toggle tries [] None false
  pub others : OutUnmoved (out.started size) toggle tries bytes under_way asked note
  pub running : out.started size (out_pipe out.Running toggle tries bytes under_way asked) ≡ out_pipe out.Running toggle tries bytes under_way asked
  pub landed : out.started size (out_pipe (out.Landed result) toggle tries bytes under_way asked) ≡ out_pipe (out.Landed result) toggle tries bytes under_way asked

-- ACK, NAK and STALL fit a packet that was sent; all else counts as no answer. NAK leaves the packet, and ends the row of tries
pub record OutMeets (toggle other : Toggle) (tries : ℕ) (pending bytes : List ℕ) (under_way : Option (List ℕ)) (asked : Bool) (note : Note) (result : out.OutResult) (reply : BusAnswer) : Type 0 where
  pub sent : out_sent (out_pipe out.Running toggle tries pending under_way asked) ≡ under_way
  pub ack : out.after_xact (out_pipe out.Running toggle tries pending under_way asked) answers.Ack ≡ out_pipe (out.Landed out.Acknowledged) toggle tries pending under_way asked
  pub nak : out.after_xact (out_pipe out.Running toggle tries pending under_way asked) answers.Nak ≡ out_pipe out.Running toggle 0 pending under_way asked
  pub stall : out.after_xact (out_pipe out.Running toggle tries pending under_way asked) answers.Stall ≡ out_pipe (out.Landed out.Stalled) toggle tries pending under_way asked
  pub none : out.after_xact (out_pipe out.Running toggle tries pending under_way asked) answers.NoAnswer ≡ out_pipe (out.Landed out.Unheard) toggle tries pending under_way asked
  pub done : out.after_xact (out_pipe out.Running toggle tries pending under_way asked) answers.Done ≡ out_pipe (out.Landed out.Unheard) toggle tries pending under_way asked
  pub content : out.after_xact (out_pipe out.Running toggle tries pending under_way asked) (answers.Data other bytes) ≡ out_pipe (out.Landed out.Unheard) toggle tries pending under_way asked
  -- in other phases nothing is sent, and no answer comes
  pub others : OutUnmoved (λ pipe. out.after_xact pipe reply) toggle tries pending under_way asked note
  pub rest : out.after_xact (out_pipe out.Rest toggle tries pending under_way asked) reply ≡ out_pipe out.Rest toggle tries pending under_way asked
  pub landed : out.after_xact (out_pipe (out.Landed result) toggle tries pending under_way asked) reply ≡ out_pipe (out.Landed result) toggle tries pending under_way asked
  pub idle_rest : out_sent (out_pipe out.Rest toggle tries pending under_way asked) ≡ None
  pub idle_landed : out_sent (out_pipe (out.Landed result) toggle tries pending under_way asked) ≡ None
  pub idle_posted : out_sent (out_pipe (out.Posted note) toggle tries pending under_way asked) ≡ None
  pub idle_halted : out_sent (out_pipe out.Halted toggle tries pending under_way asked) ≡ None
  pub idle_dead : out_sent (out_pipe out.Dead toggle tries pending under_way asked) ≡ None
  pub idle_clearing : out_sent (out_pipe out.Clearing toggle tries pending under_way asked) ≡ None
  pub idle_closed : out_sent (out_pipe out.Closed toggle tries pending under_way asked) ≡ None

-- a handler run takes an acknowledged packet off and flips the toggle; tells STALL; and sends an unanswered packet again
pub record OutServes (toggle : Toggle) (tries : ℕ) (pending packet : List ℕ) (byte : ℕ) (under_way : Option (List ℕ)) (asked : Bool) (note : Note) : Type 0 where
  pub ack_empty : out.after_irq (out_pipe (out.Landed out.Acknowledged) toggle tries pending (Some []) asked) ≡ out_pipe (out.Posted Went) (flipped toggle) tries pending None false
  pub stall : out.after_irq (out_pipe (out.Landed out.Stalled) toggle tries pending under_way asked) ≡ out_pipe (out.Posted Refused) toggle tries pending under_way asked
  pub once : out.after_irq (out_pipe (out.Landed out.Unheard) toggle 0 pending under_way asked) ≡ out_pipe out.Running toggle 1 pending under_way asked
  pub twice : out.after_irq (out_pipe (out.Landed out.Unheard) toggle 1 pending under_way asked) ≡ out_pipe out.Running toggle 2 pending under_way asked
  pub thrice : out.after_irq (out_pipe (out.Landed out.Unheard) toggle 2 pending under_way asked) ≡ out_pipe (out.Posted Lost) toggle 3 pending under_way asked
  pub others : OutUnmoved out.after_irq toggle tries pending under_way asked note
  pub rest : out.after_irq (out_pipe out.Rest toggle tries pending under_way asked) ≡ out_pipe out.Rest toggle tries pending under_way asked
  pub running : out.after_irq (out_pipe out.Running toggle tries pending under_way asked) ≡ out_pipe out.Running toggle tries pending under_way asked

-- and a packet of one byte or more with its bytes
abbrev pub OutAcked : Type 0
OutAcked =
    (toggle : Toggle) (tries byte : ℕ) (bytes pending : List ℕ) (asked : Bool)
    → out.after_irq (out_pipe (out.Landed out.Acknowledged) toggle tries (byte ∷ bytes ++ pending) (Some (byte ∷ bytes)) asked)
    ≡ out_pipe (out.Posted Went) (flipped toggle) tries pending None asked

-- a task takes the note
pub record OutNotes (toggle : Toggle) (tries : ℕ) (pending : List ℕ) (under_way : Option (List ℕ)) (asked : Bool) (result : out.OutResult) : Type 0 where
  pub went : out.after_task (out_pipe (out.Posted Went) toggle tries pending under_way asked) ≡ out_pipe out.Rest toggle tries pending under_way asked
  pub refused : out.after_task (out_pipe (out.Posted Refused) toggle tries pending under_way asked) ≡ out_pipe out.Halted toggle tries pending under_way asked
  pub lost : out.after_task (out_pipe (out.Posted Lost) toggle tries pending under_way asked) ≡ out_pipe out.Dead toggle tries pending under_way asked
  pub closed : out.after_task (out_pipe out.Closed toggle tries pending under_way asked) ≡ out_pipe out.Closed toggle tries pending under_way asked
  pub rest : out.after_task (out_pipe out.Rest toggle tries pending under_way asked) ≡ out_pipe out.Rest toggle tries pending under_way asked
  pub running : out.after_task (out_pipe out.Running toggle tries pending under_way asked) ≡ out_pipe out.Running toggle tries pending under_way asked
  pub landed : out.after_task (out_pipe (out.Landed result) toggle tries pending under_way asked) ≡ out_pipe (out.Landed result) toggle tries pending under_way asked
  pub halted : out.after_task (out_pipe out.Halted toggle tries pending under_way asked) ≡ out_pipe out.Halted toggle tries pending under_way asked
  pub dead : out.after_task (out_pipe out.Dead toggle tries pending under_way asked) ≡ out_pipe out.Dead toggle tries pending under_way asked
  pub clearing : out.after_task (out_pipe out.Clearing toggle tries pending under_way asked) ≡ out_pipe out.Clearing toggle tries pending under_way asked

-- Three tries in a row without an answer make a pipe dead; two don't, and an answer between them begins the row anew.
pub record OutTries (size capacity : ℕ) (toggle : Toggle) (pending packet : List ℕ) (asked : Bool) : Type 0 where
  pub two : out.after_events size capacity (out_pipe out.Running toggle 0 pending (Some packet) asked) (silence ++ silence) ≡ out_pipe out.Running toggle 2 pending (Some packet) asked
  pub three : out.after_events size capacity (out_pipe out.Running toggle 0 pending (Some packet) asked) (silence ++ silence ++ silence) ≡ out_pipe (out.Posted Lost) toggle 3 pending (Some packet) asked
  pub anew : out.after_events size capacity (out_pipe out.Running toggle 0 pending (Some packet) asked) (silence ++ silence ++ out.Turn answers.Nak ∷ silence ++ silence)
      ≡ out_pipe out.Running toggle 2 pending (Some packet) asked

-- A clear. The packet under way is that of a pipe that runs, of one whose answer no handler run or task has looked at, and of one
-- that is halted by STALL or dead by tries.
abbrev pub OutWithdraws : Type 0
OutWithdraws =
    (phase : OutPhase) (toggle : Toggle) (tries byte : ℕ) (bytes pending : List ℕ) (asked : Bool) → out.is_open phase ≡ true
    → out.cleared (out_pipe phase toggle tries (byte ∷ bytes ++ pending) (Some (byte ∷ bytes)) asked) ≡ out_pipe out.Clearing toggle tries pending None asked

-- an empty packet that was under way is asked for no more; where none is under way all that is pending stays
abbrev pub OutWithdrawsEmpty : Type 0
OutWithdrawsEmpty =
    (phase : OutPhase) (toggle : Toggle) (tries : ℕ) (pending : List ℕ) (asked : Bool) → out.is_open phase ≡ true
    → (out.cleared (out_pipe phase toggle tries pending (Some []) asked) ≡ out_pipe out.Clearing toggle tries pending None false)
    × (out.cleared (out_pipe phase toggle tries pending None asked) ≡ out_pipe out.Clearing toggle tries pending None asked)

pub record OutClearEnds (toggle : Toggle) (tries : ℕ) (pending : List ℕ) (under_way : Option (List ℕ)) (asked passed : Bool) (note : Note) (result : out.OutResult) : Type 0 where
  pub passes : out.clear_ended (out_pipe out.Clearing toggle tries pending under_way asked) true ≡ out_pipe out.Rest D0 tries pending under_way asked
  pub fails : out.clear_ended (out_pipe out.Clearing toggle tries pending under_way asked) false ≡ out_pipe out.Dead toggle tries pending under_way asked
  pub closed : out.clear_ended (out_pipe out.Closed toggle tries pending under_way asked) passed ≡ out_pipe out.Closed toggle tries pending under_way asked
  pub never : out.cleared (out_pipe out.Closed toggle tries pending under_way asked) ≡ out_pipe out.Closed toggle tries pending under_way asked
  pub rest : out.clear_ended (out_pipe out.Rest toggle tries pending under_way asked) passed ≡ out_pipe out.Rest toggle tries pending under_way asked
  pub running : out.clear_ended (out_pipe out.Running toggle tries pending under_way asked) passed ≡ out_pipe out.Running toggle tries pending under_way asked
  pub landed : out.clear_ended (out_pipe (out.Landed result) toggle tries pending under_way asked) passed ≡ out_pipe (out.Landed result) toggle tries pending under_way asked
  pub posted : out.clear_ended (out_pipe (out.Posted note) toggle tries pending under_way asked) passed ≡ out_pipe (out.Posted note) toggle tries pending under_way asked
  pub halted : out.clear_ended (out_pipe out.Halted toggle tries pending under_way asked) passed ≡ out_pipe out.Halted toggle tries pending under_way asked
  pub dead : out.clear_ended (out_pipe out.Dead toggle tries pending under_way asked) passed ≡ out_pipe out.Dead toggle tries pending under_way asked

-- IN.

abbrev pub in_pipe : InPhase → Toggle → ℕ → List ℕ → InPipe
in_pipe phase toggle tries held = record { phase = phase; toggle = toggle; tries = tries; held = held }

pub record InUnmoved (step : InPipe → InPipe) (toggle : Toggle) (tries : ℕ) (held : List ℕ) (note : Note) : Type 0 where
  pub closed : step (in_pipe inward.Closed toggle tries held) ≡ in_pipe inward.Closed toggle tries held
  pub posted : step (in_pipe (inward.Posted note) toggle tries held) ≡ in_pipe (inward.Posted note) toggle tries held
  pub halted : step (in_pipe inward.Halted toggle tries held) ≡ in_pipe inward.Halted toggle tries held
  pub dead : step (in_pipe inward.Dead toggle tries held) ≡ in_pipe inward.Dead toggle tries held
  pub clearing : step (in_pipe inward.Clearing toggle tries held) ≡ in_pipe inward.Clearing toggle tries held

pub record InStarts (toggle : Toggle) (tries : ℕ) (held : List ℕ) (note : Note) (result : inward.InResult) : Type 0 where
  pub starts : inward.started (in_pipe inward.Rest toggle tries held) ≡ in_pipe inward.Running toggle 0 held
  pub others : InUnmoved inward.started toggle tries held note
  pub running : inward.started (in_pipe inward.Running toggle tries held) ≡ in_pipe inward.Running toggle tries held
  pub landed : inward.started (in_pipe (inward.Landed result) toggle tries held) ≡ in_pipe (inward.Landed result) toggle tries held

-- NAK, STALL and data fit an IN token; all else counts as no answer
pub record InMeets (size : ℕ) (toggle : Toggle) (tries : ℕ) (held : List ℕ) (note : Note) (result : inward.InResult) (reply : BusAnswer) : Type 0 where
  pub sent : in_sent (in_pipe inward.Running toggle tries held) ≡ true
  pub nak : inward.after_xact size (in_pipe inward.Running toggle tries held) answers.Nak ≡ in_pipe inward.Running toggle 0 held
  pub stall : inward.after_xact size (in_pipe inward.Running toggle tries held) answers.Stall ≡ in_pipe (inward.Landed inward.Stalled) toggle tries held
  pub none : inward.after_xact size (in_pipe inward.Running toggle tries held) answers.NoAnswer ≡ in_pipe (inward.Landed inward.Unheard) toggle tries held
  pub ack : inward.after_xact size (in_pipe inward.Running toggle tries held) answers.Ack ≡ in_pipe (inward.Landed inward.Unheard) toggle tries held
  pub done : inward.after_xact size (in_pipe inward.Running toggle tries held) answers.Done ≡ in_pipe (inward.Landed inward.Unheard) toggle tries held
  pub others : InUnmoved (λ pipe. inward.after_xact size pipe reply) toggle tries held note
  pub rest : inward.after_xact size (in_pipe inward.Rest toggle tries held) reply ≡ in_pipe inward.Rest toggle tries held
  pub landed : inward.after_xact size (in_pipe (inward.Landed result) toggle tries held) reply ≡ in_pipe (inward.Landed result) toggle tries held
  pub idle_rest : in_sent (in_pipe inward.Rest toggle tries held) ≡ false
  pub idle_landed : in_sent (in_pipe (inward.Landed result) toggle tries held) ≡ false
  pub idle_posted : in_sent (in_pipe (inward.Posted note) toggle tries held) ≡ false
  pub idle_halted : in_sent (in_pipe inward.Halted toggle tries held) ≡ false
  pub idle_dead : in_sent (in_pipe inward.Dead toggle tries held) ≡ false
  pub idle_clearing : in_sent (in_pipe inward.Clearing toggle tries held) ≡ false
  pub idle_closed : in_sent (in_pipe inward.Closed toggle tries held) ≡ false

-- data with the expected toggle lands; with the other one it is dropped, is acknowledged, and ends the row of tries; above the
-- endpoint's size it counts as no answer, and isn't acknowledged
pub record InData (size : ℕ) (toggle : Toggle) (tries : ℕ) (held packet : List ℕ) : Type 0 where
  pub lands : length packet ≤ size → inward.after_xact size (in_pipe inward.Running toggle tries held) (answers.Data toggle packet) ≡ in_pipe (inward.Landed (inward.Came packet)) toggle tries held
  pub again : length packet ≤ size → inward.after_xact size (in_pipe inward.Running toggle tries held) (answers.Data (flipped toggle) packet) ≡ in_pipe inward.Running toggle 0 held
  pub acknowledged : length packet ≤ size → inward.acknowledges size (answers.Data toggle packet) ≡ true
  pub too_long : size < length packet → inward.after_xact size (in_pipe inward.Running toggle tries held) (answers.Data toggle packet) ≡ in_pipe (inward.Landed inward.Unheard) toggle tries held
  pub too_long_again : size < length packet → inward.after_xact size (in_pipe inward.Running toggle tries held) (answers.Data (flipped toggle) packet) ≡ in_pipe (inward.Landed inward.Unheard) toggle tries held
  pub not_acknowledged : size < length packet → inward.acknowledges size (answers.Data toggle packet) ≡ false

pub record InServes (toggle : Toggle) (tries : ℕ) (held packet : List ℕ) (note : Note) : Type 0 where
  pub came : inward.after_irq (in_pipe (inward.Landed (inward.Came packet)) toggle tries held) ≡ in_pipe (inward.Posted Went) (flipped toggle) tries (held ++ packet)
  pub stall : inward.after_irq (in_pipe (inward.Landed inward.Stalled) toggle tries held) ≡ in_pipe (inward.Posted Refused) toggle tries held
  pub once : inward.after_irq (in_pipe (inward.Landed inward.Unheard) toggle 0 held) ≡ in_pipe inward.Running toggle 1 held
  pub twice : inward.after_irq (in_pipe (inward.Landed inward.Unheard) toggle 1 held) ≡ in_pipe inward.Running toggle 2 held
  pub thrice : inward.after_irq (in_pipe (inward.Landed inward.Unheard) toggle 2 held) ≡ in_pipe (inward.Posted Lost) toggle 3 held
  pub others : InUnmoved inward.after_irq toggle tries held note
  pub rest : inward.after_irq (in_pipe inward.Rest toggle tries held) ≡ in_pipe inward.Rest toggle tries held
  pub running : inward.after_irq (in_pipe inward.Running toggle tries held) ≡ in_pipe inward.Running toggle tries held

pub record InNotes (toggle : Toggle) (tries : ℕ) (held : List ℕ) (result : inward.InResult) : Type 0 where
  pub went : inward.after_task (in_pipe (inward.Posted Went) toggle tries held) ≡ in_pipe inward.Rest toggle tries held
  pub refused : inward.after_task (in_pipe (inward.Posted Refused) toggle tries held) ≡ in_pipe inward.Halted toggle tries held
  pub lost : inward.after_task (in_pipe (inward.Posted Lost) toggle tries held) ≡ in_pipe inward.Dead toggle tries held
  pub closed : inward.after_task (in_pipe inward.Closed toggle tries held) ≡ in_pipe inward.Closed toggle tries held
  pub rest : inward.after_task (in_pipe inward.Rest toggle tries held) ≡ in_pipe inward.Rest toggle tries held
  pub running : inward.after_task (in_pipe inward.Running toggle tries held) ≡ in_pipe inward.Running toggle tries held
  pub landed : inward.after_task (in_pipe (inward.Landed result) toggle tries held) ≡ in_pipe (inward.Landed result) toggle tries held
  pub halted : inward.after_task (in_pipe inward.Halted toggle tries held) ≡ in_pipe inward.Halted toggle tries held
  pub dead : inward.after_task (in_pipe inward.Dead toggle tries held) ≡ in_pipe inward.Dead toggle tries held
  pub clearing : inward.after_task (in_pipe inward.Clearing toggle tries held) ≡ in_pipe inward.Clearing toggle tries held

pub record InTries (size : ℕ) (toggle : Toggle) (held : List ℕ) : Type 0 where
  pub two : inward.after_events size (in_pipe inward.Running toggle 0 held) (in_silence ++ in_silence) ≡ in_pipe inward.Running toggle 2 held
  pub three : inward.after_events size (in_pipe inward.Running toggle 0 held) (in_silence ++ in_silence ++ in_silence) ≡ in_pipe (inward.Posted Lost) toggle 3 held
  pub anew : inward.after_events size (in_pipe inward.Running toggle 0 held) (in_silence ++ in_silence ++ inward.Turn answers.Nak ∷ in_silence ++ in_silence) ≡ in_pipe inward.Running toggle 2 held

pub record InClears (toggle : Toggle) (tries : ℕ) (held : List ℕ) (passed : Bool) (note : Note) (result : inward.InResult) : Type 0 where
  pub rest : inward.cleared (in_pipe inward.Rest toggle tries held) ≡ in_pipe inward.Clearing toggle tries held
  pub running : inward.cleared (in_pipe inward.Running toggle tries held) ≡ in_pipe inward.Clearing toggle tries held
  pub landed : inward.cleared (in_pipe (inward.Landed result) toggle tries held) ≡ in_pipe inward.Clearing toggle tries held
  pub posted : inward.cleared (in_pipe (inward.Posted note) toggle tries held) ≡ in_pipe inward.Clearing toggle tries held
  pub halted : inward.cleared (in_pipe inward.Halted toggle tries held) ≡ in_pipe inward.Clearing toggle tries held
  pub dead : inward.cleared (in_pipe inward.Dead toggle tries held) ≡ in_pipe inward.Clearing toggle tries held
  pub never : inward.cleared (in_pipe inward.Closed toggle tries held) ≡ in_pipe inward.Closed toggle tries held
  pub passes : inward.clear_ended (in_pipe inward.Clearing toggle tries held) true ≡ in_pipe inward.Rest D0 tries held
  pub fails : inward.clear_ended (in_pipe inward.Clearing toggle tries held) false ≡ in_pipe inward.Dead toggle tries held
  pub not_rest : inward.clear_ended (in_pipe inward.Rest toggle tries held) passed ≡ in_pipe inward.Rest toggle tries held
  pub not_running : inward.clear_ended (in_pipe inward.Running toggle tries held) passed ≡ in_pipe inward.Running toggle tries held
  pub not_landed : inward.clear_ended (in_pipe (inward.Landed result) toggle tries held) passed ≡ in_pipe (inward.Landed result) toggle tries held
  pub not_posted : inward.clear_ended (in_pipe (inward.Posted note) toggle tries held) passed ≡ in_pipe (inward.Posted note) toggle tries held
  pub not_halted : inward.clear_ended (in_pipe inward.Halted toggle tries held) passed ≡ in_pipe inward.Halted toggle tries held
  pub not_dead : inward.clear_ended (in_pipe inward.Dead toggle tries held) passed ≡ in_pipe inward.Dead toggle tries held
  pub not_closed : inward.clear_ended (in_pipe inward.Closed toggle tries held) passed ≡ in_pipe inward.Closed toggle tries held
