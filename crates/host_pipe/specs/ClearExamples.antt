-- Runs of a host's pipes with clears in them (9.4.5), worked by hand. An OUT pipe has packets of two bytes, an IN pipe of eight.
use Rattle.std.specs.Prelude.{◌≡◌, ℕ, List, [], ◌∷◌, ◌++◌, true, false, Some, None}
use Rattle.usb_packet.specs.declared.bus.Toggle.TheVariants.{D0, D1}
use Rattle.usb_packet.specs.declared.bus.BusAnswer.TheVariants as answers
use Rattle.host_pipe.specs.OutPipe as out
use Rattle.host_pipe.specs.OutPipe.{OutPipe, OutEvent}
use Rattle.host_pipe.specs.InPipe as inward
use Rattle.host_pipe.specs.InPipe.{InPipe, InEvent}
use Rattle.host_pipe.specs.Steps.{out_pipe, in_pipe}

-- five bytes are written, and the first packet is acknowledged: the next one goes with DATA1
abbrev pub out_first : List OutEvent
out_first =
    out.Does (out.Writes (1 ∷ 2 ∷ 3 ∷ 4 ∷ 5 ∷ [])) ∷ out.Does out.Starts ∷ out.Turn answers.Ack ∷ out.Does out.Irq ∷ out.Does out.Task ∷ out.Does out.Starts ∷ []

-- the second gets STALL
abbrev pub out_halted : List OutEvent
out_halted = out_first ++ out.Turn answers.Stall ∷ out.Does out.Irq ∷ out.Does out.Task ∷ []

-- or no answer, three times
abbrev pub out_dead : List OutEvent
out_dead =
    out_first ++ out.Turn answers.NoAnswer ∷ out.Does out.Irq ∷ out.Turn answers.NoAnswer ∷ out.Does out.Irq ∷ out.Turn answers.NoAnswer ∷ out.Does out.Irq ∷ out.Does out.Task ∷ []

abbrev pub out_after : List OutEvent → OutPipe
out_after events = out.after_events 2 256 out.opened events

pub record OutClearsWorked : Type 0 where
  pub halted : out_after out_halted ≡ out_pipe out.Halted D1 0 (3 ∷ 4 ∷ 5 ∷ []) (Some (3 ∷ 4 ∷ [])) false
  -- the clear takes the packet off, and a second clear nothing more
  pub accepted : out_after (out_halted ++ out.Clears ∷ []) ≡ out_pipe out.Clearing D1 0 (5 ∷ []) None false
  pub again : out_after (out_halted ++ out.Clears ∷ out.Clears ∷ []) ≡ out_pipe out.Clearing D1 0 (5 ∷ []) None false
  -- its control transfer passes: the next packet goes with DATA0
  pub passed : out_after (out_halted ++ out.Clears ∷ out.ClearEnds true ∷ out.Does out.Starts ∷ []) ≡ out_pipe out.Running D0 0 (5 ∷ []) (Some (5 ∷ [])) false
  -- or it doesn't
  pub failed : out_after (out_halted ++ out.Clears ∷ out.ClearEnds false ∷ out.Does out.Starts ∷ []) ≡ out_pipe out.Dead D1 0 (5 ∷ []) None false
  pub dead : out_after out_dead ≡ out_pipe out.Dead D1 3 (3 ∷ 4 ∷ 5 ∷ []) (Some (3 ∷ 4 ∷ [])) false
  pub revived : out_after (out_dead ++ out.Clears ∷ out.ClearEnds true ∷ out.Does out.Starts ∷ []) ≡ out_pipe out.Running D0 0 (5 ∷ []) (Some (5 ∷ [])) false
  -- a packet that was acknowledged, and that no handler run has looked at, is taken off by the clear
  pub unlooked : out_after (out_first ++ out.Turn answers.Ack ∷ out.Clears ∷ out.ClearEnds true ∷ []) ≡ out_pipe out.Rest D0 0 (5 ∷ []) None false
  -- a pipe at rest has none to take off
  pub rests : out_after (out.Does (out.Writes (1 ∷ [])) ∷ out.Clears ∷ out.ClearEnds true ∷ []) ≡ out_pipe out.Rest D0 0 (1 ∷ []) None false

-- a packet with DATA0 is taken, and the next token is sent
abbrev pub in_first : List InEvent
in_first = inward.Does inward.Starts ∷ inward.Turn (answers.Data D0 (7 ∷ [])) ∷ inward.Does inward.Irq ∷ inward.Does inward.Task ∷ inward.Does inward.Starts ∷ []

abbrev pub in_halted : List InEvent
in_halted = in_first ++ inward.Turn answers.Stall ∷ inward.Does inward.Irq ∷ inward.Does inward.Task ∷ []

abbrev pub in_after : List InEvent → InPipe
in_after events = inward.after_events 8 inward.opened events

pub record InClearsWorked : Type 0 where
  pub halted : in_after in_halted ≡ in_pipe inward.Halted D1 0 (7 ∷ [])
  pub accepted : in_after (in_halted ++ inward.Clears ∷ []) ≡ in_pipe inward.Clearing D1 0 (7 ∷ [])
  pub again : in_after (in_halted ++ inward.Clears ∷ inward.Clears ∷ []) ≡ in_pipe inward.Clearing D1 0 (7 ∷ [])
  pub passed : in_after (in_halted ++ inward.Clears ∷ inward.ClearEnds true ∷ inward.Does inward.Starts ∷ []) ≡ in_pipe inward.Running D0 0 (7 ∷ [])
  pub failed : in_after (in_halted ++ inward.Clears ∷ inward.ClearEnds false ∷ inward.Does inward.Starts ∷ []) ≡ in_pipe inward.Dead D1 0 (7 ∷ [])
  -- data that landed, and that no handler run has looked at, is dropped by the clear
  pub dropped : in_after (in_first ++ inward.Turn (answers.Data D1 (8 ∷ [])) ∷ inward.Clears ∷ inward.ClearEnds true ∷ []) ≡ in_pipe inward.Rest D0 0 (7 ∷ [])
