-- What is worked off, halted or not.
use Rattle.std.proofs.Common.{◌≡◌, ℕ, List, [], ◌++◌, drop, true, Some, ap}
use Rattle.device_pipe.specs.OutPipe as out
use Rattle.device_pipe.specs.OutPipe.{OutPipe}
use Rattle.device_pipe.specs.InPipe as inward
use Rattle.device_pipe.specs.InPipe.{InPipe}

pub over : (size : ℕ) (capacity : ℕ) (pipe : InPipe) (n : ℕ) → pipe.phase ≡ inward.Running n [] →
    inward.after_event size capacity pipe (inward.Does inward.Irq) ≡ record pipe { queue = drop n pipe.queue; phase = inward.Posted n }
over size capacity pipe n e = ap (λ p. inward.served pipe p) e

pub told : (pipe : InPipe) (n : ℕ) → pipe.phase ≡ inward.Posted n → inward.ended pipe ≡ Some n
told pipe n e = ap inward.ended_at e

pub noted : (size : ℕ) (capacity : ℕ) (pipe : InPipe) (n : ℕ) → pipe.phase ≡ inward.Posted n →
    inward.after_event size capacity pipe (inward.Does inward.Task) ≡ record pipe { phase = inward.Rest }
noted size capacity pipe n e = ap (λ p. record pipe { phase = inward.phase_after_task p }) e

pub moved : (pipe : OutPipe) (packet : List ℕ) → pipe.phase ≡ out.Landed packet →
    out.after_event pipe (out.Does out.Irq) ≡ record pipe { held = pipe.held ++ packet; phase = out.Posted }
moved pipe packet e = ap (λ p. record pipe { phase = out.phase_after_irq p; held = pipe.held ++ out.landed p }) e

pub out_told : (pipe : OutPipe) → pipe.phase ≡ out.Posted → out.came pipe ≡ true
out_told pipe e = ap out.came_at e

pub out_noted : (pipe : OutPipe) → pipe.phase ≡ out.Posted → out.after_event pipe (out.Does out.Task) ≡ record pipe { phase = out.Rest }
out_noted pipe e = ap (λ p. record pipe { phase = out.phase_after_task p }) e
