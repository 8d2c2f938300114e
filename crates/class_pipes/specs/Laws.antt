-- What holds of the pipes of every class.
use Rattle.std.specs.Prelude.{◌≡◌, ◌≢◌, ◌↔◌, ◌⊎◌, ℕ, ◌+◌, ◌<◌, ◌≤◌, IsTrue}
use Rattle.usb_packet.specs.declared.setup.Setup.{Setup}
use Rattle.usb_pipe.specs.declared.decision.Decision.{Decision}
use Rattle.usb_pipe.specs.declared.decision.Decision.TheVariants as decision
use Rattle.usb_pipe.specs.declared.phase.Phase.TheVariants.{Closed, Rest, Running, Posted, Halted}
use Rattle.usb_pipe.specs.declared.reply.Reply.TheVariants as reply
use Rattle.usb_pipe.specs.Own.{Own, phase_at, held_at, capacity_at, started, armed}
use Rattle.class_pipes.specs.Pipes.{is_shut, with_armed, with_started, start_reply}
use Rattle.class_pipes.specs.Requests.{with_length}

-- the pipe that receives takes a packet exactly where it rests and 64 bytes are free
abbrev pub ArmsWithRoom : Type 0
ArmsWithRoom =
    (own : Own)
    → (phase_at own 1 ≡ Rest → held_at own 1 + 64 ≤ capacity_at own 1 → with_armed own ≡ armed own)
    × ((phase_at own 1 ≢ Rest) ⊎ (capacity_at own 1 < held_at own 1 + 64) → with_armed own ≡ own)

-- a pipe starts exactly where it rests and anything is queued
abbrev pub StartsWhatIsQueued : Type 0
StartsWhatIsQueued =
    (own : Own) (pipe : ℕ)
    → (phase_at own pipe ≡ Rest → held_at own pipe ≢ 0 → with_started own pipe ≡ started own pipe)
    × ((phase_at own pipe ≢ Rest) ⊎ (held_at own pipe ≡ 0) → with_started own pipe ≡ own)

-- both leave all bytes that are held or queued, and the pipes that aren't theirs
abbrev pub BytesAreKept : Type 0
BytesAreKept =
    (own : Own)
    → ((with_armed own).receives.pipe.held ≡ own.receives.pipe.held)
    × ((with_armed own).sends ≡ own.sends) × ((with_armed own).notifies ≡ own.notifies)
    × ((with_started own 0).sends.pipe.queue ≡ own.sends.pipe.queue)
    × ((with_started own 0).receives ≡ own.receives) × ((with_started own 0).notifies ≡ own.notifies)

-- a class is shut exactly where one of its two data pipes is closed
abbrev pub ShutWhereClosed : Type 0
ShutWhereClosed = (own : Own) → IsTrue (is_shut own) ↔ ((phase_at own 0 ≡ Closed) ⊎ (phase_at own 1 ≡ Closed))

-- a transfer is done where it starts; else it is told what stands in its way (USB 2.0, 9.4.5)
pub record StartsAreAnswered : Type 0 where
  pub rests : start_reply Rest ≡ reply.Done
  pub halted : start_reply Halted ≡ reply.Halted
  pub runs : start_reply Running ≡ reply.Busy
  pub posted : start_reply Posted ≡ reply.Busy
  pub closed : start_reply Closed ≡ reply.Closed

-- a request whose wLength is another one is refused (USB 2.0, 9.2.7)
abbrev pub LengthIsAsked : Type 0
LengthIsAsked =
    (n : ℕ) (setup : Setup) (d : Decision)
    → (setup.length ≡ n → with_length n setup d ≡ d)
    × (setup.length ≢ n → with_length n setup d ≡ decision.Stall)
