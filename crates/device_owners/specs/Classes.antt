-- What classes make of their pipes: what they do by the calls that they have on them opens and closes none, and a task in which no
-- class works does what the core does alone.
use Rattle.std.specs.Prelude.{◌≡◌, ℕ, List, None}
use Rattle.usb_packet.specs.declared.bus.Owner as declared
use Rattle.usb_pipe.specs.Own.{Own, written, read, started, armed, halted_at, dropped_at}
use Rattle.device_machine.specs.Pipes.{pipes_after_task}
use Rattle.device_owners.specs.Device.{World, Machinery, Device, with_control_worked, with_notes_taken, after_task}
use Rattle.device_owners.specs.Steps.{StayOpen, tells_halt}

-- each call leaves every pipe as open as it was, and so do calls one after another
pub record CallsStayOpen : Type 0 where
  pub writes : (own : Own) (n : ℕ) (bytes : List ℕ) → StayOpen own (written own n bytes)
  pub starts : (own : Own) (n : ℕ) → StayOpen own (started own n)
  pub reads : (own : Own) (most : ℕ) → StayOpen own (read own most)
  pub arms : (own : Own) → StayOpen own (armed own)
  pub halts : (own : Own) (n : ℕ) → StayOpen own (halted_at own n)
  pub drops : (own : Own) (n : ℕ) → StayOpen own (dropped_at own n)
  pub none : (own : Own) → StayOpen own own
  pub both : (old mid new : Own) → StayOpen old mid → StayOpen mid new → StayOpen old new

-- classes whose work leaves their pipes as they are
abbrev pub LeavePipes : {S : Type 0} → World S → Type 0
LeavePipes {S} world = (o : declared.Owner) (s : S) (own : Own) → (world.rules o).pipes_after_work s own ≡ own

-- then a whole task makes of the pipes what the core makes of them, and one that has no SETUP takes their notes and changes no halt
-- (USB 2.0, 9.4.5)
pub record IdleTask {S : Type 0} (m : Machinery S) (d : Device S) : Type 0 where
  pub pipes : (after_task m d).core.pipes ≡ (with_notes_taken m (with_control_worked m d)).core.pipes
  pub quiet : d.core.request ≡ None → (after_task m d).core.pipes ≡ pipes_after_task d.core.pipes
  pub halts : d.core.request ≡ None → (address : ℕ) → tells_halt (after_task m d) address ≡ tells_halt d address
