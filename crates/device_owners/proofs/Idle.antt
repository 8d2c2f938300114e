-- The calls that a class has on its pipes open and close none; and what a task makes of the pipes where no class works.
use Rattle.std.proofs.Common.{◌≡◌, ℕ, List, [], ◌∷◌, Bool, true, false, ◌==◌, if◌then◌else◌, refl, ap, ◌∙◌}
use Rattle.std.specs.List.{list_any}
use Rattle.usb_packet.specs.declared.bus.Owner.{Owner}
use Rattle.usb_control.specs.Table.{is_at}
use Rattle.device_pipe.specs.InPipe as inward
use Rattle.device_pipe.specs.InPipe.{InPipe, InPhase, is_closed}
use Rattle.device_pipe.specs.OutPipe as out
use Rattle.device_pipe.specs.OutPipe.{OutPipe, OutPhase}
use Rattle.usb_pipe.specs.Own.{Own, Sender, sender}
use Rattle.usb_pipe.specs.Classes.{class_at, class_owners}
use Rattle.device_machine.specs.Pipes.{is_out_open, halted_addresses, pipes_after_task}
use Rattle.device_machine.proofs.Slots.{task_keeps, halts_of}
use Rattle.device_owners.specs.Ends.{own_pipes, with_own}
use Rattle.device_owners.specs.Device.{Machinery, Device, with_control_worked, with_notes_taken, worked, worked_if, worked_each}
use Rattle.device_owners.specs.Steps.{StayOpen}
use Rattle.device_owners.specs.Classes.{CallsStayOpen, LeavePipes, IdleTask}
use Rattle.device_owners.proofs.Own.{own_found}
use Rattle.device_owners.proofs.Told.{core_serves}

-- Phases.

starts : (size : ℕ) (queue : List ℕ) (phase : InPhase) → is_closed (inward.phase_started size queue phase) ≡ is_closed phase
starts size queue inward.Closed = refl
starts size queue inward.Rest = refl
starts size queue (inward.Running n left) = refl
starts size queue (inward.Posted n) = refl

rests : (phase : InPhase) → is_closed (inward.at_rest phase) ≡ is_closed phase
rests inward.Closed = refl
rests inward.Rest = refl
rests (inward.Running n left) = refl
rests (inward.Posted n) = refl

arms : (phase : OutPhase) (halted : Bool) → is_out_open (out.phase_armed phase halted) ≡ is_out_open phase
arms (out.Closed over) halted = refl
arms out.Rest true = refl
arms out.Rest false = refl
arms out.Armed halted = refl
arms (out.Landed packet) halted = refl
arms out.Posted halted = refl
arms out.Stale halted = refl

-- Pipes.

-- one pipe that sends is put
abbrev of_two : Own → Bool → Sender
of_two own third = if third then own.notifies else own.sends

sent_by : (own : Own) (third : Bool) (pipe : InPipe) → is_closed pipe.phase ≡ is_closed (of_two own third).pipe.phase
    → StayOpen own (if third then record own { notifies = record (of_two own third) { pipe = pipe } } else record own { sends = record (of_two own third) { pipe = pipe } })
sent_by own true pipe e = record { sends = refl; receives = refl; notifies = e }
sent_by own false pipe e = record { sends = e; receives = refl; notifies = refl }

received : (own : Own) (pipe : OutPipe) → is_out_open pipe.phase ≡ is_out_open own.receives.pipe.phase → StayOpen own (record own { receives = record own.receives { pipe = pipe } })
received own pipe e = record { sends = refl; receives = e; notifies = refl }

either : (b : Bool) (own x y : Own) → StayOpen own x → StayOpen own y → StayOpen own (if b then x else y)
either true own x y hx hy = hx
either false own x y hx hy = hy

pub calls_stay_open : CallsStayOpen
calls_stay_open = record {
  writes = λ own n bytes. sent_by own (n == 2) (inward.written (sender own n).capacity bytes (sender own n).pipe) refl;
  starts = λ own n. sent_by own (n == 2) (inward.started (sender own n).size (sender own n).pipe) (starts (sender own n).size (sender own n).pipe.queue (sender own n).pipe.phase);
  reads = λ own most. received own (out.taken most own.receives.pipe) refl;
  arms = λ own. received own (out.armed own.receives.pipe) (arms own.receives.pipe.phase own.receives.pipe.halted);
  halts = λ own n. either (n == 1) own _ _ (received own (out.halted_ own.receives.pipe) refl) (sent_by own (n == 2) (inward.halted_ (sender own n).pipe) refl);
  drops = λ own n. either (n == 1) own _ _ (received own (out.dropped own.receives.pipe) refl) (sent_by own (n == 2) (inward.dropped (sender own n).pipe) (rests (sender own n).pipe.phase));
  none = λ own. record { sends = refl; receives = refl; notifies = refl };
  both = λ old mid new h k. record { sends = k.sends ∙ h.sends; receives = k.receives ∙ h.receives; notifies = k.notifies ∙ h.notifies };
}

-- A task in which no class works.

worked_pipes : {S : Type 0} (m : Machinery S) → LeavePipes m.world → (o : Owner) (d : Device S) → (worked m o d).core.pipes ≡ d.core.pipes
worked_pipes m leave o d =
    ap (with_own m.world.set o d.core.pipes) (leave o (class_at d.classes o) (own_pipes m.world.set o d.core.pipes)) ∙ own_found m.world.set o d.core.pipes

known_pipes : {S : Type 0} (m : Machinery S) → LeavePipes m.world → (o : Owner) (d : Device S) (known : Bool) → (if known then worked m o d else d).core.pipes ≡ d.core.pipes
known_pipes m leave o d true = worked_pipes m leave o d
known_pipes m leave o d false = refl

each_pipes : {S : Type 0} (m : Machinery S) → LeavePipes m.world → (os : List Owner) (d : Device S) → (worked_each m os d).core.pipes ≡ d.core.pipes
each_pipes m leave [] d = refl
each_pipes m leave (o ∷ os) d = each_pipes m leave os (worked_if m o d) ∙ known_pipes m leave o d (m.knows o)

pub idle_task : {S : Type 0} (m : Machinery S) (d : Device S) → LeavePipes m.world → IdleTask m d
idle_task m d leave =
    let pipes = each_pipes m leave class_owners (with_notes_taken m (with_control_worked m d)) in
    let quiet = (core_serves m d).quiet in
    record {
      pipes = pipes;
      quiet = λ none. pipes ∙ quiet none;
      halts = λ none address. ap (λ p. list_any (is_at address) (halted_addresses p)) (pipes ∙ quiet none)
          ∙ ap (list_any (is_at address)) (halts_of (pipes_after_task d.core.pipes) d.core.pipes (task_keeps d.core.pipes));
    }
