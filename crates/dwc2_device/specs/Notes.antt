-- The notes of a driver, in order.
use Rattle.std.specs.Prelude.{◌≡◌, ℕ, zero, suc, ◌+◌, Bool, true, false, if◌then◌else◌, List, Option, Some, None}
use Rattle.dwc2_regs.specs.declared.access.Profile.{Profile}
use Rattle.device_machine.specs.declared.control.Stage.{Stage}
use Rattle.device_machine.specs.declared.control.Stage.TheVariants.{Sent, Came}
use Rattle.device_machine.specs.Pipes.{pipes_after_task}
use Rattle.device_rings.specs.Rings.{Rings}
use Rattle.endpoint_relation.specs.declared.out_.OutState.{OutState}
use Rattle.endpoint_relation.specs.declared.out_.OutState.TheVariants as out
use Rattle.endpoint_relation.specs.declared.in_.InState.{InState}
use Rattle.endpoint_relation.specs.declared.in_.InState.TheVariants as inward
use Rattle.device_relation.specs.Software.{Software, Joint, out_kept, in_kept}
use Rattle.device_relation.specs.PipeRelation.{IsSound}
use Rattle.device_relation.specs.Port.{Port, port_of, with_pipes, noted_out, noted_in}
use Rattle.device_relation.specs.Run.{run_note_out, run_note_in}
use Rattle.dwc2_device.specs.declared.notes.Note.{Note}
use Rattle.dwc2_device.specs.declared.notes.Note.TheVariants.{Reset, Ep0In, Ep0Out, Setup, Out, In}

-- an endpoint has a note as long as a handler run found something on it which no task took
abbrev pub is_out_posted : OutState → Bool
is_out_posted out.Posted = true
is_out_posted out.Closed = false
is_out_posted out.Rest = false
is_out_posted out.Armed = false
is_out_posted out.Stale = false

abbrev pub is_in_posted : InState → Bool
is_in_posted inward.Posted = true
is_in_posted inward.Closed = false
is_in_posted inward.Rest = false
is_in_posted inward.Running = false

-- the first of so many numbers from this one on of which that holds
abbrev pub first_of : (ℕ → Bool) → ℕ → ℕ → Option ℕ
first_of holds zero n = None
first_of holds (suc k) n = if holds n then Some n else first_of holds k (n + 1)

abbrev pub out_posted : Profile → Software → Option ℕ
out_posted profile s = first_of (λ n. is_out_posted (out_kept s n).state) profile.out_eps 1

abbrev pub in_posted : Profile → Software → Option ℕ
in_posted profile s = first_of (λ n. is_in_posted (in_kept s n).state) profile.in_eps 1

-- OUT endpoints come before IN endpoints, each by number
abbrev pub pipe_note : Option ℕ → Option ℕ → Option Note
pipe_note (Some n) ins = Some (Out n)
pipe_note None (Some n) = Some (In n)
pipe_note None None = None

-- the next note of a reset, of a stage of endpoint 0 or of a SETUP
abbrev pub note_of : Bool → Option Stage → Option (List ℕ) → Option Note
note_of true finished request = Some Reset
note_of false (Some Sent) request = Some Ep0In
note_of false (Some (Came bytes)) request = Some (Ep0Out bytes)
note_of false None (Some bytes) = Some (Setup bytes)
note_of false None None = None

abbrev pub first_zero_note : Software → Option Note
first_zero_note s = note_of s.reset s.finished s.request

-- it comes before those of the other endpoints
abbrev pub note_or : Option Note → Option Note → Option Note
note_or (Some note) other = Some note
note_or None other = other

abbrev pub first_note : Profile → Software → Option Note
first_note profile s = note_or (first_zero_note s) (pipe_note (out_posted profile s) (in_posted profile s))

-- what the driver keeps once a note of endpoint 0 or of a reset was taken
abbrev pub zero_noted : Software → Option Note → Software
zero_noted s None = s
zero_noted s (Some Reset) = record s { reset = false }
zero_noted s (Some Ep0In) = record s { finished = None }
zero_noted s (Some (Ep0Out bytes)) = record s { finished = None }
zero_noted s (Some (Setup bytes)) = record s { request = None }
zero_noted s (Some (Out n)) = s
zero_noted s (Some (In n)) = s

abbrev pub without_zero_note : Software → Software
without_zero_note s = zero_noted s (first_zero_note s)

-- controller and software once a note was taken
abbrev pub joint_noted : Joint → Option Note → Joint
joint_noted j None = j
joint_noted j (Some Reset) = record j { software = record j.software { reset = false } }
joint_noted j (Some Ep0In) = record j { software = record j.software { finished = None } }
joint_noted j (Some (Ep0Out bytes)) = record j { software = record j.software { finished = None } }
joint_noted j (Some (Setup bytes)) = record j { software = record j.software { request = None } }
joint_noted j (Some (Out n)) = run_note_out j n
joint_noted j (Some (In n)) = run_note_in j n

-- and the device: on its endpoint a task takes up what was found
abbrev pub port_noted : Port → Option Note → Port
port_noted p None = p
port_noted p (Some Reset) = record p { reset = false }
port_noted p (Some Ep0In) = record p { finished = None }
port_noted p (Some (Ep0Out bytes)) = record p { finished = None }
port_noted p (Some (Setup bytes)) = record p { request = None }
port_noted p (Some (Out n)) = noted_out p n
port_noted p (Some (In n)) = noted_in p n

-- taking a note makes that of the device, and all agree as before
abbrev pub NotesKeep : Profile → Type 0
NotesKeep profile =
    (j : Joint) (r : Rings) → IsSound profile j r
    → IsSound profile (joint_noted j (first_note profile j.software)) r
    × (port_of (joint_noted j (first_note profile j.software)) r ≡ port_noted (port_of j r) (first_note profile j.software))

-- a task takes up what was found on each endpoint other than 0
abbrev pub pipes_noted : Port → Port
pipes_noted p = with_pipes p (pipes_after_task p.pipes)
