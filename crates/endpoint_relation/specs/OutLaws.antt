-- Each step of one OUT endpoint is its pipe's, and keeps what holds of it.
use Rattle.std.specs.Prelude.{◌≡◌, ℕ, ◌+◌, ◌<◌, ◌≤◌, Bool, true, false, IsTrue, List, [], ◌∷◌, length, slice_index}
use Rattle.usb_packet.specs.declared.bus.Toggle.{Toggle}
use Rattle.usb_descriptor.specs.declared.endpoint.Endpoint.{Endpoint}
use Rattle.usb_descriptor.specs.Set.{is_core}
use Rattle.device_arrivals.specs.Arrivals.{Landed}
use Rattle.usb_ring.specs.Ring.{Ring}
use Rattle.device_pipe.specs.OutPipe as pipe
use Rattle.device_pipe.specs.OutPipe.{OutPipe}
use Rattle.dwc2_regs.specs.declared.access.Profile.{Profile}
use Rattle.device_table.specs.State as state
use Rattle.device_table.specs.State.{Table, OutEnd, out_end}
use Rattle.device_table.specs.Bus as table
use Rattle.device_table.specs.Bus.{has_room, hears, out_outcome, after_bus}
use Rattle.endpoint_relation.specs.declared.out_.OutState.TheVariants.{Closed, Rest}
use Rattle.endpoint_relation.specs.declared.out_.OutEndpoint.{OutEndpoint}
use Rattle.endpoint_relation.specs.OutRelation.{OutStands, OutStandsFor, abstract_out, not_open, is_open, is_ready}
use Rattle.endpoint_relation.specs.OutSteps.{outcome_at, end_after, arrived_after, packet_answer, pipe_after, moved_end, moved, moved_ring, shut_end, reset_end, noted, armed_end, armed}
use Rattle.endpoint_relation.specs.OutSteps.{halted, halted_end, cleared, cleared_end, opened, opened_end, closed, closed_end, emptied, read}

-- A packet on the bus: the device's answer is the endpoint's, and the packet makes of its pipe what it makes of that. Where the
-- next packet is taken, the receive FIFO has place for it.
pub record OutPacketKept (number : ℕ) (end : OutEnd) (s : OutEndpoint) (arrived : List Landed) (ring : Ring) (toggle : Toggle) (bytes : List ℕ) (heard room : Bool) : Type 0 where
  pub answer : table.out_answer (outcome_at end toggle bytes heard room) ≡ packet_answer s (abstract_out end s arrived ring.bytes) bytes heard
  pub next : OutStandsFor number (end_after (outcome_at end toggle bytes heard room) end) s (arrived_after (outcome_at end toggle bytes heard room) arrived toggle bytes) ring
      (pipe_after s (abstract_out end s arrived ring.bytes) toggle bytes heard)

abbrev pub OutPacketKeeps : Type 0
OutPacketKeeps =
    (number : ℕ) (end : OutEnd) (s : OutEndpoint) (arrived : List Landed) (ring : Ring) (toggle : Toggle) (bytes : List ℕ) (heard room : Bool)
    → OutStands number end s arrived ring → ((i : ℕ) → slice_index bytes i < 256) → (IsTrue (is_ready s.state arrived) → room ≡ true)
    → OutPacketKept number end s arrived ring toggle bytes heard room

-- A handler run moves the packet that lies in the receive FIFO, or passes over it.
abbrev pub OutMoveKeeps : Type 0
OutMoveKeeps =
    (number : ℕ) (end : OutEnd) (s : OutEndpoint) (arrival : Landed) (arrived : List Landed) (ring : Ring) → OutStands number end s (arrival ∷ arrived) ring
    → OutStandsFor number (moved_end end) (moved s) arrived (moved_ring s.over ring arrival.bytes) (pipe.after_irq (abstract_out end s (arrival ∷ arrived) ring.bytes))

-- The ring has room for a packet that is moved.
abbrev pub OutMoveFits : Type 0
OutMoveFits =
    (number : ℕ) (end : OutEnd) (s : OutEndpoint) (arrival : Landed) (arrived : List Landed) (ring : Ring) → OutStands number end s (arrival ∷ arrived) ring
    → s.over ≡ false → length ring.bytes + length arrival.bytes ≤ ring.capacity

-- One that finds nothing of the endpoint leaves all, as it leaves the pipe.
abbrev pub OutIdleKeeps : Type 0
OutIdleKeeps =
    (number : ℕ) (end : OutEnd) (s : OutEndpoint) (ring : Ring) → OutStands number end s [] ring
    → pipe.after_irq (abstract_out end s [] ring.bytes) ≡ abstract_out end s [] ring.bytes

-- One that serves a reset closes the pipe and leaves nothing of it, whatever stood there and whatever the entries that it popped
-- set beside the control register.
abbrev pub OutResetKeeps : Type 0
OutResetKeeps =
    (number : ℕ) (end popped : OutEnd) (ring : Ring) → popped.control ≡ (shut_end end).control
    → OutStandsFor number (reset_end popped) (not_open false) [] (emptied ring) pipe.unopened

-- A task takes the note.
abbrev pub OutNoteKeeps : Type 0
OutNoteKeeps =
    (number : ℕ) (end : OutEnd) (s : OutEndpoint) (arrived : List Landed) (ring : Ring) → OutStands number end s arrived ring
    → OutStandsFor number end (noted s) arrived ring (pipe.after_task (abstract_out end s arrived ring.bytes))

-- The class reads.
abbrev pub OutReadKeeps : Type 0
OutReadKeeps =
    (number : ℕ) (end : OutEnd) (s : OutEndpoint) (arrived : List Landed) (ring : Ring) (n : ℕ) → OutStands number end s arrived ring
    → OutStandsFor number end s arrived (read ring n) (pipe.taken n (abstract_out end s arrived ring.bytes))

-- A class drops what its pipe holds.
abbrev pub OutDropKeeps : Type 0
OutDropKeeps =
    (number : ℕ) (end : OutEnd) (s : OutEndpoint) (arrived : List Landed) (ring : Ring) → OutStands number end s arrived ring
    → OutStandsFor number end s arrived (emptied ring) (pipe.dropped (abstract_out end s arrived ring.bytes))

-- A class arms its pipe, which rests and isn't halted, where the ring has room for a packet.
abbrev pub OutArmKeeps : Type 0
OutArmKeeps =
    (number : ℕ) (end : OutEnd) (s : OutEndpoint) (arrived : List Landed) (ring : Ring) → OutStands number end s arrived ring
    → s.state ≡ Rest → s.halted ≡ false → is_core s.endpoint.owner ≡ false → length ring.bytes + s.endpoint.size ≤ ring.capacity
    → OutStandsFor number (armed_end end s) (armed s) arrived ring (pipe.armed (abstract_out end s arrived ring.bytes))

-- An open endpoint is halted, and its halt ends.
abbrev pub OutHaltKeeps : Type 0
OutHaltKeeps =
    (number : ℕ) (end : OutEnd) (s : OutEndpoint) (arrived : List Landed) (ring : Ring) → OutStands number end s arrived ring → IsTrue (is_open s.state)
    → OutStandsFor number (halted_end end s) (halted s) arrived ring (pipe.halted_ (abstract_out end s arrived ring.bytes))

abbrev pub OutClearKeeps : Type 0
OutClearKeeps =
    (number : ℕ) (end : OutEnd) (s : OutEndpoint) (arrived : List Landed) (ring : Ring) → OutStands number end s arrived ring → IsTrue (is_open s.state)
    → OutStandsFor number (cleared_end end s) (cleared s) arrived ring (pipe.cleared (abstract_out end s arrived ring.bytes))

-- A session opens an endpoint of that number, of which none is open.
abbrev pub OutOpenKeeps : Type 0
OutOpenKeeps =
    (number : ℕ) (end : OutEnd) (s : OutEndpoint) (arrived : List Landed) (ring : Ring) (endpoint : Endpoint) → OutStands number end s arrived ring
    → s.state ≡ Closed → endpoint.addr ≡ number → 1 ≤ endpoint.size → endpoint.size ≤ 64
    → OutStandsFor number (opened_end end s endpoint) (opened s endpoint) arrived ring (pipe.opened (abstract_out end s arrived ring.bytes))

-- A session closes it.
abbrev pub OutCloseKeeps : Type 0
OutCloseKeeps =
    (number : ℕ) (end : OutEnd) (s : OutEndpoint) (arrived : List Landed) (ring : Ring) → OutStands number end s arrived ring
    → OutStandsFor number (closed_end end) (closed end s) arrived (emptied ring) (pipe.closed (abstract_out end s arrived ring.bytes))

-- At the start, and in the opened state, all agrees: no endpoint is open.
pub record OutAtStart (profile : Profile) (number capacity : ℕ) : Type 0 where
  pub first : OutStandsFor number (out_end (state.first profile) number) (not_open false) [] (record { bytes = []; capacity = capacity }) pipe.unopened
  pub opened : OutStandsFor number (out_end (state.opened profile) number) (not_open false) [] (record { bytes = []; capacity = capacity }) pipe.unopened

abbrev pub OutStarts : Type 0
OutStarts = (profile : Profile) (number capacity : ℕ) → OutAtStart profile number capacity
