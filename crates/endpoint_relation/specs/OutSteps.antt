-- What the bus, a handler run, a task and each call make of one OUT endpoint other than 0: of its registers, of what the driver
-- keeps, of its packets in the receive FIFO and of its ring. A step leaves what it has no function for.
use Rattle.std.specs.Prelude.{ℕ, ◌&&◌, ◌||◌, not, nat_le, Bool, true, false, if◌then◌else◌, List, [], ◌∷◌, ◌++◌, length}
use Rattle.usb_packet.specs.declared.bus.Toggle.{Toggle}
use Rattle.usb_packet.specs.declared.bus.BusAnswer.{BusAnswer}
use Rattle.usb_packet.specs.declared.bus.BusAnswer.TheVariants as answers
use Rattle.usb_packet.specs.Toggles.{same_toggle}
use Rattle.usb_descriptor.specs.declared.endpoint.Endpoint.{Endpoint}
use Rattle.usb_descriptor.specs.Set.{is_core}
use Rattle.device_arrivals.specs.Arrivals.{Landed}
use Rattle.usb_ring.specs.Ring.{Ring, appended, without_first}
use Rattle.device_pipe.specs.OutPipe.{OutPipe, out_answer, after_packet}
use Rattle.dwc2_regs.specs.declared.TheConstants.{DOEPCTL_NAKSTS}
use Rattle.device_table.specs.State.{OutEnd}
use Rattle.device_table.specs.Words.{flag, control_word}
use Rattle.device_table.specs.Write.{out_control_written, out_interrupts_written}
use Rattle.device_table.specs.Bus.{OutOutcome, unheard, naks, stalls, drops, lands, out_landed}
use Rattle.endpoint_relation.specs.declared.out_.OutState.{OutState}
use Rattle.endpoint_relation.specs.declared.out_.OutState.TheVariants.{Closed, Rest, Armed, Posted, Stale}
use Rattle.endpoint_relation.specs.declared.out_.OutEndpoint.{OutEndpoint}
use Rattle.endpoint_relation.specs.OutWords.{base, arm_word, data0_word, open_word, close_word, one_packet, moved_bits, closed_bits, all_bits}
use Rattle.endpoint_relation.specs.OutRelation.{not_open, is_open, is_used, size_in, is_armed}

-- A packet on the bus.

-- what the controller makes of it; `heard` says that the device was awake, the address its own and the packet undamaged, `room`
-- that the receive FIFO has place for it
abbrev pub outcome_at : OutEnd → Toggle → List ℕ → (heard room : Bool) → OutOutcome
outcome_at end toggle bytes heard room =
    if not (heard && (is_used end.control && nat_le (length bytes) (size_in end.control))) then unheard
    else if end.control.stall then stalls
    else if not end.control.enabled || end.control.nak then naks
    else if not (same_toggle end.toggle toggle) then drops
    else if not room then naks
    else lands

abbrev pub end_after : OutOutcome → OutEnd → OutEnd
end_after lands end = out_landed end
end_after unheard end = end
end_after naks end = end
end_after stalls end = end
end_after drops end = end

abbrev pub arrived_after : OutOutcome → List Landed → Toggle → List ℕ → List Landed
arrived_after lands arrived toggle bytes = arrived ++ record { toggle = toggle; bytes = bytes } ∷ []
arrived_after unheard arrived toggle bytes = arrived
arrived_after naks arrived toggle bytes = arrived
arrived_after stalls arrived toggle bytes = arrived
arrived_after drops arrived toggle bytes = arrived

-- the device's answer to a packet that is heard: an open endpoint of the core answers NAK, and each other one as its pipe does
abbrev pub core_answer : OutState → BusAnswer
core_answer state = if is_open state then answers.Nak else answers.NoAnswer

abbrev pub endpoint_answer : OutEndpoint → OutPipe → BusAnswer
endpoint_answer s pipe = if is_core s.endpoint.owner then core_answer s.state else out_answer pipe

-- a packet that is longer than the endpoint's size is passed over in silence, as one that isn't heard
abbrev pub takes_notice : OutEndpoint → List ℕ → (heard : Bool) → Bool
takes_notice s bytes heard = heard && nat_le (length bytes) s.endpoint.size

abbrev pub packet_answer : OutEndpoint → OutPipe → List ℕ → (heard : Bool) → BusAnswer
packet_answer s pipe bytes heard = if takes_notice s bytes heard then endpoint_answer s pipe else answers.NoAnswer

abbrev pub pipe_after : OutEndpoint → OutPipe → Toggle → List ℕ → (heard : Bool) → OutPipe
pipe_after s pipe toggle bytes heard = if takes_notice s bytes heard then after_packet pipe toggle bytes else pipe

-- A handler run that finds a packet: its two entries are popped, the second of which sets XFRC, and XFRC is cleared. The
-- packet's bytes go to the ring, and those of one that was dropped nowhere.

abbrev pub moved_end : OutEnd → OutEnd
moved_end end = out_interrupts_written (record end { xfrc = true }) moved_bits

abbrev pub passed_state : OutState → OutState
passed_state Stale = Rest
passed_state Closed = Closed
passed_state Rest = Rest
passed_state Armed = Armed
passed_state Posted = Posted

abbrev pub moved : OutEndpoint → OutEndpoint
moved s = record s { state = if s.over then passed_state s.state else Posted; over = false }

abbrev pub moved_ring : Bool → Ring → List ℕ → Ring
moved_ring over ring bytes = if over then ring else appended ring bytes

-- A handler run that serves a reset: SNAK and EPDIS, then all entries popped, whatever they set, then DOEPINTx cleared. The
-- software and the ring are emptied.

abbrev pub shut_end : OutEnd → OutEnd
shut_end end = out_control_written true end close_word

abbrev pub reset_end : OutEnd → OutEnd
reset_end popped = out_interrupts_written popped all_bits

-- A task takes the note.

abbrev pub noted_state : OutState → OutState
noted_state Posted = Rest
noted_state Closed = Closed
noted_state Rest = Rest
noted_state Armed = Armed
noted_state Stale = Stale

abbrev pub noted : OutEndpoint → OutEndpoint
noted s = record s { state = noted_state s.state }

-- Each call.

-- it is armed for one packet of its size
abbrev pub armed_end : OutEnd → OutEndpoint → OutEnd
armed_end end s = out_control_written true (record end { tsiz = one_packet s.endpoint.size }) (arm_word s)

abbrev pub armed : OutEndpoint → OutEndpoint
armed s = record s { state = Armed }

-- it is halted: the core's in the software alone
abbrev pub halted : OutEndpoint → OutEndpoint
halted s = record s { halted = true }

abbrev pub halted_end : OutEnd → OutEndpoint → OutEnd
halted_end end s = if is_core s.endpoint.owner then end else out_control_written true end (base (halted s))

-- the halt ends, with DATA0
abbrev pub cleared : OutEndpoint → OutEndpoint
cleared s = record s { halted = false }

abbrev pub cleared_end : OutEnd → OutEndpoint → OutEnd
cleared_end end s = out_control_written true end (data0_word (cleared s))

-- a session opens an endpoint
abbrev pub opened : OutEndpoint → Endpoint → OutEndpoint
opened s endpoint = record { endpoint = endpoint; state = if s.over then Stale else Rest; halted = false; over = s.over }

abbrev pub opened_end : OutEnd → OutEndpoint → Endpoint → OutEnd
opened_end end s endpoint = out_control_written true end (open_word (opened s endpoint))

-- it is closed: where it was armed, DOEPCTLx tells by NAKSTS that a packet landed, which now is dropped
abbrev pub over_at : OutEnd → OutEndpoint → Bool
over_at end s = s.over || (is_armed s.state && flag (control_word end.control) DOEPCTL_NAKSTS)

abbrev pub closed : OutEnd → OutEndpoint → OutEndpoint
closed end s = not_open (over_at end s)

abbrev pub closed_end : OutEnd → OutEnd
closed_end end = out_interrupts_written (shut_end end) closed_bits

-- what the ring held is dropped
abbrev pub emptied : Ring → Ring
emptied ring = record ring { bytes = [] }

-- the class reads so many bytes
abbrev pub read : Ring → ℕ → Ring
read ring n = without_first ring n
