-- What the software makes of its driver's notes.
use Rattle.std.specs.Prelude.{false, Option, Some, None}
use Rattle.usbd_core.specs.declared.state.DevState.{DevState}
use Rattle.device_machine.specs.declared.control.Stage.TheVariants.{Sent, Came}
use Rattle.device_owners.specs.Device.{Transfer, Idle, Sending, Taking, Ending, Addressing, Foreign}
use Rattle.dwc2_device.specs.Driver.{Driver}
use Rattle.dwc2_device.specs.Notes.{first_zero_note, without_zero_note}
use Rattle.dwc2_device.specs.declared.notes.Note.{Note}
use Rattle.dwc2_device.specs.declared.notes.Note.TheVariants.{Reset, Ep0In, Ep0Out, Setup, Out, In}
use Rattle.usbd_core.specs.Device.{Device}

-- at the start, and after a reset
abbrev pub unconfigured : DevState
unconfigured = record { addr = 0; configured = false }

-- a reset ends the session and all that went on (USB 2.0, 9.1.1.3)
abbrev pub forgotten : Device → Device
forgotten d = record d { state = unconfigured; finished = None; request = None; transfer = Idle }

-- the end of the status stage of SET_ADDRESS brings the address (9.4.6)
abbrev pub state_sent : DevState → Transfer → DevState
state_sent state (Addressing n) = record state { addr = n }
state_sent state Idle = state
state_sent state (Sending packets) = state
state_sent state (Taking o setup) = state
state_sent state Foreign = state
state_sent state Ending = state

abbrev pub sent : Device → Device
sent d = record d { state = state_sent d.state d.transfer; finished = Some Sent }

abbrev pub noted : Device → Option Note → Device
noted d None = d
noted d (Some Reset) = forgotten d
noted d (Some Ep0In) = sent d
noted d (Some (Ep0Out packet)) = record d { finished = Some (Came packet) }
noted d (Some (Setup bytes)) = record d { request = Some bytes }
noted d (Some (Out n)) = d
noted d (Some (In n)) = d

abbrev pub with_driver : Device → Driver → Device
with_driver d port = record d { port = port }

-- the next note of endpoint 0 or of a reset is taken; those of the other endpoints wait for a task
abbrev pub after_note : Device → Device
after_note d = noted (with_driver d (record d.port { software = without_zero_note d.port.software })) (first_zero_note d.port.software)
