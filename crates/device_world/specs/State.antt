-- What the classes of a device hold.
use Rattle.cdc_device_machine.specs.Port as cdc
use Rattle.hid_device_machine.specs.Device as hid
use Rattle.midi_device_machine.specs.Port as midi

-- What one of them holds. Each class that is built has a case.
pub data State : Type 0 where
  -- no class
  Absent : State
  -- the serial port
  Serial : (serial : cdc.Serial) → State
  -- the keyboard or the mouse
  Human : (device : hid.Hid) → State
  -- the MIDI port
  Music : (port : midi.Port) → State
