-- No class of a device opens or closes a pipe.
use Rattle.std.proofs.Common.{ℕ, List, Bool, true, false, if◌then◌else◌, Option}
use Rattle.usb_packet.specs.declared.bus.Owner.{Owner}
use Rattle.usb_packet.specs.declared.bus.Owner.TheVariants.{Core, Cdc, Hid, Msc, Midi}
use Rattle.usb_descriptor.specs.Set.{Set}
use Rattle.usb_pipe.specs.declared.call.CdcDeviceCall.{CdcDeviceCall}
use Rattle.usb_pipe.specs.declared.call.CdcDeviceCall.TheVariants.{Write, Read, Flush, Avail, Line, Notify}
use Rattle.usb_pipe.specs.declared.call.HidDeviceCall.{HidDeviceCall}
use Rattle.usb_pipe.specs.declared.call.HidDeviceCall.TheVariants as human
use Rattle.usb_pipe.specs.declared.call.MidiCall.{MidiCall}
use Rattle.usb_pipe.specs.declared.call.MidiCall.TheVariants as music
use Rattle.usb_pipe.specs.Own.{Own, held_at, read, written, started, armed}
use Rattle.device_line.specs.declared.call.DevCall.{DevCall}
use Rattle.device_line.specs.declared.call.DevCall.TheVariants as call
use Rattle.class_pipes.specs.Pipes.{is_shut, may_arm, with_armed, may_start, with_started}
use Rattle.cdc_device_machine.specs.Port as cdc
use Rattle.hid_device_machine.specs.Device as hid
use Rattle.midi_device_machine.specs.Port as midi
use Rattle.device_owners.specs.Steps.{StayOpen, OpenNone}
use Rattle.device_owners.proofs.Idle.{calls_stay_open}
use Rattle.device_world.specs.State.{State, Absent, Serial, Human, Music}
use Rattle.device_world.specs.Serial.{pipes_after_work, serial_pipes, pipes_after_call}
use Rattle.device_world.specs.Human as as_human
use Rattle.device_world.specs.Music as as_music
use Rattle.device_world.specs.World.{world_of, rules, calls}

same : (own : Own) → StayOpen own own
same own = calls_stay_open.none own

either : (b : Bool) (own x y : Own) → StayOpen own x → StayOpen own y → StayOpen own (if b then x else y)
either true own x y hx hy = hx
either false own x y hx hy = hy

arming : (own : Own) → StayOpen own (with_armed own)
arming own = either (may_arm own) own (armed own) own (calls_stay_open.arms own) (same own)

starting : (own : Own) → StayOpen own (with_started own 0)
starting own = either (may_start own 0) own (started own 0) own (calls_stay_open.starts own 0) (same own)

-- The serial port.

port_work : (port : cdc.Port) (own : Own) → StayOpen own (cdc.pipes_after_work port own)
port_work port own =
    let ready = with_armed own in
    calls_stay_open.both own ready (cdc.with_end port ready)
    (arming own)
    (either (cdc.owes_empty port ready) ready (started ready 0) ready (calls_stay_open.starts ready 0) (same ready))

port_notice : (interface bits : ℕ) (own : Own) → StayOpen own (cdc.with_notice interface bits own)
port_notice interface bits own =
    let noted = written own 2 (cdc.notification interface bits) in
    either _ own (started noted 2) own (calls_stay_open.both own noted (started noted 2) (calls_stay_open.writes own 2 (cdc.notification interface bits)) (calls_stay_open.starts noted 2)) (same own)

port_open : (interface : ℕ) (own : Own) (c : CdcDeviceCall) → StayOpen own (cdc.open_after_call interface own c)
port_open interface own (Write bytes) = calls_stay_open.writes own 0 bytes.items
port_open interface own (Read most) = calls_stay_open.reads own (cdc.read_size most)
port_open interface own Flush = starting own
port_open interface own Avail = same own
port_open interface own Line = same own
port_open interface own (Notify bits) = port_notice interface bits own

port_call : (interface : ℕ) (own : Own) (c : CdcDeviceCall) → StayOpen own (cdc.pipes_after_call interface own c)
port_call interface own c = either (is_shut own) own own (cdc.open_after_call interface own c) (same own) (port_open interface own c)

serial_work : (s : State) (own : Own) → StayOpen own (pipes_after_work s own)
serial_work (Serial serial) own = port_work serial.port own
serial_work s own = same own

serial_called : (s : State) (own : Own) (c : CdcDeviceCall) → StayOpen own (serial_pipes s own c)
serial_called (Serial serial) own c = port_call serial.interface own c
serial_called s own c = same own

serial_call : (s : State) (own : Own) (asked : DevCall) → StayOpen own (pipes_after_call s own asked)
serial_call s own (call.Cdc c) = serial_called s own c
serial_call s own call.State = same own
serial_call s own (call.Hid c) = same own
serial_call s own (call.Msc c) = same own
serial_call s own (call.Midi c) = same own

-- The keyboard or the mouse.

human_work : (s : State) (own : Own) → StayOpen own (as_human.pipes_after_work s own)
human_work (Human device) own = either _ own (with_armed own) own (arming own) (same own)
human_work s own = same own

reporting : (device : hid.Hid) (own : Own) (bytes : List ℕ) → StayOpen own (hid.with_report device own bytes)
reporting device own bytes =
    let queued = written own 0 bytes in
    either _ own (started queued 0) own (calls_stay_open.both own queued (started queued 0) (calls_stay_open.writes own 0 bytes) (calls_stay_open.starts queued 0)) (same own)

device_open : (device : hid.Hid) (own : Own) (c : HidDeviceCall) → StayOpen own (hid.open_after_call device own c)
device_open device own (human.Report bytes) = reporting device own bytes.items
device_open device own human.Take = either _ own (read own hid.most_taken) own (calls_stay_open.reads own hid.most_taken) (same own)
device_open device own human.Set = same own
device_open device own human.Idle = same own

human_called : (s : State) (own : Own) (c : HidDeviceCall) → StayOpen own (as_human.human_pipes s own c)
human_called (Human device) own c = either _ own own (hid.open_after_call device own c) (same own) (device_open device own c)
human_called s own c = same own

human_call : (s : State) (own : Own) (asked : DevCall) → StayOpen own (as_human.pipes_after_call s own asked)
human_call s own (call.Hid c) = human_called s own c
human_call s own c = same own

-- The MIDI port.

music_work : (s : State) (own : Own) → StayOpen own (as_music.pipes_after_work s own)
music_work (Music port) own = calls_stay_open.both own (with_armed own) (with_started (with_armed own) 0) (arming own) (starting (with_armed own))
music_work s own = same own

music_open : (port : midi.Port) (own : Own) (c : MidiCall) → StayOpen own (midi.open_pipes_after_call port own c)
music_open port own (music.Send bytes) = calls_stay_open.writes own 0 _
music_open port own (music.Recv most) = calls_stay_open.reads own _
music_open port own (music.Bytes most) = calls_stay_open.reads own _

music_called : (s : State) (own : Own) (c : MidiCall) → StayOpen own (as_music.music_pipes s own c)
music_called (Music port) own c = either _ own own (midi.open_pipes_after_call port own c) (same own) (music_open port own c)
music_called s own c = same own

music_call : (s : State) (own : Own) (asked : DevCall) → StayOpen own (as_music.pipes_after_call s own asked)
music_call s own (call.Midi c) = music_called s own c
music_call s own c = same own

-- Each owner's class.

class_work : (o : Owner) (s : State) (own : Own) → StayOpen own ((rules o).pipes_after_work s own)
class_work Core s own = same own
class_work Cdc s own = serial_work s own
class_work Hid s own = human_work s own
class_work Msc s own = same own
class_work Midi s own = music_work s own

class_call : (o : Owner) (s : State) (own : Own) (asked : DevCall) → StayOpen own ((calls o).pipes_after_call s own asked)
class_call Core s own asked = same own
class_call Cdc s own asked = serial_call s own asked
class_call Hid s own asked = human_call s own asked
class_call Msc s own asked = same own
class_call Midi s own asked = music_call s own asked

pub open_none : (set : Set) (blocks : Option ℕ) → OpenNone (world_of set blocks)
open_none set blocks = record { work = λ o s own. class_work o s own; call = λ o s own asked. class_call o s own asked }
