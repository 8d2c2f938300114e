-- What holds of every mass storage device, and what its definitions have to give.
use Rattle.std.specs.Prelude.{◌≡◌, ◌≢◌, ◌↔◌, ◌⊎◌, ⊤, ℕ, ◌-◌, ◌≤◌, List, Bool, true, false, Option, Some, None, if◌then◌else◌}
use Rattle.usb_packet.specs.declared.setup.Setup.{Setup}
use Rattle.usb_pipe.specs.declared.call.MscDeviceCall.{MscDeviceCall}
use Rattle.usb_pipe.specs.Own.{Own}
use Rattle.usb_edge.specs.Stream.{counted}
use Rattle.usb_edge.specs.Disk.{Shelf, block_size}
use Rattle.scsi_core.specs.declared.Sense.{Sense}
use Rattle.scsi_core.specs.Command as scsi
use Rattle.msc_device_machine.specs.declared.transport.Due.TheVariants as due
use Rattle.msc_device_machine.specs.Wrapper.{Wrapper}
use Rattle.msc_device_machine.specs.Cases.{Data, Nothing, ToHost, FromHost, Row, row_for}
use Rattle.msc_device_machine.specs.Disk.{Call, Read, Write, Sync}
use Rattle.msc_device_machine.specs.Device.{Device, after_work}
use Rattle.msc_device_machine.specs.Storage.{Storage, Turn, first, stopped, anew, after_setup, after_came, after_end, expected, intended, pipe_of, commanded, read_error, write_error, wants_packet, call_of, worked, after_call}
use Rattle.msc_device_machine.specs.Runs as runs
use Rattle.msc_device_machine.specs.Runs.{in_of, out_of, is_armed, is_running, after_turns, made}
use Rattle.msc_device_machine.specs.Sound.{IsSound, LiesOn, IsAnswer}

-- What always holds.

abbrev pub BeginsSound : Type 0
BeginsSound = (blocks : ℕ) → IsSound (first blocks)

-- requests, calls, notes of the pipes, and sessions
abbrev pub KeepsSound : Type 0
KeepsSound =
    (s : Storage) (setup : Setup) (call : MscDeviceCall) (pipe : ℕ) → IsSound s
    → IsSound (stopped s) × IsSound (anew s) × IsSound (after_setup s setup) × IsSound (after_call s call)
    × IsSound (after_came s pipe) × IsSound (after_end s pipe)

-- the work, whatever the disk answers; no disk grows
abbrev pub WorksSound : Type 0
WorksSound =
    (s : Storage) (own : Own) (answer : Option (List ℕ)) → IsSound s → IsAnswer (call_of s own) answer
    → IsSound (worked s own answer).storage × ((worked s own answer).storage.unit.blocks ≡ s.unit.blocks)

abbrev pub AsksWithin : Type 0
AsksWithin = (s : Storage) (own : Own) → IsSound s → LiesOn s.unit.blocks (call_of s own)

-- The thirteen cases (Bulk-Only Transport 1.0, 6.7), in words of their own: how much each side means to move, and which way.

abbrev pub size_of : Data → ℕ
size_of Nothing = 0
size_of (ToHost n) = n
size_of (FromHost n) = n

-- what the device means to move is what the host has room for, or sends: nothing, or no more, the same way
abbrev pub Agrees : Data → Data → Type 0
Agrees host Nothing = ⊤
Agrees Nothing (ToHost d) = ⊥
Agrees Nothing (FromHost d) = ⊥
Agrees (ToHost h) (ToHost d) = d ≤ h
Agrees (ToHost h) (FromHost d) = ⊥
Agrees (FromHost h) (ToHost d) = ⊥
Agrees (FromHost h) (FromHost d) = d ≤ h

abbrev pub Means : Data → Type 0
Means Nothing = ⊥
Means (ToHost n) = ⊤
Means (FromHost n) = ⊤

-- a phase error stands exactly where the two don't agree; data is moved exactly where they do and there is any
abbrev pub CasesAgree : Type 0
CasesAgree =
    (host device : Data)
    → (((row_for host device).is_phase_error ≡ false) ↔ Agrees host device)
    × (((row_for host device).moves ≡ true) ↔ (Agrees host device × Means device))

-- so a phase error moves nothing, and what moves is no more than the host expects
abbrev pub MovesNoMore : Type 0
MovesNoMore =
    (host device : Data)
    → ((row_for host device).is_phase_error ≡ true → (row_for host device).moves ≡ false)
    × ((row_for host device).moves ≡ true → size_of device ≤ size_of host)

-- the host's pipe is halted exactly where bytes are due on it
abbrev pub residue_of : Row → Data → Data → ℕ
residue_of r host device = size_of host - (if r.moves then size_of device else 0)

abbrev pub HaltsWhatIsDue : Type 0
HaltsWhatIsDue =
    (is_in : Bool) (n : ℕ) (device : Data)
    → let host = expected is_in n in let r = row_for host device in
    (residue_of r host device ≢ 0 → r.halts ≡ Some (pipe_of is_in)) × (residue_of r host device ≡ 0 → r.halts ≡ None)

-- What the disk is asked.

-- in a phase error nothing
abbrev pub NothingInPhaseErrors : Type 0
NothingInPhaseErrors =
    (t : Turn) (w : Wrapper)
    → (row_for (expected w.is_in w.length) (intended (scsi.worked t.storage.unit w.command).moves)).is_phase_error ≡ true
    → (commanded t w).due ≡ due.Nothing

-- in one task at most one call is made
abbrev pub OneCall : Type 0
OneCall =
    (d : Device) (own : Own)
    → (((after_work d own).shelf ≡ d.shelf) ⊎ ((after_work d own).shelf.calls ≡ counted d.shelf.calls))
    × ((after_work d own).shelf.fails ≡ d.shelf.fails)

-- The sense of a fault of the disk (key 3) is told only where it failed, and by what it was asked.
abbrev pub fault_of : Call → Sense
fault_of (Read lba) = read_error
fault_of (Write lba block) = write_error
fault_of Sync = write_error

abbrev pub FaultsAreTold : Type 0
FaultsAreTold =
    (s : Storage) (own : Own) (answer : Option (List ℕ)) → IsSound s
    → ((call : Call) → call_of s own ≡ Some call → answer ≡ None → (worked s own answer).storage.unit.sense ≡ fault_of call)
    × ((worked s own answer).storage.unit.sense.key ≡ 3
    → (s.unit.sense.key ≡ 3) ⊎ ((call : Call) × (call_of s own ≡ Some call) × (answer ≡ None)))

-- What the pipes do in a run, from a device on that was just made.

-- a packet is taken only where one is waited for, a command wrapper or data, and never beside a transfer for the host
abbrev pub PacketsAreWaitedFor : Type 0
PacketsAreWaitedFor =
    (blocks : ℕ) (own : Own) (shelf : Shelf) (turns : List runs.Turn) → block_size ≤ own.sends.capacity
    → let run = after_turns (made blocks own shelf) turns in
    (is_armed (out_of run).phase ≡ true → wants_packet run.storage.transport ≡ true)
    × (is_running (in_of run).phase ≡ true → is_armed (out_of run).phase ≡ false)
