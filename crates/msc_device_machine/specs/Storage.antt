-- A disk behind USB mass storage as a device has it: what it holds, its requests, its work and its calls (Bulk-Only Transport 1.0).
-- What it asks of the disk, and how it goes on by the disk's answer, is told apart, so that it is told for every disk.
use Rattle.std.specs.Prelude.{ℕ, ◌+◌, ◌-◌, ◌*◌, List, [], ◌∷◌, ◌++◌, Bool, true, false, not, ◌==◌, ◌&&◌, ◌||◌, nat_lt, length, take, drop, min, Option, Some, None, if◌then◌else◌}
use Rattle.usb_packet.specs.declared.setup.Setup.{Setup}
use Rattle.usb_pipe.specs.declared.decision.Decision.{Decision}
use Rattle.usb_pipe.specs.declared.decision.Decision.TheVariants as decision
use Rattle.usb_pipe.specs.declared.call.MscDeviceCall.{MscDeviceCall}
use Rattle.usb_pipe.specs.declared.call.MscDeviceCall.TheVariants.{Eject, Insert, Protect}
use Rattle.usb_pipe.specs.declared.reply.Reply.{Reply}
use Rattle.usb_pipe.specs.declared.reply.Reply.TheVariants as reply
use Rattle.usb_pipe.specs.Own.{Own, written, given, read, halted_at, dropped_at}
use Rattle.class_pipes.specs.Pipes.{data_in, data_out, is_shut, may_start, with_started, with_armed}
use Rattle.class_pipes.specs.Requests.{is_request}
use Rattle.usb_edge.specs.Disk.{block_size}
use Rattle.scsi_core.specs.declared.Sense.{Sense}
use Rattle.scsi_core.specs.declared.Unit.{Unit as Disk}
use Rattle.scsi_core.specs.declared.Move.{Move}
use Rattle.scsi_core.specs.declared.Move.TheVariants as move
use Rattle.scsi_core.specs.Sense.{no_sense, sense_of}
use Rattle.scsi_core.specs.Command as scsi
use Rattle.msc_device_machine.specs.declared.transport.Flow.{Flow}
use Rattle.msc_device_machine.specs.declared.transport.Transport.{Transport}
use Rattle.msc_device_machine.specs.declared.transport.Transport.TheVariants.{Command, Broken, Sending, Receiving, Status}
use Rattle.msc_device_machine.specs.declared.transport.Due.{Due}
use Rattle.msc_device_machine.specs.declared.transport.Due.TheVariants as due
use Rattle.msc_device_machine.specs.Wrapper.{Wrapper, wrapper_of, is_good, status_wrapper, passed, failed, phase_error}
use Rattle.msc_device_machine.specs.Cases.{Data, Nothing, ToHost, FromHost, Row, row_for}
use Rattle.msc_device_machine.specs.Disk.{Call}
use Rattle.msc_device_machine.specs.Disk as disk

pub record Storage : Type 0 where
  pub unit : Disk
  pub transport : Transport
  -- the bytes that came of a block that hasn't come whole
  pub block : List ℕ
  -- a transfer for the host was started, and its end isn't known
  pub under_way : Bool
  -- what came about in this task: a packet came, that transfer ended, a class reset
  pub came : Bool
  pub ended : Bool
  pub reset : Bool

-- with this to be done next, and no notes
abbrev pub waiting : Disk → Transport → Storage
waiting unit transport =
    record { unit = unit; transport = transport; block = []; under_way = false; came = false; ended = false; reset = false }

-- At the start: a medium is present where a disk was given, of so many blocks.
abbrev pub first_unit : ℕ → Disk
first_unit blocks =
    record { blocks = blocks; present = not (blocks == 0); protected = false; prevented = false; attention = false; sense = no_sense }

abbrev pub first : ℕ → Storage
first blocks = waiting (first_unit blocks) Command

-- when a session ends, and when one begins. The medium, its protection and an attention outlive a session
abbrev pub stopped : Storage → Storage
stopped s = waiting s.unit Command

abbrev pub anew : Storage → Storage
anew s = waiting (record s.unit { prevented = false; sense = no_sense }) Command

-- Requests (3.1 and 3.2).

abbrev pub is_reset : Setup → Bool
is_reset setup = is_request 0x21 0xff setup && ((setup.value == 0) && (setup.length == 0))

abbrev pub is_max_lun : Setup → Bool
is_max_lun setup = is_request 0xa1 0xfe setup && (setup.value == 0)

-- unit 0 is the last one; those that aren't listed are refused
abbrev pub decided : Setup → Decision
decided setup =
    if is_reset setup then decision.Status
    else (if is_max_lun setup then decision.Data (record { items = 0 ∷ [] }) else decision.Stall)

abbrev pub after_setup : Storage → Setup → Storage
after_setup s setup = if is_reset setup then record s { reset = true } else s

abbrev pub accepts : List ℕ → Bool
accepts bytes = false

-- What it is told of its pipes.

abbrev pub after_came : Storage → ℕ → Storage
after_came s pipe = if pipe == data_out then record s { came = true } else s

-- a transfer ended; or its pipe was cleared, and then all its bytes count as sent
abbrev pub after_end : Storage → ℕ → Storage
after_end s pipe = if (pipe == data_in) && s.under_way then record s { ended = true; under_way = false } else s

-- What a task's work leaves: before the disk was asked, what it is to be asked, and after its answer.
pub record Turn : Type 0 where
  pub storage : Storage
  pub own : Own

pub record Step : Type 0 where
  pub turn : Turn
  pub due : Due

abbrev pub turned : Storage → Own → Turn
turned s own = record { storage = s; own = own }

abbrev pub goes : Turn → Step
goes turn = record { turn = turn; due = due.Nothing }

abbrev pub goes_on : Storage → Own → Due → Step
goes_on s own d = record { turn = turned s own; due = d }

-- The end of a command: the pipe on which bytes are due is halted, and the status wrapper is queued.

abbrev pub with_halt : Own → Option ℕ → Own
with_halt own None = own
with_halt own (Some pipe) = halted_at own pipe

abbrev pub with_status : Turn → ℕ → ℕ → ℕ → Turn
with_status t tag residue status =
    turned (record t.storage { transport = Status; block = [] }) (written t.own data_in (status_wrapper tag residue status))

abbrev pub with_end : Turn → Option ℕ → ℕ → ℕ → ℕ → Turn
with_end t halts tag residue status = with_status (record t { own = with_halt t.own halts }) tag residue status

-- what the host expects: so many bytes in one direction
abbrev pub expected : Bool → ℕ → Data
expected is_in n = if n == 0 then Nothing else (if is_in then ToHost n else FromHost n)

abbrev pub pipe_of : Bool → ℕ
pipe_of is_in = if is_in then data_in else data_out

-- a data stage that went through
abbrev pub flow_row : Bool → Flow → Row
flow_row is_in flow = row_for (expected is_in flow.host) (expected is_in flow.device)

abbrev pub with_flow_done : Turn → Bool → Flow → ℕ → Turn
with_flow_done t is_in flow status =
    with_end t (flow_row is_in flow).halts flow.tag (flow.host - flow.moved) status

-- and one that the disk stopped: bytes are due where the host expects more than were moved
abbrev pub due_pipe : Bool → Flow → Option ℕ
due_pipe is_in flow = if nat_lt flow.moved flow.host then Some (pipe_of is_in) else None

abbrev pub with_flow_cut : Turn → Bool → Flow → ℕ → Turn
with_flow_cut t is_in flow status =
    with_end t (due_pipe is_in flow) flow.tag (flow.host - flow.moved) status

-- The sense of a failed read, and of a failed write or synchronization (SPC-2, table 108).

abbrev pub read_error : Sense
read_error = sense_of 3 0x11

abbrev pub write_error : Sense
write_error = sense_of 3 0x0c

abbrev pub with_sense : Storage → Sense → Storage
with_sense s sense = record s { unit = record s.unit { sense = sense } }

abbrev pub with_fault : Turn → Sense → Turn
with_fault t sense = record t { storage = with_sense t.storage sense }

-- A command wrapper.

-- what the device means to move
abbrev pub intended : Move → Data
intended move.None = Nothing
intended (move.In bytes) = ToHost (length bytes.items)
intended (move.Read lba count) = ToHost (block_size * count)
intended (move.Write lba count) = FromHost (block_size * count)
intended move.Sync = Nothing
intended (move.Fail sense) = Nothing

abbrev pub move_status : Move → ℕ
move_status (move.Fail sense) = failed
move_status move.None = passed
move_status (move.In bytes) = passed
move_status (move.Read lba count) = passed
move_status (move.Write lba count) = passed
move_status move.Sync = passed

-- a data stage of this command
abbrev pub flow_of : Wrapper → ℕ → ℕ → Flow
flow_of w size lba = record { tag = w.tag; host = w.length; device = size; moved = 0; next = lba }

abbrev pub with_data : Turn → Flow → List ℕ → Turn
with_data t flow bytes =
    turned (record t.storage { transport = Sending flow (length bytes) }) (written t.own data_in bytes)

-- a command that moves nothing ends at once; SYNCHRONIZE CACHE asks the disk first
abbrev pub unmoved : Turn → Wrapper → Row → Move → Step
unmoved t w r move.Sync = record { turn = t; due = due.Sync w.tag w.length w.is_in }
unmoved t w r move.None = goes (with_end t r.halts w.tag w.length passed)
unmoved t w r (move.In bytes) = goes (with_end t r.halts w.tag w.length passed)
unmoved t w r (move.Read lba count) = goes (with_end t r.halts w.tag w.length passed)
unmoved t w r (move.Write lba count) = goes (with_end t r.halts w.tag w.length passed)
unmoved t w r (move.Fail sense) = goes (with_end t r.halts w.tag w.length failed)

-- data of its own is queued, a read asks the disk for the first block, and a write waits for bytes
abbrev pub moving : Turn → Wrapper → Row → Move → Step
moving t w r (move.In bytes) = goes (with_data t (flow_of w (length bytes.items) 0) bytes.items)
moving t w r (move.Read lba count) = record { turn = t; due = due.Read (flow_of w (block_size * count) lba) }
moving t w r (move.Write lba count) =
    goes (record t { storage = record t.storage { transport = Receiving (flow_of w (block_size * count) lba) } })
moving t w r move.None = unmoved t w r move.None
moving t w r move.Sync = unmoved t w r move.Sync
moving t w r (move.Fail sense) = unmoved t w r (move.Fail sense)

-- by the row of its case. In a phase error the disk isn't asked
abbrev pub by_row : Turn → Wrapper → Row → Move → Step
by_row t w r m =
    if r.is_phase_error then goes (with_end t r.halts w.tag w.length phase_error)
    else (if r.moves then moving t w r m else unmoved t w r m)

abbrev pub commanded : Turn → Wrapper → Step
commanded t w =
    let outcome = scsi.worked t.storage.unit w.command in
    by_row (record t { storage = record t.storage { unit = outcome.leaves } }) w
    (row_for (expected w.is_in w.length) (intended outcome.moves)) outcome.moves

-- both pipes are halted
abbrev pub shut_off : Own → Own
shut_off own = halted_at (halted_at own data_out) data_in

-- one that isn't good breaks the transport (6.6.1)
abbrev pub wrapped : Turn → List ℕ → Step
wrapped t bytes =
    if is_good bytes then commanded t (wrapper_of bytes)
    else goes (turned (record t.storage { transport = Broken }) (shut_off t.own))

-- Data from the host.

-- the flow with so many more bytes moved
abbrev pub moved_by : Flow → ℕ → Flow
moved_by flow n = record flow { moved = flow.moved + n }

-- a block is written as soon as it is there whole
abbrev pub gathered : Turn → Flow → List ℕ → Bool → Step
gathered t flow bytes is_over =
    let s = record t.storage { block = bytes; transport = Receiving flow } in
    if nat_lt (length bytes) block_size then goes (record t { storage = s })
    else record { turn = record t { storage = s }; due = due.Write flow is_over }

-- a packet: bytes past the device's are dropped
abbrev pub received : Turn → Flow → List ℕ → Step
received t flow bytes =
    let left = flow.device - flow.moved in
    gathered t (moved_by flow (min left (length bytes))) (t.storage.block ++ take left bytes) (nat_lt left (length bytes))

-- a block was written: the next one follows, or the status
abbrev pub stored : Turn → Flow → Bool → Turn
stored t flow is_over =
    if flow.moved == flow.device
    then with_flow_done t false flow (if is_over then phase_error else passed)
    else turned (record t.storage { transport = Receiving (record flow { next = flow.next + 1 }); block = drop block_size t.storage.block }) t.own

-- its write failed: the bytes behind that block don't count
abbrev pub unstored : Turn → Flow → Bool → Turn
unstored t flow is_over =
    with_flow_cut (with_fault t write_error) false
    (record flow { moved = flow.moved - length (drop block_size t.storage.block) })
    (if is_over then phase_error else failed)

-- Data for the host: a transfer ended, and the next block follows, or the status.

abbrev pub sent_on : Turn → Flow → Step
sent_on t flow =
    if flow.moved == flow.device then goes (with_flow_done t true flow passed)
    else record { turn = t; due = due.Read flow }

abbrev pub fetched : Turn → Flow → List ℕ → Turn
fetched t flow block = with_data t (record flow { next = flow.next + 1 }) block

abbrev pub unfetched : Turn → Flow → Turn
unfetched t flow = with_flow_cut (with_fault t read_error) true flow failed

-- The work of a task: what was told in it is taken up.

-- the packet that came
abbrev pub most_packet : ℕ
most_packet = 64

abbrev pub with_packet_read : Own → Own
with_packet_read own = read own most_packet

abbrev pub packet : Own → List ℕ
packet own = given own most_packet

-- the notes of a task are taken
abbrev pub noted : Storage → Storage
noted s = record s { came = false; ended = false; reset = false }

-- what came is a command wrapper, or data; where neither is waited for it is dropped
abbrev pub at_packet : Transport → Turn → List ℕ → Step
at_packet Command t bytes = wrapped t bytes
at_packet (Receiving flow) t bytes = received t flow bytes
at_packet Broken t bytes = goes t
at_packet (Sending flow loaded) t bytes = goes t
at_packet Status t bytes = goes t

-- a transfer of data ended, or the status wrapper went
abbrev pub at_end : Transport → Turn → Step
at_end (Sending flow loaded) t = sent_on t (moved_by flow loaded)
at_end Status t = goes (record t { storage = record t.storage { transport = Command } })
at_end Command t = goes t
at_end Broken t = goes t
at_end (Receiving flow) t = goes t

abbrev pub by_notes : Storage → Own → Step
by_notes s own =
    if s.came then at_packet s.transport (turned (noted s) (with_packet_read own)) (packet own)
    else (if s.ended then at_end s.transport (turned (noted s) own) else goes (turned (noted s) own))

-- once the transport is broken, both pipes stay halted (5.3.4)
abbrev pub unless_broken : Transport → Storage → Own → Step
unless_broken Broken s own = goes (turned (noted s) (shut_off own))
unless_broken Command s own = by_notes s own
unless_broken (Sending flow loaded) s own = by_notes s own
unless_broken (Receiving flow) s own = by_notes s own
unless_broken Status s own = by_notes s own

-- a reset drops the command and all bytes, a packet of the same task among them, and leaves the halts (3.1)
abbrev pub emptied : Own → Own
emptied own = dropped_at (dropped_at own data_out) data_in

abbrev pub taken_up : Storage → Own → Step
taken_up s own =
    if s.reset then goes (turned (waiting s.unit Command) (emptied own)) else unless_broken s.transport s own

-- Then the disk is asked, where something is due there,
abbrev pub asks : Due → Storage → Option Call
asks due.Nothing s = None
asks (due.Read flow) s = Some (disk.Read flow.next)
asks (due.Write flow is_over) s = Some (disk.Write flow.next (take block_size s.block))
asks (due.Sync tag host is_in) s = Some disk.Sync

-- and the command goes on by its answer, which is none where it failed.
abbrev pub synced : Turn → ℕ → ℕ → Bool → Option (List ℕ) → Turn
synced t tag host is_in (Some bytes) = with_end t (row_for (expected is_in host) Nothing).halts tag host passed
synced t tag host is_in None =
    with_end (with_fault t write_error) (row_for (expected is_in host) Nothing).halts tag host failed

abbrev pub read_on : Turn → Flow → Option (List ℕ) → Turn
read_on t flow (Some block) = fetched t flow block
read_on t flow None = unfetched t flow

abbrev pub wrote_on : Turn → Flow → Bool → Option (List ℕ) → Turn
wrote_on t flow is_over (Some bytes) = stored t flow is_over
wrote_on t flow is_over None = unstored t flow is_over

abbrev pub resumed : Turn → Due → Option (List ℕ) → Turn
resumed t due.Nothing answer = t
resumed t (due.Read flow) answer = read_on t flow answer
resumed t (due.Write flow is_over) answer = wrote_on t flow is_over answer
resumed t (due.Sync tag host is_in) answer = synced t tag host is_in answer

-- At last what is queued starts, where its pipe rests, and the next packet is taken, where one is waited for.
abbrev pub wants_packet : Transport → Bool
wants_packet Command = true
wants_packet (Receiving flow) = true
wants_packet Broken = false
wants_packet (Sending flow loaded) = false
wants_packet Status = false

abbrev pub with_packet_wanted : Transport → Own → Own
with_packet_wanted transport own = if wants_packet transport then with_armed own else own

abbrev pub served : Turn → Turn
served t =
    turned (record t.storage { under_way = t.storage.under_way || may_start t.own data_in })
    (with_packet_wanted t.storage.transport (with_started t.own data_in))

-- The whole work, for each answer of the disk. While no session stands nothing is done.

abbrev pub call_of : Storage → Own → Option Call
call_of s own = if is_shut own then None else asks (taken_up s own).due (taken_up s own).turn.storage

abbrev pub worked : Storage → Own → Option (List ℕ) → Turn
worked s own answer =
    if is_shut own then turned s own else served (resumed (taken_up s own).turn (taken_up s own).due answer)

-- Its calls: what a user does to the medium, in a session or not.

abbrev pub call_reply : MscDeviceCall → Reply
call_reply Eject = reply.Done
call_reply Insert = reply.Done
call_reply (Protect on) = reply.Done

-- a medium that is put in is told to the host (SPC-2, 6/28); without a disk there is none to put in
abbrev pub with_medium : Disk → Disk
with_medium unit = if unit.blocks == 0 then unit else record unit { present = true; attention = true }

abbrev pub unit_after : Disk → MscDeviceCall → Disk
unit_after unit Eject = record unit { present = false }
unit_after unit Insert = with_medium unit
unit_after unit (Protect on) = record unit { protected = on }

abbrev pub after_call : Storage → MscDeviceCall → Storage
after_call s c = record s { unit = unit_after s.unit c }
