-- What holds of every keyboard and mouse, and what its definitions have to give.
use Rattle.std.specs.Prelude.{◌≡◌, ◌≢◌, ◌⊎◌, ℕ, ◌+◌, ◌*◌, ◌<◌, ◌≤◌, List, [], ◌∷◌, ◌++◌, IsTrue, true, false, length, map, replicate}
use Rattle.usb_packet.specs.declared.setup.Setup.{Setup}
use Rattle.usb_pipe.specs.declared.decision.Decision.TheVariants as decision
use Rattle.usb_pipe.specs.declared.phase.Phase.TheVariants.{Closed, Rest, Running, Posted, Halted}
use Rattle.usb_pipe.specs.declared.call.HidDeviceCall.{HidDeviceCall}
use Rattle.usb_pipe.specs.declared.call.HidDeviceCall.TheVariants.{Report, Take, Set, Idle}
use Rattle.usb_pipe.specs.declared.reply.Reply.TheVariants as reply
use Rattle.usb_pipe.specs.Own.{Own, phase_at, held_at, capacity_at, armed}
use Rattle.device_pipe.specs.InPipe as inward
use Rattle.device_pipe.specs.InPipe.{InPhase, cut}
use Rattle.hid_items.specs.declared.ReportLen.{ReportLen}
use Rattle.hid_items.specs.Lengths.{id_bytes}
use Rattle.hid_device_machine.specs.declared.reports.ReportType.{ReportType}
use Rattle.hid_device_machine.specs.declared.reports.ReportType.TheVariants.{Input}
use Rattle.hid_device_machine.specs.declared.reports.IdReports.{IdReports}
use Rattle.hid_device_machine.specs.Reports.{type_number, has_report, wire_size, length_in, blank, is_input_report}
use Rattle.hid_device_machine.specs.Device.{Hid, first, anew, decided, after_setup, accepts, after_data, pipes_after_work, call_reply, after_call, pipes_after_call}
use Rattle.hid_device_machine.specs.Session.{Event, begun, after_all, came, taken, waiting, ArePackets, queued, last_or, in_of}

-- Requests of HID 1.11, 7.2, with a report's type and id, or an idle rate and an id, in wValue.

abbrev pub request : ℕ → ℕ → ℕ → ℕ → ℕ → Setup
request kind code value interface size =
    record { request_type = kind; request = code; value = value; index = interface; length = size }

abbrev pub get_report : ℕ → ℕ → ReportType → ℕ → Setup
get_report interface size t id = request 0xa1 0x01 (256 * type_number t + id) interface size

abbrev pub set_report : ℕ → ℕ → ReportType → ℕ → Setup
set_report interface size t id = request 0x21 0x09 (256 * type_number t + id) interface size

abbrev pub get_idle : ℕ → ℕ → ℕ → Setup
get_idle interface size id = request 0xa1 0x02 id interface size

abbrev pub set_idle : ℕ → ℕ → ℕ → Setup
set_idle interface rate id = request 0x21 0x0a (256 * rate + id) interface 0

abbrev pub get_protocol : ℕ → ℕ → Setup
get_protocol interface size = request 0xa1 0x03 0 interface size

abbrev pub set_protocol : ℕ → ℕ → Setup
set_protocol interface protocol = request 0x21 0x0b protocol interface 0

abbrev pub Tells : Hid → Setup → List ℕ → Type 0
Tells hid setup bytes = decided hid setup ≡ decision.Data (record { items = bytes })

-- Reports from the host.

-- In a session, whatever happens in it and in whichever order, the calls give the reports that came, each once, whole and in
-- their order, but for one that still waits. An empty packet is no report.
abbrev pub ReportsComeOnce : Type 0
ReportsComeOnce =
    (lengths : List ReportLen) (own : Own) (events : List Event) → ArePackets events
    → came (begun lengths own) events
    ≡ taken (begun lengths own) events ++ waiting (after_all (begun lengths own) events)

-- where 64 bytes have room, the pipe takes a packet exactly where it rests and holds nothing
abbrev pub ArmsForAReport : Type 0
ArmsForAReport =
    (own : Own) → capacity_at own 1 ≡ 64
    → (phase_at own 1 ≡ Rest → held_at own 1 ≡ 0 → pipes_after_work own ≡ armed own)
    × ((phase_at own 1 ≢ Rest) ⊎ (held_at own 1 ≢ 0) → pipes_after_work own ≡ own)

-- Reports for the host.

-- GET_REPORT gives the input report of an id that was started last in the session, and zeros behind its id before one
-- (HID 1.11, 7.2.1)
abbrev pub LastReportIsTold : Type 0
LastReportIsTold =
    (lengths : List ReportLen) (own : Own) (events : List Event) (interface size id : ℕ) → id < 256
    → let start = begun lengths own in
    IsTrue (has_report start.hid.rows Input id)
    → Tells (after_all start events).hid (get_report interface size Input id)
    (last_or (blank start.hid.rows Input id) (queued id start events))

-- zeros are as many as the report has bytes, and the id stands in front of them where reports have ids
abbrev pub BlankReports : Type 0
BlankReports =
    (rows : List IdReports) (t : ReportType)
    → (blank rows t 0 ≡ replicate (length_in rows t 0) 0)
    × ((id : ℕ) → id ≢ 0 → blank rows t id ≡ id ∷ replicate (length_in rows t id) 0)

-- what a call with an input report is answered: by its length first, then by what the pipe does
pub record AnswersToReport (hid : Hid) (own : Own) (bytes : List ℕ) : Type 0 where
  pub badlength : is_input_report hid.rows bytes ≡ false → call_reply hid own (Report (record { items = bytes })) ≡ reply.BadLength
  pub done : IsTrue (is_input_report hid.rows bytes) → phase_at own 0 ≡ Rest → call_reply hid own (Report (record { items = bytes })) ≡ reply.Done
  pub busy : IsTrue (is_input_report hid.rows bytes) → (phase_at own 0 ≡ Running) ⊎ (phase_at own 0 ≡ Posted) → call_reply hid own (Report (record { items = bytes })) ≡ reply.Busy
  pub halted : IsTrue (is_input_report hid.rows bytes) → phase_at own 0 ≡ Halted → call_reply hid own (Report (record { items = bytes })) ≡ reply.Halted

abbrev pub ReportsAreAnswered : Type 0
ReportsAreAnswered = (hid : Hid) (own : Own) (bytes : List ℕ) → phase_at own 0 ≢ Closed → AnswersToReport hid own bytes

-- a transfer is one report: while one runs nothing else is queued, and while none does nothing is
abbrev pub IsOneReport : InPhase → List ℕ → Type 0
IsOneReport (inward.Running n left) bytes = n ≡ length bytes
IsOneReport inward.Closed bytes = bytes ≡ []
IsOneReport inward.Rest bytes = bytes ≡ []
IsOneReport (inward.Posted n) bytes = bytes ≡ []

abbrev pub ReportsGoAlone : Type 0
ReportsGoAlone =
    (lengths : List ReportLen) (own : Own) (events : List Event)
    → let s = after_all (begun lengths own) events in IsOneReport (in_of s).phase (in_of s).queue

-- so the packets of a report that starts are its own, cut by the endpoint's size, where the queue has room for it
abbrev pub ReportsStart : Type 0
ReportsStart =
    (lengths : List ReportLen) (own : Own) (events : List Event) (bytes : List ℕ)
    → let s = after_all (begun lengths own) events in
    length bytes ≤ s.own.sends.capacity → IsTrue (is_input_report s.hid.rows bytes) → phase_at s.own 0 ≡ Rest
    → let after = (pipes_after_call s.hid s.own (Report (record { items = bytes }))).sends in
    (after.pipe.queue ≡ bytes) × (after.pipe.phase ≡ inward.Running (length bytes) (cut s.own.sends.size bytes))

-- Requests.

-- SET_REPORT (HID 1.11, 7.2.2): of an output or feature report that there is, with all its bytes, is taken, is told by the call and
-- by GET_REPORT, and sets nothing else
abbrev pub SetReportIsTold : Type 0
SetReportIsTold =
    (hid : Hid) (own : Own) (interface size id : ℕ) (t : ReportType) (bytes : List ℕ)
    → id < 256 → t ≢ Input → phase_at own 0 ≢ Closed → IsTrue (has_report hid.rows t id) → length bytes ≡ wire_size hid.rows t id → length bytes ≤ 64
    → let setup = set_report interface (length bytes) t id in
    (decided hid setup ≡ decision.Take (length bytes))
    × (accepts hid setup bytes ≡ true)
    × Tells (after_data hid setup bytes) (get_report interface size t id) bytes
    × (call_reply (after_data hid setup bytes) own Set ≡ reply.SetReport (type_number t) (record { items = bytes }))
    × (after_data hid setup bytes ≡ record hid { last_set = (after_data hid setup bytes).last_set })

-- data of another length than the request said is refused, and what is refused changes nothing
abbrev pub OtherDataIsRefused : Type 0
OtherDataIsRefused =
    (hid : Hid) (setup : Setup) (bytes : List ℕ)
    → (length bytes ≢ setup.length → accepts hid setup bytes ≡ false)
    × (accepts hid setup bytes ≡ false → after_data hid setup bytes ≡ hid)
    × (IsTrue (accepts hid setup bytes) → decided hid setup ≡ decision.Take (length bytes))

-- SET_IDLE (7.2.4): the rate is the high byte, and is told by GET_IDLE and by the call; nothing else is set
abbrev pub IdleIsTold : Type 0
IdleIsTold =
    (hid : Hid) (own : Own) (interface size rate id other : ℕ) → id < 256 → phase_at own 0 ≢ Closed
    → let setup = set_idle interface rate id in
    let set = after_setup hid setup in
    (decided hid setup ≡ decision.Status) × Tells set (get_idle interface size other) (rate ∷ [])
    × (call_reply set own Idle ≡ reply.Idle rate hid.protocol) × (set ≡ record hid { idle = rate })

-- SET_PROTOCOL (7.2.6): likewise, with 0 or 1
abbrev pub ProtocolIsTold : Type 0
ProtocolIsTold =
    (hid : Hid) (own : Own) (interface size protocol : ℕ) → protocol < 2 → phase_at own 0 ≢ Closed
    → let setup = set_protocol interface protocol in
    let set = after_setup hid setup in
    (decided hid setup ≡ decision.Status) × Tells set (get_protocol interface size) (protocol ∷ [])
    × (call_reply set own Idle ≡ reply.Idle hid.idle protocol) × (set ≡ record hid { protocol = protocol })

-- A session begins with nothing of the one before: no SET_REPORT, no input report, the idle rate 0 and the report protocol.
abbrev pub BeginsAnew : Type 0
BeginsAnew =
    (hid : Hid) (own : Own) (interface size id : ℕ) (t : ReportType)
    → id < 256 → phase_at own 0 ≢ Closed
    → (anew hid ≡ first (map (λ (row : IdReports). row.lengths) hid.rows))
    × (call_reply (anew hid) own Set ≡ reply.Nothing)
    × (call_reply (anew hid) own Idle ≡ reply.Idle 0 1)
    × (IsTrue (has_report hid.rows t id) → Tells (anew hid) (get_report interface size t id) (blank hid.rows t id))

-- a request that is refused sets nothing at its SETUP packet
abbrev pub Refuses : Hid → Setup → Type 0
Refuses hid setup = (decided hid setup ≡ decision.Stall) × (after_setup hid setup ≡ hid)

-- Refused is each request that isn't one of the six (7.2), and of these what a condition keeps away.
pub record OthersAreRefused : Type 0 where
  pub unlisted : (hid : Hid) (setup : Setup)
      → (setup.request_type ≢ 0xa1) ⊎ ((setup.request ≢ 1) × (setup.request ≢ 2) × (setup.request ≢ 3))
      → (setup.request_type ≢ 0x21) ⊎ ((setup.request ≢ 9) × (setup.request ≢ 10) × (setup.request ≢ 11))
      → Refuses hid setup
  -- reports that there aren't
  pub get_none : (hid : Hid) (interface size id : ℕ) (t : ReportType) → id < 256 → length_in hid.rows t id ≡ 0
      → Refuses hid (get_report interface size t id)
  pub set_none : (hid : Hid) (interface size id : ℕ) (t : ReportType) → id < 256 → length_in hid.rows t id ≡ 0
      → Refuses hid (set_report interface size t id)
  -- other types than input, output and feature
  pub get_type : (hid : Hid) (interface size t id : ℕ) → id < 256 → t ≢ 1 → t ≢ 2 → t ≢ 3
      → Refuses hid (request 0xa1 1 (256 * t + id) interface size)
  pub set_type : (hid : Hid) (interface size t id : ℕ) → id < 256 → t ≢ 1 → t ≢ 2 → t ≢ 3
      → Refuses hid (request 0x21 9 (256 * t + id) interface size)
  -- SET_REPORT of an input report, with another length than the report's with its id, and of more than 64 bytes
  pub set_input : (hid : Hid) (interface size id : ℕ) → id < 256 → Refuses hid (set_report interface size Input id)
  pub set_size : (hid : Hid) (interface size id : ℕ) (t : ReportType) → id < 256
      → size ≢ id_bytes id + length_in hid.rows t id → Refuses hid (set_report interface size t id)
  pub set_long : (hid : Hid) (interface size id : ℕ) (t : ReportType) → id < 256 → 64 < size → Refuses hid (set_report interface size t id)
  -- SET_IDLE and SET_PROTOCOL with data, and another protocol
  pub idle_data : (hid : Hid) (interface value size : ℕ) → size ≢ 0 → Refuses hid (request 0x21 10 value interface size)
  pub protocol_data : (hid : Hid) (interface value size : ℕ) → size ≢ 0 → Refuses hid (request 0x21 11 value interface size)
  pub protocol_other : (hid : Hid) (interface value size : ℕ) → 1 < value → Refuses hid (request 0x21 11 value interface size)

-- nor does one that has data of its own or gives some
abbrev pub SetupKeeps : Type 0
SetupKeeps = (hid : Hid) (setup : Setup) → decided hid setup ≢ decision.Status → after_setup hid setup ≡ hid

-- Calls.

abbrev pub ClosedCallsDoNothing : Type 0
ClosedCallsDoNothing =
    (hid : Hid) (own : Own) (call : HidDeviceCall) → phase_at own 0 ≡ Closed
    → (call_reply hid own call ≡ reply.Closed) × (pipes_after_call hid own call ≡ own) × (after_call hid own call ≡ hid)

-- the pipes that a call leaves as they are
abbrev pub KeepsOthers : HidDeviceCall → Own → Own → Type 0
KeepsOthers (Report bytes) old new = (new.receives ≡ old.receives) × (new.notifies ≡ old.notifies)
KeepsOthers Take old new = (new.sends ≡ old.sends) × (new.notifies ≡ old.notifies)
KeepsOthers Set old new = new ≡ old
KeepsOthers Idle old new = new ≡ old

abbrev pub CallsHaveTheirPipes : Type 0
CallsHaveTheirPipes =
    (hid : Hid) (own : Own) (call : HidDeviceCall) → KeepsOthers call own (pipes_after_call hid own call)

-- a report that isn't started leaves pipes and reports as they were
abbrev pub RefusedReportsDoNothing : Type 0
RefusedReportsDoNothing =
    (hid : Hid) (own : Own) (bytes : List ℕ)
    → let call : HidDeviceCall = Report (record { items = bytes }) in
    call_reply hid own call ≢ reply.Done → (after_call hid own call ≡ hid) × (pipes_after_call hid own call ≡ own)
