-- A keyboard or a mouse as a device has it: what it holds, its requests, its work and its calls (HID 1.11).
use Rattle.std.specs.Prelude.{ℕ, ◌/◌, ◌%◌, List, [], ◌∷◌, Bool, false, not, ◌==◌, ◌&&◌, ◌||◌, nat_le, length, map, Option, Some, None, if◌then◌else◌}
use Rattle.usb_packet.specs.declared.setup.Setup.{Setup}
use Rattle.usb_pipe.specs.declared.decision.Decision.{Decision}
use Rattle.usb_pipe.specs.declared.decision.Decision.TheVariants as decision
use Rattle.usb_pipe.specs.declared.call.HidDeviceCall.{HidDeviceCall}
use Rattle.usb_pipe.specs.declared.call.HidDeviceCall.TheVariants.{Report, Take, Set, Idle}
use Rattle.usb_pipe.specs.declared.reply.Reply.{Reply}
use Rattle.usb_pipe.specs.declared.reply.Reply.TheVariants as reply
use Rattle.usb_pipe.specs.Own.{Own, phase_at, held_at, written, given, read, started}
use Rattle.class_pipes.specs.Pipes.{data_in, data_out, is_rest, is_closed, with_armed, start_reply}
use Rattle.class_pipes.specs.Requests.{is_request}
use Rattle.hid_items.specs.declared.ReportLen.{ReportLen}
use Rattle.hid_device_machine.specs.declared.reports.ReportType.{ReportType}
use Rattle.hid_device_machine.specs.declared.reports.ReportType.TheVariants.{Input, Output, Feature}
use Rattle.hid_device_machine.specs.declared.reports.IdReports.{IdReports}
use Rattle.hid_device_machine.specs.declared.reports.SetReport.{SetReport}
use Rattle.hid_device_machine.specs.Reports.{type_of, type_number, may_be_set, has_report, wire_size, blank, id_of, is_input_report, fresh, last_input, with_input, last_set_as, or_else}

pub record Hid : Type 0 where
  -- the reports of each id
  pub rows : List IdReports
  -- the last SET_REPORT
  pub last_set : Option SetReport
  -- the idle rate in units of 4 milliseconds, 0 for ever (7.2.4)
  pub idle : ℕ
  -- 0 is the boot protocol, 1 the report protocol (7.2.6)
  pub protocol : ℕ

-- when a session begins, and while none stands (7.2.4 and 7.2.6)
abbrev pub first : List ReportLen → Hid
first lengths = record { rows = map fresh lengths; last_set = None; idle = 0; protocol = 1 }

-- nothing is left of the session but the lengths, which are the report descriptor's
abbrev pub anew : Hid → Hid
anew hid = first (map (λ (row : IdReports). row.lengths) hid.rows)

-- Requests (7.2): the high byte of wValue is a report's type, an idle rate, the low one an id.

abbrev pub high : Setup → ℕ
high setup = setup.value / 256

abbrev pub low : Setup → ℕ
low setup = setup.value % 256

-- the report of a type and id as it was sent last in the session: an input report by the device, another by the host. Before
-- one it has zeros
abbrev pub last_bytes : Hid → ReportType → ℕ → Option (List ℕ)
last_bytes hid Input id = last_input hid.rows id
last_bytes hid Output id = last_set_as hid.last_set Output id
last_bytes hid Feature id = last_set_as hid.last_set Feature id

abbrev pub bytes_told : Hid → ReportType → ℕ → List ℕ
bytes_told hid t id = or_else (last_bytes hid t id) (blank hid.rows t id)

abbrev pub gives : List ℕ → Decision
gives bytes = decision.Data (record { items = bytes })

-- GET_REPORT (7.2.1): a report that there is
abbrev pub report_told : Hid → Option ReportType → ℕ → Decision
report_told hid None id = decision.Stall
report_told hid (Some t) id = if has_report hid.rows t id then gives (bytes_told hid t id) else decision.Stall

-- SET_REPORT (7.2.2): whether it names a report that there is and that the host may set, with all its bytes, 64 at most
abbrev pub may_set : Hid → Option ReportType → ℕ → ℕ → Bool
may_set hid None id size = false
may_set hid (Some t) id size =
    may_be_set t && (has_report hid.rows t id && ((size == wire_size hid.rows t id) && nat_le size 64))

-- bmRequestType and bRequest (7.2, table of requests)
abbrev pub is_get_report : Setup → Bool
is_get_report setup = is_request 0xa1 0x01 setup

abbrev pub is_get_idle : Setup → Bool
is_get_idle setup = is_request 0xa1 0x02 setup

abbrev pub is_get_protocol : Setup → Bool
is_get_protocol setup = is_request 0xa1 0x03 setup

abbrev pub is_set_report : Setup → Bool
is_set_report setup = is_request 0x21 0x09 setup

abbrev pub is_set_idle : Setup → Bool
is_set_idle setup = is_request 0x21 0x0a setup

abbrev pub is_set_protocol : Setup → Bool
is_set_protocol setup = is_request 0x21 0x0b setup

abbrev pub takes_report : Hid → Setup → Bool
takes_report hid setup = is_set_report setup && may_set hid (type_of (high setup)) (low setup) setup.length

-- SET_IDLE, and SET_PROTOCOL with one of the two protocols (7.2.4 and 7.2.6)
abbrev pub sets_idle : Setup → Bool
sets_idle setup = is_set_idle setup && (setup.length == 0)

abbrev pub sets_protocol : Setup → Bool
sets_protocol setup = is_set_protocol setup && (nat_le setup.value 1 && (setup.length == 0))

-- those that aren't listed are refused
abbrev pub decided : Hid → Setup → Decision
decided hid setup =
    if is_get_report setup then report_told hid (type_of (high setup)) (low setup)
    else (if is_get_idle setup then gives (hid.idle ∷ [])
    else (if is_get_protocol setup then gives (hid.protocol ∷ [])
    else (if takes_report hid setup then decision.Take setup.length
    else (if sets_idle setup || sets_protocol setup then decision.Status else decision.Stall))))

-- what is set by wValue alone: the idle rate by its high byte (7.2.4), and the protocol (7.2.6)
abbrev pub after_setup : Hid → Setup → Hid
after_setup hid setup =
    if sets_idle setup then record hid { idle = high setup }
    else (if sets_protocol setup then record hid { protocol = setup.value } else hid)

-- the data of SET_REPORT is taken where it has all its bytes
abbrev pub accepts : Hid → Setup → List ℕ → Bool
accepts hid setup bytes = takes_report hid setup && (length bytes == setup.length)

abbrev pub set_as : Option ReportType → ℕ → List ℕ → Option SetReport
set_as None id bytes = None
set_as (Some t) id bytes = Some (record { report_type = t; id = id; bytes = record { items = bytes } })

abbrev pub after_data : Hid → Setup → List ℕ → Hid
after_data hid setup bytes =
    if accepts hid setup bytes
    then record hid { last_set = set_as (type_of (high setup)) (low setup) bytes }
    else hid

-- Its work: it takes the next packet where no report is held.

abbrev pub pipes_after_work : Own → Own
pipes_after_work own = if held_at own data_out == 0 then with_armed own else own

-- Its calls.

-- the most bytes of a report that is taken
abbrev pub most_taken : ℕ
most_taken = 64

-- whether a report is held. An empty packet is none, and a device without that pipe holds none
abbrev pub holds_report : Own → Bool
holds_report own = not (is_closed (phase_at own data_out)) && not (held_at own data_out == 0)

abbrev pub take_reply : Own → Reply
take_reply own = if holds_report own then reply.Report (record { items = given own most_taken }) else reply.Nothing

abbrev pub set_reply : Option SetReport → Reply
set_reply None = reply.Nothing
set_reply (Some report) = reply.SetReport (type_number report.report_type) report.bytes

-- a report of another length is refused whatever the pipe does
abbrev pub report_reply : Hid → Own → List ℕ → Reply
report_reply hid own bytes =
    if is_input_report hid.rows bytes then start_reply (phase_at own data_in) else reply.BadLength

abbrev pub open_reply : Hid → Own → HidDeviceCall → Reply
open_reply hid own (Report bytes) = report_reply hid own bytes.items
open_reply hid own Take = take_reply own
open_reply hid own Set = set_reply hid.last_set
open_reply hid own Idle = reply.Idle hid.idle hid.protocol

-- no call does anything while no session stands: then the pipe of input reports, which each such device has (4.4), is closed
abbrev pub is_shut : Own → Bool
is_shut own = is_closed (phase_at own data_in)

abbrev pub call_reply : Hid → Own → HidDeviceCall → Reply
call_reply hid own call = if is_shut own then reply.Closed else open_reply hid own call

-- whether a report starts: it is one, and none is under way
abbrev pub starts_report : Hid → Own → List ℕ → Bool
starts_report hid own bytes = is_rest (phase_at own data_in) && is_input_report hid.rows bytes

abbrev pub with_report : Hid → Own → List ℕ → Own
with_report hid own bytes =
    if starts_report hid own bytes then started (written own data_in bytes) data_in else own

abbrev pub with_taken : Own → Own
with_taken own = if holds_report own then read own most_taken else own

abbrev pub open_after_call : Hid → Own → HidDeviceCall → Own
open_after_call hid own (Report bytes) = with_report hid own bytes.items
open_after_call hid own Take = with_taken own
open_after_call hid own Set = own
open_after_call hid own Idle = own

abbrev pub pipes_after_call : Hid → Own → HidDeviceCall → Own
pipes_after_call hid own call = if is_shut own then own else open_after_call hid own call

-- a report that starts is the last one of its id
abbrev pub after_report : Hid → Own → List ℕ → Hid
after_report hid own bytes =
    if starts_report hid own bytes then record hid { rows = with_input (id_of hid.rows bytes) bytes hid.rows } else hid

abbrev pub after_call : Hid → Own → HidDeviceCall → Hid
after_call hid own (Report bytes) = after_report hid own bytes.items
after_call hid own Take = hid
after_call hid own Set = hid
after_call hid own Idle = hid
