-- The report of an id that was queued last.
use Rattle.std.proofs.Common.{◌≡◌, ◌≤◌, ℕ, ◌/◌, ◌++◌, List, [], ◌∷◌, Bool, true, false, if◌then◌else◌, length, refl, sym, ap, subst, ◌∙◌, arith, true≢false}
use Rattle.std.specs.Prelude.{◌==◌, ◌&&◌, Some, None, map, nat_le}
use Rattle.std.proofs.lemmas.Bool.Decides.{nat_tests}
use Rattle.std.proofs.lemmas.Bool.{eqb-true}
use Rattle.hid_items.specs.declared.ReportLen.{ReportLen}
use Rattle.usb_pipe.specs.declared.phase.Phase.{Phase}
use Rattle.usb_pipe.specs.declared.phase.Phase.TheVariants as phase
use Rattle.usb_pipe.specs.declared.reply.Reply.TheVariants as reply
use Rattle.usb_pipe.specs.declared.call.HidDeviceCall.{HidDeviceCall}
use Rattle.usb_pipe.specs.declared.call.HidDeviceCall.TheVariants as call
use Rattle.usb_packet.specs.declared.setup.Setup.{Setup}
use Rattle.usb_pipe.specs.Own.{Own, phase_at}
use Rattle.class_pipes.specs.Pipes.{is_rest, is_closed, start_reply}
use Rattle.hid_device_machine.specs.declared.reports.ReportType.{ReportType}
use Rattle.hid_device_machine.specs.declared.reports.ReportType.TheVariants.{Input}
use Rattle.hid_device_machine.specs.declared.reports.IdReports.{IdReports}
use Rattle.hid_device_machine.specs.Reports.{length_in, has_report, blank, id_of, is_input_report, fresh, last_input, with_input, or_else, wire_size}
use Rattle.hid_device_machine.specs.Device.{Hid, starts_report, after_call, after_data, sets_idle, sets_protocol, accepts}
use Rattle.hid_device_machine.specs.Session.{Session, Event, Packet, Token, Irq, Task, Asks, Requests, Sends, HaltsIn, ClearsIn, HaltsOut, ClearsOut, after, after_all, queued, queued_at, queued_by, is_done, last_or}

-- Rows keep their lengths.
length_put : (id other : ℕ) (bytes : List ℕ) (rows : List IdReports) (t : ReportType) → length_in (with_input id bytes rows) t other ≡ length_in rows t other
length_put id other bytes [] t = refl
length_put id other bytes (row ∷ rows) t = by (row.lengths.id == id) (length_put id other bytes rows t)
  where
    by : (b : Bool) → length_in (with_input id bytes rows) t other ≡ length_in rows t other →
        length_in (if b then record row { last_input = Some (record { items = bytes }) } ∷ rows else row ∷ with_input id bytes rows) t other ≡ length_in (row ∷ rows) t other
    by true e = refl
    by false e = rw e refl

-- the report that is put there is found, where there is one of its id
input_put : (id : ℕ) (bytes : List ℕ) (rows : List IdReports) → 1 ≤ length_in rows Input id → last_input (with_input id bytes rows) id ≡ Some bytes
input_put id bytes [] h = absurd (omega arith)
input_put id bytes (row ∷ rows) h = by (row.lengths.id == id) refl (λ k. input_put id bytes rows k) h
  where
    by : (b : Bool) → (row.lengths.id == id) ≡ b → (1 ≤ length_in rows Input id → last_input (with_input id bytes rows) id ≡ Some bytes) → 1 ≤ (if b then row.lengths.input else length_in rows Input id) →
        last_input (if b then record row { last_input = Some (record { items = bytes }) } ∷ rows else row ∷ with_input id bytes rows) id ≡ Some bytes
    by true e f h = rw e refl
    by false e f h = rw e (f h)

-- and those of other ids stay
input_beside : (id other : ℕ) (bytes : List ℕ) (rows : List IdReports) → (id == other) ≡ false → last_input (with_input id bytes rows) other ≡ last_input rows other
input_beside id other bytes [] n = refl
input_beside id other bytes (row ∷ rows) n = by (row.lengths.id == id) refl (input_beside id other bytes rows n)
  where
    by : (b : Bool) → (row.lengths.id == id) ≡ b → last_input (with_input id bytes rows) other ≡ last_input rows other →
        last_input (if b then record row { last_input = Some (record { items = bytes }) } ∷ rows else row ∷ with_input id bytes rows) other ≡ last_input (row ∷ rows) other
    by true e f = let differs : (row.lengths.id == other) ≡ false = rw (eqb-true row.lengths.id id e) n in rw differs refl
    by false e f = rw f refl

-- What GET_REPORT gives of input reports, by the rows.
abbrev told_in : List IdReports → ℕ → List ℕ
told_in rows id = or_else (last_input rows id) (blank rows Input id)

told_same : (id : ℕ) (bytes : List ℕ) (rows : List IdReports) → 1 ≤ length_in rows Input id → told_in (with_input id bytes rows) id ≡ bytes
told_same id bytes rows h = let e = input_put id bytes rows h in rw e refl

told_beside : (id other : ℕ) (bytes : List ℕ) (rows : List IdReports) → (id == other) ≡ false → told_in (with_input id bytes rows) other ≡ told_in rows other
told_beside id other bytes rows n =
    let e = input_beside id other bytes rows n in let f = length_put id other bytes rows Input in rw (e, f) refl

-- A report starts exactly where the call says so.
pub done_at : (p : Phase) (b : Bool) → is_done (if is_closed p then reply.Closed else (if b then start_reply p else reply.BadLength)) ≡ is_rest p && b
done_at phase.Closed b = refl
done_at phase.Rest true = refl
done_at phase.Rest false = refl
done_at phase.Running true = refl
done_at phase.Running false = refl
done_at phase.Posted true = refl
done_at phase.Posted false = refl
done_at phase.Halted true = refl
done_at phase.Halted false = refl
done_at phase.Dead true = refl
done_at phase.Dead false = refl
done_at phase.Clearing true = refl
done_at phase.Clearing false = refl

abbrev report_if : Bool → List ℕ → List (List ℕ)
report_if b bytes = if b then bytes ∷ [] else []

and-right : (a b : Bool) → a && b ≡ true → b ≡ true
and-right true b e = e
and-right false b e = elim (true≢false (sym e)) [ ]

and-left : (a b : Bool) → a && b ≡ true → a ≡ true
and-left true b e = refl
and-left false b e = e

at_least : (n : ℕ) → nat_le 1 n ≡ true → 1 ≤ n
at_least n e = grind (arith, nat_tests)

there_is : (rows : List IdReports) (bytes : List ℕ) → is_input_report rows bytes ≡ true → 1 ≤ length_in rows Input (id_of rows bytes)
there_is rows bytes e =
    at_least (length_in rows Input (id_of rows bytes))
    (and-left (has_report rows Input (id_of rows bytes)) (length bytes == wire_size rows Input (id_of rows bytes)) e)

-- what one call leaves, by whether it starts a report and whether that has this id
told_after : (id : ℕ) (bytes : List ℕ) (hid : Hid) (b c : Bool) → (b ≡ true → 1 ≤ length_in hid.rows Input (id_of hid.rows bytes)) → (id_of hid.rows bytes == id) ≡ c →
    last_or (told_in hid.rows id) (report_if (b && c) bytes)
    ≡ told_in (if b then record hid { rows = with_input (id_of hid.rows bytes) bytes hid.rows } else hid).rows id
told_after id bytes hid false c h e = refl
told_after id bytes hid true false h e = sym (told_beside (id_of hid.rows bytes) id bytes hid.rows e)
told_after id bytes hid true true h e =
    let same = eqb-true (id_of hid.rows bytes) id e in
    let P : ℕ → Type 0 = λ n. bytes ≡ told_in (with_input (id_of hid.rows bytes) bytes hid.rows) n in
    subst P same (sym (told_same (id_of hid.rows bytes) bytes hid.rows (h refl)))

call_told : (id : ℕ) (s : Session) (c : HidDeviceCall) → last_or (told_in s.hid.rows id) (queued_by id s c) ≡ told_in (after_call s.hid s.own c).rows id
call_told id s (call.Report bytes) =
    let done = done_at (phase_at s.own 0) (is_input_report s.hid.rows bytes.items) in
    ap (λ b. last_or (told_in s.hid.rows id) (report_if (b && (id_of s.hid.rows bytes.items == id)) bytes.items)) done
    ∙ told_after id bytes.items s.hid (starts_report s.hid s.own bytes.items) (id_of s.hid.rows bytes.items == id)
    (λ e. there_is s.hid.rows bytes.items (and-right (is_rest (phase_at s.own 0)) (is_input_report s.hid.rows bytes.items) e)) refl
call_told id s call.Take = refl
call_told id s call.Set = refl
call_told id s call.Idle = refl

setup_rows : (hid : Hid) (setup : Setup) (b c : Bool) → (if b then record hid { idle = setup.value / 256 } else (if c then record hid { protocol = setup.value } else hid)).rows ≡ hid.rows
setup_rows hid setup true c = refl
setup_rows hid setup false true = refl
setup_rows hid setup false false = refl

data_rows : (hid : Hid) (setup : Setup) (bytes : List ℕ) (b : Bool) → accepts hid setup bytes ≡ b → (after_data hid setup bytes).rows ≡ hid.rows
data_rows hid setup bytes true e = rw e refl
data_rows hid setup bytes false e = rw e refl

event_told : (id : ℕ) (s : Session) (e : Event) → last_or (told_in s.hid.rows id) (queued_at id s e) ≡ told_in (after s e).hid.rows id
event_told id s (Packet toggle bytes) = refl
event_told id s (Token ok) = refl
event_told id s Irq = refl
event_told id s Task = refl
event_told id s (Asks c) = call_told id s c
event_told id s (Requests setup) = ap (λ rows. told_in rows id) (sym (setup_rows s.hid setup (sets_idle setup) (sets_protocol setup)))
event_told id s (Sends setup bytes) = ap (λ rows. told_in rows id) (sym (data_rows s.hid setup bytes (accepts s.hid setup bytes) refl))
event_told id s HaltsIn = refl
event_told id s ClearsIn = refl
event_told id s HaltsOut = refl
event_told id s ClearsOut = refl

last_of-append : (before : List ℕ) (xs ys : List (List ℕ)) → last_or before (xs ++ ys) ≡ last_or (last_or before xs) ys
last_of-append before [] ys = refl
last_of-append before (x ∷ xs) ys = last_of-append x xs ys

pub all_told : (id : ℕ) (s : Session) (events : List Event) → last_or (told_in s.hid.rows id) (queued id s events) ≡ told_in (after_all s events).hid.rows id
all_told id s [] = refl
all_told id s (e ∷ events) =
    let next = after s e in
    last_of-append (told_in s.hid.rows id) (queued_at id s e) (queued id next events)
    ∙ ap (λ before. last_or before (queued id next events)) (event_told id s e)
    ∙ all_told id next events

-- All rows keep their lengths.
call_length : (hid : Hid) (own : Own) (c : HidDeviceCall) (t : ReportType) (id : ℕ) → length_in (after_call hid own c).rows t id ≡ length_in hid.rows t id
call_length hid own (call.Report bytes) t id = by (starts_report hid own bytes.items)
  where
    by : (b : Bool) → length_in (if b then record hid { rows = with_input (id_of hid.rows bytes.items) bytes.items hid.rows } else hid).rows t id ≡ length_in hid.rows t id
    by true = length_put (id_of hid.rows bytes.items) id bytes.items hid.rows t
    by false = refl
call_length hid own call.Take t id = refl
call_length hid own call.Set t id = refl
call_length hid own call.Idle t id = refl

event_length : (s : Session) (e : Event) (t : ReportType) (id : ℕ) → length_in (after s e).hid.rows t id ≡ length_in s.hid.rows t id
event_length s (Packet toggle bytes) t id = refl
event_length s (Token ok) t id = refl
event_length s Irq t id = refl
event_length s Task t id = refl
event_length s (Asks c) t id = call_length s.hid s.own c t id
event_length s (Requests setup) t id = ap (λ rows. length_in rows t id) (setup_rows s.hid setup (sets_idle setup) (sets_protocol setup))
event_length s (Sends setup bytes) t id = ap (λ rows. length_in rows t id) (data_rows s.hid setup bytes (accepts s.hid setup bytes) refl)
event_length s HaltsIn t id = refl
event_length s ClearsIn t id = refl
event_length s HaltsOut t id = refl
event_length s ClearsOut t id = refl

pub all_length : (s : Session) (events : List Event) (t : ReportType) (id : ℕ) → length_in (after_all s events).hid.rows t id ≡ length_in s.hid.rows t id
all_length s [] t id = refl
all_length s (e ∷ events) t id = all_length (after s e) events t id ∙ event_length s e t id

-- Nothing was queued yet.
pub nothing_yet : (lengths : List ReportLen) (id : ℕ) → last_input (map fresh lengths) id ≡ None
nothing_yet [] id = refl
nothing_yet (l ∷ lengths) id = by (l.id == id) (nothing_yet lengths id)
  where
    by : (b : Bool) → last_input (map fresh lengths) id ≡ None → (if b then None else last_input (map fresh lengths) id) ≡ None
    by true e = refl
    by false e = e
