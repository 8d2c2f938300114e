-- What the requests of the class leave and give.
use Rattle.std.proofs.Common.{◌≡◌, ◌≢◌, ◌⊎◌, inl, inr, ◌≤◌, ◌<◌, ℕ, ◌+◌, ◌*◌, ◌/◌, ◌%◌, List, [], ◌∷◌, Bool, true, false, length, refl, sym, ap, ◌∙◌, arith, true≢false}
use Rattle.std.specs.Prelude.{IsTrue, ◌==◌, ◌&&◌, ◌||◌, Some, None, map, nat_le}
use Rattle.std.proofs.lemmas.Bool.Decides.{nat_tests}
use Rattle.std.proofs.lemmas.Bool.{eqb-true}
use Rattle.usb_packet.specs.declared.setup.Setup.{Setup}
use Rattle.usb_pipe.specs.declared.decision.Decision.TheVariants as decision
use Rattle.usb_pipe.specs.declared.phase.Phase.TheVariants as phase
use Rattle.usb_pipe.specs.declared.call.HidDeviceCall.TheVariants as call
use Rattle.usb_pipe.specs.declared.reply.Reply.TheVariants as reply
use Rattle.usb_pipe.specs.Own.{Own, phase_at}
use Rattle.class_pipes.specs.Requests.{is_request}
use Rattle.class_pipes.proofs.Phases.{test-closed}
use Rattle.hid_device_machine.specs.declared.reports.ReportType.{ReportType}
use Rattle.hid_device_machine.specs.declared.reports.ReportType.TheVariants.{Input, Output, Feature}
use Rattle.hid_device_machine.specs.declared.reports.IdReports.{IdReports}
use Rattle.hid_device_machine.specs.Reports.{type_of, type_number, may_be_set, same_type, length_in, has_report, wire_size, blank, fresh, last_set_as, or_else}
use Rattle.hid_device_machine.specs.Device.{Hid, anew, decided, after_setup, accepts, after_data, takes_report, may_set, bytes_told, last_bytes, is_set_report, is_set_idle, is_set_protocol, sets_idle, sets_protocol, high, low, call_reply}
use Rattle.hid_device_machine.specs.Session.{begun, after_all, queued, last_or}
use Rattle.hid_device_machine.specs.Laws.{request, get_report, set_report, Tells, LastReportIsTold, SetReportIsTold, OtherDataIsRefused, IdleIsTold, ProtocolIsTold, BeginsAnew, Refuses, OthersAreRefused, SetupKeeps}
use Rattle.hid_device_machine.proofs.Last.{all_told, all_length, nothing_yet}

-- wValue's two bytes
high_of : (n id : ℕ) → id < 256 → (256 * n + id) / 256 ≡ n
high_of n id h = grind arith

low_of : (n id : ℕ) → id < 256 → (256 * n + id) % 256 ≡ id
low_of n id h = grind arith

type_of_number : (t : ReportType) → type_of (type_number t) ≡ Some t
type_of_number Input = refl
type_of_number Output = refl
type_of_number Feature = refl

differs : (a b : ℕ) → a ≢ b → (a == b) ≡ false
differs a b n = by (a == b) refl
  where
    by : (t : Bool) → (a == b) ≡ t → (a == b) ≡ false
    by true e = absurd (n (eqb-true a b e))
    by false e = e

same : (a : ℕ) → (a == a) ≡ true
same a = grind (arith, nat_tests)

no_type : (n : ℕ) → n ≢ 1 → n ≢ 2 → n ≢ 3 → type_of n ≡ None
no_type n a b c = rw (differs n 1 a, differs n 2 b, differs n 3 c) refl

and-left : (a b : Bool) → a && b ≡ true → a ≡ true
and-left true b e = refl
and-left false b e = e

and-right : (a b : Bool) → a && b ≡ true → b ≡ true
and-right true b e = e
and-right false b e = elim (true≢false (sym e)) [ ]

and-false : (a : Bool) → a && false ≡ false
and-false true = refl
and-false false = refl

third-false : (a b c : Bool) → a && (b && (false && c)) ≡ false
third-false true b c = and-false b
third-false false b c = refl

fourth-false : (a b c : Bool) → a && (b && (c && false)) ≡ false
fourth-false true true c = and-false c
fourth-false true false c = refl
fourth-false false b c = refl

-- GET_REPORT
told_when : (hid : Hid) (interface size id : ℕ) (t : ReportType) → id < 256 → IsTrue (has_report hid.rows t id) → Tells hid (get_report interface size t id) (bytes_told hid t id)
told_when hid interface size id t h there = rw (high_of (type_number t) id h, low_of (type_number t) id h, type_of_number t, there) refl

pub last_report_is_told : LastReportIsTold
last_report_is_told lengths own events interface size id h there =
    let start = begun lengths own in
    let after = after_all start events in
    let kept : has_report after.hid.rows Input id ≡ has_report start.hid.rows Input id = ap (λ n. nat_le 1 n) (all_length start events Input id) in
    told_when after.hid interface size id Input h (kept ∙ there)
    ∙ ap (λ bytes. decision.Data (record { items = bytes }))
    (sym (all_told id start events)
    ∙ ap (λ o. last_or (or_else o (blank start.hid.rows Input id)) (queued id start events)) (nothing_yet lengths id))

-- SET_REPORT
takes_when : (hid : Hid) (interface size id : ℕ) (t : ReportType) → id < 256 → may_be_set t ≡ true → IsTrue (has_report hid.rows t id) → size ≡ wire_size hid.rows t id → size ≤ 64 →
    takes_report hid (set_report interface size t id) ≡ true
takes_when hid interface size id t h may there e small =
    let equal : (size == wire_size hid.rows t id) ≡ true = ap (λ n. size == n) (sym e) ∙ same size in
    let fits : nat_le size 64 ≡ true = grind (arith, nat_tests) in
    rw (high_of (type_number t) id h, low_of (type_number t) id h, type_of_number t, may, there, equal, fits) refl

given_as : (rows : List IdReports) (t : ReportType) (id : ℕ) (bytes : List ℕ) → same_type t t ≡ true →
    or_else (last_set_as (Some (record { report_type = t; id = id; bytes = record { items = bytes } })) t id) (blank rows t id) ≡ bytes
given_as rows t id bytes e = rw (e, same id) refl

set_told : (hid : Hid) (own : Own) (interface size id : ℕ) (t : ReportType) (bytes : List ℕ)
    → id < 256 → may_be_set t ≡ true → bytes_told (record hid { last_set = Some (record { report_type = t; id = id; bytes = record { items = bytes } }) }) t id ≡ bytes
    → phase_at own 0 ≢ phase.Closed → IsTrue (has_report hid.rows t id) → length bytes ≡ wire_size hid.rows t id → length bytes ≤ 64
    → let setup = set_report interface (length bytes) t id in
    (decided hid setup ≡ decision.Take (length bytes))
    × (accepts hid setup bytes ≡ true)
    × Tells (after_data hid setup bytes) (get_report interface size t id) bytes
    × (call_reply (after_data hid setup bytes) own call.Set ≡ reply.SetReport (type_number t) (record { items = bytes }))
    × (after_data hid setup bytes ≡ record hid { last_set = (after_data hid setup bytes).last_set })
set_told hid own interface size id t bytes h may told opens there e small =
    let setup = set_report interface (length bytes) t id in
    let set : Hid = record hid { last_set = Some (record { report_type = t; id = id; bytes = record { items = bytes } }) } in
    let takes = takes_when hid interface (length bytes) id t h may there e small in
    let taken : accepts hid setup bytes ≡ true = rw (takes, same (length bytes)) refl in
    let is : after_data hid setup bytes ≡ set = rw (taken, high_of (type_number t) id h, low_of (type_number t) id h, type_of_number t) refl in
    let shut = test-closed (phase_at own 0) opens in (
      rw takes refl,
      taken,
      rw is (told_when set interface size id t h there ∙ ap (λ b. decision.Data (record { items = b })) told),
      rw is (rw shut refl),
      rw is refl,
    )

pub set_report_is_told : SetReportIsTold
set_report_is_told hid own interface size id Input bytes h n opens there e small = absurd (n refl)
set_report_is_told hid own interface size id Output bytes h n opens there e small =
    set_told hid own interface size id Output bytes h refl (given_as hid.rows Output id bytes refl) opens there e small
set_report_is_told hid own interface size id Feature bytes h n opens there e small =
    set_told hid own interface size id Feature bytes h refl (given_as hid.rows Feature id bytes refl) opens there e small

-- requests that differ in kind or code
not_request : (kind code : ℕ) (setup : Setup) → (setup.request_type ≢ kind) ⊎ (setup.request ≢ code) → is_request kind code setup ≡ false
not_request kind code setup (inl n) = rw (differs setup.request_type kind n) refl
not_request kind code setup (inr n) = rw (differs setup.request code n) (and-false (setup.request_type == kind))

kind_of : (kind code : ℕ) (setup : Setup) → is_request kind code setup ≡ true → setup.request_type ≡ kind
kind_of kind code setup e = eqb-true setup.request_type kind (and-left (setup.request_type == kind) (setup.request == code) e)

code_of : (kind code : ℕ) (setup : Setup) → is_request kind code setup ≡ true → setup.request ≡ code
code_of kind code setup e = eqb-true setup.request code (and-right (setup.request_type == kind) (setup.request == code) e)

not_from_host : (code other : ℕ) (setup : Setup) → is_request 0x21 code setup ≡ true → is_request 0xa1 other setup ≡ false
not_from_host code other setup e = let k = kind_of 0x21 code setup e in not_request 0xa1 other setup (inl (λ f. absurd (omega arith)))

not_that : (code other : ℕ) (setup : Setup) → is_request 0x21 code setup ≡ true → code ≢ other → is_request 0x21 other setup ≡ false
not_that code other setup e n = not_request 0x21 other setup (inr (λ f. n (sym (code_of 0x21 code setup e) ∙ f)))

pub other_data_is_refused : OtherDataIsRefused
other_data_is_refused hid setup bytes =
    (λ n. rw (differs (length bytes) setup.length n) (and-false (takes_report hid setup)), λ e. rw e refl, λ e. taken e)
  where
    taken : accepts hid setup bytes ≡ true → decided hid setup ≡ decision.Take (length bytes)
    taken e =
        let takes = and-left (takes_report hid setup) (length bytes == setup.length) e in
        let all = eqb-true (length bytes) setup.length (and-right (takes_report hid setup) (length bytes == setup.length) e) in
        let is = and-left (is_set_report setup) (may_set hid (type_of (high setup)) (low setup) setup.length) takes in
        rw (not_from_host 9 1 setup is, not_from_host 9 2 setup is, not_from_host 9 3 setup is, takes, all) refl

-- Idle rate and protocol.
pub idle_is_told : IdleIsTold
idle_is_told hid own interface size rate id other h opens =
    let e = high_of rate id h in let shut = test-closed (phase_at own 0) opens in
    (refl, rw e refl, rw (shut, e) refl, rw e refl)

pub protocol_is_told : ProtocolIsTold
protocol_is_told hid own interface size protocol h opens =
    let e : nat_le protocol 1 ≡ true = grind (arith, nat_tests) in let shut = test-closed (phase_at own 0) opens in
    (rw e refl, rw e refl, rw (shut, e) refl, rw e refl)

-- A session begins.
length_anew : (rows : List IdReports) (t : ReportType) (id : ℕ) → length_in (map fresh (map (λ (row : IdReports). row.lengths) rows)) t id ≡ length_in rows t id
length_anew [] t id = refl
length_anew (row ∷ rows) t id = let e = length_anew rows t id in rw e refl

none_anew : (hid : Hid) (t : ReportType) (id : ℕ) → last_bytes (anew hid) t id ≡ None
none_anew hid Input id = nothing_yet (map (λ (row : IdReports). row.lengths) hid.rows) id
none_anew hid Output id = refl
none_anew hid Feature id = refl

pub begins_anew : BeginsAnew
begins_anew hid own interface size id t h opens =
    let shut = test-closed (phase_at own 0) opens in
    let same_length = length_anew hid.rows t id in (
      refl,
      rw shut refl,
      rw shut refl,
      λ there. told_when (anew hid) interface size id t h (ap (λ n. nat_le 1 n) same_length ∙ there)
          ∙ ap (λ b. decision.Data (record { items = b })) (rw (none_anew hid t id, same_length) refl),
    )

-- What is refused.
refused_unlisted : (hid : Hid) (setup : Setup) → is_request 0xa1 1 setup ≡ false → is_request 0xa1 2 setup ≡ false → is_request 0xa1 3 setup ≡ false
    → is_request 0x21 9 setup ≡ false → is_request 0x21 10 setup ≡ false → is_request 0x21 11 setup ≡ false → Refuses hid setup
refused_unlisted hid setup a b c d e f = (rw (a, b, c, d, e, f) refl, rw (e, f) refl)

unlisted_as : (kind a b c : ℕ) (setup : Setup) → (setup.request_type ≢ kind) ⊎ ((setup.request ≢ a) × (setup.request ≢ b) × (setup.request ≢ c)) →
    (is_request kind a setup ≡ false) × (is_request kind b setup ≡ false) × (is_request kind c setup ≡ false)
unlisted_as kind a b c setup (inl n) = (not_request kind a setup (inl n), not_request kind b setup (inl n), not_request kind c setup (inl n))
unlisted_as kind a b c setup (inr n) = (not_request kind a setup (inr n.0), not_request kind b setup (inr n.1), not_request kind c setup (inr n.2))

none_there : (rows : List IdReports) (t : ReportType) (id : ℕ) → length_in rows t id ≡ 0 → has_report rows t id ≡ false
none_there rows t id e = ap (λ n. nat_le 1 n) e

second-false : (a b : Bool) → a && (false && b) ≡ false
second-false true b = refl
second-false false b = refl

-- SET_REPORT that isn't taken
refused_set : (hid : Hid) (interface size id : ℕ) (t : ReportType) → id < 256 → may_set hid (Some t) id size ≡ false → Refuses hid (set_report interface size t id)
refused_set hid interface size id t h e = (rw (high_of (type_number t) id h, low_of (type_number t) id h, type_of_number t, e) refl, refl)

pub others_are_refused : OthersAreRefused
others_are_refused = record {
  unlisted = λ hid setup gets sets.
      let g = unlisted_as 0xa1 1 2 3 setup gets in let s = unlisted_as 0x21 9 10 11 setup sets in
      refused_unlisted hid setup g.0 g.1 g.2 s.0 s.1 s.2;
  get_none = λ hid interface size id t h e.
      (rw (high_of (type_number t) id h, low_of (type_number t) id h, type_of_number t, none_there hid.rows t id e) refl, refl);
  set_none = λ hid interface size id t h e.
      refused_set hid interface size id t h (rw (none_there hid.rows t id e) (second-false (may_be_set t) ((size == wire_size hid.rows t id) && nat_le size 64)));
  get_type = λ hid interface size t id h a b c. (rw (high_of t id h, no_type t a b c) refl, refl);
  set_type = λ hid interface size t id h a b c. (rw (high_of t id h, no_type t a b c) refl, refl);
  set_input = λ hid interface size id h. refused_set hid interface size id Input h refl;
  set_size = λ hid interface size id t h n.
      refused_set hid interface size id t h (rw (differs size (wire_size hid.rows t id) n) (third-false (may_be_set t) (has_report hid.rows t id) (nat_le size 64)));
  set_long = λ hid interface size id t h long.
      let e : nat_le size 64 ≡ false = grind (arith, nat_tests) in
      refused_set hid interface size id t h (rw e (fourth-false (may_be_set t) (has_report hid.rows t id) (size == wire_size hid.rows t id)));
  idle_data = λ hid interface value size n. let e = differs size 0 n in (rw e refl, rw e refl);
  protocol_data = λ hid interface value size n. let e : nat_le value 1 && (size == 0) ≡ false = rw (differs size 0 n) (and-false (nat_le value 1)) in refused_protocol hid interface value size e;
  protocol_other = λ hid interface value size h.
      let e : nat_le value 1 ≡ false = grind (arith, nat_tests) in refused_protocol hid interface value size (rw e refl);
}
  where
    refused_protocol : (hid : Hid) (interface value size : ℕ) → nat_le value 1 && (size == 0) ≡ false → Refuses hid (request 0x21 11 value interface size)
    refused_protocol hid interface value size e = (rw e refl, rw e refl)

-- What is set at a SETUP packet comes with the status stage.
status_when : (hid : Hid) (setup : Setup) (code : ℕ) → code ≢ 9 → is_request 0x21 code setup ≡ true → sets_idle setup || sets_protocol setup ≡ true → decided hid setup ≡ decision.Status
status_when hid setup code n is sets =
    rw (not_from_host code 1 setup is, not_from_host code 2 setup is, not_from_host code 3 setup is, not_that code 9 setup is n, sets) refl

or-right : (a b : Bool) → b ≡ true → a || b ≡ true
or-right true b e = refl
or-right false b e = e

pub setup_keeps : SetupKeeps
setup_keeps hid setup n = by (sets_idle setup) (sets_protocol setup) refl refl
  where
    by : (a b : Bool) → sets_idle setup ≡ a → sets_protocol setup ≡ b → after_setup hid setup ≡ hid
    by true b e f = absurd (n (status_when hid setup 10 (λ e. absurd (omega arith)) (and-left (is_set_idle setup) (setup.length == 0) e) (rw e refl)))
    by false true e f = absurd (n (status_when hid setup 11 (λ e. absurd (omega arith)) (and-left (is_set_protocol setup) (nat_le setup.value 1 && (setup.length == 0)) f) (or-right (sets_idle setup) (sets_protocol setup) f)))
    by false false e f = rw (e, f) refl
