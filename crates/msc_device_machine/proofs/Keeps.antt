-- What always holds is kept by everything that happens, and what the disk is asked lies on it.
use Rattle.std.proofs.Common.{◌≡◌, ℕ, ◌+◌, ◌-◌, ◌<◌, ◌≤◌, List, [], ◌++◌, length, length-take, length-drop, length-append, take, Bool, true, false, ◌&&◌, Option, Some, None, arith, refl, ap, ◌∙◌}
use Rattle.std.specs.Prelude.{⊤, ◌==◌, nat_lt, min, IsTrue, if◌then◌else◌}
use Rattle.std.proofs.lemmas.Bool.{cond_both, eqb-true, eqb-false, ltb-true, ltb-false, both_ways}
use Rattle.usb_packet.specs.declared.setup.Setup.{Setup}
use Rattle.usb_pipe.specs.declared.call.MscDeviceCall.{MscDeviceCall}
use Rattle.usb_pipe.specs.declared.call.MscDeviceCall.TheVariants.{Eject, Insert, Protect}
use Rattle.usb_pipe.specs.Own.{Own}
use Rattle.class_pipes.specs.Pipes.{data_in, data_out, is_shut}
use Rattle.usb_edge.specs.Disk.{block_size}
use Rattle.scsi_core.specs.declared.Unit.{Unit as Disk}
use Rattle.scsi_core.specs.declared.Move.{Move}
use Rattle.scsi_core.specs.declared.Move.TheVariants as move
use Rattle.scsi_core.specs.Command as scsi
use Rattle.scsi_core.specs.Command.{IsSound as IsSoundUnit}
use Rattle.scsi_core.specs.Laws.{IsMovable}
use Rattle.scsi_core.proofs.CommandLemmas.{worked_keeps_laws}
use Rattle.msc_device_machine.specs.declared.transport.Flow.{Flow}
use Rattle.msc_device_machine.specs.declared.transport.Transport.{Transport}
use Rattle.msc_device_machine.specs.declared.transport.Transport.TheVariants.{Command, Broken, Sending, Receiving, Status}
use Rattle.msc_device_machine.specs.declared.transport.Due.{Due}
use Rattle.msc_device_machine.specs.declared.transport.Due.TheVariants as due
use Rattle.msc_device_machine.specs.Wrapper.{Wrapper, is_good, wrapper_of}
use Rattle.msc_device_machine.specs.Cases.{Data, Nothing, ToHost, FromHost, Case, by_size, row_of, row_for, Row, hi_above_di, hi_is_di, hi_below_di, ho_above_do, ho_is_do, ho_below_do}
use Rattle.msc_device_machine.specs.Storage.{Storage, first, first_unit, stopped, anew, after_setup, is_reset, after_came, after_end, Turn, Step, turned, flow_of, expected, intended, unmoved, moving, by_row, commanded, wrapped, moved_by, gathered, received, stored, sent_on, fetched, with_packet_read, packet, noted, at_packet, at_end, by_notes, unless_broken, taken_up, asks, synced, read_on, wrote_on, resumed, served, call_of, worked, unit_after, with_medium, after_call}
use Rattle.msc_device_machine.specs.Laws.{size_of}
use Rattle.msc_device_machine.specs.Sound.{IsSending, IsReceiving, Fits, IsSound, IsReading, IsWriting, IsDue, LiesOn, IsAnswer}
use Rattle.msc_device_machine.proofs.Few.{IsFew, worked_few}

-- What moves is no more than the host expects.

by_size_fits : (h d : ℕ) (above same below : Case) → (row_of below).moves ≡ false → (row_of (by_size h d above same below)).moves ≡ true → d ≤ h
by_size_fits h d above same below never =
    let P : Case → Type 0 = λ c. (row_of c).moves ≡ true → d ≤ h in
    cond_both (nat_lt d h) above (if h == d then same else below) P
    (λ e m. omega (arith, ltb-true d h e))
    (λ _. cond_both (h == d) same below P (λ e m. omega (arith, eqb-true h d e)) (λ _ m. absurd (both_ways (row_of below).moves never m)))

pub moves_fit : (host device : Data) → (row_for host device).moves ≡ true → size_of device ≤ size_of host
moves_fit Nothing Nothing h = omega arith
moves_fit Nothing (ToHost d) h = absurd (both_ways false refl h)
moves_fit Nothing (FromHost d) h = absurd (both_ways false refl h)
moves_fit (ToHost n) Nothing h = omega arith
moves_fit (ToHost n) (ToHost d) h = by_size_fits n d hi_above_di hi_is_di hi_below_di refl h
moves_fit (ToHost n) (FromHost d) h = absurd (both_ways false refl h)
moves_fit (FromHost n) Nothing h = omega arith
moves_fit (FromHost n) (ToHost d) h = absurd (both_ways false refl h)
moves_fit (FromHost n) (FromHost d) h = by_size_fits n d ho_above_do ho_is_do ho_below_do refl h

pub expected_size : (is_in : Bool) (n : ℕ) → size_of (expected is_in n) ≤ n
expected_size is_in n =
    cond_both (n == 0) Nothing (if is_in then ToHost n else FromHost n) (λ d. size_of d ≤ n) (λ _. omega arith)
    (λ _. cond_both is_in (ToHost n) (FromHost n) (λ d. size_of d ≤ n) (λ _. omega arith) (λ _. omega arith))

-- What a command's move is known to be.
abbrev pub Can : ℕ → Move → Type 0
Can blocks move.None = ⊤
Can blocks (move.In bytes) = (0 < length bytes.items) × (length bytes.items ≤ 36)
Can blocks (move.Read lba count) = (0 < count) × (lba + count ≤ blocks)
Can blocks (move.Write lba count) = (0 < count) × (lba + count ≤ blocks)
Can blocks move.Sync = 0 < blocks
Can blocks (move.Fail sense) = ⊤

can_of : (unit : Disk) (m : Move) → IsSoundUnit unit → IsMovable unit m → IsFew m → Can unit.blocks m
can_of unit move.None s h f = tt
can_of unit (move.In bytes) s h f = (h, f)
can_of unit (move.Read lba count) s h f = (h.1, h.2)
can_of unit (move.Write lba count) s h f = (h.2, h.3)
can_of unit move.Sync s h f = s.given h
can_of unit (move.Fail sense) s h f = tt

pub command_can : (unit : Disk) (cdb : List ℕ) → IsSoundUnit unit → Can unit.blocks (scsi.worked unit cdb).moves
command_can unit cdb s = can_of unit (scsi.worked unit cdb).moves s (worked_keeps_laws unit cdb s).movable (worked_few unit cdb)

-- A step, before the disk is asked and after its answer.
pub record StepFits (blocks : ℕ) (step : Step) : Type 0 where
  pub unit : IsSoundUnit step.turn.storage.unit
  pub size : step.turn.storage.unit.blocks ≡ blocks
  pub due : IsDue blocks step.due step.turn.storage

pub record TurnFits (blocks : ℕ) (t : Turn) : Type 0 where
  pub unit : IsSoundUnit t.storage.unit
  pub size : t.storage.unit.blocks ≡ blocks
  pub fits : Fits blocks t.storage.transport t.storage.block

abbrev IsUnit : ℕ → Disk → Type 0
IsUnit blocks unit = IsSoundUnit unit × (unit.blocks ≡ blocks)

-- A command.

unmoved_fits : (blocks : ℕ) (t : Turn) (w : Wrapper) (r : Row) (m : Move) → IsUnit blocks t.storage.unit → Can blocks m → StepFits blocks (unmoved t w r m)
unmoved_fits blocks t w r move.None u c = record { unit = u.0; size = u.1; due = refl }
unmoved_fits blocks t w r (move.In bytes) u c = record { unit = u.0; size = u.1; due = refl }
unmoved_fits blocks t w r (move.Read lba count) u c = record { unit = u.0; size = u.1; due = refl }
unmoved_fits blocks t w r (move.Write lba count) u c = record { unit = u.0; size = u.1; due = refl }
unmoved_fits blocks t w r move.Sync u c = record { unit = u.0; size = u.1; due = c }
unmoved_fits blocks t w r (move.Fail sense) u c = record { unit = u.0; size = u.1; due = refl }

data_fits : (blocks host n : ℕ) (w : Wrapper) → 0 < n → n ≤ 36 → n ≤ w.length → IsSending blocks (flow_of w n 0) n
data_fits blocks host n w some few size =
    record { some = some; most = omega arith; size = size; left = 0; whole = omega arith; lies = omega arith }

nothing_gathered : (block : List ℕ) → block ≡ [] → length block ≡ 0
nothing_gathered block e = rw e refl

moving_fits : (blocks : ℕ) (t : Turn) (w : Wrapper) (r : Row) (m : Move) → IsUnit blocks t.storage.unit → t.storage.block ≡ [] → Can blocks m → size_of (intended m) ≤ w.length → StepFits blocks (moving t w r m)
moving_fits blocks t w r move.None u e c size = unmoved_fits blocks t w r move.None u c
moving_fits blocks t w r (move.In bytes) u e c size =
    record { unit = u.0; size = u.1; due = (data_fits blocks w.length (length bytes.items) w c.0 c.1 size, e) }
moving_fits blocks t w r (move.Read lba count) u e c size =
    record { unit = u.0; size = u.1; due = (record { size = size; left = count; some = c.0; whole = omega arith; lies = c.1 }, e) }
moving_fits blocks t w r (move.Write lba count) u e c size =
    let n = nothing_gathered t.storage.block e in
    record {
      unit = u.0;
      size = u.1;
      due = record { gathered = omega arith; some = omega (arith, c.0); size = size; left = count; whole = omega arith; lies = c.1 };
    }
moving_fits blocks t w r move.Sync u e c size = unmoved_fits blocks t w r move.Sync u c
moving_fits blocks t w r (move.Fail sense) u e c size = unmoved_fits blocks t w r (move.Fail sense) u c

by_row_fits : (blocks : ℕ) (t : Turn) (w : Wrapper) (m : Move) → IsUnit blocks t.storage.unit → t.storage.block ≡ [] → Can blocks m → StepFits blocks (by_row t w (row_for (expected w.is_in w.length) (intended m)) m)
by_row_fits blocks t w m u e c =
    let r = row_for (expected w.is_in w.length) (intended m) in
    cond_both r.is_phase_error _ _ (StepFits blocks) (λ _. record { unit = u.0; size = u.1; due = refl })
    (λ _. cond_both r.moves _ _ (StepFits blocks)
    (λ it. moving_fits blocks t w r m u e c (omega (arith, moves_fit (expected w.is_in w.length) (intended m) it, expected_size w.is_in w.length)))
    (λ _. unmoved_fits blocks t w r m u c))

commanded_fits : (t : Turn) (w : Wrapper) → IsSoundUnit t.storage.unit → t.storage.block ≡ [] → StepFits t.storage.unit.blocks (commanded t w)
commanded_fits t w s e =
    let o = scsi.worked t.storage.unit w.command in
    let l = worked_keeps_laws t.storage.unit w.command s in
    by_row_fits t.storage.unit.blocks (record t { storage = record t.storage { unit = o.leaves } }) w o.moves (l.sound, l.size) e (command_can t.storage.unit w.command s)

wrapped_fits : (t : Turn) (bytes : List ℕ) → IsSoundUnit t.storage.unit → t.storage.block ≡ [] → StepFits t.storage.unit.blocks (wrapped t bytes)
wrapped_fits t bytes s e =
    cond_both (is_good bytes) _ _ (StepFits t.storage.unit.blocks)
    (λ _. commanded_fits t (wrapper_of bytes) s e)
    (λ _. record { unit = s; size = refl; due = e })

-- Data from the host.

gathered_fits : (blocks : ℕ) (t : Turn) (flow new : Flow) (bytes : List ℕ) (n : ℕ) (is_over : Bool) → IsUnit blocks t.storage.unit → IsReceiving blocks flow t.storage.block → n ≤ 64 → n ≤ flow.device - flow.moved → new ≡ moved_by flow n → length bytes ≡ length t.storage.block + n → StepFits blocks (gathered t new bytes is_over)
gathered_fits blocks t flow new bytes n is_over u h most within e count = rw e (by tt) where
  by : ⊤ → StepFits blocks (gathered t (moved_by flow n) bytes is_over)
  by _ =
      cond_both (nat_lt (length bytes) block_size) _ _ (StepFits blocks)
      (λ few. record {
        unit = u.0;
        size = u.1;
        due = record { gathered = ltb-true (length bytes) 512 few; some = omega (arith, ltb-true (length bytes) 512 few, h.some, h.whole); size = h.size; left = h.left; whole = omega (arith, h.whole); lies = h.lies };
      })
      (λ many. record {
        unit = u.0;
        size = u.1;
        due = record { whole_block = ltb-false (length bytes) 512 many; most = omega (arith, h.gathered); moved = omega (arith, h.some); size = h.size; left = h.left; whole = omega (arith, h.whole); lies = h.lies };
      })

received_fits : (blocks : ℕ) (t : Turn) (flow : Flow) (bytes : List ℕ) → IsUnit blocks t.storage.unit → IsReceiving blocks flow t.storage.block → length bytes ≤ 64 → StepFits blocks (received t flow bytes)
received_fits blocks t flow bytes u h few =
    let left = flow.device - flow.moved in
    let n = min left (length bytes) in
    gathered_fits blocks t flow (moved_by flow n) (t.storage.block ++ take left bytes) n (nat_lt left (length bytes)) u h (omega arith) (omega arith) refl
    (length-append t.storage.block (take left bytes) ∙ ap (λ (k : ℕ). length t.storage.block + k) (length-take left bytes))

stored_fits : (blocks : ℕ) (t : Turn) (flow : Flow) (is_over : Bool) → IsUnit blocks t.storage.unit → IsWriting blocks flow t.storage.block → TurnFits blocks (stored t flow is_over)
stored_fits blocks t flow is_over u h =
    cond_both (flow.moved == flow.device) _ _ (TurnFits blocks)
    (λ _. record { unit = u.0; size = u.1; fits = refl })
    (λ more. let few = length-drop 512 t.storage.block in
    let less : flow.moved < flow.device = omega (arith, eqb-false flow.moved flow.device more, h.moved) in
    record {
      unit = u.0;
      size = u.1;
      fits = record {
        gathered = omega (arith, h.most, h.whole_block, few);
        some = less;
        size = h.size;
        left = h.left - 1;
        whole = omega (arith, h.whole, h.whole_block, few, less);
        lies = omega (arith, h.whole, h.whole_block, h.lies, less);
      };
    })

-- Data for the host.

sent_on_fits : (blocks : ℕ) (t : Turn) (flow : Flow) (loaded : ℕ) → IsUnit blocks t.storage.unit → IsSending blocks flow loaded → t.storage.block ≡ [] → StepFits blocks (sent_on t (moved_by flow loaded))
sent_on_fits blocks t flow loaded u h e =
    cond_both (flow.moved + loaded == flow.device) _ _ (StepFits blocks)
    (λ _. record { unit = u.0; size = u.1; due = refl })
    (λ more. record {
      unit = u.0;
      size = u.1;
      due = (record { size = h.size; left = h.left; some = omega (arith, eqb-false (flow.moved + loaded) flow.device more, h.whole); whole = h.whole; lies = h.lies }, e);
    })

fetched_fits : (blocks : ℕ) (t : Turn) (flow : Flow) (block : List ℕ) → IsUnit blocks t.storage.unit → IsReading blocks flow → t.storage.block ≡ [] → length block ≡ block_size → TurnFits blocks (fetched t flow block)
fetched_fits blocks t flow block u h e n =
    record {
      unit = u.0;
      size = u.1;
      fits = (record { some = omega (arith, n); most = omega (arith, n); size = h.size; left = h.left - 1; whole = omega (arith, n, h.whole, h.some); lies = omega (arith, h.lies, h.some) }, e);
    }

-- The disk's answer.

read_on_fits : (blocks : ℕ) (t : Turn) (flow : Flow) (answer : Option (List ℕ)) → IsUnit blocks t.storage.unit → IsReading blocks flow → t.storage.block ≡ [] → IsAnswer (asks (due.Read flow) t.storage) answer → TurnFits blocks (read_on t flow answer)
read_on_fits blocks t flow (Some block) u h e n = fetched_fits blocks t flow block u h e n
read_on_fits blocks t flow None u h e n = record { unit = record { given = u.0.given }; size = u.1; fits = refl }

wrote_on_fits : (blocks : ℕ) (t : Turn) (flow : Flow) (is_over : Bool) (answer : Option (List ℕ)) → IsUnit blocks t.storage.unit → IsWriting blocks flow t.storage.block → TurnFits blocks (wrote_on t flow is_over answer)
wrote_on_fits blocks t flow is_over (Some bytes) u h = stored_fits blocks t flow is_over u h
wrote_on_fits blocks t flow is_over None u h = record { unit = record { given = u.0.given }; size = u.1; fits = refl }

synced_fits : (blocks : ℕ) (t : Turn) (tag host : ℕ) (is_in : Bool) (answer : Option (List ℕ)) → IsUnit blocks t.storage.unit → TurnFits blocks (synced t tag host is_in answer)
synced_fits blocks t tag host is_in (Some bytes) u = record { unit = u.0; size = u.1; fits = refl }
synced_fits blocks t tag host is_in None u = record { unit = record { given = u.0.given }; size = u.1; fits = refl }

resumed_by : (blocks : ℕ) (t : Turn) (d : Due) (answer : Option (List ℕ)) → IsUnit blocks t.storage.unit → IsDue blocks d t.storage → IsAnswer (asks d t.storage) answer → TurnFits blocks (resumed t d answer)
resumed_by blocks t due.Nothing answer u h a = record { unit = u.0; size = u.1; fits = h }
resumed_by blocks t (due.Read flow) answer u h a = read_on_fits blocks t flow answer u h.0 h.1 a
resumed_by blocks t (due.Write flow is_over) answer u h a = wrote_on_fits blocks t flow is_over answer u h
resumed_by blocks t (due.Sync tag host is_in) answer u h a = synced_fits blocks t tag host is_in answer u

pub resumed_fits : (blocks : ℕ) (step : Step) (answer : Option (List ℕ)) → StepFits blocks step → IsAnswer (asks step.due step.turn.storage) answer → TurnFits blocks (resumed step.turn step.due answer)
resumed_fits blocks step answer h a = resumed_by blocks step.turn step.due answer (h.unit, h.size) h.due a

lies_by : (blocks : ℕ) (d : Due) (s : Storage) → IsDue blocks d s → LiesOn blocks (asks d s)
lies_by blocks due.Nothing s h = tt
lies_by blocks (due.Read flow) s h = omega (arith, h.0.lies, h.0.some)
lies_by blocks (due.Write flow is_over) s h =
    (omega (arith, h.whole, h.whole_block, h.moved, h.lies), omega (arith, length-take 512 s.block, h.whole_block))
lies_by blocks (due.Sync tag host is_in) s h = h

-- What is taken up in a task.

at_packet_fits : (transport : Transport) (t : Turn) (bytes : List ℕ) → IsSoundUnit t.storage.unit → t.storage.transport ≡ transport → Fits t.storage.unit.blocks transport t.storage.block → length bytes ≤ 64 → StepFits t.storage.unit.blocks (at_packet transport t bytes)
at_packet_fits Command t bytes u e h few = wrapped_fits t bytes u h
at_packet_fits (Receiving flow) t bytes u e h few = received_fits t.storage.unit.blocks t flow bytes (u, refl) h few
at_packet_fits Broken t bytes u e h few = record { unit = u; size = refl; due = rw e h }
at_packet_fits (Sending flow loaded) t bytes u e h few = record { unit = u; size = refl; due = rw e h }
at_packet_fits Status t bytes u e h few = record { unit = u; size = refl; due = rw e h }

at_end_fits : (transport : Transport) (t : Turn) → IsSoundUnit t.storage.unit → t.storage.transport ≡ transport → Fits t.storage.unit.blocks transport t.storage.block → StepFits t.storage.unit.blocks (at_end transport t)
at_end_fits Command t u e h = record { unit = u; size = refl; due = rw e h }
at_end_fits (Receiving flow) t u e h = record { unit = u; size = refl; due = rw e h }
at_end_fits Broken t u e h = record { unit = u; size = refl; due = rw e h }
at_end_fits (Sending flow loaded) t u e h = sent_on_fits t.storage.unit.blocks t flow loaded (u, refl) h.0 h.1
at_end_fits Status t u e h = record { unit = u; size = refl; due = h }

by_notes_fits : (s : Storage) (own : Own) → IsSound s → StepFits s.unit.blocks (by_notes s own)
by_notes_fits s own h =
    cond_both s.came _ _ (StepFits s.unit.blocks)
    (λ _. at_packet_fits s.transport (turned (noted s) (with_packet_read own)) (packet own) h.unit refl h.fits (omega (arith, length-take 64 own.receives.pipe.held)))
    (λ _. cond_both s.ended _ _ (StepFits s.unit.blocks)
    (λ _. at_end_fits s.transport (turned (noted s) own) h.unit refl h.fits)
    (λ _. record { unit = h.unit; size = refl; due = h.fits }))

unless_broken_fits : (transport : Transport) (s : Storage) (own : Own) → IsSound s → StepFits s.unit.blocks (unless_broken transport s own)
unless_broken_fits Broken s own h = record { unit = h.unit; size = refl; due = h.fits }
unless_broken_fits Command s own h = by_notes_fits s own h
unless_broken_fits (Sending flow loaded) s own h = by_notes_fits s own h
unless_broken_fits (Receiving flow) s own h = by_notes_fits s own h
unless_broken_fits Status s own h = by_notes_fits s own h

pub taken_up_fits : (s : Storage) (own : Own) → IsSound s → StepFits s.unit.blocks (taken_up s own)
taken_up_fits s own h =
    cond_both s.reset _ _ (StepFits s.unit.blocks)
    (λ _. record { unit = h.unit; size = refl; due = refl })
    (λ _. unless_broken_fits s.transport s own h)

pub served_fits : (blocks : ℕ) (t : Turn) → TurnFits blocks t → TurnFits blocks (served t)
served_fits blocks t h = record { unit = h.unit; size = h.size; fits = h.fits }

-- The whole work.

pub call_lies : (s : Storage) (own : Own) → IsSound s → LiesOn s.unit.blocks (call_of s own)
call_lies s own h =
    cond_both (is_shut own) _ _ (LiesOn s.unit.blocks) (λ _. tt)
    (λ _. lies_by s.unit.blocks (taken_up s own).due (taken_up s own).turn.storage (taken_up_fits s own h).due)

worked_by : (b : Bool) (s : Storage) (own : Own) (answer : Option (List ℕ)) → is_shut own ≡ b → IsSound s → IsAnswer (call_of s own) answer → TurnFits s.unit.blocks (worked s own answer)
worked_by true s own answer e h a = rw e (record { unit = h.unit; size = refl; fits = h.fits })
worked_by false s own answer e h a =
    let known = rw e at a in
    rw e (served_fits s.unit.blocks _ (resumed_fits s.unit.blocks (taken_up s own) answer (taken_up_fits s own h) known))

pub worked_fits : (s : Storage) (own : Own) (answer : Option (List ℕ)) → IsSound s → IsAnswer (call_of s own) answer → TurnFits s.unit.blocks (worked s own answer)
worked_fits s own answer h a = worked_by (is_shut own) s own answer refl h a

pub sound_of : (blocks : ℕ) (t : Turn) → TurnFits blocks t → IsSound t.storage
sound_of blocks t h = record { unit = h.unit; fits = rw h.size h.fits }

-- All else.

pub first_sound : (blocks : ℕ) → IsSound (first blocks)
first_sound blocks = record { unit = record { given = given (blocks == 0) refl }; fits = refl } where
  given : (b : Bool) → (blocks == 0) ≡ b → IsTrue (first_unit blocks).present → 0 < blocks
  given true e h = let no = rw e at h in absurd (both_ways false refl no)
  given false e h = omega (arith, eqb-false blocks 0 e)

pub stopped_sound : (s : Storage) → IsSound s → IsSound (stopped s)
stopped_sound s h = record { unit = h.unit; fits = refl }

pub anew_sound : (s : Storage) → IsSound s → IsSound (anew s)
anew_sound s h = record { unit = record { given = h.unit.given }; fits = refl }

pub setup_sound : (s : Storage) (setup : Setup) → IsSound s → IsSound (after_setup s setup)
setup_sound s setup h = cond_both (is_reset setup) _ _ IsSound (λ _. record { unit = h.unit; fits = h.fits }) (λ _. h)

pub came_sound : (s : Storage) (pipe : ℕ) → IsSound s → IsSound (after_came s pipe)
came_sound s pipe h = cond_both (pipe == data_out) _ _ IsSound (λ _. record { unit = h.unit; fits = h.fits }) (λ _. h)

pub end_sound : (s : Storage) (pipe : ℕ) → IsSound s → IsSound (after_end s pipe)
end_sound s pipe h = cond_both ((pipe == data_in) && s.under_way) _ _ IsSound (λ _. record { unit = h.unit; fits = h.fits }) (λ _. h)

with_medium_sound : (unit : Disk) → IsSoundUnit unit → IsUnit unit.blocks (with_medium unit)
with_medium_sound unit h =
    cond_both (unit.blocks == 0) _ _ (IsUnit unit.blocks) (λ _. (h, refl))
    (λ some. (record { given = λ _. omega (arith, eqb-false unit.blocks 0 some) }, refl))

pub unit_sound : (unit : Disk) (call : MscDeviceCall) → IsSoundUnit unit → IsUnit unit.blocks (unit_after unit call)
unit_sound unit Eject h = (record { given = λ no. absurd (both_ways false refl no) }, refl)
unit_sound unit Insert h = with_medium_sound unit h
unit_sound unit (Protect on) h = (record { given = h.given }, refl)

pub call_sound : (s : Storage) (call : MscDeviceCall) → IsSound s → IsSound (after_call s call)
call_sound s call h = let u = unit_sound s.unit call h.unit in record { unit = u.0; fits = rw u.1 h.fits }
