-- What each call, a task and a class's reading make of an OUT endpoint.
use Rattle.std.proofs.Common.{◌≡◌, ℕ, ◌+◌, ◌≤◌, List, [], length, drop, length-drop, Bool, true, false, refl, ap, sym, ◌∙◌, arith, subst}
use Rattle.std.proofs.Math.Seq.{drop-nil}
use Rattle.std.specs.Prelude.{◌&&◌, not, if◌then◌else◌, IsTrue}
use Rattle.usb_packet.specs.declared.bus.Toggle.{Toggle}
use Rattle.usb_packet.specs.declared.bus.Toggle.TheVariants.{D0}
use Rattle.usb_descriptor.specs.declared.endpoint.Endpoint.{Endpoint}
use Rattle.usb_descriptor.specs.Set.{is_core}
use Rattle.device_arrivals.specs.Arrivals.{Landed}
use Rattle.usb_ring.specs.Ring.{Ring}
use Rattle.device_pipe.specs.OutPipe as pipe
use Rattle.device_pipe.specs.OutPipe.{OutPhase, OutPipe}
use Rattle.device_table.specs.State.{OutEnd}
use Rattle.device_table.specs.Write.{out_control_written}
use Rattle.endpoint_relation.specs.declared.out_.OutState.{OutState}
use Rattle.endpoint_relation.specs.declared.out_.OutState.TheVariants.{Closed, Rest, Stale}
use Rattle.endpoint_relation.specs.declared.out_.OutEndpoint.{OutEndpoint}
use Rattle.endpoint_relation.specs.OutWords.{base, arm_word, data0_word, open_word, shows_stall}
use Rattle.endpoint_relation.specs.OutRelation.{IsPacket, Lies, closed as lies_closed, closed_over, at_rest, armed as lies_armed, landed, posted, stale, Registers, Software, OutStandsFor}
use Rattle.endpoint_relation.specs.OutRelation.{not_open, is_open, is_ready, toggle_of, phase_of}
use Rattle.endpoint_relation.specs.OutSteps.{noted, armed_end, armed, halted, cleared, opened_end, opened, closed_end, closed, emptied}
use Rattle.endpoint_relation.specs.OutLaws.{OutNoteKeeps, OutReadKeeps, OutDropKeeps, OutArmKeeps, OutHaltKeeps, OutClearKeeps, OutOpenKeeps, OutCloseKeeps}
use Rattle.endpoint_relation.proofs.OutFields.{never, Says, reads_nak, base_says, arm_says, data0_says, open_says, written_same, written_armed, written_opened, toggle_kept, toggle_set, and_false, registers_closed}

abbrev pub at : Endpoint → OutState → Bool → Bool → OutEndpoint
at endpoint state halt over = record { endpoint = endpoint; state = state; halted = halt; over = over }

abbrev pub pipe_of : OutPhase → Bool → Toggle → List ℕ → OutPipe
pipe_of phase halt toggle held = record { phase = phase; halted = halt; toggle = toggle; held = held }

both : {A : Type 0} (b : Bool) → IsTrue b → IsTrue (not b) → A
both b h k = absurd (cc (ap not h))

-- Armed.

arm_by : {state : OutState} {over : Bool} {arrived : List Landed} (number : ℕ) (end : OutEnd) (endpoint : Endpoint) (halt : Bool) (ring : Ring) → Lies endpoint.size state over arrived
    → let s = at endpoint state halt over in
    Registers end (is_open state) endpoint.size (shows_stall s) (is_ready state arrived) → Software number s ring
    → state ≡ Rest → halt ≡ false → is_core endpoint.owner ≡ false → length ring.bytes + endpoint.size ≤ ring.capacity
    → OutStandsFor number (armed_end end s) (armed s) arrived ring (pipe.armed (pipe_of (phase_of state over arrived) halt (toggle_of state end.toggle) ring.bytes))
arm_by number end endpoint halt ring at_rest r w e h c room =
    let s = at endpoint Rest halt false in
    record {
      stands = record {
        lies = lies_armed;
        registers = written_armed end (arm_word s) endpoint.size (shows_stall s) false (arm_says s w.most) (w.some refl) w.most r;
        software = record {
          number_is = λ _. w.number_is refl;
          some = λ _. w.some refl;
          most = w.most;
          room = λ _. room;
          core = never _ c;
          core_held = w.core_held;
          closed = never _ refl;
        };
      };
      pipe = ap (λ toggle. pipe_of pipe.Armed halt toggle ring.bytes) (toggle_kept end (arm_word s) endpoint.size (shows_stall s) 1 0 1 (arm_says s w.most))
          ∙ ap (λ b. pipe_of (if b then pipe.Rest else pipe.Armed) halt end.toggle ring.bytes) (sym h);
    }
arm_by number end endpoint halt ring lies_closed r w e h c room = absurd (cc)
arm_by number end endpoint halt ring (closed_over p) r w e h c room = absurd (cc)
arm_by number end endpoint halt ring lies_armed r w e h c room = absurd (cc)
arm_by number end endpoint halt ring (landed p) r w e h c room = absurd (cc)
arm_by number end endpoint halt ring posted r w e h c room = absurd (cc)
arm_by number end endpoint halt ring (stale p) r w e h c room = absurd (cc)

pub out_arm : OutArmKeeps
out_arm number end s arrived ring st e h c room = arm_by number end s.endpoint s.halted ring st.lies st.registers st.software e h c room

-- Halted.

pub same_used : (end : OutEnd) (word size : ℕ) (stalls now : Bool) (d : ℕ) (ready used : Bool) → Says word size now 0 0 d 0 → 1 ≤ size → size ≤ 64 → IsTrue used
    → Registers end used size stalls ready → Registers (out_control_written true end word) used size now ready
same_used end word size stalls now d ready true says some most o r = written_same end word size stalls now d ready says some most r
same_used end word size stalls now d ready false says some most o r = never _ refl o

halted_registers : (core used : Bool) (end : OutEnd) (word size : ℕ) (was ready : Bool) → Says word size (true && not core) 0 0 0 0 → 1 ≤ size → size ≤ 64 → IsTrue used
    → Registers end used size (was && not core) ready → Registers (if core then end else out_control_written true end word) used size (true && not core) ready
halted_registers true used end word size was ready says some most o r = subst (λ stalls. Registers end used size stalls ready) (and_false was) r
halted_registers false used end word size was ready says some most o r = same_used end word size (was && true) true 0 ready used says some most o r

halted_toggle : (core : Bool) (end : OutEnd) (word size : ℕ) (stalls : Bool) → Says word size stalls 0 0 0 0 → (if core then end else out_control_written true end word).toggle ≡ end.toggle
halted_toggle true end word size stalls says = refl
halted_toggle false end word size stalls says = toggle_kept end word size stalls 0 0 0 says

pub out_halt : OutHaltKeeps
out_halt number end s arrived ring st o =
    let w = st.software in
    let new = halted s in
    let says = base_says new w.most in
    record {
      stands = record {
        lies = st.lies;
        registers = halted_registers (is_core s.endpoint.owner) (is_open s.state) end (base new) s.endpoint.size s.halted (is_ready s.state arrived) says (w.some o) w.most o st.registers;
        software = record { number_is = w.number_is; some = w.some; most = w.most; room = w.room; core = w.core; core_held = w.core_held; closed = both _ o };
      };
      pipe = ap (λ toggle. pipe_of (phase_of s.state s.over arrived) true (toggle_of s.state toggle) ring.bytes) (halted_toggle (is_core s.endpoint.owner) end (base new) s.endpoint.size (shows_stall new) says);
    }

-- The halt ends.

either : (b : Bool) → (if b then D0 else D0) ≡ D0
either true = refl
either false = refl

pub out_clear : OutClearKeeps
out_clear number end s arrived ring st o =
    let w = st.software in
    let new = cleared s in
    let says = data0_says new w.most in
    record {
      stands = record {
        lies = st.lies;
        registers = same_used end (data0_word new) s.endpoint.size (shows_stall s) false 1 (is_ready s.state arrived) (is_open s.state) says (w.some o) w.most o st.registers;
        software = record { number_is = w.number_is; some = w.some; most = w.most; room = w.room; core = w.core; core_held = w.core_held; closed = both _ o };
      };
      pipe = ap (λ toggle. pipe_of (phase_of s.state s.over arrived) false (toggle_of s.state toggle) ring.bytes) (toggle_set end (data0_word new) s.endpoint.size (shows_stall new) 0 0 0 says)
          ∙ ap (λ toggle. pipe_of (phase_of s.state s.over arrived) false toggle ring.bytes) (either (is_open s.state));
    }

-- Opened.

opens : (number : ℕ) (end : OutEnd) (endpoint : Endpoint) (ring : Ring) (was : ℕ) (was_stalled : Bool) → Registers end false was was_stalled false
    → endpoint.addr ≡ number → 1 ≤ endpoint.size → endpoint.size ≤ 64 → ring.bytes ≡ []
    → (over : Bool) (arrived : List Landed) → Lies endpoint.size (if over then Stale else Rest) over arrived → is_ready (if over then Stale else Rest) arrived ≡ false
    → let s = at endpoint (if over then Stale else Rest) false over in
    OutStandsFor number (out_control_written true end (open_word s)) s arrived ring (pipe_of (if over then pipe.Stale else pipe.Rest) false D0 [])
opens number end endpoint ring was was_stalled r named some most empty true arrived lies ready =
    let s = at endpoint Stale false true in
    let says = open_says s most in
    record {
      stands = record {
        lies = lies;
        registers = written_opened end (open_word s) endpoint.size was false was_stalled says some most r;
        software = record { number_is = λ _. named; some = λ _. some; most = most; room = never _ refl; core = λ _. refl; core_held = λ _. empty; closed = never _ refl };
      };
      pipe = ap (λ toggle. pipe_of pipe.Stale false toggle ring.bytes) (toggle_set end (open_word s) endpoint.size false 0 1 0 says) ∙ ap (λ held. pipe_of pipe.Stale false D0 held) empty;
    }
opens number end endpoint ring was was_stalled r named some most empty false arrived lies ready =
    let s = at endpoint Rest false false in
    let says = open_says s most in
    record {
      stands = record {
        lies = lies;
        registers = written_opened end (open_word s) endpoint.size was false was_stalled says some most r;
        software = record { number_is = λ _. named; some = λ _. some; most = most; room = never _ refl; core = λ _. refl; core_held = λ _. empty; closed = never _ refl };
      };
      pipe = ap (λ toggle. pipe_of pipe.Rest false toggle ring.bytes) (toggle_set end (open_word s) endpoint.size false 0 1 0 says) ∙ ap (λ held. pipe_of pipe.Rest false D0 held) empty;
    }

empty_by : (number : ℕ) (s : OutEndpoint) (ring : Ring) → Software number s ring → IsTrue (not (is_open s.state)) → ring.bytes ≡ []
empty_by number s ring w h = w.core_held (ap (λ (x : OutEndpoint). is_core x.endpoint.owner) (w.closed h))

open_by : {state : OutState} {over : Bool} {arrived : List Landed} (number : ℕ) (end : OutEnd) (was : Endpoint) (halt : Bool) (ring : Ring) (endpoint : Endpoint) → Lies was.size state over arrived
    → let s = at was state halt over in
    Registers end (is_open state) was.size (shows_stall s) (is_ready state arrived) → Software number s ring
    → state ≡ Closed → endpoint.addr ≡ number → 1 ≤ endpoint.size → endpoint.size ≤ 64
    → OutStandsFor number (opened_end end s endpoint) (opened s endpoint) arrived ring (pipe.opened (pipe_of (phase_of state over arrived) halt (toggle_of state end.toggle) ring.bytes))
open_by number end was halt ring endpoint lies_closed r w e named some most =
    opens number end endpoint ring was.size (shows_stall (at was Closed halt false)) r named some most (empty_by number (at was Closed halt false) ring w refl) false [] at_rest refl
open_by number end was halt ring endpoint (closed_over p) r w e named some most =
    opens number end endpoint ring was.size (shows_stall (at was Closed halt true)) r named some most (empty_by number (at was Closed halt true) ring w refl) true _ (stale p) refl
open_by number end was halt ring endpoint at_rest r w e named some most = absurd (cc)
open_by number end was halt ring endpoint lies_armed r w e named some most = absurd (cc)
open_by number end was halt ring endpoint (landed p) r w e named some most = absurd (cc)
open_by number end was halt ring endpoint posted r w e named some most = absurd (cc)
open_by number end was halt ring endpoint (stale p) r w e named some most = absurd (cc)

pub out_open : OutOpenKeeps
out_open number end s arrived ring endpoint st e named some most = open_by number end s.endpoint s.halted ring endpoint st.lies st.registers st.software e named some most

-- Closed.

pub none_open : (number : ℕ) (over : Bool) (ring : Ring) → Software number (not_open over) (emptied ring)
none_open number over ring = record {
  number_is = never _ refl;
  some = never _ refl;
  most = omega arith;
  room = never _ refl;
  core = λ _. refl;
  core_held = λ _. refl;
  closed = λ _. refl;
}

closes : (number : ℕ) (end : OutEnd) (arrived : List Landed) (ring : Ring) (over now : Bool) → now ≡ over → Lies 0 Closed over arrived
    → OutStandsFor number (closed_end end) (not_open now) arrived (emptied ring) (pipe_of (pipe.Closed over) false D0 [])
closes number end arrived ring over now e lies =
    subst (λ b. OutStandsFor number (closed_end end) (not_open b) arrived (emptied ring) (pipe_of (pipe.Closed over) false D0 [])) (sym e)
    (record { stands = record { lies = lies; registers = registers_closed end; software = none_open number over ring }; pipe = refl })

wider : (size : ℕ) (packet : Landed) → size ≤ 64 → IsPacket size packet → IsPacket 64 packet
wider size packet most p = record { fits = by (length packet.bytes) size p.fits most; below = p.below }
  where
    by : (a b : ℕ) → a ≤ b → b ≤ 64 → a ≤ 64
    by a b h k = omega arith

close_by : {state : OutState} {over : Bool} {arrived : List Landed} (number : ℕ) (end : OutEnd) (endpoint : Endpoint) (halt : Bool) (ring : Ring) → Lies endpoint.size state over arrived
    → let s = at endpoint state halt over in
    Registers end (is_open state) endpoint.size (shows_stall s) (is_ready state arrived) → Software number s ring
    → OutStandsFor number (closed_end end) (closed end s) arrived (emptied ring) (pipe.closed (pipe_of (phase_of state over arrived) halt (toggle_of state end.toggle) ring.bytes))
close_by number end endpoint halt ring lies_closed r w = closes number end [] ring false _ refl lies_closed
close_by number end endpoint halt ring (closed_over p) r w = closes number end _ ring true _ refl (closed_over p)
close_by number end endpoint halt ring at_rest r w = closes number end [] ring false _ refl lies_closed
close_by number end endpoint halt ring lies_armed r w = closes number end [] ring false _ (reads_nak end.control ∙ r.naks refl) lies_closed
close_by number end endpoint halt ring (landed p) r w = closes number end _ ring true _ (reads_nak end.control ∙ r.naks refl) (closed_over (wider endpoint.size _ w.most p))
close_by number end endpoint halt ring posted r w = closes number end [] ring false _ refl lies_closed
close_by number end endpoint halt ring (stale p) r w = closes number end _ ring true _ refl (closed_over p)

pub out_close : OutCloseKeeps
out_close number end s arrived ring st = close_by number end s.endpoint s.halted ring st.lies st.registers st.software

-- The ring.

fewer : (a b size capacity : ℕ) → a ≤ b → b + size ≤ capacity → a + size ≤ capacity
fewer a b size capacity h k = omega arith

with_less : (number : ℕ) (s : OutEndpoint) (ring : Ring) (bytes : List ℕ) → Software number s ring → length bytes ≤ length ring.bytes → (ring.bytes ≡ [] → bytes ≡ [])
    → Software number s (record ring { bytes = bytes })
with_less number s ring bytes w less none = record {
  number_is = w.number_is;
  some = w.some;
  most = w.most;
  room = λ h. fewer (length bytes) (length ring.bytes) s.endpoint.size ring.capacity less (w.room h);
  core = w.core;
  core_held = λ h. none (w.core_held h);
  closed = w.closed;
}

pub out_drop : OutDropKeeps
out_drop number end s arrived ring st = record {
  stands = record { lies = st.lies; registers = st.registers; software = with_less number s ring [] st.software (omega arith) (λ _. refl) };
  pipe = refl;
}

none_left : (n : ℕ) (bytes : List ℕ) → bytes ≡ [] → drop n bytes ≡ []
none_left n bytes h = ap (drop n) h ∙ drop-nil n

less_left : (n : ℕ) (bytes : List ℕ) → length (drop n bytes) ≤ length bytes
less_left n bytes = let h = length-drop n bytes in omega (arith, h)

pub out_read : OutReadKeeps
out_read number end s arrived ring n st = record {
  stands = record { lies = st.lies; registers = st.registers; software = with_less number s ring (drop n ring.bytes) st.software (less_left n ring.bytes) (none_left n ring.bytes) };
  pipe = refl;
}

-- A task takes the note.

note_by : {state : OutState} {over : Bool} {arrived : List Landed} (number : ℕ) (end : OutEnd) (endpoint : Endpoint) (halt : Bool) (ring : Ring) → Lies endpoint.size state over arrived
    → let s = at endpoint state halt over in
    Registers end (is_open state) endpoint.size (shows_stall s) (is_ready state arrived) → Software number s ring
    → OutStandsFor number end (noted s) arrived ring (pipe.after_task (pipe_of (phase_of state over arrived) halt (toggle_of state end.toggle) ring.bytes))
note_by number end endpoint halt ring posted r w = record {
  stands = record {
    lies = at_rest;
    registers = r;
    software = record { number_is = λ _. w.number_is refl; some = λ _. w.some refl; most = w.most; room = never _ refl; core = λ _. refl; core_held = w.core_held; closed = never _ refl };
  };
  pipe = refl;
}
note_by number end endpoint halt ring lies_closed r w = record { stands = record { lies = lies_closed; registers = r; software = w }; pipe = refl }
note_by number end endpoint halt ring (closed_over p) r w = record { stands = record { lies = closed_over p; registers = r; software = w }; pipe = refl }
note_by number end endpoint halt ring at_rest r w = record { stands = record { lies = at_rest; registers = r; software = w }; pipe = refl }
note_by number end endpoint halt ring lies_armed r w = record { stands = record { lies = lies_armed; registers = r; software = w }; pipe = refl }
note_by number end endpoint halt ring (landed p) r w = record { stands = record { lies = landed p; registers = r; software = w }; pipe = refl }
note_by number end endpoint halt ring (stale p) r w = record { stands = record { lies = stale p; registers = r; software = w }; pipe = refl }

pub out_note : OutNoteKeeps
out_note number end s arrived ring st = note_by number end s.endpoint s.halted ring st.lies st.registers st.software
