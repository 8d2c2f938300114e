-- What a handler run makes of an OUT endpoint, and what the endpoint is at the start.
use Rattle.std.proofs.Common.{◌≡◌, ℕ, zero, suc, ◌+◌, ◌≤◌, List, [], ◌∷◌, length, append-nil, get_or, Bool, true, false, refl, ap, sym, ◌∙◌, arith, subst}
use Rattle.std.specs.Prelude.{◌&&◌, replicate}
use Rattle.usb_packet.specs.declared.bus.Toggle.{Toggle}
use Rattle.usb_packet.specs.declared.bus.Toggle.TheVariants.{D0}
use Rattle.usb_descriptor.specs.declared.endpoint.Endpoint.{Endpoint}
use Rattle.device_arrivals.specs.Arrivals.{Landed}
use Rattle.usb_ring.specs.Ring.{Ring}
use Rattle.device_pipe.specs.OutPipe as pipe
use Rattle.device_pipe.specs.OutPipe.{OutPhase, OutPipe}
use Rattle.dwc2_regs.specs.declared.access.Profile.{Profile}
use Rattle.device_table.specs.State.{Control, OutEnd, no_out_end, out_end, first, opened}
use Rattle.endpoint_relation.specs.declared.out_.OutState.{OutState}
use Rattle.endpoint_relation.specs.declared.out_.OutState.TheVariants.{Closed, Armed, Stale}
use Rattle.endpoint_relation.specs.declared.out_.OutEndpoint.{OutEndpoint}
use Rattle.endpoint_relation.specs.OutWords.{shows_stall}
use Rattle.endpoint_relation.specs.OutRelation.{Lies, closed as lies_closed, closed_over, at_rest, armed as lies_armed, landed, posted, stale, Registers, Software, OutStandsFor}
use Rattle.endpoint_relation.specs.OutRelation.{not_open, is_used, is_open, is_ready, toggle_of, phase_of}
use Rattle.endpoint_relation.specs.OutSteps.{moved_end, moved, moved_ring, shut_end, reset_end}
use Rattle.endpoint_relation.specs.OutLaws.{OutMoveKeeps, OutMoveFits, OutIdleKeeps, OutResetKeeps, OutStarts}
use Rattle.endpoint_relation.proofs.OutFields.{never, and_false, and_true, or_false}
use Rattle.endpoint_relation.proofs.OutCalls.{at, pipe_of, none_open}

-- A packet is moved, or passed over.

moved_registers : (end : OutEnd) (used : Bool) (size : ℕ) (stalls : Bool) → Registers end used size stalls false → Registers (moved_end end) used size stalls false
moved_registers end used size stalls r = record {
  used = r.used;
  sized = r.sized;
  stall = r.stall;
  enabled = r.enabled;
  naks = r.naks;
  counted = never _ refl;
  xfrc = refl;
  epdisd = and_true end.epdisd ∙ r.epdisd;
}

move_by : {state : OutState} {over : Bool} (number : ℕ) (end : OutEnd) (endpoint : Endpoint) (halt : Bool) (ring : Ring) (arrival : Landed) (arrived : List Landed) → Lies endpoint.size state over (arrival ∷ arrived)
    → let s = at endpoint state halt over in
    Registers end (is_open state) endpoint.size (shows_stall s) (is_ready state (arrival ∷ arrived)) → Software number s ring
    → OutStandsFor number (moved_end end) (moved s) arrived (moved_ring over ring arrival.bytes)
    (pipe.after_irq (pipe_of (phase_of state over (arrival ∷ arrived)) halt (toggle_of state end.toggle) ring.bytes))
move_by number end endpoint halt ring arrival arrived (closed_over p) r w = record {
  stands = record {
    lies = lies_closed;
    registers = moved_registers end false endpoint.size (shows_stall (at endpoint Closed halt true)) r;
    software = record {
      number_is = never _ refl;
      some = never _ refl;
      most = w.most;
      room = never _ refl;
      core = λ _. refl;
      core_held = w.core_held;
      closed = λ h. ap (λ (x : OutEndpoint). record x { over = false }) (w.closed h);
    };
  };
  pipe = ap (λ held. pipe_of (pipe.Closed false) halt D0 held) (sym (append-nil ring.bytes));
}
move_by number end endpoint halt ring arrival arrived (landed p) r w = record {
  stands = record {
    lies = posted;
    registers = moved_registers end true endpoint.size (shows_stall (at endpoint Armed halt false)) r;
    software = record {
      number_is = λ _. w.number_is refl;
      some = λ _. w.some refl;
      most = w.most;
      room = never _ refl;
      core = λ c. never _ refl (w.core c);
      core_held = λ c. never _ refl (w.core c);
      closed = never _ refl;
    };
  };
  pipe = refl;
}
move_by number end endpoint halt ring arrival arrived (stale p) r w = record {
  stands = record {
    lies = at_rest;
    registers = moved_registers end true endpoint.size (shows_stall (at endpoint Stale halt true)) r;
    software = record {
      number_is = λ _. w.number_is refl;
      some = λ _. w.some refl;
      most = w.most;
      room = never _ refl;
      core = λ _. refl;
      core_held = w.core_held;
      closed = never _ refl;
    };
  };
  pipe = ap (λ held. pipe_of pipe.Rest halt end.toggle held) (sym (append-nil ring.bytes));
}

pub out_move : OutMoveKeeps
out_move number end s arrival arrived ring st = move_by number end s.endpoint s.halted ring arrival arrived st.lies st.registers st.software

room_by : (held size bytes capacity : ℕ) → held + size ≤ capacity → bytes ≤ size → held + bytes ≤ capacity
room_by held size bytes capacity h k = omega arith

fits_by : {state : OutState} {over : Bool} (number : ℕ) (endpoint : Endpoint) (halt : Bool) (ring : Ring) (arrival : Landed) (arrived : List Landed) → Lies endpoint.size state over (arrival ∷ arrived)
    → Software number (at endpoint state halt over) ring → over ≡ false → length ring.bytes + length arrival.bytes ≤ ring.capacity
fits_by number endpoint halt ring arrival arrived (closed_over p) w e = absurd (cc)
fits_by number endpoint halt ring arrival arrived (landed p) w e = room_by (length ring.bytes) endpoint.size (length arrival.bytes) ring.capacity (w.room refl) p.fits
fits_by number endpoint halt ring arrival arrived (stale p) w e = absurd (cc)

pub out_move_fits : OutMoveFits
out_move_fits number end s arrival arrived ring st e = fits_by number s.endpoint s.halted ring arrival arrived st.lies st.software e

-- Nothing of the endpoint lies in the receive FIFO.

idle_by : {state : OutState} {over : Bool} (size : ℕ) (halt : Bool) (toggle : Toggle) (held : List ℕ) → Lies size state over []
    → pipe.after_irq (pipe_of (phase_of state over []) halt (toggle_of state toggle) held) ≡ pipe_of (phase_of state over []) halt (toggle_of state toggle) held
idle_by size halt toggle held lies_closed = ap (λ bytes. pipe_of (pipe.Closed false) halt D0 bytes) (append-nil held)
idle_by size halt toggle held at_rest = ap (λ bytes. pipe_of pipe.Rest halt toggle bytes) (append-nil held)
idle_by size halt toggle held lies_armed = ap (λ bytes. pipe_of pipe.Armed halt toggle bytes) (append-nil held)
idle_by size halt toggle held posted = ap (λ bytes. pipe_of pipe.Posted halt toggle bytes) (append-nil held)

pub out_idle : OutIdleKeeps
out_idle number end s ring st = idle_by s.endpoint.size s.halted end.toggle ring.bytes st.lies

-- A reset.

shut_used : (end : OutEnd) → is_used (shut_end end).control ≡ false
shut_used end = refl

shut_stall : (end : OutEnd) → (shut_end end).control.stall ≡ false
shut_stall end = refl

shut_enabled : (end : OutEnd) → (shut_end end).control.enabled ≡ false
shut_enabled end = or_false (end.control.enabled && false) ∙ and_false end.control.enabled

reset_registers : (end popped : OutEnd) → popped.control ≡ (shut_end end).control → Registers (reset_end popped) false 0 false false
reset_registers end popped e = record {
  used = ap is_used e ∙ shut_used end;
  sized = never _ refl;
  stall = ap (λ (control : Control). control.stall) e ∙ shut_stall end;
  enabled = ap (λ (control : Control). control.enabled) e ∙ shut_enabled end;
  naks = never _ refl;
  counted = never _ refl;
  xfrc = and_false popped.xfrc;
  epdisd = and_false popped.epdisd;
}

pub out_reset : OutResetKeeps
out_reset number end popped ring e = record {
  stands = record { lies = lies_closed; registers = reset_registers end popped e; software = none_open number false ring };
  pipe = refl;
}

-- The start.

each_same : {A : Type 0} (k n : ℕ) (a : A) → get_or (replicate k a) n a ≡ a
each_same zero n a = refl
each_same (suc k) zero a = refl
each_same (suc k) (suc n) a = each_same k n a

first_end : (profile : Profile) (number : ℕ) → out_end (first profile) number ≡ no_out_end
first_end profile zero = refl
first_end profile (suc n) = each_same profile.out_eps n no_out_end

opened_end : (profile : Profile) (number : ℕ) → out_end (opened profile) number ≡ no_out_end
opened_end profile zero = refl
opened_end profile (suc n) = each_same profile.out_eps n no_out_end

unused : (number capacity : ℕ) → OutStandsFor number no_out_end (not_open false) [] (record { bytes = []; capacity = capacity }) pipe.unopened
unused number capacity = record {
  stands = record {
    lies = lies_closed;
    registers = record { used = refl; sized = never _ refl; stall = refl; enabled = refl; naks = never _ refl; counted = never _ refl; xfrc = refl; epdisd = refl };
    software = none_open number false (record { bytes = []; capacity = capacity });
  };
  pipe = refl;
}

pub out_starts : OutStarts
out_starts profile number capacity =
    let Stands : OutEnd → Type 0 = λ end. OutStandsFor number end (not_open false) [] (record { bytes = []; capacity = capacity }) pipe.unopened in
    record {
      first = subst Stands (sym (first_end profile number)) (unused number capacity);
      opened = subst Stands (sym (opened_end profile number)) (unused number capacity);
    }
