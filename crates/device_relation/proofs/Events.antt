-- Each bus event.
use Rattle.std.proofs.Common.{◌≡◌, ℕ, zero, suc, ◌<◌, ◌≤◌, List, [], ◌∷◌, ◌++◌, length, Bool, true, false, refl, ap, sym, ◌∙◌, arith, subst, append-nil, All}
use Rattle.std.specs.Prelude.{◌==◌, ◌&&◌, nat_lt, if◌then◌else◌, slice_index_or, replicate}
use Rattle.std.proofs.lemmas.Bool.Decides.{nat_tests}
use Rattle.std.proofs.lemmas.List.Elements.{All-cons, All-nil}
use Rattle.usb_packet.specs.declared.bus.Toggle.{Toggle}
use Rattle.usb_packet.specs.declared.bus.Toggle.TheVariants.{D0}
use Rattle.usb_packet.specs.declared.bus.BusEvent.{BusEvent}
use Rattle.usb_packet.specs.declared.bus.BusEvent.TheVariants as event
use Rattle.usb_packet.specs.declared.bus.BusAnswer.TheVariants as answers
use Rattle.usb_ring.specs.Ring.{Ring}
use Rattle.device_pipe.specs.OutPipe as pipe
use Rattle.device_pipe.specs.InPipe as inward
use Rattle.device_machine.specs.Bus as bus
use Rattle.device_machine.specs.Bus.{Bus}
use Rattle.device_machine.specs.Pipes.{Pipes, pipes_unopened, no_out_slot, no_in_slot}
use Rattle.dwc2_regs.specs.declared.access.TheConstants.{FS4}
use Rattle.dwc2_fifo.specs.Rx.{Entry}
use Rattle.device_table.specs.State.{Table, OutEnd, InEnd, opened, out_end, in_end, in_end_of, no_out_end}
use Rattle.device_table.specs.Bus as table
use Rattle.device_table.specs.Bus.{OutOutcome, unheard, naks, stalls, drops, lands, InOutcome, unheard_in, naks_in, stalls_in, sends, out_entries, out_outcome, in_outcome}
use Rattle.device_arrivals.specs.Arrivals.{Arrival, Packet, Landed, entries_of, landed_on, packets_at, is_data_of, toggle_of_entry, bytes_of_entry, IsArrival}
use Rattle.device_arrivals.proofs.Tells.{tells}
use Rattle.device_arrivals.proofs.Few.{few_none}
use Rattle.device_rings.specs.Rings.{Rings, out_ring, in_ring}
use Rattle.endpoint_relation.specs.OutRelation.{OutStands, OutStandsFor, Lies, closed, not_open}
use Rattle.endpoint_relation.specs.InRelation.{InJoint, InStands, in_unused}
use Rattle.endpoint_relation.specs.InLaws.{InIs}
use Rattle.device_relation.specs.Software.{Software, Joint, unused}
use Rattle.device_relation.specs.Relation.{Stands, IsSetup, IsPacket, abstract, off_off}
use Rattle.device_relation.specs.PipeRelation.{PipesStand, IsSound, pipes_of}
use Rattle.device_relation.specs.Laws.{Keeps, BusKeeps, Starts, AllStart, AreEmpty, IsEvent, at_start, after_event}
use Rattle.device_relation.proofs.Determined.{determined}
use Rattle.device_relation.proofs.Entries.{top_is}
use Rattle.device_relation.proofs.SetupEvents.{reset_stands, setup_stands, hears_setup_is, never, no_packet}
use Rattle.device_relation.proofs.OutEvents.{out0_answer, out0_stands}
use Rattle.device_relation.proofs.InEvents.{in0_answer, in0_stands}
use Rattle.device_relation.proofs.Pipes.{SamePipes, same_pipes}
use Rattle.device_relation.proofs.Lifts.{out_anew, in_anew}
use Rattle.device_relation.proofs.Runs.{pipes_are}
use Rattle.device_relation.proofs.PipeEvents.{OutKept, out_keeps}
use Rattle.device_relation.proofs.PipeTokens.{InKept, in_keeps, out_beyond, in_beyond}

-- what all keep, once the answer and both parts are shown
kept : (j : Joint) (r : Rings) (e : BusEvent) → table.bus_answer j.table e ≡ bus.bus_answer (abstract j) (pipes_of j r) e
    → Stands FS4 (table.after_bus j.table e) j.software (bus.bus_after (abstract j) e)
    → PipesStand FS4 (table.after_bus j.table e) j.software r (bus.pipes_after (abstract j) (pipes_of j r) e) → Keeps FS4 j r e
kept j r e answer st ps =
    let next : abstract (after_event j e) ≡ bus.bus_after (abstract j) e = determined (table.after_bus j.table e) j.software (bus.bus_after (abstract j) e) st in
    let pipes : pipes_of (after_event j e) r ≡ bus.pipes_after (abstract j) (pipes_of j r) e = pipes_are (after_event j e) r (bus.pipes_after (abstract j) (pipes_of j r) e) ps in
    record {
      answer = answer;
      next = next;
      pipes = pipes;
      sound = record {
        zero = subst (λ m. Stands FS4 (table.after_bus j.table e) j.software m) (sym next) st;
        pipes = subst (λ p. PipesStand FS4 (table.after_bus j.table e) j.software r p) (sym pipes) ps;
      };
    }

-- The other endpoints, where endpoint 0 alone is meant.

packets_behind : (n : ℕ) (es fs : List Entry) → packets_at n (es ++ fs) ≡ packets_at n es ++ packets_at n fs
packets_behind n [] fs = refl
packets_behind n (e ∷ es) fs = either (is_data_of n e) (packets_behind n es fs)
  where
    it : Landed
    it = record { toggle = toggle_of_entry e; bytes = bytes_of_entry e }

    either : (b : Bool) → packets_at n (es ++ fs) ≡ packets_at n es ++ packets_at n fs
        → (if b then it ∷ packets_at n (es ++ fs) else packets_at n (es ++ fs)) ≡ (if b then it ∷ packets_at n es else packets_at n es) ++ packets_at n fs
    either true h = ap (λ xs. it ∷ xs) h
    either false h = h

none_behind : (n : ℕ) (es fs : List Entry) → packets_at n fs ≡ [] → packets_at n (es ++ fs) ≡ packets_at n es
none_behind n es fs h = packets_behind n es fs ∙ ap (λ xs. packets_at n es ++ xs) h ∙ append-nil (packets_at n es)

zero_tells_none : (n : ℕ) (toggle : Toggle) (bytes : List ℕ) → IsPacket bytes → packets_at (suc n) (out_entries 0 toggle bytes) ≡ []
zero_tells_none n toggle bytes h =
    (tells FS4.out_eps (Packet 0 toggle bytes ∷ []) top_is (All-cons (IsArrival FS4.out_eps) (Packet 0 toggle bytes) [] (omega arith, h.fits, h.below) (All-nil (IsArrival FS4.out_eps)))).packets (suc n)
    ∙ ap (λ b. if b then record { toggle = toggle; bytes = bytes } ∷ [] else []) (not_zero n)
  where
    not_zero : (n : ℕ) → (suc n == 0) ≡ false
    not_zero n = grind (arith, nat_tests)

setup_pipes : (t : Table) (s : Software) (r : Rings) (p : Pipes) (bytes : List ℕ) (b : Bool) → PipesStand FS4 t s r p → PipesStand FS4 (if b then table.after_setup t bytes else t) s r p
setup_pipes t s r p bytes false ps = ps
setup_pipes t s r p bytes true ps =
    same_pipes t (table.after_setup t bytes) s s r p (record { outs = refl; ins = refl; out_kepts = refl; in_kepts = refl; lie = λ n. none_behind (suc n) t.rx.entries (table.setup_entries bytes) refl }) ps

out_pipes : (t : Table) (s : Software) (r : Rings) (p : Pipes) (toggle : Toggle) (bytes : List ℕ) (o : OutOutcome) → IsPacket bytes → PipesStand FS4 t s r p → PipesStand FS4 (table.after_out t 0 toggle bytes o) s r p
out_pipes t s r p toggle bytes unheard h ps = ps
out_pipes t s r p toggle bytes naks h ps = ps
out_pipes t s r p toggle bytes stalls h ps = ps
out_pipes t s r p toggle bytes drops h ps = ps
out_pipes t s r p toggle bytes lands h ps =
    same_pipes t (table.after_out t 0 toggle bytes lands) s s r p
    (record { outs = refl; ins = refl; out_kepts = refl; in_kepts = refl; lie = λ n. none_behind (suc n) t.rx.entries (out_entries 0 toggle bytes) (zero_tells_none n toggle bytes h) }) ps

in_pipes : (t : Table) (s : Software) (r : Rings) (p : Pipes) (ok : Bool) (o : InOutcome) → PipesStand FS4 t s r p → PipesStand FS4 (table.after_in t 0 ok o) s r p
in_pipes t s r p ok unheard_in ps = ps
in_pipes t s r p ok naks_in ps = ps
in_pipes t s r p ok stalls_in ps = ps
in_pipes t s r p false (sends packet) ps = ps
in_pipes t s r p true (sends packet) ps = same_pipes t (table.after_in t 0 true (sends packet)) s s r p (record { outs = refl; ins = refl; out_kepts = refl; in_kepts = refl; lie = λ n. refl }) ps

pipes_zero : (m : Bus) (p : Pipes) (addr : ℕ) (toggle : Toggle) (bytes : List ℕ) (ok : Bool) → bus.pipes_after m p (event.Out addr 0 toggle bytes ok) ≡ p
pipes_zero m p addr toggle bytes ok = either (bus.hears_packet m addr ok)
  where
    either : (b : Bool) → (if b then p else p) ≡ p
    either true = refl
    either false = refl

pipes_zero_in : (m : Bus) (p : Pipes) (addr : ℕ) (ok : Bool) → bus.pipes_after m p (event.In addr 0 ok) ≡ p
pipes_zero_in m p addr ok = either (bus.hears m addr)
  where
    either : (b : Bool) → (if b then p else p) ≡ p
    either true = refl
    either false = refl

-- SETUP

few_of : (h ok : Bool) (n : ℕ) → (h && (ok && nat_lt n 3)) ≡ true → n < 3
few_of true true n e = grind (arith, nat_tests)
few_of true false n e = never false refl e
few_of false ok n e = never false refl e

setup_by : (t : Table) (s : Software) (m : Bus) (bytes : List ℕ) (b : Bool) → Stands FS4 t s m → IsSetup bytes → (b ≡ true → length m.unserved < 3)
    → Stands FS4 (if b then table.after_setup t bytes else t) s (if b then bus.after_setup m bytes else m)
setup_by t s m bytes true st h few = setup_stands t s m bytes st h (few refl)
setup_by t s m bytes false st h few = st

setup_keeps : (j : Joint) (r : Rings) (addr : ℕ) (bytes : List ℕ) (ok : Bool) → IsSound FS4 j r → IsSetup bytes → Keeps FS4 j r (event.Setup addr bytes ok)
setup_keeps j r addr bytes ok sound h =
    let m = abstract j in
    let t = j.table in
    let st = sound.zero in
    let heard = hears_setup_is t j.software m addr ok st in
    kept j r (event.Setup addr bytes ok) (ap (λ b. if b then answers.Ack else answers.NoAnswer) heard)
    (subst (λ b. Stands FS4 (if b then table.after_setup t bytes else t) j.software (if bus.hears_setup m addr ok then bus.after_setup m bytes else m)) (sym heard)
    (setup_by t j.software m bytes (bus.hears_setup m addr ok) st h (λ e. few_of (bus.hears m addr) ok (length m.unserved) e)))
    (setup_pipes t j.software r (pipes_of j r) bytes (table.hears_setup t addr ok) sound.pipes)

-- OUT and IN, by the number less 1 of the endpoint

within : (n : ℕ) → nat_lt n 3 ≡ true → n < 3
within n e = grind (arith, nat_tests)

out_of_it : (n : ℕ) → nat_lt n 3 ≡ false → 3 ≤ n
out_of_it n e = grind (arith, nat_tests)

out_at : (j : Joint) (r : Rings) (addr n : ℕ) (toggle : Toggle) (bytes : List ℕ) (ok : Bool) (b : Bool) → nat_lt n 3 ≡ b → IsSound FS4 j r → IsPacket bytes → OutKept j.table j.software (abstract j) r (pipes_of j r) addr n toggle bytes ok
out_at j r addr n toggle bytes ok true e sound h = out_keeps j.table j.software (abstract j) r (pipes_of j r) addr n toggle bytes ok (within n e) h sound.zero sound.pipes
out_at j r addr n toggle bytes ok false e sound h = out_beyond j.table j.software (abstract j) r (pipes_of j r) addr n toggle bytes ok (out_of_it n e) sound.zero sound.pipes

in_at : (j : Joint) (r : Rings) (addr n : ℕ) (ok : Bool) (b : Bool) → nat_lt n 3 ≡ b → IsSound FS4 j r → InKept j.table j.software (abstract j) r (pipes_of j r) addr n ok
in_at j r addr n ok true e sound = in_keeps j.table j.software (abstract j) r (pipes_of j r) addr n ok (within n e) sound.zero sound.pipes
in_at j r addr n ok false e sound = in_beyond j.table j.software (abstract j) r (pipes_of j r) addr n ok (out_of_it n e) sound.zero sound.pipes

pub bus_keeps : BusKeeps FS4
bus_keeps j r event.Reset sound h =
    kept j r event.Reset refl (reset_stands j.table j.software (abstract j) sound.zero)
    (same_pipes j.table (table.after_reset j.table) j.software j.software r (pipes_of j r) (record { outs = refl; ins = refl; out_kepts = refl; in_kepts = refl; lie = λ n. refl }) sound.pipes)
bus_keeps j r (event.Setup addr bytes ok) sound h = setup_keeps j r addr bytes ok sound h
bus_keeps j r (event.Out addr zero toggle packet ok) sound h =
    kept j r (event.Out addr 0 toggle packet ok) (out0_answer j.table j.software (abstract j) (pipes_of j r) addr toggle packet ok sound.zero h)
    (out0_stands j.table j.software (abstract j) addr toggle packet ok sound.zero h)
    (subst (λ p. PipesStand FS4 (table.after_bus j.table (event.Out addr 0 toggle packet ok)) j.software r p) (sym (pipes_zero (abstract j) (pipes_of j r) addr toggle packet ok))
    (out_pipes j.table j.software r (pipes_of j r) toggle packet (out_outcome j.table addr 0 toggle packet ok) h sound.pipes))
bus_keeps j r (event.Out addr (suc n) toggle packet ok) sound h =
    let k = out_at j r addr n toggle packet ok (nat_lt n 3) refl sound h in
    kept j r (event.Out addr (suc n) toggle packet ok) k.answer k.zero k.pipes
bus_keeps j r (event.In addr zero ok) sound h =
    kept j r (event.In addr 0 ok) (in0_answer j.table j.software (abstract j) (pipes_of j r) addr ok sound.zero) (in0_stands j.table j.software (abstract j) addr ok sound.zero)
    (subst (λ p. PipesStand FS4 (table.after_bus j.table (event.In addr 0 ok)) j.software r p) (sym (pipes_zero_in (abstract j) (pipes_of j r) addr ok))
    (in_pipes j.table j.software r (pipes_of j r) ok (in_outcome j.table addr 0) sound.pipes))
bus_keeps j r (event.In addr (suc n) ok) sound h =
    let k = in_at j r addr n ok (nat_lt n 3) refl sound in
    kept j r (event.In addr (suc n) ok) k.answer k.zero k.pipes

-- At the start.

start_zero : Stands FS4 (opened FS4) (unused FS4 false) (bus.unconfigured false)
start_zero = record {
  ins = record { kept = refl; stall = refl; enabled = refl; ready = never _ refl; holds = refl; size = never _ refl };
  outs = record { kept = refl; stall = refl; enabled = refl; naks = never _ refl; toggle = never _ refl; lies = never _ refl };
  pair = off_off;
  side = record { taken_is = refl; toggle_is = refl; first = refl; packet = no_packet; alone = refl };
  rx = record { arrivals = []; lie = refl; its = refl; all = few_none FS4.out_eps; counts = refl; few = omega arith; are = tt };
  rest = record { masks = refl; hosts = refl; in_ends = refl; out_ends = refl };
  core = record { awake = refl; reset = refl; address = refl; landed = refl; asleep = refl; next = tt };
}

kept_outs : (n : ℕ) → slice_index_or (unused FS4 false).outs n (not_open false) ≡ not_open false
kept_outs zero = refl
kept_outs (suc zero) = refl
kept_outs (suc (suc zero)) = refl
kept_outs (suc (suc (suc n))) = refl

kept_ins : (n : ℕ) → slice_index_or (unused FS4 false).ins n in_unused ≡ in_unused
kept_ins zero = refl
kept_ins (suc zero) = refl
kept_ins (suc (suc zero)) = refl
kept_ins (suc (suc (suc n))) = refl

none_open : {A : Type 0} (d : A) (k n : ℕ) → slice_index_or (replicate k d) n d ≡ d
none_open d zero n = refl
none_open d (suc k) zero = refl
none_open d (suc k) (suc n) = none_open d k n

first_out : (n : ℕ) → n < 3 → out_end (opened FS4) (suc n) ≡ no_out_end
first_out zero h = refl
first_out (suc zero) h = refl
first_out (suc (suc zero)) h = refl
first_out (suc (suc (suc n))) h = refl

first_in : (n : ℕ) → n < 3 → in_end (opened FS4) (suc n) ≡ in_end_of 32
first_in zero h = refl
first_in (suc zero) h = refl
first_in (suc (suc zero)) h = refl
first_in (suc (suc (suc n))) h = absurd (none n h)
  where
    none : (n : ℕ) → suc (suc (suc n)) < 3 → ⊥
    none n h = omega (arith, h)

closed_out : (n : ℕ) (ring : Ring) → ring.bytes ≡ [] → OutStandsFor (suc n) no_out_end (not_open false) [] ring pipe.unopened
closed_out n ring none = record {
  stands = record {
    lies = closed;
    registers = record { used = refl; sized = never _ refl; stall = refl; enabled = refl; naks = never _ refl; counted = never _ refl; xfrc = refl; epdisd = refl };
    software = record { number_is = never _ refl; some = never _ refl; most = omega arith; room = never _ refl; core = λ _. refl; core_held = λ _. none; closed = λ _. refl };
  };
  pipe = ap (λ (held : List ℕ). record { phase = pipe.Closed false; halted = false; toggle = D0; held = held }) none;
}

closed_in : (n : ℕ) → InIs (suc n) (record { end = in_end_of 32; software = in_unused; ring = [] }) inward.closed
closed_in n = record {
  abstract = refl;
  stands = record { kept = refl; stall = refl; enabled = refl; nak = never _ refl; xfrc = refl; epdisd = refl; count = omega arith; size = tt; fifo = refl; holds = record { unused = refl; empty = refl }; bytes = λ i. omega arith };
}

start_pipes : (r : Rings) → AreEmpty FS4 r → PipesStand FS4 (opened FS4) (unused FS4 false) r pipes_unopened
start_pipes r e =
    let t = opened FS4 in
    let s = unused FS4 false in
    record {
      outs = λ n h. out_anew t s r pipes_unopened n no_out_end (not_open false) [] (out_ring r (suc n)) pipe.unopened
          (record { end_is = first_out n h; kept_is = kept_outs n; lie_is = refl; ring_is = refl; slot_is = none_open no_out_slot 15 n }) (closed_out n (out_ring r (suc n)) (e.outs (suc n)));
      ins = λ n h. in_anew t s r pipes_unopened n (record { end = in_end_of 32; software = in_unused; ring = [] }) inward.closed
          (record { end_is = first_in n h; kept_is = kept_ins n; ring_is = e.ins (suc n); slot_is = none_open no_in_slot 15 n }) (closed_in n);
      out_beyond = λ n h. none_open no_out_slot 15 n;
      in_beyond = λ n h. none_open no_in_slot 15 n;
      out_count = refl;
      in_count = refl;
      out_kepts = refl;
      in_kepts = refl;
      out_rings = e.out_count;
      in_rings = e.in_count;
    }

pub starts : AllStart FS4
starts r e =
    let pipes : pipes_of (at_start FS4) r ≡ pipes_unopened = pipes_are (at_start FS4) r pipes_unopened (start_pipes r e) in
    record {
      sound = record {
        zero = subst (λ m. Stands FS4 (opened FS4) (unused FS4 false) m) (sym (determined (opened FS4) (unused FS4 false) (bus.unconfigured false) start_zero)) start_zero;
        pipes = subst (λ p. PipesStand FS4 (opened FS4) (unused FS4 false) r p) (sym pipes) (start_pipes r e);
      };
      device = determined (opened FS4) (unused FS4 false) (bus.unconfigured false) start_zero;
      pipes = pipes;
    }
