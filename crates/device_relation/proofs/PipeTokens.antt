-- A token on an endpoint other than 0, and what comes for one that the controller hasn't.
use Rattle.std.proofs.Common.{◌≡◌, ℕ, zero, suc, ◌<◌, ◌≤◌, List, [], ◌∷◌, length, Bool, true, false, refl, ap, sym, ◌∙◌, arith, subst, length-set}
use Rattle.std.specs.Prelude.{◌==◌, ◌&&◌, ◌||◌, not, if◌then◌else◌, slice_index_or, slice_set}
use Rattle.std.proofs.lemmas.List.{set-get_or}
use Rattle.usb_packet.specs.declared.bus.Toggle.{Toggle}
use Rattle.usb_packet.specs.declared.bus.BusAnswer.{BusAnswer}
use Rattle.usb_packet.specs.declared.bus.BusAnswer.TheVariants as answers
use Rattle.usb_packet.specs.declared.bus.BusEvent.TheVariants as event
use Rattle.usb_descriptor.specs.declared.endpoint.Endpoint.{Endpoint}
use Rattle.usb_descriptor.specs.Set.{is_core}
use Rattle.usb_ring.specs.Ring.{Ring}
use Rattle.dwc2_regs.specs.declared.access.TheConstants.{FS4}
use Rattle.dwc2_fifo.specs.Rx.{Rx}
use Rattle.device_table.specs.State.{Table, InEnd, OutEnd, in_end, out_end, in_end_of, no_out_end}
use Rattle.device_table.specs.Bus as table
use Rattle.device_table.specs.Bus.{hears, OutOutcome, unheard, InOutcome, unheard_in, naks_in, stalls_in}
use Rattle.device_arrivals.specs.Arrivals.{packets_at}
use Rattle.device_rings.specs.Rings.{Rings, in_ring, no_ring}
use Rattle.device_pipe.specs.InPipe as inward
use Rattle.device_pipe.specs.InPipe.{InPipe}
use Rattle.device_machine.specs.Bus as bus
use Rattle.device_machine.specs.Bus.{Bus}
use Rattle.device_machine.specs.Pipes.{Pipes, OutSlot, InSlot, out_slot, in_slot, with_in_slot, with_out_slot, no_out_slot, no_in_slot, out_slot_answer, out_slot_after, in_slot_answer, in_slot_after}
use Rattle.endpoint_relation.specs.declared.in_.InEndpoint.{InEndpoint}
use Rattle.endpoint_relation.specs.InRelation.{InJoint, InStands, abstract_in, in_unused}
use Rattle.endpoint_relation.specs.InSteps.{token_answer, in_token}
use Rattle.endpoint_relation.specs.InLaws.{InIs, TokenKeeps, answer_for}
use Rattle.endpoint_relation.specs.InTable.{BusAt}
use Rattle.endpoint_relation.proofs.InOnTable.{bus_at}
use Rattle.endpoint_relation.proofs.InToken.{tokens}
use Rattle.endpoint_relation.specs.OutSteps.{outcome_at}
use Rattle.endpoint_relation.proofs.OutTables.{outcome_is}
use Rattle.device_relation.specs.Software.{Software, in_kept}
use Rattle.device_relation.specs.Relation.{Stands}
use Rattle.device_relation.specs.PipeRelation.{PipesStand, InPipePart, in_joint}
use Rattle.device_relation.proofs.SetupEvents.{hears_is, never, not_zero}
use Rattle.device_relation.proofs.Lifts.{in_changes}
use Rattle.device_relation.proofs.Runs.{past_three}
use Rattle.device_relation.proofs.PipeEvents.{OutKept, answer_same, bus_same}

abbrev slot_of : Endpoint → InPipe → InSlot
slot_of endpoint pipe = record { endpoint = endpoint; pipe = pipe }

-- an open endpoint of the core answers NAK, and each other one as its pipe
answer_is : (e : Endpoint) (p : InPipe) → answer_for (is_core e.owner) p ≡ in_slot_answer (slot_of e p)
answer_is e p = by_owner (is_core e.owner) (inward.is_closed p.phase) refl
  where
    by_owner : (core closed : Bool) → inward.is_closed p.phase ≡ closed → answer_for core p ≡ (if not closed then (if core then answers.Nak else inward.in_answer p) else answers.NoAnswer)
    by_owner true true k = ap (λ b. if b then answers.NoAnswer else answers.Nak) k
    by_owner true false k = ap (λ b. if b then answers.NoAnswer else answers.Nak) k
    by_owner false true k = ap (λ b. if b then answers.NoAnswer else (if p.halted then answers.Stall else inward.sent p.toggle (inward.next_packet p.phase p.loaded))) k
    by_owner false false k = refl

after_is : (e : Endpoint) (p : InPipe) (ok : Bool) → slot_of e (inward.after_token p ok) ≡ in_slot_after (slot_of e p) ok
after_is e p ok = by_phase (inward.is_closed p.phase) refl ok
  where
    by_phase : (closed : Bool) → inward.is_closed p.phase ≡ closed → (ok : Bool) → slot_of e (inward.after_token p ok) ≡ (if not closed then slot_of e (inward.after_token p ok) else slot_of e p)
    by_phase false k ok = refl
    by_phase true k false = refl
    by_phase true k true = ap (λ b. slot_of e (inward.after_answer p (if b then answers.NoAnswer else (if p.halted then answers.Stall else inward.sent p.toggle (inward.next_packet p.phase p.loaded))))) k

pub record InKept (t : Table) (s : Software) (m : Bus) (r : Rings) (p : Pipes) (addr n : ℕ) (ok : Bool) : Type 0 where
  pub answer : table.bus_answer t (event.In addr (suc n) ok) ≡ bus.bus_answer m p (event.In addr (suc n) ok)
  pub zero : Stands FS4 (table.after_bus t (event.In addr (suc n) ok)) s (bus.bus_after m (event.In addr (suc n) ok))
  pub pipes : PipesStand FS4 (table.after_bus t (event.In addr (suc n) ok)) s r (bus.pipes_after m p (event.In addr (suc n) ok))

in_bus_same : (m : Bus) (addr n : ℕ) (ok : Bool) → m ≡ bus.bus_after m (event.In addr (suc n) ok)
in_bus_same m addr n ok = both (bus.hears m addr) ok ∙ ap (λ x. if bus.hears m addr && (ok && (x && bus.is_empty m.unserved)) then bus.after_in m m.side else m) (sym (not_zero n))
  where
    both : (h ok : Bool) → m ≡ (if h && (ok && false) then bus.after_in m m.side else m)
    both true true = refl
    both true false = refl
    both false ok = refl

in_answer_same : (m : Bus) (p : Pipes) (addr n : ℕ) (ok : Bool)
    → (if bus.hears m addr then in_slot_answer (in_slot p (suc n)) else answers.NoAnswer) ≡ bus.bus_answer m p (event.In addr (suc n) ok)
in_answer_same m p addr n ok =
    ap (λ b. if bus.hears m addr then (if b then bus.control_in_answer m else in_slot_answer (in_slot p (suc n))) else answers.NoAnswer) (sym (not_zero n))

-- one IN endpoint of the controller changes
zero_stays : (t : Table) (s : Software) (m : Bus) (n : ℕ) (end : InEnd) (b : Bool) → Stands FS4 t s m → Stands FS4 (if b then record t { ins = slice_set t.ins n end } else t) s m
zero_stays t s m n end false st = st
zero_stays t s m n end true st = record {
  ins = st.ins;
  outs = st.outs;
  pair = st.pair;
  side = st.side;
  rx = st.rx;
  rest = record { masks = st.rest.masks; hosts = st.rest.hosts; in_ends = length-set t.ins n end ∙ st.rest.in_ends; out_ends = st.rest.out_ends };
  core = record { awake = st.core.awake; reset = st.core.reset; address = st.core.address; landed = st.core.landed; asleep = st.core.asleep; next = st.core.next };
}

pipes_move : (t : Table) (s : Software) (r : Rings) (p : Pipes) (n : ℕ) (ok heard : Bool) → n < 3 → length t.ins ≡ 3 → InPipePart t s r p n → PipesStand FS4 t s r p
    → PipesStand FS4 (if heard then record t { ins = slice_set t.ins n (in_token (suc n) (in_joint t s r (suc n)) ok).end } else t) s r (if heard then with_in_slot p (suc n) (in_slot_after (in_slot p (suc n)) ok) else p)
pipes_move t s r p n ok false few count part ps = ps
pipes_move t s r p n ok true few count part ps =
    let j : InJoint = in_joint t s r (suc n) in
    let its : TokenKeeps (suc n) j ok = tokens n j ok part.stands in
    in_changes t (record t { ins = slice_set t.ins n (in_token (suc n) j ok).end }) s s r r p (with_in_slot p (suc n) (in_slot_after (in_slot p (suc n)) ok)) n (in_token (suc n) j ok) (in_ring r (suc n)) (inward.after_token (abstract_in j) ok) few count
    (record {
      ends = refl;
      out_ends = refl;
      lies = λ k. refl;
      kepts = sym (set-get_or s.ins n in_unused);
      out_kepts = refl;
      ring_is = refl;
      rings = sym (set-get_or r.ins n no_ring);
      out_rings = refl;
      slots = ap (λ x. slice_set p.ins n x) (ap (λ x. in_slot_after x ok) part.slot ∙ sym (after_is (in_kept s (suc n)).endpoint (abstract_in j) ok));
      out_slots = refl;
    }) its.next ps

pub in_keeps : (t : Table) (s : Software) (m : Bus) (r : Rings) (p : Pipes) (addr n : ℕ) (ok : Bool) → n < 3 → Stands FS4 t s m → PipesStand FS4 t s r p → InKept t s m r p addr n ok
in_keeps t s m r p addr n ok few st ps =
    let j : InJoint = in_joint t s r (suc n) in
    let part : InPipePart t s r p n = ps.ins n few in
    let on : BusAt n t (in_kept s (suc n)) (in_ring r (suc n)).bytes addr ok = bus_at n t (in_kept s (suc n)) (in_ring r (suc n)).bytes addr ok in
    let its : TokenKeeps (suc n) j ok = tokens n j ok part.stands in
    let heard : hears t addr ≡ bus.hears m addr = hears_is t s m addr st.core in
    record {
      answer = on.answer ∙ ap (λ x. if hears t addr then x else answers.NoAnswer) (its.answer ∙ answer_is (in_kept s (suc n)).endpoint (abstract_in j) ∙ ap in_slot_answer (sym part.slot))
          ∙ ap (λ b. if b then in_slot_answer (in_slot p (suc n)) else answers.NoAnswer) heard ∙ in_answer_same m p addr n ok;
      zero = subst (λ x. Stands FS4 (table.after_bus t (event.In addr (suc n) ok)) s x) (in_bus_same m addr n ok)
          (subst (λ x. Stands FS4 x s m) (sym on.next) (zero_stays t s m n (in_token (suc n) j ok).end (hears t addr) st));
      pipes = subst (λ x. PipesStand FS4 x s r (bus.pipes_after m p (event.In addr (suc n) ok))) (sym on.next)
          (subst (λ b. PipesStand FS4 (if hears t addr then record t { ins = slice_set t.ins n (in_token (suc n) j ok).end } else t) s r (if b then with_in_slot p (suc n) (in_slot_after (in_slot p (suc n)) ok) else p)) heard
          (pipes_move t s r p n ok (hears t addr) few st.rest.in_ends part ps));
    }

-- An endpoint that the controller hasn't is silent.

silent : (heard : Bool) → (if not heard then unheard else unheard) ≡ unheard
silent true = refl
silent false = refl

pub out_beyond : (t : Table) (s : Software) (m : Bus) (r : Rings) (p : Pipes) (addr n : ℕ) (toggle : Toggle) (bytes : List ℕ) (ok : Bool) → 3 ≤ n → Stands FS4 t s m → PipesStand FS4 t s r p
    → OutKept t s m r p addr n toggle bytes ok
out_beyond t s m r p addr n toggle bytes ok h st ps =
    let end : out_end t (suc n) ≡ no_out_end = past_three t.outs n no_out_end st.rest.out_ends h in
    let is : table.out_outcome t addr (suc n) toggle bytes ok ≡ unheard =
    outcome_is t addr n toggle bytes ok ∙ ap (λ x. outcome_at x toggle bytes (hears t addr && ok) (table.has_room t bytes)) end ∙ nothing (hears t addr && ok) in
    let closed : out_slot p (suc n) ≡ no_out_slot = ps.out_beyond n h in
    record {
      answer = ap table.out_answer is ∙ sym (ap (λ x. if bus.hears_packet m addr ok then out_slot_answer x (length bytes) else answers.NoAnswer) closed ∙ none (bus.hears_packet m addr ok)) ∙ answer_same m p addr n toggle bytes ok;
      zero = subst (λ x. Stands FS4 (table.after_bus t (event.Out addr (suc n) toggle bytes ok)) s x) (bus_same m addr n toggle bytes ok)
          (subst (λ x. Stands FS4 (table.after_out t (suc n) toggle bytes x) s m) (sym is) st);
      pipes = subst (λ x. PipesStand FS4 (table.after_out t (suc n) toggle bytes x) s r (bus.pipes_after m p (event.Out addr (suc n) toggle bytes ok))) (sym is)
          (subst (λ x. PipesStand FS4 t s r x) (sym (stays (bus.hears_packet m addr ok))) ps);
    }
  where
    none : (b : Bool) → (if b then out_slot_answer no_out_slot (length bytes) else answers.NoAnswer) ≡ answers.NoAnswer
    none true = refl
    none false = refl

    nothing : (heard : Bool) → outcome_at no_out_end toggle bytes heard (table.has_room t bytes) ≡ unheard
    nothing true = refl
    nothing false = refl

    same : out_slot_after (out_slot p (suc n)) toggle bytes ≡ out_slot p (suc n)
    same = ap (λ x. out_slot_after x toggle bytes) (ps.out_beyond n h) ∙ sym (ps.out_beyond n h)

    stays : (b : Bool) → (if b then with_out_slot p (suc n) (out_slot_after (out_slot p (suc n)) toggle bytes) else p) ≡ p
    stays true = ap (λ x. record p { outs = slice_set p.outs n x }) same ∙ ap (λ xs. record p { outs = xs }) (set-get_or p.outs n no_out_slot)
    stays false = refl

pub in_beyond : (t : Table) (s : Software) (m : Bus) (r : Rings) (p : Pipes) (addr n : ℕ) (ok : Bool) → 3 ≤ n → Stands FS4 t s m → PipesStand FS4 t s r p → InKept t s m r p addr n ok
in_beyond t s m r p addr n ok h st ps =
    let end : in_end t (suc n) ≡ in_end_of 0 = past_three t.ins n (in_end_of 0) st.rest.in_ends h in
    let is : table.in_outcome t addr (suc n) ≡ unheard_in = ap (λ x. outcome_for x) end ∙ nothing (hears t addr) in
    let closed : in_slot p (suc n) ≡ no_in_slot = ps.in_beyond n h in
    record {
      answer = ap (table.in_answer (in_end t (suc n)).toggle) is ∙ sym (ap (λ x. if bus.hears m addr then in_slot_answer x else answers.NoAnswer) closed ∙ none (bus.hears m addr)) ∙ in_answer_same m p addr n ok;
      zero = subst (λ x. Stands FS4 (table.after_bus t (event.In addr (suc n) ok)) s x) (in_bus_same m addr n ok)
          (subst (λ x. Stands FS4 (table.after_in t (suc n) ok x) s m) (sym is) st);
      pipes = subst (λ x. PipesStand FS4 (table.after_in t (suc n) ok x) s r (bus.pipes_after m p (event.In addr (suc n) ok))) (sym is)
          (subst (λ x. PipesStand FS4 t s r x) (sym (stays (bus.hears m addr))) ps);
    }
  where
    outcome_for : InEnd → InOutcome
    outcome_for x =
        if not (hears t addr && table.is_open (suc n) x.control) then unheard_in
        else if x.control.stall then stalls_in
        else if not x.control.enabled || x.control.nak then naks_in
        else table.sends_of (table.packet_ready (suc n) x)

    none : (b : Bool) → (if b then in_slot_answer no_in_slot else answers.NoAnswer) ≡ answers.NoAnswer
    none true = refl
    none false = refl

    nothing : (heard : Bool) → (if not (heard && false) then unheard_in else naks_in) ≡ unheard_in
    nothing true = refl
    nothing false = refl

    same : in_slot_after (in_slot p (suc n)) ok ≡ in_slot p (suc n)
    same = ap (λ x. in_slot_after x ok) (ps.in_beyond n h) ∙ sym (ps.in_beyond n h)

    stays : (b : Bool) → (if b then with_in_slot p (suc n) (in_slot_after (in_slot p (suc n)) ok) else p) ≡ p
    stays true = ap (λ x. record p { ins = slice_set p.ins n x }) same ∙ ap (λ xs. record p { ins = xs }) (set-get_or p.ins n no_in_slot)
    stays false = refl
