-- A handler run is the device's.
use Rattle.std.proofs.Common.{◌≡◌, ℕ, zero, suc, ◌+◌, ◌<◌, ◌≤◌, List, [], ◌∷◌, length, map, Bool, true, false, Option, refl, ap, sym, ◌∙◌, arith, subst, ext_get_or}
use Rattle.std.specs.Prelude.{if◌then◌else◌, nat_lt, slice_index_or}
use Rattle.std.proofs.lemmas.Bool.Decides.{nat_tests}
use Rattle.std.proofs.Math.ListN.{get_or-eq_default}
use Rattle.usb_packet.specs.declared.bus.Toggle.TheVariants.{D0}
use Rattle.usb_ring.specs.Ring.{Ring}
use Rattle.device_pipe.specs.OutPipe as pipe
use Rattle.device_pipe.specs.InPipe as inward
use Rattle.device_machine.specs.declared.control.Stage.{Stage}
use Rattle.device_machine.specs.Bus.{Bus, finished_stage}
use Rattle.device_machine.specs.Packets.{numbers_from}
use Rattle.device_machine.specs.Pipes.{Pipes, OutSlot, InSlot, out_slot, in_slot, no_out_slot, no_in_slot, top_number}
use Rattle.dwc2_regs.specs.declared.access.TheConstants.{FS4}
use Rattle.device_table.specs.State.{Table, in_end, out_end}
use Rattle.device_arrivals.specs.Arrivals.{packets_at}
use Rattle.device_rings.specs.Rings.{Rings, out_ring, in_ring, no_ring, all_emptied}
use Rattle.endpoint_relation.proofs.OutRuns.{out_move, out_idle}
use Rattle.endpoint_relation.proofs.InServe.{serves}
use Rattle.endpoint_relation.specs.OutRelation.{not_open, abstract_out}
use Rattle.endpoint_relation.specs.InRelation.{in_unused, abstract_in}
use Rattle.device_relation.specs.Software.{Software, Joint, unused}
use Rattle.device_relation.specs.Relation.{Stands, abstract}
use Rattle.device_relation.specs.PipeRelation.{PipesStand, IsSound, pipes_of, out_slot_of, in_slot_of}
use Rattle.device_relation.specs.Port.{Port, StandsFor, AllStandFor, port_of, port_reset, after_plain_run, after_handler}
use Rattle.device_relation.specs.Run.{Whole, run, reset_served, served_by}
use Rattle.device_relation.proofs.Determined.{determined}
use Rattle.device_relation.proofs.Stages.{reset_is}
use Rattle.device_relation.proofs.Finish.{RunLaws, all_for, serves_for}
use Rattle.device_relation.proofs.Resets.{reset_for}

laws : RunLaws
laws = record { laws = record { outs = out_move; ins = serves }; idle = out_idle }

by_reset : (j : Joint) (r : Rings) (p : Port) (b : Bool) → p.bus.reset ≡ b → AllStandFor FS4 j r p
    → all_for (if b then record { joint = record { table = reset_served FS4 j.table; software = unused FS4 true }; rings = all_emptied r } else served_by FS4 (record { joint = j; rings = r }) j.software.side)
    (if b then port_reset else after_plain_run p)
by_reset j r p true e a = reset_for j r p a e
by_reset j r p false e a = serves_for laws j r p a

pub run_for : (j : Joint) (r : Rings) (p : Port) → AllStandFor FS4 j r p → all_for (run FS4 (record { joint = j; rings = r })) (after_handler p)
run_for j r p a =
    subst (λ b. all_for (if b then record { joint = record { table = reset_served FS4 j.table; software = unused FS4 true }; rings = all_emptied r } else served_by FS4 (record { joint = j; rings = r }) j.software.side) (after_handler p))
    (a.zero.stands.core.reset ∙ sym (reset_is j.table)) (by_reset j r p p.bus.reset refl a)

-- The device with notes is determined.

-- the numbers from one on
at_number : {A : Type 0} (f : ℕ → A) (k n i : ℕ) (d : A) → i < k → slice_index_or (map f (numbers_from n k)) i d ≡ f (n + i)
at_number f zero n i d h = absurd (none i h)
  where
    none : (i : ℕ) → i < 0 → ⊥
    none i h = omega (arith, h)
at_number f (suc k) n zero d h = ap f (omega arith)
at_number f (suc k) n (suc i) d h = at_number f k (n + 1) i d (omega (arith, h)) ∙ ap f (omega arith)

pub slot_at : {A : Type 0} (f : ℕ → A) (i : ℕ) (d : A) → i < 15 → slice_index_or (map f (numbers_from 1 15)) i d ≡ f (suc i)
slot_at f i d h = at_number f 15 1 i d h ∙ ap f (omega arith)

counted : {A : Type 0} (f : ℕ → A) (n k : ℕ) → length (map f (numbers_from n k)) ≡ k
counted f n zero = refl
counted f n (suc k) = ap suc (counted f (n + 1) k)

within : (i : ℕ) → nat_lt i 3 ≡ true → i < 3
within i e = grind (arith, nat_tests)

out_of_it : (i : ℕ) → nat_lt i 3 ≡ false → 3 ≤ i
out_of_it i e = grind (arith, nat_tests)

pub past_three : {A : Type 0} (xs : List A) (i : ℕ) (d : A) → length xs ≡ 3 → 3 ≤ i → slice_index_or xs i d ≡ d
past_three xs i d e h = get_or-eq_default xs d (subst (λ n. n ≤ i) (sym e) h)

-- an endpoint that the controller hasn't
beyond_out : (t : Table) (s : Software) (r : Rings) (p : Pipes) (i : ℕ) → PipesStand FS4 t s r p → 3 ≤ i → out_slot_of t s r (suc i) ≡ no_out_slot
beyond_out t s r p i ps h =
    ap (λ k. record { endpoint = k.endpoint; pipe = abstract_out (out_end t (suc i)) k (packets_at (suc i) t.rx.entries) (out_ring r (suc i)).bytes }) (past_three s.outs i (not_open false) ps.out_kepts h)
    ∙ ap (λ (x : Ring). record { endpoint = no_out_slot.endpoint; pipe = record { phase = pipe.Closed false; halted = false; toggle = D0; held = x.bytes } }) (past_three r.outs i no_ring ps.out_rings h)

beyond_in : (t : Table) (s : Software) (r : Rings) (p : Pipes) (i : ℕ) → PipesStand FS4 t s r p → 3 ≤ i → in_slot_of t s r (suc i) ≡ no_in_slot
beyond_in t s r p i ps h =
    ap (λ k. record { endpoint = k.endpoint; pipe = abstract_in (record { end = in_end t (suc i); software = k; ring = (in_ring r (suc i)).bytes }) }) (past_three s.ins i in_unused ps.in_kepts h)
    ∙ ap (λ (x : Ring). record { endpoint = no_in_slot.endpoint; pipe = record { queue = x.bytes; phase = inward.Closed; loaded = 0; toggle = D0; halted = false } }) (past_three r.ins i no_ring ps.in_rings h)

outs_are : (t : Table) (s : Software) (r : Rings) (p : Pipes) → PipesStand FS4 t s r p → map (out_slot_of t s r) (numbers_from 1 15) ≡ p.outs
outs_are t s r p ps =
    ext_get_or no_out_slot (map (out_slot_of t s r) (numbers_from 1 15)) p.outs (counted (out_slot_of t s r) 1 15 ∙ sym ps.out_count)
    (λ i h. slot_at (out_slot_of t s r) i no_out_slot (subst (λ n. i < n) (counted (out_slot_of t s r) 1 15) h) ∙ each i (nat_lt i 3) refl)
  where
    each : (i : ℕ) (b : Bool) → nat_lt i 3 ≡ b → out_slot_of t s r (suc i) ≡ out_slot p (suc i)
    each i true e = sym (ps.outs i (within i e)).slot
    each i false e = beyond_out t s r p i ps (out_of_it i e) ∙ sym (ps.out_beyond i (out_of_it i e))

ins_are : (t : Table) (s : Software) (r : Rings) (p : Pipes) → PipesStand FS4 t s r p → map (in_slot_of t s r) (numbers_from 1 15) ≡ p.ins
ins_are t s r p ps =
    ext_get_or no_in_slot (map (in_slot_of t s r) (numbers_from 1 15)) p.ins (counted (in_slot_of t s r) 1 15 ∙ sym ps.in_count)
    (λ i h. slot_at (in_slot_of t s r) i no_in_slot (subst (λ n. i < n) (counted (in_slot_of t s r) 1 15) h) ∙ each i (nat_lt i 3) refl)
  where
    each : (i : ℕ) (b : Bool) → nat_lt i 3 ≡ b → in_slot_of t s r (suc i) ≡ in_slot p (suc i)
    each i true e = sym (ps.ins i (within i e)).slot
    each i false e = beyond_in t s r p i ps (out_of_it i e) ∙ sym (ps.in_beyond i (out_of_it i e))

pub pipes_are : (j : Joint) (r : Rings) (p : Pipes) → PipesStand FS4 j.table j.software r p → pipes_of j r ≡ p
pipes_are j r p ps =
    ap (λ v. record { outs = v; ins = map (in_slot_of j.table j.software r) (numbers_from 1 15) }) (outs_are j.table j.software r p ps)
    ∙ ap (λ v. record { outs = p.outs; ins = v }) (ins_are j.table j.software r p ps)

pub port_is : (j : Joint) (r : Rings) (p : Port) → AllStandFor FS4 j r p → port_of j r ≡ p
port_is j r p a =
    let f = a.zero in
    ap (λ b. record (port_of j r) { bus = b }) (determined j.table j.software p.bus f.stands)
    ∙ ap (λ v. record (port_of j r) { bus = p.bus; pipes = v }) (pipes_are j r p.pipes a.pipes)
    ∙ ap (λ v. record (port_of j r) { bus = p.bus; pipes = p.pipes; heard = v }) (sym f.heard)
    ∙ ap (λ v. record (port_of j r) { bus = p.bus; pipes = p.pipes; heard = p.heard; next_address = v }) (sym f.next_address)
    ∙ ap (λ v. record (port_of j r) { bus = p.bus; pipes = p.pipes; heard = p.heard; next_address = p.next_address; reset = v }) (sym f.reset)
    ∙ ap (λ v. record (port_of j r) { bus = p.bus; pipes = p.pipes; heard = p.heard; next_address = p.next_address; reset = p.reset; finished = v }) (sym f.finished)
    ∙ ap (λ v. record (port_of j r) { bus = p.bus; pipes = p.pipes; heard = p.heard; next_address = p.next_address; reset = p.reset; finished = p.finished; request = v }) (sym f.request)

-- what a step leaves, where it leaves this device
pub record Ends (new : Joint) (r : Rings) (p : Port) : Type 0 where
  pub port : port_of new r ≡ p
  pub sound : IsSound FS4 new r

pub ended : (j : Joint) (r : Rings) (p : Port) → AllStandFor FS4 j r p → Ends j r p
ended j r p a =
    let is = port_is j r p a in
    record {
      port = is;
      sound = record {
        zero = subst (λ m. Stands FS4 j.table j.software m) (sym (ap (λ (q : Port). q.bus) is)) a.zero.stands;
        pipes = subst (λ q. PipesStand FS4 j.table j.software r q) (sym (ap (λ (q : Port). q.pipes) is)) a.pipes;
      };
    }

pub ends : (new j : Joint) (r : Rings) (p : Port) → new ≡ j → AllStandFor FS4 j r p → Ends new r p
ends new j r p e a = subst (λ x. Ends x r p) (sym e) (ended j r p a)

-- controller, software and rings stand for the device that they are
pub itself : (j : Joint) (r : Rings) → IsSound FS4 j r → AllStandFor FS4 j r (port_of j r)
itself j r h = record { zero = record { stands = h.zero; heard = refl; next_address = refl; reset = refl; finished = refl; request = refl }; pipes = h.pipes }

-- notes more or less change nothing
pub other_notes : (t : Table) (s : Software) (m : Bus) (reset : Bool) (finished : Option Stage) (request : Option (List ℕ)) → Stands FS4 t s m
    → Stands FS4 t (record s { reset = reset; finished = finished; request = request }) m
other_notes t s m reset finished request st = record {
  ins = st.ins;
  outs = st.outs;
  pair = st.pair;
  side = st.side;
  rx = st.rx;
  rest = st.rest;
  core = record { awake = st.core.awake; reset = st.core.reset; address = st.core.address; landed = st.core.landed; asleep = st.core.asleep; next = st.core.next };
}
