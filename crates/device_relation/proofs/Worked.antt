-- What a handler run makes of the device, arrival by arrival, is what it makes of it at once.
use Rattle.std.proofs.Common.{◌≡◌, ℕ, zero, suc, ◌+◌, ◌<◌, ◌≤◌, List, [], ◌∷◌, ◌++◌, length, map, Bool, true, false, Option, Some, None, refl, ap, sym, ◌∙◌, arith, subst, get_or-set_other, get_or-set_same, length-set, ext_get_or, All}
use Rattle.std.specs.Prelude.{◌==◌, nat_lt, if◌then◌else◌, slice_index_or, slice_set}
use Rattle.std.proofs.lemmas.Bool.Decides.{nat_tests}
use Rattle.std.proofs.lemmas.List.{length-map, get_or-map}
use Rattle.std.proofs.lemmas.List.Elements.{All-head, All-tail}
use Rattle.usb_packet.specs.declared.bus.Toggle.{Toggle}
use Rattle.usb_packet.specs.declared.bus.Toggle.TheVariants.{D1}
use Rattle.device_machine.specs.declared.control.Stage.TheVariants.{Sent, Came}
use Rattle.device_machine.specs.declared.control.Side.{Side}
use Rattle.device_machine.specs.declared.control.Side.TheVariants.{Off, Wait, Loaded, Last, Armed, Stall, Finished}
use Rattle.device_machine.specs.Bus.{Bus, last_of, finished_stage, loaded}
use Rattle.device_machine.specs.Pipes.{Pipes, OutSlot, InSlot, out_slot, in_slot, with_out_slot, with_in_slot, out_slot_after_irq, in_slot_after_irq, pipes_after_irq, no_out_slot, no_in_slot}
use Rattle.dwc2_regs.specs.declared.access.TheConstants.{FS4}
use Rattle.usb_ring.specs.Ring.{Ring}
use Rattle.device_table.specs.State.{Table, OutEnd, out_end, in_end}
use Rattle.device_arrivals.specs.Arrivals.{Arrival, Request, Packet, Landed, entries_of, arrivals_for, landed_on, packets_at, packets_for, AreFew, IsArrival}
use Rattle.device_arrivals.proofs.Tells.{own}
use Rattle.device_rings.specs.Rings.{Rings, out_ring, in_ring}
use Rattle.endpoint_relation.specs.declared.out_.OutEndpoint.{OutEndpoint}
use Rattle.endpoint_relation.specs.OutRelation.{OutStands, abstract_out}
use Rattle.endpoint_relation.specs.OutLaws.{OutIdleKeeps}
use Rattle.device_pipe.specs.OutPipe as outward
use Rattle.device_pipe.specs.OutPipe.{OutPipe}
use Rattle.endpoint_relation.specs.InRelation.{abstract_in, in_unused}
use Rattle.device_relation.specs.Software.{Software, out_kept, in_kept}
use Rattle.device_relation.specs.Relation.{came_arrivals, setups_arrivals}
use Rattle.device_relation.specs.PipeRelation.{PipesStand, OutPipePart, InPipePart}
use Rattle.device_relation.specs.Port.{Port, with_request, with_stage, with_address, with_stages}
use Rattle.device_relation.proofs.InPipes.{in_worked, ins_worked}
use Rattle.device_relation.proofs.Lifts.{is_same, not_same}
use Rattle.device_relation.proofs.Takes.{lies_are}
use Rattle.device_relation.proofs.Pops.{rx_as}
use Rattle.device_relation.proofs.Serves.{setup_port, less_one, zero_worked, pipe_worked, pipes_worked, run_port, all_worked}

-- Endpoint 0.

-- its own alone move it
own_move : (p : Port) (arrivals : List Arrival) → zero_worked p arrivals ≡ zero_worked p (arrivals_for 0 arrivals)
unfolding zero_worked
own_move p [] = refl
own_move p (Request bytes ∷ arrivals) = own_move (setup_port p bytes (less_one p.bus.unserved)) arrivals
own_move p (Packet zero toggle bytes ∷ arrivals) = own_move (with_stage p (Came bytes)) arrivals
own_move p (Packet (suc m) toggle bytes ∷ arrivals) =
    own_move p arrivals ∙ ap (λ b. zero_worked p (if b then Packet (suc m) toggle bytes ∷ arrivals_for 0 arrivals else arrivals_for 0 arrivals)) (sym (not_zero m))
  where
    not_zero : (m : ℕ) → (0 == suc m) ≡ false
    not_zero m = grind (arith, nat_tests)

final : List ℕ → List (List ℕ) → List ℕ
final b [] = b
final b (u ∷ us) = final u us

last_is : (b : List ℕ) (us : List (List ℕ)) → last_of (b ∷ us) ≡ Some (final b us)
unfolding final
last_is b [] = refl
last_is b (u ∷ us) = last_is u us

abbrev with_unserved : Port → List (List ℕ) → Port
with_unserved p us = record p { bus = record p.bus { unserved = us } }

abbrev with_loaded : Port → Port
with_loaded p = record p { bus = record p.bus { side = loaded p.bus.side } }

-- the last SETUP is noted, and where there is none the packet that waits is loaded
requests_end : (us : List (List ℕ)) (p : Port) → with_loaded (zero_worked (with_unserved p us) (setups_arrivals us)) ≡ with_request (with_unserved p us) (last_of us)
unfolding zero_worked setup_port less_one
requests_end [] p = refl
requests_end (b ∷ us) p = requests_end us (setup_port p b us) ∙ again us
  where
    again : (us : List (List ℕ)) → with_request (setup_port p b us) (last_of us) ≡ with_request (with_unserved p (b ∷ us)) (last_of (b ∷ us))
    again [] = refl
    again (u ∷ us) = ap (with_request (setup_port p b (u ∷ us))) (last_is u us) ∙ ap (with_request (with_unserved p (b ∷ u ∷ us))) (sym (last_is u us))

abbrev with_side : Port → Side → Port
with_side p side = record p { bus = record p.bus { side = side } }

unfoldable pub is_sent : Side → Bool
is_sent (Finished Sent) = true
is_sent (Finished (Came bytes)) = false
is_sent Off = false
is_sent (Wait p l) = false
is_sent (Loaded p) = false
is_sent (Last p) = false
is_sent Armed = false
is_sent Stall = false

stages_end : (side : Side) (p : Port) → is_sent side ≡ false → with_loaded (zero_worked (with_side p side) (came_arrivals side ++ setups_arrivals p.bus.unserved)) ≡ with_stages (with_side p side) (finished_stage side)
unfolding zero_worked is_sent
stages_end (Finished Sent) p e = elim (true_false e) [ ]
  where
    true_false : true ≡ false → ⊥
    true_false e = cc
stages_end (Finished (Came bytes)) p e = requests_end p.bus.unserved (with_stage p (Came bytes))
stages_end Off p e = requests_end p.bus.unserved (with_side p Off)
stages_end (Wait q l) p e = requests_end p.bus.unserved (with_side p (Wait q l))
stages_end (Loaded q) p e = requests_end p.bus.unserved (with_side p (Loaded q))
stages_end (Last q) p e = requests_end p.bus.unserved (with_side p (Last q))
stages_end Armed p e = requests_end p.bus.unserved (with_side p Armed)
stages_end Stall p e = requests_end p.bus.unserved (with_side p Stall)

pub zero_ends : (p : Port) (arrivals : List Arrival) → arrivals_for 0 arrivals ≡ came_arrivals p.bus.side ++ setups_arrivals p.bus.unserved → is_sent p.bus.side ≡ false
    → run_port p arrivals ≡ with_stages p (finished_stage p.bus.side)
zero_ends p arrivals its e = ap with_loaded (own_move p arrivals ∙ ap (zero_worked p) its) ∙ stages_end p.bus.side p e

-- The OUT pipes: each by its own packets.

worked_times : ℕ → OutSlot → OutSlot
worked_times zero slot = slot
worked_times (suc n) slot = worked_times n (out_slot_after_irq slot)

counts : (q : Pipes) (arrivals : List Arrival) → length (pipes_worked q arrivals).outs ≡ length q.outs
unfolding pipes_worked
counts q [] = refl
counts q (Request bytes ∷ arrivals) = counts q arrivals
counts q (Packet zero toggle bytes ∷ arrivals) = counts q arrivals
counts q (Packet (suc m) toggle bytes ∷ arrivals) = counts (pipe_worked q (suc m)) arrivals ∙ length-set q.outs m _

slot_worked : (q : Pipes) (arrivals : List Arrival) (n : ℕ) → All (IsArrival FS4.out_eps) arrivals → length q.outs ≡ 15
    → out_slot (pipes_worked q arrivals) (suc n) ≡ worked_times (length (landed_on (suc n) arrivals)) (out_slot q (suc n))
unfolding pipes_worked worked_times
slot_worked q [] n all count = refl
slot_worked q (Request bytes ∷ arrivals) n all count = slot_worked q arrivals n (All-tail (IsArrival FS4.out_eps) (Request bytes) arrivals all) count
slot_worked q (Packet zero toggle bytes ∷ arrivals) n all count =
    slot_worked q arrivals n (All-tail (IsArrival FS4.out_eps) (Packet 0 toggle bytes) arrivals all) count
    ∙ ap (λ b. worked_times (length (if b then record { toggle = toggle; bytes = bytes } ∷ landed_on (suc n) arrivals else landed_on (suc n) arrivals)) (out_slot q (suc n))) (sym (not_zero n))
  where
    not_zero : (n : ℕ) → (suc n == 0) ≡ false
    not_zero n = grind (arith, nat_tests)
slot_worked q (Packet (suc m) toggle bytes ∷ arrivals) n all count =
    slot_worked (pipe_worked q (suc m)) arrivals n (All-tail (IsArrival FS4.out_eps) (Packet (suc m) toggle bytes) arrivals all) (length-set q.outs m _ ∙ count)
    ∙ by_test (suc n == suc m) refl
  where
    it : Landed
    it = record { toggle = toggle; bytes = bytes }

    same : (n m : ℕ) → (suc n == suc m) ≡ true → n ≡ m
    same n m e = grind (arith, nat_tests)

    differ : (n m : ℕ) → (suc n == suc m) ≡ false → (n == m) ≡ false
    differ n m e = grind (arith, nat_tests)

    few : m < length q.outs
    few = subst (λ k. m < k) (sym count) (omega (arith, (All-head (IsArrival FS4.out_eps) (Packet (suc m) toggle bytes) arrivals all).0))

    by_test : (b : Bool) → (suc n == suc m) ≡ b → worked_times (length (landed_on (suc n) arrivals)) (out_slot (pipe_worked q (suc m)) (suc n))
        ≡ worked_times (length (if suc n == suc m then it ∷ landed_on (suc n) arrivals else landed_on (suc n) arrivals)) (out_slot q (suc n))
    by_test true e =
        ap (worked_times (length (landed_on (suc n) arrivals)))
        (ap (λ k. out_slot (pipe_worked q (suc m)) (suc k)) (same n m e) ∙ get_or-set_same q.outs m (out_slot_after_irq (out_slot q (suc m))) no_out_slot few ∙ ap (λ k. out_slot_after_irq (out_slot q (suc k))) (sym (same n m e)))
        ∙ ap (λ b. worked_times (length (if b then it ∷ landed_on (suc n) arrivals else landed_on (suc n) arrivals)) (out_slot q (suc n))) (sym e)
    by_test false e =
        ap (worked_times (length (landed_on (suc n) arrivals))) (get_or-set_other q.outs m n (out_slot_after_irq (out_slot q (suc m))) no_out_slot (not_same n m (differ n m e)))
        ∙ ap (λ b. worked_times (length (if b then it ∷ landed_on (suc n) arrivals else landed_on (suc n) arrivals)) (out_slot q (suc n))) (sym e)

-- one packet at most lies there for an endpoint, and a handler run leaves a pipe that has none there
once : OutIdleKeeps → (t : Table) (s : Software) (r : Rings) (q : Pipes) (arrivals : List Arrival) (n : ℕ) → AreFew FS4.out_eps arrivals → packets_at (suc n) t.rx.entries ≡ landed_on (suc n) arrivals → OutPipePart t s r q n
    → worked_times (length (landed_on (suc n) arrivals)) (out_slot q (suc n)) ≡ out_slot_after_irq (out_slot q (suc n))
unfolding worked_times
once law t s r q arrivals n few lies part = by_lies (landed_on (suc n) arrivals) refl
  where
    none : (k : ℕ) → suc (suc k) ≤ 1 → ⊥
    none k h = omega (arith, h)

    kept : OutEndpoint
    kept = out_kept s (suc n)

    end : OutEnd
    end = out_end t (suc n)

    ring : Ring
    ring = out_ring r (suc n)

    by_lies : (xs : List Landed) → landed_on (suc n) arrivals ≡ xs → worked_times (length xs) (out_slot q (suc n)) ≡ out_slot_after_irq (out_slot q (suc n))
    by_lies [] e =
        let stands : OutStands (suc n) end kept [] ring = subst (λ ys. OutStands (suc n) end kept ys ring) (lies ∙ e) part.stands in
        let slot : out_slot q (suc n) ≡ record { endpoint = kept.endpoint; pipe = abstract_out end kept [] ring.bytes } =
        part.slot ∙ ap (λ ys. record { endpoint = kept.endpoint; pipe = abstract_out end kept ys ring.bytes }) (lies ∙ e) in
        slot ∙ ap (λ (x : OutPipe). record { endpoint = kept.endpoint; pipe = x }) (sym (law (suc n) end kept ring stands)) ∙ sym (ap out_slot_after_irq slot)
    by_lies (x ∷ []) e = refl
    by_lies (x ∷ y ∷ xs) e = absurd (none (length xs) (subst (λ k. k ≤ 1) (sym ((own arrivals).packets (suc n)) ∙ ap length e) (few.packets (suc n))))

-- an endpoint that the controller hasn't is closed, and stays so
closed_times : (k : ℕ) → worked_times k no_out_slot ≡ no_out_slot
unfolding worked_times
closed_times zero = refl
closed_times (suc k) = closed_times k

beyond_out : (q : Pipes) (n k : ℕ) → out_slot q (suc n) ≡ no_out_slot → worked_times k (out_slot q (suc n)) ≡ out_slot_after_irq (out_slot q (suc n))
beyond_out q n k e = ap (worked_times k) e ∙ closed_times k ∙ sym (ap out_slot_after_irq e)

pub outs_end : OutIdleKeeps → (t : Table) (s : Software) (r : Rings) (q : Pipes) (arrivals : List Arrival) → AreFew FS4.out_eps arrivals → ((n : ℕ) → packets_at (suc n) t.rx.entries ≡ landed_on (suc n) arrivals)
    → PipesStand FS4 t s r q → (pipes_worked q arrivals).outs ≡ map out_slot_after_irq q.outs
outs_end law t s r q arrivals few lies ps =
    ext_get_or no_out_slot (pipes_worked q arrivals).outs (map out_slot_after_irq q.outs) (counts q arrivals ∙ sym (length-map q.outs out_slot_after_irq))
    (λ i h. slot_worked q arrivals i few.all ps.out_count ∙ each i (nat_lt i 3) refl
    ∙ sym (get_or-map out_slot_after_irq q.outs i no_out_slot no_out_slot (subst (λ k. i < k) (counts q arrivals) h)))
  where
    within : (i : ℕ) → nat_lt i 3 ≡ true → i < 3
    within i e = grind (arith, nat_tests)

    out_of_it : (i : ℕ) → nat_lt i 3 ≡ false → 3 ≤ i
    out_of_it i e = grind (arith, nat_tests)

    each : (i : ℕ) (b : Bool) → nat_lt i 3 ≡ b → worked_times (length (landed_on (suc i) arrivals)) (out_slot q (suc i)) ≡ out_slot_after_irq (out_slot q (suc i))
    each i true e = once law t s r q arrivals i few (lies i) (ps.outs i (within i e))
    each i false e = beyond_out q i (length (landed_on (suc i) arrivals)) (ps.out_beyond i (out_of_it i e))

-- The IN pipes.

ins_stay : (q : Pipes) (arrivals : List Arrival) → (pipes_worked q arrivals).ins ≡ q.ins
unfolding pipes_worked
ins_stay q [] = refl
ins_stay q (Request bytes ∷ arrivals) = ins_stay q arrivals
ins_stay q (Packet zero toggle bytes ∷ arrivals) = ins_stay q arrivals
ins_stay q (Packet (suc m) toggle bytes ∷ arrivals) = ins_stay (pipe_worked q (suc m)) arrivals

worked_in : (q : Pipes) (m n : ℕ) → m < length q.ins → in_slot (in_worked q (suc m)) (suc n) ≡ (if n == m then in_slot_after_irq (in_slot q (suc n)) else in_slot q (suc n))
worked_in q m n few = by_test (n == m) refl
  where
    by_test : (b : Bool) → (n == m) ≡ b → in_slot (in_worked q (suc m)) (suc n) ≡ (if n == m then in_slot_after_irq (in_slot q (suc n)) else in_slot q (suc n))
    by_test true e =
        ap (λ k. in_slot (in_worked q (suc m)) (suc k)) (is_same n m e) ∙ get_or-set_same q.ins m (in_slot_after_irq (in_slot q (suc m))) no_in_slot few ∙ ap (λ k. in_slot_after_irq (in_slot q (suc k))) (sym (is_same n m e))
        ∙ ap (λ b. if b then in_slot_after_irq (in_slot q (suc n)) else in_slot q (suc n)) (sym e)
    by_test false e =
        get_or-set_other q.ins m n (in_slot_after_irq (in_slot q (suc m))) no_in_slot (not_same n m e)
        ∙ ap (λ b. if b then in_slot_after_irq (in_slot q (suc n)) else in_slot q (suc n)) (sym e)

-- an endpoint that the controller hasn't is closed, and a handler run leaves it
beyond_in : (q : Pipes) (n : ℕ) → in_slot q (suc n) ≡ no_in_slot → in_slot_after_irq (in_slot q (suc n)) ≡ in_slot q (suc n)
beyond_in q n e = ap in_slot_after_irq e ∙ sym e

-- all three
served_three : (q : Pipes) (n : ℕ) → length q.ins ≡ 15 → ((k : ℕ) → n ≡ suc (suc (suc k)) → in_slot_after_irq (in_slot q (suc n)) ≡ in_slot q (suc n))
    → in_slot (in_worked (in_worked (in_worked q 1) 2) 3) (suc n) ≡ in_slot_after_irq (in_slot q (suc n))
served_three q n count h =
    let q1 = in_worked q 1 in
    let q2 = in_worked q1 2 in
    let c0 : 0 < length q.ins = subst (λ k. 0 < k) (sym count) (omega arith) in
    let c1 : 1 < length q1.ins = subst (λ k. 1 < k) (sym (length-set q.ins 0 _ ∙ count)) (omega arith) in
    let c2 : 2 < length q2.ins = subst (λ k. 2 < k) (sym (length-set q1.ins 1 _ ∙ length-set q.ins 0 _ ∙ count)) (omega arith) in
    worked_in q2 2 n c2
    ∙ ap (λ x. if n == 2 then in_slot_after_irq x else x) (worked_in q1 1 n c1)
    ∙ ap (λ x. if n == 2 then in_slot_after_irq (if n == 1 then in_slot_after_irq x else x) else (if n == 1 then in_slot_after_irq x else x)) (worked_in q 0 n c0)
    ∙ by_number n (in_slot q (suc n)) h
  where
    not_small : (k m : ℕ) → m < 3 → (suc (suc (suc k)) == m) ≡ false
    not_small k m h = grind (arith, nat_tests)

    three : Bool → Bool → Bool → InSlot → InSlot
    three a b c x = if a then in_slot_after_irq (if b then in_slot_after_irq (if c then in_slot_after_irq x else x) else (if c then in_slot_after_irq x else x))
        else (if b then in_slot_after_irq (if c then in_slot_after_irq x else x) else (if c then in_slot_after_irq x else x))

    by_number : (n : ℕ) (x : InSlot) → ((k : ℕ) → n ≡ suc (suc (suc k)) → in_slot_after_irq x ≡ x) → three (n == 2) (n == 1) (n == 0) x ≡ in_slot_after_irq x
    by_number zero x h = refl
    by_number (suc zero) x h = refl
    by_number (suc (suc zero)) x h = refl
    by_number (suc (suc (suc k))) x h =
        ap (λ b. three b (suc (suc (suc k)) == 1) (suc (suc (suc k)) == 0) x) (not_small k 2 (omega arith))
        ∙ ap (λ b. three false b (suc (suc (suc k)) == 0) x) (not_small k 1 (omega arith))
        ∙ ap (λ b. three false false b x) (not_small k 0 (omega arith)) ∙ sym (h k refl)

ins_end : (t : Table) (s : Software) (r : Rings) (q q' : Pipes) → q'.ins ≡ q.ins → PipesStand FS4 t s r q → (ins_worked 3 1 q').ins ≡ map in_slot_after_irq q.ins
unfolding ins_worked
ins_end t s r q q' e ps =
    let q3 = in_worked (in_worked (in_worked q' 1) 2) 3 in
    let size : length q'.ins ≡ 15 = ap length e ∙ ps.in_count in
    let count : length q3.ins ≡ length q.ins = length-set (in_worked (in_worked q' 1) 2).ins 2 _ ∙ length-set (in_worked q' 1).ins 1 _ ∙ length-set q'.ins 0 _ ∙ ap length e in
    ext_get_or no_in_slot q3.ins (map in_slot_after_irq q.ins) (count ∙ sym (length-map q.ins in_slot_after_irq))
    (λ i h. served_three q' i size (λ k is. closed_there i k is)
    ∙ ap (λ xs. in_slot_after_irq (slice_index_or xs i no_in_slot)) e
    ∙ sym (get_or-map in_slot_after_irq q.ins i no_in_slot no_in_slot (subst (λ k. i < k) count h)))
  where
    three_of : (i k : ℕ) → i ≡ suc (suc (suc k)) → 3 ≤ i
    three_of i k e = omega (arith, e)

    closed_there : (i k : ℕ) → i ≡ suc (suc (suc k)) → in_slot_after_irq (in_slot q' (suc i)) ≡ in_slot q' (suc i)
    closed_there i k is =
        ap (λ xs. in_slot_after_irq (slice_index_or xs i no_in_slot)) e
        ∙ beyond_in q i (ps.in_beyond i (three_of i k is))
        ∙ ap (λ xs. slice_index_or xs i no_in_slot) (sym e)

outs_stay : (q : Pipes) → (ins_worked 3 1 q).outs ≡ q.outs
unfolding ins_worked
outs_stay q = refl

pipes_eq : (x y : Pipes) → x.outs ≡ y.outs → x.ins ≡ y.ins → x ≡ y
pipes_eq x y a b = ap (λ v. record x { outs = v }) a ∙ ap (λ v. record { outs = y.outs; ins = v }) b

pub pipes_end : OutIdleKeeps → (t : Table) (s : Software) (r : Rings) (q : Pipes) (arrivals : List Arrival) → AreFew FS4.out_eps arrivals → ((n : ℕ) → packets_at (suc n) t.rx.entries ≡ landed_on (suc n) arrivals)
    → PipesStand FS4 t s r q → all_worked q arrivals ≡ pipes_after_irq q
unfolding all_worked
pipes_end law t s r q arrivals few lies ps =
    pipes_eq (all_worked q arrivals) (pipes_after_irq q)
    (outs_stay (pipes_worked q arrivals) ∙ outs_end law t s r q arrivals few lies ps)
    (ins_end t s r q (pipes_worked q arrivals) (ins_stay q arrivals) ps)
