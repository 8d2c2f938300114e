-- A handler run that finds no reset.
use Rattle.std.proofs.Common.{◌≡◌, ℕ, zero, suc, ◌+◌, ◌<◌, ◌≤◌, length-set, List, [], ◌∷◌, ◌++◌, length, Bool, true, false, Option, Some, None, refl, ap, sym, ◌∙◌, arith, subst, All}
use Rattle.std.specs.Prelude.{◌==◌, if◌then◌else◌, slice_set}
use Rattle.std.proofs.lemmas.Bool.Decides.{nat_tests}
use Rattle.std.proofs.lemmas.List.Elements.{All-head, All-tail}
use Rattle.usb_packet.specs.declared.bus.Toggle.{Toggle}
use Rattle.device_machine.specs.declared.control.Stage.{Stage}
use Rattle.device_machine.specs.declared.control.Stage.TheVariants.{Sent, Came}
use Rattle.device_machine.specs.declared.control.Side.{Side}
use Rattle.device_machine.specs.declared.control.Side.TheVariants.{Off, Wait, Loaded, Last, Armed, Stall, Finished}
use Rattle.device_machine.specs.Bus.{Bus, last_of, finished_stage, loaded}
use Rattle.device_machine.specs.Pipes.{Pipes, out_slot, with_out_slot, out_slot_after_irq}
use Rattle.dwc2_regs.specs.declared.access.TheConstants.{FS4}
use Rattle.dwc2_fifo.specs.Rx.{Rx, Entry}
use Rattle.device_table.specs.State.{Table, rx_depth, out_end}
use Rattle.device_arrivals.specs.Arrivals.{Arrival, Request, Packet, entries_of, arrivals_for, landed_on, requested_by, packets_at, AreFew, IsArrival}
use Rattle.device_arrivals.proofs.Few.{few_behind}
use Rattle.device_rings.specs.Rings.{Rings}
use Rattle.endpoint_relation.specs.OutLaws.{OutMoveKeeps}
use Rattle.endpoint_relation.specs.OutSteps.{moved}
use Rattle.endpoint_relation.specs.InLaws.{InServes}
use Rattle.device_relation.specs.declared.software.Ready.{Ready}
use Rattle.device_relation.specs.declared.software.Ready.TheVariants as ready
use Rattle.device_relation.specs.Software.{Software, Joint, out_kept, with_out_kept}
use Rattle.device_relation.specs.Relation.{Stands, FifoPart, IsPacket, Pair, off_off, wait_wait, loaded_loaded, last_last, last_armed, armed_armed, last_came, armed_came, stall_stall, loaded_off}
use Rattle.device_relation.specs.Relation.{last_off, armed_off, stall_off, came_arrivals, setups_arrivals, was_heard, IsAddress}
use Rattle.device_relation.specs.PipeRelation.{PipesStand}
use Rattle.device_relation.specs.Port.{Port, StandsFor, with_request, with_stage, with_address, with_stages}
use Rattle.device_relation.specs.Run.{Whole, with_joint, arrivals_taken, waiting_loaded, loaded_from, packet_loaded, out_armed, rest_served, in_pipes_served, sent_served, last_served, served_by, address_served, sent_noted, last_acknowledged, cleared_ack}
use Rattle.device_relation.proofs.SetupEvents.{never}
use Rattle.device_relation.proofs.Stages.{finished_is, acknowledged_is, sent_for, address_for, last_for}
use Rattle.device_relation.proofs.Front.{SetupFront, setup_front, PacketFront, packet_front, other_front}
use Rattle.device_relation.proofs.Pops.{rx_as, whole, none_taken, setup_popped, came_popped, pipe_popped, ended, taken_ring, setup_table, setup_software, came_table, came_software}
use Rattle.device_relation.proofs.Taken.{came_off, setup_off, or_nothing}
use Rattle.device_relation.proofs.Pipes.{SamePipes, same_pipes}
use Rattle.device_relation.proofs.Takes.{pipe_moves, lies_are}
use Rattle.device_arrivals.proofs.Counts.{is_counted}
use Rattle.device_relation.proofs.Entries.{requests_are}
use Rattle.device_relation.proofs.InPipes.{Both, ins_worked, all_served}
use Rattle.device_relation.proofs.Loads.{waiting_for, SameRest, loaded_same, armed_same}

-- What each arrival makes of endpoint 0, and of the pipes.

unfoldable pub setup_port : Port → List ℕ → List (List ℕ) → Port
setup_port p bytes us = record p { bus = record p.bus { unserved = us; side = Off }; heard = true; next_address = None; request = Some bytes }

unfoldable pub less_one : List (List ℕ) → List (List ℕ)
less_one [] = []
less_one (u ∷ us) = us

abbrev pub zero_step : Port → Arrival → Port
zero_step p (Request bytes) = setup_port p bytes (less_one p.bus.unserved)
zero_step p (Packet zero toggle bytes) = with_stage p (Came bytes)
zero_step p (Packet (suc m) toggle bytes) = p

unfoldable pub zero_worked : Port → List Arrival → Port
zero_worked p [] = p
zero_worked p (arrival ∷ arrivals) = zero_worked (zero_step p arrival) arrivals

abbrev pub pipe_worked : Pipes → ℕ → Pipes
pipe_worked q n = with_out_slot q n (out_slot_after_irq (out_slot q n))

abbrev pub pipe_step : Pipes → Arrival → Pipes
pipe_step q (Request bytes) = q
pipe_step q (Packet zero toggle bytes) = q
pipe_step q (Packet (suc m) toggle bytes) = pipe_worked q (suc m)

unfoldable pub pipes_worked : Pipes → List Arrival → Pipes
pipes_worked q [] = q
pipes_worked q (arrival ∷ arrivals) = pipes_worked (pipe_step q arrival) arrivals

-- all is taken
pub record Taken (w : Whole) (p : Port) (q : Pipes) : Type 0 where
  pub zero : StandsFor FS4 w.joint p
  pub nothing : zero.stands.rx.arrivals ≡ []
  pub pipes : PipesStand FS4 w.joint.table w.joint.software w.rings q

-- with what lies there
pub record Holds (j : Joint) (r : Rings) (p : Port) (q : Pipes) (arrivals : List Arrival) : Type 0 where
  pub zero : StandsFor FS4 j p
  pub are : zero.stands.rx.arrivals ≡ arrivals
  pub pipes : PipesStand FS4 j.table j.software r q

pub lies_as : (j : Joint) (r : Rings) (p : Port) (q : Pipes) (arrivals : List Arrival) → Holds j r p q arrivals → j.table ≡ rx_as j.table [] (entries_of arrivals)
lies_as j r p q arrivals h =
    ap (λ (rx : Rx). record j.table { rx = rx }) (h.zero.stands.rx.lie ∙ ap (λ xs. record { left = []; entries = entries_of xs; depth = rx_depth FS4 }) h.are)

setup_for : (j : Joint) (p : Port) (bytes : List ℕ) (us : List (List ℕ)) (arrivals : List Arrival) → StandsFor FS4 j p → p.bus.unserved ≡ bytes ∷ us
    → arrivals_for 0 arrivals ≡ setups_arrivals us → AreFew FS4.out_eps arrivals
    → StandsFor FS4 (record { table = setup_table (rx_as j.table [] (entries_of arrivals)); software = setup_software j.software bytes }) (setup_port p bytes us)
unfolding setup_port
setup_for j p bytes us arrivals f e its all = record {
  stands = setup_off j.table j.software p.bus bytes us arrivals (subst (λ xs. Stands FS4 j.table j.software (record p.bus { unserved = xs })) e f.stands) its all;
  heard = refl;
  next_address = refl;
  reset = f.reset;
  finished = f.finished;
  request = refl;
}

came_for : (j : Joint) (p : Port) (bytes : List ℕ) (arrivals : List Arrival) → StandsFor FS4 j p → p.bus.side ≡ Finished (Came bytes)
    → arrivals_for 0 arrivals ≡ setups_arrivals p.bus.unserved → AreFew FS4.out_eps arrivals
    → StandsFor FS4 (record { table = came_table (rx_as j.table [] (entries_of arrivals)); software = came_software j.software bytes }) (with_stage p (Came bytes))
came_for j p bytes arrivals f e its all =
    let st : Stands FS4 j.table j.software (record p.bus { side = Finished (Came bytes) }) = subst (λ x. Stands FS4 j.table j.software (record p.bus { side = x })) e f.stands in
    record {
      stands = came_off j.table j.software p.bus bytes arrivals st its all;
      heard = f.heard ∙ or_nothing (was_heard j.software.heard) st.side.first;
      next_address = f.next_address;
      reset = f.reset;
      finished = refl;
      request = f.request;
    }

same_at : (t t' : Table) (left : List ℕ) (a : Arrival) (arrivals : List Arrival) → All (IsArrival FS4.out_eps) (a ∷ arrivals) → ((n : ℕ) → landed_on (suc n) (a ∷ arrivals) ≡ landed_on (suc n) arrivals)
    → (n : ℕ) → packets_at (suc n) (rx_as t' left (entries_of arrivals)).rx.entries ≡ packets_at (suc n) (rx_as t left (entries_of (a ∷ arrivals))).rx.entries
same_at t t' left a arrivals all e n =
    lies_are t' left arrivals (suc n) (All-tail (IsArrival FS4.out_eps) a arrivals all) ∙ sym (e n) ∙ sym (lies_are t left (a ∷ arrivals) (suc n) all)

not_zero_number : (n : ℕ) → (suc n == 0) ≡ false
not_zero_number n = grind (arith, nat_tests)

-- the law of one OUT endpoint's packets
abbrev pub Law : Type 0
Law = OutMoveKeeps

suc_few : (n k : ℕ) → suc n ≤ suc k → n ≤ k
suc_few n k h = omega (arith, h)

no_room : {A : Type 0} (n : ℕ) → suc n ≤ 0 → A
no_room n h = absurd (none n h)
  where
    none : (n : ℕ) → suc n ≤ 0 → ⊥
    none n h = omega (arith, h)

ends_before : (k : ℕ) (j : Joint) (r : Rings) (p : Port) (q : Pipes) → Holds j r p q [] → Taken (arrivals_taken k (record { joint = j; rings = r })) p q
ends_before k j r p q h =
    let lies : j.table ≡ rx_as j.table [] [] = lies_as j r p q [] h in
    let same : arrivals_taken k (record { joint = j; rings = r }) ≡ record { joint = j; rings = r } =
    ap (λ t. arrivals_taken k (whole t j.software r)) lies ∙ none_taken k j.table j.software r ∙ ap (λ t. whole t j.software r) (sym lies) in
    subst (λ w. Taken w p q) (sym same) (record { zero = h.zero; nothing = h.are; pipes = h.pipes })

below_sixteen : (m : ℕ) → suc m ≤ 3 → suc m < 16
below_sixteen m h = omega (arith, h)

within_three : (m : ℕ) → suc m ≤ 3 → m < 3
within_three m h = omega (arith, h)

-- a packet of another endpoint leaves endpoint 0
other_zero : (j : Joint) (p : Port) (m : ℕ) (toggle : Toggle) (bytes : List ℕ) (arrivals : List Arrival) (f : StandsFor FS4 j p) → f.stands.rx.arrivals ≡ Packet (suc m) toggle bytes ∷ arrivals → AreFew FS4.out_eps arrivals
    → StandsFor FS4 (record { table = ended j.table (suc m) arrivals; software = with_out_kept j.software (suc m) (moved (out_kept j.software (suc m))) }) p
other_zero j p m toggle bytes arrivals f are all =
    let st = f.stands in
    record {
      stands = record {
        ins = st.ins;
        outs = st.outs;
        pair = st.pair;
        side = st.side;
        rx = record {
          arrivals = arrivals;
          lie = refl;
          its = sym (other_front m toggle bytes arrivals) ∙ ap (arrivals_for 0) (sym are) ∙ st.rx.its;
          all = all;
          counts = st.rx.counts;
          few = st.rx.few;
          are = st.rx.are;
        };
        rest = record {
          masks = st.rest.masks;
          hosts = st.rest.hosts;
          in_ends = st.rest.in_ends;
          out_ends = length-set (slice_set j.table.outs m (record (out_end j.table (suc m)) { xfrc = true })) m _ ∙ length-set j.table.outs m _ ∙ st.rest.out_ends;
        };
        core = record { awake = st.core.awake; reset = st.core.reset; address = st.core.address; landed = st.core.landed; asleep = st.core.asleep; next = st.core.next };
      };
      heard = f.heard;
      next_address = f.next_address;
      reset = f.reset;
      finished = f.finished;
      request = f.request;
    }

-- the pipes, where endpoint 0's own is taken
pipes_stay : (t t' : Table) (s s' : Software) (r : Rings) (q : Pipes) (a : Arrival) (arrivals : List Arrival) → All (IsArrival FS4.out_eps) (a ∷ arrivals)
    → ((n : ℕ) → landed_on (suc n) (a ∷ arrivals) ≡ landed_on (suc n) arrivals) → t ≡ rx_as t [] (entries_of (a ∷ arrivals)) → PipesStand FS4 t s r q
    → t'.outs ≡ t.outs → t'.ins ≡ t.ins → s'.outs ≡ s.outs → s'.ins ≡ s.ins → t'.rx.entries ≡ entries_of arrivals → PipesStand FS4 t' s' r q
pipes_stay t t' s s' r q a arrivals all e lies ps o i ko ki lie =
    same_pipes (rx_as t [] (entries_of (a ∷ arrivals))) t' s s' r q
    (record {
      outs = o;
      ins = i;
      out_kepts = ko;
      in_kepts = ki;
      lie = λ n. ap (packets_at (suc n)) lie ∙ same_at t t [] a arrivals all e n;
    }) (subst (λ x. PipesStand FS4 x s r q) lies ps)

-- the one in front is taken
pub record Next (j : Joint) (r : Rings) (p : Port) (q : Pipes) (a : Arrival) (arrivals : List Arrival) : Type 0 where
  pub after : Whole
  pub step : (k : ℕ) → arrivals_taken (suc k) (record { joint = j; rings = r }) ≡ arrivals_taken k after
  pub holds : Holds after.joint after.rings (zero_step p a) (pipe_step q a) arrivals
  pub count : length after.joint.table.outs ≡ 3

pub next_for : Law → (a : Arrival) (arrivals : List Arrival) (j : Joint) (r : Rings) (p : Port) (q : Pipes) → length j.table.outs ≡ 3 → Holds j r p q (a ∷ arrivals) → Next j r p q a arrivals
unfolding setup_port less_one setup_for came_for other_zero setup_off came_off
next_for law (Request bytes) arrivals j r p q count h =
    let f = h.zero in
    let st = f.stands in
    let all : AreFew FS4.out_eps (Request bytes ∷ arrivals) = subst (λ xs. AreFew FS4.out_eps xs) h.are st.rx.all in
    let rest = few_behind FS4.out_eps (Request bytes) arrivals all in
    let is = All-head (IsArrival FS4.out_eps) (Request bytes) arrivals all.all in
    let lies = lies_as j r p q (Request bytes ∷ arrivals) h in
    let front : SetupFront bytes (arrivals_for 0 arrivals) p.bus.side p.bus.unserved = setup_front bytes (arrivals_for 0 arrivals) p.bus.side p.bus.unserved (ap (arrivals_for 0) (sym h.are) ∙ st.rx.its) in
    let us = less_one p.bus.unserved in
    let same : us ≡ front.setups = ap less_one front.are in
    let j1 : Joint = record { table = setup_table (rx_as j.table [] (entries_of arrivals)); software = setup_software j.software bytes } in
    let f1 : StandsFor FS4 j1 (setup_port p bytes us) = setup_for j p bytes us arrivals f (front.are ∙ ap (λ (xs : List (List ℕ)). bytes ∷ xs) (sym same)) (front.its ∙ ap setups_arrivals (sym same)) rest in
    record {
      after = record { joint = j1; rings = r };
      step = λ k. ap (λ t. arrivals_taken (suc k) (whole t j.software r)) lies ∙ setup_popped k j.table j.software r bytes (entries_of arrivals) (record { eight = is.0; below = is.1 });
      holds = record { zero = f1; are = refl; pipes = pipes_stay j.table j1.table j.software j1.software r q (Request bytes) arrivals all.all (λ n. refl) lies h.pipes refl refl refl refl refl };
      count = count;
    }
next_for law (Packet zero toggle bytes) arrivals j r p q count h =
    let f = h.zero in
    let st = f.stands in
    let a = Packet 0 toggle bytes in
    let all : AreFew FS4.out_eps (a ∷ arrivals) = subst (λ xs. AreFew FS4.out_eps xs) h.are st.rx.all in
    let rest = few_behind FS4.out_eps a arrivals all in
    let is = All-head (IsArrival FS4.out_eps) a arrivals all.all in
    let lies = lies_as j r p q (a ∷ arrivals) h in
    let front : PacketFront toggle bytes (arrivals_for 0 arrivals) p.bus.side p.bus.unserved = packet_front toggle bytes (arrivals_for 0 arrivals) p.bus.side p.bus.unserved (ap (arrivals_for 0) (sym h.are) ∙ st.rx.its) in
    let j1 : Joint = record { table = came_table (rx_as j.table [] (entries_of arrivals)); software = came_software j.software bytes } in
    record {
      after = record { joint = j1; rings = r };
      step = λ k. ap (λ t. arrivals_taken (suc k) (whole t j.software r)) lies ∙ came_popped k j.table j.software r toggle bytes arrivals (record { fits = is.1; below = is.2 });
      holds = record {
        zero = came_for j p bytes arrivals f front.side_is front.its rest;
        are = refl;
        pipes = pipes_stay j.table j1.table j.software j1.software r q a arrivals all.all (λ n. ap (λ b. if b then record { toggle = toggle; bytes = bytes } ∷ landed_on (suc n) arrivals else landed_on (suc n) arrivals) (not_zero_number n)) lies h.pipes refl refl refl refl refl;
      };
      count = count;
    }
next_for law (Packet (suc m) toggle bytes) arrivals j r p q count h =
    let a = Packet (suc m) toggle bytes in
    let all : AreFew FS4.out_eps (a ∷ arrivals) = subst (λ xs. AreFew FS4.out_eps xs) h.are h.zero.stands.rx.all in
    let is = All-head (IsArrival FS4.out_eps) a arrivals all.all in
    let lies = lies_as j r p q (a ∷ arrivals) h in
    let kept = out_kept j.software (suc m) in
    let j1 : Joint = record { table = ended j.table (suc m) arrivals; software = with_out_kept j.software (suc m) (moved kept) } in
    record {
      after = record { joint = j1; rings = taken_ring kept.over r (suc m) bytes };
      step = λ k. ap (λ t. arrivals_taken (suc k) (whole t j.software r)) lies ∙ pipe_popped k j.table j.software r m toggle bytes arrivals (below_sixteen m is.0) (record { fits = is.1; below = is.2 }) kept.over refl;
      holds = record {
        zero = other_zero j p m toggle bytes arrivals h.zero h.are (few_behind FS4.out_eps a arrivals all);
        are = refl;
        pipes = pipe_moves law j.table j.software r q m toggle bytes arrivals (within_three m is.0) count all.all (subst (λ x. PipesStand FS4 x j.software r q) lies h.pipes);
      };
      count = length-set (slice_set j.table.outs m (record (out_end j.table (suc m)) { xfrc = true })) m _ ∙ length-set j.table.outs m _ ∙ count;
    }

taken_for : Law → (arrivals : List Arrival) (k : ℕ) (j : Joint) (r : Rings) (p : Port) (q : Pipes) → length arrivals ≤ k → length j.table.outs ≡ 3 → Holds j r p q arrivals
    → Taken (arrivals_taken k (record { joint = j; rings = r })) (zero_worked p arrivals) (pipes_worked q arrivals)
unfolding zero_worked pipes_worked
taken_for law [] k j r p q fuel count h = ends_before k j r p q h
taken_for law (a ∷ arrivals) zero j r p q fuel count h = no_room (length arrivals) fuel
taken_for law (a ∷ arrivals) (suc k) j r p q fuel count h =
    let n = next_for law a arrivals j r p q count h in
    subst (λ w. Taken w (zero_worked (zero_step p a) arrivals) (pipes_worked (pipe_step q a) arrivals)) (sym (n.step k))
    (taken_for law arrivals k n.after.joint n.after.rings (zero_step p a) (pipe_step q a) (suc_few (length arrivals) k fuel) n.count n.holds)

-- What a run that finds no reset, no new address and no packet acknowledged leaves: what lies there is worked, the packet that
-- waits is loaded, and the IN endpoints are served.

abbrev pub run_port : Port → List Arrival → Port
run_port p arrivals = record (zero_worked p arrivals) { bus = record (zero_worked p arrivals).bus { side = loaded (zero_worked p arrivals).bus.side } }

nothing_unserved : (j : Joint) (p : Port) (f : StandsFor FS4 j p) → f.stands.rx.arrivals ≡ [] → p.bus.unserved ≡ []
nothing_unserved j p f e = sym (requests_are j.table.rx j.table.core.unserved p.bus.side p.bus.unserved f.stands.rx) ∙ ap requested_by e

pub record Laws : Type 0 where
  pub outs : OutMoveKeeps
  pub ins : InServes

-- the pipes of the two directions
unfoldable pub all_worked : Pipes → List Arrival → Pipes
all_worked q arrivals = ins_worked 3 1 (pipes_worked q arrivals)

from_same : (t t' : Table) (s s' : Software) (r : Rings) (q : Pipes) → SameRest t t' → s'.outs ≡ s.outs → s'.ins ≡ s.ins → PipesStand FS4 t s r q → PipesStand FS4 t' s' r q
from_same t t' s s' r q h o i ps =
    same_pipes t t' s s' r q (record { outs = h.outs; ins = h.ins; out_kepts = o; in_kepts = i; lie = λ n. ap (λ (rx : Rx). packets_at (suc n) rx.entries) h.rx }) ps

loaded_by : (t : Table) (s : Software) (r : Rings) (q : Pipes) (side : Ready) → PipesStand FS4 t s r q
    → PipesStand FS4 (loaded_from (record { table = t; software = s }) side).table (loaded_from (record { table = t; software = s }) side).software r q
loaded_by t s r q ready.Off ps = ps
loaded_by t s r q ready.Loaded ps = ps
loaded_by t s r q ready.Last ps = ps
loaded_by t s r q ready.Armed ps = ps
loaded_by t s r q ready.Stall ps = ps
loaded_by t s r q (ready.Wait packet true) ps =
    from_same (packet_loaded t packet) (out_armed (packet_loaded t packet) s.heard) s (record s { side = ready.Last }) r q (armed_same (packet_loaded t packet) s.heard) refl refl
    (from_same t (packet_loaded t packet) s s r q (loaded_same t packet) refl refl ps)
loaded_by t s r q (ready.Wait packet false) ps = from_same t (packet_loaded t packet) s (record s { side = ready.Loaded }) r q (loaded_same t packet) refl refl ps

pub rest_for : Laws → (j : Joint) (r : Rings) (p : Port) (q : Pipes) (f : StandsFor FS4 j p) → PipesStand FS4 j.table j.software r q
    → Both (rest_served FS4 (record { joint = j; rings = r })) (run_port p f.stands.rx.arrivals) (all_worked q f.stands.rx.arrivals)
unfolding all_worked in_pipes_served
rest_for laws j r p q f ps =
    let few : length f.stands.rx.arrivals ≤ 7 = is_counted FS4.out_eps f.stands.rx.arrivals f.stands.rx.all in
    let taken : Taken (arrivals_taken 7 (record { joint = j; rings = r })) (zero_worked p f.stands.rx.arrivals) (pipes_worked q f.stands.rx.arrivals) =
    taken_for laws.outs f.stands.rx.arrivals 7 j r p q few f.stands.rest.out_ends (record { zero = f; are = refl; pipes = ps }) in
    let w = arrivals_taken 7 (record { joint = j; rings = r }) in
    let p1 = zero_worked p f.stands.rx.arrivals in
    let q1 = pipes_worked q f.stands.rx.arrivals in
    all_served laws.ins (with_joint w (waiting_loaded w.joint)) (run_port p f.stands.rx.arrivals) q1
    (record {
      zero = waiting_for w.joint p1 taken.zero (nothing_unserved w.joint p1 taken.zero taken.nothing);
      pipes = loaded_by w.joint.table w.joint.software w.rings q1 w.joint.software.side taken.pipes;
    })
