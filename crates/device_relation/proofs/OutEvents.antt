-- A packet from the host on the bus.
use Rattle.std.proofs.Common.{◌≡◌, ℕ, suc, ◌+◌, ◌≤◌, List, [], ◌∷◌, ◌++◌, length, Bool, true, false, refl, ap, sym, ◌∙◌, arith, subst}
use Rattle.std.specs.Prelude.{◌||◌, ◌&&◌, not, ◌==◌, if◌then◌else◌, nat_le, IsTrue}
use Rattle.std.proofs.lemmas.Bool.{or_right}
use Rattle.std.proofs.lemmas.Bool.Decides.{nat_tests}
use Rattle.usb_packet.specs.declared.bus.Toggle.{Toggle}
use Rattle.usb_packet.specs.declared.bus.Toggle.TheVariants.{D0, D1}
use Rattle.usb_packet.specs.declared.bus.BusAnswer.TheVariants as answers
use Rattle.usb_packet.specs.declared.bus.BusEvent.TheVariants as event
use Rattle.usb_packet.specs.Toggles.{same_toggle}
use Rattle.device_machine.specs.declared.control.Stage.TheVariants.{Came}
use Rattle.device_machine.specs.declared.control.Side.{Side}
use Rattle.device_machine.specs.declared.control.Side.TheVariants.{Off, Wait, Loaded, Last, Armed, Stall, Finished}
use Rattle.device_machine.specs.Bus as bus
use Rattle.device_machine.specs.Bus.{Bus, takes}
use Rattle.device_machine.specs.Pipes.{Pipes}
use Rattle.dwc2_regs.specs.declared.access.TheConstants.{FS4}
use Rattle.dwc2_fifo.specs.Words.{word_count}
use Rattle.dwc2_fifo.specs.Rx.{Rx, room_of}
use Rattle.dwc2_fifo.specs.Tx.{Tx, empty_of as tx_empty}
use Rattle.device_table.specs.State.{Table, rx_depth}
use Rattle.device_table.specs.Words.{packet_size}
use Rattle.device_table.specs.Write.{setup_lies, setup_in}
use Rattle.device_table.specs.Bus as table
use Rattle.device_table.specs.Bus.{OutOutcome, unheard, naks, stalls, drops, lands, out_entries, is_repeated_of, has_room, hears_out, out_outcome}
use Rattle.device_arrivals.specs.Arrivals.{Arrival, Packet, entries_of, arrivals_for, packets_for}
use Rattle.device_arrivals.proofs.Behind.{entries_of-behind, arrivals_for-behind}
use Rattle.device_arrivals.proofs.Counts.{has_room as room_for}
use Rattle.device_arrivals.proofs.Few.{few_with_packet, packets_for-its}
use Rattle.device_relation.specs.declared.software.Ready.{Ready}
use Rattle.device_relation.specs.Software.{Software}
use Rattle.device_relation.specs.Relation.{Stands, Pair, off_off, wait_wait, loaded_loaded, loaded_sent, last_last, last_armed, armed_armed, last_came, armed_came}
use Rattle.device_relation.specs.Relation.{stall_stall, loaded_off, last_off, armed_off, stall_off, IsPacket, is_armed, is_stalled, is_idle, was_heard, was_packet, some_lie}
use Rattle.device_relation.specs.Relation.{came_arrivals, setups_arrivals, landed_of}
use Rattle.device_relation.proofs.Entries.{setup_in-is}
use Rattle.device_relation.proofs.SetupEvents.{hears_is, never, not_zero}

-- the outcome, by what the parts fix
abbrev outcome_by : (heard waits stall repeated enabled nak same room : Bool) → OutOutcome
outcome_by heard waits stall repeated enabled nak same room =
    if not heard then unheard
    else if waits then naks
    else if stall then stalls
    else if repeated then drops
    else if not enabled || nak then naks
    else if not same then drops
    else if not room then naks
    else lands

abbrev again : Toggle → OutOutcome
again D1 = drops
again D0 = naks

abbrev anew : Toggle → OutOutcome
anew D1 = lands
anew D0 = drops

-- and by the device
abbrev pub outcome_of : (heard waits stall taken armed : Bool) → Toggle → OutOutcome
outcome_of heard waits stall taken armed toggle =
    if not heard then unheard
    else if waits then naks
    else if stall then stalls
    else if taken then again toggle
    else if armed then anew toggle
    else naks

outcomes_agree : (awake a waits stall taken armed nak room : Bool) (its toggle : Toggle)
    → (IsTrue armed → nak ≡ (waits || taken)) → (IsTrue armed → waits ≡ false → taken ≡ false → its ≡ D1) → (IsTrue armed → waits ≡ false → room ≡ true)
    → outcome_by (awake && a) waits stall (is_repeated_of (landed_of awake taken) toggle) armed nak (same_toggle its toggle) room
    ≡ outcome_of (awake && a) waits stall taken armed toggle
outcomes_agree false a waits stall taken armed nak room its toggle h k l = refl
outcomes_agree true false waits stall taken armed nak room its toggle h k l = refl
outcomes_agree true true true stall taken armed nak room its toggle h k l = refl
outcomes_agree true true false true taken armed nak room its toggle h k l = refl
outcomes_agree true true false false true armed nak room its D1 h k l = refl
outcomes_agree true true false false true false nak room its D0 h k l = refl
outcomes_agree true true false false true true nak room its D0 h k l = rw (h refl) refl
outcomes_agree true true false false false false nak room its toggle h k l = refl
outcomes_agree true true false false false true nak room its D0 h k l = rw (h refl, k refl refl refl) refl
outcomes_agree true true false false false true nak room its D1 h k l = rw (h refl, k refl refl refl, l refl refl) refl

-- what an outcome is, by its cause
outcome_elim : (P : OutOutcome → Type 0) (heard waits stall taken armed : Bool) (toggle : Toggle) → P unheard → P naks → P stalls → P drops
    → (heard ≡ true → waits ≡ false → taken ≡ false → IsTrue armed → toggle ≡ D1 → P lands)
    → P (outcome_of heard waits stall taken armed toggle)
outcome_elim P false waits stall taken armed toggle u n s d l = u
outcome_elim P true true stall taken armed toggle u n s d l = n
outcome_elim P true false true taken armed toggle u n s d l = s
outcome_elim P true false false true armed D1 u n s d l = d
outcome_elim P true false false true armed D0 u n s d l = n
outcome_elim P true false false false true D1 u n s d l = l refl refl refl refl refl
outcome_elim P true false false false true D0 u n s d l = d
outcome_elim P true false false false false toggle u n s d l = n

-- the device's answer and its next state, by the outcome
answers_agree : (heard waits taken : Bool) (side : Side) (toggle : Toggle)
    → table.out_answer (outcome_of heard waits (is_stalled side) taken (is_armed side) toggle)
    ≡ (if heard then (if not waits then bus.out_answer side taken toggle else answers.Nak) else answers.NoAnswer)
answers_agree false waits taken side toggle = refl
answers_agree true true taken side toggle = refl
answers_agree true false taken Stall toggle = refl
answers_agree true false true Off D0 = refl
answers_agree true false true Off D1 = refl
answers_agree true false false Off toggle = refl
answers_agree true false true (Wait p l) D0 = refl
answers_agree true false true (Wait p l) D1 = refl
answers_agree true false false (Wait p l) toggle = refl
answers_agree true false true (Loaded p) D0 = refl
answers_agree true false true (Loaded p) D1 = refl
answers_agree true false false (Loaded p) toggle = refl
answers_agree true false true (Finished s) D0 = refl
answers_agree true false true (Finished s) D1 = refl
answers_agree true false false (Finished s) toggle = refl
answers_agree true false true Armed D0 = refl
answers_agree true false true Armed D1 = refl
answers_agree true false false Armed D0 = refl
answers_agree true false false Armed D1 = refl
answers_agree true false true (Last p) D0 = refl
answers_agree true false true (Last p) D1 = refl
answers_agree true false false (Last p) D0 = refl
answers_agree true false false (Last p) D1 = refl

abbrev pub after_by : OutOutcome → Bus → Bus → Bus
after_by lands x m = x
after_by unheard x m = m
after_by naks x m = m
after_by stalls x m = m
after_by drops x m = m

nexts_agree : (heard waits taken : Bool) (side : Side) (toggle : Toggle) (x m : Bus)
    → after_by (outcome_of heard waits (is_stalled side) taken (is_armed side) toggle) x m
    ≡ (if heard && not waits then (if takes side taken toggle then x else m) else m)
nexts_agree false waits taken side toggle x m = refl
nexts_agree true true taken side toggle x m = refl
nexts_agree true false taken Stall toggle x m = refl
nexts_agree true false true Off D0 x m = refl
nexts_agree true false true Off D1 x m = refl
nexts_agree true false false Off toggle x m = refl
nexts_agree true false true (Wait p l) D0 x m = refl
nexts_agree true false true (Wait p l) D1 x m = refl
nexts_agree true false false (Wait p l) toggle x m = refl
nexts_agree true false true (Loaded p) D0 x m = refl
nexts_agree true false true (Loaded p) D1 x m = refl
nexts_agree true false false (Loaded p) toggle x m = refl
nexts_agree true false true (Finished s) D0 x m = refl
nexts_agree true false true (Finished s) D1 x m = refl
nexts_agree true false false (Finished s) toggle x m = refl
nexts_agree true false true Armed D0 x m = refl
nexts_agree true false true Armed D1 x m = refl
nexts_agree true false false Armed D0 x m = refl
nexts_agree true false false Armed D1 x m = refl
nexts_agree true false true (Last p) D0 x m = refl
nexts_agree true false true (Last p) D1 x m = refl
nexts_agree true false false (Last p) D0 x m = refl
nexts_agree true false false (Last p) D1 x m = refl

-- where a packet lands

record Free (side : Side) : Type 0 where
  stall : is_stalled side ≡ false
  idle : is_idle side ≡ false
  came : came_arrivals side ≡ []

armed_side : (side : Side) → IsTrue (is_armed side) → Free side
armed_side Armed h = record { stall = refl; idle = refl; came = refl }
armed_side (Last p) h = record { stall = refl; idle = refl; came = refl }
armed_side Off h = never _ refl h
armed_side (Wait p l) h = never _ refl h
armed_side (Loaded p) h = never _ refl h
armed_side Stall h = never _ refl h
armed_side (Finished s) h = never _ refl h

pair_lands : {x : Bool} {r : Ready} {side : Side} (bytes : List ℕ) → Pair x r side → IsTrue (is_armed side) → Pair x r (Finished (Came bytes))
pair_lands bytes last_last h = last_came
pair_lands bytes last_armed h = last_came
pair_lands bytes armed_armed h = armed_came
pair_lands bytes off_off h = never _ refl h
pair_lands bytes wait_wait h = never _ refl h
pair_lands bytes loaded_loaded h = never _ refl h
pair_lands bytes loaded_sent h = never _ refl h
pair_lands bytes last_came h = never _ refl h
pair_lands bytes armed_came h = never _ refl h
pair_lands bytes stall_stall h = never _ refl h
pair_lands bytes loaded_off h = never _ refl h
pair_lands bytes last_off h = never _ refl h
pair_lands bytes armed_off h = never _ refl h
pair_lands bytes stall_off h = never _ refl h

pub none_lie : (us : List (List ℕ)) → some_lie us ≡ false → us ≡ []
none_lie [] e = refl
none_lie (u ∷ us) e = never true e refl

pub and_false : (b : Bool) → (b && false) ≡ false
and_false true = refl
and_false false = refl

nothing_its : (side : Side) (us : List (List ℕ)) → came_arrivals side ≡ [] → us ≡ [] → came_arrivals side ++ setups_arrivals us ≡ []
nothing_its side us e k = ap (λ xs. xs ++ setups_arrivals us) e ∙ ap setups_arrivals k

pub no_packets : (arrivals : List Arrival) → arrivals_for 0 arrivals ≡ [] → packets_for 0 arrivals ≡ []
no_packets arrivals e = packets_for-its 0 arrivals ∙ ap (packets_for 0) e

pub land_stands : (t : Table) (s : Software) (m : Bus) (bytes : List ℕ) → Stands FS4 t s m → IsPacket bytes
    → m.awake ≡ true → some_lie m.unserved ≡ false → IsTrue (is_armed m.side)
    → Stands FS4 (table.after_landing t 0 D1 bytes) s (record m { side = Finished (Came bytes); taken = true })
land_stands t s m bytes st h awake lie ar =
    let r : Free m.side = armed_side m.side ar in
    let none : came_arrivals m.side ++ setups_arrivals m.unserved ≡ [] = nothing_its m.side m.unserved r.came (none_lie m.unserved lie) in
    record {
      ins = record { kept = st.ins.kept; stall = st.ins.stall ∙ r.stall; enabled = refl; ready = never _ refl; holds = ap (λ (tx : Tx). tx_empty tx.depth) st.ins.holds; size = never _ refl };
      outs = record { kept = st.outs.kept; stall = st.outs.stall ∙ r.stall; enabled = refl; naks = never _ refl; toggle = never _ (and_false _); lies = λ _. refl };
      pair = pair_lands bytes st.pair ar;
      side = record {
        taken_is = sym (ap (λ w. not w && (was_packet s.heard || true)) lie ∙ or_right (was_packet s.heard) true refl);
        toggle_is = st.side.toggle_is;
        first = ap (λ i. was_heard s.heard || i) (sym r.idle) ∙ st.side.first;
        packet = h;
        alone = and_false _;
      };
      rx = record {
        arrivals = st.rx.arrivals ++ Packet 0 D1 bytes ∷ [];
        lie = ap (λ (rx : Rx). record rx { entries = rx.entries ++ out_entries 0 D1 bytes }) st.rx.lie ∙ ap (λ es. record { left = []; entries = es; depth = rx_depth FS4 }) (entries_of-behind st.rx.arrivals (Packet 0 D1 bytes));
        its = arrivals_for-behind 0 st.rx.arrivals (Packet 0 D1 bytes) ∙ ap (λ xs. xs ++ Packet 0 D1 bytes ∷ []) (st.rx.its ∙ none) ∙ ap (λ vs. Packet 0 D1 bytes ∷ setups_arrivals vs) (sym (none_lie m.unserved lie));
        all = few_with_packet FS4.out_eps st.rx.arrivals 0 D1 bytes st.rx.all (omega arith, h.fits, h.below) (no_packets st.rx.arrivals (st.rx.its ∙ none));
        counts = st.rx.counts;
        few = st.rx.few;
        are = st.rx.are;
      };
      rest = st.rest;
      core = record { awake = st.core.awake; reset = st.core.reset; address = st.core.address; landed = sym (ap (λ a. landed_of a true) awake); asleep = st.core.asleep; next = st.core.next };
    }

-- Who is heard on endpoint 0.

pub not_not : (b : Bool) → not (not b) ≡ b
not_not true = refl
not_not false = refl

two_tests : (awake a ok : Bool) → ((awake && a) && ok) ≡ (awake && (a && ok))
two_tests false a ok = refl
two_tests true false ok = refl
two_tests true true ok = refl

all_tests : (awake a ok fits : Bool) → fits ≡ true → ((awake && a) && ok && true && fits) ≡ (awake && (a && ok))
all_tests false a ok fits h = refl
all_tests true false ok fits h = refl
all_tests true true false fits h = refl
all_tests true true true fits h = h

small : (n : ℕ) → n ≤ 64 → nat_le n 64 ≡ true
small n h = grind (arith, nat_tests)

roomy : (n k : ℕ) → n ≤ k → nat_le n k ≡ true
roomy n k h = grind (arith, nat_tests)

heard_is : (t : Table) (s : Software) (m : Bus) (addr : ℕ) (bytes : List ℕ) (ok : Bool) → Stands FS4 t s m → IsPacket bytes
    → hears_out t addr 0 bytes ok ≡ (m.awake && ((addr == m.address) && ok))
heard_is t s m addr bytes ok st h =
    let fits : nat_le (length bytes) (packet_size 0 t.out0.control) ≡ true =
    ap (λ kept. nat_le (length bytes) (packet_size 0 (record t.out0.control { kept = kept }))) st.outs.kept ∙ small (length bytes) h.fits in
    ap (λ x. x && ok && true && nat_le (length bytes) (packet_size 0 t.out0.control)) (hears_is t s m addr st.core)
    ∙ all_tests m.awake (addr == m.address) ok _ fits

has_room_is : (t : Table) (s : Software) (m : Bus) (bytes : List ℕ) → Stands FS4 t s m → IsPacket bytes → some_lie m.unserved ≡ false → IsTrue (is_armed m.side)
    → has_room t bytes ≡ true
has_room_is t s m bytes st h lie ar =
    let none = st.rx.its ∙ nothing_its m.side m.unserved (armed_side m.side ar).came (none_lie m.unserved lie) in
    ap (λ (rx : Rx). nat_le (2 + word_count (length bytes)) (room_of rx)) st.rx.lie
    ∙ roomy (2 + word_count (length bytes)) (room_of (record { left = []; entries = entries_of st.rx.arrivals; depth = rx_depth FS4 }))
    ((room_for FS4 (record t { rx = record { left = []; entries = []; depth = rx_depth FS4 } }) st.rx.arrivals refl st.rx.all).packet 0 (length bytes) (omega arith) (no_packets st.rx.arrivals none) h.fits)

or_false : (b i : Bool) → i ≡ false → (b || i) ≡ true → IsTrue b
or_false true i e h = refl
or_false false i e h = sym e ∙ h

seen_now : (waits heard taken : Bool) → waits ≡ false → taken ≡ false → IsTrue heard → IsTrue ((waits || heard) && not taken)
seen_now waits heard taken e k h = rw (e, k, h) refl

pub setup_lies_is : (t : Table) (s : Software) (m : Bus) → Stands FS4 t s m → setup_lies t ≡ some_lie m.unserved
setup_lies_is t s m st = setup_in-is t.rx t.core.unserved m.side m.unserved st.rx

outcome_is : (t : Table) (s : Software) (m : Bus) (addr : ℕ) (toggle : Toggle) (bytes : List ℕ) (ok : Bool) → Stands FS4 t s m → IsPacket bytes
    → out_outcome t addr 0 toggle bytes ok ≡ outcome_of (m.awake && ((addr == m.address) && ok)) (some_lie m.unserved) (is_stalled m.side) m.taken (is_armed m.side) toggle
outcome_is t s m addr toggle bytes ok st h =
    let c = t.out0.control in
    let same = same_toggle t.out0.toggle toggle in
    let room = has_room t bytes in
    let heard = m.awake && ((addr == m.address) && ok) in
    let waits = some_lie m.unserved in
    ap (λ x. outcome_by x (setup_lies t) c.stall (is_repeated_of t.core.landed toggle) c.enabled c.nak same room) (heard_is t s m addr bytes ok st h)
    ∙ ap (λ x. outcome_by heard x c.stall (is_repeated_of t.core.landed toggle) c.enabled c.nak same room) (setup_lies_is t s m st)
    ∙ ap (λ x. outcome_by heard waits x (is_repeated_of t.core.landed toggle) c.enabled c.nak same room) st.outs.stall
    ∙ ap (λ x. outcome_by heard waits (is_stalled m.side) (is_repeated_of x toggle) c.enabled c.nak same room) st.core.landed
    ∙ ap (λ x. outcome_by heard waits (is_stalled m.side) (is_repeated_of (landed_of m.awake m.taken) toggle) x c.nak same room) st.outs.enabled
    ∙ outcomes_agree m.awake ((addr == m.address) && ok) waits (is_stalled m.side) m.taken (is_armed m.side) c.nak room t.out0.toggle toggle
    st.outs.naks
    (λ ar lie none. st.outs.toggle (seen_now waits (was_heard s.heard) m.taken lie none (or_false (was_heard s.heard) (is_idle m.side) (armed_side m.side ar).idle st.side.first)))
    (λ ar lie. has_room_is t s m bytes st h lie ar)

-- A packet on endpoint 0.

both_true : (a b : Bool) → (a && b) ≡ true → a ≡ true
both_true true b e = refl
both_true false b e = e

serves_is : (us : List (List ℕ)) → bus.is_empty us ≡ not (some_lie us)
serves_is us = sym (not_not (bus.is_empty us))

pub out0_answer : (t : Table) (s : Software) (m : Bus) (p : Pipes) (addr : ℕ) (toggle : Toggle) (bytes : List ℕ) (ok : Bool) → Stands FS4 t s m → IsPacket bytes
    → table.bus_answer t (event.Out addr 0 toggle bytes ok) ≡ bus.bus_answer m p (event.Out addr 0 toggle bytes ok)
out0_answer t s m p addr toggle bytes ok st h =
    ap table.out_answer (outcome_is t s m addr toggle bytes ok st h)
    ∙ answers_agree (m.awake && ((addr == m.address) && ok)) (some_lie m.unserved) m.taken m.side toggle
    ∙ ap (λ x. if x then (if not (some_lie m.unserved) then bus.out_answer m.side m.taken toggle else answers.Nak) else answers.NoAnswer) (sym (two_tests m.awake (addr == m.address) ok))
    ∙ ap (λ x. if bus.hears_packet m addr ok then (if x then bus.out_answer m.side m.taken toggle else answers.Nak) else answers.NoAnswer) (sym (serves_is m.unserved))

out0_next : (m : Bus) (addr : ℕ) (toggle : Toggle) (bytes : List ℕ) (ok : Bool)
    → after_by (outcome_of (m.awake && ((addr == m.address) && ok)) (some_lie m.unserved) (is_stalled m.side) m.taken (is_armed m.side) toggle) (record m { side = Finished (Came bytes); taken = true }) m
    ≡ bus.bus_after m (event.Out addr 0 toggle bytes ok)
out0_next m addr toggle bytes ok =
    let after = bus.after_out m toggle bytes in
    nexts_agree (m.awake && ((addr == m.address) && ok)) (some_lie m.unserved) m.taken m.side toggle (record m { side = Finished (Came bytes); taken = true }) m
    ∙ ap (λ x. if x && not (some_lie m.unserved) then after else m) (sym (two_tests m.awake (addr == m.address) ok))
    ∙ ap (λ x. if bus.hears_packet m addr ok && x then after else m) (sym (serves_is m.unserved))

pub out0_stands : (t : Table) (s : Software) (m : Bus) (addr : ℕ) (toggle : Toggle) (bytes : List ℕ) (ok : Bool) → Stands FS4 t s m → IsPacket bytes
    → Stands FS4 (table.after_bus t (event.Out addr 0 toggle bytes ok)) s (bus.bus_after m (event.Out addr 0 toggle bytes ok))
out0_stands t s m addr toggle bytes ok st h =
    let X : Bus = record m { side = Finished (Came bytes); taken = true } in
    let P : OutOutcome → Type 0 = λ o. Stands FS4 (table.after_out t 0 toggle bytes o) s (after_by o X m) in
    let heard = m.awake && ((addr == m.address) && ok) in
    let all : P (outcome_of heard (some_lie m.unserved) (is_stalled m.side) m.taken (is_armed m.side) toggle) =
    outcome_elim P heard (some_lie m.unserved) (is_stalled m.side) m.taken (is_armed m.side) toggle st st st st
    (λ hears lie none ar is. subst (λ x. Stands FS4 (table.after_landing t 0 x bytes) s X) (sym is) (land_stands t s m bytes st h (both_true m.awake _ hears) lie ar)) in
    subst (λ x. Stands FS4 (table.after_out t 0 toggle bytes (out_outcome t addr 0 toggle bytes ok)) s x) (out0_next m addr toggle bytes ok)
    (subst (λ o. Stands FS4 (table.after_out t 0 toggle bytes o) s (after_by (outcome_of heard (some_lie m.unserved) (is_stalled m.side) m.taken (is_armed m.side) toggle) X m)) (sym (outcome_is t s m addr toggle bytes ok st h)) all)
