-- A token for the device on the bus.
use Rattle.std.proofs.Common.{◌≡◌, ℕ, suc, ◌-◌, ◌≤◌, List, [], ◌∷◌, ◌++◌, length, Bool, true, false, Option, Some, None, refl, ap, sym, ◌∙◌, arith, subst}
use Rattle.std.specs.Prelude.{◌||◌, ◌&&◌, not, ◌==◌, if◌then◌else◌, IsTrue}
use Rattle.std.proofs.lemmas.Bool.{or_right}
use Rattle.usb_packet.specs.declared.bus.Toggle.{Toggle}
use Rattle.usb_packet.specs.declared.bus.Toggle.TheVariants.{D0, D1}
use Rattle.usb_packet.specs.declared.bus.BusAnswer.TheVariants as answers
use Rattle.usb_packet.specs.declared.bus.BusEvent.TheVariants as event
use Rattle.usb_packet.specs.Toggles.{flipped}
use Rattle.device_machine.specs.declared.control.Stage.TheVariants.{Sent}
use Rattle.device_machine.specs.declared.control.Side.{Side}
use Rattle.device_machine.specs.declared.control.Side.TheVariants.{Off, Wait, Loaded, Last, Armed, Stall, Finished}
use Rattle.device_machine.specs.Bus as bus
use Rattle.device_machine.specs.Bus.{Bus}
use Rattle.device_machine.specs.Pipes.{Pipes}
use Rattle.dwc2_regs.specs.declared.access.TheConstants.{FS4}
use Rattle.dwc2_fifo.specs.Tx.{Tx, first_with, without_first}
use Rattle.device_table.specs.State.{Table, InEnd, rx_depth}
use Rattle.device_table.specs.Words.{packet_count, transfer_size}
use Rattle.device_table.specs.Write.{setup_lies}
use Rattle.device_table.specs.Bus as table
use Rattle.device_table.specs.Bus.{InOutcome, unheard_in, naks_in, stalls_in, sends, sends_of, packet_ready, in_outcome}
use Rattle.device_relation.specs.declared.software.Ready.{Ready}
use Rattle.device_relation.specs.declared.software.Heard.{Heard}
use Rattle.device_relation.specs.Software.{Software}
use Rattle.device_relation.specs.Relation.{Stands, Pair, off_off, wait_wait, loaded_loaded, loaded_sent, last_last, last_armed, armed_armed, last_came, armed_came}
use Rattle.device_relation.specs.Relation.{stall_stall, loaded_off, last_off, armed_off, stall_off, IsPacket, bytes_of_side, loaded_bytes, is_loaded, is_armed, is_stalled, is_idle}
use Rattle.device_relation.specs.Relation.{was_heard, is_seen, is_taken, toggle_of, some_lie, came_arrivals, setups_arrivals, tx_holding, one_packet}
use Rattle.device_relation.proofs.SetupEvents.{hears_is, never, no_packet, not_zero}
use Rattle.device_relation.proofs.OutEvents.{setup_lies_is, not_not, and_false}

-- the outcome, by what the parts fix
abbrev outcome_by : (heard waits stall enabled nak : Bool) → Option (List ℕ) → InOutcome
outcome_by heard waits stall enabled nak packet =
    if not heard then unheard_in
    else if waits then naks_in
    else if stall then stalls_in
    else if not enabled || nak then naks_in
    else sends_of packet

-- and by the device
abbrev outcome_of : (heard waits : Bool) → Side → InOutcome
outcome_of heard waits side =
    if not heard then unheard_in
    else if waits then naks_in
    else if is_stalled side then stalls_in
    else if is_loaded side then sends (loaded_bytes side)
    else naks_in

outcomes_agree : (heard waits stall loaded nak : Bool) (packet : Option (List ℕ)) (bytes : List ℕ)
    → (IsTrue loaded → nak ≡ false) → (IsTrue loaded → packet ≡ Some bytes)
    → outcome_by heard waits stall loaded nak packet ≡ (if not heard then unheard_in else if waits then naks_in else if stall then stalls_in else if loaded then sends bytes else naks_in)
outcomes_agree false waits stall loaded nak packet bytes h k = refl
outcomes_agree true true stall loaded nak packet bytes h k = refl
outcomes_agree true false true loaded nak packet bytes h k = refl
outcomes_agree true false false false nak packet bytes h k = refl
outcomes_agree true false false true nak packet bytes h k = rw (h refl, k refl) refl

-- the packet that is ready is the one that is loaded

one_count : (n : ℕ) → n ≤ 64 → packet_count 0 (one_packet n) ≡ 1
one_count n h = omega arith

one_size : (n : ℕ) → n ≤ 64 → transfer_size 0 (one_packet n) ≡ n
one_size n h = omega arith

abbrev ready_by : ℕ → ℕ → Tx → Option (List ℕ)
ready_by count size tx =
    if count == 0 then None
    else if (size == 0) && (count == 1) then Some []
    else first_with 0 tx.packets

ready_one : (bytes : List ℕ) → ready_by 1 (length bytes) (tx_holding bytes) ≡ Some bytes
ready_one [] = refl
ready_one (b ∷ bytes) = ap (λ x. if x && true then Some [] else Some (b ∷ bytes)) (not_zero (length bytes))

packet_is : (end : InEnd) (bytes : List ℕ) → IsPacket bytes → end.tsiz ≡ one_packet (length bytes) → end.fifo ≡ tx_holding bytes → packet_ready 0 end ≡ Some bytes
packet_is end bytes h size holds =
    ap (λ n. ready_by (packet_count 0 n) (transfer_size 0 n) end.fifo) size
    ∙ ap (λ n. ready_by n (transfer_size 0 (one_packet (length bytes))) end.fifo) (one_count (length bytes) h.fits)
    ∙ ap (λ n. ready_by 1 n end.fifo) (one_size (length bytes) h.fits)
    ∙ ap (λ tx. ready_by 1 (length bytes) tx) holds
    ∙ ready_one bytes

loaded_packet : (side : Side) → IsPacket (bytes_of_side side) → IsPacket (loaded_bytes side)
loaded_packet (Loaded p) h = h
loaded_packet (Last p) h = h
loaded_packet Off h = no_packet
loaded_packet (Wait p l) h = no_packet
loaded_packet Armed h = no_packet
loaded_packet Stall h = no_packet
loaded_packet (Finished s) h = no_packet

two_tests : (h : Bool) → (h && true) ≡ h
two_tests true = refl
two_tests false = refl

outcome_is : (t : Table) (s : Software) (m : Bus) (addr : ℕ) → Stands FS4 t s m → in_outcome t addr 0 ≡ outcome_of (bus.hears m addr) (some_lie m.unserved) m.side
outcome_is t s m addr st =
    let c = t.in0.control in
    let packet = packet_ready 0 t.in0 in
    ap (λ x. outcome_by (x && true) (setup_lies t) c.stall c.enabled c.nak packet) (hears_is t s m addr st.core)
    ∙ ap (λ x. outcome_by x (setup_lies t) c.stall c.enabled c.nak packet) (two_tests (bus.hears m addr))
    ∙ ap (λ x. outcome_by (bus.hears m addr) x c.stall c.enabled c.nak packet) (setup_lies_is t s m st)
    ∙ ap (λ x. outcome_by (bus.hears m addr) (some_lie m.unserved) x c.enabled c.nak packet) st.ins.stall
    ∙ ap (λ x. outcome_by (bus.hears m addr) (some_lie m.unserved) (is_stalled m.side) x c.nak packet) st.ins.enabled
    ∙ outcomes_agree (bus.hears m addr) (some_lie m.unserved) (is_stalled m.side) (is_loaded m.side) c.nak packet (loaded_bytes m.side) st.ins.ready
    (λ h. packet_is t.in0 (loaded_bytes m.side) (loaded_packet m.side st.side.packet) (st.ins.size h) st.ins.holds)

-- its toggle

loaded_seen : (waits : Bool) (heard : Heard) (side : Side) → (was_heard heard || is_idle side) ≡ true → IsTrue (is_loaded side) → is_seen waits heard ≡ true
loaded_seen waits heard (Loaded p) e h = ap (λ x. waits || x) (or_nothing (was_heard heard) e) ∙ or_right waits true refl
  where
    or_nothing : (b : Bool) → (b || false) ≡ true → b ≡ true
    or_nothing true e = refl
    or_nothing false e = e
loaded_seen waits heard (Last p) e h = ap (λ x. waits || x) (or_nothing (was_heard heard) e) ∙ or_right waits true refl
  where
    or_nothing : (b : Bool) → (b || false) ≡ true → b ≡ true
    or_nothing true e = refl
    or_nothing false e = e
loaded_seen waits heard Off e h = never _ refl h
loaded_seen waits heard (Wait p l) e h = never _ refl h
loaded_seen waits heard Armed e h = never _ refl h
loaded_seen waits heard Stall e h = never _ refl h
loaded_seen waits heard (Finished s) e h = never _ refl h

toggle_is : (t : Table) (s : Software) (m : Bus) → Stands FS4 t s m → IsTrue (is_loaded m.side) → t.in0.toggle ≡ m.toggle
toggle_is t s m st h = sym (st.side.toggle_is ∙ ap (λ x. toggle_of x t.in0.toggle) (loaded_seen (some_lie m.unserved) s.heard m.side st.side.first h))

answers_agree : (heard waits : Bool) (side : Side) (its toggle : Toggle) → (IsTrue (is_loaded side) → its ≡ toggle)
    → table.in_answer its (outcome_of heard waits side) ≡ (if heard then (if not waits then bus.in_answer side toggle else answers.Nak) else answers.NoAnswer)
answers_agree false waits side its toggle h = refl
answers_agree true true side its toggle h = refl
answers_agree true false Off its toggle h = refl
answers_agree true false Stall its toggle h = refl
answers_agree true false (Wait p l) its toggle h = refl
answers_agree true false Armed its toggle h = refl
answers_agree true false (Finished s) its toggle h = refl
answers_agree true false (Loaded p) its toggle h = ap (λ x. answers.Data x p) (h refl)
answers_agree true false (Last p) its toggle h = ap (λ x. answers.Data x p) (h refl)

serves_is : (us : List (List ℕ)) → not (some_lie us) ≡ bus.is_empty us
serves_is us = not_not (bus.is_empty us)

pub in0_answer : (t : Table) (s : Software) (m : Bus) (p : Pipes) (addr : ℕ) (ok : Bool) → Stands FS4 t s m
    → table.bus_answer t (event.In addr 0 ok) ≡ bus.bus_answer m p (event.In addr 0 ok)
in0_answer t s m p addr ok st =
    ap (table.in_answer t.in0.toggle) (outcome_is t s m addr st)
    ∙ answers_agree (bus.hears m addr) (some_lie m.unserved) m.side t.in0.toggle m.toggle (toggle_is t s m st)
    ∙ ap (λ x. if bus.hears m addr then (if x then bus.in_answer m.side m.toggle else answers.Nak) else answers.NoAnswer) (serves_is m.unserved)

-- The packet is acknowledged.

abbrev sent_side : Side → Side
sent_side (Loaded p) = Finished Sent
sent_side (Last p) = Armed
sent_side Off = Off
sent_side (Wait p l) = Wait p l
sent_side Armed = Armed
sent_side Stall = Stall
sent_side (Finished s) = Finished s

pair_sent : {x : Bool} {r : Ready} {side : Side} → Pair x r side → IsTrue (is_loaded side) → Pair (x || true) r (sent_side side)
pair_sent loaded_loaded h = loaded_sent
pair_sent last_last h = last_armed
pair_sent off_off h = never _ refl h
pair_sent wait_wait h = never _ refl h
pair_sent loaded_sent h = never _ refl h
pair_sent last_armed h = never _ refl h
pair_sent armed_armed h = never _ refl h
pair_sent last_came h = never _ refl h
pair_sent armed_came h = never _ refl h
pair_sent stall_stall h = never _ refl h
pair_sent loaded_off h = never _ refl h
pair_sent last_off h = never _ refl h
pair_sent armed_off h = never _ refl h
pair_sent stall_off h = never _ refl h

record Sends (side : Side) : Type 0 where
  stall : is_stalled (sent_side side) ≡ is_stalled side
  loaded : is_loaded (sent_side side) ≡ false
  armed : is_armed (sent_side side) ≡ is_armed side
  bytes : loaded_bytes (sent_side side) ≡ []
  none : bytes_of_side (sent_side side) ≡ []
  came : came_arrivals (sent_side side) ≡ came_arrivals side
  taken : (waits : Bool) (heard : Heard) → is_taken waits heard (sent_side side) ≡ is_taken waits heard side
  idle : is_idle (sent_side side) ≡ is_idle side

sends_side : (side : Side) → IsTrue (is_loaded side) → Sends side
sends_side (Loaded p) h = record { stall = refl; loaded = refl; armed = refl; bytes = refl; none = refl; came = refl; taken = λ w h. refl; idle = refl }
sends_side (Last p) h = record { stall = refl; loaded = refl; armed = refl; bytes = refl; none = refl; came = refl; taken = λ w h. refl; idle = refl }
sends_side Off h = never _ refl h
sends_side (Wait p l) h = never _ refl h
sends_side Armed h = never _ refl h
sends_side Stall h = never _ refl h
sends_side (Finished s) h = never _ refl h

count_down : (count : ℕ) → count ≡ 1 → ((count - 1) == 0) ≡ true
count_down count e = rw e refl

acked_fifo : (bytes : List ℕ) → (if (length bytes == 0) && (1 == 1) then tx_holding bytes else record (tx_holding bytes) { packets = without_first 0 (tx_holding bytes).packets }) ≡ tx_holding []
acked_fifo [] = refl
acked_fifo (b ∷ bytes) = ap (λ x. if x && true then tx_holding (b ∷ bytes) else tx_holding []) (not_zero (length bytes))

abbrev fifo_by : ℕ → ℕ → Tx → Tx
fifo_by size count tx = if (size == 0) && (count == 1) then tx else record tx { packets = without_first 0 tx.packets }

fifo_is : (end : InEnd) (bytes : List ℕ) → IsPacket bytes → end.tsiz ≡ one_packet (length bytes) → end.fifo ≡ tx_holding bytes → table.fifo_acked 0 end ≡ tx_holding []
fifo_is end bytes h size holds =
    ap (λ n. fifo_by (transfer_size 0 n) (packet_count 0 n) end.fifo) size
    ∙ ap (λ n. fifo_by n (packet_count 0 (one_packet (length bytes))) end.fifo) (one_size (length bytes) h.fits)
    ∙ ap (λ n. fifo_by (length bytes) n end.fifo) (one_count (length bytes) h.fits)
    ∙ ap (λ tx. fifo_by (length bytes) 1 tx) holds
    ∙ acked_fifo bytes

flipped_is : (toggle : Toggle) (seen : Bool) (its : Toggle) → seen ≡ true → its ≡ toggle → flipped toggle ≡ toggle_of seen (flipped its)
flipped_is D0 seen its e k = rw (e, k) refl
flipped_is D1 seen its e k = rw (e, k) refl

pub sent_stands : (t : Table) (s : Software) (m : Bus) → Stands FS4 t s m → IsTrue (is_loaded m.side)
    → Stands FS4 (table.after_in t 0 true (sends (loaded_bytes m.side))) s (record m { side = sent_side m.side; toggle = flipped m.toggle })
sent_stands t s m st h =
    let r : Sends m.side = sends_side m.side h in
    let p : IsPacket (loaded_bytes m.side) = loaded_packet m.side st.side.packet in
    let count : packet_count 0 t.in0.tsiz ≡ 1 = ap (packet_count 0) (st.ins.size h) ∙ one_count (length (loaded_bytes m.side)) p.fits in
    let last : ((packet_count 0 t.in0.tsiz - 1) == 0) ≡ true = count_down _ count in
    record {
      ins = record {
        kept = st.ins.kept;
        stall = st.ins.stall ∙ sym r.stall;
        enabled = ap (λ x. t.in0.control.enabled && not x) last ∙ and_false _ ∙ sym r.loaded;
        ready = never _ r.loaded;
        holds = fifo_is t.in0 (loaded_bytes m.side) p (st.ins.size h) st.ins.holds ∙ ap tx_holding (sym r.bytes);
        size = never _ r.loaded;
      };
      outs = record { kept = st.outs.kept; stall = st.outs.stall ∙ sym r.stall; enabled = st.outs.enabled ∙ sym r.armed; naks = λ ar. st.outs.naks (sym r.armed ∙ ar); toggle = st.outs.toggle; lies = st.outs.lies };
      pair = subst (λ x. Pair (t.in0.xfrc || x) s.side (sent_side m.side)) (sym last) (pair_sent st.pair h);
      side = record {
        taken_is = st.side.taken_is ∙ sym (r.taken (some_lie m.unserved) s.heard);
        toggle_is = flipped_is m.toggle (is_seen (some_lie m.unserved) s.heard) t.in0.toggle (loaded_seen (some_lie m.unserved) s.heard m.side st.side.first h) (toggle_is t s m st h);
        first = ap (λ i. was_heard s.heard || i) r.idle ∙ st.side.first;
        packet = subst IsPacket (sym r.none) no_packet;
        alone = ap (λ x. some_lie m.unserved && x) r.loaded ∙ and_false _;
      };
      rx = record { arrivals = st.rx.arrivals; lie = st.rx.lie; its = st.rx.its ∙ ap (λ xs. xs ++ setups_arrivals m.unserved) (sym r.came); all = st.rx.all; counts = st.rx.counts; few = st.rx.few; are = st.rx.are };
      rest = st.rest;
      core = record { awake = st.core.awake; reset = st.core.reset; address = st.core.address; landed = st.core.landed; asleep = st.core.asleep; next = st.core.next };
    }

after_by : InOutcome → Bool → Bus → Bus → Bus
after_by (sends packet) true x m = x
after_by (sends packet) false x m = m
after_by unheard_in ok x m = m
after_by naks_in ok x m = m
after_by stalls_in ok x m = m

abbrev sent_bus : Bus → Bus
sent_bus m = record m { side = sent_side m.side; toggle = flipped m.toggle }

nexts_agree : (heard waits ok : Bool) (side : Side) (m : Bus)
    → after_by (outcome_of heard waits side) ok (record m { side = sent_side side; toggle = flipped m.toggle }) (record m { side = side })
    ≡ (if heard && (ok && not waits) then bus.after_in (record m { side = side }) side else record m { side = side })
unfolding after_by
nexts_agree false waits ok side m = refl
nexts_agree true true true side m = refl
nexts_agree true true false side m = refl
nexts_agree true false true Off m = refl
nexts_agree true false true Stall m = refl
nexts_agree true false true (Wait p l) m = refl
nexts_agree true false true Armed m = refl
nexts_agree true false true (Finished s) m = refl
nexts_agree true false true (Loaded p) m = refl
nexts_agree true false true (Last p) m = refl
nexts_agree true false false Off m = refl
nexts_agree true false false Stall m = refl
nexts_agree true false false (Wait p l) m = refl
nexts_agree true false false Armed m = refl
nexts_agree true false false (Finished s) m = refl
nexts_agree true false false (Loaded p) m = refl
nexts_agree true false false (Last p) m = refl

outcome_elim : (P : InOutcome → Type 0) (heard waits stall loaded : Bool) (bytes : List ℕ) → P unheard_in → P naks_in → P stalls_in → (IsTrue loaded → P (sends bytes))
    → P (if not heard then unheard_in else if waits then naks_in else if stall then stalls_in else if loaded then sends bytes else naks_in)
outcome_elim P false waits stall loaded bytes u n s l = u
outcome_elim P true true stall loaded bytes u n s l = n
outcome_elim P true false true loaded bytes u n s l = s
outcome_elim P true false false true bytes u n s l = l refl
outcome_elim P true false false false bytes u n s l = n

by_ack : (t : Table) (s : Software) (m : Bus) (ok : Bool) → Stands FS4 t s m → IsTrue (is_loaded m.side)
    → Stands FS4 (table.after_in t 0 ok (sends (loaded_bytes m.side))) s (after_by (sends (loaded_bytes m.side)) ok (sent_bus m) m)
unfolding after_by
by_ack t s m true st h = sent_stands t s m st h
by_ack t s m false st h = st

pub in0_stands : (t : Table) (s : Software) (m : Bus) (addr : ℕ) (ok : Bool) → Stands FS4 t s m
    → Stands FS4 (table.after_bus t (event.In addr 0 ok)) s (bus.bus_after m (event.In addr 0 ok))
unfolding after_by
in0_stands t s m addr ok st =
    let o = outcome_of (bus.hears m addr) (some_lie m.unserved) m.side in
    let P : InOutcome → Type 0 = λ o. Stands FS4 (table.after_in t 0 ok o) s (after_by o ok (sent_bus m) m) in
    let all : P o = outcome_elim P (bus.hears m addr) (some_lie m.unserved) (is_stalled m.side) (is_loaded m.side) (loaded_bytes m.side) st st st (by_ack t s m ok st) in
    let next : after_by o ok (sent_bus m) m ≡ bus.bus_after m (event.In addr 0 ok) =
    nexts_agree (bus.hears m addr) (some_lie m.unserved) ok m.side m
    ∙ ap (λ x. if bus.hears m addr && (ok && x) then bus.after_in m m.side else m) (serves_is m.unserved) in
    subst (λ x. Stands FS4 (table.after_bus t (event.In addr 0 ok)) s x) next
    (subst (λ x. Stands FS4 (table.after_in t 0 ok x) s (after_by o ok (sent_bus m) m)) (sym (outcome_is t s m addr st)) all)
