-- A handler run that serves a reset.
use Rattle.std.proofs.Common.{◌≡◌, ℕ, zero, suc, ◌+◌, ◌-◌, ◌*◌, ◌<◌, ◌≤◌, List, [], ◌∷◌, ◌++◌, length, map, Bool, true, false, refl, ap, sym, ◌∙◌, arith, subst, All, ext_get_or}
use Rattle.std.specs.Prelude.{◌||◌, ◌&&◌, ◌==◌, if◌then◌else◌, slice_index_or, replicate}
use Rattle.std.proofs.lemmas.Bool.{or_right}
use Rattle.std.proofs.lemmas.Bool.Decides.{nat_tests}
use Rattle.std.proofs.lemmas.List.{length-map}
use Rattle.std.proofs.lemmas.List.Elements.{All-head, All-tail}
use Rattle.usb_packet.specs.declared.bus.Toggle.{Toggle}
use Rattle.usb_packet.specs.declared.bus.Toggle.TheVariants.{D0}
use Rattle.usb_ring.specs.Ring.{Ring}
use Rattle.device_pipe.specs.OutPipe as pipe
use Rattle.device_pipe.specs.InPipe as inward
use Rattle.device_machine.specs.Bus.{Bus, unconfigured}
use Rattle.device_machine.specs.Pipes.{Pipes, pipes_unopened, no_out_slot, no_in_slot}
use Rattle.dwc2_regs.specs.declared.access.TheConstants.{FS4}
use Rattle.dwc2_regs.specs.Register.{grstctl, gintsts, dcfg, grxstsp}
use Rattle.dwc2_fifo.specs.Words.{words_of}
use Rattle.dwc2_fifo.specs.Rx.{Rx, Entry}
use Rattle.dwc2_fifo.specs.Tx.{Tx, empty_of as tx_empty}
use Rattle.device_table.specs.State.{Table, Kept, InEnd, OutEnd, rx_depth, with_out, out_end, in_end_of}
use Rattle.device_table.specs.Words.{status_word, pid_of}
use Rattle.device_table.specs.Read.{value_read, after_read}
use Rattle.device_table.specs.Write.{after_write}
use Rattle.device_arrivals.specs.Arrivals.{Arrival, Request, Packet, entries_of, requested_by, requests_in, packets_at, AreFew, IsArrival}
use Rattle.device_arrivals.specs.Laws.{PacketOut}
use Rattle.device_arrivals.proofs.Comes.{packet_comes}
use Rattle.device_arrivals.proofs.Counts.{is_counted}
use Rattle.device_arrivals.proofs.Few.{few_none}
use Rattle.device_rings.specs.Rings.{Rings, out_ring, in_ring, no_ring, emptied, all_emptied}
use Rattle.endpoint_relation.specs.OutRelation.{OutStands, Registers, Lies, not_open}
use Rattle.endpoint_relation.specs.InRelation.{InJoint, InStands, in_unused}
use Rattle.device_relation.specs.Software.{Software, Joint, unused}
use Rattle.device_relation.specs.Relation.{Stands, off_off, landed_of}
use Rattle.device_relation.specs.PipeRelation.{PipesStand, OutPipePart, InPipePart}
use Rattle.device_relation.specs.Port.{Port, StandsFor, AllStandFor, port_reset}
use Rattle.device_relation.specs.Run.{popped_all, pipes_closed, all_cleared, reset_served, flush_all, reset_bits}
use Rattle.device_relation.proofs.SetupEvents.{never, no_packet}
use Rattle.device_relation.proofs.OutEvents.{and_false}
use Rattle.device_relation.proofs.Entries.{requests_are}
use Rattle.device_relation.proofs.Taken.{epdis_ends}
use Rattle.device_relation.proofs.Pops.{rx_as, is_status}
use Rattle.device_relation.proofs.Lifts.{out_anew, in_anew}

-- with these endpoints
abbrev pub with_ends : Table → (a b c : InEnd) → (d e f : OutEnd) → Table
with_ends t a b c d e f = record t { ins = a ∷ b ∷ c ∷ []; outs = d ∷ e ∷ f ∷ [] }

-- All entries popped: what is left of the receive FIFO, of the count of SETUPs and of the bits of DOEPINTx.

abbrev pub popped_to : Table → (unserved : ℕ) (xfrc stup : Bool) → OutEnd → OutEnd → OutEnd → (x y z : Bool) → Table
popped_to t unserved xfrc stup d e f x y z =
    record t {
      core = record t.core { unserved = unserved };
      rx = record { left = []; entries = []; depth = rx_depth FS4 };
      out0 = record t.out0 { xfrc = xfrc; stup = stup };
      outs = record d { xfrc = x } ∷ record e { xfrc = y } ∷ record f { xfrc = z } ∷ [];
    }

record Emptied (t : Table) (d e f : OutEnd) (k : ℕ) (entries : List Entry) : Type 0 where
  unserved : ℕ
  xfrc : Bool
  stup : Bool
  x : Bool
  y : Bool
  z : Bool
  is : popped_all k (rx_as (record t { outs = d ∷ e ∷ f ∷ [] }) [] entries) ≡ popped_to t unserved xfrc stup d e f x y z
  none : unserved ≡ 0

nothing_left : (k : ℕ) (t : Table) → popped_all k (rx_as t [] []) ≡ rx_as t [] []
unfolding popped_all
nothing_left zero t = refl
nothing_left (suc k) t = refl

-- the front entry, by the word that it has and what it leaves
abbrev popping : Bool → ℕ → Table → Table
popping none k after = if none then after else popped_all k after

no_fuel : {A : Type 0} (n k : ℕ) → k ≤ 1 → 2 * suc n ≤ k → A
no_fuel n k l h = absurd (none n k l h)
  where
    none : (n k : ℕ) → k ≤ 1 → 2 * suc n ≤ k → ⊥
    none n k l h = omega (arith, l, h)

less_fuel : (k n : ℕ) → 2 * suc n ≤ suc (suc k) → 2 * n ≤ k
less_fuel k n h = omega (arith, h)

end_status : (number : ℕ) → (status_word number 0 0 3 == 0) ≡ false
end_status number = grind (arith, nat_tests)

below : (n : ℕ) → n ≤ 3 → n < 16
below n h = omega (arith, h)

-- both entries of a packet
packet_gone : (k : ℕ) (t : Table) (number : ℕ) (toggle : Toggle) (bytes : List ℕ) (arrivals : List Arrival) → IsArrival FS4.out_eps (Packet number toggle bytes)
    → popped_all (suc (suc k)) (rx_as t [] (entries_of (Packet number toggle bytes ∷ arrivals))) ≡ popped_all k (with_out (rx_as t [] (entries_of arrivals)) number (record (out_end t number) { xfrc = true }))
unfolding popped_all
packet_gone k t number toggle bytes arrivals is =
    let out : PacketOut (rx_as t [] []) [] number toggle bytes arrivals = packet_comes (rx_as t [] []) [] number toggle bytes arrivals (below number is.0) is.1 is.2 in
    let now = rx_as t [] (entries_of (Packet number toggle bytes ∷ arrivals)) in
    let behind = rx_as t (words_of bytes) (record { status = status_word number 0 0 3; words = [] } ∷ entries_of arrivals) in
    ap (λ b. popping b (suc k) (after_read now grxstsp)) (is_status number (length bytes) toggle)
    ∙ ap (popped_all (suc k)) out.data_out.after_is
    ∙ ap (λ b. popping b k (after_read behind grxstsp)) (end_status number)
    ∙ ap (popped_all k) ((out.end_out (words_of bytes)).after_is ∙ same_end number)
  where
    same_end : (number : ℕ) → with_out (rx_as t [] (entries_of arrivals)) number (record (out_end (rx_as t [] []) number) { xfrc = true }) ≡ with_out (rx_as t [] (entries_of arrivals)) number (record (out_end t number) { xfrc = true })
    same_end zero = refl
    same_end (suc m) = refl

with_three : Table → OutEnd → OutEnd → OutEnd → Table
with_three t d e f = record t { outs = d ∷ e ∷ f ∷ [] }

too_high : {A : Type 0} (m : ℕ) → suc (suc (suc (suc m))) ≤ 3 → A
too_high m h = absurd (none m h)
  where
    none : (m : ℕ) → suc (suc (suc (suc m))) ≤ 3 → ⊥
    none m h = omega (arith, h)

all_gone : (arrivals : List Arrival) (k : ℕ) (t : Table) (d e f : OutEnd) → 2 * length arrivals ≤ k → All (IsArrival FS4.out_eps) arrivals → t.core.unserved ≡ length (requested_by arrivals)
    → Emptied t d e f k (entries_of arrivals)
unfolding popped_all
all_gone [] k t d e f fuel all counts = record { unserved = t.core.unserved; xfrc = t.out0.xfrc; stup = t.out0.stup; x = d.xfrc; y = e.xfrc; z = f.xfrc; is = nothing_left k (record t { outs = d ∷ e ∷ f ∷ [] }); none = counts }
all_gone (a ∷ arrivals) zero t d e f fuel all counts = no_fuel (length arrivals) 0 (omega arith) fuel
all_gone (a ∷ arrivals) (suc zero) t d e f fuel all counts = no_fuel (length arrivals) 1 (omega arith) fuel
all_gone (Request bytes ∷ arrivals) (suc (suc k)) t d e f fuel all counts =
    let t1 : Table = record t { out0 = record t.out0 { stup = true }; core = record t.core { unserved = t.core.unserved - 1 } } in
    let rest : Emptied t1 d e f k (entries_of arrivals) = all_gone arrivals k t1 d e f (less_fuel k (length arrivals) fuel) (All-tail (IsArrival FS4.out_eps) (Request bytes) arrivals all) (omega (arith, counts)) in
    record { unserved = rest.unserved; xfrc = rest.xfrc; stup = rest.stup; x = rest.x; y = rest.y; z = rest.z; is = rest.is; none = rest.none }
all_gone (Packet zero toggle bytes ∷ arrivals) (suc (suc k)) t d e f fuel all counts =
    let t1 : Table = record t { out0 = record t.out0 { xfrc = true } } in
    let rest : Emptied t1 d e f k (entries_of arrivals) = all_gone arrivals k t1 d e f (less_fuel k (length arrivals) fuel) (All-tail (IsArrival FS4.out_eps) (Packet 0 toggle bytes) arrivals all) counts in
    record { unserved = rest.unserved; xfrc = rest.xfrc; stup = rest.stup; x = rest.x; y = rest.y; z = rest.z; is = packet_gone k (record t { outs = d ∷ e ∷ f ∷ [] }) 0 toggle bytes arrivals (All-head (IsArrival FS4.out_eps) (Packet 0 toggle bytes) arrivals all) ∙ rest.is; none = rest.none }
all_gone (Packet (suc zero) toggle bytes ∷ arrivals) (suc (suc k)) t d e f fuel all counts =
    let rest : Emptied t (record d { xfrc = true }) e f k (entries_of arrivals) = all_gone arrivals k t (record d { xfrc = true }) e f (less_fuel k (length arrivals) fuel) (All-tail (IsArrival FS4.out_eps) (Packet 1 toggle bytes) arrivals all) counts in
    record { unserved = rest.unserved; xfrc = rest.xfrc; stup = rest.stup; x = rest.x; y = rest.y; z = rest.z; is = packet_gone k (record t { outs = d ∷ e ∷ f ∷ [] }) 1 toggle bytes arrivals (All-head (IsArrival FS4.out_eps) (Packet 1 toggle bytes) arrivals all) ∙ rest.is; none = rest.none }
all_gone (Packet (suc (suc zero)) toggle bytes ∷ arrivals) (suc (suc k)) t d e f fuel all counts =
    let rest : Emptied t d (record e { xfrc = true }) f k (entries_of arrivals) = all_gone arrivals k t d (record e { xfrc = true }) f (less_fuel k (length arrivals) fuel) (All-tail (IsArrival FS4.out_eps) (Packet 2 toggle bytes) arrivals all) counts in
    record { unserved = rest.unserved; xfrc = rest.xfrc; stup = rest.stup; x = rest.x; y = rest.y; z = rest.z; is = packet_gone k (record t { outs = d ∷ e ∷ f ∷ [] }) 2 toggle bytes arrivals (All-head (IsArrival FS4.out_eps) (Packet 2 toggle bytes) arrivals all) ∙ rest.is; none = rest.none }
all_gone (Packet (suc (suc (suc zero))) toggle bytes ∷ arrivals) (suc (suc k)) t d e f fuel all counts =
    let rest : Emptied t d e (record f { xfrc = true }) k (entries_of arrivals) = all_gone arrivals k t d e (record f { xfrc = true }) (less_fuel k (length arrivals) fuel) (All-tail (IsArrival FS4.out_eps) (Packet 3 toggle bytes) arrivals all) counts in
    record { unserved = rest.unserved; xfrc = rest.xfrc; stup = rest.stup; x = rest.x; y = rest.y; z = rest.z; is = packet_gone k (record t { outs = d ∷ e ∷ f ∷ [] }) 3 toggle bytes arrivals (All-head (IsArrival FS4.out_eps) (Packet 3 toggle bytes) arrivals all) ∙ rest.is; none = rest.none }
all_gone (Packet (suc (suc (suc (suc m)))) toggle bytes ∷ arrivals) (suc (suc k)) t d e f fuel all counts =
    too_high m (All-head (IsArrival FS4.out_eps) (Packet (suc (suc (suc (suc m)))) toggle bytes) arrivals all).0

-- The endpoints.

pub record Three {A : Type 0} (xs : List A) : Type 0 where
  pub a : A
  pub b : A
  pub c : A
  pub is : xs ≡ a ∷ b ∷ c ∷ []

pub three : {A : Type 0} (xs : List A) → length xs ≡ 3 → Three xs
three [] h = absurd (omega arith)
three (a ∷ []) h = absurd (omega arith)
three (a ∷ b ∷ []) h = absurd (omega arith)
three (a ∷ b ∷ c ∷ []) h = record { a = a; b = b; c = c; is = refl }
three (a ∷ b ∷ c ∷ d ∷ xs) h = absurd (omega arith)

-- with all closed and all FIFOs empty, and with the receive FIFO popped
closed : Table → Table
closed t = after_write (pipes_closed FS4 (after_write t dcfg 0)) grstctl flush_all

done : Table → Table
done t = after_write (all_cleared FS4 t) gintsts reset_bits

served : (t : Table) → reset_served FS4 t ≡ done (popped_all 14 (closed t))
unfolding closed done
served t = refl

pub whole : (t : Table) (ins : Three t.ins) (outs : Three t.outs) → t ≡ with_ends t ins.a ins.b ins.c outs.a outs.b outs.c
whole t ins outs = ap (λ xs. record t { ins = xs }) ins.is ∙ ap (λ xs. record t { ins = ins.a ∷ ins.b ∷ ins.c ∷ []; outs = xs }) outs.is

wakes : (awake reset : Bool) → reset ≡ true → (awake || (reset && true)) ≡ true
wakes awake true e = or_right awake true refl
wakes awake false e = never true (sym e) refl

first_true : (a r : Bool) → (a && r) ≡ false → r ≡ true → a ≡ false
first_true false r e h = refl
first_true true r e h = never r e h

-- what the end of a reset leaves of each
after_reset : (t : Table) (a b c : InEnd) (d e f : OutEnd) (u : ℕ) (xfrc stup x y z : Bool) → Table
after_reset t a b c d e f u xfrc stup x y z =
    let now = closed (with_ends t a b c d e f) in
    done (popped_to now u xfrc stup (slice_index_or now.outs 0 d) (slice_index_or now.outs 1 e) (slice_index_or now.outs 2 f) x y z)

reset_stands : (t : Table) (s : Software) (m : Bus) (a b c : InEnd) (d e f : OutEnd) (u : ℕ) (xfrc stup x y z : Bool) → Stands FS4 t s m → m.reset ≡ true → u ≡ 0
    → Stands FS4 (after_reset t a b c d e f u xfrc stup x y z) (unused FS4 true) (unconfigured true)
unfolding after_reset closed done pipes_closed all_cleared
reset_stands t s m a b c d e f u xfrc stup x y z st resets none =
    let usb : t.core.usbrst ≡ true = sym st.core.reset ∙ resets in
    record {
      ins = record { kept = refl; stall = refl; enabled = epdis_ends _; ready = never _ refl; holds = ap (λ (tx : Tx). tx_empty tx.depth) st.ins.holds; size = never _ refl };
      outs = record { kept = refl; stall = refl; enabled = epdis_ends _; naks = never _ refl; toggle = never _ refl; lies = never _ refl };
      pair = off_off;
      side = record { taken_is = refl; toggle_is = refl; first = refl; packet = no_packet; alone = refl };
      rx = record { arrivals = []; lie = refl; its = refl; all = few_none FS4.out_eps; counts = none; few = omega arith; are = tt };
      rest = record { masks = ap (λ (k : Kept). record k { dcfg = 0; grstctl = 0x400 }) st.rest.masks; hosts = st.rest.hosts; in_ends = refl; out_ends = refl };
      core = record {
        awake = sym (wakes t.core.awake t.core.usbrst usb);
        reset = sym (and_false t.core.usbrst);
        address = refl;
        landed = st.core.landed ∙ ap (λ a. landed_of a m.taken) (first_true m.awake m.reset st.core.asleep resets);
        asleep = refl;
        next = tt;
      };
    }

-- The other endpoints, closed.

closed_out : (n : ℕ) (end : OutEnd) (ring : Ring) → Registers end false 0 false false → ring.bytes ≡ [] → OutStands (suc n) end (not_open false) [] ring
closed_out n end ring registers none = record {
  lies = Lies.closed;
  registers = registers;
  software = record { number_is = never _ refl; some = never _ refl; most = omega arith; room = never _ refl; core = λ _. refl; core_held = λ _. none; closed = λ _. refl };
}

registers_of : (t : Table) (a b c : InEnd) (d e f : OutEnd) (u : ℕ) (xfrc stup x y z : Bool) (n : ℕ) → n < 3 → Registers (out_end (after_reset t a b c d e f u xfrc stup x y z) (suc n)) false 0 false false
unfolding after_reset closed done pipes_closed all_cleared
registers_of t a b c d e f u xfrc stup x y z zero h = record { used = refl; sized = never _ refl; stall = refl; enabled = epdis_ends _; naks = never _ refl; counted = never _ refl; xfrc = and_false _; epdisd = and_false _ }
registers_of t a b c d e f u xfrc stup x y z (suc zero) h = record { used = refl; sized = never _ refl; stall = refl; enabled = epdis_ends _; naks = never _ refl; counted = never _ refl; xfrc = and_false _; epdisd = and_false _ }
registers_of t a b c d e f u xfrc stup x y z (suc (suc zero)) h = record { used = refl; sized = never _ refl; stall = refl; enabled = epdis_ends _; naks = never _ refl; counted = never _ refl; xfrc = and_false _; epdisd = and_false _ }
registers_of t a b c d e f u xfrc stup x y z (suc (suc (suc n))) h = absurd (none n h)
  where
    none : (n : ℕ) → suc (suc (suc n)) < 3 → ⊥
    none n h = omega (arith, h)

-- an IN endpoint that is closed, by its FIFO's depth
in_closed_as : (n : ℕ) (end : InEnd) → end.control.kept ≡ 0 → end.control.stall ≡ false → end.control.enabled ≡ false → end.xfrc ≡ false → end.epdisd ≡ false → end.fifo ≡ tx_empty 32 → InStands (suc n) (record { end = end; software = in_unused; ring = [] })
in_closed_as n end k s e x d f = record {
  kept = k;
  stall = s;
  enabled = e;
  nak = never _ refl;
  xfrc = x;
  epdisd = d;
  count = omega arith;
  size = tt;
  fifo = f;
  holds = record { unused = refl; empty = refl };
  bytes = λ i. omega arith;
}

depths : (t : Table) (a b c : InEnd) (d e f : OutEnd) (u : ℕ) (xfrc stup x y z : Bool) (n : ℕ) → n < 3 → a.fifo.depth ≡ 32 → b.fifo.depth ≡ 32 → c.fifo.depth ≡ 32
    → InStands (suc n) (record { end = slice_index_or (after_reset t a b c d e f u xfrc stup x y z).ins n (in_end_of 0); software = in_unused; ring = [] })
unfolding after_reset closed done pipes_closed all_cleared
depths t a b c d e f u xfrc stup x y z zero h i j k = in_closed_as 0 _ refl refl (epdis_ends _) (and_false _) (and_false _) (ap tx_empty i)
depths t a b c d e f u xfrc stup x y z (suc zero) h i j k = in_closed_as 1 _ refl refl (epdis_ends _) (and_false _) (and_false _) (ap tx_empty j)
depths t a b c d e f u xfrc stup x y z (suc (suc zero)) h i j k = in_closed_as 2 _ refl refl (epdis_ends _) (and_false _) (and_false _) (ap tx_empty k)
depths t a b c d e f u xfrc stup x y z (suc (suc (suc n))) h i j k = absurd (none n h)
  where
    none : (n : ℕ) → suc (suc (suc n)) < 3 → ⊥
    none n h = omega (arith, h)

-- what the rings hold is dropped
emptied_at : (xs : List Ring) (n : ℕ) → (slice_index_or (map emptied xs) n no_ring).bytes ≡ []
emptied_at [] n = refl
emptied_at (x ∷ xs) zero = refl
emptied_at (x ∷ xs) (suc n) = emptied_at xs n

unused_out : (n : ℕ) → slice_index_or (unused FS4 true).outs n (not_open false) ≡ not_open false
unused_out zero = refl
unused_out (suc zero) = refl
unused_out (suc (suc zero)) = refl
unused_out (suc (suc (suc n))) = refl

unused_in : (n : ℕ) → slice_index_or (unused FS4 true).ins n in_unused ≡ in_unused
unused_in zero = refl
unused_in (suc zero) = refl
unused_in (suc (suc zero)) = refl
unused_in (suc (suc (suc n))) = refl

slots_closed : (n : ℕ) → slice_index_or pipes_unopened.outs n no_out_slot ≡ no_out_slot
slots_closed n = any 15 n
  where
    any : (k n : ℕ) → slice_index_or (replicate k no_out_slot) n no_out_slot ≡ no_out_slot
    any zero n = refl
    any (suc k) zero = refl
    any (suc k) (suc n) = any k n

in_slots_closed : (n : ℕ) → slice_index_or pipes_unopened.ins n no_in_slot ≡ no_in_slot
in_slots_closed n = any 15 n
  where
    any : (k n : ℕ) → slice_index_or (replicate k no_in_slot) n no_in_slot ≡ no_in_slot
    any zero n = refl
    any (suc k) zero = refl
    any (suc k) (suc n) = any k n

-- all of them
pipes_reset : (t : Table) (a b c : InEnd) (d e f : OutEnd) (u : ℕ) (xfrc stup x y z : Bool) (r : Rings) → length r.outs ≡ 3 → length r.ins ≡ 3 → a.fifo.depth ≡ 32 → b.fifo.depth ≡ 32 → c.fifo.depth ≡ 32
    → (after_reset t a b c d e f u xfrc stup x y z).rx.entries ≡ []
    → PipesStand FS4 (after_reset t a b c d e f u xfrc stup x y z) (unused FS4 true) (all_emptied r) pipes_unopened
pipes_reset t a b c d e f u xfrc stup x y z r outs ins i j k none =
    let new = after_reset t a b c d e f u xfrc stup x y z in
    record {
      outs = λ n h. out_anew new (unused FS4 true) (all_emptied r) pipes_unopened n (out_end new (suc n)) (not_open false) [] (out_ring (all_emptied r) (suc n)) pipe.unopened
          (record { end_is = refl; kept_is = unused_out n; lie_is = ap (packets_at (suc n)) none; ring_is = refl; slot_is = slots_closed n })
          (record { stands = closed_out n (out_end new (suc n)) (out_ring (all_emptied r) (suc n)) (registers_of t a b c d e f u xfrc stup x y z n h) (emptied_at r.outs n); pipe = ap closed_pipe (emptied_at r.outs n) });
      ins = λ n h. in_anew new (unused FS4 true) (all_emptied r) pipes_unopened n (record { end = slice_index_or new.ins n (in_end_of 0); software = in_unused; ring = [] }) inward.closed
          (record { end_is = refl; kept_is = unused_in n; ring_is = emptied_at r.ins n; slot_is = in_slots_closed n })
          (record { abstract = refl; stands = depths t a b c d e f u xfrc stup x y z n h i j k });
      out_beyond = λ n h. slots_closed n;
      in_beyond = λ n h. in_slots_closed n;
      out_count = refl;
      in_count = refl;
      out_kepts = refl;
      in_kepts = refl;
      out_rings = length-map r.outs emptied ∙ outs;
      in_rings = length-map r.ins emptied ∙ ins;
    }
  where
    closed_pipe : List ℕ → pipe.OutPipe
    closed_pipe held = record { phase = pipe.Closed false; halted = false; toggle = D0; held = held }

gone_entries : (t : Table) (a b c : InEnd) (d e f : OutEnd) (u : ℕ) (xfrc stup x y z : Bool) → (after_reset t a b c d e f u xfrc stup x y z).rx.entries ≡ []
unfolding after_reset closed done pipes_closed all_cleared
gone_entries t a b c d e f u xfrc stup x y z = refl

-- and so a reset is served
pub reset_for : (j : Joint) (r : Rings) (p : Port) → AllStandFor FS4 j r p → p.bus.reset ≡ true
    → AllStandFor FS4 (record { table = reset_served FS4 j.table; software = unused FS4 true }) (all_emptied r) port_reset
unfolding after_reset closed done pipes_closed all_cleared
reset_for j r p all resets =
    let f = all.zero in
    let st = f.stands in
    let t = j.table in
    let ins : Three t.ins = three t.ins st.rest.in_ends in
    let outs : Three t.outs = three t.outs st.rest.out_ends in
    let t1 : Table = with_ends t ins.a ins.b ins.c outs.a outs.b outs.c in
    let now : Table = closed t1 in
    let d1 = slice_index_or now.outs 0 outs.a in
    let e1 = slice_index_or now.outs 1 outs.b in
    let f1 = slice_index_or now.outs 2 outs.c in
    let few : length st.rx.arrivals ≤ 7 = is_counted FS4.out_eps st.rx.arrivals st.rx.all in
    let counts : now.core.unserved ≡ length (requested_by st.rx.arrivals) = st.rx.counts ∙ sym (ap length (requests_are t.rx t.core.unserved p.bus.side p.bus.unserved st.rx)) in
    let g : Emptied now d1 e1 f1 14 (entries_of st.rx.arrivals) = all_gone st.rx.arrivals 14 now d1 e1 f1 (omega (arith, few)) st.rx.all.all counts in
    let lies : now ≡ rx_as now [] (entries_of st.rx.arrivals) = ap (λ (rx : Rx). record now { rx = rx }) st.rx.lie in
    let is : reset_served FS4 t ≡ after_reset t ins.a ins.b ins.c outs.a outs.b outs.c g.unserved g.xfrc g.stup g.x g.y g.z =
    ap (reset_served FS4) (whole t ins outs) ∙ ap (λ x. done (popped_all 14 x)) lies ∙ ap done g.is in
    let depth : (n : ℕ) → n < 3 → (slice_index_or t.ins n (in_end_of 0)).fifo.depth ≡ 32 = λ n h. ap (λ (tx : Tx). tx.depth) (all.pipes.ins n h).stands.fifo in
    subst (λ x. AllStandFor FS4 (record { table = x; software = unused FS4 true }) (all_emptied r) port_reset) (sym is)
    (record {
      zero = record {
        stands = reset_stands t j.software p.bus ins.a ins.b ins.c outs.a outs.b outs.c g.unserved g.xfrc g.stup g.x g.y g.z st resets g.none;
        heard = refl;
        next_address = refl;
        reset = refl;
        finished = refl;
        request = refl;
      };
      pipes = pipes_reset t ins.a ins.b ins.c outs.a outs.b outs.c g.unserved g.xfrc g.stup g.x g.y g.z r all.pipes.out_rings all.pipes.in_rings
          (ap (λ xs. (slice_index_or xs 0 (in_end_of 0)).fifo.depth) (sym ins.is) ∙ depth 0 (omega arith))
          (ap (λ xs. (slice_index_or xs 1 (in_end_of 0)).fifo.depth) (sym ins.is) ∙ depth 1 (omega arith))
          (ap (λ xs. (slice_index_or xs 2 (in_end_of 0)).fifo.depth) (sym ins.is) ∙ depth 2 (omega arith))
          (gone_entries t ins.a ins.b ins.c outs.a outs.b outs.c g.unserved g.xfrc g.stup g.x g.y g.z);
    })
