-- A reset and a SETUP on the bus.
use Rattle.std.proofs.Common.{◌≡◌, ℕ, suc, ◌+◌, ◌-◌, ◌*◌, ◌<◌, ◌≤◌, List, [], ◌∷◌, ◌++◌, length, Bool, true, false, None, refl, ap, sym, ◌∙◌, arith, append_assoc, length-append, subst}
use Rattle.std.specs.Prelude.{◌||◌, ◌&&◌, ◌==◌, nat_lt, nat_le, IsTrue}
use Rattle.std.proofs.lemmas.Bool.Decides.{nat_tests}
use Rattle.usb_packet.specs.declared.bus.Toggle.TheVariants.{D1}
use Rattle.device_machine.specs.declared.control.Stage.TheVariants.{Sent, Came}
use Rattle.device_machine.specs.declared.control.Side.{Side}
use Rattle.device_machine.specs.declared.control.Side.TheVariants.{Off, Wait, Loaded, Last, Armed, Stall, Finished}
use Rattle.device_machine.specs.Bus as bus
use Rattle.device_machine.specs.Bus.{Bus, disturbed}
use Rattle.dwc2_regs.specs.declared.access.TheConstants.{FS4}
use Rattle.dwc2_regs.specs.declared.TheConstants.{DCFG_ADDRESS}
use Rattle.dwc2_regs.specs.Field.{field_of}
use Rattle.dwc2_fifo.specs.Rx.{Rx, room_of}
use Rattle.dwc2_fifo.specs.Tx.{Tx, empty_of as tx_empty}
use Rattle.device_table.specs.State.{Table, rx_depth}
use Rattle.device_table.specs.Bus as table
use Rattle.device_table.specs.Bus.{setup_entries}
use Rattle.device_arrivals.specs.Arrivals.{Arrival, Request, entries_of, requests_in}
use Rattle.device_arrivals.proofs.Behind.{entries_of-behind, arrivals_for-behind}
use Rattle.device_arrivals.proofs.Tells.{own}
use Rattle.device_arrivals.proofs.Counts.{has_room}
use Rattle.device_arrivals.proofs.Few.{few_with_request}
use Rattle.device_relation.specs.declared.software.Ready.{Ready}
use Rattle.device_relation.specs.Software.{Software}
use Rattle.device_relation.specs.Relation.{Stands, CorePart, Pair, off_off, wait_wait, loaded_loaded, loaded_sent, last_last, last_armed, armed_armed, last_came, armed_came}
use Rattle.device_relation.specs.Relation.{stall_stall, loaded_off, last_off, armed_off, stall_off, IsPacket, IsSetup, AreSetups, bytes_of_side, loaded_bytes, is_loaded, is_armed}
use Rattle.device_relation.specs.Relation.{is_stalled, is_idle, was_heard, is_seen, is_taken, toggle_of, some_lie, came_arrivals, setups_arrivals, landed_of, tx_holding}
use Rattle.device_relation.proofs.Entries.{requests_are}

pub not_zero : (n : ℕ) → (suc n == 0) ≡ false
not_zero n = grind (arith, nat_tests)

-- who is heard
pub hears_is : (t : Table) (s : Software) (m : Bus) (addr : ℕ) → CorePart t s m → table.hears t addr ≡ bus.hears m addr
hears_is t s m addr c = ap (λ a. a && (addr == field_of t.kept.dcfg DCFG_ADDRESS)) (sym c.awake) ∙ ap (λ n. m.awake && (addr == n)) (sym c.address)

pub landed_nothing : (awake : Bool) → landed_of awake false ≡ None
landed_nothing true = refl
landed_nothing false = refl

-- A reset.

pub reset_stands : (t : Table) (s : Software) (m : Bus) → Stands FS4 t s m → Stands FS4 (table.after_reset t) s (record m { awake = false; reset = true })
reset_stands t s m st = record {
  ins = st.ins;
  outs = st.outs;
  pair = st.pair;
  side = st.side;
  rx = st.rx;
  rest = st.rest;
  core = record { awake = refl; reset = refl; address = st.core.address; landed = refl; asleep = refl; next = st.core.next };
}

-- A SETUP: the receive FIFO has room for it.

two_of : (n : ℕ) → IsTrue (nat_lt n 3) → n ≤ 2
two_of n h = grind (arith, nat_tests)

roomy : (n : ℕ) → 4 ≤ n → nat_le 4 n ≡ true
roomy n h = grind (arith, nat_tests)

pub requests_count : (t : Table) (s : Software) (m : Bus) (st : Stands FS4 t s m) → length (requests_in st.rx.arrivals) ≡ length m.unserved
requests_count t s m st = sym (own st.rx.arrivals).requests ∙ ap length (requests_are t.rx t.core.unserved m.side m.unserved st.rx)

has_place : (t : Table) (s : Software) (m : Bus) → Stands FS4 t s m → IsTrue (nat_lt (length m.unserved) 3) → nat_le 4 (room_of t.rx) ≡ true
has_place t s m st few =
    ap (λ (rx : Rx). nat_le 4 (room_of rx)) st.rx.lie
    ∙ roomy (room_of (record { left = []; entries = entries_of st.rx.arrivals; depth = rx_depth FS4 }))
    ((has_room FS4 (record t { rx = record { left = []; entries = []; depth = rx_depth FS4 } }) st.rx.arrivals refl st.rx.all).request
    (subst (λ n. n ≤ 2) (sym (requests_count t s m st)) (two_of (length m.unserved) few)))

four_tests : (h ok few room : Bool) → (IsTrue few → room ≡ true) → (h && ok && few && room) ≡ (h && (ok && few))
four_tests false ok few room k = refl
four_tests true false few room k = refl
four_tests true true false room k = refl
four_tests true true true room k = k refl

pub hears_setup_is : (t : Table) (s : Software) (m : Bus) (addr : ℕ) (ok : Bool) → Stands FS4 t s m → table.hears_setup t addr ok ≡ bus.hears_setup m addr ok
hears_setup_is t s m addr ok st =
    ap (λ h. h && ok && nat_lt t.core.unserved 3 && nat_le 4 (room_of t.rx)) (hears_is t s m addr st.core)
    ∙ ap (λ n. bus.hears m addr && ok && nat_lt n 3 && nat_le 4 (room_of t.rx)) st.rx.counts
    ∙ four_tests (bus.hears m addr) ok (nat_lt (length m.unserved) 3) (nat_le 4 (room_of t.rx)) (has_place t s m st)

-- What it leaves.

record Calm (side : Side) : Type 0 where
  stall : is_stalled (disturbed side) ≡ false
  loaded : is_loaded (disturbed side) ≡ false
  armed : is_armed (disturbed side) ≡ false
  bytes : loaded_bytes (disturbed side) ≡ []
  came : came_arrivals (disturbed side) ≡ came_arrivals side

calm : (side : Side) → Calm side
calm Off = record { stall = refl; loaded = refl; armed = refl; bytes = refl; came = refl }
calm (Wait packet last) = record { stall = refl; loaded = refl; armed = refl; bytes = refl; came = refl }
calm (Loaded packet) = record { stall = refl; loaded = refl; armed = refl; bytes = refl; came = refl }
calm (Last packet) = record { stall = refl; loaded = refl; armed = refl; bytes = refl; came = refl }
calm Armed = record { stall = refl; loaded = refl; armed = refl; bytes = refl; came = refl }
calm Stall = record { stall = refl; loaded = refl; armed = refl; bytes = refl; came = refl }
calm (Finished Sent) = record { stall = refl; loaded = refl; armed = refl; bytes = refl; came = refl }
calm (Finished (Came bytes)) = record { stall = refl; loaded = refl; armed = refl; bytes = refl; came = refl }

pair_disturbed : {x : Bool} {r : Ready} {side : Side} → Pair x r side → Pair x r (disturbed side)
pair_disturbed off_off = off_off
pair_disturbed wait_wait = wait_wait
pair_disturbed loaded_loaded = loaded_off
pair_disturbed loaded_sent = loaded_sent
pair_disturbed last_last = last_off
pair_disturbed last_armed = last_off
pair_disturbed armed_armed = armed_off
pair_disturbed last_came = last_came
pair_disturbed armed_came = armed_came
pair_disturbed stall_stall = stall_off
pair_disturbed loaded_off = loaded_off
pair_disturbed last_off = last_off
pair_disturbed armed_off = armed_off
pair_disturbed stall_off = stall_off

idle_disturbed : (h : Bool) (side : Side) → (h || is_idle side) ≡ true → (h || is_idle (disturbed side)) ≡ true
idle_disturbed true side e = refl
idle_disturbed false Off e = refl
idle_disturbed false Stall e = refl
idle_disturbed false (Wait packet last) e = e
idle_disturbed false (Loaded packet) e = refl
idle_disturbed false (Last packet) e = refl
idle_disturbed false Armed e = refl
idle_disturbed false (Finished stage) e = e

pub no_packet : IsPacket []
no_packet = record { fits = omega arith; below = λ i. omega arith }

packet_disturbed : (side : Side) → IsPacket (bytes_of_side side) → IsPacket (bytes_of_side (disturbed side))
packet_disturbed Off h = h
packet_disturbed Stall h = h
packet_disturbed (Wait packet last) h = h
packet_disturbed (Loaded packet) h = no_packet
packet_disturbed (Last packet) h = no_packet
packet_disturbed Armed h = h
packet_disturbed (Finished stage) h = h

some_more : (us : List (List ℕ)) (b : List ℕ) → some_lie (us ++ b ∷ []) ≡ true
some_more [] b = refl
some_more (u ∷ us) b = refl

setups_more : (us : List (List ℕ)) (b : List ℕ) → setups_arrivals us ++ Request b ∷ [] ≡ setups_arrivals (us ++ b ∷ [])
setups_more [] b = refl
setups_more (u ∷ us) b = ap (λ xs. Request u ∷ xs) (setups_more us b)

are_more : (us : List (List ℕ)) (b : List ℕ) → AreSetups us → IsSetup b → AreSetups (us ++ b ∷ [])
are_more [] b h k = (k, tt)
are_more (u ∷ us) b h k = (h.0, are_more us b h.1 k)

its_more : (side : Side) (us : List (List ℕ)) (b : List ℕ)
    → (came_arrivals side ++ setups_arrivals us) ++ Request b ∷ [] ≡ came_arrivals (disturbed side) ++ setups_arrivals (us ++ b ∷ [])
its_more side us b =
    append_assoc (came_arrivals side) (setups_arrivals us) (Request b ∷ [])
    ∙ ap (λ xs. came_arrivals side ++ xs) (setups_more us b)
    ∙ ap (λ xs. xs ++ setups_arrivals (us ++ b ∷ [])) (sym (calm side).came)

pub both_ways : (b : Bool) → b ≡ false → IsTrue b → ⊥
both_ways b e h = cc

pub never : {A : Type 0} → (b : Bool) → b ≡ false → IsTrue b → A
never b e h = absurd (both_ways b e h)

pub setup_stands : (t : Table) (s : Software) (m : Bus) (b : List ℕ) → Stands FS4 t s m → IsSetup b → length m.unserved < 3
    → Stands FS4 (table.after_setup t b) s (bus.after_setup m b)
setup_stands t s m b st h few =
    let c : Calm m.side = calm m.side in
    let lies = some_more m.unserved b in
    let size = length-append m.unserved (b ∷ []) in
    let counts = st.rx.counts in
    record {
      ins = record { kept = st.ins.kept; stall = sym c.stall; enabled = sym c.loaded; ready = never _ c.loaded; holds = ap (λ (tx : Tx). tx_empty tx.depth) st.ins.holds ∙ ap tx_holding (sym c.bytes); size = never _ c.loaded };
      outs = record { kept = st.outs.kept; stall = sym c.stall; enabled = sym c.armed; naks = never _ c.armed; toggle = λ _. refl; lies = λ _. refl };
      pair = pair_disturbed st.pair;
      side = record {
        taken_is = ap (λ w. is_taken w s.heard (disturbed m.side)) (sym lies);
        toggle_is = ap (λ w. toggle_of (is_seen w s.heard) D1) (sym lies);
        first = idle_disturbed (was_heard s.heard) m.side st.side.first;
        packet = packet_disturbed m.side st.side.packet;
        alone = ap (λ w. w && is_loaded (disturbed m.side)) lies ∙ c.loaded;
      };
      rx = record {
        arrivals = st.rx.arrivals ++ Request b ∷ [];
        lie = ap (λ (rx : Rx). record rx { entries = rx.entries ++ setup_entries b }) st.rx.lie ∙ ap (λ es. record { left = []; entries = es; depth = rx_depth FS4 }) (entries_of-behind st.rx.arrivals (Request b));
        its = arrivals_for-behind 0 st.rx.arrivals (Request b) ∙ ap (λ xs. xs ++ Request b ∷ []) st.rx.its ∙ its_more m.side m.unserved b;
        all = few_with_request FS4.out_eps st.rx.arrivals b st.rx.all (h.eight, h.below) (subst (λ n. n ≤ 2) (sym (requests_count t s m st)) (omega arith));
        counts = omega arith;
        few = omega arith;
        are = are_more m.unserved b st.rx.are h;
      };
      rest = st.rest;
      core = record { awake = st.core.awake; reset = st.core.reset; address = st.core.address; landed = sym (landed_nothing m.awake); asleep = st.core.asleep; next = st.core.next };
    }
