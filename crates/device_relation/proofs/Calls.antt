-- Each call of the driver is the device's.
use Rattle.std.proofs.Common.{◌≡◌, ℕ, ◌<◌, List, [], ◌++◌, Bool, true, false, None, refl, ap, sym, ◌∙◌, subst}
use Rattle.std.specs.Prelude.{◌||◌, ◌&&◌, not, IsTrue}
use Rattle.std.proofs.lemmas.Bool.{or_right}
use Rattle.device_machine.specs.declared.control.Side.{Side}
use Rattle.device_machine.specs.declared.control.Side.TheVariants.{Off, Wait, Loaded, Last, Armed, Stall, Finished}
use Rattle.device_machine.specs.Bus.{Bus}
use Rattle.dwc2_regs.specs.declared.access.TheConstants.{FS4}
use Rattle.device_table.specs.State.{Table, InEnd, OutEnd, rx_depth}
use Rattle.device_table.specs.Write.{setup_lies}
use Rattle.device_relation.specs.declared.software.Ready.{Ready}
use Rattle.device_relation.specs.declared.software.Ready.TheVariants as ready
use Rattle.device_relation.specs.Software.{Software, Joint}
use Rattle.device_relation.specs.Relation.{Stands, InPart, OutPart, Pair, off_off, wait_wait, loaded_loaded, loaded_sent, last_last, last_armed, armed_armed, last_came, armed_came}
use Rattle.device_relation.specs.Relation.{stall_stall, loaded_off, last_off, armed_off, stall_off, IsPacket, bytes_of_side, loaded_bytes, is_loaded, is_armed, is_stalled, is_idle}
use Rattle.device_relation.specs.Relation.{is_came, was_heard, was_packet, is_seen, toggle_of, some_lie, came_arrivals, setups_arrivals, tx_holding}
use Rattle.device_relation.specs.Port.{Port, StandsFor, may_start, started, armed, stalled, addressed}
use Rattle.device_relation.specs.Run.{unstalled, out_armed, run_start, run_arm, run_stall, run_address}
use Rattle.device_relation.proofs.SetupEvents.{never, no_packet}
use Rattle.device_relation.proofs.OutEvents.{and_false, setup_lies_is}
use Rattle.device_relation.proofs.Loads.{Arms, arms, armed_out0}

-- a side at which a call may come
record Calls (side : Side) : Type 0 where
  loaded : is_loaded side ≡ false
  armed : is_armed side ≡ false
  bytes : loaded_bytes side ≡ []
  came : came_arrivals side ≡ []
  none : is_came side ≡ false

calls : (side : Side) → IsTrue (may_start side) → Calls side
calls Off h = record { loaded = refl; armed = refl; bytes = refl; came = refl; none = refl }
calls (Wait p l) h = record { loaded = refl; armed = refl; bytes = refl; came = refl; none = refl }
calls Stall h = record { loaded = refl; armed = refl; bytes = refl; came = refl; none = refl }
calls (Loaded p) h = never _ refl h
calls (Last p) h = never _ refl h
calls Armed h = never _ refl h
calls (Finished s) h = never _ refl h

-- the device from there on, with this on endpoint 0
turned : (t : Table) (s : Software) (m : Bus) (i : InEnd) (o : OutEnd) (r : Ready) (side : Side) → Stands FS4 t s m → IsTrue (may_start m.side)
    → InPart i side → OutPart o side (some_lie m.unserved) (is_seen (some_lie m.unserved) s.heard) m.taken → Pair i.xfrc r side → i.toggle ≡ t.in0.toggle
    → (was_heard s.heard || is_idle side) ≡ true → IsPacket (bytes_of_side side) → is_loaded side ≡ false → is_came side ≡ false → came_arrivals side ≡ []
    → Stands FS4 (record t { in0 = i; out0 = o }) (record s { side = r; next_address = None }) (record m { side = side })
turned t s m i o r side st may ip op pair toggle first packet not_loaded none came =
    let c : Calls m.side = calls m.side may in
    let waits = some_lie m.unserved in
    record {
      ins = ip;
      outs = op;
      pair = pair;
      side = record {
        taken_is = st.side.taken_is ∙ ap (λ x. not waits && (was_packet s.heard || x)) (c.none ∙ sym none);
        toggle_is = st.side.toggle_is ∙ ap (toggle_of (is_seen waits s.heard)) (sym toggle);
        first = first;
        packet = packet;
        alone = ap (λ x. waits && x) not_loaded ∙ and_false waits;
      };
      rx = record { arrivals = st.rx.arrivals; lie = st.rx.lie; its = st.rx.its ∙ ap (λ xs. xs ++ setups_arrivals m.unserved) (c.came ∙ sym came); all = st.rx.all; counts = st.rx.counts; few = st.rx.few; are = st.rx.are };
      rest = st.rest;
      core = record { awake = st.core.awake; reset = st.core.reset; address = st.core.address; landed = st.core.landed; asleep = st.core.asleep; next = tt };
    }

-- STALL ended

record Calm (old new : Table) : Type 0 where
  same : new ≡ record old { in0 = new.in0; out0 = new.out0 }
  in_kept : new.in0.control.kept ≡ 0
  in_stall : new.in0.control.stall ≡ false
  in_enabled : new.in0.control.enabled ≡ false
  holds : new.in0.fifo ≡ tx_holding []
  in_toggle : new.in0.toggle ≡ old.in0.toggle
  out_kept : new.out0.control.kept ≡ 0
  out_stall : new.out0.control.stall ≡ false
  out_enabled : new.out0.control.enabled ≡ false
  out_nak : new.out0.control.nak ≡ old.out0.control.nak
  out_toggle : new.out0.toggle ≡ old.out0.toggle

pub stays : (e : Bool) → ((e && true) || false) ≡ e
stays true = refl
stays false = refl

pub nak_stays : (nak acts : Bool) → ((nak || false) && not (acts && false)) ≡ nak
nak_stays true true = refl
nak_stays true false = refl
nak_stays false true = refl
nak_stays false false = refl

untouched : (t : Table) (s : Software) (m : Bus) → Stands FS4 t s m → IsTrue (may_start m.side) → is_stalled m.side ≡ false → Calm t t
untouched t s m st may e =
    let c : Calls m.side = calls m.side may in
    record {
      same = refl;
      in_kept = st.ins.kept;
      in_stall = st.ins.stall ∙ e;
      in_enabled = st.ins.enabled ∙ c.loaded;
      holds = st.ins.holds ∙ ap tx_holding c.bytes;
      in_toggle = refl;
      out_kept = st.outs.kept;
      out_stall = st.outs.stall ∙ e;
      out_enabled = st.outs.enabled ∙ c.armed;
      out_nak = refl;
      out_toggle = refl;
    }

cleared : (t : Table) (s : Software) (m : Bus) → Stands FS4 t s m → IsTrue (may_start m.side) → Calm t (unstalled t ready.Stall)
cleared t s m st may =
    let c : Calls m.side = calls m.side may in
    record {
      same = refl;
      in_kept = refl;
      in_stall = refl;
      in_enabled = stays _ ∙ st.ins.enabled ∙ c.loaded;
      holds = st.ins.holds ∙ ap tx_holding c.bytes;
      in_toggle = refl;
      out_kept = refl;
      out_stall = refl;
      out_enabled = stays _ ∙ st.outs.enabled ∙ c.armed;
      out_nak = nak_stays _ _;
      out_toggle = refl;
    }

calmed : (t : Table) (s : Software) (m : Bus) {x : Bool} {r : Ready} {side : Side} → Pair x r side → Stands FS4 t s (record m { side = side }) → IsTrue (may_start side) → Calm t (unstalled t r)
calmed t s m off_off st may = untouched t s (record m { side = Off }) st may refl
calmed t s m (wait_wait {packet = p} {last = l}) st may = untouched t s (record m { side = Wait p l }) st may refl
calmed t s m loaded_off st may = untouched t s (record m { side = Off }) st may refl
calmed t s m last_off st may = untouched t s (record m { side = Off }) st may refl
calmed t s m armed_off st may = untouched t s (record m { side = Off }) st may refl
calmed t s m stall_stall st may = cleared t s (record m { side = Stall }) st may
calmed t s m stall_off st may = cleared t s (record m { side = Off }) st may
calmed t s m loaded_loaded st may = never _ refl may
calmed t s m loaded_sent st may = never _ refl may
calmed t s m last_last st may = never _ refl may
calmed t s m last_armed st may = never _ refl may
calmed t s m armed_armed st may = never _ refl may
calmed t s m last_came st may = never _ refl may
calmed t s m armed_came st may = never _ refl may

-- A packet to be sent.

pub start_for : (j : Joint) (p : Port) (packet : List ℕ) (last : Bool) → StandsFor FS4 j p → IsTrue (may_start p.bus.side) → p.heard ≡ true → IsPacket packet
    → StandsFor FS4 (run_start j packet last) (started p packet last)
start_for j p packet last f may hears is =
    let t = j.table in
    let s = j.software in
    let st = f.stands in
    let new = unstalled t s.side in
    let c : Calm t new = calmed t s p.bus st.pair st may in
    record {
      stands = subst (λ x. Stands FS4 x (record s { side = ready.Wait packet last; next_address = None }) (record p.bus { side = Wait packet last })) (sym c.same)
          (turned t s p.bus new.in0 new.out0 (ready.Wait packet last) (Wait packet last) st may
          (record { kept = c.in_kept; stall = c.in_stall; enabled = c.in_enabled; ready = never _ refl; holds = c.holds; size = never _ refl })
          (record { kept = c.out_kept; stall = c.out_stall; enabled = c.out_enabled; naks = never _ refl; toggle = λ h. c.out_toggle ∙ st.outs.toggle h; lies = λ h. c.out_nak ∙ st.outs.lies h })
          wait_wait c.in_toggle (ap (λ x. x || false) (sym f.heard ∙ hears)) is refl refl refl);
      heard = f.heard;
      next_address = refl;
      reset = f.reset;
      finished = f.finished;
      request = f.request;
    }

-- A packet to come.

arm_out : (t : Table) (s : Software) (m : Bus) (new o : OutEnd) → Stands FS4 t s m → IsTrue (may_start m.side) → Arms new o (some_lie m.unserved) (was_packet s.heard) → new.toggle ≡ t.out0.toggle
    → OutPart o Armed (some_lie m.unserved) (is_seen (some_lie m.unserved) s.heard) m.taken
arm_out t s m new o st may a toggle =
    let waits = some_lie m.unserved in
    let none = (calls m.side may).none in
    record {
      kept = a.kept;
      stall = a.stall;
      enabled = a.enabled;
      naks = λ _. a.naks ∙ sym (ap (λ x. waits || x) (st.side.taken_is ∙ ap (λ x. not waits && (was_packet s.heard || x)) none));
      toggle = λ h. a.toggle ∙ toggle ∙ st.outs.toggle h;
      lies = λ h. a.naks ∙ ap (λ w. w || (not w && (was_packet s.heard || false))) h;
    }

pub arm_for : (j : Joint) (p : Port) → StandsFor FS4 j p → IsTrue (may_start p.bus.side) → p.heard ≡ true → StandsFor FS4 (run_arm j) (armed p)
arm_for j p f may hears =
    let t = j.table in
    let s = j.software in
    let st = f.stands in
    let new = unstalled t s.side in
    let c : Calm t new = calmed t s p.bus st.pair st may in
    let o = (out_armed new s.heard).out0 in
    let lies : setup_lies new ≡ some_lie p.bus.unserved = ap setup_lies c.same ∙ setup_lies_is t s p.bus st in
    let a : Arms new.out0 o (some_lie p.bus.unserved) (was_packet s.heard) = arms new s.heard (some_lie p.bus.unserved) lies (λ h. c.out_nak ∙ st.outs.lies h) in
    let is : out_armed new s.heard ≡ record t { in0 = new.in0; out0 = o } = armed_out0 new s.heard ∙ ap (λ (x : Table). record x { out0 = o }) c.same in
    record {
      stands = subst (λ x. Stands FS4 x (record s { side = ready.Armed; next_address = None }) (record p.bus { side = Armed })) (sym is)
          (turned t s p.bus new.in0 o ready.Armed Armed st may
          (record { kept = c.in_kept; stall = c.in_stall; enabled = c.in_enabled; ready = never _ refl; holds = c.holds; size = never _ refl })
          (arm_out t s p.bus new.out0 o st may a c.out_toggle)
          armed_armed c.in_toggle (ap (λ x. x || false) (sym f.heard ∙ hears)) no_packet refl refl refl);
      heard = f.heard;
      next_address = refl;
      reset = f.reset;
      finished = f.finished;
      request = f.request;
    }

-- Protocol stall.

pub stall_for : (j : Joint) (p : Port) → StandsFor FS4 j p → IsTrue (may_start p.bus.side) → StandsFor FS4 (run_stall j) (stalled p)
stall_for j p f may =
    let t = j.table in
    let s = j.software in
    let st = f.stands in
    let c : Calls p.bus.side = calls p.bus.side may in
    let new = (run_stall j).table in
    record {
      stands = turned t s p.bus new.in0 new.out0 ready.Stall Stall st may
          (record { kept = refl; stall = refl; enabled = stays _ ∙ st.ins.enabled ∙ c.loaded; ready = never _ refl; holds = st.ins.holds ∙ ap tx_holding c.bytes; size = never _ refl })
          (record { kept = refl; stall = refl; enabled = stays _ ∙ st.outs.enabled ∙ c.armed; naks = never _ refl; toggle = st.outs.toggle; lies = λ h. nak_stays _ _ ∙ st.outs.lies h })
          stall_stall refl (or_right _ true refl) no_packet refl refl refl;
      heard = f.heard;
      next_address = refl;
      reset = f.reset;
      finished = f.finished;
      request = f.request;
    }

-- A new address.

pub address_for : (j : Joint) (p : Port) (n : ℕ) → StandsFor FS4 j p → n < 128 → StandsFor FS4 (run_address j n) (addressed p n)
address_for j p n f h =
    let st = f.stands in
    record {
      stands = record {
        ins = st.ins;
        outs = st.outs;
        pair = st.pair;
        side = st.side;
        rx = st.rx;
        rest = st.rest;
        core = record { awake = st.core.awake; reset = st.core.reset; address = st.core.address; landed = st.core.landed; asleep = st.core.asleep; next = h };
      };
      heard = f.heard;
      next_address = refl;
      reset = f.reset;
      finished = f.finished;
      request = f.request;
    }
