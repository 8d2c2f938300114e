-- The packet that waits, loaded.
use Rattle.std.proofs.Common.{◌≡◌, ℕ, ◌≤◌, List, [], ◌∷◌, ◌++◌, length, Bool, true, false, refl, ap, sym, ◌∙◌, arith, subst}
use Rattle.std.specs.Prelude.{◌||◌, ◌&&◌, not, IsTrue}
use Rattle.device_machine.specs.declared.control.Side.{Side}
use Rattle.device_machine.specs.declared.control.Side.TheVariants.{Wait, Loaded, Last}
use Rattle.device_machine.specs.Bus.{Bus, loaded}
use Rattle.dwc2_regs.specs.declared.access.TheConstants.{FS4}
use Rattle.dwc2_regs.specs.Register.{dieptsiz, diepctl, diepint, fifo}
use Rattle.dwc2_fifo.specs.Words.{words_of}
use Rattle.device_table.specs.State.{Table, OutEnd}
use Rattle.device_table.specs.Words.{transfer_size}
use Rattle.device_table.specs.Write.{after_write, setup_in, setup_lies}
use Rattle.device_relation.specs.declared.software.Ready.{Ready}
use Rattle.device_relation.specs.declared.software.Ready.TheVariants as ready
use Rattle.device_relation.specs.declared.software.Heard.{Heard}
use Rattle.device_relation.specs.declared.software.Heard.TheVariants as heard
use Rattle.device_relation.specs.Software.{Software, Joint}
use Rattle.device_relation.specs.Relation.{Stands, OutPart, Pair, off_off, wait_wait, loaded_loaded, loaded_sent, last_last, last_armed, armed_armed, last_came, armed_came}
use Rattle.device_relation.specs.Relation.{stall_stall, loaded_off, last_off, armed_off, stall_off, IsPacket, was_packet, is_seen, is_taken, some_lie, tx_holding}
use Rattle.device_relation.specs.Relation.{one_packet}
use Rattle.device_relation.specs.Port.{Port, StandsFor}
use Rattle.device_relation.specs.Run.{snak_epena, cnak, xfrc, words_written, packet_loaded, out_armed, loaded_from, waiting_loaded}
use Rattle.device_relation.proofs.SetupEvents.{never}
use Rattle.device_relation.proofs.OutEvents.{and_false, setup_lies_is}
use Rattle.device_relation.proofs.Taken.{snak_naks}
use Rattle.device_relation.proofs.Words.{ready_at, packet_written}

sized : Table → List ℕ → Table
sized t packet = after_write (after_write t (dieptsiz 0) (one_packet (length packet))) (diepctl 0) snak_epena

-- with XFRC cleared and CNAK
finished : Table → Table
finished t = after_write (after_write t (diepint 0) xfrc) (diepctl 0) cnak

size_is : (n : ℕ) → n ≤ 64 → transfer_size 0 (one_packet n) ≡ n
size_is n h = omega arith

-- what the words leave
written : Table → List ℕ → Table
written t packet = ready_at (sized t packet) 0 (tx_holding packet) 0

written_is : (t : Table) (packet : List ℕ) → IsPacket packet → t.in0.fifo ≡ tx_holding [] → words_written (sized t packet) (words_of packet) ≡ written t packet
unfolding sized written
written_is t packet h holds =
    ap (λ tx. words_written (ready_at (sized t packet) 0 tx (transfer_size 0 (one_packet (length packet)))) (words_of packet)) holds
    ∙ ap (λ n. words_written (ready_at (sized t packet) 0 (tx_holding []) n) (words_of packet)) (size_is (length packet) h.fits)
    ∙ packet_written (sized t packet) packet h

loaded_is : (t : Table) (packet : List ℕ) → IsPacket packet → t.in0.fifo ≡ tx_holding [] → finished (written t packet) ≡ packet_loaded t packet
unfolding sized finished
loaded_is t packet h holds = sym (ap finished (written_is t packet h holds))

epena_enables : (e : Bool) → ((((e && true) || true) && true) || false) ≡ true
epena_enables true = refl
epena_enables false = refl

cnak_ends : (nak acts lies : Bool) → lies ≡ false → ((((nak || true) && not (acts && false)) || false) && not (not lies && true)) ≡ false
cnak_ends nak acts true e = never true e refl
cnak_ends nak acts false e = and_false _

no_more : (x : Bool) → (x && false) ≡ false
no_more true = refl
no_more false = refl

-- no SETUP lies
nothing_lies : (t : Table) (s : Software) (m : Bus) → Stands FS4 t s m → m.unserved ≡ [] → setup_in t.rx.entries ≡ false
nothing_lies t s m st e = setup_lies_is t s m st ∙ ap some_lie e

-- a packet that isn't the last

pub loads : (t : Table) (s : Software) (m : Bus) (packet : List ℕ) (last : Bool) → Stands FS4 t s (record m { side = Wait packet last }) → m.unserved ≡ []
    → Stands FS4 (packet_loaded t packet) (record s { side = ready.Loaded }) (record m { side = Loaded packet })
unfolding sized finished written
loads t s m packet last st none =
    subst (λ x. Stands FS4 x (record s { side = ready.Loaded }) (record m { side = Loaded packet })) (loaded_is t packet st.side.packet st.ins.holds)
    (record {
      ins = record {
        kept = refl;
        stall = refl;
        enabled = epena_enables _;
        holds = refl;
        size = λ _. refl;
        ready = λ _. cnak_ends _ _ _ (nothing_lies t s (record m { side = Wait packet last }) st none);
      };
      outs = record { kept = st.outs.kept; stall = st.outs.stall; enabled = st.outs.enabled; naks = never _ refl; toggle = st.outs.toggle; lies = st.outs.lies };
      pair = subst (λ x. Pair x ready.Loaded (Loaded packet)) (sym (no_more t.in0.xfrc)) loaded_loaded;
      side = record { taken_is = st.side.taken_is; toggle_is = st.side.toggle_is; first = st.side.first; packet = st.side.packet; alone = ap (λ us. some_lie us && true) none };
      rx = record { arrivals = st.rx.arrivals; lie = st.rx.lie; its = st.rx.its; all = st.rx.all; counts = st.rx.counts; few = st.rx.few; are = st.rx.are };
      rest = st.rest;
      core = record { awake = st.core.awake; reset = st.core.reset; address = st.core.address; landed = st.core.landed; asleep = st.core.asleep; next = st.core.next };
    })

-- the last one, with OUT armed

pub record Arms (old new : OutEnd) (waits packet : Bool) : Type 0 where
  pub kept : new.control.kept ≡ 0
  pub stall : new.control.stall ≡ false
  pub enabled : new.control.enabled ≡ true
  pub naks : new.control.nak ≡ (waits || (not waits && (packet || false)))
  pub toggle : new.toggle ≡ old.toggle

enables : (e : Bool) → ((e && true) || true) ≡ true
enables true = refl
enables false = refl

snak_is : (nak acts waits : Bool) → ((nak || true) && not (acts && false)) ≡ (waits || (not waits && true))
snak_is nak acts true = snak_naks nak acts
snak_is nak acts false = snak_naks nak acts

cnak_is : (nak lies waits : Bool) → lies ≡ waits → (IsTrue waits → nak ≡ true) → ((nak || false) && not (not lies && true)) ≡ (waits || (not waits && false))
cnak_is nak true true e h = rw (h refl) refl
cnak_is nak false false e h = and_false _
cnak_is nak true false e h = never true e refl
cnak_is nak false true e h = never true (sym e) refl

pub arms : (t : Table) (h : Heard) (waits : Bool) → setup_lies t ≡ waits → (IsTrue waits → t.out0.control.nak ≡ true) → Arms t.out0 (out_armed t h).out0 waits (was_packet h)
arms t heard.Packet waits e h = record { kept = refl; stall = refl; enabled = enables _; naks = snak_is _ _ waits; toggle = refl }
arms t heard.Nothing waits e h = record { kept = refl; stall = refl; enabled = enables _; naks = cnak_is _ _ waits e h; toggle = refl }
arms t heard.Setup waits e h = record { kept = refl; stall = refl; enabled = enables _; naks = cnak_is _ _ waits e h; toggle = refl }

pub armed_out0 : (t : Table) (h : Heard) → out_armed t h ≡ record t { out0 = (out_armed t h).out0 }
armed_out0 t heard.Packet = refl
armed_out0 t heard.Nothing = refl
armed_out0 t heard.Setup = refl

out_part : (t : Table) (s : Software) (m : Bus) (old new : OutEnd) (side : Side) (packet : List ℕ) → Arms old new false (was_packet s.heard)
    → OutPart old (Loaded packet) (some_lie m.unserved) (is_seen (some_lie m.unserved) s.heard) m.taken → m.unserved ≡ [] → m.taken ≡ is_taken (some_lie m.unserved) s.heard (Loaded packet)
    → OutPart new (Last packet) (some_lie m.unserved) (is_seen (some_lie m.unserved) s.heard) m.taken
out_part t s m old new side packet a o none taken = record {
  kept = a.kept;
  stall = a.stall;
  enabled = a.enabled;
  naks = λ _. a.naks ∙ sym (ap (λ us. some_lie us || m.taken) none ∙ taken ∙ ap (λ us. is_taken (some_lie us) s.heard (Loaded packet)) none);
  toggle = λ h. a.toggle ∙ o.toggle h;
  lies = λ h. never _ (ap some_lie none) h;
}

arms_last : (t : Table) (s : Software) (m : Bus) (packet : List ℕ) → Stands FS4 t s (record m { side = Loaded packet }) → t.in0.xfrc ≡ false → m.unserved ≡ [] → (new : OutEnd) → Arms t.out0 new false (was_packet s.heard)
    → Stands FS4 (record t { out0 = new }) (record s { side = ready.Last }) (record m { side = Last packet })
arms_last t s m packet st x none new a = record {
  ins = record { kept = st.ins.kept; stall = st.ins.stall; enabled = st.ins.enabled; ready = st.ins.ready; holds = st.ins.holds; size = st.ins.size };
  outs = out_part t s m t.out0 new (Loaded packet) packet a st.outs none st.side.taken_is;
  pair = subst (λ x. Pair x ready.Last (Last packet)) (sym x) last_last;
  side = record { taken_is = st.side.taken_is; toggle_is = st.side.toggle_is; first = st.side.first; packet = st.side.packet; alone = st.side.alone };
  rx = record { arrivals = st.rx.arrivals; lie = st.rx.lie; its = st.rx.its; all = st.rx.all; counts = st.rx.counts; few = st.rx.few; are = st.rx.are };
  rest = st.rest;
  core = record { awake = st.core.awake; reset = st.core.reset; address = st.core.address; landed = st.core.landed; asleep = st.core.asleep; next = st.core.next };
}

pub loads_last : (t : Table) (s : Software) (m : Bus) (packet : List ℕ) (last : Bool) → Stands FS4 t s (record m { side = Wait packet last }) → m.unserved ≡ []
    → Stands FS4 (out_armed (packet_loaded t packet) s.heard) (record s { side = ready.Last }) (record m { side = Last packet })
unfolding sized finished written
loads_last t s m packet last st none =
    let l = packet_loaded t packet in
    let done : Stands FS4 l (record s { side = ready.Loaded }) (record m { side = Loaded packet }) = loads t s m packet last st none in
    let x : l.in0.xfrc ≡ false = ap (λ (y : Table). y.in0.xfrc) (sym (loaded_is t packet st.side.packet st.ins.holds)) ∙ no_more t.in0.xfrc in
    let lies : setup_lies l ≡ false = nothing_lies l (record s { side = ready.Loaded }) (record m { side = Loaded packet }) done none in
    subst (λ y. Stands FS4 y (record s { side = ready.Last }) (record m { side = Last packet })) (sym (armed_out0 l s.heard))
    (arms_last l (record s { side = ready.Loaded }) m packet done x none (out_armed l s.heard).out0 (arms l s.heard false lies (λ h. never _ refl h)))

-- what a run loads

with_loaded : Port → Side → Port
with_loaded p side = record p { bus = record p.bus { side = loaded side } }

loads_for : (t : Table) (s : Software) (p : Port) {x : Bool} {r : Ready} {side : Side} → Pair x r side
    → StandsFor FS4 (record { table = t; software = record s { side = r } }) (record p { bus = record p.bus { side = side } }) → p.bus.unserved ≡ []
    → StandsFor FS4 (loaded_from (record { table = t; software = record s { side = r } }) r) (with_loaded p side)
unfolding with_loaded
loads_for t s p (wait_wait {packet = packet} {last = true}) f none = record {
  stands = loads_last t (record s { side = ready.Wait packet true }) p.bus packet true f.stands none;
  heard = f.heard;
  next_address = f.next_address;
  reset = f.reset;
  finished = f.finished;
  request = f.request;
}
loads_for t s p (wait_wait {packet = packet} {last = false}) f none = record {
  stands = loads t (record s { side = ready.Wait packet false }) p.bus packet false f.stands none;
  heard = f.heard;
  next_address = f.next_address;
  reset = f.reset;
  finished = f.finished;
  request = f.request;
}
loads_for t s p off_off f none = f
loads_for t s p loaded_loaded f none = f
loads_for t s p loaded_sent f none = f
loads_for t s p last_last f none = f
loads_for t s p last_armed f none = f
loads_for t s p armed_armed f none = f
loads_for t s p last_came f none = f
loads_for t s p armed_came f none = f
loads_for t s p stall_stall f none = f
loads_for t s p loaded_off f none = f
loads_for t s p last_off f none = f
loads_for t s p armed_off f none = f
loads_for t s p stall_off f none = f

pub waiting_for : (j : Joint) (p : Port) → StandsFor FS4 j p → p.bus.unserved ≡ [] → StandsFor FS4 (waiting_loaded j) (record p { bus = record p.bus { side = loaded p.bus.side } })
unfolding with_loaded
waiting_for j p f none = loads_for j.table j.software p f.stands.pair f none

-- Loading endpoint 0 leaves the other endpoints, and what lies in the receive FIFO.
pub record SameRest (old new : Table) : Type 0 where
  pub outs : new.outs ≡ old.outs
  pub ins : new.ins ≡ old.ins
  pub rx : new.rx ≡ old.rx

words_same : (t : Table) (ws : List ℕ) → SameRest t (words_written t ws)
words_same t [] = record { outs = refl; ins = refl; rx = refl }
words_same t (w ∷ ws) =
    let rest = words_same (after_write t (fifo 0) w) ws in
    record { outs = rest.outs; ins = rest.ins; rx = rest.rx }

pub loaded_same : (t : Table) (packet : List ℕ) → SameRest t (packet_loaded t packet)
unfolding sized
loaded_same t packet =
    let rest = words_same (sized t packet) (words_of packet) in
    record { outs = rest.outs; ins = rest.ins; rx = rest.rx }

pub armed_same : (t : Table) (h : Heard) → SameRest t (out_armed t h)
armed_same t heard.Packet = record { outs = refl; ins = refl; rx = refl }
armed_same t heard.Nothing = record { outs = refl; ins = refl; rx = refl }
armed_same t heard.Setup = record { outs = refl; ins = refl; rx = refl }
