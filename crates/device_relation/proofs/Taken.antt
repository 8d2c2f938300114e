-- What a packet and a SETUP leave, once they are taken from the receive FIFO.
use Rattle.std.proofs.Common.{◌≡◌, ℕ, List, [], ◌∷◌, Bool, true, false, refl, ap, sym, ◌∙◌, arith}
use Rattle.std.specs.Prelude.{◌||◌, ◌&&◌, not, IsTrue}
use Rattle.std.proofs.lemmas.Bool.{or_right}
use Rattle.device_machine.specs.declared.control.Stage.TheVariants.{Came}
use Rattle.device_machine.specs.declared.control.Side.{Side}
use Rattle.device_machine.specs.declared.control.Side.TheVariants.{Off, Wait, Loaded, Last, Armed, Stall, Finished}
use Rattle.device_machine.specs.Bus.{Bus}
use Rattle.dwc2_regs.specs.declared.access.TheConstants.{FS4}
use Rattle.device_table.specs.State.{Table}
use Rattle.device_arrivals.specs.Arrivals.{Arrival, entries_of, arrivals_for, AreFew}
use Rattle.device_relation.specs.Software.{Software}
use Rattle.device_relation.specs.Relation.{Stands, off_off, loaded_bytes, is_loaded, was_heard, was_packet, toggle_of, some_lie, setups_arrivals, tx_holding}
use Rattle.device_relation.proofs.SetupEvents.{never, no_packet}
use Rattle.device_relation.proofs.OutEvents.{and_false}
use Rattle.device_relation.proofs.Pops.{rx_as, came_table, came_software, setup_table, setup_software}

-- a packet

pub came_toggle : (waits heard packet taken : Bool) → taken ≡ (not waits && (packet || true)) → IsTrue ((waits || true) && not taken) → IsTrue ((waits || heard) && not taken)
came_toggle true heard packet taken e h = h
came_toggle false heard packet taken e h = never _ (ap not (e ∙ or_right packet true refl)) h

pub or_nothing : (b : Bool) → (b || false) ≡ true → b ≡ true
or_nothing true e = refl
or_nothing false e = e

unfoldable pub came_off : (t : Table) (s : Software) (m : Bus) (bytes : List ℕ) (arrivals : List Arrival) → Stands FS4 t s (record m { side = Finished (Came bytes) })
    → arrivals_for 0 arrivals ≡ setups_arrivals m.unserved → AreFew FS4.out_eps arrivals
    → Stands FS4 (came_table (rx_as t [] (entries_of arrivals))) (came_software s bytes) (record m { side = Off })
came_off t s m bytes arrivals st its all =
    let waits = some_lie m.unserved in
    let hears : was_heard s.heard ≡ true = or_nothing (was_heard s.heard) st.side.first in
    record {
      ins = record { kept = st.ins.kept; stall = st.ins.stall; enabled = st.ins.enabled; ready = never _ refl; holds = st.ins.holds; size = never _ refl };
      outs = record {
        kept = st.outs.kept;
        stall = st.outs.stall;
        enabled = st.outs.enabled;
        naks = never _ refl;
        lies = st.outs.lies;
        toggle = λ h. st.outs.toggle (came_toggle waits (was_heard s.heard) (was_packet s.heard) m.taken st.side.taken_is h);
      };
      pair = off_off;
      side = record {
        taken_is = st.side.taken_is ∙ ap (λ x. not waits && x) (or_right (was_packet s.heard) true refl);
        toggle_is = st.side.toggle_is ∙ ap (λ x. toggle_of (waits || x) t.in0.toggle) hears;
        first = refl;
        packet = no_packet;
        alone = and_false waits;
      };
      rx = record { arrivals = arrivals; lie = refl; its = its; all = all; counts = st.rx.counts; few = st.rx.few; are = st.rx.are };
      rest = st.rest;
      core = record { awake = st.core.awake; reset = st.core.reset; address = st.core.address; landed = st.core.landed; asleep = st.core.asleep; next = st.core.next };
    }

-- a SETUP

pub snak_naks : (nak acts : Bool) → ((nak || true) && not (acts && false)) ≡ true
snak_naks true true = refl
snak_naks true false = refl
snak_naks false true = refl
snak_naks false false = refl

pub epdis_ends : (enabled : Bool) → ((enabled && false) || false) ≡ false
epdis_ends true = refl
epdis_ends false = refl

pub none_loaded : (side : Side) → is_loaded side ≡ false → loaded_bytes side ≡ []
none_loaded (Loaded p) e = never true e refl
none_loaded (Last p) e = never true e refl
none_loaded Off e = refl
none_loaded (Wait p l) e = refl
none_loaded Armed e = refl
none_loaded Stall e = refl
none_loaded (Finished s) e = refl

unfoldable pub setup_off : (t : Table) (s : Software) (m : Bus) (bytes : List ℕ) (us : List (List ℕ)) (arrivals : List Arrival) → Stands FS4 t s (record m { unserved = bytes ∷ us })
    → arrivals_for 0 arrivals ≡ setups_arrivals us → AreFew FS4.out_eps arrivals
    → Stands FS4 (setup_table (rx_as t [] (entries_of arrivals))) (setup_software s bytes) (record m { unserved = us; side = Off })
setup_off t s m bytes us arrivals st its all =
    let counts = st.rx.counts in
    let few = st.rx.few in
    record {
      ins = record { kept = refl; stall = refl; enabled = epdis_ends _; ready = never _ refl; holds = st.ins.holds ∙ ap tx_holding (none_loaded m.side st.side.alone); size = never _ refl };
      outs = record {
        kept = refl;
        stall = refl;
        enabled = epdis_ends _;
        naks = never _ refl;
        lies = λ h. snak_naks _ _;
        toggle = λ h. st.outs.toggle (ap not st.side.taken_is);
      };
      pair = off_off;
      side = record {
        taken_is = st.side.taken_is ∙ sym (and_false (not (some_lie us)));
        toggle_is = st.side.toggle_is ∙ ap (λ x. toggle_of x t.in0.toggle) (sym (or_right (some_lie us) true refl));
        first = refl;
        packet = no_packet;
        alone = and_false _;
      };
      rx = record { arrivals = arrivals; lie = refl; its = its; all = all; counts = omega arith; few = omega arith; are = st.rx.are.1 };
      rest = st.rest;
      core = record { awake = st.core.awake; reset = st.core.reset; address = st.core.address; landed = st.core.landed; asleep = st.core.asleep; next = tt };
    }
