-- A packet that the host acknowledged, at a handler run.
use Rattle.std.proofs.Common.{◌≡◌, ℕ, ◌<◌, Bool, true, false, Option, Some, None, refl, ap, sym, arith, subst}
use Rattle.std.proofs.lemmas.Bool.{or_right}
use Rattle.device_machine.specs.declared.control.Stage.TheVariants.{Sent}
use Rattle.device_machine.specs.declared.control.Side.{Side}
use Rattle.device_machine.specs.declared.control.Side.TheVariants.{Off, Finished}
use Rattle.device_machine.specs.Bus.{Bus}
use Rattle.dwc2_regs.specs.declared.access.TheConstants.{FS4}
use Rattle.dwc2_regs.specs.declared.TheConstants.{DIEPINT_XFRC, GINTSTS_USBRST, DCFG_ADDRESS}
use Rattle.dwc2_regs.specs.Field.{field_of}
use Rattle.dwc2_regs.specs.Register.{gintsts, dcfg}
use Rattle.device_table.specs.State.{Table, Kept}
use Rattle.device_table.specs.Words.{flag, with_flag}
use Rattle.device_table.specs.Read.{value_read, rxflvl, iepint, oepint, txfe}
use Rattle.device_table.specs.Write.{after_write}
use Rattle.device_relation.specs.declared.software.Ready.TheVariants as ready
use Rattle.device_relation.specs.Software.{Software, Joint}
use Rattle.device_relation.specs.Relation.{Stands, Pair, off_off, loaded_sent, last_armed, armed_armed, last_came, armed_came, last_off, armed_off, was_heard, IsAddress}
use Rattle.device_relation.specs.Port.{Port, StandsFor, with_stage, with_address}
use Rattle.device_relation.specs.Run.{cleared_ack, sent_noted, address_served, address_word, acknowledged}
use Rattle.device_relation.proofs.SetupEvents.{never, no_packet}

-- the bits that a run reads

xfrc_by : (xfrc epdisd txfe : Bool) → flag (with_flag (with_flag (with_flag 0 (record { low = 0; width = 1 }) xfrc) (record { low = 1; width = 1 }) epdisd) (record { low = 7; width = 1 }) txfe) DIEPINT_XFRC ≡ xfrc
xfrc_by true true true = refl
xfrc_by true true false = refl
xfrc_by true false true = refl
xfrc_by true false false = refl
xfrc_by false true true = refl
xfrc_by false true false = refl
xfrc_by false false true = refl
xfrc_by false false false = refl

pub acknowledged_is : (j : Joint) → acknowledged j ≡ j.table.in0.xfrc
acknowledged_is j = xfrc_by j.table.in0.xfrc j.table.in0.epdisd (txfe 0 j.table.in0)

abbrev core_word : (a b c d e : Bool) → ℕ
core_word a b c d e =
    with_flag (with_flag (with_flag (with_flag (with_flag 0 (record { low = 4; width = 1 }) a) (record { low = 12; width = 1 }) b) (record { low = 13; width = 1 }) c) (record { low = 18; width = 1 }) d) (record { low = 19; width = 1 }) e

reset_by : (a b c d e : Bool) → flag (core_word a b c d e) GINTSTS_USBRST ≡ b
reset_by true true true true true = refl
reset_by true true true true false = refl
reset_by true true true false true = refl
reset_by true true true false false = refl
reset_by true true false true true = refl
reset_by true true false true false = refl
reset_by true true false false true = refl
reset_by true true false false false = refl
reset_by true false true true true = refl
reset_by true false true true false = refl
reset_by true false true false true = refl
reset_by true false true false false = refl
reset_by true false false true true = refl
reset_by true false false true false = refl
reset_by true false false false true = refl
reset_by true false false false false = refl
reset_by false true true true true = refl
reset_by false true true true false = refl
reset_by false true true false true = refl
reset_by false true true false false = refl
reset_by false true false true true = refl
reset_by false true false true false = refl
reset_by false true false false true = refl
reset_by false true false false false = refl
reset_by false false true true true = refl
reset_by false false true true false = refl
reset_by false false true false true = refl
reset_by false false true false false = refl
reset_by false false false true true = refl
reset_by false false false true false = refl
reset_by false false false false true = refl
reset_by false false false false false = refl

pub reset_is : (t : Table) → flag (value_read t gintsts) GINTSTS_USBRST ≡ t.core.usbrst
reset_is t = reset_by (rxflvl t) t.core.usbrst t.core.enumdne (iepint t) (oepint t)

-- a packet that isn't the last

pair_finished : {side : Side} → Pair true ready.Loaded side → side ≡ Finished Sent
pair_finished loaded_sent = refl

pub finished_is : (t : Table) (s : Software) (m : Bus) → Stands FS4 t s m → s.side ≡ ready.Loaded → t.in0.xfrc ≡ true → m.side ≡ Finished Sent
finished_is t s m st e x = pair_finished (subst (λ r. Pair true r m.side) e (subst (λ b. Pair b s.side m.side) x st.pair))

sent_off : (t : Table) (s : Software) (m : Bus) (n : Option ℕ) → IsAddress n → Stands FS4 t s (record m { side = Finished Sent })
    → Stands FS4 (cleared_ack t) (record s { side = ready.Off; finished = Some Sent; next_address = n }) (record m { side = Off })
sent_off t s m n is st = record {
  ins = record { kept = st.ins.kept; stall = st.ins.stall; enabled = st.ins.enabled; ready = never _ refl; holds = st.ins.holds; size = never _ refl };
  outs = record { kept = st.outs.kept; stall = st.outs.stall; enabled = st.outs.enabled; naks = never _ refl; toggle = st.outs.toggle; lies = st.outs.lies };
  pair = off_off;
  side = record { taken_is = st.side.taken_is; toggle_is = st.side.toggle_is; first = or_right (was_heard s.heard) true refl; packet = no_packet; alone = st.side.alone };
  rx = record { arrivals = st.rx.arrivals; lie = st.rx.lie; its = st.rx.its; all = st.rx.all; counts = st.rx.counts; few = st.rx.few; are = st.rx.are };
  rest = st.rest;
  core = record { awake = st.core.awake; reset = st.core.reset; address = st.core.address; landed = st.core.landed; asleep = st.core.asleep; next = is };
}

at_finished : (t : Table) (s : Software) (m : Bus) → Stands FS4 t s m → s.side ≡ ready.Loaded → t.in0.xfrc ≡ true → Stands FS4 t s (record m { side = Finished Sent })
at_finished t s m st e x = subst (λ side. Stands FS4 t s (record m { side = side })) (finished_is t s m st e x) st

pub sent_for : (j : Joint) (p : Port) → StandsFor FS4 j p → j.software.side ≡ ready.Loaded → j.table.in0.xfrc ≡ true → StandsFor FS4 (sent_noted j) (with_stage p Sent)
sent_for j p f e x = record {
  stands = sent_off j.table j.software p.bus j.software.next_address f.stands.core.next (at_finished j.table j.software p.bus f.stands e x);
  heard = f.heard;
  next_address = f.next_address;
  reset = f.reset;
  finished = refl;
  request = f.request;
}

-- and a new address

address_is : (n : ℕ) → n < 128 → field_of (address_word n) DCFG_ADDRESS ≡ n
address_is n h = omega arith

addressed_on : (t : Table) (s : Software) (m : Bus) (n : ℕ) → n < 128 → Stands FS4 t s m → Stands FS4 (after_write t dcfg (address_word n)) s (record m { address = n })
addressed_on t s m n h st = record {
  ins = st.ins;
  outs = st.outs;
  pair = st.pair;
  side = st.side;
  rx = st.rx;
  rest = record { masks = ap (λ (k : Kept). record k { dcfg = address_word n }) st.rest.masks; hosts = st.rest.hosts; in_ends = st.rest.in_ends; out_ends = st.rest.out_ends };
  core = record { awake = st.core.awake; reset = st.core.reset; address = sym (address_is n h); landed = st.core.landed; asleep = st.core.asleep; next = st.core.next };
}

pub address_for : (j : Joint) (p : Port) (n : ℕ) → n < 128 → StandsFor FS4 j p → j.software.side ≡ ready.Loaded → j.table.in0.xfrc ≡ true
    → StandsFor FS4 (address_served j n) (with_address (with_stage p Sent) (Some n))
address_for j p n h f e x = record {
  stands = addressed_on (cleared_ack j.table) (record j.software { side = ready.Off; finished = Some Sent; next_address = None }) (record p.bus { side = Off }) n h
      (sent_off j.table j.software p.bus None tt (at_finished j.table j.software p.bus f.stands e x));
  heard = f.heard;
  next_address = refl;
  reset = f.reset;
  finished = refl;
  request = f.request;
}

-- the last packet

pair_armed : {x : Bool} {side : Side} → Pair true ready.Last side → Pair x ready.Armed side
pair_armed last_armed = armed_armed
pair_armed last_came = armed_came
pair_armed last_off = armed_off

pub last_for : (j : Joint) (p : Port) → StandsFor FS4 j p → j.software.side ≡ ready.Last → j.table.in0.xfrc ≡ true
    → StandsFor FS4 (record { table = cleared_ack j.table; software = record j.software { side = ready.Armed } }) p
last_for j p f e x =
    let st = f.stands in
    record {
      stands = record {
        ins = record { kept = st.ins.kept; stall = st.ins.stall; enabled = st.ins.enabled; ready = st.ins.ready; holds = st.ins.holds; size = st.ins.size };
        outs = st.outs;
        pair = pair_armed (subst (λ r. Pair true r p.bus.side) e (subst (λ b. Pair b j.software.side p.bus.side) x st.pair));
        side = st.side;
        rx = st.rx;
        rest = st.rest;
        core = record { awake = st.core.awake; reset = st.core.reset; address = st.core.address; landed = st.core.landed; asleep = st.core.asleep; next = st.core.next };
      };
      heard = f.heard;
      next_address = f.next_address;
      reset = f.reset;
      finished = f.finished;
      request = f.request;
    }
