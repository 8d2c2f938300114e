-- The calls on endpoint 0 leave the other endpoints as they are, so that all stands after each.
use Rattle.std.proofs.Common.{◌≡◌, ℕ, suc, ◌<◌, List, Bool, true, refl, ap, ◌∙◌}
use Rattle.std.specs.Prelude.{IsTrue}
use Rattle.dwc2_regs.specs.declared.access.TheConstants.{FS4}
use Rattle.dwc2_fifo.specs.Rx.{Rx}
use Rattle.device_table.specs.State.{Table}
use Rattle.device_arrivals.specs.Arrivals.{packets_at}
use Rattle.device_rings.specs.Rings.{Rings}
use Rattle.device_relation.specs.declared.software.Ready.{Ready}
use Rattle.device_relation.specs.declared.software.Ready.TheVariants as ready
use Rattle.device_relation.specs.declared.software.Heard.{Heard}
use Rattle.device_relation.specs.Software.{Software, Joint}
use Rattle.device_relation.specs.Relation.{IsPacket}
use Rattle.device_relation.specs.Port.{Port, AllStandFor, may_start, started, armed, stalled, addressed}
use Rattle.device_relation.specs.Run.{unstalled, out_armed, run_start, run_arm, run_stall, run_address}
use Rattle.device_relation.proofs.Pipes.{SamePipes, same_pipes}
use Rattle.device_relation.proofs.Loads.{armed_out0}
use Rattle.device_relation.proofs.Calls.{start_for, arm_for, stall_for, address_for}

-- registers of endpoint 0 alone
record IsZeros (old new : Table) : Type 0 where
  outs : new.outs ≡ old.outs
  ins : new.ins ≡ old.ins
  rx : new.rx ≡ old.rx

unstalled_zeros : (t : Table) (r : Ready) → IsZeros t (unstalled t r)
unstalled_zeros t ready.Stall = record { outs = refl; ins = refl; rx = refl }
unstalled_zeros t ready.Off = record { outs = refl; ins = refl; rx = refl }
unstalled_zeros t (ready.Wait packet last) = record { outs = refl; ins = refl; rx = refl }
unstalled_zeros t ready.Loaded = record { outs = refl; ins = refl; rx = refl }
unstalled_zeros t ready.Last = record { outs = refl; ins = refl; rx = refl }
unstalled_zeros t ready.Armed = record { outs = refl; ins = refl; rx = refl }

armed_zeros : (t new : Table) (h : Heard) → IsZeros t new → IsZeros t (out_armed new h)
armed_zeros t new h z = record {
  outs = ap (λ (x : Table). x.outs) (armed_out0 new h) ∙ z.outs;
  ins = ap (λ (x : Table). x.ins) (armed_out0 new h) ∙ z.ins;
  rx = ap (λ (x : Table). x.rx) (armed_out0 new h) ∙ z.rx;
}

same : (t t' : Table) (s s' : Software) → IsZeros t t' → s'.outs ≡ s.outs → s'.ins ≡ s.ins → SamePipes t t' s s'
same t t' s s' z outs ins = record { outs = z.outs; ins = z.ins; out_kepts = outs; in_kepts = ins; lie = λ n. ap (λ (rx : Rx). packets_at (suc n) rx.entries) z.rx }

pub start_for_all : (j : Joint) (r : Rings) (p : Port) (packet : List ℕ) (last : Bool) → AllStandFor FS4 j r p → IsTrue (may_start p.bus.side) → p.heard ≡ true → IsPacket packet
    → AllStandFor FS4 (run_start j packet last) r (started p packet last)
start_for_all j r p packet last all may heard is =
    let j' = run_start j packet last in
    record {
      zero = start_for j p packet last all.zero may heard is;
      pipes = same_pipes j.table j'.table j.software j'.software r p.pipes (same j.table j'.table j.software j'.software (unstalled_zeros j.table j.software.side) refl refl) all.pipes;
    }

pub arm_for_all : (j : Joint) (r : Rings) (p : Port) → AllStandFor FS4 j r p → IsTrue (may_start p.bus.side) → p.heard ≡ true → AllStandFor FS4 (run_arm j) r (armed p)
arm_for_all j r p all may heard =
    let j' = run_arm j in
    let calm = unstalled j.table j.software.side in
    record {
      zero = arm_for j p all.zero may heard;
      pipes = same_pipes j.table j'.table j.software j'.software r p.pipes
          (same j.table j'.table j.software j'.software (armed_zeros j.table calm j.software.heard (unstalled_zeros j.table j.software.side)) refl refl) all.pipes;
    }

pub stall_for_all : (j : Joint) (r : Rings) (p : Port) → AllStandFor FS4 j r p → IsTrue (may_start p.bus.side) → AllStandFor FS4 (run_stall j) r (stalled p)
stall_for_all j r p all may =
    let j' = run_stall j in
    record {
      zero = stall_for j p all.zero may;
      pipes = same_pipes j.table j'.table j.software j'.software r p.pipes (same j.table j'.table j.software j'.software (record { outs = refl; ins = refl; rx = refl }) refl refl) all.pipes;
    }

pub address_for_all : (j : Joint) (r : Rings) (p : Port) (address : ℕ) → AllStandFor FS4 j r p → address < 128 → AllStandFor FS4 (run_address j address) r (addressed p address)
address_for_all j r p address all fits =
    let j' = run_address j address in
    record {
      zero = address_for j p address all.zero fits;
      pipes = same_pipes j.table j'.table j.software j'.software r p.pipes (same j.table j'.table j.software j'.software (record { outs = refl; ins = refl; rx = refl }) refl refl) all.pipes;
    }
