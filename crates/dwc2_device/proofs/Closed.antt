-- A session ends.
use Rattle.std.proofs.Common.{◌≡◌, ℕ, zero, suc, ◌<◌, List, [], ◌∷◌, map, refl, ap, sym, ◌∙◌, arith, subst}
use Rattle.std.specs.Prelude.{slice_index_or, slice_set}
use Rattle.usb_ring.specs.Ring.{Ring}
use Rattle.dwc2_regs.specs.declared.access.TheConstants.{FS4}
use Rattle.device_table.specs.State.{out_end}
use Rattle.device_rings.specs.Rings.{Rings, no_ring, emptied, all_emptied}
use Rattle.endpoint_relation.specs.OutSteps.{closed}
use Rattle.endpoint_relation.specs.InRelation.{in_unused}
use Rattle.device_relation.specs.Software.{Joint, out_kept, with_out_kept, with_in_kept}
use Rattle.device_relation.specs.PipeRelation.{IsSound}
use Rattle.device_relation.specs.Port.{Port, AllStandFor, port_of, without_endpoints}
use Rattle.device_relation.specs.Run.{Whole, close_out, close_in, outs_closed, ins_closed, run_close}
use Rattle.device_relation.proofs.Runs.{Ends, ended, itself}
use Rattle.device_relation.proofs.OutPipeCalls.{close_out_for}
use Rattle.device_relation.proofs.InPipeCalls.{close_in_for}
use Rattle.device_relation.proofs.CloseCalls.{close_for}
use Rattle.device_relation.proofs.CallWrites.{out_call_writes, in_call_writes}
use Rattle.dwc2_device.specs.Writes.{closes_out, closes_in}

abbrev whole_of : Joint → Rings → Whole
whole_of j r = record { joint = j; rings = r }

-- one endpoint

closes_one : (j : Joint) (r : Rings) (p : Port) (m : ℕ) → m < 3 → AllStandFor FS4 j r p → closes_out j (suc m) ≡ close_out j (suc m)
closes_one j r p m few a =
    let w = out_call_writes j r p m few a in
    ap (λ t. record { table = t; software = with_out_kept j.software (suc m) (closed (out_end j.table (suc m)) (out_kept j.software (suc m))) }) (sym w.closes)

closes_one_in : (w : Whole) (p : Port) (m : ℕ) → m < 3 → AllStandFor FS4 w.joint w.rings p → closes_in w.joint (suc m) ≡ (close_in w (suc m)).joint
closes_one_in w p m few a =
    let x = in_call_writes w p m few a in
    ap (λ t. record { table = t; software = with_in_kept w.joint.software (suc m) in_unused }) (sym x.closes)

-- all of a direction

record Outs (j : Joint) (r : Rings) : Type 0 where
  rings : Rings
  port : Port
  stands : AllStandFor FS4 (close_out (close_out (close_out j 1) 2) 3) rings port
  same : closes_out (closes_out (closes_out j 1) 2) 3 ≡ close_out (close_out (close_out j 1) 2) 3

outs_end : (j : Joint) (r : Rings) (p : Port) → AllStandFor FS4 j r p → Outs j r
outs_end j r p a =
    let a1 = close_out_for j r p 0 (omega arith) a in
    let a2 = close_out_for (close_out j 1) _ _ 1 (omega arith) a1 in
    let a3 = close_out_for (close_out (close_out j 1) 2) _ _ 2 (omega arith) a2 in
    record {
      rings = _;
      port = _;
      stands = a3;
      same = ap (λ (x : Joint). closes_out (closes_out x 2) 3) (closes_one j r p 0 (omega arith) a)
          ∙ ap (λ (x : Joint). closes_out x 3) (closes_one (close_out j 1) _ _ 1 (omega arith) a1)
          ∙ closes_one (close_out (close_out j 1) 2) _ _ 2 (omega arith) a2;
    }

ins_end : (w : Whole) (p : Port) → AllStandFor FS4 w.joint w.rings p → closes_in (closes_in (closes_in w.joint 1) 2) 3 ≡ (close_in (close_in (close_in w 1) 2) 3).joint
ins_end w p a =
    let a1 = close_in_for w p 0 (omega arith) a in
    let a2 = close_in_for (close_in w 1) _ 1 (omega arith) a1 in
    ap (λ (x : Joint). closes_in (closes_in x 2) 3) (closes_one_in w p 0 (omega arith) a)
    ∙ ap (λ (x : Joint). closes_in x 3) (closes_one_in (close_in w 1) _ 1 (omega arith) a1)
    ∙ closes_one_in (close_in (close_in w 1) 2) _ 2 (omega arith) a2

-- the rings

emptied_once : (xs : List Ring) (n : ℕ) → map emptied (slice_set xs n (emptied (slice_index_or xs n no_ring))) ≡ map emptied xs
emptied_once [] n = refl
emptied_once (x ∷ xs) zero = refl
emptied_once (x ∷ xs) (suc n) = ap (λ ys. emptied x ∷ ys) (emptied_once xs n)

abbrev one_emptied : List Ring → ℕ → List Ring
one_emptied xs n = slice_set xs n (emptied (slice_index_or xs n no_ring))

all_once : (r : Rings) → all_emptied (record r { ins = one_emptied (one_emptied (one_emptied r.ins 0) 1) 2 }) ≡ all_emptied r
all_once r =
    ap (λ ins. record { outs = map emptied r.outs; ins = ins })
    (emptied_once (one_emptied (one_emptied r.ins 0) 1) 2 ∙ emptied_once (one_emptied r.ins 0) 1 ∙ emptied_once r.ins 0)

pub close_ends : (old new : Joint) (r : Rings) → IsSound FS4 old r → new ≡ closes_in (closes_in (closes_in (closes_out (closes_out (closes_out old 1) 2) 3) 1) 2) 3
    → Ends new (all_emptied r) (without_endpoints (port_of old r))
unfolding outs_closed ins_closed
close_ends old new r s e =
    let a = itself old r s in
    let o : Outs old r = outs_end old r (port_of old r) a in
    let j3 = close_out (close_out (close_out old 1) 2) 3 in
    let joint : new ≡ (run_close FS4 (whole_of old r)).joint = e ∙ ap (λ (x : Joint). closes_in (closes_in (closes_in x 1) 2) 3) o.same ∙ ins_end (whole_of j3 o.rings) o.port o.stands in
    let end : Ends (run_close FS4 (whole_of old r)).joint (run_close FS4 (whole_of old r)).rings (without_endpoints (port_of old r)) =
    ended (run_close FS4 (whole_of old r)).joint (run_close FS4 (whole_of old r)).rings (without_endpoints (port_of old r)) (close_for (whole_of old r) (port_of old r) a) in
    subst (λ (x : Joint). Ends x (all_emptied r) (without_endpoints (port_of old r))) (sym joint)
    (subst (λ (x : Rings). Ends (run_close FS4 (whole_of old r)).joint x (without_endpoints (port_of old r))) (all_once r) end)
