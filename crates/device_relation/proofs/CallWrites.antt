-- What each call on an endpoint other than 0 leaves is what its writes leave of the registers.
use Rattle.std.proofs.Common.{◌≡◌, ℕ, suc, ◌<◌, ◌≤◌, List, true, false, sym, arith, subst}
use Rattle.usb_descriptor.specs.declared.endpoint.Endpoint.{Endpoint}
use Rattle.usb_descriptor.specs.Set.{is_core}
use Rattle.dwc2_regs.specs.declared.access.TheConstants.{FS4}
use Rattle.dwc2_regs.specs.Register.{diepctl}
use Rattle.device_table.specs.State.{Table, out_end, with_out}
use Rattle.device_table.specs.Write.{after_write}
use Rattle.endpoint_relation.specs.declared.out_.OutEndpoint.{OutEndpoint}
use Rattle.endpoint_relation.specs.declared.in_.InEndpoint.{InEndpoint}
use Rattle.endpoint_relation.specs.InWords.{in_snak_sd0pid, in_snak_epdis, in_snak_sd0pid_epdis}
use Rattle.endpoint_relation.specs.InSteps.{control_with, software_halted, software_cleared, software_opened}
use Rattle.endpoint_relation.specs.InTable.{IsAt, halted_at, stopped_at}
use Rattle.endpoint_relation.specs.OutTable.{arm_writes, halt_writes, clear_writes, open_writes, close_writes, reads_landed, OutWrites}
use Rattle.endpoint_relation.specs.OutRelation.{is_armed}
use Rattle.endpoint_relation.specs.OutSteps.{over_at, opened_end}
use Rattle.endpoint_relation.proofs.InOnTable.{halts_at, clears_at, drops_at, opens_at, closes_at}
use Rattle.endpoint_relation.proofs.OutTables.{out_writes}
use Rattle.device_relation.specs.Software.{Joint, out_kept, in_kept}
use Rattle.device_relation.specs.Port.{Port, AllStandFor}
use Rattle.device_relation.specs.Run.{Whole, run_open_out, run_arm_out, run_halt_out, run_clear_out, close_out, run_open_in, run_halt_in, run_clear_in, run_drop_in, close_in}
use Rattle.device_rings.specs.Rings.{Rings, in_ring}

-- OUT.

pub record OutCallWrites (j : Joint) (m : ℕ) : Type 0 where
  pub arms : (run_arm_out j (suc m)).table ≡ arm_writes j.table (suc m) (out_kept j.software (suc m))
  pub halts : (run_halt_out j (suc m)).table ≡ halt_writes j.table (suc m) (out_kept j.software (suc m))
  pub clears : (run_clear_out j (suc m)).table ≡ clear_writes j.table (suc m) (out_kept j.software (suc m))
  pub opens : (e : Endpoint) → e.addr ≡ suc m → (run_open_out j e).table ≡ open_writes j.table (suc m) (out_kept j.software (suc m)) e
  pub closes : (close_out j (suc m)).table ≡ close_writes j.table (suc m)
  -- NAKSTS, where it is read
  pub reads : is_armed (out_kept j.software (suc m)).state ≡ true → (out_kept j.software (suc m)).over ≡ false
      → over_at (out_end j.table (suc m)) (out_kept j.software (suc m)) ≡ reads_landed j.table (suc m)

pub out_call_writes : (j : Joint) (r : Rings) (p : Port) (m : ℕ) → m < 3 → AllStandFor FS4 j r p → OutCallWrites j m
out_call_writes j r p m few all = record {
  arms = sym written.arms;
  halts = sym written.halts;
  clears = sym written.clears;
  opens = λ e address. subst (λ n. with_out j.table n (opened_end (out_end j.table n) (out_kept j.software n) e) ≡ open_writes j.table (suc m) kept e) (sym address) (sym (written.opens e));
  closes = sym written.closes;
  reads = λ armed fresh. sym (written.reads armed fresh);
}
  where
    kept : OutEndpoint
    kept = out_kept j.software (suc m)

    written : OutWrites j.table m kept
    written = out_writes j.table m kept (subst (λ k. m < k) (sym all.zero.stands.rest.out_ends) few)

-- IN.

pub record InCallWrites (w : Whole) (m : ℕ) : Type 0 where
  pub halts : (run_halt_in w.joint (suc m)).table ≡ halted_at (is_core (in_kept w.joint.software (suc m)).endpoint.owner) (suc m) (software_halted (in_kept w.joint.software (suc m))) w.joint.table
  pub clears : (run_clear_in w (suc m)).joint.table ≡ stopped_at (suc m) (control_with (suc m) (software_cleared (in_kept w.joint.software (suc m))) in_snak_sd0pid_epdis) w.joint.table
  pub drops : (run_drop_in w (suc m)).joint.table ≡ stopped_at (suc m) (control_with (suc m) (in_kept w.joint.software (suc m)) in_snak_epdis) w.joint.table
  pub opens : (e : Endpoint) → (run_open_in w.joint e (suc m)).table ≡ after_write w.joint.table (diepctl (suc m)) (control_with (suc m) (software_opened e) in_snak_sd0pid)
  pub closes : (close_in w (suc m)).joint.table ≡ stopped_at (suc m) in_snak_epdis w.joint.table

pub in_call_writes : (w : Whole) (p : Port) (m : ℕ) → m < 3 → AllStandFor FS4 w.joint w.rings p → InCallWrites w m
in_call_writes w p m few all = record {
  halts = sym (halts_at m t s ring);
  clears = sym (clears_at m t s ring there (small m few));
  drops = sym (drops_at m t s ring there (small m few));
  opens = λ e. sym (opens_at m e t s ring);
  closes = sym (closes_at m t s ring there (small m few));
}
  where
    t : Table
    t = w.joint.table

    s : InEndpoint
    s = in_kept w.joint.software (suc m)

    ring : List ℕ
    ring = (in_ring w.rings (suc m)).bytes

    at_most : (m : ℕ) → m < 3 → suc m ≤ 3
    at_most m h = omega (arith, h)

    there : IsAt m t
    there = subst (λ k. suc m ≤ k) (sym all.zero.stands.rest.in_ends) (at_most m few)

    small : (m : ℕ) → m < 3 → suc m ≤ 15
    small m h = omega (arith, h)
