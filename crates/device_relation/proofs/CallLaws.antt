-- The laws of handler runs and calls.
use Rattle.std.proofs.Common.{◌+◌, suc, refl, sym, ◌∙◌}
use Rattle.dwc2_regs.specs.declared.access.TheConstants.{FS4}
use Rattle.device_relation.specs.CallLaws.{AreOne, RunServes, ServesZero, ServesOut, ServesIn, Closes}
use Rattle.device_relation.proofs.Runs.{run_for, port_is}
use Rattle.device_relation.proofs.ZeroCalls.{start_for_all, arm_for_all, stall_for_all, address_for_all}
use Rattle.device_relation.proofs.OutPipeCalls.{open_out_for, arm_out_for, halt_out_for, clear_out_for, read_out_for, drop_out_for, note_out_for}
use Rattle.device_relation.proofs.InPipeCalls.{open_in_for, start_in_for, halt_in_for, clear_in_for, write_in_for, drop_in_for, note_in_for}
use Rattle.device_relation.proofs.CloseCalls.{close_for}

pub are_one : AreOne FS4
are_one w p q one other = sym (port_is w.joint w.rings p one) ∙ port_is w.joint w.rings q other

pub run_serves : RunServes FS4
run_serves w p are = run_for w.joint w.rings p are

pub serves_zero : ServesZero FS4
serves_zero w p are =
    let j = w.joint in
    let r = w.rings in
    record {
      starts = λ packet last may heard is. start_for_all j r p packet last are may heard is;
      arms = λ may heard. arm_for_all j r p are may heard;
      stalls = λ may. stall_for_all j r p are may;
      addresses = λ address few. address_for_all j r p address are few;
    }

pub serves_out : ServesOut FS4
serves_out w p m few are =
    let j = w.joint in
    let r = w.rings in
    record {
      opens = λ e address closed least most. open_out_for j r p e m few address closed least most are;
      arms = λ rests free class fits. arm_out_for j r p m few rests free class fits are;
      halts = λ opened. halt_out_for j r p m few opened are;
      clears = λ opened. clear_out_for j r p m few opened are;
      reads = λ count. read_out_for w p m count few are;
      drops = drop_out_for w p m few are;
      notes = note_out_for j r p m few are;
    }

pub serves_in : ServesIn FS4
serves_in w p m few are =
    let j = w.joint in
    let r = w.rings in
    record {
      opens = λ e address closed size. open_in_for j r p e m few address closed size are;
      starts = λ rests class. start_in_for j r p m few rests class are;
      halts = λ opened. halt_in_for j r p (128 + suc m) m few refl opened are;
      clears = λ opened. clear_in_for w p (128 + suc m) m few refl opened are;
      writes = λ bytes below opened. write_in_for w p m bytes few below opened are;
      drops = λ opened. drop_in_for w p (128 + suc m) m few refl opened are;
      notes = note_in_for j r p m few are;
    }

pub closes : Closes FS4
closes w p are = close_for w p are
