-- The endpoints and channels of a profile, and those beyond it.
use Rattle.std.proofs.Common.{◌≡◌, ℕ, zero, suc, ◌+◌, ◌-◌, ◌<◌, ◌≤◌, List, length, refl, ap, ◌∙◌, arith}
use Rattle.std.specs.Prelude.{slice_index}
use Rattle.std.proofs.lemmas.List.{length-replicate, get_or_past}
use Rattle.device_table.specs.State.{InEnd, OutEnd, Channel, in_end_of, no_out_end, no_channel, tx0_depth, tx_depth, rx_depth, all_ones, sizes_from}
use Rattle.device_table.specs.Words.{control_word}
use Rattle.device_table.specs.Read.{diepint_word, doepint_word}
use Rattle.dwc2_fifo.specs.Tx.{space_of}
use Rattle.device_table.specs.Laws.{CountsAreKept, BeyondReadsNothing}

length-sizes_from : (n start depth : ℕ) → length (sizes_from n start depth) ≡ n
length-sizes_from zero start depth = refl
length-sizes_from (suc n) start depth =
    let ih = length-sizes_from n (start + depth) depth in
    omega arith

pub counts_are_kept : CountsAreKept
counts_are_kept p = (
  record {
    ins = length-replicate p.in_eps (in_end_of tx_depth);
    outs = length-replicate p.out_eps no_out_end;
    sizes = length-replicate p.in_eps 0;
    channels = length-replicate p.channels no_channel;
  },
  record {
    ins = length-replicate p.in_eps (in_end_of tx_depth);
    outs = length-replicate p.out_eps no_out_end;
    sizes = length-sizes_from p.in_eps (rx_depth p + tx0_depth) tx_depth;
    channels = length-replicate p.channels (record no_channel { hcintmsk = all_ones });
  },
)

below : (k n : ℕ) → k < suc n → k ≤ n
below k n h = omega arith

none_below : (k : ℕ) → k < 0 → ⊥
none_below k h = omega arith

less : (n : ℕ) → suc n - 1 ≡ n
less n = omega arith

no_size : (sizes : List ℕ) (n : ℕ) → length sizes < suc n → slice_index sizes (suc n - 1) ≡ 0
no_size sizes n h = ap (slice_index sizes) (less n) ∙ get_or_past sizes n 0 (below (length sizes) n h)

pub beyond_reads_nothing : BeyondReadsNothing
beyond_reads_nothing t zero = record {
  in_end = λ h. absurd (none_below _ h);
  out_end = λ h. absurd (none_below _ h);
  size = λ h. absurd (none_below _ h);
  channel = λ h.
      let is = get_or_past t.host.channels 0 no_channel h in
      (ap (λ (c : Channel). c.hcchar) is, ap (λ (c : Channel). c.hcintmsk) is, ap (λ (c : Channel). c.hctsiz) is);
}
beyond_reads_nothing t (suc n) = record {
  in_end = λ h.
      let is = get_or_past t.ins n (in_end_of 0) (below (length t.ins) n h) in
      (ap (λ (e : InEnd). control_word e.control) is, ap (λ (e : InEnd). diepint_word (suc n) e) is, ap (λ (e : InEnd). e.tsiz) is, ap (λ (e : InEnd). space_of e.fifo) is);
  out_end = λ h.
      let is = get_or_past t.outs n no_out_end (below (length t.outs) n h) in
      (ap (λ (e : OutEnd). control_word e.control) is, ap (λ (e : OutEnd). doepint_word e) is, ap (λ (e : OutEnd). e.tsiz) is);
  size = λ h. no_size t.kept.dieptxfs n h;
  channel = λ h.
      let is = get_or_past t.host.channels (suc n) no_channel h in
      (ap (λ (c : Channel). c.hcchar) is, ap (λ (c : Channel). c.hcintmsk) is, ap (λ (c : Channel). c.hctsiz) is);
}
