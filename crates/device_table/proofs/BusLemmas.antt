-- What each outcome on the bus leaves as it was.
use Rattle.std.proofs.Common.{◌≡◌, ◌≢◌, ℕ, zero, suc, List, ◌++◌, Bool, true, false, refl, ap, ◌∙◌, get_or-set_other}
use Rattle.usb_packet.specs.declared.bus.Toggle.{Toggle}
use Rattle.dwc2_fifo.specs.Rx.{Rx}
use Rattle.device_table.specs.State.{Table, InEnd, OutEnd, in_end, out_end, with_in, with_out, in_end_of, no_out_end}
use Rattle.device_table.specs.Bus.{OutOutcome, unheard, naks, stalls, drops, lands, InOutcome, unheard_in, naks_in, stalls_in, sends, after_out, after_in, out_entries, out_landed, in_acked}
use Rattle.device_table.specs.Laws.{OutLeaves, InLeaves}

other_number : (x y : ℕ) → suc y ≢ suc x → y ≢ x
other_number x y h = λ e. h (ap suc e)

pub out_end-with_out_other : (t : Table) (n y : ℕ) (end : OutEnd) → y ≢ suc n → out_end (with_out t (suc n) end) y ≡ out_end t y
out_end-with_out_other t n zero end h = refl
out_end-with_out_other t n (suc y) end h = get_or-set_other t.outs n y end no_out_end (other_number n y h)

pub in_end-with_in_other : (t : Table) (n y : ℕ) (end : InEnd) → y ≢ suc n → in_end (with_in t (suc n) end) y ≡ in_end t y
in_end-with_in_other t n zero end h = refl
in_end-with_in_other t n (suc y) end h = get_or-set_other t.ins n y end (in_end_of 0) (other_number n y h)

in_same : (t : Table) (n y : ℕ) (rx : Rx) (end : OutEnd) → in_end (with_out (record t { rx = rx }) (suc n) end) y ≡ in_end t y
in_same t n zero rx end = refl
in_same t n (suc y) rx end = refl

out_same : (t : Table) (n y : ℕ) (end : InEnd) → out_end (with_in t (suc n) end) y ≡ out_end t y
out_same t n zero end = refl
out_same t n (suc y) end = refl

out_same_rx : (t : Table) (y : ℕ) (rx : Rx) → out_end (record t { rx = rx }) y ≡ out_end t y
out_same_rx t zero rx = refl
out_same_rx t (suc y) rx = refl

out_nothing : (t : Table) (n : ℕ) → OutLeaves t t n
out_nothing t n = record { ins = λ y. refl; outs = λ y h. refl; core = refl; kept = refl; host = refl }

in_nothing : (t : Table) (n : ℕ) → InLeaves t t n
in_nothing t n = record { ins = λ y h. refl; outs = λ y. refl; others = record { core = refl; kept = refl; host = refl; rx = refl } }

pub out_leaves : (t : Table) (n : ℕ) (toggle : Toggle) (bytes : List ℕ) (outcome : OutOutcome) → OutLeaves t (after_out t (suc n) toggle bytes outcome) n
out_leaves t n toggle bytes unheard = out_nothing t n
out_leaves t n toggle bytes naks = out_nothing t n
out_leaves t n toggle bytes stalls = out_nothing t n
out_leaves t n toggle bytes drops = out_nothing t n
out_leaves t n toggle bytes lands =
    let rx : Rx = record t.rx { entries = t.rx.entries ++ out_entries (suc n) toggle bytes } in
    let end : OutEnd = out_landed (out_end t (suc n)) in
    record {
      ins = λ y. in_same t n y rx end;
      outs = λ y h. out_end-with_out_other (record t { rx = rx }) n y end h ∙ out_same_rx t y rx;
      core = refl;
      kept = refl;
      host = refl;
    }

pub in_leaves : (t : Table) (n : ℕ) (good : Bool) (outcome : InOutcome) → InLeaves t (after_in t (suc n) good outcome) n
in_leaves t n good unheard_in = in_nothing t n
in_leaves t n good naks_in = in_nothing t n
in_leaves t n good stalls_in = in_nothing t n
in_leaves t n false (sends packet) = in_nothing t n
in_leaves t n true (sends packet) =
    let end : InEnd = in_acked (suc n) (in_end t (suc n)) in
    record {
      ins = λ y h. in_end-with_in_other t n y end h;
      outs = λ y. out_same t n y end;
      others = record { core = refl; kept = refl; host = refl; rx = refl };
    }
