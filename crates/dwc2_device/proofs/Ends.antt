-- What lies in the receive FIFO behind what was popped: a packet's data has its end behind it, and a SETUP's no packet's.
use Rattle.std.proofs.Common.{◌≡◌, ◌≢◌, ◌≤◌, ◌<◌, ℕ, zero, suc, List, [], ◌∷◌, Bool, true, false, refl, ap, sym, ◌∙◌, arith, subst, All}
use Rattle.std.specs.Prelude.{◌==◌}
use Rattle.std.proofs.lemmas.List.Elements.{All-head}
use Rattle.dwc2_regs.specs.declared.access.TheConstants.{FS4}
use Rattle.dwc2_regs.specs.Register.{grxstsp, fifo}
use Rattle.dwc2_fifo.specs.Words.{word_count, words_of}
use Rattle.device_table.specs.State.{Table}
use Rattle.device_table.specs.Words.{kind_of, number_of, setup_data, setup_done, out_data, out_done}
use Rattle.device_table.specs.Read.{value_read, after_read}
use Rattle.device_arrivals.specs.Arrivals.{Arrival, Request, Packet, entries_of, IsArrival}
use Rattle.device_arrivals.specs.Laws.{PacketOut, at_end}
use Rattle.device_arrivals.proofs.Comes.{packet_comes}
use Rattle.device_relation.specs.Run.{Whole, after_words, taken_unless}
use Rattle.device_relation.proofs.Pops.{rx_as}
use Rattle.device_relation.proofs.Serves.{lies_as}
use Rattle.device_relation.proofs.SetupEvents.{never}
use Rattle.dwc2_device.specs.Standing.{IsStanding, EndsAt}
use Rattle.dwc2_device.proofs.Loops.{isnt_zero}

-- the next entry's status, and that of the one behind it
abbrev pub first_of : Table → ℕ
first_of t = value_read t grxstsp

abbrev pub second_of : Table → ℕ
second_of t = value_read (after_read t grxstsp) grxstsp

pub record Behind (t : Table) : Type 0 where
  pub begins : kind_of (first_of t) ≢ out_done
  pub setup : kind_of (first_of t) ≡ setup_data → kind_of (second_of t) ≢ out_done
  pub ends : kind_of (first_of t) ≡ out_data → EndsAt (number_of (first_of t)) (second_of t)

-- the kinds are apart
data_not_done : out_data ≢ out_done
data_not_done e = omega (arith, e)

data_not_setup : out_data ≢ setup_data
data_not_setup e = omega (arith, e)

setup_not_data : setup_data ≢ out_data
setup_not_data e = omega (arith, e)

setup_not_done : setup_data ≢ out_done
setup_not_done e = omega (arith, e)

ends_apart : setup_done ≢ out_done
ends_apart e = omega (arith, e)

below_16 : (n : ℕ) → n ≤ 3 → n < 16
below_16 n h = omega (arith, h)

behind_of : (t : Table) (a : Arrival) (arrivals : List Arrival) → IsArrival FS4.out_eps a → Behind (rx_as t [] (entries_of (a ∷ arrivals)))
behind_of t (Request bytes) arrivals is = record {
  begins = setup_not_done;
  setup = λ _. ends_apart;
  ends = λ k. absurd (setup_not_data k);
}
behind_of t (Packet m toggle bytes) arrivals is =
    let now : Table = rx_as t [] (entries_of (Packet m toggle bytes ∷ arrivals)) in
    let out : PacketOut (rx_as t [] []) [] m toggle bytes arrivals = packet_comes (rx_as t [] []) [] m toggle bytes arrivals (below_16 m is.0) is.1 is.2 in
    let end = out.end_out (words_of bytes) in
    let second : second_of now ≡ first_of (at_end (rx_as t [] []) (words_of bytes) m out_done arrivals) = ap (λ (x : Table). value_read x grxstsp) out.data_out.after_is in
    record {
      begins = λ k. data_not_done (sym out.data_out.kind_is ∙ k);
      setup = λ k. absurd (data_not_setup (sym out.data_out.kind_is ∙ k));
      ends = λ _. (ap kind_of second ∙ end.kind_is, ap number_of second ∙ end.number_is ∙ sym out.data_out.number_is);
    }

behind_by : (arrivals : List Arrival) (t : Table) → All (IsArrival FS4.out_eps) arrivals → (first_of (rx_as t [] (entries_of arrivals)) == 0) ≡ false → Behind (rx_as t [] (entries_of arrivals))
behind_by [] t all e = never true e refl
behind_by (a ∷ arrivals) t all e = behind_of t a arrivals (All-head (IsArrival FS4.out_eps) a arrivals all)

pub behind : (w : Whole) → IsStanding w → first_of w.joint.table ≢ 0 → Behind w.joint.table
behind w s h =
    let t = w.joint.table in
    let arrivals = s.zero.stands.rx.arrivals in
    let lie : t ≡ rx_as t [] (entries_of arrivals) = lies_as w.joint w.rings s.port s.pipes arrivals (record { zero = s.zero; are = refl; pipes = s.stand }) in
    let some : (first_of (rx_as t [] (entries_of arrivals)) == 0) ≡ false = ap (λ (x : Table). first_of x == 0) (sym lie) ∙ isnt_zero (first_of t) h in
    subst Behind (sym lie) (behind_by arrivals t s.zero.stands.rx.all.all some)

-- Reading its words leaves the entries behind it.

pub words_leave : (n : ℕ) (t : Table) → first_of (after_words n t) ≡ first_of t
words_leave zero t = refl
words_leave (suc n) t = words_leave n (after_read t (fifo 0))

pub unless_leaves : (over : Bool) (w : Whole) (number bytes : ℕ) → first_of (taken_unless over w number bytes).joint.table ≡ first_of w.joint.table
unless_leaves true w number bytes = refl
unless_leaves false w number bytes = words_leave (word_count bytes) w.joint.table
