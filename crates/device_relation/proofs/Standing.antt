-- What the loop that takes the receive FIFO's arrivals needs: the next one has its place, and taking it leaves the rest in order.
use Rattle.std.proofs.Common.{◌≡◌, ℕ, zero, suc, ◌+◌, ◌<◌, ◌≤◌, List, [], ◌∷◌, length, min, Bool, true, false, refl, ap, sym, ◌∙◌, arith, subst, All}
use Rattle.std.specs.Prelude.{◌==◌, if◌then◌else◌}
use Rattle.std.proofs.lemmas.List.Elements.{All-head, All-tail}
use Rattle.usb_packet.specs.declared.bus.Toggle.{Toggle}
use Rattle.usb_ring.specs.Ring.{Ring}
use Rattle.dwc2_regs.specs.declared.access.TheConstants.{FS4}
use Rattle.dwc2_regs.specs.Register.{grxstsp}
use Rattle.dwc2_fifo.specs.Rx.{Rx}
use Rattle.device_table.specs.State.{Table, out_end, rx_depth}
use Rattle.device_table.specs.Words.{status_word, pid_of, kind_of, number_of, out_data}
use Rattle.device_table.specs.Read.{value_read, after_read}
use Rattle.device_machine.specs.Pipes.{Pipes}
use Rattle.device_arrivals.specs.Arrivals.{Arrival, Request, Packet, Landed, entries_of, landed_on, packets_at, AreFew, IsArrival}
use Rattle.device_arrivals.specs.Laws.{PacketOut}
use Rattle.device_arrivals.proofs.Comes.{packet_comes}
use Rattle.device_rings.specs.Rings.{Rings, out_ring}
use Rattle.endpoint_relation.specs.declared.out_.OutEndpoint.{OutEndpoint}
use Rattle.endpoint_relation.specs.OutRelation.{OutStands}
use Rattle.endpoint_relation.proofs.OutRuns.{out_move, out_move_fits}
use Rattle.device_relation.specs.Software.{Software, Joint, out_kept}
use Rattle.device_relation.specs.PipeRelation.{PipesStand, OutPipePart}
use Rattle.device_relation.specs.Port.{Port, StandsFor, AllStandFor}
use Rattle.device_relation.specs.Run.{Whole, with_joint, with_table, byte_count, arrival_taken, arrivals_taken}
use Rattle.device_relation.proofs.SetupEvents.{never}
use Rattle.device_relation.proofs.Pops.{rx_as, is_status, count_of}
use Rattle.device_relation.proofs.Takes.{lies_are, own_first}
use Rattle.device_relation.proofs.Serves.{Holds, Next, next_for, lies_as, zero_step, pipe_step}

-- controller, software and rings stand for some device
pub record Standing (w : Whole) : Type 0 where
  pub port : Port
  pub pipes : Pipes
  pub zero : StandsFor FS4 w.joint port
  pub stand : PipesStand FS4 w.joint.table w.joint.software w.rings pipes

pub standing : (w : Whole) (p : Port) → AllStandFor FS4 w.joint w.rings p → Standing w
standing w p a = record { port = p; pipes = p.pipes; zero = a.zero; stand = a.pipes }

-- the word that tells of the next arrival, and what its read leaves
abbrev pub next_word : Whole → ℕ
next_word w = value_read w.joint.table grxstsp

abbrev pub word_read : Whole → Whole
word_read w = with_joint w (with_table w.joint (after_read w.joint.table grxstsp))

-- the endpoint of a packet is the controller's, and its ring has room for the packet, unless that was dropped
pub record HasPlace (w : Whole) (number count : ℕ) : Type 0 where
  pub known : number ≤ 3
  pub room : (out_kept w.joint.software number).over ≡ false → length (out_ring w.rings number).bytes + count ≤ (out_ring w.rings number).capacity

pub record Goes (w : Whole) : Type 0 where
  pub place : (n : ℕ) → kind_of (next_word w) ≡ out_data → number_of (next_word w) ≡ suc n → HasPlace w (suc n) (byte_count (next_word w))
  pub next : Standing (arrival_taken (word_read w) (next_word w))

not_data : (n : ℕ) → kind_of (status_word 0 8 0 6) ≡ 2 → ⊥
not_data n e = omega (arith, e)

zero_is : (n k : ℕ) → n ≡ 0 → n ≡ suc k → ⊥
zero_is n k e h = omega (arith, e, h)

word_of : (w : Whole) (arrivals : List Arrival) → w.joint.table ≡ rx_as w.joint.table [] (entries_of arrivals) → next_word w ≡ value_read (rx_as w.joint.table [] (entries_of arrivals)) grxstsp
word_of w arrivals e = ap (λ t. value_read t grxstsp) e

-- of a SETUP nothing is asked, and of a packet of endpoint 0
place_of : (a : Arrival) (arrivals : List Arrival) (w : Whole) (p : Port) (q : Pipes) → Holds w.joint w.rings p q (a ∷ arrivals)
    → (n : ℕ) → kind_of (next_word w) ≡ out_data → number_of (next_word w) ≡ suc n → HasPlace w (suc n) (byte_count (next_word w))
place_of (Request bytes) arrivals w p q h n kind number =
    absurd (not_data n (sym (ap kind_of (word_of w (Request bytes ∷ arrivals) (lies_as w.joint w.rings p q (Request bytes ∷ arrivals) h))) ∙ kind))
place_of (Packet m toggle bytes) arrivals w p q h n kind number =
    let all : AreFew FS4.out_eps (Packet m toggle bytes ∷ arrivals) = subst (λ xs. AreFew FS4.out_eps xs) h.are h.zero.stands.rx.all in
    let is = All-head (IsArrival FS4.out_eps) (Packet m toggle bytes) arrivals all.all in
    let lies = lies_as w.joint w.rings p q (Packet m toggle bytes ∷ arrivals) h in
    let word = word_of w (Packet m toggle bytes ∷ arrivals) lies in
    let out : PacketOut (rx_as w.joint.table [] []) [] m toggle bytes arrivals = packet_comes (rx_as w.joint.table [] []) [] m toggle bytes arrivals (below m is.0) is.1 is.2 in
    let same : m ≡ suc n = sym (ap number_of word ∙ out.data_out.number_is) ∙ number in
    let count : byte_count (next_word w) ≡ length bytes = ap byte_count word ∙ count_of (status_word m (length bytes) (pid_of toggle) 2) (length bytes) out.data_out.count_is is.1 in
    subst (λ k. HasPlace w (suc n) k) (sym count)
    (of_pipe w.joint.table w.joint.software w.rings q n toggle bytes arrivals (subst (λ k. k ≤ 3) same is.0)
    (subst (λ k. All (IsArrival FS4.out_eps) (Packet k toggle bytes ∷ arrivals)) same all.all)
    (subst (λ k. PipesStand FS4 (rx_as w.joint.table [] (entries_of (Packet k toggle bytes ∷ arrivals))) w.joint.software w.rings q) same (subst (λ x. PipesStand FS4 x w.joint.software w.rings q) lies h.pipes)))
  where
    below : (n : ℕ) → n ≤ 3 → n < 16
    below n h = omega (arith, h)

    within : (n : ℕ) → suc n ≤ 3 → n < 3
    within n h = omega (arith, h)

    of_pipe : (t : Table) (s : Software) (r : Rings) (q : Pipes) (n : ℕ) (toggle : Toggle) (bytes : List ℕ) (arrivals : List Arrival) → suc n ≤ 3 → All (IsArrival FS4.out_eps) (Packet (suc n) toggle bytes ∷ arrivals)
        → PipesStand FS4 (rx_as t [] (entries_of (Packet (suc n) toggle bytes ∷ arrivals))) s r q → HasPlace (record { joint = record { table = t; software = s }; rings = r }) (suc n) (length bytes)
    of_pipe t s r q n toggle bytes arrivals few all ps =
        let now : Table = rx_as t [] (entries_of (Packet (suc n) toggle bytes ∷ arrivals)) in
        let it : Landed = record { toggle = toggle; bytes = bytes } in
        let kept : OutEndpoint = out_kept s (suc n) in
        let part : OutPipePart now s r q n = ps.outs n (within n few) in
        let lie : packets_at (suc n) now.rx.entries ≡ it ∷ landed_on (suc n) arrivals = lies_are t [] (Packet (suc n) toggle bytes ∷ arrivals) (suc n) all ∙ own_first n toggle bytes arrivals in
        let stands : OutStands (suc n) (out_end now (suc n)) kept (it ∷ landed_on (suc n) arrivals) (out_ring r (suc n)) =
        subst (λ xs. OutStands (suc n) (out_end now (suc n)) kept xs (out_ring r (suc n))) lie part.stands in
        record { known = few; room = λ over. out_move_fits (suc n) (out_end now (suc n)) kept it (landed_on (suc n) arrivals) (out_ring r (suc n)) stands over }

abbrev by_status : Bool → Whole → Whole
by_status b w = if b then word_read w else arrival_taken (word_read w) (next_word w)

goes_by : (arrivals : List Arrival) (w : Whole) (p : Port) (q : Pipes) → Holds w.joint w.rings p q arrivals → (next_word w == 0) ≡ false → Goes w
unfolding arrivals_taken
goes_by [] w p q h e = never true (sym (ap (λ t. value_read t grxstsp == 0) (lies_as w.joint w.rings p q [] h)) ∙ e) refl
goes_by (a ∷ arrivals) w p q h e =
    let n = next_for out_move a arrivals w.joint w.rings p q h.zero.stands.rest.out_ends h in
    let is : arrival_taken (word_read w) (next_word w) ≡ n.after = sym (ap (λ b. by_status b w) e) ∙ n.step 0 in
    record {
      place = place_of a arrivals w p q h;
      next = subst Standing (sym is) (record { port = zero_step p a; pipes = pipe_step q a; zero = n.holds.zero; stand = n.holds.pipes });
    }

-- where something lies there, it has its place, and what is left when it is taken stands
pub goes : (w : Whole) → Standing w → (next_word w == 0) ≡ false → Goes w
goes w s e = goes_by s.zero.stands.rx.arrivals w s.port s.pipes (record { zero = s.zero; are = refl; pipes = s.stand }) e
