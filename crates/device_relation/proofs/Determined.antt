-- Controller and software stand for one device alone.
use Rattle.std.proofs.Common.{◌≡◌, ℕ, List, [], ◌∷◌, Bool, true, false, refl, ap, sym, ◌∙◌}
use Rattle.device_machine.specs.declared.control.Side.{Side}
use Rattle.device_machine.specs.declared.control.Side.TheVariants.{Off, Wait}
use Rattle.device_machine.specs.Bus.{Bus}
use Rattle.dwc2_regs.specs.declared.access.TheConstants.{FS4}
use Rattle.dwc2_fifo.specs.Tx.{Tx}
use Rattle.device_table.specs.State.{Table}
use Rattle.device_relation.specs.declared.software.Ready.{Ready}
use Rattle.device_relation.specs.declared.software.Ready.TheVariants as ready
use Rattle.device_arrivals.specs.Arrivals.{setups_in}
use Rattle.device_relation.specs.Software.{Software}
use Rattle.device_relation.specs.Relation.{abstract, Stands, Pair, off_off, wait_wait, loaded_loaded, loaded_sent, last_last, last_armed, armed_armed, last_came, armed_came}
use Rattle.device_relation.specs.Relation.{stall_stall, loaded_off, last_off, armed_off, stall_off, side_of, side_ready, side_with, packet_in, packet_of, packets_of}
use Rattle.device_relation.specs.Relation.{loaded_bytes, is_loaded, is_armed, is_stalled, some_lie, is_taken, is_seen, toggle_of, loaded_if, last_if, armed_if, stalled_if}
use Rattle.device_relation.proofs.Entries.{came_of, setups_in-is, packet_in-is}

packet_of-packets_of : (bytes : List ℕ) → packet_of (packets_of bytes) ≡ bytes
packet_of-packets_of [] = refl
packet_of-packets_of (byte ∷ bytes) = refl

-- what endpoint 0 holds, by the bits that the parts fix
ready_by : Ready → (xfrc enabled armed stall : Bool) → List ℕ → Side
ready_by ready.Off x e a s p = Off
ready_by (ready.Wait packet last) x e a s p = Wait packet last
ready_by ready.Loaded x e a s p = loaded_if x e p
ready_by ready.Last x e a s p = last_if x e a p
ready_by ready.Armed x e a s p = armed_if a
ready_by ready.Stall x e a s p = stalled_if s

paired : {x : Bool} {r : Ready} {side : Side} → Pair x r side
    → side_with (came_of side) (ready_by r x (is_loaded side) (is_armed side) (is_stalled side) (loaded_bytes side)) ≡ side
unfolding ready_by
paired off_off = refl
paired wait_wait = refl
paired loaded_loaded = refl
paired loaded_sent = refl
paired last_last = refl
paired last_armed = refl
paired armed_armed = refl
paired last_came = refl
paired armed_came = refl
paired stall_stall = refl
paired loaded_off = refl
paired (last_off {x = true}) = refl
paired (last_off {x = false}) = refl
paired armed_off = refl
paired stall_off = refl

-- the side, where the bits are these
side_at : (t : Table) (r : Ready) → side_with (packet_in t.rx.entries) (ready_by r t.in0.xfrc t.in0.control.enabled t.out0.control.enabled t.in0.control.stall (packet_of t.in0.fifo.packets)) ≡ side_with (packet_in t.rx.entries) (side_ready t r)
unfolding ready_by
side_at t ready.Off = refl
side_at t (ready.Wait packet last) = refl
side_at t ready.Loaded = refl
side_at t ready.Last = refl
side_at t ready.Armed = refl
side_at t ready.Stall = refl

side_is : (t : Table) (s : Software) (m : Bus) → Stands FS4 t s m → side_of t s ≡ m.side
side_is t s m st =
    let front : packet_in t.rx.entries ≡ came_of m.side = packet_in-is t.rx t.core.unserved m.side m.unserved st.rx in
    let holds : packet_of t.in0.fifo.packets ≡ loaded_bytes m.side = ap (λ (tx : Tx). packet_of tx.packets) st.ins.holds ∙ packet_of-packets_of (loaded_bytes m.side) in
    sym (side_at t s.side)
    ∙ ap (λ x. side_with x (ready_by s.side t.in0.xfrc t.in0.control.enabled t.out0.control.enabled t.in0.control.stall (packet_of t.in0.fifo.packets))) front
    ∙ ap (λ x. side_with (came_of m.side) (ready_by s.side t.in0.xfrc x t.out0.control.enabled t.in0.control.stall (packet_of t.in0.fifo.packets))) st.ins.enabled
    ∙ ap (λ x. side_with (came_of m.side) (ready_by s.side t.in0.xfrc (is_loaded m.side) x t.in0.control.stall (packet_of t.in0.fifo.packets))) st.outs.enabled
    ∙ ap (λ x. side_with (came_of m.side) (ready_by s.side t.in0.xfrc (is_loaded m.side) (is_armed m.side) x (packet_of t.in0.fifo.packets))) st.ins.stall
    ∙ ap (λ x. side_with (came_of m.side) (ready_by s.side t.in0.xfrc (is_loaded m.side) (is_armed m.side) (is_stalled m.side) x)) holds
    ∙ paired st.pair

bus_eq : (x y : Bus) → x.awake ≡ y.awake → x.reset ≡ y.reset → x.address ≡ y.address → x.unserved ≡ y.unserved → x.side ≡ y.side → x.taken ≡ y.taken → x.toggle ≡ y.toggle → x ≡ y
bus_eq x y a b c e f g h =
    ap (λ v. record x { awake = v }) a
    ∙ ap (λ v. record x { awake = y.awake; reset = v }) b
    ∙ ap (λ v. record x { awake = y.awake; reset = y.reset; address = v }) c
    ∙ ap (λ v. record x { awake = y.awake; reset = y.reset; address = y.address; unserved = v }) e
    ∙ ap (λ v. record x { awake = y.awake; reset = y.reset; address = y.address; unserved = y.unserved; side = v }) f
    ∙ ap (λ v. record x { awake = y.awake; reset = y.reset; address = y.address; unserved = y.unserved; side = y.side; taken = v }) g
    ∙ ap (λ v. record x { awake = y.awake; reset = y.reset; address = y.address; unserved = y.unserved; side = y.side; taken = y.taken; toggle = v }) h

pub determined : (t : Table) (s : Software) (m : Bus) → Stands FS4 t s m → abstract (record { table = t; software = s }) ≡ m
determined t s m st =
    let setups : setups_in t.rx.entries ≡ m.unserved = setups_in-is t.rx t.core.unserved m.side m.unserved st.rx in
    let side = side_is t s m st in
    bus_eq (abstract (record { table = t; software = s })) m (sym st.core.awake) (sym st.core.reset) (sym st.core.address) setups side
    (ap (λ us. is_taken (some_lie us) s.heard (side_of t s)) setups ∙ ap (λ x. is_taken (some_lie m.unserved) s.heard x) side ∙ sym st.side.taken_is)
    (ap (λ us. toggle_of (is_seen (some_lie us) s.heard) t.in0.toggle) setups ∙ sym st.side.toggle_is)
