-- What a class does to its rings keeps controller, software and rings in agreement.
use Rattle.std.proofs.Common.{◌≡◌, [], ℕ, zero, suc, ◌+◌, ◌-◌, ◌<◌, ◌≤◌, List, inl, inr, take, length, min, true, false, true≢false, refl, ap, sym, ◌∙◌, arith, subst}
use Rattle.std.specs.Prelude.{nat_le, nat_lt, slice_index, if◌then◌else◌}
use Rattle.std.proofs.lemmas.Bool.Decides.{nat_tests}
use Rattle.std.proofs.Math.Nat.{min_comm}
use Rattle.std.proofs.lemmas.List.{take_min}
use Rattle.usb_ring.specs.Ring.{room, appended, without_first}
use Rattle.dwc2_regs.specs.declared.access.TheConstants.{FS4}
use Rattle.device_pipe.specs.InPipe.{is_closed}
use Rattle.device_rings.specs.Rings.{Rings, out_ring, in_ring, with_out_ring, with_in_ring, is_in, ring_at, with_ring_at}
use Rattle.endpoint_relation.specs.declared.in_.InState.{InState}
use Rattle.endpoint_relation.specs.declared.in_.InState.TheVariants as in_state
use Rattle.endpoint_relation.specs.InRelation.{in_phase}
use Rattle.device_relation.specs.Software.{Joint, out_kept, in_kept}
use Rattle.device_relation.specs.PipeRelation.{IsSound}
use Rattle.device_relation.specs.Port.{port_of}
use Rattle.device_relation.specs.Run.{Whole, run_read_out, run_write_in}
use Rattle.device_relation.proofs.Runs.{ended, itself}
use Rattle.device_relation.proofs.OutPipeCalls.{read_out_for}
use Rattle.device_relation.proofs.InPipeCalls.{write_in_for}
use Rattle.endpoint_relation.specs.OutRelation.{is_open}
use Rattle.usb_packet.specs.declared.bus.BusEvent.{BusEvent}
use Rattle.device_table.specs.State.{Table}
use Rattle.device_table.specs.Bank.{Bank}
use Rattle.device_table.specs.Bus as table
use Rattle.device_relation.specs.Laws as relation
use Rattle.dwc2_device.specs.Driver.{Driver, joint}
use Rattle.dwc2_device.specs.Calls.{is_in_open, is_open_at}

abbrev whole_of : Joint → Rings → Whole
whole_of j r = record { joint = j; rings = r }

low : (n : ℕ) → n ≤ 3 → is_in n ≡ false
low n h = grind (arith, nat_tests)

high : (a : ℕ) → 128 ≤ a → is_in a ≡ true
high a h = grind (arith, nat_tests)

-- what is read leaves the ring
read_by : (j : Joint) (r : Rings) (n k : ℕ) → IsSound FS4 j r → 1 ≤ n → n ≤ 3 → IsSound FS4 j (with_out_ring r n (without_first (out_ring r n) k))
read_by j r zero k s from to = absurd (omega (arith, from))
read_by j r (suc m) k s from to =
    (ended j (with_out_ring r (suc m) (without_first (out_ring r (suc m)) k)) _ (read_out_for (whole_of j r) (port_of j r) m k (omega (arith, to)) (itself j r s))).sound

pub read_sound : (j : Joint) (r : Rings) (n k : ℕ) → IsSound FS4 j r → 1 ≤ n → n ≤ 3 → IsSound FS4 j (with_ring_at r n (without_first (ring_at r n) k))
read_sound j r n k s from to =
    subst (λ b. IsSound FS4 j (if b then with_in_ring r (n - 128) (without_first (if b then in_ring r (n - 128) else out_ring r n) k) else with_out_ring r n (without_first (if b then in_ring r (n - 128) else out_ring r n) k)))
    (sym (low n to)) (read_by j r n k s from to)

-- what is written comes behind what the ring holds
open_phase : (state : InState) (n : ℕ) (left : List (List ℕ)) → is_in_open state ≡ true → is_closed (in_phase state n left) ≡ false
open_phase in_state.Closed n left e = absurd (true≢false (sym e))
open_phase in_state.Rest n left e = refl
open_phase in_state.Running n left e = refl
open_phase in_state.Posted n left e = refl

written_by : (j : Joint) (r : Rings) (n k : ℕ) (bytes : List ℕ) → IsSound FS4 j r → 1 ≤ n → n ≤ 3 → is_in_open (in_kept j.software n).state ≡ true → take k bytes ≡ take (room (in_ring r n)) bytes
    → ((i : ℕ) → slice_index bytes i < 256) → IsSound FS4 j (with_in_ring r n (appended (in_ring r n) (take k bytes)))
written_by j r zero k bytes s from to op e below = absurd (omega (arith, from))
written_by j r (suc m) k bytes s from to op e below =
    subst (λ xs. IsSound FS4 j (with_in_ring r (suc m) (appended (in_ring r (suc m)) xs))) (sym e)
    (ended j (with_in_ring r (suc m) (appended (in_ring r (suc m)) (take (room (in_ring r (suc m))) bytes))) _
    (write_in_for (whole_of j r) (port_of j r) m bytes (omega (arith, to)) below (open_phase (in_kept j.software (suc m)).state _ _ op) (itself j r s))).sound

as_many : (xs : List ℕ) (n k : ℕ) → k ≡ min (length xs) n → take k xs ≡ take n xs
as_many xs n k e = ap (λ m. take m xs) (e ∙ min_comm (length xs) n) ∙ take_min n xs

pub write_sound : (j : Joint) (r : Rings) (a k : ℕ) (bytes : List ℕ) → IsSound FS4 j r → 129 ≤ a → a ≤ 131 → is_open_at j.software a ≡ true → k ≡ min (length bytes) (room (ring_at r a))
    → ((i : ℕ) → slice_index bytes i < 256) → IsSound FS4 j (with_ring_at r a (appended (ring_at r a) (take k bytes)))
write_sound j r a k bytes s from to op e below =
    let is : is_in a ≡ true = high a (omega (arith, from)) in
    let some : k ≡ min (length bytes) (room (in_ring r (a - 128))) = e ∙ ap (λ b. min (length bytes) (room (if b then in_ring r (a - 128) else out_ring r a))) is in
    let state : is_in_open (in_kept j.software (a - 128)).state ≡ true =
    sym (ap (λ b. if b then is_open (out_kept j.software a).state else is_in_open (in_kept j.software (a - 128)).state) (above a (omega (arith, from)))) ∙ op in
    subst (λ b. IsSound FS4 j (if b then with_in_ring r (a - 128) (appended (if b then in_ring r (a - 128) else out_ring r a) (take k bytes)) else with_out_ring r a (appended (if b then in_ring r (a - 128) else out_ring r a) (take k bytes))))
    (sym is) (written_by j r (a - 128) k bytes s (omega (arith, from)) (omega (arith, to)) state (as_many bytes (room (in_ring r (a - 128))) k some) below)
  where
    above : (a : ℕ) → 128 ≤ a → nat_lt a 128 ≡ false
    above a h = grind (arith, nat_tests)

-- the ring of an IN endpoint's address
pub in_at : (r : Rings) (n : ℕ) → ring_at r (n + 128) ≡ in_ring r n
in_at r n =
    ap (λ b. if b then in_ring r (n + 128 - 128) else out_ring r (n + 128)) (high (n + 128) (omega arith)) ∙ ap (in_ring r) (number n)
  where
    number : (n : ℕ) → n + 128 - 128 ≡ n
    number n = omega arith

-- a bus event moves the controller's table alone
pub event_sound : (d : Driver) (lent new : Bank) (r : Rings) (e : BusEvent) → relation.Keeps FS4 (joint d) r e → lent ≡ d.bank → new ≡ record lent { table = table.after_bus lent.table e } → d.bank.due ≡ []
    → IsSound FS4 (joint (record d { bank = new })) r × (new.due ≡ [])
event_sound d lent new r e k same after still =
    let t : new.table ≡ table.after_bus d.bank.table e = ap (λ (b : Bank). b.table) after ∙ ap (λ (b : Bank). table.after_bus b.table e) same in
    (subst (λ (x : Table). IsSound FS4 (record { table = x; software = d.software }) r) (sym t) k.sound, ap (λ (b : Bank). b.due) after ∙ ap (λ (b : Bank). b.due) same ∙ still)

-- so does beginning to count accesses anew, which leaves the table
pub begun_sound : (d : Driver) (new : Bank) (r : Rings) → new.table ≡ d.bank.table → IsSound FS4 (joint d) r → IsSound FS4 (joint (record d { bank = new })) r
begun_sound d new r e s = subst (λ (x : Table). IsSound FS4 (record { table = x; software = d.software }) r) (sym e) s
