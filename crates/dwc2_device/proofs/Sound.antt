-- Controller, software and rings agree after each call.
use Rattle.std.proofs.Common.{◌≡◌, ℕ, zero, suc, ◌+◌, ◌-◌, ◌<◌, ◌≤◌, List, length, inl, inr, Bool, true, false, true≢false, refl, ap, sym, ◌∙◌, arith, subst}
use Rattle.std.specs.Prelude.{IsTrue, nat_lt, if◌then◌else◌}
use Rattle.std.proofs.lemmas.Bool.Decides.{nat_tests}
use Rattle.usb_descriptor.specs.declared.endpoint.Endpoint.{Endpoint}
use Rattle.usb_descriptor.specs.Set.{is_core}
use Rattle.dwc2_regs.specs.declared.access.TheConstants.{FS4}
use Rattle.device_machine.specs.Bus.{unconfigured}
use Rattle.device_pipe.specs.InPipe.{is_closed}
use Rattle.device_rings.specs.Rings.{Rings, out_ring, in_ring, with_out_ring, with_in_ring, emptied}
use Rattle.endpoint_relation.specs.declared.out_.OutState.{OutState}
use Rattle.endpoint_relation.specs.declared.out_.OutState.TheVariants as out_state
use Rattle.endpoint_relation.specs.declared.in_.InState.{InState}
use Rattle.endpoint_relation.specs.declared.in_.InState.TheVariants as in_state
use Rattle.endpoint_relation.specs.OutRelation.{is_open}
use Rattle.endpoint_relation.specs.OutSteps as out
use Rattle.endpoint_relation.specs.InRelation.{InJoint, InStands, Holds, in_phase}
use Rattle.endpoint_relation.specs.InSteps.{software_opened, software_halted, software_cleared, software_dropped, ring_beyond}
use Rattle.endpoint_relation.specs.InLaws.{IsOpenIn, IsClosedIn}
use Rattle.endpoint_relation.proofs.InNext.{packet_count}
use Rattle.device_relation.specs.Software.{Software, Joint, out_kept, in_kept, with_out_kept, with_in_kept}
use Rattle.device_relation.specs.Relation.{IsPacket, abstract, side_of, was_heard}
use Rattle.device_relation.specs.PipeRelation.{IsSound, in_joint}
use Rattle.device_relation.specs.Port.{Port, AllStandFor, port_of, after_handler, may_start, started, armed as port_armed, stalled, addressed, with_endpoint, halted_at, cleared_at, armed_at, started_at, dropped_at}
use Rattle.device_relation.specs.Run.{Whole, in_joint_of, run, run_start, run_arm, run_stall, run_address, run_open_out, run_open_in, run_halt_out, run_halt_in, run_clear_out, run_clear_in, run_drop_out, run_drop_in, run_arm_out, run_start_in}
use Rattle.device_relation.specs.Laws.{at_start, AreEmpty}
use Rattle.device_relation.proofs.Events.{starts}
use Rattle.device_relation.proofs.Runs.{Ends, ended, ends, itself, run_for}
use Rattle.device_relation.proofs.ZeroCalls.{start_for_all, arm_for_all, stall_for_all, address_for_all}
use Rattle.device_relation.proofs.OutPipeCalls.{open_out_for, halt_out_for, clear_out_for, arm_out_for, drop_out_for}
use Rattle.device_relation.proofs.InPipeCalls.{open_in_for, halt_in_for, clear_in_for, start_in_for, drop_in_for}
use Rattle.device_relation.proofs.CallWrites.{out_call_writes, in_call_writes}
use Rattle.dwc2_device.specs.Keeps.{Keeps}
use Rattle.dwc2_device.specs.Calls.{IsNumbered, is_open_at, is_in_open}
use Rattle.dwc2_device.specs.Writes.{opens_out, arms_out, halts_out, clears_out, opens_in, halts_in, clears_in, drops_in, begins}

ends_whole : (new w : Whole) (p : Port) → new ≡ w → AllStandFor FS4 w.joint w.rings p → Ends new.joint new.rings p
ends_whole new w p e a = subst (λ (x : Whole). Ends x.joint x.rings p) (sym e) (ended w.joint w.rings p a)

-- what a handler run leaves
pub run_ends : (old new : Whole) → IsSound FS4 old.joint old.rings → new ≡ run FS4 old → Ends new.joint new.rings (after_handler (port_of old.joint old.rings))
run_ends old new st e = ends_whole new (run FS4 old) (after_handler (port_of old.joint old.rings)) e (run_for old.joint old.rings (port_of old.joint old.rings) (itself old.joint old.rings st))

-- a call that isn't handed the rings
keep : (f : Port → Port) (old new j : Joint) → new ≡ j → ((r : Rings) → IsSound FS4 old r → AllStandFor FS4 j r (f (port_of old r))) → Keeps f old new
keep f old new j e h r s = let x : Ends new r (f (port_of old r)) = ends new j r (f (port_of old r)) e (h r s) in (x.sound, x.port)

-- a driver at its start, over a controller in the opened state
pub start_is_sound : (new : Joint) → new ≡ at_start FS4 → (r : Rings) → AreEmpty FS4 r → IsSound FS4 new r
start_is_sound new e r h = subst (λ j. IsSound FS4 j r) (sym e) (starts r h).sound

pub start_is_device : (new : Joint) → new ≡ at_start FS4 → abstract new ≡ unconfigured false
start_is_device new e = ap abstract e ∙ refl

-- Endpoint 0.

abbrev MayStart : Joint → Type 0
MayStart j = IsTrue (may_start (side_of j.table j.software))

abbrev WasHeard : Joint → Type 0
WasHeard j = was_heard j.software.heard ≡ true

pub start_keeps : (old new : Joint) (packet : List ℕ) (last : Bool) → MayStart old → WasHeard old → IsPacket packet → new ≡ run_start old packet last
    → Keeps (λ port. started port packet last) old new
start_keeps old new packet last may hears is e =
    keep (λ port. started port packet last) old new (run_start old packet last) e (λ r s. start_for_all old r (port_of old r) packet last (itself old r s) may hears is)

pub arm_keeps : (old new : Joint) → MayStart old → WasHeard old → new ≡ run_arm old → Keeps port_armed old new
arm_keeps old new may hears e = keep port_armed old new (run_arm old) e (λ r s. arm_for_all old r (port_of old r) (itself old r s) may hears)

pub stall_keeps : (old new : Joint) → MayStart old → new ≡ run_stall old → Keeps stalled old new
stall_keeps old new may e = keep stalled old new (run_stall old) e (λ r s. stall_for_all old r (port_of old r) (itself old r s) may)

pub address_keeps : (old new : Joint) (n : ℕ) → n < 128 → new ≡ run_address old n → Keeps (λ port. addressed port n) old new
address_keeps old new n h e = keep (λ port. addressed port n) old new (run_address old n) e (λ r s. address_for_all old r (port_of old r) n (itself old r s) h)

-- The other endpoints, by number.

small : (m : ℕ) → suc m ≤ 3 → m < 3
small m h = omega (arith, h)

never : {A : Type 0} → 1 ≤ 0 → A
never h = absurd (omega (arith, h))

is_true : (b : Bool) → b ≡ true → IsTrue b
is_true b e = e

closed_out : (state : OutState) → is_open state ≡ false → state ≡ out_state.Closed
closed_out out_state.Closed e = refl
closed_out out_state.Rest e = absurd (true≢false e)
closed_out out_state.Armed e = absurd (true≢false e)
closed_out out_state.Posted e = absurd (true≢false e)
closed_out out_state.Stale e = absurd (true≢false e)

open_phase : (state : InState) (n : ℕ) (left : List (List ℕ)) (b : Bool) → is_in_open state ≡ b → is_closed (in_phase state n left) ≡ (if b then false else true)
open_phase in_state.Closed n left b e = subst (λ x. true ≡ (if x then false else true)) e refl
open_phase in_state.Rest n left b e = subst (λ x. false ≡ (if x then false else true)) e refl
open_phase in_state.Running n left b e = subst (λ x. false ≡ (if x then false else true)) e refl
open_phase in_state.Posted n left b e = subst (λ x. false ≡ (if x then false else true)) e refl

opens_is : (j : InJoint) → is_in_open j.software.state ≡ true → IsOpenIn j
opens_is j e = open_phase j.software.state _ _ true e

closed_is : (j : InJoint) → is_in_open j.software.state ≡ false → IsClosedIn j
closed_is j e = open_phase j.software.state _ _ false e

-- whether the endpoint at an address is open
below : (a : ℕ) → a < 128 → nat_lt a 128 ≡ true
below a h = grind (arith, nat_tests)

above : (a : ℕ) → 128 ≤ a → nat_lt a 128 ≡ false
above a h = grind (arith, nat_tests)

pub open_at_out : (s : Software) (a : ℕ) → a < 128 → is_open_at s a ≡ is_open (out_kept s a).state
open_at_out s a h = ap (λ b. if b then is_open (out_kept s a).state else is_in_open (in_kept s (a - 128)).state) (below a h)

pub open_at_in : (s : Software) (a : ℕ) → 128 ≤ a → is_open_at s a ≡ is_in_open (in_kept s (a - 128)).state
open_at_in s a h = ap (λ b. if b then is_open (out_kept s a).state else is_in_open (in_kept s (a - 128)).state) (above a h)

pub ruleset addresses = (open_at_out, open_at_in)

-- OUT

pub open_out_keeps : (old new : Joint) (e : Endpoint) (n : ℕ) → n ≡ e.addr → 1 ≤ n → n ≤ 3 → 1 ≤ e.size → e.size ≤ 64 → is_open (out_kept old.software n).state ≡ false → new ≡ opens_out old e n
    → Keeps (λ port. with_endpoint port e) old new
open_out_keeps old new e zero is from to some most shut k r s = never from
open_out_keeps old new e (suc m) is from to some most shut k r s =
    let a = itself old r s in
    let w = out_call_writes old r (port_of old r) m (small m to) a in
    let X : ℕ → Software = λ n. with_out_kept old.software n (out.opened (out_kept old.software n) e) in
    let same : opens_out old e (suc m) ≡ run_open_out old e =
    ap (λ t. record { table = t; software = X (suc m) }) (sym (w.opens e (sym is))) ∙ ap (λ n. record { table = (run_open_out old e).table; software = X n }) is in
    let x : Ends new r (with_endpoint (port_of old r) e) =
    ends new (run_open_out old e) r (with_endpoint (port_of old r) e) (k ∙ same)
    (open_out_for old r (port_of old r) e m (small m to) (sym is) (closed_out (out_kept old.software (suc m)).state shut) some most a) in
    (x.sound, x.port)

pub halt_out_keeps : (old new : Joint) (n : ℕ) → 1 ≤ n → n ≤ 3 → is_open (out_kept old.software n).state ≡ true → new ≡ halts_out old n → Keeps (λ port. halted_at port n) old new
halt_out_keeps old new zero from to op e r s = never from
halt_out_keeps old new (suc m) from to op e r s =
    let a = itself old r s in
    let w = out_call_writes old r (port_of old r) m (small m to) a in
    let software = with_out_kept old.software (suc m) (out.halted (out_kept old.software (suc m))) in
    let same : halts_out old (suc m) ≡ run_halt_out old (suc m) = ap (λ t. record { table = t; software = software }) (sym w.halts) in
    let x : Ends new r (halted_at (port_of old r) (suc m)) =
    ends new (run_halt_out old (suc m)) r (halted_at (port_of old r) (suc m)) (e ∙ same) (halt_out_for old r (port_of old r) m (small m to) (is_true (is_open (out_kept old.software (suc m)).state) op) a) in
    (x.sound, x.port)

-- a call that is handed the rings
abbrev whole_of : Joint → Rings → Whole
whole_of j r = record { joint = j; rings = r }

pub clear_out_ends : (old new : Joint) (r : Rings) (n : ℕ) → IsSound FS4 old r → 1 ≤ n → n ≤ 3 → is_open (out_kept old.software n).state ≡ true → new ≡ clears_out old n
    → Ends new r (cleared_at (port_of old r) n)
clear_out_ends old new r zero s from to op e = never from
clear_out_ends old new r (suc m) s from to op e =
    let a = itself old r s in
    let w = out_call_writes old r (port_of old r) m (small m to) a in
    let software = with_out_kept old.software (suc m) (out.cleared (out_kept old.software (suc m))) in
    let same : clears_out old (suc m) ≡ run_clear_out old (suc m) = ap (λ t. record { table = t; software = software }) (sym w.clears) in
    ends new (run_clear_out old (suc m)) r (cleared_at (port_of old r) (suc m)) (e ∙ same) (clear_out_for old r (port_of old r) m (small m to) (is_true (is_open (out_kept old.software (suc m)).state) op) a)

pub drop_out_ends : (j : Joint) (r r' : Rings) (n : ℕ) → IsSound FS4 j r → 1 ≤ n → n ≤ 3 → r' ≡ with_out_ring r n (emptied (out_ring r n)) → Ends j r' (dropped_at (port_of j r) n)
drop_out_ends j r r' zero s from to e = never from
drop_out_ends j r r' (suc m) s from to e =
    ends_whole (whole_of j r') (run_drop_out (whole_of j r) (suc m)) (dropped_at (port_of j r) (suc m)) (ap (whole_of j) e) (drop_out_for (whole_of j r) (port_of j r) m (small m to) (itself j r s))

pub arm_out_ends : (old new : Joint) (r : Rings) (n : ℕ) → IsSound FS4 old r → 1 ≤ n → n ≤ 3 → (out_kept old.software n).state ≡ out_state.Rest → (out_kept old.software n).halted ≡ false
    → is_core (out_kept old.software n).endpoint.owner ≡ false → length (out_ring r n).bytes + (out_kept old.software n).endpoint.size ≤ (out_ring r n).capacity → new ≡ arms_out old n
    → Ends new r (armed_at (port_of old r) n)
arm_out_ends old new r zero s from to rests moves class room e = never from
arm_out_ends old new r (suc m) s from to rests moves class room e =
    let a = itself old r s in
    let w = out_call_writes old r (port_of old r) m (small m to) a in
    let software = with_out_kept old.software (suc m) (out.armed (out_kept old.software (suc m))) in
    let same : arms_out old (suc m) ≡ run_arm_out old (suc m) = ap (λ t. record { table = t; software = software }) (sym w.arms) in
    ends new (run_arm_out old (suc m)) r (armed_at (port_of old r) (suc m)) (e ∙ same) (arm_out_for old r (port_of old r) m (small m to) rests moves class room a)

-- IN

numbered : (address m : ℕ) → 129 ≤ address → suc m ≡ address - 128 → address ≡ 128 + suc m
numbered address m h e = omega (arith, h, e)

pub open_in_keeps : (old new : Joint) (e : Endpoint) (n : ℕ) → n ≡ e.addr - 128 → 129 ≤ e.addr → n ≤ 3 → 1 ≤ e.size → e.size ≤ 64 → is_in_open (in_kept old.software n).state ≡ false → new ≡ opens_in old e n
    → Keeps (λ port. with_endpoint port e) old new
open_in_keeps old new e zero is from to some most shut k r s = absurd (omega (arith, is, from))
open_in_keeps old new e (suc m) is from to some most shut k r s =
    let a = itself old r s in
    let w = in_call_writes (whole_of old r) (port_of old r) m (small m to) a in
    let software = with_in_kept old.software (suc m) (software_opened e) in
    let same : opens_in old e (suc m) ≡ run_open_in old e (suc m) = ap (λ t. record { table = t; software = software }) (sym (w.opens e)) in
    let x : Ends new r (with_endpoint (port_of old r) e) =
    ends new (run_open_in old e (suc m)) r (with_endpoint (port_of old r) e) (k ∙ same)
    (open_in_for old r (port_of old r) e m (small m to) (numbered e.addr m from is) (closed_is (in_joint old.table old.software r (suc m)) shut) (record { least = some; most = most }) a) in
    (x.sound, x.port)

pub halt_in_keeps : (old new : Joint) (address n : ℕ) → n ≡ address - 128 → 129 ≤ address → n ≤ 3 → is_in_open (in_kept old.software n).state ≡ true → new ≡ halts_in old n
    → Keeps (λ port. halted_at port address) old new
halt_in_keeps old new address zero is from to op e r s = absurd (omega (arith, is, from))
halt_in_keeps old new address (suc m) is from to op e r s =
    let a = itself old r s in
    let w = in_call_writes (whole_of old r) (port_of old r) m (small m to) a in
    let software = with_in_kept old.software (suc m) (software_halted (in_kept old.software (suc m))) in
    let same : halts_in old (suc m) ≡ run_halt_in old (suc m) = ap (λ t. record { table = t; software = software }) (sym w.halts) in
    let x : Ends new r (halted_at (port_of old r) address) =
    ends new (run_halt_in old (suc m)) r (halted_at (port_of old r) address) (e ∙ same)
    (halt_in_for old r (port_of old r) address m (small m to) (numbered address m from is) (opens_is (in_joint old.table old.software r (suc m)) op) a) in
    (x.sound, x.port)

pub clear_in_ends : (old new : Joint) (r r' : Rings) (address n : ℕ) → IsSound FS4 old r → n ≡ address - 128 → 129 ≤ address → n ≤ 3 → is_in_open (in_kept old.software n).state ≡ true → new ≡ clears_in old n
    → r' ≡ with_in_ring r n (record (in_ring r n) { bytes = ring_beyond (in_kept old.software n).state (in_kept old.software n).bytes (in_ring r n).bytes }) → Ends new r' (cleared_at (port_of old r) address)
clear_in_ends old new r r' address zero s is from to op e k = absurd (omega (arith, is, from))
clear_in_ends old new r r' address (suc m) s is from to op e k =
    let a = itself old r s in
    let w = in_call_writes (whole_of old r) (port_of old r) m (small m to) a in
    let software = with_in_kept old.software (suc m) (software_cleared (in_kept old.software (suc m))) in
    let after = run_clear_in (whole_of old r) (suc m) in
    ends_whole (whole_of new r') after (cleared_at (port_of old r) address)
    (ap (λ j. whole_of j r') (e ∙ ap (λ t. record { table = t; software = software }) (sym w.clears)) ∙ ap (λ x. whole_of after.joint x) k)
    (clear_in_for (whole_of old r) (port_of old r) address m (small m to) (numbered address m from is) (opens_is (in_joint_of (whole_of old r) (suc m)) op) a)

pub drop_in_ends : (old new : Joint) (r r' : Rings) (address n : ℕ) → IsSound FS4 old r → n ≡ address - 128 → 129 ≤ address → n ≤ 3 → is_in_open (in_kept old.software n).state ≡ true → new ≡ drops_in old n
    → r' ≡ with_in_ring r n (emptied (in_ring r n)) → Ends new r' (dropped_at (port_of old r) address)
drop_in_ends old new r r' address zero s is from to op e k = absurd (omega (arith, is, from))
drop_in_ends old new r r' address (suc m) s is from to op e k =
    let a = itself old r s in
    let w = in_call_writes (whole_of old r) (port_of old r) m (small m to) a in
    let software = with_in_kept old.software (suc m) (software_dropped (in_kept old.software (suc m))) in
    let after = run_drop_in (whole_of old r) (suc m) in
    ends_whole (whole_of new r') after (dropped_at (port_of old r) address)
    (ap (λ j. whole_of j r') (e ∙ ap (λ t. record { table = t; software = software }) (sym w.drops)) ∙ ap (λ x. whole_of after.joint x) k)
    (drop_in_for (whole_of old r) (port_of old r) address m (small m to) (numbered address m from is) (opens_is (in_joint_of (whole_of old r) (suc m)) op) a)

-- an endpoint at rest has a size
pub record Sized (e : Endpoint) : Type 0 where
  pub least : 1 ≤ e.size
  pub most : e.size ≤ 64

rest_sized : (j : InJoint) (number : ℕ) → InStands number j → j.software.state ≡ in_state.Rest → Sized j.software.endpoint
rest_sized j number st e = let h = subst (λ state. Holds state j.software j.ring) e st.holds in record { least = h.opened.least; most = h.opened.most }

pub in_stands : (j : Joint) (r : Rings) (n : ℕ) → IsSound FS4 j r → 1 ≤ n → n ≤ 3 → InStands n (in_joint_of (whole_of j r) n)
in_stands j r zero s from to = never from
in_stands j r (suc m) s from to = (s.pipes.ins m (small m to)).stands

pub sized : (j : Joint) (r : Rings) (n : ℕ) → IsSound FS4 j r → 1 ≤ n → n ≤ 3 → (in_kept j.software n).state ≡ in_state.Rest → Sized (in_kept j.software n).endpoint
sized j r n s from to e = rest_sized (in_joint_of (whole_of j r) n) n (in_stands j r n s from to) e

pub start_in_ends : (old new : Joint) (r : Rings) (n bytes : ℕ) → IsSound FS4 old r → 1 ≤ n → n ≤ 3 → (in_kept old.software n).state ≡ in_state.Rest → is_core (in_kept old.software n).endpoint.owner ≡ false
    → bytes ≡ length (in_ring r n).bytes → new ≡ begins old n bytes → Ends new r (started_at (port_of old r) n)
start_in_ends old new r zero bytes s from to rests class held e = never from
start_in_ends old new r (suc m) bytes s from to rests class held e =
    let kept = in_kept old.software (suc m) in
    let ring = (in_ring r (suc m)).bytes in
    let Made : ℕ → ℕ → Joint = λ n left. record old { software = with_in_kept old.software (suc m) (record kept { state = in_state.Running; bytes = n; sent = 0; left = left; loaded = 0 }) } in
    let count = packet_count kept.endpoint.size ring (sized old r (suc m) s from to rests).least in
    ends new (run_start_in old (suc m) ring) r (started_at (port_of old r) (suc m))
    (e ∙ ap (λ n. begins old (suc m) n) held ∙ ap (λ left. Made (length ring) left) (sym count))
    (start_in_for old r (port_of old r) m (small m to) rests class (itself old r s))

-- addresses by direction

pub record IsOut (a : ℕ) : Type 0 where
  pub from : 1 ≤ a
  pub to : a ≤ 3

pub is_out : (a : ℕ) → IsNumbered a → a < 128 → IsOut a
is_out a (inl h) k = record { from = h.0; to = h.1 }
is_out a (inr h) k = absurd (omega (arith, h.0, k))

pub record IsIn (a : ℕ) : Type 0 where
  pub from : 129 ≤ a
  pub to : a - 128 ≤ 3

pub is_in : (a : ℕ) → IsNumbered a → 128 ≤ a → IsIn a
is_in a (inl h) k = absurd (omega (arith, h.1, k))
is_in a (inr h) k = record { from = h.0; to = omega (arith, h.1) }
