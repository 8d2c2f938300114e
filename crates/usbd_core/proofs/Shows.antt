-- What the driver keeps of an endpoint shows what its pipe shows, and what each call of a class makes of it.
use Rattle.std.proofs.Common.{◌≡◌, ◌≢◌, ℕ, zero, suc, ◌+◌, ◌-◌, ◌<◌, ◌≤◌, List, [], ◌∷◌, ◌++◌, length, take, drop, min, inl, inr, Bool, true, false, true≢false, refl, ap, sym, ◌∙◌, arith, subst}
use Rattle.std.specs.Prelude.{nat_lt, nat_le, not, if◌then◌else◌, slice_index, IsTrue}
use Rattle.std.proofs.lemmas.Bool.Decides.{nat_tests}
use Rattle.std.proofs.lemmas.List.{get_or_past, take_min, drop_min, length-take}
use Rattle.usb_descriptor.specs.declared.endpoint.Endpoint.{Endpoint}
use Rattle.usb_descriptor.specs.Set.{is_core}
use Rattle.usb_pipe.specs.declared.phase.Phase.{Phase}
use Rattle.usb_pipe.specs.declared.phase.Phase.TheVariants as phase
use Rattle.usb_pipe.specs.Own.{out_phase, in_phase as shown_phase, unless_halted, packet_room}
use Rattle.usb_ring.specs.Ring.{Ring, room, appended, without_first}
use Rattle.device_pipe.specs.InPipe.{is_closed}
use Rattle.device_arrivals.specs.Arrivals.{Landed}
use Rattle.device_machine.specs.Pipes.{Pipes, OutSlot, InSlot, out_slot, in_slot, is_out_open, in_hears}
use Rattle.device_rings.specs.Rings.{Rings, out_ring, in_ring, with_out_ring, with_in_ring, ring_at, with_ring_at}
use Rattle.endpoint_relation.specs.declared.out_.OutState.{OutState}
use Rattle.endpoint_relation.specs.declared.out_.OutState.TheVariants as out_state
use Rattle.endpoint_relation.specs.declared.out_.OutEndpoint.{OutEndpoint}
use Rattle.endpoint_relation.specs.OutRelation.{phase_of, not_open, is_open}
use Rattle.endpoint_relation.specs.declared.in_.InState.{InState}
use Rattle.endpoint_relation.specs.declared.in_.InState.TheVariants as in_state
use Rattle.endpoint_relation.specs.declared.in_.InEndpoint.{InEndpoint}
use Rattle.endpoint_relation.specs.InRelation.{in_phase, in_unused, Holds}
use Rattle.dwc2_regs.specs.declared.access.TheConstants.{FS4}
use Rattle.device_relation.specs.Software.{Joint, out_kept, in_kept}
use Rattle.device_relation.specs.PipeRelation.{IsSound, pipes_of}
use Rattle.device_relation.specs.Port.{port_of, read_at, written_at}
use Rattle.device_relation.specs.Run.{Whole, run_read_out, run_write_in}
use Rattle.device_relation.proofs.Runs.{Ends, ended, itself}
use Rattle.device_relation.proofs.OutPipeCalls.{read_out_for}
use Rattle.device_relation.proofs.InPipeCalls.{write_in_for}
use Rattle.device_rings.specs.Sizes.{ring_size}
use Rattle.dwc2_device.specs.Calls.{IsNumbered, is_open_at}
use Rattle.dwc2_device.proofs.Shut.{open_at_is}
use Rattle.usbd_core.specs.Shown.{IsSender, IsReceiver, out_state_phase, in_state_phase, out_kept_shown, in_kept_shown, out_shown, in_shown}

few : (m : ℕ) → nat_lt m 3 ≡ true → m < 3
few m e = grind (arith, nat_tests)

many : (m : ℕ) → nat_lt m 3 ≡ false → 3 ≤ m
many m e = grind (arith, nat_tests)

past : (n m : ℕ) → n ≡ 3 → 3 ≤ m → n ≤ m
past n m e h = omega (arith, e, h)

within : (m : ℕ) → suc m ≤ 3 → m < 3
within m h = omega (arith, h)

-- OUT

out_state_shows : (state : OutState) (over : Bool) (lies : List Landed) → out_state_phase state ≡ out_phase (phase_of state over lies)
out_state_shows out_state.Closed over lies = refl
out_state_shows out_state.Rest over lies = refl
out_state_shows out_state.Armed over [] = refl
out_state_shows out_state.Armed over (x ∷ xs) = refl
out_state_shows out_state.Posted over lies = refl
out_state_shows out_state.Stale over lies = refl

pub out_shows : (j : Joint) (r : Rings) (n : ℕ) → IsSound FS4 j r → out_kept_shown (out_kept j.software n) ≡ out_shown (out_slot (pipes_of j r) n)
out_shows j r zero s = refl
out_shows j r (suc m) s = by (nat_lt m 3) refl
  where
    by : (b : Bool) → nat_lt m 3 ≡ b → out_kept_shown (out_kept j.software (suc m)) ≡ out_shown (out_slot (pipes_of j r) (suc m))
    by true k =
        ap (unless_halted (out_kept j.software (suc m)).halted) (out_state_shows (out_kept j.software (suc m)).state _ _)
        ∙ sym (ap out_shown (s.pipes.outs m (few m k)).slot)
    by false k =
        ap out_kept_shown (get_or_past j.software.outs m (not_open false) (past (length j.software.outs) m s.pipes.out_kepts (many m k)))
        ∙ sym (ap out_shown (s.pipes.out_beyond m (many m k)))

-- IN

in_state_shows : (state : InState) (n : ℕ) (left : List (List ℕ)) → in_state_phase state ≡ shown_phase (in_phase state n left)
in_state_shows in_state.Closed n left = refl
in_state_shows in_state.Rest n left = refl
in_state_shows in_state.Running n left = refl
in_state_shows in_state.Posted n left = refl

pub in_shows : (j : Joint) (r : Rings) (n : ℕ) → IsSound FS4 j r → in_kept_shown (in_kept j.software n) ≡ in_shown (in_slot (pipes_of j r) n)
in_shows j r zero s = refl
in_shows j r (suc m) s = by (nat_lt m 3) refl
  where
    by : (b : Bool) → nat_lt m 3 ≡ b → in_kept_shown (in_kept j.software (suc m)) ≡ in_shown (in_slot (pipes_of j r) (suc m))
    by true k =
        ap (unless_halted (in_kept j.software (suc m)).halted) (in_state_shows (in_kept j.software (suc m)).state _ _)
        ∙ sym (ap in_shown (s.pipes.ins m (few m k)).slot)
    by false k =
        ap in_kept_shown (get_or_past j.software.ins m in_unused (past (length j.software.ins) m s.pipes.in_kepts (many m k)))
        ∙ sym (ap in_shown (s.pipes.in_beyond m (many m k)))

-- What a pipe holds lies in its ring.

pub out_held : (j : Joint) (r : Rings) (n : ℕ) → IsSound FS4 j r → n ≤ 3 → (out_slot (pipes_of j r) n).pipe.held ≡ (out_ring r n).bytes
out_held j r zero s to = refl
out_held j r (suc m) s to = ap (λ (x : OutSlot). x.pipe.held) (s.pipes.outs m (within m to)).slot

pub in_queued : (j : Joint) (r : Rings) (n : ℕ) → IsSound FS4 j r → n ≤ 3 → (in_slot (pipes_of j r) n).pipe.queue ≡ (in_ring r n).bytes
in_queued j r zero s to = refl
in_queued j r (suc m) s to = ap (λ (x : InSlot). x.pipe.queue) (s.pipes.ins m (within m to)).slot

-- one that is open has a number
pub out_from : (p : Pipes) (n : ℕ) → is_out_open (out_slot p n).pipe.phase ≡ true → 1 ≤ n
out_from p zero e = absurd (true≢false (sym e))
out_from p (suc m) e = omega arith

pub in_from : (p : Pipes) (n : ℕ) → in_hears (in_slot p n) ≡ true → 1 ≤ n
in_from p zero e = absurd (true≢false (sym e))
in_from p (suc m) e = omega arith

-- the ring at an address
below : (n : ℕ) → n ≤ 3 → nat_le 128 n ≡ false
below n h = grind (arith, nat_tests)

above : (n : ℕ) → nat_le 128 (128 + n) ≡ true
above n = grind (arith, nat_tests)

behind : (n : ℕ) → (128 + n) - 128 ≡ n
behind n = omega arith

pub out_at : (r : Rings) (n : ℕ) → n ≤ 3 → ring_at r n ≡ out_ring r n
out_at r n h = ap (λ b. if b then in_ring r (n - 128) else out_ring r n) (below n h)

pub in_at : (r : Rings) (n : ℕ) → ring_at r (128 + n) ≡ in_ring r n
in_at r n = ap (λ b. if b then in_ring r ((128 + n) - 128) else out_ring r (128 + n)) (above n) ∙ ap (in_ring r) (behind n)

with_out_at : (r : Rings) (n : ℕ) (ring : Ring) → n ≤ 3 → with_ring_at r n ring ≡ with_out_ring r n ring
with_out_at r n ring h = ap (λ b. if b then with_in_ring r (n - 128) ring else with_out_ring r n ring) (below n h)

with_in_at : (r : Rings) (n : ℕ) (ring : Ring) → with_ring_at r (128 + n) ring ≡ with_in_ring r n ring
with_in_at r n ring = ap (λ b. if b then with_in_ring r ((128 + n) - 128) ring else with_out_ring r (128 + n) ring) (above n) ∙ ap (λ m. with_in_ring r m ring) (behind n)

-- bytes are read
abbrev whole_of : Joint → Rings → Whole
whole_of j r = record { joint = j; rings = r }

pub read_ends : (j : Joint) (r r' : Rings) (n most count : ℕ) → IsSound FS4 j r → 1 ≤ n → n ≤ 3 → count ≡ min most (length (ring_at r n).bytes) → r' ≡ with_ring_at r n (without_first (ring_at r n) count)
    → Ends j r' (read_at (port_of j r) n most)
read_ends j r r' zero most count s from to c e = absurd (omega (arith, from))
read_ends j r r' (suc m) most count s from to c e =
    let ring = out_ring r (suc m) in
    let bytes : drop count (ring_at r (suc m)).bytes ≡ drop most ring.bytes =
    ap (λ k. drop k (ring_at r (suc m)).bytes) c ∙ ap (λ (x : Ring). drop (min most (length x.bytes)) x.bytes) (out_at r (suc m) to) ∙ drop_min most ring.bytes in
    let is : r' ≡ (run_read_out (whole_of j r) (suc m) most).rings =
    e ∙ with_out_at r (suc m) (without_first (ring_at r (suc m)) count) to
    ∙ ap (λ (x : Ring). with_out_ring r (suc m) (record x { bytes = drop count (ring_at r (suc m)).bytes })) (out_at r (suc m) to)
    ∙ ap (λ xs. with_out_ring r (suc m) (record ring { bytes = xs })) bytes in
    subst (λ x. Ends j x (read_at (port_of j r) (suc m) most)) (sym is)
    (ended j (run_read_out (whole_of j r) (suc m) most).rings (read_at (port_of j r) (suc m) most) (read_out_for (whole_of j r) (port_of j r) m most (within m to) (itself j r s)))

-- bytes are queued
hears_open : (closed : Bool) → not closed ≡ true → closed ≡ false
hears_open true e = absurd (true≢false (sym e))
hears_open false e = refl

pub written_ends : (j : Joint) (r r' : Rings) (n count : ℕ) (bytes : List ℕ) → IsSound FS4 j r → in_hears (in_slot (pipes_of j r) n) ≡ true → n ≤ 3 → ((i : ℕ) → slice_index bytes i < 256)
    → count ≡ min (length bytes) (room (ring_at r (128 + n))) → r' ≡ with_ring_at r (128 + n) (appended (ring_at r (128 + n)) (take count bytes))
    → Ends j r' (written_at (port_of j r) n (in_ring r n).capacity bytes)
written_ends j r r' zero count bytes s o to b c e = absurd (true≢false (sym o))
written_ends j r r' (suc m) count bytes s o to b c e =
    let n = suc m in
    let ring = in_ring r n in
    let w = whole_of j r in
    let opens : is_closed (in_slot (pipes_of j r) n).pipe.phase ≡ false = hears_open (is_closed (in_slot (pipes_of j r) n).pipe.phase) o in
    let least : (a b : ℕ) (xs : List ℕ) → take (min (length xs) a) xs ≡ take a xs = λ a b xs. ap (λ k. take k xs) (swapped (length xs) a) ∙ take_min a xs in
    let is : r' ≡ (run_write_in w n bytes).rings =
    e ∙ with_in_at r n (appended (ring_at r (128 + n)) (take count bytes))
    ∙ ap (λ (x : Ring). with_in_ring r n (appended x (take count bytes))) (in_at r n)
    ∙ ap (λ k. with_in_ring r n (appended ring (take k bytes))) (c ∙ ap (λ (x : Ring). min (length bytes) (room x)) (in_at r n))
    ∙ ap (λ xs. with_in_ring r n (appended ring xs)) (least (room ring) 0 bytes) in
    subst (λ x. Ends j x (written_at (port_of j r) n ring.capacity bytes)) (sym is)
    (ended j (run_write_in w n bytes).rings (written_at (port_of j r) n ring.capacity bytes)
    (write_in_for w (port_of j r) m bytes (within m to) b (sym (ap (λ (x : InSlot). is_closed x.pipe.phase) (s.pipes.ins m (within m to)).slot) ∙ opens) (itself j r s)))
  where
    swapped : (a b : ℕ) → min a b ≡ min b a
    swapped a b = omega arith

-- A pipe that shows something is open; one that shows rest is at rest and not halted.

halted_rests : (halted : Bool) (p : Phase) → unless_halted halted p ≡ phase.Rest → halted ≡ false
halted_rests true p e = absurd (cc e)
halted_rests false p e = refl

out_rests : (halted : Bool) (state : OutState) → unless_halted halted (out_state_phase state) ≡ phase.Rest → state ≡ out_state.Rest
out_rests true _ e = absurd (cc e)
out_rests false out_state.Closed e = absurd (cc e)
out_rests false out_state.Rest e = refl
out_rests false out_state.Armed e = absurd (cc e)
out_rests false out_state.Posted e = absurd (cc e)
out_rests false out_state.Stale e = absurd (cc e)

in_rests : (halted : Bool) (state : InState) → unless_halted halted (in_state_phase state) ≡ phase.Rest → state ≡ in_state.Rest
in_rests true state e = absurd (cc e)
in_rests false in_state.Closed e = absurd (cc e)
in_rests false in_state.Rest e = refl
in_rests false in_state.Running e = absurd (cc e)
in_rests false in_state.Posted e = absurd (cc e)

pub out_state_rests : (j : Joint) (r : Rings) (n : ℕ) → IsSound FS4 j r → out_shown (out_slot (pipes_of j r) n) ≡ phase.Rest → (out_kept j.software n).state ≡ out_state.Rest
out_state_rests j r n s e = out_rests (out_kept j.software n).halted (out_kept j.software n).state (out_shows j r n s ∙ e)

pub out_moves : (j : Joint) (r : Rings) (n : ℕ) → IsSound FS4 j r → out_shown (out_slot (pipes_of j r) n) ≡ phase.Rest → (out_kept j.software n).halted ≡ false
out_moves j r n s e = halted_rests (out_kept j.software n).halted (out_state_phase (out_kept j.software n).state) (out_shows j r n s ∙ e)

pub in_state_rests : (j : Joint) (r : Rings) (n : ℕ) → IsSound FS4 j r → in_shown (in_slot (pipes_of j r) n) ≡ phase.Rest → (in_kept j.software n).state ≡ in_state.Rest
in_state_rests j r n s e = in_rests (in_kept j.software n).halted (in_kept j.software n).state (in_shows j r n s ∙ e)

-- the endpoint
pub out_endpoint : (j : Joint) (r : Rings) (n : ℕ) → IsSound FS4 j r → 1 ≤ n → n ≤ 3 → (out_slot (pipes_of j r) n).endpoint ≡ (out_kept j.software n).endpoint
out_endpoint j r zero s from to = absurd (omega (arith, from))
out_endpoint j r (suc m) s from to = ap (λ (x : OutSlot). x.endpoint) (s.pipes.outs m (within m to)).slot

pub in_endpoint : (j : Joint) (r : Rings) (n : ℕ) → IsSound FS4 j r → 1 ≤ n → n ≤ 3 → (in_slot (pipes_of j r) n).endpoint ≡ (in_kept j.software n).endpoint
in_endpoint j r zero s from to = absurd (omega (arith, from))
in_endpoint j r (suc m) s from to = ap (λ (x : InSlot). x.endpoint) (s.pipes.ins m (within m to)).slot

-- its packets have 64 bytes at most
pub out_most : (j : Joint) (r : Rings) (n : ℕ) → IsSound FS4 j r → 1 ≤ n → n ≤ 3 → (out_kept j.software n).endpoint.size ≤ 64
out_most j r zero s from to = absurd (omega (arith, from))
out_most j r (suc m) s from to = (s.pipes.outs m (within m to)).stands.software.most

-- A pipe that doesn't show that it is closed is open: no halt outlasts a session.

out_opens : (halted : Bool) (state : OutState) (over : Bool) (lies : List Landed) → (IsTrue (not (is_open state)) → halted ≡ false) → unless_halted halted (out_phase (phase_of state over lies)) ≢ phase.Closed
    → is_out_open (phase_of state over lies) ≡ true
out_opens halted out_state.Closed over lies shut h = absurd (h (ap (λ b. unless_halted b phase.Closed) (shut refl)))
out_opens halted out_state.Rest over lies shut h = refl
out_opens halted out_state.Armed over [] shut h = refl
out_opens halted out_state.Armed over (x ∷ xs) shut h = refl
out_opens halted out_state.Posted over lies shut h = refl
out_opens halted out_state.Stale over lies shut h = refl

pub out_shown_open : (j : Joint) (r : Rings) (n : ℕ) → IsSound FS4 j r → n ≤ 3 → out_shown (out_slot (pipes_of j r) n) ≢ phase.Closed → is_out_open (out_slot (pipes_of j r) n).pipe.phase ≡ true
out_shown_open j r zero s to h = absurd (h refl)
out_shown_open j r (suc m) s to h =
    let kept = out_kept j.software (suc m) in
    let part = s.pipes.outs m (within m to) in
    ap (λ (x : OutSlot). is_out_open x.pipe.phase) part.slot
    ∙ out_opens kept.halted kept.state kept.over _ (λ k. ap (λ (x : OutEndpoint). x.halted) (part.stands.software.closed k)) (λ k. h (ap out_shown part.slot ∙ k))

in_opens : (halted : Bool) (state : InState) (n : ℕ) (left : List (List ℕ)) → (state ≡ in_state.Closed → halted ≡ false) → unless_halted halted (shown_phase (in_phase state n left)) ≢ phase.Closed
    → not (is_closed (in_phase state n left)) ≡ true
in_opens halted in_state.Closed n left shut h = absurd (h (ap (λ b. unless_halted b phase.Closed) (shut refl)))
in_opens halted in_state.Rest n left shut h = refl
in_opens halted in_state.Running n left shut h = refl
in_opens halted in_state.Posted n left shut h = refl

unused : (kept : InEndpoint) (ring : List ℕ) → Holds kept.state kept ring → kept.state ≡ in_state.Closed → kept.halted ≡ false
unused kept ring h e = let k = subst (λ state. Holds state kept ring) e h in ap (λ (x : InEndpoint). x.halted) k.unused

pub in_shown_open : (j : Joint) (r : Rings) (n : ℕ) → IsSound FS4 j r → n ≤ 3 → in_shown (in_slot (pipes_of j r) n) ≢ phase.Closed → in_hears (in_slot (pipes_of j r) n) ≡ true
in_shown_open j r zero s to h = absurd (h refl)
in_shown_open j r (suc m) s to h =
    let kept = in_kept j.software (suc m) in
    let part = s.pipes.ins m (within m to) in
    ap in_hears part.slot
    ∙ in_opens kept.halted kept.state _ _ (λ k. unused kept (in_ring r (suc m)).bytes part.stands.holds k) (λ k. h (ap in_shown part.slot ∙ k))

-- a pipe that rests doesn't show that it is closed
pub rest_open : (p : Phase) → p ≡ phase.Rest → p ≢ phase.Closed
rest_open p e k = absurd (cc (sym e ∙ k))

-- What each call needs of what the driver keeps.

lower : (n : ℕ) → n ≤ 3 → nat_lt n 128 ≡ true
lower n h = grind (arith, nat_tests)

higher : (n : ℕ) → nat_lt (128 + n) 128 ≡ false
higher n = grind (arith, nat_tests)

pub out_open_at : (j : Joint) (r : Rings) (n : ℕ) → IsSound FS4 j r → n ≤ 3 → is_open_at j.software n ≡ is_out_open (out_slot (pipes_of j r) n).pipe.phase
out_open_at j r n s to =
    sym (open_at_is j r n s)
    ∙ ap (λ b. if b then is_out_open (out_slot (pipes_of j r) n).pipe.phase else in_hears (in_slot (pipes_of j r) (n - 128))) (lower n to)

pub in_open_at : (j : Joint) (r : Rings) (n : ℕ) → IsSound FS4 j r → is_open_at j.software (128 + n) ≡ in_hears (in_slot (pipes_of j r) n)
in_open_at j r n s =
    sym (open_at_is j r (128 + n) s)
    ∙ ap (λ b. if b then is_out_open (out_slot (pipes_of j r) (128 + n)).pipe.phase else in_hears (in_slot (pipes_of j r) ((128 + n) - 128))) (higher n)
    ∙ ap (λ m. in_hears (in_slot (pipes_of j r) m)) (behind n)

pub out_numbered : (p : Pipes) (r : Rings) (n : ℕ) → IsReceiver p r n → is_out_open (out_slot p n).pipe.phase ≡ true → IsNumbered n
out_numbered p r n h o = inl (out_from p n o, h.to)

pub in_numbered : (p : Pipes) (r : Rings) (n : ℕ) → IsSender p r n → in_hears (in_slot p n) ≡ true → IsNumbered (128 + n)
in_numbered p r n h o = let from = in_from p n o in let to = h.to in inr (omega (arith, from), omega (arith, to))

abbrev Rests : OutSlot → Type 0
Rests slot = out_shown slot ≡ phase.Rest

pub out_rest_open : (j : Joint) (r : Rings) (n : ℕ) → IsSound FS4 j r → n ≤ 3 → Rests (out_slot (pipes_of j r) n) → is_out_open (out_slot (pipes_of j r) n).pipe.phase ≡ true
out_rest_open j r n s to e = out_shown_open j r n s to (rest_open (out_shown (out_slot (pipes_of j r) n)) e)

pub in_rest_open : (j : Joint) (r : Rings) (n : ℕ) → IsSound FS4 j r → n ≤ 3 → in_shown (in_slot (pipes_of j r) n) ≡ phase.Rest → in_hears (in_slot (pipes_of j r) n) ≡ true
in_rest_open j r n s to e = in_shown_open j r n s to (rest_open (in_shown (in_slot (pipes_of j r) n)) e)

pub out_class : (j : Joint) (r : Rings) (n : ℕ) → IsSound FS4 j r → IsReceiver (pipes_of j r) r n → Rests (out_slot (pipes_of j r) n) → is_core (out_kept j.software n).endpoint.owner ≡ false
out_class j r n s h e =
    let o = out_rest_open j r n s h.to e in
    ap (λ (x : Endpoint). is_core x.owner) (sym (out_endpoint j r n s (out_from (pipes_of j r) n o) h.to)) ∙ h.class o

pub in_class : (j : Joint) (r : Rings) (n : ℕ) → IsSound FS4 j r → IsSender (pipes_of j r) r n → in_shown (in_slot (pipes_of j r) n) ≡ phase.Rest → is_core (in_kept j.software n).endpoint.owner ≡ false
in_class j r n s h e =
    let o = in_rest_open j r n s h.to e in
    ap (λ (x : Endpoint). is_core x.owner) (sym (in_endpoint j r n s (in_from (pipes_of j r) n o) h.to)) ∙ h.class o

fits : (size held most length capacity : ℕ) → 64 ≤ most - held → held ≡ length → most ≡ capacity → size ≤ 64 → length + size ≤ capacity
fits size held most length capacity h e k s = omega (arith, h, e, k, s)

pub out_fits : (j : Joint) (r : Rings) (n : ℕ) → IsSound FS4 j r → IsReceiver (pipes_of j r) r n → Rests (out_slot (pipes_of j r) n)
    → packet_room ≤ ring_size (out_slot (pipes_of j r) n).endpoint - length (out_slot (pipes_of j r) n).pipe.held
    → length (out_ring r n).bytes + (out_kept j.software n).endpoint.size ≤ (out_ring r n).capacity
out_fits j r n s h e room =
    let o = out_rest_open j r n s h.to e in
    fits (out_kept j.software n).endpoint.size (length (out_slot (pipes_of j r) n).pipe.held) (ring_size (out_slot (pipes_of j r) n).endpoint) (length (out_ring r n).bytes) (out_ring r n).capacity room
    (ap length (out_held j r n s h.to)) (h.capacity o) (out_most j r n s (out_from (pipes_of j r) n o) h.to)

-- the room of a pipe
over : (result size held length capacity : ℕ) → result + length ≡ capacity → held ≡ length → size ≡ capacity → result ≡ size - held
over result size held length capacity h e k = omega (arith, h, e, k)

nothing : (size held : ℕ) → size ≡ 0 → 0 ≡ size - held
nothing size held e = omega (arith, e)

pub out_room : (j : Joint) (r : Rings) (n result : ℕ) → IsSound FS4 j r → IsReceiver (pipes_of j r) r n → is_open_at j.software n ≡ true → result + length (ring_at r n).bytes ≡ (ring_at r n).capacity
    → result ≡ ring_size (out_slot (pipes_of j r) n).endpoint - length (out_slot (pipes_of j r) n).pipe.held
out_room j r n result s h o e =
    over result (ring_size (out_slot (pipes_of j r) n).endpoint) (length (out_slot (pipes_of j r) n).pipe.held) (length (ring_at r n).bytes) (ring_at r n).capacity e
    (ap length (out_held j r n s h.to) ∙ ap (λ (x : Ring). length x.bytes) (sym (out_at r n h.to)))
    (h.capacity (sym (out_open_at j r n s h.to) ∙ o) ∙ ap (λ (x : Ring). x.capacity) (sym (out_at r n h.to)))

pub out_none : (j : Joint) (r : Rings) (n : ℕ) → IsSound FS4 j r → IsReceiver (pipes_of j r) r n → is_open_at j.software n ≡ false
    → 0 ≡ ring_size (out_slot (pipes_of j r) n).endpoint - length (out_slot (pipes_of j r) n).pipe.held
out_none j r n s h o = nothing (ring_size (out_slot (pipes_of j r) n).endpoint) (length (out_slot (pipes_of j r) n).pipe.held) (h.shut (sym (out_open_at j r n s h.to) ∙ o))

pub in_room : (j : Joint) (r : Rings) (n result : ℕ) → IsSound FS4 j r → IsSender (pipes_of j r) r n → is_open_at j.software (128 + n) ≡ true → result + length (ring_at r (128 + n)).bytes ≡ (ring_at r (128 + n)).capacity
    → result ≡ ring_size (in_slot (pipes_of j r) n).endpoint - length (in_slot (pipes_of j r) n).pipe.queue
in_room j r n result s h o e =
    over result (ring_size (in_slot (pipes_of j r) n).endpoint) (length (in_slot (pipes_of j r) n).pipe.queue) (length (ring_at r (128 + n)).bytes) (ring_at r (128 + n)).capacity e
    (ap length (in_queued j r n s h.to) ∙ ap (λ (x : Ring). length x.bytes) (sym (in_at r n)))
    (h.capacity (sym (in_open_at j r n s) ∙ o) ∙ ap (λ (x : Ring). x.capacity) (sym (in_at r n)))

pub in_none : (j : Joint) (r : Rings) (n : ℕ) → IsSound FS4 j r → IsSender (pipes_of j r) r n → is_open_at j.software (128 + n) ≡ false
    → 0 ≡ ring_size (in_slot (pipes_of j r) n).endpoint - length (in_slot (pipes_of j r) n).pipe.queue
in_none j r n s h o = nothing (ring_size (in_slot (pipes_of j r) n).endpoint) (length (in_slot (pipes_of j r) n).pipe.queue) (h.shut (sym (in_open_at j r n s) ∙ o))

-- what was queued, by the room of the pipe
pub took : (j : Joint) (r : Rings) (n count : ℕ) (bytes : List ℕ) → IsSound FS4 j r → IsSender (pipes_of j r) r n → in_hears (in_slot (pipes_of j r) n) ≡ true → count ≡ min (length bytes) (room (ring_at r (128 + n)))
    → count ≡ min (length bytes) (ring_size (in_slot (pipes_of j r) n).endpoint - length (in_slot (pipes_of j r) n).pipe.queue)
took j r n count bytes s h o c =
    c ∙ ap (λ (x : Ring). min (length bytes) (room x)) (in_at r n)
    ∙ ap (λ k. min (length bytes) (k - length (in_ring r n).bytes)) (sym (h.capacity o))
    ∙ ap (λ (xs : List ℕ). min (length bytes) (ring_size (in_slot (pipes_of j r) n).endpoint - length xs)) (sym (in_queued j r n s h.to))

pub queued : (j : Joint) (r r' : Rings) (n count : ℕ) (bytes : List ℕ) → IsSound FS4 j r → IsSender (pipes_of j r) r n → in_hears (in_slot (pipes_of j r) n) ≡ true → ((i : ℕ) → slice_index bytes i < 256)
    → count ≡ min (length bytes) (room (ring_at r (128 + n))) → r' ≡ with_ring_at r (128 + n) (appended (ring_at r (128 + n)) (take count bytes))
    → Ends j r' (written_at (port_of j r) n (ring_size (in_slot (pipes_of j r) n).endpoint) bytes)
queued j r r' n count bytes s h o b c e =
    subst (λ k. Ends j r' (written_at (port_of j r) n k bytes)) (sym (h.capacity o)) (written_ends j r r' n count bytes s o h.to b c e)

-- what was read
front : (xs ys : List ℕ) → take (length xs) (xs ++ ys) ≡ xs
front [] ys = refl
front (x ∷ xs) ys = ap (λ zs. x ∷ zs) (front xs ys)

least : (a b : ℕ) → min (min a b) b ≡ min a b
least a b = omega arith

pub given : (j : Joint) (r : Rings) (n count : ℕ) (old new : List ℕ) → IsSound FS4 j r → n ≤ 3 → count ≡ min (length old) (length (ring_at r n).bytes)
    → new ≡ take count (ring_at r n).bytes ++ drop count old → take count new ≡ take (length old) (out_slot (pipes_of j r) n).pipe.held
given j r n count old new s to c e =
    let bytes = (ring_at r n).bytes in
    let size : length (take count bytes) ≡ count = length-take count bytes ∙ ap (λ k. min k (length bytes)) c ∙ least (length old) (length bytes) ∙ sym c in
    ap (take count) e
    ∙ ap (λ k. take k (take count bytes ++ drop count old)) (sym size)
    ∙ front (take count bytes) (drop count old)
    ∙ ap (λ k. take k bytes) c ∙ take_min (length old) bytes
    ∙ ap (λ (x : Ring). take (length old) x.bytes) (out_at r n to) ∙ ap (take (length old)) (sym (out_held j r n s to))
