-- An owner's pipes among those of the device: what is put back is what was there, and what is put last stays.
use Rattle.std.proofs.Common.{◌≡◌, ◌≢◌, ℕ, zero, suc, ◌≤◌, List, [], ◌∷◌, length, Bool, true, false, ◌==◌, refl, ap, sym, ◌∙◌, arith, subst}
use Rattle.std.specs.Prelude.{slice_index_or, slice_set}
use Rattle.std.proofs.lemmas.Bool.Decides.{nat_tests}
use Rattle.std.proofs.lemmas.List.{get_or-set_other}
use Rattle.std.proofs.lemmas.Grind.{get_or-set_at}
use Rattle.usb_packet.specs.declared.bus.Owner.{Owner}
use Rattle.usb_descriptor.specs.declared.endpoint.Endpoint.{Endpoint}
use Rattle.usb_descriptor.specs.Set.{Set}
use Rattle.usb_pipe.specs.Own.{Own, Sender, Receiver}
use Rattle.device_pipe.specs.OutPipe.{OutPipe}
use Rattle.device_pipe.specs.InPipe.{InPipe}
use Rattle.device_machine.specs.Pipes.{Pipes, OutSlot, InSlot, no_out_slot, no_in_slot, out_slot, in_slot, with_out_slot, with_in_slot}
use Rattle.device_machine.proofs.Slots.{in_at, out_at, in_set, out_set}
use Rattle.device_owners.specs.Ends.{number_at, own_pipes, with_own, with_sends, with_receives, as_sender, as_receiver}

-- Lists.

set_found : {A : Type 0} (xs : List A) (n : ℕ) (none : A) → slice_set xs n (slice_index_or xs n none) ≡ xs
set_found [] n none = refl
set_found (x ∷ xs) zero none = refl
set_found (x ∷ xs) (suc n) none = ap (λ ys. x ∷ ys) (set_found xs n none)

set_twice : {A : Type 0} (xs : List A) (n : ℕ) (a b : A) → slice_set (slice_set xs n a) n b ≡ slice_set xs n b
set_twice [] n a b = refl
set_twice (x ∷ xs) zero a b = refl
set_twice (x ∷ xs) (suc n) a b = ap (λ ys. x ∷ ys) (set_twice xs n a b)

set_apart : {A : Type 0} (xs : List A) (n m : ℕ) (a b : A) → n ≢ m → slice_set (slice_set xs n a) m b ≡ slice_set (slice_set xs m b) n a
set_apart [] n m a b h = refl
set_apart (x ∷ xs) zero zero a b h = absurd (h refl)
set_apart (x ∷ xs) zero (suc m) a b h = refl
set_apart (x ∷ xs) (suc n) zero a b h = refl
set_apart (x ∷ xs) (suc n) (suc m) a b h = ap (λ ys. x ∷ ys) (set_apart xs n m a b (λ e. h (ap suc e)))

-- Slots.

in_found : (p : Pipes) (n : ℕ) → with_in_slot p n (in_slot p n) ≡ p
in_found p zero = refl
in_found p (suc n) = ap (λ xs. record p { ins = xs }) (set_found p.ins n no_in_slot)

out_found : (p : Pipes) (n : ℕ) → with_out_slot p n (out_slot p n) ≡ p
out_found p zero = refl
out_found p (suc n) = ap (λ xs. record p { outs = xs }) (set_found p.outs n no_out_slot)

in_twice : (p : Pipes) (n : ℕ) (a b : InSlot) → with_in_slot (with_in_slot p n a) n b ≡ with_in_slot p n b
in_twice p zero a b = refl
in_twice p (suc n) a b = ap (λ xs. record p { ins = xs }) (set_twice p.ins n a b)

out_twice : (p : Pipes) (n : ℕ) (a b : OutSlot) → with_out_slot (with_out_slot p n a) n b ≡ with_out_slot p n b
out_twice p zero a b = refl
out_twice p (suc n) a b = ap (λ xs. record p { outs = xs }) (set_twice p.outs n a b)

in_apart : (p : Pipes) (n m : ℕ) (a b : InSlot) → n ≢ m → with_in_slot (with_in_slot p n a) m b ≡ with_in_slot (with_in_slot p m b) n a
in_apart p zero m a b h = refl
in_apart p (suc n) zero a b h = refl
in_apart p (suc n) (suc m) a b h = ap (λ xs. record p { ins = xs }) (set_apart p.ins n m a b (λ e. h (ap suc e)))

-- the slot that was put
in_put : (p : Pipes) (n : ℕ) (a : InSlot) → 1 ≤ n → n ≤ length p.ins → in_slot (with_in_slot p n a) n ≡ a
in_put p zero a from to = absurd (omega (arith, from))
in_put p (suc n) a from to = get_or-set_at p.ins n n a no_in_slot refl (omega (arith, to))

out_put : (p : Pipes) (n : ℕ) (a : OutSlot) → 1 ≤ n → n ≤ length p.outs → out_slot (with_out_slot p n a) n ≡ a
out_put p zero a from to = absurd (omega (arith, from))
out_put p (suc n) a from to = get_or-set_at p.outs n n a no_out_slot refl (omega (arith, to))

-- the others
in_other : (p : Pipes) (n m : ℕ) (a : InSlot) → n ≢ m → in_slot (with_in_slot p n a) m ≡ in_slot p m
in_other p zero m a h = refl
in_other p (suc n) zero a h = refl
in_other p (suc n) (suc m) a h = get_or-set_other p.ins n m a no_in_slot (λ e. h (ap suc (sym e)))

out_beside : (p : Pipes) (n m : ℕ) (a : InSlot) → out_slot (with_in_slot p n a) m ≡ out_slot p m
out_beside p zero m a = refl
out_beside p (suc n) m a = refl

in_beside : (p : Pipes) (n m : ℕ) (a : OutSlot) → in_slot (with_out_slot p n a) m ≡ in_slot p m
in_beside p zero m a = refl
in_beside p (suc n) m a = refl

-- the endpoint stays
in_endpoint : (p : Pipes) (n m : ℕ) (pipe : InPipe) → (in_slot (with_in_slot p n (record (in_slot p n) { pipe = pipe })) m).endpoint ≡ (in_slot p m).endpoint
in_endpoint p n m pipe =
    let slot : InSlot = record (in_slot p n) { pipe = pipe } in
    in_at (λ (s : OutSlot). s.endpoint) (λ (s : InSlot). s.endpoint) (with_in_slot p n slot) p (in_set (λ (s : OutSlot). s.endpoint) (λ (s : InSlot). s.endpoint) p n slot refl) m

out_endpoint : (p : Pipes) (n m : ℕ) (pipe : OutPipe) → (out_slot (with_out_slot p n (record (out_slot p n) { pipe = pipe })) m).endpoint ≡ (out_slot p m).endpoint
out_endpoint p n m pipe =
    let slot : OutSlot = record (out_slot p n) { pipe = pipe } in
    out_at (λ (s : OutSlot). s.endpoint) (λ (s : InSlot). s.endpoint) (with_out_slot p n slot) p (out_set (λ (s : OutSlot). s.endpoint) (λ (s : InSlot). s.endpoint) p n slot refl) m

-- Pipes that are put back.

sends_found : (p : Pipes) (n : ℕ) → with_sends p n (as_sender (in_slot p n)) ≡ p
sends_found p n = in_found p n

receives_found : (p : Pipes) (n : ℕ) → with_receives p n (as_receiver (out_slot p n)) ≡ p
receives_found p n = out_found p n

sends_twice : (p : Pipes) (n : ℕ) (a b : Sender) → with_sends (with_sends p n a) n b ≡ with_sends p n b
sends_twice p n a b =
    ap (λ (e : Endpoint). with_in_slot (with_sends p n a) n (record { endpoint = e; pipe = b.pipe })) (in_endpoint p n n a.pipe)
    ∙ in_twice p n (record (in_slot p n) { pipe = a.pipe }) (record (in_slot p n) { pipe = b.pipe })

receives_twice : (p : Pipes) (n : ℕ) (a b : Receiver) → with_receives (with_receives p n a) n b ≡ with_receives p n b
receives_twice p n a b =
    ap (λ (e : Endpoint). with_out_slot (with_receives p n a) n (record { endpoint = e; pipe = b.pipe })) (out_endpoint p n n a.pipe)
    ∙ out_twice p n (record (out_slot p n) { pipe = a.pipe }) (record (out_slot p n) { pipe = b.pipe })

sends_apart : (p : Pipes) (n m : ℕ) (a b : Sender) → n ≢ m → with_sends (with_sends p n a) m b ≡ with_sends (with_sends p m b) n a
sends_apart p n m a b h =
    ap (λ (s : InSlot). with_in_slot (with_sends p n a) m (record s { pipe = b.pipe })) (in_other p n m (record (in_slot p n) { pipe = a.pipe }) h)
    ∙ in_apart p n m (record (in_slot p n) { pipe = a.pipe }) (record (in_slot p m) { pipe = b.pipe }) h
    ∙ ap (λ (s : InSlot). with_in_slot (with_sends p m b) n (record s { pipe = a.pipe })) (sym (in_other p m n (record (in_slot p m) { pipe = b.pipe }) (λ e. h (sym e))))

beside : (p : Pipes) (n m : ℕ) (a : Sender) (b : Receiver) → with_receives (with_sends p n a) m b ≡ with_sends (with_receives p m b) n a
beside p zero zero a b = refl
beside p zero (suc m) a b = refl
beside p (suc n) zero a b = refl
beside p (suc n) (suc m) a b = refl

same_of : (a b : ℕ) → (a == b) ≡ true → a ≡ b
same_of a b e = grind (arith, nat_tests)

other_of : (a b : ℕ) → (a == b) ≡ false → a ≢ b
other_of a b e = grind (arith, nat_tests)

-- what a later one is put over
third : (p : Pipes) (n m : ℕ) (a b c : Sender) → with_sends (with_sends (with_sends p m a) n b) m c ≡ with_sends (with_sends p n b) m c
third p n m a b c = by (n == m) refl
  where
    by : (t : Bool) → (n == m) ≡ t → with_sends (with_sends (with_sends p m a) n b) m c ≡ with_sends (with_sends p n b) m c
    by true e =
        let k : n ≡ m = same_of n m e in
        subst (λ x. with_sends (with_sends (with_sends p m a) x b) m c ≡ with_sends (with_sends p x b) m c) (sym k)
        (ap (λ q. with_sends q m c) (sends_twice p m a b))
    by false e =
        let h : n ≢ m = other_of n m e in
        ap (λ q. with_sends q m c) (sends_apart p m n a b (λ k. h (sym k))) ∙ sends_twice (with_sends p n b) m a c

-- An owner's pipes.

pub own_found : (set : Set) (o : Owner) (p : Pipes) → with_own set o p (own_pipes set o p) ≡ p
own_found set o p =
    let one = number_at set o 1 in
    let two = number_at set o 2 in
    ap (λ q. with_sends (with_receives q one (as_receiver (out_slot p one))) two (as_sender (in_slot p two))) (sends_found p (number_at set o 0))
    ∙ ap (λ q. with_sends q two (as_sender (in_slot p two))) (receives_found p one)
    ∙ sends_found p two

-- whatever one of the pipes was
pub over_sends : (set : Set) (o : Owner) (p : Pipes) (s : Sender) (own : Own) → with_own set o (with_sends p (number_at set o 0) s) own ≡ with_own set o p own
over_sends set o p s own =
    ap (λ q. with_sends (with_receives q (number_at set o 1) own.receives) (number_at set o 2) own.notifies) (sends_twice p (number_at set o 0) s own.sends)

pub over_receives : (set : Set) (o : Owner) (p : Pipes) (r : Receiver) (own : Own) → with_own set o (with_receives p (number_at set o 1) r) own ≡ with_own set o p own
over_receives set o p r own =
    let none = number_at set o 0 in
    let one = number_at set o 1 in
    let two = number_at set o 2 in
    ap (λ q. with_sends (with_receives q one own.receives) two own.notifies) (sym (beside p none one own.sends r))
    ∙ ap (λ q. with_sends q two own.notifies) (receives_twice (with_sends p none own.sends) one r own.receives)

pub over_notifies : (set : Set) (o : Owner) (p : Pipes) (s : Sender) (own : Own) → with_own set o (with_sends p (number_at set o 2) s) own ≡ with_own set o p own
over_notifies set o p s own =
    let none = number_at set o 0 in
    let one = number_at set o 1 in
    let two = number_at set o 2 in
    ap (λ q. with_sends q two own.notifies) (beside (with_sends p two s) none one own.sends own.receives ∙ ap (λ q. with_sends q none own.sends) (beside p two one s own.receives))
    ∙ third (with_receives p one own.receives) none two s own.sends own.notifies
    ∙ ap (λ q. with_sends q two own.notifies) (sym (beside p none one own.sends own.receives))

pub own_twice : (set : Set) (o : Owner) (p : Pipes) (a b : Own) → with_own set o (with_own set o p a) b ≡ with_own set o p b
own_twice set o p a b =
    let first = with_sends p (number_at set o 0) a.sends in
    over_notifies set o (with_receives first (number_at set o 1) a.receives) a.notifies b
    ∙ over_receives set o first a.receives b
    ∙ over_sends set o p a.sends b

-- so pipes of which one changed are those with the owner's own pipes as they are then
pub sends_stay : (set : Set) (o : Owner) (p : Pipes) (s : Sender) → with_sends p (number_at set o 0) s ≡ with_own set o p (own_pipes set o (with_sends p (number_at set o 0) s))
sends_stay set o p s =
    let q = with_sends p (number_at set o 0) s in
    sym (sym (over_sends set o p s (own_pipes set o q)) ∙ own_found set o q)

pub receives_stay : (set : Set) (o : Owner) (p : Pipes) (r : Receiver) → with_receives p (number_at set o 1) r ≡ with_own set o p (own_pipes set o (with_receives p (number_at set o 1) r))
receives_stay set o p r =
    let q = with_receives p (number_at set o 1) r in
    sym (sym (over_receives set o p r (own_pipes set o q)) ∙ own_found set o q)

pub notifies_stay : (set : Set) (o : Owner) (p : Pipes) (s : Sender) → with_sends p (number_at set o 2) s ≡ with_own set o p (own_pipes set o (with_sends p (number_at set o 2) s))
notifies_stay set o p s =
    let q = with_sends p (number_at set o 2) s in
    sym (sym (over_notifies set o p s (own_pipes set o q)) ∙ own_found set o q)

-- which the owner's pipes are then
pub own_sent : (set : Set) (o : Owner) (p : Pipes) (s : Sender) → 1 ≤ number_at set o 0 → number_at set o 0 ≤ length p.ins → number_at set o 0 ≢ number_at set o 2
    → own_pipes set o (with_sends p (number_at set o 0) s) ≡ record (own_pipes set o p) { sends = record (own_pipes set o p).sends { pipe = s.pipe } }
own_sent set o p s from to apart =
    let none = number_at set o 0 in
    let one = number_at set o 1 in
    let two = number_at set o 2 in
    let slot : InSlot = record (in_slot p none) { pipe = s.pipe } in
    let q = with_in_slot p none slot in
    ap (λ (x : InSlot). record { sends = as_sender x; receives = as_receiver (out_slot q one); notifies = as_sender (in_slot q two) }) (in_put p none slot from to)
    ∙ ap (λ (x : OutSlot). record { sends = as_sender slot; receives = as_receiver x; notifies = as_sender (in_slot q two) }) (out_beside p none one slot)
    ∙ ap (λ (x : InSlot). record { sends = as_sender slot; receives = as_receiver (out_slot p one); notifies = as_sender x }) (in_other p none two slot apart)

pub own_notified : (set : Set) (o : Owner) (p : Pipes) (s : Sender) → 1 ≤ number_at set o 2 → number_at set o 2 ≤ length p.ins → number_at set o 2 ≢ number_at set o 0
    → own_pipes set o (with_sends p (number_at set o 2) s) ≡ record (own_pipes set o p) { notifies = record (own_pipes set o p).notifies { pipe = s.pipe } }
own_notified set o p s from to apart =
    let none = number_at set o 0 in
    let one = number_at set o 1 in
    let two = number_at set o 2 in
    let slot : InSlot = record (in_slot p two) { pipe = s.pipe } in
    let q = with_in_slot p two slot in
    ap (λ (x : InSlot). record { sends = as_sender (in_slot q none); receives = as_receiver (out_slot q one); notifies = as_sender x }) (in_put p two slot from to)
    ∙ ap (λ (x : OutSlot). record { sends = as_sender (in_slot q none); receives = as_receiver x; notifies = as_sender slot }) (out_beside p two one slot)
    ∙ ap (λ (x : InSlot). record { sends = as_sender x; receives = as_receiver (out_slot p one); notifies = as_sender slot }) (in_other p two none slot apart)

pub own_received : (set : Set) (o : Owner) (p : Pipes) (r : Receiver) → 1 ≤ number_at set o 1 → number_at set o 1 ≤ length p.outs
    → own_pipes set o (with_receives p (number_at set o 1) r) ≡ record (own_pipes set o p) { receives = record (own_pipes set o p).receives { pipe = r.pipe } }
own_received set o p r from to =
    let none = number_at set o 0 in
    let one = number_at set o 1 in
    let two = number_at set o 2 in
    let slot : OutSlot = record (out_slot p one) { pipe = r.pipe } in
    let q = with_out_slot p one slot in
    ap (λ (x : OutSlot). record { sends = as_sender (in_slot q none); receives = as_receiver x; notifies = as_sender (in_slot q two) }) (out_put p one slot from to)
    ∙ ap (λ (x : InSlot). record { sends = as_sender x; receives = as_receiver slot; notifies = as_sender (in_slot q two) }) (in_beside p one none slot)
    ∙ ap (λ (x : InSlot). record { sends = as_sender (in_slot p none); receives = as_receiver slot; notifies = as_sender x }) (in_beside p one two slot)
