-- Which endpoints of a set an owner's pipes are, and what their slots and rings have.
use Rattle.std.proofs.Common.{◌≡◌, ◌≢◌, ℕ, zero, suc, ◌+◌, ◌-◌, ◌<◌, ◌≤◌, List, [], ◌∷◌, map, inl, inr, Bool, true, false, true≢false, ◌==◌, Option, Some, None, refl, ap, sym, ◌∙◌, arith, subst}
use Rattle.std.specs.Prelude.{◌&&◌, ◌||◌, if◌then◌else◌, nat_lt, find, get_or, slice_index_or}
use Rattle.std.specs.List.{IsDistinct, AllByRecursion, list_any}
use Rattle.std.proofs.lemmas.Bool.Decides.{nat_tests}
use Rattle.std.proofs.lemmas.Map.Keys.{IsDistinct-head, IsDistinct-tail}
use Rattle.usb_packet.specs.declared.bus.Owner.{Owner}
use Rattle.usb_packet.specs.declared.bus.Owner.TheVariants.{Core, Cdc, Hid, Msc, Midi}
use Rattle.usb_descriptor.specs.declared.endpoint.Endpoint.{Endpoint}
use Rattle.usb_descriptor.specs.declared.endpoint.EpKind.{EpKind}
use Rattle.usb_descriptor.specs.declared.endpoint.EpKind.TheVariants.{Bulk, Interrupt}
use Rattle.usb_descriptor.specs.declared.limits.EpLimits.{EpLimits}
use Rattle.usb_descriptor.specs.Set.{Set, endpoints_of, is_addressed, is_core, same_owner}
use Rattle.usb_descriptor.specs.Served.{AreServed, IsServed}
use Rattle.device_rings.specs.Rings.{Rings, out_ring, in_ring, no_ring}
use Rattle.device_rings.specs.Sizes.{class_size, ring_size, size_of, size_at, rings_of}
use Rattle.usb_ring.specs.Ring.{Ring}
use Rattle.device_rings.specs.Capacities.{Capacities, capacities, capacities_of}
use Rattle.usbd_core.specs.Shown.{IsSender, IsReceiver}
use Rattle.device_machine.specs.Pipes.{Pipes, no_endpoint, out_slot, in_slot, is_out_open, in_hears}
use Rattle.device_machine.specs.Session.{opened}
use Rattle.device_machine.specs.Laws.{AreOf, endpoint_at}
use Rattle.device_machine.proofs.Slots.{at_map}
use Rattle.device_owners.specs.Ends.{in_pipe, is_out, pipe_of, is_pipe, number_of}

-- What is found.

pub some_is : {A : Type 0} (x y : A) → Some x ≡ Some y → x ≡ y
some_is x y e = cc e

never : {A : Type 0} (e : Endpoint) → None ≡ Some e → A
never e h = absurd (cc h)

-- it is one of the list that passes
pub passes : (p : Endpoint → Bool) (es : List Endpoint) (e : Endpoint) → find p es ≡ Some e → p e ≡ true
passes p [] e h = never e h
passes p (x ∷ xs) e h = by (p x) refl (passes p xs e) h
  where
    by : (b : Bool) → p x ≡ b → (find p xs ≡ Some e → p e ≡ true) → (if b then Some x else find p xs) ≡ Some e → p e ≡ true
    by true k rest h = subst (λ y. p y ≡ true) (some_is x e h) k
    by false k rest h = rest h

each_found : (Q : Endpoint → Type 0) (p : Endpoint → Bool) (es : List Endpoint) (e : Endpoint) → AllByRecursion Q es → find p es ≡ Some e → Q e
each_found Q p [] e all h = never e h
each_found Q p (x ∷ xs) e all h = by (p x) (each_found Q p xs e all.1) h
  where
    by : (b : Bool) → (find p xs ≡ Some e → Q e) → (if b then Some x else find p xs) ≡ Some e → Q e
    by true rest h = subst Q (some_is x e h) all.0
    by false rest h = rest h

key_found : (Q : ℕ → Type 0) (p : Endpoint → Bool) (es : List Endpoint) (e : Endpoint) → AllByRecursion Q (map (λ (x : Endpoint). x.addr) es) → find p es ≡ Some e → Q e.addr
key_found Q p [] e all h = never e h
key_found Q p (x ∷ xs) e all h = by (p x) (key_found Q p xs e all.1) h
  where
    by : (b : Bool) → (find p xs ≡ Some e → Q e.addr) → (if b then Some x else find p xs) ≡ Some e → Q e.addr
    by true rest h = subst (λ (y : Endpoint). Q y.addr) (some_is x e h) all.0
    by false rest h = rest h

-- no two have one address
abbrev Distinct : List Endpoint → Type 0
Distinct es = IsDistinct (λ a b. a == b) (map (λ (x : Endpoint). x.addr) es)

itself : (a : ℕ) → (a == a) ≡ true
itself a = grind (arith, nat_tests)

-- so it is what is found by its address
pub found_at : (p : Endpoint → Bool) (es : List Endpoint) (e : Endpoint) → Distinct es → find p es ≡ Some e → find (is_addressed e.addr) es ≡ Some e
found_at p [] e d h = never e h
found_at p (x ∷ xs) e d h = by (p x) (found_at p xs e (IsDistinct-tail (λ a b. a == b) x.addr (map (λ (y : Endpoint). y.addr) xs) d)) h
  where
    by : (b : Bool) → (find p xs ≡ Some e → find (is_addressed e.addr) xs ≡ Some e) → (if b then Some x else find p xs) ≡ Some e → find (is_addressed e.addr) (x ∷ xs) ≡ Some e
    by true rest h =
        subst (λ (y : Endpoint). find (is_addressed y.addr) (x ∷ xs) ≡ Some y) (some_is x e h)
        (ap (λ b. if b then Some x else find (is_addressed x.addr) xs) (itself x.addr))
    by false rest h =
        ap (λ b. if b then Some x else find (is_addressed e.addr) xs)
        (key_found (λ a. (x.addr == a) ≡ false) p xs e (IsDistinct-head (λ a b. a == b) x.addr (map (λ (y : Endpoint). y.addr) xs) d) h)
        ∙ rest h

-- the last of an address is the only one
flip : (a b : ℕ) → (a == b) ≡ false → (b == a) ≡ false
flip a b e = grind (arith, nat_tests)

equal : (a b : ℕ) → (a == b) ≡ true → a ≡ b
equal a b e = grind (arith, nat_tests)

stays : (a : ℕ) (none : Endpoint) (es : List Endpoint) → AllByRecursion (λ y. (a == y) ≡ false) (map (λ (x : Endpoint). x.addr) es) → endpoint_at a none es ≡ none
stays a none [] all = refl
stays a none (x ∷ xs) all = ap (λ b. endpoint_at a (if b then x else none) xs) (flip a x.addr all.0) ∙ stays a none xs all.1

only : (a : ℕ) (none : Endpoint) (es : List Endpoint) (e : Endpoint) → Distinct es → find (is_addressed a) es ≡ Some e → endpoint_at a none es ≡ e
only a none [] e d h = never e h
only a none (x ∷ xs) e d h =
    by (x.addr == a) refl (only a (if x.addr == a then x else none) xs e (IsDistinct-tail (λ a b. a == b) x.addr (map (λ (y : Endpoint). y.addr) xs) d)) h
  where
    by : (b : Bool) → (x.addr == a) ≡ b → (find (is_addressed a) xs ≡ Some e → endpoint_at a (if x.addr == a then x else none) xs ≡ e) → (if b then Some x else find (is_addressed a) xs) ≡ Some e
        → endpoint_at a (if x.addr == a then x else none) xs ≡ e
    by true k rest h =
        ap (λ b. endpoint_at a (if b then x else none) xs) k
        ∙ subst (λ y. endpoint_at y x xs ≡ x) (equal x.addr a k) (stays x.addr x xs (IsDistinct-head (λ a b. a == b) x.addr (map (λ (y : Endpoint). y.addr) xs) d))
        ∙ some_is x e h
    by false k rest h = rest h

any_found : (p : Endpoint → Bool) (es : List Endpoint) (e : Endpoint) → find p es ≡ Some e → list_any p es ≡ true
any_found p [] e h = never e h
any_found p (x ∷ xs) e h = by (p x) refl (any_found p xs e) h
  where
    by : (b : Bool) → p x ≡ b → (find p xs ≡ Some e → list_any p xs ≡ true) → (if b then Some x else find p xs) ≡ Some e → list_any p (x ∷ xs) ≡ true
    by true k rest h = ap (λ b. b || list_any p xs) k
    by false k rest h = ap (λ b. b || list_any p xs) k ∙ rest h

-- An owner's endpoints.

both : (a b : Bool) → (a && b) ≡ true → (a ≡ true) × (b ≡ true)
both true b e = (refl, e)
both false b e = absurd (true≢false (sym e))

same : (o e : Owner) → same_owner o e ≡ true → is_core o ≡ false → is_core e ≡ false
same Core e h k = absurd (true≢false k)
same Cdc Core h k = absurd (true≢false (sym h))
same Hid Core h k = absurd (true≢false (sym h))
same Msc Core h k = absurd (true≢false (sym h))
same Midi Core h k = absurd (true≢false (sym h))
same o Cdc h k = refl
same o Hid h k = refl
same o Msc h k = refl
same o Midi h k = refl

sized : (o : Owner) (kind : EpKind) → is_core o ≡ false → 0 < class_size o kind
sized Core kind k = absurd (true≢false k)
sized Cdc Bulk k = omega arith
sized Cdc Interrupt k = omega arith
sized Hid kind k = omega arith
sized Msc kind k = omega arith
sized Midi kind k = omega arith

-- the endpoint of one address, of a class
pub record IsAt (es : List Endpoint) (address : ℕ) (e : Endpoint) : Type 0 where
  pub found : find (is_addressed address) es ≡ Some e
  pub class : is_core e.owner ≡ false

-- the number that a pipe has
pub data HasIn (es : List Endpoint) (pipe : ℕ) : ℕ → Type 0 where
  none : HasIn es pipe 0
  some : (n : ℕ) (e : Endpoint) → 1 ≤ n → n ≤ 3 → pipe_of e ≡ pipe → IsAt es (128 + n) e → HasIn es pipe n

pub data HasOut (es : List Endpoint) : ℕ → Type 0 where
  none : HasOut es 0
  some : (n : ℕ) (e : Endpoint) → 1 ≤ n → n ≤ 3 → IsAt es n e → HasOut es n

-- an endpoint that isn't the second pipe is one for the host
in_is : (pipe : ℕ) (e : Endpoint) → (pipe == 1) ≡ false → pipe_of e ≡ pipe → is_out e ≡ false
in_is pipe e other h = by (is_out e) refl
  where
    by : (b : Bool) → is_out e ≡ b → is_out e ≡ false
    by false k = k
    by true k =
        let one : pipe_of e ≡ 1 = ap (λ b. if b then 1 else in_pipe e.owner e.kind) k in
        absurd (true≢false (sym (ap (λ n. n == 1) (sym h ∙ one)) ∙ other))

no_out : (o : Owner) (kind : EpKind) → in_pipe o kind ≢ 1
no_out Core kind h = omega (arith, h)
no_out Cdc Bulk h = omega (arith, h)
no_out Cdc Interrupt h = omega (arith, h)
no_out Hid kind h = omega (arith, h)
no_out Msc kind h = omega (arith, h)
no_out Midi kind h = omega (arith, h)

out_is : (e : Endpoint) → pipe_of e ≡ 1 → is_out e ≡ true
out_is e h = by (is_out e) refl
  where
    by : (b : Bool) → is_out e ≡ b → is_out e ≡ true
    by true k = k
    by false k = absurd (no_out e.owner e.kind (sym (ap (λ b. if b then 1 else in_pipe e.owner e.kind) k) ∙ h))

below : (a : ℕ) → nat_lt a 128 ≡ true → a < 128
below a h = grind (arith, nat_tests)

above : (a : ℕ) → nat_lt a 128 ≡ false → 128 ≤ a
above a h = grind (arith, nat_tests)

abbrev limits : EpLimits
limits = record { in_top = 3; out_top = 3; report_known = true }

in_range : (e : Endpoint) → IsServed limits e → 128 ≤ e.addr → (1 ≤ e.addr - 128) × (e.addr - 128 ≤ 3) × (e.addr ≡ 128 + (e.addr - 128))
in_range e (inl h, least, most) k = absurd (omega (arith, h.1, k))
in_range e (inr h, least, most) k = (omega (arith, h.0), omega (arith, h.1), omega (arith, h.0))

out_range : (e : Endpoint) → IsServed limits e → e.addr < 128 → (1 ≤ e.addr) × (e.addr ≤ 3)
out_range e (inl h, least, most) k = h
out_range e (inr h, least, most) k = absurd (omega (arith, h.0, k))

is_at : (o : Owner) (p : ℕ) (es : List Endpoint) (e : Endpoint) → AreServed limits es → is_core o ≡ false → find (is_pipe o p) es ≡ Some e → IsAt es e.addr e
is_at o p es e served class h =
    record { found = found_at (is_pipe o p) es e served.distinct h; class = same o e.owner (both (same_owner o e.owner) (pipe_of e == p) (passes (is_pipe o p) es e h)).0 class }

is_of : (o : Owner) (p : ℕ) (es : List Endpoint) (e : Endpoint) → find (is_pipe o p) es ≡ Some e → pipe_of e ≡ p
is_of o p es e h = equal (pipe_of e) p (both (same_owner o e.owner) (pipe_of e == p) (passes (is_pipe o p) es e h)).1

pub has_in : (o : Owner) (pipe : ℕ) (es : List Endpoint) → AreServed limits es → is_core o ≡ false → (pipe == 1) ≡ false → HasIn es pipe (number_of (find (is_pipe o pipe) es))
has_in o pipe es served class other = by (find (is_pipe o pipe) es) refl
  where
    by : (x : Option Endpoint) → find (is_pipe o pipe) es ≡ x → HasIn es pipe (number_of x)
    by None h = none
    by (Some e) h =
        let k = in_is pipe e other (is_of o pipe es e h) in
        let range = in_range e (each_found (IsServed limits) (is_pipe o pipe) es e served.each h) (above e.addr k) in
        subst (HasIn es pipe) (sym (ap (λ b. if b then e.addr else e.addr - 128) k))
        (some (e.addr - 128) e range.0 range.1 (is_of o pipe es e h) (subst (λ a. IsAt es a e) range.2 (is_at o pipe es e served class h)))

pub has_out : (o : Owner) (es : List Endpoint) → AreServed limits es → is_core o ≡ false → HasOut es (number_of (find (is_pipe o 1) es))
has_out o es served class = by (find (is_pipe o 1) es) refl
  where
    by : (x : Option Endpoint) → find (is_pipe o 1) es ≡ x → HasOut es (number_of x)
    by None h = none
    by (Some e) h =
        let k = out_is e (is_of o 1 es e h) in
        let range = out_range e (each_found (IsServed limits) (is_pipe o 1) es e served.each h) (below e.addr k) in
        subst (HasOut es) (sym (ap (λ b. if b then e.addr else e.addr - 128) k)) (some e.addr e range.0 range.1 (is_at o 1 es e served class h))

-- the two pipes that send have endpoints of their own
found_one : (es : List Endpoint) (a b : ℕ) (e f : Endpoint) → a ≡ b → IsAt es (128 + a) e → IsAt es (128 + b) f → e ≡ f
found_one es a b e f k h i = some_is e f (sym h.found ∙ ap (λ n. find (is_addressed (128 + n)) es) k ∙ i.found)

apart_by : (es : List Endpoint) (a b : ℕ) → HasIn es 0 a → HasIn es 2 b → 1 ≤ a → a ≢ b
apart_by es a b none second from k = absurd (omega (arith, from))
apart_by es a b (some n e h1 h2 h3 h) none from k = absurd (omega (arith, from, k))
apart_by es a b (some n e h1 h2 h3 h) (some m f i1 i2 i3 i) from k =
    absurd (omega (arith, sym h3 ∙ ap pipe_of (found_one es n m e f k h i) ∙ i3))

pub apart : (o : Owner) (es : List Endpoint) → AreServed limits es → is_core o ≡ false → 1 ≤ number_of (find (is_pipe o 0) es) → number_of (find (is_pipe o 0) es) ≢ number_of (find (is_pipe o 2) es)
apart o es served class from =
    apart_by es (number_of (find (is_pipe o 0) es)) (number_of (find (is_pipe o 2) es)) (has_in o 0 es served class refl) (has_in o 2 es served class refl) from

-- In a session the endpoint is open, and outside one it is not.

abbrev pub HasSlot : List Endpoint → Bool → Endpoint → Bool → Endpoint → Type 0
HasSlot es session endpoint opens e = (opens ≡ session) × (endpoint ≡ (if session then e else no_endpoint))

in_slot_is : (set : Set) (session : Bool) (p : Pipes) (n : ℕ) (e : Endpoint) → AreServed limits (endpoints_of set.config) → AreOf (opened set session) p → 1 ≤ n → n ≤ 3
    → IsAt (endpoints_of set.config) (128 + n) e → HasSlot (endpoints_of set.config) session (in_slot p n).endpoint (in_hears (in_slot p n)) e
in_slot_is set session p zero e served are from to h = absurd (omega (arith, from))
in_slot_is set true p (suc m) e served are from to h =
    let one = are.ins m (omega (arith, to)) in
    (one.opens ∙ any_found (is_addressed (128 + suc m)) (endpoints_of set.config) e h.found, one.endpoint ∙ only (128 + suc m) no_endpoint (endpoints_of set.config) e served.distinct h.found)
in_slot_is set false p (suc m) e served are from to h =
    let one = are.ins m (omega (arith, to)) in
    (one.opens, one.endpoint)

out_slot_is : (set : Set) (session : Bool) (p : Pipes) (n : ℕ) (e : Endpoint) → AreServed limits (endpoints_of set.config) → AreOf (opened set session) p → 1 ≤ n → n ≤ 3
    → IsAt (endpoints_of set.config) n e → HasSlot (endpoints_of set.config) session (out_slot p n).endpoint (is_out_open (out_slot p n).pipe.phase) e
out_slot_is set session p zero e served are from to h = absurd (omega (arith, from))
out_slot_is set true p (suc m) e served are from to h =
    let one = are.outs m (omega (arith, to)) in
    (one.opens ∙ any_found (is_addressed (suc m)) (endpoints_of set.config) e h.found, one.endpoint ∙ only (suc m) no_endpoint (endpoints_of set.config) e served.distinct h.found)
out_slot_is set false p (suc m) e served are from to h =
    let one = are.outs m (omega (arith, to)) in
    (one.opens, one.endpoint)

-- The rings, by the sizes that they have.

capacity_at : (xs ys : List Ring) (m : ℕ) → capacities xs ≡ capacities ys → (get_or xs m no_ring).capacity ≡ (get_or ys m no_ring).capacity
capacity_at xs ys m e =
    sym (at_map (λ (ring : Ring). ring.capacity) xs m no_ring) ∙ ap (λ cs. slice_index_or cs m 0) e ∙ at_map (λ (ring : Ring). ring.capacity) ys m no_ring

in_made : (es : List Endpoint) (n : ℕ) → 1 ≤ n → n ≤ 3 → (in_ring (rings_of es) n).capacity ≡ size_at es (128 + n)
in_made es zero from to = absurd (omega (arith, from))
in_made es (suc zero) from to = refl
in_made es (suc (suc zero)) from to = refl
in_made es (suc (suc (suc zero))) from to = refl
in_made es (suc (suc (suc (suc n)))) from to = absurd (omega (arith, to))

out_made : (es : List Endpoint) (n : ℕ) → 1 ≤ n → n ≤ 3 → (out_ring (rings_of es) n).capacity ≡ size_at es n
out_made es zero from to = absurd (omega (arith, from))
out_made es (suc zero) from to = refl
out_made es (suc (suc zero)) from to = refl
out_made es (suc (suc (suc zero))) from to = refl
out_made es (suc (suc (suc (suc n)))) from to = absurd (omega (arith, to))

in_capacity : (es : List Endpoint) (r : Rings) (n : ℕ) (e : Endpoint) → capacities_of r ≡ capacities_of (rings_of es) → 1 ≤ n → n ≤ 3 → IsAt es (128 + n) e → (in_ring r n).capacity ≡ ring_size e
in_capacity es r zero e k from to h = absurd (omega (arith, from))
in_capacity es r (suc m) e k from to h =
    capacity_at r.ins (rings_of es).ins m (ap (λ (s : Capacities). s.ins) k) ∙ in_made es (suc m) from to ∙ ap size_of h.found

out_capacity : (es : List Endpoint) (r : Rings) (n : ℕ) (e : Endpoint) → capacities_of r ≡ capacities_of (rings_of es) → 1 ≤ n → n ≤ 3 → IsAt es n e → (out_ring r n).capacity ≡ ring_size e
out_capacity es r zero e k from to h = absurd (omega (arith, from))
out_capacity es r (suc m) e k from to h =
    capacity_at r.outs (rings_of es).outs m (ap (λ (s : Capacities). s.outs) k) ∙ out_made es (suc m) from to ∙ ap size_of h.found

-- So a class's pipe has its ring.

ring_is : (session opens : Bool) (endpoint e : Endpoint) (capacity : ℕ) → opens ≡ session → endpoint ≡ (if session then e else no_endpoint) → capacity ≡ ring_size e → opens ≡ true → ring_size endpoint ≡ capacity
ring_is true opens endpoint e capacity o k c h = ap ring_size k ∙ sym c
ring_is false opens endpoint e capacity o k c h = absurd (true≢false (sym h ∙ o))

class_is : (session opens : Bool) (endpoint e : Endpoint) → opens ≡ session → endpoint ≡ (if session then e else no_endpoint) → is_core e.owner ≡ false → opens ≡ true → is_core endpoint.owner ≡ false
class_is true opens endpoint e o k c h = ap (λ (x : Endpoint). is_core x.owner) k ∙ c
class_is false opens endpoint e o k c h = absurd (true≢false (sym h ∙ o))

shut_is : (session opens : Bool) (endpoint e : Endpoint) → opens ≡ session → endpoint ≡ (if session then e else no_endpoint) → opens ≡ false → ring_size endpoint ≡ 0
shut_is true opens endpoint e o k h = absurd (true≢false (sym o ∙ h))
shut_is false opens endpoint e o k h = ap ring_size k

some_ring : (capacity size : ℕ) → capacity ≡ size → 0 < size → 0 < capacity
some_ring capacity size e h = omega (arith, e, h)

pub sender : (set : Set) (session : Bool) (p : Pipes) (r : Rings) (pipe n : ℕ) → AreServed limits (endpoints_of set.config) → AreOf (opened set session) p → capacities_of r ≡ capacities_of (rings_of (endpoints_of set.config))
    → HasIn (endpoints_of set.config) pipe n → IsSender p r n
sender set session p r pipe n served are sizes none = record {
  to = omega arith;
  ring = λ h. absurd (omega (arith, h));
  capacity = λ h. absurd (true≢false (sym h));
  class = λ h. absurd (true≢false (sym h));
  shut = λ h. refl;
}
sender set session p r pipe n served are sizes (some m e from to is h) =
    let slot = in_slot_is set session p m e served are from to h in
    let c = in_capacity (endpoints_of set.config) r m e sizes from to h in
    record {
      to = to;
      ring = λ _. some_ring (in_ring r m).capacity (ring_size e) c (sized e.owner e.kind h.class);
      capacity = λ k. ring_is session (in_hears (in_slot p m)) (in_slot p m).endpoint e (in_ring r m).capacity slot.0 slot.1 c k;
      class = λ k. class_is session (in_hears (in_slot p m)) (in_slot p m).endpoint e slot.0 slot.1 h.class k;
      shut = λ k. shut_is session (in_hears (in_slot p m)) (in_slot p m).endpoint e slot.0 slot.1 k;
    }

pub receiver : (set : Set) (session : Bool) (p : Pipes) (r : Rings) (n : ℕ) → AreServed limits (endpoints_of set.config) → AreOf (opened set session) p → capacities_of r ≡ capacities_of (rings_of (endpoints_of set.config))
    → HasOut (endpoints_of set.config) n → IsReceiver p r n
receiver set session p r n served are sizes none = record {
  to = omega arith;
  ring = λ h. absurd (omega (arith, h));
  capacity = λ h. absurd (true≢false (sym h));
  class = λ h. absurd (true≢false (sym h));
  shut = λ h. refl;
}
receiver set session p r n served are sizes (some m e from to h) =
    let slot = out_slot_is set session p m e served are from to h in
    let c = out_capacity (endpoints_of set.config) r m e sizes from to h in
    record {
      to = to;
      ring = λ _. some_ring (out_ring r m).capacity (ring_size e) c (sized e.owner e.kind h.class);
      capacity = λ k. ring_is session (is_out_open (out_slot p m).pipe.phase) (out_slot p m).endpoint e (out_ring r m).capacity slot.0 slot.1 c k;
      class = λ k. class_is session (is_out_open (out_slot p m).pipe.phase) (out_slot p m).endpoint e slot.0 slot.1 h.class k;
      shut = λ k. shut_is session (is_out_open (out_slot p m).pipe.phase) (out_slot p m).endpoint e slot.0 slot.1 k;
    }
