-- Pipes of which only some are seen: by address, each step of those that are seen is that of the whole, and a step of one that isn't
-- seen is none.
use Rattle.std.proofs.Common.{◌≡◌, ℕ, zero, suc, ◌+◌, ◌-◌, ◌++◌, List, [], ◌∷◌, map, replicate, Bool, true, false, ◌||◌, ◌==◌, refl, ap, sym, ◌∙◌, arith}
use Rattle.std.specs.Prelude.{slice_index_or, slice_set, nat_lt, filter, ⊤, if◌then◌else◌, cond}
use Rattle.std.specs.List.{list_any, AllByRecursion}
use Rattle.usb_packet.specs.declared.bus.Owner.{Owner}
use Rattle.usb_descriptor.specs.declared.endpoint.Endpoint.{Endpoint}
use Rattle.usb_control.specs.Table.{is_at}
use Rattle.device_machine.specs.Pipes.{Pipes, OutSlot, InSlot, no_out_slot, no_in_slot, out_slot, in_slot, with_out_slot, with_in_slot, changed_at, pipes_unopened, out_slot_after_irq, in_slot_after_irq, pipes_after_irq, out_slot_after_task, in_slot_after_task, pipes_after_task, out_closed, in_closed, pipes_closed, out_opened, in_opened, with_endpoint_open, with_endpoints_open, session_pipes, out_cleared, in_cleared, without_halt_if, without_halts, addresses_of, halted_addresses}
use Rattle.device_owners.proofs.Sets.{up, same_number}

-- Lists.

-- a list with `none` in the place of each item that isn't seen
abbrev pub mask : {A : Type 0} → (ℕ → Bool) → A → List A → List A
mask seen none [] = []
mask seen none (x ∷ xs) = (if seen 0 then x else none) ∷ mask (λ n. seen (suc n)) none xs

-- an item that is seen
at_seen : {A : Type 0} (seen : ℕ → Bool) (none : A) (xs : List A) (n : ℕ) → seen n ≡ true → slice_index_or (mask seen none xs) n none ≡ slice_index_or xs n none
at_seen seen none [] n e = refl
at_seen seen none (x ∷ xs) zero e = ap (λ b. if b then x else none) e
at_seen seen none (x ∷ xs) (suc n) e = at_seen (λ m. seen (suc m)) none xs n e

-- it is changed
set_seen : {A : Type 0} (seen : ℕ → Bool) (none : A) (xs : List A) (n : ℕ) (x : A) → seen n ≡ true → slice_set (mask seen none xs) n x ≡ mask seen none (slice_set xs n x)
set_seen seen none [] n x e = refl
set_seen seen none (y ∷ ys) zero x e = ap (λ b. (if b then x else none) ∷ mask (λ m. seen (suc m)) none ys) (sym e)
set_seen seen none (y ∷ ys) (suc n) x e = ap (λ zs. (if seen 0 then y else none) ∷ zs) (set_seen (λ m. seen (suc m)) none ys n x e)

-- one that isn't seen is changed
set_unseen : {A : Type 0} (seen : ℕ → Bool) (none : A) (xs : List A) (n : ℕ) (x : A) → seen n ≡ false → mask seen none (slice_set xs n x) ≡ mask seen none xs
set_unseen seen none [] n x e = refl
set_unseen seen none (y ∷ ys) zero x e =
    ap (λ b. (if b then x else none) ∷ mask (λ m. seen (suc m)) none ys) e ∙ sym (ap (λ b. (if b then y else none) ∷ mask (λ m. seen (suc m)) none ys) e)
set_unseen seen none (y ∷ ys) (suc n) x e = ap (λ zs. (if seen 0 then y else none) ∷ zs) (set_unseen (λ m. seen (suc m)) none ys n x e)

-- an item is set to itself
set_itself : {A : Type 0} (none : A) (xs : List A) (n : ℕ) → slice_set xs n (slice_index_or xs n none) ≡ xs
set_itself none [] n = refl
set_itself none (x ∷ xs) zero = refl
set_itself none (x ∷ xs) (suc n) = ap (λ ys. x ∷ ys) (set_itself none xs n)

-- all items are changed, and `none` stays
mask_map : {A : Type 0} (seen : ℕ → Bool) (none : A) (f : A → A) → f none ≡ none → (xs : List A) → map f (mask seen none xs) ≡ mask seen none (map f xs)
mask_map seen none f e [] = refl
mask_map {A} seen none f e (x ∷ xs) =
    ap (λ y. y ∷ map f (mask (λ n. seen (suc n)) none xs)) (either (seen 0)) ∙ ap (λ ys. (if seen 0 then f x else none) ∷ ys) (mask_map (λ n. seen (suc n)) none f e xs)
  where
    either : (b : Bool) → f (if b then x else none) ≡ (if b then f x else none)
    either true = refl
    either false = e

mask_none : {A : Type 0} (seen : ℕ → Bool) (none : A) (n : ℕ) → mask seen none (replicate n none) ≡ replicate n none
mask_none seen none zero = refl
mask_none {A} seen none (suc n) = ap (λ y. y ∷ mask (λ m. seen (suc m)) none (replicate n none)) (either (seen 0)) ∙ ap (λ ys. none ∷ ys) (mask_none (λ m. seen (suc m)) none n)
  where
    either : (b : Bool) → (if b then none else none) ≡ none
    either true = refl
    either false = refl

-- Pipes.

-- the pipes at the addresses that are seen, with the others closed
abbrev pub masked : (ℕ → Bool) → Pipes → Pipes
masked seen p = record { outs = mask (λ n. seen (suc n)) no_out_slot p.outs; ins = mask (λ n. seen (128 + suc n)) no_in_slot p.ins }

-- whether the endpoint of a number is seen. There is none of number 0
abbrev pub OutIs : (ℕ → Bool) → Bool → ℕ → Type 0
OutIs seen b zero = ⊤
OutIs seen b (suc n) = seen (suc n) ≡ b

abbrev pub InIs : (ℕ → Bool) → Bool → ℕ → Type 0
InIs seen b zero = ⊤
InIs seen b (suc n) = seen (128 + suc n) ≡ b

pub out_is : (seen : ℕ → Bool) (b : Bool) (n : ℕ) → seen n ≡ b → OutIs seen b n
out_is seen b zero e = tt
out_is seen b (suc n) e = e

pub in_is : (seen : ℕ → Bool) (b : Bool) (n : ℕ) → seen (128 + n) ≡ b → InIs seen b n
in_is seen b zero e = tt
in_is seen b (suc n) e = e

in_is_at : (seen : ℕ → Bool) (b : Bool) (a : ℕ) → nat_lt a 128 ≡ false → seen a ≡ b → InIs seen b (a - 128)
in_is_at seen b a high e = in_is seen b (a - 128) (ap seen (up a high) ∙ e)

-- an endpoint that is seen, and a change of it
pub out_seen : (seen : ℕ → Bool) (p : Pipes) (n : ℕ) → OutIs seen true n → out_slot (masked seen p) n ≡ out_slot p n
out_seen seen p zero e = refl
out_seen seen p (suc n) e = at_seen (λ m. seen (suc m)) no_out_slot p.outs n e

pub in_seen : (seen : ℕ → Bool) (p : Pipes) (n : ℕ) → InIs seen true n → in_slot (masked seen p) n ≡ in_slot p n
in_seen seen p zero e = refl
in_seen seen p (suc n) e = at_seen (λ m. seen (128 + suc m)) no_in_slot p.ins n e

pub with_out_seen : (seen : ℕ → Bool) (p : Pipes) (n : ℕ) (x : OutSlot) → OutIs seen true n → with_out_slot (masked seen p) n x ≡ masked seen (with_out_slot p n x)
with_out_seen seen p zero x e = refl
with_out_seen seen p (suc n) x e = ap (λ (xs : List OutSlot). record (masked seen p) { outs = xs }) (set_seen (λ m. seen (suc m)) no_out_slot p.outs n x e)

pub with_in_seen : (seen : ℕ → Bool) (p : Pipes) (n : ℕ) (x : InSlot) → InIs seen true n → with_in_slot (masked seen p) n x ≡ masked seen (with_in_slot p n x)
with_in_seen seen p zero x e = refl
with_in_seen seen p (suc n) x e = ap (λ (xs : List InSlot). record (masked seen p) { ins = xs }) (set_seen (λ m. seen (128 + suc m)) no_in_slot p.ins n x e)

-- and of one that isn't seen
pub with_out_unseen : (seen : ℕ → Bool) (p : Pipes) (n : ℕ) (x : OutSlot) → OutIs seen false n → masked seen (with_out_slot p n x) ≡ masked seen p
with_out_unseen seen p zero x e = refl
with_out_unseen seen p (suc n) x e = ap (λ (xs : List OutSlot). record (masked seen p) { outs = xs }) (set_unseen (λ m. seen (suc m)) no_out_slot p.outs n x e)

pub with_in_unseen : (seen : ℕ → Bool) (p : Pipes) (n : ℕ) (x : InSlot) → InIs seen false n → masked seen (with_in_slot p n x) ≡ masked seen p
with_in_unseen seen p zero x e = refl
with_in_unseen seen p (suc n) x e = ap (λ (xs : List InSlot). record (masked seen p) { ins = xs }) (set_unseen (λ m. seen (128 + suc m)) no_in_slot p.ins n x e)

-- one that is set to itself
pub out_itself : (p : Pipes) (n : ℕ) → with_out_slot p n (out_slot p n) ≡ p
out_itself p zero = refl
out_itself p (suc n) = ap (λ (xs : List OutSlot). record p { outs = xs }) (set_itself no_out_slot p.outs n)

pub in_itself : (p : Pipes) (n : ℕ) → with_in_slot p n (in_slot p n) ≡ p
in_itself p zero = refl
in_itself p (suc n) = ap (λ (xs : List InSlot). record p { ins = xs }) (set_itself no_in_slot p.ins n)

abbrev pipes_of : List OutSlot → List InSlot → Pipes
pipes_of outs ins = record { outs = outs; ins = ins }

both : (a b : List OutSlot) (c d : List InSlot) → a ≡ b → c ≡ d → pipes_of a c ≡ pipes_of b d
both a b c d e k = ap (λ (xs : List OutSlot). record { outs = xs; ins = c }) e ∙ ap (λ (xs : List InSlot). record { outs = b; ins = xs }) k

-- a change of all
each_seen : (seen : ℕ → Bool) (p : Pipes) (f : OutSlot → OutSlot) (g : InSlot → InSlot) → f no_out_slot ≡ no_out_slot → g no_in_slot ≡ no_in_slot
    → pipes_of (map f (masked seen p).outs) (map g (masked seen p).ins) ≡ masked seen (pipes_of (map f p.outs) (map g p.ins))
each_seen seen p f g e k =
    both (map f (masked seen p).outs) (mask (λ n. seen (suc n)) no_out_slot (map f p.outs)) (map g (masked seen p).ins) (mask (λ n. seen (128 + suc n)) no_in_slot (map g p.ins))
    (mask_map (λ n. seen (suc n)) no_out_slot f e p.outs) (mask_map (λ n. seen (128 + suc n)) no_in_slot g k p.ins)

pub irq_seen : (seen : ℕ → Bool) (p : Pipes) → pipes_after_irq (masked seen p) ≡ masked seen (pipes_after_irq p)
irq_seen seen p = each_seen seen p out_slot_after_irq in_slot_after_irq refl refl

pub task_seen : (seen : ℕ → Bool) (p : Pipes) → pipes_after_task (masked seen p) ≡ masked seen (pipes_after_task p)
task_seen seen p = each_seen seen p out_slot_after_task in_slot_after_task refl refl

closed_seen : (seen : ℕ → Bool) (p : Pipes) → pipes_closed (masked seen p) ≡ masked seen (pipes_closed p)
closed_seen seen p = each_seen seen p out_closed in_closed refl refl

pub unopened_seen : (seen : ℕ → Bool) → pipes_unopened ≡ masked seen pipes_unopened
unopened_seen seen = sym (both _ _ _ _ (mask_none (λ n. seen (suc n)) no_out_slot 15) (mask_none (λ n. seen (128 + suc n)) no_in_slot 15))

-- At an address.

changed_by : (seen : ℕ → Bool) (f : OutSlot → OutSlot) (g : InSlot → InSlot) (p : Pipes) (a : ℕ) (low : Bool) → nat_lt a 128 ≡ low → seen a ≡ true
    → (if low then with_out_slot (masked seen p) a (f (out_slot (masked seen p) a)) else with_in_slot (masked seen p) (a - 128) (g (in_slot (masked seen p) (a - 128))))
    ≡ masked seen (if low then with_out_slot p a (f (out_slot p a)) else with_in_slot p (a - 128) (g (in_slot p (a - 128))))
changed_by seen f g p a true k e =
    let is = out_is seen true a e in
    ap (λ s. with_out_slot (masked seen p) a (f s)) (out_seen seen p a is) ∙ with_out_seen seen p a (f (out_slot p a)) is
changed_by seen f g p a false k e =
    let is = in_is_at seen true a k e in
    ap (λ s. with_in_slot (masked seen p) (a - 128) (g s)) (in_seen seen p (a - 128) is) ∙ with_in_seen seen p (a - 128) (g (in_slot p (a - 128))) is

pub changed_seen : (seen : ℕ → Bool) (f : OutSlot → OutSlot) (g : InSlot → InSlot) (p : Pipes) (a : ℕ) → seen a ≡ true → changed_at f g (masked seen p) a ≡ masked seen (changed_at f g p a)
changed_seen seen f g p a e = changed_by seen f g p a (nat_lt a 128) refl e

unchanged_by : (seen : ℕ → Bool) (f : OutSlot → OutSlot) (g : InSlot → InSlot) (p : Pipes) (a : ℕ) (low : Bool) → nat_lt a 128 ≡ low → seen a ≡ false
    → masked seen (if low then with_out_slot p a (f (out_slot p a)) else with_in_slot p (a - 128) (g (in_slot p (a - 128)))) ≡ masked seen p
unchanged_by seen f g p a true k e = with_out_unseen seen p a (f (out_slot p a)) (out_is seen false a e)
unchanged_by seen f g p a false k e = with_in_unseen seen p (a - 128) (g (in_slot p (a - 128))) (in_is_at seen false a k e)

pub changed_unseen : (seen : ℕ → Bool) (f : OutSlot → OutSlot) (g : InSlot → InSlot) (p : Pipes) (a : ℕ) → seen a ≡ false → masked seen (changed_at f g p a) ≡ masked seen p
changed_unseen seen f g p a e = unchanged_by seen f g p a (nat_lt a 128) refl e

-- what is told of the endpoint at an address that is seen
pub told_at : {B : Type 0} (seen : ℕ → Bool) (f : OutSlot → B) (g : InSlot → B) (p : Pipes) (a : ℕ) → seen a ≡ true
    → (if nat_lt a 128 then f (out_slot (masked seen p) a) else g (in_slot (masked seen p) (a - 128))) ≡ (if nat_lt a 128 then f (out_slot p a) else g (in_slot p (a - 128)))
told_at {B} seen f g p a e = by (nat_lt a 128) refl
  where
    by : (low : Bool) → nat_lt a 128 ≡ low → (if low then f (out_slot (masked seen p) a) else g (in_slot (masked seen p) (a - 128))) ≡ (if low then f (out_slot p a) else g (in_slot p (a - 128)))
    by true k = ap f (out_seen seen p a (out_is seen true a e))
    by false k = ap g (in_seen seen p (a - 128) (in_is_at seen true a k e))

-- Halts end at addresses that are named.

pub halts_seen : (seen named : ℕ → Bool) → ((a : ℕ) → named a ≡ true → seen a ≡ true) → (p : Pipes) (es : List Endpoint)
    → without_halts named (masked seen p) es ≡ masked seen (without_halts named p es)
halts_seen seen named h p [] = refl
halts_seen seen named h p (e ∷ es) =
    ap (λ q. without_halts named q es) (by (named e.addr) refl) ∙ halts_seen seen named h (without_halt_if (named e.addr) p e.addr) es
  where
    by : (b : Bool) → named e.addr ≡ b → without_halt_if b (masked seen p) e.addr ≡ masked seen (without_halt_if b p e.addr)
    by true k = changed_seen seen out_cleared in_cleared p e.addr (h e.addr k)
    by false k = refl

pub halts_unseen : (seen named : ℕ → Bool) → ((a : ℕ) → named a ≡ true → seen a ≡ false) → (p : Pipes) (es : List Endpoint)
    → masked seen (without_halts named p es) ≡ masked seen p
halts_unseen seen named h p [] = refl
halts_unseen seen named h p (e ∷ es) =
    halts_unseen seen named h (without_halt_if (named e.addr) p e.addr) es ∙ by (named e.addr) refl
  where
    by : (b : Bool) → named e.addr ≡ b → masked seen (without_halt_if b p e.addr) ≡ masked seen p
    by true k = changed_unseen seen out_cleared in_cleared p e.addr (h e.addr k)
    by false k = refl

-- A session begins with the endpoints whose owners are known, which are those at the addresses that are seen.

opens_seen : (seen : ℕ → Bool) (known : Owner → Bool) (es : List Endpoint) → AllByRecursion (λ e. seen e.addr ≡ known e.owner) es → (p : Pipes)
    → with_endpoints_open (masked seen p) (filter (λ (e : Endpoint). known e.owner) es) ≡ masked seen (with_endpoints_open p es)
opens_seen seen known [] h p = refl
opens_seen seen known (e ∷ es) (h, hs) p = by (known e.owner) h (λ q. opens_seen seen known es hs q)
  where
    by : (b : Bool) → seen e.addr ≡ b → ((q : Pipes) → with_endpoints_open (masked seen q) (filter (λ (x : Endpoint). known x.owner) es) ≡ masked seen (with_endpoints_open q es))
        → with_endpoints_open (masked seen p) (cond b (e ∷ filter (λ (x : Endpoint). known x.owner) es) (filter (λ (x : Endpoint). known x.owner) es)) ≡ masked seen (with_endpoints_open p (e ∷ es))
    by true k ih = ap (λ q. with_endpoints_open q (filter (λ (x : Endpoint). known x.owner) es)) (changed_seen seen (out_opened e) (in_opened e) p e.addr k) ∙ ih (with_endpoint_open p e)
    by false k ih =
        ap (λ q. with_endpoints_open q (filter (λ (x : Endpoint). known x.owner) es)) (sym (changed_unseen seen (out_opened e) (in_opened e) p e.addr k)) ∙ ih (with_endpoint_open p e)

pub session_seen : (seen : ℕ → Bool) (known : Owner → Bool) (es : List Endpoint) → AllByRecursion (λ e. seen e.addr ≡ known e.owner) es → (p : Pipes)
    → session_pipes (filter (λ (e : Endpoint). known e.owner) es) (masked seen p) ≡ masked seen (session_pipes es p)
session_seen seen known es h p =
    ap (λ q. with_endpoints_open q (filter (λ (e : Endpoint). known e.owner) es)) (closed_seen seen p) ∙ opens_seen seen known es h (pipes_closed p)

-- A halt at an address that is seen is told.

-- whether an address is among these, where it is among the first exactly if this is so
abbrev with_flag : ℕ → ℕ → Bool → List ℕ → Bool
with_flag a start b ys = list_any (is_at a) (if b then start ∷ ys else ys)

flag_of : {A : Type 0} (halted : A → Bool) (none : A) → halted none ≡ false → (seen : ℕ → Bool) (start a : ℕ) (xs : List A) → ((n : ℕ) → start + n ≡ a → seen n ≡ true)
    → list_any (is_at a) (addresses_of start (map halted (mask seen none xs))) ≡ list_any (is_at a) (addresses_of start (map halted xs))
flag_of halted none e seen start a [] h = refl
flag_of {A} halted none e seen start a (x ∷ xs) h =
    by (seen 0) refl (flag_of halted none e (λ n. seen (suc n)) (start + 1) a xs (λ n k. h (suc n) (next start n a k)))
  where
    next : (start n a : ℕ) → (start + 1) + n ≡ a → start + suc n ≡ a
    next start n a k = omega (arith, k)

    split : (b : Bool) (ys zs : List ℕ) → list_any (is_at a) ys ≡ list_any (is_at a) zs → with_flag a start b ys ≡ with_flag a start b zs
    split true ys zs k = ap (λ c. (start == a) || c) k
    split false ys zs k = k

    zero_up : (start : ℕ) → start + 0 ≡ start
    zero_up start = omega arith

    other : (c : Bool) → (start == a) ≡ c → seen 0 ≡ false → c ≡ false
    other true k l = sym (h 0 (zero_up start ∙ same_number start a k)) ∙ l
    other false k l = refl

    drop_flag : (b : Bool) (ys : List ℕ) → (start == a) ≡ false → with_flag a start b ys ≡ list_any (is_at a) ys
    drop_flag true ys k = ap (λ c. c || list_any (is_at a) ys) k
    drop_flag false ys k = refl

    by : (b : Bool) → seen 0 ≡ b
        → list_any (is_at a) (addresses_of (start + 1) (map halted (mask (λ n. seen (suc n)) none xs))) ≡ list_any (is_at a) (addresses_of (start + 1) (map halted xs))
        → with_flag a start (halted (if b then x else none)) (addresses_of (start + 1) (map halted (mask (λ n. seen (suc n)) none xs)))
        ≡ with_flag a start (halted x) (addresses_of (start + 1) (map halted xs))
    by true k tail = split (halted x) _ _ tail
    by false k tail =
        ap (λ c. with_flag a start c (addresses_of (start + 1) (map halted (mask (λ n. seen (suc n)) none xs)))) e ∙ tail
        ∙ sym (drop_flag (halted x) (addresses_of (start + 1) (map halted xs)) (other (start == a) refl k))

any_append : (f : ℕ → Bool) (xs ys : List ℕ) → list_any f (xs ++ ys) ≡ (list_any f xs || list_any f ys)
any_append f [] ys = refl
any_append f (x ∷ xs) ys = ap (λ b. f x || b) (any_append f xs ys) ∙ or_assoc (f x) (list_any f xs) (list_any f ys)
  where
    or_assoc : (a b c : Bool) → (a || (b || c)) ≡ ((a || b) || c)
    or_assoc true b c = refl
    or_assoc false b c = refl

abbrev out_flag : OutSlot → Bool
out_flag s = s.pipe.halted

abbrev in_flag : InSlot → Bool
in_flag s = s.pipe.halted

abbrev outs : Pipes → List ℕ
outs q = addresses_of 1 (map out_flag q.outs)

abbrev ins : Pipes → List ℕ
ins q = addresses_of 129 (map in_flag q.ins)

pub halt_told : (seen : ℕ → Bool) (p : Pipes) (a : ℕ) → seen a ≡ true → list_any (is_at a) (halted_addresses (masked seen p)) ≡ list_any (is_at a) (halted_addresses p)
halt_told seen p a e =
    any_append (is_at a) (outs (masked seen p)) (ins (masked seen p))
    ∙ ap (λ b. b || list_any (is_at a) (ins (masked seen p))) (flag_of out_flag no_out_slot refl (λ n. seen (suc n)) 1 a p.outs (λ n k. ap seen (one n a k) ∙ e))
    ∙ ap (λ b. list_any (is_at a) (outs p) || b) (flag_of in_flag no_in_slot refl (λ n. seen (128 + suc n)) 129 a p.ins (λ n k. ap seen (high n a k) ∙ e))
    ∙ sym (any_append (is_at a) (outs p) (ins p))
  where
    one : (n a : ℕ) → 1 + n ≡ a → suc n ≡ a
    one n a k = omega (arith, k)

    high : (n a : ℕ) → 129 + n ≡ a → 128 + suc n ≡ a
    high n a k = omega (arith, k)
