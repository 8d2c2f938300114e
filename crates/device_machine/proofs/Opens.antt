-- What a session opens is what it has.
use Rattle.std.proofs.Common.{◌≡◌, ◌≢◌, ℕ, zero, suc, ◌+◌, ◌-◌, ◌<◌, List, [], ◌∷◌, length, map, replicate, Bool, true, false, ◌||◌, ◌==◌, if◌then◌else◌, refl, ap, sym, ◌∙◌, arith, subst}
use Rattle.std.specs.Prelude.{slice_index_or, slice_set, nat_lt}
use Rattle.std.specs.List.{list_any}
use Rattle.std.proofs.lemmas.Bool.{or_right}
use Rattle.std.proofs.lemmas.Bool.Decides.{nat_tests}
use Rattle.std.proofs.lemmas.List.{get_or-set_other, length-set, length-map, length-replicate}
use Rattle.std.proofs.lemmas.Grind.{get_or-set_at}
use Rattle.usb_descriptor.specs.declared.endpoint.Endpoint.{Endpoint}
use Rattle.usb_descriptor.specs.Set.{is_addressed}
use Rattle.device_pipe.specs.OutPipe as out
use Rattle.device_machine.specs.Pipes.{Pipes, OutSlot, InSlot, no_endpoint, no_out_slot, no_in_slot, pipes_unopened, out_slot, in_slot, with_out_slot, with_in_slot, is_out_open, in_hears, pipes_closed, out_closed, in_closed, with_endpoint_open, with_endpoints_open, session_pipes, out_opened as opened_out, in_opened as opened_in}
use Rattle.device_machine.specs.Laws.{endpoint_at, AreOf, IsOutOf, IsInOf}
use Rattle.device_machine.proofs.Slots.{Opened, out_opened, in_opened}

-- Opening.

-- an endpoint that is open, or not
abbrev pub at : Endpoint → Bool → Opened
at e opens = record { endpoint = e; opens = opens }

ne_test : (a b : ℕ) → a ≢ b → (a == b) ≡ false
ne_test a b e = grind (arith, nat_tests)

same_of : (a b : ℕ) → (a == b) ≡ true → a ≡ b
same_of a b e = grind (arith, nat_tests)

other_of : (a b : ℕ) → (a == b) ≡ false → a ≢ b
other_of a b e = grind (arith, nat_tests)

out_set_by : (xs : List OutSlot) (m n : ℕ) (x : OutSlot) (b : Bool) → (suc m == suc n) ≡ b → n < length xs
    → slice_index_or (slice_set xs m x) n no_out_slot ≡ (if b then x else slice_index_or xs n no_out_slot)
out_set_by xs m n x true e h = get_or-set_at xs m n x no_out_slot (back m n (same_of (suc m) (suc n) e)) (subst (λ y. y < length xs) (back m n (same_of (suc m) (suc n) e)) h)
  where
    back : (m n : ℕ) → suc m ≡ suc n → n ≡ m
    back m n e = omega arith
out_set_by xs m n x false e h = get_or-set_other xs m n x no_out_slot (λ k. other_of (suc m) (suc n) e (ap suc (sym k)))

in_set_by : (xs : List InSlot) (m n : ℕ) (x : InSlot) (b : Bool) → (suc m == suc n) ≡ b → n < length xs
    → slice_index_or (slice_set xs m x) n no_in_slot ≡ (if b then x else slice_index_or xs n no_in_slot)
in_set_by xs m n x true e h = get_or-set_at xs m n x no_in_slot (back m n (same_of (suc m) (suc n) e)) (subst (λ y. y < length xs) (back m n (same_of (suc m) (suc n) e)) h)
  where
    back : (m n : ℕ) → suc m ≡ suc n → n ≡ m
    back m n e = omega arith
in_set_by xs m n x false e h = get_or-set_other xs m n x no_in_slot (λ k. other_of (suc m) (suc n) e (ap suc (sym k)))

out_set : (p : Pipes) (a n : ℕ) (x : OutSlot) → n < length p.outs → out_slot (with_out_slot p a x) (suc n) ≡ (if a == suc n then x else out_slot p (suc n))
out_set p zero n x h = ap (λ b. if b then x else out_slot p (suc n)) (sym (ne_test 0 (suc n) (zero_not n)))
  where
    zero_not : (n : ℕ) → 0 ≢ suc n
    zero_not n e = omega (arith, e)
out_set p (suc m) n x h = out_set_by p.outs m n x (suc m == suc n) refl h

in_set : (p : Pipes) (a n : ℕ) (x : InSlot) → n < length p.ins → in_slot (with_in_slot p a x) (suc n) ≡ (if a == suc n then x else in_slot p (suc n))
in_set p zero n x h = ap (λ b. if b then x else in_slot p (suc n)) (sym (ne_test 0 (suc n) (zero_not n)))
  where
    zero_not : (n : ℕ) → 0 ≢ suc n
    zero_not n e = omega (arith, e)
in_set p (suc m) n x h = in_set_by p.ins m n x (suc m == suc n) refl h

opens_out : (e : Endpoint) (s : OutSlot) → out_opened (opened_out e s) ≡ at e true
opens_out e s = ap (λ b. record { endpoint = e; opens = b }) (by (out.leaves_packet s.pipe.phase))
  where
    by : (b : Bool) → is_out_open (if b then out.Stale else out.Rest) ≡ true
    by true = refl
    by false = refl

opens_in : (e : Endpoint) (s : InSlot) → in_opened (opened_in e s) ≡ at e true
opens_in e s = refl

or_false : (b : Bool) → (b || false) ≡ b
or_false true = refl
or_false false = refl

or_assoc : (a b c : Bool) → ((a || b) || c) ≡ (a || (b || c))
or_assoc true b c = refl
or_assoc false b c = refl

stays_out : (s : OutSlot) → out_opened s ≡ at s.endpoint (is_out_open s.pipe.phase || false)
stays_out s = ap (at s.endpoint) (sym (or_false (is_out_open s.pipe.phase)))

stays_in : (s : InSlot) → in_opened s ≡ at s.endpoint (in_hears s || false)
stays_in s = ap (at s.endpoint) (sym (or_false (in_hears s)))

out_choice : (e : Endpoint) (s : OutSlot) (b : Bool) → out_opened (if b then opened_out e s else s) ≡ at (if b then e else s.endpoint) (is_out_open s.pipe.phase || b)
out_choice e s true = opens_out e s ∙ ap (at e) (sym (or_right (is_out_open s.pipe.phase) true refl))
out_choice e s false = stays_out s

in_choice : (e : Endpoint) (s : InSlot) (b : Bool) → in_opened (if b then opened_in e s else s) ≡ at (if b then e else s.endpoint) (in_hears s || b)
in_choice e s true = opens_in e s ∙ ap (at e) (sym (or_right (in_hears s) true refl))
in_choice e s false = stays_in s

-- what is known of a slot, one level up
spread : (a : ℕ) (es : List Endpoint) (s : OutSlot) (e : Endpoint) (b : Bool) → out_opened s ≡ at e b
    → at (endpoint_at a s.endpoint es) (is_out_open s.pipe.phase || list_any (is_addressed a) es) ≡ at (endpoint_at a e es) (b || list_any (is_addressed a) es)
spread a es s e b h = ap (λ (x : Opened). record { endpoint = endpoint_at a x.endpoint es; opens = x.opens || list_any (is_addressed a) es }) h

spread_in : (a : ℕ) (es : List Endpoint) (s : InSlot) (e : Endpoint) (b : Bool) → in_opened s ≡ at e b
    → at (endpoint_at a s.endpoint es) (in_hears s || list_any (is_addressed a) es) ≡ at (endpoint_at a e es) (b || list_any (is_addressed a) es)
spread_in a es s e b h = ap (λ (x : Opened). record { endpoint = endpoint_at a x.endpoint es; opens = x.opens || list_any (is_addressed a) es }) h

based : (a : ℕ) (es : List Endpoint) (s : OutSlot) → out_opened s ≡ at no_endpoint false
    → at (endpoint_at a s.endpoint es) (is_out_open s.pipe.phase || list_any (is_addressed a) es) ≡ at (endpoint_at a no_endpoint es) (list_any (is_addressed a) es)
based a es s h = spread a es s no_endpoint false h

based_in : (a : ℕ) (es : List Endpoint) (s : InSlot) → in_opened s ≡ at no_endpoint false
    → at (endpoint_at a s.endpoint es) (in_hears s || list_any (is_addressed a) es) ≡ at (endpoint_at a no_endpoint es) (list_any (is_addressed a) es)
based_in a es s h = spread_in a es s no_endpoint false h

-- one endpoint is opened

low_of : (a n : ℕ) → n < 15 → nat_lt a 128 ≡ false → (a == suc n) ≡ false
low_of a n h e = grind (arith, nat_tests)

high_of : (a n : ℕ) → nat_lt a 128 ≡ true → (a == 128 + suc n) ≡ false
high_of a n e = grind (arith, nat_tests)

moved_of : (a n : ℕ) → nat_lt a 128 ≡ false → ((a - 128) == suc n) ≡ (a == 128 + suc n)
moved_of a n e = grind (arith, nat_tests)

pub out_by : (p : Pipes) (e : Endpoint) (n : ℕ) (low : Bool) → nat_lt e.addr 128 ≡ low → n < 15 → length p.outs ≡ 15
    → out_opened (out_slot (if low then with_out_slot p e.addr (opened_out e (out_slot p e.addr)) else with_in_slot p (e.addr - 128) (opened_in e (in_slot p (e.addr - 128)))) (suc n))
    ≡ at (if e.addr == suc n then e else (out_slot p (suc n)).endpoint) (is_out_open (out_slot p (suc n)).pipe.phase || (e.addr == suc n))
out_by p e n true k h c = ap out_opened (out_set p e.addr n (opened_out e (out_slot p e.addr)) (subst (λ x. n < x) (sym c) h) ∙ same (e.addr == suc n) refl) ∙ out_choice e (out_slot p (suc n)) (e.addr == suc n)
  where
    same : (b : Bool) → (e.addr == suc n) ≡ b → (if b then opened_out e (out_slot p e.addr) else out_slot p (suc n)) ≡ (if b then opened_out e (out_slot p (suc n)) else out_slot p (suc n))
    same true i = ap (λ x. opened_out e (out_slot p x)) (same_of e.addr (suc n) i)
    same false i = refl
out_by p e n false k h c = ap out_opened (other (e.addr - 128)) ∙ stays_out (out_slot p (suc n)) ∙ ap (λ b. at (if b then e else (out_slot p (suc n)).endpoint) (is_out_open (out_slot p (suc n)).pipe.phase || b)) (sym (low_of e.addr n h k))
  where
    other : (m : ℕ) → out_slot (with_in_slot p m (opened_in e (in_slot p m))) (suc n) ≡ out_slot p (suc n)
    other zero = refl
    other (suc m) = refl

pub in_by : (p : Pipes) (e : Endpoint) (n : ℕ) (low : Bool) → nat_lt e.addr 128 ≡ low → n < 15 → length p.ins ≡ 15
    → in_opened (in_slot (if low then with_out_slot p e.addr (opened_out e (out_slot p e.addr)) else with_in_slot p (e.addr - 128) (opened_in e (in_slot p (e.addr - 128)))) (suc n))
    ≡ at (if e.addr == 128 + suc n then e else (in_slot p (suc n)).endpoint) (in_hears (in_slot p (suc n)) || (e.addr == 128 + suc n))
in_by p e n false k h c =
    ap in_opened (in_set p (e.addr - 128) n (opened_in e (in_slot p (e.addr - 128))) (subst (λ x. n < x) (sym c) h))
    ∙ in_choice e (in_slot p (suc n)) ((e.addr - 128) == suc n)
    ∙ ap (λ b. at (if b then e else (in_slot p (suc n)).endpoint) (in_hears (in_slot p (suc n)) || b)) (moved_of e.addr n k)
in_by p e n true k h c = ap in_opened (other e.addr) ∙ stays_in (in_slot p (suc n)) ∙ ap (λ b. at (if b then e else (in_slot p (suc n)).endpoint) (in_hears (in_slot p (suc n)) || b)) (sym (high_of e.addr n k))
  where
    other : (m : ℕ) → in_slot (with_out_slot p m (opened_out e (out_slot p m))) (suc n) ≡ in_slot p (suc n)
    other zero = refl
    other (suc m) = refl

count_outs : (p : Pipes) (m : ℕ) (x : OutSlot) → length (with_out_slot p m x).outs ≡ length p.outs
count_outs p zero x = refl
count_outs p (suc m) x = length-set p.outs m x

count_ins : (p : Pipes) (m : ℕ) (x : InSlot) → length (with_in_slot p m x).ins ≡ length p.ins
count_ins p zero x = refl
count_ins p (suc m) x = length-set p.ins m x

same_outs : (p : Pipes) (m : ℕ) (x : InSlot) → (with_in_slot p m x).outs ≡ p.outs
same_outs p zero x = refl
same_outs p (suc m) x = refl

same_ins : (p : Pipes) (m : ℕ) (x : OutSlot) → (with_out_slot p m x).ins ≡ p.ins
same_ins p zero x = refl
same_ins p (suc m) x = refl

pub outs_stay : (p : Pipes) (e : Endpoint) → length (with_endpoint_open p e).outs ≡ length p.outs
outs_stay p e = by (nat_lt e.addr 128)
  where
    by : (b : Bool) → length (if b then with_out_slot p e.addr (opened_out e (out_slot p e.addr)) else with_in_slot p (e.addr - 128) (opened_in e (in_slot p (e.addr - 128)))).outs ≡ length p.outs
    by true = count_outs p e.addr (opened_out e (out_slot p e.addr))
    by false = ap length (same_outs p (e.addr - 128) (opened_in e (in_slot p (e.addr - 128))))

pub ins_stay : (p : Pipes) (e : Endpoint) → length (with_endpoint_open p e).ins ≡ length p.ins
ins_stay p e = by (nat_lt e.addr 128)
  where
    by : (b : Bool) → length (if b then with_out_slot p e.addr (opened_out e (out_slot p e.addr)) else with_in_slot p (e.addr - 128) (opened_in e (in_slot p (e.addr - 128)))).ins ≡ length p.ins
    by true = ap length (same_ins p e.addr (opened_out e (out_slot p e.addr)))
    by false = count_ins p (e.addr - 128) (opened_in e (in_slot p (e.addr - 128)))

-- all of them

counted : (es : List Endpoint) (p : Pipes) → length (with_endpoints_open p es).outs ≡ length p.outs
counted [] p = refl
counted (e ∷ es) p = counted es (with_endpoint_open p e) ∙ outs_stay p e

counted_ins : (es : List Endpoint) (p : Pipes) → length (with_endpoints_open p es).ins ≡ length p.ins
counted_ins [] p = refl
counted_ins (e ∷ es) p = counted_ins es (with_endpoint_open p e) ∙ ins_stay p e

outs_opened : (es : List Endpoint) (p : Pipes) (n : ℕ) → n < 15 → length p.outs ≡ 15
    → out_opened (out_slot (with_endpoints_open p es) (suc n)) ≡ at (endpoint_at (suc n) (out_slot p (suc n)).endpoint es) (is_out_open (out_slot p (suc n)).pipe.phase || list_any (is_addressed (suc n)) es)
outs_opened [] p n h c = stays_out (out_slot p (suc n))
outs_opened (e ∷ es) p n h c =
    let next = with_endpoint_open p e in
    let one = out_by p e n (nat_lt e.addr 128) refl h c in
    outs_opened es next n h (outs_stay p e ∙ c)
    ∙ spread (suc n) es (out_slot next (suc n)) (if e.addr == suc n then e else (out_slot p (suc n)).endpoint) (is_out_open (out_slot p (suc n)).pipe.phase || (e.addr == suc n)) one
    ∙ ap (at (endpoint_at (suc n) (if e.addr == suc n then e else (out_slot p (suc n)).endpoint) es)) (or_assoc (is_out_open (out_slot p (suc n)).pipe.phase) (e.addr == suc n) (list_any (is_addressed (suc n)) es))

ins_opened : (es : List Endpoint) (p : Pipes) (n : ℕ) → n < 15 → length p.ins ≡ 15
    → in_opened (in_slot (with_endpoints_open p es) (suc n)) ≡ at (endpoint_at (128 + suc n) (in_slot p (suc n)).endpoint es) (in_hears (in_slot p (suc n)) || list_any (is_addressed (128 + suc n)) es)
ins_opened [] p n h c = stays_in (in_slot p (suc n))
ins_opened (e ∷ es) p n h c =
    let next = with_endpoint_open p e in
    let one = in_by p e n (nat_lt e.addr 128) refl h c in
    ins_opened es next n h (ins_stay p e ∙ c)
    ∙ spread_in (128 + suc n) es (in_slot next (suc n)) (if e.addr == 128 + suc n then e else (in_slot p (suc n)).endpoint) (in_hears (in_slot p (suc n)) || (e.addr == 128 + suc n)) one
    ∙ ap (at (endpoint_at (128 + suc n) (if e.addr == 128 + suc n then e else (in_slot p (suc n)).endpoint) es)) (or_assoc (in_hears (in_slot p (suc n))) (e.addr == 128 + suc n) (list_any (is_addressed (128 + suc n)) es))

-- At the start, and where a session ends.

none_opened : (n k : ℕ) → slice_index_or (replicate k no_out_slot) n no_out_slot ≡ no_out_slot
none_opened n zero = refl
none_opened zero (suc k) = refl
none_opened (suc n) (suc k) = none_opened n k

none_opened_in : (n k : ℕ) → slice_index_or (replicate k no_in_slot) n no_in_slot ≡ no_in_slot
none_opened_in n zero = refl
none_opened_in zero (suc k) = refl
none_opened_in (suc n) (suc k) = none_opened_in n k

pub unopened_of : AreOf [] pipes_unopened
unopened_of = record {
  outs = λ n few. record { endpoint = ap (λ (s : OutSlot). s.endpoint) (none_opened n 15); opens = ap (λ (s : OutSlot). is_out_open s.pipe.phase) (none_opened n 15) };
  ins = λ n few. record { endpoint = ap (λ (s : InSlot). s.endpoint) (none_opened_in n 15); opens = ap in_hears (none_opened_in n 15) };
  outs_count = length-replicate 15 no_out_slot;
  ins_count = length-replicate 15 no_in_slot;
}

closed_out : (xs : List OutSlot) (n : ℕ) → out_opened (slice_index_or (map out_closed xs) n no_out_slot) ≡ at no_endpoint false
closed_out [] n = refl
closed_out (x ∷ xs) zero = refl
closed_out (x ∷ xs) (suc n) = closed_out xs n

closed_in : (xs : List InSlot) (n : ℕ) → in_opened (slice_index_or (map in_closed xs) n no_in_slot) ≡ at no_endpoint false
closed_in [] n = refl
closed_in (x ∷ xs) zero = refl
closed_in (x ∷ xs) (suc n) = closed_in xs n

pub closed_of : (p : Pipes) → length p.outs ≡ 15 → length p.ins ≡ 15 → AreOf [] (pipes_closed p)
closed_of p co ci = record {
  outs = λ n few. record { endpoint = ap (λ (s : Opened). s.endpoint) (closed_out p.outs n); opens = ap (λ (s : Opened). s.opens) (closed_out p.outs n) };
  ins = λ n few. record { endpoint = ap (λ (s : Opened). s.endpoint) (closed_in p.ins n); opens = ap (λ (s : Opened). s.opens) (closed_in p.ins n) };
  outs_count = length-map p.outs out_closed ∙ co;
  ins_count = length-map p.ins in_closed ∙ ci;
}

-- where none is open, these are opened
pub opened_from : (es : List Endpoint) (p : Pipes) → AreOf [] p → AreOf es (with_endpoints_open p es)
opened_from es p h = record {
  outs = λ n few.
      let is = outs_opened es p n few h.outs_count ∙ based (suc n) es (out_slot p (suc n)) (shut_out n (h.outs n few)) in
      record { endpoint = ap (λ (s : Opened). s.endpoint) is; opens = ap (λ (s : Opened). s.opens) is };
  ins = λ n few.
      let is = ins_opened es p n few h.ins_count ∙ based_in (128 + suc n) es (in_slot p (suc n)) (shut_in n (h.ins n few)) in
      record { endpoint = ap (λ (s : Opened). s.endpoint) is; opens = ap (λ (s : Opened). s.opens) is };
  outs_count = counted es p ∙ h.outs_count;
  ins_count = counted_ins es p ∙ h.ins_count;
}
  where
    shut_out : (n : ℕ) → IsOutOf [] p n → out_opened (out_slot p (suc n)) ≡ at no_endpoint false
    shut_out n o = ap (λ e. at e (is_out_open (out_slot p (suc n)).pipe.phase)) o.endpoint ∙ ap (at no_endpoint) o.opens

    shut_in : (n : ℕ) → IsInOf [] p n → in_opened (in_slot p (suc n)) ≡ at no_endpoint false
    shut_in n o = ap (λ e. at e (in_hears (in_slot p (suc n)))) o.endpoint ∙ ap (at no_endpoint) o.opens

pub session_of : (es : List Endpoint) (p : Pipes) → length p.outs ≡ 15 → length p.ins ≡ 15 → AreOf es (session_pipes es p)
session_of es p co ci = opened_from es (pipes_closed p) (closed_of p co ci)
