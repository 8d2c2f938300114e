-- The endpoints of a set and their owners, and an owner's pipes among them.
use Rattle.std.proofs.Common.{◌≡◌, ℕ, zero, suc, ◌+◌, ◌-◌, List, [], ◌∷◌, map, Bool, true, false, ◌==◌, ◌&&◌, refl, ap, sym, ◌∙◌, arith}
use Rattle.std.specs.Prelude.{nat_lt, find, Some, cond, ⊤, if◌then◌else◌}
use Rattle.std.specs.List.{AllByRecursion, IsDistinct}
use Rattle.std.proofs.lemmas.Bool.Decides.{nat_tests}
use Rattle.std.proofs.lemmas.Map.Keys.{IsDistinct-head, IsDistinct-tail}
use Rattle.usb_packet.specs.declared.bus.Owner.{Owner}
use Rattle.usb_packet.specs.declared.bus.Owner.TheVariants.{Core, Cdc, Hid, Msc, Midi}
use Rattle.usb_descriptor.specs.declared.endpoint.Endpoint.{Endpoint}
use Rattle.usb_descriptor.specs.declared.endpoint.EpKind.{EpKind}
use Rattle.usb_descriptor.specs.declared.endpoint.EpKind.TheVariants.{Bulk, Interrupt}
use Rattle.usb_descriptor.specs.Set.{same_owner, is_addressed, endpoint_owner}
use Rattle.device_owners.specs.Knows.{knows_own}
use Rattle.device_owners.specs.Ends.{in_pipe, pipe_of, is_pipe, number_of}

-- Truth values and numbers.

pub never : {A : Type 0} → false ≡ true → A
never e = absurd (cc (e))

pub and_first : (a b : Bool) → (a && b) ≡ true → a ≡ true
and_first true b e = refl
and_first false b e = e

and_second : (a b : Bool) → (a && b) ≡ true → b ≡ true
and_second true b e = e
and_second false b e = never e

pub same_number : (a b : ℕ) → (a == b) ≡ true → a ≡ b
same_number a b e = grind (arith, nat_tests)

pub suc_not : (n : ℕ) → (suc n == 0) ≡ false
suc_not n = grind (arith, nat_tests)

-- the address of an endpoint for the host, by its number
pub up : (a : ℕ) → nat_lt a 128 ≡ false → 128 + (a - 128) ≡ a
up a e = grind (arith, nat_tests)

-- Owners.

same_is : (a b : Owner) → same_owner a b ≡ true → a ≡ b
same_is Core Core e = refl
same_is Cdc Cdc e = refl
same_is Hid Hid e = refl
same_is Msc Msc e = refl
same_is Midi Midi e = refl
same_is a b e = never e

-- an owner's machine knows it
pub knows_itself : (o : Owner) → knows_own o o ≡ true
knows_itself Core = refl
knows_itself Cdc = refl
knows_itself Hid = refl
knows_itself Msc = refl
knows_itself Midi = refl

pub knows_same : (o x : Owner) → same_owner o x ≡ true → knows_own o x ≡ true
knows_same o x e = ap (λ y. knows_own o y) (sym (same_is o x e)) ∙ knows_itself o

-- and the core beside it
pub knows_core : (o x : Owner) → knows_own o x ≡ true → same_owner o x ≡ false → x ≡ Core
knows_core o Core e k = refl
knows_core o Cdc e k = never (sym k ∙ e)
knows_core o Hid e k = never (sym k ∙ e)
knows_core o Msc e k = never (sym k ∙ e)
knows_core o Midi e k = never (sym k ∙ e)

-- Each endpoint has the owner that its address names.

abbrev pub AreOwned : (ℕ → Owner) → List Endpoint → Type 0
AreOwned owner es = AllByRecursion (λ e. owner e.addr ≡ e.owner) es

itself : (a : ℕ) → (a == a) ≡ true
itself a = grind (arith, nat_tests)

abbrev addr_of : Endpoint → ℕ
addr_of e = e.addr

-- one more endpoint, at an address of its own
one_more : (e : Endpoint) (es xs : List Endpoint) → AllByRecursion (λ y. (e.addr == y) ≡ false) (map addr_of xs)
    → AreOwned (λ a. endpoint_owner (find (is_addressed a) es)) xs → AreOwned (λ a. endpoint_owner (find (is_addressed a) (e ∷ es))) xs
one_more e es [] apart h = tt
one_more e es (x ∷ xs) (ne, apart) (h, hs) = (ap (λ b. endpoint_owner (cond b (Some e) (find (is_addressed x.addr) es))) ne ∙ h, one_more e es xs apart hs)

pub owned : (es : List Endpoint) → IsDistinct (λ a b. a == b) (map addr_of es) → AreOwned (λ a. endpoint_owner (find (is_addressed a) es)) es
owned [] h = tt
owned (e ∷ es) h = (
  ap (λ b. endpoint_owner (cond b (Some e) (find (is_addressed e.addr) es))) (itself e.addr),
  one_more e es es (IsDistinct-head (λ a b. a == b) e.addr (map addr_of es) h) (owned es (IsDistinct-tail (λ a b. a == b) e.addr (map addr_of es) h)),
)

-- so it is known where the address's is
pub known_at : (owner : ℕ → Owner) (known : Owner → Bool) (es : List Endpoint) → AreOwned owner es → AllByRecursion (λ e. known (owner e.addr) ≡ known e.owner) es
known_at owner known [] h = tt
known_at owner known (e ∷ es) (h, hs) = (ap known h, known_at owner known es hs)

-- An owner's pipes are on endpoints of its own.

abbrev pub OutOf : (ℕ → Owner) → Owner → ℕ → Type 0
OutOf owner o zero = ⊤
OutOf owner o (suc n) = owner (suc n) ≡ o

abbrev pub InOf : (ℕ → Owner) → Owner → ℕ → Type 0
InOf owner o zero = ⊤
InOf owner o (suc n) = owner (128 + suc n) ≡ o

out_of : (owner : ℕ → Owner) (o : Owner) (n : ℕ) → owner n ≡ o → OutOf owner o n
out_of owner o zero e = tt
out_of owner o (suc n) e = e

in_of : (owner : ℕ → Owner) (o : Owner) (n : ℕ) → owner (128 + n) ≡ o → InOf owner o n
in_of owner o zero e = tt
in_of owner o (suc n) e = e

-- no endpoint for the host is a pipe that receives
sends : (o : Owner) (kind : EpKind) → (in_pipe o kind == 1) ≡ false
sends Core kind = refl
sends Cdc Bulk = refl
sends Cdc Interrupt = refl
sends Hid kind = refl
sends Msc kind = refl
sends Midi kind = refl

in_found : (owner : ℕ → Owner) (o : Owner) (k : ℕ) (e : Endpoint) (low : Bool) → nat_lt e.addr 128 ≡ low → (1 == k) ≡ false → owner e.addr ≡ o
    → ((if low then 1 else in_pipe e.owner e.kind) == k) ≡ true → InOf owner o (if low then e.addr else e.addr - 128)
in_found owner o k e true is not_one h it = never (sym not_one ∙ it)
in_found owner o k e false is not_one h it = in_of owner o (e.addr - 128) (ap owner (up e.addr is) ∙ h)

out_found : (owner : ℕ → Owner) (o : Owner) (e : Endpoint) (low : Bool) → owner e.addr ≡ o
    → ((if low then 1 else in_pipe e.owner e.kind) == 1) ≡ true → OutOf owner o (if low then e.addr else e.addr - 128)
out_found owner o e true h it = out_of owner o e.addr h
out_found owner o e false h it = never (sym (sends e.owner e.kind) ∙ it)

pub in_number : (owner : ℕ → Owner) (o : Owner) (k : ℕ) → (1 == k) ≡ false → (es : List Endpoint) → AreOwned owner es → InOf owner o (number_of (find (is_pipe o k) es))
in_number owner o k not_one [] h = tt
in_number owner o k not_one (e ∷ es) (h, hs) = by (is_pipe o k e) refl (in_number owner o k not_one es hs)
  where
    by : (b : Bool) → is_pipe o k e ≡ b → InOf owner o (number_of (find (is_pipe o k) es)) → InOf owner o (number_of (cond b (Some e) (find (is_pipe o k) es)))
    by true it ih =
        in_found owner o k e (nat_lt e.addr 128) refl not_one (h ∙ sym (same_is o e.owner (and_first (same_owner o e.owner) (pipe_of e == k) it)))
        (and_second (same_owner o e.owner) (pipe_of e == k) it)
    by false it ih = ih

pub out_number : (owner : ℕ → Owner) (o : Owner) (es : List Endpoint) → AreOwned owner es → OutOf owner o (number_of (find (is_pipe o 1) es))
out_number owner o [] h = tt
out_number owner o (e ∷ es) (h, hs) = by (is_pipe o 1 e) refl (out_number owner o es hs)
  where
    by : (b : Bool) → is_pipe o 1 e ≡ b → OutOf owner o (number_of (find (is_pipe o 1) es)) → OutOf owner o (number_of (cond b (Some e) (find (is_pipe o 1) es)))
    by true it ih =
        out_found owner o e (nat_lt e.addr 128) (h ∙ sym (same_is o e.owner (and_first (same_owner o e.owner) (pipe_of e == 1) it)))
        (and_second (same_owner o e.owner) (pipe_of e == 1) it)
    by false it ih = ih
