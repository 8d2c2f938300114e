-- What lies in the receive FIFO stays few, and what one endpoint has there.
use Rattle.std.proofs.Common.{◌≡◌, ℕ, zero, suc, ◌+◌, ◌≤◌, ◌<◌, List, [], ◌∷◌, ◌++◌, length, Bool, true, false, refl, ap, sym, ◌∙◌, arith, All, subst, length-append, append-nil}
use Rattle.std.specs.Prelude.{◌==◌, ◌||◌, ◌&&◌, not, if◌then◌else◌}
use Rattle.std.specs.List.{filter}
use Rattle.std.proofs.lemmas.Bool.Decides.{nat_tests}
use Rattle.std.proofs.lemmas.List.Elements.{All-head, All-tail, All-append, All-cons, All-nil, filter-append}
use Rattle.usb_packet.specs.declared.bus.Toggle.{Toggle}
use Rattle.usb_packet.specs.declared.bus.Toggle.TheVariants.{D0}
use Rattle.dwc2_fifo.specs.Rx.{Entry}
use Rattle.device_table.specs.Words.{status_word, pid_of, kind_of}
use Rattle.device_table.specs.Write.{setup_in}
use Rattle.device_arrivals.specs.Arrivals.{Arrival, Request, Packet, Landed, entries_at, entries_of, arrivals_for, packets_for, requests_in, is_packet_for, is_request, requested_by, landed_on, IsArrival, AreFew}
use Rattle.device_arrivals.specs.Laws.{some}
use Rattle.device_arrivals.proofs.Comes.{kind_is, two, three}

-- What one endpoint has is told by what lies there for it.

pub requested_by-its : (arrivals : List Arrival) → requested_by arrivals ≡ requested_by (arrivals_for 0 arrivals)
requested_by-its [] = refl
requested_by-its (Request bytes ∷ arrivals) = ap (λ (us : List (List ℕ)). bytes ∷ us) (requested_by-its arrivals)
requested_by-its (Packet k toggle bytes ∷ arrivals) = either (0 == k) (Packet k toggle bytes) (arrivals_for 0 arrivals) refl (requested_by-its arrivals)
  where
    either : (b : Bool) (a : Arrival) (xs : List Arrival) → requested_by (a ∷ xs) ≡ requested_by xs → requested_by arrivals ≡ requested_by xs → requested_by arrivals ≡ requested_by (if b then a ∷ xs else xs)
    either true a xs e h = h ∙ sym e
    either false a xs e h = h

pub landed_on-its : (n : ℕ) (arrivals : List Arrival) → landed_on n arrivals ≡ landed_on n (arrivals_for n arrivals)
landed_on-its n [] = refl
landed_on-its n (Request bytes ∷ arrivals) = either (n == 0) (Request bytes) (arrivals_for n arrivals) refl (landed_on-its n arrivals)
  where
    either : (b : Bool) (a : Arrival) (xs : List Arrival) → landed_on n (a ∷ xs) ≡ landed_on n xs → landed_on n arrivals ≡ landed_on n xs → landed_on n arrivals ≡ landed_on n (if b then a ∷ xs else xs)
    either true a xs e h = h ∙ sym e
    either false a xs e h = h
landed_on-its n (Packet k toggle bytes ∷ arrivals) = either (n == k) refl (landed_on-its n arrivals)
  where
    its : Landed
    its = record { toggle = toggle; bytes = bytes }

    either : (b : Bool) → (n == k) ≡ b → landed_on n arrivals ≡ landed_on n (arrivals_for n arrivals)
        → landed_on n (Packet k toggle bytes ∷ arrivals) ≡ landed_on n (if b then Packet k toggle bytes ∷ arrivals_for n arrivals else arrivals_for n arrivals)
    either true e h = ap (λ b. if b then its ∷ landed_on n arrivals else landed_on n arrivals) e ∙ ap (λ xs. its ∷ xs) h
        ∙ ap (λ b. if b then its ∷ landed_on n (arrivals_for n arrivals) else landed_on n (arrivals_for n arrivals)) (sym e)
    either false e h = ap (λ b. if b then its ∷ landed_on n arrivals else landed_on n arrivals) e ∙ h

pub packets_for-its : (n : ℕ) (arrivals : List Arrival) → packets_for n arrivals ≡ packets_for n (arrivals_for n arrivals)
packets_for-its n [] = refl
packets_for-its n (Request bytes ∷ arrivals) = either (n == 0) (Request bytes) (arrivals_for n arrivals) refl (packets_for-its n arrivals)
  where
    either : (b : Bool) (a : Arrival) (xs : List Arrival) → packets_for n (a ∷ xs) ≡ packets_for n xs → packets_for n arrivals ≡ packets_for n xs → packets_for n arrivals ≡ packets_for n (if b then a ∷ xs else xs)
    either true a xs e h = h ∙ sym e
    either false a xs e h = h
packets_for-its n (Packet k toggle bytes ∷ arrivals) = either (n == k) refl (packets_for-its n arrivals)
  where
    either : (b : Bool) → (n == k) ≡ b → packets_for n arrivals ≡ packets_for n (arrivals_for n arrivals)
        → packets_for n (Packet k toggle bytes ∷ arrivals) ≡ packets_for n (if b then Packet k toggle bytes ∷ arrivals_for n arrivals else arrivals_for n arrivals)
    either true e h = ap (λ b. if b then Packet k toggle bytes ∷ packets_for n arrivals else packets_for n arrivals) e ∙ ap (λ xs. Packet k toggle bytes ∷ xs) h
        ∙ ap (λ b. if b then Packet k toggle bytes ∷ packets_for n (arrivals_for n arrivals) else packets_for n (arrivals_for n arrivals)) (sym e)
    either false e h = ap (λ b. if b then Packet k toggle bytes ∷ packets_for n arrivals else packets_for n arrivals) e ∙ h

-- A SETUP lies there exactly where one was told.

packet_is_none : (number : ℕ) (toggle : Toggle) (bytes : List ℕ) (rest : List Entry) → number < 16 → length bytes ≤ 64
    → setup_in (entries_at (Packet number toggle bytes) ++ rest) ≡ setup_in rest
packet_is_none number toggle bytes rest h k =
    let lies : ℕ → Bool → Bool = λ kind b. ((kind == 6) || (kind == 4)) || b in
    ap (λ kind. lies kind (lies (kind_of (status_word number 0 0 3)) (setup_in rest))) (kind_is number (length bytes) 2 toggle h k two)
    ∙ ap (λ kind. lies kind (setup_in rest)) (kind_is number 0 3 D0 h (omega arith) three)

pub setup_in-told : (top : ℕ) (arrivals : List Arrival) → top < 16 → All (IsArrival top) arrivals → setup_in (entries_of arrivals) ≡ some (requested_by arrivals)
setup_in-told top [] h all = refl
setup_in-told top (Request bytes ∷ arrivals) h all = refl
setup_in-told top (Packet number toggle bytes ∷ arrivals) h all =
    let a = All-head (IsArrival top) (Packet number toggle bytes) arrivals all in
    packet_is_none number toggle bytes (entries_of arrivals) (within number top a.0 h) a.1
    ∙ setup_in-told top arrivals h (All-tail (IsArrival top) (Packet number toggle bytes) arrivals all)
  where
    within : (n top : ℕ) → n ≤ top → top < 16 → n < 16
    within n top h k = omega arith

-- They stay few.

all_with : (top : ℕ) (arrivals : List Arrival) (a : Arrival) → All (IsArrival top) arrivals → IsArrival top a → All (IsArrival top) (arrivals ++ a ∷ [])
all_with top arrivals a h k = All-append (IsArrival top) arrivals (a ∷ []) h (All-cons (IsArrival top) a [] k (All-nil (IsArrival top)))

-- a SETUP comes
pub few_with_request : (top : ℕ) (arrivals : List Arrival) (bytes : List ℕ) → AreFew top arrivals → IsArrival top (Request bytes) → length (requests_in arrivals) ≤ 2
    → AreFew top (arrivals ++ Request bytes ∷ [])
few_with_request top arrivals bytes few is two = record {
  all = all_with top arrivals (Request bytes) few.all is;
  requests = subst (λ n. n ≤ 3) (sym (ap length (filter-append is_request arrivals (Request bytes ∷ [])) ∙ length-append (requests_in arrivals) (Request bytes ∷ []))) (omega (arith, two));
  packets = λ n. subst (λ xs. length xs ≤ 1) (sym (filter-append (is_packet_for n) arrivals (Request bytes ∷ []) ∙ append-nil (packets_for n arrivals))) (few.packets n);
}

-- a packet comes for an endpoint that has none there
pub few_with_packet : (top : ℕ) (arrivals : List Arrival) (number : ℕ) (toggle : Toggle) (bytes : List ℕ) → AreFew top arrivals → IsArrival top (Packet number toggle bytes)
    → packets_for number arrivals ≡ [] → AreFew top (arrivals ++ Packet number toggle bytes ∷ [])
few_with_packet top arrivals number toggle bytes few is none = record {
  all = all_with top arrivals (Packet number toggle bytes) few.all is;
  requests = subst (λ xs. length xs ≤ 3) (sym (filter-append is_request arrivals (Packet number toggle bytes ∷ []) ∙ append-nil (requests_in arrivals))) few.requests;
  packets = λ n. subst (λ xs. length xs ≤ 1) (sym (filter-append (is_packet_for n) arrivals (Packet number toggle bytes ∷ []))) (by_test n (n == number) refl);
}
  where
    same : (a b : ℕ) → (a == b) ≡ true → a ≡ b
    same a b e = grind (arith, nat_tests)

    by_test : (n : ℕ) (b : Bool) → (n == number) ≡ b → length (packets_for n arrivals ++ (if n == number then Packet number toggle bytes ∷ [] else [])) ≤ 1
    by_test n true e =
        subst (λ b. length (packets_for n arrivals ++ (if b then Packet number toggle bytes ∷ [] else [])) ≤ 1) (sym e)
        (subst (λ xs. length (xs ++ Packet number toggle bytes ∷ []) ≤ 1) (sym (ap (λ k. packets_for k arrivals) (same n number e) ∙ none)) (omega arith))
    by_test n false e =
        subst (λ b. length (packets_for n arrivals ++ (if b then Packet number toggle bytes ∷ [] else [])) ≤ 1) (sym e)
        (subst (λ xs. length xs ≤ 1) (sym (append-nil (packets_for n arrivals))) (few.packets n))

-- the front one is taken
less : {A : Type 0} (n : ℕ) (b : Bool) (a : A) (xs : List A) → length (if b then a ∷ xs else xs) ≤ n → length xs ≤ n
less n true a xs h = omega (arith, h)
less n false a xs h = h

pub few_behind : (top : ℕ) (a : Arrival) (arrivals : List Arrival) → AreFew top (a ∷ arrivals) → AreFew top arrivals
few_behind top a arrivals few = record {
  all = All-tail (IsArrival top) a arrivals few.all;
  requests = less 3 (is_request a) a (requests_in arrivals) few.requests;
  packets = λ n. less 1 (is_packet_for n a) a (packets_for n arrivals) (few.packets n);
}

pub few_none : (top : ℕ) → AreFew top []
few_none top = record { all = All-nil (IsArrival top); requests = omega arith; packets = λ n. omega arith }
