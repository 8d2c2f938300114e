-- How many arrivals there are, and their room: each is a SETUP or the packet of one endpoint.
use Rattle.std.proofs.Common.{◌≡◌, ℕ, zero, suc, ◌+◌, ◌*◌, ◌-◌, ◌≤◌, ◌<◌, List, [], ◌∷◌, ◌++◌, length, Bool, true, false, refl, ap, sym, ◌∙◌, arith, All, length-append, subst}
use Rattle.std.specs.Prelude.{◌==◌, if◌then◌else◌}
use Rattle.std.specs.List.{filter}
use Rattle.std.proofs.lemmas.Bool.Decides.{nat_tests}
use Rattle.std.proofs.lemmas.List.Elements.{All-head, All-tail}
use Rattle.usb_packet.specs.declared.bus.Toggle.{Toggle}
use Rattle.dwc2_regs.specs.declared.access.Profile.{Profile}
use Rattle.dwc2_fifo.specs.Words.{word_count, words_of}
use Rattle.dwc2_fifo.proofs.WordsLemmas.{length-words_of}
use Rattle.dwc2_fifo.specs.Rx.{Entry, words_in}
use Rattle.device_table.specs.State.{Table, rx_depth}
use Rattle.device_arrivals.specs.Arrivals.{Arrival, Request, Packet, entries_at, entries_of, packets_for, requests_in, IsArrival, AreFew}
use Rattle.device_arrivals.specs.Laws.{Roomy}

-- the sum over the numbers up to the highest
total : (ℕ → ℕ) → ℕ → ℕ
total f zero = f 0
total f (suc n) = f (suc n) + total f n

weigh : (Arrival → ℕ) → List Arrival → ℕ
weigh w [] = 0
weigh w (a ∷ arrivals) = w a + weigh w arrivals

-- one number's part grows
grown : (ℕ → ℕ) → ℕ → ℕ → ℕ → ℕ
grown f k v n = if n == k then v + f n else f n

total_same : (f g : ℕ → ℕ) (top : ℕ) → ((n : ℕ) → f n ≡ g n) → total f top ≡ total g top
unfolding total
total_same f g zero h = h 0
total_same f g (suc n) h = ap (λ x. x + total f n) (h (suc n)) ∙ ap (λ x. g (suc n) + x) (total_same f g n h)

other : (k n : ℕ) → suc n < k → (suc n == k) ≡ false
other k n h = grind (arith, nat_tests)

total_beyond : (f : ℕ → ℕ) (k v top : ℕ) → top < k → total (grown f k v) top ≡ total f top
unfolding total grown
total_beyond f zero v zero h = absurd (none h)
  where
    none : 0 < 0 → ⊥
    none h = omega arith
total_beyond f (suc k) v zero h = ap (λ b. if b then v + f 0 else f 0) (not_least k)
  where
    not_least : (k : ℕ) → (0 == suc k) ≡ false
    not_least k = grind (arith, nat_tests)
total_beyond f k v (suc n) h =
    ap (λ b. (if b then v + f (suc n) else f (suc n)) + total (grown f k v) n) (other k n h) ∙ ap (λ x. f (suc n) + x) (total_beyond f k v n (omega (arith, h)))

at_top : (k n : ℕ) → (suc n == k) ≡ true → suc n ≡ k
at_top k n e = grind (arith, nat_tests)

past_top : (k n : ℕ) → (suc n == k) ≡ true → n < k
past_top k n e = grind (arith, nat_tests)

below_top : (k n : ℕ) → (suc n == k) ≡ false → k ≤ suc n → k ≤ n
below_top k n e h = grind (arith, nat_tests)

none_below : {A : Type 0} (k : ℕ) → suc k ≤ 0 → A
none_below k h = absurd (none k h)
  where
    none : (k : ℕ) → suc k ≤ 0 → ⊥
    none k h = omega arith

past : (a b c : ℕ) → a + (b + c) ≡ b + (a + c)
past a b c = omega arith

grown_by : (f : ℕ → ℕ) (k v n : ℕ) (b : Bool) → (suc n == k) ≡ b → k ≤ suc n → (k ≤ n → total (grown f k v) n ≡ v + total f n) → total (grown f k v) (suc n) ≡ v + total f (suc n)
unfolding total grown
grown_by f k v n true e h ih =
    ap (λ x. (if x then v + f (suc n) else f (suc n)) + total (grown f k v) n) e
    ∙ ap (λ x. (v + f (suc n)) + x) (total_beyond f k v n (past_top k n e))
    ∙ omega arith
grown_by f k v n false e h ih =
    ap (λ x. (if x then v + f (suc n) else f (suc n)) + total (grown f k v) n) e
    ∙ ap (λ x. f (suc n) + x) (ih (below_top k n e h))
    ∙ past (f (suc n)) v (total f n)

total_grown : (f : ℕ → ℕ) (k v top : ℕ) → k ≤ top → total (grown f k v) top ≡ v + total f top
unfolding total grown
total_grown f zero v zero h = refl
total_grown f (suc k) v zero h = none_below k h
total_grown f k v (suc n) h = grown_by f k v n (suc n == k) refl h (λ l. total_grown f k v n l)

total_most : (f g : ℕ → ℕ) (top : ℕ) → ((n : ℕ) → n ≤ top → f n ≤ g n) → total f top ≤ total g top
unfolding total
total_most f g zero h = h 0 (omega arith)
total_most f g (suc n) h = both (f (suc n)) (g (suc n)) (total f n) (total g n) (h (suc n) (omega arith)) (total_most f g n (λ k l. h k (omega (arith, l))))
  where
    both : (a b c d : ℕ) → a ≤ b → c ≤ d → a + c ≤ b + d
    both a b c d h k = omega arith

-- Each arrival is a SETUP, or the packet of one number.

weigh_if : (w : Arrival → ℕ) (b : Bool) (a : Arrival) (xs : List Arrival) → weigh w (if b then a ∷ xs else xs) ≡ (if b then w a + weigh w xs else weigh w xs)
unfolding weigh
weigh_if w true a xs = refl
weigh_if w false a xs = refl

nothing : (top : ℕ) → total (λ n. 0) top ≡ 0
unfolding total
nothing zero = refl
nothing (suc n) = ap (λ x. 0 + x) (nothing n)

parted : (w : Arrival → ℕ) (top : ℕ) (arrivals : List Arrival) → All (IsArrival top) arrivals
    → weigh w arrivals ≡ weigh w (requests_in arrivals) + total (λ n. weigh w (packets_for n arrivals)) top
unfolding weigh grown
parted w top [] h = sym (ap (λ x. 0 + x) (nothing top))
parted w top (Request bytes ∷ arrivals) h =
    ap (λ x. w (Request bytes) + x) (parted w top arrivals (All-tail (IsArrival top) (Request bytes) arrivals h)) ∙ omega arith
parted w top (Packet k toggle bytes ∷ arrivals) h =
    let f : ℕ → ℕ = λ n. weigh w (packets_for n arrivals) in
    let a = Packet k toggle bytes in
    ap (λ x. w a + x) (parted w top arrivals (All-tail (IsArrival top) a arrivals h))
    ∙ past (w a) (weigh w (requests_in arrivals)) (total f top)
    ∙ ap (λ x. weigh w (requests_in arrivals) + x) (sym (total_grown f k (w a) top (All-head (IsArrival top) a arrivals h).0))
    ∙ ap (λ x. weigh w (requests_in arrivals) + x) (total_same (grown f k (w a)) (λ n. weigh w (packets_for n (a ∷ arrivals))) top (λ n. sym (weigh_if w (n == k) a (packets_for n arrivals))))

-- How many there are.

ones : List Arrival → ℕ
ones arrivals = weigh (λ a. 1) arrivals

ones-is : (arrivals : List Arrival) → ones arrivals ≡ length arrivals
unfolding ones weigh
ones-is [] = refl
ones-is (a ∷ arrivals) = ap (λ n. 1 + n) (ones-is arrivals) ∙ omega arith

all_ones : (top : ℕ) → total (λ n. 1) top ≡ top + 1
unfolding total
all_ones zero = refl
all_ones (suc n) = ap (λ x. 1 + x) (all_ones n) ∙ omega arith

pub is_counted : (top : ℕ) (arrivals : List Arrival) → AreFew top arrivals → length arrivals ≤ top + 4
unfolding ones
is_counted top arrivals few =
    let f : ℕ → ℕ = λ n. weigh (λ a. 1) (packets_for n arrivals) in
    let each : (n : ℕ) → n ≤ top → f n ≤ 1 = λ n l. subst (λ x. x ≤ 1) (sym (ones-is (packets_for n arrivals))) (few.packets n) in
    sums (length arrivals) (length (requests_in arrivals)) (total f top) top
    (sym (ones-is arrivals) ∙ parted (λ a. 1) top arrivals few.all ∙ ap (λ x. x + total f top) (ones-is (requests_in arrivals)))
    few.requests
    (subst (λ x. total f top ≤ x) (all_ones top) (total_most f (λ n. 1) top each))
  where
    sums : (n r t top : ℕ) → n ≡ r + t → r ≤ 3 → t ≤ top + 1 → n ≤ top + 4
    sums n r t top e h k = omega arith

-- Their words.

words_in-behind : (es fs : List Entry) → words_in (es ++ fs) ≡ words_in es + words_in fs
words_in-behind [] fs = omega arith
words_in-behind (e ∷ es) fs = ap (λ n. 1 + length e.words + n) (words_in-behind es fs) ∙ omega arith

-- at most: a SETUP takes two words of status and two of data, a packet two and sixteen
most_words : Arrival → ℕ
most_words (Request bytes) = 4
most_words (Packet number toggle bytes) = 18

within : (top : ℕ) (a : Arrival) → IsArrival top a → words_in (entries_at a) ≤ most_words a
unfolding most_words
within top (Request bytes) h = request (length (words_of bytes)) (length bytes) (length-words_of bytes) h.0
  where
    request : (n k : ℕ) → n ≡ word_count k → k ≡ 8 → 1 + n + (1 + 0 + 0) ≤ 4
    request n k e h = omega (arith, e, h)
within top (Packet number toggle bytes) h = packet (length (words_of bytes)) (length bytes) (length-words_of bytes) h.1
  where
    packet : (n k : ℕ) → n ≡ word_count k → k ≤ 64 → 1 + n + (1 + 0 + 0) ≤ 18
    packet n k e h = omega (arith, e, h)

sums_of : (a b c d : ℕ) → a ≤ b → c ≤ d → a + c ≤ b + d
sums_of a b c d h k = omega arith

all_within : (top : ℕ) (arrivals : List Arrival) → All (IsArrival top) arrivals → words_in (entries_of arrivals) ≤ weigh most_words arrivals
unfolding weigh
all_within top [] h = omega arith
all_within top (a ∷ arrivals) h =
    subst (λ n. n ≤ most_words a + weigh most_words arrivals) (sym (words_in-behind (entries_at a) (entries_of arrivals)))
    (sums_of (words_in (entries_at a)) (most_words a) (words_in (entries_of arrivals)) (weigh most_words arrivals)
    (within top a (All-head (IsArrival top) a arrivals h)) (all_within top arrivals (All-tail (IsArrival top) a arrivals h)))

four_each : (arrivals : List Arrival) → weigh most_words (requests_in arrivals) ≡ 4 * length (requests_in arrivals)
unfolding weigh most_words
four_each [] = refl
four_each (Request bytes ∷ arrivals) = ap (λ n. 4 + n) (four_each arrivals) ∙ omega arith
four_each (Packet number toggle bytes ∷ arrivals) = four_each arrivals

eighteen_each : (number : ℕ) (arrivals : List Arrival) → weigh most_words (packets_for number arrivals) ≡ 18 * length (packets_for number arrivals)
unfolding weigh most_words
eighteen_each number [] = refl
eighteen_each number (Request bytes ∷ arrivals) = eighteen_each number arrivals
eighteen_each number (Packet k toggle bytes ∷ arrivals) = one_more (number == k) (Packet k toggle bytes) (packets_for number arrivals) refl (eighteen_each number arrivals)
  where
    one_more : (b : Bool) (a : Arrival) (xs : List Arrival) → most_words a ≡ 18 → weigh most_words xs ≡ 18 * length xs → weigh most_words (if b then a ∷ xs else xs) ≡ 18 * length (if b then a ∷ xs else xs)
    one_more true a xs e h = ap (λ n. most_words a + n) h ∙ ap (λ n. n + 18 * length xs) e ∙ omega arith
    one_more false a xs e h = h

all_eighteen : (top : ℕ) → total (λ n. 18) top ≡ 18 * (top + 1)
unfolding total
all_eighteen zero = refl
all_eighteen (suc n) = ap (λ x. 18 + x) (all_eighteen n) ∙ omega arith

-- eighteen for each number but one
but_one : ℕ → ℕ → ℕ
but_one number n = if n == number then 0 else 18

each_eighteen : (number n : ℕ) → grown (but_one number) number 18 n ≡ 18
unfolding grown but_one
each_eighteen number n = either (n == number)
  where
    either : (b : Bool) → (if b then 18 + (if b then 0 else 18) else (if b then 0 else 18)) ≡ 18
    either true = refl
    either false = refl

but_one_is : (number top : ℕ) → number ≤ top → 18 + total (but_one number) top ≡ 18 * (top + 1)
but_one_is number top h = sym (total_grown (but_one number) number 18 top h) ∙ total_same (grown (but_one number) number 18) (λ n. 18) top (each_eighteen number) ∙ all_eighteen top

at_most_one : (number : ℕ) (arrivals : List Arrival) → length (packets_for number arrivals) ≤ 1 → weigh most_words (packets_for number arrivals) ≤ 18
at_most_one number arrivals h = subst (λ n. n ≤ 18) (sym (eighteen_each number arrivals)) (omega (arith, h))

beside : (number n : ℕ) (arrivals : List Arrival) → packets_for number arrivals ≡ [] → length (packets_for n arrivals) ≤ 1 → weigh most_words (packets_for n arrivals) ≤ but_one number n
unfolding but_one weigh
beside number n arrivals none h = by_test (n == number) refl
  where
    same : (a b : ℕ) → (a == b) ≡ true → a ≡ b
    same a b e = grind (arith, nat_tests)

    by_test : (b : Bool) → (n == number) ≡ b → weigh most_words (packets_for n arrivals) ≤ (if n == number then 0 else 18)
    by_test true e =
        subst (λ x. weigh most_words (packets_for n arrivals) ≤ (if x then 0 else 18)) (sym e)
        (subst (λ xs. weigh most_words xs ≤ 0) (sym (ap (λ k. packets_for k arrivals) (same n number e) ∙ none)) (omega arith))
    by_test false e = subst (λ x. weigh most_words (packets_for n arrivals) ≤ (if x then 0 else 18)) (sym e) (at_most_one n arrivals h)

used_is : (top : ℕ) (arrivals : List Arrival) → AreFew top arrivals
    → words_in (entries_of arrivals) ≤ 4 * length (requests_in arrivals) + total (λ n. weigh most_words (packets_for n arrivals)) top
used_is top arrivals few =
    subst (λ n. words_in (entries_of arrivals) ≤ n)
    (parted most_words top arrivals few.all ∙ ap (λ n. n + total (λ n. weigh most_words (packets_for n arrivals)) top) (four_each arrivals))
    (all_within top arrivals few.all)

pub has_room : (profile : Profile) (t : Table) (arrivals : List Arrival) → t.rx.depth ≡ rx_depth profile → AreFew profile.out_eps arrivals → Roomy profile t arrivals
has_room profile t arrivals depth few =
    let top = profile.out_eps in
    let f : ℕ → ℕ = λ n. weigh most_words (packets_for n arrivals) in
    record {
      packet = λ number count h none fits.
          room_for_packet (words_in (entries_of arrivals)) (length (requests_in arrivals)) (total f top) (total (but_one number) top) top t.rx.depth count depth
          (used_is top arrivals few) few.requests (total_most f (but_one number) top (λ n l. beside number n arrivals none (few.packets n))) (but_one_is number top h) fits;
      request = λ two.
          room_for_request (words_in (entries_of arrivals)) (length (requests_in arrivals)) (total f top) top t.rx.depth depth
          (used_is top arrivals few) two (subst (λ x. total f top ≤ x) (all_eighteen top) (total_most f (λ n. 18) top (λ n l. at_most_one n arrivals (few.packets n))));
    }
  where
    room_for_packet : (used r s g top depth count : ℕ) → depth ≡ 12 + 18 * (top + 1) → used ≤ 4 * r + s → r ≤ 3 → s ≤ g → 18 + g ≡ 18 * (top + 1) → count ≤ 64
        → 2 + word_count count ≤ depth - (0 + used)
    room_for_packet used r s g top depth count e h k l m n = omega (arith, e, h, k, l, m, n)

    room_for_request : (used r s top depth : ℕ) → depth ≡ 12 + 18 * (top + 1) → used ≤ 4 * r + s → r ≤ 2 → s ≤ 18 * (top + 1) → 4 ≤ depth - (0 + used)
    room_for_request used r s top depth e h k l = omega (arith, e, h, k, l)
