-- Where the next packets lie in the ring, and how many packets there are.
use Rattle.std.proofs.Common.{◌≡◌, ℕ, zero, suc, ◌+◌, ◌-◌, ◌*◌, ◌/◌, ◌<◌, ◌≤◌, List, [], ◌∷◌, ◌++◌, length, take, drop, min, max, inl, inr, refl, ap, ◌∙◌, sym, arith, length-take, length-take-le, length-drop, drop-drop, take-take, take_all, append-nil, length-append}
use Rattle.std.specs.List.{concat}
use Rattle.std.proofs.lemmas.List.{drop-take}
use Rattle.std.proofs.lemmas.Nat.{div_below, le-div}
use Rattle.std.proofs.Math.Nat.{add-div_right}
use Rattle.device_pipe.specs.InPipe.{cut, most_loaded}
use Rattle.device_pipe.proofs.Cut.{single, more}
use Rattle.endpoint_relation.specs.declared.in_.InEndpoint.{InEndpoint}
use Rattle.endpoint_relation.specs.InRelation.{IsTransfer, packets_if, packets_left, bytes_left}
use Rattle.endpoint_relation.specs.InSteps.{next_packets}
use Rattle.endpoint_relation.specs.InPackets.{bytes_at, packet_at, placed_packets, Next}
use Rattle.endpoint_relation.proofs.InCut.{le_or_more, some_packets, some_cut}

-- the first packet of some bytes, and those behind it

first_of_cut : (size : ℕ) (bytes : List ℕ) → 1 ≤ size → cut size bytes ≡ take (min size (length bytes)) bytes ∷ packets_if (length (cut size bytes) - 1) size (drop size bytes)
first_of_cut size bytes s = elim (le_or_more (length bytes) size) [
  | inl few ↦
      let one = single size bytes few in
      let count : length (cut size bytes) - 1 ≡ 0 = let e = ap length one in omega (arith, e) in
      one
      ∙ sym (ap (λ front. front ∷ packets_if (length (cut size bytes) - 1) size (drop size bytes)) (take_all (min size (length bytes)) bytes (omega arith))
      ∙ ap (λ n. bytes ∷ packets_if n size (drop size bytes)) count)
  | inr many ↦
      let all = more size bytes s many in
      let rest = drop size bytes in
      let count : length (cut size bytes) - 1 ≡ length (cut size rest) = let e = ap length all in omega (arith, e) in
      let least : min size (length bytes) ≡ size = omega arith in
      all
      ∙ sym (ap (λ n. take n bytes ∷ packets_if (length (cut size bytes) - 1) size rest) least
      ∙ ap (λ n. take size bytes ∷ packets_if n size rest) count
      ∙ ap (λ ps. take size bytes ∷ ps) (some_packets (length (cut size rest)) size rest (some_cut size rest s)))
]

-- bytes of the transfer are bytes of the ring
from_ring : (bytes place n : ℕ) (ring : List ℕ) → bytes ≤ length ring → place ≤ bytes
    → take (min n (length (drop place (take bytes ring)))) (drop place (take bytes ring)) ≡ bytes_at ring place (min n (bytes - place))
from_ring bytes place n ring within inside =
    let whole : place + (bytes - place) ≡ bytes = omega arith in
    let same : drop place (take bytes ring) ≡ take (bytes - place) (drop place ring) =
    sym (ap (λ k. drop place (take k ring)) whole) ∙ drop-take place (bytes - place) ring in
    let front = length-take-le bytes ring within in
    let len : length (drop place (take bytes ring)) ≡ bytes - place = length-drop place (take bytes ring) ∙ ap (λ k. k - place) front in
    ap (λ k. take (min n k) (drop place (take bytes ring))) len
    ∙ ap (take (min n (bytes - place))) same
    ∙ take-take (min n (bytes - place)) (bytes - place) (drop place ring) (omega arith)

-- the next ones

none_left : (n size : ℕ) (bytes : List ℕ) → n ≡ 0 → packets_if n size bytes ≡ []
none_left n size bytes h = ap (λ k. packets_if k size bytes) h

two_of : (a b : List ℕ) (rest : List (List ℕ)) → take 2 (a ∷ b ∷ rest) ≡ a ∷ b ∷ []
two_of a b rest = refl

longer : (size : ℕ) (bytes : List ℕ) (k : ℕ) → 1 ≤ size → suc (suc k) ≡ length (cut size bytes) → size < length bytes
longer size bytes k s h = elim (le_or_more (length bytes) size) [
  | inl few ↦ let e = ap length (single size bytes few) in absurd (omega (arith, e, h))
  | inr many ↦ many
]

first_two : (size : ℕ) (bytes : List ℕ) (k : ℕ) → 1 ≤ size → suc (suc k) ≡ length (cut size bytes)
    → take 2 (cut size bytes) ≡ take (min size (length bytes)) bytes ∷ take (min size (length (drop size bytes))) (drop size bytes) ∷ []
first_two size bytes k s h =
    let rest = drop size bytes in
    let a = take (min size (length bytes)) bytes in
    let behind : packets_if (length (cut size bytes) - 1) size rest ≡ cut size rest = some_packets (length (cut size bytes) - 1) size rest (omega (arith, h)) in
    ap (take 2) (first_of_cut size bytes s)
    ∙ ap (λ ps. take 2 (a ∷ ps)) (behind ∙ first_of_cut size rest s)

first_one : (size : ℕ) (bytes : List ℕ) → 1 ≤ size → 1 ≡ length (cut size bytes) → take 2 (cut size bytes) ≡ take (min size (length bytes)) bytes ∷ []
first_one size bytes s h =
    ap (take 2) (first_of_cut size bytes s)
    ∙ ap (λ ps. take 2 (take (min size (length bytes)) bytes ∷ ps)) (none_left (length (cut size bytes) - 1) size (drop size bytes) (omega (arith, h)))

at_once : (s : InEndpoint) (ring : List ℕ) → s.bytes ≤ length ring → s.sent ≤ s.bytes → take (min s.endpoint.size (length (bytes_left s ring))) (bytes_left s ring) ≡ packet_at s ring 0
at_once s ring within sent =
    let none : s.sent + 0 * s.endpoint.size ≡ s.sent = omega arith in
    from_ring s.bytes s.sent s.endpoint.size ring within sent
    ∙ sym (ap (λ place. bytes_at ring place (min s.endpoint.size (s.bytes - place))) none)

length_left : (s : InEndpoint) (ring : List ℕ) → s.bytes ≤ length ring → length (bytes_left s ring) ≡ s.bytes - s.sent
length_left s ring within = length-drop s.sent (take s.bytes ring) ∙ ap (λ k. k - s.sent) (length-take-le s.bytes ring within)

placed : (s : InEndpoint) (ring : List ℕ) (left : ℕ) → s.left ≡ left → IsTransfer s ring → next_packets s ring ≡ placed_packets left s ring
placed s ring zero e h = ap (λ k. take 2 (packets_if k s.endpoint.size (bytes_left s ring))) e
placed s ring (suc zero) e h =
    let all : 1 ≡ length (cut s.endpoint.size (bytes_left s ring)) = sym e ∙ h.left ∙ ap (λ k. length (packets_if k s.endpoint.size (bytes_left s ring))) e in
    ap (λ k. take 2 (packets_if k s.endpoint.size (bytes_left s ring))) e
    ∙ first_one s.endpoint.size (bytes_left s ring) h.opened.least all
    ∙ ap (λ p. p ∷ []) (at_once s ring h.within h.sent)
placed s ring (suc (suc k)) e h =
    let size = s.endpoint.size in
    let bytes = bytes_left s ring in
    let all : suc (suc k) ≡ length (cut size bytes) = sym e ∙ h.left ∙ ap (λ k. length (packets_if k size bytes)) e in
    let many = longer size bytes k h.opened.least all in
    let len = length_left s ring h.within in
    let place : s.sent + 1 * size ≡ s.sent + size = omega arith in
    let sent = h.sent in
    let inside : s.sent + size ≤ s.bytes = omega (arith, many, len) in
    let behind : drop size bytes ≡ drop (s.sent + size) (take s.bytes ring) = drop-drop size s.sent (take s.bytes ring) in
    ap (λ k. take 2 (packets_if k size bytes)) e
    ∙ first_two size bytes k h.opened.least all
    ∙ ap (λ p. p ∷ take (min size (length (drop size bytes))) (drop size bytes) ∷ []) (at_once s ring h.within h.sent)
    ∙ ap (λ x. packet_at s ring 0 ∷ take (min size (length x)) x ∷ []) behind
    ∙ ap (λ p. packet_at s ring 0 ∷ p ∷ []) (from_ring s.bytes (s.sent + size) size ring h.within inside)
    ∙ sym (ap (λ p. packet_at s ring 0 ∷ bytes_at ring p (min size (s.bytes - p)) ∷ []) place)

counted : (s : InEndpoint) (ring : List ℕ) → IsTransfer s ring → length (next_packets s ring) ≡ min most_loaded s.left
counted s ring h = length-take 2 (packets_left s ring) ∙ sym (ap (min 2) h.left)

-- their bytes

packet_length : (s : InEndpoint) (ring : List ℕ) (i : ℕ) → s.bytes ≤ length ring → length (packet_at s ring i) ≡ min s.endpoint.size (s.bytes - (s.sent + i * s.endpoint.size))
packet_length s ring i within =
    let place = s.sent + i * s.endpoint.size in
    let len = length-drop place ring in
    length-take-le (min s.endpoint.size (s.bytes - place)) (drop place ring) (omega (arith, len))

total : (s : InEndpoint) (ring : List ℕ) (left : ℕ) → s.bytes ≤ length ring → length (concat (placed_packets left s ring)) ≡ min (min 2 left * s.endpoint.size) (s.bytes - s.sent)
total s ring zero within = omega arith
total s ring (suc zero) within =
    let one = ap length (append-nil (packet_at s ring 0)) in
    let len = packet_length s ring 0 within in
    omega (arith, one, len)
total s ring (suc (suc k)) within =
    let a = packet_at s ring 0 in
    let b = packet_at s ring 1 in
    let both : length (a ++ (b ++ [])) ≡ length a + length b = length-append a (b ++ []) ∙ ap (λ x. length a + length x) (append-nil b) in
    let la = packet_length s ring 0 within in
    let lb = packet_length s ring 1 within in
    let two_is : min 2 (suc (suc k)) ≡ 2 = omega arith in
    let sum : length (a ++ (b ++ [])) ≡ min (2 * s.endpoint.size) (s.bytes - s.sent) = omega (arith, both, la, lb) in
    sum ∙ sym (ap (λ m. min (m * s.endpoint.size) (s.bytes - s.sent)) two_is)

pub next_are : (s : InEndpoint) (ring : List ℕ) → IsTransfer s ring → Next s ring
next_are s ring h = record {
  packets = placed s ring s.left refl h;
  count = counted s ring h;
  bytes = ap (λ ps. length (concat ps)) (placed s ring s.left refl h) ∙ total s ring s.left h.within;
}

-- how many packets there are

few_count : (size n : ℕ) → 1 ≤ size → n ≤ size → max 1 ((n + (size - 1)) / size) ≡ 1
few_count size n s h =
    let below : (n + (size - 1)) / size < 2 = div_below (n + (size - 1)) size 2 (omega arith) (omega arith) in omega (arith, below)

more_count : (size n : ℕ) → 1 ≤ size → size < n → max 1 ((n + (size - 1)) / size) ≡ suc (max 1 ((n - size + (size - 1)) / size))
more_count size n s h =
    let same : n + (size - 1) ≡ (n - 1) + size = omega arith in
    let less : n - size + (size - 1) ≡ n - 1 = omega arith in
    let up : (n + (size - 1)) / size ≡ (n - 1) / size + 1 = ap (λ k. k / size) same ∙ add-div_right (n - 1) (omega arith) in
    let some : 1 ≤ (n - 1) / size = le-div 1 (n - 1) size (omega arith) (omega arith) in
    let down : (n - size + (size - 1)) / size ≡ (n - 1) / size = ap (λ k. k / size) less in
    ap (max 1) up ∙ sym (ap (λ k. suc (max 1 k)) down ∙ omega (arith, some))

count_if : (m size : ℕ) (bytes : List ℕ) → 1 ≤ size → length bytes ≤ m → size < length bytes → ((rest : List ℕ) → length rest < length bytes → length (cut size rest) ≡ max 1 ((length rest + (size - 1)) / size))
    → length (cut size bytes) ≡ max 1 ((length bytes + (size - 1)) / size)
count_if m size bytes s h many shorter =
    let rest = drop size bytes in
    let len : length rest ≡ length bytes - size = length-drop size bytes in
    ap length (more size bytes s many)
    ∙ ap suc (shorter rest (omega (arith, len)) ∙ ap (λ k. max 1 ((k + (size - 1)) / size)) len)
    ∙ sym (more_count size (length bytes) s many)

count_within : (m size : ℕ) (bytes : List ℕ) → 1 ≤ size → length bytes ≤ m → length (cut size bytes) ≡ max 1 ((length bytes + (size - 1)) / size)
count_within zero size bytes s h = ap length (single size bytes (omega arith)) ∙ sym (few_count size (length bytes) s (omega arith))
count_within (suc m) size bytes s h = elim (le_or_more (length bytes) size) [
  | inl few ↦ ap length (single size bytes few) ∙ sym (few_count size (length bytes) s few)
  | inr many ↦ count_if (suc m) size bytes s h many (λ rest less. count_within m size rest s (omega arith))
]

pub packet_count : (size : ℕ) (bytes : List ℕ) → 1 ≤ size → length (cut size bytes) ≡ max 1 ((length bytes + (size - 1)) / size)
packet_count size bytes s = count_within (length bytes) size bytes s (omega arith)
