-- Packets of an IN endpoint, from the ring to the endpoint's FIFO.
use Rattle.std.proofs.Common.{◌≡◌, ◌≢◌, ℕ, zero, suc, ◌+◌, ◌-◌, ◌*◌, ◌<◌, ◌≤◌, List, [], ◌∷◌, length, take, drop, min, Bool, true, false, refl, ap, sym, ◌∙◌, arith, subst, length-set}
use Rattle.std.specs.Prelude.{nat_le, slice_index_or, slice_set, if◌then◌else◌}
use Rattle.std.specs.List.{concat}
use Rattle.std.proofs.lemmas.Bool.Decides.{nat_tests}
use Rattle.std.proofs.lemmas.List.{set-get_or, length-drop, drop-drop}
use Rattle.usb_ring.specs.Ring.{Ring, number_of}
use Rattle.dwc2_regs.specs.Word.{word_of}
use Rattle.dwc2_regs.specs.Register.{dieptsiz, diepctl, fifo}
use Rattle.dwc2_fifo.specs.Words.{words_of, word_count}
use Rattle.dwc2_fifo.proofs.WordsLemmas.{words_of-split}
use Rattle.device_table.specs.State.{Table, in_end, with_in}
use Rattle.device_table.specs.Write.{after_write}
use Rattle.device_pipe.specs.InPipe.{most_loaded}
use Rattle.device_rings.specs.Rings.{Rings, in_ring, with_in_ring, no_ring}
use Rattle.endpoint_relation.specs.declared.in_.InState.{InState}
use Rattle.endpoint_relation.specs.declared.in_.InState.TheVariants.{Closed, Rest, Running, Posted}
use Rattle.endpoint_relation.specs.declared.in_.InEndpoint.{InEndpoint}
use Rattle.endpoint_relation.specs.InWords.{in_size_word, in_snak_epena, in_cnak}
use Rattle.endpoint_relation.specs.InRelation.{InJoint, InStands, Holds, IsTransfer, IsLoad, packets_left}
use Rattle.endpoint_relation.specs.InPackets.{bytes_at, packet_at, placed_packets, Next}
use Rattle.endpoint_relation.specs.InSteps.{control_with, found_software, next_packets, in_served, in_served_by, in_run, in_goes_on, in_next, in_found, shows_xfrc}
use Rattle.endpoint_relation.specs.InTable.{words_at, packets_at, loaded_at, goes_on_at, served_at}
use Rattle.endpoint_relation.proofs.InNext.{next_are}
use Rattle.endpoint_relation.proofs.InServe.{found_packets}
use Rattle.endpoint_relation.proofs.InOnTable.{runs_at}
use Rattle.device_relation.specs.Software.{in_kept, with_in_kept}
use Rattle.device_relation.specs.Run.{Whole, in_joint_of, with_in_joint, in_pipe_served}
use Rattle.dwc2_device.specs.Serves.{kept_on, bytes_on, kept_run, bytes_run, kept_served, bytes_served}
use Rattle.dwc2_device.specs.Standing.{InsStand}

-- Lists.

take_none : (k : ℕ) → take {A = ℕ} k [] ≡ []
take_none zero = refl
take_none (suc k) = refl

take_less : (n m : ℕ) (xs : List ℕ) → n ≤ m → take n (take m xs) ≡ take n xs
take_less zero m xs h = refl
take_less (suc n) zero xs h = absurd (omega (arith, h))
take_less (suc n) (suc m) [] h = refl
take_less (suc n) (suc m) (x ∷ xs) h = ap (λ ys. x ∷ ys) (take_less n m xs (omega (arith, h)))

drop_take : (n m : ℕ) (xs : List ℕ) → n ≤ m → drop n (take m xs) ≡ take (m - n) (drop n xs)
drop_take zero m xs h = let e : m ≡ m - 0 = omega arith in ap (λ k. take k xs) e
drop_take (suc n) zero xs h = absurd (omega (arith, h))
drop_take (suc n) (suc m) [] h = sym (take_none (suc m - suc n))
drop_take (suc n) (suc m) (x ∷ xs) h =
    let e : m - n ≡ suc m - suc n = omega arith in
    drop_take n m xs (omega (arith, h)) ∙ ap (λ k. take k (drop n xs)) e

length_take : (n : ℕ) (xs : List ℕ) → n ≤ length xs → length (take n xs) ≡ n
length_take zero xs h = refl
length_take (suc n) [] h = absurd (omega (arith, h))
length_take (suc n) (x ∷ xs) h = ap suc (length_take n xs (omega (arith, h)))

-- Words.

number_is : (bytes : List ℕ) → number_of bytes ≡ word_of bytes
number_is [] = refl
number_is (b ∷ bytes) = ap (λ k. b + 256 * k) (number_is bytes)

words_step : (ring : List ℕ) (at left : ℕ) → 0 < left → at + left ≤ length ring
    → words_of (bytes_at ring at left) ≡ word_of (take (min left 4) (drop at ring)) ∷ words_of (bytes_at ring (at + min left 4) (left - min left 4))
words_step ring at left some h =
    let bytes = bytes_at ring at left in
    let behind = length-drop at ring in
    let long : length bytes ≡ left = length_take left (drop at ring) (omega (arith, behind, h)) in
    let few : min left 4 ≤ left = omega arith in
    words_of-split bytes (omega (arith, long, some))
    ∙ ap (λ n. word_of (take (min n 4) bytes) ∷ words_of (drop (min n 4) bytes)) long
    ∙ ap (λ x. word_of x ∷ words_of (drop (min left 4) bytes)) (take_less (min left 4) left (drop at ring) few)
    ∙ ap (λ x. word_of (take (min left 4) (drop at ring)) ∷ words_of x) (drop_take (min left 4) left (drop at ring) few
    ∙ ap (take (left - min left 4)) (drop-drop (min left 4) at ring))

-- one word more
pub word_loaded : (number : ℕ) (t : Table) (ring : List ℕ) (at left count word : ℕ) → 0 < left → at + left ≤ length ring → count ≡ min left 4
    → word ≡ number_of (take count (drop at ring))
    → words_at number (after_write t (fifo number) word) (words_of (bytes_at ring (at + count) (left - count))) ≡ words_at number t (words_of (bytes_at ring at left))
word_loaded number t ring at left count word some h c w =
    ap (λ k. words_at number (after_write t (fifo number) k) (words_of (bytes_at ring (at + count) (left - count)))) (w ∙ number_is (take count (drop at ring)))
    ∙ ap (λ n. words_at number (after_write t (fifo number) (word_of (take n (drop at ring)))) (words_of (bytes_at ring (at + n) (left - n)))) c
    ∙ sym (ap (words_at number t) (words_step ring at left some h))

pub fewer_words : (left count : ℕ) → 0 < left → count ≡ min left 4 → word_count (left - count) + 1 ≤ word_count left
fewer_words left count some c = omega (arith, some, c)

pub none_loaded : (number : ℕ) (t : Table) (ring : List ℕ) (at left : ℕ) → left ≡ 0 → words_at number t (words_of (bytes_at ring at left)) ≡ t
none_loaded number t ring at left e = ap (λ k. words_at number t (words_of (bytes_at ring at k))) e

pub ruleset words = (none_loaded, fewer_words)

-- Packets.

pub product_few : (a b : ℕ) → a ≤ 2 → b ≤ 64 → a * b ≤ 128
product_few zero b h k = omega arith
product_few (suc zero) b h k = omega (arith, k)
product_few (suc (suc zero)) b h k = omega (arith, k)
product_few (suc (suc (suc a))) b h k = absurd (omega (arith, h))

load_few : (loaded left : ℕ) → IsLoad loaded left → loaded ≤ min 2 left
load_few zero left h = omega arith
load_few (suc loaded) left h = omega (arith, h)

pub record Transfer (s : InEndpoint) (ring : List ℕ) : Type 0 where
  pub within : s.bytes ≤ length ring
  pub sent : s.sent ≤ s.bytes
  pub size : s.endpoint.size ≤ 64
  pub few : s.loaded ≤ s.left
  pub two : s.loaded ≤ 2

pub transfer : (s : InEndpoint) (ring : List ℕ) → IsTransfer s ring → Transfer s ring
transfer s ring h =
    let load = load_few s.loaded s.left h.load in
    record { within = h.within; sent = h.sent; size = h.opened.most; few = omega (arith, load); two = omega (arith, load) }

pub first_at : (s : InEndpoint) (ring : List ℕ) → bytes_at ring s.sent (min (s.bytes - s.sent) s.endpoint.size) ≡ packet_at s ring 0
first_at s ring =
    let place : s.sent + 0 * s.endpoint.size ≡ s.sent = omega arith in
    let n : min (s.bytes - s.sent) s.endpoint.size ≡ min s.endpoint.size (s.bytes - s.sent) = omega arith in
    ap (λ k. bytes_at ring s.sent k) n ∙ ap (λ p. bytes_at ring p (min s.endpoint.size (s.bytes - p))) (sym place)

le_true : (a b : ℕ) → nat_le a b ≡ true → a ≤ b
le_true a b e = grind (arith, nat_tests)

le_false : (a b : ℕ) → nat_le a b ≡ false → b < a
le_false a b e = grind (arith, nat_tests)

pub second_at : (s : InEndpoint) (ring : List ℕ)
    → bytes_at ring (s.sent + min (s.bytes - s.sent) s.endpoint.size) (min (s.bytes - s.sent - min (s.bytes - s.sent) s.endpoint.size) s.endpoint.size) ≡ packet_at s ring 1
second_at s ring = by_size (nat_le s.endpoint.size (s.bytes - s.sent)) refl
  where
    by_size : (b : Bool) → nat_le s.endpoint.size (s.bytes - s.sent) ≡ b
        → bytes_at ring (s.sent + min (s.bytes - s.sent) s.endpoint.size) (min (s.bytes - s.sent - min (s.bytes - s.sent) s.endpoint.size) s.endpoint.size) ≡ packet_at s ring 1
    by_size true e =
        let many = le_true s.endpoint.size (s.bytes - s.sent) e in
        let one : 1 * s.endpoint.size ≡ s.endpoint.size = omega arith in
        let place : s.sent + min (s.bytes - s.sent) s.endpoint.size ≡ s.sent + 1 * s.endpoint.size = omega (arith, many, one) in
        let n : min (s.bytes - s.sent - min (s.bytes - s.sent) s.endpoint.size) s.endpoint.size ≡ min s.endpoint.size (s.bytes - (s.sent + 1 * s.endpoint.size)) = omega (arith, many, one) in
        ap (λ p. bytes_at ring p (min (s.bytes - s.sent - min (s.bytes - s.sent) s.endpoint.size) s.endpoint.size)) place
        ∙ ap (λ k. bytes_at ring (s.sent + 1 * s.endpoint.size) k) n
    by_size false e =
        let few = le_false s.endpoint.size (s.bytes - s.sent) e in
        let one : 1 * s.endpoint.size ≡ s.endpoint.size = omega arith in
        let none : min (s.bytes - s.sent - min (s.bytes - s.sent) s.endpoint.size) s.endpoint.size ≡ 0 = omega (arith, few) in
        let nothing : min s.endpoint.size (s.bytes - (s.sent + 1 * s.endpoint.size)) ≡ 0 = omega (arith, few, one) in
        ap (λ k. bytes_at ring (s.sent + min (s.bytes - s.sent) s.endpoint.size) k) none
        ∙ sym (ap (λ k. bytes_at ring (s.sent + 1 * s.endpoint.size) k) nothing)

pub placed_one : (s : InEndpoint) (ring : List ℕ) (left : ℕ) → 1 ≤ left → left < 2 → placed_packets left s ring ≡ packet_at s ring 0 ∷ []
placed_one s ring zero some few = absurd (omega (arith, some))
placed_one s ring (suc zero) some few = refl
placed_one s ring (suc (suc left)) some few = absurd (omega (arith, few))

pub placed_two : (s : InEndpoint) (ring : List ℕ) (left : ℕ) → 2 ≤ left → placed_packets left s ring ≡ packet_at s ring 0 ∷ packet_at s ring 1 ∷ []
placed_two s ring zero many = absurd (omega (arith, many))
placed_two s ring (suc zero) many = absurd (omega (arith, many))
placed_two s ring (suc (suc left)) many = refl

abbrev pub loaded_by : ℕ → InEndpoint → ℕ → ℕ → List (List ℕ) → Table → Table
loaded_by x s count bytes packets t =
    after_write (packets_at x (after_write (after_write t (dieptsiz x) (in_size_word count bytes)) (diepctl x) (control_with x s in_snak_epena)) packets) (diepctl x) (control_with x s in_cnak)

pub loaded_is : (x : ℕ) (t : Table) (s : InEndpoint) (ring : List ℕ) → IsTransfer s ring
    → loaded_by x s (min most_loaded s.left) (min (min most_loaded s.left * s.endpoint.size) (s.bytes - s.sent)) (placed_packets s.left s ring) t ≡ loaded_at x s (next_packets s ring) t
loaded_is x t s ring h =
    let next : Next s ring = next_are s ring h in
    ap (λ n. loaded_by x s n (min (min most_loaded s.left * s.endpoint.size) (s.bytes - s.sent)) (placed_packets s.left s ring) t) (sym next.count)
    ∙ ap (λ n. loaded_by x s (length (next_packets s ring)) n (placed_packets s.left s ring) t) (sym next.bytes)
    ∙ ap (λ ps. loaded_by x s (length (next_packets s ring)) (length (concat (next_packets s ring))) ps t) (sym next.packets)

-- A handler run.

pub same_ring : (r : Rings) (number : ℕ) → with_in_ring r number (record (in_ring r number) { bytes = (in_ring r number).bytes }) ≡ r
same_ring r zero = refl
same_ring r (suc m) = ap (λ ins. record r { ins = ins }) (set-get_or r.ins m no_ring)

-- where some are left, and where some are loaded

pub kept_on_some : (left : ℕ) (s : InEndpoint) → left ≢ 0 → kept_on left s ≡ record s { loaded = min most_loaded s.left }
kept_on_some zero s h = absurd (h refl)
kept_on_some (suc left) s h = refl

pub bytes_on_some : (left : ℕ) (s : InEndpoint) (bytes : List ℕ) → left ≢ 0 → bytes_on left s bytes ≡ bytes
bytes_on_some zero s bytes h = absurd (h refl)
bytes_on_some (suc left) s bytes h = refl

pub goes_on_some : (left x : ℕ) (s : InEndpoint) (ring : List ℕ) (t : Table) → left ≢ 0 → goes_on_at left x s ring t ≡ loaded_at x s (next_packets s ring) t
goes_on_some zero x s ring t h = absurd (h refl)
goes_on_some (suc left) x s ring t h = refl

pub kept_run_some : (loaded : ℕ) (b : Bool) (s : InEndpoint) → loaded ≢ 0 → kept_run loaded b s ≡ (if b then kept_on (found_software s).left (found_software s) else s)
kept_run_some zero b s h = absurd (h refl)
kept_run_some (suc loaded) b s h = refl

pub bytes_run_some : (loaded : ℕ) (b : Bool) (s : InEndpoint) (bytes : List ℕ) → loaded ≢ 0 → bytes_run loaded b s bytes ≡ (if b then bytes_on (found_software s).left (found_software s) bytes else bytes)
bytes_run_some zero b s bytes h = absurd (h refl)
bytes_run_some (suc loaded) b s bytes h = refl

pub ruleset somes = (kept_on_some, bytes_on_some, goes_on_some, kept_run_some, bytes_run_some, same_ring)

pub found_transfer : (s : InEndpoint) (ring : List ℕ) (l : ℕ) → s.loaded ≡ suc l → IsTransfer s ring → IsTransfer (found_software s) ring
found_transfer s ring l e h =
    let load : IsLoad (suc l) s.left = subst (λ k. IsLoad k s.left) e h.load in
    let packets = found_packets s ring l (record { opened = h.opened; class = h.class; within = h.within; sent = h.sent; left = h.left; load = load }) in
    let moved : packets_left (found_software s) ring ≡ drop (suc l) (packets_left s ring) =
    ap (λ k. packets_left (record s { loaded = 0; sent = min s.bytes (s.sent + k * s.endpoint.size); left = s.left - k }) ring) e ∙ packets in
    record {
      opened = h.opened;
      class = h.class;
      within = h.within;
      sent = at_most s.bytes (s.sent + s.loaded * s.endpoint.size);
      left = ap (λ k. s.left - k) e ∙ ap (λ k. k - suc l) h.left ∙ sym (ap length moved ∙ length-drop (suc l) (packets_left s ring));
      load = tt;
    }
  where
    at_most : (a b : ℕ) → min a b ≤ a
    at_most a b = omega arith

pub found_some : (s : InEndpoint) (ring : List ℕ) → s.loaded ≢ 0 → IsTransfer s ring → IsTransfer (found_software s) ring
found_some s ring h transfer = by_loaded s.loaded refl
  where
    by_loaded : (n : ℕ) → s.loaded ≡ n → IsTransfer (found_software s) ring
    by_loaded zero e = absurd (h e)
    by_loaded (suc l) e = found_transfer s ring l e transfer

-- what is kept and the ring's bytes, of the whole step

kept_goes : (left number : ℕ) (j : InJoint) → (in_goes_on left number j).software ≡ kept_on left j.software
kept_goes zero number j = refl
kept_goes (suc left) number j = refl

bytes_goes : (left number : ℕ) (j : InJoint) → (in_goes_on left number j).ring ≡ bytes_on left j.software j.ring
bytes_goes zero number j = refl
bytes_goes (suc left) number j = refl

kept_if : (number : ℕ) (b : Bool) (j : InJoint) → (if b then in_next number (in_found j) else j).software ≡ (if b then kept_on (found_software j.software).left (found_software j.software) else j.software)
kept_if number true j = kept_goes (found_software j.software).left number (in_found j)
kept_if number false j = refl

bytes_if : (number : ℕ) (b : Bool) (j : InJoint) → (if b then in_next number (in_found j) else j).ring ≡ (if b then bytes_on (found_software j.software).left (found_software j.software) j.ring else j.ring)
bytes_if number true j = bytes_goes (found_software j.software).left number (in_found j)
bytes_if number false j = refl

kept_runs : (loaded number : ℕ) (j : InJoint) → (in_run loaded number j).software ≡ kept_run loaded (shows_xfrc number j.end) j.software
kept_runs zero number j = kept_goes j.software.left number j
kept_runs (suc loaded) number j = kept_if number (shows_xfrc number j.end) j

bytes_runs : (loaded number : ℕ) (j : InJoint) → (in_run loaded number j).ring ≡ bytes_run loaded (shows_xfrc number j.end) j.software j.ring
bytes_runs zero number j = bytes_goes j.software.left number j
bytes_runs (suc loaded) number j = bytes_if number (shows_xfrc number j.end) j

kept_is : (state : InState) (number : ℕ) (j : InJoint) → (in_served_by state number j).software ≡ kept_served state (shows_xfrc number j.end) j.software
kept_is Closed number j = refl
kept_is Rest number j = refl
kept_is Running number j = kept_runs j.software.loaded number j
kept_is Posted number j = refl

bytes_are : (state : InState) (number : ℕ) (j : InJoint) → (in_served_by state number j).ring ≡ bytes_served state (shows_xfrc number j.end) j.software j.ring
bytes_are Closed number j = refl
bytes_are Rest number j = refl
bytes_are Running number j = bytes_runs j.software.loaded number j
bytes_are Posted number j = refl

-- an endpoint on which a transfer runs
pub is_transfer : (number : ℕ) (j : InJoint) → InStands number j → j.software.state ≡ Running → IsTransfer j.software j.ring
is_transfer number j st e = subst (λ state. Holds state j.software j.ring) e st.holds

-- the whole of it, as registers, what is kept, and the ring
abbrev pub served_whole : Whole → ℕ → Whole
served_whole w n =
    let j = in_joint_of w n in
    record {
      joint = record {
        table = served_at j.software.state n j.software j.ring w.joint.table;
        software = with_in_kept w.joint.software n (kept_served j.software.state (shows_xfrc n j.end) j.software);
      };
      rings = with_in_ring w.rings n (record (in_ring w.rings n) { bytes = bytes_served j.software.state (shows_xfrc n j.end) j.software j.ring });
    }

pub served_is : (w : Whole) (n : ℕ) → 1 ≤ n → n ≤ 3 → length w.joint.table.ins ≡ 3 → served_whole w n ≡ in_pipe_served w n
served_is w zero from to ends = absurd (omega (arith, from))
served_is w (suc m) from to ends =
    let j = in_joint_of w (suc m) in
    let Made : Table → InEndpoint → List ℕ → Whole = λ t s ring. record {
      joint = record { table = t; software = with_in_kept w.joint.software (suc m) s };
      rings = with_in_ring w.rings (suc m) (record (in_ring w.rings (suc m)) { bytes = ring });
    } in
    ap (λ t. Made t (kept_served j.software.state (shows_xfrc (suc m) j.end) j.software) (bytes_served j.software.state (shows_xfrc (suc m) j.end) j.software j.ring))
    (runs_at m w.joint.table j.software j.ring (omega (arith, to, ends)))
    ∙ ap (λ s. Made (with_in w.joint.table (suc m) (in_served (suc m) j).end) s (bytes_served j.software.state (shows_xfrc (suc m) j.end) j.software j.ring)) (sym (kept_is j.software.state (suc m) j))
    ∙ ap (λ ring. Made (with_in w.joint.table (suc m) (in_served (suc m) j).end) (in_served (suc m) j).software ring) (sym (bytes_are j.software.state (suc m) j))

-- one endpoint leaves the next

abbrev joint_at : Whole → ℕ → InJoint
joint_at w n = in_joint_of w n

pub next_stands : (w w1 : Whole) → InsStand w → w1 ≡ in_pipe_served w 1 → InStands 2 (in_joint_of w1 2)
next_stands w w1 h e = subst (λ x. InStands 2 (in_joint_of x 2)) (sym e) (of (in_served 1 (in_joint_of w 1)) h.two)
  where
    other : {A : Type 0} (xs : List A) (x d : A) → slice_index_or (slice_set xs 0 x) 1 d ≡ slice_index_or xs 1 d
    other [] x d = refl
    other (y ∷ ys) x d = refl

    of : (j : InJoint) → InStands 2 (in_joint_of w 2) → InStands 2 (in_joint_of (with_in_joint w 1 j) 2)
    of j st =
        subst (λ x. InStands 2 (record { end = x; software = in_kept (with_in_kept w.joint.software 1 j.software) 2; ring = (in_ring (with_in_ring w.rings 1 (record (in_ring w.rings 1) { bytes = j.ring })) 2).bytes })) (sym (other w.joint.table.ins j.end _))
        (subst (λ x. InStands 2 (record { end = in_end w.joint.table 2; software = x; ring = (in_ring (with_in_ring w.rings 1 (record (in_ring w.rings 1) { bytes = j.ring })) 2).bytes })) (sym (other w.joint.software.ins j.software _))
        (subst (λ (x : Ring). InStands 2 (record { end = in_end w.joint.table 2; software = in_kept w.joint.software 2; ring = x.bytes })) (sym (other w.rings.ins (record (in_ring w.rings 1) { bytes = j.ring }) no_ring)) st))

third_stands : (w : Whole) (j : InJoint) → InStands 3 (in_joint_of w 3) → InStands 3 (in_joint_of (with_in_joint w 1 j) 3)
third_stands w j st =
    subst (λ x. InStands 3 (record { end = x; software = in_kept (with_in_kept w.joint.software 1 j.software) 3; ring = (in_ring (with_in_ring w.rings 1 (record (in_ring w.rings 1) { bytes = j.ring })) 3).bytes })) (sym (other w.joint.table.ins j.end _))
    (subst (λ x. InStands 3 (record { end = in_end w.joint.table 3; software = x; ring = (in_ring (with_in_ring w.rings 1 (record (in_ring w.rings 1) { bytes = j.ring })) 3).bytes })) (sym (other w.joint.software.ins j.software _))
    (subst (λ (x : Ring). InStands 3 (record { end = in_end w.joint.table 3; software = in_kept w.joint.software 3; ring = x.bytes })) (sym (other w.rings.ins (record (in_ring w.rings 1) { bytes = j.ring }) no_ring)) st))
  where
    other : {A : Type 0} (xs : List A) (x d : A) → slice_index_or (slice_set xs 0 x) 2 d ≡ slice_index_or xs 2 d
    other [] x d = refl
    other (y ∷ ys) x d = refl

fourth_stands : (w : Whole) (j : InJoint) → InStands 3 (in_joint_of w 3) → InStands 3 (in_joint_of (with_in_joint w 2 j) 3)
fourth_stands w j st =
    subst (λ x. InStands 3 (record { end = x; software = in_kept (with_in_kept w.joint.software 2 j.software) 3; ring = (in_ring (with_in_ring w.rings 2 (record (in_ring w.rings 2) { bytes = j.ring })) 3).bytes })) (sym (other w.joint.table.ins j.end _))
    (subst (λ x. InStands 3 (record { end = in_end w.joint.table 3; software = x; ring = (in_ring (with_in_ring w.rings 2 (record (in_ring w.rings 2) { bytes = j.ring })) 3).bytes })) (sym (other w.joint.software.ins j.software _))
    (subst (λ (x : Ring). InStands 3 (record { end = in_end w.joint.table 3; software = in_kept w.joint.software 3; ring = x.bytes })) (sym (other w.rings.ins (record (in_ring w.rings 2) { bytes = j.ring }) no_ring)) st))
  where
    other : {A : Type 0} (xs : List A) (x d : A) → slice_index_or (slice_set xs 1 x) 2 d ≡ slice_index_or xs 2 d
    other [] x d = refl
    other (y ∷ []) x d = refl
    other (y ∷ z ∷ ys) x d = refl

pub last_stands : (w w1 w2 : Whole) → InsStand w → w1 ≡ in_pipe_served w 1 → w2 ≡ in_pipe_served w1 2 → InStands 3 (in_joint_of w2 3)
last_stands w w1 w2 h e k =
    subst (λ x. InStands 3 (in_joint_of x 3)) (sym k)
    (fourth_stands w1 (in_served 2 (in_joint_of w1 2)) (subst (λ x. InStands 3 (in_joint_of x 3)) (sym e) (third_stands w (in_served 1 (in_joint_of w 1)) h.three)))

-- and how many there are
pub ends_kept : (w w1 : Whole) (n : ℕ) → w1 ≡ in_pipe_served w n → 1 ≤ n → length w1.joint.table.ins ≡ length w.joint.table.ins
ends_kept w w1 zero e from = absurd (omega (arith, from))
ends_kept w w1 (suc m) e from = ap (λ (x : Whole). length x.joint.table.ins) e ∙ length-set w.joint.table.ins m (in_served (suc m) (in_joint_of w (suc m))).end
