-- The packets and the begun one, as the heads and the row of bytes hold them.
use Rattle.std.proofs.Common.{◌≡◌, ℕ, zero, suc, ◌+◌, ◌-◌, ◌*◌, ◌/◌, ◌%◌, ◌<◌, ◌≤◌, List, [], ◌∷◌, ◌++◌, length, take, drop, refl, ap, ap₂, inl, inr, sym, ◌∙◌, arith, Some, None, Option, min, subst, length-append, length-drop, length-take-le, take-append-drop, drop_at, drop-drop, take-take, true, false}
use Rattle.std.proofs.lemmas.List.{take-append-le, drop-append-le, drop-take}
use Rattle.std.proofs.Math.Seq.{take-append-add}
use Rattle.std.proofs.lemmas.Bool.{eq-eqb, le-ltb, lt-ltb}
use Rattle.std.proofs.lemmas.Bool.Decides.{eqb_tells}
use Rattle.std.specs.Prelude.{nat_lt}
use Rattle.dwc2_regs.specs.Word.{bytes_of}
use Rattle.dwc2_regs.proofs.WordLemmas.{take-bytes_of}
use Rattle.dwc2_fifo.specs.declared.tx.Head.{Head}
use Rattle.dwc2_fifo.specs.Words.{word_count}
use Rattle.dwc2_fifo.specs.Tx.{Tagged, Begun, Tx, words_of_packets, words_of_begun, words_taken, first_with, without_first, with_word, bytes_with}
use Rattle.dwc2_fifo.specs.Cut.{room_of_packet, cut, bytes_under, words_under, begun_of, tx_of, AreLengths, IsBegun, words_begun, NoneHas, IsCut}

-- counts

pub words_of_packets-cut : (heads : List Head) (bytes : List ℕ) → bytes_under heads ≤ length bytes → words_of_packets (cut heads bytes) ≡ words_under heads
words_of_packets-cut [] bytes h = refl
words_of_packets-cut (head ∷ heads) bytes h =
    ap₂ ◌+◌ (ap word_count (length-take-le head.len bytes (omega arith)))
    (words_of_packets-cut heads (drop (room_of_packet head.len) bytes) (omega (arith, length-drop (room_of_packet head.len) bytes)))

pub words_of_begun-begun_of : (heads : List Head) (begun : Option Head) (bytes : List ℕ) → words_of_begun (begun_of heads begun bytes) ≡ words_begun begun
words_of_begun-begun_of heads None bytes = refl
words_of_begun-begun_of heads (Some head) bytes = refl

pub words_taken-tx_of : (heads : List Head) (begun : Option Head) (bytes : List ℕ) (depth : ℕ) → bytes_under heads ≤ length bytes
    → words_taken (tx_of heads begun bytes depth) ≡ words_under heads + words_begun begun
words_taken-tx_of heads begun bytes depth h =
    ap₂ ◌+◌ (words_of_packets-cut heads bytes h) (words_of_begun-begun_of heads begun bytes)

pub length-le-words_under : (heads : List Head) → AreLengths heads → length heads ≤ words_under heads
length-le-words_under [] h = omega arith
length-le-words_under (head ∷ heads) h = let rest = length-le-words_under heads h.2 in let some = h.0 in omega arith

pub bytes_under-is : (heads : List Head) → bytes_under heads ≡ 4 * words_under heads
bytes_under-is [] = refl
bytes_under-is (head ∷ heads) = let rest = bytes_under-is heads in omega arith

-- one more packet

pub bytes_under-append : (heads more : List Head) → bytes_under (heads ++ more) ≡ bytes_under heads + bytes_under more
bytes_under-append [] more = omega arith
bytes_under-append (head ∷ heads) more = let rest = bytes_under-append heads more in omega arith

pub words_under-append : (heads more : List Head) → words_under (heads ++ more) ≡ words_under heads + words_under more
words_under-append [] more = omega arith
words_under-append (head ∷ heads) more = let rest = words_under-append heads more in omega arith

pub AreLengths-append : (heads more : List Head) → AreLengths heads → AreLengths more → AreLengths (heads ++ more)
AreLengths-append [] more h k = k
AreLengths-append (head ∷ heads) more h k = (h.0, h.1, AreLengths-append heads more h.2 k)

pub cut-append : (heads : List Head) (bytes more : List ℕ) → bytes_under heads ≤ length bytes → cut heads (bytes ++ more) ≡ cut heads bytes
cut-append [] bytes more h = refl
cut-append (head ∷ heads) bytes more h =
    let k = room_of_packet head.len in
    let room : k ≤ length bytes = omega arith in
    let within : head.len ≤ length bytes = omega arith in
    let Made : List ℕ → List Tagged → List Tagged = λ xs packets. record { tag = head.tag; bytes = xs } ∷ packets in
    ap₂ Made (take-append-le head.len bytes more within)
    (ap (cut heads) (drop-append-le k bytes more room) ∙ cut-append heads (drop k bytes) more (omega (arith, length-drop k bytes)))

pub cut-push : (heads : List Head) (head : Head) (bytes : List ℕ) → bytes_under heads ≤ length bytes
    → cut (heads ++ head ∷ []) bytes ≡ cut heads bytes ++ record { tag = head.tag; bytes = take head.len (drop (bytes_under heads) bytes) } ∷ []
cut-push [] head bytes h = refl
cut-push (first ∷ heads) head bytes h =
    let k = room_of_packet first.len in
    let First : List Tagged → List Tagged = λ packets. record { tag = first.tag; bytes = take first.len bytes } ∷ packets in
    let Last : List ℕ → List Tagged = λ xs. cut heads (drop k bytes) ++ record { tag = head.tag; bytes = take head.len xs } ∷ [] in
    ap First (cut-push heads head (drop k bytes) (omega (arith, length-drop k bytes)) ∙ ap Last (drop-drop (bytes_under heads) k bytes))

-- a word for the begun packet

pub length-bytes_of : (n word : ℕ) → length (bytes_of n word) ≡ n
length-bytes_of zero word = refl
length-bytes_of (suc n) word = ap suc (length-bytes_of n (word / 256))

-- the bytes that the begun packet has
abbrev so_far : List Head → List ℕ → List ℕ
so_far heads bytes = drop (bytes_under heads) bytes

length-so_far : (heads : List Head) (got : ℕ) (bytes : List ℕ) → bytes_under heads + got ≡ length bytes → length (so_far heads bytes) ≡ got
length-so_far heads got bytes h = omega (arith, length-drop (bytes_under heads) bytes)

-- with the word that came, if it is all that the packet lacks
pub whole_bytes : (heads : List Head) (got len word : ℕ) (bytes : List ℕ) → bytes_under heads + got ≡ length bytes → got < len → len - got ≤ 4
    → take len (so_far heads (bytes ++ bytes_of 4 word)) ≡ so_far heads bytes ++ bytes_of (min (len - length (so_far heads bytes)) 4) word
whole_bytes heads got len word bytes h lacks few =
    let front = so_far heads bytes in
    let as_long = length-so_far heads got bytes h in
    let split : len ≡ length front + (len - got) = omega (arith, as_long) in
    let least : min (len - length front) 4 ≡ len - got = omega (arith, as_long) in
    let Front : List ℕ → List ℕ = λ xs. front ++ xs in
    ap (take len) (drop-append-le (bytes_under heads) bytes (bytes_of 4 word) (omega arith))
    ∙ ap (λ (n : ℕ). take n (front ++ bytes_of 4 word)) split
    ∙ take-append-add front (bytes_of 4 word) (len - got)
    ∙ ap Front (take-bytes_of (len - got) 4 word few ∙ sym (ap (λ (n : ℕ). bytes_of n word) least))

pub with_word-whole : (heads : List Head) (begun : Option Head) (head : Head) (got word depth : ℕ) (bytes : List ℕ) → begun ≡ Some head
    → bytes_under heads + got ≡ length bytes → got < head.len → head.len - got ≤ 4
    → tx_of (heads ++ head ∷ []) None (bytes ++ bytes_of 4 word) depth ≡ with_word (tx_of heads begun bytes depth) word
with_word-whole heads begun head got word depth bytes is h lacks few =
    let new = bytes_of 4 word in
    let b : Begun = record { tag = head.tag; length_wanted = head.len; bytes = so_far heads bytes } in
    let as_long = length-so_far heads got bytes h in
    let its_new = bytes_of (min (head.len - length (so_far heads bytes)) 4) word in
    let all : length (bytes_with b word) ≡ head.len =
    length-append (so_far heads bytes) its_new ∙ omega (arith, as_long, length-bytes_of (min (head.len - length (so_far heads bytes)) 4) word) in
    let full : nat_lt (length (bytes_with b word)) head.len ≡ false = le-ltb _ _ (omega (arith, all)) in
    let Whole : List Tagged → Tx = λ packets. record { packets = packets; unfinished = None; depth = depth } in
    let Last : List ℕ → List Tagged = λ xs. cut heads bytes ++ record { tag = head.tag; bytes = xs } ∷ [] in
    let With : List Tagged → List Tagged = λ packets. packets ++ record { tag = head.tag; bytes = take head.len (so_far heads (bytes ++ new)) } ∷ [] in
    let longer = length-append bytes new in
    rw is (rw full (
    ap Whole (cut-push heads head (bytes ++ new) (omega (arith, longer)) ∙ ap With (cut-append heads bytes new (omega arith)) ∙ ap Last (whole_bytes heads got head.len word bytes h lacks few))
    ))

pub with_word-more : (heads : List Head) (begun : Option Head) (head : Head) (got word depth : ℕ) (bytes : List ℕ) → begun ≡ Some head
    → bytes_under heads + got ≡ length bytes → 4 < head.len - got
    → tx_of heads begun (bytes ++ bytes_of 4 word) depth ≡ with_word (tx_of heads begun bytes depth) word
with_word-more heads begun head got word depth bytes is h many =
    let new = bytes_of 4 word in
    let b : Begun = record { tag = head.tag; length_wanted = head.len; bytes = so_far heads bytes } in
    let as_long = length-so_far heads got bytes h in
    let whole_word : 4 ≡ min (head.len - length (so_far heads bytes)) 4 = omega (arith, as_long) in
    let bytes_are : so_far heads (bytes ++ new) ≡ bytes_with b word =
    drop-append-le (bytes_under heads) bytes new (omega arith) ∙ ap (λ (n : ℕ). so_far heads bytes ++ bytes_of n word) whole_word in
    let longer = length-append (so_far heads bytes) new in
    let as_long_new : length (bytes_with b word) ≡ got + 4 = sym (ap length bytes_are) ∙ ap length (drop-append-le (bytes_under heads) bytes new (omega arith)) ∙ longer ∙ omega (arith, as_long, length-bytes_of 4 word) in
    let lacks : nat_lt (length (bytes_with b word)) head.len ≡ true = lt-ltb _ _ (omega (arith, as_long_new)) in
    let Made : List Tagged → List ℕ → Tx = λ packets xs. record { packets = packets; unfinished = Some (record { tag = head.tag; length_wanted = head.len; bytes = xs }); depth = depth } in
    rw is (rw lacks (ap₂ Made (cut-append heads bytes new (omega arith)) bytes_are))

-- the first packet with a tag

pub first_with-none : (tag : ℕ) (heads : List Head) (bytes : List ℕ) → NoneHas tag heads → first_with tag (cut heads bytes) ≡ None
first_with-none tag [] bytes h = refl
first_with-none tag (head ∷ heads) bytes h = elim (eqb_tells head.tag tag) [
  | inl same ↦ absurd (h.0 same.1)
  | inr other ↦ rw other.0 (first_with-none tag heads (drop (room_of_packet head.len) bytes) h.1)
]

pub without_first-none : (tag : ℕ) (heads : List Head) (bytes : List ℕ) → NoneHas tag heads → without_first tag (cut heads bytes) ≡ cut heads bytes
without_first-none tag [] bytes h = refl
without_first-none tag (head ∷ heads) bytes h = elim (eqb_tells head.tag tag) [
  | inl same ↦ absurd (h.0 same.1)
  | inr other ↦
      let First : List Tagged → List Tagged = λ packets. record { tag = head.tag; bytes = take head.len bytes } ∷ packets in
      rw other.0 (ap First (without_first-none tag heads (drop (room_of_packet head.len) bytes) h.1))
]

pub first_with-found : (before after : List Head) (head : Head) (bytes : List ℕ) → NoneHas head.tag before
    → first_with head.tag (cut (before ++ head ∷ after) bytes) ≡ Some (take head.len (drop (bytes_under before) bytes))
first_with-found [] after head bytes h = rw (eq-eqb head.tag head.tag refl) refl
first_with-found (first ∷ before) after head bytes h = elim (eqb_tells first.tag head.tag) [
  | inl same ↦ absurd (h.0 same.1)
  | inr other ↦
      let Taken : List ℕ → Option (List ℕ) = λ xs. Some (take head.len xs) in
      let k = room_of_packet first.len in
      rw other.0 (first_with-found before after head (drop k bytes) h.1 ∙ ap Taken (drop-drop (bytes_under before) k bytes))
]

-- the bytes without those of the packet
abbrev kept : ℕ → ℕ → List ℕ → List ℕ
kept start len bytes = take start bytes ++ drop (start + len) bytes

take-kept : (k start len : ℕ) (bytes : List ℕ) → k ≤ start → start + len ≤ length bytes → take k (kept start len bytes) ≡ take k bytes
take-kept k start len bytes within h =
    let front : length (take start bytes) ≡ start = length-take-le start bytes (omega arith) in
    take-append-le k (take start bytes) (drop (start + len) bytes) (omega (arith, front)) ∙ take-take k start bytes (omega arith)

drop-kept : (k rest len : ℕ) (bytes : List ℕ) → k + rest + len ≤ length bytes → drop k (kept (k + rest) len bytes) ≡ kept rest len (drop k bytes)
drop-kept k rest len bytes h =
    let front : length (take (k + rest) bytes) ≡ k + rest = length-take-le (k + rest) bytes (omega arith) in
    let From : ℕ → List ℕ = λ n. drop n bytes in
    drop-append-le k (take (k + rest) bytes) (drop (k + rest + len) bytes) (omega (arith, front))
    ∙ ap₂ ◌++◌ (drop-take k rest bytes) (ap From (omega arith) ∙ sym (drop-drop (rest + len) k bytes))

pub without_first-found : (before after : List Head) (head : Head) (bytes : List ℕ) → NoneHas head.tag before
    → bytes_under before + room_of_packet head.len ≤ length bytes
    → without_first head.tag (cut (before ++ head ∷ after) bytes) ≡ cut (before ++ after) (kept (bytes_under before) (room_of_packet head.len) bytes)
without_first-found [] after head bytes h within = rw (eq-eqb head.tag head.tag refl) (ap (λ n. cut after (drop n bytes)) (omega arith))
without_first-found (first ∷ before) after head bytes h within = elim (eqb_tells first.tag head.tag) [
  | inl same ↦ absurd (h.0 same.1)
  | inr other ↦
      let k = room_of_packet first.len in
      let rest = bytes_under before in
      let gone = room_of_packet head.len in
      let Made : List ℕ → List ℕ → List Tagged = λ xs ys. record { tag = first.tag; bytes = xs } ∷ cut (before ++ after) ys in
      let First : List Tagged → List Tagged = λ packets. record { tag = first.tag; bytes = take first.len bytes } ∷ packets in
      rw other.0 (
      ap First (without_first-found before after head (drop k bytes) h.1 (omega (arith, length-drop k bytes)))
      ∙ ap₂ Made (sym (take-kept first.len (k + rest) gone bytes (omega arith) (omega arith))) (sym (drop-kept k rest gone bytes (omega arith)))
      )
]

pub begun_of-kept : (before after : List Head) (head : Head) (begun : Option Head) (bytes : List ℕ) → bytes_under before + room_of_packet head.len ≤ length bytes
    → begun_of (before ++ head ∷ after) begun bytes ≡ begun_of (before ++ after) begun (kept (bytes_under before) (room_of_packet head.len) bytes)
begun_of-kept before after head None bytes within = refl
begun_of-kept before after head (Some open_one) bytes within =
    let start = bytes_under before in
    let rest = bytes_under after in
    let gone = room_of_packet head.len in
    let front : length (take start bytes) ≡ start = length-take-le start bytes (omega arith) in
    let From : ℕ → List ℕ = λ n. drop n bytes in
    let Kept : ℕ → List ℕ = λ n. drop n (kept start gone bytes) in
    let Behind : List ℕ → List ℕ = λ xs. drop rest xs in
    let Made : List ℕ → Option Begun = λ xs. Some (record { tag = open_one.tag; length_wanted = open_one.len; bytes = xs }) in
    ap Made (
    ap From (bytes_under-append before (head ∷ after) ∙ omega arith)
    ∙ sym (drop-drop rest (start + gone) bytes)
    ∙ sym (ap Behind (drop_at (take start bytes) (drop (start + gone) bytes) start front))
    ∙ drop-drop rest start (kept start gone bytes)
    ∙ sym (ap Kept (bytes_under-append before after))
    )

-- nothing is begun

pub begun_none : (heads : List Head) (begun : Option Head) (bytes : List ℕ) → begun_of heads begun bytes ≡ None → begun ≡ None
begun_none heads None bytes h = refl
begun_none heads (Some head) bytes h = cc

pub nothing_behind : (begun : Option Head) (got : ℕ) → begun ≡ None → IsBegun begun got → got ≡ 0
nothing_behind None got is h = h
nothing_behind (Some head) got is h = cc

pub words_begun_none : (begun : Option Head) → begun ≡ None → words_begun begun ≡ 0
words_begun_none None is = refl
words_begun_none (Some head) is = cc

pub words_begun_some : (begun : Option Head) (head : Head) → begun ≡ Some head → words_begun begun ≡ word_count head.len
words_begun_some begun head is = rw is refl

pub some_behind : (begun : Option Head) (head : Head) (got : ℕ) → begun ≡ Some head → IsBegun begun got → (got < head.len) × (head.len ≤ 64) × (got % 4 ≡ 0)
some_behind begun head got is h = let P : Option Head → Type 0 = λ b. IsBegun b got in subst P is h

pub words_taken-empty : (tx : Tx) → (tx.packets ≡ []) × (tx.unfinished ≡ None) → words_taken tx ≡ 0
words_taken-empty tx h = ap₂ (λ (packets : List Tagged) (begun : Option Begun). words_of_packets packets + words_of_begun begun) h.0 h.1

-- the packets before one are searched

pub NoneHas-append : (tag : ℕ) (heads more : List Head) → NoneHas tag heads → NoneHas tag more → NoneHas tag (heads ++ more)
NoneHas-append tag [] more h k = k
NoneHas-append tag (head ∷ heads) more h k = (h.0, NoneHas-append tag heads more h.1 k)

pub AreLengths-split : (before more : List Head) → AreLengths (before ++ more) → AreLengths before × AreLengths more
AreLengths-split [] more h = (tt, h)
AreLengths-split (head ∷ before) more h = let rest = AreLengths-split before more h.2 in ((h.0, h.1, rest.0), rest.1)

-- one more word keeps heads and bytes together

pub room_for_word : (heads : List Head) (begun : Option Head) (head : Head) (got end used depth : ℕ) → IsCut heads begun got end used depth
    → begun ≡ Some head → (end + 4 ≤ 4096) × (length heads < 1024)
room_for_word heads begun head got end used depth i is =
    let open_one = some_behind begun head got is i.behind in
    let its_words = words_begun_some begun head is in
    let as_many = bytes_under-is heads in
    let as_few = length-le-words_under heads i.lengths in
    let start = open_one.0 in
    let most = open_one.1 in
    let whole_words = open_one.2 in
    (omega (arith, i), omega (arith, i))

pub IsCut-whole : (heads : List Head) (begun : Option Head) (head : Head) (got end used depth : ℕ) → IsCut heads begun got end used depth
    → begun ≡ Some head → head.len - got ≤ 4 → IsCut (heads ++ head ∷ []) None 0 (end + 4) used depth
IsCut-whole heads begun head got end used depth i is few =
    let open_one = some_behind begun head got is i.behind in
    let start = open_one.0 in
    let most = open_one.1 in
    let whole_words = open_one.2 in
    let its_words = words_begun_some begun head is in
    let under = bytes_under-append heads (head ∷ []) in
    let words = words_under-append heads (head ∷ []) in
    record {
      lengths = AreLengths-append heads (head ∷ []) i.lengths (omega arith, most, tt);
      total = omega (arith, i);
      behind = refl;
      counted = omega (arith, i);
      fits = i.fits;
      most = i.most;
    }

pub IsCut-more : (heads : List Head) (begun : Option Head) (head : Head) (got end used depth : ℕ) → IsCut heads begun got end used depth
    → begun ≡ Some head → 4 < head.len - got → IsCut heads begun (got + 4) (end + 4) used depth
IsCut-more heads begun head got end used depth i is many =
    let open_one = some_behind begun head got is i.behind in
    let most = open_one.1 in
    let whole_words = open_one.2 in
    let P : Option Head → Type 0 = λ b. IsBegun b (got + 4) in
    record {
      lengths = i.lengths;
      total = omega (arith, i);
      behind = subst P (sym is) (omega arith, most, omega arith);
      counted = i.counted;
      fits = i.fits;
      most = i.most;
    }

-- the bytes behind the whole packets go

pub tx_of-abandoned : (heads : List Head) (begun : Option Head) (bytes : List ℕ) (depth kept : ℕ) → kept ≡ bytes_under heads → kept ≤ length bytes
    → tx_of heads None (take kept bytes) depth ≡ record (tx_of heads begun bytes depth) { unfinished = None }
tx_of-abandoned heads begun bytes depth kept is within =
    let Whole : List Tagged → Tx = λ packets. record { packets = packets; unfinished = None; depth = depth } in
    let Cut : List ℕ → List Tagged = λ xs. cut heads xs in
    let front : length (take kept bytes) ≡ kept = length-take-le kept bytes within in
    ap Whole (sym (cut-append heads (take kept bytes) (drop kept bytes) (omega (arith, front, is))) ∙ ap Cut (take-append-drop kept bytes))
