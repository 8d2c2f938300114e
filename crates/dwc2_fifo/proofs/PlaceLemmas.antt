-- The first packet with a tag, at its place among the heads and the bytes.
use Rattle.std.proofs.Common.{◌≡◌, ◌≢◌, ℕ, suc, ◌+◌, ◌-◌, ◌<◌, ◌≤◌, List, [], ◌∷◌, ◌++◌, length, take, drop, ap, ap₂, sym, subst, ◌∙◌, arith, Some, Option, drop-cons, get_or}
use Rattle.std.proofs.lemmas.List.{take_more, take-append-drop}
use Rattle.dwc2_fifo.specs.declared.tx.Head.{Head}
use Rattle.dwc2_fifo.specs.declared.tx.Place.{Place}
use Rattle.dwc2_fifo.specs.Words.{word_count}
use Rattle.dwc2_fifo.specs.Tx.{Tagged, Begun, Tx, first_with, without_first}
use Rattle.dwc2_fifo.specs.Cut.{room_of_packet, cut, bytes_under, words_under, begun_of, tx_of, AreLengths, NoneHas, IsFirst, IsCut}
use Rattle.dwc2_fifo.proofs.CutLemmas.{bytes_under-append, words_under-append, AreLengths-append, AreLengths-split, NoneHas-append, first_with-found, without_first-found, begun_of-kept}

-- the heads without the one at the place
abbrev others : List Head → Place → List Head
others heads place = take place.index heads ++ drop (suc place.index) heads

-- what holds of the parts around the place holds of the whole
of_whole : (P : List Head → Type 0) (tag : ℕ) (heads : List Head) (place : Place) → IsFirst tag heads place
    → P (take place.index heads ++ place.head ∷ drop (suc place.index) heads) → P heads
of_whole P tag heads place f h = subst P (sym f.head_at) h

its_tag : (tag : ℕ) (heads : List Head) (place : Place) → IsFirst tag heads place → NoneHas place.head.tag (take place.index heads)
its_tag tag heads place f = let P : ℕ → Type 0 = λ t. NoneHas t (take place.index heads) in subst P (sym f.has_tag) f.before

pub bytes_under-place : (tag : ℕ) (heads : List Head) (place : Place) → IsFirst tag heads place
    → (bytes_under heads ≡ place.start + room_of_packet place.head.len + bytes_under (drop (suc place.index) heads))
    × (bytes_under (others heads place) + room_of_packet place.head.len ≡ bytes_under heads)
    × (words_under (others heads place) + word_count place.head.len ≡ words_under heads)
bytes_under-place tag heads place f =
    let before = take place.index heads in
    let after = drop (suc place.index) heads in
    let whole = ap bytes_under f.head_at ∙ bytes_under-append before (place.head ∷ after) in
    let rest = bytes_under-append before after in
    let whole_words = ap words_under f.head_at ∙ words_under-append before (place.head ∷ after) in
    let rest_words = words_under-append before after in
    let start = f.start_is in
    (omega arith, omega arith, omega arith)

pub AreLengths-place : (tag : ℕ) (heads : List Head) (place : Place) → IsFirst tag heads place → AreLengths heads
    → (1 ≤ place.head.len) × (place.head.len ≤ 64) × AreLengths (others heads place)
AreLengths-place tag heads place f h =
    let before = take place.index heads in
    let after = drop (suc place.index) heads in
    let parts = AreLengths-split before (place.head ∷ after) (subst AreLengths f.head_at h) in
    (parts.1.0, parts.1.1, AreLengths-append before after parts.0 parts.1.2)

pub first_with-place : (tag : ℕ) (heads : List Head) (place : Place) (bytes : List ℕ) → IsFirst tag heads place
    → first_with tag (cut heads bytes) ≡ Some (take place.head.len (drop place.start bytes))
first_with-place tag heads place bytes f =
    let before = take place.index heads in
    let after = drop (suc place.index) heads in
    let Found : ℕ → Option (List ℕ) = λ start. Some (take place.head.len (drop start bytes)) in
    let First : ℕ → List Head → Option (List ℕ) = λ t hs. first_with t (cut hs bytes) in
    ap₂ First (sym f.has_tag) f.head_at ∙ first_with-found before after place.head bytes (its_tag tag heads place f) ∙ ap Found (sym f.start_is)

pub without_first-place : (tag : ℕ) (heads : List Head) (begun : Option Head) (place : Place) (bytes : List ℕ) (depth : ℕ) → IsFirst tag heads place → bytes_under heads ≤ length bytes
    → tx_of (others heads place) begun (take place.start bytes ++ drop (place.start + room_of_packet place.head.len) bytes) depth
    ≡ record { packets = without_first tag (cut heads bytes); unfinished = begun_of heads begun bytes; depth = depth }
without_first-place tag heads begun place bytes depth f within =
    let before = take place.index heads in
    let after = drop (suc place.index) heads in
    let counts = bytes_under-place tag heads place f in
    let fits : bytes_under before + room_of_packet place.head.len ≤ length bytes = omega (arith, f.start_is, counts.0) in
    let Rest : ℕ → Tx = λ start. tx_of (before ++ after) begun (take start bytes ++ drop (start + room_of_packet place.head.len) bytes) depth in
    let Made : List Tagged → Option Begun → Tx = λ packets unfinished. record { packets = packets; unfinished = unfinished; depth = depth } in
    let Without : ℕ → List Head → List Tagged = λ t hs. without_first t (cut hs bytes) in
    let Begins : List Head → Option Begun = λ hs. begun_of hs begun bytes in
    ap Rest f.start_is
    ∙ ap₂ Made
    (sym (ap₂ Without (sym f.has_tag) f.head_at ∙ without_first-found before after place.head bytes (its_tag tag heads place f) fits))
    (sym (ap Begins f.head_at ∙ begun_of-kept before after place.head begun bytes fits))

pub IsCut-place : (tag : ℕ) (heads : List Head) (begun : Option Head) (place : Place) (got end used depth : ℕ) → IsFirst tag heads place
    → IsCut heads begun got end used depth
    → IsCut (others heads place) begun got (end - room_of_packet place.head.len) (used - word_count place.head.len) depth
IsCut-place tag heads begun place got end used depth f i =
    let counts = bytes_under-place tag heads place f in
    let lengths = AreLengths-place tag heads place f i.lengths in
    let b = counts.1 in
    let w = counts.2 in
    record {
      lengths = lengths.2;
      total = omega (arith, i);
      behind = i.behind;
      counted = omega (arith, i);
      fits = omega (arith, i);
      most = i.most;
    }

pub words-place : (tag : ℕ) (heads : List Head) (begun : Option Head) (place : Place) (got end used depth : ℕ) → IsFirst tag heads place
    → IsCut heads begun got end used depth → word_count place.head.len ≤ used
words-place tag heads begun place got end used depth f i = let w = (bytes_under-place tag heads place f).2 in omega (arith, i)

-- the search goes on past a packet with another tag
pub NoneHas-more : (tag : ℕ) (heads : List Head) (index : ℕ) (d : Head) → index < length heads → NoneHas tag (take index heads) → (get_or heads index d).tag ≢ tag
    → NoneHas tag (take (index + 1) heads)
NoneHas-more tag heads index d h none other =
    let P : List Head → Type 0 = λ hs. NoneHas tag hs in
    subst P (sym (take_more heads index d h)) (NoneHas-append tag (take index heads) (get_or heads index d ∷ []) none (other, tt))

pub bytes_under-more : (heads : List Head) (index : ℕ) (d : Head) → index < length heads
    → bytes_under (take (index + 1) heads) ≡ bytes_under (take index heads) + room_of_packet (get_or heads index d).len
bytes_under-more heads index d h =
    ap bytes_under (take_more heads index d h) ∙ bytes_under-append (take index heads) (get_or heads index d ∷ []) ∙ omega arith

pub head_at : (heads : List Head) (index : ℕ) (d : Head) → index < length heads
    → heads ≡ take index heads ++ get_or heads index d ∷ drop (suc index) heads
head_at heads index d h =
    let Front : List Head → List Head = λ xs. take index heads ++ xs in
    sym (ap Front (sym (drop-cons heads index d h)) ∙ take-append-drop index heads)
