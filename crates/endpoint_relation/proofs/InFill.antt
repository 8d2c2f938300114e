-- The words of packets, written one after another to the window of a transmit FIFO.
use Rattle.std.proofs.Common.{◌≡◌, ℕ, suc, ◌+◌, ◌-◌, ◌<◌, ◌≤◌, List, [], ◌∷◌, ◌++◌, length, get_or, min, true, false, Some, None, refl, ap, ◌∙◌, arith, append_assoc, length-append}
use Rattle.std.specs.Prelude.{◌||◌, ◌==◌, if◌then◌else◌, nat_lt}
use Rattle.std.proofs.lemmas.Bool.Decides.{nat_tests}
use Rattle.std.proofs.lemmas.Bool.{le-ltb, lt-ltb}
use Rattle.dwc2_regs.specs.Word.{word_of, bytes_of}
use Rattle.dwc2_regs.proofs.WordLemmas.{bytes_of-word_of}
use Rattle.dwc2_fifo.specs.Words.{words_of, word_count}
use Rattle.dwc2_fifo.specs.Tx.{Tx, Tagged, begun_in, with_word, bytes_with, space_of}
use Rattle.dwc2_fifo.proofs.WordsLemmas.{four_below}
use Rattle.device_table.specs.State.{InEnd}
use Rattle.device_table.specs.Words.{packet_size}
use Rattle.device_table.specs.Write.{packet_begun}
use Rattle.endpoint_relation.specs.InSteps.{words_in}

-- an endpoint with this FIFO, and so many bytes to come
abbrev pub filled : InEnd → Tx → ℕ → InEnd
filled end tx more = record end { fifo = tx; to_come = more }

-- a FIFO whose begun packet has these bytes, and one in which it is whole
abbrev begun_with : Tx → ℕ → List ℕ → Tx
begun_with tx wanted bytes = record tx { unfinished = Some (record { tag = 0; length_wanted = wanted; bytes = bytes }) }

abbrev pub whole_with : Tx → List ℕ → Tx
whole_with tx bytes = record tx { packets = tx.packets ++ record { tag = 0; bytes = bytes } ∷ []; unfinished = None }

-- a word of up to four bytes brings them
brings : (wanted : ℕ) (front bytes : List ℕ) → length bytes ≤ 4 → ((i : ℕ) → get_or bytes i 0 < 256)
    → min (wanted - length front) 4 ≡ length bytes
    → bytes_with (record { tag = 0; length_wanted = wanted; bytes = front }) (word_of bytes) ≡ front ++ bytes
brings wanted front bytes h below count =
    let With : ℕ → List ℕ = λ n. front ++ bytes_of n (word_of bytes) in
    let Front : List ℕ → List ℕ = λ xs. front ++ xs in
    ap With count ∙ ap Front (bytes_of-word_of bytes below)

last_word : (tx : Tx) (wanted : ℕ) (front bytes : List ℕ) → 1 ≤ length bytes → length bytes ≤ 4 → ((i : ℕ) → get_or bytes i 0 < 256)
    → length front + length bytes ≡ wanted
    → with_word (begun_with tx wanted front) (word_of bytes) ≡ whole_with tx (front ++ bytes)
last_word tx wanted front bytes some few below sum =
    let all = brings wanted front bytes few below (omega arith) in
    let as_long = ap length all ∙ length-append front bytes in
    let full : nat_lt (length (bytes_with (record { tag = 0; length_wanted = wanted; bytes = front }) (word_of bytes))) wanted ≡ false = le-ltb _ _ (omega (arith, as_long)) in
    rw full (ap (whole_with tx) all)

earlier_word : (tx : Tx) (wanted : ℕ) (front bytes : List ℕ) → length bytes ≡ 4 → ((i : ℕ) → get_or bytes i 0 < 256)
    → length front + 4 < wanted
    → with_word (begun_with tx wanted front) (word_of bytes) ≡ begun_with tx wanted (front ++ bytes)
earlier_word tx wanted front bytes four below more =
    let all = brings wanted front bytes (omega arith) below (omega arith) in
    let as_long = ap length all ∙ length-append front bytes in
    let lacks : nat_lt (length (bytes_with (record { tag = 0; length_wanted = wanted; bytes = front }) (word_of bytes))) wanted ≡ true = lt-ltb _ _ (omega (arith, as_long)) in
    rw lacks (ap (begun_with tx wanted) all)

all_words : (n : ℕ) (end : InEnd) (tx : Tx) (more wanted : ℕ) (front bytes : List ℕ) → 1 ≤ length bytes → ((i : ℕ) → get_or bytes i 0 < 256)
    → length front + length bytes ≡ wanted
    → words_in (suc n) (filled end (begun_with tx wanted front) more) (words_of bytes) ≡ filled end (whole_with tx (front ++ bytes)) more
all_words n end tx more wanted front [] some below sum = absurd (omega arith)
all_words n end tx more wanted front (a ∷ []) some below sum = ap (λ x. filled end x more) (last_word tx wanted front (a ∷ []) (omega arith) (omega arith) below sum)
all_words n end tx more wanted front (a ∷ b ∷ []) some below sum = ap (λ x. filled end x more) (last_word tx wanted front (a ∷ b ∷ []) (omega arith) (omega arith) below sum)
all_words n end tx more wanted front (a ∷ b ∷ c ∷ []) some below sum = ap (λ x. filled end x more) (last_word tx wanted front (a ∷ b ∷ c ∷ []) (omega arith) (omega arith) below sum)
all_words n end tx more wanted front (a ∷ b ∷ c ∷ d ∷ []) some below sum = ap (λ x. filled end x more) (last_word tx wanted front (a ∷ b ∷ c ∷ d ∷ []) (omega arith) (omega arith) below sum)
all_words n end tx more wanted front (a ∷ b ∷ c ∷ d ∷ e ∷ bytes) some below sum =
    let four = a ∷ b ∷ c ∷ d ∷ [] in
    let longer = length-append front four in
    ap (λ x. words_in (suc n) (filled end x more) (words_of (e ∷ bytes))) (earlier_word tx wanted front four refl (four_below a b c d (below 0) (below 1) (below 2) (below 3)) (omega arith))
    ∙ all_words n end tx more wanted (front ++ four) (e ∷ bytes) (omega arith) (λ i. below (suc (suc (suc (suc i))))) (omega arith)
    ∙ ap (λ bs. filled end (whole_with tx bs) more) (append_assoc front four (e ∷ bytes))

-- the first word begins the packet

begun_by : ℕ → InEnd → ℕ → InEnd
begun_by bytes end word =
    if (bytes == 0) || nat_lt (space_of end.fifo) (word_count bytes)
    then end
    else record end { fifo = with_word (begun_in end.fifo 0 bytes) word; to_come = end.to_come - bytes }

no_bar : (bytes space : ℕ) → 1 ≤ bytes → word_count bytes ≤ space → ((bytes == 0) || nat_lt space (word_count bytes)) ≡ false
no_bar bytes space h k = grind (arith, nat_tests)

first_word : (n : ℕ) (end : InEnd) (tx : Tx) (more word bytes : ℕ) → 1 ≤ bytes → min (packet_size (suc n) end.control) more ≡ bytes → word_count bytes ≤ space_of tx
    → packet_begun (suc n) (filled end tx more) word ≡ filled end (with_word (begun_with tx bytes []) word) (more - bytes)
unfolding begun_by
first_word n end tx more word bytes some size fits =
    let e : InEnd = filled end tx more in
    ap (λ k. begun_by k e word) size
    ∙ ap (λ bar. if bar then e else filled end (with_word (begun_with tx bytes []) word) (more - bytes)) (no_bar bytes (space_of tx) some fits)

-- a FIFO with no begun packet
abbrev pub whole : List Tagged → ℕ → Tx
whole packets depth = record { packets = packets; unfinished = None; depth = depth }

first_written : (n : ℕ) (end : InEnd) (ps : List Tagged) (depth more bytes word : ℕ) (words : List ℕ) → 1 ≤ bytes → min (packet_size (suc n) end.control) more ≡ bytes → word_count bytes ≤ space_of (whole ps depth)
    → words_in (suc n) (filled end (whole ps depth) more) (word ∷ words) ≡ words_in (suc n) (filled end (begun_with (whole ps depth) bytes []) (more - bytes)) (word ∷ words)
first_written n end ps depth more bytes word words some size fits =
    ap (λ x. words_in (suc n) x words) (first_word n end (whole ps depth) more word bytes some size fits)

begins : (n : ℕ) (end : InEnd) (ps : List Tagged) (depth more wanted : ℕ) (bytes : List ℕ) → 1 ≤ length bytes → 1 ≤ wanted → min (packet_size (suc n) end.control) more ≡ wanted → word_count wanted ≤ space_of (whole ps depth)
    → words_in (suc n) (filled end (whole ps depth) more) (words_of bytes) ≡ words_in (suc n) (filled end (begun_with (whole ps depth) wanted []) (more - wanted)) (words_of bytes)
begins n end ps depth more wanted [] h some size fits = absurd (omega arith)
begins n end ps depth more wanted (a ∷ []) h some size fits = first_written n end ps depth more wanted (word_of (a ∷ [])) [] some size fits
begins n end ps depth more wanted (a ∷ b ∷ []) h some size fits = first_written n end ps depth more wanted (word_of (a ∷ b ∷ [])) [] some size fits
begins n end ps depth more wanted (a ∷ b ∷ c ∷ []) h some size fits = first_written n end ps depth more wanted (word_of (a ∷ b ∷ c ∷ [])) [] some size fits
begins n end ps depth more wanted (a ∷ b ∷ c ∷ d ∷ bytes) h some size fits = first_written n end ps depth more wanted (word_of (a ∷ b ∷ c ∷ d ∷ [])) (words_of bytes) some size fits

-- a packet that the endpoint's size and the bytes to come cut, where the FIFO has place for it, stands behind those in the FIFO
pub packet_in : (n : ℕ) (end : InEnd) (ps : List Tagged) (depth more : ℕ) (bytes : List ℕ) → 1 ≤ length bytes → ((i : ℕ) → get_or bytes i 0 < 256)
    → min (packet_size (suc n) end.control) more ≡ length bytes → word_count (length bytes) ≤ space_of (whole ps depth)
    → words_in (suc n) (filled end (whole ps depth) more) (words_of bytes) ≡ filled end (whole (ps ++ record { tag = 0; bytes = bytes } ∷ []) depth) (more - length bytes)
packet_in n end ps depth more bytes some below size fits =
    begins n end ps depth more (length bytes) bytes some some size fits
    ∙ all_words n end (whole ps depth) (more - length bytes) (length bytes) [] bytes some below (omega arith)
