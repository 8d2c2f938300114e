-- The words of a packet, written one by one through a channel's window.
use Rattle.std.proofs.Common.{◌≡◌, ℕ, ◌≤◌, List, [], ◌∷◌, ◌++◌, length, Option, Some, None, true, false, inl, inr, refl, ap, sym, ◌∙◌, arith}
use Rattle.std.specs.Prelude.{◌==◌, ◌||◌, nat_lt, is_some}
use Rattle.std.proofs.lemmas.Bool.{cases_Bool, true≢false, eq-eqb, eqb-true, ne_eqb, or_cases, le-ltb}
use Rattle.std.proofs.lemmas.Bool.Decides.{eqb_tells}
use Rattle.dwc2_regs.specs.Register.{fifo}
use Rattle.dwc2_fifo.specs.Words.{words_of, word_count}
use Rattle.dwc2_fifo.specs.Tx.{Tagged, Begun, Tx, space_of, begun_in, first_with, with_word, with_word_in, with_words, bytes_with}
use Rattle.dwc2_fifo.proofs.WordsLemmas.{length-words_of}
use Rattle.dwc2_fifo.proofs.LawLemmas.{packet_comes_out}
use Rattle.host_table.specs.State.{Table, Channel, channel_at}
use Rattle.host_table.specs.Words.{is_periodic, is_nonperiodic, type_of}
use Rattle.host_table.specs.Write.{after_write, packet_length, may_begin, word_pushed, word_pushed_to}
use Rattle.host_table.specs.Laws.{words_written, IsReady, with_packet, WrittenStands}

-- in one FIFO
abbrev pushed_all : Channel → ℕ → List ℕ → Tx → Tx
pushed_all channel x [] tx = tx
pushed_all channel x (word ∷ words) tx = pushed_all channel x words (word_pushed channel x word tx)

-- a packet of the channel is begun, or none is and one stands
abbrev BusyBy : ℕ → Tx → Option Begun → Type 0
BusyBy x tx None = is_some (first_with x tx.packets) ≡ true
BusyBy x tx (Some begun) = begun.tag ≡ x

abbrev Busy : ℕ → Tx → Type 0
Busy x tx = BusyBy x tx tx.unfinished

found-append : (x : ℕ) (bytes : List ℕ) (tag : ℕ) (packets : List Tagged) → tag ≡ x → is_some (first_with x (packets ++ record { tag = tag; bytes = bytes } ∷ [])) ≡ true
found-append x bytes tag [] same = rw (eq-eqb tag x same) refl
found-append x bytes tag (packet ∷ packets) same = elim (eqb_tells packet.tag x) [
  | inl it ↦ rw it.0 refl
  | inr not_it ↦ rw not_it.0 (found-append x bytes tag packets same)
]

-- a word is then taken as the FIFO takes it
pushed_by : (channel : Channel) (x word : ℕ) (tx : Tx) (unfinished : Option Begun) → tx.unfinished ≡ unfinished → BusyBy x tx unfinished
    → word_pushed_to channel x word tx unfinished ≡ with_word_in tx unfinished word
pushed_by channel x word tx None is busy = rw busy refl
pushed_by channel x word tx (Some begun) is busy = rw (eq-eqb begun.tag x busy) (ap (λ (u : Option Begun). with_word_in tx u word) is)

busy_by : (x word : ℕ) (tx : Tx) (unfinished : Option Begun) → tx.unfinished ≡ unfinished → BusyBy x tx unfinished → Busy x (with_word_in tx unfinished word)
busy_by x word tx None is busy = rw is busy
busy_by x word tx (Some begun) is busy = elim (cases_Bool (nat_lt (length (bytes_with begun word)) begun.length_wanted)) [
  | inl more ↦ rw more busy
  | inr whole ↦ rw whole (found-append x (bytes_with begun word) begun.tag tx.packets busy)
]

all_pushed : (channel : Channel) (x : ℕ) (words : List ℕ) (tx : Tx) → Busy x tx → pushed_all channel x words tx ≡ with_words tx words
all_pushed channel x [] tx busy = refl
all_pushed channel x (word ∷ words) tx busy =
    ap (λ (it : Tx). pushed_all channel x words it) (pushed_by channel x word tx tx.unfinished refl busy)
    ∙ all_pushed channel x words (with_word tx word) (busy_by x word tx tx.unfinished refl busy)

-- the first word begins the packet
begins : (channel : Channel) (x : ℕ) (tx : Tx) (packet : List ℕ) → IsReady channel x tx packet → may_begin channel x tx ≡ true
begins channel x tx packet r =
    let some : (packet_length channel == 0) ≡ false = ne_eqb (packet_length channel) 0 (λ e. none_is_some packet r.some (sym r.wanted ∙ e)) in
    let room : nat_lt (space_of tx) (word_count (packet_length channel)) ≡ false = le-ltb (space_of tx) (word_count (packet_length channel)) (rw r.wanted r.room) in
    rw (r.none, some, room) refl
  where
    none_is_some : (packet : List ℕ) → 1 ≤ length packet → length packet ≡ 0 → ⊥
    none_is_some packet h e = omega arith

begun_by : (channel : Channel) (x word : ℕ) (tx : Tx) (unfinished : Option Begun) → unfinished ≡ None → may_begin channel x tx ≡ true
    → word_pushed_to channel x word tx unfinished ≡ with_word (begun_in tx x (packet_length channel)) word
begun_by channel x word tx None free allowed = rw allowed refl
begun_by channel x word tx (Some it) free allowed = absurd (true≢false (ap (λ (o : Option Begun). is_some o) free))

begun : (channel : Channel) (x word : ℕ) (tx : Tx) → tx.unfinished ≡ None → may_begin channel x tx ≡ true
    → word_pushed channel x word tx ≡ with_word (begun_in tx x (packet_length channel)) word
begun channel x word tx free allowed = begun_by channel x word tx tx.unfinished free allowed

started : (channel : Channel) (x : ℕ) (words : List ℕ) (tx : Tx) → tx.unfinished ≡ None → may_begin channel x tx ≡ true → 1 ≤ length words
    → pushed_all channel x words tx ≡ with_words (begun_in tx x (packet_length channel)) words
started channel x [] tx free allowed some = absurd (no_words some)
  where
    no_words : 1 ≤ 0 → ⊥
    no_words h = omega arith
started channel x (word ∷ words) tx free allowed some =
    let first : Tx = begun_in tx x (packet_length channel) in
    ap (λ (it : Tx). pushed_all channel x words it) (begun channel x word tx free allowed)
    ∙ all_pushed channel x words (with_word first word) (busy_by x word first first.unfinished refl refl)

some_words : (packet : List ℕ) → 1 ≤ length packet → 1 ≤ length (words_of packet)
some_words packet h = let same = length-words_of packet in omega arith

pushed : (channel : Channel) (x : ℕ) (tx : Tx) (packet : List ℕ) → IsReady channel x tx packet
    → pushed_all channel x (words_of packet) tx ≡ with_packet tx x packet
pushed channel x tx packet r =
    started channel x (words_of packet) tx r.free (begins channel x tx packet r) (some_words packet r.some)
    ∙ ap (λ n. with_words (begun_in tx x n) (words_of packet)) r.wanted
    ∙ packet_comes_out tx x packet r.some r.bytes

-- in the FIFO of the channel's type
not_three : (n : ℕ) → ((n == 0) || (n == 2)) ≡ true → (n == 3) ≡ false
not_three n h = elim (or_cases (n == 0) (n == 2) h) [
  | inl e ↦ rw (eqb-true n 0 e) refl
  | inr e ↦ rw (eqb-true n 2 e) refl
]

bulk_written : (t : Table) (x : ℕ) (words : List ℕ) → is_nonperiodic (channel_at t x) ≡ true
    → words_written t x words ≡ record t { nonperiodic = pushed_all (channel_at t x) x words t.nonperiodic }
bulk_written t x [] type = refl
bulk_written t x (word ∷ words) type =
    let c = channel_at t x in
    let new : Table = record t { nonperiodic = word_pushed c x word t.nonperiodic } in
    let one : after_write t (fifo x) word ≡ new = rw (not_three (type_of c) type, type) refl in
    ap (λ (it : Table). words_written it x words) one ∙ bulk_written new x words type

interrupt_written : (t : Table) (x : ℕ) (words : List ℕ) → is_periodic (channel_at t x) ≡ true
    → words_written t x words ≡ record t { periodic = pushed_all (channel_at t x) x words t.periodic }
interrupt_written t x [] type = refl
interrupt_written t x (word ∷ words) type =
    let c = channel_at t x in
    let new : Table = record t { periodic = word_pushed c x word t.periodic } in
    let one : after_write t (fifo x) word ≡ new = rw type refl in
    ap (λ (it : Table). words_written it x words) one ∙ interrupt_written new x words type

pub written_stands : WrittenStands
written_stands t x packet = record {
  bulk = λ type r. bulk_written t x (words_of packet) type ∙ ap (λ (tx : Tx). record t { nonperiodic = tx }) (pushed (channel_at t x) x t.nonperiodic packet r);
  interrupt = λ type r. interrupt_written t x (words_of packet) type ∙ ap (λ (tx : Tx). record t { periodic = tx }) (pushed (channel_at t x) x t.periodic packet r);
}
