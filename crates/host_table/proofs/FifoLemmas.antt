-- What the packets of one channel leave of the others in a transmit FIFO.
use Rattle.std.proofs.Common.{◌≡◌, ◌≢◌, ℕ, List, [], ◌∷◌, ◌++◌, length, Option, Some, None, inl, inr, refl, ap, sym, ◌∙◌}
use Rattle.std.specs.Prelude.{◌==◌, if◌then◌else◌, nat_lt}
use Rattle.std.proofs.lemmas.Bool.{ne_eqb, cases_Bool}
use Rattle.std.proofs.lemmas.Bool.Decides.{eqb_tells}
use Rattle.dwc2_fifo.specs.Tx.{Tagged, Begun, Tx, begun_in, first_with, without_first, with_word_in, bytes_with}
use Rattle.host_table.specs.State.{Channel}
use Rattle.host_table.specs.Write.{begun_without, packet_length, may_begin, word_pushed, word_pushed_to}
use Rattle.host_table.specs.Laws.{begun_with}

pub without_first-other : (tag other : ℕ) (packets : List Tagged) → other ≢ tag → first_with other (without_first tag packets) ≡ first_with other packets
without_first-other tag other [] h = refl
without_first-other tag other (packet ∷ packets) h = elim (eqb_tells packet.tag tag) [
  | inl same ↦ rw same.0 (rw (ne_eqb packet.tag other (λ e. h (sym e ∙ same.1))) refl)
  | inr not_it ↦
      let First : Option (List ℕ) → Option (List ℕ) = λ rest. if packet.tag == other then Some packet.bytes else rest in
      rw not_it.0 (ap First (without_first-other tag other packets h))
]

pub append-other : (tag other : ℕ) (bytes : List ℕ) (packets : List Tagged) → other ≢ tag
    → first_with other (packets ++ record { tag = tag; bytes = bytes } ∷ []) ≡ first_with other packets
append-other tag other bytes [] h = rw (ne_eqb tag other (λ e. h (sym e))) refl
append-other tag other bytes (packet ∷ packets) h =
    let First : Option (List ℕ) → Option (List ℕ) = λ rest. if packet.tag == other then Some packet.bytes else rest in
    ap First (append-other tag other bytes packets h)

with_word_in-other : (tx : Tx) (begun : Begun) (word other : ℕ) → other ≢ begun.tag
    → first_with other (with_word_in tx (Some begun) word).packets ≡ first_with other tx.packets
with_word_in-other tx begun word other h = elim (cases_Bool (nat_lt (length (bytes_with begun word)) begun.length_wanted)) [
  | inl more ↦ rw more refl
  | inr whole ↦ rw whole (append-other begun.tag other (bytes_with begun word) tx.packets h)
]

pushed_to-other : (channel : Channel) (x word other : ℕ) (tx : Tx) (unfinished : Option Begun) → tx.unfinished ≡ unfinished → other ≢ x
    → first_with other (word_pushed_to channel x word tx unfinished).packets ≡ first_with other tx.packets
pushed_to-other channel x word other tx None is h = elim (cases_Bool (may_begin channel x tx)) [
  | inl may ↦
      rw may (with_word_in-other (begun_in tx x (packet_length channel)) (record { tag = x; length_wanted = packet_length channel; bytes = [] }) word other h)
  | inr may_not ↦ rw may_not refl
]
pushed_to-other channel x word other tx (Some begun) is h = elim (eqb_tells begun.tag x) [
  | inl same ↦ rw same.0 (rw is (with_word_in-other tx begun word other (λ e. h (e ∙ same.1))))
  | inr not_it ↦ rw not_it.0 refl
]

pub pushed-other : (channel : Channel) (x word other : ℕ) (tx : Tx) → other ≢ x
    → first_with other (word_pushed channel x word tx).packets ≡ first_with other tx.packets
pushed-other channel x word other tx h = pushed_to-other channel x word other tx tx.unfinished refl h

-- the packet that is begun

pub begun_without-other : (tag other : ℕ) (unfinished : Option Begun) → other ≢ tag → begun_with other (begun_without tag unfinished) ≡ begun_with other unfinished
begun_without-other tag other None h = refl
begun_without-other tag other (Some begun) h = elim (eqb_tells begun.tag tag) [
  | inl same ↦ rw (same.0, ne_eqb begun.tag other (λ e. h (sym e ∙ same.1))) refl
  | inr not_it ↦ rw not_it.0 refl
]

not_its : (begun : Begun) (other : ℕ) → other ≢ begun.tag → begun_with other (Some begun) ≡ None
not_its begun other h = rw (ne_eqb begun.tag other (λ e. h (sym e))) refl

with_word-begun : (tx : Tx) (begun : Begun) (word other : ℕ) → other ≢ begun.tag → begun_with other (with_word_in tx (Some begun) word).unfinished ≡ None
with_word-begun tx begun word other h = elim (cases_Bool (nat_lt (length (bytes_with begun word)) begun.length_wanted)) [
  | inl more ↦ rw more (not_its (record begun { bytes = bytes_with begun word }) other h)
  | inr whole ↦ rw whole refl
]

pushed_to-begun : (channel : Channel) (x word other : ℕ) (tx : Tx) (unfinished : Option Begun) → tx.unfinished ≡ unfinished → other ≢ x
    → begun_with other (word_pushed_to channel x word tx unfinished).unfinished ≡ begun_with other unfinished
pushed_to-begun channel x word other tx None is h = elim (cases_Bool (may_begin channel x tx)) [
  | inl may ↦
      rw may (with_word-begun (begun_in tx x (packet_length channel)) (record { tag = x; length_wanted = packet_length channel; bytes = [] }) word other h)
  | inr may_not ↦ rw may_not (ap (λ (u : Option Begun). begun_with other u) is)
]
pushed_to-begun channel x word other tx (Some begun) is h = elim (eqb_tells begun.tag x) [
  | inl same ↦ rw same.0 (ap (λ (u : Option Begun). begun_with other (with_word_in tx u word).unfinished) is
      ∙ with_word-begun tx begun word other (λ e. h (e ∙ same.1)) ∙ sym (not_its begun other (λ e. h (e ∙ same.1))))
  | inr not_it ↦ rw not_it.0 (ap (λ (u : Option Begun). begun_with other u) is)
]

pub pushed-begun : (channel : Channel) (x word other : ℕ) (tx : Tx) → other ≢ x
    → begun_with other (word_pushed channel x word tx).unfinished ≡ begun_with other tx.unfinished
pushed-begun channel x word other tx h = pushed_to-begun channel x word other tx tx.unfinished refl h
