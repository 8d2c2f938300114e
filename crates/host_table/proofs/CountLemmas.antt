-- How many packets of a channel a transmit FIFO has.
use Rattle.std.proofs.Common.{◌≡◌, ℕ, ◌+◌, ◌≤◌, List, [], ◌∷◌, ◌++◌, length, Bool, Option, Some, None, true, false, inl, inr, refl, ap, sym, ◌∙◌, arith}
use Rattle.std.specs.Prelude.{◌==◌, ◌||◌, if◌then◌else◌, nat_lt, is_some}
use Rattle.std.proofs.lemmas.Bool.{cases_Bool, true≢false, and_parts, not-true}
use Rattle.std.proofs.lemmas.Bool.Decides.{eqb_tells}
use Rattle.dwc2_regs.specs.declared.TheConstants.{HCCHAR_CHDIS, GRSTCTL_RXFFLSH, GRSTCTL_TXFFLSH, GRSTCTL_TXFNUM}
use Rattle.dwc2_regs.specs.Field.{field_of}
use Rattle.dwc2_regs.specs.Register.{grstctl, gintsts, gintmsk, grxstsr, grxstsp, grxfsiz, dieptxf0, hptxfsiz, hcfg, haint, haintmsk, hprt, dcfg, dctl, dsts, diepmsk, doepmsk, daint, daintmsk, diepempmsk, dieptxf, hcchar, hcint, hcintmsk, hctsiz, diepctl, diepint, dieptsiz, dtxfsts, doepctl, doepint, doeptsiz, fifo}
use Rattle.dwc2_fifo.specs.Tx.{Tagged, Begun, Tx, begun_in, first_with, without_first, with_word, with_word_in, bytes_with}
use Rattle.device_table.specs.Words.{flag}
use Rattle.host_table.specs.State.{Table, Channel, channel_at, with_channel}
use Rattle.host_table.specs.Words.{is_periodic, is_nonperiodic}
use Rattle.host_table.specs.Write.{begun_without, released, packet_removed_if, channel_written, packet_length, may_begin, word_pushed, word_pushed_to, word_written, rx_flushed, tx_flushed, emptied_if}
use Rattle.host_table.specs.Laws.{whole_of, begun_of, standing, KeepsOne, OnePacketEach}

none_added : (n : ℕ) → n ≡ 0 → 0 + n ≡ 0
none_added n e = omega arith

-- one that is removed

whole-without : (tag : ℕ) (packets : List Tagged) → whole_of tag packets ≤ 1 → whole_of tag (without_first tag packets) ≡ 0
whole-without tag [] h = refl
whole-without tag (packet ∷ packets) h = elim (eqb_tells packet.tag tag) [
  | inl it ↦ rw it.0 (first_gone (whole_of tag packets) (whole_of tag (packet ∷ packets)) (rw it.0 refl) h)
  | inr not_it ↦ rw not_it.0 (rw not_it.0 (none_added _ (whole-without tag packets (rest_small (whole_of tag packets) (whole_of tag (packet ∷ packets)) (rw not_it.0 refl) h))))
]
  where
    first_gone : (rest all : ℕ) → all ≡ 1 + rest → all ≤ 1 → rest ≡ 0
    first_gone rest all e h = omega arith

    rest_small : (rest all : ℕ) → all ≡ 0 + rest → all ≤ 1 → rest ≤ 1
    rest_small rest all e h = omega arith

whole-fewer : (tag other : ℕ) (packets : List Tagged) → whole_of tag (without_first other packets) ≤ whole_of tag packets
whole-fewer tag other [] = omega arith
whole-fewer tag other (packet ∷ packets) = elim (eqb_tells packet.tag other) [
  | inl it ↦ rw it.0 (more (if packet.tag == tag then 1 else 0) (whole_of tag packets))
  | inr not_it ↦ rw not_it.0 (both (if packet.tag == tag then 1 else 0) (whole_of tag (without_first other packets)) (whole_of tag packets) (whole-fewer tag other packets))
]
  where
    more : (one rest : ℕ) → rest ≤ one + rest
    more one rest = omega arith

    both : (one a b : ℕ) → a ≤ b → one + a ≤ one + b
    both one a b h = omega arith

begun-without : (tag : ℕ) (unfinished : Option Begun) → begun_of tag (begun_without tag unfinished) ≡ 0
begun-without tag None = refl
begun-without tag (Some begun) = elim (eqb_tells begun.tag tag) [
  | inl it ↦ rw it.0 refl
  | inr not_it ↦ rw not_it.0 (rw not_it.0 refl)
]

begun-fewer : (tag other : ℕ) (unfinished : Option Begun) → begun_of tag (begun_without other unfinished) ≤ begun_of tag unfinished
begun-fewer tag other None = omega arith
begun-fewer tag other (Some begun) = elim (eqb_tells begun.tag other) [
  | inl it ↦ rw it.0 (least (if begun.tag == tag then 1 else 0))
  | inr not_it ↦ rw not_it.0 (same (if begun.tag == tag then 1 else 0))
]
  where
    least : (n : ℕ) → 0 ≤ n
    least n = omega arith

    same : (n : ℕ) → n ≤ n
    same n = omega arith

pub removed : (tag : ℕ) (tx : Tx) → standing tag tx ≤ 1 → standing tag (released tag tx) ≡ 0
removed tag tx h =
    let none = begun-without tag tx.unfinished in
    let gone = whole-without tag tx.packets (omega arith) in
    omega arith

fewer : (tag other : ℕ) (tx : Tx) → standing tag tx ≤ 1 → standing tag (released other tx) ≤ 1
fewer tag other tx h =
    let a = whole-fewer tag other tx.packets in
    let b = begun-fewer tag other tx.unfinished in
    omega arith

-- one that comes

whole-append : (tag other : ℕ) (bytes : List ℕ) (packets : List Tagged)
    → whole_of tag (packets ++ record { tag = other; bytes = bytes } ∷ []) ≡ whole_of tag packets + (if other == tag then 1 else 0)
whole-append tag other bytes [] = omega arith
whole-append tag other bytes (packet ∷ packets) =
    let rest = whole-append tag other bytes packets in
    omega arith

none-whole : (tag : ℕ) (packets : List Tagged) → is_some (first_with tag packets) ≡ false → whole_of tag packets ≡ 0
none-whole tag [] h = refl
none-whole tag (packet ∷ packets) h = elim (eqb_tells packet.tag tag) [
  | inl it ↦ absurd (true≢false (sym (found packet.bytes (first_with tag packets) (packet.tag == tag) it.0) ∙ h))
  | inr not_it ↦ rw not_it.0 (none_added _ (none-whole tag packets (sym (passed packet.bytes (first_with tag packets) (packet.tag == tag) not_it.0) ∙ h)))
]
  where
    found : (bytes : List ℕ) (rest : Option (List ℕ)) (b : Bool) → b ≡ true → is_some (if b then Some bytes else rest) ≡ true
    found bytes rest b e = rw e refl

    passed : (bytes : List ℕ) (rest : Option (List ℕ)) (b : Bool) → b ≡ false → is_some (if b then Some bytes else rest) ≡ is_some rest
    passed bytes rest b e = rw e refl

word-same : (tag word : ℕ) (tx : Tx) (begun : Begun) → standing tag (with_word_in tx (Some begun) word) ≡ whole_of tag tx.packets + begun_of tag (Some begun)
word-same tag word tx begun = elim (cases_Bool (nat_lt (length (bytes_with begun word)) begun.length_wanted)) [
  | inl more ↦ rw more refl
  | inr whole ↦ rw whole (let all = whole-append tag begun.tag (bytes_with begun word) tx.packets in omega arith)
]

pushed_to : (channel : Channel) (x word tag : ℕ) (tx : Tx) (unfinished : Option Begun) → tx.unfinished ≡ unfinished
    → whole_of tag tx.packets + begun_of tag unfinished ≤ 1 → standing tag (word_pushed_to channel x word tx unfinished) ≤ 1
pushed_to channel x word tag tx None is h = elim (cases_Bool (may_begin channel x tx)) [
  | inl may ↦ rw may (begins may)
  | inr may_not ↦ rw may_not (rw is h)
]
  where
    first : Begun
    first = record { tag = x; length_wanted = packet_length channel; bytes = [] }

    none : may_begin channel x tx ≡ true → whole_of x tx.packets ≡ 0
    none may = none-whole x tx.packets (not-true _ (and_parts _ _ (and_parts _ _ may).0).0)

    begins : may_begin channel x tx ≡ true → standing tag (with_word (begun_in tx x (packet_length channel)) word) ≤ 1
    begins may = elim (eqb_tells x tag) [
      | inl it ↦
          let all = word-same tag word (begun_in tx x (packet_length channel)) first in
          let no_other : whole_of tag tx.packets ≡ 0 = ap (λ n. whole_of n tx.packets) (sym it.1) ∙ none may in
          let one : begun_of tag (Some first) ≡ 1 = rw it.0 refl in
          omega arith
      | inr not_it ↦
          let all = word-same tag word (begun_in tx x (packet_length channel)) first in
          let nothing : begun_of tag (Some first) ≡ 0 = rw not_it.0 refl in
          omega arith
    ]
pushed_to channel x word tag tx (Some begun) is h = elim (eqb_tells begun.tag x) [
  | inl it ↦ rw it.0 (rw is (let all = word-same tag word tx begun in omega arith))
  | inr not_it ↦ rw not_it.0 (rw is h)
]

pushed : (channel : Channel) (x word tag : ℕ) (tx : Tx) → standing tag tx ≤ 1 → standing tag (word_pushed channel x word tx) ≤ 1
pushed channel x word tag tx h = pushed_to channel x word tag tx tx.unfinished refl h

-- in both FIFOs

same : (y : ℕ) (t : Table) → KeepsOne y t t
same y t = record { nonperiodic = λ h. h; periodic = λ h. h }

at_window : (t : Table) (x y word : ℕ) (channel : Channel) → KeepsOne y t (word_written t x channel word)
at_window t x y word channel = elim (cases_Bool (is_periodic channel)) [
  | inl periodic ↦ rw periodic (record { nonperiodic = λ h. h; periodic = λ h. pushed channel x word y t.periodic h })
  | inr aperiodic ↦ rw aperiodic (elim (cases_Bool (is_nonperiodic channel)) [
    | inl nonperiodic ↦ rw nonperiodic (record { nonperiodic = λ h. pushed channel x word y t.nonperiodic h; periodic = λ h. h })
    | inr neither ↦ rw neither (same y t)
  ])
]

at_channel : (removes : Bool) (t : Table) (x y : ℕ) (channel : Channel) → KeepsOne y t (with_channel (packet_removed_if removes t x) x channel)
at_channel false t x y channel = record { nonperiodic = λ h. h; periodic = λ h. h }
at_channel true t x y channel = record { nonperiodic = λ h. fewer y x t.nonperiodic h; periodic = λ h. fewer y x t.periodic h }

emptied : (named : Bool) (y : ℕ) (tx : Tx) → standing y tx ≤ 1 → standing y (emptied_if named tx) ≤ 1
emptied true y tx h = omega arith
emptied false y tx h = h

flushed : (rx_too tx_too : Bool) (number y : ℕ) (t : Table) → KeepsOne y t (tx_flushed (rx_flushed t rx_too) tx_too number)
flushed false false number y t = same y t
flushed true false number y t = record { nonperiodic = λ h. h; periodic = λ h. h }
flushed false true number y t = record {
  nonperiodic = λ h. emptied ((number == 0) || (number == 16)) y t.nonperiodic h;
  periodic = λ h. emptied ((number == 1) || (number == 16)) y t.periodic h;
}
flushed true true number y t = record {
  nonperiodic = λ h. emptied ((number == 0) || (number == 16)) y t.nonperiodic h;
  periodic = λ h. emptied ((number == 1) || (number == 16)) y t.periodic h;
}

pub one_packet_each : OnePacketEach
one_packet_each grstctl t word y = record {
  nonperiodic = λ h. (flushed (flag word GRSTCTL_RXFFLSH) (flag word GRSTCTL_TXFFLSH) (field_of word GRSTCTL_TXFNUM) y (record t { kept = _ })).nonperiodic h;
  periodic = λ h. (flushed (flag word GRSTCTL_RXFFLSH) (flag word GRSTCTL_TXFFLSH) (field_of word GRSTCTL_TXFNUM) y (record t { kept = _ })).periodic h;
}
one_packet_each (hcchar x) t word y = at_channel (flag word HCCHAR_CHDIS) t x y (channel_written (channel_at t x) word)
one_packet_each (fifo x) t word y = at_window t x y word (channel_at t x)
one_packet_each gintsts t word y = record { nonperiodic = λ h. h; periodic = λ h. h }
one_packet_each gintmsk t word y = record { nonperiodic = λ h. h; periodic = λ h. h }
one_packet_each grxstsr t word y = record { nonperiodic = λ h. h; periodic = λ h. h }
one_packet_each grxstsp t word y = record { nonperiodic = λ h. h; periodic = λ h. h }
one_packet_each grxfsiz t word y = record { nonperiodic = λ h. h; periodic = λ h. h }
one_packet_each dieptxf0 t word y = record { nonperiodic = λ h. h; periodic = λ h. h }
one_packet_each hptxfsiz t word y = record { nonperiodic = λ h. h; periodic = λ h. h }
one_packet_each hcfg t word y = record { nonperiodic = λ h. h; periodic = λ h. h }
one_packet_each haint t word y = record { nonperiodic = λ h. h; periodic = λ h. h }
one_packet_each haintmsk t word y = record { nonperiodic = λ h. h; periodic = λ h. h }
one_packet_each hprt t word y = record { nonperiodic = λ h. h; periodic = λ h. h }
one_packet_each dcfg t word y = record { nonperiodic = λ h. h; periodic = λ h. h }
one_packet_each dctl t word y = record { nonperiodic = λ h. h; periodic = λ h. h }
one_packet_each dsts t word y = record { nonperiodic = λ h. h; periodic = λ h. h }
one_packet_each diepmsk t word y = record { nonperiodic = λ h. h; periodic = λ h. h }
one_packet_each doepmsk t word y = record { nonperiodic = λ h. h; periodic = λ h. h }
one_packet_each daint t word y = record { nonperiodic = λ h. h; periodic = λ h. h }
one_packet_each daintmsk t word y = record { nonperiodic = λ h. h; periodic = λ h. h }
one_packet_each diepempmsk t word y = record { nonperiodic = λ h. h; periodic = λ h. h }
one_packet_each (dieptxf x) t word y = record { nonperiodic = λ h. h; periodic = λ h. h }
one_packet_each (hcint x) t word y = record { nonperiodic = λ h. h; periodic = λ h. h }
one_packet_each (hcintmsk x) t word y = record { nonperiodic = λ h. h; periodic = λ h. h }
one_packet_each (hctsiz x) t word y = record { nonperiodic = λ h. h; periodic = λ h. h }
one_packet_each (diepctl x) t word y = record { nonperiodic = λ h. h; periodic = λ h. h }
one_packet_each (diepint x) t word y = record { nonperiodic = λ h. h; periodic = λ h. h }
one_packet_each (dieptsiz x) t word y = record { nonperiodic = λ h. h; periodic = λ h. h }
one_packet_each (dtxfsts x) t word y = record { nonperiodic = λ h. h; periodic = λ h. h }
one_packet_each (doepctl x) t word y = record { nonperiodic = λ h. h; periodic = λ h. h }
one_packet_each (doepint x) t word y = record { nonperiodic = λ h. h; periodic = λ h. h }
one_packet_each (doeptsiz x) t word y = record { nonperiodic = λ h. h; periodic = λ h. h }
