-- The laws of disks that tell their contents.
use Rattle.std.proofs.Common.{◌≡◌, ◌≢◌, ℕ, ◌+◌, ◌-◌, ◌*◌, ◌/◌, ◌<◌, ◌≤◌, Bool, true, false, List, [], ◌∷◌, ◌++◌, Option, Some, None, option_map, unwrap_or, length, take, drop, refl, ap, ap₂, sym, ◌∙◌, subst, arith, inl, inr, length-append, length-take, length-drop, append_assoc, drop-drop, take-take}
use Rattle.std.proofs.lemmas.Bool.{cases_Bool, cases_order}
use Rattle.std.proofs.lemmas.List.{take_at, drop_at, drop-take, take-append-le, drop-append-le, length-take-le}
use Rattle.std.proofs.lemmas.Slice.Eq.{bytes_eq-Decides}
use Rattle.std.specs.Prelude.{bytes_eq, codes, is_none}
use Rattle.usb_edge.specs.Disk.{Held, Shelf, is_slot, block_at, bytes_in, with_block, with_written, disk_of, disk_in, read_block, written, free_bytes, free, named, slot_left, left, given, attached}
use Rattle.usb_edge.specs.DiskLaws.{BlocksAreWhole, WrittenIsRead, OthersStay, BytesStay, AllElseStays, WritesOneSlot, WritesAreOfASlot, TakesOneDisk, AttachesOneDisk, LeavesTheOldDisk}
use Rattle.usb_edge.proofs.SlotLemmas.{same_slot}
use Rattle.usb_edge.proofs.DiskLemmas.{fits, length-with_block, block_at-with_block, bytes_in-with_written, bytes_in-with_written_other, bytes_in-given, bytes_in-given_other}

pub whole : BlocksAreWhole
whole lba bytes h = length-take-le 512 (drop (512 * lba) bytes) (rw (length-drop (512 * lba) bytes) (omega arith))

pub read : WrittenIsRead
read lba block bytes e h = block_at-with_block lba block bytes e (fits bytes lba h)

front_length : (lba : ℕ) (bytes : List ℕ) → 512 * lba + 512 ≤ length bytes → length (take (512 * lba) bytes) ≡ 512 * lba
front_length lba bytes fit = length-take-le (512 * lba) bytes (omega arith)

behind_stays : (lba : ℕ) (block bytes : List ℕ) → length block ≡ 512 → 512 * lba + 512 ≤ length bytes → drop (512 * lba + 512) (with_block lba block bytes) ≡ drop (512 * lba + 512) bytes
behind_stays lba block bytes e fit =
    let front = take (512 * lba) bytes in
    let rest = drop (512 * lba + 512) bytes in
    let count : length (front ++ block) ≡ 512 * lba + 512 = length-append front block ∙ ap₂ (λ (m n : ℕ). m + n) (front_length lba bytes fit) e in
    drop_at (front ++ block) rest (512 * lba + 512) count

pub beside : AllElseStays
beside lba block bytes e h =
    let fit = fits bytes lba h in
    record {
      front =
          ap (take (512 * lba)) (append_assoc (take (512 * lba) bytes) block (drop (512 * lba + 512) bytes))
          ∙ take_at (take (512 * lba) bytes) (block ++ drop (512 * lba + 512) bytes) (512 * lba) (front_length lba bytes fit);
      behind = behind_stays lba block bytes e fit;
      count = length-with_block lba block bytes e fit;
    }

before : (k m : ℕ) (bytes more : List ℕ) → k + m ≤ length bytes → 512 ≤ m → take 512 (drop k (take (k + m) bytes ++ more)) ≡ take 512 (drop k bytes)
before k m bytes more fit block =
    let front : length (take (k + m) bytes) ≡ k + m = length-take-le (k + m) bytes fit in
    let left : length (drop k (take (k + m) bytes)) ≡ m = length-drop k (take (k + m) bytes) ∙ omega (arith, front) in
    ap (take 512) (drop-append-le k (take (k + m) bytes) more (omega (arith, front)))
    ∙ take-append-le 512 (drop k (take (k + m) bytes)) more (omega (arith, left))
    ∙ ap (take 512) (drop-take k m bytes)
    ∙ take-take 512 m (drop k bytes) block

after : (k j : ℕ) (old new : List ℕ) → drop k new ≡ drop k old → take 512 (drop (k + j) new) ≡ take 512 (drop (k + j) old)
after k j old new e = ap (take 512) (sym (drop-drop j k new) ∙ ap (drop j) e ∙ drop-drop j k old)

pub others : OthersStay
others other lba block bytes e h ne =
    let fit = fits bytes lba h in
    elim (cases_order other lba) [
      | inl same ↦ absurd (ne same)
      | inr (inl below) ↦
          let m : (m : ℕ) × (512 * lba ≡ 512 * other + m) × (512 ≤ m) = (512 * lba - 512 * other, omega arith, omega arith) in
          ap (λ (t : List ℕ). take 512 (drop (512 * other) t)) (append_assoc (take (512 * lba) bytes) block (drop (512 * lba + 512) bytes))
          ∙ subst (λ (n : ℕ). take 512 (drop (512 * other) (take n bytes ++ (block ++ drop (512 * lba + 512) bytes))) ≡ take 512 (drop (512 * other) bytes)) (sym m.1)
          (before (512 * other) m.0 bytes (block ++ drop (512 * lba + 512) bytes) (omega (arith, m.1)) m.2)
      | inr (inr above) ↦
          let j : (j : ℕ) × (512 * other ≡ (512 * lba + 512) + j) = (512 * other - (512 * lba + 512), omega arith) in
          subst (λ (n : ℕ). take 512 (drop n (with_block lba block bytes)) ≡ take 512 (drop n bytes)) (sym j.1)
          (after (512 * lba + 512) j.0 bytes (with_block lba block bytes) (behind_stays lba block bytes e fit))
    ]

-- slots

pub writes : WritesAreOfASlot
writes slot lba block bytes shelf e size h =
    let new : bytes_in slot (with_written slot lba block shelf.disks) ≡ Some (with_block lba block bytes)
    = bytes_in-with_written slot lba block shelf.disks ∙ ap (option_map (with_block lba block)) e in
    record {
      leaves = new;
      reads = rw new (block_at-with_block lba block bytes size (fits bytes lba h));
      others = λ other ne. bytes_in-with_written_other other slot lba block shelf.disks ne;
    }

taken_then : (slot : ℕ) (name : List ℕ) (hs : List Held) → free_bytes (disk_of name (given slot name (left slot hs))) ≡ None
taken_then slot name [] = refl
taken_then slot name (h ∷ more) = elim (cases_Bool (bytes_eq h.name name)) [
  | inl it ↦ rw (it, it) refl
  | inr not ↦ rw (not, not) (taken_then slot name more)
]

kept_left : (slot : ℕ) (each : List ℕ) (hs : List Held) → option_map (λ (h : Held). h.bytes) (disk_of each (left slot hs)) ≡ option_map (λ (h : Held). h.bytes) (disk_of each hs)
kept_left slot each [] = refl
kept_left slot each (h ∷ more) = elim (cases_Bool (bytes_eq h.name each)) [
  | inl it ↦ rw it refl
  | inr not ↦ rw not (kept_left slot each more)
]

kept : (slot : ℕ) (name each : List ℕ) (hs : List Held) → option_map (λ (h : Held). h.bytes) (disk_of each (given slot name (left slot hs))) ≡ option_map (λ (h : Held). h.bytes) (disk_of each hs)
kept slot name each [] = refl
kept slot name each (h ∷ more) = elim (cases_Bool (bytes_eq h.name name)) [
  | inl it ↦ rw it (elim (cases_Bool (bytes_eq h.name each)) [
    | inl is ↦ rw is refl
    | inr not ↦ rw not (kept_left slot each more)
  ])
  | inr other ↦ rw other (elim (cases_Bool (bytes_eq h.name each)) [
    | inl is ↦ rw is refl
    | inr not ↦ rw not (kept slot name each more)
  ])
]

pub attaches : AttachesOneDisk
attaches slot name bytes shelf e = record {
  has = bytes_in-given slot name bytes shelf.disks e;
  taken = taken_then slot name shelf.disks;
  keeps = λ each. kept slot name each shelf.disks;
  others = λ other ne. bytes_in-given_other other slot name bytes shelf.disks ne e;
}

same_held : (h held : Held) → ◌≡◌ {A = Option Held} (Some h) (Some held) → h ≡ held
same_held h held e = cc

unlike : (own old name : List ℕ) → own ≡ old → old ≢ name → bytes_eq own name ≡ false
unlike own old name same ne = elim (cases_Bool (bytes_eq own name)) [
  | inl it ↦ absurd (ne (sym same ∙ (bytes_eq-Decides own name).0 it))
  | inr not ↦ not
]

freed_left : (slot : ℕ) (old : List ℕ) (hs : List Held) (held : Held) → disk_of old hs ≡ Some held → held.slot ≡ Some slot → free_bytes (disk_of old (left slot hs)) ≡ Some held.bytes
freed_left slot old [] held e at = cc
freed_left slot old (h ∷ more) held e at = elim (cases_Bool (bytes_eq h.name old)) [
  | inl it ↦ let same = same_held h held (rw it at e) in rw (it, same, at, same_slot slot) refl
  | inr not ↦ rw not (freed_left slot old more held (rw not at e) at)
]

freed : (slot : ℕ) (name old : List ℕ) (hs : List Held) (held : Held) → disk_of old hs ≡ Some held → held.slot ≡ Some slot → old ≢ name → free_bytes (disk_of old (given slot name (left slot hs))) ≡ Some held.bytes
freed slot name old [] held e at ne = cc
freed slot name old (h ∷ more) held e at ne = elim (cases_Bool (bytes_eq h.name old)) [
  | inl it ↦
      let other : bytes_eq h.name name ≡ false = unlike h.name old name ((bytes_eq-Decides h.name old).0 it) ne in
      let same = same_held h held (rw it at e) in
      rw (other, it, same, at, same_slot slot) refl
  | inr not ↦ elim (cases_Bool (bytes_eq h.name name)) [
    | inl it ↦ rw (it, not) (freed_left slot old more held (rw not at e) at)
    | inr other ↦ rw (other, not) (freed slot name old more held (rw not at e) at ne)
  ]
]

pub leaves : LeavesTheOldDisk
leaves slot name old shelf held e at ne = freed slot name old shelf.disks held e at ne
