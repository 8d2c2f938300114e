-- Laws of disks that tell their contents.
use Rattle.std.proofs.Common.{◌≡◌, ◌≢◌, ℕ, ◌+◌, ◌*◌, ◌/◌, ◌<◌, ◌≤◌, false, List, [], ◌∷◌, ◌++◌, Option, Some, None, is_none, option_map, length, take, drop, refl, ap, sym, ◌∙◌, arith, inl, inr, if◌then◌else◌, ne_eqb, length-append, length-take, length-drop, append_assoc}
use Rattle.std.proofs.lemmas.Bool.{cases_Bool, cases_eq}
use Rattle.std.proofs.lemmas.List.{take_at, drop_at, length-take-le}
use Rattle.std.specs.Prelude.{bytes_eq}
use Rattle.usb_edge.specs.Disk.{Held, HasBlock, is_slot, block_at, bytes_in, with_block, with_written, disk_of, free_bytes, slot_left, left, given}
use Rattle.usb_edge.proofs.SlotLemmas.{same_slot, is_slot-Some}

-- blocks of one disk

pub fits : (bytes : List ℕ) (lba : ℕ) → lba < length bytes / 512 → 512 * lba + 512 ≤ length bytes
fits bytes lba h = omega arith

pub length-with_block : (lba : ℕ) (block bytes : List ℕ) → length block ≡ 512 → 512 * lba + 512 ≤ length bytes → length (with_block lba block bytes) ≡ length bytes
length-with_block lba block bytes e fit =
    simp (length-append, length-take, length-drop) (omega arith)

pub block_at-with_block : (lba : ℕ) (block bytes : List ℕ) → length block ≡ 512 → 512 * lba + 512 ≤ length bytes → block_at lba (with_block lba block bytes) ≡ block
block_at-with_block lba block bytes e fit =
    let front : length (take (512 * lba) bytes) ≡ 512 * lba = length-take-le (512 * lba) bytes (omega arith) in
    let rest = drop (512 * lba + 512) bytes in
    rw (append_assoc (take (512 * lba) bytes) block rest, drop_at (take (512 * lba) bytes) (block ++ rest) (512 * lba) front)
    (take_at block rest 512 e)

-- slots

pub left_alone : (s : ℕ) (o : Option ℕ) → is_slot s (slot_left s o) ≡ false
left_alone s o = elim (cases_Bool (is_slot s o)) [
  | inl it ↦ rw it refl
  | inr not ↦ rw not not
]

pub left_others : (other s : ℕ) (o : Option ℕ) → other ≢ s → is_slot other (slot_left s o) ≡ is_slot other o
left_others other s o ne = elim (cases_Bool (is_slot s o)) [
  | inl it ↦
      let e : o ≡ Some s = is_slot-Some s o it in
      rw (it, e) (sym (ne_eqb s other (λ f. ne (sym f))))
  | inr not ↦ rw not refl
]

pub bytes_in-left : (other s : ℕ) (hs : List Held) → other ≢ s → bytes_in other (left s hs) ≡ bytes_in other hs
bytes_in-left other s [] ne = refl
bytes_in-left other s (h ∷ more) ne = rw (left_others other s h.slot ne, bytes_in-left other s more ne) refl

free_head : (h : Held) (bytes : List ℕ) → free_bytes (Some h) ≡ Some bytes → (h.slot ≡ None) × (h.bytes ≡ bytes)
free_head h bytes e = free_slot h.slot h.bytes bytes refl e where
  free_slot : (o : Option ℕ) (old bytes : List ℕ) → h.slot ≡ o → ◌≡◌ {A = Option (List ℕ)} (if is_none o then Some old else None) (Some bytes) → (h.slot ≡ None) × (old ≡ bytes)
  free_slot None old bytes same e = (same, cc)
  free_slot (Some n) old bytes same e = absurd (cc)

pub bytes_in-given : (s : ℕ) (name bytes : List ℕ) (hs : List Held) → free_bytes (disk_of name hs) ≡ Some bytes → bytes_in s (given s name (left s hs)) ≡ Some bytes
bytes_in-given s name bytes [] e = cc
bytes_in-given s name bytes (h ∷ more) e = elim (cases_Bool (bytes_eq h.name name)) [
  | inl it ↦ let f = rw it at e in rw (it, same_slot s) (ap (λ (t : List ℕ). Some t) (free_head h bytes f).1)
  | inr not ↦ let f = rw not at e in rw (not, left_alone s h.slot) (bytes_in-given s name bytes more f)
]

pub bytes_in-given_other : (other s : ℕ) (name bytes : List ℕ) (hs : List Held) → other ≢ s → free_bytes (disk_of name hs) ≡ Some bytes → bytes_in other (given s name (left s hs)) ≡ bytes_in other hs
bytes_in-given_other other s name bytes [] ne e = refl
bytes_in-given_other other s name bytes (h ∷ more) ne e = elim (cases_Bool (bytes_eq h.name name)) [
  | inl it ↦
      let f = rw it at e in
      rw (it, ne_eqb s other (λ g. ne (sym g)), (free_head h bytes f).0) (bytes_in-left other s more ne)
  | inr not ↦
      let f = rw not at e in
      rw (not, left_others other s h.slot ne, bytes_in-given_other other s name bytes more ne f) refl
]

-- a block that is written

pub bytes_in-with_written : (s lba : ℕ) (block : List ℕ) (hs : List Held) → bytes_in s (with_written s lba block hs) ≡ option_map (with_block lba block) (bytes_in s hs)
bytes_in-with_written s lba block [] = refl
bytes_in-with_written s lba block (h ∷ more) = elim (cases_Bool (is_slot s h.slot)) [
  | inl it ↦ rw (it, it) refl
  | inr not ↦ rw (not, not) (bytes_in-with_written s lba block more)
]

pub bytes_in-with_written_other : (other s lba : ℕ) (block : List ℕ) (hs : List Held) → other ≢ s → bytes_in other (with_written s lba block hs) ≡ bytes_in other hs
bytes_in-with_written_other other s lba block [] ne = refl
bytes_in-with_written_other other s lba block (h ∷ more) ne = elim (cases_Bool (is_slot s h.slot)) [
  | inl it ↦
      let away : is_slot other h.slot ≡ false = rw (is_slot-Some s h.slot it) (ne_eqb s other (λ f. ne (sym f))) in
      rw (it, away) refl
  | inr not ↦ rw (not, bytes_in-with_written_other other s lba block more ne) refl
]

mapped_length : (lba : ℕ) (block : List ℕ) (o : Option (List ℕ)) → length block ≡ 512 → HasBlock (option_map length o) lba → option_map length (option_map (with_block lba block) o) ≡ option_map length o
mapped_length lba block None e h = refl
mapped_length lba block (Some bytes) e h = ap (λ (n : ℕ). Some n) (length-with_block lba block bytes e (fits bytes lba h))

pub sizes_kept : (s lba : ℕ) (block : List ℕ) (hs : List Held) → length block ≡ 512 → HasBlock (option_map length (bytes_in s hs)) lba → (at : ℕ) → option_map length (bytes_in at (with_written s lba block hs)) ≡ option_map length (bytes_in at hs)
sizes_kept s lba block hs e h at = elim (cases_eq at s) [
  | inl same ↦ rw same (ap (option_map length) (bytes_in-with_written s lba block hs) ∙ mapped_length lba block (bytes_in s hs) e h)
  | inr other ↦ ap (option_map length) (bytes_in-with_written_other at s lba block hs other)
]

pub same_sizes : (s lba : ℕ) (block : List ℕ) (hs new : List Held) → new ≡ with_written s lba block hs → length block ≡ 512 → HasBlock (option_map length (bytes_in s hs)) lba → ◌≡◌ {A = ℕ → Option ℕ} (λ at. option_map length (bytes_in at new)) (λ at. option_map length (bytes_in at hs))
same_sizes s lba block hs new is e h = λ i at. (ap (λ (t : List Held). option_map length (bytes_in at t)) is ∙ sizes_kept s lba block hs e h at) i

-- a slot that took a disk

some_length : (o : Option (List ℕ)) (n : ℕ) → Some n ≡ option_map length o → (bytes : List ℕ) × (o ≡ Some bytes) × (length bytes ≡ n)
some_length None n e = absurd (cc)
some_length (Some bytes) n e = (bytes, refl, cc)

pub size_given : (s n : ℕ) (name : List ℕ) (hs new : List Held) → new ≡ given s name (left s hs) → Some n ≡ option_map length (free_bytes (disk_of name hs)) → option_map length (bytes_in s new) ≡ Some n
size_given s n name hs new is e =
    let free = some_length (free_bytes (disk_of name hs)) n e in
    ap (λ (t : List Held). option_map length (bytes_in s t)) is
    ∙ ap (option_map length) (bytes_in-given s name free.0 hs free.1)
    ∙ ap (λ (m : ℕ). Some m) free.2

pub sizes_given : (s n : ℕ) (name : List ℕ) (hs new : List Held) → new ≡ given s name (left s hs) → Some n ≡ option_map length (free_bytes (disk_of name hs)) → (other : ℕ) → other ≢ s → option_map length (bytes_in other new) ≡ option_map length (bytes_in other hs)
sizes_given s n name hs new is e other ne =
    let free = some_length (free_bytes (disk_of name hs)) n e in
    ap (λ (t : List Held). option_map length (bytes_in other t)) is
    ∙ ap (option_map length) (bytes_in-given_other other s name free.0 hs ne free.1)
