-- What calls make of disks in memory, as they are told.
use Rattle.std.proofs.Common.{◌≡◌, ℕ, zero, suc, ◌*◌, ◌/◌, ◌<◌, ◌≤◌, Bool, true, false, not, ltb, List, [], ◌∷◌, ◌++◌, Option, Some, None, is_some, option_map, get_or, set, length, take, drop, position, refl, ap, ap₂, sym, ◌∙◌, arith, string_bytes, inl, inr, append_assoc, drop-drop}
use Rattle.std.proofs.lemmas.Bool.{cases_Bool, ltb-false}
use Rattle.std.proofs.lemmas.List.Quantifiers.{position-Some}
use Rattle.std.specs.List.{position_or_len, list_any}
use Rattle.std.specs.Prelude.{bytes_eq}
use borrow.Rule.Slice.PartMut.{put_mid}
use Rattle.usb_edge.specs.Disk.{Held, HasBlock, is_slot, bytes_in, with_block, with_written, disk_of, free_bytes, slot_left, left, given}
use Rattle.usb_edge.specs.Memory.{held_by, slot_of, shelved, AreInPlace, IsFirst, FreeIndex}
use Rattle.usb_edge.specs.declared.slots.MemDisk.{MemDisk}
use Rattle.usb_edge.proofs.SlotLemmas.{same_slot, other_slot, slot_of-has, slot_of-has_it, slot_of-other, slot_of-set, slot_of-set_other, any_slot_of}

-- the first disk of a name

abbrev named_by : List ℕ → MemDisk → Bool
named_by name disk = bytes_eq (string_bytes disk.name) name

pub is_first : (name : List ℕ) (ds : List MemDisk) (i : ℕ) → position (λ (d : MemDisk). bytes_eq (string_bytes d.name) name) ds ≡ Some i → IsFirst name ds i
is_first name ds i e = record {
  within = (position-Some (named_by name) ds i (any_of ds i e) e).0;
  named = λ d. (position-Some (named_by name) ds i d e).1;
  before = λ k d. (position-Some (named_by name) ds i d e).2 k;
} where
  any_of : (ds : List MemDisk) (i : ℕ) → position (named_by name) ds ≡ Some i → MemDisk
  any_of [] i e = absurd (cc)
  any_of (x ∷ xs) i e = x

none_past : (p : MemDisk → Bool) (ds : List MemDisk) → length ds ≤ position_or_len p ds → (k : ℕ) (d : MemDisk) → k < length ds → p (get_or ds k d) ≡ false
none_past p [] h k d lt = absurd (omega arith)
none_past p (x ∷ xs) h zero d lt = elim (cases_Bool (p x)) [
  | inl it ↦ let g = rw it at h in absurd (omega arith)
  | inr not ↦ not
]
none_past p (x ∷ xs) h (suc k) d lt = elim (cases_Bool (p x)) [
  | inl it ↦ let g = rw it at h in absurd (omega arith)
  | inr not ↦ let g = rw not at h in none_past p xs (omega arith) k d (omega arith)
]

all_past : (p : MemDisk → Bool) (ds : List MemDisk) → position p ds ≡ None → length ds ≤ position_or_len p ds
all_past p ds e = elim (cases_Bool (ltb (position_or_len p ds) (length ds))) [
  | inl it ↦ let g = rw it at e in cc
  | inr not ↦ ltb-false (position_or_len p ds) (length ds) not
]

disk_of-all_past : (name : List ℕ) (at : ℕ → Option ℕ) (ds : List MemDisk) → ((k : ℕ) (d : MemDisk) → k < length ds → named_by name (get_or ds k d) ≡ false) → disk_of name (held_by at ds) ≡ None
disk_of-all_past name at [] h = refl
disk_of-all_past name at (x ∷ xs) h =
    rw (h zero x (omega arith)) (disk_of-all_past name (λ k. at (suc k)) xs (λ k d lt. h (suc k) d (omega arith)))

pub disk_of_none : (name : List ℕ) (at : ℕ → Option ℕ) (ds : List MemDisk) → position (λ (d : MemDisk). bytes_eq (string_bytes d.name) name) ds ≡ None → disk_of name (held_by at ds) ≡ None
disk_of_none name at ds e = disk_of-all_past name at ds (none_past (named_by name) ds (all_past (named_by name) ds e))

abbrev told : MemDisk → Option ℕ → Held
told disk slot = record { name = string_bytes disk.name; bytes = disk.bytes.items; slot = slot }

disk_of-first : (name : List ℕ) (at : ℕ → Option ℕ) (ds : List MemDisk) (i : ℕ) (d : MemDisk) → i < length ds → named_by name (get_or ds i d) ≡ true → ((k : ℕ) → k < i → named_by name (get_or ds k d) ≡ false) → disk_of name (held_by at ds) ≡ Some (told (get_or ds i d) (at i))
disk_of-first name at [] i d lt it before = absurd (omega arith)
disk_of-first name at (x ∷ xs) zero d lt it before = rw it refl
disk_of-first name at (x ∷ xs) (suc i) d lt it before =
    rw (before zero (omega arith)) (disk_of-first name (λ k. at (suc k)) xs i d (omega arith) it (λ k below. before (suc k) (omega arith)))

pub disk_of_held : (name : List ℕ) (at : ℕ → Option ℕ) (ds : List MemDisk) (i : ℕ) (d : MemDisk) → IsFirst name ds i → disk_of name (held_by at ds) ≡ Some (told (get_or ds i d) (at i))
disk_of_held name at ds i d first = disk_of-first name at ds i d first.within (first.named d) (λ k. first.before k d)

-- the disk that a slot has

pub bytes_in_held : (at : ℕ → Option ℕ) (ds : List MemDisk) (i s : ℕ) (d : MemDisk) → i < length ds → at i ≡ Some s → ((k : ℕ) → k < i → at k ≡ Some s → ⊥) → bytes_in s (held_by at ds) ≡ Some (get_or ds i d).bytes.items
bytes_in_held at [] i s d lt here before = absurd (omega arith)
bytes_in_held at (x ∷ xs) zero s d lt here before = rw (here, same_slot s) refl
bytes_in_held at (x ∷ xs) (suc i) s d lt here before =
    rw (other_slot s (at zero) (before zero (omega arith)))
    (bytes_in_held (λ k. at (suc k)) xs i s d (omega arith) here (λ k below. before (suc k) (omega arith)))

pub bytes_in_none : (at : ℕ → Option ℕ) (ds : List MemDisk) (s : ℕ) → ((k : ℕ) → at k ≡ Some s → ⊥) → bytes_in s (held_by at ds) ≡ None
bytes_in_none at [] s h = refl
bytes_in_none at (x ∷ xs) s h = rw (other_slot s (at zero) (h zero)) (bytes_in_none (λ k. at (suc k)) xs s (λ k. h (suc k)))

pub written_held : (at : ℕ → Option ℕ) (ds : List MemDisk) (i s lba : ℕ) (block : List ℕ) (d new : MemDisk) → i < length ds → at i ≡ Some s → ((k : ℕ) → k < i → at k ≡ Some s → ⊥) → string_bytes new.name ≡ string_bytes (get_or ds i d).name → new.bytes.items ≡ with_block lba block (get_or ds i d).bytes.items → held_by at (set ds i new) ≡ with_written s lba block (held_by at ds)
written_held at [] i s lba block d new lt here before name bytes = absurd (omega arith)
written_held at (x ∷ xs) zero s lba block d new lt here before name bytes = rw (here, same_slot s, name, bytes) refl
written_held at (x ∷ xs) (suc i) s lba block d new lt here before name bytes =
    rw (other_slot s (at zero) (before zero (omega arith)))
    (ap (λ (hs : List Held). told x (at zero) ∷ hs) (written_held (λ k. at (suc k)) xs i s lba block d new (omega arith) here (λ k below. before (suc k) (omega arith)) name bytes))

-- a slot takes a disk

left_held : (at at' : ℕ → Option ℕ) (ds : List MemDisk) (s : ℕ) → ((k : ℕ) → at' k ≡ slot_left s (at k)) → held_by at' ds ≡ left s (held_by at ds)
left_held at at' [] s h = refl
left_held at at' (x ∷ xs) s h =
    ap₂ (λ (o : Option ℕ) (hs : List Held). told x o ∷ hs) (h zero) (left_held (λ k. at (suc k)) (λ k. at' (suc k)) xs s (λ k. h (suc k)))

given_held : (at at' : ℕ → Option ℕ) (ds : List MemDisk) (i s : ℕ) (name : List ℕ) (d : MemDisk) → i < length ds → named_by name (get_or ds i d) ≡ true → ((k : ℕ) → k < i → named_by name (get_or ds k d) ≡ false) → at' i ≡ Some s → ((k : ℕ) → (k ≡ i → ⊥) → at' k ≡ slot_left s (at k)) → held_by at' ds ≡ given s name (left s (held_by at ds))
given_held at at' [] i s name d lt it before here others = absurd (omega arith)
given_held at at' (x ∷ xs) zero s name d lt it before here others =
    rw it
    (ap₂ (λ (o : Option ℕ) (hs : List Held). told x o ∷ hs) here (left_held (λ k. at (suc k)) (λ k. at' (suc k)) xs s (λ k. others (suc k) (λ e. omega arith))))
given_held at at' (x ∷ xs) (suc i) s name d lt it before here others =
    rw (before zero (omega arith))
    (ap₂ (λ (o : Option ℕ) (hs : List Held). told x o ∷ hs) (others zero (λ e. omega arith)) (given_held (λ k. at (suc k)) (λ k. at' (suc k)) xs i s name d (omega arith) it (λ k below. before (suc k) (omega arith)) here (λ k ne. others (suc k) (λ e. ne (omega arith)))))

-- a block in its place

pub put_mid_block : (lba k : ℕ) (bytes block new : List ℕ) → k ≡ 512 → new ≡ block → put_mid (512 * lba) k bytes new ≡ with_block lba block bytes
put_mid_block lba k bytes block new e same =
    rw (e, same)
    (sym (append_assoc (take (512 * lba) bytes) block (drop 512 (drop (512 * lba) bytes)))
    ∙ ap (λ (t : List ℕ). take (512 * lba) bytes ++ block ++ t) (drop-drop 512 (512 * lba) bytes))

-- what slots give of disks in memory

pub has_block : (o : Option (List ℕ)) (bytes : List ℕ) (lba : ℕ) → o ≡ Some bytes → HasBlock (option_map length o) lba → lba < length bytes / 512
has_block o bytes lba e h = rw e at h

pub no_block : (o : Option (List ℕ)) (lba : ℕ) → o ≡ None → HasBlock (option_map length o) lba → ⊥
no_block o lba e h = rw e at h

pub slot_has : (slots : List (Option ℕ)) (ds : List MemDisk) (s i : ℕ) (d : MemDisk) → AreInPlace slots (length ds) → get_or slots s None ≡ Some i → bytes_in s (shelved slots ds) ≡ Some (get_or ds i d).bytes.items
slot_has slots ds s i d place h =
    bytes_in_held (slot_of slots) ds i s d (place.within s i h) (slot_of-has_it slots (length ds) i s place h)
    (λ k below. slot_of-other slots i k s h (λ e. omega arith))

pub slot_empty : (slots : List (Option ℕ)) (ds : List MemDisk) (s : ℕ) → ((i : ℕ) → get_or slots s None ≡ Some i → ⊥) → bytes_in s (shelved slots ds) ≡ None
slot_empty slots ds s h = bytes_in_none (slot_of slots) ds s (λ k e. h k (slot_of-has slots k s e))

pub slot_written : (slots : List (Option ℕ)) (ds : List MemDisk) (s i lba : ℕ) (block : List ℕ) (d new : MemDisk) → AreInPlace slots (length ds) → get_or slots s None ≡ Some i → string_bytes new.name ≡ string_bytes (get_or ds i d).name → new.bytes.items ≡ with_block lba block (get_or ds i d).bytes.items → shelved slots (set ds i new) ≡ with_written s lba block (shelved slots ds)
slot_written slots ds s i lba block d new place h name bytes =
    written_held (slot_of slots) ds i s lba block d new (place.within s i h) (slot_of-has_it slots (length ds) i s place h)
    (λ k below. slot_of-other slots i k s h (λ e. omega arith)) name bytes

-- the disk of a name that no slot has

pub free_of : (name : List ℕ) (slots : List (Option ℕ)) (ds : List MemDisk) (i : ℕ) (d : MemDisk) → FreeIndex name slots ds i → free_bytes (disk_of name (shelved slots ds)) ≡ Some (get_or ds i d).bytes.items
free_of name slots ds i d free = rw (disk_of_held name (slot_of slots) ds i d free.first, free.unattached) refl

some_disk : (ds : List MemDisk) (i : ℕ) → i < length ds → MemDisk
some_disk [] i lt = absurd (omega arith)
some_disk (x ∷ xs) i lt = x

pub taken : (name : List ℕ) (slots : List (Option ℕ)) (ds : List MemDisk) (i : ℕ) → IsFirst name ds i → list_any (is_slot i) slots ≡ true → free_bytes (disk_of name (shelved slots ds)) ≡ None
taken name slots ds i first any =
    rw (disk_of_held name (slot_of slots) ds i (some_disk ds i first.within) first) (taken_at (slot_of slots i) (some_disk ds i first.within) (sym (any_slot_of slots i) ∙ any)) where
      taken_at : (o : Option ℕ) (d : MemDisk) → is_some o ≡ true → free_bytes (Some (told (get_or ds i d) o)) ≡ None
      taken_at None d h = cc
      taken_at (Some n) d h = refl

pub untaken : (slots : List (Option ℕ)) (i : ℕ) → list_any (is_slot i) slots ≡ false → slot_of slots i ≡ None
untaken slots i any = untaken_at (slot_of slots i) (sym (any_slot_of slots i) ∙ any) where
  untaken_at : (o : Option ℕ) → is_some o ≡ false → o ≡ None
  untaken_at None h = refl
  untaken_at (Some n) h = cc

pub free_index_is : (name : List ℕ) (slots : List (Option ℕ)) (ds : List MemDisk) (i : ℕ) → position (λ (d : MemDisk). bytes_eq (string_bytes d.name) name) ds ≡ Some i → list_any (is_slot i) slots ≡ false → FreeIndex name slots ds i
free_index_is name slots ds i e any = record { first = is_first name ds i e; unattached = untaken slots i any }

pub slot_given : (slots : List (Option ℕ)) (ds : List MemDisk) (s i : ℕ) (name : List ℕ) (d : MemDisk) → AreInPlace slots (length ds) → s < length slots → FreeIndex name slots ds i → shelved (set slots s (Some i)) ds ≡ given s name (left s (shelved slots ds))
slot_given slots ds s i name d place lt free =
    given_held (slot_of slots) (slot_of (set slots s (Some i))) ds i s name d free.first.within (free.first.named d) (λ k. free.first.before k d)
    (slot_of-set slots s i lt free.unattached) (λ k ne. slot_of-set_other slots s i k lt place.apart ne)

-- the bytes of a name don't depend on slots
pub named_alike : (name : List ℕ) (at at' : ℕ → Option ℕ) (ds : List MemDisk) → option_map (λ (h : Held). h.bytes) (disk_of name (held_by at ds)) ≡ option_map (λ (h : Held). h.bytes) (disk_of name (held_by at' ds))
named_alike name at at' [] = refl
named_alike name at at' (x ∷ xs) = elim (cases_Bool (named_by name x)) [
  | inl it ↦ rw it refl
  | inr other ↦ rw other (named_alike name (λ k. at (suc k)) (λ k. at' (suc k)) xs)
]
