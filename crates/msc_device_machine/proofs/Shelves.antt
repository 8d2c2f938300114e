-- What calls make of the device's disk among those of a shelf.
use Rattle.std.proofs.Common.{◌≡◌, inl, inr, ℕ, ◌+◌, ◌*◌, ◌<◌, ◌≤◌, List, [], ◌∷◌, ◌++◌, length, length-drop, length-append, take, drop, false, Option, Some, None, arith, refl, sym, ap, ◌∙◌, append_assoc, append-nil}
use Rattle.std.specs.Prelude.{◌==◌}
use Rattle.std.proofs.lemmas.Bool.{cases_Bool}
use Rattle.std.proofs.lemmas.List.{take_at, drop_at, drop-drop, take-append-drop, length-take-le, take-take, drop-take}
use Rattle.usb_edge.specs.Disk.{Held, Shelf, block_at, with_block, read_block, written}
use Rattle.msc_device_machine.specs.Story.{is_here, here, with_here, overwritten}

abbrev pub shelf_with : List Held → ℕ → List ℕ → Shelf
shelf_with disks calls fails = record { disks = disks; calls = calls; fails = fails }

-- one disk in front of others
here_past : (held : Held) (more : List Held) → is_here held.slot ≡ false → here (held ∷ more) ≡ here more
here_past held more other = rw other refl

with_here_past : (bytes : List ℕ) (held : Held) (more : List Held) → is_here held.slot ≡ false → with_here bytes (held ∷ more) ≡ held ∷ with_here bytes more
with_here_past bytes held more other = rw other refl

unfolding_read : (name bytes : List ℕ) (slot : Option ℕ) (more : List Held) (lba calls : ℕ) (fails : List ℕ)
    → read_block 0 lba (shelf_with more calls fails) ≡ block_at lba (here more)
    → read_block 0 lba (shelf_with (record { name = name; bytes = bytes; slot = slot } ∷ more) calls fails)
    ≡ block_at lba (here (record { name = name; bytes = bytes; slot = slot } ∷ more))
unfolding_read name bytes None more lba calls fails h = h
unfolding_read name bytes (Some n) more lba calls fails h = elim (cases_Bool (n == 0)) [
  | inl it ↦ rw it refl
  | inr other ↦ rw other h
]

read_at : (disks : List Held) (lba calls : ℕ) (fails : List ℕ) → read_block 0 lba (shelf_with disks calls fails) ≡ block_at lba (here disks)
read_at [] lba calls fails = refl
read_at (held ∷ more) lba calls fails = unfolding_read held.name held.bytes held.slot more lba calls fails (read_at more lba calls fails)

pub read_is : (shelf : Shelf) (lba : ℕ) → read_block 0 lba shelf ≡ block_at lba (here shelf.disks)
read_is shelf lba = read_at shelf.disks lba shelf.calls shelf.fails

unfolding_written : (name bytes : List ℕ) (slot : Option ℕ) (more : List Held) (lba calls : ℕ) (block fails : List ℕ)
    → (written 0 lba block (shelf_with more calls fails)).disks ≡ with_here (with_block lba block (here more)) more
    → (written 0 lba block (shelf_with (record { name = name; bytes = bytes; slot = slot } ∷ more) calls fails)).disks
    ≡ with_here (with_block lba block (here (record { name = name; bytes = bytes; slot = slot } ∷ more))) (record { name = name; bytes = bytes; slot = slot } ∷ more)
unfolding_written name bytes None more lba calls block fails h = ap (λ (l : List Held). record { name = name; bytes = bytes; slot = None } ∷ l) h
unfolding_written name bytes (Some n) more lba calls block fails h = elim (cases_Bool (n == 0)) [
  | inl it ↦ rw it refl
  | inr other ↦
      let held : Held = record { name = name; bytes = bytes; slot = Some n } in
      let first : (written 0 lba block (shelf_with (held ∷ more) calls fails)).disks ≡ held ∷ (written 0 lba block (shelf_with more calls fails)).disks = rw other refl in
      first
      ∙ ap (λ (l : List Held). held ∷ l) h
      ∙ sym (with_here_past (with_block lba block (here more)) held more other)
      ∙ ap (λ (x : List ℕ). with_here (with_block lba block x) (held ∷ more)) (sym (here_past held more other))
]

written_at : (disks : List Held) (lba calls : ℕ) (block fails : List ℕ) → (written 0 lba block (shelf_with disks calls fails)).disks ≡ with_here (with_block lba block (here disks)) disks
written_at [] lba calls block fails = refl
written_at (held ∷ more) lba calls block fails = unfolding_written held.name held.bytes held.slot more lba calls block fails (written_at more lba calls block fails)

pub written_is : (shelf : Shelf) (lba : ℕ) (block : List ℕ) → (written 0 lba block shelf).disks ≡ with_here (with_block lba block (here shelf.disks)) shelf.disks
written_is shelf lba block = written_at shelf.disks lba shelf.calls block shelf.fails

pub with_here_here : (disks : List Held) → with_here (here disks) disks ≡ disks
with_here_here [] = refl
with_here_here (held ∷ more) = elim (cases_Bool (is_here held.slot)) [
  | inl it ↦ rw it refl
  | inr other ↦
      ap (λ (x : List ℕ). with_here x (held ∷ more)) (here_past held more other)
      ∙ with_here_past (here more) held more other
      ∙ ap (λ (l : List Held). held ∷ l) (with_here_here more)
]

pub with_here_twice : (x y : List ℕ) (disks : List Held) → with_here x (with_here y disks) ≡ with_here x disks
with_here_twice x y [] = refl
with_here_twice x y (held ∷ more) = elim (cases_Bool (is_here held.slot)) [
  | inl it ↦ rw (it, it) refl
  | inr other ↦ rw (other, other) (ap (λ (l : List Held). held ∷ l) (with_here_twice x y more))
]

pub here_with : (x : List ℕ) (disks : List Held) → 0 < length (here disks) → here (with_here x disks) ≡ x
here_with x [] some = absurd (omega arith)
here_with x (held ∷ more) some = elim (cases_Bool (is_here held.slot)) [
  | inl it ↦ rw (it, it) refl
  | inr other ↦ let left = rw other at some in rw (other, other) (here_with x more left)
]

-- nothing is written over
pub unwritten : (place : ℕ) (disks : List Held) → with_here (overwritten place [] (here disks)) disks ≡ disks
unwritten place disks =
    let bytes = here disks in
    let e : overwritten place [] bytes ≡ bytes =
    ap (λ (l : List ℕ). l ++ drop (place + 0) bytes) (append-nil (take place bytes))
    ∙ ap (λ (n : ℕ). take place bytes ++ drop n bytes) (nothing_more place)
    ∙ take-append-drop place bytes in
    ap (λ (b : List ℕ). with_here b disks) e ∙ with_here_here disks
  where
    nothing_more : (n : ℕ) → n + 0 ≡ n
    nothing_more n = omega arith

-- a block behind those that were written
same_sum : (a b c d : ℕ) → a ≡ c → b ≡ d → a + b ≡ c + d
same_sum a b c d e f = omega arith

front_length : (at n : ℕ) (front bytes : List ℕ) → length front ≡ n → at ≤ length bytes → length (take at bytes ++ front) ≡ at + n
front_length at n front bytes size within =
    length-append (take at bytes) front ∙ same_sum (length (take at bytes)) (length front) at n (length-take-le at bytes within) size

back_of : (at n m : ℕ) (front bytes : List ℕ) → length front ≡ n → at ≤ length bytes → drop (at + n + m) (take at bytes ++ front ++ drop (at + n) bytes) ≡ drop (at + n + m) bytes
back_of at n m front bytes size within =
    sym (drop-drop m (at + n) (take at bytes ++ front ++ drop (at + n) bytes))
    ∙ ap (λ (l : List ℕ). drop m l) (drop_at (take at bytes ++ front) (drop (at + n) bytes) (at + n) (front_length at n front bytes size within))
    ∙ drop-drop m (at + n) bytes

pub block_behind : (lba k : ℕ) (front block bytes : List ℕ) → length front ≡ 512 * k → length block ≡ 512 → 512 * (lba + k) ≤ length bytes
    → with_block (lba + k) block (overwritten (512 * lba) front bytes) ≡ overwritten (512 * lba) (front ++ block) bytes
block_behind lba k front block bytes size one within =
    let at = 512 * lba in
    let n = length front in
    let whole = overwritten at front bytes in
    let le : at ≤ length bytes = omega (arith, within) in
    let place : 512 * (lba + k) ≡ at + n = omega (arith, size) in
    let all : length (front ++ block) ≡ n + 512 = length-append front block ∙ ap (λ (m : ℕ). n + m) one in
    let past : at + length (front ++ block) ≡ at + n + 512 = omega (arith, all) in
    ap (λ (p : ℕ). take p whole ++ block ++ drop (p + 512) whole) place
    ∙ ap (λ (l : List ℕ). l ++ block ++ drop (at + n + 512) whole) (take_at (take at bytes ++ front) (drop (at + n) bytes) (at + n) (front_length at n front bytes refl le))
    ∙ ap (λ (l : List ℕ). take at bytes ++ front ++ block ++ l) (back_of at n 512 front bytes refl le)
    ∙ ap (λ (l : List ℕ). l ++ drop (at + n + 512) bytes) (append_assoc (take at bytes) front block)
    ∙ ap (λ (p : ℕ). take at bytes ++ (front ++ block) ++ drop p bytes) (sym past)

-- writing over bytes keeps their number
pub overwritten_length : (place : ℕ) (new bytes : List ℕ) → place + length new ≤ length bytes → length (overwritten place new bytes) ≡ length bytes
overwritten_length place new bytes within =
    let a = length-append (take place bytes ++ new) (drop (place + length new) bytes) in
    let b = front_length place (length new) new bytes refl (omega (arith, within)) in
    let d = length-drop (place + length new) bytes in
    omega (arith, a, b, d, within)

-- a block is the next one of those that were read
pub read_more : (at n m : ℕ) (bytes : List ℕ) → take n (drop at bytes) ++ take m (drop (at + n) bytes) ≡ take (n + m) (drop at bytes)
read_more at n m bytes =
    let l = drop at bytes in
    ap (λ (x : List ℕ). take n l ++ take m x) (sym (drop-drop n at bytes))
    ∙ ap (λ (x : List ℕ). x ++ take m (drop n l)) (sym (take-take n (n + m) l (omega arith)))
    ∙ ap (λ (x : List ℕ). take n (take (n + m) l) ++ x) (sym (drop-take n m l))
    ∙ take-append-drop n (take (n + m) l)
