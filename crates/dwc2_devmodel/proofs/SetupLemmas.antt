-- The count of the entries of SETUPs: a test of it, its bound, and its change when entries come and leave.
use Rattle.std.proofs.Common.{◌≡◌, ℕ, ◌+◌, ◌-◌, ◌<◌, ◌≤◌, List, [], ◌∷◌, ◌++◌, length, Bool, true, false, refl, ap, ◌∙◌, arith}
use Rattle.std.specs.Prelude.{not, ◌||◌, ◌==◌, if◌then◌else◌}
use Rattle.std.proofs.lemmas.Bool.Decides.{nat_tests}
use Rattle.usb_packet.specs.declared.bus.Toggle.{Toggle}
use Rattle.usb_packet.specs.declared.bus.Toggle.TheVariants.{D0, D1}
use Rattle.dwc2_fifo.specs.Rx.{Entry, Rx, words_in, first_status, pushed, popped, room_of}
use Rattle.device_table.specs.State.{Table}
use Rattle.device_table.specs.Words.{status_word, pid_of, kind_of}
use Rattle.device_table.specs.Read.{entry_popped, end_popped}
use Rattle.device_table.specs.Write.{is_setup, setup_in}
use Rattle.dwc2_devmodel.specs.Setups.{setups_in}

lies_step : (b : Bool) (n : ℕ) (rest : Bool) → rest ≡ not (n == 0) → (b || rest) ≡ not ((if b then 1 else 0) + n == 0)
lies_step true n rest h = grind (arith, nat_tests)
lies_step false n rest h =
    let same : n ≡ 0 + n = omega arith in
    h ∙ ap (λ (m : ℕ). not (m == 0)) same

-- one lies there exactly where the count isn't 0
pub setup_in_counted : (entries : List Entry) → setup_in entries ≡ not (setups_in entries == 0)
setup_in_counted [] = refl
setup_in_counted (entry ∷ entries) = lies_step (is_setup entry) (setups_in entries) (setup_in entries) (setup_in_counted entries)

at_most_one : (b : Bool) → (if b then 1 else 0) ≤ 1
at_most_one true = omega arith
at_most_one false = omega arith

pub setups_in-le : (entries : List Entry) → setups_in entries ≤ words_in entries
setups_in-le [] = omega arith
setups_in-le (entry ∷ entries) =
    let ih = setups_in-le entries in
    let one = at_most_one (is_setup entry) in
    omega arith

pub setups_in-append : (these those : List Entry) → setups_in (these ++ those) ≡ setups_in these + setups_in those
setups_in-append [] those = omega arith
setups_in-append (entry ∷ these) those =
    let ih = setups_in-append these those in
    omega arith

-- the kind of an entry of an OUT packet
kind_of-out : (number bytes : ℕ) (toggle : Toggle) → number < 16 → bytes < 2048 → kind_of (status_word number bytes (pid_of toggle) 2) ≡ 2
kind_of-out number bytes D0 h k = omega arith
kind_of-out number bytes D1 h k = omega arith

kind_of-end : (number : ℕ) → number < 16 → kind_of (status_word number 0 0 3) ≡ 3
kind_of-end number h = omega arith

-- two entries more
pub setups_in-two : (rx : Rx) (one two : Entry) → setups_in (pushed (pushed rx one) two).entries ≡ setups_in rx.entries + setups_in (one ∷ two ∷ [])
setups_in-two rx one two =
    let second = setups_in-append (rx.entries ++ one ∷ []) (two ∷ []) in
    let first = setups_in-append rx.entries (one ∷ []) in
    omega arith

pub setups_in-setup : (one two : Entry) → one.status ≡ 0x000c0080 → two.status ≡ 0x00080000 → setups_in (one ∷ two ∷ []) ≡ 2
setups_in-setup one two h k = rw (h, k) refl

pub setups_in-out : (one two : Entry) (number bytes pid : ℕ) (toggle : Toggle) → one.status ≡ status_word number bytes pid 2 → two.status ≡ status_word number 0 0 3
    → pid ≡ pid_of toggle → number ≤ 3 → bytes ≤ 64 → setups_in (one ∷ two ∷ []) ≡ 0
setups_in-out one two number bytes pid toggle h k p few most =
    let start : kind_of one.status ≡ 2 = ap kind_of h ∙ ap (λ (n : ℕ). kind_of (status_word number bytes n 2)) p ∙ kind_of-out number bytes toggle (omega arith) (omega arith) in
    let ends : kind_of two.status ≡ 3 = ap kind_of k ∙ kind_of-end number (omega arith) in
    simp (start, ends)

words_in-append : (these those : List Entry) → words_in (these ++ those) ≡ words_in these + words_in those
words_in-append [] those = omega arith
words_in-append (entry ∷ these) those =
    let ih = words_in-append these those in
    omega arith

-- the room that one entry more leaves
pub room_of-pushed : (rx : Rx) (entry : Entry) → room_of (pushed rx entry) ≡ room_of rx - (1 + length entry.words)
room_of-pushed rx entry =
    let more = words_in-append rx.entries (entry ∷ []) in
    omega arith

-- the entry is popped
pub entry_popped-first : (t : Table) (entries : List Entry) → t.rx.entries ≡ entries
    → entry_popped t t.rx.entries ≡ end_popped (record t { rx = popped t.rx }) (first_status entries)
entry_popped-first t [] h = rw h refl
entry_popped-first t (entry ∷ entries) h = rw h refl
