-- What GET_LINE_CODING gives after a coding that was taken.
use Rattle.std.proofs.Common.{◌≡◌, ℕ, ◌+◌, ◌*◌, ◌/◌, ◌%◌, ◌<◌, List, [], ◌∷◌, length, true, refl, arith}
use Rattle.std.specs.Prelude.{All, IsTrue, ◌==◌}
use Rattle.std.proofs.lemmas.Bool.Decides.{nat_tests}
use Rattle.cdc_device_machine.specs.Coding.{coding_bytes, coding_of}
use Rattle.cdc_device_machine.specs.Port.{Port, accepts, after_data}
use Rattle.cdc_device_machine.specs.Laws.{IsByte, CodingIsTold}

lowest : (a b c d : ℕ) → a < 256 → (a + 256 * b + 65536 * c + 16777216 * d) % 256 ≡ a
lowest a b c d h = grind arith

second : (a b c d : ℕ) → a < 256 → b < 256 → ((a + 256 * b + 65536 * c + 16777216 * d) / 256) % 256 ≡ b
second a b c d h k = grind arith

third : (a b c d : ℕ) → a < 256 → b < 256 → c < 256 → ((a + 256 * b + 65536 * c + 16777216 * d) / 65536) % 256 ≡ c
third a b c d h k l = grind arith

highest : (a b c d : ℕ) → a < 256 → b < 256 → c < 256 → d < 256 → ((a + 256 * b + 65536 * c + 16777216 * d) / 16777216) % 256 ≡ d
highest a b c d h k l m = grind arith

bytes_kept : (bytes : List ℕ) → length bytes ≡ 7 → All IsByte bytes → coding_bytes (coding_of bytes) ≡ bytes
bytes_kept (a ∷ b ∷ c ∷ d ∷ e ∷ f ∷ g ∷ []) n h =
    let k = h 0 0 (omega arith) in
    let l = h 1 0 (omega arith) in
    let m = h 2 0 (omega arith) in
    rw (lowest a b c d k, second a b c d k l, third a b c d k l m, highest a b c d k l m (h 3 0 (omega arith))) refl
bytes_kept _ n h = absurd (omega arith)

mine : (interface : ℕ) → interface < 256 → ((interface % 256) == interface) ≡ true
mine interface h = grind (arith, nat_tests)

accepted-length : (bytes : List ℕ) → IsTrue (accepts bytes) → length bytes ≡ 7
accepted-length bytes h = grind (arith, nat_tests)

after-accepted : (port : Port) (bytes : List ℕ) → IsTrue (accepts bytes) → after_data port bytes ≡ record port { coding = coding_of bytes }
after-accepted port bytes h = rw h refl

pub coding_told : CodingIsTold
coding_told interface port bytes i h a =
    let m = mine interface i in
    let k = bytes_kept bytes (accepted-length bytes a) h in
    (rw m refl, rw (m, after-accepted port bytes a, k) refl)
