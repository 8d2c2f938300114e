-- A set of interrupts has a bit exactly where the field of that bit is 1 in its word.
use Rattle.std.proofs.Common.{◌≡◌, ℕ, zero, suc, ◌+◌, ◌*◌, ◌/◌, ◌%◌, ◌^◌, ◌<◌, ◌≤◌, Bool, true, false, ap, ◌∙◌, arith}
use Rattle.std.specs.Prelude.{◌==◌}
use Rattle.std.specs.Int.RustNames.{bit_and}
use Rattle.std.proofs.lemmas.Bool.Decides.{nat_tests}
use Rattle.std.proofs.lemmas.Nat.{pow_pos}
use Rattle.std.proofs.lemmas.Nat.Bits.{and_pow}
use Rattle.dwc2_regs.specs.declared.TheConstants.{GINTSTS_USBRST, GINTSTS_ENUMDNE, DIEPINT_XFRC, DIEPINT_EPDISD, DOEPINT_XFRC, DOEPINT_EPDISD, DOEPINT_STUP}
use Rattle.dwc2_regs.specs.Field.{field_of}

by_bit : (b p : ℕ) → b < 2 → 0 < p → (b * p == p) ≡ (b == 1)
by_bit zero p h k = none p k
  where
    none : (p : ℕ) → 0 < p → (0 * p == p) ≡ false
    none p k = grind (arith, nat_tests)
by_bit (suc zero) p h k = all p
  where
    all : (p : ℕ) → (1 * p == p) ≡ true
    all p = grind (arith, nat_tests)
by_bit (suc (suc b)) p h k = absurd (omega arith)

pub contains_bit : (word k : ℕ) → (bit_and word (2 ^ k) == 2 ^ k) ≡ (word / 2 ^ k % 2 == 1)
contains_bit word k = ap (λ x. x == 2 ^ k) (and_pow word k) ∙ by_bit (word / 2 ^ k % 2) (2 ^ k) (omega arith) (pow_pos k)

pub contains_usbrst : (word : ℕ) → (bit_and word 0x1000 == 0x1000) ≡ (field_of word GINTSTS_USBRST == 1)
contains_usbrst word = contains_bit word 12

pub contains_enumdne : (word : ℕ) → (bit_and word 0x2000 == 0x2000) ≡ (field_of word GINTSTS_ENUMDNE == 1)
contains_enumdne word = contains_bit word 13

pub contains_xfrc : (word : ℕ) → (bit_and word 1 == 1) ≡ (field_of word DIEPINT_XFRC == 1)
contains_xfrc word = contains_bit word 0

pub contains_epdisd : (word : ℕ) → (bit_and word 2 == 2) ≡ (field_of word DIEPINT_EPDISD == 1)
contains_epdisd word = contains_bit word 1

pub contains_stup : (word : ℕ) → (bit_and word 8 == 8) ≡ (field_of word DOEPINT_STUP == 1)
contains_stup word = contains_bit word 3

pub ruleset interrupt_bits = (contains_usbrst, contains_enumdne, contains_xfrc, contains_epdisd, contains_stup)
