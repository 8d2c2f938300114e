-- One access.
use Rattle.std.proofs.Common.{◌≡◌, ◌≤◌, ℕ, [], ◌∷◌, ◌++◌, true, false, refl, ap, ◌∙◌}
use Rattle.device_table.specs.Bank.{Bank, bank_read, bank_write}
use Rattle.device_table.specs.Read.{read_value}
use Rattle.dwc2_access.specs.Registers.{IsRegister}
use Rattle.dwc2_device.specs.Driver.{GoesOn, reads, writes, Wakes}

pub read_goes_on : (old new : Bank) (off : ℕ) → IsRegister off → 1 ≤ old.spare → new ≡ bank_read old off → GoesOn old new
read_goes_on old new off known some e start m = reads m off known some e

pub write_goes_on : (old new : Bank) (off word : ℕ) → IsRegister off → 1 ≤ old.spare → new ≡ bank_write old off word → GoesOn old new
write_goes_on old new off word known some e start m = writes m off word known some e

-- nothing is due after an access where nothing was
pub read_still : (old new : Bank) (off : ℕ) → old.due ≡ [] → new ≡ bank_read old off → new.due ≡ []
read_still old new off due e = ap (λ (b : Bank). b.due) e ∙ still old due where
  still : (b : Bank) → b.due ≡ [] → (bank_read b off).due ≡ []
  still b e = rw (e) refl

pub write_still : (old new : Bank) (off word : ℕ) → old.due ≡ [] → new ≡ bank_write old off word → new.due ≡ []
write_still old new off word due e = ap (λ (b : Bank). b.due) e ∙ still old due where
  still : (b : Bank) → b.due ≡ [] → (bank_write b off word).due ≡ []
  still b e = rw (e) refl

-- the list tells a read and a write
pub read_told : (old new : Bank) (off : ℕ) → old.due ≡ [] → new ≡ bank_read old off
    → new.log ≡ old.log ++ record { write = false; off = off; value = read_value old.table off } ∷ []
read_told old new off due e = ap (λ (b : Bank). b.log) e ∙ told old due where
  told : (b : Bank) → b.due ≡ [] → (bank_read b off).log ≡ b.log ++ record { write = false; off = off; value = read_value b.table off } ∷ []
  told b e = rw (e) refl

pub write_told : (old new : Bank) (off word : ℕ) → old.due ≡ [] → new ≡ bank_write old off word
    → new.log ≡ old.log ++ record { write = true; off = off; value = word } ∷ []
write_told old new off word due e = ap (λ (b : Bank). b.log) e ∙ told old due where
  told : (b : Bank) → b.due ≡ [] → (bank_write b off word).log ≡ b.log ++ record { write = true; off = off; value = word } ∷ []
  told b e = rw (e) refl

-- the write that ends a reset
pub wakes_last : (old new : Bank) → new.log ≡ old.log ++ record { write = true; off = 0x14; value = 0x3000 } ∷ [] → Wakes new
wakes_last old new e = record { before = old.log; last = e }
