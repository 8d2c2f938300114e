-- The driver with its controller, and how the controller moves.
use Rattle.std.specs.Prelude.{◌≡◌, ◌≤◌, ℕ, ◌+◌, List, [], ◌∷◌, ◌++◌, true}
use Rattle.dwc2_regs.specs.declared.access.Access.{Access}
use Rattle.device_table.specs.Bank.{Bank, bank_read, bank_write}
use Rattle.dwc2_access.specs.Registers.{IsRegister}
use Rattle.device_rings.specs.Rings.{Rings}
use Rattle.device_relation.specs.Software.{Software, Joint}
use Rattle.device_relation.specs.Run.{Whole}

pub record Driver : Type 0 where
  pub bank : Bank
  pub software : Software

abbrev pub joint : Driver → Joint
joint d = record { table = d.bank.table; software = d.software }

-- and with the rings
abbrev pub whole : Driver → Rings → Whole
whole d r = record { joint = joint d; rings = r }

-- a bank comes from another by accesses to registers, each of which was allowed
pub data Moves : Bank → Bank → Type 0 where
  stays : {a : Bank} → Moves a a
  reads : {a b c : Bank} → Moves a b → (off : ℕ) → IsRegister off → 1 ≤ b.spare → c ≡ bank_read b off → Moves a c
  writes : {a b c : Bank} → Moves a b → (off word : ℕ) → IsRegister off → 1 ≤ b.spare → c ≡ bank_write b off word → Moves a c

-- what moved to the old bank moved to the new one
abbrev pub GoesOn : Bank → Bank → Type 0
GoesOn old new = (start : Bank) → Moves start old → Moves start new

-- what a call needs of the controller: so many accesses may be made, and nothing is due on the bus
abbrev pub Has : ℕ → Bank → Type 0
Has n bank = (n ≤ bank.spare) × (bank.due ≡ [])

-- what it makes of it: at most so many accesses were made, nothing is due, and the controller moved by accesses alone
abbrev pub Spends : ℕ → Bank → Bank → Type 0
Spends n old new = (old.spare ≤ new.spare + n) × (new.due ≡ []) × GoesOn old new

-- The last access was the write of GINTSTS that clears USBRST and ENUMDNE, with which the device wakes: so all that a reset
-- has to close and to empty was closed and emptied before.
pub record Wakes (bank : Bank) : Type 0 where
  pub before : List Access
  pub last : bank.log ≡ before ++ record { write = true; off = 0x14; value = 0x3000 } ∷ []
