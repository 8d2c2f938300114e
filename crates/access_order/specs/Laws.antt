-- Laws over whole lists of accesses.
use Rattle.std.specs.Prelude.{◌≡◌, ◌≤◌, ℕ, ◌&&◌, true, false, List, [], ◌∷◌, ◌++◌, Some}
use Rattle.dwc2_regs.specs.declared.TheConstants.{GINTSTS_USBRST, DIEPCTL_CNAK, DIEPCTL_EPDIS, DIEPCTL_EPENA, DOEPCTL_EPENA}
use Rattle.dwc2_regs.specs.declared.access.Access.{Access}
use Rattle.dwc2_regs.specs.Register.{Register, register_at, offset_of, diepctl, diepint, dieptsiz, doepctl, doeptsiz, fifo}
use Rattle.access_order.specs.Order.{Order, in_of, is_set, are_ordered, order_after}

-- a list is in order exactly where its front is, and the rest is behind it
pub record Splits : Type 0 where
  pub ordered : (o : Order) (front rest : List Access) → are_ordered o (front ++ rest) ≡ (are_ordered o front && are_ordered (order_after o front) rest)
  pub state : (o : Order) (front rest : List Access) → order_after o (front ++ rest) ≡ order_after (order_after o front) rest

-- nothing follows the write that clears USBRST
abbrev pub WakesLast : Type 0
WakesLast =
    (o : Order) (front rest : List Access) (word : ℕ) → is_set word GINTSTS_USBRST ≡ true
    → are_ordered o (front ++ record { write = true; off = 0x14; value = word } ∷ rest) ≡ true → rest ≡ []

-- An endpoint's size is written between two of its enablings, whatever else is accessed between them.

-- no access of the list writes this register
abbrev pub Unwritten : Register → List Access → Type 0
Unwritten register [] = Unit {0}
Unwritten register (access ∷ accesses) = ((access.write ≡ true) → (register_at access.off ≡ Some register) → ⊥) × Unwritten register accesses

abbrev pub writes : Register → ℕ → Access
writes register word = record { write = true; off = offset_of register; value = word }

pub record SizesBetween (x : ℕ) : Type 0 where
  pub ins : (o : Order) (accesses : List Access) (first again : ℕ) → is_set first DIEPCTL_EPENA ≡ true → is_set again DIEPCTL_EPENA ≡ true → Unwritten (dieptsiz x) accesses
      → are_ordered o (writes (diepctl x) first ∷ accesses ++ writes (diepctl x) again ∷ []) ≡ false
  pub outs : (o : Order) (accesses : List Access) (first again : ℕ) → is_set first DOEPCTL_EPENA ≡ true → is_set again DOEPCTL_EPENA ≡ true → Unwritten (doeptsiz x) accesses
      → are_ordered o (writes (doepctl x) first ∷ accesses ++ writes (doepctl x) again ∷ []) ≡ false

-- of endpoints 0 to 11, which have registers
abbrev pub EnablingsWantSizes : Type 0
EnablingsWantSizes = (x : ℕ) → x ≤ 11 → SizesBetween x

-- Words come to an endpoint that wasn't enabled only where its control register was written.
abbrev pub WordsWantEnabling : Type 0
WordsWantEnabling =
    (x : ℕ) → x ≤ 11 → (o : Order) (accesses : List Access) (word : ℕ) → (in_of o x).enabled ≡ false → Unwritten (diepctl x) accesses
    → are_ordered o (accesses ++ writes (fifo x) word ∷ []) ≡ false

-- An enabled IN endpoint whose XFRC isn't known to be 0 is let answer, by CNAK, only where DIEPINTx was written.
abbrev pub AnsweringWantsClear : Type 0
AnsweringWantsClear =
    (x : ℕ) → x ≤ 11 → (o : Order) (accesses : List Access) (word : ℕ) → (in_of o x).clear ≡ false → Unwritten (diepint x) accesses
    → (in_of (order_after o accesses) x).enabled ≡ true → is_set word DIEPCTL_CNAK ≡ true → is_set word DIEPCTL_EPDIS ≡ false
    → are_ordered o (accesses ++ writes (diepctl x) word ∷ []) ≡ false
