-- The interrupt registers as sets: the name of each bit, and what it is worth.
use Rattle.std.specs.Prelude.{◌≡◌, ℕ, ◌^◌, List, [], ◌∷◌, codes, map, refl}
use Rattle.dwc2_regs.specs.declared.bits.Field.{Field}
use Rattle.dwc2_regs.specs.declared.TheConstants.{GINTSTS_RXFLVL, GINTSTS_USBRST, GINTSTS_ENUMDNE, GINTSTS_IEPINT, GINTSTS_OEPINT, GINTSTS_HPRTINT, GINTSTS_HCINT, GINTSTS_DISCINT, HCINT_XFRC, HCINT_CHH, HCINT_STALL, HCINT_NAK, HCINT_ACK, HCINT_TXERR, HCINT_DTERR, DOEPINT_XFRC, DIEPINT_EPDISD, DOEPINT_STUP, DIEPINT_TXFE}

-- what the bits of these fields are worth
abbrev pub worth_of : List Field → List ℕ
worth_of fields = map (λ field. 2 ^ field.low) fields

-- GINTSTS and GINTMSK
abbrev pub core_interrupts : List (List ℕ × ℕ)
core_interrupts =
    (codes "RXFLVL", 2 ^ 4)
    ∷ (codes "USBRST", 2 ^ 12)
    ∷ (codes "ENUMDNE", 2 ^ 13)
    ∷ (codes "IEPINT", 2 ^ 18)
    ∷ (codes "OEPINT", 2 ^ 19)
    ∷ (codes "HPRTINT", 2 ^ 24)
    ∷ (codes "HCINT", 2 ^ 25)
    ∷ (codes "DISCINT", 2 ^ 29)
    ∷ []

pub core_interrupts-fields :
    map (λ bit. bit.1) core_interrupts ≡ worth_of (GINTSTS_RXFLVL ∷ GINTSTS_USBRST ∷ GINTSTS_ENUMDNE ∷ GINTSTS_IEPINT ∷ GINTSTS_OEPINT ∷ GINTSTS_HPRTINT ∷ GINTSTS_HCINT ∷ GINTSTS_DISCINT ∷ [])
core_interrupts-fields = refl

-- HCINTx and HCINTMSKx
abbrev pub channel_interrupts : List (List ℕ × ℕ)
channel_interrupts =
    (codes "XFRC", 2 ^ 0)
    ∷ (codes "CHH", 2 ^ 1)
    ∷ (codes "STALL", 2 ^ 3)
    ∷ (codes "NAK", 2 ^ 4)
    ∷ (codes "ACK", 2 ^ 5)
    ∷ (codes "TXERR", 2 ^ 7)
    ∷ (codes "DTERR", 2 ^ 10)
    ∷ []

pub channel_interrupts-fields :
    map (λ bit. bit.1) channel_interrupts ≡ worth_of (HCINT_XFRC ∷ HCINT_CHH ∷ HCINT_STALL ∷ HCINT_NAK ∷ HCINT_ACK ∷ HCINT_TXERR ∷ HCINT_DTERR ∷ [])
channel_interrupts-fields = refl

-- DIEPINTx, DOEPINTx and their masks
abbrev pub endpoint_interrupts : List (List ℕ × ℕ)
endpoint_interrupts =
    (codes "XFRC", 2 ^ 0)
    ∷ (codes "EPDISD", 2 ^ 1)
    ∷ (codes "STUP", 2 ^ 3)
    ∷ (codes "TXFE", 2 ^ 7)
    ∷ []

pub endpoint_interrupts-fields :
    map (λ bit. bit.1) endpoint_interrupts ≡ worth_of (DOEPINT_XFRC ∷ DIEPINT_EPDISD ∷ DOEPINT_STUP ∷ DIEPINT_TXFE ∷ [])
endpoint_interrupts-fields = refl
