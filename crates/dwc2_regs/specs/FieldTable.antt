-- The fields of each register, as its description lists them, and that they lie in the word and share no bit.
use Rattle.std.specs.Prelude.{◌≡◌, ℕ, ◌+◌, ◌-◌, nat_le, Bool, true, ◌&&◌, ◌||◌, List, [], ◌∷◌, refl}
use Rattle.dwc2_regs.specs.declared.bits.Field.{Field}
use Rattle.dwc2_regs.specs.declared.TheConstants.{GRSTCTL_RXFFLSH, GRSTCTL_TXFFLSH, GRSTCTL_TXFNUM, GINTSTS_RXFLVL, GINTSTS_USBRST, GINTSTS_ENUMDNE, GINTSTS_IEPINT, GINTSTS_OEPINT, GINTSTS_HPRTINT, GINTSTS_HCINT, GINTSTS_DISCINT, GINTMSK_RXFLVL, GINTMSK_USBRST, GINTMSK_ENUMDNE, GINTMSK_IEPINT, GINTMSK_OEPINT, GINTMSK_HPRTINT, GINTMSK_HCINT, GINTMSK_DISCINT, GRXSTSR_NUMBER, GRXSTSR_BYTES, GRXSTSR_PID, GRXSTSR_STATUS, GRXSTSP_NUMBER, GRXSTSP_BYTES, GRXSTSP_PID, GRXSTSP_STATUS, GRXFSIZ_DEPTH, DIEPTXF0_START, DIEPTXF0_DEPTH, HNPTXFSIZ_START, HNPTXFSIZ_DEPTH, HPTXFSIZ_START, HPTXFSIZ_DEPTH, DIEPTXF_START, DIEPTXF_DEPTH, HCFG_FSLSPCS, HCFG_FSLSS, HAINT_CHANNELS, HAINTMSK_CHANNELS, HPRT_PCSTS, HPRT_PCDET, HPRT_PENA, HPRT_PENCHNG, HPRT_PRST, HPRT_PPWR, HCCHAR_SIZE, HCCHAR_ENDPOINT, HCCHAR_IN, HCCHAR_TYPE, HCCHAR_ADDRESS, HCCHAR_CHDIS, HCCHAR_CHENA, HCINT_XFRC, HCINT_CHH, HCINT_STALL, HCINT_NAK, HCINT_ACK, HCINT_TXERR, HCINT_DTERR, HCINTMSK_XFRC, HCINTMSK_CHH, HCINTMSK_STALL, HCINTMSK_NAK, HCINTMSK_ACK, HCINTMSK_TXERR, HCINTMSK_DTERR, HCTSIZ_SIZE, HCTSIZ_COUNT, HCTSIZ_PID, DCFG_ADDRESS, DAINT_IN, DAINT_OUT, DAINTMSK_IN, DAINTMSK_OUT, DIEPCTL0_SIZE, DOEPCTL0_SIZE, DIEPCTL_SIZE, DIEPCTL_USBAEP, DIEPCTL_NAKSTS, DIEPCTL_TYPE, DIEPCTL_STALL, DIEPCTL_TXFNUM, DIEPCTL_CNAK, DIEPCTL_SNAK, DIEPCTL_SD0PID, DIEPCTL_EPDIS, DIEPCTL_EPENA, DOEPCTL_SIZE, DOEPCTL_USBAEP, DOEPCTL_NAKSTS, DOEPCTL_TYPE, DOEPCTL_STALL, DOEPCTL_CNAK, DOEPCTL_SNAK, DOEPCTL_SD0PID, DOEPCTL_EPDIS, DOEPCTL_EPENA, DIEPINT_XFRC, DIEPINT_EPDISD, DIEPINT_TXFE, DOEPINT_XFRC, DOEPINT_EPDISD, DOEPINT_STUP, DIEPTSIZ_SIZE, DIEPTSIZ_COUNT, DOEPTSIZ_SIZE, DOEPTSIZ_COUNT, DIEPTSIZ0_SIZE, DIEPTSIZ0_COUNT, DOEPTSIZ0_SIZE, DOEPTSIZ0_COUNT, DOEPTSIZ0_STUPCNT, DTXFSTS_FREE}

-- the bits from one down to another, and a single bit
abbrev pub bits : ℕ → ℕ → Field
bits high low = record { low = low; width = high - low + 1 }

abbrev pub bit : ℕ → Field
bit place = bits place place

-- the two fields have no bit in common
abbrev pub are_apart : Field → Field → Bool
are_apart a b = nat_le (a.low + a.width) b.low || nat_le (b.low + b.width) a.low

abbrev pub is_apart_from : Field → List Field → Bool
is_apart_from field [] = true
is_apart_from field (other ∷ others) = are_apart field other && is_apart_from field others

-- the fields lie in a word of 32 bits, each with a bit at least, and no two have a bit in common
abbrev pub are_fields : List Field → Bool
are_fields [] = true
are_fields (field ∷ fields) =
    nat_le 1 field.width && nat_le (field.low + field.width) 32 && is_apart_from field fields && are_fields fields

-- GRSTCTL: RXFFLSH, TXFFLSH, TXFNUM
abbrev pub of_grstctl : List Field
of_grstctl = bit 4 ∷ bit 5 ∷ bits 10 6 ∷ []

pub of_grstctl-lie_apart : are_fields of_grstctl ≡ true
of_grstctl-lie_apart = refl

pub GRSTCTL-fields : GRSTCTL_RXFFLSH ∷ GRSTCTL_TXFFLSH ∷ GRSTCTL_TXFNUM ∷ [] ≡ of_grstctl
GRSTCTL-fields = refl

-- GINTSTS, GINTMSK: RXFLVL, USBRST, ENUMDNE, IEPINT, OEPINT, HPRTINT, HCINT, DISCINT
abbrev pub of_gintsts : List Field
of_gintsts = bit 4 ∷ bit 12 ∷ bit 13 ∷ bit 18 ∷ bit 19 ∷ bit 24 ∷ bit 25 ∷ bit 29 ∷ []

pub of_gintsts-lie_apart : are_fields of_gintsts ≡ true
of_gintsts-lie_apart = refl

pub GINTSTS-fields : GINTSTS_RXFLVL ∷ GINTSTS_USBRST ∷ GINTSTS_ENUMDNE ∷ GINTSTS_IEPINT ∷ GINTSTS_OEPINT ∷ GINTSTS_HPRTINT ∷ GINTSTS_HCINT ∷ GINTSTS_DISCINT ∷ [] ≡ of_gintsts
GINTSTS-fields = refl

pub GINTMSK-fields : GINTMSK_RXFLVL ∷ GINTMSK_USBRST ∷ GINTMSK_ENUMDNE ∷ GINTMSK_IEPINT ∷ GINTMSK_OEPINT ∷ GINTMSK_HPRTINT ∷ GINTMSK_HCINT ∷ GINTMSK_DISCINT ∷ [] ≡ of_gintsts
GINTMSK-fields = refl

-- GRXSTSR, GRXSTSP: NUMBER, BYTES, PID, STATUS
abbrev pub of_grxstsr : List Field
of_grxstsr = bits 3 0 ∷ bits 14 4 ∷ bits 16 15 ∷ bits 20 17 ∷ []

pub of_grxstsr-lie_apart : are_fields of_grxstsr ≡ true
of_grxstsr-lie_apart = refl

pub GRXSTSR-fields : GRXSTSR_NUMBER ∷ GRXSTSR_BYTES ∷ GRXSTSR_PID ∷ GRXSTSR_STATUS ∷ [] ≡ of_grxstsr
GRXSTSR-fields = refl

pub GRXSTSP-fields : GRXSTSP_NUMBER ∷ GRXSTSP_BYTES ∷ GRXSTSP_PID ∷ GRXSTSP_STATUS ∷ [] ≡ of_grxstsr
GRXSTSP-fields = refl

-- GRXFSIZ: DEPTH
abbrev pub of_grxfsiz : List Field
of_grxfsiz = bits 15 0 ∷ []

pub of_grxfsiz-lie_apart : are_fields of_grxfsiz ≡ true
of_grxfsiz-lie_apart = refl

pub GRXFSIZ-fields : GRXFSIZ_DEPTH ∷ [] ≡ of_grxfsiz
GRXFSIZ-fields = refl

-- DIEPTXF0, HNPTXFSIZ, HPTXFSIZ, DIEPTXF: START, DEPTH
abbrev pub of_dieptxf0 : List Field
of_dieptxf0 = bits 15 0 ∷ bits 31 16 ∷ []

pub of_dieptxf0-lie_apart : are_fields of_dieptxf0 ≡ true
of_dieptxf0-lie_apart = refl

pub DIEPTXF0-fields : DIEPTXF0_START ∷ DIEPTXF0_DEPTH ∷ [] ≡ of_dieptxf0
DIEPTXF0-fields = refl

pub HNPTXFSIZ-fields : HNPTXFSIZ_START ∷ HNPTXFSIZ_DEPTH ∷ [] ≡ of_dieptxf0
HNPTXFSIZ-fields = refl

pub HPTXFSIZ-fields : HPTXFSIZ_START ∷ HPTXFSIZ_DEPTH ∷ [] ≡ of_dieptxf0
HPTXFSIZ-fields = refl

pub DIEPTXF-fields : DIEPTXF_START ∷ DIEPTXF_DEPTH ∷ [] ≡ of_dieptxf0
DIEPTXF-fields = refl

-- HCFG: FSLSPCS, FSLSS
abbrev pub of_hcfg : List Field
of_hcfg = bits 1 0 ∷ bit 2 ∷ []

pub of_hcfg-lie_apart : are_fields of_hcfg ≡ true
of_hcfg-lie_apart = refl

pub HCFG-fields : HCFG_FSLSPCS ∷ HCFG_FSLSS ∷ [] ≡ of_hcfg
HCFG-fields = refl

-- HAINT, HAINTMSK: CHANNELS
abbrev pub of_haint : List Field
of_haint = bits 15 0 ∷ []

pub of_haint-lie_apart : are_fields of_haint ≡ true
of_haint-lie_apart = refl

pub HAINT-fields : HAINT_CHANNELS ∷ [] ≡ of_haint
HAINT-fields = refl

pub HAINTMSK-fields : HAINTMSK_CHANNELS ∷ [] ≡ of_haint
HAINTMSK-fields = refl

-- HPRT: PCSTS, PCDET, PENA, PENCHNG, PRST, PPWR
abbrev pub of_hprt : List Field
of_hprt = bit 0 ∷ bit 1 ∷ bit 2 ∷ bit 3 ∷ bit 8 ∷ bit 12 ∷ []

pub of_hprt-lie_apart : are_fields of_hprt ≡ true
of_hprt-lie_apart = refl

pub HPRT-fields : HPRT_PCSTS ∷ HPRT_PCDET ∷ HPRT_PENA ∷ HPRT_PENCHNG ∷ HPRT_PRST ∷ HPRT_PPWR ∷ [] ≡ of_hprt
HPRT-fields = refl

-- HCCHAR: SIZE, ENDPOINT, IN, TYPE, ADDRESS, CHDIS, CHENA
abbrev pub of_hcchar : List Field
of_hcchar = bits 10 0 ∷ bits 14 11 ∷ bit 15 ∷ bits 19 18 ∷ bits 28 22 ∷ bit 30 ∷ bit 31 ∷ []

pub of_hcchar-lie_apart : are_fields of_hcchar ≡ true
of_hcchar-lie_apart = refl

pub HCCHAR-fields : HCCHAR_SIZE ∷ HCCHAR_ENDPOINT ∷ HCCHAR_IN ∷ HCCHAR_TYPE ∷ HCCHAR_ADDRESS ∷ HCCHAR_CHDIS ∷ HCCHAR_CHENA ∷ [] ≡ of_hcchar
HCCHAR-fields = refl

-- HCINT, HCINTMSK: XFRC, CHH, STALL, NAK, ACK, TXERR, DTERR
abbrev pub of_hcint : List Field
of_hcint = bit 0 ∷ bit 1 ∷ bit 3 ∷ bit 4 ∷ bit 5 ∷ bit 7 ∷ bit 10 ∷ []

pub of_hcint-lie_apart : are_fields of_hcint ≡ true
of_hcint-lie_apart = refl

pub HCINT-fields : HCINT_XFRC ∷ HCINT_CHH ∷ HCINT_STALL ∷ HCINT_NAK ∷ HCINT_ACK ∷ HCINT_TXERR ∷ HCINT_DTERR ∷ [] ≡ of_hcint
HCINT-fields = refl

pub HCINTMSK-fields : HCINTMSK_XFRC ∷ HCINTMSK_CHH ∷ HCINTMSK_STALL ∷ HCINTMSK_NAK ∷ HCINTMSK_ACK ∷ HCINTMSK_TXERR ∷ HCINTMSK_DTERR ∷ [] ≡ of_hcint
HCINTMSK-fields = refl

-- HCTSIZ: SIZE, COUNT, PID
abbrev pub of_hctsiz : List Field
of_hctsiz = bits 18 0 ∷ bits 28 19 ∷ bits 30 29 ∷ []

pub of_hctsiz-lie_apart : are_fields of_hctsiz ≡ true
of_hctsiz-lie_apart = refl

pub HCTSIZ-fields : HCTSIZ_SIZE ∷ HCTSIZ_COUNT ∷ HCTSIZ_PID ∷ [] ≡ of_hctsiz
HCTSIZ-fields = refl

-- DCFG: ADDRESS
abbrev pub of_dcfg : List Field
of_dcfg = bits 10 4 ∷ []

pub of_dcfg-lie_apart : are_fields of_dcfg ≡ true
of_dcfg-lie_apart = refl

pub DCFG-fields : DCFG_ADDRESS ∷ [] ≡ of_dcfg
DCFG-fields = refl

-- DAINT, DAINTMSK: IN, OUT
abbrev pub of_daint : List Field
of_daint = bits 15 0 ∷ bits 31 16 ∷ []

pub of_daint-lie_apart : are_fields of_daint ≡ true
of_daint-lie_apart = refl

pub DAINT-fields : DAINT_IN ∷ DAINT_OUT ∷ [] ≡ of_daint
DAINT-fields = refl

pub DAINTMSK-fields : DAINTMSK_IN ∷ DAINTMSK_OUT ∷ [] ≡ of_daint
DAINTMSK-fields = refl

-- DIEPCTL0: SIZE
abbrev pub of_diepctl0 : List Field
of_diepctl0 = bits 1 0 ∷ []

pub of_diepctl0-lie_apart : are_fields of_diepctl0 ≡ true
of_diepctl0-lie_apart = refl

pub DIEPCTL0-fields : DIEPCTL0_SIZE ∷ [] ≡ of_diepctl0
DIEPCTL0-fields = refl

-- DOEPCTL0: SIZE
abbrev pub of_doepctl0 : List Field
of_doepctl0 = bits 1 0 ∷ []

pub of_doepctl0-lie_apart : are_fields of_doepctl0 ≡ true
of_doepctl0-lie_apart = refl

pub DOEPCTL0-fields : DOEPCTL0_SIZE ∷ [] ≡ of_doepctl0
DOEPCTL0-fields = refl

-- DIEPCTL: SIZE, USBAEP, NAKSTS, TYPE, STALL, TXFNUM, CNAK, SNAK, SD0PID, EPDIS, EPENA
abbrev pub of_diepctl : List Field
of_diepctl = bits 10 0 ∷ bit 15 ∷ bit 17 ∷ bits 19 18 ∷ bit 21 ∷ bits 25 22 ∷ bit 26 ∷ bit 27 ∷ bit 28 ∷ bit 30 ∷ bit 31 ∷ []

pub of_diepctl-lie_apart : are_fields of_diepctl ≡ true
of_diepctl-lie_apart = refl

pub DIEPCTL-fields : DIEPCTL_SIZE ∷ DIEPCTL_USBAEP ∷ DIEPCTL_NAKSTS ∷ DIEPCTL_TYPE ∷ DIEPCTL_STALL ∷ DIEPCTL_TXFNUM ∷ DIEPCTL_CNAK ∷ DIEPCTL_SNAK ∷ DIEPCTL_SD0PID ∷ DIEPCTL_EPDIS ∷ DIEPCTL_EPENA ∷ [] ≡ of_diepctl
DIEPCTL-fields = refl

-- DOEPCTL: SIZE, USBAEP, NAKSTS, TYPE, STALL, CNAK, SNAK, SD0PID, EPDIS, EPENA
abbrev pub of_doepctl : List Field
of_doepctl = bits 10 0 ∷ bit 15 ∷ bit 17 ∷ bits 19 18 ∷ bit 21 ∷ bit 26 ∷ bit 27 ∷ bit 28 ∷ bit 30 ∷ bit 31 ∷ []

pub of_doepctl-lie_apart : are_fields of_doepctl ≡ true
of_doepctl-lie_apart = refl

pub DOEPCTL-fields : DOEPCTL_SIZE ∷ DOEPCTL_USBAEP ∷ DOEPCTL_NAKSTS ∷ DOEPCTL_TYPE ∷ DOEPCTL_STALL ∷ DOEPCTL_CNAK ∷ DOEPCTL_SNAK ∷ DOEPCTL_SD0PID ∷ DOEPCTL_EPDIS ∷ DOEPCTL_EPENA ∷ [] ≡ of_doepctl
DOEPCTL-fields = refl

-- DIEPINT: XFRC, EPDISD, TXFE
abbrev pub of_diepint : List Field
of_diepint = bit 0 ∷ bit 1 ∷ bit 7 ∷ []

pub of_diepint-lie_apart : are_fields of_diepint ≡ true
of_diepint-lie_apart = refl

pub DIEPINT-fields : DIEPINT_XFRC ∷ DIEPINT_EPDISD ∷ DIEPINT_TXFE ∷ [] ≡ of_diepint
DIEPINT-fields = refl

-- DOEPINT: XFRC, EPDISD, STUP
abbrev pub of_doepint : List Field
of_doepint = bit 0 ∷ bit 1 ∷ bit 3 ∷ []

pub of_doepint-lie_apart : are_fields of_doepint ≡ true
of_doepint-lie_apart = refl

pub DOEPINT-fields : DOEPINT_XFRC ∷ DOEPINT_EPDISD ∷ DOEPINT_STUP ∷ [] ≡ of_doepint
DOEPINT-fields = refl

-- DIEPTSIZ, DOEPTSIZ: SIZE, COUNT
abbrev pub of_dieptsiz : List Field
of_dieptsiz = bits 18 0 ∷ bits 28 19 ∷ []

pub of_dieptsiz-lie_apart : are_fields of_dieptsiz ≡ true
of_dieptsiz-lie_apart = refl

pub DIEPTSIZ-fields : DIEPTSIZ_SIZE ∷ DIEPTSIZ_COUNT ∷ [] ≡ of_dieptsiz
DIEPTSIZ-fields = refl

pub DOEPTSIZ-fields : DOEPTSIZ_SIZE ∷ DOEPTSIZ_COUNT ∷ [] ≡ of_dieptsiz
DOEPTSIZ-fields = refl

-- DIEPTSIZ0: SIZE, COUNT
abbrev pub of_dieptsiz0 : List Field
of_dieptsiz0 = bits 6 0 ∷ bits 20 19 ∷ []

pub of_dieptsiz0-lie_apart : are_fields of_dieptsiz0 ≡ true
of_dieptsiz0-lie_apart = refl

pub DIEPTSIZ0-fields : DIEPTSIZ0_SIZE ∷ DIEPTSIZ0_COUNT ∷ [] ≡ of_dieptsiz0
DIEPTSIZ0-fields = refl

-- DOEPTSIZ0: SIZE, COUNT, STUPCNT
abbrev pub of_doeptsiz0 : List Field
of_doeptsiz0 = bits 6 0 ∷ bit 19 ∷ bits 30 29 ∷ []

pub of_doeptsiz0-lie_apart : are_fields of_doeptsiz0 ≡ true
of_doeptsiz0-lie_apart = refl

pub DOEPTSIZ0-fields : DOEPTSIZ0_SIZE ∷ DOEPTSIZ0_COUNT ∷ DOEPTSIZ0_STUPCNT ∷ [] ≡ of_doeptsiz0
DOEPTSIZ0-fields = refl

-- DTXFSTS: FREE
abbrev pub of_dtxfsts : List Field
of_dtxfsts = bits 15 0 ∷ []

pub of_dtxfsts-lie_apart : are_fields of_dtxfsts ≡ true
of_dtxfsts-lie_apart = refl

pub DTXFSTS-fields : DTXFSTS_FREE ∷ [] ≡ of_dtxfsts
DTXFSTS-fields = refl
