-- The words that the driver writes to the registers of an IN endpoint other than 0 (RM0090, DIEPCTLx, DIEPTSIZx, DIEPINTx
-- and GRSTCTL).
use Rattle.std.specs.Prelude.{ℕ, ◌+◌, ◌*◌, ◌^◌, Bool, true, false, List, [], ◌∷◌}
use Rattle.usb_descriptor.specs.declared.endpoint.Endpoint.{Endpoint}
use Rattle.usb_descriptor.specs.declared.endpoint.EpKind.{EpKind}
use Rattle.usb_descriptor.specs.declared.endpoint.EpKind.TheVariants.{Bulk, Interrupt}
use Rattle.dwc2_regs.specs.declared.bits.Field.{Field}
use Rattle.dwc2_regs.specs.declared.TheConstants.{GRSTCTL_TXFFLSH, GRSTCTL_TXFNUM, DIEPCTL_USBAEP, DIEPCTL_TYPE, DIEPCTL_TXFNUM, DIEPCTL_STALL, DIEPCTL_CNAK, DIEPCTL_SNAK, DIEPCTL_SD0PID, DIEPCTL_EPDIS, DIEPCTL_EPENA}
use Rattle.dwc2_regs.specs.declared.TheConstants.{DIEPINT_XFRC, DIEPINT_EPDISD, DIEPTSIZ_COUNT}

-- the word in which these bits alone are 1
abbrev pub in_ones : List Field → ℕ
in_ones [] = 0
in_ones (field ∷ fields) = 2 ^ field.low + in_ones fields

-- the type of an endpoint: 2 is bulk, and 3 interrupt
abbrev pub in_type : EpKind → ℕ
in_type Bulk = 2
in_type Interrupt = 3

-- DIEPCTLx. An open endpoint has its size, USBAEP, its type and, as its FIFO, its own number.
abbrev pub in_open_bits : ℕ → Endpoint → ℕ
in_open_bits number e = e.size + 2 ^ DIEPCTL_USBAEP.low + 2 ^ DIEPCTL_TYPE.low * in_type e.kind + 2 ^ DIEPCTL_TXFNUM.low * number

abbrev pub in_stall_bit : Bool → ℕ
in_stall_bit true = 2 ^ DIEPCTL_STALL.low
in_stall_bit false = 0

-- what every write to an open endpoint carries. STALL is kept as written, so it stands in each
abbrev pub in_base : ℕ → Endpoint → Bool → ℕ
in_base number e stalls = in_open_bits number e + in_stall_bit stalls

-- the bits that act
abbrev pub in_cnak : ℕ
in_cnak = in_ones (DIEPCTL_CNAK ∷ [])

abbrev pub in_snak_epena : ℕ
in_snak_epena = in_ones (DIEPCTL_SNAK ∷ DIEPCTL_EPENA ∷ [])

abbrev pub in_snak_epdis : ℕ
in_snak_epdis = in_ones (DIEPCTL_SNAK ∷ DIEPCTL_EPDIS ∷ [])

abbrev pub in_snak_sd0pid : ℕ
in_snak_sd0pid = in_ones (DIEPCTL_SNAK ∷ DIEPCTL_SD0PID ∷ [])

abbrev pub in_snak_sd0pid_epdis : ℕ
in_snak_sd0pid_epdis = in_ones (DIEPCTL_SNAK ∷ DIEPCTL_SD0PID ∷ DIEPCTL_EPDIS ∷ [])

-- DIEPTSIZx: the bytes, and how many packets they are
abbrev pub in_size_word : ℕ → ℕ → ℕ
in_size_word packets bytes = 2 ^ DIEPTSIZ_COUNT.low * packets + bytes

-- DIEPINTx
abbrev pub in_xfrc : ℕ
in_xfrc = in_ones (DIEPINT_XFRC ∷ [])

abbrev pub in_both : ℕ
in_both = in_ones (DIEPINT_XFRC ∷ DIEPINT_EPDISD ∷ [])

-- GRSTCTL: TXFFLSH of one FIFO
abbrev pub in_flush : ℕ → ℕ
in_flush number = in_ones (GRSTCTL_TXFFLSH ∷ []) + 2 ^ GRSTCTL_TXFNUM.low * number
