-- The words that the driver writes to the registers of an OUT endpoint other than 0: DOEPCTLx, DOEPTSIZx and DOEPINTx.
use Rattle.std.specs.Prelude.{ℕ, ◌+◌, ◌*◌, ◌^◌, ◌&&◌, not, Bool, if◌then◌else◌, List, [], ◌∷◌}
use Rattle.usb_descriptor.specs.declared.endpoint.EpKind.{EpKind}
use Rattle.usb_descriptor.specs.declared.endpoint.EpKind.TheVariants.{Bulk, Interrupt}
use Rattle.usb_descriptor.specs.Set.{is_core}
use Rattle.dwc2_regs.specs.declared.bits.Field.{Field}
use Rattle.dwc2_regs.specs.declared.TheConstants.{DOEPCTL_USBAEP, DOEPCTL_TYPE, DOEPCTL_STALL, DOEPCTL_CNAK, DOEPCTL_SNAK, DOEPCTL_SD0PID, DOEPCTL_EPDIS, DOEPCTL_EPENA}
use Rattle.dwc2_regs.specs.declared.TheConstants.{DOEPTSIZ_COUNT, DOEPINT_XFRC, DOEPINT_EPDISD, DOEPINT_STUP}
use Rattle.endpoint_relation.specs.declared.out_.OutEndpoint.{OutEndpoint}

-- the word in which these bits alone are 1
abbrev pub ones : List Field → ℕ
ones [] = 0
ones (field ∷ fields) = 2 ^ field.low + ones fields

-- the transfer type of an endpoint
abbrev pub type_of : EpKind → ℕ
type_of Bulk = 2
type_of Interrupt = 3

-- a halt of an endpoint that a class serves is shown by STALL. The core keeps that of its endpoints in the software alone:
-- they answer NAK.
abbrev pub shows_stall : OutEndpoint → Bool
shows_stall s = s.halted && not (is_core s.endpoint.owner)

abbrev pub stall_if : Bool → ℕ
stall_if stalls = if stalls then ones (DOEPCTL_STALL ∷ []) else 0

-- what each write of DOEPCTLx carries, since these bits are kept as written: size, USBAEP, type and STALL
abbrev pub base : OutEndpoint → ℕ
base s = s.endpoint.size + ones (DOEPCTL_USBAEP ∷ []) + 2 ^ DOEPCTL_TYPE.low * type_of s.endpoint.kind + stall_if (shows_stall s)

-- and with it to arm it, to set DATA0, to open it
abbrev pub arm_word : OutEndpoint → ℕ
arm_word s = base s + ones (DOEPCTL_CNAK ∷ DOEPCTL_EPENA ∷ [])

abbrev pub data0_word : OutEndpoint → ℕ
data0_word s = base s + ones (DOEPCTL_SD0PID ∷ [])

abbrev pub open_word : OutEndpoint → ℕ
open_word s = base s + ones (DOEPCTL_SNAK ∷ DOEPCTL_SD0PID ∷ [])

-- one that isn't open has none of it
abbrev pub close_word : ℕ
close_word = ones (DOEPCTL_SNAK ∷ DOEPCTL_EPDIS ∷ [])

-- DOEPTSIZx for one packet of that many bytes
abbrev pub one_packet : ℕ → ℕ
one_packet size = size + ones (DOEPTSIZ_COUNT ∷ [])

-- DOEPINTx: a packet was moved, the endpoint was closed, and all of it
abbrev pub moved_bits : ℕ
moved_bits = ones (DOEPINT_XFRC ∷ [])

abbrev pub closed_bits : ℕ
closed_bits = ones (DOEPINT_XFRC ∷ DOEPINT_EPDISD ∷ [])

abbrev pub all_bits : ℕ
all_bits = ones (DOEPINT_XFRC ∷ DOEPINT_EPDISD ∷ DOEPINT_STUP ∷ [])
