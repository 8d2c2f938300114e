-- Bits and fields of the words that the host's registers show and take.
use Rattle.std.specs.Prelude.{ℕ, ◌/◌, ◌%◌, ◌^◌, ◌==◌, ◌&&◌, ◌||◌, not, Bool, [], ◌∷◌, if◌then◌else◌}
use Rattle.usb_packet.specs.declared.bus.Toggle.{Toggle}
use Rattle.usb_packet.specs.declared.bus.Toggle.TheVariants.{D0, D1}
use Rattle.dwc2_regs.specs.declared.TheConstants.{HPRT_PCSTS, HPRT_PCDET, HPRT_PENA, HPRT_PENCHNG, HCCHAR_SIZE, HCCHAR_ENDPOINT, HCCHAR_IN, HCCHAR_TYPE, HCCHAR_ADDRESS, HCCHAR_CHDIS, HCCHAR_CHENA, HCINT_XFRC, HCINT_CHH, HCINT_STALL, HCINT_NAK, HCINT_ACK, HCINT_TXERR, HCINT_DTERR, HCTSIZ_SIZE, HCTSIZ_PID}
use Rattle.dwc2_regs.specs.Field.{field_of}
use Rattle.device_table.specs.Words.{flag, with_flag, cleared, size_counted}
use Rattle.host_table.specs.State.{Interrupts, Channel, Port}

-- HPRT.

-- the bits that are kept as written: all but PCSTS, PCDET, PENA and PENCHNG
abbrev pub port_bits : ℕ → ℕ
port_bits word = cleared word (HPRT_PCSTS ∷ HPRT_PCDET ∷ HPRT_PENA ∷ HPRT_PENCHNG ∷ [])

abbrev pub port_word : Port → ℕ
port_word port =
    with_flag (with_flag (with_flag (with_flag port.kept HPRT_PCSTS port.pcsts) HPRT_PCDET port.pcdet) HPRT_PENA port.pena) HPRT_PENCHNG port.penchng

-- HCINTx.

abbrev pub interrupts_word : Interrupts → ℕ
interrupts_word it =
    with_flag (with_flag (with_flag (with_flag (with_flag (with_flag (with_flag 0
    HCINT_XFRC it.xfrc)
    HCINT_CHH it.chh)
    HCINT_STALL it.stall)
    HCINT_NAK it.nak)
    HCINT_ACK it.ack)
    HCINT_TXERR it.txerr)
    HCINT_DTERR it.dterr

-- HCCHARx.

-- the bits that are kept as written: all but CHENA, which is state, and CHDIS, which acts and reads 0
abbrev pub kept_bits : ℕ → ℕ
kept_bits word = cleared word (HCCHAR_CHDIS ∷ HCCHAR_CHENA ∷ [])

abbrev pub channel_word : Channel → ℕ
channel_word channel = with_flag channel.kept HCCHAR_CHENA channel.enabled

-- a channel's size in bytes, where 0 and what is above 64 counts as 64
abbrev pub packet_size : Channel → ℕ
packet_size channel = size_counted (field_of channel.kept HCCHAR_SIZE)

-- the data goes to the host
abbrev pub is_in : Channel → Bool
is_in channel = flag channel.kept HCCHAR_IN

-- the transfer type: control 0, bulk 2 and interrupt 3
abbrev pub type_of : Channel → ℕ
type_of channel = field_of channel.kept HCCHAR_TYPE

-- control and bulk channels send through the non-periodic FIFO, interrupt channels through the periodic one
abbrev pub is_nonperiodic : Channel → Bool
is_nonperiodic channel = (type_of channel == 0) || (type_of channel == 2)

abbrev pub is_periodic : Channel → Bool
is_periodic channel = type_of channel == 3

-- whether it is a channel to that device, and to that endpoint by its address, where bit 7 says that the data goes to the
-- host
abbrev pub speaks_to : ℕ → ℕ → Channel → Bool
speaks_to addr ep channel =
    (field_of channel.kept HCCHAR_ADDRESS == addr)
    && (field_of channel.kept HCCHAR_ENDPOINT == ep % 2 ^ 7)
    && (field_of channel.kept HCCHAR_IN == ep / 2 ^ 7)

-- HCTSIZx.

-- the bytes of its packet
abbrev pub transfer_size : Channel → ℕ
transfer_size channel = field_of channel.hctsiz HCTSIZ_SIZE

-- the PID 3 to a device is that of a SETUP
abbrev pub setup_pid : ℕ
setup_pid = 3

abbrev pub is_setup : Channel → Bool
is_setup channel = not (is_in channel) && (field_of channel.hctsiz HCTSIZ_PID == setup_pid)

-- the toggle of its packet: 2 is DATA1
abbrev pub toggle_of : Channel → Toggle
toggle_of channel = if field_of channel.hctsiz HCTSIZ_PID == 2 then D1 else D0
