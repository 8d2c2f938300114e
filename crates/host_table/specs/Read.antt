-- What a read of each register gives, and what it changes.
use Rattle.std.specs.Prelude.{ℕ, zero, suc, ◌-◌, ◌==◌, ◌&&◌, ◌||◌, Bool, true, if◌then◌else◌, List, [], ◌∷◌, Option, Some, None, slice_index, slice_index_or}
use Rattle.dwc2_regs.specs.declared.TheConstants.{GINTSTS_RXFLVL, GINTSTS_IEPINT, GINTSTS_OEPINT, GINTSTS_HPRTINT, GINTSTS_HCINT, GINTSTS_DISCINT, HAINT_CHANNELS, HCINT_XFRC, HCINT_CHH, HCINT_STALL, HCINT_NAK, HCINT_ACK, HCINT_TXERR, HCINT_DTERR, DAINT_IN, DAINT_OUT, DIEPINT_EPDISD, DOEPINT_EPDISD}
use Rattle.dwc2_regs.specs.Field.{with_field}
use Rattle.dwc2_regs.specs.Register.{Register, register_at, grstctl, gintsts, gintmsk, grxstsr, grxstsp, grxfsiz, dieptxf0, hptxfsiz, hcfg, haint, haintmsk, hprt, dcfg, dctl, dsts, diepmsk, doepmsk, daint, daintmsk, diepempmsk, dieptxf, hcchar, hcint, hcintmsk, hctsiz, diepctl, diepint, dieptsiz, dtxfsts, doepctl, doepint, doeptsiz, fifo}
use Rattle.dwc2_fifo.specs.Rx.{Entry, first_status, popped, first_word, word_taken}
use Rattle.device_table.specs.Words.{flag, with_flag, control_word, out_done, kind_of, number_of}
use Rattle.device_table.specs.Read.{number_of_bits, any_under, has_entry}
use Rattle.host_table.specs.State.{Table, Channel, Port, Interrupts, DeviceEnd, no_end, channel_at, with_channel}
use Rattle.host_table.specs.Words.{port_word, interrupts_word, channel_word}

-- Interrupts of the channels.

-- an interrupt of the channel is 1 under HCINTMSKx
abbrev pub any_interrupt : Interrupts → ℕ → Bool
any_interrupt it mask =
    (it.xfrc && flag mask HCINT_XFRC)
    || (it.chh && flag mask HCINT_CHH)
    || (it.stall && flag mask HCINT_STALL)
    || (it.nak && flag mask HCINT_NAK)
    || (it.ack && flag mask HCINT_ACK)
    || (it.txerr && flag mask HCINT_TXERR)
    || (it.dterr && flag mask HCINT_DTERR)

abbrev pub channel_interrupts : Channel → Bool
channel_interrupts channel = any_interrupt channel.interrupts channel.hcintmsk

abbrev pub channel_bits : List Channel → List Bool
channel_bits [] = []
channel_bits (channel ∷ channels) = channel_interrupts channel ∷ channel_bits channels

-- HAINT: the channels from bit 0 on
abbrev pub haint_word : Table → ℕ
haint_word t = with_field 0 HAINT_CHANNELS (number_of_bits (channel_bits t.channels))

-- HCINT of GINTSTS is 1 exactly where HAINT has a bit under HAINTMSK
abbrev pub channels_interrupt : Table → Bool
channels_interrupt t = any_under (channel_bits t.channels) t.host.haintmsk 0

-- Interrupts of the device's endpoints: of these alone EPDISD can be 1, since TXFE is 0 where an endpoint has no FIFO, and
-- XFRC and STUP come from the bus.

abbrev pub end_bits : ℕ → List DeviceEnd → List Bool
end_bits mask [] = []
end_bits mask (end ∷ ends) = (end.epdisd && flag mask DIEPINT_EPDISD) ∷ end_bits mask ends

abbrev pub in_bits : Table → List Bool
in_bits t = end_bits t.kept.diepmsk t.device.ins

abbrev pub out_bits : Table → List Bool
out_bits t = end_bits t.kept.doepmsk t.device.outs

abbrev pub daint_word : Table → ℕ
daint_word t = with_field (with_field 0 DAINT_IN (number_of_bits (in_bits t))) DAINT_OUT (number_of_bits (out_bits t))

-- Interrupts of the core.

-- RXFLVL is 1 exactly where the receive FIFO has an entry and no words of a popped one are left
abbrev pub rxflvl : Table → Bool
rxflvl t = has_entry t.rx.left t.rx.entries

-- HPRTINT is 1 exactly where PCDET or PENCHNG is
abbrev pub hprtint : Port → Bool
hprtint port = port.pcdet || port.penchng

-- GINTSTS; the device's USBRST and ENUMDNE stay 0 in host mode
abbrev pub gintsts_word : Table → ℕ
gintsts_word t =
    with_flag (with_flag (with_flag (with_flag (with_flag (with_flag 0
    GINTSTS_RXFLVL (rxflvl t))
    GINTSTS_IEPINT (any_under (in_bits t) t.kept.daintmsk 0))
    GINTSTS_OEPINT (any_under (out_bits t) t.kept.daintmsk 16))
    GINTSTS_HPRTINT (hprtint t.port))
    GINTSTS_HCINT (channels_interrupt t))
    GINTSTS_DISCINT t.port.discint

-- The value of each register.

abbrev pub in_end : Table → ℕ → DeviceEnd
in_end t x = slice_index_or t.device.ins x no_end

abbrev pub out_end : Table → ℕ → DeviceEnd
out_end t x = slice_index_or t.device.outs x no_end

abbrev pub value_read : Table → Register → ℕ
value_read t grstctl = t.kept.grstctl
value_read t gintsts = gintsts_word t
value_read t gintmsk = t.kept.gintmsk
-- GRXSTSR shows the front entry's status, and GRXSTSP takes it
value_read t grxstsr = first_status t.rx.entries
value_read t grxstsp = first_status t.rx.entries
value_read t grxfsiz = t.kept.grxfsiz
-- HNPTXFSIZ in host mode
value_read t dieptxf0 = t.kept.dieptxf0
value_read t hptxfsiz = t.host.hptxfsiz
value_read t hcfg = t.host.hcfg
value_read t haint = haint_word t
value_read t haintmsk = t.host.haintmsk
value_read t hprt = port_word t.port
value_read t dcfg = t.kept.dcfg
value_read t dctl = t.kept.dctl
-- the device status register isn't written
value_read t dsts = 0
value_read t diepmsk = t.kept.diepmsk
value_read t doepmsk = t.kept.doepmsk
value_read t daint = daint_word t
value_read t daintmsk = t.kept.daintmsk
value_read t diepempmsk = t.kept.diepempmsk
value_read t (dieptxf x) = slice_index t.kept.dieptxfs (x - 1)
value_read t (hcchar x) = channel_word (channel_at t x)
value_read t (hcint x) = interrupts_word (channel_at t x).interrupts
value_read t (hcintmsk x) = (channel_at t x).hcintmsk
value_read t (hctsiz x) = (channel_at t x).hctsiz
value_read t (diepctl x) = control_word (in_end t x).control
value_read t (diepint x) = with_flag 0 DIEPINT_EPDISD (in_end t x).epdisd
value_read t (dieptsiz x) = (in_end t x).tsiz
-- the endpoints have no FIFOs, so there are no free words
value_read t (dtxfsts x) = 0
value_read t (doepctl x) = control_word (out_end t x).control
value_read t (doepint x) = with_flag 0 DOEPINT_EPDISD (out_end t x).epdisd
value_read t (doeptsiz x) = (out_end t x).tsiz
-- window 0 gives the words of the popped entry, one by one; the windows from 1 on read 0
value_read t (fifo zero) = first_word t.rx.left
value_read t (fifo (suc x)) = 0

-- What a read changes.

-- the end of a transfer in: ACK, XFRC and CHH are set
abbrev pub received_all : Channel → Channel
received_all channel = record channel { interrupts = record channel.interrupts { ack = true; xfrc = true; chh = true } }

-- popping the end of a transfer sets them on its channel; popping data sets nothing
abbrev pub end_popped : Table → ℕ → Table
end_popped t status =
    if kind_of status == out_done
    then with_channel t (number_of status) (received_all (channel_at t (number_of status)))
    else t

-- GRXSTSP takes the front entry, and drops what is left of the words of the entry taken before; where there is none it
-- changes nothing
abbrev pub entry_popped : Table → List Entry → Table
entry_popped t [] = t
entry_popped t (entry ∷ entries) = end_popped (record t { rx = popped t.rx }) entry.status

abbrev pub after_read : Table → Register → Table
after_read t grxstsp = entry_popped t t.rx.entries
after_read t (fifo zero) = record t { rx = word_taken t.rx }
after_read t other = t

-- A read at an offset.

abbrev pub value_of : Table → Option Register → ℕ
value_of t None = 0
value_of t (Some register) = value_read t register

abbrev pub table_of : Table → Option Register → Table
table_of t None = t
table_of t (Some register) = after_read t register

abbrev pub read_value : Table → ℕ → ℕ
read_value t off = value_of t (register_at off)

abbrev pub read_table : Table → ℕ → Table
read_table t off = table_of t (register_at off)
