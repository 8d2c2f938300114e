-- What a write of each register changes.
use Rattle.std.specs.Prelude.{ℕ, ◌-◌, ◌==◌, ◌&&◌, ◌||◌, not, min, nat_lt, Bool, true, false, if◌then◌else◌, [], ◌∷◌, Option, Some, None, slice_set, is_some}
use Rattle.dwc2_regs.specs.declared.TheConstants.{GRSTCTL_RXFFLSH, GRSTCTL_TXFFLSH, GRSTCTL_TXFNUM, GINTSTS_DISCINT, HPRT_PCDET, HPRT_PENCHNG, HPRT_PRST, HCCHAR_CHDIS, HCCHAR_CHENA, HCINT_XFRC, HCINT_CHH, HCINT_STALL, HCINT_NAK, HCINT_ACK, HCINT_TXERR, HCINT_DTERR, DIEPCTL_EPDIS, DIEPINT_EPDISD}
use Rattle.dwc2_regs.specs.Field.{field_of}
use Rattle.dwc2_regs.specs.Register.{Register, register_at, grstctl, gintsts, gintmsk, grxstsr, grxstsp, grxfsiz, dieptxf0, hptxfsiz, hcfg, haint, haintmsk, hprt, dcfg, dctl, dsts, diepmsk, doepmsk, daint, daintmsk, diepempmsk, dieptxf, hcchar, hcint, hcintmsk, hctsiz, diepctl, diepint, dieptsiz, dtxfsts, doepctl, doepint, doeptsiz, fifo}
use Rattle.dwc2_fifo.specs.Words.{word_count}
use Rattle.dwc2_fifo.specs.Rx.{empty_of as rx_empty}
use Rattle.dwc2_fifo.specs.Tx.{Tx, Begun, space_of, begun_in, with_word, first_with, without_first, empty_of as tx_empty}
use Rattle.device_table.specs.Words.{flag, cleared}
use Rattle.device_table.specs.Write.{control_written}
use Rattle.host_table.specs.State.{Table, Port, Interrupts, Channel, DeviceEnd, channel_at, with_channel}
use Rattle.host_table.specs.Words.{port_bits, kept_bits, packet_size, transfer_size, is_periodic, is_nonperiodic}
use Rattle.host_table.specs.Read.{in_end, out_end}

-- GRSTCTL: RXFFLSH empties the receive FIFO, TXFFLSH the FIFO that TXFNUM names, 0 for the non-periodic one, 1 for the
-- periodic one, 16 for both. Both bits read 0, all else as written.

abbrev pub rx_flushed : Table → Bool → Table
rx_flushed t false = t
rx_flushed t true = record t { rx = rx_empty t.rx.depth }

abbrev pub emptied_if : Bool → Tx → Tx
emptied_if named tx = if named then tx_empty tx.depth else tx

abbrev pub tx_flushed : Table → Bool → ℕ → Table
tx_flushed t false number = t
tx_flushed t true number =
    record t {
      nonperiodic = emptied_if ((number == 0) || (number == 16)) t.nonperiodic;
      periodic = emptied_if ((number == 1) || (number == 16)) t.periodic;
    }

abbrev pub grstctl_written : Table → ℕ → Table
grstctl_written t word =
    let kept = record t.kept { grstctl = cleared word (GRSTCTL_RXFFLSH ∷ GRSTCTL_TXFFLSH ∷ []) } in
    tx_flushed (rx_flushed (record t { kept = kept }) (flag word GRSTCTL_RXFFLSH)) (flag word GRSTCTL_TXFFLSH) (field_of word GRSTCTL_TXFNUM)

-- GINTSTS: a 1 clears DISCINT
abbrev pub gintsts_written : Port → ℕ → Port
gintsts_written port word = record port { discint = port.discint && not (flag word GINTSTS_DISCINT) }

-- HPRT: a 1 clears PCDET and PENCHNG; PCSTS and PENA aren't written. PRST written 1 and then 0 with PCSTS drives a reset of
-- the port, which enables it and sets PENCHNG. The 1s act first.

abbrev pub drives_reset : Port → ℕ → Bool
drives_reset port word = flag port.kept HPRT_PRST && not (flag word HPRT_PRST) && port.pcsts

abbrev pub hprt_written : Port → ℕ → Port
hprt_written port word =
    record port {
      kept = port_bits word;
      pcdet = port.pcdet && not (flag word HPRT_PCDET);
      pena = port.pena || drives_reset port word;
      penchng = (port.penchng && not (flag word HPRT_PENCHNG)) || drives_reset port word;
      reset_driven = port.reset_driven || drives_reset port word;
    }

-- HCCHARx: CHENA enables the channel. CHDIS disables it and removes its packet from its transmit FIFO, whole or begun,
-- wherever it lies; CHDIS comes before CHENA. A written CHENA of 0 does nothing.

abbrev pub begun_without : ℕ → Option Begun → Option Begun
begun_without tag None = None
begun_without tag (Some begun) = if begun.tag == tag then None else Some begun

abbrev pub released : ℕ → Tx → Tx
released tag tx = record tx { packets = without_first tag tx.packets; unfinished = begun_without tag tx.unfinished }

abbrev pub packet_removed : Table → ℕ → Table
packet_removed t x = record t { nonperiodic = released x t.nonperiodic; periodic = released x t.periodic }

abbrev pub packet_removed_if : Bool → Table → ℕ → Table
packet_removed_if false t x = t
packet_removed_if true t x = packet_removed t x

abbrev pub channel_written : Channel → ℕ → Channel
channel_written channel word =
    record channel {
      kept = kept_bits word;
      enabled = (channel.enabled && not (flag word HCCHAR_CHDIS)) || flag word HCCHAR_CHENA;
    }

abbrev pub hcchar_written : Table → ℕ → ℕ → Table
hcchar_written t x word =
    with_channel (packet_removed_if (flag word HCCHAR_CHDIS) t x) x (channel_written (channel_at t x) word)

-- HCINTx: a 1 clears
abbrev pub interrupts_written : Interrupts → ℕ → Interrupts
interrupts_written it word =
    record {
      xfrc = it.xfrc && not (flag word HCINT_XFRC);
      chh = it.chh && not (flag word HCINT_CHH);
      stall = it.stall && not (flag word HCINT_STALL);
      nak = it.nak && not (flag word HCINT_NAK);
      ack = it.ack && not (flag word HCINT_ACK);
      txerr = it.txerr && not (flag word HCINT_TXERR);
      dterr = it.dterr && not (flag word HCINT_DTERR);
    }

-- Window x, where a word goes to the transmit FIFO of channel x's type, tagged with x. The channel has one packet at a time
-- there, with as many bytes as its transfer size says at the first word, at most the channel's size. A word is dropped where
-- no packet wants it, where its packet has no room, and where another channel's packet stands unfinished.

-- how many bytes the channel's packet has
abbrev pub packet_length : Channel → ℕ
packet_length channel = min (packet_size channel) (transfer_size channel)

-- no packet may begin where one of the channel stands, where it would have no bytes, and where its words have no room
abbrev pub may_begin : Channel → ℕ → Tx → Bool
may_begin channel x tx =
    not (is_some (first_with x tx.packets))
    && not (packet_length channel == 0)
    && not (nat_lt (space_of tx) (word_count (packet_length channel)))

abbrev pub word_pushed_to : Channel → ℕ → ℕ → Tx → Option Begun → Tx
word_pushed_to channel x word tx None =
    if may_begin channel x tx then with_word (begun_in tx x (packet_length channel)) word else tx
word_pushed_to channel x word tx (Some begun) = if begun.tag == x then with_word tx word else tx

abbrev pub word_pushed : Channel → ℕ → ℕ → Tx → Tx
word_pushed channel x word tx = word_pushed_to channel x word tx tx.unfinished

abbrev pub word_written : Table → ℕ → Channel → ℕ → Table
word_written t x channel word =
    if is_periodic channel then record t { periodic = word_pushed channel x word t.periodic }
    else if is_nonperiodic channel then record t { nonperiodic = word_pushed channel x word t.nonperiodic }
    else t

-- The device's registers: EPDIS sets EPDISD, and a 1 clears it. No SETUP lies in the receive FIFO, so CNAK acts.

abbrev pub end_control_written : DeviceEnd → ℕ → DeviceEnd
end_control_written end word =
    record end { control = control_written true end.control word; epdisd = end.epdisd || flag word DIEPCTL_EPDIS }

abbrev pub end_interrupts_written : DeviceEnd → ℕ → DeviceEnd
end_interrupts_written end word = record end { epdisd = end.epdisd && not (flag word DIEPINT_EPDISD) }

abbrev pub with_in : Table → ℕ → DeviceEnd → Table
with_in t x end = record t { device = record t.device { ins = slice_set t.device.ins x end } }

abbrev pub with_out : Table → ℕ → DeviceEnd → Table
with_out t x end = record t { device = record t.device { outs = slice_set t.device.outs x end } }

-- The write of each register. Status registers aren't written.

abbrev pub after_write : Table → Register → ℕ → Table
after_write t grstctl word = grstctl_written t word
after_write t gintsts word = record t { port = gintsts_written t.port word }
after_write t gintmsk word = record t { kept = record t.kept { gintmsk = word } }
after_write t grxstsr word = t
after_write t grxstsp word = t
after_write t grxfsiz word = record t { kept = record t.kept { grxfsiz = word } }
after_write t dieptxf0 word = record t { kept = record t.kept { dieptxf0 = word } }
after_write t hptxfsiz word = record t { host = record t.host { hptxfsiz = word } }
after_write t hcfg word = record t { host = record t.host { hcfg = word } }
after_write t haint word = t
after_write t haintmsk word = record t { host = record t.host { haintmsk = word } }
after_write t hprt word = record t { port = hprt_written t.port word }
after_write t dcfg word = record t { kept = record t.kept { dcfg = word } }
after_write t dctl word = record t { kept = record t.kept { dctl = word } }
after_write t dsts word = t
after_write t diepmsk word = record t { kept = record t.kept { diepmsk = word } }
after_write t doepmsk word = record t { kept = record t.kept { doepmsk = word } }
after_write t daint word = t
after_write t daintmsk word = record t { kept = record t.kept { daintmsk = word } }
after_write t diepempmsk word = record t { kept = record t.kept { diepempmsk = word } }
after_write t (dieptxf x) word = record t { kept = record t.kept { dieptxfs = slice_set t.kept.dieptxfs (x - 1) word } }
after_write t (hcchar x) word = hcchar_written t x word
after_write t (hcint x) word = with_channel t x (record (channel_at t x) { interrupts = interrupts_written (channel_at t x).interrupts word })
after_write t (hcintmsk x) word = with_channel t x (record (channel_at t x) { hcintmsk = word })
after_write t (hctsiz x) word = with_channel t x (record (channel_at t x) { hctsiz = word })
after_write t (diepctl x) word = with_in t x (end_control_written (in_end t x) word)
after_write t (diepint x) word = with_in t x (end_interrupts_written (in_end t x) word)
after_write t (dieptsiz x) word = with_in t x (record (in_end t x) { tsiz = word })
after_write t (dtxfsts x) word = t
after_write t (doepctl x) word = with_out t x (end_control_written (out_end t x) word)
after_write t (doepint x) word = with_out t x (end_interrupts_written (out_end t x) word)
after_write t (doeptsiz x) word = with_out t x (record (out_end t x) { tsiz = word })
after_write t (fifo x) word = word_written t x (channel_at t x) word

-- A write at an offset.

abbrev pub written_of : Table → Option Register → ℕ → Table
written_of t None word = t
written_of t (Some register) word = after_write t register word

abbrev pub write_table : Table → ℕ → ℕ → Table
write_table t off word = written_of t (register_at off) word
