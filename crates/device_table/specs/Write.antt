-- What a write of each register changes.
use Rattle.std.specs.Prelude.{ℕ, zero, suc, ◌-◌, ◌==◌, ◌&&◌, ◌||◌, not, min, nat_lt, Bool, true, false, if◌then◌else◌, List, [], ◌∷◌, map, Option, Some, None, slice_set, is_some}
use Rattle.usb_packet.specs.declared.bus.Toggle.TheVariants.{D0}
use Rattle.dwc2_regs.specs.declared.TheConstants.{GRSTCTL_RXFFLSH, GRSTCTL_TXFFLSH, GRSTCTL_TXFNUM, GINTSTS_USBRST, GINTSTS_ENUMDNE, HPRT_PCSTS, HPRT_PCDET, HPRT_PENA, HPRT_PENCHNG}
use Rattle.dwc2_regs.specs.declared.TheConstants.{HCCHAR_CHDIS, HCCHAR_CHENA, DIEPCTL_STALL, DIEPCTL_CNAK, DIEPCTL_SNAK, DIEPCTL_SD0PID, DIEPCTL_EPDIS, DIEPCTL_EPENA, DIEPINT_XFRC}
use Rattle.dwc2_regs.specs.declared.TheConstants.{DIEPINT_EPDISD, DOEPINT_XFRC, DOEPINT_EPDISD, DOEPINT_STUP}
use Rattle.dwc2_regs.specs.Field.{field_of}
use Rattle.dwc2_regs.specs.Register.{Register, register_at, grstctl, gintsts, gintmsk, grxstsr, grxstsp, grxfsiz, dieptxf0, hptxfsiz, hcfg, haint, haintmsk, hprt, dcfg, dctl, dsts}
use Rattle.dwc2_regs.specs.Register.{diepmsk, doepmsk, daint, daintmsk, diepempmsk, dieptxf, hcchar, hcint, hcintmsk, hctsiz, diepctl, diepint, dieptsiz, dtxfsts, doepctl, doepint}
use Rattle.dwc2_regs.specs.Register.{doeptsiz, fifo}
use Rattle.dwc2_fifo.specs.Words.{word_count}
use Rattle.dwc2_fifo.specs.Rx.{Entry, empty_of as rx_empty}
use Rattle.dwc2_fifo.specs.Tx.{space_of, begun_in, with_word, empty_of as tx_empty}
use Rattle.device_table.specs.State.{Table, BusState, Control, InEnd, OutEnd, Channel, in_end, out_end, with_in, with_out}
use Rattle.device_table.specs.Words.{flag, with_flag, cleared, kept_bits, packet_size, transfer_size, setup_data, setup_done, kind_of}
use Rattle.device_table.specs.Read.{channel_at}

-- GRSTCTL: RXFFLSH empties the receive FIFO, TXFFLSH the FIFO that TXFNUM names, 16 for all. Both read 0, all else as
-- written.

abbrev pub emptied : InEnd → InEnd
emptied end = record end { fifo = tx_empty end.fifo.depth }

abbrev pub rx_flushed : Table → Bool → Table
rx_flushed t false = t
rx_flushed t true = record t { rx = rx_empty t.rx.depth }

abbrev pub tx_flushed : Table → Bool → ℕ → Table
tx_flushed t false number = t
tx_flushed t true number =
    if number == 16
    then record t { in0 = emptied t.in0; ins = map emptied t.ins }
    else with_in t number (emptied (in_end t number))

abbrev pub grstctl_written : Table → ℕ → Table
grstctl_written t word =
    let kept = record t.kept { grstctl = cleared word (GRSTCTL_RXFFLSH ∷ GRSTCTL_TXFFLSH ∷ []) } in
    tx_flushed (rx_flushed (record t { kept = kept }) (flag word GRSTCTL_RXFFLSH)) (flag word GRSTCTL_TXFFLSH) (field_of word GRSTCTL_TXFNUM)

-- GINTSTS: a 1 clears USBRST and ENUMDNE. Clearing USBRST wakes the device.
abbrev pub gintsts_written : BusState → ℕ → BusState
gintsts_written core word =
    record core {
      awake = core.awake || (core.usbrst && flag word GINTSTS_USBRST);
      usbrst = core.usbrst && not (flag word GINTSTS_USBRST);
      enumdne = core.enumdne && not (flag word GINTSTS_ENUMDNE);
    }

-- DIEPCTLx and DOEPCTLx: CNAK clears NAKSTS and SNAK sets it; EPENA enables and EPDIS disables; SNAK and EPDIS come before
-- CNAK and EPENA. STALL is kept as written. A written EPENA of 0 and a written NAKSTS do nothing.
abbrev pub control_written : Bool → Control → ℕ → Control
control_written cnak_acts control word =
    record {
      kept = kept_bits word;
      nak = (control.nak || flag word DIEPCTL_SNAK) && not (cnak_acts && flag word DIEPCTL_CNAK);
      stall = flag word DIEPCTL_STALL;
      enabled = (control.enabled && not (flag word DIEPCTL_EPDIS)) || flag word DIEPCTL_EPENA;
    }

-- an entry of a SETUP lies in the receive FIFO
abbrev pub is_setup : Entry → Bool
is_setup entry = (kind_of entry.status == setup_data) || (kind_of entry.status == setup_done)

abbrev pub setup_in : List Entry → Bool
setup_in [] = false
setup_in (entry ∷ entries) = is_setup entry || setup_in entries

abbrev pub setup_lies : Table → Bool
setup_lies t = setup_in t.rx.entries

-- CNAK on endpoint 0 has no effect while one does
abbrev pub cnak_acts : Table → ℕ → Bool
cnak_acts t zero = not (setup_lies t)
cnak_acts t (suc n) = true

-- SD0PID sets the next toggle to DATA0, and EPDIS sets EPDISD
abbrev pub in_control_written : Bool → InEnd → ℕ → InEnd
in_control_written acts end word =
    record end {
      control = control_written acts end.control word;
      toggle = if flag word DIEPCTL_SD0PID then D0 else end.toggle;
      epdisd = end.epdisd || flag word DIEPCTL_EPDIS;
    }

abbrev pub out_control_written : Bool → OutEnd → ℕ → OutEnd
out_control_written acts end word =
    record end {
      control = control_written acts end.control word;
      toggle = if flag word DIEPCTL_SD0PID then D0 else end.toggle;
      epdisd = end.epdisd || flag word DIEPCTL_EPDIS;
    }

-- DIEPINTx and DOEPINTx: a 1 clears XFRC, EPDISD and STUP; TXFE isn't written
abbrev pub in_interrupts_written : InEnd → ℕ → InEnd
in_interrupts_written end word =
    record end {
      xfrc = end.xfrc && not (flag word DIEPINT_XFRC);
      epdisd = end.epdisd && not (flag word DIEPINT_EPDISD);
    }

abbrev pub out_interrupts_written : OutEnd → ℕ → OutEnd
out_interrupts_written end word =
    record end {
      xfrc = end.xfrc && not (flag word DOEPINT_XFRC);
      epdisd = end.epdisd && not (flag word DOEPINT_EPDISD);
      stup = end.stup && not (flag word DOEPINT_STUP);
    }

-- DIEPTSIZx begins the cut of a transfer into packets anew
abbrev pub in_tsiz_written : ℕ → InEnd → ℕ → InEnd
in_tsiz_written number end word = record end { tsiz = word; to_come = transfer_size number word }

-- Window x, where a word goes to transmit FIFO x. Packets are cut by the size register, each of the endpoint's size but
-- the last. A word is dropped where no packet wants it, and where its packet has no room.

-- how many bytes the next packet has
abbrev pub next_length : ℕ → InEnd → ℕ
next_length number end = min (packet_size number end.control) end.to_come

abbrev pub packet_begun : ℕ → InEnd → ℕ → InEnd
packet_begun number end word =
    let bytes = next_length number end in
    if (bytes == 0) || nat_lt (space_of end.fifo) (word_count bytes)
    then end
    else record end { fifo = with_word (begun_in end.fifo 0 bytes) word; to_come = end.to_come - bytes }

abbrev pub word_written : ℕ → InEnd → ℕ → InEnd
word_written number end word =
    if is_some end.fifo.unfinished
    then record end { fifo = with_word end.fifo word }
    else packet_begun number end word

-- The host's registers: HPRT's status bits and HCCHAR's action aren't kept; CHENA is set by a 1 and cleared by CHDIS, which
-- comes first.

abbrev pub hprt_written : ℕ → ℕ
hprt_written word = cleared word (HPRT_PCSTS ∷ HPRT_PCDET ∷ HPRT_PENA ∷ HPRT_PENCHNG ∷ [])

abbrev pub hcchar_written : ℕ → ℕ → ℕ
hcchar_written old word =
    with_flag (cleared word (HCCHAR_CHDIS ∷ [])) HCCHAR_CHENA ((flag old HCCHAR_CHENA && not (flag word HCCHAR_CHDIS)) || flag word HCCHAR_CHENA)

abbrev pub with_channel : Table → ℕ → Channel → Table
with_channel t x channel = record t { host = record t.host { channels = slice_set t.host.channels x channel } }

-- The write of each register. Status registers aren't written.

abbrev pub after_write : Table → Register → ℕ → Table
after_write t grstctl word = grstctl_written t word
after_write t gintsts word = record t { core = gintsts_written t.core word }
after_write t gintmsk word = record t { kept = record t.kept { gintmsk = word } }
after_write t grxstsr word = t
after_write t grxstsp word = t
after_write t grxfsiz word = record t { kept = record t.kept { grxfsiz = word } }
after_write t dieptxf0 word = record t { kept = record t.kept { dieptxf0 = word } }
after_write t hptxfsiz word = record t { host = record t.host { hptxfsiz = word } }
after_write t hcfg word = record t { host = record t.host { hcfg = word } }
after_write t haint word = t
after_write t haintmsk word = record t { host = record t.host { haintmsk = word } }
after_write t hprt word = record t { host = record t.host { hprt = hprt_written word } }
after_write t dcfg word = record t { kept = record t.kept { dcfg = word } }
after_write t dctl word = record t { kept = record t.kept { dctl = word } }
after_write t dsts word = t
after_write t diepmsk word = record t { kept = record t.kept { diepmsk = word } }
after_write t doepmsk word = record t { kept = record t.kept { doepmsk = word } }
after_write t daint word = t
after_write t daintmsk word = record t { kept = record t.kept { daintmsk = word } }
after_write t diepempmsk word = record t { kept = record t.kept { diepempmsk = word } }
after_write t (dieptxf x) word = record t { kept = record t.kept { dieptxfs = slice_set t.kept.dieptxfs (x - 1) word } }
after_write t (hcchar x) word = with_channel t x (record (channel_at t x) { hcchar = hcchar_written (channel_at t x).hcchar word })
after_write t (hcint x) word = t
after_write t (hcintmsk x) word = with_channel t x (record (channel_at t x) { hcintmsk = word })
after_write t (hctsiz x) word = with_channel t x (record (channel_at t x) { hctsiz = word })
after_write t (diepctl x) word = with_in t x (in_control_written (cnak_acts t x) (in_end t x) word)
after_write t (diepint x) word = with_in t x (in_interrupts_written (in_end t x) word)
after_write t (dieptsiz x) word = with_in t x (in_tsiz_written x (in_end t x) word)
after_write t (dtxfsts x) word = t
after_write t (doepctl x) word = with_out t x (out_control_written (cnak_acts t x) (out_end t x) word)
after_write t (doepint x) word = with_out t x (out_interrupts_written (out_end t x) word)
after_write t (doeptsiz x) word = with_out t x (record (out_end t x) { tsiz = word })
after_write t (fifo x) word = with_in t x (word_written x (in_end t x) word)

-- A write at an offset.

abbrev pub written_of : Table → Option Register → ℕ → Table
written_of t None word = t
written_of t (Some register) word = after_write t register word

abbrev pub write_table : Table → ℕ → ℕ → Table
write_table t off word = written_of t (register_at off) word
