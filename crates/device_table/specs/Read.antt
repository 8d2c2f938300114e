-- What a read of each register gives, and what it changes.
use Rattle.std.specs.Prelude.{ℕ, zero, suc, ◌+◌, ◌-◌, ◌*◌, ◌==◌, ◌&&◌, ◌||◌, nat_le, Bool, true, false, if◌then◌else◌, List, [], ◌∷◌, Option, Some, None, slice_index, slice_index_or}
use Rattle.dwc2_regs.specs.declared.TheConstants.{GINTSTS_RXFLVL, GINTSTS_USBRST, GINTSTS_ENUMDNE, GINTSTS_IEPINT, GINTSTS_OEPINT, DIEPINT_XFRC, DIEPINT_EPDISD, DIEPINT_TXFE, DOEPINT_XFRC, DOEPINT_EPDISD, DOEPINT_STUP, DAINT_IN, DAINT_OUT}
use Rattle.dwc2_regs.specs.Field.{with_field}
use Rattle.dwc2_regs.specs.Register.{Register, register_at, grstctl, gintsts, gintmsk, grxstsr, grxstsp, grxfsiz, dieptxf0, hptxfsiz, hcfg, haint, haintmsk, hprt, dcfg, dctl, dsts}
use Rattle.dwc2_regs.specs.Register.{diepmsk, doepmsk, daint, daintmsk, diepempmsk, dieptxf, hcchar, hcint, hcintmsk, hctsiz, diepctl, diepint, dieptsiz, dtxfsts, doepctl, doepint}
use Rattle.dwc2_regs.specs.Register.{doeptsiz, fifo}
use Rattle.dwc2_fifo.specs.Words.{word_count}
use Rattle.dwc2_fifo.specs.Rx.{Entry, first_status, popped, first_word, word_taken}
use Rattle.dwc2_fifo.specs.Tx.{space_of}
use Rattle.device_table.specs.State.{Table, InEnd, OutEnd, Channel, no_channel, in_end, out_end, with_out}
use Rattle.device_table.specs.Words.{flag, with_flag, control_word, packet_size, out_done, setup_done, kind_of, number_of}

-- Interrupts of one endpoint.

-- TXFE is 1 exactly where the free words of its FIFO hold a packet of the endpoint's size
abbrev pub txfe : ℕ → InEnd → Bool
txfe number end = nat_le (word_count (packet_size number end.control)) (space_of end.fifo)

-- DIEPINTx: XFRC, EPDISD, TXFE
abbrev pub diepint_word : ℕ → InEnd → ℕ
diepint_word number end =
    with_flag (with_flag (with_flag 0 DIEPINT_XFRC end.xfrc) DIEPINT_EPDISD end.epdisd) DIEPINT_TXFE (txfe number end)

-- DOEPINTx: XFRC, EPDISD, STUP
abbrev pub doepint_word : OutEnd → ℕ
doepint_word end =
    with_flag (with_flag (with_flag 0 DOEPINT_XFRC end.xfrc) DOEPINT_EPDISD end.epdisd) DOEPINT_STUP end.stup

-- Interrupts of all endpoints.

-- whether the bit of that number is 1
abbrev pub bit_at : ℕ → ℕ → Bool
bit_at word number = flag word (record { low = number; width = 1 })

-- an IN endpoint's bit of DAINT: an interrupt of it is 1 under DIEPMSK, or TXFE under the endpoint's bit of DIEPEMPMSK
abbrev pub in_interrupts : Table → ℕ → InEnd → Bool
in_interrupts t number end =
    (end.xfrc && flag t.kept.diepmsk DIEPINT_XFRC)
    || (end.epdisd && flag t.kept.diepmsk DIEPINT_EPDISD)
    || (txfe number end && bit_at t.kept.diepempmsk number)

-- an OUT endpoint's bit of DAINT: an interrupt of it is 1 under DOEPMSK
abbrev pub out_interrupts : Table → OutEnd → Bool
out_interrupts t end =
    (end.xfrc && flag t.kept.doepmsk DOEPINT_XFRC)
    || (end.epdisd && flag t.kept.doepmsk DOEPINT_EPDISD)
    || (end.stup && flag t.kept.doepmsk DOEPINT_STUP)

-- the number whose bits these are, the lowest first
abbrev pub number_of_bits : List Bool → ℕ
number_of_bits [] = 0
number_of_bits (bit ∷ bits) = (if bit then 1 else 0) + 2 * number_of_bits bits

-- the endpoints' bits from that number on
abbrev pub in_bits : Table → ℕ → List InEnd → List Bool
in_bits t number [] = []
in_bits t number (end ∷ ends) = in_interrupts t number end ∷ in_bits t (suc number) ends

abbrev pub out_bits : Table → List OutEnd → List Bool
out_bits t [] = []
out_bits t (end ∷ ends) = out_interrupts t end ∷ out_bits t ends

-- DAINT: the IN endpoints from bit 0 on, the OUT endpoints from bit 16 on
abbrev pub daint_word : Table → ℕ
daint_word t =
    with_field (with_field 0 DAINT_IN (number_of_bits (in_bits t 0 (t.in0 ∷ t.ins)))) DAINT_OUT (number_of_bits (out_bits t (t.out0 ∷ t.outs)))

-- whether one of the bits is 1 where the mask's bit is
abbrev pub any_under : List Bool → ℕ → ℕ → Bool
any_under [] mask number = false
any_under (bit ∷ bits) mask number = (bit && bit_at mask number) || any_under bits mask (suc number)

-- IEPINT and OEPINT are 1 exactly where DAINT's IN half or its OUT half has a bit under DAINTMSK
abbrev pub iepint : Table → Bool
iepint t = any_under (in_bits t 0 (t.in0 ∷ t.ins)) t.kept.daintmsk 0

abbrev pub oepint : Table → Bool
oepint t = any_under (out_bits t (t.out0 ∷ t.outs)) t.kept.daintmsk 16

-- Interrupts of the core.

-- RXFLVL is 1 exactly where the receive FIFO has an entry and no words of a popped one are left
abbrev pub has_entry : List ℕ → List Entry → Bool
has_entry [] [] = false
has_entry [] (entry ∷ entries) = true
has_entry (word ∷ words) entries = false

abbrev pub rxflvl : Table → Bool
rxflvl t = has_entry t.rx.left t.rx.entries

-- GINTSTS; the host's HPRTINT, HCINT and DISCINT stay 0 in device mode
abbrev pub gintsts_word : Table → ℕ
gintsts_word t =
    with_flag (with_flag (with_flag (with_flag (with_flag 0
    GINTSTS_RXFLVL (rxflvl t))
    GINTSTS_USBRST t.core.usbrst)
    GINTSTS_ENUMDNE t.core.enumdne)
    GINTSTS_IEPINT (iepint t))
    GINTSTS_OEPINT (oepint t)

-- The value of each register.

abbrev pub channel_at : Table → ℕ → Channel
channel_at t x = slice_index_or t.host.channels x no_channel

abbrev pub value_read : Table → Register → ℕ
value_read t grstctl = t.kept.grstctl
value_read t gintsts = gintsts_word t
value_read t gintmsk = t.kept.gintmsk
-- GRXSTSR shows the front entry's status, and GRXSTSP takes it
value_read t grxstsr = first_status t.rx.entries
value_read t grxstsp = first_status t.rx.entries
value_read t grxfsiz = t.kept.grxfsiz
value_read t dieptxf0 = t.kept.dieptxf0
value_read t hptxfsiz = t.host.hptxfsiz
value_read t hcfg = t.host.hcfg
value_read t haint = 0
value_read t haintmsk = t.host.haintmsk
value_read t hprt = t.host.hprt
value_read t dcfg = t.kept.dcfg
value_read t dctl = t.kept.dctl
-- the device status register isn't written
value_read t dsts = 0
value_read t diepmsk = t.kept.diepmsk
value_read t doepmsk = t.kept.doepmsk
value_read t daint = daint_word t
value_read t daintmsk = t.kept.daintmsk
value_read t diepempmsk = t.kept.diepempmsk
value_read t (dieptxf x) = slice_index t.kept.dieptxfs (x - 1)
value_read t (hcchar x) = (channel_at t x).hcchar
value_read t (hcint x) = 0
value_read t (hcintmsk x) = (channel_at t x).hcintmsk
value_read t (hctsiz x) = (channel_at t x).hctsiz
value_read t (diepctl x) = control_word (in_end t x).control
value_read t (diepint x) = diepint_word x (in_end t x)
value_read t (dieptsiz x) = (in_end t x).tsiz
-- DTXFSTSx: the free words of the endpoint's FIFO
value_read t (dtxfsts x) = space_of (in_end t x).fifo
value_read t (doepctl x) = control_word (out_end t x).control
value_read t (doepint x) = doepint_word (out_end t x)
value_read t (doeptsiz x) = (out_end t x).tsiz
-- window 0 gives the words of the popped entry, one by one; the windows from 1 on read 0
value_read t (fifo zero) = first_word t.rx.left
value_read t (fifo (suc x)) = 0

-- What a read changes.

-- popping the end of a SETUP sets STUP, and the SETUP is served; popping the end of an OUT transfer sets XFRC; popping
-- data sets nothing
abbrev pub end_popped : Table → ℕ → Table
end_popped t status =
    if kind_of status == setup_done
    then record t { out0 = record t.out0 { stup = true }; core = record t.core { unserved = t.core.unserved - 1 } }
    else if kind_of status == out_done
    then with_out t (number_of status) (record (out_end t (number_of status)) { xfrc = true })
    else t

-- GRXSTSP takes the front entry, and drops what is left of the words of the entry taken before; where there is none it
-- changes nothing
abbrev pub entry_popped : Table → List Entry → Table
entry_popped t [] = t
entry_popped t (entry ∷ entries) = end_popped (record t { rx = popped t.rx }) entry.status

abbrev pub after_read : Table → Register → Table
after_read t grxstsp = entry_popped t t.rx.entries
after_read t (fifo zero) = record t { rx = word_taken t.rx }
after_read t other = t

-- A read at an offset.

abbrev pub value_of : Table → Option Register → ℕ
value_of t None = 0
value_of t (Some register) = value_read t register

abbrev pub table_of : Table → Option Register → Table
table_of t None = t
table_of t (Some register) = after_read t register

abbrev pub read_value : Table → ℕ → ℕ
read_value t off = value_of t (register_at off)

abbrev pub read_table : Table → ℕ → Table
read_table t off = table_of t (register_at off)
