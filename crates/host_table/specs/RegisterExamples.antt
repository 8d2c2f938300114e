-- What registers read at the start, once opened, and after writes; which bits a 1 clears; which interrupts a mask lets through;
-- what a flush empties.
use Rattle.std.specs.Prelude.{◌≡◌, ℕ, zero, suc, ◌+◌, ◌-◌, ◌*◌, ◌^◌, false, true, List, [], ◌∷◌, ◌++◌, map, replicate}
use Rattle.usb_packet.specs.declared.bus.Toggle.TheVariants.{D0, D1}
use Rattle.usb_packet.specs.declared.bus.BusAnswer.TheVariants as answers
use Rattle.dwc2_regs.specs.declared.access.TheConstants.{FS4}
use Rattle.dwc2_fifo.specs.Rx.{empty_of as rx_empty}
use Rattle.dwc2_fifo.specs.Tx.{empty_of as tx_empty}
use Rattle.host_table.specs.declared.sent.HostSent.TheVariants as sent
use Rattle.host_table.specs.State.{Table, first, opened}
use Rattle.host_table.specs.Read.{read_value, read_table}
use Rattle.host_table.specs.Write.{write_table}
use Rattle.host_table.specs.Bus.{after_attach, after_detach, reset_asked, after_reset_asked, offer, after_xact}
use Rattle.host_table.specs.Examples.{writes, at_attach, at_reset, at_half, after_in, landed, at_first, at_second, at_end, setup, detached, interleaved, large}

-- what several registers read
abbrev pub reads : Table → List ℕ → List ℕ
reads t offsets = map (read_value t) offsets

-- what stands for each number below n, one after another
abbrev pub for_each : ℕ → (ℕ → List ℕ) → List ℕ
for_each zero of = []
for_each (suc n) of = for_each n of ++ of n

-- All registers of an FS4.

abbrev pub core_registers : List ℕ
core_registers =
    0x010 ∷ 0x014 ∷ 0x018 ∷ 0x01c ∷ 0x020 ∷ 0x024 ∷ 0x028 ∷ 0x100 ∷ 0x104 ∷ 0x108 ∷ 0x10c ∷ 0x400 ∷ 0x414 ∷ 0x418 ∷ 0x440
    ∷ 0x800 ∷ 0x804 ∷ 0x808 ∷ 0x810 ∷ 0x814 ∷ 0x818 ∷ 0x81c ∷ 0x834 ∷ []

-- HCCHARx, HCINTx, HCINTMSKx and HCTSIZx
abbrev pub channel_registers : ℕ → List ℕ
channel_registers x = (0x500 + 0x20 * x) ∷ (0x508 + 0x20 * x) ∷ (0x50c + 0x20 * x) ∷ (0x510 + 0x20 * x) ∷ []

-- DIEPCTLx, DIEPINTx, DIEPTSIZx, DTXFSTSx, DOEPCTLx, DOEPINTx and DOEPTSIZx
abbrev pub end_registers : ℕ → List ℕ
end_registers x =
    (0x900 + 0x20 * x) ∷ (0x908 + 0x20 * x) ∷ (0x910 + 0x20 * x) ∷ (0x918 + 0x20 * x)
    ∷ (0xb00 + 0x20 * x) ∷ (0xb08 + 0x20 * x) ∷ (0xb10 + 0x20 * x) ∷ []

-- all is 0 at the start; then every mask is ones but DIEPEMPMSK, the sizes are the plan's, laid end to end, and PPWR is 1
pub record StartWords : Type 0 where
  pub core : reads (first FS4) core_registers ≡ replicate 23 0
  pub channels : reads (first FS4) (for_each 8 channel_registers) ≡ replicate 32 0
  pub ends : reads (first FS4) (for_each 4 end_registers) ≡ replicate 28 0
  pub not_driven : reset_asked (first FS4) ≡ false
  pub rx : (first FS4).rx ≡ rx_empty 144
  pub nonperiodic : (first FS4).nonperiodic ≡ tx_empty 128
  pub periodic : (first FS4).periodic ≡ tx_empty 48
  pub opened_core : reads (opened FS4) core_registers ≡
      0 ∷ 0 ∷ 0xffffffff ∷ 0 ∷ 0 ∷ 0x90 ∷ 0x00800090 ∷ 0x00300110 ∷ 0 ∷ 0 ∷ 0 ∷ 0 ∷ 0 ∷ 0xffffffff ∷ 0x00001000
      ∷ 0 ∷ 0 ∷ 0 ∷ 0xffffffff ∷ 0xffffffff ∷ 0 ∷ 0xffffffff ∷ 0 ∷ []
  pub opened_channels : reads (opened FS4) (for_each 8 channel_registers) ≡ for_each 8 (λ x. 0 ∷ 0 ∷ 0xffffffff ∷ 0 ∷ [])
  pub opened_ends : reads (opened FS4) (for_each 4 end_registers) ≡ replicate 28 0
  pub opened_not_driven : reset_asked (opened FS4) ≡ false
  pub opened_rx : (opened FS4).rx ≡ rx_empty 144
  pub opened_nonperiodic : (opened FS4).nonperiodic ≡ tx_empty 128
  pub opened_periodic : (opened FS4).periodic ≡ tx_empty 48
  pub large_rx : (opened large).rx ≡ rx_empty 216
  pub large_nonperiodic : (opened large).nonperiodic ≡ tx_empty 192
  pub large_periodic : (opened large).periodic ≡ tx_empty 64

-- Each register keeps its own word.

abbrev pub core_words : List (ℕ × ℕ)
core_words =
    (0x010, 0xffffffff) ∷ (0x018, 0x01) ∷ (0x024, 0x02) ∷ (0x028, 0x03) ∷ (0x100, 0x04) ∷ (0x104, 0x05) ∷ (0x108, 0x06) ∷ (0x10c, 0x07)
    ∷ (0x400, 0x08) ∷ (0x418, 0x09) ∷ (0x440, 0xffffffff) ∷ (0x800, 0x0a) ∷ (0x804, 0x0b) ∷ (0x810, 0x0c) ∷ (0x814, 0x0d) ∷ (0x81c, 0x0e) ∷ (0x834, 0x0f) ∷ []

abbrev pub words_of_each : ℕ → (ℕ → List (ℕ × ℕ)) → List (ℕ × ℕ)
words_of_each zero of = []
words_of_each (suc n) of = words_of_each n of ++ of n

-- HCCHARx but CHENA and CHDIS, the mask and the size
abbrev pub channel_words : ℕ → List (ℕ × ℕ)
channel_words x = (0x500 + 0x20 * x, 0x3ffffff0 + x) ∷ (0x50c + 0x20 * x, 0x100 + x) ∷ (0x510 + 0x20 * x, 0x200 + x) ∷ []

-- the bits that DIEPCTLx and DOEPCTLx keep, and sizes
abbrev pub end_words : ℕ → List (ℕ × ℕ)
end_words x = (0x900 + 0x20 * x, 0x03cc87f0 + x) ∷ (0x910 + 0x20 * x, 0x300 + x) ∷ (0xb00 + 0x20 * x, 0x03cc87e0 + x) ∷ (0xb10 + 0x20 * x, 0x400 + x) ∷ []

abbrev pub all_written : Table
all_written = writes (opened FS4) (core_words ++ words_of_each 8 channel_words ++ words_of_each 4 end_words)

pub record KeptWords : Type 0 where
  -- GRSTCTL reads 0 in RXFFLSH and TXFFLSH, and HPRT in PCSTS, PCDET, PENA and PENCHNG
  pub core : reads all_written core_registers ≡
      0xffffffcf ∷ 0 ∷ 0x01 ∷ 0 ∷ 0 ∷ 0x02 ∷ 0x03 ∷ 0x04 ∷ 0x05 ∷ 0x06 ∷ 0x07 ∷ 0x08 ∷ 0 ∷ 0x09 ∷ 0xfffffff0
      ∷ 0x0a ∷ 0x0b ∷ 0 ∷ 0x0c ∷ 0x0d ∷ 0 ∷ 0x0e ∷ 0x0f ∷ []
  pub channels : reads all_written (for_each 8 channel_registers) ≡ for_each 8 (λ x. (0x3ffffff0 + x) ∷ 0 ∷ (0x100 + x) ∷ (0x200 + x) ∷ [])
  pub ends : reads all_written (for_each 4 end_registers) ≡ for_each 4 (λ x. (0x03cc87f0 + x) ∷ 0 ∷ (0x300 + x) ∷ 0 ∷ (0x03cc87e0 + x) ∷ 0 ∷ (0x400 + x) ∷ [])

-- HPRT: a 1 clears PCDET and PENCHNG, each its own bit, and no other; the device is attached and reset with PCDET left.

abbrev pub both_told : Table
both_told = writes at_attach ((0x440, 0x00001100) ∷ (0x440, 0x00001000) ∷ [])

abbrev pub hprt_after : Table → List (ℕ × ℕ) → ℕ
hprt_after t accesses = read_value (writes t accesses) 0x440

abbrev pub prst_twice : List (ℕ × ℕ)
prst_twice = (0x440, 0x00001100) ∷ (0x440, 0x00001100) ∷ []

pub record PortWords : Type 0 where
  pub told : read_value both_told 0x440 ≡ 0x0000100f
  pub none : hprt_after both_told ((0x440, 0x00001000) ∷ []) ≡ 0x0000100f
  pub pcdet : hprt_after both_told ((0x440, 0x00001002) ∷ []) ≡ 0x0000100d
  pub penchng : hprt_after both_told ((0x440, 0x00001008) ∷ []) ≡ 0x00001007
  pub both : hprt_after both_told ((0x440, 0x0000100a) ∷ []) ≡ 0x00001005
  pub others : hprt_after both_told ((0x440, 0x00001005) ∷ []) ≡ 0x0000100f
  -- HPRTINT is 1 where one of them is
  pub by_penchng : read_value (write_table both_told 0x440 0x00001002) 0x014 ≡ 0x01000000
  pub by_pcdet : read_value (write_table both_told 0x440 0x00001008) 0x014 ≡ 0x01000000
  pub by_neither : read_value (write_table both_told 0x440 0x0000100a) 0x014 ≡ 0
  -- GINTSTS doesn't clear it, and clears DISCINT where that bit is 1
  pub not_there : read_value (write_table both_told 0x014 0xffffffff) 0x014 ≡ 0x01000000
  pub discint_stays : read_value (write_table detached 0x014 0xdfffffff) 0x014 ≡ 0x21000000
  -- a reset while the port is enabled is driven and told again; PRST alone, or written 0 twice, drives none
  pub again : hprt_after both_told ((0x440, 0x0000100a) ∷ (0x440, 0x00001100) ∷ (0x440, 0x00001000) ∷ []) ≡ 0x0000100d
  pub again_driven : reset_asked (writes (after_reset_asked both_told) ((0x440, 0x00001100) ∷ (0x440, 0x00001000) ∷ [])) ≡ true
  pub stands : hprt_after at_attach prst_twice ≡ 0x00001103
  pub stands_undriven : reset_asked (writes at_attach prst_twice) ≡ false
  pub never : hprt_after at_attach ((0x440, 0x00001000) ∷ (0x440, 0x00001000) ∷ []) ≡ 0x00001003
  -- the 1s that clear act first
  pub told_at_end : hprt_after at_attach ((0x440, 0x00001100) ∷ (0x440, 0x0000100a) ∷ []) ≡ 0x0000100d
  -- a device that comes or goes meanwhile
  pub comes : read_value (write_table (after_attach (write_table (opened FS4) 0x440 0x00001100)) 0x440 0x00001000) 0x440 ≡ 0x0000100f
  pub goes : read_value (write_table (after_detach (write_table at_attach 0x440 0x00001100)) 0x440 0x00001000) 0x440 ≡ 0x00001002

-- HCINT0 with all seven bits: NAK; the other PID; STALL; no answer; and data that is popped with its end.

abbrev pub enabled_again : Table → Table
enabled_again t = write_table t 0x500 0x80008040

abbrev pub some_bits : Table
some_bits =
    let asked : Table = writes at_reset ((0x510, 0x00080040) ∷ (0x500, 0x80008040) ∷ []) in
    let waited : Table = after_xact (after_xact asked 0 0x80 answers.Nak) 0 0x80 (answers.Data D1 []) in
    after_xact (enabled_again (after_xact waited 0 0x80 answers.Stall)) 0 0x80 answers.NoAnswer

abbrev pub all_bits : Table
all_bits = read_table (read_table (after_xact (enabled_again some_bits) 0 0x80 (answers.Data D0 [])) 0x020) 0x020

abbrev pub seven : List ℕ
seven = 0x001 ∷ 0x002 ∷ 0x008 ∷ 0x010 ∷ 0x020 ∷ 0x080 ∷ 0x400 ∷ []

-- with one bit alone, under a mask
abbrev pub haint_under : ℕ → ℕ → ℕ
haint_under bit mask = read_value (writes all_bits ((0x508, 0x4bb - bit) ∷ (0x50c, mask) ∷ [])) 0x414

-- a NAK on channel x, under a mask of HAINTMSK
abbrev pub naked_on : ℕ → ℕ → Table
naked_on x mask = after_xact (writes at_reset ((0x510 + 0x20 * x, 0x00080040) ∷ (0x500 + 0x20 * x, 0x80008040) ∷ (0x418, mask) ∷ [])) 0 0x80 answers.Nak

pub record ChannelWords : Type 0 where
  pub some : read_value some_bits 0x508 ≡ 0x49a
  pub all : read_value all_bits 0x508 ≡ 0x4bb
  -- a 1 clears its own bit
  pub each : map (λ bit. read_value (write_table all_bits 0x508 bit) 0x508) seven ≡ 0x4ba ∷ 0x4b9 ∷ 0x4b3 ∷ 0x4ab ∷ 0x49b ∷ 0x43b ∷ 0x0bb ∷ []
  pub each_other : map (λ bit. read_value (write_table all_bits 0x508 (0x4bb - bit)) 0x508) seven ≡ seven
  pub none : read_value (write_table all_bits 0x508 0) 0x508 ≡ 0x4bb
  pub no_such : read_value (write_table all_bits 0x508 0xfffffb44) 0x508 ≡ 0x4bb
  pub every : read_value (write_table all_bits 0x508 0xffffffff) 0x508 ≡ 0
  -- each bit interrupts under its own bit of the mask alone
  pub under : map (λ bit. haint_under bit bit) seven ≡ replicate 7 1
  pub not_under : map (λ bit. haint_under bit (0xffffffff - bit)) seven ≡ replicate 7 0
  -- and each channel under its own bit of HAINTMSK
  pub numbered : for_each 8 (λ x. read_value (naked_on x 0xffff) 0x414 ∷ []) ≡ 1 ∷ 2 ∷ 4 ∷ 8 ∷ 16 ∷ 32 ∷ 64 ∷ 128 ∷ []
  pub told : for_each 8 (λ x. read_value (naked_on x (2 ^ x)) 0x014 ∷ []) ≡ replicate 8 0x03000000
  pub not_told : for_each 8 (λ x. read_value (naked_on x (0xffffffff - 2 ^ x)) 0x014 ∷ []) ≡ replicate 8 0x01000000
  -- HAINT itself isn't masked by HAINTMSK
  pub shown : read_value (naked_on 3 0) 0x414 ≡ 8

-- Flushes: channel 2 has a packet in the periodic FIFO, channel 3 one in the other.

abbrev pub periodic_packet : List ℕ
periodic_packet = 1 ∷ 2 ∷ 3 ∷ 4 ∷ 5 ∷ []

abbrev pub bulk_packet : List ℕ
bulk_packet = 0x11 ∷ 0x12 ∷ 0x13 ∷ 0x14 ∷ 0x15 ∷ []

abbrev pub flushed_by : ℕ → Table
flushed_by word = write_table interleaved 0x010 word

pub record Flushes : Type 0 where
  -- TXFNUM 0, 1 and 16
  pub nonperiodic : (offer (flushed_by 0x020) 0 1 ≡ sent.Out D0 periodic_packet) × (offer (flushed_by 0x020) 0 2 ≡ sent.Idle)
  pub periodic : (offer (flushed_by 0x060) 0 1 ≡ sent.Idle) × (offer (flushed_by 0x060) 0 2 ≡ sent.Out D0 bulk_packet)
  pub both : (offer (flushed_by 0x420) 0 1 ≡ sent.Idle) × (offer (flushed_by 0x420) 0 2 ≡ sent.Idle)
  -- no other number, nothing without TXFFLSH, and nothing by RXFFLSH
  pub other : (flushed_by 0x0a0).nonperiodic ≡ interleaved.nonperiodic
  pub other_too : (flushed_by 0x0a0).periodic ≡ interleaved.periodic
  pub not_asked : (offer (flushed_by 0x440) 0 1 ≡ sent.Out D0 periodic_packet) × (offer (flushed_by 0x400) 0 2 ≡ sent.Out D0 bulk_packet)
  pub received : (offer (flushed_by 0x010) 0 1 ≡ sent.Out D0 periodic_packet) × (offer (flushed_by 0x010) 0 2 ≡ sent.Out D0 bulk_packet)
  -- the channels stay, and the bits read 0
  pub channel : read_value (flushed_by 0x430) 0x540 ≡ 0x800c0840
  pub word : read_value (flushed_by 0x430) 0x010 ≡ 0x400
  -- a packet that is begun goes too, and TXFFLSH leaves what was received
  pub begun : offer (writes at_half ((0x010, 0x020) ∷ (0x1000, 0x00080000) ∷ [])) 0 0 ≡ sent.Idle
  pub anew : offer (writes at_half ((0x010, 0x020) ∷ (0x1000, 0x01000680) ∷ (0x1000, 0x00080000) ∷ [])) 0 0 ≡ sent.Setup setup
  pub stays : read_value (write_table landed 0x010 0x420) 0x01c ≡ 0x00050081
  -- RXFFLSH drops the words of the popped entry too
  pub words : read_value (write_table at_first 0x010 0x010) 0x1000 ≡ 0
  pub level : read_value (write_table at_second 0x010 0x010) 0x014 ≡ 0x01000000

-- The receive FIFO, after the descriptor landed: RXFLVL is 0 while words are left; GRXSTSP drops them.

pub record ReceivedWords : Type 0 where
  pub one_left : read_value at_second 0x014 ≡ 0x01000000
  pub none_left : read_value at_end 0x014 ≡ 0x01000010
  pub no_word : read_value at_end 0x1000 ≡ 0
  pub dropped : read_value (read_table at_first 0x020) 0x1000 ≡ 0
  pub ended : read_value (read_table at_first 0x020) 0x528 ≡ 0x23
  pub not_shown : read_value (read_table landed 0x01c) 0x01c ≡ 0x00050081
  -- another window takes nothing
  pub window_1 : read_value (read_table at_first 0x2000) 0x1000 ≡ 0x02000112
  pub of_window_1 : read_value at_first 0x2000 ≡ 0
  -- and where no register stands nothing is read or written
  pub nowhere : read_value at_first 0x030 ≡ 0
  pub nowhere_written : write_table at_first 0x030 0xffffffff ≡ at_first

-- A detach leaves the interrupts, what was received and the packets; the channels are disabled, and enabled again after the
-- next reset.

abbrev pub detached_late : Table
detached_late = after_detach (after_in answers.Nak)

pub record DetachLeaves : Type 0 where
  pub interrupts : read_value detached_late 0x528 ≡ 0x10
  pub received : read_value (after_detach landed) 0x01c ≡ 0x00050081
  pub penchng : read_value detached_late 0x440 ≡ 0x00001008
  pub not_told : reset_asked (after_detach at_reset) ≡ true
  pub packet : offer (writes (after_attach (after_detach interleaved)) ((0x440, 0x00001100) ∷ (0x440, 0x00001000) ∷ (0x540, 0x800c0840) ∷ [])) 0 1
      ≡ sent.Out D0 periodic_packet
  pub disabled : offer (writes (after_attach (after_detach interleaved)) ((0x440, 0x00001100) ∷ (0x440, 0x00001000) ∷ [])) 0 1 ≡ sent.Idle

-- The device's registers: EPDISD under DIEPMSK or DOEPMSK, and DAINT's bits under DAINTMSK; SNAK, CNAK, STALL, EPENA.

abbrev pub in_off : ℕ → Table
in_off x = write_table (opened FS4) (0x900 + 0x20 * x) 0x40000000

abbrev pub out_off : ℕ → Table
out_off x = write_table (opened FS4) (0xb00 + 0x20 * x) 0x40000000

abbrev pub control_after : ℕ → List ℕ → ℕ
control_after off words = read_value (writes (opened FS4) (map (λ word. (off, word)) words)) off

pub record EndControl (off : ℕ) : Type 0 where
  pub enabled : control_after off (0x80000040 ∷ []) ≡ 0x80000040
  pub stays : control_after off (0x80000040 ∷ 0x00000040 ∷ []) ≡ 0x80000040
  pub disabled : control_after off (0x80000040 ∷ 0x40000040 ∷ []) ≡ 0x00000040
  pub anew : control_after off (0x80000040 ∷ 0xc0000040 ∷ []) ≡ 0x80000040
  pub snak : control_after off (0x08000040 ∷ 0x00000040 ∷ []) ≡ 0x00020040
  pub cnak : control_after off (0x08000040 ∷ 0x04000040 ∷ []) ≡ 0x00000040
  pub nak_first : control_after off (0x0c000040 ∷ []) ≡ 0x00000040
  pub stall : control_after off (0x00200040 ∷ []) ≡ 0x00200040
  pub no_stall : control_after off (0x00200040 ∷ 0x00000040 ∷ []) ≡ 0x00000040
  pub sd0pid : control_after off (0x10000040 ∷ []) ≡ 0x00000040

pub record EndWords : Type 0 where
  pub ins : EndControl 0x920
  pub outs : EndControl 0xb20
  pub in_numbers : for_each 4 (λ x. read_value (in_off x) 0x818 ∷ read_value (in_off x) (0x908 + 0x20 * x) ∷ []) ≡ 1 ∷ 2 ∷ 2 ∷ 2 ∷ 4 ∷ 2 ∷ 8 ∷ 2 ∷ []
  pub out_numbers : for_each 4 (λ x. read_value (out_off x) 0x818 ∷ read_value (out_off x) (0xb08 + 0x20 * x) ∷ [])
      ≡ 0x00010000 ∷ 2 ∷ 0x00020000 ∷ 2 ∷ 0x00040000 ∷ 2 ∷ 0x00080000 ∷ 2 ∷ []
  pub in_mask : map (λ mask. read_value (write_table (in_off 1) 0x810 mask) 0x818) (0 ∷ 2 ∷ 0xfffffffd ∷ []) ≡ 0 ∷ 2 ∷ 0 ∷ []
  pub out_mask : map (λ mask. read_value (write_table (out_off 1) 0x814 mask) 0x818) (0 ∷ 2 ∷ 0xfffffffd ∷ []) ≡ 0 ∷ 0x00020000 ∷ 0 ∷ []
  pub in_all : map (λ mask. read_value (write_table (in_off 1) 0x81c mask) 0x014) (0 ∷ 2 ∷ 0xfffffffd ∷ []) ≡ 0 ∷ 0x00040000 ∷ 0 ∷ []
  pub out_all : map (λ mask. read_value (write_table (out_off 1) 0x81c mask) 0x014) (0 ∷ 0x00020000 ∷ 0xfffdffff ∷ []) ≡ 0 ∷ 0x00080000 ∷ 0 ∷ []
  pub in_cleared : map (λ word. read_value (write_table (in_off 1) 0x928 word) 0x928) (0 ∷ 2 ∷ 0xfffffffd ∷ []) ≡ 2 ∷ 0 ∷ 2 ∷ []
  pub out_cleared : map (λ word. read_value (write_table (out_off 1) 0xb28 word) 0xb28) (0 ∷ 2 ∷ 0xfffffffd ∷ []) ≡ 2 ∷ 0 ∷ 2 ∷ []
  -- EPDISD stays where EPDIS isn't written
  pub in_kept : read_value (write_table (in_off 1) 0x920 0) 0x928 ≡ 2
  pub out_kept : read_value (write_table (out_off 1) 0xb20 0) 0xb28 ≡ 2
