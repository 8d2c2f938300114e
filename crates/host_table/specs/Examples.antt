-- Words that are known from outside.
use Rattle.std.specs.Prelude.{◌≡◌, ℕ, zero, suc, true, false, List, [], ◌∷◌, replicate}
use Rattle.usb_packet.specs.declared.bus.Toggle.TheVariants.{D0, D1}
use Rattle.usb_packet.specs.declared.bus.BusAnswer.{BusAnswer}
use Rattle.usb_packet.specs.declared.bus.BusAnswer.TheVariants as answers
use Rattle.dwc2_regs.specs.declared.access.Profile.{Profile}
use Rattle.dwc2_regs.specs.declared.access.TheConstants.{FS4}
use Rattle.host_table.specs.declared.sent.HostSent.TheVariants as sent
use Rattle.host_table.specs.State.{Table, opened, plan_words}
use Rattle.host_table.specs.Read.{read_value, read_table}
use Rattle.host_table.specs.Write.{write_table}
use Rattle.host_table.specs.Bus.{after_attach, after_detach, reset_asked, after_reset_asked, offer, after_xact}

-- several writes, each an offset and a word
abbrev pub writes : Table → List (ℕ × ℕ) → Table
writes t [] = t
writes t (access ∷ accesses) = writes (write_table t access.0 access.1) accesses

-- The port: a device is attached, and a reset is driven by PRST written 1 and then 0. The first word clears PCDET.

abbrev pub at_attach : Table
at_attach = after_attach (opened FS4)

abbrev pub at_reset : Table
at_reset = writes at_attach ((0x440, 0x00001102) ∷ (0x440, 0x00001000) ∷ [])

pub record PortReset : Type 0 where
  -- PPWR, PCDET and PCSTS, and HPRTINT
  pub port : read_value at_attach 0x440 ≡ 0x00001003
  pub core : read_value at_attach 0x014 ≡ 0x01000000
  pub not_yet : reset_asked at_attach ≡ false
  -- no reset is driven while PRST stands
  pub driving : read_value (write_table at_attach 0x440 0x00001102) 0x440 ≡ 0x00001101
  -- PPWR, PENCHNG, PENA and PCSTS
  pub enabled : read_value at_reset 0x440 ≡ 0x0000100d
  pub driven : reset_asked at_reset ≡ true
  pub told_once : reset_asked (after_reset_asked at_reset) ≡ false
  -- a 1 clears PENCHNG, and PENA isn't written
  pub noted : read_value (write_table at_reset 0x440 0x0000100c) 0x440 ≡ 0x00001005
  -- without a device PRST drives nothing
  pub nobody : read_value (writes (opened FS4) ((0x440, 0x00001100) ∷ (0x440, 0x00001000) ∷ [])) 0x440 ≡ 0x00001000

-- GET_DESCRIPTOR of the device descriptor, 8 bytes: on channel 0 HCTSIZ has the PID of a SETUP, one packet and 8 bytes,
-- HCCHAR CHENA and the size 64, and then come the two words.

abbrev pub at_setup : Table
at_setup =
    writes (after_reset_asked at_reset)
    ((0x510, 0x60080008) ∷ (0x500, 0x80000040) ∷ (0x1000, 0x01000680) ∷ (0x1000, 0x00080000) ∷ [])

abbrev pub setup : List ℕ
setup = 0x80 ∷ 0x06 ∷ 0x00 ∷ 0x01 ∷ 0x00 ∷ 0x00 ∷ 0x08 ∷ 0x00 ∷ []

abbrev pub after_setup : BusAnswer → Table
after_setup answered = after_xact at_setup 0 0 answered

-- before its second word the packet isn't whole
abbrev pub at_half : Table
at_half = writes at_reset ((0x510, 0x60080008) ∷ (0x500, 0x80000040) ∷ (0x1000, 0x01000680) ∷ [])

pub record SetupSent : Type 0 where
  pub half : offer at_half 0 0 ≡ sent.Idle
  pub offered : offer at_setup 0 0 ≡ sent.Setup setup
  -- to no other device, and to no other endpoint
  pub elsewhere : offer at_setup 1 0 ≡ sent.Idle
  pub other_end : offer at_setup 0 0x80 ≡ sent.Idle
  -- ACK, CHH and XFRC; the channel is disabled
  pub interrupts : read_value (after_setup answers.Ack) 0x508 ≡ 0x00000023
  pub channel : read_value (after_setup answers.Ack) 0x500 ≡ 0x00000040
  pub idle : offer (after_setup answers.Ack) 0 0 ≡ sent.Idle
  -- and enabling it again sends nothing, since its packet left
  pub gone : offer (write_table (after_setup answers.Ack) 0x500 0x80000040) 0 0 ≡ sent.Idle

-- What may be sent otherwise: a size of 0 and one above 64 count as 64; a packet has at most the channel's size; a SETUP of
-- four bytes isn't sent; CHDIS removes a packet that is only begun, and another may begin.

abbrev pub two_words : List (ℕ × ℕ)
two_words = (0x1000, 0x01000680) ∷ (0x1000, 0x00080000) ∷ []

abbrev pub word_after_word : ℕ → Table → ℕ → Table
word_after_word zero t off = t
word_after_word (suc n) t off = word_after_word n (write_table t off 0x11111111) off

-- four interrupt channels have a periodic FIFO of two packets
abbrev pub four : Profile
four = record { in_eps = 2; out_eps = 1; channels = 4; ram_words = 256 }

abbrev pub three_senders : Table
three_senders =
    writes (after_attach (opened four))
    ((0x440, 0x00001102) ∷ (0x440, 0x00001000)
    ∷ (0x510, 0x00080040) ∷ (0x500, 0x800c0840) ∷ (0x530, 0x00080040) ∷ (0x520, 0x800c1040) ∷ (0x550, 0x00080040) ∷ (0x540, 0x800c1840) ∷ [])

abbrev pub three_sent : Table
three_sent = word_after_word 16 (word_after_word 16 (word_after_word 16 three_senders 0x1000) 0x2000) 0x3000

-- channels 1 and 3 go to endpoint 2: channel 1 lacks its packet, and that of channel 3 has no bytes
abbrev pub upper_ready : Table
upper_ready = writes three_senders ((0x560, 0x800c1040) ∷ (0x570, 0x40080000) ∷ [])

pub record OtherPackets : Type 0 where
  pub size_0 : offer (writes at_reset ((0x510, 0x60080008) ∷ (0x500, 0x80000000) ∷ two_words)) 0 0 ≡ sent.Setup setup
  pub size_above : offer (word_after_word 16 (writes at_reset ((0x510, 0x00080064) ∷ (0x500, 0x80000065) ∷ [])) 0x1000) 0 0 ≡ sent.Out D0 (replicate 64 0x11)
  -- the transfer size has 19 bits
  pub many_bytes : offer (word_after_word 16 (writes at_reset ((0x510, 0x00080100) ∷ (0x500, 0x80000040) ∷ [])) 0x1000) 0 0 ≡ sent.Out D0 (replicate 64 0x11)
  pub most_bytes : offer (word_after_word 16 (writes at_reset ((0x510, 0x00040000) ∷ (0x500, 0x80000040) ∷ [])) 0x1000) 0 0 ≡ sent.Out D0 (replicate 64 0x11)
  pub cut : offer (writes at_reset ((0x510, 0x00080012) ∷ (0x500, 0x80000008) ∷ two_words)) 0 0 ≡ sent.Out D0 setup
  pub four_bytes : offer (writes at_reset ((0x510, 0x60080004) ∷ (0x500, 0x80000040) ∷ (0x1000, 0x01000680) ∷ [])) 0 0 ≡ sent.Idle
  pub begun_anew : offer (writes at_half ((0x500, 0xc0000040) ∷ two_words)) 0 0 ≡ sent.Setup setup
  pub removed : offer (writes at_half ((0x500, 0xc0000040) ∷ (0x1000, 0x00080000) ∷ [])) 0 0 ≡ sent.Idle
  -- the third packet finds no room, and does once another left
  pub second : offer three_sent 0 2 ≡ sent.Out D0 (replicate 64 0x11)
  pub third : offer three_sent 0 3 ≡ sent.Idle
  pub room_again : offer (word_after_word 16 (after_xact three_sent 0 1 answers.Ack) 0x3000) 0 3 ≡ sent.Out D0 (replicate 64 0x11)
  -- of two channels to one endpoint the lower one takes the bus
  pub lower : offer (writes three_sent ((0x560, 0x800c1040) ∷ (0x570, 0x40080000) ∷ [])) 0 2 ≡ sent.Out D0 (replicate 64 0x11)
  -- but the upper one while the lower one lacks its packet, and the answer is the upper one's
  pub upper : offer upper_ready 0 2 ≡ sent.Out D1 []
  pub upper_answered : read_value (after_xact upper_ready 0 2 answers.Ack) 0x568 ≡ 0x00000023
  pub lower_waits : read_value (after_xact upper_ready 0 2 answers.Ack) 0x528 ≡ 0
  pub lower_enabled : read_value (after_xact upper_ready 0 2 answers.Ack) 0x520 ≡ 0x800c1040

-- What the other answers do to that SETUP: NAK; STALL and CHH; TXERR and CHH where nothing fits.
pub record SetupAnswered : Type 0 where
  pub nak : read_value (after_setup answers.Nak) 0x508 ≡ 0x00000010
  pub again : offer (after_setup answers.Nak) 0 0 ≡ sent.Setup setup
  pub stall : read_value (after_setup answers.Stall) 0x508 ≡ 0x0000000a
  pub stalled : read_value (after_setup answers.Stall) 0x500 ≡ 0x00000040
  pub none : read_value (after_setup answers.NoAnswer) 0x508 ≡ 0x00000082
  pub unfit : read_value (after_setup (answers.Data D1 [])) 0x508 ≡ 0x00000082
  -- after each end its packet is gone
  pub gone : offer (write_table (after_setup answers.NoAnswer) 0x500 0x80000040) 0 0 ≡ sent.Idle
  pub gone_too : offer (write_table (after_setup answers.Stall) 0x500 0x80000040) 0 0 ≡ sent.Idle
  -- HCINT0 and HAINT's bit 0, and HCINT of GINTSTS beside HPRTINT
  pub all : read_value (after_setup answers.Stall) 0x414 ≡ 0x00000001
  pub core : read_value (after_setup answers.Stall) 0x014 ≡ 0x03000000
  -- under HAINTMSK 0, and under HCINTMSK0 0
  pub core_masked : read_value (write_table (after_setup answers.Stall) 0x418 0) 0x014 ≡ 0x01000000
  pub masked : read_value (write_table (after_setup answers.Stall) 0x50c 0) 0x414 ≡ 0
  -- a 1 clears
  pub cleared : read_value (write_table (after_setup answers.Stall) 0x508 0x00000008) 0x508 ≡ 0x00000002

-- The descriptor comes in on channel 1: DATA1, one packet of at most 64 bytes; CHENA, IN and the size 64.

abbrev pub at_in : Table
at_in = writes (after_setup answers.Ack) ((0x508, 0x00000023) ∷ (0x530, 0x40080040) ∷ (0x520, 0x80008040) ∷ [])

abbrev pub descriptor : List ℕ
descriptor = 0x12 ∷ 0x01 ∷ 0x00 ∷ 0x02 ∷ 0x00 ∷ 0x00 ∷ 0x00 ∷ 0x40 ∷ []

abbrev pub after_in : BusAnswer → Table
after_in answered = after_xact at_in 0 0x80 answered

abbrev pub landed : Table
landed = after_in (answers.Data D1 descriptor)

abbrev pub at_first : Table
at_first = read_table landed 0x020

abbrev pub at_second : Table
at_second = read_table at_first 0x1000

abbrev pub at_end : Table
at_end = read_table at_second 0x1000

pub record DescriptorComes : Type 0 where
  pub offered : offer at_in 0 0x80 ≡ sent.In
  -- the channel is disabled, and nothing interrupts but HPRTINT and RXFLVL
  pub channel : read_value landed 0x520 ≡ 0x00008040
  pub core : read_value landed 0x014 ≡ 0x01000010
  -- eight bytes with DATA1 on channel 1, and their two words
  pub status : read_value landed 0x020 ≡ 0x00050081
  pub shown : read_value landed 0x01c ≡ 0x00050081
  pub popped : read_value at_first 0x014 ≡ 0x01000000
  pub low_word : read_value at_first 0x1000 ≡ 0x02000112
  pub high_word : read_value at_second 0x1000 ≡ 0x40000000
  -- the end of the transfer sets ACK, CHH and XFRC
  pub ended : read_value at_end 0x020 ≡ 0x00060001
  pub before : read_value at_end 0x528 ≡ 0
  pub interrupts : read_value (read_table at_end 0x020) 0x528 ≡ 0x00000023
  pub all : read_value (read_table at_end 0x020) 0x414 ≡ 0x00000002
  pub no_more : read_value (read_table at_end 0x020) 0x020 ≡ 0

-- What other answers do to that IN token. The size of channel 1 is 8 in the last.
pub record InAnswered : Type 0 where
  -- the other PID: DTERR, and the channel goes on
  pub other_pid : read_value (after_in (answers.Data D0 descriptor)) 0x528 ≡ 0x00000400
  pub goes_on : offer (after_in (answers.Data D0 descriptor)) 0 0x80 ≡ sent.In
  pub dropped : read_value (after_in (answers.Data D0 descriptor)) 0x020 ≡ 0
  pub nak : read_value (after_in answers.Nak) 0x528 ≡ 0x00000010
  pub waits : offer (after_in answers.Nak) 0 0x80 ≡ sent.In
  pub stall : read_value (after_in answers.Stall) 0x528 ≡ 0x0000000a
  pub none : read_value (after_in answers.NoAnswer) 0x528 ≡ 0x00000082
  pub ack : read_value (after_in answers.Ack) 0x528 ≡ 0x00000082
  pub done : read_value (after_in answers.Done) 0x528 ≡ 0x00000082
  pub too_long : read_value (after_xact (write_table at_in 0x520 0x80008008) 0 0x80 (answers.Data D1 (0 ∷ descriptor))) 0x528 ≡ 0x00000082
  pub longer_other_pid : read_value (after_xact (write_table at_in 0x520 0x80008008) 0 0x80 (answers.Data D0 (0 ∷ descriptor))) 0x528 ≡ 0x00000082
  pub fits : read_value (after_xact (write_table at_in 0x520 0x80008008) 0 0x80 (answers.Data D1 descriptor)) 0x020 ≡ 0x00050081

-- The device is detached while the descriptor is awaited: PENA and PCSTS are 0, DISCINT is 1 beside HPRTINT, and no channel
-- is enabled. A 1 clears DISCINT.
abbrev pub detached : Table
detached = after_detach at_in

pub record Detached : Type 0 where
  pub port : read_value detached 0x440 ≡ 0x00001008
  pub core : read_value detached 0x014 ≡ 0x21000000
  pub channel : read_value detached 0x520 ≡ 0x00008040
  pub idle : offer detached 0 0x80 ≡ sent.Idle
  pub served : read_value (write_table detached 0x014 0x20000000) 0x014 ≡ 0x01000000
  -- attaching again doesn't enable the port
  pub again : read_value (after_attach detached) 0x440 ≡ 0x0000100b
  -- and attaching twice changes nothing
  pub twice : after_attach at_reset ≡ at_reset

-- Transmit FIFOs. Channel 2 is of type 3 (HCCHAR2 000c0840: endpoint 1, 64 bytes) and channel 3 of type 2 (HCCHAR3
-- 00081040: endpoint 2, 64 bytes). Each has five bytes with DATA0, in two words.

abbrev pub two_senders : Table
two_senders =
    writes at_reset ((0x550, 0x00080005) ∷ (0x540, 0x800c0840) ∷ (0x570, 0x00080005) ∷ (0x560, 0x80081040) ∷ [])

-- both packets are begun, and then both are ended: they stand in two FIFOs
abbrev pub interleaved : Table
interleaved = writes two_senders ((0x3000, 0x04030201) ∷ (0x4000, 0x14131211) ∷ (0x3000, 0x00000005) ∷ (0x4000, 0x00000015) ∷ [])

-- channel 2 is of type 0 here, so both send through one FIFO, and the words of channel 3 are dropped while the packet of
-- channel 2 lacks a word
abbrev pub one_fifo : Table
one_fifo =
    writes two_senders
    ((0x540, 0x80000840) ∷ (0x3000, 0x04030201) ∷ (0x4000, 0x14131211) ∷ (0x3000, 0x00000005) ∷ (0x4000, 0x24232221) ∷ (0x4000, 0x00000025) ∷ [])

-- its first word alone
abbrev pub half_shared : Table
half_shared = writes two_senders ((0x540, 0x80000840) ∷ (0x3000, 0x04030201) ∷ [])

pub record PacketsStand : Type 0 where
  pub periodic : offer interleaved 0 1 ≡ sent.Out D0 (1 ∷ 2 ∷ 3 ∷ 4 ∷ 5 ∷ [])
  pub bulk : offer interleaved 0 2 ≡ sent.Out D0 (0x11 ∷ 0x12 ∷ 0x13 ∷ 0x14 ∷ 0x15 ∷ [])
  pub shared : offer one_fifo 0 1 ≡ sent.Out D0 (1 ∷ 2 ∷ 3 ∷ 4 ∷ 5 ∷ [])
  pub dropped : offer one_fifo 0 2 ≡ sent.Out D0 (0x21 ∷ 0x22 ∷ 0x23 ∷ 0x24 ∷ 0x25 ∷ [])
  -- a disabled channel leaves the packet that another has begun
  pub others_begun : offer (writes half_shared ((0x560, 0x40081040) ∷ (0x3000, 0x00000005) ∷ [])) 0 1 ≡ sent.Out D0 (1 ∷ 2 ∷ 3 ∷ 4 ∷ 5 ∷ [])
  -- and a channel that there isn't changes nothing, by its registers and by its window
  pub beyond_control : write_table half_shared 0x600 0xc0000040 ≡ half_shared
  pub beyond_mask : write_table half_shared 0x60c 0xffffffff ≡ half_shared
  pub beyond_size : write_table half_shared 0x610 0x00080005 ≡ half_shared
  pub beyond_window : write_table interleaved 0x9000 0x01010101 ≡ interleaved
  -- a third word is dropped, since a channel has one packet at a time
  pub one_packet : write_table interleaved 0x3000 0x99999999 ≡ interleaved
  -- CHDIS removes the packet, and with CHENA in the same word enables
  pub removed : offer (write_table interleaved 0x540 0xc00c0840) 0 1 ≡ sent.Idle
  pub enabled : read_value (write_table interleaved 0x540 0xc00c0840) 0x540 ≡ 0x800c0840
  pub disabled : read_value (write_table interleaved 0x540 0x400c0840) 0x540 ≡ 0x000c0840
  pub other_stays : offer (write_table interleaved 0x540 0xc00c0840) 0 2 ≡ sent.Out D0 (0x11 ∷ 0x12 ∷ 0x13 ∷ 0x14 ∷ 0x15 ∷ [])
  -- GRSTCTL with TXFFLSH empties the FIFO 0, 1, or with 16 both
  pub flushed : offer (write_table interleaved 0x010 0x00000020) 0 2 ≡ sent.Idle
  pub unflushed : offer (write_table interleaved 0x010 0x00000020) 0 1 ≡ sent.Out D0 (1 ∷ 2 ∷ 3 ∷ 4 ∷ 5 ∷ [])
  pub periodic_flushed : offer (write_table interleaved 0x010 0x00000060) 0 1 ≡ sent.Idle
  pub all_flushed : offer (write_table interleaved 0x010 0x00000430) 0 1 ≡ sent.Idle
  -- a packet of no bytes has no words
  pub no_bytes : offer (writes two_senders ((0x550, 0x40080000) ∷ [])) 0 1 ≡ sent.Out D1 []

-- A controller with one channel has a receive FIFO of 18 words: one packet of 64 bytes with its status fills it, and a
-- packet of no bytes that finds no room counts as no answer.

abbrev pub small : Profile
small = record { in_eps = 2; out_eps = 1; channels = 1; ram_words = 128 }

abbrev pub small_in : Table
small_in =
    writes (after_attach (opened small))
    ((0x440, 0x00001102) ∷ (0x440, 0x00001000) ∷ (0x510, 0x00080040) ∷ (0x500, 0x80008040) ∷ [])

abbrev pub filled : Table
filled = write_table (after_xact small_in 0 0x80 (answers.Data D0 (replicate 64 0x55))) 0x500 0x80008040

pub record FullFifo : Type 0 where
  pub landed : read_value filled 0x020 ≡ 0x00040400
  pub no_room : read_value (after_xact filled 0 0x80 (answers.Data D0 [])) 0x508 ≡ 0x00000082
  -- the other PID asks for no room
  pub other_pid : read_value (after_xact filled 0 0x80 (answers.Data D1 [])) 0x508 ≡ 0x00000400
  -- nor do they find room beside 60 bytes, where one word is left
  pub one_left : read_value (after_xact (write_table (after_xact small_in 0 0x80 (answers.Data D0 (replicate 60 0x55))) 0x500 0x80008040) 0 0x80 (answers.Data D0 [])) 0x508 ≡ 0x00000082
  -- RXFFLSH empties it
  pub flushed : read_value (write_table filled 0x010 0x00000010) 0x020 ≡ 0

-- The device's registers in host mode: EPDIS in DIEPCTL1 disables and sets EPDISD, which DAINT and IEPINT show, and a 1
-- clears it.

abbrev pub end_disabled : Table
end_disabled = writes (opened FS4) ((0x920, 0x80000040) ∷ (0x920, 0x48000040) ∷ [])

pub record DeviceRegisters : Type 0 where
  pub control : read_value end_disabled 0x920 ≡ 0x00020040
  pub interrupts : read_value end_disabled 0x928 ≡ 0x00000002
  pub all : read_value end_disabled 0x818 ≡ 0x00000002
  pub core : read_value end_disabled 0x014 ≡ 0x00040000
  pub cleared : read_value (write_table end_disabled 0x928 0x00000002) 0x014 ≡ 0
  pub free_words : read_value end_disabled 0x938 ≡ 0
  pub out_side : read_value (write_table (opened FS4) 0xb20 0x40000000) 0x014 ≡ 0x00080000

-- The opened state of an `FS4`: FIFOs of 144, 128 and 48 words, which are all of its 320, and eight channels.
pub record OpenedWords : Type 0 where
  pub port : read_value (opened FS4) 0x440 ≡ 0x00001000
  pub mask : read_value (opened FS4) 0x018 ≡ 0xffffffff
  pub all_mask : read_value (opened FS4) 0x418 ≡ 0xffffffff
  pub empty_mask : read_value (opened FS4) 0x834 ≡ 0
  pub rx_size : read_value (opened FS4) 0x024 ≡ 144
  pub nonperiodic_size : read_value (opened FS4) 0x028 ≡ 0x00800090
  pub periodic_size : read_value (opened FS4) 0x100 ≡ 0x00300110
  pub no_endpoint_size : read_value (opened FS4) 0x104 ≡ 0
  pub words : plan_words FS4 ≡ 320
  pub last_channel : read_value (opened FS4) 0x5ec ≡ 0xffffffff
  pub no_channel : read_value (opened FS4) 0x60c ≡ 0
  pub idle : offer (opened FS4) 0 0 ≡ sent.Idle

-- A larger controller with twelve channels: FIFOs of 216, 192 and 64 words.
abbrev pub large : Profile
large = record { in_eps = 5; out_eps = 5; channels = 12; ram_words = 1024 }

pub record LargeWords : Type 0 where
  pub rx_size : read_value (opened large) 0x024 ≡ 216
  pub nonperiodic_size : read_value (opened large) 0x028 ≡ 0x00c000d8
  pub periodic_size : read_value (opened large) 0x100 ≡ 0x00400198
  pub last_channel : read_value (opened large) 0x66c ≡ 0xffffffff
