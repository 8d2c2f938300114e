-- Words that are known from outside.
use Rattle.std.specs.Prelude.{◌≡◌, ◌≤◌, ℕ, Bool, true, false, List, [], ◌∷◌}
use Rattle.usb_packet.specs.declared.bus.Toggle.TheVariants.{D0, D1}
use Rattle.usb_packet.specs.declared.bus.BusEvent.{BusEvent}
use Rattle.usb_packet.specs.declared.bus.BusEvent.TheVariants as event
use Rattle.usb_packet.specs.declared.bus.BusAnswer.TheVariants as answers
use Rattle.dwc2_regs.specs.declared.access.Profile.{Profile}
use Rattle.dwc2_regs.specs.declared.access.TheConstants.{FS4}
use Rattle.device_table.specs.State.{Table, first, opened, plan_words}
use Rattle.device_table.specs.Read.{read_value, read_table}
use Rattle.device_table.specs.Write.{write_table}
use Rattle.device_table.specs.Bus.{bus_answer, after_bus}

-- a reset came, and USBRST was cleared
abbrev pub awake : Table
awake = write_table (after_bus (first FS4) event.Reset) 0x014 0x3000

-- GET_DESCRIPTOR of the device descriptor, 18 bytes
abbrev pub setup : BusEvent
setup = event.Setup 0 (0x80 ∷ 0x06 ∷ 0x00 ∷ 0x01 ∷ 0x00 ∷ 0x00 ∷ 0x12 ∷ 0x00 ∷ []) true

abbrev pub at_setup : Table
at_setup = after_bus awake setup

abbrev pub at_data : Table
at_data = read_table at_setup 0x020

abbrev pub at_second : Table
at_second = read_table at_data 0x1000

abbrev pub at_end : Table
at_end = read_table at_second 0x1000

-- the SETUP is acknowledged, and GRXSTSP, window 0 twice and GRXSTSP read its entry, its words and its end
pub record SetupWords : Type 0 where
  pub acknowledged : bus_answer awake setup ≡ answers.Ack
  pub status : read_value at_setup 0x020 ≡ 0x000c0080
  pub low_word : read_value at_data 0x1000 ≡ 0x01000680
  pub high_word : read_value at_second 0x1000 ≡ 0x00120000
  pub ended : read_value at_end 0x020 ≡ 0x00080000

-- endpoint 1 open and enabled for 64 bytes: USBAEP, CNAK, EPENA
abbrev pub armed : Table → Table
armed t = write_table t 0xb20 0x84008040

abbrev pub out_packet : BusEvent
out_packet = event.Out 0 1 D1 (1 ∷ 2 ∷ 3 ∷ 4 ∷ 5 ∷ []) true

-- a DATA0 packet landed, and its two entries were popped
abbrev pub after_first : Table
after_first = read_table (read_table (after_bus (armed awake) (event.Out 0 1 D0 [] true)) 0x020) 0x020

abbrev pub after_second : Table
after_second = after_bus (armed after_first) out_packet

-- the DATA1 packet behind it is acknowledged, and has the status 00050051
pub record PacketStatus : Type 0 where
  pub acknowledged : bus_answer (armed after_first) out_packet ≡ answers.Ack
  pub status : read_value after_second 0x020 ≡ 0x00050051

-- The whole transfer of that descriptor, as a driver serves it.

abbrev pub writes : Table → List (ℕ × ℕ) → Table
writes t [] = t
writes t (access ∷ accesses) = writes (write_table t access.0 access.1) accesses

-- both entries of the SETUP were popped, with its words
abbrev pub served : Table
served = read_table at_end 0x020

-- DIEPTSIZ0 with one packet of 18 bytes; DIEPCTL0 with SNAK and EPENA; the five words at window 0; DIEPCTL0 with CNAK; and for
-- the status stage DOEPCTL0 with EPENA and CNAK
abbrev pub loaded : Table
loaded =
    writes served
    ((0x910, 0x00080012) ∷ (0x900, 0x88000000) ∷ (0x1000, 0x02000112) ∷ (0x1000, 0x40000000) ∷ (0x1000, 0x4001cafe)
    ∷ (0x1000, 0x00000100) ∷ (0x1000, 0x00000100) ∷ (0x900, 0x04000000) ∷ (0xb00, 0x84000000) ∷ [])

abbrev pub descriptor : List ℕ
descriptor = 0x12 ∷ 0x01 ∷ 0x00 ∷ 0x02 ∷ 0x00 ∷ 0x00 ∷ 0x00 ∷ 0x40 ∷ 0xfe ∷ 0xca ∷ 0x01 ∷ 0x40 ∷ 0x00 ∷ 0x01 ∷ 0x00 ∷ 0x00 ∷ 0x00 ∷ 0x01 ∷ []

abbrev pub in_token : Bool → BusEvent
in_token acknowledged = event.In 0 0 acknowledged

abbrev pub status_packet : BusEvent
status_packet = event.Out 0 0 D1 [] true

-- the token whose data isn't acknowledged gives the same data again
abbrev pub sent_once : Table
sent_once = after_bus loaded (in_token false)

abbrev pub sent : Table
sent = after_bus sent_once (in_token true)

abbrev pub ended : Table
ended = after_bus sent status_packet

pub record DescriptorRead : Type 0 where
  -- before it is loaded, endpoint 0 answers NAK
  pub not_ready : bus_answer served (in_token true) ≡ answers.Nak
  pub first_time : bus_answer loaded (in_token false) ≡ answers.Data D1 descriptor
  pub second_time : bus_answer sent_once (in_token true) ≡ answers.Data D1 descriptor
  -- XFRC and TXFE
  pub interrupts : read_value sent 0x908 ≡ 0x81
  -- the status packet is acknowledged, again where it comes again, and then there is no data any more
  pub status_stage : bus_answer sent status_packet ≡ answers.Ack
  pub repeated : bus_answer ended status_packet ≡ answers.Ack
  pub no_more : bus_answer ended (in_token true) ≡ answers.Nak
  -- a DATA1 packet of no bytes on endpoint 0
  pub entry : read_value ended 0x020 ≡ 0x00050000

-- three SETUPs lie unserved, and the fourth isn't answered
abbrev pub three_setups : Table
three_setups = after_bus (after_bus at_setup setup) setup

pub record FourthSetup : Type 0 where
  pub third : bus_answer (after_bus at_setup setup) setup ≡ answers.Ack
  pub fourth : bus_answer three_setups setup ≡ answers.NoAnswer
  -- nor does a CNAK end the NAK of endpoint 0: NAKSTS stays
  pub naks : read_value (write_table three_setups 0x900 0x04000000) 0x900 ≡ 0x00020000

-- Before the first SETUP: OUT of endpoint 0 is enabled (EPENA and CNAK) once the reset is served. Its toggle is DATA0, which
-- only a SETUP changes to DATA1. So a DATA1 packet is acknowledged and dropped, and a DATA0 packet lands.
abbrev pub unasked : Table
unasked = write_table awake 0xb00 0x84000000

pub record BeforeSetup : Type 0 where
  pub data1 : bus_answer unasked status_packet ≡ answers.Ack
  pub dropped : after_bus unasked status_packet ≡ unasked
  pub data0 : bus_answer unasked (event.Out 0 0 D0 [] true) ≡ answers.Ack
  pub landed : read_value (after_bus unasked (event.Out 0 0 D0 [] true)) 0x020 ≡ 0x00040000

-- GINTMSK, DIEPEMPMSK, GRXFSIZ and DIEPTXF0 to DIEPTXF4 in the opened state of an `FS4`: the receive FIFO has 84 words, that
-- of endpoint 0 has 16, and each of three others 32, which makes 196 of its 320
pub record OpenedWords : Type 0 where
  pub mask : read_value (opened FS4) 0x018 ≡ 0xffffffff
  pub empty_mask : read_value (opened FS4) 0x834 ≡ 0
  pub rx_size : read_value (opened FS4) 0x024 ≡ 84
  pub tx0_size : read_value (opened FS4) 0x028 ≡ 0x00100054
  pub tx1_size : read_value (opened FS4) 0x104 ≡ 0x00200064
  pub tx2_size : read_value (opened FS4) 0x108 ≡ 0x00200084
  pub tx3_size : read_value (opened FS4) 0x10c ≡ 0x002000a4
  pub tx4_size : read_value (opened FS4) 0x110 ≡ 0
  pub words : plan_words FS4 ≡ 196
  pub fits : plan_words FS4 ≤ 320
  pub sleeps : bus_answer (opened FS4) setup ≡ answers.NoAnswer

-- HCINTMSK7 is a channel's mask, and HCINTMSK8 no channel's; DTXFSTS3 has 32 free words and DTXFSTS4 none; DOEPTSIZ3 keeps
-- what is written, and DOEPTSIZ4 reads 0
pub record OpenedEnds : Type 0 where
  pub last_channel : read_value (opened FS4) 0x5ec ≡ 0xffffffff
  pub no_channel : read_value (opened FS4) 0x60c ≡ 0
  pub last_in : read_value (opened FS4) 0x978 ≡ 32
  pub no_in : read_value (opened FS4) 0x998 ≡ 0
  pub last_out : read_value (write_table (opened FS4) 0xb70 5) 0xb70 ≡ 5
  pub no_out : read_value (write_table (opened FS4) 0xb90 5) 0xb90 ≡ 0

-- a controller with two IN endpoints and one OUT endpoint beside endpoint 0, and one channel: FIFOs of 48, 16, 32 and 32
-- words
abbrev pub small : Profile
small = record { in_eps = 2; out_eps = 1; channels = 1; ram_words = 128 }

pub record SmallWords : Type 0 where
  pub rx_size : read_value (opened small) 0x024 ≡ 48
  pub tx2_size : read_value (opened small) 0x108 ≡ 0x00200060
  pub no_tx3_size : read_value (opened small) 0x10c ≡ 0
  pub words : plan_words small ≡ 128
  pub last_in : read_value (opened small) 0x958 ≡ 32
  pub no_in : read_value (opened small) 0x978 ≡ 0
  pub last_out : read_value (write_table (opened small) 0xb30 5) 0xb30 ≡ 5
  pub no_out : read_value (write_table (opened small) 0xb50 5) 0xb50 ≡ 0
  pub last_channel : read_value (opened small) 0x50c ≡ 0xffffffff
  pub no_channel : read_value (opened small) 0x52c ≡ 0
