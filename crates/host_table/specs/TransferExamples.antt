-- Transfers from the attach on: bulk data from device 5, and two channels to one device.
use Rattle.std.specs.Prelude.{◌≡◌, [], ◌∷◌, replicate}
use Rattle.usb_packet.specs.declared.bus.Toggle.TheVariants.{D0, D1}
use Rattle.usb_packet.specs.declared.bus.BusAnswer.TheVariants as answers
use Rattle.dwc2_regs.specs.declared.access.TheConstants.{FS4}
use Rattle.host_table.specs.declared.sent.HostSent.TheVariants as sent
use Rattle.host_table.specs.State.{Table, opened}
use Rattle.host_table.specs.Read.{read_value, read_table}
use Rattle.host_table.specs.Write.{write_table}
use Rattle.host_table.specs.Bus.{after_attach, offer, after_xact}
use Rattle.host_table.specs.Examples.{writes}

-- a device is attached and reset, and both are noted
abbrev pub port_ready : Table
port_ready = writes (after_attach (opened FS4)) ((0x440, 0x00001102) ∷ (0x440, 0x00001000) ∷ (0x440, 0x00001008) ∷ [])

-- Channel 2 asks endpoint 2 of device 5 for data: HCTSIZ2 has DATA1, one packet and 64 bytes, HCCHAR2 CHENA, address 5, type
-- 2, endpoint 2, IN and 64 bytes.

abbrev pub asked : Table
asked = writes port_ready ((0x550, 0x40080040) ∷ (0x540, 0x81489040) ∷ [])

-- NAK first, which is noted; then six bytes
abbrev pub waiting : Table
waiting = after_xact asked 5 0x82 answers.Nak

abbrev pub received : Table
received = after_xact (write_table waiting 0x548 0x10) 5 0x82 (answers.Data D1 (1 ∷ 2 ∷ 3 ∷ 4 ∷ 5 ∷ 6 ∷ []))

abbrev pub popped : Table
popped = read_table received 0x020

abbrev pub ended : Table
ended = read_table (read_table (read_table popped 0x1000) 0x1000) 0x020

-- the next packet is expected with DATA0, and has 64 bytes
abbrev pub next_received : Table
next_received =
    after_xact (writes ended ((0x548, 0x23) ∷ (0x550, 0x00080040) ∷ (0x540, 0x81489040) ∷ [])) 5 0x82 (answers.Data D0 (replicate 64 0x55))

pub record BulkComes : Type 0 where
  pub port : read_value port_ready 0x440 ≡ 0x00001005
  pub quiet : read_value port_ready 0x014 ≡ 0
  pub offered : offer asked 5 0x82 ≡ sent.In
  pub other_end : offer asked 5 0x81 ≡ sent.Idle
  pub other_way : offer asked 5 0x02 ≡ sent.Idle
  pub other_device : offer asked 0 0x82 ≡ sent.Idle
  pub nak : read_value waiting 0x548 ≡ 0x10
  pub told : read_value waiting 0x014 ≡ 0x02000000
  pub which : read_value waiting 0x414 ≡ 0x00000004
  pub still : offer waiting 5 0x82 ≡ sent.In
  pub level : read_value received 0x014 ≡ 0x00000010
  pub disabled : read_value received 0x540 ≡ 0x01489040
  -- six bytes with DATA1 on channel 2, two words, and the end
  pub status : read_value received 0x020 ≡ 0x00050062
  pub low_word : read_value popped 0x1000 ≡ 0x04030201
  pub high_word : read_value (read_table popped 0x1000) 0x1000 ≡ 0x00000605
  pub end : read_value (read_table (read_table popped 0x1000) 0x1000) 0x020 ≡ 0x00060002
  pub interrupts : read_value ended 0x548 ≡ 0x23
  pub empty : read_value ended 0x020 ≡ 0
  pub all : read_value ended 0x414 ≡ 0x00000004
  -- 64 bytes with DATA0
  pub next : read_value next_received 0x020 ≡ 0x00040402
  pub again_sent : read_value (after_xact (writes ended ((0x550, 0x00080040) ∷ (0x540, 0x81489040) ∷ [])) 5 0x82 (answers.Data D1 (1 ∷ []))) 0x548 ≡ 0x423

-- Two more channels to device 5: channel 3 sends four bytes to endpoint 1, and channel 4 asks endpoint 1 for data.

abbrev pub three_channels : Table
three_channels =
    writes asked ((0x570, 0x00080004) ∷ (0x560, 0x81480840) ∷ (0x4000, 0x64636261) ∷ (0x590, 0x00080040) ∷ (0x580, 0x81488840) ∷ [])

abbrev pub one_taken : Table
one_taken = after_xact three_channels 5 1 answers.Ack

-- data on channel 4, and then on channel 2
abbrev pub both_received : Table
both_received = after_xact (after_xact one_taken 5 0x81 (answers.Data D0 (0x41 ∷ []))) 5 0x82 (answers.Data D1 (0x21 ∷ 0x22 ∷ []))

abbrev pub one_popped : Table
one_popped = read_table (read_table (read_table both_received 0x020) 0x1000) 0x020

pub record TwoChannels : Type 0 where
  pub sends : offer three_channels 5 1 ≡ sent.Out D0 (0x61 ∷ 0x62 ∷ 0x63 ∷ 0x64 ∷ [])
  pub asks : offer three_channels 5 0x81 ≡ sent.In
  pub asks_too : offer three_channels 5 0x82 ≡ sent.In
  -- the ACK is channel 3's alone
  pub acknowledged : read_value one_taken 0x568 ≡ 0x23
  pub not_4 : read_value one_taken 0x588 ≡ 0
  pub not_2 : read_value one_taken 0x548 ≡ 0
  pub disabled : read_value one_taken 0x560 ≡ 0x01480840
  pub enabled_4 : read_value one_taken 0x580 ≡ 0x81488840
  pub enabled_2 : read_value one_taken 0x540 ≡ 0x81489040
  pub which : read_value one_taken 0x414 ≡ 0x00000008
  pub sent_no_more : offer one_taken 5 1 ≡ sent.Idle
  pub asks_still : offer one_taken 5 0x81 ≡ sent.In
  -- entries come in order, and each end is its channel's
  pub first_status : read_value both_received 0x020 ≡ 0x00040014
  pub first_word : read_value (read_table both_received 0x020) 0x1000 ≡ 0x00000041
  pub first_end : read_value (read_table (read_table both_received 0x020) 0x1000) 0x020 ≡ 0x00060004
  pub done_4 : read_value one_popped 0x588 ≡ 0x23
  pub not_yet_2 : read_value one_popped 0x548 ≡ 0
  pub second_status : read_value one_popped 0x020 ≡ 0x00050022
  pub two : read_value one_popped 0x414 ≡ 0x00000018
