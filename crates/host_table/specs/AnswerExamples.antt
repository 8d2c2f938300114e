-- What each answer does on channels of each type, by the words that a driver reads: HCINT1, HCCHAR1, the receive FIFO, and
-- whether the packet is still there.
use Rattle.std.specs.Prelude.{◌≡◌, ℕ, ◌+◌, ◌*◌, List, [], ◌∷◌, map, replicate}
use Rattle.usb_packet.specs.declared.bus.Toggle.TheVariants.{D0, D1}
use Rattle.usb_packet.specs.declared.bus.BusAnswer.{BusAnswer}
use Rattle.usb_packet.specs.declared.bus.BusAnswer.TheVariants as answers
use Rattle.host_table.specs.declared.sent.HostSent.{HostSent}
use Rattle.host_table.specs.declared.sent.HostSent.TheVariants as sent
use Rattle.host_table.specs.State.{Table}
use Rattle.host_table.specs.Read.{read_value}
use Rattle.host_table.specs.Write.{write_table}
use Rattle.host_table.specs.Bus.{offer, after_xact}
use Rattle.host_table.specs.Examples.{writes, at_reset, setup}

-- HCCHAR1 without CHENA: device 5, endpoint 1, the transfer type, and 64 bytes, or IN and 8 bytes
abbrev pub out_control : ℕ → ℕ
out_control type = 0x01400840 + 0x00040000 * type

abbrev pub in_control : ℕ → ℕ
in_control type = 0x01408808 + 0x00040000 * type

abbrev pub chena : ℕ
chena = 0x80000000

-- five bytes with DATA0
abbrev pub out_sender : ℕ → Table
out_sender type = writes at_reset ((0x530, 0x00080005) ∷ (0x520, chena + out_control type) ∷ (0x2000, 0x04030201) ∷ (0x2000, 0x00000005) ∷ [])

-- a SETUP
abbrev pub setup_sender : ℕ → Table
setup_sender type = writes at_reset ((0x530, 0x60080008) ∷ (0x520, chena + out_control type) ∷ (0x2000, 0x01000680) ∷ (0x2000, 0x00080000) ∷ [])

-- an IN token, where DATA0 is expected
abbrev pub in_sender : ℕ → Table
in_sender type = writes at_reset ((0x530, 0x00080008) ∷ (0x520, chena + in_control type) ∷ [])

abbrev pub out_answers : List BusAnswer
out_answers =
    answers.Ack ∷ answers.Nak ∷ answers.Stall ∷ answers.NoAnswer ∷ answers.Done ∷ answers.Data D0 [] ∷ answers.Data D1 (1 ∷ []) ∷ []

abbrev pub in_answers : List BusAnswer
in_answers =
    answers.Ack ∷ answers.Nak ∷ answers.Stall ∷ answers.NoAnswer ∷ answers.Done
    ∷ answers.Data D0 (1 ∷ 2 ∷ 3 ∷ []) ∷ answers.Data D0 (replicate 8 7) ∷ answers.Data D0 []
    ∷ answers.Data D1 (1 ∷ 2 ∷ 3 ∷ []) ∷ answers.Data D0 (replicate 9 7) ∷ answers.Data D1 (replicate 9 7) ∷ []

-- what a register reads after each of these answers
abbrev pub read_after : Table → ℕ → ℕ → List BusAnswer → List ℕ
read_after t ep off replies = map (λ reply. read_value (after_xact t 5 ep reply) off) replies

-- what is sent after each, and once the channel is enabled again
abbrev pub sent_after : Table → ℕ → List BusAnswer → List HostSent
sent_after t ep replies = map (λ reply. offer (after_xact t 5 ep reply) 5 ep) replies

abbrev pub sent_again : Table → ℕ → ℕ → List BusAnswer → List HostSent
sent_again t ep control replies = map (λ reply. offer (write_table (after_xact t 5 ep reply) 0x520 (chena + control)) 5 ep) replies

-- an OUT packet: ACK, XFRC and CHH; NAK; STALL and CHH; else TXERR and CHH. NAK alone leaves CHENA and the packet.
pub record OutPackets (type : ℕ) : Type 0 where
  pub offered : offer (out_sender type) 5 1 ≡ sent.Out D0 (1 ∷ 2 ∷ 3 ∷ 4 ∷ 5 ∷ [])
  pub interrupts : read_after (out_sender type) 1 0x528 out_answers ≡ 0x23 ∷ 0x10 ∷ 0x0a ∷ replicate 4 0x82
  pub control : read_after (out_sender type) 1 0x520 out_answers ≡ out_control type ∷ (chena + out_control type) ∷ replicate 5 (out_control type)
  pub received : read_after (out_sender type) 1 0x01c out_answers ≡ replicate 7 0
  pub next : sent_after (out_sender type) 1 out_answers ≡ sent.Idle ∷ sent.Out D0 (1 ∷ 2 ∷ 3 ∷ 4 ∷ 5 ∷ []) ∷ replicate 5 sent.Idle
  pub removed : sent_again (out_sender type) 1 (out_control type) out_answers ≡ sent.Idle ∷ sent.Out D0 (1 ∷ 2 ∷ 3 ∷ 4 ∷ 5 ∷ []) ∷ replicate 5 sent.Idle

-- a SETUP is answered as an OUT packet is
pub record Setups (type : ℕ) : Type 0 where
  pub offered : offer (setup_sender type) 5 1 ≡ sent.Setup setup
  pub interrupts : read_after (setup_sender type) 1 0x528 out_answers ≡ 0x23 ∷ 0x10 ∷ 0x0a ∷ replicate 4 0x82
  pub control : read_after (setup_sender type) 1 0x520 out_answers ≡ out_control type ∷ (chena + out_control type) ∷ replicate 5 (out_control type)
  pub next : sent_after (setup_sender type) 1 out_answers ≡ sent.Idle ∷ sent.Setup setup ∷ replicate 5 sent.Idle
  pub removed : sent_again (setup_sender type) 1 (out_control type) out_answers ≡ sent.Idle ∷ sent.Setup setup ∷ replicate 5 sent.Idle

-- an IN token: data that lands leaves HCINT1 until it is popped; the other PID sets DTERR and leaves CHENA; data above the
-- channel's 8 bytes counts as no answer, whatever its PID, and so does an ACK
pub record InTokens (type : ℕ) : Type 0 where
  pub offered : offer (in_sender type) 5 0x81 ≡ sent.In
  pub interrupts : read_after (in_sender type) 0x81 0x528 in_answers ≡
      0x82 ∷ 0x10 ∷ 0x0a ∷ 0x82 ∷ 0x82 ∷ 0 ∷ 0 ∷ 0 ∷ 0x400 ∷ 0x82 ∷ 0x82 ∷ []
  pub control : read_after (in_sender type) 0x81 0x520 in_answers ≡
      in_control type ∷ (chena + in_control type) ∷ in_control type ∷ in_control type ∷ in_control type
      ∷ in_control type ∷ in_control type ∷ in_control type ∷ (chena + in_control type) ∷ in_control type ∷ in_control type ∷ []
  -- channel 1, the bytes, DATA0 and kind 2
  pub received : read_after (in_sender type) 0x81 0x01c in_answers ≡ 0 ∷ 0 ∷ 0 ∷ 0 ∷ 0 ∷ 0x00040031 ∷ 0x00040081 ∷ 0x00040001 ∷ 0 ∷ 0 ∷ 0 ∷ []
  pub next : sent_after (in_sender type) 0x81 in_answers ≡
      sent.Idle ∷ sent.In ∷ sent.Idle ∷ sent.Idle ∷ sent.Idle ∷ sent.Idle ∷ sent.Idle ∷ sent.Idle ∷ sent.In ∷ sent.Idle ∷ sent.Idle ∷ []

pub record EachType : Type 0 where
  pub control_out : OutPackets 0
  pub bulk_out : OutPackets 2
  pub interrupt_out : OutPackets 3
  pub control_setup : Setups 0
  pub bulk_setup : Setups 2
  pub interrupt_setup : Setups 3
  pub control_in : InTokens 0
  pub bulk_in : InTokens 2
  pub interrupt_in : InTokens 3

-- What is sent, and to whom.

-- HCTSIZ1 has another PID and size, and then five bytes are written
abbrev pub sized : ℕ → ℕ → Table
sized type hctsiz = writes at_reset ((0x530, hctsiz) ∷ (0x520, chena + out_control type) ∷ (0x2000, 0x04030201) ∷ (0x2000, 0x00000005) ∷ [])

pub record SentWords : Type 0 where
  -- to that device and endpoint alone
  pub other_device : offer (out_sender 2) 4 1 ≡ sent.Idle
  pub no_address : offer (out_sender 2) 0 1 ≡ sent.Idle
  pub other_end : offer (out_sender 2) 5 2 ≡ sent.Idle
  pub other_way : offer (out_sender 2) 5 0x81 ≡ sent.Idle
  pub no_end : offer (out_sender 2) 5 0x11 ≡ sent.Idle
  pub other_way_in : offer (in_sender 2) 5 1 ≡ sent.Idle
  pub last_device : offer (writes at_reset ((0x530, 0x00080000) ∷ (0x520, 0x9fc87840) ∷ [])) 127 15 ≡ sent.Out D0 []
  -- PID 2 is DATA1; 0 and 1 are DATA0
  pub data1 : offer (sized 2 0x40080005) 5 1 ≡ sent.Out D1 (1 ∷ 2 ∷ 3 ∷ 4 ∷ 5 ∷ [])
  pub pid_1 : offer (sized 2 0x20080005) 5 1 ≡ sent.Out D0 (1 ∷ 2 ∷ 3 ∷ 4 ∷ 5 ∷ [])
  -- 3 is a SETUP's, which has eight bytes
  pub five_bytes : offer (sized 0 0x60080005) 5 1 ≡ sent.Idle
  pub no_bytes : offer (sized 0 0x60080000) 5 1 ≡ sent.Idle
  -- the packet count has no effect
  pub no_count : offer (sized 2 0x00000005) 5 1 ≡ sent.Out D0 (1 ∷ 2 ∷ 3 ∷ 4 ∷ 5 ∷ [])
  -- a size of 0 is a packet of no bytes, and words are dropped
  pub empty : offer (sized 2 0x00080000) 5 1 ≡ sent.Out D0 []
  pub filled_later : offer (writes (sized 2 0x00080000) ((0x530, 0x00080005) ∷ (0x2000, 0x04030201) ∷ (0x2000, 0x00000005) ∷ [])) 5 1 ≡ sent.Out D0 (1 ∷ 2 ∷ 3 ∷ 4 ∷ 5 ∷ [])
  -- six bytes lack one word of two, and nine one of three
  pub six_bytes : offer (sized 2 0x00080006) 5 1 ≡ sent.Out D0 (1 ∷ 2 ∷ 3 ∷ 4 ∷ 5 ∷ 0 ∷ [])
  pub nine_bytes : offer (sized 2 0x00080009) 5 1 ≡ sent.Idle
  -- type 1 has no FIFO
  pub no_fifo : offer (sized 1 0x00080005) 5 1 ≡ sent.Idle
  pub no_fifo_words : sized 1 0x00080005 ≡ writes at_reset ((0x530, 0x00080005) ∷ (0x520, chena + out_control 1) ∷ [])
  pub no_fifo_empty : offer (sized 1 0x00080000) 5 1 ≡ sent.Out D0 []
  pub no_fifo_in : offer (in_sender 1) 5 0x81 ≡ sent.In
  -- a channel that isn't enabled sends nothing, and no answer reaches it; nor does one without PENA
  pub not_enabled : offer (writes (out_sender 2) ((0x520, 0x40000000 + out_control 2) ∷ [])) 5 1 ≡ sent.Idle
  pub not_reached : after_xact (writes (in_sender 2) ((0x520, 0x40000000 + in_control 2) ∷ [])) 5 0x81 answers.Stall
      ≡ writes (in_sender 2) ((0x520, 0x40000000 + in_control 2) ∷ [])
  -- IN: PID 2 expects DATA1, and all else DATA0
  pub expects_1 : read_value (after_xact (write_table (in_sender 2) 0x530 0x40080008) 5 0x81 (answers.Data D1 [])) 0x01c ≡ 0x00050001
  pub not_0 : read_value (after_xact (write_table (in_sender 2) 0x530 0x40080008) 5 0x81 (answers.Data D0 [])) 0x528 ≡ 0x400
  pub pid_3 : read_value (after_xact (write_table (in_sender 2) 0x530 0x60080008) 5 0x81 (answers.Data D0 [])) 0x01c ≡ 0x00040001
  -- what was set before stays: NAK, and then ACK, XFRC and CHH
  pub both : read_value (after_xact (after_xact (out_sender 2) 5 1 answers.Nak) 5 1 answers.Ack) 0x528 ≡ 0x33
