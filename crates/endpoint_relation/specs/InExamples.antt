-- Worked words and lines of an IN endpoint (RM0090, DIEPCTLx, DIEPTSIZx, DIEPINTx and GRSTCTL).
use Rattle.std.specs.Prelude.{◌≡◌, ℕ, ◌+◌, true, false, List, [], ◌∷◌}
use Rattle.usb_packet.specs.declared.bus.Owner.TheVariants.{Core}
use Rattle.usb_packet.specs.declared.bus.Toggle.TheVariants.{D0, D1}
use Rattle.usb_packet.specs.declared.bus.BusAnswer.{BusAnswer}
use Rattle.usb_packet.specs.declared.bus.BusAnswer.TheVariants as answers
use Rattle.usb_descriptor.specs.declared.endpoint.Endpoint.{Endpoint}
use Rattle.usb_descriptor.specs.declared.endpoint.EpKind.TheVariants.{Bulk, Interrupt}
use Rattle.dwc2_regs.specs.Register.{dieptsiz, diepctl, fifo}
use Rattle.device_table.specs.State.{Table, in_end_of, tx_depth}
use Rattle.device_table.specs.Write.{after_write}
use Rattle.device_pipe.specs.InPipe.{InEvent, Token, Does, Irq, Task, Starts, Writes}
use Rattle.endpoint_relation.specs.InWords.{in_base, in_cnak, in_snak_epena, in_snak_epdis, in_snak_sd0pid, in_snak_sd0pid_epdis, in_size_word, in_xfrc, in_both, in_flush}
use Rattle.endpoint_relation.specs.InRelation.{InJoint, in_unused}
use Rattle.endpoint_relation.specs.InSteps.{token_answer, in_opened, software_opened}
use Rattle.endpoint_relation.specs.InRuns.{in_event}
use Rattle.endpoint_relation.specs.InTable.{loaded_at, flush_all}

-- a bulk endpoint of 64 bytes as number 1, and an interrupt endpoint of 8 bytes as number 3
abbrev pub bulk : Endpoint
bulk = record { addr = 0x81; kind = Bulk; size = 64; owner = Core }

abbrev pub interrupt : Endpoint
interrupt = record { addr = 0x83; kind = Interrupt; size = 8; owner = Core }

-- DIEPCTL1 at the opening, at the begin of loading and at its end; DIEPCTL3 halted, then cleared, and where what was loaded is
-- dropped; what closes
pub record ControlWords : Type 0 where
  pub opens : in_base 1 bulk false + in_snak_sd0pid ≡ 0x18488040
  pub enables : in_base 1 bulk false + in_snak_epena ≡ 0x88488040
  pub readies : in_base 1 bulk false + in_cnak ≡ 0x04488040
  pub halts : in_base 3 interrupt true + 0 ≡ 0x00ec8008
  pub clears : in_base 3 interrupt false + in_snak_sd0pid_epdis ≡ 0x58cc8008
  pub drops : in_base 3 interrupt true + in_snak_epdis ≡ 0x48ec8008
  pub closes : in_snak_epdis ≡ 0x48000000

-- DIEPTSIZ for packets of 64 and 36 bytes, and for an empty one; DIEPINT; GRSTCTL for FIFO 2 and for all
pub record OtherWords : Type 0 where
  pub two : in_size_word 2 100 ≡ 0x00100064
  pub none : in_size_word 1 0 ≡ 0x00080000
  pub found : in_xfrc ≡ 1
  pub both : in_both ≡ 3
  pub flush : in_flush 2 ≡ 0xa0
  pub flush_each : flush_all ≡ 0x420

-- the lines that load ten bytes as two packets of endpoint 3
abbrev pub TenBytes : Type 0
TenBytes =
    (t : Table)
    → loaded_at 3 (software_opened interrupt) ((1 ∷ 2 ∷ 3 ∷ 4 ∷ 5 ∷ 6 ∷ 7 ∷ 8 ∷ []) ∷ (9 ∷ 10 ∷ []) ∷ []) t
    ≡ after_write (after_write (after_write (after_write (after_write (after_write t
    (dieptsiz 3) 0x0010000a) (diepctl 3) 0x88cc8008) (fifo 3) 0x04030201) (fifo 3) 0x08070605) (fifo 3) 0x00000a09) (diepctl 3) 0x04cc8008

-- A run, and the answer to a token after each of its events.
abbrev pub answers_in : ℕ → InJoint → List InEvent → List BusAnswer
answers_in number j [] = []
answers_in number j (event ∷ events) =
    let next = in_event number 64 j event in
    token_answer number next.end ∷ answers_in number next events

abbrev pub just_opened : InJoint
just_opened = in_opened 3 interrupt (record { end = in_end_of tx_depth; software = in_unused; ring = [] })

-- ten bytes are two packets, of which one is lost once; then the transfer is over, and one of no bytes is an empty packet
abbrev pub ten_bytes : List InEvent
ten_bytes =
    Does (Writes (1 ∷ 2 ∷ 3 ∷ 4 ∷ 5 ∷ 6 ∷ 7 ∷ 8 ∷ 9 ∷ 10 ∷ [])) ∷ Does Starts ∷ Does Irq ∷ Token false ∷ Token true ∷ Does Irq ∷ Token true
    ∷ Does Irq ∷ Does Task ∷ Does Starts ∷ Does Irq ∷ Token true ∷ []

abbrev pub ten_answers : List BusAnswer
ten_answers =
    answers.Nak ∷ answers.Nak ∷ answers.Data D0 (1 ∷ 2 ∷ 3 ∷ 4 ∷ 5 ∷ 6 ∷ 7 ∷ 8 ∷ []) ∷ answers.Data D0 (1 ∷ 2 ∷ 3 ∷ 4 ∷ 5 ∷ 6 ∷ 7 ∷ 8 ∷ [])
    ∷ answers.Data D1 (9 ∷ 10 ∷ []) ∷ answers.Data D1 (9 ∷ 10 ∷ []) ∷ answers.Nak
    ∷ answers.Nak ∷ answers.Nak ∷ answers.Nak ∷ answers.Data D0 [] ∷ answers.Nak ∷ []

abbrev pub TenAnswers : Type 0
TenAnswers = answers_in 3 just_opened ten_bytes ≡ ten_answers
