-- What each answer does to the channel that took the bus, row by row (RM0090, OTG_FS host channel interrupts).
use Rattle.std.specs.Prelude.{◌≡◌, ℕ, ◌+◌, ◌<◌, ◌≤◌, true, false, List, ◌++◌, length, Some}
use Rattle.usb_packet.specs.declared.bus.Toggle.{Toggle}
use Rattle.usb_packet.specs.declared.bus.BusAnswer.{BusAnswer}
use Rattle.usb_packet.specs.declared.bus.BusAnswer.TheVariants as answers
use Rattle.usb_packet.specs.Toggles.{same_toggle}
use Rattle.dwc2_fifo.specs.Words.{word_count}
use Rattle.dwc2_fifo.specs.Rx.{room_of}
use Rattle.device_table.specs.Bus.{out_entries}
use Rattle.host_table.specs.State.{Table, Interrupts, channel_at, with_channel}
use Rattle.host_table.specs.Words.{is_in, toggle_of, packet_size}
use Rattle.host_table.specs.Write.{released}
use Rattle.host_table.specs.Bus.{taker, after_xact}

-- the transaction ends: CHENA is 0, HCINTx is so, and no packet of the channel is left in a transmit FIFO
pub record EndsWith (t : Table) (x : ℕ) (it : Interrupts) (new : Table) : Type 0 where
  pub channel : channel_at new x ≡ record (channel_at t x) { enabled = false; interrupts = it }
  pub nonperiodic : new.nonperiodic ≡ released x t.nonperiodic
  pub periodic : new.periodic ≡ released x t.periodic
  pub rx : new.rx ≡ t.rx

-- it goes on: HCINTx is so, and nothing else changes
abbrev pub StaysWith : Table → ℕ → Interrupts → Table → Type 0
StaysWith t x it new = new ≡ with_channel t x (record (channel_at t x) { interrupts = it })

-- data lands: its entries are behind all others, CHENA is 0, and nothing else changes, HCINTx neither
abbrev pub LandsWith : Table → ℕ → Toggle → List ℕ → Table → Type 0
LandsWith t x toggle bytes new =
    new ≡ with_channel (record t { rx = record t.rx { entries = t.rx.entries ++ out_entries x toggle bytes } }) x (record (channel_at t x) { enabled = false })

-- HCINTx with what an answer adds
abbrev pub completed : Interrupts → Interrupts
completed it = record it { ack = true; xfrc = true; chh = true }

abbrev pub with_nak : Interrupts → Interrupts
with_nak it = record it { nak = true }

abbrev pub with_stall : Interrupts → Interrupts
with_stall it = record it { stall = true; chh = true }

abbrev pub with_error : Interrupts → Interrupts
with_error it = record it { txerr = true; chh = true }

abbrev pub with_other_pid : Interrupts → Interrupts
with_other_pid it = record it { dterr = true }

-- a SETUP or OUT packet, of whatever type its channel is: only ACK, NAK and STALL fit it
pub record OutAnswered (t : Table) (x : ℕ) (it : Interrupts) (after : BusAnswer → Table) : Type 0 where
  pub ack : EndsWith t x (completed it) (after answers.Ack)
  pub nak : StaysWith t x (with_nak it) (after answers.Nak)
  pub stall : EndsWith t x (with_stall it) (after answers.Stall)
  pub none : EndsWith t x (with_error it) (after answers.NoAnswer)
  pub done : EndsWith t x (with_error it) (after answers.Done)
  pub content : (toggle : Toggle) (bytes : List ℕ) → EndsWith t x (with_error it) (after (answers.Data toggle bytes))

-- data for an IN token: of a length that fits, with the channel's PID and with room, it lands
pub record DataAnswered (t : Table) (x : ℕ) (it : Interrupts) (toggle : Toggle) (bytes : List ℕ) (new : Table) : Type 0 where
  pub too_long : packet_size (channel_at t x) < length bytes → EndsWith t x (with_error it) new
  pub other_pid : length bytes ≤ packet_size (channel_at t x) → same_toggle (toggle_of (channel_at t x)) toggle ≡ false → StaysWith t x (with_other_pid it) new
  pub no_room : length bytes ≤ packet_size (channel_at t x) → same_toggle (toggle_of (channel_at t x)) toggle ≡ true
      → room_of t.rx < 2 + word_count (length bytes) → EndsWith t x (with_error it) new
  pub lands : length bytes ≤ packet_size (channel_at t x) → same_toggle (toggle_of (channel_at t x)) toggle ≡ true
      → 2 + word_count (length bytes) ≤ room_of t.rx → LandsWith t x toggle bytes new

-- an IN token: only NAK, STALL and data fit it
pub record InTokenAnswered (t : Table) (x : ℕ) (it : Interrupts) (after : BusAnswer → Table) : Type 0 where
  pub ack : EndsWith t x (with_error it) (after answers.Ack)
  pub nak : StaysWith t x (with_nak it) (after answers.Nak)
  pub stall : EndsWith t x (with_stall it) (after answers.Stall)
  pub none : EndsWith t x (with_error it) (after answers.NoAnswer)
  pub done : EndsWith t x (with_error it) (after answers.Done)
  pub content : (toggle : Toggle) (bytes : List ℕ) → DataAnswered t x it toggle bytes (after (answers.Data toggle bytes))

pub record Answered (t : Table) (x : ℕ) (after : BusAnswer → Table) : Type 0 where
  pub out : is_in (channel_at t x) ≡ false → OutAnswered t x (channel_at t x).interrupts after
  pub token : is_in (channel_at t x) ≡ true → InTokenAnswered t x (channel_at t x).interrupts after

abbrev pub AnswersAct : Type 0
AnswersAct = (t : Table) (addr ep x : ℕ) → taker t addr ep ≡ Some x → Answered t x (λ answered. after_xact t addr ep answered)
