-- Which channel takes the bus, what the host sends, and what attaching, detaching and each answer change.
use Rattle.std.specs.Prelude.{ℕ, suc, ◌+◌, ◌==◌, ◌&&◌, not, nat_lt, nat_le, Bool, true, false, if◌then◌else◌, List, [], ◌∷◌, ◌++◌, length, map, Option, Some, None}
use Rattle.usb_packet.specs.declared.bus.Toggle.{Toggle}
use Rattle.usb_packet.specs.declared.bus.BusAnswer.{BusAnswer}
use Rattle.usb_packet.specs.declared.bus.BusAnswer.TheVariants as answers
use Rattle.usb_packet.specs.Toggles.{same_toggle}
use Rattle.dwc2_fifo.specs.Words.{word_count}
use Rattle.dwc2_fifo.specs.Rx.{room_of}
use Rattle.dwc2_fifo.specs.Tx.{first_with}
use Rattle.device_table.specs.Bus.{out_entries}
use Rattle.host_table.specs.declared.sent.HostSent.{HostSent}
use Rattle.host_table.specs.declared.sent.HostSent.TheVariants as sent
use Rattle.host_table.specs.State.{Table, Port, Channel, Interrupts, channel_at, with_channel}
use Rattle.host_table.specs.Words.{packet_size, transfer_size, is_in, is_setup, is_periodic, is_nonperiodic, toggle_of, speaks_to}
use Rattle.host_table.specs.Write.{packet_removed}

-- The port.

-- a device is attached: PCSTS and PCDET are set where PCSTS is 0
abbrev pub attached : Port → Port
attached port = if port.pcsts then port else record port { pcsts = true; pcdet = true }

abbrev pub after_attach : Table → Table
after_attach t = record t { port = attached t.port }

abbrev pub disabled : Channel → Channel
disabled channel = record channel { enabled = false }

-- it is detached: PCSTS and PENA are cleared, DISCINT is set and all channels are disabled
abbrev pub after_detach : Table → Table
after_detach t = record t {
  port = record t.port { pcsts = false; pena = false; discint = true };
  channels = map disabled t.channels;
}

-- whether a port reset was driven since that was last asked, and the state once it was asked
abbrev pub reset_asked : Table → Bool
reset_asked t = t.port.reset_driven

abbrev pub after_reset_asked : Table → Table
after_reset_asked t = record t { port = record t.port { reset_driven = false } }

-- What a channel has to send: an IN token, or its whole packet. A packet of no bytes has no words in a FIFO and counts as
-- whole.

-- the transmit FIFO's first whole packet of the channel
abbrev pub packet_in : Table → ℕ → Channel → Option (List ℕ)
packet_in t x channel =
    if is_periodic channel then first_with x t.periodic.packets
    else if is_nonperiodic channel then first_with x t.nonperiodic.packets
    else None

abbrev pub packet_ready : Table → ℕ → Channel → Option (List ℕ)
packet_ready t x channel = if transfer_size channel == 0 then Some [] else packet_in t x channel

-- a SETUP has eight bytes
abbrev pub packet_sent : Channel → List ℕ → HostSent
packet_sent channel bytes =
    if not (is_setup channel) then sent.Out (toggle_of channel) bytes
    else if length bytes == 8 then sent.Setup bytes
    else sent.Idle

abbrev pub sent_where_ready : Channel → Option (List ℕ) → HostSent
sent_where_ready channel None = sent.Idle
sent_where_ready channel (Some bytes) = packet_sent channel bytes

abbrev pub sent_by : Table → ℕ → Channel → HostSent
sent_by t x channel = if is_in channel then sent.In else sent_where_ready channel (packet_ready t x channel)

-- Who takes the bus: with PENA the lowest enabled channel to that address and endpoint that has what it needs. An IN channel
-- needs nothing more, a SETUP or OUT channel its whole packet.

abbrev pub asks : ℕ → ℕ → Channel → Bool
asks addr ep channel = channel.enabled && speaks_to addr ep channel

abbrev pub is_sent : HostSent → Bool
is_sent sent.Idle = false
is_sent (sent.Setup bytes) = true
is_sent (sent.Out toggle bytes) = true
is_sent sent.In = true

abbrev pub can_take : Table → ℕ → ℕ → ℕ → Channel → Bool
can_take t addr ep x channel = asks addr ep channel && is_sent (sent_by t x channel)

abbrev pub lowest_from : Table → ℕ → ℕ → ℕ → List Channel → Option ℕ
lowest_from t number addr ep [] = None
lowest_from t number addr ep (channel ∷ channels) =
    if can_take t addr ep number channel then Some number else lowest_from t (suc number) addr ep channels

abbrev pub taker : Table → ℕ → ℕ → Option ℕ
taker t addr ep = if t.port.pena then lowest_from t 0 addr ep t.channels else None

abbrev pub offer_of : Table → Option ℕ → HostSent
offer_of t None = sent.Idle
offer_of t (Some x) = sent_by t x (channel_at t x)

-- what the host sends to that address and endpoint
abbrev pub offer : Table → ℕ → ℕ → HostSent
offer t addr ep = offer_of t (taker t addr ep)

-- What comes of an answer: the packet was acknowledged, NAK, STALL, nothing that fits was heard, data came with the other
-- PID, or with the channel's.
pub data Outcome : Type 0 where
  acked : Outcome
  naked : Outcome
  stalled : Outcome
  unanswered : Outcome
  wrong_pid : Outcome
  lands : Toggle → List ℕ → Outcome

-- the words of its data and two of status
abbrev pub has_room : Table → List ℕ → Bool
has_room t bytes = nat_le (2 + word_count (length bytes)) (room_of t.rx)

-- data that is longer than the channel's size counts as no answer, and so does data with the channel's PID that finds no
-- room
abbrev pub data_outcome : Table → Channel → Toggle → List ℕ → Outcome
data_outcome t channel toggle bytes =
    if nat_lt (packet_size channel) (length bytes) then unanswered
    else if not (same_toggle (toggle_of channel) toggle) then wrong_pid
    else if not (has_room t bytes) then unanswered
    else lands toggle bytes

-- an ACK doesn't fit an IN token
abbrev pub in_outcome : Table → Channel → BusAnswer → Outcome
in_outcome t channel answers.Done = unanswered
in_outcome t channel answers.Ack = unanswered
in_outcome t channel answers.Nak = naked
in_outcome t channel answers.Stall = stalled
in_outcome t channel answers.NoAnswer = unanswered
in_outcome t channel (answers.Data toggle bytes) = data_outcome t channel toggle bytes

-- data doesn't fit a packet that was sent
abbrev pub out_outcome : BusAnswer → Outcome
out_outcome answers.Done = unanswered
out_outcome answers.Ack = acked
out_outcome answers.Nak = naked
out_outcome answers.Stall = stalled
out_outcome answers.NoAnswer = unanswered
out_outcome (answers.Data toggle bytes) = unanswered

-- What each outcome changes.

-- the transaction ends: the channel is disabled, has these interrupts, and its packet is removed
abbrev pub ended : Table → ℕ → Interrupts → Table
ended t x interrupts = with_channel (packet_removed t x) x (record (channel_at t x) { enabled = false; interrupts = interrupts })

-- it stays
abbrev pub goes_on : Table → ℕ → Interrupts → Table
goes_on t x interrupts = with_channel t x (record (channel_at t x) { interrupts = interrupts })

-- data pushes an entry of status 2 with its PID, count and words, and one of status 3, and disables
abbrev pub data_landed : Table → ℕ → Toggle → List ℕ → Table
data_landed t x toggle bytes =
    with_channel (record t { rx = record t.rx { entries = t.rx.entries ++ out_entries x toggle bytes } }) x (disabled (channel_at t x))

abbrev pub after_outcome : Table → ℕ → Interrupts → Outcome → Table
after_outcome t x it acked = ended t x (record it { ack = true; xfrc = true; chh = true })
after_outcome t x it naked = goes_on t x (record it { nak = true })
after_outcome t x it stalled = ended t x (record it { stall = true; chh = true })
after_outcome t x it unanswered = ended t x (record it { txerr = true; chh = true })
after_outcome t x it wrong_pid = goes_on t x (record it { dterr = true })
after_outcome t x it (lands toggle bytes) = data_landed t x toggle bytes

-- where nothing was sent nothing changes
abbrev pub outcome_of : Table → Channel → HostSent → BusAnswer → Option Outcome
outcome_of t channel sent.Idle reply = None
outcome_of t channel (sent.Setup bytes) reply = Some (out_outcome reply)
outcome_of t channel (sent.Out toggle bytes) reply = Some (out_outcome reply)
outcome_of t channel sent.In reply = Some (in_outcome t channel reply)

abbrev pub after_some : Table → ℕ → Option Outcome → Table
after_some t x None = t
after_some t x (Some outcome) = after_outcome t x (channel_at t x).interrupts outcome

abbrev pub after_answer : Table → Option ℕ → BusAnswer → Table
after_answer t None reply = t
after_answer t (Some x) reply = after_some t x (outcome_of t (channel_at t x) (sent_by t x (channel_at t x)) reply)

-- the transaction with that address and endpoint, and what was answered
abbrev pub after_xact : Table → ℕ → ℕ → BusAnswer → Table
after_xact t addr ep reply = after_answer t (taker t addr ep) reply
