-- Laws of the steps.
use Rattle.std.specs.Prelude.{◌≡◌, ◌≢◌, ℕ, ◌+◌, ◌*◌, ◌/◌, ◌%◌, ◌^◌, ◌<◌, ◌≤◌, ◌==◌, ◌||◌, ◌⊎◌, Bool, true, false, IsTrue, if◌then◌else◌, List, [], ◌∷◌, ◌++◌, length, slice_index, Option, Some, None, is_some}
use Rattle.usb_packet.specs.declared.bus.Toggle.{Toggle}
use Rattle.usb_packet.specs.declared.bus.BusAnswer.{BusAnswer}
use Rattle.usb_packet.specs.declared.bus.BusAnswer.TheVariants as answers
use Rattle.dwc2_regs.specs.declared.access.Profile.{Profile}
use Rattle.dwc2_regs.specs.Register.{Register, grxstsp, hprt, hcchar, hcint, hcintmsk, hctsiz, fifo}
use Rattle.dwc2_fifo.specs.Words.{words_of, word_count}
use Rattle.dwc2_fifo.specs.Tx.{Tagged, Begun, Tx, space_of, first_with}
use Rattle.device_table.specs.Words.{pid_of, status_word, out_data, out_done}
use Rattle.device_table.specs.Laws.{is_plain}
use Rattle.device_table.specs.Bus.{out_entries}
use Rattle.host_table.specs.declared.sent.HostSent.TheVariants as sent
use Rattle.host_table.specs.State.{Table, Port, Channel, first, opened, channel_at, rx_depth, nonperiodic_depth, periodic_depth}
use Rattle.host_table.specs.Words.{kept_bits, port_bits, is_periodic, is_nonperiodic}
use Rattle.host_table.specs.Read.{value_read, after_read, received_all}
use Rattle.host_table.specs.Write.{after_write, packet_length, drives_reset}
use Rattle.host_table.specs.Bus.{can_take, taker, offer, after_xact, after_attach, after_detach, data_landed}

-- What is read back.

-- the registers that keep every bit as written, and have no effect but by their value
abbrev pub PlainReadsBack : Type 0
PlainReadsBack =
    (register : Register) (t : Table) (word : ℕ) → IsTrue (is_plain register)
    → value_read (after_write t register word) register ≡ word

-- so do the masks and the transfer sizes of the channels that there are
abbrev pub ChannelReadsBack : Type 0
ChannelReadsBack =
    (x : ℕ) (t : Table) (word : ℕ) → x < length t.channels
    → (value_read (after_write t (hcintmsk x) word) (hcintmsk x) ≡ word)
    × (value_read (after_write t (hctsiz x) word) (hctsiz x) ≡ word)

-- a controller has as many endpoints, sizes of their FIFOs and channels as its profile says, and FIFOs of the plan
pub record IsOf (profile : Profile) (t : Table) : Type 0 where
  pub ins : length t.device.ins ≡ profile.in_eps + 1
  pub outs : length t.device.outs ≡ profile.out_eps + 1
  pub sizes : length t.kept.dieptxfs ≡ profile.in_eps
  pub channels : length t.channels ≡ profile.channels
  pub rx : t.rx.depth ≡ rx_depth profile
  pub nonperiodic : t.nonperiodic.depth ≡ nonperiodic_depth profile
  pub periodic : t.periodic.depth ≡ periodic_depth profile

abbrev pub CountsAreKept : Type 0
CountsAreKept = (profile : Profile) → IsOf profile (first profile) × IsOf profile (opened profile)

-- and the registers of channels beyond them read 0, whatever was written
abbrev pub BeyondReadsNothing : Type 0
BeyondReadsNothing =
    (t : Table) (x : ℕ) → length t.channels ≤ x
    → (value_read t (hcchar x) ≡ 0) × (value_read t (hcint x) ≡ 0) × (value_read t (hcintmsk x) ≡ 0) × (value_read t (hctsiz x) ≡ 0)

-- Other channels stay.

-- the packet that is begun, where it is the channel's
abbrev pub begun_with : ℕ → Option Begun → Option Begun
begun_with y None = None
begun_with y (Some begun) = if begun.tag == y then Some begun else None

-- all other channels are as they were, with the packets that they have in the transmit FIFOs, whole or begun, and so is all that
-- is no channel's but the receive FIFO
pub record OthersSame (x : ℕ) (old new : Table) : Type 0 where
  pub channels : (y : ℕ) → y ≢ x → channel_at new y ≡ channel_at old y
  pub nonperiodic : (y : ℕ) → y ≢ x → first_with y new.nonperiodic.packets ≡ first_with y old.nonperiodic.packets
  pub periodic : (y : ℕ) → y ≢ x → first_with y new.periodic.packets ≡ first_with y old.periodic.packets
  pub nonperiodic_begun : (y : ℕ) → y ≢ x → begun_with y new.nonperiodic.unfinished ≡ begun_with y old.nonperiodic.unfinished
  pub periodic_begun : (y : ℕ) → y ≢ x → begun_with y new.periodic.unfinished ≡ begun_with y old.periodic.unfinished
  pub port : new.port ≡ old.port
  pub kept : new.kept ≡ old.kept
  pub host : new.host ≡ old.host
  pub device : new.device ≡ old.device

-- the channel whose register or FIFO window it is
abbrev pub whose : Register → Option ℕ
whose (hcchar x) = Some x
whose (hcint x) = Some x
whose (hcintmsk x) = Some x
whose (hctsiz x) = Some x
whose (fifo x) = Some x
whose other = None

abbrev pub WriteLeaves : Option ℕ → Table → Table → Type 0
WriteLeaves None old new = Unit {0}
WriteLeaves (Some x) old new = OthersSame x old new × (new.rx ≡ old.rx)

abbrev pub OthersStay : Type 0
OthersStay = (register : Register) (t : Table) (word : ℕ) → WriteLeaves (whose register) t (after_write t register word)

-- an answer changes the channel that takes the bus, and where none does, nothing
abbrev pub AnswerLeaves : Option ℕ → Table → Table → Type 0
AnswerLeaves None old new = new ≡ old
AnswerLeaves (Some x) old new = OthersSame x old new

abbrev pub BusLeavesOthers : Type 0
BusLeavesOthers =
    (t : Table) (addr ep : ℕ) (answered : BusAnswer) → AnswerLeaves (taker t addr ep) t (after_xact t addr ep answered)

-- Who takes the bus.

-- the port is enabled, the channel can take the bus, and no lower one can
pub record IsLowest (t : Table) (addr ep x : ℕ) : Type 0 where
  pub port : t.port.pena ≡ true
  pub has : can_take t addr ep x (channel_at t x) ≡ true
  pub lower : (y : ℕ) → y < x → can_take t addr ep y (channel_at t y) ≡ false

abbrev pub LowestTakes : Type 0
LowestTakes = (t : Table) (addr ep x : ℕ) → taker t addr ep ≡ Some x → IsLowest t addr ep x

abbrev pub LowestIsTaker : Type 0
LowestIsTaker = (t : Table) (addr ep x : ℕ) → IsLowest t addr ep x → taker t addr ep ≡ Some x

-- and where none can, or the port isn't enabled, none takes it
pub record Nobody (t : Table) (addr ep : ℕ) : Type 0 where
  pub port : t.port.pena ≡ false → taker t addr ep ≡ None
  pub channels : ((x : ℕ) → can_take t addr ep x (channel_at t x) ≡ false) → taker t addr ep ≡ None

abbrev pub NobodyTakes : Type 0
NobodyTakes = (t : Table) (addr ep : ℕ) → Nobody t addr ep

-- so the host is idle exactly where the port isn't enabled or no channel can take the bus
pub record Idles (t : Table) (addr ep : ℕ) : Type 0 where
  pub only : offer t addr ep ≡ sent.Idle → (t.port.pena ≡ false) ⊎ ((x : ℕ) → can_take t addr ep x (channel_at t x) ≡ false)
  pub port : t.port.pena ≡ false → offer t addr ep ≡ sent.Idle
  pub channels : ((x : ℕ) → can_take t addr ep x (channel_at t x) ≡ false) → offer t addr ep ≡ sent.Idle

abbrev pub IdleWhere : Type 0
IdleWhere = (t : Table) (addr ep : ℕ) → Idles t addr ep

-- no answer reaches a channel that isn't enabled
abbrev pub DisabledIsSilent : Type 0
DisabledIsSilent =
    (t : Table) (addr ep x : ℕ) (answered : BusAnswer) → (channel_at t x).enabled ≡ false
    → channel_at (after_xact t addr ep answered) x ≡ channel_at t x

-- a detach disables all channels and the port, is told by DISCINT, and no channel takes the bus from then on
pub record Detaches (t : Table) : Type 0 where
  pub channels : (x : ℕ) → (channel_at (after_detach t) x).enabled ≡ false
  pub idle : (addr ep : ℕ) → offer (after_detach t) addr ep ≡ sent.Idle
  pub port : (after_detach t).port ≡ record t.port { pcsts = false; pena = false; discint = true }
  -- and all else stays: the other bits of the channels, their interrupts and packets, and what was received
  pub others : (x : ℕ) → channel_at (after_detach t) x ≡ record (channel_at t x) { enabled = false }
  pub rest : after_detach t ≡ record t { port = (after_detach t).port; channels = (after_detach t).channels }

abbrev pub DetachDisables : Type 0
DetachDisables = (t : Table) → Detaches t

-- an attach sets PCSTS and PCDET where PCSTS is 0, and changes nothing else
pub record Attaches (t : Table) : Type 0 where
  pub new : t.port.pcsts ≡ false → after_attach t ≡ record t { port = record t.port { pcsts = true; pcdet = true } }
  pub old : t.port.pcsts ≡ true → after_attach t ≡ t

abbrev pub AttachTells : Type 0
AttachTells = (t : Table) → Attaches t

-- What answers do.

-- after a NAK the host sends the same again, and all FIFOs are as they were
pub record GoesOn (t new : Table) (addr ep : ℕ) : Type 0 where
  pub again : offer new addr ep ≡ offer t addr ep
  pub nonperiodic : new.nonperiodic ≡ t.nonperiodic
  pub periodic : new.periodic ≡ t.periodic
  pub rx : new.rx ≡ t.rx

abbrev pub NakLeaves : Type 0
NakLeaves = (t : Table) (addr ep : ℕ) → GoesOn t (after_xact t addr ep answers.Nak) addr ep

-- how many packets of a channel a transmit FIFO has, whole ones and the one that is begun
abbrev pub whole_of : ℕ → List Tagged → ℕ
whole_of tag [] = 0
whole_of tag (packet ∷ packets) = (if packet.tag == tag then 1 else 0) + whole_of tag packets

abbrev pub begun_of : ℕ → Option Begun → ℕ
begun_of tag None = 0
begun_of tag (Some begun) = if begun.tag == tag then 1 else 0

abbrev pub standing : ℕ → Tx → ℕ
standing tag tx = whole_of tag tx.packets + begun_of tag tx.unfinished

-- no register write makes a channel have two packets in a FIFO
pub record KeepsOne (y : ℕ) (old new : Table) : Type 0 where
  pub nonperiodic : standing y old.nonperiodic ≤ 1 → standing y new.nonperiodic ≤ 1
  pub periodic : standing y old.periodic ≤ 1 → standing y new.periodic ≤ 1

abbrev pub OnePacketEach : Type 0
OnePacketEach = (register : Register) (t : Table) (word y : ℕ) → KeepsOne y t (after_write t register word)

-- CHH stands beside what ended the transaction, and no packet of the channel is left
pub record Halted (x : ℕ) (old new : Table) : Type 0 where
  pub chh : (channel_at new x).interrupts.chh ≡ true
  pub reason : ((channel_at new x).interrupts.xfrc ≡ true) ⊎ (((channel_at new x).interrupts.stall ≡ true) ⊎ ((channel_at new x).interrupts.txerr ≡ true))
  pub nonperiodic : standing x old.nonperiodic ≤ 1 → standing x new.nonperiodic ≡ 0
  pub periodic : standing x old.periodic ≤ 1 → standing x new.periodic ≡ 0

-- a channel that an answer disables is halted, or its data landed behind all entries, and popping their end sets CHH
abbrev pub HaltsOrLands : ℕ → Table → Table → Type 0
HaltsOrLands x old new =
    Halted x old new
    ⊎ ((toggle : Toggle) × (bytes : List ℕ) × (new.rx.entries ≡ old.rx.entries ++ out_entries x toggle bytes))

abbrev pub EndsHalt : Type 0
EndsHalt =
    (t : Table) (addr ep x : ℕ) (answered : BusAnswer) → taker t addr ep ≡ Some x
    → (channel_at (after_xact t addr ep answered) x).enabled ≡ false
    → HaltsOrLands x t (after_xact t addr ep answered)

-- What is written through a window is sent.

-- words go through the window of a channel, one after another
abbrev pub words_written : Table → ℕ → List ℕ → Table
words_written t x [] = t
words_written t x (word ∷ words) = words_written (after_write t (fifo x) word) x words

-- the channel's transfer is these bytes, no packet of it stands in the FIFO, none is begun there, and there is room
pub record IsReady (channel : Channel) (x : ℕ) (tx : Tx) (packet : List ℕ) : Type 0 where
  pub wanted : packet_length channel ≡ length packet
  pub some : 1 ≤ length packet
  pub bytes : (i : ℕ) → slice_index packet i < 256
  pub free : tx.unfinished ≡ None
  pub none : is_some (first_with x tx.packets) ≡ false
  pub room : word_count (length packet) ≤ space_of tx

abbrev pub with_packet : Tx → ℕ → List ℕ → Tx
with_packet tx x packet = record tx { packets = tx.packets ++ record { tag = x; bytes = packet } ∷ []; unfinished = None }

-- then its words make it the last whole packet of that FIFO, byte for byte, and change nothing else
pub record Stands (t : Table) (x : ℕ) (packet : List ℕ) : Type 0 where
  pub bulk : is_nonperiodic (channel_at t x) ≡ true → IsReady (channel_at t x) x t.nonperiodic packet
      → words_written t x (words_of packet) ≡ record t { nonperiodic = with_packet t.nonperiodic x packet }
  pub interrupt : is_periodic (channel_at t x) ≡ true → IsReady (channel_at t x) x t.periodic packet
      → words_written t x (words_of packet) ≡ record t { periodic = with_packet t.periodic x packet }

abbrev pub WrittenStands : Type 0
WrittenStands = (t : Table) (x : ℕ) (packet : List ℕ) → Stands t x packet

-- a SETUP that is sent has eight bytes
abbrev pub SetupsAreEight : Type 0
SetupsAreEight = (t : Table) (addr ep : ℕ) (packet : List ℕ) → offer t addr ep ≡ sent.Setup packet → length packet ≡ 8

-- data that landed in an empty receive FIFO is read byte for byte: its status, its words, and the end that sets ACK, XFRC
-- and CHH of its channel
pub record ComesOut (t : Table) (x : ℕ) (toggle : Toggle) (bytes : List ℕ) : Type 0 where
  pub status : value_read (data_landed t x toggle bytes) grxstsp ≡ status_word x (length bytes) (pid_of toggle) out_data
  pub words : (after_read (data_landed t x toggle bytes) grxstsp).rx.left ≡ words_of bytes
  pub behind : value_read (after_read (data_landed t x toggle bytes) grxstsp) grxstsp ≡ status_word x 0 0 out_done
  pub channel : channel_at (after_read (after_read (data_landed t x toggle bytes) grxstsp) grxstsp) x ≡ received_all (channel_at (data_landed t x toggle bytes) x)

abbrev pub LandingComesOut : Type 0
LandingComesOut =
    (t : Table) (x : ℕ) (toggle : Toggle) (bytes : List ℕ) → t.rx.entries ≡ [] → x < length t.channels → x < 16 → length bytes ≤ 64
    → ComesOut t x toggle bytes

-- The port.

-- the write that ends a driven reset
abbrev pub ends_reset : Register → Port → ℕ → Bool
ends_reset hprt port word = drives_reset port word
ends_reset other port word = false

-- the port is enabled by the end of a driven reset alone, which tells it by PENCHNG
pub record EnabledByReset (register : Register) (t : Table) (word addr ep : ℕ) (answered : BusAnswer) : Type 0 where
  pub write : (after_write t register word).port.pena ≡ (t.port.pena || ends_reset register t.port word)
  pub told : IsTrue (ends_reset register t.port word) → IsTrue (after_write t register word).port.penchng
  pub read : (after_read t register).port ≡ t.port
  pub attach : (after_attach t).port.pena ≡ t.port.pena
  pub answer : (after_xact t addr ep answered).port ≡ t.port

abbrev pub ResetEnables : Type 0
ResetEnables =
    (register : Register) (t : Table) (word addr ep : ℕ) (answered : BusAnswer) → EnabledByReset register t word addr ep answered

-- Bits.

-- the bits that are kept, by their places: of HCCHARx 29 to 0, of HPRT 31 to 4
abbrev pub KeptBits : Type 0
KeptBits = (word : ℕ) → word < 2 ^ 32 → (kept_bits word ≡ word % 2 ^ 30) × (port_bits word ≡ word / 2 ^ 4 * 2 ^ 4)
