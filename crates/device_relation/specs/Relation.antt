-- Which device the controller and the driver's software are together, and what holds of them. This is endpoint 0, and what the
-- endpoints share; `PipeRelation` has the others.
use Rattle.std.specs.Prelude.{◌≡◌, ℕ, ◌+◌, ◌^◌, ◌<◌, ◌≤◌, ◌&&◌, ◌||◌, not, Bool, true, false, if◌then◌else◌, IsTrue, List, [], ◌∷◌, ◌++◌, length, Option, Some, None, slice_index}
use Rattle.usb_packet.specs.declared.bus.Toggle.{Toggle}
use Rattle.usb_packet.specs.declared.bus.Toggle.TheVariants.{D0, D1}
use Rattle.device_machine.specs.declared.control.Stage.TheVariants.{Sent, Came}
use Rattle.device_machine.specs.declared.control.Side.{Side}
use Rattle.device_machine.specs.declared.control.Side.TheVariants.{Off, Wait, Loaded, Last, Armed, Stall, Finished}
use Rattle.device_machine.specs.Bus.{Bus, is_empty}
use Rattle.dwc2_regs.specs.declared.TheConstants.{DCFG_ADDRESS}
use Rattle.dwc2_regs.specs.Field.{field_of}
use Rattle.dwc2_fifo.specs.Rx.{Entry, Rx}
use Rattle.dwc2_fifo.specs.Tx.{Tx, Tagged}
use Rattle.dwc2_regs.specs.declared.access.Profile.{Profile}
use Rattle.device_table.specs.State.{Table, Kept, Host, InEnd, OutEnd, opened, tx0_depth, rx_depth}
use Rattle.device_arrivals.specs.Arrivals.{Arrival, Request, Packet, Landed, entries_of, arrivals_for, packets_at, setups_in, AreFew}
use Rattle.device_relation.specs.declared.software.Ready.{Ready}
use Rattle.device_relation.specs.declared.software.Ready.TheVariants as ready
use Rattle.device_relation.specs.declared.software.Heard.{Heard}
use Rattle.device_relation.specs.declared.software.Heard.TheVariants as heard
use Rattle.device_relation.specs.Software.{Software, Joint}

-- The receive FIFO.

-- the packet from the host that lies there for endpoint 0
abbrev pub first_bytes : List Landed → Option (List ℕ)
first_bytes [] = None
first_bytes (packet ∷ packets) = Some packet.bytes

abbrev pub packet_in : List Entry → Option (List ℕ)
packet_in entries = first_bytes (packets_at 0 entries)

-- Endpoint 0.

-- the packet in the transmit FIFO of endpoint 0; an empty one has no words there
abbrev pub packet_of : List Tagged → List ℕ
packet_of [] = []
packet_of (packet ∷ packets) = packet.bytes

abbrev pub armed_if : Bool → Side
armed_if true = Armed
armed_if false = Off

abbrev pub stalled_if : Bool → Side
stalled_if true = Stall
stalled_if false = Off

-- a packet that is loaded: it was acknowledged, or a SETUP took it, or else it is ready
abbrev pub loaded_if : Bool → Bool → List ℕ → Side
loaded_if true enabled packet = Finished Sent
loaded_if false true packet = Loaded packet
loaded_if false false packet = Off

abbrev pub last_if : Bool → Bool → Bool → List ℕ → Side
last_if true enabled armed packet = armed_if armed
last_if false true armed packet = Last packet
last_if false false armed packet = Off

-- what endpoint 0 holds ready, where no packet from the host lies in the receive FIFO
abbrev pub side_ready : Table → Ready → Side
side_ready t ready.Off = Off
side_ready t (ready.Wait packet last) = Wait packet last
side_ready t ready.Loaded = loaded_if t.in0.xfrc t.in0.control.enabled (packet_of t.in0.fifo.packets)
side_ready t ready.Last = last_if t.in0.xfrc t.in0.control.enabled t.out0.control.enabled (packet_of t.in0.fifo.packets)
side_ready t ready.Armed = armed_if t.out0.control.enabled
side_ready t ready.Stall = stalled_if t.in0.control.stall

abbrev pub side_with : Option (List ℕ) → Side → Side
side_with (Some bytes) side = Finished (Came bytes)
side_with None side = side

abbrev pub side_of : Table → Software → Side
side_of t s = side_with (packet_in t.rx.entries) (side_ready t s.side)

-- a SETUP came since the reset
abbrev pub was_heard : Heard → Bool
was_heard heard.Nothing = false
was_heard heard.Setup = true
was_heard heard.Packet = true

abbrev pub is_seen : Bool → Heard → Bool
is_seen waits heard = waits || was_heard heard

-- a packet from the host came since the last SETUP: it was taken from the receive FIFO, or lies there
abbrev pub was_packet : Heard → Bool
was_packet heard.Packet = true
was_packet heard.Nothing = false
was_packet heard.Setup = false

abbrev pub is_came : Side → Bool
is_came (Finished (Came bytes)) = true
is_came (Finished Sent) = false
is_came Off = false
is_came (Wait packet last) = false
is_came (Loaded packet) = false
is_came (Last packet) = false
is_came Armed = false
is_came Stall = false

abbrev pub is_taken : Bool → Heard → Side → Bool
is_taken waits heard side = not waits && (was_packet heard || is_came side)

-- the toggle of the next packet for the host: before the first SETUP there is none to send
abbrev pub toggle_of : Bool → Toggle → Toggle
toggle_of seen toggle = if seen then toggle else D0

-- whether SETUPs lie in the receive FIFO
abbrev pub some_lie : List (List ℕ) → Bool
some_lie setups = not (is_empty setups)

-- The device.

abbrev pub abstract : Joint → Bus
abstract j =
    let t = j.table in
    let s = j.software in
    let setups = setups_in t.rx.entries in
    record {
      awake = t.core.awake;
      reset = t.core.usbrst;
      address = field_of t.kept.dcfg DCFG_ADDRESS;
      unserved = setups;
      side = side_of t s;
      taken = is_taken (some_lie setups) s.heard (side_of t s);
      toggle = toggle_of (is_seen (some_lie setups) s.heard) t.in0.toggle;
    }

-- What holds of controller and software, part by part, each over the registers and the part of the device that it ties.

abbrev pub is_stalled : Side → Bool
is_stalled Stall = true
is_stalled Off = false
is_stalled (Wait packet last) = false
is_stalled (Loaded packet) = false
is_stalled (Last packet) = false
is_stalled Armed = false
is_stalled (Finished stage) = false

abbrev pub is_loaded : Side → Bool
is_loaded (Loaded packet) = true
is_loaded (Last packet) = true
is_loaded Off = false
is_loaded (Wait packet last) = false
is_loaded Armed = false
is_loaded Stall = false
is_loaded (Finished stage) = false

abbrev pub is_armed : Side → Bool
is_armed (Last packet) = true
is_armed Armed = true
is_armed Off = false
is_armed (Wait packet last) = false
is_armed (Loaded packet) = false
is_armed Stall = false
is_armed (Finished stage) = false

-- the packet of endpoint 0 that waits, is loaded or came
abbrev pub bytes_of_side : Side → List ℕ
bytes_of_side (Loaded packet) = packet
bytes_of_side (Last packet) = packet
bytes_of_side (Wait packet last) = packet
bytes_of_side (Finished (Came packet)) = packet
bytes_of_side (Finished Sent) = []
bytes_of_side Off = []
bytes_of_side Armed = []
bytes_of_side Stall = []

-- the one that is loaded
abbrev pub loaded_bytes : Side → List ℕ
loaded_bytes (Loaded packet) = packet
loaded_bytes (Last packet) = packet
loaded_bytes Off = []
loaded_bytes (Wait packet last) = []
loaded_bytes Armed = []
loaded_bytes Stall = []
loaded_bytes (Finished stage) = []

-- the transmit FIFO of endpoint 0 with a packet, of which an empty one has no words
abbrev pub packets_of : List ℕ → List Tagged
packets_of [] = []
packets_of (byte ∷ bytes) = record { tag = 0; bytes = byte ∷ bytes } ∷ []

abbrev pub tx_holding : List ℕ → Tx
tx_holding bytes = record { packets = packets_of bytes; unfinished = None; depth = tx0_depth }

-- DIEPTSIZ0 for one packet
abbrev pub one_packet : ℕ → ℕ
one_packet bytes = 2 ^ 19 + bytes

pub record IsPacket (bytes : List ℕ) : Type 0 where
  pub fits : length bytes ≤ 64
  pub below : (i : ℕ) → slice_index bytes i < 256

-- endpoint 0, IN: enabled exactly where a packet is loaded, which then is the one in the FIFO, and gets no NAK
pub record InPart (in0 : InEnd) (side : Side) : Type 0 where
  pub kept : in0.control.kept ≡ 0
  pub stall : in0.control.stall ≡ is_stalled side
  pub enabled : in0.control.enabled ≡ is_loaded side
  pub ready : IsTrue (is_loaded side) → in0.control.nak ≡ false
  pub holds : in0.fifo ≡ tx_holding (loaded_bytes side)
  pub size : IsTrue (is_loaded side) → in0.tsiz ≡ one_packet (length (loaded_bytes side))

-- endpoint 0, OUT: enabled exactly where it is armed; then it answers NAK while a SETUP lies in the receive FIFO, and once a
-- packet was taken. Its toggle is DATA1 from a SETUP until a packet lands.
pub record OutPart (out0 : OutEnd) (side : Side) (waits seen taken : Bool) : Type 0 where
  pub kept : out0.control.kept ≡ 0
  pub stall : out0.control.stall ≡ is_stalled side
  pub enabled : out0.control.enabled ≡ is_armed side
  pub naks : IsTrue (is_armed side) → out0.control.nak ≡ (waits || taken)
  pub toggle : IsTrue (seen && not taken) → out0.toggle ≡ D1
  pub lies : IsTrue waits → out0.control.nak ≡ true

-- before a SETUP was taken endpoint 0 is idle
abbrev pub is_idle : Side → Bool
is_idle Off = true
is_idle Stall = true
is_idle (Wait packet last) = false
is_idle (Loaded packet) = false
is_idle (Last packet) = false
is_idle Armed = false
is_idle (Finished stage) = false

-- what the software holds ready stands for what endpoint 0 does, by XFRC of DIEPINT0. A SETUP that lies in the receive FIFO
-- took what was ready before it.
pub data Pair : Bool → Ready → Side → Type 0 where
  off_off : {x : Bool} → Pair x ready.Off Off
  wait_wait : {x : Bool} {packet : List ℕ} {last : Bool} → Pair x (ready.Wait packet last) (Wait packet last)
  loaded_loaded : {packet : List ℕ} → Pair false ready.Loaded (Loaded packet)
  loaded_sent : Pair true ready.Loaded (Finished Sent)
  last_last : {packet : List ℕ} → Pair false ready.Last (Last packet)
  last_armed : Pair true ready.Last Armed
  armed_armed : {x : Bool} → Pair x ready.Armed Armed
  last_came : {x : Bool} {packet : List ℕ} → Pair x ready.Last (Finished (Came packet))
  armed_came : {x : Bool} {packet : List ℕ} → Pair x ready.Armed (Finished (Came packet))
  stall_stall : {x : Bool} → Pair x ready.Stall Stall
  loaded_off : Pair false ready.Loaded Off
  last_off : {x : Bool} → Pair x ready.Last Off
  armed_off : {x : Bool} → Pair x ready.Armed Off
  stall_off : {x : Bool} → Pair x ready.Stall Off

pub record SidePart (taken : Bool) (toggle : Toggle) (side : Side) (waits : Bool) (heard : Heard) (its : Toggle) : Type 0 where
  pub taken_is : taken ≡ is_taken waits heard side
  pub toggle_is : toggle ≡ toggle_of (is_seen waits heard) its
  pub first : (was_heard heard || is_idle side) ≡ true
  pub packet : IsPacket (bytes_of_side side)
  -- nothing is loaded while a SETUP lies in the receive FIFO
  pub alone : (waits && is_loaded side) ≡ false

-- the receive FIFO: of endpoint 0 the packet that came, and then the SETUPs
abbrev pub came_arrivals : Side → List Arrival
came_arrivals (Finished (Came bytes)) = Packet 0 D1 bytes ∷ []
came_arrivals (Finished Sent) = []
came_arrivals Off = []
came_arrivals (Wait packet last) = []
came_arrivals (Loaded packet) = []
came_arrivals (Last packet) = []
came_arrivals Armed = []
came_arrivals Stall = []

abbrev pub setups_arrivals : List (List ℕ) → List Arrival
setups_arrivals [] = []
setups_arrivals (bytes ∷ setups) = Request bytes ∷ setups_arrivals setups

pub record IsSetup (bytes : List ℕ) : Type 0 where
  pub eight : length bytes ≡ 8
  pub below : (i : ℕ) → slice_index bytes i < 256

abbrev pub AreSetups : List (List ℕ) → Type 0
AreSetups [] = Unit {0}
AreSetups (bytes ∷ setups) = IsSetup bytes × AreSetups setups

pub record FifoPart (profile : Profile) (rx : Rx) (counted : ℕ) (side : Side) (setups : List (List ℕ)) : Type 0 where
  pub arrivals : List Arrival
  pub lie : rx ≡ record { left = []; entries = entries_of arrivals; depth = rx_depth profile }
  pub its : arrivals_for 0 arrivals ≡ came_arrivals side ++ setups_arrivals setups
  pub all : AreFew profile.out_eps arrivals
  pub counts : counted ≡ length setups
  pub few : length setups ≤ 3
  pub are : AreSetups setups

-- the rest: masks and sizes as in the opened state, and the endpoints of the profile
pub record RestPart (profile : Profile) (kept : Kept) (host : Host) (ins : List InEnd) (outs : List OutEnd) : Type 0 where
  pub masks : kept ≡ record (opened profile).kept { dcfg = kept.dcfg; grstctl = kept.grstctl }
  pub hosts : host ≡ (opened profile).host
  pub in_ends : length ins ≡ profile.in_eps
  pub out_ends : length outs ≡ profile.out_eps

-- the packet from the host whose toggle a repeated one has: since the last SETUP and the last reset
abbrev pub landed_of : Bool → Bool → Option Toggle
landed_of awake taken = if awake && taken then Some D1 else None

-- a device address (USB 2.0, 9.4.6)
abbrev pub IsAddress : Option ℕ → Type 0
IsAddress None = Unit {0}
IsAddress (Some address) = address < 128

-- the bits of a reset, and the address
pub record CorePart (t : Table) (s : Software) (m : Bus) : Type 0 where
  pub awake : m.awake ≡ t.core.awake
  pub reset : m.reset ≡ t.core.usbrst
  pub address : m.address ≡ field_of t.kept.dcfg DCFG_ADDRESS
  pub landed : t.core.landed ≡ landed_of m.awake m.taken
  -- the device is asleep while a reset is unserved
  pub asleep : (m.awake && m.reset) ≡ false
  pub next : IsAddress s.next_address

pub record Stands (profile : Profile) (t : Table) (s : Software) (m : Bus) : Type 0 where
  pub ins : InPart t.in0 m.side
  pub outs : OutPart t.out0 m.side (some_lie m.unserved) (is_seen (some_lie m.unserved) s.heard) m.taken
  pub pair : Pair t.in0.xfrc s.side m.side
  pub side : SidePart m.taken m.toggle m.side (some_lie m.unserved) s.heard t.in0.toggle
  pub rx : FifoPart profile t.rx t.core.unserved m.side m.unserved
  pub rest : RestPart profile t.kept t.host t.ins t.outs
  pub core : CorePart t s m
