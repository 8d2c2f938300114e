-- What lies in the receive FIFO, in the order in which it came (after RM0090, OTG_FS: GRXSTSP).
use Rattle.std.specs.Prelude.{◌≡◌, ◌≤◌, ◌<◌, ℕ, ◌==◌, ◌&&◌, ◌++◌, List, [], ◌∷◌, Bool, true, false, if◌then◌else◌, length, take, slice_index, All}
use Rattle.std.specs.List.{filter}
use Rattle.usb_packet.specs.declared.bus.Toggle.{Toggle}
use Rattle.usb_packet.specs.declared.bus.Toggle.TheVariants.{D0, D1}
use Rattle.dwc2_regs.specs.declared.TheConstants.{GRXSTSP_BYTES, GRXSTSP_PID}
use Rattle.dwc2_regs.specs.Field.{field_of}
use Rattle.dwc2_fifo.specs.Words.{bytes_in}
use Rattle.dwc2_fifo.specs.Rx.{Entry}
use Rattle.device_table.specs.Words.{kind_of, number_of, setup_data, out_data}
use Rattle.device_table.specs.Bus.{setup_entries, out_entries}

pub data Arrival : Type 0 where
  -- a SETUP, with its eight bytes
  Request : (bytes : List ℕ) → Arrival
  -- a packet on the OUT endpoint of that number
  Packet : (number : ℕ) → (toggle : Toggle) → (bytes : List ℕ) → Arrival

-- the entries that tell it: its data and its end
abbrev pub entries_at : Arrival → List Entry
entries_at (Request bytes) = setup_entries bytes
entries_at (Packet number toggle bytes) = out_entries number toggle bytes

abbrev pub entries_of : List Arrival → List Entry
entries_of [] = []
entries_of (arrival ∷ arrivals) = entries_at arrival ++ entries_of arrivals

-- whose it is: SETUPs are endpoint 0's
abbrev pub is_for : ℕ → Arrival → Bool
is_for number (Request bytes) = number == 0
is_for number (Packet of toggle bytes) = number == of

abbrev pub is_packet_for : ℕ → Arrival → Bool
is_packet_for number (Request bytes) = false
is_packet_for number (Packet of toggle bytes) = number == of

abbrev pub is_request : Arrival → Bool
is_request (Request bytes) = true
is_request (Packet number toggle bytes) = false

-- what an endpoint has there, its packets, and all SETUPs
abbrev pub arrivals_for : ℕ → List Arrival → List Arrival
arrivals_for number arrivals = filter (is_for number) arrivals

abbrev pub packets_for : ℕ → List Arrival → List Arrival
packets_for number arrivals = filter (is_packet_for number) arrivals

abbrev pub requests_in : List Arrival → List Arrival
requests_in arrivals = filter is_request arrivals

-- the bytes of the SETUPs, and the packets of one endpoint with their toggles
pub record Landed : Type 0 where
  pub toggle : Toggle
  pub bytes : List ℕ

abbrev pub requested_by : List Arrival → List (List ℕ)
requested_by [] = []
requested_by (Request bytes ∷ arrivals) = bytes ∷ requested_by arrivals
requested_by (Packet number toggle bytes ∷ arrivals) = requested_by arrivals

abbrev pub landed_on : ℕ → List Arrival → List Landed
landed_on number [] = []
landed_on number (Request bytes ∷ arrivals) = landed_on number arrivals
landed_on number (Packet of toggle bytes ∷ arrivals) =
    if number == of then record { toggle = toggle; bytes = bytes } ∷ landed_on number arrivals else landed_on number arrivals

-- What the entries tell of them.

-- the bytes of an entry: as many as its status says, from its words
abbrev pub bytes_of_entry : Entry → List ℕ
bytes_of_entry entry = take (field_of entry.status GRXSTSP_BYTES) (bytes_in entry.words)

abbrev pub toggle_of_entry : Entry → Toggle
toggle_of_entry entry = if field_of entry.status GRXSTSP_PID == 0 then D0 else D1

abbrev pub setups_in : List Entry → List (List ℕ)
setups_in [] = []
setups_in (entry ∷ entries) = if kind_of entry.status == setup_data then bytes_of_entry entry ∷ setups_in entries else setups_in entries

abbrev pub is_data_of : ℕ → Entry → Bool
is_data_of number entry = (kind_of entry.status == out_data) && (number == number_of entry.status)

abbrev pub packets_at : ℕ → List Entry → List Landed
packets_at number [] = []
packets_at number (entry ∷ entries) =
    if is_data_of number entry
    then record { toggle = toggle_of_entry entry; bytes = bytes_of_entry entry } ∷ packets_at number entries
    else packets_at number entries

-- a SETUP has eight bytes, and a packet at most 64, on an endpoint whose number is at most `top`
abbrev pub IsArrival : ℕ → Arrival → Type 0
IsArrival top (Request bytes) = (length bytes ≡ 8) × ((i : ℕ) → slice_index bytes i < 256)
IsArrival top (Packet number toggle bytes) = (number ≤ top) × (length bytes ≤ 64) × ((i : ℕ) → slice_index bytes i < 256)

-- three SETUPs lie there at most, and a packet of each endpoint
pub record AreFew (top : ℕ) (arrivals : List Arrival) : Type 0 where
  pub all : All (IsArrival top) arrivals
  pub requests : length (requests_in arrivals) ≤ 3
  pub packets : (number : ℕ) → length (packets_for number arrivals) ≤ 1
