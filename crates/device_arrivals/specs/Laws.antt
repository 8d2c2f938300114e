-- Laws of what lies in the receive FIFO.
use Rattle.std.specs.Prelude.{◌≡◌, ◌≤◌, ◌<◌, ℕ, ◌+◌, ◌-◌, ◌++◌, List, [], ◌∷◌, Bool, true, false, length, take, slice_index, if◌then◌else◌, All}
use Rattle.usb_packet.specs.declared.bus.Toggle.{Toggle}
use Rattle.dwc2_regs.specs.declared.TheConstants.{GRXSTSP_BYTES}
use Rattle.dwc2_regs.specs.Field.{field_of}
use Rattle.dwc2_regs.specs.Register.{grxstsp}
use Rattle.dwc2_regs.specs.declared.access.Profile.{Profile}
use Rattle.dwc2_fifo.specs.Words.{words_of, bytes_in, word_count}
use Rattle.dwc2_fifo.specs.Rx.{Entry, room_of}
use Rattle.device_table.specs.State.{Table, out_end, with_out, rx_depth}
use Rattle.device_table.specs.Words.{kind_of, number_of, status_word, setup_data, setup_done, out_data, out_done}
use Rattle.device_table.specs.Read.{value_read, after_read}
use Rattle.device_table.specs.Write.{setup_in}
use Rattle.device_table.specs.Bus.{after_landing, after_setup}
use Rattle.device_arrivals.specs.Arrivals.{Arrival, Request, Packet, entries_of, arrivals_for, packets_for, requests_in, is_for, IsArrival, AreFew, requested_by, landed_on, setups_in, packets_at}

-- the receive FIFO with these words left, and these arrivals
abbrev pub holding : Table → List ℕ → List Arrival → Table
holding t left arrivals = record t { rx = record { left = left; entries = entries_of arrivals; depth = t.rx.depth } }

-- What comes lies behind the others, and one endpoint has one more.

abbrev pub added : ℕ → List Arrival → Arrival → List Arrival
added number arrivals arrival = if is_for number arrival then arrivals_for number arrivals ++ arrival ∷ [] else arrivals_for number arrivals

pub record IsBehind (t : Table) (arrivals : List Arrival) (arrival : Arrival) : Type 0 where
  pub entries : t.rx.entries ≡ entries_of (arrivals ++ arrival ∷ [])
  pub each : (number : ℕ) → arrivals_for number (arrivals ++ arrival ∷ []) ≡ added number arrivals arrival

abbrev pub Lands : Type 0
Lands =
    (t : Table) (left : List ℕ) (arrivals : List Arrival) (number : ℕ) (toggle : Toggle) (bytes : List ℕ)
    → IsBehind (after_landing (holding t left arrivals) number toggle bytes) arrivals (Packet number toggle bytes)

abbrev pub Requested : Type 0
Requested =
    (t : Table) (left : List ℕ) (arrivals : List Arrival) (bytes : List ℕ)
    → IsBehind (after_setup (holding t left arrivals) bytes) arrivals (Request bytes)

-- What is in front comes out.

-- GRXSTSP is read: its word tells this kind, endpoint and number of bytes, and this is what the read leaves
pub record Pops (t : Table) (kind number count : ℕ) (after : Table) : Type 0 where
  pub kind_is : kind_of (value_read t grxstsp) ≡ kind
  pub number_is : number_of (value_read t grxstsp) ≡ number
  pub count_is : field_of (value_read t grxstsp) GRXSTSP_BYTES ≡ count
  pub after_is : after_read t grxstsp ≡ after

-- where its data was popped, of which these words are left, its end is in front
abbrev pub at_end : Table → List ℕ → ℕ → ℕ → List Arrival → Table
at_end t left number kind arrivals =
    record t { rx = record { left = left; entries = record { status = status_word number 0 0 kind; words = [] } ∷ entries_of arrivals; depth = t.rx.depth } }

-- the words are those of the bytes
pub record AreWordsOf (words bytes : List ℕ) : Type 0 where
  pub count : length words ≡ word_count (length bytes)
  pub same : take (length bytes) (bytes_in words) ≡ bytes

pub record PacketOut (t : Table) (left : List ℕ) (number : ℕ) (toggle : Toggle) (bytes : List ℕ) (arrivals : List Arrival) : Type 0 where
  pub data_out : Pops (holding t left (Packet number toggle bytes ∷ arrivals)) out_data number (length bytes) (at_end t (words_of bytes) number out_done arrivals)
  pub words : AreWordsOf (words_of bytes) bytes
  -- whatever words are left, they go with it
  pub end_out : (some : List ℕ) → Pops (at_end t some number out_done arrivals) out_done number 0 (with_out (holding t [] arrivals) number (record (out_end t number) { xfrc = true }))

abbrev pub PacketComes : Type 0
PacketComes =
    (t : Table) (left : List ℕ) (number : ℕ) (toggle : Toggle) (bytes : List ℕ) (arrivals : List Arrival)
    → number < 16 → length bytes ≤ 64 → ((i : ℕ) → slice_index bytes i < 256) → PacketOut t left number toggle bytes arrivals

-- the SETUP is served
abbrev pub served : Table → Table
served t = record t { out0 = record t.out0 { stup = true }; core = record t.core { unserved = t.core.unserved - 1 } }

pub record RequestOut (t : Table) (left bytes : List ℕ) (arrivals : List Arrival) : Type 0 where
  pub data_out : Pops (holding t left (Request bytes ∷ arrivals)) setup_data 0 8 (at_end t (words_of bytes) 0 setup_done arrivals)
  pub words : AreWordsOf (words_of bytes) bytes
  pub end_out : (some : List ℕ) → Pops (at_end t some 0 setup_done arrivals) setup_done 0 0 (served (holding t [] arrivals))

abbrev pub RequestComes : Type 0
RequestComes =
    (t : Table) (left bytes : List ℕ) (arrivals : List Arrival) → length bytes ≡ 8 → ((i : ℕ) → slice_index bytes i < 256) → RequestOut t left bytes arrivals

-- What the entries tell is what came.

pub record Tells (arrivals : List Arrival) : Type 0 where
  pub requests : setups_in (entries_of arrivals) ≡ requested_by arrivals
  pub packets : (number : ℕ) → packets_at number (entries_of arrivals) ≡ landed_on number arrivals

abbrev pub EntriesTell : Type 0
EntriesTell = (top : ℕ) (arrivals : List Arrival) → top < 16 → All (IsArrival top) arrivals → Tells arrivals

-- and by endpoint: the packets of an endpoint other than 0 are all that it has there
pub record AreItsOwn (arrivals : List Arrival) : Type 0 where
  pub requests : length (requested_by arrivals) ≡ length (requests_in arrivals)
  pub packets : (number : ℕ) → length (landed_on number arrivals) ≡ length (packets_for number arrivals)

abbrev pub EachHasItsOwn : Type 0
EachHasItsOwn = (arrivals : List Arrival) → AreItsOwn arrivals

-- They stay few: with a SETUP where fewer than three lie there, with a packet of an endpoint that has none there, and without
-- the one in front.
pub record StaysFew (top : ℕ) (arrivals : List Arrival) : Type 0 where
  pub request : (bytes : List ℕ) → IsArrival top (Request bytes) → length (requests_in arrivals) ≤ 2 → AreFew top (arrivals ++ Request bytes ∷ [])
  pub packet : (number : ℕ) (toggle : Toggle) (bytes : List ℕ) → IsArrival top (Packet number toggle bytes) → packets_for number arrivals ≡ []
      → AreFew top (arrivals ++ Packet number toggle bytes ∷ [])

abbrev pub StayFew : Type 0
StayFew = (top : ℕ) (arrivals : List Arrival) → AreFew top arrivals → StaysFew top arrivals

abbrev pub FewBehind : Type 0
FewBehind = (top : ℕ) (first : Arrival) (arrivals : List Arrival) → AreFew top (first ∷ arrivals) → AreFew top arrivals

-- A SETUP lies there exactly where one was told, and what an endpoint has is told by what lies there for it.
pub record ToldByIts (arrivals : List Arrival) : Type 0 where
  pub requests : requested_by arrivals ≡ requested_by (arrivals_for 0 arrivals)
  pub packets : (number : ℕ) → landed_on number arrivals ≡ landed_on number (arrivals_for number arrivals)

abbrev pub AreToldByIts : Type 0
AreToldByIts = (arrivals : List Arrival) → ToldByIts arrivals

abbrev pub some : List (List ℕ) → Bool
some [] = false
some (u ∷ us) = true

abbrev pub SetupLies : Type 0
SetupLies = (top : ℕ) (arrivals : List Arrival) → top < 16 → All (IsArrival top) arrivals → setup_in (entries_of arrivals) ≡ some (requested_by arrivals)

-- How many there are, and their room.

abbrev pub IsCounted : Type 0
IsCounted = (top : ℕ) (arrivals : List Arrival) → AreFew top arrivals → length arrivals ≤ top + 4

pub record Roomy (profile : Profile) (t : Table) (arrivals : List Arrival) : Type 0 where
  -- a packet takes its words and two of status
  pub packet : (number count : ℕ) → number ≤ profile.out_eps → packets_for number arrivals ≡ [] → count ≤ 64 → 2 + word_count count ≤ room_of (holding t [] arrivals).rx
  -- a SETUP takes four
  pub request : length (requests_in arrivals) ≤ 2 → 4 ≤ room_of (holding t [] arrivals).rx

abbrev pub HasRoom : Type 0
HasRoom =
    (profile : Profile) (t : Table) (arrivals : List Arrival) → t.rx.depth ≡ rx_depth profile → AreFew profile.out_eps arrivals → Roomy profile t arrivals
