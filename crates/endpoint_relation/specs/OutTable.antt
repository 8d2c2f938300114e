-- The same steps as the bus and the driver make them on the whole controller: an OUT endpoint by its number less 1, of those that
-- there are, becomes what its own step makes of it, and all else stays.
use Rattle.std.specs.Prelude.{◌≡◌, ◌≢◌, ℕ, zero, suc, ◌<◌, ◌≤◌, ◌==◌, ◌&&◌, Bool, true, false, if◌then◌else◌, List, [], ◌∷◌, ◌++◌, length, take, slice_index}
use Rattle.usb_packet.specs.declared.bus.Toggle.{Toggle}
use Rattle.usb_packet.specs.declared.bus.Toggle.TheVariants.{D0, D1}
use Rattle.usb_packet.specs.declared.bus.BusEvent.TheVariants as event
use Rattle.usb_descriptor.specs.declared.endpoint.Endpoint.{Endpoint}
use Rattle.usb_descriptor.specs.Set.{is_core}
use Rattle.device_arrivals.specs.Arrivals.{Landed}
use Rattle.dwc2_regs.specs.declared.TheConstants.{DOEPCTL_NAKSTS, GRXSTSP_BYTES, GRXSTSP_PID}
use Rattle.dwc2_regs.specs.Field.{field_of}
use Rattle.dwc2_regs.specs.Register.{doepctl, doepint, doeptsiz, grxstsp, fifo}
use Rattle.dwc2_fifo.specs.Words.{bytes_in, words_of}
use Rattle.dwc2_fifo.specs.Rx.{Entry}
use Rattle.device_table.specs.State.{Table, OutEnd, out_end, with_out}
use Rattle.device_table.specs.Words.{flag, kind_of, number_of, pid_of, status_word, out_data}
use Rattle.device_table.specs.Read.{value_read, after_read}
use Rattle.device_table.specs.Write.{after_write}
use Rattle.device_table.specs.Bus.{OutOutcome, unheard, naks, stalls, drops, lands, has_room, hears, out_answer, bus_answer, after_bus, out_entries, setup_entries}
use Rattle.endpoint_relation.specs.declared.out_.OutEndpoint.{OutEndpoint}
use Rattle.endpoint_relation.specs.OutWords.{base, arm_word, data0_word, open_word, close_word, one_packet, moved_bits, closed_bits}
use Rattle.endpoint_relation.specs.OutRelation.{is_armed}
use Rattle.endpoint_relation.specs.OutSteps.{outcome_at, end_after, moved_end, armed_end, halted, halted_end, cleared, cleared_end, opened, opened_end, closed_end, over_at}

-- The endpoint of a number within the controller.

pub record PutsOut (t : Table) (n : ℕ) : Type 0 where
  pub there : (end : OutEnd) → out_end (with_out t (suc n) end) (suc n) ≡ end
  pub twice : (end last : OutEnd) → with_out (with_out t (suc n) end) (suc n) last ≡ with_out t (suc n) last
  pub same : with_out t (suc n) (out_end t (suc n)) ≡ t

-- Each call's writes, in order. Arming gives the size before EPENA.

abbrev pub arm_writes : Table → ℕ → OutEndpoint → Table
arm_writes t number s = after_write (after_write t (doeptsiz number) (one_packet s.endpoint.size)) (doepctl number) (arm_word s)

abbrev pub halt_writes : Table → ℕ → OutEndpoint → Table
halt_writes t number s = if is_core s.endpoint.owner then t else after_write t (doepctl number) (base (halted s))

abbrev pub clear_writes : Table → ℕ → OutEndpoint → Table
clear_writes t number s = after_write t (doepctl number) (data0_word (cleared s))

abbrev pub open_writes : Table → ℕ → OutEndpoint → Endpoint → Table
open_writes t number s endpoint = after_write t (doepctl number) (open_word (opened s endpoint))

abbrev pub close_writes : Table → ℕ → Table
close_writes t number = after_write (after_write t (doepctl number) close_word) (doepint number) closed_bits

-- what the driver reads where it closes an armed endpoint
abbrev pub reads_landed : Table → ℕ → Bool
reads_landed t number = flag (value_read t (doepctl number)) DOEPCTL_NAKSTS

pub record OutWrites (t : Table) (n : ℕ) (s : OutEndpoint) : Type 0 where
  pub arms : arm_writes t (suc n) s ≡ with_out t (suc n) (armed_end (out_end t (suc n)) s)
  pub halts : halt_writes t (suc n) s ≡ with_out t (suc n) (halted_end (out_end t (suc n)) s)
  pub clears : clear_writes t (suc n) s ≡ with_out t (suc n) (cleared_end (out_end t (suc n)) s)
  pub opens : (endpoint : Endpoint) → open_writes t (suc n) s endpoint ≡ with_out t (suc n) (opened_end (out_end t (suc n)) s endpoint)
  pub closes : close_writes t (suc n) ≡ with_out t (suc n) (closed_end (out_end t (suc n)))
  pub reads : is_armed s.state ≡ true → s.over ≡ false → reads_landed t (suc n) ≡ over_at (out_end t (suc n)) s

-- The bus.

-- what a packet leaves in the receive FIFO
abbrev pub entries_after : OutOutcome → List Entry → ℕ → Toggle → List ℕ → List Entry
entries_after lands entries number toggle bytes = entries ++ out_entries number toggle bytes
entries_after unheard entries number toggle bytes = entries
entries_after naks entries number toggle bytes = entries
entries_after stalls entries number toggle bytes = entries
entries_after drops entries number toggle bytes = entries

abbrev pub outcome_on : Table → ℕ → ℕ → Toggle → List ℕ → Bool → OutOutcome
outcome_on t addr n toggle bytes good = outcome_at (out_end t (suc n)) toggle bytes (hears t addr && good) (has_room t bytes)

pub record OutOnBus (t : Table) (addr n : ℕ) (toggle : Toggle) (bytes : List ℕ) (good : Bool) : Type 0 where
  pub answer : bus_answer t (event.Out addr (suc n) toggle bytes good) ≡ out_answer (outcome_on t addr n toggle bytes good)
  pub end : n < length t.outs → out_end (after_bus t (event.Out addr (suc n) toggle bytes good)) (suc n) ≡ end_after (outcome_on t addr n toggle bytes good) (out_end t (suc n))
  pub entries : (after_bus t (event.Out addr (suc n) toggle bytes good)).rx.entries ≡ entries_after (outcome_on t addr n toggle bytes good) t.rx.entries (suc n) toggle bytes
  -- a bus reset leaves the endpoint and the receive FIFO
  pub reset : out_end (after_bus t event.Reset) (suc n) ≡ out_end t (suc n)
  pub reset_entries : (after_bus t event.Reset).rx ≡ t.rx

-- What lies in the receive FIFO of one endpoint, in order.

abbrev pub toggle_in : ℕ → Toggle
toggle_in pid = if pid == 0 then D0 else D1

-- as many bytes as the status says
abbrev pub arrival_in : Entry → Landed
arrival_in entry = record { toggle = toggle_in (field_of entry.status GRXSTSP_PID); bytes = take (field_of entry.status GRXSTSP_BYTES) (bytes_in entry.words) }

abbrev pub is_packet_of : ℕ → Entry → Bool
is_packet_of number entry = (kind_of entry.status == out_data) && (number_of entry.status == number)

abbrev pub arrivals_in : ℕ → List Entry → List Landed
arrivals_in number [] = []
arrivals_in number (entry ∷ entries) = if is_packet_of number entry then arrival_in entry ∷ arrivals_in number entries else arrivals_in number entries

-- a packet of at most 64 bytes
pub record IsFull (bytes : List ℕ) : Type 0 where
  pub fits : length bytes ≤ 64
  pub below : (i : ℕ) → slice_index bytes i < 256

-- each endpoint's packets are told apart by its number, byte for byte, and no SETUP is one
pub record OutLies (number n : ℕ) (toggle : Toggle) (bytes : List ℕ) (front behind : List Entry) : Type 0 where
  pub joined : arrivals_in number (front ++ behind) ≡ arrivals_in number front ++ arrivals_in number behind
  pub own : arrivals_in (suc n) (out_entries (suc n) toggle bytes) ≡ record { toggle = toggle; bytes = bytes } ∷ []
  pub other : number ≢ suc n → arrivals_in number (out_entries (suc n) toggle bytes) ≡ []
  pub setup : (eight : List ℕ) → arrivals_in number (setup_entries eight) ≡ []

abbrev pub OutLiesApart : Type 0
OutLiesApart =
    (number n : ℕ) (toggle : Toggle) (bytes : List ℕ) (front behind : List Entry) → n < 15 → IsFull bytes → OutLies number n toggle bytes front behind

-- A handler run takes a packet's two entries: the packet's words are read, or left where it is passed over, the end of its
-- transfer is popped, and XFRC is cleared.

abbrev pub words_skipped : ℕ → Table → Table
words_skipped zero t = t
words_skipped (suc k) t = words_skipped k (after_read t (fifo zero))

abbrev pub packet_popped : Table → ℕ → ℕ → Table
packet_popped t number words = after_write (after_read (words_skipped words (after_read t grxstsp)) grxstsp) (doepint number) moved_bits

pub record OutPops (t : Table) (n : ℕ) (toggle : Toggle) (bytes : List ℕ) (rest : List Entry) : Type 0 where
  pub status : value_read t grxstsp ≡ status_word (suc n) (length bytes) (pid_of toggle) out_data
  pub kind : kind_of (value_read t grxstsp) ≡ out_data
  pub number : number_of (value_read t grxstsp) ≡ suc n
  pub count : field_of (value_read t grxstsp) GRXSTSP_BYTES ≡ length bytes
  pub words : (after_read t grxstsp).rx.left ≡ words_of bytes
  pub taken : (words : ℕ) → packet_popped t (suc n) words ≡ with_out (record t { rx = record t.rx { left = []; entries = rest } }) (suc n) (moved_end (out_end t (suc n)))

abbrev pub OutPopsWhole : Type 0
OutPopsWhole =
    (t : Table) (n : ℕ) (toggle : Toggle) (bytes : List ℕ) (rest : List Entry) → n < length t.outs → n < 15 → IsFull bytes
    → t.rx.entries ≡ out_entries (suc n) toggle bytes ++ rest → OutPops t n toggle bytes rest

-- The laws of the others.

abbrev pub OutPuts : Type 0
OutPuts = (t : Table) (n : ℕ) → n < length t.outs → PutsOut t n

abbrev pub OutWritesMeet : Type 0
OutWritesMeet = (t : Table) (n : ℕ) (s : OutEndpoint) → n < length t.outs → OutWrites t n s

abbrev pub OutBusMeets : Type 0
OutBusMeets = (t : Table) (addr n : ℕ) (toggle : Toggle) (bytes : List ℕ) (good : Bool) → OutOnBus t addr n toggle bytes good
