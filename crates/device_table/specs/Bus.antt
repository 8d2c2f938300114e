-- What the device answers to each bus event, and what the event changes.
use Rattle.std.specs.Prelude.{ℕ, zero, suc, ◌+◌, ◌-◌, ◌==◌, ◌&&◌, ◌||◌, not, nat_lt, nat_le, Bool, true, false, if◌then◌else◌, List, [], ◌∷◌, ◌++◌, length, Option, Some, None}
use Rattle.usb_packet.specs.declared.bus.Toggle.{Toggle}
use Rattle.usb_packet.specs.declared.bus.Toggle.TheVariants.{D1}
use Rattle.usb_packet.specs.declared.bus.BusEvent.{BusEvent}
use Rattle.usb_packet.specs.declared.bus.BusEvent.TheVariants as event
use Rattle.usb_packet.specs.declared.bus.BusAnswer.{BusAnswer}
use Rattle.usb_packet.specs.declared.bus.BusAnswer.TheVariants as answers
use Rattle.usb_packet.specs.Toggles.{flipped, same_toggle}
use Rattle.dwc2_regs.specs.declared.TheConstants.{DCFG_ADDRESS, DIEPCTL_USBAEP}
use Rattle.dwc2_regs.specs.Field.{field_of}
use Rattle.dwc2_fifo.specs.Words.{words_of, word_count}
use Rattle.dwc2_fifo.specs.Rx.{Entry, room_of}
use Rattle.dwc2_fifo.specs.Tx.{Tx, first_with, without_first}
use Rattle.device_table.specs.State.{Table, Control, InEnd, OutEnd, in_end, out_end, with_in, with_out}
use Rattle.device_table.specs.Words.{flag, packet_size, transfer_size, packet_count, with_packet_count, pid_of, status_word, out_data, out_done, setup_data, setup_done}
use Rattle.device_table.specs.Write.{emptied, setup_lies}

-- Who is spoken to.

-- the device is awake, and the address is the one in DCFG
abbrev pub hears : Table → ℕ → Bool
hears t addr = t.core.awake && (addr == field_of t.kept.dcfg DCFG_ADDRESS)

-- endpoint 0 is open once the device is awake, another endpoint where it has USBAEP
abbrev pub is_open : ℕ → Control → Bool
is_open zero control = true
is_open (suc n) control = flag control.kept DIEPCTL_USBAEP

-- disabled, and answering NAK
abbrev pub at_rest : Control → Control
at_rest control = record control { nak = true; enabled = false }

-- Reset sets USBRST and ENUMDNE. From then on the device answers nothing until USBRST is cleared. It leaves FIFOs and
-- endpoints.
abbrev pub after_reset : Table → Table
after_reset t = record t { core = record t.core { awake = false; usbrst = true; enumdne = true; landed = None } }

-- SETUP.

-- it isn't answered where it is damaged, where three lie unserved, or where it finds no room: two words of status and two
-- of data
abbrev pub hears_setup : Table → ℕ → Bool → Bool
hears_setup t addr ok = hears t addr && ok && nat_lt t.core.unserved 3 && nat_le 4 (room_of t.rx)

-- on both directions of endpoint 0 it sets NAKSTS, clears STALL and disables
abbrev pub control_at_setup : Control → Control
control_at_setup control = record (at_rest control) { stall = false }

abbrev pub setup_entries : List ℕ → List Entry
setup_entries bytes =
    record { status = status_word 0 8 0 setup_data; words = words_of bytes }
    ∷ record { status = status_word 0 0 0 setup_done; words = [] }
    ∷ []

-- it pushes an entry of status 6 with its eight bytes and one of status 4, empties FIFO 0 and sets both toggles to DATA1
abbrev pub after_setup : Table → List ℕ → Table
after_setup t bytes =
    record t {
      core = record t.core { unserved = t.core.unserved + 1; landed = None };
      rx = record t.rx { entries = t.rx.entries ++ setup_entries bytes };
      in0 = record (emptied t.in0) { control = control_at_setup t.in0.control; toggle = D1 };
      out0 = record t.out0 { control = control_at_setup t.out0.control; toggle = D1 };
    }

-- OUT.

-- what comes of an OUT packet: nothing is heard, NAK, STALL, it is acknowledged and dropped, or it lands
pub data OutOutcome : Type 0 where
  unheard : OutOutcome
  naks : OutOutcome
  stalls : OutOutcome
  drops : OutOutcome
  lands : OutOutcome

-- it is heard where it is undamaged, on an open endpoint, and no longer than the endpoint's size
abbrev pub hears_out : Table → ℕ → ℕ → List ℕ → Bool → Bool
hears_out t addr ep bytes ok =
    hears t addr && ok && is_open ep (out_end t ep).control && nat_le (length bytes) (packet_size ep (out_end t ep).control)

-- a packet on endpoint 0 is a repeated one where it has the toggle of the one that landed there last
abbrev pub is_repeated_of : Option Toggle → Toggle → Bool
is_repeated_of None toggle = false
is_repeated_of (Some landed) toggle = same_toggle landed toggle

abbrev pub is_repeated : Table → ℕ → Toggle → Bool
is_repeated t zero toggle = is_repeated_of t.core.landed toggle
is_repeated t (suc n) toggle = false

-- endpoint 0 answers NAK while a SETUP lies in the receive FIFO
abbrev pub setup_waits : Table → ℕ → Bool
setup_waits t zero = setup_lies t
setup_waits t (suc n) = false

-- the words of its data and two of status
abbrev pub has_room : Table → List ℕ → Bool
has_room t bytes = nat_le (2 + word_count (length bytes)) (room_of t.rx)

-- then STALL is asked first; then whether the packet is repeated; then enabling and NAKSTS; then the toggle, where another
-- one is acknowledged and dropped; then the room
abbrev pub out_outcome : Table → ℕ → ℕ → Toggle → List ℕ → Bool → OutOutcome
out_outcome t addr ep toggle bytes ok =
    if not (hears_out t addr ep bytes ok) then unheard
    else if setup_waits t ep then naks
    else if (out_end t ep).control.stall then stalls
    else if is_repeated t ep toggle then drops
    else if not (out_end t ep).control.enabled || (out_end t ep).control.nak then naks
    else if not (same_toggle (out_end t ep).toggle toggle) then drops
    else if not (has_room t bytes) then naks
    else lands

abbrev pub out_answer : OutOutcome → BusAnswer
out_answer unheard = answers.NoAnswer
out_answer naks = answers.Nak
out_answer stalls = answers.Stall
out_answer drops = answers.Ack
out_answer lands = answers.Ack

abbrev pub out_entries : ℕ → Toggle → List ℕ → List Entry
out_entries ep toggle bytes =
    record { status = status_word ep (length bytes) (pid_of toggle) out_data; words = words_of bytes }
    ∷ record { status = status_word ep 0 0 out_done; words = [] }
    ∷ []

-- an OUT packet that lands flips the toggle, sets NAKSTS and disables
abbrev pub out_landed : OutEnd → OutEnd
out_landed end = record end { control = at_rest end.control; toggle = flipped end.toggle }

-- one that lands on endpoint 0 also disables its IN direction and empties FIFO 0
abbrev pub landed_on_0 : Table → ℕ → Toggle → Table
landed_on_0 t zero toggle =
    record t {
      core = record t.core { landed = Some toggle };
      in0 = record (emptied t.in0) { control = record t.in0.control { enabled = false } };
    }
landed_on_0 t (suc n) toggle = t

-- it pushes an entry of status 2 with its PID, count and words, and then one of status 3
abbrev pub after_landing : Table → ℕ → Toggle → List ℕ → Table
after_landing t ep toggle bytes =
    landed_on_0 (with_out (record t { rx = record t.rx { entries = t.rx.entries ++ out_entries ep toggle bytes } }) ep (out_landed (out_end t ep))) ep toggle

abbrev pub after_out : Table → ℕ → Toggle → List ℕ → OutOutcome → Table
after_out t ep toggle bytes unheard = t
after_out t ep toggle bytes naks = t
after_out t ep toggle bytes stalls = t
after_out t ep toggle bytes drops = t
after_out t ep toggle bytes lands = after_landing t ep toggle bytes

-- IN.

-- what comes of an IN token: nothing is heard, NAK, STALL, or a packet is sent
pub data InOutcome : Type 0 where
  unheard_in : InOutcome
  naks_in : InOutcome
  stalls_in : InOutcome
  sends : List ℕ → InOutcome

-- with size 0 and count 1 the packet is empty, and has no words in the FIFO
abbrev pub is_empty_packet : ℕ → InEnd → Bool
is_empty_packet number end = (transfer_size number end.tsiz == 0) && (packet_count number end.tsiz == 1)

-- the packet for the host: where the count isn't 0, the empty one, or else the first whole one of the FIFO
abbrev pub packet_ready : ℕ → InEnd → Option (List ℕ)
packet_ready number end =
    if packet_count number end.tsiz == 0 then None
    else if is_empty_packet number end then Some []
    else first_with 0 end.fifo.packets

abbrev pub sends_of : Option (List ℕ) → InOutcome
sends_of None = naks_in
sends_of (Some packet) = sends packet

-- STALL is asked first; then enabling and NAKSTS; then whether there is a packet
abbrev pub in_outcome : Table → ℕ → ℕ → InOutcome
in_outcome t addr ep =
    if not (hears t addr && is_open ep (in_end t ep).control) then unheard_in
    else if setup_waits t ep then naks_in
    else if (in_end t ep).control.stall then stalls_in
    else if not (in_end t ep).control.enabled || (in_end t ep).control.nak then naks_in
    else sends_of (packet_ready ep (in_end t ep))

abbrev pub in_answer : Toggle → InOutcome → BusAnswer
in_answer toggle unheard_in = answers.NoAnswer
in_answer toggle naks_in = answers.Nak
in_answer toggle stalls_in = answers.Stall
in_answer toggle (sends packet) = answers.Data toggle packet

-- on its ACK the packet leaves, the toggle flips and the count falls by 1; where it is then 0, XFRC is set and the
-- endpoint is disabled
abbrev pub fifo_acked : ℕ → InEnd → Tx
fifo_acked number end =
    if is_empty_packet number end
    then end.fifo
    else record end.fifo { packets = without_first 0 end.fifo.packets }

abbrev pub counted_down : ℕ → InEnd → ℕ → InEnd
counted_down number end count =
    record end {
      tsiz = with_packet_count number end.tsiz count;
      xfrc = end.xfrc || (count == 0);
      control = record end.control { enabled = end.control.enabled && not (count == 0) };
    }

abbrev pub in_acked : ℕ → InEnd → InEnd
in_acked number end =
    record (counted_down number end (packet_count number end.tsiz - 1)) {
      toggle = flipped end.toggle;
      fifo = fifo_acked number end;
    }

-- without an ACK nothing changes, and the packet is sent again
abbrev pub after_in : Table → ℕ → Bool → InOutcome → Table
after_in t ep acked unheard_in = t
after_in t ep acked naks_in = t
after_in t ep acked stalls_in = t
after_in t ep false (sends packet) = t
after_in t ep true (sends packet) = with_in t ep (in_acked ep (in_end t ep))

-- Each bus event.

abbrev pub bus_answer : Table → BusEvent → BusAnswer
bus_answer t event.Reset = answers.Done
bus_answer t (event.Setup addr bytes ok) = if hears_setup t addr ok then answers.Ack else answers.NoAnswer
bus_answer t (event.Out addr ep toggle packet ok) = out_answer (out_outcome t addr ep toggle packet ok)
bus_answer t (event.In addr ep ok) = in_answer (in_end t ep).toggle (in_outcome t addr ep)

abbrev pub after_bus : Table → BusEvent → Table
after_bus t event.Reset = after_reset t
after_bus t (event.Setup addr bytes ok) = if hears_setup t addr ok then after_setup t bytes else t
after_bus t (event.Out addr ep toggle packet ok) = after_out t ep toggle packet (out_outcome t addr ep toggle packet ok)
after_bus t (event.In addr ep ok) = after_in t ep ok (in_outcome t addr ep)
