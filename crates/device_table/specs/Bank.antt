-- The controller with what is told of the accesses to it: how many more may be made, the list of those made, and the bus
-- events that are due between two of them.
use Rattle.std.specs.Prelude.{ℕ, ◌+◌, ◌-◌, ◌==◌, min, nat_le, true, false, if◌then◌else◌, List, [], ◌∷◌, ◌++◌}
use Rattle.usb_packet.specs.declared.bus.Toggle.TheVariants.{D0, D1}
use Rattle.usb_packet.specs.declared.bus.BusEvent.{BusEvent}
use Rattle.usb_packet.specs.declared.bus.BusEvent.TheVariants as event
use Rattle.usb_packet.specs.declared.bus.BusAnswer.{BusAnswer}
use Rattle.dwc2_regs.specs.declared.access.Access.{Access}
use Rattle.dwc2_regs.specs.declared.access.During.{During}
use Rattle.device_table.specs.State.{Table}
use Rattle.device_table.specs.Read.{read_value, read_table}
use Rattle.device_table.specs.Write.{write_table}
use Rattle.device_table.specs.Bus.{bus_answer, after_bus}

-- the answer of an event that was due, and after how many accesses it came
pub record Given : Type 0 where
  pub at : ℕ
  pub answer : BusAnswer

pub record Bank : Type 0 where
  pub table : Table
  -- how many more accesses may be made
  pub spare : ℕ
  -- the accesses since the last `begin`, the oldest first
  pub log : List Access
  -- the bus events to come, in order, and the accesses made since they were set, up to 65,535
  pub due : List During
  pub made : ℕ
  -- the answers of those that came
  pub given : List Given

-- the most accesses between two `begin`s
abbrev pub most_accesses : ℕ
most_accesses = 400

-- a count of accesses after one more; at its last value it stands still
abbrev pub last_made : ℕ
last_made = 65535

abbrev pub counted : ℕ → ℕ
counted made = min (made + 1) last_made

abbrev pub begun : Bank → Bank
begun bank = record bank { spare = most_accesses; log = [] }

-- the bus event of one that is due
abbrev pub event_of : During → BusEvent
event_of next =
    if next.is_in
    then event.In next.addr next.ep next.good
    else event.Out next.addr next.ep (if next.toggle == 0 then D0 else D1) next.bytes.items next.good

abbrev pub acted : Bank → During → Bank
acted bank next =
    record bank {
      table = after_bus bank.table (event_of next);
      given = bank.given ++ record { at = bank.made; answer = bus_answer bank.table (event_of next) } ∷ [];
    }

-- the events that are due act, each once so many accesses were made as it says
abbrev pub settled : Bank → List During → Bank
settled bank [] = record bank { due = [] }
settled bank (next ∷ later) =
    if nat_le next.after bank.made then settled (acted bank next) later else record bank { due = next ∷ later }

-- an access is a step of the table, and then what is due acts
abbrev pub logged : Bank → Access → Table → Bank
logged bank access table =
    let now = record bank { table = table; spare = bank.spare - 1; log = bank.log ++ access ∷ []; made = counted bank.made } in
    settled now bank.due

abbrev pub bank_read : Bank → ℕ → Bank
bank_read bank off =
    logged bank (record { write = false; off = off; value = read_value bank.table off }) (read_table bank.table off)

abbrev pub bank_write : Bank → ℕ → ℕ → Bank
bank_write bank off word =
    logged bank (record { write = true; off = off; value = word }) (write_table bank.table off word)

-- new events are set, with no answer yet
abbrev pub due_set : Bank → List During → Bank
due_set bank due = record bank { due = due; made = 0; given = [] }

-- all that are still to come act, whatever number they have
abbrev pub all_acted : Bank → List During → Bank
all_acted bank [] = record bank { due = [] }
all_acted bank (next ∷ later) = all_acted (acted bank next) later

abbrev pub due_finished : Bank → Bank
due_finished bank = all_acted bank bank.due
