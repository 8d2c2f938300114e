-- What the bus does keeps the device.
use Rattle.std.specs.Prelude.{◌≡◌}
use Rattle.usb_packet.specs.declared.bus.BusEvent.{BusEvent}
use Rattle.dwc2_regs.specs.declared.access.Profile.{Profile}
use Rattle.device_machine.specs.Bus as bus
use Rattle.device_owners.specs.Device.{core_after_bus}
use Rattle.device_table.specs.Bus as table
use Rattle.device_relation.specs.Laws.{IsEvent}
use Rattle.usbd_core.specs.Device.{Device, core_of, Agrees}

-- the controller moves, and all else stays
abbrev pub after_event : Device → BusEvent → Device
after_event d e = record d { port = record d.port { bank = record d.port.bank { table = table.after_bus d.port.bank.table e } } }

-- the controller answers what the core answers, the core that the device is makes its step, and all agree as before
pub record Keeps (profile : Profile) (d : Device) (e : BusEvent) : Type 0 where
  pub answer : table.bus_answer d.port.bank.table e ≡ bus.bus_answer (core_of d).bus (core_of d).pipes e
  pub core : core_of (after_event d e) ≡ core_after_bus (core_of d) e
  pub agrees : Agrees profile (after_event d e)

abbrev pub BusKeeps : Profile → Type 0
BusKeeps profile = (d : Device) (e : BusEvent) → Agrees profile d → IsEvent e → Keeps profile d e
