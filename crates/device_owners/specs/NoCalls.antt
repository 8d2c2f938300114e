-- Which steps ask for no call: those on the bus, at a handler run and at a task run.
use Rattle.std.specs.Prelude.{◌≡◌}
use Rattle.usb_packet.specs.declared.bus.BusEvent.{BusEvent}
use Rattle.device_line.specs.declared.line.DevLine.TheVariants.{Bus, Irq, Task}
use Rattle.device_owners.specs.Device.{Device, Machinery}
use Rattle.device_owners.specs.Lines.{after_line}

-- machineries with the same descriptors and the same rules that know the same owners. Their calls may differ, and what their
-- classes held at the start
pub record AreAlike {S : Type 0} (m n : Machinery S) : Type 0 where
  pub set : m.world.set ≡ n.world.set
  pub rules : m.world.rules ≡ n.world.rules
  pub knows : m.knows ≡ n.knows

pub record StepsAlike {S : Type 0} (m n : Machinery S) (d : Device S) : Type 0 where
  pub bus : (e : BusEvent) → after_line m d (Bus e) ≡ after_line n d (Bus e)
  pub irq : after_line m d Irq ≡ after_line n d Irq
  pub task : after_line m d Task ≡ after_line n d Task

abbrev pub AskNoCalls : {S : Type 0} → Machinery S → Machinery S → Type 0
AskNoCalls {S} m n = AreAlike m n → (d : Device S) → StepsAlike m n d
