-- What a view of one owner's pipes shows of a device, and what it leaves as it is.
use Rattle.std.specs.Prelude.{◌≡◌, ℕ, [], false}
use Rattle.usb_packet.specs.declared.bus.Owner.{Owner}
use Rattle.usb_descriptor.specs.Set.{endpoints_of, is_core}
use Rattle.usb_pipe.specs.Own.{Own}
use Rattle.device_machine.specs.Laws.{AreOf}
use Rattle.device_machine.specs.Session.{opened}
use Rattle.device_rings.specs.Sizes.{rings_of}
use Rattle.device_owners.specs.Ends.{number_at, own_pipes, with_own}
use Rattle.dwc2_regs.specs.declared.access.TheConstants.{FS4}
use Rattle.device_relation.specs.PipeRelation.{IsSound}
use Rattle.device_relation.specs.Port.{Port, with_pipes}
use Rattle.dwc2_device.specs.Driver.{joint, Spends, GoesOn}
use Rattle.usbd_core.specs.Device.{Device, Agrees, port_in}
use Rattle.usbd_core.specs.Task.{GoesInOrder}
use Rattle.device_rings.specs.Capacities.{capacities_of}

-- What holds of a device between two tasks, and after each call of a class: controller, driver and software agree, nothing is
-- due on the bus, the endpoints other than 0 that are open are those of the session (USB 2.0, 9.1.1.5), and the rings have the
-- sizes that the endpoints of the set have.
pub record IsWhole (d : Device) : Type 0 where
  pub agrees : Agrees FS4 d
  pub still : d.port.bank.due ≡ []
  pub opens : AreOf (opened d.set d.state.configured) (port_in d).pipes
  pub sizes : capacities_of d.rings ≡ capacities_of (rings_of (endpoints_of d.set.config))

-- an owner's pipes
abbrev pub own_of : Owner → Device → Own
own_of o d = own_pipes d.set o (port_in d).pipes

-- all but the owner's pipes is the same, and accesses that were in order go on so
pub record Beside (o : Owner) (old new : Device) : Type 0 where
  pub set : new.set ≡ old.set
  pub state : new.state ≡ old.state
  pub finished : new.finished ≡ old.finished
  pub request : new.request ≡ old.request
  pub transfer : new.transfer ≡ old.transfer
  pub port : port_in new ≡ with_pipes (port_in old) (with_own old.set o (port_in old).pipes (own_of o new))
  pub order : GoesInOrder old.port new.port
  pub moves : GoesOn old.port.bank new.port.bank

-- one call on a pipe, of so many accesses: the device of driver and rings is this one, and all else is the same
pub record Becomes (n : ℕ) (old new : Device) (p : Port) : Type 0 where
  pub rest : new ≡ record old { port = new.port; rings = new.rings }
  pub port : port_in new ≡ p
  pub sound : IsSound FS4 (joint new.port) new.rings
  pub sizes : capacities_of new.rings ≡ capacities_of old.rings
  pub order : GoesInOrder old.port new.port
  pub spends : Spends n old.port.bank new.port.bank

-- what a view of an owner's pipes is over: the owner is a class, and the numbers of its endpoints are known
pub record IsView (o : Owner) (sends receives notifies : ℕ) (d : Device) : Type 0 where
  pub whole : IsWhole d
  pub class : is_core o ≡ false
  pub sends_is : sends ≡ number_at d.set o 0
  pub receives_is : receives ≡ number_at d.set o 1
  pub notifies_is : notifies ≡ number_at d.set o 2
