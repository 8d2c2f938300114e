-- The halts of those so far have ended.
use Rattle.std.proofs.Common.{◌≡◌, ◌+◌, ◌*◌, ◌≤◌, [], take}
use Rattle.usb_descriptor.specs.Set.{has_endpoint}
use Rattle.dwc2_regs.specs.declared.access.TheConstants.{FS4}
use Rattle.device_relation.specs.PipeRelation.{IsSound}
use Rattle.device_rings.specs.Capacities.{capacities_of}
use Rattle.device_relation.specs.Port.{port_of}
use Rattle.dwc2_device.specs.Driver.{joint, GoesOn}
use Rattle.usbd_core.specs.Task.{GoesInOrder, with_halts_ended}
use Rattle.usbd_core.proofs.changes.clear_halts.Given as goal

abbrev pub invariant-loop-endpoint : goal.invariant-loop-endpoint
invariant-loop-endpoint g l = record {
  port : port_of (joint l.port) l.rings ≡ with_halts_ended (has_endpoint l.set.config l.number) (port_of (joint l.initial.port) l.initial.rings) (take l.endpoint-index l.endpoints);
  sound : IsSound FS4 (joint l.port) l.rings;
  spare : l.initial.port.bank.spare ≤ l.port.bank.spare + 3 * l.endpoint-index;
  still : l.port.bank.due ≡ [];
  goes : GoesOn l.initial.port.bank l.port.bank;
  order : GoesInOrder l.initial.port l.port;
  capacities : capacities_of l.rings ≡ capacities_of l.initial.rings;
}
