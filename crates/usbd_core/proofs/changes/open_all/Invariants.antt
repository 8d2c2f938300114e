-- The first of the endpoints are open.
use Rattle.std.proofs.Common.{◌≡◌, ◌+◌, ◌≤◌, [], take}
use Rattle.dwc2_regs.specs.declared.access.TheConstants.{FS4}
use Rattle.device_relation.specs.PipeRelation.{IsSound}
use Rattle.device_relation.specs.Port.{port_of}
use Rattle.dwc2_device.specs.Driver.{joint, GoesOn}
use Rattle.usbd_core.specs.Task.{GoesInOrder, with_endpoints}
use Rattle.usbd_core.proofs.changes.open_all.Given as goal

abbrev pub invariant-loop-endpoint : goal.invariant-loop-endpoint
invariant-loop-endpoint g l = record {
  port : port_of (joint l.port) l.rings ≡ with_endpoints (port_of (joint l.initial.port) l.rings) (take l.endpoint-index l.endpoints);
  sound : IsSound FS4 (joint l.port) l.rings;
  spare : l.initial.port.bank.spare ≤ l.port.bank.spare + l.endpoint-index;
  still : l.port.bank.due ≡ [];
  goes : GoesOn l.initial.port.bank l.port.bank;
  order : GoesInOrder l.initial.port l.port;
}
