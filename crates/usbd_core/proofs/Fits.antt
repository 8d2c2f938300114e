-- What the software keeps fits the driver's device after each call.
use Rattle.std.proofs.Common.{◌≡◌, ℕ, ◌≤◌, List, [], ◌∷◌, Bool, false, Option, Some, None, refl, ap, ◌∙◌, subst, arith}
use Rattle.usb_descriptor.specs.Set.{Set}
use Rattle.usbd_core.specs.declared.state.DevState.{DevState}
use Rattle.device_machine.specs.declared.control.Stage.{Stage}
use Rattle.device_machine.specs.declared.control.Side.{Side}
use Rattle.device_machine.specs.declared.control.Side.TheVariants.{Wait}
use Rattle.device_machine.specs.Bus.{Bus, is_empty}
use Rattle.device_machine.specs.Pipes.{Pipes}
use Rattle.device_owners.specs.Device.{Core, Transfer, Idle, Sending, Addressing, sent_on}
use Rattle.dwc2_regs.specs.declared.access.TheConstants.{FS4}
use Rattle.device_rings.specs.Capacities.{capacities_of}
use Rattle.device_relation.specs.PipeRelation.{IsSound}
use Rattle.device_relation.specs.Port.{Port, with_side, addressed}
use Rattle.dwc2_device.specs.Driver.{joint, Spends}
use Rattle.usbd_core.specs.Stage.{first_of, rest_of}
use Rattle.usbd_core.specs.Device.{Device, Fits, KeepsAddress, GivesStatus, address_of, port_in}
use Rattle.usbd_core.specs.Task.{GoesInOrder, Leaves}

-- what a part of a task leaves, where the device is seen like this before
pub leaves_by : (view old new : Device) (n : ℕ) → view ≡ old → IsSound FS4 (joint new.port) new.rings → Fits FS4 new.set (port_in new) new.state new.transfer
    → Spends n view.port.bank new.port.bank → new.set ≡ view.set → GoesInOrder view.port new.port → capacities_of new.rings ≡ capacities_of view.rings → Leaves FS4 n old new
leaves_by view old new n v sound fits spends set order rooms = subst (λ (d : Device). Leaves FS4 n d new) v ((sound, fits), spends, set, order, rooms)

pub leaves_within : (n k : ℕ) (old new : Device) → n ≤ k → Leaves FS4 n old new → Leaves FS4 k old new
leaves_within n k old new h l = (l.0, (omega (arith, h, l.1.0), l.1.1, l.1.2), l.2, l.3, l.4)

-- endpoint 0 has something else to do
pub side_fits : (set : Set) (p : Port) (side : Side) (state : DevState) (before after : Transfer) → Fits FS4 set p state before → KeepsAddress side None (address_of after) → GivesStatus after side
    → Fits FS4 set (with_side p side) state after
side_fits set p side state before after f keeps status = record {
  quiet = record { reset = f.quiet.reset; finished = f.quiet.finished; request = f.quiet.request };
  address = f.address;
  served = f.served;
  keeps = keeps;
  status = status;
}

-- a status stage that brings an address
pub address_fits : (set : Set) (p : Port) (packet : List ℕ) (n : ℕ) (state : DevState) (before : Transfer) → Fits FS4 set p state before → Fits FS4 set (addressed (with_side p (Wait packet false)) n) state (Addressing n)
address_fits set p packet n state before f = record {
  quiet = record { reset = f.quiet.reset; finished = f.quiet.finished; request = f.quiet.request };
  address = f.address;
  served = f.served;
  keeps = refl;
  status = refl;
}

-- the other endpoints change, and whether a session stands
pub pipes_fit : (set : Set) (p : Port) (pipes : Pipes) (state : DevState) (session : Bool) (t : Transfer) → Fits FS4 set p state t
    → Fits FS4 set (record p { pipes = pipes }) (record { addr = state.addr; configured = session }) t
pipes_fit set p pipes state session t f = record {
  quiet = record { reset = f.quiet.reset; finished = f.quiet.finished; request = f.quiet.request };
  address = f.address;
  served = f.served;
  keeps = f.keeps;
  status = f.status;
}

-- The next packet of a data stage.

packet_in : Option (List ℕ) → List ℕ
packet_in None = []
packet_in (Some packet) = packet

pub packet_sent : (bus : Bus) (ps : Pipes) (session : Bool) (finished : Option Stage) (request : Option (List ℕ)) (stage rest : List (List ℕ)) (packet : List ℕ) (last : Bool)
    → Some packet ≡ first_of stage → rest ≡ rest_of stage → last ≡ is_empty rest
    → record { bus = record bus { side = Wait packet last }; pipes = ps; session = session; finished = finished; request = request; transfer = Sending rest }
    ≡ sent_on (record { bus = bus; pipes = ps; session = session; finished = finished; request = request; transfer = Sending stage }) (Sending stage)
unfolding packet_in
packet_sent bus ps session finished request [] rest packet last e k l = absurd (cc e)
packet_sent bus ps session finished request (x ∷ xs) rest packet last e k l =
    let after : List ℕ → Bool → List (List ℕ) → Core = λ first ends more. record { bus = record bus { side = Wait first ends }; pipes = ps; session = session; finished = finished; request = request; transfer = Sending more } in
    ap (λ first. after first last rest) (ap packet_in e) ∙ ap (λ b. after x b rest) l ∙ ap (λ more. after x (is_empty more) more) k

pub none_sent : (bus : Bus) (ps : Pipes) (session : Bool) (finished : Option Stage) (request : Option (List ℕ)) (stage : List (List ℕ)) → None ≡ first_of stage
    → record { bus = bus; pipes = ps; session = session; finished = finished; request = request; transfer = Idle }
    ≡ sent_on (record { bus = bus; pipes = ps; session = session; finished = finished; request = request; transfer = Sending stage }) (Sending stage)
none_sent bus ps session finished request [] e = refl
none_sent bus ps session finished request (x ∷ xs) e = absurd (cc e)
