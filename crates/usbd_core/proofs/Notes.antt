-- A task leaves no note.
use Rattle.std.proofs.Common.{◌≡◌, ℕ, zero, suc, List, [], ◌∷◌, Option, Some, None, refl, ap, sym, ◌∙◌, subst}
use Rattle.usb_packet.specs.Setup.{fields_of}
use Rattle.usb_pipe.specs.declared.decision.Decision.{Decision}
use Rattle.usb_pipe.specs.declared.decision.Decision.TheVariants as decision
use Rattle.usb_descriptor.specs.Set.{Set}
use Rattle.usb_control.specs.declared.state.Effect.{Effect}
use Rattle.usb_control.specs.declared.state.Effect.TheVariants as effect
use Rattle.usb_control.specs.declared.state.Choice.{Choice}
use Rattle.usb_control.specs.declared.state.Choice.TheVariants.{Own, Class}
use Rattle.usb_control.specs.Table.{choice}
use Rattle.device_machine.specs.declared.control.Stage.{Stage}
use Rattle.device_machine.specs.Packets.{data_packets}
use Rattle.usb_packet.specs.declared.bus.Owner.{Owner}
use Rattle.usb_packet.specs.declared.setup.Setup.{Setup}
use Rattle.usb_pipe.specs.Rules.{Rules}
use Rattle.usb_pipe.specs.Classes.{Classes, class_at}
use Rattle.device_owners.specs.Device.{Core, Transfer, Machinery, core_state, sending, with_data, staged, class_staged, changed, begun, work_request, with_request_worked}
use Rattle.device_owners.specs.Device.{Device as Whole}
use Rattle.dwc2_regs.specs.declared.access.TheConstants.{FS4}
use Rattle.device_relation.specs.PipeRelation.{IsSound}
use Rattle.device_relation.specs.Port.{Port, port_of}
use Rattle.dwc2_device.specs.Driver.{Driver, joint}
use Rattle.dwc2_device.specs.Notes.{pipes_noted}
use Rattle.usbd_core.specs.declared.state.DevState.{DevState}
use Rattle.usbd_core.specs.Device.{Device, core_of, seen, machinery, port_in, Fits, Rests, Agrees}

-- the notes of two cores are the same
record SameNotes (new old : Core) : Type 0 where
  finished : new.finished ≡ old.finished
  request : new.request ≡ old.request

sending_notes : (core : Core) (packets : List (List ℕ)) → SameNotes (sending core packets) core
sending_notes core [] = record { finished = refl; request = refl }
sending_notes core (packet ∷ packets) = record { finished = refl; request = refl }

data_notes : (core : Core) (bytes : List ℕ) (allowed : ℕ) → SameNotes (with_data core bytes allowed) core
data_notes core bytes zero = record { finished = refl; request = refl }
data_notes core bytes (suc n) = sending_notes core (data_packets bytes (suc n))

staged_notes : (core : Core) (d : Decision) (e : Effect) (allowed : ℕ) → SameNotes (staged core d e allowed) core
staged_notes core (decision.Data bytes) e allowed = data_notes core bytes.items allowed
staged_notes core (decision.Take n) e allowed = record { finished = refl; request = refl }
staged_notes core decision.Status e allowed = record { finished = refl; request = refl }
staged_notes core decision.Stall e allowed = record { finished = refl; request = refl }

class_notes : (core : Core) (o : Owner) (setup : Setup) (d : Decision) → SameNotes (class_staged core o setup d) core
class_notes core o setup (decision.Data bytes) = data_notes core bytes.items setup.length
class_notes core o setup (decision.Take n) = record { finished = refl; request = refl }
class_notes core o setup decision.Status = record { finished = refl; request = refl }
class_notes core o setup decision.Stall = record { finished = refl; request = refl }

changed_notes : {S : Type 0} (m : Machinery S) (d : Whole S) (e : Effect) → SameNotes (changed m d e).core d.core
changed_notes m d effect.None = record { finished = refl; request = refl }
changed_notes m d (effect.Address n) = record { finished = refl; request = refl }
changed_notes m d (effect.Configure begins) = record { finished = refl; request = refl }
changed_notes m d (effect.Halt a) = record { finished = refl; request = refl }
changed_notes m d (effect.Clear a) = record { finished = refl; request = refl }
changed_notes m d (effect.ClearInterface n) = record { finished = refl; request = refl }

begun_notes : {S : Type 0} (m : Machinery S) (d : Whole S) (setup : Setup) (c : Choice) → SameNotes (begun m d setup c).core d.core
begun_notes m d setup (Own decision e) =
    let stage = staged_notes d.core decision e setup.length in
    let change = changed_notes m (record d { core = staged d.core decision e setup.length }) e in
    record { finished = change.finished ∙ stage.finished; request = change.request ∙ stage.request }
begun_notes m d setup (Class o) = class_notes d.core o setup ((m.world.rules o).decides (class_at d.classes o) setup)

request_notes : {S : Type 0} (rules : Owner → Rules S) (set : Set) (first : Classes S) (d : Whole S) (request : Option (List ℕ)) → d.core.request ≡ request → d.core.finished ≡ None
    → ((work_request (machinery rules set first) d request).core.finished ≡ None) × ((work_request (machinery rules set first) d request).core.request ≡ None)
request_notes rules set first d None e f = (f, e)
request_notes rules set first d (Some bytes) e f =
    let notes = begun_notes (machinery rules set first) (record d { core = record d.core { request = None } }) (fields_of bytes) (choice set (core_state d.core) (fields_of bytes)) in
    (notes.finished ∙ f, notes.request)

-- with no note nothing is asked of endpoint 0
none_rests : (p : Port) → Rests p None None
none_rests p = λ e. absurd (cc e)

quiet_rests : (p : Port) (core : Core) → core.finished ≡ None → core.request ≡ None → Rests p core.finished core.request
quiet_rests p core finished request =
    subst (λ (f : Option Stage). Rests p f core.request) (sym finished) (subst (λ (r : Option (List ℕ)). Rests p None r) (sym request) (none_rests p))

-- so controller and software agree once the SETUP is worked
pub worked_agrees : {S : Type 0} (rules : Owner → Rules S) (before after : Classes S) (old new : Device) → old.finished ≡ None
    → seen new after ≡ with_request_worked (machinery rules old.set before) (seen old before) → IsSound FS4 (joint new.port) new.rings
    → Fits FS4 new.set (port_in new) new.state new.transfer → Agrees FS4 new
worked_agrees {S = S} rules before after old new none e sound fits =
    let notes = request_notes rules old.set before (seen old before) old.request refl none in
    record {
      sound = sound;
      fits = fits;
      rests = quiet_rests (port_in new) (core_of new) (ap (λ (d : Whole S). d.core.finished) e ∙ notes.0) (ap (λ (d : Whole S). d.core.request) e ∙ notes.1);
    }

-- and once what was found on the other endpoints is taken up
fits_noted : (set : Set) (p : Port) (state : DevState) (t : Transfer) → Fits FS4 set p state t → Fits FS4 set (pipes_noted p) state t
fits_noted set p state t f = record {
  quiet = record { reset = f.quiet.reset; finished = f.quiet.finished; request = f.quiet.request };
  address = f.address;
  served = f.served;
  keeps = f.keeps;
  status = f.status;
}

pub noted_agrees : (d : Device) (port : Driver) → Agrees FS4 d → IsSound FS4 (joint port) d.rings → port_of (joint port) d.rings ≡ pipes_noted (port_in d) → Agrees FS4 (record d { port = port })
noted_agrees d port a sound e = record {
  sound = sound;
  fits = subst (λ (p : Port). Fits FS4 d.set p d.state d.transfer) (sym e) (fits_noted d.set (port_in d) d.state d.transfer a.fits);
  rests = subst (λ (p : Port). Rests p d.finished d.request) (sym e) a.rests;
}
