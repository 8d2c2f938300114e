-- The notes that a handler run leaves are taken without an access.
use Rattle.std.proofs.Common.{◌≡◌, ℕ, Bool, Option, Some, None, refl, ap, ◌∙◌}
use Rattle.access_order.specs.Phase.{Phase, over}
use Rattle.device_relation.specs.Software.{Software}
use Rattle.dwc2_device.specs.Driver.{Driver}
use Rattle.dwc2_device.specs.Notes.{first_zero_note, zero_noted, without_zero_note}
use Rattle.dwc2_device.specs.declared.notes.Note.{Note}
use Rattle.dwc2_device.specs.declared.notes.Note.TheVariants.{Reset, Ep0In, Ep0Out, Setup, Out, In}
use Rattle.dwc2_device.specs.Order.{Goes}
use Rattle.dwc2_device.proofs.Ordered.{still, then}
use Rattle.usbd_core.specs.Device.{Device}
use Rattle.usbd_core.specs.Hears.{noted, with_driver, after_note}

same_ins : (s : Software) (note : Option Note) → (zero_noted s note).ins ≡ s.ins
same_ins s None = refl
same_ins s (Some Reset) = refl
same_ins s (Some Ep0In) = refl
same_ins s (Some (Ep0Out packet)) = refl
same_ins s (Some (Setup bytes)) = refl
same_ins s (Some (Out n)) = refl
same_ins s (Some (In n)) = refl

same_port : (d : Device) (note : Option Note) → (noted d note).port ≡ d.port
same_port d None = refl
same_port d (Some Reset) = refl
same_port d (Some Ep0In) = refl
same_port d (Some (Ep0Out packet)) = refl
same_port d (Some (Setup bytes)) = refl
same_port d (Some (Out n)) = refl
same_port d (Some (In n)) = refl

-- the driver behind a note
abbrev without_note : Device → Driver
without_note d = record d.port { software = without_zero_note d.port.software }

port_is : (d : Device) → (after_note d).port ≡ without_note d
port_is d = same_port (with_driver d (without_note d)) (first_zero_note d.port.software)

pub heard_on : (from : (ℕ → Bool) → Phase) (old : Driver) (d e : Device) → e ≡ after_note d → Goes from over old d.port → Goes from over old e.port
heard_on from old d e h k =
    let is : e.port ≡ without_note d = ap (λ (x : Device). x.port) h ∙ port_is d in
    let ins : e.port.software.ins ≡ d.port.software.ins = ap (λ (p : Driver). p.software.ins) is ∙ same_ins d.port.software (first_zero_note d.port.software) in
    let log : e.port.bank.log ≡ d.port.bank.log = ap (λ (p : Driver). p.bank.log) is in
    then old d.port e.port from over over k (still d.port e.port over ins log)
