-- What holds of a device between two tasks is so at its start, and a handler run and a task keep it.
use Rattle.std.proofs.Common.{◌≡◌, [], false, Option, Some, None, refl, ap, sym, ◌∙◌, subst}
use Rattle.usb_packet.specs.declared.bus.BusEvent.{BusEvent}
use Rattle.usb_packet.specs.declared.bus.Owner.{Owner}
use Rattle.usb_pipe.specs.Rules.{Rules}
use Rattle.usb_pipe.specs.Classes.{Classes}
use Rattle.usb_descriptor.specs.Set.{Set, endpoints_of}
use Rattle.dwc2_regs.specs.declared.access.TheConstants.{FS4}
use Rattle.device_table.specs.Bank.{Bank}
use Rattle.device_owners.specs.Device.{Idle, core_after_irq, with_control_worked, with_notes_taken}
use Rattle.device_owners.specs.Device.{Device as Whole}
use Rattle.device_machine.specs.Laws.{AreOf}
use Rattle.device_machine.proofs.Opens.{unopened_of}
use Rattle.device_rings.specs.Rings.{Rings}
use Rattle.device_rings.specs.Capacities.{capacities_of}
use Rattle.device_rings.specs.Sizes.{rings_of}
use Rattle.device_relation.specs.Laws.{at_start, IsEvent}
use Rattle.dwc2_device.specs.Driver.{Driver, joint}
use Rattle.dwc2_device.specs.declared.notes.Note.{Note}
use Rattle.dwc2_device.specs.declared.notes.Note.TheVariants.{Reset, Ep0In, Ep0Out, Setup, Out, In}
use Rattle.dwc2_device.specs.Notes.{first_zero_note, without_zero_note}
use Rattle.usbd_core.specs.Device.{Device, Agrees, core_of, seen, machinery}
use Rattle.usbd_core.specs.Hears.{noted, with_driver, after_note}
use Rattle.usbd_core.specs.Laws.{after_event}
use Rattle.usbd_core.specs.View.{IsWhole}
use Rattle.usbd_core.proofs.Begins.{start_pipes}
use Rattle.usbd_core.proofs.Events.{bus_keeps}
use Rattle.usbd_core.proofs.Irq.{with_both}
use Rattle.usbd_core.proofs.Session.{IsOpen, after_bus_open, after_irq_open, control_open}

-- the rings have the sizes of the set still
sized : (old new : Device) → IsWhole old → new.set ≡ old.set → capacities_of new.rings ≡ capacities_of old.rings → capacities_of new.rings ≡ capacities_of (rings_of (endpoints_of new.set.config))
sized old new w s c = c ∙ w.sizes ∙ ap (λ (set : Set). capacities_of (rings_of (endpoints_of set.config))) (sym s)

-- so a task keeps what holds, up to the work of its classes
pub control_whole : {S : Type 0} (rules : Owner → Rules S) (before after : Classes S) (old new : Device) → IsWhole old → Agrees FS4 new
    → seen new after ≡ with_notes_taken (machinery rules old.set before) (with_control_worked (machinery rules old.set before) (seen old before))
    → new.set ≡ old.set → new.port.bank.due ≡ [] → capacities_of new.rings ≡ capacities_of old.rings → IsWhole new
control_whole {S = S} rules before after old new w a e s due c = record {
  agrees = a;
  still = due;
  opens = subst (λ (set : Set). IsOpen set (core_of new)) (sym s) (subst (λ (d : Whole S). IsOpen old.set d.core) (sym e) (control_open rules old.set before (seen old before) w.opens));
  sizes = sized old new w s c;
}

-- what a note leaves
record Left (a b : Device) : Type 0 where
  set : b.set ≡ a.set
  rings : b.rings ≡ a.rings
  bank : b.port.bank ≡ a.port.bank

by_note : (d : Device) (note : Option Note) → Left d (noted d note)
by_note d None = record { set = refl; rings = refl; bank = refl }
by_note d (Some Reset) = record { set = refl; rings = refl; bank = refl }
by_note d (Some Ep0In) = record { set = refl; rings = refl; bank = refl }
by_note d (Some (Ep0Out packet)) = record { set = refl; rings = refl; bank = refl }
by_note d (Some (Setup bytes)) = record { set = refl; rings = refl; bank = refl }
by_note d (Some (Out n)) = record { set = refl; rings = refl; bank = refl }
by_note d (Some (In n)) = record { set = refl; rings = refl; bank = refl }

heard : (d : Device) → Left d (after_note d)
heard d =
    let l = by_note (with_driver d (record d.port { software = without_zero_note d.port.software })) (first_zero_note d.port.software) in
    record { set = l.set; rings = l.rings; bank = l.bank }

on : (a b c : Device) → Left a b → Left b c → Left a c
on a b c h k = record { set = k.set ∙ h.set; rings = k.rings ∙ h.rings; bank = k.bank ∙ h.bank }

both : (view one two : Device) (d : Driver) (rings : Rings) → one ≡ after_note (with_both view d rings) → two ≡ after_note one → Left (with_both view d rings) two
both view one two d rings first second =
    on (with_both view d rings) one two (subst (Left (with_both view d rings)) (sym first) (heard (with_both view d rings))) (subst (Left one) (sym second) (heard one))

pub irq_whole : (view old : Device) (d : Driver) (rings : Rings) (one two : Device) → view ≡ old → IsWhole old → Agrees FS4 two → core_of two ≡ core_after_irq (core_of old)
    → one ≡ after_note (with_both view d rings) → two ≡ after_note one → capacities_of rings ≡ capacities_of view.rings → d.bank.due ≡ [] → IsWhole two
irq_whole view old d rings one two v w a core first second c due =
    let l = both view one two d rings first second in
    let s : two.set ≡ old.set = l.set ∙ ap (λ (x : Device). x.set) v in
    record {
      agrees = a;
      still = ap (λ (b : Bank). b.due) l.bank ∙ due;
      opens = subst (λ (set : Set). IsOpen set (core_of two)) (sym s) (subst (IsOpen old.set) (sym core) (after_irq_open old.set (core_of old) w.opens));
      sizes = sized old two w s (ap capacities_of l.rings ∙ c ∙ ap (λ (x : Device). capacities_of x.rings) v);
    }

-- the device at its start
abbrev at_first : Set → Driver → Rings → Device
at_first set port rings = record { set = set; port = port; rings = rings; state = record { addr = 0; configured = false }; finished = None; request = None; transfer = Idle }

pub start_whole : (set : Set) (port : Driver) (rings : Rings) → Agrees FS4 (at_first set port rings) → joint port ≡ at_start FS4 → rings ≡ rings_of (endpoints_of set.config) → port.bank.due ≡ []
    → IsWhole (at_first set port rings)
start_whole set port rings a e r due = record {
  agrees = a;
  still = due;
  opens = subst (AreOf []) (sym (start_pipes (joint port) rings (endpoints_of set.config) e r)) unopened_of;
  sizes = ap capacities_of r;
}

-- a bus event
pub event_whole : (d : Device) (e : BusEvent) → IsWhole d → IsEvent e → IsWhole (after_event d e)
event_whole d e w h =
    let k = bus_keeps d e w.agrees h in
    record { agrees = k.agrees; still = w.still; opens = subst (IsOpen d.set) (sym k.core) (after_bus_open d.set (core_of d) e w.opens); sizes = w.sizes }
