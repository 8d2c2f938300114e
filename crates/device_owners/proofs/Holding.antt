-- What holds of the whole device beside an owner's machine goes on to hold: at bus events and handler runs.
use Rattle.std.proofs.Common.{◌≡◌, ℕ, List, [], ◌∷◌, Bool, true, false, ◌==◌, ◌&&◌, Option, Some, None, refl, ap, sym, ◌∙◌}
use Rattle.std.specs.Prelude.{if◌then◌else◌}
use Rattle.usb_packet.specs.declared.bus.Toggle.{Toggle}
use Rattle.usb_packet.specs.declared.bus.BusEvent.{BusEvent}
use Rattle.usb_packet.specs.declared.bus.BusEvent.TheVariants as event
use Rattle.usb_packet.specs.declared.bus.Owner.{Owner}
use Rattle.usb_descriptor.specs.Set.{Set, owner_of_endpoint}
use Rattle.device_machine.specs.declared.control.Stage.{Stage}
use Rattle.device_machine.specs.declared.control.Stage.TheVariants.{Came}
use Rattle.device_machine.specs.declared.control.Side.{Side}
use Rattle.device_machine.specs.declared.control.Side.TheVariants.{Off, Finished}
use Rattle.device_machine.specs.Bus.{Bus, is_empty, last_of, hears, hears_packet, hears_setup, serves, disturbed, takes, after_setup, after_out, after_in, bus_after, finished_stage, without_stage, loaded}
use Rattle.device_owners.specs.Device.{Core, emptied, with_stage, with_address, after_stages, new_address, core_after_irq}
use Rattle.device_owners.proofs.Sets.{never}
use Rattle.device_owners.proofs.Kept.{Kept, bus_kept, irq_kept, unopened_kept}
use Rattle.device_owners.proofs.View.{Fits, Fresh, Holds, core_after_bus, irq_of}

-- Bus events.

fresh_if : (request : Option (List ℕ)) (b : Bool) (x y : Bus) → (b ≡ true → Fresh x request) → Fresh y request → Fresh (if b then x else y) request
fresh_if request true x y hx hy = hx refl
fresh_if request false x y hx hy = hy

-- a packet that endpoint 0 serves: no SETUP waits, and where one is noted nothing moves
fresh_served : (request : Option (List ℕ)) (x bus : Bus) → x.unserved ≡ bus.unserved → (bus.side ≡ Off → x ≡ bus) → is_empty bus.unserved ≡ true → Fresh bus request → Fresh x request
fresh_served request x bus same still empty h = record {
  waits_taken = λ e. never (sym e ∙ ap is_empty same ∙ empty);
  waits_toggle = λ e. never (sym e ∙ ap is_empty same ∙ empty);
  noted_taken = λ e. ap (λ (y : Bus). y.taken) (still (h.noted_side e)) ∙ h.noted_taken e;
  noted_toggle = λ e. ap (λ (y : Bus). y.toggle) (still (h.noted_side e)) ∙ h.noted_toggle e;
  noted_side = λ e. ap (λ (y : Bus). y.side) (still (h.noted_side e)) ∙ h.noted_side e;
}

last_true : (a b c : Bool) → (a && (b && c)) ≡ true → c ≡ true
last_true true true c e = e
last_true true false c e = never e
last_true false b c e = never e

last_of_four : (a b c d : Bool) → (a && (b && (c && d))) ≡ true → d ≡ true
last_of_four true true true d e = e
last_of_four true true false d e = never e
last_of_four true false c d e = never e
last_of_four false b c d e = never e

same_out : (bus : Bus) (packet : List ℕ) (b : Bool) → (if b then record bus { side = Finished (Came packet); taken = true } else bus).unserved ≡ bus.unserved
same_out bus packet true = refl
same_out bus packet false = refl

same_in : (bus : Bus) (side : Side) → (after_in bus side).unserved ≡ bus.unserved
same_in bus Off = refl
same_in bus side = refl

still_out : (bus : Bus) (toggle : Toggle) (packet : List ℕ) → bus.side ≡ Off → after_out bus toggle packet ≡ bus
still_out bus toggle packet e = ap (λ s. if takes s bus.taken toggle then record bus { side = Finished (Came packet); taken = true } else bus) e

bus_fresh : (bus : Bus) (request : Option (List ℕ)) (e : BusEvent) → Fresh bus request → Fresh (bus_after bus e) request
bus_fresh bus request event.Reset h = record {
  waits_taken = h.waits_taken;
  waits_toggle = h.waits_toggle;
  noted_taken = h.noted_taken;
  noted_toggle = h.noted_toggle;
  noted_side = h.noted_side;
}
bus_fresh bus request (event.Setup addr bytes ok) h =
    fresh_if request (hears_setup bus addr ok) (after_setup bus bytes) bus
    (λ _. record {
      waits_taken = λ e. refl;
      waits_toggle = λ e. refl;
      noted_taken = λ e. refl;
      noted_toggle = λ e. refl;
      noted_side = λ e. ap disturbed (h.noted_side e);
    }) h
bus_fresh bus request (event.Out addr ep toggle packet ok) h =
    fresh_if request (hears_packet bus addr ok && serves bus ep) (after_out bus toggle packet) bus
    (λ e. fresh_served request (after_out bus toggle packet) bus (same_out bus packet (takes bus.side bus.taken toggle)) (still_out bus toggle packet)
    (last_true (hears_packet bus addr ok) (ep == 0) (is_empty bus.unserved) e) h) h
bus_fresh bus request (event.In addr ep ok) h =
    fresh_if request (hears bus addr && (ok && serves bus ep)) (after_in bus bus.side) bus
    (λ e. fresh_served request (after_in bus bus.side) bus (same_in bus bus.side) (λ k. ap (after_in bus) k) (last_of_four (hears bus addr) ok (ep == 0) (is_empty bus.unserved) e) h) h

pub bus_holds : (set : Set) (o : Owner) (foreign : Bool) (last : Owner) (core : Core) (e : BusEvent) → Holds set o foreign last core → Holds set o foreign last (core_after_bus core e)
bus_holds set o foreign last core e h = record {
  kept = bus_kept (owner_of_endpoint set.config) core.bus core.pipes e h.kept;
  fits = h.fits;
  fresh = bus_fresh core.bus core.request e h.fresh;
  strange = h.strange;
}

-- Handler runs.

filled : (xs : List (List ℕ)) (bytes : List ℕ) → last_of xs ≡ Some bytes → is_empty xs ≡ false
filled [] bytes e = absurd (cc (e))
filled (x ∷ xs) bytes e = refl

plain_fresh : (core : Core) (stage : Option Stage) (bytes : Option (List ℕ)) → last_of core.bus.unserved ≡ bytes → Fresh core.bus core.request
    → Fresh (irq_of core stage bytes).bus (irq_of core stage bytes).request
plain_fresh core None None e h = record {
  waits_taken = h.waits_taken;
  waits_toggle = h.waits_toggle;
  noted_taken = h.noted_taken;
  noted_toggle = h.noted_toggle;
  noted_side = λ k. ap loaded (h.noted_side k);
}
plain_fresh core (Some stage) None e h = record {
  waits_taken = h.waits_taken;
  waits_toggle = h.waits_toggle;
  noted_taken = h.noted_taken;
  noted_toggle = h.noted_toggle;
  noted_side = λ k. ap (λ s. loaded (without_stage s)) (h.noted_side k);
}
plain_fresh core None (Some bytes) e h = record {
  waits_taken = λ k. never (sym k);
  waits_toggle = λ k. never (sym k);
  noted_taken = λ k. h.waits_taken (filled core.bus.unserved bytes e);
  noted_toggle = λ k. h.waits_toggle (filled core.bus.unserved bytes e);
  noted_side = λ k. refl;
}
plain_fresh core (Some stage) (Some bytes) e h = record {
  waits_taken = λ k. never (sym k);
  waits_toggle = λ k. never (sym k);
  noted_taken = λ k. h.waits_taken (filled core.bus.unserved bytes e);
  noted_toggle = λ k. h.waits_toggle (filled core.bus.unserved bytes e);
  noted_side = λ k. refl;
}

plain_pipes : (core : Core) (stage : Option Stage) (bytes : Option (List ℕ)) (owner : ℕ → Owner) → Kept owner core.pipes → Kept owner (irq_of core stage bytes).pipes
plain_pipes core None None owner h = irq_kept owner core.pipes h
plain_pipes core (Some stage) None owner h = irq_kept owner core.pipes h
plain_pipes core None (Some bytes) owner h = irq_kept owner core.pipes h
plain_pipes core (Some stage) (Some bytes) owner h = irq_kept owner core.pipes h

plain_fits : (o : Owner) (foreign : Bool) (core : Core) (stage : Option Stage) (bytes : Option (List ℕ)) → Fits o foreign core.transfer → Fits o foreign (irq_of core stage bytes).transfer
plain_fits o foreign core None None h = h
plain_fits o foreign core (Some stage) None h = h
plain_fits o foreign core None (Some bytes) h = h
plain_fits o foreign core (Some stage) (Some bytes) h = h

plain_holds : (set : Set) (o : Owner) (foreign : Bool) (last : Owner) (core : Core) (stage : Option Stage) → Holds set o foreign last core → Holds set o foreign last (irq_of core stage (last_of core.bus.unserved))
plain_holds set o foreign last core stage h = record {
  kept = plain_pipes core stage (last_of core.bus.unserved) (owner_of_endpoint set.config) h.kept;
  fits = plain_fits o foreign core stage (last_of core.bus.unserved) h.fits;
  fresh = plain_fresh core stage (last_of core.bus.unserved) refl h.fresh;
  strange = h.strange;
}

address_holds : (set : Set) (o : Owner) (foreign : Bool) (last : Owner) (core : Core) (stage : Option Stage) (n : ℕ) → Holds set o foreign last core → Holds set o foreign last (with_address (with_stage core stage) n)
address_holds set o foreign last core None n h = record {
  kept = h.kept;
  fits = h.fits;
  fresh = record {
    waits_taken = h.fresh.waits_taken;
    waits_toggle = h.fresh.waits_toggle;
    noted_taken = h.fresh.noted_taken;
    noted_toggle = h.fresh.noted_toggle;
    noted_side = h.fresh.noted_side;
  };
  strange = h.strange;
}
address_holds set o foreign last core (Some stage) n h = record {
  kept = h.kept;
  fits = h.fits;
  fresh = record {
    waits_taken = h.fresh.waits_taken;
    waits_toggle = h.fresh.waits_toggle;
    noted_taken = h.fresh.noted_taken;
    noted_toggle = h.fresh.noted_toggle;
    noted_side = λ k. ap without_stage (h.fresh.noted_side k);
  };
  strange = h.strange;
}

stages_hold : (set : Set) (o : Owner) (foreign : Bool) (last : Owner) (core : Core) (address : Option ℕ) → Holds set o foreign last core → Holds set o foreign last (after_stages core address)
stages_hold set o foreign last core None h = plain_holds set o foreign last core (finished_stage core.bus.side) h
stages_hold set o foreign last core (Some n) h = address_holds set o foreign last core (finished_stage core.bus.side) n h

pub emptied_holds : (set : Set) (o : Owner) (last : Owner) (awake : Bool) → Holds set o false last (emptied awake)
emptied_holds set o last awake = record {
  kept = unopened_kept (owner_of_endpoint set.config);
  fits = tt;
  fresh = record {
    waits_taken = λ e. refl;
    waits_toggle = λ e. never (sym e);
    noted_taken = λ e. refl;
    noted_toggle = λ e. never e;
    noted_side = λ e. refl;
  };
  strange = λ e. never e;
}

reset_or : (set : Set) (o : Owner) (foreign : Bool) (last : Owner) (reset : Bool) (x : Core) → Holds set o foreign last x
    → Holds set o (if reset then false else foreign) last (if reset then emptied true else x)
reset_or set o foreign last true x h = emptied_holds set o last true
reset_or set o foreign last false x h = h

pub irq_holds : (set : Set) (o : Owner) (foreign : Bool) (last : Owner) (core : Core) → Holds set o foreign last core
    → Holds set o (if core.bus.reset then false else foreign) last (core_after_irq core)
irq_holds set o foreign last core h =
    let address = new_address core.transfer (finished_stage core.bus.side) in
    reset_or set o foreign last core.bus.reset (after_stages core address) (stages_hold set o foreign last core address h)
