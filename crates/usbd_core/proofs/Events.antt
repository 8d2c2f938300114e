-- Each bus event leaves the address and the endpoints, and what the software goes by of endpoint 0.
use Rattle.std.proofs.Common.{◌≡◌, ℕ, List, Bool, true, false, ◌&&◌, if◌then◌else◌, Option, ap, refl, sym, ◌∙◌, subst}
use Rattle.usb_packet.specs.declared.bus.Toggle.{Toggle}
use Rattle.usb_packet.specs.declared.bus.BusEvent.{BusEvent}
use Rattle.usb_packet.specs.declared.bus.BusEvent.TheVariants as event
use Rattle.usb_descriptor.specs.Set.{Set}
use Rattle.usbd_core.specs.declared.state.DevState.{DevState}
use Rattle.device_machine.specs.declared.control.Stage.{Stage}
use Rattle.device_machine.specs.declared.control.Stage.TheVariants.{Came}
use Rattle.device_machine.specs.declared.control.Side.{Side}
use Rattle.device_machine.specs.declared.control.Side.TheVariants.{Off, Wait, Loaded, Last, Armed, Stall, Finished}
use Rattle.device_machine.specs.Bus.{Bus, bus_after, after_setup, after_out, after_in, disturbed, takes, hears, hears_setup, hears_packet, serves}
use Rattle.device_machine.specs.Pipes.{Pipes}
use Rattle.device_owners.specs.Device.{Transfer, Idle, Sending, Taking, Ending, Addressing, Foreign}
use Rattle.dwc2_regs.specs.declared.access.TheConstants.{FS4}
use Rattle.device_relation.specs.PipeRelation.{pipes_of}
use Rattle.device_relation.specs.Port.{Port}
use Rattle.device_relation.specs.Laws as relation
use Rattle.device_relation.proofs.Events as relation_events
use Rattle.dwc2_device.specs.Driver.{joint}
use Rattle.usbd_core.specs.Device.{KeepsAddress, is_for_host, GivesStatus, Fits, Rests, address_of, bus_of, core_of, port_in}
use Rattle.usbd_core.specs.Laws.{BusKeeps}

-- what holds of one side of endpoint 0 holds of the next
record Follows (a b : Side) : Type 0 where
  off : a ≡ Off → b ≡ Off
  keeps : (next due : Option ℕ) → KeepsAddress a next due → KeepsAddress b next due
  host : is_for_host a ≡ true → is_for_host b ≡ true

same : (a : Side) → Follows a a
same a = record { off = λ e. e; keeps = λ next due k. k; host = λ e. e }

to_off : (a : Side) → Follows a Off
to_off a = record { off = λ e. refl; keeps = λ next due k. tt; host = λ e. refl }

by_setup : (a : Side) → Follows a (disturbed a)
by_setup Off = to_off Off
by_setup (Wait packet last) = same (Wait packet last)
by_setup (Loaded packet) = to_off (Loaded packet)
by_setup (Last packet) = to_off (Last packet)
by_setup Armed = to_off Armed
by_setup Stall = to_off Stall
by_setup (Finished stage) = same (Finished stage)

by_packet : (a : Side) (taken : Bool) (toggle : Toggle) (packet : List ℕ) → takes a taken toggle ≡ true → Follows a (Finished (Came packet))
by_packet Armed taken toggle packet e = record { off = λ o. absurd (cc (o)); keeps = λ next due k. k; host = λ h. absurd (cc (h)) }
by_packet (Last packet) taken toggle came e = record { off = λ o. absurd (cc (o)); keeps = λ next due k. k; host = λ h. absurd (cc (h)) }
by_packet Off taken toggle packet e = absurd (cc (e))
by_packet (Wait packet last) taken toggle came e = absurd (cc (e))
by_packet (Loaded packet) taken toggle came e = absurd (cc (e))
by_packet Stall taken toggle packet e = absurd (cc (e))
by_packet (Finished stage) taken toggle packet e = absurd (cc (e))

-- the same of the whole of what the bus sees
record Stays (a b : Bus) : Type 0 where
  address : b.address ≡ a.address
  side : Follows a.side b.side

itself : (a : Bus) → Stays a a
itself a = record { address = refl; side = same a.side }

either : (b : Bool) (a x y : Bus) → (b ≡ true → Stays a x) → Stays a y → Stays a (if b then x else y)
either true a x y h k = h refl
either false a x y h k = k

setup_stays : (bus : Bus) (bytes : List ℕ) → Stays bus (after_setup bus bytes)
setup_stays bus bytes = record { address = refl; side = by_setup bus.side }

out_stays : (bus : Bus) (toggle : Toggle) (packet : List ℕ) → Stays bus (after_out bus toggle packet)
out_stays bus toggle packet =
    either (takes bus.side bus.taken toggle) bus (record bus { side = Finished (Came packet); taken = true }) bus
    (λ e. record { address = refl; side = by_packet bus.side bus.taken toggle packet e }) (itself bus)

-- with this on endpoint 0
abbrev at : Bus → Side → Bus
at bus side = record bus { side = side }

in_stays : (bus : Bus) (side : Side) → Stays (at bus side) (after_in (at bus side) side)
in_stays bus (Loaded packet) = record { address = refl; side = record { off = λ o. absurd (cc (o)); keeps = λ next due k. k; host = λ h. refl } }
in_stays bus (Last packet) = record { address = refl; side = record { off = λ o. absurd (cc (o)); keeps = λ next due k. k; host = λ h. absurd (cc (h)) } }
in_stays bus Off = itself (at bus Off)
in_stays bus (Wait packet last) = itself (at bus (Wait packet last))
in_stays bus Armed = itself (at bus Armed)
in_stays bus Stall = itself (at bus Stall)
in_stays bus (Finished stage) = itself (at bus (Finished stage))

stays : (bus : Bus) (e : BusEvent) → Stays bus (bus_after bus e)
stays bus event.Reset = record { address = refl; side = same bus.side }
stays bus (event.Setup addr bytes ok) = either (hears_setup bus addr ok) bus (after_setup bus bytes) bus (λ e. setup_stays bus bytes) (itself bus)
stays bus (event.Out addr ep toggle packet ok) =
    either (hears_packet bus addr ok && serves bus ep) bus (after_out bus toggle packet) bus (λ e. out_stays bus toggle packet) (itself bus)
stays bus (event.In addr ep ok) =
    either (hears bus addr && (ok && serves bus ep)) bus (after_in bus bus.side) bus (λ e. in_stays bus bus.side) (itself bus)

-- so the software still fits
status_stays : (t : Transfer) (a b : Side) → Follows a b → GivesStatus t a → GivesStatus t b
status_stays (Addressing n) a b f g = f.host g
status_stays Idle a b f g = tt
status_stays (Sending packets) a b f g = tt
status_stays (Taking o setup) a b f g = tt
status_stays Foreign a b f g = tt
status_stays Ending a b f g = tt

fits_stays : (set : Set) (p : Port) (bus : Bus) (pipes : Pipes) (state : DevState) (t : Transfer) → Stays p.bus bus → Fits FS4 set p state t
    → Fits FS4 set (record p { bus = bus; pipes = pipes }) state t
fits_stays set p bus pipes state t s f = record {
  quiet = record { reset = f.quiet.reset; finished = f.quiet.finished; request = f.quiet.request };
  address = f.address ∙ sym s.address;
  served = f.served;
  keeps = s.side.keeps p.next_address (address_of t) f.keeps;
  status = status_stays t p.bus.side bus.side s.side f.status;
}

rests_stays : (p : Port) (bus : Bus) (finished : Option Stage) (request : Option (List ℕ)) → Stays p.bus bus → Rests p finished request → Rests (record p { bus = bus }) finished request
rests_stays p bus finished request s r = λ e. (s.side.off (r e).0, (r e).1)

pub bus_keeps : BusKeeps FS4
bus_keeps d e a h =
    let k : relation.Keeps FS4 (joint d.port) d.rings e = relation_events.bus_keeps (joint d.port) d.rings e a.sound h in
    let next = bus_after (bus_of d) e in
    let s : Stays (bus_of d) next = stays (bus_of d) e in
    record {
      answer = k.answer;
      core = ap (λ (b : Bus). record (core_of d) { bus = b; pipes = pipes_of (relation.after_event (joint d.port) e) d.rings }) k.next
          ∙ ap (λ (p : Pipes). record (core_of d) { bus = next; pipes = p }) k.pipes;
      agrees = record {
        sound = k.sound;
        fits = subst (λ (b : Bus). Fits FS4 d.set (record (port_in d) { bus = b; pipes = pipes_of (relation.after_event (joint d.port) e) d.rings }) d.state d.transfer) (sym k.next)
            (fits_stays d.set (port_in d) next (pipes_of (relation.after_event (joint d.port) e) d.rings) d.state d.transfer s a.fits);
        rests = subst (λ (b : Bus). Rests (record (port_in d) { bus = b }) d.finished d.request) (sym k.next) (rests_stays (port_in d) next d.finished d.request s a.rests);
      };
    }
