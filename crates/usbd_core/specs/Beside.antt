-- Calls on an owner's pipes leave what is beside them, one after another.
use Rattle.std.proofs.Common.{refl, ap, sym, ◌∙◌}
use Rattle.usb_packet.specs.declared.bus.Owner.{Owner}
use Rattle.usb_descriptor.specs.Set.{Set}
use Rattle.device_owners.specs.Ends.{with_own}
use Rattle.device_relation.specs.Port.{Port, with_pipes}
use Rattle.usbd_core.specs.Device.{Device, port_in}
use Rattle.usbd_core.specs.View.{Beside, own_of}
use Rattle.device_owners.proofs.Own.{own_found, own_twice}

pub beside_itself : (o : Owner) (d : Device) → Beside o d d
beside_itself o d = record {
  set = refl;
  state = refl;
  finished = refl;
  request = refl;
  transfer = refl;
  port = ap (with_pipes (port_in d)) (sym (own_found d.set o (port_in d).pipes));
  order = λ start k. k;
  moves = λ start m. m;
}

pub beside_then : (o : Owner) (a b c : Device) → Beside o a b → Beside o b c → Beside o a c
beside_then o a b c h k =
    let mid = with_own a.set o (port_in a).pipes (own_of o b) in
    record {
      set = k.set ∙ h.set;
      state = k.state ∙ h.state;
      finished = k.finished ∙ h.finished;
      request = k.request ∙ h.request;
      transfer = k.transfer ∙ h.transfer;
      port = k.port
          ∙ ap (λ (p : Port). with_pipes p (with_own b.set o p.pipes (own_of o c))) h.port
          ∙ ap (λ (s : Set). with_pipes (port_in a) (with_own s o mid (own_of o c))) h.set
          ∙ ap (with_pipes (port_in a)) (own_twice a.set o (port_in a).pipes (own_of o b) (own_of o c));
      order = λ start x. k.order start (h.order start x);
      moves = λ start m. k.moves start (h.moves start m);
    }
