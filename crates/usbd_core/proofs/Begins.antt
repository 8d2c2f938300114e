-- A device at its start: rings that hold nothing, and endpoints that are all closed.
use Rattle.std.proofs.Common.{◌≡◌, ℕ, zero, suc, List, [], false, None, refl, ap, sym, ◌∙◌, subst}
use Rattle.usb_descriptor.specs.declared.endpoint.Endpoint.{Endpoint}
use Rattle.usb_descriptor.specs.Set.{Set, endpoints_of}
use Rattle.usb_descriptor.specs.Served.{AreServed}
use Rattle.dwc2_regs.specs.declared.access.TheConstants.{FS4}
use Rattle.device_machine.specs.Bus.{Bus, unconfigured}
use Rattle.device_machine.specs.Pipes.{pipes_unopened}
use Rattle.device_owners.specs.Device.{Idle}
use Rattle.device_rings.specs.Rings.{Rings, out_ring, in_ring}
use Rattle.device_rings.specs.Sizes.{rings_of}
use Rattle.device_relation.specs.Software.{Joint}
use Rattle.device_relation.specs.Relation.{abstract}
use Rattle.device_relation.specs.PipeRelation.{IsSound, pipes_of}
use Rattle.device_relation.specs.Laws.{at_start, AreEmpty}
use Rattle.device_relation.proofs.Events.{starts}
use Rattle.dwc2_device.specs.Driver.{Driver, joint}
use Rattle.usbd_core.specs.Device.{KeepsAddress, Agrees, tops}

no_bytes_out : (es : List Endpoint) (n : ℕ) → (out_ring (rings_of es) n).bytes ≡ []
no_bytes_out es zero = refl
no_bytes_out es (suc zero) = refl
no_bytes_out es (suc (suc zero)) = refl
no_bytes_out es (suc (suc (suc zero))) = refl
no_bytes_out es (suc (suc (suc (suc n)))) = refl

no_bytes_in : (es : List Endpoint) (n : ℕ) → (in_ring (rings_of es) n).bytes ≡ []
no_bytes_in es zero = refl
no_bytes_in es (suc zero) = refl
no_bytes_in es (suc (suc zero)) = refl
no_bytes_in es (suc (suc (suc zero))) = refl
no_bytes_in es (suc (suc (suc (suc n)))) = refl

pub rings_empty : (es : List Endpoint) → AreEmpty FS4 (rings_of es)
rings_empty es = record { outs = no_bytes_out es; ins = no_bytes_in es; out_count = refl; in_count = refl }

pub are_empty : (r : Rings) (es : List Endpoint) → r ≡ rings_of es → AreEmpty FS4 r
are_empty r es e = subst (AreEmpty FS4) (sym e) (rings_empty es)

pub start_pipes : (j : Joint) (r : Rings) (es : List Endpoint) → j ≡ at_start FS4 → r ≡ rings_of es → pipes_of j r ≡ pipes_unopened
start_pipes j r es e k = ap (λ x. pipes_of x r) e ∙ (starts r (are_empty r es k)).pipes

-- all agrees with what the software keeps at its start
pub start_agrees : (set : Set) (port : Driver) (rings : Rings) → joint port ≡ at_start FS4 → abstract (joint port) ≡ unconfigured false → IsSound FS4 (joint port) rings
    → AreServed (tops FS4) (endpoints_of set.config)
    → Agrees FS4 (record { set = set; port = port; rings = rings; state = record { addr = 0; configured = false }; finished = None; request = None; transfer = Idle })
start_agrees set port rings e device sound served = record {
  sound = sound;
  fits = record {
    quiet = record {
      reset = ap (λ (j : Joint). j.software.reset) e;
      finished = ap (λ (j : Joint). j.software.finished) e;
      request = ap (λ (j : Joint). j.software.request) e;
    };
    address = sym (ap (λ (b : Bus). b.address) device);
    served = served;
    keeps = subst (λ (b : Bus). KeepsAddress b.side port.software.next_address None) (sym device) tt;
    status = tt;
  };
  rests = λ k. absurd (cc k);
}
