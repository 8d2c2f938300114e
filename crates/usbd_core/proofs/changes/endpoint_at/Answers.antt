-- The endpoint that the driver keeps open is the device's.
use Rattle.std.proofs.Common.{◌≡◌, ℕ, ◌-◌, ◌<◌, ◌≤◌, Bool, true, false, Some, None, if◌then◌else◌, ap, sym, ◌∙◌, inl, inr, arith}
use Rattle.std.specs.Prelude.{nat_lt}
use Rattle.std.proofs.lemmas.Bool.Decides.{nat_tests}
use Rattle.usb_descriptor.specs.declared.endpoint.Endpoint.{Endpoint}
use Rattle.dwc2_regs.specs.declared.access.TheConstants.{FS4}
use Rattle.device_rings.specs.Rings.{Rings}
use Rattle.device_machine.specs.Pipes.{Pipes, is_open_at, out_slot, in_slot}
use Rattle.device_owners.specs.Device.{endpoint_in}
use Rattle.device_relation.specs.PipeRelation.{IsSound, pipes_of}
use Rattle.device_relation.specs.Software.{Joint, out_kept, in_kept}
use Rattle.endpoint_relation.specs.declared.out_.OutEndpoint.{OutEndpoint}
use Rattle.endpoint_relation.specs.declared.in_.InEndpoint.{InEndpoint}
use Rattle.dwc2_device.specs.Driver.{joint}
use Rattle.dwc2_device.specs.Calls.{IsNumbered}
use Rattle.dwc2_device.proofs.Shut.{open_at_is}
use Rattle.usbd_core.specs.Task.{open_endpoint}
use Rattle.usbd_core.proofs.Shows.{out_endpoint, in_endpoint}
use Rattle.usbd_core.proofs.changes.endpoint_at.Goals as goal

none_at : (p : Pipes) (a : ℕ) → is_open_at p a ≡ false → None ≡ open_endpoint p a
none_at p a h = ap (λ (b : Bool). if b then Some (endpoint_in p a) else None) (sym h)

some_at : (p : Pipes) (a : ℕ) (e : Endpoint) → is_open_at p a ≡ true → e ≡ endpoint_in p a → Some e ≡ open_endpoint p a
some_at p a e h is = ap Some is ∙ ap (λ (b : Bool). if b then Some (endpoint_in p a) else None) (sym h)

low : (a : ℕ) → a < 128 → nat_lt a 128 ≡ true
low a h = grind (arith, nat_tests)

high : (a : ℕ) → 128 ≤ a → nat_lt a 128 ≡ false
high a h = grind (arith, nat_tests)

out_is : (j : Joint) (r : Rings) (a : ℕ) → IsSound FS4 j r → IsNumbered a → a < 128 → (out_kept j.software a).endpoint ≡ endpoint_in (pipes_of j r) a
out_is j r a s (inr h) below = absurd (omega (arith, h.0, below))
out_is j r a s (inl h) below =
    sym (ap (λ (b : Bool). if b then (out_slot (pipes_of j r) a).endpoint else (in_slot (pipes_of j r) (a - 128)).endpoint) (low a below) ∙ out_endpoint j r a s h.0 h.1)

in_is : (j : Joint) (r : Rings) (a : ℕ) → IsSound FS4 j r → IsNumbered a → 128 ≤ a → (in_kept j.software (a - 128)).endpoint ≡ endpoint_in (pipes_of j r) a
in_is j r a s (inl h) above = absurd (omega (arith, h.1, above))
in_is j r a s (inr h) above =
    sym (ap (λ (b : Bool). if b then (out_slot (pipes_of j r) a).endpoint else (in_slot (pipes_of j r) (a - 128)).endpoint) (high a above)
    ∙ in_endpoint j r (a - 128) s (omega (arith, h.0)) (omega (arith, h.1)))

pub returns-then-not-is_open_at : goal.returns-then-not-is_open_at
returns-then-not-is_open_at g c =
    none_at (pipes_of (joint c.args.port.now) c.args.rings.now) c.args.addr
    (open_at_is (joint c.args.port.now) c.args.rings.now c.args.addr c.requires.sound ∙ sym c.is_open_at.ensures.value ∙ c.if-not-is_open_at.true)

pub returns-then-addr-lt-IN : goal.returns-then-addr-lt-IN
returns-then-addr-lt-IN g c =
    let j = joint c.args.port.now in
    some_at (pipes_of j c.args.rings.now) c.args.addr c.out_at.result.endpoint
    (open_at_is j c.args.rings.now c.args.addr c.requires.sound ∙ sym c.is_open_at.ensures.value ∙ c.if-not-is_open_at.false)
    (ap (λ (k : OutEndpoint). k.endpoint) c.out_at.ensures ∙ out_is j c.args.rings.now c.args.addr c.requires.sound (c.is_open_at.ensures.numbered c.if-not-is_open_at.false) c.if-addr-lt-IN.true)

pub returns-else-addr-lt-IN : goal.returns-else-addr-lt-IN
returns-else-addr-lt-IN g c =
    let j = joint c.args.port.now in
    some_at (pipes_of j c.args.rings.now) c.args.addr c.in_at.result.endpoint
    (open_at_is j c.args.rings.now c.args.addr c.requires.sound ∙ sym c.is_open_at.ensures.value ∙ c.if-not-is_open_at.false)
    (ap (λ (k : InEndpoint). k.endpoint) c.in_at.ensures ∙ in_is j c.args.rings.now c.args.addr c.requires.sound (c.is_open_at.ensures.numbered c.if-not-is_open_at.false) c.if-addr-lt-IN.false)
