-- A device with its classes, by its two parts; and what the classes are told where halts end.
use Rattle.std.proofs.Common.{◌≡◌, ℕ, ◌≤◌, List, length, drop, Bool, true, false, if◌then◌else◌, Some, None, refl, ap, sym, ◌∙◌}
use Rattle.std.proofs.Math.ListN.{drop_of_length-le}
use Rattle.usb_packet.specs.declared.bus.Owner.{Owner}
use Rattle.usb_descriptor.specs.declared.endpoint.Endpoint.{Endpoint}
use Rattle.usb_descriptor.specs.Set.{Set}
use Rattle.usb_pipe.specs.Rules.{Rules}
use Rattle.usb_pipe.specs.Classes.{Classes, told}
use Rattle.device_machine.specs.Pipes.{Pipes, is_open_at}
use Rattle.device_owners.specs.Device.{Core, endpoint_in, told_cleared, told_cleared_each}
use Rattle.device_owners.specs.Device.{Device as Whole}
use Rattle.device_owners.specs.Ends.{pipe_of}
use Rattle.usbd_core.specs.Device.{machinery}
use Rattle.usbd_core.specs.Task.{open_endpoint}
use Rattle.usbd_core.proofs.Found.{some_is}

abbrev pub joined : {S : Type 0} → Core → Classes S → Whole S
joined core classes = record { core = core; classes = classes }

pub both_are : {S : Type 0} (a b : Core) (x y : Classes S) → a ≡ b → x ≡ y → joined a x ≡ joined b y
both_are a b x y e k = ap (λ (c : Core). joined c x) e ∙ ap (joined b) k

-- the class of the endpoint at an address learns that its pipe was cleared, where it is open
pub told_open : {S : Type 0} (rules : Owner → Rules S) (set : Set) (first : Classes S) (p : Pipes) (a : ℕ) (e : Endpoint) (classes : Classes S) → Some e ≡ open_endpoint p a
    → told rules e.owner (λ r s. r.after_cleared s (pipe_of e)) classes ≡ told_cleared (machinery rules set first) p a classes
told_open rules set first p a e classes h = by (is_open_at p a) h
  where
    by : (b : Bool) → Some e ≡ (if b then Some (endpoint_in p a) else None)
        → told rules e.owner (λ r s. r.after_cleared s (pipe_of e)) classes ≡ (if b then told rules (endpoint_in p a).owner (λ r s. r.after_cleared s (pipe_of (endpoint_in p a))) classes else classes)
    by true k = ap (λ (x : Endpoint). told rules x.owner (λ r s. r.after_cleared s (pipe_of x)) classes) (some_is e (endpoint_in p a) k)
    by false k = absurd (cc k)

pub told_none : {S : Type 0} (rules : Owner → Rules S) (set : Set) (first : Classes S) (p : Pipes) (a : ℕ) (classes : Classes S) → None ≡ open_endpoint p a
    → classes ≡ told_cleared (machinery rules set first) p a classes
told_none rules set first p a classes h = by (is_open_at p a) h
  where
    by : (b : Bool) → None ≡ (if b then Some (endpoint_in p a) else None)
        → classes ≡ (if b then told rules (endpoint_in p a).owner (λ r s. r.after_cleared s (pipe_of (endpoint_in p a))) classes else classes)
    by true k = absurd (cc k)
    by false k = refl

-- none is left to tell
pub all_told : {S : Type 0} (rules : Owner → Rules S) (set : Set) (first : Classes S) (p : Pipes) (named : ℕ → Bool) (es : List Endpoint) (i : ℕ) (classes : Classes S) → length es ≤ i
    → classes ≡ told_cleared_each (machinery rules set first) p named (drop i es) classes
all_told rules set first p named es i classes h = ap (λ xs. told_cleared_each (machinery rules set first) p named xs classes) (sym (drop_of_length-le es h))
