-- A handler run ends a session exactly where it finds a reset.
use Rattle.std.proofs.Common.{◌≡◌, ℕ, List, Bool, true, false, not, ◌&&◌, if◌then◌else◌, Option, Some, None, refl, ap, ◌∙◌}
use Rattle.usb_packet.specs.declared.bus.Owner.{Owner}
use Rattle.usb_pipe.specs.Rules.{Rules}
use Rattle.usb_pipe.specs.Classes.{Classes}
use Rattle.usb_descriptor.specs.Set.{Set}
use Rattle.device_machine.specs.declared.control.Stage.{Stage}
use Rattle.device_machine.specs.Bus.{finished_stage, last_of}
use Rattle.device_owners.specs.Device.{Core, emptied, with_stage, with_request, after_stages, new_address, core_after_irq, after_irq, classes_closed}
use Rattle.usbd_core.specs.Device.{Device, core_of, seen, machinery}

stage_session : (core : Core) (stage : Option Stage) → (with_stage core stage).session ≡ core.session
stage_session core None = refl
stage_session core (Some stage) = refl

request_session : (core : Core) (bytes : Option (List ℕ)) → (with_request core bytes).session ≡ core.session
request_session core None = refl
request_session core (Some bytes) = refl

stages_session : (core : Core) (address : Option ℕ) → (after_stages core address).session ≡ core.session
stages_session core None =
    request_session (with_stage core (finished_stage core.bus.side)) (last_of core.bus.unserved) ∙ stage_session core (finished_stage core.bus.side)
stages_session core (Some n) = stage_session core (finished_stage core.bus.side)

ended_if : (reset session : Bool) (core : Core) → core.session ≡ session
    → (session && not (if reset then emptied true else core).session) ≡ (reset && session)
ended_if true true core e = refl
ended_if true false core e = refl
ended_if false true core e = ap not e
ended_if false false core e = refl

ended_where : (core : Core) → (core.session && not (core_after_irq core).session) ≡ (core.bus.reset && core.session)
ended_where core =
    let stages = after_stages core (new_address core.transfer (finished_stage core.bus.side)) in
    ended_if core.bus.reset core.session stages (stages_session core (new_address core.transfer (finished_stage core.bus.side)))

-- so the classes learn of it then
pub irq_seen : {S : Type 0} (rules : Owner → Rules S) (set : Set) (old new : Device) (stood : Bool) (before after : Classes S) → stood ≡ old.state.configured
    → core_of new ≡ core_after_irq (core_of old)
    → after ≡ classes_closed (machinery rules set before) (stood && not new.state.configured) before
    → seen new after ≡ after_irq (machinery rules set before) (seen old before)
irq_seen {S} rules set old new stood before after s core classes =
    let closed : Bool → Classes S = λ b. classes_closed (machinery rules set before) b before in
    let told : after ≡ closed ((core_of old).bus.reset && old.state.configured) =
    classes
    ∙ ap (λ b. closed (b && not new.state.configured)) s
    ∙ ap (λ (c : Core). closed (old.state.configured && not c.session)) core
    ∙ ap closed (ended_where (core_of old)) in
    ap (λ (c : Core). record { core = c; classes = after }) core ∙ ap (λ (x : Classes S). record { core = core_after_irq (core_of old); classes = x }) told
