-- What requests are decided by is the core's.
use Rattle.std.proofs.Common.{ℕ, List, ap, sym, ◌∙◌, subst}
use Rattle.usb_control.specs.declared.state.CoreState.{CoreState}
use Rattle.device_machine.specs.Pipes.{halted_addresses}
use Rattle.dwc2_regs.specs.declared.access.TheConstants.{FS4}
use Rattle.device_relation.specs.PipeRelation.{IsSound, pipes_of}
use Rattle.dwc2_device.specs.Driver.{joint}
use Rattle.usbd_core.specs.Device.{Device}
use Rattle.usbd_core.proofs.stack.DevStack.core_state.Goals as goal

state_with : Device → List ℕ → CoreState
state_with d halted = record { addr = d.state.addr; configured = d.state.configured; halted = record { items = halted } }

pub returns : goal.returns
unfolding state_with
returns g c =
    let s = c.self.inside in
    let now = c.args.self.now in
    ap (λ (h : List ℕ). record { addr = s.state.addr; configured = s.state.configured; halted = record { items = h } }) (c.halted_addresses.ensures s.rings (subst (λ (d : Device). IsSound FS4 (joint d.port) d.rings) (sym c.self.view_is) c.requires.holds.0))
    ∙ ap (λ (d : Device). state_with d (halted_addresses (pipes_of (joint d.port) d.rings))) c.self.view_is
    ∙ ap (λ (a : ℕ). record { addr = a; configured = now.state.configured; halted = record { items = halted_addresses (pipes_of (joint now.port) now.rings) } }) c.requires.holds.1.address
