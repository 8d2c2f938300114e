-- The order of the driver's accesses, with what the driver keeps of the IN endpoints from 1 on.
use Rattle.std.specs.Prelude.{ℕ, zero, suc, Bool, true, false, List, slice_index_or}
use Rattle.access_order.specs.Phase.{Phase, Keeps}
use Rattle.endpoint_relation.specs.declared.in_.InState.{InState}
use Rattle.endpoint_relation.specs.declared.in_.InState.TheVariants.{Closed, Rest, Running, Posted}
use Rattle.endpoint_relation.specs.declared.in_.InEndpoint.{InEndpoint}
use Rattle.endpoint_relation.specs.InRelation.{in_unused}
use Rattle.dwc2_device.specs.Driver.{Driver}

-- packets lie ready for the bus, or were acknowledged, and no handler run has looked since
abbrev pub loaded_if : InState → ℕ → Bool
loaded_if Closed n = false
loaded_if Rest n = false
loaded_if Running zero = false
loaded_if Running (suc n) = true
loaded_if Posted n = false

abbrev pub is_loaded : InEndpoint → Bool
is_loaded s = loaded_if s.state s.loaded

abbrev pub kept_of : List InEndpoint → ℕ → InEndpoint
kept_of ins zero = in_unused
kept_of ins (suc n) = slice_index_or ins n in_unused

-- of each IN endpoint by its number
abbrev pub loaded_in : List InEndpoint → ℕ → Bool
loaded_in ins n = is_loaded (kept_of ins n)

abbrev pub loads : Driver → ℕ → Bool
loads d = loaded_in d.software.ins

-- accesses that are in order go on in order, from one phase to another, with what is kept before and after
abbrev pub Goes : ((ℕ → Bool) → Phase) → ((ℕ → Bool) → Phase) → Driver → Driver → Type 0
Goes from to old new = Keeps (from (loads old)) (to (loads new)) old.bank.log new.bank.log
