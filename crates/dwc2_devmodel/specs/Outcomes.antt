-- The outcomes of packets on the bus, as the code names them.
use Rattle.std.specs.Prelude.{ℕ, List, Option}
use Rattle.device_table.specs.Bus as bus
use Rattle.dwc2_devmodel.specs.declared.bus.OutOutcome.{OutOutcome}
use Rattle.dwc2_devmodel.specs.declared.bus.OutOutcome.TheVariants as out_side
use Rattle.dwc2_devmodel.specs.declared.bus.InOutcome.{InOutcome}
use Rattle.dwc2_devmodel.specs.declared.bus.InOutcome.TheVariants as in_side

abbrev pub out_outcome_of : OutOutcome → bus.OutOutcome
out_outcome_of out_side.Unheard = bus.unheard
out_outcome_of out_side.Naks = bus.naks
out_outcome_of out_side.Stalls = bus.stalls
out_outcome_of out_side.Drops = bus.drops
out_outcome_of out_side.Lands = bus.lands

-- an endpoint that is asked for its packet sends the one that is ready, if one is
abbrev pub in_outcome_of : InOutcome → Option (List ℕ) → bus.InOutcome
in_outcome_of in_side.Unheard ready = bus.unheard_in
in_outcome_of in_side.Naks ready = bus.naks_in
in_outcome_of in_side.Stalls ready = bus.stalls_in
in_outcome_of in_side.Asked ready = bus.sends_of ready
