-- one more channel is disabled
use Rattle.std.proofs.Common.{ap, ◌∙◌, List, set, get_or}
use Rattle.host_table.specs.State.{Channel}
use Rattle.host_table.specs.Bus.{disabled}
use Rattle.dwc2_hostmodel.proofs.ListLemmas.{map_one_more}
use Rattle.dwc2_hostmodel.proofs.bus.disable_each.Goals as goal

pub loop-channel-preserved : goal.loop-channel-preserved
loop-channel-preserved c =
    let old = c.args.channels.now in
    let i = c.loop-channel.channel-index in
    let With : List Channel → List Channel = λ channels. set channels i (disabled (get_or channels i c.channel-item.result)) in
    ap (λ (channel : Channel). set c.loop-channel.channel-items i channel) c.disable.ensures
    ∙ ap With c.loop-channel.invariant
    ∙ map_one_more disabled old i c.channel-item.result c.loop-channel-test.true
