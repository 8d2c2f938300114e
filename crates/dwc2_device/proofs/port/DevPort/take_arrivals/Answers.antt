-- One arrival was taken.
use Rattle.std.proofs.Common.{◌≡◌, ◌≢◌, ℕ, ◌+◌, ◌-◌, ap, sym, ◌∙◌, arith, subst}
use Rattle.dwc2_regs.specs.Register.{grxstsp}
use Rattle.device_table.specs.Words.{kind_of, out_done}
use Rattle.device_table.specs.Read.{value_read}
use Rattle.device_relation.specs.Software.{Joint}
use Rattle.device_relation.specs.Run.{Whole, arrival_taken, arrivals_taken}
use Rattle.dwc2_device.specs.Driver.{whole}
use Rattle.dwc2_device.specs.Standing.{IsStanding, Fits}
use Rattle.dwc2_device.proofs.Loops.{taken_some, popped_one}
use Rattle.dwc2_device.proofs.Arrivals.{fits, taken_stands}
use Rattle.dwc2_device.proofs.port.DevPort.take_arrivals.Goals as goal

pub take_arrival-requires-clause-fits : goal.take_arrival-requires-clause-fits
take_arrival-requires-clause-fits g c =
    let w : Whole = whole c.loop.self c.loop.rings in
    let value = c.pop-status.ensures.value in
    let some : value_read w.joint.table grxstsp ≢ 0 = λ e. c.if-status-eq0.false (value ∙ e) in
    subst (λ (n : ℕ). Fits (whole c.pop-status.new.self c.loop.rings) n) (sym value)
    (subst (λ (j : Joint). Fits (record { joint = j; rings = c.loop.rings }) (value_read w.joint.table grxstsp)) (sym c.pop-status.ensures.joint) (fits w c.loop.invariant.4 some))

pub loop-preserved : goal.loop-preserved
loop-preserved g c =
    let w : Whole = whole c.loop.self c.loop.rings in
    let value = c.pop-status.ensures.value in
    let some : value_read w.joint.table grxstsp ≢ 0 = λ e. c.if-status-eq0.false (value ∙ e) in
    let plain : kind_of c.pop-status.result ≢ out_done = λ e. (fits w c.loop.invariant.4 some).begins (ap kind_of (sym value) ∙ e) in
    let taken : whole c.take_arrival.new.self c.take_arrival.new.rings ≡ arrival_taken (popped_one w) (value_read w.joint.table grxstsp) =
    c.take_arrival.ensures.whole ∙ ap (λ (j : Joint). arrival_taken (record { joint = j; rings = c.loop.rings }) c.pop-status.result) c.pop-status.ensures.joint ∙ ap (λ (n : ℕ). arrival_taken (popped_one w) n) value in (
      ap (λ (x : Whole). arrivals_taken (7 - (c.loop.counter + 1)) x) taken ∙ sym (taken_some c.loop.counter w c.loop-test.true some) ∙ c.loop.invariant.0,
      omega (arith, c.take_arrival.ensures.spends.0, c.pop-status.ensures.spends.0, c.loop.invariant.1),
      c.take_arrival.ensures.spends.1,
      λ start m. c.take_arrival.ensures.spends.2 start (c.pop-status.ensures.spends.2 start (c.loop.invariant.3 start m)),
      subst IsStanding (sym taken) (taken_stands w c.loop.invariant.4 some),
      λ start k. c.take_arrival.ensures.order start (c.pop-status.ensures.plain plain start (c.loop.invariant.5 start k)),
    )
