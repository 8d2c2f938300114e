-- One more event was taken, and what it carries is told.
use Rattle.std.proofs.Common.{◌∙◌}
use Rattle.midi_class.proofs.Told.{next_told, fits}
use Rattle.midi_class.proofs.calls.unpack_all.Goals as goal

pub append-requires : goal.append-requires
append-requires g c =
    let all = c.count_events-done-end.ensures in
    fits c.loop-done.invariant.0 c.loop-done-test.true all.held all.few c.take_event-event.ensures.event (c.as_slice.ensures.value ∙ c.unpack.ensures)

pub loop-done-preserved : goal.loop-done-preserved
loop-done-preserved g c =
    let inv = c.loop-done.invariant in
    let all = c.count_events-done-end.ensures in
    let event = c.take_event-event.ensures in (
      next_told inv.0 c.loop-done-test.true all.held event.event (c.as_slice.ensures.value ∙ c.unpack.ensures) c.append.ensures event.pipes,
      g.P.DevPipes.transitive _ _ _ inv.1 event.beside,
      event.sound,
      event.spare ∙ inv.3,
    )
