-- Each byte is taken with room before it; the first one without ends it.
use Rattle.std.proofs.Common.{refl, ◌∙◌, arith}
use Rattle.midi_class.proofs.Sent.{full, all_sent, next_sent}
use Rattle.midi_class.proofs.device.MidiDevice.send.Goals as goal

pub returns-then-room-lt-EVENT_SIZE-clause-took : goal.returns-then-room-lt-EVENT_SIZE-clause-took
returns-then-room-lt-EVENT_SIZE-clause-took g c =
    (full c.loop-count.invariant.0 c.loop-count-test.true c.room.ensures c.if-room-lt-EVENT_SIZE.true).took

pub returns-then-room-lt-EVENT_SIZE-clause-packer : goal.returns-then-room-lt-EVENT_SIZE-clause-packer
returns-then-room-lt-EVENT_SIZE-clause-packer g c =
    (full c.loop-count.invariant.0 c.loop-count-test.true c.room.ensures c.if-room-lt-EVENT_SIZE.true).kept

pub returns-then-room-lt-EVENT_SIZE-clause-pipes : goal.returns-then-room-lt-EVENT_SIZE-clause-pipes
returns-then-room-lt-EVENT_SIZE-clause-pipes g c =
    (full c.loop-count.invariant.0 c.loop-count-test.true c.room.ensures c.if-room-lt-EVENT_SIZE.true).queued

pub loop-count-preserved : goal.loop-count-preserved
loop-count-preserved g c =
    let inv = c.loop-count.invariant in
    let push = c.push.ensures in (
      next_sent _ inv.0 c.loop-count-test.true refl c.room.ensures c.if-room-lt-EVENT_SIZE.false push.packer push.pipes,
      g.P.DevPipes.transitive _ _ _ inv.1 push.beside,
      push.sound,
      push.spare ∙ inv.3,
    )

pub returns-clause-pipes : goal.returns-clause-pipes
returns-clause-pipes g c =
    (all_sent c.loop-count.invariant.0 (omega (arith, c.loop-count-test.false, c.loop-count.auto.count-end))).queued
