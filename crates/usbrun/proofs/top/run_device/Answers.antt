use Rattle.std.proofs.Common.{None, refl, ap, ◌∙◌, arith}
use Rattle.usb_edge.proofs.Streams.{rose_within}
use Rattle.usbrun.specs.declared.texts.Texts.{Texts}
use Rattle.usbrun.proofs.Endings.{head_ends, head_faults, set_ends, memory_ends, accepted, set_shows, run_ends, run_faults, set_accepted, world_is}
use Rattle.usbrun.proofs.top.run_device.Goals as goal

pub open-requires : goal.open-requires
open-requires g c = set_accepted c.in-Ok.draft c.in-Ok-set_of.set c.in-Ok-set_of.ensures.shows c.in-Ok-set_of.ensures.accepted

pub returns-in-Err-clause-ends : goal.returns-in-Err-clause-ends
returns-in-Err-clause-ends g c =
    let stops = rw c.new-lines.ensures at c.in-Err.ensures.heads in
    rw c.no_head.ensures (head_ends c.in-Err.fault _ _ c.args.regs (g.S.Source.faults c.args.src.now) (g.S.Source.faults c.read_heads.new.src)
    (g.K.Sink.faults c.args.out.now) (g.T.Sink.faults c.args.trace.now) (g.K.Sink.taken c.args.out.now) (g.T.Sink.taken c.args.trace.now)
    c.read_heads.new.lines stops c.in-Err.ensures.ended)

pub returns-in-Err-set_of-clause-ends : goal.returns-in-Err-set_of-clause-ends
returns-in-Err-set_of-clause-ends g c =
    let heads = rw c.new-lines.ensures at c.in-Ok.ensures.heads in
    set_ends c.in-Ok.draft _ _ c.read_heads.new.lines heads.0 c.in-Ok.ensures.ended c.args.regs (g.S.Source.faults c.args.src.now)
    (g.S.Source.faults c.read_heads.new.src) (g.K.Sink.faults c.args.out.now) (g.T.Sink.faults c.args.trace.now) (g.K.Sink.taken c.args.out.now)
    (g.T.Sink.taken c.args.trace.now) c.in-Err-set_of.fault heads.1 c.in-Err-set_of.ensures.refused

pub returns-in-Err-open-clause-ends : goal.returns-in-Err-open-clause-ends
returns-in-Err-open-clause-ends g c =
    let heads = rw c.new-lines.ensures at c.in-Ok.ensures.heads in
    memory_ends c.in-Ok.draft _ _ c.read_heads.new.lines heads.0 c.in-Ok.ensures.ended c.args.regs (g.S.Source.faults c.args.src.now)
    (g.S.Source.faults c.read_heads.new.src) (g.K.Sink.faults c.args.out.now) (g.T.Sink.faults c.args.trace.now) (g.K.Sink.taken c.args.out.now)
    (g.T.Sink.taken c.args.trace.now) heads.1 c.in-Ok-set_of.ensures.accepted

pub returns-in-Err-clause-faults : goal.returns-in-Err-clause-faults
returns-in-Err-clause-faults g c = rw c.no_head.ensures (head_faults c.in-Err.fault c.read_heads.new.lines.lines _ (refl, refl))

pub returns-clause-ends : goal.returns-clause-ends
returns-clause-ends g c =
    let heads = rw c.new-lines.ensures at c.in-Ok.ensures.heads in
    let ok = accepted c.in-Ok.draft _ _ c.read_heads.new.lines heads.0 heads.1 c.in-Ok-set_of.ensures.accepted in
    let shows = set_shows c.in-Ok.draft _ _ c.read_heads.new.lines heads.0 c.in-Ok-set_of.set c.in-Ok-set_of.ensures.shows in
    run_ends _ _ _ c.in-Ok.draft c.read_heads.new.lines heads.0 ok _ _ _ _ _ _ c.run_schedule-stop.new.session c.args.regs refl
    (ap (λ (t : Texts). t.regs) c.new.ensures) (world_is _ _ _ None (c.in-Ok-open.ensures.set ∙ shows) c.in-Ok-open.ensures.blocks) c.run_schedule-stop.ensures.ended _ _ _ _ _ _ _ _ c.finish.ensures.hands
    c.finish.result c.run_schedule-stop.result c.run_schedule-stop.ensures.runs c.finish.ensures.finishes
    c.run_schedule-stop.ensures.out_faults c.run_schedule-stop.ensures.trace_faults
    (λ e. rose_within _ _ _ _ c.read_heads.ensures.count (c.run_schedule-stop.ensures.read_fault e) (omega arith))

pub returns-clause-faults : goal.returns-clause-faults
returns-clause-faults g c =
    run_faults c.finish.result _ _ _ _ c.run_schedule-stop.result c.finish.ensures.finishes c.run_schedule-stop.ensures.out_faults
    c.run_schedule-stop.ensures.trace_faults
