use Rattle.std.proofs.Common.{take, sym, refl, length-take, arith}
use Rattle.std.proofs.lemmas.List.{take-append-drop}
use Rattle.usb_pipe.specs.Own.{phase_at}
use Rattle.cdc_device_machine.specs.Port.{read_size}
use Rattle.class_pipes.proofs.Phases.{test-closed}
use Rattle.cdc_device_machine.proofs.laws.calls_have_their_pipes.Goals as goal

pub returns-clause-reads : goal.returns-clause-reads
returns-clause-reads c = λ interface most port own sends receives.
    let e = test-closed (phase_at own 0) sends in
    let f = test-closed (phase_at own 1) receives in
    let held = own.receives.pipe.held in
    (take (read_size most) held, rw (e, f) refl, omega (arith, length-take (read_size most) held), omega (arith, length-take (read_size most) held), rw (e, f) (sym (take-append-drop (read_size most) held)))
