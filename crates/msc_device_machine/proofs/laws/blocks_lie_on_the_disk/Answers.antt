use Rattle.msc_device_machine.specs.Storage.{worked}
use Rattle.msc_device_machine.proofs.Keeps.{first_sound, stopped_sound, anew_sound, setup_sound, call_sound, came_sound, end_sound, worked_fits, sound_of, call_lies}
use Rattle.msc_device_machine.proofs.laws.blocks_lie_on_the_disk.Goals as goal

pub returns-clause-begins : goal.returns-clause-begins
returns-clause-begins c = first_sound

pub returns-clause-keeps : goal.returns-clause-keeps
returns-clause-keeps c = λ s setup call pipe h.
    (stopped_sound s h, anew_sound s h, setup_sound s setup h, call_sound s call h, came_sound s pipe h, end_sound s pipe h)

pub returns-clause-works : goal.returns-clause-works
returns-clause-works c = λ s own answer h a.
    let w = worked_fits s own answer h a in (sound_of s.unit.blocks (worked s own answer) w, w.size)

pub returns-clause-asks : goal.returns-clause-asks
returns-clause-asks c = call_lies
