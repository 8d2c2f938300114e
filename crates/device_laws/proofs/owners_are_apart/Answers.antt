use Rattle.device_laws.proofs.Whole.{isolated}
use Rattle.device_laws.proofs.Others.{parts_are_whole, equal_parts_answer, others_dont_reach, foreign_keeps_nothing}
use Rattle.device_laws.proofs.owners_are_apart.Goals as goal

pub returns-clause-parts : goal.returns-clause-parts
returns-clause-parts g c = λ world. parts_are_whole world

pub returns-clause-equal : goal.returns-clause-equal
returns-clause-equal g c = λ world h. equal_parts_answer world (isolated world h)

pub returns-clause-others : goal.returns-clause-others
returns-clause-others g c = λ world h. others_dont_reach world (isolated world h)

pub returns-clause-foreign : goal.returns-clause-foreign
returns-clause-foreign g c = λ world. foreign_keeps_nothing world
