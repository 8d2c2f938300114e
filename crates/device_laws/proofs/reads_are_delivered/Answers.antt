use Rattle.std.proofs.Common.{refl, arith}
use Rattle.device_laws.proofs.Delivered.{reads_are_delivered}
use Rattle.device_laws.proofs.Ended.{reads_end}
use Rattle.device_laws.proofs.Plain.{plain_is_of_set}
use Rattle.device_laws.proofs.reads_are_delivered.Goals as goal

pub returns-clause-delivered : goal.returns-clause-delivered
returns-clause-delivered g c = λ world of_set. reads_are_delivered world of_set

pub returns-clause-met : goal.returns-clause-met
returns-clause-met g c = record {
  of_set = plain_is_of_set;
  read = record { heard = refl; alone = refl; settled = refl; gives = λ n. refl; some = omega arith };
}

pub returns-clause-ended : goal.returns-clause-ended
returns-clause-ended g c = λ world of_set. reads_end world of_set
