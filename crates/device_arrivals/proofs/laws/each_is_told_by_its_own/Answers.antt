use Rattle.device_arrivals.proofs.Few.{requested_by-its, landed_on-its, setup_in-told}
use Rattle.device_arrivals.proofs.laws.each_is_told_by_its_own.Goals as goal

pub returns-clause-its : goal.returns-clause-its
returns-clause-its c = λ arrivals. record { requests = requested_by-its arrivals; packets = λ number. landed_on-its number arrivals }

pub returns-clause-lies : goal.returns-clause-lies
returns-clause-lies c = setup_in-told
