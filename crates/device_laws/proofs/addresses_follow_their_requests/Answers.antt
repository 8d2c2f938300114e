use Rattle.device_laws.proofs.Seen.{address_is_seen, address_is_told}
use Rattle.device_laws.proofs.addresses_follow_their_requests.Goals as goal

pub returns-clause-seen : goal.returns-clause-seen
returns-clause-seen g c = λ world of_set. address_is_seen world of_set

pub returns-clause-told : goal.returns-clause-told
returns-clause-told g c = λ world of_set. address_is_told world of_set
