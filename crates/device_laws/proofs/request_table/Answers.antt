use Rattle.device_laws.proofs.Requests.{unnamed_are_refused}
use Rattle.device_laws.proofs.request_table.Goals as goal

pub returns-clause-unnamed : goal.returns-clause-unnamed
returns-clause-unnamed c = unnamed_are_refused
