use Rattle.device_rings.proofs.Apart.{are_apart, are_apart_by_address, are_emptied}
use Rattle.device_rings.proofs.laws.rings_are_apart.Goals as goal

pub returns : goal.returns
returns c = record { by_number = are_apart; by_address = are_apart_by_address; emptied = are_emptied }
