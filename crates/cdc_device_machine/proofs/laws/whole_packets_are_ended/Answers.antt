use Rattle.cdc_device_machine.proofs.Transfers.{empty_packet_ends_whole_packets}
use Rattle.cdc_device_machine.proofs.laws.whole_packets_are_ended.Goals as goal

pub returns-clause-owed : goal.returns-clause-owed
returns-clause-owed c = empty_packet_ends_whole_packets
