use Rattle.std.proofs.Common.{◌∙◌}
use Rattle.usbd_core.proofs.Packets.{first_bytes}
use Rattle.usbd_core.proofs.data.first_packet.Goals as goal

pub returns-in-Ok : goal.returns-in-Ok
returns-in-Ok c = c.in-Ok.ensures.bytes ∙ first_bytes c.args.bytes.now 64 c.min-n.result c.min-n.ensures
