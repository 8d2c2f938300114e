use Rattle.device_pipe.proofs.Refused.{unacknowledged, unanswered, unheard, out_naks, in_naks, out_stalls, in_stalls}
use Rattle.device_pipe.proofs.laws.refused.Goals as goal

pub returns : goal.returns
returns c = record { out_packet = unacknowledged; in_token = unanswered; unheard = unheard; out_nak = out_naks; in_nak = in_naks; out_halted = out_stalls; in_halted = in_stalls }
