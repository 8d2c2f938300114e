use Rattle.endpoint_relation.proofs.InOnTable.{runs_at, halts_at, clears_at, drops_at, opens_at, closes_at, state_is_kept, flushes_all, resets_at}
use Rattle.endpoint_relation.proofs.in_.register_lines.Goals as goal

pub returns : goal.returns
returns c = record { runs = runs_at; halts = halts_at; clears = clears_at; drops = drops_at; opens = opens_at; closes = closes_at; state = state_is_kept; flushes = flushes_all; resets = resets_at }
