-- Each by computing, and the fields of a size by arithmetic.
use Rattle.std.proofs.Common.{◌≡◌, ℕ, suc, ◌≤◌, refl, arith}
use Rattle.device_table.specs.Words.{transfer_size, packet_count}
use Rattle.endpoint_relation.specs.OutWords.{one_packet}
use Rattle.endpoint_relation.proofs.out_.worked_out_words.Goals as goal

pub returns-clause-words : goal.returns-clause-words
returns-clause-words c = record { bulk = refl; interrupt = refl; stall = refl; arms = refl; clears = refl; opens = refl; closes = refl; size = refl; moved = refl; closed = refl; all = refl }

bytes_are : (n size : ℕ) → size ≤ 64 → transfer_size (suc n) (one_packet size) ≡ size
bytes_are n size h = omega arith

packets_are : (n size : ℕ) → size ≤ 64 → packet_count (suc n) (one_packet size) ≡ 1
packets_are n size h = omega arith

pub returns-clause-sizes : goal.returns-clause-sizes
returns-clause-sizes c = λ n size h. record { bytes = bytes_are n size h; packets = packets_are n size h }

pub returns-clause-registers : goal.returns-clause-registers
returns-clause-registers c = record { opened = refl; armed = refl; size = refl; nothing_landed = refl; landed = refl; some_landed = refl; status = refl; served = refl; quiet = refl; cleared = refl; closed = refl; none = refl; halted = refl; core_halt = refl }

pub returns-clause-answers : goal.returns-clause-answers
returns-clause-answers c = record {
  asleep = refl;
  unopened = refl;
  rests = refl;
  other = refl;
  other_dropped = refl;
  lands = refl;
  again = refl;
  moved = refl;
  repeated = refl;
  repeated_dropped = refl;
  next = refl;
  next_lands = refl;
  stall = refl;
  core = refl;
  long = refl;
  closed = refl;
}
