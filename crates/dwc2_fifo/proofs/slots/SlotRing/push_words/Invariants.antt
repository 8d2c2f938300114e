-- the words of what is left are still to come
use Rattle.std.proofs.Common.{◌≡◌, ◌≤◌, ◌+◌, ◌++◌, length}
use Rattle.dwc2_fifo.specs.Words.{words_of, word_count}
use Rattle.dwc2_fifo.specs.Row.{data_slots}
use Rattle.dwc2_fifo.proofs.slots.SlotRing.push_words.Given as goal

abbrev pub invariant-loop-rest : goal.invariant-loop-rest
invariant-loop-rest l =
    record {
      room : length l.self + word_count (length l.rest) ≤ 1024;
      to_come : l.self ++ data_slots (words_of l.rest) ≡ l.initial.self ++ data_slots (words_of l.fn.bytes);
    }

abbrev pub decreases-loop-rest : goal.decreases-loop-rest
decreases-loop-rest l = length l.rest
