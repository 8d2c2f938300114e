-- What a write queues.
use Rattle.std.proofs.Common.{◌≡◌, ◌≤◌, ℕ, ◌++◌, ◌-◌, List, length, take, ap, arith, length-append, length-take}
use Rattle.std.proofs.lemmas.List.{take_all}
use Rattle.device_pipe.specs.InPipe.{InPipe, written}

pub all : (capacity : ℕ) (bytes : List ℕ) (pipe : InPipe) → length bytes ≤ capacity - length pipe.queue →
    written capacity bytes pipe ≡ record pipe { queue = pipe.queue ++ bytes }
all capacity bytes pipe h = ap (λ xs. record pipe { queue = pipe.queue ++ xs }) (take_all (capacity - length pipe.queue) bytes h)

pub full : (capacity : ℕ) (bytes : List ℕ) (pipe : InPipe) → length pipe.queue ≤ capacity → capacity - length pipe.queue ≤ length bytes →
    length (written capacity bytes pipe).queue ≡ capacity
full capacity bytes pipe fits more =
    let front = take (capacity - length pipe.queue) bytes in
    let le = length-append pipe.queue front in let lt = length-take (capacity - length pipe.queue) bytes in grind (arith, le, lt, fits, more)
