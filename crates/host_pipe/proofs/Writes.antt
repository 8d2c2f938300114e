-- What a write makes pending.
use Rattle.std.proofs.Common.{◌≡◌, ◌≤◌, ℕ, ◌++◌, ◌-◌, List, length, take, ap, arith, length-append, length-take}
use Rattle.std.proofs.lemmas.List.{take_all}
use Rattle.host_pipe.specs.OutPipe.{OutPipe, written}

pub all : (capacity : ℕ) (bytes : List ℕ) (pipe : OutPipe) → length bytes ≤ capacity - length pipe.pending →
    written capacity bytes pipe ≡ record pipe { pending = pipe.pending ++ bytes }
all capacity bytes pipe h = ap (λ xs. record pipe { pending = pipe.pending ++ xs }) (take_all (capacity - length pipe.pending) bytes h)

pub full : (capacity : ℕ) (bytes : List ℕ) (pipe : OutPipe) → length pipe.pending ≤ capacity → capacity - length pipe.pending ≤ length bytes →
    length (written capacity bytes pipe).pending ≡ capacity
full capacity bytes pipe fits more =
    let front = take (capacity - length pipe.pending) bytes in
    let le = length-append pipe.pending front in let lt = length-take (capacity - length pipe.pending) bytes in grind (arith, le, lt, fits, more)
