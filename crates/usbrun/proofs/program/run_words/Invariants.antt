use Rattle.std.proofs.Common.{◌≡◌, map, take}
use Rattle.std.specs.Prelude.{string_bytes}
use Rattle.usbrun.proofs.program.run_words.Given as goal

abbrev pub invariant-loop-word : goal.invariant-loop-word
invariant-loop-word g l = record { texts : map (λ w. w.now) l.texts.items ≡ map string_bytes (take l.word-index l.words); err : l.err ≡ l.fn.err }
