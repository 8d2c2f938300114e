-- The room that one entry more leaves.
use Rattle.std.proofs.Common.{◌≡◌, ◌+◌, ◌-◌, List, [], ◌∷◌, ◌++◌, length, arith}
use Rattle.dwc2_fifo.specs.Rx.{Entry, Rx, words_in, pushed, room_of}

words_in-append : (these those : List Entry) → words_in (these ++ those) ≡ words_in these + words_in those
words_in-append [] those = omega arith
words_in-append (entry ∷ these) those =
    let ih = words_in-append these those in
    omega arith

pub room_of-pushed : (rx : Rx) (entry : Entry) → room_of (pushed rx entry) ≡ room_of rx - (1 + length entry.words)
room_of-pushed rx entry =
    let more = words_in-append rx.entries (entry ∷ []) in
    omega arith
