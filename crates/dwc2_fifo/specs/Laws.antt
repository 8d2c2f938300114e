-- What holds of a FIFO over several calls.
use Rattle.std.specs.Prelude.{◌≡◌, ℕ, ◌<◌, ◌≤◌, List, [], ◌∷◌, ◌++◌, length, None, slice_index}
use Rattle.dwc2_fifo.specs.Words.{words_of}
use Rattle.dwc2_fifo.specs.Tx.{Tx, begun_in, with_words}

-- a packet that is begun with its length and given the words of its bytes is whole, and has those bytes
abbrev pub PacketComesOut : Type 0
PacketComesOut =
    (tx : Tx) (tag : ℕ) (bytes : List ℕ) → 1 ≤ length bytes → ((i : ℕ) → slice_index bytes i < 256)
    → with_words (begun_in tx tag (length bytes)) (words_of bytes)
    ≡ record tx { packets = tx.packets ++ record { tag = tag; bytes = bytes } ∷ []; unfinished = None }
