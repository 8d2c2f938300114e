-- What a transmit FIFO is to its callers.
use Rattle.std.specs.Prelude.{◌≡◌, ℕ, ◌+◌, ◌-◌, ◌==◌, nat_lt, min, if◌then◌else◌, List, [], ◌∷◌, ◌++◌, length, Option, Some, None}
use Rattle.dwc2_regs.specs.Word.{bytes_of}
use Rattle.dwc2_fifo.specs.Words.{word_count}

-- a packet, and the tag that names whose it is
pub record Tagged : Type 0 where
  pub tag : ℕ
  pub bytes : List ℕ

-- a packet of which words are still to come: how many bytes it will have, and those that it has
pub record Begun : Type 0 where
  pub tag : ℕ
  pub length_wanted : ℕ
  pub bytes : List ℕ

pub record Tx : Type 0 where
  -- the whole packets, the oldest first
  pub packets : List Tagged
  -- the one that was begun and isn't whole
  pub unfinished : Option Begun
  -- how many words the FIFO has place for
  pub depth : ℕ

-- a packet takes the words of its bytes, and a begun one those of all that it will have
abbrev pub words_of_packets : List Tagged → ℕ
words_of_packets [] = 0
words_of_packets (packet ∷ packets) = word_count (length packet.bytes) + words_of_packets packets

abbrev pub words_of_begun : Option Begun → ℕ
words_of_begun None = 0
words_of_begun (Some begun) = word_count begun.length_wanted

abbrev pub words_taken : Tx → ℕ
words_taken tx = words_of_packets tx.packets + words_of_begun tx.unfinished

-- how many more words there is place for
abbrev pub space_of : Tx → ℕ
space_of tx = tx.depth - words_taken tx

-- a FIFO of that depth with nothing in it
abbrev pub empty_of : ℕ → Tx
empty_of depth = record { packets = []; unfinished = None; depth = depth }

abbrev pub IsEmpty : Tx → Type 0
IsEmpty tx = (tx.packets ≡ []) × (tx.unfinished ≡ None)

-- with a packet begun
abbrev pub begun_in : Tx → ℕ → ℕ → Tx
begun_in tx tag bytes = record tx { unfinished = Some (record { tag = tag; length_wanted = bytes; bytes = [] }) }

-- the bytes of a begun packet and those that a word brings, which are no more than it lacks
abbrev pub bytes_with : Begun → ℕ → List ℕ
bytes_with begun word = begun.bytes ++ bytes_of (min (begun.length_wanted - length begun.bytes) 4) word

-- a word goes to the begun packet, which is behind the whole ones once it has all its bytes
abbrev pub with_word_in : Tx → Option Begun → ℕ → Tx
with_word_in tx None word = tx
with_word_in tx (Some begun) word =
    if nat_lt (length (bytes_with begun word)) begun.length_wanted
    then record tx { unfinished = Some (record begun { bytes = bytes_with begun word }) }
    else record tx { packets = tx.packets ++ record { tag = begun.tag; bytes = bytes_with begun word } ∷ []; unfinished = None }

abbrev pub with_word : Tx → ℕ → Tx
with_word tx word = with_word_in tx tx.unfinished word

abbrev pub with_words : Tx → List ℕ → Tx
with_words tx [] = tx
with_words tx (word ∷ words) = with_words (with_word tx word) words

-- the first packet with a tag
abbrev pub first_with : ℕ → List Tagged → Option (List ℕ)
first_with tag [] = None
first_with tag (packet ∷ packets) = if packet.tag == tag then Some packet.bytes else first_with tag packets

-- the packets without the first that has a tag
abbrev pub without_first : ℕ → List Tagged → List Tagged
without_first tag [] = []
without_first tag (packet ∷ packets) = if packet.tag == tag then packets else packet ∷ without_first tag packets
