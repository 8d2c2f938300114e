-- How the packets of a transmit FIFO stand in one row of bytes: each behind the words of the one before, by the lengths
-- that stand beside the row, and the bytes of the unfinished one at the end.
use Rattle.std.specs.Prelude.{◌≡◌, ℕ, suc, ◌+◌, ◌*◌, ◌%◌, ◌<◌, ◌≤◌, ◌≢◌, List, [], ◌∷◌, ◌++◌, length, take, drop, Option, Some, None}
use Rattle.dwc2_fifo.specs.declared.tx.Head.{Head}
use Rattle.dwc2_fifo.specs.declared.tx.Place.{Place}
use Rattle.dwc2_fifo.specs.Words.{word_count}
use Rattle.dwc2_fifo.specs.Tx.{Tagged, Begun, Tx}

-- the bytes that the words of a packet of so many bytes have: its last word is filled
abbrev pub room_of_packet : ℕ → ℕ
room_of_packet n = 4 * word_count n

-- the packets with these heads, from the first byte on
abbrev pub cut : List Head → List ℕ → List Tagged
cut [] bytes = []
cut (head ∷ heads) bytes = record { tag = head.tag; bytes = take head.len bytes } ∷ cut heads (drop (room_of_packet head.len) bytes)

-- how many bytes and words the words of the packets with these heads have
abbrev pub bytes_under : List Head → ℕ
bytes_under [] = 0
bytes_under (head ∷ heads) = room_of_packet head.len + bytes_under heads

abbrev pub words_under : List Head → ℕ
words_under [] = 0
words_under (head ∷ heads) = word_count head.len + words_under heads

-- the packet that is begun has the bytes behind all packets
abbrev pub begun_of : List Head → Option Head → List ℕ → Option Begun
begun_of heads None bytes = None
begun_of heads (Some head) bytes = Some (record { tag = head.tag; length_wanted = head.len; bytes = drop (bytes_under heads) bytes })

-- the transmit FIFO that these heads and bytes are
abbrev pub tx_of : List Head → Option Head → List ℕ → ℕ → Tx
tx_of heads begun bytes depth = record { packets = cut heads bytes; unfinished = begun_of heads begun bytes; depth = depth }

-- each packet has 1 to 64 bytes
abbrev pub AreLengths : List Head → Type 0
AreLengths [] = Unit {0}
AreLengths (head ∷ heads) = (1 ≤ head.len) × (head.len ≤ 64) × AreLengths heads

-- how many bytes lie behind the packets: none, or those of whole words, fewer than the packet that is begun will have
abbrev pub IsBegun : Option Head → ℕ → Type 0
IsBegun None got = got ≡ 0
IsBegun (Some head) got = (got < head.len) × (head.len ≤ 64) × (got % 4 ≡ 0)

abbrev pub words_begun : Option Head → ℕ
words_begun None = 0
words_begun (Some head) = word_count head.len

pub record IsCut (heads : List Head) (begun : Option Head) (got end used depth : ℕ) : Type 0 where
  pub lengths : AreLengths heads
  pub total : bytes_under heads + got ≡ end
  pub behind : IsBegun begun got
  pub counted : used ≡ words_under heads + words_begun begun
  pub fits : used ≤ depth
  pub most : depth ≤ 1024

-- the row is the first `end` of 4,096 bytes
pub record IsStored (heads : List Head) (begun : Option Head) (got : ℕ) (bytes : List ℕ) (end used depth : ℕ) : Type 0 where
  pub size : length bytes ≡ 4096
  pub inside : end ≤ 4096
  pub is_cut : IsCut heads begun got end used depth

-- none of the packets has the tag
abbrev pub NoneHas : ℕ → List Head → Type 0
NoneHas tag [] = Unit {0}
NoneHas tag (head ∷ heads) = (head.tag ≢ tag) × NoneHas tag heads

-- a packet is the first with the tag, and begins at that byte
pub record IsFirst (tag : ℕ) (heads : List Head) (place : Place) : Type 0 where
  pub inside : place.index < length heads
  pub head_at : heads ≡ take place.index heads ++ place.head ∷ drop (suc place.index) heads
  pub has_tag : place.head.tag ≡ tag
  pub before : NoneHas tag (take place.index heads)
  pub start_is : place.start ≡ bytes_under (take place.index heads)
