-- What lies in the receive FIFO at most: three SETUPs, and one packet of endpoint 0 and of each OUT endpoint of a set.
use Rattle.std.specs.Prelude.{ℕ, ◌+◌, ◌*◌, nat_lt, Bool, List, [], ◌∷◌, filter}
use Rattle.dwc2_fifo.specs.Words.{word_count}
use Rattle.usb_descriptor.specs.declared.endpoint.Endpoint.{Endpoint}

-- bit 7 of an address is 0 for OUT (USB 2.0, 9.6.6)
abbrev pub is_out : Endpoint → Bool
is_out endpoint = nat_lt endpoint.addr 128

-- a packet takes the words of its bytes, and a status word in front of them and one behind
abbrev pub packet_words : ℕ → ℕ
packet_words bytes = 2 + word_count bytes

-- three SETUPs, each with its eight bytes
abbrev pub setup_words : ℕ
setup_words = 3 * packet_words 8

abbrev pub words_for : List Endpoint → ℕ
words_for [] = 0
words_for (endpoint ∷ endpoints) = packet_words endpoint.size + words_for endpoints

-- all of it: endpoint 0 has packets of 64 bytes
abbrev pub most_words : List Endpoint → ℕ
most_words endpoints = setup_words + packet_words 64 + words_for (filter is_out endpoints)
