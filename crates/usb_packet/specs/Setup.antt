-- The eight bytes of a SETUP packet and their fields: USB 2.0, 9.3, table 9-2.
use Rattle.std.specs.Prelude.{ℕ, ◌+◌, ◌*◌, ◌/◌, ◌%◌, List, [], ◌∷◌, slice_index}
use Rattle.usb_packet.specs.declared.setup.Setup.{Setup}

-- the two bytes at `at` as a number, the lower byte first
abbrev pub word_at : List ℕ → ℕ → ℕ
word_at bytes at = slice_index bytes at + 256 * slice_index bytes (at + 1)

-- bmRequestType, bRequest, wValue, wIndex, wLength
abbrev pub fields_of : List ℕ → Setup
fields_of bytes = record {
  request_type = slice_index bytes 0;
  request = slice_index bytes 1;
  value = word_at bytes 2;
  index = word_at bytes 4;
  length = word_at bytes 6;
}

-- the eight bytes that have these fields
abbrev pub bytes_of : Setup → List ℕ
bytes_of setup =
    setup.request_type ∷ setup.request ∷ setup.value % 256 ∷ setup.value / 256 ∷
    setup.index % 256 ∷ setup.index / 256 ∷ setup.length % 256 ∷ setup.length / 256 ∷ []
