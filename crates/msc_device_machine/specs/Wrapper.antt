-- The wrappers of Bulk-Only Transport 1.0 (5): of a command, and of its status.
use Rattle.std.specs.Prelude.{ℕ, List, [], ◌∷◌, ◌++◌, Bool, ◌==◌, ◌&&◌, nat_le, length, take, drop, slice_index}
use Rattle.byteorder.specs.Endian.{little_number, little_bytes}

-- Numbers in both are little-endian.
abbrev pub number_at : ℕ → List ℕ → ℕ
number_at place bytes = little_number 4 (drop place bytes)

-- Command block wrapper (5.1).
pub record Wrapper : Type 0 where
  -- the host's number for the command, which its status has too
  pub tag : ℕ
  -- how many bytes the host expects to be moved
  pub length : ℕ
  -- to the host (bit 7 of bmCBWFlags)
  pub is_in : Bool
  -- the command block, with the bytes behind its length
  pub command : List ℕ

abbrev pub wrapper_of : List ℕ → Wrapper
wrapper_of bytes = record {
  tag = number_at 4 bytes;
  length = number_at 8 bytes;
  is_in = nat_le 128 (slice_index bytes 12);
  command = take 16 (drop 15 bytes);
}

-- "USBC"
abbrev pub command_signature : ℕ
command_signature = 0x43425355

-- valid and meaningful (6.2): 31 bytes with the signature, for unit 0, with 1 to 16 bytes of command
abbrev pub is_good : List ℕ → Bool
is_good bytes =
    (length bytes == 31) && ((number_at 0 bytes == command_signature)
    && ((slice_index bytes 13 == 0) && (nat_le 1 (slice_index bytes 14) && nat_le (slice_index bytes 14) 16)))

-- Command status wrapper (5.2): "USBS", the tag, how many of the host's bytes weren't moved, and the status.
abbrev pub status_wrapper : ℕ → ℕ → ℕ → List ℕ
status_wrapper tag residue status =
    (0x55 ∷ 0x53 ∷ 0x42 ∷ 0x53 ∷ []) ++ little_bytes 4 tag ++ little_bytes 4 residue ++ status ∷ []

-- bCSWStatus (table 5.3)
abbrev pub passed : ℕ
passed = 0

abbrev pub failed : ℕ
failed = 1

abbrev pub phase_error : ℕ
phase_error = 2
