-- The descriptors of a configuration as a row: USB 2.0, 9.4.3 and 9.5. All lengths and places are in bytes.
use Rattle.std.specs.Prelude.{ℕ, zero, suc, ◌+◌, ◌*◌, List, [], ◌∷◌, Bool, ◌&&◌, nat_lt, nat_le, length, slice_index, take, drop, Option, Some, None, if◌then◌else◌, sum_by}
use Rattle.descriptor_row.specs.declared.descriptor.Descriptor.{Descriptor}

-- byte k of a descriptor, for k from 0 to 8; what it hasn't is 0
abbrev pub byte : Descriptor → ℕ → ℕ
byte d k = slice_index d.head k

-- bLength and bDescriptorType (9.5)
abbrev pub size : Descriptor → ℕ
size d = byte d 0

abbrev pub kind : Descriptor → ℕ
kind d = byte d 1

-- two bytes, the lower one first (8.1)
abbrev pub word : Descriptor → ℕ → ℕ
word d k = byte d k + 256 * byte d (k + 1)

-- byte k of the descriptor that begins at a place of the configuration, whose byte 0 is its length
abbrev pub byte_at : List ℕ → ℕ → ℕ → ℕ
byte_at config at k = if nat_lt k (slice_index config at) then slice_index config (at + k) else 0

abbrev pub descriptor_at : List ℕ → ℕ → Descriptor
descriptor_at config at = record {
  at = at;
  head = byte_at config at 0 ∷ byte_at config at 1 ∷ byte_at config at 2 ∷ byte_at config at 3 ∷ byte_at config at 4
      ∷ byte_at config at 5 ∷ byte_at config at 6 ∷ byte_at config at 7 ∷ byte_at config at 8 ∷ [];
}

-- whether a descriptor begins at a place: a byte 0 of at least 2 that ends within the configuration
abbrev pub begins_at : List ℕ → ℕ → Bool
begins_at config at = nat_le 2 (slice_index config at) && nat_le (at + slice_index config at) (length config)

-- the bytes of the descriptor that begins at a place, where one does: as many as its byte 0 says
abbrev pub whole_at : List ℕ → ℕ → Option (List ℕ)
whole_at config at = if begins_at config at then Some (take (slice_index config at) (drop at config)) else None

-- at most so many descriptors from a place on, each where the one before ends, up to where none begins
abbrev pub row_from : ℕ → ℕ → List ℕ → List Descriptor
row_from zero at config = []
row_from (suc more) at config = if begins_at config at then descriptor_at config at ∷ row_from more (at + slice_index config at) config else []

-- the row after the configuration descriptor, which has 9 bytes (9.6.3)
abbrev pub row_of : List ℕ → List Descriptor
row_of config = row_from (length config) 9 config

-- where that row ends
abbrev pub row_end : List ℕ → ℕ
row_end config = 9 + sum_by size (row_of config)
