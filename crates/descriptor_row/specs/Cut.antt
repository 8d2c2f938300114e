-- How a row of descriptors is cut: USB 2.0, 9.5. Each descriptor is as long as its byte 0 says, which is 2 at least, and begins
-- where the one before ends.
use Rattle.std.specs.Prelude.{◌≡◌, ℕ, ◌+◌, ◌≤◌, ⊤, List, [], ◌∷◌, ◌++◌, length, drop, slice_index}
use Rattle.descriptor_row.specs.declared.descriptor.Descriptor.{Descriptor}

-- the bytes of one descriptor
abbrev pub IsPiece : List ℕ → Type 0
IsPiece piece = (2 ≤ length piece) × (slice_index piece 0 ≡ length piece)

abbrev pub ArePieces : List (List ℕ) → Type 0
ArePieces [] = ⊤
ArePieces (piece ∷ pieces) = IsPiece piece × ArePieces pieces

-- pieces one after another
abbrev pub joined : List (List ℕ) → List ℕ
joined [] = []
joined (piece ∷ pieces) = piece ++ joined pieces

-- no descriptor is whole at the front of these bytes
abbrev pub HasNone : List ℕ → Type 0
HasNone bytes = (piece behind : List ℕ) → bytes ≡ piece ++ behind → IsPiece piece → ⊥

-- bytes are these pieces, and then a rest in which no further one is whole
pub record IsCut (bytes : List ℕ) (pieces : List (List ℕ)) (rest : List ℕ) : Type 0 where
  pub whole : ArePieces pieces
  pub join : bytes ≡ joined pieces ++ rest
  pub none : HasNone rest

-- the descriptors that such pieces are, the first of them at a place; of each the first nine bytes, where 0 stands for those
-- that it hasn't
abbrev pub head_of : List ℕ → List ℕ
head_of piece =
    slice_index piece 0 ∷ slice_index piece 1 ∷ slice_index piece 2 ∷ slice_index piece 3 ∷ slice_index piece 4
    ∷ slice_index piece 5 ∷ slice_index piece 6 ∷ slice_index piece 7 ∷ slice_index piece 8 ∷ []

abbrev pub descriptors_of : ℕ → List (List ℕ) → List Descriptor
descriptors_of at [] = []
descriptors_of at (piece ∷ pieces) =
    record { at = at; head = head_of piece } ∷ descriptors_of (at + length piece) pieces

-- The bytes behind the configuration descriptor can be cut, and in whatever way they are, the row is that of the pieces and ends
-- where they do. So where pieces are all of these bytes, they are the row.
pub record IsOnlyRow (config : List ℕ) (row : List Descriptor) (end : ℕ) : Type 0 where
  pub cut : (pieces : List (List ℕ)) × (rest : List ℕ) × IsCut (drop 9 config) pieces rest
  pub only :
      (pieces : List (List ℕ)) (rest : List ℕ) → IsCut (drop 9 config) pieces rest →
      (row ≡ descriptors_of 9 pieces) × (end ≡ 9 + length (joined pieces))
