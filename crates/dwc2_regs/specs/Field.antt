-- Fields of a word of 32 bits, which is a number below 2 ^ 32.
use Rattle.std.specs.Prelude.{ℕ, ◌+◌, ◌*◌, ◌/◌, ◌%◌, ◌^◌, ◌≤◌, ◌⊎◌}
use Rattle.dwc2_regs.specs.declared.bits.Field.{Field}

-- the number in the bits of the field
abbrev pub field_of : ℕ → Field → ℕ
field_of word field = word / 2 ^ field.low % 2 ^ field.width

-- the word with another number in the bits of the field: what stands above them, the number, what stands
-- below them
abbrev pub with_field : ℕ → Field → ℕ → ℕ
with_field word field value =
    word / 2 ^ (field.low + field.width) * 2 ^ (field.low + field.width) + value * 2 ^ field.low + word % 2 ^ field.low

-- the two fields have no bit in common
abbrev pub IsApart : Field → Field → Type 0
IsApart a b = (a.low + a.width ≤ b.low) ⊎ (b.low + b.width ≤ a.low)
