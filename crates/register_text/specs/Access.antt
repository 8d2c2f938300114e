-- The lines of accesses to registers, each with its one spelling.
use Rattle.std.specs.Prelude.{ℕ, zero, suc, ◌<◌, ◌^◌, ◌/◌, ◌%◌, List, [], ◌∷◌, ◌++◌, Bool, true, false, codes}
use Rattle.dwc2_regs.specs.declared.access.Access.{Access}
use Rattle.usb_words.specs.Field.{spaced, hex_digit}
use Rattle.register_text.specs.declared.access.Side.{Side}
use Rattle.register_text.specs.declared.access.Side.TheVariants as side

-- the last so many hexadecimal digits of a number, the highest first
abbrev pub digits : ℕ → ℕ → List ℕ
digits zero n = []
digits (suc count) n = digits count (n / 16) ++ hex_digit (n % 16) ∷ []

-- whose registers they are, and whether the access wrote
abbrev pub mark : Side → Bool → List ℕ
mark side.Plain false = codes "r"
mark side.Plain true = codes "w"
mark side.Device false = codes "dr"
mark side.Device true = codes "dw"
mark side.Host false = codes "hr"
mark side.Host true = codes "hw"

-- `r OFF VALUE` or `w OFF VALUE`: an offset has four digits, a word of 32 bits eight
abbrev pub access_words : Access → Side → List (List ℕ)
access_words access side = mark side access.write ∷ digits 4 access.off ∷ digits 8 access.value ∷ []

-- the text of a register line, without the newline that ends it
abbrev pub access_text : Access → Side → List ℕ
access_text access side = spaced (access_words access side)

-- what an offset and a word may be
abbrev pub IsAccess : Access → Type 0
IsAccess access = (access.off < 2 ^ 16) × (access.value < 2 ^ 32)
