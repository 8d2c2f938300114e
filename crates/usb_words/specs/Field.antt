-- Numbers, bytes and words in a line, and how each is read.
use Rattle.std.specs.Prelude.{ℕ, ◌<◌, ◌≤◌, ◌+◌, ◌-◌, ◌*◌, ◌/◌, ◌%◌, List, [], ◌∷◌, Bool, true, false, ◌==◌, ◌&&◌, not, nat_lt, nat_le, length, slice_index, if◌then◌else◌, Option, Some, None, codes}
use Rattle.std.specs.Str.{bytes_eq}
use Rattle.std.specs.Char.{is_ascii_digit}
use Rattle.std.specs.List.{AllByRecursion, flat_map, list_all, slice_split, join_with_byte}

-- bytes are numbers below 256
abbrev pub AreBytes : List ℕ → Type 0
AreBytes bytes = AllByRecursion (λ b. b < 256) bytes

-- bytes, so many at least and at most
abbrev pub HasBytes : ℕ → ℕ → List ℕ → Type 0
HasBytes least most bytes = (least ≤ length bytes) × (length bytes ≤ most) × AreBytes bytes

-- the byte between two words
abbrev pub space : ℕ
space = 32

abbrev pub is_space : ℕ → Bool
is_space b = b == space

-- the byte that ends a line
abbrev pub newline : ℕ
newline = 10

-- what stands between the spaces of a line
abbrev pub pieces : List ℕ → List (List ℕ)
pieces bytes = slice_split is_space bytes

-- words with one space between them
abbrev pub spaced : List (List ℕ) → List ℕ
spaced words = join_with_byte space words

abbrev pub none_left : List (List ℕ) → Bool
none_left [] = true
none_left (word ∷ words) = false

-- decimal digits without a leading zero
abbrev pub is_numeral : List ℕ → Bool
is_numeral word = list_all is_ascii_digit word && (nat_lt 0 (length word) && not ((slice_index word 0 == 48) && nat_lt 1 (length word)))

-- the number of these digits after those of n
abbrev pub read_on : ℕ → List ℕ → ℕ
read_on n [] = n
read_on n (digit ∷ digits) = read_on (10 * n + (digit - 48)) digits

-- the number of at most `most` that a word is the text of
abbrev pub number_of : ℕ → List ℕ → Option ℕ
number_of most word = if is_numeral word && nat_le (read_on 0 word) most then Some (read_on 0 word) else None

-- one hexadecimal digit, in lower case
abbrev pub hex_digit : ℕ → ℕ
hex_digit n = if nat_lt n 10 then 48 + n else 87 + n

-- the two digits of a byte
abbrev pub hex_pair : ℕ → List ℕ
hex_pair byte = hex_digit (byte / 16) ∷ hex_digit (byte % 16) ∷ []

-- the text of bytes: pairs of digits, or a dash for no bytes
abbrev pub hex : List ℕ → List ℕ
hex [] = codes "-"
hex (byte ∷ bytes) = flat_map hex_pair (byte ∷ bytes)

-- the value of one digit
abbrev pub digit_value : ℕ → Option ℕ
digit_value c =
    if nat_le 48 c && nat_le c 57 then Some (c - 48)
    else (if nat_le 97 c && nat_le c 102 then Some (c - 87) else None)

abbrev pub both : Option ℕ → Option ℕ → Option ℕ
both None low = None
both (Some high) None = None
both (Some high) (Some low) = Some (16 * high + low)

-- the byte of two digits
abbrev pub pair_value : ℕ → ℕ → Option ℕ
pair_value c d = both (digit_value c) (digit_value d)

abbrev pub with_byte : Option ℕ → Option (List ℕ) → Option (List ℕ)
with_byte None rest = None
with_byte (Some byte) None = None
with_byte (Some byte) (Some bytes) = Some (byte ∷ bytes)

-- the bytes of pairs of digits
abbrev pub bytes_of_pairs : List ℕ → Option (List ℕ)
bytes_of_pairs [] = Some []
bytes_of_pairs (c ∷ []) = None
bytes_of_pairs (c ∷ d ∷ cs) = with_byte (pair_value c d) (bytes_of_pairs cs)

abbrev pub at_most : ℕ → Option (List ℕ) → Option (List ℕ)
at_most most None = None
at_most most (Some bytes) = if nat_le (length bytes) most then Some bytes else None

-- the bytes, at most so many, that a word is the text of
abbrev pub bytes_in : ℕ → List ℕ → Option (List ℕ)
bytes_in most [] = None
bytes_in most (c ∷ cs) = if bytes_eq (c ∷ cs) (codes "-") then Some [] else at_most most (bytes_of_pairs (c ∷ cs))

-- the bytes, exactly so many
abbrev pub exactly : ℕ → Option (List ℕ) → Option (List ℕ)
exactly n None = None
exactly n (Some bytes) = if length bytes == n then Some bytes else None

-- the bytes, at least so many
abbrev pub at_least : ℕ → Option (List ℕ) → Option (List ℕ)
at_least least None = None
at_least least (Some bytes) = if nat_le least (length bytes) then Some bytes else None

-- whether a packet was whole, or its data acknowledged: `ok`, or the word for the other case
abbrev pub fate_of : List ℕ → List ℕ → Option Bool
fate_of other word = if bytes_eq word (codes "ok") then Some true else (if bytes_eq word other then Some false else None)

-- exactly one word
abbrev pub one : List (List ℕ) → Option (List ℕ)
one (a ∷ []) = Some a
one _ = None

-- the bytes, from `least` to `most` of them, of one word
abbrev pub bytes_word : ℕ → ℕ → Option (List ℕ) → Option (List ℕ)
bytes_word least most None = None
bytes_word least most (Some word) = at_least least (bytes_in most word)

-- a number of at least so much
abbrev pub from : ℕ → Option ℕ → Option ℕ
from least None = None
from least (Some n) = if nat_le least n then Some n else None

-- the number, from `least` to `most`, of one word
abbrev pub number_word : ℕ → ℕ → Option (List ℕ) → Option ℕ
number_word least most None = None
number_word least most (Some word) = from least (number_of most word)
