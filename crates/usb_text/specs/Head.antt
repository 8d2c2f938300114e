-- The lines of a job's head: its descriptors and strings, and the line that ends it.
use Rattle.std.specs.Prelude.{ℕ, ◌≤◌, List, [], ◌∷◌, codes, if◌then◌else◌, Option, Some, None, ⊤}
use Rattle.std.specs.Fmt.{decimal}
use Rattle.usb_words.specs.Field.{HasBytes, pieces, spaced, none_left, hex, number_of, bytes_in, at_least, one, bytes_word, from}
use Rattle.line_rules.specs.declared.kinds.HeadKind.{HeadKind}
use Rattle.line_rules.specs.declared.kinds.HeadKind.TheVariants as kind
use Rattle.line_rules.specs.Kinds.{head_kind_of}
use Rattle.usb_text.specs.declared.head.HeadLine.{HeadLine}
use Rattle.usb_text.specs.declared.head.HeadLine.TheVariants.{Device, Config, Text, Report, Begin}

-- `device HEX`, `config HEX`, `string I HEX`, `report HEX`, `begin`
abbrev pub head_words : HeadLine → List (List ℕ)
head_words (Device bytes) = codes "device" ∷ hex bytes.items ∷ []
head_words (Config bytes) = codes "config" ∷ hex bytes.items ∷ []
head_words (Text index body) = codes "string" ∷ decimal index ∷ hex body.items ∷ []
head_words (Report bytes) = codes "report" ∷ hex bytes.items ∷ []
head_words Begin = codes "begin" ∷ []

-- the text of a line of the head, without the newline that ends it
abbrev pub head_text : HeadLine → List ℕ
head_text line = spaced (head_words line)

-- how many bytes each may have
abbrev pub most_device : ℕ
most_device = 64

abbrev pub most_config : ℕ
most_config = 600

abbrev pub least_text : ℕ
least_text = 2

abbrev pub most_text : ℕ
most_text = 60

abbrev pub most_report : ℕ
most_report = 512

-- the greatest string index (USB 2.0, 9.6.7); index 0 is that of the languages
abbrev pub most_index : ℕ
most_index = 255

abbrev pub IsHead : HeadLine → Type 0
IsHead (Device bytes) = HasBytes 1 most_device bytes.items
IsHead (Config bytes) = HasBytes 1 most_config bytes.items
IsHead (Text index body) = (1 ≤ index) × (index ≤ most_index) × HasBytes least_text most_text body.items
IsHead (Report bytes) = HasBytes 1 most_report bytes.items
IsHead Begin = ⊤

-- how a line of the head is read: by its words. Exactly two words
abbrev pub two : List (List ℕ) → Option (List ℕ × List ℕ)
two (a ∷ b ∷ []) = Some (a, b)
two _ = None

abbrev pub of_device : Option (List ℕ) → Option HeadLine
of_device None = None
of_device (Some bytes) = Some (Device (record { items = bytes }))

abbrev pub of_config : Option (List ℕ) → Option HeadLine
of_config None = None
of_config (Some bytes) = Some (Config (record { items = bytes }))

abbrev pub of_report : Option (List ℕ) → Option HeadLine
of_report None = None
of_report (Some bytes) = Some (Report (record { items = bytes }))

abbrev pub of_text : Option ℕ → Option (List ℕ) → Option HeadLine
of_text None body = None
of_text (Some index) None = None
of_text (Some index) (Some body) = Some (Text index (record { items = body }))

abbrev pub text_words : Option (List ℕ × List ℕ) → Option HeadLine
text_words None = None
text_words (Some w) = of_text (from 1 (number_of most_index w.0)) (at_least least_text (bytes_in most_text w.1))

abbrev pub head_fields : Option HeadKind → List (List ℕ) → Option HeadLine
head_fields None words = None
head_fields (Some kind.Device) words = of_device (bytes_word 1 most_device (one words))
head_fields (Some kind.Config) words = of_config (bytes_word 1 most_config (one words))
head_fields (Some kind.Text) words = text_words (two words)
head_fields (Some kind.Report) words = of_report (bytes_word 1 most_report (one words))
head_fields (Some kind.Begin) words = if none_left words then Some Begin else None

abbrev pub head_words_line : List (List ℕ) → Option HeadLine
head_words_line [] = None
head_words_line (name ∷ words) = head_fields (head_kind_of name) words

-- the line of the head that bytes are the text of
abbrev pub head_of : List ℕ → Option HeadLine
head_of bytes = head_words_line (pieces bytes)
