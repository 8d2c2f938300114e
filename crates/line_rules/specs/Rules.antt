-- The rules of a line, in the order in which they are asked. The lowest that fails is told.
use Rattle.std.specs.Prelude.{ℕ, ◌+◌, ◌/◌, ◌%◌, List, [], ◌∷◌, ◌++◌, Bool, true, false, ◌==◌, ◌&&◌, ◌||◌, not, nat_le, length, drop, if◌then◌else◌, Option, Some, None, codes, is_some}
use Rattle.std.specs.Str.{bytes_eq}
use Rattle.std.specs.List.{list_all}
use Rattle.usb_words.specs.Field.{pieces, is_numeral, read_on, pair_value}
use Rattle.line_rules.specs.declared.rules.Mode.{Mode}
use Rattle.line_rules.specs.declared.rules.Mode.TheVariants as mode
use Rattle.line_rules.specs.declared.rules.Place.{Place}
use Rattle.line_rules.specs.declared.rules.Place.TheVariants as place
use Rattle.line_rules.specs.declared.rules.Field.{Field}
use Rattle.line_rules.specs.declared.rules.Field.TheVariants.{Name, Number, DataBits, Endpoint, Bytes, Blocks, Choice, Sent}
use Rattle.line_rules.specs.declared.rules.Choice.TheVariants as choice
use Rattle.line_rules.specs.declared.kinds.Kind.{Kind}
use Rattle.line_rules.specs.declared.kinds.Kind.TheVariants as kind
use Rattle.line_rules.specs.declared.kinds.HeadKind.{HeadKind}
use Rattle.line_rules.specs.declared.kinds.HeadKind.TheVariants as head
use Rattle.line_rules.specs.declared.kinds.Class.{Class}
use Rattle.line_rules.specs.declared.kinds.Class.TheVariants as class
use Rattle.line_rules.specs.declared.kinds.CdcKind.{CdcKind}
use Rattle.line_rules.specs.declared.kinds.CdcKind.TheVariants as cdc
use Rattle.line_rules.specs.declared.kinds.HidKind.{HidKind}
use Rattle.line_rules.specs.declared.kinds.HidKind.TheVariants as hid
use Rattle.line_rules.specs.declared.kinds.MscKind.{MscKind}
use Rattle.line_rules.specs.declared.kinds.MscKind.TheVariants as msc
use Rattle.line_rules.specs.declared.kinds.MidiKind.{MidiKind}
use Rattle.line_rules.specs.declared.kinds.MidiKind.TheVariants as midi
use Rattle.line_rules.specs.Kinds.{kind_of, head_kind_of, cdc_kind_of, hid_kind_of, msc_kind_of, midi_kind_of, bad, noack}

-- the most bytes that a line has, without the newline that ends it
abbrev pub most_line : ℕ
most_line = 8400

-- rule 1: it has at most 8,400 bytes
abbrev pub rule_1 : List ℕ → Bool
rule_1 line = nat_le (length line) most_line

-- 20 to 7e in hexadecimal: the space, and what is seen of ASCII
abbrev pub is_printable : ℕ → Bool
is_printable b = nat_le 32 b && nat_le b 126

-- rule 2: its bytes are printable
abbrev pub rule_2 : List ℕ → Bool
rule_2 line = list_all is_printable line

-- the first word is the first run of bytes that aren't spaces: what stands between two spaces that meet is
-- no word, nor is what stands before a space in front
abbrev pub first_of : List (List ℕ) → List ℕ
first_of [] = []
first_of ([] ∷ rest) = first_of rest
first_of ((b ∷ bs) ∷ rest) = b ∷ bs

-- what comes after that
abbrev pub after_first : List (List ℕ) → List (List ℕ)
after_first [] = []
after_first ([] ∷ rest) = after_first rest
after_first ((b ∷ bs) ∷ rest) = rest

-- the table of the lines: what the words after a line's first stand for, with the least and the most that
-- a number is, and the fewest and the most bytes that a HEX has. A further word of the name is a field too.
-- First the calls of classes, by the word after the class
abbrev pub cdc_row : CdcKind → List Field
cdc_row cdc.Write = Name ∷ Bytes 1 1024 ∷ []
cdc_row cdc.Read = Name ∷ Number 1 1024 ∷ []
cdc_row cdc.Flush = Name ∷ []
cdc_row cdc.Avail = Name ∷ []
cdc_row cdc.Line = Name ∷ []
cdc_row cdc.Notify = Name ∷ Number 0 65535 ∷ []

abbrev pub hid_row : HidKind → List Field
hid_row hid.Report = Name ∷ Bytes 1 64 ∷ []
hid_row hid.Take = Name ∷ []
hid_row hid.Set = Name ∷ []
hid_row hid.Idle = Name ∷ []

abbrev pub msc_row : MscKind → List Field
msc_row msc.Eject = Name ∷ []
msc_row msc.Insert = Name ∷ []
msc_row msc.Protect = Name ∷ Number 0 1 ∷ []

abbrev pub midi_row : MidiKind → List Field
midi_row midi.Send = Name ∷ Bytes 1 1024 ∷ []
midi_row midi.Recv = Name ∷ Number 1 1024 ∷ []
midi_row midi.Bytes = Name ∷ Number 1 1024 ∷ []

abbrev pub cdc_row_of : Option CdcKind → Option (List Field)
cdc_row_of None = None
cdc_row_of (Some k) = Some (cdc_row k)

abbrev pub hid_row_of : Option HidKind → Option (List Field)
hid_row_of None = None
hid_row_of (Some k) = Some (hid_row k)

abbrev pub msc_row_of : Option MscKind → Option (List Field)
msc_row_of None = None
msc_row_of (Some k) = Some (msc_row k)

abbrev pub midi_row_of : Option MidiKind → Option (List Field)
midi_row_of None = None
midi_row_of (Some k) = Some (midi_row k)

abbrev pub class_row : Class → List ℕ → Option (List Field)
class_row class.Cdc name = cdc_row_of (cdc_kind_of name)
class_row class.Hid name = hid_row_of (hid_kind_of name)
class_row class.Msc name = msc_row_of (msc_kind_of name)
class_row class.Midi name = midi_row_of (midi_kind_of name)

-- all lines of the schedule, where `next` is the word after the first
abbrev pub schedule_row : Kind → List ℕ → Option (List Field)
schedule_row kind.Reset next = Some []
schedule_row kind.Irq next = Some []
schedule_row kind.Task next = Some []
schedule_row kind.State next = Some []
schedule_row kind.End next = Some []
schedule_row kind.Setup next = Some (Number 0 127 ∷ Bytes 8 8 ∷ Choice choice.Whole ∷ [])
schedule_row kind.Out next = Some (Number 0 127 ∷ Number 0 15 ∷ Number 0 1 ∷ Bytes 0 64 ∷ Choice choice.Whole ∷ [])
schedule_row kind.In next = Some (Number 0 127 ∷ Number 0 15 ∷ Choice choice.Acknowledged ∷ [])
schedule_row (kind.Class c) next = class_row c next

abbrev pub head_row : HeadKind → List Field
head_row head.Device = Bytes 1 64 ∷ []
head_row head.Config = Bytes 1 600 ∷ []
head_row head.Text = Number 1 255 ∷ Bytes 2 60 ∷ []
head_row head.Report = Bytes 1 512 ∷ []
head_row head.Begin = []

abbrev pub schedule_row_of : Option Kind → List ℕ → Option (List Field)
schedule_row_of None next = None
schedule_row_of (Some k) next = schedule_row k next

abbrev pub head_row_of : Option HeadKind → Option (List Field)
head_row_of None = None
head_row_of (Some k) = Some (head_row k)

-- the row that words have in this mode and place. Jobs of the other modes have no lines yet.
abbrev pub row_of : Mode → Place → List (List ℕ) → Option (List Field)
row_of mode.Device place.Head words = head_row_of (head_kind_of (first_of words))
row_of mode.Device place.Schedule words = schedule_row_of (kind_of (first_of words)) (first_of (after_first words))
row_of mode.Host place.Head words = None
row_of mode.Host place.Schedule words = None
row_of mode.Link place.Head words = None
row_of mode.Link place.Schedule words = None

abbrev pub row : Mode → Place → List ℕ → Option (List Field)
row mode place line = row_of mode place (pieces line)

-- rule 3: its first word, or its first two where a class is named, are the name of a line of this mode and place
abbrev pub rule_3 : Mode → Place → List ℕ → Bool
rule_3 mode place line = is_some (row mode place line)

abbrev pub fields_of : Option (List Field) → List Field
fields_of None = []
fields_of (Some fields) = fields

-- one of two words
abbrev pub is_either : List ℕ → List ℕ → List ℕ → Bool
is_either this that word = bytes_eq word this || bytes_eq word that

-- data, of the one toggle or the other
abbrev pub is_data : List ℕ → Bool
is_data word = is_either (codes "data0") (codes "data1") word

-- what a device sends (USB 2.0, 8.3.1)
abbrev pub is_sent : List ℕ → Bool
is_sent word = is_either (codes "ack") (codes "nak") word || (is_either (codes "stall") (codes "none") word || is_data word)

abbrev pub front : List (List ℕ) → List ℕ
front [] = []
front (word ∷ words) = word

-- what a further word of a field stands for, where it has one: only data that a device sends has bytes
abbrev pub further : Field → List ℕ → Option Field
further (Sent least most) word = if is_data word then Some (Bytes least most) else None
further _ word = None

abbrev pub listed : Option Field → List Field
listed None = []
listed (Some field) = field ∷ []

-- what each of these words stands for
abbrev pub by_word : List Field → List (List ℕ) → List Field
by_word [] words = []
by_word (field ∷ fields) words =
    field ∷ (listed (further field (front words)) ++ by_word fields (drop (1 + length (listed (further field (front words)))) words))

-- the words after the first
abbrev pub after_name : List (List ℕ) → List (List ℕ)
after_name words = drop 1 words

-- what each word after the first stands for
abbrev pub fields : Mode → Place → List ℕ → List Field
fields mode place line = by_word (fields_of (row mode place line)) (after_name (pieces line))

abbrev pub is_empty : List ℕ → Bool
is_empty [] = true
is_empty (b ∷ bs) = false

-- the first word and one for each field, and nothing empty between two spaces or at an end
abbrev pub has_words : List Field → List (List ℕ) → Bool
has_words fields words = (length words == 1 + length fields) && list_all (λ word. not (is_empty word)) words

-- rule 4: after the first word it has one for each field, and no two spaces meet or stand at an end
abbrev pub rule_4 : Mode → Place → List ℕ → Bool
rule_4 mode place line = has_words (fields mode place line) (pieces line)

-- a number in decimal, without leading zeros, from `least` to `most`
abbrev pub is_number : ℕ → ℕ → List ℕ → Bool
is_number least most word = is_numeral word && (nat_le least (read_on 0 word) && nat_le (read_on 0 word) most)

-- one of the numbers of bits that a character may have (CDC PSTN 1.2, 6.3.11)
abbrev pub is_data_bits : List ℕ → Bool
is_data_bits word = is_number 5 8 word || is_number 16 16 word

-- a hexadecimal digit in lower case
abbrev pub is_hex_digit : ℕ → Bool
is_hex_digit c = (nat_le 48 c && nat_le c 57) || (nat_le 97 c && nat_le c 102)

-- the address of an endpoint, whose bits 6 to 4 are zero (USB 2.0, 9.6.6)
abbrev pub is_address : Option ℕ → Bool
is_address None = false
is_address (Some address) = address / 16 % 8 == 0

-- that address in two digits
abbrev pub is_endpoint : List ℕ → Bool
is_endpoint [] = false
is_endpoint (c ∷ []) = false
is_endpoint (c ∷ d ∷ []) = is_address (pair_value c d)
is_endpoint (c ∷ d ∷ e ∷ word) = false

-- pairs of hexadecimal digits
abbrev pub is_pairs : List ℕ → Bool
is_pairs word = list_all is_hex_digit word && (length word % 2 == 0)

-- a dash for no bytes, or a pair for each byte, from `least` to `most` of them
abbrev pub is_bytes : ℕ → ℕ → List ℕ → Bool
is_bytes least most word =
    if bytes_eq word (codes "-") then least == 0
    else (not (is_empty word) && (is_pairs word && (nat_le least (length word / 2) && nat_le (length word / 2) most)))

-- the bytes of a block of a disk
abbrev pub block : ℕ
block = 512

-- the same with whole blocks of bytes
abbrev pub is_blocks : ℕ → ℕ → List ℕ → Bool
is_blocks least most word = is_bytes least most word && (length word / 2 % block == 0)

-- what a rule asks of one word: the fifth of a number, the sixth of a HEX, the seventh of a choice
abbrev pub keeps : ℕ → Field → List ℕ → Bool
keeps rule Name word = true
keeps rule (Number least most) word = not (rule == 5) || is_number least most word
keeps rule DataBits word = not (rule == 5) || is_data_bits word
keeps rule Endpoint word = not (rule == 5) || is_endpoint word
keeps rule (Bytes least most) word = not (rule == 6) || is_bytes least most word
keeps rule (Blocks least most) word = not (rule == 6) || is_blocks least most word
keeps rule (Choice choice.Whole) word = not (rule == 7) || is_either (codes "ok") bad word
keeps rule (Choice choice.Acknowledged) word = not (rule == 7) || is_either (codes "ok") noack word
keeps rule (Sent least most) word = not (rule == 7) || is_sent word

abbrev pub all_keep : ℕ → List Field → List (List ℕ) → Bool
all_keep rule [] words = true
all_keep rule (field ∷ fields) [] = true
all_keep rule (field ∷ fields) (word ∷ words) = keeps rule field word && all_keep rule fields words

-- rule 5: each number is decimal without leading zeros, and in its field's range
abbrev pub rule_5 : Mode → Place → List ℕ → Bool
rule_5 mode place line = all_keep 5 (fields mode place line) (after_name (pieces line))

-- rule 6: each HEX is pairs of lower-case digits or a dash, and has as many bytes as its field may have
abbrev pub rule_6 : Mode → Place → List ℕ → Bool
rule_6 mode place line = all_keep 6 (fields mode place line) (after_name (pieces line))

-- rule 7: each choice is one of its field's words
abbrev pub rule_7 : Mode → Place → List ℕ → Bool
rule_7 mode place line = all_keep 7 (fields mode place line) (after_name (pieces line))

-- a rule that fails comes before the later ones
abbrev pub unless : Bool → ℕ → Option ℕ → Option ℕ
unless holds rule later = if holds then later else Some rule

-- the lowest of the rules 4 to 7 that a line's words break, where those after the first stand for these fields
abbrev pub lowest_of : List Field → List (List ℕ) → Option ℕ
lowest_of fields words =
    unless (has_words fields words) 4 (
    unless (all_keep 5 fields (after_name words)) 5 (
    unless (all_keep 6 fields (after_name words)) 6 (
    unless (all_keep 7 fields (after_name words)) 7 None)))

-- the lowest rule that a line breaks
abbrev pub lowest : Mode → Place → List ℕ → Option ℕ
lowest mode place line =
    unless (rule_1 line) 1 (
    unless (rule_2 line) 2 (
    unless (rule_3 mode place line) 3 (
    unless (rule_4 mode place line) 4 (
    unless (rule_5 mode place line) 5 (
    unless (rule_6 mode place line) 6 (
    unless (rule_7 mode place line) 7 None))))))
