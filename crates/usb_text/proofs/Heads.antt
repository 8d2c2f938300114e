-- A line of the head is read exactly where its text stands.
use Rattle.std.proofs.Common.{◌≡◌, ℕ, ◌<◌, ◌^◌, List, [], ◌∷◌, true, Option, Some, None, refl, ap, sym, ◌∙◌, arith, codes, subst, le-leb}
use Rattle.std.specs.List.{list_all}
use Rattle.std.specs.Fmt.{decimal}
use Rattle.std.proofs.lemmas.List.Splits.{join_with_byte-slice_split}
use Rattle.usb_words.specs.Field.{space, pieces, spaced, hex, number_of, bytes_in, at_least, one, bytes_word, from}
use Rattle.usb_words.proofs.Hex.{is_word, hex_again, hex_is_word}
use Rattle.usb_words.proofs.Decimal.{and_true, number_again, number_only, decimal_is_word}
use Rattle.usb_words.proofs.Spaced.{pieces-spaced}
use Rattle.line_rules.specs.declared.kinds.HeadKind.{HeadKind}
use Rattle.line_rules.specs.declared.kinds.HeadKind.TheVariants as kind
use Rattle.line_rules.specs.Kinds.{head_kind_of}
use Rattle.line_rules.proofs.Names.{head_name, head_kind_only}
use Rattle.usb_words.proofs.Alone.{some_again, bytes_only, word_only, from_only}
use Rattle.usb_text.specs.declared.head.HeadLine.{HeadLine}
use Rattle.usb_text.specs.declared.head.HeadLine.TheVariants.{Device, Config, Text, Report, Begin}
use Rattle.usb_text.specs.Head.{head_words, head_text, most_device, most_config, least_text, most_text, most_report, most_index, IsHead, of_device, of_config, of_report, of_text, text_words, two, head_fields, head_words_line, head_of}

-- no space stands in a word of a line of the head
pub head_words_are_words : (line : HeadLine) → IsHead line → list_all is_word (head_words line) ≡ true
head_words_are_words (Device bytes) h = rw (hex_is_word bytes.items h.2) refl
head_words_are_words (Config bytes) h = rw (hex_is_word bytes.items h.2) refl
head_words_are_words (Text index body) h = let small : index < 2 ^ 64 = omega (arith, h.1) in rw (decimal_is_word index small, hex_is_word body.items h.2.2) refl
head_words_are_words (Report bytes) h = rw (hex_is_word bytes.items h.2) refl
head_words_are_words Begin h = refl

-- the text of words is read by those words
cut_again : (word : List ℕ) (words : List (List ℕ)) → list_all is_word (word ∷ words) ≡ true → head_of (spaced (word ∷ words)) ≡ head_words_line (word ∷ words)
cut_again word words h = let parts = and_true _ _ h in ap head_words_line (pieces-spaced word words parts.0 parts.1)

pub head_again : (line : HeadLine) → IsHead line → head_of (head_text line) ≡ Some line
head_again (Device bytes) h =
    cut_again (codes "device") (hex bytes.items ∷ []) (head_words_are_words (Device bytes) h)
    ∙ rw (hex_again 64 bytes.items h.2 h.1, some_again 1 bytes.items h.0) refl
head_again (Config bytes) h =
    cut_again (codes "config") (hex bytes.items ∷ []) (head_words_are_words (Config bytes) h)
    ∙ rw (hex_again 600 bytes.items h.2 h.1, some_again 1 bytes.items h.0) refl
head_again (Text index body) h =
    cut_again (codes "string") (decimal index ∷ hex body.items ∷ []) (head_words_are_words (Text index body) h)
    ∙ rw (number_again index 255 h.1 (omega arith), le-leb 1 index h.0, hex_again 60 body.items h.2.2 h.2.1, some_again 2 body.items h.2.0) refl
head_again (Report bytes) h =
    cut_again (codes "report") (hex bytes.items ∷ []) (head_words_are_words (Report bytes) h)
    ∙ rw (hex_again 512 bytes.items h.2 h.1, some_again 1 bytes.items h.0) refl
head_again Begin h = refl

two_only : (words : List (List ℕ)) (w : List ℕ × List ℕ) → two words ≡ Some w → words ≡ w.0 ∷ w.1 ∷ []
two_only [] w h = absurd (cc)
two_only (a ∷ []) w h = absurd (cc)
two_only (a ∷ b ∷ []) w h = let P : List ℕ × List ℕ → Type 0 = λ v. a ∷ b ∷ [] ≡ v.0 ∷ v.1 ∷ [] in let e : (a, b) ≡ w = cc in subst P e refl
two_only (a ∷ b ∷ c ∷ cs) w h = absurd (cc)

-- the words are those of the line, and its fields are in range
abbrev ReadsHead : List (List ℕ) → HeadLine → Type 0
ReadsHead words line = (words ≡ head_words line) × IsHead line

device_only : (fields : List (List ℕ)) (r : Option (List ℕ)) (line : HeadLine) → bytes_word 1 most_device (one fields) ≡ r → of_device r ≡ Some line → ReadsHead (codes "device" ∷ fields) line
device_only fields None line e h = absurd (cc)
device_only fields (Some bytes) line e h =
    let t = word_only 1 64 fields (one fields) bytes refl e in
    let same : Device (record { items = bytes }) ≡ line = cc in
    subst (ReadsHead (codes "device" ∷ fields)) same (ap (λ fs. codes "device" ∷ fs) t.0, t.1)

config_only : (fields : List (List ℕ)) (r : Option (List ℕ)) (line : HeadLine) → bytes_word 1 most_config (one fields) ≡ r → of_config r ≡ Some line → ReadsHead (codes "config" ∷ fields) line
config_only fields None line e h = absurd (cc)
config_only fields (Some bytes) line e h =
    let t = word_only 1 600 fields (one fields) bytes refl e in
    let same : Config (record { items = bytes }) ≡ line = cc in
    subst (ReadsHead (codes "config" ∷ fields)) same (ap (λ fs. codes "config" ∷ fs) t.0, t.1)

report_only : (fields : List (List ℕ)) (r : Option (List ℕ)) (line : HeadLine) → bytes_word 1 most_report (one fields) ≡ r → of_report r ≡ Some line → ReadsHead (codes "report" ∷ fields) line
report_only fields None line e h = absurd (cc)
report_only fields (Some bytes) line e h =
    let t = word_only 1 512 fields (one fields) bytes refl e in
    let same : Report (record { items = bytes }) ≡ line = cc in
    subst (ReadsHead (codes "report" ∷ fields)) same (ap (λ fs. codes "report" ∷ fs) t.0, t.1)

text_fields_only : (w : List ℕ × List ℕ) (x : Option ℕ) (y : Option (List ℕ)) (line : HeadLine)
    → from 1 (number_of most_index w.0) ≡ x → at_least least_text (bytes_in most_text w.1) ≡ y
    → of_text x y ≡ Some line → ReadsHead (codes "string" ∷ w.0 ∷ w.1 ∷ []) line
text_fields_only w None y line ex ey h = absurd (cc)
text_fields_only w (Some index) None line ex ey h = absurd (cc)
text_fields_only w (Some index) (Some body) line ex ey h =
    let f = from_only 1 (number_of most_index w.0) index ex in
    let a = number_only w.0 index 255 (omega arith) f.0 in
    let b = bytes_only 2 60 w.1 body ey in
    let same : Text index (record { items = body }) ≡ line = cc in
    subst (ReadsHead (codes "string" ∷ w.0 ∷ w.1 ∷ [])) same (rw (a.0, b.0) refl, (f.1, a.1, b.1))

text_only : (fields : List (List ℕ)) (w : Option (List ℕ × List ℕ)) (line : HeadLine) → two fields ≡ w → text_words w ≡ Some line → ReadsHead (codes "string" ∷ fields) line
text_only fields None line e h = absurd (cc)
text_only fields (Some w) line e h =
    subst (λ (fs : List (List ℕ)). ReadsHead (codes "string" ∷ fs) line) (sym (two_only fields w e))
    (text_fields_only w _ _ line refl refl h)

begin_only : (fields : List (List ℕ)) (line : HeadLine) → head_fields (Some kind.Begin) fields ≡ Some line → ReadsHead (codes "begin" ∷ fields) line
begin_only [] line h = let same : Begin ≡ line = cc in subst (ReadsHead (codes "begin" ∷ [])) same (refl, tt)
begin_only (f ∷ fs) line h = absurd (cc)

fields_only : (kind : HeadKind) (fields : List (List ℕ)) (line : HeadLine) → head_fields (Some kind) fields ≡ Some line → ReadsHead (head_name kind ∷ fields) line
fields_only kind.Device fields line h = device_only fields _ line refl h
fields_only kind.Config fields line h = config_only fields _ line refl h
fields_only kind.Text fields line h = text_only fields (two fields) line refl h
fields_only kind.Report fields line h = report_only fields _ line refl h
fields_only kind.Begin fields line h = begin_only fields line h

kind_fields_only : (name : List ℕ) (k : Option HeadKind) (fields : List (List ℕ)) (line : HeadLine) → head_kind_of name ≡ k → head_fields k fields ≡ Some line → ReadsHead (name ∷ fields) line
kind_fields_only name None fields line e h = absurd (cc)
kind_fields_only name (Some k) fields line e h =
    subst (λ (n : List ℕ). ReadsHead (n ∷ fields) line) (sym (head_kind_only name k e)) (fields_only k fields line h)

words_head_only : (words : List (List ℕ)) (line : HeadLine) → head_words_line words ≡ Some line → ReadsHead words line
words_head_only [] line h = absurd (cc)
words_head_only (name ∷ fields) line h = kind_fields_only name (head_kind_of name) fields line refl h

pub head_only : (bytes : List ℕ) (line : HeadLine) → head_of bytes ≡ Some line → (bytes ≡ head_text line) × IsHead line
head_only bytes line h =
    let r = words_head_only (pieces bytes) line h in
    (sym (join_with_byte-slice_split space bytes) ∙ ap spaced r.0, r.1)

-- what isn't read as a line has the text of none
pub head_none : (bytes : List ℕ) → head_of bytes ≡ None → (line : HeadLine) → IsHead line → bytes ≡ head_text line → ⊥
head_none bytes h line fits e = let again = head_again line fits in let same = ap head_of e in cc
