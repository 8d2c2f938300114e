-- The lines of each mode and place are read exactly where their texts stand.
use Rattle.std.proofs.Common.{◌≡◌, ℕ, List, [], ◌∷◌, true, Option, Some, None, length, ◌≤◌, refl, ap, sym, ◌∙◌, arith, codes, subst}
use Rattle.std.specs.Fmt.{decimal}
use Rattle.usb_words.specs.Field.{pieces, hex}
use Rattle.line_rules.specs.declared.rules.Mode.{Mode}
use Rattle.line_rules.specs.declared.rules.Mode.TheVariants as mode
use Rattle.line_rules.specs.declared.rules.Place.{Place}
use Rattle.line_rules.specs.declared.rules.Place.TheVariants as place
use Rattle.line_rules.specs.Rules.{most_line, lowest}
use Rattle.usb_text.specs.declared.head.HeadLine.{HeadLine}
use Rattle.usb_text.specs.declared.head.HeadLine.TheVariants as head
use Rattle.usb_text.specs.Scheduled.{Scheduled}
use Rattle.usb_text.specs.Scheduled as schedule
use Rattle.usb_text.specs.declared.line.Line.{Line}
use Rattle.usb_text.specs.declared.line.Line.TheVariants.{Head, Device, End}
use Rattle.usb_text.specs.Head.{head_text, IsHead, head_of}
use Rattle.usb_text.specs.Line.{line_text, IsLine, schedule_text_of, IsScheduled}
use Rattle.usb_text.specs.Reading.{line_of}
use Rattle.usb_text.specs.Plain.{is_plain}
use Rattle.usb_text.specs.Lines.{StandsIn, of_head, of_schedule, line_in}
use Rattle.usb_text.proofs.Printed.{cut_again, line_again}
use Rattle.usb_text.proofs.Read.{line_only}
use Rattle.usb_text.proofs.Heads.{head_words_are_words, head_again, head_only}
use Rattle.usb_text.proofs.Plain.{schedule_is_plain, schedule_is_short, head_is_plain, head_is_short}
use Rattle.usb_text.proofs.Spelling.{same_schedule, same_head}
use Rattle.usb_text.proofs.Kept.{schedule_keeps, head_keeps}
use Rattle.usb_text.proofs.Broken.{no_row, schedule_clash, head_clash}

-- the text of a line of the head isn't read as a line of the schedule
head_passed : (line : HeadLine) → IsHead line → line_of (head_text line) ≡ None
head_passed (head.Device bytes) h = cut_again (codes "device") (hex bytes.items ∷ []) (head_words_are_words (head.Device bytes) h)
head_passed (head.Config bytes) h = cut_again (codes "config") (hex bytes.items ∷ []) (head_words_are_words (head.Config bytes) h)
head_passed (head.Text index body) h = cut_again (codes "string") (decimal index ∷ hex body.items ∷ []) (head_words_are_words (head.Text index body) h)
head_passed (head.Report bytes) h = cut_again (codes "report") (hex bytes.items ∷ []) (head_words_are_words (head.Report bytes) h)
head_passed head.Begin h = refl

no_text_of_both : (a : HeadLine) (b : Scheduled) → IsHead a → IsScheduled b → head_text a ≡ schedule_text_of b → ⊥
no_text_of_both a b ha hb e = let x = head_passed a ha in let y = line_again b hb in let z = ap line_of e in cc

-- lines with one text are one line, wherever they stand
pub same_line : (a b : Line) → IsLine a → IsLine b → line_text a ≡ line_text b → a ≡ b
same_line (Head a) (Head b) ha hb e = ap Head (same_head a b ha hb e)
same_line (Head a) (Device b) ha hb e = absurd (no_text_of_both a (schedule.Device b) ha hb e)
same_line (Head a) End ha hb e = absurd (no_text_of_both a schedule.End ha tt e)
same_line (Device a) (Head b) ha hb e = absurd (no_text_of_both b (schedule.Device a) hb ha (sym e))
same_line (Device a) (Device b) ha hb e = let s = same_schedule (schedule.Device a) (schedule.Device b) ha hb e in cc
same_line (Device a) End ha hb e = let s = same_schedule (schedule.Device a) schedule.End ha tt e in absurd (cc)
same_line End (Head b) ha hb e = absurd (no_text_of_both b schedule.End hb tt (sym e))
same_line End (Device b) ha hb e = let s = same_schedule schedule.End (schedule.Device b) tt hb e in absurd (cc)
same_line End End ha hb e = refl

pub line_is_plain : (line : Line) → IsLine line → is_plain (line_text line) ≡ true
line_is_plain (Head line) h = head_is_plain line h
line_is_plain (Device line) h = schedule_is_plain (schedule.Device line) h
line_is_plain End h = refl

pub line_is_short : (line : Line) → IsLine line → length (line_text line) ≤ most_line
line_is_short (Head line) h = head_is_short line h
line_is_short (Device line) h = schedule_is_short (schedule.Device line) h
line_is_short End h = omega arith

abbrev Reads : Mode → Place → List ℕ → Line → Type 0
Reads m p bytes line = (bytes ≡ line_text line) × IsLine line × StandsIn m p line

head_reads : (bytes : List ℕ) (r : Option HeadLine) (line : Line) → head_of bytes ≡ r → of_head r ≡ Some line → Reads mode.Device place.Head bytes line
head_reads bytes None line e h = absurd (cc)
head_reads bytes (Some a) line e h =
    let t = head_only bytes a e in
    let same : Head a ≡ line = cc in
    subst (Reads mode.Device place.Head bytes) same (t.0, t.1, tt)

schedule_reads : (bytes : List ℕ) (r : Option Scheduled) (line : Line) → line_of bytes ≡ r → of_schedule r ≡ Some line → Reads mode.Device place.Schedule bytes line
schedule_reads bytes None line e h = absurd (cc)
schedule_reads bytes (Some (schedule.Device a)) line e h =
    let t = line_only bytes (schedule.Device a) e in
    let same : Device a ≡ line = cc in
    subst (Reads mode.Device place.Schedule bytes) same (t.0, t.1, tt)
schedule_reads bytes (Some schedule.End) line e h =
    let t = line_only bytes schedule.End e in
    let same : End ≡ line = cc in
    subst (Reads mode.Device place.Schedule bytes) same (t.0, tt, tt)

-- what is read as a line has its text, and is a line of this mode and place
pub place_only : (m : Mode) (p : Place) (bytes : List ℕ) (line : Line) → line_in m p bytes ≡ Some line → (bytes ≡ line_text line) × IsLine line × StandsIn m p line
place_only mode.Device place.Head bytes line h = head_reads bytes (head_of bytes) line refl h
place_only mode.Device place.Schedule bytes line h = schedule_reads bytes (line_of bytes) line refl h
place_only mode.Host p bytes line h = absurd (cc)
place_only mode.Link p bytes line h = absurd (cc)

-- the text of such a line is read as that line
pub place_again : (m : Mode) (p : Place) (bytes : List ℕ) (line : Line) → IsLine line → StandsIn m p line → bytes ≡ line_text line → line_in m p bytes ≡ Some line
place_again mode.Device place.Head bytes (Head a) h s e = ap of_head (ap head_of e ∙ head_again a h)
place_again mode.Device place.Head bytes (Device a) h s e = absurd s
place_again mode.Device place.Head bytes End h s e = absurd s
place_again mode.Device place.Schedule bytes (Head a) h s e = absurd s
place_again mode.Device place.Schedule bytes (Device a) h s e = ap of_schedule (ap line_of e ∙ line_again (schedule.Device a) h)
place_again mode.Device place.Schedule bytes End h s e = ap of_schedule (ap line_of e)
place_again mode.Host p bytes line h s e = absurd s
place_again mode.Link p bytes line h s e = absurd s

head_line_keeps : (bytes : List ℕ) (r : Option HeadLine) (line : Line) → head_of bytes ≡ r → of_head r ≡ Some line → lowest mode.Device place.Head bytes ≡ None
head_line_keeps bytes None line e h = absurd (cc)
head_line_keeps bytes (Some a) line e h = head_keeps bytes a e

schedule_line_keeps : (bytes : List ℕ) (r : Option Scheduled) (line : Line) → line_of bytes ≡ r → of_schedule r ≡ Some line → lowest mode.Device place.Schedule bytes ≡ None
schedule_line_keeps bytes None line e h = absurd (cc)
schedule_line_keeps bytes (Some a) line e h = schedule_keeps bytes a e

-- and keeps all rules
pub place_keeps : (m : Mode) (p : Place) (bytes : List ℕ) (line : Line) → line_in m p bytes ≡ Some line → lowest m p bytes ≡ None
place_keeps mode.Device place.Head bytes line h = head_line_keeps bytes (head_of bytes) line refl h
place_keeps mode.Device place.Schedule bytes line h = schedule_line_keeps bytes (line_of bytes) line refl h
place_keeps mode.Host p bytes line h = absurd (cc)
place_keeps mode.Link p bytes line h = absurd (cc)

no_head : (r : Option HeadLine) → of_head r ≡ None → r ≡ None
no_head None h = refl
no_head (Some a) h = absurd (cc)

no_schedule : (r : Option Scheduled) → of_schedule r ≡ None → r ≡ None
no_schedule None h = refl
no_schedule (Some (schedule.Device a)) h = absurd (cc)
no_schedule (Some schedule.End) h = absurd (cc)

-- what isn't read as one breaks a rule
pub place_clash : (m : Mode) (p : Place) (bytes : List ℕ) → line_in m p bytes ≡ None → lowest m p bytes ≡ None → ⊥
place_clash mode.Device place.Head bytes h kept = head_clash bytes (no_head (head_of bytes) h) kept
place_clash mode.Device place.Schedule bytes h kept = schedule_clash bytes (no_schedule (line_of bytes) h) kept
place_clash mode.Host place.Head bytes h kept = no_row bytes (pieces bytes) kept
place_clash mode.Host place.Schedule bytes h kept = no_row bytes (pieces bytes) kept
place_clash mode.Link place.Head bytes h kept = no_row bytes (pieces bytes) kept
place_clash mode.Link place.Schedule bytes h kept = no_row bytes (pieces bytes) kept

-- the text of a line keeps all rules where it stands
pub line_keeps : (m : Mode) (p : Place) (a : Line) → IsLine a → StandsIn m p a → lowest m p (line_text a) ≡ None
line_keeps m p a h s = place_keeps m p (line_text a) a (place_again m p (line_text a) a h s refl)

kept_reads : (m : Mode) (p : Place) (bytes : List ℕ) (r : Option Line) → line_in m p bytes ≡ r → lowest m p bytes ≡ None → (a : Line) × (bytes ≡ line_text a) × IsLine a × StandsIn m p a
kept_reads m p bytes None e h = absurd (place_clash m p bytes e h)
kept_reads m p bytes (Some a) e h = let t = place_only m p bytes a e in (a, t.0, t.1, t.2)

-- and what keeps them is the text of a line that stands there
pub kept_is_line : (m : Mode) (p : Place) (bytes : List ℕ) → lowest m p bytes ≡ None → (a : Line) × (bytes ≡ line_text a) × IsLine a × StandsIn m p a
kept_is_line m p bytes h = kept_reads m p bytes (line_in m p bytes) refl h
