-- The text of a line keeps all rules.
use Rattle.std.proofs.Common.{◌≡◌, ℕ, ◌^◌, ◌≤◌, ◌<◌, List, [], ◌∷◌, Bool, true, false, length, Some, None, refl, ap, sym, ◌∙◌, arith, codes, le-leb, subst}
use Rattle.std.specs.List.{list_all}
use Rattle.std.specs.Fmt.{decimal}
use Rattle.std.proofs.lemmas.List.Folds.{list_all-append}
use Rattle.std.proofs.lemmas.Bool.Decides.{nat_tests}
use Rattle.usb_packet.specs.declared.bus.Toggle.{Toggle}
use Rattle.usb_packet.specs.declared.bus.Toggle.TheVariants.{D0, D1}
use Rattle.usb_packet.specs.declared.bus.BusEvent.TheVariants as event
use Rattle.usb_words.specs.Field.{HasBytes, space, pieces, spaced, hex}
use Rattle.usb_words.proofs.Hex.{is_seen, is_word}
use Rattle.usb_words.proofs.Decimal.{and_true}
use Rattle.usb_words.proofs.Spaced.{pieces-spaced}
use Rattle.line_rules.specs.declared.kinds.Class.TheVariants as class
use Rattle.line_rules.specs.declared.rules.Field.TheVariants.{Bytes}
use Rattle.line_rules.specs.declared.rules.Mode.TheVariants as mode
use Rattle.line_rules.specs.declared.rules.Place.TheVariants as place
use Rattle.line_rules.specs.Kinds.{kind_of, head_kind_of, bad, noack}
use Rattle.line_rules.specs.Rules.{rule_1, rule_2, is_printable, first_of, after_first, class_row, schedule_row_of, head_row_of, is_empty, is_number, is_either, lowest}
use Rattle.line_rules.proofs.Judged.{lowest_in}
use Rattle.line_rules.proofs.Kept.{decimal_is_no_empty, hex_is_no_empty, number_kept, bytes_kept}
use Rattle.device_line.specs.declared.line.DevLine.TheVariants.{Bus, Irq, Task, Call}
use Rattle.device_line.specs.declared.call.DevCall.TheVariants as call
use Rattle.call_text.specs.Call.{cdc_words, hid_words, msc_words, midi_words}
use Rattle.call_text.proofs.Printed.{tail, cdc_begins, hid_begins, msc_begins, midi_begins, cdc_words_are_words, hid_words_are_words, msc_words_are_words, midi_words_are_words, cdc_is_short, hid_is_short, msc_is_short, midi_is_short}
use Rattle.call_text.proofs.Kept.{cdc_kept, hid_kept, msc_kept, midi_kept}
use Rattle.usb_text.specs.Scheduled.{Scheduled}
use Rattle.usb_text.specs.Scheduled.{Device, End}
use Rattle.usb_text.specs.declared.head.HeadLine.{HeadLine}
use Rattle.usb_text.specs.declared.head.HeadLine.TheVariants as head
use Rattle.usb_text.specs.Line.{fate_text, toggle_text, schedule_words_of, schedule_text_of, IsScheduled}
use Rattle.usb_text.specs.Head.{head_words, head_text, IsHead, head_of}
use Rattle.usb_text.specs.Reading.{line_of}
use Rattle.usb_text.proofs.Printed.{schedule_words_are_words}
use Rattle.usb_text.proofs.Heads.{head_words_are_words, head_only}
use Rattle.usb_text.proofs.Read.{line_only}
use Rattle.usb_text.proofs.Plain.{schedule_is_short, head_is_short}

seen_is_printable : (b : ℕ) → is_seen b ≡ true → is_printable b ≡ true
seen_is_printable b h = grind (arith, nat_tests)

word_is_printable : (word : List ℕ) → is_word word ≡ true → list_all is_printable word ≡ true
word_is_printable [] h = refl
word_is_printable (b ∷ bs) h = let parts = and_true _ _ h in rw (seen_is_printable b parts.0, word_is_printable bs parts.1) refl

spaced_is_printable : (words : List (List ℕ)) → list_all is_word words ≡ true → rule_2 (spaced words) ≡ true
spaced_is_printable [] h = refl
spaced_is_printable (word ∷ []) h = word_is_printable word (and_true _ _ h).0
spaced_is_printable (word ∷ next ∷ words) h =
    let parts = and_true _ _ h in
    rw (list_all-append is_printable word (space ∷ spaced (next ∷ words)), word_is_printable word parts.0) (spaced_is_printable (next ∷ words) parts.1)

bad_is_no_empty : (ok : Bool) → is_empty (fate_text bad ok) ≡ false
bad_is_no_empty true = refl
bad_is_no_empty false = refl

noack_is_no_empty : (ok : Bool) → is_empty (fate_text noack ok) ≡ false
noack_is_no_empty true = refl
noack_is_no_empty false = refl

toggle_is_no_empty : (toggle : Toggle) → is_empty (toggle_text toggle) ≡ false
toggle_is_no_empty D0 = refl
toggle_is_no_empty D1 = refl

bad_kept : (ok : Bool) → is_either (codes "ok") bad (fate_text bad ok) ≡ true
bad_kept true = refl
bad_kept false = refl

noack_kept : (ok : Bool) → is_either (codes "ok") noack (fate_text noack ok) ≡ true
noack_kept true = refl
noack_kept false = refl

toggle_kept : (toggle : Toggle) → is_number 0 1 (toggle_text toggle) ≡ true
toggle_kept D0 = refl
toggle_kept D1 = refl

line_pieces : (word : List ℕ) (words : List (List ℕ)) → list_all is_word (word ∷ words) ≡ true → pieces (spaced (word ∷ words)) ≡ word ∷ words
line_pieces word words h = let parts = and_true _ _ h in pieces-spaced word words parts.0 parts.1

-- a line that is short and printable is judged by its words
schedule_words : (line : List ℕ) (word : List ℕ) (words : List (List ℕ)) → list_all is_word (word ∷ words) ≡ true → line ≡ spaced (word ∷ words)
    → lowest mode.Device place.Schedule line ≡ lowest_in line (schedule_row_of (kind_of (first_of (word ∷ words))) (first_of (after_first (word ∷ words)))) (word ∷ words)
schedule_words line word words h e = ap (λ p. lowest_in line (schedule_row_of (kind_of (first_of p)) (first_of (after_first p))) p) (ap pieces e ∙ line_pieces word words h)

head_judged : (line : List ℕ) (word : List ℕ) (words : List (List ℕ)) → list_all is_word (word ∷ words) ≡ true → line ≡ spaced (word ∷ words)
    → lowest mode.Device place.Head line ≡ lowest_in line (head_row_of (head_kind_of (first_of (word ∷ words)))) (word ∷ words)
head_judged line word words h e = ap (λ p. lowest_in line (head_row_of (head_kind_of (first_of p))) p) (ap pieces e ∙ line_pieces word words h)

short_kept : (line : List ℕ) → length line ≤ 8400 → rule_1 line ≡ true
short_kept line h = le-leb (length line) 8400 h

small : (n most : ℕ) → n ≤ most → most < 2 ^ 64 → n < 2 ^ 64
small n most h k = omega arith

setup_kept : (line : List ℕ) (addr : ℕ) (bytes : List ℕ) (ok : Bool) → rule_1 line ≡ true → rule_2 line ≡ true → IsScheduled (Device (Bus (event.Setup addr bytes ok)))
    → lowest_in line (schedule_row_of (kind_of (codes "setup")) []) (schedule_words_of (Device (Bus (event.Setup addr bytes ok)))) ≡ None
setup_kept line addr bytes ok short seen h =
    let eight : HasBytes 8 8 bytes = (omega (arith, h.1), omega (arith, h.1), h.2) in
    rw (
      short,
      seen,
      bytes_kept 8 8 bytes eight,
      decimal_is_no_empty addr (small addr 127 h.0 (omega arith)),
      hex_is_no_empty bytes,
      bad_is_no_empty ok,
      number_kept 0 127 addr (omega arith) h.0 (small addr 127 h.0 (omega arith)),
      bad_kept ok,
    ) refl

out_kept : (line : List ℕ) (addr ep : ℕ) (toggle : Toggle) (bytes : List ℕ) (ok : Bool) → rule_1 line ≡ true → rule_2 line ≡ true → IsScheduled (Device (Bus (event.Out addr ep toggle bytes ok)))
    → lowest_in line (schedule_row_of (kind_of (codes "out")) []) (schedule_words_of (Device (Bus (event.Out addr ep toggle bytes ok)))) ≡ None
out_kept line addr ep toggle bytes ok short seen h =
    let few : HasBytes 0 64 bytes = (omega arith, h.2, h.3) in
    rw (
      short,
      seen,
      bytes_kept 0 64 bytes few,
      decimal_is_no_empty addr (small addr 127 h.0 (omega arith)),
      decimal_is_no_empty ep (small ep 15 h.1 (omega arith)),
      toggle_is_no_empty toggle,
      hex_is_no_empty bytes,
      bad_is_no_empty ok,
      number_kept 0 127 addr (omega arith) h.0 (small addr 127 h.0 (omega arith)),
      number_kept 0 15 ep (omega arith) h.1 (small ep 15 h.1 (omega arith)),
      toggle_kept toggle,
      bad_kept ok,
    ) refl

in_kept : (line : List ℕ) (addr ep : ℕ) (ok : Bool) → rule_1 line ≡ true → rule_2 line ≡ true → IsScheduled (Device (Bus (event.In addr ep ok)))
    → lowest_in line (schedule_row_of (kind_of (codes "in")) []) (schedule_words_of (Device (Bus (event.In addr ep ok)))) ≡ None
in_kept line addr ep ok short seen h =
    rw (
      short,
      seen,
      decimal_is_no_empty addr (small addr 127 h.0 (omega arith)),
      decimal_is_no_empty ep (small ep 15 h.1 (omega arith)),
      noack_is_no_empty ok,
      number_kept 0 127 addr (omega arith) h.0 (small addr 127 h.0 (omega arith)),
      number_kept 0 15 ep (omega arith) h.1 (small ep 15 h.1 (omega arith)),
      noack_kept ok,
    ) refl

pub text_keeps : (line : Scheduled) → IsScheduled line → lowest mode.Device place.Schedule (schedule_text_of line) ≡ None
text_keeps (Device (Bus event.Reset)) h = refl
text_keeps (Device (Bus (event.Setup addr bytes ok))) h =
    let v : Scheduled = Device (Bus (event.Setup addr bytes ok)) in
    schedule_words (schedule_text_of v) (codes "setup") (decimal addr ∷ hex bytes ∷ fate_text bad ok ∷ []) (schedule_words_are_words v h) refl
    ∙ setup_kept (schedule_text_of v) addr bytes ok (short_kept (schedule_text_of v) (schedule_is_short v h)) (spaced_is_printable (schedule_words_of v) (schedule_words_are_words v h)) h
text_keeps (Device (Bus (event.Out addr ep toggle bytes ok))) h =
    let v : Scheduled = Device (Bus (event.Out addr ep toggle bytes ok)) in
    schedule_words (schedule_text_of v) (codes "out") (decimal addr ∷ decimal ep ∷ toggle_text toggle ∷ hex bytes ∷ fate_text bad ok ∷ []) (schedule_words_are_words v h) refl
    ∙ out_kept (schedule_text_of v) addr ep toggle bytes ok (short_kept (schedule_text_of v) (schedule_is_short v h)) (spaced_is_printable (schedule_words_of v) (schedule_words_are_words v h)) h
text_keeps (Device (Bus (event.In addr ep ok))) h =
    let v : Scheduled = Device (Bus (event.In addr ep ok)) in
    schedule_words (schedule_text_of v) (codes "in") (decimal addr ∷ decimal ep ∷ fate_text noack ok ∷ []) (schedule_words_are_words v h) refl
    ∙ in_kept (schedule_text_of v) addr ep ok (short_kept (schedule_text_of v) (schedule_is_short v h)) (spaced_is_printable (schedule_words_of v) (schedule_words_are_words v h)) h
text_keeps (Device Irq) h = refl
text_keeps (Device Task) h = refl
text_keeps (Device (Call call.State)) h = refl
text_keeps (Device (Call (call.Cdc c))) h =
    let v : Scheduled = Device (Call (call.Cdc c)) in
    let words : list_all is_word (cdc_words c) ≡ true = cdc_words_are_words c h in
    schedule_words (schedule_text_of v) (codes "cdc") (tail (cdc_words c)) (subst (λ (ws : List (List ℕ)). list_all is_word ws ≡ true) (cdc_begins c) words) (ap spaced (cdc_begins c))
    ∙ ap (lowest_in (schedule_text_of v) (class_row class.Cdc (first_of (tail (cdc_words c))))) (sym (cdc_begins c))
    ∙ cdc_kept (schedule_text_of v) c (short_kept (schedule_text_of v) (cdc_is_short c h)) (spaced_is_printable (cdc_words c) words) h
text_keeps (Device (Call (call.Hid c))) h =
    let v : Scheduled = Device (Call (call.Hid c)) in
    let words : list_all is_word (hid_words c) ≡ true = hid_words_are_words c h in
    schedule_words (schedule_text_of v) (codes "hid") (tail (hid_words c)) (subst (λ (ws : List (List ℕ)). list_all is_word ws ≡ true) (hid_begins c) words) (ap spaced (hid_begins c))
    ∙ ap (lowest_in (schedule_text_of v) (class_row class.Hid (first_of (tail (hid_words c))))) (sym (hid_begins c))
    ∙ hid_kept (schedule_text_of v) c (short_kept (schedule_text_of v) (hid_is_short c h)) (spaced_is_printable (hid_words c) words) h
text_keeps (Device (Call (call.Msc c))) h =
    let v : Scheduled = Device (Call (call.Msc c)) in
    let words : list_all is_word (msc_words c) ≡ true = msc_words_are_words c in
    schedule_words (schedule_text_of v) (codes "msc") (tail (msc_words c)) (subst (λ (ws : List (List ℕ)). list_all is_word ws ≡ true) (msc_begins c) words) (ap spaced (msc_begins c))
    ∙ ap (lowest_in (schedule_text_of v) (class_row class.Msc (first_of (tail (msc_words c))))) (sym (msc_begins c))
    ∙ msc_kept (schedule_text_of v) c (short_kept (schedule_text_of v) (msc_is_short c)) (spaced_is_printable (msc_words c) words)
text_keeps (Device (Call (call.Midi c))) h =
    let v : Scheduled = Device (Call (call.Midi c)) in
    let words : list_all is_word (midi_words c) ≡ true = midi_words_are_words c h in
    schedule_words (schedule_text_of v) (codes "midi") (tail (midi_words c)) (subst (λ (ws : List (List ℕ)). list_all is_word ws ≡ true) (midi_begins c) words) (ap spaced (midi_begins c))
    ∙ ap (lowest_in (schedule_text_of v) (class_row class.Midi (first_of (tail (midi_words c))))) (sym (midi_begins c))
    ∙ midi_kept (schedule_text_of v) c (short_kept (schedule_text_of v) (midi_is_short c h)) (spaced_is_printable (midi_words c) words) h
text_keeps End h = refl

-- what is read as a line of the schedule keeps all rules
pub schedule_keeps : (bytes : List ℕ) (line : Scheduled) → line_of bytes ≡ Some line → lowest mode.Device place.Schedule bytes ≡ None
schedule_keeps bytes line h = let r = line_only bytes line h in ap (lowest mode.Device place.Schedule) r.0 ∙ text_keeps line r.1

-- one HEX after the name
hex_line_kept : (line bytes : List ℕ) (name : List ℕ) (most : ℕ) → rule_1 line ≡ true → rule_2 line ≡ true → is_empty name ≡ false → HasBytes 1 most bytes
    → lowest_in line (Some (Bytes 1 most ∷ [])) (name ∷ hex bytes ∷ []) ≡ None
hex_line_kept line bytes name most short seen named h =
    rw (short, seen, bytes_kept 1 most bytes h, named, hex_is_no_empty bytes) refl

text_line_kept : (line : List ℕ) (index : ℕ) (body : List ℕ) → rule_1 line ≡ true → rule_2 line ≡ true → 1 ≤ index → index ≤ 255 → HasBytes 2 60 body
    → lowest_in line (head_row_of (head_kind_of (codes "string"))) (codes "string" ∷ decimal index ∷ hex body ∷ []) ≡ None
text_line_kept line index body short seen low high h =
    rw (
      short,
      seen,
      bytes_kept 2 60 body h,
      decimal_is_no_empty index (small index 255 high (omega arith)),
      hex_is_no_empty body,
      number_kept 1 255 index low high (small index 255 high (omega arith)),
    ) refl

pub head_text_keeps : (line : HeadLine) → IsHead line → lowest mode.Device place.Head (head_text line) ≡ None
head_text_keeps (head.Device bytes) h =
    let v : HeadLine = head.Device bytes in
    head_judged (head_text v) (codes "device") (hex bytes.items ∷ []) (head_words_are_words v h) refl
    ∙ hex_line_kept (head_text v) bytes.items (codes "device") 64 (short_kept (head_text v) (head_is_short v h)) (spaced_is_printable (head_words v) (head_words_are_words v h)) refl h
head_text_keeps (head.Config bytes) h =
    let v : HeadLine = head.Config bytes in
    head_judged (head_text v) (codes "config") (hex bytes.items ∷ []) (head_words_are_words v h) refl
    ∙ hex_line_kept (head_text v) bytes.items (codes "config") 600 (short_kept (head_text v) (head_is_short v h)) (spaced_is_printable (head_words v) (head_words_are_words v h)) refl h
head_text_keeps (head.Text index body) h =
    let v : HeadLine = head.Text index body in
    head_judged (head_text v) (codes "string") (decimal index ∷ hex body.items ∷ []) (head_words_are_words v h) refl
    ∙ text_line_kept (head_text v) index body.items (short_kept (head_text v) (head_is_short v h)) (spaced_is_printable (head_words v) (head_words_are_words v h)) h.0 h.1 h.2
head_text_keeps (head.Report bytes) h =
    let v : HeadLine = head.Report bytes in
    head_judged (head_text v) (codes "report") (hex bytes.items ∷ []) (head_words_are_words v h) refl
    ∙ hex_line_kept (head_text v) bytes.items (codes "report") 512 (short_kept (head_text v) (head_is_short v h)) (spaced_is_printable (head_words v) (head_words_are_words v h)) refl h
head_text_keeps head.Begin h = refl

pub head_keeps : (bytes : List ℕ) (line : HeadLine) → head_of bytes ≡ Some line → lowest mode.Device place.Head bytes ≡ None
head_keeps bytes line h = let r = head_only bytes line h in ap (lowest mode.Device place.Head) r.0 ∙ head_text_keeps line r.1
