-- No newline stands in a line's text, and it is short.
use Rattle.std.proofs.Common.{◌≡◌, ℕ, ◌+◌, ◌≤◌, List, [], ◌∷◌, ◌++◌, Bool, true, false, not, eqb, length, refl, ◌∙◌, arith, codes, length-append}
use Rattle.std.specs.List.{list_all}
use Rattle.std.specs.Fmt.{decimal}
use Rattle.std.proofs.lemmas.List.Folds.{list_all-append}
use Rattle.std.proofs.lemmas.Bool.Decides.{nat_tests}
use Rattle.usb_packet.specs.declared.bus.Toggle.{Toggle}
use Rattle.usb_packet.specs.declared.bus.Toggle.TheVariants.{D0, D1}
use Rattle.usb_packet.specs.declared.bus.BusEvent.TheVariants as event
use Rattle.usb_words.specs.Field.{space, spaced, hex}
use Rattle.usb_words.proofs.Hex.{is_seen, is_word}
use Rattle.usb_words.proofs.Decimal.{and_true}
use Rattle.usb_words.proofs.Lengths.{length-hex, length-number, length-two, length-three}
use Rattle.line_rules.specs.Kinds.{bad, noack}
use Rattle.line_rules.specs.Rules.{most_line}
use Rattle.device_line.specs.declared.line.DevLine.TheVariants.{Bus, Irq, Task, Call}
use Rattle.device_line.specs.declared.call.DevCall.TheVariants as call
use Rattle.call_text.proofs.Printed.{cdc_is_short, hid_is_short, msc_is_short, midi_is_short}
use Rattle.usb_text.specs.Scheduled.{Scheduled}
use Rattle.usb_text.specs.Scheduled.{Device, End}
use Rattle.usb_text.specs.declared.head.HeadLine.{HeadLine}
use Rattle.usb_text.specs.declared.head.HeadLine.TheVariants as head
use Rattle.usb_text.specs.Line.{newline, fate_text, toggle_text, schedule_words_of, schedule_text_of, IsScheduled}
use Rattle.usb_text.specs.Head.{head_words, head_text, IsHead}
use Rattle.usb_text.specs.Plain.{is_plain}
use Rattle.usb_text.proofs.Printed.{schedule_words_are_words}
use Rattle.usb_text.proofs.Heads.{head_words_are_words}

above_newline : (b : ℕ) → is_seen b ≡ true → not (eqb b newline) ≡ true
above_newline b h = grind (arith, nat_tests)

word_is_plain : (word : List ℕ) → is_word word ≡ true → is_plain word ≡ true
word_is_plain [] h = refl
word_is_plain (b ∷ bs) h = let parts = and_true _ _ h in rw (above_newline b parts.0, word_is_plain bs parts.1) refl

pub spaced_is_plain : (words : List (List ℕ)) → list_all is_word words ≡ true → is_plain (spaced words) ≡ true
spaced_is_plain [] h = refl
spaced_is_plain (word ∷ []) h = word_is_plain word (and_true _ _ h).0
spaced_is_plain (word ∷ next ∷ words) h =
    let parts = and_true _ _ h in
    rw (list_all-append (λ b. not (eqb b newline)) word (space ∷ spaced (next ∷ words)), word_is_plain word parts.0) (spaced_is_plain (next ∷ words) parts.1)

pub schedule_is_plain : (line : Scheduled) → IsScheduled line → is_plain (schedule_text_of line) ≡ true
schedule_is_plain line h = spaced_is_plain (schedule_words_of line) (schedule_words_are_words line h)

pub head_is_plain : (line : HeadLine) → IsHead line → is_plain (head_text line) ≡ true
head_is_plain line h = spaced_is_plain (head_words line) (head_words_are_words line h)

length-fate : (other : List ℕ) (ok : Bool) → length other ≤ 5 → length (fate_text other ok) ≤ 5
length-fate other true h = omega arith
length-fate other false h = h

length-toggle : (toggle : Toggle) → length (toggle_text toggle) ≡ 1
length-toggle D0 = refl
length-toggle D1 = refl

length-four : (a b c d : List ℕ) → length (spaced (a ∷ b ∷ c ∷ d ∷ [])) ≡ length a + (1 + (length b + (1 + (length c + (1 + length d)))))
length-four a b c d = length-append a _ ∙ omega (arith, length-append b (space ∷ (c ++ (space ∷ d))), length-append c (space ∷ d))

length-six : (a b c d e f : List ℕ) → length (spaced (a ∷ b ∷ c ∷ d ∷ e ∷ f ∷ [])) ≡ length a + (1 + (length b + (1 + (length c + (1 + (length d + (1 + (length e + (1 + length f)))))))))
length-six a b c d e f = length-append a _ ∙ omega (arith, length-append b (space ∷ spaced (c ∷ d ∷ e ∷ f ∷ [])), length-four c d e f)

pub schedule_is_short : (line : Scheduled) → IsScheduled line → length (schedule_text_of line) ≤ most_line
schedule_is_short (Device (Bus event.Reset)) h = omega arith
schedule_is_short (Device (Bus (event.Setup addr bytes ok))) h =
    omega (arith, length-four (codes "setup") (decimal addr) (hex bytes) (fate_text bad ok), length-number addr 127 h.0 (omega arith), length-hex bytes, h.1, length-fate bad ok (omega arith))
schedule_is_short (Device (Bus (event.Out addr ep toggle bytes ok))) h =
    omega (
      arith,
      length-six (codes "out") (decimal addr) (decimal ep) (toggle_text toggle) (hex bytes) (fate_text bad ok),
      length-number addr 127 h.0 (omega arith),
      length-number ep 15 h.1 (omega arith),
      length-toggle toggle,
      length-hex bytes,
      h.2,
      length-fate bad ok (omega arith),
    )
schedule_is_short (Device (Bus (event.In addr ep ok))) h =
    omega (
      arith,
      length-four (codes "in") (decimal addr) (decimal ep) (fate_text noack ok),
      length-number addr 127 h.0 (omega arith),
      length-number ep 15 h.1 (omega arith),
      length-fate noack ok (omega arith),
    )
schedule_is_short (Device Irq) h = omega arith
schedule_is_short (Device Task) h = omega arith
schedule_is_short (Device (Call call.State)) h = omega arith
schedule_is_short (Device (Call (call.Cdc c))) h = cdc_is_short c h
schedule_is_short (Device (Call (call.Hid c))) h = hid_is_short c h
schedule_is_short (Device (Call (call.Msc c))) h = msc_is_short c
schedule_is_short (Device (Call (call.Midi c))) h = midi_is_short c h
schedule_is_short End h = omega arith

pub head_is_short : (line : HeadLine) → IsHead line → length (head_text line) ≤ most_line
head_is_short (head.Device bytes) h = omega (arith, length-two (codes "device") (hex bytes.items), length-hex bytes.items, h.1)
head_is_short (head.Config bytes) h = omega (arith, length-two (codes "config") (hex bytes.items), length-hex bytes.items, h.1)
head_is_short (head.Text index body) h =
    omega (arith, length-three (codes "string") (decimal index) (hex body.items), length-number index 255 h.1 (omega arith), length-hex body.items, h.2.1)
head_is_short (head.Report bytes) h = omega (arith, length-two (codes "report") (hex bytes.items), length-hex bytes.items, h.1)
head_is_short head.Begin h = omega arith
