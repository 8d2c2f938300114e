-- The text of a line is read as that line.
use Rattle.std.proofs.Common.{◌≡◌, ℕ, ◌≤◌, ◌^◌, ◌<◌, List, [], ◌∷◌, Bool, true, false, Some, length, refl, ap, ◌∙◌, arith, codes, subst}
use Rattle.std.specs.List.{list_all}
use Rattle.std.specs.Option.{option_map}
use Rattle.std.specs.Fmt.{decimal}
use Rattle.std.proofs.lemmas.Bool.Decides.{nat_tests}
use Rattle.usb_packet.specs.declared.bus.Toggle.{Toggle}
use Rattle.usb_packet.specs.declared.bus.Toggle.TheVariants.{D0, D1}
use Rattle.usb_packet.specs.declared.bus.BusEvent.TheVariants as event
use Rattle.usb_words.specs.Field.{spaced, hex, exactly, fate_of}
use Rattle.usb_words.proofs.Hex.{is_word, hex_again, hex_is_word}
use Rattle.usb_words.proofs.Decimal.{and_true, number_again, decimal_is_word}
use Rattle.usb_words.proofs.Spaced.{pieces-spaced}
use Rattle.line_rules.specs.declared.kinds.Kind.TheVariants as kind
use Rattle.line_rules.specs.declared.kinds.Class.{Class}
use Rattle.line_rules.specs.declared.kinds.Class.TheVariants as class
use Rattle.line_rules.specs.Kinds.{kind_of, bad, noack}
use Rattle.device_line.specs.declared.line.DevLine.TheVariants.{Bus, Irq, Task, Call}
use Rattle.device_line.specs.declared.call.DevCall.{DevCall}
use Rattle.device_line.specs.declared.call.DevCall.TheVariants as call
use Rattle.call_text.specs.Call.{cdc_words, hid_words, msc_words, midi_words, call_words}
use Rattle.call_text.specs.Reading.{class_call}
use Rattle.call_text.proofs.Printed.{tail, cdc_begins, hid_begins, msc_begins, midi_begins, cdc_words_are_words, hid_words_are_words, msc_words_are_words, midi_words_are_words, cdc_again, hid_again, msc_again, midi_again}
use Rattle.usb_text.specs.Scheduled.{Scheduled}
use Rattle.usb_text.specs.Scheduled.{Device, End}
use Rattle.usb_text.specs.Line.{fate_text, toggle_text, schedule_words_of, schedule_text_of, IsScheduled}
use Rattle.usb_text.specs.Reading.{toggle_of, of_call, fields_line, words_line, line_of}

fate_is_word : (other : List ℕ) (ok : Bool) → is_word other ≡ true → is_word (fate_text other ok) ≡ true
fate_is_word other true h = refl
fate_is_word other false h = h

bad_again : (ok : Bool) → fate_of bad (fate_text bad ok) ≡ Some ok
bad_again true = refl
bad_again false = refl

noack_again : (ok : Bool) → fate_of noack (fate_text noack ok) ≡ Some ok
noack_again true = refl
noack_again false = refl

toggle_is_word : (toggle : Toggle) → is_word (toggle_text toggle) ≡ true
toggle_is_word D0 = refl
toggle_is_word D1 = refl

toggle_again : (toggle : Toggle) → toggle_of (toggle_text toggle) ≡ Some toggle
toggle_again D0 = refl
toggle_again D1 = refl

exactly_same : (n : ℕ) (bytes : List ℕ) → length bytes ≡ n → exactly n (Some bytes) ≡ Some bytes
exactly_same n bytes e = grind (arith, nat_tests)

small : (n most : ℕ) → n ≤ most → most < 2 ^ 64 → n < 2 ^ 64
small n most h k = omega arith

-- no space stands in a word of a line
pub schedule_words_are_words : (line : Scheduled) → IsScheduled line → list_all is_word (schedule_words_of line) ≡ true
schedule_words_are_words (Device (Bus event.Reset)) h = refl
schedule_words_are_words (Device (Bus (event.Setup addr bytes ok))) h =
    rw (decimal_is_word addr (small addr 127 h.0 (omega arith)), hex_is_word bytes h.2, fate_is_word bad ok refl) refl
schedule_words_are_words (Device (Bus (event.Out addr ep toggle bytes ok))) h =
    rw (
      decimal_is_word addr (small addr 127 h.0 (omega arith)),
      decimal_is_word ep (small ep 15 h.1 (omega arith)),
      toggle_is_word toggle,
      hex_is_word bytes h.3,
      fate_is_word bad ok refl,
    ) refl
schedule_words_are_words (Device (Bus (event.In addr ep ok))) h =
    rw (decimal_is_word addr (small addr 127 h.0 (omega arith)), decimal_is_word ep (small ep 15 h.1 (omega arith)), fate_is_word noack ok refl) refl
schedule_words_are_words (Device Irq) h = refl
schedule_words_are_words (Device Task) h = refl
schedule_words_are_words (Device (Call call.State)) h = refl
schedule_words_are_words (Device (Call (call.Cdc c))) h = cdc_words_are_words c h
schedule_words_are_words (Device (Call (call.Hid c))) h = hid_words_are_words c h
schedule_words_are_words (Device (Call (call.Msc c))) h = msc_words_are_words c
schedule_words_are_words (Device (Call (call.Midi c))) h = midi_words_are_words c h
schedule_words_are_words End h = refl

-- the text of words is read by those words
pub cut_again : (word : List ℕ) (words : List (List ℕ)) → list_all is_word (word ∷ words) ≡ true → line_of (spaced (word ∷ words)) ≡ words_line (word ∷ words)
cut_again word words h = let parts = and_true _ _ h in ap words_line (pieces-spaced word words parts.0 parts.1)

setup_again : (addr : ℕ) (bytes : List ℕ) (ok : Bool) → IsScheduled (Device (Bus (event.Setup addr bytes ok)))
    → line_of (schedule_text_of (Device (Bus (event.Setup addr bytes ok)))) ≡ Some (Device (Bus (event.Setup addr bytes ok)))
setup_again addr bytes ok h =
    let few : length bytes ≤ 8 = omega (arith, h.1) in
    cut_again (codes "setup") (decimal addr ∷ hex bytes ∷ fate_text bad ok ∷ []) (schedule_words_are_words (Device (Bus (event.Setup addr bytes ok))) h)
    ∙ rw (number_again addr 127 h.0 (omega arith), hex_again 8 bytes h.2 few, exactly_same 8 bytes h.1, bad_again ok) refl

out_again : (addr ep : ℕ) (toggle : Toggle) (bytes : List ℕ) (ok : Bool) → IsScheduled (Device (Bus (event.Out addr ep toggle bytes ok)))
    → line_of (schedule_text_of (Device (Bus (event.Out addr ep toggle bytes ok)))) ≡ Some (Device (Bus (event.Out addr ep toggle bytes ok)))
out_again addr ep toggle bytes ok h =
    cut_again (codes "out") (decimal addr ∷ decimal ep ∷ toggle_text toggle ∷ hex bytes ∷ fate_text bad ok ∷ []) (schedule_words_are_words (Device (Bus (event.Out addr ep toggle bytes ok))) h)
    ∙ rw (number_again addr 127 h.0 (omega arith), number_again ep 15 h.1 (omega arith), toggle_again toggle, hex_again 64 bytes h.3 h.2, bad_again ok) refl

in_again : (addr ep : ℕ) (ok : Bool) → IsScheduled (Device (Bus (event.In addr ep ok)))
    → line_of (schedule_text_of (Device (Bus (event.In addr ep ok)))) ≡ Some (Device (Bus (event.In addr ep ok)))
in_again addr ep ok h =
    cut_again (codes "in") (decimal addr ∷ decimal ep ∷ fate_text noack ok ∷ []) (schedule_words_are_words (Device (Bus (event.In addr ep ok))) h)
    ∙ rw (number_again addr 127 h.0 (omega arith), number_again ep 15 h.1 (omega arith), noack_again ok) refl

call_again : (name : List ℕ) (words : List (List ℕ)) (class : Class) (call : DevCall) → call_words call ≡ name ∷ words → list_all is_word (call_words call) ≡ true
    → kind_of name ≡ Some (kind.Class class) → class_call class words ≡ Some call
    → line_of (schedule_text_of (Device (Call call))) ≡ Some (Device (Call call))
call_again name words class call e h named read =
    ap (λ ws. line_of (spaced ws)) e
    ∙ cut_again name words (subst (λ (ws : List (List ℕ)). list_all is_word ws ≡ true) e h)
    ∙ ap (λ k. fields_line k words) named
    ∙ ap of_call read

pub line_again : (line : Scheduled) → IsScheduled line → line_of (schedule_text_of line) ≡ Some line
line_again (Device (Bus event.Reset)) h = refl
line_again (Device (Bus (event.Setup addr bytes ok))) h = setup_again addr bytes ok h
line_again (Device (Bus (event.Out addr ep toggle bytes ok))) h = out_again addr ep toggle bytes ok h
line_again (Device (Bus (event.In addr ep ok))) h = in_again addr ep ok h
line_again (Device Irq) h = refl
line_again (Device Task) h = refl
line_again (Device (Call call.State)) h = refl
line_again (Device (Call (call.Cdc c))) h =
    call_again (codes "cdc") (tail (cdc_words c)) class.Cdc (call.Cdc c) (cdc_begins c) (cdc_words_are_words c h) refl (ap (option_map (λ d. call.Cdc d)) (cdc_again c h))
line_again (Device (Call (call.Hid c))) h =
    call_again (codes "hid") (tail (hid_words c)) class.Hid (call.Hid c) (hid_begins c) (hid_words_are_words c h) refl (ap (option_map (λ d. call.Hid d)) (hid_again c h))
line_again (Device (Call (call.Msc c))) h =
    call_again (codes "msc") (tail (msc_words c)) class.Msc (call.Msc c) (msc_begins c) (msc_words_are_words c) refl (ap (option_map (λ d. call.Msc d)) (msc_again c))
line_again (Device (Call (call.Midi c))) h =
    call_again (codes "midi") (tail (midi_words c)) class.Midi (call.Midi c) (midi_begins c) (midi_words_are_words c h) refl (ap (option_map (λ d. call.Midi d)) (midi_again c h))
line_again End h = refl
