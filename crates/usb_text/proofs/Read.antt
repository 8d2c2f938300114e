-- What is read as a line has that line's text.
use Rattle.std.proofs.Common.{◌≡◌, ℕ, List, [], ◌∷◌, Bool, true, false, Option, Some, None, length, refl, ap, sym, ◌∙◌, arith, codes, cond, eqb, inl, inr, subst}
use Rattle.std.specs.Str.{bytes_eq}
use Rattle.std.specs.Cmp.Lexicographic.{same_text}
use Rattle.std.proofs.lemmas.Bool.Decides.{nat_tests}
use Rattle.std.proofs.lemmas.Option.{cond_some}
use Rattle.std.proofs.lemmas.List.Splits.{join_with_byte-slice_split}
use Rattle.usb_packet.specs.declared.bus.Toggle.{Toggle}
use Rattle.usb_packet.specs.declared.bus.Toggle.TheVariants.{D0, D1}
use Rattle.usb_packet.specs.declared.bus.BusEvent.TheVariants as event
use Rattle.usb_words.specs.Field.{space, pieces, spaced, number_of, bytes_in, exactly, fate_of}
use Rattle.usb_words.proofs.Hex.{hex_only}
use Rattle.usb_words.proofs.Decimal.{number_only}
use Rattle.line_rules.specs.declared.kinds.Kind.{Kind}
use Rattle.line_rules.specs.declared.kinds.Kind.TheVariants as kind
use Rattle.line_rules.specs.declared.kinds.Class.{Class}
use Rattle.line_rules.specs.Kinds.{kind_of, bad, noack}
use Rattle.line_rules.proofs.Names.{class_name, name_of, kind_only}
use Rattle.usb_words.proofs.Alone.{chosen}
use Rattle.device_line.specs.declared.line.DevLine.TheVariants.{Bus, Irq, Task, Call}
use Rattle.device_line.specs.declared.call.DevCall.{DevCall}
use Rattle.device_line.specs.declared.call.DevCall.TheVariants as call
use Rattle.call_text.specs.Reading.{class_call}
use Rattle.call_text.proofs.Only.{class_call_only}
use Rattle.usb_text.specs.Scheduled.{Scheduled}
use Rattle.usb_text.specs.Scheduled.{Device, End}
use Rattle.usb_text.specs.Line.{fate_text, toggle_text, most_address, most_endpoint, schedule_words_of, schedule_text_of, IsScheduled}
use Rattle.usb_text.specs.Reading.{three, five, toggle_of, setup_line, setup_words, out_line, out_words, in_line, in_words, alone, of_call, fields_line, words_line, line_of}
use Rattle.usb_text.proofs.Printed.{line_again}

fate_only : (other word : List ℕ) (ok : Bool) → fate_of other word ≡ Some ok → word ≡ fate_text other ok
fate_only other word ok h =
    elim (chosen (bytes_eq word (codes "ok")) true ok (cond (bytes_eq word other) (Some false) None) h) [
      | inl c ↦ same_text word (codes "ok") (sym c.0) ∙ ap (fate_text other) c.1
      | inr o ↦ let p = cond_some (bytes_eq word other) false ok o in same_text word other (sym p.0) ∙ ap (fate_text other) p.1
    ]

toggle_only : (word : List ℕ) (toggle : Toggle) → toggle_of word ≡ Some toggle → word ≡ toggle_text toggle
toggle_only word toggle h =
    elim (chosen (bytes_eq word (codes "0")) D0 toggle (cond (bytes_eq word (codes "1")) (Some D1) None) h) [
      | inl c ↦ same_text word (codes "0") (sym c.0) ∙ ap toggle_text c.1
      | inr o ↦ let p = cond_some (bytes_eq word (codes "1")) D1 toggle o in same_text word (codes "1") (sym p.0) ∙ ap toggle_text p.1
    ]

exactly_only : (n : ℕ) (r : Option (List ℕ)) (bytes : List ℕ) → exactly n r ≡ Some bytes → (r ≡ Some bytes) × (length bytes ≡ n)
exactly_only n None bytes h = absurd (cc)
exactly_only n (Some bs) bytes h =
    let p = cond_some (eqb (length bs) n) bs bytes h in
    let e : length bs ≡ n = grind (arith, nat_tests, p.0) in
    (ap Some p.1, ap length (sym p.1) ∙ e)

three_only : (words : List (List ℕ)) (w : List ℕ × List ℕ × List ℕ) → three words ≡ Some w → words ≡ w.0 ∷ w.1 ∷ w.2 ∷ []
three_only [] w h = absurd (cc)
three_only (a ∷ []) w h = absurd (cc)
three_only (a ∷ b ∷ []) w h = absurd (cc)
three_only (a ∷ b ∷ c ∷ []) w h = let P : List ℕ × List ℕ × List ℕ → Type 0 = λ v. a ∷ b ∷ c ∷ [] ≡ v.0 ∷ v.1 ∷ v.2 ∷ [] in let e : (a, b, c) ≡ w = cc in subst P e refl
three_only (a ∷ b ∷ c ∷ d ∷ ds) w h = absurd (cc)

five_only : (words : List (List ℕ)) (w : List ℕ × List ℕ × List ℕ × List ℕ × List ℕ) → five words ≡ Some w
    → words ≡ w.0 ∷ w.1 ∷ w.2 ∷ w.3 ∷ w.4 ∷ []
five_only [] w h = absurd (cc)
five_only (a ∷ []) w h = absurd (cc)
five_only (a ∷ b ∷ []) w h = absurd (cc)
five_only (a ∷ b ∷ c ∷ []) w h = absurd (cc)
five_only (a ∷ b ∷ c ∷ d ∷ []) w h = absurd (cc)
five_only (a ∷ b ∷ c ∷ d ∷ e ∷ []) w h =
    let P : List ℕ × List ℕ × List ℕ × List ℕ × List ℕ → Type 0 = λ v. a ∷ b ∷ c ∷ d ∷ e ∷ [] ≡ v.0 ∷ v.1 ∷ v.2 ∷ v.3 ∷ v.4 ∷ [] in
    let same : (a, b, c, d, e) ≡ w = cc in subst P same refl
five_only (a ∷ b ∷ c ∷ d ∷ e ∷ f ∷ fs) w h = absurd (cc)

-- the words are those of the line, and its fields are in range
abbrev Reads : List (List ℕ) → Scheduled → Type 0
Reads words line = (words ≡ schedule_words_of line) × IsScheduled line

setup_fields_only : (w : List ℕ × List ℕ × List ℕ) (x : Option ℕ) (y : Option (List ℕ)) (z : Option Bool) (line : Scheduled)
    → x ≡ number_of most_address w.0 → y ≡ exactly 8 (bytes_in 8 w.1) → z ≡ fate_of bad w.2
    → setup_line x y z ≡ Some line → Reads (codes "setup" ∷ w.0 ∷ w.1 ∷ w.2 ∷ []) line
setup_fields_only w None y z line ex ey ez h = absurd (cc)
setup_fields_only w (Some addr) None z line ex ey ez h = absurd (cc)
setup_fields_only w (Some addr) (Some bytes) None line ex ey ez h = absurd (cc)
setup_fields_only w (Some addr) (Some bytes) (Some ok) line ex ey ez h =
    let a = number_only w.0 addr 127 (omega arith) (sym ex) in
    let b = exactly_only 8 (bytes_in 8 w.1) bytes (sym ey) in
    let c = hex_only 8 w.1 bytes b.0 in
    let d = fate_only bad w.2 ok (sym ez) in
    let e : Device (Bus (event.Setup addr bytes ok)) ≡ line = cc in
    subst (Reads (codes "setup" ∷ w.0 ∷ w.1 ∷ w.2 ∷ [])) e (rw (a.0, c.0, d) refl, (a.1, b.1, c.1))

out_fields_only : (w : List ℕ × List ℕ × List ℕ × List ℕ × List ℕ) (x y : Option ℕ) (t : Option Toggle) (p : Option (List ℕ)) (z : Option Bool) (line : Scheduled)
    → x ≡ number_of most_address w.0 → y ≡ number_of most_endpoint w.1 → t ≡ toggle_of w.2 → p ≡ bytes_in 64 w.3 → z ≡ fate_of bad w.4
    → out_line x y t p z ≡ Some line → Reads (codes "out" ∷ w.0 ∷ w.1 ∷ w.2 ∷ w.3 ∷ w.4 ∷ []) line
out_fields_only w None y t p z line ex ey et ep ez h = absurd (cc)
out_fields_only w (Some addr) None t p z line ex ey et ep ez h = absurd (cc)
out_fields_only w (Some addr) (Some ep) None p z line ex ey et ep' ez h = absurd (cc)
out_fields_only w (Some addr) (Some ep) (Some toggle) None z line ex ey et ep' ez h = absurd (cc)
out_fields_only w (Some addr) (Some ep) (Some toggle) (Some bytes) None line ex ey et ep' ez h = absurd (cc)
out_fields_only w (Some addr) (Some ep) (Some toggle) (Some bytes) (Some ok) line ex ey et ep' ez h =
    let a = number_only w.0 addr 127 (omega arith) (sym ex) in
    let b = number_only w.1 ep 15 (omega arith) (sym ey) in
    let t = toggle_only w.2 toggle (sym et) in
    let c = hex_only 64 w.3 bytes (sym ep') in
    let d = fate_only bad w.4 ok (sym ez) in
    let e : Device (Bus (event.Out addr ep toggle bytes ok)) ≡ line = cc in
    subst (Reads (codes "out" ∷ w.0 ∷ w.1 ∷ w.2 ∷ w.3 ∷ w.4 ∷ [])) e (rw (a.0, b.0, t, c.0, d) refl, (a.1, b.1, c.2, c.1))

in_fields_only : (w : List ℕ × List ℕ × List ℕ) (x y : Option ℕ) (z : Option Bool) (line : Scheduled)
    → x ≡ number_of most_address w.0 → y ≡ number_of most_endpoint w.1 → z ≡ fate_of noack w.2
    → in_line x y z ≡ Some line → Reads (codes "in" ∷ w.0 ∷ w.1 ∷ w.2 ∷ []) line
in_fields_only w None y z line ex ey ez h = absurd (cc)
in_fields_only w (Some addr) None z line ex ey ez h = absurd (cc)
in_fields_only w (Some addr) (Some ep) None line ex ey ez h = absurd (cc)
in_fields_only w (Some addr) (Some ep) (Some ok) line ex ey ez h =
    let a = number_only w.0 addr 127 (omega arith) (sym ex) in
    let b = number_only w.1 ep 15 (omega arith) (sym ey) in
    let d = fate_only noack w.2 ok (sym ez) in
    let e : Device (Bus (event.In addr ep ok)) ≡ line = cc in
    subst (Reads (codes "in" ∷ w.0 ∷ w.1 ∷ w.2 ∷ [])) e (rw (a.0, b.0, d) refl, (a.1, b.1))

setup_only : (fields : List (List ℕ)) (w : Option (List ℕ × List ℕ × List ℕ)) (line : Scheduled) → three fields ≡ w → setup_words w ≡ Some line → Reads (codes "setup" ∷ fields) line
setup_only fields None line e h = absurd (cc)
setup_only fields (Some w) line e h =
    subst (λ (fs : List (List ℕ)). Reads (codes "setup" ∷ fs) line) (sym (three_only fields w e))
    (setup_fields_only w _ _ _ line refl refl refl h)

out_only : (fields : List (List ℕ)) (w : Option (List ℕ × List ℕ × List ℕ × List ℕ × List ℕ)) (line : Scheduled) → five fields ≡ w → out_words w ≡ Some line → Reads (codes "out" ∷ fields) line
out_only fields None line e h = absurd (cc)
out_only fields (Some w) line e h =
    subst (λ (fs : List (List ℕ)). Reads (codes "out" ∷ fs) line) (sym (five_only fields w e))
    (out_fields_only w _ _ _ _ _ line refl refl refl refl refl h)

in_only : (fields : List (List ℕ)) (w : Option (List ℕ × List ℕ × List ℕ)) (line : Scheduled) → three fields ≡ w → in_words w ≡ Some line → Reads (codes "in" ∷ fields) line
in_only fields None line e h = absurd (cc)
in_only fields (Some w) line e h =
    subst (λ (fs : List (List ℕ)). Reads (codes "in" ∷ fs) line) (sym (three_only fields w e))
    (in_fields_only w _ _ _ line refl refl refl h)

alone_only : (name : List ℕ) (fields : List (List ℕ)) (this line : Scheduled) → schedule_words_of this ≡ name ∷ [] → IsScheduled this → alone fields this ≡ Some line → Reads (name ∷ fields) line
alone_only name [] this line e ok h = let same : this ≡ line = cc in subst (Reads (name ∷ [])) same (sym e, ok)
alone_only name (f ∷ fs) this line e ok h = absurd (cc)

call_only : (c : Class) (fields : List (List ℕ)) (r : Option DevCall) (line : Scheduled) → class_call c fields ≡ r → of_call r ≡ Some line → Reads (class_name c ∷ fields) line
call_only c fields None line e h = absurd (cc)
call_only c fields (Some call) line e h =
    let t = class_call_only c fields call e in
    let same : Device (Call call) ≡ line = cc in
    subst (Reads (class_name c ∷ fields)) same (t.0, t.1)

fields_only : (kind : Kind) (fields : List (List ℕ)) (line : Scheduled) → fields_line (Some kind) fields ≡ Some line → Reads (name_of kind ∷ fields) line
fields_only kind.Reset fields line h = alone_only (codes "reset") fields (Device (Bus event.Reset)) line refl tt h
fields_only kind.Irq fields line h = alone_only (codes "irq") fields (Device Irq) line refl tt h
fields_only kind.Task fields line h = alone_only (codes "task") fields (Device Task) line refl tt h
fields_only kind.End fields line h = alone_only (codes "end") fields End line refl tt h
fields_only kind.State fields line h = alone_only (codes "state") fields (Device (Call call.State)) line refl tt h
fields_only kind.Setup fields line h = setup_only fields (three fields) line refl h
fields_only kind.Out fields line h = out_only fields (five fields) line refl h
fields_only kind.In fields line h = in_only fields (three fields) line refl h
fields_only (kind.Class c) fields line h = call_only c fields (class_call c fields) line refl h

kind_fields_only : (name : List ℕ) (k : Option Kind) (fields : List (List ℕ)) (line : Scheduled) → kind_of name ≡ k → fields_line k fields ≡ Some line → Reads (name ∷ fields) line
kind_fields_only name None fields line e h = absurd (cc)
kind_fields_only name (Some k) fields line e h =
    subst (λ (n : List ℕ). Reads (n ∷ fields) line) (sym (kind_only name k e)) (fields_only k fields line h)

words_only : (words : List (List ℕ)) (line : Scheduled) → words_line words ≡ Some line → Reads words line
words_only [] line h = absurd (cc)
words_only (name ∷ fields) line h = kind_fields_only name (kind_of name) fields line refl h

pub line_only : (bytes : List ℕ) (line : Scheduled) → line_of bytes ≡ Some line → (bytes ≡ schedule_text_of line) × IsScheduled line
line_only bytes line h =
    let r = words_only (pieces bytes) line h in
    (sym (join_with_byte-slice_split space bytes) ∙ ap spaced r.0, r.1)

-- what isn't read as a line has the text of none
pub line_none : (bytes : List ℕ) → line_of bytes ≡ None → (line : Scheduled) → IsScheduled line → bytes ≡ schedule_text_of line → ⊥
line_none bytes h line fits e = let again = line_again line fits in let same = ap line_of e in cc
