-- A line that keeps all rules is read.
use Rattle.std.proofs.Common.{◌≡◌, ℕ, zero, suc, ◌-◌, ◌≤◌, List, [], ◌∷◌, Bool, true, false, ◌&&◌, eqb, length, Option, Some, None, refl, ap, ◌∙◌, arith, codes, le-leb}
use Rattle.std.specs.Str.{bytes_eq}
use Rattle.std.specs.Fmt.{decimal}
use Rattle.std.proofs.lemmas.Fmt.{decimal_digit}
use Rattle.std.proofs.lemmas.Bool.Decides.{nat_tests}
use Rattle.usb_packet.specs.declared.bus.Toggle.{Toggle}
use Rattle.usb_packet.specs.declared.bus.Toggle.TheVariants.{D0, D1}
use Rattle.usb_packet.specs.declared.bus.BusEvent.TheVariants as event
use Rattle.usb_words.specs.Field.{pieces, bytes_in, exactly, fate_of, one, bytes_word}
use Rattle.usb_words.proofs.Decimal.{and_true, number_only}
use Rattle.line_rules.specs.declared.kinds.Kind.{Kind}
use Rattle.line_rules.specs.declared.kinds.Kind.TheVariants as kind
use Rattle.line_rules.specs.declared.kinds.HeadKind.{HeadKind}
use Rattle.line_rules.specs.declared.kinds.HeadKind.TheVariants as head_kind
use Rattle.line_rules.specs.declared.rules.Field.TheVariants.{Bytes}
use Rattle.line_rules.specs.declared.rules.Mode.TheVariants as mode
use Rattle.line_rules.specs.declared.rules.Place.TheVariants as place
use Rattle.line_rules.specs.Kinds.{kind_of, head_kind_of, bad, noack}
use Rattle.line_rules.specs.Rules.{first_of, after_first, schedule_row, head_row, schedule_row_of, head_row_of, fields_of, is_number, is_either, lowest}
use Rattle.line_rules.proofs.Judged.{lowest_in}
use Rattle.line_rules.proofs.Found.{Keeps, kept_of, after, no_name, either_some, number_found, bytes_found}
use Rattle.device_line.specs.declared.line.DevLine.TheVariants.{Bus, Irq, Task, Call}
use Rattle.device_line.specs.declared.call.DevCall.TheVariants as call
use Rattle.call_text.proofs.Found.{class_found}
use Rattle.usb_text.specs.Scheduled.{Scheduled}
use Rattle.usb_text.specs.Scheduled.{Device, End}
use Rattle.usb_text.specs.declared.head.HeadLine.{HeadLine}
use Rattle.usb_text.specs.declared.head.HeadLine.TheVariants as head
use Rattle.usb_text.specs.Line.{schedule_text_of, IsScheduled}
use Rattle.usb_text.specs.Reading.{three, five, toggle_of, setup_words, out_words, in_words, alone, of_call, fields_line, words_line, line_of}
use Rattle.usb_text.specs.Head.{head_text, IsHead, two, text_words, head_fields, head_words_line, head_of}
use Rattle.usb_text.proofs.Read.{line_only}
use Rattle.usb_text.proofs.Heads.{head_only}

eight_found : (word bytes : List ℕ) → bytes_in 8 word ≡ Some bytes → 8 ≤ length bytes → length bytes ≤ 8 → exactly 8 (bytes_in 8 word) ≡ Some bytes
eight_found word bytes e low high = let eight : eqb (length bytes) 8 ≡ true = grind (arith, nat_tests) in rw (e, eight) refl

fate_found : (other word : List ℕ) → is_either (codes "ok") other word ≡ true → (ok : Bool) × (fate_of other word ≡ Some ok)
fate_found other word h = either_some (bytes_eq word (codes "ok")) (bytes_eq word other) true false h

zero_or_one : (word : List ℕ) (n : ℕ) → n ≤ 1 → word ≡ decimal n → (t : Toggle) × (toggle_of word ≡ Some t)
zero_or_one word zero h e = (D0, rw (e ∙ decimal_digit 0 (omega arith)) refl)
zero_or_one word (suc zero) h e = (D1, rw (e ∙ decimal_digit 1 (omega arith)) refl)
zero_or_one word (suc (suc n)) h e = absurd (omega arith)

toggle_found : (word : List ℕ) → is_number 0 1 word ≡ true → (t : Toggle) × (toggle_of word ≡ Some t)
toggle_found word h =
    let n = number_found 0 1 word h in
    zero_or_one word n.0 n.3 (number_only word n.0 1 (omega arith) n.1).0

alone_found : (line : Scheduled) (words : List (List ℕ)) → length words ≡ 0 → (v : Scheduled) × (alone words line ≡ Some v)
alone_found line [] e = (line, refl)
alone_found line (w ∷ ws) e = absurd (omega (arith, e))

setup_found : (name : List ℕ) (words : List (List ℕ)) → Keeps (schedule_row kind.Setup []) (name ∷ words) → length words ≡ 3
    → (v : Scheduled) × (setup_words (three words) ≡ Some v)
setup_found name [] k e = absurd (omega (arith, e))
setup_found name (a ∷ []) k e = absurd (omega (arith, e))
setup_found name (a ∷ b ∷ []) k e = absurd (omega (arith, e))
setup_found name (a ∷ b ∷ c ∷ []) k e =
    let n = number_found 0 127 a (and_true _ _ k.numbers).0 in
    let h = bytes_found 8 8 b (and_true _ _ k.bytes).0 in
    let f = fate_found bad c (and_true _ _ k.choices).0 in
    (Device (Bus (event.Setup n.0 h.0 f.0)), rw (n.1, eight_found b h.0 h.1 h.2 h.3, f.1) refl)
setup_found name (a ∷ b ∷ c ∷ d ∷ ds) k e = absurd (omega (arith, e))

out_found : (name : List ℕ) (words : List (List ℕ)) → Keeps (schedule_row kind.Out []) (name ∷ words) → length words ≡ 5
    → (v : Scheduled) × (out_words (five words) ≡ Some v)
out_found name [] k e = absurd (omega (arith, e))
out_found name (a ∷ []) k e = absurd (omega (arith, e))
out_found name (a ∷ b ∷ []) k e = absurd (omega (arith, e))
out_found name (a ∷ b ∷ c ∷ []) k e = absurd (omega (arith, e))
out_found name (a ∷ b ∷ c ∷ d ∷ []) k e = absurd (omega (arith, e))
out_found name (a ∷ b ∷ c ∷ d ∷ f ∷ []) k e =
    let x = and_true (is_number 0 127 a) (is_number 0 15 b && (is_number 0 1 c && true)) k.numbers in
    let y = and_true (is_number 0 15 b) (is_number 0 1 c && true) x.1 in
    let z = and_true (is_number 0 1 c) true y.1 in
    let m = number_found 0 127 a x.0 in
    let n = number_found 0 15 b y.0 in
    let t = toggle_found c z.0 in
    let h = bytes_found 0 64 d (and_true _ _ k.bytes).0 in
    let g = fate_found bad f (and_true _ _ k.choices).0 in
    (Device (Bus (event.Out m.0 n.0 t.0 h.0 g.0)), rw (m.1, n.1, t.1, h.1, g.1) refl)
out_found name (a ∷ b ∷ c ∷ d ∷ f ∷ g ∷ gs) k e = absurd (omega (arith, e))

in_found : (name : List ℕ) (words : List (List ℕ)) → Keeps (schedule_row kind.In []) (name ∷ words) → length words ≡ 3
    → (v : Scheduled) × (in_words (three words) ≡ Some v)
in_found name [] k e = absurd (omega (arith, e))
in_found name (a ∷ []) k e = absurd (omega (arith, e))
in_found name (a ∷ b ∷ []) k e = absurd (omega (arith, e))
in_found name (a ∷ b ∷ c ∷ []) k e =
    let x = and_true (is_number 0 127 a) (is_number 0 15 b && true) k.numbers in
    let m = number_found 0 127 a x.0 in
    let n = number_found 0 15 b (and_true (is_number 0 15 b) true x.1).0 in
    let g = fate_found noack c (and_true _ _ k.choices).0 in
    (Device (Bus (event.In m.0 n.0 g.0)), rw (m.1, n.1, g.1) refl)
in_found name (a ∷ b ∷ c ∷ d ∷ ds) k e = absurd (omega (arith, e))

kind_found : (name : List ℕ) (words : List (List ℕ)) (k : Option Kind) → Keeps (schedule_row_of k (first_of words)) (name ∷ words) → (v : Scheduled) × (fields_line k words ≡ Some v)
kind_found name words None k = let e = k.named in absurd (cc)
kind_found name words (Some kind.Reset) k = alone_found (Device (Bus event.Reset)) words (after [] name words k)
kind_found name words (Some kind.Irq) k = alone_found (Device Irq) words (after [] name words k)
kind_found name words (Some kind.Task) k = alone_found (Device Task) words (after [] name words k)
kind_found name words (Some kind.State) k = alone_found (Device (Call call.State)) words (after [] name words k)
kind_found name words (Some kind.End) k = alone_found End words (after [] name words k)
kind_found name words (Some kind.Setup) k = setup_found name words k (after (fields_of (schedule_row kind.Setup [])) name words k)
kind_found name words (Some kind.Out) k = out_found name words k (after (fields_of (schedule_row kind.Out [])) name words k)
kind_found name words (Some kind.In) k = in_found name words k (after (fields_of (schedule_row kind.In [])) name words k)
kind_found name words (Some (kind.Class c)) k = let f = class_found c name words k in (Device (Call f.0), ap of_call f.1)

schedule_found : (line : List ℕ) (words : List (List ℕ)) → lowest_in line (schedule_row_of (kind_of (first_of words)) (first_of (after_first words))) words ≡ None → (v : Scheduled) × (words_line words ≡ Some v)
schedule_found line [] h = let k = kept_of line (schedule_row_of (kind_of []) []) [] h in let e = k.named in absurd (cc)
schedule_found line ([] ∷ words) h = absurd (no_name _ words (kept_of line _ ([] ∷ words) h))
schedule_found line ((b ∷ bs) ∷ words) h = kind_found (b ∷ bs) words (kind_of (b ∷ bs)) (kept_of line _ ((b ∷ bs) ∷ words) h)

-- a line without a row breaks a rule
pub no_row : (line : List ℕ) (words : List (List ℕ)) → lowest_in line None words ≡ None → ⊥
no_row line words h = let k = kept_of line None words h in let e = k.named in cc

-- so it is the text of a line
pub schedule_text : (line : List ℕ) → lowest mode.Device place.Schedule line ≡ None → (a : Scheduled) × (line ≡ schedule_text_of a) × IsScheduled a
schedule_text line h =
    let f = schedule_found line (pieces line) h in
    let r = line_only line f.0 f.1 in
    (f.0, r.0, r.1)

-- and a line that isn't read breaks a rule
pub schedule_clash : (line : List ℕ) → line_of line ≡ None → lowest mode.Device place.Schedule line ≡ None → ⊥
schedule_clash line none h = let f = schedule_found line (pieces line) h in let e = f.1 in cc

hex_found : (most : ℕ) (name : List ℕ) (words : List (List ℕ)) → Keeps (Some (Bytes 1 most ∷ [])) (name ∷ words) → length words ≡ 1
    → (bytes : List ℕ) × (bytes_word 1 most (one words) ≡ Some bytes)
hex_found most name [] k e = absurd (omega (arith, e))
hex_found most name (a ∷ []) k e =
    let h = bytes_found 1 most a (and_true _ _ k.bytes).0 in
    (h.0, rw (h.1, le-leb 1 (length h.0) h.2) refl)
hex_found most name (a ∷ b ∷ bs) k e = absurd (omega (arith, e))

text_found : (name : List ℕ) (words : List (List ℕ)) → Keeps (Some (head_row head_kind.Text)) (name ∷ words) → length words ≡ 2
    → (v : HeadLine) × (text_words (two words) ≡ Some v)
text_found name [] k e = absurd (omega (arith, e))
text_found name (a ∷ []) k e = absurd (omega (arith, e))
text_found name (a ∷ b ∷ []) k e =
    let n = number_found 1 255 a (and_true _ _ k.numbers).0 in
    let h = bytes_found 2 60 b (and_true _ _ k.bytes).0 in
    (head.Text n.0 (record { items = h.0 }), rw (n.1, le-leb 1 n.0 n.2, h.1, le-leb 2 (length h.0) h.2) refl)
text_found name (a ∷ b ∷ c ∷ cs) k e = absurd (omega (arith, e))

begin_found : (words : List (List ℕ)) → length words ≡ 0 → (v : HeadLine) × (head_fields (Some head_kind.Begin) words ≡ Some v)
begin_found [] e = (head.Begin, refl)
begin_found (w ∷ ws) e = absurd (omega (arith, e))

head_kind_found : (name : List ℕ) (words : List (List ℕ)) (k : Option HeadKind) → Keeps (head_row_of k) (name ∷ words) → (v : HeadLine) × (head_fields k words ≡ Some v)
head_kind_found name words None k = let e = k.named in absurd (cc)
head_kind_found name words (Some head_kind.Device) k =
    let h = hex_found 64 name words k (after (Bytes 1 64 ∷ []) name words k) in (head.Device (record { items = h.0 }), rw h.1 refl)
head_kind_found name words (Some head_kind.Config) k =
    let h = hex_found 600 name words k (after (Bytes 1 600 ∷ []) name words k) in (head.Config (record { items = h.0 }), rw h.1 refl)
head_kind_found name words (Some head_kind.Text) k = text_found name words k (after (head_row head_kind.Text) name words k)
head_kind_found name words (Some head_kind.Report) k =
    let h = hex_found 512 name words k (after (Bytes 1 512 ∷ []) name words k) in (head.Report (record { items = h.0 }), rw h.1 refl)
head_kind_found name words (Some head_kind.Begin) k = begin_found words (after [] name words k)

head_found : (line : List ℕ) (words : List (List ℕ)) → lowest_in line (head_row_of (head_kind_of (first_of words))) words ≡ None → (v : HeadLine) × (head_words_line words ≡ Some v)
head_found line [] h = let k = kept_of line (head_row_of (head_kind_of [])) [] h in let e = k.named in absurd (cc)
head_found line ([] ∷ words) h = absurd (no_name _ words (kept_of line _ ([] ∷ words) h))
head_found line ((b ∷ bs) ∷ words) h = head_kind_found (b ∷ bs) words (head_kind_of (b ∷ bs)) (kept_of line _ ((b ∷ bs) ∷ words) h)

pub head_line_text : (line : List ℕ) → lowest mode.Device place.Head line ≡ None → (a : HeadLine) × (line ≡ head_text a) × IsHead a
head_line_text line h =
    let f = head_found line (pieces line) h in
    let r = head_only line f.0 f.1 in
    (f.0, r.0, r.1)

pub head_clash : (line : List ℕ) → head_of line ≡ None → lowest mode.Device place.Head line ≡ None → ⊥
head_clash line none h = let f = head_found line (pieces line) h in let e = f.1 in cc
