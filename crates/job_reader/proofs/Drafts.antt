-- What a head that is being read holds, and the place of its next line.
use Rattle.std.proofs.Common.{◌≡◌, ℕ, ◌+◌, ◌≤◌, ◌<◌, List, [], ◌∷◌, ◌++◌, Bool, true, false, ◌&&◌, length, refl, ap, sym, ◌∙◌, subst, append_assoc, arith, Option, Some, None, length-append}
use Rattle.std.proofs.lemmas.List.{append-nil}
use Rattle.std.proofs.lemmas.Bool.Decides.{nat_tests}
use Rattle.std.specs.Prelude.{nat_lt}
use Rattle.std.specs.Option.{option_map}
use Rattle.usb_descriptor.specs.declared.strings.StringPart.{StringPart}
use Rattle.usb_descriptor.specs.Strings.{Ascend}
use Rattle.usb_text.specs.declared.head.HeadLine.{HeadLine}
use Rattle.usb_text.specs.declared.head.HeadLine.TheVariants as head
use Rattle.usb_text.specs.Head.{IsHead}
use Rattle.device_text.specs.Job.{Parts, with_line, parts_after, parts_of, nothing, last_after, follows, has_room, in_order, most_strings, GoOn, IsHeadSoFar, ends_head, is_whole as head_is_whole}
use Rattle.job_reader.specs.Draft.{new_draft, stage_of, accepts, takes_device, takes_config, takes_text, takes_report, takes_begin, with_head, IsDraft, AscendTo, Ascends, rank, is_whole}
use Rattle.job_reader.specs.declared.draft.Draft.{Draft}
use Rattle.job_reader.specs.declared.draft.Stage.{Stage}
use Rattle.job_reader.specs.declared.draft.Stage.TheVariants as stage

and_true : (b : Bool) → (b && true) ≡ b
and_true true = refl
and_true false = refl

and_swap : (a b : Bool) → (a && b) ≡ (b && a)
and_swap true true = refl
and_swap true false = refl
and_swap false true = refl
and_swap false false = refl

-- the stage says which lines may follow
accepts_is : (last : Option HeadLine) (n : ℕ) (line : HeadLine) → accepts (stage_of last) n line ≡ (follows last line && has_room n line)
accepts_is None n (head.Device bytes) = refl
accepts_is None n (head.Config bytes) = refl
accepts_is None n (head.Text i b) = and_swap (nat_lt n most_strings) false
accepts_is None n (head.Report bytes) = refl
accepts_is None n head.Begin = refl
accepts_is (Some (head.Device x)) n (head.Device bytes) = refl
accepts_is (Some (head.Device x)) n (head.Config bytes) = refl
accepts_is (Some (head.Device x)) n (head.Text i b) = and_swap (nat_lt n most_strings) false
accepts_is (Some (head.Device x)) n (head.Report bytes) = refl
accepts_is (Some (head.Device x)) n head.Begin = refl
accepts_is (Some (head.Config x)) n (head.Device bytes) = refl
accepts_is (Some (head.Config x)) n (head.Config bytes) = refl
accepts_is (Some (head.Config x)) n (head.Text i b) = and_swap (nat_lt n most_strings) true
accepts_is (Some (head.Config x)) n (head.Report bytes) = refl
accepts_is (Some (head.Config x)) n head.Begin = refl
accepts_is (Some (head.Text j x)) n (head.Device bytes) = refl
accepts_is (Some (head.Text j x)) n (head.Config bytes) = refl
accepts_is (Some (head.Text j x)) n (head.Text i b) = and_swap (nat_lt n most_strings) (nat_lt j i)
accepts_is (Some (head.Text j x)) n (head.Report bytes) = refl
accepts_is (Some (head.Text j x)) n head.Begin = refl
accepts_is (Some (head.Report x)) n (head.Device bytes) = refl
accepts_is (Some (head.Report x)) n (head.Config bytes) = refl
accepts_is (Some (head.Report x)) n (head.Text i b) = and_swap (nat_lt n most_strings) false
accepts_is (Some (head.Report x)) n (head.Report bytes) = refl
accepts_is (Some (head.Report x)) n head.Begin = refl
accepts_is (Some head.Begin) n (head.Device bytes) = refl
accepts_is (Some head.Begin) n (head.Config bytes) = refl
accepts_is (Some head.Begin) n (head.Text i b) = and_swap (nat_lt n most_strings) false
accepts_is (Some head.Begin) n (head.Report bytes) = refl
accepts_is (Some head.Begin) n head.Begin = refl

parts-more : (parts : Parts) (lines : List HeadLine) (line : HeadLine) → parts_after parts (lines ++ line ∷ []) ≡ with_line (parts_after parts lines) line
parts-more parts [] line = refl
parts-more parts (l ∷ ls) line = parts-more (with_line parts l) ls line

last-more : (last : Option HeadLine) (lines : List HeadLine) (line : HeadLine) → last_after last (lines ++ line ∷ []) ≡ Some line
last-more last [] line = refl
last-more last (l ∷ ls) line = last-more (Some l) ls line

pub accepts_in_order : (draft : Draft) (lines : List HeadLine) (line : HeadLine) → IsDraft draft lines
    → accepts draft.stage (length draft.strings.items) line ≡ in_order lines line
accepts_in_order draft lines line d =
    ap (λ s. accepts s (length draft.strings.items) line) d.stage
    ∙ ap (λ t. accepts (stage_of (last_after None lines)) (length t) line) d.strings
    ∙ accepts_is (last_after None lines) (length (parts_of lines).strings) line

whole_is : (last : Option HeadLine) → is_whole (stage_of last) ≡ ends_head last
whole_is None = refl
whole_is (Some (head.Device x)) = refl
whole_is (Some (head.Config x)) = refl
whole_is (Some (head.Text j x)) = refl
whole_is (Some (head.Report x)) = refl
whole_is (Some head.Begin) = refl

pub draft_whole : (draft : Draft) (lines : List HeadLine) → IsDraft draft lines → is_whole draft.stage ≡ head_is_whole lines
draft_whole draft lines d = ap is_whole d.stage ∙ whole_is (last_after None lines)

pub draft_none : IsDraft new_draft []
draft_none = record { device = refl; config = refl; strings = refl; report = refl; stage = refl }

-- a draft with one line more
with_parts : (draft : Draft) (parts : Parts) (line : HeadLine) → draft.device.items ≡ parts.device → draft.config.items ≡ parts.config
    → draft.strings.items ≡ parts.strings → option_map (λ r. r.items) draft.report ≡ parts.report
    → ((with_head draft line).device.items ≡ (with_line parts line).device) × ((with_head draft line).config.items ≡ (with_line parts line).config)
    × ((with_head draft line).strings.items ≡ (with_line parts line).strings)
    × (option_map (λ r. r.items) (with_head draft line).report ≡ (with_line parts line).report)
with_parts draft parts (head.Device x) d c s r = (refl, c, s, r)
with_parts draft parts (head.Config x) d c s r = (d, refl, s, r)
with_parts draft parts (head.Text i x) d c s r = (d, c, ap (λ t. t ++ record { index = i; body = x } ∷ []) s, r)
with_parts draft parts (head.Report x) d c s r = (d, c, s, refl)
with_parts draft parts head.Begin d c s r = (d, c, s, r)

with_stage : (draft : Draft) (line : HeadLine) → (with_head draft line).stage ≡ stage_of (Some line)
with_stage draft (head.Device x) = refl
with_stage draft (head.Config x) = refl
with_stage draft (head.Text i x) = refl
with_stage draft (head.Report x) = refl
with_stage draft head.Begin = refl

pub draft_more : (draft : Draft) (lines : List HeadLine) (line : HeadLine) → IsDraft draft lines → IsDraft (with_head draft line) (lines ++ line ∷ [])
draft_more draft lines line d =
    let p = with_parts draft (parts_of lines) line d.device d.config d.strings d.report in
    let e = sym (parts-more nothing lines line) in
    record {
      device = p.0 ∙ ap (λ q. q.device) e;
      config = p.1 ∙ ap (λ q. q.config) e;
      strings = p.2 ∙ ap (λ q. q.strings) e;
      report = p.3 ∙ ap (λ q. q.report) e;
      stage = with_stage draft line ∙ ap stage_of (sym (last-more None lines line));
    }

go_on-more : (before lines : List HeadLine) (line : HeadLine) → GoOn before lines → IsHead line → in_order (before ++ lines) line ≡ true
    → GoOn before (lines ++ line ∷ [])
go_on-more before [] line g h o = (h, subst (λ (b : List HeadLine). in_order b line ≡ true) (append-nil before) o, tt)
go_on-more before (l ∷ ls) line g h o =
    (g.0, g.1, go_on-more (before ++ l ∷ []) ls line g.2 h (subst (λ (b : List HeadLine). in_order b line ≡ true) (sym (append_assoc before (l ∷ []) ls)) o))

pub so_far-more : (lines : List HeadLine) (line : HeadLine) → IsHeadSoFar lines → IsHead line → in_order lines line ≡ true → IsHeadSoFar (lines ++ line ∷ [])
so_far-more lines line g h o = go_on-more [] lines line g h o

ascend : (least next : ℕ) (ps : List StringPart) → AscendTo least ps next → Ascend least ps
ascend least next [] h = tt
ascend least next (p ∷ ps) h = (h.0, ascend (p.index + 1) next ps h.1)

ascend_more : (least next : ℕ) (ps : List StringPart) (p : StringPart) → AscendTo least ps next → next ≤ p.index → AscendTo least (ps ++ p ∷ []) (p.index + 1)
ascend_more least next [] p h le = (omega (arith, h, le), omega arith)
ascend_more least next (q ∷ qs) p h le = (h.0, ascend_more (q.index + 1) next qs p h.1 le)

pub rises_ascend : (s : Stage) (ps : List StringPart) → Ascends s ps → Ascend 1 ps
rises_ascend stage.Start ps h = rw h tt
rises_ascend stage.Device ps h = rw h tt
rises_ascend stage.Config ps h = rw h tt
rises_ascend (stage.Text last) ps h = ascend 1 (last + 1) ps h
rises_ascend stage.Report ps h = h
rises_ascend stage.Begin ps h = h

second : (a b : Bool) → (a && b) ≡ true → b ≡ true
second true b h = h
second false b h = absurd (cc)

first : (a b : Bool) → (a && b) ≡ true → a ≡ true
first true b h = refl
first false b h = absurd (cc)

text_rises : (s : Stage) (ps : List StringPart) (p : StringPart) → takes_text s p.index ≡ true → 1 ≤ p.index → Ascends s ps → AscendTo 1 (ps ++ p ∷ []) (p.index + 1)
text_rises stage.Start ps p t h r = absurd (cc)
text_rises stage.Device ps p t h r = absurd (cc)
text_rises stage.Config ps p t h r = rw r (h, omega arith)
text_rises (stage.Text last) ps p t h r = ascend_more 1 (last + 1) ps p r (grind (arith, nat_tests))
text_rises stage.Report ps p t h r = absurd (cc)
text_rises stage.Begin ps p t h r = absurd (cc)

start_rises : (s : Stage) (ps : List StringPart) → takes_device s ≡ true → Ascends s ps → ps ≡ []
start_rises stage.Start ps a r = r
start_rises stage.Device ps a r = absurd (cc)
start_rises stage.Config ps a r = absurd (cc)
start_rises (stage.Text last) ps a r = absurd (cc)
start_rises stage.Report ps a r = absurd (cc)
start_rises stage.Begin ps a r = absurd (cc)

device_rises : (s : Stage) (ps : List StringPart) → takes_config s ≡ true → Ascends s ps → ps ≡ []
device_rises stage.Start ps a r = absurd (cc)
device_rises stage.Device ps a r = r
device_rises stage.Config ps a r = absurd (cc)
device_rises (stage.Text last) ps a r = absurd (cc)
device_rises stage.Report ps a r = absurd (cc)
device_rises stage.Begin ps a r = absurd (cc)

pub rises_more : (draft : Draft) (line : HeadLine) → accepts draft.stage (length draft.strings.items) line ≡ true → IsHead line
    → Ascends draft.stage draft.strings.items → Ascends (with_head draft line).stage (with_head draft line).strings.items
rises_more draft (head.Device x) a h r = start_rises draft.stage draft.strings.items a r
rises_more draft (head.Config x) a h r = device_rises draft.stage draft.strings.items a r
rises_more draft (head.Text i x) a h r = text_rises draft.stage draft.strings.items (record { index = i; body = x }) (second _ _ a) h.0 r
rises_more draft (head.Report x) a h r = rises_ascend draft.stage draft.strings.items r
rises_more draft head.Begin a h r = rises_ascend draft.stage draft.strings.items r

-- how many lines there can be: each one that has its place comes nearer to the end
begin_rank : (s : Stage) → takes_begin s ≡ true → rank s ≤ 3
begin_rank stage.Start a = absurd (cc)
begin_rank stage.Device a = absurd (cc)
begin_rank stage.Config a = omega arith
begin_rank (stage.Text last) a = omega arith
begin_rank stage.Report a = omega arith
begin_rank stage.Begin a = absurd (cc)

report_rank : (s : Stage) → takes_report s ≡ true → rank s ≤ 2
report_rank stage.Start a = absurd (cc)
report_rank stage.Device a = absurd (cc)
report_rank stage.Config a = omega arith
report_rank (stage.Text last) a = omega arith
report_rank stage.Report a = absurd (cc)
report_rank stage.Begin a = absurd (cc)

config_rank : (s : Stage) → takes_config s ≡ true → rank s ≤ 1
config_rank stage.Start a = absurd (cc)
config_rank stage.Device a = omega arith
config_rank stage.Config a = absurd (cc)
config_rank (stage.Text last) a = absurd (cc)
config_rank stage.Report a = absurd (cc)
config_rank stage.Begin a = absurd (cc)

device_rank : (s : Stage) → takes_device s ≡ true → rank s ≤ 0
device_rank stage.Start a = omega arith
device_rank stage.Device a = absurd (cc)
device_rank stage.Config a = absurd (cc)
device_rank (stage.Text last) a = absurd (cc)
device_rank stage.Report a = absurd (cc)
device_rank stage.Begin a = absurd (cc)

text_rank : (s : Stage) (i : ℕ) → takes_text s i ≡ true → rank s ≤ 2
text_rank stage.Start i a = absurd (cc)
text_rank stage.Device i a = absurd (cc)
text_rank stage.Config i a = omega arith
text_rank (stage.Text last) i a = omega arith
text_rank stage.Report i a = absurd (cc)
text_rank stage.Begin i a = absurd (cc)

pub record Nearer (draft new : Draft) : Type 0 where
  pub place : rank draft.stage + length draft.strings.items + 1 ≤ rank new.stage + length new.strings.items
  pub room : length draft.strings.items ≤ 8 → length new.strings.items ≤ 8

pub nearer : (draft : Draft) (line : HeadLine) → accepts draft.stage (length draft.strings.items) line ≡ true → Nearer draft (with_head draft line)
nearer draft (head.Device x) a = record { place = omega (arith, device_rank draft.stage a); room = λ r. r }
nearer draft (head.Config x) a = record { place = omega (arith, config_rank draft.stage a); room = λ r. r }
nearer draft (head.Text i x) a = record {
  place = omega (arith, text_rank draft.stage i (second _ _ a), length-append draft.strings.items (record { index = i; body = x } ∷ []));
  room = λ r. let few = first (nat_lt (length draft.strings.items) most_strings) _ a in let lt : length draft.strings.items < 8 = below _ few in omega (arith, lt, length-append draft.strings.items (record { index = i; body = x } ∷ []));
} where
  below : (n : ℕ) → nat_lt n 8 ≡ true → n < 8
  below n h = grind (arith, nat_tests)
nearer draft (head.Report x) a = record { place = omega (arith, report_rank draft.stage a); room = λ r. r }
nearer draft head.Begin a = record { place = omega (arith, begin_rank draft.stage a); room = λ r. r }

pub rank_most : (s : Stage) → rank s ≤ 4
rank_most stage.Start = omega arith
rank_most stage.Device = omega arith
rank_most stage.Config = omega arith
rank_most (stage.Text last) = omega arith
rank_most stage.Report = omega arith
rank_most stage.Begin = omega arith
