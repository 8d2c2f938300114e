-- The reading of a job ends in one way.
use Rattle.std.proofs.Common.{◌≡◌, ℕ, ◌+◌, ◌≤◌, ◌<◌, List, [], ◌∷◌, ◌++◌, Bool, true, false, cond, eqb, length, refl, ap, sym, ◌∙◌, subst, append_assoc, arith, length-append, Option, Some, None, inl, inr, ◌⊎◌}
use Rattle.std.specs.Prelude.{nat_lt}
use Rattle.std.specs.List.{AllByRecursion}
use Rattle.std.specs.Str.{bytes_eq}
use Rattle.std.proofs.lemmas.List.{append-nil}
use Rattle.std.proofs.lemmas.Bool.Decides.{nat_tests}
use Rattle.std.proofs.lemmas.Slice.Eq.{bytes_eq-Decides}
use Rattle.usb_descriptor.specs.declared.limits.SetFault.{SetFault}
use Rattle.line_rules.specs.declared.rules.Mode.TheVariants as mode
use Rattle.line_rules.specs.declared.rules.Place.TheVariants as place
use Rattle.line_rules.specs.Rules.{lowest}
use Rattle.device_line.specs.declared.line.DevLine.{DevLine}
use Rattle.usb_text.specs.Scheduled as schedule
use Rattle.usb_text.specs.declared.line.Line.TheVariants.{Device, End}
use Rattle.usb_text.specs.declared.head.HeadLine.{HeadLine}
use Rattle.usb_text.specs.declared.head.HeadLine.TheVariants as head
use Rattle.usb_text.specs.Line.{newline, line_text, schedule_text_of, IsDeviceLine}
use Rattle.usb_text.specs.Head.{head_text, head_of, IsHead}
use Rattle.usb_text.specs.Plain.{is_plain}
use Rattle.usb_text.proofs.Plain.{schedule_is_plain, head_is_plain}
use Rattle.usb_text.proofs.Spelling.{same_schedule, same_head}
use Rattle.usb_text.proofs.Heads.{head_again}
use Rattle.usb_text.proofs.Kept.{text_keeps, head_text_keeps}
use Rattle.device_text.specs.Job.{Job, Spells, GoOn, IsAccepted, last_after, follows, in_order, is_whole, ends_head, set_fault, head_lines, schedule_line, schedule_text, front_text, end_line, given, most_bytes}
use Rattle.device_text.specs.Outcome.{Front, Breaks, RefusesLine, RefusesSet, EndsShort, PassesLimit, Outcome, Whole, BadLine, BadSet, Short, TooLong, IsOutcome, EndsInHead}
use Rattle.device_text.proofs.Closed.{cut_line, plain_rest, no_newline}

-- the first line of what is left
abbrev front_line : List ℕ → List ℕ
front_line [] = []
front_line (b ∷ bs) = cond (eqb b newline) [] (b ∷ front_line bs)

abbrev first_of : List ℕ → Option (List ℕ)
first_of [] = None
first_of (b ∷ bs) = Some (front_line (b ∷ bs))

abbrev lines_of : List HeadLine → List DevLine → ℕ
lines_of h s = length h + length s

-- how a reading ends that has these lines behind it and this one before it, or None where it goes on
abbrev by_order : ℕ → Option HeadLine → List HeadLine → Option Outcome
by_order n None h = None
by_order n (Some l) h = cond (in_order h l) None (Some (BadLine n 8))

abbrev by_head_rule : ℕ → Option ℕ → Option HeadLine → List HeadLine → Option Outcome
by_head_rule n (Some rule) l h = Some (BadLine n rule)
by_head_rule n None l h = by_order n l h

abbrev in_head : ℕ → Option (List ℕ) → List HeadLine → Option Outcome
in_head n None h = Some (Short n)
in_head n (Some bytes) h = by_head_rule (n + 1) (lowest mode.Device place.Head bytes) (head_of bytes) h

abbrev by_end : Bool → Bool → List HeadLine → List DevLine → Option Outcome
by_end true ends h s = Some TooLong
by_end false true h s = Some (Whole (record { head = h; schedule = s }))
by_end false false h s = None

abbrev by_rule : ℕ → Option ℕ → Bool → Bool → List HeadLine → List DevLine → Option Outcome
by_rule n (Some rule) long ends h s = Some (BadLine n rule)
by_rule n None long ends h s = by_end long ends h s

abbrev in_schedule : ℕ → Option (List ℕ) → Bool → List HeadLine → List DevLine → Option Outcome
in_schedule n None long h s = Some (Short n)
in_schedule n (Some bytes) long h s = by_rule (n + 1) (lowest mode.Device place.Schedule bytes) long (bytes_eq bytes (line_text End)) h s

abbrev by_set : ℕ → Option SetFault → Option (List ℕ) → Bool → List HeadLine → List DevLine → Option Outcome
by_set n (Some fault) first long h s = Some (BadSet fault)
by_set n None first long h s = in_schedule n first long h s

abbrev judge : Option (List ℕ) → Bool → List HeadLine → List DevLine → Option Outcome
judge first long h s = cond (is_whole h) (by_set (lines_of h s) (set_fault h) first long h s) (in_head (lines_of h s) first h)

abbrev with_newline : Option (List ℕ) → List ℕ
with_newline None = []
with_newline (Some bytes) = bytes ++ newline ∷ []

-- whether the next line passes the limit of bytes
abbrev is_long : List ℕ → List HeadLine → List DevLine → List ℕ → Bool
is_long input h s rest = nat_lt most_bytes (given input (front_text h s ++ with_newline (first_of rest)))

abbrev judged : List ℕ → List HeadLine → List DevLine → List ℕ → Option Outcome
judged input h s rest = judge (first_of rest) (is_long input h s rest) h s

front_at : (b : ℕ) (bs rest : List ℕ) (t : Bool) → eqb b newline ≡ t → is_plain (b ∷ bs) ≡ true → front_line (bs ++ newline ∷ rest) ≡ bs
    → cond (eqb b newline) [] (b ∷ front_line (bs ++ newline ∷ rest)) ≡ b ∷ bs
front_at b bs rest true e p more = let same : b ≡ newline = grind (arith, nat_tests, e) in absurd (no_newline b bs p same)
front_at b bs rest false e p more = rw e (ap (λ t. b ∷ t) more)

front_is : (bytes rest : List ℕ) → is_plain bytes ≡ true → front_line (bytes ++ newline ∷ rest) ≡ bytes
front_is [] rest p = refl
front_is (b ∷ bs) rest p = front_at b bs rest (eqb b newline) refl p (front_is bs rest (plain_rest b bs p))

first_is : (bytes rest : List ℕ) → is_plain bytes ≡ true → first_of (bytes ++ newline ∷ rest) ≡ Some bytes
first_is [] rest p = refl
first_is (b ∷ bs) rest p = ap Some (front_is (b ∷ bs) rest p)

within : (n : ℕ) → n ≤ most_bytes → nat_lt most_bytes n ≡ false
within n h = grind (arith, nat_tests, h)

beyond : (n : ℕ) → most_bytes < n → nat_lt most_bytes n ≡ true
beyond n h = grind (arith, nat_tests, h)

other_bytes : (a b : List ℕ) → (a ≡ b → ⊥) → bytes_eq a b ≡ false
other_bytes a b h = no (bytes_eq a b) refl where
  no : (t : Bool) → bytes_eq a b ≡ t → bytes_eq a b ≡ false
  no true e = absurd (h ((bytes_eq-Decides a b).0 e))
  no false e = e

-- each outcome is what its reading is judged to be
module _ (input : List ℕ) where
  judged_whole : (job : Job) (sp : Spells input job) → judged input job.head job.schedule (end_line ++ sp.tail) ≡ Some (Whole job)
  judged_whole job sp =
      let e : end_line ++ sp.tail ≡ line_text End ++ newline ∷ sp.tail = append_assoc (line_text End) (newline ∷ []) sp.tail in
      let f : first_of (end_line ++ sp.tail) ≡ Some (line_text End) = ap first_of e ∙ first_is (line_text End) sp.tail refl in
      let short = within (given input (front_text job.head job.schedule ++ end_line)) sp.short in
      rw (f, sp.fits.head.whole, sp.fits.head.set, short) refl

  judged_bad_set : (fault : SetFault) (r : RefusesSet input fault) → judged input r.head [] r.rest ≡ Some (BadSet fault)
  judged_bad_set fault r = rw (r.whole, r.broken) refl

  judged_short : (n : ℕ) (r : EndsShort input n) → judged input r.head r.schedule [] ≡ Some (Short n)
  judged_short n r = at (is_whole r.head) refl where
    at : (t : Bool) → is_whole r.head ≡ t → judged input r.head r.schedule [] ≡ Some (Short n)
    at true e = rw (e, r.set e) (ap (λ k. Some (Short k)) (sym r.number))
    at false e = rw e (ap (λ k. Some (Short k)) (sym r.number))

  judged_too_long : (r : PassesLimit input) → judged input r.head r.schedule (schedule_text_of r.line ++ newline ∷ r.rest) ≡ Some TooLong
  judged_too_long r =
      let f = first_is (schedule_text_of r.line) r.rest (schedule_is_plain r.line r.fits) in
      let long = beyond (given input (front_text r.head r.schedule ++ (schedule_text_of r.line ++ newline ∷ []))) r.long in
      rw (f, r.accepted.whole, r.accepted.set, text_keeps r.line r.fits, long) refl

  judged_bad_line : (line rule : ℕ) (r : RefusesLine input line rule) → judged input r.head r.schedule (r.bytes ++ newline ∷ r.rest) ≡ Some (BadLine line rule)
  judged_bad_line line rule r = at (is_whole r.head) refl r.broken where
    f : first_of (r.bytes ++ newline ∷ r.rest) ≡ Some r.bytes
    f = first_is r.bytes r.rest r.plain

    numbered : Some (BadLine (lines_of r.head r.schedule + 1) rule) ≡ Some (BadLine line rule)
    numbered = ap (λ n. Some (BadLine n rule)) (sym r.number)

    at : (t : Bool) → is_whole r.head ≡ t → Breaks t r.head r.bytes rule → judged input r.head r.schedule (r.bytes ++ newline ∷ r.rest) ≡ Some (BadLine line rule)
    at true e b = rw (f, e, b.0.set, b.1) numbered
    at false e (inl low) = rw (f, e, low) numbered
    at false e (inr last) =
        let keeps : lowest mode.Device place.Head r.bytes ≡ None = ap (lowest mode.Device place.Head) last.1.2 ∙ head_text_keeps last.1.0 last.1.1 in
        let again : head_of r.bytes ≡ Some last.1.0 = ap head_of last.1.2 ∙ head_again last.1.0 last.1.1 in
        rw (f, e, keeps, again, last.1.3) (ap (λ k. Some (BadLine (lines_of r.head r.schedule + 1) k)) (sym last.0) ∙ numbered)

  -- a reading goes on where its next line is good
  goes_on_head : (h : List HeadLine) (s : List DevLine) (line : HeadLine) (rest : List ℕ) → is_whole h ≡ false → IsHead line → in_order h line ≡ true
      → judged input h s (head_text line ++ newline ∷ rest) ≡ None
  goes_on_head h s line rest e fits order =
      let f = first_is (head_text line) rest (head_is_plain line fits) in
      rw (f, e, head_text_keeps line fits, head_again line fits, order) refl

  goes_on_schedule : (h : List HeadLine) (s : List DevLine) (line : DevLine) (rest : List ℕ) → IsAccepted h → IsDeviceLine line
      → given input (front_text h s ++ schedule_line line) ≤ most_bytes → judged input h s (line_text (Device line) ++ newline ∷ rest) ≡ None
  goes_on_schedule h s line rest ok fits short =
      let f = first_is (line_text (Device line)) rest (schedule_is_plain (schedule.Device line) fits) in
      let no_end = other_bytes (line_text (Device line)) (line_text End) (λ e. let same = same_schedule (schedule.Device line) schedule.End fits tt e in cc (same)) in
      let below = within (given input (front_text h s ++ schedule_line line)) short in
      rw (f, ok.whole, ok.set, text_keeps (schedule.Device line) fits, below, no_end) refl

-- a whole head has no line more
whole_is_last : (last : Option HeadLine) (line : HeadLine) → ends_head last ≡ true → follows last line ≡ false
whole_is_last None line e = absurd (cc (e))
whole_is_last (Some (head.Device x)) line e = absurd (cc (e))
whole_is_last (Some (head.Config x)) line e = absurd (cc (e))
whole_is_last (Some (head.Text i x)) line e = absurd (cc (e))
whole_is_last (Some (head.Report x)) line e = absurd (cc (e))
whole_is_last (Some head.Begin) line e = refl

unfinished : (h : List HeadLine) (line : HeadLine) → in_order h line ≡ true → is_whole h ≡ false
unfinished h line o = no (is_whole h) refl where
  no : (t : Bool) → is_whole h ≡ t → is_whole h ≡ false
  no true e = let f = whole_is_last (last_after None h) line e in absurd (cc (rw f at o))
  no false e = e

-- two heads in front of the same bytes: they are one, or one of them goes on
data Heads (before a b : List HeadLine) (x y : List ℕ) : Type 0 where
  Same : (a ≡ b) → (x ≡ y) → Heads before a b x y
  First : (line : HeadLine) (rest : List ℕ) → IsHead line → (in_order (before ++ a) line ≡ true) → (x ≡ head_text line ++ newline ∷ rest) → Heads before a b x y
  Second : (line : HeadLine) (rest : List ℕ) → IsHead line → (in_order (before ++ b) line ≡ true) → (y ≡ head_text line ++ newline ∷ rest) → Heads before a b x y

more_heads : (before a b : List HeadLine) (line : HeadLine) (x y : List ℕ) → Heads (before ++ line ∷ []) a b x y → Heads before (line ∷ a) (line ∷ b) x y
more_heads before a b line x y (Same e f) = Same (ap (λ t. line ∷ t) e) f
more_heads before a b line x y (First l rest fits o e) =
    First l rest fits (subst (λ (t : List HeadLine). in_order t l ≡ true) (append_assoc before (line ∷ []) a) o) e
more_heads before a b line x y (Second l rest fits o e) =
    Second l rest fits (subst (λ (t : List HeadLine). in_order t l ≡ true) (append_assoc before (line ∷ []) b) o) e

behind : (line : HeadLine) (lines : List HeadLine) (x : List ℕ) → head_lines (line ∷ lines) ++ x ≡ head_text line ++ newline ∷ (head_lines lines ++ x)
behind line lines x = simp append_assoc

heads_align : (before a b : List HeadLine) (x y : List ℕ) → GoOn before a → GoOn before b → head_lines a ++ x ≡ head_lines b ++ y → Heads before a b x y
heads_align before [] [] x y ga gb e = Same refl e
heads_align before [] (l ∷ ls) x y ga gb e =
    First l (head_lines ls ++ y) gb.0 (subst (λ (t : List HeadLine). in_order t l ≡ true) (sym (append-nil before)) gb.1) (e ∙ behind l ls y)
heads_align before (l ∷ ls) [] x y ga gb e =
    Second l (head_lines ls ++ x) ga.0 (subst (λ (t : List HeadLine). in_order t l ≡ true) (sym (append-nil before)) ga.1) (sym e ∙ behind l ls x)
heads_align before (l ∷ ls) (m ∷ ms) x y ga gb e =
    let r = cut_line (head_text l) (head_text m) (head_lines ls ++ x) (head_lines ms ++ y) (head_is_plain l ga.0) (head_is_plain m gb.0)
    (sym (behind l ls x) ∙ e ∙ behind m ms y) in
    let one = same_head l m ga.0 gb.0 r.0 in
    let go = subst (λ (t : HeadLine). GoOn (before ++ t ∷ []) ms) (sym one) gb.2 in
    subst (λ (t : HeadLine). Heads before (l ∷ ls) (t ∷ ms) x y) one (more_heads before ls ms l x y (heads_align (before ++ l ∷ []) ls ms x y ga.2 go r.1))

-- two schedules in front of the same bytes: they are one, or one is the beginning of the other
data Schedules (a b : List DevLine) (x y : List ℕ) : Type 0 where
  Equal : (a ≡ b) → (x ≡ y) → Schedules a b x y
  Shorter : (line : DevLine) (lines : List DevLine) → (b ≡ a ++ line ∷ lines) → IsDeviceLine line → (x ≡ schedule_text (line ∷ lines) ++ y) → Schedules a b x y
  Longer : (line : DevLine) (lines : List DevLine) → (a ≡ b ++ line ∷ lines) → IsDeviceLine line → (y ≡ schedule_text (line ∷ lines) ++ x) → Schedules a b x y

more_schedules : (a b : List DevLine) (line : DevLine) (x y : List ℕ) → Schedules a b x y → Schedules (line ∷ a) (line ∷ b) x y
more_schedules a b line x y (Equal e f) = Equal (ap (λ t. line ∷ t) e) f
more_schedules a b line x y (Shorter l ls e fits f) = Shorter l ls (ap (λ t. line ∷ t) e) fits f
more_schedules a b line x y (Longer l ls e fits f) = Longer l ls (ap (λ t. line ∷ t) e) fits f

behind_line : (line : DevLine) (lines : List DevLine) (x : List ℕ) → schedule_text (line ∷ lines) ++ x ≡ line_text (Device line) ++ newline ∷ (schedule_text lines ++ x)
behind_line line lines x = simp append_assoc

schedules_align : (a b : List DevLine) (x y : List ℕ) → AllByRecursion IsDeviceLine a → AllByRecursion IsDeviceLine b
    → schedule_text a ++ x ≡ schedule_text b ++ y → Schedules a b x y
schedules_align [] [] x y fa fb e = Equal refl e
schedules_align [] (l ∷ ls) x y fa fb e = Shorter l ls refl fb.0 e
schedules_align (l ∷ ls) [] x y fa fb e = Longer l ls refl fa.0 (sym e)
schedules_align (l ∷ ls) (m ∷ ms) x y fa fb e =
    let r = cut_line (line_text (Device l)) (line_text (Device m)) (schedule_text ls ++ x) (schedule_text ms ++ y)
    (schedule_is_plain (schedule.Device l) fa.0) (schedule_is_plain (schedule.Device m) fb.0) (sym (behind_line l ls x) ∙ e ∙ behind_line m ms y) in
    let same = same_schedule (schedule.Device l) (schedule.Device m) fa.0 fb.0 r.0 in
    let one : l ≡ m = cc (same) in
    subst (λ (t : DevLine). Schedules (l ∷ ls) (t ∷ ms) x y) one (more_schedules ls ms l x y (schedules_align ls ms x y fa.1 fb.1 r.1))

-- a reading with its judgement
record Reading (input : List ℕ) (o : Outcome) : Type 0 where
  head : List HeadLine
  schedule : List DevLine
  rest : List ℕ
  front : Front input head schedule rest
  judgement : judged input head schedule rest ≡ Some o

whole_front : (input : List ℕ) (job : Job) (sp : Spells input job) → Front input job.head job.schedule (end_line ++ sp.tail)
whole_front input job sp = record {
  text = sp.text;
  short = omega (arith, sp.short, length-append (front_text job.head job.schedule) end_line);
  lines = sp.fits.head.lines;
  fits = sp.fits.schedule;
  accepted = inr sp.fits.head;
}

reading : (input : List ℕ) (o : Outcome) → IsOutcome input o → Reading input o
reading input (Whole job) h = record {
  head = job.head;
  schedule = job.schedule;
  rest = end_line ++ h.tail;
  front = whole_front input job h;
  judgement = judged_whole input job h;
}
reading input (BadLine line rule) h = record {
  head = h.head;
  schedule = h.schedule;
  rest = h.bytes ++ newline ∷ h.rest;
  front = h.front;
  judgement = judged_bad_line input line rule h;
}
reading input (BadSet fault) h = record { head = h.head; schedule = []; rest = h.rest; front = h.front; judgement = judged_bad_set input fault h }
reading input (Short lines) h = record { head = h.head; schedule = h.schedule; rest = []; front = h.front; judgement = judged_short input lines h }
reading input TooLong h = record {
  head = h.head;
  schedule = h.schedule;
  rest = schedule_text_of h.line ++ newline ∷ h.rest;
  front = h.front;
  judgement = judged_too_long input h;
}

-- a reading that ended doesn't go on
never : (input : List ℕ) (o : Outcome) (r : Reading input o) → judged input r.head r.schedule r.rest ≡ None → ⊥
never input o r e = let j = r.judgement in cc (e, j)

-- no line follows in a head where a schedule follows it
no_schedule : (input : List ℕ) (o : Outcome) (r : Reading input o) (line : HeadLine) → in_order r.head line ≡ true → r.schedule ≡ []
no_schedule input o r line order = at r.front.accepted where
  at : (r.schedule ≡ []) ⊎ IsAccepted r.head → r.schedule ≡ []
  at (inl e) = e
  at (inr ok) = let f = unfinished r.head line order in let w = ok.whole in absurd (cc (f, w))

stays_in_head : (input : List ℕ) (o : Outcome) (r : Reading input o) (line : HeadLine) (rest : List ℕ) → IsHead line → in_order r.head line ≡ true
    → schedule_text r.schedule ++ r.rest ≡ head_text line ++ newline ∷ rest → ⊥
stays_in_head input o r line rest fits order e =
    let none = no_schedule input o r line order in
    let text : r.rest ≡ head_text line ++ newline ∷ rest = ap (λ s. schedule_text s ++ r.rest) (sym none) ∙ e in
    never input o r (ap (judged input r.head r.schedule) text ∙ goes_on_head input r.head r.schedule line rest (unfinished r.head line order) fits order)

schedule-append : (xs ys : List DevLine) → schedule_text (xs ++ ys) ≡ schedule_text xs ++ schedule_text ys
schedule-append [] ys = refl
schedule-append (x ∷ xs) ys = ap (λ t. schedule_line x ++ t) (schedule-append xs ys) ∙ sym (append_assoc (schedule_line x) (schedule_text xs) (schedule_text ys))

-- nor in a schedule
stays_in_schedule : (input : List ℕ) (o : Outcome) (r : Reading input o) (line : DevLine) (lines : List DevLine) (rest : List ℕ) → IsAccepted r.head → IsDeviceLine line
    → given input (front_text r.head (r.schedule ++ line ∷ lines)) ≤ most_bytes → r.rest ≡ schedule_text (line ∷ lines) ++ rest → ⊥
stays_in_schedule input o r line lines rest ok fits short e =
    let text : r.rest ≡ line_text (Device line) ++ newline ∷ (schedule_text lines ++ rest) = e ∙ behind_line line lines rest in
    let few : given input (front_text r.head r.schedule ++ schedule_line line) ≤ most_bytes =
    omega (
      arith,
      short,
      ap length (schedule-append r.schedule (line ∷ lines)),
      length-append (head_lines r.head) (schedule_text (r.schedule ++ line ∷ lines)),
      length-append (schedule_text r.schedule) (schedule_text (line ∷ lines)),
      length-append (schedule_line line) (schedule_text lines),
      length-append (front_text r.head r.schedule) (schedule_line line),
      length-append (head_lines r.head) (schedule_text r.schedule),
    ) in
    never input o r (ap (judged input r.head r.schedule) text ∙ goes_on_schedule input r.head r.schedule line (schedule_text lines ++ rest) ok fits few)

-- a schedule with a line has an accepted head
has_accepted : (h : List HeadLine) (s : List DevLine) → (s ≡ []) ⊎ IsAccepted h → (s ≡ [] → ⊥) → IsAccepted h
has_accepted h s (inl e) n = absurd (n e)
has_accepted h s (inr ok) n = ok

not_empty : (a : List DevLine) (line : DevLine) (lines : List DevLine) → a ++ line ∷ lines ≡ [] → ⊥
not_empty [] line lines e = cc (e)
not_empty (l ∷ ls) line lines e = cc (e)

same_judgement : (input : List ℕ) (o p : Outcome) (r : Reading input o) (q : Reading input p) → r.head ≡ q.head → r.schedule ≡ q.schedule → r.rest ≡ q.rest → o ≡ p
same_judgement input o p r q h s e =
    let both : Some o ≡ Some p =
    sym r.judgement ∙ ap (λ t. judged input t r.schedule r.rest) h ∙ ap (λ t. judged input q.head t r.rest) s ∙ ap (judged input q.head q.schedule) e ∙ q.judgement in
    cc (both)

by_schedules : (input : List ℕ) (o p : Outcome) (r : Reading input o) (q : Reading input p) → r.head ≡ q.head → Schedules r.schedule q.schedule r.rest q.rest → o ≡ p
by_schedules input o p r q h (Equal s e) = same_judgement input o p r q h s e
by_schedules input o p r q h (Shorter line lines s fits e) =
    let ok : IsAccepted q.head = has_accepted q.head q.schedule q.front.accepted (λ n. not_empty r.schedule line lines (sym s ∙ n)) in
    let short = subst (λ (t : List DevLine). given input (front_text q.head t) ≤ most_bytes) s q.front.short in
    absurd (stays_in_schedule input o r line lines q.rest (subst IsAccepted (sym h) ok) fits
    (subst (λ (t : List HeadLine). given input (front_text t (r.schedule ++ line ∷ lines)) ≤ most_bytes) (sym h) short) e)
by_schedules input o p r q h (Longer line lines s fits e) =
    let ok : IsAccepted r.head = has_accepted r.head r.schedule r.front.accepted (λ n. not_empty q.schedule line lines (sym s ∙ n)) in
    let short = subst (λ (t : List DevLine). given input (front_text r.head t) ≤ most_bytes) s r.front.short in
    absurd (stays_in_schedule input p q line lines r.rest (subst IsAccepted h ok) fits
    (subst (λ (t : List HeadLine). given input (front_text t (q.schedule ++ line ∷ lines)) ≤ most_bytes) h short) e)

by_heads : (input : List ℕ) (o p : Outcome) (r : Reading input o) (q : Reading input p)
    → Heads [] r.head q.head (schedule_text r.schedule ++ r.rest) (schedule_text q.schedule ++ q.rest) → o ≡ p
by_heads input o p r q (Same h e) = by_schedules input o p r q h (schedules_align r.schedule q.schedule r.rest q.rest r.front.fits q.front.fits e)
by_heads input o p r q (First line rest fits order e) = absurd (stays_in_head input o r line rest fits order e)
by_heads input o p r q (Second line rest fits order e) = absurd (stays_in_head input p q line rest fits order e)

-- no bytes have two outcomes
pub one_outcome : (input : List ℕ) (a b : Outcome) → IsOutcome input a → IsOutcome input b → a ≡ b
one_outcome input a b ha hb =
    let r = reading input a ha in
    let q = reading input b hb in
    by_heads input a b r q (heads_align [] r.head q.head (schedule_text r.schedule ++ r.rest) (schedule_text q.schedule ++ q.rest) r.front.lines q.front.lines
    (sym (append_assoc (head_lines r.head) (schedule_text r.schedule) r.rest) ∙ sym r.front.text ∙ q.front.text
    ∙ append_assoc (head_lines q.head) (schedule_text q.schedule) q.rest))

-- what ends in the head is an outcome
pub in_head_is : (input : List ℕ) (o : Outcome) → EndsInHead input o → IsOutcome input o
in_head_is input (Whole job) h = absurd h
in_head_is input (BadLine line rule) h = h.0
in_head_is input (BadSet fault) h = h
in_head_is input (Short lines) h = h.0
in_head_is input TooLong h = absurd h

unequal : (b : Bool) → b ≡ false → b ≡ true → ⊥
unequal b h k = let no : true ≡ false = sym k ∙ h in cc (no)

-- its head isn't whole with an accepted set
head_open : (input : List ℕ) (o : Outcome) (h : EndsInHead input o) → IsAccepted (reading input o (in_head_is input o h)).head → ⊥
unfolding reading in_head_is
head_open input (Whole job) h ok = h
head_open input (BadLine line rule) h ok = unequal (is_whole h.0.head) h.1 ok.whole
head_open input (BadSet fault) h ok = let no : None ≡ Some fault = sym ok.set ∙ h.broken in cc (no)
head_open input (Short lines) h ok = unequal (is_whole h.0.head) h.1 ok.whole
head_open input TooLong h ok = h

-- bytes that begin with a whole head with an accepted set have no outcome in the head
pub not_in_head : (input : List ℕ) (head : List HeadLine) (schedule : List DevLine) (rest : List ℕ) → Front input head schedule rest → IsAccepted head
    → (o : Outcome) → EndsInHead input o → ⊥
not_in_head input head schedule rest f ok o h = apart (heads_align [] r.head head (schedule_text r.schedule ++ r.rest) (schedule_text schedule ++ rest) r.front.lines f.lines
    (sym (append_assoc (head_lines r.head) (schedule_text r.schedule) r.rest) ∙ sym r.front.text ∙ f.text
    ∙ append_assoc (head_lines head) (schedule_text schedule) rest)) where
      r : Reading input o
      r = reading input o (in_head_is input o h)

      apart : Heads [] r.head head (schedule_text r.schedule ++ r.rest) (schedule_text schedule ++ rest) → ⊥
      apart (Same e same_rest) = head_open input o h (subst IsAccepted (sym e) ok)
      apart (First line more fits order e) = stays_in_head input o r line more fits order e
      apart (Second line more fits order e) = unequal (is_whole head) (unfinished head line order) ok.whole
