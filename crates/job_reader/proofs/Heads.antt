-- A head, line by line.
use Rattle.std.proofs.Common.{◌≡◌, ℕ, ◌+◌, ◌≤◌, ◌<◌, List, [], ◌∷◌, ◌++◌, true, false, length, take, drop, refl, ap, sym, ◌∙◌, subst, append_assoc, arith, length-append, Option, Some, None, inl}
use Rattle.std.proofs.lemmas.List.{append-nil, length-take-le}
use Rattle.std.proofs.lemmas.Bool.Decides.{nat_tests}
use Rattle.usb_edge.specs.Stream.{IsAtEnd, Rose}
use Rattle.usb_edge.proofs.Streams.{rose_within}
use Rattle.line_rules.specs.declared.rules.Mode.{Mode}
use Rattle.line_rules.specs.declared.rules.Mode.TheVariants as mode
use Rattle.line_rules.specs.declared.rules.Place.{Place}
use Rattle.line_rules.specs.declared.rules.Place.TheVariants as place
use Rattle.line_rules.specs.Rules.{lowest, most_line, rule_1}
use Rattle.usb_text.specs.declared.head.HeadLine.{HeadLine}
use Rattle.usb_text.specs.Line.{newline}
use Rattle.usb_text.specs.Head.{head_text, IsHead}
use Rattle.usb_text.specs.Plain.{is_plain}
use Rattle.device_text.specs.Job.{closed, head_line, head_lines, is_whole}
use Rattle.device_text.proofs.Closed.{closed_heads, begins}
use Rattle.job_reader.specs.Stream.{bytes_left}
use Rattle.job_reader.specs.Lines.{Finds, IsLineAt, Gone, IsCut, size_of}
use Rattle.job_reader.specs.Draft.{new_draft, accepts, with_head, is_whole as is_whole_stage}
use Rattle.job_reader.specs.Head.{new_lines, most_heads, TakesHead, BreaksHead, HeadCause, FailsHead, HeadSoFar, HeadStops}
use Rattle.job_reader.specs.declared.lines.Lines.{Lines}
use Rattle.job_reader.specs.declared.draft.Draft.{Draft}
use Rattle.job_reader.specs.declared.head.NoHead.{NoHead}
use Rattle.job_reader.specs.declared.head.NoHead.TheVariants.{Refused, Short, ReadFault}
use Rattle.job_reader.proofs.Gone.{line_at, line_taken, line_size, gone_nothing, gone_found, gone_more}
use Rattle.job_reader.proofs.Drafts.{accepts_in_order, draft_whole, draft_none, draft_more, so_far-more, rises_more, nearer, rank_most}

-- a line that was read and has its place
pub head_taken : (line : HeadLine) (draft : Draft) (n : ℕ) (left left' : Option (List ℕ)) (old s new : Lines) → Finds left left' old s → IsLineAt n s
    → take n s.reader ≡ head_text line → IsHead line → accepts draft.stage (length draft.strings.items) line ≡ true
    → new.reader ≡ drop (n + 1) s.reader → new.ended ≡ s.ended → new.count ≡ s.count + size_of n s.reader → new.lines ≡ s.lines + 1
    → length (head_text line) ≤ most_line → TakesHead line draft left left' old new
head_taken line draft n left left' old s new f h text fits accepted reader ended count lines short = record {
  fits = fits;
  accepted = accepted;
  gone = subst (λ (t : List ℕ). Gone left left' old new (t ++ newline ∷ []) 1) text (line_taken n left left' old s new f h reader ended count lines);
  size = omega (arith, count, f.count, ap length text, short, length_of n s.reader h.within);
  more = omega (arith, count, f.count, line_size n s h);
} where
  length_of : (n : ℕ) (bytes : List ℕ) → n ≤ length bytes → length (take n bytes) ≡ n
  length_of n bytes le = length-take-le n bytes le

-- a line that breaks a rule
pub head_refused : (rule : ℕ) (draft : Draft) (n : ℕ) (left left' : Option (List ℕ)) (faults faults' : ℕ) (old s : Lines) → Finds left left' old s → IsLineAt n s
    → (s.ended ≡ true → IsAtEnd left') → BreaksHead draft (take n s.reader) rule → FailsHead (Refused rule) draft left left' faults faults' old s
head_refused rule draft n left left' faults faults' old s f h ends broken = record {
  finds = f;
  cause = (take n s.reader, closed (drop (n + 1) s.reader ++ bytes_left left'), (line_at n s left' h ends).text, h.plain, broken);
  cut = λ e. absurd (cc (e));
}

-- more bytes than a line has
long_breaks : (m : Mode) (p : Place) (bytes : List ℕ) → most_line < length bytes → lowest m p bytes ≡ Some 1
long_breaks m p bytes long = let no : rule_1 bytes ≡ false = grind (arith, nat_tests) in rw no refl

pub too_long : (m : Mode) (p : Place) (s : Lines) (left : Option (List ℕ)) → is_plain s.reader ≡ true → most_line < length s.reader
    → (bytes tail : List ℕ) × (closed (s.reader ++ bytes_left left) ≡ bytes ++ newline ∷ tail) × (is_plain bytes ≡ true) × (lowest m p bytes ≡ Some 1)
too_long m p s left plain long =
    let b = begins s.reader (bytes_left left) plain (omega (arith, long)) in
    (b.bytes, b.rest, b.text, b.plain, long_breaks m p b.bytes (omega (arith, b.longer, long)))

pub head_long : (draft : Draft) (left left' : Option (List ℕ)) (faults faults' : ℕ) (old s : Lines) → Finds left left' old s
    → is_plain s.reader ≡ true → most_line < length s.reader → FailsHead (Refused 1) draft left left' faults faults' old s
head_long draft left left' faults faults' old s f plain long =
    let b = too_long mode.Device place.Head s left' plain long in
    record { finds = f; cause = (b.0, b.1, b.2, b.3, inl b.4); cut = λ e. absurd (cc (e)) }

pub head_short : (draft : Draft) (left left' : Option (List ℕ)) (faults faults' : ℕ) (old s : Lines) → Finds left left' old s
    → s.reader ≡ [] → s.ended ≡ true → (s.ended ≡ true → IsAtEnd left') → FailsHead Short draft left left' faults faults' old s
head_short draft left left' faults faults' old s f empty ended ends = record {
  finds = f;
  cause = ap (λ t. t ++ bytes_left left') empty ∙ none left' (ends ended);
  cut = λ e. absurd (cc (e));
} where
  none : (left : Option (List ℕ)) → IsAtEnd left → bytes_left left ≡ []
  none None h = refl
  none (Some l) h = h

pub head_fault : (draft : Draft) (left left' : Option (List ℕ)) (faults faults' : ℕ) (old s : Lines) → Finds left left' old s → Rose faults faults' → IsCut s
    → FailsHead ReadFault draft left left' faults faults' old s
head_fault draft left left' faults faults' old s f rose cut = record { finds = f; cause = rose; cut = λ e. cut }

pub heads_start : (left : Option (List ℕ)) (s : Lines) → s ≡ new_lines → HeadSoFar new_draft left left s s
heads_start left s e = record {
  heads = [];
  lines = tt;
  holds = draft_none;
  gone = gone_nothing left s;
  size = omega (arith, ap (λ t. t.count) e, ap (λ t. t.lines) e);
  paid = omega (arith, ap (λ t. t.lines) e);
  few = omega (arith, ap (λ t. t.lines) e);
  room = omega arith;
  rises = refl;
}

heads-append : (lines : List HeadLine) (line : HeadLine) → head_lines (lines ++ line ∷ []) ≡ head_lines lines ++ head_line line
heads-append [] line = append-nil (head_line line)
heads-append (l ∷ ls) line = ap (λ t. head_line l ++ t) (heads-append ls line) ∙ sym (append_assoc (head_line l) (head_lines ls) (head_line line))

pub heads_more : (draft : Draft) (line : HeadLine) (left0 left left' : Option (List ℕ)) (old s new : Lines)
    → HeadSoFar draft left0 left old s → TakesHead line draft left left' s new → HeadSoFar (with_head draft line) left0 left' old new
heads_more draft line left0 left left' old s new h t =
    let next = nearer draft line t.accepted in
    record {
      heads = h.heads ++ line ∷ [];
      lines = so_far-more h.heads line h.lines t.fits (sym (accepts_in_order draft h.heads line h.holds) ∙ t.accepted);
      holds = draft_more draft h.heads line h.holds;
      gone = subst (λ (n : ℕ). Gone left0 left' old new (head_lines (h.heads ++ line ∷ [])) n) (sym (length-append h.heads (line ∷ [])))
          (subst (λ (x : List ℕ). Gone left0 left' old new x (length h.heads + 1)) (sym (heads-append h.heads line))
          (gone_more left0 left left' old s new (head_lines h.heads) (head_line line) (length h.heads) 1 (closed_heads h.heads) h.gone t.gone));
      size = omega (arith, h.size, t.size, t.gone.lines);
      paid = omega (arith, h.paid, t.gone.lines, t.more);
      few = omega (arith, h.few, t.gone.lines, next.place);
      room = next.room h.room;
      rises = rises_more draft line t.accepted t.fits h.rises;
    }

pub heads_whole : (draft : Draft) (left left' : Option (List ℕ)) (old new : Lines) (h : HeadSoFar draft left left' old new) → is_whole_stage draft.stage ≡ true
    → (h : HeadSoFar draft left left' old new) × (is_whole h.heads ≡ true)
heads_whole draft left left' old new h e = (h, sym (draft_whole draft h.heads h.holds) ∙ e)

-- a head that goes no further
abbrev pub found : (draft : Draft) (left0 left left' : Option (List ℕ)) (old s new : Lines) → HeadSoFar draft left0 left old s → Finds left left' s new
    → HeadSoFar draft left0 left' old new
found draft left0 left left' old s new h f = record {
  heads = h.heads;
  lines = h.lines;
  holds = h.holds;
  gone = subst (λ (n : ℕ). Gone left0 left' old new (head_lines h.heads) n) (add_none (length h.heads))
      (subst (λ (x : List ℕ). Gone left0 left' old new x (length h.heads + 0)) (append-nil (head_lines h.heads))
      (gone_more left0 left left' old s new (head_lines h.heads) [] (length h.heads) 0 (closed_heads h.heads) h.gone (gone_found left left' s new f)));
  size = omega (arith, h.size, f.count, f.lines);
  paid = omega (arith, h.paid, f.count, f.lines);
  few = omega (arith, h.few, f.lines);
  room = h.room;
  rises = h.rises;
} where
  add_none : (n : ℕ) → n + 0 ≡ n
  add_none n = omega arith

cause_within : (e : NoHead) (draft : Draft) (rest : List ℕ) (a b c : ℕ) → a ≤ b → HeadCause e draft rest b c → HeadCause e draft rest a c
cause_within (Refused rule) draft rest a b c le h = h
cause_within Short draft rest a b c le h = h
cause_within ReadFault draft rest a b c le h = rose_within a b c c le h (omega arith)

pub heads_fail : (e : NoHead) (draft : Draft) (left0 left left' : Option (List ℕ)) (faults0 faults faults' : ℕ) (old s new : Lines)
    → HeadSoFar draft left0 left old s → is_whole_stage draft.stage ≡ false → faults0 ≤ faults → FailsHead e draft left left' faults faults' s new
    → HeadStops e left0 left' faults0 faults' old new
heads_fail e draft left0 left left' faults0 faults faults' old s new h going le f = record {
  draft = draft;
  so_far = found draft left0 left left' old s new h f.finds;
  unfinished = sym (draft_whole draft h.heads h.holds) ∙ going;
  cause = cause_within e draft (new.reader ++ bytes_left left') faults0 faults faults' le f.cause;
  cut = f.cut;
}

pub heads_few : (draft : Draft) (left left' : Option (List ℕ)) (old new : Lines) → HeadSoFar draft left left' old new → new.lines ≤ most_heads
heads_few draft left left' old new h = omega (arith, h.few, h.room, rank_most draft.stage)
