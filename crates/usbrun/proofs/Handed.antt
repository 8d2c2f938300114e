-- What a sink took of what waits.
use Rattle.std.proofs.Common.{◌≡◌, ℕ, ◌-◌, ◌<◌, ◌≤◌, List, [], ◌∷◌, ◌++◌, Bool, true, false, length, map, take, drop, refl, ap, sym, ◌∙◌, arith, subst, append_assoc, ◌⊎◌, inl, inr, length-drop}
use Rattle.std.specs.Prelude.{Option}
use Rattle.std.specs.List.{flat_map}
use Rattle.std.proofs.lemmas.List.{take-append-drop, take_all, append-nil}
use Rattle.std.proofs.lemmas.List.Concat.{flat_map-append}
use Rattle.usb_edge.specs.Stream.{Takes, Rose}
use Rattle.usb_edge.proofs.Streams.{takes-nothing, takes-more}
use Rattle.dwc2_regs.specs.declared.access.Access.{Access}
use Rattle.device_line.specs.declared.line.Answer.{Answer}
use Rattle.device_text.specs.Answers.{answer_line}
use Rattle.device_schedule.specs.Turns.{Turn}
use Rattle.device_text.specs.Trace.{turn_lines, trace_lines, ended, trace_text}
use Rattle.device_text.proofs.Traces.{trace_text-more, turn_text-parts}
use Rattle.usbrun.specs.Stream.{Hands}
use Rattle.usbrun.specs.Texts.{HandsOut, added, added_where, out_part, trace_part, texts_of}
use Rattle.usbrun.specs.declared.texts.Texts.{Texts}
use Rattle.usbrun.specs.Status.{status_line, Tells}
use Rattle.usbrun.specs.declared.status.Status.{Status}

pub all_handed : (taken taken' : Option (List ℕ)) (bytes : List ℕ) (n : ℕ) → n ≡ length bytes → Takes taken taken' (take n bytes) → Hands taken taken' bytes []
all_handed taken taken' bytes n e h = record {
  given = take n bytes;
  takes = h;
  joined = sym (append-nil (take n bytes) ∙ take_all n bytes (omega arith));
}

pub some_handed : (taken taken' : Option (List ℕ)) (bytes : List ℕ) (n : ℕ) → Takes taken taken' (take n bytes) → Hands taken taken' bytes (drop n bytes)
some_handed taken taken' bytes n h = record { given = take n bytes; takes = h; joined = sym (take-append-drop n bytes) }

pub none_handed : (taken : Option (List ℕ)) (bytes : List ℕ) → Hands taken taken bytes bytes
none_handed taken bytes = record { given = []; takes = takes-nothing taken; joined = refl }

-- what was handed on in two steps, and what was added between them
pub hands-more : (a b c : Option (List ℕ)) (x y z more : List ℕ) → Hands a b x y → Hands b c (y ++ more) z → Hands a c (x ++ more) z
hands-more a b c x y z more h k = record {
  given = h.given ++ k.given;
  takes = takes-more a b c h.given k.given h.takes k.takes;
  joined =
      ap (λ t. t ++ more) h.joined ∙ append_assoc h.given y more ∙ ap (λ t. h.given ++ t) k.joined
      ∙ sym (append_assoc h.given k.given z);
}

-- a text that is another one
pub hands_as : (a b : Option (List ℕ)) (x y z : List ℕ) → x ≡ y → Hands a b x z → Hands a b y z
hands_as a b x y z e h = record { given = h.given; takes = h.takes; joined = sym e ∙ h.joined }

pub nothing_handed : (taken : Option (List ℕ)) (s : Texts) → HandsOut taken taken s s
nothing_handed taken s = record { out = none_handed taken s.out; regs = refl }

out_added : (a b c : Option (List ℕ)) (old s new : Texts) (accesses : List Access) (answer : Answer) → HandsOut a b old s
    → HandsOut b c (added s accesses answer) new → HandsOut a c (added old accesses answer) new
out_added a b c old s new accesses answer h k = record {
  out = hands-more a b c old.out s.out new.out (out_part old.regs accesses answer) h.out
      (hands_as b c (s.out ++ out_part s.regs accesses answer) (s.out ++ out_part old.regs accesses answer) new.out
      (ap (λ r. s.out ++ out_part r accesses answer) h.regs) k.out);
  regs = k.regs ∙ h.regs;
}

pub out_more : (a b c : Option (List ℕ)) (old s new : Texts) → HandsOut a b old s → HandsOut b c s new → HandsOut a c old new
out_more a b c old s new h k = record {
  out =
      hands_as a c (old.out ++ []) old.out new.out (append-nil old.out)
      (hands-more a b c old.out s.out new.out [] h.out (hands_as b c s.out (s.out ++ []) new.out (sym (append-nil s.out)) k.out));
  regs = k.regs ∙ h.regs;
}

-- some was handed on before a line, and some behind it
pub out_joined : (told : Bool) (a b c : Option (List ℕ)) (old s new : Texts) (accesses : List Access) (answer : Answer) → HandsOut a b old s
    → HandsOut b c (added_where told s accesses answer) new → HandsOut a c (added_where told old accesses answer) new
out_joined true a b c old s new accesses answer h k = out_added a b c old s new accesses answer h k
out_joined false a b c old s new accesses answer h k = out_more a b c old s new h k

-- some was handed on, and then a line's part was put behind what waits
pub then_added : (told : Bool) (a b : Option (List ℕ)) (old s new : Texts) (accesses : List Access) (answer : Answer) → HandsOut a b old s
    → new ≡ added_where told s accesses answer → HandsOut a b (added_where told old accesses answer) new
then_added told a b old s new accesses answer h e =
    out_joined told a b b old s new accesses answer h (subst (λ (t : Texts). HandsOut b b t new) e (nothing_handed b new))

-- a line's texts and then what a line had added

pub texts-nothing : (taken : Option (List ℕ)) (s : Texts) → s.out ≡ [] → HandsOut taken taken (texts_of s.regs []) s
texts-nothing taken s e = record {
  out = hands_as taken taken s.out (texts_of s.regs []).out s.out (e ∙ nothing s.regs) (none_handed taken s.out);
  regs = refl;
} where
  nothing : (regs : Bool) → [] ≡ (texts_of regs []).out
  nothing true = refl
  nothing false = refl

answer_lines-more : (turns : List Turn) (turn : Turn)
    → flat_map answer_line (map (λ t. t.answer) (turns ++ turn ∷ [])) ≡ flat_map answer_line (map (λ t. t.answer) turns) ++ answer_line turn.answer
answer_lines-more [] turn = append-nil (answer_line turn.answer)
answer_lines-more (u ∷ us) turn =
    ap (λ t. answer_line u.answer ++ t) (answer_lines-more us turn)
    ∙ sym (append_assoc (answer_line u.answer) (flat_map answer_line (map (λ t. t.answer) us)) (answer_line turn.answer))

pub trace_is-more : (turns : List Turn) (turn : Turn) → trace_text turns ++ trace_part turn.accesses turn.answer ≡ trace_text (turns ++ turn ∷ [])
trace_is-more turns turn = ap (λ t. trace_text turns ++ t) (sym (turn_text-parts turn)) ∙ sym (trace_text-more turns turn)

out_is-more : (regs : Bool) (turns : List Turn) (turn : Turn) → (texts_of regs turns).out ++ out_part regs turn.accesses turn.answer ≡ (texts_of regs (turns ++ turn ∷ [])).out
out_is-more true turns turn = trace_is-more turns turn
out_is-more false turns turn = sym (answer_lines-more turns turn)

pub texts-more : (a b c : Option (List ℕ)) (regs : Bool) (turns : List Turn) (turn : Turn) (s new : Texts) → HandsOut a b (texts_of regs turns) s
    → HandsOut b c (added s turn.accesses turn.answer) new → HandsOut a c (texts_of regs (turns ++ turn ∷ [])) new
texts-more a b c regs turns turn s new h k =
    let all = out_added a b c (texts_of regs turns) s new turn.accesses turn.answer h k in
    record { out = hands_as a c _ (texts_of regs (turns ++ turn ∷ [])).out new.out (out_is-more regs turns turn) all.out; regs = all.regs }

pub trace-told : (a b c : Option (List ℕ)) (turns : List Turn) (turn : Turn) → Takes a b (trace_text turns) → Takes b c (trace_part turn.accesses turn.answer)
    → Takes a c (trace_text (turns ++ turn ∷ []))
trace-told a b c turns turn h k =
    subst (Takes a c) (trace_is-more turns turn) (takes-more a b c (trace_text turns) (trace_part turn.accesses turn.answer) h k)

-- the text of all lines is that of the first ones and then that of the others
pub trace_text-append : (done rest : List Turn) → trace_text (done ++ rest) ≡ trace_text done ++ trace_text rest
trace_text-append done rest = ap (flat_map ended) (flat_map-append turn_lines done rest) ∙ flat_map-append ended (trace_lines done) (trace_lines rest)

-- a status's line, or the front of it that a sink took before it failed
pub line_told : (status : Status) (line : List ℕ) (n : ℕ) (taken taken' : Option (List ℕ)) (faults faults' : ℕ) → line ≡ status_line status → n ≤ length line
    → Takes taken taken' (take n line) → (n < length line → Rose faults faults') → Tells status taken taken' faults faults'
line_told status line n taken taken' faults faults' e within takes failed = record {
  given = take n line;
  more = drop n line;
  text = sym e ∙ sym (take-append-drop n line);
  takes = takes;
  whole = whole (drop n line) (length-drop n line);
} where
  whole : (rest : List ℕ) → length rest ≡ length line - n → (rest ≡ []) ⊎ Rose faults faults'
  whole [] k = inl refl
  whole (b ∷ bs) k = inr (failed (omega (arith, k)))
