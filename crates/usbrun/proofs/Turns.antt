-- One line of a schedule, and then many.
use Rattle.std.proofs.Common.{◌≡◌, ℕ, ◌+◌, ◌≤◌, ◌<◌, List, [], ◌∷◌, ◌++◌, Bool, true, false, length, take, drop, refl, ap, sym, ◌∙◌, subst, append_assoc, arith, length-append, Option, Some, None}
use Rattle.std.specs.List.{AllByRecursion}
use Rattle.std.proofs.lemmas.List.{append-nil}
use Rattle.usb_edge.specs.Stream.{Takes, IsAtEnd}
use Rattle.usb_edge.proofs.Streams.{takes-nothing, takes-more}
use Rattle.line_rules.specs.declared.rules.Mode.TheVariants as mode
use Rattle.line_rules.specs.declared.rules.Place.TheVariants as place
use Rattle.line_rules.specs.Rules.{most_line}
use Rattle.device_line.specs.declared.line.DevLine.{DevLine}
use Rattle.device_line.specs.declared.line.Answer.{Answer}
use Rattle.usb_text.specs.declared.line.Line.TheVariants.{End}
use Rattle.usb_text.specs.Line.{newline, line_text, schedule_text_of, IsDeviceLine}
use Rattle.usb_text.specs.Plain.{is_plain}
use Rattle.dwc2_regs.specs.declared.access.TheConstants.{FS4}
use Rattle.device_table.specs.State.{Table, opened}
use Rattle.usb_descriptor.specs.Set.{Set}
use Rattle.device_world.specs.State.{State}
use Rattle.device_world.specs.World.{world_of}
use Rattle.device_owners.specs.Device.{Device, World, start}
use Rattle.device_owners.specs.Lines.{whole, line_answer, after_line, state_after, answer_to}
use Rattle.device_owners.specs.Isolation.{Isolates}
use Rattle.device_text.specs.Job.{schedule_line, schedule_text, end_line, closed, given, most_bytes}
use Rattle.device_schedule.specs.Turns.{Turn, IsTurn, IsTrace, after_turn}
use Rattle.device_text.specs.Trace.{trace_text}
use Rattle.device_schedule.proofs.Answers.{state_after-more}
use Rattle.device_text.proofs.Traces.{after_turns-more, trace-more}
use Rattle.device_run.specs.Run.{Run, Steps, loads_of, world, answer_of}
use Rattle.device_text.proofs.Closed.{closed_schedule}
use Rattle.job_reader.specs.Stream.{bytes_left}
use Rattle.job_reader.specs.Lines.{Finds, IsLineAt, Gone, IsCut, size_of}
use Rattle.job_reader.specs.declared.lines.Lines.{Lines}
use Rattle.usbrun.specs.declared.session.Session.{Session}
use Rattle.usbrun.specs.declared.session.Stop.{Stop}
use Rattle.usbrun.specs.declared.session.Stop.TheVariants as stop
use Rattle.usbrun.specs.Texts.{Took, both, Hears, HandsOut, trace_part, added_where, texts_of}
use Rattle.usbrun.specs.Session.{Looks, Answers, Keeps, Stands, Halted, TakesLine, IsHalt, Turns, Halts, Goes, StayInOrder, Progress, Runs}
use Rattle.job_reader.proofs.Gone.{line_at, line_taken, line_size, gone_nothing, gone_found, gone_more}
use Rattle.job_reader.proofs.Heads.{too_long}
use Rattle.usbrun.proofs.Ordered.{order_start, order_more}
use Rattle.usbrun.proofs.Handed.{nothing_handed, out_more, out_joined, texts-more, texts-nothing, trace-told, trace_is-more}

-- the causes of a run's end at the line in front
halted_cause : (r : Stop) (s : Session) (n : ℕ) (left : Option (List ℕ)) → IsLineAt n s.lines → (s.lines.ended ≡ true → IsAtEnd left) → Halted r n s
    → IsHalt r (s.lines.reader ++ bytes_left left) s.lines.count
halted_cause stop.End s n left h ends c =
    let at = line_at n s.lines left h ends in
    let rest = closed (drop (n + 1) s.lines.reader ++ bytes_left left) in
    let text : closed (s.lines.reader ++ bytes_left left) ≡ end_line ++ rest =
    at.text ∙ ap (λ t. t ++ newline ∷ rest) c.0 ∙ sym (append_assoc (line_text End) (newline ∷ []) rest) in
    let size : given (s.lines.reader ++ bytes_left left) end_line ≡ size_of n s.lines.reader =
    ap (λ t. given (s.lines.reader ++ bytes_left left) (t ++ newline ∷ [])) (sym c.0) ∙ at.size in
    (rest, text, omega (arith, size, c.1))
halted_cause (stop.Refused rule) s n left h ends c =
    let at = line_at n s.lines left h ends in
    (take n s.lines.reader, closed (drop (n + 1) s.lines.reader ++ bytes_left left), at.text, h.plain, c)
halted_cause stop.Short s n left h ends c = absurd c
halted_cause stop.TooLong s n left h ends c =
    let at = line_at n s.lines left h ends in
    let rest = closed (drop (n + 1) s.lines.reader ++ bytes_left left) in
    let size : given (s.lines.reader ++ bytes_left left) (schedule_text_of c.0 ++ newline ∷ []) ≡ size_of n s.lines.reader =
    ap (λ t. given (s.lines.reader ++ bytes_left left) (t ++ newline ∷ [])) (sym c.2) ∙ at.size in
    (c.0, rest, c.1, at.text ∙ ap (λ t. t ++ newline ∷ rest) c.2, omega (arith, size, c.3))
halted_cause stop.ReadFault s n left h ends c = absurd c
halted_cause stop.OutFault s n left h ends c = tt
halted_cause stop.TraceFault s n left h ends c = tt

-- a session that was looked at and then kept
halts : (r : Stop) (left left' : Option (List ℕ)) (took mid took' : Took) (old s new : Session) → Looks left left' took.out mid.out old s → mid.trace ≡ took.trace
    → Keeps mid.out took'.out s new → took'.trace ≡ mid.trace
    → IsHalt r (s.lines.reader ++ bytes_left left') s.lines.count → (r ≡ stop.ReadFault → IsCut s.lines) → Halts r left left' took took' old new
halts r left left' took mid took' old s new l e k f cause cut = record {
  finds = subst (λ (x : Lines). Finds left left' old.lines x) (sym k.lines) l.finds;
  hands = out_more took.out mid.out took'.out old.texts s.texts new.texts l.hands k.hands;
  trace = f ∙ e;
  run = k.run ∙ l.run;
  cause = subst (λ (x : Lines). IsHalt r (x.reader ++ bytes_left left') x.count) (sym k.lines) cause;
  cut = λ e. subst IsCut (sym k.lines) (cut e);
}

keeps_all : (taken : Option (List ℕ)) (s : Session) → Keeps taken taken s s
keeps_all taken s = record { hands = nothing_handed taken s.texts; lines = refl; run = refl }

looked : (r : Stop) (left left' taken taken' traced : Option (List ℕ)) (old s : Session) → Looks left left' taken taken' old s
    → IsHalt r (s.lines.reader ++ bytes_left left') s.lines.count → (r ≡ stop.ReadFault → IsCut s.lines)
    → Halts r left left' (both taken traced) (both taken' traced) old s
looked r left left' taken taken' traced old s l cause cut =
    halts r left left' (both taken traced) (both taken' traced) (both taken' traced) old s s l refl (keeps_all taken' s) refl cause cut

pub halts_short : (left left' taken taken' traced : Option (List ℕ)) (old s : Session) → Looks left left' taken taken' old s → s.lines.reader ≡ [] → s.lines.ended ≡ true
    → (s.lines.ended ≡ true → IsAtEnd left') → Halts stop.Short left left' (both taken traced) (both taken' traced) old s
halts_short left left' taken taken' traced old s l empty ended ends =
    looked stop.Short left left' taken taken' traced old s l (ap (λ t. t ++ bytes_left left') empty ∙ none left' (ends ended)) (λ e. absurd (cc (e))) where
      none : (left : Option (List ℕ)) → IsAtEnd left → bytes_left left ≡ []
      none None h = refl
      none (Some l) h = h

pub halts_long : (left left' taken taken' traced : Option (List ℕ)) (old s : Session) → Looks left left' taken taken' old s
    → is_plain s.lines.reader ≡ true → most_line < length s.lines.reader → Halts (stop.Refused 1) left left' (both taken traced) (both taken' traced) old s
halts_long left left' taken taken' traced old s l plain long =
    looked (stop.Refused 1) left left' taken taken' traced old s l (too_long mode.Device place.Schedule s.lines left' plain long) (λ e. absurd (cc (e)))

pub halts_read_fault : (left left' taken taken' traced : Option (List ℕ)) (old s : Session) → Looks left left' taken taken' old s → IsCut s.lines
    → Halts stop.ReadFault left left' (both taken traced) (both taken' traced) old s
halts_read_fault left left' taken taken' traced old s l cut = looked stop.ReadFault left left' taken taken' traced old s l tt (λ e. cut)

pub halts_out_fault : (left left' taken taken' traced : Option (List ℕ)) (old s : Session) → Looks left left' taken taken' old s
    → Halts stop.OutFault left left' (both taken traced) (both taken' traced) old s
halts_out_fault left left' taken taken' traced old s l = looked stop.OutFault left left' taken taken' traced old s l tt (λ e. absurd (cc (e)))

-- a line was looked for and answered
turns : (told : Bool) (n : ℕ) (left left' : Option (List ℕ)) (took mid took' : Took) (old s new : Session) → Looks left left' took.out mid.out old s
    → mid.trace ≡ took.trace → IsLineAt n s.lines → Answers told n mid took' s new → Turns told left left' took took' old new
turns told n left left' took mid took' old s new l e h a = record {
  line = a.line;
  fits = a.fits;
  gone = subst (λ (t : List ℕ). Gone left left' old.lines new.lines (t ++ newline ∷ []) 1) a.text
      (line_taken n left left' old.lines s.lines new.lines l.finds h a.rest a.ended a.count a.lines);
  run = subst (λ (r : Run). Steps r new.run a.line (answer_of r a.line)) l.run a.run;
  trace = subst (λ (t : Option (List ℕ)). Hears told t took'.trace (trace_part new.run.log (answer_of old.run a.line))) e
      (subst (λ (r : Run). Hears told mid.trace took'.trace (trace_part new.run.log (answer_of r a.line))) l.run a.trace);
  hands = out_joined told took.out mid.out took'.out old.texts s.texts new.texts new.run.log (answer_of old.run a.line) l.hands
      (subst (λ (r : Run). HandsOut mid.out took'.out (added_where told s.texts new.run.log (answer_of r a.line)) new.texts) l.run a.hands);
  short = a.short;
  more = omega (arith, a.count, l.finds.count, line_size n s.lines h);
}

schedule-more : (lines : List DevLine) (line : DevLine) → schedule_text (lines ++ line ∷ []) ≡ schedule_text lines ++ schedule_line line
schedule-more [] line = append-nil (schedule_line line)
schedule-more (l ∷ ls) line = ap (λ t. schedule_line l ++ t) (schedule-more ls line) ∙ sym (append_assoc (schedule_line l) (schedule_text ls) (schedule_line line))

fits-more : (lines : List DevLine) (line : DevLine) → AllByRecursion IsDeviceLine lines → IsDeviceLine line → AllByRecursion IsDeviceLine (lines ++ line ∷ [])
fits-more [] line h k = (k, tt)
fits-more (l ∷ ls) line h k = (h.0, fits-more ls line h.1 k)

pub progress_start : (left : Option (List ℕ)) (took : Took) (s : Session) → s.run.device ≡ start (world s.run) → s.run.table ≡ opened FS4 → s.texts.out ≡ []
    → Isolates (world s.run) → s.lines.count ≤ most_bytes → s.lines.lines ≤ s.lines.count → Progress left left took took s s
progress_start left took s device table empty apart short few = record {
  lines = [];
  fits = tt;
  gone = gone_nothing left s.lines;
  turns = [];
  traces = record { lines = refl; answers = refl; run = tt };
  order = order_start (loads_of s.run);
  trace = takes-nothing took.trace;
  hands = texts-nothing took.out s.texts empty;
  same = refl;
  device = device;
  apart = apart;
  table = table;
  short = short;
  few = few;
}

-- a line leaves the world
world_stays : (old new : Run) → new.set ≡ old.set → new.blocks ≡ old.blocks → world new ≡ world old
world_stays old new s b = ap (λ (x : Set). world_of x new.blocks) s ∙ ap (λ (x : Option ℕ). world_of old.set x) b

-- the lines so far and then one more
module _ (told : Bool) (left0 left left' : Option (List ℕ)) (took0 took took' : Took) (s0 s s' : Session) (p : Progress left0 left took0 took s0 s)
    (t : Turns told left left' took took' s s') where
  abbrev line : DevLine
  line = t.line

  abbrev answer : Answer
  answer = answer_of s.run line

  abbrev turn : Turn
  turn = record { line = line; accesses = s'.run.log; answer = answer }

  fits_on : AllByRecursion IsDeviceLine (p.lines ++ line ∷ [])
  fits_on = fits-more p.lines line p.fits t.fits

  gone_on : Gone left0 left' s0.lines s'.lines (schedule_text (p.lines ++ line ∷ [])) (length (p.lines ++ line ∷ []))
  gone_on =
      subst (λ (n : ℕ). Gone left0 left' s0.lines s'.lines (schedule_text (p.lines ++ line ∷ [])) n) (sym (length-append p.lines (line ∷ [])))
      (subst (λ (x : List ℕ). Gone left0 left' s0.lines s'.lines x (length p.lines + 1)) (sym (schedule-more p.lines line))
      (gone_more left0 left left' s0.lines s.lines s'.lines (schedule_text p.lines) (schedule_line line) (length p.lines) 1 (closed_schedule p.lines) p.gone t.gone))

  answer_is : answer ≡ answer_to (world s0.run) p.lines line
  answer_is =
      ap (λ (w : World State). line_answer (whole w) s.run.device line) p.same
      ∙ ap (λ (d : Device State). line_answer (whole (world s0.run)) d line) p.device
      ∙ p.apart.answers p.lines line

  traces_on : IsTrace (world s0.run) (p.lines ++ line ∷ []) (p.turns ++ turn ∷ [])
  traces_on =
      trace-more (world s0.run) p.lines p.turns turn p.traces answer_is
      (subst (λ (x : Table). IsTurn x line s'.run.log answer) p.table t.run.turn)

  order_on : StayInOrder (loads_of s'.run) (p.turns ++ turn ∷ [])
  order_on = order_more (loads_of s.run) (loads_of s'.run) p.turns turn p.order t.run.order

  few_on : s'.lines.lines ≤ s'.lines.count
  few_on = omega (arith, p.few, t.gone.lines, t.more)

pub progress_more : (left0 left left' : Option (List ℕ)) (took0 took took' : Took) (s0 s s' : Session) → Progress left0 left took0 took s0 s
    → Turns true left left' took took' s s' → Progress left0 left' took0 took' s0 s'
progress_more left0 left left' took0 took took' s0 s s' p t = record {
  lines = p.lines ++ t.line ∷ [];
  fits = fits_on true left0 left left' took0 took took' s0 s s' p t;
  gone = gone_on true left0 left left' took0 took took' s0 s s' p t;
  turns = p.turns ++ turn true left0 left left' took0 took took' s0 s s' p t ∷ [];
  traces = traces_on true left0 left left' took0 took took' s0 s s' p t;
  order = order_on true left0 left left' took0 took took' s0 s s' p t;
  trace = trace-told took0.trace took.trace took'.trace p.turns (turn true left0 left left' took0 took took' s0 s s' p t) p.trace t.trace;
  hands = texts-more took0.out took.out took'.out s0.texts.regs p.turns (turn true left0 left left' took0 took took' s0 s s' p t) s.texts s'.texts p.hands t.hands;
  same = world_stays s.run s'.run t.run.set t.run.blocks ∙ p.same;
  device =
      t.run.device ∙ ap (λ (w : World State). after_line (whole w) s.run.device t.line) p.same
      ∙ ap (λ (d : Device State). after_line (whole (world s0.run)) d t.line) p.device
      ∙ sym (state_after-more (world s0.run) p.lines t.line);
  apart = p.apart;
  table =
      t.run.table ∙ ap (λ (x : Table). after_turn x t.line s'.run.log) p.table
      ∙ sym (after_turns-more (opened FS4) p.turns (turn true left0 left left' took0 took took' s0 s s' p t));
  short = t.short;
  few = few_on true left0 left left' took0 took took' s0 s s' p t;
}

-- the run ended before the next line
progress_halts : (r : Stop) (left0 left left' : Option (List ℕ)) (took0 took took' : Took) (s0 s s' : Session) → Progress left0 left took0 took s0 s
    → Halts r left left' took took' s s' → Runs r left0 left' took0 took' s0 s'
progress_halts r left0 left left' took0 took took' s0 s s' p h = record {
  lines = p.lines;
  fits = p.fits;
  gone = subst (λ (n : ℕ). Gone left0 left' s0.lines s'.lines (schedule_text p.lines) n) (add_none (length p.lines))
      (subst (λ (x : List ℕ). Gone left0 left' s0.lines s'.lines x (length p.lines + 0)) (append-nil (schedule_text p.lines))
      (gone_more left0 left left' s0.lines s.lines s'.lines (schedule_text p.lines) [] (length p.lines) 0 (closed_schedule p.lines) p.gone
      (gone_found left left' s.lines s'.lines h.finds)));
  turns = p.turns;
  traces = p.traces;
  in_order = p.order.in_order;
  sinks = record {
    done = p.turns;
    rest = [];
    lines = sym (append-nil p.turns);
    given = [];
    more = [];
    part = refl;
    trace = subst (Takes took0.trace took'.trace) (sym (append-nil (trace_text p.turns)))
        (subst (λ (t : Option (List ℕ)). Takes took0.trace t (trace_text p.turns)) (sym h.trace) p.trace);
    hands = out_more took0.out took.out took'.out (texts_of s0.texts.regs p.turns) s.texts s'.texts p.hands h.hands;
    whole = λ _. refl;
  };
  short = omega (arith, p.short, h.finds.count);
  few = omega (arith, p.few, h.finds.count, h.finds.lines);
  cause = h.cause;
  cut = h.cut;
} where
  add_none : (n : ℕ) → n + 0 ≡ n
  add_none n = omega arith

-- or the trace failed in the text of the last one
progress_fails : (left0 left left' : Option (List ℕ)) (took0 took took' : Took) (s0 s s' : Session) → Progress left0 left took0 took s0 s
    → Turns false left left' took took' s s' → Runs stop.TraceFault left0 left' took0 took' s0 s'
progress_fails left0 left left' took0 took took' s0 s s' p t = record {
  lines = p.lines ++ t.line ∷ [];
  fits = fits_on false left0 left left' took0 took took' s0 s s' p t;
  gone = gone_on false left0 left left' took0 took took' s0 s s' p t;
  turns = p.turns ++ last ∷ [];
  traces = traces_on false left0 left left' took0 took took' s0 s s' p t;
  in_order = (order_on false left0 left left' took0 took took' s0 s s' p t).in_order;
  sinks = record {
    done = p.turns;
    rest = last ∷ [];
    lines = refl;
    given = t.trace.given;
    more = t.trace.more;
    part = sym (trace_is-more [] last) ∙ t.trace.text_is;
    trace = takes-more took0.trace took.trace took'.trace (trace_text p.turns) t.trace.given p.trace t.trace.takes;
    hands = out_more took0.out took.out took'.out (texts_of s0.texts.regs p.turns) s.texts s'.texts p.hands t.hands;
    whole = λ never. absurd (never refl);
  };
  short = t.short;
  few = few_on false left0 left left' took0 took took' s0 s s' p t;
  cause = tt;
  cut = λ e. absurd (cc (e));
} where
  last : Turn
  last = turn false left0 left left' took0 took took' s0 s s' p t

pub progress_end : (r : Stop) (left0 left left' : Option (List ℕ)) (took0 took took' : Took) (s0 s s' : Session) → Progress left0 left took0 took s0 s
    → Goes (Some r) left left' took took' s s' → Runs r left0 left' took0 took' s0 s'
progress_end stop.TraceFault left0 left left' took0 took took' s0 s s' p h = progress_fails left0 left left' took0 took took' s0 s s' p h
progress_end stop.End left0 left left' took0 took took' s0 s s' p h = progress_halts stop.End left0 left left' took0 took took' s0 s s' p h
progress_end (stop.Refused rule) left0 left left' took0 took took' s0 s s' p h = progress_halts (stop.Refused rule) left0 left left' took0 took took' s0 s s' p h
progress_end stop.Short left0 left left' took0 took took' s0 s s' p h = progress_halts stop.Short left0 left left' took0 took took' s0 s s' p h
progress_end stop.TooLong left0 left left' took0 took took' s0 s s' p h = progress_halts stop.TooLong left0 left left' took0 took took' s0 s s' p h
progress_end stop.ReadFault left0 left left' took0 took took' s0 s s' p h = progress_halts stop.ReadFault left0 left left' took0 took took' s0 s s' p h
progress_end stop.OutFault left0 left left' took0 took took' s0 s s' p h = progress_halts stop.OutFault left0 left left' took0 took took' s0 s s' p h

-- one line, whatever came of it
module _ (n : ℕ) (left left' : Option (List ℕ)) (took mid took' : Took) (old s new : Session) (l : Looks left left' took.out mid.out old s)
    (e : mid.trace ≡ took.trace) (b : IsLineAt n s.lines) (ends : s.lines.ended ≡ true → IsAtEnd left') where
  stands : (r : Stop) → Stands r n mid took' s new → (r ≡ stop.ReadFault → ⊥) → Halts r left left' took took' old new
  stands r h never =
      halts r left left' took mid took' old s new l e h.keeps h.trace (halted_cause r s n left' b ends h.halted) (λ f. absurd (never f))

  pub goes_line : (r : Option Stop) → TakesLine r n mid took' s new → Goes r left left' took took' old new
  goes_line None h = turns true n left left' took mid took' old s new l e b h
  goes_line (Some stop.TraceFault) h = turns false n left left' took mid took' old s new l e b h
  goes_line (Some stop.End) h = stands stop.End h (λ f. cc (f))
  goes_line (Some (stop.Refused rule)) h = stands (stop.Refused rule) h (λ f. cc (f))
  goes_line (Some stop.Short) h = stands stop.Short h (λ f. cc (f))
  goes_line (Some stop.TooLong) h = stands stop.TooLong h (λ f. cc (f))
  goes_line (Some stop.ReadFault) h = absurd h.halted
  goes_line (Some stop.OutFault) h = stands stop.OutFault h (λ f. cc (f))
