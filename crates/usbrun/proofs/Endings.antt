-- From the head and the schedule to how the program ends.
use Rattle.std.proofs.Common.{◌≡◌, ℕ, ◌+◌, ◌≤◌, List, [], ◌∷◌, ◌++◌, Bool, true, false, length, refl, ap, sym, ◌∙◌, subst, append_assoc, arith, Option, Some, None, inl, inr, ◌⊎◌, map, get_or, Bor}
use Rattle.std.proofs.lemmas.List.{append-nil, map-append}
use Rattle.std.proofs.lemmas.List.Concat.{flat_map-append}
use Rattle.std.specs.Str.{bytes_eq}
use Rattle.std.specs.List.{AllByRecursion, flat_map}
use Rattle.std.specs.Option.{option_map}
use Rattle.std.proofs.lemmas.Slice.Eq.{bytes_eq-Decides}
use Rattle.usb_edge.specs.Stream.{Reads, Takes, Rose, IsAtEnd, counted}
use Rattle.usb_edge.proofs.Streams.{takes-nothing}
use Rattle.usb_descriptor.specs.declared.strings.StringPart.{StringPart}
use Rattle.usb_descriptor.specs.Strings.{string_descriptor}
use Rattle.usb_descriptor.specs.Set.{Set}
use Rattle.usb_descriptor.specs.Verdict.{verdict}
use Rattle.usb_descriptor.specs.declared.limits.SetFault.{SetFault}
use Rattle.device_line.specs.declared.line.DevLine.{DevLine}
use Rattle.usb_text.specs.declared.head.HeadLine.{HeadLine}
use Rattle.usb_text.specs.Line.{newline, schedule_text_of, IsDeviceLine}
use Rattle.usb_text.specs.Plain.{is_plain}
use Rattle.device_owners.specs.Device.{World}
use Rattle.device_world.specs.State.{State}
use Rattle.device_world.specs.World.{world_of}
use Rattle.device_run.specs.Run.{world}
use Rattle.device_schedule.specs.Schedule.{answers}
use Rattle.device_text.specs.Answers.{answer_line}
use Rattle.device_schedule.specs.Turns.{Turn, IsTrace}
use Rattle.device_text.specs.Trace.{trace_text}
use Rattle.device_text.specs.Job.{Job, Spells, IsAccepted, IsHeadSoFar, head_lines, schedule_text, front_text, end_line, closed, given, limits, set_fault, parts_of, is_whole, most_bytes}
use Rattle.device_text.specs.Outcome.{Front, Breaks, RefusesLine, RefusesSet, EndsShort, PassesLimit, set_of}
use Rattle.device_text.proofs.Closed.{closed_heads, closed_schedule, closed_both}
use Rattle.device_text.proofs.Traces.{run_left}
use Rattle.job_reader.specs.Stream.{bytes_left}
use Rattle.usbrun.specs.Stream.{Hands}
use Rattle.job_reader.specs.Lines.{Gone, IsCut}
use Rattle.job_reader.specs.Head.{new_lines, BreaksHead, HeadSoFar, HeadStops}
use Rattle.usbrun.specs.Session.{Runs, IsHalt, out_faults, trace_faults}
use Rattle.usbrun.specs.Finish.{Closes, Finishes, head_status, stop_status}
use Rattle.usbrun.specs.Texts.{both, HandsOut, out_text, texts_of}
use Rattle.usbrun.specs.Read.{Told, ToldBoth, ReadSoFar, Begins, HasHead}
use Rattle.usbrun.specs.Written.{Ways, ways, Writes, WritesFront, WritesNothing}
use Rattle.usbrun.specs.Top.{Ends, OneRose, NoFault, Faults}
use Rattle.job_reader.specs.declared.lines.Lines.{Lines}
use Rattle.job_reader.specs.declared.draft.Draft.{Draft}
use Rattle.job_reader.specs.declared.head.NoHead.{NoHead}
use Rattle.job_reader.specs.declared.head.NoHead.TheVariants as no
use Rattle.usbrun.specs.declared.texts.Texts.{Texts}
use Rattle.usbrun.specs.declared.session.Session.{Session}
use Rattle.usbrun.specs.declared.session.Stop.{Stop}
use Rattle.usbrun.specs.declared.session.Stop.TheVariants as stop
use Rattle.usbrun.specs.declared.status.Status.{Status}
use Rattle.usbrun.specs.declared.status.Status.TheVariants as status
use Rattle.job_reader.proofs.Gone.{gone_more, gone_closed, gone_given, gone_cut}
use Rattle.job_reader.proofs.Drafts.{accepts_in_order, rank_most}
use Rattle.usbrun.proofs.Handed.{out_more, trace_text-append}

-- what holds of the bytes that were read and of those that are left holds of what the source had
told : (left left' : Option (List ℕ)) (bytes : List ℕ) (P : List ℕ → Type 0) → Reads left left' bytes → P (bytes ++ bytes_left left') → Told left P
told (Some a) (Some b) bytes P r p = subst P (sym r) p
told None None bytes P r p = (bytes ++ [], p)
told (Some a) None bytes P r p = absurd r
told None (Some b) bytes P r p = absurd r

told_both : (left left' : Option (List ℕ)) (bytes : List ℕ) (P : List ℕ → List ℕ → Type 0) → Reads left left' bytes
    → P (bytes ++ bytes_left left') (bytes_left left') → ToldBoth left left' P
told_both (Some a) (Some b) bytes P r p = subst (λ (x : List ℕ). P x b) (sym r) p
told_both None None bytes P r p = (bytes ++ [], p)
told_both (Some a) None bytes P r p = absurd r
told_both None (Some b) bytes P r p = absurd r

-- the lines that were read, in front of what the source had
front_of : (left left' : Option (List ℕ)) (new : Lines) (heads : List HeadLine) (schedule : List DevLine) (rest : List ℕ)
    (g : Gone left left' new_lines new (front_text heads schedule) (length heads + length schedule)) → (new.ended ≡ true → IsAtEnd left')
    → IsHeadSoFar heads → AllByRecursion IsDeviceLine schedule → (schedule ≡ []) ⊎ IsAccepted heads → new.count ≤ most_bytes
    → closed (new.reader ++ bytes_left left') ≡ rest → Front (g.got ++ bytes_left left') heads schedule rest
front_of left left' new heads schedule rest g ends lines fits accepted short e =
    let size = gone_given left left' new_lines new (front_text heads schedule) [] (length heads + length schedule) g ends refl refl in
    record {
      text =
          gone_closed left left' new_lines new (front_text heads schedule) (length heads + length schedule) g
          (closed_both (head_lines heads) (schedule_text schedule) (closed_heads heads) (closed_schedule schedule)) ends
          ∙ ap (λ t. front_text heads schedule ++ t) e;
      short = omega (arith, size, short, ap (λ t. given (g.got ++ bytes_left left') t) (append-nil (front_text heads schedule)));
      lines = lines;
      fits = fits;
      accepted = accepted;
    }

-- a head alone
abbrev pub head_gone : (left left' : Option (List ℕ)) (new : Lines) (heads : List HeadLine) → Gone left left' new_lines new (head_lines heads) (length heads)
    → Gone left left' new_lines new (front_text heads []) (length heads + 0)
head_gone left left' new heads g =
    subst (λ (n : ℕ). Gone left left' new_lines new (front_text heads []) n) (add_none (length heads))
    (subst (λ (t : List ℕ). Gone left left' new_lines new t (length heads)) (sym (append-nil (head_lines heads))) g) where
      add_none : (n : ℕ) → n ≡ n + 0
      add_none n = omega arith

head_count : (draft : Draft) (left left' : Option (List ℕ)) (new : Lines) → HeadSoFar draft left left' new_lines new → new.lines ≤ 12
head_count draft left left' new h = omega (arith, h.few, h.room, rank_most draft.stage)

pub head_small : (draft : Draft) (left left' : Option (List ℕ)) (new : Lines) → HeadSoFar draft left left' new_lines new → new.count ≤ most_bytes
head_small draft left left' new h = omega (arith, h.size, head_count draft left left' new h)

head_front : (draft : Draft) (left left' : Option (List ℕ)) (new : Lines) (rest : List ℕ) (h : HeadSoFar draft left left' new_lines new)
    → (new.ended ≡ true → IsAtEnd left') → closed (new.reader ++ bytes_left left') ≡ rest
    → Front ((head_gone left left' new h.heads h.gone).got ++ bytes_left left') h.heads [] rest
head_front draft left left' new rest h ends e =
    front_of left left' new h.heads [] rest (head_gone left left' new h.heads h.gone) ends h.lines tt (inl refl) (head_small draft left left' new h) e

-- a world is that of its set and its disk
pub world_is : (set set' : Set) (blocks blocks' : Option ℕ) → set ≡ set' → blocks ≡ blocks' → world_of set blocks ≡ world_of set' blocks'
world_is set set' blocks blocks' s b = ap (λ (x : Set). world_of x blocks) s ∙ ap (λ (x : Option ℕ). world_of set' x) b

-- the set of a draft is accepted where no rule is broken
pub set_accepted : (draft : Draft) (set : Set) → set ≡ record {
  device = draft.device.items;
  config = draft.config.items;
  strings = map string_descriptor draft.strings.items;
  report = option_map (λ r. r.items) draft.report;
} → verdict draft.device.items draft.config.items (option_map (λ r. r.items) draft.report) limits ≡ None → verdict set.device set.config set.report limits ≡ None
set_accepted draft set e ok =
    subst (λ (s : Set). verdict s.device s.config s.report limits ≡ None) (sym e) ok

module _ (draft : Draft) (left left' : Option (List ℕ)) (new : Lines) (h : HeadSoFar draft left left' new_lines new) where
  set_is : verdict draft.device.items draft.config.items (option_map (λ r. r.items) draft.report) limits ≡ set_fault h.heads
  set_is =
      ap (λ d. verdict d draft.config.items (option_map (λ r. r.items) draft.report) limits) h.holds.device
      ∙ ap (λ c. verdict (parts_of h.heads).device c (option_map (λ r. r.items) draft.report) limits) h.holds.config
      ∙ ap (λ r. verdict (parts_of h.heads).device (parts_of h.heads).config r limits) h.holds.report

  pub accepted : is_whole h.heads ≡ true → verdict draft.device.items draft.config.items (option_map (λ r. r.items) draft.report) limits ≡ None → IsAccepted h.heads
  accepted whole ok = record { lines = h.lines; whole = whole; set = sym set_is ∙ ok }

  pub set_shows : (set : Set) → set ≡ record {
    device = draft.device.items;
    config = draft.config.items;
    strings = map string_descriptor draft.strings.items;
    report = option_map (λ r. r.items) draft.report;
  } → set ≡ set_of h.heads
  set_shows set e =
      e ∙ ap (λ d. made d draft.config.items draft.strings.items (option_map (λ r. r.items) draft.report)) h.holds.device
      ∙ ap (λ c. made (parts_of h.heads).device c draft.strings.items (option_map (λ r. r.items) draft.report)) h.holds.config
      ∙ ap (λ s. made (parts_of h.heads).device (parts_of h.heads).config s (option_map (λ r. r.items) draft.report)) h.holds.strings
      ∙ ap (λ r. made (parts_of h.heads).device (parts_of h.heads).config (parts_of h.heads).strings r) h.holds.report where
        made : List ℕ → List ℕ → List StringPart → Option (List ℕ) → Set
        made d c s r = record { device = d; config = c; strings = map string_descriptor s; report = r }

module _ (draft : Draft) (left left' : Option (List ℕ)) (new : Lines) (h : HeadSoFar draft left left' new_lines new) (ends : new.ended ≡ true → IsAtEnd left')
    (regs : Bool) (faults faults' out trace : ℕ) (taken traced : Option (List ℕ)) where
  -- a run in which nothing is written
  abbrev no_ways : Ways
  no_ways = ways left left' faults faults' taken taken out out traced traced trace trace

  no_text : Writes regs h.heads [] no_ways
  no_text = record {
    turns = [];
    is_trace = record { lines = refl; answers = refl; run = tt };
    in_order = refl;
    trace = takes-nothing traced;
    told = refl;
    out = by_way regs;
  } where
    by_way : (b : Bool) → Takes taken taken (out_text b [] [])
    by_way true = takes-nothing taken
    by_way false = takes-nothing taken

  nothing : WritesNothing no_ways
  nothing = (takes-nothing taken, takes-nothing traced)

  abbrev g : Gone left left' new_lines new (front_text h.heads []) (length h.heads + 0)
  g = head_gone left left' new h.heads h.gone

  breaks : (bytes : List ℕ) (rule : ℕ) → is_whole h.heads ≡ false → BreaksHead draft bytes rule → Breaks (is_whole h.heads) h.heads bytes rule
  breaks bytes rule going (inl low) = subst (λ (b : Bool). Breaks b h.heads bytes rule) (sym going) (inl low)
  breaks bytes rule going (inr last) =
      subst (λ (b : Bool). Breaks b h.heads bytes rule) (sym going)
      (inr (last.0, (last.1.0, last.1.1, last.1.2, sym (accepts_in_order draft h.heads last.1.0 h.holds) ∙ last.1.3)))

  pub refused_ends : (rule : ℕ) (bytes tail : List ℕ) → is_whole h.heads ≡ false → closed (new.reader ++ bytes_left left') ≡ bytes ++ newline ∷ tail
      → is_plain bytes ≡ true → BreaksHead draft bytes rule → Ends (status.BadJob (new.lines + 1) rule) regs no_ways
  refused_ends rule bytes tail going text plain broken =
      told left left' g.got (λ input. (r : RefusesLine input (new.lines + 1) rule) × Writes regs r.head r.schedule no_ways) g.reads (
        record {
          head = h.heads;
          schedule = [];
          bytes = bytes;
          rest = tail;
          front = head_front draft left left' new (bytes ++ newline ∷ tail) h ends text;
          plain = plain;
          number = omega (arith, h.gone.lines);
          broken = breaks bytes rule going broken;
        },
        no_text,
      )

  pub short_ends : is_whole h.heads ≡ false → new.reader ++ bytes_left left' ≡ [] → Ends (status.Short new.lines) regs no_ways
  short_ends going none =
      told left left' g.got (λ input. (s : EndsShort input new.lines) × Writes regs s.head s.schedule no_ways) g.reads (
        record {
          head = h.heads;
          schedule = [];
          front = head_front draft left left' new [] h ends (ap closed none);
          number = omega (arith, h.gone.lines);
          set = λ whole. absurd (cc (whole, going));
        },
        no_text,
      )

  pub fault_ends : is_whole h.heads ≡ false → Rose faults faults' → IsCut new → Ends status.ReadFault regs no_ways
  fault_ends going rose cut = (
    rose,
    told_both left left' g.got (λ input rest. (b : ReadSoFar input rest) × Writes regs b.head b.schedule no_ways) g.reads (
      record {
        head = h.heads;
        schedule = [];
        part = new.reader;
        text =
            ap (λ t. t ++ bytes_left left') (gone_cut left left' new_lines new (front_text h.heads []) (length h.heads + 0) g cut.0)
            ∙ append_assoc (front_text h.heads []) new.reader (bytes_left left');
        plain = cut.1;
        part_of_line = cut.2;
        front = head_front draft left left' new _ h ends refl;
        set = λ whole. absurd (cc (whole, going));
      },
      no_text,
    ),
  )

  pub set_ends : (fault : SetFault) → is_whole h.heads ≡ true → verdict draft.device.items draft.config.items (option_map (λ r. r.items) draft.report) limits ≡ Some fault
      → Ends (status.BadSet fault.rule fault.at) regs no_ways
  set_ends fault whole broken = (
    told left left' g.got (λ input. RefusesSet input (record { rule = fault.rule; at = fault.at })) g.reads (record {
      head = h.heads;
      rest = closed (new.reader ++ bytes_left left');
      front = head_front draft left left' new _ h ends refl;
      whole = whole;
      broken = sym (set_is draft left left' new h) ∙ broken;
    }),
    nothing,
  )

  pub memory_ends : is_whole h.heads ≡ true → verdict draft.device.items draft.config.items (option_map (λ r. r.items) draft.report) limits ≡ None
      → Ends status.NoMemory regs no_ways
  memory_ends whole ok = (
    told left left' g.got HasHead g.reads (record {
      head = h.heads;
      rest = closed (new.reader ++ bytes_left left');
      front = head_front draft left left' new _ h ends refl;
      accepted = accepted draft left left' new h whole ok;
    }),
    nothing,
  )

-- a head that isn't whole
pub head_ends : (e : NoHead) (left left' : Option (List ℕ)) (regs : Bool) (faults faults' out trace : ℕ) (taken traced : Option (List ℕ)) (new : Lines)
    → HeadStops e left left' faults faults' new_lines new → (new.ended ≡ true → IsAtEnd left')
    → Ends (head_status e new.lines) regs (ways left left' faults faults' taken taken out out traced traced trace trace)
head_ends (no.Refused rule) left left' regs faults faults' out trace taken traced new h ends =
    refused_ends h.draft left left' new h.so_far ends regs faults faults' out trace taken traced rule h.cause.0 h.cause.1 h.unfinished h.cause.2 h.cause.3 h.cause.4
head_ends no.Short left left' regs faults faults' out trace taken traced new h ends =
    short_ends h.draft left left' new h.so_far ends regs faults faults' out trace taken traced h.unfinished h.cause
head_ends no.ReadFault left left' regs faults faults' out trace taken traced new h ends =
    fault_ends h.draft left left' new h.so_far ends regs faults faults' out trace taken traced h.unfinished h.cause (h.cut refl)

-- no sink fails in it
pub head_faults : (e : NoHead) (lines : ℕ) (w : Ways) → NoFault w → Faults (head_status e lines) w
head_faults (no.Refused rule) lines w h = h
head_faults no.Short lines w h = h
head_faults no.ReadFault lines w h = h

-- all of a text was taken, or its front
all_taken : (a b : Option (List ℕ)) (text waiting : List ℕ) → Hands a b text waiting → waiting ≡ [] → Takes a b text
all_taken a b text waiting h none = subst (Takes a b) (sym (h.joined ∙ ap (λ x. h.given ++ x) none ∙ append-nil h.given)) h.takes

-- a trace that has the text of all lines
all_told : (a b : Option (List ℕ)) (done rest : List Turn) (given more : List ℕ) → rest ≡ [] → trace_text rest ≡ given ++ more
    → Takes a b (trace_text done ++ given) → Takes a b (trace_text (done ++ rest))
all_told a b done [] [] more none part h = subst (λ (x : List Turn). Takes a b (trace_text x)) (sym (append-nil done)) (subst (Takes a b) (append-nil (trace_text done)) h)
all_told a b done [] (x ∷ xs) more none part h = absurd (cc (part))
all_told a b done (r ∷ rs) given more none part h = absurd (cc (none))

-- the output's text of the first lines, in front of that of all
out_part_of : {S : Type 0} (regs : Bool) (world : World S) (schedule : List DevLine) (turns done rest : List Turn) → IsTrace world schedule turns → turns ≡ done ++ rest
    → (more : List ℕ) × (out_text regs turns (answers world schedule) ≡ (texts_of regs done).out ++ more)
out_part_of true world schedule turns done rest h e = (trace_text rest, ap trace_text e ∙ trace_text-append done rest)
out_part_of false world schedule turns done rest h e = (
  flat_map answer_line (map (λ turn. turn.answer) rest),
  ap (flat_map answer_line) (sym h.answers ∙ ap (map (λ turn. turn.answer)) e ∙ map-append (λ turn. turn.answer) done rest)
      ∙ flat_map-append answer_line (map (λ turn. turn.answer) done) (map (λ turn. turn.answer) rest),
)

-- and where there are no others
out_is : {S : Type 0} (regs : Bool) (world : World S) (schedule : List DevLine) (turns done rest : List Turn) → IsTrace world schedule turns → turns ≡ done ++ rest → rest ≡ []
    → (texts_of regs done).out ≡ out_text regs turns (answers world schedule)
out_is regs world schedule turns done rest h e none = by_way regs where
  same : done ≡ turns
  same = sym (append-nil done) ∙ ap (λ x. done ++ x) (sym none) ∙ sym e

  by_way : (b : Bool) → (texts_of b done).out ≡ out_text b turns (answers world schedule)
  by_way true = ap trace_text same
  by_way false = ap (λ (x : List Turn). flat_map answer_line (map (λ turn. turn.answer) x)) same ∙ ap (flat_map answer_line) h.answers

module _ (left0 left1 left2 : Option (List ℕ)) (draft : Draft) (l1 : Lines) (h : HeadSoFar draft left0 left1 new_lines l1) (ok : IsAccepted h.heads)
    (taken0 taken1 taken2 traced0 traced1 : Option (List ℕ)) (s s' : Session) (regs : Bool) (starts : s.lines ≡ l1) (has_regs : s.texts.regs ≡ regs)
    (has_world : (world s.run) ≡ world_of (set_of h.heads) None) (ends : s'.lines.ended ≡ true → IsAtEnd left2) (faults faults' out0 out2 trace0 trace1 : ℕ)
    (r : Stop) (u : Runs r left1 left2 (both taken0 traced0) (both taken1 traced1) s s') (waiting : Texts) (k : HandsOut taken1 taken2 s'.texts waiting) where
  abbrev all_ways : Ways
  all_ways = ways left0 left2 faults faults' taken0 taken2 out0 out2 traced0 traced1 trace0 trace1

  abbrev gone : Gone left0 left2 new_lines s'.lines (front_text h.heads u.lines) (length h.heads + length u.lines)
  gone = gone_more left0 left1 left2 new_lines l1 s'.lines (head_lines h.heads) (schedule_text u.lines) (length h.heads) (length u.lines)
      (closed_heads h.heads) h.gone (subst (λ (l : Lines). Gone left1 left2 l s'.lines (schedule_text u.lines) (length u.lines)) starts u.gone)

  traces : IsTrace (world_of (set_of h.heads) None) u.lines u.turns
  traces = subst (λ (x : World State). IsTrace x u.lines u.turns) has_world u.traces

  -- what the output's sink took
  hands : HandsOut taken0 taken2 (texts_of regs u.sinks.done) waiting
  hands =
      subst (λ (b : Bool). HandsOut taken0 taken2 (texts_of b u.sinks.done) waiting) has_regs
      (out_more taken0 taken1 taken2 (texts_of s.texts.regs u.sinks.done) s'.texts waiting u.sinks.hands k)

  writes : waiting.out ≡ [] → (r ≡ stop.TraceFault → ⊥) → Writes regs h.heads u.lines all_ways
  writes none told = record {
    turns = u.turns;
    is_trace = traces;
    in_order = u.in_order;
    trace = subst (λ (x : List Turn). Takes traced0 traced1 (trace_text x)) (sym u.sinks.lines)
        (all_told traced0 traced1 u.sinks.done u.sinks.rest u.sinks.given u.sinks.more (u.sinks.whole told) u.sinks.part u.sinks.trace);
    told = run_left (world_of (set_of h.heads) None) u.lines u.turns traces;
    out = subst (Takes taken0 taken2) (out_is regs (world_of (set_of h.heads) None) u.lines u.turns u.sinks.done u.sinks.rest traces u.sinks.lines (u.sinks.whole told))
        (all_taken taken0 taken2 (texts_of regs u.sinks.done).out waiting.out hands.out none);
  }

  writes_front : WritesFront regs h.heads u.lines all_ways
  writes_front =
      let part = out_part_of regs (world_of (set_of h.heads) None) u.lines u.turns u.sinks.done u.sinks.rest traces u.sinks.lines in
      record {
        turns = u.turns;
        is_trace = traces;
        in_order = u.in_order;
        trace = record {
          given = trace_text u.sinks.done ++ u.sinks.given;
          more = u.sinks.more;
          text_is =
              ap trace_text u.sinks.lines ∙ trace_text-append u.sinks.done u.sinks.rest ∙ ap (λ x. trace_text u.sinks.done ++ x) u.sinks.part
              ∙ sym (append_assoc (trace_text u.sinks.done) u.sinks.given u.sinks.more);
          takes = u.sinks.trace;
        };
        out = record {
          given = hands.out.given;
          more = waiting.out ++ part.0;
          text_is = part.1 ∙ ap (λ x. x ++ part.0) hands.out.joined ∙ append_assoc hands.out.given waiting.out part.0;
          takes = hands.out.takes;
        };
        done = u.sinks.done;
        rest = u.sinks.rest;
        lines = u.sinks.lines;
        more = u.sinks.given;
        ahead = refl;
        waiting = waiting.out;
        behind = hands.out.joined;
      }

  front : (rest : List ℕ) → closed (s'.lines.reader ++ bytes_left left2) ≡ rest → Front (gone.got ++ bytes_left left2) h.heads u.lines rest
  front rest e = front_of left0 left2 s'.lines h.heads u.lines rest gone ends h.lines u.fits (inr ok) u.short e

  -- how many of the source's bytes the lines and one line more have
  size : (more : List ℕ) → given (gone.got ++ bytes_left left2) (front_text h.heads u.lines ++ more) ≡ s'.lines.count + given (s'.lines.reader ++ bytes_left left2) more
  size more = gone_given left0 left2 new_lines s'.lines (front_text h.heads u.lines) more (length h.heads + length u.lines) gone ends refl refl

  number : s'.lines.lines ≡ length h.heads + length u.lines
  number = omega (arith, gone.lines)

  -- a sink failed
  write_ends : OneRose all_ways → Ends status.WriteFault regs all_ways
  write_ends rose = (
    rose,
    told left0 left2 gone.got (λ input. (b : Begins input) × WritesFront regs b.head b.schedule all_ways) gone.reads (
      record { head = h.heads; schedule = u.lines; rest = closed (s'.lines.reader ++ bytes_left left2); front = front _ refl; accepted = ok },
      writes_front,
    ),
  )

  -- each way in which a run ends, once all was handed on

  end_ends : IsHalt stop.End (s'.lines.reader ++ bytes_left left2) s'.lines.count → Writes regs h.heads u.lines all_ways → Ends status.Ok regs all_ways
  end_ends cause all =
      told left0 left2 gone.got (λ input. (job : Job) × Spells input job × Writes regs job.head job.schedule all_ways) gone.reads (
        record { head = h.heads; schedule = u.lines },
        record {
          tail = cause.0;
          text = (front (end_line ++ cause.0) (cause.1)).text;
          short = omega (arith, size end_line, cause.2);
          fits = record { head = ok; schedule = u.fits };
        },
        all,
      )

  line_ends : (rule : ℕ) → IsHalt (stop.Refused rule) (s'.lines.reader ++ bytes_left left2) s'.lines.count → Writes regs h.heads u.lines all_ways
      → Ends (status.BadJob (s'.lines.lines + 1) rule) regs all_ways
  line_ends rule cause all =
      told left0 left2 gone.got (λ input. (r : RefusesLine input (s'.lines.lines + 1) rule) × Writes regs r.head r.schedule all_ways) gone.reads (
        record {
          head = h.heads;
          schedule = u.lines;
          bytes = cause.0;
          rest = cause.1;
          front = front (cause.0 ++ newline ∷ cause.1) cause.2;
          plain = cause.3;
          number = omega (arith, number);
          broken = subst (λ (b : Bool). Breaks b h.heads cause.0 rule) (sym ok.whole) (ok, cause.4);
        },
        all,
      )

  source_ends : IsHalt stop.Short (s'.lines.reader ++ bytes_left left2) s'.lines.count → Writes regs h.heads u.lines all_ways
      → Ends (status.Short s'.lines.lines) regs all_ways
  source_ends cause all =
      told left0 left2 gone.got (λ input. (s : EndsShort input s'.lines.lines) × Writes regs s.head s.schedule all_ways) gone.reads (
        record { head = h.heads; schedule = u.lines; front = front [] (ap closed cause); number = number; set = λ whole. ok.set },
        all,
      )

  limit_ends : IsHalt stop.TooLong (s'.lines.reader ++ bytes_left left2) s'.lines.count → Writes regs h.heads u.lines all_ways → Ends status.TooLong regs all_ways
  limit_ends cause all =
      told left0 left2 gone.got (λ input. (p : PassesLimit input) × Writes regs p.head p.schedule all_ways) gone.reads (
        record {
          head = h.heads;
          schedule = u.lines;
          line = cause.0;
          rest = cause.1;
          front = front (schedule_text_of cause.0 ++ newline ∷ cause.1) cause.3;
          fits = cause.2;
          accepted = ok;
          long = omega (arith, size (schedule_text_of cause.0 ++ newline ∷ []), cause.4);
        },
        all,
      )

  read_ends : IsCut s'.lines → Rose faults faults' → Writes regs h.heads u.lines all_ways → Ends status.ReadFault regs all_ways
  read_ends cut rose all = (
    rose,
    told_both left0 left2 gone.got (λ input rest. (b : ReadSoFar input rest) × Writes regs b.head b.schedule all_ways) gone.reads (
      record {
        head = h.heads;
        schedule = u.lines;
        part = s'.lines.reader;
        text =
            ap (λ t. t ++ bytes_left left2) (gone_cut left0 left2 new_lines s'.lines (front_text h.heads u.lines) (length h.heads + length u.lines) gone cut.0)
            ∙ append_assoc (front_text h.heads u.lines) s'.lines.reader (bytes_left left2);
        plain = cut.1;
        part_of_line = cut.2;
        front = front _ refl;
        set = λ whole. ok.set;
      },
      all,
    ),
  )

rose_by : (a b : ℕ) → b ≡ counted a → Rose a b
rose_by a b e = omega (arith, e)

-- how a run that stopped ends
module _ (left0 left1 left2 : Option (List ℕ)) (draft : Draft) (l1 : Lines) (h : HeadSoFar draft left0 left1 new_lines l1) (ok : IsAccepted h.heads)
    (taken0 taken1 taken2 traced0 traced1 : Option (List ℕ)) (s s' : Session) (regs : Bool) (starts : s.lines ≡ l1) (has_regs : s.texts.regs ≡ regs)
    (has_world : (world s.run) ≡ world_of (set_of h.heads) None) (ends : s'.lines.ended ≡ true → IsAtEnd left2) (faults faults' out0 out1 out2 trace0 trace1 : ℕ)
    (waiting : Texts) (k : HandsOut taken1 taken2 s'.texts waiting) (ended : Status) where
  abbrev the_ways : Ways
  the_ways = ways left0 left2 faults faults' taken0 taken2 out0 out2 traced0 traced1 trace0 trace1

  closed_ends : (r : Stop) (u : Runs r left1 left2 (both taken0 traced0) (both taken1 traced1) s s') → Closes (stop_status r s'.lines.lines) ended waiting out1 out2
      → out1 ≡ out0 → (r ≡ stop.TraceFault → ⊥) → (Writes regs h.heads u.lines the_ways → Ends (stop_status r s'.lines.lines) regs the_ways)
      → Ends ended regs the_ways
  closed_ends r u (inl c) e told all =
      subst (λ (x : Status). Ends x regs the_ways) (sym c.0)
      (all (writes left0 left1 left2 draft l1 h ok taken0 taken1 taken2 traced0 traced1 s s' regs starts has_regs has_world ends faults faults' out0 out2 trace0 trace1 r u waiting k c.1 told))
  closed_ends r u (inr c) e told all =
      subst (λ (x : Status). Ends x regs the_ways) (sym c.0)
      (write_ends left0 left1 left2 draft l1 h ok taken0 taken1 taken2 traced0 traced1 s s' regs starts has_regs has_world ends faults faults' out0 out2 trace0 trace1 r u waiting k
      (inl (rose_by out0 out2 (c.1 ∙ ap counted e))))

  pub run_ends : (r : Stop) (u : Runs r left1 left2 (both taken0 traced0) (both taken1 traced1) s s') → Finishes r s'.lines.lines ended waiting out1 out2
      → out1 ≡ out_faults r out0 → trace1 ≡ trace_faults r trace0 → (r ≡ stop.ReadFault → Rose faults faults') → Ends ended regs the_ways
  run_ends stop.End u f o t rf = closed_ends stop.End u f o (λ e. cc (e))
      (end_ends left0 left1 left2 draft l1 h ok taken0 taken1 taken2 traced0 traced1 s s' regs starts has_regs has_world ends faults faults' out0 out2 trace0 trace1 stop.End u waiting k u.cause)
  run_ends (stop.Refused rule) u f o t rf = closed_ends (stop.Refused rule) u f o (λ e. cc (e))
      (line_ends left0 left1 left2 draft l1 h ok taken0 taken1 taken2 traced0 traced1 s s' regs starts has_regs has_world ends faults faults' out0 out2 trace0 trace1 (stop.Refused rule) u waiting k rule u.cause)
  run_ends stop.Short u f o t rf = closed_ends stop.Short u f o (λ e. cc (e))
      (source_ends left0 left1 left2 draft l1 h ok taken0 taken1 taken2 traced0 traced1 s s' regs starts has_regs has_world ends faults faults' out0 out2 trace0 trace1 stop.Short u waiting k u.cause)
  run_ends stop.TooLong u f o t rf = closed_ends stop.TooLong u f o (λ e. cc (e))
      (limit_ends left0 left1 left2 draft l1 h ok taken0 taken1 taken2 traced0 traced1 s s' regs starts has_regs has_world ends faults faults' out0 out2 trace0 trace1 stop.TooLong u waiting k u.cause)
  run_ends stop.ReadFault u f o t rf = closed_ends stop.ReadFault u f o (λ e. cc (e))
      (read_ends left0 left1 left2 draft l1 h ok taken0 taken1 taken2 traced0 traced1 s s' regs starts has_regs has_world ends faults faults' out0 out2 trace0 trace1 stop.ReadFault u waiting k (u.cut refl) (rf refl))
  run_ends stop.OutFault u f o t rf =
      subst (λ (x : Status). Ends x regs the_ways) (sym f.0)
      (write_ends left0 left1 left2 draft l1 h ok taken0 taken1 taken2 traced0 traced1 s s' regs starts has_regs has_world ends faults faults' out0 out2 trace0 trace1 stop.OutFault u waiting k
      (inl (rose_by out0 out2 (f.1 ∙ o))))
  run_ends stop.TraceFault u f o t rf =
      subst (λ (x : Status). Ends x regs the_ways) (sym f.0)
      (write_ends left0 left1 left2 draft l1 h ok taken0 taken1 taken2 traced0 traced1 s s' regs starts has_regs has_world ends faults faults' out0 out2 trace0 trace1 stop.TraceFault u waiting k
      (inr (rose_by trace0 trace1 t)))

-- how often the sinks failed in it
module _ (ended : Status) (waiting : Texts) (w : Ways) (lines out1 : ℕ) where
  closed_faults : (s : Status) → (NoFault w → Faults s w) → Closes s ended waiting out1 w.out_faults' → out1 ≡ w.out_faults → w.trace_faults' ≡ w.trace_faults → Faults ended w
  closed_faults s quiet (inl c) o t = subst (λ (x : Status). Faults x w) (sym c.0) (quiet (c.2 ∙ o, t))
  closed_faults s quiet (inr c) o t = subst (λ (x : Status). Faults x w) (sym c.0) (inl (c.1 ∙ ap counted o, t))

  pub run_faults : (r : Stop) → Finishes r lines ended waiting out1 w.out_faults' → out1 ≡ out_faults r w.out_faults
      → w.trace_faults' ≡ trace_faults r w.trace_faults → Faults ended w
  run_faults stop.End f o t = closed_faults status.Ok (λ n. n) f o t
  run_faults (stop.Refused rule) f o t = closed_faults (status.BadJob (lines + 1) rule) (λ n. n) f o t
  run_faults stop.Short f o t = closed_faults (status.Short lines) (λ n. n) f o t
  run_faults stop.TooLong f o t = closed_faults status.TooLong (λ n. n) f o t
  run_faults stop.ReadFault f o t = closed_faults status.ReadFault (λ n. n) f o t
  run_faults stop.OutFault f o t = subst (λ (x : Status). Faults x w) (sym f.0) (inl (f.1 ∙ o, t))
  run_faults stop.TraceFault f o t = subst (λ (x : Status). Faults x w) (sym f.0) (inr (f.1 ∙ o, t))

-- a list of one text
pub one_word : (words : List (Bor (List ℕ))) (text : List ℕ) (b : Bool) (d : Bor (List ℕ)) → length words ≡ 1 → b ≡ bytes_eq (get_or words 0 d).now text
    → (b ≡ true → map (λ w. w.now) words ≡ text ∷ []) × (map (λ w. w.now) words ≡ text ∷ [] → b ≡ true)
one_word [] text b d one e = absurd (omega arith)
one_word (w ∷ []) text b d one e =
    let decides = bytes_eq-Decides w.now text in
    (λ t. ap (λ x. x ∷ []) (decides.0 (sym e ∙ t)), λ m. let same : w.now ≡ text = cc (m) in e ∙ decides.1 same)
one_word (w ∷ v ∷ ws) text b d one e = absurd (omega arith)

-- a list of two texts, of which the first stands there
pub two_words : (words : List (Bor (List ℕ))) (one two : List ℕ) (a b : Bool) (d e : Bor (List ℕ)) → length words ≡ 2
    → a ≡ bytes_eq (get_or words 0 d).now one → b ≡ bytes_eq (get_or words 1 e).now two → a ≡ true
    → (b ≡ true → map (λ w. w.now) words ≡ one ∷ two ∷ []) × (map (λ w. w.now) words ≡ one ∷ two ∷ [] → b ≡ true)
two_words [] one two a b d e n x y t = absurd (omega arith)
two_words (v ∷ []) one two a b d e n x y t = absurd (omega arith)
two_words (v ∷ w ∷ []) one two a b d e n x y t =
    let first : v.now ≡ one = (bytes_eq-Decides v.now one).0 (sym x ∙ t) in
    let decides = bytes_eq-Decides w.now two in (
      λ u. ap (λ z. z ∷ w.now ∷ []) first ∙ ap (λ z. one ∷ z ∷ []) (decides.0 (sym y ∙ u)),
      λ m. let same : w.now ≡ two = cc (m) in y ∙ decides.1 same,
    )
two_words (v ∷ w ∷ z ∷ zs) one two a b d e n x y t = absurd (omega arith)
