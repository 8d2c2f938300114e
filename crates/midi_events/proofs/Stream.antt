-- What the packer still has to send says, with the rest of the stream, what the whole stream says.
use Rattle.std.proofs.Common.{◌≡◌, ℕ, inl, inr, List, [], ◌∷◌, ◌++◌, length, take, drop, Bool, true, false, Option, refl, ap, sym, ◌∙◌, append_assoc, cond}
use Rattle.std.specs.Prelude.{filter, option_to_list, insert, ◌==◌}
use Rattle.std.specs.List.{flat_map}
use Rattle.std.proofs.lemmas.List.Elements.{filter-append}
use Rattle.std.proofs.lemmas.List.{take-append-drop, take_at, drop_at}
use Rattle.std.proofs.lemmas.Grind.{flat_map-append}
use Rattle.midi_events.specs.declared.packing.Kind.{Kind}
use Rattle.midi_events.specs.declared.packing.Kind.TheVariants.{Data, Channel, SysExStart, Common, Undefined, TuneRequest, SysExEnd, RealTime}
use Rattle.midi_events.specs.Bytes.{kind, is_data, is_real_time, is_not_real_time, data_count, runs_on}
use Rattle.midi_events.specs.Events.{packet, unpacked}
use Rattle.midi_events.specs.Packing.{State, Idle, InSysEx, InMessage, event_at, kept_after, event, after, packed, after_all}
use Rattle.midi_events.specs.Spoken.{data_run, is_closed, with_status, common_message, sysex, spoken, CarriesWhatIsSaid}
use Rattle.midi_events.proofs.ByteKinds.{real_time_kind, data_kind, end_kind, channel_kind, is_real_time-kind, is_data-kind, is_end-kind, runs_on-kind, count_cases, is_f7-kind, carried-channel, carried-common}

-- no byte of the list is real time
abbrev IsPlain : List ℕ → Type 0
IsPlain [] = Unit {0}
IsPlain (x ∷ xs) = (is_real_time x ≡ false) × IsPlain xs

filter-plain : (xs : List ℕ) → IsPlain xs → filter is_not_real_time xs ≡ xs
filter-plain [] p = refl
filter-plain (x ∷ xs) p = rw (p.0, filter-plain xs p.1) refl

filter_real_time-plain : (xs : List ℕ) → IsPlain xs → filter is_real_time xs ≡ []
filter_real_time-plain [] p = refl
filter_real_time-plain (x ∷ xs) p = rw (p.0, filter_real_time-plain xs p.1) refl

-- the states that a stream leads to
pub data Reached : State → Type 0 where
  idle : Reached Idle
  none : Reached (InSysEx [])
  one : (a : ℕ) → is_real_time a ≡ false → Reached (InSysEx (a ∷ []))
  two : (a b : ℕ) → is_real_time a ≡ false → is_real_time b ≡ false → Reached (InSysEx (a ∷ b ∷ []))
  channel : (status : ℕ) → kind status ≡ Channel → Reached (InMessage status [])
  common : (status : ℕ) → kind status ≡ Common → Reached (InMessage status [])
  channel_first : (status a : ℕ) → kind status ≡ Channel → data_count status ≡ 2 → is_real_time a ≡ false → Reached (InMessage status (a ∷ []))
  common_first : (status a : ℕ) → kind status ≡ Common → data_count status ≡ 2 → is_real_time a ≡ false → Reached (InMessage status (a ∷ []))

-- what comes of the bytes kept, with the data bytes behind them
abbrev pub held : State → List ℕ → Bool → List ℕ
held Idle run closed = []
held (InSysEx kept) run closed = sysex (kept ++ run) closed
held (InMessage status kept) run closed = cond (runs_on status) (with_status status (kept ++ run)) (common_message status (kept ++ run))

abbrev pub to_come : State → List ℕ → List ℕ
to_come state stream = held state (data_run stream) (is_closed stream) ++ spoken stream

abbrev sent : Option (List ℕ) → List ℕ
sent event = flat_map unpacked (option_to_list event)

both_same : (b : Bool) (x : List ℕ) → cond b x x ≡ x
both_same true x = refl
both_same false x = refl

-- a status byte cuts short what is kept
message_cut : (status : ℕ) → cond (runs_on status) (with_status status []) (common_message status []) ≡ []
message_cut status = elim (count_cases status) [
  | inl is_one ↦ rw is_one (both_same (runs_on status) [])
  | inr is_two ↦ rw is_two (both_same (runs_on status) [])
]

first_cut : (status a : ℕ) → data_count status ≡ 2 → cond (runs_on status) (with_status status (a ∷ [])) (common_message status (a ∷ [])) ≡ []
first_cut status a is_two = rw is_two (both_same (runs_on status) [])

cut : {s : State} → Reached s → held s [] false ≡ []
cut idle = refl
cut none = refl
cut (one a p) = refl
cut (two a b p q) = refl
cut (channel status k) = message_cut status
cut (common status k) = message_cut status
cut (channel_first status a k is_two p) = first_cut status a is_two
cut (common_first status a k is_two p) = first_cut status a is_two

-- f7 ends what is kept of a SysEx, and cuts a message short
ended : {s : State} → Reached s → held s [] true ≡ sent (event_at SysExEnd s 247)
ended idle = refl
ended none = refl
ended (one a p) = refl
ended (two a b p q) = refl
ended (channel status k) = message_cut status
ended (common status k) = message_cut status
ended (channel_first status a k is_two p) = first_cut status a is_two
ended (common_first status a k is_two p) = first_cut status a is_two

sysex_triple : (a b c : ℕ) (run : List ℕ) (closed : Bool) → sysex (a ∷ b ∷ c ∷ run) closed ≡ a ∷ b ∷ c ∷ sysex run closed
sysex_triple a b c run true = refl
sysex_triple a b c run false = refl

-- a data byte: what it makes whole is sent, and the rest is kept
more : {s : State} → Reached s → (byte : ℕ) (run : List ℕ) (closed : Bool) → held s (byte ∷ run) closed ≡ sent (event_at Data s byte) ++ held (kept_after Data s byte) run closed
more idle byte run closed = refl
more none byte run closed = refl
more (one a p) byte run closed = refl
more (two a b p q) byte run closed = sysex_triple a b byte run closed
more (channel status k) byte run closed =
    let on : runs_on status ≡ true = runs_on-kind status ∙ ap channel_kind k in
    elim (count_cases status) [
      | inl is_one ↦ rw (is_one, on, carried-channel status k, is_one, on) refl
      | inr is_two ↦ rw (is_two, is_two, on) refl
    ]
more (common status k) byte run closed =
    let on : runs_on status ≡ false = runs_on-kind status ∙ ap channel_kind k in
    elim (count_cases status) [
      | inl is_one ↦ rw (is_one, on, carried-common status k, is_one) refl
      | inr is_two ↦ rw (is_two, is_two, on) refl
    ]
more (channel_first status a k is_two p) byte run closed =
    let on : runs_on status ≡ true = runs_on-kind status ∙ ap channel_kind k in
    rw (is_two, on, carried-channel status k, is_two, on) refl
more (common_first status a k is_two p) byte run closed =
    let on : runs_on status ≡ false = runs_on-kind status ∙ ap channel_kind k in
    rw (is_two, on, carried-common status k, is_two) refl

-- a data byte leads from one such state to another, and makes nothing whole that is real time
reached_by_data : {s : State} → Reached s → (byte : ℕ) → is_real_time byte ≡ false → Reached (kept_after Data s byte)
reached_by_data idle byte h = idle
reached_by_data none byte h = one byte h
reached_by_data (one a p) byte h = two a byte p h
reached_by_data (two a b p q) byte h = none
reached_by_data (channel status k) byte h =
    let on : runs_on status ≡ true = runs_on-kind status ∙ ap channel_kind k in
    elim (count_cases status) [
      | inl is_one ↦ rw (is_one, on) (channel status k)
      | inr is_two ↦ rw is_two (channel_first status byte k is_two h)
    ]
reached_by_data (common status k) byte h =
    let on : runs_on status ≡ false = runs_on-kind status ∙ ap channel_kind k in
    elim (count_cases status) [
      | inl is_one ↦ rw (is_one, on) idle
      | inr is_two ↦ rw is_two (common_first status byte k is_two h)
    ]
reached_by_data (channel_first status a k is_two p) byte h =
    let on : runs_on status ≡ true = runs_on-kind status ∙ ap channel_kind k in
    rw (is_two, on) (channel status k)
reached_by_data (common_first status a k is_two p) byte h =
    let on : runs_on status ≡ false = runs_on-kind status ∙ ap channel_kind k in
    rw (is_two, on) idle

plain_status : (status : ℕ) (k : Kind) → kind status ≡ k → real_time_kind k ≡ false → is_real_time status ≡ false
plain_status status k is_k other = is_real_time-kind status ∙ ap real_time_kind is_k ∙ other

plain_data : {s : State} → Reached s → (byte : ℕ) → is_real_time byte ≡ false → IsPlain (sent (event_at Data s byte))
plain_data idle byte h = tt
plain_data none byte h = tt
plain_data (one a p) byte h = tt
plain_data (two a b p q) byte h = (p, (q, (h, tt)))
plain_data (channel status k) byte h =
    let on : runs_on status ≡ true = runs_on-kind status ∙ ap channel_kind k in
    elim (count_cases status) [
      | inl is_one ↦ rw (is_one, on, carried-channel status k, is_one) (plain_status status Channel k refl, (h, tt))
      | inr is_two ↦ rw is_two tt
    ]
plain_data (common status k) byte h =
    let on : runs_on status ≡ false = runs_on-kind status ∙ ap channel_kind k in
    elim (count_cases status) [
      | inl is_one ↦ rw (is_one, on, carried-common status k, is_one) (plain_status status Common k refl, (h, tt))
      | inr is_two ↦ rw is_two tt
    ]
plain_data (channel_first status a k is_two p) byte h =
    let on : runs_on status ≡ true = runs_on-kind status ∙ ap channel_kind k in
    rw (is_two, on, carried-channel status k, is_two) (plain_status status Channel k refl, (p, (h, tt)))
plain_data (common_first status a k is_two p) byte h =
    let on : runs_on status ≡ false = runs_on-kind status ∙ ap channel_kind k in
    rw (is_two, on, carried-common status k, is_two) (plain_status status Common k refl, (p, (h, tt)))

plain_end : {s : State} → Reached s → (byte : ℕ) → is_real_time byte ≡ false → IsPlain (sent (event_at SysExEnd s byte))
plain_end idle byte h = tt
plain_end none byte h = (h, tt)
plain_end (one a p) byte h = (p, (h, tt))
plain_end (two a b p q) byte h = (p, (q, (h, tt)))
plain_end (channel status k) byte h = tt
plain_end (common status k) byte h = tt
plain_end (channel_first status a k is_two p) byte h = tt
plain_end (common_first status a k is_two p) byte h = tt

-- one byte that isn't real time: what it makes whole is sent, and the rest is still to come
record Steps (s : State) (byte : ℕ) (rest : List ℕ) : Type 0 where
  next : Reached (after s byte)
  plain : IsPlain (sent (event s byte))
  same : to_come s (byte ∷ rest) ≡ sent (event s byte) ++ to_come (after s byte) rest

steps : {s : State} → Reached s → (byte : ℕ) (rest : List ℕ) (k : Kind) → kind byte ≡ k → real_time_kind k ≡ false → Steps s byte rest
steps {s} r byte rest Data is_k other =
    let h : is_real_time byte ≡ false = plain_status byte Data is_k refl in
    let d : is_data byte ≡ true = is_data-kind byte ∙ ap data_kind is_k in
    record {
      next = rw is_k (reached_by_data r byte h);
      plain = rw is_k (plain_data r byte h);
      same = rw (is_k, d) (ap (λ (front : List ℕ). front ++ spoken rest) (more r byte (data_run rest) (is_closed rest)) ∙ append_assoc (sent (event_at Data s byte)) (held (kept_after Data s byte) (data_run rest) (is_closed rest)) (spoken rest));
    }
steps r byte rest Channel is_k other =
    let d : is_data byte ≡ false = is_data-kind byte ∙ ap data_kind is_k in
    let e : (byte == 247) ≡ false = is_end-kind byte ∙ ap end_kind is_k in
    let on : runs_on byte ≡ true = runs_on-kind byte ∙ ap channel_kind is_k in
    let begun : with_status byte (data_run rest) ≡ held (InMessage byte []) (data_run rest) (is_closed rest) = rw on refl in
    record {
      next = rw is_k (channel byte is_k);
      plain = rw is_k tt;
      same = rw (is_k, d, e) (ap (λ (front : List ℕ). front ++ (with_status byte (data_run rest) ++ spoken rest)) (cut r) ∙ ap (λ (front : List ℕ). front ++ spoken rest) begun);
    }
steps r byte rest SysExStart is_k other =
    let h : is_real_time byte ≡ false = plain_status byte SysExStart is_k refl in
    let d : is_data byte ≡ false = is_data-kind byte ∙ ap data_kind is_k in
    let e : (byte == 247) ≡ false = is_end-kind byte ∙ ap end_kind is_k in
    record {
      next = rw is_k (one byte h);
      plain = rw is_k tt;
      same = rw (is_k, d, e) (ap (λ (front : List ℕ). front ++ (sysex (byte ∷ data_run rest) (is_closed rest) ++ spoken rest)) (cut r));
    }
steps r byte rest Common is_k other =
    let d : is_data byte ≡ false = is_data-kind byte ∙ ap data_kind is_k in
    let e : (byte == 247) ≡ false = is_end-kind byte ∙ ap end_kind is_k in
    let on : runs_on byte ≡ false = runs_on-kind byte ∙ ap channel_kind is_k in
    let begun : common_message byte (data_run rest) ≡ held (InMessage byte []) (data_run rest) (is_closed rest) = rw on refl in
    record {
      next = rw is_k (common byte is_k);
      plain = rw is_k tt;
      same = rw (is_k, d, e) (ap (λ (front : List ℕ). front ++ (common_message byte (data_run rest) ++ spoken rest)) (cut r) ∙ ap (λ (front : List ℕ). front ++ spoken rest) begun);
    }
steps r byte rest Undefined is_k other =
    let d : is_data byte ≡ false = is_data-kind byte ∙ ap data_kind is_k in
    let e : (byte == 247) ≡ false = is_end-kind byte ∙ ap end_kind is_k in
    record {
      next = rw is_k idle;
      plain = rw is_k tt;
      same = rw (is_k, d, e) (ap (λ (front : List ℕ). front ++ spoken rest) (cut r));
    }
steps r byte rest TuneRequest is_k other =
    let h : is_real_time byte ≡ false = plain_status byte TuneRequest is_k refl in
    let d : is_data byte ≡ false = is_data-kind byte ∙ ap data_kind is_k in
    let e : (byte == 247) ≡ false = is_end-kind byte ∙ ap end_kind is_k in
    record {
      next = rw is_k idle;
      plain = rw is_k (h, tt);
      same = rw (is_k, d, e) (ap (λ (front : List ℕ). front ++ (byte ∷ spoken rest)) (cut r));
    }
steps {s} r byte rest SysExEnd is_k other =
    let h : is_real_time byte ≡ false = plain_status byte SysExEnd is_k refl in
    let d : is_data byte ≡ false = is_data-kind byte ∙ ap data_kind is_k in
    let e : (byte == 247) ≡ true = is_end-kind byte ∙ ap end_kind is_k in
    let end_of = ended r ∙ ap (λ (b : ℕ). sent (event_at SysExEnd s b)) (sym (is_f7-kind byte is_k)) in
    record {
      next = rw is_k idle;
      plain = rw is_k (plain_end r byte h);
      same = rw (is_k, d, e) (ap (λ (front : List ℕ). front ++ spoken rest) end_of);
    }
steps r byte rest RealTime is_k other = absurd (cc)

-- what is sent apart from real time is what is still to come apart from real time
abbrev pub SaysRest : State → List ℕ → Type 0
SaysRest s stream = filter is_not_real_time (flat_map unpacked (packed s stream)) ≡ to_come s (filter is_not_real_time stream)

says_one_plain : {s : State} → Reached s → (byte : ℕ) (rest : List ℕ) → is_real_time byte ≡ false → Steps s byte (filter is_not_real_time rest) → SaysRest (after s byte) rest → SaysRest s (byte ∷ rest)
says_one_plain {s} r byte rest h st ih =
    let first = option_to_list (event s byte) in
    let later = packed (after s byte) rest in
    let kept : filter is_not_real_time (byte ∷ rest) ≡ byte ∷ filter is_not_real_time rest = rw h refl in
    ap (λ (bytes : List ℕ). filter is_not_real_time bytes) (flat_map-append unpacked first later)
    ∙ filter-append is_not_real_time (flat_map unpacked first) (flat_map unpacked later)
    ∙ ap (λ (front : List ℕ). front ++ filter is_not_real_time (flat_map unpacked later)) (filter-plain (sent (event s byte)) st.plain)
    ∙ ap (λ (back : List ℕ). sent (event s byte) ++ back) ih
    ∙ sym st.same
    ∙ ap (λ (stream : List ℕ). to_come s stream) (sym kept)

says_one : {s : State} → Reached s → (byte : ℕ) (rest : List ℕ) (k : Kind) → kind byte ≡ k → ((t : State) → Reached t → SaysRest t rest) → SaysRest s (byte ∷ rest)
says_one r byte rest RealTime is_k ih =
    let h : is_real_time byte ≡ true = is_real_time-kind byte ∙ ap real_time_kind is_k in
    rw (is_k, h) (ih _ r)
says_one r byte rest Data is_k ih = let st = steps r byte (filter is_not_real_time rest) Data is_k refl in says_one_plain r byte rest (plain_status byte Data is_k refl) st (ih _ st.next)
says_one r byte rest Channel is_k ih = let st = steps r byte (filter is_not_real_time rest) Channel is_k refl in says_one_plain r byte rest (plain_status byte Channel is_k refl) st (ih _ st.next)
says_one r byte rest SysExStart is_k ih = let st = steps r byte (filter is_not_real_time rest) SysExStart is_k refl in says_one_plain r byte rest (plain_status byte SysExStart is_k refl) st (ih _ st.next)
says_one r byte rest Common is_k ih = let st = steps r byte (filter is_not_real_time rest) Common is_k refl in says_one_plain r byte rest (plain_status byte Common is_k refl) st (ih _ st.next)
says_one r byte rest Undefined is_k ih = let st = steps r byte (filter is_not_real_time rest) Undefined is_k refl in says_one_plain r byte rest (plain_status byte Undefined is_k refl) st (ih _ st.next)
says_one r byte rest TuneRequest is_k ih = let st = steps r byte (filter is_not_real_time rest) TuneRequest is_k refl in says_one_plain r byte rest (plain_status byte TuneRequest is_k refl) st (ih _ st.next)
says_one r byte rest SysExEnd is_k ih = let st = steps r byte (filter is_not_real_time rest) SysExEnd is_k refl in says_one_plain r byte rest (plain_status byte SysExEnd is_k refl) st (ih _ st.next)

pub says_rest : (stream : List ℕ) {s : State} → Reached s → SaysRest s stream
says_rest [] r = sym (ap (λ (front : List ℕ). front ++ []) (cut r))
says_rest (byte ∷ rest) r = says_one r byte rest (kind byte) refl (λ t reached. says_rest rest reached)

-- the real-time bytes that are sent are those of the stream
abbrev pub SameRealTime : State → List ℕ → Type 0
SameRealTime s stream = filter is_real_time (flat_map unpacked (packed s stream)) ≡ filter is_real_time stream

same_one_plain : (s : State) (byte : ℕ) (rest : List ℕ) → is_real_time byte ≡ false → IsPlain (sent (event s byte)) → SameRealTime (after s byte) rest → SameRealTime s (byte ∷ rest)
same_one_plain s byte rest h plain ih =
    let first = option_to_list (event s byte) in
    let later = packed (after s byte) rest in
    let dropped : filter is_real_time (byte ∷ rest) ≡ filter is_real_time rest = rw h refl in
    ap (λ (bytes : List ℕ). filter is_real_time bytes) (flat_map-append unpacked first later)
    ∙ filter-append is_real_time (flat_map unpacked first) (flat_map unpacked later)
    ∙ ap (λ (front : List ℕ). front ++ filter is_real_time (flat_map unpacked later)) (filter_real_time-plain (sent (event s byte)) plain)
    ∙ ih
    ∙ sym dropped

same_plain : {s : State} → Reached s → (byte : ℕ) (rest : List ℕ) (k : Kind) → kind byte ≡ k → real_time_kind k ≡ false → ((t : State) → Reached t → SameRealTime t rest) → SameRealTime s (byte ∷ rest)
same_plain {s} r byte rest k is_k other ih =
    let st = steps r byte [] k is_k other in
    same_one_plain s byte rest (plain_status byte k is_k other) st.plain (ih _ st.next)

same_one : {s : State} → Reached s → (byte : ℕ) (rest : List ℕ) (k : Kind) → kind byte ≡ k → ((t : State) → Reached t → SameRealTime t rest) → SameRealTime s (byte ∷ rest)
same_one r byte rest RealTime is_k ih =
    let h : is_real_time byte ≡ true = is_real_time-kind byte ∙ ap real_time_kind is_k in
    rw (is_k, h) (ap (λ (back : List ℕ). byte ∷ back) (ih _ r))
same_one r byte rest Data is_k ih = same_plain r byte rest Data is_k refl ih
same_one r byte rest Channel is_k ih = same_plain r byte rest Channel is_k refl ih
same_one r byte rest SysExStart is_k ih = same_plain r byte rest SysExStart is_k refl ih
same_one r byte rest Common is_k ih = same_plain r byte rest Common is_k refl ih
same_one r byte rest Undefined is_k ih = same_plain r byte rest Undefined is_k refl ih
same_one r byte rest TuneRequest is_k ih = same_plain r byte rest TuneRequest is_k refl ih
same_one r byte rest SysExEnd is_k ih = same_plain r byte rest SysExEnd is_k refl ih

pub same_real_time : (stream : List ℕ) {s : State} → Reached s → SameRealTime s stream
same_real_time [] r = refl
same_real_time (byte ∷ rest) r = same_one r byte rest (kind byte) refl (λ t reached. same_real_time rest reached)

-- the events of a stream in two parts
pub packed-append : (s : State) (front back : List ℕ) → packed s (front ++ back) ≡ packed s front ++ packed (after_all s front) back
packed-append s [] back = refl
packed-append s (byte ∷ rest) back =
    let first = option_to_list (event s byte) in
    ap (λ (later : List (List ℕ)). first ++ later) (packed-append (after s byte) rest back)
    ∙ sym (append_assoc first (packed (after s byte) rest) (packed (after_all (after s byte) rest) back))

pub real_time_at_once : (stream : List ℕ) (n byte : ℕ) → kind byte ≡ RealTime → packed Idle (insert stream n byte) ≡ insert (packed Idle stream) (length (packed Idle (take n stream))) (packet 15 (byte ∷ []))
real_time_at_once stream n byte is_k =
    let front = packed Idle (take n stream) in
    let state = after_all Idle (take n stream) in
    let back = packed state (drop n stream) in
    let whole : packed Idle stream ≡ front ++ back = ap (λ (bytes : List ℕ). packed Idle bytes) (sym (take-append-drop n stream)) ∙ packed-append Idle (take n stream) (drop n stream) in
    let own : packed state (byte ∷ drop n stream) ≡ packet 15 (byte ∷ []) ∷ back = rw is_k refl in
    let kept_front = take_at front back (length front) refl in
    let kept_back = drop_at front back (length front) refl in
    packed-append Idle (take n stream) (byte ∷ drop n stream)
    ∙ ap (λ (later : List (List ℕ)). front ++ later) own
    ∙ sym (ap (λ (events : List (List ℕ)). insert events (length front) (packet 15 (byte ∷ []))) whole ∙ rw (kept_front, kept_back) refl)

pub carries_what_is_said : (stream : List ℕ) → CarriesWhatIsSaid stream
carries_what_is_said stream = record {
  messages = says_rest stream idle;
  real_time = same_real_time stream idle;
  at_once = real_time_at_once stream;
}
