-- The steps of an OUT endpoint on the whole controller.
use Rattle.std.proofs.Common.{◌≡◌, ◌≢◌, ℕ, zero, suc, ◌-◌, ◌<◌, ◌≤◌, List, [], ◌∷◌, ◌++◌, length, take, Bool, true, false, refl, ap, sym, ◌∙◌, arith, subst}
use Rattle.std.specs.Prelude.{◌||◌, ◌&&◌, not, ◌==◌, if◌then◌else◌, nat_le}
use Rattle.std.proofs.lemmas.Bool.Decides.{nat_tests}
use Rattle.std.proofs.lemmas.List.{get_or-set_same, set-set, set-get_or}
use Rattle.usb_packet.specs.declared.bus.Toggle.{Toggle}
use Rattle.usb_packet.specs.declared.bus.Toggle.TheVariants.{D0, D1}
use Rattle.usb_packet.specs.Toggles.{same_toggle}
use Rattle.usb_descriptor.specs.Set.{is_core}
use Rattle.device_arrivals.specs.Arrivals.{Landed}
use Rattle.dwc2_regs.specs.declared.TheConstants.{GRXSTSP_BYTES, GRXSTSP_PID}
use Rattle.dwc2_regs.specs.Field.{field_of}
use Rattle.dwc2_regs.specs.Register.{doepctl, doepint, grxstsp}
use Rattle.dwc2_fifo.specs.Words.{bytes_in, words_of}
use Rattle.dwc2_fifo.specs.Rx.{Entry, words_behind}
use Rattle.dwc2_fifo.proofs.WordsLemmas.{bytes_in-words_of}
use Rattle.device_table.specs.State.{Table, OutEnd, out_end, with_out, no_out_end}
use Rattle.device_table.specs.Words.{kind_of, number_of, pid_of, status_word, out_data, out_done}
use Rattle.device_table.specs.Read.{after_read}
use Rattle.device_table.specs.Write.{after_write, out_control_written, out_interrupts_written}
use Rattle.device_table.specs.Bus.{OutOutcome, unheard, naks, stalls, drops, lands, has_room, hears, out_outcome, out_answer, after_out, out_entries, out_landed}
use Rattle.endpoint_relation.specs.OutWords.{base, arm_word, close_word, one_packet, moved_bits, closed_bits}
use Rattle.endpoint_relation.specs.OutRelation.{is_used, size_in, is_armed}
use Rattle.endpoint_relation.specs.OutSteps.{end_after, halted}
use Rattle.endpoint_relation.specs.OutTable.{OutPops, IsFull, OutPuts, OutWritesMeet, OutBusMeets, OutLiesApart, OutPopsWhole, arrivals_in, arrival_in, is_packet_of, toggle_in}
use Rattle.endpoint_relation.specs.OutTable.{words_skipped, entries_after, outcome_on, reads_landed}

-- One endpoint.

pub out_puts : OutPuts
out_puts t n h = record {
  there = λ end. get_or-set_same t.outs n end no_out_end h;
  twice = λ end last. ap (λ ends. record t { outs = ends }) (set-set t.outs n end last);
  same = ap (λ ends. record t { outs = ends }) (set-get_or t.outs n no_out_end);
}

-- two writes to it
after_two : (t : Table) (n : ℕ) (first : OutEnd) (step : OutEnd → OutEnd) → n < length t.outs
    → with_out (with_out t (suc n) first) (suc n) (step (out_end (with_out t (suc n) first) (suc n))) ≡ with_out t (suc n) (step first)
after_two t n first step h =
    let puts = out_puts t n h in
    puts.twice first (step (out_end (with_out t (suc n) first) (suc n))) ∙ ap (λ end. with_out t (suc n) (step end)) (puts.there first)

halts_by : (core : Bool) (t : Table) (n word : ℕ) → n < length t.outs
    → (if core then t else after_write t (doepctl (suc n)) word) ≡ with_out t (suc n) (if core then out_end t (suc n) else out_control_written true (out_end t (suc n)) word)
halts_by true t n word h = sym (out_puts t n h).same
halts_by false t n word h = refl

reads_by : (over armed seen : Bool) → armed ≡ true → over ≡ false → seen ≡ (over || (armed && seen))
reads_by over armed seen h k = rw (h, k) refl

pub out_writes : OutWritesMeet
out_writes t n s h = record {
  arms = after_two t n (record (out_end t (suc n)) { tsiz = one_packet s.endpoint.size }) (λ end. out_control_written true end (arm_word s)) h;
  halts = halts_by (is_core s.endpoint.owner) t n (base (halted s)) h;
  clears = refl;
  opens = λ endpoint. refl;
  closes = after_two t n (out_control_written true (out_end t (suc n)) close_word) (λ end. out_interrupts_written end closed_bits) h;
  reads = reads_by s.over (is_armed s.state) (reads_landed t (suc n));
}

-- The bus.

abbrev outcome_heard : Bool → (stall enabled nak same room : Bool) → OutOutcome
outcome_heard heard stall enabled nak same room =
    if not heard then unheard
    else if stall then stalls
    else if not enabled || nak then naks
    else if not same then drops
    else if not room then naks
    else lands

four : (a b c d : Bool) → (a && b && c && d) ≡ ((a && b) && (c && d))
four true true c d = refl
four true false c d = refl
four false b c d = refl

pub outcome_is : (t : Table) (addr n : ℕ) (toggle : Toggle) (bytes : List ℕ) (good : Bool) → out_outcome t addr (suc n) toggle bytes good ≡ outcome_on t addr n toggle bytes good
outcome_is t addr n toggle bytes good =
    let end = out_end t (suc n) in
    ap (λ heard. outcome_heard heard end.control.stall end.control.enabled end.control.nak (same_toggle end.toggle toggle) (has_room t bytes))
    (four (hears t addr) good (is_used end.control) (nat_le (length bytes) (size_in end.control)))

end_by : (t : Table) (n : ℕ) (toggle : Toggle) (bytes : List ℕ) (outcome : OutOutcome) → n < length t.outs → out_end (after_out t (suc n) toggle bytes outcome) (suc n) ≡ end_after outcome (out_end t (suc n))
end_by t n toggle bytes unheard h = refl
end_by t n toggle bytes naks h = refl
end_by t n toggle bytes stalls h = refl
end_by t n toggle bytes drops h = refl
end_by t n toggle bytes lands h = get_or-set_same t.outs n (out_landed (out_end t (suc n))) no_out_end h

entries_by : (t : Table) (n : ℕ) (toggle : Toggle) (bytes : List ℕ) (outcome : OutOutcome) → (after_out t (suc n) toggle bytes outcome).rx.entries ≡ entries_after outcome t.rx.entries (suc n) toggle bytes
entries_by t n toggle bytes unheard = refl
entries_by t n toggle bytes naks = refl
entries_by t n toggle bytes stalls = refl
entries_by t n toggle bytes drops = refl
entries_by t n toggle bytes lands = refl

pub out_bus : OutBusMeets
out_bus t addr n toggle bytes good =
    let same = outcome_is t addr n toggle bytes good in
    record {
      answer = ap out_answer same;
      end = λ h. ap (λ outcome. out_end (after_out t (suc n) toggle bytes outcome) (suc n)) same ∙ end_by t n toggle bytes (outcome_on t addr n toggle bytes good) h;
      entries = ap (λ outcome. (after_out t (suc n) toggle bytes outcome).rx.entries) same ∙ entries_by t n toggle bytes (outcome_on t addr n toggle bytes good);
      reset = refl;
      reset_entries = refl;
    }

-- Status words.

pid_fits : (toggle : Toggle) → pid_of toggle ≤ 3
pid_fits D0 = omega arith
pid_fits D1 = omega arith

data_kind : (n bytes pid : ℕ) → n < 15 → bytes ≤ 64 → pid ≤ 3 → kind_of (status_word (suc n) bytes pid out_data) ≡ 2
data_kind n bytes pid h k l = omega arith

data_number : (n bytes pid : ℕ) → n < 15 → bytes ≤ 64 → pid ≤ 3 → number_of (status_word (suc n) bytes pid out_data) ≡ suc n
data_number n bytes pid h k l = omega arith

data_bytes : (n bytes pid : ℕ) → n < 15 → bytes ≤ 64 → pid ≤ 3 → field_of (status_word (suc n) bytes pid out_data) GRXSTSP_BYTES ≡ bytes
data_bytes n bytes pid h k l = omega arith

data_pid : (n bytes pid : ℕ) → n < 15 → bytes ≤ 64 → pid ≤ 3 → field_of (status_word (suc n) bytes pid out_data) GRXSTSP_PID ≡ pid
data_pid n bytes pid h k l = omega arith

done_kind : (n : ℕ) → n < 15 → kind_of (status_word (suc n) 0 0 out_done) ≡ 3
done_kind n h = omega arith

done_number : (n : ℕ) → n < 15 → number_of (status_word (suc n) 0 0 out_done) ≡ suc n
done_number n h = omega arith

toggle_is : (toggle : Toggle) → toggle_in (pid_of toggle) ≡ toggle
toggle_is D0 = refl
toggle_is D1 = refl

-- What lies of an endpoint.

join_if : (b : Bool) (arrival : Landed) (front behind : List Landed)
    → (if b then arrival ∷ (front ++ behind) else front ++ behind) ≡ (if b then arrival ∷ front else front) ++ behind
join_if true arrival front behind = refl
join_if false arrival front behind = refl

pub joins : (number : ℕ) (front behind : List Entry) → arrivals_in number (front ++ behind) ≡ arrivals_in number front ++ arrivals_in number behind
joins number [] behind = refl
joins number (entry ∷ front) behind =
    ap (λ arrived. if is_packet_of number entry then arrival_in entry ∷ arrived else arrived) (joins number front behind)
    ∙ join_if (is_packet_of number entry) (arrival_in entry) (arrivals_in number front) (arrivals_in number behind)

abbrev data_entry : ℕ → Toggle → List ℕ → Entry
data_entry n toggle bytes = record { status = status_word (suc n) (length bytes) (pid_of toggle) out_data; words = words_of bytes }

arrival_is : (n : ℕ) (toggle : Toggle) (bytes : List ℕ) → n < 15 → IsFull bytes → arrival_in (data_entry n toggle bytes) ≡ record { toggle = toggle; bytes = bytes }
arrival_is n toggle bytes h full =
    let word = status_word (suc n) (length bytes) (pid_of toggle) out_data in
    ap (λ pid. record { toggle = toggle_in pid; bytes = take (field_of word GRXSTSP_BYTES) (bytes_in (words_of bytes)) }) (data_pid n (length bytes) (pid_of toggle) h full.fits (pid_fits toggle))
    ∙ ap (λ its. record { toggle = its; bytes = take (field_of word GRXSTSP_BYTES) (bytes_in (words_of bytes)) }) (toggle_is toggle)
    ∙ ap (λ count. record { toggle = toggle; bytes = take count (bytes_in (words_of bytes)) }) (data_bytes n (length bytes) (pid_of toggle) h full.fits (pid_fits toggle))
    ∙ ap (λ bs. record { toggle = toggle; bytes = bs }) (bytes_in-words_of bytes full.below)

pub same_number : (n : ℕ) → (n == n) ≡ true
same_number n = grind (arith, nat_tests)

pub other_number : (a b : ℕ) → a ≢ b → (b == a) ≡ false
other_number a b h = grind (arith, nat_tests)

pub no_packet : (number : ℕ) (entry : Entry) (kind : ℕ) → kind_of entry.status ≡ kind → (kind == 2) ≡ false → is_packet_of number entry ≡ false
no_packet number entry kind e k = ap (λ x. (x == 2) && (number_of entry.status == number)) e ∙ ap (λ x. x && (number_of entry.status == number)) k

pub done_none : (number n : ℕ) → n < 15 → arrivals_in number (record { status = status_word (suc n) 0 0 out_done; words = [] } ∷ []) ≡ []
done_none number n h =
    let entry : Entry = record { status = status_word (suc n) 0 0 out_done; words = [] } in
    ap (λ b. if b then arrival_in entry ∷ [] else []) (no_packet number entry 3 (done_kind n h) refl)

own_is : (n : ℕ) (toggle : Toggle) (bytes : List ℕ) → n < 15 → IsFull bytes → is_packet_of (suc n) (data_entry n toggle bytes) ≡ true
own_is n toggle bytes h full =
    let word = status_word (suc n) (length bytes) (pid_of toggle) out_data in
    ap (λ kind. (kind == 2) && (number_of word == suc n)) (data_kind n (length bytes) (pid_of toggle) h full.fits (pid_fits toggle))
    ∙ ap (λ number. number == suc n) (data_number n (length bytes) (pid_of toggle) h full.fits (pid_fits toggle))
    ∙ same_number (suc n)

other_is : (number n : ℕ) (toggle : Toggle) (bytes : List ℕ) → n < 15 → IsFull bytes → number ≢ suc n → is_packet_of number (data_entry n toggle bytes) ≡ false
other_is number n toggle bytes h full ne =
    let word = status_word (suc n) (length bytes) (pid_of toggle) out_data in
    ap (λ kind. (kind == 2) && (number_of word == number)) (data_kind n (length bytes) (pid_of toggle) h full.fits (pid_fits toggle))
    ∙ ap (λ its. its == number) (data_number n (length bytes) (pid_of toggle) h full.fits (pid_fits toggle))
    ∙ other_number number (suc n) ne

pub out_lies : OutLiesApart
out_lies number n toggle bytes front behind h full =
    let entry = data_entry n toggle bytes in
    let done : List Entry = record { status = status_word (suc n) 0 0 out_done; words = [] } ∷ [] in
    record {
      joined = joins number front behind;
      own = ap (λ b. if b then arrival_in entry ∷ arrivals_in (suc n) done else arrivals_in (suc n) done) (own_is n toggle bytes h full)
          ∙ ap (λ arrived. arrival_in entry ∷ arrived) (done_none (suc n) n h)
          ∙ ap (λ arrival. arrival ∷ []) (arrival_is n toggle bytes h full);
      other = λ ne. ap (λ b. if b then arrival_in entry ∷ arrivals_in number done else arrivals_in number done) (other_is number n toggle bytes h full ne) ∙ done_none number n h;
      setup = λ eight. refl;
    }

-- A packet's entries are popped.

abbrev rx_with : Table → List ℕ → List Entry → Table
rx_with t left entries = record t { rx = record t.rx { left = left; entries = entries } }

skipped : List ℕ → ℕ → List ℕ
skipped left zero = left
skipped left (suc k) = skipped (words_behind left) k

skips : (t : Table) (left : List ℕ) (entries : List Entry) (k : ℕ) → words_skipped k (rx_with t left entries) ≡ rx_with t (skipped left k) entries
unfolding skipped
skips t left entries zero = refl
skips t left entries (suc k) = skips t (words_behind left) entries k

abbrev popped_by : ℕ → Table → ℕ → Table
popped_by kind t number =
    if kind == 4 then record t { out0 = record t.out0 { stup = true }; core = record t.core { unserved = t.core.unserved - 1 } }
    else if kind == 3 then with_out t number (record (out_end t number) { xfrc = true })
    else t

pops_by : (t : Table) (n : ℕ) (toggle : Toggle) (bytes : List ℕ) (rest : List Entry) → n < length t.outs → n < 15 → IsFull bytes
    → OutPops (record t { rx = record t.rx { entries = out_entries (suc n) toggle bytes ++ rest } }) n toggle bytes rest
pops_by t n toggle bytes rest there h full =
    let word = status_word (suc n) (length bytes) (pid_of toggle) out_data in
    let done = status_word (suc n) 0 0 out_done in
    let behind : List Entry = record { status = done; words = [] } ∷ rest in
    let kind = data_kind n (length bytes) (pid_of toggle) h full.fits (pid_fits toggle) in
    let all : Table = record t { rx = record t.rx { entries = out_entries (suc n) toggle bytes ++ rest } } in
    let opened : after_read all grxstsp ≡ rx_with t (words_of bytes) behind =
    ap (λ k. popped_by k (rx_with t (words_of bytes) behind) (number_of word)) kind in
    let end = out_end t (suc n) in
    let last : Table = rx_with t [] rest in
    let set : (left : List ℕ) → after_read (rx_with t left behind) grxstsp ≡ with_out last (suc n) (record end { xfrc = true }) =
    λ left. ap (λ k. popped_by k last (number_of done)) (done_kind n h) ∙ ap (λ number. with_out last number (record (out_end last number) { xfrc = true })) (done_number n h) in
    record {
      status = refl;
      kind = kind;
      number = data_number n (length bytes) (pid_of toggle) h full.fits (pid_fits toggle);
      count = data_bytes n (length bytes) (pid_of toggle) h full.fits (pid_fits toggle);
      words = ap (λ (x : Table). x.rx.left) opened;
      taken = λ words.
          ap (λ x. after_write (after_read (words_skipped words x) grxstsp) (doepint (suc n)) moved_bits) opened
          ∙ ap (λ x. after_write (after_read x grxstsp) (doepint (suc n)) moved_bits) (skips t (words_of bytes) behind words)
          ∙ ap (λ x. after_write x (doepint (suc n)) moved_bits) (set (skipped (words_of bytes) words))
          ∙ after_two last n (record end { xfrc = true }) (λ e. out_interrupts_written e moved_bits) there;
    }

pub out_pops : OutPopsWhole
out_pops t n toggle bytes rest there h full e =
    let same : t ≡ record t { rx = record t.rx { entries = out_entries (suc n) toggle bytes ++ rest } } = ap (λ entries. record t { rx = record t.rx { entries = entries } }) e in
    subst (λ x. OutPops x n toggle bytes rest) (sym same) (pops_by t n toggle bytes rest there h full)
