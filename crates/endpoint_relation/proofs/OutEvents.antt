-- What each bus event leaves of an OUT endpoint, and what a packet for it makes of it.
use Rattle.std.proofs.Common.{◌≡◌, ◌≢◌, ℕ, zero, suc, ◌+◌, ◌<◌, ◌≤◌, List, [], ◌∷◌, ◌++◌, length, append-nil, Bool, true, false, inl, inr, refl, ap, sym, ◌∙◌, arith, subst}
use Rattle.std.specs.Prelude.{◌&&◌, ◌==◌, ◌⊎◌, if◌then◌else◌, nat_le}
use Rattle.std.proofs.lemmas.Bool.Decides.{nat_tests}
use Rattle.std.proofs.lemmas.List.{get_or_past}
use Rattle.usb_packet.specs.declared.bus.Toggle.{Toggle}
use Rattle.usb_packet.specs.declared.bus.Toggle.TheVariants.{D0, D1}
use Rattle.usb_packet.specs.declared.bus.BusEvent.TheVariants as event
use Rattle.usb_packet.specs.Toggles.{same_toggle}
use Rattle.usb_ring.specs.Ring.{Ring}
use Rattle.device_pipe.specs.OutPipe.{OutPipe}
use Rattle.dwc2_fifo.specs.Words.{word_count, words_of}
use Rattle.dwc2_fifo.specs.Rx.{Entry, room_of}
use Rattle.device_table.specs.State.{Table, out_end, no_out_end}
use Rattle.device_table.specs.Words.{kind_of, number_of, pid_of, status_word, out_data}
use Rattle.device_table.specs.Bus.{OutOutcome, unheard, naks, stalls, drops, lands, InOutcome, unheard_in, naks_in, stalls_in, sends, has_room, hears, hears_setup, out_outcome, in_outcome, after_out, after_in, after_bus, after_setup, out_entries, setup_entries}
use Rattle.device_table.specs.Laws.{OutLeaves}
use Rattle.device_table.proofs.BusLemmas.{out_leaves}
use Rattle.endpoint_relation.specs.declared.out_.OutEndpoint.{OutEndpoint}
use Rattle.endpoint_relation.specs.OutRelation.{OutStandsFor}
use Rattle.endpoint_relation.specs.OutSteps.{outcome_at, end_after, arrived_after, pipe_after}
use Rattle.endpoint_relation.specs.OutLaws.{OutPacketKept}
use Rattle.endpoint_relation.specs.OutTable.{IsFull, arrivals_in, arrival_in, is_packet_of, outcome_on, entries_after}
use Rattle.endpoint_relation.specs.OutEvents.{OutStandsIn, OutStandsInFor, OutEventsKeep, OutEventsAnswer, HasPlace, out_pipe_in}
use Rattle.endpoint_relation.proofs.OutTables.{out_bus, out_lies, joins, no_packet, other_number, same_number, outcome_is}
use Rattle.endpoint_relation.proofs.OutPackets.{out_packet, unused_is}

-- An event that leaves the endpoint and its packets leaves all.

pub left : (t new : Table) (number : ℕ) (s : OutEndpoint) (ring : Ring) → out_end new number ≡ out_end t number → arrivals_in number new.rx.entries ≡ arrivals_in number t.rx.entries
    → OutStandsIn t number s ring → OutStandsInFor new number s ring (out_pipe_in t number s ring)
left t new number s ring e k st =
    let is = out_pipe_in t number s ring in
    subst (λ end. OutStandsFor number end s (arrivals_in number new.rx.entries) ring is) (sym e)
    (subst (λ arrived. OutStandsFor number (out_end t number) s arrived ring is) (sym k) (record { stands = st; pipe = refl }))

-- A SETUP.

setup_arrived : (t : Table) (number : ℕ) (bytes : List ℕ) → arrivals_in number (t.rx.entries ++ setup_entries bytes) ≡ arrivals_in number t.rx.entries
setup_arrived t number bytes = joins number t.rx.entries (setup_entries bytes) ∙ append-nil (arrivals_in number t.rx.entries)

setup_left : (heard : Bool) (t : Table) (n : ℕ) (s : OutEndpoint) (ring : Ring) (bytes : List ℕ) → OutStandsIn t (suc n) s ring
    → OutStandsInFor (if heard then after_setup t bytes else t) (suc n) s ring (out_pipe_in t (suc n) s ring)
setup_left true t n s ring bytes st = left t (after_setup t bytes) (suc n) s ring refl (setup_arrived t (suc n) bytes) st
setup_left false t n s ring bytes st = record { stands = st; pipe = refl }

-- An IN token.

in_left : (ep : ℕ) (t : Table) (n : ℕ) (s : OutEndpoint) (ring : Ring) (acked : Bool) (outcome : InOutcome) → OutStandsIn t (suc n) s ring
    → OutStandsInFor (after_in t ep acked outcome) (suc n) s ring (out_pipe_in t (suc n) s ring)
in_left ep t n s ring acked unheard_in st = record { stands = st; pipe = refl }
in_left ep t n s ring acked naks_in st = record { stands = st; pipe = refl }
in_left ep t n s ring acked stalls_in st = record { stands = st; pipe = refl }
in_left ep t n s ring false (sends packet) st = record { stands = st; pipe = refl }
in_left zero t n s ring true (sends packet) st = record { stands = st; pipe = refl }
in_left (suc m) t n s ring true (sends packet) st = record { stands = st; pipe = refl }

-- A packet for endpoint 0, and for another endpoint.

number_is : (m bytes pid : ℕ) → m < 16 → bytes ≤ 64 → pid ≤ 3 → number_of (status_word m bytes pid out_data) ≡ m
number_is m bytes pid h k l = omega arith

done_is : (m : ℕ) → m < 16 → kind_of (status_word m 0 0 3) ≡ 3
done_is m h = omega arith

pid_fits : (toggle : Toggle) → pid_of toggle ≤ 3
pid_fits D0 = omega arith
pid_fits D1 = omega arith

and_none : (b : Bool) → (b && false) ≡ false
and_none true = refl
and_none false = refl

other_arrived : (number m : ℕ) (toggle : Toggle) (bytes : List ℕ) → m < 16 → IsFull bytes → number ≢ m → arrivals_in number (out_entries m toggle bytes) ≡ []
other_arrived number m toggle bytes h full ne =
    let word = status_word m (length bytes) (pid_of toggle) out_data in
    let entry : Entry = record { status = word; words = words_of bytes } in
    let done : Entry = record { status = status_word m 0 0 3; words = [] } in
    let not_own : is_packet_of number entry ≡ false =
    ap (λ its. (kind_of word == 2) && (its == number)) (number_is m (length bytes) (pid_of toggle) h full.fits (pid_fits toggle))
    ∙ ap (λ b. (kind_of word == 2) && b) (other_number number m ne) ∙ and_none (kind_of word == 2) in
    ap (λ b. if b then arrival_in entry ∷ arrivals_in number (done ∷ []) else arrivals_in number (done ∷ [])) not_own
    ∙ ap (λ b. if b then arrival_in done ∷ [] else []) (no_packet number done 3 (done_is m h) refl)

behind_arrived : (number m : ℕ) (toggle : Toggle) (bytes : List ℕ) (entries : List Entry) → m < 16 → IsFull bytes → number ≢ m
    → arrivals_in number (entries ++ out_entries m toggle bytes) ≡ arrivals_in number entries
behind_arrived number m toggle bytes entries h full ne =
    joins number entries (out_entries m toggle bytes) ∙ ap (λ arrived. arrivals_in number entries ++ arrived) (other_arrived number m toggle bytes h full ne) ∙ append-nil (arrivals_in number entries)

zero_end : (t : Table) (n : ℕ) (toggle : Toggle) (bytes : List ℕ) (outcome : OutOutcome) → out_end (after_out t 0 toggle bytes outcome) (suc n) ≡ out_end t (suc n)
zero_end t n toggle bytes unheard = refl
zero_end t n toggle bytes naks = refl
zero_end t n toggle bytes stalls = refl
zero_end t n toggle bytes drops = refl
zero_end t n toggle bytes lands = refl

zero_arrived : (t : Table) (n : ℕ) (toggle : Toggle) (bytes : List ℕ) (outcome : OutOutcome) → IsFull bytes
    → arrivals_in (suc n) (after_out t 0 toggle bytes outcome).rx.entries ≡ arrivals_in (suc n) t.rx.entries
zero_arrived t n toggle bytes unheard full = refl
zero_arrived t n toggle bytes naks full = refl
zero_arrived t n toggle bytes stalls full = refl
zero_arrived t n toggle bytes drops full = refl
zero_arrived t n toggle bytes lands full = behind_arrived (suc n) 0 toggle bytes t.rx.entries (omega arith) full (λ e. absurd (omega (arith, e)))

more_arrived : (t : Table) (m n : ℕ) (toggle : Toggle) (bytes : List ℕ) (outcome : OutOutcome) → m < 15 → IsFull bytes → suc n ≢ suc m
    → arrivals_in (suc n) (after_out t (suc m) toggle bytes outcome).rx.entries ≡ arrivals_in (suc n) t.rx.entries
more_arrived t m n toggle bytes unheard h full ne = refl
more_arrived t m n toggle bytes naks h full ne = refl
more_arrived t m n toggle bytes stalls h full ne = refl
more_arrived t m n toggle bytes drops h full ne = refl
more_arrived t m n toggle bytes lands h full ne = behind_arrived (suc n) (suc m) toggle bytes t.rx.entries (omega arith) full ne

-- a packet for an endpoint that the controller hasn't is heard by none
none_hears : (t : Table) (addr m : ℕ) (toggle : Toggle) (bytes : List ℕ) (good : Bool) → length t.outs ≤ m → out_outcome t addr (suc m) toggle bytes good ≡ unheard
none_hears t addr m toggle bytes good h =
    let no : out_end t (suc m) ≡ no_out_end = get_or_past t.outs m no_out_end h in
    outcome_is t addr m toggle bytes good
    ∙ ap (λ end. outcome_at end toggle bytes (hears t addr && good) (has_room t bytes)) no
    ∙ unused_is (hears t addr && good) false (nat_le (length bytes) 64) false false false (same_toggle D0 toggle) (has_room t bytes) refl

pub same_or_not : (y n : ℕ) → (y ≡ n) ⊎ (y ≢ n)
same_or_not zero zero = inl refl
same_or_not zero (suc n) = inr (λ e. absurd (omega arith))
same_or_not (suc y) zero = inr (λ e. absurd (omega arith))
same_or_not (suc y) (suc n) = by (same_or_not y n)
  where
    by : (y ≡ n) ⊎ (y ≢ n) → (suc y ≡ suc n) ⊎ (suc y ≢ suc n)
    by (inl e) = inl (ap suc e)
    by (inr h) = inr (λ e. h (omega arith))

below_or_not : (m k : ℕ) → (m < k) ⊎ (k ≤ m)
below_or_not m zero = inr (omega arith)
below_or_not zero (suc k) = inl (omega arith)
below_or_not (suc m) (suc k) = by (below_or_not m k)
  where
    by : (m < k) ⊎ (k ≤ m) → (suc m < suc k) ⊎ (suc k ≤ suc m)
    by (inl h) = inl (omega arith)
    by (inr h) = inr (omega arith)

apart : (n m : ℕ) → m ≢ n → suc n ≢ suc m
apart n m h = λ e. h (omega arith)

other_left : (t : Table) (addr m n : ℕ) (s : OutEndpoint) (ring : Ring) (toggle : Toggle) (bytes : List ℕ) (good : Bool) → length t.outs ≤ 15 → IsFull bytes → m ≢ n → (m < length t.outs) ⊎ (length t.outs ≤ m)
    → OutStandsIn t (suc n) s ring → OutStandsInFor (after_out t (suc m) toggle bytes (out_outcome t addr (suc m) toggle bytes good)) (suc n) s ring (out_pipe_in t (suc n) s ring)
other_left t addr m n s ring toggle bytes good few full ne (inl there) st =
    let outcome = out_outcome t addr (suc m) toggle bytes good in
    let leaves : OutLeaves t (after_out t (suc m) toggle bytes outcome) m = out_leaves t m toggle bytes outcome in
    left t (after_out t (suc m) toggle bytes outcome) (suc n) s ring (leaves.outs (suc n) (apart n m ne)) (more_arrived t m n toggle bytes outcome (omega arith) full (apart n m ne)) st
other_left t addr m n s ring toggle bytes good few full ne (inr beyond) st =
    subst (λ outcome. OutStandsInFor (after_out t (suc m) toggle bytes outcome) (suc n) s ring (out_pipe_in t (suc n) s ring)) (sym (none_hears t addr m toggle bytes good beyond))
    (record { stands = st; pipe = refl })

-- A packet for it.

own_arrived : (t : Table) (n : ℕ) (toggle : Toggle) (bytes : List ℕ) (outcome : OutOutcome) → n < 15 → IsFull bytes
    → arrivals_in (suc n) (entries_after outcome t.rx.entries (suc n) toggle bytes) ≡ arrived_after outcome (arrivals_in (suc n) t.rx.entries) toggle bytes
own_arrived t n toggle bytes unheard h full = refl
own_arrived t n toggle bytes naks h full = refl
own_arrived t n toggle bytes stalls h full = refl
own_arrived t n toggle bytes drops h full = refl
own_arrived t n toggle bytes lands h full =
    joins (suc n) t.rx.entries (out_entries (suc n) toggle bytes)
    ∙ ap (λ arrived. arrivals_in (suc n) t.rx.entries ++ arrived) (out_lies (suc n) n toggle bytes [] [] h full).own

place_is : (n room : ℕ) → n ≤ 64 → 18 ≤ room → nat_le (2 + word_count n) room ≡ true
place_is n room h k = grind (arith, nat_tests)

own_kept : (t : Table) (addr n : ℕ) (s : OutEndpoint) (ring : Ring) (toggle : Toggle) (bytes : List ℕ) (good : Bool) → IsFull bytes → OutStandsIn t (suc n) s ring → HasPlace t (suc n) s
    → OutPacketKept (suc n) (out_end t (suc n)) s (arrivals_in (suc n) t.rx.entries) ring toggle bytes (hears t addr && good) (has_room t bytes)
own_kept t addr n s ring toggle bytes good full st place =
    out_packet (suc n) (out_end t (suc n)) s (arrivals_in (suc n) t.rx.entries) ring toggle bytes (hears t addr && good) (has_room t bytes) st full.below
    (λ h. place_is (length bytes) (room_of t.rx) full.fits (place h))

own_left : (t : Table) (addr n : ℕ) (s : OutEndpoint) (ring : Ring) (toggle : Toggle) (bytes : List ℕ) (good : Bool) → n < length t.outs → length t.outs ≤ 15 → IsFull bytes → OutStandsIn t (suc n) s ring → HasPlace t (suc n) s
    → OutStandsInFor (after_bus t (event.Out addr (suc n) toggle bytes good)) (suc n) s ring (pipe_after s (out_pipe_in t (suc n) s ring) toggle bytes (hears t addr && good))
own_left t addr n s ring toggle bytes good h few full st place =
    let meets = out_bus t addr n toggle bytes good in
    let new = after_bus t (event.Out addr (suc n) toggle bytes good) in
    let outcome = outcome_on t addr n toggle bytes good in
    let is = pipe_after s (out_pipe_in t (suc n) s ring) toggle bytes (hears t addr && good) in
    let arrived : arrivals_in (suc n) new.rx.entries ≡ arrived_after outcome (arrivals_in (suc n) t.rx.entries) toggle bytes =
    ap (arrivals_in (suc n)) meets.entries ∙ own_arrived t n toggle bytes outcome (omega arith) full in
    subst (λ end. OutStandsFor (suc n) end s (arrivals_in (suc n) new.rx.entries) ring is) (sym (meets.end h))
    (subst (λ a. OutStandsFor (suc n) (end_after outcome (out_end t (suc n))) s a ring is) (sym arrived)
    (own_kept t addr n s ring toggle bytes good full st place).next)

-- Each event.

abbrev chosen : Bool → OutPipe → OutPipe → OutPipe
chosen own after before = if own then after else before

out_by : (t : Table) (addr m n : ℕ) (s : OutEndpoint) (ring : Ring) (toggle : Toggle) (bytes : List ℕ) (good : Bool) → n < length t.outs → length t.outs ≤ 15 → IsFull bytes → OutStandsIn t (suc n) s ring → HasPlace t (suc n) s
    → (m ≡ n) ⊎ (m ≢ n)
    → OutStandsInFor (after_bus t (event.Out addr (suc m) toggle bytes good)) (suc n) s ring
    (chosen (suc m == suc n) (pipe_after s (out_pipe_in t (suc n) s ring) toggle bytes (hears t addr && good)) (out_pipe_in t (suc n) s ring))
out_by t addr m n s ring toggle bytes good h few full st place (inl same) =
    let before = out_pipe_in t (suc n) s ring in
    let after = pipe_after s before toggle bytes (hears t addr && good) in
    subst (λ y. OutStandsInFor (after_bus t (event.Out addr (suc y) toggle bytes good)) (suc n) s ring (chosen (suc y == suc n) after before)) (sym same)
    (subst (λ own. OutStandsInFor (after_bus t (event.Out addr (suc n) toggle bytes good)) (suc n) s ring (chosen own after before)) (sym (same_number (suc n)))
    (own_left t addr n s ring toggle bytes good h few full st place))
out_by t addr m n s ring toggle bytes good h few full st place (inr ne) =
    let before = out_pipe_in t (suc n) s ring in
    let after = pipe_after s before toggle bytes (hears t addr && good) in
    subst (λ own. OutStandsInFor (after_bus t (event.Out addr (suc m) toggle bytes good)) (suc n) s ring (chosen own after before)) (sym (other_number (suc n) (suc m) (apart n m ne)))
    (other_left t addr m n s ring toggle bytes good few full ne (below_or_not m (length t.outs)) st)

zero_by : (t : Table) (addr n : ℕ) (s : OutEndpoint) (ring : Ring) (toggle : Toggle) (bytes : List ℕ) (good : Bool) → IsFull bytes → OutStandsIn t (suc n) s ring
    → OutStandsInFor (after_bus t (event.Out addr 0 toggle bytes good)) (suc n) s ring
    (chosen (0 == suc n) (pipe_after s (out_pipe_in t (suc n) s ring) toggle bytes (hears t addr && good)) (out_pipe_in t (suc n) s ring))
zero_by t addr n s ring toggle bytes good full st =
    let outcome = out_outcome t addr 0 toggle bytes good in
    let before = out_pipe_in t (suc n) s ring in
    let after = pipe_after s before toggle bytes (hears t addr && good) in
    subst (λ own. OutStandsInFor (after_out t 0 toggle bytes outcome) (suc n) s ring (chosen own after before)) (sym (other_number (suc n) 0 (λ e. absurd (omega (arith, e)))))
    (left t (after_out t 0 toggle bytes outcome) (suc n) s ring (zero_end t n toggle bytes outcome) (zero_arrived t n toggle bytes outcome full) st)

pub out_events : OutEventsKeep
out_events t n s ring event.Reset h few full st place = record { stands = st; pipe = refl }
out_events t n s ring (event.Setup addr bytes ok) h few full st place = setup_left (hears_setup t addr ok) t n s ring bytes st
out_events t n s ring (event.Out addr zero toggle packet ok) h few full st place = zero_by t addr n s ring toggle packet ok full st
out_events t n s ring (event.Out addr (suc m) toggle packet ok) h few full st place = out_by t addr m n s ring toggle packet ok h few full st place (same_or_not m n)
out_events t n s ring (event.In addr ep ok) h few full st place = in_left ep t n s ring ok (in_outcome t addr ep) st

pub out_answers : OutEventsAnswer
out_answers t n s ring addr toggle packet ok full st place =
    (out_bus t addr n toggle packet ok).answer ∙ (own_kept t addr n s ring toggle packet ok full st place).answer
