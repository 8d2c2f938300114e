-- The register lines of a step at the controller are the step at the endpoint.
use Rattle.std.proofs.Common.{◌≡◌, ℕ, zero, suc, ◌*◌, ◌^◌, ◌≤◌, List, [], ◌∷◌, length, Bool, true, false, Option, refl, ap, ◌∙◌, sym, arith, map, set, get_or, length-set}
use Rattle.std.specs.Prelude.{◌&&◌, ◌||◌, not, if◌then◌else◌, ◌==◌}
use Rattle.std.specs.List.{concat}
use Rattle.std.proofs.lemmas.List.{length-map, get_or-set_same, set-set, set-get_or}
use Rattle.std.proofs.lemmas.Bool.Decides.{nat_tests}
use Rattle.usb_packet.specs.declared.bus.BusAnswer.TheVariants as answers
use Rattle.usb_packet.specs.declared.bus.Toggle.{Toggle}
use Rattle.usb_descriptor.specs.declared.endpoint.Endpoint.{Endpoint}
use Rattle.usb_descriptor.specs.Set.{is_core}
use Rattle.dwc2_regs.specs.declared.TheConstants.{GRSTCTL_RXFFLSH, GRSTCTL_TXFFLSH, GRSTCTL_TXFNUM, DIEPCTL_USBAEP, DIEPINT_XFRC}
use Rattle.dwc2_regs.specs.Field.{field_of}
use Rattle.dwc2_regs.specs.Register.{grstctl, diepctl, diepint}
use Rattle.dwc2_fifo.specs.Words.{words_of}
use Rattle.device_table.specs.State.{Table, InEnd, in_end, with_in, in_end_of}
use Rattle.device_table.specs.Words.{flag, cleared}
use Rattle.device_table.specs.Read.{value_read}
use Rattle.device_table.specs.Write.{after_write, emptied, word_written, in_control_written, in_interrupts_written, in_tsiz_written, tx_flushed, rx_flushed}
use Rattle.device_table.specs.Bus.{InOutcome, unheard_in, naks_in, stalls_in, sends, sends_of, packet_ready, in_answer, after_in, hears}
use Rattle.endpoint_relation.specs.declared.in_.InState.{InState}
use Rattle.endpoint_relation.specs.declared.in_.InState.TheVariants.{Closed, Rest, Running, Posted}
use Rattle.endpoint_relation.specs.declared.in_.InEndpoint.{InEndpoint}
use Rattle.endpoint_relation.specs.InWords.{in_cnak, in_snak_epena, in_snak_epdis, in_snak_sd0pid, in_snak_sd0pid_epdis, in_size_word, in_xfrc, in_both, in_flush}
use Rattle.endpoint_relation.specs.InRelation.{InJoint}
use Rattle.endpoint_relation.specs.InSteps.{control_with, next_packets, words_in, packets_in, end_loaded, end_stopped, token_outcome, end_after, in_found, found_software, in_goes_on, in_served, in_served_by, in_run, in_halted, end_halted, software_halted, software_cleared, software_opened, in_cleared, in_dropped, in_opened, in_closed}
use Rattle.endpoint_relation.specs.InTable.{joint_at, with_joint, words_at, packets_at, loaded_at, goes_on_at, run_at, served_at, halted_at, stopped_at, with_flushed, IsAt, BusAt, flush_all, reset_at}

-- an endpoint of the controller

pub same_end : (n : ℕ) (t : Table) → with_in t (suc n) (in_end t (suc n)) ≡ t
same_end n t = ap (λ ins. record t { ins = ins }) (set-get_or t.ins n (in_end_of 0))

pub kept_end : (n : ℕ) (t : Table) (end : InEnd) → IsAt n t → in_end (with_in t (suc n) end) (suc n) ≡ end
kept_end n t end h = get_or-set_same t.ins n end (in_end_of 0) (omega arith)

twice : (n : ℕ) (t : Table) (a b : InEnd) → with_in (with_in t (suc n) a) (suc n) b ≡ with_in t (suc n) b
twice n t a b = ap (λ ins. record t { ins = ins }) (set-set t.ins n a b)

still_at : (n : ℕ) (t : Table) (end : InEnd) → IsAt n t → IsAt n (with_in t (suc n) end)
still_at n t end h = let e = length-set t.ins n end in omega (arith, e)

-- one more change of it
one_more : (n : ℕ) (t : Table) (end : InEnd) (f : InEnd → InEnd) → IsAt n t → with_in (with_in t (suc n) end) (suc n) (f (in_end (with_in t (suc n) end) (suc n))) ≡ with_in t (suc n) (f end)
one_more n t end f h =
    twice n t end (f (in_end (with_in t (suc n) end) (suc n))) ∙ ap (λ e. with_in t (suc n) (f e)) (kept_end n t end h)

-- loading

words_are : (n : ℕ) (t : Table) (end : InEnd) (words : List ℕ) → IsAt n t → words_at (suc n) (with_in t (suc n) end) words ≡ with_in t (suc n) (words_in (suc n) end words)
words_are n t end [] h = refl
words_are n t end (word ∷ words) h =
    ap (λ x. words_at (suc n) x words) (one_more n t end (λ e. word_written (suc n) e word) h)
    ∙ words_are n t (word_written (suc n) end word) words h

packets_are : (n : ℕ) (t : Table) (end : InEnd) (packets : List (List ℕ)) → IsAt n t → packets_at (suc n) (with_in t (suc n) end) packets ≡ with_in t (suc n) (packets_in (suc n) end packets)
packets_are n t end [] h = refl
packets_are n t end (packet ∷ packets) h =
    ap (λ x. packets_at (suc n) x packets) (words_are n t end (words_of packet) h)
    ∙ packets_are n t (words_in (suc n) end (words_of packet)) packets h

loaded_is : (n : ℕ) (t : Table) (s : InEndpoint) (packets : List (List ℕ)) → IsAt n t → loaded_at (suc n) s packets t ≡ with_in t (suc n) (end_loaded (suc n) s packets (in_end t (suc n)))
loaded_is n t s packets h =
    let sized = in_tsiz_written (suc n) (in_end t (suc n)) (in_size_word (length packets) (length (concat packets))) in
    let ready = in_control_written true sized (control_with (suc n) s in_snak_epena) in
    let Last : Table → Table = λ x. after_write x (diepctl (suc n)) (control_with (suc n) s in_cnak) in
    ap (λ x. Last (packets_at (suc n) x packets)) (one_more n t sized (λ e. in_control_written true e (control_with (suc n) s in_snak_epena)) h)
    ∙ ap Last (packets_are n t ready packets h)
    ∙ one_more n t (packets_in (suc n) ready packets) (λ e. in_control_written true e (control_with (suc n) s in_cnak)) h

-- a handler run

goes_on_is : (n : ℕ) (t : Table) (s : InEndpoint) (ring : List ℕ) (left : ℕ) → IsAt n t
    → goes_on_at left (suc n) s ring t ≡ with_joint t (suc n) (in_goes_on left (suc n) (joint_at t (suc n) s ring))
goes_on_is n t s ring zero h = sym (same_end n t)
goes_on_is n t s ring (suc left) h = loaded_is n t s (next_packets s ring) h

found_is : (n : ℕ) (t : Table) (s : InEndpoint) (ring : List ℕ) → IsAt n t
    → goes_on_at s.left (suc n) s ring (after_write t (diepint (suc n)) in_xfrc)
    ≡ with_joint t (suc n) (in_goes_on s.left (suc n) (record { end = in_interrupts_written (in_end t (suc n)) in_xfrc; software = s; ring = ring }))
found_is n t s ring h =
    let end = in_interrupts_written (in_end t (suc n)) in_xfrc in
    let cleared_one = with_in t (suc n) end in
    goes_on_is n cleared_one s ring s.left (still_at n t end h)
    ∙ ap (λ e. with_in cleared_one (suc n) (in_goes_on s.left (suc n) (record { end = e; software = s; ring = ring })).end) (kept_end n t end h)
    ∙ twice n t end (in_goes_on s.left (suc n) (record { end = end; software = s; ring = ring })).end

run_if : (n : ℕ) (t : Table) (s : InEndpoint) (ring : List ℕ) (b : Bool) → IsAt n t
    → (if b then goes_on_at (found_software s).left (suc n) (found_software s) ring (after_write t (diepint (suc n)) in_xfrc) else t)
    ≡ with_joint t (suc n) (if b then in_goes_on (found_software s).left (suc n) (in_found (joint_at t (suc n) s ring)) else joint_at t (suc n) s ring)
run_if n t s ring true h = found_is n t (found_software s) ring h
run_if n t s ring false h = sym (same_end n t)

run_is : (n : ℕ) (t : Table) (s : InEndpoint) (ring : List ℕ) (loaded : ℕ) → IsAt n t
    → run_at loaded (suc n) s ring t ≡ with_joint t (suc n) (in_run loaded (suc n) (joint_at t (suc n) s ring))
run_is n t s ring zero h = goes_on_is n t s ring s.left h
run_is n t s ring (suc loaded) h = run_if n t s ring (flag (value_read t (diepint (suc n))) DIEPINT_XFRC) h

served_is : (n : ℕ) (t : Table) (s : InEndpoint) (ring : List ℕ) (state : InState) → IsAt n t
    → served_at state (suc n) s ring t ≡ with_joint t (suc n) (in_served_by state (suc n) (joint_at t (suc n) s ring))
served_is n t s ring Closed h = sym (same_end n t)
served_is n t s ring Rest h = sym (same_end n t)
served_is n t s ring Running h = run_is n t s ring s.loaded h
served_is n t s ring Posted h = sym (same_end n t)

pub runs_at : (n : ℕ) (t : Table) (s : InEndpoint) (ring : List ℕ) → IsAt n t
    → served_at s.state (suc n) s ring t ≡ with_joint t (suc n) (in_served (suc n) (joint_at t (suc n) s ring))
runs_at n t s ring h = served_is n t s ring s.state h

-- calls

halted_is : (n : ℕ) (t : Table) (s : InEndpoint) (core : Bool) → halted_at core (suc n) s t ≡ with_in t (suc n) (end_halted core (suc n) s (in_end t (suc n)))
halted_is n t s true = sym (same_end n t)
halted_is n t s false = refl

pub halts_at : (n : ℕ) (t : Table) (s : InEndpoint) (ring : List ℕ)
    → halted_at (is_core s.endpoint.owner) (suc n) (software_halted s) t ≡ with_joint t (suc n) (in_halted (suc n) (joint_at t (suc n) s ring))
halts_at n t s ring = halted_is n t (software_halted s) (is_core s.endpoint.owner)

-- the flush

record Flushes (x : ℕ) : Type 0 where
  rx : flag (in_flush x) GRSTCTL_RXFFLSH ≡ false
  tx : flag (in_flush x) GRSTCTL_TXFFLSH ≡ true
  number : field_of (in_flush x) GRSTCTL_TXFNUM ≡ x
  kept : cleared (in_flush x) (GRSTCTL_RXFFLSH ∷ GRSTCTL_TXFFLSH ∷ []) ≡ 2 ^ GRSTCTL_TXFNUM.low * x

rx_bit : (x : ℕ) → x ≤ 16 → field_of (in_flush x) GRSTCTL_RXFFLSH ≡ 0
rx_bit x h = omega arith

tx_bit : (x : ℕ) → x ≤ 16 → field_of (in_flush x) GRSTCTL_TXFFLSH ≡ 1
tx_bit x h = omega arith

flushes : (x : ℕ) → x ≤ 16 → Flushes x
flushes x h = record { rx = ap (λ b. b == 1) (rx_bit x h); tx = ap (λ b. b == 1) (tx_bit x h); number = omega arith; kept = omega arith }

not_all : (x : ℕ) → x ≤ 15 → (x == 16) ≡ false
not_all x h = grind (arith, nat_tests)

flushed_is : (n : ℕ) (t : Table) → suc n ≤ 15 → after_write t grstctl (in_flush (suc n)) ≡ with_in (with_flushed t (suc n)) (suc n) (emptied (in_end t (suc n)))
flushed_is n t small =
    let x = suc n in
    let f : Flushes x = flushes x (omega arith) in
    let With : ℕ → Table = λ k. record t { kept = record t.kept { grstctl = k } } in
    ap (λ k. tx_flushed (rx_flushed (With k) (flag (in_flush x) GRSTCTL_RXFFLSH)) (flag (in_flush x) GRSTCTL_TXFFLSH) (field_of (in_flush x) GRSTCTL_TXFNUM)) f.kept
    ∙ ap (λ b. tx_flushed (rx_flushed (with_flushed t x) b) (flag (in_flush x) GRSTCTL_TXFFLSH) (field_of (in_flush x) GRSTCTL_TXFNUM)) f.rx
    ∙ ap (λ b. tx_flushed (with_flushed t x) b (field_of (in_flush x) GRSTCTL_TXFNUM)) f.tx
    ∙ ap (λ k. tx_flushed (with_flushed t x) true k) f.number
    ∙ ap (λ b. if b then record (with_flushed t x) { in0 = emptied t.in0; ins = map emptied t.ins } else with_in (with_flushed t x) x (emptied (in_end t x))) (not_all x small)

pub stopped_is : (n : ℕ) (t : Table) (word : ℕ) → IsAt n t → suc n ≤ 15 → stopped_at (suc n) word t ≡ with_in (with_flushed t (suc n)) (suc n) (end_stopped (in_end t (suc n)) word)
stopped_is n t word h small =
    let end = in_control_written true (in_end t (suc n)) word in
    let one = with_in t (suc n) end in
    let Last : Table → Table = λ x. after_write x (diepint (suc n)) in_both in
    let flushed = with_flushed t (suc n) in
    ap Last (flushed_is n one small ∙ one_more n flushed end emptied h)
    ∙ one_more n flushed (emptied end) (λ e. in_interrupts_written e in_both) h

emptied_all : (ends : List InEnd) (n : ℕ) → get_or (map emptied ends) n (in_end_of 0) ≡ emptied (get_or ends n (in_end_of 0))
emptied_all [] n = refl
emptied_all (e ∷ ends) zero = refl
emptied_all (e ∷ ends) (suc n) = emptied_all ends n

pub flushes_all : (n : ℕ) (t : Table) → in_end (after_write t grstctl flush_all) (suc n) ≡ emptied (in_end t (suc n))
flushes_all n t = emptied_all t.ins n

pub resets_at : (n : ℕ) (t : Table) (s : InEndpoint) (ring : List ℕ) → IsAt n t → in_end (reset_at (suc n) t) (suc n) ≡ (in_closed (joint_at t (suc n) s ring)).end
resets_at n t s ring h =
    let end = in_control_written true (in_end t (suc n)) in_snak_epdis in
    let one = with_in t (suc n) end in
    let flushed = after_write one grstctl flush_all in
    let count : length (map emptied (set t.ins n end)) ≡ length t.ins = length-map (set t.ins n end) emptied ∙ length-set t.ins n end in
    kept_end n flushed (in_interrupts_written (in_end flushed (suc n)) in_both) (omega (arith, count))
    ∙ ap (λ e. in_interrupts_written e in_both) (flushes_all n one ∙ ap emptied (kept_end n t end h))

-- the bus

outcome_if : (heard op stall enabled nak : Bool) (packet : Option (List ℕ))
    → (if not (heard && op) then unheard_in else if stall then stalls_in else if not enabled || nak then naks_in else sends_of packet)
    ≡ (if heard then (if not op then unheard_in else if stall then stalls_in else if not enabled || nak then naks_in else sends_of packet) else unheard_in)
outcome_if true op stall enabled nak packet = refl
outcome_if false op stall enabled nak packet = refl

answer_if : (heard : Bool) (toggle : Toggle) (o : InOutcome) → in_answer toggle (if heard then o else unheard_in) ≡ (if heard then in_answer toggle o else answers.NoAnswer)
answer_if true toggle o = refl
answer_if false toggle o = refl

after_by : (n : ℕ) (t : Table) (ok : Bool) (o : InOutcome) → after_in t (suc n) ok o ≡ with_in t (suc n) (end_after (suc n) (in_end t (suc n)) ok o)
after_by n t ok unheard_in = sym (same_end n t)
after_by n t ok naks_in = sym (same_end n t)
after_by n t ok stalls_in = sym (same_end n t)
after_by n t false (sends packet) = sym (same_end n t)
after_by n t true (sends packet) = refl

after_if : (n : ℕ) (t : Table) (ok heard : Bool) (o : InOutcome)
    → after_in t (suc n) ok (if heard then o else unheard_in) ≡ (if heard then with_in t (suc n) (end_after (suc n) (in_end t (suc n)) ok o) else t)
after_if n t ok true o = after_by n t ok o
after_if n t ok false o = refl

pub bus_at : (n : ℕ) (t : Table) (s : InEndpoint) (ring : List ℕ) (addr : ℕ) (ok : Bool) → BusAt n t s ring addr ok
bus_at n t s ring addr ok =
    let end = in_end t (suc n) in
    let c = end.control in
    let same = outcome_if (hears t addr) (flag c.kept DIEPCTL_USBAEP) c.stall c.enabled c.nak (packet_ready (suc n) end) in
    record {
      answer = ap (in_answer end.toggle) same ∙ answer_if (hears t addr) end.toggle (token_outcome (suc n) end);
      next = ap (after_in t (suc n) ok) same ∙ after_if n t ok (hears t addr) (token_outcome (suc n) end);
      reset = refl;
    }

-- calls that stop

pub clears_at : (n : ℕ) (t : Table) (s : InEndpoint) (ring : List ℕ) → IsAt n t → suc n ≤ 15
    → stopped_at (suc n) (control_with (suc n) (software_cleared s) in_snak_sd0pid_epdis) t ≡ with_joint (with_flushed t (suc n)) (suc n) (in_cleared (suc n) (joint_at t (suc n) s ring))
clears_at n t s ring h small = stopped_is n t (control_with (suc n) (software_cleared s) in_snak_sd0pid_epdis) h small

pub drops_at : (n : ℕ) (t : Table) (s : InEndpoint) (ring : List ℕ) → IsAt n t → suc n ≤ 15
    → stopped_at (suc n) (control_with (suc n) s in_snak_epdis) t ≡ with_joint (with_flushed t (suc n)) (suc n) (in_dropped (suc n) (joint_at t (suc n) s ring))
drops_at n t s ring h small = stopped_is n t (control_with (suc n) s in_snak_epdis) h small

pub closes_at : (n : ℕ) (t : Table) (s : InEndpoint) (ring : List ℕ) → IsAt n t → suc n ≤ 15
    → stopped_at (suc n) in_snak_epdis t ≡ with_joint (with_flushed t (suc n)) (suc n) (in_closed (joint_at t (suc n) s ring))
closes_at n t s ring h small = stopped_is n t in_snak_epdis h small

pub opens_at : (n : ℕ) (e : Endpoint) (t : Table) (s : InEndpoint) (ring : List ℕ)
    → after_write t (diepctl (suc n)) (control_with (suc n) (software_opened e) in_snak_sd0pid) ≡ with_joint t (suc n) (in_opened (suc n) e (joint_at t (suc n) s ring))
opens_at n e t s ring = refl

pub state_is_kept : (n : ℕ) (t : Table) (j : InJoint) → IsAt n t → in_end (with_joint t (suc n) j) (suc n) ≡ j.end
state_is_kept n t j h = kept_end n t j.end h
