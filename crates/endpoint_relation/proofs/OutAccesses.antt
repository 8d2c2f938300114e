-- What accesses make of an OUT endpoint of the whole controller.
use Rattle.std.proofs.Common.{◌≡◌, ◌≢◌, ℕ, zero, suc, ◌-◌, ◌<◌, ◌≤◌, List, [], ◌∷◌, ◌++◌, length, Bool, true, false, inl, inr, refl, ap, sym, ◌∙◌, arith, subst}
use Rattle.std.specs.Prelude.{◌&&◌, ◌==◌, ◌⊎◌, if◌then◌else◌}
use Rattle.usb_packet.specs.declared.bus.Toggle.{Toggle}
use Rattle.device_arrivals.specs.Arrivals.{Landed}
use Rattle.usb_ring.specs.Ring.{Ring}
use Rattle.device_pipe.specs.OutPipe as pipe
use Rattle.device_pipe.specs.OutPipe.{OutPipe}
use Rattle.dwc2_fifo.specs.Rx.{Rx, Entry, first_status, popped, popped_from, word_taken}
use Rattle.device_table.specs.State.{Table, OutEnd, out_end, with_out}
use Rattle.device_table.specs.Words.{kind_of, number_of}
use Rattle.device_table.specs.Read.{entry_popped}
use Rattle.device_table.specs.Bus.{out_entries}
use Rattle.device_table.proofs.BusLemmas.{out_end-with_out_other}
use Rattle.endpoint_relation.specs.declared.out_.OutEndpoint.{OutEndpoint}
use Rattle.endpoint_relation.specs.OutRelation.{not_open, OutStands, OutStandsFor, abstract_out}
use Rattle.endpoint_relation.specs.OutSteps.{shut_end, reset_end, emptied, moved_end, moved, moved_ring, armed_end, halted_end, cleared_end, opened_end, closed_end}
use Rattle.endpoint_relation.specs.OutTable.{IsFull, arrivals_in, arrival_in, is_packet_of, packet_popped}
use Rattle.endpoint_relation.specs.OutEvents.{OutStandsIn, OutStandsInFor, out_pipe_in}
use Rattle.endpoint_relation.specs.OutAccesses.{OutLeft, OutAccessesServe, OutAccessesLeave, OutPopsLeaveControl, OutResetServes}
use Rattle.endpoint_relation.proofs.OutCalls.{out_arm, out_halt, out_clear, out_open, out_close}
use Rattle.endpoint_relation.proofs.OutRuns.{out_move, out_reset}
use Rattle.endpoint_relation.proofs.OutTables.{out_puts, out_writes, out_lies, out_pops, joins, other_number}
use Rattle.endpoint_relation.proofs.OutEvents.{left, same_or_not}

-- The endpoint itself.

pub put : (t : Table) (n : ℕ) (end : OutEnd) (s : OutEndpoint) (ring : Ring) (is : OutPipe) → n < length t.outs
    → OutStandsFor (suc n) end s (arrivals_in (suc n) t.rx.entries) ring is → OutStandsInFor (with_out t (suc n) end) (suc n) s ring is
put t n end s ring is h st = subst (λ e. OutStandsFor (suc n) e s (arrivals_in (suc n) t.rx.entries) ring is) (sym ((out_puts t n h).there end)) st

as_written : (new written : Table) (number : ℕ) (s : OutEndpoint) (ring : Ring) (is : OutPipe) → written ≡ new → OutStandsInFor new number s ring is → OutStandsInFor written number s ring is
as_written new written number s ring is e st = subst (λ t. OutStandsInFor t number s ring is) (sym e) st

foremost : (t : Table) (n : ℕ) (toggle : Toggle) (bytes : List ℕ) (rest : List Entry) → n < 15 → IsFull bytes → t.rx.entries ≡ out_entries (suc n) toggle bytes ++ rest
    → arrivals_in (suc n) t.rx.entries ≡ record { toggle = toggle; bytes = bytes } ∷ arrivals_in (suc n) rest
foremost t n toggle bytes rest h full e =
    ap (arrivals_in (suc n)) e
    ∙ joins (suc n) (out_entries (suc n) toggle bytes) rest
    ∙ ap (λ arrived. arrived ++ arrivals_in (suc n) rest) (out_lies (suc n) n toggle bytes [] [] h full).own

moves_by : (n : ℕ) (end : OutEnd) (s : OutEndpoint) (all : List Landed) (arrival : Landed) (arrived : List Landed) (ring : Ring) → all ≡ arrival ∷ arrived → OutStands (suc n) end s all ring
    → OutStandsFor (suc n) (moved_end end) (moved s) arrived (moved_ring s.over ring arrival.bytes) (pipe.after_irq (abstract_out end s all ring.bytes))
moves_by n end s all arrival arrived ring e st =
    subst (λ now. OutStandsFor (suc n) (moved_end end) (moved s) arrived (moved_ring s.over ring arrival.bytes) (pipe.after_irq (abstract_out end s now ring.bytes))) (sym e)
    (out_move (suc n) end s arrival arrived ring (subst (λ now. OutStands (suc n) end s now ring) e st))

pub out_serves : OutAccessesServe
out_serves t n s ring h st =
    let end = out_end t (suc n) in
    let arrived = arrivals_in (suc n) t.rx.entries in
    let before = out_pipe_in t (suc n) s ring in
    let writes = out_writes t n s h in
    record {
      arms = λ rest free class room.
          as_written _ _ (suc n) _ ring (pipe.armed before) writes.arms (put t n (armed_end end s) _ ring (pipe.armed before) h (out_arm (suc n) end s arrived ring st rest free class room));
      halts = λ open_. as_written _ _ (suc n) _ ring (pipe.halted_ before) writes.halts (put t n (halted_end end s) _ ring (pipe.halted_ before) h (out_halt (suc n) end s arrived ring st open_));
      clears = λ open_. as_written _ _ (suc n) _ ring (pipe.cleared before) writes.clears (put t n (cleared_end end s) _ ring (pipe.cleared before) h (out_clear (suc n) end s arrived ring st open_));
      opens = λ endpoint shut named some most.
          as_written _ _ (suc n) _ ring (pipe.opened before) (writes.opens endpoint) (put t n (opened_end end s endpoint) _ ring (pipe.opened before) h (out_open (suc n) end s arrived ring endpoint st shut named some most));
      closes = as_written _ _ (suc n) _ _ (pipe.closed before) writes.closes (put t n (closed_end end) _ _ (pipe.closed before) h (out_close (suc n) end s arrived ring st));
      moves = λ toggle bytes rest words few full e.
          let last : Table = record t { rx = record t.rx { left = []; entries = rest } } in
          let arrival : Landed = record { toggle = toggle; bytes = bytes } in
          as_written (with_out last (suc n) (moved_end end)) (packet_popped t (suc n) words) (suc n) (moved s) (moved_ring s.over ring bytes) (pipe.after_irq before) ((out_pops t n toggle bytes rest h few full e).taken words)
          (put last n (moved_end end) (moved s) (moved_ring s.over ring bytes) (pipe.after_irq before) h
          (moves_by n end s arrived arrival (arrivals_in (suc n) rest) ring (foremost t n toggle bytes rest few full e) st));
    }

-- Another one.

-- the endpoint after a pop, by the kind of the entry and its number
abbrev popped_by : Bool → Bool → Table → ℕ → Table
popped_by setup done t number =
    if setup then record t { out0 = record t.out0 { stup = true }; core = record t.core { unserved = t.core.unserved - 1 } }
    else if done then with_out t number (record (out_end t number) { xfrc = true })
    else t

other_end : (t : Table) (number m : ℕ) (end : OutEnd) → 1 ≤ number → number ≢ m → out_end (with_out t m end) number ≡ out_end t number
other_end t zero m end h ne = absurd (omega arith)
other_end t (suc y) zero end h ne = refl
other_end t (suc y) (suc m) end h ne = out_end-with_out_other t m (suc y) end ne

popped_end : (setup done : Bool) (t : Table) (number m : ℕ) → 1 ≤ number → number ≢ m → out_end (popped_by setup done t m) number ≡ out_end t number
popped_end true done t zero m h ne = absurd (omega arith)
popped_end true done t (suc y) m h ne = refl
popped_end false true t number m h ne = other_end t number m (record (out_end t m) { xfrc = true }) h ne
popped_end false false t number m h ne = refl

popped_rx : (setup done : Bool) (t : Table) (m : ℕ) → (popped_by setup done t m).rx ≡ t.rx
popped_rx true done t m = refl
popped_rx false true t zero = refl
popped_rx false true t (suc m) = refl
popped_rx false false t m = refl

same_end : (t : Table) (number : ℕ) (rx : Rx) → out_end (record t { rx = rx }) number ≡ out_end t number
same_end t zero rx = refl
same_end t (suc y) rx = refl

zero_end : (t : Table) (number : ℕ) (end : OutEnd) → 1 ≤ number → out_end (with_out t 0 end) number ≡ out_end t number
zero_end t zero end h = absurd (omega arith)
zero_end t (suc y) end h = refl

and_none : (b : Bool) → (b && false) ≡ false
and_none true = refl
and_none false = refl

not_own : (number : ℕ) (entry : Entry) → number ≢ number_of entry.status → is_packet_of number entry ≡ false
not_own number entry ne = ap (λ b. (kind_of entry.status == 2) && b) (other_number number (number_of entry.status) ne) ∙ and_none (kind_of entry.status == 2)

pop_left : (t : Table) (number : ℕ) (s : OutEndpoint) (ring : Ring) (entries : List Entry) → t.rx.entries ≡ entries → 1 ≤ number → number ≢ number_of (first_status entries)
    → OutStandsIn t number s ring → OutLeft t (entry_popped t entries) number s ring
pop_left t number s ring [] e some ne st = record { stands = st; pipe = refl }
pop_left t number s ring (entry ∷ entries) e some ne st =
    let setup = kind_of entry.status == 4 in
    let done = kind_of entry.status == 3 in
    let m = number_of entry.status in
    let now : Table = record t { rx = popped t.rx } in
    let rx : (popped_by setup done now m).rx.entries ≡ entries = ap (λ (x : Rx). x.entries) (popped_rx setup done now m) ∙ ap (λ all. (popped_from t.rx all).entries) e in
    left t (popped_by setup done now m) number s ring
    (popped_end setup done now number m some ne ∙ same_end t number (popped t.rx))
    (ap (arrivals_in number) rx
    ∙ ap (λ b. if b then arrival_in entry ∷ arrivals_in number entries else arrivals_in number entries) (sym (not_own number entry ne))
    ∙ ap (arrivals_in number) (sym e))
    st

pub out_leaves : OutAccessesLeave
out_leaves t number s ring st = record {
  writes = λ n end ne. left t (with_out t (suc n) end) number s ring (out_end-with_out_other t n number end ne) refl st;
  zero = λ end some. left t (with_out t 0 end) number s ring (zero_end t number end some) refl st;
  pops = λ some ne. pop_left t number s ring t.rx.entries refl some ne st;
  reads = left t (record t { rx = word_taken t.rx }) number s ring (same_end t number (word_taken t.rx)) refl st;
}

-- A pop and the control register.

control_by : (setup done : Bool) (t : Table) (n m : ℕ) → n < length t.outs → (suc n ≡ m) ⊎ (suc n ≢ m) → (out_end (popped_by setup done t m) (suc n)).control ≡ (out_end t (suc n)).control
control_by true done t n m h e = refl
control_by false false t n m h e = refl
control_by false true t n m h (inl same) =
    subst (λ y. (out_end (with_out t y (record (out_end t y) { xfrc = true })) (suc n)).control ≡ (out_end t (suc n)).control) same
    (ap (λ (end : OutEnd). end.control) ((out_puts t n h).there (record (out_end t (suc n)) { xfrc = true })))
control_by false true t n m h (inr ne) = ap (λ (end : OutEnd). end.control) (other_end t (suc n) m (record (out_end t m) { xfrc = true }) (omega arith) ne)

pop_control : (t : Table) (n : ℕ) (entries : List Entry) → n < length t.outs → (out_end (entry_popped t entries) (suc n)).control ≡ (out_end t (suc n)).control
pop_control t n [] h = refl
pop_control t n (entry ∷ entries) h =
    let now : Table = record t { rx = popped t.rx } in
    control_by (kind_of entry.status == 4) (kind_of entry.status == 3) now n (number_of entry.status) h (same_or_not (suc n) (number_of entry.status))

pub out_pops_control : OutPopsLeaveControl
out_pops_control t n h = pop_control t n t.rx.entries h

-- A reset.

pub out_reset_serves : OutResetServes
out_reset_serves t popped n ring h k e none =
    let end = out_end popped (suc n) in
    let shut : end.control ≡ (shut_end (out_end t (suc n))).control = e ∙ ap (λ (x : OutEnd). x.control) ((out_puts t n h).there (shut_end (out_end t (suc n)))) in
    let there : OutStandsFor (suc n) (reset_end end) (not_open false) (arrivals_in (suc n) popped.rx.entries) (emptied ring) pipe.unopened =
    subst (λ entries. OutStandsFor (suc n) (reset_end end) (not_open false) (arrivals_in (suc n) entries) (emptied ring) pipe.unopened) (sym none) (out_reset (suc n) (out_end t (suc n)) end ring shut) in
    put popped n (reset_end end) (not_open false) (emptied ring) pipe.unopened k there
