-- What the driver's accesses make of an OUT endpoint of the whole controller, by its number less 1.
use Rattle.std.specs.Prelude.{◌≡◌, ◌≢◌, ℕ, suc, ◌+◌, ◌<◌, ◌≤◌, false, IsTrue, List, [], ◌++◌, length}
use Rattle.usb_packet.specs.declared.bus.Toggle.{Toggle}
use Rattle.usb_descriptor.specs.declared.endpoint.Endpoint.{Endpoint}
use Rattle.usb_descriptor.specs.Set.{is_core}
use Rattle.usb_ring.specs.Ring.{Ring}
use Rattle.device_pipe.specs.OutPipe as pipe
use Rattle.dwc2_regs.specs.Register.{grxstsp, fifo, doepctl, doepint}
use Rattle.dwc2_fifo.specs.Rx.{Entry, first_status}
use Rattle.device_table.specs.State.{Table, OutEnd, out_end, with_out}
use Rattle.device_table.specs.Words.{number_of}
use Rattle.device_table.specs.Read.{after_read}
use Rattle.device_table.specs.Write.{after_write}
use Rattle.device_table.specs.Bus.{out_entries}
use Rattle.endpoint_relation.specs.declared.out_.OutState.TheVariants.{Closed, Rest}
use Rattle.endpoint_relation.specs.declared.out_.OutEndpoint.{OutEndpoint}
use Rattle.endpoint_relation.specs.OutWords.{close_word, all_bits}
use Rattle.endpoint_relation.specs.OutRelation.{is_open, not_open}
use Rattle.endpoint_relation.specs.OutSteps.{moved, moved_ring, armed, halted, cleared, opened, closed, emptied}
use Rattle.endpoint_relation.specs.OutTable.{IsFull, arm_writes, halt_writes, clear_writes, open_writes, close_writes, packet_popped}
use Rattle.endpoint_relation.specs.OutEvents.{OutStandsIn, OutStandsInFor, out_pipe_in}

-- each call's writes, and a handler run's accesses where the endpoint's packet lies foremost, do to its pipe what the pipe says
pub record OutServes (t : Table) (n : ℕ) (s : OutEndpoint) (ring : Ring) : Type 0 where
  pub arms : s.state ≡ Rest → s.halted ≡ false → is_core s.endpoint.owner ≡ false → length ring.bytes + s.endpoint.size ≤ ring.capacity
      → OutStandsInFor (arm_writes t (suc n) s) (suc n) (armed s) ring (pipe.armed (out_pipe_in t (suc n) s ring))
  pub halts : IsTrue (is_open s.state) → OutStandsInFor (halt_writes t (suc n) s) (suc n) (halted s) ring (pipe.halted_ (out_pipe_in t (suc n) s ring))
  pub clears : IsTrue (is_open s.state) → OutStandsInFor (clear_writes t (suc n) s) (suc n) (cleared s) ring (pipe.cleared (out_pipe_in t (suc n) s ring))
  pub opens : (endpoint : Endpoint) → s.state ≡ Closed → endpoint.addr ≡ suc n → 1 ≤ endpoint.size → endpoint.size ≤ 64
      → OutStandsInFor (open_writes t (suc n) s endpoint) (suc n) (opened s endpoint) ring (pipe.opened (out_pipe_in t (suc n) s ring))
  pub closes : OutStandsInFor (close_writes t (suc n)) (suc n) (closed (out_end t (suc n)) s) (emptied ring) (pipe.closed (out_pipe_in t (suc n) s ring))
  pub moves : (toggle : Toggle) (bytes : List ℕ) (rest : List Entry) (words : ℕ) → n < 15 → IsFull bytes → t.rx.entries ≡ out_entries (suc n) toggle bytes ++ rest
      → OutStandsInFor (packet_popped t (suc n) words) (suc n) (moved s) (moved_ring s.over ring bytes) (pipe.after_irq (out_pipe_in t (suc n) s ring))

abbrev pub OutAccessesServe : Type 0
OutAccessesServe = (t : Table) (n : ℕ) (s : OutEndpoint) (ring : Ring) → n < length t.outs → OutStandsIn t (suc n) s ring → OutServes t n s ring

-- no pop changes a control register
abbrev pub OutPopsLeaveControl : Type 0
OutPopsLeaveControl = (t : Table) (n : ℕ) → n < length t.outs → (out_end (after_read t grxstsp) (suc n)).control ≡ (out_end t (suc n)).control

-- The handler run that serves a reset: the endpoint is shut, its control register stays so while entries are popped, and then
-- DOEPINTx is cleared. Where no entry lies any more, nothing of the endpoint is left.
abbrev pub OutResetServes : Type 0
OutResetServes =
    (t popped : Table) (n : ℕ) (ring : Ring) → n < length t.outs → n < length popped.outs
    → (out_end popped (suc n)).control ≡ (out_end (after_write t (doepctl (suc n)) close_word) (suc n)).control → popped.rx.entries ≡ []
    → OutStandsInFor (after_write popped (doepint (suc n)) all_bits) (suc n) (not_open false) (emptied ring) pipe.unopened

-- a controller that was accessed so, seen from another endpoint
abbrev pub OutLeft : Table → Table → ℕ → OutEndpoint → Ring → Type 0
OutLeft t new number s ring = OutStandsInFor new number s ring (out_pipe_in t number s ring)

-- all else leaves the endpoint of a number: what is written to another, and what is popped and read of another's entries
pub record OutLeaves (t : Table) (number : ℕ) (s : OutEndpoint) (ring : Ring) : Type 0 where
  pub writes : (n : ℕ) (end : OutEnd) → number ≢ suc n → OutLeft t (with_out t (suc n) end) number s ring
  pub zero : (end : OutEnd) → 1 ≤ number → OutLeft t (with_out t 0 end) number s ring
  pub pops : 1 ≤ number → number ≢ number_of (first_status t.rx.entries) → OutLeft t (after_read t grxstsp) number s ring
  pub reads : OutLeft t (after_read t (fifo 0)) number s ring

abbrev pub OutAccessesLeave : Type 0
OutAccessesLeave = (t : Table) (number : ℕ) (s : OutEndpoint) (ring : Ring) → OutStandsIn t number s ring → OutLeaves t number s ring
