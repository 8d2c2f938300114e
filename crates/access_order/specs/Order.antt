-- The order in which a driver accesses the controller in device mode (after RM0090, OTG_FS programming model: device
-- initialization, IN and OUT data transfers). It is said of the accesses alone: of what is written, and of what a read tells.
--
-- a. An endpoint is enabled (EPENA) only once its size register was written for that transfer.
-- b. Words go to a transmit FIFO only while its endpoint is enabled and answers NAK.
-- c. XFRC of the transfer before is cleared before the endpoint may answer again: of an IN endpoint while it can't answer, so
--    that no acknowledgement is lost and none is taken for the next one; of an OUT endpoint where the driver saw it.
-- d. CNAK is the last access of a run to an IN endpoint that it loads.
-- e. USBRST is cleared where it was read as 1, once no endpoint is enabled, by the last access of the run.
-- f. A transmit FIFO is emptied only once its endpoint is disabled.
use Rattle.std.specs.Prelude.{ℕ, zero, suc, ◌==◌, ◌&&◌, ◌||◌, not, Bool, true, false, if◌then◌else◌, List, [], ◌∷◌, Option, Some, None}
use Rattle.dwc2_regs.specs.declared.access.Access.{Access}
use Rattle.dwc2_regs.specs.declared.bits.Field.{Field}
use Rattle.dwc2_regs.specs.declared.TheConstants.{GINTSTS_USBRST, GRSTCTL_TXFFLSH, GRSTCTL_TXFNUM, GRXSTSP_NUMBER, GRXSTSP_STATUS, OUT_DONE, DIEPCTL_CNAK, DIEPCTL_SNAK, DIEPCTL_EPDIS, DIEPCTL_EPENA}
use Rattle.dwc2_regs.specs.declared.TheConstants.{DIEPINT_XFRC, DOEPCTL_EPDIS, DOEPCTL_EPENA, DOEPINT_XFRC}
use Rattle.dwc2_regs.specs.Field.{field_of}
use Rattle.dwc2_regs.specs.Register.{Register, register_at, grstctl, gintsts, grxstsp, diepctl, diepint, dieptsiz, dtxfsts, doepctl, doepint, doeptsiz, fifo}

-- whether a field of one bit is 1
abbrev pub is_set : ℕ → Field → Bool
is_set word field = field_of word field == 1

-- What the accesses tell of an IN endpoint.
pub record InOrder : Type 0 where
  -- DIEPTSIZx was written, and EPENA not since
  pub sized : Bool
  -- EPENA was written, and since then neither EPDIS, nor was XFRC read where a packet could be answered
  pub enabled : Bool
  -- SNAK was written, and CNAK not since
  pub naks : Bool
  -- XFRC is known to be 0: it was cleared or never set, and since then the endpoint couldn't answer with a packet
  pub clear : Bool
  -- CNAK was written in this run, to the enabled endpoint
  pub loaded : Bool

-- What they tell of an OUT endpoint.
pub record OutOrder : Type 0 where
  -- DOEPTSIZx was written, and EPENA not since
  pub sized : Bool
  -- EPENA was written, and since then neither EPDIS, nor was the transfer's end seen
  pub enabled : Bool
  -- the end of a transfer was seen (its entry popped, or XFRC read), and XFRC not cleared since
  pub ended : Bool

-- Of all endpoints, 0 and the others by number less 1, and of a reset.
pub record Order : Type 0 where
  pub in0 : InOrder
  pub ins : ℕ → InOrder
  pub out0 : OutOrder
  pub outs : ℕ → OutOrder
  -- USBRST was read as 1 in this run, and not cleared since
  pub reset : Bool
  -- USBRST was cleared in this run
  pub woken : Bool

abbrev pub in_of : Order → ℕ → InOrder
in_of o zero = o.in0
in_of o (suc n) = o.ins n

abbrev pub out_of : Order → ℕ → OutOrder
out_of o zero = o.out0
out_of o (suc n) = o.outs n

abbrev pub with_in : Order → ℕ → InOrder → Order
with_in o zero e = record o { in0 = e }
with_in o (suc n) e = record o { ins = λ m. if m == n then e else o.ins m }

abbrev pub with_out : Order → ℕ → OutOrder → Order
with_out o zero e = record o { out0 = e }
with_out o (suc n) e = record o { outs = λ m. if m == n then e else o.outs m }

-- IN endpoints.

-- a token may get a packet
abbrev pub may_answer : InOrder → Bool
may_answer e = e.enabled && not e.naks

-- words may be written to the FIFO
abbrev pub takes_words : InOrder → Bool
takes_words e = e.enabled && e.naks

-- after a write of DIEPCTLx
abbrev pub in_enabled : InOrder → ℕ → Bool
in_enabled e word = (e.enabled && not (is_set word DIEPCTL_EPDIS)) || is_set word DIEPCTL_EPENA

abbrev pub in_naks : InOrder → ℕ → Bool
in_naks e word = (e.naks || is_set word DIEPCTL_SNAK) && not (is_set word DIEPCTL_CNAK)

abbrev pub in_controlled : InOrder → ℕ → InOrder
in_controlled e word =
    record {
      sized = e.sized && not (is_set word DIEPCTL_EPENA);
      enabled = in_enabled e word;
      naks = in_naks e word;
      clear = e.clear && not (in_enabled e word && not (in_naks e word));
      loaded = e.loaded || (in_enabled e word && is_set word DIEPCTL_CNAK);
    }

-- the write lets the endpoint answer
abbrev pub lets_answer : InOrder → ℕ → Bool
lets_answer e word = (is_set word DIEPCTL_EPENA || is_set word DIEPCTL_CNAK) && may_answer (in_controlled e word)

abbrev pub in_control_fits : InOrder → ℕ → Bool
in_control_fits e word =
    not e.loaded && (not (is_set word DIEPCTL_EPENA) || e.sized) && (not (lets_answer e word) || e.clear)

-- a write of DIEPINTx
abbrev pub in_interrupts_fit : InOrder → ℕ → Bool
in_interrupts_fit e word = not e.loaded && not (is_set word DIEPINT_XFRC && may_answer e)

abbrev pub in_cleared : InOrder → ℕ → InOrder
in_cleared e word = record e { clear = e.clear || is_set word DIEPINT_XFRC }

-- a read of DIEPINTx: with XFRC the endpoint is disabled. While it answers NAK, XFRC is of the transfer before
abbrev pub in_read : InOrder → ℕ → InOrder
in_read e word = record e { enabled = e.enabled && not (is_set word DIEPINT_XFRC && not e.naks); clear = e.clear && not (is_set word DIEPINT_XFRC) }

-- OUT endpoints.

abbrev pub out_controlled : OutOrder → ℕ → OutOrder
out_controlled e word =
    record {
      sized = e.sized && not (is_set word DOEPCTL_EPENA);
      enabled = (e.enabled && not (is_set word DOEPCTL_EPDIS)) || is_set word DOEPCTL_EPENA;
      ended = e.ended;
    }

abbrev pub out_control_fits : OutOrder → ℕ → Bool
out_control_fits e word = not (is_set word DOEPCTL_EPENA) || (e.sized && not e.ended)

abbrev pub out_cleared : OutOrder → ℕ → OutOrder
out_cleared e word = record e { ended = e.ended && not (is_set word DOEPINT_XFRC) }

abbrev pub out_ended : OutOrder → OutOrder
out_ended e = record e { enabled = false; ended = true }

-- a read of DOEPINTx
abbrev pub out_read : OutOrder → ℕ → OutOrder
out_read e word = if is_set word DOEPINT_XFRC then out_ended e else e

-- GRXSTSP was popped: status 3 tells the end of a transfer
abbrev pub popped : Order → ℕ → Order
popped o word =
    let number = field_of word GRXSTSP_NUMBER in
    if field_of word GRXSTSP_STATUS == OUT_DONE then with_out o number (out_ended (out_of o number)) else o

-- A reset.

-- no endpoint up to this number is enabled
abbrev pub none_enabled : ℕ → Order → Bool
none_enabled zero o = not o.in0.enabled && not o.out0.enabled
none_enabled (suc n) o = not (o.ins n).enabled && not (o.outs n).enabled && none_enabled n o

abbrev pub last_endpoint : ℕ
last_endpoint = 15

abbrev pub wake_fits : Order → ℕ → Bool
wake_fits o word = not (is_set word GINTSTS_USBRST) || (o.reset && none_enabled last_endpoint o)

abbrev pub woken_by : Order → ℕ → Order
woken_by o word =
    record o { reset = o.reset && not (is_set word GINTSTS_USBRST); woken = o.woken || is_set word GINTSTS_USBRST }

-- Emptying transmit FIFOs.

-- no IN endpoint up to this number is enabled
abbrev pub no_in_enabled : ℕ → Order → Bool
no_in_enabled zero o = not o.in0.enabled
no_in_enabled (suc n) o = not (o.ins n).enabled && no_in_enabled n o

-- GRSTCTL with TXFFLSH empties the FIFO with that number, and all of them where the number is 16
abbrev pub flush_fits : Order → ℕ → Bool
flush_fits o word =
    let number = field_of word GRSTCTL_TXFNUM in
    not (is_set word GRSTCTL_TXFFLSH) || (if number == 16 then no_in_enabled last_endpoint o else not (in_of o number).enabled)

-- Each access. Registers that aren't named are free.

abbrev pub write_fits : Order → Register → ℕ → Bool
write_fits o gintsts word = wake_fits o word
write_fits o grstctl word = flush_fits o word
write_fits o (diepctl x) word = in_control_fits (in_of o x) word
write_fits o (diepint x) word = in_interrupts_fit (in_of o x) word
write_fits o (dieptsiz x) word = not (in_of o x).loaded
write_fits o (fifo x) word = takes_words (in_of o x)
write_fits o (doepctl x) word = out_control_fits (out_of o x) word
write_fits o other word = true

abbrev pub after_write : Order → Register → ℕ → Order
after_write o gintsts word = woken_by o word
after_write o (diepctl x) word = with_in o x (in_controlled (in_of o x) word)
after_write o (diepint x) word = with_in o x (in_cleared (in_of o x) word)
after_write o (dieptsiz x) word = with_in o x (record (in_of o x) { sized = true })
after_write o (doepctl x) word = with_out o x (out_controlled (out_of o x) word)
after_write o (doepint x) word = with_out o x (out_cleared (out_of o x) word)
after_write o (doeptsiz x) word = with_out o x (record (out_of o x) { sized = true })
after_write o other word = o

abbrev pub read_fits : Order → Register → Bool
read_fits o (diepctl x) = not (in_of o x).loaded
read_fits o (diepint x) = not (in_of o x).loaded
read_fits o (dieptsiz x) = not (in_of o x).loaded
read_fits o (dtxfsts x) = not (in_of o x).loaded
read_fits o other = true

abbrev pub after_read : Order → Register → ℕ → Order
after_read o gintsts word = record o { reset = is_set word GINTSTS_USBRST }
after_read o grxstsp word = popped o word
after_read o (diepint x) word = with_in o x (in_read (in_of o x) word)
after_read o (doepint x) word = with_out o x (out_read (out_of o x) word)
after_read o other word = o

abbrev pub fits_at : Order → Option Register → Bool → ℕ → Bool
fits_at o None write word = true
fits_at o (Some register) true word = write_fits o register word
fits_at o (Some register) false word = read_fits o register

abbrev pub after_at : Order → Option Register → Bool → ℕ → Order
after_at o None write word = o
after_at o (Some register) true word = after_write o register word
after_at o (Some register) false word = after_read o register word

-- the access is in order: none is once USBRST was cleared
abbrev pub fits : Order → Access → Bool
fits o access = not o.woken && fits_at o (register_at access.off) access.write access.value

abbrev pub after : Order → Access → Order
after o access = after_at o (register_at access.off) access.write access.value

-- each access of a list is, after those before it
abbrev pub are_ordered : Order → List Access → Bool
are_ordered o [] = true
are_ordered o (access ∷ accesses) = fits o access && are_ordered (after o access) accesses

abbrev pub order_after : Order → List Access → Order
order_after o [] = o
order_after o (access ∷ accesses) = order_after (after o access) accesses

-- Runs: a handler run or a task run, one after another.

-- Before the first: XFRC is 0 at the controller's start. Of endpoint 0 that isn't taken as known, since XFRC is cleared at each of its
-- loads.
abbrev pub no_in : InOrder
no_in = record { sized = false; enabled = false; naks = false; clear = true; loaded = false }

abbrev pub no_out : OutOrder
no_out = record { sized = false; enabled = false; ended = false }

abbrev pub unused : Order
unused = record { in0 = record no_in { clear = false }; ins = λ _. no_in; out0 = no_out; outs = λ _. no_out; reset = false; woken = false }

-- what is said of one run is forgotten at the next
abbrev pub in_begun : InOrder → InOrder
in_begun e = record e { loaded = false }

abbrev pub begun : Order → Order
begun o = record o { in0 = in_begun o.in0; ins = λ n. in_begun (o.ins n); reset = false; woken = false }

-- the accesses of a run are in order, and a reset that it found was served by them
abbrev pub is_run : Order → List Access → Bool
is_run o accesses = are_ordered (begun o) accesses && not (order_after (begun o) accesses).reset

abbrev pub after_run : Order → List Access → Order
after_run o accesses = order_after (begun o) accesses

abbrev pub are_runs : Order → List (List Access) → Bool
are_runs o [] = true
are_runs o (run ∷ runs) = is_run o run && are_runs (after_run o run) runs

abbrev pub after_runs : Order → List (List Access) → Order
after_runs o [] = o
after_runs o (run ∷ runs) = after_runs (after_run o run) runs
