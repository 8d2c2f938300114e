-- Traces with the accesses to registers, worked by hand after RM0090: what is one, what is none, and what each is.
use Rattle.std.specs.Prelude.{◌≡◌, ◌≤◌, ℕ, List, [], ◌∷◌, ◌++◌, true, false, map, length, replicate}
use Rattle.std.specs.List.{AllByRecursion}
use Rattle.usb_packet.specs.declared.bus.BusEvent.{BusEvent}
use Rattle.usb_packet.specs.declared.bus.BusEvent.TheVariants as event
use Rattle.dwc2_regs.specs.declared.access.TheConstants.{FS4}
use Rattle.dwc2_regs.specs.declared.access.Access.{Access}
use Rattle.device_table.specs.State.{Table, opened}
use Rattle.device_table.specs.Bus.{bus_answer, after_bus}
use Rattle.dwc2_access.specs.Run.{AreSteps, accesses_after}
use Rattle.register_text.specs.Access.{IsAccess}
use Rattle.usb_pipe.specs.declared.reply.Reply.TheVariants as reply
use Rattle.device_line.specs.declared.line.DevLine.{DevLine}
use Rattle.device_line.specs.declared.line.DevLine.TheVariants.{Bus, Irq, Task, Call}
use Rattle.device_line.specs.declared.call.DevCall.TheVariants.{State}
use Rattle.device_line.specs.declared.line.Answer.{Answer}
use Rattle.device_line.specs.declared.line.Answer.TheVariants as answer
use Rattle.device_owners.specs.Device.{World}
use Rattle.device_schedule.specs.Turns.{Turn, IsTrace}
use Rattle.device_laws.specs.World.{bare}
use Rattle.device_laws.specs.Examples.{plain, done, ack, none, setup, get_device}

-- Registers by their offsets, and a window.

abbrev pub gintsts : ℕ
gintsts = 0x014

abbrev pub gintmsk : ℕ
gintmsk = 0x018

abbrev pub grxstsp : ℕ
grxstsp = 0x020

abbrev pub window_0 : ℕ
window_0 = 0x1000

-- within GINTSTS, where no register begins
abbrev pub nowhere : ℕ
nowhere = 0x016

abbrev pub reads : ℕ → ℕ → Access
reads off word = record { write = false; off = off; value = word }

abbrev pub writes : ℕ → ℕ → Access
writes off word = record { write = true; off = off; value = word }

abbrev pub turn : DevLine → List Access → Answer → Turn
turn line accesses a = record { line = line; accesses = accesses; answer = a }

abbrev pub at_reset : Turn
at_reset = turn (Bus event.Reset) [] done

abbrev pub at_setup : Answer → Turn
at_setup a = turn (setup 0 get_device) [] a

abbrev pub IsWorked : List Turn → Type 0
IsWorked turns = IsTrace (bare plain) (map (λ t. t.line) turns) turns

-- What is a trace
pub record AreTraces : Type 0 where
  -- a write of GINTSTS clears USBRST and ENUMDNE, which wakes the device, and its SETUP is acknowledged
  pub woken : IsWorked (at_reset ∷ turn Irq (writes gintsts 0x3000 ∷ []) done ∷ at_setup ack ∷ [])
  -- the SETUP is then found and popped: RXFLVL, its entry of status 6, its eight bytes, its entry of status 4, and OEPINT for
  -- its STUP
  pub popped : IsWorked
      (at_reset ∷ turn Irq (reads gintsts 0x3000 ∷ writes gintsts 0x3000 ∷ reads gintsts 0 ∷ []) done ∷ at_setup ack
      ∷ turn Irq
      (reads gintsts 0x10 ∷ reads grxstsp 0x000c0080 ∷ reads window_0 0x01000680 ∷ reads window_0 0x00120000 ∷ reads grxstsp 0x00080000
      ∷ reads gintsts 0x00080000 ∷ [])
      done
      ∷ [])
  -- what a handler run, a task run or a call writes is read behind it; the first read is that of the opened state
  pub kept : IsWorked
      (turn Irq (reads gintmsk 0xffffffff ∷ writes gintmsk 1 ∷ []) done ∷ turn Task (reads gintmsk 1 ∷ writes gintmsk 2 ∷ []) done
      ∷ turn (Call State) (reads gintmsk 2 ∷ writes gintmsk 3 ∷ []) (answer.Reply (reply.Core 0 0)) ∷ turn Irq (reads gintmsk 3 ∷ []) done ∷ [])
  -- 400 accesses for one line
  pub longest : IsWorked (turn Irq (replicate 400 (reads gintsts 0)) done ∷ [])

-- no trace of a world has these turns and then a line with these accesses, whatever line it is and whatever comes of it
abbrev pub NoneHas : {S : Type 0} → World S → List Turn → List Access → Type 0
NoneHas world before accesses =
    (schedule : List DevLine) (line : DevLine) (a : Answer) (behind : List Turn)
    → IsTrace world schedule (before ++ turn line accesses a ∷ behind) → ⊥

-- What is none
pub record AreNoTraces {S : Type 0} (world : World S) : Type 0 where
  -- nothing woke the device: it doesn't answer a SETUP, though a handler run wakes its machine, which acknowledges it. Neither
  -- answer is both the device's and the machine's
  pub asleep : IsWorked (at_reset ∷ turn Irq [] done ∷ at_setup ack ∷ []) → ⊥
  pub unanswered : IsWorked (at_reset ∷ turn Irq [] done ∷ at_setup none ∷ []) → ⊥
  -- USBRST was cleared before it was set
  pub too_early : IsWorked (turn Irq (writes gintsts 0x3000 ∷ []) done ∷ at_reset ∷ turn Irq [] done ∷ at_setup ack ∷ []) → ⊥
  -- a reset sets USBRST and ENUMDNE
  pub unset : NoneHas world (at_reset ∷ []) (reads gintsts 0 ∷ [])
  -- the first read of GINTMSK is that of the opened state, and a second one that of the write before it
  pub other_start : NoneHas world [] (reads gintmsk 0 ∷ [])
  pub stale : NoneHas world [] (writes gintmsk 1 ∷ reads gintmsk 0xffffffff ∷ [])
  pub no_register : NoneHas world [] (writes nowhere 0 ∷ [])
  pub read_nowhere : NoneHas world [] (reads nowhere 0 ∷ [])
  -- a word has 32 bits
  pub too_wide : NoneHas world [] (writes gintmsk 0x100000000 ∷ [])
  pub too_many : NoneHas world [] (replicate 401 (reads gintsts 0))
  -- an access on a line of the bus, also one that the controller takes
  pub on_the_bus : IsWorked (turn (Bus event.Reset) (reads gintmsk 0xffffffff ∷ []) done ∷ []) → ⊥
  -- another line than the schedule's, and another answer than its machine's
  pub other_line : IsTrace (bare plain) (Task ∷ []) (turn Irq [] done ∷ []) → ⊥
  pub other_answer : IsWorked (turn Irq [] ack ∷ []) → ⊥

-- What each trace is

-- a bus event after the accesses
abbrev pub with_event : Table → DevLine → Table
with_event t (Bus e) = after_bus t e
with_event t Irq = t
with_event t Task = t
with_event t (Call call) = t

-- the controller after turns: all accesses and all bus events in their order
abbrev pub table_after : Table → List Turn → Table
table_after t [] = t
table_after t (now ∷ behind) = table_after (with_event (accesses_after t now.accesses) now.line) behind

-- a turn from this controller on: its accesses are steps of it with words of 32 bits, there are 400 at most, and on the bus
-- none; there its answer is the controller's
pub record IsOf (t : Table) (now : Turn) : Type 0 where
  pub steps : AreSteps t now.accesses
  pub words : AllByRecursion IsAccess now.accesses
  pub most : length now.accesses ≤ 400
  pub silent : (e : BusEvent) → now.line ≡ Bus e → now.accesses ≡ []
  pub answered : (e : BusEvent) → now.line ≡ Bus e → now.answer ≡ answer.Bus (bus_answer t e)

-- each turn of a trace is one of the controller, from its opened state on, after all turns before it
abbrev pub TurnsAreOfTheTable : {S : Type 0} → World S → Type 0
TurnsAreOfTheTable world = (schedule : List DevLine) (before : List Turn) (now : Turn) (behind : List Turn)
    → IsTrace world schedule (before ++ now ∷ behind) → IsOf (table_after (opened FS4) before) now
