-- What single accesses do, and what every step keeps.
use Rattle.std.specs.Prelude.{◌≡◌, ◌≢◌, ℕ, zero, ◌-◌, ◌^◌, ◌<◌, ◌||◌, Bool, true, false, if◌then◌else◌, List, [], ◌∷◌, length}
use Rattle.usb_packet.specs.declared.bus.BusAnswer.{BusAnswer}
use Rattle.dwc2_regs.specs.declared.access.Access.{Access}
use Rattle.dwc2_regs.specs.declared.access.Profile.{Profile}
use Rattle.dwc2_regs.specs.declared.TheConstants.{HPRT_PRST, HCCHAR_CHDIS, HCCHAR_CHENA}
use Rattle.dwc2_regs.specs.Register.{Register, grxstsr, grxstsp, haint, hprt, dsts, daint, hcchar, dieptsiz, dtxfsts, doeptsiz, fifo}
use Rattle.dwc2_fifo.specs.Rx.{Entry}
use Rattle.device_table.specs.Words.{flag, out_done, kind_of, number_of}
use Rattle.host_table.specs.State.{Table, channel_at, with_channel}
use Rattle.host_table.specs.Words.{kept_bits}
use Rattle.host_table.specs.Read.{value_read, after_read, read_value, read_table}
use Rattle.host_table.specs.Write.{after_write, write_table, released}
use Rattle.host_table.specs.Bus.{after_attach, after_detach, after_reset_asked, after_xact}
use Rattle.host_table.specs.Bank.{Bank, begun, bank_read, bank_write}
use Rattle.host_table.specs.Laws.{IsOf}

-- Reads.

-- GRXSTSP and window 0 take from the receive FIFO; a read of any other register changes nothing
abbrev pub takes_from_rx : Register → Bool
takes_from_rx grxstsp = true
takes_from_rx (fifo zero) = true
takes_from_rx other = false

abbrev pub ReadsLeave : Type 0
ReadsLeave = (register : Register) (t : Table) → takes_from_rx register ≡ false → after_read t register ≡ t

-- what those two take
abbrev pub with_rx : Table → List ℕ → List Entry → Table
with_rx t left entries = record t { rx = record t.rx { left = left; entries = entries } }

-- the channel whose data ended: ACK, XFRC and CHH are set, and nothing else changes
abbrev pub told_end : Table → ℕ → Table
told_end t x = with_channel t x (record (channel_at t x) { interrupts = record (channel_at t x).interrupts { ack = true; xfrc = true; chh = true } })

pub record Takes (t : Table) (left : List ℕ) (entry : Entry) (entries : List Entry) (word : ℕ) (words : List ℕ) : Type 0 where
  -- GRXSTSP gives the front entry's status, and its words are left in place of those of the entry before
  pub status : value_read (with_rx t left (entry ∷ entries)) grxstsp ≡ entry.status
  pub content : kind_of entry.status ≢ out_done → after_read (with_rx t left (entry ∷ entries)) grxstsp ≡ with_rx t entry.words entries
  pub end : kind_of entry.status ≡ out_done → after_read (with_rx t left (entry ∷ entries)) grxstsp ≡ told_end (with_rx t entry.words entries) (number_of entry.status)
  -- where there is none it gives 0 and changes nothing
  pub no_status : value_read (with_rx t left []) grxstsp ≡ 0
  pub no_entry : after_read (with_rx t left []) grxstsp ≡ with_rx t left []
  -- window 0 gives the words one by one, and 0 where none is left
  pub first_word : value_read (with_rx t (word ∷ words) entries) (fifo 0) ≡ word
  pub words_behind : after_read (with_rx t (word ∷ words) entries) (fifo 0) ≡ with_rx t words entries
  pub no_word : value_read (with_rx t [] entries) (fifo 0) ≡ 0
  pub no_words : after_read (with_rx t [] entries) (fifo 0) ≡ with_rx t [] entries

abbrev pub ReadsTake : Type 0
ReadsTake = (t : Table) (left : List ℕ) (entry : Entry) (entries : List Entry) (word : ℕ) (words : List ℕ) → Takes t left entry entries word words

-- Writes.

-- status registers aren't written
abbrev pub is_status : Register → Bool
is_status grxstsr = true
is_status grxstsp = true
is_status haint = true
is_status dsts = true
is_status daint = true
is_status (dtxfsts x) = true
is_status other = false

abbrev pub StatusStays : Type 0
StatusStays = (register : Register) (t : Table) (word : ℕ) → is_status register ≡ true → after_write t register word ≡ t

-- sizes of the endpoints, and of their FIFOs, read as written where there are so many
pub record SizesReadBack (t : Table) (x word : ℕ) : Type 0 where
  pub ins : x < length t.device.ins → value_read (after_write t (dieptsiz x) word) (dieptsiz x) ≡ word
  pub outs : x < length t.device.outs → value_read (after_write t (doeptsiz x) word) (doeptsiz x) ≡ word

abbrev pub SizesAreKept : Type 0
SizesAreKept = (t : Table) (x word : ℕ) → SizesReadBack t x word

-- HCCHARx: its other bits are kept; CHDIS disables the channel and takes its packet out of both transmit FIFOs, CHENA
-- enables it, and where both are 1 CHDIS comes first
abbrev pub controlled : Table → ℕ → ℕ → Bool → Table
controlled t x word enabled = with_channel t x (record (channel_at t x) { kept = kept_bits word; enabled = enabled })

abbrev pub without_packets : Table → ℕ → Table
without_packets t x = record t { nonperiodic = released x t.nonperiodic; periodic = released x t.periodic }

pub record ControlWritten (t : Table) (x word : ℕ) : Type 0 where
  pub neither : flag word HCCHAR_CHENA ≡ false → flag word HCCHAR_CHDIS ≡ false
      → after_write t (hcchar x) word ≡ controlled t x word (channel_at t x).enabled
  pub enables : flag word HCCHAR_CHENA ≡ true → flag word HCCHAR_CHDIS ≡ false → after_write t (hcchar x) word ≡ controlled t x word true
  pub disables : flag word HCCHAR_CHENA ≡ false → flag word HCCHAR_CHDIS ≡ true → after_write t (hcchar x) word ≡ controlled (without_packets t x) x word false
  pub both : flag word HCCHAR_CHENA ≡ true → flag word HCCHAR_CHDIS ≡ true → after_write t (hcchar x) word ≡ controlled (without_packets t x) x word true

abbrev pub ControlActs : Type 0
ControlActs = (t : Table) (x word : ℕ) → ControlWritten t x word

-- PRST written 1 and then 0 drives a reset exactly where a device is attached, which enables the port and sets PENCHNG
abbrev pub reset_by : Table → ℕ → ℕ → Table
reset_by t one zero_word = after_write (after_write t hprt one) hprt zero_word

pub record ResetByPrst (t : Table) (one word : ℕ) : Type 0 where
  pub driven : (reset_by t one word).port.reset_driven ≡ (t.port.reset_driven || t.port.pcsts)
  pub enabled : (reset_by t one word).port.pena ≡ (t.port.pena || t.port.pcsts)
  pub attached : (reset_by t one word).port.pcsts ≡ t.port.pcsts
  -- PRST alone, and PRST again, drive nothing
  pub begun : (after_write t hprt one).port.reset_driven ≡ t.port.reset_driven
  pub not_enabled : (after_write t hprt one).port.pena ≡ t.port.pena

abbrev pub PrstResets : Type 0
PrstResets =
    (t : Table) (one word : ℕ) → one < 2 ^ 32 → flag one HPRT_PRST ≡ true → flag word HPRT_PRST ≡ false → ResetByPrst t one word

-- What every step keeps: how many endpoints and channels there are, and how deep the FIFOs are.

pub record StepsKeep (profile : Profile) (t : Table) (register : Register) (word addr ep : ℕ) (answered : BusAnswer) : Type 0 where
  pub write : IsOf profile (after_write t register word)
  pub read : IsOf profile (after_read t register)
  pub answer : IsOf profile (after_xact t addr ep answered)
  pub attach : IsOf profile (after_attach t)
  pub detach : IsOf profile (after_detach t)
  pub asked : IsOf profile (after_reset_asked t)

abbrev pub CountsStay : Type 0
CountsStay =
    (profile : Profile) (t : Table) (register : Register) (word addr ep : ℕ) (answered : BusAnswer) → IsOf profile t
    → StepsKeep profile t register word addr ep answered

-- The list of accesses: each is a step of the table, is listed with its value, and takes one of 400.

abbrev pub accessed : Bank → Access → Bank
accessed bank access = if access.write then bank_write bank access.off access.value else bank_read bank access.off

abbrev pub after_accesses : Bank → List Access → Bank
after_accesses bank [] = bank
after_accesses bank (access ∷ accesses) = after_accesses (accessed bank access) accesses

-- the table by itself, and what is listed
abbrev pub moved : Table → Access → Table
moved t access = if access.write then write_table t access.off access.value else read_table t access.off

abbrev pub listed : Table → Access → Access
listed t access = if access.write then record { write = true; off = access.off; value = access.value } else record { write = false; off = access.off; value = read_value t access.off }

abbrev pub all_moved : Table → List Access → Table
all_moved t [] = t
all_moved t (access ∷ accesses) = all_moved (moved t access) accesses

abbrev pub all_listed : Table → List Access → List Access
all_listed t [] = []
all_listed t (access ∷ accesses) = listed t access ∷ all_listed (moved t access) accesses

pub record IsListed (bank : Bank) (accesses : List Access) : Type 0 where
  pub table : (after_accesses (begun bank) accesses).table ≡ all_moved bank.table accesses
  pub log : (after_accesses (begun bank) accesses).log ≡ all_listed bank.table accesses
  pub spare : (after_accesses (begun bank) accesses).spare ≡ 400 - length accesses

abbrev pub AccessesAreListed : Type 0
AccessesAreListed = (bank : Bank) (accesses : List Access) → IsListed bank accesses
