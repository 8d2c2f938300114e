-- Laws of the steps.
use Rattle.std.specs.Prelude.{◌≡◌, ◌≢◌, ℕ, suc, ◌+◌, ◌*◌, ◌/◌, ◌%◌, ◌^◌, ◌<◌, ◌≤◌, Bool, true, false, IsTrue, List, [], length}
use Rattle.usb_packet.specs.declared.bus.Toggle.{Toggle}
use Rattle.usb_packet.specs.declared.bus.BusEvent.TheVariants as event
use Rattle.dwc2_regs.specs.declared.TheConstants.{GRXSTSP_NUMBER, GRXSTSP_BYTES, GRXSTSP_PID, GRXSTSP_STATUS}
use Rattle.dwc2_regs.specs.Field.{field_of}
use Rattle.dwc2_regs.specs.Register.{Register, gintmsk, grxstsp, grxfsiz, dieptxf0, hptxfsiz, hcfg, haintmsk, dcfg, dctl, diepmsk, doepmsk, daintmsk, diepempmsk, dieptxf, hcchar}
use Rattle.dwc2_regs.specs.Register.{hcintmsk, hctsiz, diepctl, diepint, dieptsiz, dtxfsts, doepctl, doepint, doeptsiz, fifo}
use Rattle.dwc2_regs.specs.declared.access.Profile.{Profile}
use Rattle.device_table.specs.State.{Table, first, opened, in_end, out_end}
use Rattle.dwc2_fifo.specs.Words.{words_of}
use Rattle.device_table.specs.Words.{pid_of, status_word, out_data, kept_bits}
use Rattle.device_table.specs.Read.{value_read, after_read, read_table}
use Rattle.device_table.specs.Write.{after_write, setup_lies, write_table}
use Rattle.device_table.specs.Bus.{after_bus, after_landing}
use Rattle.device_table.specs.Bank.{Bank, bank_read, bank_write}

-- the registers that keep every bit as written, and have no effect but by their value
abbrev pub is_plain : Register → Bool
is_plain gintmsk = true
is_plain grxfsiz = true
is_plain dieptxf0 = true
is_plain hptxfsiz = true
is_plain hcfg = true
is_plain haintmsk = true
is_plain dcfg = true
is_plain dctl = true
is_plain diepmsk = true
is_plain doepmsk = true
is_plain daintmsk = true
is_plain diepempmsk = true
is_plain other = false

abbrev pub PlainReadsBack : Type 0
PlainReadsBack =
    (register : Register) (t : Table) (word : ℕ) → IsTrue (is_plain register)
    → value_read (after_write t register word) register ≡ word

-- so do the transfer sizes of the endpoints that there are
abbrev pub SizeReadsBack : Type 0
SizeReadsBack =
    (x : ℕ) (t : Table) (word : ℕ)
    → (x ≤ length t.ins → value_read (after_write t (dieptsiz x) word) (dieptsiz x) ≡ word)
    × (x ≤ length t.outs → value_read (after_write t (doeptsiz x) word) (doeptsiz x) ≡ word)

-- a controller has as many endpoints, sizes of their FIFOs and channels as its profile says
pub record IsOf (profile : Profile) (t : Table) : Type 0 where
  pub ins : length t.ins ≡ profile.in_eps
  pub outs : length t.outs ≡ profile.out_eps
  pub sizes : length t.kept.dieptxfs ≡ profile.in_eps
  pub channels : length t.host.channels ≡ profile.channels

abbrev pub CountsAreKept : Type 0
CountsAreKept = (profile : Profile) → IsOf profile (first profile) × IsOf profile (opened profile)

-- and the registers of endpoints beyond them read 0, whatever was written
pub record ReadsNothing (t : Table) (x : ℕ) : Type 0 where
  pub in_end : length t.ins < x → (value_read t (diepctl x) ≡ 0) × (value_read t (diepint x) ≡ 0) × (value_read t (dieptsiz x) ≡ 0) × (value_read t (dtxfsts x) ≡ 0)
  pub out_end : length t.outs < x → (value_read t (doepctl x) ≡ 0) × (value_read t (doepint x) ≡ 0) × (value_read t (doeptsiz x) ≡ 0)
  pub size : length t.kept.dieptxfs < x → value_read t (dieptxf x) ≡ 0
  pub channel : length t.host.channels ≤ x → (value_read t (hcchar x) ≡ 0) × (value_read t (hcintmsk x) ≡ 0) × (value_read t (hctsiz x) ≡ 0)

abbrev pub BeyondReadsNothing : Type 0
BeyondReadsNothing = (t : Table) (x : ℕ) → ReadsNothing t x

-- whose register it is: an IN endpoint's, with its FIFO window, or an OUT endpoint's
pub data Whose : Type 0 where
  of_in : ℕ → Whose
  of_out : ℕ → Whose
  of_core : Whose

abbrev pub whose : Register → Whose
whose (diepctl x) = of_in x
whose (diepint x) = of_in x
whose (dieptsiz x) = of_in x
whose (dtxfsts x) = of_in x
whose (fifo x) = of_in x
whose (doepctl x) = of_out x
whose (doepint x) = of_out x
whose (doeptsiz x) = of_out x
whose other = of_core

-- all but the endpoints is as it was
pub record SameElse (old new : Table) : Type 0 where
  pub core : new.core ≡ old.core
  pub kept : new.kept ≡ old.kept
  pub host : new.host ≡ old.host
  pub rx : new.rx ≡ old.rx

-- all endpoints but that one are as they were
abbrev pub OthersSame : Whose → Table → Table → Type 0
OthersSame (of_in x) old new =
    ((y : ℕ) → y ≢ x → in_end new y ≡ in_end old y) × ((y : ℕ) → out_end new y ≡ out_end old y) × SameElse old new
OthersSame (of_out x) old new =
    ((y : ℕ) → in_end new y ≡ in_end old y) × ((y : ℕ) → y ≢ x → out_end new y ≡ out_end old y) × SameElse old new
OthersSame of_core old new = Unit {0}

-- what a packet on the OUT endpoint of that number leaves, and a token on the IN endpoint
pub record OutLeaves (old new : Table) (n : ℕ) : Type 0 where
  pub ins : (y : ℕ) → in_end new y ≡ in_end old y
  pub outs : (y : ℕ) → y ≢ suc n → out_end new y ≡ out_end old y
  pub core : new.core ≡ old.core
  pub kept : new.kept ≡ old.kept
  pub host : new.host ≡ old.host

pub record InLeaves (old new : Table) (n : ℕ) : Type 0 where
  pub ins : (y : ℕ) → y ≢ suc n → in_end new y ≡ in_end old y
  pub outs : (y : ℕ) → out_end new y ≡ out_end old y
  pub others : SameElse old new

abbrev pub OthersStay : Type 0
OthersStay = (register : Register) (t : Table) (word : ℕ) → OthersSame (whose register) t (after_write t register word)

-- a bus event on an endpoint from 1 on leaves the others, and those of the other direction
abbrev pub BusLeavesOthers : Type 0
BusLeavesOthers =
    (t : Table) (addr n : ℕ) (toggle : Toggle) (bytes : List ℕ) (good : Bool)
    → OutLeaves t (after_bus t (event.Out addr (suc n) toggle bytes good)) n × InLeaves t (after_bus t (event.In addr (suc n) good)) n

-- a reset leaves all but the core's part
pub record SameButCore (old new : Table) : Type 0 where
  pub kept : new.kept ≡ old.kept
  pub host : new.host ≡ old.host
  pub rx : new.rx ≡ old.rx
  pub in0 : new.in0 ≡ old.in0
  pub ins : new.ins ≡ old.ins
  pub out0 : new.out0 ≡ old.out0
  pub outs : new.outs ≡ old.outs

abbrev pub ResetLeaves : Type 0
ResetLeaves = (t : Table) → SameButCore t (after_bus t event.Reset)

-- a packet that landed in an empty receive FIFO is read byte for byte: its status, its words, and then the end that sets
-- XFRC
abbrev pub at_landing : Table → ℕ → Toggle → List ℕ → Table
at_landing t n toggle bytes = after_landing t (suc n) toggle bytes

pub record ComesOut (t : Table) (n : ℕ) (toggle : Toggle) (bytes : List ℕ) : Type 0 where
  pub status : value_read (at_landing t n toggle bytes) grxstsp ≡ status_word (suc n) (length bytes) (pid_of toggle) out_data
  pub words : (after_read (at_landing t n toggle bytes) grxstsp).rx.left ≡ words_of bytes

abbrev pub LandingComesOut : Type 0
LandingComesOut =
    (t : Table) (n : ℕ) (toggle : Toggle) (bytes : List ℕ) → t.rx.entries ≡ [] → n < 15 → length bytes ≤ 64 → ComesOut t n toggle bytes

-- nothing is due, so an access is its step of the table, logged and counted
abbrev pub NothingDue : Type 0
NothingDue =
    (bank : Bank) (off word : ℕ) → bank.due ≡ []
    → ((bank_read bank off).due ≡ []) × ((bank_read bank off).table ≡ read_table bank.table off)
    × ((bank_write bank off word).due ≡ []) × ((bank_write bank off word).table ≡ write_table bank.table off word)

-- while a SETUP lies in the receive FIFO, NAKSTS of endpoint 0 stays where it is 1
abbrev pub CnakWaits : Type 0
CnakWaits =
    (t : Table) (word : ℕ) → IsTrue (setup_lies t)
    → (IsTrue t.in0.control.nak → IsTrue (after_write t (diepctl 0) word).in0.control.nak)
    × (IsTrue t.out0.control.nak → IsTrue (after_write t (doepctl 0) word).out0.control.nak)

-- the bits of a control register that are kept, by their places: 16 to 0, 20 to 18, 25 to 22 and 29
abbrev pub KeptBits : Type 0
KeptBits =
    (word : ℕ) → word < 2 ^ 32
    → kept_bits word ≡ word % 2 ^ 17 + word / 2 ^ 18 % 2 ^ 3 * 2 ^ 18 + word / 2 ^ 22 % 2 ^ 4 * 2 ^ 22 + word / 2 ^ 29 % 2 * 2 ^ 29

abbrev pub StatusReadsBack : Type 0
StatusReadsBack =
    (number bytes kind : ℕ) (toggle : Toggle) → number < 2 ^ 4 → bytes < 2 ^ 11 → kind < 2 ^ 4
    → let word = status_word number bytes (pid_of toggle) kind in
    (field_of word GRXSTSP_NUMBER ≡ number) × (field_of word GRXSTSP_BYTES ≡ bytes) × (field_of word GRXSTSP_PID ≡ pid_of toggle) × (field_of word GRXSTSP_STATUS ≡ kind)
