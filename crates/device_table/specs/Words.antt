-- Bits and fields of the words that the registers show and take.
use Rattle.std.specs.Prelude.{ℕ, zero, suc, ◌+◌, ◌*◌, ◌^◌, ◌==◌, ◌||◌, nat_lt, Bool, if◌then◌else◌, List, [], ◌∷◌}
use Rattle.usb_packet.specs.declared.bus.Toggle.{Toggle}
use Rattle.usb_packet.specs.declared.bus.Toggle.TheVariants.{D0, D1}
use Rattle.dwc2_regs.specs.declared.bits.Field.{Field}
use Rattle.dwc2_regs.specs.declared.TheConstants.{DIEPCTL0_SIZE, DIEPCTL_SIZE, DIEPCTL_NAKSTS, DIEPCTL_STALL, DIEPCTL_CNAK, DIEPCTL_SNAK, DIEPCTL_SD0PID, DIEPCTL_EPDIS}
use Rattle.dwc2_regs.specs.declared.TheConstants.{DIEPCTL_EPENA, DIEPTSIZ0_SIZE, DIEPTSIZ0_COUNT, DIEPTSIZ_SIZE, DIEPTSIZ_COUNT, GRXSTSP_STATUS, GRXSTSP_NUMBER, OUT_DATA, OUT_DONE}
use Rattle.dwc2_regs.specs.declared.TheConstants.{SETUP_DONE, SETUP_DATA}
use Rattle.dwc2_regs.specs.Field.{field_of, with_field}
use Rattle.device_table.specs.State.{Control}

-- whether a field of one bit is 1
abbrev pub flag : ℕ → Field → Bool
flag word field = field_of word field == 1

-- the word with that bit
abbrev pub with_flag : ℕ → Field → Bool → ℕ
with_flag word field bit = with_field word field (if bit then 1 else 0)

-- the word with 0 in these fields
abbrev pub cleared : ℕ → List Field → ℕ
cleared word [] = word
cleared word (field ∷ fields) = cleared (with_field word field 0) fields

-- DIEPCTLx and DOEPCTLx have their common fields in the same bits, so one name of each stands for both.

-- the bits that are kept as written: all but NAKSTS, STALL and EPENA, which are state, and CNAK, SNAK, SD0PID and EPDIS,
-- which act and read 0
abbrev pub kept_bits : ℕ → ℕ
kept_bits word =
    cleared word (DIEPCTL_NAKSTS ∷ DIEPCTL_STALL ∷ DIEPCTL_CNAK ∷ DIEPCTL_SNAK ∷ DIEPCTL_SD0PID ∷ DIEPCTL_EPDIS ∷ DIEPCTL_EPENA ∷ [])

-- what a control register reads
abbrev pub control_word : Control → ℕ
control_word control =
    with_flag (with_flag (with_flag control.kept DIEPCTL_NAKSTS control.nak) DIEPCTL_STALL control.stall) DIEPCTL_EPENA control.enabled

-- an endpoint's size in bytes: of endpoint 0 a code, 0 is 64 bytes, 1 is 32, 2 is 16, 3 is 8; of the others the number,
-- where 0 and what is above 64 counts as 64
abbrev pub size_of_code : ℕ → ℕ
size_of_code code = if code == 0 then 64 else if code == 1 then 32 else if code == 2 then 16 else 8

abbrev pub size_counted : ℕ → ℕ
size_counted size = if size == 0 || nat_lt 64 size then 64 else size

abbrev pub packet_size : ℕ → Control → ℕ
packet_size zero control = size_of_code (field_of control.kept DIEPCTL0_SIZE)
packet_size (suc n) control = size_counted (field_of control.kept DIEPCTL_SIZE)

-- the bytes and the packets of DIEPTSIZx, which for endpoint 0 has fields of its own
abbrev pub transfer_size : ℕ → ℕ → ℕ
transfer_size zero tsiz = field_of tsiz DIEPTSIZ0_SIZE
transfer_size (suc n) tsiz = field_of tsiz DIEPTSIZ_SIZE

abbrev pub packet_count : ℕ → ℕ → ℕ
packet_count zero tsiz = field_of tsiz DIEPTSIZ0_COUNT
packet_count (suc n) tsiz = field_of tsiz DIEPTSIZ_COUNT

abbrev pub with_packet_count : ℕ → ℕ → ℕ → ℕ
with_packet_count zero tsiz count = with_field tsiz DIEPTSIZ0_COUNT count
with_packet_count (suc n) tsiz count = with_field tsiz DIEPTSIZ_COUNT count

-- Entries of the receive FIFO.

-- what kind of entry it is: the data of an OUT packet, the end of its transfer, the end of a SETUP, the data of a SETUP
abbrev pub out_data : ℕ
out_data = OUT_DATA

abbrev pub out_done : ℕ
out_done = OUT_DONE

abbrev pub setup_done : ℕ
setup_done = SETUP_DONE

abbrev pub setup_data : ℕ
setup_data = SETUP_DATA

-- the PID of a data packet
abbrev pub pid_of : Toggle → ℕ
pid_of D0 = 0
pid_of D1 = 2

-- the status word: number in bits 3 to 0, bytes in 14 to 4, PID in 16 to 15, kind in 20 to 17
abbrev pub status_word : ℕ → ℕ → ℕ → ℕ → ℕ
status_word number bytes pid kind = number + 2 ^ 4 * bytes + 2 ^ 15 * pid + 2 ^ 17 * kind

abbrev pub kind_of : ℕ → ℕ
kind_of status = field_of status GRXSTSP_STATUS

abbrev pub number_of : ℕ → ℕ
number_of status = field_of status GRXSTSP_NUMBER
