-- The registers of the controller and the windows of its FIFOs, each at its offset.
use Rattle.std.specs.Prelude.{ℕ, ◌+◌, ◌-◌, ◌*◌, ◌/◌, ◌==◌, nat_lt, if◌then◌else◌, List, [], ◌∷◌, find, Option}

-- a register by its name, and by its number where there is one for each endpoint or channel; `dieptxf0` is
-- the host's HNPTXFSIZ too, and `fifo x` is the window of FIFO x
pub data Register : Type 0 where
  grstctl : Register
  gintsts : Register
  gintmsk : Register
  grxstsr : Register
  grxstsp : Register
  grxfsiz : Register
  dieptxf0 : Register
  hptxfsiz : Register
  hcfg : Register
  haint : Register
  haintmsk : Register
  hprt : Register
  dcfg : Register
  dctl : Register
  dsts : Register
  diepmsk : Register
  doepmsk : Register
  daint : Register
  daintmsk : Register
  diepempmsk : Register
  dieptxf : ℕ → Register
  hcchar : ℕ → Register
  hcint : ℕ → Register
  hcintmsk : ℕ → Register
  hctsiz : ℕ → Register
  diepctl : ℕ → Register
  diepint : ℕ → Register
  dieptsiz : ℕ → Register
  dtxfsts : ℕ → Register
  doepctl : ℕ → Register
  doepint : ℕ → Register
  doeptsiz : ℕ → Register
  fifo : ℕ → Register

-- the offset of a register, in bytes
abbrev pub offset_of : Register → ℕ
offset_of grstctl = 0x010
offset_of gintsts = 0x014
offset_of gintmsk = 0x018
offset_of grxstsr = 0x01c
offset_of grxstsp = 0x020
offset_of grxfsiz = 0x024
offset_of dieptxf0 = 0x028
offset_of hptxfsiz = 0x100
offset_of hcfg = 0x400
offset_of haint = 0x414
offset_of haintmsk = 0x418
offset_of hprt = 0x440
offset_of dcfg = 0x800
offset_of dctl = 0x804
offset_of dsts = 0x808
offset_of diepmsk = 0x810
offset_of doepmsk = 0x814
offset_of daint = 0x818
offset_of daintmsk = 0x81c
offset_of diepempmsk = 0x834
offset_of (dieptxf x) = 0x104 + 4 * (x - 1)
offset_of (hcchar x) = 0x500 + 0x20 * x
offset_of (hcint x) = 0x508 + 0x20 * x
offset_of (hcintmsk x) = 0x50c + 0x20 * x
offset_of (hctsiz x) = 0x510 + 0x20 * x
offset_of (diepctl x) = 0x900 + 0x20 * x
offset_of (diepint x) = 0x908 + 0x20 * x
offset_of (dieptsiz x) = 0x910 + 0x20 * x
offset_of (dtxfsts x) = 0x918 + 0x20 * x
offset_of (doepctl x) = 0xb00 + 0x20 * x
offset_of (doepint x) = 0xb08 + 0x20 * x
offset_of (doeptsiz x) = 0xb10 + 0x20 * x
offset_of (fifo x) = 0x1000 + 0x1000 * x

-- the registers of one channel, and of one endpoint in each direction
abbrev pub of_channel : ℕ → List Register
of_channel x = hcchar x ∷ hcint x ∷ hcintmsk x ∷ hctsiz x ∷ []

abbrev pub of_in_endpoint : ℕ → List Register
of_in_endpoint x = diepctl x ∷ diepint x ∷ dieptsiz x ∷ dtxfsts x ∷ []

abbrev pub of_out_endpoint : ℕ → List Register
of_out_endpoint x = doepctl x ∷ doepint x ∷ doeptsiz x ∷ []

-- the registers that stand alone
abbrev pub core_registers : List Register
core_registers =
    grstctl ∷ gintsts ∷ gintmsk ∷ grxstsr ∷ grxstsp ∷ grxfsiz ∷ dieptxf0 ∷ hptxfsiz ∷ []

abbrev pub host_registers : List Register
host_registers = hcfg ∷ haint ∷ haintmsk ∷ hprt ∷ []

abbrev pub device_registers : List Register
device_registers = dcfg ∷ dctl ∷ dsts ∷ diepmsk ∷ doepmsk ∷ daint ∷ daintmsk ∷ diepempmsk ∷ []

-- the registers among which the one at an offset is: numbers go to 11
abbrev pub registers_near : ℕ → List Register
registers_near off =
    if nat_lt off 0x104 then core_registers
    else if nat_lt off 0x130 then dieptxf ((off - 0x104) / 4 + 1) ∷ []
    else if nat_lt off 0x500 then host_registers
    else if nat_lt off 0x680 then of_channel ((off - 0x500) / 0x20)
    else if nat_lt off 0x900 then device_registers
    else if nat_lt off 0xa80 then of_in_endpoint ((off - 0x900) / 0x20)
    else if nat_lt off 0xb00 then []
    else if nat_lt off 0xc80 then of_out_endpoint ((off - 0xb00) / 0x20)
    else if nat_lt off 0x1000 then []
    else if nat_lt off 0xd000 then fifo ((off - 0x1000) / 0x1000) ∷ []
    else []

-- the register at an offset, if there is one
abbrev pub register_at : ℕ → Option Register
register_at off = find (λ r. offset_of r == off) (registers_near off)
