-- The state of the controller in device mode (after RM0090, OTG_FS). A register is a word of 32 bits.
use Rattle.std.specs.Prelude.{ℕ, zero, suc, ◌+◌, ◌*◌, ◌^◌, Bool, false, List, [], ◌∷◌, slice_index_or, slice_set, Option, None, replicate}
use Rattle.usb_packet.specs.declared.bus.Toggle.{Toggle}
use Rattle.usb_packet.specs.declared.bus.Toggle.TheVariants.{D0}
use Rattle.dwc2_regs.specs.declared.access.Profile.{Profile}
use Rattle.dwc2_fifo.specs.Rx.{Rx, empty_of as rx_empty}
use Rattle.dwc2_fifo.specs.Tx.{Tx, empty_of as tx_empty}

-- DIEPCTLx or DOEPCTLx
pub record Control : Type 0 where
  -- the bits that are kept as written, 0 in the others
  pub kept : ℕ
  -- NAKSTS: the endpoint answers NAK
  pub nak : Bool
  -- STALL: the endpoint answers STALL
  pub stall : Bool
  -- EPENA: the endpoint has a transfer
  pub enabled : Bool

-- one IN endpoint
pub record InEnd : Type 0 where
  pub control : Control
  -- of the next packet
  pub toggle : Toggle
  -- XFRC and EPDISD of DIEPINTx
  pub xfrc : Bool
  pub epdisd : Bool
  -- DIEPTSIZx
  pub tsiz : ℕ
  -- how many bytes of the transfer are in no packet yet
  pub to_come : ℕ
  -- its transmit FIFO, in which all packets have the tag 0
  pub fifo : Tx

-- one OUT endpoint
pub record OutEnd : Type 0 where
  pub control : Control
  -- of the next packet
  pub toggle : Toggle
  -- XFRC, EPDISD and STUP of DOEPINTx
  pub xfrc : Bool
  pub epdisd : Bool
  pub stup : Bool
  -- DOEPTSIZx
  pub tsiz : ℕ

-- what the bus has done to the device as a whole
pub record BusState : Type 0 where
  -- the device answers: USBRST was cleared since the last reset
  pub awake : Bool
  -- USBRST and ENUMDNE of GINTSTS
  pub usbrst : Bool
  pub enumdne : Bool
  -- the SETUPs whose entry of status 4 was not popped
  pub unserved : ℕ
  -- the toggle of the packet that landed on endpoint 0 last, since the last SETUP and the last reset
  pub landed : Option Toggle

-- the registers that keep what was written; all sizes among them, since the FIFOs are as deep as the plan says
pub record Kept : Type 0 where
  pub grstctl : ℕ
  pub gintmsk : ℕ
  pub grxfsiz : ℕ
  pub dieptxf0 : ℕ
  -- DIEPTXFx from x = 1 on
  pub dieptxfs : List ℕ
  pub dcfg : ℕ
  pub dctl : ℕ
  pub diepmsk : ℕ
  pub doepmsk : ℕ
  pub daintmsk : ℕ
  pub diepempmsk : ℕ

-- the host's registers, which in device mode keep what was written and have no effect
pub record Channel : Type 0 where
  pub hcchar : ℕ
  pub hcintmsk : ℕ
  pub hctsiz : ℕ

pub record Host : Type 0 where
  pub hptxfsiz : ℕ
  pub hcfg : ℕ
  pub haintmsk : ℕ
  pub hprt : ℕ
  pub channels : List Channel

pub record Table : Type 0 where
  pub core : BusState
  pub kept : Kept
  pub host : Host
  -- the receive FIFO of all endpoints
  pub rx : Rx
  -- endpoint 0, and the others by number from 1 on
  pub in0 : InEnd
  pub ins : List InEnd
  pub out0 : OutEnd
  pub outs : List OutEnd

-- Endpoints by number.

abbrev pub no_control : Control
no_control = record { kept = 0; nak = false; stall = false; enabled = false }

abbrev pub in_end_of : ℕ → InEnd
in_end_of depth = record { control = no_control; toggle = D0; xfrc = false; epdisd = false; tsiz = 0; to_come = 0; fifo = tx_empty depth }

abbrev pub no_out_end : OutEnd
no_out_end = record { control = no_control; toggle = D0; xfrc = false; epdisd = false; stup = false; tsiz = 0 }

-- an endpoint that the controller hasn't is one with all 0 and no words in its FIFO
abbrev pub in_end : Table → ℕ → InEnd
in_end t zero = t.in0
in_end t (suc n) = slice_index_or t.ins n (in_end_of 0)

abbrev pub out_end : Table → ℕ → OutEnd
out_end t zero = t.out0
out_end t (suc n) = slice_index_or t.outs n no_out_end

-- with another state of one endpoint; one that the controller hasn't keeps nothing
abbrev pub with_in : Table → ℕ → InEnd → Table
with_in t zero end = record t { in0 = end }
with_in t (suc n) end = record t { ins = slice_set t.ins n end }

abbrev pub with_out : Table → ℕ → OutEnd → Table
with_out t zero end = record t { out0 = end }
with_out t (suc n) end = record t { outs = slice_set t.outs n end }

-- The plan: how many words each FIFO has, by the controller's profile.

-- twelve words for three SETUPs, and one packet of 64 bytes with its two status words for endpoint 0 and each OUT endpoint
abbrev pub rx_depth : Profile → ℕ
rx_depth profile = 12 + 18 * (profile.out_eps + 1)

-- one packet of 64 bytes, and two
abbrev pub tx0_depth : ℕ
tx0_depth = 16

abbrev pub tx_depth : ℕ
tx_depth = 32

-- all of them
abbrev pub plan_words : Profile → ℕ
plan_words profile = rx_depth profile + tx0_depth + profile.in_eps * tx_depth

abbrev pub no_channel : Channel
no_channel = record { hcchar = 0; hcintmsk = 0; hctsiz = 0 }

-- at the start all is 0, and there are as many endpoints and channels as the profile has
abbrev pub first : Profile → Table
first profile = record {
  core = record { awake = false; usbrst = false; enumdne = false; unserved = 0; landed = None };
  kept = record { grstctl = 0; gintmsk = 0; grxfsiz = 0; dieptxf0 = 0; dieptxfs = replicate profile.in_eps 0; dcfg = 0; dctl = 0; diepmsk = 0; doepmsk = 0; daintmsk = 0; diepempmsk = 0 };
  host = record { hptxfsiz = 0; hcfg = 0; haintmsk = 0; hprt = 0; channels = replicate profile.channels no_channel };
  rx = rx_empty (rx_depth profile);
  in0 = in_end_of tx0_depth;
  ins = replicate profile.in_eps (in_end_of tx_depth);
  out0 = no_out_end;
  outs = replicate profile.out_eps no_out_end;
}

-- The opened state: every mask is all ones but DIEPEMPMSK, and the size registers are the plan's, laid end to end from word
-- 0 on; all else is as at the start.

abbrev pub all_ones : ℕ
all_ones = 0xffffffff

-- a size register: the first word in bits 15 to 0, the depth in bits 31 to 16
abbrev pub fifo_size : ℕ → ℕ → ℕ
fifo_size start depth = start + 2 ^ 16 * depth

-- so many FIFOs of one depth from a word on
abbrev pub sizes_from : ℕ → ℕ → ℕ → List ℕ
sizes_from zero start depth = []
sizes_from (suc n) start depth = fifo_size start depth ∷ sizes_from n (start + depth) depth

abbrev pub opened : Profile → Table
opened profile = record (first profile) {
  kept = record (first profile).kept {
    gintmsk = all_ones;
    diepmsk = all_ones;
    doepmsk = all_ones;
    daintmsk = all_ones;
    grxfsiz = rx_depth profile;
    dieptxf0 = fifo_size (rx_depth profile) tx0_depth;
    dieptxfs = sizes_from profile.in_eps (rx_depth profile + tx0_depth) tx_depth;
  };
  host = record (first profile).host { haintmsk = all_ones; channels = replicate profile.channels (record no_channel { hcintmsk = all_ones }) };
}
