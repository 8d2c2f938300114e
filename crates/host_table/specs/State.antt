-- The state of the controller in host mode (after RM0090, OTG_FS). A register is a word of 32 bits.
use Rattle.std.specs.Prelude.{ℕ, ◌+◌, ◌*◌, ◌/◌, Bool, true, false, List, slice_index_or, slice_set, replicate}
use Rattle.dwc2_regs.specs.declared.access.Profile.{Profile}
use Rattle.dwc2_regs.specs.declared.TheConstants.{HPRT_PPWR}
use Rattle.dwc2_fifo.specs.Rx.{Rx, empty_of as rx_empty}
use Rattle.dwc2_fifo.specs.Tx.{Tx, empty_of as tx_empty}
use Rattle.device_table.specs.State.{Control, Kept, no_control, all_ones, fifo_size}
use Rattle.device_table.specs.Words.{with_flag}

-- the bits of HCINTx
pub record Interrupts : Type 0 where
  -- the transfer is complete
  pub xfrc : Bool
  -- the channel halted
  pub chh : Bool
  -- what was answered
  pub stall : Bool
  pub nak : Bool
  pub ack : Bool
  -- nothing was
  pub txerr : Bool
  -- data came with the other PID
  pub dterr : Bool

-- one channel
pub record Channel : Type 0 where
  -- the bits of HCCHARx that are kept as written, 0 in CHDIS and CHENA
  pub kept : ℕ
  -- CHENA: the channel has a transfer
  pub enabled : Bool
  pub interrupts : Interrupts
  pub hcintmsk : ℕ
  pub hctsiz : ℕ

-- the port, by HPRT
pub record Port : Type 0 where
  -- the bits that are kept as written, PRST and PPWR among them, 0 in the others
  pub kept : ℕ
  -- PCSTS: a device is attached
  pub pcsts : Bool
  -- PCDET: one was attached
  pub pcdet : Bool
  -- PENA: the port is enabled
  pub pena : Bool
  -- PENCHNG: PENA changed
  pub penchng : Bool
  -- DISCINT of GINTSTS: the device was detached
  pub discint : Bool
  -- a reset was driven since that was last asked
  pub reset_driven : Bool

-- the host's other registers that keep what was written
pub record HostKept : Type 0 where
  pub hptxfsiz : ℕ
  pub hcfg : ℕ
  pub haintmsk : ℕ

-- an endpoint's registers, which in host mode have neither a bus nor a FIFO: DIEPCTLx or DOEPCTLx, EPDISD of DIEPINTx or
-- DOEPINTx, and DIEPTSIZx or DOEPTSIZx
pub record DeviceEnd : Type 0 where
  pub control : Control
  pub epdisd : Bool
  pub tsiz : ℕ

-- by number, from endpoint 0 on
pub record Device : Type 0 where
  pub ins : List DeviceEnd
  pub outs : List DeviceEnd

pub record Table : Type 0 where
  pub port : Port
  -- the registers of the core and of device mode that keep what was written
  pub kept : Kept
  pub host : HostKept
  pub device : Device
  -- the receive FIFO of all channels
  pub rx : Rx
  -- the two transmit FIFOs, in which a packet has its channel's number as its tag: of control and bulk channels, and of
  -- interrupt channels
  pub nonperiodic : Tx
  pub periodic : Tx
  -- by number, from channel 0 on
  pub channels : List Channel

-- Channels by number.

abbrev pub no_interrupts : Interrupts
no_interrupts = record { xfrc = false; chh = false; stall = false; nak = false; ack = false; txerr = false; dterr = false }

-- a channel that the controller hasn't is one with all 0
abbrev pub no_channel : Channel
no_channel = record { kept = 0; enabled = false; interrupts = no_interrupts; hcintmsk = 0; hctsiz = 0 }

abbrev pub channel_at : Table → ℕ → Channel
channel_at t x = slice_index_or t.channels x no_channel

-- with another state of one channel; one that the controller hasn't keeps nothing
abbrev pub with_channel : Table → ℕ → Channel → Table
with_channel t x channel = record t { channels = slice_set t.channels x channel }

abbrev pub no_end : DeviceEnd
no_end = record { control = no_control; epdisd = false; tsiz = 0 }

-- The plan: how many words each FIFO has, by the controller's profile.

-- for each channel a packet of 64 bytes with its two status words
abbrev pub rx_depth : Profile → ℕ
rx_depth profile = 18 * profile.channels

-- for each channel a packet of 64 bytes
abbrev pub nonperiodic_depth : Profile → ℕ
nonperiodic_depth profile = 16 * profile.channels

-- a packet of 64 bytes for each four channels, and one more
abbrev pub periodic_depth : Profile → ℕ
periodic_depth profile = 16 * (profile.channels / 4 + 1)

-- all of them
abbrev pub plan_words : Profile → ℕ
plan_words profile = rx_depth profile + nonperiodic_depth profile + periodic_depth profile

-- at the start all is 0, and there are as many endpoints and channels as the profile has
abbrev pub first : Profile → Table
first profile = record {
  port = record { kept = 0; pcsts = false; pcdet = false; pena = false; penchng = false; discint = false; reset_driven = false };
  kept = record { grstctl = 0; gintmsk = 0; grxfsiz = 0; dieptxf0 = 0; dieptxfs = replicate profile.in_eps 0; dcfg = 0; dctl = 0; diepmsk = 0; doepmsk = 0; daintmsk = 0; diepempmsk = 0 };
  host = record { hptxfsiz = 0; hcfg = 0; haintmsk = 0 };
  device = record { ins = replicate (profile.in_eps + 1) no_end; outs = replicate (profile.out_eps + 1) no_end };
  rx = rx_empty (rx_depth profile);
  nonperiodic = tx_empty (nonperiodic_depth profile);
  periodic = tx_empty (periodic_depth profile);
  channels = replicate profile.channels no_channel;
}

-- The opened state: PPWR is 1, every mask is all ones but DIEPEMPMSK, and the size registers are the plan's, laid end to end
-- from word 0 on; all else is as at the start.

abbrev pub opened : Profile → Table
opened profile = record (first profile) {
  port = record (first profile).port { kept = with_flag 0 HPRT_PPWR true };
  kept = record (first profile).kept {
    gintmsk = all_ones;
    diepmsk = all_ones;
    doepmsk = all_ones;
    daintmsk = all_ones;
    grxfsiz = rx_depth profile;
    dieptxf0 = fifo_size (rx_depth profile) (nonperiodic_depth profile);
  };
  host = record (first profile).host {
    hptxfsiz = fifo_size (rx_depth profile + nonperiodic_depth profile) (periodic_depth profile);
    haintmsk = all_ones;
  };
  channels = replicate profile.channels (record no_channel { hcintmsk = all_ones });
}
