-- Lists of accesses that are in order, and lists that aren't. Offsets and words are those of RM0090.
use Rattle.std.specs.Prelude.{◌≡◌, ℕ, true, false, List, [], ◌∷◌, ◌++◌}
use Rattle.dwc2_regs.specs.declared.access.Access.{Access}
use Rattle.access_order.specs.Order.{unused, is_run, are_runs}

-- a write and a read
abbrev pub w : ℕ → ℕ → Access
w off word = record { write = true; off = off; value = word }

abbrev pub r : ℕ → ℕ → Access
r off word = record { write = false; off = off; value = word }

-- Endpoint 0. A packet of five bytes is loaded: DIEPTSIZ0, SNAK and EPENA, its words, XFRC cleared, CNAK.
abbrev pub load : List Access
load = w 0x910 0x00080005 ∷ w 0x900 0x88000000 ∷ w 0x1000 0x04030201 ∷ w 0x1000 0x00000005 ∷ w 0x908 1 ∷ w 0x900 0x04000000 ∷ []

-- OUT is armed: DOEPTSIZ0, EPENA and CNAK
abbrev pub arm : List Access
arm = w 0xb10 0x60080040 ∷ w 0xb00 0x84000000 ∷ []

-- XFRC is read and cleared
abbrev pub acknowledged : List Access
acknowledged = r 0x14 0x00040000 ∷ r 0x908 1 ∷ w 0x908 1 ∷ r 0x20 0 ∷ []

-- a packet of four bytes came: its entry of status 2, its word, that of status 3
abbrev pub came : List Access
came = r 0x14 0x00000010 ∷ r 0x20 0x00050040 ∷ r 0x1000 0x04030201 ∷ r 0x20 0x00060000 ∷ w 0xb08 1 ∷ r 0x20 0 ∷ []

-- a SETUP came: both directions are disabled
abbrev pub setup : List Access
setup =
    r 0x14 0x00000010 ∷ r 0x20 0x000c0080 ∷ r 0x1000 0x01000680 ∷ r 0x1000 0x00120000 ∷ r 0x20 0x00080000
    ∷ w 0x900 0x48000000 ∷ w 0xb00 0x48000000 ∷ w 0xb08 0xb ∷ r 0x20 0 ∷ []

-- a reset is served: DCFG, endpoints 0 to 3 disabled, FIFOs emptied, interrupts cleared, USBRST and ENUMDNE cleared
abbrev pub disabled : List Access
disabled =
    w 0x900 0x48000000 ∷ w 0xb00 0x48000000 ∷ w 0x920 0x48000000 ∷ w 0xb20 0x48000000
    ∷ w 0x940 0x48000000 ∷ w 0xb40 0x48000000 ∷ w 0x960 0x48000000 ∷ w 0xb60 0x48000000 ∷ []

abbrev pub wakes : List Access
wakes = w 0x14 0x3000 ∷ []

abbrev pub reset : List Access
reset = r 0x14 0x3000 ∷ w 0x800 0 ∷ disabled ++ w 0x10 0x420 ∷ r 0x20 0 ∷ w 0x908 3 ∷ w 0xb08 0xb ∷ w 0x928 3 ∷ w 0xb28 0xb ∷ wakes

-- Data endpoints. OUT 2 is armed, takes a packet and is armed again.
abbrev pub arm_2 : List Access
arm_2 = w 0xb50 0x00080040 ∷ w 0xb40 0x84088040 ∷ []

abbrev pub came_2 : List Access
came_2 = r 0x14 0x00000010 ∷ r 0x20 0x00040042 ∷ r 0x1000 0x04030201 ∷ r 0x20 0x00060002 ∷ w 0xb48 1 ∷ r 0x20 0 ∷ []

-- IN 1, of packets of 8 bytes, is loaded with two packets
abbrev pub load_1 : List Access
load_1 = w 0x930 0x0010000c ∷ w 0x920 0x88488008 ∷ w 0x2000 1 ∷ w 0x2000 2 ∷ w 0x2000 3 ∷ w 0x920 0x04488008 ∷ []

-- one is acknowledged, and then both
abbrev pub once_1 : List Access
once_1 = r 0x14 0 ∷ r 0x928 0 ∷ []

abbrev pub twice_1 : List Access
twice_1 = r 0x14 0x00040000 ∷ r 0x928 1 ∷ w 0x928 1 ∷ []

-- both are closed: SNAK and EPDIS, FIFO 1 flushed, interrupts cleared; and the halt of IN 1 is cleared
abbrev pub close : List Access
close = w 0xb40 0x48000000 ∷ w 0xb48 2 ∷ w 0x920 0x48000000 ∷ w 0x10 0x60 ∷ w 0x928 3 ∷ []

abbrev pub clear_1 : List Access
clear_1 = w 0x920 0x58488008 ∷ w 0x10 0x60 ∷ w 0x928 3 ∷ []

pub record InOrderLists : Type 0 where
  pub data_stage : are_runs unused (reset ∷ setup ∷ load ∷ acknowledged ∷ (load ++ arm) ∷ acknowledged ∷ came ∷ []) ≡ true
  -- a SETUP and a reset come at any time
  pub setups : are_runs unused (reset ∷ setup ∷ (load ++ arm) ∷ setup ∷ load ∷ reset ∷ setup ∷ load ∷ []) ≡ true
  -- XFRC stays cleared from the read that found it on
  pub cleared_before : are_runs unused (load ∷ (acknowledged ++ w 0x910 0x00080000 ∷ w 0x900 0x88000000 ∷ w 0x900 0x04000000 ∷ []) ∷ []) ≡ true
  pub out_pipe : are_runs unused (reset ∷ arm_2 ∷ came_2 ∷ arm_2 ∷ reset ∷ arm_2 ∷ close ∷ arm_2 ∷ []) ≡ true
  pub in_pipe : are_runs unused (reset ∷ clear_1 ∷ load_1 ∷ once_1 ∷ (twice_1 ++ load_1) ∷ close ∷ load_1 ∷ clear_1 ∷ load_1 ∷ reset ∷ []) ≡ true
  -- before the first transfer of an endpoint other than 0 XFRC is 0
  pub first : is_run unused load_1 ≡ true
  -- a size that is written again, a run with no access, and ENUMDNE cleared alone
  pub others : are_runs unused ((w 0x910 0x00080001 ∷ load) ∷ [] ∷ (w 0x14 0x2000 ∷ acknowledged) ∷ []) ≡ true

-- a. EPENA without a size of its own
pub record Unsized : Type 0 where
  pub before : is_run unused (w 0x900 0x88000000 ∷ w 0x910 0x00080000 ∷ w 0x908 1 ∷ w 0x900 0x04000000 ∷ []) ≡ false
  pub out_before : is_run unused (w 0xb00 0x84000000 ∷ w 0xb10 0x60080040 ∷ []) ≡ false
  pub out_never : is_run unused (w 0xb00 0x88000000 ∷ []) ≡ false
  pub again : are_runs unused (load ∷ acknowledged ∷ (w 0x900 0x88000000 ∷ []) ∷ []) ≡ false
  pub out_again : are_runs unused (arm ∷ came ∷ (w 0xb00 0x84000000 ∷ []) ∷ []) ≡ false
  pub of_another : is_run unused (w 0x910 0x00080000 ∷ w 0x920 0x88488008 ∷ []) ≡ false
  pub of_in : is_run unused (w 0x910 0x00080040 ∷ w 0xb00 0x84000000 ∷ []) ≡ false

-- b. words where no load goes on
pub record StrayWords : Type 0 where
  pub before : is_run unused (w 0x910 0x00080004 ∷ w 0x1000 1 ∷ w 0x900 0x88000000 ∷ []) ≡ false
  pub after_cnak : is_run unused (w 0x908 1 ∷ w 0x910 0x00080004 ∷ w 0x900 0x88000000 ∷ w 0x900 0x04000000 ∷ w 0x1000 1 ∷ []) ≡ false
  pub disabled : is_run unused (w 0x910 0x00080004 ∷ w 0x900 0x88000000 ∷ w 0x900 0x48000000 ∷ w 0x1000 1 ∷ []) ≡ false
  pub of_another : is_run unused (w 0x910 0x00080004 ∷ w 0x900 0x88000000 ∷ w 0x2000 1 ∷ []) ≡ false
  pub acknowledged : are_runs unused (load ∷ (acknowledged ++ w 0x1000 1 ∷ []) ∷ []) ≡ false

-- c. XFRC left set, or cleared while a packet may be acknowledged
pub record StaleXfrc : Type 0 where
  pub at_first : is_run unused (w 0x910 0x00080000 ∷ w 0x900 0x88000000 ∷ w 0x900 0x04000000 ∷ []) ≡ false
  -- XFRC is shown before CNAK
  pub shown : is_run unused (w 0x930 0x0010000c ∷ w 0x920 0x88488008 ∷ r 0x928 1 ∷ w 0x920 0x04488008 ∷ []) ≡ false
  pub never : are_runs unused (load ∷ (r 0x908 1 ∷ w 0x910 0x00080000 ∷ w 0x900 0x88000000 ∷ w 0x900 0x04000000 ∷ []) ∷ []) ≡ false
  pub after_cnak : is_run unused (w 0x910 0x00080000 ∷ w 0x900 0x88000000 ∷ w 0x900 0x04000000 ∷ w 0x908 1 ∷ []) ≡ false
  pub other_bit : are_runs unused (load ∷ (r 0x908 1 ∷ w 0x910 0x00080000 ∷ w 0x900 0x88000000 ∷ w 0x908 2 ∷ w 0x900 0x04000000 ∷ []) ∷ []) ≡ false
  pub unseen : are_runs unused (load ∷ (w 0x908 1 ∷ []) ∷ []) ≡ false
  pub old : are_runs unused (load ∷ (r 0x908 0 ∷ w 0x910 0x00080000 ∷ w 0x900 0x88000000 ∷ w 0x900 0x04000000 ∷ []) ∷ []) ≡ false
  pub at_once : is_run unused (w 0x910 0x00080000 ∷ w 0x900 0x84000000 ∷ w 0x908 1 ∷ []) ≡ false
  -- EPENA alone, where CNAK was written for the load before
  pub alone : are_runs unused (load ∷ (r 0x908 1 ∷ w 0x910 0x00080000 ∷ w 0x900 0x80000000 ∷ []) ∷ []) ≡ false
  pub out : are_runs unused (arm ∷ (r 0x20 0x00060000 ∷ []) ∷ arm ∷ []) ≡ false
  pub out_read : are_runs unused (arm ∷ (r 0xb08 1 ∷ w 0xb08 2 ∷ []) ∷ arm ∷ []) ≡ false
  pub of_another : are_runs unused (arm_2 ∷ (r 0x20 0x00060002 ∷ w 0xb08 1 ∷ []) ∷ arm_2 ∷ []) ≡ false
  -- XFRC of the load before is read once the next is enabled, and cleared once that one may be acknowledged
  pub read_late : is_run unused (w 0x910 0x00080000 ∷ w 0x900 0x88000000 ∷ r 0x908 1 ∷ w 0x900 0x04000000 ∷ w 0x908 1 ∷ []) ≡ false
  pub blind : are_runs unused (load ∷ (w 0x910 0x00080000 ∷ w 0x900 0x88000000 ∷ r 0x908 1 ∷ w 0x908 1 ∷ w 0x900 0x04000000 ∷ []) ∷ (r 0x908 0 ∷ w 0x908 1 ∷ []) ∷ []) ≡ false

-- d. an access behind the CNAK of a load
pub record BehindCnak : Type 0 where
  pub interrupts : is_run unused (load ++ r 0x908 0 ∷ []) ≡ false
  pub other_bit : is_run unused (load ++ w 0x908 2 ∷ []) ≡ false
  pub size : is_run unused (load ++ w 0x910 0x00080000 ∷ []) ≡ false
  pub size_read : is_run unused (load ++ r 0x910 0 ∷ []) ≡ false
  pub control_read : is_run unused (load ++ r 0x900 0 ∷ []) ≡ false
  pub control : is_run unused (load ++ w 0x900 0x48000000 ∷ []) ≡ false
  pub twice : is_run unused (load ++ load) ≡ false
  pub state : is_run unused (load_1 ++ r 0x938 0 ∷ []) ≡ false

-- e. a reset that is ended too early, twice, unread or not at all
pub record EndedReset : Type 0 where
  pub enabled : are_runs unused (load ∷ (r 0x14 0x3000 ∷ wakes) ∷ []) ≡ false
  pub armed : are_runs unused (arm ∷ (r 0x14 0x3000 ∷ wakes) ∷ []) ≡ false
  pub early : are_runs unused (load ∷ (r 0x14 0x3000 ∷ wakes ++ disabled) ∷ []) ≡ false
  pub one_left : are_runs unused (load_1 ∷ (r 0x14 0x3000 ∷ w 0x900 0x48000000 ∷ w 0xb00 0x48000000 ∷ wakes) ∷ []) ≡ false
  pub out_left : are_runs unused (arm_2 ∷ (r 0x14 0x3000 ∷ w 0x940 0x48000000 ∷ wakes) ∷ []) ≡ false
  pub highest_left : are_runs unused ((w 0xc70 0x00080040 ∷ w 0xc60 0x84088040 ∷ []) ∷ reset ∷ []) ≡ false
  pub not_last : is_run unused (reset ++ w 0x908 3 ∷ []) ≡ false
  pub twice : is_run unused (reset ++ wakes) ≡ false
  pub unread : is_run unused wakes ≡ false
  pub read_before : are_runs unused ((r 0x14 0 ∷ []) ∷ wakes ∷ []) ≡ false
  pub unserved : is_run unused (r 0x14 0x1000 ∷ r 0x20 0 ∷ []) ≡ false
  -- XFRC that was read is of the load before
  pub stale : are_runs unused ((w 0x910 0x00080005 ∷ w 0x900 0x88000000 ∷ r 0x908 1 ∷ []) ∷ (r 0x14 0x3000 ∷ wakes) ∷ []) ≡ false

-- f. a FIFO that is emptied while its endpoint is enabled
pub record EmptiedEarly : Type 0 where
  pub answers : are_runs unused (load_1 ∷ (w 0x10 0x60 ∷ []) ∷ []) ≡ false
  pub before : are_runs unused (load_1 ∷ (w 0x10 0x60 ∷ w 0x920 0x48000000 ∷ w 0x928 3 ∷ []) ∷ []) ≡ false
  pub loading : is_run unused (w 0x930 0x0010000c ∷ w 0x920 0x88488008 ∷ w 0x10 0x60 ∷ []) ≡ false
  pub all : are_runs unused (load_1 ∷ (w 0x10 0x420 ∷ []) ∷ []) ≡ false
  pub all_of_0 : are_runs unused (load ∷ (w 0x10 0x420 ∷ []) ∷ []) ≡ false
  pub at_a_reset : are_runs unused (load_1 ∷ (r 0x14 0x3000 ∷ w 0x10 0x420 ∷ disabled ++ wakes) ∷ []) ≡ false
