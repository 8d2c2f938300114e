-- Commands that are worked out by hand from Bulk-Only Transport 1.0 (5 and 6), SPC-2 and SBC-2.
use Rattle.std.specs.Prelude.{◌≡◌, ℕ, List, [], ◌∷◌, ◌++◌, Bool, true, false, replicate, take, Some, codes}
use Rattle.usb_packet.specs.declared.setup.Setup.{Setup}
use Rattle.usb_pipe.specs.declared.decision.Decision.TheVariants as decision
use Rattle.usb_pipe.specs.declared.call.MscDeviceCall.TheVariants.{Eject, Insert, Protect}
use Rattle.usb_pipe.specs.Own.{Own, Sender, no_sender, no_receiver}
use Rattle.device_pipe.specs.InPipe as inward
use Rattle.usb_edge.specs.Disk.{Shelf}
use Rattle.scsi_core.specs.declared.Unit.{Unit as Disk}
use Rattle.msc_device_machine.specs.Wrapper.{is_good, wrapper_of, status_wrapper}
use Rattle.msc_device_machine.specs.Storage.{decided}
use Rattle.scsi_core.specs.declared.Move.TheVariants as move
use Rattle.msc_device_machine.specs.Story.{Story, here}
use Rattle.msc_device_machine.specs.BlockLaws.{HasDisk, told}
use Rattle.msc_device_machine.specs.Runs.{Turn, Run, Comes, Leaves, HaltsIn, ClearsIn, HaltsOut, ClearsOut, Asks, Calls, Begins, Stops, Works, made, is_armed, is_running, in_of, out_of, after_turns}

-- A device whose rings have 512 bytes, and its disk of two blocks, the first of ones, the second of twos. One call, the one that attached the
-- disk, was made; these calls fail. There is another disk, which no slot has.

abbrev pub ring : Sender
ring = record { size = 64; capacity = 512; pipe = inward.closed }

abbrev pub pipes : Own
pipes = record { sends = ring; receives = record no_receiver { capacity = 512 }; notifies = no_sender }

abbrev pub ones : List ℕ
ones = replicate 512 1

abbrev pub twos : List ℕ
twos = replicate 512 2

abbrev pub shelf_of : List ℕ → ℕ → List ℕ → Shelf
shelf_of bytes calls fails = record {
  disks = record { name = codes "d"; bytes = bytes; slot = Some 0 } ∷ record { name = codes "e"; bytes = ones; slot = Some 1 } ∷ [];
  calls = calls;
  fails = fails;
}

abbrev pub device : List ℕ → Run
device fails = made 2 pipes (shelf_of (ones ++ twos) 1 fails)

-- a task follows each turn
abbrev pub tasked : List Turn → List Turn
tasked [] = []
tasked (turn ∷ turns) = turn ∷ Works ∷ tasked turns

abbrev pub session : List ℕ → List Turn → Run
session fails turns = after_turns (device fails) (tasked (Begins ∷ turns))

-- What a bystander sees: the bytes that are queued for the host, whether they are under way, whether the next packet is taken, and which
-- pipe is halted.
pub record Seen : Type 0 where
  pub queue : List ℕ
  pub runs : Bool
  pub takes : Bool
  pub in_halted : Bool
  pub out_halted : Bool

abbrev pub seen : Run → Seen
seen run = record {
  queue = (in_of run).queue;
  runs = is_running (in_of run).phase;
  takes = is_armed (out_of run).phase;
  in_halted = (in_of run).halted;
  out_halted = (out_of run).halted;
}

abbrev pub Shows : List ℕ → List Turn → Seen → Type 0
Shows fails turns s = seen (session fails turns) ≡ s

-- the disks are so, and the unit
abbrev pub Leaves_ : List ℕ → List Turn → List ℕ → ℕ → Type 0
Leaves_ fails turns bytes calls = (session fails turns).shelf ≡ shelf_of bytes calls fails

abbrev pub unit_of : List ℕ → List Turn → Disk
unit_of fails turns = (session fails turns).storage.unit

-- the next packet is waited for
abbrev pub waits : Seen
waits = record { queue = []; runs = false; takes = true; in_halted = false; out_halted = false }

-- these bytes go to the host
abbrev pub sends : List ℕ → Seen
sends bytes = record { queue = bytes; runs = true; takes = false; in_halted = false; out_halted = false }

-- or wait for the end of the halt; or go while the other pipe is halted
abbrev pub holds : List ℕ → Seen
holds bytes = record { queue = bytes; runs = false; takes = false; in_halted = true; out_halted = false }

abbrev pub sends_beside : List ℕ → Seen
sends_beside bytes = record { queue = bytes; runs = true; takes = false; in_halted = false; out_halted = true }

abbrev pub both_halted : Seen
both_halted = record { queue = []; runs = false; takes = false; in_halted = true; out_halted = true }

-- Wrappers, byte by byte (5.1 and 5.2).

abbrev pub wrapper_bytes : List ℕ → List ℕ → ℕ → ℕ → ℕ → List ℕ → List ℕ
wrapper_bytes tag length flags lun size command =
    (0x55 ∷ 0x53 ∷ 0x42 ∷ 0x43 ∷ []) ++ tag ++ length ++ (flags ∷ lun ∷ size ∷ []) ++ take 16 (command ++ replicate 16 0)

abbrev pub tag : List ℕ
tag = 0xdd ∷ 0xcc ∷ 0xbb ∷ 0xaa ∷ []

-- a command to which the host expects so many bytes, fewer than 65,536, to it or from it
abbrev pub asks_in : ℕ → ℕ → List ℕ → Turn
asks_in low high command = Comes (wrapper_bytes tag (low ∷ high ∷ 0 ∷ 0 ∷ []) 0x80 0 10 command)

abbrev pub asks_out : ℕ → ℕ → List ℕ → Turn
asks_out low high command = Comes (wrapper_bytes tag (low ∷ high ∷ 0 ∷ 0 ∷ []) 0 0 10 command)

abbrev pub csw : ℕ → ℕ → ℕ → List ℕ
csw low high status = (0x55 ∷ 0x53 ∷ 0x42 ∷ 0x53 ∷ 0xdd ∷ 0xcc ∷ 0xbb ∷ 0xaa ∷ []) ++ (low ∷ high ∷ 0 ∷ 0 ∷ []) ++ status ∷ []

-- Commands: TEST UNIT READY, INQUIRY of 36 bytes, READ(10) and WRITE(10) of so many blocks, SYNCHRONIZE CACHE, REQUEST SENSE,
-- PREVENT ALLOW MEDIUM REMOVAL
abbrev pub ready : List ℕ
ready = []

abbrev pub inquiry : List ℕ
inquiry = 0x12 ∷ 0 ∷ 0 ∷ 0 ∷ 36 ∷ []

abbrev pub read : ℕ → ℕ → List ℕ
read lba count = 0x28 ∷ 0 ∷ 0 ∷ 0 ∷ 0 ∷ lba ∷ 0 ∷ 0 ∷ count ∷ []

abbrev pub write : ℕ → ℕ → List ℕ
write lba count = 0x2a ∷ 0 ∷ 0 ∷ 0 ∷ 0 ∷ lba ∷ 0 ∷ 0 ∷ count ∷ []

abbrev pub synchronize : List ℕ
synchronize = 0x35 ∷ []

abbrev pub request_sense : List ℕ
request_sense = 0x03 ∷ 0 ∷ 0 ∷ 0 ∷ 18 ∷ []

abbrev pub prevent : List ℕ
prevent = 0x1e ∷ 0 ∷ 0 ∷ 0 ∷ 1 ∷ []

abbrev pub inquiry_bytes : List ℕ
inquiry_bytes = (0 ∷ 0x80 ∷ 2 ∷ 2 ∷ 31 ∷ 0 ∷ 0 ∷ 0 ∷ []) ++ codes "usbrun  block file      0001"

abbrev pub sense_data : ℕ → ℕ → List ℕ
sense_data key code = 0x70 ∷ 0 ∷ key ∷ 0 ∷ 0 ∷ 0 ∷ 0 ∷ 10 ∷ 0 ∷ 0 ∷ 0 ∷ 0 ∷ code ∷ 0 ∷ 0 ∷ 0 ∷ 0 ∷ 0 ∷ []

-- bmRequestType, bRequest, wValue, wLength
abbrev pub request : ℕ → ℕ → ℕ → ℕ → Setup
request kind number value length = record { request_type = kind; request = number; value = value; index = 0; length = length }

abbrev pub reset : Turn
reset = Asks (request 0x21 0xff 0 0)

-- A wrapper is good with 31 bytes, its signature, unit 0 and 1 to 16 bytes of command (6.2).
abbrev pub good : List ℕ
good = wrapper_bytes tag (0 ∷ 2 ∷ 0 ∷ 0 ∷ []) 0x80 0 6 []

abbrev pub signed : List ℕ → List ℕ
signed signature = signature ++ tag ++ tag ++ (0x80 ∷ 0 ∷ 6 ∷ []) ++ replicate 16 0

pub record Wrappers : Type 0 where
  pub good_is : is_good good ≡ true
  pub longest : is_good (wrapper_bytes tag tag 0x80 0 16 []) ≡ true
  pub shortest : is_good (wrapper_bytes tag tag 0x80 0 1 []) ≡ true
  pub short : is_good (take 30 good) ≡ false
  pub long : is_good (good ++ 0 ∷ []) ≡ false
  pub nothing : is_good [] ≡ false
  pub signature_is : is_good (signed (0x55 ∷ 0x53 ∷ 0x42 ∷ 0x43 ∷ [])) ≡ true
  pub byte_0 : is_good (signed (0x54 ∷ 0x53 ∷ 0x42 ∷ 0x43 ∷ [])) ≡ false
  pub byte_1 : is_good (signed (0x55 ∷ 0x55 ∷ 0x42 ∷ 0x43 ∷ [])) ≡ false
  pub byte_2 : is_good (signed (0x55 ∷ 0x53 ∷ 0x43 ∷ 0x43 ∷ [])) ≡ false
  pub byte_3 : is_good (signed (0x55 ∷ 0x53 ∷ 0x42 ∷ 0x53 ∷ [])) ≡ false
  pub backwards : is_good (signed (0x43 ∷ 0x42 ∷ 0x53 ∷ 0x55 ∷ [])) ≡ false
  pub unit : is_good (wrapper_bytes tag tag 0x80 1 6 []) ≡ false
  pub no_command : is_good (wrapper_bytes tag tag 0x80 0 0 []) ≡ false
  pub long_command : is_good (wrapper_bytes tag tag 0x80 0 17 []) ≡ false
  pub fields :
      wrapper_of (wrapper_bytes tag (1 ∷ 2 ∷ 3 ∷ 4 ∷ []) 0x80 0 6 inquiry)
      ≡ record { tag = 0xaabbccdd; length = 0x04030201; is_in = true; command = inquiry ++ replicate 11 0 }
  pub outward : (wrapper_of (wrapper_bytes tag tag 0x7f 0 6 [])).is_in ≡ false
  pub status : status_wrapper 0xaabbccdd 0x0201 1 ≡ csw 1 2 1
  pub wide : status_wrapper 1 0x04030201 2 ≡ 0x55 ∷ 0x53 ∷ 0x42 ∷ 0x53 ∷ 1 ∷ 0 ∷ 0 ∷ 0 ∷ 1 ∷ 2 ∷ 3 ∷ 4 ∷ 2 ∷ []

-- The thirteen cases (6.7): what is seen after the command, after each transfer, and after the clear that a halt asks for.

-- the host expects nothing (6.7.1)
pub record HostExpectsNothing : Type 0 where
  pub one : Shows [] (asks_in 0 0 ready ∷ []) (sends (csw 0 0 0))
  pub one_fails : Shows [] (asks_in 0 0 (read 2 1) ∷ []) (sends (csw 0 0 1))
  pub two : Shows [] (asks_in 0 0 inquiry ∷ []) (sends (csw 0 0 2))
  pub three : Shows [] (asks_out 0 0 (write 0 1) ∷ []) (sends (csw 0 0 2))
  pub next : Shows [] (asks_in 0 0 ready ∷ Leaves ∷ []) waits

-- it expects data (6.7.2)
pub record HostExpectsData : Type 0 where
  pub four : Shows [] (asks_in 18 0 ready ∷ []) (holds (csw 18 0 0))
  pub four_cleared : Shows [] (asks_in 18 0 ready ∷ ClearsIn ∷ []) (sends (csw 18 0 0))
  pub four_done : Shows [] (asks_in 18 0 ready ∷ ClearsIn ∷ Leaves ∷ []) waits
  pub four_fails : Shows [] (asks_in 0 2 (read 2 1) ∷ []) (holds (csw 0 2 1))
  -- a command with nothing to move has no data
  pub four_empty : Shows [] (asks_in 0 2 (read 0 0) ∷ []) (holds (csw 0 2 0))
  pub five : Shows [] (asks_in 64 0 inquiry ∷ []) (sends inquiry_bytes)
  pub five_sent : Shows [] (asks_in 64 0 inquiry ∷ Leaves ∷ []) (holds (csw 28 0 0))
  pub five_cleared : Shows [] (asks_in 64 0 inquiry ∷ Leaves ∷ ClearsIn ∷ []) (sends (csw 28 0 0))
  pub six : Shows [] (asks_in 36 0 inquiry ∷ []) (sends inquiry_bytes)
  pub six_sent : Shows [] (asks_in 36 0 inquiry ∷ Leaves ∷ []) (sends (csw 0 0 0))
  pub seven : Shows [] (asks_in 18 0 inquiry ∷ []) (holds (csw 18 0 2))
  pub seven_cleared : Shows [] (asks_in 18 0 inquiry ∷ ClearsIn ∷ []) (sends (csw 18 0 2))
  pub eight : Shows [] (asks_in 0 2 (write 0 1) ∷ []) (holds (csw 0 2 2))

-- it sends data (6.7.3)
abbrev pub packets : ℕ → List Turn
packets byte = let p = Comes (replicate 64 byte) in p ∷ p ∷ p ∷ p ∷ p ∷ p ∷ p ∷ p ∷ []

pub record HostSendsData : Type 0 where
  pub nine : Shows [] (asks_out 0 2 ready ∷ []) (sends_beside (csw 0 2 0))
  pub nine_fails : Shows [] (asks_out 0 2 (write 2 1) ∷ []) (sends_beside (csw 0 2 1))
  pub nine_done : Shows [] (asks_out 0 2 ready ∷ Leaves ∷ []) (record waits { takes = false; out_halted = true })
  pub nine_cleared : Shows [] (asks_out 0 2 ready ∷ Leaves ∷ ClearsOut ∷ []) waits
  pub ten : Shows [] (asks_out 36 0 inquiry ∷ []) (sends_beside (csw 36 0 2))
  pub eleven : Shows [] (asks_out 0 4 (write 0 1) ∷ []) waits
  pub eleven_taken : Shows [] (asks_out 0 4 (write 0 1) ∷ packets 7) (sends_beside (csw 0 2 0))
  pub twelve : Shows [] (asks_out 0 2 (write 0 1) ∷ []) waits
  pub twelve_taken : Shows [] (asks_out 0 2 (write 0 1) ∷ packets 7) (sends (csw 0 0 0))
  pub thirteen : Shows [] (asks_out 0 2 (write 0 2) ∷ []) (sends_beside (csw 0 2 2))

-- Reads and writes of blocks.

abbrev pub reads_second : Turn
reads_second = asks_in 0 2 (read 1 1)

pub record Reads : Type 0 where
  -- one block of the two that the host expects
  pub first_block : Shows [] (asks_in 0 4 (read 0 1) ∷ []) (sends ones)
  pub then_halts : Shows [] (asks_in 0 4 (read 0 1) ∷ Leaves ∷ []) (holds (csw 0 2 0))
  pub then_cleared : Shows [] (asks_in 0 4 (read 0 1) ∷ Leaves ∷ ClearsIn ∷ []) (sends (csw 0 2 0))
  -- both blocks, one by one
  pub both_first : Shows [] (asks_in 0 4 (read 0 2) ∷ []) (sends ones)
  pub both_second : Shows [] (asks_in 0 4 (read 0 2) ∷ Leaves ∷ []) (sends twos)
  pub both_told : Shows [] (asks_in 0 4 (read 0 2) ∷ Leaves ∷ Leaves ∷ []) (sends (csw 0 0 0))
  pub both_calls : Leaves_ [] (asks_in 0 4 (read 0 2) ∷ Leaves ∷ Leaves ∷ Leaves ∷ []) (ones ++ twos) 3
  -- past the end: no call, and the sense 5/21
  pub past : Shows [] (asks_in 0 2 (read 2 1) ∷ ClearsIn ∷ Leaves ∷ asks_in 18 0 request_sense ∷ []) (sends (sense_data 5 0x21))
  pub past_told : Shows [] (asks_in 0 2 (read 2 1) ∷ ClearsIn ∷ Leaves ∷ asks_in 18 0 request_sense ∷ Leaves ∷ []) (sends (csw 0 0 0))
  pub past_calls : Leaves_ [] (asks_in 0 2 (read 2 1) ∷ ClearsIn ∷ []) (ones ++ twos) 1

-- a disk call that fails: the first block's, then the second's
pub record ReadFaults : Type 0 where
  pub first_ : Shows (2 ∷ []) (reads_second ∷ []) (holds (csw 0 2 1))
  pub first_sense : Shows (2 ∷ []) (reads_second ∷ ClearsIn ∷ Leaves ∷ asks_in 18 0 request_sense ∷ []) (sends (sense_data 3 0x11))
  pub first_again :
      Shows (2 ∷ []) (reads_second ∷ ClearsIn ∷ Leaves ∷ asks_in 18 0 request_sense ∷ Leaves ∷ Leaves ∷ reads_second ∷ []) (sends twos)
  pub second : Shows (3 ∷ []) (asks_in 0 4 (read 0 2) ∷ Leaves ∷ []) (holds (csw 0 2 1))
  pub second_calls : Leaves_ (3 ∷ []) (asks_in 0 4 (read 0 2) ∷ Leaves ∷ ClearsIn ∷ []) (ones ++ twos) 3
  -- more is expected than the two blocks have: what wasn't sent isn't counted
  pub second_of_more : Shows (3 ∷ []) (asks_in 0 6 (read 0 2) ∷ Leaves ∷ []) (holds (csw 0 4 1))

abbrev pub odd : ℕ → ℕ → Turn
odd n byte = Comes (replicate n byte)

-- 512 bytes in packets of 50: ten of them, and one of twelve
abbrev pub odd_packets : List Turn
odd_packets = let p = odd 50 7 in p ∷ p ∷ p ∷ p ∷ p ∷ p ∷ p ∷ p ∷ p ∷ p ∷ []

abbrev pub joined : List Turn → List Turn → List Turn
joined [] more = more
joined (turn ∷ turns) more = turn ∷ joined turns more

abbrev pub writes_one : List Turn → List Turn
writes_one more = asks_out 0 2 (write 1 1) ∷ more

abbrev pub writes_both : List Turn → List Turn
writes_both more = asks_out 0 4 (write 0 2) ∷ more

abbrev pub sevens : List ℕ
sevens = replicate 512 7

abbrev pub eights : List ℕ
eights = replicate 512 8

pub record Writes : Type 0 where
  -- nothing is written before the 512th byte
  pub seven_packets : Leaves_ [] (writes_one (let p = odd 64 7 in p ∷ p ∷ p ∷ p ∷ p ∷ p ∷ p ∷ odd 63 7 ∷ [])) (ones ++ twos) 1
  pub still_waits : Shows [] (writes_one (let p = odd 64 7 in p ∷ p ∷ p ∷ p ∷ p ∷ p ∷ p ∷ odd 63 7 ∷ [])) waits
  pub one : Leaves_ [] (writes_one (packets 7)) (ones ++ sevens) 2
  pub one_told : Shows [] (writes_one (packets 7)) (sends (csw 0 0 0))
  pub half : Leaves_ [] (writes_both (packets 7)) (sevens ++ twos) 2
  pub half_waits : Shows [] (writes_both (packets 7)) waits
  pub both : Leaves_ [] (writes_both (joined (packets 7) (packets 8))) (sevens ++ eights) 3
  pub both_told : Shows [] (writes_both (joined (packets 7) (packets 8))) (sends (csw 0 0 0))
  -- a packet of no bytes changes nothing
  pub empty : Leaves_ [] (writes_one (Comes [] ∷ packets 7)) (ones ++ sevens) 2
  -- packets of 50 bytes, of which the last has what is left; and two blocks, the eleventh packet having bytes of both
  pub odd_one : Leaves_ [] (writes_one (joined odd_packets (odd 12 8 ∷ []))) (ones ++ replicate 500 7 ++ replicate 12 8) 2
  pub odd_one_told : Shows [] (writes_one (joined odd_packets (odd 12 8 ∷ []))) (sends (csw 0 0 0))
  pub odd_both :
      Leaves_ [] (writes_both (joined odd_packets (odd 50 8 ∷ joined (let p = odd 50 9 in p ∷ p ∷ p ∷ p ∷ p ∷ p ∷ p ∷ p ∷ p ∷ []) (odd 24 6 ∷ []))))
      (replicate 500 7 ++ replicate 50 8 ++ replicate 450 9 ++ replicate 24 6) 3
  -- bytes past the end of the last block are dropped
  pub over : Leaves_ [] (writes_one (joined odd_packets (odd 50 8 ∷ []))) (ones ++ replicate 500 7 ++ replicate 12 8) 2
  pub over_told : Shows [] (writes_one (joined odd_packets (odd 50 8 ∷ []))) (sends (csw 0 0 2))

-- a disk call that fails
pub record WriteFaults : Type 0 where
  pub one : Shows (2 ∷ []) (writes_one (packets 7)) (sends (csw 0 0 1))
  pub one_left : Leaves_ (2 ∷ []) (writes_one (packets 7)) (ones ++ twos) 2
  pub one_sense : Shows (2 ∷ []) (writes_one (joined (packets 7) (Leaves ∷ asks_in 18 0 request_sense ∷ []))) (sends (sense_data 3 0x0c))
  -- the first of two: the host's second block is due, so its pipe is halted
  pub first_ : Shows (2 ∷ []) (writes_both (packets 7)) (sends_beside (csw 0 2 1))
  pub second : Shows (3 ∷ []) (writes_both (joined (packets 7) (packets 8))) (sends (csw 0 0 1))
  pub second_left : Leaves_ (3 ∷ []) (writes_both (joined (packets 7) (packets 8))) (sevens ++ twos) 3
  -- the count stops at the 512th byte, also where its packet has more: 1024 less 512
  pub odd_first : Shows (2 ∷ []) (writes_both (joined odd_packets (odd 50 8 ∷ []))) (sends_beside (csw 0 2 1))
  -- with bytes past the end the status is 2
  pub over : Shows (2 ∷ []) (writes_one (joined odd_packets (odd 50 8 ∷ []))) (sends (csw 0 0 2))
  pub over_left : Leaves_ (2 ∷ []) (writes_one (joined odd_packets (odd 50 8 ∷ []))) (ones ++ twos) 2
  -- more is sent than the block: its pipe is halted too
  pub over_more : Shows (2 ∷ []) (asks_out 0 4 (write 1 1) ∷ joined odd_packets (odd 50 8 ∷ [])) (sends_beside (csw 0 2 2))

pub record Synchronizes : Type 0 where
  pub done : Shows [] (asks_in 0 0 synchronize ∷ []) (sends (csw 0 0 0))
  pub calls : Leaves_ [] (asks_in 0 0 synchronize ∷ []) (ones ++ twos) 2
  pub fails : Shows (2 ∷ []) (asks_in 0 0 synchronize ∷ []) (sends (csw 0 0 1))
  pub fails_sense : Shows (2 ∷ []) (asks_in 0 0 synchronize ∷ Leaves ∷ asks_in 18 0 request_sense ∷ []) (sends (sense_data 3 0x0c))
  -- it moves nothing, so bytes that the host expects are due
  pub expected : Shows [] (asks_in 5 0 synchronize ∷ []) (holds (csw 5 0 0))
  pub sent : Shows (2 ∷ []) (asks_out 5 0 synchronize ∷ []) (sends_beside (csw 5 0 1))

-- In a phase error the disk isn't asked, and what else the command does stands.
pub record PhaseErrors : Type 0 where
  pub reads : Leaves_ [] (asks_in 0 0 (read 0 1) ∷ Leaves ∷ asks_in 0 2 (read 0 2) ∷ []) (ones ++ twos) 1
  pub writes : Leaves_ [] (asks_in 0 2 (write 0 1) ∷ ClearsIn ∷ Leaves ∷ asks_out 0 2 (write 0 2) ∷ []) (ones ++ twos) 1
  pub sense_ends : unit_of [] (asks_in 0 2 (read 2 1) ∷ ClearsIn ∷ Leaves ∷ asks_in 4 0 request_sense ∷ []) ≡ unit_of [] []
  pub sense_status : Shows [] (asks_in 0 2 (read 2 1) ∷ ClearsIn ∷ Leaves ∷ asks_in 4 0 request_sense ∷ []) (holds (csw 4 0 2))

-- Clears and halts.
pub record Clears : Type 0 where
  -- a block that is under way counts as sent: the next one follows, or the status
  pub first_block : Shows [] (asks_in 0 4 (read 0 2) ∷ ClearsIn ∷ []) (sends twos)
  pub last_block : Shows [] (asks_in 0 4 (read 0 2) ∷ Leaves ∷ ClearsIn ∷ []) (sends (csw 0 0 0))
  -- after the last one of a short read the pipe is halted again
  pub short_read : Shows [] (asks_in 0 4 (read 0 1) ∷ ClearsIn ∷ []) (holds (csw 0 2 0))
  -- a transfer that ended in the same task isn't counted twice
  pub both_notes :
      seen (after_turns (session [] (asks_in 0 4 (read 0 2) ∷ [])) (Leaves ∷ ClearsIn ∷ Works ∷ [])) ≡ sends twos
  -- a status wrapper that is under way counts as sent
  pub status : Shows [] (asks_in 0 0 ready ∷ ClearsIn ∷ []) waits
  -- one that waits isn't
  pub halted_status : Shows [] (HaltsIn ∷ asks_in 0 0 ready ∷ []) (holds (csw 0 0 0))
  pub status_starts : Shows [] (HaltsIn ∷ asks_in 0 0 ready ∷ ClearsIn ∷ []) (sends (csw 0 0 0))
  pub halted_block : Shows [] (HaltsIn ∷ asks_in 0 4 (read 0 2) ∷ []) (holds ones)
  pub block_starts : Shows [] (HaltsIn ∷ asks_in 0 4 (read 0 2) ∷ ClearsIn ∷ []) (sends ones)
  -- where nothing is under way a clear changes nothing, nor does one of the other pipe
  pub resting : Shows [] (ClearsIn ∷ ClearsOut ∷ []) waits
  pub other_pipe : Shows [] (asks_in 0 4 (read 0 2) ∷ ClearsOut ∷ []) (sends ones)
  pub receiving : Shows [] (writes_one (ClearsIn ∷ ClearsOut ∷ [])) waits
  -- a packet that came before its pipe was halted is taken
  pub came_before : seen (after_turns (session [] []) (asks_in 0 0 ready ∷ HaltsOut ∷ Works ∷ [])) ≡ sends_beside (csw 0 0 0)
  -- a pipe that the host halted takes the next packet from the task on that clears it
  pub halted_out : Shows [] (asks_in 0 0 ready ∷ HaltsOut ∷ Leaves ∷ []) (record waits { takes = false; out_halted = true })
  pub cleared_out : Shows [] (asks_in 0 0 ready ∷ HaltsOut ∷ Leaves ∷ ClearsOut ∷ []) waits

-- A wrapper that isn't good halts both pipes until a reset (6.6.1 and 5.3.4), which leaves the halts (3.1).
abbrev pub zeros : Turn
zeros = Comes (replicate 30 0)

pub record Resets : Type 0 where
  pub broken : Shows [] (zeros ∷ []) both_halted
  pub empty : Shows [] (Comes [] ∷ []) both_halted
  pub broken_again : Shows [] (zeros ∷ ClearsIn ∷ []) both_halted
  pub broken_both : Shows [] (zeros ∷ ClearsIn ∷ ClearsOut ∷ []) both_halted
  pub reset_halted : Shows [] (zeros ∷ ClearsIn ∷ reset ∷ []) both_halted
  pub reset_in : Shows [] (zeros ∷ reset ∷ ClearsIn ∷ []) (record waits { takes = false; out_halted = true })
  pub reset_both : Shows [] (zeros ∷ reset ∷ ClearsIn ∷ ClearsOut ∷ []) waits
  pub reset_reads : Shows [] (zeros ∷ reset ∷ ClearsIn ∷ ClearsOut ∷ reads_second ∷ []) (sends twos)
  -- data, bytes that were gathered and a status that waits are dropped
  pub drops_data : Shows [] (asks_in 0 4 (read 0 2) ∷ reset ∷ []) waits
  pub drops_bytes : Shows [] (writes_one (odd 64 7 ∷ reset ∷ reads_second ∷ [])) (sends twos)
  pub drops_gathered : Leaves_ [] (writes_one (odd 64 7 ∷ reset ∷ writes_one (packets 8))) (ones ++ eights) 2
  pub drops_status : Shows [] (asks_in 18 0 ready ∷ reset ∷ []) (record waits { in_halted = true })
  pub drops_status_cleared : Shows [] (asks_in 18 0 ready ∷ reset ∷ ClearsIn ∷ []) waits
  -- and a packet that came in the same task
  pub drops_packet : seen (after_turns (session [] []) (reads_second ∷ reset ∷ Works ∷ [])) ≡ waits
  pub keeps_sense : unit_of [] (asks_in 0 2 (read 2 1) ∷ reset ∷ []) ≡ record (unit_of [] []) { sense = record { key = 5; asc = 0x21; ascq = 0 } }

-- Requests (3.1 and 3.2).
pub record Requests : Type 0 where
  pub reset_ : decided (request 0x21 0xff 0 0) ≡ decision.Status
  pub reset_value : decided (request 0x21 0xff 1 0) ≡ decision.Stall
  pub reset_length : decided (request 0x21 0xff 0 1) ≡ decision.Stall
  pub reset_inward : decided (request 0xa1 0xff 0 0) ≡ decision.Stall
  pub max_lun : decided (request 0xa1 0xfe 0 1) ≡ decision.Data (record { items = 0 ∷ [] })
  pub max_lun_value : decided (request 0xa1 0xfe 1 1) ≡ decision.Stall
  pub max_lun_outward : decided (request 0x21 0xfe 0 1) ≡ decision.Stall
  pub other : decided (request 0x21 0x00 0 0) ≡ decision.Stall
  -- one that is refused resets nothing
  pub refused : Shows [] (asks_in 0 4 (read 0 2) ∷ Asks (request 0x21 0xff 1 0) ∷ []) (sends ones)

-- Sessions, and what a user does to the medium.
abbrev pub unit : Disk
unit = record { blocks = 2; present = true; protected = false; prevented = false; attention = false; sense = record { key = 0; asc = 0; ascq = 0 } }

abbrev pub absent : ℕ → Run
absent blocks = after_turns (made blocks pipes (shelf_of [] 1 [])) (tasked (Begins ∷ []))

pub record Sessions : Type 0 where
  pub starts : unit_of [] [] ≡ unit
  pub prevented : unit_of [] (asks_in 0 0 prevent ∷ []) ≡ record unit { prevented = true }
  -- the end of a session leaves what the host set; the next one begins without it
  pub stopped : unit_of [] (asks_in 0 0 prevent ∷ Stops ∷ []) ≡ record unit { prevented = true }
  pub anew : unit_of [] (asks_in 0 0 prevent ∷ Stops ∷ Begins ∷ []) ≡ unit
  pub sense_anew : unit_of [] (asks_in 0 0 (read 2 1) ∷ Begins ∷ []) ≡ unit
  pub outlive : unit_of [] (Calls Insert ∷ Calls (Protect true) ∷ Calls Eject ∷ Stops ∷ Begins ∷ []) ≡ record unit { present = false; protected = true; attention = true }
  pub drops : Shows [] (asks_in 0 4 (read 0 2) ∷ Stops ∷ Begins ∷ []) waits
  pub drops_gathered : Leaves_ [] (writes_one (odd 64 7 ∷ Begins ∷ writes_one (packets 8))) (ones ++ eights) 2
  pub mends : Shows [] (zeros ∷ Begins ∷ []) waits

pub record Medium : Type 0 where
  pub eject : unit_of [] (Calls Eject ∷ []) ≡ record unit { present = false }
  pub insert : unit_of [] (Calls Eject ∷ Calls Insert ∷ []) ≡ record unit { attention = true }
  pub insert_present : unit_of [] (Calls Insert ∷ []) ≡ record unit { attention = true }
  pub protect : unit_of [] (Calls (Protect true) ∷ []) ≡ record unit { protected = true }
  pub unprotect : unit_of [] (Calls (Protect true) ∷ Calls (Protect false) ∷ []) ≡ unit
  -- a user may take out what the host would keep in
  pub eject_prevented : unit_of [] (asks_in 0 0 prevent ∷ Calls Eject ∷ []) ≡ record unit { present = false; prevented = true }
  -- without a disk there is none to put in
  pub none : (absent 0).storage.unit ≡ record unit { blocks = 0; present = false }
  pub insert_none : (after_turns (absent 0) (Calls Insert ∷ [])).storage.unit ≡ record unit { blocks = 0; present = false }
  -- the host is told of each, and the attention ends
  pub absent_told : Shows [] (Calls Eject ∷ asks_in 0 2 (read 0 1) ∷ ClearsIn ∷ Leaves ∷ asks_in 18 0 request_sense ∷ []) (sends (sense_data 2 0x3a))
  pub changed_told : Shows [] (Calls Insert ∷ asks_in 0 2 (read 0 1) ∷ ClearsIn ∷ Leaves ∷ asks_in 18 0 request_sense ∷ []) (sends (sense_data 6 0x28))
  pub told_once : Shows [] (Calls Insert ∷ asks_in 0 2 (read 0 1) ∷ ClearsIn ∷ Leaves ∷ asks_in 0 2 (read 0 1) ∷ []) (sends ones)
  pub protected_told : Shows [] (Calls (Protect true) ∷ writes_one (ClearsOut ∷ Leaves ∷ asks_in 18 0 request_sense ∷ [])) (sends (sense_data 7 0x27))
  -- an eject in the middle doesn't stop a command
  pub middle : Shows [] (asks_in 0 4 (read 0 2) ∷ Calls Eject ∷ Leaves ∷ []) (sends twos)

-- What is kept of a command (specs/Story), worked out for a write and for a read that the disk stops.
abbrev pub story : List ℕ → List Turn → Story
story fails turns = told 2 pipes (shelf_of (ones ++ twos) 1 fails) (tasked (Begins ∷ turns))

pub record Stories : Type 0 where
  pub disk : HasDisk 2 pipes (shelf_of (ones ++ twos) 1 [])
  pub writes : (story [] (writes_one (packets 7))).wants ≡ move.Write 1 1
  pub came : (story [] (writes_one (packets 7))).came ≡ sevens
  pub status : (story [] (writes_one (packets 7))).status ≡ csw 0 0 0
  pub before : here (story [] (writes_one (packets 7))).before ≡ ones ++ twos
  pub wrapper : (story [] (writes_one (packets 7))).wrapper.tag ≡ 0xaabbccdd
  pub reads : (story (3 ∷ []) (asks_in 0 4 (read 0 2) ∷ Leaves ∷ [])).wants ≡ move.Read 0 2
  pub went : (story (3 ∷ []) (asks_in 0 4 (read 0 2) ∷ Leaves ∷ [])).went ≡ ones
  pub failed : (story (3 ∷ []) (asks_in 0 4 (read 0 2) ∷ Leaves ∷ [])).failed ≡ true
  pub read_status : (story (3 ∷ []) (asks_in 0 4 (read 0 2) ∷ Leaves ∷ [])).status ≡ csw 0 2 1
  -- a command takes the place of the one before it
  pub next : (story [] (writes_one (joined (packets 7) (Leaves ∷ asks_in 0 0 ready ∷ [])))).came ≡ []
