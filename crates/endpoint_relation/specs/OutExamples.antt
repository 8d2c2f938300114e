-- Words of the registers of OUT endpoints, worked out from the bits of RM0090's OTG_DOEPCTLx, OTG_DOEPTSIZx and OTG_DOEPINTx.
use Rattle.std.specs.Prelude.{◌≡◌, ℕ, suc, ◌≤◌, true, false, [], ◌∷◌}
use Rattle.usb_packet.specs.declared.bus.Toggle.{Toggle}
use Rattle.usb_packet.specs.declared.bus.Toggle.TheVariants.{D0, D1}
use Rattle.usb_packet.specs.declared.bus.BusEvent.{BusEvent}
use Rattle.usb_packet.specs.declared.bus.BusEvent.TheVariants as event
use Rattle.usb_packet.specs.declared.bus.BusAnswer.TheVariants as answers
use Rattle.usb_packet.specs.declared.bus.Owner.TheVariants.{Core, Cdc}
use Rattle.usb_descriptor.specs.declared.endpoint.Endpoint.{Endpoint}
use Rattle.usb_descriptor.specs.declared.endpoint.EpKind.TheVariants.{Bulk, Interrupt}
use Rattle.dwc2_regs.specs.declared.access.TheConstants.{FS4}
use Rattle.dwc2_regs.specs.Register.{doepctl, doepint, doeptsiz, grxstsp, gintsts}
use Rattle.device_table.specs.State.{Table, opened}
use Rattle.device_table.specs.Words.{transfer_size, packet_count}
use Rattle.device_table.specs.Read.{value_read}
use Rattle.device_table.specs.Write.{after_write}
use Rattle.device_table.specs.Bus.{after_landing, after_bus, bus_answer, out_entries}
use Rattle.endpoint_relation.specs.declared.out_.OutState.TheVariants.{Rest}
use Rattle.endpoint_relation.specs.declared.out_.OutEndpoint.{OutEndpoint}
use Rattle.endpoint_relation.specs.OutWords.{base, stall_if, arm_word, data0_word, open_word, close_word, one_packet, moved_bits, closed_bits, all_bits}
use Rattle.endpoint_relation.specs.OutRelation.{not_open}
use Rattle.endpoint_relation.specs.OutTable.{open_writes, arm_writes, halt_writes, clear_writes, close_writes, reads_landed, packet_popped}

abbrev pub bulk_endpoint : Endpoint
bulk_endpoint = record { addr = 1; kind = Bulk; size = 64; owner = Core }

abbrev pub class_endpoint : Endpoint
class_endpoint = record bulk_endpoint { owner = Cdc }

abbrev pub interrupt_endpoint : Endpoint
interrupt_endpoint = record { addr = 2; kind = Interrupt; size = 8; owner = Core }

abbrev pub at_rest : Endpoint → OutEndpoint
at_rest endpoint = record { endpoint = endpoint; state = Rest; halted = false; over = false }

pub record OutWordsWorked : Type 0 where
  pub bulk : base (at_rest bulk_endpoint) ≡ 0x00088040
  pub interrupt : base (at_rest interrupt_endpoint) ≡ 0x000c8008
  pub stall : stall_if true ≡ 0x00200000
  pub arms : arm_word (at_rest bulk_endpoint) ≡ 0x84088040
  pub clears : data0_word (at_rest bulk_endpoint) ≡ 0x10088040
  pub opens : open_word (at_rest interrupt_endpoint) ≡ 0x180c8008
  pub closes : close_word ≡ 0x48000000
  pub size : one_packet 64 ≡ 0x00080040
  pub moved : moved_bits ≡ 0x1
  pub closed : closed_bits ≡ 0x3
  pub all : all_bits ≡ 0xb

-- a transfer is one packet of the endpoint's size
pub record OutSizeSays (n size : ℕ) : Type 0 where
  pub bytes : transfer_size (suc n) (one_packet size) ≡ size
  pub packets : packet_count (suc n) (one_packet size) ≡ 1

abbrev pub OutSizesSay : Type 0
OutSizesSay = (n size : ℕ) → size ≤ 64 → OutSizeSays n size

-- endpoint 1 is opened and armed, and a packet of three bytes lands
abbrev pub with_open : Table
with_open = open_writes (opened FS4) 1 (not_open false) bulk_endpoint

abbrev pub with_armed : Table
with_armed = arm_writes with_open 1 (at_rest bulk_endpoint)

abbrev pub with_landed : Table
with_landed = after_landing with_armed 1 D0 (1 ∷ 2 ∷ 3 ∷ [])

pub record OutRegistersWorked : Type 0 where
  -- it answers NAK: NAKSTS is bit 17
  pub opened : value_read with_open (doepctl 1) ≡ 0x000a8040
  pub armed : value_read with_armed (doepctl 1) ≡ 0x80088040
  pub size : value_read with_armed (doeptsiz 1) ≡ 0x00080040
  pub nothing_landed : reads_landed with_armed 1 ≡ false
  pub landed : value_read with_landed (doepctl 1) ≡ 0x000a8040
  pub some_landed : reads_landed with_landed 1 ≡ true
  pub status : value_read with_landed grxstsp ≡ 0x00040031
  -- one word is read; then there is no entry and no interrupt left
  pub served : value_read (packet_popped with_landed 1 1) grxstsp ≡ 0
  pub quiet : value_read (packet_popped with_landed 1 1) (doepint 1) ≡ 0
  -- a clear leaves NAKSTS, and so does a close
  pub cleared : value_read (clear_writes with_landed 1 (at_rest bulk_endpoint)) (doepctl 1) ≡ 0x000a8040
  pub closed : value_read (close_writes with_landed 1) (doepctl 1) ≡ 0x00020000
  pub none : value_read (close_writes with_landed 1) (doepint 1) ≡ 0
  -- a class's endpoint shows its halt by STALL, bit 21, and keeps all else; the core's shows nothing
  pub halted : value_read (halt_writes with_open 1 (at_rest class_endpoint)) (doepctl 1) ≡ 0x002a8040
  pub core_halt : value_read (halt_writes with_open 1 (at_rest bulk_endpoint)) (doepctl 1) ≡ 0x000a8040

-- An awake device with endpoint 1 open, at address 0: a packet gets NAK until the endpoint is armed; then one of DATA1 is
-- acknowledged and dropped, and one of DATA0 lands. It gets NAK where it comes again, also once a handler run moved it; once the
-- endpoint is armed again it is acknowledged and dropped, and the next one lands (8.6.2 and 8.6.4).
abbrev pub awake : Table
awake = after_write (after_bus (opened FS4) event.Reset) gintsts 0x3000

abbrev pub packet_at : ℕ → Toggle → BusEvent
packet_at number toggle = event.Out 0 number toggle (1 ∷ 2 ∷ 3 ∷ []) true

abbrev pub at_open : Table
at_open = open_writes awake 1 (not_open false) bulk_endpoint

abbrev pub at_armed : Table
at_armed = arm_writes at_open 1 (at_rest bulk_endpoint)

abbrev pub at_landed : Table
at_landed = after_bus at_armed (packet_at 1 D0)

abbrev pub at_moved : Table
at_moved = packet_popped at_landed 1 1

abbrev pub at_armed_again : Table
at_armed_again = arm_writes at_moved 1 (at_rest bulk_endpoint)

-- a packet of nine bytes for an endpoint of eight
abbrev pub too_long : BusEvent
too_long = event.Out 0 2 D0 (1 ∷ 2 ∷ 3 ∷ 4 ∷ 5 ∷ 6 ∷ 7 ∷ 8 ∷ 9 ∷ []) true

pub record OutAnswersWorked : Type 0 where
  pub asleep : bus_answer (open_writes (opened FS4) 1 (not_open false) bulk_endpoint) (packet_at 1 D0) ≡ answers.NoAnswer
  pub unopened : bus_answer awake (packet_at 1 D0) ≡ answers.NoAnswer
  pub rests : bus_answer at_open (packet_at 1 D0) ≡ answers.Nak
  pub other : bus_answer at_armed (packet_at 1 D1) ≡ answers.Ack
  pub other_dropped : after_bus at_armed (packet_at 1 D1) ≡ at_armed
  pub lands : bus_answer at_armed (packet_at 1 D0) ≡ answers.Ack
  pub again : bus_answer at_landed (packet_at 1 D0) ≡ answers.Nak
  pub moved : bus_answer at_moved (packet_at 1 D0) ≡ answers.Nak
  pub repeated : bus_answer at_armed_again (packet_at 1 D0) ≡ answers.Ack
  pub repeated_dropped : after_bus at_armed_again (packet_at 1 D0) ≡ at_armed_again
  pub next : bus_answer at_armed_again (packet_at 1 D1) ≡ answers.Ack
  pub next_lands : (after_bus at_armed_again (packet_at 1 D1)).rx.entries ≡ out_entries 1 D1 (1 ∷ 2 ∷ 3 ∷ [])
  pub stall : bus_answer (after_write at_armed (doepctl 1) 0x00288040) (packet_at 1 D0) ≡ answers.Stall
  -- the halt of an endpoint of the core isn't shown
  pub core : bus_answer (halt_writes at_open 1 (at_rest bulk_endpoint)) (packet_at 1 D0) ≡ answers.Nak
  pub long : bus_answer (open_writes awake 2 (not_open false) interrupt_endpoint) too_long ≡ answers.NoAnswer
  pub closed : bus_answer (close_writes at_landed 1) (packet_at 1 D1) ≡ answers.NoAnswer
