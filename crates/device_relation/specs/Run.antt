-- What a handler run and each call of the driver do to the registers and to what it keeps.
use Rattle.std.specs.Prelude.{ℕ, zero, suc, ◌+◌, ◌*◌, ◌^◌, ◌==◌, Bool, true, false, if◌then◌else◌, List, [], ◌∷◌, ◌++◌, length, take, min, max, Option, Some, None}
use Rattle.dwc2_regs.specs.declared.access.Profile.{Profile}
use Rattle.usb_descriptor.specs.declared.endpoint.Endpoint.{Endpoint}
use Rattle.usb_ring.specs.Ring.{Ring, appended, without_first, room}
use Rattle.device_machine.specs.declared.control.Stage.TheVariants.{Sent, Came}
use Rattle.dwc2_regs.specs.declared.bits.Field.{Field}
use Rattle.dwc2_regs.specs.declared.TheConstants.{GRSTCTL_TXFFLSH, GRSTCTL_TXFNUM, DIEPCTL_STALL, DIEPCTL_CNAK, DIEPCTL_SNAK, DIEPCTL_EPDIS, DIEPCTL_EPENA, DIEPINT_XFRC}
use Rattle.dwc2_regs.specs.declared.TheConstants.{DIEPINT_EPDISD, DOEPINT_XFRC, DOEPINT_EPDISD, DOEPINT_STUP, GINTSTS_USBRST, GINTSTS_ENUMDNE, GRXSTSP_BYTES}
use Rattle.dwc2_regs.specs.declared.TheConstants.{DOEPTSIZ0_COUNT, DOEPTSIZ0_STUPCNT}
use Rattle.dwc2_regs.specs.Field.{field_of}
use Rattle.dwc2_regs.specs.Register.{grstctl, gintsts, grxstsp, dcfg, diepctl, diepint, dieptsiz, doepctl, doepint, doeptsiz, fifo}
use Rattle.dwc2_fifo.specs.Words.{word_count, words_of, bytes_in}
use Rattle.dwc2_fifo.specs.Rx.{first_word, words_behind}
use Rattle.device_table.specs.State.{Table, InEnd, OutEnd, in_end, out_end, with_in, with_out}
use Rattle.device_table.specs.Words.{flag, out_data, setup_data, kind_of, number_of}
use Rattle.device_table.specs.Read.{value_read, after_read}
use Rattle.device_table.specs.Write.{after_write}
use Rattle.device_relation.specs.declared.software.Ready.{Ready}
use Rattle.device_relation.specs.declared.software.Ready.TheVariants as ready
use Rattle.device_relation.specs.declared.software.Heard.{Heard}
use Rattle.device_relation.specs.declared.software.Heard.TheVariants as heard
use Rattle.device_rings.specs.Rings.{Rings, out_ring, in_ring, with_out_ring, with_in_ring, emptied, all_emptied}
use Rattle.endpoint_relation.specs.declared.out_.OutEndpoint.{OutEndpoint}
use Rattle.endpoint_relation.specs.OutSteps.{moved, noted, armed_end, armed, halted, halted_end, cleared, cleared_end, opened, opened_end, closed, closed_end}
use Rattle.endpoint_relation.specs.declared.in_.InState.TheVariants.{Rest}
use Rattle.endpoint_relation.specs.declared.in_.InEndpoint.{InEndpoint}
use Rattle.endpoint_relation.specs.InRelation.{InJoint}
use Rattle.endpoint_relation.specs.InSteps.{in_served, in_noted, software_started, in_halted, in_cleared, in_dropped, in_opened, in_closed}
use Rattle.endpoint_relation.specs.InTable.{with_flushed}
use Rattle.device_relation.specs.Software.{Joint, unused, out_kept, in_kept, with_out_kept, with_in_kept}
use Rattle.device_relation.specs.Relation.{was_packet, one_packet}
use Rattle.device_relation.specs.PipeRelation.{in_joint}

-- the word in which these bits alone are 1
abbrev pub ones : List Field → ℕ
ones [] = 0
ones (field ∷ fields) = 2 ^ field.low + ones fields

-- Words of the control registers, of which DIEPCTLx and DOEPCTLx have these bits in common.

abbrev pub snak_epdis : ℕ
snak_epdis = ones (DIEPCTL_SNAK ∷ DIEPCTL_EPDIS ∷ [])

abbrev pub snak_epena : ℕ
snak_epena = ones (DIEPCTL_SNAK ∷ DIEPCTL_EPENA ∷ [])

abbrev pub cnak : ℕ
cnak = ones (DIEPCTL_CNAK ∷ [])

abbrev pub epena_cnak : ℕ
epena_cnak = ones (DIEPCTL_EPENA ∷ DIEPCTL_CNAK ∷ [])

abbrev pub stall : ℕ
stall = ones (DIEPCTL_STALL ∷ [])

-- bits of DIEPINTx and DOEPINTx, and of GINTSTS
abbrev pub xfrc : ℕ
xfrc = ones (DIEPINT_XFRC ∷ [])

abbrev pub all_in_interrupts : ℕ
all_in_interrupts = ones (DIEPINT_XFRC ∷ DIEPINT_EPDISD ∷ [])

abbrev pub all_out_interrupts : ℕ
all_out_interrupts = ones (DOEPINT_XFRC ∷ DOEPINT_EPDISD ∷ DOEPINT_STUP ∷ [])

abbrev pub reset_bits : ℕ
reset_bits = ones (GINTSTS_USBRST ∷ GINTSTS_ENUMDNE ∷ [])

-- GRSTCTL's TXFFLSH for all FIFOs, whose number is 16
abbrev pub flush_all : ℕ
flush_all = ones (GRSTCTL_TXFFLSH ∷ []) + 16 * 2 ^ GRSTCTL_TXFNUM.low

-- DCFG with an address in bits 10 to 4
abbrev pub address_word : ℕ → ℕ
address_word address = 2 ^ 4 * address

abbrev pub with_table : Joint → Table → Joint
with_table j t = record j { table = t }

-- The receive FIFO.

-- the words that so many reads of window 0 give, and what they leave
abbrev pub words_read : ℕ → List ℕ → List ℕ
words_read zero left = []
words_read (suc n) left = first_word left ∷ words_read n (words_behind left)

abbrev pub after_words : ℕ → Table → Table
after_words zero t = t
after_words (suc n) t = after_words n (after_read t (fifo zero))

-- the bytes of a packet, at most 64, and of a SETUP
abbrev pub byte_count : ℕ → ℕ
byte_count status = min (field_of status GRXSTSP_BYTES) 64

abbrev pub bytes_read : ℕ → Table → List ℕ
bytes_read bytes t = take bytes (bytes_in (words_read (word_count bytes) t.rx.left))

abbrev pub packet_taken : Joint → ℕ → Joint
packet_taken j bytes = record {
  table = after_words (word_count bytes) j.table;
  software = record j.software { side = ready.Off; heard = heard.Packet; finished = Some (Came (bytes_read bytes j.table)) };
}

abbrev pub setup_taken : Joint → Joint
setup_taken j = record { table = after_words 2 j.table; software = record j.software { request = Some (bytes_read 8 j.table) } }

-- at the end of a SETUP both directions of endpoint 0 are disabled, and what was ready is forgotten
abbrev pub setup_ended : Joint → Joint
setup_ended j = record {
  table = after_write (after_write (after_write j.table (diepctl 0) snak_epdis) (doepctl 0) snak_epdis) (doepint 0) all_out_interrupts;
  software = record j.software { side = ready.Off; heard = heard.Setup; next_address = None };
}

-- the controller, the driver's software and the rings
pub record Whole : Type 0 where
  pub joint : Joint
  pub rings : Rings

abbrev pub with_joint : Whole → Joint → Whole
with_joint w j = record w { joint = j }

-- the entry that ends what was taken is popped
abbrev pub end_popped : Joint → Joint
end_popped j = with_table j (after_read j.table grxstsp)

abbrev pub xfrc_cleared : Joint → ℕ → Joint
xfrc_cleared j number = with_table j (after_write j.table (doepint number) xfrc)

-- of a packet on another endpoint the words go to its ring; one that was dropped with its pipe is passed over
abbrev pub into_ring : Whole → ℕ → ℕ → Whole
into_ring w number bytes = record {
  joint = with_table w.joint (after_words (word_count bytes) w.joint.table);
  rings = with_out_ring w.rings number (appended (out_ring w.rings number) (bytes_read bytes w.joint.table));
}

abbrev pub taken_unless : Bool → Whole → ℕ → ℕ → Whole
taken_unless true w number bytes = w
taken_unless false w number bytes = into_ring w number bytes

abbrev pub with_moved : Joint → ℕ → Joint
with_moved j number = record j { software = with_out_kept j.software number (moved (out_kept j.software number)) }

abbrev pub pipe_taken : Whole → ℕ → ℕ → Whole
pipe_taken w number bytes =
    let taken = taken_unless (out_kept w.joint.software number).over w number bytes in
    with_joint taken (with_moved (xfrc_cleared (end_popped taken.joint) number) number)

abbrev pub packet_from : Whole → ℕ → ℕ → Whole
packet_from w zero bytes = with_joint w (xfrc_cleared (end_popped (packet_taken w.joint bytes)) 0)
packet_from w (suc n) bytes = pipe_taken w (suc n) bytes

-- what came, by the word that tells of its data
abbrev pub arrival_taken : Whole → ℕ → Whole
arrival_taken w status =
    if kind_of status == setup_data then with_joint w (setup_ended (end_popped (setup_taken w.joint)))
    else if kind_of status == out_data then packet_from w (number_of status) (byte_count status)
    else w

-- one after another is taken until nothing is left, at most so many
unfoldable pub arrivals_taken : ℕ → Whole → Whole
arrivals_taken zero w = w
arrivals_taken (suc n) w =
    let status = value_read w.joint.table grxstsp in
    let popped = with_joint w (with_table w.joint (after_read w.joint.table grxstsp)) in
    if status == 0 then popped else arrivals_taken n (arrival_taken popped status)

-- three SETUPs, and a packet of each OUT endpoint, endpoint 0 among them
abbrev pub most_arrivals : Profile → ℕ
most_arrivals profile = profile.out_eps + 4

-- each has two entries
abbrev pub most_entries : Profile → ℕ
most_entries profile = 2 * most_arrivals profile

-- Loading.

abbrev pub words_written : Table → List ℕ → Table
words_written t [] = t
words_written t (word ∷ words) = words_written (after_write t (fifo 0) word) words

-- its size, SNAK and EPENA, its words, XFRC cleared, and then CNAK
abbrev pub packet_loaded : Table → List ℕ → Table
packet_loaded t packet =
    let sized = after_write (after_write t (dieptsiz 0) (one_packet (length packet))) (diepctl 0) snak_epena in
    after_write (after_write (words_written sized (words_of packet)) (diepint 0) xfrc) (diepctl 0) cnak

-- OUT is armed, but answers NAK where a packet came since the last SETUP: then each one that comes is that packet again
abbrev pub arming : Heard → ℕ
arming heard = if was_packet heard then snak_epena else epena_cnak

-- DOEPTSIZ0 for one packet of at most 64 bytes, and three SETUPs in a row
abbrev pub out_packet : ℕ
out_packet = 3 * 2 ^ DOEPTSIZ0_STUPCNT.low + 2 ^ DOEPTSIZ0_COUNT.low + 64

-- the size of the transfer comes before EPENA
abbrev pub out_armed : Table → Heard → Table
out_armed t heard = after_write (after_write t (doeptsiz 0) out_packet) (doepctl 0) (arming heard)

abbrev pub packet_ready : Joint → List ℕ → Bool → Joint
packet_ready j packet true = record { table = out_armed (packet_loaded j.table packet) j.software.heard; software = record j.software { side = ready.Last } }
packet_ready j packet false = record { table = packet_loaded j.table packet; software = record j.software { side = ready.Loaded } }

abbrev pub loaded_from : Joint → Ready → Joint
loaded_from j (ready.Wait packet last) = packet_ready j packet last
loaded_from j ready.Off = j
loaded_from j ready.Loaded = j
loaded_from j ready.Last = j
loaded_from j ready.Armed = j
loaded_from j ready.Stall = j

abbrev pub waiting_loaded : Joint → Joint
waiting_loaded j = loaded_from j j.software.side

-- A packet that was acknowledged.

abbrev pub acknowledged : Joint → Bool
acknowledged j = flag (value_read j.table (diepint 0)) DIEPINT_XFRC

abbrev pub cleared_ack : Table → Table
cleared_ack t = after_write t (diepint 0) xfrc

abbrev pub sent_noted : Joint → Joint
sent_noted j = record { table = cleared_ack j.table; software = record j.software { side = ready.Off; finished = Some Sent } }

-- The IN endpoints other than 0.

abbrev pub with_in_joint : Whole → ℕ → InJoint → Whole
with_in_joint w n i = record {
  joint = record { table = with_in w.joint.table n i.end; software = with_in_kept w.joint.software n i.software };
  rings = with_in_ring w.rings n (record (in_ring w.rings n) { bytes = i.ring });
}

abbrev pub in_joint_of : Whole → ℕ → InJoint
in_joint_of w n = in_joint w.joint.table w.joint.software w.rings n

abbrev pub in_pipe_served : Whole → ℕ → Whole
in_pipe_served w n = with_in_joint w n (in_served n (in_joint_of w n))

-- so many of them, from this number on
unfoldable pub in_pipes_served : ℕ → ℕ → Whole → Whole
in_pipes_served zero n w = w
in_pipes_served (suc k) n w = in_pipes_served k (n + 1) (in_pipe_served w n)

-- what the run does from there on
abbrev pub rest_served : Profile → Whole → Whole
rest_served profile w =
    let taken = arrivals_taken (most_arrivals profile) w in
    in_pipes_served profile.in_eps 1 (with_joint taken (waiting_loaded taken.joint))

-- where a new address was to come, it comes, and nothing else is served
abbrev pub address_served : Joint → ℕ → Joint
address_served j address = record {
  table = after_write (cleared_ack j.table) dcfg (address_word address);
  software = record j.software { side = ready.Off; next_address = None; finished = Some Sent };
}

abbrev pub sent_served : Profile → Whole → Option ℕ → Whole
sent_served profile w (Some address) = with_joint w (address_served w.joint address)
sent_served profile w None = rest_served profile (with_joint w (sent_noted w.joint))

abbrev pub last_acknowledged : Joint → Joint
last_acknowledged j = record { table = cleared_ack j.table; software = record j.software { side = ready.Armed } }

abbrev pub last_served : Profile → Whole → Whole
last_served profile w = rest_served profile (with_joint w (last_acknowledged w.joint))

abbrev pub served_by : Profile → Whole → Ready → Whole
served_by profile w ready.Loaded = if acknowledged w.joint then sent_served profile w w.joint.software.next_address else rest_served profile w
served_by profile w ready.Last = if acknowledged w.joint then last_served profile w else rest_served profile w
served_by profile w ready.Off = rest_served profile w
served_by profile w (ready.Wait packet last) = rest_served profile w
served_by profile w ready.Armed = rest_served profile w
served_by profile w ready.Stall = rest_served profile w

-- A reset.

abbrev pub pipe_closed : Table → ℕ → Table
pipe_closed t x = after_write (after_write t (diepctl x) snak_epdis) (doepctl x) snak_epdis

-- so many steps, one for each number from this one on
abbrev pub each_from : (Table → ℕ → Table) → ℕ → ℕ → Table → Table
each_from step zero x t = t
each_from step (suc n) x t = each_from step n (x + 1) (step t x)

-- the highest number of an endpoint
abbrev pub top_endpoint : Profile → ℕ
top_endpoint profile = max profile.in_eps profile.out_eps

-- all endpoints but endpoint 0, and all
abbrev pub others_closed : Profile → Table → Table
others_closed profile t = each_from pipe_closed (top_endpoint profile) 1 t

unfoldable pub pipes_closed : Profile → Table → Table
pipes_closed profile t = others_closed profile (pipe_closed t 0)

abbrev pub interrupts_cleared : Table → ℕ → Table
interrupts_cleared t x = after_write (after_write t (diepint x) all_in_interrupts) (doepint x) all_out_interrupts

unfoldable pub all_cleared : Profile → Table → Table
all_cleared profile t = each_from interrupts_cleared (top_endpoint profile + 1) 0 t

unfoldable pub popped_all : ℕ → Table → Table
popped_all zero t = t
popped_all (suc n) t = if value_read t grxstsp == 0 then after_read t grxstsp else popped_all n (after_read t grxstsp)

-- address 0, all endpoints disabled and their FIFOs empty; at the end USBRST is cleared, which wakes the device
abbrev pub reset_served : Profile → Table → Table
reset_served profile t =
    let closed = pipes_closed profile (after_write t dcfg 0) in
    let empty = popped_all (most_entries profile) (after_write closed grstctl flush_all) in
    after_write (all_cleared profile empty) gintsts reset_bits

-- A handler run.

abbrev pub run : Profile → Whole → Whole
run profile w =
    if flag (value_read w.joint.table gintsts) GINTSTS_USBRST
    then record { joint = record { table = reset_served profile w.joint.table; software = unused profile true }; rings = all_emptied w.rings }
    else served_by profile w w.joint.software.side

-- Each call.

-- STALL is kept as written, so it ends with the next write
abbrev pub unstalled : Table → Ready → Table
unstalled t ready.Stall = after_write (after_write t (diepctl 0) 0) (doepctl 0) 0
unstalled t ready.Off = t
unstalled t (ready.Wait packet last) = t
unstalled t ready.Loaded = t
unstalled t ready.Last = t
unstalled t ready.Armed = t

abbrev pub run_start : Joint → List ℕ → Bool → Joint
run_start j packet last = record { table = unstalled j.table j.software.side; software = record j.software { side = ready.Wait packet last; next_address = None } }

abbrev pub run_arm : Joint → Joint
run_arm j = record { table = out_armed (unstalled j.table j.software.side) j.software.heard; software = record j.software { side = ready.Armed; next_address = None } }

abbrev pub run_stall : Joint → Joint
run_stall j = record { table = after_write (after_write j.table (diepctl 0) stall) (doepctl 0) stall; software = record j.software { side = ready.Stall; next_address = None } }

abbrev pub run_address : Joint → ℕ → Joint
run_address j address = record j { software = record j.software { next_address = Some address } }

-- The other endpoints: each call changes one.

abbrev pub with_out_parts : Joint → ℕ → OutEnd → OutEndpoint → Joint
with_out_parts j n end kept = record { table = with_out j.table n end; software = with_out_kept j.software n kept }

abbrev pub with_in_parts : Joint → ℕ → InEnd → InEndpoint → Joint
with_in_parts j n end kept = record { table = with_in j.table n end; software = with_in_kept j.software n kept }

abbrev pub run_open_out : Joint → Endpoint → Joint
run_open_out j e =
    let s = out_kept j.software e.addr in
    with_out_parts j e.addr (opened_end (out_end j.table e.addr) s e) (opened s e)

abbrev pub run_open_in : Joint → Endpoint → ℕ → Joint
run_open_in j e n =
    let after = in_opened n e (record { end = in_end j.table n; software = in_kept j.software n; ring = [] }) in
    with_in_parts j n after.end after.software

abbrev pub run_arm_out : Joint → ℕ → Joint
run_arm_out j n =
    let s = out_kept j.software n in
    with_out_parts j n (armed_end (out_end j.table n) s) (armed s)

-- a transfer of so many bytes starts: in the software alone
abbrev pub run_start_in : Joint → ℕ → List ℕ → Joint
run_start_in j n bytes = record j { software = with_in_kept j.software n (software_started Rest (in_kept j.software n) bytes) }

abbrev pub run_halt_out : Joint → ℕ → Joint
run_halt_out j n =
    let s = out_kept j.software n in
    with_out_parts j n (halted_end (out_end j.table n) s) (halted s)

abbrev pub run_halt_in : Joint → ℕ → Joint
run_halt_in j n =
    let after = in_halted n (record { end = in_end j.table n; software = in_kept j.software n; ring = [] }) in
    with_in_parts j n after.end after.software

abbrev pub run_clear_out : Joint → ℕ → Joint
run_clear_out j n =
    let s = out_kept j.software n in
    with_out_parts j n (cleared_end (out_end j.table n) s) (cleared s)

-- GRSTCTL keeps the number of the FIFO that was flushed, and not TXFFLSH
abbrev pub flushed : Whole → ℕ → Whole
flushed w n = with_joint w (with_table w.joint (with_flushed w.joint.table n))

abbrev pub run_clear_in : Whole → ℕ → Whole
run_clear_in w n = flushed (with_in_joint w n (in_cleared n (in_joint_of w n))) n

abbrev pub run_drop_in : Whole → ℕ → Whole
run_drop_in w n = flushed (with_in_joint w n (in_dropped n (in_joint_of w n))) n

-- what an OUT ring holds is dropped, and so many bytes of it are read: no register has part in it
abbrev pub run_drop_out : Whole → ℕ → Whole
run_drop_out w n = record w { rings = with_out_ring w.rings n (emptied (out_ring w.rings n)) }

abbrev pub run_read_out : Whole → ℕ → ℕ → Whole
run_read_out w n count = record w { rings = with_out_ring w.rings n (without_first (out_ring w.rings n) count) }

-- as many bytes are written to an IN ring as it has room for
abbrev pub run_write_in : Whole → ℕ → List ℕ → Whole
run_write_in w n bytes = record w { rings = with_in_ring w.rings n (appended (in_ring w.rings n) (take (room (in_ring w.rings n)) bytes)) }

-- a task takes the note of one pipe: in the software alone
abbrev pub run_note_out : Joint → ℕ → Joint
run_note_out j n = record j { software = with_out_kept j.software n (noted (out_kept j.software n)) }

abbrev pub run_note_in : Joint → ℕ → Joint
run_note_in j n = record j { software = with_in_kept j.software n (record (in_kept j.software n) { state = in_noted (in_kept j.software n).state }) }

-- a session ends: each endpoint of both directions is closed
abbrev pub close_out : Joint → ℕ → Joint
close_out j n =
    let s = out_kept j.software n in
    with_out_parts j n (closed_end (out_end j.table n)) (closed (out_end j.table n) s)

unfoldable pub outs_closed : ℕ → ℕ → Joint → Joint
outs_closed zero n j = j
outs_closed (suc k) n j = outs_closed k (n + 1) (close_out j n)

abbrev pub close_in : Whole → ℕ → Whole
close_in w n = flushed (with_in_joint w n (in_closed (in_joint_of w n))) n

unfoldable pub ins_closed : ℕ → ℕ → Whole → Whole
ins_closed zero n w = w
ins_closed (suc k) n w = ins_closed k (n + 1) (close_in w n)

abbrev pub run_close : Profile → Whole → Whole
run_close profile w =
    let after = ins_closed profile.in_eps 1 (with_joint w (outs_closed profile.out_eps 1 w.joint)) in
    record after { rings = all_emptied after.rings }
