-- A handler run leaves the rings their room.
use Rattle.std.proofs.Common.{◌≡◌, ℕ, zero, suc, ◌+◌, List, Bool, true, false, ◌==◌, Option, Some, None, refl, ap, ◌∙◌}
use Rattle.std.specs.Prelude.{if◌then◌else◌}
use Rattle.dwc2_regs.specs.declared.TheConstants.{GINTSTS_USBRST}
use Rattle.dwc2_regs.specs.declared.access.TheConstants.{FS4}
use Rattle.dwc2_regs.specs.Register.{gintsts, grxstsp}
use Rattle.device_table.specs.Read.{value_read, after_read}
use Rattle.device_table.specs.Words.{flag, setup_data, out_data, kind_of, number_of}
use Rattle.device_rings.specs.Rings.{Rings, out_ring, in_ring, all_emptied}
use Rattle.device_rings.specs.Capacities.{Capacities, capacities_of}
use Rattle.device_rings.proofs.Capacities.{with_out, with_in, without_bytes}
use Rattle.usb_ring.specs.Ring.{Ring, appended}
use Rattle.device_relation.specs.declared.software.Ready.{Ready}
use Rattle.device_relation.specs.declared.software.Ready.TheVariants as ready
use Rattle.device_relation.specs.Software.{Joint, unused, out_kept}
use Rattle.device_relation.specs.Run.{Whole, with_joint, with_table, setup_taken, setup_ended, end_popped, xfrc_cleared, into_ring, taken_unless, pipe_taken, packet_from, packet_taken, byte_count, bytes_read, arrival_taken, arrivals_taken, most_arrivals, waiting_loaded, acknowledged, sent_noted, address_served, in_joint_of, in_pipe_served, in_pipes_served, rest_served, sent_served, last_acknowledged, last_served, served_by, reset_served, run}
use Rattle.endpoint_relation.specs.InSteps.{in_served}

-- the room of the rings
abbrev rooms : Whole → Capacities
rooms w = capacities_of w.rings

either : (b : Bool) (x y w : Whole) → rooms x ≡ rooms w → rooms y ≡ rooms w → rooms (if b then x else y) ≡ rooms w
either true x y w h k = h
either false x y w h k = k

unless_taken : (b : Bool) (w : Whole) (n bytes : ℕ) → rooms (taken_unless b w n bytes) ≡ rooms w
unless_taken true w n bytes = refl
unless_taken false w n bytes = with_out w.rings n (appended (out_ring w.rings n) (bytes_read bytes w.joint.table)).bytes

from_packet : (w : Whole) (n bytes : ℕ) → rooms (packet_from w n bytes) ≡ rooms w
from_packet w zero bytes = refl
from_packet w (suc n) bytes = unless_taken (out_kept w.joint.software (suc n)).over w (suc n) bytes

arrival : (w : Whole) (status : ℕ) → rooms (arrival_taken w status) ≡ rooms w
arrival w status =
    either (kind_of status == setup_data) (with_joint w (setup_ended (end_popped (setup_taken w.joint))))
    (if kind_of status == out_data then packet_from w (number_of status) (byte_count status) else w) w refl
    (either (kind_of status == out_data) (packet_from w (number_of status) (byte_count status)) w w (from_packet w (number_of status) (byte_count status)) refl)

arrivals : (n : ℕ) (w : Whole) → rooms (arrivals_taken n w) ≡ rooms w
unfolding arrivals_taken
arrivals zero w = refl
arrivals (suc n) w =
    let status = value_read w.joint.table grxstsp in
    let popped = with_joint w (with_table w.joint (after_read w.joint.table grxstsp)) in
    either (status == 0) popped (arrivals_taken n (arrival_taken popped status)) w refl (arrivals n (arrival_taken popped status) ∙ arrival popped status)

served : (k n : ℕ) (w : Whole) → rooms (in_pipes_served k n w) ≡ rooms w
unfolding in_pipes_served
served zero n w = refl
served (suc k) n w = served k (n + 1) (in_pipe_served w n) ∙ with_in w.rings n (in_served n (in_joint_of w n)).ring

rest : (w : Whole) → rooms (rest_served FS4 w) ≡ rooms w
rest w =
    let taken = arrivals_taken (most_arrivals FS4) w in
    served FS4.in_eps 1 (with_joint taken (waiting_loaded taken.joint)) ∙ arrivals (most_arrivals FS4) w

sent : (w : Whole) (next : Option ℕ) → rooms (sent_served FS4 w next) ≡ rooms w
sent w (Some address) = refl
sent w None = rest (with_joint w (sent_noted w.joint))

by_side : (w : Whole) (side : Ready) → rooms (served_by FS4 w side) ≡ rooms w
by_side w ready.Loaded = either (acknowledged w.joint) (sent_served FS4 w w.joint.software.next_address) (rest_served FS4 w) w (sent w w.joint.software.next_address) (rest w)
by_side w ready.Last = either (acknowledged w.joint) (last_served FS4 w) (rest_served FS4 w) w (rest (with_joint w (last_acknowledged w.joint))) (rest w)
by_side w ready.Off = rest w
by_side w (ready.Wait packet last) = rest w
by_side w ready.Armed = rest w
by_side w ready.Stall = rest w

pub run_keeps : (w : Whole) → capacities_of (run FS4 w).rings ≡ capacities_of w.rings
run_keeps w =
    either (flag (value_read w.joint.table gintsts) GINTSTS_USBRST)
    (record { joint = record { table = reset_served FS4 w.joint.table; software = unused FS4 true }; rings = all_emptied w.rings })
    (served_by FS4 w w.joint.software.side) w (without_bytes w.rings) (by_side w w.joint.software.side)
