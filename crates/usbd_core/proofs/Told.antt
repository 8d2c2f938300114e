-- What a task tells of the first three endpoints of each direction is what it tells of all: of those beyond the controller's the driver
-- keeps nothing.
use Rattle.std.proofs.Common.{◌≡◌, ℕ, zero, suc, ◌+◌, ◌≤◌, map, false, if◌then◌else◌, refl, ap, sym, ◌∙◌, arith}
use Rattle.std.proofs.lemmas.List.{get_or_past}
use Rattle.usb_packet.specs.declared.bus.Owner.{Owner}
use Rattle.usb_descriptor.specs.Set.{Set}
use Rattle.usb_pipe.specs.Rules.{Rules}
use Rattle.usb_pipe.specs.Classes.{Classes}
use Rattle.dwc2_regs.specs.declared.access.TheConstants.{FS4}
use Rattle.device_arrivals.specs.Arrivals.{packets_at}
use Rattle.device_table.specs.State.{in_end}
use Rattle.device_rings.specs.Rings.{Rings, in_ring}
use Rattle.endpoint_relation.specs.declared.out_.OutEndpoint.{OutEndpoint}
use Rattle.endpoint_relation.specs.declared.in_.InEndpoint.{InEndpoint}
use Rattle.endpoint_relation.specs.OutRelation.{not_open, phase_of}
use Rattle.endpoint_relation.specs.InRelation.{in_unused, in_phase, not_acknowledged}
use Rattle.device_pipe.specs.OutPipe.{came_at}
use Rattle.device_pipe.specs.InPipe.{ended_at}
use Rattle.device_machine.specs.Packets.{numbers_from}
use Rattle.device_relation.specs.Software.{Joint, out_kept, in_kept}
use Rattle.device_relation.specs.PipeRelation.{IsSound, out_slot_of, in_slot_of, pipes_of}
use Rattle.device_owners.specs.Ends.{pipe_of}
use Rattle.device_owners.specs.Device.{Machinery, told, told_came, told_came_each, told_ended_of, told_ended_each}
use Rattle.usbd_core.specs.Device.{machinery}
use Rattle.usbd_core.specs.Works.{told_ended}

-- nothing is told of an endpoint of which nothing is kept
none_came : {S : Type 0} (m : Machinery S) (j : Joint) (r : Rings) (n : ℕ) (classes : Classes S) → out_kept j.software n ≡ not_open false
    → told_came m (out_slot_of j.table j.software r n) classes ≡ classes
none_came m j r n classes e =
    ap (λ (x : OutEndpoint). if came_at (phase_of x.state x.over (packets_at n j.table.rx.entries)) then told m x.endpoint.owner (λ r s. r.after_came s (pipe_of x.endpoint)) classes else classes) e

none_ended : {S : Type 0} (m : Machinery S) (j : Joint) (r : Rings) (n : ℕ) (classes : Classes S) → in_kept j.software n ≡ in_unused
    → told_ended m (in_slot_of j.table j.software r n) classes ≡ classes
none_ended m j r n classes e =
    ap (λ (x : InEndpoint). told_ended_of m x.endpoint (ended_at (in_phase x.state x.bytes (not_acknowledged (in_end j.table n) (in_kept j.software n) (in_ring r n).bytes))) classes) e

-- so of those beyond the third

next : (m : ℕ) → suc m + 1 ≡ suc (m + 1)
next m = omega arith

no_more_came : {S : Type 0} (x : Machinery S) (j : Joint) (r : Rings) (m count : ℕ) (classes : Classes S) → IsSound FS4 j r → 3 ≤ m
    → told_came_each x (map (out_slot_of j.table j.software r) (numbers_from (suc m) count)) classes ≡ classes
no_more_came x j r m zero classes sound h = refl
no_more_came x j r m (suc count) classes sound h =
    let slot = out_slot_of j.table j.software r in
    let kept : out_kept j.software (suc m) ≡ not_open false = get_or_past j.software.outs m (not_open false) (omega (arith, sound.pipes.out_kepts, h)) in
    ap (λ n. told_came_each x (map slot (numbers_from n count)) (told_came x (slot (suc m)) classes)) (next m)
    ∙ no_more_came x j r (m + 1) count (told_came x (slot (suc m)) classes) sound (omega (arith, h))
    ∙ none_came x j r (suc m) classes kept

no_more_ended : {S : Type 0} (x : Machinery S) (j : Joint) (r : Rings) (m count : ℕ) (classes : Classes S) → IsSound FS4 j r → 3 ≤ m
    → told_ended_each x (map (in_slot_of j.table j.software r) (numbers_from (suc m) count)) classes ≡ classes
no_more_ended x j r m zero classes sound h = refl
no_more_ended x j r m (suc count) classes sound h =
    let slot = in_slot_of j.table j.software r in
    let kept : in_kept j.software (suc m) ≡ in_unused = get_or_past j.software.ins m in_unused (omega (arith, sound.pipes.in_kepts, h)) in
    ap (λ n. told_ended_each x (map slot (numbers_from n count)) (told_ended x (slot (suc m)) classes)) (next m)
    ∙ no_more_ended x j r (m + 1) count (told_ended x (slot (suc m)) classes) sound (omega (arith, h))
    ∙ none_ended x j r (suc m) classes kept

-- So the first three are all.

abbrev came_at_three : {S : Type 0} → Machinery S → Joint → Rings → Classes S → Classes S
came_at_three m j r classes =
    let slot = out_slot_of j.table j.software r in
    told_came m (slot 3) (told_came m (slot 2) (told_came m (slot 1) classes))

abbrev ended_at_three : {S : Type 0} → Machinery S → Joint → Rings → Classes S → Classes S
ended_at_three m j r classes =
    let slot = in_slot_of j.table j.software r in
    told_ended m (slot 3) (told_ended m (slot 2) (told_ended m (slot 1) classes))

all_came : {S : Type 0} (m : Machinery S) (j : Joint) (r : Rings) (classes : Classes S) → IsSound FS4 j r
    → told_came_each m (pipes_of j r).outs classes ≡ came_at_three m j r classes
all_came m j r classes sound = no_more_came m j r 3 12 (came_at_three m j r classes) sound (omega arith)

all_ended : {S : Type 0} (m : Machinery S) (j : Joint) (r : Rings) (classes : Classes S) → IsSound FS4 j r
    → told_ended_each m (pipes_of j r).ins classes ≡ ended_at_three m j r classes
all_ended m j r classes sound = no_more_ended m j r 3 12 (ended_at_three m j r classes) sound (omega arith)

all_told : {S : Type 0} (m : Machinery S) (j : Joint) (r : Rings) (classes : Classes S) → IsSound FS4 j r
    → told_ended_each m (pipes_of j r).ins (told_came_each m (pipes_of j r).outs classes) ≡ ended_at_three m j r (came_at_three m j r classes)
all_told m j r classes sound = ap (told_ended_each m (pipes_of j r).ins) (all_came m j r classes sound) ∙ all_ended m j r (came_at_three m j r classes) sound

-- Three calls and three more tell it, one after another.
pub notes_told : {S : Type 0} (rules : Owner → Rules S) (set : Set) (j : Joint) (r : Rings) (a b c d e f g : Classes S) → IsSound FS4 j r
    → b ≡ told_came (machinery rules set a) (out_slot_of j.table j.software r 1) a
    → c ≡ told_came (machinery rules set b) (out_slot_of j.table j.software r 2) b
    → d ≡ told_came (machinery rules set c) (out_slot_of j.table j.software r 3) c
    → e ≡ told_ended (machinery rules set d) (in_slot_of j.table j.software r 1) d
    → f ≡ told_ended (machinery rules set e) (in_slot_of j.table j.software r 2) e
    → g ≡ told_ended (machinery rules set f) (in_slot_of j.table j.software r 3) f
    → g ≡ told_ended_each (machinery rules set a) (pipes_of j r).ins (told_came_each (machinery rules set a) (pipes_of j r).outs a)
notes_told {S} rules set j r a b c d e f g sound one two three four five six =
    let m = machinery rules set a in
    let outs = out_slot_of j.table j.software r in
    let ins = in_slot_of j.table j.software r in
    let came : d ≡ came_at_three m j r a = three ∙ ap (told_came m (outs 3)) (two ∙ ap (told_came m (outs 2)) one) in
    let ended : g ≡ ended_at_three m j r d = six ∙ ap (told_ended m (ins 3)) (five ∙ ap (told_ended m (ins 2)) four) in
    ended ∙ ap (ended_at_three m j r) came ∙ sym (all_told m j r a sound)
