-- A task: a class's work over a view of its owner's pipes is its step of the whole device, and so are the parts together.
use Rattle.std.proofs.Common.{◌≡◌, ℕ, ◌+◌, ◌≤◌, [], Bool, List, Option, ap, sym, ◌∙◌, subst, arith}
use Rattle.usb_packet.specs.declared.bus.Owner.{Owner}
use Rattle.usb_packet.specs.declared.bus.Owner.TheVariants.{Cdc, Hid, Msc, Midi}
use Rattle.usb_descriptor.specs.Set.{Set}
use Rattle.usb_pipe.specs.Own.{Own}
use Rattle.usb_pipe.specs.Rules.{Rules}
use Rattle.usb_pipe.specs.Classes.{Classes, class_at, told, class_owners}
use Rattle.device_table.specs.Bank.{Bank}
use Rattle.dwc2_regs.specs.declared.access.TheConstants.{FS4}
use Rattle.device_machine.specs.declared.control.Stage.{Stage}
use Rattle.device_rings.specs.Capacities.{capacities_of}
use Rattle.device_owners.specs.Calls.{no_calls}
use Rattle.device_owners.specs.Device.{Core, Transfer, work_stage, with_request_worked, with_control_worked, with_notes_taken, told_came_each, told_ended_each, worked, worked_each, after_task}
use Rattle.device_owners.specs.Device.{Device as Whole}
use Rattle.device_owners.specs.Ends.{with_own}
use Rattle.device_owners.proofs.NoCalls.{request_same, notes_same}
use Rattle.device_relation.specs.Port.{Port}
use Rattle.dwc2_device.specs.Driver.{Has, GoesOn}
use Rattle.usbd_core.specs.Device.{Device, Agrees, core_of, seen, machinery, port_in}
use Rattle.usbd_core.specs.Task.{GoesInOrder, Leaves}
use Rattle.usbd_core.specs.View.{IsWhole, IsView, Beside, own_of}
use Rattle.usbd_core.specs.Works.{LeavesWhole, with_pipes_noted}
use Rattle.usbd_core.proofs.Wholes.{control_whole}

-- the core of this device, where all but the driver's part is that of another
core_beside : (o : Owner) (old new : Device) (own : Own) → Beside o old new → own_of o new ≡ own → core_of new ≡ record (core_of old) { pipes = with_own old.set o (port_in old).pipes own }
core_beside o old new own b e =
    let put : Own → Core = λ x. record (core_of old) { pipes = with_own old.set o (port_in old).pipes x } in
    ap (λ (p : Port). record (core_of new) { bus = p.bus; pipes = p.pipes }) b.port
    ∙ ap (λ (s : Bool). record (put (own_of o new)) { session = s; finished = new.finished; request = new.request; transfer = new.transfer }) (ap (λ x. x.configured) b.state)
    ∙ ap (λ (x : Option Stage). record (put (own_of o new)) { finished = x; request = new.request; transfer = new.transfer }) b.finished
    ∙ ap (λ (x : Option (List ℕ)). record (put (own_of o new)) { request = x; transfer = new.transfer }) b.request
    ∙ ap (λ (x : Transfer). record (put (own_of o new)) { transfer = x }) b.transfer
    ∙ ap put e

class_worked : {S : Type 0} (rules : Owner → Rules S) (o : Owner) (old new : Device) (before after : Classes S) → Beside o old new
    → own_of o new ≡ (rules o).pipes_after_work (class_at before o) (own_of o old)
    → after ≡ told rules o (λ r s. r.after_work s (own_of o old)) before
    → seen new after ≡ worked (machinery rules old.set before) o (seen old before)
class_worked {S} rules o old new before after b pipes states =
    let own = (rules o).pipes_after_work (class_at before o) (own_of o old) in
    ap (λ (core : Core). record { core = core; classes = after }) (core_beside o old new own b pipes)
    ∙ ap (λ (classes : Classes S). record { core = record (core_of old) { pipes = with_own old.set o (port_in old).pipes own }; classes = classes }) states

-- a view that is over this device at the start, and one that is over it at the end
beside_of : (o from : Owner) (old was is new : Device) → from ≡ o → was ≡ old → is ≡ new → Beside from was is → Beside o old new
beside_of o from old was is new e w n b = subst (Beside o old) n (subst (λ x. Beside o x is) w (subst (λ x. Beside x was is) e b))

pub class_seen : {S : Type 0} (rules : Owner → Rules S) (o from to : Owner) (old was is new : Device) (before after : Classes S) → from ≡ o → to ≡ from → was ≡ old → is ≡ new
    → Beside from was is
    → own_of to is ≡ (rules o).pipes_after_work (class_at before o) (own_of from was)
    → after ≡ told rules o (λ r s. r.after_work s (own_of from was)) before
    → seen new after ≡ worked (machinery rules old.set before) o (seen old before)
class_seen rules o from to old was is new before after e t w n b pipes states =
    let first : own_of from was ≡ own_of o old = ap (λ x. own_of x was) e ∙ ap (own_of o) w in
    let last : own_of o new ≡ own_of to is = ap (own_of o) (sym n) ∙ ap (λ x. own_of x is) (sym (t ∙ e)) in
    class_worked rules o old new before after (beside_of o from old was is new e w n b)
    (last ∙ pipes ∙ ap ((rules o).pipes_after_work (class_at before o)) first)
    (states ∙ ap (λ own. told rules o (λ r s. r.after_work s own) before) first)

pub class_leaves : (o from to : Owner) (a b c : ℕ) (old was is new : Device) → from ≡ o → was ≡ old → is ≡ new → Beside from was is → IsView to a b c is
    → was.port.bank.spare ≤ is.port.bank.spare + 36 → LeavesWhole 36 old new
class_leaves o from to a b c old was is new e w n h v fewer =
    let beside = beside_of o from old was is new e w n h in
    let whole : IsWhole new = subst IsWhole n v.whole in
    let spends : old.port.bank.spare ≤ new.port.bank.spare + 36 = subst (λ (x : Device). old.port.bank.spare ≤ x.port.bank.spare + 36) n (subst (λ (x : Device). x.port.bank.spare ≤ is.port.bank.spare + 36) w fewer) in
    (whole, beside.set, λ start k. beside.order start k, (spends, whole.still, λ start m. beside.moves start m))

-- One part after another.

pub has_left : (m n : ℕ) (a b : Device) → Has (m + n) a.port.bank → LeavesWhole m a b → Has n b.port.bank
has_left m n a b h l = (omega (arith, h.0, l.3.0), l.3.1)

pub leaves_on : (m n : ℕ) (a b c : Device) → LeavesWhole m a b → LeavesWhole n b c → LeavesWhole (m + n) a c
leaves_on m n a b c one two =
    (two.0, two.1 ∙ one.1, λ start k. two.2 start (one.2 start k), (omega (arith, one.3.0, two.3.0), two.3.1, λ start x. two.3.2 start (one.3.2 start x)))

-- The four classes work.

-- the step of one, after what others made of the device
works_next : {S : Type 0} (rules : Owner → Rules S) (set : Set) (o : Owner) (first before : Classes S) (old : Device) (start mid end : Whole S) → old.set ≡ set
    → end ≡ worked (machinery rules old.set before) o mid → mid ≡ start → end ≡ worked (machinery rules set first) o start
works_next {S = S} rules set o first before old start mid end same e is =
    e ∙ ap (λ (s : Set). worked (machinery rules s first) o mid) same ∙ ap (worked (machinery rules set first) o) is

pub all_worked : {S : Type 0} (rules : Owner → Rules S) (a b c d e : Device) (sa sb sc sd se : Classes S)
    → LeavesWhole 36 a b → LeavesWhole 36 b c → LeavesWhole 36 c d
    → seen b sb ≡ worked (machinery rules a.set sa) Cdc (seen a sa)
    → seen c sc ≡ worked (machinery rules b.set sb) Hid (seen b sb)
    → seen d sd ≡ worked (machinery rules c.set sc) Msc (seen c sc)
    → seen e se ≡ worked (machinery rules d.set sd) Midi (seen d sd)
    → seen e se ≡ worked_each (machinery rules a.set sa) class_owners (seen a sa)
all_worked {S = S} rules a b c d e sa sb sc sd se lb lc ld one two three four =
    let m = machinery rules a.set sa in
    let second = works_next rules a.set Hid sa sb b (worked m Cdc (seen a sa)) (seen b sb) (seen c sc) lb.1 two one in
    let third = works_next rules a.set Msc sa sc c (worked m Hid (worked m Cdc (seen a sa))) (seen c sc) (seen d sd) (lc.1 ∙ lb.1) three second in
    works_next rules a.set Midi sa sd d (worked m Msc (worked m Hid (worked m Cdc (seen a sa)))) (seen d sd) (seen e se) (ld.1 ∙ lc.1 ∙ lb.1) four third

-- Endpoint 0 is worked, and the notes of the pipes are taken.

pub core_seen : {S : Type 0} (rules : Owner → Rules S) (a b c d : Device) (sa sb sc sd : Classes S)
    → b.set ≡ a.set → c.set ≡ a.set
    → seen b sb ≡ work_stage (machinery rules a.set sa) (seen a sa) a.finished
    → seen c sc ≡ with_request_worked (machinery rules b.set sb) (seen b sb)
    → sd ≡ told_ended_each (machinery rules c.set sc) (core_of c).pipes.ins (told_came_each (machinery rules c.set sc) (core_of c).pipes.outs sc)
    → core_of d ≡ with_pipes_noted (core_of c)
    → seen d sd ≡ with_notes_taken (machinery rules a.set sa) (with_control_worked (machinery rules a.set sa) (seen a sa))
core_seen {S = S} rules a b c d sa sb sc sd same_b same_c stage request told noted =
    let m = machinery rules a.set sa in
    let control : seen c sc ≡ with_control_worked m (seen a sa) =
    request
    ∙ ap (λ (s : Set). with_request_worked (machinery rules s sb) (seen b sb)) same_b
    ∙ request_same (machinery rules a.set sb) (λ o. no_calls) sa (seen b sb) b.request
    ∙ ap (with_request_worked m) stage in
    ap (λ (core : Core). record { core = core; classes = sd }) noted
    ∙ ap (λ (classes : Classes S). record { core = with_pipes_noted (core_of c); classes = classes }) told
    ∙ ap (λ (s : Set). with_notes_taken (machinery rules s sc) (seen c sc)) same_c
    ∙ notes_same (machinery rules a.set sc) (λ o. no_calls) sa (seen c sc)
    ∙ ap (with_notes_taken m) control

pub core_leaves : {S : Type 0} (rules : Owner → Rules S) (a b c d : Device) (sa sd : Classes S)
    → IsWhole a → Leaves FS4 2 a b → Leaves FS4 28 b c → Agrees FS4 d → d.set ≡ c.set → GoesInOrder c.port d.port → d.port.bank ≡ c.port.bank
    → capacities_of d.rings ≡ capacities_of c.rings
    → seen d sd ≡ with_notes_taken (machinery rules a.set sa) (with_control_worked (machinery rules a.set sa) (seen a sa))
    → LeavesWhole 30 a d
core_leaves {S = S} rules a b c d sa sd w one two agrees same order bank sizes seen_is =
    let sets : d.set ≡ a.set = same ∙ two.2 ∙ one.2 in
    let due : d.port.bank.due ≡ [] = ap (λ (x : Bank). x.due) bank ∙ two.1.1 in
    let fewer : a.port.bank.spare ≤ d.port.bank.spare + 30 = subst (λ (x : Bank). a.port.bank.spare ≤ x.spare + 30) (sym bank) (omega (arith, one.1.0, two.1.0)) in
    let moves : GoesOn a.port.bank d.port.bank = subst (GoesOn a.port.bank) (sym bank) (λ start x. two.1.2 start (one.1.2 start x)) in
    (control_whole rules sa sd a d w agrees seen_is sets due (sizes ∙ two.4 ∙ one.4), sets, λ start k. order start (two.3 start (one.3 start k)), (fewer, due, λ start x. moves start x))

-- The whole task.

pub task_seen : {S : Type 0} (rules : Owner → Rules S) (a b c : Device) (sa sb sc : Classes S) → b.set ≡ a.set
    → seen b sb ≡ with_notes_taken (machinery rules a.set sa) (with_control_worked (machinery rules a.set sa) (seen a sa))
    → seen c sc ≡ worked_each (machinery rules b.set sb) class_owners (seen b sb)
    → seen c sc ≡ after_task (machinery rules a.set sa) (seen a sa)
task_seen {S = S} rules a b c sa sb sc same core works =
    works
    ∙ ap (λ (s : Set). worked_each (machinery rules s sa) class_owners (seen b sb)) same
    ∙ ap (worked_each (machinery rules a.set sa) class_owners) core
