-- What a line makes of a device.
use Rattle.std.proofs.Common.{◌≡◌, ◌≤◌, ℕ, Bool, List, [], true, false, refl, ap, sym, ◌∙◌, subst, length, arith, Option}
use Rattle.std.specs.Prelude.{◌&&◌, not, if◌then◌else◌}
use Rattle.std.specs.List.{AllByRecursion}
use Rattle.register_text.specs.Access.{IsAccess}
use Rattle.usb_packet.specs.declared.bus.BusEvent.{BusEvent}
use Rattle.usb_packet.specs.declared.bus.BusAnswer.{BusAnswer}
use Rattle.usb_packet.specs.declared.bus.BusAnswer.TheVariants.{Done}
use Rattle.usb_packet.specs.declared.bus.Owner.{Owner}
use Rattle.usb_descriptor.specs.Set.{Set, is_core}
use Rattle.usb_pipe.specs.declared.reply.Reply.{Reply}
use Rattle.usb_pipe.specs.declared.reply.Reply.TheVariants as reply
use Rattle.usb_pipe.specs.Own.{Own}
use Rattle.usb_pipe.specs.Classes.{Classes, class_at, with_class}
use Rattle.dwc2_regs.specs.declared.access.TheConstants.{FS4}
use Rattle.dwc2_regs.specs.declared.access.Access.{Access}
use Rattle.device_table.specs.State.{Table}
use Rattle.device_table.specs.Bank.{Bank, begun}
use Rattle.device_table.specs.Bus as table
use Rattle.dwc2_access.specs.Run.{AreSteps, accesses_after}
use Rattle.access_order.specs.Order.{Order, are_ordered, order_after, begun as begun_order}
use Rattle.access_order.specs.Phase.{Keeps, Kept, serving, over}
use Rattle.access_order.proofs.Phases.{serving_over}
use Rattle.access_order.proofs.Starts.{fresh}
use Rattle.device_relation.specs.Port.{Port}
use Rattle.dwc2_device.specs.Driver.{GoesOn, stays}
use Rattle.dwc2_device.specs.Order.{loads, Goes}
use Rattle.dwc2_device.proofs.Moved.{moved}
use Rattle.device_line.specs.declared.call.DevCall.{DevCall}
use Rattle.device_line.specs.declared.call.DevCall.TheVariants as call
use Rattle.usb_control.specs.declared.state.CoreState.{CoreState}
use mir.Val.{bool_byte}
use Rattle.device_line.specs.declared.line.DevLine.TheVariants.{Bus as Line, Irq, Task, Call}
use Rattle.device_line.specs.declared.line.Answer.TheVariants.{Bus as TheBus, Reply as TheReply}
use Rattle.device_schedule.specs.Turns.{AreWork}
use Rattle.device_owners.specs.Ends.{with_own}
use Rattle.device_owners.specs.Device.{Core, core_state, Device as Seen, after_irq, after_task}
use Rattle.device_owners.specs.Lines.{whole, call_owner, in_session, after_class_call, after_call}
use Rattle.device_owners.specs.NoCalls.{StepsAlike}
use Rattle.device_owners.proofs.NoCalls.{steps_alike}
use Rattle.device_world.specs.State.{State}
use Rattle.device_world.specs.World.{rules, calls, world_of}
use Rattle.usbd_core.specs.Device.{Device, core_of, port_in, seen, machinery}
use Rattle.usbd_core.specs.View.{IsWhole, Beside, own_of}
use Rattle.usbd_core.specs.Laws.{Keeps as EventKeeps, after_event}
use Rattle.device_run.specs.Run.{Run, Steps, StaysInOrder}

-- what a clause sees of a device with its classes
abbrev pub run_of : Device → Classes State → Option ℕ → Run
run_of d classes blocks = record { set = d.set; blocks = blocks; device = seen d classes; table = d.port.bank.table; ins = d.port.software.ins; log = d.port.bank.log }

-- with another state of its controller
abbrev pub with_bank : Device → Bank → Device
with_bank d b = record d { port = record d.port { bank = b } }

-- Accesses.

-- the accesses since the list was begun anew are a run of the controller
record Worked (a b : Bank) : Type 0 where
  work : AreWork a.table b.log
  table : b.table ≡ accesses_after a.table b.log

worked : (a b : Bank) → a.due ≡ [] → GoesOn (begun a) b → AllByRecursion IsAccess b.log → Worked a b
worked a b e goes fit =
    let m = moved (begun a) b e (goes (begun a) stays) in
    let few : length b.log ≤ 400 = omega (arith, ap length m.log, m.spare) in
    record {
      work = (subst (λ (l : List Access). AreSteps a.table l) (sym m.log) m.steps, few, fit);
      table = subst (λ (l : List Access). b.table ≡ accesses_after a.table l) (sym m.log) m.table;
    }

-- what a run's accesses leave
over_stays : (before after : ℕ → Bool) (log : List Access) → Keeps (serving 0 before) (over after) [] log → StaysInOrder before after log
over_stays before after log keeps = record {
  run = λ o h. in_order (begun_order o) log (keeps (begun_order o) (fresh before o h));
  rests = λ o h. (keeps (begun_order o) (fresh before o h)).state;
} where
  in_order : (o : Order) (l : List Access) → Kept o l (over after) → (are_ordered o l && not (order_after o l).reset) ≡ true
  in_order o l k = rw (k.ordered) (rw (k.state.found) refl)

-- a line that goes on serving
serving_stays : (d e : Device) (b : Bank) → b ≡ begun d.port.bank → Goes (serving 0) (serving 0) (record d.port { bank = b }) e.port
    → StaysInOrder (loads d.port) (loads e.port) e.port.bank.log
serving_stays d e b same order =
    over_stays (loads d.port) (loads e.port) e.port.bank.log
    (λ start k. serving_over 0 (loads e.port) start e.port.bank.log (subst (λ (x : Bank). Goes (serving 0) (serving 0) (record d.port { bank = x }) e.port) same order start k))

-- a line without accesses
none_stays : (before : ℕ → Bool) (log : List Access) → log ≡ [] → StaysInOrder before before log
none_stays before log e = over_stays before before log (λ start k. serving_over 0 before start log (subst (λ l. Kept start l (serving 0 before)) (sym e) k))

-- What holds between lines: of the controller the table alone counts.

at_table : (d : Device) (b : Bank) → IsWhole (with_bank d (record d.port.bank { table = b.table })) → b.due ≡ [] → IsWhole (with_bank d b)
at_table d b w still = record {
  agrees = record { sound = w.agrees.sound; fits = w.agrees.fits; rests = w.agrees.rests };
  still = still;
  opens = w.opens;
  sizes = w.sizes;
}

pub begun_whole : (d : Device) (b : Bank) → IsWhole d → b ≡ begun d.port.bank → IsWhole (with_bank d b)
begun_whole d b w same =
    subst (λ (x : Bank). IsWhole (with_bank d x)) (sym same) (at_table d (begun d.port.bank) w w.still)

pub event_whole : (d : Device) (mid new : Bank) (e : BusEvent) → IsWhole (after_event d e) → mid ≡ begun d.port.bank → new ≡ record mid { table = table.after_bus mid.table e }
    → IsWhole (with_bank d new)
event_whole d mid new e w same after =
    let is : new ≡ record (begun d.port.bank) { table = table.after_bus d.port.bank.table e } = after ∙ ap (λ (b : Bank). record b { table = table.after_bus b.table e }) same in
    subst (λ (x : Bank). IsWhole (with_bank d x)) (sym is) (at_table d (record (begun d.port.bank) { table = table.after_bus d.port.bank.table e }) w w.still)

-- Runs of the handler and tasks: the world's calls and what its classes held at the start aren't asked.

alike : (set : Set) (classes : Classes State) (blocks : Option ℕ) (d : Seen State) → StepsAlike (machinery rules set classes) (whole (world_of set blocks)) d
alike set classes blocks d = steps_alike (machinery rules set classes) (whole (world_of set blocks)) (record { set = refl; rules = refl; knows = refl }) d

pub irq_steps : (d e : Device) (c k : Classes State) (blocks : Option ℕ) (b : Bank) → b ≡ begun d.port.bank → d.port.bank.due ≡ [] → e.set ≡ d.set
    → seen e k ≡ after_irq (machinery rules d.set c) (seen (with_bank d b) c) → GoesOn b e.port.bank → Goes (serving 0) over (record d.port { bank = b }) e.port → AllByRecursion IsAccess e.port.bank.log
    → Steps (run_of d c blocks) (run_of e k blocks) Irq (TheBus Done)
irq_steps d e c k blocks b same due set step goes order fit =
    let w = worked d.port.bank e.port.bank due (subst (λ (x : Bank). GoesOn x e.port.bank) same goes) fit in
    record {
      set = set;
      blocks = refl;
      answered = refl;
      device = step ∙ ap (λ (x : Bank). after_irq (machinery rules d.set c) (seen (with_bank d x) c)) same ∙ (alike d.set c blocks (seen d c)).irq;
      turn = w.work;
      table = w.table;
      order = over_stays (loads d.port) (loads e.port) e.port.bank.log (subst (λ (x : Bank). Goes (serving 0) over (record d.port { bank = x }) e.port) same order);
    }

pub task_steps : (d e : Device) (c k : Classes State) (blocks : Option ℕ) (b : Bank) → b ≡ begun d.port.bank → d.port.bank.due ≡ [] → e.set ≡ d.set
    → seen e k ≡ after_task (machinery rules d.set c) (seen (with_bank d b) c) → GoesOn b e.port.bank → Goes (serving 0) (serving 0) (record d.port { bank = b }) e.port → AllByRecursion IsAccess e.port.bank.log
    → Steps (run_of d c blocks) (run_of e k blocks) Task (TheBus Done)
task_steps d e c k blocks b same due set step goes order fit =
    let w = worked d.port.bank e.port.bank due (subst (λ (x : Bank). GoesOn x e.port.bank) same goes) fit in
    record {
      set = set;
      blocks = refl;
      answered = refl;
      device = step ∙ ap (λ (x : Bank). after_task (machinery rules d.set c) (seen (with_bank d x) c)) same ∙ (alike d.set c blocks (seen d c)).task;
      turn = w.work;
      table = w.table;
      order = serving_stays d e b same order;
    }

-- The bus.

pub bus_steps : (d : Device) (c : Classes State) (blocks : Option ℕ) (mid new : Bank) (e : BusEvent) (result : BusAnswer) → EventKeeps FS4 d e → mid ≡ begun d.port.bank → result ≡ table.bus_answer mid.table e
    → new ≡ record mid { table = table.after_bus mid.table e } → Steps (run_of d c blocks) (run_of (with_bank d new) c blocks) (Line e) (TheBus result)
bus_steps d c blocks mid new e result k same answer after =
    let t : new.table ≡ table.after_bus d.port.bank.table e = ap (λ (b : Bank). b.table) after ∙ ap (λ (b : Bank). table.after_bus b.table e) same in
    let r : result ≡ table.bus_answer d.port.bank.table e = answer ∙ ap (λ (b : Bank). table.bus_answer b.table e) same in
    let none : new.log ≡ [] = ap (λ (b : Bank). b.log) after ∙ ap (λ (b : Bank). b.log) same in
    record {
      set = refl;
      blocks = refl;
      answered = ap TheBus (r ∙ k.answer);
      device = ap (λ (x : Table). seen (with_bank d (record d.port.bank { table = x })) c) t ∙ ap (λ (x : Core). record { core = x; classes = c }) k.core;
      turn = (none, ap TheBus r);
      table = t;
      order = none_stays (loads d.port) new.log none;
    }

-- Calls.

chosen : {A : Type 0} (core : Bool) (a b : A) → core ≡ false → (if core then a else b) ≡ b
chosen core a b e = rw (e) refl

-- the core of a device whose driver's device is this one
abbrev core_with : Port → Device → Core
core_with p d = record { bus = p.bus; pipes = p.pipes; session = d.state.configured; finished = d.finished; request = d.request; transfer = d.transfer }

beside_core : (o : Owner) (d e : Device) → Beside o d e → core_of e ≡ record (core_of d) { pipes = with_own d.set o (core_of d).pipes (own_of o e) }
beside_core o d e h =
    let p : Port = record (port_in d) { pipes = with_own d.set o (port_in d).pipes (own_of o e) } in
    let one : core_of e ≡ core_with p e = ap (λ (x : Port). core_with x e) h.port in
    let two : core_with p e ≡ core_with p d = rw (h.state, h.finished, h.request, h.transfer) refl in
    one ∙ two

-- what is asked of a class, and what it leaves
pub record Asked (d e : Device) (c k : Classes State) (call : DevCall) (said : Reply) : Type 0 where
  pub reply : said ≡ (calls (call_owner call)).reply (class_at c (call_owner call)) (own_of (call_owner call) d) call
  pub pipes : own_of (call_owner call) e ≡ (calls (call_owner call)).pipes_after_call (class_at c (call_owner call)) (own_of (call_owner call) d) call
  pub classes : k ≡ with_class c (call_owner call) ((calls (call_owner call)).after_call (class_at c (call_owner call)) (own_of (call_owner call) d) call)
  pub beside : Beside (call_owner call) d e

-- the device that it leaves
asked_after : (d e : Device) (c k : Classes State) (blocks : Option ℕ) (call : DevCall) (said : Reply) → is_core (call_owner call) ≡ false → Asked d e c k call said
    → seen e k ≡ after_call (whole (world_of d.set blocks)) (seen d c) (call_owner call) call
asked_after d e c k blocks call said class h =
    let o = call_owner call in
    let own = (calls o).pipes_after_call (class_at c o) (own_of o d) call in
    let after = with_class c o ((calls o).after_call (class_at c o) (own_of o d) call) in
    let one : seen e k ≡ record { core = record (core_of d) { pipes = with_own d.set o (core_of d).pipes (own_of o e) }; classes = k } =
    ap (λ (x : Core). record { core = x; classes = k }) (beside_core o d e h.beside) in
    let two : record { core = record (core_of d) { pipes = with_own d.set o (core_of d).pipes (own_of o e) }; classes = k }
    ≡ record { core = record (core_of d) { pipes = with_own d.set o (core_of d).pipes own }; classes = after } =
    ap (λ (x : Own). record { core = record (core_of d) { pipes = with_own d.set o (core_of d).pipes x }; classes = k }) h.pipes
    ∙ ap (λ (x : Classes State). record { core = record (core_of d) { pipes = with_own d.set o (core_of d).pipes own }; classes = x }) h.classes in
    one ∙ two ∙ sym (chosen (is_core o) (seen d c) (after_class_call (whole (world_of d.set blocks)) (seen d c) o call) class)

pub call_steps : (d e : Device) (c k : Classes State) (blocks : Option ℕ) (b : Bank) (call : DevCall) (said : Reply) → is_core (call_owner call) ≡ false → b ≡ begun d.port.bank → d.port.bank.due ≡ []
    → Asked (with_bank d b) e c k call said → AllByRecursion IsAccess e.port.bank.log
    → Steps (run_of d c blocks) (run_of e k blocks) (Call call) (TheReply said)
call_steps d e c k blocks b call said class same due h fit =
    let o = call_owner call in
    let w = worked d.port.bank e.port.bank due (subst (λ (x : Bank). GoesOn x e.port.bank) same h.beside.moves) fit in
    let g : Asked (with_bank d (begun d.port.bank)) e c k call said = subst (λ (x : Bank). Asked (with_bank d x) e c k call said) same h in
    record {
      set = h.beside.set;
      blocks = refl;
      answered = ap TheReply (g.reply ∙ sym (chosen (is_core o) (reply.Core (core_of d).bus.address (in_session (core_of d).session)) ((calls o).reply (class_at c o) (own_of o d) call) class));
      device = asked_after (with_bank d (begun d.port.bank)) e c k blocks call said class g;
      turn = w.work;
      table = w.table;
      order = serving_stays d e b same h.beside.order;
    }

-- A class is asked over a view of the device that was lent.
pub asked_same : {A : Type 0} (f : Own → A) (o p : Owner) (old lent : Device) (x : A) → p ≡ o → lent ≡ old → x ≡ f (own_of p lent) → x ≡ f (own_of o old)
asked_same f o p old lent x e g h = h ∙ ap (λ (q : Owner). f (own_of q lent)) e ∙ ap (λ (d : Device). f (own_of o d)) g

pub own_same : (o p : Owner) (d e : Device) (own : Own) → d ≡ e → p ≡ o → own_of p d ≡ own → own_of o e ≡ own
own_same o p d e own g h k = sym (ap (λ (x : Device). own_of o x) g) ∙ sym (ap (λ (q : Owner). own_of q d) h) ∙ k

-- what `state` tells of a device: the core answers it, and nothing else is done
told : (configured : Bool) (byte : ℕ) → byte ≡ bool_byte configured → byte ≡ in_session configured
told true byte e = e
told false byte e = e

pub state_steps : (d : Device) (c : Classes State) (blocks : Option ℕ) (b : Bank) (state : CoreState) (byte : ℕ) → b ≡ begun d.port.bank → state ≡ core_state (core_of (with_bank d b)) → byte ≡ bool_byte state.configured
    → Steps (run_of d c blocks) (run_of (with_bank d b) c blocks) (Call call.State) (TheReply (reply.Core state.addr byte))
state_steps d c blocks b state byte same tells is =
    let none : b.log ≡ [] = ap (λ (x : Bank). x.log) same in
    let table : b.table ≡ d.port.bank.table = ap (λ (x : Bank). x.table) same in
    let said : byte ≡ in_session d.state.configured = told state.configured byte is ∙ ap (λ (s : CoreState). in_session s.configured) tells in
    let address : state.addr ≡ (core_of (with_bank d b)).bus.address = ap (λ (s : CoreState). s.addr) tells in
    record {
      set = refl;
      blocks = refl;
      answered = ap (λ (n : ℕ). TheReply (reply.Core n byte)) (address ∙ ap (λ (t : Table). (core_of (with_bank d (record d.port.bank { table = t }))).bus.address) table)
          ∙ ap (λ (n : ℕ). TheReply (reply.Core (core_of d).bus.address n)) said;
      device = ap (λ (t : Table). seen (with_bank d (record d.port.bank { table = t })) c) table;
      turn = subst (λ (l : List Access). AreWork d.port.bank.table l) (sym none) (tt, omega arith, tt);
      table = table ∙ ap (λ (l : List Access). accesses_after d.port.bank.table l) (sym none);
      order = none_stays (loads d.port) b.log none;
    }
