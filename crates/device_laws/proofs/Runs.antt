-- Handler runs and task runs, and from there every schedule.
use Rattle.std.proofs.Common.{◌≡◌, ◌<◌, ℕ, zero, suc, List, [], ◌∷◌, Bool, true, false, ◌||◌, ◌==◌, ◌++◌, length, is_some, if◌then◌else◌, Option, Some, None, refl, sym, ap, subst, ◌∙◌, arith, nat_lt, append_assoc}
use Rattle.std.proofs.lemmas.Bool.Decides.{nat_tests}
use Rattle.usb_packet.specs.declared.bus.Toggle.{Toggle}
use Rattle.usb_packet.specs.declared.bus.BusEvent.TheVariants as event
use Rattle.usb_packet.specs.declared.setup.Setup.{Setup}
use Rattle.usb_packet.specs.declared.bus.Owner.{Owner}
use Rattle.usb_packet.specs.Setup.{fields_of}
use Rattle.usb_pipe.specs.declared.decision.Decision.{Decision}
use Rattle.usb_pipe.specs.declared.decision.Decision.TheVariants as decision
use Rattle.usb_control.specs.declared.state.Effect.{Effect}
use Rattle.usb_control.specs.declared.state.Effect.TheVariants as effect
use Rattle.usb_control.specs.declared.state.Choice.{Choice}
use Rattle.usb_control.specs.declared.state.Choice.TheVariants.{Own, Class}
use Rattle.usb_control.specs.Table.{choice}
use Rattle.device_line.specs.declared.line.DevLine.{DevLine}
use Rattle.device_line.specs.declared.line.DevLine.TheVariants.{Bus, Irq, Task, Call}
use Rattle.device_machine.specs.declared.control.Stage.{Stage}
use Rattle.device_machine.specs.declared.control.Stage.TheVariants.{Sent, Came}
use Rattle.device_machine.specs.declared.control.Side.{Side}
use Rattle.device_machine.specs.declared.control.Side.TheVariants.{Off, Wait, Loaded, Last, Armed, Stall, Finished}
use Rattle.device_machine.specs.Bus.{is_empty, loaded, hears, hears_setup, hears_packet, bus_after, pipes_after, finished_stage, last_of}
use Rattle.device_machine.specs.Pipes.{Pipes, pipes_after_irq, in_slot, in_slot_answer}
use Rattle.device_machine.specs.Packets.{data_packets}
use Rattle.std.proofs.lemmas.List.{append-nil}
use Rattle.usb_pipe.specs.Classes.{Classes, class_at}
use Rattle.device_line.specs.declared.call.DevCall.{DevCall}
use Rattle.device_line.specs.declared.call.DevCall.TheVariants.{State, Cdc, Hid, Msc, Midi}
use Rattle.device_owners.specs.Device.{World, Device, Core, Transfer, Idle, Sending, Taking, Ending, Addressing, Foreign, emptied, core_state, new_address, with_request, after_stages, sending, answered, with_data, ending, class_staged, changed, begun, with_pipes_served, work_stage, with_request_worked, with_control_worked, after_task}
use Rattle.device_owners.specs.Lines.{call_owner, whole, line_answer, after_line, after_call, state_after, answer_to}
use Rattle.device_owners.specs.Isolation.{Isolates}
use Rattle.device_schedule.specs.Schedule.{answers_after}
use Rattle.device_schedule.proofs.Answers.{state_after-more}
use Rattle.device_laws.specs.World.{core_after, IsOfSet}
use Rattle.device_laws.proofs.Whole.{of_parts, isolated}
use Rattle.device_laws.specs.Seen.{Attention, Deaf, Waiting, Listening, Seen, unseen, asked_address, served, seen_irq, seen_line, seen_lines, seen_of}
use Rattle.device_laws.proofs.Stages.{some}
use Rattle.device_laws.proofs.Facts.{Attends, Quiet, Runs, Waits, Underway, Small, Serves, Matches, Fresh, Facts, facts_piped}
use Rattle.device_laws.proofs.Asks.{address_of, Bounded, Asks, asks}
use Rattle.device_laws.proofs.Steps.{put, in_facts, out_facts, setup_facts}

pub no_address : (transfer : Transfer) → new_address transfer None ≡ None
no_address Idle = refl
no_address (Sending packets) = refl
no_address (Taking o setup) = refl
no_address Foreign = refl
no_address Ending = refl
no_address (Addressing n) = refl

-- the SETUPs are served, or the packet that waits is loaded
loaded_quiet : {A : Type 0} (pending : Option A) (side : Side) → Quiet pending side → Quiet pending (loaded side)
loaded_quiet None side h = tt
loaded_quiet (Some x) side h = ap loaded h

loads : (last : Bool) (transfer : Transfer) (packet : List ℕ) → Waits last transfer → Underway transfer (if last then Last packet else Loaded packet)
loads true transfer packet h = h
loads false transfer packet h = h

loaded_underway : (transfer : Transfer) (side : Side) → Underway transfer side → Underway transfer (loaded side)
loaded_underway transfer Off h = tt
loaded_underway transfer (Wait packet last) h = loads last transfer packet h
loaded_underway transfer (Loaded packet) h = h
loaded_underway transfer (Last packet) h = h
loaded_underway transfer Armed h = h
loaded_underway transfer Stall h = tt
loaded_underway transfer (Finished stage) h = h

loads_none : (last : Bool) (packet : List ℕ) → finished_stage (if last then Last packet else Loaded packet) ≡ None
loads_none true packet = refl
loads_none false packet = refl

loaded_none : (side : Side) → finished_stage side ≡ None → finished_stage (loaded side) ≡ None
loaded_none Off h = refl
loaded_none (Wait packet last) h = loads_none last packet
loaded_none (Loaded packet) h = refl
loaded_none (Last packet) h = refl
loaded_none Armed h = refl
loaded_none Stall h = refl
loaded_none (Finished stage) h = h

none_due : (transfer : Transfer) (stage : Option Stage) → stage ≡ None → new_address transfer stage ≡ None
none_due transfer stage e = ap (new_address transfer) e ∙ no_address transfer

-- where a handler run finds no stage, or has noted it
request_facts : (core : Core) (seen : Seen) (unserved : List (List ℕ)) (taken : Bool) → finished_stage core.bus.side ≡ None → Facts (put core unserved core.bus.side taken) seen
    → Facts (with_request (put core unserved core.bus.side taken) (last_of unserved)) (served seen None)
request_facts core seen [] taken none h = record {
  attends = h.attends;
  address = h.address;
  bounded = h.bounded;
  count = refl;
  noted = h.noted ∙ still seen.unserved seen.noted h.count;
  due = none_due core.transfer (finished_stage (loaded core.bus.side)) (loaded_none core.bus.side none) ∙ sym (none_due core.transfer (finished_stage core.bus.side) none) ∙ h.due;
  matches = h.matches;
  fresh = h.fresh;
  quiet = loaded_quiet core.request core.bus.side h.quiet;
  settled = loaded_quiet core.finished core.bus.side h.settled;
  underway = loaded_underway core.transfer core.bus.side h.underway;
  small = h.small;
}
  where
    still : (n : ℕ) (b : Bool) → 0 ≡ n → b ≡ (nat_lt 0 n || b)
    still n b e = rw (← e) refl
request_facts core seen (x ∷ xs) taken none h =
    subst (λ o. Facts (with_request (put core (x ∷ xs) core.bus.side taken) o) (served seen None)) (sym h.matches) (record {
      attends = h.attends;
      address = h.address;
      bounded = h.bounded;
      count = refl;
      noted = rises seen.unserved (length xs) seen.noted h.count;
      due = no_address core.transfer ∙ sym (none_due core.transfer (finished_stage core.bus.side) none) ∙ h.due;
      matches = refl;
      fresh = h.fresh;
      quiet = refl;
      settled = off core.finished;
      underway = tt;
      small = h.small;
    })
  where
    rises : (n k : ℕ) (b : Bool) → suc k ≡ n → true ≡ (nat_lt 0 n || b)
    rises n k b e = grind (arith, nat_tests)

    off : {A : Type 0} (pending : Option A) → Quiet pending Off
    off None = tt
    off (Some a) = refl

quiet_off : {A : Type 0} (pending : Option A) → Quiet pending Off
quiet_off None = tt
quiet_off (Some x) = refl

-- a device with this transfer and this side
abbrev pub with_both : Core → Transfer → Side → Core
with_both core transfer side = record core { bus = record core.bus { side = side }; transfer = transfer }

-- a handler run that finds a stage notes it
stage_facts : (core : Core) (seen : Seen) (transfer : Transfer) (stage : Stage) → None ≡ seen.due → Facts (with_both core transfer (Finished stage)) seen
    → Facts (record (with_both core transfer Off) { finished = Some stage }) seen
stage_facts core seen transfer stage due h = record {
  attends = h.attends;
  address = h.address;
  bounded = h.bounded;
  count = h.count;
  noted = h.noted;
  due = no_address transfer ∙ due;
  matches = h.matches;
  fresh = h.fresh;
  quiet = quiet_off core.request;
  settled = refl;
  underway = tt;
  small = h.small;
}

-- and serves the SETUPs behind it
noted_facts : (core : Core) (seen : Seen) (transfer : Transfer) (stage : Stage) → None ≡ seen.due → Facts (with_both core transfer (Finished stage)) seen
    → Facts (with_pipes_served (with_request (record (with_both core transfer Off) { finished = Some stage }) (last_of core.bus.unserved))) (served seen None)
noted_facts core seen transfer stage due h =
    let noted = record (with_both core transfer Off) { finished = Some stage } in
    facts_piped (with_request noted (last_of core.bus.unserved)) (served seen None) (pipes_after_irq (with_request noted (last_of core.bus.unserved)).pipes)
    (request_facts noted seen core.bus.unserved core.bus.taken refl (stage_facts core seen transfer stage due h))

-- or sets the address
address_facts : (core : Core) (seen : Seen) (n : ℕ) (stage : Stage) → Facts (with_both core (Addressing n) (Finished stage)) seen
    → Facts (after_stages (with_both core (Addressing n) (Finished stage)) (Some n)) (served seen (Some n))
address_facts core seen n stage h = record {
  attends = h.attends;
  address = refl;
  bounded = h.small;
  count = h.count;
  noted = h.noted;
  due = refl;
  matches = h.matches;
  fresh = h.fresh;
  quiet = quiet_off core.request;
  settled = refl;
  underway = tt;
  small = h.small;
}

-- one that finds no stage
empty_facts : (core : Core) (seen : Seen) → finished_stage core.bus.side ≡ None → Facts core seen → Facts (with_pipes_served (with_request core (last_of core.bus.unserved))) (served seen None)
empty_facts core seen none h =
    let served_core = with_request core (last_of core.bus.unserved) in
    facts_piped served_core (served seen None) (pipes_after_irq served_core.pipes) (request_facts core seen core.bus.unserved core.bus.taken none h)

irq_by : (core : Core) (seen : Seen) (transfer : Transfer) (side : Side) → Facts (with_both core transfer side) seen
    → Facts (after_stages (with_both core transfer side) (new_address transfer (finished_stage side))) (served seen (new_address transfer (finished_stage side)))
irq_by core seen transfer Off h = subst (λ d. Facts (after_stages (with_both core transfer Off) d) (served seen d)) (sym (no_address transfer)) (empty_facts (with_both core transfer Off) seen refl h)
irq_by core seen transfer (Wait packet last) h =
    subst (λ d. Facts (after_stages (with_both core transfer (Wait packet last)) d) (served seen d)) (sym (no_address transfer))
    (empty_facts (with_both core transfer (Wait packet last)) seen refl h)
irq_by core seen transfer (Loaded packet) h =
    subst (λ d. Facts (after_stages (with_both core transfer (Loaded packet)) d) (served seen d)) (sym (no_address transfer))
    (empty_facts (with_both core transfer (Loaded packet)) seen refl h)
irq_by core seen transfer (Last packet) h =
    subst (λ d. Facts (after_stages (with_both core transfer (Last packet)) d) (served seen d)) (sym (no_address transfer))
    (empty_facts (with_both core transfer (Last packet)) seen refl h)
irq_by core seen transfer Armed h =
    subst (λ d. Facts (after_stages (with_both core transfer Armed) d) (served seen d)) (sym (no_address transfer)) (empty_facts (with_both core transfer Armed) seen refl h)
irq_by core seen transfer Stall h =
    subst (λ d. Facts (after_stages (with_both core transfer Stall) d) (served seen d)) (sym (no_address transfer)) (empty_facts (with_both core transfer Stall) seen refl h)
irq_by core seen Idle (Finished stage) h = noted_facts core seen Idle stage h.due h
irq_by core seen (Sending packets) (Finished stage) h = noted_facts core seen (Sending packets) stage h.due h
irq_by core seen (Taking o setup) (Finished stage) h = noted_facts core seen (Taking o setup) stage h.due h
irq_by core seen Foreign (Finished stage) h = noted_facts core seen Foreign stage h.due h
irq_by core seen Ending (Finished stage) h = noted_facts core seen Ending stage h.due h
irq_by core seen (Addressing n) (Finished stage) h = address_facts core seen n stage h

pub irq_facts : (core : Core) (seen : Seen) → Facts core seen → Facts (after_stages core (new_address core.transfer (finished_stage core.bus.side))) (served seen seen.due)
irq_facts core seen h =
    subst (λ d. Facts (after_stages core (new_address core.transfer (finished_stage core.bus.side))) (served seen d)) h.due
    (irq_by core seen core.transfer core.bus.side h)

-- A task run

-- what stands where a task takes the note of a SETUP
record Ready (core : Core) (seen : Seen) (bytes : List ℕ) : Type 0 where
  attends : Attends core.bus.awake core.bus.reset seen.attention
  address : core.bus.address ≡ seen.address
  bounded : seen.address < 128
  count : length core.bus.unserved ≡ seen.unserved
  due : None ≡ seen.due
  matches : Matches core.bus.unserved (Some bytes) core.transfer seen.request
  fresh : Fresh core.bus.unserved (Some bytes) core.bus.taken core.bus.toggle
  request : None ≡ core.request
  finished : None ≡ core.finished

abbrev pub without_note : Seen → Seen
without_note seen = record seen { noted = false }

serves_now : (unserved : List (List ℕ)) (bytes request : List ℕ) (before after : Transfer) → Matches unserved (Some bytes) before request → Serves None after bytes → Matches unserved None after request
serves_now [] bytes request before after h s = subst (λ r. Serves None after r) h s
serves_now (x ∷ xs) bytes request before after h s = h

fresh_still : (unserved : List (List ℕ)) (bytes : List ℕ) (taken : Bool) (toggle : Toggle) → Fresh unserved (Some bytes) taken toggle → Fresh unserved None taken toggle
fresh_still [] bytes taken toggle h = tt
fresh_still (x ∷ xs) bytes taken toggle h = h

-- endpoint 0 with the first stage of a request
begins : (core : Core) (seen : Seen) (bytes : List ℕ) (transfer : Transfer) (side : Side) → Ready core seen bytes → Underway transfer side → Small transfer → finished_stage side ≡ None → Serves None transfer bytes
    → Facts (with_both core transfer side) (without_note seen)
begins core seen bytes transfer side h underway small none serves = record {
  attends = h.attends;
  address = h.address;
  bounded = h.bounded;
  count = h.count;
  noted = sym (ap (λ o. is_some o) h.request);
  due = none_due transfer (finished_stage side) none ∙ h.due;
  matches = subst (λ o. Matches core.bus.unserved o transfer seen.request) h.request (serves_now core.bus.unserved bytes seen.request core.transfer transfer h.matches serves);
  fresh = subst (λ o. Fresh core.bus.unserved o core.bus.taken core.bus.toggle) h.request (fresh_still core.bus.unserved bytes core.bus.taken core.bus.toggle h.fresh);
  quiet = subst (λ o. Quiet o side) h.request tt;
  settled = subst (λ o. Quiet o side) h.finished tt;
  underway = underway;
  small = small;
}

waits_for : (packets : List (List ℕ)) (last : Bool) → Waits last (Sending packets)
waits_for packets true = tt
waits_for packets false = tt

-- neither the pipes nor a session have a part in this
session_facts : (core : Core) (seen : Seen) (pipes : Pipes) (session : Bool) → Facts core seen → Facts (record core { pipes = pipes; session = session }) seen
session_facts core seen pipes session h = record {
  attends = h.attends;
  address = h.address;
  bounded = h.bounded;
  count = h.count;
  noted = h.noted;
  due = h.due;
  matches = h.matches;
  fresh = h.fresh;
  quiet = h.quiet;
  settled = h.settled;
  underway = h.underway;
  small = h.small;
}

-- so an effect changes none of it
changed_facts : {S : Type 0} (world : World S) (d : Device S) (seen : Seen) (e : Effect) → Facts d.core seen → Facts (changed (whole world) d e).core seen
changed_facts world d seen effect.None h = h
changed_facts world d seen (effect.Address n) h = h
changed_facts world d seen (effect.Configure begins) h = session_facts d.core seen (changed (whole world) d (effect.Configure begins)).core.pipes begins h
changed_facts world d seen (effect.Halt a) h = facts_piped d.core seen (changed (whole world) d (effect.Halt a)).core.pipes h
changed_facts world d seen (effect.Clear a) h = facts_piped d.core seen (changed (whole world) d (effect.Clear a)).core.pipes h
changed_facts world d seen (effect.ClearInterface n) h = facts_piped d.core seen (changed (whole world) d (effect.ClearInterface n)).core.pipes h

sending_facts : (core : Core) (seen : Seen) (bytes : List ℕ) (packets : List (List ℕ)) → 0 < length packets → Ready core seen bytes → asked_address bytes ≡ None
    → Facts (sending core packets) (without_note seen)
sending_facts core seen bytes [] some h asked = absurd (omega arith)
sending_facts core seen bytes (packet ∷ packets) some h asked =
    begins core seen bytes (Sending packets) (Wait packet (is_empty packets)) h (waits_for packets (is_empty packets)) tt refl asked

data_facts : (core : Core) (seen : Seen) (bytes data_bytes : List ℕ) (asked : ℕ) → Ready core seen bytes → asked_address bytes ≡ None → Facts (with_data core data_bytes asked) (without_note seen)
data_facts core seen bytes data_bytes zero h e = begins core seen bytes Ending (Wait [] false) h tt tt refl e
data_facts core seen bytes data_bytes (suc n) h e = sending_facts core seen bytes (data_packets data_bytes (suc n)) (some data_bytes (suc n) (omega arith)) h e

ends : (e : Effect) → Runs (ending e)
ends effect.None = tt
ends (effect.Address n) = tt
ends (effect.Configure begins) = tt
ends (effect.Halt a) = tt
ends (effect.Clear a) = tt
ends (effect.ClearInterface n) = tt

small_ending : (e : Effect) → Bounded e → Small (ending e)
small_ending effect.None h = tt
small_ending (effect.Address n) h = h
small_ending (effect.Configure begins) h = tt
small_ending (effect.Halt a) h = tt
small_ending (effect.Clear a) h = tt
small_ending (effect.ClearInterface n) h = tt

serves_ending : (bytes : List ℕ) (e : Effect) → asked_address bytes ≡ address_of e → Serves None (ending e) bytes
serves_ending bytes effect.None h = h
serves_ending bytes (effect.Address n) h = h
serves_ending bytes (effect.Configure begins) h = h
serves_ending bytes (effect.Halt a) h = h
serves_ending bytes (effect.Clear a) h = h
serves_ending bytes (effect.ClearInterface n) h = h

refused_facts : (core : Core) (seen : Seen) (bytes : List ℕ) → Ready core seen bytes → Facts (with_both core Idle Stall) (without_note seen)
refused_facts core seen bytes h = begins core seen bytes Idle Stall h tt tt refl tt

-- a request of the core
own_facts : {S : Type 0} (world : World S) (d : Device S) (seen : Seen) (bytes : List ℕ) (decided : Decision) (e : Effect) → Ready d.core seen bytes → Asks (fields_of bytes) (Own decided e)
    → Facts (begun (whole world) d (fields_of bytes) (Own decided e)).core (without_note seen)
own_facts world d seen bytes (decision.Data items) e h asked =
    changed_facts world (record d { core = with_data d.core items.items (fields_of bytes).length }) (without_note seen) e (data_facts d.core seen bytes items.items (fields_of bytes).length h asked)
own_facts world d seen bytes (decision.Take n) e h asked = changed_facts world (record d { core = with_both d.core Idle Stall }) (without_note seen) e (refused_facts d.core seen bytes h)
own_facts world d seen bytes decision.Status e h asked =
    changed_facts world (record d { core = with_both d.core (ending e) (Wait [] false) }) (without_note seen) e
    (begins d.core seen bytes (ending e) (Wait [] false) h (ends e) (small_ending e asked.1) refl (serves_ending bytes e asked.0))
own_facts world d seen bytes decision.Stall e h asked = changed_facts world (record d { core = with_both d.core Idle Stall }) (without_note seen) e (refused_facts d.core seen bytes h)

-- and of a class, whatever that decides
class_facts : (core : Core) (seen : Seen) (bytes : List ℕ) (o : Owner) (decided : Decision) → Ready core seen bytes → asked_address bytes ≡ None
    → Facts (class_staged core o (fields_of bytes) decided) (without_note seen)
class_facts core seen bytes o (decision.Data items) h asked = data_facts core seen bytes items.items (fields_of bytes).length h asked
class_facts core seen bytes o (decision.Take n) h asked = begins core seen bytes (Taking o (fields_of bytes)) Armed h tt tt refl asked
class_facts core seen bytes o decision.Status h asked = begins core seen bytes Ending (Wait [] false) h tt tt refl asked
class_facts core seen bytes o decision.Stall h asked = refused_facts core seen bytes h

begun_facts : {S : Type 0} (world : World S) (d : Device S) (seen : Seen) (bytes : List ℕ) (c : Choice) → Ready d.core seen bytes → Asks (fields_of bytes) c
    → Facts (begun (whole world) d (fields_of bytes) c).core (without_note seen)
begun_facts world d seen bytes (Own decided e) h asked = own_facts world d seen bytes decided e h asked
begun_facts world d seen bytes (Class o) h asked =
    class_facts d.core seen bytes o ((world.rules o).decides (class_at d.classes o) (fields_of bytes)) h asked

-- a device with these notes and this transfer
abbrev pub noting : Core → Option Stage → Option (List ℕ) → Transfer → Core
noting core stage request transfer = record core { finished = stage; request = request; transfer = transfer }

due_off : (core : Core) (seen : Seen) → core.bus.side ≡ Off → new_address core.transfer (finished_stage core.bus.side) ≡ seen.due → None ≡ seen.due
due_off core seen e h = sym (none_due core.transfer (finished_stage core.bus.side) (ap finished_stage e)) ∙ h

-- a stage that a task works leaves all that the request needs
ready : (core : Core) (seen : Seen) (stage : Option Stage) (bytes : List ℕ) (transfer : Transfer) → Facts (noting core stage (Some bytes) transfer) seen → Ready (noting core None None transfer) seen bytes
ready core seen stage bytes transfer h = record {
  attends = h.attends;
  address = h.address;
  bounded = h.bounded;
  count = h.count;
  due = due_off (noting core stage (Some bytes) transfer) seen h.quiet h.due;
  matches = h.matches;
  fresh = h.fresh;
  request = refl;
  finished = refl;
}

other_transfer : (core : Core) (seen : Seen) (bytes : List ℕ) (transfer : Transfer) (side : Side) → Ready core seen bytes → Ready (with_both core transfer side) seen bytes
other_transfer core seen bytes transfer side h = record {
  attends = h.attends;
  address = h.address;
  bounded = h.bounded;
  count = h.count;
  due = h.due;
  matches = still core.bus.unserved bytes seen.request core.transfer transfer h.matches;
  fresh = h.fresh;
  request = h.request;
  finished = h.finished;
}
  where
    still : (unserved : List (List ℕ)) (bytes request : List ℕ) (a b : Transfer) → Matches unserved (Some bytes) a request → Matches unserved (Some bytes) b request
    still [] bytes request a b h = h
    still (x ∷ xs) bytes request a b h = h

-- the request is begun behind whatever stage was worked
behind : {S : Type 0} (world : World S) (core : Core) (classes : Classes S) (seen : Seen) (bytes : List ℕ) → Ready core seen bytes → (before : Core)
    → Facts (begun (whole world) (of_parts core classes) (fields_of bytes) (choice world.set (core_state before) (fields_of bytes))).core (without_note seen)
behind world core classes seen bytes h before =
    begun_facts world (of_parts core classes) seen bytes (choice world.set (core_state before) (fields_of bytes)) h (asks world.set (core_state before) (fields_of bytes))

-- and without a request it goes on
goes_on : (core : Core) (seen : Seen) (stage : Option Stage) (before after : Transfer) (side : Side) → Facts (noting core stage None before) seen → None ≡ seen.due
    → Underway after side → finished_stage side ≡ None → Small after → Matches core.bus.unserved None after seen.request
    → Facts (with_both (noting core None None before) after side) (without_note seen)
goes_on core seen stage before after side h due underway none small matches = record {
  attends = h.attends;
  address = h.address;
  bounded = h.bounded;
  count = h.count;
  noted = refl;
  due = none_due after (finished_stage side) none ∙ due;
  matches = matches;
  fresh = h.fresh;
  quiet = tt;
  settled = tt;
  underway = underway;
  small = small;
}

idle_matches : (unserved : List (List ℕ)) (before : Transfer) (request : List ℕ) → Matches unserved None before request → Matches unserved None Idle request
idle_matches [] before request h = tt
idle_matches (x ∷ xs) before request h = h

rests : (core : Core) (seen : Seen) (stage : Stage) (transfer : Transfer) → Facts (noting core (Some stage) None transfer) seen
    → Facts (with_both (noting core None None transfer) Idle core.bus.side) (without_note seen)
rests core seen stage transfer h =
    goes_on core seen (Some stage) transfer Idle core.bus.side h (due_off (noting core (Some stage) None transfer) seen h.settled h.due)
    (subst (Underway Idle) (sym h.settled) tt) (ap finished_stage h.settled) tt
    (idle_matches core.bus.unserved transfer seen.request h.matches)

sends_on : (unserved : List (List ℕ)) (before after : List (List ℕ)) (request : List ℕ) → Matches unserved None (Sending before) request → Matches unserved None (Sending after) request
sends_on [] before after request h = h
sends_on (x ∷ xs) before after request h = h

-- after a packet that a class took or refused
taking_ends : (unserved : List (List ℕ)) (o : Owner) (setup : Setup) (request : List ℕ) → Matches unserved None (Taking o setup) request → Matches unserved None Ending request
taking_ends [] o setup request h = h
taking_ends (x ∷ xs) o setup request h = h

answers_on : {S : Type 0} (world : World S) (core : Core) (classes : Classes S) (seen : Seen) (p : List ℕ) (o : Owner) (setup : Setup) (taken : Bool)
    → Facts (noting core (Some (Came p)) None (Taking o setup)) seen
    → Facts (with_request_worked (whole world) (of_parts (answered (noting core None None (Taking o setup)) taken) classes)).core (without_note seen)
answers_on world core classes seen p o setup true h =
    goes_on core seen (Some (Came p)) (Taking o setup) Ending (Wait [] false) h (due_off (noting core (Some (Came p)) None (Taking o setup)) seen h.settled h.due)
    tt refl tt (taking_ends core.bus.unserved o setup seen.request h.matches)
answers_on world core classes seen p o setup false h =
    goes_on core seen (Some (Came p)) (Taking o setup) Idle Stall h (due_off (noting core (Some (Came p)) None (Taking o setup)) seen h.settled h.due)
    tt refl tt (idle_matches core.bus.unserved (Taking o setup) seen.request h.matches)

-- a stage alone
stage_by : {S : Type 0} (world : World S) (core : Core) (classes : Classes S) (seen : Seen) (stage : Stage) (transfer : Transfer) → Facts (noting core (Some stage) None transfer) seen
    → Facts (with_control_worked (whole world) (of_parts (noting core (Some stage) None transfer) classes)).core (without_note seen)
stage_by world core classes seen Sent (Sending []) h = rests core seen Sent (Sending []) h
stage_by world core classes seen Sent (Sending (packet ∷ packets)) h =
    goes_on core seen (Some Sent) (Sending (packet ∷ packets)) (Sending packets) (Wait packet (is_empty packets)) h
    (due_off (noting core (Some Sent) None (Sending (packet ∷ packets))) seen h.settled h.due)
    (waits_for packets (is_empty packets)) refl tt (sends_on core.bus.unserved (packet ∷ packets) packets seen.request h.matches)
stage_by world core classes seen Sent (Taking o setup) h = rests core seen Sent (Taking o setup) h
stage_by world core classes seen Sent Ending h = rests core seen Sent Ending h
stage_by world core classes seen Sent (Addressing n) h = rests core seen Sent (Addressing n) h
stage_by world core classes seen Sent Idle h = rests core seen Sent Idle h
stage_by world core classes seen Sent Foreign h = absurd h.small
stage_by world core classes seen (Came p) (Sending packets) h = rests core seen (Came p) (Sending packets) h
stage_by world core classes seen (Came p) (Taking o setup) h =
    answers_on world core (work_stage (whole world) (of_parts (noting core (Some (Came p)) None (Taking o setup)) classes) (Some (Came p))).classes seen p o setup
    ((world.rules o).accepts (class_at classes o) setup p) h
stage_by world core classes seen (Came p) Ending h = rests core seen (Came p) Ending h
stage_by world core classes seen (Came p) (Addressing n) h = rests core seen (Came p) (Addressing n) h
stage_by world core classes seen (Came p) Idle h = rests core seen (Came p) Idle h
stage_by world core classes seen (Came p) Foreign h = absurd h.small

-- a request behind a stage that leaves this
after_stage : {S : Type 0} (world : World S) (core : Core) (classes : Classes S) (seen : Seen) (stage : Stage) (bytes : List ℕ) (transfer after : Transfer) (side : Side)
    → Facts (noting core (Some stage) (Some bytes) transfer) seen
    → Facts (begun (whole world) (of_parts (with_both (noting core None None transfer) after side) classes) (fields_of bytes) (choice world.set (core_state core) (fields_of bytes))).core (without_note seen)
after_stage world core classes seen stage bytes transfer after side h =
    behind world (with_both (noting core None None transfer) after side) classes seen bytes
    (other_transfer (noting core None None transfer) seen bytes after side (ready core seen (Some stage) bytes transfer h)) core

after_answer : {S : Type 0} (world : World S) (core : Core) (classes : Classes S) (seen : Seen) (p bytes : List ℕ) (o : Owner) (setup : Setup) (taken : Bool)
    → Facts (noting core (Some (Came p)) (Some bytes) (Taking o setup)) seen
    → Facts (with_request_worked (whole world) (of_parts (answered (noting core None (Some bytes) (Taking o setup)) taken) classes)).core (without_note seen)
after_answer world core classes seen p bytes o setup true h = after_stage world core classes seen (Came p) bytes (Taking o setup) Ending (Wait [] false) h
after_answer world core classes seen p bytes o setup false h = after_stage world core classes seen (Came p) bytes (Taking o setup) Idle Stall h

-- a stage and a request
both_by : {S : Type 0} (world : World S) (core : Core) (classes : Classes S) (seen : Seen) (stage : Stage) (bytes : List ℕ) (transfer : Transfer)
    → Facts (noting core (Some stage) (Some bytes) transfer) seen
    → Facts (with_control_worked (whole world) (of_parts (noting core (Some stage) (Some bytes) transfer) classes)).core (without_note seen)
both_by world core classes seen Sent bytes (Sending []) h = after_stage world core classes seen Sent bytes (Sending []) Idle core.bus.side h
both_by world core classes seen Sent bytes (Sending (packet ∷ packets)) h =
    after_stage world core classes seen Sent bytes (Sending (packet ∷ packets)) (Sending packets) (Wait packet (is_empty packets)) h
both_by world core classes seen Sent bytes (Taking o setup) h = after_stage world core classes seen Sent bytes (Taking o setup) Idle core.bus.side h
both_by world core classes seen Sent bytes Ending h = after_stage world core classes seen Sent bytes Ending Idle core.bus.side h
both_by world core classes seen Sent bytes (Addressing n) h = after_stage world core classes seen Sent bytes (Addressing n) Idle core.bus.side h
both_by world core classes seen Sent bytes Idle h = after_stage world core classes seen Sent bytes Idle Idle core.bus.side h
both_by world core classes seen Sent bytes Foreign h = absurd h.small
both_by world core classes seen (Came p) bytes (Sending packets) h = after_stage world core classes seen (Came p) bytes (Sending packets) Idle core.bus.side h
both_by world core classes seen (Came p) bytes (Taking o setup) h =
    after_answer world core (work_stage (whole world) (of_parts (noting core (Some (Came p)) (Some bytes) (Taking o setup)) classes) (Some (Came p))).classes seen p bytes o setup
    ((world.rules o).accepts (class_at classes o) setup p) h
both_by world core classes seen (Came p) bytes Ending h = after_stage world core classes seen (Came p) bytes Ending Idle core.bus.side h
both_by world core classes seen (Came p) bytes (Addressing n) h = after_stage world core classes seen (Came p) bytes (Addressing n) Idle core.bus.side h
both_by world core classes seen (Came p) bytes Idle h = after_stage world core classes seen (Came p) bytes Idle Idle core.bus.side h
both_by world core classes seen (Came p) bytes Foreign h = absurd h.small

control_by : {S : Type 0} (world : World S) (core : Core) (classes : Classes S) (seen : Seen) (stage : Option Stage) (request : Option (List ℕ)) (transfer : Transfer)
    → Facts (noting core stage request transfer) seen
    → Facts (with_control_worked (whole world) (of_parts (noting core stage request transfer) classes)).core (without_note seen)
control_by world core classes seen None None transfer h = record {
  attends = h.attends;
  address = h.address;
  bounded = h.bounded;
  count = h.count;
  noted = refl;
  due = h.due;
  matches = h.matches;
  fresh = h.fresh;
  quiet = tt;
  settled = tt;
  underway = h.underway;
  small = h.small;
}
control_by world core classes seen None (Some bytes) transfer h =
    behind world (noting core None None transfer) classes seen bytes (ready core seen None bytes transfer h) (noting core None (Some bytes) transfer)
control_by world core classes seen (Some stage) None transfer h = stage_by world core classes seen stage transfer h
control_by world core classes seen (Some stage) (Some bytes) transfer h = both_by world core classes seen stage bytes transfer h

-- the classes work on pipes alone
pub task_facts : {S : Type 0} (world : World S) (d : Device S) (seen : Seen) → Facts d.core seen → Facts (after_task (whole world) d).core (without_note seen)
task_facts world d seen h =
    facts_piped (with_control_worked (whole world) d).core (without_note seen) (after_task (whole world) d).core.pipes
    (control_by world d.core d.classes seen d.core.finished d.core.request d.core.transfer h)

-- Each line

reset_facts : (core : Core) (seen : Seen) → Facts core seen → Facts (record core { bus = record core.bus { awake = false; reset = true } }) (record seen { attention = Waiting })
reset_facts core seen h = record {
  attends = tt;
  address = h.address;
  bounded = h.bounded;
  count = h.count;
  noted = h.noted;
  due = h.due;
  matches = h.matches;
  fresh = h.fresh;
  quiet = h.quiet;
  settled = h.settled;
  underway = h.underway;
  small = h.small;
}

pub new_facts : (awake : Bool) (attention : Attention) → Attends awake false attention → Facts (emptied awake) (unseen attention)
new_facts awake attention a = record {
  attends = a;
  address = refl;
  bounded = omega arith;
  count = refl;
  noted = refl;
  due = refl;
  matches = tt;
  fresh = tt;
  quiet = tt;
  settled = tt;
  underway = tt;
  small = tt;
}

irq_holds : (core : Core) (seen : Seen) (awake reset : Bool) (attention : Attention) → Attends awake reset attention → Facts core seen
    → Facts (if reset then emptied true else after_stages core (new_address core.transfer (finished_stage core.bus.side))) (seen_irq seen attention)
irq_holds core seen false false Deaf a h = irq_facts core seen h
irq_holds core seen false true Deaf a h = absurd a
irq_holds core seen true reset Deaf a h = absurd a
irq_holds core seen false true Waiting a h = new_facts true Listening tt
irq_holds core seen false false Waiting a h = absurd a
irq_holds core seen true reset Waiting a h = absurd a
irq_holds core seen true false Listening a h = irq_facts core seen h
irq_holds core seen true true Listening a h = absurd a
irq_holds core seen false reset Listening a h = absurd a

-- a call is one to a class, or leaves the device
call_facts : {S : Type 0} (world : World S) (d : Device S) (seen : Seen) (call : DevCall) → Facts d.core seen → Facts (after_call (whole world) d (call_owner call) call).core seen
call_facts world d seen State h = h
call_facts world d seen (Cdc call) h = facts_piped d.core seen (after_call (whole world) d (call_owner (Cdc call)) (Cdc call)).core.pipes h
call_facts world d seen (Hid call) h = facts_piped d.core seen (after_call (whole world) d (call_owner (Hid call)) (Hid call)).core.pipes h
call_facts world d seen (Msc call) h = facts_piped d.core seen (after_call (whole world) d (call_owner (Msc call)) (Msc call)).core.pipes h
call_facts world d seen (Midi call) h = facts_piped d.core seen (after_call (whole world) d (call_owner (Midi call)) (Midi call)).core.pipes h

line_facts : {S : Type 0} (world : World S) (d : Device S) (seen : Seen) (line : DevLine) → Facts d.core seen
    → Facts (after_line (whole world) d line).core (seen_line seen line (line_answer (whole world) d line))
line_facts world d seen (Bus event.Reset) h = reset_facts d.core seen h
line_facts world d seen (Bus (event.Setup addr bytes ok)) h = setup_facts d.core seen bytes (hears_setup d.core.bus addr ok) h
line_facts world d seen (Bus (event.Out addr ep toggle packet ok)) h =
    let e = event.Out addr ep toggle packet ok in
    facts_piped (record d.core { bus = bus_after d.core.bus e }) seen (pipes_after d.core.bus d.core.pipes e)
    (out_facts d.core seen d.core.bus.unserved d.core.bus.side d.core.bus.taken (hears_packet d.core.bus addr ok) (ep == 0) toggle packet h)
line_facts world d seen (Bus (event.In addr ep ok)) h =
    let e = event.In addr ep ok in
    facts_piped (record d.core { bus = bus_after d.core.bus e }) (seen_line seen (Bus e) (line_answer (whole world) d (Bus e))) (pipes_after d.core.bus d.core.pipes e)
    (in_facts d.core seen d.core.bus.unserved d.core.bus.side d.core.bus.taken (hears d.core.bus addr) (ep == 0) ok (in_slot_answer (in_slot d.core.pipes ep)) h)
line_facts world d seen Irq h = irq_holds d.core seen d.core.bus.awake d.core.bus.reset seen.attention h.attends h
line_facts world d seen Task h = task_facts world d seen h
line_facts world d seen (Call call) h = call_facts world d seen call h

-- and a whole schedule, whose answers are the whole device's
after_facts : {S : Type 0} (world : World S) → Isolates world → (before lines : List DevLine) (seen : Seen) → Facts (core_after world before) seen
    → Facts (core_after world (before ++ lines)) (seen_lines seen lines (answers_after world before lines))
after_facts world apart before [] seen h = rw (append-nil before) h
after_facts world apart before (line ∷ lines) seen h =
    let d = state_after (whole world) before in
    let a = answer_to world before line in
    let step : Facts (after_line (whole world) d line).core (seen_line seen line a) = subst (λ t. Facts (after_line (whole world) d line).core (seen_line seen line t)) (apart.answers before line) (line_facts world d seen line h) in
    let more : Facts (core_after world (before ++ line ∷ [])) (seen_line seen line a) = subst (λ (t : Device _). Facts t.core (seen_line seen line a)) (sym (state_after-more world before line)) step in
    subst (λ ls. Facts (core_after world ls) (seen_lines (seen_line seen line a) lines (answers_after world (before ++ line ∷ []) lines))) (append_assoc before (line ∷ []) lines)
    (after_facts world apart (before ++ line ∷ []) lines (seen_line seen line a) more)

pub run_facts : {S : Type 0} (world : World S) → IsOfSet world → (lines : List DevLine) → Facts (core_after world lines) (seen_of world lines)
run_facts world of_set lines = after_facts world (isolated world of_set) [] lines (unseen Deaf) (new_facts false Deaf tt)
