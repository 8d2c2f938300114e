-- What each request, each bus event, each handler run and each task makes of the halts.
use Rattle.std.proofs.Common.{◌≡◌, ℕ, zero, suc, ◌+◌, ◌-◌, ◌<◌, List, [], ◌∷◌, length, map, Bool, true, false, if◌then◌else◌, Option, Some, None, refl, ap, sym, ◌∙◌}
use Rattle.std.specs.Prelude.{slice_index_or, nat_lt}
use Rattle.std.specs.List.{list_any}
use Rattle.usb_descriptor.specs.declared.endpoint.Endpoint.{Endpoint}
use Rattle.usb_pipe.specs.Classes.{class_at}
use Rattle.usb_control.specs.Table.{is_at}
use Rattle.device_machine.specs.declared.control.Stage.{Stage}
use Rattle.device_machine.specs.declared.control.Stage.TheVariants.{Sent, Came}
use Rattle.device_pipe.specs.OutPipe as out
use Rattle.device_pipe.specs.InPipe as inward
use Rattle.device_machine.specs.Bus.{finished_stage, last_of, pipes_after}
use Rattle.device_machine.specs.Pipes.{Pipes, OutSlot, InSlot, no_out_slot, no_in_slot, out_slot, in_slot, with_out_slot, with_in_slot, is_open_at, is_out_open, in_hears, out_halted, in_halted, out_cleared, in_cleared, with_halt, without_halt, halted_addresses, pipes_closed, out_closed, in_closed, out_opened, in_opened, with_endpoint_open, with_endpoints_open, session_pipes, pipes_after_irq, pipes_after_task}
use Rattle.device_machine.specs.Laws.{IsAddress}
use Rattle.device_machine.proofs.Slots.{Keep, out_at, in_at, out_set, in_set, either, out_opened as opened_of_out, in_opened as opened_of_in, outs_count, irq_keeps, task_keeps, bus_keeps, halts_of, halt_keeps, clear_keeps}
use Rattle.device_machine.proofs.Opens.{session_of}
use Rattle.device_owners.specs.Device.{Machinery, Device, Core, Transfer, Idle, Sending, Taking, Ending, Addressing, Foreign, emptied, with_stage, with_request, after_stages, new_address, core_after_irq, answered, advanced, known_endpoints, work_stage, work_request, with_control_worked}
use Rattle.device_owners.specs.Steps.{IsOpen, CoreServes, HaltsOne, KeepsHalts}
use Rattle.device_machine.proofs.Halts.{told_as, changed_out, changed_in, others_told, low_is, high_is, down}

-- SET_FEATURE and CLEAR_FEATURE

out_halts : (s : OutSlot) → is_out_open s.pipe.phase ≡ true → (out_halted s).pipe.halted ≡ true
out_halts s e = ap (λ b. (if b then record s { pipe = record s.pipe { halted = true } } else s).pipe.halted) e

in_halts : (s : InSlot) → in_hears s ≡ true → (in_halted s).pipe.halted ≡ true
in_halts s e = ap (λ b. (if b then record s { pipe = record s.pipe { halted = true } } else s).pipe.halted) e

out_clears : (s : OutSlot) → is_out_open s.pipe.phase ≡ true → (out_cleared s).pipe.halted ≡ false
out_clears s e = ap (λ b. (if b then record s { pipe = out.cleared s.pipe } else s).pipe.halted) e

in_clears : (s : InSlot) → in_hears s ≡ true → (in_cleared s).pipe.halted ≡ false
in_clears s e = ap (λ b. (if b then record s { pipe = inward.cleared s.pipe } else s).pipe.halted) e

out_open : (p : Pipes) (a n : ℕ) → n < 15 → a ≡ suc n → is_open_at p a ≡ true → is_out_open (out_slot p (suc n)).pipe.phase ≡ true
out_open p a n few is e =
    ap (λ x. is_out_open (out_slot p x).pipe.phase) (sym is)
    ∙ ap (λ b. if b then is_out_open (out_slot p a).pipe.phase else in_hears (in_slot p (a - 128))) (sym (low_is a n is few)) ∙ e

in_open : (p : Pipes) (a n : ℕ) → a ≡ 128 + suc n → is_open_at p a ≡ true → in_hears (in_slot p (suc n)) ≡ true
in_open p a n is e =
    ap (λ x. in_hears (in_slot p x)) (sym (down a n is))
    ∙ ap (λ b. if b then is_out_open (out_slot p a).pipe.phase else in_hears (in_slot p (a - 128))) (sym (high_is a n is)) ∙ e

halt_count : (p : Pipes) (a : ℕ) → length (with_halt p a).outs ≡ length p.outs
halt_count p a = outs_count opened_of_out opened_of_in (with_halt p a) p (halt_keeps p a)

clear_count : (p : Pipes) (a : ℕ) → length (without_halt p a).outs ≡ length p.outs
clear_count p a = outs_count opened_of_out opened_of_in (without_halt p a) p (clear_keeps p a)

pub halts_one : {S : Type 0} (m : Machinery S) (d : Device S) (address : ℕ) → IsOpen m d → IsAddress address → HaltsOne m d address
halts_one m d address h is =
    let p = d.core.pipes in
    let co = h.outs_count in
    let ci = h.ins_count in
    record {
      halts = λ open_. told_as (with_halt p address) true (halt_count p address ∙ co) address is
          (λ n few e. ap (λ (s : OutSlot). s.pipe.halted) (changed_out out_halted in_halted p address n few co e) ∙ out_halts (out_slot p (suc n)) (out_open p address n few e open_))
          (λ n few e. ap (λ (s : InSlot). s.pipe.halted) (changed_in out_halted in_halted p address n few ci e) ∙ in_halts (in_slot p (suc n)) (in_open p address n e open_));
      clears = λ open_. told_as (without_halt p address) false (clear_count p address ∙ co) address is
          (λ n few e. ap (λ (s : OutSlot). s.pipe.halted) (changed_out out_cleared in_cleared p address n few co e) ∙ out_clears (out_slot p (suc n)) (out_open p address n few e open_))
          (λ n few e. ap (λ (s : InSlot). s.pipe.halted) (changed_in out_cleared in_cleared p address n few ci e) ∙ in_clears (in_slot p (suc n)) (in_open p address n e open_));
      halts_others = λ other o ne. others_told out_halted in_halted p co address other (halt_count p address ∙ co) o ne;
      clears_others = λ other o ne. others_told out_cleared in_cleared p co address other (clear_count p address ∙ co) o ne;
    }

-- SET_CONFIGURATION

abbrev out_flag : OutSlot → Bool
out_flag s = s.pipe.halted

abbrev in_flag : InSlot → Bool
in_flag s = s.pipe.halted

record Calm (p : Pipes) : Type 0 where
  outs : (n : ℕ) → out_flag (out_slot p n) ≡ false
  ins : (n : ℕ) → in_flag (in_slot p n) ≡ false

calm_outs : (xs : List OutSlot) (n : ℕ) → out_flag (slice_index_or (map out_closed xs) n no_out_slot) ≡ false
calm_outs [] n = refl
calm_outs (x ∷ xs) zero = refl
calm_outs (x ∷ xs) (suc n) = calm_outs xs n

calm_ins : (xs : List InSlot) (n : ℕ) → in_flag (slice_index_or (map in_closed xs) n no_in_slot) ≡ false
calm_ins [] n = refl
calm_ins (x ∷ xs) zero = refl
calm_ins (x ∷ xs) (suc n) = calm_ins xs n

closed_calm : (p : Pipes) → Calm (pipes_closed p)
closed_calm p = record { outs = outs; ins = ins }
  where
    outs : (n : ℕ) → out_flag (out_slot (pipes_closed p) n) ≡ false
    outs zero = refl
    outs (suc n) = calm_outs p.outs n

    ins : (n : ℕ) → in_flag (in_slot (pipes_closed p) n) ≡ false
    ins zero = refl
    ins (suc n) = calm_ins p.ins n

opens_calm : (p : Pipes) (e : Endpoint) → Calm p → Keep out_flag in_flag (with_endpoint_open p e) p
opens_calm p e c =
    either out_flag in_flag (nat_lt e.addr 128) (with_out_slot p e.addr (out_opened e (out_slot p e.addr))) (with_in_slot p (e.addr - 128) (in_opened e (in_slot p (e.addr - 128)))) p
    (out_set out_flag in_flag p e.addr (out_opened e (out_slot p e.addr)) (sym (c.outs e.addr)))
    (in_set out_flag in_flag p (e.addr - 128) (in_opened e (in_slot p (e.addr - 128))) (sym (c.ins (e.addr - 128))))

calm_of : (new old : Pipes) → Keep out_flag in_flag new old → Calm old → Calm new
calm_of new old k c = record { outs = λ n. out_at out_flag in_flag new old k n ∙ c.outs n; ins = λ n. in_at out_flag in_flag new old k n ∙ c.ins n }

all_calm : (es : List Endpoint) (p : Pipes) → Calm p → Calm (with_endpoints_open p es)
all_calm [] p c = c
all_calm (e ∷ es) p c = all_calm es (with_endpoint_open p e) (calm_of (with_endpoint_open p e) p (opens_calm p e c) c)

session_calm : (es : List Endpoint) (p : Pipes) → length (session_pipes es p).outs ≡ 15 → (address : ℕ) → IsAddress address → list_any (is_at address) (halted_addresses (session_pipes es p)) ≡ false
session_calm es p c address is =
    let calm = all_calm es (pipes_closed p) (closed_calm p) in
    told_as (session_pipes es p) false c address is (λ n few e. calm.outs (suc n)) (λ n few e. calm.ins (suc n))

-- A handler run

stage_pipes : (core : Core) (stage : Option Stage) → (with_stage core stage).pipes ≡ core.pipes
stage_pipes core None = refl
stage_pipes core (Some stage) = refl

request_pipes : (core : Core) (request : Option (List ℕ)) → (with_request core request).pipes ≡ core.pipes
request_pipes core None = refl
request_pipes core (Some bytes) = refl

irq_halts : (core : Core) (address : Option ℕ) → halted_addresses (after_stages core address).pipes ≡ halted_addresses core.pipes
irq_halts core None =
    let staged = with_stage core (finished_stage core.bus.side) in
    let served = with_request staged (last_of core.bus.unserved) in
    halts_of (pipes_after_irq served.pipes) served.pipes (irq_keeps served.pipes) ∙ ap halted_addresses (request_pipes staged (last_of core.bus.unserved) ∙ stage_pipes core (finished_stage core.bus.side))
irq_halts core (Some n) = ap halted_addresses (stage_pipes core (finished_stage core.bus.side))

-- A task that has no SETUP

record Same {S : Type 0} (new old : Device S) : Type 0 where
  pipes : new.core.pipes ≡ old.core.pipes
  request : new.core.request ≡ old.core.request

answers_same : (core : Core) (taken : Bool) → ((answered core taken).pipes ≡ core.pipes) × ((answered core taken).request ≡ core.request)
answers_same core true = (refl, refl)
answers_same core false = (refl, refl)

advances : {S : Type 0} (m : Machinery S) (d : Device S) (transfer : Transfer) (stage : Stage) → Same (advanced m d transfer stage) d
advances m d (Sending []) Sent = record { pipes = refl; request = refl }
advances m d (Sending (packet ∷ packets)) Sent = record { pipes = refl; request = refl }
advances m d (Taking o setup) Sent = record { pipes = refl; request = refl }
advances m d Ending Sent = record { pipes = refl; request = refl }
advances m d (Addressing n) Sent = record { pipes = refl; request = refl }
advances m d Idle Sent = record { pipes = refl; request = refl }
advances m d Foreign Sent = record { pipes = refl; request = refl }
advances m d (Sending packets) (Came bytes) = record { pipes = refl; request = refl }
advances m d (Taking o setup) (Came bytes) =
    let same = answers_same d.core ((m.world.rules o).accepts (class_at d.classes o) setup bytes) in
    record { pipes = same.0; request = same.1 }
advances m d Ending (Came bytes) = record { pipes = refl; request = refl }
advances m d (Addressing n) (Came bytes) = record { pipes = refl; request = refl }
advances m d Idle (Came bytes) = record { pipes = refl; request = refl }
advances m d Foreign (Came bytes) = record { pipes = refl; request = refl }

stage_same : {S : Type 0} (m : Machinery S) (d : Device S) (stage : Option Stage) → Same (work_stage m d stage) d
stage_same m d None = record { pipes = refl; request = refl }
stage_same m d (Some stage) =
    let s = advances m (record d { core = record d.core { finished = None } }) d.core.transfer stage in
    record { pipes = s.pipes; request = s.request }

task_pipes : {S : Type 0} (m : Machinery S) (d : Device S) → d.core.request ≡ None → (with_control_worked m d).core.pipes ≡ d.core.pipes
task_pipes m d none =
    let mid = work_stage m d d.core.finished in
    let s = stage_same m d d.core.finished in
    ap (λ r. (work_request m mid r).core.pipes) (s.request ∙ none) ∙ s.pipes

pub keeps_halts : {S : Type 0} (m : Machinery S) (d : Device S) → IsOpen m d → KeepsHalts m d
keeps_halts m d h =
    let core = d.core in
    record {
      session = λ begins address is. session_calm (known_endpoints m begins) core.pipes (session_of (known_endpoints m begins) core.pipes h.outs_count h.ins_count).outs_count address is;
      bus = λ e address. ap (list_any (is_at address)) (halts_of (pipes_after core.bus core.pipes e) core.pipes (bus_keeps core.bus core.pipes e));
      irq = λ quiet address.
          ap (λ b. list_any (is_at address) (halted_addresses (if b then emptied true else after_stages core (new_address core.transfer (finished_stage core.bus.side))).pipes)) quiet
          ∙ ap (list_any (is_at address)) (irq_halts core (new_address core.transfer (finished_stage core.bus.side)));
      reset = λ resets address is. ap (λ b. list_any (is_at address) (halted_addresses (if b then emptied true else after_stages core (new_address core.transfer (finished_stage core.bus.side))).pipes)) resets;
      task = λ none address.
          let w = with_control_worked m d in
          ap (list_any (is_at address)) (halts_of (pipes_after_task w.core.pipes) w.core.pipes (task_keeps w.core.pipes) ∙ ap halted_addresses (task_pipes m d none));
    }

-- What each step of the device makes of its pipes.

stages_pipes : (core : Core) (address : Option ℕ) → address ≡ None → (after_stages core address).pipes ≡ pipes_after_irq core.pipes
stages_pipes core None e =
    let staged = with_stage core (finished_stage core.bus.side) in
    ap pipes_after_irq (request_pipes staged (last_of core.bus.unserved) ∙ stage_pipes core (finished_stage core.bus.side))
stages_pipes core (Some n) e = absurd (cc (e))

address_pipes : (core : Core) (address : Option ℕ) (n : ℕ) → address ≡ Some n → (after_stages core address).pipes ≡ core.pipes
address_pipes core None n e = absurd (cc (e))
address_pipes core (Some m) n e = stage_pipes core (finished_stage core.bus.side)

by_reset : (core : Core) (b : Bool) → core.bus.reset ≡ b → (core_after_irq core).pipes ≡ (if b then emptied true else after_stages core (new_address core.transfer (finished_stage core.bus.side))).pipes
by_reset core b e = ap (λ c. (if c then emptied true else after_stages core (new_address core.transfer (finished_stage core.bus.side))).pipes) e

pub core_serves : {S : Type 0} (m : Machinery S) (d : Device S) → CoreServes m d
core_serves m d =
    let core = d.core in
    record {
      bus = λ e. refl;
      irq = λ quiet none. by_reset core false quiet ∙ stages_pipes core (new_address core.transfer (finished_stage core.bus.side)) none;
      addressed = λ quiet n some. by_reset core false quiet ∙ address_pipes core (new_address core.transfer (finished_stage core.bus.side)) n some;
      reset = λ resets. by_reset core true resets;
      task = refl;
      quiet = λ none. ap pipes_after_task (task_pipes m d none);
    }
