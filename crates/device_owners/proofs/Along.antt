-- An owner's machine along its part of a schedule sees what the whole device is along all of it; so owners are kept apart.
use Rattle.std.proofs.Common.{◌≡◌, ℕ, zero, suc, ◌+◌, List, [], ◌∷◌, length, Bool, true, false, ◌==◌, ◌&&◌, ◌||◌, refl, ap, sym, ◌∙◌, subst}
use Rattle.std.specs.Prelude.{cond, if◌then◌else◌}
use Rattle.usb_packet.specs.declared.bus.Owner.{Owner}
use Rattle.usb_packet.specs.declared.bus.Owner.TheVariants as owners
use Rattle.usb_packet.specs.declared.bus.Toggle.{Toggle}
use Rattle.usb_packet.specs.declared.bus.BusEvent.{BusEvent}
use Rattle.usb_packet.specs.declared.bus.BusEvent.TheVariants as event
use Rattle.usb_packet.specs.declared.bus.BusAnswer.{BusAnswer}
use Rattle.usb_packet.specs.declared.bus.BusAnswer.TheVariants as answers
use Rattle.usb_descriptor.specs.Set.{is_core, same_owner, endpoints_of, owner_of_endpoint}
use Rattle.usb_descriptor.specs.declared.limits.EpLimits.{EpLimits}
use Rattle.usb_descriptor.specs.Served.{AreServed}
use Rattle.usb_pipe.specs.declared.reply.Reply.TheVariants as reply
use Rattle.device_line.specs.declared.line.DevLine.{DevLine}
use Rattle.device_line.specs.declared.line.DevLine.TheVariants.{Bus, Irq, Task, Call}
use Rattle.device_line.specs.declared.call.DevCall.{DevCall}
use Rattle.device_line.specs.declared.line.Answer.TheVariants as answer
use Rattle.device_machine.specs.Bus.{hears, hears_packet, control_out_answer, control_in_answer, bus_answer}
use Rattle.device_machine.specs.Pipes.{Pipes, out_slot_answer, in_slot_answer}
use Rattle.device_owners.specs.Knows.{knows_own}
use Rattle.device_owners.specs.Ends.{own_pipes}
use Rattle.device_owners.specs.Device.{Core, Device, emptied, start, after_bus, after_irq, after_task, World}
use Rattle.usb_pipe.specs.Classes.{class_at}
use Rattle.device_owners.specs.Lines.{call_owner, in_session, call_reply, after_class_call, after_call, line_answer, after_line, after_lines, whole, own, state_after, sees, part, with_setup, with_taken, taken_after, control_owner, packet_owner, own_answer, answer_to, whole_answer}
use Rattle.device_owners.specs.Isolation.{Isolates}
use Rattle.usb_descriptor.specs.Owners.{AreGrouped}
use Rattle.device_owners.proofs.Mask.{out_seen, in_seen, unopened_seen}
use Rattle.device_owners.proofs.Sets.{never, suc_not, knows_itself, knows_same, owned}
use Rattle.device_owners.proofs.Seen.{seen, state_seen, closed_seen}
use Rattle.device_owners.proofs.View.{of_both, both, view_request, view_pipes, has_at, quiet, view_core, view, Holds, bus_seen, core_unseen, event_seen, irq_view}
use Rattle.device_owners.proofs.Holding.{bus_holds, irq_holds, emptied_holds}
use Rattle.device_owners.proofs.Effects.{Facts}
use Rattle.device_owners.proofs.Task.{foreign_after, ours, own_seen, moved_seen, moved_unseen, moved_holds, task_view, task_holds}

-- What an owner's machine has of the whole device, where `last` is the owner of the last SETUP that a task took.
pub record Sees {S : Type 0} (world : World S) (o last : Owner) (w d : Device S) : Type 0 where
  -- another class has the control transfer
  pub foreign : Bool
  pub is : d ≡ view world o foreign w
  pub holds : Holds world.set o foreign last w.core

-- At the start.

first_seen : {S : Type 0} (world : World S) (o : Owner) → world.first ≡ seen world o (world.first)
first_seen world owners.Core = refl
first_seen world owners.Cdc = refl
first_seen world owners.Hid = refl
first_seen world owners.Msc = refl
first_seen world owners.Midi = refl

start_sees : {S : Type 0} (world : World S) (o : Owner) → Sees world o owners.Core (start world) (start world)
start_sees world o = record {
  foreign = false;
  is = both _ _ _ _ (ap (λ (q : Pipes). record (emptied false) { pipes = q }) (unopened_seen (has_at world.set o))) (first_seen world o);
  holds = emptied_holds world.set o owners.Core false;
}

-- A line in its part.

irq_both : {S : Type 0} (world : World S) (o : Owner) (foreign : Bool) (last : Owner) (w : Device S) → Holds world.set o foreign last w.core
    → after_irq (own world o) (view world o foreign w) ≡ view world o (if w.core.bus.reset then false else foreign) (after_irq (whole world) w)
irq_both world o false last w h =
    both _ _ _ _ (irq_view (has_at world.set o) o false w.core h.fits) (closed_seen world o (w.core.bus.reset && w.core.session) w.classes)
irq_both world o true last w h =
    both _ _ _ _ (irq_view (has_at world.set o) o true w.core h.fits) (closed_seen world o (w.core.bus.reset && w.core.session) w.classes)

call_both : {S : Type 0} (world : World S) (o y : Owner) → Facts world.set → knows_own o y ≡ true → (foreign : Bool) (w : Device S) (call : DevCall) (core : Bool)
    → (if core then view world o foreign w else after_class_call (own world o) (view world o foreign w) y call)
    ≡ view world o foreign (if core then w else after_class_call (whole world) w y call)
call_both world o y facts k foreign w call true = refl
call_both world o y facts k foreign w call false =
    moved_seen world o y facts k (λ x u. (world.calls y).pipes_after_call x u call) (λ x u. (world.calls y).after_call x u call) foreign w

call_holds : {S : Type 0} (world : World S) (o y : Owner) → Facts world.set → (foreign : Bool) (last : Owner) (w : Device S) (call : DevCall) (core : Bool) → is_core y ≡ core
    → Holds world.set o foreign last w.core → Holds world.set o foreign last (if core then w else after_class_call (whole world) w y call).core
call_holds world o y facts foreign last w call true class h = h
call_holds world o y facts foreign last w call false class h =
    moved_holds world.set o y facts class (λ x u. (world.calls y).pipes_after_call x u call) (λ x u. (world.calls y).after_call x u call) foreign last (class_at w.classes y) w h

step_seen : {S : Type 0} (world : World S) (o : Owner) → Facts world.set → (last : Owner) (w d : Device S) (line : DevLine) → sees world.set o line ≡ true → Sees world o last w d
    → Sees world o (with_taken (whole world) w last line) (after_line (whole world) w line) (after_line (own world o) d line)
step_seen world o facts last w d (Bus e) k s = record {
  foreign = s.foreign;
  is = ap (λ x. after_bus x e) s.is ∙ ap (λ x. of_both x (seen world o w.classes)) (bus_seen (has_at world.set o) s.foreign w.core e (event_seen world.set o e k));
  holds = bus_holds world.set o s.foreign last w.core e s.holds;
}
step_seen world o facts last w d Irq k s = record {
  foreign = if w.core.bus.reset then false else s.foreign;
  is = ap (after_irq (own world o)) s.is ∙ irq_both world o s.foreign last w s.holds;
  holds = irq_holds world.set o s.foreign last w.core s.holds;
}
step_seen world o facts last w d Task k s = record {
  foreign = foreign_after world.set o s.foreign w.core.request;
  is = ap (after_task (own world o)) s.is ∙ task_view world o facts s.foreign last w s.holds;
  holds = task_holds world o facts s.foreign last w s.holds;
}
step_seen world o facts last w d (Call call) k s = record {
  foreign = s.foreign;
  is = ap (λ x. after_call (own world o) x (call_owner call) call) s.is ∙ call_both world o (call_owner call) facts (knows_same o (call_owner call) k) s.foreign w call (is_core (call_owner call));
  holds = call_holds world o (call_owner call) facts s.foreign last w call (is_core (call_owner call)) refl s.holds;
}

-- And one that isn't.

call_unseen : {S : Type 0} (world : World S) (o y : Owner) → Facts world.set → same_owner o y ≡ false → (foreign : Bool) (w : Device S) (call : DevCall) (core : Bool) → is_core y ≡ core
    → view world o foreign w ≡ view world o foreign (if core then w else after_class_call (whole world) w y call)
call_unseen world o y facts k foreign w call true class = refl
call_unseen world o y facts k foreign w call false class =
    sym (moved_unseen world o y facts (ap (λ b. b || same_owner o y) class ∙ k) (λ x u. (world.calls y).pipes_after_call x u call) (λ x u. (world.calls y).after_call x u call) foreign
    (class_at w.classes y) w)

step_unseen : {S : Type 0} (world : World S) (o : Owner) → Facts world.set → (last : Owner) (w d : Device S) (line : DevLine) → sees world.set o line ≡ false → Sees world o last w d
    → Sees world o (with_taken (whole world) w last line) (after_line (whole world) w line) d
step_unseen world o facts last w d (Bus e) k s = record {
  foreign = s.foreign;
  is = s.is ∙ ap (λ x. of_both x (seen world o w.classes)) (sym (core_unseen world.set o s.foreign w.core s.holds.kept e k));
  holds = bus_holds world.set o s.foreign last w.core e s.holds;
}
step_unseen world o facts last w d Irq k s = never (sym k)
step_unseen world o facts last w d Task k s = never (sym k)
step_unseen world o facts last w d (Call call) k s = record {
  foreign = s.foreign;
  is = s.is ∙ call_unseen world o (call_owner call) facts k s.foreign w call (is_core (call_owner call)) refl;
  holds = call_holds world o (call_owner call) facts s.foreign last w call (is_core (call_owner call)) refl s.holds;
}

-- The owner of the last SETUP is found alike.

taken_same : {S : Type 0} (world : World S) (o last : Owner) (w d : Device S) (line : DevLine) → Sees world o last w d
    → with_taken (own world o) d last line ≡ with_taken (whole world) w last line
taken_same world o last w d (Bus e) s = refl
taken_same world o last w d Irq s = refl
taken_same world o last w d Task s = ap (λ (x : Device _). with_setup world.set last x.core.request) s.is ∙ ap (with_setup world.set last) (view_request (has_at world.set o) s.foreign w.core)
taken_same world o last w d (Call call) s = refl

taken_unseen : {S : Type 0} (world : World S) (o last : Owner) (w : Device S) (line : DevLine) → sees world.set o line ≡ false
    → last ≡ with_taken (whole world) w last line
taken_unseen world o last w (Bus e) k = refl
taken_unseen world o last w Irq k = refl
taken_unseen world o last w Task k = never (sym k)
taken_unseen world o last w (Call call) k = refl

-- Along a schedule.

pub record Along {S : Type 0} (world : World S) (o last : Owner) (w d : Device S) (lines parts : List DevLine) : Type 0 where
  pub sees : Sees world o (taken_after (whole world) w last lines) (after_lines (whole world) w lines) (after_lines (own world o) d parts)
  pub last_same : taken_after (own world o) d last parts ≡ taken_after (whole world) w last lines

along : {S : Type 0} (world : World S) (o : Owner) → Facts world.set → (lines : List DevLine) (last : Owner) (w d : Device S) → Sees world o last w d
    → Along world o last w d lines (part world.set o lines)
along world o facts [] last w d s = record { sees = s; last_same = refl }
along {S} world o facts (line ∷ lines) last w d s = by (sees world.set o line) refl (λ last' w' d' s'. along world o facts lines last' w' d' s')
  where
    by : (b : Bool) → sees world.set o line ≡ b → ((last' : Owner) (w' d' : Device S) → Sees world o last' w' d' → Along world o last' w' d' lines (part world.set o lines))
        → Along world o last w d (line ∷ lines) (cond b (line ∷ part world.set o lines) (part world.set o lines))
    by true k ih =
        let a = ih (with_taken (whole world) w last line) (after_line (whole world) w line) (after_line (own world o) d line) (step_seen world o facts last w d line k s) in
        record {
          sees = a.sees;
          last_same = ap (λ l. taken_after (own world o) (after_line (own world o) d line) l (part world.set o lines)) (taken_same world o last w d line s) ∙ a.last_same;
        }
    by false k ih =
        let a = ih (with_taken (whole world) w last line) (after_line (whole world) w line) d (step_unseen world o facts last w d line k s) in
        record {
          sees = a.sees;
          last_same = ap (λ l. taken_after (own world o) d l (part world.set o lines)) (taken_unseen world o last w line k) ∙ a.last_same;
        }

whole_sees : {S : Type 0} (world : World S) (o : Owner) → Facts world.set → (before : List DevLine)
    → Along world o owners.Core (start world) (start world) before (part world.set o before)
whole_sees world o facts before = along world o facts before owners.Core (start world) (start world) (start_sees world o)

-- Answers.

setup_answered : (at : ℕ → Bool) (foreign : Bool) (core : Core) (addr : ℕ) (bytes : List ℕ) (ok : Bool)
    → bus_answer core.bus core.pipes (event.Setup addr bytes ok) ≡ bus_answer (view_core at foreign core).bus (view_core at foreign core).pipes (event.Setup addr bytes ok)
setup_answered at false core addr bytes ok = refl
setup_answered at true core addr bytes ok = refl

zero_out : (at : ℕ → Bool) (foreign : Bool) (core : Core) (addr : ℕ) (toggle : Toggle) (packet : List ℕ) (ok : Bool) → foreign ≡ false
    → bus_answer core.bus core.pipes (event.Out addr 0 toggle packet ok) ≡ bus_answer (view_core at foreign core).bus (view_core at foreign core).pipes (event.Out addr 0 toggle packet ok)
zero_out at false core addr toggle packet ok e = refl
zero_out at true core addr toggle packet ok e = never (sym e)

zero_in : (at : ℕ → Bool) (foreign : Bool) (core : Core) (addr : ℕ) (ok : Bool) → foreign ≡ false
    → bus_answer core.bus core.pipes (event.In addr 0 ok) ≡ bus_answer (view_core at foreign core).bus (view_core at foreign core).pipes (event.In addr 0 ok)
zero_in at false core addr ok e = refl
zero_in at true core addr ok e = never (sym e)

abbrev answer_if : Bool → Bool → BusAnswer → BusAnswer → BusAnswer
answer_if hears_it is_zero zero_ other = if hears_it then (if is_zero then zero_ else other) else answers.NoAnswer

other_answer : (hears_it is_zero : Bool) (a b x y : BusAnswer) → is_zero ≡ false → x ≡ y → answer_if hears_it is_zero a x ≡ answer_if hears_it is_zero b y
other_answer true true a b x y e k = never (sym e)
other_answer true false a b x y e k = k
other_answer false is_zero a b x y e k = refl

suc_out : (at : ℕ → Bool) (foreign : Bool) (core : Core) (addr n : ℕ) (toggle : Toggle) (packet : List ℕ) (ok : Bool) → at (suc n) ≡ true
    → bus_answer core.bus core.pipes (event.Out addr (suc n) toggle packet ok) ≡ bus_answer (view_core at foreign core).bus (view_core at foreign core).pipes (event.Out addr (suc n) toggle packet ok)
suc_out at false core addr n toggle packet ok e =
    other_answer (hears_packet core.bus addr ok) (suc n == 0) (control_out_answer core.bus toggle) (control_out_answer core.bus toggle) _ _ (suc_not n)
    (ap (λ s. out_slot_answer s (length packet)) (sym (out_seen at core.pipes (suc n) e)))
suc_out at true core addr n toggle packet ok e =
    other_answer (hears_packet core.bus addr ok) (suc n == 0) (control_out_answer core.bus toggle) (control_out_answer (quiet core.bus) toggle) _ _ (suc_not n)
    (ap (λ s. out_slot_answer s (length packet)) (sym (out_seen at core.pipes (suc n) e)))

suc_in : (at : ℕ → Bool) (foreign : Bool) (core : Core) (addr n : ℕ) (ok : Bool) → at (128 + suc n) ≡ true
    → bus_answer core.bus core.pipes (event.In addr (suc n) ok) ≡ bus_answer (view_core at foreign core).bus (view_core at foreign core).pipes (event.In addr (suc n) ok)
suc_in at false core addr n ok e =
    other_answer (hears core.bus addr) (suc n == 0) (control_in_answer core.bus) (control_in_answer core.bus) _ _ (suc_not n) (ap in_slot_answer (sym (in_seen at core.pipes (suc n) e)))
suc_in at true core addr n ok e =
    other_answer (hears core.bus addr) (suc n == 0) (control_in_answer core.bus) (control_in_answer (quiet core.bus)) _ _ (suc_not n) (ap in_slot_answer (sym (in_seen at core.pipes (suc n) e)))

-- a call, by its owner's machine
core_reply : (at : ℕ → Bool) (foreign : Bool) (core : Core) → reply.Core core.bus.address (in_session core.session) ≡ reply.Core (view_core at foreign core).bus.address (in_session (view_core at foreign core).session)
core_reply at false core = refl
core_reply at true core = refl

replied : {S : Type 0} (world : World S) (y : Owner) → Facts world.set → (foreign : Bool) (w : Device S) (call : DevCall)
    → call_reply (whole world) w y call ≡ call_reply (own world y) (view world y foreign w) y call
replied {S} world y facts foreign w call = by (is_core y)
  where
    same : (world.calls y).reply (class_at w.classes y) (own_pipes world.set y w.core.pipes) call
        ≡ (world.calls y).reply (class_at (seen world y w.classes) y) (own_pipes world.set y (view_core (has_at world.set y) foreign w.core).pipes) call
    same =
        sym (ap (λ s. (world.calls y).reply s (own_pipes world.set y (view_core (has_at world.set y) foreign w.core).pipes) call) (state_seen world y y w.classes (knows_itself y))
        ∙ ap (λ p. (world.calls y).reply (class_at w.classes y) (own_pipes world.set y p) call) (view_pipes (has_at world.set y) foreign w.core)
        ∙ ap (λ u. (world.calls y).reply (class_at w.classes y) u call) (own_seen world.set y y (ours world.set facts y) (knows_itself y) w.core.pipes))

    by : (core : Bool)
        → (if core then reply.Core w.core.bus.address (in_session w.core.session) else (world.calls y).reply (class_at w.classes y) (own_pipes world.set y w.core.pipes) call)
        ≡ (if core then reply.Core (view_core (has_at world.set y) foreign w.core).bus.address (in_session (view_core (has_at world.set y) foreign w.core).session)
        else (world.calls y).reply (class_at (seen world y w.classes) y) (own_pipes world.set y (view_core (has_at world.set y) foreign w.core).pipes) call)
    by true = core_reply (has_at world.set y) foreign w.core
    by false = same

-- Each line is answered as its owner's own machine does.

-- the owner's machine after its part sees the whole device
sees_before : {S : Type 0} (world : World S) (o : Owner) → Facts world.set → (before : List DevLine)
    → Sees world o (taken_after (whole world) (start world) owners.Core before) (state_after (whole world) before) (state_after (own world o) (part world.set o before))
sees_before world o facts before = (whole_sees world o facts before).sees

-- an answer of that view is the owner's
of_view : {S : Type 0} (world : World S) (o last : Owner) (w d : Device S) (line : DevLine) (s : Sees world o last w d)
    → line_answer (whole world) w line ≡ line_answer (own world o) (view world o s.foreign w) line → line_answer (whole world) w line ≡ line_answer (own world o) d line
of_view world o last w d line s e = e ∙ ap (λ x. line_answer (own world o) x line) (sym s.is)

not_foreign : {S : Type 0} (world : World S) (o : Owner) (w d : Device S) (s : Sees world o o w d) → s.foreign ≡ false
not_foreign world o w d s = by s.foreign refl
  where
    by : (b : Bool) → s.foreign ≡ b → b ≡ false
    by true e = never (sym (s.holds.strange e) ∙ knows_itself o)
    by false e = refl

control_last : {S : Type 0} (world : World S) → Facts world.set → (before : List DevLine)
    → taken_after (whole world) (start world) owners.Core before ≡ control_owner world before
control_last world facts before = sym (whole_sees world owners.Core facts before).last_same

-- by the machine of the owner of endpoint 0
by_control : {S : Type 0} (world : World S) → Facts world.set → (before : List DevLine) (line : DevLine)
    → ((o : Owner) (foreign : Bool) → foreign ≡ false → line_answer (whole world) (state_after (whole world) before) line
    ≡ line_answer (own world o) (view world o foreign (state_after (whole world) before)) line)
    → whole_answer world before line ≡ own_answer world (control_owner world before) before line
by_control world facts before line e =
    let last = taken_after (whole world) (start world) owners.Core before in
    let w = state_after (whole world) before in
    let s = sees_before world last facts before in
    subst (λ o. whole_answer world before line ≡ own_answer world o before line) (control_last world facts before)
    (of_view world last last w (state_after (own world last) (part world.set last before)) line s
    (e last s.foreign (not_foreign world last w (state_after (own world last) (part world.set last before)) s)))

-- by the machine of an owner
by_owner : {S : Type 0} (world : World S) (o : Owner) → Facts world.set → (before : List DevLine) (line : DevLine)
    → ((foreign : Bool) → line_answer (whole world) (state_after (whole world) before) line
    ≡ line_answer (own world o) (view world o foreign (state_after (whole world) before)) line)
    → whole_answer world before line ≡ own_answer world o before line
by_owner world o facts before line e =
    let last = taken_after (whole world) (start world) owners.Core before in
    let s = sees_before world o facts before in
    of_view world o last (state_after (whole world) before) (state_after (own world o) (part world.set o before)) line s (e s.foreign)

-- by that of the owner of an endpoint other than 0
by_endpoint : {S : Type 0} (world : World S) → Facts world.set → (before : List DevLine) (n address : ℕ) (line : DevLine)
    → ((foreign : Bool) → line_answer (whole world) (state_after (whole world) before) line
    ≡ line_answer (own world (owner_of_endpoint world.set.config address)) (view world (owner_of_endpoint world.set.config address) foreign (state_after (whole world) before)) line)
    → whole_answer world before line ≡ own_answer world (packet_owner world before (suc n) address) before line
by_endpoint world facts before n address line e =
    subst (λ o. whole_answer world before line ≡ own_answer world o before line)
    (ap (λ b. if b then control_owner world before else owner_of_endpoint world.set.config address) (sym (suc_not n)))
    (by_owner world (owner_of_endpoint world.set.config address) facts before line e)

event_answered : {S : Type 0} (world : World S) → Facts world.set → (before : List DevLine) (e : BusEvent) → whole_answer world before (Bus e) ≡ answer_to world before (Bus e)
event_answered world facts before event.Reset = refl
event_answered world facts before (event.Setup addr bytes ok) =
    by_owner world owners.Core facts before (Bus (event.Setup addr bytes ok))
    (λ foreign. ap answer.Bus (setup_answered (has_at world.set owners.Core) foreign (state_after (whole world) before).core addr bytes ok))
event_answered world facts before (event.Out addr zero toggle packet ok) =
    by_control world facts before (Bus (event.Out addr zero toggle packet ok))
    (λ o foreign e. ap answer.Bus (zero_out (has_at world.set o) foreign (state_after (whole world) before).core addr toggle packet ok e))
event_answered world facts before (event.Out addr (suc n) toggle packet ok) =
    by_endpoint world facts before n (suc n) (Bus (event.Out addr (suc n) toggle packet ok))
    (λ foreign. ap answer.Bus (suc_out (has_at world.set (owner_of_endpoint world.set.config (suc n))) foreign (state_after (whole world) before).core addr n toggle packet ok
    (knows_itself (owner_of_endpoint world.set.config (suc n)))))
event_answered world facts before (event.In addr zero ok) =
    by_control world facts before (Bus (event.In addr zero ok)) (λ o foreign e. ap answer.Bus (zero_in (has_at world.set o) foreign (state_after (whole world) before).core addr ok e))
event_answered world facts before (event.In addr (suc n) ok) =
    by_endpoint world facts before n (128 + suc n) (Bus (event.In addr (suc n) ok))
    (λ foreign. ap answer.Bus (suc_in (has_at world.set (owner_of_endpoint world.set.config (128 + suc n))) foreign (state_after (whole world) before).core addr n ok
    (knows_itself (owner_of_endpoint world.set.config (128 + suc n)))))

line_answered : {S : Type 0} (world : World S) → Facts world.set → (before : List DevLine) (line : DevLine) → whole_answer world before line ≡ answer_to world before line
line_answered world facts before (Bus e) = event_answered world facts before e
line_answered world facts before Irq = refl
line_answered world facts before Task = refl
line_answered world facts before (Call call) =
    by_owner world (call_owner call) facts before (Call call) (λ foreign. ap answer.Reply (replied world (call_owner call) facts foreign (state_after (whole world) before) call))

pub isolates : {S : Type 0} (world : World S) (limits : EpLimits) → AreServed limits (endpoints_of world.set.config) → AreGrouped world.set → Isolates world
isolates world limits served grouped =
    let facts : Facts world.set = record { owned = owned (endpoints_of world.set.config) served.distinct; grouped = grouped } in
    record {
      answers = line_answered world facts;
      control = λ o before. (whole_sees world o facts before).last_same ∙ sym (whole_sees world owners.Core facts before).last_same;
    }
