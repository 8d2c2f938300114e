-- A task run: of an owner's machine as of the whole device.
use Rattle.std.proofs.Common.{◌≡◌, ℕ, zero, suc, ◌+◌, List, [], ◌∷◌, Bool, true, false, not, Option, Some, None, refl, ap, sym, ◌∙◌, subst}
use Rattle.std.specs.Prelude.{is_some, if◌then◌else◌}
use Rattle.std.specs.List.{AllByRecursion}
use Rattle.usb_packet.specs.declared.bus.Owner.{Owner}
use Rattle.usb_packet.specs.declared.bus.Toggle.TheVariants.{D1}
use Rattle.usb_packet.specs.declared.setup.Setup.{Setup}
use Rattle.usb_packet.specs.Setup.{fields_of}
use Rattle.usb_descriptor.specs.Set.{Set, is_core, endpoints_of, owner_of_endpoint}
use Rattle.usb_control.specs.Table.{choice, owner_of, named}
use Rattle.usb_pipe.specs.Own.{Own}
use Rattle.device_pipe.specs.OutPipe as out
use Rattle.device_pipe.specs.InPipe as inward
use Rattle.device_machine.specs.Bus.{is_empty}
use Rattle.device_machine.specs.Pipes.{Pipes, OutSlot, InSlot, no_out_slot, no_in_slot, out_slot, in_slot, with_out_slot, with_in_slot, pipes_after_task, halted_addresses}
use Rattle.usb_pipe.specs.Classes.{Classes, with_class, class_owners}
use Rattle.device_owners.specs.Knows.{knows_own}
use Rattle.device_owners.specs.Ends.{pipe_of, number_at, as_sender, as_receiver, own_pipes, with_sends, with_receives, with_own}
use Rattle.device_owners.specs.Device.{Core, Device, told, core_state, begun, foreign as made_foreign, taken_up, work_stage, work_request, with_request_worked, with_control_worked, told_came, told_came_each, told_ended_of, told_ended_each, with_notes_taken, worked, worked_each, after_task, World}
use Rattle.usb_pipe.specs.Classes.{class_at}
use Rattle.device_owners.specs.Lines.{whole, own, with_setup}
use Rattle.device_owners.proofs.Mask.{mask, masked, OutIs, InIs, out_seen, in_seen, with_out_seen, with_in_seen, with_out_unseen, with_in_unseen, task_seen, halt_told}
use Rattle.device_owners.proofs.Sets.{never, OutOf, InOf, in_number, out_number}
use Rattle.device_owners.proofs.Seen.{seen, state_seen, with_seen, with_unseen, told_seen, told_other, other_of}
use Rattle.device_owners.proofs.Choices.{choice_for, choice_same, of_endpoint}
use Rattle.device_owners.proofs.Kept.{AllAt, OutKept, InKept, Kept, task_kept, own_kept}
use Rattle.device_owners.proofs.View.{both, view_request, view_pipes, has_at, view_core, view, Fits, Holds}
use Rattle.device_owners.proofs.Stages.{stage_view, stage_staged}
use Rattle.device_owners.proofs.Effects.{Facts, begun_known, begun_unknown, begun_holds}

-- The SETUP note.

-- the owner's machine decides as the whole device does

decided : (set : Set) (o : Owner) (foreign : Bool) (core : Core) (setup : Setup) → knows_own o (owner_of set setup) ≡ true
    → choice set (core_state (view_core (has_at set o) foreign core)) setup ≡ choice set (core_state core) setup
decided set o false core setup k =
    choice_same set core.bus.address core.session (halted_addresses (masked (has_at set o) core.pipes)) (halted_addresses core.pipes) setup
    (λ e. halt_told (has_at set o) core.pipes (named setup) (sym (ap (λ x. knows_own o x) (of_endpoint set setup e)) ∙ k))
decided set o true core setup k =
    choice_same set core.bus.address core.session (halted_addresses (masked (has_at set o) core.pipes)) (halted_addresses core.pipes) setup
    (λ e. halt_told (has_at set o) core.pipes (named setup) (sym (ap (λ x. knows_own o x) (of_endpoint set setup e)) ∙ k))

abbrev untold : {S : Type 0} → Device S → Device S
untold d = record d { core = record d.core { request = None } }

untold_view : {S : Type 0} (world : World S) (o : Owner) (foreign : Bool) (d : Device S) → untold (view world o foreign d) ≡ view world o foreign (untold d)
untold_view world o false d = refl
untold_view world o true d = refl

taken_view : {S : Type 0} (world : World S) (o : Owner) → Facts world.set → (foreign : Bool) (d : Device S) (setup : Setup) (known : Bool) → knows_own o (owner_of world.set setup) ≡ known
    → Kept (owner_of_endpoint world.set.config) d.core.pipes → d.core.finished ≡ None → d.core.bus.taken ≡ false → d.core.bus.toggle ≡ D1
    → (if known then begun (own world o) (view world o foreign d) setup (choice world.set (core_state (view_core (has_at world.set o) foreign d.core)) setup)
    else record (view world o foreign d) { core = made_foreign (view_core (has_at world.set o) foreign d.core) })
    ≡ view world o (not known) (begun (whole world) d setup (choice world.set (core_state d.core) setup))
taken_view world o f foreign d setup true k h fin tak tog =
    ap (begun (own world o) (view world o foreign d) setup) (decided world.set o foreign d.core setup k)
    ∙ begun_known world o (owner_of world.set setup) f foreign d setup (choice world.set (core_state d.core) setup) (choice_for world.set (core_state d.core) setup) k fin tak tog
taken_view world o f foreign d setup false k h fin tak tog =
    begun_unknown world o (owner_of world.set setup) f foreign d setup (choice world.set (core_state d.core) setup) h (choice_for world.set (core_state d.core) setup) k fin

-- whether another class has the control transfer after a SETUP note
abbrev pub foreign_after : Set → Owner → Bool → Option (List ℕ) → Bool
foreign_after set o foreign None = foreign
foreign_after set o foreign (Some bytes) = not (knows_own o (owner_of set (fields_of bytes)))

request_view : {S : Type 0} (world : World S) (o : Owner) → Facts world.set → (foreign : Bool) (d : Device S) (note : Option (List ℕ))
    → Kept (owner_of_endpoint world.set.config) d.core.pipes → d.core.finished ≡ None → (is_some note ≡ true → d.core.bus.taken ≡ false) → (is_some note ≡ true → d.core.bus.toggle ≡ D1)
    → work_request (own world o) (view world o foreign d) note ≡ view world o (foreign_after world.set o foreign note) (work_request (whole world) d note)
request_view world o f foreign d None h fin tak tog = refl
request_view world o f foreign d (Some bytes) h fin tak tog =
    ap (λ x. taken_up (own world o) x (fields_of bytes)) (untold_view world o foreign d)
    ∙ taken_view world o f foreign (untold d) (fields_of bytes) (knows_own o (owner_of world.set (fields_of bytes))) refl h fin (tak refl) (tog refl)

-- The stage note and then the SETUP note.

control_view : {S : Type 0} (world : World S) (o : Owner) → Facts world.set → (foreign : Bool) (last : Owner) (d : Device S) → Holds world.set o foreign last d.core
    → with_control_worked (own world o) (view world o foreign d) ≡ view world o (foreign_after world.set o foreign d.core.request) (with_control_worked (whole world) d)
control_view world o f foreign last d h =
    let one = work_stage (whole world) d d.core.finished in
    let s = stage_staged world o foreign d h.fits in
    ap (with_request_worked (own world o)) (stage_view world o foreign d h.fits)
    ∙ ap (work_request (own world o) (view world o foreign one)) (view_request (has_at world.set o) foreign one.core)
    ∙ request_view world o f foreign one one.core.request (subst (Kept (owner_of_endpoint world.set.config)) (sym s.pipes) h.kept) s.finished
    (λ e. s.taken ∙ h.fresh.noted_taken (sym (ap is_some s.request) ∙ e)) (λ e. s.toggle ∙ h.fresh.noted_toggle (sym (ap is_some s.request) ∙ e))
    ∙ ap (λ r. view world o (foreign_after world.set o foreign r) (work_request (whole world) one one.core.request)) s.request

-- and what holds after them

request_holds : {S : Type 0} (world : World S) (o : Owner) → Facts world.set → (foreign : Bool) (last : Owner) (d : Device S) (note : Option (List ℕ)) → d.core.request ≡ note
    → Kept (owner_of_endpoint world.set.config) d.core.pipes → Fits o foreign d.core.transfer → (is_empty d.core.bus.unserved ≡ false → d.core.bus.taken ≡ false)
    → (is_empty d.core.bus.unserved ≡ false → d.core.bus.toggle ≡ D1) → (foreign ≡ true → knows_own o last ≡ false)
    → Holds world.set o (foreign_after world.set o foreign note) (with_setup world.set last note) (work_request (whole world) d note).core
request_holds world o f foreign last d None e h fits tak tog strange = record {
  kept = h;
  fits = fits;
  fresh = record {
    waits_taken = tak;
    waits_toggle = tog;
    noted_taken = λ k. never (sym (ap is_some e) ∙ k);
    noted_toggle = λ k. never (sym (ap is_some e) ∙ k);
    noted_side = λ k. never (sym (ap is_some e) ∙ k);
  };
  strange = strange;
}
request_holds world o f foreign last d (Some bytes) e h fits tak tog strange =
    let setup = fields_of bytes in
    begun_holds world o (owner_of world.set setup) (knows_own o (owner_of world.set setup)) refl f (untold d) setup (choice world.set (core_state (untold d).core) setup)
    (choice_for world.set (core_state (untold d).core) setup) h
    (record { waits_taken = tak; waits_toggle = tog; noted_taken = λ k. never k; noted_toggle = λ k. never k; noted_side = λ k. never k }) refl

control_holds : {S : Type 0} (world : World S) (o : Owner) → Facts world.set → (foreign : Bool) (last : Owner) (d : Device S) → Holds world.set o foreign last d.core
    → Holds world.set o (foreign_after world.set o foreign d.core.request) (with_setup world.set last d.core.request) (with_control_worked (whole world) d).core
control_holds world o f foreign last d h =
    let one = work_stage (whole world) d d.core.finished in
    let s = stage_staged world o foreign d h.fits in
    subst (λ r. Holds world.set o (foreign_after world.set o foreign r) (with_setup world.set last r) (work_request (whole world) one one.core.request).core) s.request
    (request_holds world o f foreign last one one.core.request refl (subst (Kept (owner_of_endpoint world.set.config)) (sym s.pipes) h.kept) s.fits
    (λ e. s.taken ∙ h.fresh.waits_taken (sym (ap is_empty s.unserved) ∙ e)) (λ e. s.toggle ∙ h.fresh.waits_toggle (sym (ap is_empty s.unserved) ∙ e)) h.strange)

-- The pipes' notes.

came_one : {S : Type 0} (world : World S) (o y : Owner) (s : OutSlot) → OutKept y s → (c : Classes S) (known : Bool) → knows_own o y ≡ known
    → told_came (own world o) (if known then s else no_out_slot) (seen world o c) ≡ seen world o (told_came (whole world) s c)
came_one world o y s h c true k = by (out.came s.pipe)
  where
    by : (b : Bool) → (if b then told (own world o) s.endpoint.owner (λ r x. r.after_came x (pipe_of s.endpoint)) (seen world o c) else seen world o c)
        ≡ seen world o (if b then told (whole world) s.endpoint.owner (λ r x. r.after_came x (pipe_of s.endpoint)) c else c)
    by true = told_seen world o s.endpoint.owner (λ r x. r.after_came x (pipe_of s.endpoint)) c
    by false = refl
came_one world o y s h c false k = by (out.came s.pipe)
  where
    by : (b : Bool) → seen world o c ≡ seen world o (if b then told (whole world) s.endpoint.owner (λ r x. r.after_came x (pipe_of s.endpoint)) c else c)
    by true = sym (told_other world o s.endpoint.owner (λ r x. r.after_came x (pipe_of s.endpoint)) c (other_of o s.endpoint.owner y k h.has))
    by false = refl

came_each : {S : Type 0} (world : World S) (o : Owner) (owner : ℕ → Owner) (xs : List OutSlot) → AllAt (λ n s. OutKept (owner n) s) xs → (c : Classes S)
    → told_came_each (own world o) (mask (λ n. knows_own o (owner n)) no_out_slot xs) (seen world o c) ≡ seen world o (told_came_each (whole world) xs c)
came_each world o owner [] h c = refl
came_each world o owner (x ∷ xs) (h, hs) c =
    ap (told_came_each (own world o) (mask (λ n. knows_own o (owner (suc n))) no_out_slot xs)) (came_one world o (owner 0) x h c (knows_own o (owner 0)) refl)
    ∙ came_each world o (λ n. owner (suc n)) xs hs (told_came (whole world) x c)

ended_one : {S : Type 0} (world : World S) (o y : Owner) (s : InSlot) → InKept y s → (c : Classes S) (known : Bool) → knows_own o y ≡ known
    → told_ended_of (own world o) (if known then s else no_in_slot).endpoint (inward.ended (if known then s else no_in_slot).pipe) (seen world o c)
    ≡ seen world o (told_ended_of (whole world) s.endpoint (inward.ended s.pipe) c)
ended_one world o y s h c true k = by (inward.ended s.pipe)
  where
    by : (n : Option ℕ) → told_ended_of (own world o) s.endpoint n (seen world o c) ≡ seen world o (told_ended_of (whole world) s.endpoint n c)
    by None = refl
    by (Some n) = told_seen world o s.endpoint.owner (λ r x. r.after_ended x (pipe_of s.endpoint) n) c
ended_one world o y s h c false k = by (inward.ended s.pipe)
  where
    by : (n : Option ℕ) → seen world o c ≡ seen world o (told_ended_of (whole world) s.endpoint n c)
    by None = refl
    by (Some n) = sym (told_other world o s.endpoint.owner (λ r x. r.after_ended x (pipe_of s.endpoint) n) c (other_of o s.endpoint.owner y k h.has))

ended_each : {S : Type 0} (world : World S) (o : Owner) (owner : ℕ → Owner) (xs : List InSlot) → AllAt (λ n s. InKept (owner n) s) xs → (c : Classes S)
    → told_ended_each (own world o) (mask (λ n. knows_own o (owner n)) no_in_slot xs) (seen world o c) ≡ seen world o (told_ended_each (whole world) xs c)
ended_each world o owner [] h c = refl
ended_each world o owner (x ∷ xs) (h, hs) c =
    ap (told_ended_each (own world o) (mask (λ n. knows_own o (owner (suc n))) no_in_slot xs)) (ended_one world o (owner 0) x h c (knows_own o (owner 0)) refl)
    ∙ ended_each world o (λ n. owner (suc n)) xs hs (told_ended_of (whole world) x.endpoint (inward.ended x.pipe) c)

notes_told : {S : Type 0} (world : World S) (o : Owner) (p : Pipes) → Kept (owner_of_endpoint world.set.config) p → (c : Classes S)
    → told_ended_each (own world o) (masked (has_at world.set o) p).ins (told_came_each (own world o) (masked (has_at world.set o) p).outs (seen world o c))
    ≡ seen world o (told_ended_each (whole world) p.ins (told_came_each (whole world) p.outs c))
notes_told world o p h c =
    ap (told_ended_each (own world o) (masked (has_at world.set o) p).ins) (came_each world o (λ n. owner_of_endpoint world.set.config (suc n)) p.outs h.outs c)
    ∙ ended_each world o (λ n. owner_of_endpoint world.set.config (128 + suc n)) p.ins h.ins (told_came_each (whole world) p.outs c)

notes_view : {S : Type 0} (world : World S) (o : Owner) (foreign : Bool) (d : Device S) → Kept (owner_of_endpoint world.set.config) d.core.pipes
    → with_notes_taken (own world o) (view world o foreign d) ≡ view world o foreign (with_notes_taken (whole world) d)
notes_view world o false d h =
    both _ _ _ _ (ap (λ (q : Pipes). record d.core { pipes = q }) (task_seen (has_at world.set o) d.core.pipes)) (notes_told world o d.core.pipes h d.classes)
notes_view world o true d h =
    both _ _ _ _ (ap (λ (q : Pipes). record (view_core (has_at world.set o) true d.core) { pipes = q }) (task_seen (has_at world.set o) d.core.pipes)) (notes_told world o d.core.pipes h d.classes)

pub with_pipes_hold : (set : Set) (o : Owner) (foreign : Bool) (last : Owner) (core : Core) (p : Pipes) → Holds set o foreign last core → Kept (owner_of_endpoint set.config) p
    → Holds set o foreign last (record core { pipes = p })
with_pipes_hold set o foreign last core p h k = record { kept = k; fits = h.fits; fresh = h.fresh; strange = h.strange }

notes_hold : {S : Type 0} (world : World S) (o : Owner) (foreign : Bool) (last : Owner) (d : Device S) → Holds world.set o foreign last d.core
    → Holds world.set o foreign last (with_notes_taken (whole world) d).core
notes_hold world o foreign last d h = with_pipes_hold world.set o foreign last d.core (pipes_after_task d.core.pipes) h (task_kept (owner_of_endpoint world.set.config) d.core.pipes h.kept)

-- A class moves its own pipes.

out_of_own : (set : Set) (o y : Owner) (b : Bool) → knows_own o y ≡ b → (n : ℕ) → OutOf (owner_of_endpoint set.config) y n → OutIs (has_at set o) b n
out_of_own set o y b k zero e = tt
out_of_own set o y b k (suc n) e = ap (λ x. knows_own o x) e ∙ k

in_of_own : (set : Set) (o y : Owner) (b : Bool) → knows_own o y ≡ b → (n : ℕ) → InOf (owner_of_endpoint set.config) y n → InIs (has_at set o) b n
in_of_own set o y b k zero e = tt
in_of_own set o y b k (suc n) e = ap (λ x. knows_own o x) e ∙ k

-- the numbers of an owner's pipes are of its own endpoints
pub record Ours (set : Set) (y : Owner) : Type 0 where
  pub sends : InOf (owner_of_endpoint set.config) y (number_at set y 0)
  pub receives : OutOf (owner_of_endpoint set.config) y (number_at set y 1)
  pub notifies : InOf (owner_of_endpoint set.config) y (number_at set y 2)

pub ours : (set : Set) → Facts set → (y : Owner) → Ours set y
ours set f y = record {
  sends = in_number (owner_of_endpoint set.config) y 0 refl (endpoints_of set.config) f.owned;
  receives = out_number (owner_of_endpoint set.config) y (endpoints_of set.config) f.owned;
  notifies = in_number (owner_of_endpoint set.config) y 2 refl (endpoints_of set.config) f.owned;
}

abbrev owns : InSlot → OutSlot → InSlot → Own
owns a b c = record { sends = as_sender a; receives = as_receiver b; notifies = as_sender c }

pub own_seen : (set : Set) (o y : Owner) → Ours set y → knows_own o y ≡ true → (p : Pipes) → own_pipes set y (masked (has_at set o) p) ≡ own_pipes set y p
own_seen set o y u k p =
    let q = masked (has_at set o) p in
    ap (λ x. owns x (out_slot q (number_at set y 1)) (in_slot q (number_at set y 2))) (in_seen (has_at set o) p (number_at set y 0) (in_of_own set o y true k (number_at set y 0) u.sends))
    ∙ ap (λ x. owns (in_slot p (number_at set y 0)) x (in_slot q (number_at set y 2))) (out_seen (has_at set o) p (number_at set y 1) (out_of_own set o y true k (number_at set y 1) u.receives))
    ∙ ap (λ x. owns (in_slot p (number_at set y 0)) (out_slot p (number_at set y 1)) x) (in_seen (has_at set o) p (number_at set y 2) (in_of_own set o y true k (number_at set y 2) u.notifies))

in_moved : (at : ℕ → Bool) (p : Pipes) (n : ℕ) (x : inward.InPipe) → InIs at true n
    → with_in_slot (masked at p) n (record (in_slot (masked at p) n) { pipe = x }) ≡ masked at (with_in_slot p n (record (in_slot p n) { pipe = x }))
in_moved at p n x is = ap (λ (s : InSlot). with_in_slot (masked at p) n (record s { pipe = x })) (in_seen at p n is) ∙ with_in_seen at p n (record (in_slot p n) { pipe = x }) is

out_moved : (at : ℕ → Bool) (p : Pipes) (n : ℕ) (x : out.OutPipe) → OutIs at true n
    → with_out_slot (masked at p) n (record (out_slot (masked at p) n) { pipe = x }) ≡ masked at (with_out_slot p n (record (out_slot p n) { pipe = x }))
out_moved at p n x is = ap (λ (s : OutSlot). with_out_slot (masked at p) n (record s { pipe = x })) (out_seen at p n is) ∙ with_out_seen at p n (record (out_slot p n) { pipe = x }) is

with_own_seen : (set : Set) (o y : Owner) → Ours set y → knows_own o y ≡ true → (p : Pipes) (w : Own) → with_own set y (masked (has_at set o) p) w ≡ masked (has_at set o) (with_own set y p w)
with_own_seen set o y u k p w =
    let one = with_sends p (number_at set y 0) w.sends in
    let two = with_receives one (number_at set y 1) w.receives in
    ap (λ q. with_sends (with_receives q (number_at set y 1) w.receives) (number_at set y 2) w.notifies)
    (in_moved (has_at set o) p (number_at set y 0) w.sends.pipe (in_of_own set o y true k (number_at set y 0) u.sends))
    ∙ ap (λ q. with_sends q (number_at set y 2) w.notifies) (out_moved (has_at set o) one (number_at set y 1) w.receives.pipe (out_of_own set o y true k (number_at set y 1) u.receives))
    ∙ in_moved (has_at set o) two (number_at set y 2) w.notifies.pipe (in_of_own set o y true k (number_at set y 2) u.notifies)

with_own_unseen : (set : Set) (o y : Owner) → Ours set y → knows_own o y ≡ false → (p : Pipes) (w : Own) → masked (has_at set o) (with_own set y p w) ≡ masked (has_at set o) p
with_own_unseen set o y u k p w =
    let one = with_sends p (number_at set y 0) w.sends in
    let two = with_receives one (number_at set y 1) w.receives in
    with_in_unseen (has_at set o) two (number_at set y 2) _ (in_of_own set o y false k (number_at set y 2) u.notifies)
    ∙ with_out_unseen (has_at set o) one (number_at set y 1) _ (out_of_own set o y false k (number_at set y 1) u.receives)
    ∙ with_in_unseen (has_at set o) p (number_at set y 0) _ (in_of_own set o y false k (number_at set y 0) u.sends)

-- a class does something with its state and its pipes
abbrev pub moved : {S : Type 0} → Set → Owner → (S → Own → Own) → (S → Own → S) → S → Device S → Device S
moved set y f g s d = record {
  core = record d.core { pipes = with_own set y d.core.pipes (f s (own_pipes set y d.core.pipes)) };
  classes = with_class d.classes y (g s (own_pipes set y d.core.pipes));
}

with_pipes_view : (at : ℕ → Bool) (foreign : Bool) (core : Core) (p q : Pipes) → p ≡ masked at q → record (view_core at foreign core) { pipes = p } ≡ view_core at foreign (record core { pipes = q })
with_pipes_view at false core p q e = ap (λ (x : Pipes). record core { pipes = x }) e
with_pipes_view at true core p q e = ap (λ (x : Pipes). record (view_core at true core) { pipes = x }) e

abbrev moved_with : {S : Type 0} → Set → Owner → (S → Own → Own) → (S → Own → S) → S → Core → Classes S → Pipes → Own → Device S
moved_with set y f g s core c p w = record { core = record core { pipes = with_own set y p (f s w) }; classes = with_class c y (g s w) }

pub moved_seen : {S : Type 0} (world : World S) (o y : Owner) → Facts world.set → knows_own o y ≡ true → (f : S → Own → Own) (g : S → Own → S) (foreign : Bool) (d : Device S)
    → moved world.set y f g (class_at (seen world o d.classes) y) (view world o foreign d)
    ≡ view world o foreign (moved world.set y f g (class_at d.classes y) d)
moved_seen {S} world o y facts k f g foreign d =
    let s = class_at d.classes y in
    let core = view_core (has_at world.set o) foreign d.core in
    let u = ours world.set facts y in
    let w = own_pipes world.set y d.core.pipes in
    ap (λ x. moved world.set y f g x (view world o foreign d)) (state_seen world o y d.classes k)
    ∙ ap (λ p. moved_with world.set y f g s core (seen world o d.classes) p (own_pipes world.set y p)) (view_pipes (has_at world.set o) foreign d.core)
    ∙ ap (λ x. moved_with world.set y f g s core (seen world o d.classes) (masked (has_at world.set o) d.core.pipes) x) (own_seen world.set o y u k d.core.pipes)
    ∙ both _ _ _ _
    (with_pipes_view (has_at world.set o) foreign d.core (with_own world.set y (masked (has_at world.set o) d.core.pipes) (f s w)) (with_own world.set y d.core.pipes (f s w)) (with_own_seen world.set o y u k d.core.pipes (f s w)))
    (with_seen world o y d.classes (g s w) k)

same_pipes_view : (at : ℕ → Bool) (foreign : Bool) (core : Core) (p : Pipes) → masked at p ≡ masked at core.pipes → view_core at foreign (record core { pipes = p }) ≡ view_core at foreign core
same_pipes_view at false core p e = ap (λ (x : Pipes). record core { pipes = x }) e
same_pipes_view at true core p e = ap (λ (x : Pipes). record (view_core at true core) { pipes = x }) e

pub moved_unseen : {S : Type 0} (world : World S) (o y : Owner) → Facts world.set → knows_own o y ≡ false → (f : S → Own → Own) (g : S → Own → S) (foreign : Bool) (s : S) (d : Device S)
    → view world o foreign (moved world.set y f g s d) ≡ view world o foreign d
moved_unseen world o y facts k f g foreign s d =
    let w = own_pipes world.set y d.core.pipes in
    both _ _ _ _
    (same_pipes_view (has_at world.set o) foreign d.core (with_own world.set y d.core.pipes (f s w)) (with_own_unseen world.set o y (ours world.set facts y) k d.core.pipes (f s w)))
    (with_unseen world o y d.classes (g s w) k)

pub moved_holds : {S : Type 0} (set : Set) (o y : Owner) → Facts set → is_core y ≡ false → (f : S → Own → Own) (g : S → Own → S) (foreign : Bool) (last : Owner) (s : S) (d : Device S)
    → Holds set o foreign last d.core → Holds set o foreign last (moved set y f g s d).core
moved_holds set o y facts class f g foreign last s d h =
    let u = ours set facts y in
    let w = f s (own_pipes set y d.core.pipes) in
    with_pipes_hold set o foreign last d.core (with_own set y d.core.pipes w) h
    (own_kept (owner_of_endpoint set.config) set y class u.sends u.receives u.notifies d.core.pipes w h.kept)

-- The classes work.

work_one : {S : Type 0} (world : World S) (o y : Owner) → Facts world.set → (foreign : Bool) (d : Device S) (known : Bool) → knows_own o y ≡ known
    → (if known then worked (own world o) y (view world o foreign d) else view world o foreign d) ≡ view world o foreign (worked (whole world) y d)
work_one world o y facts foreign d true k = moved_seen world o y facts k (world.rules y).pipes_after_work (world.rules y).after_work foreign d
work_one world o y facts foreign d false k = sym (moved_unseen world o y facts k (world.rules y).pipes_after_work (world.rules y).after_work foreign (class_at d.classes y) d)

works_view : {S : Type 0} (world : World S) (o : Owner) → Facts world.set → (foreign : Bool) (ys : List Owner) (d : Device S)
    → worked_each (own world o) ys (view world o foreign d) ≡ view world o foreign (worked_each (whole world) ys d)
works_view world o facts foreign [] d = refl
works_view world o facts foreign (y ∷ ys) d =
    ap (worked_each (own world o) ys) (work_one world o y facts foreign d (knows_own o y) refl) ∙ works_view world o facts foreign ys (worked (whole world) y d)

works_hold : {S : Type 0} (world : World S) (o : Owner) → Facts world.set → (foreign : Bool) (last : Owner) (ys : List Owner) → AllByRecursion (λ y. is_core y ≡ false) ys
    → (d : Device S) → Holds world.set o foreign last d.core → Holds world.set o foreign last (worked_each (whole world) ys d).core
works_hold world o facts foreign last [] all d h = h
works_hold world o facts foreign last (y ∷ ys) (class, all) d h =
    works_hold world o facts foreign last ys all (worked (whole world) y d)
    (moved_holds world.set o y facts class (world.rules y).pipes_after_work (world.rules y).after_work foreign last (class_at d.classes y) d h)

-- A task run.

pub task_view : {S : Type 0} (world : World S) (o : Owner) → Facts world.set → (foreign : Bool) (last : Owner) (d : Device S) → Holds world.set o foreign last d.core
    → after_task (own world o) (view world o foreign d) ≡ view world o (foreign_after world.set o foreign d.core.request) (after_task (whole world) d)
task_view world o facts foreign last d h =
    let b = foreign_after world.set o foreign d.core.request in
    let one = with_control_worked (whole world) d in
    ap (λ x. worked_each (own world o) class_owners (with_notes_taken (own world o) x)) (control_view world o facts foreign last d h)
    ∙ ap (worked_each (own world o) class_owners) (notes_view world o b one (control_holds world o facts foreign last d h).kept)
    ∙ works_view world o facts b class_owners (with_notes_taken (whole world) one)

pub task_holds : {S : Type 0} (world : World S) (o : Owner) → Facts world.set → (foreign : Bool) (last : Owner) (d : Device S) → Holds world.set o foreign last d.core
    → Holds world.set o (foreign_after world.set o foreign d.core.request) (with_setup world.set last d.core.request) (after_task (whole world) d).core
task_holds world o facts foreign last d h =
    works_hold world o facts (foreign_after world.set o foreign d.core.request) (with_setup world.set last d.core.request) class_owners (refl, (refl, (refl, (refl, tt))))
    (with_notes_taken (whole world) (with_control_worked (whole world) d))
    (notes_hold world o (foreign_after world.set o foreign d.core.request) (with_setup world.set last d.core.request) (with_control_worked (whole world) d)
    (control_holds world o facts foreign last d h))
