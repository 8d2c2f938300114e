-- A request begun: by an owner's machine as by the whole device, and what holds after it.
use Rattle.std.proofs.Common.{◌≡◌, ℕ, List, [], ◌∷◌, Bool, true, false, not, None, refl, ap, sym, ◌∙◌, subst}
use Rattle.std.specs.Prelude.{is_some, filter, if◌then◌else◌}
use Rattle.usb_packet.specs.declared.bus.Owner.{Owner}
use Rattle.usb_packet.specs.declared.bus.Toggle.TheVariants.{D1}
use Rattle.usb_packet.specs.declared.setup.Setup.{Setup}
use Rattle.usb_pipe.specs.declared.decision.Decision.{Decision}
use Rattle.usb_descriptor.specs.declared.endpoint.Endpoint.{Endpoint}
use Rattle.usb_descriptor.specs.Set.{Set, endpoints_of, has_endpoint, owner_of_endpoint, owner_of_interface}
use Rattle.usb_control.specs.declared.state.Effect.{Effect}
use Rattle.usb_control.specs.declared.state.Effect.TheVariants as effect
use Rattle.usb_control.specs.declared.state.Choice.{Choice}
use Rattle.usb_control.specs.declared.state.Choice.TheVariants.{Own, Class}
use Rattle.device_machine.specs.declared.control.Side.{Side}
use Rattle.device_machine.specs.Pipes.{Pipes, OutSlot, InSlot, is_out_open, in_hears, is_open_at, session_pipes, out_halted, in_halted, out_cleared, in_cleared}
use Rattle.device_machine.specs.Session.{opened}
use Rattle.usb_pipe.specs.Classes.{Classes}
use Rattle.device_owners.specs.Knows.{knows_own}
use Rattle.device_owners.specs.Ends.{pipe_of}
use Rattle.device_owners.specs.Device.{Transfer, Core, Device, Machinery, told, with_side, ending, staged, class_staged, classes_closed, classes_opened, endpoint_in, told_cleared, told_cleared_each, changed, begun, foreign as made_foreign, World}
use Rattle.usb_pipe.specs.Classes.{class_at}
use Rattle.device_owners.specs.Lines.{whole, own}
use Rattle.usb_descriptor.specs.Owners.{AreGrouped}
use Rattle.device_owners.proofs.Mask.{masked, changed_seen, changed_unseen, told_at, halts_seen, halts_unseen, session_seen}
use Rattle.device_owners.proofs.Sets.{never, AreOwned, known_at}
use Rattle.device_owners.proofs.Seen.{seen, state_seen, told_seen, told_unseen, told_other, other_of, closed_seen, opened_seen}
use Rattle.device_owners.proofs.Choices.{IsFor, IsChosenFor}
use Rattle.device_owners.proofs.Kept.{Kept, endpoint_kept, halt_kept, clear_kept, clears_kept, session_kept, none_kept}
use Rattle.device_owners.proofs.View.{of_both, both, has_at, view_core, view, Fits, Fresh, Holds}
use Rattle.device_owners.proofs.Stages.{First, staged_first, class_first, first_view, foreign_view}

-- What is known of a set.
pub record Facts (set : Set) : Type 0 where
  pub owned : AreOwned (owner_of_endpoint set.config) (endpoints_of set.config)
  pub grouped : AreGrouped set

-- Classes learn of pipes that are cleared.

abbrev cleared_of : {S : Type 0} → Machinery S → Bool → Endpoint → Classes S → Classes S
cleared_of m opens e c = if opens then told m e.owner (λ r s. r.after_cleared s (pipe_of e)) c else c

abbrev out_endpoint : OutSlot → Endpoint
out_endpoint s = s.endpoint

abbrev in_endpoint : InSlot → Endpoint
in_endpoint s = s.endpoint

abbrev out_is_open : OutSlot → Bool
out_is_open s = is_out_open s.pipe.phase

cleared_seen : {S : Type 0} (world : World S) (o : Owner) (p : Pipes) (a : ℕ) (c : Classes S) → has_at world.set o a ≡ true
    → told_cleared (own world o) (masked (has_at world.set o) p) a (seen world o c) ≡ seen world o (told_cleared (whole world) p a c)
cleared_seen world o p a c e =
    ap (λ b. cleared_of (own world o) b (endpoint_in (masked (has_at world.set o) p) a) (seen world o c)) (told_at (has_at world.set o) out_is_open in_hears p a e)
    ∙ ap (λ x. cleared_of (own world o) (is_open_at p a) x (seen world o c)) (told_at (has_at world.set o) out_endpoint in_endpoint p a e)
    ∙ by (is_open_at p a)
  where
    by : (b : Bool) → cleared_of (own world o) b (endpoint_in p a) (seen world o c) ≡ seen world o (cleared_of (whole world) b (endpoint_in p a) c)
    by true = told_seen world o (endpoint_in p a).owner (λ r s. r.after_cleared s (pipe_of (endpoint_in p a))) c
    by false = refl

cleared_unseen : {S : Type 0} (world : World S) (o : Owner) (p : Pipes) → Kept (owner_of_endpoint world.set.config) p → (a : ℕ) (c : Classes S) → has_at world.set o a ≡ false
    → seen world o (told_cleared (whole world) p a c) ≡ seen world o c
cleared_unseen world o p h a c e = by (is_open_at p a)
  where
    by : (b : Bool) → seen world o (cleared_of (whole world) b (endpoint_in p a) c) ≡ seen world o c
    by true =
        told_other world o (endpoint_in p a).owner (λ r s. r.after_cleared s (pipe_of (endpoint_in p a))) c
        (other_of o (endpoint_in p a).owner (owner_of_endpoint world.set.config a) e (endpoint_kept (owner_of_endpoint world.set.config) p h a))
    by false = refl

cleared_each_seen : {S : Type 0} (world : World S) (o : Owner) (p : Pipes) (named : ℕ → Bool) → ((a : ℕ) → named a ≡ true → has_at world.set o a ≡ true)
    → (es : List Endpoint) (c : Classes S)
    → told_cleared_each (own world o) (masked (has_at world.set o) p) named es (seen world o c) ≡ seen world o (told_cleared_each (whole world) p named es c)
cleared_each_seen world o p named h [] c = refl
cleared_each_seen world o p named h (e ∷ es) c =
    ap (told_cleared_each (own world o) (masked (has_at world.set o) p) named es) (by (named e.addr) refl)
    ∙ cleared_each_seen world o p named h es (if named e.addr then told_cleared (whole world) p e.addr c else c)
  where
    by : (b : Bool) → named e.addr ≡ b
        → (if b then told_cleared (own world o) (masked (has_at world.set o) p) e.addr (seen world o c) else seen world o c) ≡ seen world o (if b then told_cleared (whole world) p e.addr c else c)
    by true k = cleared_seen world o p e.addr c (h e.addr k)
    by false k = refl

cleared_each_unseen : {S : Type 0} (world : World S) (o : Owner) (p : Pipes) → Kept (owner_of_endpoint world.set.config) p → (named : ℕ → Bool)
    → ((a : ℕ) → named a ≡ true → has_at world.set o a ≡ false) → (es : List Endpoint) (c : Classes S)
    → seen world o (told_cleared_each (whole world) p named es c) ≡ seen world o c
cleared_each_unseen world o p kept named h [] c = refl
cleared_each_unseen world o p kept named h (e ∷ es) c =
    cleared_each_unseen world o p kept named h es (if named e.addr then told_cleared (whole world) p e.addr c else c) ∙ by (named e.addr) refl
  where
    by : (b : Bool) → named e.addr ≡ b → seen world o (if b then told_cleared (whole world) p e.addr c else c) ≡ seen world o c
    by true k = cleared_unseen world o p kept e.addr c (h e.addr k)
    by false k = refl

-- What a request of the core changes.

filter_all : (es : List Endpoint) → filter (λ (e : Endpoint). true) es ≡ es
filter_all [] = refl
filter_all (e ∷ es) = ap (λ xs. e ∷ xs) (filter_all es)

session_view : (set : Set) (o : Owner) → Facts set → (begins : Bool) (p : Pipes)
    → session_pipes (filter (λ (e : Endpoint). knows_own o e.owner) (opened set begins)) (masked (has_at set o) p)
    ≡ masked (has_at set o) (session_pipes (filter (λ (e : Endpoint). true) (opened set begins)) p)
session_view set o f begins p = by begins ∙ ap (λ es. masked (has_at set o) (session_pipes es p)) (sym (filter_all (opened set begins)))
  where
    by : (b : Bool) → session_pipes (filter (λ (e : Endpoint). knows_own o e.owner) (opened set b)) (masked (has_at set o) p) ≡ masked (has_at set o) (session_pipes (opened set b) p)
    by true = session_seen (has_at set o) (knows_own o) (endpoints_of set.config) (known_at (owner_of_endpoint set.config) (knows_own o) (endpoints_of set.config) f.owned) p
    by false = session_seen (has_at set o) (knows_own o) [] tt p

known_halt : (set : Set) (o x : Owner) (a : ℕ) → owner_of_endpoint set.config a ≡ x → (b : Bool) → knows_own o x ≡ b → has_at set o a ≡ b
known_halt set o x a is b k = ap (λ y. knows_own o y) is ∙ k

known_group : (set : Set) (o x : Owner) → Facts set → (n : ℕ) → owner_of_interface set.config n ≡ x → (b : Bool) → knows_own o x ≡ b
    → (a : ℕ) → has_endpoint set.config n a ≡ true → has_at set o a ≡ b
known_group set o x f n is b k a e = ap (λ y. knows_own o y) (f.grouped n a e ∙ is) ∙ k

changed_known : {S : Type 0} (world : World S) (o x : Owner) → Facts world.set → (d : Device S) (e : Effect) → IsFor world.set x e → knows_own o x ≡ true
    → changed (own world o) (view world o false d) e ≡ view world o false (changed (whole world) d e)
changed_known world o x f d effect.None is k = refl
changed_known world o x f d (effect.Address n) is k = refl
changed_known world o x f d (effect.Configure begins) is k =
    both _ _ _ _
    (ap (λ (q : Pipes). record d.core { pipes = q; session = begins }) (session_view world.set o f begins d.core.pipes))
    (ap (classes_opened (own world o) begins) (closed_seen world o d.core.session d.classes) ∙ opened_seen world o begins (classes_closed (whole world) d.core.session d.classes))
changed_known world o x f d (effect.Halt a) is k =
    ap (λ (q : Pipes). record { core = record d.core { pipes = q }; classes = seen world o d.classes }) (changed_seen (has_at world.set o) out_halted in_halted d.core.pipes a (known_halt world.set o x a is true k))
changed_known world o x f d (effect.Clear a) is k =
    both _ _ _ _
    (ap (λ (q : Pipes). record d.core { pipes = q }) (changed_seen (has_at world.set o) out_cleared in_cleared d.core.pipes a (known_halt world.set o x a is true k)))
    (cleared_seen world o d.core.pipes a d.classes (known_halt world.set o x a is true k))
changed_known world o x f d (effect.ClearInterface n) is k =
    both _ _ _ _
    (ap (λ (q : Pipes). record d.core { pipes = q }) (halts_seen (has_at world.set o) (has_endpoint world.set.config n) (known_group world.set o x f n is true k) d.core.pipes (endpoints_of world.set.config)))
    (cleared_each_seen world o d.core.pipes (has_endpoint world.set.config n) (known_group world.set o x f n is true k) (endpoints_of world.set.config) d.classes)

changed_unknown : {S : Type 0} (world : World S) (o x : Owner) → Facts world.set → (d : Device S) → Kept (owner_of_endpoint world.set.config) d.core.pipes
    → (e : Effect) → IsFor world.set x e → knows_own o x ≡ false → view world o true (changed (whole world) d e) ≡ view world o true d
changed_unknown world o x f d h effect.None is k = refl
changed_unknown world o x f d h (effect.Address n) is k = refl
changed_unknown world o x f d h (effect.Configure begins) is k = never (sym k ∙ ap (λ y. knows_own o y) is)
changed_unknown world o x f d h (effect.Halt a) is k =
    ap (λ (q : Pipes). record (view world o true d) { core = record (view_core (has_at world.set o) true d.core) { pipes = q } })
    (changed_unseen (has_at world.set o) out_halted in_halted d.core.pipes a (known_halt world.set o x a is false k))
changed_unknown world o x f d h (effect.Clear a) is k =
    both _ _ _ _
    (ap (λ (q : Pipes). record (view_core (has_at world.set o) true d.core) { pipes = q }) (changed_unseen (has_at world.set o) out_cleared in_cleared d.core.pipes a (known_halt world.set o x a is false k)))
    (cleared_unseen world o d.core.pipes h a d.classes (known_halt world.set o x a is false k))
changed_unknown world o x f d h (effect.ClearInterface n) is k =
    both _ _ _ _
    (ap (λ (q : Pipes). record (view_core (has_at world.set o) true d.core) { pipes = q })
    (halts_unseen (has_at world.set o) (has_endpoint world.set.config n) (known_group world.set o x f n is false k) d.core.pipes (endpoints_of world.set.config)))
    (cleared_each_unseen world o d.core.pipes h (has_endpoint world.set.config n) (known_group world.set o x f n is false k) (endpoints_of world.set.config) d.classes)

configured_kept : (set : Set) → Facts set → (begins : Bool) (p : Pipes) → Kept (owner_of_endpoint set.config) p
    → Kept (owner_of_endpoint set.config) (session_pipes (filter (λ (e : Endpoint). true) (opened set begins)) p)
configured_kept set f begins p h = subst (λ es. Kept (owner_of_endpoint set.config) (session_pipes es p)) (sym (filter_all (opened set begins))) (by begins)
  where
    by : (b : Bool) → Kept (owner_of_endpoint set.config) (session_pipes (opened set b) p)
    by true = session_kept (owner_of_endpoint set.config) (endpoints_of set.config) f.owned p h
    by false = none_kept (owner_of_endpoint set.config) p h

with_kept : (set : Set) (o : Owner) (foreign : Bool) (last : Owner) (core : Core) (p : Pipes) (session : Bool) → Holds set o foreign last core → Kept (owner_of_endpoint set.config) p
    → Holds set o foreign last (record core { pipes = p; session = session })
with_kept set o foreign last core p session h k = record { kept = k; fits = h.fits; fresh = h.fresh; strange = h.strange }

changed_holds : {S : Type 0} (world : World S) (o : Owner) (foreign : Bool) (last : Owner) → Facts world.set → (d : Device S) (e : Effect) → Holds world.set o foreign last d.core
    → Holds world.set o foreign last (changed (whole world) d e).core
changed_holds world o foreign last f d effect.None h = h
changed_holds world o foreign last f d (effect.Address n) h = h
changed_holds world o foreign last f d (effect.Configure begins) h = with_kept world.set o foreign last d.core _ begins h (configured_kept world.set f begins d.core.pipes h.kept)
changed_holds world o foreign last f d (effect.Halt a) h = with_kept world.set o foreign last d.core _ d.core.session h (halt_kept (owner_of_endpoint world.set.config) d.core.pipes a h.kept)
changed_holds world o foreign last f d (effect.Clear a) h = with_kept world.set o foreign last d.core _ d.core.session h (clear_kept (owner_of_endpoint world.set.config) d.core.pipes a h.kept)
changed_holds world o foreign last f d (effect.ClearInterface n) h =
    with_kept world.set o foreign last d.core _ d.core.session h (clears_kept (owner_of_endpoint world.set.config) (has_endpoint world.set.config n) d.core.pipes (endpoints_of world.set.config) h.kept)

-- A request of an owner that is known.

-- an owner that is known has any transfer, and another none with an address
ending_fits : (set : Set) (o x : Owner) (known : Bool) → knows_own o x ≡ known → (e : Effect) → IsFor set x e → Fits o (not known) (ending e)
ending_fits set o x known k effect.None is = tt
ending_fits set o x true k (effect.Address n) is = refl
ending_fits set o x false k (effect.Address n) is = never (sym k ∙ ap (λ y. knows_own o y) is)
ending_fits set o x known k (effect.Configure begins) is = tt
ending_fits set o x known k (effect.Halt a) is = tt
ending_fits set o x known k (effect.Clear a) is = tt
ending_fits set o x known k (effect.ClearInterface n) is = tt

twice : (b : Bool) → b ≡ not (not b)
twice true = refl
twice false = refl

class_known : (o x y : Owner) (b : Bool) → y ≡ x → knows_own o x ≡ b → knows_own o y ≡ b
class_known o x y b is k = ap (λ z. knows_own o z) is ∙ k

begun_own_known : {S : Type 0} (world : World S) (o x : Owner) → Facts world.set → (foreign : Bool) (d : Device S) (setup : Setup) (decision : Decision) (e : Effect)
    → IsFor world.set x e → knows_own o x ≡ true → d.core.finished ≡ None → d.core.bus.taken ≡ false → d.core.bus.toggle ≡ D1
    → First o false (λ core. staged core decision e setup.length)
    → begun (own world o) (view world o foreign d) setup (Own decision e) ≡ view world o false (begun (whole world) d setup (Own decision e))
begun_own_known world o x f foreign d setup decision e is k fin tak tog first =
    ap (λ core. changed (own world o) (of_both core (seen world o d.classes)) e)
    (first.is (view_core (has_at world.set o) foreign d.core) ∙ first_view (has_at world.set o) foreign d.core first.side first.transfer fin tak tog)
    ∙ changed_known world o x f (of_both (with_side d.core first.side first.transfer) d.classes) e is k
    ∙ ap (λ core. view world o false (changed (whole world) (of_both core d.classes) e)) (sym (first.is d.core))

begun_class_known : {S : Type 0} (world : World S) (o y : Owner) (foreign : Bool) (d : Device S) (setup : Setup)
    → knows_own o y ≡ true → d.core.finished ≡ None → d.core.bus.taken ≡ false → d.core.bus.toggle ≡ D1
    → First o false (λ core. class_staged core y setup ((world.rules y).decides (class_at d.classes y) setup))
    → begun (own world o) (view world o foreign d) setup (Class y) ≡ view world o false (begun (whole world) d setup (Class y))
begun_class_known world o y foreign d setup k fin tak tog first =
    both _ _ _ _
    (ap (λ s. class_staged (view_core (has_at world.set o) foreign d.core) y setup ((world.rules y).decides s setup)) (state_seen world o y d.classes k)
    ∙ first.is (view_core (has_at world.set o) foreign d.core) ∙ first_view (has_at world.set o) foreign d.core first.side first.transfer fin tak tog
    ∙ ap (view_core (has_at world.set o) false) (sym (first.is d.core)))
    (told_seen world o y (λ r s. r.after_setup s setup) d.classes)

pub begun_known : {S : Type 0} (world : World S) (o x : Owner) → Facts world.set → (foreign : Bool) (d : Device S) (setup : Setup) (c : Choice)
    → IsChosenFor world.set x c → knows_own o x ≡ true → d.core.finished ≡ None → d.core.bus.taken ≡ false → d.core.bus.toggle ≡ D1
    → begun (own world o) (view world o foreign d) setup c ≡ view world o false (begun (whole world) d setup c)
begun_known world o x f foreign d setup (Own decision e) is k fin tak tog =
    begun_own_known world o x f foreign d setup decision e is k fin tak tog (staged_first o false decision e setup.length (ending_fits world.set o x true k e is))
begun_known world o x f foreign d setup (Class y) is k fin tak tog =
    begun_class_known world o y foreign d setup (class_known o x y true is k) fin tak tog
    (class_first o false y setup ((world.rules y).decides (class_at d.classes y) setup) (class_known o x y true is k))

-- And of another.

begun_own_unknown : {S : Type 0} (world : World S) (o x : Owner) → Facts world.set → (foreign : Bool) (d : Device S) (setup : Setup) (decision : Decision) (e : Effect)
    → Kept (owner_of_endpoint world.set.config) d.core.pipes → IsFor world.set x e → knows_own o x ≡ false → d.core.finished ≡ None
    → First o true (λ core. staged core decision e setup.length)
    → of_both (made_foreign (view_core (has_at world.set o) foreign d.core)) (seen world o d.classes) ≡ view world o true (begun (whole world) d setup (Own decision e))
begun_own_unknown world o x f foreign d setup decision e h is k fin first =
    ap (λ core. of_both core (seen world o d.classes)) (foreign_view (has_at world.set o) foreign d.core first.side first.transfer fin)
    ∙ sym (changed_unknown world o x f (of_both (with_side d.core first.side first.transfer) d.classes) h e is k)
    ∙ ap (λ core. view world o true (changed (whole world) (of_both core d.classes) e)) (sym (first.is d.core))

begun_class_unknown : {S : Type 0} (world : World S) (o y : Owner) (foreign : Bool) (d : Device S) (setup : Setup)
    → knows_own o y ≡ false → d.core.finished ≡ None
    → First o true (λ core. class_staged core y setup ((world.rules y).decides (class_at d.classes y) setup))
    → of_both (made_foreign (view_core (has_at world.set o) foreign d.core)) (seen world o d.classes) ≡ view world o true (begun (whole world) d setup (Class y))
begun_class_unknown world o y foreign d setup k fin first =
    both _ _ _ _
    (foreign_view (has_at world.set o) foreign d.core first.side first.transfer fin ∙ ap (view_core (has_at world.set o) true) (sym (first.is d.core)))
    (sym (told_unseen world o y (λ r s. r.after_setup s setup) d.classes k))

pub begun_unknown : {S : Type 0} (world : World S) (o x : Owner) → Facts world.set → (foreign : Bool) (d : Device S) (setup : Setup) (c : Choice)
    → Kept (owner_of_endpoint world.set.config) d.core.pipes → IsChosenFor world.set x c → knows_own o x ≡ false → d.core.finished ≡ None
    → of_both (made_foreign (view_core (has_at world.set o) foreign d.core)) (seen world o d.classes) ≡ view world o true (begun (whole world) d setup c)
begun_unknown world o x f foreign d setup (Own decision e) h is k fin =
    begun_own_unknown world o x f foreign d setup decision e h is k fin (staged_first o true decision e setup.length (ending_fits world.set o x false k e is))
begun_unknown world o x f foreign d setup (Class y) h is k fin =
    begun_class_unknown world o y foreign d setup (class_known o x y false is k) fin
    (class_first o true y setup ((world.rules y).decides (class_at d.classes y) setup) (class_known o x y false is k))

-- What holds after it.

strange_of : (o x : Owner) (known : Bool) → knows_own o x ≡ known → not known ≡ true → knows_own o x ≡ false
strange_of o x true k e = never e
strange_of o x false k e = k

side_holds : (set : Set) (o x : Owner) (known : Bool) → knows_own o x ≡ known → (core : Core) (side : Side) (t : Transfer) → Kept (owner_of_endpoint set.config) core.pipes
    → Fresh core.bus core.request → core.request ≡ None → Fits o (not known) t → Holds set o (not known) x (with_side core side t)
side_holds set o x known k core side t h fresh none fits = record {
  kept = h;
  fits = fits;
  fresh = record {
    waits_taken = fresh.waits_taken;
    waits_toggle = fresh.waits_toggle;
    noted_taken = λ e. never (sym (ap is_some none) ∙ e);
    noted_toggle = λ e. never (sym (ap is_some none) ∙ e);
    noted_side = λ e. never (sym (ap is_some none) ∙ e);
  };
  strange = strange_of o x known k;
}

begun_own_holds : {S : Type 0} (world : World S) (o x : Owner) (known : Bool) → knows_own o x ≡ known → Facts world.set → (d : Device S) (setup : Setup) (decision : Decision) (e : Effect)
    → Kept (owner_of_endpoint world.set.config) d.core.pipes → Fresh d.core.bus d.core.request → d.core.request ≡ None → First o (not known) (λ core. staged core decision e setup.length)
    → Holds world.set o (not known) x (begun (whole world) d setup (Own decision e)).core
begun_own_holds world o x known k f d setup decision e h fresh none first =
    subst (λ core. Holds world.set o (not known) x (changed (whole world) (of_both core d.classes) e).core) (sym (first.is d.core))
    (changed_holds world o (not known) x f (of_both (with_side d.core first.side first.transfer) d.classes) e (side_holds world.set o x known k d.core first.side first.transfer h fresh none first.fits))

begun_class_holds : {S : Type 0} (world : World S) (o x y : Owner) (known : Bool) → knows_own o x ≡ known → (d : Device S) (setup : Setup)
    → Kept (owner_of_endpoint world.set.config) d.core.pipes → Fresh d.core.bus d.core.request → d.core.request ≡ None
    → First o (not known) (λ core. class_staged core y setup ((world.rules y).decides (class_at d.classes y) setup))
    → Holds world.set o (not known) x (begun (whole world) d setup (Class y)).core
begun_class_holds world o x y known k d setup h fresh none first =
    subst (λ core. Holds world.set o (not known) x core) (sym (first.is d.core)) (side_holds world.set o x known k d.core first.side first.transfer h fresh none first.fits)

pub begun_holds : {S : Type 0} (world : World S) (o x : Owner) (known : Bool) → knows_own o x ≡ known → Facts world.set → (d : Device S) (setup : Setup) (c : Choice)
    → IsChosenFor world.set x c → Kept (owner_of_endpoint world.set.config) d.core.pipes → Fresh d.core.bus d.core.request → d.core.request ≡ None
    → Holds world.set o (not known) x (begun (whole world) d setup c).core
begun_holds world o x known k f d setup (Own decision e) is h fresh none =
    begun_own_holds world o x known k f d setup decision e h fresh none (staged_first o (not known) decision e setup.length (ending_fits world.set o x known k e is))
begun_holds world o x known k f d setup (Class y) is h fresh none =
    begun_class_holds world o x y known k d setup h fresh none
    (class_first o (not known) y setup ((world.rules y).decides (class_at d.classes y) setup) (class_known o x y known is k ∙ twice known))
