-- The pipes in a task: a session opens and closes them, and halts end.
use Rattle.std.proofs.Common.{◌≡◌, inl, inr, ℕ, zero, suc, ◌+◌, ◌-◌, ◌<◌, ◌≤◌, List, [], ◌∷◌, ◌++◌, length, take, get_or, Bool, true, false, refl, ap, sym, ◌∙◌, arith, subst}
use Rattle.std.specs.Prelude.{◌⊎◌, if◌then◌else◌, nat_lt}
use Rattle.std.specs.List.{AllByRecursion, list_any}
use Rattle.std.proofs.lemmas.Bool.Decides.{nat_tests}
use Rattle.std.proofs.lemmas.List.{take_all}
use Rattle.usb_packet.specs.declared.bus.Owner.{Owner}
use Rattle.usb_packet.specs.declared.setup.Setup.{Setup}
use Rattle.usb_pipe.specs.Rules.{Rules}
use Rattle.usb_pipe.specs.Classes.{Classes}
use Rattle.usb_pipe.specs.declared.decision.Decision.{Decision}
use Rattle.usb_control.specs.declared.state.CoreState.{CoreState}
use Rattle.usb_control.specs.declared.state.Effect.{Effect}
use Rattle.usb_control.specs.declared.state.Choice.{Choice}
use Rattle.usb_control.specs.declared.state.Choice.TheVariants.{Own}
use Rattle.usb_control.specs.Table.{choice}
use Rattle.usb_descriptor.specs.declared.endpoint.Endpoint.{Endpoint}
use Rattle.usb_descriptor.specs.Set.{Set, is_addressed}
use Rattle.dwc2_regs.specs.declared.access.TheConstants.{FS4}
use Rattle.device_machine.specs.Pipes.{Pipes, out_slot, in_slot, is_out_open, in_hears, with_endpoint_open, with_endpoints_open, pipes_closed, without_halt_if, without_halts, is_open_at}
use Rattle.device_machine.specs.Laws.{AreOf}
use Rattle.device_owners.specs.Device.{Core, core_state, staged, changed, begun}
use Rattle.device_machine.proofs.Opens.{closed_of}
use Rattle.device_rings.specs.Rings.{Rings}
use Rattle.device_relation.specs.PipeRelation.{pipes_of}
use Rattle.device_relation.specs.Software.{Joint}
use Rattle.device_relation.specs.Port.{Port, with_endpoint}
use Rattle.usbd_core.specs.Device.{Device, core_of, seen, machinery}
use Rattle.usbd_core.specs.Task.{Leaves, with_endpoints, with_halt_ended_if, with_halts_ended}

-- one more of a list is opened
opened_append : (p : Pipes) (xs : List Endpoint) (e : Endpoint) → with_endpoints_open p (xs ++ e ∷ []) ≡ with_endpoint_open (with_endpoints_open p xs) e
opened_append p [] e = refl
opened_append p (x ∷ xs) e = opened_append (with_endpoint_open p x) xs e

take_more : {A : Type 0} (xs : List A) (i : ℕ) (d : A) → i < length xs → take (i + 1) xs ≡ take i xs ++ get_or xs i d ∷ []
take_more [] i d h = absurd (omega arith)
take_more (x ∷ xs) zero d h = refl
take_more (x ∷ xs) (suc i) d h = ap (λ n. take n (x ∷ xs)) (next i) ∙ ap (λ ys. x ∷ ys) (take_more xs i d (omega arith))
  where
    next : (i : ℕ) → suc i + 1 ≡ suc (i + 1)
    next i = omega arith

pub one_opened : (p : Port) (es : List Endpoint) (i : ℕ) (d : Endpoint) → i < length es → with_endpoint (with_endpoints p (take i es)) (get_or es i d) ≡ with_endpoints p (take (i + 1) es)
one_opened p es i d h = ap (λ (q : Pipes). record p { pipes = q }) (sym (ap (with_endpoints_open p.pipes) (take_more es i d h) ∙ opened_append p.pipes (take i es) (get_or es i d)))

-- an address that none of those has that were opened isn't open
low_is : (a : ℕ) → a < 128 → nat_lt a 128 ≡ true
low_is a h = grind (arith, nat_tests)

high_is : (a : ℕ) → 128 ≤ a → nat_lt a 128 ≡ false
high_is a h = grind (arith, nat_tests)

pub shut_of : (es : List Endpoint) (p : Pipes) (a : ℕ) → AreOf es p → ((1 ≤ a) × (a ≤ 3)) ⊎ ((129 ≤ a) × (a ≤ 131)) → list_any (is_addressed a) es ≡ false → is_open_at p a ≡ false
shut_of es p a h (inl low) none =
    let n = a - 1 in
    let is : a ≡ suc n = omega (arith, low.0) in
    subst (λ x. is_open_at p x ≡ false) (sym is)
    (ap (λ b. if b then is_out_open (out_slot p (suc n)).pipe.phase else in_hears (in_slot p (suc n - 128))) (low_is (suc n) (omega (arith, low.1)))
    ∙ (h.outs n (omega (arith, low.1))).opens ∙ ap (λ x. list_any (is_addressed x) es) (sym is) ∙ none)
shut_of es p a h (inr high) none =
    let n = a - 129 in
    let is : a ≡ 128 + suc n = omega (arith, high.0) in
    let number : a - 128 ≡ suc n = omega (arith, high.0) in
    ap (λ b. if b then is_out_open (out_slot p a).pipe.phase else in_hears (in_slot p (a - 128))) (high_is a (omega (arith, high.0)))
    ∙ ap (λ m. in_hears (in_slot p m)) number
    ∙ (h.ins n (omega (arith, high.1))).opens ∙ ap (λ x. list_any (is_addressed x) es) (sym is) ∙ none

pub all_shut : (j : Joint) (r : Rings) → AreOf [] (pipes_closed (pipes_of j r))
all_shut j r = closed_of (pipes_of j r) refl refl

-- the halts of the endpoints of an interface end
halts_append : (named : ℕ → Bool) (p : Pipes) (xs : List Endpoint) (e : Endpoint) → without_halts named p (xs ++ e ∷ []) ≡ without_halt_if (named e.addr) (without_halts named p xs) e.addr
halts_append named p [] e = refl
halts_append named p (x ∷ xs) e = halts_append named (without_halt_if (named x.addr) p x.addr) xs e

pub one_cleared : (named : ℕ → Bool) (p : Port) (es : List Endpoint) (i : ℕ) (d : Endpoint) → i < length es
    → with_halt_ended_if (named (get_or es i d).addr) (with_halts_ended named p (take i es)) (get_or es i d).addr ≡ with_halts_ended named p (take (i + 1) es)
one_cleared named p es i d h =
    ap (λ (q : Pipes). record p { pipes = q }) (sym (ap (without_halts named p.pipes) (take_more es i d h) ∙ halts_append named p.pipes (take i es) (get_or es i d)))

-- a request is begun as it was found
pub begun_as : {S : Type 0} (rules : Owner → Rules S) (before : Classes S) (old : Device) (set : Set) (c : Choice) (setup : Setup) (state : CoreState) → set ≡ old.set → c ≡ choice set state setup
    → state ≡ core_state (core_of old)
    → begun (machinery rules old.set before) (seen old before) setup c ≡ begun (machinery rules old.set before) (seen old before) setup (choice old.set (core_state (core_of old)) setup)
begun_as rules before old set c setup state v chosen is =
    ap (begun (machinery rules old.set before) (seen old before) setup) (chosen ∙ ap (λ s. choice s state setup) v ∙ ap (λ st. choice old.set st setup) is)

-- what it changes is changed behind its first stage
pub begun_worked : {S : Type 0} (rules : Owner → Rules S) (before after : Classes S) (old mid new : Device) (d : Decision) (e : Effect) (setup : Setup) → core_of mid ≡ staged (core_of old) d e setup.length
    → seen new after ≡ changed (machinery rules mid.set before) (seen mid before) e → mid.set ≡ old.set → seen new after ≡ begun (machinery rules old.set before) (seen old before) setup (Own d e)
begun_worked rules before after old mid new d e setup first next same =
    next ∙ ap (λ s. changed (machinery rules s before) (seen mid before) e) same
    ∙ ap (λ (k : Core). changed (machinery rules old.set before) (record { core = k; classes = before }) e) first

pub leaves_on : (old mid new : Device) → Leaves FS4 2 old mid → Leaves FS4 24 mid new → Leaves FS4 28 old new
leaves_on old mid new one two =
    (two.0, (omega (arith, one.1.0, two.1.0), two.1.1, λ start m. two.1.2 start (one.1.2 start m)), two.2 ∙ one.2, λ start k. two.3 start (one.3 start k), two.4 ∙ one.4)

-- the end of a list
pub taken_all : {A : Type 0} (xs : List A) (i : ℕ) → length xs ≤ i → take i xs ≡ xs
taken_all xs i h = take_all i xs h

pub each_at : {A : Type 0} (P : A → Type 0) (xs : List A) (i : ℕ) (d : A) → i < length xs → AllByRecursion P xs → P (get_or xs i d)
each_at P [] i d h all = absurd (omega (arith, h))
each_at P (x ∷ xs) zero d h all = all.0
each_at P (x ∷ xs) (suc i) d h all = each_at P xs i d (omega (arith, h)) all.1
