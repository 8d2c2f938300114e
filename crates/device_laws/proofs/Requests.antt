-- A request that no row names is refused.
use Rattle.std.proofs.Common.{◌≡◌, ℕ, ◌/◌, ◌%◌, List, [], ◌∷◌, Bool, true, false, ◌==◌, ◌&&◌, ◌||◌, if◌then◌else◌, find, None, Some, refl, sym, ap, ◌∙◌, true≢false}
use Rattle.std.proofs.lemmas.Bool.{eqb-true}
use Rattle.usb_packet.specs.declared.bus.Owner as declared
use Rattle.usb_packet.specs.declared.bus.Owner.TheVariants as owner
use Rattle.usb_packet.specs.declared.setup.Setup.{Setup}
use Rattle.usb_descriptor.specs.Set.{Set, owner_of_interface, owner_of_endpoint}
use Rattle.usb_control.specs.declared.state.CoreState.{CoreState}
use Rattle.usb_control.specs.declared.state.Choice.{Choice}
use Rattle.usb_control.specs.Table.{Row, rows, is_row_of, choice, chosen, class_choice, only, handed, stalled, owner_of, named}
use Rattle.device_laws.specs.Requests.{Each, IsOther, UnnamedAreRefused}

not_both : (b c : Bool) → (b ≡ true → c ≡ true → ⊥) → (b && c) ≡ false
not_both true true h = elim (h refl refl) [ ]
not_both true false h = refl
not_both false c h = refl

neither : (b c : Bool) → (b ≡ true → ⊥) → (c ≡ true → ⊥) → (b || c) ≡ false
neither true c h k = elim (h refl) [ ]
neither false true h k = elim (k refl) [ ]
neither false false h k = refl

other_row : (setup : Setup) (row : Row) → IsOther setup row → is_row_of setup row ≡ false
other_row setup row h =
    not_both (row.kind == setup.request_type) (row.request == setup.request)
    (λ k r. h (sym (eqb-true row.kind setup.request_type k)) (sym (eqb-true row.request setup.request r)))

none_found : (setup : Setup) (xs : List Row) → Each (IsOther setup) xs → find (is_row_of setup) xs ≡ None
none_found setup [] h = refl
none_found setup (row ∷ xs) h =
    ap (λ b. if b then Some row else find (is_row_of setup) xs) (other_row setup row h.0) ∙ none_found setup xs h.1

-- then it is a class's matter
left_to_class : (set : Set) (state : CoreState) (setup : Setup) → Each (IsOther setup) rows → choice set state setup ≡ class_choice set state setup
left_to_class set state setup h = ap (λ o. chosen o set state setup) (none_found setup rows h)

abbrev of_class : ℕ → Bool
of_class kind = (kind == 0x21) || (kind == 0xa1)

no_class : (kind : ℕ) → ((kind / 32 % 4 ≡ 1) × (kind % 32 ≡ 1) → ⊥) → of_class kind ≡ false
no_class kind h =
    neither (kind == 0x21) (kind == 0xa1)
    (λ e. h (ap (λ n. n / 32 % 4) (eqb-true kind 0x21 e), ap (λ n. n % 32) (eqb-true kind 0x21 e)))
    (λ e. h (ap (λ n. n / 32 % 4) (eqb-true kind 0xa1 e), ap (λ n. n % 32) (eqb-true kind 0xa1 e)))

no_session : (b c : Bool) (other : Choice) → c ≡ false → only (b && c) other ≡ stalled
no_session b true other e = elim (true≢false e) [ ]
no_session true false other e = refl
no_session false false other e = refl

only_stalled : (c : Bool) → only c stalled ≡ stalled
only_stalled true = refl
only_stalled false = refl

-- the owner of a request of a class is that of its interface
class_owner : (a b c : Bool) (o : declared.Owner) → (a ≡ true → o ≡ owner.Core) → (b ≡ true → o ≡ owner.Core) → only ((a || b) && c) (handed o) ≡ stalled
class_owner true b c o f g = ap (λ p. only c (handed p)) (f refl) ∙ only_stalled c
class_owner false true c o f g = ap (λ p. only c (handed p)) (g refl) ∙ only_stalled c
class_owner false false c o f g = refl

abbrev owner_with : Set → Setup → ℕ → declared.Owner
owner_with set setup kind =
    if kind % 32 == 1 then owner_of_interface set.config (named setup)
    else (if kind % 32 == 2 then owner_of_endpoint set.config (named setup) else owner.Core)

no_owner : (set : Set) (state : CoreState) (setup : Setup) → owner_of_interface set.config (setup.index % 256) ≡ owner.Core → class_choice set state setup ≡ stalled
no_owner set state setup e =
    class_owner (setup.request_type == 0x21) (setup.request_type == 0xa1) state.configured (owner_of set setup)
    (λ k. ap (owner_with set setup) (eqb-true setup.request_type 0x21 k) ∙ e)
    (λ k. ap (owner_with set setup) (eqb-true setup.request_type 0xa1 k) ∙ e)

pub unnamed_are_refused : UnnamedAreRefused
unnamed_are_refused set state setup h = record {
  other = λ n. left_to_class set state setup h
      ∙ ap (λ b. only (b && state.configured) (handed (owner_of set setup))) (no_class setup.request_type n);
  sessionless = λ e. left_to_class set state setup h
      ∙ no_session (of_class setup.request_type) state.configured (handed (owner_of set setup)) e;
  ownerless = λ e. left_to_class set state setup h ∙ no_owner set state setup e;
}
