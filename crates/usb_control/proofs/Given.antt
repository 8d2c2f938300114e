-- GET_DESCRIPTOR of an interface gives what HID has, and nothing else.
use Rattle.std.proofs.Common.{◌≡◌, ℕ, ◌%◌, Bool, true, false, ◌==◌, if◌then◌else◌, refl, ap, ◌∙◌, inl, inr}
use Rattle.std.proofs.lemmas.Bool.{cases_Bool, eqb-true}
use Rattle.usb_packet.specs.declared.setup.Setup.{Setup}
use Rattle.usb_packet.specs.declared.bus.Owner as declared
use Rattle.usb_packet.specs.declared.bus.Owner.TheVariants as owner
use Rattle.usb_descriptor.specs.Set.{Set, owner_of_interface, owner_of_endpoint}
use Rattle.usb_control.specs.declared.state.CoreState.{CoreState}
use Rattle.usb_control.specs.declared.state.Choice.{Choice}
use Rattle.usb_control.specs.Table.{choice, only, given, stalled, named, owner_of, hid_descriptor_of, class_descriptor}
use Rattle.usb_control.specs.Interfaces.{IsAsked, InterfacesGive}

-- the answer by its owner
abbrev answer : Set → CoreState → declared.Owner → ℕ → Choice
answer set state o value = only state.configured (class_descriptor o set value)

-- the owner of a request of this type is that of the interface
abbrev owner_with : Set → Setup → ℕ → declared.Owner
owner_with set setup kind =
    if kind % 32 == 1 then owner_of_interface set.config (named setup)
    else (if kind % 32 == 2 then owner_of_endpoint set.config (named setup) else owner.Core)

owner_is : (set : Set) (setup : Setup) → IsAsked setup → owner_of set setup ≡ owner_of_interface set.config (setup.index % 256)
owner_is set setup asked = ap (owner_with set setup) asked.0

asked_is : (set : Set) (state : CoreState) (setup : Setup) → IsAsked setup → choice set state setup ≡ answer set state (owner_of set setup) setup.value
asked_is set state setup asked = rw (asked.0, asked.1) refl

answered : (set : Set) (state : CoreState) (setup : Setup) → IsAsked setup
    → choice set state setup ≡ answer set state (owner_of_interface set.config (setup.index % 256)) setup.value
answered set state setup asked = asked_is set state setup asked ∙ ap (λ o. answer set state o setup.value) (owner_is set setup asked)

of_hid : (set : Set) (state : CoreState) (o : declared.Owner) (value : ℕ) → state.configured ≡ true → o ≡ owner.Hid
    → answer set state o value ≡ given (hid_descriptor_of set value)
of_hid set state o value c e = ap (λ b. only b (class_descriptor o set value)) c ∙ ap (λ x. class_descriptor x set value) e

only_stalled : (b : Bool) (c : Choice) → c ≡ stalled → only b c ≡ stalled
only_stalled true c e = e
only_stalled false c e = refl

no_number : (a b : ℕ) → (a ≡ b → ⊥) → (a == b) ≡ false
no_number a b h =
    elim (cases_Bool (a == b)) [
      | inl e ↦ elim (h (eqb-true a b e)) [ ]
      | inr e ↦ e
    ]

no_value : (set : Set) (value : ℕ) → (value ≡ 0x2100 → ⊥) → (value ≡ 0x2200 → ⊥) → given (hid_descriptor_of set value) ≡ stalled
no_value set value a b = rw (no_number value 0x2100 a, no_number value 0x2200 b) refl

other_value : (set : Set) (o : declared.Owner) (value : ℕ) → (value ≡ 0x2100 → ⊥) → (value ≡ 0x2200 → ⊥) → class_descriptor o set value ≡ stalled
other_value set owner.Core value a b = refl
other_value set owner.Cdc value a b = refl
other_value set owner.Hid value a b = no_value set value a b
other_value set owner.Msc value a b = refl
other_value set owner.Midi value a b = refl

other_class : (set : Set) (o : declared.Owner) (value : ℕ) → (o ≡ owner.Hid → ⊥) → class_descriptor o set value ≡ stalled
other_class set owner.Core value h = refl
other_class set owner.Cdc value h = refl
other_class set owner.Hid value h = elim (h refl) [ ]
other_class set owner.Msc value h = refl
other_class set owner.Midi value h = refl

pub interfaces_give : InterfacesGive
interfaces_give set state setup asked =
    let o = owner_of_interface set.config (setup.index % 256) in
    let given_of = λ (value : ℕ). given (hid_descriptor_of set value) in
    record {
      hid = λ c h v. answered set state setup asked ∙ of_hid set state o setup.value c h ∙ ap given_of v;
      report = λ c h v. answered set state setup asked ∙ of_hid set state o setup.value c h ∙ ap given_of v;
      other = λ a b. answered set state setup asked ∙ only_stalled state.configured _ (other_value set o setup.value a b);
      not_hid = λ h. answered set state setup asked ∙ only_stalled state.configured _ (other_class set o setup.value h);
      sessionless = λ c. answered set state setup asked ∙ ap (λ b. only b (class_descriptor o set setup.value)) c;
    }
