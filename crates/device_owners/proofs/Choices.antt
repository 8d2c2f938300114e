-- What is decided at a request: for its owner alone, and by what its owner's machine has.
use Rattle.std.proofs.Common.{◌≡◌, ℕ, List, [], ◌∷◌, Bool, true, false, ◌==◌, Option, Some, None, refl, ap, sym}
use Rattle.std.specs.Prelude.{find, cond, ⊤, ◌%◌, if◌then◌else◌}
use Rattle.std.specs.List.{AllByRecursion}
use Rattle.usb_packet.specs.declared.setup.Setup.{Setup}
use Rattle.usb_packet.specs.declared.bus.Owner.{Owner}
use Rattle.usb_packet.specs.declared.bus.Owner.TheVariants.{Core, Cdc, Hid, Msc, Midi}
use Rattle.usb_descriptor.specs.Set.{Set, is_core, owner_of_endpoint, owner_of_interface}
use Rattle.usb_control.specs.declared.state.CoreState.{CoreState}
use Rattle.usb_control.specs.declared.state.Effect.{Effect}
use Rattle.usb_control.specs.declared.state.Effect.TheVariants as effect
use Rattle.usb_control.specs.declared.state.Choice.{Choice}
use Rattle.usb_control.specs.declared.state.Choice.TheVariants.{Own, Class}
use Rattle.usb_control.specs.Table.{gives, status, stalled, hid_descriptor_of, class_descriptor, only, given, descriptor_of, unless_zero, is_zero, named, recipient, owner_of, has_endpoint, is_halted, Row, rows, is_row_of, handed, chosen, choice}
use Rattle.device_owners.proofs.Sets.{and_first, same_number}

-- A choice is for an owner: what it changes is the owner's.

abbrev pub IsFor : Set → Owner → Effect → Type 0
IsFor set o effect.None = ⊤
IsFor set o (effect.Address n) = o ≡ Core
IsFor set o (effect.Configure begins) = o ≡ Core
IsFor set o (effect.Halt a) = owner_of_endpoint set.config a ≡ o
IsFor set o (effect.Clear a) = owner_of_endpoint set.config a ≡ o
IsFor set o (effect.ClearInterface n) = owner_of_interface set.config n ≡ o

abbrev pub IsChosenFor : Set → Owner → Choice → Type 0
IsChosenFor set o (Own d e) = IsFor set o e
IsChosenFor set o (Class x) = x ≡ o

only_for : (set : Set) (o : Owner) (b : Bool) (c : Choice) → IsChosenFor set o c → IsChosenFor set o (only b c)
only_for set o true c h = h
only_for set o false c h = tt

given_for : (set : Set) (o : Owner) (bytes : Option (List ℕ)) → IsChosenFor set o (given bytes)
given_for set o None = tt
given_for set o (Some bytes) = tt

unless_for : (set : Set) (o : Owner) (e : Effect) (zero_ : Bool) → IsFor set o e → IsFor set o (if zero_ then effect.None else e)
unless_for set o e true h = tt
unless_for set o e false h = h

-- a class's descriptor
described_for : (set : Set) (o class : Owner) (value : ℕ) → IsChosenFor set o (class_descriptor class set value)
described_for set o Core value = tt
described_for set o Cdc value = tt
described_for set o Hid value = given_for set o (hid_descriptor_of set value)
described_for set o Msc value = tt
described_for set o Midi value = tt

handed_for : (set : Set) (o : Owner) (core : Bool) → IsChosenFor set o (if core then stalled else Class o)
handed_for set o true = tt
handed_for set o false = refl

-- the owner of a request, by bmRequestType
abbrev by_type : Set → Setup → ℕ → Owner
by_type set setup kind = if kind % 32 == 1 then owner_of_interface set.config (named setup) else (if kind % 32 == 2 then owner_of_endpoint set.config (named setup) else Core)

to_device : (set : Set) (setup : Setup) → 0 ≡ setup.request_type → owner_of set setup ≡ Core
to_device set setup e = ap (by_type set setup) (sym e)

to_interface : (set : Set) (setup : Setup) → 1 ≡ setup.request_type → owner_of_interface set.config (named setup) ≡ owner_of set setup
to_interface set setup e = ap (by_type set setup) e

to_endpoint : (set : Set) (setup : Setup) → 2 ≡ setup.request_type → owner_of_endpoint set.config (named setup) ≡ owner_of set setup
to_endpoint set setup e = ap (by_type set setup) e

abbrev RowIsFor : Set → CoreState → Setup → Row → Type 0
RowIsFor set state setup row = row.kind ≡ setup.request_type → IsChosenFor set (owner_of set setup) (row.does set state setup)

rows_for : (set : Set) (state : CoreState) (setup : Setup) → AllByRecursion (RowIsFor set state setup) rows
rows_for set state setup = (
  λ e. tt,
  (
    λ e. only_for set o _ (gives (0 ∷ 0 ∷ [])) tt,
    (
      λ e. only_for set o _ (gives ((if is_halted state (named setup) then 1 else 0) ∷ 0 ∷ [])) tt,
      (
        λ e. only_for set o _ (status (unless_zero setup (effect.Clear (named setup)))) (unless_for set o (effect.Clear (named setup)) (is_zero setup) (to_endpoint set setup e)),
        (
          λ e. only_for set o _ (status (unless_zero setup (effect.Halt (named setup)))) (unless_for set o (effect.Halt (named setup)) (is_zero setup) (to_endpoint set setup e)),
          (
            λ e. only_for set o _ (status (effect.Address setup.value)) (to_device set setup e),
            (
              λ e. given_for set o (descriptor_of set setup.value),
              (
                λ e. only_for set o _ (class_descriptor o set setup.value) (described_for set o o setup.value),
                (
                  λ e. tt,
                  (
                    λ e. only_for set o _ (status (effect.Configure _)) (to_device set setup e),
                    (
                      λ e. only_for set o _ (gives (0 ∷ [])) tt,
                      (
                        λ e. only_for set o _ (status (effect.ClearInterface (named setup))) (to_interface set setup e),
                        tt,
                      ),
                    ),
                  ),
                ),
              ),
            ),
          ),
        ),
      ),
    ),
  ),
)
  where
    o : Owner
    o = owner_of set setup

is_kind : (setup : Setup) (row : Row) → is_row_of setup row ≡ true → row.kind ≡ setup.request_type
is_kind setup row e = same_number row.kind setup.request_type (and_first (row.kind == setup.request_type) (row.request == setup.request) e)

among_for : (set : Set) (state : CoreState) (setup : Setup) (rs : List Row) → AllByRecursion (RowIsFor set state setup) rs
    → IsChosenFor set (owner_of set setup) (chosen (find (is_row_of setup) rs) set state setup)
among_for set state setup [] h = only_for set (owner_of set setup) _ (handed (owner_of set setup)) (handed_for set (owner_of set setup) (is_core (owner_of set setup)))
among_for set state setup (row ∷ rs) (h, hs) = by (is_row_of setup row) refl (among_for set state setup rs hs)
  where
    by : (b : Bool) → is_row_of setup row ≡ b → IsChosenFor set (owner_of set setup) (chosen (find (is_row_of setup) rs) set state setup)
        → IsChosenFor set (owner_of set setup) (chosen (cond b (Some row) (find (is_row_of setup) rs)) set state setup)
    by true e ih = h (is_kind setup row e)
    by false e ih = ih

-- so is each choice
pub choice_for : (set : Set) (state : CoreState) (setup : Setup) → IsChosenFor set (owner_of set setup) (choice set state setup)
choice_for set state setup = among_for set state setup rows (rows_for set state setup)

-- And by what its owner's machine has: halts decide a request to their endpoint alone.

abbrev pub state_with : ℕ → Bool → List ℕ → CoreState
state_with address session halts = record { addr = address; configured = session; halted = record { items = halts } }

abbrev RowIsSame : Set → CoreState → CoreState → Setup → Row → Type 0
RowIsSame set one other setup row = row.kind ≡ setup.request_type → row.does set one setup ≡ row.does set other setup

rows_same : (set : Set) (address : ℕ) (session : Bool) (one other : List ℕ) (setup : Setup)
    → (recipient setup ≡ 2 → is_halted (state_with address session one) (named setup) ≡ is_halted (state_with address session other) (named setup))
    → AllByRecursion (RowIsSame set (state_with address session one) (state_with address session other) setup) rows
rows_same set address session one other setup h = (
  λ e. refl,
  (
    λ e. refl,
    (
      λ e. ap (λ b. only (has_endpoint set (state_with address session one) setup) (gives ((if b then 1 else 0) ∷ 0 ∷ []))) (h (ap (λ t. t % 32) (sym e))),
      (
        λ e. refl,
        (
          λ e. refl,
          (
            λ e. refl,
            (
              λ e. refl,
              (
                λ e. refl,
                (
                  λ e. refl,
                  (
                    λ e. refl,
                    (
                      λ e. refl,
                      (
                        λ e. refl,
                        tt,
                      ),
                    ),
                  ),
                ),
              ),
            ),
          ),
        ),
      ),
    ),
  ),
)

among_same : (set : Set) (address : ℕ) (session : Bool) (one other : List ℕ) (setup : Setup) (rs : List Row)
    → AllByRecursion (RowIsSame set (state_with address session one) (state_with address session other) setup) rs
    → chosen (find (is_row_of setup) rs) set (state_with address session one) setup ≡ chosen (find (is_row_of setup) rs) set (state_with address session other) setup
among_same set address session one other setup [] h = refl
among_same set address session one other setup (row ∷ rs) (h, hs) = by (is_row_of setup row) refl (among_same set address session one other setup rs hs)
  where
    by : (b : Bool) → is_row_of setup row ≡ b
        → chosen (find (is_row_of setup) rs) set (state_with address session one) setup ≡ chosen (find (is_row_of setup) rs) set (state_with address session other) setup
        → chosen (cond b (Some row) (find (is_row_of setup) rs)) set (state_with address session one) setup ≡ chosen (cond b (Some row) (find (is_row_of setup) rs)) set (state_with address session other) setup
    by true e ih = h (is_kind setup row e)
    by false e ih = ih

pub choice_same : (set : Set) (address : ℕ) (session : Bool) (one other : List ℕ) (setup : Setup)
    → (recipient setup ≡ 2 → is_halted (state_with address session one) (named setup) ≡ is_halted (state_with address session other) (named setup))
    → choice set (state_with address session one) setup ≡ choice set (state_with address session other) setup
choice_same set address session one other setup h = among_same set address session one other setup rows (rows_same set address session one other setup h)

pub of_endpoint : (set : Set) (setup : Setup) → recipient setup ≡ 2 → owner_of set setup ≡ owner_of_endpoint set.config (named setup)
of_endpoint set setup e =
    ap (λ r. if r == 1 then owner_of_interface set.config (named setup) else (if r == 2 then owner_of_endpoint set.config (named setup) else Core)) e
