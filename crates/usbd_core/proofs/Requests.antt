-- The addresses that requests bring, and the notes that a task leaves.
use Rattle.std.proofs.Common.{◌≡◌, ℕ, zero, suc, ◌<◌, List, [], ◌∷◌, Bool, true, false, Option, Some, None, cond, refl, ap, sym, ◌∙◌, subst, arith}
use Rattle.std.specs.Prelude.{nat_le, if◌then◌else◌, find, ◌==◌, ◌&&◌, ◌||◌}
use Rattle.std.specs.List.{AllByRecursion}
use Rattle.std.proofs.lemmas.Bool.Decides.{nat_tests}
use Rattle.usb_packet.specs.declared.setup.Setup.{Setup}
use Rattle.usb_packet.specs.declared.bus.Owner.{Owner}
use Rattle.usb_packet.specs.declared.bus.Owner.TheVariants as owner
use Rattle.usb_pipe.specs.declared.decision.Decision.{Decision}
use Rattle.usb_descriptor.specs.Set.{Set}
use Rattle.usb_control.specs.declared.state.CoreState.{CoreState}
use Rattle.usb_control.specs.declared.state.Effect.{Effect}
use Rattle.usb_control.specs.declared.state.Effect.TheVariants as effect
use Rattle.usb_control.specs.declared.state.Choice.{Choice}
use Rattle.usb_control.specs.declared.state.Choice.TheVariants.{Own, Class}
use Rattle.usb_control.specs.Table.{Row, rows, is_row_of, chosen, choice, only, status, given, handed, hid_descriptor_of, class_descriptor, is_zero, has_interface, has_endpoint, descriptor_of, owner_of, configuration_value, named}
use Rattle.usb_packet.specs.Setup.{fields_of}
use Rattle.device_machine.specs.Packets.{data_packets}
use Rattle.usb_pipe.specs.Rules.{Rules}
use Rattle.usb_pipe.specs.Classes.{Classes}
use Rattle.device_owners.specs.Device.{Core, Sending, ending, core_state, sending, sent_on, with_data, begun, work_request, with_request_worked}
use Rattle.device_owners.specs.Device.{Device as Whole}
use Rattle.device_relation.specs.Relation.{IsAddress}
use Rattle.usbd_core.specs.Device.{machinery, address_of}

abbrev IsNear : Choice → Type 0
IsNear (Own d e) = IsAddress (address_of (ending e))
IsNear (Class o) = Unit {0}

near_only : (allowed : Bool) (c : Choice) → IsNear c → IsNear (only allowed c)
near_only true c near = near
near_only false c near = tt

near_given : (bytes : Option (List ℕ)) → IsNear (given bytes)
near_given None = tt
near_given (Some bytes) = tt

near_descriptor : (o : Owner) (set : Set) (value : ℕ) → IsNear (class_descriptor o set value)
near_descriptor owner.Core set value = tt
near_descriptor owner.Cdc set value = tt
near_descriptor owner.Hid set value = near_given (hid_descriptor_of set value)
near_descriptor owner.Msc set value = tt
near_descriptor owner.Midi set value = tt

near_handed : (o : Owner) → IsNear (handed o)
near_handed owner.Core = tt
near_handed owner.Cdc = tt
near_handed owner.Hid = tt
near_handed owner.Msc = tt
near_handed owner.Midi = tt

near_halt : (zero : Bool) (a : ℕ) → IsNear (status (if zero then effect.None else effect.Halt a))
near_halt true a = tt
near_halt false a = tt

near_clear : (zero : Bool) (a : ℕ) → IsNear (status (if zero then effect.None else effect.Clear a))
near_clear true a = tt
near_clear false a = tt

below : (n : ℕ) → nat_le n 127 ≡ true → n < 128
below n e = grind (arith, nat_tests)

near_address : (n : ℕ) (allowed : Bool) → nat_le n 127 ≡ allowed → IsNear (only allowed (status (effect.Address n)))
near_address n true e = below n e
near_address n false e = tt

infixr 5 ◌also◌
◌also◌ : {A B : Type 0} → A → B → A × B
a also b = (a, b)

-- each row in turn
near_rows : (set : Set) (state : CoreState) (setup : Setup) → AllByRecursion (λ (row : Row). IsNear (row.does set state setup)) rows
near_rows set state setup =
    tt
    also near_only (has_interface set state setup) _ tt
    also near_only (has_endpoint set state setup) _ tt
    also near_only ((setup.value == 0) && has_endpoint set state setup) _ (near_clear (is_zero setup) (named setup))
    also near_only ((setup.value == 0) && has_endpoint set state setup) _ (near_halt (is_zero setup) (named setup))
    also near_address setup.value (nat_le setup.value 127) refl
    also near_given (descriptor_of set setup.value)
    also near_only state.configured _ (near_descriptor (owner_of set setup) set setup.value)
    also tt
    also near_only ((setup.value == 0) || (setup.value == configuration_value set)) _ tt
    also near_only (has_interface set state setup) _ tt
    also near_only (has_interface set state setup && (setup.value == 0)) _ tt
    also tt

near_found : (p : Row → Bool) (listed : List Row) (set : Set) (state : CoreState) (setup : Setup) → AllByRecursion (λ (row : Row). IsNear (row.does set state setup)) listed
    → IsNear (chosen (find p listed) set state setup)
near_found p [] set state setup near = near_only (((setup.request_type == 0x21) || (setup.request_type == 0xa1)) && state.configured) _ (near_handed (owner_of set setup))
near_found p (row ∷ listed) set state setup near = near_either (p row) row (find p listed) set state setup near.0 (near_found p listed set state setup near.1)
  where
    near_either : (b : Bool) (row : Row) (other : Option Row) (set : Set) (state : CoreState) (setup : Setup) → IsNear (row.does set state setup) → IsNear (chosen other set state setup)
        → IsNear (chosen (cond b (Some row) other) set state setup)
    near_either true row other set state setup this that = this
    near_either false row other set state setup this that = that

near_choice : (set : Set) (state : CoreState) (setup : Setup) → IsNear (choice set state setup)
near_choice set state setup = near_found (is_row_of setup) rows set state setup (near_rows set state setup)

-- an address that a request brings is at most 127
pub near : (set : Set) (state : CoreState) (setup : Setup) (d : Decision) (e : Effect) → Own d e ≡ choice set state setup → IsAddress (address_of (ending e))
near set state setup d e is = subst IsNear (sym is) (near_choice set state setup)

-- a SETUP that was noted is worked once its note is taken
pub request_worked : {S : Type 0} (rules : Owner → Rules S) (set : Set) (first : Classes S) (d mid : Whole S) (bytes : List ℕ) (setup : Setup) → d.core.request ≡ Some bytes
    → mid ≡ record d { core = record d.core { request = None } } → setup ≡ fields_of bytes
    → begun (machinery rules set first) mid setup (choice set (core_state mid.core) setup) ≡ with_request_worked (machinery rules set first) d
request_worked {S = S} rules set first d mid bytes setup noted taken is =
    ap (λ (x : Whole S). begun (machinery rules set first) x setup (choice set (core_state x.core) setup)) taken
    ∙ ap (λ (x : Setup). begun (machinery rules set first) (record d { core = record d.core { request = None } }) x (choice set (core_state d.core) x)) is
    ∙ ap (work_request (machinery rules set first) d) (sym noted)

-- the packets of a data stage that begins are sent
sent_data : (core : Core) (packets : List (List ℕ)) → sent_on (record core { transfer = Sending packets }) (Sending packets) ≡ sending core packets
sent_data core [] = refl
sent_data core (packet ∷ packets) = refl

pub data_given : (core : Core) (bytes : List ℕ) (packets : List (List ℕ)) (allowed : ℕ) → packets ≡ data_packets bytes allowed → 0 < allowed
    → sent_on (record core { transfer = Sending packets }) (Sending packets) ≡ with_data core bytes allowed
data_given core bytes packets zero all some = absurd (omega arith)
data_given core bytes packets (suc n) all some = sent_data core packets ∙ ap (sending core) all
