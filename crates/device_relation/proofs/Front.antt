-- What lies in front of the receive FIFO, and what that tells of endpoint 0.
use Rattle.std.proofs.Common.{◌≡◌, ℕ, zero, suc, List, [], ◌∷◌, ◌++◌, Bool, true, false, refl, ap, sym, ◌∙◌, true≢false, subst}
use Rattle.std.specs.Prelude.{◌==◌, if◌then◌else◌}
use Rattle.std.proofs.lemmas.Bool.Decides.{nat_tests}
use Rattle.std.proofs.Common.{arith}
use Rattle.usb_packet.specs.declared.bus.Toggle.{Toggle}
use Rattle.usb_packet.specs.declared.bus.Toggle.TheVariants.{D0, D1}
use Rattle.device_machine.specs.declared.control.Stage.TheVariants.{Sent, Came}
use Rattle.device_machine.specs.declared.control.Side.{Side}
use Rattle.device_machine.specs.declared.control.Side.TheVariants.{Off, Wait, Loaded, Last, Armed, Stall, Finished}
use Rattle.device_arrivals.specs.Arrivals.{Arrival, Request, Packet, arrivals_for}
use Rattle.device_relation.specs.Relation.{came_arrivals, setups_arrivals}

-- tests of the first arrival
is_request_first : List Arrival → Bool
is_request_first [] = false
is_request_first (Request bytes ∷ arrivals) = true
is_request_first (Packet n toggle bytes ∷ arrivals) = false

is_packet_first : List Arrival → Bool
is_packet_first [] = false
is_packet_first (Request bytes ∷ arrivals) = false
is_packet_first (Packet n toggle bytes ∷ arrivals) = true

first_bytes : List Arrival → List ℕ
first_bytes [] = []
first_bytes (Request bytes ∷ arrivals) = bytes
first_bytes (Packet n toggle bytes ∷ arrivals) = bytes

first_toggle : List Arrival → Toggle
first_toggle [] = D0
first_toggle (Request bytes ∷ arrivals) = D0
first_toggle (Packet n toggle bytes ∷ arrivals) = toggle

behind : List Arrival → List Arrival
behind [] = []
behind (a ∷ arrivals) = arrivals

nonsense : {A : Type 0} → true ≡ false → A
nonsense e = elim (true≢false e) [ ]

-- a SETUP in front: no packet came before it
pub record SetupFront (bytes : List ℕ) (arrivals : List Arrival) (side : Side) (us : List (List ℕ)) : Type 0 where
  pub setups : List (List ℕ)
  pub are : us ≡ bytes ∷ setups
  pub its : arrivals ≡ setups_arrivals setups
  pub came : came_arrivals side ≡ []

front_of_setups : (bytes : List ℕ) (arrivals : List Arrival) (side : Side) (us : List (List ℕ)) → came_arrivals side ≡ [] → Request bytes ∷ arrivals ≡ setups_arrivals us → SetupFront bytes arrivals side us
unfolding is_request_first first_bytes behind
front_of_setups bytes arrivals side [] c e = nonsense (ap is_request_first e)
front_of_setups bytes arrivals side (u ∷ us) c e = record {
  setups = us;
  are = ap (λ (x : List ℕ). x ∷ us) (sym (ap first_bytes e));
  its = ap behind e;
  came = c;
}

pub setup_front : (bytes : List ℕ) (arrivals : List Arrival) (side : Side) (us : List (List ℕ)) → Request bytes ∷ arrivals ≡ came_arrivals side ++ setups_arrivals us → SetupFront bytes arrivals side us
unfolding is_request_first
setup_front bytes arrivals (Finished (Came x)) us e = nonsense (ap is_request_first e)
setup_front bytes arrivals (Finished Sent) us e = front_of_setups bytes arrivals (Finished Sent) us refl e
setup_front bytes arrivals Off us e = front_of_setups bytes arrivals Off us refl e
setup_front bytes arrivals (Wait p l) us e = front_of_setups bytes arrivals (Wait p l) us refl e
setup_front bytes arrivals (Loaded p) us e = front_of_setups bytes arrivals (Loaded p) us refl e
setup_front bytes arrivals (Last p) us e = front_of_setups bytes arrivals (Last p) us refl e
setup_front bytes arrivals Armed us e = front_of_setups bytes arrivals Armed us refl e
setup_front bytes arrivals Stall us e = front_of_setups bytes arrivals Stall us refl e

-- a packet in front is the one that came
pub record PacketFront (toggle : Toggle) (bytes : List ℕ) (arrivals : List Arrival) (side : Side) (us : List (List ℕ)) : Type 0 where
  pub side_is : side ≡ Finished (Came bytes)
  pub its : arrivals ≡ setups_arrivals us

no_packet_first : (us : List (List ℕ)) (toggle : Toggle) (bytes : List ℕ) (arrivals : List Arrival) {A : Type 0} → Packet 0 toggle bytes ∷ arrivals ≡ setups_arrivals us → A
unfolding is_packet_first
no_packet_first [] toggle bytes arrivals e = nonsense (ap is_packet_first e)
no_packet_first (u ∷ us) toggle bytes arrivals e = nonsense (ap is_packet_first e)

pub packet_front : (toggle : Toggle) (bytes : List ℕ) (arrivals : List Arrival) (side : Side) (us : List (List ℕ)) → Packet 0 toggle bytes ∷ arrivals ≡ came_arrivals side ++ setups_arrivals us
    → PacketFront toggle bytes arrivals side us
unfolding first_bytes behind
packet_front toggle bytes arrivals (Finished (Came x)) us e = record { side_is = ap (λ (b : List ℕ). Finished (Came b)) (sym (ap first_bytes e)); its = ap behind e }
packet_front toggle bytes arrivals (Finished Sent) us e = no_packet_first us toggle bytes arrivals e
packet_front toggle bytes arrivals Off us e = no_packet_first us toggle bytes arrivals e
packet_front toggle bytes arrivals (Wait p l) us e = no_packet_first us toggle bytes arrivals e
packet_front toggle bytes arrivals (Loaded p) us e = no_packet_first us toggle bytes arrivals e
packet_front toggle bytes arrivals (Last p) us e = no_packet_first us toggle bytes arrivals e
packet_front toggle bytes arrivals Armed us e = no_packet_first us toggle bytes arrivals e
packet_front toggle bytes arrivals Stall us e = no_packet_first us toggle bytes arrivals e

-- one of another endpoint tells nothing of endpoint 0
not_zero : (m : ℕ) → (0 == suc m) ≡ false
not_zero m = grind (arith, nat_tests)

pub other_front : (m : ℕ) (toggle : Toggle) (bytes : List ℕ) (arrivals : List Arrival) → arrivals_for 0 (Packet (suc m) toggle bytes ∷ arrivals) ≡ arrivals_for 0 arrivals
other_front m toggle bytes arrivals = ap (λ b. if b then Packet (suc m) toggle bytes ∷ arrivals_for 0 arrivals else arrivals_for 0 arrivals) (not_zero m)
