-- What the entries of the receive FIFO tell of the packet and the SETUPs that lie there for endpoint 0.
use Rattle.std.proofs.Common.{◌≡◌, ℕ, ◌≤◌, ◌<◌, List, [], ◌∷◌, ◌++◌, length, Option, Some, None, refl, ap, sym, ◌∙◌, arith}
use Rattle.device_machine.specs.declared.control.Stage.TheVariants.{Sent, Came}
use Rattle.device_machine.specs.declared.control.Side.{Side}
use Rattle.device_machine.specs.declared.control.Side.TheVariants.{Off, Wait, Loaded, Last, Armed, Stall, Finished}
use Rattle.dwc2_regs.specs.declared.access.TheConstants.{FS4}
use Rattle.dwc2_fifo.specs.Rx.{Rx}
use Rattle.device_table.specs.Write.{setup_in}
use Rattle.device_arrivals.specs.Arrivals.{Arrival, entries_of, arrivals_for, landed_on, requested_by, setups_in}
use Rattle.device_arrivals.specs.Laws.{some}
use Rattle.device_arrivals.proofs.Tells.{tells}
use Rattle.device_arrivals.proofs.Few.{requested_by-its, landed_on-its, setup_in-told}
use Rattle.device_relation.specs.Relation.{FifoPart, packet_in, first_bytes, some_lie, came_arrivals, setups_arrivals}

-- those of endpoint 0, as they lie there
requested_by-setups : (us : List (List ℕ)) → requested_by (setups_arrivals us) ≡ us
requested_by-setups [] = refl
requested_by-setups (u ∷ us) = ap (λ (xs : List (List ℕ)). u ∷ xs) (requested_by-setups us)

requested_by-zero : (side : Side) (us : List (List ℕ)) → requested_by (came_arrivals side ++ setups_arrivals us) ≡ us
requested_by-zero Off us = requested_by-setups us
requested_by-zero (Wait packet last) us = requested_by-setups us
requested_by-zero (Loaded packet) us = requested_by-setups us
requested_by-zero (Last packet) us = requested_by-setups us
requested_by-zero Armed us = requested_by-setups us
requested_by-zero Stall us = requested_by-setups us
requested_by-zero (Finished Sent) us = requested_by-setups us
requested_by-zero (Finished (Came bytes)) us = requested_by-setups us

-- the packet in front of them
abbrev pub came_of : Side → Option (List ℕ)
came_of (Finished (Came bytes)) = Some bytes
came_of (Finished Sent) = None
came_of Off = None
came_of (Wait packet last) = None
came_of (Loaded packet) = None
came_of (Last packet) = None
came_of Armed = None
came_of Stall = None

landed_on-setups : (us : List (List ℕ)) → landed_on 0 (setups_arrivals us) ≡ []
landed_on-setups [] = refl
landed_on-setups (u ∷ us) = landed_on-setups us

landed_on-zero : (side : Side) (us : List (List ℕ)) → first_bytes (landed_on 0 (came_arrivals side ++ setups_arrivals us)) ≡ came_of side
landed_on-zero Off us = ap first_bytes (landed_on-setups us)
landed_on-zero (Wait packet last) us = ap first_bytes (landed_on-setups us)
landed_on-zero (Loaded packet) us = ap first_bytes (landed_on-setups us)
landed_on-zero (Last packet) us = ap first_bytes (landed_on-setups us)
landed_on-zero Armed us = ap first_bytes (landed_on-setups us)
landed_on-zero Stall us = ap first_bytes (landed_on-setups us)
landed_on-zero (Finished Sent) us = ap first_bytes (landed_on-setups us)
landed_on-zero (Finished (Came bytes)) us = refl

-- on this controller
pub top_is : FS4.out_eps < 16
top_is = omega arith

pub requests_are : (rx : Rx) (n : ℕ) (side : Side) (us : List (List ℕ)) (f : FifoPart FS4 rx n side us) → requested_by f.arrivals ≡ us
requests_are rx n side us f = requested_by-its f.arrivals ∙ ap requested_by f.its ∙ requested_by-zero side us

some_is : (us : List (List ℕ)) → some us ≡ some_lie us
some_is [] = refl
some_is (u ∷ us) = refl

-- whether SETUPs lie there, which they are, and the packet
pub setup_in-is : (rx : Rx) (n : ℕ) (side : Side) (us : List (List ℕ)) → FifoPart FS4 rx n side us → setup_in rx.entries ≡ some_lie us
setup_in-is rx n side us f =
    ap (λ (x : Rx). setup_in x.entries) f.lie ∙ setup_in-told FS4.out_eps f.arrivals top_is f.all.all ∙ ap some (requests_are rx n side us f) ∙ some_is us

pub setups_in-is : (rx : Rx) (n : ℕ) (side : Side) (us : List (List ℕ)) → FifoPart FS4 rx n side us → setups_in rx.entries ≡ us
setups_in-is rx n side us f =
    ap (λ (x : Rx). setups_in x.entries) f.lie ∙ (tells FS4.out_eps f.arrivals top_is f.all.all).requests ∙ requests_are rx n side us f

pub packet_in-is : (rx : Rx) (n : ℕ) (side : Side) (us : List (List ℕ)) → FifoPart FS4 rx n side us → packet_in rx.entries ≡ came_of side
packet_in-is rx n side us f =
    ap (λ (x : Rx). packet_in x.entries) f.lie
    ∙ ap first_bytes ((tells FS4.out_eps f.arrivals top_is f.all.all).packets 0 ∙ landed_on-its 0 f.arrivals ∙ ap (landed_on 0) f.its)
    ∙ landed_on-zero side us
