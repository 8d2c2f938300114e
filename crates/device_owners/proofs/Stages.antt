-- Endpoint 0 at a task run: the stage note, and the first stage of a request.
use Rattle.std.proofs.Common.{◌≡◌, ◌≢◌, ℕ, zero, suc, ◌+◌, ◌/◌, List, [], ◌∷◌, length, map, Bool, true, false, not, Option, Some, None, refl, ap, sym, ◌∙◌, arith}
use Rattle.std.specs.Prelude.{nat_lt, take, min, if◌then◌else◌}
use Rattle.std.proofs.lemmas.Bool.Decides.{nat_tests}
use Rattle.usb_packet.specs.declared.bus.Owner.{Owner}
use Rattle.usb_packet.specs.declared.bus.Toggle.{Toggle}
use Rattle.usb_packet.specs.declared.bus.Toggle.TheVariants.{D1}
use Rattle.usb_packet.specs.declared.setup.Setup.{Setup}
use Rattle.usb_pipe.specs.declared.decision.Decision.{Decision}
use Rattle.usb_pipe.specs.declared.decision.Decision.TheVariants as decision
use Rattle.usb_control.specs.declared.state.Effect.{Effect}
use Rattle.device_machine.specs.declared.control.Stage.{Stage}
use Rattle.device_machine.specs.declared.control.Stage.TheVariants.{Sent, Came}
use Rattle.device_machine.specs.declared.control.Side.{Side}
use Rattle.device_machine.specs.declared.control.Side.TheVariants.{Wait, Armed, Stall}
use Rattle.device_machine.specs.Bus.{is_empty}
use Rattle.device_machine.specs.Packets.{data_packets, packet_at, packet_count, numbers_from}
use Rattle.device_owners.specs.Knows.{knows_own}
use Rattle.device_owners.specs.Device.{Transfer, Idle, Sending, Taking, Ending, Addressing, Foreign, Core, Device, with_side, sending, answered, advanced, with_data, ending, staged, class_staged, foreign as made_foreign, work_stage, World}
use Rattle.usb_pipe.specs.Classes.{class_at}
use Rattle.device_owners.specs.Lines.{whole, own}
use Rattle.device_owners.proofs.Seen.{state_seen, told_seen, told_unseen}
use Rattle.device_owners.proofs.Mask.{masked}
use Rattle.device_owners.proofs.View.{both, has_at, view_core, view, Fits}

-- The stage note.

answered_known : (at : ℕ → Bool) (core : Core) (b : Bool) → answered (view_core at false core) b ≡ view_core at false (answered core b)
answered_known at core true = refl
answered_known at core false = refl

answered_foreign : (at : ℕ → Bool) (core : Core) (b : Bool) → view_core at true (answered core b) ≡ view_core at true core
answered_foreign at core true = refl
answered_foreign at core false = refl

advanced_known : {S : Type 0} (world : World S) (o : Owner) (d : Device S) (t : Transfer) (stage : Stage) → Fits o false t
    → advanced (own world o) (view world o false d) t stage ≡ view world o false (advanced (whole world) d t stage)
advanced_known world o d (Sending []) Sent h = refl
advanced_known world o d (Sending (packet ∷ packets)) Sent h = refl
advanced_known world o d (Sending packets) (Came bytes) h = refl
advanced_known world o d (Taking x setup) Sent h = refl
advanced_known world o d (Taking x setup) (Came bytes) h =
    both _ _ _ _
    (ap (λ s. answered (view_core (has_at world.set o) false d.core) ((world.rules x).accepts s setup bytes)) (state_seen world o x d.classes h)
    ∙ answered_known (has_at world.set o) d.core ((world.rules x).accepts (class_at d.classes x) setup bytes))
    (told_seen world o x (λ r s. r.after_data s setup bytes) d.classes)
advanced_known world o d Ending Sent h = refl
advanced_known world o d Ending (Came bytes) h = refl
advanced_known world o d (Addressing n) Sent h = refl
advanced_known world o d (Addressing n) (Came bytes) h = refl
advanced_known world o d Idle Sent h = refl
advanced_known world o d Idle (Came bytes) h = refl
advanced_known world o d Foreign Sent h = refl
advanced_known world o d Foreign (Came bytes) h = refl

advanced_foreign : {S : Type 0} (world : World S) (o : Owner) (d : Device S) (t : Transfer) (stage : Stage) → Fits o true t
    → view world o true d ≡ view world o true (advanced (whole world) d t stage)
advanced_foreign world o d (Sending []) Sent h = refl
advanced_foreign world o d (Sending (packet ∷ packets)) Sent h = refl
advanced_foreign world o d (Sending packets) (Came bytes) h = refl
advanced_foreign world o d (Taking x setup) Sent h = refl
advanced_foreign world o d (Taking x setup) (Came bytes) h =
    both _ _ _ _
    (sym (answered_foreign (has_at world.set o) d.core ((world.rules x).accepts (class_at d.classes x) setup bytes)))
    (sym (told_unseen world o x (λ r s. r.after_data s setup bytes) d.classes h))
advanced_foreign world o d Ending Sent h = refl
advanced_foreign world o d Ending (Came bytes) h = refl
advanced_foreign world o d (Addressing n) Sent h = refl
advanced_foreign world o d (Addressing n) (Came bytes) h = refl
advanced_foreign world o d Idle Sent h = refl
advanced_foreign world o d Idle (Came bytes) h = refl
advanced_foreign world o d Foreign Sent h = refl
advanced_foreign world o d Foreign (Came bytes) h = refl

stage_known : {S : Type 0} (world : World S) (o : Owner) (d : Device S) (note : Option Stage) → Fits o false d.core.transfer
    → work_stage (own world o) (view world o false d) note ≡ view world o false (work_stage (whole world) d note)
stage_known world o d None h = refl
stage_known world o d (Some stage) h = advanced_known world o (record d { core = record d.core { finished = None } }) d.core.transfer stage h

stage_foreign : {S : Type 0} (world : World S) (o : Owner) (d : Device S) (note : Option Stage) → Fits o true d.core.transfer
    → view world o true d ≡ view world o true (work_stage (whole world) d note)
stage_foreign world o d None h = refl
stage_foreign world o d (Some stage) h = advanced_foreign world o (record d { core = record d.core { finished = None } }) d.core.transfer stage h

pub stage_view : {S : Type 0} (world : World S) (o : Owner) (foreign : Bool) (d : Device S) → Fits o foreign d.core.transfer
    → work_stage (own world o) (view world o foreign d) (view world o foreign d).core.finished ≡ view world o foreign (work_stage (whole world) d d.core.finished)
stage_view world o false d h = stage_known world o d d.core.finished h
stage_view world o true d h = stage_foreign world o d d.core.finished h

-- What it leaves: all but what endpoint 0 holds ready, and a transfer that fits.
pub record Staged (o : Owner) (foreign : Bool) (new old : Core) : Type 0 where
  pub pipes : new.pipes ≡ old.pipes
  pub unserved : new.bus.unserved ≡ old.bus.unserved
  pub taken : new.bus.taken ≡ old.bus.taken
  pub toggle : new.bus.toggle ≡ old.bus.toggle
  pub request : new.request ≡ old.request
  pub finished : new.finished ≡ None
  pub fits : Fits o foreign new.transfer

sided : (o : Owner) (foreign : Bool) (core : Core) (side : Side) (t : Transfer) → core.finished ≡ None → Fits o foreign t → Staged o foreign (with_side core side t) core
sided o foreign core side t e h = record { pipes = refl; unserved = refl; taken = refl; toggle = refl; request = refl; finished = e; fits = h }

answered_staged : (o : Owner) (foreign : Bool) (core : Core) (b : Bool) → core.finished ≡ None → Staged o foreign (answered core b) core
answered_staged o foreign core true e = sided o foreign core (Wait [] false) Ending e tt
answered_staged o foreign core false e = sided o foreign core Stall Idle e tt

advanced_staged : {S : Type 0} (world : World S) (o : Owner) (foreign : Bool) (d : Device S) (t : Transfer) (stage : Stage) → d.core.finished ≡ None
    → Fits o foreign d.core.transfer → Staged o foreign (advanced (whole world) d t stage).core d.core
advanced_staged world o foreign d (Sending []) Sent e h = sided o foreign d.core d.core.bus.side Idle e tt
advanced_staged world o foreign d (Sending (packet ∷ packets)) Sent e h = sided o foreign d.core (Wait packet (is_empty packets)) (Sending packets) e tt
advanced_staged world o foreign d (Sending packets) (Came bytes) e h = sided o foreign d.core d.core.bus.side Idle e tt
advanced_staged world o foreign d (Taking x setup) Sent e h = sided o foreign d.core d.core.bus.side Idle e tt
advanced_staged world o foreign d (Taking x setup) (Came bytes) e h = answered_staged o foreign d.core ((world.rules x).accepts (class_at d.classes x) setup bytes) e
advanced_staged world o foreign d Ending Sent e h = sided o foreign d.core d.core.bus.side Idle e tt
advanced_staged world o foreign d Ending (Came bytes) e h = sided o foreign d.core d.core.bus.side Idle e tt
advanced_staged world o foreign d (Addressing n) Sent e h = sided o foreign d.core d.core.bus.side Idle e tt
advanced_staged world o foreign d (Addressing n) (Came bytes) e h = sided o foreign d.core d.core.bus.side Idle e tt
advanced_staged world o foreign d Idle Sent e h = sided o foreign d.core d.core.bus.side d.core.transfer e h
advanced_staged world o foreign d Idle (Came bytes) e h = sided o foreign d.core d.core.bus.side d.core.transfer e h
advanced_staged world o foreign d Foreign Sent e h = sided o foreign d.core d.core.bus.side d.core.transfer e h
advanced_staged world o foreign d Foreign (Came bytes) e h = sided o foreign d.core d.core.bus.side d.core.transfer e h

noted_staged : {S : Type 0} (world : World S) (o : Owner) (foreign : Bool) (d : Device S) (note : Option Stage) → d.core.finished ≡ note
    → Fits o foreign d.core.transfer → Staged o foreign (work_stage (whole world) d note).core d.core
noted_staged world o foreign d None e h = sided o foreign d.core d.core.bus.side d.core.transfer e h
noted_staged world o foreign d (Some stage) e h = again (advanced_staged world o foreign (record d { core = record d.core { finished = None } }) d.core.transfer stage refl h)
  where
    again : Staged o foreign (advanced (whole world) (record d { core = record d.core { finished = None } }) d.core.transfer stage).core (record d.core { finished = None })
        → Staged o foreign (advanced (whole world) (record d { core = record d.core { finished = None } }) d.core.transfer stage).core d.core
    again s = record { pipes = s.pipes; unserved = s.unserved; taken = s.taken; toggle = s.toggle; request = s.request; finished = s.finished; fits = s.fits }

pub stage_staged : {S : Type 0} (world : World S) (o : Owner) (foreign : Bool) (d : Device S) → Fits o foreign d.core.transfer
    → Staged o foreign (work_stage (whole world) d d.core.finished).core d.core
stage_staged world o foreign d h = noted_staged world o foreign d d.core.finished refl h

-- The first stage of a request: what endpoint 0 gets ready, and the transfer, whatever it did before.

pub record First (o : Owner) (foreign : Bool) (f : Core → Core) : Type 0 where
  pub side : Side
  pub transfer : Transfer
  pub is : (core : Core) → f core ≡ with_side core side transfer
  pub fits : Fits o foreign transfer

-- a data stage has a packet
pub record Filled {A : Type 0} (xs : List A) : Type 0 where
  pub head : A
  pub rest : List A
  pub is : xs ≡ head ∷ rest

counted : (f : ℕ → List ℕ) (n : ℕ) → n ≢ 0 → Filled (map f (numbers_from 0 n))
counted f zero ne = absurd (ne refl)
counted f (suc n) ne = record { head = f 0; rest = map f (numbers_from (0 + 1) n); is = refl }

some_packets : (bytes n : ℕ) → packet_count bytes (suc n) ≢ 0
some_packets bytes n = by (nat_lt bytes (suc n)) refl
  where
    more : (k : ℕ) → k + 1 ≢ 0
    more k e = omega (arith, e)

    full : (bytes n : ℕ) → nat_lt bytes (suc n) ≡ false → (bytes + 63) / 64 ≢ 0
    full bytes n k e = grind (arith, nat_tests)

    by : (b : Bool) → nat_lt bytes (suc n) ≡ b → (if b then bytes / 64 + 1 else (bytes + 63) / 64) ≢ 0
    by true k = more (bytes / 64)
    by false k = full bytes n k

filled : (bytes : List ℕ) (n : ℕ) → Filled (data_packets bytes (suc n))
filled bytes n = counted (packet_at (take (suc n) bytes)) (packet_count (min (length bytes) (suc n)) (suc n)) (some_packets (min (length bytes) (suc n)) n)

data_first : (o : Owner) (foreign : Bool) (bytes : List ℕ) (allowed : ℕ) → First o foreign (λ core. with_data core bytes allowed)
data_first o foreign bytes zero = record { side = Wait [] false; transfer = Ending; is = λ core. refl; fits = tt }
data_first o foreign bytes (suc n) =
    let packets = filled bytes n in
    record { side = Wait packets.head (is_empty packets.rest); transfer = Sending packets.rest; is = λ core. ap (sending core) packets.is; fits = tt }

pub staged_first : (o : Owner) (foreign : Bool) (d : Decision) (e : Effect) (allowed : ℕ) → Fits o foreign (ending e) → First o foreign (λ core. staged core d e allowed)
staged_first o foreign (decision.Data bytes) e allowed h = data_first o foreign bytes.items allowed
staged_first o foreign (decision.Take n) e allowed h = record { side = Stall; transfer = Idle; is = λ core. refl; fits = tt }
staged_first o foreign decision.Status e allowed h = record { side = Wait [] false; transfer = ending e; is = λ core. refl; fits = h }
staged_first o foreign decision.Stall e allowed h = record { side = Stall; transfer = Idle; is = λ core. refl; fits = tt }

pub class_first : (o : Owner) (foreign : Bool) (x : Owner) (setup : Setup) (d : Decision) → knows_own o x ≡ not foreign → First o foreign (λ core. class_staged core x setup d)
class_first o foreign x setup (decision.Data bytes) h = data_first o foreign bytes.items setup.length
class_first o foreign x setup (decision.Take n) h = record { side = Armed; transfer = Taking x setup; is = λ core. refl; fits = h }
class_first o foreign x setup decision.Status h = record { side = Wait [] false; transfer = Ending; is = λ core. refl; fits = tt }
class_first o foreign x setup decision.Stall h = record { side = Stall; transfer = Idle; is = λ core. refl; fits = tt }

-- Begun by an owner's machine, whatever it had of endpoint 0: a SETUP has left both as one.

abbrev made : (ℕ → Bool) → Core → Side → Transfer → Bool → Toggle → Option Stage → Core
made at core side t taken toggle finished =
    record core { bus = record core.bus { side = side; taken = taken; toggle = toggle }; pipes = masked at core.pipes; finished = finished; transfer = t }

pub first_view : (at : ℕ → Bool) (foreign : Bool) (core : Core) (side : Side) (t : Transfer) → core.finished ≡ None → core.bus.taken ≡ false → core.bus.toggle ≡ D1
    → with_side (view_core at foreign core) side t ≡ view_core at false (with_side core side t)
first_view at false core side t e k l = refl
first_view at true core side t e k l =
    ap (λ b. made at core side t b D1 None) (sym k) ∙ ap (λ b. made at core side t core.bus.taken b None) (sym l) ∙ ap (λ b. made at core side t core.bus.taken core.bus.toggle b) (sym e)

-- and of one of another class only that it stands is kept
pub foreign_view : (at : ℕ → Bool) (foreign : Bool) (core : Core) (side : Side) (t : Transfer) → core.finished ≡ None
    → made_foreign (view_core at foreign core) ≡ view_core at true (with_side core side t)
foreign_view at false core side t e = ap (λ b. record (view_core at true core) { finished = b }) e
foreign_view at true core side t e = refl
