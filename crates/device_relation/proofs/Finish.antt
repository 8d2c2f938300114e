-- A handler run that finds no reset is the device's.
use Rattle.std.proofs.Common.{◌≡◌, ℕ, zero, suc, ◌<◌, List, [], ◌∷◌, ◌++◌, Bool, true, false, Option, Some, None, refl, ap, sym, ◌∙◌, subst}
use Rattle.std.specs.Prelude.{if◌then◌else◌}
use Rattle.device_machine.specs.declared.control.Stage.{Stage}
use Rattle.device_machine.specs.declared.control.Stage.TheVariants.{Sent, Came}
use Rattle.device_machine.specs.declared.control.Side.{Side}
use Rattle.device_machine.specs.declared.control.Side.TheVariants.{Off, Wait, Loaded, Last, Armed, Stall, Finished}
use Rattle.device_machine.specs.Bus.{Bus, last_of, finished_stage}
use Rattle.device_machine.specs.Pipes.{Pipes, pipes_after_irq}
use Rattle.dwc2_regs.specs.declared.access.TheConstants.{FS4}
use Rattle.dwc2_fifo.specs.Rx.{Rx}
use Rattle.device_table.specs.State.{Table}
use Rattle.device_arrivals.specs.Arrivals.{Arrival, landed_on, packets_at}
use Rattle.device_arrivals.proofs.Tells.{tells}
use Rattle.device_rings.specs.Rings.{Rings}
use Rattle.endpoint_relation.specs.OutLaws.{OutIdleKeeps}
use Rattle.device_relation.specs.declared.software.Ready.{Ready}
use Rattle.device_relation.specs.declared.software.Ready.TheVariants as ready
use Rattle.device_relation.specs.Software.{Software, Joint}
use Rattle.device_relation.specs.Relation.{Stands, Pair, off_off, wait_wait, loaded_loaded, loaded_sent, last_last, last_armed, armed_armed, last_came, armed_came, stall_stall, loaded_off}
use Rattle.device_relation.specs.Relation.{last_off, armed_off, stall_off, IsAddress}
use Rattle.device_relation.specs.PipeRelation.{PipesStand}
use Rattle.device_relation.specs.Port.{Port, StandsFor, AllStandFor, with_request, with_stage, with_address, with_stages, with_pipes, address_set, pipes_served, after_plain_run}
use Rattle.device_relation.specs.Run.{Whole, with_joint, rest_served, sent_served, last_served, served_by, address_served, sent_noted, last_acknowledged, cleared_ack}
use Rattle.device_relation.proofs.SetupEvents.{never}
use Rattle.device_relation.proofs.Entries.{top_is}
use Rattle.device_relation.proofs.Stages.{finished_is, acknowledged_is, sent_for, address_for, last_for}
use Rattle.device_relation.proofs.Pipes.{SamePipes, same_pipes}
use Rattle.device_relation.proofs.InPipes.{Both}
use Rattle.device_relation.proofs.Serves.{Laws, rest_for, run_port, all_worked}
use Rattle.device_relation.proofs.Worked.{is_sent, zero_ends, pipes_end}

-- what one endpoint's steps keep
pub record RunLaws : Type 0 where
  pub laws : Laws
  pub idle : OutIdleKeeps

abbrev pub all_for : Whole → Port → Type 0
all_for w p = AllStandFor FS4 w.joint w.rings p

-- endpoint 0 stands for a device with notes, whatever its pipes
other_pipes : (j : Joint) (p : Port) (q : Pipes) → StandsFor FS4 j p → StandsFor FS4 j (with_pipes p q)
other_pipes j p q f = record { stands = f.stands; heard = f.heard; next_address = f.next_address; reset = f.reset; finished = f.finished; request = f.request }

joined : (w : Whole) (p : Port) (q : Pipes) → Both w p q → all_for w (with_pipes p q)
joined w p q b = record { zero = other_pipes w.joint p q b.zero; pipes = b.pipes }

lies_of : (j : Joint) (p : Port) (f : StandsFor FS4 j p) (n : ℕ) → packets_at (suc n) j.table.rx.entries ≡ landed_on (suc n) f.stands.rx.arrivals
lies_of j p f n = ap (λ (rx : Rx). packets_at (suc n) rx.entries) f.stands.rx.lie ∙ (tells FS4.out_eps f.stands.rx.arrivals top_is f.stands.rx.all.all).packets (suc n)

-- all that isn't a packet that was acknowledged
others_for : RunLaws → (j : Joint) (r : Rings) (p : Port) (q : Pipes) → is_sent p.bus.side ≡ false → StandsFor FS4 j p → PipesStand FS4 j.table j.software r q
    → all_for (rest_served FS4 (record { joint = j; rings = r })) (with_pipes (with_stages p (finished_stage p.bus.side)) (pipes_after_irq q))
others_for laws j r p q e f ps =
    let arrivals = f.stands.rx.arrivals in
    subst (λ x. all_for (rest_served FS4 (record { joint = j; rings = r })) (with_pipes x (pipes_after_irq q))) (zero_ends p arrivals f.stands.rx.its e)
    (subst (λ x. all_for (rest_served FS4 (record { joint = j; rings = r })) (with_pipes (run_port p arrivals) x)) (pipes_end laws.idle j.table j.software r q arrivals f.stands.rx.all (lies_of j p f) ps)
    (joined (rest_served FS4 (record { joint = j; rings = r })) (run_port p arrivals) (all_worked q arrivals) (rest_for laws.laws j r p q f ps)))

-- none was acknowledged
not_sent : {r : Ready} {side : Side} → Pair false r side → is_sent side ≡ false
unfolding is_sent
not_sent off_off = refl
not_sent wait_wait = refl
not_sent loaded_loaded = refl
not_sent last_last = refl
not_sent armed_armed = refl
not_sent last_came = refl
not_sent armed_came = refl
not_sent stall_stall = refl
not_sent loaded_off = refl
not_sent last_off = refl
not_sent armed_off = refl
not_sent stall_off = refl

last_not_sent : {x : Bool} {side : Side} → Pair x ready.Last side → is_sent side ≡ false
unfolding is_sent
last_not_sent last_last = refl
last_not_sent last_armed = refl
last_not_sent last_came = refl
last_not_sent last_off = refl

off_not_sent : {x : Bool} {side : Side} → Pair x ready.Off side → is_sent side ≡ false
unfolding is_sent
off_not_sent off_off = refl

wait_not_sent : {x : Bool} {side : Side} {q : List ℕ} {l : Bool} → Pair x (ready.Wait q l) side → is_sent side ≡ false
unfolding is_sent
wait_not_sent wait_wait = refl

armed_not_sent : {x : Bool} {side : Side} → Pair x ready.Armed side → is_sent side ≡ false
unfolding is_sent
armed_not_sent armed_armed = refl
armed_not_sent armed_came = refl
armed_not_sent armed_off = refl

stall_not_sent : {x : Bool} {side : Side} → Pair x ready.Stall side → is_sent side ≡ false
unfolding is_sent
stall_not_sent stall_stall = refl
stall_not_sent stall_off = refl

-- an acknowledged packet's registers leave the other endpoints
stays_at : (t t' : Table) (s s' : Software) (r : Rings) (q : Pipes) → t'.outs ≡ t.outs → t'.ins ≡ t.ins → s'.outs ≡ s.outs → s'.ins ≡ s.ins → t'.rx ≡ t.rx → PipesStand FS4 t s r q → PipesStand FS4 t' s' r q
stays_at t t' s s' r q a b c d e ps =
    same_pipes t t' s s' r q (record { outs = a; ins = b; out_kepts = c; in_kepts = d; lie = λ n. ap (λ (rx : Rx). packets_at (suc n) rx.entries) e }) ps

-- the stage decides whether an address is set
set_none : (p : Port) (stage : Option Stage) → address_set p.next_address stage ≡ None → with_pipes (with_stages p stage) (pipes_after_irq p.pipes) ≡ record (with_stages p stage) { pipes = pipes_served (address_set p.next_address stage) p.pipes }
set_none p stage e = ap (λ n. record (with_stages p stage) { pipes = pipes_served n p.pipes }) (sym e)

no_address : (p : Port) (side : Side) → is_sent side ≡ false → address_set p.next_address (finished_stage side) ≡ None
unfolding is_sent
no_address p (Finished Sent) e = never true e refl
no_address p (Finished (Came bytes)) e = refl
no_address p Off e = refl
no_address p (Wait q l) e = refl
no_address p (Loaded q) e = refl
no_address p (Last q) e = refl
no_address p Armed e = refl
no_address p Stall e = refl

plain_for : RunLaws → (j : Joint) (r : Rings) (p : Port) → is_sent p.bus.side ≡ false → StandsFor FS4 j p → PipesStand FS4 j.table j.software r p.pipes
    → all_for (rest_served FS4 (record { joint = j; rings = r })) (after_plain_run p)
plain_for laws j r p e f ps =
    subst (λ x. all_for (rest_served FS4 (record { joint = j; rings = r })) x) (set_none p (finished_stage p.bus.side) (no_address p p.bus.side e)) (others_for laws j r p p.pipes e f ps)

-- a packet that was acknowledged

sent_serves : RunLaws → (j : Joint) (r : Rings) (p : Port) (next : Option ℕ) → IsAddress next → p.next_address ≡ next → p.bus.side ≡ Finished Sent → StandsFor FS4 j p → PipesStand FS4 j.table j.software r p.pipes
    → j.software.side ≡ ready.Loaded → j.table.in0.xfrc ≡ true → all_for (sent_served FS4 (record { joint = j; rings = r }) next) (after_plain_run p)
sent_serves laws j r p (Some n) h is side f ps e x =
    subst (λ s. all_for (record { joint = address_served j n; rings = r }) (record (with_stages p (finished_stage s)) { pipes = pipes_served (address_set p.next_address (finished_stage s)) p.pipes })) (sym side)
    (subst (λ a. all_for (record { joint = address_served j n; rings = r }) (record (with_address (with_stage p Sent) a) { pipes = pipes_served a p.pipes })) (sym is)
    (record {
      zero = address_for j p n h f e x;
      pipes = stays_at j.table (address_served j n).table j.software (address_served j n).software r p.pipes refl refl refl refl refl ps;
    }))
sent_serves laws j r p None h is side f ps e x =
    let j1 = sent_noted j in
    let p1 = with_stage p Sent in
    let ps1 : PipesStand FS4 j1.table j1.software r p.pipes = stays_at j.table j1.table j.software j1.software r p.pipes refl refl refl refl refl ps in
    subst (λ s. all_for (rest_served FS4 (record { joint = j1; rings = r })) (record (with_stages p (finished_stage s)) { pipes = pipes_served (address_set p.next_address (finished_stage s)) p.pipes })) (sym side)
    (subst (λ a. all_for (rest_served FS4 (record { joint = j1; rings = r })) (record (with_address (with_stage p Sent) a) { pipes = pipes_served a p.pipes })) (sym is)
    (others_for laws j1 r p1 p.pipes off_is (sent_for j p f e x) ps1))
  where
    off_is : is_sent Off ≡ false
    off_is = off_not_sent {x = false} off_off

loaded_serves : RunLaws → (j : Joint) (r : Rings) (p : Port) (x : Bool) → j.table.in0.xfrc ≡ x → StandsFor FS4 j p → PipesStand FS4 j.table j.software r p.pipes → j.software.side ≡ ready.Loaded
    → all_for (if x then sent_served FS4 (record { joint = j; rings = r }) j.software.next_address else rest_served FS4 (record { joint = j; rings = r })) (after_plain_run p)
loaded_serves laws j r p true x f ps e =
    let is : p.bus.side ≡ Finished Sent = finished_is j.table j.software p.bus f.stands e x in
    sent_serves laws j r p j.software.next_address f.stands.core.next f.next_address is f ps e x
loaded_serves laws j r p false x f ps e = plain_for laws j r p (not_sent (subst (λ b. Pair b j.software.side p.bus.side) x f.stands.pair)) f ps

last_serves : RunLaws → (j : Joint) (r : Rings) (p : Port) (x : Bool) → j.table.in0.xfrc ≡ x → StandsFor FS4 j p → PipesStand FS4 j.table j.software r p.pipes → j.software.side ≡ ready.Last
    → all_for (if x then last_served FS4 (record { joint = j; rings = r }) else rest_served FS4 (record { joint = j; rings = r })) (after_plain_run p)
last_serves laws j r p true x f ps e =
    let j1 = last_acknowledged j in
    plain_for laws j1 r p (last_not_sent (subst (λ r. Pair j.table.in0.xfrc r p.bus.side) e f.stands.pair)) (last_for j p f e x)
    (stays_at j.table j1.table j.software j1.software r p.pipes refl refl refl refl refl ps)
last_serves laws j r p false x f ps e = plain_for laws j r p (last_not_sent (subst (λ r. Pair j.table.in0.xfrc r p.bus.side) e f.stands.pair)) f ps

serves_by : RunLaws → (j : Joint) (r : Rings) (p : Port) (side : Ready) → j.software.side ≡ side → StandsFor FS4 j p → PipesStand FS4 j.table j.software r p.pipes
    → all_for (served_by FS4 (record { joint = j; rings = r }) side) (after_plain_run p)
serves_by laws j r p ready.Loaded e f ps =
    subst (λ x. all_for (if x then sent_served FS4 (record { joint = j; rings = r }) j.software.next_address else rest_served FS4 (record { joint = j; rings = r })) (after_plain_run p)) (sym (acknowledged_is j))
    (loaded_serves laws j r p j.table.in0.xfrc refl f ps e)
serves_by laws j r p ready.Last e f ps =
    subst (λ x. all_for (if x then last_served FS4 (record { joint = j; rings = r }) else rest_served FS4 (record { joint = j; rings = r })) (after_plain_run p)) (sym (acknowledged_is j))
    (last_serves laws j r p j.table.in0.xfrc refl f ps e)
serves_by laws j r p ready.Off e f ps = plain_for laws j r p (off_not_sent (subst (λ r. Pair j.table.in0.xfrc r p.bus.side) e f.stands.pair)) f ps
serves_by laws j r p (ready.Wait q l) e f ps = plain_for laws j r p (wait_not_sent (subst (λ r. Pair j.table.in0.xfrc r p.bus.side) e f.stands.pair)) f ps
serves_by laws j r p ready.Armed e f ps = plain_for laws j r p (armed_not_sent (subst (λ r. Pair j.table.in0.xfrc r p.bus.side) e f.stands.pair)) f ps
serves_by laws j r p ready.Stall e f ps = plain_for laws j r p (stall_not_sent (subst (λ r. Pair j.table.in0.xfrc r p.bus.side) e f.stands.pair)) f ps

pub serves_for : RunLaws → (j : Joint) (r : Rings) (p : Port) → AllStandFor FS4 j r p → all_for (served_by FS4 (record { joint = j; rings = r }) j.software.side) (after_plain_run p)
serves_for laws j r p a = serves_by laws j r p j.software.side refl a.zero a.pipes
