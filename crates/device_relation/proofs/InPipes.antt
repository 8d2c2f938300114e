-- A handler run serves the IN endpoints other than 0, one after another.
use Rattle.std.proofs.Common.{◌≡◌, ℕ, zero, suc, ◌+◌, ◌<◌, ◌≤◌, List, [], ◌∷◌, length, map, Bool, true, false, refl, ap, sym, ◌∙◌, arith, subst, get_or-set_same, length-set}
use Rattle.std.specs.Prelude.{slice_index_or, slice_set, if◌then◌else◌}
use Rattle.usb_ring.specs.Ring.{Ring}
use Rattle.dwc2_regs.specs.declared.access.TheConstants.{FS4}
use Rattle.device_table.specs.State.{Table, InEnd}
use Rattle.device_pipe.specs.InPipe as inward
use Rattle.device_pipe.specs.InPipe.{InPipe}
use Rattle.device_machine.specs.Pipes.{Pipes, InSlot, in_slot, with_in_slot, in_slot_after_irq}
use Rattle.device_rings.specs.Rings.{Rings, in_ring}
use Rattle.endpoint_relation.specs.InRelation.{InJoint, abstract_in}
use Rattle.endpoint_relation.specs.declared.in_.InState.{InState}
use Rattle.endpoint_relation.specs.declared.in_.InState.TheVariants.{Closed, Rest, Running, Posted}
use Rattle.endpoint_relation.specs.InSteps.{in_served, in_served_by, in_run, in_next, in_found, in_goes_on, shows_xfrc}
use Rattle.endpoint_relation.specs.InLaws.{InIs, InServes}
use Rattle.device_relation.specs.Software.{Software, Joint}
use Rattle.device_relation.specs.Relation.{Stands}
use Rattle.device_relation.specs.PipeRelation.{PipesStand, InPipePart}
use Rattle.device_relation.specs.Port.{Port, StandsFor}
use Rattle.device_relation.specs.Run.{Whole, in_joint_of, with_in_joint, in_pipe_served, in_pipes_served}
use Rattle.device_relation.proofs.Lifts.{InChanges, in_changes}

-- endpoint 0 and the pipes
pub record Both (w : Whole) (p : Port) (q : Pipes) : Type 0 where
  pub zero : StandsFor FS4 w.joint p
  pub pipes : PipesStand FS4 w.joint.table w.joint.software w.rings q

abbrev pub in_worked : Pipes → ℕ → Pipes
in_worked q n = with_in_slot q n (in_slot_after_irq (in_slot q n))

unfoldable pub ins_worked : ℕ → ℕ → Pipes → Pipes
ins_worked zero n q = q
ins_worked (suc k) n q = ins_worked k (n + 1) (in_worked q n)

fifteen : (m : ℕ) → m < 3 → suc m ≤ 15
fifteen m h = omega (arith, h)

-- the endpoint stays
goes_on_same : (left number : ℕ) (j : InJoint) → (in_goes_on left number j).software.endpoint ≡ j.software.endpoint
goes_on_same zero number j = refl
goes_on_same (suc left) number j = refl

run_same : (loaded number : ℕ) (b : Bool) (j : InJoint) → (if b then in_next number (in_found j) else j).software.endpoint ≡ j.software.endpoint
run_same loaded number true j = goes_on_same (in_found j).software.left number (in_found j)
run_same loaded number false j = refl

runs_same : (loaded number : ℕ) (j : InJoint) → (in_run loaded number j).software.endpoint ≡ j.software.endpoint
runs_same zero number j = goes_on_same j.software.left number j
runs_same (suc loaded) number j = run_same loaded number (shows_xfrc number j.end) j

served_same : (state : InState) (number : ℕ) (j : InJoint) → (in_served_by state number j).software.endpoint ≡ j.software.endpoint
served_same Closed number j = refl
served_same Rest number j = refl
served_same Running number j = runs_same j.software.loaded number j
served_same Posted number j = refl

same_endpoint : (number : ℕ) (j : InJoint) → (in_served number j).software.endpoint ≡ j.software.endpoint
same_endpoint number j = served_same j.software.state number j

one_served : InServes → (w : Whole) (p : Port) (q : Pipes) (m : ℕ) → m < 3 → Both w p q → Both (in_pipe_served w (suc m)) p (in_worked q (suc m))
one_served law w p q m few b =
    let t = w.joint.table in
    let s = w.joint.software in
    let r = w.rings in
    let j : InJoint = in_served (suc m) (in_joint_of w (suc m)) in
    let old : InPipePart t s r q m = b.pipes.ins m few in
    let is : InPipe = inward.after_irq (abstract_in (in_joint_of w (suc m))) in
    let new : InIs (suc m) j is = law m (in_joint_of w (suc m)) (fifteen m few) old.stands in
    let w1 = in_pipe_served w (suc m) in
    let st = b.zero.stands in
    let owner : (in_served (suc m) (in_joint_of w (suc m))).software.endpoint ≡ (in_joint_of w (suc m)).software.endpoint = same_endpoint (suc m) (in_joint_of w (suc m)) in
    record {
      zero = record {
        stands = record {
          ins = st.ins;
          outs = st.outs;
          pair = st.pair;
          side = st.side;
          rx = st.rx;
          rest = record { masks = st.rest.masks; hosts = st.rest.hosts; in_ends = length-set t.ins m j.end ∙ st.rest.in_ends; out_ends = st.rest.out_ends };
          core = record { awake = st.core.awake; reset = st.core.reset; address = st.core.address; landed = st.core.landed; asleep = st.core.asleep; next = st.core.next };
        };
        heard = b.zero.heard;
        next_address = b.zero.next_address;
        reset = b.zero.reset;
        finished = b.zero.finished;
        request = b.zero.request;
      };
      pipes = in_changes t w1.joint.table s w1.joint.software r w1.rings q (in_worked q (suc m)) m j (record (in_ring r (suc m)) { bytes = j.ring }) is few st.rest.in_ends
          (record {
            ends = refl;
            out_ends = refl;
            lies = λ n. refl;
            kepts = refl;
            out_kepts = refl;
            ring_is = refl;
            rings = refl;
            out_rings = refl;
            slots = ap (λ (x : InSlot). slice_set q.ins m x) (ap in_slot_after_irq old.slot ∙ ap (λ e. record { endpoint = e; pipe = is }) (sym owner));
            out_slots = refl;
          }) new b.pipes;
    }

-- all three
pub all_served : InServes → (w : Whole) (p : Port) (q : Pipes) → Both w p q → Both (in_pipes_served 3 1 w) p (ins_worked 3 1 q)
unfolding in_pipes_served ins_worked
all_served law w p q b =
    let q1 = in_worked q 1 in
    let q2 = in_worked q1 2 in
    let w1 = in_pipe_served w 1 in
    let w2 = in_pipe_served w1 2 in
    one_served law w2 p q2 2 (omega arith) (one_served law w1 p q1 1 (omega arith) (one_served law w p q 0 (omega arith) b))
