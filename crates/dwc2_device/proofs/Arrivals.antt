-- What came, and that controller, software and rings stand for a device all the way.
use Rattle.std.proofs.Common.{◌≡◌, ◌≢◌, ℕ, zero, suc, ◌-◌, ◌≤◌, List, [], ◌∷◌, length, Bool, true, false, refl, ap, sym, ◌∙◌, arith, subst}
use Rattle.std.specs.Prelude.{◌==◌, slice_index_or, if◌then◌else◌}
use Rattle.dwc2_regs.specs.declared.access.TheConstants.{FS4}
use Rattle.dwc2_fifo.specs.Rx.{Rx, Entry, popped}
use Rattle.device_arrivals.specs.Arrivals.{packets_at}
use Rattle.device_table.specs.State.{Table, InEnd, in_end_of, OutEnd, out_end, with_out}
use Rattle.device_table.specs.Words.{kind_of, number_of, out_data, setup_done, out_done}
use Rattle.device_table.specs.Read.{end_popped, entry_popped}
use Rattle.device_machine.specs.declared.control.Stage.TheVariants.{Sent}
use Rattle.device_machine.specs.Pipes.{Pipes}
use Rattle.device_rings.specs.Rings.{Rings, in_ring}
use Rattle.endpoint_relation.specs.declared.in_.InEndpoint.{InEndpoint}
use Rattle.endpoint_relation.specs.InRelation.{InStands, in_unused}
use Rattle.device_relation.specs.declared.software.Ready.{Ready}
use Rattle.device_relation.specs.declared.software.Ready.TheVariants as ready
use Rattle.device_relation.specs.Software.{Joint}
use Rattle.device_relation.specs.PipeRelation.{IsSound, PipesStand}
use Rattle.device_relation.specs.Port.{port_of, with_stage}
use Rattle.device_relation.specs.Run.{Whole, with_joint, packet_from, pipe_taken, arrival_taken, waiting_loaded, loaded_from, packet_loaded, sent_noted, last_acknowledged, acknowledged}
use Rattle.device_relation.proofs.Runs.{itself}
use Rattle.device_relation.proofs.Stages.{acknowledged_is, sent_for, last_for}
use Rattle.device_relation.proofs.Loads.{loaded_same, armed_same}
use Rattle.device_relation.proofs.Pipes.{same_pipes}
use Rattle.device_relation.proofs.Standing.{Standing, Goes, goes, next_word}
use Rattle.dwc2_device.specs.Standing.{IsStanding, Fits, InsStand}
use Rattle.dwc2_device.proofs.Ends.{behind}
use Rattle.dwc2_device.proofs.Loops.{isnt_zero, popped_one}

pub other_number : (w : Whole) (number bytes : ℕ) → number ≢ 0 → packet_from w number bytes ≡ pipe_taken w number bytes
other_number w zero bytes h = absurd (h refl)
other_number w (suc n) bytes h = refl

-- Standing.

to : (w : Whole) → IsStanding w → Standing w
to w s = record { port = s.port; pipes = s.pipes; zero = s.zero; stand = s.stand }

from : (w : Whole) → Standing w → IsStanding w
from w s = record { port = s.port; pipes = s.pipes; zero = s.zero; stand = s.stand }

pub sound_stands : (j : Joint) (r : Rings) → IsSound FS4 j r → IsStanding (record { joint = j; rings = r })
sound_stands j r h = let a = itself j r h in record { port = port_of j r; pipes = (port_of j r).pipes; zero = a.zero; stand = a.pipes }

goes_on : (w : Whole) → IsStanding w → next_word w ≢ 0 → Goes w
goes_on w s h = goes w (to w s) (isnt_zero (next_word w) h)

-- the packet has its place
pub fits : (w : Whole) → IsStanding w → next_word w ≢ 0 → Fits (popped_one w) (next_word w)
fits w s h =
    let g = goes_on w s h in
    let b = behind w s h in
    record {
      begins = b.begins;
      setup = b.setup;
      ends = b.ends;
      known = λ kind. known_by (number_of (next_word w)) refl g kind;
      room = λ n kind number. (g.place n kind number).room;
    }
  where
    known_by : (k : ℕ) → number_of (next_word w) ≡ k → Goes w → kind_of (next_word w) ≡ out_data → k ≤ 3
    known_by zero e g kind = omega arith
    known_by (suc n) e g kind = (g.place n kind e).known

pub taken_stands : (w : Whole) → IsStanding w → next_word w ≢ 0 → IsStanding (arrival_taken (popped_one w) (next_word w))
taken_stands w s h = from (arrival_taken (popped_one w) (next_word w)) (goes_on w s h).next

-- the packet that waits

record SameIns (old new : Joint) : Type 0 where
  ends : new.table.ins ≡ old.table.ins
  kepts : new.software.ins ≡ old.software.ins

loaded_same_ins : (j : Joint) (side : Ready) → SameIns j (loaded_from j side)
loaded_same_ins j (ready.Wait packet true) = record { ends = (armed_same (packet_loaded j.table packet) j.software.heard).ins ∙ (loaded_same j.table packet).ins; kepts = refl }
loaded_same_ins j (ready.Wait packet false) = record { ends = (loaded_same j.table packet).ins; kepts = refl }
loaded_same_ins j ready.Off = record { ends = refl; kepts = refl }
loaded_same_ins j ready.Loaded = record { ends = refl; kepts = refl }
loaded_same_ins j ready.Last = record { ends = refl; kepts = refl }
loaded_same_ins j ready.Armed = record { ends = refl; kepts = refl }
loaded_same_ins j ready.Stall = record { ends = refl; kepts = refl }

pub ins_stand : (w : Whole) → IsStanding w → InsStand w
ins_stand w s = record {
  one = (s.stand.ins 0 (omega arith)).stands;
  two = (s.stand.ins 1 (omega arith)).stands;
  three = (s.stand.ins 2 (omega arith)).stands;
  ends = s.zero.stands.rest.in_ends;
}

abbrev InsAt : List InEnd → List InEndpoint → Rings → ℕ → Type 0
InsAt ends kepts r m = InStands (suc m) (record { end = slice_index_or ends m (in_end_of 0); software = slice_index_or kepts m in_unused; ring = (in_ring r (suc m)).bytes })

same_at : (j j' : Joint) (r : Rings) (m : ℕ) → SameIns j j' → InsAt j.table.ins j.software.ins r m → InsAt j'.table.ins j'.software.ins r m
same_at j j' r m h st = subst (λ ends. InsAt ends j'.software.ins r m) (sym h.ends) (subst (λ kepts. InsAt j.table.ins kepts r m) (sym h.kepts) st)

same_stand : (j j' : Joint) (r : Rings) → SameIns j j' → InsStand (record { joint = j; rings = r }) → InsStand (record { joint = j'; rings = r })
same_stand j j' r h old = record {
  one = same_at j j' r 0 h old.one;
  two = same_at j j' r 1 h old.two;
  three = same_at j j' r 2 h old.three;
  ends = ap (λ (xs : List InEnd). length xs) h.ends ∙ old.ends;
}

pub loaded_stand : (w : Whole) → InsStand w → InsStand (with_joint w (waiting_loaded w.joint))
loaded_stand w old = same_stand w.joint (waiting_loaded w.joint) w.rings (loaded_same_ins w.joint w.joint.software.side) old

-- where nothing lies there a look changes nothing of them
outs_kept : (t : Table) (number : ℕ) (end : OutEnd) → (with_out t number end).ins ≡ t.ins
outs_kept t zero end = refl
outs_kept t (suc n) end = refl

end_kept : (t : Table) (status : ℕ) → (end_popped t status).ins ≡ t.ins
end_kept t status = by_kind (kind_of status == setup_done) (kind_of status == out_done)
  where
    by_kind : (a b : Bool) → (if a then record t { out0 = record t.out0 { stup = true }; core = record t.core { unserved = t.core.unserved - 1 } } else if b then with_out t (number_of status) (record (out_end t (number_of status)) { xfrc = true }) else t).ins ≡ t.ins
    by_kind true b = refl
    by_kind false true = outs_kept t (number_of status) (record (out_end t (number_of status)) { xfrc = true })
    by_kind false false = refl

entry_kept : (t : Table) (entries : List Entry) → (entry_popped t entries).ins ≡ t.ins
entry_kept t [] = refl
entry_kept t (entry ∷ entries) = end_kept (record t { rx = popped t.rx }) entry.status

pub popped_stand : (w : Whole) → IsStanding w → InsStand (popped_one w)
popped_stand w s = same_stand w.joint (popped_one w).joint w.rings (record { ends = entry_kept w.joint.table w.joint.table.rx.entries; kepts = refl }) (ins_stand w s)

-- a packet that was acknowledged

stays : (j j' : Joint) (r : Rings) (q : Pipes) → j'.table.outs ≡ j.table.outs → j'.table.ins ≡ j.table.ins → j'.software.outs ≡ j.software.outs → j'.software.ins ≡ j.software.ins
    → j'.table.rx ≡ j.table.rx → PipesStand FS4 j.table j.software r q → PipesStand FS4 j'.table j'.software r q
stays j j' r q a b c d e ps =
    same_pipes j.table j'.table j.software j'.software r q (record { outs = a; ins = b; out_kepts = c; in_kepts = d; lie = λ n. ap (λ (rx : Rx). packets_at (suc n) rx.entries) e }) ps

pub sent_stands : (w : Whole) → IsStanding w → w.joint.software.side ≡ ready.Loaded → acknowledged w.joint ≡ true → IsStanding (with_joint w (sent_noted w.joint))
sent_stands w s side found = record {
  port = with_stage s.port Sent;
  pipes = s.pipes;
  zero = sent_for w.joint s.port s.zero side (sym (acknowledged_is w.joint) ∙ found);
  stand = stays w.joint (sent_noted w.joint) w.rings s.pipes refl refl refl refl refl s.stand;
}

pub last_stands : (w : Whole) → IsStanding w → w.joint.software.side ≡ ready.Last → acknowledged w.joint ≡ true → IsStanding (with_joint w (last_acknowledged w.joint))
last_stands w s side found = record {
  port = s.port;
  pipes = s.pipes;
  zero = last_for w.joint s.port s.zero side (sym (acknowledged_is w.joint) ∙ found);
  stand = stays w.joint (last_acknowledged w.joint) w.rings s.pipes refl refl refl refl refl s.stand;
}
