-- A call on one endpoint other than 0 leaves endpoint 0 and the other endpoints as they are.
use Rattle.std.proofs.Common.{◌≡◌, ℕ, suc, ◌+◌, ◌<◌, List, length, true, false, refl, ap, sym, ◌∙◌, arith, length-set}
use Rattle.std.specs.Prelude.{◌-◌, nat_lt, slice_set, if◌then◌else◌}
use Rattle.std.proofs.lemmas.Bool.Decides.{nat_tests}
use Rattle.std.proofs.lemmas.List.{set-get_or}
use Rattle.usb_ring.specs.Ring.{Ring}
use Rattle.dwc2_regs.specs.declared.access.TheConstants.{FS4}
use Rattle.device_table.specs.State.{Kept, InEnd, OutEnd, no_out_end, in_end_of, in_end, out_end}
use Rattle.device_arrivals.specs.Arrivals.{packets_at}
use Rattle.device_rings.specs.Rings.{Rings, out_ring, in_ring, no_ring}
use Rattle.endpoint_relation.specs.declared.out_.OutEndpoint.{OutEndpoint}
use Rattle.endpoint_relation.specs.OutRelation.{OutStandsFor, not_open}
use Rattle.endpoint_relation.specs.declared.in_.InEndpoint.{InEndpoint}
use Rattle.endpoint_relation.specs.InRelation.{InJoint, in_unused}
use Rattle.endpoint_relation.specs.InLaws.{InIs}
use Rattle.device_pipe.specs.OutPipe.{OutPipe}
use Rattle.device_pipe.specs.InPipe.{InPipe}
use Rattle.device_machine.specs.Pipes.{Pipes, OutSlot, InSlot, out_slot, in_slot, with_out_slot, with_in_slot, changed_at}
use Rattle.device_relation.specs.Software.{Joint, out_kept, in_kept, with_out_kept, with_in_kept}
use Rattle.device_relation.specs.Port.{Port, StandsFor, AllStandFor, with_pipes}
use Rattle.device_relation.specs.Run.{with_table, with_out_parts, with_in_parts}
use Rattle.device_relation.proofs.Lifts.{out_changes, in_changes}

-- Endpoint 0.

-- the endpoints other than 0 and the number of the FIFO that was flushed, whatever they are
abbrev pub others : Joint → List InEnd → List OutEnd → List InEndpoint → List OutEndpoint → ℕ → Joint
others j ins outs in_kepts out_kepts flushed = record {
  table = record j.table { ins = ins; outs = outs; kept = record j.table.kept { grstctl = flushed } };
  software = record j.software { ins = in_kepts; outs = out_kepts };
}

pub zero_stays : (j : Joint) (p : Port) (q : Pipes) (ins : List InEnd) (outs : List OutEnd) (in_kepts : List InEndpoint) (out_kepts : List OutEndpoint) (flushed : ℕ)
    → length ins ≡ 3 → length outs ≡ 3 → StandsFor FS4 j p → StandsFor FS4 (others j ins outs in_kepts out_kepts flushed) (with_pipes p q)
zero_stays j p q ins outs in_kepts out_kepts flushed in_count out_count f =
    let st = f.stands in
    record {
      stands = record {
        ins = st.ins;
        outs = st.outs;
        pair = st.pair;
        side = st.side;
        rx = st.rx;
        rest = record { masks = ap (λ (k : Kept). record k { grstctl = flushed }) st.rest.masks; hosts = st.rest.hosts; in_ends = in_count; out_ends = out_count };
        core = record { awake = st.core.awake; reset = st.core.reset; address = st.core.address; landed = st.core.landed; asleep = st.core.asleep; next = st.core.next };
      };
      heard = f.heard;
      next_address = f.next_address;
      reset = f.reset;
      finished = f.finished;
      request = f.request;
    }

-- Addresses.

-- the endpoint of an address whose bit 7 is 0
pub out_address : (f : OutSlot → OutSlot) (g : InSlot → InSlot) (q : Pipes) (m : ℕ) → m < 3 → changed_at f g q (suc m) ≡ with_out_slot q (suc m) (f (out_slot q (suc m)))
out_address f g q m few =
    ap (λ b. if b then with_out_slot q (suc m) (f (out_slot q (suc m))) else with_in_slot q (suc m - 128) (g (in_slot q (suc m - 128)))) (below m few)
  where
    below : (m : ℕ) → m < 3 → nat_lt (suc m) 128 ≡ true
    below m h = grind (arith, nat_tests)

-- and of one whose bit 7 is 1
pub in_address : (f : OutSlot → OutSlot) (g : InSlot → InSlot) (q : Pipes) (address n : ℕ) → address ≡ 128 + n → changed_at f g q address ≡ with_in_slot q n (g (in_slot q n))
in_address f g q address n e =
    ap (λ b. if b then with_out_slot q address (f (out_slot q address)) else with_in_slot q (address - 128) (g (in_slot q (address - 128)))) (above address n e)
    ∙ ap (λ k. with_in_slot q k (g (in_slot q k))) (number address n e)
  where
    above : (address n : ℕ) → address ≡ 128 + n → nat_lt address 128 ≡ false
    above address n e = grind (arith, nat_tests)

    number : (address n : ℕ) → address ≡ 128 + n → address - 128 ≡ n
    number address n e = omega (arith, e)

-- One endpoint.

pub out_call : (j : Joint) (r r' : Rings) (p : Port) (m : ℕ) (end : OutEnd) (kept : OutEndpoint) (ring : Ring) (slot : OutSlot) (pipe : OutPipe)
    → m < 3 → r'.outs ≡ slice_set r.outs m ring → r'.ins ≡ r.ins → slot ≡ record { endpoint = kept.endpoint; pipe = pipe }
    → OutStandsFor (suc m) end kept (packets_at (suc m) j.table.rx.entries) ring pipe → AllStandFor FS4 j r p
    → AllStandFor FS4 (with_out_parts j (suc m) end kept) r' (with_pipes p (with_out_slot p.pipes (suc m) slot))
out_call j r r' p m end kept ring slot pipe few outs ins is new all =
    let j' = with_out_parts j (suc m) end kept in
    let st = all.zero.stands in
    record {
      zero = zero_stays j p (with_out_slot p.pipes (suc m) slot) j.table.ins j'.table.outs j.software.ins j'.software.outs j.table.kept.grstctl
          st.rest.in_ends (length-set j.table.outs m end ∙ st.rest.out_ends) all.zero;
      pipes = out_changes j.table j'.table j.software j'.software r r' p.pipes (with_out_slot p.pipes (suc m) slot) m end kept (packets_at (suc m) j.table.rx.entries) ring pipe few st.rest.out_ends
          (record {
            ends = refl;
            in_ends = refl;
            lies = refl;
            other_lies = λ n h. refl;
            kepts = refl;
            in_kepts = refl;
            rings = outs;
            in_rings = ins;
            slots = ap (λ (x : OutSlot). slice_set p.pipes.outs m x) is;
            in_slots = refl;
          }) new all.pipes;
    }

-- GRSTCTL may keep another number
abbrev pub with_flush : Joint → ℕ → Joint
with_flush j flushed = with_table j (record j.table { kept = record j.table.kept { grstctl = flushed } })

pub in_call : (j : Joint) (r r' : Rings) (p : Port) (m : ℕ) (i : InJoint) (ring : Ring) (slot : InSlot) (pipe : InPipe) (flushed : ℕ)
    → m < 3 → ring.bytes ≡ i.ring → r'.ins ≡ slice_set r.ins m ring → r'.outs ≡ r.outs → slot ≡ record { endpoint = i.software.endpoint; pipe = pipe }
    → InIs (suc m) i pipe → AllStandFor FS4 j r p
    → AllStandFor FS4 (with_flush (with_in_parts j (suc m) i.end i.software) flushed) r' (with_pipes p (with_in_slot p.pipes (suc m) slot))
in_call j r r' p m i ring slot pipe flushed few bytes ins outs is new all =
    let j' = with_flush (with_in_parts j (suc m) i.end i.software) flushed in
    let st = all.zero.stands in
    record {
      zero = zero_stays j p (with_in_slot p.pipes (suc m) slot) j'.table.ins j.table.outs j'.software.ins j.software.outs flushed
          (length-set j.table.ins m i.end ∙ st.rest.in_ends) st.rest.out_ends all.zero;
      pipes = in_changes j.table j'.table j.software j'.software r r' p.pipes (with_in_slot p.pipes (suc m) slot) m i ring pipe few st.rest.in_ends
          (record {
            ends = refl;
            out_ends = refl;
            lies = λ n. refl;
            kepts = refl;
            out_kepts = refl;
            ring_is = bytes;
            rings = ins;
            out_rings = outs;
            slots = ap (λ (x : InSlot). slice_set p.pipes.ins m x) is;
            out_slots = refl;
          }) new all.pipes;
    }

-- What stays as it is.

pub same_out_ring : (r : Rings) (m : ℕ) → r.outs ≡ slice_set r.outs m (out_ring r (suc m))
same_out_ring r m = sym (set-get_or r.outs m no_ring)

pub same_in_ring : (r : Rings) (m : ℕ) → r.ins ≡ slice_set r.ins m (in_ring r (suc m))
same_in_ring r m = sym (set-get_or r.ins m no_ring)

pub same_out_end : (j : Joint) (m : ℕ) (kept : OutEndpoint) → with_out_parts j (suc m) (out_end j.table (suc m)) kept ≡ record j { software = with_out_kept j.software (suc m) kept }
same_out_end j m kept = ap (λ (xs : List OutEnd). record { table = record j.table { outs = xs }; software = with_out_kept j.software (suc m) kept }) (set-get_or j.table.outs m no_out_end)

pub same_out_parts : (j : Joint) (m : ℕ) → with_out_parts j (suc m) (out_end j.table (suc m)) (out_kept j.software (suc m)) ≡ j
same_out_parts j m =
    same_out_end j m (out_kept j.software (suc m))
    ∙ ap (λ (xs : List OutEndpoint). record j { software = record j.software { outs = xs } }) (set-get_or j.software.outs m (not_open false))

pub same_in_end : (j : Joint) (m : ℕ) (kept : InEndpoint) → with_in_parts j (suc m) (in_end j.table (suc m)) kept ≡ record j { software = with_in_kept j.software (suc m) kept }
same_in_end j m kept = ap (λ (xs : List InEnd). record { table = record j.table { ins = xs }; software = with_in_kept j.software (suc m) kept }) (set-get_or j.table.ins m (in_end_of 0))

pub same_in_parts : (j : Joint) (m : ℕ) → with_in_parts j (suc m) (in_end j.table (suc m)) (in_kept j.software (suc m)) ≡ j
same_in_parts j m =
    same_in_end j m (in_kept j.software (suc m))
    ∙ ap (λ (xs : List InEndpoint). record j { software = record j.software { ins = xs } }) (set-get_or j.software.ins m in_unused)
