-- A handler run of the driver, with the notes that it leaves taken, is a handler run of the core.
use Rattle.std.proofs.Common.{◌≡◌, ℕ, List, [], Bool, true, false, Option, Some, None, ap, refl, sym, ◌∙◌, subst}
use Rattle.std.specs.Prelude.{◌||◌, if◌then◌else◌}
use Rattle.usb_descriptor.specs.Set.{Set}
use Rattle.usbd_core.specs.declared.state.DevState.{DevState}
use Rattle.device_machine.specs.declared.control.Stage.{Stage}
use Rattle.device_machine.specs.declared.control.Stage.TheVariants.{Sent, Came}
use Rattle.device_machine.specs.declared.control.Side.{Side}
use Rattle.device_machine.specs.declared.control.Side.TheVariants.{Off, Wait, Loaded, Last, Armed, Stall, Finished}
use Rattle.device_machine.specs.Bus.{Bus, finished_stage, loaded, last_of}
use Rattle.device_machine.specs.Pipes.{Pipes, pipes_after_irq}
use Rattle.device_owners.specs.Device as core
use Rattle.device_owners.specs.Device.{Core, Transfer, Idle, Sending, Taking, Ending, Addressing, Foreign, core_after_irq}
use Rattle.dwc2_regs.specs.declared.access.TheConstants.{FS4}
use Rattle.device_rings.specs.Rings.{Rings}
use Rattle.device_relation.specs.Relation.{is_idle, abstract}
use Rattle.device_relation.specs.PipeRelation.{IsSound, pipes_of}
use Rattle.device_relation.specs.Port as port
use Rattle.device_relation.specs.Port.{Port, port_of, after_handler}
use Rattle.device_relation.proofs.Pipes.{same_pipes}
use Rattle.device_relation.proofs.Runs.{other_notes}
use Rattle.dwc2_device.specs.Driver.{Driver, joint}
use Rattle.usbd_core.specs.Device.{Device, KeepsAddress, is_for_host, GivesStatus, Fits, Rests, Agrees, IsQuiet, address_of, core_of, port_in}
use Rattle.usbd_core.specs.Hears.{unconfigured, state_sent, with_driver, after_note}

-- What the software keeps beside its driver.
record Kept : Type 0 where
  state : DevState
  finished : Option Stage
  request : Option (List ℕ)
  transfer : Transfer

abbrev kept : Device → Kept
kept d = record { state = d.state; finished = d.finished; request = d.request; transfer = d.transfer }

abbrev device : Set → Driver → Rings → Kept → Device
device set driver rings k = record { set = set; port = driver; rings = rings; state = k.state; finished = k.finished; request = k.request; transfer = k.transfer }

-- with the notes of a run: a reset alone, or a stage and a SETUP
abbrev with_finished : Kept → Option Stage → Kept
with_finished k None = k
with_finished k (Some Sent) = record k { state = state_sent k.state k.transfer; finished = Some Sent }
with_finished k (Some (Came packet)) = record k { finished = Some (Came packet) }

abbrev with_setup : Kept → Option (List ℕ) → Kept
with_setup k None = k
with_setup k (Some bytes) = record k { request = Some bytes }

abbrev with_notes : Kept → Bool → Option Stage → Option (List ℕ) → Kept
with_notes k true finished request = record { state = unconfigured; finished = None; request = None; transfer = Idle }
with_notes k false finished request = with_setup (with_finished k finished) request

abbrev IsAlone : Bool → Option Stage → Option (List ℕ) → Type 0
IsAlone true finished request = (finished ≡ None) × (request ≡ None)
IsAlone false finished request = Unit {0}

-- a driver with these notes
abbrev noting : Driver → Bool → Option Stage → Option (List ℕ) → Driver
noting d reset finished request = record d { software = record d.software { reset = reset; finished = finished; request = request } }

abbrev quiet : Driver → Driver
quiet d = noting d false None None

heard_all : (d : Device) (reset : Bool) (finished : Option Stage) (request : Option (List ℕ)) → IsAlone reset finished request
    → after_note (after_note (with_driver d (noting d.port reset finished request))) ≡ device d.set (quiet d.port) d.rings (with_notes (kept d) reset finished request)
heard_all d true None None h = refl
heard_all d true (Some stage) request h = absurd (cc (h.0))
heard_all d true None (Some bytes) h = absurd (cc (h.1))
heard_all d false None None h = refl
heard_all d false None (Some bytes) h = refl
heard_all d false (Some Sent) None h = refl
heard_all d false (Some Sent) (Some bytes) h = refl
heard_all d false (Some (Came packet)) None h = refl
heard_all d false (Some (Came packet)) (Some bytes) h = refl

-- Over the driver's device with its notes: what it and the software are together, and what holds of them.

abbrev with_kept : Pipes → Bus → Kept → Core
with_kept ps bus k = record { bus = bus; pipes = ps; session = k.state.configured; finished = k.finished; request = k.request; transfer = k.transfer }

abbrev after : Kept → Port → Kept
after k p = with_notes k p.reset p.finished p.request

abbrev quiet_port : Port → Port
quiet_port p = record p { reset = false; finished = None; request = None }

-- the notes are those of one run; and once the software, which they made this, has taken them, all is as this core, and agrees
record Settles (set : Set) (k : Kept) (c : Core) (p : Port) : Type 0 where
  alone : IsAlone p.reset p.finished p.request
  core : with_kept p.pipes p.bus k ≡ c
  fits : Fits FS4 set (quiet_port p) k.state k.transfer
  rests : Rests (quiet_port p) k.finished k.request

-- with the other endpoints served
abbrev served : Pipes → Port → Port
served ps p = record p { pipes = pipes_after_irq ps }

-- a device without notes
abbrev plain : Pipes → Bus → Bool → Option ℕ → Port
plain ps bus heard next = record { bus = bus; pipes = ps; heard = heard; next_address = next; reset = false; finished = None; request = None }

is_quiet : (ps : Pipes) (bus : Bus) (heard : Bool) (next : Option ℕ) → IsQuiet (plain ps bus heard next)
is_quiet ps bus heard next = record { reset = refl; finished = refl; request = refl }

-- the packet that waits is loaded
keeps_loaded : (side : Side) (next due : Option ℕ) → KeepsAddress side next due → KeepsAddress (loaded side) next due
keeps_loaded Off next due k = tt
keeps_loaded (Wait packet true) next due k = k
keeps_loaded (Wait packet false) next due k = k
keeps_loaded (Loaded packet) next due k = k
keeps_loaded (Last packet) next due k = k
keeps_loaded Armed next due k = k
keeps_loaded Stall next due k = k
keeps_loaded (Finished stage) next due k = k

host_loaded : (side : Side) → is_for_host side ≡ true → is_for_host (loaded side) ≡ true
host_loaded Off h = refl
host_loaded (Wait packet true) h = absurd (cc (h))
host_loaded (Wait packet false) h = refl
host_loaded (Loaded packet) h = h
host_loaded (Last packet) h = h
host_loaded Armed h = h
host_loaded Stall h = h
host_loaded (Finished stage) h = h

status_loaded : (t : Transfer) (side : Side) → GivesStatus t side → GivesStatus t (loaded side)
status_loaded (Addressing n) side g = host_loaded side g
status_loaded Idle side g = tt
status_loaded (Sending packets) side g = tt
status_loaded (Taking o setup) side g = tt
status_loaded Foreign side g = tt
status_loaded Ending side g = tt

status_off : (t : Transfer) → GivesStatus t Off
status_off (Addressing n) = refl
status_off Idle = tt
status_off (Sending packets) = tt
status_off (Taking o setup) = tt
status_off Foreign = tt
status_off Ending = tt

-- no stage finished
request_settles : (ps : Pipes) (set : Set) (k : Kept) (bus : Bus) (heard : Bool) (next : Option ℕ) (last : Option (List ℕ))
    → Fits FS4 set (plain ps bus heard next) k.state k.transfer → Rests (plain ps bus heard next) k.finished k.request
    → Settles set (after k (served ps (port.with_request (plain ps bus heard next) last))) (core.with_pipes_served (core.with_request (with_kept ps bus k) last)) (served ps (port.with_request (plain ps bus heard next) last))
request_settles ps set k bus heard next None f r = record {
  alone = tt;
  core = refl;
  fits = record {
    quiet = is_quiet (pipes_after_irq ps) (record bus { side = loaded bus.side }) heard next;
    address = f.address;
    served = f.served;
    keeps = keeps_loaded bus.side next (address_of k.transfer) f.keeps;
    status = status_loaded k.transfer bus.side f.status;
  };
  rests = λ e. (ap loaded (r e).0, (r e).1);
}
request_settles ps set k bus heard next (Some bytes) f r = record {
  alone = tt;
  core = refl;
  fits = record {
    quiet = is_quiet (pipes_after_irq ps) (record bus { unserved = []; side = Off }) true None;
    address = f.address;
    served = f.served;
    keeps = tt;
    status = status_off k.transfer;
  };
  rests = λ e. (refl, refl);
}

-- a stage finished, and brings no address
abbrev at : Bus → Side → Bus
at bus side = record bus { side = side }

stage_settles : (ps : Pipes) (set : Set) (k : Kept) (bus : Bus) (stage : Stage) (last : Option (List ℕ)) → with_finished k (Some stage) ≡ record k { finished = Some stage }
    → Fits FS4 set (plain ps (at bus (Finished stage)) true None) k.state k.transfer
    → Settles set (after k (served ps (port.with_request (port.with_stage (plain ps (at bus (Finished stage)) true None) stage) last)))
    (core.with_pipes_served (core.with_request (core.with_stage (with_kept ps (at bus (Finished stage)) k) (Some stage)) last))
    (served ps (port.with_request (port.with_stage (plain ps (at bus (Finished stage)) true None) stage) last))
stage_settles ps set k bus stage None e f =
    subst (λ (n : Kept). Settles set n (core.with_pipes_served (core.with_request (core.with_stage (with_kept ps (at bus (Finished stage)) k) (Some stage)) None)) (served ps (port.with_request (port.with_stage (plain ps (at bus (Finished stage)) true None) stage) None)))
    (sym e)
    (record {
      alone = tt;
      core = refl;
      fits = record { quiet = is_quiet (pipes_after_irq ps) (at bus Off) true None; address = f.address; served = f.served; keeps = tt; status = status_off k.transfer };
      rests = λ e. (refl, refl);
    })
stage_settles ps set k bus stage (Some bytes) e f =
    subst (λ (n : Kept). Settles set (record n { request = Some bytes }) (core.with_pipes_served (core.with_request (core.with_stage (with_kept ps (at bus (Finished stage)) k) (Some stage)) (Some bytes))) (served ps (port.with_request (port.with_stage (plain ps (at bus (Finished stage)) true None) stage) (Some bytes))))
    (sym e)
    (record {
      alone = tt;
      core = refl;
      fits = record { quiet = is_quiet (pipes_after_irq ps) (record bus { unserved = []; side = Off }) true None; address = f.address; served = f.served; keeps = tt; status = status_off k.transfer };
      rests = λ e. (refl, refl);
    })

-- with this transfer
abbrev on : Kept → Transfer → Kept
on k t = record k { transfer = t }

-- the stage of a transfer finished
abbrev port_finished : Pipes → Bus → Option ℕ → Stage → Port
port_finished ps bus next stage = port.after_plain_run (plain ps (at bus (Finished stage)) true next)

abbrev core_finished : Pipes → Bus → Kept → Stage → Core
core_finished ps bus k stage = core.after_stages (with_kept ps (at bus (Finished stage)) k) (core.new_address k.transfer (Some stage))

transfer_settles : (ps : Pipes) (set : Set) (k : Kept) (bus : Bus) (stage : Stage) (t : Transfer) → Fits FS4 set (plain ps (at bus (Finished stage)) true (address_of t)) k.state t
    → Settles set (after (on k t) (port_finished ps bus (address_of t) stage)) (core_finished ps bus (on k t) stage) (port_finished ps bus (address_of t) stage)
transfer_settles ps set k bus Sent (Addressing n) f = record {
  alone = tt;
  core = refl;
  fits = record { quiet = is_quiet ps (record bus { side = Off; address = n }) true None; address = refl; served = f.served; keeps = tt; status = refl };
  rests = λ e. (refl, refl);
}
transfer_settles ps set k bus (Came bytes) (Addressing n) f = absurd (cc (f.status))
transfer_settles ps set k bus Sent Idle f = stage_settles ps set (on k Idle) bus Sent (last_of bus.unserved) refl f
transfer_settles ps set k bus (Came bytes) Idle f = stage_settles ps set (on k Idle) bus (Came bytes) (last_of bus.unserved) refl f
transfer_settles ps set k bus Sent (Sending packets) f = stage_settles ps set (on k (Sending packets)) bus Sent (last_of bus.unserved) refl f
transfer_settles ps set k bus Sent (Taking o setup) f = stage_settles ps set (on k (Taking o setup)) bus Sent (last_of bus.unserved) refl f
transfer_settles ps set k bus Sent Foreign f = stage_settles ps set (on k Foreign) bus Sent (last_of bus.unserved) refl f
transfer_settles ps set k bus (Came bytes) (Sending packets) f = stage_settles ps set (on k (Sending packets)) bus (Came bytes) (last_of bus.unserved) refl f
transfer_settles ps set k bus (Came bytes) (Taking o setup) f = stage_settles ps set (on k (Taking o setup)) bus (Came bytes) (last_of bus.unserved) refl f
transfer_settles ps set k bus (Came bytes) Foreign f = stage_settles ps set (on k Foreign) bus (Came bytes) (last_of bus.unserved) refl f
transfer_settles ps set k bus Sent Ending f = stage_settles ps set (on k Ending) bus Sent (last_of bus.unserved) refl f
transfer_settles ps set k bus (Came bytes) Ending f = stage_settles ps set (on k Ending) bus (Came bytes) (last_of bus.unserved) refl f

-- a run in which this stage finished, or none
abbrev by_stage : Port → Option Stage → Port
by_stage p stage = record (port.with_stages p stage) { pipes = port.pipes_served (port.address_set p.next_address stage) p.pipes }

-- a run that finds no reset, by what endpoint 0 holds
abbrev port_at : Pipes → Bus → Bool → Option ℕ → Side → Port
port_at ps bus heard next side = port.after_plain_run (plain ps (at bus side) heard next)

abbrev core_at : Pipes → Bus → Kept → Side → Core
core_at ps bus k side = core.after_stages (with_kept ps (at bus side) k) (core.new_address k.transfer (finished_stage side))

no_address : (t : Transfer) → core.new_address t None ≡ None
no_address (Addressing n) = refl
no_address Idle = refl
no_address (Sending packets) = refl
no_address (Taking o setup) = refl
no_address Foreign = refl
no_address Ending = refl

idle_settles : (ps : Pipes) (set : Set) (k : Kept) (bus : Bus) (heard : Bool) (next : Option ℕ) (side : Side) → finished_stage side ≡ None
    → Fits FS4 set (plain ps (at bus side) heard next) k.state k.transfer → Rests (plain ps (at bus side) heard next) k.finished k.request
    → Settles set (after k (port_at ps bus heard next side)) (core_at ps bus k side) (port_at ps bus heard next side)
idle_settles ps set k bus heard next side e f r =
    let none : core.new_address k.transfer (finished_stage side) ≡ None = ap (core.new_address k.transfer) e ∙ no_address k.transfer in
    let b : Bus = at bus side in
    let done = request_settles ps set k b heard next (last_of bus.unserved) f r in
    let found : Settles set (after k (by_stage (plain ps b heard next) None)) (core.after_stages (with_kept ps b k) None) (by_stage (plain ps b heard next) None) =
    subst (λ (x : Option Stage). Settles set (after k (by_stage (plain ps b heard next) None)) (core.with_pipes_served (core.with_request (core.with_stage (with_kept ps b k) x) (last_of bus.unserved))) (by_stage (plain ps b heard next) None)) (sym e) done in
    subst (λ (a : Option ℕ). Settles set (after k (port_at ps bus heard next side)) (core.after_stages (with_kept ps b k) a) (port_at ps bus heard next side)) (sym none)
    (subst (λ (x : Option Stage). Settles set (after k (by_stage (plain ps b heard next) x)) (core.after_stages (with_kept ps b k) None) (by_stage (plain ps b heard next) x)) (sym e) found)

was_first : (heard : Bool) → (heard || false) ≡ true → heard ≡ true
was_first true e = refl
was_first false e = e

side_settles : (ps : Pipes) (set : Set) (k : Kept) (bus : Bus) (heard : Bool) (next : Option ℕ) (side : Side) → (heard || is_idle side) ≡ true
    → Fits FS4 set (plain ps (at bus side) heard next) k.state k.transfer → Rests (plain ps (at bus side) heard next) k.finished k.request
    → Settles set (after k (port_at ps bus heard next side)) (core_at ps bus k side) (port_at ps bus heard next side)
side_settles ps set k bus heard next Off h f r = idle_settles ps set k bus heard next Off refl f r
side_settles ps set k bus heard next (Wait packet last) h f r = idle_settles ps set k bus heard next (Wait packet last) refl f r
side_settles ps set k bus heard next (Loaded packet) h f r = idle_settles ps set k bus heard next (Loaded packet) refl f r
side_settles ps set k bus heard next (Last packet) h f r = idle_settles ps set k bus heard next (Last packet) refl f r
side_settles ps set k bus heard next Armed h f r = idle_settles ps set k bus heard next Armed refl f r
side_settles ps set k bus heard next Stall h f r = idle_settles ps set k bus heard next Stall refl f r
side_settles ps set k bus heard next (Finished stage) h f r =
    let b : Bus = at bus (Finished stage) in
    let hears : heard ≡ true = was_first heard h in
    let brings : next ≡ address_of k.transfer = f.keeps in
    let heard_fits = subst (λ (x : Bool). Fits FS4 set (plain ps b x next) k.state k.transfer) hears f in
    let fits = subst (λ (x : Option ℕ). Fits FS4 set (plain ps b true x) k.state k.transfer) brings heard_fits in
    subst (λ (x : Bool). Settles set (after k (port_at ps bus x next (Finished stage))) (core_at ps bus k (Finished stage)) (port_at ps bus x next (Finished stage))) (sym hears)
    (subst (λ (x : Option ℕ). Settles set (after k (port_at ps bus true x (Finished stage))) (core_at ps bus k (Finished stage)) (port_at ps bus true x (Finished stage))) (sym brings)
    (transfer_settles ps set k bus stage k.transfer fits))

-- a run, by whether it finds a reset
abbrev port_by : Bool → Port → Port
port_by reset p = if reset then port.port_reset else port.after_plain_run p

abbrev core_by : Bool → Core → Core
core_by reset c = if reset then core.emptied true else core.after_stages c (core.new_address c.transfer (finished_stage c.bus.side))

reset_settles : (ps : Pipes) (set : Set) (k : Kept) (bus : Bus) (heard : Bool) (next : Option ℕ) (reset : Bool) → (heard || is_idle bus.side) ≡ true
    → Fits FS4 set (plain ps bus heard next) k.state k.transfer → Rests (plain ps bus heard next) k.finished k.request
    → Settles set (after k (port_by reset (plain ps bus heard next))) (core_by reset (with_kept ps bus k)) (port_by reset (plain ps bus heard next))
reset_settles ps set k bus heard next true h f r = record {
  alone = (refl, refl);
  core = refl;
  fits = record { quiet = record { reset = refl; finished = refl; request = refl }; address = refl; served = f.served; keeps = tt; status = tt };
  rests = λ e. absurd (cc (e));
}
reset_settles ps set k bus heard next false h f r = side_settles ps set k bus heard next bus.side h f r

is_plain : (p : Port) → IsQuiet p → p ≡ plain p.pipes p.bus p.heard p.next_address
is_plain p q =
    ap (λ (x : Bool). record p { reset = x }) q.reset
    ∙ ap (λ (x : Option Stage). record p { reset = false; finished = x }) q.finished
    ∙ ap (λ (x : Option (List ℕ)). record p { reset = false; finished = None; request = x }) q.request

run_settles : (set : Set) (k : Kept) (p : Port) → (p.heard || is_idle p.bus.side) ≡ true → Fits FS4 set p k.state k.transfer → Rests p k.finished k.request
    → Settles set (after k (after_handler p)) (core_after_irq (with_kept p.pipes p.bus k)) (after_handler p)
run_settles set k p h f r =
    let e : p ≡ plain p.pipes p.bus p.heard p.next_address = is_plain p f.quiet in
    subst (λ (x : Port). Settles set (after k (after_handler x)) (core_after_irq (with_kept p.pipes p.bus k)) (after_handler x)) (sym e)
    (reset_settles p.pipes set k p.bus p.heard p.next_address p.bus.reset h (subst (λ (x : Port). Fits FS4 set x k.state k.transfer) e f) r)

-- Over the driver.

-- the device once the notes of its driver are taken
pub record Heard (old new : Device) : Type 0 where
  pub core : core_of new ≡ core_after_irq (core_of old)
  pub agrees : Agrees FS4 new

-- with this driver and these rings
abbrev pub with_both : Device → Driver → Rings → Device
with_both d port rings = record d { port = port; rings = rings }

quiet_sound : (d : Driver) (rings : Rings) → IsSound FS4 (joint d) rings → IsSound FS4 (joint (quiet d)) rings
quiet_sound d rings st = record {
  zero = other_notes d.bank.table d.software (abstract (joint d)) false None None st.zero;
  pipes = same_pipes d.bank.table d.bank.table d.software (quiet d).software rings (pipes_of (joint d) rings) (record { outs = refl; ins = refl; out_kepts = refl; in_kepts = refl; lie = λ n. refl }) st.pipes;
}

heard_is : (old : Device) (d : Driver) (rings : Rings) (new : Device) → IsSound FS4 (joint d) rings → Settles old.set (after (kept old) (port_of (joint d) rings)) (core_after_irq (core_of old)) (port_of (joint d) rings)
    → new ≡ device old.set (quiet d) rings (after (kept old) (port_of (joint d) rings)) → Heard old new
heard_is old d rings new st s e =
    let settled : Heard old (device old.set (quiet d) rings (after (kept old) (port_of (joint d) rings))) =
    record { core = s.core; agrees = record { sound = quiet_sound d rings st; fits = s.fits; rests = s.rests } } in
    subst (λ (x : Device). Heard old x) (sym e) settled

twice : (old : Device) (d : Driver) (rings : Rings) → Agrees FS4 old → IsSound FS4 (joint d) rings → port_of (joint d) rings ≡ after_handler (port_in old)
    → Heard old (after_note (after_note (with_both old d rings)))
twice old d rings a st e =
    let s = run_settles old.set (kept old) (port_in old) a.sound.zero.side.first a.fits a.rests in
    let settled : Settles old.set (after (kept old) (port_of (joint d) rings)) (core_after_irq (core_of old)) (port_of (joint d) rings) =
    subst (λ (p : Port). Settles old.set (after (kept old) p) (core_after_irq (core_of old)) p) (sym e) s in
    heard_is old d rings (after_note (after_note (with_both old d rings))) st settled
    (heard_all (with_both old d rings) d.software.reset d.software.finished d.software.request settled.alone)

-- a handler run of the driver, and its notes taken
pub run_heard : (old : Device) (d : Driver) (rings : Rings) (one two : Device) → Agrees FS4 old → IsSound FS4 (joint d) rings → port_of (joint d) rings ≡ after_handler (port_in old)
    → one ≡ after_note (with_both old d rings) → two ≡ after_note one → Heard old two
run_heard old d rings one two a st e first second =
    subst (λ (x : Device). Heard old x) (sym (second ∙ ap after_note first)) (twice old d rings a st e)
