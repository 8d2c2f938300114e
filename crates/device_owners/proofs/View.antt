-- An owner's machine as a view of the whole device: it has the endpoints of that owner and of the core, and the class of that owner.
-- Where another class has a control transfer, endpoint 0 is as `quiet` has it. Here bus events and handler runs.
use Rattle.std.proofs.Common.{◌≡◌, ℕ, zero, suc, ◌+◌, List, Bool, true, false, not, ◌==◌, ◌&&◌, ◌||◌, Option, Some, None, refl, ap, sym, ◌∙◌}
use Rattle.std.specs.Prelude.{is_some, ⊤, if◌then◌else◌}
use Rattle.usb_packet.specs.declared.bus.Toggle.{Toggle}
use Rattle.usb_packet.specs.declared.bus.Toggle.TheVariants.{D1}
use Rattle.usb_packet.specs.declared.bus.BusEvent.{BusEvent}
use Rattle.usb_packet.specs.declared.bus.BusEvent.TheVariants as event
use Rattle.usb_packet.specs.declared.bus.Owner.{Owner}
use Rattle.usb_descriptor.specs.Set.{Set, same_owner, owner_of_endpoint}
use Rattle.device_machine.specs.declared.control.Stage.{Stage}
use Rattle.device_machine.specs.declared.control.Stage.TheVariants.{Came}
use Rattle.device_machine.specs.declared.control.Side.{Side}
use Rattle.device_machine.specs.declared.control.Side.TheVariants.{Off, Wait, Loaded, Last, Armed, Stall, Finished}
use Rattle.device_machine.specs.Bus.{Bus, is_empty, last_of, hears, hears_packet, hears_setup, serves, takes, after_setup, after_out, after_in, bus_after, pipes_after, finished_stage}
use Rattle.device_machine.specs.Pipes.{Pipes, out_slot, in_slot, with_out_slot, with_in_slot, out_slot_after, in_slot_after}
use Rattle.usb_pipe.specs.Classes.{Classes}
use Rattle.device_owners.specs.Knows.{knows_own}
use Rattle.device_owners.specs.Device.{Transfer, Idle, Sending, Taking, Ending, Addressing, Foreign, Core, Device, emptied, with_stage, with_request, with_pipes_served, after_plain_irq, new_address, with_address, after_stages, core_after_irq, World}
use Rattle.device_owners.specs.Lines.{sees_event}
use Rattle.device_owners.proofs.Mask.{masked, OutIs, InIs, out_is, in_is, out_seen, in_seen, with_out_seen, with_in_seen, with_out_unseen, with_in_unseen, out_itself, in_itself, irq_seen, unopened_seen}
use Rattle.device_owners.proofs.Sets.{never, suc_not, knows_same, knows_core}
use Rattle.device_owners.proofs.Seen.{seen}
use Rattle.device_owners.proofs.Kept.{Kept, out_kept, in_kept, idle_packet, idle_token}

-- The view.

-- an owner's machine has the endpoint at this address
abbrev pub has_at : Set → Owner → ℕ → Bool
has_at set o a = knows_own o (owner_of_endpoint set.config a)

-- endpoint 0 with nothing ready, and as a SETUP leaves it
abbrev pub quiet : Bus → Bus
quiet bus = record bus { side = Off; taken = false; toggle = D1 }

abbrev pub view_core : (ℕ → Bool) → Bool → Core → Core
view_core at false core = record core { pipes = masked at core.pipes }
view_core at true core = record core { bus = quiet core.bus; pipes = masked at core.pipes; finished = None; transfer = Foreign }

-- the machine of this owner, where another class has the control transfer or not
abbrev pub view : {S : Type 0} → World S → Owner → Bool → Device S → Device S
view world o foreign d = record { core = view_core (has_at world.set o) foreign d.core; classes = seen world o d.classes }

-- what of it is as the whole device has it
pub view_request : (at : ℕ → Bool) (foreign : Bool) (core : Core) → (view_core at foreign core).request ≡ core.request
view_request at false core = refl
view_request at true core = refl

pub view_pipes : (at : ℕ → Bool) (foreign : Bool) (core : Core) → (view_core at foreign core).pipes ≡ masked at core.pipes
view_pipes at false core = refl
view_pipes at true core = refl

-- a device by its two parts, and two whose parts are equal
abbrev pub of_both : {S : Type 0} → Core → Classes S → Device S
of_both core classes = record { core = core; classes = classes }

pub both : {S : Type 0} (a b : Core) (c d : Classes S) → a ≡ b → c ≡ d → of_both a c ≡ of_both b d
both a b c d e k = ap (λ x. of_both x c) e ∙ ap (λ y. of_both b y) k

-- What holds of the whole device beside it.

-- a transfer that takes data is of a class that is known, or of another
abbrev pub Fits : Owner → Bool → Transfer → Type 0
Fits o foreign Idle = ⊤
Fits o foreign (Sending packets) = ⊤
Fits o foreign (Taking x setup) = knows_own o x ≡ not foreign
Fits o foreign Ending = ⊤
Fits o foreign (Addressing n) = foreign ≡ false
Fits o foreign Foreign = ⊤

-- endpoint 0 since a SETUP, as far as no task has taken it
pub record Fresh (bus : Bus) (request : Option (List ℕ)) : Type 0 where
  pub waits_taken : is_empty bus.unserved ≡ false → bus.taken ≡ false
  pub waits_toggle : is_empty bus.unserved ≡ false → bus.toggle ≡ D1
  pub noted_taken : is_some request ≡ true → bus.taken ≡ false
  pub noted_toggle : is_some request ≡ true → bus.toggle ≡ D1
  pub noted_side : is_some request ≡ true → bus.side ≡ Off

pub record Holds (set : Set) (o : Owner) (foreign : Bool) (last : Owner) (core : Core) : Type 0 where
  pub kept : Kept (owner_of_endpoint set.config) core.pipes
  pub fits : Fits o foreign core.transfer
  pub fresh : Fresh core.bus core.request
  -- the class that has the control transfer isn't known
  pub strange : foreign ≡ true → knows_own o last ≡ false

-- Bus events that are seen.

abbrev pub EventIs : (ℕ → Bool) → Bool → BusEvent → Type 0
EventIs at b event.Reset = ⊤
EventIs at b (event.Setup addr bytes ok) = ⊤
EventIs at b (event.Out addr ep toggle packet ok) = OutIs at b ep
EventIs at b (event.In addr ep ok) = InIs at b ep

quiet_in : (bus : Bus) (side : Side) → quiet bus ≡ quiet (after_in bus side)
quiet_in bus Off = refl
quiet_in bus (Wait packet last) = refl
quiet_in bus (Loaded packet) = refl
quiet_in bus (Last packet) = refl
quiet_in bus Armed = refl
quiet_in bus Stall = refl
quiet_in bus (Finished stage) = refl

quiet_out : (bus : Bus) (packet : List ℕ) (b : Bool) → quiet bus ≡ quiet (if b then record bus { side = Finished (Came packet); taken = true } else bus)
quiet_out bus packet true = refl
quiet_out bus packet false = refl

quiet_if : (x bus : Bus) (b : Bool) → quiet bus ≡ quiet x → quiet bus ≡ quiet (if b then x else bus)
quiet_if x bus true e = e
quiet_if x bus false e = refl

same_if : {A : Type 0} (b : Bool) (x : A) → (if b then x else x) ≡ x
same_if true x = refl
same_if false x = refl

quiet_setup : (bus : Bus) (bytes : List ℕ) (b : Bool) → (if b then after_setup (quiet bus) bytes else quiet bus) ≡ quiet (if b then after_setup bus bytes else bus)
quiet_setup bus bytes true = refl
quiet_setup bus bytes false = refl

quiet_bus : (bus : Bus) (e : BusEvent) → bus_after (quiet bus) e ≡ quiet (bus_after bus e)
quiet_bus bus event.Reset = refl
quiet_bus bus (event.Setup addr bytes ok) = quiet_setup bus bytes (hears_setup bus addr ok)
quiet_bus bus (event.Out addr ep toggle packet ok) =
    same_if (hears_packet bus addr ok && serves bus ep) (quiet bus)
    ∙ quiet_if (after_out bus toggle packet) bus (hears_packet bus addr ok && serves bus ep) (quiet_out bus packet (takes bus.side bus.taken toggle))
quiet_bus bus (event.In addr ep ok) =
    same_if (hears bus addr && (ok && serves bus ep)) (quiet bus)
    ∙ quiet_if (after_in bus bus.side) bus (hears bus addr && (ok && serves bus ep)) (quiet_in bus bus.side)

pipes_seen : (at : ℕ → Bool) (bus : Bus) (p : Pipes) (e : BusEvent) → EventIs at true e → pipes_after bus (masked at p) e ≡ masked at (pipes_after bus p e)
pipes_seen at bus p event.Reset is = refl
pipes_seen at bus p (event.Setup addr bytes ok) is = refl
pipes_seen at bus p (event.Out addr ep toggle packet ok) is = by (hears_packet bus addr ok)
  where
    by : (b : Bool) → (if b then with_out_slot (masked at p) ep (out_slot_after (out_slot (masked at p) ep) toggle packet) else masked at p) ≡ masked at (if b then with_out_slot p ep (out_slot_after (out_slot p ep) toggle packet) else p)
    by true = ap (λ s. with_out_slot (masked at p) ep (out_slot_after s toggle packet)) (out_seen at p ep is) ∙ with_out_seen at p ep (out_slot_after (out_slot p ep) toggle packet) is
    by false = refl
pipes_seen at bus p (event.In addr ep ok) is = by (hears bus addr)
  where
    by : (b : Bool) → (if b then with_in_slot (masked at p) ep (in_slot_after (in_slot (masked at p) ep) ok) else masked at p) ≡ masked at (if b then with_in_slot p ep (in_slot_after (in_slot p ep) ok) else p)
    by true = ap (λ s. with_in_slot (masked at p) ep (in_slot_after s ok)) (in_seen at p ep is) ∙ with_in_seen at p ep (in_slot_after (in_slot p ep) ok) is
    by false = refl

-- what the pipes do goes by what all endpoints have in common
pipes_quiet : (bus : Bus) (p : Pipes) (e : BusEvent) → pipes_after (quiet bus) p e ≡ pipes_after bus p e
pipes_quiet bus p event.Reset = refl
pipes_quiet bus p (event.Setup addr bytes ok) = refl
pipes_quiet bus p (event.Out addr ep toggle packet ok) = refl
pipes_quiet bus p (event.In addr ep ok) = refl

abbrev pub core_after_bus : Core → BusEvent → Core
core_after_bus core e = record core { bus = bus_after core.bus e; pipes = pipes_after core.bus core.pipes e }

pub bus_seen : (at : ℕ → Bool) (foreign : Bool) (core : Core) (e : BusEvent) → EventIs at true e → core_after_bus (view_core at foreign core) e ≡ view_core at foreign (core_after_bus core e)
bus_seen at false core e is = ap (λ (q : Pipes). record core { bus = bus_after core.bus e; pipes = q }) (pipes_seen at core.bus core.pipes e is)
bus_seen at true core e is =
    ap (λ (q : Pipes). record (view_core at true core) { bus = bus_after (quiet core.bus) e; pipes = q }) (pipes_quiet core.bus (masked at core.pipes) e ∙ pipes_seen at core.bus core.pipes e is)
    ∙ ap (λ (x : Bus). record (view_core at true core) { bus = x; pipes = masked at (pipes_after core.bus core.pipes e) }) (quiet_bus core.bus e)

-- Bus events that aren't.

or_left : (a b : Bool) → (a || b) ≡ false → a ≡ false
or_left true b e = e
or_left false b e = refl

or_right : (a b : Bool) → (a || b) ≡ false → b ≡ false
or_right true b e = never (sym e)
or_right false b e = e

and_none : (a b c : Bool) → b ≡ false → (a && (b && c)) ≡ false
and_none true b c e = ap (λ x. x && c) e
and_none false b c e = refl

and_none_last : (a b c d : Bool) → c ≡ false → (a && (b && (c && d))) ≡ false
and_none_last true true c d e = ap (λ x. x && d) e
and_none_last true false c d e = refl
and_none_last false b c d e = refl

bus_unseen : (set : Set) (o : Owner) (bus : Bus) (e : BusEvent) → sees_event set o e ≡ false → bus_after bus e ≡ bus
bus_unseen set o bus event.Reset h = never (sym h)
bus_unseen set o bus (event.Setup addr bytes ok) h = never (sym h)
bus_unseen set o bus (event.Out addr ep toggle packet ok) h =
    ap (λ b. if b then after_out bus toggle packet else bus) (and_none (hears_packet bus addr ok) (ep == 0) (is_empty bus.unserved) (or_left (ep == 0) (same_owner o (owner_of_endpoint set.config ep)) h))
bus_unseen set o bus (event.In addr ep ok) h =
    ap (λ b. if b then after_in bus bus.side else bus) (and_none_last (hears bus addr) ok (ep == 0) (is_empty bus.unserved) (or_left (ep == 0) (same_owner o (owner_of_endpoint set.config (128 + ep))) h))

-- a packet on an endpoint of another class moves none that is seen, and one on an endpoint of the core moves nothing
out_unseen : (set : Set) (o : Owner) (p : Pipes) → Kept (owner_of_endpoint set.config) p → (ep : ℕ) (toggle : Toggle) (packet : List ℕ) (known : Bool) → has_at set o ep ≡ known
    → same_owner o (owner_of_endpoint set.config ep) ≡ false → masked (has_at set o) (with_out_slot p ep (out_slot_after (out_slot p ep) toggle packet)) ≡ masked (has_at set o) p
out_unseen set o p h ep toggle packet false k e = with_out_unseen (has_at set o) p ep (out_slot_after (out_slot p ep) toggle packet) (out_is (has_at set o) false ep k)
out_unseen set o p h ep toggle packet true k e =
    let idle = (out_kept (owner_of_endpoint set.config) p h ep).idle (knows_core o (owner_of_endpoint set.config ep) k e) in
    ap (λ s. masked (has_at set o) (with_out_slot p ep s)) (idle_packet (out_slot p ep) toggle packet idle) ∙ ap (masked (has_at set o)) (out_itself p ep)

in_unseen : (set : Set) (o : Owner) (p : Pipes) → Kept (owner_of_endpoint set.config) p → (ep : ℕ) (ok : Bool) (known : Bool) → has_at set o (128 + ep) ≡ known
    → same_owner o (owner_of_endpoint set.config (128 + ep)) ≡ false → masked (has_at set o) (with_in_slot p ep (in_slot_after (in_slot p ep) ok)) ≡ masked (has_at set o) p
in_unseen set o p h ep ok false k e = with_in_unseen (has_at set o) p ep (in_slot_after (in_slot p ep) ok) (in_is (has_at set o) false ep k)
in_unseen set o p h ep ok true k e =
    let idle = (in_kept (owner_of_endpoint set.config) p h ep).idle (knows_core o (owner_of_endpoint set.config (128 + ep)) k e) in
    ap (λ s. masked (has_at set o) (with_in_slot p ep s)) (idle_token (in_slot p ep) ok idle) ∙ ap (masked (has_at set o)) (in_itself p ep)

masked_if : (at : ℕ → Bool) (b : Bool) (x p : Pipes) → masked at x ≡ masked at p → masked at (if b then x else p) ≡ masked at p
masked_if at true x p e = e
masked_if at false x p e = refl

pipes_unseen : (set : Set) (o : Owner) (bus : Bus) (p : Pipes) → Kept (owner_of_endpoint set.config) p → (e : BusEvent) → sees_event set o e ≡ false
    → masked (has_at set o) (pipes_after bus p e) ≡ masked (has_at set o) p
pipes_unseen set o bus p h event.Reset k = never (sym k)
pipes_unseen set o bus p h (event.Setup addr bytes ok) k = never (sym k)
pipes_unseen set o bus p h (event.Out addr ep toggle packet ok) k =
    masked_if (has_at set o) (hears_packet bus addr ok) (with_out_slot p ep (out_slot_after (out_slot p ep) toggle packet)) p
    (out_unseen set o p h ep toggle packet (has_at set o ep) refl (or_right (ep == 0) (same_owner o (owner_of_endpoint set.config ep)) k))
pipes_unseen set o bus p h (event.In addr ep ok) k =
    masked_if (has_at set o) (hears bus addr) (with_in_slot p ep (in_slot_after (in_slot p ep) ok)) p
    (in_unseen set o p h ep ok (has_at set o (128 + ep)) refl (or_right (ep == 0) (same_owner o (owner_of_endpoint set.config (128 + ep))) k))

pub core_unseen : (set : Set) (o : Owner) (foreign : Bool) (core : Core) → Kept (owner_of_endpoint set.config) core.pipes → (e : BusEvent) → sees_event set o e ≡ false
    → view_core (has_at set o) foreign (core_after_bus core e) ≡ view_core (has_at set o) foreign core
core_unseen set o false core h e k =
    ap (λ (q : Pipes). record core { bus = bus_after core.bus e; pipes = q }) (pipes_unseen set o core.bus core.pipes h e k)
    ∙ ap (λ (x : Bus). record core { bus = x; pipes = masked (has_at set o) core.pipes }) (bus_unseen set o core.bus e k)
core_unseen set o true core h e k =
    ap (λ (q : Pipes). record (view_core (has_at set o) true core) { bus = quiet (bus_after core.bus e); pipes = q }) (pipes_unseen set o core.bus core.pipes h e k)
    ∙ ap (λ (x : Bus). record (view_core (has_at set o) true core) { bus = quiet x }) (bus_unseen set o core.bus e k)

packet_seen : (o x : Owner) (n : ℕ) → ((suc n == 0) || same_owner o x) ≡ true → knows_own o x ≡ true
packet_seen o x n e = knows_same o x (sym (ap (λ b. b || same_owner o x) (suc_not n)) ∙ e)

pub event_seen : (set : Set) (o : Owner) (e : BusEvent) → sees_event set o e ≡ true → EventIs (has_at set o) true e
event_seen set o event.Reset h = tt
event_seen set o (event.Setup addr bytes ok) h = tt
event_seen set o (event.Out addr zero toggle packet ok) h = tt
event_seen set o (event.Out addr (suc n) toggle packet ok) h = packet_seen o (owner_of_endpoint set.config (suc n)) n h
event_seen set o (event.In addr zero ok) h = tt
event_seen set o (event.In addr (suc n) ok) h = packet_seen o (owner_of_endpoint set.config (128 + suc n)) n h

-- Handler runs.

abbrev pub irq_of : Core → Option Stage → Option (List ℕ) → Core
irq_of core stage bytes = with_pipes_served (with_request (with_stage core stage) bytes)

plain_known : (at : ℕ → Bool) (core : Core) (stage : Option Stage) (bytes : Option (List ℕ)) → irq_of (view_core at false core) stage bytes ≡ view_core at false (irq_of core stage bytes)
plain_known at core None None = ap (λ (q : Pipes). record (irq_of core None None) { pipes = q }) (irq_seen at core.pipes)
plain_known at core None (Some bytes) = ap (λ (q : Pipes). record (irq_of core None (Some bytes)) { pipes = q }) (irq_seen at core.pipes)
plain_known at core (Some stage) None = ap (λ (q : Pipes). record (irq_of core (Some stage) None) { pipes = q }) (irq_seen at core.pipes)
plain_known at core (Some stage) (Some bytes) = ap (λ (q : Pipes). record (irq_of core (Some stage) (Some bytes)) { pipes = q }) (irq_seen at core.pipes)

plain_foreign : (at : ℕ → Bool) (core : Core) (stage : Option Stage) (bytes : Option (List ℕ)) → irq_of (view_core at true core) None bytes ≡ view_core at true (irq_of core stage bytes)
plain_foreign at core None None = ap (λ (q : Pipes). record (view_core at true (irq_of core None None)) { pipes = q }) (irq_seen at core.pipes)
plain_foreign at core None (Some bytes) = ap (λ (q : Pipes). record (view_core at true (irq_of core None (Some bytes))) { pipes = q }) (irq_seen at core.pipes)
plain_foreign at core (Some stage) None = ap (λ (q : Pipes). record (view_core at true (irq_of core (Some stage) None)) { pipes = q }) (irq_seen at core.pipes)
plain_foreign at core (Some stage) (Some bytes) = ap (λ (q : Pipes). record (view_core at true (irq_of core (Some stage) (Some bytes))) { pipes = q }) (irq_seen at core.pipes)

address_known : (at : ℕ → Bool) (core : Core) (stage : Option Stage) (n : ℕ) → with_address (with_stage (view_core at false core) stage) n ≡ view_core at false (with_address (with_stage core stage) n)
address_known at core None n = refl
address_known at core (Some stage) n = refl

stages_known : (at : ℕ → Bool) (core : Core) (address : Option ℕ) → after_stages (view_core at false core) address ≡ view_core at false (after_stages core address)
stages_known at core None = plain_known at core (finished_stage core.bus.side) (last_of core.bus.unserved)
stages_known at core (Some n) = address_known at core (finished_stage core.bus.side) n

no_address : (o : Owner) (t : Transfer) (stage : Option Stage) → Fits o true t → new_address t stage ≡ None
no_address o Idle stage h = refl
no_address o (Sending packets) stage h = refl
no_address o (Taking x setup) stage h = refl
no_address o Ending stage h = refl
no_address o (Addressing n) stage h = never (sym h)
no_address o Foreign stage h = refl

reset_or : (at : ℕ → Bool) (reset foreign : Bool) (x y : Core) → x ≡ view_core at foreign y
    → (if reset then emptied true else x) ≡ view_core at (if reset then false else foreign) (if reset then emptied true else y)
reset_or at true foreign x y e = ap (λ (q : Pipes). record (emptied true) { pipes = q }) (unopened_seen at)
reset_or at false foreign x y e = e

pub irq_view : (at : ℕ → Bool) (o : Owner) (foreign : Bool) (core : Core) → Fits o foreign core.transfer
    → core_after_irq (view_core at foreign core) ≡ view_core at (if core.bus.reset then false else foreign) (core_after_irq core)
irq_view at o false core h =
    let address = new_address core.transfer (finished_stage core.bus.side) in
    reset_or at core.bus.reset false (after_stages (view_core at false core) address) (after_stages core address) (stages_known at core address)
irq_view at o true core h =
    let address = new_address core.transfer (finished_stage core.bus.side) in
    reset_or at core.bus.reset true (after_plain_irq (view_core at true core)) (after_stages core address)
    (plain_foreign at core (finished_stage core.bus.side) (last_of core.bus.unserved) ∙ ap (λ a. view_core at true (after_stages core a)) (sym (no_address o core.transfer (finished_stage core.bus.side) h)))
