-- What holds of the device's pipes at every moment: the endpoint of a slot is the core's or its owner's, and no packet moves a pipe
-- of the core.
use Rattle.std.proofs.Common.{◌≡◌, ◌⊎◌, inl, inr, ℕ, zero, suc, ◌+◌, ◌-◌, List, [], ◌∷◌, length, map, replicate, Bool, true, false, ◌&&◌, refl, ap, sym, ◌∙◌, subst}
use Rattle.std.specs.Prelude.{slice_index_or, slice_set, nat_lt, ⊤, if◌then◌else◌}
use Rattle.usb_packet.specs.declared.bus.Toggle.{Toggle}
use Rattle.usb_packet.specs.declared.bus.BusEvent.{BusEvent}
use Rattle.usb_packet.specs.declared.bus.BusEvent.TheVariants as event
use Rattle.usb_packet.specs.declared.bus.Owner.{Owner}
use Rattle.usb_packet.specs.declared.bus.Owner.TheVariants.{Core}
use Rattle.usb_packet.specs.Toggles.{flipped, same_toggle}
use Rattle.usb_descriptor.specs.declared.endpoint.Endpoint.{Endpoint}
use Rattle.usb_descriptor.specs.Set.{Set, is_core}
use Rattle.usb_pipe.specs.Own.{Own}
use Rattle.device_pipe.specs.OutPipe as out
use Rattle.device_pipe.specs.OutPipe.{OutPipe, OutPhase}
use Rattle.device_pipe.specs.InPipe as inward
use Rattle.device_pipe.specs.InPipe.{InPipe, InPhase}
use Rattle.device_machine.specs.Pipes.{Pipes, OutSlot, InSlot, no_out_slot, no_in_slot, out_slot, in_slot, with_out_slot, with_in_slot, changed_at, is_out_open, out_hears, in_hears, pipes_unopened, out_slot_after, in_slot_after, out_slot_after_irq, in_slot_after_irq, pipes_after_irq, out_slot_after_task, in_slot_after_task, pipes_after_task, out_closed, in_closed, pipes_closed, out_opened, in_opened, with_endpoint_open, with_endpoints_open, session_pipes, out_halted, in_halted, out_cleared, in_cleared, with_halt, without_halt, without_halt_if, without_halts}
use Rattle.device_machine.specs.Bus.{Bus, hears, hears_packet, pipes_after}
use Rattle.device_owners.specs.Ends.{number_at, with_sends, with_receives, with_own}
use Rattle.device_owners.specs.Device.{endpoint_in}
use Rattle.device_owners.proofs.Sets.{never, up, AreOwned, OutOf, InOf}

-- Lists of which this holds at each place.

abbrev pub AllAt : {A : Type 0} → (ℕ → A → Type 0) → List A → Type 0
AllAt P [] = ⊤
AllAt P (x ∷ xs) = P 0 x × AllAt (λ n. P (suc n)) xs

at : {A : Type 0} (P : ℕ → A → Type 0) (none : A) → ((n : ℕ) → P n none) → (xs : List A) → AllAt P xs → (n : ℕ) → P n (slice_index_or xs n none)
at P none e [] h n = e n
at P none e (x ∷ xs) (h, hs) zero = h
at P none e (x ∷ xs) (h, hs) (suc n) = at (λ m. P (suc m)) none (λ m. e (suc m)) xs hs n

set_at : {A : Type 0} (P : ℕ → A → Type 0) (xs : List A) → AllAt P xs → (n : ℕ) (x : A) → P n x → AllAt P (slice_set xs n x)
set_at P [] h n x e = tt
set_at P (y ∷ ys) (h, hs) zero x e = (e, hs)
set_at P (y ∷ ys) (h, hs) (suc n) x e = (h, set_at (λ m. P (suc m)) ys hs n x e)

map_at : {A : Type 0} (P : ℕ → A → Type 0) (f : A → A) → ((n : ℕ) (x : A) → P n x → P n (f x)) → (xs : List A) → AllAt P xs → AllAt P (map f xs)
map_at P f e [] h = tt
map_at P f e (x ∷ xs) (h, hs) = (e 0 x h, map_at (λ n. P (suc n)) f (λ n. e (suc n)) xs hs)

replicate_at : {A : Type 0} (P : ℕ → A → Type 0) (x : A) → ((n : ℕ) → P n x) → (k : ℕ) → AllAt P (replicate k x)
replicate_at P x e zero = tt
replicate_at P x e (suc k) = (e 0, replicate_at (λ n. P (suc n)) x (λ n. e (suc n)) k)

-- A slot whose number has this owner.

abbrev pub unarmed : OutPhase → Bool
unarmed out.Armed = false
unarmed (out.Closed over) = true
unarmed out.Rest = true
unarmed (out.Landed packet) = true
unarmed out.Posted = true
unarmed out.Stale = true

abbrev pub unstarted : InPhase → Bool
unstarted (inward.Running n left) = false
unstarted inward.Closed = true
unstarted inward.Rest = true
unstarted (inward.Posted n) = true

pub record OutKept (owner : Owner) (s : OutSlot) : Type 0 where
  pub has : (s.endpoint.owner ≡ Core) ⊎ (s.endpoint.owner ≡ owner)
  pub idle : owner ≡ Core → unarmed s.pipe.phase ≡ true

pub record InKept (owner : Owner) (s : InSlot) : Type 0 where
  pub has : (s.endpoint.owner ≡ Core) ⊎ (s.endpoint.owner ≡ owner)
  pub idle : owner ≡ Core → unstarted s.pipe.phase ≡ true

-- the pipes, where addresses have these owners
pub record Kept (owner : ℕ → Owner) (p : Pipes) : Type 0 where
  pub outs : AllAt (λ n s. OutKept (owner (suc n)) s) p.outs
  pub ins : AllAt (λ n s. InKept (owner (128 + suc n)) s) p.ins

no_out : (o : Owner) → OutKept o no_out_slot
no_out o = record { has = inl refl; idle = λ e. refl }

no_in : (o : Owner) → InKept o no_in_slot
no_in o = record { has = inl refl; idle = λ e. refl }

pub out_kept : (owner : ℕ → Owner) (p : Pipes) → Kept owner p → (n : ℕ) → OutKept (owner n) (out_slot p n)
out_kept owner p h zero = no_out (owner 0)
out_kept owner p h (suc n) = at (λ m s. OutKept (owner (suc m)) s) no_out_slot (λ m. no_out (owner (suc m))) p.outs h.outs n

pub in_kept : (owner : ℕ → Owner) (p : Pipes) → Kept owner p → (n : ℕ) → InKept (owner (128 + n)) (in_slot p n)
in_kept owner p h zero = no_in (owner (128 + 0))
in_kept owner p h (suc n) = at (λ m s. InKept (owner (128 + suc m)) s) no_in_slot (λ m. no_in (owner (128 + suc m))) p.ins h.ins n

out_set : (owner : ℕ → Owner) (p : Pipes) → Kept owner p → (n : ℕ) (x : OutSlot) → OutKept (owner n) x → Kept owner (with_out_slot p n x)
out_set owner p h zero x e = h
out_set owner p h (suc n) x e = record { outs = set_at (λ m s. OutKept (owner (suc m)) s) p.outs h.outs n x e; ins = h.ins }

in_set : (owner : ℕ → Owner) (p : Pipes) → Kept owner p → (n : ℕ) (x : InSlot) → InKept (owner (128 + n)) x → Kept owner (with_in_slot p n x)
in_set owner p h zero x e = h
in_set owner p h (suc n) x e = record { outs = h.outs; ins = set_at (λ m s. InKept (owner (128 + suc m)) s) p.ins h.ins n x e }

choose : (owner : ℕ → Owner) (b : Bool) (x y : Pipes) → Kept owner x → Kept owner y → Kept owner (if b then x else y)
choose owner true x y hx hy = hx
choose owner false x y hx hy = hy

-- the endpoint of a slot, by its address
pub endpoint_kept : (owner : ℕ → Owner) (p : Pipes) → Kept owner p → (a : ℕ) → ((endpoint_in p a).owner ≡ Core) ⊎ ((endpoint_in p a).owner ≡ owner a)
endpoint_kept owner p h a = by (nat_lt a 128) refl
  where
    by : (low : Bool) → nat_lt a 128 ≡ low
        → ((if low then (out_slot p a).endpoint else (in_slot p (a - 128)).endpoint).owner ≡ Core) ⊎ ((if low then (out_slot p a).endpoint else (in_slot p (a - 128)).endpoint).owner ≡ owner a)
    by true k = (out_kept owner p h a).has
    by false k = subst (λ x. ((in_slot p (a - 128)).endpoint.owner ≡ Core) ⊎ ((in_slot p (a - 128)).endpoint.owner ≡ owner x)) (up a k) (in_kept owner p h (a - 128)).has

-- Steps of all slots.

each_kept : (owner : ℕ → Owner) (f : OutSlot → OutSlot) (g : InSlot → InSlot) → ((o : Owner) (s : OutSlot) → OutKept o s → OutKept o (f s)) → ((o : Owner) (s : InSlot) → InKept o s → InKept o (g s))
    → (p : Pipes) → Kept owner p → Kept owner (record { outs = map f p.outs; ins = map g p.ins })
each_kept owner f g e k p h = record {
  outs = map_at (λ m s. OutKept (owner (suc m)) s) f (λ m s. e (owner (suc m)) s) p.outs h.outs;
  ins = map_at (λ m s. InKept (owner (128 + suc m)) s) g (λ m s. k (owner (128 + suc m)) s) p.ins h.ins;
}

out_irq : (phase : OutPhase) → unarmed phase ≡ true → unarmed (out.phase_after_irq phase) ≡ true
out_irq (out.Closed over) e = refl
out_irq out.Rest e = refl
out_irq out.Armed e = e
out_irq (out.Landed packet) e = refl
out_irq out.Posted e = refl
out_irq out.Stale e = refl

out_task : (phase : OutPhase) → unarmed phase ≡ true → unarmed (out.phase_after_task phase) ≡ true
out_task (out.Closed over) e = refl
out_task out.Rest e = refl
out_task out.Armed e = e
out_task (out.Landed packet) e = refl
out_task out.Posted e = refl
out_task out.Stale e = refl

in_irq : (pipe : InPipe) (phase : InPhase) → unstarted pipe.phase ≡ true → unstarted (inward.served pipe phase).phase ≡ true
in_irq pipe inward.Closed e = e
in_irq pipe inward.Rest e = e
in_irq pipe (inward.Running n []) e = refl
in_irq pipe (inward.Running n (packet ∷ left)) e = e
in_irq pipe (inward.Posted n) e = e

in_task : (phase : InPhase) → unstarted phase ≡ true → unstarted (inward.phase_after_task phase) ≡ true
in_task inward.Closed e = refl
in_task inward.Rest e = refl
in_task (inward.Running n left) e = e
in_task (inward.Posted n) e = refl

pub irq_kept : (owner : ℕ → Owner) (p : Pipes) → Kept owner p → Kept owner (pipes_after_irq p)
irq_kept owner p h = each_kept owner out_slot_after_irq in_slot_after_irq
    (λ o s k. record { has = k.has; idle = λ e. out_irq s.pipe.phase (k.idle e) }) (λ o s k. record { has = k.has; idle = λ e. in_irq s.pipe s.pipe.phase (k.idle e) }) p h

pub task_kept : (owner : ℕ → Owner) (p : Pipes) → Kept owner p → Kept owner (pipes_after_task p)
task_kept owner p h = each_kept owner out_slot_after_task in_slot_after_task
    (λ o s k. record { has = k.has; idle = λ e. out_task s.pipe.phase (k.idle e) }) (λ o s k. record { has = k.has; idle = λ e. in_task s.pipe.phase (k.idle e) }) p h

closed_kept : (owner : ℕ → Owner) (p : Pipes) → Kept owner p → Kept owner (pipes_closed p)
closed_kept owner p h = each_kept owner out_closed in_closed (λ o s k. record { has = inl refl; idle = λ e. refl }) (λ o s k. no_in o) p h

pub unopened_kept : (owner : ℕ → Owner) → Kept owner pipes_unopened
unopened_kept owner = record {
  outs = replicate_at (λ m s. OutKept (owner (suc m)) s) no_out_slot (λ m. no_out (owner (suc m))) 15;
  ins = replicate_at (λ m s. InKept (owner (128 + suc m)) s) no_in_slot (λ m. no_in (owner (128 + suc m))) 15;
}

-- A step of the endpoint at an address.

changed_kept : (owner : ℕ → Owner) (f : OutSlot → OutSlot) (g : InSlot → InSlot) (p : Pipes) (a : ℕ)
    → ((s : OutSlot) → OutKept (owner a) s → OutKept (owner a) (f s)) → ((s : InSlot) → InKept (owner a) s → InKept (owner a) (g s)) → Kept owner p → Kept owner (changed_at f g p a)
changed_kept owner f g p a e k h = by (nat_lt a 128) refl
  where
    by : (low : Bool) → nat_lt a 128 ≡ low → Kept owner (if low then with_out_slot p a (f (out_slot p a)) else with_in_slot p (a - 128) (g (in_slot p (a - 128))))
    by true l = out_set owner p h a (f (out_slot p a)) (e (out_slot p a) (out_kept owner p h a))
    by false l =
        in_set owner p h (a - 128) (g (in_slot p (a - 128)))
        (subst (λ x. InKept (owner x) (g (in_slot p (a - 128)))) (sym (up a l)) (k (in_slot p (a - 128)) (subst (λ x. InKept (owner x) (in_slot p (a - 128))) (up a l) (in_kept owner p h (a - 128)))))

out_if : (o : Owner) (b : Bool) (s x : OutSlot) → OutKept o s → OutKept o x → OutKept o (if b then x else s)
out_if o true s x hs hx = hx
out_if o false s x hs hx = hs

in_if : (o : Owner) (b : Bool) (s x : InSlot) → InKept o s → InKept o x → InKept o (if b then x else s)
in_if o true s x hs hx = hx
in_if o false s x hs hx = hs

pub halt_kept : (owner : ℕ → Owner) (p : Pipes) (a : ℕ) → Kept owner p → Kept owner (with_halt p a)
halt_kept owner p a h = changed_kept owner out_halted in_halted p a
    (λ s k. out_if (owner a) (is_out_open s.pipe.phase) s (record s { pipe = out.halted_ s.pipe }) k (record { has = k.has; idle = k.idle }))
    (λ s k. in_if (owner a) (in_hears s) s (record s { pipe = inward.halted_ s.pipe }) k (record { has = k.has; idle = k.idle })) h

at_rest : (phase : InPhase) → unstarted (inward.at_rest phase) ≡ true
at_rest inward.Closed = refl
at_rest inward.Rest = refl
at_rest (inward.Running n left) = refl
at_rest (inward.Posted n) = refl

pub clear_kept : (owner : ℕ → Owner) (p : Pipes) (a : ℕ) → Kept owner p → Kept owner (without_halt p a)
clear_kept owner p a h = changed_kept owner out_cleared in_cleared p a
    (λ s k. out_if (owner a) (is_out_open s.pipe.phase) s (record s { pipe = out.cleared s.pipe }) k (record { has = k.has; idle = k.idle }))
    (λ s k. in_if (owner a) (in_hears s) s (record s { pipe = inward.cleared s.pipe }) k (record { has = k.has; idle = λ e. at_rest s.pipe.phase })) h

pub clears_kept : (owner : ℕ → Owner) (named : ℕ → Bool) (p : Pipes) (es : List Endpoint) → Kept owner p → Kept owner (without_halts named p es)
clears_kept owner named p [] h = h
clears_kept owner named p (e ∷ es) h =
    clears_kept owner named (without_halt_if (named e.addr) p e.addr) es (choose owner (named e.addr) (without_halt p e.addr) p (clear_kept owner p e.addr h) h)

rests : (b : Bool) → unarmed (if b then out.Stale else out.Rest) ≡ true
rests true = refl
rests false = refl

opens_kept : (owner : ℕ → Owner) (es : List Endpoint) → AreOwned owner es → (p : Pipes) → Kept owner p → Kept owner (with_endpoints_open p es)
opens_kept owner [] is p h = h
opens_kept owner (e ∷ es) (is, rest) p h =
    opens_kept owner es rest (with_endpoint_open p e)
    (changed_kept owner (out_opened e) (in_opened e) p e.addr (λ s k. record { has = inr (sym is); idle = λ _. rests (out.leaves_packet s.pipe.phase) }) (λ s k. record { has = inr (sym is); idle = λ _. refl }) h)

pub session_kept : (owner : ℕ → Owner) (es : List Endpoint) → AreOwned owner es → (p : Pipes) → Kept owner p → Kept owner (session_pipes es p)
session_kept owner es is p h = opens_kept owner es is (pipes_closed p) (closed_kept owner p h)

-- nothing at all opens
pub none_kept : (owner : ℕ → Owner) (p : Pipes) → Kept owner p → Kept owner (session_pipes [] p)
none_kept owner p h = closed_kept owner p h

-- A packet and a token: a pipe of the core isn't moved.

unarmed_naks : (phase : OutPhase) (halted : Bool) → unarmed phase ≡ true → out.is_ack (out.answer_at phase halted) ≡ false
unarmed_naks (out.Closed over) halted e = refl
unarmed_naks out.Rest true e = refl
unarmed_naks out.Rest false e = refl
unarmed_naks out.Armed halted e = never e
unarmed_naks (out.Landed packet) true e = refl
unarmed_naks (out.Landed packet) false e = refl
unarmed_naks out.Posted true e = refl
unarmed_naks out.Posted false e = refl
unarmed_naks out.Stale true e = refl
unarmed_naks out.Stale false e = refl

pub idle_packet : (s : OutSlot) (toggle : Toggle) (packet : List ℕ) → unarmed s.pipe.phase ≡ true → out_slot_after s toggle packet ≡ s
idle_packet s toggle packet e = by (out_hears s (length packet))
  where
    same : out.after_packet s.pipe toggle packet ≡ s.pipe
    same = ap (λ b. if b && same_toggle toggle s.pipe.toggle then record s.pipe { phase = out.Landed packet; toggle = flipped s.pipe.toggle } else s.pipe) (unarmed_naks s.pipe.phase s.pipe.halted e)

    by : (b : Bool) → (if b then record s { pipe = out.after_packet s.pipe toggle packet } else s) ≡ s
    by true = ap (λ (x : OutPipe). record s { pipe = x }) same
    by false = refl

unstarted_naks : (pipe : InPipe) (phase : InPhase) (toggle : Toggle) (halted : Bool) (loaded : ℕ) → unstarted phase ≡ true
    → inward.after_answer pipe (inward.in_answer (record { queue = pipe.queue; phase = phase; loaded = loaded; toggle = toggle; halted = halted })) ≡ pipe
unstarted_naks pipe inward.Closed toggle halted loaded e = refl
unstarted_naks pipe inward.Rest toggle true loaded e = refl
unstarted_naks pipe inward.Rest toggle false loaded e = refl
unstarted_naks pipe (inward.Running n left) toggle halted loaded e = never e
unstarted_naks pipe (inward.Posted n) toggle true loaded e = refl
unstarted_naks pipe (inward.Posted n) toggle false loaded e = refl

pub idle_token : (s : InSlot) (ok : Bool) → unstarted s.pipe.phase ≡ true → in_slot_after s ok ≡ s
idle_token s ok e = by (in_hears s) ok
  where
    by : (b ok : Bool) → (if b then record s { pipe = if ok then inward.after_answer s.pipe (inward.in_answer s.pipe) else s.pipe } else s) ≡ s
    by true true = ap (λ (x : InPipe). record s { pipe = x }) (unstarted_naks s.pipe s.pipe.phase s.pipe.toggle s.pipe.halted s.pipe.loaded e)
    by true false = refl
    by false ok = refl

packet_kept : (o : Owner) (s : OutSlot) (toggle : Toggle) (packet : List ℕ) → OutKept o s → OutKept o (out_slot_after s toggle packet)
packet_kept o s toggle packet k = record {
  has = by (out_hears s (length packet));
  idle = λ e. ap (λ (x : OutSlot). unarmed x.pipe.phase) (idle_packet s toggle packet (k.idle e)) ∙ k.idle e;
}
  where
    by : (b : Bool) → ((if b then record s { pipe = out.after_packet s.pipe toggle packet } else s).endpoint.owner ≡ Core) ⊎ ((if b then record s { pipe = out.after_packet s.pipe toggle packet } else s).endpoint.owner ≡ o)
    by true = k.has
    by false = k.has

token_kept : (o : Owner) (s : InSlot) (ok : Bool) → InKept o s → InKept o (in_slot_after s ok)
token_kept o s ok k = record {
  has = by (in_hears s);
  idle = λ e. ap (λ (x : InSlot). unstarted x.pipe.phase) (idle_token s ok (k.idle e)) ∙ k.idle e;
}
  where
    by : (b : Bool) → ((if b then record s { pipe = inward.after_token s.pipe ok } else s).endpoint.owner ≡ Core) ⊎ ((if b then record s { pipe = inward.after_token s.pipe ok } else s).endpoint.owner ≡ o)
    by true = k.has
    by false = k.has

pub bus_kept : (owner : ℕ → Owner) (bus : Bus) (p : Pipes) (e : BusEvent) → Kept owner p → Kept owner (pipes_after bus p e)
bus_kept owner bus p event.Reset h = h
bus_kept owner bus p (event.Setup addr bytes ok) h = h
bus_kept owner bus p (event.Out addr ep toggle packet ok) h =
    choose owner (hears_packet bus addr ok) (with_out_slot p ep (out_slot_after (out_slot p ep) toggle packet)) p
    (out_set owner p h ep (out_slot_after (out_slot p ep) toggle packet) (packet_kept (owner ep) (out_slot p ep) toggle packet (out_kept owner p h ep))) h
bus_kept owner bus p (event.In addr ep ok) h =
    choose owner (hears bus addr) (with_in_slot p ep (in_slot_after (in_slot p ep) ok)) p
    (in_set owner p h ep (in_slot_after (in_slot p ep) ok) (token_kept (owner (128 + ep)) (in_slot p ep) ok (in_kept owner p h ep))) h

-- A class moves its own pipes.

not_core : {A : Type 0} (x : Owner) → is_core x ≡ false → x ≡ Core → A
not_core x e k = never (sym e ∙ ap is_core k)

in_own : (owner : ℕ → Owner) (o : Owner) → is_core o ≡ false → (p : Pipes) (n : ℕ) (x : InPipe) → InOf owner o n → Kept owner p → Kept owner (with_in_slot p n (record (in_slot p n) { pipe = x }))
in_own owner o class p zero x is h = h
in_own owner o class p (suc n) x is h =
    in_set owner p h (suc n) (record (in_slot p (suc n)) { pipe = x }) (record { has = (in_kept owner p h (suc n)).has; idle = λ e. not_core o class (sym is ∙ e) })

out_own : (owner : ℕ → Owner) (o : Owner) → is_core o ≡ false → (p : Pipes) (n : ℕ) (x : OutPipe) → OutOf owner o n → Kept owner p → Kept owner (with_out_slot p n (record (out_slot p n) { pipe = x }))
out_own owner o class p zero x is h = h
out_own owner o class p (suc n) x is h =
    out_set owner p h (suc n) (record (out_slot p (suc n)) { pipe = x }) (record { has = (out_kept owner p h (suc n)).has; idle = λ e. not_core o class (sym is ∙ e) })

pub own_kept : (owner : ℕ → Owner) (set : Set) (o : Owner) → is_core o ≡ false → InOf owner o (number_at set o 0) → OutOf owner o (number_at set o 1) → InOf owner o (number_at set o 2)
    → (p : Pipes) (own : Own) → Kept owner p → Kept owner (with_own set o p own)
own_kept owner set o class a b c p own h =
    let one = with_sends p (number_at set o 0) own.sends in
    let two = with_receives one (number_at set o 1) own.receives in
    in_own owner o class two (number_at set o 2) own.notifies.pipe c
    (out_own owner o class one (number_at set o 1) own.receives.pipe b (in_own owner o class p (number_at set o 0) own.sends.pipe a h))
