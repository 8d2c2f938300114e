-- The endpoints other than 0: what each step of the pipes keeps.
use Rattle.std.proofs.Common.{◌++◌, ◌≡◌, ℕ, zero, suc, ◌-◌, List, [], ◌∷◌, length, map, Bool, true, false, refl, ap, sym, ◌∙◌}
use Rattle.std.specs.Prelude.{slice_index_or, slice_set, ◌&&◌, not, nat_lt, if◌then◌else◌}
use Rattle.std.proofs.lemmas.List.{length-map}
use Rattle.usb_packet.specs.declared.bus.Toggle.{Toggle}
use Rattle.usb_packet.specs.declared.bus.BusEvent.{BusEvent}
use Rattle.usb_packet.specs.declared.bus.BusEvent.TheVariants as event
use Rattle.usb_packet.specs.declared.bus.BusAnswer.{BusAnswer}
use Rattle.usb_packet.specs.declared.bus.BusAnswer.TheVariants as answers
use Rattle.usb_packet.specs.Toggles.{flipped}
use Rattle.usb_descriptor.specs.declared.endpoint.Endpoint.{Endpoint}
use Rattle.device_pipe.specs.OutPipe as out
use Rattle.device_pipe.specs.OutPipe.{OutPipe, OutPhase}
use Rattle.device_pipe.specs.InPipe as inward
use Rattle.device_pipe.specs.InPipe.{InPipe, InPhase}
use Rattle.device_machine.specs.Pipes.{addresses_of, halted_addresses, Pipes, OutSlot, InSlot, no_out_slot, no_in_slot, out_slot, in_slot, with_out_slot, with_in_slot, changed_at, is_out_open, out_hears, in_hears, out_slot_after, in_slot_after, out_slot_after_irq, in_slot_after_irq, pipes_after_irq, out_slot_after_task, in_slot_after_task, pipes_after_task, out_halted, in_halted, out_cleared, in_cleared, with_halt, without_halt, without_halt_if, without_halts}
use Rattle.device_machine.specs.Bus.{Bus, hears, hears_packet, pipes_after}

-- Lists of slots.

-- what is the same of an item and of the one set in its place
set_same : {A B : Type 0} (f : A → B) (xs : List A) (m : ℕ) (x none : A) → f x ≡ f (slice_index_or xs m none) → map f (slice_set xs m x) ≡ map f xs
set_same f [] m x none e = refl
set_same f (y ∷ ys) zero x none e = ap (λ z. z ∷ map f ys) e
set_same f (y ∷ ys) (suc m) x none e = ap (λ zs. f y ∷ zs) (set_same f ys m x none e)

map_same : {A B : Type 0} (f : A → B) (g : A → A) (xs : List A) → ((x : A) → f (g x) ≡ f x) → map f (map g xs) ≡ map f xs
map_same f g [] e = refl
map_same f g (x ∷ xs) e = ap (λ y. y ∷ map f (map g xs)) (e x) ∙ ap (λ ys. f x ∷ ys) (map_same f g xs e)

pub at_map : {A B : Type 0} (f : A → B) (xs : List A) (n : ℕ) (none : A) → slice_index_or (map f xs) n (f none) ≡ f (slice_index_or xs n none)
at_map f [] n none = refl
at_map f (x ∷ xs) zero none = refl
at_map f (x ∷ xs) (suc n) none = at_map f xs n none

-- Pipes of which this is the same at each endpoint.

pub record Keep {A : Type 0} (f : OutSlot → A) (g : InSlot → A) (new old : Pipes) : Type 0 where
  pub outs : map f new.outs ≡ map f old.outs
  pub ins : map g new.ins ≡ map g old.ins

pub itself : {A : Type 0} (f : OutSlot → A) (g : InSlot → A) (p : Pipes) → Keep f g p p
itself f g p = record { outs = refl; ins = refl }

pub thence : {A : Type 0} (f : OutSlot → A) (g : InSlot → A) (a b c : Pipes) → Keep f g a b → Keep f g b c → Keep f g a c
thence f g a b c h k = record { outs = h.outs ∙ k.outs; ins = h.ins ∙ k.ins }

pub out_at : {A : Type 0} (f : OutSlot → A) (g : InSlot → A) (new old : Pipes) → Keep f g new old → (n : ℕ) → f (out_slot new n) ≡ f (out_slot old n)
out_at f g new old k zero = refl
out_at f g new old k (suc n) = sym (at_map f new.outs n no_out_slot) ∙ ap (λ xs. slice_index_or xs n (f no_out_slot)) k.outs ∙ at_map f old.outs n no_out_slot

pub in_at : {A : Type 0} (f : OutSlot → A) (g : InSlot → A) (new old : Pipes) → Keep f g new old → (n : ℕ) → g (in_slot new n) ≡ g (in_slot old n)
in_at f g new old k zero = refl
in_at f g new old k (suc n) = sym (at_map g new.ins n no_in_slot) ∙ ap (λ xs. slice_index_or xs n (g no_in_slot)) k.ins ∙ at_map g old.ins n no_in_slot

pub outs_count : {A : Type 0} (f : OutSlot → A) (g : InSlot → A) (new old : Pipes) → Keep f g new old → length new.outs ≡ length old.outs
outs_count f g new old k = sym (length-map new.outs f) ∙ ap length k.outs ∙ length-map old.outs f

pub ins_count : {A : Type 0} (f : OutSlot → A) (g : InSlot → A) (new old : Pipes) → Keep f g new old → length new.ins ≡ length old.ins
ins_count f g new old k = sym (length-map new.ins g) ∙ ap length k.ins ∙ length-map old.ins g

pub out_set : {A : Type 0} (f : OutSlot → A) (g : InSlot → A) (p : Pipes) (number : ℕ) (slot : OutSlot) → f slot ≡ f (out_slot p number) → Keep f g (with_out_slot p number slot) p
out_set f g p zero slot e = itself f g p
out_set f g p (suc n) slot e = record { outs = set_same f p.outs n slot no_out_slot e; ins = refl }

pub in_set : {A : Type 0} (f : OutSlot → A) (g : InSlot → A) (p : Pipes) (number : ℕ) (slot : InSlot) → g slot ≡ g (in_slot p number) → Keep f g (with_in_slot p number slot) p
in_set f g p zero slot e = itself f g p
in_set f g p (suc n) slot e = record { outs = refl; ins = set_same g p.ins n slot no_in_slot e }

pub either : {A : Type 0} (f : OutSlot → A) (g : InSlot → A) (b : Bool) (x y p : Pipes) → Keep f g x p → Keep f g y p → Keep f g (if b then x else y) p
either f g true x y p hx hy = hx
either f g false x y p hx hy = hy

pub changed : {A : Type 0} (f : OutSlot → A) (g : InSlot → A) (a : OutSlot → OutSlot) (b : InSlot → InSlot) → ((s : OutSlot) → f (a s) ≡ f s) → ((s : InSlot) → g (b s) ≡ g s)
    → (p : Pipes) (address : ℕ) → Keep f g (changed_at a b p address) p
changed f g a b ea eb p address =
    let o = out_slot p address in
    let i = in_slot p (address - 128) in
    either f g (nat_lt address 128) (with_out_slot p address (a o)) (with_in_slot p (address - 128) (b i)) p (out_set f g p address (a o) (ea o)) (in_set f g p (address - 128) (b i) (eb i))

pub each : {A : Type 0} (f : OutSlot → A) (g : InSlot → A) (a : OutSlot → OutSlot) (b : InSlot → InSlot) → ((s : OutSlot) → f (a s) ≡ f s) → ((s : InSlot) → g (b s) ≡ g s)
    → (p : Pipes) → Keep f g (record { outs = map a p.outs; ins = map b p.ins }) p
each f g a b ea eb p = record { outs = map_same f a p.outs ea; ins = map_same g b p.ins eb }

-- The endpoint of a slot, whether it is open, and whether it is halted.

pub record Opened : Type 0 where
  pub endpoint : Endpoint
  pub opens : Bool

pub record Shape : Type 0 where
  pub opened : Opened
  pub halted : Bool

abbrev out_as : Endpoint → OutPhase → Bool → Shape
out_as e phase halted = record { opened = record { endpoint = e; opens = is_out_open phase }; halted = halted }

abbrev in_as : Endpoint → InPhase → Bool → Shape
in_as e phase halted = record { opened = record { endpoint = e; opens = not (inward.is_closed phase) }; halted = halted }

abbrev pub out_opened : OutSlot → Opened
out_opened slot = record { endpoint = slot.endpoint; opens = is_out_open slot.pipe.phase }

abbrev pub in_opened : InSlot → Opened
in_opened slot = record { endpoint = slot.endpoint; opens = in_hears slot }

abbrev pub out_shape : OutSlot → Shape
out_shape slot = out_as slot.endpoint slot.pipe.phase slot.pipe.halted

abbrev pub in_shape : InSlot → Shape
in_shape slot = in_as slot.endpoint slot.pipe.phase slot.pipe.halted

-- A handler run and a task run.

out_irq : (e : Endpoint) (phase : OutPhase) (h : Bool) → out_as e (out.phase_after_irq phase) h ≡ out_as e phase h
out_irq e (out.Closed over) h = refl
out_irq e out.Rest h = refl
out_irq e out.Armed h = refl
out_irq e (out.Landed packet) h = refl
out_irq e out.Posted h = refl
out_irq e out.Stale h = refl

out_task : (e : Endpoint) (phase : OutPhase) (h : Bool) → out_as e (out.phase_after_task phase) h ≡ out_as e phase h
out_task e (out.Closed over) h = refl
out_task e out.Rest h = refl
out_task e out.Armed h = refl
out_task e (out.Landed packet) h = refl
out_task e out.Posted h = refl
out_task e out.Stale h = refl

in_task : (e : Endpoint) (phase : InPhase) (h : Bool) → in_as e (inward.phase_after_task phase) h ≡ in_as e phase h
in_task e inward.Closed h = refl
in_task e inward.Rest h = refl
in_task e (inward.Running n left) h = refl
in_task e (inward.Posted n) h = refl

abbrev in_of : Endpoint → InPipe → Shape
in_of e pipe = in_as e pipe.phase pipe.halted

in_irq : (e : Endpoint) (pipe : InPipe) (phase : InPhase) → in_of e (inward.served (record pipe { phase = phase }) phase) ≡ in_as e phase pipe.halted
in_irq e pipe inward.Closed = refl
in_irq e pipe inward.Rest = refl
in_irq e pipe (inward.Running n []) = refl
in_irq e pipe (inward.Running n (packet ∷ left)) = refl
in_irq e pipe (inward.Posted n) = refl

pub irq_keeps : (p : Pipes) → Keep out_shape in_shape (pipes_after_irq p) p
irq_keeps p = each out_shape in_shape out_slot_after_irq in_slot_after_irq
    (λ s. out_irq s.endpoint s.pipe.phase s.pipe.halted) (λ s. in_irq s.endpoint s.pipe s.pipe.phase) p

pub task_keeps : (p : Pipes) → Keep out_shape in_shape (pipes_after_task p) p
task_keeps p = each out_shape in_shape out_slot_after_task in_slot_after_task
    (λ s. out_task s.endpoint s.pipe.phase s.pipe.halted) (λ s. in_task s.endpoint s.pipe.phase s.pipe.halted) p

-- A packet and a token.

out_same : (s : OutSlot) (b : Bool) (x : OutSlot) → (b ≡ true → out_shape x ≡ out_shape s) → out_shape (if b then x else s) ≡ out_shape s
out_same s true x e = e refl
out_same s false x e = refl

in_same : (s : InSlot) (b : Bool) (x : InSlot) → (b ≡ true → in_shape x ≡ in_shape s) → in_shape (if b then x else s) ≡ in_shape s
in_same s true x e = e refl
in_same s false x e = refl

lands : (s : OutSlot) (packet : List ℕ) (toggle : Toggle) → is_out_open s.pipe.phase ≡ true → out_shape (record s { pipe = record s.pipe { phase = out.Landed packet; toggle = toggle } }) ≡ out_shape s
lands s packet toggle e = ap (λ b. record { opened = record { endpoint = s.endpoint; opens = b }; halted = s.pipe.halted }) (sym e)

first_true : (a b : Bool) → (a && b) ≡ true → a ≡ true
first_true true b e = refl
first_true false b e = e

pipe_after : (s : OutSlot) (b : Bool) (x : OutPipe) → out_shape (record s { pipe = x }) ≡ out_shape s → out_shape (record s { pipe = if b then x else s.pipe }) ≡ out_shape s
pipe_after s true x e = e
pipe_after s false x e = refl

out_packet : (s : OutSlot) (toggle : Toggle) (packet : List ℕ) → out_shape (out_slot_after s toggle packet) ≡ out_shape s
out_packet s toggle packet =
    out_same s (out_hears s (length packet)) (record s { pipe = out.after_packet s.pipe toggle packet })
    (λ e. pipe_after s _ _ (lands s packet (flipped s.pipe.toggle) (first_true (is_out_open s.pipe.phase) _ e)))

in_sent : (e : Endpoint) (phase : InPhase) (h : Bool) → in_as e (inward.without_packet phase) h ≡ in_as e phase h
in_sent e inward.Closed h = refl
in_sent e inward.Rest h = refl
in_sent e (inward.Running n []) h = refl
in_sent e (inward.Running n (packet ∷ left)) h = refl
in_sent e (inward.Posted n) h = refl

in_answered : (s : InSlot) (a : BusAnswer) → in_shape (record s { pipe = inward.after_answer s.pipe a }) ≡ in_shape s
in_answered s (answers.Data toggle packet) = in_sent s.endpoint s.pipe.phase s.pipe.halted
in_answered s answers.Done = refl
in_answered s answers.Ack = refl
in_answered s answers.Nak = refl
in_answered s answers.Stall = refl
in_answered s answers.NoAnswer = refl

in_token : (s : InSlot) (ok : Bool) → in_shape (record s { pipe = inward.after_token s.pipe ok }) ≡ in_shape s
in_token s true = in_answered s (inward.in_answer s.pipe)
in_token s false = refl

pub bus_keeps : (bus : Bus) (p : Pipes) (e : BusEvent) → Keep out_shape in_shape (pipes_after bus p e) p
bus_keeps bus p event.Reset = itself out_shape in_shape p
bus_keeps bus p (event.Setup addr bytes ok) = itself out_shape in_shape p
bus_keeps bus p (event.Out addr ep toggle packet ok) =
    let s = out_slot p ep in
    either out_shape in_shape (hears_packet bus addr ok) (with_out_slot p ep (out_slot_after s toggle packet)) p p
    (out_set out_shape in_shape p ep (out_slot_after s toggle packet) (out_packet s toggle packet)) (itself out_shape in_shape p)
bus_keeps bus p (event.In addr ep ok) =
    let s = in_slot p ep in
    either out_shape in_shape (hears bus addr) (with_in_slot p ep (in_slot_after s ok)) p p
    (in_set out_shape in_shape p ep (in_slot_after s ok) (in_same s (in_hears s) (record s { pipe = inward.after_token s.pipe ok }) (λ _. in_token s ok))) (itself out_shape in_shape p)

-- so each keeps what is open

pub opened_of : (new old : Pipes) → Keep out_shape in_shape new old → Keep out_opened in_opened new old
opened_of new old k = record {
  outs = sym (narrow_outs new.outs) ∙ ap (map (λ (s : Shape). s.opened)) k.outs ∙ narrow_outs old.outs;
  ins = sym (narrow_ins new.ins) ∙ ap (map (λ (s : Shape). s.opened)) k.ins ∙ narrow_ins old.ins;
}
  where
    narrow_outs : (xs : List OutSlot) → map (λ (s : Shape). s.opened) (map out_shape xs) ≡ map out_opened xs
    narrow_outs [] = refl
    narrow_outs (x ∷ xs) = ap (λ ys. out_opened x ∷ ys) (narrow_outs xs)

    narrow_ins : (xs : List InSlot) → map (λ (s : Shape). s.opened) (map in_shape xs) ≡ map in_opened xs
    narrow_ins [] = refl
    narrow_ins (x ∷ xs) = ap (λ ys. in_opened x ∷ ys) (narrow_ins xs)

-- Halts open and close nothing.

out_unless : (s : OutSlot) (b : Bool) (x : OutSlot) → out_opened x ≡ out_opened s → out_opened (if b then x else s) ≡ out_opened s
out_unless s true x e = e
out_unless s false x e = refl

in_unless : (s : InSlot) (b : Bool) (x : InSlot) → in_opened x ≡ in_opened s → in_opened (if b then x else s) ≡ in_opened s
in_unless s true x e = e
in_unless s false x e = refl

in_clear : (e : Endpoint) (phase : InPhase) → in_as e (inward.at_rest phase) false ≡ in_as e phase false
in_clear e inward.Closed = refl
in_clear e inward.Rest = refl
in_clear e (inward.Running n left) = refl
in_clear e (inward.Posted n) = refl

halt_out : (s : OutSlot) → out_opened (record s { pipe = out.halted_ s.pipe }) ≡ out_opened s
halt_out s = refl

halt_in : (s : InSlot) → in_opened (record s { pipe = inward.halted_ s.pipe }) ≡ in_opened s
halt_in s = refl

clear_out : (s : OutSlot) → out_opened (record s { pipe = out.cleared s.pipe }) ≡ out_opened s
clear_out s = refl

clear_in : (s : InSlot) → in_opened (record s { pipe = inward.cleared s.pipe }) ≡ in_opened s
clear_in s = ap (λ (x : Shape). x.opened) (in_clear s.endpoint s.pipe.phase)

pub halt_keeps : (p : Pipes) (address : ℕ) → Keep out_opened in_opened (with_halt p address) p
halt_keeps p address = changed out_opened in_opened out_halted in_halted
    (λ s. out_unless s (is_out_open s.pipe.phase) (record s { pipe = out.halted_ s.pipe }) (halt_out s)) (λ s. in_unless s (in_hears s) (record s { pipe = inward.halted_ s.pipe }) (halt_in s)) p address

pub clear_keeps : (p : Pipes) (address : ℕ) → Keep out_opened in_opened (without_halt p address) p
clear_keeps p address = changed out_opened in_opened out_cleared in_cleared
    (λ s. out_unless s (is_out_open s.pipe.phase) (record s { pipe = out.cleared s.pipe }) (clear_out s)) (λ s. in_unless s (in_hears s) (record s { pipe = inward.cleared s.pipe }) (clear_in s)) p address

pub clears_keep : (named : ℕ → Bool) (p : Pipes) (es : List Endpoint) → Keep out_opened in_opened (without_halts named p es) p
clears_keep named p [] = itself out_opened in_opened p
clears_keep named p (e ∷ es) =
    let next = without_halt_if (named e.addr) p e.addr in
    thence out_opened in_opened (without_halts named next es) next p (clears_keep named next es)
    (either out_opened in_opened (named e.addr) (without_halt p e.addr) p p (clear_keeps p e.addr) (itself out_opened in_opened p))

-- and halts nothing, nor ends a halt

out_halts : (xs : List OutSlot) → map (λ (s : Shape). s.halted) (map out_shape xs) ≡ map (λ (s : OutSlot). s.pipe.halted) xs
out_halts [] = refl
out_halts (x ∷ xs) = ap (λ ys. x.pipe.halted ∷ ys) (out_halts xs)

in_halts : (xs : List InSlot) → map (λ (s : Shape). s.halted) (map in_shape xs) ≡ map (λ (s : InSlot). s.pipe.halted) xs
in_halts [] = refl
in_halts (x ∷ xs) = ap (λ ys. x.pipe.halted ∷ ys) (in_halts xs)

pub halts_of : (new old : Pipes) → Keep out_shape in_shape new old → halted_addresses new ≡ halted_addresses old
halts_of new old k =
    let outs = sym (out_halts new.outs) ∙ ap (map (λ (s : Shape). s.halted)) k.outs ∙ out_halts old.outs in
    let ins = sym (in_halts new.ins) ∙ ap (map (λ (s : Shape). s.halted)) k.ins ∙ in_halts old.ins in
    ap (λ hs. addresses_of 1 hs ++ addresses_of 129 (map (λ (s : InSlot). s.pipe.halted) new.ins)) outs
    ∙ ap (λ hs. addresses_of 1 (map (λ (s : OutSlot). s.pipe.halted) old.outs) ++ addresses_of 129 hs) ins
