-- A packet on one endpoint leaves the others, and every pipe is served.
use Rattle.std.proofs.Common.{◌≡◌, ◌≢◌, ℕ, zero, suc, ◌<◌, ◌≤◌, List, [], ◌∷◌, length, map, Bool, true, false, refl, ap, sym, ◌∙◌, arith}
use Rattle.std.specs.Prelude.{if◌then◌else◌, slice_index_or, nat_le, ◌&&◌, not}
use Rattle.std.proofs.lemmas.Bool.Decides.{nat_tests}
use Rattle.usb_packet.specs.declared.bus.BusAnswer.TheVariants as answers
use Rattle.usb_descriptor.specs.Set.{is_core}
use Rattle.std.proofs.lemmas.List.{get_or-set_same, get_or-set_other}
use Rattle.device_pipe.specs.OutPipe as out
use Rattle.device_pipe.specs.OutPipe.{OutPipe}
use Rattle.device_pipe.specs.InPipe as inward
use Rattle.device_pipe.specs.InPipe.{InPipe}
use Rattle.device_machine.specs.Pipes.{Pipes, OutSlot, InSlot, is_out_open, unless_core, no_out_slot, no_in_slot, out_slot, in_slot, with_out_slot, with_in_slot, out_hears, in_hears, out_slot_after, in_slot_after, out_slot_after_irq, in_slot_after_irq, pipes_after_irq, out_slot_after_task, in_slot_after_task, pipes_after_task}
use Rattle.device_machine.specs.Bus.{Bus, hears, hears_packet}
use Rattle.device_machine.specs.Laws.{Apart, Moves, Answers, AnswersToken, Serves}

pub out_other : (p : Pipes) (m n : ℕ) (x : OutSlot) → n ≢ m → out_slot (with_out_slot p m x) n ≡ out_slot p n
out_other p zero n x ne = refl
out_other p (suc m) zero x ne = refl
out_other p (suc m) (suc n) x ne = get_or-set_other p.outs m n x no_out_slot (λ e. ne (ap suc e))

pub in_other : (p : Pipes) (m n : ℕ) (x : InSlot) → n ≢ m → in_slot (with_in_slot p m x) n ≡ in_slot p n
in_other p zero n x ne = refl
in_other p (suc m) zero x ne = refl
in_other p (suc m) (suc n) x ne = get_or-set_other p.ins m n x no_in_slot (λ e. ne (ap suc e))

pub out_ins : (p : Pipes) (m : ℕ) (x : OutSlot) → (with_out_slot p m x).ins ≡ p.ins
out_ins p zero x = refl
out_ins p (suc m) x = refl

pub in_outs : (p : Pipes) (m : ℕ) (x : InSlot) → (with_in_slot p m x).outs ≡ p.outs
in_outs p zero x = refl
in_outs p (suc m) x = refl

pick : {A : Type 0} (f : Pipes → A) (b : Bool) (x y : Pipes) → f x ≡ f y → f (if b then x else y) ≡ f y
pick f true x y e = e
pick f false x y e = refl

pub apart : (bus : Bus) (p : Pipes) → Apart bus p
apart bus p = record {
  output = λ addr ep n toggle packet ok ne.
      let x = out_slot_after (out_slot p ep) toggle packet in
      pick (λ q. out_slot q n) (hears_packet bus addr ok) (with_out_slot p ep x) p (out_other p ep n x ne);
  output_in = λ addr ep toggle packet ok.
      let x = out_slot_after (out_slot p ep) toggle packet in
      pick (λ q. q.ins) (hears_packet bus addr ok) (with_out_slot p ep x) p (out_ins p ep x);
  input = λ addr ep n ok ne.
      let x = in_slot_after (in_slot p ep) ok in
      pick (λ q. in_slot q n) (hears bus addr) (with_in_slot p ep x) p (in_other p ep n x ne);
  input_out = λ addr ep ok.
      let x = in_slot_after (in_slot p ep) ok in
      pick (λ q. q.outs) (hears bus addr) (with_in_slot p ep x) p (in_outs p ep x);
}

-- It moves its own, and every pipe is served.

heard : {A : Type 0} (f : Pipes → A) (b : Bool) (x y : Pipes) → b ≡ true → f (if b then x else y) ≡ f x
heard f b x y e = ap (λ c. f (if c then x else y)) e

out_moved : (s : OutSlot) (b : Bool) (x : OutPipe) → b ≡ true → (if b then record s { pipe = x } else s).pipe ≡ x
out_moved s b x e = ap (λ (c : Bool). (if c then record s { pipe = x } else s).pipe) e

in_moved : (s : InSlot) (b : Bool) (x : InPipe) → b ≡ true → (if b then record s { pipe = x } else s).pipe ≡ x
in_moved s b x e = ap (λ (c : Bool). (if c then record s { pipe = x } else s).pipe) e

pub moves : (bus : Bus) (p : Pipes) → Moves bus p
moves bus p = record {
  output = λ addr n toggle packet ok few hears_it fits.
      let s = out_slot p (suc n) in
      let x = out_slot_after s toggle packet in
      heard (λ q. (out_slot q (suc n)).pipe) (hears_packet bus addr ok) (with_out_slot p (suc n) x) p hears_it
      ∙ ap (λ (y : OutSlot). y.pipe) (get_or-set_same p.outs n x no_out_slot few) ∙ out_moved s (out_hears s (length packet)) (out.after_packet s.pipe toggle packet) fits;
  input = λ addr n ok few hears_it open_.
      let s = in_slot p (suc n) in
      let x = in_slot_after s ok in
      heard (λ q. (in_slot q (suc n)).pipe) (hears bus addr) (with_in_slot p (suc n) x) p hears_it
      ∙ ap (λ (y : InSlot). y.pipe) (get_or-set_same p.ins n x no_in_slot few) ∙ in_moved s (in_hears s) (inward.after_token s.pipe ok) open_;
  unheard = λ addr ep toggle packet ok deaf. ap (λ b. if b then with_out_slot p ep (out_slot_after (out_slot p ep) toggle packet) else p) deaf;
  unheard_token = λ addr ep ok deaf. ap (λ b. if b then with_in_slot p ep (in_slot_after (in_slot p ep) ok) else p) deaf;
  setup = λ addr bytes ok. refl;
  reset = refl;
}

-- What it answers.

fits : (bytes size : ℕ) → bytes ≤ size → nat_le bytes size ≡ true
fits bytes size h = grind (arith, nat_tests)

too_long : (bytes size : ℕ) → size < bytes → nat_le bytes size ≡ false
too_long bytes size h = grind (arith, nat_tests)

silent : {A : Type 0} (a b : Bool) (x none : A) → b ≡ false → (if a && b then x else none) ≡ none
silent true b x none e = rw (e) refl
silent false b x none e = refl

of_core : {A : Type 0} (a b c : Bool) (nak x none : A) → a ≡ true → b ≡ true → c ≡ true → (if a && b then (if c then nak else x) else none) ≡ nak
of_core a b c nak x none e k l = rw (e) (rw (k) (rw (l) refl))

of_class : {A : Type 0} (a b c : Bool) (nak x none : A) → a ≡ true → b ≡ true → c ≡ false → (if a && b then (if c then nak else x) else none) ≡ x
of_class a b c nak x none e k l = rw (e) (rw (k) (rw (l) refl))

pub answers_are : (s : OutSlot) (bytes : ℕ) → Answers s bytes
answers_are s bytes =
    let a = is_out_open s.pipe.phase in
    let b = nat_le bytes s.endpoint.size in
    let c = is_core s.endpoint.owner in
    let x = out.out_answer s.pipe in
    record {
      shut = λ shut. ap (λ y. if y && b then unless_core s.endpoint.owner x else answers.NoAnswer) shut;
      long = λ long. silent a b (unless_core s.endpoint.owner x) answers.NoAnswer (too_long bytes s.endpoint.size long);
      core = λ open_ few is. of_core a b c answers.Nak x answers.NoAnswer open_ (fits bytes s.endpoint.size few) is;
      pipe = λ open_ few is. of_class a b c answers.Nak x answers.NoAnswer open_ (fits bytes s.endpoint.size few) is;
    }

pub answers_token : (s : InSlot) → AnswersToken s
answers_token s =
    let c = is_core s.endpoint.owner in
    let x = inward.in_answer s.pipe in
    record {
      shut = λ shut. ap (λ y. if not y then unless_core s.endpoint.owner x else answers.NoAnswer) shut;
      core = λ open_ is. of_core true (not (inward.is_closed s.pipe.phase)) c answers.Nak x answers.NoAnswer refl (ap not open_) is;
      pipe = λ open_ is. of_class true (not (inward.is_closed s.pipe.phase)) c answers.Nak x answers.NoAnswer refl (ap not open_) is;
    }

mapped : {A : Type 0} (f : A → A) (xs : List A) (n : ℕ) (none : A) → f none ≡ none → slice_index_or (map f xs) n none ≡ f (slice_index_or xs n none)
mapped f [] n none e = sym e
mapped f (x ∷ xs) zero none e = refl
mapped f (x ∷ xs) (suc n) none e = mapped f xs n none e

pub serves : (p : Pipes) → Serves p
serves p = record { irq_out = irq_out; irq_in = irq_in; task_out = task_out; task_in = task_in }
  where
    irq_out : (n : ℕ) → (out_slot (pipes_after_irq p) n).pipe ≡ out.after_irq (out_slot p n).pipe
    irq_out zero = refl
    irq_out (suc n) = ap (λ (s : OutSlot). s.pipe) (mapped out_slot_after_irq p.outs n no_out_slot refl)

    irq_in : (n : ℕ) → (in_slot (pipes_after_irq p) n).pipe ≡ inward.after_irq (in_slot p n).pipe
    irq_in zero = refl
    irq_in (suc n) = ap (λ (s : InSlot). s.pipe) (mapped in_slot_after_irq p.ins n no_in_slot refl)

    task_out : (n : ℕ) → (out_slot (pipes_after_task p) n).pipe ≡ out.after_task (out_slot p n).pipe
    task_out zero = refl
    task_out (suc n) = ap (λ (s : OutSlot). s.pipe) (mapped out_slot_after_task p.outs n no_out_slot refl)

    task_in : (n : ℕ) → (in_slot (pipes_after_task p) n).pipe ≡ inward.after_task (in_slot p n).pipe
    task_in zero = refl
    task_in (suc n) = ap (λ (s : InSlot). s.pipe) (mapped in_slot_after_task p.ins n no_in_slot refl)
