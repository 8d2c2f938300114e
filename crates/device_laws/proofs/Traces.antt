-- Traces worked by hand, and the turns of every trace.
use Rattle.std.proofs.Common.{◌≡◌, ◌≤◌, ◌<◌, ℕ, zero, suc, List, [], ◌∷◌, ◌++◌, ◌^◌, true, false, length, replicate, refl, sym, ap, subst, ◌∙◌, arith}
use Rattle.std.specs.List.{AllByRecursion}
use Rattle.usb_packet.specs.declared.bus.BusEvent.TheVariants as event
use Rattle.dwc2_regs.specs.declared.access.TheConstants.{FS4}
use Rattle.dwc2_regs.specs.declared.access.Access.{Access}
use Rattle.device_table.specs.State.{Table, opened}
use Rattle.device_table.specs.Bus.{bus_answer, after_bus}
use Rattle.dwc2_access.specs.Run.{AreSteps, accesses_after}
use Rattle.register_text.specs.Access.{IsAccess}
use Rattle.device_line.specs.declared.line.DevLine.{DevLine}
use Rattle.device_line.specs.declared.line.DevLine.TheVariants.{Bus, Irq, Task, Call}
use Rattle.device_line.specs.declared.line.Answer.{Answer}
use Rattle.device_line.specs.declared.line.Answer.TheVariants as answer
use Rattle.device_owners.specs.Device.{World}
use Rattle.device_schedule.specs.Turns.{Turn, IsTurn, AreTurns, AreWork, after_turn}
use Rattle.device_laws.specs.Examples.{ack, none}
use Rattle.device_laws.specs.Traces.{gintsts, gintmsk, nowhere, reads, writes, turn, AreTraces, AreNoTraces, with_event, table_after, IsOf, TurnsAreOfTheTable}

-- 400 reads that change nothing

idle_steps : (n : ℕ) → AreSteps (opened FS4) (replicate n (reads gintsts 0))
idle_steps zero = tt
idle_steps (suc n) = ((refl, λ e. refl), idle_steps n)

idle_words : (n : ℕ) → AllByRecursion IsAccess (replicate n (reads gintsts 0))
idle_words zero = tt
idle_words (suc n) = ((omega arith, omega arith), idle_words n)

pub are_traces : AreTraces
are_traces = record {
  woken = record {
    lines = refl;
    answers = refl;
    run = ((refl, refl), ((((refl, λ w. absurd (cc)), tt), omega arith, ((omega arith, omega arith), tt)), ((refl, refl), tt)));
  };
  popped = record {
    lines = refl;
    answers = refl;
    run = (
      (refl, refl),
      (
        (
          ((refl, λ w. refl), ((refl, λ w. absurd (cc)), ((refl, λ w. refl), tt))),
          omega arith,
          ((omega arith, omega arith), ((omega arith, omega arith), ((omega arith, omega arith), tt))),
        ),
        (
          (refl, refl),
          (
            (
              ((refl, λ w. refl), ((refl, λ w. refl), ((refl, λ w. refl), ((refl, λ w. refl), ((refl, λ w. refl), ((refl, λ w. refl), tt)))))),
              omega arith,
              ((omega arith, omega arith), ((omega arith, omega arith), ((omega arith, omega arith), ((omega arith, omega arith), ((omega arith, omega arith), ((omega arith, omega arith), tt)))))),
            ),
            tt,
          ),
        ),
      ),
    );
  };
  kept = record {
    lines = refl;
    answers = refl;
    run = (
      (((refl, λ w. refl), ((refl, λ w. absurd (cc)), tt)), omega arith, ((omega arith, omega arith), ((omega arith, omega arith), tt))),
      (
        (((refl, λ w. refl), ((refl, λ w. absurd (cc)), tt)), omega arith, ((omega arith, omega arith), ((omega arith, omega arith), tt))),
        (
          (((refl, λ w. refl), ((refl, λ w. absurd (cc)), tt)), omega arith, ((omega arith, omega arith), ((omega arith, omega arith), tt))),
          ((((refl, λ w. refl), tt), omega arith, ((omega arith, omega arith), tt)), tt),
        ),
      ),
    );
  };
  longest = record { lines = refl; answers = refl; run = ((idle_steps 400, omega arith, idle_words 400), tt) };
}

-- The first of the accesses, on each line, is no step.

first_turn : (t : Table) (line : DevLine) (x : Access) (xs : List Access) (a : Answer) → IsTurn t line (x ∷ xs) a → AreWork t (x ∷ xs)
first_turn t (Bus e) x xs a h = absurd (cc (h.0))
first_turn t Irq x xs a h = h
first_turn t Task x xs a h = h
first_turn t (Call call) x xs a h = h

too_many : (t : Table) (line : DevLine) (x : Access) (xs : List Access) (a : Answer) → 400 < length (x ∷ xs) → IsTurn t line (x ∷ xs) a → ⊥
too_many t line x xs a h is = let most : length (x ∷ xs) ≤ 400 = (first_turn t line x xs a is).1 in omega (arith, most, h)

pub are_no_traces : {S : Type 0} (world : World S) → AreNoTraces world
are_no_traces world = record {
  asleep = λ h. let e : ack ≡ none = h.run.1.1.0.1 in absurd (cc (e));
  unanswered = λ h. let e = h.answers in absurd (cc (e));
  too_early = λ h. let e : ack ≡ none = h.run.1.1.1.0.1 in absurd (cc (e));
  unset = λ schedule line a behind h.
      let is = first_turn (after_bus (opened FS4) event.Reset) line (reads gintsts 0) [] a h.run.1.0 in
      let e : 0 ≡ 0x3000 = is.0.0.1 refl in
      absurd (cc (e));
  other_start = λ schedule line a behind h.
      let is = first_turn (opened FS4) line (reads gintmsk 0) [] a h.run.0 in
      let e : 0 ≡ 0xffffffff = is.0.0.1 refl in
      absurd (cc (e));
  stale = λ schedule line a behind h.
      let is = first_turn (opened FS4) line (writes gintmsk 1) (reads gintmsk 0xffffffff ∷ []) a h.run.0 in
      let e : 0xffffffff ≡ 1 = is.0.1.0.1 refl in
      absurd (cc (e));
  no_register = λ schedule line a behind h.
      let is = first_turn (opened FS4) line (writes nowhere 0) [] a h.run.0 in
      let e : false ≡ true = is.0.0.0 in
      absurd (cc (e));
  read_nowhere = λ schedule line a behind h.
      let is = first_turn (opened FS4) line (reads nowhere 0) [] a h.run.0 in
      let e : false ≡ true = is.0.0.0 in
      absurd (cc (e));
  too_wide = λ schedule line a behind h.
      let is = first_turn (opened FS4) line (writes gintmsk 0x100000000) [] a h.run.0 in
      let e : 0x100000000 < 2 ^ 32 = is.2.0.1 in
      omega (arith, e);
  too_many = λ schedule line a behind h. too_many (opened FS4) line (reads gintsts 0) (replicate 400 (reads gintsts 0)) a (omega arith) h.run.0;
  on_the_bus = λ h. let e = h.run.0.0 in absurd (cc (e));
  other_line = λ h. let e = h.lines in absurd (cc (e));
  other_answer = λ h. let e = h.answers in absurd (cc (e));
}

-- Each turn of a trace

-- the accesses and the bus event of a turn leave what the turn leaves
left : (t : Table) (line : DevLine) (accesses : List Access) (a : Answer) → IsTurn t line accesses a
    → with_event (accesses_after t accesses) line ≡ after_turn t line accesses
left t (Bus e) accesses a h = ap (λ xs. with_event (accesses_after t xs) (Bus e)) h.0
left t Irq accesses a h = refl
left t Task accesses a h = refl
left t (Call call) accesses a h = refl

rests : (t : Table) (before : List Turn) (now : Turn) (behind : List Turn) → AreTurns t (before ++ now ∷ behind) → IsTurn (table_after t before) now.line now.accesses now.answer
rests t [] now behind h = h.0
rests t (first ∷ before) now behind h =
    rests (with_event (accesses_after t first.accesses) first.line) before now behind
    (subst (λ u. AreTurns u (before ++ now ∷ behind)) (sym (left t first.line first.accesses first.answer h.0)) h.1)

is_of : (t : Table) (line : DevLine) (accesses : List Access) (a : Answer) → IsTurn t line accesses a → IsOf t (turn line accesses a)
is_of t (Bus e) accesses a h = record {
  steps = subst (AreSteps t) (sym h.0) tt;
  words = subst (AllByRecursion IsAccess) (sym h.0) tt;
  most = let none : length accesses ≡ 0 = ap length h.0 in omega (arith, none);
  silent = λ f same. h.0;
  answered = λ f same. let e' : e ≡ f = cc (same) in h.1 ∙ ap (λ x. answer.Bus (bus_answer t x)) e';
}
is_of t Irq accesses a h = record { steps = h.0; words = h.2; most = h.1; silent = λ f same. absurd (cc (same)); answered = λ f same. absurd (cc (same)) }
is_of t Task accesses a h = record { steps = h.0; words = h.2; most = h.1; silent = λ f same. absurd (cc (same)); answered = λ f same. absurd (cc (same)) }
is_of t (Call call) accesses a h = record { steps = h.0; words = h.2; most = h.1; silent = λ f same. absurd (cc (same)); answered = λ f same. absurd (cc (same)) }

pub turns_are_of_the_table : {S : Type 0} (world : World S) → TurnsAreOfTheTable world
turns_are_of_the_table world schedule before now behind h =
    is_of (table_after (opened FS4) before) now.line now.accesses now.answer (rests (opened FS4) before now behind h.run)
