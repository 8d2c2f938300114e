-- A trace's text tells its accesses.
use Rattle.std.proofs.Common.{◌≡◌, ℕ, List, [], ◌∷◌, ◌++◌, map, refl, ap, sym, ◌∙◌, subst}
use Rattle.std.specs.List.{AllByRecursion}
use Rattle.dwc2_regs.specs.declared.access.TheConstants.{FS4}
use Rattle.dwc2_regs.specs.declared.access.Access.{Access}
use Rattle.device_table.specs.State.{Table, opened}
use Rattle.device_owners.specs.Device.{World}
use Rattle.device_line.specs.declared.line.DevLine.{DevLine}
use Rattle.device_line.specs.declared.line.DevLine.TheVariants.{Bus, Irq, Task, Call}
use Rattle.device_line.specs.declared.line.Answer.{Answer}
use Rattle.register_text.specs.declared.access.Side.TheVariants.{Plain}
use Rattle.usb_text.specs.Line.{answer_text}
use Rattle.register_text.specs.Access.{IsAccess}
use Rattle.register_text.proofs.Accesses.{access_told}
use Rattle.usb_text.proofs.Accesses.{access_is_no_answer}
use Rattle.device_schedule.specs.Turns.{Turn, IsTurn, after_turn, AreTurns, IsTrace}
use Rattle.device_text.specs.Trace.{register_text, trace_lines, trace_text, text_lines}
use Rattle.device_text.proofs.Traces.{lines_again, trace_is_plain}

-- the lines of a turn, and what follows them
lines_told : (xs bs : List Access) (x y : Answer) (us vs : List (List ℕ)) → AllByRecursion IsAccess xs → AllByRecursion IsAccess bs
    → (map register_text xs ++ answer_text x ∷ []) ++ us ≡ (map register_text bs ++ answer_text y ∷ []) ++ vs → (xs ≡ bs) × (us ≡ vs)
lines_told [] [] x y us vs h k e = (refl, cc (e))
lines_told [] (b ∷ bs) x y us vs h k e = absurd (access_is_no_answer b Plain x (cc (e)))
lines_told (a ∷ xs) [] x y us vs h k e = absurd (access_is_no_answer a Plain y (cc (e)))
lines_told (a ∷ xs) (b ∷ bs) x y us vs h k e =
    let one = access_told a b Plain Plain h.0 k.0 (cc (e)) in
    let rest = lines_told xs bs x y us vs h.1 k.1 (cc (e)) in
    (cc (one.0, rest.0), rest.1)

accesses_fit : (t : Table) (line : DevLine) (accesses : List Access) (a : Answer) → IsTurn t line accesses a → AllByRecursion IsAccess accesses
accesses_fit t (Bus e) accesses a h = subst (AllByRecursion IsAccess) (sym h.0) tt
accesses_fit t Irq accesses a h = h.2
accesses_fit t Task accesses a h = h.2
accesses_fit t (Call call) accesses a h = h.2

turn_as : (u v : Turn) → u.line ≡ v.line → u.accesses ≡ v.accesses → u.answer ≡ v.answer → u ≡ v
turn_as u v p q r =
    ap (λ line. record u { line = line }) p ∙ ap (λ accesses. record u { line = v.line; accesses = accesses }) q
    ∙ ap (λ answer. record v { answer = answer }) r

turns_told : (t w : Table) (us vs : List Turn) → AreTurns t us → AreTurns w vs → map (λ turn. turn.line) us ≡ map (λ turn. turn.line) vs
    → map (λ turn. turn.answer) us ≡ map (λ turn. turn.answer) vs → trace_lines us ≡ trace_lines vs → us ≡ vs
turns_told t w [] [] h k l a e = refl
turns_told t w [] (v ∷ vs) h k l a e = absurd (cc (l))
turns_told t w (u ∷ us) [] h k l a e = absurd (cc (l))
turns_told t w (u ∷ us) (v ∷ vs) h k l a e =
    let step = lines_told u.accesses v.accesses u.answer v.answer (trace_lines us) (trace_lines vs)
    (accesses_fit t u.line u.accesses u.answer h.0) (accesses_fit w v.line v.accesses v.answer k.0) e in
    let rest = turns_told (after_turn t u.line u.accesses) (after_turn w v.line v.accesses) us vs h.1 k.1 (cc (l)) (cc (a)) step.1 in
    let first = turn_as u v (cc (l)) step.0 (cc (a)) in
    cc (first, rest)

pub trace_is_told : {S : Type 0} (world : World S) (schedule : List DevLine) (us vs : List Turn) → IsTrace world schedule us → IsTrace world schedule vs
    → trace_text us ≡ trace_text vs → us ≡ vs
trace_is_told world schedule us vs h k e =
    turns_told (opened FS4) (opened FS4) us vs h.run k.run (h.lines ∙ sym k.lines) (h.answers ∙ sym k.answers)
    (sym (lines_again (trace_lines us) (trace_is_plain us)) ∙ ap text_lines e ∙ lines_again (trace_lines vs) (trace_is_plain vs))
