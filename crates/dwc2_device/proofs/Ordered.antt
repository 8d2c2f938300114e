-- The driver's accesses go on in order: what each step needs.
use Rattle.std.proofs.Common.{◌≡◌, ◌≤◌, ◌+◌, ℕ, zero, suc, Bool, true, List, [], ◌∷◌, ◌++◌, refl, ap, sym, ◌∙◌, subst, append_assoc, arith}
use Rattle.dwc2_regs.specs.declared.access.TheConstants.{FS4}
use Rattle.dwc2_regs.specs.declared.access.Access.{Access}
use Rattle.access_order.specs.Order.{Order}
use Rattle.access_order.specs.Phase.{Phase, Is, Kept, Keeps, serving, over}
use Rattle.access_order.proofs.Phases.{goes_by, serving_over}
use Rattle.access_order.proofs.Leads.{Leads, keeps, none_loads}
use Rattle.device_relation.specs.Software.{Software, Joint, in_kept, unused}
use Rattle.device_relation.specs.Run.{with_table}
use Rattle.device_table.specs.State.{Table}
use Rattle.dwc2_device.specs.Driver.{Driver, joint}
use Rattle.dwc2_device.specs.Order.{kept_of, loaded_in, loads, Goes}

-- what is kept of an IN endpoint
pub kept_is : (s : Software) (n : ℕ) → in_kept s n ≡ kept_of s.ins n
kept_is s zero = refl
kept_is s (suc n) = refl

-- the IN endpoints' part of what is kept stays
pub same_ins : (old new : Driver) (t : Table) → joint new ≡ with_table (joint old) t → new.software.ins ≡ old.software.ins
same_ins old new t e = ap (λ (j : Joint). j.software.ins) e

-- accesses go on in order, and of the IN endpoints the same is kept
pub goes : (old new : Driver) (from to : (ℕ → Bool) → Phase) → new.software.ins ≡ old.software.ins → Keeps (from (loads old)) (to (loads old)) old.bank.log new.bank.log → Goes from to old new
goes old new from to same k = subst (λ ins. Keeps (from (loads old)) (to (loaded_in ins)) old.bank.log new.bank.log) (sym same) k

-- one access
pub one : (old new : Driver) (from to : (ℕ → Bool) → Phase) (a : Access) → new.software.ins ≡ old.software.ins → new.bank.log ≡ old.bank.log ++ a ∷ []
    → ((o : Order) → Is (from (loads old)) o → Leads o (a ∷ []) (to (loads old))) → Goes from to old new
one old new from to a same told lead = goes old new from to same (keeps (from (loads old)) (to (loads old)) old.bank.log new.bank.log (a ∷ []) told lead)

-- and where that happens in a step with a table
pub wrote : (old new : Driver) (from to : (ℕ → Bool) → Phase) (a : Access) (t : Table) → joint new ≡ with_table (joint old) t → new.bank.log ≡ old.bank.log ++ a ∷ []
    → ((o : Order) → Is (from (loads old)) o → Leads o (a ∷ []) (to (loads old))) → Goes from to old new
wrote old new from to a t e told lead = one old new from to a (same_ins old new t e) told lead

-- one step, and then another
pub then : (old mid new : Driver) (from by to : (ℕ → Bool) → Phase) → Goes from by old mid → Goes by to mid new → Goes from to old new
then old mid new from by to a b start k = b start (a start k)

-- nothing was accessed
pub still : (old new : Driver) (from : (ℕ → Bool) → Phase) → new.software.ins ≡ old.software.ins → new.bank.log ≡ old.bank.log → Goes from from old new
still old new from same e = goes old new from from same (λ start k. subst (λ l. Kept start l (from (loads old))) (sym e) k)

-- two accesses
pub two : (old one new : List Access) (a b : Access) → one ≡ old ++ a ∷ [] → new ≡ one ++ b ∷ [] → new ≡ old ++ a ∷ b ∷ []
two old one new a b e k = k ∙ ap (λ l. l ++ b ∷ []) e ∙ append_assoc old (a ∷ []) (b ∷ [])

pub one_more : (x : ℕ) → suc x ≡ x + 1
one_more x = omega arith

pub up_to_eleven : (x : ℕ) → x ≤ 3 → x ≤ 11
up_to_eleven x h = omega (arith, h)

-- where no endpoint is open no packet is loaded
pub unused_loads : none_loads (loaded_in (unused FS4 true).ins)
unused_loads zero f t = absurd (omega (arith, f))
unused_loads (suc zero) f t = refl
unused_loads (suc (suc zero)) f t = refl
unused_loads (suc (suc (suc zero))) f t = refl
unused_loads (suc (suc (suc (suc n)))) f t = absurd (omega (arith, t))

-- From phase to phase without an access, as the code's steps meet them.

pub nothing_loaded : (loads : ℕ → Bool) (start : Order) (log : List Access) → Kept start log (serving 0 loads) → Kept start log (serving 1 loads)
nothing_loaded loads start log k = goes_by 0 1 loads start log (omega arith) k

pub zero_over : (loads : ℕ → Bool) (start : Order) (log : List Access) → Kept start log (serving 0 loads) → Kept start log (over loads)
zero_over loads start log k = serving_over 0 loads start log k

pub four_over : (loads : ℕ → Bool) (start : Order) (log : List Access) → Kept start log (serving 4 loads) → Kept start log (over loads)
four_over loads start log k = serving_over 4 loads start log k

-- what is written to other fields of the software behind them changes nothing
pub ends : {new after : Driver} (old mid : Driver) (from to : (ℕ → Bool) → Phase) → new ≡ after → after.software.ins ≡ mid.software.ins → after.bank.log ≡ mid.bank.log
    → Goes from to old mid → Goes from to old new
ends {new} {after} old mid from to view ins log k =
    subst (λ (d : Driver). Goes from to old d) (sym view) (then old mid after from to to k (still mid after to ins log))
