-- A list of accesses beside that of the inner registers: what is due on the bus doesn't touch it.
use Rattle.std.proofs.Common.{◌≡◌, ℕ, ◌-◌, length, length-append, arith, List, [], ◌∷◌, ◌++◌, Bool, true, false, refl, ap, ◌∙◌}
use Rattle.std.specs.Prelude.{min, nat_le, if◌then◌else◌}
use Rattle.dwc2_regs.specs.declared.access.Access.{Access}
use Rattle.dwc2_regs.specs.declared.access.During.{During}
use Rattle.device_table.specs.State.{Table}
use Rattle.device_table.specs.Read.{read_value, read_table}
use Rattle.device_table.specs.Write.{write_table}
use Rattle.device_table.specs.Bank.{Bank, acted, settled, logged, counted, bank_read, bank_write}
use Rattle.dwc2_access.specs.Trace.{traced}

by_time : (x : Bool) (b : Bank) (next : During) (later : List During) (log : List Access)
    → traced (settled (acted b next) later) log ≡ settled (acted (traced b log) next) later
    → traced (if x then settled (acted b next) later else record b { due = next ∷ later }) log
    ≡ (if x then settled (acted (traced b log) next) later else record (traced b log) { due = next ∷ later })
by_time true b next later log ih = ih
by_time false b next later log ih = refl

settled_traced : (due : List During) (b : Bank) (log : List Access) → traced (settled b due) log ≡ settled (traced b log) due
settled_traced [] b log = refl
settled_traced (next ∷ later) b log = by_time (nat_le next.after b.made) b next later log (settled_traced later (acted b next) log)

-- one access less may be made, by the inner registers and by the list
one_less : (spare : ℕ) (log : List Access) (access : Access) → min (spare - 1) (400 - length (log ++ access ∷ [])) ≡ min spare (400 - length log) - 1
one_less spare log access = omega (arith, length-append log (access ∷ []))

logged_traced : (b : Bank) (log : List Access) (access : Access) (table : Table) → traced (logged b access table) (log ++ access ∷ []) ≡ logged (traced b log) access table
logged_traced b log access table =
    let now : Bank = record b { table = table; spare = b.spare - 1; log = b.log ++ access ∷ []; made = counted b.made } in
    settled_traced b.due now (log ++ access ∷ [])
    ∙ ap (λ s. settled (record now { spare = s; log = log ++ access ∷ [] }) b.due) (one_less b.spare log access)

pub read_listed : (b new : Bank) (log items : List Access) (off value : ℕ) → new ≡ bank_read b off → value ≡ read_value b.table off
    → items ≡ log ++ record { write = false; off = off; value = value } ∷ [] → traced new items ≡ bank_read (traced b log) off
read_listed b new log items off value e v l =
    ap (λ n. traced n items) e ∙ ap (traced (bank_read b off)) (l ∙ ap (λ x. log ++ record { write = false; off = off; value = x } ∷ []) v)
    ∙ logged_traced b log (record { write = false; off = off; value = read_value b.table off }) (read_table b.table off)

pub write_listed : (b new : Bank) (log items : List Access) (off value : ℕ) → new ≡ bank_write b off value
    → items ≡ log ++ record { write = true; off = off; value = value } ∷ [] → traced new items ≡ bank_write (traced b log) off value
write_listed b new log items off value e l =
    ap (λ n. traced n items) e ∙ ap (traced (bank_write b off value)) l
    ∙ logged_traced b log (record { write = true; off = off; value = value }) (write_table b.table off value)
