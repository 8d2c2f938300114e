-- The controller with what is told of the accesses to it: how many more may be made, and the list of those made. In host
-- mode no bus event is due between two accesses.
use Rattle.std.specs.Prelude.{ℕ, ◌-◌, true, false, List, [], ◌∷◌, ◌++◌}
use Rattle.dwc2_regs.specs.declared.access.Access.{Access}
use Rattle.device_table.specs.Bank.{most_accesses}
use Rattle.host_table.specs.State.{Table}
use Rattle.host_table.specs.Read.{read_value, read_table}
use Rattle.host_table.specs.Write.{write_table}

pub record Bank : Type 0 where
  pub table : Table
  -- how many more accesses may be made
  pub spare : ℕ
  -- the accesses since the last `begin`, the oldest first
  pub log : List Access

abbrev pub begun : Bank → Bank
begun bank = record bank { spare = most_accesses; log = [] }

-- an access is a step of the table
abbrev pub logged : Bank → Access → Table → Bank
logged bank access table = record { table = table; spare = bank.spare - 1; log = bank.log ++ access ∷ [] }

abbrev pub bank_read : Bank → ℕ → Bank
bank_read bank off =
    logged bank (record { write = false; off = off; value = read_value bank.table off }) (read_table bank.table off)

abbrev pub bank_write : Bank → ℕ → ℕ → Bank
bank_write bank off word =
    logged bank (record { write = true; off = off; value = word }) (write_table bank.table off word)
