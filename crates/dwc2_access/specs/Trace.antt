-- Registers with the list of the accesses to them.
use Rattle.std.specs.Prelude.{◌-◌, min, List, length}
use Rattle.dwc2_regs.specs.declared.access.Access.{Access}
use Rattle.device_table.specs.Bank.{Bank, most_accesses}

-- the inner registers, with this list as the accesses made: no more may be made than the inner ones allow, and than the
-- list has places left for
abbrev pub traced : Bank → List Access → Bank
traced bank accesses = record bank { spare = min bank.spare (most_accesses - length accesses); log = accesses }
