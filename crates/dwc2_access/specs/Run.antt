-- A list of accesses to registers as a run of the controller's table.
use Rattle.std.specs.Prelude.{◌≡◌, false, if◌then◌else◌, List, [], ◌∷◌}
use Rattle.dwc2_regs.specs.declared.access.Access.{Access}
use Rattle.device_table.specs.State.{Table}
use Rattle.device_table.specs.Read.{read_value, read_table}
use Rattle.device_table.specs.Write.{write_table}
use Rattle.dwc2_access.specs.Registers.{IsRegister}

-- the controller after an access
abbrev pub access_after : Table → Access → Table
access_after t access = if access.write then write_table t access.off access.value else read_table t access.off

-- an access is a step of the controller: it goes to a register, and a read gives the word that stands there
abbrev pub IsStep : Table → Access → Type 0
IsStep t access = IsRegister access.off × (access.write ≡ false → access.value ≡ read_value t access.off)

-- so is each of a list, after those before it
abbrev pub accesses_after : Table → List Access → Table
accesses_after t [] = t
accesses_after t (access ∷ accesses) = accesses_after (access_after t access) accesses

abbrev pub AreSteps : Table → List Access → Type 0
AreSteps t [] = Unit {0}
AreSteps t (access ∷ accesses) = IsStep t access × AreSteps (access_after t access) accesses
