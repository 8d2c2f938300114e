-- Where an access may go.
use Rattle.std.specs.Prelude.{ℕ, IsSome}
use Rattle.dwc2_regs.specs.Register.{register_at}

-- a register or a FIFO window stands at the offset; numbers go to 11
abbrev pub IsRegister : ℕ → Type 0
IsRegister off = IsSome (register_at off)
