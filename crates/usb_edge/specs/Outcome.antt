-- Facts about what one read or one write answered.
use Rattle.std.specs.Prelude.{ℕ, ⊤, Bool, true, false}
use Rattle.usb_edge.specs.Stream.{counted}
use Rattle.usb_edge.specs.declared.stream.Got.{Got}
use Rattle.usb_edge.specs.declared.stream.Got.TheVariants as got
use Rattle.usb_edge.specs.declared.stream.Wrote.{Wrote}
use Rattle.usb_edge.specs.declared.stream.Wrote.TheVariants as wrote

-- of the number of bytes that a read gave
abbrev pub IfGot : Got → (ℕ → Type 0) → Type 0
IfGot (got.Bytes n) P = P n
IfGot got.End P = ⊤
IfGot got.Failed P = ⊤

-- of the number of bytes that a write took
abbrev pub IfWrote : Wrote → (ℕ → Type 0) → Type 0
IfWrote (wrote.Bytes n) P = P n
IfWrote wrote.Failed P = ⊤

-- a sink's count of faults behind a write, and behind a text that it was told: one more exactly where it failed
abbrev pub faults_at_write : Wrote → ℕ → ℕ
faults_at_write (wrote.Bytes n) faults = faults
faults_at_write wrote.Failed faults = counted faults

abbrev pub faults_at_tell : Bool → ℕ → ℕ
faults_at_tell true faults = faults
faults_at_tell false faults = counted faults
