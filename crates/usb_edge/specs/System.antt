-- What a source, a sink or a disk answers, by what the system's calls gave.
use Rattle.std.specs.Prelude.{ℕ, ◌==◌, if◌then◌else◌, Option, Some, None, Result, Ok, Err}
use Rattle.usb_edge.specs.declared.stream.Got.{Got}
use Rattle.usb_edge.specs.declared.stream.Got.TheVariants as got
use Rattle.usb_edge.specs.declared.stream.Wrote.{Wrote}
use Rattle.usb_edge.specs.declared.stream.Wrote.TheVariants as wrote
use Rattle.usb_edge.specs.Stream.{counted}

-- a read: so many bytes, the end where there are none, and a failure at an error
abbrev pub got_of : {E : Type 0} → Result ℕ E → Got
got_of (Ok n) = if n == 0 then got.End else got.Bytes n
got_of (Err e) = got.Failed

-- a write and the flush behind it: so many bytes where both did; a write of no bytes is a failure
abbrev pub wrote_of : {E : Type 0} → Result ℕ E → Result Unit E → Wrote
wrote_of (Ok n) (Ok _) = if n == 0 then wrote.Failed else wrote.Bytes n
wrote_of (Ok n) (Err e) = wrote.Failed
wrote_of (Err e) flushed = wrote.Failed

-- a count of faults behind an answer: one more exactly where it is a failure
abbrev pub faults_at_read : Got → ℕ → ℕ
faults_at_read (got.Bytes n) faults = faults
faults_at_read got.End faults = faults
faults_at_read got.Failed faults = counted faults

-- a read or a write of a block: it passes where all 512 bytes moved
abbrev pub block_answer : {E : Type 0} → Result ℕ E → Option Unit
block_answer (Ok n) = if n == 512 then Some tt else None
block_answer (Err e) = None
