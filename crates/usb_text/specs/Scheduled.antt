-- A line of a job after its head.
use Rattle.device_line.specs.declared.line.DevLine.{DevLine}
use Rattle.device_line.specs.declared.line.DevLine.TheVariants as line
use Rattle.usb_text.specs.declared.line.ScheduleLine.{ScheduleLine}
use Rattle.usb_text.specs.declared.reading.RunLine.{RunLine}
use Rattle.usb_text.specs.declared.reading.RunLine.TheVariants as run
use Rattle.usb_text.specs.declared.line.ScheduleLine.TheVariants as schedule

pub data Scheduled : Type 0 where
  Device : (line : DevLine) → Scheduled
  End : Scheduled

abbrev pub scheduled : ScheduleLine → Scheduled
scheduled (schedule.Served l) = Device l
scheduled schedule.End = End

abbrev pub run_line : RunLine → DevLine
run_line run.Irq = line.Irq
run_line run.Task = line.Task
