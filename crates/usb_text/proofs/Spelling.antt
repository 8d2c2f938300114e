-- Lines with one text are one line.
use Rattle.std.proofs.Common.{◌≡◌, ap}
use Rattle.device_line.specs.declared.call.DevCall.{DevCall}
use Rattle.device_line.specs.declared.line.DevLine.TheVariants.{Call}
use Rattle.call_text.specs.Call.{call_text, IsCall}
use Rattle.usb_text.specs.Scheduled.{Scheduled, Device}
use Rattle.usb_text.specs.declared.head.HeadLine.{HeadLine}
use Rattle.usb_text.specs.Line.{schedule_text_of, IsScheduled}
use Rattle.usb_text.specs.Head.{head_text, IsHead, head_of}
use Rattle.usb_text.specs.Reading.{line_of}
use Rattle.usb_text.proofs.Printed.{line_again}
use Rattle.usb_text.proofs.Heads.{head_again}

pub same_schedule : (a b : Scheduled) → IsScheduled a → IsScheduled b → schedule_text_of a ≡ schedule_text_of b → a ≡ b
same_schedule a b ha hb e = let x = line_again a ha in let y = line_again b hb in let z = ap line_of e in cc

pub same_call : (a b : DevCall) → IsCall a → IsCall b → call_text a ≡ call_text b → a ≡ b
same_call a b ha hb e = let s = same_schedule (Device (Call a)) (Device (Call b)) ha hb e in cc

pub same_head : (a b : HeadLine) → IsHead a → IsHead b → head_text a ≡ head_text b → a ≡ b
same_head a b ha hb e = let x = head_again a ha in let y = head_again b hb in let z = ap head_of e in cc
