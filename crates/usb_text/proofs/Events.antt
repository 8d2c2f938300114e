-- A bus event is read exactly where its line is.
use Rattle.std.proofs.Common.{◌≡◌, ℕ, List, [], ◌∷◌, Option, Some, None, refl, ap, ◌∙◌, sym}
use Rattle.std.specs.Option.{option_map, IfNone}
use Rattle.usb_packet.specs.declared.bus.BusEvent.{BusEvent}
use Rattle.device_line.specs.declared.line.DevLine.TheVariants.{Bus, Irq, Task, Call}
use Rattle.device_line.specs.declared.call.DevCall.{DevCall}
use Rattle.device_line.specs.declared.call.DevCall.TheVariants as call
use Rattle.line_rules.specs.declared.kinds.Class.{Class}
use Rattle.call_text.specs.Reading.{class_call}
use Rattle.usb_text.specs.Scheduled.{Scheduled}
use Rattle.usb_text.specs.Scheduled.{Device, End}
use Rattle.usb_text.specs.Line.{schedule_text_of, IsScheduled}
use Rattle.usb_text.specs.Reading.{alone, of_call, on_bus, event_in, line_of}
use Rattle.usb_text.proofs.Printed.{line_again}
use Rattle.usb_text.proofs.Read.{line_only}

pub event_again : (r : Option BusEvent) → event_in (option_map on_bus r) ≡ r
event_again None = refl
event_again (Some e) = refl

pub irq_is_none : (fields : List (List ℕ)) → event_in (alone fields (Device Irq)) ≡ None
irq_is_none [] = refl
irq_is_none (f ∷ fs) = refl

pub task_is_none : (fields : List (List ℕ)) → event_in (alone fields (Device Task)) ≡ None
task_is_none [] = refl
task_is_none (f ∷ fs) = refl

pub state_is_none : (fields : List (List ℕ)) → event_in (alone fields (Device (Call call.State))) ≡ None
state_is_none [] = refl
state_is_none (f ∷ fs) = refl

pub end_is_none : (fields : List (List ℕ)) → event_in (alone fields End) ≡ None
end_is_none [] = refl
end_is_none (f ∷ fs) = refl

called_is_none : (r : Option DevCall) → event_in (of_call r) ≡ None
called_is_none None = refl
called_is_none (Some c) = refl

pub call_is_none : (c : Class) (fields : List (List ℕ)) → event_in (of_call (class_call c fields)) ≡ None
call_is_none c fields = called_is_none (class_call c fields)

event_line : (r : Option Scheduled) (e : BusEvent) → event_in r ≡ Some e → r ≡ Some (Device (Bus e))
event_line None e h = absurd (cc)
event_line (Some End) e h = absurd (cc)
event_line (Some (Device (Bus d))) e h = let same : d ≡ e = cc in ap (λ x. Some (Device (Bus x))) same
event_line (Some (Device Irq)) e h = absurd (cc)
event_line (Some (Device Task)) e h = absurd (cc)
event_line (Some (Device (Call c))) e h = absurd (cc)

-- what is read as an event is the text of its line
pub event_only : (bytes : List ℕ) (e : BusEvent) → event_in (line_of bytes) ≡ Some e → (bytes ≡ schedule_text_of (Device (Bus e))) × IsScheduled (Device (Bus e))
event_only bytes e h = line_only bytes (Device (Bus e)) (event_line (line_of bytes) e h)

-- and what isn't is that of none
pub event_none : (bytes : List ℕ) → event_in (line_of bytes) ≡ None → (e : BusEvent) → IsScheduled (Device (Bus e)) → bytes ≡ schedule_text_of (Device (Bus e)) → ⊥
event_none bytes h e fits text =
    let again = line_again (Device (Bus e)) fits in
    let same = ap (λ b. event_in (line_of b)) text ∙ ap event_in again in
    cc

pub none_told : (bytes : List ℕ) (r : Option BusEvent) → r ≡ event_in (line_of bytes)
    → IfNone r ((e : BusEvent) → IsScheduled (Device (Bus e)) → bytes ≡ schedule_text_of (Device (Bus e)) → ⊥)
none_told bytes None h = λ e fits text. event_none bytes (sym h) e fits text
none_told bytes (Some e) h = tt
