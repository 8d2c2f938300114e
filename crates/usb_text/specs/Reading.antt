-- How a line of the schedule is read: by its words.
use Rattle.std.specs.Prelude.{ℕ, List, [], ◌∷◌, Bool, Option, Some, None, codes, if◌then◌else◌}
use Rattle.std.specs.Str.{bytes_eq}
use Rattle.usb_packet.specs.declared.bus.Toggle.{Toggle}
use Rattle.usb_packet.specs.declared.bus.Toggle.TheVariants.{D0, D1}
use Rattle.usb_packet.specs.declared.bus.BusEvent.{BusEvent}
use Rattle.usb_packet.specs.declared.bus.BusEvent.TheVariants as event
use Rattle.usb_words.specs.Field.{pieces, none_left, number_of, bytes_in, exactly, fate_of}
use Rattle.line_rules.specs.declared.kinds.Kind.{Kind}
use Rattle.line_rules.specs.declared.kinds.Kind.TheVariants as kind
use Rattle.line_rules.specs.Kinds.{kind_of, bad, noack}
use Rattle.device_line.specs.declared.line.DevLine.TheVariants.{Bus, Irq, Task, Call}
use Rattle.device_line.specs.declared.call.DevCall.{DevCall}
use Rattle.device_line.specs.declared.call.DevCall.TheVariants as call
use Rattle.call_text.specs.Reading.{class_call}
use Rattle.usb_text.specs.Scheduled.{Scheduled}
use Rattle.usb_text.specs.Scheduled.{Device, End}
use Rattle.usb_text.specs.Line.{most_address, most_endpoint}

-- exactly three words, exactly five
abbrev pub three : List (List ℕ) → Option (List ℕ × List ℕ × List ℕ)
three (a ∷ b ∷ c ∷ []) = Some (a, b, c)
three _ = None

abbrev pub five : List (List ℕ) → Option (List ℕ × List ℕ × List ℕ × List ℕ × List ℕ)
five (a ∷ b ∷ c ∷ d ∷ e ∷ []) = Some (a, b, c, d, e)
five _ = None

abbrev pub toggle_of : List ℕ → Option Toggle
toggle_of word =
    if bytes_eq word (codes "0") then Some D0 else (if bytes_eq word (codes "1") then Some D1 else None)

abbrev pub setup_line : Option ℕ → Option (List ℕ) → Option Bool → Option Scheduled
setup_line None bytes ok = None
setup_line (Some addr) None ok = None
setup_line (Some addr) (Some bytes) None = None
setup_line (Some addr) (Some bytes) (Some ok) = Some (Device (Bus (event.Setup addr bytes ok)))

abbrev pub setup_words : Option (List ℕ × List ℕ × List ℕ) → Option Scheduled
setup_words None = None
setup_words (Some w) = setup_line (number_of most_address w.0) (exactly 8 (bytes_in 8 w.1)) (fate_of bad w.2)

abbrev pub out_line : Option ℕ → Option ℕ → Option Toggle → Option (List ℕ) → Option Bool → Option Scheduled
out_line None ep toggle bytes ok = None
out_line (Some addr) None toggle bytes ok = None
out_line (Some addr) (Some ep) None bytes ok = None
out_line (Some addr) (Some ep) (Some toggle) None ok = None
out_line (Some addr) (Some ep) (Some toggle) (Some bytes) None = None
out_line (Some addr) (Some ep) (Some toggle) (Some bytes) (Some ok) = Some (Device (Bus (event.Out addr ep toggle bytes ok)))

abbrev pub out_words : Option (List ℕ × List ℕ × List ℕ × List ℕ × List ℕ) → Option Scheduled
out_words None = None
out_words (Some w) = out_line (number_of most_address w.0) (number_of most_endpoint w.1) (toggle_of w.2) (bytes_in 64 w.3) (fate_of bad w.4)

abbrev pub in_line : Option ℕ → Option ℕ → Option Bool → Option Scheduled
in_line None ep ok = None
in_line (Some addr) None ok = None
in_line (Some addr) (Some ep) None = None
in_line (Some addr) (Some ep) (Some ok) = Some (Device (Bus (event.In addr ep ok)))

abbrev pub in_words : Option (List ℕ × List ℕ × List ℕ) → Option Scheduled
in_words None = None
in_words (Some w) = in_line (number_of most_address w.0) (number_of most_endpoint w.1) (fate_of noack w.2)

-- a line with no word but its name
abbrev pub alone : List (List ℕ) → Scheduled → Option Scheduled
alone fields line = if none_left fields then Some line else None

-- a call of a class
abbrev pub of_call : Option DevCall → Option Scheduled
of_call None = None
of_call (Some c) = Some (Device (Call c))

abbrev pub fields_line : Option Kind → List (List ℕ) → Option Scheduled
fields_line None fields = None
fields_line (Some kind.Reset) fields = alone fields (Device (Bus event.Reset))
fields_line (Some kind.Irq) fields = alone fields (Device Irq)
fields_line (Some kind.Task) fields = alone fields (Device Task)
fields_line (Some kind.End) fields = alone fields End
fields_line (Some kind.State) fields = alone fields (Device (Call call.State))
fields_line (Some kind.Setup) fields = setup_words (three fields)
fields_line (Some kind.Out) fields = out_words (five fields)
fields_line (Some kind.In) fields = in_words (three fields)
fields_line (Some (kind.Class c)) fields = of_call (class_call c fields)

abbrev pub words_line : List (List ℕ) → Option Scheduled
words_line [] = None
words_line (name ∷ fields) = fields_line (kind_of name) fields

-- the line that bytes are the text of
abbrev pub line_of : List ℕ → Option Scheduled
line_of bytes = words_line (pieces bytes)

abbrev pub on_bus : BusEvent → Scheduled
on_bus e = Device (Bus e)

-- the bus event that a line is
abbrev pub event_in : Option Scheduled → Option BusEvent
event_in None = None
event_in (Some End) = None
event_in (Some (Device (Bus e))) = Some e
event_in (Some (Device Irq)) = None
event_in (Some (Device Task)) = None
event_in (Some (Device (Call c))) = None
