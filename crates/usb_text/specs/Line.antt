-- The lines of a device's job, each with its one spelling.
use Rattle.std.specs.Prelude.{◌≡◌, ℕ, ◌≤◌, List, [], ◌∷◌, Bool, true, false, length, codes, ⊤}
use Rattle.std.specs.Fmt.{decimal}
use Rattle.usb_packet.specs.declared.bus.Toggle.{Toggle}
use Rattle.usb_packet.specs.declared.bus.Toggle.TheVariants.{D0, D1}
use Rattle.usb_packet.specs.declared.bus.BusEvent.{BusEvent}
use Rattle.usb_packet.specs.declared.bus.BusEvent.TheVariants as event
use Rattle.usb_words.specs.Field.{AreBytes, spaced, hex}
pub use Rattle.usb_words.specs.Field.{newline}
use Rattle.line_rules.specs.Kinds.{bad, noack}
use Rattle.device_line.specs.declared.line.DevLine.{DevLine}
use Rattle.device_line.specs.declared.line.DevLine.TheVariants.{Bus, Irq, Task, Call}
use Rattle.usb_text.specs.Scheduled.{Scheduled}
use Rattle.usb_text.specs.Scheduled as schedule
use Rattle.usb_text.specs.declared.line.Line.{Line}
use Rattle.usb_text.specs.declared.line.Line.TheVariants.{Head, Device, End}
use Rattle.device_line.specs.declared.line.Answer.{Answer}
use Rattle.device_line.specs.declared.line.Answer.TheVariants as answer
use Rattle.call_text.specs.Call.{call_words, IsCall}
use Rattle.usb_text.specs.Head.{head_words, IsHead}
use Rattle.usb_text.specs.Reply.{bus_words, reply_words}

-- the greatest device address and the greatest endpoint number (USB 2.0, 8.3.2.1 and 8.3.2.2)
abbrev pub most_address : ℕ
most_address = 127

abbrev pub most_endpoint : ℕ
most_endpoint = 15

-- whether all went well: `ok`, or the word for the other case
abbrev pub fate_text : List ℕ → Bool → List ℕ
fate_text other true = codes "ok"
fate_text other false = other

abbrev pub toggle_text : Toggle → List ℕ
toggle_text D0 = codes "0"
toggle_text D1 = codes "1"

-- the words of a bus event: `reset`, `setup ADDR HEX FATE`, `out ADDR EP T HEX FATE`, `in ADDR EP FATE`
abbrev pub event_words : BusEvent → List (List ℕ)
event_words event.Reset = codes "reset" ∷ []
event_words (event.Setup addr bytes ok) = codes "setup" ∷ decimal addr ∷ hex bytes ∷ fate_text bad ok ∷ []
event_words (event.Out addr ep toggle packet ok) = codes "out" ∷ decimal addr ∷ decimal ep ∷ toggle_text toggle ∷ hex packet ∷ fate_text bad ok ∷ []
event_words (event.In addr ep ok) = codes "in" ∷ decimal addr ∷ decimal ep ∷ fate_text noack ok ∷ []

abbrev pub device_words : DevLine → List (List ℕ)
device_words (Bus e) = event_words e
device_words Irq = codes "irq" ∷ []
device_words Task = codes "task" ∷ []
device_words (Call call) = call_words call

abbrev pub line_words : Line → List (List ℕ)
line_words (Head line) = head_words line
line_words (Device line) = device_words line
line_words End = codes "end" ∷ []

-- the text of a line, without the newline that ends it
abbrev pub line_text : Line → List ℕ
line_text line = spaced (line_words line)

abbrev pub schedule_words_of : Scheduled → List (List ℕ)
schedule_words_of (schedule.Device line) = device_words line
schedule_words_of schedule.End = codes "end" ∷ []

-- the same of a line after the head
abbrev pub schedule_text_of : Scheduled → List ℕ
schedule_text_of line = spaced (schedule_words_of line)

-- the ranges of a bus event's fields
abbrev pub IsEvent : BusEvent → Type 0
IsEvent event.Reset = ⊤
IsEvent (event.Setup addr bytes ok) = (addr ≤ most_address) × (length bytes ≡ 8) × AreBytes bytes
IsEvent (event.Out addr ep toggle packet ok) = (addr ≤ most_address) × (ep ≤ most_endpoint) × (length packet ≤ 64) × AreBytes packet
IsEvent (event.In addr ep ok) = (addr ≤ most_address) × (ep ≤ most_endpoint)

-- the ranges of a line's fields
abbrev pub IsDeviceLine : DevLine → Type 0
IsDeviceLine (Bus e) = IsEvent e
IsDeviceLine Irq = ⊤
IsDeviceLine Task = ⊤
IsDeviceLine (Call call) = IsCall call

abbrev pub IsLine : Line → Type 0
IsLine (Head line) = IsHead line
IsLine (Device line) = IsDeviceLine line
IsLine End = ⊤

abbrev pub IsScheduled : Scheduled → Type 0
IsScheduled (schedule.Device line) = IsDeviceLine line
IsScheduled schedule.End = ⊤

abbrev pub answer_words : Answer → List (List ℕ)
answer_words (answer.Bus a) = bus_words a
answer_words (answer.Reply reply) = reply_words reply

-- the text of an answer, without the newline that ends it
abbrev pub answer_text : Answer → List ℕ
answer_text a = spaced (answer_words a)
