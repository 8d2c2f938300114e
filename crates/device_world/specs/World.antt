-- The world of a device: its descriptors, what the class of each owner does, and what each holds at the start.
use Rattle.std.specs.Prelude.{ℕ, List, [], Option, Some, None, Result, Ok, Err}
use Rattle.usb_packet.specs.declared.bus.Owner as declared
use Rattle.usb_packet.specs.declared.bus.Owner.TheVariants.{Core, Cdc, Hid, Msc, Midi}
use Rattle.usb_descriptor.specs.Set.{Set, interface_of}
use Rattle.usb_pipe.specs.Rules.{Rules, no_class}
use Rattle.usb_pipe.specs.Classes.{Classes}
use Rattle.device_owners.specs.Calls.{Calls, no_calls}
use Rattle.device_owners.specs.Device.{World}
use Rattle.hid_items.specs.declared.ReportLen.{ReportLen}
use Rattle.hid_items.specs.declared.ItemFault.{ItemFault}
use Rattle.hid_items.specs.Lengths.{lengths_of}
use Rattle.cdc_device_machine.specs.Port as cdc
use Rattle.hid_device_machine.specs.Device as hid
use Rattle.midi_device_machine.specs.Port as midi
use Rattle.device_world.specs.State.{State, Absent, Serial, Human, Music}
use Rattle.device_world.specs.Serial.{serial_rules, serial_calls}
use Rattle.device_world.specs.Human.{human_rules, human_calls}
use Rattle.device_world.specs.Music.{music_rules, music_calls}

-- what the class of an owner does by itself, and at an application's call
abbrev pub rules : declared.Owner → Rules State
rules Core = no_class
rules Cdc = serial_rules
rules Hid = human_rules
rules Msc = no_class
rules Midi = music_rules

abbrev pub calls : declared.Owner → Calls State
calls Core = no_calls
calls Cdc = serial_calls
calls Hid = human_calls
calls Msc = no_calls
calls Midi = music_calls

-- the number of an interface, 0 where there is none: then no request names the class, and it has no pipes
abbrev pub number_or_zero : Option ℕ → ℕ
number_or_zero None = 0
number_or_zero (Some n) = n

-- the serial port at the start, by the number of its communications interface (CDC 1.2, 3.4)
abbrev pub first_serial : Set → cdc.Serial
first_serial set = record { interface = number_or_zero (interface_of set.config Cdc); port = cdc.first }

-- the lengths of the reports of a report descriptor; without a right one there are none
abbrev pub right_lengths : Result (List ReportLen) ItemFault → List ReportLen
right_lengths (Ok lengths) = lengths
right_lengths (Err fault) = []

abbrev pub lengths_in : Option (List ℕ) → List ReportLen
lengths_in None = []
lengths_in (Some bytes) = right_lengths (lengths_of bytes)

abbrev pub first : Set → Classes State
first set = record {
  core = Absent;
  cdc = Serial (first_serial set);
  hid = Human (hid.first (lengths_in set.report));
  msc = Absent;
  midi = Music midi.first;
}

-- `blocks` are those of its disk, where it has one, 0 to 2^32 - 1. No class reads them yet.
abbrev pub world_of : Set → Option ℕ → World State
world_of set blocks = record { set = set; rules = rules; calls = calls; first = first set }
