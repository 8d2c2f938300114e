-- What is done at a request, where its data is told by the place where it lies.
use Rattle.std.specs.Prelude.{◌≤◌, length}
use Rattle.usb_control.specs.declared.found.Found.{Found}
use Rattle.usb_control.specs.declared.found.Found.TheVariants as found
use Rattle.usb_control.specs.declared.state.Choice.{Choice}
use Rattle.usb_control.specs.declared.state.Choice.TheVariants.{Class}
use Rattle.usb_control.specs.Table.{gives, status, stalled}

-- the same with the data itself
abbrev pub choice_of : Found → Choice
choice_of (found.Data bytes) = gives bytes.now
choice_of (found.Status e) = status e
choice_of found.Stall = stalled
choice_of (found.Class o) = Class o

-- data has at most 512 bytes
abbrev pub IsShort : Found → Type 0
IsShort (found.Data bytes) = length bytes.now ≤ 512
IsShort (found.Status e) = Unit {0}
IsShort found.Stall = Unit {0}
IsShort (found.Class o) = Unit {0}
