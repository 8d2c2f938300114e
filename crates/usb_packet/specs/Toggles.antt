-- Data toggles: USB 2.0, 8.6.
use Rattle.std.specs.Prelude.{Bool, true, false}
use Rattle.usb_packet.specs.declared.bus.Toggle.{Toggle}
use Rattle.usb_packet.specs.declared.bus.Toggle.TheVariants.{D0, D1}

-- the toggle of the packet after one of this toggle (8.6.2)
abbrev pub flipped : Toggle → Toggle
flipped D0 = D1
flipped D1 = D0

-- whether two toggles are one: a packet of the other toggle is the one before it again (8.6.4)
abbrev pub same_toggle : Toggle → Toggle → Bool
same_toggle D0 D0 = true
same_toggle D0 D1 = false
same_toggle D1 D0 = false
same_toggle D1 D1 = true
