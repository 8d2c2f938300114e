-- Endpoints with their rings: a serial port and a disk, and a keyboard beside music.
use Rattle.std.specs.Prelude.{◌≡◌, List, [], ◌∷◌}
use Rattle.usb_packet.specs.declared.bus.Owner.TheVariants.{Core, Cdc, Hid, Msc, Midi}
use Rattle.usb_descriptor.specs.declared.endpoint.EpKind.TheVariants.{Bulk, Interrupt}
use Rattle.usb_descriptor.specs.declared.endpoint.Endpoint.{Endpoint}
use Rattle.device_rings.specs.Sizes.{rings_of, empty}

abbrev pub serial_and_disk : List Endpoint
serial_and_disk =
    record { addr = 0x81; kind = Interrupt; size = 16; owner = Cdc }
    ∷ record { addr = 0x01; kind = Bulk; size = 64; owner = Cdc }
    ∷ record { addr = 0x82; kind = Bulk; size = 64; owner = Cdc }
    ∷ record { addr = 0x83; kind = Bulk; size = 64; owner = Msc }
    ∷ record { addr = 0x03; kind = Bulk; size = 64; owner = Msc }
    ∷ []

abbrev pub keyboard_and_music : List Endpoint
keyboard_and_music =
    record { addr = 0x81; kind = Interrupt; size = 8; owner = Hid }
    ∷ record { addr = 0x02; kind = Bulk; size = 64; owner = Midi }
    ∷ record { addr = 0x82; kind = Bulk; size = 64; owner = Midi }
    ∷ record { addr = 0x03; kind = Bulk; size = 64; owner = Core }
    ∷ []

pub record AreSized : Type 0 where
  pub first : rings_of serial_and_disk ≡ record {
    outs = empty 256 ∷ empty 0 ∷ empty 512 ∷ [];
    ins = empty 16 ∷ empty 256 ∷ empty 512 ∷ [];
  }
  pub second : rings_of keyboard_and_music ≡ record {
    outs = empty 0 ∷ empty 256 ∷ empty 0 ∷ [];
    ins = empty 64 ∷ empty 256 ∷ empty 0 ∷ [];
  }
