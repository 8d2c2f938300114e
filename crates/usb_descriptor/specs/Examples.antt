-- To whom the endpoints and the interfaces of worked configurations belong, where every class is built.
use Rattle.std.specs.Prelude.{◌≡◌, ℕ, List, [], ◌∷◌, map}
use Rattle.usb_packet.specs.declared.bus.Owner.{Owner}
use Rattle.usb_packet.specs.declared.bus.Owner.TheVariants.{Core, Cdc, Hid, Msc, Midi}
use Rattle.descriptor_groups.specs.Examples.{data_first, serial_and_storage, two_serials, hid_and_midi, every}
use Rattle.usb_descriptor.specs.declared.endpoint.Endpoint.{Endpoint}
use Rattle.usb_descriptor.specs.declared.endpoint.Interface.{Interface}
use Rattle.usb_descriptor.specs.Owners.{endpoints_with, interfaces_with}

-- the owner of each endpoint, beside its address, and of each interface, beside its number
abbrev pub endpoint_owners : List ℕ → List (ℕ × Owner)
endpoint_owners config = map (λ (e : Endpoint). (e.addr, e.owner)) (endpoints_with every config)

abbrev pub interface_owners : List ℕ → List (ℕ × Owner)
interface_owners config = map (λ (i : Interface). (i.number, i.owner)) (interfaces_with every config)

-- a vendor's interface with an endpoint between two of mass storage, and an endpoint before them all
abbrev pub vendor_between : List ℕ
vendor_between =
    9 ∷ 2 ∷ 71 ∷ 0 ∷ 3 ∷ 1 ∷ 0 ∷ 128 ∷ 50
    ∷ 7 ∷ 5 ∷ 0x83 ∷ 2 ∷ 64 ∷ 0 ∷ 0
    ∷ 9 ∷ 4 ∷ 0 ∷ 0 ∷ 1 ∷ 8 ∷ 6 ∷ 80 ∷ 0
    ∷ 7 ∷ 5 ∷ 0x81 ∷ 2 ∷ 64 ∷ 0 ∷ 0
    ∷ 9 ∷ 4 ∷ 1 ∷ 0 ∷ 1 ∷ 255 ∷ 6 ∷ 80 ∷ 0
    ∷ 7 ∷ 5 ∷ 0x01 ∷ 2 ∷ 64 ∷ 0 ∷ 0
    ∷ 9 ∷ 4 ∷ 2 ∷ 0 ∷ 2 ∷ 8 ∷ 6 ∷ 80 ∷ 0
    ∷ 7 ∷ 5 ∷ 0x02 ∷ 2 ∷ 64 ∷ 0 ∷ 0
    ∷ 7 ∷ 5 ∷ 0x82 ∷ 2 ∷ 64 ∷ 0 ∷ 0 ∷ []

pub record OwnersWorked : Type 0 where
  pub data_first_endpoints : endpoint_owners data_first ≡ (0x01, Cdc) ∷ (0x82, Cdc) ∷ (0x81, Cdc) ∷ []
  pub data_first_interfaces : interface_owners data_first ≡ (0, Cdc) ∷ (1, Cdc) ∷ []
  pub serial_and_storage_endpoints :
      endpoint_owners serial_and_storage ≡ (0x81, Cdc) ∷ (0x01, Cdc) ∷ (0x82, Cdc) ∷ (0x02, Msc) ∷ (0x83, Msc) ∷ []
  pub serial_and_storage_interfaces : interface_owners serial_and_storage ≡ (0, Cdc) ∷ (1, Cdc) ∷ (2, Msc) ∷ []
  pub two_serials_endpoints : endpoint_owners two_serials ≡ (0x81, Cdc) ∷ (0x82, Core) ∷ (0x02, Cdc) ∷ (0x83, Cdc) ∷ []
  pub two_serials_interfaces : interface_owners two_serials ≡ (0, Core) ∷ (1, Cdc) ∷ (2, Core) ∷ (3, Core) ∷ (4, Cdc) ∷ []
  pub hid_and_midi_endpoints : endpoint_owners hid_and_midi ≡ (0x02, Midi) ∷ (0x81, Midi) ∷ (0x82, Hid) ∷ []
  pub hid_and_midi_interfaces : interface_owners hid_and_midi ≡ (0, Core) ∷ (1, Midi) ∷ (2, Hid) ∷ []
  pub vendor_between_endpoints :
      endpoint_owners vendor_between ≡ (0x83, Core) ∷ (0x81, Msc) ∷ (0x01, Core) ∷ (0x02, Core) ∷ (0x82, Core) ∷ []
