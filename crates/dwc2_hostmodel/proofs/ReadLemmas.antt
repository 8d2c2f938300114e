-- The registers of which a read changes nothing, and the entry that a read pops.
use Rattle.std.proofs.Common.{◌≡◌, ℕ, List, [], ◌∷◌, refl}
use Rattle.dwc2_fifo.specs.Rx.{Entry, first_status, popped}
use Rattle.host_table.specs.State.{Table}
use Rattle.host_table.specs.Read.{after_read, entry_popped, end_popped}
use Rattle.dwc2_state.specs.declared.place.HostRegister.{HostRegister}
use Rattle.dwc2_state.specs.declared.place.HostRegister.TheVariants as host
use Rattle.dwc2_state.specs.declared.place.DeviceRegister.{DeviceRegister}
use Rattle.dwc2_state.specs.declared.place.DeviceRegister.TheVariants as device
use Rattle.dwc2_state.specs.declared.place.ChannelRegister.{ChannelRegister}
use Rattle.dwc2_state.specs.declared.place.ChannelRegister.TheVariants as channel
use Rattle.dwc2_state.specs.declared.place.InRegister.{InRegister}
use Rattle.dwc2_state.specs.declared.place.InRegister.TheVariants as in_side
use Rattle.dwc2_state.specs.declared.place.OutRegister.{OutRegister}
use Rattle.dwc2_state.specs.declared.place.OutRegister.TheVariants as out_side
use Rattle.dwc2_state.specs.Place.{of_host, of_device, of_channel, of_in, of_out}

pub host_stays : (t : Table) (register : HostRegister) → after_read t (of_host register) ≡ t
host_stays t host.Configuration = refl
host_stays t host.Interrupts = refl
host_stays t host.Mask = refl
host_stays t host.Port = refl

pub device_stays : (t : Table) (register : DeviceRegister) → after_read t (of_device register) ≡ t
device_stays t device.Configuration = refl
device_stays t device.Control = refl
device_stays t device.Status = refl
device_stays t device.InMask = refl
device_stays t device.OutMask = refl
device_stays t device.Interrupts = refl
device_stays t device.Mask = refl
device_stays t device.EmptyMask = refl

pub channel_stays : (t : Table) (x : ℕ) (register : ChannelRegister) → after_read t (of_channel x register) ≡ t
channel_stays t x channel.Control = refl
channel_stays t x channel.Interrupts = refl
channel_stays t x channel.Mask = refl
channel_stays t x channel.Size = refl

pub in_stays : (t : Table) (x : ℕ) (register : InRegister) → after_read t (of_in x register) ≡ t
in_stays t x in_side.Control = refl
in_stays t x in_side.Interrupts = refl
in_stays t x in_side.Size = refl
in_stays t x in_side.Space = refl

pub out_stays : (t : Table) (x : ℕ) (register : OutRegister) → after_read t (of_out x register) ≡ t
out_stays t x out_side.Control = refl
out_stays t x out_side.Interrupts = refl
out_stays t x out_side.Size = refl

popped_from : (t : Table) (entries : List Entry) → t.rx.entries ≡ entries
    → entry_popped t t.rx.entries ≡ end_popped (record t { rx = popped t.rx }) (first_status entries)
popped_from t [] h = rw h refl
popped_from t (entry ∷ entries) h = rw h refl

pub entry_popped_is : (t : Table) → entry_popped t t.rx.entries ≡ end_popped (record t { rx = popped t.rx }) (first_status t.rx.entries)
entry_popped_is t = popped_from t t.rx.entries refl
