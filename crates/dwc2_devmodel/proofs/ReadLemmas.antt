-- The registers of which a read changes nothing, and those that stand at 0 where the controller has no such endpoint.
use Rattle.std.proofs.Common.{◌≡◌, ◌≢◌, ℕ, zero, suc, Bool, true, false, None, refl}
use Rattle.std.proofs.lemmas.Bool.{true≢false}
use Rattle.std.specs.Prelude.{◌&&◌, ◌||◌}
use Rattle.device_table.specs.State.{Table, in_end_of}
use Rattle.device_table.specs.Read.{after_read, diepint_word}
use Rattle.device_table.specs.Bus.{packet_ready}
use Rattle.dwc2_state.specs.declared.place.HostRegister.{HostRegister}
use Rattle.dwc2_state.specs.declared.place.HostRegister.TheVariants as host
use Rattle.dwc2_state.specs.declared.place.DeviceRegister.{DeviceRegister}
use Rattle.dwc2_state.specs.declared.place.DeviceRegister.TheVariants as device
use Rattle.dwc2_state.specs.declared.place.ChannelRegister.{ChannelRegister}
use Rattle.dwc2_state.specs.declared.place.ChannelRegister.TheVariants as channel
use Rattle.dwc2_state.specs.declared.place.InRegister.{InRegister}
use Rattle.dwc2_state.specs.declared.place.InRegister.TheVariants as in_side
use Rattle.dwc2_state.specs.declared.place.OutRegister.{OutRegister}
use Rattle.dwc2_state.specs.declared.place.OutRegister.TheVariants as out_side
use Rattle.dwc2_state.specs.Place.{of_host, of_device, of_channel, of_in, of_out}

pub host_stays : (t : Table) (register : HostRegister) → after_read t (of_host register) ≡ t
host_stays t host.Configuration = refl
host_stays t host.Interrupts = refl
host_stays t host.Mask = refl
host_stays t host.Port = refl

pub device_stays : (t : Table) (register : DeviceRegister) → after_read t (of_device register) ≡ t
device_stays t device.Configuration = refl
device_stays t device.Control = refl
device_stays t device.Status = refl
device_stays t device.InMask = refl
device_stays t device.OutMask = refl
device_stays t device.Interrupts = refl
device_stays t device.Mask = refl
device_stays t device.EmptyMask = refl

pub channel_stays : (t : Table) (x : ℕ) (register : ChannelRegister) → after_read t (of_channel x register) ≡ t
channel_stays t x channel.Control = refl
channel_stays t x channel.Interrupts = refl
channel_stays t x channel.Mask = refl
channel_stays t x channel.Size = refl

pub in_stays : (t : Table) (x : ℕ) (register : InRegister) → after_read t (of_in x register) ≡ t
in_stays t x in_side.Control = refl
in_stays t x in_side.Interrupts = refl
in_stays t x in_side.Size = refl
in_stays t x in_side.Space = refl

pub out_stays : (t : Table) (x : ℕ) (register : OutRegister) → after_read t (of_out x register) ≡ t
out_stays t x out_side.Control = refl
out_stays t x out_side.Interrupts = refl
out_stays t x out_side.Size = refl

pub no_interrupts : (x : ℕ) → x ≢ 0 → diepint_word x (in_end_of 0) ≡ 0
no_interrupts zero h = absurd (h refl)
no_interrupts (suc x) h = refl

-- where none of three interrupts is 1, none is under a mask
pub none_raised : (xfrc epdisd stup a b c : Bool) → (xfrc || epdisd || stup) ≡ false → ((xfrc && a) || (epdisd && b) || (stup && c)) ≡ false
none_raised true epdisd stup a b c h = absurd (true≢false h)
none_raised false true stup a b c h = absurd (true≢false h)
none_raised false false true a b c h = absurd (true≢false h)
none_raised false false false a b c h = refl

-- an endpoint that the controller hasn't has no packet
pub no_packet : (x : ℕ) → packet_ready x (in_end_of 0) ≡ None
no_packet zero = refl
no_packet (suc x) = refl
