-- The register that a place names.
use Rattle.std.specs.Prelude.{ℕ}
use Rattle.dwc2_regs.specs.Register.{Register, grstctl, gintsts, gintmsk, grxstsr, grxstsp, grxfsiz, dieptxf0, hptxfsiz, hcfg, haint, haintmsk, hprt, dcfg, dctl, dsts, diepmsk, doepmsk, daint, daintmsk, diepempmsk, dieptxf, hcchar, hcint, hcintmsk, hctsiz, diepctl, diepint, dieptsiz, dtxfsts, doepctl, doepint, doeptsiz, fifo}
use Rattle.dwc2_state.specs.declared.place.CoreRegister.{CoreRegister}
use Rattle.dwc2_state.specs.declared.place.CoreRegister.TheVariants as core
use Rattle.dwc2_state.specs.declared.place.HostRegister.{HostRegister}
use Rattle.dwc2_state.specs.declared.place.HostRegister.TheVariants as host
use Rattle.dwc2_state.specs.declared.place.DeviceRegister.{DeviceRegister}
use Rattle.dwc2_state.specs.declared.place.DeviceRegister.TheVariants as device
use Rattle.dwc2_state.specs.declared.place.ChannelRegister.{ChannelRegister}
use Rattle.dwc2_state.specs.declared.place.ChannelRegister.TheVariants as channel
use Rattle.dwc2_state.specs.declared.place.InRegister.{InRegister}
use Rattle.dwc2_state.specs.declared.place.InRegister.TheVariants as in_side
use Rattle.dwc2_state.specs.declared.place.OutRegister.{OutRegister}
use Rattle.dwc2_state.specs.declared.place.OutRegister.TheVariants as out_side
use Rattle.dwc2_state.specs.declared.place.Place.{Place}
use Rattle.dwc2_state.specs.declared.place.Place.TheVariants as place

abbrev pub of_core : CoreRegister → Register
of_core core.Reset = grstctl
of_core core.Interrupts = gintsts
of_core core.Mask = gintmsk
of_core core.Status = grxstsr
of_core core.Pop = grxstsp
of_core core.RxSize = grxfsiz
of_core core.TxSize = dieptxf0
of_core core.PeriodicSize = hptxfsiz

abbrev pub of_host : HostRegister → Register
of_host host.Configuration = hcfg
of_host host.Interrupts = haint
of_host host.Mask = haintmsk
of_host host.Port = hprt

abbrev pub of_device : DeviceRegister → Register
of_device device.Configuration = dcfg
of_device device.Control = dctl
of_device device.Status = dsts
of_device device.InMask = diepmsk
of_device device.OutMask = doepmsk
of_device device.Interrupts = daint
of_device device.Mask = daintmsk
of_device device.EmptyMask = diepempmsk

abbrev pub of_channel : ℕ → ChannelRegister → Register
of_channel x channel.Control = hcchar x
of_channel x channel.Interrupts = hcint x
of_channel x channel.Mask = hcintmsk x
of_channel x channel.Size = hctsiz x

abbrev pub of_in : ℕ → InRegister → Register
of_in x in_side.Control = diepctl x
of_in x in_side.Interrupts = diepint x
of_in x in_side.Size = dieptsiz x
of_in x in_side.Space = dtxfsts x

abbrev pub of_out : ℕ → OutRegister → Register
of_out x out_side.Control = doepctl x
of_out x out_side.Interrupts = doepint x
of_out x out_side.Size = doeptsiz x

abbrev pub register_of : Place → Register
register_of (place.Core register) = of_core register
register_of (place.TxSize x) = dieptxf x
register_of (place.Host register) = of_host register
register_of (place.Channel x register) = of_channel x register
register_of (place.Device register) = of_device register
register_of (place.In x register) = of_in x register
register_of (place.Out x register) = of_out x register
register_of (place.Window x) = fifo x
