-- What a write of a register of one channel or endpoint changes in it.
use Rattle.std.specs.Prelude.{ℕ, Bool}
use Rattle.device_table.specs.State.{Channel, InEnd, OutEnd}
use Rattle.device_table.specs.Write.{hcchar_written, in_control_written, in_interrupts_written, in_tsiz_written, out_control_written, out_interrupts_written}
use Rattle.dwc2_state.specs.declared.place.ChannelRegister.{ChannelRegister}
use Rattle.dwc2_state.specs.declared.place.ChannelRegister.TheVariants as channel
use Rattle.dwc2_state.specs.declared.place.InRegister.{InRegister}
use Rattle.dwc2_state.specs.declared.place.InRegister.TheVariants as in_side
use Rattle.dwc2_state.specs.declared.place.OutRegister.{OutRegister}
use Rattle.dwc2_state.specs.declared.place.OutRegister.TheVariants as out_side

abbrev pub channel_written : ChannelRegister → ℕ → Channel → Channel
channel_written channel.Control word old = record old { hcchar = hcchar_written old.hcchar word }
channel_written channel.Interrupts word old = old
channel_written channel.Mask word old = record old { hcintmsk = word }
channel_written channel.Size word old = record old { hctsiz = word }

abbrev pub in_written : ℕ → Bool → InRegister → ℕ → InEnd → InEnd
in_written number acts in_side.Control word end = in_control_written acts end word
in_written number acts in_side.Interrupts word end = in_interrupts_written end word
in_written number acts in_side.Size word end = in_tsiz_written number end word
in_written number acts in_side.Space word end = end

abbrev pub out_written : Bool → OutRegister → ℕ → OutEnd → OutEnd
out_written acts out_side.Control word end = out_control_written acts end word
out_written acts out_side.Interrupts word end = out_interrupts_written end word
out_written acts out_side.Size word end = record end { tsiz = word }
