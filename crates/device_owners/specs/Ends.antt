-- Which endpoints are an owner's pipes, and the owner's pipes among those of the device.
use Rattle.std.specs.Prelude.{ℕ, ◌-◌, Bool, ◌==◌, ◌&&◌, nat_lt, Option, Some, None, find, if◌then◌else◌}
use Rattle.usb_packet.specs.declared.bus.Owner as declared
use Rattle.usb_packet.specs.declared.bus.Owner.TheVariants.{Core, Cdc, Hid, Msc, Midi}
use Rattle.usb_descriptor.specs.declared.endpoint.Endpoint.{Endpoint}
use Rattle.usb_descriptor.specs.declared.endpoint.EpKind.{EpKind}
use Rattle.usb_descriptor.specs.declared.endpoint.EpKind.TheVariants.{Bulk, Interrupt}
use Rattle.usb_descriptor.specs.Set.{Set, endpoints_of, same_owner}
use Rattle.device_rings.specs.Sizes.{ring_size}
use Rattle.usb_pipe.specs.Own.{Own, Sender, Receiver}
use Rattle.device_machine.specs.Pipes.{Pipes, OutSlot, InSlot, out_slot, in_slot, with_out_slot, with_in_slot}

-- the pipe that an endpoint for the host is: a serial port's interrupt endpoint notifies (CDC 1.2, 3.4.1), all others send data
abbrev pub in_pipe : declared.Owner → EpKind → ℕ
in_pipe Cdc Interrupt = 2
in_pipe Cdc Bulk = 0
in_pipe Core kind = 0
in_pipe Hid kind = 0
in_pipe Msc kind = 0
in_pipe Midi kind = 0

-- IN is bit 7 of bEndpointAddress (USB 2.0, 9.6.6)
abbrev pub is_out : Endpoint → Bool
is_out e = nat_lt e.addr 128

abbrev pub pipe_of : Endpoint → ℕ
pipe_of e = if is_out e then 1 else in_pipe e.owner e.kind

abbrev pub is_pipe : declared.Owner → ℕ → Endpoint → Bool
is_pipe o pipe e = same_owner o e.owner && (pipe_of e == pipe)

-- the number of the endpoint, 0 where there is none
abbrev pub number_of : Option Endpoint → ℕ
number_of None = 0
number_of (Some e) = if is_out e then e.addr else e.addr - 128

abbrev pub number_at : Set → declared.Owner → ℕ → ℕ
number_at set o pipe = number_of (find (is_pipe o pipe) (endpoints_of set.config))

-- an endpoint as a pipe: the rings have a size for each
abbrev pub as_sender : InSlot → Sender
as_sender slot = record { size = slot.endpoint.size; capacity = ring_size slot.endpoint; pipe = slot.pipe }

abbrev pub as_receiver : OutSlot → Receiver
as_receiver slot = record { capacity = ring_size slot.endpoint; pipe = slot.pipe }

-- an owner's pipes
abbrev pub own_pipes : Set → declared.Owner → Pipes → Own
own_pipes set o pipes = record {
  sends = as_sender (in_slot pipes (number_at set o 0));
  receives = as_receiver (out_slot pipes (number_at set o 1));
  notifies = as_sender (in_slot pipes (number_at set o 2));
}

-- and put back
abbrev pub with_sends : Pipes → ℕ → Sender → Pipes
with_sends pipes n s = with_in_slot pipes n (record (in_slot pipes n) { pipe = s.pipe })

abbrev pub with_receives : Pipes → ℕ → Receiver → Pipes
with_receives pipes n r = with_out_slot pipes n (record (out_slot pipes n) { pipe = r.pipe })

abbrev pub with_own : Set → declared.Owner → Pipes → Own → Pipes
with_own set o pipes own =
    with_sends (with_receives (with_sends pipes (number_at set o 0) own.sends) (number_at set o 1) own.receives) (number_at set o 2) own.notifies
