-- The pipes of a device on its endpoints other than 0, by number in each direction, each with its endpoint as it was opened:
-- USB 2.0, 5.3.2, 8.4.5, 8.6, 9.1.1.5 and 9.4.5.
use Rattle.std.specs.Prelude.{ℕ, zero, suc, ◌+◌, ◌-◌, List, [], ◌∷◌, ◌++◌, Bool, true, false, not, ◌&&◌, nat_lt, nat_le, length, map, replicate, slice_index_or, slice_set, if◌then◌else◌}
use Rattle.usb_packet.specs.declared.bus.Toggle.{Toggle}
use Rattle.usb_packet.specs.declared.bus.BusAnswer.{BusAnswer}
use Rattle.usb_packet.specs.declared.bus.BusAnswer.TheVariants as answers
use Rattle.usb_packet.specs.declared.bus.Owner.{Owner}
use Rattle.usb_packet.specs.declared.bus.Owner.TheVariants.{Core}
use Rattle.usb_descriptor.specs.declared.endpoint.Endpoint.{Endpoint}
use Rattle.usb_descriptor.specs.declared.endpoint.EpKind.TheVariants.{Bulk}
use Rattle.usb_descriptor.specs.Set.{is_core}
use Rattle.device_pipe.specs.OutPipe as out
use Rattle.device_pipe.specs.OutPipe.{OutPipe, OutPhase, out_answer}
use Rattle.device_pipe.specs.InPipe as inward
use Rattle.device_pipe.specs.InPipe.{InPipe, in_answer}

-- the endpoint where none is open
abbrev pub no_endpoint : Endpoint
no_endpoint = record { addr = 0; kind = Bulk; size = 0; owner = Core }

-- an endpoint for packets from the host, and one for the host
pub record OutSlot : Type 0 where
  -- as a session opened it
  pub endpoint : Endpoint
  pub pipe : OutPipe

pub record InSlot : Type 0 where
  -- as a session opened it
  pub endpoint : Endpoint
  pub pipe : InPipe

-- each direction's, from number 1 on
pub record Pipes : Type 0 where
  pub outs : List OutSlot
  pub ins : List InSlot

-- An endpoint other than 0 has a number from 1 to 15 (9.6.6).
abbrev pub top_number : ℕ
top_number = 15

abbrev pub no_out_slot : OutSlot
no_out_slot = record { endpoint = no_endpoint; pipe = out.unopened }

abbrev pub no_in_slot : InSlot
no_in_slot = record { endpoint = no_endpoint; pipe = inward.closed }

-- at the start, and after the handler run that serves a bus reset
abbrev pub pipes_unopened : Pipes
pipes_unopened = record { outs = replicate top_number no_out_slot; ins = replicate top_number no_in_slot }

-- the endpoint of a number from 1 on
abbrev pub out_slot : Pipes → ℕ → OutSlot
out_slot pipes zero = no_out_slot
out_slot pipes (suc n) = slice_index_or pipes.outs n no_out_slot

abbrev pub in_slot : Pipes → ℕ → InSlot
in_slot pipes zero = no_in_slot
in_slot pipes (suc n) = slice_index_or pipes.ins n no_in_slot

-- with another state of that endpoint
abbrev pub with_out_slot : Pipes → ℕ → OutSlot → Pipes
with_out_slot pipes zero slot = pipes
with_out_slot pipes (suc n) slot = record pipes { outs = slice_set pipes.outs n slot }

abbrev pub with_in_slot : Pipes → ℕ → InSlot → Pipes
with_in_slot pipes zero slot = pipes
with_in_slot pipes (suc n) slot = record pipes { ins = slice_set pipes.ins n slot }

-- and of the one at an address, whose bit 7 says IN and whose bits 3 to 0 have the number (9.6.6)
abbrev pub changed_at : (OutSlot → OutSlot) → (InSlot → InSlot) → Pipes → ℕ → Pipes
changed_at f g pipes address =
    if nat_lt address 128
    then with_out_slot pipes address (f (out_slot pipes address))
    else with_in_slot pipes (address - 128) (g (in_slot pipes (address - 128)))

-- On the bus.

abbrev pub is_out_open : OutPhase → Bool
is_out_open (out.Closed over) = false
is_out_open out.Rest = true
is_out_open out.Armed = true
is_out_open (out.Landed packet) = true
is_out_open out.Posted = true
is_out_open out.Stale = true

-- an endpoint that isn't open hears nothing, and one that is open no packet that is longer than its own
abbrev pub out_hears : OutSlot → ℕ → Bool
out_hears slot bytes = is_out_open slot.pipe.phase && nat_le bytes slot.endpoint.size

abbrev pub in_hears : InSlot → Bool
in_hears slot = not (inward.is_closed slot.pipe.phase)

-- whether the endpoint at an address is open
abbrev pub is_open_at : Pipes → ℕ → Bool
is_open_at pipes address =
    if nat_lt address 128 then is_out_open (out_slot pipes address).pipe.phase else in_hears (in_slot pipes (address - 128))

-- an endpoint of the core has nothing to take or to give, and answers NAK, halted or not
abbrev pub unless_core : Owner → BusAnswer → BusAnswer
unless_core owner answer = if is_core owner then answers.Nak else answer

-- the answer to an undamaged packet of so many bytes, and to a token
abbrev pub out_slot_answer : OutSlot → ℕ → BusAnswer
out_slot_answer slot bytes = if out_hears slot bytes then unless_core slot.endpoint.owner (out_answer slot.pipe) else answers.NoAnswer

abbrev pub in_slot_answer : InSlot → BusAnswer
in_slot_answer slot = if in_hears slot then unless_core slot.endpoint.owner (in_answer slot.pipe) else answers.NoAnswer

-- the endpoint after it
abbrev pub out_slot_after : OutSlot → Toggle → List ℕ → OutSlot
out_slot_after slot toggle packet = if out_hears slot (length packet) then record slot { pipe = out.after_packet slot.pipe toggle packet } else slot

abbrev pub in_slot_after : InSlot → Bool → InSlot
in_slot_after slot ok = if in_hears slot then record slot { pipe = inward.after_token slot.pipe ok } else slot

-- Handler runs and task runs.

abbrev pub out_slot_after_irq : OutSlot → OutSlot
out_slot_after_irq slot = record slot { pipe = out.after_irq slot.pipe }

abbrev pub in_slot_after_irq : InSlot → InSlot
in_slot_after_irq slot = record slot { pipe = inward.after_irq slot.pipe }

abbrev pub pipes_after_irq : Pipes → Pipes
pipes_after_irq pipes = record { outs = map out_slot_after_irq pipes.outs; ins = map in_slot_after_irq pipes.ins }

abbrev pub out_slot_after_task : OutSlot → OutSlot
out_slot_after_task slot = record slot { pipe = out.after_task slot.pipe }

abbrev pub in_slot_after_task : InSlot → InSlot
in_slot_after_task slot = record slot { pipe = inward.after_task slot.pipe }

abbrev pub pipes_after_task : Pipes → Pipes
pipes_after_task pipes = record { outs = map out_slot_after_task pipes.outs; ins = map in_slot_after_task pipes.ins }

-- Sessions (9.1.1.5).

-- a session ends
abbrev pub out_closed : OutSlot → OutSlot
out_closed slot = record { endpoint = no_endpoint; pipe = out.closed slot.pipe }

abbrev pub in_closed : InSlot → InSlot
in_closed slot = no_in_slot

abbrev pub pipes_closed : Pipes → Pipes
pipes_closed pipes = record { outs = map out_closed pipes.outs; ins = map in_closed pipes.ins }

-- and one begins with these endpoints
abbrev pub out_opened : Endpoint → OutSlot → OutSlot
out_opened e slot = record { endpoint = e; pipe = out.opened slot.pipe }

abbrev pub in_opened : Endpoint → InSlot → InSlot
in_opened e slot = record { endpoint = e; pipe = inward.opened }

abbrev pub with_endpoint_open : Pipes → Endpoint → Pipes
with_endpoint_open pipes e = changed_at (out_opened e) (in_opened e) pipes e.addr

abbrev pub with_endpoints_open : Pipes → List Endpoint → Pipes
with_endpoints_open pipes [] = pipes
with_endpoints_open pipes (e ∷ es) = with_endpoints_open (with_endpoint_open pipes e) es

abbrev pub session_pipes : List Endpoint → Pipes → Pipes
session_pipes endpoints pipes = with_endpoints_open (pipes_closed pipes) endpoints

-- Halts (9.4.1, 9.4.5, 9.4.9 and 9.4.10): of an endpoint that is open.

abbrev pub out_halted : OutSlot → OutSlot
out_halted slot = if is_out_open slot.pipe.phase then record slot { pipe = out.halted_ slot.pipe } else slot

abbrev pub in_halted : InSlot → InSlot
in_halted slot = if in_hears slot then record slot { pipe = inward.halted_ slot.pipe } else slot

abbrev pub out_cleared : OutSlot → OutSlot
out_cleared slot = if is_out_open slot.pipe.phase then record slot { pipe = out.cleared slot.pipe } else slot

abbrev pub in_cleared : InSlot → InSlot
in_cleared slot = if in_hears slot then record slot { pipe = inward.cleared slot.pipe } else slot

-- the halt of the endpoint at an address
abbrev pub with_halt : Pipes → ℕ → Pipes
with_halt pipes address = changed_at out_halted in_halted pipes address

-- its end
abbrev pub without_halt : Pipes → ℕ → Pipes
without_halt pipes address = changed_at out_cleared in_cleared pipes address

-- the end of the halts of those of some endpoints that are named
abbrev pub without_halt_if : Bool → Pipes → ℕ → Pipes
without_halt_if named pipes address = if named then without_halt pipes address else pipes

abbrev pub without_halts : (ℕ → Bool) → Pipes → List Endpoint → Pipes
without_halts named pipes [] = pipes
without_halts named pipes (e ∷ es) = without_halts named (without_halt_if (named e.addr) pipes e.addr) es

-- the addresses of those of a list that are halted, where the first has this one
abbrev pub addresses_of : ℕ → List Bool → List ℕ
addresses_of address [] = []
addresses_of address (halted ∷ rest) = if halted then address ∷ addresses_of (address + 1) rest else addresses_of (address + 1) rest

-- the addresses of the halted endpoints, ascending
abbrev pub halted_addresses : Pipes → List ℕ
halted_addresses pipes = addresses_of 1 (map (λ slot. slot.pipe.halted) pipes.outs) ++ addresses_of 129 (map (λ slot. slot.pipe.halted) pipes.ins)
