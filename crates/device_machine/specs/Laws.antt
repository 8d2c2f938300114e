-- What the pipes of a device are as a whole: which are open, that each moves alone, and what each answers.
use Rattle.std.specs.Prelude.{◌≡◌, ◌≢◌, ◌⊎◌, ℕ, suc, ◌+◌, ◌<◌, ◌≤◌, List, [], ◌∷◌, ◌==◌, Bool, true, false, length, if◌then◌else◌}
use Rattle.std.specs.List.{list_any}
use Rattle.usb_descriptor.specs.declared.endpoint.Endpoint.{Endpoint}
use Rattle.usb_descriptor.specs.Set.{is_addressed, is_core}
use Rattle.usb_packet.specs.declared.bus.Toggle.{Toggle}
use Rattle.usb_packet.specs.declared.bus.BusAnswer.TheVariants as answers
use Rattle.usb_packet.specs.declared.bus.BusEvent.TheVariants as event
use Rattle.device_pipe.specs.OutPipe as out
use Rattle.device_pipe.specs.InPipe as inward
use Rattle.device_machine.specs.Pipes.{Pipes, OutSlot, InSlot, out_slot_answer, in_slot_answer, top_number, no_endpoint, out_slot, in_slot, is_out_open, out_hears, in_hears, pipes_after_irq, pipes_after_task}
use Rattle.device_machine.specs.Bus.{Bus, hears, hears_packet, pipes_after}

-- the endpoint that some have at an address, the last one where several do; `none` where none does
abbrev pub endpoint_at : ℕ → Endpoint → List Endpoint → Endpoint
endpoint_at address none [] = none
endpoint_at address none (e ∷ es) = endpoint_at address (if e.addr == address then e else none) es

-- each endpoint other than 0 is open exactly where these have one at its address, and as they have it (9.6.6)
pub record IsOutOf (endpoints : List Endpoint) (pipes : Pipes) (n : ℕ) : Type 0 where
  pub endpoint : (out_slot pipes (suc n)).endpoint ≡ endpoint_at (suc n) no_endpoint endpoints
  pub opens : is_out_open (out_slot pipes (suc n)).pipe.phase ≡ list_any (is_addressed (suc n)) endpoints

pub record IsInOf (endpoints : List Endpoint) (pipes : Pipes) (n : ℕ) : Type 0 where
  pub endpoint : (in_slot pipes (suc n)).endpoint ≡ endpoint_at (128 + suc n) no_endpoint endpoints
  pub opens : in_hears (in_slot pipes (suc n)) ≡ list_any (is_addressed (128 + suc n)) endpoints

pub record AreOf (endpoints : List Endpoint) (pipes : Pipes) : Type 0 where
  pub outs : (n : ℕ) → n < top_number → IsOutOf endpoints pipes n
  pub ins : (n : ℕ) → n < top_number → IsInOf endpoints pipes n
  pub outs_count : length pipes.outs ≡ top_number
  pub ins_count : length pipes.ins ≡ top_number

-- A packet on one endpoint leaves the others: those with another number, and all of the other direction.
pub record Apart (bus : Bus) (pipes : Pipes) : Type 0 where
  pub output : (addr ep n : ℕ) (toggle : Toggle) (packet : List ℕ) (ok : Bool) → n ≢ ep → out_slot (pipes_after bus pipes (event.Out addr ep toggle packet ok)) n ≡ out_slot pipes n
  pub output_in : (addr ep : ℕ) (toggle : Toggle) (packet : List ℕ) (ok : Bool) → (pipes_after bus pipes (event.Out addr ep toggle packet ok)).ins ≡ pipes.ins
  pub input : (addr ep n : ℕ) (ok : Bool) → n ≢ ep → in_slot (pipes_after bus pipes (event.In addr ep ok)) n ≡ in_slot pipes n
  pub input_out : (addr ep : ℕ) (ok : Bool) → (pipes_after bus pipes (event.In addr ep ok)).outs ≡ pipes.outs

-- A packet that is heard moves the pipe of its endpoint, as the pipe says; one that isn't heard moves none.
pub record Moves (bus : Bus) (pipes : Pipes) : Type 0 where
  pub output : (addr n : ℕ) (toggle : Toggle) (packet : List ℕ) (ok : Bool) → n < length pipes.outs → hears_packet bus addr ok ≡ true → out_hears (out_slot pipes (suc n)) (length packet) ≡ true
      → (out_slot (pipes_after bus pipes (event.Out addr (suc n) toggle packet ok)) (suc n)).pipe ≡ out.after_packet (out_slot pipes (suc n)).pipe toggle packet
  pub input : (addr n : ℕ) (ok : Bool) → n < length pipes.ins → hears bus addr ≡ true → in_hears (in_slot pipes (suc n)) ≡ true
      → (in_slot (pipes_after bus pipes (event.In addr (suc n) ok)) (suc n)).pipe ≡ inward.after_token (in_slot pipes (suc n)).pipe ok
  pub unheard : (addr ep : ℕ) (toggle : Toggle) (packet : List ℕ) (ok : Bool) → hears_packet bus addr ok ≡ false → pipes_after bus pipes (event.Out addr ep toggle packet ok) ≡ pipes
  pub unheard_token : (addr ep : ℕ) (ok : Bool) → hears bus addr ≡ false → pipes_after bus pipes (event.In addr ep ok) ≡ pipes
  -- a SETUP is endpoint 0's, and a reset waits for the handler run that serves it
  pub setup : (addr : ℕ) (bytes : List ℕ) (ok : Bool) → pipes_after bus pipes (event.Setup addr bytes ok) ≡ pipes
  pub reset : pipes_after bus pipes event.Reset ≡ pipes

-- What an endpoint other than 0 answers where the device hears the packet: nothing where it isn't open, or the packet is longer than
-- its own; NAK where it is the core's, halted or not; else what its pipe answers (8.4.5).
pub record Answers (slot : OutSlot) (bytes : ℕ) : Type 0 where
  pub shut : is_out_open slot.pipe.phase ≡ false → out_slot_answer slot bytes ≡ answers.NoAnswer
  pub long : slot.endpoint.size < bytes → out_slot_answer slot bytes ≡ answers.NoAnswer
  pub core : is_out_open slot.pipe.phase ≡ true → bytes ≤ slot.endpoint.size → is_core slot.endpoint.owner ≡ true → out_slot_answer slot bytes ≡ answers.Nak
  pub pipe : is_out_open slot.pipe.phase ≡ true → bytes ≤ slot.endpoint.size → is_core slot.endpoint.owner ≡ false → out_slot_answer slot bytes ≡ out.out_answer slot.pipe

pub record AnswersToken (slot : InSlot) : Type 0 where
  pub shut : inward.is_closed slot.pipe.phase ≡ true → in_slot_answer slot ≡ answers.NoAnswer
  pub core : inward.is_closed slot.pipe.phase ≡ false → is_core slot.endpoint.owner ≡ true → in_slot_answer slot ≡ answers.Nak
  pub pipe : inward.is_closed slot.pipe.phase ≡ false → is_core slot.endpoint.owner ≡ false → in_slot_answer slot ≡ inward.in_answer slot.pipe

-- A handler run serves every pipe, and a task takes the note of every pipe.
pub record Serves (pipes : Pipes) : Type 0 where
  pub irq_out : (n : ℕ) → (out_slot (pipes_after_irq pipes) n).pipe ≡ out.after_irq (out_slot pipes n).pipe
  pub irq_in : (n : ℕ) → (in_slot (pipes_after_irq pipes) n).pipe ≡ inward.after_irq (in_slot pipes n).pipe
  pub task_out : (n : ℕ) → (out_slot (pipes_after_task pipes) n).pipe ≡ out.after_task (out_slot pipes n).pipe
  pub task_in : (n : ℕ) → (in_slot (pipes_after_task pipes) n).pipe ≡ inward.after_task (in_slot pipes n).pipe

-- an address of an endpoint other than 0 (9.6.6)
abbrev pub IsAddress : ℕ → Type 0
IsAddress address = ((n : ℕ) × (n < top_number) × (address ≡ suc n)) ⊎ ((n : ℕ) × (n < top_number) × (address ≡ 128 + suc n))
