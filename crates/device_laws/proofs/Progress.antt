-- Where a control read stands, and what each step makes of it.
use Rattle.std.proofs.Common.{◌≡◌, ℕ, zero, suc, List, [], ◌∷◌, ◌++◌, false, length, replicate, if◌then◌else◌, Option, Some, None, refl, sym, ap, ◌∙◌}
use Rattle.usb_packet.specs.declared.bus.Toggle.{Toggle}
use Rattle.usb_packet.specs.declared.bus.Toggle.TheVariants.{D0, D1}
use Rattle.usb_packet.specs.declared.bus.BusAnswer.TheVariants as answers
use Rattle.usb_packet.specs.Setup.{fields_of}
use Rattle.usb_packet.specs.Toggles.{flipped}
use Rattle.usb_pipe.specs.declared.decision.Decision.TheVariants.{Data}
use Rattle.usb_descriptor.specs.Set.{Set}
use Rattle.usb_control.specs.declared.state.Effect.TheVariants as effect
use Rattle.usb_control.specs.declared.state.Choice.TheVariants.{Own}
use Rattle.usb_control.specs.Table.{choice}
use Rattle.device_machine.specs.declared.control.Stage.{Stage}
use Rattle.device_machine.specs.declared.control.Stage.TheVariants.{Sent}
use Rattle.device_machine.specs.declared.control.Side.{Side}
use Rattle.device_machine.specs.declared.control.Side.TheVariants.{Off, Wait, Loaded, Last, Armed, Finished}
use Rattle.device_machine.specs.Bus.{is_empty, finished_stage, last_of}
use Rattle.usb_pipe.specs.Classes.{Classes}
use Rattle.device_line.specs.declared.line.DevLine.{DevLine}
use Rattle.device_line.specs.declared.line.DevLine.TheVariants.{Task}
use Rattle.device_machine.specs.Pipes.{Pipes, halted_addresses}
use Rattle.device_owners.specs.Device.{World, Device, Core, Transfer, Sending, core_state, new_address}
use Rattle.device_owners.specs.Lines.{whole, after_lines}
use Rattle.device_laws.proofs.Whole.{of_parts}
use Rattle.device_laws.specs.Reading.{Host, takes, gets, toggle_at}

-- a device with a SETUP that no task has taken
abbrev pub starting : Core → List (List ℕ) → Side → Option Stage → Option (List ℕ) → Transfer → Core
starting base unserved side stage request transfer = record base {
  bus = record base.bus { reset = false; unserved = unserved; side = side; toggle = D1 };
  finished = stage;
  request = request;
  transfer = transfer;
}

-- a device in the data stage
abbrev pub running : Core → Side → Option Stage → List (List ℕ) → Toggle → Core
running base side stage rest toggle = record base {
  bus = record base.bus { reset = false; unserved = []; side = side; toggle = toggle };
  finished = stage;
  request = None;
  transfer = Sending rest;
}

abbrev pub host_of : List (List ℕ) → Host
host_of took = record { expects = toggle_at (length took); took = took }

-- a packet that is loaded, with these behind it
abbrev pub ready : List ℕ → List (List ℕ) → Side
ready packet rest = if is_empty rest then Last packet else Loaded packet

abbrev pub Decides : Set → List ℕ → List ℕ → Core → Type 0
Decides set setup bytes base = choice set (core_state base) (fields_of setup) ≡ Own (Data (record { items = bytes })) effect.None

-- where a data stage stands, whatever the request is
pub data Running (packets : List (List ℕ)) : Core → Host → Type 0 where
  -- a packet waits for a handler run
  waits : (base : Core) (took : List (List ℕ)) (packet : List ℕ) (rest : List (List ℕ)) → packets ≡ took ++ packet ∷ rest
      → Running packets (running base (Wait packet (is_empty rest)) None rest (toggle_at (length took))) (host_of took)
  -- it is loaded, and the host lacks it; or has it, and its acknowledgement was lost
  lacks : (base : Core) (took : List (List ℕ)) (packet : List ℕ) (rest : List (List ℕ)) → packets ≡ took ++ packet ∷ rest
      → Running packets (running base (ready packet rest) None rest (toggle_at (length took))) (host_of took)
  has : (base : Core) (took : List (List ℕ)) (packet : List ℕ) (rest : List (List ℕ)) → packets ≡ (took ++ packet ∷ []) ++ rest
      → Running packets (running base (ready packet rest) None rest (toggle_at (length took))) (host_of (took ++ packet ∷ []))
  -- the host acknowledged it; a handler run noted that; and it was the last one
  sent : (base : Core) (took : List (List ℕ)) (next : List ℕ) (rest : List (List ℕ)) → packets ≡ took ++ next ∷ rest
      → Running packets (running base (Finished Sent) None (next ∷ rest) (toggle_at (length took))) (host_of took)
  told : (base : Core) (took : List (List ℕ)) (next : List ℕ) (rest : List (List ℕ)) → packets ≡ took ++ next ∷ rest
      → Running packets (running base Off (Some Sent) (next ∷ rest) (toggle_at (length took))) (host_of took)
  over : (base : Core) (took : List (List ℕ)) → packets ≡ took → Running packets (running base Armed None [] (toggle_at (length took))) (host_of took)

-- after so many task runs
abbrev pub tasks : ℕ → List DevLine
tasks n = replicate n Task

abbrev pub after_tasks : {S : Type 0} → World S → Device S → ℕ → Device S
after_tasks world d n = after_lines (whole world) d (tasks n)

-- where a control read stands
pub data Reads {S : Type 0} (world : World S) (setup bytes : List ℕ) (packets : List (List ℕ)) : Device S → Host → Type 0 where
  -- no handler run has served the SETUP
  heard : (base : Core) (classes : Classes S) (x : List ℕ) (xs : List (List ℕ)) (side : Side) (stage : Option Stage) (transfer : Transfer) → last_of (x ∷ xs) ≡ Some setup
      → new_address transfer (finished_stage side) ≡ None
      → ((n : ℕ) → Decides world.set setup bytes (after_tasks world (of_parts (starting base (x ∷ xs) side stage None transfer) classes) n).core)
      → Reads world setup bytes packets (of_parts (starting base (x ∷ xs) side stage None transfer) classes) (host_of [])
  -- no task has taken it
  noted : (base : Core) (classes : Classes S) (stage : Option Stage) (transfer : Transfer) → Decides world.set setup bytes base
      → Reads world setup bytes packets (of_parts (starting base [] Off stage (Some setup) transfer) classes) (host_of [])
  -- its data stage runs
  runs : (core : Core) (classes : Classes S) (host : Host) → Running packets core host → Reads world setup bytes packets (of_parts core classes) host

-- the pipes have no part in it, but for what they have halted
pub decides : (set : Set) (setup bytes : List ℕ) (base : Core) (pipes : Pipes) → halted_addresses pipes ≡ halted_addresses base.pipes → Decides set setup bytes base → Decides set setup bytes (record base { pipes = pipes })
decides set setup bytes base pipes e d = ap (λ halted. choice set (record { addr = base.bus.address; configured = base.session; halted = record { items = halted } }) (fields_of setup)) e ∙ d

-- and in a data stage none at all
pub piped : {packets : List (List ℕ)} {core : Core} {host : Host} (pipes : Pipes) → Running packets core host → Running packets (record core { pipes = pipes }) host
piped pipes (waits base took packet rest e) = waits (record base { pipes = pipes }) took packet rest e
piped pipes (lacks base took packet rest e) = lacks (record base { pipes = pipes }) took packet rest e
piped pipes (has base took packet rest e) = has (record base { pipes = pipes }) took packet rest e
piped pipes (sent base took next rest e) = sent (record base { pipes = pipes }) took next rest e
piped pipes (told base took next rest e) = told (record base { pipes = pipes }) took next rest e
piped pipes (over base took e) = over (record base { pipes = pipes }) took e

-- toggles alternate
flip_at : (n : ℕ) → toggle_at (suc n) ≡ flipped (toggle_at n)
flip_at zero = refl
flip_at (suc zero) = refl
flip_at (suc (suc n)) = flip_at n

length_more : (took : List (List ℕ)) (packet : List ℕ) → length (took ++ packet ∷ []) ≡ suc (length took)
length_more [] packet = refl
length_more (x ∷ xs) packet = ap suc (length_more xs packet)

pub toggle_more : (took : List (List ℕ)) (packet : List ℕ) → toggle_at (length (took ++ packet ∷ [])) ≡ flipped (toggle_at (length took))
toggle_more took packet = ap toggle_at (length_more took packet) ∙ flip_at (length took)

takes_same : (host : Host) (t : Toggle) (packet : List ℕ) → takes host t t packet ≡ record { expects = flipped t; took = host.took ++ packet ∷ [] }
takes_same host D0 packet = refl
takes_same host D1 packet = refl

takes_other : (host : Host) (t : Toggle) (packet : List ℕ) → takes host (flipped t) t packet ≡ host
takes_other host D0 packet = refl
takes_other host D1 packet = refl

pub gets_new : (took : List (List ℕ)) (packet : List ℕ) → gets (host_of took) (answers.Data (toggle_at (length took)) packet) ≡ host_of (took ++ packet ∷ [])
gets_new took packet =
    takes_same (host_of took) (toggle_at (length took)) packet
    ∙ ap (λ t. record { expects = t; took = took ++ packet ∷ [] }) (sym (toggle_more took packet))

pub gets_old : (took : List (List ℕ)) (packet : List ℕ) → gets (host_of (took ++ packet ∷ [])) (answers.Data (toggle_at (length took)) packet) ≡ host_of (took ++ packet ∷ [])
gets_old took packet =
    ap (λ t. takes (host_of (took ++ packet ∷ [])) t (toggle_at (length took)) packet) (toggle_more took packet)
    ∙ takes_other (host_of (took ++ packet ∷ [])) (toggle_at (length took)) packet
