-- Each line keeps what stands between a device and what is seen of it.
use Rattle.std.proofs.Common.{◌≡◌, ℕ, List, [], ◌∷◌, ◌++◌, Bool, true, false, ◌&&◌, if◌then◌else◌, Option, Some, None, refl, sym, ap, ◌∙◌, arith, length-append}
use Rattle.usb_packet.specs.declared.bus.Toggle.{Toggle}
use Rattle.usb_packet.specs.declared.bus.Toggle.TheVariants.{D0, D1}
use Rattle.usb_packet.specs.declared.bus.BusAnswer.{BusAnswer}
use Rattle.usb_packet.specs.declared.bus.BusAnswer.TheVariants as answers
use Rattle.usb_packet.specs.Toggles.{flipped}
use Rattle.device_machine.specs.declared.control.Stage.{Stage}
use Rattle.device_machine.specs.declared.control.Stage.TheVariants.{Sent, Came}
use Rattle.device_machine.specs.declared.control.Side.{Side}
use Rattle.device_machine.specs.declared.control.Side.TheVariants.{Off, Wait, Loaded, Last, Armed, Stall, Finished}
use Rattle.device_machine.specs.Bus.{is_empty, disturbed, after_setup, after_out, after_in, in_answer, finished_stage, last_of}
use Rattle.device_owners.specs.Device.{Core, Transfer, Idle, Sending, Taking, Ending, Addressing, Foreign, new_address}
use Rattle.device_laws.specs.Seen.{Seen, asked_address, heard, given}
use Rattle.device_laws.proofs.Facts.{Quiet, Runs, Sends, Underway, Serves, Matches, Fresh, Facts}

-- a device with these parts
abbrev pub put : Core → List (List ℕ) → Side → Bool → Core
put core unserved side taken = record core { bus = record core.bus { unserved = unserved; side = side; taken = taken } }

-- where endpoint 0 holds something, no note stands
pub no_note : {A : Type 0} (pending : Option A) (a b : Side) → (a ≡ Off → ⊥) → Quiet pending a → Quiet pending b
no_note None a b not_off h = tt
no_note (Some x) a b not_off h = absurd (not_off h)

pub fresh_none : (pending : Option (List ℕ)) (a : Side) (taken : Bool) (toggle : Toggle) → (a ≡ Off → ⊥) → Quiet pending a → Fresh [] pending taken toggle
fresh_none None a taken toggle not_off h = tt
fresh_none (Some x) a taken toggle not_off h = absurd (not_off h)

-- the status stage that the host acknowledges is that of the last SETUP
due_of : (pending : Option (List ℕ)) (transfer : Transfer) (request : List ℕ) (a : Side) (stage : Stage) → (a ≡ Off → ⊥) → Quiet pending a → Serves pending transfer request → Runs transfer
    → new_address transfer (Some stage) ≡ asked_address request
due_of (Some x) transfer request a stage not_off q h r = absurd (not_off q)
due_of None Idle request a stage not_off q h r = absurd r
due_of None (Sending packets) request a stage not_off q h r = sym h
due_of None (Taking o setup) request a stage not_off q h r = sym h
due_of None Foreign request a stage not_off q h r = absurd r
due_of None Ending request a stage not_off q h r = sym h
due_of None (Addressing n) request a stage not_off q h r = sym h

-- where data goes there is no address
due_none : (pending : Option (List ℕ)) (transfer : Transfer) (request : List ℕ) (a : Side) → (a ≡ Off → ⊥) → Quiet pending a → Serves pending transfer request → Sends transfer
    → new_address transfer None ≡ asked_address request
due_none (Some x) transfer request a not_off q h r = absurd (not_off q)
due_none None Idle request a not_off q h r = absurd r
due_none None (Sending packets) request a not_off q h r = sym h
due_none None (Taking o setup) request a not_off q h r = sym h
due_none None Foreign request a not_off q h r = absurd r
due_none None Ending request a not_off q h r = absurd r
due_none None (Addressing n) request a not_off q h r = absurd r

pub sends_none : (transfer : Transfer) (a b : Option Stage) → Sends transfer → new_address transfer a ≡ new_address transfer b
sends_none Idle a b h = refl
sends_none (Sending packets) a b h = refl
sends_none (Taking o setup) a b h = refl
sends_none Foreign a b h = absurd h
sends_none Ending a b h = absurd h
sends_none (Addressing n) a b h = absurd h

-- an IN token that is acknowledged
in_taken : (core : Core) (seen : Seen) (side : Side) (taken : Bool) → Facts (put core [] side taken) seen
    → Facts (record core { bus = after_in (put core [] side taken).bus side }) (given seen (in_answer side core.bus.toggle))
in_taken core seen Off taken h = h
in_taken core seen (Wait packet last) taken h = h
in_taken core seen Armed taken h = h
in_taken core seen Stall taken h = h
in_taken core seen (Finished stage) taken h = h
in_taken core seen (Loaded packet) taken h = record {
  attends = h.attends;
  address = h.address;
  bounded = h.bounded;
  count = h.count;
  noted = h.noted;
  due = due_of core.request core.transfer seen.request (Loaded packet) Sent (λ e. cc) h.quiet h.matches h.underway;
  matches = h.matches;
  fresh = fresh_none core.request (Loaded packet) taken (flipped core.bus.toggle) (λ e. cc) h.quiet;
  quiet = no_note core.request (Loaded packet) (Finished Sent) (λ e. cc) h.quiet;
  settled = no_note core.finished (Loaded packet) (Finished Sent) (λ e. cc) h.settled;
  underway = h.underway;
  small = h.small;
}
in_taken core seen (Last packet) taken h = record {
  attends = h.attends;
  address = h.address;
  bounded = h.bounded;
  count = h.count;
  noted = h.noted;
  due = due_none core.request core.transfer seen.request (Last packet) (λ e. cc) h.quiet h.matches h.underway;
  matches = h.matches;
  fresh = fresh_none core.request (Last packet) taken (flipped core.bus.toggle) (λ e. cc) h.quiet;
  quiet = no_note core.request (Last packet) Armed (λ e. cc) h.quiet;
  settled = no_note core.finished (Last packet) Armed (λ e. cc) h.settled;
  underway = h.underway;
  small = h.small;
}

pub in_facts : (core : Core) (seen : Seen) (unserved : List (List ℕ)) (side : Side) (taken hears zero_ep ok : Bool) (other : BusAnswer) → Facts (put core unserved side taken) seen
    → Facts
    (record core { bus = if hears && (ok && (zero_ep && is_empty unserved)) then after_in (put core unserved side taken).bus side else (put core unserved side taken).bus })
    (if zero_ep && ok then given seen (if hears then (if zero_ep then (if is_empty unserved then in_answer side core.bus.toggle else answers.Nak) else other) else answers.NoAnswer) else seen)
in_facts core seen [] side taken true true true other h = in_taken core seen side taken h
in_facts core seen (x ∷ xs) side taken true true true other h = h
in_facts core seen unserved side taken true true false other h = h
in_facts core seen unserved side taken true false true other h = h
in_facts core seen unserved side taken true false false other h = h
in_facts core seen unserved side taken false true true other h = h
in_facts core seen unserved side taken false true false other h = h
in_facts core seen unserved side taken false false true other h = h
in_facts core seen unserved side taken false false false other h = h

-- a packet from the host that is taken
came : (core : Core) (seen : Seen) (side : Side) (packet : List ℕ) → (side ≡ Off → ⊥) → Sends core.transfer → new_address core.transfer None ≡ seen.due
    → Facts (put core [] side false) seen → Facts (put core [] (Finished (Came packet)) true) seen
came core seen side packet not_off sends due h = record {
  attends = h.attends;
  address = h.address;
  bounded = h.bounded;
  count = h.count;
  noted = h.noted;
  due = sends_none core.transfer (Some (Came packet)) None sends ∙ due;
  matches = h.matches;
  fresh = fresh_none core.request side true core.bus.toggle not_off h.quiet;
  quiet = no_note core.request side (Finished (Came packet)) not_off h.quiet;
  settled = no_note core.finished side (Finished (Came packet)) not_off h.settled;
  underway = sends;
  small = h.small;
}

out_taken : (core : Core) (seen : Seen) (side : Side) (taken : Bool) (toggle : Toggle) (packet : List ℕ) → Facts (put core [] side taken) seen
    → Facts (record core { bus = after_out (put core [] side taken).bus toggle packet }) seen
out_taken core seen Off taken toggle packet h = h
out_taken core seen (Wait p last) taken toggle packet h = h
out_taken core seen (Loaded p) taken toggle packet h = h
out_taken core seen Stall taken toggle packet h = h
out_taken core seen (Finished stage) taken toggle packet h = h
out_taken core seen (Last p) taken D0 packet h = h
out_taken core seen (Last p) true D1 packet h = h
out_taken core seen (Last p) false D1 packet h = came core seen (Last p) packet (λ e. cc) h.underway h.due h
out_taken core seen Armed taken D0 packet h = h
out_taken core seen Armed true D1 packet h = h
out_taken core seen Armed false D1 packet h = came core seen Armed packet (λ e. cc) h.underway h.due h

pub out_facts : (core : Core) (seen : Seen) (unserved : List (List ℕ)) (side : Side) (taken hears zero_ep : Bool) (toggle : Toggle) (packet : List ℕ) → Facts (put core unserved side taken) seen
    → Facts
    (record core { bus = if hears && (zero_ep && is_empty unserved) then after_out (put core unserved side taken).bus toggle packet else (put core unserved side taken).bus })
    seen
out_facts core seen [] side taken true true toggle packet h = out_taken core seen side taken toggle packet h
out_facts core seen (x ∷ xs) side taken true true toggle packet h = h
out_facts core seen unserved side taken true false toggle packet h = h
out_facts core seen unserved side taken false true toggle packet h = h
out_facts core seen unserved side taken false false toggle packet h = h

-- a SETUP
pub last_append : (bytes : List ℕ) (xs : List (List ℕ)) → last_of (xs ++ bytes ∷ []) ≡ Some bytes
last_append bytes [] = refl
last_append bytes (x ∷ []) = refl
last_append bytes (x ∷ y ∷ ys) = last_append bytes (y ∷ ys)

pub same_stage : (side : Side) → finished_stage (disturbed side) ≡ finished_stage side
same_stage Off = refl
same_stage (Wait packet last) = refl
same_stage (Loaded packet) = refl
same_stage (Last packet) = refl
same_stage Armed = refl
same_stage Stall = refl
same_stage (Finished stage) = refl

disturbed_quiet : {A : Type 0} (pending : Option A) (side : Side) → Quiet pending side → Quiet pending (disturbed side)
disturbed_quiet None side h = tt
disturbed_quiet (Some x) side h = ap disturbed h

disturbed_underway : (transfer : Transfer) (side : Side) → Underway transfer side → Underway transfer (disturbed side)
disturbed_underway transfer Off h = tt
disturbed_underway transfer (Wait packet last) h = h
disturbed_underway transfer (Loaded packet) h = tt
disturbed_underway transfer (Last packet) h = tt
disturbed_underway transfer Armed h = tt
disturbed_underway transfer Stall h = tt
disturbed_underway transfer (Finished stage) h = h

more_matches : (unserved : List (List ℕ)) (pending : Option (List ℕ)) (transfer : Transfer) (bytes : List ℕ) → Matches (unserved ++ bytes ∷ []) pending transfer bytes
more_matches [] pending transfer bytes = refl
more_matches (x ∷ xs) pending transfer bytes = last_append bytes (x ∷ xs)

more_fresh : (unserved : List (List ℕ)) (pending : Option (List ℕ)) (bytes : List ℕ) → Fresh (unserved ++ bytes ∷ []) pending false D1
more_fresh [] pending bytes = record { untaken = refl; first = refl }
more_fresh (x ∷ xs) pending bytes = record { untaken = refl; first = refl }

pub setup_facts : (core : Core) (seen : Seen) (bytes : List ℕ) (hears : Bool) → Facts core seen
    → Facts (record core { bus = if hears then after_setup core.bus bytes else core.bus }) (heard seen bytes (if hears then answers.Ack else answers.NoAnswer))
setup_facts core seen bytes false h = h
setup_facts core seen bytes true h = record {
  attends = h.attends;
  address = h.address;
  bounded = h.bounded;
  count = omega (arith, length-append core.bus.unserved (bytes ∷ []), h.count);
  noted = h.noted;
  due = ap (new_address core.transfer) (same_stage core.bus.side) ∙ h.due;
  matches = more_matches core.bus.unserved core.request core.transfer bytes;
  fresh = more_fresh core.bus.unserved core.request bytes;
  quiet = disturbed_quiet core.request core.bus.side h.quiet;
  settled = disturbed_quiet core.finished core.bus.side h.settled;
  underway = disturbed_underway core.transfer core.bus.side h.underway;
  small = h.small;
}
