-- What is sent and told in a session.
use Rattle.std.proofs.Common.{◌≡◌, ℕ, ◌*◌, List, [], ◌∷◌, ◌++◌, take, drop, Bool, true, false, if◌then◌else◌, refl, ap, sym, ◌∙◌, append_assoc}
use Rattle.std.proofs.lemmas.List.{take-append-drop, append-nil, take_all}
use Rattle.usb_pipe.specs.declared.call.MidiCall.{MidiCall}
use Rattle.usb_pipe.specs.declared.call.MidiCall.TheVariants.{Send, Recv, Bytes}
use Rattle.usb_pipe.specs.Own.{Own, room_at, started, armed}
use Rattle.class_pipes.specs.Pipes.{is_shut, may_arm, may_start, with_armed}
use Rattle.midi_events.specs.Packing.{after_all}
use Rattle.midi_events.proofs.Stream.{carries_what_is_said}
use Rattle.midi_device_machine.specs.Sending.{event_bytes, taken_bytes}
use Rattle.midi_device_machine.specs.Port.{Port, event_count, pipes_after_work}
use Rattle.midi_device_machine.specs.Runs.{Turn, Comes, Leaves, Works, Asks, Run, after_turn, after_turns, joined, taken_at, left_at, came_at, told_at}
use Rattle.midi_device_machine.specs.Laws.{SessionCarries, SessionTells}
use Rattle.midi_device_machine.proofs.Taking.{bytes-append, taken-fits}

-- The work keeps all bytes.

abbrev KeepsBytes : Own → Own → Type 0
KeepsBytes old new = (new.sends.pipe.queue ≡ old.sends.pipe.queue) × (new.receives.pipe.held ≡ old.receives.pipe.held)

either : (b : Bool) (own x : Own) → KeepsBytes own x → KeepsBytes own (if b then x else own)
either true own x h = h
either false own x h = (refl, refl)

work-keeps : (own : Own) → KeepsBytes own (pipes_after_work own)
work-keeps own =
    let ready = with_armed own in
    let h = either (may_arm own) own (armed own) (refl, refl) in
    let k = either (may_start ready 0) ready (started ready 0) (refl, refl) in
    (k.0 ∙ h.0, k.1 ∙ h.1)

-- What one turn does to the queue and to the packer.

pub record Sends (run : Run) (turn : Turn) : Type 0 where
  pub queue : left_at run turn ++ (after_turn run turn).own.sends.pipe.queue ≡ run.own.sends.pipe.queue ++ event_bytes run.port.packer (taken_at run turn)
  pub packer : (after_turn run turn).port.packer ≡ after_all run.port.packer (taken_at run turn)

abbrev Queues : Run → MidiCall → Type 0
Queues run call = (after_turn run (Asks call)).own.sends.pipe.queue ≡ run.own.sends.pipe.queue ++ event_bytes run.port.packer (taken_at run (Asks call))

call-queues : (run : Run) (call : MidiCall) (b : Bool) → is_shut run.own ≡ b → Queues run call
call-queues run (Send bytes) true e = rw e (sym (append-nil run.own.sends.pipe.queue))
call-queues run (Send bytes) false e =
    let room = room_at run.own 0 in
    let events = event_bytes run.port.packer (taken_bytes run.port.packer room bytes.items) in
    let fits = take_all room events (taken-fits run.port.packer room bytes.items) in
    rw e (ap (λ (back : List ℕ). run.own.sends.pipe.queue ++ back) fits)
call-queues run (Recv most) true e = rw e (sym (append-nil run.own.sends.pipe.queue))
call-queues run (Recv most) false e = rw e (sym (append-nil run.own.sends.pipe.queue))
call-queues run (Bytes most) true e = rw e (sym (append-nil run.own.sends.pipe.queue))
call-queues run (Bytes most) false e = rw e (sym (append-nil run.own.sends.pipe.queue))

abbrev Keeps : Run → MidiCall → Type 0
Keeps run call = (after_turn run (Asks call)).port.packer ≡ after_all run.port.packer (taken_at run (Asks call))

call-keeps : (run : Run) (call : MidiCall) (b : Bool) → is_shut run.own ≡ b → Keeps run call
call-keeps run (Send bytes) true e = rw e refl
call-keeps run (Send bytes) false e = rw e refl
call-keeps run (Recv most) true e = rw e refl
call-keeps run (Recv most) false e = rw e refl
call-keeps run (Bytes most) true e = rw e refl
call-keeps run (Bytes most) false e = rw e refl

turn-sends : (run : Run) (turn : Turn) → Sends run turn
turn-sends run (Comes packet) = record { queue = sym (append-nil run.own.sends.pipe.queue); packer = refl }
turn-sends run (Leaves n) = record { queue = take-append-drop n run.own.sends.pipe.queue ∙ sym (append-nil run.own.sends.pipe.queue); packer = refl }
turn-sends run Works = record { queue = (work-keeps run.own).0 ∙ sym (append-nil run.own.sends.pipe.queue); packer = refl }
turn-sends run (Asks call) = record { queue = call-queues run call (is_shut run.own) refl; packer = call-keeps run call (is_shut run.own) refl }

-- a list in front of two that are joined
shift : (a b c d e : List ℕ) → a ++ b ≡ c ++ d → (a ++ (b ++ e)) ≡ c ++ (d ++ e)
shift a b c d e h = sym (append_assoc a b e) ∙ ap (λ (front : List ℕ). front ++ e) h ∙ append_assoc c d e

sends : (turns : List Turn) (run : Run) → joined left_at run turns ++ (after_turns run turns).own.sends.pipe.queue ≡ run.own.sends.pipe.queue ++ event_bytes run.port.packer (joined taken_at run turns)
sends [] run = sym (append-nil run.own.sends.pipe.queue)
sends (turn ∷ turns) run =
    let next = after_turn run turn in
    let one = turn-sends run turn in
    let taken = taken_at run turn in
    let later = joined taken_at next turns in
    let queue = run.own.sends.pipe.queue in
    append_assoc (left_at run turn) (joined left_at next turns) (after_turns next turns).own.sends.pipe.queue
    ∙ ap (λ (back : List ℕ). left_at run turn ++ back) (sends turns next)
    ∙ shift (left_at run turn) next.own.sends.pipe.queue queue (event_bytes run.port.packer taken) (event_bytes next.port.packer later) one.queue
    ∙ ap (λ (packer : _). queue ++ (event_bytes run.port.packer taken ++ event_bytes packer later)) one.packer
    ∙ ap (λ (back : List ℕ). queue ++ back) (sym (bytes-append run.port.packer taken later))

pub session_carries : SessionCarries
session_carries run turns begun =
    let stream = joined taken_at run turns in
    let all = sends turns run in (
      all
          ∙ ap (λ (queue : List ℕ). queue ++ event_bytes run.port.packer stream) begun.1
          ∙ ap (λ (port : Port). event_bytes port.packer stream) begun.0,
      carries_what_is_said stream,
    )

-- What one turn does to what is held.

abbrev Tells : Run → Turn → Type 0
Tells run turn = told_at run turn ++ (after_turn run turn).own.receives.pipe.held ≡ run.own.receives.pipe.held ++ came_at run turn

events-told : (n : ℕ) (held : List ℕ) → take n held ++ drop n held ≡ held ++ []
events-told n held = take-append-drop n held ∙ sym (append-nil held)

call-tells : (run : Run) (call : MidiCall) (b : Bool) → is_shut run.own ≡ b → Tells run (Asks call)
call-tells run (Send bytes) true e = rw e (sym (append-nil run.own.receives.pipe.held))
call-tells run (Send bytes) false e = rw e (sym (append-nil run.own.receives.pipe.held))
call-tells run (Recv most) true e = rw e (sym (append-nil run.own.receives.pipe.held))
call-tells run (Recv most) false e = rw e (events-told (4 * event_count run.own most) run.own.receives.pipe.held)
call-tells run (Bytes most) true e = rw e (sym (append-nil run.own.receives.pipe.held))
call-tells run (Bytes most) false e = rw e (events-told (4 * event_count run.own most) run.own.receives.pipe.held)

turn-tells : (run : Run) (turn : Turn) → Tells run turn
turn-tells run (Comes packet) = refl
turn-tells run (Leaves n) = sym (append-nil run.own.receives.pipe.held)
turn-tells run Works = (work-keeps run.own).1 ∙ sym (append-nil run.own.receives.pipe.held)
turn-tells run (Asks call) = call-tells run call (is_shut run.own) refl

tells : (turns : List Turn) (run : Run) → joined told_at run turns ++ (after_turns run turns).own.receives.pipe.held ≡ run.own.receives.pipe.held ++ joined came_at run turns
tells [] run = sym (append-nil run.own.receives.pipe.held)
tells (turn ∷ turns) run =
    let next = after_turn run turn in
    append_assoc (told_at run turn) (joined told_at next turns) (after_turns next turns).own.receives.pipe.held
    ∙ ap (λ (back : List ℕ). told_at run turn ++ back) (tells turns next)
    ∙ shift (told_at run turn) next.own.receives.pipe.held run.own.receives.pipe.held (came_at run turn) (joined came_at next turns) (turn-tells run turn)

pub session_tells : SessionTells
session_tells run turns begun = tells turns run ∙ ap (λ (held : List ℕ). held ++ joined came_at run turns) begun.2
