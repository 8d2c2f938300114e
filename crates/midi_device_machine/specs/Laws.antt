-- What holds of every MIDI port, and what its definitions have to give.
use Rattle.std.specs.Prelude.{◌≡◌, ◌≢◌, ◌↔◌, ◌⊎◌, ℕ, ◌+◌, ◌<◌, ◌≤◌, List, [], ◌++◌, false, All, length, take}
use Rattle.std.specs.List.{concat, flat_map}
use Rattle.usb_packet.specs.declared.setup.Setup.{Setup}
use Rattle.usb_pipe.specs.declared.decision.Decision.TheVariants as decision
use Rattle.usb_pipe.specs.declared.phase.Phase.TheVariants.{Closed, Rest}
use Rattle.usb_pipe.specs.declared.call.MidiCall.{MidiCall}
use Rattle.usb_pipe.specs.declared.call.MidiCall.TheVariants.{Send, Recv, Bytes}
use Rattle.usb_pipe.specs.declared.reply.Reply.TheVariants as reply
use Rattle.usb_pipe.specs.Own.{Own, phase_at, held_at, capacity_at, started, armed}
use Rattle.midi_events.specs.Events.{unpacked}
use Rattle.midi_events.specs.Packing.{Idle, packed}
use Rattle.midi_events.specs.Spoken.{CarriesWhatIsSaid}
use Rattle.midi_device_machine.specs.Sending.{event_bytes}
use Rattle.midi_device_machine.specs.Port.{Port, first, decided, accepts, call_reply, after_call, pipes_after_call, pipes_after_work}
use Rattle.midi_device_machine.specs.Runs.{Turn, Run, after_turns, joined, taken_at, left_at, came_at, told_at}

-- What is sent.

abbrev pub IsOpen : Own → Type 0
IsOpen own = (phase_at own 0 ≢ Closed) × (phase_at own 1 ≢ Closed)

-- a byte is taken exactly where the four bytes of an event are free before it
abbrev pub TakesWhatHasRoom : Type 0
TakesWhatHasRoom =
    (port : Port) (own : Own) (bytes : List ℕ) → IsOpen own
    → (n : ℕ) × (call_reply port own (Send (record { items = bytes })) ≡ reply.Took n) × (n ≤ length bytes)
    × ((i : ℕ) → i < n
    ↔ ((i < length bytes) × (held_at own 0 + length (event_bytes port.packer (take i bytes)) + 4 ≤ capacity_at own 0)))

-- In a session that begins with nothing queued, what left for the host and what is still queued are the events of the stream that
-- was taken: whole, in order, and nothing else. They carry what that stream says, a message with its status, a real-time byte
-- at once.
abbrev pub begins : Run → Type 0
begins run = (run.port ≡ first) × (run.own.sends.pipe.queue ≡ []) × (run.own.receives.pipe.held ≡ [])

abbrev pub SessionCarries : Type 0
SessionCarries =
    (run : Run) (turns : List Turn) → begins run
    → let stream = joined taken_at run turns in
    (joined left_at run turns ++ (after_turns run turns).own.sends.pipe.queue ≡ concat (packed Idle stream))
    × CarriesWhatIsSaid stream

-- What comes.

abbrev pub IsEvent : List ℕ → Type 0
IsEvent bytes = length bytes ≡ 4

-- `midi recv` tells the first whole events that are held, as many as are asked for, at most 1,024; `midi bytes` takes the same
-- ones and tells what they carry
abbrev pub TakesWholeEvents : Type 0
TakesWholeEvents =
    (port : Port) (own : Own) (most : ℕ) → IsOpen own
    → (events : List (List ℕ)) × All IsEvent events
    × (call_reply port own (Recv most) ≡ reply.Events (record { items = concat events }))
    × (call_reply port own (Bytes most) ≡ reply.Got (record { items = flat_map unpacked events }))
    × (own.receives.pipe.held ≡ concat events ++ (pipes_after_call port own (Recv most)).receives.pipe.held)
    × (length events ≤ most) × (length events ≤ 1024)
    × ((length events ≡ most) ⊎ ((length events ≡ 1024) ⊎ (held_at (pipes_after_call port own (Recv most)) 1 < 4)))
    × (pipes_after_call port own (Bytes most) ≡ pipes_after_call port own (Recv most))

-- in such a session what was told and what is still held are what came, each byte once and in order
abbrev pub SessionTells : Type 0
SessionTells =
    (run : Run) (turns : List Turn) → begins run
    → joined told_at run turns ++ (after_turns run turns).own.receives.pipe.held ≡ joined came_at run turns

-- Its pipes.

-- its work arms the pipe that receives exactly where that rests and 64 bytes are free
abbrev pub ArmsWithRoom : Type 0
ArmsWithRoom =
    (own : Own)
    → (phase_at own 1 ≡ Rest → held_at own 1 + 64 ≤ capacity_at own 1 → (pipes_after_work own).receives ≡ (armed own).receives)
    × ((phase_at own 1 ≢ Rest) ⊎ (capacity_at own 1 < held_at own 1 + 64) → (pipes_after_work own).receives ≡ own.receives)

-- it starts the pipe that sends exactly where that rests and anything is queued: never an empty packet
abbrev pub StartsWhatIsQueued : Type 0
StartsWhatIsQueued =
    (own : Own)
    → (phase_at own 0 ≡ Rest → held_at own 0 ≢ 0 → (pipes_after_work own).sends ≡ (started own 0).sends)
    × ((phase_at own 0 ≢ Rest) ⊎ (held_at own 0 ≡ 0) → (pipes_after_work own).sends ≡ own.sends)

-- its work leaves all bytes that are held or queued, and what isn't its own
abbrev pub WorkKeepsBytes : Type 0
WorkKeepsBytes =
    (own : Own)
    → let after = pipes_after_work own in
    (after.sends.pipe.queue ≡ own.sends.pipe.queue) × (after.receives.pipe.held ≡ own.receives.pipe.held)
    × (after.notifies ≡ own.notifies)

-- where a data pipe is closed no call does anything
abbrev pub ClosedCallsDoNothing : Type 0
ClosedCallsDoNothing =
    (port : Port) (own : Own) (call : MidiCall) → (phase_at own 0 ≡ Closed) ⊎ (phase_at own 1 ≡ Closed)
    → (call_reply port own call ≡ reply.Closed) × (after_call port own call ≡ port) × (pipes_after_call port own call ≡ own)

-- a call leaves the pipes that aren't its own, and starts and arms none
abbrev pub KeepsOthers : MidiCall → Own → Own → Type 0
KeepsOthers (Send bytes) old new = (new.receives ≡ old.receives) × (new.sends.pipe.phase ≡ old.sends.pipe.phase)
KeepsOthers (Recv most) old new = (new.sends ≡ old.sends) × (new.receives.pipe.phase ≡ old.receives.pipe.phase)
KeepsOthers (Bytes most) old new = (new.sends ≡ old.sends) × (new.receives.pipe.phase ≡ old.receives.pipe.phase)

abbrev pub CallsHaveTheirPipes : Type 0
CallsHaveTheirPipes =
    (port : Port) (own : Own) (call : MidiCall)
    → KeepsOthers call own (pipes_after_call port own call) × ((pipes_after_call port own call).notifies ≡ own.notifies)

-- events that are told leave the port as it is
abbrev pub TellingKeeps : Type 0
TellingKeeps =
    (port : Port) (own : Own) (most : ℕ) → (after_call port own (Recv most) ≡ port) × (after_call port own (Bytes most) ≡ port)

-- Requests.

abbrev pub RequestsAreRefused : Type 0
RequestsAreRefused = (setup : Setup) (bytes : List ℕ) → (decided setup ≡ decision.Stall) × (accepts bytes ≡ false)
