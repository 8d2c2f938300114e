-- What the classes of a device have in common at their pipes (USB 2.0, 5.3.2).
use Rattle.std.specs.Prelude.{ℕ, Bool, true, false, not, ◌==◌, ◌&&◌, ◌||◌, nat_le, if◌then◌else◌}
use Rattle.usb_pipe.specs.declared.phase.Phase.{Phase}
use Rattle.usb_pipe.specs.declared.phase.Phase.TheVariants.{Closed, Rest, Running, Posted, Halted, Dead, Clearing}
use Rattle.usb_pipe.specs.declared.reply.Reply.{Reply}
use Rattle.usb_pipe.specs.declared.reply.Reply.TheVariants as reply
use Rattle.usb_pipe.specs.Own.{Own, phase_at, held_at, room_at, started, armed, packet_room}

-- the data pipes of a class: for the host, and from the host
abbrev pub data_in : ℕ
data_in = 0

abbrev pub data_out : ℕ
data_out = 1

abbrev pub is_rest : Phase → Bool
is_rest Rest = true
is_rest Closed = false
is_rest Running = false
is_rest Posted = false
is_rest Halted = false
is_rest Dead = false
is_rest Clearing = false

abbrev pub is_closed : Phase → Bool
is_closed Closed = true
is_closed Rest = false
is_closed Running = false
is_closed Posted = false
is_closed Halted = false
is_closed Dead = false
is_closed Clearing = false

-- no call of a class with two data pipes does anything while no session stands: then those are closed
abbrev pub is_shut : Own → Bool
is_shut own = is_closed (phase_at own data_in) || is_closed (phase_at own data_out)

-- the pipe that receives takes another packet where it has room for one
abbrev pub may_arm : Own → Bool
may_arm own = is_rest (phase_at own data_out) && nat_le packet_room (room_at own data_out)

abbrev pub with_armed : Own → Own
with_armed own = if may_arm own then armed own else own

-- what is queued on a pipe starts, where anything is and the pipe rests
abbrev pub may_start : Own → ℕ → Bool
may_start own pipe = is_rest (phase_at own pipe) && not (held_at own pipe == 0)

abbrev pub with_started : Own → ℕ → Own
with_started own pipe = if may_start own pipe then started own pipe else own

-- a call that starts a transfer is answered by what its pipe does
abbrev pub start_reply : Phase → Reply
start_reply Rest = reply.Done
start_reply Halted = reply.Halted
start_reply Running = reply.Busy
start_reply Posted = reply.Busy
start_reply Closed = reply.Closed
start_reply Dead = reply.Closed
start_reply Clearing = reply.Closed
