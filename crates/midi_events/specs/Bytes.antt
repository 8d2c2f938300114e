-- What the bytes of a MIDI stream are (MIDI 1.0, the summary of status bytes).
use Rattle.std.specs.Prelude.{ℕ, ◌/◌, Bool, ◌==◌, nat_lt, nat_le, not, if◌then◌else◌}
use Rattle.midi_events.specs.declared.packing.Kind.{Kind}
use Rattle.midi_events.specs.declared.packing.Kind.TheVariants.{Data, Channel, SysExStart, Common, Undefined, TuneRequest, SysExEnd, RealTime}

-- 00 to 7f data, 80 to ef the status of a channel message, f0 the start of a SysEx, f1 to f3 the status of a system
-- common message with data, f4 and f5 undefined, f6 the tune request, f7 the end of a SysEx, f8 to ff real time
abbrev pub kind : ℕ → Kind
kind byte =
    if nat_lt byte 128 then Data
    else if nat_lt byte 240 then Channel
    else if nat_lt byte 241 then SysExStart
    else if nat_lt byte 244 then Common
    else if nat_lt byte 246 then Undefined
    else if nat_lt byte 247 then TuneRequest
    else if nat_lt byte 248 then SysExEnd
    else RealTime

abbrev pub is_data : ℕ → Bool
is_data byte = nat_lt byte 128

abbrev pub is_real_time : ℕ → Bool
is_real_time byte = nat_le 248 byte

abbrev pub is_not_real_time : ℕ → Bool
is_not_real_time byte = not (is_real_time byte)

-- how many data bytes a message with this status takes: one for c0 to df, f1 and f3, two for other channel statuses and f2
abbrev pub data_count : ℕ → ℕ
data_count status =
    if nat_lt status 192 then 2
    else if nat_lt status 224 then 1
    else if nat_lt status 240 then 2
    else if status == 242 then 2
    else 1

-- whether the status goes on for more messages: that of a channel message does
abbrev pub runs_on : ℕ → Bool
runs_on status = nat_lt status 240

-- the code index of an event with a whole message: the high nibble of a channel status, 3 for f2, and 2 for f1 and f3
abbrev pub code_index : ℕ → ℕ
code_index status =
    if nat_lt status 240 then status / 16
    else if status == 242 then 3
    else 2
