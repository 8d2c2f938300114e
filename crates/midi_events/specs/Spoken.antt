-- What a whole stream says, message by message (MIDI 1.0), with no packer: every status byte stands with the data bytes up
-- to the next one.
use Rattle.std.specs.Prelude.{◌≡◌, ℕ, ◌+◌, List, [], ◌∷◌, ◌++◌, length, take, insert, filter, Bool, false, ◌==◌, if◌then◌else◌}
use Rattle.std.specs.List.{flat_map}
use Rattle.midi_events.specs.declared.packing.Kind.{Kind}
use Rattle.midi_events.specs.declared.packing.Kind.TheVariants.{Data, Channel, SysExStart, Common, Undefined, TuneRequest, SysExEnd, RealTime}
use Rattle.midi_events.specs.Bytes.{kind, is_data, is_real_time, is_not_real_time, data_count}
use Rattle.midi_events.specs.Events.{packet, unpacked}
use Rattle.midi_events.specs.Packing.{Idle, packed}

-- the data bytes in front of the next status byte
abbrev pub data_run : List ℕ → List ℕ
data_run [] = []
data_run (byte ∷ rest) = if is_data byte then byte ∷ data_run rest else []

-- whether the next status byte is f7
abbrev pub is_closed : List ℕ → Bool
is_closed [] = false
is_closed (byte ∷ rest) = if is_data byte then is_closed rest else byte == 247

-- each data byte with the status before it
abbrev pub by_ones : ℕ → List ℕ → List ℕ
by_ones status [] = []
by_ones status (a ∷ rest) = status ∷ a ∷ by_ones status rest

-- each pair of data bytes with the status before it
abbrev pub by_twos : ℕ → List ℕ → List ℕ
by_twos status (a ∷ b ∷ rest) = status ∷ a ∷ b ∷ by_twos status rest
by_twos status (a ∷ []) = []
by_twos status [] = []

-- the bytes as far as they come in threes
abbrev pub in_threes : List ℕ → List ℕ
in_threes (a ∷ b ∷ c ∷ rest) = a ∷ b ∷ c ∷ in_threes rest
in_threes (a ∷ b ∷ []) = []
in_threes (a ∷ []) = []
in_threes [] = []

-- the messages that a run of data bytes is enough for, each with the status before it
abbrev pub with_status : ℕ → List ℕ → List ℕ
with_status status run = if data_count status == 1 then by_ones status run else by_twos status run

-- the first of these alone, since a system common status does not run on: data bytes behind it belong to nothing
abbrev pub common_message : ℕ → List ℕ → List ℕ
common_message status run = take (data_count status + 1) (with_status status run)

-- a SysEx, with its start: byte for byte where f7 closes it. What cuts it short drops the one or two bytes that were not
-- sent yet, since a packet of an open SysEx carries three
abbrev pub sysex : List ℕ → Bool → List ℕ
sysex bytes closed = if closed then bytes ++ 247 ∷ [] else in_threes bytes

-- what a status byte of this kind says with the data bytes behind it; f7 is said by the SysEx that it closes
abbrev pub said : Kind → ℕ → List ℕ → Bool → List ℕ
said Channel status run closed = with_status status run
said Common status run closed = common_message status run
said SysExStart status run closed = sysex (status ∷ run) closed
said TuneRequest status run closed = status ∷ []
said Undefined status run closed = []
said SysExEnd status run closed = []
said Data byte run closed = []
said RealTime byte run closed = []

-- what a stream without real-time bytes says; data bytes in front of its first status byte belong to nothing
abbrev pub spoken : List ℕ → List ℕ
spoken [] = []
spoken (byte ∷ rest) = said (kind byte) byte (data_run rest) (is_closed rest) ++ spoken rest

-- the stream that the events of a stream carry
abbrev pub carried : List ℕ → List ℕ
carried stream = flat_map unpacked (packed Idle stream)

-- The events carry what the stream says and nothing else: its messages and, apart from them, its real-time bytes. A
-- real-time byte that is put in anywhere adds its own event there and then, and changes no other.
pub record CarriesWhatIsSaid (stream : List ℕ) : Type 0 where
  pub messages : filter is_not_real_time (carried stream) ≡ spoken (filter is_not_real_time stream)
  pub real_time : filter is_real_time (carried stream) ≡ filter is_real_time stream
  pub at_once :
      (n byte : ℕ) → kind byte ≡ RealTime →
      packed Idle (insert stream n byte) ≡ insert (packed Idle stream) (length (packed Idle (take n stream))) (packet 15 (byte ∷ []))
