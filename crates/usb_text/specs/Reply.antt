-- The words of answers: of a device on the bus, and of a call.
use Rattle.std.specs.Prelude.{ℕ, List, [], ◌∷◌, codes}
use Rattle.std.specs.Fmt.{decimal}
use Rattle.usb_packet.specs.declared.bus.Toggle.{Toggle}
use Rattle.usb_packet.specs.declared.bus.Toggle.TheVariants.{D0, D1}
use Rattle.usb_packet.specs.declared.bus.BusAnswer.{BusAnswer}
use Rattle.usb_packet.specs.declared.bus.BusAnswer.TheVariants as bus
use Rattle.usb_pipe.specs.declared.reply.Reply.{Reply}
use Rattle.usb_pipe.specs.declared.reply.Reply.TheVariants as reply
use Rattle.usb_pipe.specs.declared.reply.HostWord.{HostWord}
use Rattle.usb_pipe.specs.declared.reply.HostWord.TheVariants as host
use Rattle.usb_words.specs.Field.{hex}

abbrev pub data_name : Toggle → List ℕ
data_name D0 = codes "data0"
data_name D1 = codes "data1"

abbrev pub bus_words : BusAnswer → List (List ℕ)
bus_words bus.Done = codes "ok" ∷ []
bus_words bus.Ack = codes "ack" ∷ []
bus_words bus.Nak = codes "nak" ∷ []
bus_words bus.Stall = codes "stall" ∷ []
bus_words bus.NoAnswer = codes "none" ∷ []
bus_words (bus.Data toggle packet) = data_name toggle ∷ hex packet ∷ []

-- the state of a host's core
abbrev pub host_words : HostWord → List (List ℕ)
host_words host.Empty = codes "empty" ∷ []
host_words host.Waiting = codes "waiting" ∷ []
host_words host.Mounted = codes "mounted" ∷ []
host_words (host.NoReply stage) = codes "fault" ∷ codes "noreply" ∷ decimal stage ∷ []
host_words (host.Stalled stage) = codes "fault" ∷ codes "stalled" ∷ decimal stage ∷ []
host_words (host.BadSet rule) = codes "fault" ∷ codes "badset" ∷ decimal rule ∷ []
host_words (host.TooLarge total) = codes "fault" ∷ codes "toolarge" ∷ decimal total ∷ []

abbrev pub reply_words : Reply → List (List ℕ)
reply_words reply.Done = codes "done" ∷ []
reply_words (reply.Took n) = codes "took" ∷ decimal n ∷ []
reply_words (reply.Got bytes) = codes "got" ∷ hex bytes.items ∷ []
reply_words (reply.Held n) = codes "held" ∷ decimal n ∷ []
reply_words (reply.Events bytes) = codes "events" ∷ hex bytes.items ∷ []
reply_words (reply.Report bytes) = codes "report" ∷ hex bytes.items ∷ []
reply_words (reply.SetReport kind bytes) = codes "set" ∷ decimal kind ∷ hex bytes.items ∷ []
reply_words (reply.Idle rate protocol) = codes "idle" ∷ decimal rate ∷ decimal protocol ∷ []
reply_words (reply.LineIs rate stop parity bits dtr rts) = codes "line" ∷ decimal rate ∷ decimal stop ∷ decimal parity ∷ decimal bits ∷ decimal dtr ∷ decimal rts ∷ []
reply_words (reply.Serial bits) = codes "serial" ∷ decimal bits ∷ []
reply_words reply.Started = codes "started" ∷ []
reply_words reply.Running = codes "running" ∷ []
reply_words (reply.Passed bytes) = codes "passed" ∷ hex bytes.items ∷ []
reply_words reply.ControlPassed = codes "passed" ∷ []
reply_words (reply.Failed residue) = codes "failed" ∷ decimal residue ∷ []
reply_words reply.Phase = codes "phase" ∷ []
reply_words reply.Stalled = codes "stalled" ∷ []
reply_words reply.NoReply = codes "noreply" ∷ []
reply_words reply.Halted = codes "halted" ∷ []
reply_words reply.Dead = codes "dead" ∷ []
reply_words reply.Busy = codes "busy" ∷ []
reply_words reply.BadLength = codes "badlength" ∷ []
reply_words reply.NoPipe = codes "nopipe" ∷ []
reply_words reply.Nothing = codes "none" ∷ []
reply_words reply.Closed = codes "closed" ∷ []
reply_words (reply.Core addr configured) = codes "state" ∷ decimal addr ∷ decimal configured ∷ []
reply_words (reply.Host word) = host_words word
