-- A reply and its bytes told apart.
use Rattle.std.specs.Prelude.{◌≡◌, ℕ, ◌≤◌, [], List, length, ⊤}
use Rattle.usb_pipe.specs.declared.reply.Reply.{Reply}
use Rattle.usb_pipe.specs.declared.reply.Reply.TheVariants as reply
use Rattle.usb_pipe.specs.declared.said.Said.{Said}
use Rattle.usb_pipe.specs.declared.said.Said.TheVariants as said

-- the reply that has these bytes
abbrev pub reply_with : Said → List ℕ → Reply
reply_with said.Done bytes = reply.Done
reply_with (said.Took n) bytes = reply.Took n
reply_with said.Got bytes = reply.Got (record { items = bytes })
reply_with (said.Held n) bytes = reply.Held n
reply_with said.Events bytes = reply.Events (record { items = bytes })
reply_with said.Report bytes = reply.Report (record { items = bytes })
reply_with (said.SetReport kind) bytes = reply.SetReport kind (record { items = bytes })
reply_with (said.Idle rate protocol) bytes = reply.Idle rate protocol
reply_with (said.LineIs rate stop parity bits dtr rts) bytes = reply.LineIs rate stop parity bits dtr rts
reply_with (said.Serial bits) bytes = reply.Serial bits
reply_with said.Started bytes = reply.Started
reply_with said.Running bytes = reply.Running
reply_with said.Passed bytes = reply.Passed (record { items = bytes })
reply_with said.ControlPassed bytes = reply.ControlPassed
reply_with (said.Failed residue) bytes = reply.Failed residue
reply_with said.Phase bytes = reply.Phase
reply_with said.Stalled bytes = reply.Stalled
reply_with said.NoReply bytes = reply.NoReply
reply_with said.Halted bytes = reply.Halted
reply_with said.Dead bytes = reply.Dead
reply_with said.Busy bytes = reply.Busy
reply_with said.BadLength bytes = reply.BadLength
reply_with said.NoPipe bytes = reply.NoPipe
reply_with said.Nothing bytes = reply.Nothing
reply_with said.Closed bytes = reply.Closed
reply_with (said.Core addr session) bytes = reply.Core addr session
reply_with (said.Host word) bytes = reply.Host word

-- the most bytes of a report
abbrev pub most_reported : ℕ
most_reported = 64

-- the bytes are no more than the reply has room for
abbrev pub Fits : Said → List ℕ → Type 0
Fits said.Report bytes = length bytes ≤ most_reported
Fits (said.SetReport kind) bytes = length bytes ≤ most_reported
Fits _ bytes = ⊤

-- it says this reply, which has no bytes
abbrev pub SaysAlone : Said → Reply → Type 0
SaysAlone s r = Fits s [] × (reply_with s [] ≡ r)
