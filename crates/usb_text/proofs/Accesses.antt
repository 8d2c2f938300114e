-- A register line has no newline, and is the text of no answer.
use Rattle.std.proofs.Common.{◌≡◌, ℕ, List, [], ◌∷◌, Bool, true, false, ◌&&◌, ◌||◌, eqb, refl, ap, sym, ◌∙◌}
use Rattle.usb_packet.specs.declared.bus.Toggle.TheVariants.{D0, D1}
use Rattle.usb_packet.specs.declared.bus.BusAnswer.{BusAnswer}
use Rattle.usb_packet.specs.declared.bus.BusAnswer.TheVariants as bus
use Rattle.usb_pipe.specs.declared.reply.Reply.{Reply}
use Rattle.usb_pipe.specs.declared.reply.Reply.TheVariants as reply
use Rattle.usb_pipe.specs.declared.reply.HostWord.{HostWord}
use Rattle.usb_pipe.specs.declared.reply.HostWord.TheVariants as host
use Rattle.dwc2_regs.specs.declared.access.Access.{Access}
use Rattle.usb_words.specs.Field.{spaced}
use Rattle.register_text.specs.declared.access.Side.{Side}
use Rattle.register_text.specs.declared.access.Side.TheVariants as side
use Rattle.register_text.specs.Access.{digits, mark, access_words, access_text}
use Rattle.register_text.proofs.Accesses.{access_words_are_words}
use Rattle.device_line.specs.declared.line.Answer.{Answer}
use Rattle.device_line.specs.declared.line.Answer.TheVariants as answer
use Rattle.usb_text.specs.Line.{answer_text}
use Rattle.usb_text.specs.Reply.{bus_words, host_words, reply_words}
use Rattle.usb_text.specs.Plain.{is_plain}
use Rattle.usb_text.proofs.Plain.{spaced_is_plain}

pub access_is_plain : (a : Access) (s : Side) → is_plain (access_text a s) ≡ true
access_is_plain a s = spaced_is_plain (access_words a s) (access_words_are_words a s)

-- the first two bytes of a register line: `r` or `w` with a space, or after `d` or `h`
abbrev pub is_way : ℕ → Bool
is_way b = eqb b 114 || eqb b 119

abbrev pub is_side : ℕ → Bool
is_side b = eqb b 100 || eqb b 104

abbrev pub begins_an_access : List ℕ → Bool
begins_an_access [] = false
begins_an_access (a ∷ []) = false
begins_an_access (a ∷ b ∷ rest) = (is_way a && eqb b 32) || (is_side a && is_way b)

marks_begin : (s : Side) (write : Bool) (x y : List ℕ) → begins_an_access (spaced (mark s write ∷ x ∷ y ∷ [])) ≡ true
marks_begin side.Plain false x y = refl
marks_begin side.Plain true x y = refl
marks_begin side.Device false x y = refl
marks_begin side.Device true x y = refl
marks_begin side.Host false x y = refl
marks_begin side.Host true x y = refl

bus_begins : (a : BusAnswer) → begins_an_access (spaced (bus_words a)) ≡ false
bus_begins bus.Done = refl
bus_begins bus.Ack = refl
bus_begins bus.Nak = refl
bus_begins bus.Stall = refl
bus_begins bus.NoAnswer = refl
bus_begins (bus.Data D0 packet) = refl
bus_begins (bus.Data D1 packet) = refl

host_begins : (word : HostWord) → begins_an_access (spaced (host_words word)) ≡ false
host_begins host.Empty = refl
host_begins host.Waiting = refl
host_begins host.Mounted = refl
host_begins (host.NoReply n) = refl
host_begins (host.Stalled n) = refl
host_begins (host.BadSet n) = refl
host_begins (host.TooLarge n) = refl

reply_begins : (r : Reply) → begins_an_access (spaced (reply_words r)) ≡ false
reply_begins reply.Done = refl
reply_begins (reply.Took n) = refl
reply_begins (reply.Got bytes) = refl
reply_begins (reply.Held n) = refl
reply_begins (reply.Events bytes) = refl
reply_begins (reply.Report bytes) = refl
reply_begins (reply.SetReport kind bytes) = refl
reply_begins (reply.Idle rate protocol) = refl
reply_begins (reply.LineIs rate stop parity bits dtr rts) = refl
reply_begins (reply.Serial bits) = refl
reply_begins reply.Started = refl
reply_begins reply.Running = refl
reply_begins (reply.Passed bytes) = refl
reply_begins reply.ControlPassed = refl
reply_begins (reply.Failed residue) = refl
reply_begins reply.Phase = refl
reply_begins reply.Stalled = refl
reply_begins reply.NoReply = refl
reply_begins reply.Halted = refl
reply_begins reply.Dead = refl
reply_begins reply.Busy = refl
reply_begins reply.BadLength = refl
reply_begins reply.NoPipe = refl
reply_begins reply.Nothing = refl
reply_begins reply.Closed = refl
reply_begins (reply.Core addr configured) = refl
reply_begins (reply.Host word) = host_begins word

pub answer_begins : (a : Answer) → begins_an_access (answer_text a) ≡ false
answer_begins (answer.Bus a) = bus_begins a
answer_begins (answer.Reply r) = reply_begins r

true_is_false : (b : Bool) → b ≡ true → b ≡ false → ⊥
true_is_false b h k = absurd (cc)

pub access_is_no_answer : (a : Access) (s : Side) (b : Answer) → access_text a s ≡ answer_text b → ⊥
access_is_no_answer a s b e =
    true_is_false (begins_an_access (answer_text b))
    (ap begins_an_access (sym e) ∙ marks_begin s a.write (digits 4 a.off) (digits 8 a.value)) (answer_begins b)
