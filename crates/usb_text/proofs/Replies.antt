-- No newline stands in an answer's text, whatever its bytes and numbers are.
use Rattle.std.proofs.Common.{◌≡◌, ℕ, zero, suc, ◌/◌, ◌%◌, List, [], ◌∷◌, Bool, true, false, not, eqb, cond, refl, arith}
use Rattle.std.specs.List.{list_all, flat_map}
use Rattle.std.specs.Fmt.{digits_onto, digit_glyph, digits, decimal}
use Rattle.std.proofs.lemmas.List.Folds.{list_all-append}
use Rattle.std.proofs.lemmas.Bool.Decides.{nat_tests}
use Rattle.usb_packet.specs.declared.bus.Toggle.{Toggle}
use Rattle.usb_packet.specs.declared.bus.Toggle.TheVariants.{D0, D1}
use Rattle.usb_packet.specs.declared.bus.BusAnswer.{BusAnswer}
use Rattle.usb_packet.specs.declared.bus.BusAnswer.TheVariants as bus
use Rattle.usb_pipe.specs.declared.reply.Reply.{Reply}
use Rattle.usb_pipe.specs.declared.reply.Reply.TheVariants as reply
use Rattle.usb_pipe.specs.declared.reply.HostWord.{HostWord}
use Rattle.usb_pipe.specs.declared.reply.HostWord.TheVariants as host
use Rattle.usb_words.specs.Field.{space, spaced, hex_digit, hex_pair, hex}
use Rattle.usb_words.proofs.Decimal.{and_true}
use Rattle.device_line.specs.declared.line.Answer.{Answer}
use Rattle.device_line.specs.declared.line.Answer.TheVariants as answer
use Rattle.usb_text.specs.Reply.{data_name, bus_words, host_words, reply_words}
use Rattle.usb_text.specs.Line.{newline, answer_words, answer_text}
use Rattle.usb_text.specs.Plain.{is_plain}

-- a hexadecimal digit
digit_is_plain : (n : ℕ) → not (eqb (hex_digit n) newline) ≡ true
digit_is_plain n = grind (arith, nat_tests)

pairs_are_plain : (bytes : List ℕ) → is_plain (flat_map hex_pair bytes) ≡ true
pairs_are_plain [] = refl
pairs_are_plain (b ∷ bs) = rw (digit_is_plain (b / 16), digit_is_plain (b % 16), pairs_are_plain bs) refl

hex_is_plain : (bytes : List ℕ) → is_plain (hex bytes) ≡ true
hex_is_plain [] = refl
hex_is_plain (b ∷ bs) = pairs_are_plain (b ∷ bs)

-- a decimal digit
glyph_is_plain : (n : ℕ) → not (eqb (digit_glyph false n) newline) ≡ true
glyph_is_plain n = grind (arith, nat_tests)

last_is_plain : (n : ℕ) (behind : List ℕ) → is_plain behind ≡ true → is_plain (digit_glyph false n ∷ behind) ≡ true
last_is_plain n behind h = rw (glyph_is_plain n) h

-- digits in front of what is written so far
either_is_plain : (t : Bool) (last more : List ℕ) → is_plain last ≡ true → is_plain more ≡ true → is_plain (cond t last more) ≡ true
either_is_plain true last more h k = h
either_is_plain false last more h k = k

digits_are_plain : (k n : ℕ) (behind : List ℕ) → is_plain behind ≡ true → is_plain (digits_onto k 10 false n behind) ≡ true
digits_are_plain zero n behind h = h
digits_are_plain (suc k) n behind h =
    let last = last_is_plain (n % 10) behind h in
    either_is_plain (eqb (n / 10) 0) (digit_glyph false (n % 10) ∷ behind) (digits_onto k 10 false (n / 10) (digit_glyph false (n % 10) ∷ behind)) last
    (digits_are_plain k (n / 10) (digit_glyph false (n % 10) ∷ behind) last)

number_is_plain : (n : ℕ) → is_plain (decimal n) ≡ true
unfolding digits
number_is_plain n = digits_are_plain 64 n [] refl

-- words with spaces between them
words_are_plain : (words : List (List ℕ)) → list_all is_plain words ≡ true → is_plain (spaced words) ≡ true
words_are_plain [] h = refl
words_are_plain (word ∷ []) h = (and_true (is_plain word) true h).0
words_are_plain (word ∷ next ∷ words) h =
    let parts = and_true (is_plain word) (list_all is_plain (next ∷ words)) h in
    rw (list_all-append (λ b. not (eqb b newline)) word (space ∷ spaced (next ∷ words)), parts.0) (words_are_plain (next ∷ words) parts.1)

name_is_plain : (toggle : Toggle) → is_plain (data_name toggle) ≡ true
name_is_plain D0 = refl
name_is_plain D1 = refl

bus_words_are_plain : (a : BusAnswer) → list_all is_plain (bus_words a) ≡ true
bus_words_are_plain bus.Done = refl
bus_words_are_plain bus.Ack = refl
bus_words_are_plain bus.Nak = refl
bus_words_are_plain bus.Stall = refl
bus_words_are_plain bus.NoAnswer = refl
bus_words_are_plain (bus.Data toggle packet) = rw (name_is_plain toggle, hex_is_plain packet) refl

host_words_are_plain : (word : HostWord) → list_all is_plain (host_words word) ≡ true
host_words_are_plain host.Empty = refl
host_words_are_plain host.Waiting = refl
host_words_are_plain host.Mounted = refl
host_words_are_plain (host.NoReply n) = rw (number_is_plain n) refl
host_words_are_plain (host.Stalled n) = rw (number_is_plain n) refl
host_words_are_plain (host.BadSet n) = rw (number_is_plain n) refl
host_words_are_plain (host.TooLarge n) = rw (number_is_plain n) refl

reply_words_are_plain : (r : Reply) → list_all is_plain (reply_words r) ≡ true
reply_words_are_plain reply.Done = refl
reply_words_are_plain (reply.Took n) = rw (number_is_plain n) refl
reply_words_are_plain (reply.Got bytes) = rw (hex_is_plain bytes.items) refl
reply_words_are_plain (reply.Held n) = rw (number_is_plain n) refl
reply_words_are_plain (reply.Events bytes) = rw (hex_is_plain bytes.items) refl
reply_words_are_plain (reply.Report bytes) = rw (hex_is_plain bytes.items) refl
reply_words_are_plain (reply.SetReport kind bytes) = rw (number_is_plain kind, hex_is_plain bytes.items) refl
reply_words_are_plain (reply.Idle rate protocol) = rw (number_is_plain rate, number_is_plain protocol) refl
reply_words_are_plain (reply.LineIs rate stop parity bits dtr rts) = rw (number_is_plain rate, number_is_plain stop, number_is_plain parity, number_is_plain bits, number_is_plain dtr, number_is_plain rts) refl
reply_words_are_plain (reply.Serial bits) = rw (number_is_plain bits) refl
reply_words_are_plain reply.Started = refl
reply_words_are_plain reply.Running = refl
reply_words_are_plain (reply.Passed bytes) = rw (hex_is_plain bytes.items) refl
reply_words_are_plain reply.ControlPassed = refl
reply_words_are_plain (reply.Failed residue) = rw (number_is_plain residue) refl
reply_words_are_plain reply.Phase = refl
reply_words_are_plain reply.Stalled = refl
reply_words_are_plain reply.NoReply = refl
reply_words_are_plain reply.Halted = refl
reply_words_are_plain reply.Dead = refl
reply_words_are_plain reply.Busy = refl
reply_words_are_plain reply.BadLength = refl
reply_words_are_plain reply.NoPipe = refl
reply_words_are_plain reply.Nothing = refl
reply_words_are_plain reply.Closed = refl
reply_words_are_plain (reply.Core addr configured) = rw (number_is_plain addr, number_is_plain configured) refl
reply_words_are_plain (reply.Host word) = host_words_are_plain word

answer_words_are_plain : (a : Answer) → list_all is_plain (answer_words a) ≡ true
answer_words_are_plain (answer.Bus a) = bus_words_are_plain a
answer_words_are_plain (answer.Reply r) = reply_words_are_plain r

pub answer_is_plain : (a : Answer) → is_plain (answer_text a) ≡ true
answer_is_plain a = words_are_plain (answer_words a) (answer_words_are_plain a)
