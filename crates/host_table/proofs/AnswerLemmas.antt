-- What each answer does to the channel that took the bus.
use Rattle.std.proofs.Common.{◌≡◌, ℕ, ◌+◌, ◌<◌, ◌≤◌, List, length, Bool, true, false, Option, Some, None, inl, inr, refl, ap, ◌∙◌, get_or-set_same}
use Rattle.std.specs.Prelude.{◌==◌, not}
use Rattle.std.proofs.lemmas.Bool.{cases_Bool, and_parts, true≢false, false≢true, cond-true, cond-false, lt-ltb, le-ltb, le-leb, lt-leb}
use Rattle.usb_packet.specs.declared.bus.Toggle.{Toggle}
use Rattle.usb_packet.specs.declared.bus.BusAnswer.{BusAnswer}
use Rattle.usb_packet.specs.declared.bus.BusAnswer.TheVariants as answers
use Rattle.usb_packet.specs.Toggles.{same_toggle}
use Rattle.dwc2_fifo.specs.Words.{word_count}
use Rattle.dwc2_fifo.specs.Rx.{room_of}
use Rattle.host_table.specs.declared.sent.HostSent.{HostSent}
use Rattle.host_table.specs.declared.sent.HostSent.TheVariants as sent
use Rattle.host_table.specs.State.{Table, Channel, Interrupts, no_channel, channel_at}
use Rattle.host_table.specs.Words.{is_in, is_setup, toggle_of, packet_size}
use Rattle.host_table.specs.Bus.{Outcome, unanswered, wrong_pid, lands, packet_ready, packet_sent, sent_where_ready, sent_by, asks, is_sent, taker, data_outcome, in_outcome, out_outcome, outcome_of, after_some, after_answer, after_xact, ended}
use Rattle.host_table.specs.AnswerLaws.{EndsWith, OutAnswered, DataAnswered, InTokenAnswered, AnswersAct, completed, with_stall, with_error}
use Rattle.host_table.proofs.TakerLemmas.{lowest_takes, taker_inside}

moved : (P : Table → Type 0) (a b : Table) → a ≡ b → P b → P a
moved P a b e p = rw e p

ends : (t : Table) (x : ℕ) (it : Interrupts) → x < length t.channels → EndsWith t x it (ended t x it)
ends t x it h = record {
  channel = get_or-set_same t.channels x (record (channel_at t x) { enabled = false; interrupts = it }) no_channel h;
  nonperiodic = refl;
  periodic = refl;
  rx = refl;
}

-- A SETUP or OUT packet.

abbrev is_token : HostSent → Bool
is_token sent.In = true
is_token sent.Idle = false
is_token (sent.Setup bytes) = false
is_token (sent.Out toggle bytes) = false

packet_is_none : (channel : Channel) (bytes : List ℕ) → is_token (packet_sent channel bytes) ≡ false
packet_is_none channel bytes = elim (cases_Bool (not (is_setup channel))) [
  | inl out ↦ rw out refl
  | inr setup ↦ rw setup (elim (cases_Bool (length bytes == 8)) [
    | inl eight ↦ rw eight refl
    | inr other ↦ rw other refl
  ])
]

ready_is_none : (channel : Channel) (ready : Option (List ℕ)) → is_token (sent_where_ready channel ready) ≡ false
ready_is_none channel None = refl
ready_is_none channel (Some bytes) = packet_is_none channel bytes

sent_is_none : (t : Table) (x : ℕ) (channel : Channel) → is_in channel ≡ false → is_token (sent_by t x channel) ≡ false
sent_is_none t x channel h =
    ap (λ s. is_token s) (cond-false (is_in channel) sent.In (sent_where_ready channel (packet_ready t x channel)) h) ∙ ready_is_none channel (packet_ready t x channel)

outcome_out : (t : Table) (channel : Channel) (s : HostSent) (reply : BusAnswer) → is_sent s ≡ true → is_token s ≡ false
    → outcome_of t channel s reply ≡ Some (out_outcome reply)
outcome_out t channel sent.Idle reply some none = absurd (false≢true some)
outcome_out t channel (sent.Setup bytes) reply some none = refl
outcome_out t channel (sent.Out toggle bytes) reply some none = refl
outcome_out t channel sent.In reply some none = absurd (true≢false none)

taker_sends : (t : Table) (addr ep x : ℕ) → taker t addr ep ≡ Some x → is_sent (sent_by t x (channel_at t x)) ≡ true
taker_sends t addr ep x e =
    let c = channel_at t x in
    (and_parts (asks addr ep c) (is_sent (sent_by t x c)) (lowest_takes t addr ep x e).has).1

out_step : (t : Table) (addr ep x : ℕ) (reply : BusAnswer) → taker t addr ep ≡ Some x → is_in (channel_at t x) ≡ false
    → after_xact t addr ep reply ≡ after_some t x (Some (out_outcome reply))
out_step t addr ep x reply e h =
    let c = channel_at t x in
    ap (λ o. after_answer t o reply) e
    ∙ ap (λ o. after_some t x o) (outcome_out t c (sent_by t x c) reply (taker_sends t addr ep x e) (sent_is_none t x c h))

out_answered : (t : Table) (addr ep x : ℕ) → taker t addr ep ≡ Some x → is_in (channel_at t x) ≡ false
    → OutAnswered t x (channel_at t x).interrupts (λ answered. after_xact t addr ep answered)
out_answered t addr ep x e h =
    let it : Interrupts = (channel_at t x).interrupts in
    let inside = taker_inside t addr ep x e in
    let Step : BusAnswer → Table = λ reply. after_some t x (Some (out_outcome reply)) in
    record {
      ack = moved (λ new. EndsWith t x (completed it) new) (after_xact t addr ep answers.Ack) (Step answers.Ack) (out_step t addr ep x answers.Ack e h) (ends t x (completed it) inside);
      nak = out_step t addr ep x answers.Nak e h;
      stall = moved (λ new. EndsWith t x (with_stall it) new) (after_xact t addr ep answers.Stall) (Step answers.Stall) (out_step t addr ep x answers.Stall e h) (ends t x (with_stall it) inside);
      none = moved (λ new. EndsWith t x (with_error it) new) (after_xact t addr ep answers.NoAnswer) (Step answers.NoAnswer) (out_step t addr ep x answers.NoAnswer e h) (ends t x (with_error it) inside);
      done = moved (λ new. EndsWith t x (with_error it) new) (after_xact t addr ep answers.Done) (Step answers.Done) (out_step t addr ep x answers.Done e h) (ends t x (with_error it) inside);
      content = λ toggle bytes. moved (λ new. EndsWith t x (with_error it) new) (after_xact t addr ep (answers.Data toggle bytes)) (Step (answers.Data toggle bytes)) (out_step t addr ep x (answers.Data toggle bytes) e h) (ends t x (with_error it) inside);
    }

-- An IN token.

token_step : (t : Table) (addr ep x : ℕ) (reply : BusAnswer) → taker t addr ep ≡ Some x → is_in (channel_at t x) ≡ true
    → after_xact t addr ep reply ≡ after_some t x (Some (in_outcome t (channel_at t x) reply))
token_step t addr ep x reply e h =
    let c = channel_at t x in
    ap (λ o. after_answer t o reply) e
    ∙ ap (λ s. after_some t x (outcome_of t c s reply)) (cond-true (is_in c) sent.In (sent_where_ready c (packet_ready t x c)) h)

-- what comes of data
too_long : (t : Table) (c : Channel) (toggle : Toggle) (bytes : List ℕ) → packet_size c < length bytes → data_outcome t c toggle bytes ≡ unanswered
too_long t c toggle bytes h = rw (lt-ltb (packet_size c) (length bytes) h) refl

other_pid : (t : Table) (c : Channel) (toggle : Toggle) (bytes : List ℕ) → length bytes ≤ packet_size c → same_toggle (toggle_of c) toggle ≡ false
    → data_outcome t c toggle bytes ≡ wrong_pid
other_pid t c toggle bytes fits pid = rw (le-ltb (packet_size c) (length bytes) fits, pid) refl

no_room : (t : Table) (c : Channel) (toggle : Toggle) (bytes : List ℕ) → length bytes ≤ packet_size c → same_toggle (toggle_of c) toggle ≡ true
    → room_of t.rx < 2 + word_count (length bytes) → data_outcome t c toggle bytes ≡ unanswered
no_room t c toggle bytes fits pid full =
    rw (le-ltb (packet_size c) (length bytes) fits, pid, lt-leb (2 + word_count (length bytes)) (room_of t.rx) full) refl

it_lands : (t : Table) (c : Channel) (toggle : Toggle) (bytes : List ℕ) → length bytes ≤ packet_size c → same_toggle (toggle_of c) toggle ≡ true
    → 2 + word_count (length bytes) ≤ room_of t.rx → data_outcome t c toggle bytes ≡ lands toggle bytes
it_lands t c toggle bytes fits pid room =
    rw (le-ltb (packet_size c) (length bytes) fits, pid, le-leb (2 + word_count (length bytes)) (room_of t.rx) room) refl

data_step : (t : Table) (addr ep x : ℕ) (toggle : Toggle) (bytes : List ℕ) (outcome : Outcome) → taker t addr ep ≡ Some x → is_in (channel_at t x) ≡ true
    → data_outcome t (channel_at t x) toggle bytes ≡ outcome → after_xact t addr ep (answers.Data toggle bytes) ≡ after_some t x (Some outcome)
data_step t addr ep x toggle bytes outcome e h is =
    token_step t addr ep x (answers.Data toggle bytes) e h ∙ ap (λ o. after_some t x (Some o)) is

data_answered : (t : Table) (addr ep x : ℕ) (toggle : Toggle) (bytes : List ℕ) → taker t addr ep ≡ Some x → is_in (channel_at t x) ≡ true
    → DataAnswered t x (channel_at t x).interrupts toggle bytes (after_xact t addr ep (answers.Data toggle bytes))
data_answered t addr ep x toggle bytes e h =
    let c = channel_at t x in
    let it : Interrupts = c.interrupts in
    let inside = taker_inside t addr ep x e in
    let new : Table = after_xact t addr ep (answers.Data toggle bytes) in
    let Silent : Table → Type 0 = λ s. EndsWith t x (with_error it) s in
    record {
      too_long = λ long. moved Silent new (after_some t x (Some unanswered)) (data_step t addr ep x toggle bytes unanswered e h (too_long t c toggle bytes long)) (ends t x (with_error it) inside);
      other_pid = λ fits pid. data_step t addr ep x toggle bytes wrong_pid e h (other_pid t c toggle bytes fits pid);
      no_room = λ fits pid full. moved Silent new (after_some t x (Some unanswered)) (data_step t addr ep x toggle bytes unanswered e h (no_room t c toggle bytes fits pid full)) (ends t x (with_error it) inside);
      lands = λ fits pid room. data_step t addr ep x toggle bytes (lands toggle bytes) e h (it_lands t c toggle bytes fits pid room);
    }

token_answered : (t : Table) (addr ep x : ℕ) → taker t addr ep ≡ Some x → is_in (channel_at t x) ≡ true
    → InTokenAnswered t x (channel_at t x).interrupts (λ answered. after_xact t addr ep answered)
token_answered t addr ep x e h =
    let it : Interrupts = (channel_at t x).interrupts in
    let inside = taker_inside t addr ep x e in
    let Step : BusAnswer → Table = λ reply. after_some t x (Some (in_outcome t (channel_at t x) reply)) in
    record {
      ack = moved (λ new. EndsWith t x (with_error it) new) (after_xact t addr ep answers.Ack) (Step answers.Ack) (token_step t addr ep x answers.Ack e h) (ends t x (with_error it) inside);
      nak = token_step t addr ep x answers.Nak e h;
      stall = moved (λ new. EndsWith t x (with_stall it) new) (after_xact t addr ep answers.Stall) (Step answers.Stall) (token_step t addr ep x answers.Stall e h) (ends t x (with_stall it) inside);
      none = moved (λ new. EndsWith t x (with_error it) new) (after_xact t addr ep answers.NoAnswer) (Step answers.NoAnswer) (token_step t addr ep x answers.NoAnswer e h) (ends t x (with_error it) inside);
      done = moved (λ new. EndsWith t x (with_error it) new) (after_xact t addr ep answers.Done) (Step answers.Done) (token_step t addr ep x answers.Done e h) (ends t x (with_error it) inside);
      content = λ toggle bytes. data_answered t addr ep x toggle bytes e h;
    }

pub answers_act : AnswersAct
answers_act t addr ep x e = record { out = λ h. out_answered t addr ep x e h; token = λ h. token_answered t addr ep x e h }
