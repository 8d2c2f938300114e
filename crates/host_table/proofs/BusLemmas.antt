-- What answers and a detach leave and do.
use Rattle.std.proofs.Common.{◌≡◌, ℕ, ◌<◌, List, length, true, false, Option, Some, None, ◌⊎◌, inl, inr, refl, ap, ap₂, sym, ◌∙◌, get_or-set_other, get_or-set_same}
use Rattle.std.specs.Prelude.{if◌then◌else◌}
use Rattle.std.proofs.lemmas.Bool.{cases_eq, both_ways}
use Rattle.usb_packet.specs.declared.bus.Toggle.{Toggle}
use Rattle.usb_packet.specs.declared.bus.BusAnswer.{BusAnswer}
use Rattle.usb_packet.specs.declared.bus.BusAnswer.TheVariants as answers
use Rattle.host_table.specs.declared.sent.HostSent.{HostSent}
use Rattle.host_table.specs.declared.sent.HostSent.TheVariants as sent
use Rattle.host_table.specs.State.{Table, Channel, Interrupts, no_channel, channel_at, with_channel}
use Rattle.host_table.specs.Bus.{Outcome, acked, naked, stalled, unanswered, wrong_pid, lands, taker, offer, offer_of, sent_by, ended, goes_on, data_landed, after_outcome, outcome_of, after_some, after_answer, disabled}
use Rattle.host_table.specs.Laws.{OthersSame, AnswerLeaves, BusLeavesOthers, DisabledIsSilent, DetachDisables, GoesOn, NakLeaves, Halted, HaltsOrLands, EndsHalt}
use Rattle.host_table.proofs.CountLemmas.{removed}
use Rattle.host_table.proofs.WriteLemmas.{set_leaves, removal_leaves, unchanged_leaves}
use Rattle.host_table.proofs.TakerLemmas.{taker_enabled, taker_inside, none_enabled, others_kept, sent_with, lowest-interrupts, kept-interrupts, hctsiz-interrupts}

-- Other channels.

landing_leaves : (t : Table) (x : ℕ) (toggle : Toggle) (bytes : List ℕ) → OthersSame x t (data_landed t x toggle bytes)
landing_leaves t x toggle bytes = record {
  channels = λ y h. get_or-set_other t.channels x y (disabled (channel_at t x)) no_channel h;
  nonperiodic = λ y h. refl;
  periodic = λ y h. refl;
  nonperiodic_begun = λ y h. refl;
  periodic_begun = λ y h. refl;
  port = refl;
  kept = refl;
  host = refl;
  device = refl;
}

ending_leaves : (t : Table) (x : ℕ) (it : Interrupts) → OthersSame x t (ended t x it)
ending_leaves t x it = removal_leaves t x (record (channel_at t x) { enabled = false; interrupts = it })

outcome_leaves : (t : Table) (x : ℕ) (it : Interrupts) (outcome : Outcome) → OthersSame x t (after_outcome t x it outcome)
outcome_leaves t x it acked = ending_leaves t x (record it { ack = true; xfrc = true; chh = true })
outcome_leaves t x it naked = set_leaves t x (record (channel_at t x) { interrupts = record it { nak = true } })
outcome_leaves t x it stalled = ending_leaves t x (record it { stall = true; chh = true })
outcome_leaves t x it unanswered = ending_leaves t x (record it { txerr = true; chh = true })
outcome_leaves t x it wrong_pid = set_leaves t x (record (channel_at t x) { interrupts = record it { dterr = true } })
outcome_leaves t x it (lands toggle bytes) = landing_leaves t x toggle bytes

some_leaves : (t : Table) (x : ℕ) (outcome : Option Outcome) → OthersSame x t (after_some t x outcome)
some_leaves t x None = unchanged_leaves t x
some_leaves t x (Some outcome) = outcome_leaves t x (channel_at t x).interrupts outcome

-- what comes of an answer, on the channel that took the bus
abbrev outcome_at : Table → ℕ → BusAnswer → Option Outcome
outcome_at t x answered = outcome_of t (channel_at t x) (sent_by t x (channel_at t x)) answered

answer_leaves : (t : Table) (o : Option ℕ) (answered : BusAnswer) → AnswerLeaves o t (after_answer t o answered)
answer_leaves t None answered = refl
answer_leaves t (Some x) answered = some_leaves t x (outcome_at t x answered)

pub bus_leaves_others : BusLeavesOthers
bus_leaves_others t addr ep answered = answer_leaves t (taker t addr ep) answered

-- A channel that isn't enabled.

silent : (t : Table) (x : ℕ) (answered : BusAnswer) (o : Option ℕ) → ((y : ℕ) → o ≡ Some y → (channel_at t y).enabled ≡ true)
    → (channel_at t x).enabled ≡ false → channel_at (after_answer t o answered) x ≡ channel_at t x
silent t x answered None takes h = refl
silent t x answered (Some y) takes h = elim (cases_eq x y) [
  | inl same ↦ absurd (both_ways (channel_at t x).enabled h (ap (λ n. (channel_at t n).enabled) same ∙ takes y refl))
  | inr other ↦ (some_leaves t y (outcome_at t y answered)).channels x other
]

pub disabled_is_silent : DisabledIsSilent
disabled_is_silent t addr ep x answered h = silent t x answered (taker t addr ep) (taker_enabled t addr ep) h

-- A detach.

pub detach_disables : DetachDisables
detach_disables t = record { channels = λ x. none_enabled t.channels x; idle = λ addr ep. refl; port = refl; others = λ x. others_kept t.channels x; rest = refl }

-- A NAK.

sent_same : (t : Table) (x y : ℕ) (it : Interrupts) → offer_of (goes_on t x it) (Some y) ≡ offer_of t (Some y)
sent_same t x y it = ap₂ (λ k s. sent_with t y k s) (kept-interrupts t.channels x y it) (hctsiz-interrupts t.channels x y it)

offer_same : (t : Table) (x : ℕ) (it : Interrupts) (o : Option ℕ) → offer_of (goes_on t x it) o ≡ offer_of t o
offer_same t x it None = refl
offer_same t x it (Some y) = sent_same t x y it

again : (t : Table) (x addr ep : ℕ) (it : Interrupts) → offer (goes_on t x it) addr ep ≡ offer t addr ep
again t x addr ep it =
    let Taker : Option ℕ → Option ℕ = λ o. if t.port.pena then o else None in
    ap (λ o. offer_of (goes_on t x it) (Taker o)) (lowest-interrupts t (goes_on t x it) 0 addr ep t.channels x it (λ y kept hctsiz. refl)) ∙ offer_same t x it (taker t addr ep)

still : (t : Table) (addr ep : ℕ) → GoesOn t t addr ep
still t addr ep = record { again = refl; nonperiodic = refl; periodic = refl; rx = refl }

nak_noted : (t : Table) (x addr ep : ℕ) → GoesOn t (after_some t x (Some naked)) addr ep
nak_noted t x addr ep = record {
  again = again t x addr ep (record (channel_at t x).interrupts { nak = true });
  nonperiodic = refl;
  periodic = refl;
  rx = refl;
}

nak_on : (t : Table) (x addr ep : ℕ) (channel : Channel) (s : HostSent) → GoesOn t (after_some t x (outcome_of t channel s answers.Nak)) addr ep
nak_on t x addr ep channel sent.Idle = still t addr ep
nak_on t x addr ep channel (sent.Setup bytes) = nak_noted t x addr ep
nak_on t x addr ep channel (sent.Out toggle bytes) = nak_noted t x addr ep
nak_on t x addr ep channel sent.In = nak_noted t x addr ep

nak_after : (t : Table) (addr ep : ℕ) (o : Option ℕ) → GoesOn t (after_answer t o answers.Nak) addr ep
nak_after t addr ep None = still t addr ep
nak_after t addr ep (Some x) = nak_on t x addr ep (channel_at t x) (sent_by t x (channel_at t x))

pub nak_leaves : NakLeaves
nak_leaves t addr ep = nak_after t addr ep (taker t addr ep)

-- The end of a transaction.

set_at : (t : Table) (x : ℕ) (channel : Channel) → x < length t.channels → channel_at (with_channel t x channel) x ≡ channel
set_at t x channel h = get_or-set_same t.channels x channel no_channel h

-- the parts of its end
halted : (t : Table) (x : ℕ) (it : Interrupts) → x < length t.channels → it.chh ≡ true
    → (it.xfrc ≡ true) ⊎ ((it.stall ≡ true) ⊎ (it.txerr ≡ true)) → Halted x t (ended t x it)
halted t x it h chh reason =
    let is : channel_at (ended t x it) x ≡ record (channel_at t x) { enabled = false; interrupts = it } =
    set_at t x (record (channel_at t x) { enabled = false; interrupts = it }) h in
    record {
      chh = ap (λ (c : Channel). c.interrupts.chh) is ∙ chh;
      reason = rw is reason;
      nonperiodic = λ few. removed x t.nonperiodic few;
      periodic = λ few. removed x t.periodic few;
    }

still_enabled : (t : Table) (x : ℕ) (it : Interrupts) → x < length t.channels → (channel_at t x).enabled ≡ true → (channel_at (goes_on t x it) x).enabled ≡ false → ⊥
still_enabled t x it h on off =
    both_ways (channel_at t x).enabled (sym (ap (λ (c : Channel). c.enabled) (set_at t x (record (channel_at t x) { interrupts = it }) h)) ∙ off) on

outcome_halts : (t : Table) (x : ℕ) (outcome : Option Outcome) → x < length t.channels → (channel_at t x).enabled ≡ true
    → (channel_at (after_some t x outcome) x).enabled ≡ false → HaltsOrLands x t (after_some t x outcome)
outcome_halts t x None h on off = absurd (both_ways (channel_at t x).enabled off on)
outcome_halts t x (Some acked) h on off = inl (halted t x (record (channel_at t x).interrupts { ack = true; xfrc = true; chh = true }) h refl (inl refl))
outcome_halts t x (Some naked) h on off = absurd (still_enabled t x (record (channel_at t x).interrupts { nak = true }) h on off)
outcome_halts t x (Some stalled) h on off = inl (halted t x (record (channel_at t x).interrupts { stall = true; chh = true }) h refl (inr (inl refl)))
outcome_halts t x (Some unanswered) h on off = inl (halted t x (record (channel_at t x).interrupts { txerr = true; chh = true }) h refl (inr (inr refl)))
outcome_halts t x (Some wrong_pid) h on off = absurd (still_enabled t x (record (channel_at t x).interrupts { dterr = true }) h on off)
outcome_halts t x (Some (lands toggle bytes)) h on off = inr (toggle, bytes, refl)

ends_from : (t : Table) (x : ℕ) (answered : BusAnswer) (o : Option ℕ) → o ≡ Some x → x < length t.channels → (channel_at t x).enabled ≡ true
    → (channel_at (after_answer t o answered) x).enabled ≡ false → HaltsOrLands x t (after_answer t o answered)
ends_from t x answered o is h on off =
    rw is (outcome_halts t x (outcome_at t x answered) h on (sym (ap (λ (p : Option ℕ). (channel_at (after_answer t p answered) x).enabled) is) ∙ off))

pub ends_halt : EndsHalt
ends_halt t addr ep x answered takes off =
    ends_from t x answered (taker t addr ep) takes (taker_inside t addr ep x takes) (taker_enabled t addr ep x takes) off
