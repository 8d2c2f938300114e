-- Which channel takes the bus.
use Rattle.std.proofs.Common.{◌≡◌, ℕ, zero, suc, ◌+◌, ◌<◌, List, [], ◌∷◌, length, Bool, true, false, Option, Some, None, ◌⊎◌, inl, inr, refl, ap, ap₂, sym, ◌∙◌, arith}
use Rattle.std.specs.Prelude.{◌&&◌, if◌then◌else◌, slice_index_or, slice_set, is_some, map}
use Rattle.std.proofs.lemmas.Bool.{cases_Bool, and_parts, false≢true, cond-true, cond-false}
use Rattle.host_table.specs.declared.sent.HostSent.{HostSent}
use Rattle.host_table.specs.declared.sent.HostSent.TheVariants as sent
use Rattle.host_table.specs.State.{Table, Channel, Interrupts, no_channel, channel_at}
use Rattle.host_table.specs.Words.{speaks_to}
use Rattle.host_table.specs.Bus.{sent_by, asks, is_sent, can_take, lowest_from, taker, offer_of, disabled}
use Rattle.host_table.specs.Laws.{IsLowest, LowestTakes, LowestIsTaker, NobodyTakes, IdleWhere}

abbrev number_in : Option ℕ → ℕ
number_in None = 0
number_in (Some n) = n

no_number : (x : ℕ) → None ≡ Some x → ⊥
no_number x e = false≢true (ap (λ (o : Option ℕ). is_some o) e)

-- Number and place of a channel, in a row of channels of which the first has this number.

from_next : (number at : ℕ) → suc number + at ≡ number + suc at
from_next number at = omega arith

from_first : (number : ℕ) → number + 0 ≡ number
from_first number = omega arith

abbrev takes_at : Table → ℕ → ℕ → ℕ → List Channel → ℕ → Bool
takes_at t number addr ep channels at = can_take t addr ep (number + at) (slice_index_or channels at no_channel)

takes_next : (t : Table) (number addr ep at : ℕ) (channel : Channel) (channels : List Channel)
    → takes_at t (suc number) addr ep channels at ≡ takes_at t number addr ep (channel ∷ channels) (suc at)
takes_next t number addr ep at channel channels =
    ap (λ n. can_take t addr ep n (slice_index_or channels at no_channel)) (from_next number at)

takes_first : (t : Table) (number addr ep : ℕ) (channel : Channel) (channels : List Channel)
    → takes_at t number addr ep (channel ∷ channels) 0 ≡ can_take t addr ep number channel
takes_first t number addr ep channel channels = ap (λ n. can_take t addr ep n channel) (from_first number)

-- in the row of all channels number and place are the same
at_zero : (t : Table) (addr ep x : ℕ) → takes_at t 0 addr ep t.channels x ≡ can_take t addr ep x (channel_at t x)
at_zero t addr ep x = ap (λ n. can_take t addr ep n (channel_at t x)) (from_zero x)
  where
    from_zero : (n : ℕ) → 0 + n ≡ n
    from_zero n = omega arith

-- a channel so many places from the first on can take the bus, and none before it can
record Stands (t : Table) (number addr ep x : ℕ) (channels : List Channel) : Type 0 where
  at : ℕ
  place : x ≡ number + at
  has : takes_at t number addr ep channels at ≡ true
  lower : (y : ℕ) → y < at → takes_at t number addr ep channels y ≡ false

none_below : (y : ℕ) → y < 0 → ⊥
none_below y h = omega arith

below : (y n : ℕ) → suc y < suc n → y < n
below y n h = omega arith

lower_ones : (t : Table) (number addr ep at : ℕ) (channel : Channel) (channels : List Channel) → can_take t addr ep number channel ≡ false
    → ((y : ℕ) → y < at → takes_at t (suc number) addr ep channels y ≡ false)
    → (y : ℕ) → y < suc at → takes_at t number addr ep (channel ∷ channels) y ≡ false
lower_ones t number addr ep at channel channels not_it lower zero h = takes_first t number addr ep channel channels ∙ not_it
lower_ones t number addr ep at channel channels not_it lower (suc y) h =
    sym (takes_next t number addr ep y channel channels) ∙ lower y (below y at h)

moved : (x number at : ℕ) → x ≡ suc number + at → x ≡ number + suc at
moved x number at e = omega arith

stands : (t : Table) (number addr ep x : ℕ) (channels : List Channel) → lowest_from t number addr ep channels ≡ Some x → Stands t number addr ep x channels
stands t number addr ep x [] e = absurd (no_number x e)
stands t number addr ep x (channel ∷ channels) e = elim (cases_Bool (can_take t addr ep number channel)) [
  | inl it ↦
      let here : number ≡ x = ap number_in (sym (cond-true (can_take t addr ep number channel) (Some number) (lowest_from t (suc number) addr ep channels) it) ∙ e) in
      record {
        at = 0;
        place = omega (arith, here);
        has = takes_first t number addr ep channel channels ∙ it;
        lower = λ y h. absurd (none_below y h);
      }
  | inr not_it ↦
      let rest = stands t (suc number) addr ep x channels (sym (cond-false (can_take t addr ep number channel) (Some number) (lowest_from t (suc number) addr ep channels) not_it) ∙ e) in
      record {
        at = suc rest.at;
        place = moved x number rest.at rest.place;
        has = sym (takes_next t number addr ep rest.at channel channels) ∙ rest.has;
        lower = lower_ones t number addr ep rest.at channel channels not_it rest.lower;
      }
]

at_place : (t : Table) (addr ep x : ℕ) → t.port.pena ≡ true → Stands t 0 addr ep x t.channels → IsLowest t addr ep x
at_place t addr ep x on st =
    let same : st.at ≡ x = omega (arith, st.place) in
    record {
      port = on;
      has = ap (λ n. can_take t addr ep n (channel_at t n)) (sym same) ∙ sym (at_zero t addr ep st.at) ∙ st.has;
      lower = λ y h. sym (at_zero t addr ep y) ∙ st.lower y (omega (arith, same));
    }

pub lowest_takes : LowestTakes
lowest_takes t addr ep x e = elim (cases_Bool t.port.pena) [
  | inl on ↦ at_place t addr ep x on (stands t 0 addr ep x t.channels (sym (cond-true t.port.pena (lowest_from t 0 addr ep t.channels) None on) ∙ e))
  | inr off ↦ absurd (no_number x (sym (cond-false t.port.pena (lowest_from t 0 addr ep t.channels) None off) ∙ e))
]

-- the other way round: the lowest that can takes it
found : (t : Table) (number addr ep at : ℕ) (channels : List Channel) → takes_at t number addr ep channels at ≡ true
    → ((y : ℕ) → y < at → takes_at t number addr ep channels y ≡ false) → lowest_from t number addr ep channels ≡ Some (number + at)
found t number addr ep at [] has lower = absurd (false≢true has)
found t number addr ep zero (channel ∷ channels) has lower =
    cond-true (can_take t addr ep number channel) (Some number) (lowest_from t (suc number) addr ep channels) (sym (takes_first t number addr ep channel channels) ∙ has)
    ∙ ap (λ n. Some n) (sym (from_first number))
found t number addr ep (suc at) (channel ∷ channels) has lower =
    cond-false (can_take t addr ep number channel) (Some number) (lowest_from t (suc number) addr ep channels) (sym (takes_first t number addr ep channel channels) ∙ lower 0 (first_below at))
    ∙ found t (suc number) addr ep at channels (takes_next t number addr ep at channel channels ∙ has) (λ y h. takes_next t number addr ep y channel channels ∙ lower (suc y) (above y at h))
    ∙ ap (λ n. Some n) (from_next number at)
  where
    first_below : (n : ℕ) → 0 < suc n
    first_below n = omega arith

    above : (y n : ℕ) → y < n → suc y < suc n
    above y n h = omega arith

pub lowest_is_taker : LowestIsTaker
lowest_is_taker t addr ep x is =
    cond-true t.port.pena (lowest_from t 0 addr ep t.channels) None is.port ∙ found t 0 addr ep x t.channels (at_zero t addr ep x ∙ is.has) (λ y h. at_zero t addr ep y ∙ is.lower y h)
    ∙ ap (λ n. Some n) (from_zero x)
  where
    from_zero : (n : ℕ) → 0 + n ≡ n
    from_zero n = omega arith

-- where none can, none does
none_found : (t : Table) (number addr ep : ℕ) (channels : List Channel) → ((y : ℕ) → takes_at t number addr ep channels y ≡ false) → lowest_from t number addr ep channels ≡ None
none_found t number addr ep [] none = refl
none_found t number addr ep (channel ∷ channels) none =
    cond-false (can_take t addr ep number channel) (Some number) (lowest_from t (suc number) addr ep channels) (sym (takes_first t number addr ep channel channels) ∙ none 0)
    ∙ none_found t (suc number) addr ep channels (λ y. takes_next t number addr ep y channel channels ∙ none (suc y))

pub nobody_takes : NobodyTakes
nobody_takes t addr ep = record {
  port = λ off. cond-false t.port.pena (lowest_from t 0 addr ep t.channels) None off;
  channels = λ none. elim (cases_Bool t.port.pena) [
    | inl on ↦ cond-true t.port.pena (lowest_from t 0 addr ep t.channels) None on ∙ none_found t 0 addr ep t.channels (λ y. at_zero t addr ep y ∙ none y)
    | inr off ↦ cond-false t.port.pena (lowest_from t 0 addr ep t.channels) None off
  ];
}

-- where none does, none can
none_can : (t : Table) (number addr ep : ℕ) (channels : List Channel) → lowest_from t number addr ep channels ≡ None
    → (y : ℕ) → takes_at t number addr ep channels y ≡ false
none_can t number addr ep [] e y = refl
none_can t number addr ep (channel ∷ channels) e y = elim (cases_Bool (can_take t addr ep number channel)) [
  | inl it ↦ absurd (no_number number (sym e ∙ cond-true (can_take t addr ep number channel) (Some number) (lowest_from t (suc number) addr ep channels) it))
  | inr not_it ↦
      none_can_from t number addr ep y channel channels not_it
      (none_can t (suc number) addr ep channels (sym (cond-false (can_take t addr ep number channel) (Some number) (lowest_from t (suc number) addr ep channels) not_it) ∙ e))
]
  where
    none_can_from : (t : Table) (number addr ep y : ℕ) (channel : Channel) (channels : List Channel) → can_take t addr ep number channel ≡ false
        → ((z : ℕ) → takes_at t (suc number) addr ep channels z ≡ false) → takes_at t number addr ep (channel ∷ channels) y ≡ false
    none_can_from t number addr ep zero channel channels not_it rest = takes_first t number addr ep channel channels ∙ not_it
    none_can_from t number addr ep (suc y) channel channels not_it rest = sym (takes_next t number addr ep y channel channels) ∙ rest y

none_takes : (t : Table) (addr ep : ℕ) → taker t addr ep ≡ None → (t.port.pena ≡ false) ⊎ ((x : ℕ) → can_take t addr ep x (channel_at t x) ≡ false)
none_takes t addr ep e = elim (cases_Bool t.port.pena) [
  | inl on ↦
      let none = none_can t 0 addr ep t.channels (sym (cond-true t.port.pena (lowest_from t 0 addr ep t.channels) None on) ∙ e) in
      inr (λ x. sym (at_zero t addr ep x) ∙ none x)
  | inr off ↦ inl off
]

-- the channel that takes the bus sends something
idle_none : (t : Table) (addr ep : ℕ) (o : Option ℕ) → taker t addr ep ≡ o → offer_of t o ≡ sent.Idle
    → (t.port.pena ≡ false) ⊎ ((x : ℕ) → can_take t addr ep x (channel_at t x) ≡ false)
idle_none t addr ep None e idle = none_takes t addr ep e
idle_none t addr ep (Some x) e idle =
    let c = channel_at t x in
    let sends : is_sent (sent_by t x c) ≡ true = (and_parts (asks addr ep c) (is_sent (sent_by t x c)) (lowest_takes t addr ep x e).has).1 in
    absurd (false≢true (sym (ap (λ (s : HostSent). is_sent s) idle) ∙ sends))

pub idle_where : IdleWhere
idle_where t addr ep = record {
  only = λ idle. idle_none t addr ep (taker t addr ep) refl idle;
  port = λ off. ap (λ (o : Option ℕ). offer_of t o) ((nobody_takes t addr ep).port off);
  channels = λ none. ap (λ (o : Option ℕ). offer_of t o) ((nobody_takes t addr ep).channels none);
}

-- the channel that takes the bus is enabled
pub taker_enabled : (t : Table) (addr ep x : ℕ) → taker t addr ep ≡ Some x → (channel_at t x).enabled ≡ true
taker_enabled t addr ep x e =
    let c = channel_at t x in
    let asked : asks addr ep c ≡ true = (and_parts (asks addr ep c) (is_sent (sent_by t x c)) (lowest_takes t addr ep x e).has).0 in
    (and_parts c.enabled (speaks_to addr ep c) asked).0

-- and is one that the controller has
enabled_inside : (channels : List Channel) (x : ℕ) → (slice_index_or channels x no_channel).enabled ≡ true → x < length channels
enabled_inside [] x e = absurd (false≢true e)
enabled_inside (channel ∷ channels) zero e = omega arith
enabled_inside (channel ∷ channels) (suc x) e = let rest = enabled_inside channels x e in omega arith

pub taker_inside : (t : Table) (addr ep x : ℕ) → taker t addr ep ≡ Some x → x < length t.channels
taker_inside t addr ep x e = enabled_inside t.channels x (taker_enabled t addr ep x e)

-- once all are disabled none asks
pub none_enabled : (channels : List Channel) (x : ℕ) → (slice_index_or (map disabled channels) x no_channel).enabled ≡ false
none_enabled [] x = refl
none_enabled (channel ∷ channels) zero = refl
none_enabled (channel ∷ channels) (suc x) = none_enabled channels x

pub others_kept : (channels : List Channel) (x : ℕ)
    → slice_index_or (map disabled channels) x no_channel ≡ record (slice_index_or channels x no_channel) { enabled = false }
others_kept [] x = refl
others_kept (channel ∷ channels) zero = refl
others_kept (channel ∷ channels) (suc x) = others_kept channels x

-- Interrupts alone change in one channel.

abbrev pub with_interrupts : List Channel → ℕ → Interrupts → List Channel
with_interrupts channels x it = slice_set channels x (record (slice_index_or channels x no_channel) { interrupts = it })

-- what a channel sends, by the parts that say it
abbrev pub sent_with : Table → ℕ → ℕ → ℕ → HostSent
sent_with t x kept hctsiz = sent_by t x (record no_channel { kept = kept; hctsiz = hctsiz })

lowest-fifos : (t new : Table) (number addr ep : ℕ) (channels : List Channel)
    → ((y kept hctsiz : ℕ) → sent_with new y kept hctsiz ≡ sent_with t y kept hctsiz)
    → lowest_from new number addr ep channels ≡ lowest_from t number addr ep channels
lowest-fifos t new number addr ep [] same = refl
lowest-fifos t new number addr ep (channel ∷ channels) same =
    let Lowest : HostSent → Option ℕ → Option ℕ = λ s rest. if asks addr ep channel && is_sent s then Some number else rest in
    ap₂ Lowest (same number channel.kept channel.hctsiz) (lowest-fifos t new (suc number) addr ep channels same)

-- by what a channel sends, which depends on the FIFOs, its control word and its transfer size
pub lowest-interrupts : (t new : Table) (number addr ep : ℕ) (channels : List Channel) (x : ℕ) (it : Interrupts)
    → ((y kept hctsiz : ℕ) → sent_with new y kept hctsiz ≡ sent_with t y kept hctsiz)
    → lowest_from new number addr ep (with_interrupts channels x it) ≡ lowest_from t number addr ep channels
lowest-interrupts t new number addr ep [] x it same = refl
lowest-interrupts t new number addr ep (channel ∷ channels) zero it same =
    let Lowest : HostSent → Option ℕ → Option ℕ = λ s rest. if asks addr ep channel && is_sent s then Some number else rest in
    ap₂ Lowest (same number channel.kept channel.hctsiz) (lowest-fifos t new (suc number) addr ep channels same)
lowest-interrupts t new number addr ep (channel ∷ channels) (suc x) it same =
    let Lowest : HostSent → Option ℕ → Option ℕ = λ s rest. if asks addr ep channel && is_sent s then Some number else rest in
    ap₂ Lowest (same number channel.kept channel.hctsiz) (lowest-interrupts t new (suc number) addr ep channels x it same)

pub kept-interrupts : (channels : List Channel) (x y : ℕ) (it : Interrupts)
    → (slice_index_or (with_interrupts channels x it) y no_channel).kept ≡ (slice_index_or channels y no_channel).kept
kept-interrupts [] x y it = refl
kept-interrupts (channel ∷ channels) zero zero it = refl
kept-interrupts (channel ∷ channels) zero (suc y) it = refl
kept-interrupts (channel ∷ channels) (suc x) zero it = refl
kept-interrupts (channel ∷ channels) (suc x) (suc y) it = kept-interrupts channels x y it

pub hctsiz-interrupts : (channels : List Channel) (x y : ℕ) (it : Interrupts)
    → (slice_index_or (with_interrupts channels x it) y no_channel).hctsiz ≡ (slice_index_or channels y no_channel).hctsiz
hctsiz-interrupts [] x y it = refl
hctsiz-interrupts (channel ∷ channels) zero zero it = refl
hctsiz-interrupts (channel ∷ channels) zero (suc y) it = refl
hctsiz-interrupts (channel ∷ channels) (suc x) zero it = refl
hctsiz-interrupts (channel ∷ channels) (suc x) (suc y) it = hctsiz-interrupts channels x y it
