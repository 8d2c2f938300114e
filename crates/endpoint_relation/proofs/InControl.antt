-- What the words that are written to DIEPCTLx do.
use Rattle.std.proofs.Common.{◌≡◌, ℕ, ◌+◌, ◌*◌, ◌^◌, ◌<◌, ◌≤◌, Bool, true, false, refl, ap, ◌∙◌, arith, subst}
use Rattle.std.specs.Prelude.{◌/◌, ◌%◌, ◌==◌, ◌&&◌, ◌||◌, not}
use Rattle.std.proofs.lemmas.Bool.{or_right}
use Rattle.usb_descriptor.specs.declared.endpoint.Endpoint.{Endpoint}
use Rattle.usb_descriptor.specs.declared.endpoint.EpKind.{EpKind}
use Rattle.usb_descriptor.specs.declared.endpoint.EpKind.TheVariants.{Bulk, Interrupt}
use Rattle.dwc2_regs.specs.declared.TheConstants.{DIEPCTL_STALL, DIEPCTL_CNAK, DIEPCTL_SNAK, DIEPCTL_SD0PID, DIEPCTL_EPDIS, DIEPCTL_EPENA}
use Rattle.dwc2_regs.specs.Field.{field_of}
use Rattle.device_table.specs.State.{Control}
use Rattle.device_table.specs.Words.{flag, kept_bits}
use Rattle.device_table.specs.Write.{control_written}
use Rattle.endpoint_relation.specs.InWords.{in_type, in_open_bits, in_base, in_stall_bit, in_cnak, in_snak_epena, in_snak_epdis, in_snak_sd0pid, in_snak_sd0pid_epdis}

abbrev bit : Bool → ℕ
bit true = 1
bit false = 0

-- the bits of an open endpoint, and some that aren't kept: STALL, CNAK, SNAK, SD0PID, EPDIS and EPENA
abbrev with_bits : ℕ → ℕ → ℕ → (st cn sn sd ed ee : ℕ) → ℕ
with_bits s k m st cn sn sd ed ee = s + 2 ^ 15 + 2 ^ 18 * k + 2 ^ 22 * m + 2 ^ 21 * st + 2 ^ 26 * cn + 2 ^ 27 * sn + 2 ^ 28 * sd + 2 ^ 30 * ed + 2 ^ 31 * ee

kept_parts : (word : ℕ) → word < 2 ^ 32
    → kept_bits word ≡ word % 2 ^ 17 + word / 2 ^ 18 % 2 ^ 3 * 2 ^ 18 + word / 2 ^ 22 % 2 ^ 4 * 2 ^ 22 + word / 2 ^ 29 % 2 * 2 ^ 29
kept_parts word h = omega arith

record Bits (word kept st cn sn sd ed ee : ℕ) : Type 0 where
  keeps : kept_bits word ≡ kept
  stall : field_of word DIEPCTL_STALL ≡ st
  cnak : field_of word DIEPCTL_CNAK ≡ cn
  snak : field_of word DIEPCTL_SNAK ≡ sn
  sd0pid : field_of word DIEPCTL_SD0PID ≡ sd
  epdis : field_of word DIEPCTL_EPDIS ≡ ed
  epena : field_of word DIEPCTL_EPENA ≡ ee

bits_are : (s k m st cn sn sd ed ee : ℕ) → s ≤ 64 → k ≤ 3 → m ≤ 15 → st ≤ 1 → cn ≤ 1 → sn ≤ 1 → sd ≤ 1 → ed ≤ 1 → ee ≤ 1
    → Bits (with_bits s k m st cn sn sd ed ee) (s + 2 ^ 15 + 2 ^ 18 * k + 2 ^ 22 * m) st cn sn sd ed ee
bits_are s k m st cn sn sd ed ee a b c d e f g h i = record {
  keeps = kept_parts (with_bits s k m st cn sn sd ed ee) (omega arith) ∙ omega arith;
  stall = omega arith;
  cnak = omega arith;
  snak = omega arith;
  sd0pid = omega arith;
  epdis = omega arith;
  epena = omega arith;
}

same_bit : (b : Bool) → (bit b == 1) ≡ b
same_bit true = refl
same_bit false = refl

-- what a word with these bits leaves of a control register
abbrev after_bits : Control → (kept : ℕ) → (st cn sn ed ee : Bool) → Control
after_bits c kept st cn sn ed ee = record { kept = kept; nak = (c.nak || sn) && not (true && cn); stall = st; enabled = (c.enabled && not ed) || ee }

written_bits : (c : Control) (word kept : ℕ) (st cn sn sd ed ee : Bool) → Bits word kept (bit st) (bit cn) (bit sn) (bit sd) (bit ed) (bit ee)
    → control_written true c word ≡ after_bits c kept st cn sn ed ee
written_bits c word kept st cn sn sd ed ee h =
    let f = λ (field : ℕ) (b : Bool) (e : field ≡ bit b). ap (λ x. x == 1) e ∙ same_bit b in
    ap (λ k. after_bits c k (flag word DIEPCTL_STALL) (flag word DIEPCTL_CNAK) (flag word DIEPCTL_SNAK) (flag word DIEPCTL_EPDIS) (flag word DIEPCTL_EPENA)) h.keeps
    ∙ ap (λ x. after_bits c kept x (flag word DIEPCTL_CNAK) (flag word DIEPCTL_SNAK) (flag word DIEPCTL_EPDIS) (flag word DIEPCTL_EPENA)) (f _ st h.stall)
    ∙ ap (λ x. after_bits c kept st x (flag word DIEPCTL_SNAK) (flag word DIEPCTL_EPDIS) (flag word DIEPCTL_EPENA)) (f _ cn h.cnak)
    ∙ ap (λ x. after_bits c kept st cn x (flag word DIEPCTL_EPDIS) (flag word DIEPCTL_EPENA)) (f _ sn h.snak)
    ∙ ap (λ x. after_bits c kept st cn sn x (flag word DIEPCTL_EPENA)) (f _ ed h.epdis)
    ∙ ap (λ x. after_bits c kept st cn sn ed x) (f _ ee h.epena)

type_few : (k : EpKind) → in_type k ≤ 3
type_few Bulk = omega arith
type_few Interrupt = omega arith

bit_few : (b : Bool) → bit b ≤ 1
bit_few true = omega arith
bit_few false = omega arith

stall_is : (b : Bool) → in_stall_bit b ≡ 2 ^ 21 * bit b
stall_is true = refl
stall_is false = refl

-- the word of an open endpoint with bits that act
bits_with : (number : ℕ) (e : Endpoint) (st cn sn sd ed ee : Bool) (acts : ℕ) → e.size ≤ 64 → number ≤ 15
    → acts ≡ 2 ^ 26 * bit cn + 2 ^ 27 * bit sn + 2 ^ 28 * bit sd + 2 ^ 30 * bit ed + 2 ^ 31 * bit ee
    → Bits (in_base number e st + acts) (in_open_bits number e) (bit st) (bit cn) (bit sn) (bit sd) (bit ed) (bit ee)
bits_with number e st cn sn sd ed ee acts few small is =
    let b = bits_are e.size (in_type e.kind) number (bit st) (bit cn) (bit sn) (bit sd) (bit ed) (bit ee) few (type_few e.kind) small
    (bit_few st) (bit_few cn) (bit_few sn) (bit_few sd) (bit_few ed) (bit_few ee) in
    let same : with_bits e.size (in_type e.kind) number (bit st) (bit cn) (bit sn) (bit sd) (bit ed) (bit ee) ≡ in_base number e st + acts =
    let s = stall_is st in omega arith in
    subst (λ w. Bits w (in_open_bits number e) (bit st) (bit cn) (bit sn) (bit sd) (bit ed) (bit ee)) same b

with_acts : (number : ℕ) (e : Endpoint) (st cn sn sd ed ee : Bool) (acts : ℕ) (c : Control) → e.size ≤ 64 → number ≤ 15
    → acts ≡ 2 ^ 26 * bit cn + 2 ^ 27 * bit sn + 2 ^ 28 * bit sd + 2 ^ 30 * bit ed + 2 ^ 31 * bit ee
    → control_written true c (in_base number e st + acts) ≡ after_bits c (in_open_bits number e) st cn sn ed ee
with_acts number e st cn sn sd ed ee acts c few small is =
    written_bits c (in_base number e st + acts) (in_open_bits number e) st cn sn sd ed ee (bits_with number e st cn sn sd ed ee acts few small is)

pub or_false : (b : Bool) → (b || false) ≡ b
or_false true = refl
or_false false = refl

and_true : (b : Bool) → (b && true) ≡ b
and_true true = refl
and_true false = refl

and_false : (b : Bool) → (b && false) ≡ false
and_false true = refl
and_false false = refl

-- Each word.

abbrev pub control_is : ℕ → Bool → Bool → Bool → Control
control_is kept nak stall enabled = record { kept = kept; nak = nak; stall = stall; enabled = enabled }

pub snak_epena_is : (number : ℕ) (e : Endpoint) (st : Bool) (c : Control) → e.size ≤ 64 → number ≤ 15
    → control_written true c (in_base number e st + in_snak_epena) ≡ control_is (in_open_bits number e) true st true
snak_epena_is number e st c few small =
    with_acts number e st false true false false true in_snak_epena c few small refl
    ∙ ap (λ x. control_is (in_open_bits number e) (x && true) st ((c.enabled && true) || true)) (or_right c.nak true refl)
    ∙ ap (control_is (in_open_bits number e) true st) (or_right (c.enabled && true) true refl)

pub cnak_is : (number : ℕ) (e : Endpoint) (st : Bool) (c : Control) → e.size ≤ 64 → number ≤ 15
    → control_written true c (in_base number e st + in_cnak) ≡ control_is (in_open_bits number e) false st c.enabled
cnak_is number e st c few small =
    with_acts number e st true false false false false in_cnak c few small refl
    ∙ ap (λ x. control_is (in_open_bits number e) x st ((c.enabled && true) || false)) (and_false (c.nak || false))
    ∙ ap (λ x. control_is (in_open_bits number e) false st x) (or_false (c.enabled && true) ∙ and_true c.enabled)

pub nothing_is : (number : ℕ) (e : Endpoint) (st : Bool) (c : Control) → e.size ≤ 64 → number ≤ 15
    → control_written true c (in_base number e st + 0) ≡ control_is (in_open_bits number e) c.nak st c.enabled
nothing_is number e st c few small =
    with_acts number e st false false false false false 0 c few small refl
    ∙ ap (λ x. control_is (in_open_bits number e) x st ((c.enabled && true) || false)) (and_true (c.nak || false) ∙ or_false c.nak)
    ∙ ap (λ x. control_is (in_open_bits number e) c.nak st x) (or_false (c.enabled && true) ∙ and_true c.enabled)

pub snak_epdis_is : (number : ℕ) (e : Endpoint) (st : Bool) (c : Control) → e.size ≤ 64 → number ≤ 15
    → control_written true c (in_base number e st + in_snak_epdis) ≡ control_is (in_open_bits number e) true st false
snak_epdis_is number e st c few small =
    with_acts number e st false true false true false in_snak_epdis c few small refl
    ∙ ap (λ x. control_is (in_open_bits number e) (x && true) st ((c.enabled && false) || false)) (or_right c.nak true refl)
    ∙ ap (λ x. control_is (in_open_bits number e) true st (x || false)) (and_false c.enabled)

pub snak_sd0pid_epdis_is : (number : ℕ) (e : Endpoint) (st : Bool) (c : Control) → e.size ≤ 64 → number ≤ 15
    → control_written true c (in_base number e st + in_snak_sd0pid_epdis) ≡ control_is (in_open_bits number e) true st false
snak_sd0pid_epdis_is number e st c few small =
    with_acts number e st false true true true false in_snak_sd0pid_epdis c few small refl
    ∙ ap (λ x. control_is (in_open_bits number e) (x && true) st ((c.enabled && false) || false)) (or_right c.nak true refl)
    ∙ ap (λ x. control_is (in_open_bits number e) true st (x || false)) (and_false c.enabled)

pub snak_sd0pid_is : (number : ℕ) (e : Endpoint) (st : Bool) (c : Control) → e.size ≤ 64 → number ≤ 15
    → control_written true c (in_base number e st + in_snak_sd0pid) ≡ control_is (in_open_bits number e) true st c.enabled
snak_sd0pid_is number e st c few small =
    with_acts number e st false true true false false in_snak_sd0pid c few small refl
    ∙ ap (λ x. control_is (in_open_bits number e) (x && true) st ((c.enabled && true) || false)) (or_right c.nak true refl)
    ∙ ap (λ x. control_is (in_open_bits number e) true st x) (or_false (c.enabled && true) ∙ and_true c.enabled)

-- a closed endpoint keeps nothing
pub closed_is : (c : Control) → control_written true c in_snak_epdis ≡ control_is 0 true false false
closed_is c =
    ap (λ x. control_is 0 (x && true) false ((c.enabled && false) || false)) (or_right c.nak true refl)
    ∙ ap (λ x. control_is 0 true false (x || false)) (and_false c.enabled)

-- whether the next packet gets DATA0

pub sets_toggle : (number : ℕ) (e : Endpoint) (st : Bool) (cn sn ed ee : Bool) (acts : ℕ) → e.size ≤ 64 → number ≤ 15
    → acts ≡ 2 ^ 26 * bit cn + 2 ^ 27 * bit sn + 2 ^ 28 + 2 ^ 30 * bit ed + 2 ^ 31 * bit ee
    → flag (in_base number e st + acts) DIEPCTL_SD0PID ≡ true
sets_toggle number e st cn sn ed ee acts few small is =
    ap (λ x. x == 1) (bits_with number e st cn sn true ed ee acts few small (omega arith)).sd0pid

pub leaves_toggle : (number : ℕ) (e : Endpoint) (st : Bool) (cn sn ed ee : Bool) (acts : ℕ) → e.size ≤ 64 → number ≤ 15
    → acts ≡ 2 ^ 26 * bit cn + 2 ^ 27 * bit sn + 2 ^ 30 * bit ed + 2 ^ 31 * bit ee
    → flag (in_base number e st + acts) DIEPCTL_SD0PID ≡ false
leaves_toggle number e st cn sn ed ee acts few small is =
    ap (λ x. x == 1) (bits_with number e st cn sn false ed ee acts few small (omega arith)).sd0pid

-- and whether EPDISD is set

pub leaves_enabled : (number : ℕ) (e : Endpoint) (st : Bool) (cn sn sd ee : Bool) (acts : ℕ) → e.size ≤ 64 → number ≤ 15
    → acts ≡ 2 ^ 26 * bit cn + 2 ^ 27 * bit sn + 2 ^ 28 * bit sd + 2 ^ 31 * bit ee
    → flag (in_base number e st + acts) DIEPCTL_EPDIS ≡ false
leaves_enabled number e st cn sn sd ee acts few small is =
    ap (λ x. x == 1) (bits_with number e st cn sn sd false ee acts few small (omega arith)).epdis
