-- What a control word of an OUT endpoint says, and what its write leaves in the registers.
use Rattle.std.proofs.Common.{◌≡◌, ℕ, ◌+◌, ◌*◌, ◌^◌, ◌<◌, ◌≤◌, List, [], ◌∷◌, Bool, true, false, inr, refl, ap, ◌∙◌, arith, subst}
use Rattle.std.specs.Prelude.{◌||◌, ◌&&◌, not, ◌==◌, if◌then◌else◌, IsTrue}
use Rattle.std.proofs.lemmas.Bool.{or_right}
use Rattle.std.proofs.lemmas.Bool.Decides.{nat_tests}
use Rattle.usb_packet.specs.declared.bus.Toggle.TheVariants.{D0}
use Rattle.usb_descriptor.specs.declared.endpoint.EpKind.{EpKind}
use Rattle.usb_descriptor.specs.declared.endpoint.EpKind.TheVariants.{Bulk, Interrupt}
use Rattle.dwc2_regs.specs.declared.bits.Field.{Field}
use Rattle.dwc2_regs.specs.declared.TheConstants.{DOEPCTL_SIZE, DOEPCTL_USBAEP, DOEPCTL_NAKSTS, DOEPCTL_STALL, DOEPCTL_CNAK, DOEPCTL_SNAK, DOEPCTL_SD0PID, DOEPCTL_EPDIS, DOEPCTL_EPENA}
use Rattle.dwc2_regs.specs.Field.{field_of, with_field}
use Rattle.dwc2_regs.proofs.FieldLemmas.{field_of-with_field, field_of-with_field-apart}
use Rattle.device_table.specs.State.{Control, OutEnd}
use Rattle.device_table.specs.Words.{flag, with_flag, cleared, kept_bits, control_word, size_counted}
use Rattle.device_table.specs.Write.{out_control_written}
use Rattle.endpoint_relation.specs.declared.out_.OutEndpoint.{OutEndpoint}
use Rattle.endpoint_relation.specs.OutWords.{type_of, stall_if, base, shows_stall, arm_word, data0_word, open_word, one_packet}
use Rattle.endpoint_relation.specs.OutRelation.{Registers}
use Rattle.endpoint_relation.specs.OutSteps.{closed_end}

pub never : {A : Type 0} (b : Bool) → b ≡ false → IsTrue b → A
never b e h = absurd (cc)

-- NAKSTS is read as it is

bit_fits : (b : Bool) → (if b then 1 else 0) < 2 ^ 1
bit_fits true = omega arith
bit_fits false = omega arith

bit_is : (b : Bool) → ((if b then 1 else 0) == 1) ≡ b
bit_is true = refl
bit_is false = refl

pub reads_nak : (control : Control) → flag (control_word control) DOEPCTL_NAKSTS ≡ control.nak
reads_nak control =
    let one = with_flag control.kept DOEPCTL_NAKSTS control.nak in
    let two = with_flag one DOEPCTL_STALL control.stall in
    let stalls : ℕ = if control.stall then 1 else 0 in
    let naks : ℕ = if control.nak then 1 else 0 in
    let enables : ℕ = if control.enabled then 1 else 0 in
    let field : field_of (control_word control) DOEPCTL_NAKSTS ≡ naks =
    field_of-with_field-apart two DOEPCTL_EPENA enables DOEPCTL_NAKSTS (bit_fits control.enabled) (inr (omega arith))
    ∙ field_of-with_field-apart one DOEPCTL_STALL stalls DOEPCTL_NAKSTS (bit_fits control.stall) (inr (omega arith))
    ∙ field_of-with_field control.kept DOEPCTL_NAKSTS naks (bit_fits control.nak) in
    ap (λ x. x == 1) field ∙ bit_is control.nak

-- fields below those that aren't kept

AreAbove : List Field → ℕ → Type 0
AreAbove [] n = Unit {0}
AreAbove (f ∷ fs) n = (0 < 2 ^ f.width) × (n ≤ f.low) × AreAbove fs n

cleared_apart : (fs : List Field) (word : ℕ) (other : Field) → AreAbove fs (other.low + other.width) → field_of (cleared word fs) other ≡ field_of word other
unfolding AreAbove
cleared_apart [] word other h = refl
cleared_apart (f ∷ fs) word other h = cleared_apart fs (with_field word f 0) other h.2 ∙ field_of-with_field-apart word f 0 other h.0 (inr h.1)

not_kept : List Field
not_kept = DOEPCTL_NAKSTS ∷ DOEPCTL_STALL ∷ DOEPCTL_CNAK ∷ DOEPCTL_SNAK ∷ DOEPCTL_SD0PID ∷ DOEPCTL_EPDIS ∷ DOEPCTL_EPENA ∷ []

kept_size : (word : ℕ) → field_of (kept_bits word) DOEPCTL_SIZE ≡ field_of word DOEPCTL_SIZE
unfolding AreAbove not_kept
kept_size word = cleared_apart not_kept word DOEPCTL_SIZE
    (omega arith, omega arith, (omega arith, omega arith, (omega arith, omega arith, (omega arith, omega arith, (omega arith, omega arith, (omega arith, omega arith, (omega arith, omega arith, tt)))))))

kept_used : (word : ℕ) → field_of (kept_bits word) DOEPCTL_USBAEP ≡ field_of word DOEPCTL_USBAEP
unfolding AreAbove not_kept
kept_used word = cleared_apart not_kept word DOEPCTL_USBAEP
    (omega arith, omega arith, (omega arith, omega arith, (omega arith, omega arith, (omega arith, omega arith, (omega arith, omega arith, (omega arith, omega arith, (omega arith, omega arith, tt)))))))

-- what the word of an open endpoint says: size, STALL, CNAK, SNAK, SD0PID and EPENA

pub record Says (word size : ℕ) (stalls : Bool) (clears sets data0 enables : ℕ) : Type 0 where
  pub used : flag (kept_bits word) DOEPCTL_USBAEP ≡ true
  pub sized : field_of (kept_bits word) DOEPCTL_SIZE ≡ size
  pub stall : flag word DOEPCTL_STALL ≡ stalls
  pub cnak : flag word DOEPCTL_CNAK ≡ (clears == 1)
  pub snak : flag word DOEPCTL_SNAK ≡ (sets == 1)
  pub sd0pid : flag word DOEPCTL_SD0PID ≡ (data0 == 1)
  pub epdis : flag word DOEPCTL_EPDIS ≡ false
  pub epena : flag word DOEPCTL_EPENA ≡ (enables == 1)

record Fits (s k h c n d e : ℕ) : Type 0 where
  size : s ≤ 64
  kind : k ≤ 3
  stall : h ≤ 1
  cnak : c ≤ 1
  snak : n ≤ 1
  sd0pid : d ≤ 1
  epena : e ≤ 1

abbrev word_with : ℕ → ℕ → ℕ → ℕ → ℕ → ℕ → ℕ → ℕ
word_with s k h c n d e = s + 2 ^ 15 + 2 ^ 18 * k + 2 ^ 21 * h + 2 ^ 26 * c + 2 ^ 27 * n + 2 ^ 28 * d + 2 ^ 31 * e

size_is : (s k h c n d e : ℕ) → Fits s k h c n d e → field_of (word_with s k h c n d e) DOEPCTL_SIZE ≡ s
size_is s k h c n d e f = omega (arith, f.size)

used_is : (s k h c n d e : ℕ) → Fits s k h c n d e → field_of (word_with s k h c n d e) DOEPCTL_USBAEP ≡ 1
used_is s k h c n d e f = omega (arith, f.size)

stall_is : (s k h c n d e : ℕ) → Fits s k h c n d e → field_of (word_with s k h c n d e) DOEPCTL_STALL ≡ h
stall_is s k h c n d e f = omega (arith, f.size, f.kind, f.stall)

cnak_is : (s k h c n d e : ℕ) → Fits s k h c n d e → field_of (word_with s k h c n d e) DOEPCTL_CNAK ≡ c
cnak_is s k h c n d e f = omega (arith, f.size, f.kind, f.stall, f.cnak)

snak_is : (s k h c n d e : ℕ) → Fits s k h c n d e → field_of (word_with s k h c n d e) DOEPCTL_SNAK ≡ n
snak_is s k h c n d e f = omega (arith, f.size, f.kind, f.stall, f.cnak, f.snak)

sd0pid_is : (s k h c n d e : ℕ) → Fits s k h c n d e → field_of (word_with s k h c n d e) DOEPCTL_SD0PID ≡ d
sd0pid_is s k h c n d e f = omega (arith, f.size, f.kind, f.stall, f.cnak, f.snak, f.sd0pid)

epdis_is : (s k h c n d e : ℕ) → Fits s k h c n d e → field_of (word_with s k h c n d e) DOEPCTL_EPDIS ≡ 0
epdis_is s k h c n d e f = omega (arith, f.size, f.kind, f.stall, f.cnak, f.snak, f.sd0pid)

epena_is : (s k h c n d e : ℕ) → Fits s k h c n d e → field_of (word_with s k h c n d e) DOEPCTL_EPENA ≡ e
epena_is s k h c n d e f = omega (arith, f.size, f.kind, f.stall, f.cnak, f.snak, f.sd0pid, f.epena)

says_with : (s k h c n d e : ℕ) → Fits s k h c n d e → Says (word_with s k h c n d e) s (h == 1) c n d e
says_with s k h c n d e f =
    let word = word_with s k h c n d e in
    let is_one = λ (x : ℕ). x == 1 in
    record {
      used = ap is_one (kept_used word ∙ used_is s k h c n d e f);
      sized = kept_size word ∙ size_is s k h c n d e f;
      stall = ap is_one (stall_is s k h c n d e f);
      cnak = ap is_one (cnak_is s k h c n d e f);
      snak = ap is_one (snak_is s k h c n d e f);
      sd0pid = ap is_one (sd0pid_is s k h c n d e f);
      epdis = ap is_one (epdis_is s k h c n d e f);
      epena = ap is_one (epena_is s k h c n d e f);
    }

says_by : (s k : ℕ) (stalls : Bool) (c n d e more word : ℕ) → s ≤ 64 → k ≤ 3 → c ≤ 1 → n ≤ 1 → d ≤ 1 → e ≤ 1
    → more ≡ 2 ^ 26 * c + 2 ^ 27 * n + 2 ^ 28 * d + 2 ^ 31 * e → word ≡ s + 2 ^ 15 + 2 ^ 18 * k + stall_if stalls + more
    → Says word s stalls c n d e
says_by s k true c n d e more word hs hk hc hn hd he is whole =
    let same : word_with s k 1 c n d e ≡ word = omega arith in
    subst (λ w. Says w s true c n d e) same (says_with s k 1 c n d e (record { size = hs; kind = hk; stall = omega arith; cnak = hc; snak = hn; sd0pid = hd; epena = he }))
says_by s k false c n d e more word hs hk hc hn hd he is whole =
    let same : word_with s k 0 c n d e ≡ word = omega arith in
    subst (λ w. Says w s false c n d e) same (says_with s k 0 c n d e (record { size = hs; kind = hk; stall = omega arith; cnak = hc; snak = hn; sd0pid = hd; epena = he }))

type_fits : (kind : EpKind) → type_of kind ≤ 3
type_fits Bulk = omega arith
type_fits Interrupt = omega arith

-- each word that is written

no_more : (a : ℕ) → a ≡ a + 0
no_more a = omega arith

pub base_says : (s : OutEndpoint) → s.endpoint.size ≤ 64 → Says (base s) s.endpoint.size (shows_stall s) 0 0 0 0
base_says s h = says_by s.endpoint.size (type_of s.endpoint.kind) (shows_stall s) 0 0 0 0 0 (base s) h (type_fits s.endpoint.kind) (omega arith) (omega arith) (omega arith) (omega arith) refl (no_more (base s))

pub arm_says : (s : OutEndpoint) → s.endpoint.size ≤ 64 → Says (arm_word s) s.endpoint.size (shows_stall s) 1 0 0 1
arm_says s h = says_by s.endpoint.size (type_of s.endpoint.kind) (shows_stall s) 1 0 0 1 _ (arm_word s) h (type_fits s.endpoint.kind) (omega arith) (omega arith) (omega arith) (omega arith) refl refl

pub data0_says : (s : OutEndpoint) → s.endpoint.size ≤ 64 → Says (data0_word s) s.endpoint.size (shows_stall s) 0 0 1 0
data0_says s h = says_by s.endpoint.size (type_of s.endpoint.kind) (shows_stall s) 0 0 1 0 _ (data0_word s) h (type_fits s.endpoint.kind) (omega arith) (omega arith) (omega arith) (omega arith) refl refl

pub open_says : (s : OutEndpoint) → s.endpoint.size ≤ 64 → Says (open_word s) s.endpoint.size (shows_stall s) 0 1 1 0
open_says s h = says_by s.endpoint.size (type_of s.endpoint.kind) (shows_stall s) 0 1 1 0 _ (open_word s) h (type_fits s.endpoint.kind) (omega arith) (omega arith) (omega arith) (omega arith) refl refl

-- the registers after the write

pub and_false : (b : Bool) → (b && false) ≡ false
and_false true = refl
and_false false = refl

pub and_true : (b : Bool) → (b && true) ≡ b
and_true true = refl
and_true false = refl

pub or_false : (b : Bool) → (b || false) ≡ b
or_false true = refl
or_false false = refl

counted : (s : ℕ) → 1 ≤ s → s ≤ 64 → size_counted s ≡ s
counted s h k = grind (arith, nat_tests)

-- enabled and NAKSTS, by what the word says
abbrev enabled_by : Bool → Bool → Bool → Bool
enabled_by enabled epdis epena = (enabled && not epdis) || epena

abbrev nak_by : Bool → Bool → Bool → Bool
nak_by nak snak cnak = (nak || snak) && not (true && cnak)

kept_enabled : (enabled : Bool) → enabled_by enabled false false ≡ enabled
kept_enabled enabled = or_false (enabled && true) ∙ and_true enabled

kept_nak : (nak : Bool) → nak_by nak false false ≡ nak
kept_nak nak = and_true (nak || false) ∙ or_false nak

written : (end : OutEnd) (word size : ℕ) (stalls : Bool) (c n d e : ℕ) (ready : Bool) → Says word size stalls c n d e → 1 ≤ size → size ≤ 64
    → enabled_by end.control.enabled false (e == 1) ≡ ready → nak_by end.control.nak (n == 1) (c == 1) ≡ not ready
    → (IsTrue ready → end.tsiz ≡ one_packet size) → end.xfrc ≡ false → end.epdisd ≡ false
    → Registers (out_control_written true end word) true size stalls ready
written end word size stalls c n d e ready says some most enables naks tsiz xfrc epdisd = record {
  used = says.used;
  sized = λ _. ap size_counted says.sized ∙ counted size some most;
  stall = says.stall;
  enabled = ap (λ x. enabled_by end.control.enabled x (flag word DOEPCTL_EPENA)) says.epdis ∙ ap (enabled_by end.control.enabled false) says.epena ∙ enables;
  naks = λ _. ap (λ x. nak_by end.control.nak x (flag word DOEPCTL_CNAK)) says.snak ∙ ap (nak_by end.control.nak (n == 1)) says.cnak ∙ naks;
  counted = tsiz;
  xfrc = xfrc;
  epdisd = ap (λ x. end.epdisd || x) says.epdis ∙ or_false end.epdisd ∙ epdisd;
}

-- a write that moves neither NAKSTS nor EPENA
pub written_same : (end : OutEnd) (word size : ℕ) (stalls now : Bool) (d : ℕ) (ready : Bool) → Says word size now 0 0 d 0 → 1 ≤ size → size ≤ 64
    → Registers end true size stalls ready → Registers (out_control_written true end word) true size now ready
written_same end word size stalls now d ready says some most r =
    written end word size now 0 0 d 0 ready says some most (kept_enabled end.control.enabled ∙ r.enabled) (kept_nak end.control.nak ∙ r.naks refl) r.counted r.xfrc r.epdisd

-- one that arms
nak_cleared : (nak : Bool) → nak_by nak false true ≡ false
nak_cleared nak = and_false (nak || false)

pub written_armed : (end : OutEnd) (word size : ℕ) (stalls was : Bool) → Says word size stalls 1 0 0 1 → 1 ≤ size → size ≤ 64
    → Registers end true size stalls was → Registers (out_control_written true (record end { tsiz = one_packet size }) word) true size stalls true
written_armed end word size stalls was says some most r =
    written (record end { tsiz = one_packet size }) word size stalls 1 0 0 1 true says some most (or_right (end.control.enabled && true) true refl) (nak_cleared end.control.nak) (λ _. refl) r.xfrc r.epdisd

-- one that opens
nak_set : (nak : Bool) → nak_by nak true false ≡ true
nak_set nak = and_true (nak || true) ∙ or_right nak true refl

pub written_opened : (end : OutEnd) (word size was : ℕ) (stalls was_stalled : Bool) → Says word size stalls 0 1 1 0 → 1 ≤ size → size ≤ 64
    → Registers end false was was_stalled false → Registers (out_control_written true end word) true size stalls false
written_opened end word size was stalls was_stalled says some most r =
    written end word size stalls 0 1 1 0 false says some most (kept_enabled end.control.enabled ∙ r.enabled) (nak_set end.control.nak) (never _ refl) r.xfrc r.epdisd

-- SD0PID sets the toggle, and a write without it leaves it
pub toggle_kept : (end : OutEnd) (word size : ℕ) (stalls : Bool) (c n e : ℕ) → Says word size stalls c n 0 e → (out_control_written true end word).toggle ≡ end.toggle
toggle_kept end word size stalls c n e says = ap (λ x. if x then D0 else end.toggle) says.sd0pid

pub toggle_set : (end : OutEnd) (word size : ℕ) (stalls : Bool) (c n e : ℕ) → Says word size stalls c n 1 e → (out_control_written true end word).toggle ≡ D0
toggle_set end word size stalls c n e says = ap (λ x. if x then D0 else end.toggle) says.sd0pid

-- a closed endpoint, with the interrupts of it cleared

pub registers_closed : (end : OutEnd) → Registers (closed_end end) false 0 false false
registers_closed end = record {
  used = refl;
  sized = never _ refl;
  stall = refl;
  enabled = or_false (end.control.enabled && false) ∙ and_false end.control.enabled;
  naks = never _ refl;
  counted = never _ refl;
  xfrc = and_false end.xfrc;
  epdisd = and_false (end.epdisd || true);
}
