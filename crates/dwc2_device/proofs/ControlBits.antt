-- Which bits that act a word for DIEPCTLx has: those above 2 ^ 24, below which stands what each write carries.
use Rattle.std.proofs.Common.{◌≡◌, ℕ, ◌+◌, ◌*◌, ◌<◌, ◌≤◌, Bool, true, false, ap, sym, subst, arith}
use Rattle.std.specs.Prelude.{◌==◌}
use Rattle.dwc2_regs.specs.declared.TheConstants.{GRSTCTL_TXFNUM, DIEPCTL_CNAK, DIEPCTL_SNAK, DIEPCTL_EPDIS, DIEPCTL_EPENA}
use Rattle.dwc2_regs.specs.Field.{field_of}
use Rattle.access_order.specs.Control.{Enables, Answers, Disables, Stays}
use Rattle.endpoint_relation.specs.InWords.{in_cnak, in_snak_epena, in_snak_epdis, in_snak_sd0pid, in_snak_sd0pid_epdis}

is_on : (n : ℕ) → n ≡ 1 → (n == 1) ≡ true
is_on n e = ap (λ x. x == 1) e

is_off : (n : ℕ) → n ≡ 0 → (n == 1) ≡ false
is_off n e = ap (λ x. x == 1) e

-- SNAK and EPENA
enables_with : (base : ℕ) → base < 16777216 → Enables (base + 0x88000000)
enables_with base h = record {
  epena = is_on (field_of (base + 0x88000000) DIEPCTL_EPENA) (omega (arith, h));
  snak = is_on (field_of (base + 0x88000000) DIEPCTL_SNAK) (omega (arith, h));
  cnak = is_off (field_of (base + 0x88000000) DIEPCTL_CNAK) (omega (arith, h));
}

pub enables : (base acts : ℕ) → base < 16777216 → acts ≡ in_snak_epena → Enables (base + acts)
enables base acts h e = subst (λ a. Enables (base + a)) (sym e) (enables_with base h)

-- CNAK
answers_with : (base : ℕ) → base < 16777216 → Answers (base + 0x4000000)
answers_with base h = record {
  epena = is_off (field_of (base + 0x4000000) DIEPCTL_EPENA) (omega (arith, h));
  epdis = is_off (field_of (base + 0x4000000) DIEPCTL_EPDIS) (omega (arith, h));
  cnak = is_on (field_of (base + 0x4000000) DIEPCTL_CNAK) (omega (arith, h));
}

pub answers : (base acts : ℕ) → base < 16777216 → acts ≡ in_cnak → Answers (base + acts)
answers base acts h e = subst (λ a. Answers (base + a)) (sym e) (answers_with base h)

-- SNAK and SD0PID, where nothing is loaded
opens_with : (base : ℕ) → base < 16777216 → Stays false (base + 0x18000000)
opens_with base h = record {
  leaves = record {
    epena = is_off (field_of (base + 0x18000000) DIEPCTL_EPENA) (omega (arith, h));
    cnak = is_off (field_of (base + 0x18000000) DIEPCTL_CNAK) (omega (arith, h));
  };
  epdis = is_off (field_of (base + 0x18000000) DIEPCTL_EPDIS) (omega (arith, h));
  snak = λ e. absurd (cc e);
}

pub opens : (base acts : ℕ) → base < 16777216 → acts ≡ in_snak_sd0pid → Stays false (base + acts)
opens base acts h e = subst (λ a. Stays false (base + a)) (sym e) (opens_with base h)

-- none
pub stays : (loaded : Bool) (base acts : ℕ) → base < 16777216 → acts ≡ 0 → Stays loaded (base + acts)
stays loaded base acts h e = record {
  leaves = record {
    epena = is_off (field_of (base + acts) DIEPCTL_EPENA) (omega (arith, h, e));
    cnak = is_off (field_of (base + acts) DIEPCTL_CNAK) (omega (arith, h, e));
  };
  epdis = is_off (field_of (base + acts) DIEPCTL_EPDIS) (omega (arith, h, e));
  snak = λ _. is_off (field_of (base + acts) DIEPCTL_SNAK) (omega (arith, h, e));
}

-- SNAK and EPDIS, and with SD0PID
pub disables : (base : ℕ) → base < 16777216 → Disables (base + in_snak_epdis)
disables base h = record {
  epena = is_off (field_of (base + 0x48000000) DIEPCTL_EPENA) (omega (arith, h));
  epdis = is_on (field_of (base + 0x48000000) DIEPCTL_EPDIS) (omega (arith, h));
  cnak = is_off (field_of (base + 0x48000000) DIEPCTL_CNAK) (omega (arith, h));
}

pub disables_anew : (base : ℕ) → base < 16777216 → Disables (base + in_snak_sd0pid_epdis)
disables_anew base h = record {
  epena = is_off (field_of (base + 0x58000000) DIEPCTL_EPENA) (omega (arith, h));
  epdis = is_on (field_of (base + 0x58000000) DIEPCTL_EPDIS) (omega (arith, h));
  cnak = is_off (field_of (base + 0x58000000) DIEPCTL_CNAK) (omega (arith, h));
}

pub disables_closed : Disables in_snak_epdis
disables_closed = disables 0 (omega arith)

-- GRSTCTL names the endpoint's FIFO
pub flushes : (number : ℕ) → number ≤ 3 → field_of (32 + 64 * number) GRSTCTL_TXFNUM ≡ number
flushes number h = omega (arith, h)
