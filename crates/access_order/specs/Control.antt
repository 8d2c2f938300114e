-- What a word written to DIEPCTLx does (RM0090, OTG_FS_DIEPCTLx): the bits that act.
use Rattle.std.specs.Prelude.{◌≡◌, ℕ, Bool, true, false}
use Rattle.dwc2_regs.specs.declared.TheConstants.{DIEPCTL_CNAK, DIEPCTL_SNAK, DIEPCTL_EPDIS, DIEPCTL_EPENA}
use Rattle.access_order.specs.Order.{is_set}

-- the endpoint is enabled, and answers NAK
pub record Enables (word : ℕ) : Type 0 where
  pub epena : is_set word DIEPCTL_EPENA ≡ true
  pub snak : is_set word DIEPCTL_SNAK ≡ true
  pub cnak : is_set word DIEPCTL_CNAK ≡ false

-- NAK ends
pub record Answers (word : ℕ) : Type 0 where
  pub epena : is_set word DIEPCTL_EPENA ≡ false
  pub epdis : is_set word DIEPCTL_EPDIS ≡ false
  pub cnak : is_set word DIEPCTL_CNAK ≡ true

-- the endpoint is disabled
pub record Disables (word : ℕ) : Type 0 where
  pub epena : is_set word DIEPCTL_EPENA ≡ false
  pub epdis : is_set word DIEPCTL_EPDIS ≡ true
  pub cnak : is_set word DIEPCTL_CNAK ≡ false

-- no packet is let go
pub record Leaves (word : ℕ) : Type 0 where
  pub epena : is_set word DIEPCTL_EPENA ≡ false
  pub cnak : is_set word DIEPCTL_CNAK ≡ false

-- and those that are loaded, where some are, aren't held back
pub record Stays (loaded : Bool) (word : ℕ) : Type 0 where
  pub leaves : Leaves word
  pub epdis : is_set word DIEPCTL_EPDIS ≡ false
  pub snak : loaded ≡ true → is_set word DIEPCTL_SNAK ≡ false
