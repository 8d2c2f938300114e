-- The controllers that there are.
use Rattle.std.specs.Prelude.{◌≡◌, refl}
use Rattle.dwc2_regs.specs.declared.access.TheConstants.{FS4}

-- OTG_FS: three endpoints each way beside endpoint 0, eight channels, 320 words
pub FS4-is : FS4 ≡ record { in_eps = 3; out_eps = 3; channels = 8; ram_words = 320 }
FS4-is = refl
