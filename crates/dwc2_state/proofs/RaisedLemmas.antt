-- Whether any of three interrupts is 1, after one more is.
use Rattle.std.proofs.Common.{◌≡◌, Bool, true, false, refl}
use Rattle.std.specs.Prelude.{◌||◌}

pub raised_more : (xfrc epdisd stup more : Bool) → ((xfrc || epdisd || stup) || more) ≡ (xfrc || (epdisd || more) || stup)
raised_more true epdisd stup more = refl
raised_more false true stup more = refl
raised_more false false true true = refl
raised_more false false true false = refl
raised_more false false false true = refl
raised_more false false false false = refl

pub raised_by_last : (xfrc epdisd : Bool) → true ≡ (xfrc || epdisd || true)
raised_by_last true epdisd = refl
raised_by_last false true = refl
raised_by_last false false = refl
