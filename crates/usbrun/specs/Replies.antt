-- That a reply's bytes fit has one proof at most, so it may be a ghost field.
use Rattle.std.specs.Prelude.{ℕ, List}
use Rattle.std.proofs.Props.{props}
use Rattle.usb_pipe.specs.declared.said.Said.{Said}
use Rattle.usb_pipe.specs.declared.said.Said.TheVariants as said
use Rattle.usb_pipe.specs.Said.{Fits}

pub fits_once : (s : Said) (bytes : List ℕ) → IsProp (Fits s bytes)
fits_once said.Report bytes = Prim.hlevel props
fits_once (said.SetReport kind) bytes = Prim.hlevel props
fits_once s bytes = Prim.hlevel props
