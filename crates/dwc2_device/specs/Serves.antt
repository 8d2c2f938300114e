-- What a handler run makes of an IN endpoint other than 0, apart: what is kept, and the ring's bytes.
use Rattle.std.specs.Prelude.{ℕ, zero, suc, min, drop, Bool, if◌then◌else◌, List}
use Rattle.device_pipe.specs.InPipe.{most_loaded}
use Rattle.endpoint_relation.specs.declared.in_.InState.{InState}
use Rattle.endpoint_relation.specs.declared.in_.InState.TheVariants.{Closed, Rest, Running, Posted}
use Rattle.endpoint_relation.specs.declared.in_.InEndpoint.{InEndpoint}
use Rattle.endpoint_relation.specs.InSteps.{found_software}

-- no packet is left, or the next ones are loaded
abbrev pub kept_on : ℕ → InEndpoint → InEndpoint
kept_on zero s = record s { state = Posted }
kept_on (suc left) s = record s { loaded = min most_loaded s.left }

abbrev pub bytes_on : ℕ → InEndpoint → List ℕ → List ℕ
bytes_on zero s bytes = drop s.bytes bytes
bytes_on (suc left) s bytes = bytes

-- by how many are loaded, and whether XFRC shows
abbrev pub kept_run : ℕ → Bool → InEndpoint → InEndpoint
kept_run zero acknowledged s = kept_on s.left s
kept_run (suc loaded) acknowledged s = if acknowledged then kept_on (found_software s).left (found_software s) else s

abbrev pub bytes_run : ℕ → Bool → InEndpoint → List ℕ → List ℕ
bytes_run zero acknowledged s bytes = bytes_on s.left s bytes
bytes_run (suc loaded) acknowledged s bytes = if acknowledged then bytes_on (found_software s).left (found_software s) bytes else bytes

abbrev pub kept_served : InState → Bool → InEndpoint → InEndpoint
kept_served Closed acknowledged s = s
kept_served Rest acknowledged s = s
kept_served Running acknowledged s = kept_run s.loaded acknowledged s
kept_served Posted acknowledged s = s

abbrev pub bytes_served : InState → Bool → InEndpoint → List ℕ → List ℕ
bytes_served Closed acknowledged s bytes = bytes
bytes_served Rest acknowledged s bytes = bytes
bytes_served Running acknowledged s bytes = bytes_run s.loaded acknowledged s bytes
bytes_served Posted acknowledged s bytes = bytes
