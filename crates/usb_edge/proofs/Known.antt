-- What a flush keeps of what a write appended.
use Rattle.std.proofs.Common.{ℕ, List, Option, Some, None, ◌∙◌}
use Rattle.std.specs.Io.KnownBytes.{Keeps, Appends}

pub appends_kept : (a b c : Option (List ℕ)) (bytes : List ℕ) → Appends a b bytes → Keeps b c → Appends a c bytes
appends_kept None b c bytes h k = tt
appends_kept (Some a) None c bytes h k = absurd h
appends_kept (Some a) (Some b) None bytes h k = absurd k
appends_kept (Some a) (Some b) (Some c) bytes h k = k ∙ h
