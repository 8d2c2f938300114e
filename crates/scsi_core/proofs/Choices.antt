-- What holds of a choice, of questions one after another, and of each row.
use Rattle.std.proofs.Common.{◌≡◌, Bool, true, false, if◌then◌else◌, List, [], ◌∷◌, Option, Some, None, unwrap_or, refl}
use Rattle.std.specs.Prelude.{MatchOption, ⊤}
use Rattle.scsi_core.specs.Command.{Outcome, or_else, Row}

-- a fact that holds of both branches of a choice holds of the choice
pub if_holds : {A : Type 0} (P : A → Type 0) (b : Bool) (x y : A) → (b ≡ true → P x) → (b ≡ false → P y) → P (if b then x else y)
if_holds P true x y h k = h refl
if_holds P false x y h k = k refl

-- questions one after the other: N holds where the first lets pass, and M where both do
pub or_else_holds : (P : Outcome → Type 0) (N M : Type 0) (a b : Option Outcome)
    → MatchOption a N P → (N → MatchOption b M P) → MatchOption (or_else a b) M P
or_else_holds P N M None b h k = k h
or_else_holds P N M (Some o) b h k = h

pub unwrap_or_holds : (P : Outcome → Type 0) (N : Type 0) (a : Option Outcome) (d : Outcome)
    → MatchOption a N P → (N → P d) → P (unwrap_or a d)
unwrap_or_holds P N None d h k = k h
unwrap_or_holds P N (Some o) d h k = h

abbrev pub EachRow : (Row → Type 0) → List Row → Type 0
EachRow P [] = ⊤
EachRow P (first ∷ rest) = P first × EachRow P rest
