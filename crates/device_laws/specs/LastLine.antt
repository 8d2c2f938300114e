-- The last line of a job's text may lack its newline.
use Rattle.std.specs.Prelude.{◌≡◌, ◌≢◌, ℕ, List, [], ◌∷◌, ◌++◌}
use Rattle.device_text.specs.Job.{closed}

-- the code of a newline
abbrev pub line_feed : ℕ
line_feed = 10

-- a text that ends with a newline stays, one that ends with another byte gets one, and no text stays none
pub record LacksAtMostOne : Type 0 where
  pub ended : (text : List ℕ) → closed (text ++ line_feed ∷ []) ≡ text ++ line_feed ∷ []
  pub unended : (text : List ℕ) (b : ℕ) → b ≢ line_feed → closed (text ++ b ∷ []) ≡ text ++ b ∷ line_feed ∷ []
  pub nothing : closed [] ≡ []
