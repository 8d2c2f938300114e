-- What a line's text never has.
use Rattle.std.specs.Prelude.{ℕ, List, Bool, ◌==◌, not}
use Rattle.std.specs.List.{list_all}
use Rattle.usb_text.specs.Line.{newline}

-- no newline stands in it
abbrev pub is_plain : List ℕ → Bool
is_plain bytes = list_all (λ b. not (b == newline)) bytes
