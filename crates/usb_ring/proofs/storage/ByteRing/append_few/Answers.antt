use Rattle.std.proofs.Common.{List, ℕ, take, ap, ◌∙◌}
use Rattle.usb_ring.specs.Ring.{Ring, appended}
use Rattle.usb_ring.proofs.Words.{take-to_le_bytes}
use Rattle.usb_ring.proofs.storage.ByteRing.append_few.Goals as goal

pub returns : goal.returns
returns c =
    let bytes = ap (λ (word : List ℕ). take c.args.n word) c.to_le_bytes.ensures ∙ take-to_le_bytes c.args.n c.args.word c.requires.counted in
    let with_bytes : List ℕ → Ring = λ new. appended c.args.self.now new in
    c.append.ensures ∙ ap with_bytes bytes
