use Rattle.std.proofs.Common.{List, ℕ, ap, ◌∙◌, arith}
use Rattle.usb_ring.specs.Ring.{Ring, appended}
use Rattle.usb_ring.proofs.Words.{take-to_le_bytes}
use Rattle.usb_ring.proofs.storage.ByteRing.append_four.Goals as goal

pub returns : goal.returns
returns c =
    let bytes = c.to_le_bytes.ensures ∙ take-to_le_bytes 4 c.args.word (omega arith) in
    let with_bytes : List ℕ → Ring = λ new. appended c.args.self.now new in
    c.append.ensures ∙ ap with_bytes bytes
