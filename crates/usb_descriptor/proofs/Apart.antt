-- Each pair of owners in turn.
use Rattle.std.proofs.Common.{◌≡◌, true, refl, sym, true≢false}
use Rattle.usb_packet.specs.declared.bus.Owner.{Owner}
use Rattle.usb_packet.specs.declared.bus.Owner.TheVariants.{Core, Cdc, Hid, Msc, Midi}
use Rattle.usb_descriptor.specs.Set.{is_core, same_owner}
use Rattle.usb_descriptor.specs.Owners.{AreToldApart}

same : (o : Owner) → same_owner o o ≡ true
same Core = refl
same Cdc = refl
same Hid = refl
same Msc = refl
same Midi = refl

pub apart : (a b : Owner) → same_owner a b ≡ true → a ≡ b
apart Core Core e = refl
apart Core Cdc e = elim (true≢false (sym e)) [ ]
apart Core Hid e = elim (true≢false (sym e)) [ ]
apart Core Msc e = elim (true≢false (sym e)) [ ]
apart Core Midi e = elim (true≢false (sym e)) [ ]
apart Cdc Core e = elim (true≢false (sym e)) [ ]
apart Cdc Cdc e = refl
apart Cdc Hid e = elim (true≢false (sym e)) [ ]
apart Cdc Msc e = elim (true≢false (sym e)) [ ]
apart Cdc Midi e = elim (true≢false (sym e)) [ ]
apart Hid Core e = elim (true≢false (sym e)) [ ]
apart Hid Cdc e = elim (true≢false (sym e)) [ ]
apart Hid Hid e = refl
apart Hid Msc e = elim (true≢false (sym e)) [ ]
apart Hid Midi e = elim (true≢false (sym e)) [ ]
apart Msc Core e = elim (true≢false (sym e)) [ ]
apart Msc Cdc e = elim (true≢false (sym e)) [ ]
apart Msc Hid e = elim (true≢false (sym e)) [ ]
apart Msc Msc e = refl
apart Msc Midi e = elim (true≢false (sym e)) [ ]
apart Midi Core e = elim (true≢false (sym e)) [ ]
apart Midi Cdc e = elim (true≢false (sym e)) [ ]
apart Midi Hid e = elim (true≢false (sym e)) [ ]
apart Midi Msc e = elim (true≢false (sym e)) [ ]
apart Midi Midi e = refl

core : (o : Owner) → is_core o ≡ same_owner Core o
core Core = refl
core Cdc = refl
core Hid = refl
core Msc = refl
core Midi = refl

pub are_told_apart : AreToldApart
are_told_apart = record { same = same; apart = apart; core = core }
