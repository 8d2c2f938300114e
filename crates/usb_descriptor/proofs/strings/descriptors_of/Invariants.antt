use Rattle.std.proofs.Common.{◌≡◌, ◌++◌, length, drop, map}
use Rattle.usb_descriptor.specs.Strings.{string_descriptor}
use Rattle.usb_descriptor.proofs.strings.descriptors_of.Given as goal

abbrev pub invariant-loop-part : goal.invariant-loop-part
invariant-loop-part l = record {
  count : length l.descriptors.items ≡ l.part-index;
  same : l.descriptors.items ++ map string_descriptor (drop l.part-index l.parts) ≡ map string_descriptor l.parts;
}
