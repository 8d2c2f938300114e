-- When an empty packet is owed.
use Rattle.std.proofs.Common.{◌≡◌, ℕ, ◌/◌, true, refl, arith}
use Rattle.std.proofs.lemmas.Bool.Decides.{nat_tests}
use Rattle.usb_pipe.specs.Own.{phase_at}
use Rattle.cdc_device_machine.specs.Port.{is_whole}
use Rattle.cdc_device_machine.specs.Laws.{IsWholePackets, EmptyPacketEndsWholePackets}
use Rattle.class_pipes.proofs.Phases.{rest_of-test}

whole_of-test : (n : ℕ) → is_whole n ≡ true → IsWholePackets n
whole_of-test n h = (n / 64, grind (arith, nat_tests), grind (arith, nat_tests))

test-whole : (n : ℕ) → IsWholePackets n → is_whole n ≡ true
test-whole n h = let e = h.2 in let f = h.1 in grind (arith, nat_tests)

pub empty_packet_ends_whole_packets : EmptyPacketEndsWholePackets
empty_packet_ends_whole_packets port own n = (
  λ h. (whole_of-test n (grind (arith, nat_tests)), grind (arith, nat_tests), rest_of-test (phase_at own 0) (grind (arith, nat_tests))),
  λ h. let w = test-whole n h.0 in rw (w, h.1, h.2) refl,
)
