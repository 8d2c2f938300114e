-- Runs of an OUT pipe and a host with two packets, as USB 2.0 draws them.
use Rattle.std.specs.Prelude.{ℕ, List, [], ◌∷◌, false}
use Rattle.usb_packet.specs.declared.bus.Toggle.TheVariants.{D0, D1}
use Rattle.device_pipe.specs.OutPipe.{Armed, Landed, Posted, unopened, Irq, Task, Arms}
use Rattle.device_pipe.specs.Link.{Whole, DataLost, HandshakeLost}
use Rattle.device_pipe.specs.OutLink.{OutLink, out_start, out_run, OutStep, Sends, Does}

abbrev pub first_packet : List ℕ
first_packet = 1 ∷ 2 ∷ []

abbrev pub second_packet : List ℕ
second_packet = 3 ∷ []

abbrev pub out_example : List OutStep → OutLink
out_example steps = out_run (out_start unopened (first_packet ∷ second_packet ∷ [])) steps

-- two successful transactions, with DATA0 and with DATA1 (8.6.2)
abbrev pub out_successful : OutLink
out_successful = out_example (Does Arms ∷ Sends Whole ∷ Does Irq ∷ Does Task ∷ Does Arms ∷ Sends Whole ∷ Does Irq ∷ [])

abbrev pub out_successful_end : OutLink
out_successful_end = record {
  pipe = record { phase = Posted; halted = false; toggle = D0; held = 1 ∷ 2 ∷ 3 ∷ [] };
  toggle = D0;
  packets = [];
  moved = first_packet ∷ second_packet ∷ [];
  read = [];
  learned = 1;
}

-- data that isn't accepted, and data that is lost: neither end's toggle moves, and the packet is sent again (8.6.3)
abbrev pub out_not_accepted : OutLink
out_not_accepted = out_example (Sends Whole ∷ Does Arms ∷ Sends DataLost ∷ [])

abbrev pub out_not_accepted_end : OutLink
out_not_accepted_end = record {
  pipe = record { phase = Armed; halted = false; toggle = D0; held = [] };
  toggle = D0;
  packets = first_packet ∷ second_packet ∷ [];
  moved = [];
  read = [];
  learned = 0;
}

-- a lost acknowledgement: the device's toggle moved and the host's did not (8.6.4)
abbrev pub out_unheard : OutLink
out_unheard = out_example (Does Arms ∷ Sends HandshakeLost ∷ [])

abbrev pub out_unheard_end : OutLink
out_unheard_end = record {
  pipe = record { phase = Landed first_packet; halted = false; toggle = D1; held = [] };
  toggle = D0;
  packets = first_packet ∷ second_packet ∷ [];
  moved = [];
  read = [];
  learned = 0;
}

-- the same packet comes again, is acknowledged and dropped, and the next one lands (8.6.4)
abbrev pub out_again : OutLink
out_again = out_example (Does Arms ∷ Sends HandshakeLost ∷ Does Irq ∷ Does Task ∷ Does Arms ∷ Sends Whole ∷ Sends Whole ∷ [])

abbrev pub out_again_end : OutLink
out_again_end = record {
  pipe = record { phase = Landed second_packet; halted = false; toggle = D0; held = first_packet };
  toggle = D0;
  packets = [];
  moved = first_packet ∷ second_packet ∷ [];
  read = [];
  learned = 1;
}
