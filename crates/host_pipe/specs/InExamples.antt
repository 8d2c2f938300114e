-- Runs of an IN pipe of two bytes and a device with two packets, as USB 2.0 draws them.
use Rattle.std.specs.Prelude.{ℕ, List, [], ◌∷◌, ◌++◌}
use Rattle.usb_packet.specs.declared.bus.Toggle.TheVariants.{D0, D1}
use Rattle.device_pipe.specs.Link.{Whole, DataLost, HandshakeLost}
use Rattle.host_pipe.specs.InPipe.{Running, Rest, Landed, Came, Halted, Dead, Irq, Task, Starts, Reads}
use Rattle.host_pipe.specs.OutLink.{Takes, Waits, Stalls}
use Rattle.host_pipe.specs.InLink.{InLink, InStep, Asks, Does, in_start, in_run}

abbrev pub first_packet : List ℕ
first_packet = 1 ∷ 2 ∷ []

abbrev pub second_packet : List ℕ
second_packet = 3 ∷ []

abbrev pub in_example : List InStep → InLink
in_example steps = in_run 2 (in_start (first_packet ∷ second_packet ∷ [])) (Does Starts ∷ steps)

abbrev pub goes_on : List InStep
goes_on = Does Irq ∷ Does Task ∷ Does Starts ∷ []

-- two successful transactions, with DATA0 and with DATA1 (8.6.2)
abbrev pub in_successful : InLink
in_successful = in_example (Asks Whole Takes ∷ goes_on ++ Asks Whole Takes ∷ Does Irq ∷ Does Task ∷ Does (Reads 1) ∷ [])

abbrev pub in_successful_end : InLink
in_successful_end = record {
  pipe = record { phase = Rest; toggle = D0; tries = 0; held = 2 ∷ 3 ∷ [] };
  toggle = D0;
  packets = [];
  moved = first_packet ∷ second_packet ∷ [];
  read = 1 ∷ [];
}

-- data that is lost, and a device that has none ready: neither end's toggle moves (8.6.3)
abbrev pub in_not_accepted : InLink
in_not_accepted = in_example (Asks DataLost Takes ∷ Does Irq ∷ Asks DataLost Takes ∷ Does Irq ∷ Asks Whole Waits ∷ [])

abbrev pub in_not_accepted_end : InLink
in_not_accepted_end = record {
  pipe = record { phase = Running; toggle = D0; tries = 0; held = [] };
  toggle = D0;
  packets = first_packet ∷ second_packet ∷ [];
  moved = [];
  read = [];
}

-- a lost acknowledgement: the host's toggle moved and the device's did not. The packet comes again, is dropped, and the next one
-- lands (8.6.4)
abbrev pub in_again : InLink
in_again = in_example (Asks HandshakeLost Takes ∷ goes_on ++ Asks Whole Takes ∷ Asks Whole Takes ∷ [])

abbrev pub in_again_end : InLink
in_again_end = record {
  pipe = record { phase = Landed (Came second_packet); toggle = D1; tries = 0; held = first_packet };
  toggle = D0;
  packets = [];
  moved = first_packet ∷ second_packet ∷ [];
  read = [];
}

-- three tokens in a row without an answer
abbrev pub in_lost : InLink
in_lost = in_example (Asks DataLost Takes ∷ Does Irq ∷ Asks DataLost Takes ∷ Does Irq ∷ Asks DataLost Takes ∷ Does Irq ∷ Does Task ∷ Does Starts ∷ Asks Whole Takes ∷ [])

abbrev pub in_lost_end : InLink
in_lost_end = record {
  pipe = record { phase = Dead; toggle = D0; tries = 3; held = [] };
  toggle = D0;
  packets = first_packet ∷ second_packet ∷ [];
  moved = [];
  read = [];
}

-- STALL (8.4.5)
abbrev pub in_stalled : InLink
in_stalled = in_example (Asks Whole Stalls ∷ goes_on)

abbrev pub in_stalled_end : InLink
in_stalled_end = record {
  pipe = record { phase = Halted; toggle = D0; tries = 0; held = [] };
  toggle = D0;
  packets = first_packet ∷ second_packet ∷ [];
  moved = [];
  read = [];
}
