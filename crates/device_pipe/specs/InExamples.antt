-- Runs of an IN pipe with packets of two bytes, as USB 2.0 draws them.
use Rattle.std.specs.Prelude.{ℕ, List, [], ◌∷◌, false}
use Rattle.usb_packet.specs.declared.bus.Toggle.TheVariants.{D0, D1}
use Rattle.device_pipe.specs.InPipe.{Rest, Running, Posted, Irq, Task, Starts, Writes}
use Rattle.device_pipe.specs.Link.{Whole, DataLost, HandshakeLost}
use Rattle.device_pipe.specs.InLink.{InLink, in_start, in_run, InStep, Asks, Does}

abbrev pub first_packet : List ℕ
first_packet = 1 ∷ 2 ∷ []

abbrev pub second_packet : List ℕ
second_packet = 3 ∷ []

-- a transfer of these bytes starts, and a handler run loads it
abbrev pub in_example : List ℕ → List InStep → InLink
in_example bytes steps = in_run 2 16 in_start (Does (Writes bytes) ∷ Does Starts ∷ Asks Whole ∷ Does Irq ∷ steps)

-- two successful transactions, with DATA0 and with DATA1 (8.6.2)
abbrev pub in_successful : InLink
in_successful = in_example (1 ∷ 2 ∷ 3 ∷ []) (Asks Whole ∷ Asks Whole ∷ Asks Whole ∷ Does Irq ∷ [])

abbrev pub in_successful_end : InLink
in_successful_end = record {
  pipe = record { queue = []; phase = Posted 3; loaded = 0; toggle = D0; halted = false };
  toggle = D0;
  kept = first_packet ∷ second_packet ∷ [];
  queued = 1 ∷ 2 ∷ 3 ∷ [];
  begun = first_packet ∷ second_packet ∷ [];
  learned = 0;
}

-- data that is lost: neither end's toggle moves, and the packet is sent again (8.6.3)
abbrev pub in_lost : InLink
in_lost = in_example (1 ∷ 2 ∷ 3 ∷ []) (Asks DataLost ∷ Does Irq ∷ Does Task ∷ [])

abbrev pub in_lost_end : InLink
in_lost_end = record {
  pipe = record { queue = 1 ∷ 2 ∷ 3 ∷ []; phase = Running 3 (first_packet ∷ second_packet ∷ []); loaded = 2; toggle = D0; halted = false };
  toggle = D0;
  kept = [];
  queued = 1 ∷ 2 ∷ 3 ∷ [];
  begun = first_packet ∷ second_packet ∷ [];
  learned = 0;
}

-- a lost acknowledgement: the host's toggle moved and the device's did not (8.6.4)
abbrev pub in_unheard : InLink
in_unheard = in_example (1 ∷ 2 ∷ 3 ∷ []) (Asks HandshakeLost ∷ [])

abbrev pub in_unheard_end : InLink
in_unheard_end = record {
  pipe = record { queue = 1 ∷ 2 ∷ 3 ∷ []; phase = Running 3 (first_packet ∷ second_packet ∷ []); loaded = 2; toggle = D0; halted = false };
  toggle = D1;
  kept = first_packet ∷ [];
  queued = 1 ∷ 2 ∷ 3 ∷ [];
  begun = first_packet ∷ second_packet ∷ [];
  learned = 0;
}

-- the same packet comes again and is dropped, and the next one is kept (8.6.4)
abbrev pub in_again : InLink
in_again = in_example (1 ∷ 2 ∷ 3 ∷ []) (Asks HandshakeLost ∷ Asks Whole ∷ Asks Whole ∷ Does Irq ∷ Does Task ∷ [])

abbrev pub in_again_end : InLink
in_again_end = record {
  pipe = record { queue = []; phase = Rest; loaded = 0; toggle = D0; halted = false };
  toggle = D0;
  kept = first_packet ∷ second_packet ∷ [];
  queued = 1 ∷ 2 ∷ 3 ∷ [];
  begun = first_packet ∷ second_packet ∷ [];
  learned = 3;
}

-- a transfer whose last packet is full ends with it, and one of no bytes is one empty packet (5.7.3, 5.8.3)
abbrev pub in_full : InLink
in_full = in_example (1 ∷ 2 ∷ []) (Asks Whole ∷ Does Irq ∷ Does Task ∷ Does Starts ∷ Does Irq ∷ Asks Whole ∷ Does Irq ∷ [])

abbrev pub in_full_end : InLink
in_full_end = record {
  pipe = record { queue = []; phase = Posted 0; loaded = 0; toggle = D0; halted = false };
  toggle = D0;
  kept = first_packet ∷ [] ∷ [];
  queued = first_packet;
  begun = first_packet ∷ [] ∷ [];
  learned = 2;
}
