-- Runs of an OUT pipe of two bytes and a device, as USB 2.0 draws them. The class writes three bytes, which are two packets.
use Rattle.std.specs.Prelude.{ℕ, List, [], ◌∷◌, ◌++◌, false, Some, None}
use Rattle.usb_packet.specs.declared.bus.Toggle.TheVariants.{D0, D1}
use Rattle.device_pipe.specs.Link.{Whole, DataLost, HandshakeLost}
use Rattle.host_pipe.specs.OutPipe.{Running, Rest, Halted, Dead, Irq, Task, Starts, Writes, Asks}
use Rattle.host_pipe.specs.OutLink.{OutLink, Takes, Waits, Stalls, OutStep, Sends, Does, out_start, out_run}

abbrev pub first_packet : List ℕ
first_packet = 1 ∷ 2 ∷ []

abbrev pub second_packet : List ℕ
second_packet = 3 ∷ []

abbrev pub out_example : List OutStep → OutLink
out_example steps = out_run 2 256 out_start (Does (Writes (1 ∷ 2 ∷ 3 ∷ [])) ∷ Does Starts ∷ steps)

-- a handler run, a task, and the next start
abbrev pub goes_on : List OutStep
goes_on = Does Irq ∷ Does Task ∷ Does Starts ∷ []

-- two successful transactions, with DATA0 and with DATA1 (8.6.2)
abbrev pub out_successful : OutLink
out_successful = out_example (Sends Whole Takes ∷ goes_on ++ Sends Whole Takes ∷ goes_on)

abbrev pub out_successful_end : OutLink
out_successful_end = record {
  pipe = record { phase = Rest; toggle = D0; tries = 0; pending = []; under_way = None; asked = false };
  toggle = D0;
  taken = first_packet ∷ second_packet ∷ [];
  gone = first_packet ∷ second_packet ∷ [];
  written = 1 ∷ 2 ∷ 3 ∷ [];
}

-- data that isn't accepted, and data that is lost: neither end's toggle moves, and the packet is sent again (8.6.3)
abbrev pub out_not_accepted : OutLink
out_not_accepted = out_example (Sends Whole Waits ∷ Sends DataLost Takes ∷ Does Irq ∷ [])

abbrev pub out_not_accepted_end : OutLink
out_not_accepted_end = record {
  pipe = record { phase = Running; toggle = D0; tries = 1; pending = 1 ∷ 2 ∷ 3 ∷ []; under_way = Some first_packet; asked = false };
  toggle = D0;
  taken = [];
  gone = [];
  written = 1 ∷ 2 ∷ 3 ∷ [];
}

-- a lost acknowledgement: the device's toggle moved and the host's did not. The packet is sent again, and dropped (8.6.4)
abbrev pub out_again : OutLink
out_again = out_example (Sends HandshakeLost Takes ∷ Does Irq ∷ Sends Whole Takes ∷ goes_on)

abbrev pub out_again_end : OutLink
out_again_end = record {
  pipe = record { phase = Running; toggle = D1; tries = 0; pending = 3 ∷ []; under_way = Some second_packet; asked = false };
  toggle = D1;
  taken = first_packet ∷ [];
  gone = first_packet ∷ [];
  written = 1 ∷ 2 ∷ 3 ∷ [];
}

-- three lost acknowledgements in a row: the device took the packet, and the host gives up with it in doubt
abbrev pub out_lost : OutLink
out_lost = out_example (Sends HandshakeLost Takes ∷ Does Irq ∷ Sends HandshakeLost Takes ∷ Does Irq ∷ Sends HandshakeLost Takes ∷ Does Irq ∷ Does Task ∷ Sends Whole Takes ∷ Does Starts ∷ [])

abbrev pub out_lost_end : OutLink
out_lost_end = record {
  pipe = record { phase = Dead; toggle = D0; tries = 3; pending = 1 ∷ 2 ∷ 3 ∷ []; under_way = Some first_packet; asked = false };
  toggle = D1;
  taken = first_packet ∷ [];
  gone = [];
  written = 1 ∷ 2 ∷ 3 ∷ [];
}

-- STALL (8.4.5)
abbrev pub out_stalled : OutLink
out_stalled = out_example (Sends Whole Stalls ∷ Does Irq ∷ Does Task ∷ Does Starts ∷ [])

abbrev pub out_stalled_end : OutLink
out_stalled_end = record {
  pipe = record { phase = Halted; toggle = D0; tries = 0; pending = 1 ∷ 2 ∷ 3 ∷ []; under_way = Some first_packet; asked = false };
  toggle = D0;
  taken = [];
  gone = [];
  written = 1 ∷ 2 ∷ 3 ∷ [];
}

-- an empty packet that is asked for goes behind all that is pending, once (5.8.3)
abbrev pub out_empty : OutLink
out_empty = out_example (Does Asks ∷ Sends Whole Takes ∷ goes_on ++ Sends Whole Takes ∷ goes_on ++ Sends Whole Takes ∷ goes_on)

abbrev pub out_empty_end : OutLink
out_empty_end = record {
  pipe = record { phase = Rest; toggle = D1; tries = 0; pending = []; under_way = None; asked = false };
  toggle = D1;
  taken = first_packet ∷ second_packet ∷ [] ∷ [];
  gone = first_packet ∷ second_packet ∷ [] ∷ [];
  written = 1 ∷ 2 ∷ 3 ∷ [];
}
