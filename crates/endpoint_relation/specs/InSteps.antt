-- What the bus, a handler run, a task and each call do to an IN endpoint, to what the driver keeps of it and to its ring.
use Rattle.std.specs.Prelude.{ℕ, zero, suc, ◌+◌, ◌-◌, ◌*◌, ◌||◌, not, min, Bool, true, false, if◌then◌else◌, List, [], ◌∷◌, ◌++◌, length, take, drop}
use Rattle.std.specs.List.{concat}
use Rattle.usb_packet.specs.declared.bus.BusAnswer.{BusAnswer}
use Rattle.usb_descriptor.specs.declared.endpoint.Endpoint.{Endpoint}
use Rattle.usb_descriptor.specs.Set.{is_core}
use Rattle.dwc2_regs.specs.declared.TheConstants.{DIEPINT_XFRC}
use Rattle.dwc2_fifo.specs.Words.{words_of}
use Rattle.device_table.specs.State.{InEnd}
use Rattle.device_table.specs.Words.{flag}
use Rattle.device_table.specs.Read.{diepint_word}
use Rattle.device_table.specs.Write.{emptied, in_control_written, in_interrupts_written, in_tsiz_written, word_written}
use Rattle.device_table.specs.Bus.{InOutcome, unheard_in, naks_in, stalls_in, sends, sends_of, is_open, packet_ready, in_answer, in_acked}
use Rattle.device_pipe.specs.InPipe.{cut, most_loaded}
use Rattle.endpoint_relation.specs.declared.in_.InState.{InState}
use Rattle.endpoint_relation.specs.declared.in_.InState.TheVariants.{Closed, Rest, Running, Posted}
use Rattle.endpoint_relation.specs.declared.in_.InEndpoint.{InEndpoint}
use Rattle.endpoint_relation.specs.InWords.{in_base, in_cnak, in_snak_epena, in_snak_epdis, in_snak_sd0pid, in_snak_sd0pid_epdis, in_size_word, in_xfrc, in_both}
use Rattle.endpoint_relation.specs.InRelation.{InJoint, in_unused, packets_left, stalls}

-- A token, where the device hears its address.

abbrev pub token_outcome : ℕ → InEnd → InOutcome
token_outcome number end =
    if not (is_open number end.control) then unheard_in
    else if end.control.stall then stalls_in
    else if not end.control.enabled || end.control.nak then naks_in
    else sends_of (packet_ready number end)

abbrev pub token_answer : ℕ → InEnd → BusAnswer
token_answer number end = in_answer end.toggle (token_outcome number end)

abbrev pub end_after : ℕ → InEnd → Bool → InOutcome → InEnd
end_after number end ok unheard_in = end
end_after number end ok naks_in = end
end_after number end ok stalls_in = end
end_after number end false (sends packet) = end
end_after number end true (sends packet) = in_acked number end

abbrev pub in_token : ℕ → InJoint → Bool → InJoint
in_token number j ok = record j { end = end_after number j.end ok (token_outcome number j.end) }

-- Loading.

abbrev pub words_in : ℕ → InEnd → List ℕ → InEnd
words_in number end [] = end
words_in number end (word ∷ words) = words_in number (word_written number end word) words

-- each packet begins a new word
abbrev pub packets_in : ℕ → InEnd → List (List ℕ) → InEnd
packets_in number end [] = end
packets_in number end (packet ∷ packets) = packets_in number (words_in number end (words_of packet)) packets

-- the word for DIEPCTLx with these bits that act
abbrev pub control_with : ℕ → InEndpoint → ℕ → ℕ
control_with number s acts = in_base number s.endpoint (stalls s) + acts

-- the size, SNAK and EPENA, the words of the packets, and then CNAK
abbrev pub end_loaded : ℕ → InEndpoint → List (List ℕ) → InEnd → InEnd
end_loaded number s packets end =
    let sized = in_tsiz_written number end (in_size_word (length packets) (length (concat packets))) in
    let enabled = in_control_written true sized (control_with number s in_snak_epena) in
    in_control_written true (packets_in number enabled packets) (control_with number s in_cnak)

-- the packets that are loaded next: two, or the last one
abbrev pub next_packets : InEndpoint → List ℕ → List (List ℕ)
next_packets s ring = take most_loaded (packets_left s ring)

abbrev pub in_loaded : ℕ → InJoint → InJoint
in_loaded number j = record {
  end = end_loaded number j.software (next_packets j.software j.ring) j.end;
  software = record j.software { loaded = min most_loaded j.software.left };
  ring = j.ring;
}

-- no packet is left: the transfer's bytes leave the ring
abbrev pub in_finished : InJoint → InJoint
in_finished j = record j { software = record j.software { state = Posted }; ring = drop j.software.bytes j.ring }

abbrev pub in_goes_on : ℕ → ℕ → InJoint → InJoint
in_goes_on zero number j = in_finished j
in_goes_on (suc left) number j = in_loaded number j

-- A handler run.

abbrev pub found_software : InEndpoint → InEndpoint
found_software s = record s { sent = min s.bytes (s.sent + s.loaded * s.endpoint.size); left = s.left - s.loaded; loaded = 0 }

-- all that was loaded is acknowledged. XFRC is cleared before anything else is loaded
abbrev pub in_found : InJoint → InJoint
in_found j = record { end = in_interrupts_written j.end in_xfrc; software = found_software j.software; ring = j.ring }

-- whether DIEPINTx shows XFRC
abbrev pub shows_xfrc : ℕ → InEnd → Bool
shows_xfrc number end = flag (diepint_word number end) DIEPINT_XFRC

abbrev pub in_next : ℕ → InJoint → InJoint
in_next number j = in_goes_on j.software.left number j

abbrev pub in_run : ℕ → ℕ → InJoint → InJoint
in_run zero number j = in_next number j
in_run (suc loaded) number j = if shows_xfrc number j.end then in_next number (in_found j) else j

abbrev pub in_served_by : InState → ℕ → InJoint → InJoint
in_served_by Closed number j = j
in_served_by Rest number j = j
in_served_by Running number j = in_run j.software.loaded number j
in_served_by Posted number j = j

abbrev pub in_served : ℕ → InJoint → InJoint
in_served number j = in_served_by j.software.state number j

-- A task takes the note.

abbrev pub in_noted : InState → InState
in_noted Closed = Closed
in_noted Rest = Rest
in_noted Running = Running
in_noted Posted = Rest

abbrev pub in_tasked : InJoint → InJoint
in_tasked j = record j { software = record j.software { state = in_noted j.software.state } }

-- Each call.

-- all that is in the ring is one transfer
abbrev pub software_started : InState → InEndpoint → List ℕ → InEndpoint
software_started Rest s ring =
    record s { state = Running; bytes = length ring; sent = 0; left = length (cut s.endpoint.size ring); loaded = 0 }
software_started Closed s ring = s
software_started Running s ring = s
software_started Posted s ring = s

abbrev pub in_started : InJoint → InJoint
in_started j = record j { software = software_started j.software.state j.software j.ring }

-- the class writes
abbrev pub in_written : List ℕ → InJoint → InJoint
in_written bytes j = record j { ring = j.ring ++ bytes }

-- the core's endpoints are halted in the software alone
abbrev pub end_halted : Bool → ℕ → InEndpoint → InEnd → InEnd
end_halted true number s end = end
end_halted false number s end = in_control_written true end (control_with number s 0)

abbrev pub software_halted : InEndpoint → InEndpoint
software_halted s = record s { halted = true }

abbrev pub in_halted : ℕ → InJoint → InJoint
in_halted number j = record j {
  end = end_halted (is_core j.software.endpoint.owner) number (software_halted j.software) j.end;
  software = software_halted j.software;
}

-- what was loaded is dropped: DIEPCTLx with EPDIS, the FIFO flushed, and XFRC and EPDISD cleared
abbrev pub end_stopped : InEnd → ℕ → InEnd
end_stopped end word = in_interrupts_written (emptied (in_control_written true end word)) in_both

-- no transfer runs
abbrev pub in_at_rest : InState → InState
in_at_rest Closed = Closed
in_at_rest Rest = Rest
in_at_rest Running = Rest
in_at_rest Posted = Rest

-- the ring without the transfer that runs
abbrev pub ring_beyond : InState → ℕ → List ℕ → List ℕ
ring_beyond Running n ring = drop n ring
ring_beyond Closed n ring = ring
ring_beyond Rest n ring = ring
ring_beyond Posted n ring = ring

abbrev pub software_cleared : InEndpoint → InEndpoint
software_cleared s = record s { state = in_at_rest s.state; halted = false; loaded = 0 }

abbrev pub in_cleared : ℕ → InJoint → InJoint
in_cleared number j = record {
  end = end_stopped j.end (control_with number (software_cleared j.software) in_snak_sd0pid_epdis);
  software = software_cleared j.software;
  ring = ring_beyond j.software.state j.software.bytes j.ring;
}

abbrev pub software_dropped : InEndpoint → InEndpoint
software_dropped s = record s { state = in_at_rest s.state; loaded = 0 }

abbrev pub in_dropped : ℕ → InJoint → InJoint
in_dropped number j = record {
  end = end_stopped j.end (control_with number j.software in_snak_epdis);
  software = software_dropped j.software;
  ring = [];
}

abbrev pub software_opened : Endpoint → InEndpoint
software_opened e = record in_unused { endpoint = e; state = Rest }

abbrev pub in_opened : ℕ → Endpoint → InJoint → InJoint
in_opened number e j = record {
  end = in_control_written true j.end (control_with number (software_opened e) in_snak_sd0pid);
  software = software_opened e;
  ring = j.ring;
}

-- a session ends; a handler run that serves a reset does the same to each endpoint
abbrev pub in_closed : InJoint → InJoint
in_closed j = record { end = end_stopped j.end in_snak_epdis; software = in_unused; ring = [] }
