-- What lies in the receive FIFO, as a handler run takes it.
use Rattle.std.proofs.Common.{◌≡◌, ℕ, zero, suc, ◌-◌, ◌<◌, ◌≤◌, List, [], ◌∷◌, ◌++◌, length, take, min, Bool, true, false, Some, None, refl, ap, sym, ◌∙◌, arith}
use Rattle.std.specs.Prelude.{◌==◌, if◌then◌else◌, slice_index}
use Rattle.std.proofs.lemmas.Bool.Decides.{nat_tests}
use Rattle.usb_packet.specs.declared.bus.Toggle.{Toggle}
use Rattle.usb_packet.specs.declared.bus.Toggle.TheVariants.{D0, D1}
use Rattle.device_machine.specs.declared.control.Stage.TheVariants.{Came}
use Rattle.usb_ring.specs.Ring.{appended}
use Rattle.dwc2_regs.specs.declared.access.TheConstants.{FS4}
use Rattle.dwc2_regs.specs.declared.TheConstants.{GRXSTSP_BYTES}
use Rattle.dwc2_regs.specs.Field.{field_of}
use Rattle.dwc2_regs.specs.Register.{grxstsp, diepctl, doepctl, doepint}
use Rattle.dwc2_fifo.specs.Words.{word_count, words_of, bytes_in}
use Rattle.dwc2_fifo.specs.Rx.{Entry}
use Rattle.dwc2_fifo.proofs.WordsLemmas.{length-words_of, bytes_in-words_of}
use Rattle.device_table.specs.State.{Table, rx_depth, with_out, out_end}
use Rattle.device_table.specs.Words.{status_word, pid_of, kind_of, number_of}
use Rattle.device_table.specs.Read.{value_read, after_read}
use Rattle.device_table.specs.Write.{after_write}
use Rattle.device_table.specs.Bus.{setup_entries}
use Rattle.device_arrivals.specs.Arrivals.{Arrival, Request, Packet, entries_of}
use Rattle.device_arrivals.specs.Laws.{PacketOut}
use Rattle.device_arrivals.proofs.Comes.{packet_comes}
use Rattle.device_rings.specs.Rings.{Rings, out_ring, with_out_ring}
use Rattle.endpoint_relation.specs.OutSteps.{moved}
use Rattle.device_relation.specs.declared.software.Ready.TheVariants as ready
use Rattle.device_relation.specs.declared.software.Heard.TheVariants as heard
use Rattle.device_relation.specs.Software.{Software, Joint, out_kept, with_out_kept}
use Rattle.device_relation.specs.Relation.{IsPacket, IsSetup}
use Rattle.device_relation.specs.Run.{Whole, with_joint, words_read, after_words, byte_count, bytes_read, setup_taken, setup_ended, end_popped, packet_from, pipe_taken, taken_unless, with_moved, xfrc_cleared, arrivals_taken, snak_epdis, all_out_interrupts, xfrc, with_table}

-- the receive FIFO with these words and entries
abbrev pub rx_as : Table → List ℕ → List Entry → Table
rx_as t left entries = record t { rx = record { left = left; entries = entries; depth = rx_depth FS4 } }

-- all words of an entry are read
pub words_read-all : (ws : List ℕ) → words_read (length ws) ws ≡ ws
words_read-all [] = refl
words_read-all (w ∷ ws) = ap (λ xs. w ∷ xs) (words_read-all ws)

pub after_words-all : (t : Table) (ws : List ℕ) (entries : List Entry) → after_words (length ws) (rx_as t ws entries) ≡ rx_as t [] entries
after_words-all t [] entries = refl
after_words-all t (w ∷ ws) entries = after_words-all t ws entries

words_taken : (t : Table) (bytes : List ℕ) (entries : List Entry) (n : ℕ) → n ≡ length bytes → after_words (word_count n) (rx_as t (words_of bytes) entries) ≡ rx_as t [] entries
words_taken t bytes entries n e =
    ap (λ k. after_words k (rx_as t (words_of bytes) entries)) (ap word_count e ∙ sym (length-words_of bytes)) ∙ after_words-all t (words_of bytes) entries

bytes_taken : (t : Table) (bytes : List ℕ) (entries : List Entry) (n : ℕ) → n ≡ length bytes → ((i : ℕ) → slice_index bytes i < 256) → bytes_read n (rx_as t (words_of bytes) entries) ≡ bytes
bytes_taken t bytes entries n e below =
    ap (λ k. take k (bytes_in (words_read (word_count k) (words_of bytes)))) e
    ∙ ap (λ k. take (length bytes) (bytes_in (words_read k (words_of bytes)))) (sym (length-words_of bytes))
    ∙ ap (λ ws. take (length bytes) (bytes_in ws)) (words_read-all (words_of bytes))
    ∙ bytes_in-words_of bytes below

abbrev pub whole : Table → Software → Rings → Whole
whole t s r = record { joint = record { table = t; software = s }; rings = r }

-- None is left.

pub none_taken : (n : ℕ) (t : Table) (s : Software) (r : Rings) → arrivals_taken n (whole (rx_as t [] []) s r) ≡ whole (rx_as t [] []) s r
unfolding arrivals_taken
none_taken zero t s r = refl
none_taken (suc n) t s r = refl

-- A SETUP.

abbrev pub setup_table : Table → Table
setup_table t =
    let popped = record t { out0 = record t.out0 { stup = true }; core = record t.core { unserved = t.core.unserved - 1 } } in
    after_write (after_write (after_write popped (diepctl 0) snak_epdis) (doepctl 0) snak_epdis) (doepint 0) all_out_interrupts

abbrev pub setup_software : Software → List ℕ → Software
setup_software s bytes = record s { side = ready.Off; heard = heard.Setup; next_address = None; request = Some bytes }

-- once its words are read
abbrev after_setup_words : ℕ → Table → Software → Rings → List ℕ → Whole
after_setup_words n table s r bytes = arrivals_taken n (record { joint = setup_ended (end_popped (record { table = table; software = record s { request = Some bytes } })); rings = r })

pub setup_popped : (n : ℕ) (t : Table) (s : Software) (r : Rings) (bytes : List ℕ) (rest : List Entry) → IsSetup bytes
    → arrivals_taken (suc n) (whole (rx_as t [] (setup_entries bytes ++ rest)) s r) ≡ arrivals_taken n (whole (setup_table (rx_as t [] rest)) (setup_software s bytes) r)
unfolding arrivals_taken
setup_popped n t s r bytes rest h =
    let behind = record { status = status_word 0 0 0 4; words = [] } ∷ rest in
    ap (λ table. after_setup_words n table s r (bytes_read 8 (rx_as t (words_of bytes) behind))) (words_taken t bytes behind 8 (sym h.eight))
    ∙ ap (λ bs. after_setup_words n (rx_as t [] behind) s r bs) (bytes_taken t bytes behind 8 (sym h.eight) h.below)

-- A packet, by what its status tells.

abbrev step : Bool → ℕ → ℕ → ℕ → Table → Whole → ℕ → Whole
step none kind number count after w n =
    let popped = with_joint w (with_table w.joint after) in
    if none then popped
    else arrivals_taken n (if kind == 6 then with_joint popped (setup_ended (end_popped (setup_taken popped.joint))) else if kind == 2 then packet_from popped number count else popped)

pub is_status : (number count : ℕ) (toggle : Toggle) → (status_word number count (pid_of toggle) 2 == 0) ≡ false
is_status number count D0 = grind (arith, nat_tests)
is_status number count D1 = grind (arith, nat_tests)

pub count_of : (status count : ℕ) → field_of status GRXSTSP_BYTES ≡ count → count ≤ 64 → byte_count status ≡ count
count_of status count e h = ap (λ k. min k 64) e ∙ least count h
  where
    least : (n : ℕ) → n ≤ 64 → min n 64 ≡ n
    least n h = omega arith

-- its data popped
abbrev pub at_words : Table → ℕ → List ℕ → List Arrival → Table
at_words t number bytes arrivals = rx_as t (words_of bytes) (record { status = status_word number 0 0 3; words = [] } ∷ entries_of arrivals)

pub packet_popped : (n : ℕ) (t : Table) (s : Software) (r : Rings) (number : ℕ) (toggle : Toggle) (bytes : List ℕ) (arrivals : List Arrival) → number < 16 → IsPacket bytes
    → arrivals_taken (suc n) (whole (rx_as t [] (entries_of (Packet number toggle bytes ∷ arrivals))) s r)
    ≡ arrivals_taken n (packet_from (whole (at_words t number bytes arrivals) s r) number (length bytes))
unfolding arrivals_taken
packet_popped n t s r number toggle bytes arrivals below h =
    let status = status_word number (length bytes) (pid_of toggle) 2 in
    let now = rx_as t [] (entries_of (Packet number toggle bytes ∷ arrivals)) in
    let w = whole now s r in
    let after = after_read now grxstsp in
    let out : PacketOut (rx_as t [] []) [] number toggle bytes arrivals = packet_comes (rx_as t [] []) [] number toggle bytes arrivals below h.fits h.below in
    ap (λ x. step x (kind_of status) (number_of status) (byte_count status) after w n) (is_status number (length bytes) toggle)
    ∙ ap (λ x. step false x (number_of status) (byte_count status) after w n) out.data_out.kind_is
    ∙ ap (λ x. step false 2 x (byte_count status) after w n) out.data_out.number_is
    ∙ ap (λ x. step false 2 number x after w n) (count_of status (length bytes) out.data_out.count_is h.fits)
    ∙ ap (λ x. step false 2 number (length bytes) x w n) out.data_out.after_is

-- Of endpoint 0.

abbrev pub came_table : Table → Table
came_table t = after_write (record t { out0 = record t.out0 { xfrc = true } }) (doepint 0) xfrc

abbrev pub came_software : Software → List ℕ → Software
came_software s bytes = record s { side = ready.Off; heard = heard.Packet; finished = Some (Came bytes) }

abbrev after_came_words : ℕ → Table → Software → Rings → List ℕ → Whole
after_came_words n table s r bytes = arrivals_taken n (record { joint = xfrc_cleared (end_popped (record { table = table; software = came_software s bytes })) 0; rings = r })

pub came_popped : (n : ℕ) (t : Table) (s : Software) (r : Rings) (toggle : Toggle) (bytes : List ℕ) (arrivals : List Arrival) → IsPacket bytes
    → arrivals_taken (suc n) (whole (rx_as t [] (entries_of (Packet 0 toggle bytes ∷ arrivals))) s r) ≡ arrivals_taken n (whole (came_table (rx_as t [] (entries_of arrivals))) (came_software s bytes) r)
came_popped n t s r toggle bytes arrivals h =
    let behind = record { status = status_word 0 0 0 3; words = [] } ∷ entries_of arrivals in
    packet_popped n t s r 0 toggle bytes arrivals (omega arith) h
    ∙ ap (λ table. after_came_words n table s r (bytes_read (length bytes) (rx_as t (words_of bytes) behind))) (words_taken t bytes behind (length bytes) refl)
    ∙ ap (λ bs. after_came_words n (rx_as t [] behind) s r bs) (bytes_taken t bytes behind (length bytes) refl h.below)

-- Of another endpoint.

abbrev pub ended : Table → ℕ → List Arrival → Table
ended t number arrivals =
    after_write (with_out (rx_as t [] (entries_of arrivals)) number (record (out_end t number) { xfrc = true })) (doepint number) xfrc

abbrev pub taken_ring : Bool → Rings → ℕ → List ℕ → Rings
taken_ring true r number bytes = r
taken_ring false r number bytes = with_out_ring r number (appended (out_ring r number) bytes)

abbrev after_pipe : ℕ → Table → Software → Rings → ℕ → Whole
after_pipe n table s r number = arrivals_taken n (record { joint = with_moved (with_table (record { table = table; software = s }) (after_write table (doepint number) xfrc)) number; rings = r })

end_after : (t : Table) (left : List ℕ) (number : ℕ) (bytes : List ℕ) (toggle : Toggle) (arrivals : List Arrival) → number < 16 → IsPacket bytes
    → after_read (rx_as t left (record { status = status_word number 0 0 3; words = [] } ∷ entries_of arrivals)) grxstsp
    ≡ with_out (rx_as t [] (entries_of arrivals)) number (record (out_end t number) { xfrc = true })
end_after t left zero bytes toggle arrivals below h = ((packet_comes (rx_as t [] []) [] 0 toggle bytes arrivals below h.fits h.below).end_out left).after_is
end_after t left (suc m) bytes toggle arrivals below h = ((packet_comes (rx_as t [] []) [] (suc m) toggle bytes arrivals below h.fits h.below).end_out left).after_is

pub pipe_popped : (n : ℕ) (t : Table) (s : Software) (r : Rings) (m : ℕ) (toggle : Toggle) (bytes : List ℕ) (arrivals : List Arrival) → suc m < 16 → IsPacket bytes → (over : Bool) → (out_kept s (suc m)).over ≡ over
    → arrivals_taken (suc n) (whole (rx_as t [] (entries_of (Packet (suc m) toggle bytes ∷ arrivals))) s r)
    ≡ arrivals_taken n (whole (ended t (suc m) arrivals) (with_out_kept s (suc m) (moved (out_kept s (suc m)))) (taken_ring over r (suc m) bytes))
pipe_popped n t s r m toggle bytes arrivals below h true e =
    let w = whole (at_words t (suc m) bytes arrivals) s r in
    let rest : Whole → Whole = λ taken. arrivals_taken n (with_joint taken (with_moved (xfrc_cleared (end_popped taken.joint) (suc m)) (suc m))) in
    packet_popped n t s r (suc m) toggle bytes arrivals below h
    ∙ ap (λ x. rest (taken_unless x w (suc m) (length bytes))) e
    ∙ ap (λ table. after_pipe n table s r (suc m)) (end_after t (words_of bytes) (suc m) bytes toggle arrivals below h)
pipe_popped n t s r m toggle bytes arrivals below h false e =
    let behind = record { status = status_word (suc m) 0 0 3; words = [] } ∷ entries_of arrivals in
    let w = whole (at_words t (suc m) bytes arrivals) s r in
    let rest : Whole → Whole = λ taken. arrivals_taken n (with_joint taken (with_moved (xfrc_cleared (end_popped taken.joint) (suc m)) (suc m))) in
    let with_bytes : List ℕ → Rings = λ bs. with_out_ring r (suc m) (appended (out_ring r (suc m)) bs) in
    packet_popped n t s r (suc m) toggle bytes arrivals below h
    ∙ ap (λ x. rest (taken_unless x w (suc m) (length bytes))) e
    ∙ ap (λ table. rest (whole table s (with_bytes (bytes_read (length bytes) w.joint.table)))) (words_taken t bytes behind (length bytes) refl)
    ∙ ap (λ bs. rest (whole (rx_as t [] behind) s (with_bytes bs))) (bytes_taken t bytes behind (length bytes) refl h.below)
    ∙ ap (λ table. after_pipe n table s (with_bytes bytes) (suc m)) (end_after t [] (suc m) bytes toggle arrivals below h)
