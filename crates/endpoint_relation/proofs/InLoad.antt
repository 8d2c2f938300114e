-- The packets that are loaded together: DIEPTSIZx, DIEPCTLx, their words, DIEPCTLx.
use Rattle.std.proofs.Common.{◌≡◌, ℕ, zero, suc, ◌+◌, ◌<◌, ◌≤◌, List, [], ◌∷◌, ◌++◌, length, get_or, take, drop, min, Bool, true, false, refl, ap, ◌∙◌, sym, arith, subst, length-append, append-nil, get_or-drop}
use Rattle.std.specs.Prelude.{◌||◌, nat_le, if◌then◌else◌}
use Rattle.std.specs.List.{concat}
use Rattle.std.proofs.lemmas.Bool.Decides.{nat_tests}
use Rattle.usb_packet.specs.declared.bus.Toggle.{Toggle}
use Rattle.usb_packet.specs.declared.bus.Toggle.TheVariants.{D0}
use Rattle.usb_descriptor.specs.declared.endpoint.Endpoint.{Endpoint}
use Rattle.dwc2_regs.specs.declared.TheConstants.{DIEPCTL_SIZE, DIEPCTL_SD0PID, DIEPCTL_EPDIS}
use Rattle.dwc2_regs.specs.Field.{field_of}
use Rattle.dwc2_fifo.specs.Words.{words_of}
use Rattle.device_table.specs.State.{InEnd, Control, tx_depth}
use Rattle.device_table.specs.Words.{flag, packet_size, size_counted, transfer_size}
use Rattle.device_table.specs.Write.{in_control_written, in_tsiz_written}
use Rattle.device_pipe.specs.InPipe.{cut_within}
use Rattle.endpoint_relation.specs.declared.in_.InEndpoint.{InEndpoint}
use Rattle.endpoint_relation.specs.InWords.{in_open_bits, in_size_word, in_cnak, in_snak_epena}
use Rattle.endpoint_relation.specs.InRelation.{fifo_of, tagged, packets_if, stalls}
use Rattle.endpoint_relation.specs.InSteps.{words_in, packets_in, end_loaded, control_with}
use Rattle.endpoint_relation.proofs.InControl.{control_is, snak_epena_is, cnak_is, leaves_toggle, leaves_enabled, or_false}
use Rattle.endpoint_relation.proofs.InFill.{filled, packet_in}
use Rattle.endpoint_relation.proofs.InCut.{Batch, empty, last, two}

-- Bytes are numbers below 256.

abbrev pub AreBytes : List ℕ → Type 0
AreBytes bytes = (i : ℕ) → get_or bytes i 0 < 256

abbrev pub AllBytes : List (List ℕ) → Type 0
AllBytes [] = Unit {0}
AllBytes (packet ∷ packets) = AreBytes packet × AllBytes packets

none_below : 0 < 256
none_below = omega arith

taken_below : (n : ℕ) (bytes : List ℕ) (i : ℕ) → AreBytes bytes → get_or (take n bytes) i 0 < 256
taken_below zero bytes i h = none_below
taken_below (suc n) [] i h = none_below
taken_below (suc n) (b ∷ bytes) zero h = h 0
taken_below (suc n) (b ∷ bytes) (suc i) h = taken_below n bytes i (λ k. h (suc k))

pub take_bytes : (n : ℕ) (bytes : List ℕ) → AreBytes bytes → AreBytes (take n bytes)
take_bytes n bytes h = λ i. taken_below n bytes i h

pub drop_bytes : (n : ℕ) (bytes : List ℕ) → AreBytes bytes → AreBytes (drop n bytes)
drop_bytes n bytes h = λ i. subst (λ x. x < 256) (sym (get_or-drop n bytes i 0)) (h (n + i))

bytes_if : (b : Bool) (bytes packet : List ℕ) (packets : List (List ℕ)) → AreBytes bytes → AreBytes packet → AllBytes packets → AllBytes (if b then bytes ∷ [] else packet ∷ packets)
bytes_if true bytes packet packets h k l = (h, tt)
bytes_if false bytes packet packets h k l = (k, l)

within_bytes : (most size : ℕ) (bytes : List ℕ) → AreBytes bytes → AllBytes (cut_within most size bytes)
within_bytes zero size bytes h = (h, tt)
within_bytes (suc most) size bytes h =
    bytes_if (nat_le (length bytes) size) bytes (take size bytes) (cut_within most size (drop size bytes)) h (take_bytes size bytes h)
    (within_bytes most size (drop size bytes) (drop_bytes size bytes h))

pub packets_bytes : (left size : ℕ) (bytes : List ℕ) → AreBytes bytes → AllBytes (packets_if left size bytes)
packets_bytes zero size bytes h = tt
packets_bytes (suc left) size bytes h = within_bytes (length bytes) size bytes h

pub first_bytes : (n : ℕ) (packets : List (List ℕ)) → AllBytes packets → AllBytes (take n packets)
first_bytes zero packets h = tt
first_bytes (suc n) [] h = tt
first_bytes (suc n) (p ∷ packets) h = (h.0, first_bytes n packets h.1)

-- The words of a batch.

fill_last : (n size : ℕ) (end : InEnd) (a : List ℕ) → 1 ≤ length a → length a ≤ size → AreBytes a → packet_size (suc n) end.control ≡ size → size ≤ 64
    → packets_in (suc n) (filled end (fifo_of []) (length (concat (a ∷ [])))) (a ∷ []) ≡ filled end (fifo_of (a ∷ [])) 0
fill_last n size end [] some few below is most = absurd (omega arith)
fill_last n size end (x ∷ xs) some few below is most =
    let a = x ∷ xs in
    let total : length (concat (a ∷ [])) ≡ length a = ap length (append-nil a) in
    ap (λ k. words_in (suc n) (filled end (fifo_of []) k) (words_of a)) total
    ∙ packet_in n end [] tx_depth (length a) a some below (ap (λ k. min k (length a)) is ∙ omega arith) (omega arith)
    ∙ ap (λ k. filled end (fifo_of (a ∷ [])) k) (omega arith)

fill_two : (n size : ℕ) (end : InEnd) (a b : List ℕ) → length a ≡ size → 1 ≤ length b → length b ≤ size → AreBytes a → AreBytes b → packet_size (suc n) end.control ≡ size → size ≤ 64
    → packets_in (suc n) (filled end (fifo_of []) (length (concat (a ∷ b ∷ [])))) (a ∷ b ∷ []) ≡ filled end (fifo_of (a ∷ b ∷ [])) 0
fill_two n size end [] b full some few ha hb is most = absurd (omega arith)
fill_two n size end (x ∷ xs) [] full some few ha hb is most = absurd (omega arith)
fill_two n size end (x ∷ xs) (y ∷ ys) full some few ha hb is most =
    let a = x ∷ xs in
    let b = y ∷ ys in
    let total : length (concat (a ∷ b ∷ [])) ≡ length a + length b = length-append a (b ++ []) ∙ ap (λ bs. length a + length bs) (append-nil b) in
    ap (λ k. packets_in (suc n) (filled end (fifo_of []) k) (a ∷ b ∷ [])) total
    ∙ ap (λ (x : InEnd). words_in (suc n) x (words_of b)) (packet_in n end [] tx_depth (length a + length b) a (omega arith) ha (ap (λ k. min k (length a + length b)) is ∙ omega arith) (omega arith))
    ∙ ap (λ k. words_in (suc n) (filled end (fifo_of (a ∷ [])) k) (words_of b)) (omega arith)
    ∙ packet_in n end (tagged (a ∷ [])) tx_depth (length b) b some hb (ap (λ k. min k (length b)) is ∙ omega arith) (omega arith)
    ∙ ap (λ k. filled end (fifo_of (a ∷ b ∷ [])) k) (omega arith)

-- they fill an empty FIFO
fill_batch : (n size : ℕ) (end : InEnd) {packets : List (List ℕ)} → Batch size packets → AllBytes packets → packet_size (suc n) end.control ≡ size → size ≤ 64
    → packets_in (suc n) (filled end (fifo_of []) (length (concat packets))) packets ≡ filled end (fifo_of packets) 0
fill_batch n size end empty below is most = refl
fill_batch n size end (last a some few) below is most = fill_last n size end a some few below.0 is most
fill_batch n size end (two a b full some few) below is most = fill_two n size end a b full some few below.0 below.1.0 is most

-- Control, words, control.

pub open_size : (number : ℕ) (e : Endpoint) → e.size ≤ 64 → field_of (in_open_bits number e) DIEPCTL_SIZE ≡ e.size
open_size number e few = omega arith

counted : (s : ℕ) → 1 ≤ s → s ≤ 64 → size_counted s ≡ s
counted s h k = grind (arith, nat_tests)

batch_total : (size : ℕ) {packets : List (List ℕ)} → Batch size packets → size ≤ 64 → length (concat packets) ≤ 128
batch_total size empty most = omega arith
batch_total size (last a some few) most = let e = ap length (append-nil a) in omega (arith, e)
batch_total size (two a b full some few) most =
    let e = length-append a (b ++ []) ∙ ap (λ bs. length a + length bs) (append-nil b) in omega (arith, e)

pub batch_count : (size : ℕ) {packets : List (List ℕ)} → Batch size packets → length packets ≤ 2
batch_count size empty = omega arith
batch_count size (last a some few) = omega arith
batch_count size (two a b full some few) = omega arith

total_is : (n k total : ℕ) → k ≤ 2 → total ≤ 128 → transfer_size (suc n) (in_size_word k total) ≡ total
total_is n k total h l = omega arith

-- what loading makes of an endpoint
pub record LoadsAs (old new : InEnd) (kept : ℕ) (stall : Bool) (packets : List (List ℕ)) : Type 0 where
  pub control : new.control ≡ control_is kept false stall true
  pub toggle : new.toggle ≡ old.toggle
  pub xfrc : new.xfrc ≡ old.xfrc
  pub epdisd : new.epdisd ≡ old.epdisd
  pub tsiz : new.tsiz ≡ in_size_word (length packets) (length (concat packets))
  pub fifo : new.fifo ≡ fifo_of packets

toggle_stays : (f : Bool) (old toggle : Toggle) → f ≡ false → toggle ≡ old → (if f then D0 else toggle) ≡ old
toggle_stays f old toggle e is = ap (λ x. if x then D0 else toggle) e ∙ is

or_stays : (f old : Bool) → f ≡ false → (old || f) ≡ old
or_stays f old e = ap (λ x. old || x) e ∙ or_false old

pub loads : (n : ℕ) (s : InEndpoint) (end : InEnd) (packets : List (List ℕ)) → suc n ≤ 15 → 1 ≤ s.endpoint.size → s.endpoint.size ≤ 64 → Batch s.endpoint.size packets → AllBytes packets → end.fifo ≡ fifo_of []
    → LoadsAs end (end_loaded (suc n) s packets end) (in_open_bits (suc n) s.endpoint) (stalls s) packets
loads n s end packets small one few batch below none =
    let e = s.endpoint in
    let sized = in_tsiz_written (suc n) end (in_size_word (length packets) (length (concat packets))) in
    let ready = in_control_written true sized (control_with (suc n) s in_snak_epena) in
    let total : ready.to_come ≡ length (concat packets) = total_is n (length packets) (length (concat packets)) (batch_count e.size batch) (batch_total e.size batch few) in
    let control : ready.control ≡ control_is (in_open_bits (suc n) e) true (stalls s) true = snak_epena_is (suc n) e (stalls s) end.control few small in
    let size : packet_size (suc n) ready.control ≡ e.size =
    ap (packet_size (suc n)) control ∙ ap size_counted (open_size (suc n) e few) ∙ counted e.size one few in
    let full : packets_in (suc n) ready packets ≡ filled ready (fifo_of packets) 0 =
    ap (λ tx. packets_in (suc n) (filled ready tx ready.to_come) packets) none
    ∙ ap (λ k. packets_in (suc n) (filled ready (fifo_of []) k) packets) total
    ∙ fill_batch n e.size ready batch below size few in
    let With : InEnd → InEnd = λ x. in_control_written true x (control_with (suc n) s in_cnak) in
    record {
      control =
          ap (λ (x : InEnd). (With x).control) full
          ∙ cnak_is (suc n) e (stalls s) ready.control few small
          ∙ ap (λ (c : Control). control_is (in_open_bits (suc n) e) false (stalls s) c.enabled) control;
      toggle =
          ap (λ (x : InEnd). (With x).toggle) full
          ∙ toggle_stays (flag (control_with (suc n) s in_cnak) DIEPCTL_SD0PID) end.toggle ready.toggle
          (leaves_toggle (suc n) e (stalls s) true false false false in_cnak few small refl)
          (toggle_stays (flag (control_with (suc n) s in_snak_epena) DIEPCTL_SD0PID) end.toggle end.toggle
          (leaves_toggle (suc n) e (stalls s) false true false true in_snak_epena few small refl) refl);
      xfrc = ap (λ (x : InEnd). (With x).xfrc) full;
      epdisd =
          ap (λ (x : InEnd). (With x).epdisd) full
          ∙ or_stays (flag (control_with (suc n) s in_cnak) DIEPCTL_EPDIS) ready.epdisd (leaves_enabled (suc n) e (stalls s) true false false false in_cnak few small refl)
          ∙ or_stays (flag (control_with (suc n) s in_snak_epena) DIEPCTL_EPDIS) end.epdisd (leaves_enabled (suc n) e (stalls s) false true false true in_snak_epena few small refl);
      tsiz = ap (λ (x : InEnd). (With x).tsiz) full;
      fifo = ap (λ (x : InEnd). (With x).fifo) full;
    }
