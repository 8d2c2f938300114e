-- What the entries tell is what came.
use Rattle.std.proofs.Common.{◌≡◌, ℕ, zero, suc, ◌+◌, ◌≤◌, ◌<◌, List, [], ◌∷◌, ◌++◌, length, take, Bool, true, false, refl, ap, sym, ◌∙◌, arith, All}
use Rattle.std.specs.Prelude.{◌==◌, ◌&&◌, if◌then◌else◌, slice_index}
use Rattle.std.proofs.lemmas.List.Elements.{All-head, All-tail}
use Rattle.usb_packet.specs.declared.bus.Toggle.{Toggle}
use Rattle.usb_packet.specs.declared.bus.Toggle.TheVariants.{D0, D1}
use Rattle.dwc2_regs.specs.declared.TheConstants.{GRXSTSP_BYTES, GRXSTSP_PID}
use Rattle.dwc2_regs.specs.Field.{field_of}
use Rattle.dwc2_fifo.specs.Words.{words_of, bytes_in}
use Rattle.dwc2_fifo.specs.Rx.{Entry}
use Rattle.dwc2_fifo.proofs.WordsLemmas.{bytes_in-words_of}
use Rattle.device_table.specs.Words.{status_word, pid_of, kind_of, number_of}
use Rattle.device_arrivals.specs.Arrivals.{Arrival, Request, Packet, Landed, entries_at, entries_of, IsArrival, setups_in, packets_at, requested_by, landed_on, packets_for, requests_in}
use Rattle.device_arrivals.specs.Laws.{Tells, AreItsOwn}
use Rattle.device_arrivals.proofs.Comes.{kind_is, number_is, count_is, two, three}

pub toggle_is : (number count kind : ℕ) (toggle : Toggle) → number < 16 → count ≤ 64 → kind < 16
    → (if field_of (status_word number count (pid_of toggle) kind) GRXSTSP_PID == 0 then D0 else D1) ≡ toggle
toggle_is number count kind D0 h k l = ap (λ n. if n == 0 then D0 else D1) (pid number count kind h k l)
  where
    pid : (number count kind : ℕ) → number < 16 → count ≤ 64 → kind < 16 → field_of (status_word number count 0 kind) GRXSTSP_PID ≡ 0
    pid number count kind h k l = omega arith
toggle_is number count kind D1 h k l = ap (λ n. if n == 0 then D0 else D1) (pid number count kind h k l)
  where
    pid : (number count kind : ℕ) → number < 16 → count ≤ 64 → kind < 16 → field_of (status_word number count 2 kind) GRXSTSP_PID ≡ 2
    pid number count kind h k l = omega arith

pub bytes_are : (bytes : List ℕ) (n : ℕ) → n ≡ length bytes → ((i : ℕ) → slice_index bytes i < 256) → take n (bytes_in (words_of bytes)) ≡ bytes
bytes_are bytes n e h = ap (λ (k : ℕ). take k (bytes_in (words_of bytes))) e ∙ bytes_in-words_of bytes h

-- a packet's two entries, by the kind that each status tells
setups_behind : (number : ℕ) (toggle : Toggle) (bytes : List ℕ) (rest : List Entry) → number < 16 → length bytes ≤ 64
    → setups_in (entries_at (Packet number toggle bytes) ++ rest) ≡ setups_in rest
setups_behind number toggle bytes rest h k =
    let first : ℕ → List (List ℕ) → List (List ℕ) =
    λ kind xs. if kind == 6 then take (field_of (status_word number (length bytes) (pid_of toggle) 2) GRXSTSP_BYTES) (bytes_in (words_of bytes)) ∷ xs else xs in
    let end : ℕ → List (List ℕ) → List (List ℕ) = λ kind xs. if kind == 6 then take (field_of (status_word number 0 0 3) GRXSTSP_BYTES) (bytes_in []) ∷ xs else xs in
    ap (λ kind. first kind (end (kind_of (status_word number 0 0 3)) (setups_in rest))) (kind_is number (length bytes) 2 toggle h k two)
    ∙ ap (λ kind. end kind (setups_in rest)) (kind_is number 0 3 D0 h (omega arith) three)

packets_behind : (at number : ℕ) (toggle : Toggle) (bytes : List ℕ) (rest : List Entry) → number < 16 → length bytes ≤ 64 → ((i : ℕ) → slice_index bytes i < 256)
    → packets_at at (entries_at (Packet number toggle bytes) ++ rest) ≡ (if at == number then record { toggle = toggle; bytes = bytes } ∷ packets_at at rest else packets_at at rest)
packets_behind at number toggle bytes rest h k below =
    let status = status_word number (length bytes) (pid_of toggle) 2 in
    let done = status_word number 0 0 3 in
    let first : ℕ → ℕ → Toggle → List ℕ → List Landed → List Landed =
    λ kind its t b xs. if (kind == 2) && (at == its) then record { toggle = t; bytes = b } ∷ xs else xs in
    let it = if field_of status GRXSTSP_PID == 0 then D0 else D1 in
    let b = take (field_of status GRXSTSP_BYTES) (bytes_in (words_of bytes)) in
    let behind = packets_at at (record { status = done; words = [] } ∷ rest) in
    ap (λ kind. first kind (number_of status) it b behind) (kind_is number (length bytes) 2 toggle h k two)
    ∙ ap (λ n. first 2 n it b behind) (number_is number (length bytes) 2 toggle h k two)
    ∙ ap (λ t. first 2 number t b behind) (toggle_is number (length bytes) 2 toggle h k two)
    ∙ ap (λ bs. first 2 number toggle bs behind) (bytes_are bytes (field_of status GRXSTSP_BYTES) (count_is number (length bytes) 2 toggle h k two) below)
    ∙ ap (λ kind. first 2 number toggle bytes (if (kind == 2) && (at == number_of done) then record { toggle = if field_of done GRXSTSP_PID == 0 then D0 else D1; bytes = take (field_of done GRXSTSP_BYTES) (bytes_in []) } ∷ packets_at at rest else packets_at at rest)) (kind_is number 0 3 D0 h (omega arith) three)

setup_first : (bytes : List ℕ) (rest : List Entry) → length bytes ≡ 8 → ((i : ℕ) → slice_index bytes i < 256)
    → setups_in (entries_at (Request bytes) ++ rest) ≡ bytes ∷ setups_in rest
setup_first bytes rest e below = ap (λ (b : List ℕ). b ∷ setups_in rest) (bytes_are bytes 8 (sym e) below)

top_below : (n top : ℕ) → n ≤ top → top < 16 → n < 16
top_below n top h k = omega arith

requests_told : (top : ℕ) (arrivals : List Arrival) → top < 16 → All (IsArrival top) arrivals → setups_in (entries_of arrivals) ≡ requested_by arrivals
requests_told top [] h all = refl
requests_told top (Request bytes ∷ arrivals) h all =
    let a = All-head (IsArrival top) (Request bytes) arrivals all in
    setup_first bytes (entries_of arrivals) a.0 a.1 ∙ ap (λ (xs : List (List ℕ)). bytes ∷ xs) (requests_told top arrivals h (All-tail (IsArrival top) (Request bytes) arrivals all))
requests_told top (Packet number toggle bytes ∷ arrivals) h all =
    let a = All-head (IsArrival top) (Packet number toggle bytes) arrivals all in
    setups_behind number toggle bytes (entries_of arrivals) (top_below number top a.0 h) a.1
    ∙ requests_told top arrivals h (All-tail (IsArrival top) (Packet number toggle bytes) arrivals all)

packets_told : (top at : ℕ) (arrivals : List Arrival) → top < 16 → All (IsArrival top) arrivals → packets_at at (entries_of arrivals) ≡ landed_on at arrivals
packets_told top at [] h all = refl
packets_told top at (Request bytes ∷ arrivals) h all = packets_told top at arrivals h (All-tail (IsArrival top) (Request bytes) arrivals all)
packets_told top at (Packet number toggle bytes ∷ arrivals) h all =
    let a = All-head (IsArrival top) (Packet number toggle bytes) arrivals all in
    packets_behind at number toggle bytes (entries_of arrivals) (top_below number top a.0 h) a.1 a.2
    ∙ ap (λ (xs : List Landed). if at == number then record { toggle = toggle; bytes = bytes } ∷ xs else xs) (packets_told top at arrivals h (All-tail (IsArrival top) (Packet number toggle bytes) arrivals all))

pub tells : (top : ℕ) (arrivals : List Arrival) → top < 16 → All (IsArrival top) arrivals → Tells arrivals
tells top arrivals h all = record { requests = requests_told top arrivals h all; packets = λ at. packets_told top at arrivals h all }

own_requests : (arrivals : List Arrival) → length (requested_by arrivals) ≡ length (requests_in arrivals)
own_requests [] = refl
own_requests (Request bytes ∷ arrivals) = ap suc (own_requests arrivals)
own_requests (Packet number toggle bytes ∷ arrivals) = own_requests arrivals

own_packets : (at : ℕ) (arrivals : List Arrival) → length (landed_on at arrivals) ≡ length (packets_for at arrivals)
own_packets at [] = refl
own_packets at (Request bytes ∷ arrivals) = own_packets at arrivals
own_packets at (Packet number toggle bytes ∷ arrivals) = either (at == number) (record { toggle = toggle; bytes = bytes }) (landed_on at arrivals) (Packet number toggle bytes) (packets_for at arrivals) (own_packets at arrivals)
  where
    either : {A B : Type 0} (b : Bool) (x : A) (xs : List A) (y : B) (ys : List B) → length xs ≡ length ys → length (if b then x ∷ xs else xs) ≡ length (if b then y ∷ ys else ys)
    either true x xs y ys e = ap suc e
    either false x xs y ys e = e

pub own : (arrivals : List Arrival) → AreItsOwn arrivals
own arrivals = record { requests = own_requests arrivals; packets = λ at. own_packets at arrivals }
