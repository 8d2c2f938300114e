-- What comes lies behind the others.
use Rattle.std.proofs.Common.{◌≡◌, ℕ, zero, suc, List, [], ◌∷◌, ◌++◌, Bool, true, false, refl, ap, sym, ◌∙◌, append_assoc, append-nil}
use Rattle.std.specs.Prelude.{if◌then◌else◌}
use Rattle.std.specs.List.{filter}
use Rattle.std.proofs.lemmas.List.Elements.{filter-append}
use Rattle.usb_packet.specs.declared.bus.Toggle.{Toggle}
use Rattle.dwc2_fifo.specs.Rx.{Entry}
use Rattle.device_table.specs.State.{Table}
use Rattle.device_table.specs.Bus.{after_landing, after_setup, out_entries, setup_entries}
use Rattle.device_arrivals.specs.Arrivals.{Arrival, Request, Packet, entries_at, entries_of, arrivals_for, is_for}
use Rattle.device_arrivals.specs.Laws.{holding, added, IsBehind}

pub entries_of-behind : (arrivals : List Arrival) (arrival : Arrival) → entries_of arrivals ++ entries_at arrival ≡ entries_of (arrivals ++ arrival ∷ [])
entries_of-behind [] arrival = sym (append-nil (entries_at arrival))
entries_of-behind (a ∷ arrivals) arrival =
    append_assoc (entries_at a) (entries_of arrivals) (entries_at arrival) ∙ ap (λ es. entries_at a ++ es) (entries_of-behind arrivals arrival)

one : {A : Type 0} (b : Bool) (xs : List A) (x : A) → xs ++ (if b then x ∷ [] else []) ≡ (if b then xs ++ x ∷ [] else xs)
one true xs x = refl
one false xs x = append-nil xs

pub arrivals_for-behind : (number : ℕ) (arrivals : List Arrival) (arrival : Arrival) → arrivals_for number (arrivals ++ arrival ∷ []) ≡ added number arrivals arrival
arrivals_for-behind number arrivals arrival =
    filter-append (is_for number) arrivals (arrival ∷ []) ∙ one (is_for number arrival) (arrivals_for number arrivals) arrival

same_rx : (t : Table) (left : List ℕ) (arrivals : List Arrival) (number : ℕ) (toggle : Toggle) (bytes : List ℕ)
    → (after_landing (holding t left arrivals) number toggle bytes).rx.entries ≡ entries_of arrivals ++ out_entries number toggle bytes
same_rx t left arrivals zero toggle bytes = refl
same_rx t left arrivals (suc n) toggle bytes = refl

pub lands : (t : Table) (left : List ℕ) (arrivals : List Arrival) (number : ℕ) (toggle : Toggle) (bytes : List ℕ)
    → IsBehind (after_landing (holding t left arrivals) number toggle bytes) arrivals (Packet number toggle bytes)
lands t left arrivals number toggle bytes = record {
  entries = same_rx t left arrivals number toggle bytes ∙ entries_of-behind arrivals (Packet number toggle bytes);
  each = λ n. arrivals_for-behind n arrivals (Packet number toggle bytes);
}

pub requested : (t : Table) (left : List ℕ) (arrivals : List Arrival) (bytes : List ℕ)
    → IsBehind (after_setup (holding t left arrivals) bytes) arrivals (Request bytes)
requested t left arrivals bytes = record {
  entries = entries_of-behind arrivals (Request bytes);
  each = λ n. arrivals_for-behind n arrivals (Request bytes);
}
