-- A pass over the items goes over the bytes.
use Rattle.std.proofs.Common.{◌≡◌, ℕ, zero, suc, ◌+◌, ◌≤◌, List, [], ◌∷◌, length, drop, Result, Ok, Err, None, Some, refl, ap, ◌∙◌, arith, add-zero}
use Rattle.hid_items.specs.declared.ItemFault.{ItemFault}
use Rattle.hid_items.specs.declared.item.Item.{Item}
use Rattle.hid_items.specs.declared.item.Item.TheVariants.{Field, Collection, EndCollection, ReportSize, ReportId, ReportCount, Push, Pop, Other}
use Rattle.hid_items.specs.declared.reports.Report.{Report}
use Rattle.hid_items.specs.Item.{Items, data_size, data_at, item_at, read_as, meaning, items_with, items_from}
use Rattle.hid_items.specs.State.{State, after, popped}
use Rattle.hid_items.specs.declared.state.Globals.{Globals}
use Rattle.hid_items.specs.Reports.{rows_after, fault_in, fault_or, pass}

-- The data of an item is passed over.
pub items_from-data : (n place : ℕ) (bytes : List ℕ) → n ≤ length bytes → items_from n place bytes ≡ items_from 0 (place + n) (drop n bytes)
items_from-data zero place bytes h = rw (add-zero place) refl
items_from-data (suc n) place [] h = absurd (omega arith)
items_from-data (suc n) place (b ∷ bytes) h =
    let here : place + 1 + n ≡ place + suc n = omega arith in
    items_from-data n (place + 1) bytes (omega arith) ∙ ap (λ p. items_from 0 p (drop n bytes)) here

-- What a pass makes of an item that was read, and of one that wasn't.
pass_read : (s : State) (rows : List Report) (place prefix : ℕ) (read : Result (List ℕ) ItemFault) (item : Item) (rest : Items) →
    read_as prefix read ≡ Ok item →
    pass s rows (items_with place prefix read rest) ≡ fault_or (fault_in s rows place item) (pass (after s item) (rows_after s item rows) rest)
pass_read s rows place prefix (Ok bytes) item rest e = let same : meaning prefix bytes ≡ item = cc in rw same refl
pass_read s rows place prefix (Err fault) item rest e = cc

pass_unread : (s : State) (rows : List Report) (place prefix : ℕ) (read : Result (List ℕ) ItemFault) (fault : ItemFault) (rest : Items) →
    read_as prefix read ≡ Err fault → pass s rows (items_with place prefix read rest) ≡ Err fault
pass_unread s rows place prefix (Ok bytes) fault rest e = cc
pass_unread s rows place prefix (Err told) fault rest e = let same : told ≡ fault = cc in rw same refl

-- An item without a fault leads to the pass behind it.
pub pass_on : (s : State) (rows : List Report) (place prefix : ℕ) (behind : List ℕ) (item : Item) →
    item_at place prefix behind ≡ Ok item → data_size prefix ≤ length behind → fault_in s rows place item ≡ None →
    pass s rows (items_from 0 place (prefix ∷ behind)) ≡
    pass (after s item) (rows_after s item rows) (items_from 0 (place + 1 + data_size prefix) (drop (data_size prefix) behind))
pass_on s rows place prefix behind item is_item fits no_fault =
    pass_read s rows place prefix (data_at place prefix behind) item (items_from (data_size prefix) (place + 1) behind) is_item
    ∙ rw (no_fault, items_from-data (data_size prefix) (place + 1) behind fits) refl

-- A fault of an item ends the pass.
pub pass_ends : (s : State) (rows : List Report) (place prefix : ℕ) (behind : List ℕ) (item : Item) (fault : ItemFault) →
    item_at place prefix behind ≡ Ok item → fault_in s rows place item ≡ Some fault →
    pass s rows (items_from 0 place (prefix ∷ behind)) ≡ Err fault
pass_ends s rows place prefix behind item fault is_item at =
    pass_read s rows place prefix (data_at place prefix behind) item (items_from (data_size prefix) (place + 1) behind) is_item
    ∙ rw at refl

-- An item that can't be read ends the pass.
pub pass_stops : (s : State) (rows : List Report) (place prefix : ℕ) (behind : List ℕ) (fault : ItemFault) →
    item_at place prefix behind ≡ Err fault → pass s rows (items_from 0 place (prefix ∷ behind)) ≡ Err fault
pass_stops s rows place prefix behind fault is_fault =
    pass_unread s rows place prefix (data_at place prefix behind) fault (items_from (data_size prefix) (place + 1) behind) is_fault

open-popped : (s : State) (pushed : List Globals) → (popped s pushed).open_collections ≤ s.open_collections + 1
open-popped s [] = omega arith
open-popped s (g ∷ gs) = omega arith

-- An item opens one collection at most.
pub after-open : (s : State) (item : Item) → (after s item).open_collections ≤ s.open_collections + 1
after-open s (Field kind) = omega arith
after-open s (ReportId value) = omega arith
after-open s (ReportSize n) = omega arith
after-open s (ReportCount n) = omega arith
after-open s Push = omega arith
after-open s Pop = open-popped s s.pushed
after-open s EndCollection = omega arith
after-open s Collection = omega arith
after-open s Other = omega arith

-- The data of an item that was read is there.
pub item_fits : (place prefix : ℕ) (behind : List ℕ) (item : Item) → item_at place prefix behind ≡ Ok item → data_size prefix ≤ length behind
item_fits place prefix behind item is_item = grind arith

pub ruleset step_rules = (pass_on, pass_ends, pass_stops, after-open, item_fits)
