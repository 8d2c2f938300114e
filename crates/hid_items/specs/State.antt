-- The item state table (HID 1.11, 5.4 and 6.2.2.7) with the collections that are open.
use Rattle.std.specs.Prelude.{ℕ, ◌+◌, ◌-◌, List, [], ◌∷◌}
use Rattle.hid_items.specs.declared.state.Globals.{Globals}
use Rattle.hid_items.specs.declared.item.Item.{Item}
use Rattle.hid_items.specs.declared.item.Item.TheVariants.{Field, Collection, EndCollection, ReportSize, ReportId, ReportCount, Push, Pop, Other}

-- The global items in force, those that were pushed, the latest first, and how many collections are open.
pub record State : Type 0 where
  pub globals : Globals
  pub pushed : List Globals
  pub open_collections : ℕ

-- Before the first item. The id 0 means that there is no Report ID: no item can set it.
abbrev pub start : State
start = record {
  globals = record { size = 0; count = 0; id = 0 };
  pushed = [];
  open_collections = 0;
}

-- A Pop brings back what the latest Push kept.
abbrev pub popped : State → List Globals → State
popped s [] = s
popped s (g ∷ gs) = record s { globals = g; pushed = gs }

-- The state behind an item.
abbrev pub after : State → Item → State
after s (ReportSize n) = record s { globals = record (s.globals) { size = n } }
after s (ReportCount n) = record s { globals = record (s.globals) { count = n } }
after s (ReportId n) = record s { globals = record (s.globals) { id = n } }
after s Push = record s { pushed = s.globals ∷ s.pushed }
after s Pop = popped s s.pushed
after s Collection = record s { open_collections = s.open_collections + 1 }
after s EndCollection = record s { open_collections = s.open_collections - 1 }
after s (Field kind) = s
after s Other = s
