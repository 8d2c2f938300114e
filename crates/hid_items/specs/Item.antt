-- The short items of a report descriptor (HID 1.11, 6.2.2.1 and 6.2.2.2).
use Rattle.std.specs.Prelude.{◌≡◌, ◌≢◌, ◌<◌, ◌++◌, ℕ, zero, suc, ◌+◌, ◌*◌, ◌/◌, ◌%◌, ◌==◌, List, [], ◌∷◌, length, take, if◌then◌else◌, nat_lt, Result, Ok, Err}
use Rattle.hid_items.specs.declared.ItemFault.{ItemFault}
use Rattle.hid_items.specs.declared.ItemFault.TheVariants.{Truncated, Long}
use Rattle.hid_items.specs.declared.item.Item.{Item}
use Rattle.hid_items.specs.declared.item.Item.TheVariants.{Field, Collection, EndCollection, ReportSize, ReportId, ReportCount, Push, Pop, Other}
use Rattle.hid_items.specs.declared.item.ReportKind.TheVariants.{Input, Output, Feature}

-- How many bytes of data follow a prefix: its bits 1 to 0, where 3 means four.
abbrev pub data_size : ℕ → ℕ
data_size prefix = if prefix % 4 == 3 then 4 else prefix % 4

-- The type of an item, bits 3 to 2 of its prefix: 0 main, 1 global, 2 local.
abbrev pub type_of : ℕ → ℕ
type_of prefix = prefix / 4 % 4

-- The tag of an item, bits 7 to 4 of its prefix.
abbrev pub tag_of : ℕ → ℕ
tag_of prefix = prefix / 16

-- The number that some bytes are, the lowest first.
abbrev pub little_endian : List ℕ → ℕ
little_endian [] = 0
little_endian (b ∷ bs) = b + 256 * little_endian bs

-- Main items, by tag.
abbrev pub main_item : ℕ → Item
main_item tag =
    if tag == 8 then Field Input
    else (if tag == 9 then Field Output
    else (if tag == 11 then Field Feature
    else (if tag == 10 then Collection
    else (if tag == 12 then EndCollection
    else Other))))

-- Global items, by tag.
abbrev pub global_item : ℕ → ℕ → Item
global_item tag value =
    if tag == 7 then ReportSize value
    else (if tag == 8 then ReportId value
    else (if tag == 9 then ReportCount value
    else (if tag == 10 then Push
    else (if tag == 11 then Pop
    else Other))))

-- What an item with a prefix and a value says of reports.
abbrev pub item_of : ℕ → ℕ → Item
item_of prefix value =
    if type_of prefix == 0 then main_item (tag_of prefix)
    else (if type_of prefix == 1 then global_item (tag_of prefix) value
    else Other)

-- What an item says, by its prefix and its data.
abbrev pub meaning : ℕ → List ℕ → Item
meaning prefix bytes = item_of prefix (little_endian bytes)

-- The data of the item at a place, by its prefix and all the bytes behind it. The prefix fe begins a long
-- item, which is no short one, so no data is looked for behind it.
abbrev pub data_at : ℕ → ℕ → List ℕ → Result (List ℕ) ItemFault
data_at place prefix behind =
    if prefix == 0xfe then Err (Long place)
    else (if nat_lt (length behind) (data_size prefix) then Err (Truncated place)
    else Ok (take (data_size prefix) behind))

-- The short items of a descriptor in their order, each with its place, its prefix and its data. They go to
-- the end, whose place is the descriptor's length, or to a fault.
pub data Items : Type 0 where
  Has : ℕ → ℕ → List ℕ → Items → Items
  Ends : ℕ → Items
  Stops : ItemFault → Items

-- An item whose data was read, with those behind it.
abbrev pub items_with : ℕ → ℕ → Result (List ℕ) ItemFault → Items → Items
items_with place prefix (Ok bytes) rest = Has place prefix bytes rest
items_with place prefix (Err fault) rest = Stops fault

-- The items among the bytes from a place on, of which the first few are still data of the item before.
abbrev pub items_from : ℕ → ℕ → List ℕ → Items
items_from data_left place [] = Ends place
items_from zero place (prefix ∷ behind) =
    items_with place prefix (data_at place prefix behind) (items_from (data_size prefix) (place + 1) behind)
items_from (suc data_left) place (byte ∷ behind) = items_from data_left (place + 1) behind

-- The items of a descriptor.
abbrev pub items_of : List ℕ → Items
items_of bytes = items_from 0 0 bytes

-- The grammar that items are cut by: bytes from a place on are these items, one after another, up to the
-- end or to an item that is long or cut off.
abbrev pub AreItemsFrom : ℕ → List ℕ → Items → Type 0
AreItemsFrom place bytes (Has at prefix content rest) =
    (at ≡ place) × (prefix ≢ 0xfe) × (length content ≡ data_size prefix)
    × ((behind : List ℕ) × (bytes ≡ prefix ∷ content ++ behind) × AreItemsFrom (place + 1 + length content) behind rest)
AreItemsFrom place bytes (Ends at) = (at ≡ place) × (bytes ≡ [])
AreItemsFrom place bytes (Stops (Truncated at)) =
    (at ≡ place)
    × ((prefix : ℕ) × (behind : List ℕ) × (prefix ≢ 0xfe) × (bytes ≡ prefix ∷ behind) × (length behind < data_size prefix))
AreItemsFrom place bytes (Stops (Long at)) = (at ≡ place) × ((behind : List ℕ) × (bytes ≡ 0xfe ∷ behind))
AreItemsFrom place bytes (Stops _) = ⊥

-- The items of a descriptor are what the grammar cuts it into, and the grammar cuts it in no other way.
pub record IsOnlyCut (bytes : List ℕ) (items : Items) : Type 0 where
  pub is_cut : AreItemsFrom 0 bytes items
  pub only : (others : Items) → AreItemsFrom 0 bytes others → others ≡ items

-- What an item says, or why its data can't be read.
abbrev pub read_as : ℕ → Result (List ℕ) ItemFault → Result Item ItemFault
read_as prefix (Ok bytes) = Ok (meaning prefix bytes)
read_as prefix (Err fault) = Err fault

-- What the item at a place says, by its prefix and all the bytes behind it.
abbrev pub item_at : ℕ → ℕ → List ℕ → Result Item ItemFault
item_at place prefix behind = read_as prefix (data_at place prefix behind)
