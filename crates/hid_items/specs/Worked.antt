-- Report descriptors with their lengths and faults: the keyboard and the mouse of HID 1.11, E.6 and E.10, and small ones worked
-- out by hand from 6.2.2.
use Rattle.std.specs.Prelude.{◌≡◌, ℕ, List, [], ◌∷◌, Ok, Err}
use Rattle.hid_items.specs.declared.ItemFault.{ItemFault}
use Rattle.hid_items.specs.declared.ItemFault.TheVariants.{Truncated, Long, Stack, Nest, Ids, Size}
use Rattle.hid_items.specs.declared.ReportLen.{ReportLen}
use Rattle.hid_items.specs.Lengths.{lengths_of}

-- the lengths of one id: input, output and feature
abbrev pub lengths : ℕ → ℕ → ℕ → ℕ → ReportLen
lengths id input output feature = record { id = id; input = input; output = output; feature = feature }

abbrev pub Gives : List ℕ → List ReportLen → Type 0
Gives bytes rows = lengths_of bytes ≡ Ok rows

abbrev pub Fails : List ℕ → ItemFault → Type 0
Fails bytes fault = lengths_of bytes ≡ Err fault

-- E.6: eight modifier bits, a constant byte and six keys; five lamps and three bits of padding
abbrev pub keyboard : List ℕ
keyboard =
    0x05 ∷ 0x01 ∷ 0x09 ∷ 0x06 ∷ 0xa1 ∷ 0x01 ∷ 0x05 ∷ 0x07 ∷ 0x19 ∷ 0xe0 ∷ 0x29 ∷ 0xe7 ∷ 0x15 ∷ 0x00 ∷ 0x25 ∷ 0x01
    ∷ 0x75 ∷ 0x01 ∷ 0x95 ∷ 0x08 ∷ 0x81 ∷ 0x02 ∷ 0x95 ∷ 0x01 ∷ 0x75 ∷ 0x08 ∷ 0x81 ∷ 0x01 ∷ 0x95 ∷ 0x05 ∷ 0x75 ∷ 0x01
    ∷ 0x05 ∷ 0x08 ∷ 0x19 ∷ 0x01 ∷ 0x29 ∷ 0x05 ∷ 0x91 ∷ 0x02 ∷ 0x95 ∷ 0x01 ∷ 0x75 ∷ 0x03 ∷ 0x91 ∷ 0x01 ∷ 0x95 ∷ 0x06
    ∷ 0x75 ∷ 0x08 ∷ 0x15 ∷ 0x00 ∷ 0x25 ∷ 0x65 ∷ 0x05 ∷ 0x07 ∷ 0x19 ∷ 0x00 ∷ 0x29 ∷ 0x65 ∷ 0x81 ∷ 0x00 ∷ 0xc0 ∷ []

-- E.10: three buttons, five bits of padding, X and Y
abbrev pub mouse : List ℕ
mouse =
    0x05 ∷ 0x01 ∷ 0x09 ∷ 0x02 ∷ 0xa1 ∷ 0x01 ∷ 0x09 ∷ 0x01 ∷ 0xa1 ∷ 0x00 ∷ 0x05 ∷ 0x09 ∷ 0x19 ∷ 0x01 ∷ 0x29 ∷ 0x03
    ∷ 0x15 ∷ 0x00 ∷ 0x25 ∷ 0x01 ∷ 0x95 ∷ 0x03 ∷ 0x75 ∷ 0x01 ∷ 0x81 ∷ 0x02 ∷ 0x95 ∷ 0x01 ∷ 0x75 ∷ 0x05 ∷ 0x81 ∷ 0x01
    ∷ 0x05 ∷ 0x01 ∷ 0x09 ∷ 0x30 ∷ 0x09 ∷ 0x31 ∷ 0x15 ∷ 0x81 ∷ 0x25 ∷ 0x7f ∷ 0x75 ∷ 0x08 ∷ 0x95 ∷ 0x02 ∷ 0x81 ∷ 0x06
    ∷ 0xc0 ∷ 0xc0 ∷ []

pub record WorkedLengths : Type 0 where
  pub keyboard_is : Gives keyboard (lengths 0 8 1 0 ∷ [])
  pub mouse_is : Gives mouse (lengths 0 3 0 0 ∷ [])
  -- nine bits take two bytes
  pub rounded : Gives (0x75 ∷ 9 ∷ 0x95 ∷ 1 ∷ 0x81 ∷ 2 ∷ []) (lengths 0 2 0 0 ∷ [])
  -- a maximum in four bytes, of which the last would end a collection; a count in four bytes and a size in two, the lowest first
  pub four :
      Gives (0x27 ∷ 0 ∷ 0 ∷ 0 ∷ 0xc0 ∷ 0x97 ∷ 8 ∷ 0 ∷ 0 ∷ 0 ∷ 0x76 ∷ 1 ∷ 0 ∷ 0xb1 ∷ 2 ∷ []) (lengths 0 0 0 1 ∷ [])
  -- the ids in the order of their first fields, each with what its own fields add up to
  pub two_ids :
      Gives
      (
      0x75 ∷ 8 ∷ 0x95 ∷ 1 ∷ 0x85 ∷ 2 ∷ 0x81 ∷ 2 ∷ 0x85 ∷ 1 ∷ 0x91 ∷ 2 ∷ 0x85 ∷ 2 ∷ 0x95 ∷ 3 ∷ 0x81 ∷ 2 ∷ []
      )
      (lengths 2 4 0 0 ∷ lengths 1 0 1 0 ∷ [])
  -- a Pop brings back size, count and id
  pub popped :
      Gives
      (
      0x75 ∷ 8 ∷ 0x95 ∷ 1 ∷ 0x85 ∷ 1 ∷ 0xa4 ∷ 0x75 ∷ 4 ∷ 0x95 ∷ 4 ∷ 0x85 ∷ 2 ∷ 0x81 ∷ 2 ∷ 0xb4 ∷ 0x91 ∷ 2 ∷ []
      )
      (lengths 2 2 0 0 ∷ lengths 1 0 1 0 ∷ [])
  -- an item that only looks like a Report Size: local, of another tag, reserved
  pub others : Gives (0x79 ∷ 8 ∷ 0x65 ∷ 8 ∷ 0x7d ∷ 8 ∷ 0x95 ∷ 8 ∷ 0x81 ∷ 2 ∷ []) (lengths 0 0 0 0 ∷ [])
  -- 64 bytes, and 63 with an id
  pub longest : Gives (0x75 ∷ 8 ∷ 0x95 ∷ 64 ∷ 0x81 ∷ 2 ∷ []) (lengths 0 64 0 0 ∷ [])
  pub longest_id : Gives (0x85 ∷ 7 ∷ 0x75 ∷ 8 ∷ 0x95 ∷ 63 ∷ 0x91 ∷ 2 ∷ []) (lengths 7 0 63 0 ∷ [])

-- each fault with the place of its item
pub record WorkedFaults : Type 0 where
  pub truncated : Fails (0x05 ∷ 1 ∷ 0x26 ∷ 0xff ∷ []) (Truncated 2)
  pub long : Fails (0x05 ∷ 1 ∷ 0xfe ∷ 0 ∷ 0 ∷ []) (Long 2)
  pub pop : Fails (0xa4 ∷ 0xb4 ∷ 0xb4 ∷ []) (Stack 2)
  pub push : Fails (0xa4 ∷ 0xa4 ∷ 0xa4 ∷ 0xa4 ∷ 0xa4 ∷ []) (Stack 4)
  pub closed : Fails (0xa1 ∷ 1 ∷ 0xc0 ∷ 0xc0 ∷ []) (Nest 3)
  pub open_end : Fails (0xa1 ∷ 1 ∷ 0xa1 ∷ 0 ∷ 0xc0 ∷ []) (Nest 5)
  pub zero_id : Fails (0x85 ∷ 0 ∷ []) (Ids 0)
  pub large_id : Fails (0x86 ∷ 0 ∷ 1 ∷ []) (Ids 0)
  pub late_id : Fails (0x75 ∷ 8 ∷ 0x95 ∷ 1 ∷ 0x81 ∷ 2 ∷ 0x85 ∷ 1 ∷ []) (Ids 6)
  pub size : Fails (0x75 ∷ 8 ∷ 0x95 ∷ 64 ∷ 0x81 ∷ 2 ∷ 0x75 ∷ 1 ∷ 0x95 ∷ 1 ∷ 0x81 ∷ 2 ∷ []) (Size 10)
  pub size_id : Fails (0x85 ∷ 7 ∷ 0x75 ∷ 8 ∷ 0x95 ∷ 64 ∷ 0x91 ∷ 2 ∷ []) (Size 6)

pub record WorkedDescriptors : Type 0 where
  pub told : WorkedLengths
  pub faults : WorkedFaults
