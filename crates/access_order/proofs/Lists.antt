-- Lists of accesses, in parts.
use Rattle.std.proofs.Common.{◌≡◌, Bool, true, false, List, [], ◌∷◌, ◌++◌, refl, ap, ◌∙◌}
use Rattle.std.specs.Prelude.{◌&&◌, ◌||◌}
use Rattle.dwc2_regs.specs.declared.TheConstants.{GINTSTS_USBRST}
use Rattle.dwc2_regs.specs.declared.access.Access.{Access}
use Rattle.access_order.specs.Order.{Order, is_set, fits, after, are_ordered, order_after}
use Rattle.access_order.specs.Laws.{Splits, WakesLast}

and_and : (a b c : Bool) → (a && (b && c)) ≡ ((a && b) && c)
and_and true b c = refl
and_and false b c = refl

ordered_in_parts : (o : Order) (front rest : List Access) → are_ordered o (front ++ rest) ≡ (are_ordered o front && are_ordered (order_after o front) rest)
ordered_in_parts o [] rest = refl
ordered_in_parts o (a ∷ front) rest =
    ap (λ b. fits o a && b) (ordered_in_parts (after o a) front rest)
    ∙ and_and (fits o a) (are_ordered (after o a) front) (are_ordered (order_after (after o a) front) rest)

state_in_parts : (o : Order) (front rest : List Access) → order_after o (front ++ rest) ≡ order_after (order_after o front) rest
state_in_parts o [] rest = refl
state_in_parts o (a ∷ front) rest = state_in_parts (after o a) front rest

pub splits : Splits
splits = record { ordered = ordered_in_parts; state = state_in_parts }

pub second : (a b : Bool) → (a && b) ≡ true → b ≡ true
second true b h = h
second false b h = absurd (cc (h))

or_set : (a b : Bool) → b ≡ true → (a || b) ≡ true
or_set true b h = refl
or_set false b h = h

stopped : (o : Order) (a : Access) (rest : List Access) → o.woken ≡ true → are_ordered o (a ∷ rest) ≡ false
stopped o a rest h = rw (h) refl

none_left : (o : Order) (rest : List Access) → o.woken ≡ true → are_ordered o rest ≡ true → rest ≡ []
none_left o [] h e = refl
none_left o (a ∷ rest) h e = absurd (cc (e, stopped o a rest h))

pub wakes_last : WakesLast
wakes_last o [] rest word h e =
    let w : Access = record { write = true; off = 0x14; value = word } in
    none_left (after o w) rest (or_set o.woken (is_set word GINTSTS_USBRST) h) (second (fits o w) (are_ordered (after o w) rest) e)
wakes_last o (a ∷ front) rest word h e =
    wakes_last (after o a) front rest word h (second (fits o a) (are_ordered (after o a) (front ++ record { write = true; off = 0x14; value = word } ∷ rest)) e)
