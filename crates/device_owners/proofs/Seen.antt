-- The classes as an owner's machine has them: its own alone, and the others as they were at the start.
use Rattle.std.proofs.Common.{◌≡◌, ◌⊎◌, inl, inr, List, [], ◌∷◌, Bool, true, false, refl, ap, sym, ◌∙◌}
use Rattle.std.specs.Prelude.{if◌then◌else◌}
use Rattle.usb_packet.specs.declared.bus.Owner.{Owner}
use Rattle.usb_packet.specs.declared.bus.Owner.TheVariants.{Core, Cdc, Hid, Msc, Midi}
use Rattle.usb_pipe.specs.Rules.{Rules}
use Rattle.usb_pipe.specs.Classes.{Classes, class_at, with_class, class_owners}
use Rattle.device_owners.specs.Knows.{knows_own}
use Rattle.device_owners.specs.Device.{told, told_each, classes_closed, classes_opened, World}
use Rattle.device_owners.specs.Lines.{whole, own}
use Rattle.device_owners.proofs.Sets.{never}

abbrev pub seen : {S : Type 0} → World S → Owner → Classes S → Classes S
seen world o c = with_class (record world.first { core = c.core }) o (class_at c o)

-- the state of a class that it knows
pub state_seen : {S : Type 0} (world : World S) (o x : Owner) (c : Classes S) → knows_own o x ≡ true
    → class_at (seen world o c) x ≡ class_at c x
state_seen world Core Core c e = refl
state_seen world Cdc Core c e = refl
state_seen world Hid Core c e = refl
state_seen world Msc Core c e = refl
state_seen world Midi Core c e = refl
state_seen world Cdc Cdc c e = refl
state_seen world Hid Hid c e = refl
state_seen world Msc Msc c e = refl
state_seen world Midi Midi c e = refl
state_seen world o x c e = never e

-- that class changes
pub with_seen : {S : Type 0} (world : World S) (o x : Owner) (c : Classes S) (s : S) → knows_own o x ≡ true
    → with_class (seen world o c) x s ≡ seen world o (with_class c x s)
with_seen world o Core c s e = refl
with_seen world Cdc Cdc c s e = refl
with_seen world Hid Hid c s e = refl
with_seen world Msc Msc c s e = refl
with_seen world Midi Midi c s e = refl
with_seen world o x c s e = never e

-- another changes
pub with_unseen : {S : Type 0} (world : World S) (o x : Owner) (c : Classes S) (s : S) → knows_own o x ≡ false → seen world o (with_class c x s) ≡ seen world o c
with_unseen world o Core c s e = refl
with_unseen world Core Cdc c s e = refl
with_unseen world Core Hid c s e = refl
with_unseen world Core Msc c s e = refl
with_unseen world Core Midi c s e = refl
with_unseen world Cdc Cdc c s e = never (sym e)
with_unseen world Hid Hid c s e = never (sym e)
with_unseen world Msc Msc c s e = never (sym e)
with_unseen world Midi Midi c s e = never (sym e)
with_unseen world Cdc x c s e = refl
with_unseen world Hid x c s e = refl
with_unseen world Msc x c s e = refl
with_unseen world Midi x c s e = refl

-- a class is told something
pub told_unseen : {S : Type 0} (world : World S) (o x : Owner) (f : Rules S → S → S) (c : Classes S) → knows_own o x ≡ false
    → seen world o (told (whole world) x f c) ≡ seen world o c
told_unseen world o x f c e = with_unseen world o x c (f (world.rules x) (class_at c x)) e

pub told_seen : {S : Type 0} (world : World S) (o x : Owner) (f : Rules S → S → S) (c : Classes S)
    → told (own world o) x f (seen world o c) ≡ seen world o (told (whole world) x f c)
told_seen {S} world o x f c = by (knows_own o x) refl
  where
    by : (b : Bool) → knows_own o x ≡ b
        → (if b then with_class (seen world o c) x (f (world.rules x) (class_at (seen world o c) x)) else seen world o c) ≡ seen world o (told (whole world) x f c)
    by true e = ap (λ s. with_class (seen world o c) x (f (world.rules x) s)) (state_seen world o x c e) ∙ with_seen world o x c (f (world.rules x) (class_at c x)) e
    by false e = sym (told_unseen world o x f c e)

-- an owner that isn't of this class: the core, or one that isn't known
abbrev pub IsOther : Owner → Owner → Type 0
IsOther o x = (x ≡ Core) ⊎ (knows_own o x ≡ false)

pub other_of : (o x y : Owner) → knows_own o y ≡ false → (x ≡ Core) ⊎ (x ≡ y) → IsOther o x
other_of o x y k (inl e) = inl e
other_of o x y k (inr e) = inr (ap (λ z. knows_own o z) e ∙ k)

pub told_other : {S : Type 0} (world : World S) (o x : Owner) (f : Rules S → S → S) (c : Classes S) → IsOther o x
    → seen world o (told (whole world) x f c) ≡ seen world o c
told_other world o x f c (inl e) = ap (λ y. seen world o (told (whole world) y f c)) e
told_other world o x f c (inr e) = told_unseen world o x f c e

told_each_seen : {S : Type 0} (world : World S) (o : Owner) (xs : List Owner) (f : Rules S → S → S) (c : Classes S)
    → told_each (own world o) xs f (seen world o c) ≡ seen world o (told_each (whole world) xs f c)
told_each_seen world o [] f c = refl
told_each_seen world o (x ∷ xs) f c =
    ap (told_each (own world o) xs f) (told_seen world o x f c) ∙ told_each_seen world o xs f (told (whole world) x f c)

-- sessions end and begin
pub closed_seen : {S : Type 0} (world : World S) (o : Owner) (session : Bool) (c : Classes S)
    → classes_closed (own world o) session (seen world o c) ≡ seen world o (classes_closed (whole world) session c)
closed_seen world o true c = told_each_seen world o class_owners (λ r s. r.after_closed s) c
closed_seen world o false c = refl

pub opened_seen : {S : Type 0} (world : World S) (o : Owner) (begins : Bool) (c : Classes S)
    → classes_opened (own world o) begins (seen world o c) ≡ seen world o (classes_opened (whole world) begins c)
opened_seen world o true c = told_each_seen world o class_owners (λ r s. r.after_opened s) c
opened_seen world o false c = refl
