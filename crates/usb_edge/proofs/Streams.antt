-- What follows from reads, writes and counts that come one after another.
use Rattle.std.proofs.Common.{◌≡◌, ℕ, ◌+◌, ◌≤◌, List, [], ◌++◌, Option, Some, None, length, take, drop, refl, ap, sym, ◌∙◌, subst, append_assoc, arith}
use Rattle.std.proofs.lemmas.List.{append-nil, take-append-drop, take_all}
use Rattle.std.proofs.Math.Seq.{take-add}
use Rattle.usb_edge.specs.Stream.{Reads, Takes, TakesFront, Rose}

-- no read, no write
pub reads-nothing : (left : Option (List ℕ)) → Reads left left []
reads-nothing (Some left) = refl
reads-nothing None = tt

pub takes-nothing : (taken : Option (List ℕ)) → Takes taken taken []
takes-nothing (Some taken) = sym (append-nil taken)
takes-nothing None = tt

-- one after another
pub reads-more : (a b c : Option (List ℕ)) (x y : List ℕ) → Reads a b x → Reads b c y → Reads a c (x ++ y)
reads-more (Some a) (Some b) (Some c) x y h k = h ∙ ap (λ t. x ++ t) k ∙ sym (append_assoc x y c)
reads-more None None None x y h k = tt
reads-more (Some a) None c x y h k = absurd h
reads-more (Some a) (Some b) None x y h k = absurd k
reads-more None (Some b) c x y h k = absurd h
reads-more None None (Some c) x y h k = absurd k

pub takes-more : (a b c : Option (List ℕ)) (x y : List ℕ) → Takes a b x → Takes b c y → Takes a c (x ++ y)
takes-more (Some a) (Some b) (Some c) x y h k = k ∙ ap (λ t. t ++ y) h ∙ append_assoc a x y
takes-more None None None x y h k = tt
takes-more (Some a) None c x y h k = absurd h
takes-more (Some a) (Some b) None x y h k = absurd k
takes-more None (Some b) c x y h k = absurd h
takes-more None None (Some c) x y h k = absurd k

-- a count that rose within a longer time rose in it
pub rose_within : (a b c d : ℕ) → a ≤ b → Rose b c → c ≤ d → Rose a d
rose_within a b c d before rose after = omega arith

-- bytes of which some were taken, and then more

pub none_taken : (taken : Option (List ℕ)) (bytes : List ℕ) → Takes taken taken (take 0 bytes)
none_taken taken bytes = takes-nothing taken

pub more_taken : (a b c : Option (List ℕ)) (bytes : List ℕ) (given n : ℕ) → Takes a b (take given bytes) → Takes b c (take n (drop given bytes)) → Takes a c (take (given + n) bytes)
more_taken a b c bytes given n h k = subst (Takes a c) (sym (take-add given n bytes)) (takes-more a b c (take given bytes) (take n (drop given bytes)) h k)

-- and of which all or a front was taken

pub all_taken : (taken taken' : Option (List ℕ)) (text bytes : List ℕ) (n : ℕ) → bytes ≡ text → n ≡ length bytes → Takes taken taken' (take n bytes) → Takes taken taken' text
all_taken taken taken' text bytes n same e h = subst (Takes taken taken') (take_all n bytes (omega arith) ∙ same) h

pub front_taken : (taken taken' : Option (List ℕ)) (text bytes : List ℕ) (n : ℕ) → bytes ≡ text → Takes taken taken' (take n bytes) → TakesFront taken taken' text
front_taken taken taken' text bytes n same h =
    record { given = take n bytes; more = drop n bytes; text_is = sym same ∙ sym (take-append-drop n bytes); takes = h }
