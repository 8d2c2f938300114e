-- The bytes of a buffer between two places.
use Rattle.std.proofs.Common.{◌≡◌, ℕ, ◌+◌, ◌-◌, ◌≤◌, ◌<◌, List, [], ◌++◌, length, take, drop, ap, sym, ◌∙◌, arith, append_assoc, length-drop}
use Rattle.std.proofs.lemmas.List.{length-take, drop-append-le, drop-take, append-nil}
use Rattle.std.specs.Prelude.{Option}
use Rattle.std.proofs.Math.Seq.{take-add}
use Rattle.usb_edge.proofs.Streams.{reads-nothing, reads-more}
use Rattle.usb_edge.specs.Stream.{Reads}
use Rattle.job_reader.specs.Stream.{Fills}

-- bytes put behind the window make it longer
pub window_grows : (old new : List ℕ) (start at n : ℕ) → start ≤ at → at + n ≤ length new → take at new ≡ take at old
    → drop start (take (at + n) new) ≡ drop start (take at old) ++ take n (drop at new)
window_grows old new start at n le fits same =
    rw (take-add at n new, same)
    (drop-append-le start (take at old) (take n (drop at new)) (omega (arith, ap length same, length-take at new)))

pub window_stays : (buffer : List ℕ) (start at : ℕ) → start ≤ at → drop start (take (start + (at - start)) buffer) ≡ drop start (take at buffer)
window_stays buffer start at le = let e : start + (at - start) ≡ at = omega arith in ap (λ n. drop start (take n buffer)) e

-- bytes that were copied to the front
pub window_moved : (old new : List ℕ) (start at : ℕ) → start ≤ at → take (at - start) new ≡ take (at - start) (drop start old)
    → take (at - start) new ≡ drop start (take at old)
window_moved old new start at le same =
    let e : start + (at - start) ≡ at = omega arith in
    same ∙ sym (drop-take start (at - start) old) ∙ ap (λ n. drop start (take n old)) e

-- one read that brought bytes
pub filled : (left left' : Option (List ℕ)) (old new : List ℕ) (start at n : ℕ) → start ≤ at → at + n ≤ length new → take at new ≡ take at old
    → Reads left left' (take n (drop at new)) → Fills left left' (drop start (take at old)) (drop start (take (at + n) new))
filled left left' old new start at n le fits same reads = record {
  got = take n (drop at new);
  reads = reads;
  joined = window_grows old new start at n le fits same;
}

-- one that brought none
pub not_filled : (left left' : Option (List ℕ)) (old new : List ℕ) (start at : ℕ) → left' ≡ left → take at new ≡ take at old
    → Fills left left' (drop start (take at old)) (drop start (take at new))
not_filled left left' old new start at stays same = record {
  got = [];
  reads = rw stays (reads-nothing left);
  joined = ap (drop start) same ∙ sym (append-nil (drop start (take at old)));
}

pub longer : (old new : List ℕ) (start at n : ℕ) → start ≤ at → 0 < n → at + n ≤ length new → take at new ≡ take at old
    → length (drop start (take at old)) < length (drop start (take (at + n) new))
longer old new start at n le some fits same =
    omega (arith, length-drop start (take at old), ap length same, length-take at new, length-drop start (take (at + n) new), length-take (at + n) new)

pub fills_nothing : (left : Option (List ℕ)) (ahead : List ℕ) → Fills left left ahead ahead
fills_nothing left ahead = record { got = []; reads = reads-nothing left; joined = sym (append-nil ahead) }

-- one read after another
pub fills_more : (a b c : Option (List ℕ)) (x y z : List ℕ) → Fills a b x y → Fills b c y z → Fills a c x z
fills_more a b c x y z f h = record {
  got = f.got ++ h.got;
  reads = reads-more a b c f.got h.got f.reads h.reads;
  joined = h.joined ∙ ap (λ t. t ++ h.got) f.joined ∙ append_assoc x f.got h.got;
}
