-- An IN pipe with the device at its other end: each packet is held once and in order.
use Rattle.std.proofs.Common.{◌≡◌, ℕ, suc, ◌++◌, ◌≤◌, List, [], ◌∷◌, true, false, length, take, drop, inl, inr, refl, sym, ap, ◌∙◌, arith, append_assoc, append-nil, take-append-drop, true≢false}
use Rattle.std.specs.Prelude.{nat_le, nat_lt}
use Rattle.std.specs.List.{concat}
use Rattle.std.proofs.lemmas.Bool.{cases_Bool}
use Rattle.std.proofs.lemmas.List.Folds.{concat-append}
use Rattle.usb_packet.specs.declared.bus.Toggle.{Toggle}
use Rattle.usb_packet.specs.declared.bus.Toggle.TheVariants.{D0, D1}
use Rattle.usb_packet.specs.Toggles.{flipped}
use Rattle.device_pipe.specs.Link.{Fate, Whole, DataLost, HandshakeLost}
use Rattle.host_pipe.specs.Tries.{Went, Refused, Lost, most_tries}
use Rattle.host_pipe.specs.InPipe.{InPhase, Closed, Rest, Running, Landed, Posted, Halted, Dead, Clearing, Came, Stalled, Unheard, Irq, Task, Starts, Reads}
use Rattle.host_pipe.specs.OutLink.{Attitude, Takes, Waits, Stalls}
use Rattle.host_pipe.specs.InLink.{InLink, transacted, InStep, Asks, Does, in_start, in_step, in_run}
use Rattle.host_pipe.specs.Laws.{landed, IsHeldOnce}

abbrev link_of : InPhase → Toggle → ℕ → List ℕ → Toggle → List (List ℕ) → List (List ℕ) → List ℕ → InLink
link_of phase h tries held d packets moved read =
    record { pipe = record { phase = phase; toggle = h; tries = tries; held = held }; toggle = d; packets = packets; moved = moved; read = read }

-- joined, as each case needs it
joins : (read held p : List ℕ) (moved : List (List ℕ)) → read ++ held ++ [] ≡ concat (moved ++ []) → read ++ held ++ p ≡ concat (moved ++ p ∷ [])
joins read held p moved e =
    let whole : read ++ held ≡ concat moved = sym (append-nil (read ++ held)) ∙ e ∙ ap concat (append-nil moved) in
    ap (λ (y : List ℕ). y ++ p) whole ∙ ap (λ (y : List ℕ). concat moved ++ y) (sym (append-nil p)) ∙ sym (concat-append moved (p ∷ []))

joins_on : (read held p : List ℕ) (moved : List (List ℕ)) → read ++ held ++ [] ≡ concat (moved ++ []) → read ++ held ++ p ≡ concat ((moved ++ p ∷ []) ++ [])
joins_on read held p moved e = joins read held p moved e ∙ ap concat (sym (append-nil (moved ++ p ∷ [])))

ends : (all : List ℕ) (p : List ℕ) (moved : List (List ℕ)) → all ≡ concat (moved ++ p ∷ []) → all ≡ concat ((moved ++ p ∷ []) ++ [])
ends all p moved e = e ∙ ap concat (sym (append-nil (moved ++ p ∷ [])))

one : (p : List ℕ) (ps : List (List ℕ)) → 1 ≤ length (p ∷ ps)
one p ps = omega arith

abbrev Held : List (List ℕ) → InLink → Type 0
Held given link = IsHeldOnce given link

-- the device sends its front packet
comes : (given : List (List ℕ)) (size : ℕ) (fate : Fate) (h d : Toggle) (tries : ℕ) (held p : List ℕ) (ps moved : List (List ℕ)) (read : List ℕ)
    → nat_lt size (length p) ≡ false → Held given (link_of Running h tries held d (p ∷ ps) moved read)
    → Held given (transacted size (link_of Running h tries held d (p ∷ ps) moved read) fate Takes)
comes given size DataLost h d tries held p ps moved read fits i = record { all = i.all; bytes = i.bytes; doubt = i.doubt }
comes given size Whole D0 D0 tries held p ps moved read fits i = rw fits (record {
  all = append_assoc moved (p ∷ []) ps ∙ i.all;
  bytes = joins_on read held p moved i.bytes;
  doubt = λ e. elim (true≢false e) [ ];
})
comes given size Whole D1 D1 tries held p ps moved read fits i = rw fits (record {
  all = append_assoc moved (p ∷ []) ps ∙ i.all;
  bytes = joins_on read held p moved i.bytes;
  doubt = λ e. elim (true≢false e) [ ];
})
comes given size Whole D0 D1 tries held p ps moved read fits i = rw fits (record {
  all = append_assoc moved (p ∷ []) ps ∙ i.all;
  bytes = ends (read ++ held ++ []) p moved i.bytes;
  doubt = λ e. elim (true≢false e) [ ];
})
comes given size Whole D1 D0 tries held p ps moved read fits i = rw fits (record {
  all = append_assoc moved (p ∷ []) ps ∙ i.all;
  bytes = ends (read ++ held ++ []) p moved i.bytes;
  doubt = λ e. elim (true≢false e) [ ];
})
comes given size HandshakeLost D0 D0 tries held p ps moved read fits i = rw fits (record { all = i.all; bytes = joins read held p moved i.bytes; doubt = λ e. one p ps })
comes given size HandshakeLost D1 D1 tries held p ps moved read fits i = rw fits (record { all = i.all; bytes = joins read held p moved i.bytes; doubt = λ e. one p ps })
comes given size HandshakeLost D0 D1 tries held p ps moved read fits i = rw fits (record { all = i.all; bytes = i.bytes; doubt = i.doubt })
comes given size HandshakeLost D1 D0 tries held p ps moved read fits i = rw fits (record { all = i.all; bytes = i.bytes; doubt = i.doubt })

-- one that is too long isn't acknowledged
too_long : (given : List (List ℕ)) (size : ℕ) (fate : Fate) (h d : Toggle) (tries : ℕ) (held p : List ℕ) (ps moved : List (List ℕ)) (read : List ℕ)
    → nat_lt size (length p) ≡ true → Held given (link_of Running h tries held d (p ∷ ps) moved read)
    → Held given (transacted size (link_of Running h tries held d (p ∷ ps) moved read) fate Takes)
too_long given size DataLost h d tries held p ps moved read long i = record { all = i.all; bytes = i.bytes; doubt = i.doubt }
too_long given size Whole h d tries held p ps moved read long i = rw long (record { all = i.all; bytes = i.bytes; doubt = i.doubt })
too_long given size HandshakeLost h d tries held p ps moved read long i = rw long (record { all = i.all; bytes = i.bytes; doubt = i.doubt })

asks : (given : List (List ℕ)) (size : ℕ) (fate : Fate) (attitude : Attitude) (h d : Toggle) (tries : ℕ) (held : List ℕ) (packets moved : List (List ℕ)) (read : List ℕ)
    → Held given (link_of Running h tries held d packets moved read) → Held given (transacted size (link_of Running h tries held d packets moved read) fate attitude)
asks given size fate Takes h d tries held (p ∷ ps) moved read i = elim (cases_Bool (nat_lt size (length p))) [
  | inl long ↦ too_long given size fate h d tries held p ps moved read long i
  | inr fits ↦ comes given size fate h d tries held p ps moved read fits i
]
asks given size Whole Takes h d tries held [] moved read i = record { all = i.all; bytes = i.bytes; doubt = i.doubt }
asks given size DataLost Takes h d tries held [] moved read i = record { all = i.all; bytes = i.bytes; doubt = i.doubt }
asks given size HandshakeLost Takes h d tries held [] moved read i = record { all = i.all; bytes = i.bytes; doubt = i.doubt }
asks given size Whole Waits h d tries held packets moved read i = record { all = i.all; bytes = i.bytes; doubt = i.doubt }
asks given size DataLost Waits h d tries held packets moved read i = record { all = i.all; bytes = i.bytes; doubt = i.doubt }
asks given size HandshakeLost Waits h d tries held packets moved read i = record { all = i.all; bytes = i.bytes; doubt = i.doubt }
asks given size Whole Stalls h d tries held packets moved read i = record { all = i.all; bytes = i.bytes; doubt = i.doubt }
asks given size DataLost Stalls h d tries held packets moved read i = record { all = i.all; bytes = i.bytes; doubt = i.doubt }
asks given size HandshakeLost Stalls h d tries held packets moved read i = record { all = i.all; bytes = i.bytes; doubt = i.doubt }

turn : (given : List (List ℕ)) (size : ℕ) (fate : Fate) (attitude : Attitude) (phase : InPhase) (h d : Toggle) (tries : ℕ) (held : List ℕ) (packets moved : List (List ℕ)) (read : List ℕ)
    → Held given (link_of phase h tries held d packets moved read) → Held given (transacted size (link_of phase h tries held d packets moved read) fate attitude)
turn given size fate attitude Running h d tries held packets moved read i = asks given size fate attitude h d tries held packets moved read i
turn given size fate attitude Closed h d tries held packets moved read i = i
turn given size fate attitude Rest h d tries held packets moved read i = i
turn given size fate attitude (Landed result) h d tries held packets moved read i = i
turn given size fate attitude (Posted note) h d tries held packets moved read i = i
turn given size fate attitude Halted h d tries held packets moved read i = i
turn given size fate attitude Dead h d tries held packets moved read i = i
turn given size fate attitude Clearing h d tries held packets moved read i = i

-- Deeds.

-- nothing is read
no_more : (given : List (List ℕ)) (link : InLink) → Held given link → Held given (record link { read = link.read ++ [] })
no_more given link i = record {
  all = i.all;
  bytes = ap (λ (r : List ℕ). r ++ link.pipe.held ++ landed link.pipe.phase) (append-nil link.read) ∙ i.bytes;
  doubt = i.doubt;
}

held_on : (read held p all : List ℕ) → read ++ held ++ p ≡ all → read ++ (held ++ p) ++ [] ≡ all
held_on read held p all e = append-nil (read ++ (held ++ p)) ∙ sym (append_assoc read held p) ∙ e

irq : (given : List (List ℕ)) (phase : InPhase) (h d : Toggle) (tries : ℕ) (held : List ℕ) (packets moved : List (List ℕ)) (read : List ℕ)
    → Held given (link_of phase h tries held d packets moved read) → Held given (in_step 0 (link_of phase h tries held d packets moved read) (Does Irq))
irq given (Landed (Came p)) h d tries held packets moved read i =
    no_more given (link_of (Posted Went) (flipped h) tries (held ++ p) d packets moved read)
    (record { all = i.all; bytes = held_on read held p _ i.bytes; doubt = i.doubt })
irq given (Landed Stalled) h d tries held packets moved read i =
    no_more given (link_of (Posted Refused) h tries held d packets moved read) (record { all = i.all; bytes = i.bytes; doubt = i.doubt })
irq given (Landed Unheard) h d tries held packets moved read i = elim (cases_Bool (nat_le most_tries (suc tries))) [
  | inl over ↦ rw over (no_more given (link_of (Posted Lost) h (suc tries) held d packets moved read) (record { all = i.all; bytes = i.bytes; doubt = i.doubt }))
  | inr more ↦ rw more (no_more given (link_of Running h (suc tries) held d packets moved read) (record { all = i.all; bytes = i.bytes; doubt = i.doubt }))
]
irq given Closed h d tries held packets moved read i = no_more given (link_of Closed h tries held d packets moved read) i
irq given Rest h d tries held packets moved read i = no_more given (link_of Rest h tries held d packets moved read) i
irq given Running h d tries held packets moved read i = no_more given (link_of Running h tries held d packets moved read) i
irq given (Posted note) h d tries held packets moved read i = no_more given (link_of (Posted note) h tries held d packets moved read) i
irq given Halted h d tries held packets moved read i = no_more given (link_of Halted h tries held d packets moved read) i
irq given Dead h d tries held packets moved read i = no_more given (link_of Dead h tries held d packets moved read) i
irq given Clearing h d tries held packets moved read i = no_more given (link_of Clearing h tries held d packets moved read) i

task : (given : List (List ℕ)) (phase : InPhase) (h d : Toggle) (tries : ℕ) (held : List ℕ) (packets moved : List (List ℕ)) (read : List ℕ)
    → Held given (link_of phase h tries held d packets moved read) → Held given (in_step 0 (link_of phase h tries held d packets moved read) (Does Task))
task given (Posted Went) h d tries held packets moved read i = no_more given (link_of Rest h tries held d packets moved read) (record { all = i.all; bytes = i.bytes; doubt = i.doubt })
task given (Posted Refused) h d tries held packets moved read i = no_more given (link_of Halted h tries held d packets moved read) (record { all = i.all; bytes = i.bytes; doubt = i.doubt })
task given (Posted Lost) h d tries held packets moved read i = no_more given (link_of Dead h tries held d packets moved read) (record { all = i.all; bytes = i.bytes; doubt = i.doubt })
task given (Landed result) h d tries held packets moved read i = no_more given (link_of (Landed result) h tries held d packets moved read) i
task given Closed h d tries held packets moved read i = no_more given (link_of Closed h tries held d packets moved read) i
task given Rest h d tries held packets moved read i = no_more given (link_of Rest h tries held d packets moved read) i
task given Running h d tries held packets moved read i = no_more given (link_of Running h tries held d packets moved read) i
task given Halted h d tries held packets moved read i = no_more given (link_of Halted h tries held d packets moved read) i
task given Dead h d tries held packets moved read i = no_more given (link_of Dead h tries held d packets moved read) i
task given Clearing h d tries held packets moved read i = no_more given (link_of Clearing h tries held d packets moved read) i

starts : (given : List (List ℕ)) (phase : InPhase) (h d : Toggle) (tries : ℕ) (held : List ℕ) (packets moved : List (List ℕ)) (read : List ℕ)
    → Held given (link_of phase h tries held d packets moved read) → Held given (in_step 0 (link_of phase h tries held d packets moved read) (Does Starts))
starts given Rest h d tries held packets moved read i = no_more given (link_of Running h 0 held d packets moved read) (record { all = i.all; bytes = i.bytes; doubt = i.doubt })
starts given Closed h d tries held packets moved read i = no_more given (link_of Closed h tries held d packets moved read) i
starts given Running h d tries held packets moved read i = no_more given (link_of Running h tries held d packets moved read) i
starts given (Landed result) h d tries held packets moved read i = no_more given (link_of (Landed result) h tries held d packets moved read) i
starts given (Posted note) h d tries held packets moved read i = no_more given (link_of (Posted note) h tries held d packets moved read) i
starts given Halted h d tries held packets moved read i = no_more given (link_of Halted h tries held d packets moved read) i
starts given Dead h d tries held packets moved read i = no_more given (link_of Dead h tries held d packets moved read) i
starts given Clearing h d tries held packets moved read i = no_more given (link_of Clearing h tries held d packets moved read) i

reads : (n : ℕ) (read held l : List ℕ) → (read ++ take n held) ++ drop n held ++ l ≡ read ++ held ++ l
reads n read held l = ap (λ (x : List ℕ). x ++ l) (append_assoc read (take n held) (drop n held) ∙ ap (λ (x : List ℕ). read ++ x) (take-append-drop n held))

step : (given : List (List ℕ)) (size : ℕ) (link : InLink) (one : InStep) → Held given link → Held given (in_step size link one)
step given size link (Asks fate attitude) i =
    let p = link.pipe in turn given size fate attitude p.phase p.toggle link.toggle p.tries p.held link.packets link.moved link.read i
step given size link (Does Irq) i = let p = link.pipe in irq given p.phase p.toggle link.toggle p.tries p.held link.packets link.moved link.read i
step given size link (Does Task) i = let p = link.pipe in task given p.phase p.toggle link.toggle p.tries p.held link.packets link.moved link.read i
step given size link (Does Starts) i = let p = link.pipe in starts given p.phase p.toggle link.toggle p.tries p.held link.packets link.moved link.read i
step given size link (Does (Reads n)) i = record { all = i.all; bytes = reads n link.read link.pipe.held (landed link.pipe.phase) ∙ i.bytes; doubt = i.doubt }

run : (given : List (List ℕ)) (size : ℕ) (link : InLink) (steps : List InStep) → Held given link → Held given (in_run size link steps)
run given size link [] i = i
run given size link (one ∷ steps) i = run given size (in_step size link one) steps (step given size link one i)

pub in_once : (size : ℕ) (given : List (List ℕ)) (steps : List InStep) → IsHeldOnce given (in_run size (in_start given) steps)
in_once size given steps = run given size (in_start given) steps (record { all = refl; bytes = refl; doubt = λ e. elim (true≢false e) [ ] })
