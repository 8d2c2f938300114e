-- The accesses of the lines so far, and of one more.
use Rattle.std.proofs.Common.{◌≡◌, ℕ, List, [], ◌∷◌, ◌++◌, Bool, true, false, map, refl, sym, subst}
use Rattle.std.specs.Prelude.{◌&&◌}
use Rattle.dwc2_regs.specs.declared.access.Access.{Access}
use Rattle.access_order.specs.Order.{Order, unused, is_run, after_run, are_runs, after_runs}
use Rattle.access_order.proofs.Starts.{starts}
use Rattle.device_schedule.specs.Turns.{Turn}
use Rattle.device_run.specs.Run.{Rests, StaysInOrder}
use Rattle.usbrun.specs.Session.{StayInOrder}

abbrev accesses_of : List Turn → List (List Access)
accesses_of turns = map (λ turn. turn.accesses) turns

both : (a b : Bool) → a ≡ true → b ≡ true → (a && b) ≡ true
both a b e k = rw (e) k

first_of : (a b : Bool) → (a && b) ≡ true → a ≡ true
first_of true b h = refl
first_of false b h = absurd (cc (h))

rest_of : (a b : Bool) → (a && b) ≡ true → b ≡ true
rest_of true b h = h
rest_of false b h = absurd (cc (h))

runs-more : (o : Order) (turns : List Turn) (turn : Turn) → are_runs o (accesses_of turns) ≡ true → is_run (after_runs o (accesses_of turns)) turn.accesses ≡ true
    → are_runs o (accesses_of (turns ++ turn ∷ [])) ≡ true
runs-more o [] turn h e = both (is_run o turn.accesses) true e refl
runs-more o (t ∷ ts) turn h e =
    let others = are_runs (after_run o t.accesses) (accesses_of ts) in
    both (is_run o t.accesses) (are_runs (after_run o t.accesses) (accesses_of (ts ++ turn ∷ []))) (first_of (is_run o t.accesses) others h)
    (runs-more (after_run o t.accesses) ts turn (rest_of (is_run o t.accesses) others h) e)

after_runs-more : (o : Order) (turns : List Turn) (turn : Turn) → after_runs o (accesses_of (turns ++ turn ∷ [])) ≡ after_run (after_runs o (accesses_of turns)) turn.accesses
after_runs-more o [] turn = refl
after_runs-more o (t ∷ ts) turn = after_runs-more (after_run o t.accesses) ts turn

pub order_start : (loads : ℕ → Bool) → StayInOrder loads []
order_start loads = record { in_order = refl; rests = starts loads }

pub order_more : (loads loads' : ℕ → Bool) (turns : List Turn) (turn : Turn) → StayInOrder loads turns → StaysInOrder loads loads' turn.accesses → StayInOrder loads' (turns ++ turn ∷ [])
order_more loads loads' turns turn h s =
    let o = after_runs unused (accesses_of turns) in
    record {
      in_order = runs-more unused turns turn h.in_order (s.run o h.rests);
      rests = subst (Rests loads') (sym (after_runs-more unused turns turn)) (s.rests o h.rests);
    }
