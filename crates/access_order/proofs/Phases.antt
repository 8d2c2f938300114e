-- One endpoint moves: what is known of the others stays.
use Rattle.std.proofs.Common.{◌≡◌, ◌≢◌, ◌≤◌, ◌<◌, ℕ, zero, suc, Bool, true, false, List, refl, ap, sym, ◌∙◌, subst, arith, inl, inr}
use Rattle.std.specs.Prelude.{◌⊎◌}
use Rattle.dwc2_regs.specs.declared.access.Access.{Access}
use Rattle.access_order.specs.Order.{Order, InOrder, OutOrder, in_of, out_of, with_in, with_out, order_after}
use Rattle.access_order.specs.Phase.{InPhase, serving, at, over, bare, fresh, answering, fits, Beyond, Runs, Serving, Ended, At, Found, Closing, Clearing, InFits, IsIn, Kept}
use Rattle.access_order.proofs.Frames.{in_same, in_other, in_outs, out_same, out_other, out_ins, in_reset, in_woken, out_reset, out_woken}

-- two numbers are the same or apart
pub either : (m n : ℕ) → (m ≡ n) ⊎ (m ≢ n)
either zero zero = inl refl
either zero (suc n) = inr (λ e. absurd (cc e))
either (suc m) zero = inr (λ e. absurd (cc e))
either (suc m) (suc n) = next (either m n) where
  next : (m ≡ n) ⊎ (m ≢ n) → (suc m ≡ suc n) ⊎ (suc m ≢ suc n)
  next (inl e) = inl (ap suc e)
  next (inr h) = inr (λ e. h (omega (arith, e)))

-- what holds of the endpoint that moved and held of all others, holds of all
in_each : (P : ℕ → InOrder → Type 0) (o : Order) (x : ℕ) (e : InOrder) (m : ℕ) → P x e → P m (in_of o m) → P m (in_of (with_in o x e) m)
in_each P o x e m here there = by (either m x) where
  by : (m ≡ x) ⊎ (m ≢ x) → P m (in_of (with_in o x e) m)
  by (inl k) = subst (λ n. P n (in_of (with_in o x e) n)) (sym k) (subst (P x) (sym (in_same o x e)) here)
  by (inr h) = subst (P m) (sym (in_other o x m e h)) there

in_rest : (P : ℕ → InOrder → Type 0) (o : Order) (x : ℕ) (e : InOrder) (m : ℕ) → m ≢ x → P m (in_of o m) → P m (in_of (with_in o x e) m)
in_rest P o x e m h there = subst (P m) (sym (in_other o x m e h)) there

out_each : (P : ℕ → OutOrder → Type 0) (o : Order) (x : ℕ) (e : OutOrder) (m : ℕ) → P x e → P m (out_of o m) → P m (out_of (with_out o x e) m)
out_each P o x e m here there = by (either m x) where
  by : (m ≡ x) ⊎ (m ≢ x) → P m (out_of (with_out o x e) m)
  by (inl k) = subst (λ n. P n (out_of (with_out o x e) n)) (sym k) (subst (P x) (sym (out_same o x e)) here)
  by (inr h) = subst (P m) (sym (out_other o x m e h)) there

out_rest : (P : ℕ → OutOrder → Type 0) (o : Order) (x : ℕ) (e : OutOrder) (m : ℕ) → m ≢ x → P m (out_of o m) → P m (out_of (with_out o x e) m)
out_rest P o x e m h there = subst (P m) (sym (out_other o x m e h)) there

far : (m x : ℕ) → 4 ≤ m → x ≤ 3 → m ≢ x
far m x h l e = absurd (omega (arith, h, l, e))

beyond_in : (o : Order) (x : ℕ) (e : InOrder) → x ≤ 3 → Beyond o → Beyond (with_in o x e)
beyond_in o x e l b = record {
  ins = λ m h. in_rest (λ m e. e.enabled ≡ false) o x e m (far m x h l) (b.ins m h);
  outs = λ m h. ap (λ (i : OutOrder). i.enabled) (in_outs o x m e) ∙ b.outs m h;
}

beyond_out : (o : Order) (x : ℕ) (e : OutOrder) → (4 ≤ x → e.enabled ≡ false) → Beyond o → Beyond (with_out o x e)
beyond_out o x e l b = record {
  ins = λ m h. ap (λ (i : InOrder). i.enabled) (out_ins o x m e) ∙ b.ins m h;
  outs = λ m h. out_each (λ m e. 4 ≤ m → e.enabled ≡ false) o x e m l (b.outs m) h;
}

runs_in : (o : Order) (x : ℕ) (e : InOrder) → x ≤ 3 → Runs o → Runs (with_in o x e)
runs_in o x e l r = record { found = in_reset o x e ∙ r.found; woken = in_woken o x e ∙ r.woken; beyond = beyond_in o x e l r.beyond }

runs_out : (o : Order) (x : ℕ) (e : OutOrder) → (4 ≤ x → e.enabled ≡ false) → Runs o → Runs (with_out o x e)
runs_out o x e l r = record { found = out_reset o x e ∙ r.found; woken = out_woken o x e ∙ r.woken; beyond = beyond_out o x e l r.beyond }

pub near : (x : ℕ) (A : Type 0) → x ≤ 3 → 4 ≤ x → A
near x A h l = absurd (omega (arith, h, l))

-- an IN endpoint moves
pub serving_in : (k x : ℕ) (loads : ℕ → Bool) (o : Order) (e : InOrder) → x ≤ 3 → (k ≤ x → e.loaded ≡ false) → (1 ≤ x → InFits (loads x) e) → Serving k loads o → Serving k loads (with_in o x e)
serving_in k x loads o e l none fit s = record {
  runs = runs_in o x e l s.runs;
  none = λ m h. in_each (λ m e. k ≤ m → e.loaded ≡ false) o x e m none (s.none m) h;
  ended = λ m h. ap (λ (i : OutOrder). i.ended) (in_outs o x m e) ∙ s.ended m h;
  fit = λ m f h. in_each (λ m e. 1 ≤ m → m ≤ 3 → InFits (loads m) e) o x e m (λ f _. fit f) (s.fit m) f h;
}

pub at_in : (k x : ℕ) (p q : InPhase) (loads : ℕ → Bool) (o : Order) (e : InOrder) → x ≤ 3 → IsIn q e → At k x p loads o → At k x q loads (with_in o x e)
at_in k x p q loads o e l h s = record {
  runs = runs_in o x e l s.runs;
  none = λ m f apart. in_rest (λ m e. e.loaded ≡ false) o x e m apart (s.none m f apart);
  ended = λ m h. ap (λ (i : OutOrder). i.ended) (in_outs o x m e) ∙ s.ended m h;
  fit = λ m f h apart. in_rest (λ m e. InFits (loads m) e) o x e m apart (s.fit m f h apart);
  here = subst (IsIn q) (sym (in_same o x e)) h;
}

pub found_in : (o : Order) (x : ℕ) (e : InOrder) → x ≤ 3 → e.loaded ≡ false → Found o → Found (with_in o x e)
found_in o x e l none f = record {
  found = in_reset o x e ∙ f.found;
  woken = in_woken o x e ∙ f.woken;
  none = λ m h. in_each (λ m e. 0 ≤ m → e.loaded ≡ false) o x e m (λ _. none) (f.none m) h;
  beyond = beyond_in o x e l f.beyond;
}

pub closing_in : (k x : ℕ) (o : Order) (e : InOrder) → x ≤ 3 → e.loaded ≡ false → (x < k → e.enabled ≡ false) → Closing k o → Closing k (with_in o x e)
closing_in k x o e l none off c = record {
  found = found_in o x e l none c.found;
  ins = λ m h. in_each (λ m e. m < k → e.enabled ≡ false) o x e m off (c.ins m) h;
  outs = λ m h. ap (λ (i : OutOrder). i.enabled) (in_outs o x m e) ∙ c.outs m h;
}

pub clearing_in : (k x : ℕ) (o : Order) (e : InOrder) → x ≤ 3 → e.loaded ≡ false → e.enabled ≡ false → (x < k → e.clear ≡ true) → Clearing k o → Clearing k (with_in o x e)
clearing_in k x o e l none off clear c = record {
  closed = closing_in 4 x o e l none (λ _. off) c.closed;
  ins = λ m h. in_each (λ m e. m < k → e.clear ≡ true) o x e m clear (c.ins m) h;
  outs = λ m h. ap (λ (i : OutOrder). i.ended) (in_outs o x m e) ∙ c.outs m h;
}

-- an OUT endpoint moves
pub serving_out : (k x : ℕ) (loads : ℕ → Bool) (o : Order) (e : OutOrder) → (4 ≤ x → e.enabled ≡ false) → (x ≤ 3 → e.ended ≡ false) → Serving k loads o → Serving k loads (with_out o x e)
serving_out k x loads o e off none s = record {
  runs = runs_out o x e off s.runs;
  none = λ m h. ap (λ (i : InOrder). i.loaded) (out_ins o x m e) ∙ s.none m h;
  ended = λ m h. out_each (λ m e. m ≤ 3 → e.ended ≡ false) o x e m none (s.ended m) h;
  fit = λ m f h. subst (InFits (loads m)) (sym (out_ins o x m e)) (s.fit m f h);
}

-- its transfer ends, and XFRC is cleared
pub ended_out : (x : ℕ) (loads : ℕ → Bool) (o : Order) (e : OutOrder) → (4 ≤ x → e.enabled ≡ false) → Serving 0 loads o → Ended x loads (with_out o x e)
ended_out x loads o e off s = record {
  runs = runs_out o x e off s.runs;
  none = λ m h. ap (λ (i : InOrder). i.loaded) (out_ins o x m e) ∙ s.none m h;
  ended = λ m h apart. out_rest (λ m e. e.ended ≡ false) o x e m apart (s.ended m h);
  fit = λ m f h. subst (InFits (loads m)) (sym (out_ins o x m e)) (s.fit m f h);
}

pub cleared_out : (x : ℕ) (loads : ℕ → Bool) (o : Order) (e : OutOrder) → x ≤ 3 → e.ended ≡ false → Ended x loads o → Serving 0 loads (with_out o x e)
cleared_out x loads o e l none s = record {
  runs = runs_out o x e (near x (e.enabled ≡ false) l) s.runs;
  none = λ m h. ap (λ (i : InOrder). i.loaded) (out_ins o x m e) ∙ s.none m h;
  ended = λ m h. by (either m x) h;
  fit = λ m f h. subst (InFits (loads m)) (sym (out_ins o x m e)) (s.fit m f h);
} where
  by : {m : ℕ} → (m ≡ x) ⊎ (m ≢ x) → m ≤ 3 → (out_of (with_out o x e) m).ended ≡ false
  by {m} (inl k) h = subst (λ n. (out_of (with_out o x e) n).ended ≡ false) (sym k) (ap (λ (i : OutOrder). i.ended) (out_same o x e) ∙ none)
  by {m} (inr apart) h = ap (λ (i : OutOrder). i.ended) (out_other o x m e apart) ∙ s.ended m h apart

found_out : (o : Order) (x : ℕ) (e : OutOrder) → (4 ≤ x → e.enabled ≡ false) → Found o → Found (with_out o x e)
found_out o x e off f = record {
  found = out_reset o x e ∙ f.found;
  woken = out_woken o x e ∙ f.woken;
  none = λ m h. ap (λ (i : InOrder). i.loaded) (out_ins o x m e) ∙ f.none m h;
  beyond = beyond_out o x e off f.beyond;
}

pub closing_out : (k x : ℕ) (o : Order) (e : OutOrder) → e.enabled ≡ false → Closing k o → Closing k (with_out o x e)
closing_out k x o e off c = record {
  found = found_out o x e (λ _. off) c.found;
  ins = λ m h. ap (λ (i : InOrder). i.enabled) (out_ins o x m e) ∙ c.ins m h;
  outs = λ m h. out_each (λ m e. m < k → e.enabled ≡ false) o x e m (λ _. off) (c.outs m) h;
}

pub clearing_out : (k x : ℕ) (o : Order) (e : OutOrder) → e.enabled ≡ false → (x < k → e.ended ≡ false) → Clearing k o → Clearing k (with_out o x e)
clearing_out k x o e off none c = record {
  closed = closing_out 4 x o e off c.closed;
  ins = λ m h. ap (λ (i : InOrder). i.clear) (out_ins o x m e) ∙ c.ins m h;
  outs = λ m h. out_each (λ m e. m < k → e.ended ≡ false) o x e m none (c.outs m) h;
}

-- From phase to phase, without an access.

pub enters : (k x : ℕ) (loads : ℕ → Bool) (start : Order) (log : List Access) → k ≤ x → 1 ≤ x → x ≤ 3 → Kept start log (serving k loads) → Kept start log (at k x (fresh (loads x)) loads)
enters k x loads start log l from to h = record {
  ordered = h.ordered;
  state = record { runs = h.state.runs; none = λ m f _. h.state.none m f; ended = h.state.ended; fit = λ m f t _. h.state.fit m f t; here = (h.state.none x l, h.state.fit x from to) };
}

pub enters_zero : (loads : ℕ → Bool) (start : Order) (log : List Access) → Kept start log (serving 0 loads) → Kept start log (at 0 0 bare loads)
enters_zero loads start log h = record {
  ordered = h.ordered;
  state = record { runs = h.state.runs; none = λ m f _. h.state.none m f; ended = h.state.ended; fit = λ m f t _. h.state.fit m f t; here = h.state.none 0 (omega arith) };
}

-- on the others the same packets are loaded
abbrev pub SameBut : ℕ → (ℕ → Bool) → (ℕ → Bool) → Type 0
SameBut x loads loads' = (m : ℕ) → m ≢ x → loads' m ≡ loads m

fit_again : (x : ℕ) (b : Bool) (loads loads' : ℕ → Bool) (o : Order) → SameBut x loads loads' → loads' x ≡ b → InFits b (in_of o x)
    → ((m : ℕ) → 1 ≤ m → m ≤ 3 → m ≢ x → InFits (loads m) (in_of o m)) → (m : ℕ) → 1 ≤ m → m ≤ 3 → InFits (loads' m) (in_of o m)
fit_again x b loads loads' o same is here there m f t = by (either m x) where
  by : (m ≡ x) ⊎ (m ≢ x) → InFits (loads' m) (in_of o m)
  by (inl k) = subst (λ n. InFits (loads' n) (in_of o n)) (sym k) (subst (λ c. InFits c (in_of o x)) (sym is) here)
  by (inr h) = subst (λ c. InFits c (in_of o m)) (sym (same m h)) (there m f t h)

-- the endpoint was served in a handler run
pub served : (k x : ℕ) (b : Bool) (loads loads' : ℕ → Bool) (start : Order) (log : List Access) → SameBut x loads loads' → loads' x ≡ b → k ≤ x
    → Kept start log (at k x (fits b) loads) → Kept start log (serving (suc x) loads')
served k x b loads loads' start log same is l h = record {
  ordered = h.ordered;
  state = record {
    runs = h.state.runs;
    none = λ m f. h.state.none m (omega (arith, l, f)) (beyond m f);
    ended = h.state.ended;
    fit = fit_again x b loads loads' (order_after start log) same is h.state.here h.state.fit;
  };
} where
  beyond : (m : ℕ) → suc x ≤ m → m ≢ x
  beyond m f e = absurd (omega (arith, f, e))

-- a call left it as it is
pub settled : (k x : ℕ) (b : Bool) (loads loads' : ℕ → Bool) (start : Order) (log : List Access) → SameBut x loads loads' → loads' x ≡ b
    → Kept start log (at k x (fresh b) loads) → Kept start log (serving k loads')
settled k x b loads loads' start log same is h = record {
  ordered = h.ordered;
  state = record {
    runs = h.state.runs;
    none = all;
    ended = h.state.ended;
    fit = fit_again x b loads loads' (order_after start log) same is h.state.here.1 h.state.fit;
  };
} where
  all : (m : ℕ) → k ≤ m → (in_of (order_after start log) m).loaded ≡ false
  all m f = by (either m x) where
    by : (m ≡ x) ⊎ (m ≢ x) → (in_of (order_after start log) m).loaded ≡ false
    by (inl e) = subst (λ n. (in_of (order_after start log) n).loaded ≡ false) (sym e) h.state.here.0
    by (inr apart) = h.state.none m f apart

pub loaded_zero : (loads : ℕ → Bool) (start : Order) (log : List Access) → Kept start log (at 0 0 answering loads) → Kept start log (serving 1 loads)
loaded_zero loads start log h = record {
  ordered = h.ordered;
  state = record { runs = h.state.runs; none = λ m f. h.state.none m (omega arith) (above m f); ended = h.state.ended; fit = λ m f t. h.state.fit m f t (above m f) };
} where
  above : (m : ℕ) → 1 ≤ m → m ≢ 0
  above m f e = absurd (omega (arith, f, e))

pub fresh_fits : (k x : ℕ) (b : Bool) (loads : ℕ → Bool) (start : Order) (log : List Access) → Kept start log (at k x (fresh b) loads) → Kept start log (at k x (fits b) loads)
fresh_fits k x b loads start log h = record { ordered = h.ordered; state = record { runs = h.state.runs; none = h.state.none; ended = h.state.ended; fit = h.state.fit; here = h.state.here.1 } }

pub answering_fits : (k x : ℕ) (loads : ℕ → Bool) (start : Order) (log : List Access) → Kept start log (at k x answering loads) → Kept start log (at k x (fits true) loads)
answering_fits k x loads start log h = record { ordered = h.ordered; state = record { runs = h.state.runs; none = h.state.none; ended = h.state.ended; fit = h.state.fit; here = h.state.here } }

pub goes_by : (k n : ℕ) (loads : ℕ → Bool) (start : Order) (log : List Access) → k ≤ n → Kept start log (serving k loads) → Kept start log (serving n loads)
goes_by k n loads start log l h = record {
  ordered = h.ordered;
  state = record { runs = h.state.runs; none = λ m f. h.state.none m (omega (arith, l, f)); ended = h.state.ended; fit = h.state.fit };
}

pub serving_over : (k : ℕ) (loads : ℕ → Bool) (start : Order) (log : List Access) → Kept start log (serving k loads) → Kept start log (over loads)
serving_over k loads start log h = record {
  ordered = h.ordered;
  state = record { found = h.state.runs.found; beyond = h.state.runs.beyond; ended = h.state.ended; fit = h.state.fit };
}

-- the same packets are loaded
pub loads_as : (k : ℕ) (loads loads' : ℕ → Bool) (start : Order) (log : List Access) → ((m : ℕ) → 1 ≤ m → m ≤ 3 → loads' m ≡ loads m) → Kept start log (serving k loads) → Kept start log (serving k loads')
loads_as k loads loads' start log same h = record {
  ordered = h.ordered;
  state = record { runs = h.state.runs; none = h.state.none; ended = h.state.ended; fit = λ m f t. subst (λ b. InFits b (in_of (order_after start log) m)) (sym (same m f t)) (h.state.fit m f t) };
}
