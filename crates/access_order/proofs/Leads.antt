-- A driver's accesses, one by one: each is in order, and leads from one phase to another.
use Rattle.std.proofs.Common.{◌≡◌, ◌≢◌, ◌≤◌, ◌<◌, inl, inr, ℕ, zero, suc, Bool, true, false, List, [], ◌∷◌, ◌++◌, Some, refl, ap, sym, ◌∙◌, subst, arith}
use Rattle.std.specs.Prelude.{◌⊎◌, ◌&&◌, ◌||◌, not, ◌==◌, if◌then◌else◌}
use Rattle.dwc2_regs.specs.declared.TheConstants.{GINTSTS_USBRST, GRSTCTL_TXFFLSH, GRSTCTL_TXFNUM, GRXSTSP_STATUS, GRXSTSP_NUMBER, OUT_DONE, DIEPCTL_CNAK, DIEPINT_XFRC}
use Rattle.dwc2_regs.specs.declared.TheConstants.{DOEPCTL_EPDIS, DOEPCTL_EPENA, DOEPINT_XFRC}
use Rattle.dwc2_regs.specs.declared.access.Access.{Access}
use Rattle.dwc2_regs.specs.Field.{field_of}
use Rattle.dwc2_regs.specs.Register.{Register, register_at, grstctl, grxstsp, diepctl, diepint, dieptsiz, doepctl, doepint, doeptsiz, fifo}
use Rattle.access_order.specs.Order.{Order, InOrder, OutOrder, is_set, fits as is_fit, after, after_at, in_of, out_of, with_in, with_out, write_fits, after_write, read_fits, after_read, are_ordered, order_after, may_answer, in_controlled, in_cleared, in_read, out_controlled, out_cleared, out_ended, none_enabled, no_in_enabled, last_endpoint}
use Rattle.access_order.specs.Control.{Enables, Answers, Disables, Leaves, Stays}
use Rattle.access_order.specs.Phase.{Phase, InPhase, serving, acked, ended, out_sized, at, found, closing, clearing, over, fresh, sized, filling, answering, disabled, Serving, Ended, Found, Closing, Clearing, InFits, IsCleared, IsIn, Is, Kept, Keeps}
use Rattle.access_order.proofs.Lists.{splits}
use Rattle.access_order.proofs.Frames.{in_same, out_same, out_ins}
use Rattle.access_order.proofs.Phases.{either, near, serving_in, at_in, closing_in, clearing_in, serving_out, ended_out, cleared_out, closing_out, clearing_out}

abbrev pub w : ℕ → ℕ → Access
w off word = record { write = true; off = off; value = word }

abbrev pub r : ℕ → ℕ → Access
r off word = record { write = false; off = off; value = word }

-- these accesses are in order there, and lead there
pub record Leads (o : Order) (accesses : List Access) (to : Phase) : Type 0 where
  pub ordered : are_ordered o accesses ≡ true
  pub state : Is to (order_after o accesses)

and_true : (a b : Bool) → a ≡ true → b ≡ true → (a && b) ≡ true
and_true a b e k = rw (e) k

pub keeps : (from to : Phase) (old new accesses : List Access) → new ≡ old ++ accesses → ((o : Order) → Is from o → Leads o accesses to) → Keeps from to old new
keeps from to old new accesses e leads start k =
    let l = leads (order_after start old) k.state in
    subst (λ l. Kept start l to) (sym e)
    (record {
      ordered = splits.ordered start old accesses ∙ and_true (are_ordered start old) (are_ordered (order_after start old) accesses) k.ordered l.ordered;
      state = subst (Is to) (sym (splits.state start old accesses)) l.state;
    })

-- one access
written : (o : Order) (off word : ℕ) (reg : Register) (to : Phase) → register_at off ≡ Some reg → o.woken ≡ false → write_fits o reg word ≡ true → Is to (after_write o reg word)
    → Leads o (w off word ∷ []) to
written o off word reg to e woken h s = record { ordered = rw (e) (rw (woken) (rw (h) refl)); state = rw (e) s }

looked : (o : Order) (off word : ℕ) (reg : Register) (to : Phase) → register_at off ≡ Some reg → o.woken ≡ false → read_fits o reg ≡ true → Is to (after_read o reg word)
    → Leads o (r off word ∷ []) to
looked o off word reg to e woken h s = record { ordered = rw (e) (rw (woken) (rw (h) refl)); state = rw (e) s }

-- Loading.

pub size_leads : (k x : ℕ) (b : Bool) (p : InPhase) (off word : ℕ) (loads : ℕ → Bool) → x ≤ 3 → register_at off ≡ Some (dieptsiz x) → ((e : InOrder) → IsIn p e → (e.loaded ≡ false) × IsCleared b e)
    → (o : Order) → Is (at k x p loads) o → Leads o (w off word ∷ []) (at k x (sized b) loads)
size_leads k x b p off word loads l reg is o h =
    let e = in_of o x in
    let here = is e h.here in
    written o off word (dieptsiz x) (at k x (sized b) loads) reg h.runs.woken (ap not here.0)
    (at_in k x p (sized b) loads o (record e { sized = true }) l (here.0, refl, cleared b e here.1) h)
  where
    cleared : (b : Bool) (e : InOrder) → IsCleared b e → IsCleared b (record e { sized = true })
    cleared true e c = c
    cleared false e c = tt

-- of the InOrder that a control word leaves
enable_fits : (e : InOrder) (word : ℕ) → Enables word → e.loaded ≡ false → e.sized ≡ true → (o : Order) (x : ℕ) → in_of o x ≡ e → write_fits o (diepctl x) word ≡ true
enable_fits e word b none size o x is =
    let epena = b.epena in
    let snak = b.snak in
    let cnak = b.cnak in
    rw (is) (grind arith)

enabled : (e : InOrder) (word : ℕ) → Enables word → (in_controlled e word).enabled ≡ true
enabled e word b = let epena = b.epena in grind arith

holds_back : (e : InOrder) (word : ℕ) → Enables word → (in_controlled e word).naks ≡ true
holds_back e word b =
    let snak = b.snak in
    let cnak = b.cnak in
    grind arith

not_loaded : (e : InOrder) (word : ℕ) → is_set word DIEPCTL_CNAK ≡ false → e.loaded ≡ false → (in_controlled e word).loaded ≡ false
not_loaded e word c h = grind arith

stays_clear : (c : Bool) (e : InOrder) (word : ℕ) → Enables word → IsCleared c e → IsCleared c (in_controlled e word)
stays_clear false e word b h = tt
stays_clear true e word b h =
    let epena = b.epena in
    let snak = b.snak in
    let cnak = b.cnak in
    grind arith

pub enable_leads : (k x : ℕ) (c : Bool) (off word : ℕ) (loads : ℕ → Bool) → x ≤ 3 → register_at off ≡ Some (diepctl x) → Enables word
    → (o : Order) → Is (at k x (sized c) loads) o → Leads o (w off word ∷ []) (at k x (filling c) loads)
enable_leads k x c off word loads l reg b o h =
    let e = in_of o x in
    written o off word (diepctl x) (at k x (filling c) loads) reg h.runs.woken (enable_fits e word b h.here.0 h.here.1 o x refl)
    (at_in k x (sized c) (filling c) loads o (in_controlled e word) l (not_loaded e word b.cnak h.here.0, enabled e word b, holds_back e word b, stays_clear c e word b h.here.2) h)

takes : (enabled naks : Bool) → enabled ≡ true → naks ≡ true → (enabled && naks) ≡ true
takes enabled naks h k = grind arith

pub word_leads : (k x : ℕ) (c : Bool) (off word : ℕ) (loads : ℕ → Bool) → register_at off ≡ Some (fifo x)
    → (o : Order) → Is (at k x (filling c) loads) o → Leads o (w off word ∷ []) (at k x (filling c) loads)
word_leads k x c off word loads reg o h =
    written o off word (fifo x) (at k x (filling c) loads) reg h.runs.woken (takes (in_of o x).enabled (in_of o x).naks h.here.1 h.here.2) h

-- XFRC is cleared while the endpoint can't answer
silent_fits : (loaded bit enabled naks : Bool) → loaded ≡ false → naks ≡ true → (not loaded && not (bit && (enabled && not naks))) ≡ true
silent_fits loaded bit enabled naks h k = grind arith

off_fits : (loaded bit enabled naks : Bool) → loaded ≡ false → enabled ≡ false → (not loaded && not (bit && (enabled && not naks))) ≡ true
off_fits loaded bit enabled naks h k = grind arith

or_set : (a b : Bool) → b ≡ true → (a || b) ≡ true
or_set a b h = grind arith

pub clear_leads : (k x : ℕ) (c : Bool) (off word : ℕ) (loads : ℕ → Bool) → x ≤ 3 → register_at off ≡ Some (diepint x) → is_set word DIEPINT_XFRC ≡ true
    → (o : Order) → Is (at k x (filling c) loads) o → Leads o (w off word ∷ []) (at k x (filling true) loads)
clear_leads k x c off word loads l reg b o h =
    let e = in_of o x in
    written o off word (diepint x) (at k x (filling true) loads) reg h.runs.woken (silent_fits e.loaded (is_set word DIEPINT_XFRC) e.enabled e.naks h.here.0 h.here.2)
    (at_in k x (filling c) (filling true) loads o (in_cleared e word) l (h.here.0, h.here.1, h.here.2, or_set e.clear (is_set word DIEPINT_XFRC) b) h)

answer_fits : (e : InOrder) (word : ℕ) → Answers word → e.loaded ≡ false → e.clear ≡ true → (o : Order) (x : ℕ) → in_of o x ≡ e → write_fits o (diepctl x) word ≡ true
answer_fits e word b none clear o x is =
    let epena = b.epena in
    rw (is) (grind arith)

answers : (e : InOrder) (word : ℕ) → Answers word → (in_controlled e word).naks ≡ false
answers e word b = let cnak = b.cnak in grind arith

pub answer_leads : (k x : ℕ) (off word : ℕ) (loads : ℕ → Bool) → x ≤ 3 → register_at off ≡ Some (diepctl x) → Answers word
    → (o : Order) → Is (at k x (filling true) loads) o → Leads o (w off word ∷ []) (at k x answering loads)
answer_leads k x off word loads l reg b o h =
    let e = in_of o x in
    written o off word (diepctl x) (at k x answering loads) reg h.runs.woken (answer_fits e word b h.here.0 h.here.3 o x refl)
    (at_in k x (filling true) answering loads o (in_controlled e word) l (answers e word b) h)

-- DIEPINTx is read: XFRC shows, or not.

found_off : (e : InOrder) (word : ℕ) → is_set word DIEPINT_XFRC ≡ true → e.naks ≡ false → (in_read e word).enabled ≡ false
found_off e word b h = grind arith

pub found_leads : (k x : ℕ) (off word : ℕ) (loads : ℕ → Bool) → x ≤ 3 → register_at off ≡ Some (diepint x) → is_set word DIEPINT_XFRC ≡ true
    → (o : Order) → Is (at k x (fresh true) loads) o → Leads o (r off word ∷ []) (at k x disabled loads)
found_leads k x off word loads l reg b o h =
    let e = in_of o x in
    looked o off word (diepint x) (at k x disabled loads) reg h.runs.woken (ap not h.here.0)
    (at_in k x (fresh true) disabled loads o (in_read e word) l (h.here.0, found_off e word b h.here.1) h)

pub waits_leads : (k x : ℕ) (off word : ℕ) (loads : ℕ → Bool) → x ≤ 3 → register_at off ≡ Some (diepint x)
    → (o : Order) → Is (at k x (fresh true) loads) o → Leads o (r off word ∷ []) (at k x (fresh true) loads)
waits_leads k x off word loads l reg o h =
    let e = in_of o x in
    looked o off word (diepint x) (at k x (fresh true) loads) reg h.runs.woken (ap not h.here.0)
    (at_in k x (fresh true) (fresh true) loads o (in_read e word) l (h.here.0, h.here.1) h)

-- XFRC of a disabled endpoint is cleared
pub cleared_leads : (k x : ℕ) (off word : ℕ) (loads : ℕ → Bool) → x ≤ 3 → register_at off ≡ Some (diepint x) → is_set word DIEPINT_XFRC ≡ true
    → (o : Order) → Is (at k x disabled loads) o → Leads o (w off word ∷ []) (at k x (fresh false) loads)
cleared_leads k x off word loads l reg b o h =
    let e = in_of o x in
    written o off word (diepint x) (at k x (fresh false) loads) reg h.runs.woken (off_fits e.loaded (is_set word DIEPINT_XFRC) e.enabled e.naks h.here.0 h.here.1)
    (at_in k x disabled (fresh false) loads o (in_cleared e word) l (h.here.0, (h.here.1, or_set e.clear (is_set word DIEPINT_XFRC) b)) h)

-- An endpoint is disabled, its FIFO is emptied, and its interrupts are cleared.

plain_fits : (e : InOrder) (word : ℕ) → Leaves word → e.loaded ≡ false → (o : Order) (x : ℕ) → in_of o x ≡ e → write_fits o (diepctl x) word ≡ true
plain_fits e word b none o x is =
    let epena = b.epena in
    let cnak = b.cnak in
    rw (is) (grind arith)

goes_off : (e : InOrder) (word : ℕ) → Disables word → (in_controlled e word).enabled ≡ false
goes_off e word b =
    let epena = b.epena in
    let epdis = b.epdis in
    grind arith

leaves : (word : ℕ) → Disables word → Leaves word
leaves word b = record { epena = b.epena; cnak = b.cnak }

pub disable_leads : (k x : ℕ) (b : Bool) (off word : ℕ) (loads : ℕ → Bool) → x ≤ 3 → register_at off ≡ Some (diepctl x) → Disables word
    → (o : Order) → Is (at k x (fresh b) loads) o → Leads o (w off word ∷ []) (at k x disabled loads)
disable_leads k x b off word loads l reg d o h =
    let e = in_of o x in
    written o off word (diepctl x) (at k x disabled loads) reg h.runs.woken (plain_fits e word (leaves word d) h.here.0 o x refl)
    (at_in k x (fresh b) disabled loads o (in_controlled e word) l (not_loaded e word d.cnak h.here.0, goes_off e word d) h)

may_empty : (flushes all every one : Bool) → all ≡ false → one ≡ false → (not flushes || (if all then every else not one)) ≡ true
may_empty flushes all every one h k = grind arith

isnt_16 : (n x : ℕ) → n ≡ x → x ≤ 3 → (n == 16) ≡ false
isnt_16 n x e h = grind (arith, e, h)

pub flush_leads : (k x word : ℕ) (loads : ℕ → Bool) → x ≤ 3 → field_of word GRSTCTL_TXFNUM ≡ x
    → (o : Order) → Is (at k x disabled loads) o → Leads o (w 0x10 word ∷ []) (at k x disabled loads)
flush_leads k x word loads l is o h =
    let number = field_of word GRSTCTL_TXFNUM in
    written o 0x10 word grstctl (at k x disabled loads) refl h.runs.woken
    (may_empty (is_set word GRSTCTL_TXFFLSH) (number == 16) (no_in_enabled last_endpoint o) (in_of o number).enabled (isnt_16 number x is l) (ap (λ n. (in_of o n).enabled) is ∙ h.here.1)) h

-- A control word that lets no packet go.

still_fits : (b : Bool) (e : InOrder) (word : ℕ) → Stays b word → InFits b e → InFits b (in_controlled e word)
still_fits true e word s h =
    let snak = s.snak refl in
    grind arith
still_fits false e word s h =
    let epena = s.leaves.epena in
    let off = h.0 in
    let clear = h.1 in
    (grind arith, grind arith)

pub stays_leads : (k x : ℕ) (b : Bool) (off word : ℕ) (loads : ℕ → Bool) → x ≤ 3 → register_at off ≡ Some (diepctl x) → Stays b word
    → (o : Order) → Is (at k x (fresh b) loads) o → Leads o (w off word ∷ []) (at k x (fresh b) loads)
stays_leads k x b off word loads l reg s o h =
    let e = in_of o x in
    written o off word (diepctl x) (at k x (fresh b) loads) reg h.runs.woken (plain_fits e word s.leaves h.here.0 o x refl)
    (at_in k x (fresh b) (fresh b) loads o (in_controlled e word) l (not_loaded e word s.leaves.cnak h.here.0, still_fits b e word s h.here.1) h)

-- of endpoint 0
pub zero_leads : (off word : ℕ) (loads : ℕ → Bool) → register_at off ≡ Some (diepctl 0) → Leaves word → (o : Order) → Serving 0 loads o → Leads o (w off word ∷ []) (serving 0 loads)
zero_leads off word loads reg b o h =
    let e = in_of o 0 in
    let none = h.none 0 (omega arith) in
    written o off word (diepctl 0) (serving 0 loads) reg h.runs.woken (plain_fits e word b none o 0 refl)
    (serving_in 0 0 loads o (in_controlled e word) (omega arith) (λ _. not_loaded e word b.cnak none) (λ f. absurd (omega (arith, f))) h)

silent : (xfrc enabled naks : Bool) → xfrc ≡ true → ((enabled && not (xfrc && not naks)) && not naks) ≡ false
silent xfrc enabled naks e = grind arith

pub look_leads : (off word : ℕ) (loads : ℕ → Bool) → register_at off ≡ Some (diepint 0) → (o : Order) → Serving 0 loads o → Leads o (r off word ∷ []) (serving 0 loads)
look_leads off word loads reg o h =
    let e = in_of o 0 in
    let none = h.none 0 (omega arith) in
    looked o off word (diepint 0) (serving 0 loads) reg h.runs.woken (ap not none)
    (serving_in 0 0 loads o (in_read e word) (omega arith) (λ _. none) (λ f. absurd (omega (arith, f))) h)

pub acked_leads : (off word : ℕ) (loads : ℕ → Bool) → register_at off ≡ Some (diepint 0) → is_set word DIEPINT_XFRC ≡ true → (o : Order) → Serving 0 loads o → Leads o (r off word ∷ []) (acked loads)
acked_leads off word loads reg b o h =
    let e = in_of o 0 in
    let none = h.none 0 (omega arith) in
    looked o off word (diepint 0) (acked loads) reg h.runs.woken (ap not none)
    (serving_in 0 0 loads o (in_read e word) (omega arith) (λ _. none) (λ f. absurd (omega (arith, f))) h, silent (is_set word DIEPINT_XFRC) e.enabled e.naks b)

noted_fits : (loaded bit answers : Bool) → loaded ≡ false → answers ≡ false → (not loaded && not (bit && answers)) ≡ true
noted_fits loaded bit answers h k = grind arith

pub noted_leads : (off word : ℕ) (loads : ℕ → Bool) → register_at off ≡ Some (diepint 0) → (o : Order) → Is (acked loads) o → Leads o (w off word ∷ []) (serving 0 loads)
noted_leads off word loads reg o h =
    let e = in_of o 0 in
    let none = h.0.none 0 (omega arith) in
    written o off word (diepint 0) (serving 0 loads) reg h.0.runs.woken (noted_fits e.loaded (is_set word DIEPINT_XFRC) (may_answer o.in0) none h.1)
    (serving_in 0 0 loads o (in_cleared e word) (omega arith) (λ _. none) (λ f. absurd (omega (arith, f))) h.0)

-- OUT endpoints.

pub out_size_leads : (k n off word : ℕ) (loads : ℕ → Bool) → n ≤ 3 → register_at off ≡ Some (doeptsiz n) → (o : Order) → Serving k loads o → Leads o (w off word ∷ []) (out_sized n k loads)
out_size_leads k n off word loads l reg o h =
    let e = record (out_of o n) { sized = true } in
    written o off word (doeptsiz n) (out_sized n k loads) reg h.runs.woken refl
    (serving_out k n loads o e (near n (e.enabled ≡ false) l) (h.ended n) h, ap (λ (i : OutOrder). i.sized) (out_same o n e))

arm_fits : (epena is_sized is_ended : Bool) → is_sized ≡ true → is_ended ≡ false → (not epena || (is_sized && not is_ended)) ≡ true
arm_fits epena is_sized is_ended h k = grind arith

pub arm_leads : (k n off word : ℕ) (loads : ℕ → Bool) → n ≤ 3 → register_at off ≡ Some (doepctl n) → (o : Order) → Is (out_sized n k loads) o → Leads o (w off word ∷ []) (serving k loads)
arm_leads k n off word loads l reg o h =
    let e = out_of o n in
    written o off word (doepctl n) (serving k loads) reg h.0.runs.woken (arm_fits (is_set word DOEPCTL_EPENA) e.sized e.ended h.1 (h.0.ended n l))
    (serving_out k n loads o (out_controlled e word) (near n ((out_controlled e word).enabled ≡ false) l) (λ _. h.0.ended n l) h.0)

plain_out_fits : (epena rest : Bool) → epena ≡ false → (not epena || rest) ≡ true
plain_out_fits epena rest h = grind arith

pub out_leads : (k n off word : ℕ) (loads : ℕ → Bool) → n ≤ 3 → register_at off ≡ Some (doepctl n) → is_set word DOEPCTL_EPENA ≡ false → (o : Order) → Serving k loads o → Leads o (w off word ∷ []) (serving k loads)
out_leads k n off word loads l reg b o h =
    let e = out_of o n in
    written o off word (doepctl n) (serving k loads) reg h.runs.woken (plain_out_fits (is_set word DOEPCTL_EPENA) (e.sized && not e.ended) b)
    (serving_out k n loads o (out_controlled e word) (near n ((out_controlled e word).enabled ≡ false) l) (λ _. h.ended n l) h)

stays_false : (a b : Bool) → a ≡ false → (a && b) ≡ false
stays_false a b h = grind arith

taken_off : (a b : Bool) → b ≡ true → (a && not b) ≡ false
taken_off a b h = grind arith

pub out_clear_leads : (k n off word : ℕ) (loads : ℕ → Bool) → n ≤ 3 → register_at off ≡ Some (doepint n) → (o : Order) → Serving k loads o → Leads o (w off word ∷ []) (serving k loads)
out_clear_leads k n off word loads l reg o h =
    let e = out_of o n in
    written o off word (doepint n) (serving k loads) reg h.runs.woken refl
    (serving_out k n loads o (out_cleared e word) (near n ((out_cleared e word).enabled ≡ false) l) (λ _. stays_false e.ended (not (is_set word DOEPINT_XFRC)) (h.ended n l)) h)

pub out_done_leads : (n off word : ℕ) (loads : ℕ → Bool) → n ≤ 3 → register_at off ≡ Some (doepint n) → is_set word DOEPINT_XFRC ≡ true → (o : Order) → Ended n loads o → Leads o (w off word ∷ []) (serving 0 loads)
out_done_leads n off word loads l reg b o h =
    let e = out_of o n in
    written o off word (doepint n) (serving 0 loads) reg h.runs.woken refl
    (cleared_out n loads o (out_cleared e word) l (taken_off e.ended (is_set word DOEPINT_XFRC) b) h)

-- Reads of control registers, and accesses to registers that the order doesn't name.

pub out_look_leads : (k n off word : ℕ) (loads : ℕ → Bool) → register_at off ≡ Some (doepctl n) → (o : Order) → Serving k loads o → Leads o (r off word ∷ []) (serving k loads)
out_look_leads k n off word loads reg o h = looked o off word (doepctl n) (serving k loads) reg h.runs.woken refl h

pub address_leads : (k word : ℕ) (loads : ℕ → Bool) (o : Order) → Serving k loads o → Leads o (w 0x800 word ∷ []) (serving k loads)
address_leads k word loads o h = let woken = h.runs.woken in record { ordered = grind arith; state = h }

pub no_address_leads : (word : ℕ) (o : Order) → Found o → Leads o (w 0x800 word ∷ []) found
no_address_leads word o h = let woken = h.woken in record { ordered = grind arith; state = h }

pub read_leads : (k word : ℕ) (loads : ℕ → Bool) (o : Order) → Serving k loads o → Leads o (r 0x1000 word ∷ []) (serving k loads)
read_leads k word loads o h = let woken = h.runs.woken in record { ordered = grind arith; state = h }

-- The receive FIFO.

abbrev popped_by : Bool → Order → ℕ → Order
popped_by done o n = if done then with_out o n (out_ended (out_of o n)) else o

is_done : (n : ℕ) → n ≡ OUT_DONE → (n == OUT_DONE) ≡ true
is_done n h = grind (arith, h)

isnt_done : (n : ℕ) → n ≢ OUT_DONE → (n == OUT_DONE) ≡ false
isnt_done n h = grind (arith, h)

pub plain_pop_leads : (k word : ℕ) (loads : ℕ → Bool) → field_of word GRXSTSP_STATUS ≢ OUT_DONE → (o : Order) → Serving k loads o → Leads o (r 0x20 word ∷ []) (serving k loads)
plain_pop_leads k word loads not_end o h =
    let number = field_of word GRXSTSP_NUMBER in
    looked o 0x20 word grxstsp (serving k loads) refl h.runs.woken refl
    (subst (λ b. Serving k loads (popped_by b o number)) (sym (isnt_done (field_of word GRXSTSP_STATUS) not_end)) h)

pub end_pop_leads : (n word : ℕ) (loads : ℕ → Bool) → field_of word GRXSTSP_STATUS ≡ OUT_DONE → field_of word GRXSTSP_NUMBER ≡ n → (o : Order) → Serving 0 loads o → Leads o (r 0x20 word ∷ []) (ended n loads)
end_pop_leads n word loads is_end is o h =
    looked o 0x20 word grxstsp (ended n loads) refl h.runs.woken refl
    (subst (λ b. Ended n loads (popped_by b o (field_of word GRXSTSP_NUMBER))) (sym (is_done (field_of word GRXSTSP_STATUS) is_end))
    (subst (λ m. Ended n loads (with_out o m (out_ended (out_of o m)))) (sym is) (ended_out n loads o (out_ended (out_of o n)) (λ _. refl) h)))

dropped_by : (done : Bool) (n : ℕ) (o : Order) → Closing 4 o → Closing 4 (popped_by done o n)
dropped_by true n o h = closing_out 4 n o (out_ended (out_of o n)) refl h
dropped_by false n o h = h

pub drop_leads : (word : ℕ) (o : Order) → Closing 4 o → Leads o (r 0x20 word ∷ []) (closing 4)
drop_leads word o h =
    looked o 0x20 word grxstsp (closing 4) refl h.found.woken refl (dropped_by (field_of word GRXSTSP_STATUS == OUT_DONE) (field_of word GRXSTSP_NUMBER) o h)

-- A reset.

pub reset_leads : (word : ℕ) (loads : ℕ → Bool) → is_set word GINTSTS_USBRST ≡ true → (o : Order) → Serving 0 loads o → Leads o (r 0x14 word ∷ []) found
reset_leads word loads b o h =
    let woken = h.runs.woken in
    record { ordered = grind arith; state = record { found = b; woken = h.runs.woken; none = h.none; beyond = record { ins = h.runs.beyond.ins; outs = h.runs.beyond.outs } } }

pub no_reset_leads : (word : ℕ) (loads : ℕ → Bool) → is_set word GINTSTS_USBRST ≡ false → (o : Order) → Serving 0 loads o → Leads o (r 0x14 word ∷ []) (serving 0 loads)
no_reset_leads word loads b o h =
    let woken = h.runs.woken in
    record {
      ordered = grind arith;
      state = record { runs = record { found = b; woken = h.runs.woken; beyond = record { ins = h.runs.beyond.ins; outs = h.runs.beyond.outs } }; none = h.none; ended = h.ended; fit = h.fit };
    }

-- an access and those behind it
both : (o : Order) (off word : ℕ) (reg : Register) (rest : List Access) (to : Phase) → register_at off ≡ Some reg → o.woken ≡ false → write_fits o reg word ≡ true
    → Leads (after_write o reg word) rest to → Leads o (w off word ∷ rest) to
both o off word reg rest to e woken h l =
    let one : is_fit o (w off word) ≡ true = rw (e) (rw (woken) (rw (h) refl)) in
    record {
      ordered = and_true (is_fit o (w off word)) (are_ordered (after o (w off word)) rest) one (subst (λ reg. are_ordered (after_at o reg true word) rest ≡ true) (sym e) l.ordered);
      state = subst (λ reg. Is to (order_after (after_at o reg true word) rest)) (sym e) l.state;
    }

less : (m k : ℕ) → m < suc k → m ≢ k → m < k
less m k h apart = omega (arith, h, apart)

-- what holds below a number and at it
more : (P : ℕ → Type 0) (k : ℕ) → P k → ((m : ℕ) → m < k → P m) → (m : ℕ) → m < suc k → P m
more P k here before m h = by (either m k) where
  by : (m ≡ k) ⊎ (m ≢ k) → P m
  by (inl e) = subst P (sym e) here
  by (inr apart) = before m (less m k h apart)

-- both directions of an endpoint are disabled
one_closed : (k : ℕ) (o : Order) (e : OutOrder) → e.enabled ≡ false → (in_of o k).enabled ≡ false → Closing k o → Closing (suc k) (with_out o k e)
one_closed k o e off in_off c =
    let d = closing_out k k o e off c in
    record {
      found = d.found;
      ins = more (λ m. (in_of (with_out o k e) m).enabled ≡ false) k (ap (λ (i : InOrder). i.enabled) (out_ins o k k e) ∙ in_off) d.ins;
      outs = more (λ m. (out_of (with_out o k e) m).enabled ≡ false) k (ap (λ (i : OutOrder). i.enabled) (out_same o k e) ∙ off) d.outs;
    }

out_off : (e : OutOrder) (word : ℕ) → is_set word DOEPCTL_EPENA ≡ false → is_set word DOEPCTL_EPDIS ≡ true → (out_controlled e word).enabled ≡ false
out_off e word a b = grind arith

never : (k : ℕ) (A : Type 0) → k < k → A
never k A h = absurd (omega (arith, h))

pub close_leads : (k in_place out_place word : ℕ) → k ≤ 3 → register_at in_place ≡ Some (diepctl k) → register_at out_place ≡ Some (doepctl k) → Disables word → is_set word DOEPCTL_EPENA ≡ false → is_set word DOEPCTL_EPDIS ≡ true
    → (o : Order) → Closing k o → Leads o (w in_place word ∷ w out_place word ∷ []) (closing (suc k))
close_leads k in_place out_place word l in_reg out_reg d a b o c =
    let e = in_of o k in
    let e' = in_controlled e word in
    let none = c.found.none k (omega arith) in
    let o' = with_in o k e' in
    let one : Closing k o' = closing_in k k o e' l (not_loaded e word d.cnak none) (never k (e'.enabled ≡ false)) c in
    let out = out_controlled (out_of o' k) word in
    both o in_place word (diepctl k) (w out_place word ∷ []) (closing (suc k)) in_reg c.found.woken (plain_fits e word (leaves word d) none o k refl)
    (written o' out_place word (doepctl k) (closing (suc k)) out_reg one.found.woken (plain_out_fits (is_set word DOEPCTL_EPENA) ((out_of o' k).sized && not (out_of o' k).ended) a)
    (one_closed k o' out (out_off (out_of o' k) word a b) (ap (λ (i : InOrder). i.enabled) (in_same o k e') ∙ goes_off e word d) one))

-- every FIFO may be emptied
no_in : (k : ℕ) (o : Order) → ((m : ℕ) → (in_of o m).enabled ≡ false) → no_in_enabled k o ≡ true
no_in zero o h = rw (h 0) refl
no_in (suc n) o h = rw (h (suc n)) (no_in n o h)

none_left : (k : ℕ) (o : Order) → ((m : ℕ) → (in_of o m).enabled ≡ false) → ((m : ℕ) → (out_of o m).enabled ≡ false) → none_enabled k o ≡ true
none_left zero o h k = rw (h 0) (rw (k 0) refl)
none_left (suc n) o h k = rw (h (suc n)) (rw (k (suc n)) (none_left n o h k))

below_or_beyond : (P : ℕ → Type 0) → ((m : ℕ) → m < 4 → P m) → ((m : ℕ) → 4 ≤ m → P m) → (m : ℕ) → P m
below_or_beyond P below beyond zero = below 0 (omega arith)
below_or_beyond P below beyond (suc zero) = below 1 (omega arith)
below_or_beyond P below beyond (suc (suc zero)) = below 2 (omega arith)
below_or_beyond P below beyond (suc (suc (suc zero))) = below 3 (omega arith)
below_or_beyond P below beyond (suc (suc (suc (suc n)))) = beyond (suc (suc (suc (suc n)))) (omega arith)

ins_off : (o : Order) → Closing 4 o → (m : ℕ) → (in_of o m).enabled ≡ false
ins_off o c m = below_or_beyond (λ m. (in_of o m).enabled ≡ false) c.ins c.found.beyond.ins m

outs_off : (o : Order) → Closing 4 o → (m : ℕ) → (out_of o m).enabled ≡ false
outs_off o c m = below_or_beyond (λ m. (out_of o m).enabled ≡ false) c.outs c.found.beyond.outs m

may_empty_all : (flushes all every one : Bool) → every ≡ true → one ≡ false → (not flushes || (if all then every else not one)) ≡ true
may_empty_all flushes all every one h k = grind arith

pub flush_all_leads : (word : ℕ) (o : Order) → Closing 4 o → Leads o (w 0x10 word ∷ []) (closing 4)
flush_all_leads word o c =
    let number = field_of word GRSTCTL_TXFNUM in
    written o 0x10 word grstctl (closing 4) refl c.found.woken
    (may_empty_all (is_set word GRSTCTL_TXFFLSH) (number == 16) (no_in_enabled last_endpoint o) (in_of o number).enabled (no_in last_endpoint o (ins_off o c)) (ins_off o c number)) c

-- the interrupts of both directions are cleared
one_cleared : (k : ℕ) (o : Order) (e : OutOrder) → e.enabled ≡ false → e.ended ≡ false → (in_of o k).clear ≡ true → Clearing k o → Clearing (suc k) (with_out o k e)
one_cleared k o e off none clear c =
    let d = clearing_out k k o e off (λ _. none) c in
    record {
      closed = d.closed;
      ins = more (λ m. (in_of (with_out o k e) m).clear ≡ true) k (ap (λ (i : InOrder). i.clear) (out_ins o k k e) ∙ clear) d.ins;
      outs = more (λ m. (out_of (with_out o k e) m).ended ≡ false) k (ap (λ (i : OutOrder). i.ended) (out_same o k e) ∙ none) d.outs;
    }

pub clear_both_leads : (k in_place out_place a b : ℕ) → k ≤ 3 → register_at in_place ≡ Some (diepint k) → register_at out_place ≡ Some (doepint k) → is_set a DIEPINT_XFRC ≡ true → is_set b DOEPINT_XFRC ≡ true
    → (o : Order) → Clearing k o → Leads o (w in_place a ∷ w out_place b ∷ []) (clearing (suc k))
clear_both_leads k in_place out_place a b l in_reg out_reg x y o c =
    let e = in_of o k in
    let e' = in_cleared e a in
    let none = c.closed.found.none k (omega arith) in
    let off = ins_off o c.closed k in
    let o' = with_in o k e' in
    let clear : e'.clear ≡ true = or_set e.clear (is_set a DIEPINT_XFRC) x in
    let one : Clearing k o' = clearing_in k k o e' l none off (λ _. clear) c in
    let out = out_cleared (out_of o' k) b in
    both o in_place a (diepint k) (w out_place b ∷ []) (clearing (suc k)) in_reg c.closed.found.woken (off_fits e.loaded (is_set a DIEPINT_XFRC) e.enabled e.naks none off)
    (written o' out_place b (doepint k) (clearing (suc k)) out_reg one.closed.found.woken refl
    (one_cleared k o' out (outs_off o' one.closed k) (taken_off (out_of o' k).ended (is_set b DOEPINT_XFRC) y) (ap (λ (i : InOrder). i.clear) (in_same o k e') ∙ clear) one))

-- the reset ends
abbrev pub none_loads : (ℕ → Bool) → Type 0
none_loads loads = (m : ℕ) → 1 ≤ m → m ≤ 3 → loads m ≡ false

pub wake_leads : (loads : ℕ → Bool) → none_loads loads → (o : Order) → Clearing 4 o → Leads o (w 0x14 0x3000 ∷ []) (over loads)
wake_leads loads h o c =
    let woken = c.closed.found.woken in
    let found = c.closed.found.found in
    let none = none_left 15 o (ins_off o c.closed) (outs_off o c.closed) in
    record {
      ordered = grind arith;
      state = record {
        found = grind arith;
        beyond = record { ins = c.closed.found.beyond.ins; outs = c.closed.found.beyond.outs };
        ended = λ m t. c.outs m (omega (arith, t));
        fit = λ m f t. subst (λ b. InFits b (in_of o m)) (sym (h m f t)) (ins_off o c.closed m, c.ins m (omega (arith, t)));
      };
    }

-- no endpoint is disabled yet, and no interrupt cleared
pub found_closing : (start : Order) (log : List Access) → Kept start log found → Kept start log (closing 0)
found_closing start log h = record { ordered = h.ordered; state = record { found = h.state; ins = λ m t. absurd (omega (arith, t)); outs = λ m t. absurd (omega (arith, t)) } }

pub closing_clearing : (start : Order) (log : List Access) → Kept start log (closing 4) → Kept start log (clearing 0)
closing_clearing start log h = record { ordered = h.ordered; state = record { closed = h.state; ins = λ m t. absurd (omega (arith, t)); outs = λ m t. absurd (omega (arith, t)) } }
