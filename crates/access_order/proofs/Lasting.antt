-- What stays of an endpoint as long as one of its registers isn't written.
use Rattle.std.proofs.Common.{◌≡◌, ◌≤◌, ℕ, zero, suc, Bool, true, false, List, [], ◌∷◌, ◌++◌, Option, Some, None, refl, ap, sym, ◌∙◌, subst, arith, ◌⊎◌, inl, inr}
use Rattle.std.specs.Prelude.{◌&&◌, ◌||◌, not, ◌==◌, if◌then◌else◌}
use Rattle.dwc2_regs.specs.declared.TheConstants.{GRXSTSP_STATUS, GRXSTSP_NUMBER, OUT_DONE, DIEPCTL_CNAK, DIEPCTL_SNAK, DIEPCTL_EPDIS, DIEPCTL_EPENA, DIEPINT_XFRC, DOEPCTL_EPENA, DOEPINT_XFRC}
use Rattle.dwc2_regs.specs.declared.access.Access.{Access}
use Rattle.dwc2_regs.specs.Field.{field_of}
use Rattle.dwc2_regs.specs.Register.{Register, register_at, grstctl, gintsts, gintmsk, grxstsr, grxstsp, grxfsiz, dieptxf0, hptxfsiz, hcfg, haint, haintmsk, hprt, dcfg, dctl, dsts, diepmsk, doepmsk, daint, daintmsk, diepempmsk, dieptxf, hcchar, hcint, hcintmsk, hctsiz, diepctl, diepint, dieptsiz, dtxfsts, doepctl, doepint, doeptsiz, fifo}
use Rattle.dwc2_regs.proofs.OffsetLemmas.{diepctl_named, doepctl_named, fifo_named}
use Rattle.access_order.specs.Order.{Order, InOrder, OutOrder, in_of, out_of, with_in, with_out, is_set, fits, after, after_write, after_read, in_enabled, in_naks, in_controlled, lets_answer, in_cleared, in_read, out_controlled, out_cleared, out_read, out_ended, are_ordered, order_after, after_at}
use Rattle.access_order.specs.Laws.{Unwritten, writes, EnablingsWantSizes, WordsWantEnabling, AnsweringWantsClear}
use Rattle.access_order.proofs.Lists.{splits}

-- an endpoint's state where another one's, or its own, was set
in_set : (P : InOrder → Type 0) (o : Order) (y : ℕ) (e : InOrder) (x : ℕ) → P (in_of o x) → (y ≡ x → P e) → P (in_of (with_in o y e) x)
in_set P o zero e zero h k = k refl
in_set P o zero e (suc m) h k = h
in_set P o (suc n) e zero h k = h
in_set P o (suc n) e (suc m) h k = by (m == n) (same m n) where
  same : (a b : ℕ) → (a == b) ≡ true → suc b ≡ suc a
  same a b t = grind arith

  by : (b : Bool) → (b ≡ true → suc n ≡ suc m) → P (if b then e else o.ins m)
  by true t = k (t refl)
  by false t = h

out_set : (o : Order) (y : ℕ) (e : OutOrder) (x : ℕ) → (out_of o x).sized ≡ false → (y ≡ x → e.sized ≡ false) → (out_of (with_out o y e) x).sized ≡ false
out_set o zero e zero h k = k refl
out_set o zero e (suc m) h k = h
out_set o (suc n) e zero h k = h
out_set o (suc n) e (suc m) h k = by (m == n) (same m n) where
  same : (a b : ℕ) → (a == b) ≡ true → suc b ≡ suc a
  same a b t = grind arith

  by : (b : Bool) → (b ≡ true → suc n ≡ suc m) → (if b then e else o.outs m).sized ≡ false
  by true t = k (t refl)
  by false t = h

-- the other direction's state is the same
in_of_out : (o : Order) (y : ℕ) (e : OutOrder) (x : ℕ) → in_of (with_out o y e) x ≡ in_of o x
in_of_out o zero e zero = refl
in_of_out o zero e (suc m) = refl
in_of_out o (suc n) e zero = refl
in_of_out o (suc n) e (suc m) = refl

out_of_in : (o : Order) (y : ℕ) (e : InOrder) (x : ℕ) → out_of (with_in o y e) x ≡ out_of o x
out_of_in o zero e zero = refl
out_of_in o zero e (suc m) = refl
out_of_in o (suc n) e zero = refl
out_of_in o (suc n) e (suc m) = refl

still : (b c : Bool) → b ≡ false → (b && c) ≡ false
still b c h = rw (h) refl

-- where the endpoints' states are the same
in_same : (P : InOrder → Type 0) (o p : Order) (x : ℕ) → p.in0 ≡ o.in0 → p.ins ≡ o.ins → P (in_of o x) → P (in_of p x)
in_same P o p zero e k h = subst P (sym e) h
in_same P o p (suc n) e k h = subst (λ (f : ℕ → InOrder). P (f n)) (sym k) h

out_same : (o p : Order) (x : ℕ) → p.out0 ≡ o.out0 → p.outs ≡ o.outs → (out_of o x).sized ≡ false → (out_of p x).sized ≡ false
out_same o p zero e k h = ap (λ (i : OutOrder). i.sized) e ∙ h
out_same o p (suc n) e k h = ap (λ (f : ℕ → OutOrder). (f n).sized) k ∙ h

-- what stays of an IN endpoint as long as this register isn't written
record Lasts (P : InOrder → Type 0) (x : ℕ) (register : Register) : Type 0 where
  control : (register ≡ diepctl x) ⊎ ((e : InOrder) (word : ℕ) → P e → P (in_controlled e word))
  clear : (register ≡ diepint x) ⊎ ((e : InOrder) (word : ℕ) → P e → P (in_cleared e word))
  size : (register ≡ dieptsiz x) ⊎ ((e : InOrder) → P e → P (record e { sized = true }))
  look : (e : InOrder) (word : ℕ) → P e → P (in_read e word)

-- it is another register, or the fact stays
lasts : {A : Type 0} (r register named : Register) → (register ≡ named) ⊎ A → r ≡ named → (r ≡ register → ⊥) → A
lasts r register named (inl e) k never = absurd (never (k ∙ sym e))
lasts r register named (inr a) k never = a

module _ (P : InOrder → Type 0) (x : ℕ) (register : Register) (l : Lasts P x register) where
  at : (o : Order) (y : ℕ) → P (in_of o x) → y ≡ x → P (in_of o y)
  at o y h e = subst (λ z. P (in_of o z)) (sym e) h

  in_written : (o : Order) (r : Register) (word : ℕ) → P (in_of o x) → (r ≡ register → ⊥) → P (in_of (after_write o r word) x)
  in_written o grstctl word h k = h
  in_written o gintsts word h k = in_same P o (after_write o gintsts word) x refl refl h
  in_written o gintmsk word h k = h
  in_written o grxstsr word h k = h
  in_written o grxstsp word h k = h
  in_written o grxfsiz word h k = h
  in_written o dieptxf0 word h k = h
  in_written o hptxfsiz word h k = h
  in_written o hcfg word h k = h
  in_written o haint word h k = h
  in_written o haintmsk word h k = h
  in_written o hprt word h k = h
  in_written o dcfg word h k = h
  in_written o dctl word h k = h
  in_written o dsts word h k = h
  in_written o diepmsk word h k = h
  in_written o doepmsk word h k = h
  in_written o daint word h k = h
  in_written o daintmsk word h k = h
  in_written o diepempmsk word h k = h
  in_written o (dieptxf y) word h k = h
  in_written o (hcchar y) word h k = h
  in_written o (hcint y) word h k = h
  in_written o (hcintmsk y) word h k = h
  in_written o (hctsiz y) word h k = h
  in_written o (diepctl y) word h k = in_set P o y (in_controlled (in_of o y) word) x h (λ e. lasts (diepctl y) register (diepctl x) l.control (ap diepctl e) k (in_of o y) word (at o y h e))
  in_written o (diepint y) word h k = in_set P o y (in_cleared (in_of o y) word) x h (λ e. lasts (diepint y) register (diepint x) l.clear (ap diepint e) k (in_of o y) word (at o y h e))
  in_written o (dieptsiz y) word h k = in_set P o y (record (in_of o y) { sized = true }) x h (λ e. lasts (dieptsiz y) register (dieptsiz x) l.size (ap dieptsiz e) k (in_of o y) (at o y h e))
  in_written o (dtxfsts y) word h k = h
  in_written o (doepctl y) word h k = subst P (sym (in_of_out o y (out_controlled (out_of o y) word) x)) h
  in_written o (doepint y) word h k = subst P (sym (in_of_out o y (out_cleared (out_of o y) word) x)) h
  in_written o (doeptsiz y) word h k = subst P (sym (in_of_out o y (record (out_of o y) { sized = true }) x)) h
  in_written o (fifo y) word h k = h

  in_popped : (b : Bool) (o : Order) (y : ℕ) → P (in_of o x) → P (in_of (if b then with_out o y (out_ended (out_of o y)) else o) x)
  in_popped true o y h = subst P (sym (in_of_out o y (out_ended (out_of o y)) x)) h
  in_popped false o y h = h

  in_read_on : (o : Order) (r : Register) (word : ℕ) → P (in_of o x) → P (in_of (after_read o r word) x)
  in_read_on o grstctl word h = h
  in_read_on o gintsts word h = in_same P o (after_read o gintsts word) x refl refl h
  in_read_on o gintmsk word h = h
  in_read_on o grxstsr word h = h
  in_read_on o grxstsp word h = in_popped (field_of word GRXSTSP_STATUS == OUT_DONE) o (field_of word GRXSTSP_NUMBER) h
  in_read_on o grxfsiz word h = h
  in_read_on o dieptxf0 word h = h
  in_read_on o hptxfsiz word h = h
  in_read_on o hcfg word h = h
  in_read_on o haint word h = h
  in_read_on o haintmsk word h = h
  in_read_on o hprt word h = h
  in_read_on o dcfg word h = h
  in_read_on o dctl word h = h
  in_read_on o dsts word h = h
  in_read_on o diepmsk word h = h
  in_read_on o doepmsk word h = h
  in_read_on o daint word h = h
  in_read_on o daintmsk word h = h
  in_read_on o diepempmsk word h = h
  in_read_on o (dieptxf y) word h = h
  in_read_on o (hcchar y) word h = h
  in_read_on o (hcint y) word h = h
  in_read_on o (hcintmsk y) word h = h
  in_read_on o (hctsiz y) word h = h
  in_read_on o (diepctl y) word h = h
  in_read_on o (diepint y) word h = in_set P o y (in_read (in_of o y) word) x h (λ e. l.look (in_of o y) word (at o y h e))
  in_read_on o (dieptsiz y) word h = h
  in_read_on o (dtxfsts y) word h = h
  in_read_on o (doepctl y) word h = h
  in_read_on o (doepint y) word h = subst P (sym (in_of_out o y (out_read (out_of o y) word) x)) h
  in_read_on o (doeptsiz y) word h = h
  in_read_on o (fifo y) word h = h

  in_after : (o : Order) (write : Bool) (word : ℕ) (r : Option Register) → P (in_of o x) → (write ≡ true → r ≡ Some register → ⊥) → P (in_of (after_at o r write word) x)
  in_after o write word None h k = h
  in_after o true word (Some r) h k = in_written o r word h (λ e. k refl (ap Some e))
  in_after o false word (Some r) h k = in_read_on o r word h

  in_later : (o : Order) (accesses : List Access) → P (in_of o x) → Unwritten register accesses → P (in_of (order_after o accesses) x)
  in_later o [] h u = h
  in_later o (a ∷ accesses) h u = in_later (after o a) accesses (in_after o a.write a.value (register_at a.off) h u.0) u.1

out_written : (o : Order) (x : ℕ) (r : Register) (word : ℕ) → (out_of o x).sized ≡ false → (r ≡ doeptsiz x → ⊥) → (out_of (after_write o r word) x).sized ≡ false
out_written o x grstctl word h k = h
out_written o x gintsts word h k = out_same o (after_write o gintsts word) x refl refl h
out_written o x gintmsk word h k = h
out_written o x grxstsr word h k = h
out_written o x grxstsp word h k = h
out_written o x grxfsiz word h k = h
out_written o x dieptxf0 word h k = h
out_written o x hptxfsiz word h k = h
out_written o x hcfg word h k = h
out_written o x haint word h k = h
out_written o x haintmsk word h k = h
out_written o x hprt word h k = h
out_written o x dcfg word h k = h
out_written o x dctl word h k = h
out_written o x dsts word h k = h
out_written o x diepmsk word h k = h
out_written o x doepmsk word h k = h
out_written o x daint word h k = h
out_written o x daintmsk word h k = h
out_written o x diepempmsk word h k = h
out_written o x (dieptxf y) word h k = h
out_written o x (hcchar y) word h k = h
out_written o x (hcint y) word h k = h
out_written o x (hcintmsk y) word h k = h
out_written o x (hctsiz y) word h k = h
out_written o x (diepctl y) word h k = ap (λ (i : OutOrder). i.sized) (out_of_in o y (in_controlled (in_of o y) word) x) ∙ h
out_written o x (diepint y) word h k = ap (λ (i : OutOrder). i.sized) (out_of_in o y (in_cleared (in_of o y) word) x) ∙ h
out_written o x (dieptsiz y) word h k = ap (λ (i : OutOrder). i.sized) (out_of_in o y (record (in_of o y) { sized = true }) x) ∙ h
out_written o x (dtxfsts y) word h k = h
out_written o x (doepctl y) word h k = out_set o y (out_controlled (out_of o y) word) x h (λ e. still (out_of o y).sized (not (is_set word DOEPCTL_EPENA)) (ap (λ z. (out_of o z).sized) e ∙ h))
out_written o x (doepint y) word h k = out_set o y (out_cleared (out_of o y) word) x h (λ e. ap (λ z. (out_of o z).sized) e ∙ h)
out_written o x (doeptsiz y) word h k = out_set o y (record (out_of o y) { sized = true }) x h (λ e. absurd (k (ap doeptsiz e)))
out_written o x (fifo y) word h k = h

ended_sized : (b : Bool) (e : OutOrder) → e.sized ≡ false → (if b then out_ended e else e).sized ≡ false
ended_sized true e h = h
ended_sized false e h = h

out_popped : (b : Bool) (o : Order) (y x : ℕ) → (out_of o x).sized ≡ false → (out_of (if b then with_out o y (out_ended (out_of o y)) else o) x).sized ≡ false
out_popped true o y x h = out_set o y (out_ended (out_of o y)) x h (λ e. ap (λ z. (out_of o z).sized) e ∙ h)
out_popped false o y x h = h

out_read_on : (o : Order) (x : ℕ) (r : Register) (word : ℕ) → (out_of o x).sized ≡ false → (out_of (after_read o r word) x).sized ≡ false
out_read_on o x grstctl word h = h
out_read_on o x gintsts word h = out_same o (after_read o gintsts word) x refl refl h
out_read_on o x gintmsk word h = h
out_read_on o x grxstsr word h = h
out_read_on o x grxstsp word h = out_popped (field_of word GRXSTSP_STATUS == OUT_DONE) o (field_of word GRXSTSP_NUMBER) x h
out_read_on o x grxfsiz word h = h
out_read_on o x dieptxf0 word h = h
out_read_on o x hptxfsiz word h = h
out_read_on o x hcfg word h = h
out_read_on o x haint word h = h
out_read_on o x haintmsk word h = h
out_read_on o x hprt word h = h
out_read_on o x dcfg word h = h
out_read_on o x dctl word h = h
out_read_on o x dsts word h = h
out_read_on o x diepmsk word h = h
out_read_on o x doepmsk word h = h
out_read_on o x daint word h = h
out_read_on o x daintmsk word h = h
out_read_on o x diepempmsk word h = h
out_read_on o x (dieptxf y) word h = h
out_read_on o x (hcchar y) word h = h
out_read_on o x (hcint y) word h = h
out_read_on o x (hcintmsk y) word h = h
out_read_on o x (hctsiz y) word h = h
out_read_on o x (diepctl y) word h = h
out_read_on o x (diepint y) word h = ap (λ (i : OutOrder). i.sized) (out_of_in o y (in_read (in_of o y) word) x) ∙ h
out_read_on o x (dieptsiz y) word h = h
out_read_on o x (dtxfsts y) word h = h
out_read_on o x (doepctl y) word h = h
out_read_on o x (doepint y) word h = out_set o y (out_read (out_of o y) word) x h (λ e. ended_sized (is_set word DOEPINT_XFRC) (out_of o y) (ap (λ z. (out_of o z).sized) e ∙ h))
out_read_on o x (doeptsiz y) word h = h
out_read_on o x (fifo y) word h = h

-- each access
out_after : (o : Order) (x : ℕ) (write : Bool) (word : ℕ) (r : Option Register) → (out_of o x).sized ≡ false → (write ≡ true → r ≡ Some (doeptsiz x) → ⊥) → (out_of (after_at o r write word) x).sized ≡ false
out_after o x write word None h k = h
out_after o x true word (Some r) h k = out_written o x r word h (λ e. k refl (ap Some e))
out_after o x false word (Some r) h k = out_read_on o x r word h

out_later : (o : Order) (x : ℕ) (accesses : List Access) → (out_of o x).sized ≡ false → Unwritten (doeptsiz x) accesses → (out_of (order_after o accesses) x).sized ≡ false
out_later o x [] h u = h
out_later o x (a ∷ accesses) h u = out_later (after o a) x accesses (out_after o x a.write a.value (register_at a.off) h u.0) u.1

-- EPENA uses the size up, and wants one
in_used : (o : Order) (x word : ℕ) → is_set word DIEPCTL_EPENA ≡ true → (in_of (with_in o x (in_controlled (in_of o x) word)) x).sized ≡ false
in_used o zero word e = used o.in0.sized (is_set word DIEPCTL_EPENA) e where
  used : (a b : Bool) → b ≡ true → (a && not b) ≡ false
  used true b h = rw (h) refl
  used false b h = refl
in_used o (suc n) word e = by (n == n) (same n) where
  used : (a b : Bool) → b ≡ true → (a && not b) ≡ false
  used true b h = rw (h) refl
  used false b h = refl

  same : (a : ℕ) → (a == a) ≡ true
  same a = grind arith

  by : (b : Bool) → b ≡ true → (if b then in_controlled (o.ins n) word else o.ins n).sized ≡ false
  by true t = used (o.ins n).sized (is_set word DIEPCTL_EPENA) e
  by false t = absurd (cc (t))

out_used : (o : Order) (x word : ℕ) → is_set word DOEPCTL_EPENA ≡ true → (out_of (with_out o x (out_controlled (out_of o x) word)) x).sized ≡ false
out_used o zero word e = used o.out0.sized (is_set word DOEPCTL_EPENA) e where
  used : (a b : Bool) → b ≡ true → (a && not b) ≡ false
  used true b h = rw (h) refl
  used false b h = refl
out_used o (suc n) word e = by (n == n) (same n) where
  used : (a b : Bool) → b ≡ true → (a && not b) ≡ false
  used true b h = rw (h) refl
  used false b h = refl

  same : (a : ℕ) → (a == a) ≡ true
  same a = grind arith

  by : (b : Bool) → b ≡ true → (if b then out_controlled (o.outs n) word else o.outs n).sized ≡ false
  by true t = used (o.outs n).sized (is_set word DOEPCTL_EPENA) e
  by false t = absurd (cc (t))

in_refused : (o : Order) (x word : ℕ) → x ≤ 11 → (in_of o x).sized ≡ false → is_set word DIEPCTL_EPENA ≡ true → are_ordered o (writes (diepctl x) word ∷ []) ≡ false
in_refused o x word few h e = rw (diepctl_named x few) (none o.woken (in_of o x).loaded (is_set word DIEPCTL_EPENA) (in_of o x).sized (not (lets_answer (in_of o x) word) || (in_of o x).clear) h e) where
  none : (a b c d r : Bool) → d ≡ false → c ≡ true → ((not a && (not b && (not c || d) && r)) && true) ≡ false
  none a b c d r h e = grind arith

out_refused : (o : Order) (x word : ℕ) → x ≤ 11 → (out_of o x).sized ≡ false → is_set word DOEPCTL_EPENA ≡ true → are_ordered o (writes (doepctl x) word ∷ []) ≡ false
out_refused o x word few h e = rw (doepctl_named x few) (none o.woken (is_set word DOEPCTL_EPENA) (out_of o x).sized (not (out_of o x).ended) h e) where
  none : (a c d r : Bool) → d ≡ false → c ≡ true → ((not a && (not c || (d && r))) && true) ≡ false
  none a c d r h e = grind arith

after_in : (o : Order) (x word : ℕ) → x ≤ 11 → after o (writes (diepctl x) word) ≡ with_in o x (in_controlled (in_of o x) word)
after_in o x word few = ap (λ r. after_at o r true word) (diepctl_named x few)

after_out : (o : Order) (x word : ℕ) → x ≤ 11 → after o (writes (doepctl x) word) ≡ with_out o x (out_controlled (out_of o x) word)
after_out o x word few = ap (λ r. after_at o r true word) (doepctl_named x few)

last_fails : (o : Order) (front : List Access) (a b : Access) → are_ordered (order_after (after o a) front) (b ∷ []) ≡ false → are_ordered o (a ∷ front ++ b ∷ []) ≡ false
last_fails o front a b h = fails (fits o a) (are_ordered (after o a) front) _ _ (splits.ordered (after o a) front (b ∷ [])) h where
  fails : (x y z t : Bool) → t ≡ (y && z) → z ≡ false → (x && t) ≡ false
  fails x y z t e h = grind arith

sized_lasts : (x : ℕ) → Lasts (λ i. i.sized ≡ false) x (dieptsiz x)
sized_lasts x = record {
  control = inr (λ e word h. still e.sized (not (is_set word DIEPCTL_EPENA)) h);
  clear = inr (λ e word h. h);
  size = inl refl;
  look = λ e word h. h;
}

pub sizes_between : EnablingsWantSizes
sizes_between x few = record {
  ins = λ o accesses first again e k u.
      last_fails o accesses (writes (diepctl x) first) (writes (diepctl x) again)
      (in_refused (order_after (after o (writes (diepctl x) first)) accesses) x again few
      (in_later (λ i. i.sized ≡ false) x (dieptsiz x) (sized_lasts x) (after o (writes (diepctl x) first)) accesses (ap (λ (p : Order). (in_of p x).sized) (after_in o x first few) ∙ in_used o x first e) u) k);
  outs = λ o accesses first again e k u.
      last_fails o accesses (writes (doepctl x) first) (writes (doepctl x) again)
      (out_refused (order_after (after o (writes (doepctl x) first)) accesses) x again few
      (out_later (after o (writes (doepctl x) first)) x accesses (ap (λ (p : Order). (out_of p x).sized) (after_out o x first few) ∙ out_used o x first e) u) k);
}

enabled_lasts : (x : ℕ) → Lasts (λ i. i.enabled ≡ false) x (diepctl x)
enabled_lasts x = record {
  control = inl refl;
  clear = inr (λ e word h. h);
  size = inr (λ e h. h);
  look = λ e word h. still e.enabled (not (is_set word DIEPINT_XFRC && not e.naks)) h;
}

word_refused : (o : Order) (x word : ℕ) → x ≤ 11 → (in_of o x).enabled ≡ false → are_ordered o (writes (fifo x) word ∷ []) ≡ false
word_refused o x word few h = rw (fifo_named x few) (none o.woken (in_of o x).enabled (in_of o x).naks h) where
  none : (a b c : Bool) → b ≡ false → ((not a && (b && c)) && true) ≡ false
  none a b c h = grind arith

at_last : (o : Order) (front : List Access) (a : Access) → are_ordered (order_after o front) (a ∷ []) ≡ false → are_ordered o (front ++ a ∷ []) ≡ false
at_last o front a h = fails (are_ordered o front) _ _ (splits.ordered o front (a ∷ [])) h where
  fails : (y z t : Bool) → t ≡ (y && z) → z ≡ false → t ≡ false
  fails y z t e h = grind arith

pub words_want_enabling : WordsWantEnabling
words_want_enabling x few o accesses word h u =
    at_last o accesses (writes (fifo x) word) (word_refused (order_after o accesses) x word few (in_later (λ i. i.enabled ≡ false) x (diepctl x) (enabled_lasts x) o accesses h u))

clear_lasts : (x : ℕ) → Lasts (λ i. i.clear ≡ false) x (diepint x)
clear_lasts x = record {
  control = inr (λ e word h. still e.clear (not (in_enabled e word && not (in_naks e word))) h);
  clear = inl refl;
  size = inr (λ e h. h);
  look = λ e word h. still e.clear (not (is_set word DIEPINT_XFRC)) h;
}

cnak_refused : (o : Order) (x word : ℕ) → x ≤ 11 → (in_of o x).clear ≡ false → (in_of o x).enabled ≡ true → is_set word DIEPCTL_CNAK ≡ true → is_set word DIEPCTL_EPDIS ≡ false
    → are_ordered o (writes (diepctl x) word ∷ []) ≡ false
cnak_refused o x word few h on cnak stays =
    rw (diepctl_named x few)
    (none o.woken (in_of o x).loaded (in_of o x).enabled (in_of o x).naks (in_of o x).clear (not (is_set word DIEPCTL_EPENA) || (in_of o x).sized) (is_set word DIEPCTL_EPENA) (is_set word DIEPCTL_CNAK) (is_set word DIEPCTL_EPDIS) (is_set word DIEPCTL_SNAK) h on cnak stays) where
      none : (a b on naks clear sized epena cnak epdis snak : Bool) → clear ≡ false → on ≡ true → cnak ≡ true → epdis ≡ false
          → ((not a && (not b && sized && (not ((epena || cnak) && (((on && not epdis) || epena) && not ((naks || snak) && not cnak))) || clear))) && true) ≡ false
      none a b on naks clear sized epena cnak epdis snak h k c e = grind arith

pub answering_wants_clear : AnsweringWantsClear
answering_wants_clear x few o accesses word h u on cnak stays =
    at_last o accesses (writes (diepctl x) word)
    (cnak_refused (order_after o accesses) x word few (in_later (λ i. i.clear ≡ false) x (diepint x) (clear_lasts x) o accesses h u) on cnak stays)
