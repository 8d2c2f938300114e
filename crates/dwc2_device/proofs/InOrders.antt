-- IN endpoints other than 0: each step of the driver goes on in order, with what is kept of the endpoint.
use Rattle.std.proofs.Common.{◌≡◌, ◌≢◌, ◌+◌, ◌≤◌, ℕ, zero, suc, Bool, true, false, List, [], ◌∷◌, ◌++◌, refl, ap, sym, ◌∙◌, subst, arith}
use Rattle.std.specs.Prelude.{slice_index_or, slice_set}
use Rattle.dwc2_regs.specs.declared.TheConstants.{GRSTCTL_TXFNUM, DIEPINT_XFRC}
use Rattle.dwc2_regs.specs.declared.access.Access.{Access}
use Rattle.dwc2_regs.specs.Register.{offset_of, register_at, diepctl, diepint, dieptsiz, fifo}
use Rattle.dwc2_regs.specs.Field.{field_of}
use Rattle.dwc2_regs.proofs.OffsetLemmas.{diepctl_named, diepint_named, dieptsiz_named, fifo_named}
use Rattle.device_table.specs.State.{Table}
use Rattle.device_table.specs.Read.{read_table}
use Rattle.device_table.specs.Write.{write_table, after_write}
use Rattle.access_order.specs.Order.{InOrder, is_set}
use Rattle.access_order.specs.Control.{Enables, Answers, Disables, Stays}
use Rattle.access_order.specs.Phase.{Phase, IsIn, IsCleared, Kept, serving, at, fresh, sized, filling, answering, disabled, fits}
use Rattle.access_order.proofs.Phases.{enters, served, settled, answering_fits}
use Rattle.access_order.proofs.Leads.{w, r, size_leads, enable_leads, word_leads, answer_leads, found_leads, waits_leads, cleared_leads, disable_leads, flush_leads, stays_leads}
use Rattle.endpoint_relation.specs.declared.in_.InState.{InState}
use Rattle.endpoint_relation.specs.declared.in_.InState.TheVariants.{Closed, Rest, Running, Posted}
use Rattle.endpoint_relation.specs.declared.in_.InEndpoint.{InEndpoint}
use Rattle.endpoint_relation.specs.InRelation.{in_unused}
use Rattle.endpoint_relation.specs.InSteps.{in_at_rest}
use Rattle.device_relation.specs.Software.{Software, Joint, in_kept, with_in_kept}
use Rattle.device_relation.specs.Run.{with_table}
use Rattle.dwc2_device.specs.Driver.{Driver, joint}
use Rattle.dwc2_device.specs.Order.{loaded_if, is_loaded, loaded_in, loads, Goes}
use Rattle.dwc2_device.specs.Calls.{is_in_open}
use Rattle.dwc2_device.specs.Serves.{kept_served}
use Rattle.dwc2_device.proofs.Ordered.{wrote, kept_is}

-- What is kept of one endpoint is another.

-- where the list has no such place, what was kept there is that of an endpoint that isn't open
put_same : (xs : List InEndpoint) (n : ℕ) (e : InEndpoint) → (slice_index_or xs n in_unused ≡ in_unused → is_loaded e ≡ false)
    → is_loaded (slice_index_or (slice_set xs n e) n in_unused) ≡ is_loaded e
put_same [] n e h = sym (h refl)
put_same (x ∷ xs) zero e h = refl
put_same (x ∷ xs) (suc n) e h = put_same xs n e h

put_other : (xs : List InEndpoint) (m n : ℕ) (e : InEndpoint) → m ≢ n → slice_index_or (slice_set xs n e) m in_unused ≡ slice_index_or xs m in_unused
put_other [] m n e h = refl
put_other (x ∷ xs) zero zero e h = absurd (h refl)
put_other (x ∷ xs) zero (suc n) e h = refl
put_other (x ∷ xs) (suc m) zero e h = refl
put_other (x ∷ xs) (suc m) (suc n) e h = put_other xs m n e (λ k. h (ap suc k))

pub loads_here : (s : Software) (n : ℕ) (e : InEndpoint) → 1 ≤ n → (in_kept s n ≡ in_unused → is_loaded e ≡ false) → loaded_in (with_in_kept s n e).ins n ≡ is_loaded e
loads_here s zero e from h = absurd (omega (arith, from))
loads_here s (suc n) e from h = put_same s.ins n e h

pub loads_there : (s : Software) (n : ℕ) (e : InEndpoint) (m : ℕ) → m ≢ n → loaded_in (with_in_kept s n e).ins m ≡ loaded_in s.ins m
loads_there s zero e m h = refl
loads_there s (suc n) e zero h = refl
loads_there s (suc n) e (suc m) h = ap is_loaded (put_other s.ins m n e (λ k. h (ap suc k)))

-- A call of a task on one endpoint, with other things kept of it at its end.
pub called : (old mid new : Driver) (n : ℕ) (b : Bool) (e : InEndpoint) → 1 ≤ n → n ≤ 3
    → new.software.ins ≡ (with_in_kept mid.software n e).ins → new.bank.log ≡ mid.bank.log → is_loaded e ≡ b → (in_kept mid.software n ≡ in_unused → b ≡ false)
    → Goes (at 0 n (fresh (loads old n))) (at 0 n (fresh b)) old mid → Goes (serving 0) (serving 0) old new
called old mid new n b e from to ins log is unused steps start k =
    let inside = enters 0 n (loads old) start old.bank.log (omega arith) from to k in
    let here = loads_here mid.software n e from (λ h. is ∙ unused h) ∙ is in
    let loads' = loaded_in (with_in_kept mid.software n e).ins in
    let done = settled 0 n b (loads mid) loads' start mid.bank.log (loads_there mid.software n e) here (steps start inside) in
    subst (λ l. Kept start l (serving 0 (loads new))) (sym log)
    (subst (λ ins. Kept start mid.bank.log (serving 0 (loaded_in ins))) (sym ins) done)

-- and where nothing is loaded then
pub ended : (old mid new : Driver) (n : ℕ) (e : InEndpoint) → 1 ≤ n → n ≤ 3 → new ≡ record mid { software = with_in_kept mid.software n e } → is_loaded e ≡ false
    → ((b : Bool) → Goes (at 0 n (fresh b)) (at 0 n (fresh false)) old mid) → Goes (serving 0) (serving 0) old new
ended old mid new n e from to keep is steps =
    called old mid new n false e from to (ap (λ (d : Driver). d.software.ins) keep) (ap (λ (d : Driver). d.bank.log) keep) is (λ _. refl) (steps (loads old n))

-- its halt is kept and shown, and what is loaded there stays
pub halted : (old mid new : Driver) (n : ℕ) (kept : InEndpoint) (t : Table) → 1 ≤ n → n ≤ 3 → kept ≡ in_kept old.software n → joint mid ≡ with_table (joint old) t
    → new ≡ record mid { software = with_in_kept mid.software n (record kept { halted = true }) } → ((b : Bool) → Goes (at 0 n (fresh b)) (at 0 n (fresh b)) old mid)
    → Goes (serving 0) (serving 0) old new
halted old mid new n kept t from to is same keep steps =
    let here : loads old n ≡ is_loaded (in_kept old.software n) = ap is_loaded (sym (kept_is old.software n)) in
    let still : in_kept mid.software n ≡ in_kept old.software n = ap (λ (j : Joint). in_kept j.software n) same in
    called old mid new n (loads old n) (record kept { halted = true }) from to (ap (λ (d : Driver). d.software.ins) keep) (ap (λ (d : Driver). d.bank.log) keep)
    (ap is_loaded is ∙ sym here) (λ h. here ∙ ap is_loaded (sym still ∙ h)) (steps (loads old n))

-- where nothing is loaded at its beginning
pub begun : (old mid new : Driver) (n : ℕ) (e : InEndpoint) → 1 ≤ n → n ≤ 3 → new ≡ record mid { software = with_in_kept mid.software n e }
    → loads old n ≡ false → is_loaded e ≡ false → Goes (at 0 n (fresh false)) (at 0 n (fresh false)) old mid → Goes (serving 0) (serving 0) old new
begun old mid new n e from to keep none is steps =
    called old mid new n false e from to (ap (λ (d : Driver). d.software.ins) keep) (ap (λ (d : Driver). d.bank.log) keep) is (λ _. refl)
    (subst (λ b. Goes (at 0 n (fresh b)) (at 0 n (fresh false)) old mid) (sym none) steps)

pub none_at_rest : (s : Software) (n : ℕ) → (in_kept s n).state ≡ Rest → loaded_in s.ins n ≡ false
none_at_rest s n h = ap is_loaded (sym (kept_is s n)) ∙ ap (λ state. loaded_if state (in_kept s n).loaded) h

closed_loads_none : (state : InState) (n : ℕ) → is_in_open state ≡ false → loaded_if state n ≡ false
closed_loads_none Closed n h = refl
closed_loads_none Rest n h = absurd (cc h)
closed_loads_none Running n h = absurd (cc h)
closed_loads_none Posted n h = absurd (cc h)

pub none_closed : (s : Software) (n : ℕ) → is_in_open (in_kept s n).state ≡ false → loaded_in s.ins n ≡ false
none_closed s n h = ap is_loaded (sym (kept_is s n)) ∙ closed_loads_none (in_kept s n).state (in_kept s n).loaded h

-- no packet is loaded at rest
pub rests : (s : InState) (n : ℕ) → loaded_if (in_at_rest s) n ≡ false
rests Closed n = refl
rests Rest n = refl
rests Running n = refl
rests Posted n = refl

-- A handler run on one endpoint.
pub serves : (old mid new : Driver) (n : ℕ) (kept after : InEndpoint) (acknowledged : Bool) → 1 ≤ n → n ≤ 3 → kept ≡ in_kept old.software n
    → mid.software.ins ≡ old.software.ins → new ≡ record mid { software = with_in_kept mid.software n after } → after ≡ kept_served kept.state acknowledged kept
    → Goes (at n n (fresh (is_loaded kept))) (at n n (fits (is_loaded after))) old mid → Goes (serving n) (serving (n + 1)) old new
serves old mid new n kept after acknowledged from to is same keep value steps start k =
    let next : n + 1 ≡ suc n = omega arith in
    let here : loads old n ≡ is_loaded kept = ap is_loaded (sym (kept_is old.software n) ∙ sym is) in
    let inside = subst (λ b. Kept start old.bank.log (at n n (fresh b) (loads old))) here (enters n n (loads old) start old.bank.log (omega arith) from to k) in
    let left = loads_here mid.software n after from unused in
    let loads' = loaded_in (with_in_kept mid.software n after).ins in
    let done = served n n (is_loaded after) (loads mid) loads' start mid.bank.log (loads_there mid.software n after) left (omega arith) (steps start inside) in
    subst (λ (d : Driver). Kept start d.bank.log (serving (n + 1) (loads d))) (sym keep)
    (subst (λ m. Kept start mid.bank.log (serving m loads')) (sym next) done)
  where
    ins_kept : (s t : Software) (m : ℕ) → s.ins ≡ t.ins → in_kept s m ≡ in_kept t m
    ins_kept s t zero e = refl
    ins_kept s t (suc m) e = ap (λ ins. slice_index_or ins m in_unused) e

    unused : in_kept mid.software n ≡ in_unused → is_loaded after ≡ false
    unused h =
        let none : kept ≡ in_unused = is ∙ sym (ins_kept mid.software old.software n same) ∙ h in
        ap is_loaded (value ∙ ap (λ (s : InEndpoint). kept_served s.state acknowledged s) none)

-- a transfer runs, and packets of it are loaded
pub some_loaded : (s : InEndpoint) → s.state ≡ Running → s.loaded ≢ 0 → is_loaded s ≡ true
some_loaded s running some = ap (λ state. loaded_if state s.loaded) running ∙ by_count s.loaded some where
  by_count : (n : ℕ) → n ≢ 0 → loaded_if Running n ≡ true
  by_count zero h = absurd (h refl)
  by_count (suc n) h = refl

pub goes_loaded : (old new : Driver) (n : ℕ) (from : (ℕ → Bool) → Phase) (s : InEndpoint) → s.state ≡ Running → s.loaded ≢ 0 → Goes from (at n n answering) old new
    → Goes from (at n n (fits (is_loaded s))) old new
goes_loaded old new n from s running some steps start k =
    subst (λ b. Kept start new.bank.log (at n n (fits b) (loads new))) (sym (some_loaded s running some)) (answering_fits n n (loads new) start new.bank.log (steps start k))

-- where packets are loaded
pub of_loaded : (old new : Driver) (n : ℕ) (to : (ℕ → Bool) → Phase) (s : InEndpoint) → s.state ≡ Running → s.loaded ≢ 0 → Goes (at n n (fresh true)) to old new
    → Goes (at n n (fresh (is_loaded s))) to old new
of_loaded old new n to s running some steps = subst (λ b. Goes (at n n (fresh b)) to old new) (sym (some_loaded s running some)) steps

-- Single accesses.

abbrev pub Told : Driver → Driver → Access → Type 0
Told old new access = new.bank.log ≡ old.bank.log ++ access ∷ []

abbrev pub Becomes : Driver → Driver → Table → Type 0
Becomes old new t = joint new ≡ with_table (joint old) t

abbrev pub controlled : Driver → ℕ → ℕ → Table
controlled d n word = after_write d.bank.table (diepctl n) word

up_to_11 : (n : ℕ) → n ≤ 3 → n ≤ 11
up_to_11 n h = omega (arith, h)

pub enable_goes : (old new : Driver) (n word : ℕ) → n ≤ 3 → Enables word → Becomes old new (controlled old n word) → Told old new (w (offset_of (diepctl n)) word)
    → Goes (at n n (sized true)) (at n n (filling true)) old new
enable_goes old new n word l b e told =
    let off = offset_of (diepctl n) in
    wrote old new (at n n (sized true)) (at n n (filling true)) (w off word) (controlled old n word) e told
    (enable_leads n n true off word (loads old) l (diepctl_named n (up_to_11 n l)) b)

pub answer_goes : (old new : Driver) (n word : ℕ) → n ≤ 3 → Answers word → Becomes old new (controlled old n word) → Told old new (w (offset_of (diepctl n)) word)
    → Goes (at n n (filling true)) (at n n answering) old new
answer_goes old new n word l b e told =
    let off = offset_of (diepctl n) in
    wrote old new (at n n (filling true)) (at n n answering) (w off word) (controlled old n word) e told
    (answer_leads n n off word (loads old) l (diepctl_named n (up_to_11 n l)) b)

pub stays_goes : (old new : Driver) (n : ℕ) (b : Bool) (word : ℕ) → n ≤ 3 → Stays b word → Becomes old new (controlled old n word) → Told old new (w (offset_of (diepctl n)) word)
    → Goes (at 0 n (fresh b)) (at 0 n (fresh b)) old new
stays_goes old new n b word l s e told =
    let off = offset_of (diepctl n) in
    wrote old new (at 0 n (fresh b)) (at 0 n (fresh b)) (w off word) (controlled old n word) e told
    (stays_leads 0 n b off word (loads old) l (diepctl_named n (up_to_11 n l)) s)

pub disable_goes : (old new : Driver) (n : ℕ) (b : Bool) (word : ℕ) → n ≤ 3 → Disables word → Becomes old new (controlled old n word) → Told old new (w (offset_of (diepctl n)) word)
    → Goes (at 0 n (fresh b)) (at 0 n disabled) old new
disable_goes old new n b word l d e told =
    let off = offset_of (diepctl n) in
    wrote old new (at 0 n (fresh b)) (at 0 n disabled) (w off word) (controlled old n word) e told
    (disable_leads 0 n b off word (loads old) l (diepctl_named n (up_to_11 n l)) d)

pub clear_goes : (old new : Driver) (k n word : ℕ) → n ≤ 3 → is_set word DIEPINT_XFRC ≡ true
    → Becomes old new (after_write old.bank.table (diepint n) word) → Told old new (w (offset_of (diepint n)) word) → Goes (at k n disabled) (at k n (fresh false)) old new
clear_goes old new k n word l b e told =
    let off = offset_of (diepint n) in
    wrote old new (at k n disabled) (at k n (fresh false)) (w off word) (after_write old.bank.table (diepint n) word) e told
    (cleared_leads k n off word (loads old) l (diepint_named n (up_to_11 n l)) b)

fresh_cleared : (e : InOrder) → IsIn (fresh false) e → (e.loaded ≡ false) × IsCleared true e
fresh_cleared e h = (h.0, h.1.1)

-- these are of an offset that is computed

pub size_goes : (old new : Driver) (n off word : ℕ) → n ≤ 3 → off ≡ offset_of (dieptsiz n) → Becomes old new (write_table old.bank.table off word) → Told old new (w off word)
    → Goes (at n n (fresh false)) (at n n (sized true)) old new
size_goes old new n off word l is e told =
    let named = ap register_at is ∙ dieptsiz_named n (up_to_11 n l) in
    wrote old new (at n n (fresh false)) (at n n (sized true)) (w off word) (write_table old.bank.table off word) e told
    (size_leads n n true (fresh false) off word (loads old) l named fresh_cleared)

pub word_goes : (old new : Driver) (n off word : ℕ) → n ≤ 3 → off ≡ offset_of (fifo n) → Becomes old new (write_table old.bank.table off word) → Told old new (w off word)
    → Goes (at n n (filling true)) (at n n (filling true)) old new
word_goes old new n off word l is e told =
    let named = ap register_at is ∙ fifo_named n (up_to_11 n l) in
    wrote old new (at n n (filling true)) (at n n (filling true)) (w off word) (write_table old.bank.table off word) e told
    (word_leads n n true off word (loads old) named)

pub found_goes : (old new : Driver) (n off word : ℕ) → n ≤ 3 → off ≡ offset_of (diepint n) → is_set word DIEPINT_XFRC ≡ true
    → Becomes old new (read_table old.bank.table off) → Told old new (r off word) → Goes (at n n (fresh true)) (at n n disabled) old new
found_goes old new n off word l is b e told =
    let named = ap register_at is ∙ diepint_named n (up_to_11 n l) in
    wrote old new (at n n (fresh true)) (at n n disabled) (r off word) (read_table old.bank.table off) e told
    (found_leads n n off word (loads old) l named b)

pub waits_goes : (old new : Driver) (n off word : ℕ) → n ≤ 3 → off ≡ offset_of (diepint n) → Becomes old new (read_table old.bank.table off) → Told old new (r off word)
    → Goes (at n n (fresh true)) (at n n (fresh true)) old new
waits_goes old new n off word l is e told =
    let named = ap register_at is ∙ diepint_named n (up_to_11 n l) in
    wrote old new (at n n (fresh true)) (at n n (fresh true)) (r off word) (read_table old.bank.table off) e told
    (waits_leads n n off word (loads old) l named)

pub flush_goes : (old new : Driver) (n word : ℕ) → n ≤ 3 → field_of word GRSTCTL_TXFNUM ≡ n → Becomes old new (write_table old.bank.table 0x10 word) → Told old new (w 0x10 word)
    → Goes (at 0 n disabled) (at 0 n disabled) old new
flush_goes old new n word l is e told = wrote old new (at 0 n disabled) (at 0 n disabled) (w 0x10 word) (write_table old.bank.table 0x10 word) e told
    (flush_leads 0 n word (loads old) l is)
