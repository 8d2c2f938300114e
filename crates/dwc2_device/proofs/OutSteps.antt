-- The order of accesses to the receive FIFO and to OUT endpoints.
use Rattle.std.proofs.Common.{◌≡◌, ◌≢◌, ◌≤◌, ◌<◌, ℕ, zero, suc, false, [], ◌∷◌, ◌++◌, Some, refl, ap, sym, ◌∙◌, arith, subst}
use Rattle.std.specs.Prelude.{◌==◌}
use Rattle.dwc2_regs.specs.declared.TheConstants.{DOEPCTL_EPENA, DOEPINT_XFRC, GRXSTSP_STATUS, OUT_DONE}
use Rattle.dwc2_regs.specs.declared.access.Access.{Access}
use Rattle.dwc2_regs.specs.Field.{field_of}
use Rattle.dwc2_regs.specs.Register.{register_at, offset_of, doepctl, doepint, doeptsiz, fifo}
use Rattle.dwc2_regs.proofs.OffsetLemmas.{doepctl_named, doepint_named}
use Rattle.access_order.specs.Order.{is_set}
use Rattle.access_order.specs.Phase.{Keeps, serving, ended, out_sized, closing}
use Rattle.access_order.proofs.Leads.{w, r, keeps, plain_pop_leads, end_pop_leads, drop_leads, read_leads, zero_leads}
use Rattle.access_order.proofs.Leads.{out_leads, out_size_leads, arm_leads, out_clear_leads, out_done_leads, out_look_leads}
use Rattle.endpoint_relation.specs.declared.out_.OutEndpoint.{OutEndpoint}
use Rattle.device_table.specs.State.{Table}
use Rattle.device_relation.specs.Software.{with_out_kept}
use Rattle.device_relation.specs.Run.{with_table, xfrc}
use Rattle.dwc2_device.specs.Driver.{Driver, joint}
use Rattle.dwc2_device.specs.Order.{loads, Goes}
use Rattle.dwc2_device.specs.Standing.{EndsAt}
use Rattle.dwc2_device.proofs.Ordered.{wrote}

-- the list has one access more
abbrev pub Told : Driver → Driver → Access → Type 0
Told old new access = new.bank.log ≡ old.bank.log ++ access ∷ []

-- The receive FIFO.

-- no packet's end is popped, or that of an endpoint, or all is dropped at a reset
pub pops_plain : (old new : Driver) (t : Table) (word status : ℕ) → joint new ≡ with_table (joint old) t → Told old new (r 0x20 word) → status ≡ word → field_of status GRXSTSP_STATUS ≢ OUT_DONE
    → Goes (serving 0) (serving 0) old new
pops_plain old new t word status e told is h = wrote old new (serving 0) (serving 0) (r 0x20 word) t e told (plain_pop_leads 0 word (loads old) (λ k. h (ap (λ x. field_of x GRXSTSP_STATUS) is ∙ k)))

pub pops_end : (old new : Driver) (t : Table) (word status n : ℕ) → joint new ≡ with_table (joint old) t → Told old new (r 0x20 word) → status ≡ word → EndsAt n status
    → Goes (serving 0) (ended n) old new
pops_end old new t word status n e told is h =
    let at : EndsAt n word = subst (EndsAt n) is h in
    wrote old new (serving 0) (ended n) (r 0x20 word) t e told (end_pop_leads n word (loads old) at.0 at.1)

pub pops_closed : (old new : Driver) (word : ℕ) → Told old new (r 0x20 word) → Keeps (closing 4) (closing 4) old.bank.log new.bank.log
pops_closed old new word told = keeps (closing 4) (closing 4) old.bank.log new.bank.log (r 0x20 word ∷ []) told (drop_leads word)

-- a word of what was popped
pub reads_word : (old new : Driver) (t : Table) (off word : ℕ) → off ≡ offset_of (fifo 0) → joint new ≡ with_table (joint old) t → Told old new (r off word) → Goes (serving 0) (serving 0) old new
reads_word old new t off word is e told =
    wrote old new (serving 0) (serving 0) (r 0x1000 word) t e (told ∙ ap (λ x. old.bank.log ++ r x word ∷ []) is) (read_leads 0 word (loads old))

-- Endpoint 0 is disabled for packets to the host.
pub disables_zero : (old new : Driver) (t : Table) → joint new ≡ with_table (joint old) t → Told old new (w 0x900 0x48000000) → Goes (serving 0) (serving 0) old new
disables_zero old new t e told = wrote old new (serving 0) (serving 0) (w 0x900 0x48000000) t e told (zero_leads 0x900 0x48000000 (loads old) refl (record { epena = refl; cnak = refl }))

-- OUT endpoints.

pub near : (n : ℕ) → n ≤ 3 → n ≤ 11
near n h = omega arith

-- no bit from 31 on
no_epena : (word : ℕ) → word < 0x80000000 → field_of word DOEPCTL_EPENA ≡ 0
no_epena word h = omega arith

pub plain_word : (word : ℕ) → word < 0x80000000 → is_set word DOEPCTL_EPENA ≡ false
plain_word word h = ap (λ x. x == 1) (no_epena word h)

-- DOEPCTLx
pub writes_plain : (old new : Driver) (t : Table) (n word : ℕ) → n ≤ 3 → word < 0x80000000 → joint new ≡ with_table (joint old) t → Told old new (w (offset_of (doepctl n)) word)
    → Goes (serving 0) (serving 0) old new
writes_plain old new t n word l few e told =
    wrote old new (serving 0) (serving 0) (w (offset_of (doepctl n)) word) t e told (out_leads 0 n (offset_of (doepctl n)) word (loads old) l (doepctl_named n (near n l)) (plain_word word few))

pub writes_arming : (old new : Driver) (t : Table) (n word : ℕ) → n ≤ 3 → joint new ≡ with_table (joint old) t → Told old new (w (offset_of (doepctl n)) word)
    → Goes (out_sized n 0) (serving 0) old new
writes_arming old new t n word l e told =
    wrote old new (out_sized n 0) (serving 0) (w (offset_of (doepctl n)) word) t e told (arm_leads 0 n (offset_of (doepctl n)) word (loads old) l (doepctl_named n (near n l)))

-- DOEPTSIZx
pub writes_size : (old new : Driver) (t : Table) (n off word : ℕ) → n ≤ 3 → register_at off ≡ Some (doeptsiz n) → joint new ≡ with_table (joint old) t → Told old new (w off word)
    → Goes (serving 0) (out_sized n 0) old new
writes_size old new t n off word l reg e told = wrote old new (serving 0) (out_sized n 0) (w off word) t e told (out_size_leads 0 n off word (loads old) l reg)

-- DOEPINTx, where no end of a packet was popped, and where one was
pub clears_plain : (old new : Driver) (t : Table) (n word : ℕ) → n ≤ 3 → joint new ≡ with_table (joint old) t → Told old new (w (offset_of (doepint n)) word)
    → Goes (serving 0) (serving 0) old new
clears_plain old new t n word l e told =
    wrote old new (serving 0) (serving 0) (w (offset_of (doepint n)) word) t e told (out_clear_leads 0 n (offset_of (doepint n)) word (loads old) l (doepint_named n (near n l)))

pub clears_end : (old new : Driver) (t : Table) (n word : ℕ) → n ≤ 3 → word ≡ xfrc → joint new ≡ with_table (joint old) t → Told old new (w (offset_of (doepint n)) word)
    → Goes (ended n) (serving 0) old new
clears_end old new t n word l is e told =
    wrote old new (ended n) (serving 0) (w (offset_of (doepint n)) word) t e told
    (out_done_leads n (offset_of (doepint n)) word (loads old) l (doepint_named n (near n l)) (ap (λ x. is_set x DOEPINT_XFRC) is))

-- DOEPCTLx is read
pub looks : (old new : Driver) (t : Table) (n off word : ℕ) → register_at off ≡ Some (doepctl n) → joint new ≡ with_table (joint old) t → Told old new (r off word) → Goes (serving 0) (serving 0) old new
looks old new t n off word reg e told = wrote old new (serving 0) (serving 0) (r off word) t e told (out_look_leads 0 n off word (loads old) reg)

-- What is kept of an OUT endpoint is no matter of the order.

pub keeps_out : (old mid new : Driver) (n : ℕ) (kept : OutEndpoint) → new ≡ record mid { software = with_out_kept mid.software n kept }
    → Goes (serving 0) (serving 0) old mid → Goes (serving 0) (serving 0) old new
keeps_out old mid new n kept e g = subst (λ (d : Driver). Goes (serving 0) (serving 0) old d) (sym e) (put old mid n kept g) where
  put : (old mid : Driver) (n : ℕ) (kept : OutEndpoint) → Goes (serving 0) (serving 0) old mid
      → Goes (serving 0) (serving 0) old (record mid { software = with_out_kept mid.software n kept })
  put old mid zero kept g = g
  put old mid (suc n) kept g = g
