-- The table of cases in words of its own, and what the disk is asked by it.
use Rattle.std.proofs.Common.{◌≡◌, ◌≢◌, ◌↔◌, ℕ, ◌-◌, ◌<◌, ◌≤◌, Bool, true, false, Some, None, arith, refl}
use Rattle.std.specs.Prelude.{⊤, ◌==◌, nat_lt, if◌then◌else◌}
use Rattle.std.proofs.lemmas.Bool.{cond_both, eqb-true, eqb-false, ltb-true, ltb-false, both_ways}
use Rattle.class_pipes.specs.Pipes.{data_in, data_out}
use Rattle.msc_device_machine.specs.Cases.{Data, Nothing, ToHost, FromHost, Case, by_size, row_of, row_for, hi_above_di, hi_is_di, hi_below_di, ho_above_do, ho_is_do, ho_below_do}
use Rattle.msc_device_machine.specs.Storage.{pipe_of}
use Rattle.msc_device_machine.specs.Laws.{size_of, Agrees, CasesAgree, MovesNoMore, HaltsWhatIsDue, residue_of}

-- three cases by size, of which only the last is a phase error
record Sized (above same below : Case) : Type 0 where
  above_fits : ((row_of above).is_phase_error ≡ false) × ((row_of above).moves ≡ true)
  same_fits : ((row_of same).is_phase_error ≡ false) × ((row_of same).moves ≡ true)
  below_not : ((row_of below).is_phase_error ≡ true) × ((row_of below).moves ≡ false)

abbrev SizedTells : ℕ → ℕ → Case → Type 0
SizedTells h d c = (((row_of c).is_phase_error ≡ false) ↔ (d ≤ h)) × (((row_of c).moves ≡ true) ↔ ((d ≤ h) × ⊤))

fits_tells : (h d : ℕ) (c : Case) → d ≤ h → ((row_of c).is_phase_error ≡ false) × ((row_of c).moves ≡ true) → SizedTells h d c
fits_tells h d c le f = ((λ _. le, λ _. f.0), (λ _. (le, tt), λ _. f.1))

sized_tells : (h d : ℕ) (above same below : Case) → Sized above same below → SizedTells h d (by_size h d above same below)
sized_tells h d above same below s =
    cond_both (nat_lt d h) above (if h == d then same else below) (SizedTells h d)
    (λ e. fits_tells h d above (omega (arith, ltb-true d h e)) s.above_fits)
    (λ e. cond_both (h == d) same below (SizedTells h d)
    (λ f. fits_tells h d same (omega (arith, eqb-true h d f)) s.same_fits)
    (λ f. let more : h < d = omega (arith, ltb-false d h e, eqb-false h d f) in (
      (λ n. absurd (both_ways (row_of below).is_phase_error n s.below_not.0), λ le. absurd (omega arith)),
      (λ n. absurd (both_ways (row_of below).moves s.below_not.1 n), λ le. absurd (omega (arith, le.0))),
    )))

in_sized : Sized hi_above_di hi_is_di hi_below_di
in_sized = record { above_fits = (refl, refl); same_fits = (refl, refl); below_not = (refl, refl) }

out_sized : Sized ho_above_do ho_is_do ho_below_do
out_sized = record { above_fits = (refl, refl); same_fits = (refl, refl); below_not = (refl, refl) }

no : false ≡ true → ⊥
no e = both_ways false refl e

yes : true ≡ false → ⊥
yes e = both_ways true e refl

pub cases_agree : CasesAgree
cases_agree Nothing Nothing = ((λ _. tt, λ _. refl), (λ e. absurd (no e), λ h. absurd h.1))
cases_agree Nothing (ToHost d) = ((λ e. absurd (yes e), λ h. absurd h), (λ e. absurd (no e), λ h. absurd h.0))
cases_agree Nothing (FromHost d) = ((λ e. absurd (yes e), λ h. absurd h), (λ e. absurd (no e), λ h. absurd h.0))
cases_agree (ToHost h) Nothing = ((λ _. tt, λ _. refl), (λ e. absurd (no e), λ h. absurd h.1))
cases_agree (ToHost h) (ToHost d) = sized_tells h d hi_above_di hi_is_di hi_below_di in_sized
cases_agree (ToHost h) (FromHost d) = ((λ e. absurd (yes e), λ h. absurd h), (λ e. absurd (no e), λ h. absurd h.0))
cases_agree (FromHost h) Nothing = ((λ _. tt, λ _. refl), (λ e. absurd (no e), λ h. absurd h.1))
cases_agree (FromHost h) (ToHost d) = ((λ e. absurd (yes e), λ h. absurd h), (λ e. absurd (no e), λ h. absurd h.0))
cases_agree (FromHost h) (FromHost d) = sized_tells h d ho_above_do ho_is_do ho_below_do out_sized

agrees_size : (host device : Data) → Agrees host device → size_of device ≤ size_of host
agrees_size Nothing Nothing a = omega arith
agrees_size Nothing (ToHost d) a = absurd a
agrees_size Nothing (FromHost d) a = absurd a
agrees_size (ToHost h) Nothing a = omega arith
agrees_size (ToHost h) (ToHost d) a = a
agrees_size (ToHost h) (FromHost d) a = absurd a
agrees_size (FromHost h) Nothing a = omega arith
agrees_size (FromHost h) (ToHost d) a = absurd a
agrees_size (FromHost h) (FromHost d) a = a

not_true : (b : Bool) → (b ≡ true → ⊥) → b ≡ false
not_true true h = absurd (h refl)
not_true false h = refl

pub moves_no_more : MovesNoMore
moves_no_more host device =
    let it = cases_agree host device in (
      λ e. not_true (row_for host device).moves (λ m. both_ways (row_for host device).is_phase_error (it.0.1 ((it.1.0 m).0)) e),
      λ m. agrees_size host device ((it.1.0 m).0),
    )

-- What is due, by the size of both.
abbrev Due_ : ℕ → ℕ → ℕ → Case → Type 0
Due_ h d pipe c =
    (h - (if (row_of c).moves then d else 0) ≢ 0 → (row_of c).halts ≡ Some pipe) × (h - (if (row_of c).moves then d else 0) ≡ 0 → (row_of c).halts ≡ None)

in_due : (h d : ℕ) → 0 < h → Due_ h d data_in (by_size h d hi_above_di hi_is_di hi_below_di)
in_due h d some =
    cond_both (nat_lt d h) hi_above_di (if h == d then hi_is_di else hi_below_di) (Due_ h d data_in)
    (λ e. (λ _. refl, λ z. absurd (omega (arith, ltb-true d h e))))
    (λ e. cond_both (h == d) hi_is_di hi_below_di (Due_ h d data_in)
    (λ f. (λ nz. absurd (omega (arith, eqb-true h d f)), λ _. refl))
    (λ f. (λ _. refl, λ z. absurd (omega arith))))

out_due : (h d : ℕ) → 0 < h → Due_ h d data_out (by_size h d ho_above_do ho_is_do ho_below_do)
out_due h d some =
    cond_both (nat_lt d h) ho_above_do (if h == d then ho_is_do else ho_below_do) (Due_ h d data_out)
    (λ e. (λ _. refl, λ z. absurd (omega (arith, ltb-true d h e))))
    (λ e. cond_both (h == d) ho_is_do ho_below_do (Due_ h d data_out)
    (λ f. (λ nz. absurd (omega (arith, eqb-true h d f)), λ _. refl))
    (λ f. (λ _. refl, λ z. absurd (omega arith))))

abbrev IsDue_ : Data → ℕ → Data → Type 0
IsDue_ host pipe device =
    let r = row_for host device in
    (residue_of r host device ≢ 0 → r.halts ≡ Some pipe) × (residue_of r host device ≡ 0 → r.halts ≡ None)

to_host_due : (n : ℕ) (device : Data) → 0 < n → IsDue_ (ToHost n) data_in device
to_host_due n Nothing some = (λ _. refl, λ z. absurd (omega arith))
to_host_due n (ToHost d) some = in_due n d some
to_host_due n (FromHost d) some = (λ _. refl, λ z. absurd (omega arith))

from_host_due : (n : ℕ) (device : Data) → 0 < n → IsDue_ (FromHost n) data_out device
from_host_due n Nothing some = (λ _. refl, λ z. absurd (omega arith))
from_host_due n (ToHost d) some = (λ _. refl, λ z. absurd (omega arith))
from_host_due n (FromHost d) some = out_due n d some

nothing_due : (pipe : ℕ) (device : Data) → IsDue_ Nothing pipe device
nothing_due pipe Nothing = (λ nz. absurd (nz refl), λ _. refl)
nothing_due pipe (ToHost d) = (λ nz. absurd (nz refl), λ _. refl)
nothing_due pipe (FromHost d) = (λ nz. absurd (nz refl), λ _. refl)

positive : (n : ℕ) → (n == 0) ≡ false → 0 < n
positive n e = omega (arith, eqb-false n 0 e)

due_at : (is_in : Bool) (n : ℕ) (device : Data) → 0 < n → IsDue_ (if is_in then ToHost n else FromHost n) (pipe_of is_in) device
due_at true n device some = to_host_due n device some
due_at false n device some = from_host_due n device some

pub halts_what_is_due : HaltsWhatIsDue
halts_what_is_due is_in n device =
    cond_both (n == 0) Nothing (if is_in then ToHost n else FromHost n) (λ host. IsDue_ host (pipe_of is_in) device)
    (λ _. nothing_due (pipe_of is_in) device)
    (λ e. due_at is_in n device (positive n e))
