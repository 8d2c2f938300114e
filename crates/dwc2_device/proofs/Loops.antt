-- One step of each loop.
use Rattle.std.proofs.Common.{◌≡◌, ◌≢◌, ℕ, suc, ◌+◌, ◌-◌, ◌<◌, List, ◌++◌, Bool, true, false, ap, sym, ◌∙◌, arith, append_assoc}
use Rattle.std.specs.Prelude.{◌==◌, if◌then◌else◌}
use Rattle.std.proofs.lemmas.Bool.Decides.{nat_tests}
use Rattle.dwc2_regs.specs.Word.{bytes_of}
use Rattle.dwc2_regs.specs.Register.{grxstsp, fifo}
use Rattle.dwc2_fifo.specs.Words.{bytes_in}
use Rattle.dwc2_fifo.specs.Rx.{first_word, words_behind}
use Rattle.device_table.specs.State.{Table}
use Rattle.device_table.specs.Read.{value_read, after_read}
use Rattle.device_relation.specs.Run.{Whole, with_joint, with_table, after_words, words_read, arrival_taken, arrivals_taken, popped_all}

one_less : (n i : ℕ) → i < n → n - i ≡ suc (n - (i + 1))
one_less n i h = omega arith

pub after_words-step : (n i : ℕ) (t : Table) → i < n → after_words (n - i) t ≡ after_words (n - (i + 1)) (after_read t (fifo 0))
after_words-step n i t h = ap (λ k. after_words k t) (one_less n i h)

pub words_read-step : (n i : ℕ) (left items : List ℕ) → i < n
    → items ++ bytes_in (words_read (n - i) left) ≡ (items ++ bytes_of 4 (first_word left)) ++ bytes_in (words_read (n - (i + 1)) (words_behind left))
words_read-step n i left items h =
    ap (λ k. items ++ bytes_in (words_read k left)) (one_less n i h) ∙ sym (append_assoc items (bytes_of 4 (first_word left)) (bytes_in (words_read (n - (i + 1)) (words_behind left))))

is_zero : (n : ℕ) → n ≡ 0 → (n == 0) ≡ true
is_zero n h = grind (arith, nat_tests)

pub isnt_zero : (n : ℕ) → n ≢ 0 → (n == 0) ≡ false
isnt_zero n h = grind (arith, nat_tests)

abbrev pub popped_one : Whole → Whole
popped_one w = with_joint w (with_table w.joint (after_read w.joint.table grxstsp))

abbrev taken_by : Bool → ℕ → Whole → Whole
taken_by none n w = if none then popped_one w else arrivals_taken n (arrival_taken (popped_one w) (value_read w.joint.table grxstsp))

pub taken_all : (w : Whole) (n : ℕ) → n ≡ 0 → arrivals_taken n w ≡ w
unfolding arrivals_taken
taken_all w n e = ap (λ k. arrivals_taken k w) e

pub popped_every : (t : Table) (n : ℕ) → n ≡ 0 → popped_all n t ≡ t
unfolding popped_all
popped_every t n e = ap (λ k. popped_all k t) e

pub taken_none : (i : ℕ) (w : Whole) → i < 7 → value_read w.joint.table grxstsp ≡ 0 → arrivals_taken (7 - i) w ≡ popped_one w
unfolding arrivals_taken
taken_none i w h e =
    ap (λ k. arrivals_taken k w) (one_less 7 i h) ∙ ap (λ b. taken_by b (7 - (i + 1)) w) (is_zero (value_read w.joint.table grxstsp) e)

pub taken_some : (i : ℕ) (w : Whole) → i < 7 → value_read w.joint.table grxstsp ≢ 0
    → arrivals_taken (7 - i) w ≡ arrivals_taken (7 - (i + 1)) (arrival_taken (popped_one w) (value_read w.joint.table grxstsp))
unfolding arrivals_taken
taken_some i w h e =
    ap (λ k. arrivals_taken k w) (one_less 7 i h) ∙ ap (λ b. taken_by b (7 - (i + 1)) w) (isnt_zero (value_read w.joint.table grxstsp) e)

abbrev popped_by : Bool → ℕ → Table → Table
popped_by none n t = if none then after_read t grxstsp else popped_all n (after_read t grxstsp)

pub popped_none : (i : ℕ) (t : Table) → i < 14 → value_read t grxstsp ≡ 0 → popped_all (14 - i) t ≡ after_read t grxstsp
unfolding popped_all
popped_none i t h e = ap (λ k. popped_all k t) (one_less 14 i h) ∙ ap (λ b. popped_by b (14 - (i + 1)) t) (is_zero (value_read t grxstsp) e)

pub popped_some : (i : ℕ) (t : Table) → i < 14 → value_read t grxstsp ≢ 0 → popped_all (14 - i) t ≡ popped_all (14 - (i + 1)) (after_read t grxstsp)
unfolding popped_all
popped_some i t h e = ap (λ k. popped_all k t) (one_less 14 i h) ∙ ap (λ b. popped_by b (14 - (i + 1)) t) (isnt_zero (value_read t grxstsp) e)

pub ruleset steps = (after_words-step, words_read-step, taken_none, popped_none, popped_some, taken_all, popped_every)
