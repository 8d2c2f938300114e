-- The thirteen cases of Bulk-Only Transport 1.0 (6.7): what the host expects against what the device intends.
use Rattle.std.specs.Prelude.{ℕ, Bool, true, false, ◌==◌, nat_lt, Option, Some, None, if◌then◌else◌}
use Rattle.class_pipes.specs.Pipes.{data_in, data_out}

-- what one side means to move
pub data Data : Type 0 where
  Nothing : Data
  ToHost : (n : ℕ) → Data
  FromHost : (n : ℕ) → Data

-- the cases in the order of table 6.1, the host's side first
pub data Case : Type 0 where
  hn_dn : Case
  hn_di : Case
  hn_do : Case
  hi_dn : Case
  hi_above_di : Case
  hi_is_di : Case
  hi_below_di : Case
  hi_do : Case
  ho_dn : Case
  ho_di : Case
  ho_above_do : Case
  ho_is_do : Case
  ho_below_do : Case

abbrev pub by_size : ℕ → ℕ → Case → Case → Case → Case
by_size host device above same below =
    if nat_lt device host then above else (if host == device then same else below)

abbrev pub case_of : Data → Data → Case
case_of Nothing Nothing = hn_dn
case_of Nothing (ToHost d) = hn_di
case_of Nothing (FromHost d) = hn_do
case_of (ToHost h) Nothing = hi_dn
case_of (ToHost h) (ToHost d) = by_size h d hi_above_di hi_is_di hi_below_di
case_of (ToHost h) (FromHost d) = hi_do
case_of (FromHost h) Nothing = ho_dn
case_of (FromHost h) (ToHost d) = ho_di
case_of (FromHost h) (FromHost d) = by_size h d ho_above_do ho_is_do ho_below_do

-- What the device does in a case: whether it moves its data, all of it; the pipe that it halts behind that; and whether the status is a
-- phase error, in which it moves nothing.
pub record Row : Type 0 where
  pub moves : Bool
  pub halts : Option ℕ
  pub is_phase_error : Bool

abbrev pub row : Bool → Option ℕ → Bool → Row
row moves halts is_phase_error = record { moves = moves; halts = halts; is_phase_error = is_phase_error }

abbrev pub row_of : Case → Row
-- 1: the host expects nothing (6.7.1)
row_of hn_dn = row false None false
-- 2, 3
row_of hn_di = row false None true
row_of hn_do = row false None true
-- 4, 5, 6: it expects data, and gets what there is (6.7.2)
row_of hi_dn = row false (Some data_in) false
row_of hi_above_di = row true (Some data_in) false
row_of hi_is_di = row true None false
-- 7, 8
row_of hi_below_di = row false (Some data_in) true
row_of hi_do = row false (Some data_in) true
-- 9: it sends data, and what there is room for is taken (6.7.3)
row_of ho_dn = row false (Some data_out) false
-- 10
row_of ho_di = row false (Some data_out) true
-- 11, 12
row_of ho_above_do = row true (Some data_out) false
row_of ho_is_do = row true None false
-- 13
row_of ho_below_do = row false (Some data_out) true

abbrev pub row_for : Data → Data → Row
row_for host device = row_of (case_of host device)
