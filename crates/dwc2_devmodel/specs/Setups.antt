-- The entries of SETUPs in the receive FIFO, counted.
use Rattle.std.specs.Prelude.{◌≡◌, ℕ, ◌+◌, if◌then◌else◌, List, [], ◌∷◌}
use Rattle.dwc2_fifo.specs.Rx.{Entry, Rx}
use Rattle.dwc2_regs.specs.declared.access.Profile.{Profile}
use Rattle.device_table.specs.State.{rx_depth}
use Rattle.device_table.specs.Write.{is_setup}

abbrev pub setups_in : List Entry → ℕ
setups_in [] = 0
setups_in (entry ∷ entries) = (if is_setup entry then 1 else 0) + setups_in entries

-- the FIFO is as deep as the plan says, and this is the number of its entries of SETUPs
pub record IsCounted (profile : Profile) (rx : Rx) (setups : ℕ) : Type 0 where
  pub counted : setups ≡ setups_in rx.entries
  pub depth_is : rx.depth ≡ rx_depth profile
