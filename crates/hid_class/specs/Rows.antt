-- Where the reports of an id lie among the rows.
use Rattle.std.specs.Prelude.{ℕ, ◌==◌, List, Option}
use Rattle.std.specs.List.{position}
use Rattle.hid_device_machine.specs.declared.reports.IdReports.{IdReports}

-- the place of the row of an id, if it has one
abbrev pub place_in : ℕ → List IdReports → Option ℕ
place_in id rows = position (λ (row : IdReports). row.lengths.id == id) rows
