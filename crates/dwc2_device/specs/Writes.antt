-- What each call on an endpoint other than 0 writes, access by access, and what it keeps.
use Rattle.std.specs.Prelude.{ℕ, ◌+◌, ◌-◌, ◌/◌, max}
use Rattle.usb_descriptor.specs.declared.endpoint.Endpoint.{Endpoint}
use Rattle.usb_descriptor.specs.Set.{is_core}
use Rattle.dwc2_regs.specs.Register.{diepctl}
use Rattle.device_table.specs.State.{out_end}
use Rattle.device_table.specs.Write.{after_write}
use Rattle.endpoint_relation.specs.OutSteps.{armed, halted, cleared, opened, closed}
use Rattle.endpoint_relation.specs.OutTable.{arm_writes, halt_writes, clear_writes, open_writes, close_writes}
use Rattle.endpoint_relation.specs.InWords.{in_snak_sd0pid, in_snak_sd0pid_epdis, in_snak_epdis}
use Rattle.endpoint_relation.specs.declared.in_.InState.TheVariants.{Running}
use Rattle.endpoint_relation.specs.declared.in_.InEndpoint.{InEndpoint}
use Rattle.endpoint_relation.specs.InRelation.{in_unused}
use Rattle.endpoint_relation.specs.InSteps.{control_with, software_opened, software_halted, software_cleared, software_dropped}
use Rattle.endpoint_relation.specs.InTable.{halted_at, stopped_at}
use Rattle.device_relation.specs.Software.{Joint, out_kept, in_kept, with_out_kept, with_in_kept}

-- OUT endpoints.

abbrev pub opens_out : Joint → Endpoint → ℕ → Joint
opens_out j e n = record { table = open_writes j.table n (out_kept j.software n) e; software = with_out_kept j.software n (opened (out_kept j.software n) e) }

abbrev pub arms_out : Joint → ℕ → Joint
arms_out j n = record { table = arm_writes j.table n (out_kept j.software n); software = with_out_kept j.software n (armed (out_kept j.software n)) }

abbrev pub halts_out : Joint → ℕ → Joint
halts_out j n = record { table = halt_writes j.table n (out_kept j.software n); software = with_out_kept j.software n (halted (out_kept j.software n)) }

abbrev pub clears_out : Joint → ℕ → Joint
clears_out j n = record { table = clear_writes j.table n (out_kept j.software n); software = with_out_kept j.software n (cleared (out_kept j.software n)) }

-- whether a packet landed is read before the endpoint is closed
abbrev pub closes_out : Joint → ℕ → Joint
closes_out j n = record { table = close_writes j.table n; software = with_out_kept j.software n (closed (out_end j.table n) (out_kept j.software n)) }

-- IN endpoints.

abbrev pub opens_in : Joint → Endpoint → ℕ → Joint
opens_in j e n = record { table = after_write j.table (diepctl n) (control_with n (software_opened e) in_snak_sd0pid); software = with_in_kept j.software n (software_opened e) }

abbrev pub halts_in : Joint → ℕ → Joint
halts_in j n =
    let s = in_kept j.software n in
    record { table = halted_at (is_core s.endpoint.owner) n (software_halted s) j.table; software = with_in_kept j.software n (software_halted s) }

abbrev pub clears_in : Joint → ℕ → Joint
clears_in j n =
    let s = software_cleared (in_kept j.software n) in
    record { table = stopped_at n (control_with n s in_snak_sd0pid_epdis) j.table; software = with_in_kept j.software n s }

abbrev pub drops_in : Joint → ℕ → Joint
drops_in j n =
    let s = in_kept j.software n in
    record { table = stopped_at n (control_with n s in_snak_epdis) j.table; software = with_in_kept j.software n (software_dropped s) }

abbrev pub closes_in : Joint → ℕ → Joint
closes_in j n = record { table = stopped_at n in_snak_epdis j.table; software = with_in_kept j.software n in_unused }

-- a transfer of so many bytes begins, in what is kept alone
abbrev pub transfer_of : InEndpoint → ℕ → InEndpoint
transfer_of s bytes = record s { state = Running; bytes = bytes; sent = 0; left = max 1 ((bytes + (s.endpoint.size - 1)) / s.endpoint.size); loaded = 0 }

abbrev pub begins : Joint → ℕ → ℕ → Joint
begins j n bytes = record j { software = with_in_kept j.software n (transfer_of (in_kept j.software n) bytes) }
