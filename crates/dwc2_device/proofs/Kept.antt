-- What is kept of one endpoint, once its registers were written.
use Rattle.std.proofs.Common.{◌≡◌, ℕ, ap, ◌∙◌}
use Rattle.device_table.specs.State.{Table}
use Rattle.endpoint_relation.specs.declared.out_.OutEndpoint.{OutEndpoint}
use Rattle.endpoint_relation.specs.declared.in_.InEndpoint.{InEndpoint}
use Rattle.device_relation.specs.Software.{Joint, with_out_kept, with_in_kept}
use Rattle.device_relation.specs.Run.{with_table}
use Rattle.dwc2_device.specs.Driver.{Driver, joint}

pub kept_in : (d d1 d2 : Driver) (n : ℕ) (t : Table) (kept : InEndpoint) → d2 ≡ record d1 { software = with_in_kept d1.software n kept } → joint d1 ≡ with_table (joint d) t
    → joint d2 ≡ record { table = t; software = with_in_kept d.software n kept }
kept_in d d1 d2 n t kept e k = ap joint e ∙ ap (λ (j : Joint). record j { software = with_in_kept j.software n kept }) k

pub kept_out : (d d1 d2 : Driver) (n : ℕ) (t : Table) (kept : OutEndpoint) → d2 ≡ record d1 { software = with_out_kept d1.software n kept } → joint d1 ≡ with_table (joint d) t
    → joint d2 ≡ record { table = t; software = with_out_kept d.software n kept }
kept_out d d1 d2 n t kept e k = ap joint e ∙ ap (λ (j : Joint). record j { software = with_out_kept j.software n kept }) k
