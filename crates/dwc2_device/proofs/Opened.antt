-- The opened state.
use Rattle.std.proofs.Common.{◌≡◌, false, refl, ap, ◌∙◌}
use Rattle.dwc2_regs.specs.declared.access.TheConstants.{FS4}
use Rattle.device_table.specs.State.{Table, first, opened}
use Rattle.device_relation.specs.Software.{Software, Joint, unused}
use Rattle.device_relation.specs.Laws.{at_start}
use Rattle.dwc2_device.specs.Init.{masks_written, channels_masked, sizes_written}

is_opened : sizes_written FS4 (channels_masked FS4 (masks_written (first FS4))) ≡ opened FS4
unfolding masks_written channels_masked sizes_written
is_opened = refl

pub opened_joint : (t : Table) (s : Software) → t ≡ first FS4 → s ≡ unused FS4 false
    → ◌≡◌ {A = Joint} (record { table = sizes_written FS4 (channels_masked FS4 (masks_written t)); software = s }) (at_start FS4)
opened_joint t s e k =
    ap (λ x. record { table = sizes_written FS4 (channels_masked FS4 (masks_written x)); software = s }) e
    ∙ ap (λ x. record { table = x; software = s }) is_opened
    ∙ ap (λ x. record { table = opened FS4; software = x }) k
