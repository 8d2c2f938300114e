use Rattle.std.proofs.Common.{get_or, ◌≡◌, sym, ap, ◌∙◌}
use Rattle.std.specs.Option.{option_map}
use Rattle.descriptor_row.specs.Row.{row_of}
use Rattle.descriptor_row.specs.Kinds.{left_of}
use Rattle.usb_descriptor.specs.Verdict.{has_bad_report}
use Rattle.usb_descriptor.proofs.Faults.{verdict_rest}
use Rattle.usb_descriptor.proofs.Thirty.{few_endpoints}
use Rattle.usb_descriptor.proofs.verdict.verdict.Goals as goal

pub returns-clause-value : goal.returns-clause-value
returns-clause-value c =
    let row = c.as_slice-3.result.now in
    let left = c.as_slice-4.result.now in
    let report = option_map (λ r. r.now) c.args.report in
    let er : row ≡ row_of c.args.config.now = c.as_slice-3.ensures.value ∙ c.read_row-row.ensures.row in
    let el : left ≡ left_of row = c.as_slice-4.ensures.value ∙ c.left_of-left.ensures.left ∙ ap left_of (c.as_slice.ensures.value ∙ sym c.as_slice-3.ensures.value) in
    let ew : c.has_bad_report-wrong_report.result ≡ has_bad_report c.args.limits left report =
    c.has_bad_report-wrong_report.ensures
    ∙ ap (λ l. has_bad_report c.args.limits l report) (c.as_slice-2.ensures.value ∙ sym c.as_slice-4.ensures.value) in
    verdict_rest c.args.device.now c.args.config.now report c.args.limits row left c.has_bad_report-wrong_report.result c.first_fault.result
    c.in_default.ensures.value c.in_default-config_fault.ensures.value (sym c.read_row-row.ensures.ends ∙ c.if-end-config.false) er el ew c.first_fault.ensures

pub returns-clause-few : goal.returns-clause-few
returns-clause-few c =
    let row = c.as_slice-3.result.now in
    let left = c.as_slice-4.result.now in
    let er : row ≡ row_of c.args.config.now = c.as_slice-3.ensures.value ∙ c.read_row-row.ensures.row in
    let el : left ≡ left_of row = c.as_slice-4.ensures.value ∙ c.left_of-left.ensures.left ∙ ap left_of (c.as_slice.ensures.value ∙ sym c.as_slice-3.ensures.value) in
    few_endpoints c.args.config.now c.args.limits row left (get_or c.args.config.now 4 0) c.has_bad_report-wrong_report.result c.first_fault.result
    c.type_inv.config er el c.first_fault.ensures
