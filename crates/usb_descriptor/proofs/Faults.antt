-- The fault of the lowest rule, rule by rule.
use Rattle.std.proofs.Common.{◌≡◌, ℕ, ◌+◌, ◌<◌, List, Bool, true, false, length, drop, get_or, Option, Some, None, refl, ap, sym, ◌∙◌, eq-eqb}
use Rattle.std.specs.Prelude.{is_some}
use Rattle.std.proofs.lemmas.List.{drop_more}
use Rattle.descriptor_row.specs.declared.descriptor.Descriptor.{Descriptor}
use Rattle.usb_descriptor.specs.declared.limits.EpLimits.{EpLimits}
use Rattle.usb_descriptor.specs.declared.limits.SetFault.{SetFault}
use Rattle.usb_descriptor.specs.declared.rule.Rule.{Rule}
use Rattle.descriptor_row.specs.Row.{row_of, row_end}
use Rattle.descriptor_row.specs.Kinds.{left_of}
use Rattle.usb_descriptor.specs.Verdict.{earlier, device_fault, config_fault, row_fault, rule_fault, has_bad_report, rules, first_fault, verdict}

earlier_none : (x later : Option SetFault) → is_some x ≡ false → earlier x later ≡ later
earlier_none None later h = refl
earlier_none (Some f) later h = absurd (cc)

earlier_some : (x later : Option SetFault) → is_some x ≡ true → earlier x later ≡ x
earlier_some None later h = absurd (cc)
earlier_some (Some f) later h = refl

pub fault_here : (fault : Rule → Option SetFault) (rs : List Rule) (i : ℕ) (r : Rule) (x : Option SetFault) → i < length rs
    → x ≡ fault (get_or rs i r) → is_some x ≡ true → first_fault fault (drop i rs) ≡ x
fault_here fault rs i r x h e n =
    rw (drop_more rs i r h, ← e) (earlier_some x (first_fault fault (drop (i + 1) rs)) n)

pub fault_later : (fault : Rule → Option SetFault) (rs : List Rule) (i : ℕ) (r : Rule) (x : Option SetFault) → i < length rs
    → x ≡ fault (get_or rs i r) → is_some x ≡ false → first_fault fault (drop i rs) ≡ first_fault fault (drop (i + 1) rs)
fault_later fault rs i r x h e n =
    rw (drop_more rs i r h, ← e) (earlier_none x (first_fault fault (drop (i + 1) rs)) n)

earlier_rest : (a b c rest : Option SetFault) → None ≡ a → None ≡ b → None ≡ c → rest ≡ earlier a (earlier b (earlier c rest))
earlier_rest a b c rest ea eb ec = rw (← ea, ← eb, ← ec) refl

row_whole : (config : List ℕ) → row_end config ≡ length config → None ≡ row_fault config
row_whole config e = rw (eq-eqb (row_end config) (length config) e) refl

pub verdict_rest : (device config : List ℕ) (report : Option (List ℕ)) (limits : EpLimits) (row left : List Descriptor) (wrong : Bool) (r : Option SetFault)
    → None ≡ device_fault device → None ≡ config_fault config → row_end config ≡ length config → row ≡ row_of config → left ≡ left_of row
    → wrong ≡ has_bad_report limits left report
    → r ≡ first_fault (rule_fault limits row left (get_or config 4 0) wrong) rules → r ≡ verdict device config report limits
verdict_rest device config report limits row left wrong r d c e er el ew h =
    let rest = λ (rw : List Descriptor) (lf : List Descriptor) (b : Bool). first_fault (rule_fault limits rw lf (get_or config 4 0) b) rules in
    let whole = λ (rw : List Descriptor) (lf : List Descriptor). rest rw lf (has_bad_report limits lf report) in
    h
    ∙ ap (rest row left) ew
    ∙ ap (whole row) el
    ∙ ap (λ rw. whole rw (left_of rw)) er
    ∙ earlier_rest (device_fault device) (config_fault config) (row_fault config) (whole (row_of config) (left_of (row_of config))) d c (row_whole config e)

-- the verdict on what a set keeps is that on what it was made of
pub verdict_kept : (device config kept_device kept_config : List ℕ) (report kept : Option (List ℕ)) (limits : EpLimits)
    → kept_device ≡ device → kept_config ≡ config → kept ≡ report
    → None ≡ verdict device config report limits → verdict kept_device kept_config kept limits ≡ None
verdict_kept device config kept_device kept_config report kept limits d c r h =
    ap (λ x. verdict x kept_config kept limits) d
    ∙ ap (λ x. verdict device x kept limits) c
    ∙ ap (λ x. verdict device config x limits) r
    ∙ sym h
