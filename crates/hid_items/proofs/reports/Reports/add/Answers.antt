use Rattle.hid_items.specs.Lengths.{DataField}
use Rattle.hid_items.proofs.Rows.{stored, stored-small}
use Rattle.hid_items.proofs.reports.Reports.add.Goals as goal

pub invariant_of-self : goal.invariant_of-self
invariant_of-self c =
    let field : DataField = record { kind = c.args.kind; id = c.args.id; bits = c.args.bits } in
    stored-small field _ _ _ _ _ _ c.self.view_is c.deref.ensures.0 c.deref_mut.ensures.value c.in-Some.ensures
    c.grown.ensures c.self.invariant c.requires.fits

pub returns-in-Some : goal.returns-in-Some
returns-in-Some c =
    let field : DataField = record { kind = c.args.kind; id = c.args.id; bits = c.args.bits } in
    stored field _ _ _ _ _ _ c.self.view_is c.deref.ensures.0 c.deref_mut.ensures.value c.in-Some.ensures c.grown.ensures
