-- The code's powers of two are those of the definition, of which the lemmas tell the rest.
use Rattle.dwc2_regs.proofs.FieldLemmas.{with_field-fits, field_of-with_field, field_of-with_field-apart}
use Rattle.dwc2_regs.proofs.bits.put_field.Goals as goal

pub overflow_cast-result-2 : goal.overflow_cast-result-2
overflow_cast-result-2 c =
    rw (c.worth-unit.ensures, c.worth-above.ensures)
    (record { fits = with_field-fits c.args.word c.args.field c.args.value c.ranges.word.fits c.requires.within c.requires.fits })

pub returns-clause-reads_back : goal.returns-clause-reads_back
returns-clause-reads_back c =
    rw (c.worth-unit.ensures, c.worth-above.ensures) (field_of-with_field c.args.word c.args.field c.args.value c.requires.fits)

pub returns-clause-others : goal.returns-clause-others
returns-clause-others c =
    rw (c.worth-unit.ensures, c.worth-above.ensures)
    (λ other apart. field_of-with_field-apart c.args.word c.args.field c.args.value other c.requires.fits apart)
