use Rattle.register_text.proofs.Accesses.{digits_told}
use Rattle.register_text.proofs.access.digits.Goals as goal

pub returns : goal.returns
returns c =
    rw (
      c.hex_digit.ensures,
      c.hex_digit-2.ensures,
      c.hex_digit-3.ensures,
      c.hex_digit-4.ensures,
      c.hex_digit-5.ensures,
      c.hex_digit-6.ensures,
      c.hex_digit-7.ensures,
      c.hex_digit-8.ensures,
      c.hex_digit-9.ensures,
      c.hex_digit-10.ensures,
      c.hex_digit-11.ensures,
      c.hex_digit-12.ensures,
      c.to_be_bytes.ensures,
      c.to_be_bytes-2.ensures,
    ) (digits_told c.args.access.now.off c.args.access.now.value)
