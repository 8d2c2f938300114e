use Rattle.std.proofs.Common.{◌-◌, length, take, drop, sym, ap, ◌∙◌, arith}
use Rattle.usb_words.specs.Field.{with_byte, bytes_of_pairs}
use Rattle.usb_words.proofs.Pairs.{after_bytes, after_more, first_pair, length-others}
use Rattle.usb_words.proofs.field.read_pairs.Goals as goal

pub loop-rest-preserved : goal.loop-rest-preserved
loop-rest-preserved g c =
    let word = c.loop-rest.rest.now in
    let read = c.loop-rest.bytes.items in
    let rest = bytes_of_pairs (take (length word - 2) (drop 2 word)) in
    record {
      room = omega (arith, length-others word);
      same = rw c.push.ensures.items (
          after_more read c.in-Some.byte rest
          ∙ ap (λ p. after_bytes read (with_byte p rest)) (sym c.in-Some.is ∙ c.pair_value.ensures)
          ∙ ap (after_bytes read) (sym (first_pair word (omega arith)))
          ∙ c.loop-rest.invariant.same);
    }
