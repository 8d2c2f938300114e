use Rattle.std.proofs.Common.{sym, ap, ◌∙◌}
use Rattle.usb_words.specs.Words.{words_left}
use Rattle.usb_words.proofs.Pieces.{pieces_cut, pieces_last}
use Rattle.usb_words.proofs.words.Words.next.Goals as goal

pub returns-in-Some : goal.returns-in-Some
returns-in-Some c =
    let cut = pieces_cut c.in_ok-rest.rest.now c.split_at.result.0.now c.split_at.result.1.now c.in-Some.at (sym c.in-Some.ensures) c.split_at.ensures.front c.split_at.ensures.back in
    sym c.self.view_is ∙ ap words_left c.in_ok-rest.was ∙ cut

pub returns-in-None : goal.returns-in-None
returns-in-None c = sym c.self.view_is ∙ ap words_left c.in_ok-rest.was ∙ pieces_last c.in_ok-rest.rest.now (sym c.in-None.ensures)
