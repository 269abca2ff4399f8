-- A word ends at the first blank.
use Rattle.std.proofs.Common.{ap, sym, ◌∙◌, option_copied}
use Rattle.nomos_snapshot.specs.LineWords.{words_left}
use Rattle.nomos_snapshot.proofs.WordLemmas.{words-lacking, words-apart}
use Rattle.nomos_snapshot.proofs.line_words.Words.next_word.Goals as goal

pub returns-in-Some : goal.returns-in-Some
returns-in-Some c =
    sym c.self.view_is ∙ ap (λ o. words_left (option_copied o)) c.in_ok-left.was
    ∙ words-apart c.in_ok-left.left.now c.in-Some.word.now c.in-Some.rest.now c.in-Some.ensures

pub returns-in-None : goal.returns-in-None
returns-in-None c =
    sym c.self.view_is ∙ ap (λ o. words_left (option_copied o)) c.in_ok-left.was
    ∙ words-lacking c.in_ok-left.left.now c.in-None.ensures
