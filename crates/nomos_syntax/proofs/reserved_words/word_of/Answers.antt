use Rattle.nomos_syntax.proofs.FirstByteLemmas.{empty-none, found-among}
use Rattle.nomos_syntax.proofs.reserved_words.word_of.Goals as goal

pub returns-in-empty : goal.returns-in-empty
returns-in-empty c = empty-none c.args.text.now c.in-empty.len_below

pub returns-in-len1-up : goal.returns-in-len1-up
returns-in-len1-up c =
    found-among c.args.text.now c.words_from.result.now c.word_among.result c.in-len1-up.len_at_least
    c.words_from.ensures c.word_among.ensures
