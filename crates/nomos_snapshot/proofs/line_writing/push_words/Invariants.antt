-- The words that were written are the first of all.
use Rattle.std.proofs.Common.{◌≡◌, ◌∷◌, ◌++◌, map, take}
use Rattle.nomos_snapshot.specs.LineWords.{joined}
use Rattle.nomos_snapshot.specs.mirror.WrittenWords.{word_text}
use Rattle.nomos_snapshot.proofs.line_writing.push_words.Given as goal

abbrev pub invariant-loop-word : goal.invariant-loop-word
invariant-loop-word l =
    l.text.items ≡ l.fn.text.items ++ joined (l.first ∷ map word_text (take l.word-index l.others))
