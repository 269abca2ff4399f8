-- A word behind a blank is one word more.
use Rattle.nomos_snapshot.specs.mirror.WrittenWords.{word_text}
use Rattle.nomos_snapshot.proofs.WritingLemmas.{word-written}
use Rattle.nomos_snapshot.proofs.line_writing.push_words.Goals as goal

pub loop-word-preserved : goal.loop-word-preserved
loop-word-preserved c =
    word-written word_text c.args.text.now.items c.loop-word.text.items c.push.new.self.items c.push_word.new.text.items
    c.args.first.now c.args.others.now c.loop-word.word-index c.word-item.result c.loop-word-test.true c.word-item.is
    c.loop-word.invariant c.in_ok-push.ensures.items c.in_ok-push_word.ensures
