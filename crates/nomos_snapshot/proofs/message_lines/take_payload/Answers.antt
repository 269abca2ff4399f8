-- What is two words is neither of those that are one.
use Rattle.std.proofs.Common.{◌∷◌, List, ℕ, ap, ◌∙◌}
use Rattle.std.proofs.lemmas.Bool.{false≢true}
use Rattle.nomos_snapshot.proofs.MessageLemmas.{brought-reads}
use Rattle.nomos_snapshot.proofs.message_lines.take_payload.Goals as goal

pub returns-in-Some-next_word : goal.returns-in-Some-next_word
returns-in-Some-next_word c = λ lists same.
    brought-reads lists c.args.words.now c.in-Some.kind.now c.in-Some-next_word.word.now c.next_word-2.new.self
    c.read_brought.result
    (c.in-Some.ensures ∙ ap (λ (ws : List (List ℕ)). c.in-Some.kind.now ∷ ws) c.in-Some-next_word.ensures)
    (λ e. false≢true (c.if-is_word.ensures.1 e)) (λ e. false≢true (c.if-is_word-2.ensures.1 e))
    (c.read_brought.ensures lists same)
