-- A label is what its tokens say.
use Rattle.nomos_script.proofs.TalkFormLemmas.{label_read}
use Rattle.nomos_script.proofs.talk_line.read_label.Goals as goal

pub returns-clause-read : goal.returns-clause-read
returns-clause-read c =
    rw c.in_ok-copied.ensures (label_read c.in_ok-name.name.now c.args.tokens.now c.name.new.self
    c.in_ok-name.ensures.name.0 c.in_ok-name.ensures.name.1 c.in_ok-end.ensures.end)
