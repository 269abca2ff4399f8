-- The tokens that were found stand for the text, so they are the longest, and it comes apart into them.
use Rattle.nomos_syntax.proofs.TokenLaws.{stand_longest, stand_apart}
use Rattle.nomos_syntax.proofs.scan.tokens.Goals as goal

pub returns-in-Ok-clause-longest : goal.returns-in-Ok-clause-longest
returns-in-Ok-clause-longest c = stand_longest c.args.text.now c.in-Ok.tokens c.in-Ok.ensures

pub returns-in-Ok-clause-apart : goal.returns-in-Ok-clause-apart
returns-in-Ok-clause-apart c = stand_apart c.args.text.now c.in-Ok.tokens c.in-Ok.ensures
