-- The byte is a token by itself.
use Rattle.nomos_script.proofs.ScanLemmas.{tokens_of-plain}
use Rattle.nomos_script.proofs.tokens.behind.Goals as goal

pub returns-in-len1-up : goal.returns-in-len1-up
returns-in-len1-up c =
    tokens_of-plain c.args.line.now c.args.byte c.in-len1-up.len_at_least c.if-first-byte.true c.requires
