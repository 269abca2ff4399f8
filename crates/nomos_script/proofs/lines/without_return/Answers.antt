-- The last byte is a carriage return, or it is not.
use Rattle.std.proofs.Common.{sym}
use Rattle.nomos_script.proofs.LineLemmas.{without_return-return, without_return-plain}
use Rattle.nomos_script.proofs.lines.without_return.Goals as goal

pub returns-then-last-eq13 : goal.returns-then-last-eq13
returns-then-last-eq13 c = sym (without_return-return c.args.line.now c.in-len1-up.len_at_least c.if-last-eq13.true)

pub returns-else-last-eq13 : goal.returns-else-last-eq13
returns-else-last-eq13 c = sym (without_return-plain c.args.line.now c.if-last-eq13.false)
