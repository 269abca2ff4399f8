-- No cells are no lists.
use Rattle.std.proofs.Common.{refl}
use Rattle.nomos_eval.specs.mirror.EvalScope.{scopes_of}
use Rattle.nomos_eval.proofs.scopes.Scopes.new.Goals as goal

pub returns : goal.returns
unfolding scopes_of
returns c = rw c.new.ensures.items refl
