-- Nothing is bound yet.
use Rattle.std.proofs.Common.{refl}
use Rattle.nomos_eval.proofs.BeginLemmas.{begun}
use Rattle.nomos_eval.proofs.evaluation.begin.Goals as goal

pub returns : goal.returns
returns c =
    begun c.args.t c.args.env.now (record { env = c.args.env; known = c.args.known }) c.new-scopes.result
    c.add_nothing.new.self c.in_ok-variables.variables c.push.new.self c.new-todo.result c.new.result c.new-2.result
    refl c.requires c.new-scopes.ensures c.in_ok-variables.ensures.0 c.in_ok-variables.ensures.1
    c.new-todo.ensures c.in_ok-push.ensures c.new.ensures c.new-2.ensures
