-- What stands at the first place of the variable is what it is bound to.
use Rattle.std.proofs.Common.{sym}
use Rattle.nomos_eval.proofs.AscendingLemmas.{first-bound, none-bound}
use Rattle.nomos_eval.proofs.around.bound_value.Goals as goal

pub returns-in-Some : goal.returns-in-Some
returns-in-Some c =
    sym (first-bound c.args.env.now c.args.v c.in-Some.place c.index-env-place.result c.in-Some.ensures)

pub returns-in-None : goal.returns-in-None
returns-in-None c = sym (none-bound c.args.env.now c.args.v c.in-None.ensures)
