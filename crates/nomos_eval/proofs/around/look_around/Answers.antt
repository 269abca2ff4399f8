-- What is found is the value of the variable.
use Rattle.std.proofs.Common.{subst}
use Rattle.nomos_ir.specs.Value.{Value}
use Rattle.nomos_eval.specs.mirror.Load.{IsLoaded}
use Rattle.nomos_eval.proofs.AroundLemmas.{looked-vain, looked-there}
use Rattle.nomos_eval.proofs.around.look_around.Goals as goal

pub returns-in_default : goal.returns-in_default
returns-in_default c =
    looked-vain c.args.around.now c.args.lists.now c.args.v c.requires c.in_default.ensures

pub returns : goal.returns
returns c =
    let P : Value → Type 0 = λ w. IsLoaded c.args.lists.now c.load.new.lists w c.in_ok-found.found in
    looked-there c.args.around.now c.args.lists.now c.load.new.lists c.args.v c.in-Some.place c.rising-around.result
    c.index-env-place.result c.in_ok-found.found c.in-Some.ensures c.rising-around.ensures
    (subst P c.node.ensures c.in_ok-found.ensures)
