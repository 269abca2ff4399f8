use Rattle.std.proofs.Common.{rules, FitsSigned}
use Rattle.std.specs.Int.{w128}
use Rattle.std.proofs.lemmas.Int.{quot_is, quot_fits}
use Rattle.nomos_simplex.proofs.divisors.quotient.Goals as goal

pub returns : goal.returns
returns c =
    let a : FitsSigned w128 c.args.number = search rules in
    let d : FitsSigned w128 c.args.by = search rules in
    quot_is w128 c.args.number c.args.by a d (quot_fits w128 c.args.number c.args.by a c.requires)
