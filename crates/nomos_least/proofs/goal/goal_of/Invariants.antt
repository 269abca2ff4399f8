use Rattle.std.proofs.Common.{◌≡◌, take}
use Rattle.nomos_check.specs.Account.{form_of, no_account}
use Rattle.nomos_ir.specs.Amounts.{star_count}
use Rattle.nomos_least.specs.Goal.{gains_all}
use Rattle.nomos_least.proofs.goal.goal_of.Given as goal

-- what the declarations so far declare is gained
abbrev pub invariant-loop-declaration : goal.invariant-loop-declaration
invariant-loop-declaration l =
    l.sum ≡ form_of (star_count l.program) (gains_all (take l.declaration-index l.program.procs) no_account)
