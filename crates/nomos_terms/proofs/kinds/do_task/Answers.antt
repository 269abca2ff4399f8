-- A term without a kind leads to none.
use Rattle.std.proofs.Common.{sym, subst}
use Rattle.std.specs.Result.{IsErrOf}
use Rattle.nomos_terms.specs.declared.search.Task.{Task}
use Rattle.nomos_terms.specs.mirror.Left.{IsVain, no_kind}
use Rattle.nomos_terms.proofs.kinds.do_task.Goals as goal

pub returns-in-Term-clause-vain : goal.returns-in-Term-clause-vain
returns-in-Term-clause-vain c =
    let P : Task → Type 0 = λ task. IsErrOf c.enter.result no_kind
    → IsVain c.args.program.now c.args.outer.now task c.args.search.now in
    subst P (sym c.in-Term.is) c.enter.ensures.vain
