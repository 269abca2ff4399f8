use Rattle.std.proofs.Common.{◌∙◌, sym, arith}
use Rattle.nomos_ledger_tests.proofs.OpeningLemmas.{opened-may_fire}
use Rattle.nomos_ledger_tests.proofs.opening.machine_with.Goals as goal

pub returns-clause-may : goal.returns-clause-may
returns-clause-may g c =
    opened-may_fire c.args.accepted.now (g.M.Sight.state c.empty-machine.result)
    (g.M.Sight.state c.open_account.new.self) c.from.result c.empty-machine.ensures.state (omega arith)
    c.open_account.result c.open_account.ensures.ok (sym c.is_err.ensures.value ∙ c.if-is_err.false)
