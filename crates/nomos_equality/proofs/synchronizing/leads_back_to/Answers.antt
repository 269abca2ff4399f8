use Rattle.std.proofs.Common.{List, subst, sym}
use Rattle.nomos_ir.specs.declared.amount.Amount.{Amount}
use Rattle.nomos_equality.specs.SyncAnswer.{SynchronizesWith}
use Rattle.nomos_equality.specs.declared.synchronizing.Synced.TheVariants as synced
use Rattle.nomos_equality.proofs.SyncLaws.{synced-exact, sync-answered}
use Rattle.nomos_equality.proofs.synchronizing.leads_back_to.Goals as goal

pub returns-in_ok-pairs-in-Equal-clause-answers : goal.returns-in_ok-pairs-in-Equal-clause-answers
returns-in_ok-pairs-in-Equal-clause-answers c =
    let finds = rw c.new-equalities.ensures at (rw c.in-Equal.is at c.in_ok-leads_back_with.ensures.answers) in
    subst (λ (pairs : List (Amount × Amount)). SynchronizesWith c.args.program.now c.args.from c.args.shared pairs)
    (sym c.in_ok-pairs-in-Equal.ensures)
    (sync-answered c.args.program.now c.args.from c.args.shared c.leads_back_with.new.equalities
    c.in_ok-leads_back_with.ensures.compared finds)

pub returns-in_ok-pairs-in-Equal-clause-exact : goal.returns-in_ok-pairs-in-Equal-clause-exact
returns-in_ok-pairs-in-Equal-clause-exact c =
    λ x.
    synced-exact c.args.program.now c.args.from c.args.shared (synced.Yes c.in_ok-pairs-in-Equal.pairs) x
    (returns-in_ok-pairs-in-Equal-clause-answers c)

pub returns-in-Different-clause-exact : goal.returns-in-Different-clause-exact
returns-in-Different-clause-exact c =
    let offends = rw c.in-Different.is at c.in_ok-leads_back_with.ensures.answers in
    λ x. synced-exact c.args.program.now c.args.from c.args.shared (synced.No c.in-Different.path) x offends
