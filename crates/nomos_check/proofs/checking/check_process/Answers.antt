use Rattle.std.proofs.Common.{subst}
use Rattle.nomos_ir.specs.Amounts.{star_count}
use Rattle.nomos_equality.specs.Comparing.{Compared}
use Rattle.nomos_check.proofs.ConcludingLemmas.{joined-answers}
use Rattle.nomos_check.specs.Checking.{NeedsBeside}
use Rattle.nomos_check.proofs.checking.check_process.Goals as goal

pub returns : goal.returns
returns c = λ d found.
    let lists = c.args.program.now in
    let checked = c.in_ok-checked.checked in
    let new = c.check_process_with.new.equalities in
    let Needs : Compared → Type 0 = λ k. NeedsBeside lists (star_count lists) d k new checked.forms checked.pairs in
    joined-answers c.args.p.0 d c.requires.formed found new checked c.all_pairs.result c.all_pairs.ensures
    (subst Needs c.new-equalities.ensures (c.in_ok-checked.ensures.answers d found))
