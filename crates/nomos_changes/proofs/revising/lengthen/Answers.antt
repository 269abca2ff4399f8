use Rattle.std.proofs.Common.{◌≡◌, ◌∙◌, sym, ap}
use Rattle.nomos_ir.specs.Bindings.{bound_to}
use Rattle.nomos_ir.specs.ValueNode.{value_of}
use Rattle.nomos_machine.specs.Deeds.{lengthened}
use Rattle.nomos_machine.specs.Revised.{list_used_up, standing_at, with_list}
use Rattle.nomos_machine.specs.declared.object.PotentialList.{PotentialList}
use Rattle.nomos_machine.specs.declared.object.Process.{Process}
use Rattle.nomos_changes.specs.SmallChanges.{with_process}
use Rattle.nomos_changes.proofs.BecomesLemmas.{on_ok}
use Rattle.nomos_changes.proofs.MadeLemmas.{one-some}
use Rattle.nomos_changes.proofs.RevisionLemmas.{longer-into}
use Rattle.nomos_changes.proofs.revising.lengthen.Goals as goal

pub returns-clause-ok : goal.returns-clause-ok
returns-clause-ok g c p q there makes =
    let s = g.P.Sight.state c.args.parts.now in
    let (v, w, first) = c.args.added in
    let into = longer-into v w first p q makes in
    let row = c.lists.ensures p there in
    let told = c.in_ok-list.ensures into.list (ap (bound_to w.0) row ∙ into.found) in
    let is : c.in-Some.list ≡ lengthened (value_of first) into.list = one-some _ _ (sym c.in-Some.is ∙ told) in
    let turned : PotentialList → Process = λ l. with_list v l (list_used_up w p) in
    on_ok c.go_on_with.result
    (λ becomes. becomes p there
    ∙ ap (λ (q : Process). with_process c.args.pid (standing_at c.args.next q) s) (ap turned is ∙ into.becomes))
    c.go_on_with.ensures.ok

pub returns-in_default-clause-ok : goal.returns-in_default-clause-ok
returns-in_default-clause-ok g c p q there makes =
    let (v, w, first) = c.args.added in
    let into = longer-into v w first p q makes in
    let row = c.lists.ensures p there in
    let told = c.in_ok-list.ensures into.list (ap (bound_to w.0) row ∙ into.found) in
    let none = c.in_default.is in
    absurd cc
