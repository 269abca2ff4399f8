use Rattle.std.proofs.Common.{◌≡◌, ◌∙◌, sym, ap}
use Rattle.nomos_ir.specs.Bindings.{bound_to}
use Rattle.nomos_ir.specs.Value.{Value}
use Rattle.nomos_machine.specs.Revised.{list_used_up, standing_at, with_list, with_value}
use Rattle.nomos_machine.specs.declared.object.PotentialList.{PotentialList}
use Rattle.nomos_machine.specs.declared.object.Process.{Process}
use Rattle.nomos_changes.specs.SmallChanges.{with_process}
use Rattle.nomos_changes.proofs.BecomesLemmas.{on_ok}
use Rattle.nomos_changes.proofs.MadeLemmas.{one-some}
use Rattle.nomos_changes.proofs.RevisionLemmas.{parted-into}
use Rattle.nomos_changes.proofs.revising.take_apart.Goals as goal

pub returns-clause-ok : goal.returns-clause-ok
returns-clause-ok g c p q there makes =
    let s = g.P.Sight.state c.args.parts.now in
    let (w, head, tail) = c.args.list in
    let into = parted-into w head tail p q makes in
    let row = c.lists.ensures p there in
    let told = c.in_ok-first.ensures into.list into.first into.rest (ap (bound_to w.0) row ∙ into.found) into.items in
    let found : Value × PotentialList = (c.in-Some.first, c.in-Some.rest) in
    let parts : found ≡ (into.first, record into.list { items = into.rest }) = one-some _ _ (sym c.in-Some.is ∙ told) in
    let turned : Value × PotentialList → Process = λ e. with_value head e.0 (with_list tail e.1 (list_used_up w p)) in
    on_ok c.go_on_with.result
    (λ becomes. becomes p there
    ∙ ap (λ (q : Process). with_process c.args.pid (standing_at c.args.next q) s) (ap turned parts ∙ into.becomes))
    c.go_on_with.ensures.ok

pub returns-in_default-clause-ok : goal.returns-in_default-clause-ok
returns-in_default-clause-ok g c p q there makes =
    let (w, head, tail) = c.args.list in
    let into = parted-into w head tail p q makes in
    let row = c.lists.ensures p there in
    let told = c.in_ok-first.ensures into.list into.first into.rest (ap (bound_to w.0) row ∙ into.found) into.items in
    let none = c.in_default.is in
    absurd cc
