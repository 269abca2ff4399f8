use Rattle.std.proofs.Common.{ap, sym, ◌∙◌, map}
use Rattle.nomos_elaborate.specs.Scope.{Scope, bind}
use Rattle.nomos_elaborate.specs.mirror.Checked.{found}
use Rattle.nomos_elaborate.proofs.ScopeTables.{insert-bind}
use Rattle.nomos_elaborate.proofs.scope.Scope.bind.Goals as goal

pub returns : goal.returns
returns c =
    ap found (sym (ap (map (λ e. (e.0.items, e.1))) c.in_ok-insert.ensures.entries
    ∙ insert-bind (λ k. k.items) c.in_ok-text.text c.args.sort c.args.name.now
    (c.in_ok-text.ensures.items ∙ c.as_bytes.ensures) c.self.inside.bound.entries
    ∙ ap (λ (scope : Scope). bind scope c.args.name.now c.args.sort) c.self.view_is))
