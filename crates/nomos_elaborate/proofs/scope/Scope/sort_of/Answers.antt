use Rattle.std.proofs.Common.{ap, ◌∙◌}
use Rattle.nomos_elaborate.specs.Scope.{Scope, sort_of}
use Rattle.nomos_elaborate.proofs.ScopeTables.{lookup-sort_of}
use Rattle.nomos_elaborate.proofs.scope.Scope.sort_of.Goals as goal

pub returns : goal.returns
returns c =
    c.copied.ensures ∙ c.get.ensures.value ∙ lookup-sort_of (λ k. k.items) c.args.text.now c.self.inside.bound.entries
    ∙ ap (λ (scope : Scope). sort_of scope c.args.text.now) c.self.view_is
