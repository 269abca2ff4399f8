use Rattle.std.proofs.Common.{ap, sym, ◌∙◌, map, take}
use Rattle.std.proofs.lemmas.List.{take-map}
use Rattle.nomos_elaborate.specs.Scope.{Scope}
use Rattle.nomos_elaborate.proofs.scope.Scope.keep.Goals as goal

pub returns : goal.returns
returns c =
    ap (map (λ e. (e.0.items, e.1))) c.truncate.ensures.entries
    ∙ sym (take-map (λ e. (e.0.items, e.1)) c.args.count c.self.inside.bound.entries)
    ∙ ap (λ (scope : Scope). take c.args.count scope) c.self.view_is
