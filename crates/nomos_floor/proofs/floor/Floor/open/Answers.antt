use Rattle.std.proofs.Common.{◌≡◌, Some, [], ◌∷◌, ◌++◌, ap, ◌∙◌}
use Rattle.nomos_floor.proofs.Ends.{opens}
use Rattle.nomos_floor.proofs.floor.Floor.open.Goals as goal

pub new-requires : goal.new-requires
new-requires g c =
    let start = g.W.Shared.start in
    let history = g.W.Shared.history in
    let slots : c.push_reserved.new.self.items
    ≡ Some c.args.work ∷ [] = c.push_reserved.ensures.items
    ∙ ap (λ l. l ++ Some c.args.work ∷ []) c.in-Ok.ensures.items in
    rw (c.of-opened.ensures, slots) (opens start history c.args.work c.requires)
