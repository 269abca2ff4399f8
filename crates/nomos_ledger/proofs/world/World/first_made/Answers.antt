use Rattle.std.proofs.Common.{◌∙◌, sym, ap}
use Rattle.std.specs.Option.{option_map}
use Rattle.nomos_ledger.proofs.WorldLemmas.{behind-taken}
use Rattle.nomos_ledger.proofs.world.World.first_made.Goals as goal

pub returns : goal.returns
returns g c =
    rw (← c.self.view_is)
    (c.shared_at.ensures
    ∙ ap (option_map (λ e. e.1)) (sym (behind-taken c.self.inside.kept c.self.inside.books.now.contracts)))
