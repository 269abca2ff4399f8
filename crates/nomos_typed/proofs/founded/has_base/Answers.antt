use Rattle.nomos_typed.proofs.FoundedLemmas.{based-exact}
use Rattle.nomos_typed.proofs.founded.has_base.Goals as goal

pub returns-in-Some : goal.returns-in-Some
returns-in-Some c =
    let exact = based-exact c.args.told.now c.requires c.args.process.now c.in-Some.base c.in-Some.is in (
      λ yes.
          let parts = c.both.ensures.0 yes in
          exact.0 (c.is_mode.ensures.0 parts.0, c.name_has_mode-is_shared.ensures.0 parts.1),
      λ has.
          let parts = exact.1 has in
          c.both.ensures.1 (c.is_mode.ensures.1 parts.0, c.name_has_mode-is_shared.ensures.1 parts.1),
    )
