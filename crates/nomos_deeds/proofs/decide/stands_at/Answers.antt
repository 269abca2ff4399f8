-- The process of the number stands where what is seen of it does.
use Rattle.std.proofs.Common.{◌∙◌, Some, sym, ap, option_copied}
use Rattle.nomos_deeds.specs.declared.sight.SeenProcess.{SeenProcess}
use Rattle.nomos_deeds.proofs.DecisionLemmas.{seen-is, stands-seen}
use Rattle.nomos_deeds.proofs.decide.stands_at.Goals as goal

pub returns-clause-found : goal.returns-clause-found
returns-clause-found g c p there =
    let s = g.S.Sight.state c.args.sight.now in
    let sees = sym c.in_ok-seen.was ∙ c.process.ensures in (
      ap (λ (q : SeenProcess). q.code) (seen-is s c.args.pid p c.in_ok-seen.seen there sees),
      stands-seen c.args.accepted.now s c.args.pid p c.in_ok-seen.seen (Some c.in_ok-node.node.now) there sees
          (sym c.code_at.ensures.found ∙ ap option_copied c.in_ok-node.was),
    )

pub returns-clause-amounts : goal.returns-clause-amounts
returns-clause-amounts g c = c.code_at.ensures.amounts c.in_ok-node.node.now (ap option_copied c.in_ok-node.was)
