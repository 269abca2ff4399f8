use Rattle.std.proofs.Common.{◌∙◌, Some, sym, ap, option_copied}
use Rattle.nomos_ir.specs.CodeParts.{code_terms}
use Rattle.nomos_ir.specs.TermsEvaluation.{terms_of}
use Rattle.nomos_deeds.proofs.DecisionLemmas.{stands-seen, none-told}
use Rattle.nomos_deeds.proofs.outcomes.code_with_terms.Goals as goal

pub returns-else-has_terms-clause-none : goal.returns-else-has_terms-clause-none
returns-else-has_terms-clause-none g c none p there =
    let node = c.in_ok-node.node.now in
    ap terms_of
    (stands-seen c.args.accepted.now (g.S.Sight.state c.args.sight.now) c.args.pid p c.in_ok-seen.seen (Some node) there
    (sym c.in_ok-seen.was ∙ c.process.ensures) (sym c.code_at.ensures.found ∙ ap option_copied c.in_ok-node.was))
    ∙ none-told c.has_terms.result (code_terms node) c.has_terms.ensures c.if-has_terms.false
