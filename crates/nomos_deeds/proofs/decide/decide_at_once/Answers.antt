use Rattle.std.proofs.Common.{◌≡◌, ◌∙◌, [], sym}
use Rattle.nomos_ir.specs.CodeParts.{code_terms}
use Rattle.nomos_deeds.proofs.DecisionLemmas.{deed-without_terms, none-told}
use Rattle.nomos_deeds.proofs.decide.decide_at_once.Goals as goal

pub returns-clause-decides : goal.returns-clause-decides
returns-clause-decides g c p there stands =
    let node = c.args.node.now in
    let none : code_terms node ≡ [] =
    none-told c.has_terms.result (code_terms node) c.has_terms.ensures c.if-has_terms.false in
    c.deed_at_node-doing.ensures.decides p there stands
    ∙ sym (deed-without_terms c.args.accepted.now (g.S.Sight.state c.args.sight.now) p node c.empty-values.result stands
    none c.empty-values.ensures)
