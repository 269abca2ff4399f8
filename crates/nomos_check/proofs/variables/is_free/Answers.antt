use Rattle.std.proofs.Common.{◌∙◌, sym}
use Rattle.nomos_check.proofs.FoundLemmas.{free-exactly, list-not_free}
use Rattle.nomos_check.proofs.variables.is_free.Goals as goal

pub returns-then-is_some-2 : goal.returns-then-is_some-2
returns-then-is_some-2 c =
    let some = sym c.is_some-2.ensures ∙ c.if-is_some-2.true in
    (λ no. absurd cc, λ free. absurd (list-not_free c.args.now.now c.args.v _ c.get-2.ensures some free))

pub returns : goal.returns
returns c =
    free-exactly c.args.now.now c.args.v _ _ _ _ _ c.get.ensures c.get-2.ensures c.get-3.ensures c.get-4.ensures
    (sym c.is_some.ensures ∙ c.if-is_some.false) (sym c.is_some-2.ensures ∙ c.if-is_some-2.false)
    (sym c.is_some-3.ensures ∙ c.if-is_some-3.false) c.is_none.ensures
