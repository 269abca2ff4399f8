use Rattle.std.proofs.Common.{rules, IsTrue, not, ap, sym, ◌∙◌}
use Rattle.nomos_simplex.proofs.KeepingLemmas.{numbers_small}
use Rattle.nomos_simplex.proofs.sizes.is_too_large.Goals as goal

pub returns-else-not-small : goal.returns-else-not-small
returns-else-not-small c =
    let is : IsTrue c.args.small = search rules in
    ap not c.if-not-small.false ∙ sym (numbers_small c.args.line.now (c.requires is))
