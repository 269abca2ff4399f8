-- What is made is renumbered, and stands as it stood.
use Rattle.nomos_answers.proofs.SourceLemmas.{if_ok-map}
use Rattle.nomos_carrying.proofs.DenseLemmas.{parts-named, parts-renumbered, parts-sorted}
use Rattle.nomos_carrying.proofs.dense.dense_parts.Goals as goal

pub returns-clause-dense : goal.returns-clause-dense
returns-clause-dense c =
    if_ok-map c.parts.result _ _
    (λ made is. parts-renumbered c.args.parts made c.in_ok-numbers.numbers c.requires.sorted c.in_ok-numbers.ensures is)
    c.parts.ensures

pub returns-clause-sorted : goal.returns-clause-sorted
returns-clause-sorted c =
    if_ok-map c.parts.result _ _
    (λ made r. parts-sorted c.args.parts made c.requires.sorted r) (returns-clause-dense c)

pub returns-clause-named : goal.returns-clause-named
returns-clause-named c =
    if_ok-map c.parts.result _ _
    (λ made r. parts-named c.args.parts made c.requires.named r) (returns-clause-dense c)
