use Rattle.std.proofs.Common.{◌∙◌, length}
use Rattle.nomos_ledger.proofs.BeginLemmas.{begun-under_way, begun-world_stands}
use Rattle.nomos_ledger.proofs.ledger.Ledger.begin_with.Goals as goal

pub invariant_of-result : goal.invariant_of-result
invariant_of-result g c =
    let accepted = rw c.accepted.ensures at c.know.ensures.accepted in
    let stands = rw (← c.self.view_is) at c.requires.stands in
    begun-under_way accepted c.in-Ok.ensures.starts stands c.self.invariant.ledger c.len-kept.result
    (c.len-kept.ensures ∙ (λ i. length (c.books.view_is i).now.contracts))

pub returns-in-Ok-clause-stands : goal.returns-in-Ok-clause-stands
returns-in-Ok-clause-stands g c =
    let accepted = rw c.accepted.ensures at c.know.ensures.accepted in
    let stands = rw (← c.self.view_is) at c.requires.stands in
    begun-world_stands accepted c.in-Ok.ensures.starts stands c.self.invariant.ledger c.len-kept.result
    (c.len-kept.ensures ∙ (λ i. length (c.books.view_is i).now.contracts))
    c.none.result c.none.ensures.firings c.none.ensures.places
