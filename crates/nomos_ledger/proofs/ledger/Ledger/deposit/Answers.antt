use Rattle.std.proofs.Common.{◌≡◌, ◌∙◌, ◌+◌, ◌^◌, ◌<◌, subst, ℕ}
use Rattle.nomos_legal.proofs.NamedLaws.{deposited-named}
use Rattle.nomos_legal.proofs.SettledLaws.{deposited-stands}
use Rattle.nomos_ledger.proofs.ledger.Ledger.deposit.Goals as goal

pub invariant_of-self-2 : goal.invariant_of-self-2
invariant_of-self-2 g c =
    let few = rw (← c.self.view_is) at c.requires.accounts in
    rw (c.in_ok-deposit.ensures.ok, c.from.ensures, c.from-2.ensures, c.unit.ensures) (record {
      ledger =
          deposited-named c.args.accepted.now.annotations.unit c.self.inside.books.now c.args.name.now c.args.units few
          c.self.invariant.ledger;
      unmarked = c.self.invariant.unmarked;
    })

pub returns-clause-stands : goal.returns-clause-stands
returns-clause-stands g c =
    let stands = rw (← c.self.view_is) at c.requires.stands in
    let sum : c.in-Some.deposits ≡ c.self.inside.books.now.deposits + c.args.units =
    c.in-Some.ensures.1 ∙ (λ i. (c.self-inside.view_is i).books.now.deposits + c.args.units) in
    let fits = subst (λ (n : ℕ). n < 2 ^ 64) (λ i. (c.self-inside.view_is i).books.now.deposits + c.args.units)
    c.in-Some.ensures.0 in
    rw (c.in_ok-deposit.ensures.ok, sum, c.from.ensures, c.from-2.ensures, c.unit.ensures)
    (deposited-stands c.know.ensures.accepted {l = c.self.inside.books.now} c.self.invariant.ledger
    c.args.name.now c.args.units fits stands)
