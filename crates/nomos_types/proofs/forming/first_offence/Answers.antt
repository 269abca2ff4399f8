use Rattle.std.proofs.Common.{◌≡◌, sym, subst, ap, ◌∙◌, Option, MatchOption, ℕ}
use Rattle.nomos_types.specs.Forming.{IsFirstOffence}
use Rattle.nomos_types.specs.Modes.{ObeysModes}
use Rattle.nomos_types.specs.mirror.Least.{lesser}
use Rattle.nomos_types.proofs.OffenceLaws.{first-offence}
use Rattle.nomos_types.proofs.forming.first_offence.Goals as goal

-- the lesser of the three is the answer
pub returns : goal.returns
returns c =
    let lists = c.args.program.now in
    let a = c.first_forbidden-forbidden.result in
    let b = c.first_not_held_in_all-not_held.result in
    let t = c.first_of_transactions-of_transactions.result in
    let is : c.lesser-2.result ≡ lesser (lesser a b) t = c.lesser-2.ensures
    ∙ ap (λ (o : Option ℕ). lesser o t) c.lesser.ensures in
    let answer = first-offence lists c.first_forbidden-forbidden.ensures.program a b t
    c.first_forbidden-forbidden.ensures.least c.first_not_held_in_all-not_held.ensures
    c.first_of_transactions-of_transactions.ensures in
    subst (λ (o : Option ℕ). MatchOption o (ObeysModes lists) (λ at. IsFirstOffence lists at)) (sym is) answer
