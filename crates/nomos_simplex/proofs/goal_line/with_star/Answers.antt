use Rattle.std.proofs.Common.{◌≡◌, ◌==◌, ℤ, length, find, Option, IfOk, Some, ap, sym, subst, ◌∙◌}
use Rattle.std.specs.Int.{w64}
use Rattle.std.proofs.lemmas.Int.{to_z-of_z}
use Rattle.nomos_simplex.specs.Divisors.{in_lowest_terms}
use Rattle.nomos_simplex.specs.GoalLine.{with_added, if_small, itself, line_or_itself}
use Rattle.nomos_simplex.specs.Sizes.{IsLine, IsLowest}
use Rattle.nomos_simplex.specs.declared.table.TableLine.{TableLine}
use Rattle.nomos_simplex.proofs.AmountLemmas.{found_passes}
use Rattle.nomos_simplex.proofs.DivisorLemmas.{common_one}
use Rattle.nomos_simplex.proofs.GoalLineLemmas.{itself-is_line}
use Rattle.nomos_simplex.proofs.goal_line.with_star.Goals as goal

pub added-requires-clause-star : goal.added-requires-clause-star
added-requires-clause-star c =
    let found = c.in-Some.ensures ∙ ap (find (λ (l : TableLine). l.basic == c.args.star)) c.as_slice.ensures in
    subst (λ n. IsLine n c.in-Some.own.now) (sym c.requires.line.width)
    (found_passes (IsLine (length c.args.table.now.nonbasic)) (λ (l : TableLine). l.basic == c.args.star)
    c.args.table.now.lines c.in-Some.own.now c.requires.lines (sym found)).0

pub added-requires-clause-lowest_star : goal.added-requires-clause-lowest_star
added-requires-clause-lowest_star c =
    let found = c.in-Some.ensures ∙ ap (find (λ (l : TableLine). l.basic == c.args.star)) c.as_slice.ensures in
    (found_passes IsLowest (λ (l : TableLine). l.basic == c.args.star) c.args.table.now.lines c.in-Some.own.now
    c.requires.lowest (sym found)).0

pub added-requires-in-None-clause-star : goal.added-requires-in-None-clause-star
added-requires-in-None-clause-star c =
    let vs = c.args.table.now.nonbasic in
    let is = c.in_ok-itself-in-None.ensures ∙ ap (λ xs. itself xs c.args.star) c.as_slice-in-None.ensures in
    subst (IsLine (length c.args.line.now.coefs)) (sym is)
    (subst (λ n. IsLine n (itself vs c.args.star)) (sym c.requires.line.width) (itself-is_line vs c.args.star))

pub added-requires-in-None-clause-lowest_star : goal.added-requires-in-None-clause-lowest_star
added-requires-in-None-clause-lowest_star c =
    let line = itself c.as_slice-in-None.result.now c.args.star in
    subst IsLowest (sym c.in_ok-itself-in-None.ensures) (common_one line.coefs)

pub returns-in-Some : goal.returns-in-Some
returns-in-Some c =
    let n = c.args.count in
    let line = c.args.line.now in
    let found = c.in-Some.ensures ∙ ap (find (λ (l : TableLine). l.basic == c.args.star)) c.as_slice.ensures in
    let is = ap (line_or_itself c.args.table.now.nonbasic c.args.star) found in
    subst (λ (l : TableLine). IfOk c.added.result (λ (made : Option TableLine). made ≡ if_small
    (in_lowest_terms (with_added n l line)) (λ x. Some x))) is
    (subst (λ (m : ℤ). IfOk c.added.result (λ (made : Option TableLine). made ≡ if_small
    (in_lowest_terms (with_added m c.in-Some.own.now line)) (λ x. Some x))) (to_z-of_z w64 n c.ranges.count)
    c.added.ensures)
