use Rattle.std.proofs.Common.{pos, int_lt, length, map, get_or, ◌∙◌}
use Rattle.nomos_simplex.specs.LowestVariable.{lowest_place}
use Rattle.nomos_simplex.proofs.KeepingLemmas.{leaving_shown}
use Rattle.nomos_simplex.proofs.choosing.leaving.Goals as goal

pub returns-clause-choice : goal.returns-clause-choice
returns-clause-choice c = λ rows h.
    let table = c.args.kept.now.table in
    c.leaving_of.ensures.choice
    ∙ (λ p. lowest_place (λ i. int_lt (get_or (c.as_slice.ensures p) i (pos 0)) (pos 0))
    (λ i. get_or (map (λ line. line.basic) (c.as_slice-2.ensures p)) i 0) (length (c.as_slice-2.ensures p)))
    ∙ leaving_shown rows c.args.kept.now h
