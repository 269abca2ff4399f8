use Rattle.std.proofs.Common.{◌≡◌, ◌+◌, [], ◌∷◌, ◌++◌, map, ap, sym, ◌∙◌, arith}
use Rattle.std.specs.List.{range_with_len}
use Rattle.nomos_simplex.specs.mirror.Classes.{class_of_star}
use Rattle.nomos_simplex.proofs.KeepingLemmas.{map_behind}
use Rattle.nomos_simplex.proofs.SolveLemmas.{range_more}
use Rattle.nomos_simplex.proofs.classes.classes_of_stars.Goals as goal

pub loop-before-preserved : goal.loop-before-preserved
loop-before-preserved c =
    let before = c.loop-before.before in
    let from = c.from-star.ensures in
    let star : c.from-star.result + 1 ≡ 1 + before = omega (arith, from) in
    c.in_ok-push.ensures.items
    ∙ (λ p. c.loop-before.invariant p ++ class_of_star (star p) ∷ [])
    ∙ sym (ap (map class_of_star) (range_more 1 before) ∙ map_behind class_of_star (range_with_len 1 before)
    (1 + before))
