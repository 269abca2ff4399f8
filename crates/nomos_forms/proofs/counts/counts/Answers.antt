use Rattle.std.proofs.Common.{ℤ, List, ◌+◌, [], ◌∷◌, ◌++◌, arith, rules, sym, ◌∙◌, ◌-ℤ◌, FitsSigned}
use Rattle.std.specs.Int.{w64}
use Rattle.std.proofs.lemmas.Int.{to_z-of_z}
use Rattle.std.proofs.lemmas.List.FromFn.{map-range_with_len_more}
use Rattle.nomos_forms.specs.mirror.StarCounts.{count_in}
use Rattle.nomos_forms.proofs.counts.counts.Goals as goal

-- one star more
pub loop-before-preserved : goal.loop-before-preserved
loop-before-preserved c =
    let before = c.loop-before.before in
    let count = c.count_between in
    let fits : FitsSigned w64 count.result = search rules in
    ◌∙◌ {A = List ℤ} c.in_ok-push.ensures.items
    (◌∙◌ {A = List ℤ} (λ p. c.loop-before.invariant p ++ (to_z-of_z w64 count.result fits ∙ count.ensures) p ∷ [])
    (sym (map-range_with_len_more (λ star. count_in c.args.more star -ℤ count_in c.args.less star) 1 before (before + 1)
    (omega arith))))
