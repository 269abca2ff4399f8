use Rattle.std.proofs.Common.{◌≡◌, map, ◌-ℤ◌}
use Rattle.std.specs.List.{range_with_len}
use Rattle.nomos_forms.specs.mirror.StarCounts.{count_in}
use Rattle.nomos_forms.proofs.counts.counts.Given as goal

-- the stars so far
abbrev pub invariant-loop-before : goal.invariant-loop-before
invariant-loop-before l =
    l.list.items ≡ map (λ star. count_in l.more star -ℤ count_in l.less star) (range_with_len 1 l.before)
