use Rattle.std.proofs.Common.{◌≡◌, map, take}
use Rattle.nomos_types.specs.mirror.ModeSetting.{with_modes}
use Rattle.nomos_types.proofs.mode_table.set_branches.Given as goal

-- the branches so far
abbrev pub invariant-loop-branch : goal.invariant-loop-branch
invariant-loop-branch l =
    l.modes ≡ with_modes (map (λ b. (b.goes, l.mode)) (take l.branch-index l.branches)) l.initial.modes
