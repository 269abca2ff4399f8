use Rattle.std.proofs.Common.{◌≡◌, map, take}
use Rattle.nomos_types.specs.mirror.ModeSetting.{with_modes}
use Rattle.nomos_types.proofs.mode_table.set_bodies.Given as goal

-- the definitions so far
abbrev pub invariant-loop-def : goal.invariant-loop-def
invariant-loop-def l =
    l.modes ≡ with_modes (map (λ d. (d.body, d.mode)) (take l.def-index l.lists.defs)) l.initial.modes
