use Rattle.std.proofs.Common.{◌≡◌, map, take}
use Rattle.nomos_types.specs.Modes.{parameter_mode}
use Rattle.nomos_types.specs.mirror.ModeSetting.{with_modes}
use Rattle.nomos_types.proofs.mode_table.set_channels.Given as goal

-- the parameters so far
abbrev pub invariant-loop-par : goal.invariant-loop-par
invariant-loop-par l =
    l.modes ≡ with_modes (map (λ par. (par.1, parameter_mode l.program par.1)) (take l.par-index l.channels))
    l.initial.modes
