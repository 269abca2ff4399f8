use Rattle.std.proofs.Common.{◌≡◌, map, take}
use Rattle.std.specs.List.{flat_map}
use Rattle.nomos_types.specs.Modes.{parameter_mode}
use Rattle.nomos_types.specs.mirror.ModeSetting.{with_modes}
use Rattle.nomos_types.proofs.mode_table.set_parameters.Given as goal

-- the declarations so far
abbrev pub invariant-loop-d : goal.invariant-loop-d
invariant-loop-d l =
    l.modes ≡ with_modes (flat_map (λ d. map (λ par. (par.1, parameter_mode l.program par.1)) d.channels)
    (take l.d-index l.program.procs)) l.initial.modes
