use Rattle.std.proofs.Common.{◌≡◌, map, take}
use Rattle.nomos_types.specs.mirror.ModeSetting.{with_modes}
use Rattle.nomos_types.proofs.mode_table.set_offers.Given as goal

-- the declarations so far
abbrev pub invariant-loop-d : goal.invariant-loop-d
invariant-loop-d l =
    l.modes ≡ with_modes (map (λ d. (d.offers, d.mode)) (take l.d-index l.lists.procs)) l.initial.modes
