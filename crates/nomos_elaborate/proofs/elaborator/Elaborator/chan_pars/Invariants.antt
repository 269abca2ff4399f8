use Rattle.std.proofs.Common.{◌≡◌, ◌+◌, ◌≤◌, map, take, drop}
use Rattle.nomos_elaborate.specs.mirror.Checked.{found}
use Rattle.nomos_elaborate.specs.mirror.FileCheck.{check_chan_par}
use Rattle.nomos_elaborate.specs.mirror.Each.{each}
use Rattle.nomos_surface.specs.FileView.{chan_par_tree}
use Rattle.nomos_elaborate.specs.mirror.Entries.{all_entries, most_of}
use Rattle.nomos_surface.specs.TreeBounds.{KeepsChanPar}
use Rattle.nomos_surface.specs.Counts.{in_chan_par, in_each}
use Rattle.nomos_surface.specs.Grammatical.{Each}
use Rattle.nomos_elaborate.proofs.elaborator.Elaborator.chan_pars.Given as goal

-- the parameters so far gave what is there so far, and those that are left have room
abbrev pub invariant-loop-par : goal.invariant-loop-par
invariant-loop-par l = record {
  gave : each (λ w p. check_chan_par w (chan_par_tree p)) l.fn.self (take l.par-index l.pars)
      ≡ found (l.self, l.channels.items);
  keeps : Each KeepsChanPar (map chan_par_tree (drop l.par-index l.pars));
  room :
      all_entries l.self + most_of (in_each in_chan_par (map chan_par_tree (drop l.par-index l.pars)))
      ≤ all_entries l.fn.self + most_of (in_each in_chan_par (map chan_par_tree l.pars));
}
