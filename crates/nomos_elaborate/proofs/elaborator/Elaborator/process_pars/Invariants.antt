use Rattle.std.proofs.Common.{◌≡◌, ◌+◌, ◌≤◌, take, drop}
use Rattle.nomos_elaborate.specs.mirror.Checked.{found}
use Rattle.nomos_elaborate.specs.mirror.FileCheck.{check_process_par}
use Rattle.nomos_elaborate.specs.mirror.Each.{each}
use Rattle.nomos_elaborate.specs.mirror.Entries.{all_entries, most_of}
use Rattle.nomos_surface.specs.TreeBounds.{KeepsPar}
use Rattle.nomos_surface.specs.Counts.{in_each, in_par}
use Rattle.nomos_surface.specs.Grammatical.{Each}
use Rattle.nomos_elaborate.proofs.elaborator.Elaborator.process_pars.Given as goal

-- the parameters so far gave what is there so far, and those that are left have room
abbrev pub invariant-loop-par : goal.invariant-loop-par
invariant-loop-par l = record {
  gave : each check_process_par l.fn.self (take l.par-index l.pars) ≡ found (l.self, l.values.items);
  keeps : Each KeepsPar (drop l.par-index l.pars);
  room :
      all_entries l.self + most_of (in_each in_par (drop l.par-index l.pars))
      ≤ all_entries l.fn.self + most_of (in_each in_par l.pars);
}
