use Rattle.std.proofs.Common.{◌≡◌, map, take}
use Rattle.nomos_simplex.specs.mirror.Classes.{line_of_class}
use Rattle.nomos_simplex.proofs.solving.first_lines.Given as goal

abbrev pub invariant-loop-i : goal.invariant-loop-i
invariant-loop-i l = l.lines.items ≡ map (line_of_class l.rows) (take l.i l.classes)
