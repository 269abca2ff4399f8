use Rattle.std.proofs.Common.{◌≡◌, map}
use Rattle.std.specs.List.{range_with_len}
use Rattle.nomos_simplex.specs.mirror.Classes.{class_of_star}
use Rattle.nomos_simplex.proofs.classes.classes_of_stars.Given as goal

abbrev pub invariant-loop-before : goal.invariant-loop-before
invariant-loop-before l = l.classes.items ≡ map class_of_star (range_with_len 1 l.before)
