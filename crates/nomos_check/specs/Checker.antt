-- What the checks of all processes of a program have in common.
use Rattle.std.specs.Prelude.{◌≡◌}
use Rattle.nomos_ir.specs.declared.lists.ProgramLists.{ProgramLists}
use Rattle.nomos_ir.specs.Amounts.{star_count}
use Rattle.nomos_types.specs.ModeTable.{AreModesOf}
use Rattle.nomos_check.specs.declared.checker.Checker.{Checker}

-- the modes are those of the program's types, and it has so many stars
pub record IsCheckerOf (lists : ProgramLists) (checker : Checker) : Type 0 where
  pub modes : AreModesOf lists checker.modes
  pub stars : checker.stars ≡ star_count lists
