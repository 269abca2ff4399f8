-- A mirror of the code: amounts such as a program has.
use Rattle.std.specs.Prelude.{◌≤◌}
use Rattle.nomos_ir.specs.declared.amount.Amount.{Amount}
use Rattle.nomos_ir.specs.declared.lists.ProgramLists.{ProgramLists}
use Rattle.nomos_ir.specs.Amounts.{IsAmount, star_of, star_count}

-- an amount such as a program has, with a star that occurs in it
pub record IsAmountOf (lists : ProgramLists) (r : Amount) : Type 0 where
  pub small : IsAmount r
  pub star : star_of r ≤ star_count lists
