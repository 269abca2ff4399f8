-- Programs that are typed, with the amounts that were found.
use Rattle.std.specs.Prelude.{◌≡◌, ◌<◌, ◌≤◌, ◌^◌, ℕ, List, length, All}
use Rattle.nomos_ir.specs.Amounts.{star_count}
use Rattle.nomos_ir.specs.Program.{IsProgram}
use Rattle.nomos_ir.specs.declared.amount.Amount.{Amount}
use Rattle.nomos_ir.specs.declared.amount.Amount.TheVariants as amount
use Rattle.nomos_ir.specs.declared.lists.ProgramLists.{ProgramLists}
use Rattle.nomos_types.specs.Amount.{Annotations, HasUnit}
use Rattle.nomos_types.specs.Typed.{IsTypedProgram}

-- a program with an amount for each of its stars
pub record Acceptance : Type 0 where
  pub program : ProgramLists
  pub annotations : Annotations

-- the acceptance of a program under these amounts
abbrev pub acceptance : ProgramLists → List ℕ → ℕ → Acceptance
acceptance lists stars unit = record { program = lists; annotations = record { stars = stars; unit = unit } }

-- the amount is written, or its star is one of the program's
abbrev pub IsAmountOf : ProgramLists → Amount → Type 0
IsAmountOf lists (amount.Written units) = Unit {0}
IsAmountOf lists (amount.Star star) = (1 ≤ star) × (star ≤ star_count lists)

-- The program is one, and typed under its amounts, of which there is one for each star; all numbers fit.
pub record IsAccepted (a : Acceptance) : Type 0 where
  pub is_program : IsProgram a.program
  pub some_unit : HasUnit a.annotations
  pub small_unit : a.annotations.unit ≤ 2 ^ 31
  pub each_star : length a.annotations.stars ≡ star_count a.program
  pub small_stars : All (λ q. q < 2 ^ 62) a.annotations.stars
  pub typed : IsTypedProgram a.program a.annotations
