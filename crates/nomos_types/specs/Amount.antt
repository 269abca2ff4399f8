-- What amounts are worth.
use Rattle.std.specs.Prelude.{ℕ, ◌*◌, ◌-◌, ◌≤◌, List, slice_index}
use Rattle.nomos_ir.specs.declared.amount.Amount.{Amount}
use Rattle.nomos_ir.specs.declared.amount.Amount.TheVariants as amount

-- Amounts that were found for the stars, each a count of Dths, where one Dth is one part in `unit` of a
-- unit of gas.
pub record Annotations : Type 0 where
  pub stars : List ℕ
  pub unit : ℕ

-- The amounts are over some unit. Whoever says that there are amounts, or that there are none, asks for this.
abbrev pub HasUnit : Annotations → Type 0
HasUnit x = 1 ≤ x.unit

-- an amount in Dths
abbrev pub dths : Annotations → Amount → ℕ
dths x (amount.Written units) = units * x.unit
dths x (amount.Star star) = slice_index x.stars (star - 1)
