-- What becomes of tallies where objects do something else with names.
use Rattle.std.specs.Prelude.{◌≡◌, true, ℕ, List}
use Rattle.nomos_slots.specs.Numbers.{numbers}
use Rattle.nomos_state.specs.Suspecting.{KeepsSuspects}
use Rattle.nomos_state.specs.Tallying.{Shifts}
use Rattle.nomos_state.specs.declared.tallies.Tallies.{Tallies}
use Rattle.nomos_state.specs.declared.tally.NameUse.{NameUse}

-- Tallies stand under the same names and say so much less and so much more than before, if they are still exact; and no
-- suspect is forgotten.
pub record Moves (before after : Tallies) (less more : NameUse → List ℕ) : Type 0 where
  pub order : numbers after.names.now ≡ numbers before.names.now
  pub exact : after.exact ≡ true → before.exact ≡ true
  pub counts : after.exact ≡ true → Shifts before.names.now after.names.now less more
  pub suspects : after.exact ≡ true
      → KeepsSuspects before.names.now after.names.now before.suspects after.suspects
  pub marked : after.names.marked ≡ before.names.marked
