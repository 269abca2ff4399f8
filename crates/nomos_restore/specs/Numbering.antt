-- Numbers under which names and objects come to a state.
use Rattle.std.specs.Prelude.{ℕ, ◌≤◌, ◌<◌, List, map, All}
use Rattle.std.specs.Ordering.{nat_cmp}
use Rattle.std.specs.List.Sorted.{IsStrictlySortedBy}
use Rattle.nomos_machine.specs.State.{State, empty}

-- the state with nothing in it, in which no number is drawn
abbrev pub nothing_drawn : State
nothing_drawn = record empty { next_object = 0; next_name = 0 }

-- These stand in order of number, each number once, from the next one on and below this limit.
pub record AreNext {X : Type 0} (number_of : X → ℕ) (next limit : ℕ) (xs : List X) : Type 0 where
  pub order : IsStrictlySortedBy nat_cmp (map number_of xs)
  pub above : All (λ x. next ≤ number_of x) xs
  pub below : All (λ x. number_of x < limit) xs
