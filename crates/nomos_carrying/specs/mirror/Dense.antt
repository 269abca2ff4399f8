-- How the code makes numbers dense. Private clauses alone cite it.
use Rattle.std.specs.Prelude.{◌≡◌, ◌≤◌, ◌+◌, ◌^◌, ℕ, List, length, map, nat_lt}
use Rattle.std.specs.List.{filter}
use Rattle.std.specs.List.Sorted.{IsStrictlySortedBy}
use Rattle.std.specs.Ordering.{nat_cmp}
use Rattle.nomos_contents.specs.declared.data.StateData.{StateData}
use Rattle.nomos_machine.specs.Objects.{object_number}

-- the numbers of objects, and names
pub record NumberLists : Type 0 where
  pub objects : List ℕ
  pub names : List ℕ

-- They stand in ascending order, and are at most 2^31.
pub record AreDistinct (numbers : List ℕ) : Type 0 where
  pub sorted : IsStrictlySortedBy nat_cmp numbers
  pub few : length numbers ≤ 2 ^ 31

-- there are at most 2^31 objects and as many names
pub record AreFew (d : StateData) : Type 0 where
  pub objects : length d.objects ≤ 2 ^ 31
  pub names : length d.types ≤ 2 ^ 31

-- the place of a number, from 1 on: one more than there are smaller ones
abbrev pub place_in : List ℕ → ℕ → ℕ
place_in numbers n = length (filter (λ k. nat_lt k n) numbers) + 1

-- they are the numbers of the objects of these data, and their names
pub record AreNumbersOf (d : StateData) (n : NumberLists) : Type 0 where
  pub objects_are : n.objects ≡ map object_number d.objects
  pub names_are : n.names ≡ map (λ t. t.0) d.types
