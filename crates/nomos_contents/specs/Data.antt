-- States as plain data.
use Rattle.std.specs.Prelude.{◌<◌, ◌^◌, [], map, length, All}
use Rattle.std.specs.Ordering.{nat_cmp}
use Rattle.std.specs.List.Sorted.{IsStrictlySortedBy}
use Rattle.nomos_contents.specs.declared.data.StateData.{StateData}
use Rattle.nomos_machine.specs.Objects.{object_number}
use Rattle.nomos_machine.specs.State.{State}
use Rattle.nomos_machine.specs.TypedState.{HasVariables}

-- the state of these data
abbrev pub state_of : StateData → State
state_of d = record {
  objects = d.objects;
  next_object = d.next_object;
  next_name = d.next_name;
  types = d.types;
  balances = d.balances;
  spent = d.spent;
  results = [];
  outside = [];
}

-- Objects and names stand in order of number, each number once and below the next one, and so do a process's variables;
-- numbers of accounts fit 32 bits. Both next numbers may be 0, and so may the number of a name or an object.
pub record IsOrdered (d : StateData) : Type 0 where
  pub objects : IsStrictlySortedBy nat_cmp (map object_number d.objects)
  pub below : All (λ o. object_number o < d.next_object) d.objects
  pub table : IsStrictlySortedBy nat_cmp (map (λ t. t.0) d.types)
  pub names : All (λ t. t.0 < d.next_name) d.types
  pub variables : All HasVariables d.objects
  pub few : length d.balances < 2 ^ 32
