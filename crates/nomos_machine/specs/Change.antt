-- A change of a state, and how it is made.
use Rattle.std.specs.Prelude.{ℕ, ◌==◌, ◌<◌, ◌≤◌, ◌+◌, ◌-◌, Bool, List, [], ◌∷◌, ◌++◌, map, filter, length, Option, Some, None, slice_index, slice_set, if◌then◌else◌}
use Rattle.std.specs.List.{list_any}
use Rattle.std.specs.Option.{option_to_list}
use Rattle.nomos_ir.specs.Value.{Value}
use Rattle.nomos_ir.specs.declared.ids.TypeId.{TypeId}
use Rattle.nomos_machine.specs.Objects.{object_number, mentioned}
use Rattle.nomos_machine.specs.State.{State}
use Rattle.nomos_machine.specs.declared.object.Object.{Object}

-- What a change says. Objects that it does not place stay as they are.
pub record Change : Type 0 where
  -- for each of these numbers, what stands instead of the object that has it: another object, or none
  pub places : List (ℕ × Option Object)
  -- an object that comes last; it has the next number
  pub comes : Option Object
  -- the type of the next name, where that is taken
  pub next_type : Option TypeId
  -- the outside names afterwards
  pub outside : List ℕ
  -- an account and what it gives, an account and what it gets, in Dths
  pub gives : Option (ℕ × ℕ)
  pub gets : Option (ℕ × ℕ)
  -- gas that is spent, in Dths
  pub burnt : ℕ
  -- what is emitted, with the number of the process
  pub emitted : List (ℕ × Value)

-- the objects, where another one stands instead of that of the number, or none
abbrev pub put_at : ℕ → Option Object → List Object → List Object
put_at n new [] = []
put_at n new (o ∷ objects) = if object_number o == n then option_to_list new ++ objects else o ∷ put_at n new objects

-- one after another
abbrev pub put_all : List (ℕ × Option Object) → List Object → List Object
put_all [] objects = objects
put_all (e ∷ places) objects = put_all places (put_at e.0 e.1 objects)

-- an account has so much less, where it has so much
abbrev pub paid_out : Option (ℕ × ℕ) → List ℕ → List ℕ
paid_out (Some e) balances = slice_set balances e.0 (slice_index balances e.0 - e.1)
paid_out None balances = balances

-- an account has so much more
abbrev pub paid_in : Option (ℕ × ℕ) → List ℕ → List ℕ
paid_in (Some e) balances = slice_set balances e.0 (slice_index balances e.0 + e.1)
paid_in None balances = balances

-- the account that gives something is one, and has what it gives
abbrev pub CanGive : Option (ℕ × ℕ) → List ℕ → Type 0
CanGive (Some e) balances = (e.0 < length balances) × (e.1 ≤ slice_index balances e.0)
CanGive None balances = Unit {0}

-- the account that gets something is one
abbrev pub CanGet : Option (ℕ × ℕ) → List ℕ → Type 0
CanGet (Some e) balances = e.0 < length balances
CanGet None balances = Unit {0}

-- the state with the change made, in which names may have a type that nobody mentions any more
abbrev pub made : State → Change → State
made s c = record {
  objects = put_all c.places s.objects ++ option_to_list c.comes;
  next_object = s.next_object + length (option_to_list c.comes);
  next_name = s.next_name + length (option_to_list c.next_type);
  types = s.types ++ map (λ t. (s.next_name, t)) (option_to_list c.next_type);
  balances = paid_in c.gets (paid_out c.gives s.balances);
  spent = s.spent + c.burnt;
  results = s.results ++ c.emitted;
  outside = c.outside;
}

-- whether an object provides the name, uses it or has it as base
abbrev pub is_mentioned : List Object → ℕ → Bool
is_mentioned objects name = list_any (λ o. list_any (λ n. n == name) (mentioned o)) objects

-- a name that no object mentions leaves the table of types
abbrev pub tidied : State → State
tidied s = record s { types = filter (λ t. is_mentioned s.objects t.0) s.types }

-- the state after a change
abbrev pub changed : State → Change → State
changed s c = tidied (made s c)

-- the change by which nothing changes, for others to begin with
abbrev pub no_change : State → Change
no_change s = record {
  places = [];
  comes = None;
  next_type = None;
  outside = s.outside;
  gives = None;
  gets = None;
  burnt = 0;
  emitted = [];
}
