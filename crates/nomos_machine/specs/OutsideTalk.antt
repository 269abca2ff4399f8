-- What an outside party comes to: whatever it says and hears, and whatever is fired meanwhile, in any order.
use Rattle.std.specs.Prelude.{◌≡◌, ◌<◌, ◌≤◌, ◌||◌, ℕ, Bool, true, false, [], length, Some}
use Rattle.nomos_types.specs.Acceptance.{Acceptance}
use Rattle.nomos_machine.specs.Hearing.{Hears}
use Rattle.nomos_machine.specs.Saying.{Says}
use Rattle.nomos_machine.specs.State.{State}
use Rattle.nomos_machine.specs.Step.{step}
use Rattle.nomos_machine.specs.TypedState.{IsTyped}
use Rattle.nomos_machine.specs.declared.object.Heard.{Heard}
use Rattle.nomos_machine.specs.declared.object.Heard.TheVariants as heard
use Rattle.nomos_machine.specs.declared.object.Said.{Said}

-- what is kept along it: the state is typed, one name at most is outside, and the party's account is one
pub record HasOutsideParty (a : Acceptance) (s : State) (account : ℕ) : Type 0 where
  pub typed : IsTyped a s
  pub few : length s.outside ≤ 1
  pub its_account : account < length s.balances

-- it is the end of the talk
abbrev pub is_closed : Heard → Bool
is_closed heard.Closed = true
is_closed _ = false

-- The one state comes to be the other by what is said, what is heard and what is fired, in any order; and whether the
-- end of the talk was heard on the way.
pub data TalksTo (a : Acceptance) (account : ℕ) : Bool → State → State → Type 0 where
  done : (s : State) → TalksTo a account false s s
  says : (closed : Bool) (s t u : State) (what : Said) → Says a s account what t → TalksTo a account closed t u
      → TalksTo a account closed s u
  hears : (closed : Bool) (s t u : State) (what : Heard) → Hears s account what t → TalksTo a account closed t u
      → TalksTo a account (is_closed what || closed) s u
  fires : (closed : Bool) (s t u : State) (pid : ℕ) → step a s pid ≡ Some t → TalksTo a account closed t u
      → TalksTo a account closed s u

-- Where the end of the talk was heard nobody is outside; elsewhere as many names are outside as were.
abbrev pub IsOutsideBy : Bool → State → State → Type 0
IsOutsideBy true s t = t.outside ≡ []
IsOutsideBy false s t = length t.outside ≡ length s.outside
