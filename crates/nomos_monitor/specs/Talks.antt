-- Talks of an outside party: a state in which it may have the one outside name, on which no channel is ever sent, and
-- its account.
use Rattle.std.specs.Prelude.{◌≡◌, ◌<◌, ◌≤◌, ◌^◌, ℕ, List, Bool, false, length, Option, Some, None}
use Rattle.nomos_ir.specs.declared.ids.TypeId.{TypeId}
use Rattle.nomos_types.specs.Acceptance.{Acceptance}
use Rattle.nomos_equality.specs.Carriers.{CarriesNothing}
use Rattle.nomos_machine.specs.Opening.{outside_name}
use Rattle.nomos_machine.specs.OutsideTalk.{HasOutsideParty, IsOutsideBy, TalksTo, is_closed}
use Rattle.nomos_machine.specs.Policies.{IsRunOf}
use Rattle.nomos_machine.specs.Run.{IsNextReady, IsQuiet}
use Rattle.nomos_machine.specs.State.{State, type_of, gas_of}
use Rattle.nomos_machine.specs.Step.{fault, step}
use Rattle.nomos_machine.specs.Wrong.{Wrong}
use Rattle.nomos_machine.specs.declared.object.Heard.{Heard}
use Rattle.nomos_machine.specs.declared.policy.Policy.TheVariants as policy
use Rattle.nomos_machine.specs.declared.rest.Rest.{Rest}
use Rattle.nomos_machine.specs.declared.rest.Rest.TheVariants as rest

-- no channel is ever sent on the outside name
abbrev pub SpeaksAlone : Acceptance → State → Type 0
SpeaksAlone a s = (name : ℕ) (own : TypeId) → outside_name s ≡ Some name → type_of s.types name ≡ Some own
    → CarriesNothing a.program own

-- what is kept along a talk
pub record IsTalk (a : Acceptance) (s : State) (account : ℕ) : Type 0 where
  pub party : HasOutsideParty a s account
  pub alone : SpeaksAlone a s
  pub gas : gas_of s < 2 ^ 96

-- a talk as contracts see it: the program under which it was opened, its state, and the party's account
pub record TalkState : Type 0 where
  pub a : Acceptance
  pub state : State
  pub account : ℕ

-- Where what is answered to one who listens is the end of the talk nobody is outside; elsewhere as many names are
-- outside as were.
abbrev pub EndsBy : Option Heard → State → State → Type 0
EndsBy None s t = IsOutsideBy false s t
EndsBy (Some what) s t = IsOutsideBy (is_closed what) s t

-- Firings of the lowest ready process lead from the one state to the other, at most so many.
pub record FiresSome (a : Acceptance) (limit : ℕ) (s t : State) : Type 0 where
  pub pids : List ℕ
  pub run : IsRunOf policy.First a s pids t
  pub few : length pids ≤ limit

-- one firing of the lowest ready process leads from the one state to the other
pub record FiresLowest (a : Acceptance) (s t : State) : Type 0 where
  pub pid : ℕ
  pub chosen : IsNextReady a s 0 pid
  pub steps : step a s pid ≡ Some t

-- no firing is made in the state: no process is ready, or the lowest one that is has a fault
abbrev pub StopsSo : Acceptance → State → Rest → Type 0
StopsSo a s rest.Quiet = IsQuiet a s
StopsSo a s (rest.Faulted pid f) = IsNextReady a s 0 pid × (fault a s pid ≡ Some f)
StopsSo a s rest.Steps = ⊥

-- one look at a state: the lowest ready process fires, or no firing is made, and the state is as it was
abbrev pub LooksOnce : Acceptance → State → Option Rest → State → Type 0
LooksOnce a s None t = FiresLowest a s t
LooksOnce a s (Some how) t = (t ≡ s) × StopsSo a s how

-- What a state is to which a talk has come from another one, whatever was said, heard and fired on the way, in any
-- order. It is a talk that has not gone wrong, with the same gas, and nobody is outside exactly where the end of the
-- talk was heard.
pub record TalkWentOn (a : Acceptance) (account : ℕ) (closed : Bool) (s t : State) : Type 0 where
  pub talk : IsTalk a t account
  pub right : ¬ (Wrong a t)
  pub gas : gas_of t ≡ gas_of s
  pub ends : IsOutsideBy closed s t

-- whatever is said, heard and fired from a state on leads to such a state
abbrev pub GoesWell : Acceptance → ℕ → State → Type 0
GoesWell a account s = (closed : Bool) (t : State) → TalksTo a account closed s t → TalkWentOn a account closed s t
