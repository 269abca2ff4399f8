-- What an indexed state with tallies is seen as, and what tallies say of it.
use Rattle.std.specs.Prelude.{◌≡◌, ◌<◌, ◌+◌, ℕ, Bool, true, false, List, [], All, Option, Some, None, IsSome}
use Rattle.nomos_machine.specs.State.{NameTypes, State, type_of}
use Rattle.nomos_slots.specs.Numbers.{IsAscending, numbers}
use Rattle.nomos_slots.specs.declared.numbered.Slot.{Slot}
use Rattle.nomos_state.specs.Suspecting.{IsSuspectIfIdle, Suspicion}
use Rattle.nomos_state.specs.Tallying.{AreRightIf}
use Rattle.nomos_state.specs.declared.tallies.Tallies.{Tallies}
use Rattle.nomos_state.specs.declared.tally.Tally.{Tally}
use Rattle.nomos_state.specs.Indexed.{Indexed}
use Rattle.nomos_state.specs.declared.tallied.Tallied.TheInside.{Inside}

-- Where tallies are exact, and no suspects are lost, each name that has a type and with which nothing is done is one.
abbrev pub AreSuspected : Bool → Suspicion → List (Slot Tally) → NameTypes → Type 0
AreSuspected exact suspects tallies types = exact ≡ true → suspects.lost ≡ false
    → (name : ℕ) → IsSome (type_of types name) → IsSuspectIfIdle tallies suspects name

-- Tallies stand under names that are drawn, or are drawn next, in order, and are right where they are said to be exact.
pub record SayRight (exact : Bool) (suspects : Suspicion) (tallies : List (Slot Tally)) (s : State) : Type 0 where
  pub order : IsAscending tallies
  pub below : All (λ n. n < s.next_name + 1) (numbers tallies)
  pub right : AreRightIf exact tallies s.objects
  pub suspected : AreSuspected exact suspects tallies s.types

abbrev pub AreTalliesOf : Tallies → State → Type 0
AreTalliesOf t s = SayRight t.exact t.suspects t.names.now s

-- no suspects, and whether some are lost
abbrev pub no_suspects : Bool → Suspicion
no_suspects lost = record { names = []; lost = lost }

-- the same of what is marked, where there are no suspects; and both are marked, or none is
abbrev pub AreTalliesOfMarked : Bool → Bool → Option (List (Slot Tally)) → Option State → Type 0
AreTalliesOfMarked exact lost None None = Unit {0}
AreTalliesOfMarked exact lost (Some tallies) (Some s) = SayRight exact (no_suspects lost) tallies s
AreTalliesOfMarked exact lost _ _ = ⊥

abbrev pub indexed_in : Inside → Indexed
indexed_in t = t.inside

-- what holds of an indexed state and its tallies
pub record IsTallied (t : Inside) : Type 0 where
  pub now : AreTalliesOf t.tallies t.inside.state
  pub marked : AreTalliesOfMarked t.was_exact t.was_lost t.tallies.names.marked t.inside.marked
