-- A mirror of the code: what is chosen of a batch under way, and what one look at it comes to. No promise stands on it.
use Rattle.std.specs.Prelude.{◌≡◌, ℕ, ◌+◌, ◌<◌, ◌≤◌, Option, Some, None, length}
use Rattle.nomos_types.specs.Acceptance.{Acceptance}
use Rattle.nomos_machine.specs.Step.{IsReady}
use Rattle.nomos_legal.specs.Ending.{IsAllowed}
use Rattle.nomos_legal.specs.StandsFor.{WorldStandsFor}
use Rattle.nomos_legal.specs.World.{WorldState}
use Rattle.nomos_legal.specs.declared.journal.End.{End}
use Rattle.nomos_tale.specs.declared.next_firing.NextStep.{NextStep}
use Rattle.nomos_tale.specs.declared.next_firing.NextStep.TheVariants as choice

-- this end is allowed wherever one more firing is
abbrev pub EndsHere : Acceptance → WorldState → End → Type 0
EndsHere a w e = (limit : ℕ) → length w.firings < limit → IsAllowed a w.state (length w.firings) limit e

-- a process that is ready is chosen, or an end that is allowed
abbrev pub IsChoice : Acceptance → WorldState → NextStep → Type 0
IsChoice a w (choice.Fires pid) = IsReady a w.state pid
IsChoice a w (choice.Ends e) = EndsHere a w e

-- the second world is the first one with one firing more
pub record HasOneMore (before after : WorldState) : Type 0 where
  pub origin : after.origin ≡ before.origin
  pub starts : after.starts ≡ before.starts
  pub count : length after.firings ≡ length before.firings + 1

-- one process has fired, or the batch ends where it is
abbrev pub GoesOnAs : Acceptance → WorldState → Option End → WorldState → Type 0
GoesOnAs a before None after = HasOneMore before after
GoesOnAs a before (Some e) after = (after ≡ before) × EndsHere a before e

-- from the first world so many firings lead to the second
pub record HasFiredOn (a : Acceptance) (made : ℕ) (before after : WorldState) : Type 0 where
  pub stands : WorldStandsFor a after
  pub origin : after.origin ≡ before.origin
  pub starts : after.starts ≡ before.starts
  pub count : length after.firings ≡ made
