-- Batches that may be run, and the worlds to which they come.
use Rattle.std.specs.Prelude.{◌≡◌, ℕ, ◌+◌, ◌<◌, ◌≤◌, ◌^◌, [], length}
use Rattle.nomos_types.specs.Acceptance.{Acceptance}
use Rattle.nomos_legal.specs.StandsFor.{WorldStandsFor}
use Rattle.nomos_legal.specs.World.{WorldState}

-- The world stands for the program, nothing has fired in it, and its next numbers are far enough from the greatest for
-- so many firings.
pub record MayRun (a : Acceptance) (limit : ℕ) (w : WorldState) : Type 0 where
  pub stands : WorldStandsFor a w
  pub fresh : w.firings ≡ []
  pub objects : w.state.next_object + limit < 2 ^ 32
  pub names : w.state.next_name + limit < 2 ^ 32

-- The second world is the first one after at most so many firings. It stands, so that its firings are a run from its
-- start to its state, and it has the same origin and starts.
pub record RunsOn (a : Acceptance) (limit : ℕ) (before after : WorldState) : Type 0 where
  pub stands : WorldStandsFor a after
  pub origin : after.origin ≡ before.origin
  pub starts : after.starts ≡ before.starts
  pub within : length after.firings ≤ limit
